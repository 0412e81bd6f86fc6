-- Which files may be an image. The kind of a file stands in the bits 0o170000 of its mode (inode(7)).
use Rattle.std.specs.Prelude.{ℕ, ◌==◌, bit_and, if◌then◌else◌, Result, Ok, Err}
use Rattle.qs_host.specs.declared.image.FileKind.{FileKind}
use Rattle.qs_host.specs.declared.image.FileKind.TheVariants.{File, BlockDevice, Directory, CharacterDevice, Pipe, Socket, Unknown}
use Rattle.qs_host.specs.declared.start_fault.Unfit.TheVariants.{OfKind}
use Rattle.qs_host.specs.declared.start_fault.StartFault.{StartFault}
use Rattle.qs_host.specs.declared.start_fault.StartFault.TheVariants.{NotOpened}

abbrev pub kind_bits : ℕ → ℕ
kind_bits mode = bit_and mode 0o170000

abbrev pub kind_of_mode : ℕ → FileKind
kind_of_mode mode =
    if kind_bits mode == 0o100000 then File
    else if kind_bits mode == 0o060000 then BlockDevice
    else if kind_bits mode == 0o040000 then Directory
    else if kind_bits mode == 0o020000 then CharacterDevice
    else if kind_bits mode == 0o010000 then Pipe
    else if kind_bits mode == 0o140000 then Socket
    else Unknown

-- a file and a block device tell their length, so they may be an image; nothing else is one
abbrev pub fit : FileKind → Result FileKind StartFault
fit File = Ok File
fit BlockDevice = Ok BlockDevice
fit other = Err (NotOpened (OfKind other))

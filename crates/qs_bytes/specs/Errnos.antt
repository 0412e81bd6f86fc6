-- The numbers of errors on the wire (NBD proto.md, "Error values").
use Rattle.std.specs.Prelude.{ℕ}
use Rattle.qs_bytes.specs.declared.ask.Errno.{Errno}
use Rattle.qs_bytes.specs.declared.ask.Errno.TheVariants.{Perm, Io, NoMem, Inval, NoSpace, Shutdown}

abbrev pub errno_number : Errno → ℕ
errno_number Perm = 1
errno_number Io = 5
errno_number NoMem = 12
errno_number Inval = 22
errno_number NoSpace = 28
errno_number Shutdown = 108

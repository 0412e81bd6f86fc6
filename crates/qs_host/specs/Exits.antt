-- The exit statuses of programs.
use Rattle.std.specs.Prelude.{ℕ, Bool, true, false, if◌then◌else◌, ⊤}
use Rattle.std.specs.IoError.{error_kind}
use Rattle.std.specs.declared.io.Error.{Error}
use Rattle.qs_host.specs.declared.start_fault.Unfit.TheVariants.{System}
use Rattle.std.specs.declared.io.ErrorKind.{ErrorKind}
use Rattle.std.specs.declared.io.ErrorKind.TheVariants.{OutOfMemory}
use Rattle.qs_status.specs.declared.status.SessionEnd.{SessionEnd}
use Rattle.qs_status.specs.declared.status.SessionEnd.TheVariants as end
use Rattle.qs_status.specs.declared.status.Status.{Status}
use Rattle.qs_status.specs.declared.status.Status.TheVariants as status
use Rattle.qs_host.specs.declared.start_fault.StartFault.{StartFault}
use Rattle.qs_host.specs.declared.start_fault.StartFault.TheVariants.{Memory, NotText, NotOpened}

-- the number that a session's end ends the program with
abbrev pub end_exit : SessionEnd → ℕ
end_exit end.Done = 0
end_exit end.Aborted = 0
end_exit end.LinkFault = 4
end_exit end.Memory = 9
end_exit end.Truncated = 10
end_exit (end.BadMagic found) = 11
end_exit (end.BadFlags found) = 12
end_exit (end.NotFixed found) = 13
end_exit (end.TooLong found) = 14
end_exit end.NoExport = 15
end_exit end.Crowded = 15
end_exit end.Shutting = 16

-- the number that a run's end ends the program with
abbrev pub status_exit : Status → ℕ
status_exit status.Done = 0
status_exit status.Usage = 2
status_exit (status.OpenBad bad) = 3
status_exit status.ReadFault = 4
status_exit status.WriteFault = 5
status_exit (status.BadLine n) = 6
status_exit (status.NotNext n) = 7
status_exit status.Spent = 8
status_exit status.Memory = 9
status_exit (status.Ended end) = end_exit end

-- the number where no session began
abbrev pub fault_exit : StartFault → ℕ
fault_exit Memory = 9
fault_exit NotText = 2
fault_exit (NotOpened unfit) = 18

-- the one kind of error that refused memory has
abbrev pub is_out_of_memory : ErrorKind → Bool
is_out_of_memory OutOfMemory = true
is_out_of_memory _ = false

-- refused memory apart from a file that can't be opened
abbrev pub file_fault : Error → StartFault
file_fault error = if is_out_of_memory (error_kind error) then Memory else NotOpened (System error)

-- no file was at fault
abbrev pub IsNoFile : StartFault → Type 0
IsNoFile (NotOpened unfit) = ⊥
IsNoFile other = ⊤

-- refused memory apart from a word that isn't text
abbrev pub word_fault : ErrorKind → StartFault
word_fault kind = if is_out_of_memory kind then Memory else NotText

-- What stands where a listener is to have its socket file.
use Rattle.std.specs.Prelude.{Bool, true, false, Result, Ok, Err, ⊤}
use Rattle.qs_sockets.specs.declared.bind_fault.BindFault.{BindFault}
use Rattle.qs_sockets.specs.declared.bind_fault.BindFault.TheVariants.{NoSocket, InUse}

-- whether a file that is in the way may be removed, by whether it is a socket and whether it refused a client: only the
-- socket of a server that is gone
abbrev pub removal : Bool → Bool → Result ⊤ BindFault
removal false refused = Err NoSocket
removal true false = Err InUse
removal true true = Ok tt

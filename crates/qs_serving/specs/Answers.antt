-- What is sent for a verdict, and what a verdict means for its session.
use Rattle.std.specs.Prelude.{ℕ, Bool, true, false, if◌then◌else◌, List, [], Option, Some, None}
use Rattle.qs_bytes.specs.declared.ask.Ask.{Ask}
use Rattle.qs_bytes.specs.declared.ask.Errno.TheVariants.{Shutdown}
use Rattle.qs_bytes.specs.declared.ask.Verdict.{Verdict}
use Rattle.qs_bytes.specs.declared.ask.Verdict.TheVariants.{Got, Fine, Refused, Dropped}
use Rattle.qs_nbd_transmission.specs.Replies.{reply_of}
use Rattle.qs_status.specs.declared.status.SessionEnd.{SessionEnd}
use Rattle.qs_status.specs.declared.status.SessionEnd.TheVariants.{Done, Truncated, BadMagic, BadFlags, TooLong, Shutting, LinkFault, Memory}

-- the reply to a request, and nothing where it was dropped
abbrev pub answer_bytes : Bool → Ask → Verdict → List ℕ
answer_bytes structured ask (Got bytes) = reply_of structured ask (Got bytes)
answer_bytes structured ask Fine = reply_of structured ask Fine
answer_bytes structured ask (Refused errno) = reply_of structured ask (Refused errno)
answer_bytes structured ask Dropped = []

-- after these ends the live requests are abandoned: a count of the link rose, the bytes are at fault, or memory was
-- refused
abbrev pub is_fault : SessionEnd → Bool
is_fault LinkFault = true
is_fault Truncated = true
is_fault (BadMagic found) = true
is_fault (BadFlags flags) = true
is_fault (TooLong size) = true
is_fault Memory = true
is_fault _ = false

-- An export that went away ends the session once that was answered. A fault goes before it, and it goes before Done.
abbrev pub end_after : Verdict → Option SessionEnd → Option SessionEnd
end_after (Refused Shutdown) None = Some Shutting
end_after (Refused Shutdown) (Some Done) = Some Shutting
end_after _ ended = ended

-- want of memory ends the session, unless a fault does
abbrev pub end_for_memory : Option SessionEnd → SessionEnd
end_for_memory None = Memory
end_for_memory (Some end) = if is_fault end then end else Memory

-- The lines that a replay prints.
use Rattle.std.specs.Prelude.{ℕ, true, false, List, [], ◌∷◌, ◌++◌, codes, unwrap_or}
use Rattle.std.specs.Fmt.{decimal}
use Rattle.hex.specs.Hex.{encode_lower}
use Rattle.qs_bytes.specs.Errnos.{errno_number}
use Rattle.qs_bytes.specs.declared.ask.Verdict.{Verdict}
use Rattle.qs_bytes.specs.declared.ask.Verdict.TheVariants.{Got, Fine, Refused, Dropped}
use Rattle.qs_part.specs.declared.event.Note.{Note}
use Rattle.qs_part.specs.declared.event.NoteReply.{NoteReply}
use Rattle.qs_part.specs.declared.event.NoteReply.TheVariants as reply
use Rattle.qs_part.specs.declared.event.OpKind.{OpKind}
use Rattle.qs_part.specs.declared.event.OpKind.TheVariants as op
use Rattle.qs_part.specs.declared.event.StripeNote.{StripeNote}
use Rattle.qs_part.specs.declared.event.StripeNote.TheVariants as stripe
use Rattle.qs_part.specs.declared.event.GraphNote.{GraphNote}
use Rattle.qs_part.specs.declared.event.GraphNote.TheVariants as graph
use Rattle.qs_part.specs.declared.tracker.TrackerReply.{TrackerReply}
use Rattle.qs_part.specs.declared.tracker.TrackerReply.TheVariants as tracker
use Rattle.qs_script.specs.declared.actor.ScriptActor.{ScriptActor}
use Rattle.qs_script.specs.declared.actor.ScriptActor.TheVariants as actor
use Rattle.qs_script.specs.declared.print.SessionNews.{SessionNews}
use Rattle.qs_script.specs.declared.print.SessionNews.TheVariants as news

-- a word and a number
abbrev pub count_line : List ℕ → ℕ → List ℕ
count_line word n = word ++ 32 ∷ decimal n

abbrev pub tracker_words : TrackerReply → List ℕ
tracker_words (tracker.Entered k) = count_line (codes "enter") k
tracker_words tracker.Quiesced = codes "quiesced"
tracker_words tracker.Full = codes "full"
tracker_words (tracker.Listed n) = count_line (codes "listed") n
tracker_words tracker.Strange = codes "strange"
tracker_words tracker.Started = codes "started"
tracker_words (tracker.NotYet n) = count_line (codes "not-yet") n
tracker_words tracker.Ended = codes "ended"
tracker_words tracker.Stopped = codes "stopped"
tracker_words tracker.Already = codes "already"
tracker_words tracker.Empty = codes "drained"
tracker_words (tracker.InFlight k) = count_line (codes "in-flight") k
tracker_words tracker.Resumed = codes "resumed"

-- an answer to a request or a session, or else to a command
abbrev pub graph_words : GraphNote → List ℕ
graph_words (graph.Routed route) = count_line (count_line (codes "route") route.offset) route.size
graph_words graph.Shutting = codes "shutting"
graph_words graph.Detached = codes "detached"
graph_words graph.NotAttached = codes "strange"

-- what was read, by an operation that holds its block or doesn't
abbrev pub filled_word : OpKind → List ℕ
filled_word op.Hold = codes "held"
filled_word _ = codes "loaded"

-- an answer about a block, or to a Sync of the stripe with this number
abbrev pub stripe_words : OpKind → StripeNote → ℕ → List ℕ
stripe_words kind stripe.Filled b = count_line (filled_word kind) b
stripe_words kind stripe.Fault b = codes "fault"
stripe_words kind (stripe.HeldBy k) b = count_line (codes "busy") k
stripe_words kind (stripe.Taken other) b = count_line (codes "taken") other
stripe_words kind stripe.Done b = count_line (codes "stored") b
stripe_words kind stripe.Freed b = count_line (codes "freed") b
stripe_words kind stripe.NotHeld b = codes "strange"
stripe_words kind stripe.Clean b = count_line (codes "clean") b
stripe_words kind stripe.Synced b = count_line (codes "synced") b

-- the words of a step, by its part's answer
abbrev pub reply_words : OpKind → ℕ → NoteReply → List ℕ
reply_words kind b (reply.Tracker answer) = tracker_words answer
reply_words kind b (reply.Graph answer) = graph_words answer
reply_words kind b (reply.Stripe answer) = stripe_words kind answer b

abbrev pub note_words : Note → List ℕ
note_words note = reply_words note.kind (unwrap_or note.at 0) note.reply

abbrev pub actor_text : ScriptActor → List ℕ
actor_text (actor.Session s) = s
actor_text (actor.Request s c) = s ++ 46 ∷ decimal c

-- the line of a step
abbrev pub step_line : ScriptActor → Note → List ℕ
step_line who note = actor_text who ++ 32 ∷ note_words note ++ 10 ∷ []

-- the bytes of a READ
abbrev pub data_text : List ℕ → List ℕ
data_text [] = codes "-"
data_text bytes = encode_lower bytes

-- what became of a request
abbrev pub verdict_words : Verdict → List ℕ
verdict_words (Got bytes) = codes "= 0 " ++ data_text bytes
verdict_words Fine = codes "= 0"
verdict_words (Refused errno) = count_line (codes "=") (errno_number errno)
verdict_words Dropped = codes "dropped"

abbrev pub answer_line : List ℕ → ℕ → Verdict → List ℕ
answer_line s c verdict = s ++ 46 ∷ decimal c ++ 32 ∷ verdict_words verdict ++ 10 ∷ []

-- what became of a session
abbrev pub news_words : SessionNews → List ℕ
news_words (news.Attached size true) = count_line (codes "attached") size ++ codes " rw"
news_words (news.Attached size false) = count_line (codes "attached") size ++ codes " ro"
news_words news.Refused = codes "refused"
news_words news.Crowded = codes "crowded"
news_words news.Left = codes "left"
news_words news.Detached = codes "detached"

abbrev pub session_line : List ℕ → SessionNews → List ℕ
session_line s what = s ++ 32 ∷ news_words what ++ 10 ∷ []

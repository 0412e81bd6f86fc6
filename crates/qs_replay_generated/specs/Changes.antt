-- What a line makes of the requests that are live.
use Rattle.std.specs.Prelude.{ℕ, not, ◌==◌, Bool, List, [], ◌∷◌, ◌++◌, filter}
use Rattle.qs_script.specs.declared.actor.ScriptActor.{ScriptActor}
use Rattle.qs_script.specs.declared.actor.ScriptActor.TheVariants as who
use Rattle.qs_script.specs.declared.line.Line.{Line}
use Rattle.qs_script.specs.declared.line.Line.TheVariants as line
use Rattle.qs_generate.specs.declared.live.LiveRequest.{LiveRequest}
use Rattle.qs_replay_generated.specs.declared.change.Change.{Change}
use Rattle.qs_replay_generated.specs.declared.change.Change.TheVariants as change

abbrev pub live_request : List ℕ → ℕ → LiveRequest
live_request s c = record { session = s; cookie = c }

-- a step of a request drives it
abbrev pub driven : ScriptActor → Change
driven (who.Session s) = change.Stays
driven (who.Request s c) = change.Drives c

-- a line makes a request, drives one, or does neither
abbrev pub change_by : Line → Change
change_by (line.Read s c offset long) = change.Asks (live_request s c)
change_by (line.Write s c offset bytes fua) = change.Asks (live_request s c)
change_by (line.Zero s c offset long fua) = change.Asks (live_request s c)
change_by (line.Trim s c offset long) = change.Asks (live_request s c)
change_by (line.Flush s c) = change.Asks (live_request s c)
change_by (line.Step actor now) = driven actor
change_by (line.Run actor now) = driven actor
change_by other = change.Stays

-- the requests but the one of this cookie
abbrev pub live_without : List LiveRequest → ℕ → List LiveRequest
live_without live cookie = filter (λ r. not (r.cookie == cookie)) live

-- The live requests behind a line, by its answers: one that is made is the last, and one that was answered isn't live.
abbrev pub lives_after : List LiveRequest → Change → List Bool → List LiveRequest
lives_after live (change.Asks r) answers = live ++ r ∷ []
lives_after live (change.Drives cookie) (error ∷ answers) = live_without live cookie
lives_after live (change.Drives cookie) [] = live
lives_after live change.Stays answers = live

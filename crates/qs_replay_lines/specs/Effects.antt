-- What a line of a script does: the events that it makes, what it prints, and the names after it.
use Rattle.std.specs.Prelude.{◌≡◌, ℕ, ◌<◌, ◌≤◌, ◌⊎◌, Bool, true, false, List, [], ◌∷◌, ◌++◌, length, replicate, All, Option, Some, None, Result, Ok, Err}
use Rattle.std.specs.FinMap as map
use Rattle.qs_bytes.specs.Payloads.{max_payload}
use Rattle.qs_bytes.specs.declared.ask.Ask.{Ask}
use Rattle.qs_bytes.specs.declared.ask.Kind.TheVariants as kind
use Rattle.qs_bytes.specs.declared.ask.Verdict.{Verdict}
use Rattle.qs_outside.specs.Blocks.{Seen}
use Rattle.qs_part.specs.declared.event.Actor.{Actor}
use Rattle.qs_part.specs.declared.event.Actor.TheVariants.{Session as ASession, Request as ARequest}
use Rattle.qs_part.specs.declared.event.Event.{Event}
use Rattle.qs_part.specs.declared.event.Event.TheVariants as event
use Rattle.qs_part.specs.declared.event.Note.{Note}
use Rattle.qs_part.specs.declared.event.Outcome.{Outcome}
use Rattle.qs_part.specs.declared.event.Outcome.TheVariants as outcome
use Rattle.qs_script.specs.declared.actor.ScriptActor.{ScriptActor}
use Rattle.qs_script.specs.declared.actor.ScriptActor.TheVariants as who
use Rattle.qs_script.specs.declared.line.Line.{Line}
use Rattle.qs_script.specs.declared.line.Line.TheVariants as line
use Rattle.qs_script.specs.declared.print.SessionNews.{SessionNews}
use Rattle.qs_script.specs.declared.print.SessionNews.TheVariants as news
use Rattle.qs_script.specs.Prints.{answer_line, session_line, step_line}
use Rattle.qs_world.specs.Events.{IsNotNext}
use Rattle.qs_world.specs.Values.{WorldValue}
use Rattle.qs_replay_lines.specs.declared.stop.Stop.{Stop}
use Rattle.qs_replay_lines.specs.declared.stop.Stop.TheVariants as stop
use Rattle.qs_replay_lines.specs.declared.desk.Desk.{Desk}
use Rattle.qs_outside.specs.declared.crash.CrashChoice.{CrashChoice}
use Rattle.qs_part.specs.declared.graph.GraphOp.{GraphOp}
use Rattle.qs_calls.specs.Calls.{Call, Happened, Rigged, PowerFailed, ExportMade, Plays}
use Rattle.qs_calls.specs.Goings.{GoesOn, RunsOut}
use Rattle.qs_replay_lines.specs.Numbers.{Tells}
use Rattle.qs_replay_lines.specs.Tables.{GivesName, IsKnown, IsUsed, Names, adds, names_settled}
use Rattle.qs_replay_lines.specs.declared.told.LineTold.{LineTold}

abbrev pub read_ask : ℕ → ℕ → ℕ → Ask
read_ask cookie offset length = record {
  kind = kind.Read;
  fua = false;
  flags_fit = true;
  cookie = cookie;
  offset = offset;
  length = length;
}

abbrev pub write_ask : ℕ → ℕ → List ℕ → Bool → Ask
write_ask cookie offset bytes fua = record {
  kind = kind.Write;
  fua = fua;
  flags_fit = true;
  cookie = cookie;
  offset = offset;
  length = length bytes;
}

abbrev pub zero_ask : ℕ → ℕ → ℕ → Bool → Ask
zero_ask cookie offset length fua = record {
  kind = kind.Zero;
  fua = fua;
  flags_fit = true;
  cookie = cookie;
  offset = offset;
  length = length;
}

abbrev pub trim_ask : ℕ → ℕ → ℕ → Ask
trim_ask cookie offset length = record {
  kind = kind.Trim;
  fua = false;
  flags_fit = true;
  cookie = cookie;
  offset = offset;
  length = length;
}

-- a FLUSH names no places
abbrev pub flush_ask : ℕ → Ask
flush_ask cookie = record { kind = kind.Flush; fua = false; flags_fit = true; cookie = cookie; offset = 0; length = 0 }

-- the actor that a script names; a request is one that isn't answered yet
abbrev pub IsActor : Names → ScriptActor → Actor → Names → Type 0
IsActor t (who.Session s) actor t' = (n : ℕ) × (GivesName t s n t' × (actor ≡ ASession n))
IsActor t (who.Request s c) actor t' =
    (n : ℕ) × (r : ℕ) × (GivesName t s n t' × (map.get t'.live (n, c) ≡ Some r) × (actor ≡ ARequest r))

-- what a request that a script names is kept under
abbrev pub IsKey : Names → ScriptActor → Option (ℕ × ℕ) → Type 0
IsKey t (who.Session s) key = key ≡ None
IsKey t (who.Request s c) key = (n : ℕ) × (IsKnown t.sessions s n × (key ≡ Some (n, c)))

-- A READ's buffer has its length. There is none where it is too long to be served, or memory was refused.
abbrev pub IsRoom : Option (List ℕ) → ℕ → Type 0
IsRoom None n = 0 < n
IsRoom (Some bytes) n = (bytes ≡ replicate n 0) × (n ≤ max_payload)

-- a WRITE's bytes, or none where memory was refused for them, so that they were lost
abbrev pub bytes_or : Bool → List ℕ → Option (List ℕ)
bytes_or true (b ∷ bytes) = None
bytes_or lost bytes = Some bytes

-- the session of this name asks so, with this body
abbrev pub AskedBy : Names → List ℕ → Ask → Option (List ℕ) → Event → Names → Type 0
AskedBy t s ask body made t' = (n : ℕ) × (GivesName t s n t' × (made ≡ event.Ask n ask body))

-- The event that a line makes. A WRITE_ZEROES, a TRIM and a FLUSH bring no body.
abbrev pub IsEventOf : Names → Line → Bool → Event → Names → Type 0
IsEventOf t (line.Session s e) lost made t' = (n : ℕ) × (GivesName t s n t' × (made ≡ event.Attach n e))
IsEventOf t (line.End s) lost made t' = (n : ℕ) × (GivesName t s n t' × (made ≡ event.Leave n))
IsEventOf t (line.Read s c offset long) lost made t' =
    (n : ℕ) × (body : Option (List ℕ)) × (GivesName t s n t' × IsRoom body long
    × (made ≡ event.Ask n (read_ask c offset long) body))
IsEventOf t (line.Write s c offset bytes fua) lost made t' = AskedBy t s (write_ask c offset bytes fua)
    (bytes_or lost bytes) made t'
IsEventOf t (line.Zero s c offset long fua) lost made t' = AskedBy t s (zero_ask c offset long fua) None made t'
IsEventOf t (line.Trim s c offset long) lost made t' = AskedBy t s (trim_ask c offset long) None made t'
IsEventOf t (line.Flush s c) lost made t' = AskedBy t s (flush_ask c) None made t'
IsEventOf t (line.Step actor now) lost made t' = (a : Actor) × (IsActor t actor a t' × (made ≡ event.Step a now))
IsEventOf t (line.Run actor now) lost made t' = (a : Actor) × (IsActor t actor a t' × (made ≡ event.Step a now))
IsEventOf t line.Nothing lost made t' = ⊥
IsEventOf t (line.Fail j fail) lost made t' = ⊥
IsEventOf t (line.Crash choice) lost made t' = ⊥

-- what became of a session
abbrev pub news_of : Outcome → SessionNews
news_of (outcome.Attached info) = news.Attached info.size info.writable
news_of outcome.NoExport = news.Refused
news_of outcome.Crowded = news.Crowded
news_of other = news.Left

abbrev pub answer_text : ScriptActor → Verdict → List ℕ
answer_text (who.Session s) verdict = []
answer_text (who.Request s c) verdict = answer_line s c verdict

-- the line of the operation that answered, if there was one
abbrev pub note_text : ScriptActor → Option Note → List ℕ
note_text actor None = []
note_text actor (Some note) = step_line actor note

-- a step prints its line, and the answer's if it answers
abbrev pub step_text : ScriptActor → Outcome → List ℕ
step_text actor (outcome.Moved note) = step_line actor note
step_text actor (outcome.Answered verdict note) = note_text actor note ++ answer_text actor verdict
step_text actor other = []

-- a run prints the answer's line, or the last step's
abbrev pub run_text : ScriptActor → Outcome → List ℕ
run_text actor (outcome.Moved note) = step_line actor note
run_text actor (outcome.Answered verdict _) = answer_text actor verdict
run_text actor other = []

-- what a line prints, by the outcome of its last event
abbrev pub line_text_of : Line → Outcome → List ℕ
line_text_of (line.Session s e) o = session_line s (news_of o)
line_text_of (line.End s) o = session_line s news.Left
line_text_of (line.Step actor now) o = step_text actor o
line_text_of (line.Run actor now) o = run_text actor o
line_text_of other o = []

-- A request that was made is noted by its cookie, which wasn't used before with this session's name.
abbrev pub Adds : Event → Outcome → Names → Names → Type 0
Adds (event.Ask n ask body) (outcome.Made r) t t' = (IsUsed t n ask.cookie → ⊥) × (t' ≡ adds t n ask.cookie r)
Adds (event.Ask n ask body) other t t' = ⊥
Adds made other t t' = t' ≡ t

-- A request that was answered isn't kept.
abbrev pub Settles : ScriptActor → Outcome → Names → Names → Type 0
Settles actor o t t' = (key : Option (ℕ × ℕ)) × (IsKey t actor key × (t' ≡ names_settled t key o))

-- the names behind the last event of a line
abbrev pub Notes : Line → Event → Outcome → Names → Names → Type 0
Notes (line.Step actor now) made o t t' = Settles actor o t t'
Notes (line.Run actor now) made o t t' = Settles actor o t t'
Notes other made o t t' = Adds made o t t'

-- one event with this outcome, or for a `run` all of a run with this last one
abbrev pub CallsOf : Line → Event → Outcome → List Call → Type 0
CallsOf (line.Run actor now) made o calls = RunsOut made calls o
CallsOf other made o calls = calls ≡ Happened made o ∷ []

-- what a line with events does
pub record Acts (t : Names) (l : Line) (lost : Bool) (calls : List Call) (text : List ℕ) (t' : Names) : Type 0 where
  pub made : Event
  pub mid : Names
  pub outcome : Outcome
  pub event_is : IsEventOf t l lost made mid
  pub calls_are : CallsOf l made outcome calls
  pub notes : Notes l made outcome mid t'
  pub text_is : text ≡ line_text_of l outcome

-- nothing happens but these calls, and nothing is printed
pub record Rests (t : Names) (given calls : List Call) (text : List ℕ) (t' : Names) : Type 0 where
  pub calls_are : calls ≡ given
  pub text_is : text ≡ []
  pub same : t' ≡ t

-- the power failed, which left these blocks, and the export was made anew; nothing is printed, and the names stay
pub record Crashes (t : Names) (choice : CrashChoice) (calls : List Call) (text : List ℕ) (t' : Names) : Type 0 where
  pub left : ℕ → List ℕ
  pub op : GraphOp
  pub place : ℕ
  pub rests : Rests t (PowerFailed choice left ∷ ExportMade op place ∷ []) calls text t'

-- what a line does: one that says nothing does nothing, one that plans a failure plans it, one that crashes makes the
-- export anew, and the others make events
abbrev pub DoesLine : Names → Line → Bool → List Call → List ℕ → Names → Type 0
DoesLine t line.Nothing lost calls text t' = Rests t [] calls text t'
DoesLine t (line.Fail j fail) lost calls text t' = Rests t (Rigged j fail ∷ []) calls text t'
DoesLine t (line.Crash choice) lost calls text t' = Crashes t choice calls text t'
DoesLine t other lost calls text t' = Acts t other lost calls text t'

-- a whole line was done: its calls, and what it prints
pub record IsPlayed {D : Type 0} (seen : D → Seen) (w : WorldValue D) (t : Names) (l : Line) (lost : Bool)
    (calls : List Call) (text : List ℕ)
    (w' : WorldValue D) (t' : Names) : Type 0 where
  pub plays : Plays seen w calls w'
  pub does : DoesLine t l lost calls text t'

-- at a desk, and told in numbers
pub record Played {D : Type 0} (seen : D → Seen) (old : Desk D) (l : Line) (lost : Bool) (told : LineTold)
    (new : Desk D) : Type 0 where
  pub calls : List Call
  pub text : List ℕ
  pub is : IsPlayed seen old.world old.table l lost calls text new.world new.table
  pub printed : new.out ≡ old.out ++ text
  pub tells : Tells calls told

-- the cookie was used with the name of a session
abbrev pub WasUsed : Names → List ℕ → ℕ → Type 0
WasUsed t s c = (n : ℕ) × (t' : Names) × (GivesName t s n t' × IsUsed t' n c)

-- the line uses a cookie that was used with the name of its session
abbrev pub UsesAgain : Names → Line → Type 0
UsesAgain t (line.Read s c offset long) = WasUsed t s c
UsesAgain t (line.Write s c offset bytes fua) = WasUsed t s c
UsesAgain t (line.Zero s c offset long fua) = WasUsed t s c
UsesAgain t (line.Trim s c offset long) = WasUsed t s c
UsesAgain t (line.Flush s c) = WasUsed t s c
UsesAgain t other = ⊥

-- an actor of a script that is no request, or one that was answered
abbrev pub IsNotLive : Names → ScriptActor → Type 0
IsNotLive t (who.Session s) = ⊥
IsNotLive t (who.Request s c) = (n : ℕ) × (t' : Names) × (GivesName t s n t' × (map.get t'.live (n, c) ≡ None))

abbrev pub DrivesNotLive : Names → Line → Type 0
DrivesNotLive t (line.Step actor now) = IsNotLive t actor
DrivesNotLive t (line.Run actor now) = IsNotLive t actor
DrivesNotLive t other = ⊥

-- the line's event can't come
pub record CannotCome {D : Type 0} (w : WorldValue D) (t : Names) (l : Line) : Type 0 where
  pub made : Event
  pub mid : Names
  pub lost : Bool
  pub event_is : IsEventOf t l lost made mid
  pub not_next : IsNotNext w made

-- The calls of an event's line that wasn't done to its end: all of them, or for a `run` also its first ones.
abbrev pub AreFirst : Line → Event → List Call → Type 0
AreFirst (line.Run actor now) made calls = All (GoesOn made) calls ⊎ ((o : Outcome) × RunsOut made calls o)
AreFirst other made calls = (o : Outcome) × (calls ≡ Happened made o ∷ [])

-- a crash, before the export was made anew
abbrev pub IsCrash : Line → List Call → Type 0
IsCrash (line.Crash choice) calls = (left : ℕ → List ℕ) × (calls ≡ PowerFailed choice left ∷ [])
IsCrash other calls = ⊥

-- none, or these
abbrev pub IsCutLine : Names → Line → List Call → Type 0
IsCutLine t l calls = (calls ≡ []) ⊎ ((made : Event) × (mid : Names) × (lost : Bool)
    × (IsEventOf t l lost made mid × AreFirst l made calls)) ⊎ IsCrash l calls

-- Why a line wasn't done, or not to its end: then nothing of it was printed, and but for refused memory nothing
-- happened.
abbrev pub Stopped : {D : Type 0} → (D → Seen) → Desk D → Line → Stop → Desk D → Type 0
Stopped seen old l stop.BadLine new = UsesAgain old.table l × (new.world ≡ old.world) × (new.out ≡ old.out)
Stopped seen old l stop.NotNext new =
    (CannotCome old.world old.table l ⊎ DrivesNotLive old.table l) × (UsesAgain old.table l → ⊥)
    × (new.world ≡ old.world) × (new.out ≡ old.out)
Stopped seen old l stop.Memory new =
    (calls : List Call) × (IsCutLine old.table l calls × Plays seen old.world calls new.world × (new.out ≡ old.out))

abbrev pub PlaysLine : {D : Type 0} → (D → Seen) → Desk D → Line → Bool → Result LineTold Stop → Desk D → Type 0
PlaysLine seen old l lost (Ok told) new = Played seen old l lost told new
PlaysLine seen old l lost (Err s) new = Stopped seen old l s new

-- the line asks so, with this body
abbrev pub IsAsked : Line → Bool → List ℕ → Ask → Option (List ℕ) → Type 0
IsAsked (line.Read s c offset long) lost session ask body = (s ≡ session) × (ask ≡ read_ask c offset long)
    × IsRoom body long
IsAsked (line.Write s c offset bytes fua) lost session ask body = (s ≡ session) × (ask ≡ write_ask c offset bytes fua)
    × (body ≡ bytes_or lost bytes)
IsAsked (line.Zero s c offset long fua) lost session ask body = (s ≡ session) × (ask ≡ zero_ask c offset long fua)
    × (body ≡ None)
IsAsked (line.Trim s c offset long) lost session ask body = (s ≡ session) × (ask ≡ trim_ask c offset long)
    × (body ≡ None)
IsAsked (line.Flush s c) lost session ask body = (s ≡ session) × (ask ≡ flush_ask c) × (body ≡ None)
IsAsked other lost session ask body = ⊥

-- a failure is planned for a stripe that is there
abbrev pub IsPlanned : Line → Type 0
IsPlanned (line.Fail j fail) = j < 8
IsPlanned other = Unit {0}

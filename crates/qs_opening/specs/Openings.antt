-- A whole handshake.
use Rattle.std.specs.Prelude.{◌≡◌, ◌≢◌, ℕ, ◌<◌, ◌⊎◌, Bool, false, List, [], ◌++◌, length, Option, None, Some, Result, Ok, Err}
use Rattle.std.specs.List.{flat_map}
use Rattle.qs_bytes.specs.Numbers.{number32}
use Rattle.qs_status.specs.declared.status.SessionEnd.TheVariants.{BadFlags}
use Rattle.qs_status.specs.declared.status.Status.{Status}
use Rattle.qs_status.specs.declared.status.Status.TheVariants.{Ended, Memory, Spent}
use Rattle.qs_outside.specs.Blocks.{Seen}
use Rattle.qs_nbd_wire.specs.declared.opening.ClientFlags.{ClientFlags}
use Rattle.qs_nbd_wire.specs.Greetings.{flags_of, greeting_bytes}
use Rattle.qs_nbd_handshake.specs.declared.stage.Terms.{Terms}
use Rattle.qs_nbd_handshake.specs.Phases.{Reader, InFlags, InOption, end_at}
use Rattle.qs_nbd_handshake.specs.Sessions.{sent_bytes}
use Rattle.qs_stream.specs.declared.state.State.TheVariants.{Open}
use Rattle.qs_stream.specs.Flows.{Flow, IsUsedUp, Moved}
use Rattle.qs_world.specs.Values.{WorldValue}
use Rattle.qs_opening.specs.declared.turn.Opened.{Opened}
use Rattle.qs_opening.specs.declared.turn.Opened.TheVariants.{Ends}
use Rattle.qs_opening.specs.Options.{AllStay, answers_to, terms_after}
use Rattle.qs_opening.specs.Turns.{Concludes, Fails, status_at}

-- what is agreed on by the client's flags
abbrev pub terms_of : ClientFlags → Terms
terms_of known = record { fixed = known.fixed; mode = record { no_zeroes = known.no_zeroes; structured = false } }

-- all options that may be read were read
pub record Spends {D : Type 0} (budget : ℕ) (options : List (List ℕ)) (old : WorldValue D) (opened : Opened)
    (rest given : List ℕ) (new : WorldValue D) : Type 0 where
  pub opened_is : opened ≡ Ends Spent
  pub all : length options ≡ budget
  pub rest_is : rest ≡ []
  pub given_is : given ≡ []
  pub same : new ≡ old

-- how the options end, behind those that stayed
abbrev pub FinishesOpening : {E D : Type 0} → (D → Seen) → ℕ → Bool → ℕ → List (List ℕ) → Terms → WorldValue D →
    Result Opened E → List ℕ → List ℕ → Flow → WorldValue D → Type 0
FinishesOpening seen session writable budget options terms old (Ok opened) rest given after new =
    Concludes seen session writable terms old opened rest given after new
    ⊎ Spends budget options old opened rest given new
FinishesOpening seen session writable budget options terms old (Err e) rest given after new = Fails terms old rest
    given after new

-- Options were read and answered, one after the other, behind each of which options go on, and then the handshake was
-- over.
pub record Converses {E D : Type 0} (seen : D → Seen) (session : ℕ) (writable : Bool) (budget : ℕ) (terms : Terms)
    (before : Flow) (old : WorldValue D) (result : Result Opened E) (after : Flow)
    (new : WorldValue D) : Type 0 where
  pub options : List (List ℕ)
  pub stay : AllStay old.graph terms options
  pub rest : List ℕ
  pub given : List ℕ
  pub moved : Moved (flat_map sent_bytes options ++ rest) (answers_to old.graph terms options ++ given) before after
  pub finishes : FinishesOpening seen session writable budget options (terms_after terms options) old result rest
      given after new

-- Of the client's flags these bytes came, and the session ended, or the stream failed.
abbrev pub LacksFlags : {E : Type 0} → List ℕ → Result Status E → Flow → Type 0
LacksFlags taken (Ok status) after =
    ((status ≡ status_at (end_at (InFlags taken))) × (length taken < 4) × IsUsedUp after)
    ⊎ ((status ≡ Ended (BadFlags (number32 taken 0))) × (length taken ≡ 4) × (flags_of (number32 taken 0) ≡ None))
LacksFlags taken (Err e) after = (length taken < 4) × (after.stream.state ≢ Open)

-- the client's flags came, or the session ended before, or the stream failed
abbrev pub Flags : {E : Type 0} → List ℕ → Result (Option Status) E → Reader → Flow → Type 0
Flags taken (Ok None) reader after =
    (known : ClientFlags) × ((length taken ≡ 4) × (flags_of (number32 taken 0) ≡ Some known)
    × (reader ≡ record { terms = terms_of known; phase = InOption [] }))
Flags taken (Ok (Some status)) reader after = LacksFlags {E = Unit {0}} taken (Ok status) after
Flags {E} taken (Err e) reader after = LacksFlags {E = E} taken (Err e) after

pub record ReadsFlags {E : Type 0} (before : Flow) (result : Result (Option Status) E) (reader : Reader)
    (after : Flow) : Type 0 where
  pub taken : List ℕ
  pub moved : Moved taken [] before after
  pub flags : Flags taken result reader after

-- the client's flags didn't come whole, or have an unknown bit
abbrev pub Fruitless : {E : Type 0} → List ℕ → Result Opened E → Flow → Type 0
Fruitless taken (Ok opened) after = (status : Status)
    × ((opened ≡ Ends status) × LacksFlags {E = Unit {0}} taken (Ok status) after)
Fruitless {E} taken (Err e) after = LacksFlags {E = E} taken (Err e) after

-- The server greeted, and no flags came.
pub record Greets {E D : Type 0} (before : Flow) (old : WorldValue D) (result : Result Opened E) (after : Flow)
    (new : WorldValue D) : Type 0 where
  pub taken : List ℕ
  pub moved : Moved taken greeting_bytes before after
  pub fruitless : Fruitless taken result after
  pub same : new ≡ old

-- The server greeted, the client's flags came, and then options.
pub record Agrees {E D : Type 0} (seen : D → Seen) (session : ℕ) (writable : Bool) (budget : ℕ) (before : Flow)
    (old : WorldValue D) (result : Result Opened E) (after : Flow) (new : WorldValue D) :
    Type 0 where
  pub flags : List ℕ
  pub known : ClientFlags
  pub four : length flags ≡ 4
  pub read : flags_of (number32 flags 0) ≡ Some known
  pub options : List (List ℕ)
  pub stay : AllStay old.graph (terms_of known) options
  pub rest : List ℕ
  pub given : List ℕ
  pub moved : Moved (flags ++ (flat_map sent_bytes options ++ rest))
      (greeting_bytes ++ (answers_to old.graph (terms_of known) options ++ given)) before after
  pub finishes : FinishesOpening seen session writable budget options (terms_after (terms_of known) options) old
      result rest given after new

-- Memory was refused before anything was read or written.
pub record Forgoes {E D : Type 0} (before : Flow) (old : WorldValue D) (result : Result Opened E) (after : Flow)
    (new : WorldValue D) : Type 0 where
  pub result_is : result ≡ Ok (Ends Memory)
  pub flow : after ≡ before
  pub same : new ≡ old

-- One handshake: the greeting, the client's flags, options and their answers.
abbrev pub OpensSession : {E D : Type 0} → (D → Seen) → ℕ → Bool → ℕ → Flow → WorldValue D → Result Opened E → Flow →
    WorldValue D → Type 0
OpensSession seen session writable budget before old result after new =
    Agrees seen session writable budget before old result after new
    ⊎ (Greets before old result after new ⊎ Forgoes before old result after new)

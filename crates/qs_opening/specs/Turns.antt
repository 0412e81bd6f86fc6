-- One option: it is read, answered, and then options go on, or not.
use Rattle.std.specs.Prelude.{◌≡◌, ◌≢◌, ℕ, ◌<◌, ◌⊎◌, Bool, List, [], length, Option, None, Some, Result, Ok, Err}
use Rattle.qs_bytes.specs.declared.ask.Mode.{Mode}
use Rattle.qs_status.specs.declared.status.SessionEnd.{SessionEnd}
use Rattle.qs_status.specs.declared.status.SessionEnd.TheVariants as end
use Rattle.qs_status.specs.declared.status.Status.{Status}
use Rattle.qs_status.specs.declared.status.Status.TheVariants.{Done, Ended, Memory}
use Rattle.qs_outside.specs.Blocks.{Seen}
use Rattle.qs_nbd_handshake.specs.declared.event.HandStep.{HandStep}
use Rattle.qs_nbd_handshake.specs.declared.event.HandStep.TheVariants.{Stay, Transmit as TransmitStep, Close}
use Rattle.qs_nbd_handshake.specs.declared.stage.Terms.{Terms}
use Rattle.qs_nbd_handshake.specs.declared.wish.Wish.{Wish}
use Rattle.qs_nbd_handshake.specs.Answers.{reader_behind, hand_step_of, text_of}
use Rattle.qs_nbd_handshake.specs.Phases.{Reader, InOption, Asked as AskedPhase, end_at, option_size, wish_in}
use Rattle.qs_nbd_handshake.specs.Sessions.{IsOption, IsRefused}
use Rattle.qs_nbd_handshake.specs.Wishes.{want_of}
use Rattle.qs_stream.specs.Buffers.{Buffers}
use Rattle.qs_stream.specs.declared.state.State.TheVariants.{Open}
use Rattle.qs_stream.specs.Flows.{Flow, IsUsedUp, Moved, Puts, Side}
use Rattle.qs_world.specs.Values.{WorldValue}
use Rattle.qs_opening.specs.declared.turn.Came.{Came}
use Rattle.qs_opening.specs.declared.turn.Came.TheVariants as came
use Rattle.qs_opening.specs.declared.turn.Opened.{Opened}
use Rattle.qs_opening.specs.declared.turn.Opened.TheVariants.{Transmit, Ends}
use Rattle.qs_opening.specs.declared.turn.Negotiation.{Negotiation}
use Rattle.qs_opening.specs.declared.turn.Negotiation.TheVariants as negotiation
use Rattle.qs_opening.specs.Options.{step_for, terms_behind, text_for}
use Rattle.qs_opening.specs.Telling.{WantChanges, graph_told}

-- the status of a session that ended so
abbrev pub status_at : SessionEnd → Status
status_at end.Done = Done
status_at other = Ended other

-- whether options go on behind an answer
abbrev pub turn_at : HandStep → Negotiation
turn_at Stay = negotiation.Stays
turn_at (TransmitStep mode) = negotiation.Over (Transmit mode)
turn_at (Close how) = negotiation.Over (Ends (status_at how))

-- the input ended between options, or within one
pub record IsCut (fixed : Bool) (status : Status) (rest : List ℕ) (after : Flow) : Type 0 where
  pub status_is : status ≡ status_at (end_at (InOption rest))
  pub short : length rest < option_size fixed rest
  pub used_up : IsUsedUp after

-- an option's head was refused
pub record IsBad (fixed : Bool) (status : Status) (rest : List ℕ) : Type 0 where
  pub bad : SessionEnd
  pub status_is : status ≡ Ended bad
  pub refused : IsRefused fixed rest bad

-- a whole option came
pub record IsAsked (terms : Terms) (taken : List ℕ) (new : Reader) : Type 0 where
  pub option : IsOption terms.fixed taken
  pub reader : new ≡ record { terms = terms; phase = AskedPhase (wish_in taken) }

-- an option came, or the session ended before; where the stream failed, less than an option came
abbrev pub Comes : {E : Type 0} → Terms → List ℕ → Result Came E → Reader → Flow → Type 0
Comes terms taken (Ok (came.Asked want)) new after = IsAsked terms taken new × (want ≡ want_of (wish_in taken))
Comes terms taken (Ok (came.Ended status)) new after = IsCut terms.fixed status taken after
    ⊎ IsBad terms.fixed status taken
Comes terms taken (Err e) new after = (length taken < option_size terms.fixed taken) × (after.stream.state ≢ Open)

-- the next option was sought
pub record Asking {E : Type 0} (terms : Terms) (before : Flow) (result : Result Came E) (new : Reader)
    (after : Flow) : Type 0 where
  pub taken : List ℕ
  pub moved : Moved taken [] before after
  pub comes : Comes terms taken result new after

-- An option was answered: by what the core tells, and the answer was put. For want of memory no answer was put, and a
-- session may have been attached before.
abbrev pub AnswersOption : {D : Type 0} → (D → Seen) → ℕ → Bool → Terms → Wish → WorldValue D → Option HandStep →
    Reader → WorldValue D → Side → Buffers → Side → Buffers → Type 0
AnswersOption seen session writable terms w old (Some step) reader new output stream output' stream' =
    (step ≡ hand_step_of terms.mode w (graph_told old.graph (want_of w)))
    × (reader ≡ reader_behind terms w (graph_told old.graph (want_of w)))
    × WantChanges seen session writable old (want_of w) new
    × Puts (text_of terms.mode w (graph_told old.graph (want_of w))) output stream output' stream'
AnswersOption seen session writable terms w old None reader new output stream output' stream' =
    ((new ≡ old) ⊎ WantChanges seen session writable old (want_of w) new) × (stream' ≡ stream) × (output' ≡ output)

-- Requests follow: the last option was answered so, and the session is attached.
pub record Transmits {D : Type 0} (seen : D → Seen) (session : ℕ) (writable : Bool) (terms : Terms)
    (old : WorldValue D) (opened : Opened) (rest given : List ℕ) (new : WorldValue D) : Type 0 where
  pub mode : Mode
  pub opened_is : opened ≡ Transmit mode
  pub option : IsOption terms.fixed rest
  pub step : step_for old.graph terms rest ≡ TransmitStep mode
  pub given_is : given ≡ text_for old.graph terms rest
  pub changes : WantChanges seen session writable old (want_of (wish_in rest)) new

-- The last option was answered, and closed the session.
pub record Closes {D : Type 0} (terms : Terms) (old : WorldValue D) (opened : Opened) (rest given : List ℕ)
    (new : WorldValue D) : Type 0 where
  pub how : SessionEnd
  pub opened_is : opened ≡ Ends (status_at how)
  pub option : IsOption terms.fixed rest
  pub step : step_for old.graph terms rest ≡ Close how
  pub given_is : given ≡ text_for old.graph terms rest
  pub same : new ≡ old

-- Memory was refused for the answer to the last option.
pub record Starves {D : Type 0} (seen : D → Seen) (session : ℕ) (writable : Bool) (terms : Terms) (old : WorldValue D)
    (opened : Opened) (rest given : List ℕ) (new : WorldValue D) : Type 0 where
  pub opened_is : opened ≡ Ends Memory
  pub option : IsOption terms.fixed rest
  pub given_is : given ≡ []
  pub changes : (new ≡ old) ⊎ WantChanges seen session writable old (want_of (wish_in rest)) new

-- No whole option that may be sent came.
pub record Stops {D : Type 0} (terms : Terms) (old : WorldValue D) (opened : Opened) (rest given : List ℕ)
    (after : Flow) (new : WorldValue D) : Type 0 where
  pub status : Status
  pub opened_is : opened ≡ Ends status
  pub given_is : given ≡ []
  pub cause : IsCut terms.fixed status rest after ⊎ IsBad terms.fixed status rest
  pub same : new ≡ old

-- How options end, where these bytes were taken and given behind the last that stayed.
abbrev pub Concludes : {D : Type 0} → (D → Seen) → ℕ → Bool → Terms → WorldValue D → Opened → List ℕ → List ℕ → Flow →
    WorldValue D → Type 0
Concludes seen session writable terms old opened rest given after new =
    Transmits seen session writable terms old opened rest given new
    ⊎ (Closes terms old opened rest given new
    ⊎ (Starves seen session writable terms old opened rest given new
    ⊎ Stops terms old opened rest given after new))

-- The stream failed within an option.
pub record Fails {D : Type 0} (terms : Terms) (old : WorldValue D) (rest given : List ℕ) (after : Flow)
    (new : WorldValue D) : Type 0 where
  pub short : length rest < option_size terms.fixed rest
  pub given_is : given ≡ []
  pub failed : after.stream.state ≢ Open
  pub same : new ≡ old

-- an option was answered, and options go on
pub record GoesOn {D : Type 0} (terms : Terms) (old : WorldValue D) (taken given : List ℕ) (reader : Reader)
    (new : WorldValue D) : Type 0 where
  pub option : IsOption terms.fixed taken
  pub step : step_for old.graph terms taken ≡ Stay
  pub given_is : given ≡ text_for old.graph terms taken
  pub reader_is : reader ≡ record { terms = terms_behind terms taken; phase = InOption [] }
  pub same : new ≡ old

abbrev pub Turns : {E D : Type 0} → (D → Seen) → ℕ → Bool → Terms → WorldValue D → Result Negotiation E → List ℕ →
    List ℕ → Reader → Flow → WorldValue D → Type 0
Turns seen session writable terms old (Ok negotiation.Stays) taken given reader after new = GoesOn terms old taken
    given reader new
Turns seen session writable terms old (Ok (negotiation.Over opened)) taken given reader after new = Concludes seen
    session writable terms old opened taken given after new
Turns seen session writable terms old (Err e) taken given reader after new = Fails terms old taken given after new

-- one option was read and answered, or the session ended before, or the stream failed
pub record TakesTurn {E D : Type 0} (seen : D → Seen) (session : ℕ) (writable : Bool) (terms : Terms) (before : Flow)
    (old : WorldValue D) (result : Result Negotiation E) (reader : Reader) (after : Flow)
    (new : WorldValue D) : Type 0 where
  pub taken : List ℕ
  pub given : List ℕ
  pub moved : Moved taken given before after
  pub turns : Turns seen session writable terms old result taken given reader after new

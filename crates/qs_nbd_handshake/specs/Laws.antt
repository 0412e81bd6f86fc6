-- What the definitions of this crate mean together.
use Rattle.std.specs.Prelude.{◌≡◌, ℕ, List, ◌++◌, Option, Some, None}
use Rattle.qs_nbd_wire.specs.Options.{AreBytes}
use Rattle.qs_nbd_handshake.specs.declared.event.HandEvent.{HandEvent}
use Rattle.qs_nbd_handshake.specs.declared.event.HandEvent.TheVariants as event
use Rattle.qs_nbd_handshake.specs.declared.event.HandStep.TheVariants.{Stay}
use Rattle.qs_nbd_handshake.specs.declared.event.Told.{Told}
use Rattle.qs_nbd_handshake.specs.declared.event.Want.{Want}
use Rattle.qs_nbd_handshake.specs.declared.inquiry.Inquiry.{Inquiry}
use Rattle.qs_nbd_handshake.specs.declared.stage.Terms.{Terms}
use Rattle.qs_nbd_handshake.specs.Answers.{CanTell, CanAnswer, IsStep, IsBehind}
use Rattle.qs_nbd_handshake.specs.Inquiries.{Question, FitsQuestion, question_bytes, question_of, inquiry_for, inquiry_of}
use Rattle.qs_nbd_handshake.specs.Phases.{Phase, Reader, CanFeed, Reaches}

-- a piece that brought no event, and the next one, lead where both together do
abbrev pub JoinsPieces : Type 0
JoinsPieces =
    (old middle new : Reader) → (first second : List ℕ) → (told : Option HandEvent) →
    Reaches old first None middle → Reaches middle second told new →
    Reaches old (first ++ second) told new

-- where two streams begin alike, the first event of each stands at the same place, and it is the same
pub record ReadsOnce : Type 0 where
  pub same : (old one other : Reader) → (first second more rest : List ℕ) → (told again : HandEvent) →
      Reaches old first (Some told) one → Reaches old second (Some again) other →
      first ++ more ≡ second ++ rest → (first ≡ second) × (told ≡ again) × (one ≡ other)
  pub none : (old one other : Reader) → (first more : List ℕ) → (told : HandEvent) →
      Reaches old first (Some told) one → Reaches old (first ++ more) None other → ⊥

-- Behind no event, behind the client's flags and behind an answer that stays, bytes are awaited; behind
-- an event that wants something, what one may be told who wants this.
pub record GoesOn : Type 0 where
  pub none : (old new : Reader) → (bytes : List ℕ) → Reaches old bytes None new → CanFeed new.phase
  pub flags : (old new : Reader) → (bytes : List ℕ) → (flags : ℕ) → Reaches old bytes (Some (event.Flags flags)) new →
      CanFeed new.phase
  pub wanted : (old new : Reader) → (bytes : List ℕ) → (w : Want) → (t : Told) →
      Reaches old bytes (Some (event.Wanted w)) new → CanTell w t → CanAnswer new.phase t
  pub stays : (terms : Terms) → (phase : Phase) → (t : Told) → (new : Reader) →
      IsStep terms.mode phase t Stay → IsBehind terms phase t new → CanFeed new.phase

-- A question is read as its name and numbers, and data that are taken are the spelling of the question that is read.
pub record SpellsQuestions : Type 0 where
  pub again : (q : Question) → FitsQuestion q →
      (inquiry_of (question_bytes q) ≡ Some (inquiry_for q)) × (question_of (question_bytes q) ≡ q)
  pub one : (bytes : List ℕ) → (inquiry : Inquiry) → AreBytes bytes → inquiry_of bytes ≡ Some inquiry →
      FitsQuestion (question_of bytes) × (bytes ≡ question_bytes (question_of bytes))
      × (inquiry ≡ inquiry_for (question_of bytes))

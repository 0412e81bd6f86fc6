-- The requests of a session and their answers, one after the other, and the disks between them.
use Rattle.std.specs.Prelude.{◌≡◌, ℕ, Bool, List, [], ◌∷◌, Option, flat_map}
use Rattle.std.specs.List.{AllByRecursion}
use Rattle.qs_bytes.specs.declared.ask.Ask.{Ask}
use Rattle.qs_bytes.specs.declared.ask.Verdict.{Verdict}
use Rattle.qs_nbd_transmission.specs.Heads.{ask_of}
use Rattle.qs_nbd_transmission.specs.Replies.{reply_of}
use Rattle.qs_nbd_wire.specs.Requests.{Message, IsMessage, spelling}
use Rattle.qs_outside.specs.Blocks.{Seen}
use Rattle.qs_image.specs.Image.{content}
use Rattle.qs_part.specs.declared.event.Actor.TheVariants.{Request as ARequest}
use Rattle.qs_part.specs.declared.event.Event.TheVariants.{Ask as AskEvent, Step}
use Rattle.qs_part.specs.declared.event.Note.{Note}
use Rattle.qs_part.specs.declared.event.Outcome.TheVariants.{Answered, Made}
use Rattle.qs_calls.specs.Calls.{Call, Happened}
use Rattle.qs_calls.specs.Goings.{RunsOut}
use Rattle.qs_single.specs.Remaining.{Outlasts}
use Rattle.qs_single.specs.Resting.{IsBody}
use Rattle.qs_single.specs.Service.{Called, LeadsTo, MayGet}

-- a request, whether replies are structured ones, its answer, the calls of the core that it was, and the disks as it
-- left them
pub record Exchange : Type 0 where
  pub message : Message
  pub structured : Bool
  pub verdict : Verdict
  pub calls : List Call
  pub left : List Seen

-- what the request asks for
abbrev pub asked_in : Exchange → Ask
asked_in x = ask_of x.structured x.message.head

-- The calls of one request of a session: it is asked, with the data of a WRITE where memory was given for them, and
-- does its steps up to its answer.
pub record IsRound (session : ℕ) (x : Exchange) : Type 0 where
  pub body : Option (List ℕ)
  pub is_body : IsBody (asked_in x) x.message.body body
  pub number : ℕ
  pub steps : List Call
  pub now : ℕ
  pub note : Option Note
  pub calls_are : x.calls ≡ Happened (AskEvent session (asked_in x) body) (Made number) ∷ steps
  pub ran : RunsOut (Step (ARequest number) now) steps (Answered x.verdict note)

-- a request of a session with such replies that is answered as it may be, by its calls
pub record Fits (session size : ℕ) (writable structured : Bool) (x : Exchange) : Type 0 where
  pub message : IsMessage x.message
  pub mode : x.structured ≡ structured
  pub may : MayGet size writable (asked_in x) x.verdict
  pub round : IsRound session x

abbrev pub AllFit : ℕ → ℕ → Bool → Bool → List Exchange → Type 0
AllFit session size writable structured xs = AllByRecursion (Fits session size writable structured) xs

-- each request leads on from the content that the one before left
abbrev pub LeadsAll : List ℕ → List Exchange → List ℕ → Type 0
LeadsAll old [] new = new ≡ old
LeadsAll old (x ∷ xs) new = LeadsTo old (asked_in x) x.message.body x.verdict (content x.left)
    × LeadsAll (content x.left) xs new

-- each request leads so from the disks that the one before left to those that it left itself
abbrev pub Chained : (List Seen → Exchange → List Seen → Type 0) → List Seen → List Exchange → List Seen → Type 0
Chained P old [] new = new ≡ old
Chained P old (x ∷ xs) new = P old x x.left × Chained P x.left xs new

-- what it may make of the disks, and what a crash may leave behind it
abbrev pub CalledAll : List Seen → List Exchange → List Seen → Type 0
CalledAll old xs new = Chained (λ before x after. Called before (asked_in x) x.message.body x.verdict after) old xs new

abbrev pub OutlastsAll : List Seen → List Exchange → List Seen → Type 0
OutlastsAll old xs new = Chained (λ before x after. Outlasts before (asked_in x) x.message.body x.verdict after) old
    xs new

-- the bytes of the requests, and those of their replies
abbrev pub asked_bytes : List Exchange → List ℕ
asked_bytes xs = flat_map (λ x. spelling x.message) xs

abbrev pub reply : Exchange → List ℕ
reply x = reply_of x.structured (asked_in x) x.verdict

abbrev pub answered_bytes : List Exchange → List ℕ
answered_bytes xs = flat_map reply xs

-- the calls of the core
abbrev pub rounds : List Exchange → List Call
rounds xs = flat_map (λ x. x.calls) xs

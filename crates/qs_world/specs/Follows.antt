-- A request in the list of those that are live, and what a reply makes of the list.
use Rattle.std.specs.Prelude.{◌≡◌, ℕ, ◌<◌, ◌==◌, Bool, true, false, List, length, get_or, Some, if◌then◌else◌}
use Rattle.std.specs.List.{slice_set, remove}
use Rattle.qs_part.specs.declared.event.Note.{Note}
use Rattle.qs_part.specs.declared.event.Outcome.{Outcome}
use Rattle.qs_part.specs.declared.event.Outcome.TheVariants.{Moved, Answered}
use Rattle.qs_model.specs.Requests.{Req, Ready, abandon}
use Rattle.qs_request.specs.declared.todo.PartReply.{PartReply}
use Rattle.qs_request.specs.declared.todo.Todo.{Todo}
use Rattle.qs_request.specs.declared.todo.Todo.TheVariants.{Answer}
use Rattle.qs_request.specs.Table.{MayReply, followed}
use Rattle.qs_request.specs.Value.{IsReady}
use Rattle.qs_world.specs.declared.live.Live.{Live}

-- x is the element at index i
pub record IsElement {X : Type 0} (xs : List X) (i : ℕ) (x : X) : Type 0 where
  pub inside : i < length xs
  pub is : (d : X) → get_or xs i d ≡ x

-- a request of this session
abbrev pub is_live_of : ℕ → Live → Bool
is_live_of session l = l.request.value.request.client.session == session

-- it may be asked for its next operation, and may be abandoned
pub record IsFree (l : Live) : Type 0 where
  pub waits : l.request.value.waits ≡ false
  pub answered : l.request.value.answered ≡ false

-- abandoned where it is of this session
abbrev pub abandoned_of : ℕ → Live → Live
abandoned_of session l =
    if is_live_of session l then record l {
      request = record
          l.request { value = record l.request.value { request = abandon l.request.value.request } };
    } else l

-- it waits for this reply, among others
pub record Awaits (l : Live) (reply : PartReply) : Type 0 where
  pub waits : l.request.value.waits ≡ true
  pub answered : l.request.value.answered ≡ false
  pub may : MayReply l.request.value.shape l.request.value.request reply

-- the request as it waits for a reply
abbrev pub waiting : Live → Live
waiting l = record l { request = record l.request { value = record l.request.value { waits = true } } }

-- it has given its next operation, and waits for the reply, or it has given its answer
abbrev pub Offers : Live → Todo → Live → Type 0
Offers old (Answer v) new = Unit {0}
Offers old _ new = new ≡ waiting old

-- the request after a reply
abbrev pub next_of : Live → PartReply → Req
next_of l reply = followed l.request.value.shape.align l.request.value.request reply

-- the request has moved on, and waits for no reply
abbrev pub moved_to : Live → Req → Live
moved_to l q = record l { request = record l.request { value = record l.request.value { request = q; waits = false } } }

-- A reply leaves the request where its machine leads; one that it answers is taken out.
abbrev pub Follows : Live → PartReply → Note → ℕ → List Live → Outcome → List Live → Type 0
Follows l reply note at old (Moved n) new =
    (n ≡ note) × (IsReady (next_of l reply).stage → ⊥)
    × (new ≡ slice_set old at (moved_to l (next_of l reply)))
Follows l reply note at old (Answered v n) new = (n ≡ Some note) × ((next_of l reply).stage ≡ Ready v)
    × (new ≡ remove old at)
Follows l reply note at old _ new = ⊥

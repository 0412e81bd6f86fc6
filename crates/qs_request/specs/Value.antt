-- A request as the crate above sees it.
use Rattle.std.specs.Prelude.{◌≡◌, ℕ, Bool, true, not, ◌&&◌, ◌||◌, List, [], Option, Some, None, is_some}
use Rattle.qs_bytes.specs.declared.ask.Ask.{Ask}
use Rattle.qs_bytes.specs.declared.ask.Kind.{Kind}
use Rattle.qs_bytes.specs.declared.ask.Kind.TheVariants.{Write}
use Rattle.qs_model.specs.Requests.{Client, Req, Stage, Ready, no_route, takes_body, wants_buffers}
use Rattle.qs_request_state.specs.declared.shape.Shape.{Shape}
use Rattle.qs_request_state.specs.declared.shape.Blocks.{Blocks}
use Rattle.qs_request.specs.declared.todo.Todo.{Todo}
use Rattle.qs_request.specs.declared.todo.Todo.TheVariants.{Answer}

-- a request, the image that it goes to, whether an operation of it waits for its reply, and whether
-- it has given its answer
pub record RequestValue : Type 0 where
  pub request : Req
  pub shape : Shape
  pub waits : Bool
  pub answered : Bool

-- the bytes that a request writes; a READ's buffer isn't told
abbrev pub bytes_of : Kind → List ℕ → List ℕ
bytes_of Write bytes = bytes
bytes_of _ bytes = []

abbrev pub given_bytes : Option (List ℕ) → List ℕ
given_bytes None = []
given_bytes (Some bytes) = bytes

-- it has the buffers that it wants: a body and blocks, or blocks alone for a WRITE_ZEROES
abbrev pub has_buffers : Ask → Option (List ℕ) → Option Blocks → Bool
has_buffers ask body blocks = not (wants_buffers ask) || (is_some blocks && (is_some body || not (takes_body ask.kind)))

-- the client of a request as it is made
abbrev pub client_for : ℕ → Ask → ℕ → Option (List ℕ) → Option Blocks → Client
client_for session ask e body blocks = record {
  session = session;
  export = e;
  ask = ask;
  body = bytes_of ask.kind (given_bytes body);
  buffered = has_buffers ask body blocks;
  route = no_route;
}

-- its next is the answer
abbrev pub IsReady : Stage → Type 0
IsReady (Ready v) = Unit {0}
IsReady _ = ⊥

-- what asking for the next operation leaves: a request that waits, or one that is over, of which
-- nothing more is asked
pub record IsOver (old new : RequestValue) : Type 0 where
  pub answered : new.answered ≡ true
  pub shape : new.shape ≡ old.shape
  pub session : new.request.client.session ≡ old.request.client.session

abbrev pub Gave : RequestValue → Todo → RequestValue → Type 0
Gave old (Answer v) new = IsOver old new
Gave old _ new = new ≡ record old { waits = true }

-- What the own steps of a request alone never change.
use Rattle.std.proofs.Common.{◌≡◌, ◌≢◌, ℕ, ◌+◌, ◌<◌, List, [], ◌∷◌, ◌++◌, None, refl, ◌∙◌}
use Rattle.qs_model.specs.Requests.{Client}
use Rattle.qs_model.specs.Worlds.{Opening, World}
use Rattle.qs_model.specs.Acts.{Element, Asked, Did}
use Rattle.qs_model.specs.Laws.{opening_world}
use Rattle.qs_model.specs.Steps.{Runs, world_after, happens}
use Rattle.qs_model.specs.Histories.{Acts}
use Rattle.qs_model.proofs.Basics.{put_other}
use Rattle.qs_model.proofs.Facts.{Ok}
use Rattle.qs_model.proofs.Kept.{new_ok, run_ok, runs_back, runs_front}
use Rattle.qs_alone.specs.Alone.{AreOf, IsAlone, IsIdle}

-- beside request r there is none, and what no row touches is as it was
pub record Frame (w : World) (r : ℕ) (x : World) : Type 0 where
  pub next : x.next ≡ w.next + 1
  pub session : x.session ≡ w.session
  pub graph : x.graph ≡ w.graph
  pub clients : x.clients ≡ w.clients
  pub tells : x.tells ≡ w.tells
  pub others : (s : ℕ) → s ≢ r → x.req s ≡ None

pub frame_asked : (A : ℕ) (w : World) (r : ℕ) (c : Client) → IsIdle w → Frame w r (happens A w (Asked r c))
frame_asked A w r c idle = record {
  next = refl;
  session = refl;
  graph = refl;
  clients = refl;
  tells = refl;
  others = λ s other. put_other w.req r _ s other ∙ idle s;
}

pub frame_step : (A : ℕ) (w : World) (r : ℕ) (x : World) (e : Element) → Acts r e → Frame w r x → Frame w r (happens A x e)
frame_step A w r x (Did s q act) own f = record {
  next = f.next;
  session = f.session;
  graph = f.graph;
  clients = f.clients;
  tells = f.tells;
  others = λ t other. put_other x.req s _ t (λ e. other (e ∙ own)) ∙ f.others t other;
}
frame_step A w r x _ own f = absurd own

pub frame_run : (A : ℕ) (w : World) (r : ℕ) (x : World) (es : List Element) → AreOf r es → Frame w r x → Frame w r (world_after A x es)
frame_run A w r x [] own f = f
frame_run A w r x (e ∷ es) own f = frame_run A w r (happens A x e) es own.1 (frame_step A w r x e own.0 f)

-- the steps of the request from its Ask on
pub own_run : (A : ℕ) (o : Opening) (before : List Element) (r : ℕ) (c : Client) (steps : List Element) → 0 < A → IsAlone A o before r c steps →
    Ok A (world_after A (opening_world o) before) × Runs A (world_after A (opening_world o) before) (Asked r c ∷ steps)
own_run A o before r c steps pos alone = (
  run_ok A (opening_world o) before pos (new_ok A 0 o) (runs_front A (opening_world o) before (Asked r c ∷ steps) alone.run),
  runs_back A (opening_world o) before (Asked r c ∷ steps) alone.run,
)

-- the own steps up to one of them
pub own_front : (r : ℕ) (xs ys : List Element) → AreOf r (xs ++ ys) → AreOf r xs
own_front r [] ys own = tt
own_front r (x ∷ xs) ys own = (own.0, own_front r xs ys own.1)

pub own_back : (r : ℕ) (xs ys : List Element) → AreOf r (xs ++ ys) → AreOf r ys
own_back r [] ys own = own
own_back r (x ∷ xs) ys own = own_back r xs ys own.1

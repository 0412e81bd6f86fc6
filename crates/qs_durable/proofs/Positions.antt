-- Positions of a run, and the values that stay no older.
use Rattle.std.proofs.Common.{ℕ, inl, inr, List, [], ◌∷◌, ◌++◌, refl, sym, ap, ◌∙◌, append-nil, append_assoc}
use Rattle.qs_model.specs.Worlds.{World}
use Rattle.qs_model.specs.Acts.{Element}
use Rattle.qs_model.specs.Laws.{Begins, ComesBehind}
use Rattle.qs_durable.specs.Ages.{IsNoOlder}

pub begins_itself : (xs : List Element) → Begins xs xs
begins_itself xs = ([], sym (append-nil xs))

pub begins_longer : (xs ys : List Element) → Begins xs (xs ++ ys)
begins_longer xs ys = (ys, refl)

pub begins_on : (xs ys zs : List Element) → Begins xs ys → Begins ys zs → Begins xs zs
begins_on xs ys zs here there =
    (here.0 ++ there.0, there.1 ∙ ap (λ (l : List Element). l ++ there.0) here.1 ∙ append_assoc xs here.0 there.0)

-- what comes behind some steps in a list does so in a longer one
pub behind_longer : (front : List Element) (e : Element) (xs ys : List Element) → ComesBehind front e xs → Begins xs ys → ComesBehind front e ys
behind_longer front e xs ys here there =
    (here.0 ++ there.0, there.1 ∙ ap (λ (l : List Element). l ++ there.0) here.1 ∙ append_assoc front (e ∷ here.0) there.0)

-- the steps before one, and those with it
pub before_step : (front : List Element) (e : Element) (xs : List Element) → ComesBehind front e xs → Begins front xs
before_step front e xs at = (e ∷ at.0, at.1)

pub with_step : (front : List Element) (e : Element) (xs : List Element) → ComesBehind front e xs → Begins (front ++ e ∷ []) xs
with_step front e xs at = (at.0, at.1 ∙ sym (append_assoc front (e ∷ []) at.0))

-- a value stays no older as the run goes on
pub still_no_older : (A : ℕ) (w : World) (x v : ℕ) (since steps more : List Element) → Begins steps more → IsNoOlder A w x v since steps → IsNoOlder A w x v since more
still_no_older A w x v since steps more on (inl h) =
    inl (record { position = h.position; later = h.later; before = begins_on h.position steps more h.before on; value = h.value })
still_no_older A w x v since steps more on (inr h) = inr (record {
  position = h.position;
  store = h.store;
  later = h.later;
  before = behind_longer h.position h.store steps more h.before on;
  number = h.number;
  took = h.took;
  entry = h.entry;
})

-- and is no older than an earlier position
pub no_older_than_before : (A : ℕ) (w : World) (x v : ℕ) (since later steps : List Element) → Begins since later → IsNoOlder A w x v later steps → IsNoOlder A w x v since steps
no_older_than_before A w x v since later steps on (inl h) =
    inl (record { position = h.position; later = begins_on since later h.position on h.later; before = h.before; value = h.value })
no_older_than_before A w x v since later steps on (inr h) = inr (record {
  position = h.position;
  store = h.store;
  later = begins_on since later h.position on h.later;
  before = h.before;
  number = h.number;
  took = h.took;
  entry = h.entry;
})

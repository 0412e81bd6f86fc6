-- The line of all links that were ever put into a pool, in their order, and what its passes know of it.
use Rattle.std.specs.Prelude.{◌≡◌, ℕ, ◌+◌, ◌<◌, ◌==◌, nat_lt, if◌then◌else◌, List, [], ◌∷◌, ◌++◌, length, ⊤}
use mathlib.Core.Option.{some}
use lib.ListN.{get_elem?}
use Rattle.atomic_table.specs.Seated.{TableId}
use Rattle.crossbeam_queue.specs.Passes.{Pass}
use Rattle.qs_pool.specs.declared.ledger.LinkAt.{LinkAt}
use Rattle.qs_pool.specs.declared.ledger.Ledger.{Ledger}

-- it is a pass of this pool
abbrev pub IsOfPool : {T V : Type 0} → TableId → Pass T V → Type 0
IsOfPool pool pass = (pass.table_id ≡ pool) × (pass.me.1 ≡ [])

module _ {L : Type 0} where
  abbrev pub link_at : ℕ → L → LinkAt L
  link_at at link = record { at = at; link = link }

  -- what a pass put and what it took, each link with its place in the line
  abbrev pub ledger : List (LinkAt L) → List (LinkAt L) → Ledger L
  ledger put got = record { put = put; got = got }

  -- each of these links stands in the line at its place
  abbrev pub StandInLine : List L → List (LinkAt L) → Type 0
  StandInLine line [] = ⊤
  StandInLine line (x ∷ xs) = (get_elem? line x.at ≡ some x.link) × StandInLine line xs

  -- each of these links has a place before this one
  abbrev pub AllBefore : ℕ → List (LinkAt L) → Type 0
  AllBefore place [] = ⊤
  AllBefore place (x ∷ xs) = (x.at < place) × AllBefore place xs

  -- how many of these links have this place
  abbrev pub count_at : ℕ → List (LinkAt L) → ℕ
  count_at place [] = 0
  count_at place (x ∷ xs) = (if place == x.at then 1 else 0) + count_at place xs

-- a sum over all members
abbrev pub summed : {A : Type 0} → (A → ℕ) → List A → ℕ
summed f [] = 0
summed f (x ∷ xs) = f x + summed f xs

-- one for each place below the end, and nothing behind it
abbrev pub one_below : ℕ → ℕ → ℕ
one_below place end = if nat_lt place end then 1 else 0

-- The rule of a pool. The line is the links that were taken, and then those that wait. What each pass put stands in
-- the line, and what it took in its front. Each place was put by one pass, once, and taken by one, once.
pub record InLine {L : Type 0} (waiting : List L) (ledgers : List (Ledger L)) : Type 0 where
  pub taken : List L
  pub stand : (id : ℕ) (v : Ledger L) → get_elem? ledgers id ≡ some v →
      StandInLine (taken ++ waiting) v.put × StandInLine taken v.got
  pub put_once : (place : ℕ) → summed (λ v. count_at place v.put) ledgers ≡ one_below place (length (taken ++ waiting))
  pub got_once : (place : ℕ) → summed (λ v. count_at place v.got) ledgers ≡ one_below place (length taken)

module _ {L : Type 0} where
  -- a pass put a link: at the end of the line, behind all that it knows of
  abbrev pub PutsLink : L → Ledger L → Ledger L → Type 0
  PutsLink link old new = (place : ℕ) × (new ≡ ledger (old.put ++ link_at place link ∷ []) old.got)
      × AllBefore place old.put × AllBefore place old.got

  -- a pass took a link: the first one that waited, behind all that it took before
  abbrev pub TakesLink : L → Ledger L → Ledger L → Type 0
  TakesLink link old new = (place : ℕ) × (new ≡ ledger old.put (old.got ++ link_at place link ∷ []))
      × AllBefore place old.got

  -- so many links wait in a line where all stands that this pass put and took
  abbrev pub WaitIn : Ledger L → List L → Type 0
  WaitIn v waiting = (taken : List L) × StandInLine (taken ++ waiting) v.put × StandInLine taken v.got

  -- No link was put twice or taken twice by those whose ledgers were joined into this one; and a link that stands in
  -- both lists at one place is the same link.
  pub record IsFair (v : Ledger L) : Type 0 where
    pub put_once : (place : ℕ) → count_at place v.put < 2
    pub got_once : (place : ℕ) → count_at place v.got < 2
    pub one_line : (line : List L) × StandInLine line v.put × StandInLine line v.got

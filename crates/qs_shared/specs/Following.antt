-- To follow is an order: what was seen stays seen, and what follows later follows what was first.
use Rattle.std.specs.Prelude.{◌≡◌, ℕ, zero, suc, List, [], ◌∷◌, ◌++◌, slice_get, Option, Some, None, length}
use Rattle.std.proofs.Common.{refl, sym, ap, ◌∙◌, subst, append_assoc, append-nil}
use Rattle.qs_turn.specs.declared.view.View.{View}
use Rattle.qs_turn.specs.Names.{Known}
use Rattle.qs_turn.specs.Words.{seen}
use Rattle.qs_turn_rows.specs.Rows.{Pairs}
use Rattle.qs_shared.specs.Parts.{PassesOver}
use Rattle.qs_shared.specs.Passes.{FollowsAll, FollowsPass}

abbrev value_or : {A : Type 0} → A → Option A → A
value_or x None = x
value_or x (Some y) = y

abbrev IsNothing : {A : Type 0} → Option A → Type 0
IsNothing None = Unit {0}
IsNothing (Some x) = ⊥

abbrev IsZero : ℕ → Type 0
IsZero zero = Unit {0}
IsZero (suc n) = ⊥

abbrev one_less : ℕ → ℕ
one_less zero = zero
one_less (suc n) = n

module _ {A : Type 0} where
  one_member : (xs : List A) (i : ℕ) (x y : A) → slice_get xs i ≡ Some x → slice_get xs i ≡ Some y → x ≡ y
  one_member xs i x y e d = ap (value_or x) (sym e ∙ d)

  -- a list as long has a member at the same place
  pub member_beside : (xs ys : List A) (i : ℕ) (x : A) → length xs ≡ length ys → slice_get xs i ≡ Some x
      → (y : A) × (slice_get ys i ≡ Some y)
  member_beside [] ys i x l e = absurd (subst IsNothing e tt)
  member_beside (a ∷ xs) [] i x l e = absurd (subst IsZero (sym l) tt)
  member_beside (a ∷ xs) (b ∷ ys) zero x l e = (b, refl)
  member_beside (a ∷ xs) (b ∷ ys) (suc i) x l e = member_beside xs ys i x (ap one_less l) e

module _ {P O R : Type 0} where
  pub pass_itself : (k : Known (View P O R)) → FollowsPass k k
  pass_itself k = record { seen_more = ([], sym (append-nil (seen k))); same_first = refl; same_out = refl }

  pass_both : (k m n : Known (View P O R)) → FollowsPass k m → FollowsPass m n → FollowsPass k n
  pass_both k m n f g = record {
    seen_more = (
      f.seen_more.0 ++ g.seen_more.0,
      g.seen_more.1
          ∙ ap (λ (l : List _). l ++ g.seen_more.0) f.seen_more.1
          ∙ append_assoc (seen k) f.seen_more.0 g.seen_more.0,
    );
    same_first = g.same_first ∙ f.same_first;
    same_out = g.same_out ∙ f.same_out;
  }

  pub row_itself : (ks : List (Known (View P O R))) → Pairs FollowsPass ks ks
  row_itself ks = record {
    long = refl;
    each = λ i k n e d. subst (λ (x : Known (View P O R)). FollowsPass k x) (one_member ks i k n e d) (pass_itself k);
  }

  row_both : (ks ms ns : List (Known (View P O R))) → Pairs FollowsPass ks ms → Pairs FollowsPass ms ns
      → Pairs FollowsPass ks ns
  row_both ks ms ns f g = record {
    long = f.long ∙ g.long;
    each = λ i k n e d.
        let m = member_beside ks ms i k f.long e in
        pass_both k m.0 n (f.each i k m.0 e m.1) (g.each i m.0 n m.1 d);
  }

pub follows_itself : {D : Type 0} (p : PassesOver D) → FollowsAll p p
follows_itself p = record {
  tracker = pass_itself p.tracker;
  graph = pass_itself p.graph;
  groups = row_itself p.groups.items;
  stripes = row_itself p.stripes.items;
}

pub follows_both : {D : Type 0} (p q r : PassesOver D) → FollowsAll p q → FollowsAll q r → FollowsAll p r
follows_both p q r f g = record {
  tracker = pass_both p.tracker q.tracker r.tracker f.tracker g.tracker;
  graph = pass_both p.graph q.graph r.graph f.graph g.graph;
  groups = row_both p.groups.items q.groups.items r.groups.items f.groups g.groups;
  stripes = row_both p.stripes.items q.stripes.items r.stripes.items f.stripes g.stripes;
}

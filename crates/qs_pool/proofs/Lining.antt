-- Each step of a pool keeps its rule.
use Rattle.std.proofs.Common.{◌≡◌, ◌≢◌, ℕ, zero, suc, ◌+◌, ◌<◌, List, [], ◌∷◌, ◌++◌, length, set, refl, sym, ap, ◌∙◌, subst, ⊎_elim, append_assoc, arith}
use Rattle.std.proofs.lemmas.List.{length-append}
use mathlib.Core.Option.{some, some-ne-none}
use lib.ListN.{get_elem?}
use Rattle.crossbeam_queue.specs.Fifo.{Admits, Learns, Merges, Pops, Pushes}
use Rattle.crossbeam_queue.proofs.Lists.{at_last, at_longer, at_set, at_snoc, set_else}
use Rattle.qs_pool.specs.Lines.{AllBefore, InLine, IsFair, PutsLink, StandInLine, TakesLink, WaitIn, count_at, ledger, link_at, one_below}
use Rattle.qs_pool.specs.declared.ledger.LinkAt.{LinkAt}
use Rattle.qs_pool.specs.declared.ledger.Ledger.{Ledger}
use Rattle.qs_pool.proofs.Sums.{counted_joined, counted_more, counted_same, one_at_most, summed_one, summed_snoc}

module _ {L : Type 0} where
  -- what stands in a line stands in a longer one
  stand_longer : (line more : List L) (xs : List (LinkAt L)) → StandInLine line xs → StandInLine (line ++ more) xs
  stand_longer line more [] s = tt
  stand_longer line more (x ∷ xs) s = (at_longer line more x.at x.link s.0, stand_longer line more xs s.1)

  stand_both : (line : List L) (xs ys : List (LinkAt L)) → StandInLine line xs → StandInLine line ys →
      StandInLine line (xs ++ ys)
  stand_both line [] ys s t = t
  stand_both line (x ∷ xs) ys s t = (s.0, stand_both line xs ys s.1 t)

  -- a link at the end of a longer line
  stand_more : (line : List L) (xs : List (LinkAt L)) (x : L) → StandInLine line xs →
      StandInLine (line ++ x ∷ []) (xs ++ link_at (length line) x ∷ [])
  stand_more line xs x s = stand_both (line ++ x ∷ []) xs (link_at (length line) x ∷ [])
      (stand_longer line (x ∷ []) xs s) (at_last line x (length line) refl, tt)

  at_below : (line : List L) (i : ℕ) (a : L) → get_elem? line i ≡ some a → i < length line
  at_below [] i a e = absurd (some-ne-none a (sym e))
  at_below (x ∷ xs) zero a e = omega arith
  at_below (x ∷ xs) (suc i) a e = let h = at_below xs i a e in omega arith

  -- all that stands in a line is before its end
  before_end : (line : List L) (xs : List (LinkAt L)) → StandInLine line xs → AllBefore (length line) xs
  before_end line [] s = tt
  before_end line (x ∷ xs) s = (at_below line x.at x.link s.0, before_end line xs s.1)

  length_more : (line : List L) (x : L) → length (line ++ x ∷ []) ≡ length line + 1
  length_more line x = length-append line (x ∷ [])

  -- what a pass has stands in a line and in its front
  abbrev Stands : List L → List L → Ledger L → Type 0
  Stands line front v = StandInLine line v.put × StandInLine front v.got

  -- where the others stand, and the one that changed does, all do
  all_stand : (line front : List L) (ledgers : List (Ledger L)) (pass : ℕ) (w : Ledger L) → Stands line front w →
      ((id : ℕ) (u : Ledger L) → get_elem? ledgers id ≡ some u → Stands line front u)
      → (id : ℕ) (u : Ledger L) → get_elem? (set ledgers pass w) id ≡ some u → Stands line front u
  all_stand line front ledgers pass w mine others id u e =
      ⊎_elim (λ (t : (id ≡ pass) × (w ≡ u)). subst (λ (y : Ledger L). Stands line front y) t.1 mine)
      (λ (t : (id ≢ pass) × (get_elem? ledgers id ≡ some u)). others id u t.1) (at_set ledgers pass id w u e)

  pub puts : (n pass : ℕ) (v : Ledger L) (x : L) → Pushes InLine n pass v x (PutsLink x v)
  puts n pass v x waiting ledgers room h at =
      let line : List L = h.taken ++ waiting in
      let w : Ledger L = ledger (v.put ++ link_at (length line) x ∷ []) v.got in
      let longer : line ++ x ∷ [] ≡ h.taken ++ (waiting ++ x ∷ []) = append_assoc h.taken waiting (x ∷ []) in
      let own = h.stand pass v at in (
        w,
        record {
          taken = h.taken;
          stand = subst (λ (l : List L). (id : ℕ) (u : Ledger L) → get_elem? (set ledgers pass w) id ≡ some u →
              Stands l h.taken u) longer
              (all_stand (line ++ x ∷ []) h.taken ledgers pass w (stand_more line v.put x own.0, own.1)
              (λ id u e. (stand_longer line (x ∷ []) u.put (h.stand id u e).0, (h.stand id u e).1)));
          put_once = λ k. counted_more (λ (u : Ledger L). u.put) ledgers pass v w k (length line) x at refl
              (h.put_once k) ∙ ap (one_below k) (sym (length_more line x) ∙ ap length longer);
          got_once = λ k. counted_same (λ (u : Ledger L). u.got) ledgers pass v w k at refl ∙ h.got_once k;
        },
        (
          length line,
          refl,
          before_end line v.put own.0,
          before_end line v.got (stand_longer h.taken waiting v.got own.1),
        ),
      )

  pub takes : (pass : ℕ) (v : Ledger L) → Pops InLine pass v (λ x w. TakesLink x v w)
  takes pass v x waiting ledgers h at =
      let front : List L = h.taken ++ x ∷ [] in
      let w : Ledger L = ledger v.put (v.got ++ link_at (length h.taken) x ∷ []) in
      let same : h.taken ++ (x ∷ waiting) ≡ front ++ waiting = sym (append_assoc h.taken (x ∷ []) waiting) in
      let own = h.stand pass v at in (
        w,
        record {
          taken = front;
          stand = subst (λ (l : List L). (id : ℕ) (u : Ledger L) → get_elem? (set ledgers pass w) id ≡ some u →
              Stands l front u) same
              (all_stand (h.taken ++ (x ∷ waiting)) front ledgers pass w (own.0, stand_more h.taken v.got x own.1)
              (λ id u e. ((h.stand id u e).0, stand_longer h.taken (x ∷ []) u.got (h.stand id u e).1)));
          put_once = λ k. counted_same (λ (u : Ledger L). u.put) ledgers pass v w k at refl ∙ h.put_once k
              ∙ ap (λ (l : List L). one_below k (length l)) same;
          got_once = λ k. counted_more (λ (u : Ledger L). u.got) ledgers pass v w k (length h.taken) x at refl
              (h.got_once k) ∙ ap (one_below k) (sym (length_more h.taken x));
        },
        (length h.taken, refl, before_end h.taken v.got own.1),
      )

  pub admits : Admits InLine (ledger {L = L} [] [])
  admits waiting ledgers h =
      let fresh : Ledger L = ledger [] [] in
      record {
        taken = h.taken;
        stand = λ id u e. ⊎_elim (λ (old : get_elem? ledgers id ≡ some u). h.stand id u old)
            (λ (is : fresh ≡ u). subst (λ (y : Ledger L). Stands (h.taken ++ waiting) h.taken y) is (tt, tt))
            (at_snoc ledgers fresh u id e);
        put_once = λ k. let more = summed_snoc (λ (u : Ledger L). count_at k u.put) ledgers fresh in
            let was = h.put_once k in omega arith;
        got_once = λ k. let more = summed_snoc (λ (u : Ledger L). count_at k u.got) ledgers fresh in
            let was = h.got_once k in omega arith;
      }

  pub joins : (pass : ℕ) (v : Ledger L) (other : ℕ) (w : Ledger L) →
      Merges InLine pass v other w (ledger (v.put ++ w.put) (v.got ++ w.got)) (ledger [] [])
  joins pass v other w waiting ledgers h at apart there =
      let line : List L = h.taken ++ waiting in
      let both : Ledger L = ledger (v.put ++ w.put) (v.got ++ w.got) in
      let spent : Ledger L = ledger [] [] in
      let was : get_elem? ledgers other ≡ some w = sym (set_else ledgers pass other both apart) ∙ there in
      let mine = h.stand pass v at in
      let theirs = h.stand other w was in
      record {
        taken = h.taken;
        stand = all_stand line h.taken (set ledgers pass both) other spent (tt, tt)
            (all_stand line h.taken ledgers pass both (
              stand_both line v.put w.put mine.0 theirs.0,
              stand_both h.taken v.got w.got mine.1 theirs.1,
            ) h.stand);
        put_once = λ k. counted_joined (λ (u : Ledger L). u.put) ledgers pass other v w both spent k at there refl refl ∙ h.put_once k;
        got_once = λ k. counted_joined (λ (u : Ledger L). u.got) ledgers pass other v w both spent k at there refl refl ∙ h.got_once k;
      }

  -- what a pass learns of the links that wait
  pub waits : (pass : ℕ) (v : Ledger L) → Learns InLine pass v (WaitIn v)
  waits pass v waiting ledgers h at = (h.taken, (h.stand pass v at).0, (h.stand pass v at).1)

  -- what a pass learns of itself
  pub fair : (pass : ℕ) (v : Ledger L) → Learns InLine pass v (λ waiting. IsFair v)
  fair pass v waiting ledgers h at =
      let own = h.stand pass v at in
      record {
        put_once = λ k. let part = summed_one (λ (u : Ledger L). count_at k u.put) ledgers pass v at in
            let all = h.put_once k in let most = one_at_most k (length (h.taken ++ waiting)) in omega arith;
        got_once = λ k. let part = summed_one (λ (u : Ledger L). count_at k u.got) ledgers pass v at in
            let all = h.got_once k in let most = one_at_most k (length h.taken) in omega arith;
        one_line = (h.taken ++ waiting, own.0, stand_longer h.taken waiting v.got own.1);
      }

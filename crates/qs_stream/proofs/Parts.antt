-- Fronts and rests of lists.
use Rattle.std.proofs.Common.{◌≡◌, ℕ, ◌+◌, ◌-◌, ◌≤◌, List, length, take, drop, sym, ap, ◌∙◌, arith, length-drop}
use Rattle.std.proofs.lemmas.List.{drop-drop, drop-take, take_all}
use Rattle.qs_bytes.specs.Pieces.{part}

-- a part without its front
pub part-drop : (xs : List ℕ) (s e n : ℕ) → s + n ≤ e → part xs (s + n) (e - (s + n)) ≡ drop n (part xs s (e - s))
part-drop xs s e n within =
    ap (λ (rest : List ℕ). take (e - (s + n)) rest) (sym (drop-drop n s xs))
    ∙ sym (drop-take n (e - (s + n)) (drop s xs))
    ∙ ap (λ (m : ℕ). drop n (take m (drop s xs))) (omega arith)

-- all that stands behind a place
pub take_rest : (xs : List ℕ) (n : ℕ) → take (length xs - n) (drop n xs) ≡ drop n xs
take_rest xs n = take_all (length xs - n) (drop n xs) (omega (arith, length-drop n xs))

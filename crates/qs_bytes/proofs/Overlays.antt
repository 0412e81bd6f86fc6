-- Laws of parts of a list and of bytes written over it.
use Rattle.std.proofs.Common.{◌≡◌, ℕ, ◌+◌, ◌-◌, ◌<◌, ◌≤◌, List, [], ◌++◌, length, take, drop, get_or, sym, ap, ◌∙◌, arith, append_assoc, length-append, length-take-le, length-drop, add-zero, append-nil}
use Rattle.std.proofs.lemmas.List.{take-append-drop, drop-drop, drop_at, take_at, get_or-take, get_or-drop, get_or_append_left, get_or-append_right}
use Rattle.std.proofs.Math.Seq.{take-add, take-append_seam, drop-append-add}
use Rattle.qs_bytes.specs.Pieces.{part, overlay}

-- a part that lies inside has its length
pub length-part : (xs : List ℕ) (at n : ℕ) → at + n ≤ length xs → length (part xs at n) ≡ n
length-part xs at n inside = length-take-le n (drop at xs) (simp length-drop (omega arith))

-- a part, and the one behind it
pub part-add : (xs : List ℕ) (at n m : ℕ) → part xs at (n + m) ≡ part xs at n ++ part xs (at + n) m
part-add xs at n m =
    take-add n m (drop at xs) ∙ ap (λ (rest : List ℕ). take n (drop at xs) ++ take m rest) (drop-drop n at xs)

pub length-overlay : (old : List ℕ) (at : ℕ) (piece : List ℕ) → at + length piece ≤ length old → length (overlay old at piece) ≡ length old
unfolding overlay
length-overlay old at piece inside =
    let front : length (take at old) ≡ at = length-take-le at old (omega arith) in
    simp (length-append, length-drop) (omega (arith, front))

-- what stands before the piece
pub front-overlay : (old : List ℕ) (at : ℕ) (piece : List ℕ) → at + length piece ≤ length old → length (take at old ++ piece) ≡ at + length piece
front-overlay old at piece inside =
    let front : length (take at old) ≡ at = length-take-le at old (omega arith) in
    simp length-append (omega (arith, front))

-- the bytes that were written are read back
pub part-overlay_same : (old : List ℕ) (at : ℕ) (piece : List ℕ) → at ≤ length old → part (overlay old at piece) at (length piece) ≡ piece
unfolding overlay
part-overlay_same old at piece inside =
    let rest : List ℕ = drop (at + length piece) old in
    let front : length (take at old) ≡ at = length-take-le at old inside in
    let behind : drop at (take at old ++ piece ++ rest) ≡ piece ++ rest =
    rw (append_assoc (take at old) piece rest) (drop_at (take at old) (piece ++ rest) at front) in
    ap (λ (xs : List ℕ). take (length piece) xs) behind ∙ take-append_seam piece rest

-- a piece, and another right behind it, are both at once
pub overlay-append : (old : List ℕ) (at : ℕ) (a b : List ℕ) → at + length a + length b ≤ length old →
    overlay (overlay old at a) (at + length a) b ≡ overlay old at (a ++ b)
unfolding overlay
overlay-append old at a b inside =
    let rest : List ℕ = drop (at + length a) old in
    let front : List ℕ = take at old ++ a in
    let long : length front ≡ at + length a = front-overlay old at a (omega arith) in
    let before : take (at + length a) (front ++ rest) ≡ front = take_at front rest (at + length a) long in
    let behind : drop (at + length a + length b) (front ++ rest) ≡ drop (at + length (a ++ b)) old =
    ap (λ (n : ℕ). drop (n + length b) (front ++ rest)) (sym long)
    ∙ drop-append-add front rest (length b)
    ∙ drop-drop (length b) (at + length a) old
    ∙ ap (λ (n : ℕ). drop n old) (simp length-append (omega arith)) in
    ap (λ (xs : List ℕ). xs ++ b ++ drop (at + length a + length b) (front ++ rest)) before
    ∙ ap (λ (xs : List ℕ). front ++ b ++ xs) behind
    ∙ ap (λ (xs : List ℕ). xs ++ drop (at + length (a ++ b)) old) (append_assoc (take at old) a b)

-- nothing written leaves the list
pub overlay-none : (old : List ℕ) (at : ℕ) → overlay old at [] ≡ old
unfolding overlay
overlay-none old at =
    ap (λ (xs : List ℕ). xs ++ drop (at + 0) old) (append-nil (take at old))
    ∙ ap (λ (n : ℕ). take at old ++ drop n old) (add-zero at)
    ∙ take-append-drop at old

-- a byte before the piece
pub get_or-overlay_before : (old : List ℕ) (at : ℕ) (piece : List ℕ) (x : ℕ) → at ≤ length old → x < at →
    get_or (overlay old at piece) x 0 ≡ get_or old x 0
unfolding overlay
get_or-overlay_before old at piece x inside before =
    let front : length (take at old) ≡ at = length-take-le at old inside in
    let rest : List ℕ = drop (at + length piece) old in
    rw (append_assoc (take at old) piece rest)
    (get_or_append_left (take at old) (piece ++ rest) 0 x (omega arith) ∙ get_or-take at old x 0 before)

-- a byte of the piece
pub get_or-overlay_inside : (old : List ℕ) (at : ℕ) (piece : List ℕ) (x : ℕ) → at ≤ length old → at ≤ x → x < at + length piece →
    get_or (overlay old at piece) x 0 ≡ get_or piece (x - at) 0
unfolding overlay
get_or-overlay_inside old at piece x inside from below =
    let front : length (take at old) ≡ at = length-take-le at old inside in
    let rest : List ℕ = drop (at + length piece) old in
    rw (append_assoc (take at old) piece rest)
    (get_or-append_right (take at old) (piece ++ rest) at x 0 front from
    ∙ get_or_append_left piece rest 0 (x - at) (omega arith))

-- a byte behind the piece
pub get_or-overlay_behind : (old : List ℕ) (at : ℕ) (piece : List ℕ) (x : ℕ) → at + length piece ≤ length old → at + length piece ≤ x →
    get_or (overlay old at piece) x 0 ≡ get_or old x 0
unfolding overlay
get_or-overlay_behind old at piece x inside from =
    let front : length (take at old ++ piece) ≡ at + length piece = front-overlay old at piece inside in
    let rest : List ℕ = drop (at + length piece) old in
    get_or-append_right (take at old ++ piece) rest (at + length piece) x 0 front from
    ∙ get_or-drop (at + length piece) old (x - (at + length piece)) 0
    ∙ ap (λ (i : ℕ). get_or old i 0) (omega arith)

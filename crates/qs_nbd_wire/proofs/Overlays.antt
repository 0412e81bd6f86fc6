-- Laws of `overlay`.
use Rattle.std.proofs.Common.{◌≡◌, ℕ, ◌+◌, ◌-◌, ◌≤◌, List, ◌++◌, length, take, drop, ap, sym, ◌∙◌, arith}
use Rattle.std.proofs.lemmas.List.{take-append-le, take_at, take-take, length-append, length-take-le}
use Rattle.std.proofs.Math.Seq.{take-append-add}
use Rattle.qs_bytes.specs.Pieces.{overlay}

-- up to the end of the piece
pub take-overlay : (old : List ℕ) (at : ℕ) (piece : List ℕ) (n : ℕ) → at ≤ length old → n ≡ at + length piece → take n (overlay old at piece) ≡ take at old ++ piece
unfolding overlay
take-overlay old at piece n within e =
    take_at (take at old ++ piece) (drop (at + length piece) old) n
    (length-append (take at old) piece ∙ ap (λ k. k + length piece) (length-take-le at old within) ∙ sym e)

-- before the piece
pub take-overlay_below : (old : List ℕ) (at : ℕ) (piece : List ℕ) (n : ℕ) → at ≤ length old → n ≤ at → take n (overlay old at piece) ≡ take n old
unfolding overlay
take-overlay_below old at piece n within below =
    let e = length-take-le at old within in
    take-append-le n (take at old ++ piece) (drop (at + length piece) old) (omega (arith, e, length-append (take at old) piece))
    ∙ take-append-le n (take at old) piece (omega (arith, e))
    ∙ take-take n at old below

-- within the piece
pub take-overlay_within : (old : List ℕ) (at : ℕ) (piece : List ℕ) (n : ℕ) → at ≤ length old → at ≤ n → n ≤ at + length piece → take n (overlay old at piece) ≡ take at old ++ take (n - at) piece
unfolding overlay
take-overlay_within old at piece n within from to =
    let e = length-take-le at old within in
    let f : n ≡ length (take at old) + (n - at) = omega (arith, e) in
    take-append-le n (take at old ++ piece) (drop (at + length piece) old) (omega (arith, e, length-append (take at old) piece))
    ∙ ap (λ k. take k (take at old ++ piece)) f
    ∙ take-append-add (take at old) piece (n - at)

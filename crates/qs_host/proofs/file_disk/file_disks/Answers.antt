use Rattle.std.proofs.Common.{◌≡◌, ℕ, ◌+◌, List, [], ◌∷◌, ◌++◌, ap, arith, map}
use Rattle.std.proofs.lemmas.List.{map-append}
use Rattle.std.proofs.lemmas.List.FromFn.{map-range_with_len_more}
use Rattle.std.specs.List.{range_with_len}
use Rattle.qs_host.specs.Stripes.{Shape}
use Rattle.qs_host.proofs.file_disk.file_disks.Goals as goal

pub loop-stripe-preserved : goal.loop-stripe-preserved
loop-stripe-preserved g c =
    let n : ℕ = c.loop-stripe.stripe in
    let align : ℕ = c.args.align in
    let length : ℕ = c.in_ok-file.length in
    let more : map {B = Shape} (λ k. (k, align, length)) (range_with_len 0 (n + 1)) ≡ map {B = Shape} (λ k. (k, align, length)) (range_with_len 0 n) ++ (n, align, length) ∷ []
    = map-range_with_len_more {X = Shape} (λ k. (k, align, length)) 0 n n (omega arith) in
    rw (c.in_ok-push.ensures.items, map-append, more) (ap (λ (xs : List Shape). xs ++ (n, align, length) ∷ []) c.loop-stripe.invariant)

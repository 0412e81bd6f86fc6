-- The blocks that a span covers only in part are the head and the tail.
use Rattle.std.proofs.Common.{◌≡◌, ◌≢◌, ℕ, ◌+◌, ◌*◌, ◌<◌, ◌≤◌, Bool, true, false, Option, Some, None, is_some, refl, sym, ◌∙◌, arith, true≢false}
use Rattle.std.specs.Option.{SomeIff}
use Rattle.qs_bytes.specs.Spans.{Places}
use Rattle.qs_padding.specs.Padding.{first_block, last_block, CoversBlock}
use Rattle.qs_part.specs.declared.stripe.Side.TheVariants.{Head, Tail}
use Rattle.qs_model.specs.Requests.{Client, edge, has, span_of}
use Rattle.qs_model.proofs.Basics.{blocks_lt}
use Rattle.qs_model.proofs.Geometry.{head_low, head_high, head_reached, has_tail, tail_other, head_test}
use Rattle.qs_request.specs.declared.machine.Machine.{Machine}
use Rattle.qs_request.specs.Inside.{IsKept, HasPads, client_of}

-- what isn't a head is covered wholly
pub no_head : (A : ℕ) (c : Client) → has A c Head ≡ false → CoversBlock (span_of c) A (edge A c Head)
unfolding has
no_head A c is = (grind (arith, is), grind (arith, is))

pub whole_head : (A : ℕ) (c : Client) → 0 < A → CoversBlock (span_of c) A (edge A c Head) → has A c Head ≡ false
unfolding has
whole_head A c some covers =
    let low : edge A c Head * A ≤ (span_of c).lo = head_low A c some in
    head_test (span_of c).lo (edge A c Head * A) (span_of c).hi A (omega (arith, low, covers.0)) covers.1

pub no_tail : (A : ℕ) (c : Client) → 0 < A → (span_of c).lo < (span_of c).hi → has A c Tail ≡ false → edge A c Tail ≢ edge A c Head → CoversBlock (span_of c) A (edge A c Tail)
no_tail A c h some is other =
    let low : (span_of c).lo < edge A c Head * A + A = head_high A c h in
    let first : edge A c Head ≤ edge A c Tail = head_reached A c h some in
    let rest : edge A c Head * A + A ≤ edge A c Tail * A = blocks_lt (edge A c Head) (edge A c Tail) A (omega (arith, first, other)) in
    let long : (span_of c).hi < edge A c Tail * A + A → ⊥ = λ short. true≢false (sym (has_tail A c other short) ∙ is) in
    (omega (arith, low, rest), omega (arith, long))

pub whole_tail : (A : ℕ) (c : Client) → CoversBlock (span_of c) A (edge A c Tail) → has A c Tail ≡ false
unfolding has
whole_tail A c covers = grind (arith, covers.1)

-- the plan's head and tail are those of the request
pub planned_head : (A : ℕ) (c : Client) (head : Option ℕ) → 0 < A →
    SomeIff head (CoversBlock (span_of c) A (edge A c Head) → ⊥) (edge A c Head) → is_some head ≡ has A c Head
planned_head A c None some is = go (has A c Head) refl
  where
    go : (b : Bool) → has A c Head ≡ b → false ≡ b
    go true e = absurd (is (λ covers. true≢false (sym e ∙ whole_head A c some covers)))
    go false e = refl
planned_head A c (Some b) some is = go (has A c Head) refl
  where
    go : (b : Bool) → has A c Head ≡ b → true ≡ b
    go true e = refl
    go false e = absurd (is.0 (no_head A c e))

pub planned_tail : (A : ℕ) (c : Client) (tail : Option ℕ) → 0 < A → (span_of c).lo < (span_of c).hi →
    SomeIff tail ((CoversBlock (span_of c) A (edge A c Tail) → ⊥) × (edge A c Tail ≢ edge A c Head)) (edge A c Tail) → is_some tail ≡ has A c Tail
planned_tail A c None h some is = go (has A c Tail) refl
  where
    go : (b : Bool) → has A c Tail ≡ b → false ≡ b
    go true e = absurd (is ((λ covers. true≢false (sym e ∙ whole_tail A c covers)), tail_other A c e))
    go false e = refl
planned_tail A c (Some b) h some is = go (has A c Tail) refl
  where
    go : (b : Bool) → has A c Tail ≡ b → true ≡ b
    go true e = refl
    go false e = absurd (is.0.0 (no_tail A c h some e is.0.1))

pub head_plan : (A : ℕ) (c : Client) (s : Places) (head : Option ℕ) → s ≡ span_of c → 0 < A →
    SomeIff head (CoversBlock s A (first_block s A) → ⊥) (first_block s A) → is_some head ≡ has A c Head
unfolding edge
head_plan A c s head same some is = planned_head A c head some (rw same at is)

pub tail_plan : (A : ℕ) (c : Client) (s : Places) (tail : Option ℕ) → s ≡ span_of c → 0 < A → (span_of c).lo < (span_of c).hi →
    SomeIff tail ((CoversBlock s A (last_block s A) → ⊥) × (last_block s A ≢ first_block s A)) (last_block s A) → is_some tail ≡ has A c Tail
unfolding edge
tail_plan A c s tail same h some is = planned_tail A c tail h some (rw same at is)

-- a WRITE with the pad of its head and no tail has all its pads
pub all_kept : (m : Machine) → IsKept m Head → has m.shape.align (client_of m) Tail ≡ false → HasPads m
all_kept m head none Head = head
all_kept m head none Tail = λ is. absurd (true≢false (sym is ∙ none))

-- The blocks that a request reaches lie inside the image.
use Rattle.std.proofs.Common.{◌≡◌, ℕ, ◌+◌, ◌*◌, ◌/◌, ◌%◌, ◌<◌, ◌≤◌, inl, inr, sym, subst, arith}
use Rattle.qs_part.specs.declared.stripe.Side.{Side}
use Rattle.qs_part.specs.declared.stripe.Side.TheVariants.{Head, Tail}
use Rattle.qs_model.specs.Requests.{edge, span_of}
use Rattle.qs_model.proofs.Basics.{blocks_le, block_at}
use Rattle.qs_model.proofs.Geometry.{Reaches, head_high, tail_low, head_reached}
use Rattle.qs_request_state.specs.declared.shape.Shape.{Shape}
use Rattle.qs_request.specs.declared.machine.Machine.{Machine}
use Rattle.qs_request_state.specs.Shapes.{IsShape}
use Rattle.qs_bytes.specs.Geometry.{stripe_of}
use Rattle.qs_request.specs.Table.{FitsBlock}
use Rattle.qs_request.specs.Inside.{IsGoing, IsReached, IsPlaced, client_of}

pub some_bytes : (s : Shape) → IsShape s → 0 < s.align
some_bytes s is = elim is.align [ inl e ↦ omega (arith, e) | inr e ↦ omega (arith, e) ]

-- the image is whole blocks
pub whole_size : (s : Shape) → IsShape s → s.size / s.align * s.align ≡ s.size
whole_size s is = let e : s.size / s.align * s.align + s.size % s.align ≡ s.size = block_at s.size s.align (some_bytes s is) in omega (arith, e, is.whole)

-- a block that begins inside whole blocks ends there
pub ends_inside : (A q b hi : ℕ) → b * A < hi → hi ≤ q * A → (b + 1) * A ≤ q * A
ends_inside A q b hi begins inside =
    let f : q ≤ b → ⊥ = λ l. let g : q * A ≤ b * A = blocks_le q b A l in omega arith in
    blocks_le (b + 1) q A (omega arith)

pub last_inside : (m : Machine) → IsShape m.shape → IsGoing m → (edge m.shape.align (client_of m) Tail + 1) * m.shape.align ≤ m.shape.size
last_inside m is going =
    let whole : m.shape.size / m.shape.align * m.shape.align ≡ m.shape.size = whole_size m.shape is in
    subst (λ (n : ℕ). (edge m.shape.align (client_of m) Tail + 1) * m.shape.align ≤ n) whole
    (ends_inside m.shape.align (m.shape.size / m.shape.align) (edge m.shape.align (client_of m) Tail) (span_of (client_of m)).hi
    (tail_low m.shape.align (client_of m) (some_bytes m.shape is) going.some)
    (subst (λ (n : ℕ). (span_of (client_of m)).hi ≤ n) (sym whole) going.inside))

pub block_inside : (m : Machine) (b : ℕ) → IsShape m.shape → IsReached m b → (b + 1) * m.shape.align ≤ m.shape.size
block_inside m b is r =
    let last : (edge m.shape.align (client_of m) Tail + 1) * m.shape.align ≤ m.shape.size = last_inside m is r.going in
    let low : (b + 1) * m.shape.align ≤ (edge m.shape.align (client_of m) Tail + 1) * m.shape.align =
    blocks_le (b + 1) (edge m.shape.align (client_of m) Tail + 1) m.shape.align (omega (arith, r.last)) in
    omega (arith, last, low)

-- the blocks at the ends are reached
pub edge_reached : (m : Machine) (side : Side) → IsShape m.shape → IsGoing m → IsReached m (edge m.shape.align (client_of m) side)
edge_reached m Head is going = record {
  going = going;
  first = omega arith;
  last = head_reached m.shape.align (client_of m) (some_bytes m.shape is) going.some;
}
edge_reached m Tail is going = record {
  going = going;
  first = head_reached m.shape.align (client_of m) (some_bytes m.shape is) going.some;
  last = omega arith;
}

pub at_edge : (m : Machine) (side : Side) (b : ℕ) → IsShape m.shape → IsGoing m → b ≡ edge m.shape.align (client_of m) side → IsReached m b
at_edge m side b is going same = subst (λ (n : ℕ). IsReached m n) (sym same) (edge_reached m side is going)

pub reaches : (m : Machine) (b : ℕ) → IsReached m b → Reaches m.shape.align (client_of m) b
reaches m b r = record { first = r.first; last = r.last }

pub one_more : (b A : ℕ) → (b + 1) * A ≡ b * A + A
one_more b A = omega arith

pub placed : (m : Machine) (b : ℕ) → IsShape m.shape → IsReached m b → IsPlaced (span_of (client_of m)) m.shape.align (b * m.shape.align)
placed m b is r =
    let A : ℕ = m.shape.align in
    let inside : (b + 1) * m.shape.align ≤ m.shape.size = block_inside m b is r in
    let low : edge m.shape.align (client_of m) Head * m.shape.align ≤ b * m.shape.align = blocks_le (edge m.shape.align (client_of m) Head) b m.shape.align r.first in
    let high : b * m.shape.align ≤ edge m.shape.align (client_of m) Tail * m.shape.align = blocks_le b (edge m.shape.align (client_of m) Tail) m.shape.align r.last in
    record {
      some = r.going.some;
      begins = omega (arith, low, head_high m.shape.align (client_of m) (some_bytes m.shape is));
      ends = omega (arith, high, tail_low m.shape.align (client_of m) (some_bytes m.shape is) r.going.some);
      small = omega (arith, inside, is.small, one_more b m.shape.align);
    }

-- multiples of the bytes of a block are multiples of 512
pub multiple : (s : Shape) (n : ℕ) → IsShape s → n * s.align % 512 ≡ 0
multiple s n is =
    elim is.align [
      | inl e ↦ rw e (omega arith)
      | inr e ↦ rw e (omega arith)
    ]

-- a block fits its stripe
pub fits_block : (m : Machine) (s b : ℕ) → IsShape m.shape → IsReached m b → s ≡ stripe_of b → FitsBlock m.shape s b
fits_block m s b is reached stripe = record { stripe = stripe; inside = block_inside m b is reached }

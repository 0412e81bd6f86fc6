-- What a block is stored with, and the pads that it takes it from.
use Rattle.std.proofs.Common.{◌≡◌, ℕ, ◌+◌, ◌-◌, ◌*◌, ◌<◌, inl, inr, Bool, true, false, ◌==◌, cond, List, length, get_or, refl, sym, ap, ◌∙◌, arith, true≢false, eq-eqb, ne_eqb}
use Rattle.qs_bytes.specs.Spans.{Places}
use Rattle.qs_part.specs.declared.stripe.Side.{Side}
use Rattle.qs_part.specs.declared.stripe.Side.TheVariants.{Head, Tail}
use Rattle.qs_padding.specs.Padding.{merged_at as merged_place}
use Rattle.qs_model.specs.Requests.{edge, has, span_of, covers, body_at, pad}
use Rattle.qs_model.proofs.Geometry.{outside}
use Rattle.qs_request.specs.declared.machine.Machine.{Machine}
use Rattle.qs_request_state.specs.Shapes.{IsShape}
use Rattle.qs_request.specs.Table.{IsMerged}
use Rattle.qs_request.specs.Value.{bytes_of}
use Rattle.qs_request.specs.Inside.{IsStoring, client_of}
use Rattle.qs_request.proofs.Reached.{some_bytes, reaches}

kept_pad : (pad_bytes : List ℕ) (A : ℕ) (work : List ℕ) → length pad_bytes ≡ A → cond (length pad_bytes == A) pad_bytes work ≡ pad_bytes
kept_pad pad_bytes A work long = ap (λ (t : Bool). cond t pad_bytes work) (eq-eqb (length pad_bytes) A long)

module _ (m : Machine) (b : ℕ) (is : IsShape m.shape) (s : IsStoring m b) where
  -- a place of a stored block that isn't covered has the pad's byte
  uncovered : (filled : List ℕ) (x : ℕ) → x < m.shape.align → covers (client_of m) (b * m.shape.align + x) ≡ false →
      (length (pad m.pads.pads (cond (b == edge m.shape.align (client_of m) Head) Head Tail)) ≡ m.shape.align → filled ≡ pad m.pads.pads (cond (b == edge m.shape.align (client_of m) Head) Head Tail)) →
      filled ≡ pad m.pads.pads (cond (b == edge m.shape.align (client_of m) Head) Head Tail)
  uncovered filled x below out kept =
      elim (outside m.shape.align (client_of m) b (b * m.shape.align + x) (some_bytes m.shape is) s.reached.going.some (reaches m b s.reached) (omega arith) (omega (arith, below)) out) [
        | inl h ↦ at_head (b == edge m.shape.align (client_of m) Head) (eq-eqb b (edge m.shape.align (client_of m) Head) h.0) h.1 kept
        | inr t ↦ at_tail (b == edge m.shape.align (client_of m) Head) (ne_eqb b (edge m.shape.align (client_of m) Head) t.0) t.2 kept
      ]
    where
      at_head : (t : Bool) → t ≡ true → has m.shape.align (client_of m) Head ≡ true →
          (length (pad m.pads.pads (cond t Head Tail)) ≡ m.shape.align → filled ≡ pad m.pads.pads (cond t Head Tail)) → filled ≡ pad m.pads.pads (cond t Head Tail)
      at_head true e wanted kept = kept (s.kept Head wanted)
      at_head false e wanted kept = absurd (true≢false (sym e))

      at_tail : (t : Bool) → t ≡ false → has m.shape.align (client_of m) Tail ≡ true →
          (length (pad m.pads.pads (cond t Head Tail)) ≡ m.shape.align → filled ≡ pad m.pads.pads (cond t Head Tail)) → filled ≡ pad m.pads.pads (cond t Head Tail)
      at_tail true e wanted kept = absurd (true≢false e)
      at_tail false e wanted kept = kept (s.kept Tail wanted)

  -- the pad over the block to work in, and the covered bytes merged, is the block's content
  pub is_merged : (places : Places) (bytes work made pad_bytes : List ℕ) (end : Side) → places ≡ span_of (client_of m) → bytes ≡ bytes_of m.ask.kind m.body → length work ≡ m.shape.align →
      end ≡ cond (b == edge m.shape.align (client_of m) Head) Head Tail → pad_bytes ≡ pad m.pads.pads end →
      ((i : ℕ) → i < length work → get_or made i 0 ≡ merged_place places bytes (b * length work + i) (get_or (cond (length pad_bytes == length work) pad_bytes work) i 0)) →
      IsMerged m.shape.align (client_of m) m.pads.pads b made
  is_merged places bytes work made pad_bytes end same bytes_is whole end_is pad_is merged x below =
      (rw (same, bytes_is, whole, pad_is, end_is) at (merged x (omega (arith, whole, below)))) ∙ choice (covers (client_of m) (b * m.shape.align + x)) refl
    where
      choice : (t : Bool) → covers (client_of m) (b * m.shape.align + x) ≡ t →
          cond t (get_or (bytes_of m.ask.kind m.body) (b * m.shape.align + x - (span_of (client_of m)).lo) 0)
          (get_or (cond (length (pad m.pads.pads (cond (b == edge m.shape.align (client_of m) Head) Head Tail)) == m.shape.align)
          (pad m.pads.pads (cond (b == edge m.shape.align (client_of m) Head) Head Tail)) work) x 0)
          ≡ cond t (body_at (client_of m) (b * m.shape.align + x)) (get_or (pad m.pads.pads (cond (b == edge m.shape.align (client_of m) Head) Head Tail)) x 0)
      choice true e = refl
      choice false e = ap (λ (xs : List ℕ). get_or xs x 0) (uncovered _ x below e (λ long. kept_pad _ _ work long))

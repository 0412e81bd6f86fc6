-- Blocks and the image that they make.
use Rattle.std.proofs.Common.{◌≡◌, ◌≢◌, ℕ, ◌+◌, ◌-◌, ◌*◌, ◌/◌, ◌%◌, ◌<◌, ◌≤◌, inl, inr, List, length, get_or, sym, ap, ◌∙◌, arith, drop}
use Rattle.std.proofs.lemmas.List.{ext_get_or, get_or-take, get_or-drop}
use Rattle.std.proofs.lemmas.List.FromFn.{length-map-range_with_len, get_or-map-range_with_len}
use Rattle.std.proofs.lemmas.Bool.{cases_lt}
use Rattle.std.proofs.lemmas.Nat.{div-mul-add, mod-mul-add, div-add-mod'}
use Rattle.qs_bytes.specs.Pieces.{part, overlay}
use Rattle.qs_bytes.proofs.Overlays.{length-part, length-overlay, get_or-overlay_before, get_or-overlay_inside, get_or-overlay_behind}
use Rattle.qs_outside.specs.Blocks.{Same, Stored}
use Rattle.qs_image.specs.Image.{image}

pub length-image : (align size : ℕ) (blocks : ℕ → List ℕ) → length (image align size blocks) ≡ size
unfolding image
length-image align size blocks = length-map-range_with_len _ 0 size

-- a byte of the image stands in its block
pub get_or-image : (align size : ℕ) (blocks : ℕ → List ℕ) (x : ℕ) → x < size →
    get_or (image align size blocks) x 0 ≡ get_or (blocks (x / align)) (x % align) 0
unfolding image
get_or-image align size blocks x below = get_or-map-range_with_len _ 0 size x x 0 below (omega arith)

-- the same blocks make the same image
pub image-same : (align size : ℕ) (old new : ℕ → List ℕ) → Same old new → image align size new ≡ image align size old
image-same align size old new same =
    ext_get_or 0 _ _ (length-image align size new ∙ sym (length-image align size old))
    (λ x below.
    let inside : x < size = omega (arith, length-image align size new) in
    get_or-image align size new x inside
    ∙ ap (λ (block : List ℕ). get_or block (x % align) 0) (same (x / align))
    ∙ sym (get_or-image align size old x inside))

-- a block is a part of the image
pub part-image : (align size : ℕ) (blocks : ℕ → List ℕ) (b : ℕ) → (b + 1) * align ≤ size → length (blocks b) ≡ align →
    part (image align size blocks) (b * align) align ≡ blocks b
part-image align size blocks b inside whole =
    let image_is : List ℕ = image align size blocks in
    let end : b * align + align ≤ size = omega arith in
    let long : length (part image_is (b * align) align) ≡ align =
    length-part image_is (b * align) align (omega (arith, length-image align size blocks)) in
    ext_get_or 0 _ _ (long ∙ sym whole)
    (λ i below.
    let small : i < align = omega (arith, long) in
    get_or-take align (drop (b * align) image_is) i 0 small
    ∙ get_or-drop (b * align) image_is i 0
    ∙ get_or-image align size blocks (b * align + i) (omega arith)
    ∙ ap (λ (q : ℕ). get_or (blocks q) ((b * align + i) % align) 0) (div-mul-add b align i small)
    ∙ ap (λ (r : ℕ). get_or (blocks b) r 0) (mod-mul-add b align i small))

-- a place before a block, or behind it, is of another block
another_before : (align b x : ℕ) → x < b * align → x / align ≢ b
another_before align b x before is =
    let product : x / align * align ≡ b * align = ap (λ (q : ℕ). q * align) is in
    absurd (omega (arith, div-add-mod' x align))

another_behind : (align b x : ℕ) → 0 < align → b * align + align ≤ x → x / align ≢ b
another_behind align b x some behind is =
    let product : x / align * align ≡ b * align = ap (λ (q : ℕ). q * align) is in
    let rest : x % align < align = omega arith in
    absurd (omega (arith, div-add-mod' x align))

-- a byte of a block that was written
written_byte : (align b i : ℕ) (bytes block : List ℕ) → i < align → block ≡ bytes →
    get_or block ((b * align + i) % align) 0 ≡ get_or bytes i 0
written_byte align b i bytes block small is =
    ap (λ (r : ℕ). get_or block r 0) (mod-mul-add b align i small) ∙ ap (λ (xs : List ℕ). get_or xs i 0) is

-- a block that is stored is written over the image
pub image-stored : (align size : ℕ) (old new : ℕ → List ℕ) (b : ℕ) (bytes : List ℕ) → 0 < align → (b + 1) * align ≤ size →
    length bytes ≡ align → Stored b bytes old new → image align size new ≡ overlay (image align size old) (b * align) bytes
image-stored align size old new b bytes some inside whole stored =
    let image_is : List ℕ = image align size old in
    let long : length image_is ≡ size = length-image align size old in
    let end : b * align + align ≤ size = omega arith in
    let fits : b * align + length bytes ≤ length image_is = omega arith in
    ext_get_or 0 _ _ (length-image align size new ∙ sym (length-overlay image_is (b * align) bytes fits ∙ long))
    (λ x below.
    let here : x < size = omega (arith, length-image align size new) in
    let other : x / align ≢ b → get_or (image align size new) x 0 ≡ get_or image_is x 0 =
    λ ne. get_or-image align size new x here
    ∙ ap (λ (block : List ℕ). get_or block (x % align) 0) (stored.others (x / align) ne)
    ∙ sym (get_or-image align size old x here) in
    elim (cases_lt x (b * align)) [
      | inl before ↦ other (another_before align b x before)
          ∙ sym (get_or-overlay_before image_is (b * align) bytes x (omega arith) before)
      | inr from ↦ elim (cases_lt x (b * align + align)) [
        | inl within ↦
            let i : ℕ = x - b * align in
            let small : i < align = omega arith in
            let is : x ≡ b * align + i = omega arith in
            get_or-image align size new x here
            ∙ ap (λ (y : ℕ). get_or (new (y / align)) (y % align) 0) is
            ∙ ap (λ (q : ℕ). get_or (new q) ((b * align + i) % align) 0) (div-mul-add b align i small)
            ∙ written_byte align b i bytes (new b) small stored.here
            ∙ sym (get_or-overlay_inside image_is (b * align) bytes x (omega arith) from (omega arith))
        | inr behind ↦ other (another_behind align b x some behind)
            ∙ sym (get_or-overlay_behind image_is (b * align) bytes x fits (omega arith))
      ]
    ])

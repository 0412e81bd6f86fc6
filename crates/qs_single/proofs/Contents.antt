-- The image's bytes, as the model has them and as the disks tell them.
use Rattle.std.proofs.Common.{◌≡◌, ℕ, zero, suc, ◌+◌, ◌-◌, ◌/◌, ◌%◌, min, ◌<◌, ◌≤◌, ◌⊎◌, inl, inr, Bool, true, false, ◌&&◌, List, [], ◌∷◌, length, get_or, take, drop, map, refl, sym, ap, subst, ◌∙◌, arith}
use Rattle.std.specs.Prelude.{IsTrue}
use Rattle.std.proofs.lemmas.Bool.{cases_lt}
use Rattle.std.proofs.lemmas.List.{ext_get_or, get_or-take, get_or-drop, length-map, length-take-le}
use Rattle.qs_bytes.specs.Geometry.{stripe_of}
use Rattle.qs_bytes.specs.Pieces.{part, overlay}
use Rattle.qs_bytes.proofs.Overlays.{length-part, length-overlay, get_or-overlay_before, get_or-overlay_inside, get_or-overlay_behind}
use Rattle.qs_outside.specs.Blocks.{Seen}
use Rattle.qs_image.specs.Image.{AllTell, align_of, block_now, block_past, content, size_of}
use Rattle.qs_image.specs.Opening.{IsImage}
use Rattle.qs_image.proofs.Contents.{get_or-image, length-image}
use Rattle.qs_model.specs.Worlds.{World, byte_at}
use Rattle.qs_stripe.specs.Table.{StripeState, StripeValue, value_of as stripe_value}
use Rattle.qs_world.specs.Images.{all_tell, stripe_at}
use Rattle.qs_world.specs.Stands.{Stands}
use Rattle.qs_world.specs.Values.{WorldValue, disks_of, stripes_of}
use Rattle.qs_world.proofs.SameDisks.{disk_at}

tells_all : (vs : List StripeValue) → ((k : ℕ) → k < length vs → IsTrue (stripe_at vs k).disk.tells) → IsTrue (all_tell vs)
tells_all [] each = refl
tells_all (v ∷ vs) each = both v.disk.tells (all_tell vs) (each zero (omega arith)) (tells_all vs (λ k h. each (suc k) (omega (arith, h))))
  where
    both : (a b : Bool) → IsTrue a → IsTrue b → IsTrue (a && b)
    both true b x y = y
    both false b x y = x

module _ {D : Type 0} (seen : D → Seen) (w : WorldValue D) (m : World) (stands : Stands seen w m) (image : IsImage (disks_of seen w)) where
  -- where all disks tell their content, the model does
  pub told_model : AllTell (disks_of seen w) → IsTrue m.tells
  told_model told =
      subst IsTrue (sym stands.tells)
      (tells_all (stripes_of seen w)
      (λ k h. subst (λ (d : Seen). IsTrue d.tells) (disk_at seen w.stripes k)
      (told k (omega (arith, h, image.0.0, length-map w.stripes (stripe_value seen), length-map w.stripes (λ (s : StripeState D). s.disk), length-map (map (λ (s : StripeState D). s.disk) w.stripes) seen)))))

  pub now_is : AllTell (disks_of seen w) → (b : ℕ) → block_now (disks_of seen w) b ≡ m.image.now b
  now_is told b =
      ap (λ (d : Seen). d.now b) (disk_at seen w.stripes (stripe_of b)) ∙ sym (stands.image.now (told_model told) b)

  pub past_is : AllTell (disks_of seen w) → (b : ℕ) → block_past (disks_of seen w) b ≡ m.image.past b
  past_is told b =
      ap (λ (d : Seen). d.past b) (disk_at seen w.stripes (stripe_of b)) ∙ sym (stands.image.past (told_model told) b)

  pub byte_is : (A : ℕ) → A ≡ align_of (disks_of seen w) → AllTell (disks_of seen w) → (x : ℕ) → x < size_of (disks_of seen w) →
      get_or (content (disks_of seen w)) x 0 ≡ byte_at A m.image x
  byte_is A align told x below =
      get_or-image (align_of (disks_of seen w)) (size_of (disks_of seen w)) (block_now (disks_of seen w)) x below
      ∙ ap (λ (block : List ℕ). get_or block (x % align_of (disks_of seen w)) 0) (now_is told (x / align_of (disks_of seen w)))
      ∙ ap (λ (a : ℕ). byte_at a m.image x) (sym align)

  pub content_length : length (content (disks_of seen w)) ≡ size_of (disks_of seen w)
  content_length = length-image (align_of (disks_of seen w)) (size_of (disks_of seen w)) (block_now (disks_of seen w))

-- contents with the same bytes
pub same_bytes : (old new : List ℕ) → length new ≡ length old → ((x : ℕ) → x < length old → get_or new x 0 ≡ get_or old x 0) → new ≡ old
same_bytes old new long each = ext_get_or 0 new old long (λ x below. each x (omega (arith, below, long)))

-- bytes that are those of a part
pub part_bytes : (old bytes : List ℕ) (at n : ℕ) → length bytes ≡ n → at + n ≤ length old → ((i : ℕ) → i < n → get_or bytes i 0 ≡ get_or old (at + i) 0) → bytes ≡ part old at n
part_bytes old bytes at n long fits each =
    ext_get_or 0 bytes (part old at n) (long ∙ sym (length-part old at n fits))
    (λ i below.
    let small : i < n = omega (arith, below, long) in
    each i small ∙ sym (get_or-take n (drop at old) i 0 small ∙ get_or-drop at old i 0))

-- A content that has, below place n, the covered bytes, and the old ones elsewhere: a front of the bytes was written.
pub front_bytes : (old new bytes : List ℕ) (at n : ℕ) → length new ≡ length old → at + length bytes ≤ length old →
    ((x : ℕ) → at ≤ x → x < at + length bytes → x < n → get_or new x 0 ≡ get_or bytes (x - at) 0) →
    ((x : ℕ) → x < length old → (x < at) ⊎ (min n (at + length bytes) ≤ x) → get_or new x 0 ≡ get_or old x 0) →
    new ≡ overlay old at (take (min (n - at) (length bytes)) bytes)
front_bytes old new bytes at n long fits written kept =
    let m : ℕ = min (n - at) (length bytes) in
    let piece : List ℕ = take m bytes in
    let short : m ≤ length bytes = omega arith in
    let is : length piece ≡ m = length-take-le m bytes short in
    let room : at + length piece ≤ length old = omega (arith, is, short, fits) in
    let start : at ≤ length old = omega (arith, fits) in
    let same : length (overlay old at piece) ≡ length old = length-overlay old at piece room in
    ext_get_or 0 new (overlay old at piece) (long ∙ sym same)
    (λ x below.
    let inside : x < length old = omega (arith, below, long) in
    elim (cases_lt x at) [
      | inl before ↦ kept x inside (inl before) ∙ sym (get_or-overlay_before old at piece x start before)
      | inr from ↦ elim (cases_lt x (at + m)) [
        | inl within ↦
            written x from (omega (arith, within)) (omega (arith, from, within))
            ∙ sym (get_or-overlay_inside old at piece x start from (omega (arith, within, is))
            ∙ get_or-take m bytes (x - at) 0 (omega (arith, from, within)))
        | inr behind ↦
            kept x inside (inr (omega (arith, from, behind)))
            ∙ sym (get_or-overlay_behind old at piece x room (omega (arith, behind, is)))
      ]
    ])

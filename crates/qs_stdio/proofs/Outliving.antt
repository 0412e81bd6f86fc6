-- What a crash may leave behind a session.
use Rattle.std.proofs.Common.{◌≡◌, ℕ, ◌/◌, ◌%◌, ◌<◌, ◌⊎◌, inl, inr, List, [], ◌∷◌, ◌++◌, get_or, sym, ap, ◌∙◌, subst}
use Rattle.std.specs.List.{Contains}
use Rattle.qs_bytes.specs.declared.ask.Kind.TheVariants.{Flush}
use Rattle.qs_bytes.specs.declared.ask.Verdict.TheVariants.{Fine}
use Rattle.qs_outside.specs.Blocks.{Seen}
use Rattle.qs_image.specs.Image.{align_of, block_now, content, size_of}
use Rattle.qs_image.proofs.Contents.{get_or-image}
use Rattle.qs_durable.proofs.Rows.{only_member}
use Rattle.qs_single.specs.Remaining.{IsLeftAt, IsSettled}
use Rattle.qs_stdio.specs.Service.{Exchange, CalledAll, OutlastsAll, asked_in}
use Rattle.qs_stdio.specs.Surviving.{Stood, Survives}

-- of settled disks a crash leaves the byte as it is
settled_byte : (disks : List Seen) (x u : ℕ) → IsSettled disks → x < size_of disks → IsLeftAt disks x u → get_or (content disks) x 0 ≡ u
settled_byte disks x u settled below h =
    let only : h.block ≡ block_now disks (x / align_of disks) =
    only_member (block_now disks (x / align_of disks)) h.block (subst (λ (l : List (List ℕ)). Contains l h.block) (settled (x / align_of disks)) h.left) in
    get_or-image (align_of disks) (size_of disks) (block_now disks) x below
    ∙ ap (λ (block : List ℕ). get_or block (x % align_of disks) 0) (sym only) ∙ h.byte

stood_first : (disks : List Seen) (xs : List Exchange) (x u : ℕ) → get_or (content disks) x 0 ≡ u → Stood disks xs x u
stood_first disks [] x u is = is
stood_first disks (e ∷ es) x u is = inl is

-- what may be left behind some requests might be left before, or stood there since
stood : (old new : List Seen) (xs : List Exchange) (x u : ℕ) → CalledAll old xs new → OutlastsAll old xs new → x < size_of old → IsLeftAt new x u →
    IsLeftAt old x u ⊎ Stood old xs x u
stood old new [] x u called all below h = inl (subst (λ (d : List Seen). IsLeftAt d x u) all h)
stood old new (e ∷ es) x u called all below h =
    elim (stood e.left new es x u called.1 all.1 (rw (called.0.same.size 0) below) h) [
      | inl here ↦ elim (all.0.left x u below here) [
        | inl before ↦ inl before
        | inr other ↦ elim other [
          | inl was ↦ inr (inl was)
          | inr more ↦ elim more [
            | inl is ↦ inr (inr (inr (stood_first e.left es x u is)))
            | inr refused ↦ inr (inr (inl refused))
          ]
        ]
      ]
      | inr since ↦ inr (inr (inr since))
    ]

-- from settled disks on
from_settled : (old new : List Seen) (xs : List Exchange) (x u : ℕ) → IsSettled old → CalledAll old xs new → OutlastsAll old xs new → x < size_of old → IsLeftAt new x u →
    Stood old xs x u
from_settled old new xs x u settled called all below h = elim (stood old new xs x u called all below h) [
  | inl before ↦ stood_first old xs x u (settled_byte old x u settled below before)
  | inr since ↦ since
]

-- and from a FLUSH that is Fine
from_flush : (old new : List Seen) (front : List Exchange) (flush : Exchange) (behind : List Exchange) (x u : ℕ) → CalledAll old (front ++ flush ∷ behind) new →
    OutlastsAll old (front ++ flush ∷ behind) new → (asked_in flush).kind ≡ Flush → flush.verdict ≡ Fine → x < size_of old → IsLeftAt new x u → Stood flush.left behind x u
from_flush old new [] flush behind x u called all kind fine below h =
    from_settled flush.left new behind x u (all.0.flushed kind fine) called.1 all.1 (rw (called.0.same.size 0) below) h
from_flush old new (e ∷ front) flush behind x u called all kind fine below h =
    from_flush e.left new front flush behind x u called.1 all.1 kind fine (rw (called.0.same.size 0) below) h

pub survives : (old new : List Seen) (xs : List Exchange) → IsSettled old → CalledAll old xs new → OutlastsAll old xs new → Survives old xs new
survives old new xs settled called all = record {
  opening = λ x u below h. from_settled old new xs x u settled called all below h;
  flushed = λ front flush behind whole kind fine x u below h.
      from_flush old new front flush behind x u (subst (λ (l : List Exchange). CalledAll old l new) whole called)
      (subst (λ (l : List Exchange). OutlastsAll old l new) whole all) kind fine below h;
}

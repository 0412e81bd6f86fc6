-- The image of the model that eight stripes in the program stand for.
use Rattle.std.specs.Prelude.{◌≡◌, ◌≢◌, ◌↔◌, ℕ, Bool, true, ◌&&◌, List, [], ◌∷◌, Some, None, IsTrue, slice_index_or}
use Rattle.qs_part.specs.declared.stripe.Side.{Side}
use Rattle.qs_image.specs.Image.{no_disk}
use Rattle.qs_outside.specs.declared.rigged_disk.Plans.{Plans}
use Rattle.qs_outside.specs.Rigged.{plans_of}
use Rattle.qs_model.specs.Worlds.{Hold, Image}
use Rattle.qs_bytes.specs.Geometry.{stripe_of}
use Rattle.qs_stripe.specs.Table.{StripeValue}

-- what stands for a stripe that isn't there
abbrev pub no_stripe : StripeValue
no_stripe = record { disk = no_disk; hold = λ k side. None; clean = true }

abbrev pub stripe_at : List StripeValue → ℕ → StripeValue
stripe_at stripes j = slice_index_or stripes j no_stripe

-- each stripe's disk tells its content
abbrev pub all_tell : List StripeValue → Bool
all_tell [] = true
all_tell (v ∷ vs) = v.disk.tells && all_tell vs

-- The image of the model is that of these stripes: a block's content, where it is told, is that of its
-- stripe's disk, it is held by whom its stripe says, and a stripe is clean where it says so. A stripe has holds of
-- its own blocks alone.
pub record StandsImage (stripe : ℕ → StripeValue) (tells : Bool) (i : Image) : Type 0 where
  pub now : IsTrue tells → (b : ℕ) → i.now b ≡ (stripe (stripe_of b)).disk.now b
  pub past : IsTrue tells → (b : ℕ) → i.past b ≡ (stripe (stripe_of b)).disk.past b
  pub held : (b : ℕ) (h : Hold) → (i.holder b ≡ Some h) ↔ ((stripe (stripe_of b)).hold h.place h.side ≡ Some b)
  pub here : (j k : ℕ) (side : Side) (b : ℕ) → (stripe j).hold k side ≡ Some b → stripe_of b ≡ j
  pub clean : (j : ℕ) → i.clean j ≡ (stripe j).clean

-- the failures that are planned are those of the stripes' disks
abbrev pub StandsPlans : (ℕ → StripeValue) → (ℕ → Plans) → Type 0
StandsPlans stripe plans = (j : ℕ) → plans j ≡ plans_of (stripe j).disk.planned

-- one stripe is now so, and every other is as it was
pub record Changed (j : ℕ) (v : StripeValue) (old new : ℕ → StripeValue) : Type 0 where
  pub this : new j ≡ v
  pub others : (i : ℕ) → i ≢ j → new i ≡ old i

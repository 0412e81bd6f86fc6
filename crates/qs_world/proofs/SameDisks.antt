-- The disks of the core behind an event.
use Rattle.std.proofs.Common.{◌≡◌, ℕ, zero, suc, ◌≤◌, inl, inr, List, [], ◌∷◌, length, map, sym, subst, ◌∙◌, refl, arith}
use Rattle.std.proofs.lemmas.List.{length-map}
use Rattle.std.specs.Prelude.{Some, None}
use Rattle.qs_outside.specs.Blocks.{Seen, Fixed}
use Rattle.qs_image.specs.Image.{SameDisks, disk}
use Rattle.qs_part.specs.declared.stripe.StripeOp.{StripeOp}
use Rattle.qs_part.specs.declared.stripe.StripeOp.TheVariants.{Load as LoadOp, Hold as HoldOp, Store as StoreOp, Free as FreeOp, Sync as SyncOp}
use Rattle.qs_part.specs.declared.stripe.StripeReply.{StripeReply}
use Rattle.qs_part.specs.declared.stripe.StripeReply.TheVariants.{Filled, Fault, HeldBy, Taken, Done, Freed, NotHeld, Clean, Synced}
use Rattle.qs_part.specs.declared.event.Outcome.{Outcome}
use Rattle.qs_model.proofs.Basics.{same_or}
use Rattle.qs_stripe.specs.Table.{StripeState, StripeValue, value_of as stripe_value, answers as stripe_answers}
use Rattle.qs_world.specs.Events.{HasCause, IsCaused}
use Rattle.qs_world.specs.Images.{Changed, stripe_at}
use Rattle.qs_world.specs.Values.{WorldValue, disks_of, stripes_of}

-- the disk of a stripe
pub disk_at : {D : Type 0} (seen : D → Seen) (ss : List (StripeState D)) (j : ℕ) →
    disk (map seen (map (λ (s : StripeState D). s.disk) ss)) j ≡ (stripe_at (map (stripe_value seen) ss) j).disk
disk_at seen [] zero = refl
disk_at seen [] (suc j) = refl
disk_at seen (s ∷ ss) zero = refl
disk_at seen (s ∷ ss) (suc j) = disk_at seen ss j

-- the same disks, where each is
pub same_each : (old new : List Seen) → length new ≡ length old → ((k : ℕ) → Fixed (disk old k) (disk new k) × ((disk old k).faults ≤ (disk new k).faults)) → SameDisks old new
same_each old new count each = record {
  count = count;
  stripe = λ k. (each k).0.stripe;
  align = λ k. (each k).0.align;
  size = λ k. (each k).0.size;
  tells = λ k. (each k).0.tells;
  later = λ k. (each k).1;
}

pub stays : (d : Seen) → Fixed d d × (d.faults ≤ d.faults)
stays d = (record { stripe = refl; align = refl; size = refl; tells = refl }, omega arith)

-- stripes that are as they were
pub same_disks : {D : Type 0} (seen : D → Seen) (old new : WorldValue D) → new.stripes ≡ old.stripes → SameDisks (disks_of seen old) (disks_of seen new)
same_disks {D} seen old new same =
    subst (λ (ss : List (StripeState D)). SameDisks (disks_of seen old) (map seen (map (λ (s : StripeState D). s.disk) ss))) (sym same)
    (same_each (disks_of seen old) (disks_of seen old) refl (λ k. stays (disk (disks_of seen old) k)))

-- an event that called no disk
pub uncalled : {D : Type 0} (seen : D → Seen) (old new : WorldValue D) (outcome : Outcome) → new.stripes ≡ old.stripes → IsCaused seen old outcome new → HasCause seen old outcome new
uncalled seen old new outcome same fault = record { disks = same_disks seen old new same; fault = fault; rest = λ e. same }

later_as : (old new : StripeValue) → new ≡ old → Fixed old.disk new.disk × (old.disk.faults ≤ new.disk.faults)
later_as old new same = subst (λ (v : StripeValue). Fixed old.disk v.disk × (old.disk.faults ≤ v.disk.faults)) (sym same) (stays old.disk)

-- an operation's disk is the same, later
pub later_disk : (old new : StripeValue) (op : StripeOp) (reply : StripeReply) → stripe_answers old op reply new →
    Fixed old.disk new.disk × (old.disk.faults ≤ new.disk.faults)
later_disk old new (LoadOp b k buf) (Filled got) row = (row.0.fixed, row.0.later)
later_disk old new (LoadOp b k buf) (Fault (Some back)) row = (row.0.fixed, row.0.later)
later_disk old new (HoldOp b k end buf) (HeldBy j back) row = later_as old new row.2
later_disk old new (HoldOp b k end buf) (Taken c back) row = later_as old new row.3
later_disk old new (HoldOp b k end buf) (Filled got) row = (row.2.fixed, row.2.later)
later_disk old new (HoldOp b k end buf) (Fault (Some back)) row = (row.2.fixed, row.2.later)
later_disk old new (StoreOp b k buf) (HeldBy j back) row = later_as old new row.3
later_disk old new (StoreOp b k buf) (Done back) row = (row.1.fixed, row.1.later)
later_disk old new (StoreOp b k buf) (Fault (Some back)) row = (row.1.fixed, row.1.later)
later_disk old new (FreeOp b k) Freed row = subst (λ (d : Seen). Fixed old.disk d × (old.disk.faults ≤ d.faults)) (sym row.1) (stays old.disk)
later_disk old new (FreeOp b k) NotHeld row = later_as old new row.1
later_disk old new SyncOp Clean row = later_as old new row.1
later_disk old new SyncOp Synced row = (row.1.fixed, row.1.later)
later_disk old new SyncOp (Fault None) row = (row.1.fixed, row.1.later)
later_disk old new _ _ row = absurd row

-- one stripe's disk was called
pub called_disks : {D : Type 0} (seen : D → Seen) (old new : WorldValue D) (z : ℕ) (v : StripeValue) → length new.stripes ≡ length old.stripes →
    Changed z v (stripe_at (stripes_of seen old)) (stripe_at (stripes_of seen new)) →
    Fixed (stripe_at (stripes_of seen old) z).disk v.disk × ((stripe_at (stripes_of seen old) z).disk.faults ≤ v.disk.faults) →
    SameDisks (disks_of seen old) (disks_of seen new)
called_disks {D} seen old new z v count change later =
    same_each (disks_of seen old) (disks_of seen new)
    (length-map (map (λ (s : StripeState D). s.disk) new.stripes) seen ∙ length-map new.stripes (λ (s : StripeState D). s.disk) ∙ count
    ∙ sym (length-map old.stripes (λ (s : StripeState D). s.disk)) ∙ sym (length-map (map (λ (s : StripeState D). s.disk) old.stripes) seen))
    (λ k. subst (λ (d : Seen). Fixed d (disk (disks_of seen new) k) × (d.faults ≤ (disk (disks_of seen new) k).faults)) (sym (disk_at seen old.stripes k))
    (subst (λ (d : Seen). Fixed (stripe_at (stripes_of seen old) k).disk d × ((stripe_at (stripes_of seen old) k).disk.faults ≤ d.faults)) (sym (disk_at seen new.stripes k))
    (each k)))
  where
    each : (k : ℕ) → Fixed (stripe_at (stripes_of seen old) k).disk (stripe_at (stripes_of seen new) k).disk
        × ((stripe_at (stripes_of seen old) k).disk.faults ≤ (stripe_at (stripes_of seen new) k).disk.faults)
    each k = elim (same_or k z) [
      | inl e ↦ subst (λ (i : ℕ). Fixed (stripe_at (stripes_of seen old) i).disk (stripe_at (stripes_of seen new) i).disk
          × ((stripe_at (stripes_of seen old) i).disk.faults ≤ (stripe_at (stripes_of seen new) i).disk.faults)) (sym e)
          (subst (λ (u : StripeValue). Fixed (stripe_at (stripes_of seen old) z).disk u.disk × ((stripe_at (stripes_of seen old) z).disk.faults ≤ u.disk.faults)) (sym change.this) later)
      | inr n ↦ later_as (stripe_at (stripes_of seen old) k) (stripe_at (stripes_of seen new) k) (change.others k n)
    ]

-- The session was attached to the export of a name, or there is none.
use Rattle.std.proofs.Common.{◌≡◌, ℕ, Bool, true, false, List, sym, subst, not}
use Rattle.std.specs.Prelude.{Option, None, Some, IfSome, is_some}
use Rattle.qs_outside.specs.Blocks.{Seen}
use Rattle.qs_part.specs.declared.graph.ExportInfo.{ExportInfo}
use Rattle.qs_graph.specs.Readings.{info_of}
use Rattle.qs_nbd_handshake.specs.declared.event.Told.{Told}
use Rattle.qs_nbd_handshake.specs.declared.event.Want.{Want}
use Rattle.qs_nbd_handshake.specs.declared.event.Want.TheVariants.{Attach}
use Rattle.qs_world.specs.Values.{WorldValue}
use Rattle.qs_calls.specs.Runs.{Begins}
use Rattle.qs_single.specs.Resting.{Attaches}
use Rattle.qs_opening.specs.Telling.{WantChanges, Joins, JoinsAt}

module _ {D : Type 0} (seen : D → Seen) (session : ℕ) (old new : WorldValue D) where
  module _ (writable : Bool) (name : List ℕ) where
    -- there is an export
    pub joined : (found meant : Option ExportInfo) (info : ExportInfo) → found ≡ meant → is_some found ≡ true → Attaches seen session writable old name info new →
        JoinsAt seen session writable old name meant new
    joined (Some known) meant info is some attaches =
        subst (λ (m : Option ExportInfo). JoinsAt seen session writable old name m new) is (info, attaches)
    joined None meant info is some attaches = absurd (cc)

    -- there is none
    pub unjoined : (found meant : Option ExportInfo) → found ≡ meant → is_some found ≡ false → new ≡ old → JoinsAt seen session writable old name meant new
    unjoined (Some known) meant is none same = absurd (cc)
    unjoined None meant is none same = subst (λ (m : Option ExportInfo). JoinsAt seen session writable old name m new) is same

  -- bytes that are a name
  pub joins_named : (result : Option Told) (bytes : Option (List ℕ)) (name : List ℕ) → bytes ≡ Some name →
      IfSome result (λ told. (disks : List D) (read_only : Bool) → Begins seen disks read_only old →
      JoinsAt seen session (not read_only) old name (info_of old.graph name) new) →
      IfSome result (λ told. (disks : List D) (read_only : Bool) → Begins seen disks read_only old → Joins seen session (not read_only) old bytes new)
  joins_named result bytes name is joins =
      subst (λ (b : Option (List ℕ)). IfSome result (λ told. (disks : List D) (read_only : Bool) → Begins seen disks read_only old →
      Joins seen session (not read_only) old b new)) (sym is) joins

  -- one who wants to attach
  pub changes_attached : (result : Option Told) (wanted : Want) (bytes : Option (List ℕ)) → wanted ≡ Attach bytes →
      IfSome result (λ told. (disks : List D) (read_only : Bool) → Begins seen disks read_only old → Joins seen session (not read_only) old bytes new) →
      IfSome result (λ told. (disks : List D) (read_only : Bool) → Begins seen disks read_only old → WantChanges seen session (not read_only) old wanted new)
  changes_attached result wanted bytes is joins =
      subst (λ (w : Want). IfSome result (λ told. (disks : List D) (read_only : Bool) → Begins seen disks read_only old →
      WantChanges seen session (not read_only) old w new)) (sym is) joins

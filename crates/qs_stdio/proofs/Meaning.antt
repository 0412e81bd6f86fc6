-- What names and options mean over a core that was just opened.
use Rattle.std.proofs.Common.{◌≡◌, ℕ, Bool, true, false, not, if◌then◌else◌, List, [], ◌∷◌, map, codes, refl, ap, ◌∙◌}
use Rattle.std.specs.Prelude.{Option, None, Some, option_map, position}
use Rattle.std.specs.Str.{bytes_eq}
use Rattle.qs_bytes.specs.declared.ask.Mode.{Mode}
use Rattle.qs_outside.specs.Blocks.{Seen}
use Rattle.qs_image.specs.Image.{size_of}
use Rattle.qs_graph.specs.declared.export.Export.{Export}
use Rattle.qs_graph.specs.Exports.{found_at}
use Rattle.qs_graph.specs.Table.{GraphValue, info_at}
use Rattle.qs_nbd_handshake.specs.declared.event.HandStep.TheVariants.{Stay, Transmit}
use Rattle.qs_nbd_handshake.specs.declared.event.Told.{Told}
use Rattle.qs_nbd_handshake.specs.declared.event.Told.TheVariants as told
use Rattle.qs_nbd_handshake.specs.declared.wish.Wish.{Wish}
use Rattle.qs_nbd_handshake.specs.declared.wish.Wish.TheVariants as wish
use Rattle.qs_nbd_handshake.specs.Answers.{export_step, go_step, hand_step_of}
use Rattle.qs_nbd_handshake.specs.Wishes.{want_of}
use Rattle.qs_world.specs.Values.{WorldValue}
use Rattle.qs_calls.specs.Runs.{Begins}
use Rattle.qs_single.proofs.Attaching.{graph_is, with_export}
use Rattle.qs_opening.specs.Telling.{told_info, told_name, graph_told}
use Rattle.qs_stdio.specs.Sessions.{attaches, wish_goes_on, means_disk}

-- the export has this name, and no free place has
abbrev has_it : Bool → Option Export → Bool
has_it same None = false
has_it same (Some x) = same

-- the only export is found by a name that means it, and by no other
found_by : (size : ℕ) (read_only : Bool) (name : List ℕ) → found_at (with_export size read_only).places name ≡ (if means_disk (Some name) then Some 0 else None)
found_by size read_only [] = refl
found_by size read_only (byte ∷ bytes) = go (bytes_eq (codes "disk") (byte ∷ bytes))
  where
    go : (same : Bool) → position (has_it same) (with_export size read_only).places ≡ (if same then Some 0 else None)
    go true = refl
    go false = refl

module _ {D : Type 0} (seen : D → Seen) (disks : List D) (read_only : Bool) (w : WorldValue D) (begins : Begins seen disks read_only w) where
  -- what is told of it
  told_disk : Told
  told_disk = told.Info (record { size = (info_at w.graph 0).size; writable = (info_at w.graph 0).writable })

  told_by : (means : Bool) → told_info (option_map (info_at w.graph) (if means then Some 0 else None)) ≡ (if means then told_disk else told.Missing)
  unfolding told_disk
  told_by true = refl
  told_by false = refl

  name_told : (name : Option (List ℕ)) → told_name w.graph name ≡ (if means_disk name then told_disk else told.Missing)
  name_told None = refl
  name_told (Some name) =
      ap (λ (at : Option ℕ). told_info (option_map (info_at w.graph) at))
      (ap (λ (g : GraphValue). found_at g.places name) (graph_is seen disks read_only w begins) ∙ found_by (size_of (map seen disks)) read_only name)
      ∙ told_by (means_disk (Some name))

  -- requests follow an option that attaches
  pub transmits : (mode : Mode) (w' : Wish) → attaches w' ≡ true → hand_step_of mode w' (graph_told w.graph (want_of w')) ≡ Transmit mode
  unfolding told_disk
  transmits mode (wish.Export name) is = ap (export_step mode) (name_told name ∙ ap (λ (b : Bool). if b then told_disk else told.Missing) is)
  transmits mode (wish.Go inquiry) is = ap (go_step mode) (name_told inquiry.name ∙ ap (λ (b : Bool). if b then told_disk else told.Missing) is)
  transmits mode other is = absurd (cc)

  not_true : (b : Bool) → not b ≡ true → b ≡ false
  not_true true is = absurd (cc)
  not_true false is = refl

  -- options go on behind others
  pub stays : (mode : Mode) (w' : Wish) → wish_goes_on w' ≡ true → hand_step_of mode w' (graph_told w.graph (want_of w')) ≡ Stay
  stays mode (wish.Export name) is = absurd (cc)
  stays mode wish.Abort is = absurd (cc)
  stays mode (wish.Go inquiry) is = ap (go_step mode) (name_told inquiry.name ∙ ap (λ (b : Bool). if b then told_disk else told.Missing) (not_true (means_disk inquiry.name) is))
  stays mode other is = refl

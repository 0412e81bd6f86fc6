-- The calls of a core over disks, from its opening on.
use Rattle.std.proofs.Common.{◌≡◌, ℕ, ◌<◌, Bool, true, not, List, ◌∷◌, subst, ap, ◌∙◌, inl, inr, codes, arith}
use Rattle.std.specs.Prelude.{map}
use Rattle.qs_outside.specs.Blocks.{Seen}
use Rattle.qs_graph.specs.Table.{GraphValue}
use Rattle.qs_image.specs.Image.{align_of}
use Rattle.qs_image.specs.Opening.{IsAlign}
use Rattle.qs_model.specs.Acts.{Element, Exported}
use Rattle.qs_model.specs.Guards.{CanCome}
use Rattle.qs_model.specs.Steps.{happens}
use Rattle.qs_model.proofs.Headline.{besides, headline}
use Rattle.qs_model.specs.Worlds.{Opening as OpenedOver}
use Rattle.qs_verdicts.proofs.Judged.{judged}
use Rattle.qs_durable.proofs.Durable.{durable}
use Rattle.qs_part.specs.declared.graph.GraphOp.TheVariants.{ExportAdd}
use Rattle.qs_request_state.specs.declared.shape.Shape.{Shape}
use Rattle.qs_world.specs.Events.{Does}
use Rattle.qs_world.specs.Openings.{opening_over}
use Rattle.qs_world.specs.Stands.{Stands}
use Rattle.qs_world.specs.Values.{WorldValue}
use Rattle.qs_world.specs.Running.{meant}
use Rattle.qs_world.proofs.Meant.{meant_stands, own}
use Rattle.qs_calls.specs.Calls.{Call, Plays}
use Rattle.qs_calls.specs.Runs.{Begins, HasRun, image_export, opened_world}
use Rattle.qs_calls.proofs.Plays.{leads}

-- a block has bytes
pub positive : (A : ℕ) → IsAlign A → 0 < A
positive A (inl e) = omega arith
positive A (inr e) = omega arith

-- what a core that began stands for: the opening, and the making of its export
pub record Starts {D : Type 0} (seen : D → Seen) (disks : List D) (read_only : Bool) (place : ℕ) (w : WorldValue D) : Type 0 where
  pub align : w.shape.align ≡ align_of (map seen disks)
  pub may : CanCome (align_of (map seen disks)) (opened_world (map seen disks) read_only) (Exported (image_export read_only) place)
  pub stands : Stands seen w (happens (align_of (map seen disks)) (opened_world (map seen disks) read_only) (Exported (image_export read_only) place))

pub starts : {D : Type 0} (seen : D → Seen) (disks : List D) (read_only : Bool) (w : WorldValue D) (begins : Begins seen disks read_only w) → Starts seen disks read_only begins.exports.place w
starts {D} seen disks read_only w begins =
    let place : ℕ = begins.exports.place in
    let align : begins.fresh.shape.align ≡ align_of (map seen disks) = ap (λ (s : Shape). s.align) begins.opened.shape in
    let file : begins.fresh.graph.file ≡ codes "file0" = ap (λ (g : GraphValue). g.file) begins.opened.graph in
    let does : Does seen begins.fresh (Exported (image_export read_only) place) w =
    subst (λ (n : List ℕ). Does seen begins.fresh (Exported (ExportAdd (codes "disk") (codes "disk") n (not read_only) true) place) w) file begins.exports.does in
    let first : CanCome (align_of (map seen disks)) (opened_world (map seen disks) read_only) (Exported (image_export read_only) place)
    × Stands seen w (happens (align_of (map seen disks)) (opened_world (map seen disks) read_only) (Exported (image_export read_only) place)) =
    subst (λ (a : ℕ). CanCome a (opened_world (map seen disks) read_only) (Exported (image_export read_only) place) × Stands seen w (happens a (opened_world (map seen disks) read_only) (Exported (image_export read_only) place))) align
    (does (opened_world (map seen disks) read_only) begins.opened.stands) in
    record { align = ap (λ (v : WorldValue D). v.shape.align) begins.exports.same ∙ align; may = first.0; stands = first.1 }

-- calls from a core that stands for the opening and the making of its export
run_from : {D : Type 0} (seen : D → Seen) (disks : List Seen) (read_only : Bool) (place : ℕ) (start w : WorldValue D) (calls : List Call) → 0 < align_of disks →
    start.shape.align ≡ align_of disks → CanCome (align_of disks) (opened_world disks read_only) (Exported (image_export read_only) place) →
    Stands seen start (happens (align_of disks) (opened_world disks read_only) (Exported (image_export read_only) place)) → Plays seen start calls w → HasRun seen disks read_only start calls w
run_from {D} seen disks read_only place start w calls some align may stands plays =
    let A : ℕ = align_of disks in
    let on = leads seen A start calls w (happens A (opened_world disks read_only) (Exported (image_export read_only) place)) align stands plays in
    let o : OpenedOver = opening_over disks (codes "file0") read_only in
    let steps : List Element = Exported (image_export read_only) place ∷ on.elements in
    record {
      place = place;
      elements = on.elements;
      fulls = on.fulls;
      are = on.are;
      walked = on.walked;
      run = (may, on.run);
      headline = headline A o steps some (may, on.run);
      besides = besides A o steps some (may, on.run);
      judged = judged A o steps some (may, on.run);
      durable = λ tells settled. durable A o steps some tells settled (may, on.run);
      stands = on.stands;
    }

pub has_run : {D : Type 0} (seen : D → Seen) (disks : List D) (read_only : Bool) (start w : WorldValue D) (calls : List Call) → Begins seen disks read_only start →
    Plays seen start calls w → HasRun seen (map seen disks) read_only start calls w
has_run {D} seen disks read_only start w calls begins plays =
    let s : Starts seen disks read_only begins.exports.place start = starts seen disks read_only start begins in
    run_from seen (map seen disks) read_only begins.exports.place start w calls (positive (align_of (map seen disks)) begins.opened.image.1.0) s.align s.may s.stands plays

-- and so over what the disks mean
pub has_run_meant : {D : Type 0} (seen : D → Seen) (disks : List D) (read_only : Bool) (start w : WorldValue D) (calls : List Call) → Begins seen disks read_only start →
    Plays own (meant seen start) calls (meant seen w) → HasRun own (map seen disks) read_only (meant seen start) calls (meant seen w)
has_run_meant {D} seen disks read_only start w calls begins plays =
    let s : Starts seen disks read_only begins.exports.place start = starts seen disks read_only start begins in
    run_from own (map seen disks) read_only begins.exports.place (meant seen start) (meant seen w) calls (positive (align_of (map seen disks)) begins.opened.image.1.0)
    s.align s.may (meant_stands seen start _ s.stands) plays

-- The first session of a core that was just opened.
use Rattle.std.proofs.Common.{◌≡◌, ◌↔◌, ℕ, ◌+◌, ◌≤◌, Bool, true, false, not, List, [], ◌∷◌, refl, sym, ap, subst, ◌∙◌, codes, arith}
use Rattle.std.specs.Prelude.{Option, Some, None, map, option_map, position}
use Rattle.std.specs.Str.{bytes_eq}
use Rattle.qs_outside.specs.Blocks.{Seen}
use Rattle.qs_image.specs.Image.{align_of, size_of}
use Rattle.qs_image.specs.Opening.{IsImage}
use Rattle.qs_graph.specs.declared.export.Export.{Export}
use Rattle.qs_graph.specs.Exports.{clients_of, clients_counted, export_at, found_at, is_vacant, new_export}
use Rattle.qs_graph.specs.Table.{GraphValue, fresh as fresh_graph, info_at, export_placed, after as graph_after}
use Rattle.qs_part.specs.declared.event.Event.TheVariants.{Attach}
use Rattle.qs_part.specs.declared.event.Outcome.{Outcome}
use Rattle.qs_part.specs.declared.event.Outcome.TheVariants.{Attached, Memory, NotNext}
use Rattle.qs_part.specs.declared.graph.ExportInfo.{ExportInfo}
use Rattle.qs_part.specs.declared.graph.GraphOp.TheVariants.{ExportAdd}
use Rattle.qs_part.specs.declared.graph.GraphReply.TheVariants.{Added}
use Rattle.qs_model.specs.Acts.{Element, Attached as AttachedStep, NoExport, Crowded, Left, Detached, NotAttached, Asked, Did, Exported, Planned, Crashed}
use Rattle.qs_model.specs.Events.{IsEvent, outcome_of}
use Rattle.qs_model.specs.Guards.{CanCome}
use Rattle.qs_model.specs.Steps.{Runs, world_after, happens}
use Rattle.qs_model.specs.Worlds.{Away, Live, World}
use Rattle.qs_model.proofs.Basics.{put_here}
use Rattle.qs_request_state.specs.declared.shape.Shape.{Shape}
use Rattle.qs_stripe.specs.Table.{StripeState}
use Rattle.qs_world.specs.declared.live.Member.{Member}
use Rattle.qs_world.specs.Events.{HasCause, IsNotNext, Steps, StepsTo}
use Rattle.qs_world.specs.Openings.{opening_over}
use Rattle.qs_world.specs.Stands.{Stands}
use Rattle.qs_world.specs.Values.{WorldValue, disks_of, session_at}
use Rattle.qs_world.specs.Running.{meant}
use Rattle.qs_world.proofs.Meant.{meant_cause, meant_steps, own}
use Rattle.qs_calls.specs.Calls.{Happened, Plays}
use Rattle.qs_calls.specs.Runs.{Begins, image_export, opened_world}
use Rattle.qs_calls.proofs.Plays.{plays_of, plays_one}
use Rattle.qs_calls.proofs.Runs.{Starts, starts}
use Rattle.qs_single.specs.Joining.{Names}
use Rattle.qs_single.specs.Resting.{Attaches}
use Rattle.qs_single.proofs.Answering.{none_left}

-- the graph with the export at its first place
abbrev pub its_export : Bool → Export
its_export read_only = new_export (codes "disk") (codes "disk") (not read_only) true

abbrev pub with_export : ℕ → Bool → GraphValue
with_export size read_only = export_placed (fresh_graph size (codes "file0") read_only) 0 (Some (its_export read_only))

first_place : (size : ℕ) (read_only : Bool) (p : ℕ) → position is_vacant (fresh_graph size (codes "file0") read_only).places ≡ Some p → p ≡ 0
first_place size read_only p e = cc

found : (size : ℕ) (read_only : Bool) → found_at (with_export size read_only).places (codes "disk") ≡ Some 0
unfolding lib.Utf8.encode
found size read_only = refl

module _ {D : Type 0} (seen : D → Seen) (disks : List D) (read_only : Bool) (w : WorldValue D) (begins : Begins seen disks read_only w) where
  begun : Starts seen disks read_only begins.exports.place w
  begun = starts seen disks read_only w begins

  abbrev size : ℕ
  size = size_of (map seen disks)

  place_is : begins.exports.place ≡ 0
  place_is = first_place size read_only begins.exports.place begun.may.1

  pub graph_is : w.graph ≡ with_export size read_only
  graph_is =
      ap (λ (x : WorldValue D). x.graph) begins.exports.same
      ∙ ap (λ (g : GraphValue). graph_after g (ExportAdd (codes "disk") (codes "disk") g.file (not read_only) true) (Added begins.exports.place)) begins.opened.graph
      ∙ ap (λ (p : ℕ). export_placed (fresh_graph size (codes "file0") read_only) p (Some (its_export read_only))) place_is

  sessions_are : w.sessions ≡ []
  sessions_are = ap (λ (x : WorldValue D). x.sessions) begins.exports.same ∙ begins.opened.sessions

  pub away : (session : ℕ) → session_at w.sessions session ≡ Away
  away session = ap (λ (ms : List Member). session_at ms session) sessions_are

  pub disks_are : disks_of seen w ≡ map seen disks
  disks_are =
      ap (λ (x : WorldValue D). map seen (map (λ (s : StripeState D). s.disk) x.stripes)) begins.exports.same ∙ ap (λ (ds : List D). map seen ds) begins.opened.stripes

  abbrev m : World
  m = happens (align_of (map seen disks)) (opened_world (map seen disks) read_only) (Exported (image_export read_only) begins.exports.place)

  model_graph : m.graph ≡ with_export size read_only
  model_graph = begun.stands.graph ∙ graph_is

  -- the export is found, and has no client
  pub none_refused : (asked : List ℕ) (named : found_at (with_export size read_only).places asked ≡ Some 0) (session : ℕ) (out : Outcome) (w' : WorldValue D) → Steps seen w (Attach session asked) out w' → ((info : ExportInfo) → out ≡ Attached info → ⊥) → ⊥
  none_refused asked named session out w' step never = go step.element step.answers_event step.outcome_is (step.does m begun.stands).0
    where
      none_some : (n : ℕ) → None ≡ Some n → ⊥
      none_some n e = cc

      go : (e : Element) → IsEvent (Attach session asked) e → outcome_of w.shape.align e ≡ Some out → CanCome w.shape.align m e → ⊥
      go (AttachedStep s name info) is told may = never info (one told)
        where
          one : Some (Attached info) ≡ Some out → out ≡ Attached info
          one f = cc
      go (NoExport s name) is told may =
          none_some 0 (sym may.1 ∙ ap (λ (g : GraphValue). found_at g.places name) model_graph ∙ ap (found_at (with_export size read_only).places) (sym is.1) ∙ named)
      go (Crowded s name) is told may =
          let place : may.1.0 ≡ 0 = one (sym may.1.1.0 ∙ ap (λ (g : GraphValue). found_at g.places name) model_graph ∙ ap (found_at (with_export size read_only).places) (sym is.1) ∙ named) in
          let many : 1024 ≤ clients_of (export_at (with_export size read_only).places 0) =
          subst (λ (p : ℕ). 1024 ≤ clients_of (export_at (with_export size read_only).places p)) place
          (subst (λ (g : GraphValue). 1024 ≤ clients_of (export_at g.places may.1.0)) model_graph may.1.1.1) in
          omega (arith, many)
        where
          one : Some may.1.0 ≡ Some 0 → may.1.0 ≡ 0
          one f = cc
      go (Left s e) is told may = is
      go (Detached s e) is told may = is
      go (NotAttached s e) is told may = is
      go (Asked r c) is told may = is
      go (Did r q act) is told may = is
      go (Exported op e) is told may = is
      go (Planned j fail) is told may = is
      go (Crashed left) is told may = is

  -- the step by which a session was attached
  comes : (asked : List ℕ) (session : ℕ) (info : ExportInfo) (A : ℕ) (e : Element) → IsEvent (Attach session asked) e → outcome_of A e ≡ Some (Attached info) →
      e ≡ AttachedStep session asked info
  comes asked session info A (AttachedStep s name given) is told =
      ap (λ (x : ExportInfo). AttachedStep s name x) (one told) ∙ ap (λ (n : ℕ). AttachedStep n name info) (sym is.0) ∙ ap (λ (n : List ℕ). AttachedStep session n info) (sym is.1)
    where
      one : Some (Attached given) ≡ Some (Attached info) → given ≡ info
      one f = cc
  comes asked session info A (NoExport s name) is told = absurd (cc)
  comes asked session info A (Crowded s name) is told = absurd (cc)
  comes asked session info A (Left s e) is told = absurd is
  comes asked session info A (Detached s e) is told = absurd is
  comes asked session info A (NotAttached s e) is told = absurd is
  comes asked session info A (Asked r c) is told = absurd is
  comes asked session info A (Did r q act) is told = absurd is
  comes asked session info A (Exported op e) is told = absurd is
  comes asked session info A (Planned j fail) is told = absurd is
  comes asked session info A (Crashed left) is told = absurd is

  pub attaches : (asked : List ℕ) (named : found_at (with_export size read_only).places asked ≡ Some 0) (session : ℕ) (info : ExportInfo) (w' : WorldValue D) → Steps seen w (Attach session asked) (Attached info) w' →
      HasCause seen w (Attached info) w' → Plays own (meant seen w) (Happened (Attach session asked) (Attached info) ∷ []) (meant seen w') →
      Attaches seen session (not read_only) w asked info w'
  attaches asked named session info w' step cause plays =
      let A : ℕ = align_of (map seen disks) in
      let e : Element = AttachedStep session asked info in
      let e_is : step.element ≡ e = comes asked session info w.shape.align step.element step.answers_event step.outcome_is in
      let does : CanCome w.shape.align m e × Stands seen w' (happens w.shape.align m e) =
      subst (λ (x : Element). CanCome w.shape.align m x × Stands seen w' (happens w.shape.align m x)) e_is (step.does m begun.stands) in
      let did : CanCome A m e × Stands seen w' (happens A m e) = subst (λ (a : ℕ). CanCome a m e × Stands seen w' (happens a m e)) begun.align does in
      let m' : World = happens A m e in
      let place : info.e ≡ 0 = one (sym did.0.1.0 ∙ ap (λ (g : GraphValue). found_at g.places asked) model_graph ∙ named) in
      let info_is : info ≡ info_at (with_export size read_only) 0 =
      did.0.1.1 ∙ ap (λ (g : GraphValue). info_at g info.e) model_graph ∙ ap (info_at (with_export size read_only)) place in
      let disks_same : disks_of seen w' ≡ disks_of seen w = ap (λ (ss : List (StripeState D)). map seen (map (λ (s : StripeState D). s.disk) ss)) (cause.rest refl) in
      let disks_here : disks_of seen w' ≡ map seen disks = disks_same ∙ disks_are in
      let shape : w'.shape ≡ w.shape = step.shape_kept in
      let align : w'.shape.align ≡ A = ap (λ (s : Shape). s.align) shape ∙ begun.align in
      let graph : w'.graph ≡ export_placed (with_export size read_only) 0 (clients_counted (export_at (with_export size read_only).places 0) (clients_of (export_at (with_export size read_only).places 0) + 1)) =
      sym did.1.graph ∙ ap (λ (g : GraphValue). export_placed g info.e (clients_counted (export_at g.places info.e) (clients_of (export_at g.places info.e) + 1))) model_graph
      ∙ ap (λ (p : ℕ). export_placed (with_export size read_only) p (clients_counted (export_at (with_export size read_only).places p) (clients_of (export_at (with_export size read_only).places p) + 1))) place in
      record {
        plays = plays;
        size = ap (λ (i : ExportInfo). i.size) info_is ∙ sym (ap size_of disks_are);
        leave = ap (λ (i : ExportInfo). i.writable) info_is;
        disks = disks_same;
        rests = record {
          opened = opening_over (map seen disks) (codes "file0") read_only;
          steps = Exported (image_export read_only) begins.exports.place ∷ e ∷ [];
          run = subst (λ (a : ℕ). Runs a (opened_world (map seen disks) read_only) (Exported (image_export read_only) begins.exports.place ∷ e ∷ [])) (sym align) (begun.may, (did.0, tt));
          stands = subst (λ (a : ℕ). Stands seen w' (world_after a (opened_world (map seen disks) read_only) (Exported (image_export read_only) begins.exports.place ∷ e ∷ []))) (sym align) did.1;
          idle = none_left w'.requests (λ r. sym (did.1.request r));
          place = 0;
          live = sym (did.1.session session) ∙ put_here m.session session (Live info.e) ∙ ap Live place;
          export = record (its_export read_only) { clients = 1 };
          is = ap (λ (g : GraphValue). export_at g.places 0) graph;
          leave = refl;
          image = subst IsImage (sym disks_here) begins.opened.image;
          align = align ∙ sym (ap align_of disks_here);
          size = ap (λ (g : GraphValue). g.size) graph ∙ sym (ap size_of disks_here);
        };
        next = sym did.1.next ∙ begun.stands.next ∙ ap (λ (x : WorldValue D). x.next) begins.exports.same ∙ begins.opened.next;
      }
    where
      one : Some info.e ≡ Some 0 → info.e ≡ 0
      one f = cc

-- whether it has a name that no free place has
abbrev has_it : Bool → Option Export → Bool
has_it same None = false
has_it same (Some x) = same

-- the one export is the only one that a name can mean
pub only_place : (extent : ℕ) (read_only : Bool) (name : List ℕ) (e : ℕ) → found_at (with_export extent read_only).places name ≡ Some e → e ≡ 0
only_place extent read_only [] e is = cc
only_place extent read_only (byte ∷ bytes) e is = go (bytes_eq (codes "disk") (byte ∷ bytes)) is
  where
    go : (same : Bool) → position (has_it same) (with_export extent read_only).places ≡ Some e → e ≡ 0
    go true is = cc
    go false is = absurd (none_some e is)
      where
        none_some : (n : ℕ) → None ≡ Some n → ⊥
        none_some n f = cc

-- the place of what is told of it
place_of : (v : GraphValue) (at : Option ℕ) (info : ExportInfo) → option_map (info_at v) at ≡ Some info → (e : ℕ) × (at ≡ Some e)
place_of v None info is = absurd (cc)
place_of v (Some e) info is = (e, refl)

-- a name that means an export means that one
named_at : {D : Type 0} (seen : D → Seen) (disks : List D) (read_only : Bool) (w : WorldValue D) → Begins seen disks read_only w → (name : List ℕ) → Names w name →
    found_at (with_export (size_of (map seen disks)) read_only).places name ≡ Some 0
named_at seen disks read_only w begins name names =
    let at = place_of w.graph (found_at w.graph.places name) names.0 names.1 in
    let here : found_at (with_export (size_of (map seen disks)) read_only).places name ≡ Some at.0 =
    sym (ap (λ (g : GraphValue). found_at g.places name) (graph_is seen disks read_only w begins)) ∙ at.1 in
    here ∙ ap Some (only_place (size_of (map seen disks)) read_only name at.0 here)

-- `disk` means it
pub disk_named : {D : Type 0} (seen : D → Seen) (disks : List D) (read_only : Bool) (w : WorldValue D) → Begins seen disks read_only w → Names w (codes "disk")
disk_named seen disks read_only w begins = (
  info_at w.graph 0,
  ap (λ (at : Option ℕ). option_map (info_at w.graph) at)
      (ap (λ (g : GraphValue). found_at g.places (codes "disk")) (graph_is seen disks read_only w begins) ∙ found (size_of (map seen disks)) read_only),
)

-- it is attached, unless memory is refused
pub never_refused : {D : Type 0} (seen : D → Seen) (disks : List D) (read_only : Bool) (w : WorldValue D) → Begins seen disks read_only w → (session : ℕ) (name : List ℕ) (out : Outcome) (w' : WorldValue D) →
    Names w name → StepsTo seen w (Attach session name) out w' → (out ≡ NotNext) ↔ IsNotNext w (Attach session name) → HasCause seen w out w' →
    ((info : ExportInfo) → out ≡ Attached info → ⊥) → (out ≡ Memory → ⊥) → ⊥
never_refused {D} seen disks read_only w begins session name out w' names steps iff cause not_attached not_memory =
    let step = (plays_of seen w (Attach session name) out w' (λ e. (iff.0 e) (away seen disks read_only w begins session)) not_memory steps cause).0 in
    none_refused seen disks read_only w begins name (named_at seen disks read_only w begins name names) session out w' step not_attached

pub was_attached : {D : Type 0} (seen : D → Seen) (disks : List D) (read_only : Bool) (w : WorldValue D) → Begins seen disks read_only w → (session : ℕ) (name : List ℕ) (info : ExportInfo) (w' : WorldValue D) →
    Names w name → Steps seen w (Attach session name) (Attached info) w' → HasCause seen w (Attached info) w' →
    Attaches seen session (not read_only) w name info w'
was_attached {D} seen disks read_only w begins session name info w' names step cause =
    attaches seen disks read_only w begins name (named_at seen disks read_only w begins name names) session info w' step cause
    (plays_one own (meant seen w) (Happened (Attach session name) (Attached info)) (meant seen w')
    (meant_steps seen w w' (Attach session name) (Attached info) step, meant_cause seen w w' (Attached info) cause))

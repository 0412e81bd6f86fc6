-- Two cores that are opened over disks that are alike are twins.
use Rattle.std.proofs.Common.{◌≡◌, ◌<◌, ℕ, zero, suc, List, [], ◌∷◌, length, map, Bool, true, false, ◌&&◌, refl, sym, subst, ap, ◌∙◌, arith, codes}
use Rattle.std.specs.Prelude.{Some, IsTrue, position}
use Rattle.std.proofs.lemmas.List.{length-map}
use Rattle.qs_outside.specs.Blocks.{Seen}
use Rattle.qs_part.specs.declared.graph.GraphOp.{GraphOp}
use Rattle.qs_part.specs.declared.graph.GraphOp.TheVariants.{AddRaw, AddThrottle, Del, ReopenRaw, ReopenThrottle, GroupAdd, GroupDel, ExportAdd, ExportDel, Find, Attach, Detach, Route, ListNodes, ListExports}
use Rattle.qs_part.specs.declared.graph.GraphReply.TheVariants.{Added}
use Rattle.qs_image.specs.Image.{AllTell, align_of, disk}
use Rattle.qs_graph.specs.Exports.{is_vacant}
use Rattle.qs_graph.specs.Table.{GraphValue, May as GraphMay, after, fresh}
use Rattle.qs_model.specs.Acts.{Exported}
use Rattle.qs_model.specs.Steps.{happens}
use Rattle.qs_model.specs.Worlds.{World}
use Rattle.qs_world.specs.Openings.{tells_of}
use Rattle.qs_world.specs.Values.{WorldValue}
use Rattle.qs_calls.specs.Runs.{Begins, image_export, opened_world}
use Rattle.qs_same_replay.specs.Same.{OpenAlike}
use Rattle.qs_same_replay.proofs.Twins.{Twins}

-- what a core began with tells its content
told : {D : Type 0} (seen : D → Seen) (disks : List D) (w : WorldValue D) → Begins seen disks false w → AllTell (map seen disks) → IsTrue (opened_world (map seen disks) false).tells
told {D} seen disks w begins tell = each disks (λ k below. tell k (omega (arith, below, sym (length-map disks seen) ∙ begins.opened.image.0.0)))
  where
    both : (b c : Bool) → IsTrue b → IsTrue c → IsTrue (b && c)
    both true c p q = q
    both false c p q = p

    each : (ds : List D) → ((k : ℕ) → k < length ds → IsTrue (disk (map seen ds) k).tells) → IsTrue (tells_of (map seen ds))
    each [] all = refl
    each (d ∷ ds) all = both (seen d).tells (tells_of (map seen ds)) (all zero (omega arith)) (each ds (λ k below. all (suc k) (omega arith)))

-- an export is made at the lowest free place
pub place_one : (v : GraphValue) (op : GraphOp) (place other : ℕ) → GraphMay v op (Added place) → GraphMay v op (Added other) → other ≡ place
place_one v (ExportAdd id name node writable share) place other a b =
    let here : position is_vacant v.places ≡ Some place = a.1 in
    let there : position is_vacant v.places ≡ Some other = b.1 in
    cc
place_one v (AddRaw name child offset size read_only) place other a b = absurd a
place_one v (AddThrottle name child group read_only) place other a b = absurd a
place_one v (Del name) place other a b = absurd a
place_one v (ReopenRaw name child offset size) place other a b = absurd a
place_one v (ReopenThrottle name child group) place other a b = absurd a
place_one v (GroupAdd id) place other a b = absurd a
place_one v (GroupDel id) place other a b = absurd a
place_one v (ExportDel id hard) place other a b = absurd a
place_one v (ListNodes table) place other a b = absurd a
place_one v (ListExports table) place other a b = absurd a
place_one v (Find name) place other a b = absurd a
place_one v (Attach name) place other a b = absurd a
place_one v (Detach e) place other a b = absurd a
place_one v (Route e) place other a b = absurd a

-- the openings of two such cores, with their exports, are twins
pub twins_begin : {D : Type 0} (seen : D → Seen) (disks others : List D) (w w' : WorldValue D) (place place_too : ℕ) → Begins seen disks false w → Begins seen others false w' →
    GraphMay (opened_world (map seen disks) false).graph (image_export false) (Added place) → GraphMay (opened_world (map seen others) false).graph (image_export false) (Added place_too) →
    OpenAlike (map seen disks) (map seen others) →
    Twins (happens (align_of (map seen disks)) (opened_world (map seen disks) false) (Exported (image_export false) place))
    (happens (align_of (map seen others)) (opened_world (map seen others) false) (Exported (image_export false) place_too))
twins_begin seen disks others w w' place place_too one two may may_too alike =
    let o : World = opened_world (map seen disks) false in
    let o' : World = opened_world (map seen others) false in
    let graph : o'.graph ≡ o.graph = ap (λ (n : ℕ). fresh n (codes "file0") false) alike.size in
    let place_is : place_too ≡ place = place_one o.graph (image_export false) place place_too may (subst (λ (g : GraphValue). GraphMay g (image_export false) (Added place_too)) graph may_too) in
    record {
      alike = record {
        tells = told seen others w' two alike.tell_too ∙ sym (told seen disks w one alike.tell);
        next = refl;
        req = λ r. refl;
        session = λ s. refl;
        graph = ap (λ (p : ℕ). after o'.graph (image_export false) (Added p)) place_is ∙ ap (λ (g : GraphValue). after g (image_export false) (Added place)) graph;
        clients = λ e. refl;
        tracker = refl;
        now = alike.now;
        holder = λ b. refl;
        clean = λ s. refl;
        plans = alike.planned;
      };
      tells = told seen disks w one alike.tell;
    }

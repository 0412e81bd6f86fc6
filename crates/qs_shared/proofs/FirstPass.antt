-- The turns as they are opened, and their first pass.
use Rattle.std.proofs.Common.{◌≡◌, ℕ, zero, suc, ◌<◌, ◌≤◌, Bool, true, List, [], ◌∷◌, length, map, get_or, Some, slice_get, vec_capacity, refl, sym, ap, ◌∙◌, subst, arith}
use Rattle.std.proofs.lemmas.List.{length-map}
use Rattle.std.proofs.lemmas.Option.{slice_get_within}
use Rattle.std.specs.declared.snapshot.Snapshot.{Snapshot}
use Rattle.qs_outside.specs.Blocks.{Seen}
use Rattle.qs_image.specs.Image.{disk, align_of, size_of}
use Rattle.qs_image.specs.Opening.{IsImage}
use Rattle.qs_part.specs.Histories.{Call, StandsFor}
use Rattle.qs_request_state.specs.declared.shape.Shape.{Shape}
use Rattle.qs_graph.specs.Table.{fresh as fresh_graph}
use Rattle.qs_stripe.specs.Table.{StripeState, geometry, value_of}
use Rattle.qs_tracker.specs.Table.{fresh as fresh_tracker}
use Rattle.qs_turn.specs.declared.view.View.{View}
use Rattle.qs_turn.specs.Names.{Name, Known}
use Rattle.qs_turn.specs.Words.{opening, is_first, seen, own, out, IsPassOf}
use Rattle.qs_turn_rows.specs.Rows.{Pairs}
use Rattle.qs_shared.specs.Hall.{AreOpenedParts, IsLawfulPass, OpensShared, geometry_at}
use Rattle.qs_shared.specs.Parts.{TurnsOver, PassesOver, steps_of_tracker, steps_of_graph, steps_of_group, steps_of_stripe}
use Rattle.qs_shared.specs.Passes.{none_called, own_calls, seen_calls}
use Rattle.qs_shared.specs.Rows.{AreNewTurns, OpensGroups, OpensStripes}
use Rattle.qs_shared.proofs.Passing.{map_none}
use Rattle.qs_shared.proofs.Wholes.{same_calls}

module _ {P O R : Type 0} (may : P → O → R → P → Type 0) where
  -- a pass that has seen nothing has seen a legal history
  pub new_lawful : (t : Name (Snapshot P)) (k : Known (View P O R)) → IsPassOf t k → seen k ≡ [] → IsLawfulPass may t k
  new_lawful t k of none = record { pass = of; legal = (opening t, subst (λ (l : List (Call O R)). StandsFor may (opening t) l (opening t)) (sym none) refl) }

  pub new_row : (ts : List (Name (Snapshot P))) (ks : List (Known (View P O R))) → AreNewTurns ts ks → Pairs (IsLawfulPass may) ts ks
  new_row ts ks new = record { long = new.turns.long; each = λ i t k e d. new_lawful t k (new.turns.each i t k e d) (new.none_seen i k d) }

-- the first pass of one new turn
pub record IsNew {P O R : Type 0} (t : Name (Snapshot P)) (k : Known (View P O R)) : Type 0 where
  pub pass : IsPassOf t k
  pub first : is_first k ≡ true
  pub none_seen : seen k ≡ []
  pub none_own : own k ≡ []
  pub none_out : out k ≡ 0

module _ {D : Type 0} (disk_seen : D → Seen) where
  abbrev disk_of : Name (Snapshot (StripeState D)) → D
  disk_of t = (opening t).disk

  -- the disk at the place of a turn
  seen_at : (ts : List (Name (Snapshot (StripeState D)))) (i : ℕ) (t : Name (Snapshot (StripeState D))) → slice_get ts i ≡ Some t → disk (map disk_seen (map disk_of ts)) i ≡ disk_seen (disk_of t)
  seen_at [] i t e = absurd (cc)
  seen_at (x ∷ ts) zero t e = let is : x ≡ t = (let s : Some x ≡ Some t = e in cc) in ap (λ (y : Name (Snapshot (StripeState D))). disk_seen (disk_of y)) is
  seen_at (x ∷ ts) (suc i) t e = seen_at ts i t e

  many : (ts : List (Name (Snapshot (StripeState D)))) (disks : List D) → map disk_of ts ≡ disks → length (map disk_seen disks) ≡ 8 → length ts ≡ 8
  many ts disks are long = sym (length-map ts disk_of) ∙ ap length are ∙ sym (length-map disks disk_seen) ∙ long

  -- the stripe at a place has the geometry of the image there
  shaped : (disks : List D) (shape : Shape) (ts : List (Name (Snapshot (StripeState D)))) (i : ℕ) (t : Name (Snapshot (StripeState D))) → IsImage (map disk_seen disks)
      → shape ≡ record { align = align_of (map disk_seen disks); size = size_of (map disk_seen disks) } → map disk_of ts ≡ disks → slice_get ts i ≡ Some t → geometry (value_of disk_seen (opening t)) ≡ geometry_at shape i
  shaped disks shape ts i t image is are e =
      let below : i < 8 = (let h = slice_get_within ts i t e in let m = many ts disks are image.0.0 in omega arith) in
      let alike = image.0.1 i below in
      let here : disk (map disk_seen disks) i ≡ disk_seen (opening t).disk = ap (λ (l : List D). disk (map disk_seen l) i) (sym are) ∙ seen_at ts i t e in
      sym (ap (λ (d : Seen). record { stripe = d.stripe; align = d.align; size = d.size }) here)
      ∙ ap (λ (n : ℕ). record { stripe = n; align = (disk (map disk_seen disks) i).align; size = (disk (map disk_seen disks) i).size }) alike.stripe
      ∙ ap (λ (n : ℕ). record { stripe = i; align = n; size = (disk (map disk_seen disks) i).size }) alike.align
      ∙ ap (λ (n : ℕ). record { stripe = i; align = align_of (map disk_seen disks); size = n }) alike.size
      ∙ ap (λ (z : Shape). record { stripe = i; align = z.align; size = z.size }) (sym is)

  -- what was opened
  pub record Opening (disks : List D) (file : List ℕ) (read_only : Bool) (s : TurnsOver D) (p : PassesOver D) : Type 0 where
    pub image : IsImage (map disk_seen disks)
    pub shape : s.shape ≡ record { align = align_of (map disk_seen disks); size = size_of (map disk_seen disks) }
    pub tracker : opening s.tracker ≡ fresh_tracker 0
    pub track : IsNew s.tracker p.tracker
    pub graph : opening s.graph ≡ fresh_graph s.shape.size file read_only
    pub way : IsNew s.graph p.graph
    pub groups : OpensGroups 16 s.groups.items p.groups.items
    pub stripes : OpensStripes disk_seen disks s.stripes.items p.stripes.items
    pub stripe_room : (p.stripe_room.items ≡ []) × (length disks ≤ vec_capacity p.stripe_room)
    pub disk_room : (p.disk_room.items ≡ []) × (length disks ≤ vec_capacity p.disk_room)

  parts_of : (disks : List D) (file : List ℕ) (read_only : Bool) (s : TurnsOver D) (p : PassesOver D) → Opening disks file read_only s p → AreOpenedParts disk_seen s
  parts_of disks file read_only s p o = record {
    file = file;
    read_only = read_only;
    tracker = o.tracker;
    graph = o.graph;
    groups = o.groups.long;
    fresh = o.groups.fresh;
    stripes = many s.stripes.items disks o.stripes.disks_are o.image.0.0;
    geometry = λ i t e. shaped disks s.shape s.stripes.items i t o.image o.shape o.stripes.disks_are e;
  }

  pub opens_shared : (disks : List D) (file : List ℕ) (read_only : Bool) (s : TurnsOver D) (p : PassesOver D) → Opening disks file read_only s p → OpensShared disk_seen disks file read_only s p
  opens_shared disks file read_only s p o =
      let eight : length disks ≡ 8 = sym (length-map disks disk_seen) ∙ o.image.0.0 in
      let parts = parts_of disks file read_only s p o in record {
        image = o.image;
        shape = o.shape;
        tracker = o.tracker;
        graph = o.graph ∙ ap (λ (z : Shape). fresh_graph z.size file read_only) o.shape;
        groups = o.groups.fresh;
        stripes = o.stripes.disks_are;
        free = o.stripes.free;
        pass = record {
          parts = parts;
          tracker = new_lawful steps_of_tracker s.tracker p.tracker o.track.pass o.track.none_seen;
          graph = new_lawful steps_of_graph s.graph p.graph o.way.pass o.way.none_seen;
          groups = new_row steps_of_group s.groups.items p.groups.items o.groups.turns;
          stripes = new_row (steps_of_stripe disk_seen) s.stripes.items p.stripes.items o.stripes.turns;
          alike = record {
            graph = o.way.first ∙ sym o.track.first;
            groups = λ i k e. (o.groups.turns.alone i k e).0 ∙ sym o.track.first;
            stripes = λ i k e. (o.stripes.turns.alone i k e).0 ∙ sym o.track.first;
            graph_out = λ h. o.way.none_out ∙ sym o.track.none_out;
            groups_out = λ h i k e. (o.groups.turns.alone i k e).1 ∙ sym o.track.none_out;
            stripes_out = λ h i k e. (o.stripes.turns.alone i k e).1 ∙ sym o.track.none_out;
          };
          room = record {
            stripes_empty = o.stripe_room.0;
            stripes_room = λ h. (let r = o.stripe_room.1 in omega arith);
            disks_empty = o.disk_room.0;
            disks_room = λ h. (let r = o.disk_room.1 in omega arith);
          };
        };
        first = o.track.first;
        none_out = o.track.none_out;
        none_seen = same_calls (seen_calls p) none_called o.track.none_seen o.way.none_seen
            (map_none seen [] 16 p.groups.items (sym o.groups.turns.turns.long ∙ o.groups.long) o.groups.turns.none_seen)
            (map_none seen [] 8 p.stripes.items (sym o.stripes.turns.turns.long ∙ parts.stripes) o.stripes.turns.none_seen);
        none_own = same_calls (own_calls p) none_called o.track.none_own o.way.none_own
            (map_none own [] 16 p.groups.items (sym o.groups.turns.turns.long ∙ o.groups.long) o.groups.turns.none_own)
            (map_none own [] 8 p.stripes.items (sym o.stripes.turns.turns.long ∙ parts.stripes) o.stripes.turns.none_own);
      }

-- the first disk, by its place
pub first_disk : {D : Type 0} (disk_seen : D → Seen) (disks : List D) (d : D) → 0 < length disks → d ≡ get_or disks 0 d → disk (map disk_seen disks) 0 ≡ disk_seen d
first_disk disk_seen [] d some is = absurd (omega arith)
first_disk disk_seen (x ∷ xs) d some is = ap disk_seen (sym is)

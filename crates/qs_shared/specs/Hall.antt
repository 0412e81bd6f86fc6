-- A session's pass and the turns that it is of: how they are opened, split, joined and closed.
use Rattle.std.specs.Prelude.{◌≡◌, ℕ, ◌+◌, ◌≤◌, Bool, true, false, List, [], length, map, slice_get, Option, Some, None}
use Rattle.std.specs.Vec.{vec_capacity}
use Rattle.std.specs.declared.snapshot.Snapshot.{Snapshot}
use Rattle.qs_outside.specs.Blocks.{Seen}
use Rattle.qs_image.specs.Image.{align_of, size_of}
use Rattle.qs_image.specs.Opening.{Opens, IsImage}
use Rattle.qs_status.specs.declared.status.OpenBad.{OpenBad}
use Rattle.qs_part.specs.Histories.{IsLegal}
use Rattle.qs_request_state.specs.declared.shape.Shape.{Shape}
use Rattle.qs_graph.specs.Table.{fresh as fresh_graph}
use Rattle.qs_group.specs.Table.{GroupValue, fresh as fresh_group}
use Rattle.qs_stripe.specs.declared.geometry.Geometry.{Geometry}
use Rattle.qs_stripe.specs.Table.{StripeState, Opened, geometry, value_of}
use Rattle.qs_tracker.specs.Table.{TrackerValue, fresh as fresh_tracker}
use Rattle.qs_turn.specs.declared.view.View.{View}
use Rattle.qs_turn.specs.Names.{Name, Known}
use Rattle.qs_turn.specs.Words.{opening, is_first, seen, out, IsPassOf, Joined}
use Rattle.qs_turn_rows.specs.Rows.{Pairs, Triples, Each, Closed}
use Rattle.qs_shared.specs.Parts.{TurnsOver, PassesOver, steps_of_tracker, steps_of_graph, steps_of_group, steps_of_stripe}
use Rattle.qs_shared.specs.Passes.{is_first_pass, passes_out, seen_calls, own_calls, none_called}

-- a pass is of a turn, and the history that it has seen is legal from the turn's opening on
pub record IsLawfulPass {P O R : Type 0} (may : P → O → R → P → Type 0) (t : Name (Snapshot P))
    (k : Known (View P O R)) : Type 0 where
  pub pass : IsPassOf t k
  pub legal : IsLegal may (opening t) (seen k)

-- what never changes about the stripe at a place of an image of this shape
abbrev pub geometry_at : Shape → ℕ → Geometry
geometry_at shape i = record { stripe = i; align = shape.align; size = shape.size }

-- the parts were opened over one image: a new tracker, a new graph over the whole of it, 16 new groups, and the 8
-- stripes of it in their order
pub record AreOpenedParts {D : Type 0} (seen : D → Seen) (s : TurnsOver D) : Type 0 where
  pub file : List ℕ
  pub read_only : Bool
  pub tracker : opening s.tracker ≡ fresh_tracker 0
  pub graph : opening s.graph ≡ fresh_graph s.shape.size file read_only
  pub groups : length s.groups.items ≡ 16
  pub fresh : Each (λ (t : Name (Snapshot GroupValue)). opening t ≡ fresh_group) s.groups.items
  pub stripes : length s.stripes.items ≡ 8
  pub geometry : (i : ℕ) (t : Name (Snapshot (StripeState D))) → slice_get s.stripes.items i ≡ Some t
      → geometry (value_of seen (opening t)) ≡ geometry_at s.shape i

-- all passes of a session are the first ones or none is, and as many are out of each
pub record AreAlike {D : Type 0} (p : PassesOver D) : Type 0 where
  pub graph : is_first p.graph ≡ is_first p.tracker
  pub groups : Each (λ k. is_first k ≡ is_first p.tracker) p.groups.items
  pub stripes : Each (λ k. is_first k ≡ is_first p.tracker) p.stripes.items
  pub graph_out : is_first p.tracker ≡ true → out p.graph ≡ out p.tracker
  pub groups_out : is_first p.tracker ≡ true → Each (λ k. out k ≡ out p.tracker) p.groups.items
  pub stripes_out : is_first p.tracker ≡ true → Each (λ k. out k ≡ out p.tracker) p.stripes.items

-- the first pass has room for what comes back when the turns are closed
pub record KeepsRoom {D : Type 0} (p : PassesOver D) : Type 0 where
  pub stripes_empty : p.stripe_room.items ≡ []
  pub stripes_room : is_first_pass p ≡ true → 8 ≤ vec_capacity p.stripe_room
  pub disks_empty : p.disk_room.items ≡ []
  pub disks_room : is_first_pass p ≡ true → 8 ≤ vec_capacity p.disk_room

-- A session's pass is of these turns: each of its passes is of its turn, and has seen a legal history of its part.
pub record IsSessionPass {D : Type 0} (disk_seen : D → Seen) (s : TurnsOver D) (p : PassesOver D) : Type 0 where
  pub parts : AreOpenedParts disk_seen s
  pub tracker : IsLawfulPass steps_of_tracker s.tracker p.tracker
  pub graph : IsLawfulPass steps_of_graph s.graph p.graph
  pub groups : Pairs (IsLawfulPass steps_of_group) s.groups.items p.groups.items
  pub stripes : Pairs (IsLawfulPass (steps_of_stripe disk_seen)) s.stripes.items p.stripes.items
  pub alike : AreAlike p
  pub room : KeepsRoom p

-- The turns over these disks, with a file node and nothing else, and their first pass, which has seen nothing.
pub record OpensShared {D : Type 0} (disk_seen : D → Seen) (disks : List D) (file : List ℕ) (read_only : Bool)
    (s : TurnsOver D) (p : PassesOver D) : Type 0 where
  pub image : IsImage (map disk_seen disks)
  pub shape : s.shape ≡ record { align = align_of (map disk_seen disks); size = size_of (map disk_seen disks) }
  pub tracker : opening s.tracker ≡ fresh_tracker 0
  pub graph : opening s.graph ≡ fresh_graph (size_of (map disk_seen disks)) file read_only
  pub groups : Each (λ (t : Name (Snapshot GroupValue)). opening t ≡ fresh_group) s.groups.items
  pub stripes : map (λ (t : Name (Snapshot (StripeState D))). (opening t).disk) s.stripes.items ≡ disks
  pub free : Each (λ (t : Name (Snapshot (StripeState D))). Opened (value_of disk_seen (opening t))) s.stripes.items
  pub pass : IsSessionPass disk_seen s p
  pub first : is_first_pass p ≡ true
  pub none_out : passes_out p ≡ 0
  pub none_seen : seen_calls p ≡ none_called
  pub none_own : own_calls p ≡ none_called

-- the disks are refused: they break this rule first, or memory was refused
abbrev pub RefusesDisks : {D : Type 0} → (D → Seen) → List D → Option OpenBad → Type 0
RefusesDisks disk_seen disks (Some bad) = Opens (map disk_seen disks) (Some bad)
RefusesDisks disk_seen disks None = IsImage (map disk_seen disks)

-- A pass q was split off the first pass, which is p' now: it has seen the same, and has made no call.
pub record SplitsOff {D : Type 0} (p p' q : PassesOver D) : Type 0 where
  pub first : is_first_pass p' ≡ true
  pub out_rises : passes_out p' ≡ passes_out p + 1
  pub seen_stays : seen_calls p' ≡ seen_calls p
  pub own_stays : own_calls p' ≡ own_calls p
  pub other : is_first_pass q ≡ false
  pub seen_given : seen_calls q ≡ seen_calls p
  pub own_none : own_calls q ≡ none_called

-- A pass q was joined into p, which is p' now: of each turn it keeps the longer history, which begins with both, and
-- the own calls are those of both.
pub record JoinsAll {D : Type 0} (p q p' : PassesOver D) : Type 0 where
  pub tracker : Joined p.tracker q.tracker p'.tracker
  pub graph : Joined p.graph q.graph p'.graph
  pub groups : Triples Joined p.groups.items q.groups.items p'.groups.items
  pub stripes : Triples Joined p.stripes.items q.stripes.items p'.stripes.items

-- The turns were closed with a pass: the disks come back in their order, each out of a stripe that stands for all that
-- the pass has seen of it, and so does the tracker. All of it are own calls of the pass.
pub record ClosesAll {D : Type 0} (disk_seen : D → Seen) (s : TurnsOver D) (p : PassesOver D) (disks : List D)
    (tracker : TrackerValue) : Type 0 where
  pub stripes : List (StripeState D)
  pub taken : disks ≡ map (λ (v : StripeState D). v.disk) stripes
  pub closed : Triples (Closed (steps_of_stripe disk_seen)) s.stripes.items p.stripes.items stripes
  pub tracked : Closed steps_of_tracker s.tracker p.tracker tracker

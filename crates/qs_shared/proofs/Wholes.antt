-- A session's passes, all together: after a call, a split and a join.
use Rattle.std.proofs.Common.{◌≡◌, ℕ, ◌+◌, Bool, true, false, List, [], refl, sym, ap, ◌∙◌, subst, arith}
use Rattle.std.specs.declared.snapshot.Snapshot.{Snapshot}
use Rattle.qs_outside.specs.Blocks.{Seen}
use Rattle.qs_part.specs.declared.graph.GraphOp.{GraphOp}
use Rattle.qs_part.specs.declared.graph.GraphReply.{GraphReply}
use Rattle.qs_part.specs.declared.group.GroupOp.{GroupOp}
use Rattle.qs_part.specs.declared.group.GroupReply.{GroupReply}
use Rattle.qs_part.specs.declared.runs.StripeAnswer.{StripeAnswer}
use Rattle.qs_part.specs.declared.runs.StripeCall.{StripeCall}
use Rattle.qs_part.specs.declared.tracker.TrackerOp.{TrackerOp}
use Rattle.qs_part.specs.declared.tracker.TrackerReply.{TrackerReply}
use Rattle.qs_part.specs.Histories.{Call}
use Rattle.qs_graph.specs.Table.{GraphValue}
use Rattle.qs_group.specs.Table.{GroupValue}
use Rattle.qs_stripe.specs.Table.{StripeState}
use Rattle.qs_tracker.specs.Table.{TrackerValue}
use Rattle.qs_turn.specs.declared.view.View.{View}
use Rattle.qs_turn.specs.Names.{Name, Known}
use Rattle.qs_turn.specs.Words.{opening, is_first, seen, own, out, IsPassOf, Calls}
use Rattle.qs_turn_rows.specs.Rows.{Pairs, Triples, Each, IsFirst, IsOther, Forked, CalledAt}
use Rattle.qs_shared.specs.Hall.{AreAlike, KeepsRoom, IsLawfulPass, IsSessionPass, JoinsAll, SplitsOff}
use Rattle.qs_shared.specs.Parts.{TurnsOver, PassesOver, steps_of_tracker, steps_of_graph, steps_of_group, steps_of_stripe}
use Rattle.qs_shared.specs.Passes.{AllCalls, FollowsAll, FollowsPass, is_first_pass, none_called, own_calls, seen_calls}
use Rattle.qs_shared.specs.Following.{pass_itself, row_itself}
use Rattle.qs_shared.proofs.Passing.{called_follows, called_lawful, first_later, forked_each, forked_pairs, given_each, given_pairs, joined_each, joined_lawful, joined_row, map_none, map_same, out_later, row_follows, row_lawful, same_lawful, same_row}

never_both : (b : Bool) → b ≡ false → b ≡ true → ⊥
never_both b off on = let e : false ≡ true = sym off ∙ on in cc

-- the calls of all parts are the same where those of each are
pub same_calls : (a b : AllCalls) → a.tracker ≡ b.tracker → a.graph ≡ b.graph → a.groups ≡ b.groups → a.stripes ≡ b.stripes → a ≡ b
same_calls a b t g l s =
    ap (λ (x : List (Call TrackerOp TrackerReply)). record a { tracker = x }) t
    ∙ ap (λ (x : List (Call GraphOp GraphReply)). record a { tracker = b.tracker; graph = x }) g
    ∙ ap (λ (x : List (List (Call GroupOp GroupReply))). record b { groups = x; stripes = a.stripes }) l
    ∙ ap (λ (x : List (List (Call StripeCall StripeAnswer))). record b { stripes = x }) s

module _ {D : Type 0} (disk_seen : D → Seen) (s : TurnsOver D) where
  alike_later : (p q : PassesOver D) → FollowsAll p q → AreAlike p → AreAlike q
  alike_later p q f a = record {
    graph = f.graph.same_first ∙ a.graph ∙ sym f.tracker.same_first;
    groups = first_later (is_first q.tracker) p.groups.items q.groups.items f.groups (λ i k e. a.groups i k e ∙ sym f.tracker.same_first);
    stripes = first_later (is_first q.tracker) p.stripes.items q.stripes.items f.stripes (λ i k e. a.stripes i k e ∙ sym f.tracker.same_first);
    graph_out = λ h. f.graph.same_out ∙ a.graph_out (sym f.tracker.same_first ∙ h) ∙ sym f.tracker.same_out;
    groups_out = λ h. out_later (out q.tracker) p.groups.items q.groups.items f.groups (λ i k e. a.groups_out (sym f.tracker.same_first ∙ h) i k e ∙ sym f.tracker.same_out);
    stripes_out = λ h. out_later (out q.tracker) p.stripes.items q.stripes.items f.stripes (λ i k e. a.stripes_out (sym f.tracker.same_first ∙ h) i k e ∙ sym f.tracker.same_out);
  }

  room_later : (p q : PassesOver D) → is_first_pass q ≡ is_first_pass p → q.stripe_room ≡ p.stripe_room → q.disk_room ≡ p.disk_room → KeepsRoom p → KeepsRoom q
  room_later p q first one two room = record {
    stripes_empty = ap (λ z. z.items) one ∙ room.stripes_empty;
    stripes_room = λ h. rw one (room.stripes_room (sym first ∙ h));
    disks_empty = ap (λ z. z.items) two ∙ room.disks_empty;
    disks_room = λ h. rw two (room.disks_room (sym first ∙ h));
  }

  -- a call of one part, for what it makes of the pass
  pub after_tracker : (p : PassesOver D) (k : Known (View TrackerValue TrackerOp TrackerReply)) (q : ℕ) (op : TrackerOp) (reply : TrackerReply) → IsSessionPass disk_seen s p → IsPassOf s.tracker k
      → Calls steps_of_tracker (opening s.tracker) p.tracker q op reply k → IsSessionPass disk_seen s (record p { tracker = k }) × FollowsAll p (record p { tracker = k })
  after_tracker p k q op reply h of called =
      let one : FollowsPass p.tracker k = called_follows steps_of_tracker (opening s.tracker) p.tracker q op reply k called in
      let follows : FollowsAll p (record p { tracker = k }) = record { tracker = one; graph = pass_itself p.graph; groups = row_itself p.groups.items; stripes = row_itself p.stripes.items } in (
        record {
          parts = h.parts;
          graph = h.graph;
          groups = h.groups;
          stripes = h.stripes;
          tracker = called_lawful steps_of_tracker s.tracker p.tracker q op reply k of called;
          alike = alike_later p (record p { tracker = k }) follows h.alike;
          room = room_later p (record p { tracker = k }) one.same_first refl refl h.room;
        },
        follows,
      )

  pub after_graph : (p : PassesOver D) (k : Known (View GraphValue GraphOp GraphReply)) (q : ℕ) (op : GraphOp) (reply : GraphReply) → IsSessionPass disk_seen s p → IsPassOf s.graph k
      → Calls steps_of_graph (opening s.graph) p.graph q op reply k → IsSessionPass disk_seen s (record p { graph = k }) × FollowsAll p (record p { graph = k })
  after_graph p k q op reply h of called =
      let follows : FollowsAll p (record p { graph = k }) = record { tracker = pass_itself p.tracker; graph = called_follows steps_of_graph (opening s.graph) p.graph q op reply k called; groups = row_itself p.groups.items; stripes = row_itself p.stripes.items } in (
        record {
          parts = h.parts;
          tracker = h.tracker;
          groups = h.groups;
          stripes = h.stripes;
          graph = called_lawful steps_of_graph s.graph p.graph q op reply k of called;
          alike = alike_later p (record p { graph = k }) follows h.alike;
          room = room_later p (record p { graph = k }) refl refl refl h.room;
        },
        follows,
      )

  pub after_group : (p p' : PassesOver D) (ts : List (Name (Snapshot GroupValue))) (i q : ℕ) (op : GroupOp) (reply : GroupReply) → IsSessionPass disk_seen s p → p' ≡ record p { groups = p'.groups } → ts ≡ s.groups.items
      → Pairs IsPassOf ts p'.groups.items → CalledAt steps_of_group ts i p.groups.items q op reply p'.groups.items → IsSessionPass disk_seen s p' × FollowsAll p p'
  after_group p p' ts i q op reply h rest are of called = subst (λ (x : PassesOver D). IsSessionPass disk_seen s x × FollowsAll p x) (sym rest) (
    record {
      parts = h.parts;
      tracker = h.tracker;
      graph = h.graph;
      stripes = h.stripes;
      groups = subst (λ (l : List (Name (Snapshot GroupValue))). Pairs (IsLawfulPass steps_of_group) l p'.groups.items) are
          (row_lawful steps_of_group ts i p.groups.items q op reply p'.groups.items (subst (λ (l : List (Name (Snapshot GroupValue))). Pairs (IsLawfulPass steps_of_group) l p.groups.items) (sym are) h.groups) of called);
      alike = alike_later p (record p { groups = p'.groups }) follows h.alike;
      room = room_later p (record p { groups = p'.groups }) refl refl refl h.room;
    },
    follows,
  )
    where
      follows : FollowsAll p (record p { groups = p'.groups })
      follows = record { tracker = pass_itself p.tracker; graph = pass_itself p.graph; groups = row_follows steps_of_group ts i p.groups.items q op reply p'.groups.items called; stripes = row_itself p.stripes.items }

  pub after_stripe : (p p' : PassesOver D) (ts : List (Name (Snapshot (StripeState D)))) (i q : ℕ) (op : StripeCall) (reply : StripeAnswer) → IsSessionPass disk_seen s p → p' ≡ record p { stripes = p'.stripes } → ts ≡ s.stripes.items
      → Pairs IsPassOf ts p'.stripes.items → CalledAt (steps_of_stripe disk_seen) ts i p.stripes.items q op reply p'.stripes.items → IsSessionPass disk_seen s p' × FollowsAll p p'
  after_stripe p p' ts i q op reply h rest are of called = subst (λ (x : PassesOver D). IsSessionPass disk_seen s x × FollowsAll p x) (sym rest) (
    record {
      parts = h.parts;
      tracker = h.tracker;
      graph = h.graph;
      groups = h.groups;
      stripes = subst (λ (l : List (Name (Snapshot (StripeState D)))). Pairs (IsLawfulPass (steps_of_stripe disk_seen)) l p'.stripes.items) are
          (row_lawful (steps_of_stripe disk_seen) ts i p.stripes.items q op reply p'.stripes.items (subst (λ (l : List (Name (Snapshot (StripeState D)))). Pairs (IsLawfulPass (steps_of_stripe disk_seen)) l p.stripes.items) (sym are) h.stripes) of called);
      alike = alike_later p (record p { stripes = p'.stripes }) follows h.alike;
      room = room_later p (record p { stripes = p'.stripes }) refl refl refl h.room;
    },
    follows,
  )
    where
      follows : FollowsAll p (record p { stripes = p'.stripes })
      follows = record { tracker = pass_itself p.tracker; graph = pass_itself p.graph; groups = row_itself p.groups.items; stripes = row_follows (steps_of_stripe disk_seen) ts i p.stripes.items q op reply p'.stripes.items called }

  -- a session's pass was split
  pub record Splits (p p' q : PassesOver D) : Type 0 where
    pub tracker : Forked p.tracker p'.tracker q.tracker
    pub graph : Forked p.graph p'.graph q.graph
    pub groups : Triples Forked p.groups.items p'.groups.items q.groups.items
    pub stripes : Triples Forked p.stripes.items p'.stripes.items q.stripes.items
    pub tracker_of : IsPassOf s.tracker p'.tracker × IsPassOf s.tracker q.tracker
    pub graph_of : IsPassOf s.graph p'.graph × IsPassOf s.graph q.graph
    pub groups_of : Pairs IsPassOf s.groups.items p'.groups.items × Pairs IsPassOf s.groups.items q.groups.items
    pub stripes_of : Pairs IsPassOf s.stripes.items p'.stripes.items × Pairs IsPassOf s.stripes.items q.stripes.items
    pub rooms : (p'.stripe_room ≡ p.stripe_room) × (p'.disk_room ≡ p.disk_room)
    pub none : (q.stripe_room.items ≡ []) × (q.disk_room.items ≡ [])

  pub split_first : (p p' q : PassesOver D) → IsSessionPass disk_seen s p → is_first_pass p ≡ true → Splits p p' q → IsSessionPass disk_seen s p'
  split_first p p' q h first f = record {
    parts = h.parts;
    tracker = same_lawful steps_of_tracker s.tracker p.tracker p'.tracker f.tracker.seen_stays f.tracker_of.0 h.tracker;
    graph = same_lawful steps_of_graph s.graph p.graph p'.graph f.graph.seen_stays f.graph_of.0 h.graph;
    groups = same_row steps_of_group s.groups.items p.groups.items p'.groups.items (forked_pairs (λ k n. seen n ≡ seen k) (λ k n g x. x.seen_stays) _ _ q.groups.items f.groups) f.groups_of.0 h.groups;
    stripes = same_row (steps_of_stripe disk_seen) s.stripes.items p.stripes.items p'.stripes.items (forked_pairs (λ k n. seen n ≡ seen k) (λ k n g x. x.seen_stays) _ _ q.stripes.items f.stripes) f.stripes_of.0 h.stripes;
    alike = record {
      graph = f.graph.first ∙ sym f.tracker.first;
      groups = forked_each (λ n. is_first n ≡ is_first p'.tracker) (λ k. is_first k ≡ is_first p.tracker) (λ k n g x was. x.first ∙ sym f.tracker.first) _ _ q.groups.items f.groups h.alike.groups;
      stripes = forked_each (λ n. is_first n ≡ is_first p'.tracker) (λ k. is_first k ≡ is_first p.tracker) (λ k n g x was. x.first ∙ sym f.tracker.first) _ _ q.stripes.items f.stripes h.alike.stripes;
      graph_out = λ e. more p.graph p'.graph (h.alike.graph_out first) f.graph.out_rises;
      groups_out = λ e. forked_each (λ n. out n ≡ out p'.tracker) (λ k. out k ≡ out p.tracker) (λ k n g x was. more k n was x.out_rises) _ _ q.groups.items f.groups (h.alike.groups_out first);
      stripes_out = λ e. forked_each (λ n. out n ≡ out p'.tracker) (λ k. out k ≡ out p.tracker) (λ k n g x was. more k n was x.out_rises) _ _ q.stripes.items f.stripes (h.alike.stripes_out first);
    };
    room = room_later p p' (f.tracker.first ∙ sym first) f.rooms.0 f.rooms.1 h.room;
  }
    where
      more : {P O R : Type 0} (k n : Known (View P O R)) → out k ≡ out p.tracker → out n ≡ out k + 1 → out n ≡ out p'.tracker
      more k n was rises = rises ∙ ap (λ (m : ℕ). m + 1) was ∙ sym f.tracker.out_rises

  pub split_other : (p p' q : PassesOver D) → IsSessionPass disk_seen s p → Splits p p' q → IsSessionPass disk_seen s q
  split_other p p' q h f = record {
    parts = h.parts;
    tracker = same_lawful steps_of_tracker s.tracker p.tracker q.tracker f.tracker.seen_given f.tracker_of.1 h.tracker;
    graph = same_lawful steps_of_graph s.graph p.graph q.graph f.graph.seen_given f.graph_of.1 h.graph;
    groups = same_row steps_of_group s.groups.items p.groups.items q.groups.items (given_pairs (λ k g. seen g ≡ seen k) (λ k n g x. x.seen_given) _ p'.groups.items _ f.groups) f.groups_of.1 h.groups;
    stripes = same_row (steps_of_stripe disk_seen) s.stripes.items p.stripes.items q.stripes.items (given_pairs (λ k g. seen g ≡ seen k) (λ k n g x. x.seen_given) _ p'.stripes.items _ f.stripes) f.stripes_of.1 h.stripes;
    alike = record {
      graph = f.graph.other ∙ sym f.tracker.other;
      groups = given_each (λ g. is_first g ≡ is_first q.tracker) (λ k n g x. x.other ∙ sym f.tracker.other) p.groups.items p'.groups.items _ f.groups;
      stripes = given_each (λ g. is_first g ≡ is_first q.tracker) (λ k n g x. x.other ∙ sym f.tracker.other) p.stripes.items p'.stripes.items _ f.stripes;
      graph_out = λ e. absurd (not_first e);
      groups_out = λ e. absurd (not_first e);
      stripes_out = λ e. absurd (not_first e);
    };
    room = record {
      stripes_empty = f.none.0;
      stripes_room = λ e. absurd (not_first e);
      disks_empty = f.none.1;
      disks_room = λ e. absurd (not_first e);
    };
  }
    where
      not_first : is_first q.tracker ≡ true → ⊥
      not_first e = never_both (is_first q.tracker) f.tracker.other e

  pub splits_off : (p p' q : PassesOver D) → IsSessionPass disk_seen s p → Splits p p' q → SplitsOff p p' q
  splits_off p p' q h f = record {
    first = f.tracker.first;
    out_rises = f.tracker.out_rises;
    seen_stays = same_calls (seen_calls p') (seen_calls p) f.tracker.seen_stays f.graph.seen_stays
        (map_same seen _ _ (forked_pairs (λ k n. seen n ≡ seen k) (λ k n g x. x.seen_stays) _ _ q.groups.items f.groups))
        (map_same seen _ _ (forked_pairs (λ k n. seen n ≡ seen k) (λ k n g x. x.seen_stays) _ _ q.stripes.items f.stripes));
    own_stays = same_calls (own_calls p') (own_calls p) f.tracker.own_stays f.graph.own_stays
        (map_same own _ _ (forked_pairs (λ k n. own n ≡ own k) (λ k n g x. x.own_stays) _ _ q.groups.items f.groups))
        (map_same own _ _ (forked_pairs (λ k n. own n ≡ own k) (λ k n g x. x.own_stays) _ _ q.stripes.items f.stripes));
    other = f.tracker.other;
    seen_given = same_calls (seen_calls q) (seen_calls p) f.tracker.seen_given f.graph.seen_given
        (map_same seen _ _ (given_pairs (λ k g. seen g ≡ seen k) (λ k n g x. x.seen_given) _ p'.groups.items _ f.groups))
        (map_same seen _ _ (given_pairs (λ k g. seen g ≡ seen k) (λ k n g x. x.seen_given) _ p'.stripes.items _ f.stripes));
    own_none = same_calls (own_calls q) none_called f.tracker.own_none f.graph.own_none
        (map_none own [] 16 _ (sym f.groups_of.1.long ∙ h.parts.groups) (given_each (λ g. own g ≡ []) (λ k n g x. x.own_none) p.groups.items p'.groups.items _ f.groups))
        (map_none own [] 8 _ (sym f.stripes_of.1.long ∙ h.parts.stripes) (given_each (λ g. own g ≡ []) (λ k n g x. x.own_none) p.stripes.items p'.stripes.items _ f.stripes));
  }

  -- a pass was joined into another
  pub record Joins (p q p' : PassesOver D) : Type 0 where
    pub joins : JoinsAll p q p'
    pub tracker_of : IsPassOf s.tracker p'.tracker
    pub graph_of : IsPassOf s.graph p'.graph
    pub groups_of : Pairs IsPassOf s.groups.items p'.groups.items
    pub stripes_of : Pairs IsPassOf s.stripes.items p'.stripes.items
    pub rooms : (p'.stripe_room ≡ p.stripe_room) × (p'.disk_room ≡ p.disk_room)

  pub joined_whole : (p q p' : PassesOver D) → IsSessionPass disk_seen s p → IsSessionPass disk_seen s q → is_first_pass p ≡ true → Joins p q p' → IsSessionPass disk_seen s p'
  joined_whole p q p' h o first f = record {
    parts = h.parts;
    tracker = joined_lawful steps_of_tracker s.tracker p.tracker q.tracker p'.tracker f.joins.tracker f.tracker_of h.tracker o.tracker;
    graph = joined_lawful steps_of_graph s.graph p.graph q.graph p'.graph f.joins.graph f.graph_of h.graph o.graph;
    groups = joined_row steps_of_group s.groups.items p.groups.items q.groups.items p'.groups.items f.joins.groups f.groups_of h.groups o.groups;
    stripes = joined_row (steps_of_stripe disk_seen) s.stripes.items p.stripes.items q.stripes.items p'.stripes.items f.joins.stripes f.stripes_of h.stripes o.stripes;
    alike = record {
      graph = f.joins.graph.same_first ∙ h.alike.graph ∙ sym f.joins.tracker.same_first;
      groups = joined_each (λ n. is_first n ≡ is_first p'.tracker) (λ k. is_first k ≡ is_first p.tracker) (λ k o n x was. x.same_first ∙ was ∙ sym f.joins.tracker.same_first) _ q.groups.items _ f.joins.groups h.alike.groups;
      stripes = joined_each (λ n. is_first n ≡ is_first p'.tracker) (λ k. is_first k ≡ is_first p.tracker) (λ k o n x was. x.same_first ∙ was ∙ sym f.joins.tracker.same_first) _ q.stripes.items _ f.joins.stripes h.alike.stripes;
      graph_out = λ e. less p.graph p'.graph (h.alike.graph_out first) f.joins.graph.out_falls;
      groups_out = λ e. joined_each (λ n. out n ≡ out p'.tracker) (λ k. out k ≡ out p.tracker) (λ k o n x was. less k n was x.out_falls) _ q.groups.items _ f.joins.groups (h.alike.groups_out first);
      stripes_out = λ e. joined_each (λ n. out n ≡ out p'.tracker) (λ k. out k ≡ out p.tracker) (λ k o n x was. less k n was x.out_falls) _ q.stripes.items _ f.joins.stripes (h.alike.stripes_out first);
    };
    room = room_later p p' f.joins.tracker.same_first f.rooms.0 f.rooms.1 h.room;
  }
    where
      less : {P O R : Type 0} (k n : Known (View P O R)) → out k ≡ out p.tracker → out n + 1 ≡ out k → out n ≡ out p'.tracker
      less k n was falls = let t : out p'.tracker + 1 ≡ out p.tracker = f.joins.tracker.out_falls in omega arith

  -- of a first pass each one is the first of its turn, and of another none
  pub each_first : (p : PassesOver D) → AreAlike p → is_first_pass p ≡ true → (is_first p.graph ≡ true) × Each IsFirst p.groups.items × Each IsFirst p.stripes.items
  each_first p a first = (a.graph ∙ first, (λ i k e. a.groups i k e ∙ first), λ i k e. a.stripes i k e ∙ first)

  pub each_other : (p : PassesOver D) → AreAlike p → is_first_pass p ≡ false → (is_first p.graph ≡ false) × Each IsOther p.groups.items × Each IsOther p.stripes.items
  each_other p a other = (a.graph ∙ other, (λ i k e. a.groups i k e ∙ other), λ i k e. a.stripes i k e ∙ other)

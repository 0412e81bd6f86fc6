use Rattle.std.proofs.Common.{refl}
use Rattle.qs_shared.specs.Parts.{steps_of_group, steps_of_stripe}
use Rattle.qs_shared.proofs.Passing.{pairs_pass}
use Rattle.qs_shared.proofs.Wholes.{joined_whole}
use Rattle.qs_shared.proofs.passes.SessionPass+D.join.Goals as goal

pub join_all-requires-clause-turns : goal.join_all-requires-clause-turns
join_all-requires-clause-turns g c =
    rw c.deref.ensures.value (pairs_pass steps_of_group _ _ c.requires.of.0.groups, pairs_pass steps_of_group _ _ c.requires.of.1.groups)

pub join_all-requires-2-clause-turns : goal.join_all-requires-2-clause-turns
join_all-requires-2-clause-turns g c =
    rw c.deref-2.ensures.value (pairs_pass (steps_of_stripe g.D.Disk.seen) _ _ c.requires.of.0.stripes, pairs_pass (steps_of_stripe g.D.Disk.seen) _ _ c.requires.of.1.stripes)

pub returns-clause-of : goal.returns-clause-of
returns-clause-of g c =
    joined_whole g.D.Disk.seen c.args.shared.now c.args.self.now c.args.other _ c.requires.of.0 c.requires.of.1 c.requires.first.0 (record {
      joins = record {
        tracker = c.join.ensures.joined;
        graph = c.join-2.ensures.joined;
        groups = c.join_all.ensures.joined;
        stripes = c.join_all-2.ensures.joined;
      };
      tracker_of = c.join.ensures.turn;
      graph_of = c.join-2.ensures.turn;
      groups_of = rw (← c.deref.ensures.value) c.join_all.ensures.turns;
      stripes_of = rw (← c.deref-2.ensures.value) c.join_all-2.ensures.turns;
      rooms = (refl, refl);
    })

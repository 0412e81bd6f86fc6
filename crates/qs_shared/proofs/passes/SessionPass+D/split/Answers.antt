use Rattle.std.proofs.Common.{refl}
use Rattle.qs_shared.proofs.Wholes.{Splits, split_first, split_other, splits_off}
use Rattle.qs_shared.proofs.passes.SessionPass+D.split.Goals as goal

pub returns-clause-of : goal.returns-clause-of
returns-clause-of g c =
    let f : Splits g.D.Disk.seen c.args.shared.now c.args.self.now _ _ = record {
      tracker = record {
        first = c.split.ensures.first.0;
        seen_stays = c.split.ensures.first.1;
        own_stays = c.split.ensures.first.2;
        out_rises = c.split.ensures.first.3;
        other = c.split.ensures.given.0;
        seen_given = c.split.ensures.given.1;
        own_none = c.split.ensures.given.2;
      };
      graph = record {
        first = c.split-2.ensures.first.0;
        seen_stays = c.split-2.ensures.first.1;
        own_stays = c.split-2.ensures.first.2;
        out_rises = c.split-2.ensures.first.3;
        other = c.split-2.ensures.given.0;
        seen_given = c.split-2.ensures.given.1;
        own_none = c.split-2.ensures.given.2;
      };
      groups = c.split_into.ensures.forked;
      stripes = c.split_into-2.ensures.forked;
      tracker_of = c.split.ensures.turn;
      graph_of = c.split-2.ensures.turn;
      groups_of = rw (← c.deref.ensures.value) c.split_into.ensures.turns;
      stripes_of = rw (← c.deref-2.ensures.value) c.split_into-2.ensures.turns;
      rooms = (refl, refl);
      none = (c.new.ensures.items, c.new-2.ensures.items);
    } in (
      split_first g.D.Disk.seen c.args.shared.now c.args.self.now _ _ c.requires.of c.requires.first f,
      split_other g.D.Disk.seen c.args.shared.now c.args.self.now _ _ c.requires.of f,
    )

pub returns-clause-splits : goal.returns-clause-splits
returns-clause-splits g c =
    let f : Splits g.D.Disk.seen c.args.shared.now c.args.self.now _ _ = record {
      tracker = record {
        first = c.split.ensures.first.0;
        seen_stays = c.split.ensures.first.1;
        own_stays = c.split.ensures.first.2;
        out_rises = c.split.ensures.first.3;
        other = c.split.ensures.given.0;
        seen_given = c.split.ensures.given.1;
        own_none = c.split.ensures.given.2;
      };
      graph = record {
        first = c.split-2.ensures.first.0;
        seen_stays = c.split-2.ensures.first.1;
        own_stays = c.split-2.ensures.first.2;
        out_rises = c.split-2.ensures.first.3;
        other = c.split-2.ensures.given.0;
        seen_given = c.split-2.ensures.given.1;
        own_none = c.split-2.ensures.given.2;
      };
      groups = c.split_into.ensures.forked;
      stripes = c.split_into-2.ensures.forked;
      tracker_of = c.split.ensures.turn;
      graph_of = c.split-2.ensures.turn;
      groups_of = rw (← c.deref.ensures.value) c.split_into.ensures.turns;
      stripes_of = rw (← c.deref-2.ensures.value) c.split_into-2.ensures.turns;
      rooms = (refl, refl);
      none = (c.new.ensures.items, c.new-2.ensures.items);
    } in
    splits_off g.D.Disk.seen c.args.shared.now c.args.self.now _ _ c.requires.of f

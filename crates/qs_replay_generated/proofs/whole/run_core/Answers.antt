-- The run begins where nothing was drawn yet.
use Rattle.std.proofs.Common.{refl}
use Rattle.qs_replay_generated.proofs.Telling.{from_first}
use Rattle.qs_replay_generated.specs.Making.{place}
use Rattle.qs_replay_generated.proofs.whole.run_core.Goals as goal

pub returns : goal.returns
returns g c = (
  place c.make_run-made.new.run c.make_run-made.new.live.items c.make_run-made.new.desk,
  (
    from_first g.D.Disk.seen c.args.seed c.args.size c.args.world c.new-run.result c.new-live.result.items c.new.result c.make_run-made.result _ c.make_run-made.new.counts
        c.new-run.ensures c.new-live.ensures.items c.new.ensures c.make_run-made.ensures,
    refl,
  ),
)

use Rattle.std.proofs.Common.{get_or, sym, ap, subst}
use Rattle.std.proofs.lemmas.List.Edits.{map_over_more}
use Rattle.qs_world.specs.declared.live.Live.{Live}
use Rattle.qs_world.specs.Follows.{IsFree, abandoned_of}
use Rattle.qs_world.proofs.Keyed.{all_at, over_at, map_over}
use Rattle.qs_world.proofs.live.abandon_all.Goals as goal

pub abandon_if-requires : goal.abandon_if-requires
abandon_if-requires c =
    rw c.loop-live.invariant
    (subst IsFree (sym (over_at (abandoned_of c.args.session) c.args.requests.now c.loop-live.live-index c.live-item.result c.loop-live-test.true))
    (all_at IsFree c.args.requests.now c.loop-live.live-index c.live-item.result c.requires c.loop-live-test.true))

pub loop-live-preserved : goal.loop-live-preserved
loop-live-preserved c =
    rw c.abandon_if.ensures
    (map_over_more (abandoned_of c.args.session) c.args.requests.now c.loop-live.live-items c.loop-live.live-index
    (get_or c.loop-live.live-items c.loop-live.live-index c.live-item.result) c.loop-live-test.true c.loop-live.invariant
    (ap (λ (x : Live). get_or c.loop-live.live-items c.loop-live.live-index x) c.live-item.is))

pub returns : goal.returns
returns c = map_over (abandoned_of c.args.session) c.args.requests.now c.loop-live.live-items c.loop-live.live-index c.loop-live-test.false c.loop-live.invariant

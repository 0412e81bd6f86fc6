use Rattle.std.proofs.Common.{◌≡◌, ◌<◌, length, ◌∙◌, arith}
use Rattle.qs_outside.specs.Crashes.{chosen}
use Rattle.qs_outside.specs.Held.{block_of}
use Rattle.qs_outside.proofs.Replays.{count-is, fixed-through, left-all, left-more, stores-kept}
use Rattle.qs_outside.proofs.store_log.StoreLog.replay.Goals as goal

pub replay_at-requires-clause-inside : goal.replay_at-requires-clause-inside
replay_at-requires-clause-inside c =
    let count = count-is _ _ _ _ _ c.self.view_is in
    let items : c.self.inside.blocks.len ≡ length c.self.inside.blocks.items = c.self.inside.blocks.ok.0 in
    omega (arith, c.loop-j-test.true, c.len-j-end.ensures, count, items)

pub replay_at-requires-clause-whole : goal.replay_at-requires-clause-whole
replay_at-requires-clause-whole c =
    let count = count-is _ _ _ _ _ c.self.view_is in
    let items : c.self.inside.blocks.len ≡ length c.self.inside.blocks.items = c.self.inside.blocks.ok.0 in
    stores-kept c.args.into.now c.loop-j.into c.args.self.now.stores c.loop-j.invariant.1 c.requires.whole c.loop-j.j
    (omega (arith, c.loop-j-test.true, c.len-j-end.ensures, count, items))

pub loop-j-preserved : goal.loop-j-preserved
loop-j-preserved c =
    let count = count-is _ _ _ _ _ c.self.view_is in
    let items : c.self.inside.blocks.len ≡ length c.self.inside.blocks.items = c.self.inside.blocks.ok.0 in
    let inside : c.loop-j.j < length c.args.self.now.stores = omega (arith, c.loop-j-test.true, c.len-j-end.ensures, count, items) in (
      left-more (chosen c.args.choice.now) c.args.self.now.stores c.loop-j.j (block_of c.args.into.now) c.loop-j.into c.replay_at.new.into inside
          c.replay_at.ensures.taken c.replay_at.ensures.passed c.loop-j.invariant.0,
      fixed-through c.loop-j.invariant.1 c.replay_at.ensures.fixed,
      c.replay_at.ensures.room ∙ c.loop-j.invariant.2,
    )

pub returns-clause-left : goal.returns-clause-left
returns-clause-left c =
    let count = count-is _ _ _ _ _ c.self.view_is in
    let items : c.self.inside.blocks.len ≡ length c.self.inside.blocks.items = c.self.inside.blocks.ok.0 in
    left-all (chosen c.args.choice.now) c.args.self.now.stores (block_of c.args.into.now) _ c.loop-j.j
    (omega (arith, c.loop-j-test.false, c.loop-j.auto.j-end, c.len-j-end.ensures, count, items)) c.loop-j.invariant.0

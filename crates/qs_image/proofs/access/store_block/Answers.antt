-- The disk that is called is the one of the block's stripe.
use Rattle.std.proofs.Common.{sym, ◌∙◌}
use Rattle.qs_image.proofs.Striped.{has_block, stores_by}
use Rattle.qs_image.proofs.access.store_block.Goals as goal

pub store-requires-clause-block : goal.store-requires-clause-block
store-requires-clause-block g c =
    (has_block g.D.Disk.seen c.args.disks.now c.args.b c.index-disks-k.result c.from-k.result (c.from-k.ensures ∙ c.stripe_of.ensures) c.requires.image c.requires.inside).0

pub store-requires-clause-whole : goal.store-requires-clause-whole
store-requires-clause-whole g c =
    c.requires.whole
    ∙ sym (has_block g.D.Disk.seen c.args.disks.now c.args.b c.index-disks-k.result c.from-k.result (c.from-k.ensures ∙ c.stripe_of.ensures) c.requires.image c.requires.inside).1

pub returns : goal.returns
returns g c =
    stores_by g.D.Disk.seen c.args.disks.now c.args.b c.index-disks-k.result c.from-k.result c.args.bytes.now c.store.result c.store.new.self
    (c.from-k.ensures ∙ c.stripe_of.ensures) c.requires.image c.requires.inside c.requires.whole
    (record { fixed = c.store.ensures.fixed; cause = c.store.ensures.cause; stored = c.store.ensures.stored; refused = c.store.ensures.refused })

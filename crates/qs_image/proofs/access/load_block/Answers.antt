-- The disk that is called is the one of the block's stripe.
use Rattle.std.proofs.Common.{sym, ◌∙◌}
use Rattle.qs_image.proofs.Striped.{has_block, loads_by}
use Rattle.qs_image.proofs.access.load_block.Goals as goal

pub load-requires-clause-block : goal.load-requires-clause-block
load-requires-clause-block g c =
    (has_block g.D.Disk.seen c.args.disks.now c.args.b c.index-disks-k.result c.from-k.result (c.from-k.ensures ∙ c.stripe_of.ensures) c.requires.image c.requires.inside).0

pub load-requires-clause-whole : goal.load-requires-clause-whole
load-requires-clause-whole g c =
    c.requires.whole
    ∙ sym (has_block g.D.Disk.seen c.args.disks.now c.args.b c.index-disks-k.result c.from-k.result (c.from-k.ensures ∙ c.stripe_of.ensures) c.requires.image c.requires.inside).1

pub returns : goal.returns
returns g c =
    loads_by g.D.Disk.seen c.args.disks.now c.args.b c.index-disks-k.result c.from-k.result c.load.new.into c.load.result c.load.new.self
    (c.from-k.ensures ∙ c.stripe_of.ensures) c.requires.image c.requires.inside (c.load.auto.into ∙ c.requires.whole)
    (record { fixed = c.load.ensures.fixed; cause = c.load.ensures.cause; bytes_are = c.load.ensures.bytes; kept = c.load.ensures.now; past = c.load.ensures.past })

-- What the words tell is within its bounds.
use Rattle.std.proofs.Common.{inr, refl}
use Rattle.qs_replay_words.proofs.Within.{image_of}
use Rattle.qs_replay.proofs.disks.memory_disks.Goals as goal

pub zero_disks-requires-clause-align : goal.zero_disks-requires-clause-align
zero_disks-requires-clause-align c = (image_of c.args.words.now c.in-Some.told c.in-Some.ensures.some).align

pub zero_disks-requires-clause-blocks : goal.zero_disks-requires-clause-blocks
zero_disks-requires-clause-blocks c = (image_of c.args.words.now c.in-Some.told c.in-Some.ensures.some).few

pub returns-in-None : goal.returns-in-None
returns-in-None c = inr (c.in-None.ensures.none refl, c.new.ensures.items)

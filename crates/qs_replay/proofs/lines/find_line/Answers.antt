-- What the pieces made of the line.
use Rattle.qs_replay.proofs.Coming.{seeks_end, seeks_event, seeks_fault, seeks_first, sought_first, sought_more}
use Rattle.qs_replay.proofs.lines.find_line.Goals as goal

pub returns-in-Some : goal.returns-in-Some
returns-in-Some g c =
    rw c.came_of.ensures (seeks_first _ c.feed.new.stream c.requires.ongoing c.in-Some.ensures.others _ c.feed.new.cutter c.in-Some.cut c.requires.fresh c.in-Some.ensures.feeds)

pub pieces-init : goal.pieces-init
pieces-init g c = sought_first _ c.feed.new.stream c.requires.ongoing c.feed.ensures.others _ _ c.requires.fresh c.in-None.ensures.feeds

pub returns-in_err-refill : goal.returns-in_err-refill
returns-in_err-refill g c =
    seeks_fault _ _ _ c.pieces.cutter c.pieces.invariant _ _ _ c.from_residual.ensures.1 c.in_err-refill.ensures.fills c.in_err-refill.ensures.written

pub returns-then-branch-eq0 : goal.returns-then-branch-eq0
returns-then-branch-eq0 g c =
    rw c.ending.ensures (seeks_end _ _ _ c.pieces.cutter c.pieces.invariant c.in_ok-refill.field-0 c.if-branch-eq0.true c.in_ok-refill.ensures.fills)

pub returns-in-Some-feed : goal.returns-in-Some-feed
returns-in-Some-feed g c =
    rw c.came_of-in-Some-feed.ensures
    (seeks_event _ _ _ c.pieces.cutter c.pieces.invariant c.feed-in-pieces.new.stream c.in_ok-refill.field-0 c.feed-in-pieces.new.cutter c.in_ok-refill.ensures.fills
    c.in-Some-feed.ensures.others c.in-Some-feed.cut c.in-Some-feed.ensures.feeds)

pub pieces-preserved : goal.pieces-preserved
pieces-preserved g c =
    sought_more _ _ _ _ c.pieces.invariant c.feed-in-pieces.new.stream c.in_ok-refill.field-0 _ c.in_ok-refill.ensures.fills c.in-None-feed.ensures.others
    c.in-None-feed.ensures.feeds

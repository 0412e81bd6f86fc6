-- Each way on from what was sought so far.
use Rattle.qs_opening.proofs.Sought.{seeks_first, sought_first, seeks_fault, seeks_end, seeks_event, sought_more}
use Rattle.qs_opening.proofs.event.next_event.Goals as goal

pub returns-in-Some : goal.returns-in-Some
returns-in-Some g c = seeks_first _ _ _ c.feed.new.stream c.requires.ongoing c.feed.ensures.others c.in-Some.event c.in-Some.ensures.feeds

pub pieces-init : goal.pieces-init
pieces-init g c = sought_first _ _ _ c.feed.new.stream c.requires.ongoing c.feed.ensures.others c.in-None.ensures.feeds

pub returns-in_err-fill : goal.returns-in_err-fill
returns-in_err-fill g c = seeks_fault _ _ c.pieces.reader _ _ _ c.pieces.invariant _ _ _ c.from_residual.ensures.1 c.in_err-fill.ensures

pub returns-then-branch-eq0 : goal.returns-then-branch-eq0
returns-then-branch-eq0 g c = seeks_end _ _ c.pieces.reader _ _ _ c.pieces.invariant c.in_ok-fill.field-0 c.if-branch-eq0.true c.in_ok-fill.ensures

pub returns-in-Some-feed : goal.returns-in-Some-feed
returns-in-Some-feed g c =
    seeks_event _ _ _ _ _ _ c.pieces.invariant c.feed-in-pieces.new.stream c.in_ok-fill.field-0 c.in_ok-fill.ensures c.in-Some-feed.ensures.others
    c.in-Some-feed.event c.in-Some-feed.ensures.feeds

pub pieces-preserved : goal.pieces-preserved
pieces-preserved g c =
    sought_more _ _ _ _ _ _ c.pieces.invariant c.feed-in-pieces.new.stream c.in_ok-fill.field-0 c.in_ok-fill.ensures c.in-None-feed.ensures.others
    c.in-None-feed.ensures.feeds

-- Six draws, one behind the other.
use Rattle.std.proofs.Common.{refl, ◌∙◌}
use Rattle.qs_generate.proofs.Following.{drawn_next, one_more}
use Rattle.qs_generate.proofs.draws.Draws.draw_round.Goals as goal

pub returns-clause-drawn : goal.returns-clause-drawn
returns-clause-drawn c =
    let x = c.args.self.now.state in
    let one = c.draw-session.ensures.state in
    let two = c.draw-kind.ensures.state ∙ one_more x 1 _ one in
    let three = c.draw-offset.ensures.state ∙ one_more x 2 _ two in
    let four = c.draw-length.ensures.state ∙ one_more x 3 _ three in
    let five = c.draw-byte.ensures.state ∙ one_more x 4 _ four in
    rw (
      c.draw-session.ensures.drawn,
      drawn_next x 1 _ _ _ one c.draw-kind.ensures.drawn,
      drawn_next x 2 _ _ _ two c.draw-offset.ensures.drawn,
      drawn_next x 3 _ _ _ three c.draw-length.ensures.drawn,
      drawn_next x 4 _ _ _ four c.draw-byte.ensures.drawn,
      drawn_next x 5 _ _ _ five c.draw-steps.ensures.drawn,
    ) refl

pub returns-clause-state : goal.returns-clause-state
returns-clause-state c =
    let x = c.args.self.now.state in
    let one = c.draw-session.ensures.state in
    let two = c.draw-kind.ensures.state ∙ one_more x 1 _ one in
    let three = c.draw-offset.ensures.state ∙ one_more x 2 _ two in
    let four = c.draw-length.ensures.state ∙ one_more x 3 _ three in
    let five = c.draw-byte.ensures.state ∙ one_more x 4 _ four in
    c.draw-steps.ensures.state ∙ one_more x 5 _ five

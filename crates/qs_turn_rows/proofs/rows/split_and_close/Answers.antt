use Rattle.qs_turn_rows.proofs.Closes.{alone_again, closed_as_before}
use Rattle.qs_turn_rows.proofs.rows.split_and_close.Goals as goal

pub split_all-requires-clause-first : goal.split_all-requires-clause-first
split_all-requires-clause-first g c i k e = (c.requires.alone i k e).0

pub close_all-requires-clause-first : goal.close_all-requires-clause-first
close_all-requires-clause-first g c = alone_again _ _ _ _ c.in_ok-others.ensures.forked c.join_all.ensures.joined c.requires.alone

pub returns : goal.returns
returns g c = closed_as_before _ _ _ _ _ _ _ c.in_ok-others.ensures.forked c.join_all.ensures.joined c.close_all.ensures

use Rattle.std.specs.Prelude.{◌≡◌, ◌*◌, drop}
use Rattle.qs_nbd_handshake.specs.Inquiries.{is_among, numbers_in}
use Rattle.qs_nbd_handshake.proofs.inquiry.is_asked.Given as goal

-- those before `at` aren't it
abbrev pub invariant-loop-at : goal.invariant-loop-at
invariant-loop-at l = is_among l.wanted (numbers_in l.requests) ≡ is_among l.wanted (numbers_in (drop (2 * l.at) l.requests))

use Rattle.std.proofs.Common.{refl, sym, ◌∙◌, arith}
use Rattle.qs_nbd_wire.specs.Requests.{head_of}
use Rattle.qs_nbd_wire.proofs.Requests.{head_is}
use Rattle.qs_nbd_transmission.proofs.Reading.{behind_wants, behind_none}
use Rattle.qs_nbd_transmission.proofs.stage.end_head.Goals as goal
use Rattle.qs_nbd_transmission.proofs.stage.end_head.Goals.{then-wants_body, else-wants_body}

pub returns-then-found-eq-DISC-clause-step : goal.returns-then-found-eq-DISC-clause-step
returns-then-found-eq-DISC-clause-step c =
    let is = c.request_head-found.ensures.reads in
    record {
      head = head_is c.args.head.now (λ i. omega (arith, c.type_inv.head i)) c.requires.whole c.requires.magic (rw is at c.request_head-found.ensures.fits);
      disc = rw is at c.if-found-eq-DISC.true;
      over = refl;
    }

pub returns-then-is_over_long-clause-step : goal.returns-then-is_over_long-clause-step
returns-then-is_over_long-clause-step c =
    let is = c.request_head-found.ensures.reads in
    rw c.refused.ensures (record {
      head = head_is c.args.head.now (λ i. omega (arith, c.type_inv.head i)) c.requires.whole c.requires.magic (rw is at c.request_head-found.ensures.fits);
      long = rw is at (sym c.is_over_long.ensures ∙ c.if-is_over_long.true);
      told = rw is at c.from.ensures;
      stuck = refl;
    })

pub returns-clause-step : goal.returns-clause-step
returns-clause-step c =
    let is = c.request_head-found.ensures.reads in
    let body = rw is at c.wants_body.ensures in
    record {
      head = head_is c.args.head.now (λ i. omega (arith, c.type_inv.head i)) c.requires.whole c.requires.magic (rw is at c.request_head-found.ensures.fits);
      not_disc = rw is at c.if-found-eq-DISC.false;
      not_long = rw is at (sym c.is_over_long.ensures ∙ c.if-is_over_long.false);
      asks = rw is at c.ask.ensures;
      behind = elim c.if-wants_body.branch [
        | then-wants_body w ↦ rw w.stage-is (behind_wants (head_of c.args.head.now) (sym body ∙ w.if-wants_body.true))
        | else-wants_body w ↦ rw w.stage-is (behind_none (head_of c.args.head.now) (sym body ∙ w.if-wants_body.false))
      ];
    }

-- A whole option came, or a head that is refused, or the stream had failed.
use Rattle.std.proofs.Common.{ap, ◌∙◌}
use Rattle.std.specs.Prelude.{Some}
use Rattle.qs_nbd_handshake.specs.declared.event.HandEvent.{HandEvent}
use Rattle.qs_opening.proofs.Brought.{asks, asks_bad}
use Rattle.qs_opening.proofs.Coming.{asks_fault}
use Rattle.qs_opening.proofs.turn.next_option.Goals as goal

pub returns-in_err-check : goal.returns-in_err-check
returns-in_err-check g c = asks_fault _ _ _ c.from_residual.result _ c.from_residual.ensures.1 c.in_err-check.ensures

pub returns-in-Some-Wanted : goal.returns-in-Some-Wanted
returns-in-Some-Wanted g c =
    asks _ c.next_event.new.reader _ _ c.in_ok-want.field-0 c.requires.awaits c.in_ok-want.ensures c.in-Some-Wanted.want
    (c.in-Some-Wanted.is ∙ ap (λ (e : HandEvent). Some e) c.in-Some-Wanted.field-0-is)

pub returns-in-Some-Bad : goal.returns-in-Some-Bad
returns-in-Some-Bad g c =
    asks_bad _ c.next_event.new.reader _ _ c.in_ok-want.field-0 c.requires.awaits c.in_ok-want.ensures c.in-Some-Bad.bad
    (c.in-Some-Bad.is ∙ ap (λ (e : HandEvent). Some e) c.in-Some-Bad.field-0-is)

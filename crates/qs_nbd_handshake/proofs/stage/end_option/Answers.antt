use Rattle.std.proofs.Common.{◌≡◌, ◌-◌, length, take, drop, Option, None, ap, sym, ◌∙◌, arith}
use Rattle.std.proofs.lemmas.List.{take_all, length-drop}
use Rattle.qs_status.specs.declared.status.SessionEnd.{SessionEnd}
use Rattle.qs_nbd_wire.specs.declared.option.OptionHead.{OptionHead}
use Rattle.qs_nbd_wire.specs.Options.{option_head_of}
use Rattle.qs_nbd_handshake.specs.declared.wish.Wish.{Wish}
use Rattle.qs_nbd_handshake.specs.Phases.{Asked, phase_of_option, wish_in}
use Rattle.qs_nbd_handshake.specs.Wishes.{option_fault, wish_of}
use Rattle.qs_nbd_handshake.proofs.stage.end_option.Goals as goal

pub returns-in-None-clause-phase : goal.returns-in-None-clause-phase
returns-in-None-clause-phase c buffer =
    let message = c.args.message.now in
    let fault : option_fault c.args.terms.fixed (option_head_of message) ≡ None =
    ap (λ (h : OptionHead). option_fault c.args.terms.fixed h) (sym c.head_at-head.ensures) ∙ sym c.head_fault.ensures ∙ c.in-None.is in
    let tail : take (length message - 16) (drop 16 message) ≡ drop 16 message = take_all _ _ (omega (arith, length-drop 16 message)) in
    let asks : c.read_wish-wish.result ≡ wish_in message =
    c.read_wish-wish.ensures ∙ ap (λ xs. wish_of c.head_at-head.result.number xs) tail ∙ ap (λ (h : OptionHead). wish_of h.number (drop 16 message)) c.head_at-head.ensures in
    ap (λ (w : Wish). Asked w) asks
    ∙ ap (λ (o : Option SessionEnd). phase_of_option o (wish_in message)) (sym fault)

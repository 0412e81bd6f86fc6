use Rattle.std.proofs.Common.{◌≡◌, ◌+◌, ◌*◌, Bool, true, false, ◌||◌, ◌==◌, drop, ap, sym, ◌∙◌, arith}
use Rattle.std.proofs.lemmas.Bool.{eq-eqb, ne_eqb}
use Rattle.qs_bytes.specs.Numbers.{number16}
use Rattle.qs_nbd_handshake.specs.Inquiries.{is_among, numbers_in}
use Rattle.qs_nbd_handshake.proofs.Asking.{asks_on}
use Rattle.qs_nbd_handshake.proofs.inquiry.is_asked.Goals as goal

pub returns-then-u16_at-wanted : goal.returns-then-u16_at-wanted
returns-then-u16_at-wanted c =
    let at = 2 * c.loop-at.at in
    let all = c.args.requests.now in
    let on = asks_on c.args.wanted all at (omega (arith, c.requires, c.loop-at-test.true)) in
    let yes : (number16 all at == c.args.wanted) ≡ true = eq-eqb _ _ (sym c.u16_at.ensures ∙ c.if-u16_at-wanted.true) in
    sym (c.loop-at.invariant ∙ on ∙ ap (λ (b : Bool). b || is_among c.args.wanted (numbers_in (drop (at + 2) all))) yes)

pub loop-at-preserved : goal.loop-at-preserved
loop-at-preserved c =
    let at = 2 * c.loop-at.at in
    let all = c.args.requests.now in
    let on = asks_on c.args.wanted all at (omega (arith, c.requires, c.loop-at-test.true)) in
    let no : (number16 all at == c.args.wanted) ≡ false = ne_eqb _ _ (λ e. c.if-u16_at-wanted.false (c.u16_at.ensures ∙ e)) in
    let next : at + 2 ≡ 2 * (c.loop-at.at + 1) = omega arith in
    c.loop-at.invariant ∙ on ∙ ap (λ (b : Bool). b || is_among c.args.wanted (numbers_in (drop (at + 2) all))) no
    ∙ ap (λ k. is_among c.args.wanted (numbers_in (drop k all))) next

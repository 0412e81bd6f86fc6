use Rattle.std.proofs.Common.{◌≡◌, ℕ, length, slice_get, ap, sym, ◌∙◌, subst, [], arith}
use Rattle.qs_turn_rows.specs.Rows.{JoinedAt}
use Rattle.qs_turn_rows.proofs.Places.{get_mid, joining_none, joining_more, join_each}
use Rattle.qs_turn_rows.proofs.rows.join_all.Goals as goal

pub loop-other-init : goal.loop-other-init
loop-other-init g c = joining_none _ _ _ c.requires.turns.0 c.requires.first.0 (sym c.requires.turns.1.long)

pub join_at-requires-clause-first : goal.join_at-requires-clause-first
join_at-requires-clause-first g c =
    let s = c.loop-other.invariant in
    let left = c.pop.new.self.items in
    (s.first, c.requires.first.1 (length left) c.in-Some.other (s.front (length left) c.in-Some.other (ap (λ l. slice_get l (length left)) c.in-Some.ensures.items ∙ get_mid left c.in-Some.other [])))

pub join_at-requires-clause-other : goal.join_at-requires-clause-other
join_at-requires-clause-other g c t e =
    let s = c.loop-other.invariant in
    let left = c.pop.new.self.items in
    let there = s.front (length left) c.in-Some.other (ap (λ l. slice_get l (length left)) c.in-Some.ensures.items ∙ get_mid left c.in-Some.other []) in
    let place : c.len.result ≡ length left = omega arith in
    c.requires.turns.1.each (length left) t c.in-Some.other (ap (slice_get c.args.turns.now) (sym place) ∙ e) there

pub loop-other-preserved : goal.loop-other-preserved
loop-other-preserved g c =
    let place : c.len.result ≡ length c.pop.new.self.items = omega arith in
    let at = subst (λ (n : ℕ). JoinedAt n c.loop-other.passes.items c.in-Some.other c.join_at.new.passes.items) place c.join_at.ensures.joined in
    joining_more _ _ _ _ _ _ _ _ c.loop-other.invariant c.in-Some.ensures.items c.join_at.ensures.turns at

pub returns-clause-joined : goal.returns-clause-joined
returns-clause-joined g c =
    let none : length c.loop-other.others.items ≡ 0 = (let z = c.in_default.ensures.cases.0 in omega arith) in
    join_each _ _ _ _ _ c.loop-other.invariant none (sym c.requires.turns.1.long)

use Rattle.std.proofs.Common.{◌≡◌, ℕ, false, Some, None, Option, IsSome, MatchOption, refl, sym, ◌∙◌, subst}
use Rattle.std.proofs.lemmas.Option.{none-some}
use Rattle.std.specs.Ordering.{is_gt, is_lt}
use Rattle.qs_cookies.specs.Used.{IsRun, by_session}
use Rattle.qs_cookies.proofs.Runs.{ge_within, le_within, one_session, within_le}
use Rattle.qs_cookies.proofs.used.run_before.Goals as goal

none_side : {X : Type 0} {P : Type 0} (Q : X → Type 0) (o : Option X) → o ≡ None → MatchOption o P Q → P
none_side Q None is known = known
none_side Q (Some x) is known = absurd (none-some x (sym is))

pub returns-in-Some : goal.returns-in-Some
returns-in-Some c =
    let n = c.args.session in
    let range = c.range.ensures.in_range tt in
    let start = c.in-Some.start.now in
    let entry = range.3 (start, c.in-Some.last.now) c.next_back.new.self c.in-Some.ensures.steps in
    record {
      found = record {
        is = subst (λ (k : ℕ). IsRun c.args.runs.now k start.1 c.in-Some.last.now) c.if-start-session.true entry.1;
        begins = le_within n start.1 c.args.cookie
            (subst (λ (k : ℕ). is_gt (by_session (k, start.1) (n, c.args.cookie)) ≡ false) c.if-start-session.true entry.0.1);
        latest = λ other end run low. ge_within n start.1 other
            (subst (λ (k : ℕ). is_lt (by_session (k, start.1) (n, other)) ≡ false) c.if-start-session.true
            (range.4 (start, c.in-Some.last.now) c.next_back.new.self c.in-Some.ensures.steps (n, other) (tt, within_le n other c.args.cookie low)
            (subst IsSome (sym run) refl)));
      };
      ordered = c.range.ensures.ordered;
    }

pub returns-in_default : goal.returns-in_default
returns-in_default c =
    let n = c.args.session in
    let range = c.range.ensures.in_range tt in
    let start = c.in-Some.start.now in
    let entry = range.3 (start, c.in-Some.last.now) c.next_back.new.self c.in-Some.ensures.steps in
    record {
      found = λ first last run low. c.if-start-session.false
          (one_session start.0 n start.1 first c.args.cookie entry.0.1
          (range.4 (start, c.in-Some.last.now) c.next_back.new.self c.in-Some.ensures.steps (n, first) (tt, within_le n first c.args.cookie low)
          (subst IsSome (sym run) refl)));
      ordered = c.range.ensures.ordered;
    }

pub returns-in_default-2 : goal.returns-in_default-2
returns-in_default-2 c =
    let range = c.range.ensures.in_range tt in
    record {
      found = λ first last run low. none-some last
          (sym (range.5 (none_side _ c.next_back.result c.in_default.is c.next_back.ensures.steps).0 (c.args.session, first) (tt, within_le c.args.session first c.args.cookie low)) ∙ run);
      ordered = c.range.ensures.ordered;
    }

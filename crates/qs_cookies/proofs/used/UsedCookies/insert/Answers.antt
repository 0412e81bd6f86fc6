use Rattle.std.proofs.Common.{◌≡◌, ℕ, ◌<◌, ◌≤◌, ◌+◌, Some, None, inl, inr, ap, sym, ◌∙◌, arith}
use Rattle.std.specs.FinSet.{insert}
use Rattle.qs_cookies.specs.Used.{AreApart, IsEndBehind, IsRun, CookieRuns}
use Rattle.qs_cookies.proofs.Joined.{Joins, joins_alone, joins_both, still_apart}
use Rattle.qs_cookies.proofs.Runs.{sets_of}
use Rattle.qs_cookies.proofs.Shown.{joined_set, kept_set}
use Rattle.qs_cookies.proofs.used.UsedCookies.insert.Goals as goal

alone_of : (m : CookieRuns) (n c last : ℕ) → AreApart m → IsEndBehind m n c last → last ≤ c → last ≡ c
alone_of m n c last good (inl run) low = let fits = good.forward n (c + 1) last run in absurd (omega (arith, fits, low))
alone_of m n c last good (inr is) low = is

behind_of : (m : CookieRuns) (n c last : ℕ) → IsEndBehind m n c last → c < last → IsRun m n (c + 1) last
behind_of m n c last (inl run) more = run
behind_of m n c last (inr is) more = absurd (omega (arith, is, more))

-- the cookie got a run of its own, or made the one before it longer
alone : (c : goal.Else-last-cookie) → Joins c.self.inside.runs c.insert.new.self c.args.session c.args.cookie c.in-Some.first c.end_behind-last.result
alone c =
    joins_alone c.self.inside.runs c.insert.new.self c.args.session c.args.cookie c.in-Some.first c.end_behind-last.result c.self.invariant c.in-Some.ensures.found
    (alone_of c.self.inside.runs c.args.session c.args.cookie _ c.self.invariant c.end_behind-last.ensures c.if-last-cookie.false)
    (sets_of c.self.inside.runs c.insert.new.self (c.args.session, c.in-Some.first) (Some c.end_behind-last.result) c.in_ok-insert.ensures.updates)

-- the run behind the cookie became part of its run
both : (c : goal.After-remove) → Joins c.self.inside.runs c.remove.new.self c.args.session c.args.cookie c.in-Some.first c.end_behind-last.result
both c =
    joins_both c.self.inside.runs c.insert.new.self c.remove.new.self c.args.session c.args.cookie c.in-Some.first c.end_behind-last.result c.self.invariant c.in-Some.ensures.found
    (behind_of c.self.inside.runs c.args.session c.args.cookie _ c.end_behind-last.ensures c.if-last-cookie.true) c.if-last-cookie.true
    (sets_of c.self.inside.runs c.insert.new.self (c.args.session, c.in-Some.first) (Some c.end_behind-last.result) c.in_ok-insert.ensures.updates)
    (sets_of c.insert.new.self c.remove.new.self (c.args.session, c.args.cookie + 1) None c.remove.ensures.updates)

pub returns-in_default-clause-ok : goal.returns-in_default-clause-ok
returns-in_default-clause-ok c =
    sym c.self.view_is ∙ kept_set c.self.inside.runs c.args.session c.args.cookie c.in_default.ensures.found
    ∙ ap (λ s. insert s (c.args.session, c.args.cookie)) c.self.view_is

pub invariant_of-self-then-last-cookie : goal.invariant_of-self-then-last-cookie
invariant_of-self-then-last-cookie c = still_apart (both c)

pub invariant_of-self-else-last-cookie : goal.invariant_of-self-else-last-cookie
invariant_of-self-else-last-cookie c = still_apart (alone c)

pub returns-then-last-cookie-clause-ok : goal.returns-then-last-cookie-clause-ok
returns-then-last-cookie-clause-ok c =
    joined_set c.self.inside.runs c.remove.new.self c.args.session c.args.cookie c.in-Some.first c.end_behind-last.result c.start_for.ensures.ordered c.remove.ensures.ordered (both c)
    ∙ ap (λ s. insert s (c.args.session, c.args.cookie)) c.self.view_is

pub returns-else-last-cookie-clause-ok : goal.returns-else-last-cookie-clause-ok
returns-else-last-cookie-clause-ok c =
    joined_set c.self.inside.runs c.insert.new.self c.args.session c.args.cookie c.in-Some.first c.end_behind-last.result c.start_for.ensures.ordered c.insert.ensures.ordered (alone c)
    ∙ ap (λ s. insert s (c.args.session, c.args.cookie)) c.self.view_is

-- The request is kept, or nothing is.
use Rattle.std.proofs.Common.{sym, ap, ◌∙◌, subst}
use Rattle.std.specs.FinSet as set
use Rattle.qs_cookies.specs.Used.{by_session}
use Rattle.qs_replay_lines.specs.Tables.{AreUsed, Names, adds}
use Rattle.qs_replay_lines.proofs.Lives.{live_insert, live_none, live_same, used_more, used_same}
use Rattle.qs_replay_lines.proofs.table.Table.make.Goals as goal

pub invariant_of-self-in-Ok : goal.invariant_of-self-in-Ok
invariant_of-self-in-Ok c =
    subst (λ (s : set.FinSet by_session). AreUsed s c.insert.new.self) (sym c.in-Ok.ensures.ok)
    (used_more c.self.inside.used c.self.inside.live c.insert.new.self (c.args.session, c.args.cookie) c.args.number c.self.invariant c.in_ok-insert.ensures.updates)

pub invariant_of-self-in-Err : goal.invariant_of-self-in-Err
invariant_of-self-in-Err c =
    subst (λ (s : set.FinSet by_session). AreUsed s c.remove.new.self) (sym c.in-Err.ensures.err)
    (used_same c.self.inside.used c.self.inside.live c.insert.new.self c.remove.new.self (c.args.session, c.args.cookie) c.args.number c.self.invariant
    c.in_ok-insert.ensures.updates c.remove.ensures.updates)

pub returns-in-Ok-clause-ok : goal.returns-in-Ok-clause-ok
returns-in-Ok-clause-ok c =
    (λ i. record {
      sessions = c.self.inside.sessions.keys;
      used = c.in-Ok.ensures.ok i;
      live = live_insert c.self.inside.live c.insert.new.self (c.args.session, c.args.cookie) c.args.number c.in_ok-insert.ensures.updates i;
    })
    ∙ ap (λ (t : Names). adds t c.args.session c.args.cookie c.args.number) c.self.view_is

pub returns-in-Err-clause-err : goal.returns-in-Err-clause-err
returns-in-Err-clause-err c =
    let none = live_none c.self.inside.used c.self.inside.live (c.args.session, c.args.cookie) c.self.invariant
    (ap (λ (t : Names). set.contains t.used (c.args.session, c.args.cookie)) c.self.view_is ∙ c.requires.unused) in
    (λ i. record {
      sessions = c.self.inside.sessions.keys;
      used = c.in-Err.ensures.err i;
      live = live_same c.self.inside.live c.insert.new.self c.remove.new.self (c.args.session, c.args.cookie) c.args.number none
          c.in_ok-insert.ensures.updates c.remove.ensures.updates i;
    })
    ∙ c.self.view_is

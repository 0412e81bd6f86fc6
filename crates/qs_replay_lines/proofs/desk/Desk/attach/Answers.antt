-- The event was refused, or memory behind it.
use Rattle.std.proofs.Common.{refl, false}
use Rattle.qs_part.specs.declared.event.Event.TheVariants as event
use Rattle.qs_script.specs.declared.line.Line.TheVariants as line
use Rattle.qs_replay_lines.proofs.Happening.{attach_cut, attach_played}
use Rattle.qs_replay_lines.proofs.Playing.{stopped_event, stops}
use Rattle.qs_replay_lines.proofs.desk.Desk.attach.Goals as goal

pub returns-in_err-outcome : goal.returns-in_err-outcome
returns-in_err-outcome g c =
    stops g.D.Disk.seen c.args.self.now (line.Session c.args.session c.args.export) false c.in_err-outcome.field-0.0 _ _ c.from_residual-in_err-outcome.ensures.1
    (stopped_event g.D.Disk.seen c.args.self.now (line.Session c.args.session c.args.export) c.in_err-outcome.field-0.0 _
    (event.Attach c.in_ok-number.number c.args.export) c.number.new.self false (c.in_ok-number.number, (c.in_ok-number.ensures.ok, refl)) c.in_err-outcome.ensures.err refl
    (λ e. c.in_err-outcome.ensures.next (cc)) (λ e. c.in_err-outcome.ensures.form (cc)) (λ again. again))

pub returns-in_err-put_session : goal.returns-in_err-put_session
returns-in_err-put_session g c =
    stops g.D.Disk.seen c.args.self.now (line.Session c.args.session c.args.export) false _ _ _ c.from_residual-in_err-put_session.ensures.1
    (attach_cut g.D.Disk.seen c.args.self.now c.args.session c.args.export
    (record { world = c.happen.new.world; table = c.number.new.self; out = c.put_session.new.out; alloc = c.args.self.now.alloc }) c.in_ok-number.number c.in_ok-outcome.outcome c.number.new.self c.in_ok-number.ensures.ok
    c.in_ok-outcome.ensures.ok c.in_err-put_session.ensures.err)

pub returns : goal.returns
returns g c =
    attach_played g.D.Disk.seen c.args.self.now c.args.session c.args.export _ c.in_ok-number.number c.in_ok-outcome.outcome c.number.new.self c.in_ok-number.ensures.ok
    c.in_ok-outcome.ensures.ok refl (rw c.news_of.ensures at c.in_ok-put_session.ensures.ok) c.quiet.result c.quiet.ensures

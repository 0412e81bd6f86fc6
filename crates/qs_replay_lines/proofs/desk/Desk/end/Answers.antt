-- The event was refused, or memory behind it.
use Rattle.std.proofs.Common.{refl, false}
use Rattle.qs_part.specs.declared.event.Event.TheVariants as event
use Rattle.qs_script.specs.declared.line.Line.TheVariants as line
use Rattle.qs_replay_lines.proofs.Happening.{end_cut, end_played}
use Rattle.qs_replay_lines.proofs.Playing.{stopped_event, stops}
use Rattle.qs_replay_lines.proofs.desk.Desk.end.Goals as goal

pub returns-in_err-happen : goal.returns-in_err-happen
returns-in_err-happen g c =
    stops g.D.Disk.seen c.args.self.now (line.End c.args.session) false c.in_err-happen.field-0.0 _ _ c.from_residual-in_err-happen.ensures.1
    (stopped_event g.D.Disk.seen c.args.self.now (line.End c.args.session) c.in_err-happen.field-0.0 _
    (event.Leave c.in_ok-number.number) c.number.new.self false (c.in_ok-number.number, (c.in_ok-number.ensures.ok, refl)) c.in_err-happen.ensures.err refl
    (λ e. c.in_err-happen.ensures.next (cc)) (λ e. c.in_err-happen.ensures.form (cc)) (λ again. again))

pub returns-in_err-put_session : goal.returns-in_err-put_session
returns-in_err-put_session g c =
    stops g.D.Disk.seen c.args.self.now (line.End c.args.session) false _ _ _ c.from_residual-in_err-put_session.ensures.1
    (end_cut g.D.Disk.seen c.args.self.now c.args.session
    (record { world = c.happen.new.world; table = c.number.new.self; out = c.put_session.new.out; alloc = c.args.self.now.alloc }) c.in_ok-number.number c.in_ok-happen.field-0 c.number.new.self c.in_ok-number.ensures.ok
    c.in_ok-happen.ensures.ok c.in_err-put_session.ensures.err)

pub returns : goal.returns
returns g c =
    end_played g.D.Disk.seen c.args.self.now c.args.session _ c.in_ok-number.number c.in_ok-happen.field-0 c.number.new.self c.in_ok-number.ensures.ok
    c.in_ok-happen.ensures.ok refl c.in_ok-put_session.ensures.ok c.quiet.result c.quiet.ensures

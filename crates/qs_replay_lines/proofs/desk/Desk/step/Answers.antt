-- The event was refused, or memory behind it.
use Rattle.std.proofs.Common.{refl, false, ap, Bool}
use Rattle.std.specs.Prelude.{Option}
use Rattle.qs_part.specs.declared.event.Event.TheVariants as event
use Rattle.qs_script.specs.declared.line.Line.TheVariants as line
use Rattle.qs_replay_lines.proofs.Happening.{step_cut, step_played}
use Rattle.qs_replay_lines.proofs.Playing.{stopped_event, stops}
use Rattle.qs_replay_lines.proofs.desk.Desk.step.Goals as goal

pub returns-in_err-outcome : goal.returns-in_err-outcome
returns-in_err-outcome g c =
    stops g.D.Disk.seen c.args.self.now (line.Step c.args.who.now c.args.now) false c.in_err-outcome.field-0.0 _ _ c.from_residual-in_err-outcome.ensures.1
    (stopped_event g.D.Disk.seen c.args.self.now (line.Step c.args.who.now c.args.now) c.in_err-outcome.field-0.0 _
    (event.Step c.in_ok-found.found.actor c.args.now) c.actor_for.new.table false (c.in_ok-found.found.actor, (c.in_ok-found.ensures.ok.0, refl)) c.in_err-outcome.ensures.err refl
    (λ e. c.in_err-outcome.ensures.next (cc)) (λ e. c.in_err-outcome.ensures.form (cc)) (λ again. again))

pub returns-in_err-text : goal.returns-in_err-text
returns-in_err-text g c =
    stops g.D.Disk.seen c.args.self.now (line.Step c.args.who.now c.args.now) false _ _ _ c.from_residual-in_err-text.ensures.1
    (step_cut g.D.Disk.seen c.args.self.now c.args.who.now c.args.now
    (record { world = c.happen.new.world; table = c.actor_for.new.table; out = c.args.self.now.out; alloc = c.args.self.now.alloc })
    c.in_ok-found.found.actor c.in_ok-outcome.outcome c.actor_for.new.table c.in_ok-found.ensures.ok.0 c.in_ok-outcome.ensures.ok refl)

pub returns-in_err-append : goal.returns-in_err-append
returns-in_err-append g c =
    stops g.D.Disk.seen c.args.self.now (line.Step c.args.who.now c.args.now) false _ _ _ c.from_residual-in_err-append.ensures.1
    (step_cut g.D.Disk.seen c.args.self.now c.args.who.now c.args.now
    (record { world = c.happen.new.world; table = c.actor_for.new.table; out = c.append.new.self; alloc = c.args.self.now.alloc })
    c.in_ok-found.found.actor c.in_ok-outcome.outcome c.actor_for.new.table c.in_ok-found.ensures.ok.0 c.in_ok-outcome.ensures.ok c.in_err-append.ensures.err)

pub returns : goal.returns
returns g c =
    step_played g.D.Disk.seen c.args.self.now c.args.who.now c.args.now _ c.in_ok-found.found.actor c.in_ok-outcome.outcome c.actor_for.new.table c.in_ok-found.ensures.ok.0
    c.in_ok-outcome.ensures.ok (c.in_ok-found.found.key, (c.in_ok-found.ensures.ok.1, c.settle.ensures)) (rw (c.as_slice.ensures, c.in_ok-text.ensures) at c.in_ok-append.ensures.ok)
    (record { steps = 1; ended = c.ending_of.result }) (ap (λ (e : Option Bool). record { steps = 1; ended = e }) c.ending_of.ensures)

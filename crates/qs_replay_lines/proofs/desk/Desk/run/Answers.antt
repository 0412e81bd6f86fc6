-- The run wasn't done to its end, or memory was refused behind it.
use Rattle.std.proofs.Common.{refl, false, inr, ap, Bool}
use Rattle.std.specs.Prelude.{Option}
use Rattle.qs_part.specs.declared.event.Event.TheVariants as event
use Rattle.qs_script.specs.declared.line.Line.TheVariants as line
use Rattle.qs_replay_lines.proofs.Happening.{run_played}
use Rattle.qs_replay_lines.proofs.Playing.{stopped_cut, stopped_run, stops}
use Rattle.qs_replay_lines.proofs.desk.Desk.run.Goals as goal

pub returns-in_err-made : goal.returns-in_err-made
returns-in_err-made g c =
    stops g.D.Disk.seen c.args.self.now (line.Run c.args.who.now c.args.now) false c.in_err-made.field-0.0 _ _ c.from_residual-in_err-made.ensures.1
    (stopped_run g.D.Disk.seen c.args.self.now c.args.who.now c.args.now c.in_err-made.field-0.0 _ c.in_ok-found.found.actor c.actor_for.new.table c.in_ok-found.ensures.ok.0 refl
    c.in_err-made.ensures.next (λ e. c.in_err-made.ensures.only.0 (cc)) (λ e. c.in_err-made.ensures.only.1 (cc)))

pub returns-in_err-text : goal.returns-in_err-text
returns-in_err-text g c =
    let ran = c.in_ok-made.ensures.ok in
    stops g.D.Disk.seen c.args.self.now (line.Run c.args.who.now c.args.now) false _ _ _ c.from_residual-in_err-text.ensures.1
    (stopped_cut g.D.Disk.seen c.args.self.now (line.Run c.args.who.now c.args.now)
    (record { world = c.run_all.new.world; table = c.actor_for.new.table; out = c.args.self.now.out; alloc = c.args.self.now.alloc }) ran.0 (event.Step c.in_ok-found.found.actor c.args.now) c.actor_for.new.table false
    (c.in_ok-found.found.actor, (c.in_ok-found.ensures.ok.0, refl)) (inr (c.in_ok-made.made.last, ran.1.1)) ran.1.0 refl)

pub returns-in_err-append : goal.returns-in_err-append
returns-in_err-append g c =
    let ran = c.in_ok-made.ensures.ok in
    stops g.D.Disk.seen c.args.self.now (line.Run c.args.who.now c.args.now) false _ _ _ c.from_residual-in_err-append.ensures.1
    (stopped_cut g.D.Disk.seen c.args.self.now (line.Run c.args.who.now c.args.now)
    (record { world = c.run_all.new.world; table = c.actor_for.new.table; out = c.append.new.self; alloc = c.args.self.now.alloc }) ran.0 (event.Step c.in_ok-found.found.actor c.args.now) c.actor_for.new.table false
    (c.in_ok-found.found.actor, (c.in_ok-found.ensures.ok.0, refl)) (inr (c.in_ok-made.made.last, ran.1.1)) ran.1.0 c.in_err-append.ensures.err)

pub returns : goal.returns
returns g c =
    let ran = c.in_ok-made.ensures.ok in
    run_played g.D.Disk.seen c.args.self.now c.args.who.now c.args.now _ c.in_ok-found.found.actor c.in_ok-made.made.last
    c.actor_for.new.table ran.0 c.in_ok-found.ensures.ok.0 ran.1.0 ran.1.1 (c.in_ok-found.found.key, (c.in_ok-found.ensures.ok.1, c.settle.ensures))
    (rw (c.as_slice.ensures, c.in_ok-text.ensures) at c.in_ok-append.ensures.ok)
    (record { steps = c.in_ok-made.made.count; ended = c.ending_of.result }) c.in_ok-made.made.count ran.1.2
    (ap (λ (e : Option Bool). record { steps = c.in_ok-made.made.count; ended = e }) c.ending_of.ensures)

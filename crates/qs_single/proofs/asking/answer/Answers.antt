-- The request is made, and its run ends in its answer.
use Rattle.std.proofs.Common.{subst}
use Rattle.qs_part.specs.declared.event.Actor.TheVariants.{Request as ARequest}
use Rattle.qs_part.specs.declared.event.Event.TheVariants.{Ask as AskEvent, Step}
use Rattle.qs_part.specs.declared.event.Outcome.TheVariants.{Made}
use Rattle.qs_world.specs.Running.{meant}
use Rattle.qs_world.proofs.Meant.{meant_cause, meant_steps, own}
use Rattle.qs_calls.specs.Goings.{RunsOut}
use Rattle.qs_single.proofs.Answering.{never_gone, never_other, never_stuck}
use Rattle.qs_single.proofs.Exchanging.{exchanged, rests_meant}
use Rattle.qs_single.proofs.asking.answer.Goals as goal

pub unreachable-requires : goal.unreachable-requires
unreachable-requires g c =
    never_other g.D.Disk.seen c.args.session c.requires.resting.0 c.args.ask c.args.body c.args.world.now c.step.new.self c.step.result c.requires.resting.1 c.requires.room
    c.step.ensures.step c.step.ensures.next c.step.ensures.cause c.in_default.not-Made c.in_default.not-Memory

pub unreachable-requires-in_default-run_blocks : goal.unreachable-requires-in_default-run_blocks
unreachable-requires-in_default-run_blocks g c =
    never_gone g.D.Disk.seen c.args.session c.requires.resting.0 c.args.ask c.args.body c.args.world.now c.step.new.self c.in-Made.number c.args.now c.requires.resting.1
    c.in-Made.ensures.step c.in_default-run_blocks.ensures.none.0

pub returns-clause-some : goal.returns-clause-some
returns-clause-some g c = λ writable given rests is_body.
    let run = c.in-Some.ensures.some in
    let event = AskEvent c.args.session c.args.ask c.args.body in
    exchanged g.D.Disk.seen c.args.session writable c.args.ask given c.args.body c.args.now c.args.world.now c.run_blocks.new.world c.in-Made.number run.calls
    c.in-Answered.verdict c.in-Answered.field-1 rests is_body (subst (RunsOut (Step (ARequest c.in-Made.number) c.args.now) run.calls) c.in-Answered.is run.out) (
      meant g.D.Disk.seen c.step.new.self,
      (
        (
          meant_steps g.D.Disk.seen c.args.world.now c.step.new.self event (Made c.in-Made.number) c.in-Made.ensures.step,
          meant_cause g.D.Disk.seen c.args.world.now c.step.new.self (Made c.in-Made.number) c.in-Made.ensures.cause,
        ),
        run.plays,
      ),
    )

pub unreachable-requires-in_default-last : goal.unreachable-requires-in_default-last
unreachable-requires-in_default-last g c =
    let run = c.in-Some.ensures.some in
    let event = AskEvent c.args.session c.args.ask c.args.body in
    never_stuck own c.args.session c.requires.resting.0 c.args.ask c.args.body c.args.now (meant g.D.Disk.seen c.args.world.now) (meant g.D.Disk.seen c.run_blocks.new.world)
    c.in-Made.number run.calls c.in-Some.last (rests_meant g.D.Disk.seen c.args.session c.requires.resting.0 c.args.world.now c.requires.resting.1) run.out (
      meant g.D.Disk.seen c.step.new.self,
      (
        (
          meant_steps g.D.Disk.seen c.args.world.now c.step.new.self event (Made c.in-Made.number) c.in-Made.ensures.step,
          meant_cause g.D.Disk.seen c.args.world.now c.step.new.self (Made c.in-Made.number) c.in-Made.ensures.cause,
        ),
        run.plays,
      ),
    )
    c.in_default-last.not-Answered

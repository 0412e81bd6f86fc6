-- The answer was put, or memory was refused for it.
use Rattle.std.proofs.Common.{ℕ, List, ◌++◌, inr, ap, ◌∙◌, not}
use Rattle.qs_stream.specs.Flows.{side}
use Rattle.qs_opening.proofs.Answering.{answered, starved}
use Rattle.qs_opening.proofs.answer.answer_option.Goals as goal

pub returns-in-Ok : goal.returns-in-Ok
returns-in-Ok g c = λ w disks read_only asks is begins.
    answered g.D.Disk.seen c.args.session (not read_only) c.args.reader.now.terms c.args.reader.now.phase w c.args.want.now c.in-Some.told c.in-Ok.step _ c.answer.new.self
    c.args.world.now c.tell.new.world (side g.O.Sink.sent g.O.Sink.write_faults c.args.output.now) c.args.stream.now
    (side g.O.Sink.sent g.O.Sink.write_faults c.put.new.output) c.put.new.self asks is c.in-Some.ensures.told c.in-Ok.ensures.step
    (c.in-Ok.ensures.text.0, (c.in-Ok.ensures.text.1.0, c.as_slice.ensures ∙ c.in-Ok.ensures.text.1.1 ∙ ap (λ (b : List ℕ). b ++ c.in-Ok.ensures.text.0) (c.of-text.ensures ∙ c.new.ensures.items))) c.in-Ok.ensures.behind
    (c.in-Some.ensures.changes disks read_only begins) c.put.ensures.puts

pub returns : goal.returns
returns g c = λ w disks read_only asks is begins.
    starved g.D.Disk.seen c.args.session (not read_only) c.args.reader.now.terms w c.args.want.now c.args.reader.now c.args.world.now c.tell.new.world
    (side g.O.Sink.sent g.O.Sink.write_faults c.args.output.now) c.args.stream.now is (inr (c.in-Some.ensures.changes disks read_only begins))

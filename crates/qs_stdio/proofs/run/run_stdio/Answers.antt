-- The words aren't the command's, or the disks are served.
use Rattle.std.proofs.Common.{sym, ◌∙◌}
use Rattle.std.proofs.lemmas.Option.{none-some}
use Rattle.qs_stream.specs.Flows.{side}
use Rattle.qs_stdio.proofs.Complete.{complete_of}
use Rattle.qs_stdio.proofs.Running.{ran_of, read_rose, rises_of, write_rose}
use Rattle.qs_stdio.proofs.run.run_stdio.Goals as goal

pub returns-in-Some-clause-complete : goal.returns-in-Some-clause-complete
returns-in-Some-clause-complete g c = λ stream left told command valid image read write.
    let seen = g.D.Disk.seen in
    let input = side g.I.Source.left g.I.Source.read_faults c.args.input.now in
    let output = side g.O.Sink.sent g.O.Sink.write_faults c.args.output.now in
    let input' = side g.I.Source.left g.I.Source.read_faults c.serve_disks.new.input in
    let output' = side g.O.Sink.sent g.O.Sink.write_faults c.serve_disks.new.output in
    let ran = ran_of seen c.args.words.now c.args.disks.now.items input output c.serve_disks.result c.serve_disks.new.disks.items input' output' c.in-Some.told (sym c.stdio_words.ensures ∙ c.in-Some.is) c.serve_disks.ensures in
    let rises = rises_of seen c.args.words.now c.args.disks.now.items input output c.serve_disks.result c.serve_disks.new.disks.items input' output' ran in
    complete_of seen c.args.words.now c.args.disks.now.items c.serve_disks.new.disks.items input output c.serve_disks.result input' output' stream ran left told command valid image
    (λ e. read (read_rose c.serve_disks.result _ _ _ _ rises e)) (λ e. write (write_rose c.serve_disks.result _ _ _ _ rises e))

pub returns-in-None-clause-complete : goal.returns-in-None-clause-complete
returns-in-None-clause-complete g c = λ stream left told command valid image read write.
    absurd (none-some told (sym (sym c.stdio_words.ensures ∙ c.in-None.is) ∙ command))

pub returns-in-Some-clause-cause : goal.returns-in-Some-clause-cause
returns-in-Some-clause-cause g c =
    let seen = g.D.Disk.seen in
    let input = side g.I.Source.left g.I.Source.read_faults c.args.input.now in
    let output = side g.O.Sink.sent g.O.Sink.write_faults c.args.output.now in
    let input' = side g.I.Source.left g.I.Source.read_faults c.serve_disks.new.input in
    let output' = side g.O.Sink.sent g.O.Sink.write_faults c.serve_disks.new.output in
    rises_of seen c.args.words.now c.args.disks.now.items input output c.serve_disks.result c.serve_disks.new.disks.items input' output'
    (ran_of seen c.args.words.now c.args.disks.now.items input output c.serve_disks.result c.serve_disks.new.disks.items input' output' c.in-Some.told (sym c.stdio_words.ensures ∙ c.in-Some.is) c.serve_disks.ensures)

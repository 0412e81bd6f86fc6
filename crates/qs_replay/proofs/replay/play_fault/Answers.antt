-- A write without its bytes was done.
use Rattle.std.proofs.Common.{[], inl, refl, subst}
use Rattle.std.specs.Prelude.{true}
use Rattle.qs_script.specs.Lines.{IsLineFault, ReadsLine}
use Rattle.qs_script.specs.declared.line.Line.TheVariants as line
use Rattle.qs_script.specs.declared.line.LineFault.{LineFault}
use Rattle.qs_replay.proofs.Replaying.{plays_text_of}
use Rattle.qs_replay.proofs.replay.play_fault.Goals as goal

pub returns-in-NoBody : goal.returns-in-NoBody
returns-in-NoBody g c = λ text is.
    let lost = subst (λ (f : LineFault). IsLineFault (ReadsLine text) f) c.in-NoBody.is is in
    plays_text_of g.D.Disk.seen c.args.desk.now text (line.Write c.in-NoBody.session c.in-NoBody.cookie c.in-NoBody.offset lost.0 c.in-NoBody.fua) true c.write_lost.result c.done.result
    c.write_lost.new.self c.done.ensures lost.1.0 (c.write_lost.ensures lost.0 lost.1.1)

pub returns-in-NoPicks : goal.returns-in-NoPicks
returns-in-NoPicks g c = λ text is.
    let spelled = subst (λ (f : LineFault). IsLineFault (ReadsLine text) f) c.in-NoPicks.is is in
    (record { calls = []; plays = refl; why = (line.Crash spelled.0, (spelled.1, inl refl)) }, refl)

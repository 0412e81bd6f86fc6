-- What the words tell was done.
use Rattle.std.proofs.Common.{ap, refl}
use Rattle.std.specs.Prelude.{is_some}
use Rattle.qs_replay_words.proofs.Within.{image_of}
use Rattle.qs_replay.proofs.Running.{ran_of}
use Rattle.qs_replay.proofs.run.run_replay.Goals as goal

pub run_told-requires-clause-form : goal.run_told-requires-clause-form
run_told-requires-clause-form g c = image_of c.args.words.now c.in-Some.told c.in-Some.ensures.some

pub returns-in-Some-clause-ran : goal.returns-in-Some-clause-ran
returns-in-Some-clause-ran g c =
    ran_of c.args.words.now g.D.Disk.seen c.args.disks.now.items c.run_told.new.disks.items (g.I.Source.left c.args.input.now) (g.O.Sink.sent c.args.output.now)
    (g.I.Source.left c.run_told.new.input) (g.O.Sink.sent c.run_told.new.output) c.in-Some.told c.run_told.result c.in-Some.ensures.some c.run_told.ensures.ran

pub returns-in-None-clause-ran : goal.returns-in-None-clause-ran
returns-in-None-clause-ran g c = (
  λ are. c.replay_words.ensures.none (ap is_some c.in-None.is) are.0 are.1.0,
  record { disks_same = refl; left_same = refl; sent_same = refl },
)

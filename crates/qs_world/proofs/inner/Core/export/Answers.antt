use Rattle.std.proofs.Common.{List, ℕ, true, subst}
use Rattle.qs_part.specs.declared.graph.GraphOp.TheVariants.{ExportAdd}
use Rattle.qs_part.specs.declared.graph.GraphReply.TheVariants.{Added}
use Rattle.qs_graph.specs.Table.{answers as graph_answers}
use Rattle.qs_world.specs.Cores.{value_of}
use Rattle.qs_world.proofs.Opening.{exported_all}
use Rattle.qs_world.proofs.inner.Core.export.Goals as goal

pub returns-in-Added-clause-exports : goal.returns-in-Added-clause-exports
returns-in-Added-clause-exports g c =
    (exported_all g.D.Disk.seen (value_of c.args.self.now) c.args.name c.args.writable c.in-Added.field-0 c.step.new.self c.requires.sound
    (subst (λ (f : List ℕ). graph_answers c.args.self.now.graph (ExportAdd c.args.name c.args.name f c.args.writable true) (Added c.in-Added.field-0) c.step.new.self)
    c.file.ensures c.in-Added.ensures.legal) c.step.ensures.same).0

pub returns-in-Added-clause-sound : goal.returns-in-Added-clause-sound
returns-in-Added-clause-sound g c =
    (exported_all g.D.Disk.seen (value_of c.args.self.now) c.args.name c.args.writable c.in-Added.field-0 c.step.new.self c.requires.sound
    (subst (λ (f : List ℕ). graph_answers c.args.self.now.graph (ExportAdd c.args.name c.args.name f c.args.writable true) (Added c.in-Added.field-0) c.step.new.self)
    c.file.ensures c.in-Added.ensures.legal) c.step.ensures.same).1

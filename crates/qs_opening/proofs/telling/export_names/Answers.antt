-- One name more, or all of them.
use Rattle.std.specs.Prelude.{vec_len}
use Rattle.qs_graph.specs.Readings.{names_of}
use Rattle.qs_opening.proofs.Listing.{front_more, front_whole}
use Rattle.qs_opening.proofs.telling.export_names.Goals as goal

pub loop-name-preserved : goal.loop-name-preserved
loop-name-preserved g c =
    let more = front_more (names_of c.args.world.now.graph) c.loop-name.names.items (vec_len c.loop-name.names) c.len.result c.export_name.result c.export_name.ensures c.len.ensures
    c.loop-name.invariant.front c.push.new.self.items (vec_len c.push.new.self) c.in-Some.name c.in-Some.is c.in-Ok.ensures.items c.in-Ok.ensures.len in
    record { few = more.0; front = more.1 }

pub returns : goal.returns
returns g c =
    front_whole (names_of c.args.world.now.graph) c.loop-name.names.items (vec_len c.loop-name.names) c.len.result c.export_name.result c.export_name.ensures c.len.ensures
    c.loop-name.invariant.front c.in_default.not-Some c.loop-name.invariant.few

use Rattle.std.proofs.Common.{◌≡◌, ap, arith}
use Rattle.qs_part.specs.declared.graph.Route.{Route as Way}
use Rattle.qs_graph.specs.Table.{fresh}
use Rattle.qs_graph.proofs.Sound.{stands_size}
use Rattle.qs_graph.proofs.laws.inside.Goals as goal

pub returns : goal.returns
returns c size file read_only cs v e way stands may =
    let from : way.offset ≡ 0 = ap (λ (w : Way). w.offset) may.1.1 in
    let all = ap (λ (w : Way). w.size) may.1.1 in
    omega (arith, from, all, stands_size (fresh size file read_only) cs v stands)

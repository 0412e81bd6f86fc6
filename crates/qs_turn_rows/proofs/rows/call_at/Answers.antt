use Rattle.std.proofs.Common.{◌<◌, length, refl, arith}
use Rattle.qs_turn_rows.proofs.Places.{read}
use Rattle.qs_turn_rows.proofs.rows.call_at.Goals as goal

pub returns-clause-called : goal.returns-clause-called
returns-clause-called g c =
    let inside : c.args.place < length c.args.passes.now.items = (let l = c.requires.turns.long in let p = c.requires.place in omega arith) in record {
      turn = c.index-turns-place.result;
      old = c.index_mut.result.now;
      new = c.call.new.pass;
      of = read _ _ _ c.requires.place c.index-turns-place.is;
      was = read _ _ _ inside c.index_mut.ensures.value;
      now = refl;
      called = c.call.ensures.call;
    }

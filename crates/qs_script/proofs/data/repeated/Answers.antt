-- Two digits are decoded into room for one byte.
use Rattle.std.proofs.Common.{refl}
use Rattle.std.proofs.lemmas.List.{length-replicate}
use Rattle.std.specs.Prelude.{replicate, slice_index}
use Rattle.qs_script.specs.Spelled.{Repeats}
use Rattle.qs_script.proofs.DataWords.{decodes_one, spells_one}
use Rattle.qs_script.proofs.data.repeated.Goals as goal

pub returns-in-Err-clause-fault : goal.returns-in-Err-clause-fault
returns-in-Err-clause-fault c = λ bytes is.
    let value = rw (decodes_one c.args.pair.now c.args.digits.now bytes is) at c.decode_to_slice.ensures.value in
    cc (value.0, c.in-Err.is)

pub returns-in-Err-vec-clause-fault : goal.returns-in-Err-vec-clause-fault
returns-in-Err-vec-clause-fault c =
    let byte = slice_index c.decode_to_slice.new.out 0 in
    let repeats : Repeats c.args.pair.now c.args.digits.now (replicate c.in-Some.count byte) = record {
      byte = byte;
      count = c.in-Some.count;
      one = spells_one c.args.pair.now c.decode_to_slice.new.out c.decode_to_slice.result c.decode_to_slice.ensures.value c.in-Ok.is;
      times = c.in-Some.ensures.some;
      is = refl;
    } in
    (replicate c.in-Some.count byte, (repeats, length-replicate c.in-Some.count byte))

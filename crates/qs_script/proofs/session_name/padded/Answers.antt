-- What is left of 8 zeros behind the name is as many zeros.
use Rattle.std.proofs.Common.{ap, List, ℕ, ◌++◌, length}
use Rattle.std.proofs.lemmas.List.{drop-replicate}
use Rattle.qs_script.proofs.session_name.padded.Goals as goal

pub returns : goal.returns
returns c =
    rw c.copy_from_slice.ensures.after
    (ap (λ (zeros : List ℕ). c.args.bytes.now ++ zeros) (drop-replicate (length c.args.bytes.now) 8 0))

-- Pairs that found no memory are a crash's all the same.
use Rattle.std.proofs.Common.{ℕ, List, ◌∷◌, ap}
use Rattle.std.specs.Prelude.{codes}
use Rattle.qs_script.specs.Lines.{words_left}
use Rattle.qs_script.proofs.read.crash_line.Goals as goal

pub returns-in-Err-Memory-clause-fault : goal.returns-in-Err-Memory-clause-fault
returns-in-Err-Memory-clause-fault c =
    let unheld = rw c.in-Err-Memory.field-0-is at c.in-Err-Memory.ensures.fault in
    let whole = ap (λ (words : List (List ℕ)). codes "crash" ∷ words) c.cut_word.ensures in (
      record { rest = c.in-Some.rest; picks = unheld.0 },
      (c.cut_word.result.0.now, (words_left c.cut_word.result.1, (whole, c.in-Some.ensures.some, unheld.1))),
    )

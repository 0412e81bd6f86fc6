-- What a read that ended and a feed do to a stream.
use Rattle.std.proofs.Common.{◌≡◌, ℕ, List, [], ◌++◌, refl, sym, ap, ◌∙◌, arith, append-nil}
use Rattle.std.specs.Prelude.{Option, Some, None}
use Rattle.std.specs.Io.KnownBytes.{IsAtEnd}
use Rattle.qs_stream.proofs.Bytes.{gives_none, takes_split}
use Rattle.qs_stream.specs.Bytes.{Takes}
use Rattle.qs_wire_stream.specs.Currents.{Advanced, Current}
use Rattle.qs_serving.proofs.Running.{advanced_as}
use Rattle.qs_serving.specs.Scenes.{TakesAll}

-- where nothing waited, and a read brought nothing and told the end, all was taken before
pub all_ended : (left left' : Option (List ℕ)) (waiting waiting' : List ℕ) → Takes left waiting [] left' waiting' → waiting' ≡ [] →
    IsAtEnd left' → TakesAll left waiting []
all_ended None left' waiting waiting' takes empty over = tt
all_ended (Some xs) None waiting waiting' takes empty over = absurd takes.read
all_ended (Some xs) (Some ys) waiting waiting' takes empty over =
    ap (λ (zs : List ℕ). waiting ++ zs) (takes.read ∙ ap (λ (zs : List ℕ). takes.more ++ zs) over ∙ append-nil takes.more)
    ∙ takes.joined ∙ empty

-- bytes were taken off those that wait
pub fed_current : (a : Current) (bytes waiting : List ℕ) → a.waiting ≡ bytes ++ waiting → Advanced (bytes ++ []) [] a (record a { waiting = waiting })
fed_current a bytes waiting is =
    let goes : Advanced bytes [] a (record a { waiting = waiting }) = record {
      takes = takes_split a.left a.waiting bytes waiting is;
      gives = gives_none a.sent a.held;
      reads = omega arith;
      writes = omega arith;
      waits = omega arith;
    } in
    advanced_as bytes (bytes ++ []) [] [] a (record a { waiting = waiting }) (sym (append-nil bytes)) refl goes

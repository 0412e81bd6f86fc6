-- What a made-up run comes to.
use Rattle.std.specs.Prelude.{ℕ, ◌+◌, ◌*◌, List, [], ◌∷◌, ◌++◌, codes}
use Rattle.std.specs.Fmt.{decimal}
use Rattle.qs_generate.specs.declared.totals.RunTotals.{RunTotals}

-- the sum of bytes that stand from a place on, counted from 0, each times its place counted from 1
unfoldable pub weighted : ℕ → List ℕ → ℕ
weighted place [] = 0
weighted place (byte ∷ bytes) = byte * (place + 1) + weighted (place + 1) bytes

-- `requests 10000 errors E steps T sum S`
abbrev pub totals_line : RunTotals → List ℕ
totals_line t =
    codes "requests 10000 errors " ++ decimal t.errors ++ codes " steps " ++ decimal t.steps ++ codes " sum "
    ++ decimal t.sum ++ codes "\n"

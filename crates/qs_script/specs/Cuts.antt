-- Lines, as they stand in a source: each ends in LF, which the last may lack.
use Rattle.std.specs.Prelude.{◌≡◌, ℕ, ◌<◌, List, [], ◌∷◌, ◌++◌, length, Option, None, Some}
use Rattle.qs_script.specs.Finds.{HasNo}
use Rattle.qs_script.specs.declared.cutter.Cut.{Cut}
use Rattle.qs_script.specs.declared.cutter.Cut.TheVariants as cut

-- the most bytes of a line with its LF
abbrev pub longest_line : ℕ
longest_line = 65536

-- From the bytes of a line's front these lead to others, to the line's end, or past the longest line.
abbrev pub Cuts : List ℕ → List ℕ → Option Cut → List ℕ → Type 0
Cuts old taken None new = HasNo 10 taken × (new ≡ old ++ taken) × (length new < longest_line)
Cuts old taken (Some cut.Line) new = (last : List ℕ)
    × ((taken ≡ last ++ 10 ∷ []) × HasNo 10 last × (new ≡ old ++ last) × (length new < longest_line))
Cuts old taken (Some cut.TooLong) new = HasNo 10 taken × (new ≡ old ++ taken) × (length new ≡ longest_line)

-- The request of a round.
use Rattle.std.specs.Prelude.{◌≡◌, ℕ, ◌+◌, ◌%◌, ◌==◌, if◌then◌else◌, false, nat_le, List, [], ◌∷◌, replicate, Result, Ok, Err}
use Rattle.qs_script.specs.Lines.{IsLineFault}
use Rattle.qs_script.specs.declared.line.Line.{Line}
use Rattle.qs_script.specs.declared.line.Line.TheVariants as line
use Rattle.qs_script.specs.declared.line.LineFault.{LineFault}
use Rattle.qs_generate.specs.declared.draws.RoundDraws.{RoundDraws}
use Rattle.qs_generate.specs.declared.request.Wanted.{Wanted}
use Rattle.qs_generate.specs.declared.request.Wanted.TheVariants as wanted

-- kinds 0 to 2 write, 3 to 5 read, 6 zeroes and 7 flushes; each 64th round flushes
abbrev pub wanted_kind : ℕ → ℕ → Wanted
wanted_kind round kind =
    if round % 64 == 0 then wanted.Flush else
    if nat_le kind 2 then wanted.Write else
    if nat_le kind 5 then wanted.Read else
    if kind == 6 then wanted.Zero else wanted.Flush

-- A, B, C and D
abbrev pub nth_session : ℕ → List ℕ
nth_session session = (65 + session) ∷ []

-- a request of one of these kinds, whose cookie is the round's number
abbrev pub line_of : Wanted → ℕ → RoundDraws → Line
line_of wanted.Write round d = line.Write (nth_session d.session) round d.offset (replicate d.length d.byte) false
line_of wanted.Read round d = line.Read (nth_session d.session) round d.offset d.length
line_of wanted.Zero round d = line.Zero (nth_session d.session) round d.offset d.length false
line_of wanted.Flush round d = line.Flush (nth_session d.session) round

-- the line of a round, by what the round drew
abbrev pub request_line : ℕ → RoundDraws → Line
request_line round d = line_of (wanted_kind round d.kind) round d

-- the line comes, or it is a WRITE whose bytes found no memory
abbrev pub LineComes : Line → Result Line LineFault → Type 0
LineComes wanted (Ok made) = made ≡ wanted
LineComes wanted (Err fault) = IsLineFault (λ other. other ≡ wanted) fault

-- One draw behind another.
use Rattle.std.proofs.Common.{◌≡◌, ℕ, ◌+◌, ◌*◌, ◌/◌, ◌%◌, ◌^◌, suc, List, Option, sym, ap, ◌∙◌, subst, arith}
use Rattle.std.proofs.Math.Nat.{mod-lt}
use Rattle.std.specs.Prelude.{◌-◌, ◌<◌, ◌≤◌, Result}
use Rattle.qs_script.specs.declared.line.Line.{Line}
use Rattle.qs_script.specs.declared.line.LineFault.{LineFault}
use Rattle.qs_generate.specs.Drawing.{drawn, round_draws, state_after}
use Rattle.qs_generate.specs.Generated.{Makes, made_next, made_at}
use Rattle.qs_generate.specs.Lives.{Generated}
use Rattle.qs_generate.specs.declared.live.LiveRequest.{LiveRequest}
use Rattle.qs_generate.specs.declared.live.NextMove.{NextMove}

pub first_state : (x : ℕ) → (x * 6364136223846793005 % 18446744073709551616 + 1442695040888963407) % 18446744073709551616 ≡ state_after x 1
unfolding state_after
first_state x = omega arith

-- the state after one more draw
pub one_more : (x n y : ℕ) → y ≡ state_after x n → state_after y 1 ≡ state_after x (suc n)
unfolding state_after
one_more x n y e = ap (λ (s : ℕ). (s * 6364136223846793005 + 1442695040888963407) % 2 ^ 64) e

-- what is drawn behind other draws
pub drawn_next : (x n y bound result : ℕ) → y ≡ state_after x n → result ≡ drawn y 1 bound → result ≡ drawn x (suc n) bound
drawn_next x n y bound result e is = is ∙ ap (λ (s : ℕ). s / 2 ^ 33 % bound) (one_more x n y e)

-- a request lies inside the image
pub inside : (size x : ℕ) → 2048 < size → (round_draws size x).offset + (round_draws size x).length ≤ size
inside size x large =
    let offset = mod-lt (state_after x 3 / 2 ^ 33) {m = size - 2048} (omega arith) in omega (arith, offset)

-- what comes next, by what the run does next
pub at_turn : (g : Generated) (live : List LiveRequest) {new : Generated} {t : NextMove} {result : Option (Result Line LineFault)} → g.turn ≡ t →
    Makes (made_at g live t) result new → Makes (made_next g live) result new
at_turn g live {new} {result = result} e is = subst (λ (t : NextMove). Makes (made_at g live t) result new) (sym e) is

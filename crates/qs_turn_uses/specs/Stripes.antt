-- A stripe on a disk in memory as a part of a turn.
use Rattle.std.specs.Prelude.{◌≡◌, ℕ, [], ◌∷◌, ◌++◌}
use Rattle.std.specs.declared.snapshot.Snapshot.{Snapshot}
use Rattle.qs_outside.specs.Journal.{Journal, journal_seen}
use Rattle.qs_part.specs.declared.runs.StripeAnswer.{StripeAnswer}
use Rattle.qs_part.specs.declared.runs.StripeCall.{StripeCall}
use Rattle.qs_part.specs.Histories.{call}
use Rattle.qs_stripe.specs.declared.geometry.Geometry.{Geometry}
use Rattle.qs_stripe.specs.Runs.{call_answers}
use Rattle.qs_stripe.specs.Table.{StripeState, StripeValue, value_of, geometry}
use Rattle.qs_turn.specs.declared.view.View.{View}
use Rattle.qs_turn.specs.Names.{Name, Known}
use Rattle.qs_turn.specs.Words.{own, out, is_first, IsPassOf}

-- what a stripe on a disk in memory means, what is fixed about it, and how it answers
abbrev pub meaning : StripeState Journal → StripeValue
meaning s = value_of journal_seen s

abbrev pub stripe_fixed : StripeState Journal → Geometry
stripe_fixed s = geometry (meaning s)

abbrev pub stripe_answers : StripeState Journal → StripeCall → StripeAnswer → StripeState Journal → Type 0
stripe_answers s op reply t = call_answers (meaning s) op reply (meaning t)

-- two calls in a row were made with a pass, for one request, and nothing else
pub record MadeTwo (t : Name (Snapshot (StripeState Journal)))
    (k : Known (View (StripeState Journal) StripeCall StripeAnswer)) (q : ℕ) (a b : StripeCall) (r s : StripeAnswer)
    (n : Known (View (StripeState Journal) StripeCall StripeAnswer)) : Type 0 where
  pub turn : IsPassOf t n
  pub owns : own n ≡ own k ++ call q a r ∷ call q b s ∷ []
  pub same_first : is_first n ≡ is_first k
  pub same_out : out n ≡ out k

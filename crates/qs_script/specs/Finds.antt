-- Where a byte stands in a text.
use Rattle.std.specs.Prelude.{◌≡◌, ◌≢◌, ℕ, ◌<◌, List, length, slice_index, EachIndex}

abbrev pub HasNo : ℕ → List ℕ → Type 0
HasNo byte text = EachIndex text (λ k. slice_index text k ≢ byte)

-- the byte stands there, and not before
pub record IsFirst (byte : ℕ) (text : List ℕ) (at : ℕ) : Type 0 where
  pub inside : at < length text
  pub here : slice_index text at ≡ byte
  pub before : (k : ℕ) → k < at → slice_index text k ≢ byte

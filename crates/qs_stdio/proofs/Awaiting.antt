-- What is to come of a stream whose bytes are told.
use Rattle.std.proofs.Common.{◌≡◌, ℕ, List, [], ◌++◌, refl, sym, ap, ◌∙◌, subst, append_assoc}
use Rattle.std.specs.Prelude.{Option, None, Some}
use Rattle.std.specs.Io.KnownBytes.{Consumes, IsAtEnd}
use Rattle.qs_stream.specs.Flows.{Flow, Moved}

-- these bytes wait in the stream, or the input has them left
pub record Awaits (bytes : List ℕ) (flow : Flow) : Type 0 where
  pub left : List ℕ
  pub told : flow.input.bytes ≡ Some left
  pub whole : bytes ≡ flow.stream.waiting ++ left

-- behind those that were taken, others are to come
pub record Split (bytes taken : List ℕ) (flow : Flow) : Type 0 where
  pub remaining : List ℕ
  pub awaits : Awaits remaining flow
  pub whole : bytes ≡ taken ++ remaining

split_by : (bytes taken waiting left more : List ℕ) (now : Option (List ℕ)) (after : Flow) → bytes ≡ waiting ++ left → Consumes (Some left) now more → waiting ++ more ≡ taken ++ after.stream.waiting →
    after.input.bytes ≡ now → Split bytes taken after
split_by bytes taken waiting left more None after is consumes joined told = absurd consumes
split_by bytes taken waiting left more (Some rest) after is consumes joined told = record {
  remaining = after.stream.waiting ++ rest;
  awaits = record { left = rest; told = told; whole = refl };
  whole = is ∙ ap (λ (xs : List ℕ). waiting ++ xs) consumes ∙ sym (append_assoc waiting more rest) ∙ ap (λ (xs : List ℕ). xs ++ rest) joined
      ∙ append_assoc taken after.stream.waiting rest;
}

pub split : (bytes taken given : List ℕ) (before after : Flow) → Awaits bytes before → Moved taken given before after → Split bytes taken after
split bytes taken given before after awaits moved =
    split_by bytes taken before.stream.waiting awaits.left moved.takes.more after.input.bytes after awaits.whole
    (subst (λ (b : Option (List ℕ)). Consumes b after.input.bytes moved.takes.more) awaits.told moved.takes.read) moved.takes.joined refl

-- at the end of the input none are
pub used_up : (bytes : List ℕ) (flow : Flow) → Awaits bytes flow → IsAtEnd flow.input.bytes × (flow.stream.waiting ≡ []) → bytes ≡ []
used_up bytes flow awaits used =
    awaits.whole ∙ ap (λ (xs : List ℕ). xs ++ awaits.left) used.1 ∙ none flow.input.bytes awaits.told used.0
  where
    none : (told : Option (List ℕ)) → told ≡ Some awaits.left → IsAtEnd told → awaits.left ≡ []
    none told is over = subst IsAtEnd is over

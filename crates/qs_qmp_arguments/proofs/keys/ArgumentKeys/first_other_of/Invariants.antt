use Rattle.std.proofs.Common.{◌≡◌, map, string_bytes}
use Rattle.serde_json.specs.View.{members_view}
use Rattle.qs_qmp_arguments.specs.Arguments.{first_not, is_key, keys_of}
use Rattle.qs_qmp_arguments.proofs.keys.ArgumentKeys.first_other_of.Given as goal

abbrev pub invariant-loop-key : goal.invariant-loop-key
invariant-loop-key l =
    (goal.iterator-loop-key).can_next l.key-iterator ×
    (goal.iterator-loop-key).is_finite l.key-iterator ×
    (first_not (λ k. is_key l.fn.self k) (map string_bytes l.key-iterator) ≡ first_not (λ k. is_key l.fn.self k) (keys_of (members_view l.fn.members.entries)))

use Rattle.std.proofs.Common.{◌≡◌, true, drop}
use Rattle.qs_keyval.specs.Reading.{is_dotted_key}
use Rattle.qs_keyval.proofs.key.is_key.Given as goal

abbrev pub invariant-loop-byte : goal.invariant-loop-byte
invariant-loop-byte l = is_dotted_key true l.fn.text ≡ is_dotted_key l.is_empty (drop l.byte-index l.fn.text)

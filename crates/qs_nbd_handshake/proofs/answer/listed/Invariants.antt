use Rattle.std.specs.Prelude.{◌≡◌, take}
use Rattle.std.specs.List.{flat_map}
use Rattle.qs_nbd_handshake.specs.Answers.{name_text}
use Rattle.qs_nbd_handshake.proofs.answer.listed.Given as goal

abbrev pub invariant-loop-name : goal.invariant-loop-name
invariant-loop-name l = l.text ≡ flat_map name_text (take l.name-index l.names)

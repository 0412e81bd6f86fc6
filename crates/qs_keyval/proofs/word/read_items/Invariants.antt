use Rattle.std.proofs.Common.{◌≡◌, ◌+◌, ◌≤◌, option_map, length}
use denote.Text.{Utf8}
use denote.Shadow.{shadow}
use Rattle.serde_json.specs.View.{members_view}
use Rattle.qs_keyval.specs.Cutting.{items_from}
use Rattle.qs_keyval.specs.Reading.{items_word, read_items}
use Rattle.qs_keyval.proofs.word.read_items.Given as goal

-- the word reads as the members so far and the items of the rest
abbrev pub invariant-loop-rest : goal.invariant-loop-rest
invariant-loop-rest l =
    shadow (Utf8 l.rest) ×
    (items_word (option_map (λ s. s.now) l.fn.implied) l.fn.word ≡ read_items (option_map (λ s. s.now) l.key) (items_from l.at l.rest) (members_view l.members.entries)) ×
    (l.at + length l.rest ≤ length l.fn.word)

abbrev pub decreases-loop-rest : goal.decreases-loop-rest
decreases-loop-rest l = length l.rest

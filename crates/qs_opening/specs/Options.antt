-- Options, one after the other, and what answers them. All of it is determined by the client's bytes and by the
-- exports.
use Rattle.std.specs.Prelude.{◌≡◌, ℕ, List, [], ◌∷◌, ◌++◌}
use Rattle.qs_graph.specs.Table.{GraphValue}
use Rattle.qs_nbd_handshake.specs.declared.event.HandStep.{HandStep}
use Rattle.qs_nbd_handshake.specs.declared.event.HandStep.TheVariants.{Stay}
use Rattle.qs_nbd_handshake.specs.declared.event.Told.{Told}
use Rattle.qs_nbd_handshake.specs.declared.stage.Terms.{Terms}
use Rattle.qs_nbd_handshake.specs.Answers.{mode_behind, hand_step_of, text_of}
use Rattle.qs_nbd_handshake.specs.Phases.{wish_in}
use Rattle.qs_nbd_handshake.specs.Sessions.{IsOption}
use Rattle.qs_nbd_handshake.specs.Wishes.{want_of}
use Rattle.qs_opening.specs.Telling.{graph_told}

-- what is told for an option
abbrev pub told_for : GraphValue → List ℕ → Told
told_for graph option = graph_told graph (want_of (wish_in option))

-- what it is answered
abbrev pub text_for : GraphValue → Terms → List ℕ → List ℕ
text_for graph terms option = text_of terms.mode (wish_in option) (told_for graph option)

-- how the session goes on behind it
abbrev pub step_for : GraphValue → Terms → List ℕ → HandStep
step_for graph terms option = hand_step_of terms.mode (wish_in option) (told_for graph option)

-- what is agreed on behind it
abbrev pub terms_behind : Terms → List ℕ → Terms
terms_behind terms option = record { fixed = terms.fixed; mode = mode_behind terms.mode (wish_in option) }

-- what is agreed on behind all of them
abbrev pub terms_after : Terms → List (List ℕ) → Terms
terms_after terms [] = terms
terms_after terms (option ∷ options) = terms_after (terms_behind terms option) options

-- what they are answered, in their order
abbrev pub answers_to : GraphValue → Terms → List (List ℕ) → List ℕ
answers_to graph terms [] = []
answers_to graph terms (option ∷ options) = text_for graph terms option
    ++ answers_to graph (terms_behind terms option) options

-- each is a whole option, behind which options go on
abbrev pub AllStay : GraphValue → Terms → List (List ℕ) → Type 0
AllStay graph terms [] = Unit {0}
AllStay graph terms (option ∷ options) =
    IsOption terms.fixed option × (step_for graph terms option ≡ Stay)
    × AllStay graph (terms_behind terms option) options

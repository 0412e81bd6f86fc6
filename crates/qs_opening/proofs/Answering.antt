-- What the core tells answers the option.
use Rattle.std.proofs.Common.{◌≡◌, ℕ, ◌⊎◌, Bool, List, refl, ap, ◌∙◌, subst}
use Rattle.std.specs.Prelude.{None, Some}
use Rattle.qs_outside.specs.Blocks.{Seen}
use Rattle.qs_graph.specs.Table.{GraphValue}
use Rattle.qs_nbd_handshake.specs.declared.event.HandStep.{HandStep}
use Rattle.qs_nbd_handshake.specs.declared.event.Told.{Told}
use Rattle.qs_nbd_handshake.specs.declared.event.Want.{Want}
use Rattle.qs_nbd_handshake.specs.declared.stage.Terms.{Terms}
use Rattle.qs_nbd_handshake.specs.declared.wish.Wish.{Wish}
use Rattle.qs_nbd_handshake.specs.Answers.{IsBehind, IsStep, IsText, reader_behind, hand_step_of, text_of}
use Rattle.qs_nbd_handshake.specs.Phases.{Phase, Reader, Asked}
use Rattle.qs_nbd_handshake.specs.Wishes.{want_of}
use Rattle.qs_stream.specs.Buffers.{Buffers}
use Rattle.qs_stream.specs.Flows.{Puts, Side}
use Rattle.qs_world.specs.Values.{WorldValue}
use Rattle.qs_opening.specs.Telling.{WantChanges, graph_told}
use Rattle.qs_opening.specs.Turns.{AnswersOption}

-- what is told for the wish behind a want
told_wish : (graph : GraphValue) (w : Wish) (wanted : Want) (told : Told) → wanted ≡ want_of w → told ≡ graph_told graph wanted → told ≡ graph_told graph (want_of w)
told_wish graph w wanted told is told_is = told_is ∙ ap (λ (q : Want). graph_told graph q) is

-- the option was answered
pub answered : {D : Type 0} (seen : D → Seen) (session : ℕ) (writable : Bool) (terms : Terms) (phase : Phase) (w : Wish) (wanted : Want) (told : Told) (step : HandStep) (out : List ℕ) (reader : Reader)
    (old new : WorldValue D) (o : Side) (s : Buffers) (o' : Side) (s' : Buffers) → phase ≡ Asked w → wanted ≡ want_of w → told ≡ graph_told old.graph wanted →
    IsStep terms.mode phase told step → (text : List ℕ) × (IsText terms.mode phase told text × (out ≡ text)) → IsBehind terms phase told reader →
    WantChanges seen session writable old wanted new → Puts out o s o' s' → AnswersOption seen session writable terms w old (Some step) reader new o s o' s'
answered seen session writable terms phase w wanted told step out reader old new o s o' s' asks is told_is steps texts behind changes puts =
    let same : told ≡ graph_told old.graph (want_of w) = told_wish old.graph w wanted told is told_is in
    let step_is : step ≡ hand_step_of terms.mode w told = subst (λ (p : Phase). IsStep terms.mode p told step) asks steps in
    let text_is : texts.0 ≡ text_of terms.mode w told = subst (λ (p : Phase). IsText terms.mode p told texts.0) asks texts.1.0 in
    let reader_is : reader ≡ reader_behind terms w told = subst (λ (p : Phase). IsBehind terms p told reader) asks behind in (
      step_is ∙ ap (λ (t : Told). hand_step_of terms.mode w t) same,
      reader_is ∙ ap (λ (t : Told). reader_behind terms w t) same,
      subst (λ (q : Want). WantChanges seen session writable old q new) is changes,
      subst (λ (bytes : List ℕ). Puts bytes o s o' s') (texts.1.1 ∙ text_is ∙ ap (λ (t : Told). text_of terms.mode w t) same) puts,
    )

-- memory was refused for the answer
pub starved : {D : Type 0} (seen : D → Seen) (session : ℕ) (writable : Bool) (terms : Terms) (w : Wish) (wanted : Want) (reader : Reader) (old new : WorldValue D) (o : Side) (s : Buffers) →
    wanted ≡ want_of w → (new ≡ old) ⊎ WantChanges seen session writable old wanted new → AnswersOption seen session writable terms w old None reader new o s o s
starved seen session writable terms w wanted reader old new o s is changes =
    (subst (λ (q : Want). (new ≡ old) ⊎ WantChanges seen session writable old q new) is changes, refl, refl)

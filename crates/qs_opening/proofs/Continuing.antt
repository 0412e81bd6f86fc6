-- Behind the answer to an option.
use Rattle.std.proofs.Common.{◌≡◌, ℕ, inl, inr, Bool, List, [], refl, sym, ap, ◌∙◌, subst, append-nil}
use Rattle.std.specs.Prelude.{Option, None, Some, Ok}
use Rattle.qs_bytes.specs.declared.ask.Mode.{Mode}
use Rattle.qs_status.specs.declared.status.Status.TheVariants.{Memory}
use Rattle.qs_outside.specs.Blocks.{Seen}
use Rattle.qs_part.specs.declared.graph.ExportInfo.{ExportInfo}
use Rattle.qs_graph.specs.Readings.{info_of}
use Rattle.qs_nbd_handshake.specs.declared.event.HandStep.{HandStep}
use Rattle.qs_nbd_handshake.specs.declared.event.HandStep.TheVariants.{Stay, Transmit as TransmitStep, Close}
use Rattle.qs_nbd_handshake.specs.declared.event.Want.{Want}
use Rattle.qs_nbd_handshake.specs.declared.stage.Terms.{Terms}
use Rattle.qs_nbd_handshake.specs.declared.wish.Wish.{Wish}
use Rattle.qs_nbd_handshake.specs.declared.wish.Wish.TheVariants as wish
use Rattle.qs_nbd_handshake.specs.Answers.{export_step, go_step, phase_behind, hand_step_of}
use Rattle.qs_nbd_handshake.specs.Phases.{Reader, Asked, wish_in}
use Rattle.qs_nbd_handshake.specs.Wishes.{want_of}
use Rattle.qs_stream.specs.Buffers.{Buffers}
use Rattle.qs_stream.specs.Flows.{Flow, Moved, Side}
use Rattle.qs_stream.proofs.Moves.{moved_on}
use Rattle.qs_world.specs.Values.{WorldValue}
use Rattle.qs_opening.specs.declared.turn.Came.{Came}
use Rattle.qs_opening.specs.declared.turn.Came.TheVariants as came
use Rattle.qs_opening.specs.declared.turn.Opened.TheVariants.{Ends}
use Rattle.qs_opening.specs.declared.turn.Negotiation.{Negotiation}
use Rattle.qs_opening.specs.declared.turn.Negotiation.TheVariants as negotiation
use Rattle.qs_opening.specs.Options.{terms_behind, text_for}
use Rattle.qs_opening.specs.Telling.{WantChanges, JoinsAt, told_info, graph_told}
use Rattle.qs_opening.specs.Turns.{AnswersOption, Comes, IsAsked, TakesTurn, Turns, turn_at}

-- no requests follow
abbrev pub Remains : HandStep → Type 0
Remains (TransmitStep mode) = ⊥
Remains other = Unit {0}

module _ {D : Type 0} (seen : D → Seen) (session : ℕ) (writable : Bool) (old new : WorldValue D) where
  -- only one who requests follow for was attached
  export_same : (mode : Mode) (name : List ℕ) (found : Option ExportInfo) → Remains (export_step mode (told_info found)) →
      JoinsAt seen session writable old name found new → new ≡ old
  export_same mode name (Some info) remains joins = absurd remains
  export_same mode name None remains joins = joins

  go_same : (mode : Mode) (name : List ℕ) (found : Option ExportInfo) → Remains (go_step mode (told_info found)) → JoinsAt seen session writable old name found new → new ≡ old
  go_same mode name (Some info) remains joins = absurd remains
  go_same mode name None remains joins = joins

  unchanged : (mode : Mode) (w : Wish) → Remains (hand_step_of mode w (graph_told old.graph (want_of w))) → WantChanges seen session writable old (want_of w) new → new ≡ old
  unchanged mode (wish.Export (Some name)) remains changes = export_same mode name (info_of old.graph name) remains changes
  unchanged mode (wish.Export None) remains changes = changes
  unchanged mode wish.Abort remains changes = changes
  unchanged mode wish.List remains changes = changes
  unchanged mode (wish.Info inquiry) remains changes = changes
  unchanged mode (wish.Go inquiry) remains changes = asked inquiry.name remains changes
    where
      asked : (bytes : Option (List ℕ)) → Remains (go_step mode (graph_told old.graph (want_of (wish.Export bytes)))) →
          WantChanges seen session writable old (want_of (wish.Export bytes)) new → new ≡ old
      asked (Some name) remains changes = go_same mode name (info_of old.graph name) remains changes
      asked None remains changes = changes
  unchanged mode wish.Structured remains changes = changes
  unchanged mode (wish.Malformed number) remains changes = changes
  unchanged mode (wish.Unknown number) remains changes = changes

  -- how it goes on, by the step
  by_step : (E : Type 0) (terms : Terms) (taken : List ℕ) (mid new_reader : Reader) (after : Flow) (step : HandStep) → IsAsked terms taken mid →
      step ≡ hand_step_of terms.mode (wish_in taken) (graph_told old.graph (want_of (wish_in taken))) →
      new_reader ≡ record { terms = terms_behind terms taken; phase = phase_behind (hand_step_of terms.mode (wish_in taken) (graph_told old.graph (want_of (wish_in taken)))) } →
      WantChanges seen session writable old (want_of (wish_in taken)) new →
      Turns {E = E} seen session writable terms old (Ok (turn_at step)) taken (text_for old.graph terms taken) new_reader after new
  by_step E terms taken mid new_reader after Stay asked is reader_is changes = record {
    option = asked.option;
    step = sym is;
    given_is = refl;
    reader_is = reader_is ∙ ap (λ (s : HandStep). record { terms = terms_behind terms taken; phase = phase_behind s }) (sym is);
    same = unchanged terms.mode (wish_in taken) (subst Remains is tt) changes;
  }
  by_step E terms taken mid new_reader after (TransmitStep mode) asked is reader_is changes = inl (record {
    mode = mode;
    opened_is = refl;
    option = asked.option;
    step = sym is;
    given_is = refl;
    changes = changes;
  })
  by_step E terms taken mid new_reader after (Close how) asked is reader_is changes = inr (inl (record {
    how = how;
    opened_is = refl;
    option = asked.option;
    step = sym is;
    given_is = refl;
    same = unchanged terms.mode (wish_in taken) (subst Remains is tt) changes;
  }))

-- what came is an option
pub asked_came : (E : Type 0) (terms : Terms) (taken : List ℕ) (told : Came) (wanted : Want) (reader : Reader) (after : Flow) → told ≡ came.Asked wanted →
    Comes {E = E} terms taken (Ok told) reader after → IsAsked terms taken reader × (wanted ≡ want_of (wish_in taken))
asked_came E terms taken told wanted reader after is comes = subst (λ (t : Came). Comes {E = E} terms taken (Ok t) reader after) is comes

-- its wish is awaited
pub asked_wish : (terms : Terms) (taken : List ℕ) (reader : Reader) → IsAsked terms taken reader → reader.phase ≡ Asked (wish_in taken)
asked_wish terms taken reader asked = ap (λ (r : Reader). r.phase) asked.reader

module _ {E D : Type 0} (seen : D → Seen) (session : ℕ) (writable : Bool) (terms : Terms) (before mid : Flow) (old new : WorldValue D) (taken : List ℕ) (reader new_reader : Reader)
    (moved : Moved taken [] before mid) (asked : IsAsked terms taken reader) (o : Side) (s : Buffers) where
  -- an option was answered
  pub turned : (step : HandStep) (told : Negotiation) → told ≡ turn_at step →
      AnswersOption seen session writable reader.terms (wish_in taken) old (Some step) new_reader new mid.output mid.stream o s →
      TakesTurn {E = E} seen session writable terms before old (Ok told) new_reader (record { input = mid.input; output = o; stream = s }) new
  turned step told is answers =
      let same : reader.terms ≡ terms = ap (λ (r : Reader). r.terms) asked.reader in
      let answers' : AnswersOption seen session writable terms (wish_in taken) old (Some step) new_reader new mid.output mid.stream o s =
      subst (λ (t : Terms). AnswersOption seen session writable t (wish_in taken) old (Some step) new_reader new mid.output mid.stream o s) same answers in
      let after : Flow = record { input = mid.input; output = o; stream = s } in
      let text : List ℕ = text_for old.graph terms taken in
      record {
        taken = taken;
        given = text;
        moved = subst (λ (bytes : List ℕ). Moved bytes text before after) (append-nil taken)
            (moved_on before mid after taken [] [] text moved (answers'.3.moved mid.input));
        turns = subst (λ (t : Negotiation). Turns {E = E} seen session writable terms old (Ok t) taken text new_reader after new) (sym is)
            (by_step seen session writable old new E terms taken reader new_reader after step asked answers'.0 answers'.1 answers'.2);
      }

  -- memory was refused for the answer
  pub turn_starved : AnswersOption seen session writable reader.terms (wish_in taken) old None new_reader new mid.output mid.stream o s →
      TakesTurn {E = E} seen session writable terms before old (Ok (negotiation.Over (Ends Memory))) new_reader (record { input = mid.input; output = o; stream = s }) new
  turn_starved answers =
      let same : record { input = mid.input; output = o; stream = s } ≡ mid =
      ap (λ (b : Buffers). record { input = mid.input; output = o; stream = b }) answers.1 ∙ ap (λ (p : Side). record { input = mid.input; output = p; stream = mid.stream }) answers.2 in
      record {
        taken = taken;
        given = [];
        moved = subst (λ (f : Flow). Moved taken [] before f) (sym same) moved;
        turns = inr (inr (inl (record { opened_is = refl; option = asked.option; given_is = refl; changes = answers.0 })));
      }

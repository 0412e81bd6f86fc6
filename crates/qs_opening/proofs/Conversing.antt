-- Options answered one after the other.
use Rattle.std.proofs.Common.{◌≡◌, ℕ, ◌+◌, inl, inr, Bool, List, [], ◌∷◌, ◌++◌, length, refl, sym, ap, ◌∙◌, subst, append-nil, length-append}
use Rattle.std.specs.Prelude.{Result, Ok, Err, IsErrAnd}
use Rattle.std.specs.List.{flat_map}
use Rattle.std.proofs.lemmas.Grind.{flat_map-append}
use Rattle.std.proofs.lemmas.List.{append_assoc}
use Rattle.qs_status.specs.declared.status.Status.TheVariants.{Spent}
use Rattle.qs_outside.specs.Blocks.{Seen}
use Rattle.qs_graph.specs.Table.{GraphValue}
use Rattle.qs_nbd_handshake.specs.declared.event.HandStep.TheVariants.{Stay}
use Rattle.qs_nbd_handshake.specs.declared.stage.Terms.{Terms}
use Rattle.qs_nbd_handshake.specs.Phases.{Phase, Reader, InOption}
use Rattle.qs_nbd_handshake.specs.Sessions.{IsOption, sent_bytes}
use Rattle.qs_stream.specs.Flows.{Flow, Moved}
use Rattle.qs_stream.proofs.Moves.{moved_none, moved_on}
use Rattle.qs_world.specs.Values.{WorldValue}
use Rattle.qs_opening.specs.declared.turn.Opened.{Opened}
use Rattle.qs_opening.specs.declared.turn.Opened.TheVariants.{Ends}
use Rattle.qs_opening.specs.declared.turn.Negotiation.{Negotiation}
use Rattle.qs_opening.specs.declared.turn.Negotiation.TheVariants as negotiation
use Rattle.qs_opening.specs.Options.{AllStay, answers_to, step_for, terms_after, terms_behind, text_for}
use Rattle.qs_opening.specs.Openings.{Converses}
use Rattle.qs_opening.specs.Turns.{GoesOn, TakesTurn, Turns}

-- so many options were answered, and the next one is awaited
pub record Conversed {D : Type 0} (terms : Terms) (before now : Flow) (old : WorldValue D) (world : WorldValue D) (reader : Reader) (count : ℕ) : Type 0 where
  pub options : List (List ℕ)
  pub stay : AllStay old.graph terms options
  pub moved : Moved (flat_map sent_bytes options) (answers_to old.graph terms options) before now
  pub counted : length options ≡ count
  pub same : world ≡ old
  pub reader_is : reader ≡ record { terms = terms_after terms options; phase = InOption [] }

pub conversed_none : {D : Type 0} (before : Flow) (old : WorldValue D) (reader : Reader) → reader.phase ≡ InOption [] → Conversed reader.terms before before old old reader 0
conversed_none before old reader awaits = record {
  options = [];
  stay = tt;
  moved = moved_none before;
  counted = refl;
  same = refl;
  reader_is = ap (λ (p : Phase). record { terms = reader.terms; phase = p }) awaits;
}

stay_more : (graph : GraphValue) (terms : Terms) (options : List (List ℕ)) (option : List ℕ) → AllStay graph terms options → IsOption (terms_after terms options).fixed option →
    step_for graph (terms_after terms options) option ≡ Stay → AllStay graph terms (options ++ option ∷ [])
stay_more graph terms [] option stay is step = (is, step, tt)
stay_more graph terms (x ∷ xs) option stay is step = (stay.0, stay.1, stay_more graph (terms_behind terms x) xs option stay.2 is step)

terms_more : (terms : Terms) (options : List (List ℕ)) (option : List ℕ) → terms_after terms (options ++ option ∷ []) ≡ terms_behind (terms_after terms options) option
terms_more terms [] option = refl
terms_more terms (x ∷ xs) option = terms_more (terms_behind terms x) xs option

answers_more : (graph : GraphValue) (terms : Terms) (options : List (List ℕ)) (option : List ℕ) →
    answers_to graph terms (options ++ option ∷ []) ≡ answers_to graph terms options ++ text_for graph (terms_after terms options) option
answers_more graph terms [] option = append-nil (text_for graph terms option)
answers_more graph terms (x ∷ xs) option =
    ap (λ (bytes : List ℕ). text_for graph terms x ++ bytes) (answers_more graph (terms_behind terms x) xs option)
    ∙ sym (append_assoc (text_for graph terms x) (answers_to graph (terms_behind terms x) xs) (text_for graph (terms_after (terms_behind terms x) xs) option))

bytes_more : (options : List (List ℕ)) (option : List ℕ) → flat_map sent_bytes (options ++ option ∷ []) ≡ flat_map sent_bytes options ++ option
bytes_more options option =
    flat_map-append sent_bytes options (option ∷ []) ∙ ap (λ (bytes : List ℕ). flat_map sent_bytes options ++ bytes) (append-nil option)

module _ {D : Type 0} (seen : D → Seen) (session : ℕ) (writable : Bool) (terms : Terms) (before now after : Flow) (old world new : WorldValue D) (reader next : Reader) (count : ℕ)
    (conversed : Conversed terms before now old world reader count) where
  -- what was agreed on so far
  agreed : reader.terms ≡ terms_after terms conversed.options
  agreed = ap (λ (r : Reader). r.terms) conversed.reader_is

  -- a turn from there
  turns_so : {E : Type 0} (result : Result Negotiation E) (turn : TakesTurn seen session writable reader.terms now world result next after new) →
      Turns seen session writable (terms_after terms conversed.options) old result turn.taken turn.given next after new
  turns_so result turn =
      subst (λ (w : WorldValue D). Turns seen session writable (terms_after terms conversed.options) w result turn.taken turn.given next after new) conversed.same
      (subst (λ (t : Terms). Turns seen session writable t world result turn.taken turn.given next after new) agreed turn.turns)

  moves_so : (taken given : List ℕ) → Moved taken given now after →
      Moved (flat_map sent_bytes conversed.options ++ taken) (answers_to old.graph terms conversed.options ++ given) before after
  moves_so taken given moved =
      moved_on before now after (flat_map sent_bytes conversed.options) (answers_to old.graph terms conversed.options) taken given conversed.moved moved

  -- one option more was answered
  pub conversed_more : {E : Type 0} (told : Negotiation) → told ≡ negotiation.Stays → TakesTurn {E = E} seen session writable reader.terms now world (Ok told) next after new →
      Conversed terms before after old new next (count + 1)
  conversed_more {E} told is taken =
      let goes : GoesOn (terms_after terms conversed.options) old taken.taken taken.given next new =
      subst (λ (t : Negotiation). Turns {E = E} seen session writable (terms_after terms conversed.options) old (Ok t) taken.taken taken.given next after new) is (turns_so (Ok told) taken) in
      let behind : Terms = terms_after terms conversed.options in
      let given : taken.given ≡ text_for old.graph behind taken.taken = goes.given_is in
      record {
        options = conversed.options ++ taken.taken ∷ [];
        stay = stay_more old.graph terms conversed.options taken.taken conversed.stay goes.option goes.step;
        moved = subst (λ (bytes : List ℕ). Moved bytes (answers_to old.graph terms (conversed.options ++ taken.taken ∷ [])) before after) (sym (bytes_more conversed.options taken.taken))
            (subst (λ (bytes : List ℕ). Moved (flat_map sent_bytes conversed.options ++ taken.taken) bytes before after)
            (ap (λ (bytes : List ℕ). answers_to old.graph terms conversed.options ++ bytes) given ∙ sym (answers_more old.graph terms conversed.options taken.taken))
            (moves_so taken.taken taken.given taken.moved));
        counted = length-append conversed.options (taken.taken ∷ []) ∙ ap (λ (n : ℕ). n + 1) conversed.counted;
        same = goes.same;
        reader_is = goes.reader_is ∙ ap (λ (t : Terms). record { terms = t; phase = InOption [] }) (sym (terms_more terms conversed.options taken.taken));
      }

  -- options were over
  pub converses_end : {E F : Type 0} (budget : ℕ) (told : Negotiation) (opened : Opened) → told ≡ negotiation.Over opened →
      TakesTurn {E = E} seen session writable reader.terms now world (Ok told) next after new →
      Converses {E = F} seen session writable budget terms before old (Ok opened) after new
  converses_end {E} budget told opened is taken = record {
    options = conversed.options;
    stay = conversed.stay;
    rest = taken.taken;
    given = taken.given;
    moved = moves_so taken.taken taken.given taken.moved;
    finishes = inl (subst (λ (t : Negotiation). Turns {E = E} seen session writable (terms_after terms conversed.options) old (Ok t) taken.taken taken.given next after new) is
        (turns_so (Ok told) taken));
  }

  -- the stream failed
  pub converses_fault : {E F : Type 0} (budget : ℕ) (e : E) (result : Result Opened F) (P : F → Type 0) → IsErrAnd result P →
      TakesTurn seen session writable reader.terms now world (Err e) next after new → Converses seen session writable budget terms before old result after new
  converses_fault budget e (Ok opened) P is taken = absurd is
  converses_fault budget e (Err f) P is taken = record {
    options = conversed.options;
    stay = conversed.stay;
    rest = taken.taken;
    given = taken.given;
    moved = moves_so taken.taken taken.given taken.moved;
    finishes = turns_so (Err e) taken;
  }

-- all that may be read were read
pub converses_spent : {E D : Type 0} (seen : D → Seen) (session : ℕ) (writable : Bool) (terms : Terms) (before now : Flow) (old world : WorldValue D) (reader : Reader) (count budget : ℕ) →
    Conversed terms before now old world reader count → count ≡ budget → Converses {E = E} seen session writable budget terms before old (Ok (Ends Spent)) now world
converses_spent seen session writable terms before now old world reader count budget conversed all = record {
  options = conversed.options;
  stay = conversed.stay;
  rest = [];
  given = [];
  moved = moved_on before now now (flat_map sent_bytes conversed.options) (answers_to old.graph terms conversed.options) [] [] conversed.moved (moved_none now);
  finishes = inr (record { opened_is = refl; all = conversed.counted ∙ all; rest_is = refl; given_is = refl; same = conversed.same });
}

-- Two replays side by side, as runs of the model: the same call makes the same of both.
use Rattle.std.proofs.Common.{◌≡◌, ℕ, inl, inr, List, [], ◌∷◌, ◌++◌, true, false, not, refl, sym, subst, ap, ◌∙◌, true≢false}
use Rattle.std.specs.Prelude.{Option, Some, None, IsTrue}
use Rattle.qs_bytes.specs.declared.ask.Ask.{Ask}
use Rattle.qs_part.specs.declared.event.Event.{Event}
use Rattle.qs_part.specs.declared.event.Event.TheVariants as event
use Rattle.qs_part.specs.declared.event.Outcome.{Outcome}
use Rattle.qs_part.specs.declared.graph.GraphOp.{GraphOp}
use Rattle.qs_part.specs.declared.graph.GraphReply.TheVariants.{Added}
use Rattle.qs_graph.specs.Table.{GraphValue, May as GraphMay}
use Rattle.qs_outside.specs.declared.crash.CrashChoice.{CrashChoice}
use Rattle.qs_model.specs.Guards.{CanCome}
use Rattle.qs_model.specs.Acts.{Element, Asked, Crashed, Exported}
use Rattle.qs_determined.specs.Determined.{Alike, Input, Happens, Fails, Cuts, Makes, IsGivenAlike, IsInput}
use Rattle.qs_determined.proofs.Steps.{Comes, added_one, one_outcome}
use Rattle.qs_model.specs.Events.{BringsBytes, IsEvent, outcome_of}
use Rattle.qs_model.specs.Laws.{NeverOdd}
use Rattle.qs_model.specs.Requests.{Client, form_error, wants_body}
use Rattle.qs_model.specs.Steps.{Runs, world_after, happens}
use Rattle.qs_model.specs.Worlds.{World}
use Rattle.qs_model.proofs.Basics.{either}
use Rattle.qs_calls.specs.Calls.{AreCalls, Call, Happened, Rigged, PowerFailed, ExportMade}
use Rattle.qs_same_replay.specs.Same.{IsGiven}
use Rattle.qs_same_replay.proofs.Calm.{AreUndisturbed, IsAnew}

-- what comes from outside
abbrev pub input_of : Call → Input
input_of (Happened event outcome) = Happens event
input_of (Rigged stripe fail) = Fails stripe fail
input_of (PowerFailed choice left) = Cuts choice left
input_of (ExportMade op place) = Makes op

-- a call's outcome is its step's, and so is the place of an export
abbrev pub HasOutcome : ℕ → Call → Element → Type 0
HasOutcome A (Happened event outcome) e = outcome_of A e ≡ Some outcome
HasOutcome A (ExportMade op place) e = e ≡ Exported op place
HasOutcome A _ e = Unit {0}

-- the step of a call that nothing outside disturbed
pub record CalmStep (A : ℕ) (m : World) (c : Call) : Type 0 where
  pub element : Element
  pub comes : Comes A m (input_of c) element
  pub outcome_is : HasOutcome A c element
  pub given : IsGiven element
  pub made : IsAnew m element

-- such calls one after the other, and the state that they lead to
abbrev pub Calmly : ℕ → World → List Call → World → Type 0
Calmly A m [] n = n ≡ m
Calmly A m (c ∷ calls) n = (step : CalmStep A m c) × Calmly A (happens A m step.element) calls n

-- the steps behind the first have no odd answer either
pub never_later : (e : Element) (es : List Element) → NeverOdd (e ∷ es) → NeverOdd es
never_later e es never before d follows = never (e ∷ before) d (follows.0, ap (λ (xs : List Element). e ∷ xs) follows.1)

-- a run that nothing outside disturbed
pub calmly : (A : ℕ) (m : World) (calls : List Call) (es : List Element) → AreCalls A calls es → Runs A m es → AreUndisturbed A m es → NeverOdd es →
    Calmly A m calls (world_after A m es)
calmly A m [] [] are run calm never = refl
calmly A m [] (e ∷ es) are run calm never = absurd are
calmly A m (c ∷ cs) [] are run calm never = absurd are
calmly A m (Happened event outcome ∷ cs) (e ∷ es) are run calm never = (
  record {
    element = e;
    comes = record { may = run.0; is = are.0; undisturbed = calm.0; plain = never [] e (es, refl) };
    outcome_is = are.1;
    given = calm.1;
    made = calm.2;
  },
  calmly A (happens A m e) cs es are.2 run.1 calm.3 (never_later e es never),
)
calmly A m (Rigged stripe fail ∷ cs) (e ∷ es) are run calm never = (
  record {
    element = e;
    comes = record { may = run.0; is = subst (IsInput (Fails stripe fail)) (sym are.0) (refl, refl); undisturbed = calm.0; plain = never [] e (es, refl) };
    outcome_is = tt;
    given = calm.1;
    made = calm.2;
  },
  calmly A (happens A m e) cs es are.1 run.1 calm.3 (never_later e es never),
)
calmly A m (PowerFailed choice left ∷ cs) (e ∷ es) are run calm never = (
  record {
    element = e;
    comes = record { may = run.0; is = subst (IsInput (Cuts choice left)) (sym are.0) (λ b. refl); undisturbed = calm.0; plain = never [] e (es, refl) };
    outcome_is = tt;
    given = calm.1;
    made = calm.2;
  },
  calmly A (happens A m e) cs es are.1 run.1 calm.3 (never_later e es never),
)
calmly A m (ExportMade op place ∷ cs) (e ∷ es) are run calm never = (
  record {
    element = e;
    comes = record { may = run.0; is = subst (IsInput (Makes op)) (sym are.0) refl; undisturbed = calm.0; plain = never [] e (es, refl) };
    outcome_is = are.0;
    given = calm.1;
    made = calm.2;
  },
  calmly A (happens A m e) cs es are.1 run.1 calm.3 (never_later e es never),
)

-- calls one behind the other
pub calm_parts : (A : ℕ) (m n : World) (first later : List Call) → Calmly A m (first ++ later) n → (mid : World) × (Calmly A m first mid × Calmly A mid later n)
calm_parts A m n [] later calm = (m, (refl, calm))
calm_parts A m n (c ∷ first) later calm =
    let (mid, (front, back)) = calm_parts A (happens A m calm.0.element) n first later calm.1 in
    (mid, ((calm.0, front), back))

-- an Ask that its form refuses brings no body, and wants one
abbrev pub IsTame : Input → Type 0
IsTame (Happens (event.Ask n ask body)) = form_error ask ≡ true → (body ≡ None) × (wants_body ask ≡ true)
IsTame other = Unit {0}

-- whether a request that was made has its buffers hangs on its event alone
buffered_is : (n r : ℕ) (ask : Ask) (body : Option (List ℕ)) (c : Client) → IsTame (Happens (event.Ask n ask body)) → IsEvent (event.Ask n ask body) (Asked r c) →
    IsGiven (Asked r c) → c.buffered ≡ not (form_error ask)
buffered_is n r ask body c tame is given = elim (either (form_error ask)) [
  | inl bad ↦ lacks (tame bad) (subst (λ (b : Option (List ℕ)). BringsBytes b c) (tame bad).0 is.2) ∙ sym (ap not bad)
  | inr good ↦ given (ap form_error (sym is.1) ∙ good) ∙ sym (ap not good)
]
  where
    lacks : (body ≡ None) × (wants_body ask ≡ true) → BringsBytes None c → c.buffered ≡ false
    lacks bare none = elim none.wanted [
      | inl unwanted ↦ absurd (true≢false (sym bare.1 ∙ ap wants_body is.1 ∙ unwanted))
      | inr refused ↦ refused
    ]

given_alike : (input : Input) (e d : Element) → IsTame input → IsInput input e → IsInput input d → IsGiven e → IsGiven d → IsGivenAlike e d
given_alike (Happens (event.Ask n ask body)) (Asked r c) (Asked s d) tame is at given given_too =
    buffered_is n s ask body d tame at given_too ∙ sym (buffered_is n r ask body c tame is given)
given_alike input (Asked r c) (Asked s d) tame is at given given_too = absurd is
given_alike input e d tame is at given given_too = tt

-- two states that are alike, whose disks tell their content
pub record Twins (m m' : World) : Type 0 where
  pub alike : Alike m m'
  pub tells : IsTrue m.tells

-- one call each
pub twin_call : (A : ℕ) (m m' : World) (c c' : Call) → Twins m m' → (one : CalmStep A m c) (two : CalmStep A m' c') → input_of c' ≡ input_of c → IsTame (input_of c) →
    (c' ≡ c) × Twins (happens A m one.element) (happens A m' two.element)
twin_call A m m' c c' t one two same tame =
    let comes : Comes A m' (input_of c) two.element = subst (λ (i : Input). Comes A m' i two.element) same two.comes in
    let both = one_outcome A m m' (input_of c) one.element two.element t.tells t.alike
    (given_alike (input_of c) one.element two.element tame one.comes.is comes.is one.given two.given) one.comes comes in (
      call_one c c' one.element two.element same one.outcome_is two.outcome_is both.0 one.comes.may two.comes.may,
      record { alike = both.1; tells = still (input_of c) one.element one.comes.is },
    )
  where
    still : (input : Input) (e : Element) → IsInput input e → IsTrue (happens A m e).tells
    still input (Crashed left) is = t.tells
    still input e is = t.tells

    one_told : (x y : Outcome) → Some x ≡ Some y → x ≡ y
    one_told x y e = cc

    call_one : (c c' : Call) (e d : Element) → input_of c' ≡ input_of c → HasOutcome A c e → HasOutcome A c' d → outcome_of A d ≡ outcome_of A e →
        CanCome A m e → CanCome A m' d → c' ≡ c
    call_one (Happened made x) (Happened made' y) e d same told told_too is may may_too =
        let event_is : made' ≡ made = cc in
        ap (λ (i : Event). Happened i y) event_is ∙ ap (Happened made) (one_told y x (sym told_too ∙ is ∙ told))
    call_one (Rigged j fail) (Rigged i kind) e d same told told_too is may may_too =
        let stripe : i ≡ j = cc in
        let fail_is : kind ≡ fail = cc in
        ap (λ (k : ℕ). Rigged k kind) stripe ∙ ap (Rigged j) fail_is
    call_one (PowerFailed choice left) (PowerFailed other blocks) e d same told told_too is may may_too =
        let choice_is : other ≡ choice = cc in
        let left_is : blocks ≡ left = cc in
        ap (λ (x : CrashChoice). PowerFailed x blocks) choice_is ∙ ap (PowerFailed choice) left_is
    call_one (ExportMade op place) (ExportMade other k) e d same told told_too is may may_too =
        let op_is : other ≡ op = cc in
        let place_is : k ≡ place = added_one m.graph op place k (subst (CanCome A m) told may)
        (subst (λ (g : GraphValue). GraphMay g op (Added k)) t.alike.graph
        (subst (λ (o : GraphOp). GraphMay m'.graph o (Added k)) op_is (subst (CanCome A m') told_too may_too))) in
        ap (λ (o : GraphOp). ExportMade o k) op_is ∙ ap (ExportMade op) place_is
    call_one (Happened made x) (Rigged i kind) e d same told told_too is may may_too = absurd (cc)
    call_one (Happened made x) (PowerFailed other blocks) e d same told told_too is may may_too = absurd (cc)
    call_one (Happened made x) (ExportMade other k) e d same told told_too is may may_too = absurd (cc)
    call_one (Rigged j fail) (Happened made' y) e d same told told_too is may may_too = absurd (cc)
    call_one (Rigged j fail) (PowerFailed other blocks) e d same told told_too is may may_too = absurd (cc)
    call_one (Rigged j fail) (ExportMade other k) e d same told told_too is may may_too = absurd (cc)
    call_one (PowerFailed choice left) (Happened made' y) e d same told told_too is may may_too = absurd (cc)
    call_one (PowerFailed choice left) (Rigged i kind) e d same told told_too is may may_too = absurd (cc)
    call_one (PowerFailed choice left) (ExportMade other k) e d same told told_too is may may_too = absurd (cc)
    call_one (ExportMade op place) (Happened made' y) e d same told told_too is may may_too = absurd (cc)
    call_one (ExportMade op place) (Rigged i kind) e d same told told_too is may may_too = absurd (cc)
    call_one (ExportMade op place) (PowerFailed other blocks) e d same told told_too is may may_too = absurd (cc)

-- The calls of one request, as steps of the model that are its own.
use Rattle.std.proofs.Common.{◌≡◌, ℕ, Bool, List, [], ◌∷◌, ◌++◌, true, false, ◌⊎◌, inl, inr, refl, sym, ap, subst, ◌∙◌, true≢false}
use Rattle.std.specs.Prelude.{All, Option, None, Some}
use Rattle.std.proofs.lemmas.List.Elements.{All-head, All-tail}
use Rattle.qs_bytes.specs.declared.ask.Ask.{Ask}
use Rattle.qs_bytes.specs.declared.ask.Verdict.{Verdict}
use Rattle.qs_part.specs.declared.event.Actor.TheVariants.{Request as ARequest, Session as ASession}
use Rattle.qs_part.specs.declared.event.Event.{Event}
use Rattle.qs_part.specs.declared.event.Event.TheVariants.{Ask as AskEvent, Step}
use Rattle.qs_part.specs.declared.event.Note.{Note}
use Rattle.qs_part.specs.declared.event.Outcome.{Outcome}
use Rattle.qs_part.specs.declared.event.Outcome.TheVariants.{Answered, Made, Moved}
use Rattle.qs_model.specs.Acts.{Act, Answers, Waits, Enters, Routes, Shuts, Lists, Starts, Loads, LoadFails, Holds, HoldFails, Stores, StoreFails, Syncs, Cleans, SyncFails, Frees, Ends, Element, Attached, NoExport, Crowded, Left, Detached, NotAttached, Asked, Did, Exported, Planned, Crashed}
use Rattle.qs_model.specs.Events.{BringsBytes, IsEvent, outcome_of, row_outcome}
use Rattle.qs_model.specs.Histories.{Acts, answer_of}
use Rattle.qs_model.specs.Requests.{Client, Stage}
use Rattle.qs_verdicts.specs.Verdicts.{IsAnswered}
use Rattle.qs_alone.specs.Alone.{AreOf, IsWaitStep, IsWaitRow}
use Rattle.qs_calls.specs.Calls.{AreCalls, Call, Happened}
use Rattle.qs_calls.specs.Goings.{GoesOn, goes_on, moves_on}

-- the first of some steps is the call's, and the others are those of the calls behind it
pub record Parted (A : ℕ) (event : Event) (outcome : Outcome) (cs : List Call) (all : List Element) : Type 0 where
  pub first : Element
  pub rest : List Element
  pub is : all ≡ first ∷ rest
  pub answers : IsEvent event first
  pub out : outcome_of A first ≡ Some outcome
  pub are : AreCalls A cs rest

pub parted : (A : ℕ) (event : Event) (outcome : Outcome) (cs : List Call) (all : List Element) → AreCalls A (Happened event outcome ∷ cs) all → Parted A event outcome cs all
parted A event outcome cs [] are = absurd are
parted A event outcome cs (e ∷ es) are = record { first = e; rest = es; is = refl; answers = are.0; out = are.1; are = are.2 }

-- an Ask made request r for this client
pub record Asks (session : ℕ) (a : Ask) (body : Option (List ℕ)) (r : ℕ) (e : Element) : Type 0 where
  pub client : Client
  pub is : e ≡ Asked r client
  pub session_is : session ≡ client.session
  pub ask_is : a ≡ client.ask
  pub brings : BringsBytes body client

pub asks : (A session : ℕ) (a : Ask) (body : Option (List ℕ)) (r : ℕ) (e : Element) → IsEvent (AskEvent session a body) e → outcome_of A e ≡ Some (Made r) → Asks session a body r e
asks A session a body r (Asked s c) is out = record { client = c; is = ap (λ (n : ℕ). Asked n c) (one out); session_is = is.0; ask_is = is.1; brings = is.2 }
  where
    one : Some (Made s) ≡ Some (Made r) → s ≡ r
    one e = cc
asks A session a body r (Attached s name info) is out = absurd is
asks A session a body r (NoExport s name) is out = absurd is
asks A session a body r (Crowded s name) is out = absurd is
asks A session a body r (Left s e) is out = absurd is
asks A session a body r (Detached s e) is out = absurd is
asks A session a body r (NotAttached s e) is out = absurd is
asks A session a body r (Did s q act) is out = absurd is
asks A session a body r (Exported op e) is out = absurd is
asks A session a body r (Planned j fail) is out = absurd is
asks A session a body r (Crashed left) is out = absurd is

-- a step of a request is one of its own
pub acts_of : (r now : ℕ) (e : Element) → IsEvent (Step (ARequest r) now) e → Acts r e
acts_of r now (Did s q act) is = one is
  where
    one : ARequest r ≡ ARequest s → s ≡ r
    one e = cc
acts_of r now (Detached s e) is = absurd (never is)
  where
    never : ARequest r ≡ ASession s → ⊥
    never e = cc
acts_of r now (NotAttached s e) is = absurd (never is)
  where
    never : ARequest r ≡ ASession s → ⊥
    never e = cc
acts_of r now (Attached s name info) is = absurd is
acts_of r now (NoExport s name) is = absurd is
acts_of r now (Crowded s name) is = absurd is
acts_of r now (Left s e) is = absurd is
acts_of r now (Asked s c) is = absurd is
acts_of r now (Exported op e) is = absurd is
acts_of r now (Planned j fail) is = absurd is
acts_of r now (Crashed left) is = absurd is

-- the steps of a run of one request, and the last of them
pub record Closes (A r : ℕ) (last : Outcome) (es : List Element) : Type 0 where
  pub front : List Element
  pub step : Element
  pub whole : es ≡ front ++ step ∷ []
  pub own : AreOf r es
  pub act : Acts r step
  pub out : outcome_of A step ≡ Some last

pub closes : (A r now : ℕ) (front : List Call) (last : Outcome) (es : List Element) → All (GoesOn (Step (ARequest r) now)) front →
    AreCalls A (front ++ Happened (Step (ARequest r) now) last ∷ []) es → Closes A r last es
closes A r now [] last [] on are = absurd are
closes A r now [] last (e ∷ []) on are =
    let own = acts_of r now e are.0 in record { front = []; step = e; whole = refl; own = (own, tt); act = own; out = are.1 }
closes A r now [] last (e ∷ f ∷ fs) on are = absurd are.2
closes A r now (c ∷ cs) last [] on are = absurd (no_steps A (cs ++ Happened (Step (ARequest r) now) last ∷ []) c are)
  where
    no_steps : (B : ℕ) (ds : List Call) (d : Call) → AreCalls B (d ∷ ds) [] → ⊥
    no_steps B ds d h = h
closes A r now (c ∷ cs) last (e ∷ es) on are =
    let made : Event = Step (ARequest r) now in
    let goes = All-head (GoesOn made) c cs on in
    let these : AreCalls A (Happened made goes.outcome ∷ (cs ++ Happened made last ∷ [])) (e ∷ es) =
    subst (λ (d : Call). AreCalls A (d ∷ (cs ++ Happened made last ∷ [])) (e ∷ es)) goes.is are in
    let rest = closes A r now cs last es (All-tail (GoesOn made) c cs on) these.2 in
    record {
      front = e ∷ rest.front;
      step = rest.step;
      whole = ap (λ (l : List Element). e ∷ l) rest.whole;
      own = (acts_of r now e these.0, rest.own);
      act = rest.act;
      out = rest.out;
    }

-- an operation that lets its request go on isn't the last
moving : (note : Note) (last : Outcome) → Some (Moved note) ≡ Some last → moves_on note.reply ≡ true → goes_on last ≡ false → ⊥
moving note last is on ends = true≢false (sym on ∙ ap goes_on (one is) ∙ ends)
  where
    one : Some (Moved note) ≡ Some last → Moved note ≡ last
    one e = cc

-- the last step of a run answers, or leaves its request waiting
pub row_ends : (A : ℕ) (c : Client) (d : Bool) {stage : Stage} (act : Act stage) (last : Outcome) → row_outcome A c d act ≡ Some last → goes_on last ≡ false →
    IsWaitRow act ⊎ ((v : Verdict) × (n : Option Note) × ((last ≡ Answered v n) × (answer_of d act ≡ Some v)))
row_ends A c d (Answers {v = v}) last out ends = inr (v, None, (one out, refl))
  where
    one : Some (Answered v None) ≡ Some last → last ≡ Answered v None
    one e = cc
row_ends A c d (Ends {v = v}) last out ends = inr (_, _, (one _ _ out, refl))
  where
    one : (x : Verdict) (n : Option Note) → Some (Answered x n) ≡ Some last → last ≡ Answered x n
    one x n e = cc
row_ends A c d (Waits wait) last out ends = inl tt
row_ends A c d (Enters k) last out ends = absurd (moving _ last out refl ends)
row_ends A c d (Routes route) last out ends = absurd (moving _ last out refl ends)
row_ends A c d Shuts last out ends = absurd (moving _ last out refl ends)
row_ends A c d (Lists n) last out ends = absurd (moving _ last out refl ends)
row_ends A c d Starts last out ends = absurd (moving _ last out refl ends)
row_ends A c d (Loads bytes) last out ends = absurd (moving _ last out refl ends)
row_ends A c d LoadFails last out ends = absurd (moving _ last out refl ends)
row_ends A c d (Holds bytes) last out ends = absurd (moving _ last out refl ends)
row_ends A c d HoldFails last out ends = absurd (moving _ last out refl ends)
row_ends A c d (Stores bytes past) last out ends = absurd (moving _ last out refl ends)
row_ends A c d (StoreFails bytes took past) last out ends = absurd (moving _ last out refl ends)
row_ends A c d Syncs last out ends = absurd (moving _ last out refl ends)
row_ends A c d Cleans last out ends = absurd (moving _ last out refl ends)
row_ends A c d SyncFails last out ends = absurd (moving _ last out refl ends)
row_ends A c d Frees last out ends = absurd (moving _ last out refl ends)

pub step_ends : (A r : ℕ) (e : Element) (last : Outcome) → Acts r e → outcome_of A e ≡ Some last → goes_on last ≡ false →
    IsWaitStep e ⊎ ((v : Verdict) × (n : Option Note) × ((last ≡ Answered v n) × IsAnswered r v e))
step_ends A r (Did s q act) last own out ends = elim (row_ends A q.client q.dropped act last out ends) [
  | inl waits ↦ inl waits
  | inr is ↦ inr (is.0, is.1, (is.2.0, (own, is.2.1)))
]
step_ends A r (Attached s name info) last own out ends = absurd own
step_ends A r (NoExport s name) last own out ends = absurd own
step_ends A r (Crowded s name) last own out ends = absurd own
step_ends A r (Left s e) last own out ends = absurd own
step_ends A r (Detached s e) last own out ends = absurd own
step_ends A r (NotAttached s e) last own out ends = absurd own
step_ends A r (Asked s c) last own out ends = absurd own
step_ends A r (Exported op e) last own out ends = absurd own
step_ends A r (Planned j fail) last own out ends = absurd own
step_ends A r (Crashed left) last own out ends = absurd own

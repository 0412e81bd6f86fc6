-- The step of an input is one step, but for what a crash may leave of a stored block.
use Rattle.std.proofs.Common.{◌≡◌, ℕ, Bool, if◌then◌else◌, ◌==◌, List, [], ◌∷◌, Option, Some, IsTrue, refl, sym, ◌∙◌, subst}
use Rattle.qs_bytes.specs.declared.ask.Ask.{Ask}
use Rattle.qs_outside.specs.declared.crash.CrashChoice.{CrashChoice}
use Rattle.qs_outside.specs.declared.rigged_disk.Fail.{Fail}
use Rattle.qs_part.specs.declared.event.Actor.{Actor}
use Rattle.qs_part.specs.declared.event.Actor.TheVariants.{Session as ASession, Request as ARequest}
use Rattle.qs_part.specs.declared.event.Event.TheVariants.{Attach, Leave, Ask as AskEvent, Step as StepEvent}
use Rattle.qs_part.specs.declared.graph.GraphOp.{GraphOp}
use Rattle.qs_part.specs.declared.graph.GraphOp.TheVariants.{ExportAdd}
use Rattle.qs_part.specs.declared.graph.GraphReply.TheVariants.{Added}
use Rattle.qs_graph.specs.Table.{GraphValue, May as GraphMay}
use Rattle.qs_model.specs.Puts.{put}
use Rattle.qs_model.specs.Requests.{Client, Pads, Req, Stage}
use Rattle.qs_model.specs.Worlds.{World}
use Rattle.qs_bytes.specs.Geometry.{stripe_of}
use Rattle.qs_model.specs.Acts.{Act, Stores, StoreFails, Syncs, Element, Attached, NoExport, Crowded, Left, Detached, NotAttached, Asked, Did, Exported, Planned, Crashed}
use Rattle.qs_model.specs.Guards.{CanCome, CanAsk}
use Rattle.qs_model.specs.Steps.{happens}
use Rattle.qs_model.specs.Events.{outcome_of}
use Rattle.qs_model.specs.Histories.{IsOddStep}
use Rattle.qs_determined.specs.Determined.{Alike, Input, Happens, Fails, Cuts, Makes, IsGivenAlike, IsInput, IsUndisturbed}
use Rattle.qs_determined.proofs.States.{with_past, alike_is}
use Rattle.qs_determined.proofs.Rows.{Due, keeping, row_one}
use Rattle.qs_determined.proofs.Events.{info_one, crowded_never, found_never, live_one, leaving_one, session_one, asked_one}

-- the step, with this for what a crash may leave of a stored block
abbrev pub step_keeping : List (List ℕ) → Element → Element
step_keeping kept (Did r q act) = Did r q (keeping kept act)
step_keeping kept e = e

-- one step, but for what a crash may leave
abbrev pub OneStep : Element → Element → Type 0
OneStep e d = (kept : List (List ℕ)) × (d ≡ step_keeping kept e)

-- states that differ in that alone are alike
pub with_alike : (w : World) (past : ℕ → List (List ℕ)) → Alike w (with_past w past)
with_alike w past = record {
  tells = refl;
  next = refl;
  req = λ r. refl;
  session = λ s. refl;
  graph = refl;
  clients = λ e. refl;
  tracker = refl;
  now = λ b. refl;
  holder = λ b. refl;
  clean = λ s. refl;
  plans = λ j. refl;
}

-- two states that are alike, and two outcomes that are the same
abbrev pub Same : ℕ → World → World → Element → Element → Type 0
Same A w v e d = (outcome_of A d ≡ outcome_of A e) × Alike (happens A w e) (happens A v d)

-- one row leads to states that are alike
pub same_row : (A : ℕ) (w : World) (past : ℕ → List (List ℕ)) (r : ℕ) (c : Client) (d : Bool) (p : Pads) {stage : Stage} (act : Act stage)
    (kept : List (List ℕ)) → let q : Req = record { client = c; dropped = d; pads = p; stage = stage } in
    Same A w (with_past w past) (Did r q act) (Did r q (keeping kept act))
same_row A w past r c d p (Stores {b = b} bytes old) kept = (refl, with_alike _ (put past b kept))
same_row A w past r c d p (StoreFails {b = b} bytes took old) kept = (refl, with_alike _ (put past b kept))
same_row A w past r c d p (Syncs {s = s}) kept = (refl, with_alike _ (λ b. if stripe_of b == s then w.image.now b ∷ [] else past b))
same_row A w past r c d p act kept = (refl, with_alike _ past)

-- and so does one step
pub same_step : (A : ℕ) (w : World) (past : ℕ → List (List ℕ)) (e : Element) (kept : List (List ℕ)) →
    Same A w (with_past w past) e (step_keeping kept e)
same_step A w past (Did r q act) kept = same_row A w past r q.client q.dropped q.pads act kept
same_step A w past (Crashed left) kept = (refl, with_alike (happens A w (Crashed left)) _)
same_step A w past e kept = (refl, with_alike (happens A w e) past)

-- a step that may come for an input: where the disk failed that was planned, and it isn't odd
pub record Comes (A : ℕ) (w : World) (input : Input) (e : Element) : Type 0 where
  pub may : CanCome A w e
  pub is : IsInput input e
  pub undisturbed : IsUndisturbed A w e
  pub plain : IsOddStep e → ⊥

-- an export is made at one place
place_one : (found : Option ℕ) (e k : ℕ) → found ≡ Some e → found ≡ Some k → k ≡ e
place_one found e k a b = cc

pub added_one : (graph : GraphValue) (op : GraphOp) (e k : ℕ) → GraphMay graph op (Added e) → GraphMay graph op (Added k) → k ≡ e
added_one graph (ExportAdd id name node writable share) e k a b = place_one _ e k a.1 b.1
added_one graph op e k a b = absurd a

-- an actor is one request or one session
pub request_one : (actor : Actor) (r s : ℕ) → actor ≡ ARequest r → actor ≡ ARequest s → s ≡ r
request_one actor r s a b = cc

pub actor_one : (actor : Actor) (r s : ℕ) → actor ≡ ARequest r → actor ≡ ASession s → ⊥
actor_one actor r s a b = cc

module _ (A : ℕ) (w : World) (past : ℕ → List (List ℕ)) where
  -- the step of a request
  pub did_one : (r s : ℕ) (q p : Req) (act : Act q.stage) (other : Act p.stage) → IsTrue w.tells → s ≡ r → w.req r ≡ Some q → w.req s ≡ Some p →
      Due A w q.client q.pads act → Due A (with_past w past) p.client p.pads other → OneStep (Did r q act) (Did s p other)
  did_one r s q p act other told same one too h g =
      subst (λ (x : Req). (z : Act x.stage) → Due A (with_past w past) x.client x.pads z → OneStep (Did r q act) (Did s x z))
      (request_is (w.req r) q p one (subst (λ (n : ℕ). w.req n ≡ Some p) same too)) here other g
    where
      request_is : (found : Option Req) (q p : Req) → found ≡ Some q → found ≡ Some p → q ≡ p
      request_is found q p a b = cc

      here : (z : Act q.stage) → Due A (with_past w past) q.client q.pads z → OneStep (Did r q act) (Did s q z)
      here z k = let (kept, is) = row_one A w past q.client q.pads q.stage act z told h k in (kept, λ i. Did (same i) q (is i))

  pub attach_one : (session : ℕ) (name : List ℕ) (e d : Element) → Comes A w (Happens (Attach session name)) e →
      Comes A (with_past w past) (Happens (Attach session name)) d → OneStep e d
  attach_one session name (Attached s given a) (Attached t other b) h g =
      let same : other ≡ given = sym g.is.1 ∙ h.is.1 in
      ([], λ i. Attached ((sym g.is.0 ∙ h.is.0) i) (same i) (info_one w.graph given other a b same h.may.1 g.may.1 i))
  attach_one session name (Attached s given info) (NoExport t other) h g =
      absurd (found_never w.graph other given info.e (sym h.is.1 ∙ g.is.1) g.may.1 h.may.1.0)
  attach_one session name (Attached s given info) (Crowded t other) h g =
      absurd (crowded_never w.graph given other info (sym g.is.1 ∙ h.is.1) h.may.1 g.may.1)
  attach_one session name (NoExport s given) (Attached t other info) h g =
      absurd (found_never w.graph given other info.e (sym g.is.1 ∙ h.is.1) h.may.1 g.may.1.0)
  attach_one session name (NoExport s given) (NoExport t other) h g = ([], λ i. NoExport ((sym g.is.0 ∙ h.is.0) i) ((sym g.is.1 ∙ h.is.1) i))
  attach_one session name (NoExport s given) (Crowded t other) h g =
      absurd (found_never w.graph given other g.may.1.0 (sym g.is.1 ∙ h.is.1) h.may.1 g.may.1.1.0)
  attach_one session name (Crowded s given) (Attached t other info) h g =
      absurd (crowded_never w.graph other given info (sym h.is.1 ∙ g.is.1) g.may.1 h.may.1)
  attach_one session name (Crowded s given) (NoExport t other) h g =
      absurd (found_never w.graph other given h.may.1.0 (sym h.is.1 ∙ g.is.1) g.may.1 h.may.1.1.0)
  attach_one session name (Crowded s given) (Crowded t other) h g = ([], λ i. Crowded ((sym g.is.0 ∙ h.is.0) i) ((sym g.is.1 ∙ h.is.1) i))
  attach_one session name (Attached s given a) d h g = absurd g.is
  attach_one session name (NoExport s given) d h g = absurd g.is
  attach_one session name (Crowded s given) d h g = absurd g.is
  attach_one session name e d h g = absurd h.is

  pub leave_one : (session : ℕ) (e d : Element) → Comes A w (Happens (Leave session)) e →
      Comes A (with_past w past) (Happens (Leave session)) d → OneStep e d
  leave_one session (Left s e) (Left t d) h g =
      ([], λ i. Left ((sym g.is ∙ h.is) i) (live_one w.session s t e d (sym g.is ∙ h.is) h.may g.may i))
  leave_one session (Left s e) d h g = absurd g.is
  leave_one session e d h g = absurd h.is

  -- what may be asked does not hang on what a crash may leave
  pub asks : (r : ℕ) (c : Client) → CanAsk (with_past w past) r c → CanAsk w r c
  asks r c can = record {
    next = can.next;
    room = can.room;
    live = can.live;
    unrouted = can.unrouted;
    buffered = can.buffered;
    body = can.body;
    refused = can.refused;
    other = can.other;
  }

  pub ask_one : (session : ℕ) (ask : Ask) (body : Option (List ℕ)) (e d : Element) → IsGivenAlike e d → Comes A w (Happens (AskEvent session ask body)) e →
      Comes A (with_past w past) (Happens (AskEvent session ask body)) d → OneStep e d
  ask_one session ask body (Asked r c) (Asked s d) given h g =
      let can : CanAsk w s d = asks s d g.may in
      let same : d ≡ c = asked_one w r s c d body (sym g.is.0 ∙ h.is.0) (sym g.is.1 ∙ h.is.1) given h.may can h.is.2 g.is.2 in
      ([], λ i. Asked ((can.next ∙ sym h.may.next) i) (same i))
  ask_one session ask body (Asked r c) d given h g = absurd g.is
  ask_one session ask body e d given h g = absurd h.is

  pub step_one : (actor : Actor) (now : ℕ) (e d : Element) → IsTrue w.tells → Comes A w (Happens (StepEvent actor now)) e →
      Comes A (with_past w past) (Happens (StepEvent actor now)) d → OneStep e d
  step_one actor now (Did r q act) (Did s p other) told h g =
      did_one r s q p act other told (request_one actor r s h.is g.is) h.may.0 g.may.0
      record { may = h.may.1; planned = h.undisturbed; plain = h.plain } record { may = g.may.1; planned = g.undisturbed; plain = g.plain }
  step_one actor now (Did r q act) (Detached s e) told h g = absurd (actor_one actor r s h.is g.is)
  step_one actor now (Detached s e) (Did r q act) told h g = absurd (actor_one actor r s g.is h.is)
  step_one actor now (Detached s e) (Detached t d) told h g =
      let same : t ≡ s = session_one actor s t h.is g.is in
      ([], λ i. Detached (same i) (leaving_one w.session s t e d same h.may.0.0 g.may.0.0 i))
  step_one actor now (NotAttached s e) d told h g = absurd (h.plain tt)
  step_one actor now (Did r q act) (NotAttached s e) told h g = absurd (g.plain tt)
  step_one actor now (Detached s e) (NotAttached t d) told h g = absurd (g.plain tt)
  step_one actor now (Did r q act) d told h g = absurd g.is
  step_one actor now (Detached s e) d told h g = absurd g.is
  step_one actor now e d told h g = absurd h.is

  pub fail_one : (j : ℕ) (fail : Fail) (e d : Element) → Comes A w (Fails j fail) e → Comes A (with_past w past) (Fails j fail) d → OneStep e d
  fail_one j fail (Planned i x) (Planned k y) h g = ([], λ n. Planned ((g.is.0 ∙ sym h.is.0) n) ((g.is.1 ∙ sym h.is.1) n))
  fail_one j fail (Planned i x) d h g = absurd g.is
  fail_one j fail e d h g = absurd h.is

  pub cut_one : (choice : CrashChoice) (left : ℕ → List ℕ) (e d : Element) → Comes A w (Cuts choice left) e → Comes A (with_past w past) (Cuts choice left) d → OneStep e d
  cut_one choice left (Crashed one) (Crashed other) h g = ([], λ n. Crashed (λ b. (g.is b ∙ sym (h.is b)) n))
  cut_one choice left (Crashed one) d h g = absurd g.is
  cut_one choice left e d h g = absurd h.is

  pub export_one : (op : GraphOp) (e d : Element) → Comes A w (Makes op) e → Comes A (with_past w past) (Makes op) d → OneStep e d
  export_one op (Exported one e) (Exported other k) h g =
      let same : other ≡ one = g.is ∙ sym h.is in
      ([], λ n. Exported (same n) (added_one w.graph one e k h.may (subst (λ (o : GraphOp). GraphMay w.graph o (Added k)) same g.may) n))
  export_one op (Exported one e) d h g = absurd g.is
  export_one op e d h g = absurd h.is

  -- the step of an input
  pub input_one : (input : Input) (e d : Element) → IsTrue w.tells → IsGivenAlike e d → Comes A w input e → Comes A (with_past w past) input d → OneStep e d
  input_one (Happens (Attach session name)) e d told given h g = attach_one session name e d h g
  input_one (Happens (Leave session)) e d told given h g = leave_one session e d h g
  input_one (Happens (AskEvent session ask body)) e d told given h g = ask_one session ask body e d given h g
  input_one (Happens (StepEvent actor now)) e d told given h g = step_one actor now e d told h g
  input_one (Fails j fail) e d told given h g = fail_one j fail e d h g
  input_one (Cuts choice left) e d told given h g = cut_one choice left e d h g
  input_one (Makes op) e d told given h g = export_one op e d h g

-- the law
pub one_outcome : (A : ℕ) (w v : World) (input : Input) (e d : Element) → IsTrue w.tells → Alike w v → IsGivenAlike e d →
    Comes A w input e → Comes A v input d → Same A w v e d
one_outcome A w v input e d told alike given h g =
    subst (λ (u : World). Comes A u input d → Same A w u e d) (sym (alike_is w v alike)) settled g
  where
    settled : Comes A (with_past w v.image.past) input d → Same A w (with_past w v.image.past) e d
    settled comes =
        let (kept, is) = input_one A w v.image.past input e d told given h comes in
        subst (λ (x : Element). Same A w (with_past w v.image.past) e x) (sym is) (same_step A w v.image.past e kept)

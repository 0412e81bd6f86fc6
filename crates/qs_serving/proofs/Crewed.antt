-- What the events of a crew leave of its live requests.
use Rattle.std.proofs.Common.{◌≡◌, ℕ, ◌<◌, inl, inr, List, [], ◌∷◌, ◌++◌, map, refl, sym, ap, ◌∙◌, subst}
use Rattle.std.specs.Prelude.{Some, None}
use Rattle.std.specs.Option.{option_map}
use Rattle.qs_bytes.specs.declared.ask.Ask.{Ask}
use Rattle.qs_bytes.specs.declared.ask.Verdict.{Verdict}
use Rattle.qs_part.specs.declared.graph.GraphReply.{GraphReply}
use Rattle.qs_part.specs.declared.graph.GraphReply.TheVariants.{Shutting, Routed}
use Rattle.qs_model.proofs.Basics.{same_or}
use Rattle.qs_model.specs.Requests.{Req, Stage, ToRoute, In, Ready}
use Rattle.qs_request.proofs.Wanted.{may_reply}
use Rattle.qs_request.specs.Table.{after_graph, followed}
use Rattle.qs_request.specs.declared.todo.PartReply.{PartReply}
use Rattle.qs_request.specs.declared.todo.PartReply.TheVariants.{Tracker as ByTracker, Graph as ByGraph, Stripe as ByStripe}
use Rattle.qs_task.proofs.Crewing.{request_here, request_past, with_here, with_past, with_is, without_here, without_past}
use Rattle.qs_task.proofs.Telling.{with_other}
use Rattle.qs_task.specs.Books.{Book, RequestCall}
use Rattle.qs_task.specs.Crews.{AnswersNext, Answered, Called, CallsNext, CrewPolls, CrewRuns, CrewValue, abandoned_task, live_by_number, with_request, without_request}
use Rattle.qs_task.specs.Tasks.{TaskValue}
use Rattle.qs_task.specs.declared.crew.CrewPoll.{CrewPoll}
use Rattle.qs_task.specs.declared.crew.CrewPoll.TheVariants.{NoSuch, Pending as StillPending, Answered as HasAnswered}
use Rattle.qs_serving.proofs.Fitting.{abandon_fits, answer_fits, followed_fits}
use Rattle.qs_serving.specs.Crewed.{HasReply}
use Rattle.qs_serving.specs.Fitting.{AllFit, IsAnswerTo, RequestFits, StageFits}

pub fit_live : (A n : ℕ) (live : List TaskValue) (q : Req) → AllFit A live → live_by_number n live ≡ Some q → RequestFits A q
fit_live A n [] q all is = absurd (nothing is)
  where
    nothing : None ≡ Some q → ⊥
    nothing e = cc
fit_live A n (t ∷ live) q all is = elim (same_or t.number n) [
  | inl e ↦ subst (λ (r : Req). RequestFits A r) (same (sym (request_here n t live e) ∙ is)) all.0.request
  | inr other ↦ fit_live A n live q all.1 (sym (request_past n t live other) ∙ is)
]
  where
    same : Some t.request ≡ Some q → t.request ≡ q
    same e = cc

pub fit_with : (A n : ℕ) (q : Req) (live : List TaskValue) → AllFit A live → RequestFits A q → AllFit A (with_request n q live)
fit_with A n q [] all fits = tt
fit_with A n q (t ∷ live) all fits = elim (same_or t.number n) [
  | inl e ↦ subst (λ (ts : List TaskValue). AllFit A ts) (sym (with_here n q t live e)) (record { request = fits }, all.1)
  | inr other ↦ subst (λ (ts : List TaskValue). AllFit A ts) (sym (with_past n q t live other)) (all.0, fit_with A n q live all.1 fits)
]

pub fit_without : (A n : ℕ) (live : List TaskValue) → AllFit A live → AllFit A (without_request n live)
fit_without A n [] all = tt
fit_without A n (t ∷ live) all = elim (same_or t.number n) [
  | inl e ↦ subst (λ (ts : List TaskValue). AllFit A ts) (sym (without_here n t live e)) all.1
  | inr other ↦ subst (λ (ts : List TaskValue). AllFit A ts) (sym (without_past n t live other)) (all.0, fit_without A n live all.1)
]

pub fit_left : (A : ℕ) (live : List TaskValue) → AllFit A live → AllFit A (map abandoned_task live)
fit_left A [] all = tt
fit_left A (t ∷ live) all = (record { request = abandon_fits A t.request }, fit_left A live all.1)

pub fit_more : (A : ℕ) (live : List TaskValue) (t : TaskValue) → AllFit A live → RequestFits A t.request → AllFit A (live ++ t ∷ [])
fit_more A [] t all fits = (record { request = fits }, tt)
fit_more A (x ∷ live) t all fits = (all.0, fit_more A live t all.1 fits)

-- what is asked for stays
graph_ask : (q : Req) (reply : GraphReply) (stage : Stage) → (after_graph q reply stage).client.ask ≡ q.client.ask
graph_ask q (Routed route) (In k ToRoute) = refl
graph_ask q Shutting (In k ToRoute) = refl
graph_ask q reply stage = refl

ask_kept : (A : ℕ) (q : Req) (reply : PartReply) → (followed A q reply).client.ask ≡ q.client.ask
ask_kept A q (ByTracker reply) = refl
ask_kept A q (ByGraph reply) = graph_ask q reply q.stage
ask_kept A q (ByStripe reply) = refl

-- what calls of live requests keep of a crew
pub record CrewKeeps (old new : CrewValue) : Type 0 where
  pub shape : new.shape ≡ old.shape
  pub newest : new.newest ≡ old.newest
  pub fit : 0 < old.shape.align → AllFit old.shape.align old.live → AllFit old.shape.align new.live
  pub asks : (m : ℕ) → option_map (λ (q : Req). q.client.ask) (live_by_number m new.live)
      ≡ option_map (λ (q : Req). q.client.ask) (live_by_number m old.live)

keeps_none : (crew : CrewValue) → CrewKeeps crew crew
keeps_none crew = record {
  shape = refl;
  newest = refl;
  fit = λ h all. all;
  asks = λ m. refl;
}

keeps_on : (a b c : CrewValue) → CrewKeeps a b → CrewKeeps b c → CrewKeeps a c
keeps_on a b c first second = record {
  shape = second.shape ∙ first.shape;
  newest = second.newest ∙ first.newest;
  fit = λ h all. subst (λ (n : ℕ). AllFit n c.live) (ap (λ s. s.align) first.shape)
      (second.fit (subst (λ (n : ℕ). 0 < n) (sym (ap (λ s. s.align) first.shape)) h)
      (subst (λ (n : ℕ). AllFit n b.live) (sym (ap (λ s. s.align) first.shape)) (first.fit h all)));
  asks = λ m. second.asks m ∙ first.asks m;
}

call_keeps : (crew : CrewValue) (c : RequestCall) (new : CrewValue) → CallsNext crew c new → CrewKeeps crew new
call_keeps crew c new step = subst (λ (w : CrewValue). CrewKeeps crew w) (sym step.live) (record {
  shape = refl;
  newest = refl;
  fit = λ h all. fit_with crew.shape.align c.request next crew.live all
      (followed_fits crew.shape step.request c.reply h (may_reply crew.shape crew.shape.align step.request c.op c.reply step.next.wants step.next.may)
      (fit_live crew.shape.align c.request crew.live step.request all step.is_live));
  asks = λ m. elim (same_or c.request m) [
    | inl e ↦
        ap (λ (k : ℕ). option_map (λ (q : Req). q.client.ask) (live_by_number k (with_request c.request next crew.live))) (sym e)
        ∙ ap (option_map (λ (q : Req). q.client.ask)) (with_is c.request step.request next crew.live step.is_live)
        ∙ ap Some (ask_kept crew.shape.align step.request c.reply)
        ∙ sym (ap (option_map (λ (q : Req). q.client.ask)) step.is_live)
        ∙ ap (λ (k : ℕ). option_map (λ (q : Req). q.client.ask) (live_by_number k crew.live)) e
    | inr other ↦ ap (option_map (λ (q : Req). q.client.ask)) (with_other m c.request next crew.live other)
  ];
})
  where
    next : Req
    next = followed crew.shape.align step.request c.reply

pub calls_keep : (crew : CrewValue) (calls : List RequestCall) (new : CrewValue) →
    CrewRuns crew (map Called calls) new → CrewKeeps crew new
calls_keep crew [] new runs = subst (λ (w : CrewValue). CrewKeeps crew w) (sym runs) (keeps_none crew)
calls_keep crew (c ∷ calls) new runs = keeps_on crew runs.0 new (call_keeps crew c runs.0 runs.1) (calls_keep runs.0 calls new runs.2)

-- an answer behind the calls
pub record SplitAnswer (old : CrewValue) (calls : List RequestCall) (n : ℕ) (v : Verdict) (new : CrewValue) : Type 0 where
  pub mid : CrewValue
  pub calls_run : CrewRuns old (map Called calls) mid
  pub answers : AnswersNext mid n v new

pub split_answer : (old : CrewValue) (calls : List RequestCall) (n : ℕ) (v : Verdict) (new : CrewValue) →
    CrewRuns old (map Called calls ++ Answered n v ∷ []) new → SplitAnswer old calls n v new
split_answer old [] n v new runs =
    record { mid = old; calls_run = refl; answers = subst (λ (w : CrewValue). AnswersNext old n v w) (sym runs.2) runs.1 }
split_answer old (c ∷ calls) n v new runs =
    let rest = split_answer runs.0 calls n v new runs.2 in
    record { mid = rest.mid; calls_run = (runs.0, runs.1, rest.calls_run); answers = rest.answers }

pub asked_there : (crew mid : CrewValue) (n : ℕ) (ask : Ask) → CrewKeeps crew mid →
    option_map (λ (q : Req). q.client.ask) (live_by_number n crew.live) ≡ Some ask →
    option_map (λ (q : Req). q.client.ask) (live_by_number n mid.live) ≡ Some ask
asked_there crew mid n ask keeps asked = keeps.asks n ∙ asked

answered_ask : (crew : CrewValue) (n : ℕ) (v : Verdict) (new : CrewValue) (ask : Ask) (step : AnswersNext crew n v new) →
    option_map (λ (q : Req). q.client.ask) (live_by_number n crew.live) ≡ Some ask → step.request.client.ask ≡ ask
answered_ask crew n v new ask step asked =
    same (sym (ap (option_map (λ (q : Req). q.client.ask)) step.is_live) ∙ asked)
  where
    same : Some step.request.client.ask ≡ Some ask → step.request.client.ask ≡ ask
    same e = cc

ready_fits : (A : ℕ) (q : Req) (stage : Stage) (v : Verdict) → stage ≡ Ready v → StageFits A q.client q.dropped stage → IsAnswerTo q.client.ask v
ready_fits A q stage v is fits = answer_fits A q.client q.dropped v (subst (λ (s : Stage). StageFits A q.client q.dropped s) is fits)

-- what a poll leaves: each request's answer has a reply still
pub record PollKeeps (result : CrewPoll) (old new : CrewValue) : Type 0 where
  pub shape : new.shape ≡ old.shape
  pub newest : new.newest ≡ old.newest
  pub fit : AllFit old.shape.align new.live
  pub reply : HasReply result

pub poll_keeps : (result : CrewPoll) (n : ℕ) (old new : CrewValue) (before after : Book) → 0 < old.shape.align → AllFit old.shape.align old.live →
    CrewPolls result n old new before after → PollKeeps result old new
poll_keeps NoSuch n old new before after h all polls =
    subst (λ (w : CrewValue). PollKeeps NoSuch old w) (sym polls.1)
    (record { shape = refl; newest = refl; fit = all; reply = tt })
poll_keeps (StillPending need) n old new before after h all polls =
    let keeps = calls_keep old polls.calls new polls.runs in
    record { shape = keeps.shape; newest = keeps.newest; fit = keeps.fit h all; reply = tt }
poll_keeps (HasAnswered ask v) n old new before after h all polls =
    let split = split_answer old polls.calls n v new polls.runs in
    let keeps = calls_keep old polls.calls split.mid split.calls_run in
    let step = split.answers in
    let asked : step.request.client.ask ≡ ask = answered_ask split.mid n v new ask step (asked_there old split.mid n ask keeps polls.asked) in
    let fits = fit_live old.shape.align n split.mid.live step.request (keeps.fit h all) step.is_live in
    record {
      shape = ap (λ (w : CrewValue). w.shape) step.live ∙ keeps.shape;
      newest = ap (λ (w : CrewValue). w.newest) step.live ∙ keeps.newest;
      fit = subst (λ (w : CrewValue). AllFit old.shape.align w.live) (sym step.live) (fit_without old.shape.align n split.mid.live (keeps.fit h all));
      reply = subst (λ (a : Ask). IsAnswerTo a v) asked (ready_fits old.shape.align step.request step.request.stage v step.ready fits);
    }

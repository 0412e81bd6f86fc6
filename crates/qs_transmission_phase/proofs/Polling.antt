-- What polls of live requests do.
use Rattle.std.proofs.Common.{◌≡◌, ◌≢◌, ℕ, ◌<◌, ◌≤◌, ◌⊎◌, inl, inr, Bool, true, false, true≢false, List, [], ◌∷◌, ◌++◌, map, refl, sym, ap, ◌∙◌, subst, arith, cond, append-nil, eq-eqb, ne_eqb}
use Rattle.std.specs.Prelude.{Option, Some, None, IsSome, is_some, ◌==◌, if◌then◌else◌, nat_le}
use Rattle.std.proofs.lemmas.Bool.Decides.{nat_tests}
use Rattle.std.specs.Option.{option_map}
use Rattle.qs_bytes.specs.declared.ask.Ask.{Ask}
use Rattle.qs_bytes.specs.declared.ask.Verdict.{Verdict}
use Rattle.qs_model.proofs.Basics.{same_or}
use Rattle.qs_model.specs.Requests.{Req, abandon}
use Rattle.qs_status.specs.declared.status.SessionEnd.{SessionEnd}
use Rattle.qs_stream.proofs.Bytes.{gives_behind, takes_none}
use Rattle.qs_task.proofs.Crewing.{request_here, request_past, without_here, without_past}
use Rattle.qs_task.proofs.Telling.{without_other}
use Rattle.qs_task.specs.Books.{Book, RequestCall, noted}
use Rattle.qs_task.specs.Crews.{AnswersNext, Called, CrewRuns, CrewValue, PollAnswers, PollWaits, AreCallsOf, NextAbove, abandoned_task, live_by_number, without_request}
use Rattle.qs_task.specs.Tasks.{TaskValue}
use Rattle.qs_task.specs.Walks.{StopsFor, wait_after}
use Rattle.qs_task.specs.declared.need.Need.{Need}
use Rattle.qs_wire_stream.specs.Currents.{Advanced, Current, current}
use Rattle.qs_wire_stream.specs.Pending.{WireBuffers}
use Rattle.qs_serving.proofs.Crewed.{CrewKeeps, SplitAnswer, asked_there, calls_keep, split_answer}
use Rattle.qs_serving.proofs.Running.{advanced_as, serves_none, serves_on, stopped_append}
use Rattle.qs_serving.specs.Answers.{answer_bytes, end_after, end_for_memory, is_fault}
use Rattle.qs_serving.specs.Events.{ServingEvent, AnswerGiven, AnswerLost, CallMade, given_out, has_break, has_stop, noted_all, taken_in}
use Rattle.qs_serving.specs.Scenes.{ServesOn, ServingScene}
use Rattle.qs_serving.specs.Steps.{ServingRuns, ServingValue, closed_as, left_if}
use Rattle.qs_serving.specs.Turns.{stopped_at}
use Rattle.qs_transmission_phase.proofs.Hearing.{scene_of}
use Rattle.qs_transmission_phase.specs.Inside.{PhaseValue}
use Rattle.qs_transmission_phase.specs.Serves.{PollsEach, PollsNumber, PollsUpTo, RepliesOr, WaitsSome, WaitsUpTo, phase_scene}

-- ---- calls
calls_run : (v : ServingValue) (calls : List RequestCall) (crew : CrewValue) → CrewRuns v.crew (map Called calls) crew →
    ServingRuns v (map CallMade calls) (record v { crew = crew })
calls_run v [] crew runs = ap (λ (w : CrewValue). record v { crew = w }) runs
calls_run v (c ∷ calls) crew runs =
    (record v { crew = runs.0 }, record { step = runs.1; is = refl }, calls_run (record v { crew = runs.0 }) calls crew runs.2)

calls_taken : (calls : List RequestCall) → taken_in (map CallMade calls) ≡ []
calls_taken [] = refl
calls_taken (c ∷ calls) = calls_taken calls

calls_given : (calls : List RequestCall) → given_out (map CallMade calls) ≡ []
calls_given [] = refl
calls_given (c ∷ calls) = calls_given calls

calls_stop : (calls : List RequestCall) → has_stop (map CallMade calls) ≡ false
calls_stop [] = refl
calls_stop (c ∷ calls) = calls_stop calls

calls_break : (calls : List RequestCall) → has_break (map CallMade calls) ≡ false
calls_break [] = refl
calls_break (c ∷ calls) = calls_break calls

calls_noted : (calls : List RequestCall) (book : Book) → noted_all (map CallMade calls) book ≡ noted calls book
calls_noted [] book = refl
calls_noted (c ∷ calls) book = calls_noted calls _

pub calls_serve : (v : ServingValue) (a : Current) (before after : Book) (calls : List RequestCall) (crew : CrewValue) →
    CrewRuns v.crew (map Called calls) crew → after ≡ noted calls before →
    ServesOn (map CallMade calls) (scene_of v a before) (scene_of (record v { crew = crew }) a after)
calls_serve v a before after calls crew runs booked = record {
  runs = calls_run v calls crew runs;
  advanced = advanced_as [] (taken_in (map CallMade calls)) [] (given_out (map CallMade calls)) a a (sym (calls_taken calls)) (sym (calls_given calls))
      (serves_none (scene_of v a before)).advanced;
  at_end = λ stop. absurd (true≢false (sym stop ∙ calls_stop calls));
  cause = λ broke. absurd (true≢false (sym broke ∙ calls_break calls));
  booked = booked ∙ sym (calls_noted calls before);
}

-- ---- what calls of request n are answered by
stopped_other : (m n : ℕ) (calls : List RequestCall) (w : Option Need) → m ≢ n → AreCallsOf n calls → stopped_at m w (map CallMade calls) ≡ w
stopped_other m n [] w other are = refl
stopped_other m n (c ∷ calls) w other are =
    stopped_other m n calls (if c.request == m then wait_after c else w) other are.1
    ∙ ap (λ (b : Bool). cond b (wait_after c) w) (ne_eqb c.request m (λ e. other (sym e ∙ are.0)))

calls_split : (n : ℕ) (before : List RequestCall) (stop : RequestCall) → AreCallsOf n (before ++ stop ∷ []) → stop.request ≡ n
calls_split n [] stop are = are.0
calls_split n (c ∷ before) stop are = calls_split n before stop are.1

map_append : (xs ys : List RequestCall) → map CallMade (xs ++ ys) ≡ map CallMade xs ++ map CallMade ys
map_append [] ys = refl
map_append (x ∷ xs) ys = ap (λ (es : List ServingEvent). CallMade x ∷ es) (map_append xs ys)

stopped_here : (n : ℕ) (need : Need) (calls : List RequestCall) (w : Option Need) → StopsFor need calls → AreCallsOf n calls →
    stopped_at n w (map CallMade calls) ≡ Some need
stopped_here n need calls w stops are =
    let number : stops.stop.request ≡ n = calls_split n stops.before stops.stop (subst (λ (cs : List RequestCall). AreCallsOf n cs) stops.all are) in
    ap (λ (cs : List RequestCall). stopped_at n w (map CallMade cs)) stops.all
    ∙ ap (λ (es : List ServingEvent). stopped_at n w es) (map_append stops.before (stops.stop ∷ []))
    ∙ stopped_append n (map CallMade stops.before) (CallMade stops.stop ∷ []) w
    ∙ ap (λ (b : Bool). cond b (wait_after stops.stop) (stopped_at n w (map CallMade stops.before))) (eq-eqb stops.stop.request n number)
    ∙ stops.waits

-- ---- who is live
live_same : (old new : CrewValue) → CrewKeeps old new → (m : ℕ) → is_some (live_by_number m new.live) ≡ is_some (live_by_number m old.live)
live_same old new keeps m =
    sym (mapped (live_by_number m new.live)) ∙ ap is_some (keeps.asks m) ∙ mapped (live_by_number m old.live)
  where
    mapped : (o : Option Req) → is_some (option_map (λ (q : Req). q.client.ask) o) ≡ is_some o
    mapped None = refl
    mapped (Some q) = refl

pub live_left : (m : ℕ) (live : List TaskValue) → is_some (live_by_number m (map abandoned_task live)) ≡ is_some (live_by_number m live)
live_left m [] = refl
live_left m (t ∷ live) = go (t.number == m) (live_left m live)
  where
    go : (b : Bool) → is_some (live_by_number m (map abandoned_task live)) ≡ is_some (live_by_number m live) →
        is_some (cond b (Some (abandon t.request)) (live_by_number m (map abandoned_task live))) ≡ is_some (cond b (Some t.request) (live_by_number m live))
    go true rest = refl
    go false rest = rest

live_if : (b : Bool) (crew : CrewValue) (m : ℕ) → is_some (live_by_number m (left_if b crew).live) ≡ is_some (live_by_number m crew.live)
live_if true crew m = live_left m crew.live
live_if false crew m = refl

live_more : (m : ℕ) (t : TaskValue) (live : List TaskValue) → IsSome (live_by_number m live) → IsSome (live_by_number m (t ∷ live))
live_more m t live some = elim (same_or t.number m) [
  | inl e ↦ ap is_some (request_here m t live e)
  | inr other ↦ ap is_some (request_past m t live other) ∙ some
]

without_still : (m n : ℕ) (live : List TaskValue) → IsSome (live_by_number m (without_request n live)) → IsSome (live_by_number m live)
without_still m n [] some = some
without_still m n (t ∷ live) some = elim (same_or t.number n) [
  | inl e ↦ live_more m t live (sym (ap (λ (ts : List TaskValue). is_some (live_by_number m ts)) (without_here n t live e)) ∙ some)
  | inr other ↦ elim (same_or t.number m) [
    | inl e ↦ ap is_some (request_here m t live e)
    | inr past ↦ live_more m t live (without_still m n live
        (sym (ap is_some (request_past m t (without_request n live) past))
        ∙ sym (ap (λ (ts : List TaskValue). is_some (live_by_number m ts)) (without_past n t live other)) ∙ some))
  ]
]

-- ---- a poll that ends in a wait
pub poll_waits : (v : ServingValue) (a : Current) (before after : Book) (n : ℕ) (need : Need) (crew : CrewValue) →
    IsSome (live_by_number n v.crew.live) → PollWaits n need v.crew crew before after →
    PollsNumber n (Some need) (scene_of v a before) (scene_of (record v { crew = crew }) a after)
poll_waits v a before after n need crew live polls =
    let keeps = calls_keep v.crew polls.calls crew polls.runs in
    record {
      events = map CallMade polls.calls;
      serves = calls_serve v a before after polls.calls crew polls.runs polls.booked;
      stopped = (live_same v.crew crew keeps n ∙ live, λ w. stopped_here n need polls.calls w polls.stops polls.numbered);
      others = λ m other w. stopped_other m n polls.calls w other polls.numbered;
      still = λ m some. sym (live_same v.crew crew keeps m) ∙ some;
      stays = λ m other some. live_same v.crew crew keeps m ∙ some;
    }

-- ---- a poll that ends in an answer
put_advanced : (a : Current) (reply : List ℕ) → Advanced [] (reply ++ []) a (record a { held = a.held ++ reply })
put_advanced a reply =
    let b : Current = record a { held = a.held ++ reply } in
    let goes : Advanced [] reply a b = record {
      takes = takes_none a.left a.waiting;
      gives = gives_behind a.sent a.held reply (a.held ++ reply) refl;
      reads = omega arith;
      writes = omega arith;
      waits = omega arith;
    } in
    advanced_as [] [] reply (reply ++ []) a b refl (sym (append-nil reply)) goes

given_serves : (v : ServingValue) (a : Current) (book : Book) (n : ℕ) (ask : Ask) (verdict : Verdict) (crew : CrewValue) →
    option_map (λ (q : Req). q.client.ask) (live_by_number n v.crew.live) ≡ Some ask → AnswersNext v.crew n verdict crew →
    let reply = answer_bytes v.reader.structured ask verdict in
    ServesOn (AnswerGiven n ask verdict reply ∷ []) (scene_of v a book)
    (scene_of (record v { crew = crew; ended = end_after verdict v.ended }) (record a { held = a.held ++ reply }) book)
given_serves v a book n ask verdict crew asked step = record {
  runs = (record v { crew = crew; ended = end_after verdict v.ended }, record { asked = asked; step = step; reply_is = refl; is = refl }, refl);
  advanced = put_advanced a (answer_bytes v.reader.structured ask verdict);
  at_end = λ stop. absurd (true≢false (sym stop));
  cause = λ broke. absurd (true≢false (sym broke));
  booked = refl;
}

lost_serves : (v : ServingValue) (a : Current) (book : Book) (n : ℕ) (ask : Ask) (verdict : Verdict) (crew : CrewValue) →
    option_map (λ (q : Req). q.client.ask) (live_by_number n v.crew.live) ≡ Some ask → AnswersNext v.crew n verdict crew →
    ServesOn (AnswerLost n ask verdict ∷ []) (scene_of v a book)
    (scene_of (closed_as (end_for_memory v.ended) (record v { crew = crew })) a book)
lost_serves v a book n ask verdict crew asked step = record {
  runs = (closed_as (end_for_memory v.ended) (record v { crew = crew }), record { asked = asked; crew = crew; step = step; is = refl }, refl);
  advanced = (serves_none (scene_of v a book)).advanced;
  at_end = λ stop. absurd (true≢false (sym stop));
  cause = λ broke. absurd (true≢false (sym broke));
  booked = refl;
}

-- the answer of request n behind its calls, whatever event told it
answered : (v new : ServingValue) (a c : Current) (before after : Book) (n : ℕ) (ask : Ask) (verdict : Verdict) (crew : CrewValue) (e : ServingEvent)
    (polls : PollAnswers n ask verdict v.crew crew before after) →
    ((split : SplitAnswer v.crew polls.calls n verdict crew) →
    ServesOn (e ∷ []) (scene_of (record v { crew = split.mid }) a after) (scene_of new c after)) →
    ((m : ℕ) (w : Option Need) → stopped_at m w (e ∷ []) ≡ w) →
    ((m : ℕ) → is_some (live_by_number m new.crew.live) ≡ is_some (live_by_number m crew.live)) →
    PollsNumber n None (scene_of v a before) (scene_of new c after)
answered v new a c before after n ask verdict crew e polls tells quiet live =
    let split = split_answer v.crew polls.calls n verdict crew polls.runs in
    let keeps = calls_keep v.crew polls.calls split.mid split.calls_run in
    let gone : (m : ℕ) → is_some (live_by_number m crew.live) ≡ is_some (live_by_number m (without_request n split.mid.live)) =
    λ m. ap (λ (w : CrewValue). is_some (live_by_number m w.live)) split.answers.live in
    record {
      events = map CallMade polls.calls ++ e ∷ [];
      serves = serves_on (scene_of v a before) (scene_of (record v { crew = split.mid }) a after) (scene_of new c after) (map CallMade polls.calls) (e ∷ [])
          (calls_serve v a before after polls.calls split.mid split.calls_run polls.booked) (tells split);
      stopped = tt;
      others = λ m other w. stopped_append m (map CallMade polls.calls) (e ∷ []) w ∙ quiet m _ ∙ stopped_other m n polls.calls w other polls.numbered;
      still = λ m some. sym (live_same v.crew split.mid keeps m)
          ∙ without_still m n split.mid.live (sym (gone m) ∙ sym (live m) ∙ some);
      stays = λ m other some. live m ∙ gone m
          ∙ ap is_some (without_other m n split.mid.live (λ x. other (sym x)))
          ∙ live_same v.crew split.mid keeps m ∙ some;
    }

pub poll_answers : {W : Type 0} (left sent : W → Option (List ℕ)) (read_faults write_faults waits : W → ℕ) (v : ServingValue)
    (stream stream' : WireBuffers W) (before after : Book) (n : ℕ) (ask : Ask) (verdict : Verdict) (crew crew' : CrewValue) (ended : Option SessionEnd) →
    PollAnswers n ask verdict v.crew crew before after → RepliesOr v.reader.structured ask verdict stream crew v.ended stream' crew' ended →
    PollsNumber n None (scene_of v (current left sent read_faults write_faults waits stream) before)
    (scene_of (record v { crew = crew'; ended = ended }) (current left sent read_faults write_faults waits stream') after)
poll_answers {W} left sent read_faults write_faults waits v stream stream' before after n ask verdict crew crew' ended polls replies =
    let a : Current = current left sent read_faults write_faults waits stream in
    let there = λ (split : SplitAnswer v.crew polls.calls n verdict crew).
    asked_there v.crew split.mid n ask (calls_keep v.crew polls.calls split.mid split.calls_run) polls.asked in
    elim replies [
      | inl given ↦
          let reply : List ℕ = answer_bytes v.reader.structured ask verdict in
          let new : ServingValue = record v { crew = crew; ended = end_after verdict v.ended } in
          let c : Current = record a { held = a.held ++ reply } in
          let value_is : record v { crew = crew'; ended = ended } ≡ new =
          ap (λ (w : CrewValue). record v { crew = w; ended = ended }) given.1 ∙ ap (λ (o : Option SessionEnd). record v { crew = crew; ended = o }) given.2 in
          let current_is : current left sent read_faults write_faults waits stream' ≡ c =
          ap (λ (s : WireBuffers W). current left sent read_faults write_faults waits s) given.0 in
          subst (λ (x : ServingValue). PollsNumber n None (scene_of v a before) (scene_of x (current left sent read_faults write_faults waits stream') after)) (sym value_is)
          (subst (λ (x : Current). PollsNumber n None (scene_of v a before) (scene_of new x after)) (sym current_is)
          (answered v new a c before after n ask verdict crew (AnswerGiven n ask verdict reply) polls
          (λ split. given_serves (record v { crew = split.mid }) a after n ask verdict crew (there split) split.answers)
          (λ m w. refl) (λ m. refl)))
      | inr lost ↦
          let end : SessionEnd = end_for_memory v.ended in
          let new : ServingValue = record v { crew = left_if (is_fault end) crew; ended = Some end } in
          let value_is : record v { crew = crew'; ended = ended } ≡ new =
          ap (λ (w : CrewValue). record v { crew = w; ended = ended }) lost.1 ∙ ap (λ (o : Option SessionEnd). record v { crew = left_if (is_fault end) crew; ended = o }) lost.2 in
          let current_is : current left sent read_faults write_faults waits stream' ≡ a =
          ap (λ (s : WireBuffers W). current left sent read_faults write_faults waits s) lost.0 in
          subst (λ (x : ServingValue). PollsNumber n None (scene_of v a before) (scene_of x (current left sent read_faults write_faults waits stream') after)) (sym value_is)
          (subst (λ (x : Current). PollsNumber n None (scene_of v a before) (scene_of new x after)) (sym current_is)
          (answered v new a a before after n ask verdict crew (AnswerLost n ask verdict) polls
          (λ split. lost_serves (record v { crew = split.mid }) a after n ask verdict crew (there split) split.answers)
          (λ m w. refl) (λ m. live_if (is_fault end) crew m)))
    ]

-- ---- by the fields of the phase
pub number_from : {W : Type 0} (left sent : W → Option (List ℕ)) (read_faults write_faults waits : W → ℕ) (book : Book) (n : ℕ) (wait : Option Need)
    (p q : PhaseValue W) (new : ServingScene) → p ≡ q → PollsNumber n wait (phase_scene left sent read_faults write_faults waits book p) new →
    PollsNumber n wait (phase_scene left sent read_faults write_faults waits book q) new
number_from {W} left sent read_faults write_faults waits book n wait p q new is polls =
    subst (λ (r : PhaseValue W). PollsNumber n wait (phase_scene left sent read_faults write_faults waits book r) new) is polls

pub live_from : {W : Type 0} (p q : PhaseValue W) (n : ℕ) → p ≡ q → IsSome (live_by_number n q.value.crew.live) →
    IsSome (live_by_number n p.value.crew.live)
live_from {W} p q n is live = subst (λ (r : PhaseValue W). IsSome (live_by_number n r.value.crew.live)) (sym is) live

pub replies_as : {W : Type 0} (s t : Bool) (ask : Ask) (verdict : Verdict) (stream : WireBuffers W) (crew : CrewValue) (ended : Option SessionEnd)
    (stream' : WireBuffers W) (crew' crew'' : CrewValue) (ended' : Option SessionEnd) → s ≡ t → crew'' ≡ crew' →
    RepliesOr s ask verdict stream crew ended stream' crew' ended' → RepliesOr t ask verdict stream crew ended stream' crew'' ended'
replies_as s t ask verdict stream crew ended stream' crew' crew'' ended' mode kept replies =
    subst (λ (x : CrewValue). RepliesOr t ask verdict stream crew ended stream' x ended') (sym kept)
    (subst (λ (x : Bool). RepliesOr x ask verdict stream crew ended stream' crew' ended') mode replies)

-- ---- polls one after the other
pub up_to_none : (a : ServingScene) → PollsUpTo 0 None a a
up_to_none a = record {
  events = [];
  serves = serves_none a;
  stopped = λ m low high some. absurd (omega arith);
  waits = tt;
}

-- what is stopped stays so, whatever was known before
pub stopped_any : (m : ℕ) (es : List ServingEvent) (w : Option Need) (need : Need) → stopped_at m None es ≡ Some need → stopped_at m w es ≡ Some need
stopped_any m [] w need is = let never : None ≡ Some need = is in (cc)
stopped_any m (CallMade c ∷ es) w need is = go (c.request == m) (stopped_any m es w need) is
  where
    go : (b : Bool) → (stopped_at m None es ≡ Some need → stopped_at m w es ≡ Some need) →
        stopped_at m (cond b (wait_after c) None) es ≡ Some need → stopped_at m (cond b (wait_after c) w) es ≡ Some need
    go true rest is = is
    go false rest is = rest is
stopped_any m (e ∷ es) w need is = stopped_any m es w need is

pub still_stopped : (m : ℕ) (es : List ServingEvent) (w : Option Need) → IsSome (stopped_at m None es) → IsSome (stopped_at m w es)
still_stopped m es w some = go (stopped_at m None es) refl some
  where
    go : (o : Option Need) → stopped_at m None es ≡ o → IsSome o → IsSome (stopped_at m w es)
    go None is some = absurd (true≢false (sym some))
    go (Some need) is some = ap is_some (stopped_any m es w need is)

some_not_none : (o : Option Req) → o ≡ None → IsSome o → ⊥
some_not_none o is some = true≢false (sym some ∙ ap is_some is)

le_or : (m k : ℕ) → (m ≤ k) ⊎ (k < m)
le_or m k = go (nat_le m k) refl
  where
    go : (t : Bool) → nat_le m k ≡ t → (m ≤ k) ⊎ (k < m)
    go true is = inl (grind (arith, nat_tests, is))
    go false is = inr (grind (arith, nat_tests, is))

module _ (a b c : ServingScene) (last n : ℕ) (wait : Option Need) (first : PollsUpTo last wait a b) (above : last < n) where
  then_other : (m : ℕ) (new : Option Need) (second : PollsNumber n new b c) → m ≢ n →
      stopped_at m None (first.events ++ second.events) ≡ stopped_at m None first.events
  then_other m new second other = stopped_append m first.events second.events None ∙ second.others m other _

  pub up_to_wait : (need : Need) → ((m : ℕ) → last < m → m < n → live_by_number m b.value.crew.live ≡ None) → PollsNumber n (Some need) b c →
      PollsUpTo n (Some need) a c
  up_to_wait need between second = record {
    events = first.events ++ second.events;
    serves = serves_on a b c first.events second.events first.serves second.serves;
    stopped = λ m low high some. elim (same_or m n) [
      | inl e ↦ ap (λ (k : ℕ). is_some (stopped_at k None (first.events ++ second.events))) e
          ∙ ap is_some (stopped_append n first.events second.events None ∙ second.stopped.1 _)
      | inr other ↦ elim (le_or m last) [
        | inl le ↦ ap is_some (then_other m (Some need) second other) ∙ first.stopped m low le (second.still m some)
        | inr gt ↦ absurd (some_not_none (live_by_number m b.value.crew.live) (between m gt (omega (arith, high, other))) (second.still m some))
      ]
    ];
    waits = (n, omega arith, second.stopped.0, stopped_append n first.events second.events None ∙ second.stopped.1 _);
  }

  pub up_to_answer : PollsNumber n None b c → PollsUpTo last wait a c
  up_to_answer second = record {
    events = first.events ++ second.events;
    serves = serves_on a b c first.events second.events first.serves second.serves;
    stopped = λ m low high some.
        let other : m ≢ n = omega arith in
        ap is_some (then_other m None second other) ∙ first.stopped m low high (second.still m some);
    waits = waits_on wait first.waits second;
  }
    where
      waits_on : (wait : Option Need) → WaitsUpTo last wait first.events b → (second : PollsNumber n None b c) →
          WaitsUpTo last wait (first.events ++ second.events) c
      waits_on None waits second = tt
      waits_on (Some need) waits second =
          let le : waits.0 ≤ last = waits.1 in
          let other : waits.0 ≢ n = omega arith in
          (waits.0, le, second.stays waits.0 other waits.2, then_other waits.0 None second other ∙ waits.3)

pub up_to_all : (a b : ServingScene) (last : ℕ) (wait : Option Need) → PollsUpTo last wait a b →
    ((m : ℕ) → last < m → live_by_number m b.value.crew.live ≡ None) → PollsEach wait a b
up_to_all a b last wait so none = record {
  events = so.events;
  serves = so.serves;
  stopped = λ m q low live. elim (le_or m last) [
    | inl le ↦ so.stopped m low le (ap is_some live)
    | inr gt ↦ absurd (some_not_none (live_by_number m b.value.crew.live) (none m gt) (ap is_some live))
  ];
  waits = each wait so.waits;
}
  where
    each : (wait : Option Need) → WaitsUpTo last wait so.events b → WaitsSome wait so.events b
    each None waits = tt
    each (Some need) waits = (waits.0, waits.2, waits.3)

pub above_from : {W : Type 0} (p q : PhaseValue W) (low : ℕ) (o : Option ℕ) → p ≡ q → NextAbove low p.value.crew.live o →
    NextAbove low q.value.crew.live o
above_from {W} p q low o is next = subst (λ (r : PhaseValue W). NextAbove low r.value.crew.live o) is next

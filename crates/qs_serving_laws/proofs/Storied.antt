-- The story of a transmission phase, event by event.
use Rattle.std.proofs.Common.{◌≡◌, ◌≢◌, ℕ, ◌+◌, ◌<◌, ◌≤◌, ◌⊎◌, inl, inr, Bool, true, false, true≢false, List, [], ◌∷◌, ◌++◌, length, map, refl, sym, ap, ◌∙◌, subst, arith, append_assoc, append-nil, cond}
use Rattle.std.specs.Prelude.{Option, Some, None, IsSome}
use Rattle.std.specs.List.{flat_map}
use Rattle.qs_bytes.specs.declared.ask.Ask.{Ask}
use Rattle.qs_bytes.specs.declared.ask.Verdict.{Verdict}
use Rattle.qs_nbd_transmission.proofs.Histories.{reads_sessions}
use Rattle.qs_nbd_transmission.proofs.Reading.{asks_room}
use Rattle.qs_nbd_transmission.specs.Heads.{has_data}
use Rattle.qs_nbd_transmission.specs.Phases.{CanGive, InHead, Wants, Fills, Skips, Over, Stuck, Phase, Reaches, Reader, phase_with_room}
use Rattle.qs_nbd_transmission.specs.declared.event.Room.{Room}
use Rattle.qs_nbd_transmission.specs.declared.event.Room.TheVariants.{Keep, Drop}
use Rattle.qs_nbd_transmission.specs.Sessions.{CallsLead, Gave, ReaderCall, TellsEvents, Took, taken_by, told_by}
use Rattle.qs_nbd_transmission.specs.declared.event.WireEvent.{WireEvent}
use Rattle.qs_nbd_transmission.specs.declared.event.WireEvent.TheVariants.{Head, Body, Disc, Bad}
use Rattle.qs_status.specs.declared.status.SessionEnd.{SessionEnd}
use Rattle.qs_status.specs.declared.status.SessionEnd.TheVariants.{LinkFault, Memory}
use Rattle.qs_model.specs.Requests.{Req}
use Rattle.qs_task.proofs.Telling.{merged}
use Rattle.qs_task.specs.Tasks.{TaskValue}
use Rattle.qs_task.specs.Crews.{CrewEvent, CrewRuns, CrewValue, Left, live_by_number, no_crew}
use Rattle.qs_serving.proofs.Running.{ended_stays, some_none}
use Rattle.qs_serving.specs.Answers.{answer_bytes, end_for_memory, is_fault}
use Rattle.qs_serving.specs.Events.{ServingEvent, AnswerGiven, AnswerLost, BeganTask, CallMade, CalledDetach, GaveRoom, InputStopped, TookBytes, WireBroke, given_out, taken_in}
use Rattle.qs_serving.specs.Steps.{Announced, Entire, MayRead, NoneYet, ServingRuns, ServingStep, ServingValue, Upcoming, closed_as, left_if, next_after, told_value}
use Rattle.qs_serving_laws.specs.Stories.{DetachesLast, IsNumbered, ServingStory, ServingTells, asks_ahead, begun_by, crew_events, has_detach, heads_told, left_events, reader_calls, replies_put}

-- ---- the live requests
crew_append : (a b c : CrewValue) (es fs : List CrewEvent) → CrewRuns a es b → CrewRuns b fs c → CrewRuns a (es ++ fs) c
crew_append a b c [] fs first second = subst (λ (w : CrewValue). CrewRuns w fs c) first second
crew_append a b c (e ∷ es) fs first second = (first.0, first.1, crew_append first.0 b c es fs first.2 second)

left_runs : (b : Bool) (crew : CrewValue) → CrewRuns crew (left_events b) (left_if b crew)
left_runs true crew = (left_if true crew, refl, refl)
left_runs false crew = refl

memory_fault : (o : Option SessionEnd) → is_fault (end_for_memory o) ≡ true
memory_fault None = refl
memory_fault (Some end) = go (is_fault end) refl
  where
    go : (b : Bool) → is_fault end ≡ b → is_fault (cond b end Memory) ≡ true
    go true is = is
    go false is = refl

from_crew : (a b c : CrewValue) (es : List CrewEvent) → b ≡ a → CrewRuns b es c → CrewRuns a es c
from_crew a b c es is runs = subst (λ (w : CrewValue). CrewRuns w es c) is runs

pub crew_goes : (v : ServingValue) (es : List ServingEvent) (new : ServingValue) → ServingRuns v es new → CrewRuns v.crew (crew_events es) new.crew
crew_goes v [] new runs = ap (λ (w : ServingValue). w.crew) runs
crew_goes v (TookBytes bytes None ∷ es) new runs =
    from_crew v.crew runs.0.crew new.crew (crew_events es) (ap (λ (w : ServingValue). w.crew) runs.1.is) (crew_goes runs.0 es new runs.2)
crew_goes v (TookBytes bytes (Some (Head ask)) ∷ es) new runs =
    from_crew v.crew runs.0.crew new.crew (crew_events es) (ap (λ (w : ServingValue). w.crew) runs.1.is) (crew_goes runs.0 es new runs.2)
crew_goes v (TookBytes bytes (Some (Body room)) ∷ es) new runs =
    from_crew v.crew runs.0.crew new.crew (crew_events es) (ap (λ (w : ServingValue). w.crew) runs.1.is) (crew_goes runs.0 es new runs.2)
crew_goes v (TookBytes bytes (Some Disc) ∷ es) new runs =
    from_crew v.crew runs.0.crew new.crew (crew_events es) (ap (λ (w : ServingValue). w.crew) runs.1.is) (crew_goes runs.0 es new runs.2)
crew_goes v (TookBytes bytes (Some (Bad bad)) ∷ es) new runs =
    crew_append v.crew (left_if (is_fault bad) v.crew) new.crew (left_events (is_fault bad)) (crew_events es) (left_runs (is_fault bad) v.crew)
    (from_crew (left_if (is_fault bad) v.crew) runs.0.crew new.crew (crew_events es) (ap (λ (w : ServingValue). w.crew) runs.1.is) (crew_goes runs.0 es new runs.2))
crew_goes v (GaveRoom room ∷ es) new runs =
    from_crew v.crew runs.0.crew new.crew (crew_events es) (ap (λ (w : ServingValue). w.crew) runs.1.is) (crew_goes runs.0 es new runs.2)
crew_goes v (BeganTask t ∷ es) new runs = (runs.0.crew, runs.1.step, crew_goes runs.0 es new runs.2)
crew_goes v (CallMade c ∷ es) new runs = (runs.0.crew, runs.1.step, crew_goes runs.0 es new runs.2)
crew_goes v (AnswerGiven n ask verdict reply ∷ es) new runs = (runs.0.crew, runs.1.step, crew_goes runs.0 es new runs.2)
crew_goes v (AnswerLost n ask verdict ∷ es) new runs =
    let left : runs.0.crew ≡ left_if true runs.1.crew =
    ap (λ (w : ServingValue). w.crew) runs.1.is ∙ ap (λ (b : Bool). left_if b runs.1.crew) (memory_fault v.ended) in
    (runs.1.crew, runs.1.step, (runs.0.crew, left, crew_goes runs.0 es new runs.2))
crew_goes v (InputStopped end ∷ es) new runs =
    crew_append v.crew (left_if (is_fault end) v.crew) new.crew (left_events (is_fault end)) (crew_events es) (left_runs (is_fault end) v.crew)
    (from_crew (left_if (is_fault end) v.crew) runs.0.crew new.crew (crew_events es) (ap (λ (w : ServingValue). w.crew) runs.1.is) (crew_goes runs.0 es new runs.2))
crew_goes v (WireBroke ∷ es) new runs = (runs.0.crew, ap (λ (w : ServingValue). w.crew) runs.1.is, crew_goes runs.0 es new runs.2)
crew_goes v (CalledDetach e reply ∷ es) new runs =
    from_crew v.crew runs.0.crew new.crew (crew_events es) (ap (λ (w : ServingValue). w.crew) runs.1.is) (crew_goes runs.0 es new runs.2)

-- ---- the reader
told_reader : (told : Option WireEvent) (phase : Phase) (v : ServingValue) → (told_value told phase v).reader ≡ record v.reader { phase = phase }
told_reader None phase v = refl
told_reader (Some (Head ask)) phase v = refl
told_reader (Some (Body room)) phase v = refl
told_reader (Some Disc) phase v = refl
told_reader (Some (Bad bad)) phase v = refl

-- the calls lead on, and what was agreed on stays
pub record ReaderGoes (old : Reader) (calls : List ReaderCall) (new : Reader) : Type 0 where
  pub leads : CallsLead old.structured old.phase calls new.phase
  pub same : new.structured ≡ old.structured

reader_from : (a b c : Reader) (calls : List ReaderCall) → b ≡ a → ReaderGoes b calls c → ReaderGoes a calls c
reader_from a b c calls is goes = subst (λ (r : Reader). ReaderGoes r calls c) is goes

reader_more : (a b c : Reader) (call : ReaderCall) (calls : List ReaderCall) → b ≡ record a { phase = b.phase } →
    CallsLead a.structured a.phase (call ∷ []) b.phase → ReaderGoes b calls c → ReaderGoes a (call ∷ calls) c
reader_more a b c call calls is one goes =
    let same : b.structured ≡ a.structured = ap (λ (r : Reader). r.structured) is in
    record {
      leads = (
        one.0,
        (
          one.1.0,
          subst (λ (p : Phase). CallsLead a.structured p calls c.phase) one.1.1
              (subst (λ (s : Bool). CallsLead s b.phase calls c.phase) same goes.leads),
        ),
      );
      same = goes.same ∙ same;
    }

pub reader_goes : (v : ServingValue) (es : List ServingEvent) (new : ServingValue) → ServingRuns v es new → ReaderGoes v.reader (reader_calls es) new.reader
reader_goes v [] new runs = record { leads = ap (λ (w : ServingValue). w.reader.phase) runs; same = ap (λ (w : ServingValue). w.reader.structured) runs }
reader_goes v (TookBytes bytes told ∷ es) new runs =
    let is : runs.0.reader ≡ record v.reader { phase = runs.0.reader.phase } =
    ap (λ (w : ServingValue). w.reader) runs.1.is ∙ told_reader told runs.0.reader.phase v in
    reader_more v.reader runs.0.reader new.reader (Took bytes told) (reader_calls es) is (runs.0.reader.phase, (runs.1.reaches, refl)) (reader_goes runs.0 es new runs.2)
reader_goes v (GaveRoom room ∷ es) new runs =
    let is : runs.0.reader ≡ record v.reader { phase = runs.0.reader.phase } =
    ap (λ (w : ServingValue). w.reader) runs.1.is ∙ ap (λ (p : Phase). record v.reader { phase = p }) (sym (ap (λ (w : ServingValue). w.reader.phase) runs.1.is)) in
    reader_more v.reader runs.0.reader new.reader (Gave room) (reader_calls es) is
    (runs.0.reader.phase, ((runs.1.can, ap (λ (w : ServingValue). w.reader.phase) runs.1.is), refl)) (reader_goes runs.0 es new runs.2)
reader_goes v (BeganTask t ∷ es) new runs =
    reader_from v.reader runs.0.reader new.reader (reader_calls es) (ap (λ (w : ServingValue). w.reader) runs.1.is) (reader_goes runs.0 es new runs.2)
reader_goes v (CallMade c ∷ es) new runs =
    reader_from v.reader runs.0.reader new.reader (reader_calls es) (ap (λ (w : ServingValue). w.reader) runs.1.is) (reader_goes runs.0 es new runs.2)
reader_goes v (AnswerGiven n ask verdict reply ∷ es) new runs =
    reader_from v.reader runs.0.reader new.reader (reader_calls es) (ap (λ (w : ServingValue). w.reader) runs.1.is) (reader_goes runs.0 es new runs.2)
reader_goes v (AnswerLost n ask verdict ∷ es) new runs =
    reader_from v.reader runs.0.reader new.reader (reader_calls es) (ap (λ (w : ServingValue). w.reader) runs.1.is) (reader_goes runs.0 es new runs.2)
reader_goes v (InputStopped end ∷ es) new runs =
    reader_from v.reader runs.0.reader new.reader (reader_calls es) (ap (λ (w : ServingValue). w.reader) runs.1.is) (reader_goes runs.0 es new runs.2)
reader_goes v (WireBroke ∷ es) new runs =
    reader_from v.reader runs.0.reader new.reader (reader_calls es) (ap (λ (w : ServingValue). w.reader) runs.1.is) (reader_goes runs.0 es new runs.2)
reader_goes v (CalledDetach e reply ∷ es) new runs =
    reader_from v.reader runs.0.reader new.reader (reader_calls es) (ap (λ (w : ServingValue). w.reader) runs.1.is) (reader_goes runs.0 es new runs.2)

pub taken_calls : (es : List ServingEvent) → flat_map taken_by (reader_calls es) ≡ taken_in es
taken_calls [] = refl
taken_calls (TookBytes bytes told ∷ es) = ap (λ (xs : List ℕ). bytes ++ xs) (taken_calls es)
taken_calls (GaveRoom room ∷ es) = taken_calls es
taken_calls (e ∷ es) = taken_calls es

-- ---- the replies
structured_kept : (v : ServingValue) (e : ServingEvent) (new : ServingValue) → ServingStep v e new → new.reader.structured ≡ v.reader.structured
structured_kept v (TookBytes bytes told) new step = ap (λ (w : ServingValue). w.reader.structured) step.is ∙ ap (λ (r : Reader). r.structured) (told_reader told new.reader.phase v)
structured_kept v (GaveRoom room) new step = ap (λ (w : ServingValue). w.reader.structured) step.is
structured_kept v (BeganTask t) new step = ap (λ (w : ServingValue). w.reader.structured) step.is
structured_kept v (CallMade c) new step = ap (λ (w : ServingValue). w.reader.structured) step.is
structured_kept v (AnswerGiven n ask verdict reply) new step = ap (λ (w : ServingValue). w.reader.structured) step.is
structured_kept v (AnswerLost n ask verdict) new step = ap (λ (w : ServingValue). w.reader.structured) step.is
structured_kept v (InputStopped end) new step = ap (λ (w : ServingValue). w.reader.structured) step.is
structured_kept v WireBroke new step = ap (λ (w : ServingValue). w.reader.structured) step.is
structured_kept v (CalledDetach e reply) new step = ap (λ (w : ServingValue). w.reader.structured) step.is

pub replies_are : (structured : Bool) (v : ServingValue) (es : List ServingEvent) (new : ServingValue) → v.reader.structured ≡ structured →
    ServingRuns v es new → given_out es ≡ replies_put structured es
replies_are structured v [] new mode runs = refl
replies_are structured v (AnswerGiven n ask verdict reply ∷ es) new mode runs =
    let rest = replies_are structured runs.0 es new (structured_kept v (AnswerGiven n ask verdict reply) runs.0 runs.1 ∙ mode) runs.2 in
    ap (λ (xs : List ℕ). xs ++ given_out es) (runs.1.reply_is ∙ ap (λ (s : Bool). answer_bytes s ask verdict) mode)
    ∙ ap (λ (xs : List ℕ). answer_bytes structured ask verdict ++ xs) rest
replies_are structured v (e ∷ es) new mode runs =
    replies_are structured runs.0 es new (structured_kept v e runs.0 runs.1 ∙ mode) runs.2

-- ---- numbers
left_newest : (b : Bool) (crew : CrewValue) → (left_if b crew).newest ≡ crew.newest
left_newest true crew = refl
left_newest false crew = refl

closed_newest : (end : SessionEnd) (v new : ServingValue) → new ≡ closed_as end v → new.crew.newest ≡ v.crew.newest
closed_newest end v new is = ap (λ (w : ServingValue). w.crew.newest) is ∙ left_newest (is_fault end) v.crew

told_newest : (told : Option WireEvent) (phase : Phase) (v : ServingValue) → (told_value told phase v).crew.newest ≡ v.crew.newest
told_newest None phase v = refl
told_newest (Some (Head ask)) phase v = refl
told_newest (Some (Body room)) phase v = refl
told_newest (Some Disc) phase v = refl
told_newest (Some (Bad bad)) phase v = left_newest (is_fault bad) v.crew

number_next : (a b first : ℕ) → b ≡ a → a + 1 ≡ first → b + 1 ≡ first
number_next a b first is next = ap (λ (n : ℕ). n + 1) is ∙ next

pub numbered_from : (first : ℕ) (v : ServingValue) (es : List ServingEvent) (new : ServingValue) → v.crew.newest + 1 ≡ first →
    ServingRuns v es new → IsNumbered first (begun_by es)
numbered_from first v [] new next runs = tt
numbered_from first v (BeganTask t ∷ es) new next runs =
    let number : t.number ≡ first = runs.1.number ∙ next in
    (number, numbered_from (first + 1) runs.0 es new (ap (λ (w : CrewValue). w.newest + 1) runs.1.step.1 ∙ ap (λ (n : ℕ). n + 1) number) runs.2)
numbered_from first v (TookBytes bytes told ∷ es) new next runs =
    numbered_from first runs.0 es new (number_next v.crew.newest runs.0.crew.newest first
    (ap (λ (w : ServingValue). w.crew.newest) runs.1.is ∙ told_newest told runs.0.reader.phase v) next) runs.2
numbered_from first v (GaveRoom room ∷ es) new next runs =
    numbered_from first runs.0 es new (number_next v.crew.newest runs.0.crew.newest first (ap (λ (w : ServingValue). w.crew.newest) runs.1.is) next) runs.2
numbered_from first v (CallMade c ∷ es) new next runs =
    numbered_from first runs.0 es new (number_next v.crew.newest runs.0.crew.newest first (ap (λ (w : CrewValue). w.newest) runs.1.step.live) next) runs.2
numbered_from first v (AnswerGiven n ask verdict reply ∷ es) new next runs =
    numbered_from first runs.0 es new (number_next v.crew.newest runs.0.crew.newest first (ap (λ (w : CrewValue). w.newest) runs.1.step.live) next) runs.2
numbered_from first v (AnswerLost n ask verdict ∷ es) new next runs =
    numbered_from first runs.0 es new (number_next v.crew.newest runs.0.crew.newest first
    (closed_newest (end_for_memory v.ended) (record v { crew = runs.1.crew }) runs.0 runs.1.is ∙ ap (λ (w : CrewValue). w.newest) runs.1.step.live) next) runs.2
numbered_from first v (InputStopped end ∷ es) new next runs =
    numbered_from first runs.0 es new (number_next v.crew.newest runs.0.crew.newest first (closed_newest end v runs.0 runs.1.is) next) runs.2
numbered_from first v (WireBroke ∷ es) new next runs =
    numbered_from first runs.0 es new (number_next v.crew.newest runs.0.crew.newest first (closed_newest LinkFault v runs.0 runs.1.is) next) runs.2
numbered_from first v (CalledDetach e reply ∷ es) new next runs =
    numbered_from first runs.0 es new (number_next v.crew.newest runs.0.crew.newest first (ap (λ (w : ServingValue). w.crew.newest) runs.1.is) next) runs.2

-- ---- heads
-- what is ahead, by where the reader is
abbrev pub NextFits : Phase → Upcoming → Type 0
NextFits (InHead held) NoneYet = Unit {0}
NextFits (InHead held) (Announced ask) = ⊥
NextFits (InHead held) (Entire ask body) = Unit {0}
NextFits (Wants h) (Announced ask) = Unit {0}
NextFits (Wants h) next = ⊥
NextFits (Fills h got) (Announced ask) = Unit {0}
NextFits (Fills h got) next = ⊥
NextFits (Skips h more) (Announced ask) = Unit {0}
NextFits (Skips h more) next = ⊥
NextFits Over next = Unit {0}
NextFits (Stuck bad) next = Unit {0}

-- a head: nothing was ahead of it, and it is
pub record HeadAhead (phase : Phase) (next : Upcoming) (ask : Ask) (phase' : Phase) (next' : Upcoming) : Type 0 where
  pub none : asks_ahead next ≡ []
  pub one : asks_ahead next' ≡ ask ∷ []
  pub fits : NextFits phase' next'

bad_head : (ask : Ask) (bad : SessionEnd) → Some (Head ask) ≡ Some (Bad bad) → ⊥
bad_head ask bad e = cc

head_ahead : (s : Bool) (phase : Phase) (next : Upcoming) (bytes : List ℕ) (ask : Ask) (phase' : Phase) → NextFits phase next → MayRead next →
    Reaches s phase bytes (Some (Head ask)) phase' → HeadAhead phase next ask phase' (next_after (Some (Head ask)) next)
head_ahead s (InHead held) NoneYet bytes ask phase' fits may reaches = go (has_data ask) refl
  where
    go : (b : Bool) → has_data ask ≡ b → HeadAhead (InHead held) NoneYet ask phase' (cond b (Announced ask) (Entire ask None))
    go true is = record {
      none = refl;
      one = refl;
      fits = subst (λ (p : Phase). NextFits p (Announced ask)) (sym (asks_room.some s (held ++ bytes) ask phase' reaches is).1.0) tt;
    }
    go false is = record {
      none = refl;
      one = refl;
      fits = subst (λ (p : Phase). NextFits p (Entire ask None)) (sym (asks_room.none s (held ++ bytes) ask phase' reaches is)) tt;
    }
head_ahead s (InHead held) (Announced other) bytes ask phase' fits may reaches = absurd fits
head_ahead s (InHead held) (Entire other body) bytes ask phase' fits may reaches = absurd may
head_ahead s (Wants h) next bytes ask phase' fits may reaches = absurd reaches
head_ahead s (Fills h got) next bytes ask phase' fits may reaches = absurd reaches
head_ahead s (Skips h more) next bytes ask phase' fits may reaches = absurd reaches
head_ahead s Over next bytes ask phase' fits may reaches = absurd reaches
head_ahead s (Stuck bad) next bytes ask phase' fits may reaches = absurd (bad_head ask bad reaches.1)

-- data: what was announced came whole
pub record SameAhead (phase : Phase) (next next' : Upcoming) : Type 0 where
  pub same : asks_ahead next' ≡ asks_ahead next
  pub fits : NextFits phase next'

body_ahead : (s : Bool) (phase : Phase) (next : Upcoming) (bytes : List ℕ) (room : Room) (phase' : Phase) → NextFits phase next →
    Reaches s phase bytes (Some (Body room)) phase' → SameAhead phase' next (next_after (Some (Body room)) next)
body_ahead s (InHead held) next bytes room phase' fits reaches = absurd reaches
body_ahead s (Wants h) next bytes room phase' fits reaches = absurd reaches
body_ahead s (Fills h got) (Announced ask) bytes (Keep whole) phase' fits reaches = record {
  same = refl;
  fits = subst (λ (p : Phase). NextFits p (Entire ask (Some whole))) (sym reaches.2) tt;
}
body_ahead s (Fills h got) (Announced ask) bytes (Drop size) phase' fits reaches = absurd reaches
body_ahead s (Fills h got) NoneYet bytes room phase' fits reaches = absurd fits
body_ahead s (Fills h got) (Entire ask body) bytes room phase' fits reaches = absurd fits
body_ahead s (Skips h more) (Announced ask) bytes (Drop size) phase' fits reaches = record {
  same = refl;
  fits = subst (λ (p : Phase). NextFits p (Entire ask None)) (sym reaches.2) tt;
}
body_ahead s (Skips h more) (Announced ask) bytes (Keep whole) phase' fits reaches = absurd reaches
body_ahead s (Skips h more) NoneYet bytes room phase' fits reaches = absurd fits
body_ahead s (Skips h more) (Entire ask body) bytes room phase' fits reaches = absurd fits
body_ahead s Over next bytes room phase' fits reaches = absurd reaches
body_ahead s (Stuck bad) next bytes room phase' fits reaches = absurd (body_bad reaches.1)
  where
    body_bad : Some (Body room) ≡ Some (Bad bad) → ⊥
    body_bad e = cc

-- nothing told
none_ahead : (s : Bool) (phase : Phase) (next : Upcoming) (bytes : List ℕ) (phase' : Phase) → NextFits phase next → Reaches s phase bytes None phase' →
    NextFits phase' next
none_ahead s (InHead held) NoneYet bytes (InHead more) fits reaches = tt
none_ahead s (InHead held) (Entire ask body) bytes (InHead more) fits reaches = tt
none_ahead s (InHead held) (Announced ask) bytes phase' fits reaches = absurd fits
none_ahead s (InHead held) next bytes (Wants h) fits reaches = absurd reaches
none_ahead s (InHead held) next bytes (Fills h got) fits reaches = absurd reaches
none_ahead s (InHead held) next bytes (Skips h left) fits reaches = absurd reaches
none_ahead s (InHead held) next bytes Over fits reaches = absurd reaches
none_ahead s (InHead held) next bytes (Stuck bad) fits reaches = absurd reaches
none_ahead s (Wants h) next bytes phase' fits reaches = absurd reaches
none_ahead s (Fills h got) (Announced ask) bytes (Fills same more) fits reaches = tt
none_ahead s (Fills h got) NoneYet bytes phase' fits reaches = absurd fits
none_ahead s (Fills h got) (Entire ask body) bytes phase' fits reaches = absurd fits
none_ahead s (Fills h got) next bytes (InHead held) fits reaches = absurd reaches
none_ahead s (Fills h got) next bytes (Wants other) fits reaches = absurd reaches
none_ahead s (Fills h got) next bytes (Skips other left) fits reaches = absurd reaches
none_ahead s (Fills h got) next bytes Over fits reaches = tt
none_ahead s (Fills h got) next bytes (Stuck bad) fits reaches = tt
none_ahead s (Skips h left) (Announced ask) bytes (Skips same fewer) fits reaches = tt
none_ahead s (Skips h left) NoneYet bytes phase' fits reaches = absurd fits
none_ahead s (Skips h left) (Entire ask body) bytes phase' fits reaches = absurd fits
none_ahead s (Skips h left) next bytes (InHead held) fits reaches = absurd reaches
none_ahead s (Skips h left) next bytes (Wants other) fits reaches = absurd reaches
none_ahead s (Skips h left) next bytes (Fills other got) fits reaches = absurd reaches
none_ahead s (Skips h left) next bytes Over fits reaches = tt
none_ahead s (Skips h left) next bytes (Stuck bad) fits reaches = tt
none_ahead s Over next bytes phase' fits reaches = absurd reaches
none_ahead s (Stuck bad) next bytes phase' fits reaches = absurd (none_bad reaches.1)
  where
    none_bad : None ≡ Some (Bad bad) → ⊥
    none_bad e = cc

given_ahead : (phase : Phase) (next : Upcoming) (room : Room) → NextFits phase next → CanGive phase room → NextFits (phase_with_room phase room) next
given_ahead (Wants h) (Announced ask) (Keep buffer) fits can = tt
given_ahead (Wants h) (Announced ask) (Drop count) fits can = tt
given_ahead (Wants h) NoneYet room fits can = absurd fits
given_ahead (Wants h) (Entire ask body) room fits can = absurd fits
given_ahead (InHead held) next room fits can = absurd can
given_ahead (Fills h got) next room fits can = absurd can
given_ahead (Skips h left) next room fits can = absurd can
given_ahead Over next room fits can = absurd can
given_ahead (Stuck bad) next room fits can = absurd can

begun_ahead : (phase : Phase) (next : Upcoming) (ask : Ask) (body : Option (List ℕ)) → next ≡ Entire ask body → NextFits phase next → NextFits phase NoneYet
begun_ahead phase next ask body is fits = go phase (subst (λ (u : Upcoming). NextFits phase u) is fits)
  where
    go : (phase : Phase) → NextFits phase (Entire ask body) → NextFits phase NoneYet
    go (InHead held) fits = tt
    go (Wants h) fits = absurd fits
    go (Fills h got) fits = absurd fits
    go (Skips h left) fits = absurd fits
    go Over fits = tt
    go (Stuck bad) fits = tt

-- what was ahead, and the heads that came, have begun or are ahead now
abbrev Ahead : ServingValue → List ServingEvent → ServingValue → Type 0
Ahead v es new = asks_ahead v.next ++ heads_told es ≡ map (λ (t : TaskValue). t.request.client.ask) (begun_by es) ++ asks_ahead new.next

-- an event that tells no head and begins nothing
ahead_same : (v mid : ServingValue) (es : List ServingEvent) (new : ServingValue) → asks_ahead mid.next ≡ asks_ahead v.next → Ahead mid es new →
    Ahead v es new
ahead_same v mid es new same ahead = ap (λ (xs : List Ask). xs ++ heads_told es) (sym same) ∙ ahead

told_next : (told : Option WireEvent) (phase : Phase) (v : ServingValue) → (told_value told phase v).next ≡ next_after told v.next
told_next None phase v = refl
told_next (Some (Head ask)) phase v = refl
told_next (Some (Body room)) phase v = refl
told_next (Some Disc) phase v = refl
told_next (Some (Bad bad)) phase v = refl

module _ (v mid : ServingValue) (same : mid.next ≡ v.next) (reader : mid.reader ≡ v.reader) where
  fits_kept : NextFits v.reader.phase v.next → NextFits mid.reader.phase mid.next
  fits_kept fits = subst (λ (u : Upcoming). NextFits mid.reader.phase u) (sym same)
      (subst (λ (r : Reader). NextFits r.phase v.next) (sym reader) fits)

-- once the session has ended no head comes, and nothing begins
pub record NothingComes (v : ServingValue) (es : List ServingEvent) (new : ServingValue) : Type 0 where
  pub heads : heads_told es ≡ []
  pub begun : begun_by es ≡ []
  pub next : new.next ≡ v.next

comes_on : (v mid : ServingValue) (es fs : List ServingEvent) (new : ServingValue) → heads_told fs ≡ heads_told es → begun_by fs ≡ begun_by es →
    mid.next ≡ v.next → NothingComes mid es new → NothingComes v fs new
comes_on v mid es fs new heads begun same rest = record { heads = heads ∙ rest.heads; begun = begun ∙ rest.begun; next = rest.next ∙ same }

pub ended_comes : (v : ServingValue) (es : List ServingEvent) (new : ServingValue) → IsSome v.ended → ServingRuns v es new → NothingComes v es new
ended_comes v [] new some runs = record { heads = refl; begun = refl; next = ap (λ (w : ServingValue). w.next) runs }
ended_comes v (TookBytes bytes told ∷ es) new some runs = absurd (some_none v.ended runs.1.going some)
ended_comes v (GaveRoom room ∷ es) new some runs = absurd (some_none v.ended runs.1.going some)
ended_comes v (BeganTask t ∷ es) new some runs = absurd (some_none v.ended runs.1.going some)
ended_comes v (CallMade c ∷ es) new some runs = comes_on v runs.0 es (CallMade c ∷ es) new refl refl (ap (λ (w : ServingValue). w.next) runs.1.is)
    (ended_comes runs.0 es new (ended_stays v (CallMade c) runs.0 some runs.1) runs.2)
ended_comes v (AnswerGiven n ask verdict reply ∷ es) new some runs = comes_on v runs.0 es (AnswerGiven n ask verdict reply ∷ es) new refl refl (ap (λ (w : ServingValue). w.next) runs.1.is)
    (ended_comes runs.0 es new (ended_stays v (AnswerGiven n ask verdict reply) runs.0 some runs.1) runs.2)
ended_comes v (AnswerLost n ask verdict ∷ es) new some runs = comes_on v runs.0 es (AnswerLost n ask verdict ∷ es) new refl refl (ap (λ (w : ServingValue). w.next) runs.1.is)
    (ended_comes runs.0 es new (ended_stays v (AnswerLost n ask verdict) runs.0 some runs.1) runs.2)
ended_comes v (InputStopped end ∷ es) new some runs = absurd (some_none v.ended runs.1.going some)
ended_comes v (WireBroke ∷ es) new some runs = comes_on v runs.0 es (WireBroke ∷ es) new refl refl (ap (λ (w : ServingValue). w.next) runs.1.is)
    (ended_comes runs.0 es new (ended_stays v WireBroke runs.0 some runs.1) runs.2)
ended_comes v (CalledDetach e reply ∷ es) new some runs = comes_on v runs.0 es (CalledDetach e reply ∷ es) new refl refl (ap (λ (w : ServingValue). w.next) runs.1.is)
    (ended_comes runs.0 es new (ended_stays v (CalledDetach e reply) runs.0 some runs.1) runs.2)

ahead_ended : (v mid : ServingValue) (es : List ServingEvent) (new : ServingValue) → mid.next ≡ v.next → NothingComes mid es new → Ahead v es new
ahead_ended v mid es new same rest =
    ap (λ (xs : List Ask). asks_ahead v.next ++ xs) rest.heads
    ∙ append-nil (asks_ahead v.next)
    ∙ ap asks_ahead (sym (rest.next ∙ same))
    ∙ ap (λ (ts : List TaskValue). map (λ (t : TaskValue). t.request.client.ask) ts ++ asks_ahead new.next) (sym rest.begun)

pub asked_from : (v : ServingValue) (es : List ServingEvent) (new : ServingValue) → NextFits v.reader.phase v.next → ServingRuns v es new → Ahead v es new
asked_from v [] new fits runs = append-nil (asks_ahead v.next) ∙ sym (ap (λ (w : ServingValue). asks_ahead w.next) runs)
asked_from v (TookBytes bytes None ∷ es) new fits runs =
    let next : runs.0.next ≡ v.next = ap (λ (w : ServingValue). w.next) runs.1.is in
    ahead_same v runs.0 es new (ap asks_ahead next)
    (asked_from runs.0 es new (subst (λ (u : Upcoming). NextFits runs.0.reader.phase u) (sym next)
    (none_ahead v.reader.structured v.reader.phase v.next bytes runs.0.reader.phase fits runs.1.reaches)) runs.2)
asked_from v (TookBytes bytes (Some (Head ask)) ∷ es) new fits runs =
    let next : runs.0.next ≡ next_after (Some (Head ask)) v.next = ap (λ (w : ServingValue). w.next) runs.1.is in
    let h = head_ahead v.reader.structured v.reader.phase v.next bytes ask runs.0.reader.phase fits runs.1.begun runs.1.reaches in
    ap (λ (xs : List Ask). xs ++ ask ∷ heads_told es) h.none
    ∙ sym (ap (λ (xs : List Ask). xs ++ heads_told es) (ap asks_ahead next ∙ h.one))
    ∙ asked_from runs.0 es new (subst (λ (u : Upcoming). NextFits runs.0.reader.phase u) (sym next) h.fits) runs.2
asked_from v (TookBytes bytes (Some (Body room)) ∷ es) new fits runs =
    let next : runs.0.next ≡ next_after (Some (Body room)) v.next = ap (λ (w : ServingValue). w.next) runs.1.is in
    let b = body_ahead v.reader.structured v.reader.phase v.next bytes room runs.0.reader.phase fits runs.1.reaches in
    ahead_same v runs.0 es new (ap asks_ahead next ∙ b.same)
    (asked_from runs.0 es new (subst (λ (u : Upcoming). NextFits runs.0.reader.phase u) (sym next) b.fits) runs.2)
asked_from v (TookBytes bytes (Some Disc) ∷ es) new fits runs =
    ahead_ended v runs.0 es new (ap (λ (w : ServingValue). w.next) runs.1.is)
    (ended_comes runs.0 es new (subst (λ (w : ServingValue). IsSome w.ended) (sym runs.1.is) refl) runs.2)
asked_from v (TookBytes bytes (Some (Bad bad)) ∷ es) new fits runs =
    ahead_ended v runs.0 es new (ap (λ (w : ServingValue). w.next) runs.1.is)
    (ended_comes runs.0 es new (subst (λ (w : ServingValue). IsSome w.ended) (sym runs.1.is) refl) runs.2)
asked_from v (GaveRoom room ∷ es) new fits runs =
    let next : runs.0.next ≡ v.next = ap (λ (w : ServingValue). w.next) runs.1.is in
    ahead_same v runs.0 es new (ap asks_ahead next)
    (asked_from runs.0 es new (subst (λ (u : Upcoming). NextFits runs.0.reader.phase u) (sym next)
    (subst (λ (p : Phase). NextFits p v.next) (sym (ap (λ (w : ServingValue). w.reader.phase) runs.1.is))
    (given_ahead v.reader.phase v.next room fits runs.1.can))) runs.2)
asked_from v (BeganTask t ∷ es) new fits runs =
    let next : runs.0.next ≡ NoneYet = ap (λ (w : ServingValue). w.next) runs.1.is in
    let asked : t.request.client.ask ≡ runs.1.ask = ap (λ (q : Req). q.client.ask) runs.1.read.is in
    let rest = asked_from runs.0 es new (subst (λ (u : Upcoming). NextFits runs.0.reader.phase u) (sym next)
    (subst (λ (r : Reader). NextFits r.phase NoneYet) (sym (ap (λ (w : ServingValue). w.reader) runs.1.is))
    (begun_ahead v.reader.phase v.next runs.1.ask runs.1.body runs.1.next fits))) runs.2 in
    ap (λ (u : Upcoming). asks_ahead u ++ heads_told es) runs.1.next
    ∙ ap (λ (a : Ask). a ∷ heads_told es) (sym asked)
    ∙ ap (λ (xs : List Ask). t.request.client.ask ∷ xs) (sym (ap (λ (u : Upcoming). asks_ahead u ++ heads_told es) next) ∙ rest)
asked_from v (CallMade c ∷ es) new fits runs =
    ahead_same v runs.0 es new (ap (λ (w : ServingValue). asks_ahead w.next) runs.1.is)
    (asked_from runs.0 es new (fits_kept v runs.0 (ap (λ (w : ServingValue). w.next) runs.1.is) (ap (λ (w : ServingValue). w.reader) runs.1.is) fits) runs.2)
asked_from v (AnswerGiven n ask verdict reply ∷ es) new fits runs =
    ahead_same v runs.0 es new (ap (λ (w : ServingValue). asks_ahead w.next) runs.1.is)
    (asked_from runs.0 es new (fits_kept v runs.0 (ap (λ (w : ServingValue). w.next) runs.1.is) (ap (λ (w : ServingValue). w.reader) runs.1.is) fits) runs.2)
asked_from v (AnswerLost n ask verdict ∷ es) new fits runs =
    ahead_same v runs.0 es new (ap (λ (w : ServingValue). asks_ahead w.next) runs.1.is)
    (asked_from runs.0 es new (fits_kept v runs.0 (ap (λ (w : ServingValue). w.next) runs.1.is) (ap (λ (w : ServingValue). w.reader) runs.1.is) fits) runs.2)
asked_from v (InputStopped end ∷ es) new fits runs =
    ahead_same v runs.0 es new (ap (λ (w : ServingValue). asks_ahead w.next) runs.1.is)
    (asked_from runs.0 es new (fits_kept v runs.0 (ap (λ (w : ServingValue). w.next) runs.1.is) (ap (λ (w : ServingValue). w.reader) runs.1.is) fits) runs.2)
asked_from v (WireBroke ∷ es) new fits runs =
    ahead_same v runs.0 es new (ap (λ (w : ServingValue). asks_ahead w.next) runs.1.is)
    (asked_from runs.0 es new (fits_kept v runs.0 (ap (λ (w : ServingValue). w.next) runs.1.is) (ap (λ (w : ServingValue). w.reader) runs.1.is) fits) runs.2)
asked_from v (CalledDetach e reply ∷ es) new fits runs =
    ahead_same v runs.0 es new (ap (λ (w : ServingValue). asks_ahead w.next) runs.1.is)
    (asked_from runs.0 es new (fits_kept v runs.0 (ap (λ (w : ServingValue). w.next) runs.1.is) (ap (λ (w : ServingValue). w.reader) runs.1.is) fits) runs.2)

-- ---- the end
none_live : (n : ℕ) (live : List TaskValue) (q : Req) → live ≡ [] → live_by_number n live ≡ Some q → ⊥
none_live n live q none is = nothing (sym (ap (λ (ts : List TaskValue). live_by_number n ts) none) ∙ is)
  where
    nothing : None ≡ Some q → ⊥
    nothing e = cc

-- a session that left its export does nothing more
over_nothing : (v : ServingValue) (es : List ServingEvent) (new : ServingValue) → IsSome v.ended → v.crew.live ≡ [] → v.detached ≡ true →
    ServingRuns v es new → es ≡ []
over_nothing v [] new some none gone runs = refl
over_nothing v (TookBytes bytes told ∷ es) new some none gone runs = absurd (some_none v.ended runs.1.going some)
over_nothing v (GaveRoom room ∷ es) new some none gone runs = absurd (some_none v.ended runs.1.going some)
over_nothing v (BeganTask t ∷ es) new some none gone runs = absurd (some_none v.ended runs.1.going some)
over_nothing v (CallMade c ∷ es) new some none gone runs = absurd (none_live c.request v.crew.live runs.1.step.request none runs.1.step.is_live)
over_nothing v (AnswerGiven n ask verdict reply ∷ es) new some none gone runs = absurd (none_live n v.crew.live runs.1.step.request none runs.1.step.is_live)
over_nothing v (AnswerLost n ask verdict ∷ es) new some none gone runs = absurd (none_live n v.crew.live runs.1.step.request none runs.1.step.is_live)
over_nothing v (InputStopped end ∷ es) new some none gone runs = absurd (some_none v.ended runs.1.going some)
over_nothing v (WireBroke ∷ es) new some none gone runs = absurd (true≢false (sym gone ∙ runs.1.there))
over_nothing v (CalledDetach e reply ∷ es) new some none gone runs = absurd (true≢false (sym gone ∙ runs.1.there))

-- whether the session is a client still, by what happened
pub record DetachSeen (export : ℕ) (es : List ServingEvent) (new : ServingValue) : Type 0 where
  pub stays : new.detached ≡ false → has_detach es ≡ false
  pub leaves : new.detached ≡ true → DetachesLast export es

seen_more : (export : ℕ) (e : ServingEvent) (es : List ServingEvent) (new : ServingValue) →
    ((fs : List ServingEvent) → has_detach (e ∷ fs) ≡ has_detach fs) → DetachSeen export es new → DetachSeen export (e ∷ es) new
seen_more export e es new other seen = record {
  stays = λ there. other es ∙ seen.stays there;
  leaves = λ gone. let last_one = seen.leaves gone in record {
    before = e ∷ last_one.before;
    reply = last_one.reply;
    all = ap (λ (fs : List ServingEvent). e ∷ fs) last_one.all;
    once = other last_one.before ∙ last_one.once;
  };
}

told_detached : (told : Option WireEvent) (phase : Phase) (v : ServingValue) → (told_value told phase v).detached ≡ v.detached
told_detached None phase v = refl
told_detached (Some (Head ask)) phase v = refl
told_detached (Some (Body room)) phase v = refl
told_detached (Some Disc) phase v = refl
told_detached (Some (Bad bad)) phase v = refl

told_export : (told : Option WireEvent) (phase : Phase) (v : ServingValue) → (told_value told phase v).export ≡ v.export
told_export None phase v = refl
told_export (Some (Head ask)) phase v = refl
told_export (Some (Body room)) phase v = refl
told_export (Some Disc) phase v = refl
told_export (Some (Bad bad)) phase v = refl

pub detach_from : (export : ℕ) (v : ServingValue) (es : List ServingEvent) (new : ServingValue) → v.export ≡ export → v.detached ≡ false →
    ServingRuns v es new → DetachSeen export es new
detach_from export v [] new at there runs = record {
  stays = λ still. refl;
  leaves = λ gone. absurd (true≢false (sym gone ∙ ap (λ (w : ServingValue). w.detached) runs ∙ there));
}
detach_from export v (CalledDetach e reply ∷ es) new at there runs =
    let gone : runs.0.detached ≡ true = ap (λ (w : ServingValue). w.detached) runs.1.is in
    let none : es ≡ [] = over_nothing runs.0 es new (subst (λ (w : ServingValue). IsSome w.ended) (sym runs.1.is) runs.1.ended)
    (ap (λ (w : ServingValue). w.crew.live) runs.1.is ∙ runs.1.none) gone runs.2 in
    let over : new.detached ≡ true =
    ap (λ (w : ServingValue). w.detached) (subst (λ (fs : List ServingEvent). ServingRuns runs.0 fs new) none runs.2) ∙ gone in
    record {
      stays = λ still. absurd (true≢false (sym over ∙ still));
      leaves = λ is. record {
        before = [];
        reply = reply;
        all = ap (λ (k : ℕ). CalledDetach k reply ∷ es) (runs.1.export ∙ at) ∙ ap (λ (fs : List ServingEvent). CalledDetach export reply ∷ fs) none;
        once = refl;
      };
    }
detach_from export v (TookBytes bytes told ∷ es) new at there runs = seen_more export (TookBytes bytes told) es new (λ fs. refl)
    (detach_from export runs.0 es new (ap (λ (w : ServingValue). w.export) runs.1.is ∙ told_export told runs.0.reader.phase v ∙ at)
    (ap (λ (w : ServingValue). w.detached) runs.1.is ∙ told_detached told runs.0.reader.phase v ∙ there) runs.2)
detach_from export v (GaveRoom room ∷ es) new at there runs = seen_more export (GaveRoom room) es new (λ fs. refl)
    (detach_from export runs.0 es new (ap (λ (w : ServingValue). w.export) runs.1.is ∙ at) (ap (λ (w : ServingValue). w.detached) runs.1.is ∙ there) runs.2)
detach_from export v (BeganTask t ∷ es) new at there runs = seen_more export (BeganTask t) es new (λ fs. refl)
    (detach_from export runs.0 es new (ap (λ (w : ServingValue). w.export) runs.1.is ∙ at) (ap (λ (w : ServingValue). w.detached) runs.1.is ∙ there) runs.2)
detach_from export v (CallMade c ∷ es) new at there runs = seen_more export (CallMade c) es new (λ fs. refl)
    (detach_from export runs.0 es new (ap (λ (w : ServingValue). w.export) runs.1.is ∙ at) (ap (λ (w : ServingValue). w.detached) runs.1.is ∙ there) runs.2)
detach_from export v (AnswerGiven n ask verdict reply ∷ es) new at there runs = seen_more export (AnswerGiven n ask verdict reply) es new (λ fs. refl)
    (detach_from export runs.0 es new (ap (λ (w : ServingValue). w.export) runs.1.is ∙ at) (ap (λ (w : ServingValue). w.detached) runs.1.is ∙ there) runs.2)
detach_from export v (AnswerLost n ask verdict ∷ es) new at there runs = seen_more export (AnswerLost n ask verdict) es new (λ fs. refl)
    (detach_from export runs.0 es new (ap (λ (w : ServingValue). w.export) runs.1.is ∙ at) (ap (λ (w : ServingValue). w.detached) runs.1.is ∙ there) runs.2)
detach_from export v (InputStopped end ∷ es) new at there runs = seen_more export (InputStopped end) es new (λ fs. refl)
    (detach_from export runs.0 es new (ap (λ (w : ServingValue). w.export) runs.1.is ∙ at) (ap (λ (w : ServingValue). w.detached) runs.1.is ∙ there) runs.2)
detach_from export v (WireBroke ∷ es) new at there runs = seen_more export WireBroke es new (λ fs. refl)
    (detach_from export runs.0 es new (ap (λ (w : ServingValue). w.export) runs.1.is ∙ at) (ap (λ (w : ServingValue). w.detached) runs.1.is ∙ there) runs.2)

-- ---- all of it
pub story : ServingTells
story export structured shape es v runs =
    let reader = reader_goes _ es v runs in
    let seen = detach_from export _ es v refl refl runs in
    record {
      walks = merged shape (crew_events es) v.crew (crew_goes _ es v runs);
      tells = subst (λ (bytes : List ℕ). TellsEvents structured v.reader.phase bytes (flat_map told_by (reader_calls es))) (taken_calls es)
          (reads_sessions structured (reader_calls es) v.reader.phase reader.leads);
      numbered = numbered_from 1 _ es v (omega arith) runs;
      asked = asked_from _ es v tt runs;
      replied = replies_are structured _ es v refl runs;
      stays = seen.stays;
      leaves = seen.leaves;
    }

-- Runs of events, one behind the other.
use Rattle.std.proofs.Common.{◌≡◌, ℕ, ◌⊎◌, inl, inr, true, true≢false, List, [], ◌∷◌, ◌++◌, refl, sym, ap, ◌∙◌, subst, arith, append_assoc, append-nil}
use Rattle.std.specs.Prelude.{Option, Some, None, IsSome, ◌==◌, if◌then◌else◌}
use Rattle.qs_bytes.specs.declared.ask.Errno.TheVariants.{Shutdown}
use Rattle.qs_bytes.specs.declared.ask.Verdict.{Verdict}
use Rattle.qs_bytes.specs.declared.ask.Verdict.TheVariants.{Refused}
use Rattle.qs_status.specs.declared.status.SessionEnd.{SessionEnd}
use Rattle.qs_status.specs.declared.status.SessionEnd.TheVariants.{Done}
use Rattle.qs_stream.specs.Bytes.{Takes}
use Rattle.qs_task.specs.Books.{Book, notes}
use Rattle.qs_task.specs.Walks.{wait_after}
use Rattle.qs_task.specs.declared.need.Need.{Need}
use Rattle.qs_part.specs.declared.graph.GraphOp.TheVariants.{Detach}
use Rattle.qs_wire_stream.specs.Currents.{Current, Advanced}
use Rattle.qs_wire_stream.proofs.Advancing.{advanced_none, advanced_on}
use Rattle.qs_serving.specs.Answers.{end_after}
use Rattle.qs_serving.specs.Events.{ServingEvent, TookBytes, GaveRoom, BeganTask, CallMade, AnswerGiven, AnswerLost, InputStopped, WireBroke, CalledDetach, given_out, has_break, has_stop, noted_all, taken_in}
use Rattle.qs_serving.specs.Graphs.{graph_noted}
use Rattle.qs_serving.specs.Scenes.{FaultRose, ServesOn, ServingJoins, ServingScene, TakesAll}
use Rattle.qs_serving.specs.Steps.{ServingRuns, ServingStep, ServingValue}
use Rattle.qs_serving.specs.Turns.{stopped_at}

pub runs_append : (a b c : ServingValue) (es fs : List ServingEvent) → ServingRuns a es b → ServingRuns b fs c → ServingRuns a (es ++ fs) c
runs_append a b c [] fs first second = subst (λ (v : ServingValue). ServingRuns v fs c) first second
runs_append a b c (e ∷ es) fs first second = (first.0, first.1, runs_append first.0 b c es fs first.2 second)

pub taken_append : (es fs : List ServingEvent) → taken_in (es ++ fs) ≡ taken_in es ++ taken_in fs
taken_append [] fs = refl
taken_append (TookBytes bytes told ∷ es) fs =
    ap (λ (xs : List ℕ). bytes ++ xs) (taken_append es fs) ∙ sym (append_assoc bytes (taken_in es) (taken_in fs))
taken_append (e ∷ es) fs = taken_append es fs

pub given_append : (es fs : List ServingEvent) → given_out (es ++ fs) ≡ given_out es ++ given_out fs
given_append [] fs = refl
given_append (AnswerGiven n ask v reply ∷ es) fs =
    ap (λ (xs : List ℕ). reply ++ xs) (given_append es fs) ∙ sym (append_assoc reply (given_out es) (given_out fs))
given_append (e ∷ es) fs = given_append es fs

pub noted_append : (es fs : List ServingEvent) (book : Book) → noted_all (es ++ fs) book ≡ noted_all fs (noted_all es book)
noted_append [] fs book = refl
noted_append (CallMade c ∷ es) fs book = noted_append es fs (notes c book)
noted_append (CalledDetach e reply ∷ es) fs book = noted_append es fs (graph_noted (Detach e) reply book)
noted_append (e ∷ es) fs book = noted_append es fs book

pub stopped_append : (n : ℕ) (es fs : List ServingEvent) (w : Option Need) →
    stopped_at n w (es ++ fs) ≡ stopped_at n (stopped_at n w es) fs
stopped_append n [] fs w = refl
stopped_append n (CallMade c ∷ es) fs w = stopped_append n es fs (if c.request == n then wait_after c else w)
stopped_append n (e ∷ es) fs w = stopped_append n es fs w

stop_or : (es fs : List ServingEvent) → has_stop (es ++ fs) ≡ true → (has_stop es ≡ true) ⊎ (has_stop fs ≡ true)
stop_or [] fs is = inr is
stop_or (InputStopped end ∷ es) fs is = inl refl
stop_or (e ∷ es) fs is = stop_or es fs is

break_or : (es fs : List ServingEvent) → has_break (es ++ fs) ≡ true → (has_break es ≡ true) ⊎ (has_break fs ≡ true)
break_or [] fs is = inr is
break_or (WireBroke ∷ es) fs is = inl refl
break_or (e ∷ es) fs is = break_or es fs is

-- a session that has ended stays so
end_some : (v : Verdict) (e : SessionEnd) → IsSome (end_after v (Some e))
end_some (Refused Shutdown) Done = refl
end_some v e = refl

end_stays : (v : Verdict) (o : Option SessionEnd) → IsSome o → IsSome (end_after v o)
end_stays v None is = absurd (true≢false (sym is))
end_stays v (Some e) is = end_some v e

pub some_none : (o : Option SessionEnd) → o ≡ None → IsSome o → ⊥
some_none None is some = true≢false (sym some)
some_none (Some e) is some = cc

pub ended_stays : (v : ServingValue) (e : ServingEvent) (new : ServingValue) → IsSome v.ended → ServingStep v e new → IsSome new.ended
ended_stays v (TookBytes bytes told) new some step = absurd (some_none v.ended step.going some)
ended_stays v (GaveRoom room) new some step = absurd (some_none v.ended step.going some)
ended_stays v (BeganTask t) new some step = absurd (some_none v.ended step.going some)
ended_stays v (CallMade c) new some step = subst (λ (w : ServingValue). IsSome w.ended) (sym step.is) some
ended_stays v (AnswerGiven n ask verdict reply) new some step =
    subst (λ (w : ServingValue). IsSome w.ended) (sym step.is) (end_stays verdict v.ended some)
ended_stays v (AnswerLost n ask verdict) new some step = subst (λ (w : ServingValue). IsSome w.ended) (sym step.is) refl
ended_stays v (InputStopped end) new some step = subst (λ (w : ServingValue). IsSome w.ended) (sym step.is) refl
ended_stays v WireBroke new some step = subst (λ (w : ServingValue). IsSome w.ended) (sym step.is) refl
ended_stays v (CalledDetach e reply) new some step = subst (λ (w : ServingValue). IsSome w.ended) (sym step.is) some

-- and takes nothing more
pub ended_takes : (v : ServingValue) (es : List ServingEvent) (new : ServingValue) → IsSome v.ended → ServingRuns v es new → taken_in es ≡ []
ended_takes v [] new some runs = refl
ended_takes v (TookBytes bytes told ∷ es) new some runs = absurd (some_none v.ended runs.1.going some)
ended_takes v (GaveRoom room ∷ es) new some runs = absurd (some_none v.ended runs.1.going some)
ended_takes v (BeganTask t ∷ es) new some runs = absurd (some_none v.ended runs.1.going some)
ended_takes v (CallMade c ∷ es) new some runs =
    ended_takes runs.0 es new (ended_stays v (CallMade c) runs.0 some runs.1) runs.2
ended_takes v (AnswerGiven n ask verdict reply ∷ es) new some runs =
    ended_takes runs.0 es new (ended_stays v (AnswerGiven n ask verdict reply) runs.0 some runs.1) runs.2
ended_takes v (AnswerLost n ask verdict ∷ es) new some runs =
    ended_takes runs.0 es new (ended_stays v (AnswerLost n ask verdict) runs.0 some runs.1) runs.2
ended_takes v (InputStopped end ∷ es) new some runs =
    ended_takes runs.0 es new (ended_stays v (InputStopped end) runs.0 some runs.1) runs.2
ended_takes v (WireBroke ∷ es) new some runs =
    ended_takes runs.0 es new (ended_stays v WireBroke runs.0 some runs.1) runs.2
ended_takes v (CalledDetach e reply ∷ es) new some runs =
    ended_takes runs.0 es new (ended_stays v (CalledDetach e reply) runs.0 some runs.1) runs.2

ended_on : (v : ServingValue) (es : List ServingEvent) (new : ServingValue) → IsSome v.ended → ServingRuns v es new → IsSome new.ended
ended_on v [] new some runs = subst (λ (w : ServingValue). IsSome w.ended) (sym runs) some
ended_on v (e ∷ es) new some runs = ended_on runs.0 es new (ended_stays v e runs.0 some runs.1) runs.2

stop_ends : (v : ServingValue) (es : List ServingEvent) (new : ServingValue) → has_stop es ≡ true → ServingRuns v es new → IsSome new.ended
stop_ends v [] new is runs = absurd (true≢false (sym is))
stop_ends v (InputStopped end ∷ es) new is runs =
    ended_on runs.0 es new (subst (λ (w : ServingValue). IsSome w.ended) (sym runs.1.is) refl) runs.2
stop_ends v (TookBytes bytes told ∷ es) new is runs = stop_ends runs.0 es new is runs.2
stop_ends v (GaveRoom room ∷ es) new is runs = stop_ends runs.0 es new is runs.2
stop_ends v (BeganTask t ∷ es) new is runs = stop_ends runs.0 es new is runs.2
stop_ends v (CallMade c ∷ es) new is runs = stop_ends runs.0 es new is runs.2
stop_ends v (AnswerGiven n ask verdict reply ∷ es) new is runs = stop_ends runs.0 es new is runs.2
stop_ends v (AnswerLost n ask verdict ∷ es) new is runs = stop_ends runs.0 es new is runs.2
stop_ends v (WireBroke ∷ es) new is runs = stop_ends runs.0 es new is runs.2
stop_ends v (CalledDetach e reply ∷ es) new is runs = stop_ends runs.0 es new is runs.2

-- all was taken, and nothing more
pub all_first : (left : Option (List ℕ)) (waiting first second : List ℕ) → TakesAll left waiting first → second ≡ [] →
    TakesAll left waiting (first ++ second)
all_first left waiting first second all none =
    subst (λ (xs : List ℕ). TakesAll left waiting xs) (sym (append-nil first) ∙ ap (λ (ys : List ℕ). first ++ ys) (sym none)) all

-- some was taken, and then all that there was
pub all_second : (left left' : Option (List ℕ)) (waiting waiting' first second : List ℕ) → Takes left waiting first left' waiting' →
    TakesAll left' waiting' second → TakesAll left waiting (first ++ second)
all_second None left' waiting waiting' first second takes all = tt
all_second (Some xs) None waiting waiting' first second takes all = absurd takes.read
all_second (Some xs) (Some ys) waiting waiting' first second takes all =
    ap (λ (zs : List ℕ). waiting ++ zs) takes.read
    ∙ sym (append_assoc waiting takes.more ys)
    ∙ ap (λ (zs : List ℕ). zs ++ ys) takes.joined
    ∙ append_assoc first waiting' ys
    ∙ ap (λ (zs : List ℕ). first ++ zs) all

pub fault_first : (a b c : Current) (taken given : List ℕ) → FaultRose a b → Advanced taken given b c → FaultRose a c
fault_first a b c taken given rose on = elim rose [
  | inl read ↦ inl (omega (arith, read, on.reads))
  | inr write ↦ inr (omega (arith, write, on.writes))
]

pub fault_second : (a b c : Current) (taken given : List ℕ) → Advanced taken given a b → FaultRose b c → FaultRose a c
fault_second a b c taken given on rose = elim rose [
  | inl read ↦ inl (omega (arith, read, on.reads))
  | inr write ↦ inr (omega (arith, write, on.writes))
]

pub advanced_as : (taken taken' given given' : List ℕ) (old new : Current) → taken ≡ taken' → given ≡ given' → Advanced taken given old new →
    Advanced taken' given' old new
advanced_as taken taken' given given' old new t g on =
    subst (λ (xs : List ℕ). Advanced taken' xs old new) g (subst (λ (xs : List ℕ). Advanced xs given old new) t on)

pub serves_none : (a : ServingScene) → ServesOn [] a a
serves_none a = record {
  runs = refl;
  advanced = advanced_none a.current;
  at_end = λ is. absurd (true≢false (sym is));
  cause = λ is. absurd (true≢false (sym is));
  booked = refl;
}

-- what goes on behind what went on
pub serves_on : ServingJoins
serves_on a b c es fs first second = record {
  runs = runs_append a.value b.value c.value es fs first.runs second.runs;
  advanced = advanced_as _ _ _ _ a.current c.current (sym (taken_append es fs)) (sym (given_append es fs))
      (advanced_on (taken_in es) (taken_in fs) (given_out es) (given_out fs) a.current b.current c.current first.advanced second.advanced);
  at_end = λ is. subst (λ (xs : List ℕ). TakesAll a.current.left a.current.waiting xs) (sym (taken_append es fs))
      (elim (stop_or es fs is) [
        | inl one ↦ all_first a.current.left a.current.waiting (taken_in es) (taken_in fs) (first.at_end one)
            (ended_takes b.value fs c.value (stop_ends a.value es b.value one first.runs) second.runs)
        | inr two ↦ all_second a.current.left b.current.left a.current.waiting b.current.waiting (taken_in es) (taken_in fs)
            first.advanced.takes (second.at_end two)
      ]);
  cause = λ is. elim (break_or es fs is) [
    | inl one ↦ fault_first a.current b.current c.current _ _ (first.cause one) second.advanced
    | inr two ↦ fault_second a.current b.current c.current _ _ first.advanced (second.cause two)
  ];
  booked = second.booked ∙ ap (λ (book : Book). noted_all fs book) first.booked ∙ sym (noted_append es fs a.book);
}

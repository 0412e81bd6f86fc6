-- Runs of events, one behind the other.
use Rattle.std.proofs.Common.{◌≡◌, ℕ, ◌⊎◌, inl, inr, true, false, true≢false, List, [], ◌∷◌, ◌++◌, refl, sym, ap, ◌∙◌, subst, append_assoc}
use Rattle.qs_nbd_handshake.specs.Phases.{Reader}
use Rattle.qs_status.specs.declared.status.SessionEnd.{SessionEnd}
use Rattle.qs_status.specs.declared.status.SessionEnd.TheVariants.{LinkFault}
use Rattle.qs_serving.specs.Graphs.{graph_noted}
use Rattle.qs_serving.specs.Scenes.{TakesAll}
use Rattle.qs_serving.proofs.Running.{advanced_as, all_first, all_second, fault_first, fault_second}
use Rattle.qs_task.specs.Books.{Book}
use Rattle.qs_wire_stream.proofs.Advancing.{advanced_none, advanced_on}
use Rattle.qs_handshake_phase.specs.Greetings.{Closed, GreetingEvent, GreetingRuns, GreetingStep, InputStopped, OptionAnswered, OptionLost, Stand, Talks, TookBytes, WireBroke, calls_of, given_out, has_break, has_stop, taken_in}
use Rattle.qs_handshake_phase.specs.Scenes.{GreetingJoins, GreetingScene, GreetsOn, GreetsSome}
use Rattle.qs_handshake_phase.specs.Tellings.{OwnCall, noted_calls}

pub runs_append : (a b c : Stand) (es fs : List GreetingEvent) → GreetingRuns a es b → GreetingRuns b fs c → GreetingRuns a (es ++ fs) c
runs_append a b c [] fs first second = subst (λ (s : Stand). GreetingRuns s fs c) first second
runs_append a b c (e ∷ es) fs first second = (first.0, first.1, runs_append first.0 b c es fs first.2 second)

pub taken_append : (es fs : List GreetingEvent) → taken_in (es ++ fs) ≡ taken_in es ++ taken_in fs
taken_append [] fs = refl
taken_append (TookBytes bytes told ∷ es) fs =
    ap (λ (xs : List ℕ). bytes ++ xs) (taken_append es fs) ∙ sym (append_assoc bytes (taken_in es) (taken_in fs))
taken_append (OptionAnswered calls told text ∷ es) fs = taken_append es fs
taken_append (OptionLost calls ∷ es) fs = taken_append es fs
taken_append (InputStopped end ∷ es) fs = taken_append es fs
taken_append (WireBroke ∷ es) fs = taken_append es fs

pub given_append : (es fs : List GreetingEvent) → given_out (es ++ fs) ≡ given_out es ++ given_out fs
given_append [] fs = refl
given_append (OptionAnswered calls told text ∷ es) fs =
    ap (λ (xs : List ℕ). text ++ xs) (given_append es fs) ∙ sym (append_assoc text (given_out es) (given_out fs))
given_append (TookBytes bytes told ∷ es) fs = given_append es fs
given_append (OptionLost calls ∷ es) fs = given_append es fs
given_append (InputStopped end ∷ es) fs = given_append es fs
given_append (WireBroke ∷ es) fs = given_append es fs

pub calls_append : (es fs : List GreetingEvent) → calls_of (es ++ fs) ≡ calls_of es ++ calls_of fs
calls_append [] fs = refl
calls_append (OptionAnswered calls told text ∷ es) fs =
    ap (λ (xs : List OwnCall). calls ++ xs) (calls_append es fs) ∙ sym (append_assoc calls (calls_of es) (calls_of fs))
calls_append (OptionLost calls ∷ es) fs =
    ap (λ (xs : List OwnCall). calls ++ xs) (calls_append es fs) ∙ sym (append_assoc calls (calls_of es) (calls_of fs))
calls_append (TookBytes bytes told ∷ es) fs = calls_append es fs
calls_append (InputStopped end ∷ es) fs = calls_append es fs
calls_append (WireBroke ∷ es) fs = calls_append es fs

pub noted_append : (one two : List OwnCall) (book : Book) → noted_calls (one ++ two) book ≡ noted_calls two (noted_calls one book)
noted_append [] two book = refl
noted_append (c ∷ one) two book = noted_append one two (graph_noted c.op c.reply book)

stop_or : (es fs : List GreetingEvent) → has_stop (es ++ fs) ≡ true → (has_stop es ≡ true) ⊎ (has_stop fs ≡ true)
stop_or [] fs is = inr is
stop_or (InputStopped end ∷ es) fs is = inl refl
stop_or (TookBytes bytes told ∷ es) fs is = stop_or es fs is
stop_or (OptionAnswered calls told text ∷ es) fs is = stop_or es fs is
stop_or (OptionLost calls ∷ es) fs is = stop_or es fs is
stop_or (WireBroke ∷ es) fs is = stop_or es fs is

break_or : (es fs : List GreetingEvent) → has_break (es ++ fs) ≡ true → (has_break es ≡ true) ⊎ (has_break fs ≡ true)
break_or [] fs is = inr is
break_or (WireBroke ∷ es) fs is = inl refl
break_or (TookBytes bytes told ∷ es) fs is = break_or es fs is
break_or (OptionAnswered calls told text ∷ es) fs is = break_or es fs is
break_or (OptionLost calls ∷ es) fs is = break_or es fs is
break_or (InputStopped end ∷ es) fs is = break_or es fs is

closed_talks : (end : SessionEnd) (reader : Reader) → Closed end ≡ Talks reader → ⊥
closed_talks end reader is = cc

-- a session that has ended takes nothing more
closed_takes : (end : SessionEnd) (es : List GreetingEvent) (new : Stand) → GreetingRuns (Closed end) es new → taken_in es ≡ []
closed_takes end [] new runs = refl
closed_takes end (TookBytes bytes told ∷ es) new runs = absurd (closed_talks end runs.1.before runs.1.talks)
closed_takes end (OptionAnswered calls told text ∷ es) new runs = absurd (closed_talks end runs.1.reader runs.1.talks)
closed_takes end (OptionLost calls ∷ es) new runs = absurd (closed_talks end runs.1.reader runs.1.talks)
closed_takes end (InputStopped at ∷ es) new runs = absurd (closed_talks end runs.1.reader runs.1.talks)
closed_takes end (WireBroke ∷ es) new runs =
    closed_takes LinkFault es new (subst (λ (s : Stand). GreetingRuns s es new) runs.1.1 runs.2)

-- nor does one whose input stopped
stop_takes : (s mid : Stand) (es fs : List GreetingEvent) (new : Stand) → has_stop es ≡ true → GreetingRuns s es mid →
    GreetingRuns mid fs new → taken_in fs ≡ []
stop_takes s mid [] fs new is first second = absurd (true≢false (sym is))
stop_takes s mid (InputStopped end ∷ es) fs new is first second =
    after end es (subst (λ (t : Stand). GreetingRuns t es mid) first.1.is first.2)
  where
    after : (e : SessionEnd) (rest : List GreetingEvent) → GreetingRuns (Closed e) rest mid → taken_in fs ≡ []
    after e [] runs = closed_takes e fs new (subst (λ (t : Stand). GreetingRuns t fs new) runs second)
    after e (TookBytes bytes told ∷ rest) runs = absurd (closed_talks e runs.1.before runs.1.talks)
    after e (OptionAnswered calls told text ∷ rest) runs = absurd (closed_talks e runs.1.reader runs.1.talks)
    after e (OptionLost calls ∷ rest) runs = absurd (closed_talks e runs.1.reader runs.1.talks)
    after e (InputStopped at ∷ rest) runs = absurd (closed_talks e runs.1.reader runs.1.talks)
    after e (WireBroke ∷ rest) runs = after LinkFault rest (subst (λ (t : Stand). GreetingRuns t rest mid) runs.1.1 runs.2)
stop_takes s mid (TookBytes bytes told ∷ es) fs new is first second = stop_takes first.0 mid es fs new is first.2 second
stop_takes s mid (OptionAnswered calls told text ∷ es) fs new is first second = stop_takes first.0 mid es fs new is first.2 second
stop_takes s mid (OptionLost calls ∷ es) fs new is first second = stop_takes first.0 mid es fs new is first.2 second
stop_takes s mid (WireBroke ∷ es) fs new is first second = stop_takes first.0 mid es fs new is first.2 second

pub greets_none : (a : GreetingScene) → GreetsOn [] a a
greets_none a = record {
  runs = refl;
  advanced = advanced_none a.current;
  at_end = λ is. absurd (true≢false (sym is));
  cause = λ is. absurd (true≢false (sym is));
  booked = refl;
}

-- what goes on behind what went on
pub greets_on : GreetingJoins
greets_on a b c es fs first second = record {
  runs = runs_append a.stand b.stand c.stand es fs first.runs second.runs;
  advanced = advanced_as _ _ _ _ a.current c.current (sym (taken_append es fs)) (sym (given_append es fs))
      (advanced_on (taken_in es) (taken_in fs) (given_out es) (given_out fs) a.current b.current c.current first.advanced second.advanced);
  at_end = λ is. subst (λ (xs : List ℕ). TakesAll a.current.left a.current.waiting xs) (sym (taken_append es fs))
      (elim (stop_or es fs is) [
        | inl one ↦ all_first a.current.left a.current.waiting (taken_in es) (taken_in fs) (first.at_end one)
            (stop_takes a.stand b.stand es fs c.stand one first.runs second.runs)
        | inr two ↦ all_second a.current.left b.current.left a.current.waiting b.current.waiting (taken_in es) (taken_in fs)
            first.advanced.takes (second.at_end two)
      ]);
  cause = λ is. elim (break_or es fs is) [
    | inl one ↦ fault_first a.current b.current c.current _ _ (first.cause one) second.advanced
    | inr two ↦ fault_second a.current b.current c.current _ _ first.advanced (second.cause two)
  ];
  booked = second.booked ∙ ap (λ (book : Book). noted_calls (calls_of fs) book) first.booked
      ∙ sym (noted_append (calls_of es) (calls_of fs) a.book)
      ∙ ap (λ (calls : List OwnCall). noted_calls calls a.book) (sym (calls_append es fs));
}

pub some_none : (a : GreetingScene) → GreetsSome a a
some_none a = record { events = []; greets = greets_none a }

pub some_on : (a b c : GreetingScene) → GreetsSome a b → GreetsSome b c → GreetsSome a c
some_on a b c first second = record {
  events = first.events ++ second.events;
  greets = greets_on a b c first.events second.events first.greets second.greets;
}

-- What a read brings, and what the reader tells.
use Rattle.std.proofs.Common.{◌≡◌, ◌≢◌, ℕ, inl, true, false, true≢false, List, [], ◌∷◌, ◌++◌, refl, sym, ap, ◌∙◌, subst, append-nil}
use Rattle.std.specs.Prelude.{Option, Some, None}
use Rattle.qs_links.specs.declared.wire.Tried.TheVariants.{Ended, Failed}
use Rattle.qs_nbd_transmission.specs.Phases.{end_at}
use Rattle.qs_status.specs.declared.status.SessionEnd.{SessionEnd}
use Rattle.qs_status.specs.declared.status.SessionEnd.TheVariants.{LinkFault}
use Rattle.qs_task.specs.Books.{Book}
use Rattle.qs_task.specs.Crews.{CrewValue}
use Rattle.qs_wire_stream.specs.Currents.{Current, TriesRead}
use Rattle.qs_serving.proofs.Running.{serves_none, serves_on}
use Rattle.qs_serving.proofs.Streams.{all_ended}
use Rattle.qs_serving.specs.Answers.{is_fault}
use Rattle.qs_serving.specs.Events.{InputStopped, WireBroke}
use Rattle.qs_serving.specs.Scenes.{ServingScene, TakesAll}
use Rattle.qs_serving.specs.Steps.{ServingValue, closed_as, left_if}
use Rattle.qs_transmission_phase.specs.Inside.{PhaseValue}
use Rattle.qs_transmission_phase.specs.Serves.{IsInPlace, ServesSome, phase_scene}

pub not_broken : (o : Option SessionEnd) → o ≡ None → o ≢ Some LinkFault
not_broken o is broken = let e : None ≡ Some LinkFault = sym is ∙ broken in (cc)

-- the session closes so
pub closed_is : (v : ServingValue) (end : SessionEnd) (ended : Option SessionEnd) (crew : CrewValue) → ended ≡ Some end →
    crew ≡ left_if (is_fault end) v.crew → record v { ended = ended; crew = crew } ≡ closed_as end v
closed_is v end ended crew is left =
    ap (λ (o : Option SessionEnd). record v { ended = o; crew = crew }) is
    ∙ ap (λ (w : CrewValue). record v { ended = Some end; crew = w }) left

pub read_stops : (v : ServingValue) (a c : Current) (book : Book) (end : SessionEnd) (ended : Option SessionEnd) (crew : CrewValue) →
    v.ended ≡ None → TriesRead Ended a c → end ≡ end_at v.reader.phase → ended ≡ Some end → crew ≡ left_if (is_fault end) v.crew →
    ServesSome (record { value = v; current = a; book = book })
    (record { value = record v { ended = ended; crew = crew }; current = c; book = book })
read_stops v a c book end ended crew going reads at is left = record {
  events = InputStopped end ∷ [];
  serves = record {
    runs = (record v { ended = ended; crew = crew }, record { going = going; at_end = at; is = closed_is v end ended crew is left }, refl);
    advanced = reads.advanced;
    at_end = λ stop. all_ended a.left c.left a.waiting c.waiting reads.advanced.takes reads.came reads.at_end;
    cause = λ broke. absurd (true≢false (sym broke));
    booked = refl;
  };
}

pub read_breaks : (v : ServingValue) (a c : Current) (book : Book) (ended : Option SessionEnd) (crew : CrewValue) →
    v.ended ≡ None → v.detached ≡ false → TriesRead Failed a c → ended ≡ Some LinkFault → crew ≡ left_if true v.crew →
    ServesSome (record { value = v; current = a; book = book })
    (record { value = record v { ended = ended; crew = crew }; current = c; book = book })
read_breaks v a c book ended crew going there reads is left = record {
  events = WireBroke ∷ [];
  serves = record {
    runs = (
      record v { ended = ended; crew = crew },
      record { whole = not_broken v.ended going; there = there; is = closed_is v LinkFault ended crew is left },
      refl,
    );
    advanced = reads.advanced;
    at_end = λ stop. absurd (true≢false (sym stop));
    cause = λ broke. inl reads.cause.1;
    booked = refl;
  };
}

-- the scene before, by the fields of the phase
pub from_fields : {W : Type 0} (left sent : W → Option (List ℕ)) (read_faults write_faults waits : W → ℕ) (book : Book) (p q : PhaseValue W)
    (new : ServingScene) → p ≡ q → ServesSome (phase_scene left sent read_faults write_faults waits book p) new →
    ServesSome (phase_scene left sent read_faults write_faults waits book q) new
from_fields {W} left sent read_faults write_faults waits book p q new is serves =
    subst (λ (r : PhaseValue W). ServesSome (phase_scene left sent read_faults write_faults waits book r) new) is serves

-- what is said of the phase, of its fields
pub going_from : {W : Type 0} (p q : PhaseValue W) (o : Option SessionEnd) → p ≡ q → q.value.ended ≡ o → p.value.ended ≡ o
going_from {W} p q o is going = ap (λ (r : PhaseValue W). r.value.ended) is ∙ going

pub there_from : {W : Type 0} (p q : PhaseValue W) → p ≡ q → q.value.detached ≡ false → p.value.detached ≡ false
there_from {W} p q is there = ap (λ (r : PhaseValue W). r.value.detached) is ∙ there

pub some_none : (a : ServingScene) → ServesSome a a
some_none a = record { events = []; serves = serves_none a }

pub some_on : (a b c : ServingScene) → ServesSome a b → ServesSome b c → ServesSome a c
some_on a b c first second = record {
  events = first.events ++ second.events;
  serves = serves_on a b c first.events second.events first.serves second.serves;
}

pub place_none : (a : ServingValue) → IsInPlace a a
place_none a = record { shape = refl; detached = refl }

pub place_on : (a b c : ServingValue) → IsInPlace a b → IsInPlace b c → IsInPlace a c
place_on a b c first second = record { shape = second.shape ∙ first.shape; detached = second.detached ∙ first.detached }

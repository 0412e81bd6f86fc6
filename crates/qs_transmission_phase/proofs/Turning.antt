-- How rounds and turns end.
use Rattle.std.proofs.Common.{◌≡◌, ◌≢◌, ℕ, ◌≤◌, ◌⊎◌, inl, inr, Bool, true, false, true≢false, List, [], ◌∷◌, ◌++◌, refl, sym, ap, ◌∙◌, subst, arith, append-nil}
use Rattle.std.specs.Prelude.{Option, Some, None, IsSome, is_some, MatchOption}
use Rattle.qs_outside.specs.Faults.{Rose}
use Rattle.qs_status.specs.declared.status.SessionEnd.{SessionEnd}
use Rattle.qs_status.specs.declared.status.SessionEnd.TheVariants.{LinkFault}
use Rattle.qs_task.specs.Books.{Book}
use Rattle.qs_task.specs.Crews.{CrewValue, live_by_number}
use Rattle.qs_task.specs.declared.need.Need.{Need}
use Rattle.qs_wire_stream.specs.Currents.{Current, TriesWrite}
use Rattle.qs_wire_stream.specs.declared.gathered.Sending.{Sending}
use Rattle.qs_wire_stream.specs.declared.gathered.Sending.TheVariants.{Failed}
use Rattle.qs_serving.proofs.Running.{serves_on, stopped_append}
use Rattle.qs_serving.specs.Events.{ServingEvent, WireBroke}
use Rattle.qs_serving.specs.Scenes.{ServesOn, ServingScene}
use Rattle.qs_serving.specs.Steps.{ServingValue, left_if}
use Rattle.qs_serving.specs.Turns.{IsSettled, IsUndue, SeatTurn, TellsWait, WaitsFor, stopped_at}
use Rattle.qs_serving.specs.declared.turned.Awaited.{Awaited}
use Rattle.qs_serving.specs.declared.turned.Awaited.TheVariants.{Wire, Part}
use Rattle.qs_serving.specs.declared.turned.SessionTurn.{SessionTurn}
use Rattle.qs_serving.specs.declared.turned.SessionTurn.TheVariants.{Pending, Ended}
use Rattle.qs_transmission_phase.proofs.Polling.{still_stopped, stopped_any}
use Rattle.qs_transmission_phase.proofs.Reading.{closed_is, some_on}
use Rattle.qs_transmission_phase.specs.Serves.{AwaitsAs, PollsEach, Rounds, ServesSome, ServesToEnd, Settles, WaitsSome, WritesAs}

pub write_breaks : (v : ServingValue) (a c : Current) (book : Book) (ended : Option SessionEnd) (crew : CrewValue) →
    v.ended ≢ Some LinkFault → v.detached ≡ false → TriesWrite Failed a c → ended ≡ Some LinkFault → crew ≡ left_if true v.crew →
    ServesSome (record { value = v; current = a; book = book })
    (record { value = record v { ended = ended; crew = crew }; current = c; book = book })
write_breaks v a c book ended crew whole there writes is left = record {
  events = WireBroke ∷ [];
  serves = record {
    runs = (record v { ended = ended; crew = crew }, record { whole = whole; there = there; is = closed_is v LinkFault ended crew is left }, refl);
    advanced = writes.advanced;
    at_end = λ stop. absurd (true≢false (sym stop));
    cause = λ broke. inr writes.cause.1;
    booked = refl;
  };
}

pub writes_failed : (sending : Sending) (a b : ServingScene) → sending ≡ Failed → ServesSome a b → WritesAs sending a b
writes_failed sending a b is serves = subst (λ (s : Sending). WritesAs s a b) (sym is) serves

-- a turn that waits, or another round where it isn't told for what
pub settles_wait : (starved : Bool) (wait : Option Need) (result : Option SessionTurn) (awaited : Option Awaited) (a b : ServingScene) →
    ServesOn [] a b → b.value ≡ a.value → AwaitsAs wait b.value awaited →
    MatchOption awaited (result ≡ None) (λ x. result ≡ Some (Pending x)) →
    (Rose a.current.waits b.current.waits ⊎ (IsSettled b × ((starved ≡ true) ⊎ IsUndue b.value))) → Settles starved wait result a b
settles_wait starved wait result None a b serves same awaits is wire =
    subst (λ (r : Option SessionTurn). Settles starved wait r a b) (sym is) (record { events = []; serves = serves })
settles_wait starved wait result (Some awaited) a b serves same awaits is wire =
    subst (λ (r : Option SessionTurn). Settles starved wait r a b) (sym is) (serves, same, awaits, wire)

rose_second : (a b c : ℕ) → a ≤ b → Rose b c → Rose a c
rose_second a b c le rose = omega (arith, rose)

rose_first : (a b c : ℕ) → Rose a b → b ≤ c → Rose a c
rose_first a b c rose le = omega (arith, rose)

-- behind a write that changed nothing else
pub settles_behind : (starved : Bool) (wait : Option Need) (result : Option SessionTurn) (a b c : ServingScene) → ServesOn [] a b →
    b.value ≡ a.value → Settles starved wait result b c → Settles starved wait result a c
settles_behind starved wait None a b c first same settles = some_on a b c (record { events = []; serves = first }) settles
settles_behind starved wait (Some (Pending awaited)) a b c first same settles = (
  serves_on a b c [] [] first settles.0,
  settles.1 ∙ same,
  settles.2,
  elim settles.3 [
    | inl rose ↦ inl (rose_second a.current.waits b.current.waits c.current.waits first.advanced.waits rose)
    | inr rest ↦ inr rest
  ],
)
settles_behind starved wait (Some (Ended end)) a b c first same settles =
    (some_on a b c (record { events = []; serves = first }) settles.0, settles.1)

module _ (a b c d : ServingScene) (starved : Bool) (wait : Option Need) (listened : ServesSome a b) (polled : PollsEach wait b c)
    (there : c.value.detached ≡ false) (rose : starved ≡ true → Rose a.current.waits b.current.waits) where
  all : List ServingEvent
  all = listened.events ++ polled.events

  to_polled : ServesOn (listened.events ++ polled.events) a c
  to_polled = serves_on a b c listened.events polled.events listened.serves polled.serves

  tells : (awaited : Awaited) (events : List ServingEvent) (e : events ≡ (listened.events ++ polled.events) ++ []) → d.value ≡ c.value →
      AwaitsAs wait d.value (Some awaited) → TellsWait awaited events d.value
  tells Wire events e same awaits = awaits
  tells (Part need) events e same awaits =
      let waits : WaitsSome (Some need) polled.events c = subst (λ (o : Option Need). WaitsSome o polled.events c) awaits polled.waits in (
        waits.0,
        subst (λ (v : ServingValue). IsSome (live_by_number waits.0 v.crew.live)) (sym same) waits.1,
        ap (λ (es : List ServingEvent). stopped_at waits.0 None es) (e ∙ append-nil (listened.events ++ polled.events))
            ∙ stopped_append waits.0 listened.events polled.events None
            ∙ stopped_any waits.0 polled.events _ need waits.2,
      )

  pending : (awaited : Awaited) (settles : Settles starved wait (Some (Pending awaited)) c d) →
      WaitsFor awaited ((listened.events ++ polled.events) ++ []) a d
  pending awaited settles = record {
    stopped = λ m q low live.
        let lived : live_by_number m c.value.crew.live ≡ Some q = subst (λ (v : ServingValue). live_by_number m v.crew.live ≡ Some q) settles.1 live in
        ap (λ (es : List ServingEvent). is_some (stopped_at m None es)) (append-nil (listened.events ++ polled.events))
        ∙ ap is_some (stopped_append m listened.events polled.events None)
        ∙ still_stopped m polled.events (stopped_at m None listened.events) (polled.stopped m q low lived);
    wire = elim settles.3 [
      | inl late ↦ inl (rose_second a.current.waits c.current.waits d.current.waits to_polled.advanced.waits late)
      | inr rest ↦ elim rest.1 [
        | inl is ↦ inl (rose_first a.current.waits b.current.waits d.current.waits (rose is)
            (let later : c.current.waits ≤ d.current.waits = settles.0.advanced.waits in omega (arith, polled.serves.advanced.waits)))
        | inr undue ↦ inr (rest.0, undue)
      ]
    ];
    told = tells awaited ((listened.events ++ polled.events) ++ []) refl settles.1 settles.2;
    there = ap (λ (v : ServingValue). v.detached) settles.1 ∙ there;
  }

  pub round_ends : (result : Option SessionTurn) → Settles starved wait result c d → Rounds result a d
  round_ends None settles = record {
    events = (listened.events ++ polled.events) ++ settles.events;
    serves = serves_on a c d (listened.events ++ polled.events) settles.events to_polled settles.serves;
    leaves = tt;
  }
  round_ends (Some (Pending awaited)) settles = record {
    events = (listened.events ++ polled.events) ++ [];
    serves = serves_on a c d (listened.events ++ polled.events) [] to_polled settles.0;
    leaves = pending awaited settles;
  }
  round_ends (Some (Ended end)) settles = record {
    events = (listened.events ++ polled.events) ++ settles.0.events;
    serves = serves_on a c d (listened.events ++ polled.events) settles.0.events to_polled settles.0.serves;
    leaves = settles.1;
  }

-- ---- rounds one after the other
pub turn_goes : (a b c : ServingScene) → ServesSome a b → Rounds None b c → ServesSome a c
turn_goes a b c first round = some_on a b c first (record { events = round.events; serves = round.serves })

waits_later : (a b c : ServingScene) (before es : List ServingEvent) (awaited : Awaited) → ServesOn before a b → WaitsFor awaited es b c →
    WaitsFor awaited (before ++ es) a c
waits_later a b c before es awaited first waits = record {
  stopped = λ m q low live. ap is_some (stopped_append m before es None) ∙ still_stopped m es (stopped_at m None before) (waits.stopped m q low live);
  wire = elim waits.wire [
    | inl rose ↦ inl (rose_second a.current.waits b.current.waits c.current.waits first.advanced.waits rose)
    | inr rest ↦ inr rest
  ];
  told = tells_later awaited waits.told;
  there = waits.there;
}
  where
    tells_later : (awaited : Awaited) → TellsWait awaited es c.value → TellsWait awaited (before ++ es) c.value
    tells_later Wire told = told
    tells_later (Part need) told =
        (told.0, told.1, stopped_append told.0 before es None ∙ stopped_any told.0 es (stopped_at told.0 None before) need told.2)

pub turn_ends : (a b c : ServingScene) (turned : SessionTurn) → ServesSome a b → Rounds (Some turned) b c → SeatTurn turned a c
turn_ends a b c (Pending awaited) first round = record {
  events = first.events ++ round.events;
  serves = serves_on a b c first.events round.events first.serves round.serves;
  leaves = waits_later a b c first.events round.events awaited first.serves round.leaves;
}
turn_ends a b c (Ended end) first round = record {
  events = first.events ++ round.events;
  serves = serves_on a b c first.events round.events first.serves round.serves;
  leaves = round.leaves;
}

-- ---- turns one after the other
pub serve_goes : (a b b' c : ServingScene) (awaited : Awaited) → ServesSome a b → b' ≡ b → SeatTurn (Pending awaited) b' c → ServesSome a c
serve_goes a b b' c awaited first same turn =
    some_on a b c first (subst (λ (x : ServingScene). ServesSome x c) same (record { events = turn.events; serves = turn.serves }))

pub serve_ends : (a b b' c : ServingScene) (end : SessionEnd) → ServesSome a b → b' ≡ b → SeatTurn (Ended end) b' c → ServesToEnd end a c
serve_ends a b b' c end first same turn = record {
  events = first.events ++ turn.events;
  serves = serves_on a b c first.events turn.events first.serves (subst (λ (x : ServingScene). ServesOn turn.events x c) same turn.serves);
  leaves = turn.leaves;
}

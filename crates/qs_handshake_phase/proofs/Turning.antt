-- Rounds, and the turn that they make.
use Rattle.std.proofs.Common.{◌≡◌, ℕ, ◌≤◌, ◌⊎◌, inl, inr, List, [], ◌∷◌, ◌++◌, true, false, true≢false, refl, sym, ap, ◌∙◌, subst, arith}
use Rattle.std.specs.Prelude.{Option, Some, None}
use Rattle.qs_nbd_handshake.specs.Phases.{Reader}
use Rattle.qs_outside.specs.Faults.{Rose}
use Rattle.qs_status.specs.declared.status.SessionEnd.{SessionEnd}
use Rattle.qs_status.specs.declared.status.SessionEnd.TheVariants.{LinkFault}
use Rattle.qs_task.specs.Books.{Book}
use Rattle.qs_wire_stream.specs.Currents.{Current, TriesWrite, current}
use Rattle.qs_wire_stream.specs.Pending.{WireBuffers}
use Rattle.qs_wire_stream.specs.declared.gathered.Sending.TheVariants.{Failed}
use Rattle.qs_handshake_phase.specs.declared.end.HandshakeEnd.{HandshakeEnd}
use Rattle.qs_handshake_phase.specs.declared.end.HandshakeEnd.TheVariants as over
use Rattle.qs_handshake_phase.specs.declared.turns.Round.{Round}
use Rattle.qs_handshake_phase.specs.declared.turns.Round.TheVariants as round
use Rattle.qs_handshake_phase.specs.Asks.{IsServing, MayWrite, RoundLeaves, Rounds, WritesAs}
use Rattle.qs_wire_stream.specs.declared.gathered.Sending.{Sending}
use Rattle.qs_handshake_phase.specs.Greetings.{Closed, MayBreak, WireBroke}
use Rattle.qs_handshake_phase.specs.Scenes.{GreetingScene, GreetsOn, GreetsSome, PhaseValue, greeting_scene, stand_of}
use Rattle.qs_handshake_phase.specs.Turns.{GreetingTurn, TurnLeaves}
use Rattle.qs_handshake_phase.proofs.Hearing.{from_fields, scene_of}
use Rattle.qs_handshake_phase.proofs.Running.{greets_none, greets_on}

leaves_on : (a b c : GreetingScene) (r : Round) → a.current.waits ≤ b.current.waits → RoundLeaves r b c → RoundLeaves r a c
leaves_on a b c round.Goes later leaves = tt
leaves_on a b c round.Waits later leaves = omega (arith, later, leaves)
leaves_on a b c (round.Over (over.Serves mode e)) later leaves = leaves
leaves_on a b c (round.Over (over.Closed end)) later leaves = leaves

-- a round behind what went on before
pub rounds_on : (a b c : GreetingScene) (r : Round) → GreetsSome a b → Rounds r b c → Rounds r a c
rounds_on a b c r first second = record {
  events = first.events ++ second.events;
  greets = greets_on a b c first.events second.events first.greets second.greets;
  leaves = leaves_on a b c r first.greets.advanced.waits second.leaves;
}

pub goes_of : (a b : GreetingScene) → GreetsSome a b → Rounds round.Goes a b
goes_of a b some = record { events = some.events; greets = some.greets; leaves = tt }

pub waits_of : (a b : GreetingScene) → GreetsSome a b → Rose a.current.waits b.current.waits → Rounds round.Waits a b
waits_of a b some rose = record { events = some.events; greets = some.greets; leaves = rose }

-- the handshake has ended
pub over_of : (reader : Reader) (a : Current) (book : Book) (o : Option HandshakeEnd) (end : HandshakeEnd) → o ≡ Some end →
    ((a.held ≡ []) ⊎ (o ≡ Some (over.Closed LinkFault))) →
    Rounds (round.Over end) (scene_of (stand_of reader o) a book) (scene_of (stand_of reader o) a book)
over_of reader a book o end is settled = record {
  events = [];
  greets = greets_none (scene_of (stand_of reader o) a book);
  leaves = subst (λ (x : Option HandshakeEnd). TurnLeaves (Some end) (scene_of (stand_of reader x) a book) (scene_of (stand_of reader x) a book)) (sym is)
      (ends end (elim settled [
        | inl written ↦ inl written
        | inr broken ↦ inr (sym is ∙ broken)
      ]));
}
  where
    closed_is : (e : SessionEnd) → Some (over.Closed e) ≡ Some (over.Closed LinkFault) → e ≡ LinkFault
    closed_is e same = cc

    ends : (e : HandshakeEnd) → ((a.held ≡ []) ⊎ (Some e ≡ Some (over.Closed LinkFault))) →
        TurnLeaves (Some e) (scene_of (stand_of reader (Some e)) a book) (scene_of (stand_of reader (Some e)) a book)
    ends (over.Serves mode e) why = refl
    ends (over.Closed e) why = (refl, elim why [ inl written ↦ inr written | inr same ↦ inl (closed_is e same) ])

pub serves_of : (reader : Reader) (a : Current) (book : Book) (o : Option HandshakeEnd) (end : HandshakeEnd) → o ≡ Some end → IsServing end →
    Rounds (round.Over end) (scene_of (stand_of reader o) a book) (scene_of (stand_of reader o) a book)
serves_of reader a book o end is serving = record {
  events = [];
  greets = greets_none (scene_of (stand_of reader o) a book);
  leaves = subst (λ (x : Option HandshakeEnd). TurnLeaves (Some end) (scene_of (stand_of reader x) a book) (scene_of (stand_of reader x) a book)) (sym is)
      (follows end serving);
}
  where
    follows : (e : HandshakeEnd) → IsServing e → TurnLeaves (Some e) (scene_of (stand_of reader (Some e)) a book) (scene_of (stand_of reader (Some e)) a book)
    follows (over.Serves mode at) serving = refl
    follows (over.Closed e) serving = absurd serving

pub turn_waits : (a b : GreetingScene) → Rounds round.Waits a b → GreetingTurn None a b
turn_waits a b rounds = record { events = rounds.events; greets = rounds.greets; leaves = rounds.leaves }

pub turn_over : (a b : GreetingScene) (end : HandshakeEnd) → Rounds (round.Over end) a b → GreetingTurn (Some end) a b
turn_over a b end rounds = record { events = rounds.events; greets = rounds.greets; leaves = rounds.leaves }

may_break : (reader : Reader) (o : Option HandshakeEnd) → MayWrite o → (o ≡ Some (over.Closed LinkFault) → ⊥) → MayBreak (stand_of reader o)
may_break reader None may whole = tt
may_break reader (Some (over.Serves mode e)) may whole = absurd may
may_break reader (Some (over.Closed end)) may whole = λ is. whole (ap (λ (x : SessionEnd). Some (over.Closed x)) is)

-- a write failed
pub write_breaks : (reader : Reader) (o : Option HandshakeEnd) (a c : Current) (book : Book) → MayWrite o →
    (o ≡ Some (over.Closed LinkFault) → ⊥) → TriesWrite Failed a c →
    GreetsSome (scene_of (stand_of reader o) a book) (scene_of (Closed LinkFault) c book)
write_breaks reader o a c book may whole writes = record {
  events = WireBroke ∷ [];
  greets = record {
    runs = (Closed LinkFault, (may_break reader o may whole, refl), refl);
    advanced = writes.advanced;
    at_end = λ stop. absurd (true≢false (sym stop));
    cause = λ broke. inr writes.cause.1;
    booked = refl;
  };
}

pub some_of : (a b : GreetingScene) (r : Round) → Rounds r a b → GreetsSome a b
some_of a b r rounds = record { events = rounds.events; greets = rounds.greets }

-- the same of a phase, by its fields
pub breaks_fields : {W : Type 0} (left sent : W → Option (List ℕ)) (read_faults write_faults waits : W → ℕ) (book : Book) (q : PhaseValue W)
    (reader : Reader) (o : Option HandshakeEnd) (before after : WireBuffers W) →
    record { reader = reader; over = o; stream = before } ≡ q → MayWrite q.over → (q.over ≡ Some (over.Closed LinkFault) → ⊥) →
    TriesWrite Failed (current left sent read_faults write_faults waits before) (current left sent read_faults write_faults waits after) →
    (sending : Sending) → sending ≡ Failed →
    WritesAs sending (greeting_scene left sent read_faults write_faults waits book q)
    (greeting_scene left sent read_faults write_faults waits book (record { reader = reader; over = Some (over.Closed LinkFault); stream = after }))
breaks_fields {W} left sent read_faults write_faults waits book q reader o before after is may whole writes sending failed =
    let same : o ≡ q.over = ap (λ (p : PhaseValue W). p.over) is in
    subst (λ (s : Sending). WritesAs s (greeting_scene left sent read_faults write_faults waits book q)
    (greeting_scene left sent read_faults write_faults waits book (record { reader = reader; over = Some (over.Closed LinkFault); stream = after }))) (sym failed)
    (from_fields left sent read_faults write_faults waits book _ q _ is
    (write_breaks reader o _ _ book (subst MayWrite (sym same) may) (λ broken. whole (sym same ∙ broken)) writes))

-- how a session stands that has ended by its wire
broken_over : (reader : Reader) (o : Option HandshakeEnd) → stand_of reader o ≡ Closed LinkFault → o ≡ Some (over.Closed LinkFault)
broken_over reader None is = absurd (cc)
broken_over reader (Some (over.Serves mode e)) is = absurd (cc)
broken_over reader (Some (over.Closed end)) is = ap (λ (x : SessionEnd). Some (over.Closed x)) (end_is is)
  where
    end_is : Closed end ≡ Closed LinkFault → end ≡ LinkFault
    end_is e = cc

pub settled_of : (reader : Reader) (held : List ℕ) (o : Option HandshakeEnd) → ((held ≡ []) ⊎ (stand_of reader o ≡ Closed LinkFault)) →
    (held ≡ []) ⊎ (o ≡ Some (over.Closed LinkFault))
settled_of reader held o why = elim why [
  | inl written ↦ inl written
  | inr broken ↦ inr (broken_over reader o broken)
]

pub none_of : (a b : GreetingScene) → GreetsOn [] a b → GreetsSome a b
none_of a b greets = record { events = []; greets = greets }

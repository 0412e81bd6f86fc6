-- What each call of a stream does.
use Rattle.std.proofs.Common.{◌≡◌, ◌≢◌, ℕ, ◌⊎◌, inl, inr, List, [], ◌∷◌, ◌++◌, length, refl, sym, ap, ◌∙◌, subst, arith, append-nil}
use Rattle.std.specs.Prelude.{Option, Result, Ok, Err}
use Rattle.std.specs.Io.KnownBytes.{Consumes}
use Rattle.qs_stream.specs.declared.state.State.{State}
use Rattle.qs_stream.specs.declared.state.State.TheVariants.{Open, ReadFault, WriteFault}
use Rattle.qs_stream.specs.Buffers.{Buffers}
use Rattle.qs_stream.specs.Bytes.{Sends}
use Rattle.qs_stream.specs.Faults.{Stays, Counts}
use Rattle.qs_stream.specs.Flows.{Side, Flow, Rises, Proceeds, Moved, Puts}
use Rattle.qs_stream.proofs.Bytes.{takes_split, takes_read, gives_none}
use Rattle.qs_stream.proofs.Moves.{runs_from, moved_lost, moved_none, moved_on}

-- the state behind a call of the sink, or of the source
abbrev pub after_write : {T E : Type 0} → Result T E → State
after_write (Ok x) = Open
after_write (Err e) = WriteFault

abbrev pub after_read : {T E : Type 0} → Result T E → State
after_read (Ok x) = Open
after_read (Err e) = ReadFault

-- a stream that had failed
pub puts_lost : (out : Side) (stream : Buffers) (given : List ℕ) → stream.state ≢ Open → Puts given out stream out stream
puts_lost out stream given failed = record {
  waiting = refl;
  moved = λ input. moved_lost (record { input = input; output = out; stream = stream }) given failed;
}

-- no bytes are put
pub puts_none : (out : Side) (stream : Buffers) (given : List ℕ) → length given ≡ 0 → Puts given out stream out stream
puts_none out stream [] none = record {
  waiting = refl;
  moved = λ input. moved_none (record { input = input; output = out; stream = stream });
}
puts_none out stream (b ∷ given) none = absurd (omega (arith, none))

rises_write : {T E : Type 0} (result : Result T E) (reads a b : ℕ) → Counts a b result → Rises (after_write result) reads reads a b
rises_write (Ok x) reads a b counts = (omega arith, counts)
rises_write (Err e) reads a b counts = (omega arith, counts)

rises_read : {T E : Type 0} (result : Result T E) (a b writes : ℕ) → Counts a b result → Rises (after_read result) a b writes writes
rises_read (Ok x) a b writes counts = (counts, omega arith)
rises_read (Err e) a b writes counts = (counts, omega arith)

waits_so : {E : Type 0} (sent sent' : Option (List ℕ)) (held given held' : List ℕ) (result : Result Unit E) (sends : Sends sent held given result sent' held') →
    after_write result ≡ Open → sends.rest ≡ held'
waits_so sent sent' held given held' (Ok u) sends is = sends.waits
waits_so sent sent' held given held' (Err e) sends is = absurd (cc)

-- bytes were given to the sink
pub puts_sent : {E : Type 0} (result : Result Unit E) (out out' : Side) (old new : Buffers) (given : List ℕ) → old.state ≡ Open →
    new.state ≡ after_write result → new.waiting ≡ old.waiting → Sends out.bytes old.held given result out'.bytes new.held →
    Counts out.faults out'.faults result → Puts given out old out' new
puts_sent result out out' old new given is state waiting sends counts = record {
  waiting = waiting;
  moved = λ input. record {
    takes = takes_split input.bytes old.waiting [] new.waiting (sym waiting);
    rest = sends.rest;
    gives = sends.gives;
    waits = λ now. waits_so out.bytes out'.bytes old.held given new.held result sends (sym state ∙ now);
    runs = runs_from old.state new.state (record { input = input; output = out; stream = old }) (record { input = input; output = out'; stream = new }) is
        (subst (λ (s : State). Rises s input.faults input.faults out.faults out'.faults) (sym state) (rises_write result input.faults out.faults out'.faults counts));
  };
}

-- the source was called, where nothing waited
pub moved_read : {E : Type 0} (result : Result ℕ E) (input input' out : Side) (old new : Buffers) → old.state ≡ Open → new.state ≡ after_read result →
    old.waiting ≡ [] → new.held ≡ old.held → Consumes input.bytes input'.bytes new.waiting → Counts input.faults input'.faults result →
    Moved [] [] (record { input = input; output = out; stream = old }) (record { input = input'; output = out; stream = new })
moved_read result input input' out old new is state empty held consumes counts = record {
  takes = takes_read input.bytes input'.bytes old.waiting new.waiting empty consumes;
  rest = old.held;
  gives = gives_none out.bytes old.held;
  waits = λ now. sym held;
  runs = runs_from old.state new.state (record { input = input; output = out; stream = old }) (record { input = input'; output = out; stream = new }) is
      (subst (λ (s : State). Rises s input.faults input'.faults out.faults out.faults) (sym state) (rises_read result input.faults input'.faults out.faults counts));
}

-- one put behind another
pub puts_on : (o p q : Side) (a b c : Buffers) (given given' : List ℕ) → Puts given o a p b → Puts given' p b q c → Puts (given ++ given') o a q c
puts_on o p q a b c given given' first second = record {
  waiting = second.waiting ∙ first.waiting;
  moved = λ input. moved_on (record { input = input; output = o; stream = a }) (record { input = input; output = p; stream = b })
      (record { input = input; output = q; stream = c }) [] given [] given' (first.moved input) (second.moved input);
}

-- a put fails by the sink alone
pub write_failed : (o p : Side) (a b : Buffers) (given : List ℕ) → Puts given o a p b → a.state ≡ Open → b.state ≢ Open → b.state ≡ WriteFault
write_failed o p a b given puts is failed = by_state a.state b.state is failed (puts.moved (record { bytes = o.bytes; faults = 0 })).runs
  where
    by_state : (s t : State) → s ≡ Open → t ≢ Open →
        Proceeds s t (record { input = record { bytes = o.bytes; faults = 0 }; output = o; stream = a }) (record { input = record { bytes = o.bytes; faults = 0 }; output = p; stream = b }) →
        t ≡ WriteFault
    by_state Open Open is failed runs = absurd (failed refl)
    by_state Open ReadFault is failed runs = absurd (omega (arith, runs.0))
    by_state Open WriteFault is failed runs = refl
    by_state ReadFault t is failed runs = absurd (cc)
    by_state WriteFault t is failed runs = absurd (cc)

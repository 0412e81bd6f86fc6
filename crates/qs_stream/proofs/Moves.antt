-- Runs of calls of a stream, one behind the other.
use Rattle.std.proofs.Common.{◌≡◌, ◌≢◌, ℕ, ◌⊎◌, inl, inr, List, [], ◌++◌, refl, sym, ap, ◌∙◌, subst, arith, append-nil}
use Rattle.std.specs.Prelude.{Option}
use Rattle.qs_stream.specs.declared.state.State.{State}
use Rattle.qs_stream.specs.declared.state.State.TheVariants.{Open, ReadFault, WriteFault}
use Rattle.qs_stream.specs.Buffers.{Buffers}
use Rattle.qs_stream.specs.Bytes.{Takes, Gives}
use Rattle.qs_stream.specs.Flows.{Side, Flow, Rises, Proceeds, Moved}
use Rattle.qs_stream.proofs.Bytes.{takes_on, takes_none, takes_split, gives_on, gives_none, gives_behind, gives_lost}

pub open_or : (s : State) → (s ≡ Open) ⊎ (s ≢ Open)
open_or Open = inl refl
open_or ReadFault = inr (λ e. absurd (cc))
open_or WriteFault = inr (λ e. absurd (cc))

-- nothing is done to a stream that failed
pub stuck : (s t : State) (old new : Flow) → s ≢ Open → Proceeds s t old new → new ≡ old
stuck Open t old new failed runs = absurd (failed refl)
stuck ReadFault Open old new failed runs = absurd runs
stuck ReadFault ReadFault old new failed runs = runs
stuck ReadFault WriteFault old new failed runs = absurd runs
stuck WriteFault Open old new failed runs = absurd runs
stuck WriteFault ReadFault old new failed runs = absurd runs
stuck WriteFault WriteFault old new failed runs = runs

pub runs_same : (s : State) (f : Flow) → Proceeds s s f f
runs_same Open f = (omega arith, omega arith)
runs_same ReadFault f = refl
runs_same WriteFault f = refl

-- a run that began with an open stream
pub runs_from : (s t : State) (old new : Flow) → s ≡ Open →
    Rises t old.input.faults new.input.faults old.output.faults new.output.faults → Proceeds s t old new
runs_from Open t old new is rises = rises
runs_from ReadFault t old new is rises = absurd (cc)
runs_from WriteFault t old new is rises = absurd (cc)

pub rises_from : (s t : State) (old new : Flow) → s ≡ Open → Proceeds s t old new →
    Rises t old.input.faults new.input.faults old.output.faults new.output.faults
rises_from Open t old new is runs = runs
rises_from ReadFault t old new is runs = absurd (cc)
rises_from WriteFault t old new is runs = absurd (cc)

rises_after : (t : State) (a b c x y z : ℕ) → Rises Open a b x y → Rises t b c y z → Rises t a c x z
rises_after Open a b c x y z p q = (omega (arith, p.0, q.0), omega (arith, p.1, q.1))
rises_after ReadFault a b c x y z p q = (omega (arith, p.0, q.0), omega (arith, p.1, q.1))
rises_after WriteFault a b c x y z p q = (omega (arith, p.0, q.0), omega (arith, p.1, q.1))

-- a run that went on at an open stream
runs_after : (s m t : State) (a b c : Flow) → m ≡ Open → Proceeds s m a b →
    Rises t b.input.faults c.input.faults b.output.faults c.output.faults → Proceeds s t a c
runs_after s ReadFault t a b c is first second = absurd (cc)
runs_after s WriteFault t a b c is first second = absurd (cc)
runs_after Open Open t a b c is first second = rises_after t _ _ _ _ _ _ first second
runs_after ReadFault Open t a b c is first second = absurd first
runs_after WriteFault Open t a b c is first second = absurd first

module _ (a b c : Flow) (taken given taken' given' : List ℕ) (first : Moved taken given a b) where
  -- the stream went on
  on_open : b.stream.state ≡ Open → Moved taken' given' b c → Moved (taken ++ taken') (given ++ given') a c
  on_open is second = record {
    takes = takes_on a.input.bytes b.input.bytes c.input.bytes a.stream.waiting b.stream.waiting c.stream.waiting taken taken' first.takes second.takes;
    rest = second.rest;
    gives =
        gives_on a.output.bytes b.output.bytes c.output.bytes a.stream.held b.stream.held second.rest given given'
        (subst (λ (rest : List ℕ). Gives a.output.bytes a.stream.held given b.output.bytes rest) (first.waits is) first.gives) second.gives;
    waits = second.waits;
    runs = runs_after a.stream.state b.stream.state c.stream.state a b c is first.runs (rises_from b.stream.state c.stream.state b c is second.runs);
  }

  -- it had failed
  on_failed : b.stream.state ≢ Open → Moved taken' given' b b → Moved (taken ++ taken') (given ++ given') a b
  on_failed failed second = record {
    takes = takes_on a.input.bytes b.input.bytes b.input.bytes a.stream.waiting b.stream.waiting b.stream.waiting taken taken' first.takes second.takes;
    rest = first.rest ++ given';
    gives = gives_lost a.output.bytes b.output.bytes a.stream.held given first.rest given' first.gives;
    waits = λ is. absurd (failed is);
    runs = first.runs;
  }

  pub moved_on : Moved taken' given' b c → Moved (taken ++ taken') (given ++ given') a c
  moved_on second =
      elim (open_or b.stream.state) [
        | inl is ↦ on_open is second
        | inr failed ↦
            let same : c ≡ b = stuck b.stream.state c.stream.state b c failed second.runs in
            subst (λ (f : Flow). Moved (taken ++ taken') (given ++ given') a f) (sym same)
            (on_failed failed (subst (λ (f : Flow). Moved taken' given' b f) same second))
      ]

-- nothing was done
pub moved_none : (f : Flow) → Moved [] [] f f
moved_none f = record {
  takes = takes_none f.input.bytes f.stream.waiting;
  rest = f.stream.held;
  gives = gives_none f.output.bytes f.stream.held;
  waits = λ is. refl;
  runs = runs_same f.stream.state f;
}

-- bytes were put and are lost
pub moved_lost : (f : Flow) (bytes : List ℕ) → f.stream.state ≢ Open → Moved [] bytes f f
moved_lost f bytes failed = record {
  takes = takes_none f.input.bytes f.stream.waiting;
  rest = f.stream.held ++ bytes;
  gives = gives_behind f.output.bytes f.stream.held bytes (f.stream.held ++ bytes) refl;
  waits = λ is. absurd (failed is);
  runs = runs_same f.stream.state f;
}

-- bytes that waited were taken
pub moved_split : (f : Flow) (stream : Buffers) (taken : List ℕ) → f.stream.state ≡ Open → f.stream.waiting ≡ taken ++ stream.waiting →
    stream ≡ record f.stream { waiting = stream.waiting } → Moved taken [] f (record f { stream = stream })
moved_split f stream taken is joined same = record {
  takes = takes_split f.input.bytes f.stream.waiting taken stream.waiting joined;
  rest = f.stream.held;
  gives = gives_none f.output.bytes f.stream.held;
  waits = λ now. sym (ap (λ (b : Buffers). b.held) same);
  runs = runs_from f.stream.state stream.state f (record f { stream = stream }) is
      (subst (λ (s : State). Rises s f.input.faults f.input.faults f.output.faults f.output.faults) (sym (ap (λ (b : Buffers). b.state) same ∙ is))
      (omega arith, omega arith));
}

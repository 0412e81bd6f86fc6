-- What one line makes of a scene.
use Rattle.std.proofs.Common.{◌≡◌, ◌≢◌, ◌<◌, length, ℕ, List, [], ◌∷◌, ◌++◌, refl, sym, subst, ap, ◌∙◌, inl, inr, arith, append-nil}
use Rattle.std.specs.Prelude.{Result, Ok, Err, IsErrAnd}
use Rattle.qs_outside.specs.Blocks.{Seen}
use Rattle.qs_script.specs.Cuts.{longest_line}
use Rattle.qs_script.specs.Finds.{HasNo}
use Rattle.qs_stream.specs.declared.state.State.{State}
use Rattle.qs_stream.specs.declared.state.State.TheVariants as state
use Rattle.qs_stream.specs.Buffers.{Buffers}
use Rattle.qs_stream.specs.Flows.{Flow, Moved, Proceeds, Puts, Side}
use Rattle.qs_stream.proofs.Moves.{moved_on}
use Rattle.qs_world.specs.Values.{WorldValue}
use Rattle.qs_replay_lines.specs.declared.desk.Desk.{Desk}
use Rattle.qs_replay.specs.declared.lines.Came.TheVariants as came
use Rattle.qs_replay_lines.specs.declared.stop.Stop.{Stop}
use Rattle.qs_replay_lines.specs.declared.stop.Stop.TheVariants as stop
use Rattle.qs_replay.specs.declared.replay.LineOutcome.{LineOutcome}
use Rattle.qs_replay.specs.declared.replay.LineOutcome.TheVariants as line_outcome
use Rattle.qs_replay.specs.Readings.{IsReadUp, Seeks}
use Rattle.qs_replay_lines.specs.Tables.{Names}
use Rattle.qs_replay.specs.Scripts.{DoesText, IsTaken, PlaysText, PutsText, Turns, fault_turn}

-- a put is no fault of the input
pub put_reads : (o p : Side) (a b : Buffers) (given : List ℕ) → Puts given o a p b → a.state ≢ state.ReadFault → b.state ≢ state.ReadFault
put_reads o p a b given puts reads = by_state a.state b.state reads (puts.moved (record { bytes = o.bytes; faults = 0 })).runs
  where
    by_state : (s t : State) → s ≢ state.ReadFault →
        Proceeds s t (record { input = record { bytes = o.bytes; faults = 0 }; output = o; stream = a }) (record { input = record { bytes = o.bytes; faults = 0 }; output = p; stream = b }) →
        t ≢ state.ReadFault
    by_state state.Open state.Open reads runs = λ e. absurd (cc)
    by_state state.Open state.ReadFault reads runs = absurd (omega (arith, runs.0))
    by_state state.Open state.WriteFault reads runs = λ e. absurd (cc)
    by_state state.ReadFault t reads runs = absurd (reads refl)
    by_state state.WriteFault state.Open reads runs = absurd runs
    by_state state.WriteFault state.ReadFault reads runs = absurd runs
    by_state state.WriteFault state.WriteFault reads runs = λ e. absurd (cc)

-- an open stream is no fault of the input
pub open_reads : (s : State) → s ≡ state.Open → s ≢ state.ReadFault
open_reads s is = λ e. let both : state.Open ≡ state.ReadFault = sym is ∙ e in absurd (cc)

-- the line was done, and what it printed was put; or it wasn't done to its end
pub puts_text : {D : Type 0} (seen : D → Seen) (old played new : Desk D) (o p : Side) (a b : Buffers) (text : List ℕ) → old.out ≡ [] →
    PlaysText seen old text (Ok tt) played → Puts played.out o a p b → new.world ≡ played.world → new.table ≡ played.table →
    PutsText seen old o a text (Ok tt) new p b
puts_text {D} seen old played new o p a b text silent plays puts world names = (
  plays.0,
  plays.1,
  (
    subst (λ (w : WorldValue D). DoesText seen old.world old.table text plays.0 plays.1 w new.table) (sym world)
        (subst (λ (t : Names). DoesText seen old.world old.table text plays.0 plays.1 played.world t) (sym names) plays.2.0),
    subst (λ (l : List ℕ). Puts l o a p b) (plays.2.1 ∙ ap (λ (l : List ℕ). l ++ plays.1) silent) puts,
  ),
)

pub leaves_text : {D : Type 0} (seen : D → Seen) (old new : Desk D) (o : Side) (a : Buffers) (text : List ℕ) (s : Stop) (result : Result Unit Stop) →
    IsErrAnd result (λ e. e ≡ s) → PlaysText seen old text (Err s) new → PutsText seen old o a text result new o a
leaves_text seen old new o a text s (Ok u) is leaves = absurd is
leaves_text {D} seen old new o a text s (Err e) is leaves =
    subst (λ (x : Stop). PutsText seen old o a text (Err x) new o a) (sym is) (leaves.0, refl, refl)

module _ {D : Type 0} (seen : D → Seen) (before mid : Flow) (old new : Desk D) (output : Side) (stream : Buffers) (text : List ℕ) where
  abbrev final : Flow
  final = record { input = mid.input; output = output; stream = stream }

  abbrev Made : LineOutcome → Type 0
  Made how = Turns seen (record { flow = before; world = old.world; names = old.table }) how (record { flow = final; world = new.world; names = new.table })

  -- what was taken, and what was put
  both : (taken printed : List ℕ) → Moved taken [] before mid → Puts printed mid.output mid.stream output stream → Moved taken printed before final
  both taken printed moved puts =
      subst (λ (l : List ℕ). Moved l printed before final) (append-nil taken) (moved_on before mid final taken [] [] printed moved (puts.moved mid.input))

  pub turn_goes : {E : Type 0} → Seeks {E = E} before (Ok came.Line) text mid → PutsText seen old mid.output mid.stream text (Ok tt) new output stream → Made line_outcome.Goes
  turn_goes seeks puts = record {
    text = text;
    taken = seeks.taken;
    calls = puts.0;
    printed = puts.1;
    no_end = seeks.comes.1.no_end;
    moved = both seeks.taken puts.1 seeks.moved puts.2.1;
    does = (seeks.comes.0, seeks.comes.1, puts.2.0);
    stream_is = put_reads mid.output output mid.stream stream puts.1 puts.2.1 (open_reads mid.stream.state seeks.tells);
    written = λ e. absurd (cc);
  }

  pub turn_last : {E : Type 0} → Seeks {E = E} before (Ok came.Last) text mid → PutsText seen old mid.output mid.stream text (Ok tt) new output stream → Made line_outcome.Last
  turn_last seeks puts = record {
    text = text;
    taken = seeks.taken;
    calls = puts.0;
    printed = puts.1;
    no_end = seeks.comes.1.no_end;
    moved = both seeks.taken puts.1 seeks.moved puts.2.1;
    does = (seeks.comes.0, seeks.comes.1, seeks.comes.2, (seeks.comes.3.0, puts.2.1.waiting ∙ seeks.comes.3.1), puts.2.0);
    stream_is = put_reads mid.output output mid.stream stream puts.1 puts.2.1 (open_reads mid.stream.state seeks.tells);
    written = λ e. absurd (cc);
  }

  -- a line wasn't done to its end
  stops_with : (s : Stop) (taken : List ℕ) → Moved taken [] before mid → mid.stream.state ≡ state.Open → HasNo 10 text →
      IsTaken s taken text mid.input.bytes stream.waiting → PutsText seen old mid.output mid.stream text (Err s) new output stream → Made (line_outcome.Stops s)
  stops_with s taken moved going no_end is leaves = record {
    text = text;
    taken = taken;
    calls = [];
    printed = [];
    no_end = no_end;
    moved =
        subst (λ (o : Side). Moved taken [] before (record { input = mid.input; output = o; stream = stream })) (sym leaves.1)
        (subst (λ (b : Buffers). Moved taken [] before (record { input = mid.input; output = mid.output; stream = b })) (sym leaves.2) moved);
    does = (is, refl, leaves.0);
    stream_is = ap (λ (b : Buffers). b.state) leaves.2 ∙ going;
    written = λ e. absurd (cc);
  }

  line_taken : (s : Stop) (taken : List ℕ) → length text < longest_line → taken ≡ text ++ 10 ∷ [] → IsTaken s taken text mid.input.bytes stream.waiting
  line_taken stop.BadLine taken short is = inl (inl is)
  line_taken stop.NotNext taken short is = (inl is, short)
  line_taken stop.Memory taken short is = (inl is, short)

  pub turn_stops : {E : Type 0} (s : Stop) → Seeks {E = E} before (Ok came.Line) text mid → PutsText seen old mid.output mid.stream text (Err s) new output stream →
      Made (line_outcome.Stops s)
  turn_stops s seeks leaves =
      stops_with s seeks.taken seeks.moved seeks.tells seeks.comes.1.no_end (line_taken s seeks.taken seeks.comes.1.short seeks.comes.0) leaves

  last_taken : (s : Stop) (taken : List ℕ) → length text < longest_line → taken ≡ text → text ≢ [] → IsReadUp mid.input.bytes stream.waiting →
      IsTaken s taken text mid.input.bytes stream.waiting
  last_taken stop.BadLine taken short is some over = inl (inr (is, some, over))
  last_taken stop.NotNext taken short is some over = (inr (is, some, over), short)
  last_taken stop.Memory taken short is some over = (inr (is, some, over), short)

  pub turn_last_stops : {E : Type 0} (s : Stop) → Seeks {E = E} before (Ok came.Last) text mid → PutsText seen old mid.output mid.stream text (Err s) new output stream →
      Made (line_outcome.Stops s)
  turn_last_stops s seeks leaves =
      stops_with s seeks.taken seeks.moved seeks.tells seeks.comes.1.no_end
      (last_taken s seeks.taken seeks.comes.1.short seeks.comes.0 seeks.comes.2
      (seeks.comes.3.0, ap (λ (b : Buffers). b.waiting) leaves.2 ∙ seeks.comes.3.1)) leaves

module _ {D : Type 0} (seen : D → Seen) (before after : Flow) (w : WorldValue D) (t : Names) (text : List ℕ) where
  abbrev Brought : LineOutcome → Type 0
  Brought how = Turns seen (record { flow = before; world = w; names = t }) how (record { flow = after; world = w; names = t })

  -- the line was too long
  pub turn_long : {E : Type 0} → Seeks {E = E} before (Ok came.TooLong) text after → Brought (line_outcome.Stops stop.BadLine)
  turn_long seeks = record {
    text = text;
    taken = seeks.taken;
    calls = [];
    printed = [];
    no_end = seeks.comes.1;
    moved = seeks.moved;
    does = (inr (seeks.comes.0, seeks.comes.2), refl, record { calls = []; plays = refl; why = (refl, inl (omega (arith, seeks.comes.2))) });
    stream_is = seeks.tells;
    written = λ e. absurd (cc);
  }

  -- there was no line more
  pub turn_end : {E : Type 0} → Seeks {E = E} before (Ok came.End) text after → Brought line_outcome.End
  turn_end seeks = record {
    text = [];
    taken = seeks.taken;
    calls = [];
    printed = [];
    no_end = λ k below. absurd (omega arith);
    moved = seeks.moved;
    does = (seeks.comes.0, seeks.comes.1, record { world = refl; names = refl; printed_is = refl });
    stream_is = seeks.tells;
    written = λ e. absurd (cc);
  }

  -- the stream failed
  pub turn_fault : {E : Type 0} (e : E) (how : LineOutcome) → how ≡ fault_turn after.stream.state → Seeks {E = E} before (Err e) text after → Brought how
  turn_fault e how is seeks = subst Brought (sym is) (by_state after.stream.state refl)
    where
      by_state : (s : State) → after.stream.state ≡ s → Brought (fault_turn s)
      by_state state.Open now = absurd (seeks.tells now)
      by_state state.ReadFault now = record {
        text = seeks.taken;
        taken = seeks.taken;
        calls = [];
        printed = [];
        no_end = seeks.comes.no_end;
        moved = seeks.moved;
        does = (refl, record { world = refl; names = refl; printed_is = refl });
        stream_is = now;
        written = λ is reads. seeks.written reads now;
      }
      by_state state.WriteFault now = record {
        text = seeks.taken;
        taken = seeks.taken;
        calls = [];
        printed = [];
        no_end = seeks.comes.no_end;
        moved = seeks.moved;
        does = (refl, record { world = refl; names = refl; printed_is = refl });
        stream_is = now;
        written = λ e. absurd (cc);
      }

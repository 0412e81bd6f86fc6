-- Lines one after the other, and the end of a script.
use Rattle.std.proofs.Common.{◌≡◌, ℕ, ◌+◌, ◌<◌, ◌≤◌, length, Bool, List, [], ◌∷◌, ◌++◌, refl, sym, subst, ap, ◌∙◌, inl, inr, arith, append_assoc, append-nil, length-append, true, false, ◌≢◌}
use Rattle.std.specs.Prelude.{Option, Result, Ok, Err}
use Rattle.qs_script.specs.Lines.{ReadsLine}
use Rattle.qs_script.specs.declared.line.Line.{Line}
use Rattle.qs_replay_lines.specs.declared.desk.Desk.{Desk}
use Rattle.qs_replay_lines.specs.declared.stop.Stop.{Stop}
use Rattle.qs_replay_lines.specs.declared.told.LineTold.{LineTold}
use Rattle.qs_replay_lines.specs.Effects.{PlaysLine}
use Rattle.qs_outside.specs.Blocks.{Seen}
use Rattle.qs_status.specs.declared.status.Status.{Status}
use Rattle.qs_status.specs.declared.status.Status.TheVariants as status
use Rattle.qs_world.specs.Values.{WorldValue}
use Rattle.qs_replay_lines.specs.declared.stop.Stop.TheVariants as stop
use Rattle.qs_replay.specs.declared.replay.LineOutcome.{LineOutcome}
use Rattle.qs_replay.specs.declared.replay.LineOutcome.TheVariants as line_outcome
use Rattle.qs_calls.specs.Calls.{Call, Plays}
use Rattle.qs_replay_lines.specs.Tables.{Names}
use Rattle.qs_stream.specs.declared.state.State.{State}
use Rattle.qs_stream.specs.declared.state.State.TheVariants as state
use Rattle.qs_stream.specs.Buffers.{Buffers}
use Rattle.qs_stream.specs.Bytes.{Gives}
use Rattle.qs_stream.specs.Flows.{Flow, Moved, Proceeds, Puts, Side}
use Rattle.qs_stream.proofs.Moves.{moved_none, moved_on}
use Rattle.qs_replay.specs.Readings.{AllSent, IsText}
use Rattle.qs_replay.specs.Scripts.{AllDone, DoesText, EndsScript, Finishes, IsReadFront, PlaysText, Replays, Scene, SoFar, Turns, done_of}
use Rattle.qs_replay.specs.Scripts.{is_silent, is_whole, side_of, spelled_lines, status_of}
use Rattle.qs_replay.proofs.Coming.{all_sent_on}
use Rattle.qs_replay.proofs.Turning.{open_reads, put_reads}

pub spelled_more : (texts : List (List ℕ)) (text : List ℕ) → spelled_lines (texts ++ text ∷ []) ≡ spelled_lines texts ++ (text ++ 10 ∷ [])
spelled_more [] text = refl
spelled_more (t ∷ texts) text =
    ap (λ (l : List ℕ). t ++ 10 ∷ l) (spelled_more texts text) ∙ sym (append_assoc t (10 ∷ spelled_lines texts) (text ++ 10 ∷ []))

-- no line was done
pub done_none : {D : Type 0} (seen : D → Seen) (w : WorldValue D) (t : Names) → AllDone seen w t [] [] [] w t
done_none seen w t = record { calls_are = refl; printed_are = refl; world = refl; names = refl }

-- one line more was done
pub done_more : {D : Type 0} (seen : D → Seen) (w : WorldValue D) (t : Names) (texts : List (List ℕ)) (calls : List Call) (printed : List ℕ)
    (w1 : WorldValue D) (t1 : Names) (text : List ℕ) (calls' : List Call) (printed' : List ℕ) (w2 : WorldValue D) (t2 : Names) →
    AllDone seen w t texts calls printed w1 t1 → IsText text → DoesText seen w1 t1 text calls' printed' w2 t2 →
    AllDone seen w t (texts ++ text ∷ []) (calls ++ calls') (printed ++ printed') w2 t2
done_more {D} seen w t [] calls printed w1 t1 text calls' printed' w2 t2 done is_text does = record {
  first = calls';
  later = [];
  words = printed';
  more = [];
  world = w2;
  names = t2;
  is_text = is_text;
  does = subst (λ (v : WorldValue D). DoesText seen v t text calls' printed' w2 t2) done.world
      (subst (λ (u : Names). DoesText seen w1 u text calls' printed' w2 t2) done.names does);
  rest = done_none seen w2 t2;
  calls_are = ap (λ (cs : List Call). cs ++ calls') done.calls_are ∙ sym (append-nil calls');
  printed_are = ap (λ (bs : List ℕ). bs ++ printed') done.printed_are ∙ sym (append-nil printed');
}
done_more seen w t (x ∷ texts) calls printed w1 t1 text calls' printed' w2 t2 done is_text does = record {
  first = done.first;
  later = done.later ++ calls';
  words = done.words;
  more = done.more ++ printed';
  world = done.world;
  names = done.names;
  is_text = done.is_text;
  does = done.does;
  rest = done_more seen done.world done.names texts done.later done.more w1 t1 text calls' printed' w2 t2 done.rest is_text does;
  calls_are = ap (λ (cs : List Call). cs ++ calls') done.calls_are ∙ append_assoc done.first done.later calls';
  printed_are = ap (λ (bs : List ℕ). bs ++ printed') done.printed_are ∙ append_assoc done.words done.more printed';
}

pub so_far_none : {D : Type 0} (seen : D → Seen) (a : Scene D) → a.flow.stream.state ≡ state.Open → SoFar seen a 0 a
so_far_none seen a going = record {
  texts = [];
  calls = [];
  printed = [];
  count = refl;
  done = done_none seen a.world a.names;
  moved = moved_none a.flow;
  reads = open_reads a.flow.stream.state going;
}

pub so_far_more : {D : Type 0} (seen : D → Seen) (a b c : Scene D) (n : ℕ) → SoFar seen a n b → Turns seen b line_outcome.Goes c → SoFar seen a (n + 1) c
so_far_more seen a b c n so t = record {
  texts = so.texts ++ t.text ∷ [];
  calls = so.calls ++ t.calls;
  printed = so.printed ++ t.printed;
  count = length-append so.texts (t.text ∷ []) ∙ ap (λ (k : ℕ). k + 1) so.count;
  done = done_more seen a.world a.names so.texts so.calls so.printed b.world b.names t.text t.calls t.printed c.world c.names so.done t.does.1 t.does.2;
  moved =
      subst (λ (l : List ℕ). Moved l (so.printed ++ t.printed) a.flow c.flow)
      (ap (λ (l : List ℕ). spelled_lines so.texts ++ l) t.does.0 ∙ sym (spelled_more so.texts t.text))
      (moved_on a.flow b.flow c.flow (spelled_lines so.texts) so.printed t.taken t.printed so.moved t.moved);
  reads = t.stream_is;
}

-- the stream at the end of a script, before what waits is written
abbrev pub StreamAtEnd : Status → State → Type 0
StreamAtEnd status.ReadFault now = now ≡ state.ReadFault
StreamAtEnd status.WriteFault now = now ≡ state.WriteFault
StreamAtEnd status.Memory now = now ≡ state.Open
StreamAtEnd other now = now ≢ state.ReadFault

-- A script up to the line that ended it, before what waits is written.
pub record Closes {D : Type 0} (seen : D → Seen) (a : Scene D) (budget : ℕ) (result : Status) (c : Scene D) : Type 0 where
  pub texts : List (List ℕ)
  pub calls : List Call
  pub printed : List ℕ
  pub world : WorldValue D
  pub names : Names
  pub done : AllDone seen a.world a.names texts calls printed world names
  pub few : length texts ≤ budget
  pub taken : List ℕ
  pub moved : Moved taken printed a.flow c.flow
  pub stream_is : StreamAtEnd result c.flow.stream.state
  pub written : result ≡ status.ReadFault → AllSent printed a.flow c.flow
  pub cut : List Call
  pub cut_plays : Plays seen world cut c.world
  pub ends : EndsScript result budget texts taken cut world names c.flow.input.bytes c.flow.stream.waiting

-- the parts that all ends but a last line share: the lines before, and what was taken and given behind them
record_of : {D : Type 0} (seen : D → Seen) (a b c : Scene D) (n budget : ℕ) (how : LineOutcome) (so : SoFar seen a n b) (t : Turns seen b how c)
    (result : Status) (cut : List Call) → n < budget → t.printed ≡ [] → StreamAtEnd result c.flow.stream.state →
    (result ≡ status.ReadFault → AllSent so.printed a.flow c.flow) → Plays seen b.world cut c.world →
    EndsScript result budget so.texts (spelled_lines so.texts ++ t.taken) cut b.world b.names c.flow.input.bytes c.flow.stream.waiting → Closes seen a budget result c
record_of seen a b c n budget how so t result cut below silent stream_is written plays ends = record {
  texts = so.texts;
  calls = so.calls;
  printed = so.printed;
  world = b.world;
  names = b.names;
  done = so.done;
  few = omega (arith, so.count);
  taken = spelled_lines so.texts ++ t.taken;
  moved =
      subst (λ (l : List ℕ). Moved (spelled_lines so.texts ++ t.taken) l a.flow c.flow)
      (ap (λ (l : List ℕ). so.printed ++ l) silent ∙ append-nil so.printed)
      (moved_on a.flow b.flow c.flow (spelled_lines so.texts) so.printed t.taken t.printed so.moved t.moved);
  stream_is = stream_is;
  written = written;
  cut = cut;
  cut_plays = plays;
  ends = ends;
}

-- The input failed behind lines that were done: the stream had been open, and what they printed was written before.
sent_before : (a b c : Flow) (taken given more : List ℕ) → Moved taken given a b → b.stream.state ≢ state.ReadFault → Moved more [] b c →
    c.stream.state ≡ state.ReadFault → AllSent [] b c → AllSent given a c
sent_before a b c taken given more moved reads behind failed sent = by_state b.stream.state refl reads (subst (λ (s : State). Proceeds b.stream.state s b c) failed behind.runs)
  where
    by_state : (s : State) → b.stream.state ≡ s → s ≢ state.ReadFault → Proceeds s state.ReadFault b c → AllSent given a c
    by_state state.Open now reads runs = subst (λ (l : List ℕ). AllSent l a c) (append-nil given) (all_sent_on a b c taken given [] moved now sent)
    by_state state.ReadFault now reads runs = absurd (reads refl)
    by_state state.WriteFault now reads runs = absurd runs

-- a last line without LF isn't spelled with one
bare_last : (texts : List (List ℕ)) (text : List ℕ) → spelled_lines texts ++ text ≡ spelled_lines (texts ++ text ∷ []) → ⊥
bare_last texts text same =
    let long : length (spelled_lines texts ++ text) ≡ length (spelled_lines texts ++ (text ++ 10 ∷ [])) = ap length (same ∙ spelled_more texts text) in
    omega (arith, long, length-append (spelled_lines texts) text, length-append (spelled_lines texts) (text ++ 10 ∷ []), length-append text (10 ∷ []))

pub closes : {D : Type 0} (seen : D → Seen) (a b c : Scene D) (n budget : ℕ) (how : LineOutcome) → n < budget → SoFar seen a n b → Turns seen b how c →
    (how ≡ line_outcome.Goes → ⊥) → Closes seen a budget (status_of how (n + 1)) c
closes seen a b c n budget line_outcome.Goes below so t ne = absurd (ne refl)
closes seen a b c n budget line_outcome.Last below so t ne = record {
  texts = so.texts ++ t.text ∷ [];
  calls = so.calls ++ t.calls;
  printed = so.printed ++ t.printed;
  world = c.world;
  names = c.names;
  done = done_more seen a.world a.names so.texts so.calls so.printed b.world b.names t.text t.calls t.printed c.world c.names so.done t.does.1 t.does.4;
  few = omega (arith, so.count, length-append so.texts (t.text ∷ []));
  taken = spelled_lines so.texts ++ t.text;
  moved =
      subst (λ (l : List ℕ). Moved (spelled_lines so.texts ++ l) (so.printed ++ t.printed) a.flow c.flow) t.does.0
      (moved_on a.flow b.flow c.flow (spelled_lines so.texts) so.printed t.taken t.printed so.moved t.moved);
  stream_is = t.stream_is;
  written = λ e. absurd (cc);
  cut = [];
  cut_plays = refl;
  ends = (inr (so.texts, t.text, (refl, t.does.2, refl)), t.does.3, refl, λ same. absurd (bare_last so.texts t.text same));
}
closes seen a b c n budget line_outcome.End below so t ne =
    record_of seen a b c n budget line_outcome.End so t status.Done [] below t.does.2.printed_is (open_reads c.flow.stream.state t.stream_is) (λ e. absurd (cc))
    t.does.2.world
    (inl (ap (λ (l : List ℕ). spelled_lines so.texts ++ l) t.does.0 ∙ append-nil (spelled_lines so.texts)), t.does.1, refl, λ same. omega (arith, so.count))
closes seen a b c n budget (line_outcome.Stops stop.BadLine) below so t ne =
    record_of seen a b c n budget (line_outcome.Stops stop.BadLine) so t (status.BadLine (n + 1)) t.does.2.calls below t.does.1
    (open_reads c.flow.stream.state t.stream_is) (λ e. absurd (cc)) t.does.2.plays (
      ap (λ (k : ℕ). k + 1) (sym so.count),
      record { text = t.text; bytes = t.taken; no_end = t.no_end; taken_is = refl; is_taken = t.does.0; why = t.does.2.why },
      omega arith,
    )
closes seen a b c n budget (line_outcome.Stops stop.NotNext) below so t ne =
    record_of seen a b c n budget (line_outcome.Stops stop.NotNext) so t (status.NotNext (n + 1)) t.does.2.calls below t.does.1
    (open_reads c.flow.stream.state t.stream_is) (λ e. absurd (cc)) t.does.2.plays (
      ap (λ (k : ℕ). k + 1) (sym so.count),
      record { text = t.text; bytes = t.taken; no_end = t.no_end; taken_is = refl; is_taken = t.does.0; why = t.does.2.why },
      omega arith,
    )
closes seen a b c n budget (line_outcome.Stops stop.Memory) below so t ne =
    record_of seen a b c n budget (line_outcome.Stops stop.Memory) so t status.Memory t.does.2.calls below t.does.1 t.stream_is (λ e. absurd (cc)) t.does.2.plays
    (record { text = t.text; bytes = t.taken; no_end = t.no_end; taken_is = refl; is_taken = t.does.0; why = t.does.2.why })
closes seen a b c n budget line_outcome.ReadFault below so t ne =
    record_of seen a b c n budget line_outcome.ReadFault so t status.ReadFault [] below t.does.1.printed_is t.stream_is
    (λ e. sent_before a.flow b.flow c.flow (spelled_lines so.texts) so.printed t.taken so.moved so.reads
    (subst (λ (l : List ℕ). Moved t.taken l b.flow c.flow) t.does.1.printed_is t.moved) t.stream_is (t.written refl so.reads)) t.does.1.world
    (refl, (t.text, (t.no_end, ap (λ (l : List ℕ). spelled_lines so.texts ++ l) t.does.0)))
closes seen a b c n budget line_outcome.WriteFault below so t ne =
    record_of seen a b c n budget line_outcome.WriteFault so t status.WriteFault [] below t.does.1.printed_is t.stream_is (λ e. absurd (cc)) t.does.1.world
    (refl, inl (t.taken, refl))

-- all lines of the budget were done
pub closes_spent : {D : Type 0} (seen : D → Seen) (a b : Scene D) (budget : ℕ) → SoFar seen a budget b → Closes seen a budget status.Spent b
closes_spent seen a b budget so = record {
  texts = so.texts;
  calls = so.calls;
  printed = so.printed;
  world = b.world;
  names = b.names;
  done = so.done;
  few = omega (arith, so.count);
  taken = spelled_lines so.texts;
  moved = so.moved;
  stream_is = so.reads;
  written = λ e. absurd (cc);
  cut = [];
  cut_plays = refl;
  ends = (so.count, refl, refl);
}

-- which side failed where nothing more is written, and that none did before where it is
side_at : (before : Status) (now : State) → is_silent before ≡ true → StreamAtEnd before now → now ≡ side_of before
side_at status.Memory now quiet is = is
side_at status.ReadFault now quiet is = is
side_at status.WriteFault now quiet is = is
side_at _ now quiet is = absurd (cc)

reads_at : (before : Status) (now : State) → is_silent before ≡ false → StreamAtEnd before now → now ≢ state.ReadFault
reads_at status.Memory now quiet is = absurd (cc)
reads_at status.ReadFault now quiet is = absurd (cc)
reads_at status.WriteFault now quiet is = absurd (cc)
reads_at _ now quiet is = is

open_at : (before : Status) → is_silent before ≡ false → side_of before ≡ state.Open
open_at status.ReadFault quiet = absurd (cc)
open_at status.WriteFault quiet = absurd (cc)
open_at _ quiet = refl

whole_at : (before : Status) → is_silent before ≡ true → is_whole before ≡ true → before ≡ status.ReadFault
whole_at status.Memory quiet whole = absurd (cc)
whole_at status.ReadFault quiet whole = refl
whole_at status.WriteFault quiet whole = absurd (cc)
whole_at _ quiet whole = absurd (cc)

lost_whole : {X : Type 0} (result : Status) → result ≡ status.WriteFault → is_whole result ≡ true → X
lost_whole result is whole = let both : false ≡ true = sym (ap is_whole is) ∙ whole in absurd (cc)

-- a put failed by the sink
put_fails : (o p : Side) (x y : Buffers) → Puts [] o x p y → x.state ≢ state.ReadFault → y.state ≢ state.Open → y.state ≡ state.WriteFault
put_fails o p x y puts reads failed = by_state y.state (put_reads o p x y [] puts reads) failed
  where
    by_state : (s : State) → s ≢ state.ReadFault → s ≢ state.Open → s ≡ state.WriteFault
    by_state state.Open reads failed = absurd (failed refl)
    by_state state.ReadFault reads failed = absurd (reads refl)
    by_state state.WriteFault reads failed = refl

-- the output failed behind this end
front_of : {D : Type 0} (before : Status) (budget : ℕ) (texts : List (List ℕ)) (taken : List ℕ) (cut : List Call) (w : WorldValue D) (t : Names)
    (left : Option (List ℕ)) (waiting : List ℕ) → is_silent before ≡ false → EndsScript before budget texts taken cut w t left waiting →
    (cut ≡ []) × IsReadFront texts taken left waiting
front_of status.Done budget texts taken cut w t left waiting on ends = (ends.2, inr (ends.0, ends.1))
front_of (status.BadLine n) budget texts taken cut w t left waiting on ends = (ends.1.why.0, inl (ends.1.bytes, ends.1.taken_is))
front_of (status.NotNext n) budget texts taken cut w t left waiting on ends = (ends.1.why.0, inl (ends.1.bytes, ends.1.taken_is))
front_of status.Memory budget texts taken cut w t left waiting on ends = absurd (cc)
front_of status.ReadFault budget texts taken cut w t left waiting on ends = (ends.0, inl (ends.1.0, ends.1.1.1))
front_of status.WriteFault budget texts taken cut w t left waiting on ends = ends
front_of status.Spent budget texts taken cut w t left waiting on ends = (ends.2, inl ([], ends.1 ∙ sym (append-nil (spelled_lines texts))))
front_of _ budget texts taken cut w t left waiting on ends = absurd ends

module _ {D : Type 0} (seen : D → Seen) (a c : Scene D) (budget : ℕ) (before result : Status) (output : Side) (stream : Buffers)
    (x : Closes seen a budget before c) (f : Finishes c.flow.output c.flow.stream before result output stream) where
  abbrev last : Flow
  last = record { input = c.flow.input; output = output; stream = stream }

  moved_all : Moved x.taken x.printed a.flow last
  moved_all =
      subst (λ (l : List ℕ). Moved l x.printed a.flow last) (append-nil x.taken)
      (subst (λ (l : List ℕ). Moved (x.taken ++ []) l a.flow last) (append-nil x.printed)
      (moved_on a.flow c.flow last x.taken x.printed [] [] x.moved (f.puts.moved c.flow.input)))

  abbrev EndsAs : Status → List ℕ → Type 0
  EndsAs s waiting = EndsScript s budget x.texts x.taken x.cut x.world x.names c.flow.input.bytes waiting

  failed_as : stream.state ≡ side_of result
  failed_as = elim f.how [
    | inl idle ↦ ap (λ (b : Buffers). b.state) idle.3 ∙ side_at before c.flow.stream.state idle.0 x.stream_is ∙ ap side_of (sym idle.1)
    | inr on ↦
        elim on.1 [
          | inl written ↦ written.1 ∙ sym (ap side_of written.0 ∙ open_at before on.0)
          | inr lost ↦
              put_fails c.flow.output output c.flow.stream stream f.puts (reads_at before c.flow.stream.state on.0 x.stream_is) lost.1
              ∙ ap side_of (sym lost.0)
        ]
  ]

  whole_as : is_whole result ≡ true → AllSent x.printed a.flow last
  whole_as whole = elim f.how [
    | inl idle ↦
        subst (λ (o : Side). Gives a.flow.output.bytes a.flow.stream.held x.printed o.bytes []) (sym idle.2)
        (x.written (whole_at before idle.0 (sym (ap is_whole idle.1) ∙ whole)))
    | inr on ↦
        elim on.1 [
          | inl written ↦
              subst (λ (rest : List ℕ). Gives a.flow.output.bytes a.flow.stream.held x.printed output.bytes rest)
              (moved_all.waits written.1 ∙ written.2) moved_all.gives
          | inr lost ↦ lost_whole result lost.0 whole
        ]
  ]

  ends_as : EndsAs result c.flow.stream.waiting
  ends_as = elim f.how [
    | inl idle ↦ subst (λ (s : Status). EndsAs s c.flow.stream.waiting) (sym idle.1) x.ends
    | inr on ↦
        elim on.1 [
          | inl written ↦ subst (λ (s : Status). EndsAs s c.flow.stream.waiting) (sym written.0) x.ends
          | inr lost ↦
              subst (λ (s : Status). EndsAs s c.flow.stream.waiting) (sym lost.0)
              (front_of before budget x.texts x.taken x.cut x.world x.names c.flow.input.bytes c.flow.stream.waiting on.0 x.ends)
        ]
  ]

  -- what waits is written at the end
  pub finished : Replays seen a budget result (record { flow = last; world = c.world; names = c.names })
  finished = record {
    texts = x.texts;
    calls = x.calls;
    printed = x.printed;
    world = x.world;
    names = x.names;
    done = x.done;
    few = x.few;
    taken = x.taken;
    moved = moved_all;
    failed = failed_as;
    whole = whole_as;
    cut = x.cut;
    cut_plays = x.cut_plays;
    ends = subst (λ (l : List ℕ). EndsAs result l) (sym f.puts.waiting) ends_as;
  }

-- the text of a line and what the line did
plays_done : {D : Type 0} (seen : D → Seen) (old : Desk D) (text : List ℕ) (l : Line) (lost : Bool) (played : Result LineTold Stop) (new : Desk D) → ReadsLine text l →
    PlaysLine seen old l lost played new → PlaysText seen old text (done_of played) new
plays_done seen old text l lost (Ok told) new reads played =
    (played.calls, played.text, (record { line = l; lost = lost; reads = reads; is = played.is }, played.printed))
plays_done seen old text l lost (Err stop.BadLine) new reads s =
    (record { calls = []; plays = s.1; why = (refl, inr (inr (l, (reads, s.0)))) }, s.2)
plays_done seen old text l lost (Err stop.NotNext) new reads s =
    (record { calls = []; plays = s.2; why = (refl, (l, (reads, s.1, s.0))) }, s.3)
plays_done seen old text l lost (Err stop.Memory) new reads s =
    (record { calls = s.0; plays = s.1.1; why = (l, (reads, s.1.0)) }, s.1.2)

pub plays_text_of : {D : Type 0} (seen : D → Seen) (old : Desk D) (text : List ℕ) (l : Line) (lost : Bool) (played : Result LineTold Stop) (result : Result Unit Stop)
    (new : Desk D) → result ≡ done_of played → ReadsLine text l → PlaysLine seen old l lost played new → PlaysText seen old text result new
plays_text_of seen old text l lost played result new is reads plays =
    subst (λ (r : Result Unit Stop). PlaysText seen old text r new) (sym is) (plays_done seen old text l lost played new reads plays)

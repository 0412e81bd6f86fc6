-- From the disks to the run, and to its line.
use Rattle.std.proofs.Common.{◌≡◌, ◌≢◌, ℕ, ◌*◌, false, List, [], ◌∷◌, ◌++◌, map, refl, sym, ap, ◌∙◌, subst, inl, inr, append-nil}
use Rattle.std.specs.Prelude.{Option, None, Result, Ok, Err}
use Rattle.std.specs.Io.KnownBytes.{Appends}
use Rattle.qs_status.specs.declared.status.Status.{Status}
use Rattle.qs_status.specs.declared.status.Status.TheVariants as status
use Rattle.qs_outside.specs.Blocks.{Seen}
use Rattle.qs_image.specs.Image.{align_of, size_of}
use Rattle.qs_image.specs.Opening.{IsImage}
use Rattle.qs_stream.specs.declared.state.State.{State}
use Rattle.qs_stream.specs.declared.state.State.TheVariants.{Open, WriteFault}
use Rattle.qs_stream.specs.Buffers.{Buffers, new_buffers}
use Rattle.qs_stream.specs.Flows.{Moved, Puts, Rises, Side}
use Rattle.qs_stream.proofs.Calls.{write_failed}
use Rattle.qs_stream.proofs.Moves.{moved_on, rises_from}
use Rattle.qs_stripe.specs.Table.{StripeState}
use Rattle.qs_world.specs.Values.{WorldValue}
use Rattle.qs_calls.specs.Calls.{Call, Plays}
use Rattle.qs_calls.specs.Runs.{Begins, HasRun}
use Rattle.qs_calls.proofs.Plays.{plays_more}
use Rattle.qs_calls.proofs.Runs.{has_run}
use Rattle.qs_replay_lines.specs.Tables.{Names, no_names}
use Rattle.qs_replay_lines.specs.declared.stop.Stop.{Stop}
use Rattle.qs_replay_lines.specs.declared.stop.Stop.TheVariants as stop
use Rattle.qs_generate.specs.Lives.{Generated}
use Rattle.qs_generate.specs.Sums.{totals_line}
use Rattle.qs_generate.specs.declared.live.LiveRequest.{LiveRequest}
use Rattle.qs_generate.specs.declared.live.NextMove.TheVariants.{Attach}
use Rattle.qs_replay_generated.specs.Generating.{BreaksOff, CountsFault, EndsGenerating, EndsWhole, Generates, IsGenerated, IsWhole, Prints, RunsCore, TellsTotals, first_place, status_of, totals}
use Rattle.qs_replay_generated.specs.Making.{BreaksAt, LinesMade, Place, RunMade, SoFar, calls_of}
use Rattle.qs_replay_generated.specs.Summing.{SumsUp}
use Rattle.qs_replay_generated.specs.declared.counts.Counts.{Counts}
use Rattle.qs_replay_generated.proofs.SameDisks.{IsShaped, shaped_after}

-- the calls of lines, one behind the other
pub plays_lines : {D : Type 0} (seen : D → Seen) (a : Place D) (lines : List (List Call)) (b : Place D) → LinesMade seen a lines b →
    Plays seen a.world (calls_of lines) b.world
plays_lines {D} seen a [] b done = ap (λ (p : Place D). p.world) done
plays_lines seen a (calls ∷ lines) b done =
    plays_more seen a.world calls done.0.world (calls_of lines) b.world done.1.0.is.plays (plays_lines seen done.0 lines b done.1.1)

-- what was put on a new stream, and then written
puts_line : (out mid out2 : Side) (old put flushed : Buffers) (line : List ℕ) → Puts line out old mid put → Puts [] mid put out2 flushed → Puts line out old out2 flushed
puts_line out mid out2 old put flushed line first then = record {
  waiting = then.waiting ∙ first.waiting;
  moved = λ input.
      subst (λ (given : List ℕ). Moved [] given (record { input = input; output = out; stream = old }) (record { input = input; output = out2; stream = flushed }))
      (append-nil line)
      (moved_on (record { input = input; output = out; stream = old }) (record { input = input; output = mid; stream = put })
      (record { input = input; output = out2; stream = flushed }) [] line [] [] (first.moved input) (then.moved input));
}

abbrev no_side : Side
no_side = record { bytes = None; faults = 0 }

-- it was written whole
pub record Written (line : List ℕ) (result : Status) (out out' : Side) : Type 0 where
  pub prints : Prints line out.bytes result out'.bytes
  pub cause : CountsFault result out.faults out'.faults

whole_by : (out out' : Side) (line : List ℕ) (old new : Buffers) → old ≡ new_buffers → new.held ≡ [] → new.state ≡ Open → Puts line out old out' new →
    Written line status.Done out out'
whole_by out out' line old new fresh empty is puts =
    let moved = puts.moved no_side in
    let held : old.held ≡ [] = ap (λ (b : Buffers). b.held) fresh in
    let rest : moved.rest ≡ [] = moved.waits is ∙ empty in
    let same : moved.gives.out ≡ line =
    sym (append-nil moved.gives.out) ∙ ap (λ (r : List ℕ). moved.gives.out ++ r) (sym rest) ∙ sym moved.gives.joined ∙ ap (λ (h : List ℕ). h ++ line) held in
    let rises = rises_from old.state new.state _ _ (ap (λ (b : Buffers). b.state) fresh) moved.runs in
    record {
      prints = subst (λ (l : List ℕ). Appends out.bytes out'.bytes l) same moved.gives.wrote;
      cause = (subst (λ (s : State). Rises s 0 0 out.faults out'.faults) is rises).1;
    }

part_by : (out out' : Side) (line : List ℕ) (old new : Buffers) → old ≡ new_buffers → new.state ≢ Open → Puts line out old out' new →
    Written line status.WriteFault out out'
part_by out out' line old new fresh failed puts =
    let moved = puts.moved no_side in
    let held : old.held ≡ [] = ap (λ (b : Buffers). b.held) fresh in
    let open_first : old.state ≡ Open = ap (λ (b : Buffers). b.state) fresh in
    let is : new.state ≡ WriteFault = write_failed out out' old new line puts open_first failed in
    let rises = rises_from old.state new.state _ _ open_first moved.runs in
    record {
      prints = (moved.gives.out, moved.rest, (sym (ap (λ (h : List ℕ). h ++ line) held) ∙ moved.gives.joined, moved.gives.wrote));
      cause = (subst (λ (s : State). Rises s 0 0 out.faults out'.faults) is rises).1;
    }

pub whole_line : (out mid out' : Side) (old put new : Buffers) (line : List ℕ) → old ≡ new_buffers → Puts line out old mid put → Puts [] mid put out' new →
    new.held ≡ [] → new.state ≡ Open → Written line status.Done out out'
whole_line out mid out' old put new line fresh first then empty is =
    whole_by out out' line old new fresh empty is (puts_line out mid out' old put new line first then)

pub part_of_line : (out mid out' : Side) (old put new : Buffers) (line : List ℕ) → old ≡ new_buffers → Puts line out old mid put → Puts [] mid put out' new →
    new.state ≢ Open → Written line status.WriteFault out out'
part_of_line out mid out' old put new line fresh first then failed =
    part_by out out' line old new fresh failed (puts_line out mid out' old put new line first then)

-- a run from its beginning
pub from_first : {D : Type 0} (seen : D → Seen) (seed size : ℕ) (start : WorldValue D) (run : Generated) (live : List LiveRequest) (names : Names)
    (result : Result Unit Stop) (here : Place D) (counts : Counts) → run ≡ record { size = size; state = seed; turn = Attach 0 } → live ≡ [] → names ≡ no_names →
    RunMade seen (record { run = run; live = live; world = start; names = names }) result here counts → RunMade seen (first_place seed size start) result here counts
from_first {D} seen seed size start run live names result here counts run_is live_is names_are made =
    subst (λ (r : Generated). RunMade seen (record { run = r; live = []; world = start; names = no_names }) result here counts) run_is
    (subst (λ (l : List LiveRequest). RunMade seen (record { run = run; live = l; world = start; names = no_names }) result here counts) live_is
    (subst (λ (t : Names). RunMade seen (record { run = run; live = live; world = start; names = t }) result here counts) names_are made))

-- the line was written or not
told_by : {D : Type 0} (seen : D → Seen) (align blocks : ℕ) (counts : Counts) (disks disks' : List D) (sent sent' : Option (List ℕ)) (sum : ℕ) (result : Status) →
    SumsUp seen align blocks disks sum disks' → Prints (totals_line (totals counts sum)) sent result sent' →
    TellsTotals seen align blocks counts disks sent result disks' sent'
told_by seen align blocks counts disks disks' sent sent' sum status.Done sums prints = (sum, (sums, prints))
told_by seen align blocks counts disks disks' sent sent' sum status.WriteFault sums prints = (sum, (sums, prints))
told_by seen align blocks counts disks disks' sent sent' sum _ sums prints = absurd prints

pub told_so : {D : Type 0} (seen : D → Seen) (align blocks : ℕ) (counts : Counts) (disks disks' : List D) (sent sent' : Option (List ℕ)) (line : List ℕ) (sum : ℕ)
    (result : Status) → SumsUp seen align blocks disks sum disks' → line ≡ totals_line (totals counts sum) → Prints line sent result sent' →
    TellsTotals seen align blocks counts disks sent result disks' sent'
told_so seen align blocks counts disks disks' sent sent' line sum result sums is prints =
    told_by seen align blocks counts disks disks' sent sent' sum result sums (subst (λ (l : List ℕ). Prints l sent result sent') is prints)

-- a run to the end of its rounds
pub record MadeWhole {D : Type 0} (seen : D → Seen) (seed size : ℕ) (start w : WorldValue D) (counts : Counts) : Type 0 where
  pub here : Place D
  pub so_far : SoFar seen (first_place seed size start) here counts
  pub whole : IsWhole here [] w

pub made_whole : {D : Type 0} (seen : D → Seen) (seed size : ℕ) (start w : WorldValue D) (counts : Counts) (result : Result Unit Stop) (u : Unit) → result ≡ Ok u →
    RunsCore seen seed size start result w counts → MadeWhole seen seed size start w counts
made_whole {D} seen seed size start w counts result u is core =
    let came : RunsCore seen seed size start (Ok u) w counts = subst (λ (r : Result Unit Stop). RunsCore seen seed size start r w counts) is core in
    record {
      here = record came.0 { run = came.1.0.0 };
      so_far = came.1.0.1.0;
      whole = record { no_more = came.1.0.1.1; cut_is = refl; world_is = came.1.1 };
    }

-- the disks that it leaves
pub shaped_whole : {D : Type 0} (seen : D → Seen) (seed align blocks : ℕ) (disks : List D) (start w : WorldValue D) (counts : Counts) (left : List D) →
    Begins seen disks false start → (IsImage (map seen disks) → (align_of (map seen disks) ≡ align) × (size_of (map seen disks) ≡ blocks * align)) →
    MadeWhole seen seed (blocks * align) start w counts → left ≡ map (λ s. s.disk) w.stripes → IsShaped align (blocks * align) (map seen left)
shaped_whole {D} seen seed align blocks disks start w counts left begins told made left_are =
    subst (λ (ds : List D). IsShaped align (blocks * align) (map seen ds))
    (sym (left_are ∙ ap (λ (x : WorldValue D). map (λ (s : StripeState D). s.disk) x.stripes) made.whole.world_is))
    (shaped_after seen align (blocks * align) disks (first_place seed (blocks * align) start) made.so_far.lines made.here begins told made.so_far.made)

-- the calls of lines, and those of one that was cut off
all_plays : {D : Type 0} (seen : D → Seen) (disks : List D) (start w : WorldValue D) (a here : Place D) (counts : Counts) (cut : List Call)
    (so : SoFar seen a here counts) → a.world ≡ start → Begins seen disks false start → Plays seen here.world cut w →
    HasRun seen (map seen disks) false start (calls_of so.lines ++ cut) w
all_plays {D} seen disks start w a here counts cut so is begins plays =
    has_run seen disks false start w (calls_of so.lines ++ cut) begins
    (subst (λ (x : WorldValue D). Plays seen x (calls_of so.lines ++ cut) w) is
    (plays_more seen a.world (calls_of so.lines) here.world cut w (plays_lines seen a so.lines here so.made) plays))

ends_whole : {D : Type 0} (seen : D → Seen) (align blocks : ℕ) (here : Place D) (counts : Counts) (cut : List Call) (w : WorldValue D) (sent : Option (List ℕ))
    (result : Status) (disks' : List D) (sent' : Option (List ℕ)) → EndsWhole seen align blocks here counts cut w sent result disks' sent' →
    EndsGenerating seen align blocks here counts cut w sent result disks' sent'
ends_whole seen align blocks here counts cut w sent status.Done disks' sent' is = is
ends_whole seen align blocks here counts cut w sent status.WriteFault disks' sent' is = is
ends_whole seen align blocks here counts cut w sent status.Memory disks' sent' is = inl is
ends_whole seen align blocks here counts cut w sent _ disks' sent' is = absurd is.1.1.1

ends_sooner : {D : Type 0} (seen : D → Seen) (align blocks : ℕ) (here : Place D) (counts : Counts) (cut : List Call) (w : WorldValue D) (sent : Option (List ℕ))
    (s : Stop) (disks' : List D) (sent' : Option (List ℕ)) → BreaksOff seen here s cut w sent disks' sent' →
    EndsGenerating seen align blocks here counts cut w sent (status_of s counts.lines) disks' sent'
ends_sooner seen align blocks here counts cut w sent stop.BadLine disks' sent' breaks = (refl, breaks)
ends_sooner seen align blocks here counts cut w sent stop.NotNext disks' sent' breaks = (refl, breaks)
ends_sooner seen align blocks here counts cut w sent stop.Memory disks' sent' breaks = inr breaks

generates_of : {D : Type 0} (seen : D → Seen) (seed align blocks : ℕ) (disks : List D) (sent : Option (List ℕ)) (result : Status) (disks' : List D)
    (sent' : Option (List ℕ)) → IsGenerated seen seed align blocks disks sent result disks' sent' → Generates seen seed align blocks disks sent result disks' sent'
generates_of seen seed align blocks disks sent (status.OpenBad bad) disks' sent' is = absurd is.ends
generates_of seen seed align blocks disks sent status.Memory disks' sent' is = inr is
generates_of seen seed align blocks disks sent other disks' sent' is = is

pub ended_whole : {D : Type 0} (seen : D → Seen) (seed align blocks : ℕ) (disks : List D) (start w : WorldValue D) (counts : Counts) (left disks' : List D)
    (sent sent' : Option (List ℕ)) (result : Status) → Begins seen disks false start → MadeWhole seen seed (blocks * align) start w counts →
    left ≡ map (λ s. s.disk) w.stripes → TellsTotals seen align blocks counts left sent result disks' sent' →
    Generates seen seed align blocks disks sent result disks' sent'
ended_whole {D} seen seed align blocks disks start w counts left disks' sent sent' result begins made left_are tells =
    generates_of seen seed align blocks disks sent result disks' sent' (record {
      start = start;
      begins = begins;
      here = made.here;
      counts = counts;
      so_far = made.so_far;
      cut = [];
      after_all = w;
      ends = ends_whole seen align blocks made.here counts [] w sent result disks' sent'
          (made.whole, subst (λ (ds : List D). TellsTotals seen align blocks counts ds sent result disks' sent') left_are tells);
      run = all_plays seen disks start w (first_place seed (blocks * align) start) made.here counts [] made.so_far refl begins made.whole.world_is;
    })

pub ended_sooner : {D : Type 0} (seen : D → Seen) (seed align blocks : ℕ) (disks : List D) (start w : WorldValue D) (counts : Counts) (left : List D)
    (sent : Option (List ℕ)) (result : Status) (made : Result Unit Stop) (s : Stop) → made ≡ Err s → Begins seen disks false start →
    RunsCore seen seed (blocks * align) start made w counts → left ≡ map (λ s. s.disk) w.stripes → result ≡ status_of s counts.lines →
    Generates seen seed align blocks disks sent result left sent
ended_sooner {D} seen seed align blocks disks start w counts left sent result made s is begins core left_are result_is =
    let came : RunsCore seen seed (blocks * align) start (Err s) w counts =
    subst (λ (r : Result Unit Stop). RunsCore seen seed (blocks * align) start r w counts) is core in
    let mid : Place D = came.1.0.0 in
    let so : SoFar seen (first_place seed (blocks * align) start) mid counts = came.1.0.1.0 in
    let breaks : BreaksAt seen mid s w = subst (λ (x : WorldValue D). BreaksAt seen mid s x) (sym came.1.1) came.1.0.1.1 in
    generates_of seen seed align blocks disks sent result left sent (record {
      start = start;
      begins = begins;
      here = mid;
      counts = counts;
      so_far = so;
      cut = breaks.cut;
      after_all = w;
      ends = subst (λ (r : Status). EndsGenerating seen align blocks mid counts breaks.cut w sent r left sent) (sym result_is)
          (ends_sooner seen align blocks mid counts breaks.cut w sent s left sent
          (record { breaks = breaks; cut_is = refl; disks_are = left_are; nothing = refl }));
      run = all_plays seen disks start w (first_place seed (blocks * align) start) mid counts breaks.cut so refl begins breaks.plays;
    })

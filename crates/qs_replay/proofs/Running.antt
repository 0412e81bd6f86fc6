-- From the disks to the run.
use Rattle.std.proofs.Common.{◌≡◌, ℕ, ◌*◌, ◌<◌, ◌≤◌, ◌⊎◌, List, [], ◌∷◌, ◌++◌, refl, sym, subst, inl, inr, arith}
use Rattle.std.specs.Prelude.{false, Option, Some, None, String, map}
use Rattle.std.specs.Global.{Global}
use Rattle.qs_status.specs.declared.status.Status.{Status}
use Rattle.qs_status.specs.declared.status.Status.TheVariants as status
use Rattle.qs_outside.specs.Blocks.{Seen}
use Rattle.qs_stream.specs.declared.state.State.{State}
use Rattle.qs_stream.specs.declared.state.State.TheVariants.{Open}
use Rattle.qs_stream.specs.Buffers.{Buffers, new_buffers}
use Rattle.qs_stream.specs.Flows.{Proceeds, Rises, Side}
use Rattle.qs_stream.proofs.Moves.{rises_from}
use Rattle.qs_world.specs.Values.{WorldValue}
use Rattle.qs_calls.specs.Calls.{Call, Plays}
use Rattle.qs_calls.specs.Runs.{Begins, ComesBack}
use Rattle.qs_replay_generated.specs.Generating.{CountsFault, Generates}
use Rattle.qs_replay_words.proofs.FromLeft.{tells_one}
use Rattle.qs_replay_words.specs.Words.{IsImageOf, TellsWords}
use Rattle.qs_replay_words.specs.declared.words.ReplayWords.{ReplayWords}
use Rattle.qs_replay.specs.Runs.{IsEnough, IsReplayed, Opening, Ran, RanBy, RunsScript, first_scene, most_lines}
use Rattle.qs_replay.specs.Scripts.{AllDone, Replays, Scene, SoFar, side_of}
use Rattle.qs_replay_lines.specs.Tables.{Names, no_names}
use Rattle.qs_calls.proofs.Plays.{plays_more}
use Rattle.qs_calls.proofs.Runs.{has_run}
use Rattle.qs_replay.proofs.Reaching.{reaches}

pub so_far_at : {D : Type 0} (seen : D → Seen) (a b : Scene D) (n m : ℕ) → n ≡ m → SoFar seen a n b → SoFar seen a m b
so_far_at seen a b n m same so = subst (λ (k : ℕ). SoFar seen a k b) same so

-- the calls of lines, one behind the other
pub plays_done : {D : Type 0} (seen : D → Seen) (w : WorldValue D) (t : Names) (texts : List (List ℕ)) (calls : List Call) (printed : List ℕ)
    (w' : WorldValue D) (t' : Names) → AllDone seen w t texts calls printed w' t' → Plays seen w calls w'
plays_done {D} seen w t [] calls printed w' t' done = subst (λ (cs : List Call). Plays seen w cs w') (sym done.calls_are) done.world
plays_done {D} seen w t (text ∷ texts) calls printed w' t' done =
    subst (λ (cs : List Call). Plays seen w cs w') (sym done.calls_are)
    (plays_more seen w done.first done.world done.later w' done.does.is.plays
    (plays_done seen done.world done.names texts done.later done.more w' t' done.rest))

-- where nothing waited at first
pub replays_from : {D : Type 0} (seen : D → Seen) (input output : Side) (stream : Buffers) (w : WorldValue D) (t : Names) (n : ℕ) (result : Status) (after_all : Scene D) →
    stream ≡ new_buffers → t ≡ no_names →
    Replays seen (record { flow = record { input = input; output = output; stream = stream }; world = w; names = t }) n result after_all →
    Replays seen (first_scene input output w) n result after_all
replays_from seen input output stream w t n result after_all e f replays =
    subst (λ (x : Buffers). Replays seen (record { flow = record { input = input; output = output; stream = x }; world = w; names = no_names }) n result after_all) e
    (subst (λ (x : Names). Replays seen (record { flow = record { input = input; output = output; stream = stream }; world = w; names = x }) n result after_all) f
    replays)

pub is_replayed : {D : Type 0} (seen : D → Seen) (disks disks' : List D) (input output : Side) (result : Status) (start : WorldValue D) (after_all : Scene D) →
    Begins seen disks false start → Replays seen (first_scene input output start) most_lines result after_all → disks' ≡ map (λ s. s.disk) after_all.world.stripes →
    IsReplayed seen disks input.bytes output.bytes result disks' after_all.flow.input.bytes after_all.flow.output.bytes
is_replayed seen disks disks' input output result start after_all begins replays is = record {
  start = start;
  begins = begins;
  read_faults = input.faults;
  write_faults = output.faults;
  after_all = after_all;
  replays = replays;
  left_is = refl;
  sent_is = refl;
  disks_are = is;
  reaches = λ script told. reaches seen (first_scene input output start) most_lines result after_all script told refl replays;
  run = has_run seen disks false start after_all.world (replays.calls ++ replays.cut) begins
      (plays_more seen start replays.calls replays.world replays.cut after_all.world
      (plays_done seen start no_names replays.texts replays.calls replays.printed replays.world replays.names replays.done) replays.cut_plays);
}

-- the counts over a replay
pub replay_rises : {D : Type 0} (seen : D → Seen) (a z : Scene D) (n : ℕ) (result : Status) → a.flow.stream.state ≡ Open → Replays seen a n result z →
    Rises (side_of result) a.flow.input.faults z.flow.input.faults a.flow.output.faults z.flow.output.faults
replay_rises seen a z n result going replays =
    rises_from a.flow.stream.state (side_of result) a.flow z.flow going
    (subst (λ (s : State). Proceeds a.flow.stream.state s a.flow z.flow) replays.failed replays.moved.runs)

-- and where the disks came back
pub back_rises : {D : Type 0} (seen : D → Seen) (disks back : List D) (result : Status) (r w : ℕ) → ComesBack seen disks back result →
    Rises (side_of result) r r w w
back_rises seen disks back (status.OpenBad bad) r w is = (refl, refl)
back_rises seen disks back status.Memory r w is = (refl, refl)
back_rises seen disks back _ r w is = absurd is

pub opening_of : {D : Type 0} (seen : D → Seen) (disks disks' : List D) (left sent left' sent' : Option (List ℕ)) (result : Status) →
    IsReplayed seen disks left sent result disks' left' sent' → Opening seen disks left sent result disks' left' sent'
opening_of seen disks disks' left sent left' sent' status.Usage is = absurd is.replays.ends
opening_of seen disks disks' left sent left' sent' (status.OpenBad bad) is = absurd is.replays.ends
opening_of seen disks disks' left sent left' sent' status.Memory is = inr is
opening_of seen disks disks' left sent left' sent' other is = is

-- the counts over a made-up run
generated_rises : (result : Status) (r w w2 : ℕ) → CountsFault result w w2 → Rises (side_of result) r r w w2
generated_rises status.WriteFault r w w2 counts = (refl, counts)
generated_rises status.ReadFault r w w2 counts = absurd counts
generated_rises _ r w w2 counts = (refl, counts)

pub made_rises : (result : Status) (r r2 w w2 : ℕ) → r2 ≡ r → CountsFault result w w2 → Rises (side_of result) r r2 w w2
made_rises result r r2 w w2 same counts = subst (λ (n : ℕ). Rises (side_of result) r n w w2) (sym same) (generated_rises result r w w2 counts)

-- eight blocks are enough for each request of a run
long_by : (align blocks : ℕ) → (align ≡ 512) ⊎ (align ≡ 4096) → 8 ≤ blocks → 2048 < blocks * align
long_by align blocks (inl e) many = subst (λ (a : ℕ). 2048 < blocks * a) (sym e) (omega (arith, many))
long_by align blocks (inr e) many = subst (λ (a : ℕ). 2048 < blocks * a) (sym e) (omega (arith, many))

pub long_enough : (told : ReplayWords) → IsImageOf told → 8 ≤ told.blocks → 2048 < told.blocks * told.align
long_enough told is many = long_by told.align told.blocks is.align many

-- a script's replay, as what the words tell
pub opening_ran : {D : Type 0} (seen : D → Seen) (disks disks' : List D) (left sent left' sent' : Option (List ℕ)) (told : ReplayWords) (result : Status) →
    told.generate ≡ None → Opening seen disks left sent result disks' left' sent' → RanBy told seen disks left sent result disks' left' sent'
opening_ran seen disks disks' left sent left' sent' told status.Usage e opening = absurd opening
opening_ran seen disks disks' left sent left' sent' told other e opening = (
  subst (λ (g : Option ℕ). IsEnough g told.blocks) (sym e) tt,
  subst (λ (g : Option ℕ). RunsScript g told.align told.blocks seen disks left sent other disks' left' sent') (sym e) opening,
)

-- and a made-up run
pub generated_ran : {D : Type 0} (seen : D → Seen) (disks disks' : List D) (left sent left' sent' : Option (List ℕ)) (told : ReplayWords) (seed : ℕ) (result : Status) →
    told.generate ≡ Some seed → 8 ≤ told.blocks → Generates seen seed told.align told.blocks disks sent result disks' sent' → left' ≡ left →
    RanBy told seen disks left sent result disks' left' sent'
generated_ran seen disks disks' left sent left' sent' told seed status.Usage e many generates same = absurd generates.ends
generated_ran seen disks disks' left sent left' sent' told seed other e many generates same = (
  subst (λ (g : Option ℕ). IsEnough g told.blocks) (sym e) many,
  subst (λ (g : Option ℕ). RunsScript g told.align told.blocks seen disks left sent other disks' left' sent') (sym e) (generates, same),
)

-- there are too few blocks
pub few_ran : {D : Type 0} (seen : D → Seen) (disks : List D) (left sent : Option (List ℕ)) (told : ReplayWords) (seed : ℕ) →
    told.generate ≡ Some seed → (8 ≤ told.blocks → ⊥) → RanBy told seen disks left sent status.Usage disks left sent
few_ran seen disks left sent told seed e few = (
  λ enough. few (subst (λ (g : Option ℕ). IsEnough g told.blocks) e enough),
  record { disks_same = refl; left_same = refl; sent_same = refl },
)

-- words that tell this
pub ran_of : {D : Type 0} (words : List (String Global)) (seen : D → Seen) (disks disks' : List D) (left sent left' sent' : Option (List ℕ)) (told : ReplayWords)
    (result : Status) → TellsWords words told → RanBy told seen disks left sent result disks' left' sent' → Ran words seen disks left sent result disks' left' sent'
ran_of words seen disks disks' left sent left' sent' told status.Usage tells ran = (
  λ are. ran.0 (subst (λ (t : ReplayWords). IsEnough t.generate t.blocks) (tells_one words are.0 told are.1.0 tells) are.1.1),
  ran.1,
)
ran_of words seen disks disks' left sent left' sent' told other tells ran = (told, (tells, ran.0, ran.1))

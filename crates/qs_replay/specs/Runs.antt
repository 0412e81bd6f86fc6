-- What `run_replay` does, from its words to its status.
use Rattle.std.specs.Prelude.{◌≡◌, ◌^◌, ℕ, ◌≤◌, ◌⊎◌, false, List, [], ◌++◌, map, Option, Some, None, String}
use Rattle.std.specs.Global.{Global}
use Rattle.qs_status.specs.declared.status.Status.{Status}
use Rattle.qs_status.specs.declared.status.Status.TheVariants as status
use Rattle.qs_outside.specs.Blocks.{Seen}
use Rattle.qs_image.specs.Opening.{Opens}
use Rattle.qs_stream.specs.Buffers.{new_buffers}
use Rattle.qs_stream.specs.Flows.{Side}
use Rattle.qs_world.specs.Values.{WorldValue}
use Rattle.qs_replay_words.specs.declared.words.ReplayWords.{ReplayWords}
use Rattle.qs_calls.specs.Runs.{Begins, HasRun}
use Rattle.qs_replay_generated.specs.Generating.{Generates}
use Rattle.qs_replay.specs.Scripts.{ReachesLine, Replays, Scene, lines_of}
use Rattle.qs_replay_lines.specs.Tables.{Names, no_names}
use Rattle.qs_replay_words.specs.Words.{TellsWords}

-- the most lines of a script
abbrev pub most_lines : ℕ
most_lines = 2 ^ 32

-- What is seen before the first line: nothing was read or written yet, and no name stands for anything.
abbrev pub first_scene : {D : Type 0} → Side → Side → WorldValue D → Scene D
first_scene input output start = record {
  flow = record { input = input; output = output; stream = new_buffers };
  world = start;
  names = no_names;
}

-- The script was replayed over the disks, whatever faults were counted before. Where its source tells it, its lines
-- say how far. The calls of its lines, also of one that memory cut off, are a run from the opening, with all laws.
pub record IsReplayed {D : Type 0} (seen : D → Seen) (disks : List D) (left sent : Option (List ℕ)) (result : Status)
    (disks' : List D) (left' sent' : Option (List ℕ)) : Type 0 where
  pub start : WorldValue D
  pub begins : Begins seen disks false start
  pub read_faults : ℕ
  pub write_faults : ℕ
  pub after_all : Scene D
  pub replays : Replays seen
      (first_scene (record { bytes = left; faults = read_faults }) (record { bytes = sent; faults = write_faults })
      start) most_lines result after_all
  pub left_is : left' ≡ after_all.flow.input.bytes
  pub sent_is : sent' ≡ after_all.flow.output.bytes
  pub disks_are : disks' ≡ map (λ s. s.disk) after_all.world.stripes
  pub reaches : (script : List ℕ) → left ≡ Some script →
      ReachesLine result most_lines (lines_of script) replays.texts replays.world replays.names
  pub run : HasRun seen (map seen disks) false start (replays.calls ++ replays.cut) after_all.world

-- nothing was read, written or changed
pub record Untouched {D : Type 0} (disks : List D) (left sent : Option (List ℕ)) (disks' : List D)
    (left' sent' : Option (List ℕ)) : Type 0 where
  pub disks_same : disks' ≡ disks
  pub left_same : left' ≡ left
  pub sent_same : sent' ≡ sent

-- a run is made up over an image of eight blocks at least
abbrev pub IsEnough : Option ℕ → ℕ → Type 0
IsEnough None blocks = Unit {0}
IsEnough (Some seed) blocks = 8 ≤ blocks

-- the words ask for a script's replay, or for a run that is made up over enough blocks
abbrev pub AreWords : List (String Global) → Type 0
AreWords words = (told : ReplayWords) × (TellsWords words told × IsEnough told.generate told.blocks)

-- The disks are tested, and the script is replayed over them; memory may be refused before.
abbrev pub Opening : {D : Type 0} → (D → Seen) → List D → Option (List ℕ) → Option (List ℕ) → Status → List D →
    Option (List ℕ) → Option (List ℕ) → Type 0
Opening seen disks left sent status.Usage disks' left' sent' = ⊥
Opening seen disks left sent (status.OpenBad bad) disks' left' sent' = Opens (map seen disks) (Some bad)
    × Untouched disks left sent disks' left' sent'
Opening seen disks left sent status.Memory disks' left' sent' =
    Untouched disks left sent disks' left' sent' ⊎ IsReplayed seen disks left sent status.Memory disks' left' sent'
Opening seen disks left sent other disks' left' sent' = IsReplayed seen disks left sent other disks' left' sent'

-- A run was made up from this seed over the disks, and nothing was read; or there was none, and the script was
-- replayed.
abbrev pub RunsScript : {D : Type 0} → Option ℕ → ℕ → ℕ → (D → Seen) → List D → Option (List ℕ) → Option (List ℕ) →
    Status → List D →
    Option (List ℕ) → Option (List ℕ) → Type 0
RunsScript (Some seed) align blocks seen disks left sent result disks' left' sent' = Generates seen seed align blocks
    disks sent result disks' sent' × (left' ≡ left)
RunsScript None align blocks seen disks left sent result disks' left' sent' = Opening seen disks left sent result
    disks' left' sent'

-- what the words tell was done, or they ask for a run over too few blocks
abbrev pub RanBy : {D : Type 0} → ReplayWords → (D → Seen) → List D → Option (List ℕ) → Option (List ℕ) → Status →
    List D →
    Option (List ℕ) → Option (List ℕ) → Type 0
RanBy told seen disks left sent status.Usage disks' left' sent' = (IsEnough told.generate told.blocks → ⊥)
    × Untouched disks left sent disks' left' sent'
RanBy told seen disks left sent other disks' left' sent' =
    IsEnough told.generate told.blocks × RunsScript told.generate told.align told.blocks seen disks left sent other
    disks' left' sent'

-- One call of `run_replay`: the words are tested first, then the disks.
abbrev pub Ran : {D : Type 0} → List (String Global) → (D → Seen) → List D → Option (List ℕ) → Option (List ℕ) →
    Status → List D →
    Option (List ℕ) → Option (List ℕ) → Type 0
Ran words seen disks left sent status.Usage disks' left' sent' = (AreWords words → ⊥)
    × Untouched disks left sent disks' left' sent'
Ran words seen disks left sent other disks' left' sent' =
    (told : ReplayWords) × (TellsWords words told × IsEnough told.generate told.blocks ×
    RunsScript told.generate told.align told.blocks seen disks left sent other disks' left' sent')

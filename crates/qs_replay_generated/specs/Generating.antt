-- A made-up run over disks, from its seed to the line that it prints.
use Rattle.std.specs.Prelude.{◌≡◌, ℕ, ◌+◌, ◌*◌, ◌%◌, ◌^◌, ◌⊎◌, false, List, [], ◌++◌, map, Option, Some, None, Result}
use Rattle.std.specs.Io.KnownBytes.{Appends}
use Rattle.qs_status.specs.declared.status.Status.{Status}
use Rattle.qs_status.specs.declared.status.Status.TheVariants as status
use Rattle.qs_outside.specs.Blocks.{Seen}
use Rattle.qs_outside.specs.Faults.{Rose}
use Rattle.qs_image.specs.Opening.{Opens}
use Rattle.qs_generate.specs.Generated.{made_next}
use Rattle.qs_generate.specs.Sums.{totals_line}
use Rattle.qs_generate.specs.declared.live.NextMove.TheVariants.{Attach}
use Rattle.qs_generate.specs.declared.totals.RunTotals.{RunTotals}
use Rattle.qs_stream.specs.Faults.{Stays}
use Rattle.qs_world.specs.Values.{WorldValue}
use Rattle.qs_calls.specs.Calls.{Call}
use Rattle.qs_calls.specs.Runs.{Begins, HasRun}
use Rattle.qs_replay_lines.specs.Tables.{Names, no_names}
use Rattle.qs_replay_lines.specs.declared.stop.Stop.{Stop}
use Rattle.qs_replay_lines.specs.declared.stop.Stop.TheVariants as stop
use Rattle.qs_replay_generated.specs.Making.{BreaksAt, Place, RunMade, SoFar, calls_of}
use Rattle.qs_replay_generated.specs.Summing.{SumsUp}
use Rattle.qs_replay_generated.specs.declared.counts.Counts.{Counts}

-- where a run begins: the draws at the seed, no request is live, and no name stands for anything
abbrev pub first_place : {D : Type 0} → ℕ → ℕ → WorldValue D → Place D
first_place seed size start = record {
  run = record { size = size; state = seed; turn = Attach 0 };
  live = [];
  world = start;
  names = no_names;
}

-- a run from its beginning, up to where the core came to
abbrev pub RunsCore : {D : Type 0} → (D → Seen) → ℕ → ℕ → WorldValue D → Result Unit Stop → WorldValue D → Counts →
    Type 0
RunsCore seen seed size start result w counts =
    (here : Place _) × (RunMade seen (first_place seed size start) result here counts × (w ≡ here.world))

-- what a run came to
abbrev pub totals : Counts → ℕ → RunTotals
totals counts sum = record { errors = counts.errors; steps = counts.steps; sum = sum }

-- a line was written; a front of it where the output failed
abbrev pub Prints : List ℕ → Option (List ℕ) → Status → Option (List ℕ) → Type 0
Prints line sent status.Done sent' = Appends sent sent' line
Prints line sent status.WriteFault sent' = (front : List ℕ) × (rest : List ℕ)
    × ((line ≡ front ++ rest) × Appends sent sent' front)
Prints line sent other sent' = ⊥

-- The disks' content was summed up, and the run's line written. Where memory was refused nothing is, before or behind
-- the sum.
abbrev pub TellsTotals : {D : Type 0} → (D → Seen) → ℕ → ℕ → Counts → List D → Option (List ℕ) → Status → List D →
    Option (List ℕ) → Type 0
TellsTotals seen align blocks counts disks sent status.Memory disks' sent' =
    (sent' ≡ sent) × ((disks' ≡ disks) ⊎ ((sum : ℕ) × SumsUp seen align blocks disks sum disks'))
TellsTotals seen align blocks counts disks sent result disks' sent' =
    (sum : ℕ) × (SumsUp seen align blocks disks sum disks' × Prints (totals_line (totals counts sum)) sent result sent')

-- all rounds were done
pub record IsWhole {D : Type 0} (here : Place D) (cut : List Call) (w : WorldValue D) : Type 0 where
  pub no_more : (made_next here.run here.live).0 ≡ None
  pub cut_is : cut ≡ []
  pub world_is : w ≡ here.world

-- the next line wasn't done to its end, with these calls, and nothing is printed
pub record BreaksOff {D : Type 0} (seen : D → Seen) (here : Place D) (s : Stop) (cut : List Call) (w : WorldValue D)
    (sent : Option (List ℕ))
    (disks' : List D) (sent' : Option (List ℕ)) : Type 0 where
  pub breaks : BreaksAt seen here s w
  pub cut_is : cut ≡ breaks.cut
  pub disks_are : disks' ≡ map (λ s. s.disk) w.stripes
  pub nothing : sent' ≡ sent

-- all rounds were done, and what they came to is told
abbrev pub EndsWhole : {D : Type 0} → (D → Seen) → ℕ → ℕ → Place D → Counts → List Call → WorldValue D →
    Option (List ℕ) → Status → List D → Option (List ℕ) → Type 0
EndsWhole seen align blocks here counts cut w sent result disks' sent' =
    IsWhole here cut w × TellsTotals seen align blocks counts (map (λ s. s.disk) w.stripes) sent result disks' sent'

-- How a run ends, behind the lines that were done. A line that can't come is told by its number from 1, modulo 2^64.
abbrev pub EndsGenerating : {D : Type 0} → (D → Seen) → ℕ → ℕ → Place D → Counts → List Call → WorldValue D →
    Option (List ℕ) → Status → List D → Option (List ℕ) → Type 0
EndsGenerating seen align blocks here counts cut w sent status.Done disks' sent' = EndsWhole seen align blocks here
    counts cut w sent status.Done disks' sent'
EndsGenerating seen align blocks here counts cut w sent status.WriteFault disks' sent' = EndsWhole seen align blocks
    here counts cut w sent status.WriteFault disks' sent'
EndsGenerating seen align blocks here counts cut w sent status.Memory disks' sent' =
    EndsWhole seen align blocks here counts cut w sent status.Memory disks' sent'
    ⊎ BreaksOff seen here stop.Memory cut w sent disks' sent'
EndsGenerating seen align blocks here counts cut w sent (status.BadLine n) disks' sent' =
    (n ≡ (counts.lines + 1) % 2 ^ 64) × BreaksOff seen here stop.BadLine cut w sent disks' sent'
EndsGenerating seen align blocks here counts cut w sent (status.NotNext n) disks' sent' =
    (n ≡ (counts.lines + 1) % 2 ^ 64) × BreaksOff seen here stop.NotNext cut w sent disks' sent'
EndsGenerating seen align blocks here counts cut w sent other disks' sent' = ⊥

-- A run was made up from a seed over the disks: its lines were done in order, up to its end, and what they came to is
-- told in one line. All calls, also of a line that was cut off, are a run from the opening, with all laws.
pub record IsGenerated {D : Type 0} (seen : D → Seen) (seed align blocks : ℕ) (disks : List D)
    (sent : Option (List ℕ)) (result : Status)
    (disks' : List D) (sent' : Option (List ℕ)) : Type 0 where
  pub start : WorldValue D
  pub begins : Begins seen disks false start
  pub here : Place D
  pub counts : Counts
  pub so_far : SoFar seen (first_place seed (blocks * align) start) here counts
  pub cut : List Call
  pub after_all : WorldValue D
  pub ends : EndsGenerating seen align blocks here counts cut after_all sent result disks' sent'
  pub run : HasRun seen (map seen disks) false start (calls_of so_far.lines ++ cut) after_all

-- The disks are tested, and the run is made over them; memory may be refused before.
abbrev pub Generates : {D : Type 0} → (D → Seen) → ℕ → ℕ → ℕ → List D → Option (List ℕ) → Status → List D →
    Option (List ℕ) → Type 0
Generates seen seed align blocks disks sent (status.OpenBad bad) disks' sent' = Opens (map seen disks) (Some bad)
    × (disks' ≡ disks) × (sent' ≡ sent)
Generates seen seed align blocks disks sent status.Memory disks' sent' =
    ((disks' ≡ disks) × (sent' ≡ sent)) ⊎ IsGenerated seen seed align blocks disks sent status.Memory disks' sent'
Generates seen seed align blocks disks sent other disks' sent' = IsGenerated seen seed align blocks disks sent other
    disks' sent'

-- the output's count of faults rose where the status tells its fault, and else stays
abbrev pub CountsFault : Status → ℕ → ℕ → Type 0
CountsFault status.WriteFault before now = Rose before now
CountsFault status.ReadFault before now = ⊥
CountsFault other before now = Stays before now

-- the status of a run that ended sooner, behind so many lines
abbrev pub status_of : Stop → ℕ → Status
status_of stop.BadLine lines = status.BadLine ((lines + 1) % 2 ^ 64)
status_of stop.NotNext lines = status.NotNext ((lines + 1) % 2 ^ 64)
status_of stop.Memory lines = status.Memory

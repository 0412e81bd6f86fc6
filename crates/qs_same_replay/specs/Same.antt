-- Two replays of one script side by side, and what they have in common.
use Rattle.std.specs.Prelude.{◌≡◌, ◌≢◌, ℕ, Bool, true, false, List, [], ◌∷◌, map, Option, Some, None}
use Rattle.qs_status.specs.declared.status.Status.{Status}
use Rattle.qs_status.specs.declared.status.Status.TheVariants as status
use Rattle.qs_outside.specs.Blocks.{Seen}
use Rattle.qs_bytes.specs.Geometry.{stripe_of}
use Rattle.qs_determined.specs.Determined.{IsRowPlanned}
use Rattle.qs_image.specs.Image.{AllTell, align_of, block_now, size_of}
use Rattle.qs_model.specs.Acts.{Act, StoreFails, Element, Asked, Did, Crashed}
use Rattle.qs_model.specs.Requests.{Client, Stage, form_error}
use Rattle.qs_model.specs.Steps.{happens}
use Rattle.qs_model.specs.Worlds.{World}
use Rattle.qs_world.specs.Openings.{planned_of}
use Rattle.qs_calls.specs.Runs.{exported}
use Rattle.qs_replay.specs.Runs.{IsReplayed}

-- a request that is made was given its buffers, unless its form alone refuses it
abbrev pub IsGiven : Element → Type 0
IsGiven (Asked r c) = form_error c.ask ≡ false → c.buffered ≡ true
IsGiven _ = Unit {0}

-- A row in which the disk failed: that was planned, and the disk of a store told that it isn't full.
abbrev pub IsRowByPlan : ℕ → World → (ℕ → Option Bool) → Client → {stage : Stage} → Act stage → Type 0
IsRowByPlan A w full c (StoreFails {b = b} bytes took past) = ((w.plans (stripe_of b)).store ≢ None)
    × (full (stripe_of b) ≡ Some false)
IsRowByPlan A w full c act = IsRowPlanned A w c act

-- no disk failed in this step but by a plan
abbrev pub IsByPlan : ℕ → World → (ℕ → Option Bool) → Element → Type 0
IsByPlan A w full (Did r q act) = IsRowByPlan A w full q.client act
IsByPlan A w full _ = Unit {0}

-- No disk failed in these steps but by a plan, and no request was refused its buffers. Before each step the disks
-- told this of being full.
abbrev pub AreCalm : ℕ → World → List Element → List (ℕ → Option Bool) → Type 0
AreCalm A w [] [] = Unit {0}
AreCalm A w (e ∷ es) (full ∷ fulls) = IsByPlan A w full e × IsGiven e × AreCalm A (happens A w e) es fulls
AreCalm A w es fulls = ⊥

-- two crashes found the same of each block: what they might leave of it
abbrev pub IsCutAlike : World → Element → World → Element → Type 0
IsCutAlike w (Crashed left) v (Crashed other) = (b : ℕ) → v.image.past b ≡ w.image.past b
IsCutAlike w e v d = Unit {0}

-- so did each two crashes that stand at one place of two runs
abbrev pub AreCutAlike : ℕ → World → List Element → World → List Element → Type 0
AreCutAlike A w (e ∷ es) v (d ∷ ds) = IsCutAlike w e v d × AreCutAlike A (happens A w e) es (happens A v d) ds
AreCutAlike A w es v ds = Unit {0}

-- the input and the output didn't fail, and no memory was refused
abbrev pub IsSmooth : Status → Type 0
IsSmooth status.Memory = ⊥
IsSmooth status.ReadFault = ⊥
IsSmooth status.WriteFault = ⊥
IsSmooth other = Unit {0}

-- disks that tell their content, of one shape, with one content and the same failures planned
pub record OpenAlike (disks others : List Seen) : Type 0 where
  pub tell : AllTell disks
  pub tell_too : AllTell others
  pub align : align_of others ≡ align_of disks
  pub size : size_of others ≡ size_of disks
  pub now : (b : ℕ) → block_now others b ≡ block_now disks b
  pub planned : (j : ℕ) → planned_of others j ≡ planned_of disks j

-- two replays of one script that nothing outside disturbed
pub record AreComparable {D : Type 0} {seen : D →
    Seen} {disks others : List D} {left sent sent' : Option (List ℕ)} {result result' : Status}
    {disks1 others1 : List D} {left1 left2 sent1 sent2 : Option (List ℕ)} (one : IsReplayed seen disks left sent
    result disks1 left1 sent1)
    (two : IsReplayed seen others left sent' result' others1 left2 sent2) : Type 0 where
  pub script : List ℕ
  pub told : left ≡ Some script
  pub alike : OpenAlike (map seen disks) (map seen others)
  pub smooth : IsSmooth result
  pub smooth_too : IsSmooth result'
  pub calm : AreCalm (align_of (map seen disks)) (exported (map seen disks) false one.run.place) one.run.elements
      one.run.fulls
  pub calm_too : AreCalm (align_of (map seen others)) (exported (map seen others) false two.run.place)
      two.run.elements two.run.fulls
  pub cut : AreCutAlike (align_of (map seen disks)) (exported (map seen disks) false one.run.place) one.run.elements
      (exported (map seen others) false two.run.place) two.run.elements

-- They did the same: the status, the lines, the calls with their outcomes, what was printed, and the content of the
-- disks.
pub record AreSame {D : Type 0} {seen : D → Seen} {disks others : List D} {left sent sent' : Option (List ℕ)} {result
    result' : Status}
    {disks1 others1 : List D} {left1 left2 sent1 sent2 : Option (List ℕ)} (one : IsReplayed seen disks left sent
    result disks1 left1 sent1)
    (two : IsReplayed seen others left sent' result' others1 left2 sent2) : Type 0 where
  pub status_is : result' ≡ result
  pub texts : two.replays.texts ≡ one.replays.texts
  pub calls : two.replays.calls ≡ one.replays.calls
  pub printed : two.replays.printed ≡ one.replays.printed
  pub now : (b : ℕ) → block_now (map seen others1) b ≡ block_now (map seen disks1) b

-- A replay is a function of its script, the disks' shape, their opening content, and what each crash found of what it
-- might leave: no other one did anything else.
abbrev pub IsFunction : {D : Type 0} {seen : D →
    Seen} {disks : List D} {left sent : Option (List ℕ)} {result : Status} {disks1 : List D} {left1 sent1 : Option
    (List ℕ)} →
    IsReplayed seen disks left sent result disks1 left1 sent1 → Type 0
IsFunction {D} {seen} {disks} {left} {sent} {result} {disks1} {left1} {sent1} one =
    (others : List D) (sent' : Option (List ℕ)) (result' : Status) (others1 : List D) (left2 sent2 : Option (List ℕ))
    (two : IsReplayed seen others left sent' result' others1 left2 sent2) → AreComparable one two → AreSame one two

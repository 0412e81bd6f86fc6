-- The state of the core: sessions, requests, graph, tracker, image and planned failures.
use Rattle.std.specs.Prelude.{ℕ, ◌/◌, ◌%◌, Bool, List, [], Option, None, get_or}
use Rattle.qs_outside.specs.declared.rigged_disk.Plans.{Plans}
use Rattle.qs_part.specs.declared.stripe.Side.{Side}
use Rattle.qs_graph.specs.Table.{GraphValue, fresh as new_graph}
use Rattle.qs_tracker.specs.Table.{TrackerValue, fresh as new_tracker}
use Rattle.qs_model.specs.Requests.{Req}

-- who holds a block, and for which end of its span
pub record Hold : Type 0 where
  pub place : ℕ
  pub side : Side

-- The blocks of the image: what each holds, what a crash may leave of it, and who holds it; and of
-- each stripe whether nothing was stored since its last sync.
pub record Image : Type 0 where
  pub now : ℕ → List ℕ
  pub past : ℕ → List (List ℕ)
  pub holder : ℕ → Option Hold
  pub clean : ℕ → Bool

-- the byte at place x, where a block is A bytes
abbrev pub byte_at : ℕ → Image → ℕ → ℕ
byte_at A image x = get_or (image.now (x / A)) (x % A) 0

-- a session that isn't there, one that is attached to the export at a place, or one that has left it
pub data Session : Type 0 where
  Away : Session
  Live : (e : ℕ) → Session
  Leaving : (e : ℕ) → Session

-- All of the core. The graph and the tracker are those parts' own values; `clients` has the sessions that are
-- clients of the export at each place, which the graph counts. `tells` says whether the disks tell their content,
-- `next` is the number of the next request; a request that has ended is None. `plans` has the failures that are
-- planned for the disk of each stripe.
pub record World : Type 0 where
  pub tells : Bool
  pub next : ℕ
  pub req : ℕ → Option Req
  pub session : ℕ → Session
  pub graph : GraphValue
  pub clients : ℕ → List ℕ
  pub tracker : TrackerValue
  pub image : Image
  pub plans : ℕ → Plans

-- What the core is opened over. Of the disks: whether they tell their content, the failures that are planned for
-- them, what each block holds, what a crash may leave of it, and the stripes that stored nothing since their last
-- sync. Of the file node: its bytes, its name, and whether it is read-only.
pub record Opening : Type 0 where
  pub tells : Bool
  pub plans : ℕ → Plans
  pub now : ℕ → List ℕ
  pub past : ℕ → List (List ℕ)
  pub clean : ℕ → Bool
  pub size : ℕ
  pub file : List ℕ
  pub read_only : Bool

-- the core over these, after n requests were made
abbrev pub new_world : ℕ → Opening → World
new_world n o = record {
  tells = o.tells;
  next = n;
  req = λ r. None;
  session = λ s. Away;
  graph = new_graph o.size o.file o.read_only;
  clients = λ e. [];
  tracker = new_tracker 0;
  image = record { now = o.now; past = o.past; holder = λ b. None; clean = o.clean };
  plans = o.plans;
}

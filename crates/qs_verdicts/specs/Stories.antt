-- What happened to one request in a run, as its Ask, its Route, its blocks and its syncs tell it. No stage of the
-- machine is named here.
use Rattle.std.specs.Prelude.{◌≡◌, ℕ, Bool, true, false, ◌||◌, ◌==◌, if◌then◌else◌, List, [], ◌∷◌, ◌++◌, Option, Some, None}
use Rattle.qs_part.specs.declared.graph.Route.{Route}
use Rattle.qs_part.specs.declared.stripe.Side.TheVariants.{Tail}
use Rattle.qs_model.specs.Requests.{Client, Stage, edge, no_route, piece}
use Rattle.qs_model.specs.Acts.{Act, Routes, Shuts, Lists, Loads, LoadFails, Holds, HoldFails, Stores, StoreFails, Syncs, Cleans, SyncFails, Frees, Element, Left, Asked, Did, Crashed}

-- what the graph said of a request's way: nothing yet, that its export doesn't stand any more, or the way
pub data Way : Type 0 where
  Unknown : Way
  Shut : Way
  Given : Route → Way

-- The request as it was made, its way, whether its session has left, whether its span was listed, whether it did
-- anything to a block or a stripe, whether a disk failed in such a step, whether it loaded or stored its last block,
-- the covered bytes that it loaded, and the stripes that it synced since its last store, done or refused, in order:
-- those that were answered Synced or Clean.
pub record Story : Type 0 where
  pub client : Client
  pub way : Way
  pub left : Bool
  pub listed : Bool
  pub worked : Bool
  pub fault : Bool
  pub ended : Bool
  pub got : List ℕ
  pub synced : List ℕ

-- a request that was just made
abbrev pub begun : Client → Story
begun c = record {
  client = c;
  way = Unknown;
  left = false;
  listed = false;
  worked = false;
  fault = false;
  ended = false;
  got = [];
  synced = [];
}

abbrev pub route_by : Way → Route
route_by (Given route) = route
route_by _ = no_route

-- the request as it goes on: as it was made, with its way
abbrev pub sent : Story → Client
sent n = record n.client { route = route_by n.way }

-- b is the last block that the request reaches
abbrev pub is_last : ℕ → Client → ℕ → Bool
is_last A c b = b == edge A c Tail

-- what a step of the request adds to its story
abbrev pub told_row : ℕ → Story → {stage : Stage} → Act stage → Story
told_row A n (Routes route) = record n { way = Given route }
told_row A n Shuts = record n { way = Shut }
told_row A n (Lists m) = record n { listed = true }
told_row A n (Loads {b = b} bytes) = record n {
  worked = true;
  ended = n.ended || is_last A (sent n) b;
  got = n.got ++ piece A (sent n) b bytes;
}
told_row A n LoadFails = record n { worked = true; fault = true }
told_row A n (Holds bytes) = record n { worked = true }
told_row A n HoldFails = record n { worked = true; fault = true }
told_row A n (Stores {b = b} bytes past) = record
    n { worked = true; ended = n.ended || is_last A (sent n) b; synced = [] }
told_row A n (StoreFails bytes took past) = record n { worked = true; fault = true; synced = [] }
told_row A n (Syncs {s = s}) = record n { worked = true; synced = n.synced ++ s ∷ [] }
told_row A n (Cleans {s = s}) = record n { worked = true; synced = n.synced ++ s ∷ [] }
told_row A n SyncFails = record n { worked = true; fault = true }
told_row A n Frees = record n { worked = true }
told_row A n _ = n

-- what a step of the run adds to the story of request r; there is none before its Ask, and a crash ends all
abbrev pub told_step : ℕ → ℕ → Option Story → Element → Option Story
told_step A r o (Asked s c) = if s == r then Some (begun c) else o
told_step A r (Some n) (Left s e) = Some (if n.client.session == s then record n { left = true } else n)
told_step A r (Some n) (Did s q act) = Some (if s == r then told_row A n act else n)
told_step A r o (Crashed left) = None
told_step A r o _ = o

abbrev pub told_from : ℕ → ℕ → Option Story → List Element → Option Story
told_from A r o [] = o
told_from A r o (e ∷ es) = told_from A r (told_step A r o e) es

-- the story of request r up to here
abbrev pub told : ℕ → ℕ → List Element → Option Story
told A r es = told_from A r None es

-- the request has a story up to here, and it is so
abbrev pub HasStory : ℕ → ℕ → List Element → (Story → Type 0) → Type 0
HasStory A r es P = (n : Story) × ((told A r es ≡ Some n) × P n)

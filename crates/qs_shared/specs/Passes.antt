-- A session's pass: the calls that it has seen of each part, and its own.
use Rattle.std.specs.Prelude.{◌≡◌, ℕ, Bool, List, [], map, replicate, None}
use Rattle.qs_part.specs.declared.graph.GraphOp.{GraphOp}
use Rattle.qs_part.specs.declared.graph.GraphReply.{GraphReply}
use Rattle.qs_part.specs.declared.group.GroupOp.{GroupOp}
use Rattle.qs_part.specs.declared.group.GroupReply.{GroupReply}
use Rattle.qs_part.specs.declared.runs.StripeAnswer.{StripeAnswer}
use Rattle.qs_part.specs.declared.runs.StripeCall.{StripeCall}
use Rattle.qs_part.specs.declared.tracker.TrackerOp.{TrackerOp}
use Rattle.qs_part.specs.declared.tracker.TrackerReply.{TrackerReply}
use Rattle.qs_part.specs.Histories.{Call}
use Rattle.qs_task.specs.Books.{Book}
use Rattle.qs_turn.specs.declared.view.View.{View}
use Rattle.qs_turn.specs.Names.{Known}
use Rattle.qs_turn.specs.Words.{is_first, seen, own, out}
use Rattle.qs_turn.specs.Orders.{StartsWith}
use Rattle.qs_turn_rows.specs.Rows.{Pairs}
use Rattle.qs_shared.specs.Parts.{PassesOver}

-- calls of each part, those of one part in their order
pub record AllCalls : Type 0 where
  pub tracker : List (Call TrackerOp TrackerReply)
  pub graph : List (Call GraphOp GraphReply)
  pub groups : List (List (Call GroupOp GroupReply))
  pub stripes : List (List (Call StripeCall StripeAnswer))

-- no call of any part
abbrev pub none_called : AllCalls
none_called = record { tracker = []; graph = []; groups = replicate 16 []; stripes = replicate 8 [] }

-- the calls that a pass has seen
abbrev pub seen_calls : {D : Type 0} → PassesOver D → AllCalls
seen_calls p = record {
  tracker = seen p.tracker;
  graph = seen p.graph;
  groups = map seen p.groups.items;
  stripes = map seen p.stripes.items;
}

-- those of them that are its own
abbrev pub own_calls : {D : Type 0} → PassesOver D → AllCalls
own_calls p = record {
  tracker = own p.tracker;
  graph = own p.graph;
  groups = map own p.groups.items;
  stripes = map own p.stripes.items;
}

-- what requests have called: a pass tells the calls of each part, and no order among those of several parts
abbrev pub own_book : {D : Type 0} → PassesOver D → Book
own_book p = record {
  made = record { tracker = own p.tracker; graph = own p.graph; stripes = map own p.stripes.items };
  order = None;
}

-- whether it is the first pass, and of the first pass how many were split off and not joined back
abbrev pub is_first_pass : {D : Type 0} → PassesOver D → Bool
is_first_pass p = is_first p.tracker

abbrev pub passes_out : {D : Type 0} → PassesOver D → ℕ
passes_out p = out p.tracker

-- a pass of one turn, some calls later: it has seen what it had seen, and perhaps more
pub record FollowsPass {P O R : Type 0} (k n : Known (View P O R)) : Type 0 where
  pub seen_more : StartsWith (seen n) (seen k)
  pub same_first : is_first n ≡ is_first k
  pub same_out : out n ≡ out k

-- the same of each of a session's passes
pub record FollowsAll {D : Type 0} (p q : PassesOver D) : Type 0 where
  pub tracker : FollowsPass p.tracker q.tracker
  pub graph : FollowsPass p.graph q.graph
  pub groups : Pairs FollowsPass p.groups.items q.groups.items
  pub stripes : Pairs FollowsPass p.stripes.items q.stripes.items

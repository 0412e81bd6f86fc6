-- The calls that were made for numbered requests: each on its part, and where it is told all of them in order.
use Rattle.std.specs.Prelude.{ℕ, zero, suc, List, [], ◌∷◌, ◌++◌, Option, Some, None}
use Rattle.qs_part.specs.declared.graph.GraphOp.{GraphOp}
use Rattle.qs_part.specs.declared.graph.GraphOp.TheVariants.{Route as RouteOp}
use Rattle.qs_part.specs.declared.graph.GraphReply.{GraphReply}
use Rattle.qs_part.specs.declared.runs.StripeAnswer.{StripeAnswer}
use Rattle.qs_part.specs.declared.runs.StripeAnswer.TheVariants.{One as OneAnswer}
use Rattle.qs_part.specs.declared.runs.StripeCall.{StripeCall}
use Rattle.qs_part.specs.declared.runs.StripeCall.TheVariants.{One as OneCall}
use Rattle.qs_part.specs.declared.tracker.TrackerOp.{TrackerOp}
use Rattle.qs_part.specs.declared.tracker.TrackerOp.TheVariants.{Enter, List as ListOp, Start, End}
use Rattle.qs_part.specs.declared.tracker.TrackerReply.{TrackerReply}
use Rattle.qs_part.specs.Histories.{Call, call}
use Rattle.qs_request.specs.declared.todo.Todo.{Todo}
use Rattle.qs_request.specs.declared.todo.Todo.TheVariants.{Tracker, Route, Stripe, Answer}
use Rattle.qs_request.specs.declared.todo.PartReply.{PartReply}
use Rattle.qs_request.specs.declared.todo.PartReply.TheVariants.{Tracker as ByTracker, Graph as ByGraph, Stripe as ByStripe}

-- an operation of a request with its reply
abbrev pub RequestCall : Type 0
RequestCall = Call Todo PartReply

-- the calls that were made of each part
pub record PartCalls : Type 0 where
  pub tracker : List (Call TrackerOp TrackerReply)
  pub graph : List (Call GraphOp GraphReply)
  pub stripes : List (List (Call StripeCall StripeAnswer))

-- those of each part, and all of them in order where that is told
pub record Book : Type 0 where
  pub made : PartCalls
  pub order : Option (List RequestCall)

-- one more at the end of the list at a place
abbrev pub one_more_at : {A : Type 0} → ℕ → A → List (List A) → List (List A)
one_more_at i x [] = []
one_more_at zero x (xs ∷ lists) = (xs ++ x ∷ []) ∷ lists
one_more_at (suc i) x (xs ∷ lists) = xs ∷ one_more_at i x lists

-- a call is noted at its part
abbrev pub gains : ℕ → Todo → PartReply → PartCalls → PartCalls
gains n (Tracker op) (ByTracker reply) made = record made { tracker = made.tracker ++ call n op reply ∷ [] }
gains n (Route e) (ByGraph reply) made = record made { graph = made.graph ++ call n (RouteOp e) reply ∷ [] }
gains n (Stripe s op) (ByStripe reply) made =
    record made { stripes = one_more_at s (call n (OneCall op) (OneAnswer reply)) made.stripes }
gains n _ _ made = made

-- and at the end of the order
abbrev pub told_more : RequestCall → Option (List RequestCall) → Option (List RequestCall)
told_more c None = None
told_more c (Some order) = Some (order ++ c ∷ [])

abbrev pub notes : RequestCall → Book → Book
notes c book = record { made = gains c.request c.op c.reply book.made; order = told_more c book.order }

abbrev pub noted : List RequestCall → Book → Book
noted [] book = book
noted (c ∷ calls) book = noted calls (notes c book)

-- an operation that a request does: on the tracker those four, on the graph Route, and all of a stripe
abbrev pub IsOperation : Todo → Type 0
IsOperation (Tracker Enter) = Unit {0}
IsOperation (Tracker (ListOp k span serial)) = Unit {0}
IsOperation (Tracker (Start k)) = Unit {0}
IsOperation (Tracker (End k)) = Unit {0}
IsOperation (Tracker op) = ⊥
IsOperation (Route e) = Unit {0}
IsOperation (Stripe s op) = Unit {0}
IsOperation (Answer v) = ⊥

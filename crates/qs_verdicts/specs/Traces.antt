-- What stands open of one request, and which sessions are attached, as a run's steps tell it.
use Rattle.std.specs.Prelude.{ℕ, Bool, true, false, ◌==◌, if◌then◌else◌, List, [], ◌∷◌, Option, Some, None}
use Rattle.qs_part.specs.declared.stripe.Side.{Side}
use Rattle.qs_part.specs.declared.stripe.Side.TheVariants.{Head, Tail}
use Rattle.qs_model.specs.Requests.{Client, Stage, edge}
use Rattle.qs_model.specs.Acts.{Act, Lists, Holds, Stores, StoreFails, Frees, Element, Attached, Detached, Asked, Did, Crashed}

-- Of a request: whether its span was listed; and of its head and its tail whether the block's bytes were kept and the
-- block was since neither stored nor freed. A store that the disk refused counts as stored.
pub record Trace : Type 0 where
  pub listed : Bool
  pub head : Bool
  pub tail : Bool

abbrev pub blank : Trace
blank = record { listed = false; head = false; tail = false }

abbrev pub kept : Trace → Side → Bool
kept t Head = t.head
kept t Tail = t.tail

abbrev pub with_kept : Trace → Side → Bool → Trace
with_kept t Head b = record t { head = b }
with_kept t Tail b = record t { tail = b }

-- block b was stored
abbrev pub with_stored : ℕ → Client → Trace → ℕ → Trace
with_stored A c t b = record t {
  head = if b == edge A c Head then false else t.head;
  tail = if b == edge A c Tail
      then false else t.tail;
}

abbrev pub traced_row : ℕ → Trace → Client → {stage : Stage} → Act stage → Trace
traced_row A t c (Lists m) = record t { listed = true }
traced_row A t c (Holds {side = side} bytes) = with_kept t side true
traced_row A t c (Stores {b = b} bytes past) = with_stored A c t b
traced_row A t c (StoreFails {b = b} bytes took past) = with_stored A c t b
traced_row A t c (Frees {side = side}) = with_kept t side false
traced_row A t c _ = t

abbrev pub traced_step : ℕ → ℕ → Trace → Element → Trace
traced_step A r t (Asked s c) = if s == r then blank else t
traced_step A r t (Did s q act) = if s == r then traced_row A t q.client act else t
traced_step A r t (Crashed left) = blank
traced_step A r t _ = t

abbrev pub traced_from : ℕ → ℕ → Trace → List Element → Trace
traced_from A r t [] = t
traced_from A r t (e ∷ es) = traced_from A r (traced_step A r t e) es

-- what stands open of request r up to here
abbrev pub traced : ℕ → ℕ → List Element → Trace
traced A r es = traced_from A r blank es

-- the export that session s is attached to: it attached, and wasn't detached since
abbrev pub attached_step : ℕ → Option ℕ → Element → Option ℕ
attached_step s o (Attached t name info) = if t == s then Some info.e else o
attached_step s o (Detached t e) = if t == s then None else o
attached_step s o (Crashed left) = None
attached_step s o _ = o

abbrev pub attached_from : ℕ → Option ℕ → List Element → Option ℕ
attached_from s o [] = o
attached_from s o (e ∷ es) = attached_from s (attached_step s o e) es

abbrev pub attached : ℕ → List Element → Option ℕ
attached s es = attached_from s None es

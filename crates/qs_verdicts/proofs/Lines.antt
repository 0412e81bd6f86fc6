-- What the table of replies says of the lines that a request has passed.
use Rattle.std.proofs.Common.{◌≡◌, ◌≢◌, ℕ, Bool, true, false, not, ◌&&◌, ◌||◌, cond, if◌then◌else◌, nat_lt, List, Option, Some, None, refl, sym, ap, ◌∙◌, true≢false}
use Rattle.qs_bytes.specs.Payloads.{max_payload}
use Rattle.qs_bytes.specs.declared.ask.Ask.{Ask}
use Rattle.qs_bytes.specs.declared.ask.Kind.{Kind}
use Rattle.qs_bytes.specs.declared.ask.Kind.TheVariants.{Read, Write, Zero, Trim, Flush, Unknown}
use Rattle.qs_bytes.specs.declared.ask.Errno.TheVariants.{Perm, Io, NoMem, Inval, NoSpace}
use Rattle.qs_bytes.specs.declared.ask.Verdict.{Verdict}
use Rattle.qs_bytes.specs.declared.ask.Verdict.TheVariants.{Got, Fine, Refused, Dropped}
use Rattle.qs_part.specs.declared.graph.Route.{Route}
use Rattle.qs_model.specs.Requests.{is_flush, is_read, stores_bytes}
use Rattle.qs_verdicts.specs.Stories.{Story, Way, Unknown, Shut, Given}
use Rattle.qs_verdicts.specs.Verdicts.{MayWork, done, is_malformed, is_served, needs_leave, needs_places, needs_room, passes, reply_by_way, verdict_by_way, reply_on_way}

-- a request that has passed every line but the last two
abbrev pub Passed : Story → Type 0
Passed n = (fault : Bool) (got : List ℕ) → verdict_by_way n.client.ask n.client.buffered n.way fault got ≡ Some (if fault then Refused Io else done n.client.ask got)

-- a request whose form and buffers are good
pub record IsGood (n : Story) : Type 0 where
  pub form : is_malformed n.client.ask ≡ false
  pub room : n.client.buffered ≡ true

pub good_reply : (a : Ask) (buffered : Bool) (way : Way) (fault : Bool) (got : List ℕ) → is_malformed a ≡ false → buffered ≡ true →
    verdict_by_way a buffered way fault got ≡ reply_by_way a way fault got
good_reply a buffered way fault got form room =
    ap (λ (b : Bool). cond b (Some (Refused Inval)) (cond (not buffered) (Some (Refused NoMem)) (reply_by_way a way fault got))) form
    ∙ ap (λ (b : Bool). cond (not b) (Some (Refused NoMem)) (reply_by_way a way fault got)) room

pub bad_reply : (a : Ask) (buffered : Bool) (way : Way) (fault : Bool) (got : List ℕ) → is_malformed a ≡ true → verdict_by_way a buffered way fault got ≡ Some (Refused Inval)
bad_reply a buffered way fault got form =
    ap (λ (b : Bool). cond b (Some (Refused Inval)) (cond (not buffered) (Some (Refused NoMem)) (reply_by_way a way fault got))) form

pub no_room_reply : (a : Ask) (buffered : Bool) (way : Way) (fault : Bool) (got : List ℕ) → is_malformed a ≡ false → buffered ≡ false →
    verdict_by_way a buffered way fault got ≡ Some (Refused NoMem)
no_room_reply a buffered way fault got form room =
    ap (λ (b : Bool). cond b (Some (Refused Inval)) (cond (not buffered) (Some (Refused NoMem)) (reply_by_way a way fault got))) form
    ∙ ap (λ (b : Bool). cond (not b) (Some (Refused NoMem)) (reply_by_way a way fault got)) room

-- the line of permission
pub perm_line : (a : Ask) (route : Route) (fault : Bool) (got : List ℕ) → (needs_leave a.kind && not route.writable) ≡ true → reply_on_way a route fault got ≡ Refused Perm
perm_line a route fault got h =
    ap (λ (b : Bool). cond b (Refused Perm) (cond (needs_places a.kind && passes a route) (Refused Inval) (cond (needs_room a.kind && passes a route) (Refused NoSpace) (if fault then Refused Io else done a got)))) h

-- the lines behind that of permission
allowed_line : (a : Ask) (route : Route) (fault : Bool) (got : List ℕ) → (needs_leave a.kind && not route.writable) ≡ false →
    reply_on_way a route fault got ≡ cond (needs_places a.kind && passes a route) (Refused Inval) (cond (needs_room a.kind && passes a route) (Refused NoSpace) (if fault then Refused Io else done a got))
allowed_line a route fault got h =
    ap (λ (b : Bool). cond b (Refused Perm) (cond (needs_places a.kind && passes a route) (Refused Inval) (cond (needs_room a.kind && passes a route) (Refused NoSpace) (if fault then Refused Io else done a got)))) h

-- what is well formed is served
pub good_kind : (a : Ask) → is_malformed a ≡ false → is_served a.kind ≡ true
good_kind a form = go (is_served a.kind) (not a.flags_fit) (is_read a.kind && nat_lt max_payload a.length) form
  where
    go : (b x y : Bool) → (not b || x || y) ≡ false → b ≡ true
    go true x y e = refl
    go false x y e = absurd (true≢false e)

-- the line of the range
pub range_line : (a : Ask) (route : Route) (fault : Bool) (got : List ℕ) → is_malformed a ≡ false → (needs_leave a.kind && not route.writable) ≡ false →
    is_flush a.kind ≡ false → passes a route ≡ true → reply_on_way a route fault got ≡ Refused (if stores_bytes a.kind then NoSpace else Inval)
range_line a route fault got form may other past =
    allowed_line a route fault got may
    ∙ ap (λ (b : Bool). cond (needs_places a.kind && b) (Refused Inval) (cond (needs_room a.kind && b) (Refused NoSpace) (if fault then Refused Io else done a got))) past
    ∙ go a.kind (good_kind a form) other (if fault then Refused Io else done a got)
  where
    go : (k : Kind) → is_served k ≡ true → is_flush k ≡ false → (v : Verdict) →
        cond (needs_places k && true) (Refused Inval) (cond (needs_room k && true) (Refused NoSpace) v) ≡ Refused (cond (stores_bytes k) NoSpace Inval)
    go Read served other v = refl
    go Write served other v = refl
    go Zero served other v = refl
    go Trim served other v = refl
    go Flush served other v = absurd (true≢false other)
    go (Unknown n) served other v = absurd (true≢false (sym served))

-- no line but the last two, where the range doesn't pass the end
pub passed_line : (a : Ask) (route : Route) (fault : Bool) (got : List ℕ) → (needs_leave a.kind && not route.writable) ≡ false → passes a route ≡ false →
    reply_on_way a route fault got ≡ (if fault then Refused Io else done a got)
passed_line a route fault got may inside =
    allowed_line a route fault got may
    ∙ ap (λ (b : Bool). cond (needs_places a.kind && b) (Refused Inval) (cond (needs_room a.kind && b) (Refused NoSpace) (if fault then Refused Io else done a got))) inside
    ∙ go (needs_places a.kind) (needs_room a.kind)
  where
    go : (p r : Bool) → cond (p && false) (Refused Inval) (cond (r && false) (Refused NoSpace) (if fault then Refused Io else done a got)) ≡ (if fault then Refused Io else done a got)
    go true true = refl
    go true false = refl
    go false true = refl
    go false false = refl

-- nor for a FLUSH, whatever range it names
pub flush_line : (a : Ask) (route : Route) (fault : Bool) (got : List ℕ) → is_flush a.kind ≡ true →
    reply_on_way a route fault got ≡ (if fault then Refused Io else done a got)
flush_line a route fault got is = go a.kind is (not route.writable) (passes a route) (if fault then Refused Io else done a got)
  where
    go : (k : Kind) → is_flush k ≡ true → (x y : Bool) (v : Verdict) →
        cond (needs_leave k && x) (Refused Perm) (cond (needs_places k && y) (Refused Inval) (cond (needs_room k && y) (Refused NoSpace) v)) ≡ v
    go Flush e x y v = refl
    go Read e x y v = absurd (true≢false (sym e))
    go Write e x y v = absurd (true≢false (sym e))
    go Zero e x y v = absurd (true≢false (sym e))
    go Trim e x y v = absurd (true≢false (sym e))
    go (Unknown n) e x y v = absurd (true≢false (sym e))

-- a verdict that tells of a fault
abbrev pub is_io : Verdict → Bool
is_io (Refused Io) = true
is_io _ = false

pub done_io : (a : Ask) (got : List ℕ) → is_io (done a got) ≡ false
done_io a got = go (is_read a.kind)
  where
    go : (b : Bool) → is_io (cond b (Got got) Fine) ≡ false
    go true = refl
    go false = refl

abbrev is_io_some : Option Verdict → Bool
is_io_some (Some v) = is_io v
is_io_some None = false

-- without a fault no reply tells of one
pub no_fault_io : (a : Ask) (buffered : Bool) (way : Way) (got : List ℕ) → is_io_some (verdict_by_way a buffered way false got) ≡ false
no_fault_io a buffered way got = go (is_malformed a) buffered way
  where
    on_way : (route : Route) → is_io (reply_on_way a route false got) ≡ false
    on_way route = pick (needs_leave a.kind && not route.writable) (needs_places a.kind && passes a route) (needs_room a.kind && passes a route)
      where
        pick : (x y z : Bool) → is_io (cond x (Refused Perm) (cond y (Refused Inval) (cond z (Refused NoSpace) (done a got)))) ≡ false
        pick true y z = refl
        pick false true z = refl
        pick false false true = refl
        pick false false false = done_io a got

    go : (m b : Bool) (way : Way) → is_io_some (cond m (Some (Refused Inval)) (cond (not b) (Some (Refused NoMem)) (reply_by_way a way false got))) ≡ false
    go true b way = refl
    go false false way = refl
    go false true Unknown = refl
    go false true Shut = refl
    go false true (Given route) = on_way route

pub io_fault : (a : Ask) (buffered : Bool) (way : Way) (fault : Bool) (got : List ℕ) → verdict_by_way a buffered way fault got ≡ Some (Refused Io) → fault ≡ true
io_fault a buffered way true got is = refl
io_fault a buffered way false got is = absurd (true≢false (ap is_io_some (sym is) ∙ no_fault_io a buffered way got))

-- Dropped is no line of the table
abbrev is_dropped : Option Verdict → Bool
is_dropped (Some Dropped) = true
is_dropped _ = false

pub never_dropped : (a : Ask) (buffered : Bool) (way : Way) (fault : Bool) (got : List ℕ) → verdict_by_way a buffered way fault got ≢ Some Dropped
never_dropped a buffered way fault got is = true≢false (ap is_dropped (sym is) ∙ go (is_malformed a) buffered way)
  where
    ends : (f r : Bool) → is_dropped (Some (cond f (Refused Io) (cond r (Got got) Fine))) ≡ false
    ends true r = refl
    ends false true = refl
    ends false false = refl

    on_way : (route : Route) → is_dropped (Some (reply_on_way a route fault got)) ≡ false
    on_way route = pick (needs_leave a.kind && not route.writable) (needs_places a.kind && passes a route) (needs_room a.kind && passes a route)
      where
        pick : (x y z : Bool) → is_dropped (Some (cond x (Refused Perm) (cond y (Refused Inval) (cond z (Refused NoSpace) (if fault then Refused Io else done a got))))) ≡ false
        pick true y z = refl
        pick false true z = refl
        pick false false true = refl
        pick false false false = ends fault (is_read a.kind)

    go : (m b : Bool) (way : Way) → is_dropped (cond m (Some (Refused Inval)) (cond (not b) (Some (Refused NoMem)) (reply_by_way a way fault got))) ≡ false
    go true b way = refl
    go false false way = refl
    go false true Unknown = refl
    go false true Shut = refl
    go false true (Given route) = on_way route

-- what the last two lines say a request may have that did something to a block
pub work_end : (a : Ask) (fault : Bool) (got : List ℕ) → MayWork (if fault then Refused Io else done a got)
work_end a true got = tt
work_end a false got = go (is_read a.kind)
  where
    go : (b : Bool) → MayWork (cond b (Got got) Fine)
    go true = tt
    go false = tt

-- What a line of the table of replies says of a request's range.
use Rattle.std.proofs.Common.{◌≡◌, ℕ, ◌+◌, ◌≤◌, Bool, true, false, not, ◌&&◌, cond, nat_lt, List, refl, sym, subst, arith, true≢false}
use Rattle.std.specs.Prelude.{Some}
use Rattle.qs_bytes.specs.declared.ask.Ask.{Ask}
use Rattle.qs_bytes.specs.declared.ask.Errno.TheVariants.{Perm, Io, NoMem, Inval, NoSpace}
use Rattle.qs_bytes.specs.declared.ask.Kind.{Kind}
use Rattle.qs_bytes.specs.declared.ask.Kind.TheVariants.{Read, Write, Zero, Trim, Flush, Unknown}
use Rattle.qs_bytes.specs.declared.ask.Verdict.{Verdict}
use Rattle.qs_bytes.specs.declared.ask.Verdict.TheVariants.{Got, Fine, Refused}
use Rattle.qs_part.specs.declared.graph.Route.{Route}
use Rattle.qs_model.specs.Requests.{is_read, stores_bytes}
use Rattle.qs_verdicts.specs.Stories.{Given}
use Rattle.qs_verdicts.specs.Verdicts.{done, is_malformed, needs_leave, needs_places, needs_room, passes, verdict_by_way, reply_on_way}

-- an answer that isn't one of the refusals of form, memory, leave or range
abbrev pub IsWorked : Verdict → Type 0
IsWorked (Got bytes) = Unit {0}
IsWorked Fine = Unit {0}
IsWorked (Refused Io) = Unit {0}
IsWorked _ = ⊥

-- such an answer is that of the way
worked_on_way : (a : Ask) (buffered : Bool) (route : Route) (fault : Bool) (got : List ℕ) (v : Verdict) → IsWorked v →
    verdict_by_way a buffered (Given route) fault got ≡ Some v → reply_on_way a route fault got ≡ v
worked_on_way a buffered route fault got v worked line = go (is_malformed a) buffered line
  where
    one : (x : Verdict) → Some x ≡ Some v → x ≡ v
    one x e = cc

    go : (b1 b2 : Bool) → cond b1 (Some (Refused Inval)) (cond (not b2) (Some (Refused NoMem)) (Some (reply_on_way a route fault got))) ≡ Some v →
        reply_on_way a route fault got ≡ v
    go true b2 e = absurd (subst IsWorked (sym (one (Refused Inval) e)) worked)
    go false false e = absurd (subst IsWorked (sym (one (Refused NoMem) e)) worked)
    go false true e = one (reply_on_way a route fault got) e

lines : (b1 b2 b3 : Bool) (rest v : Verdict) → IsWorked v → cond b1 (Refused Perm) (cond b2 (Refused Inval) (cond b3 (Refused NoSpace) rest)) ≡ v → (b2 ≡ false) × (b3 ≡ false)
lines true b2 b3 rest v worked e = absurd (subst IsWorked (sym e) worked)
lines false true b3 rest v worked e = absurd (subst IsWorked (sym e) worked)
lines false false true rest v worked e = absurd (subst IsWorked (sym e) worked)
lines false false false rest v worked e = (refl, refl)

room_kind : (k : Kind) → stores_bytes k ≡ true → needs_room k ≡ true
room_kind Write is = refl
room_kind Zero is = refl
room_kind Read is = absurd (true≢false (sym is))
room_kind Trim is = absurd (true≢false (sym is))
room_kind Flush is = absurd (true≢false (sym is))
room_kind (Unknown n) is = absurd (true≢false (sym is))

place_kind : (k : Kind) → is_read k ≡ true → needs_places k ≡ true
place_kind Read is = refl
place_kind Write is = absurd (true≢false (sym is))
place_kind Zero is = absurd (true≢false (sym is))
place_kind Trim is = absurd (true≢false (sym is))
place_kind Flush is = absurd (true≢false (sym is))
place_kind (Unknown n) is = absurd (true≢false (sym is))

inside : (needs : Bool) (n m : ℕ) → needs ≡ true → (needs && nat_lt m n) ≡ false → n ≤ m
inside true n m is e = grind (arith, e)
inside false n m is e = absurd (true≢false (sym is))

-- a write that did something has its range inside the way, and so has a READ
pub has_room : (a : Ask) (buffered : Bool) (route : Route) (fault : Bool) (got : List ℕ) (v : Verdict) → IsWorked v → verdict_by_way a buffered (Given route) fault got ≡ Some v →
    stores_bytes a.kind ≡ true → a.offset + a.length ≤ route.size
has_room a buffered route fault got v worked line stores =
    let both = lines (needs_leave a.kind && not route.writable) (needs_places a.kind && passes a route) (needs_room a.kind && passes a route) (cond fault (Refused Io) (done a got)) v worked
    (worked_on_way a buffered route fault got v worked line) in
    inside (needs_room a.kind) (a.offset + a.length) route.size (room_kind a.kind stores) both.1

pub has_places : (a : Ask) (buffered : Bool) (route : Route) (fault : Bool) (got : List ℕ) (v : Verdict) → IsWorked v → verdict_by_way a buffered (Given route) fault got ≡ Some v →
    is_read a.kind ≡ true → a.offset + a.length ≤ route.size
has_places a buffered route fault got v worked line reads =
    let both = lines (needs_leave a.kind && not route.writable) (needs_places a.kind && passes a route) (needs_room a.kind && passes a route) (cond fault (Refused Io) (done a got)) v worked
    (worked_on_way a buffered route fault got v worked line) in
    inside (needs_places a.kind) (a.offset + a.length) route.size (place_kind a.kind reads) both.0

-- only a READ has bytes
pub got_reads : (a : Ask) (buffered : Bool) (route : Route) (fault : Bool) (got bytes : List ℕ) → verdict_by_way a buffered (Given route) fault got ≡ Some (Got bytes) → is_read a.kind ≡ true
got_reads a buffered route fault got bytes line =
    go (needs_leave a.kind && not route.writable) (needs_places a.kind && passes a route) (needs_room a.kind && passes a route) fault (is_read a.kind)
    (worked_on_way a buffered route fault got (Got bytes) tt line)
  where
    go : (b1 b2 b3 b4 b5 : Bool) → cond b1 (Refused Perm) (cond b2 (Refused Inval) (cond b3 (Refused NoSpace) (cond b4 (Refused Io) (cond b5 (Got got) Fine)))) ≡ Got bytes → b5 ≡ true
    go true b2 b3 b4 b5 e = cc
    go false true b3 b4 b5 e = cc
    go false false true b4 b5 e = cc
    go false false false true b5 e = cc
    go false false false false true e = refl
    go false false false false false e = cc

-- it had its memory
pub was_buffered : (a : Ask) (buffered : Bool) (route : Route) (fault : Bool) (got : List ℕ) (v : Verdict) → IsWorked v → verdict_by_way a buffered (Given route) fault got ≡ Some v → buffered ≡ true
was_buffered a buffered route fault got v worked line = go (is_malformed a) buffered line
  where
    one : (x : Verdict) → Some x ≡ Some v → x ≡ v
    one x e = cc

    go : (b1 b2 : Bool) → cond b1 (Some (Refused Inval)) (cond (not b2) (Some (Refused NoMem)) (Some (reply_on_way a route fault got))) ≡ Some v → b2 ≡ true
    go true b2 e = absurd (subst IsWorked (sym (one (Refused Inval) e)) worked)
    go false false e = absurd (subst IsWorked (sym (one (Refused NoMem) e)) worked)
    go false true e = refl

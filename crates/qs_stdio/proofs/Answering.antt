-- What can be replied to a request, and the bodies that requests bring.
use Rattle.std.proofs.Common.{◌≡◌, ℕ, ◌<◌, ◌≤◌, Bool, true, false, not, ◌&&◌, ◌||◌, cond, nat_lt, List, [], refl, sym, ◌∙◌, arith, true≢false}
use Rattle.std.specs.Prelude.{IfSome, Option, Some, None}
use Rattle.std.proofs.lemmas.Bool.Decides.{nat_tests}
use Rattle.qs_bytes.specs.Payloads.{max_payload}
use Rattle.qs_bytes.specs.declared.ask.Ask.{Ask}
use Rattle.qs_bytes.specs.declared.ask.Errno.TheVariants.{Perm, Io, NoMem, Inval, NoSpace}
use Rattle.qs_bytes.specs.declared.ask.Kind.{Kind}
use Rattle.qs_bytes.specs.declared.ask.Kind.TheVariants.{Read, Write, Zero, Trim, Flush, Unknown}
use Rattle.qs_bytes.specs.declared.ask.Verdict.{Verdict}
use Rattle.qs_bytes.specs.declared.ask.Verdict.TheVariants.{Got, Fine, Refused, Dropped}
use Rattle.qs_nbd_transmission.specs.declared.event.Room.{Room}
use Rattle.qs_nbd_transmission.specs.declared.event.Room.TheVariants.{Keep, Drop}
use Rattle.qs_nbd_transmission.specs.Heads.{has_data}
use Rattle.qs_nbd_transmission.specs.Replies.{CanReply, data_of, is_read as asks_bytes}
use Rattle.qs_model.specs.Requests.{brings_bytes, is_read}
use Rattle.qs_part.specs.declared.graph.Route.{Route}
use Rattle.qs_verdicts.specs.Stories.{Given}
use Rattle.qs_verdicts.specs.Verdicts.{is_malformed, is_served, needs_leave, needs_places, needs_room, passes, verdict_by_way, reply_on_way}
use Rattle.qs_single.specs.Resting.{IsBody}
use Rattle.qs_single.specs.Service.{MayGet, whole_route}
use Rattle.qs_single.proofs.Lines.{got_reads}
use Rattle.qs_stdio.specs.Turns.{IsData, body_in}

one_verdict : (u v : Verdict) → Some u ≡ Some v → u ≡ v
one_verdict u v e = cc

-- a READ that is Got is one, and well formed
read_kind : (k : Kind) → is_read k ≡ true → k ≡ Read
read_kind Read is = refl
read_kind Write is = absurd (true≢false (sym is))
read_kind Zero is = absurd (true≢false (sym is))
read_kind Trim is = absurd (true≢false (sym is))
read_kind Flush is = absurd (true≢false (sym is))
read_kind (Unknown n) is = absurd (true≢false (sym is))

short_read : (a : Ask) → is_read a.kind ≡ true → is_malformed a ≡ false → a.length ≤ max_payload
short_read a reads form = go (not (is_served a.kind)) (not a.flags_fit) (is_read a.kind) reads form
  where
    go : (x y r : Bool) → r ≡ true → (x || y || r && nat_lt max_payload a.length) ≡ false → a.length ≤ max_payload
    go false false true is e = grind (arith, e)
    go true y r is e = absurd (true≢false e)
    go false true r is e = absurd (true≢false e)
    go false false false is e = absurd (true≢false (sym is))

got_formed : (a : Ask) (buffered : Bool) (route : Route) (fault : Bool) (got bytes : List ℕ) → verdict_by_way a buffered (Given route) fault got ≡ Some (Got bytes) → is_malformed a ≡ false
got_formed a buffered route fault got bytes line = go (is_malformed a) line
  where
    go : (b : Bool) → cond b (Some (Refused Inval)) (cond (not buffered) (Some (Refused NoMem)) (Some (reply_on_way a route fault got))) ≡ Some (Got bytes) → b ≡ false
    go true e = absurd (never (one_verdict (Refused Inval) (Got bytes) e))
      where
        never : Refused Inval ≡ Got bytes → ⊥
        never f = cc
    go false e = refl

-- a request that is Fine is no READ
fine_reads : (a : Ask) (buffered : Bool) (route : Route) (fault : Bool) (got : List ℕ) → verdict_by_way a buffered (Given route) fault got ≡ Some Fine → is_read a.kind ≡ false
fine_reads a buffered route fault got line =
    go (is_malformed a) (not buffered) (needs_leave a.kind && not route.writable) (needs_places a.kind && passes a route) (needs_room a.kind && passes a route) fault (is_read a.kind) line
  where
    go : (a0 a1 b1 b2 b3 b4 b5 : Bool) → cond a0 (Some (Refused Inval)) (cond a1 (Some (Refused NoMem))
        (Some (cond b1 (Refused Perm) (cond b2 (Refused Inval) (cond b3 (Refused NoSpace) (cond b4 (Refused Io) (cond b5 (Got got) Fine))))))) ≡ Some Fine → b5 ≡ false
    go true a1 b1 b2 b3 b4 b5 e = cc
    go false true b1 b2 b3 b4 b5 e = cc
    go false false true b2 b3 b4 b5 e = cc
    go false false false true b3 b4 b5 e = cc
    go false false false false true b4 b5 e = cc
    go false false false false false true b5 e = cc
    go false false false false false false true e = cc
    go false false false false false false false e = refl

-- no request is dropped where its session is there
never_dropped : (a : Ask) (buffered : Bool) (route : Route) (fault : Bool) (got : List ℕ) → verdict_by_way a buffered (Given route) fault got ≡ Some Dropped → ⊥
never_dropped a buffered route fault got line =
    go (is_malformed a) (not buffered) (needs_leave a.kind && not route.writable) (needs_places a.kind && passes a route) (needs_room a.kind && passes a route) fault (is_read a.kind) line
  where
    go : (a0 a1 b1 b2 b3 b4 b5 : Bool) → cond a0 (Some (Refused Inval)) (cond a1 (Some (Refused NoMem))
        (Some (cond b1 (Refused Perm) (cond b2 (Refused Inval) (cond b3 (Refused NoSpace) (cond b4 (Refused Io) (cond b5 (Got got) Fine))))))) ≡ Some Dropped → ⊥
    go true a1 b1 b2 b3 b4 b5 e = cc
    go false true b1 b2 b3 b4 b5 e = cc
    go false false true b2 b3 b4 b5 e = cc
    go false false false true b3 b4 b5 e = cc
    go false false false false true b4 b5 e = cc
    go false false false false false true b5 e = cc
    go false false false false false false true e = cc
    go false false false false false false false e = cc

asks_kind : (k : Kind) → asks_bytes k ≡ true → is_read k ≡ true
asks_kind Read is = refl
asks_kind Write is = absurd (true≢false (sym is))
asks_kind Zero is = absurd (true≢false (sym is))
asks_kind Trim is = absurd (true≢false (sym is))
asks_kind Flush is = absurd (true≢false (sym is))
asks_kind (Unknown n) is = absurd (true≢false (sym is))

-- what a request may get can be replied
pub can_reply : (size : ℕ) (writable : Bool) (a : Ask) (v : Verdict) → MayGet size writable a v → CanReply a v
can_reply size writable a (Got bytes) may =
    let reads = got_reads a may.buffered (whole_route size writable) may.fault may.got bytes may.line in
    (read_kind a.kind reads, may.long bytes refl, short_read a reads (got_formed a may.buffered (whole_route size writable) may.fault may.got bytes may.line))
can_reply size writable a Fine may =
    λ asks. absurd (true≢false (sym (asks_kind a.kind asks) ∙ fine_reads a may.buffered (whole_route size writable) may.fault may.got may.line))
can_reply size writable a (Refused errno) may = tt
can_reply size writable a Dropped may = absurd (never_dropped a may.buffered (whole_route size writable) may.fault may.got may.line)

-- a reply without data
pub no_data : (v : Verdict) → ((bytes : List ℕ) → v ≡ Got bytes → ⊥) → data_of v ≡ []
no_data (Got bytes) bare = absurd (bare bytes refl)
no_data Fine bare = refl
no_data (Refused errno) bare = refl
no_data Dropped bare = refl

-- the data of a WRITE are its body
pub data_body : (a : Ask) (taken : List ℕ) (room : Room) → IsData taken a.length room → IsBody a taken (body_in room)
data_body a taken (Keep bytes) is = record { whole = λ writing. is.1; is = λ writing. is.0 }
data_body a taken (Drop count) is = record { whole = λ writing. is.1; is = λ writing. tt }

-- a request that no data follow brings none
no_length : (k : Kind) (n : ℕ) → brings_bytes k ≡ true → (brings_bytes k && nat_lt 0 n) ≡ false → 0 ≡ n
no_length Write n writing bare = grind (arith, bare)
no_length Read n writing bare = absurd (true≢false (sym writing))
no_length Zero n writing bare = absurd (true≢false (sym writing))
no_length Trim n writing bare = absurd (true≢false (sym writing))
no_length Flush n writing bare = absurd (true≢false (sym writing))
no_length (Unknown m) n writing bare = absurd (true≢false (sym writing))

same_test : (a : Ask) → has_data a ≡ (brings_bytes a.kind && nat_lt 0 a.length)
same_test a = go a.kind
  where
    go : (k : Kind) → has_data (record a { kind = k }) ≡ (brings_bytes k && nat_lt 0 a.length)
    go Write = refl
    go Read = refl
    go Zero = refl
    go Trim = refl
    go Flush = refl
    go (Unknown n) = refl

not_asking : (k : Kind) → brings_bytes k ≡ true → asks_bytes k ≡ false
not_asking Write writing = refl
not_asking Read writing = absurd (true≢false (sym writing))
not_asking Zero writing = absurd (true≢false (sym writing))
not_asking Trim writing = absurd (true≢false (sym writing))
not_asking Flush writing = absurd (true≢false (sym writing))
not_asking (Unknown n) writing = absurd (true≢false (sym writing))

pub bare_body : (a : Ask) (body : Option (List ℕ)) → has_data a ≡ false → (asks_bytes a.kind ≡ false → body ≡ None) → IsBody a [] body
bare_body a body bare none = record {
  whole = λ writing. no_length a.kind a.length writing (sym (same_test a) ∙ bare);
  is = λ writing. none_some body (none (not_asking a.kind writing));
}
  where
    none_some : (o : Option (List ℕ)) → o ≡ None → IfSome o (λ bytes. bytes ≡ [])
    none_some None e = tt
    none_some (Some bytes) e = absurd (never e)
      where
        never : Some bytes ≡ None → ⊥
        never f = cc

-- data that follow are some
pub some_data : (a : Ask) → has_data a ≡ true → 0 < a.length
some_data a is = grind (arith, nat_tests)

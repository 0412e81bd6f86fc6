-- The kinds of request in the table's words, and in the machine's.
use Rattle.std.proofs.Common.{◌≡◌, ◌<◌, Bool, true, false, not, ◌&&◌, ◌||◌, ◌==◌, nat_lt, refl, sym, ap, ◌∙◌, arith, true≢false, ne_eqb}
use Rattle.qs_bytes.specs.Payloads.{max_payload}
use Rattle.qs_bytes.specs.declared.ask.Ask.{Ask}
use Rattle.qs_bytes.specs.declared.ask.Kind.{Kind}
use Rattle.qs_bytes.specs.declared.ask.Kind.TheVariants.{Read, Write, Zero, Trim, Flush, Unknown}
use Rattle.qs_model.specs.Requests.{Client, is_known, is_flush, is_read, is_trim, form_error, span_of, stores_bytes, wants_writable, writes}
use Rattle.qs_model.proofs.Machine.{both}
use Rattle.qs_verdicts.specs.Verdicts.{is_forced, is_malformed, is_served, needs_leave, needs_room}

pub served_is : (k : Kind) → is_served k ≡ is_known k
served_is Read = refl
served_is Write = refl
served_is Zero = refl
served_is Trim = refl
served_is Flush = refl
served_is (Unknown n) = refl

pub malformed_is : (a : Ask) → is_malformed a ≡ form_error a
malformed_is a = ap (λ (b : Bool). not b || not a.flags_fit || is_read a.kind && nat_lt max_payload a.length) (served_is a.kind)

pub leave_is : (k : Kind) → needs_leave k ≡ wants_writable k
leave_is Read = refl
leave_is Write = refl
leave_is Zero = refl
leave_is Trim = refl
leave_is Flush = refl
leave_is (Unknown n) = refl

pub room_is : (k : Kind) → needs_room k ≡ stores_bytes k
room_is Read = refl
room_is Write = refl
room_is Zero = refl
room_is Trim = refl
room_is Flush = refl
room_is (Unknown n) = refl

pub room_no_read : (k : Kind) → needs_room k ≡ true → is_read k ≡ false
room_no_read Read e = absurd (true≢false (sym e))
room_no_read _ e = refl

pub room_no_flush : (k : Kind) → needs_room k ≡ true → is_flush k ≡ false
room_no_flush Flush e = absurd (true≢false (sym e))
room_no_flush _ e = refl

pub room_no_trim : (k : Kind) → needs_room k ≡ true → is_trim k ≡ false
room_no_trim Trim e = absurd (true≢false (sym e))
room_no_trim _ e = refl

pub flush_is : (k : Kind) → is_flush k ≡ true → k ≡ Flush
flush_is Flush e = refl
flush_is Read e = absurd (true≢false (sym e))
flush_is Write e = absurd (true≢false (sym e))
flush_is Zero e = absurd (true≢false (sym e))
flush_is Trim e = absurd (true≢false (sym e))
flush_is (Unknown n) e = absurd (true≢false (sym e))

pub flush_no_read : (k : Kind) → is_flush k ≡ true → is_read k ≡ false
flush_no_read Read e = absurd (true≢false (sym e))
flush_no_read _ e = refl

pub is_a_flush : (k : Kind) → k ≡ Flush → is_flush k ≡ true
is_a_flush k e = ap is_flush e

-- a forced write stores bytes, has FUA and some length
pub record Forces (a : Ask) : Type 0 where
  pub room : needs_room a.kind ≡ true
  pub fua : a.fua ≡ true
  pub some : (a.length == 0) ≡ false

pub forced_is : (a : Ask) → is_forced a ≡ true → Forces a
forced_is a is =
    let first = both (needs_room a.kind && a.fua) (not (a.length == 0)) is in
    let second = both (needs_room a.kind) a.fua first.0 in
    record { room = second.0; fua = second.1; some = flip (a.length == 0) first.1 }
  where
    flip : (b : Bool) → not b ≡ true → b ≡ false
    flip true e = absurd (true≢false (sym e))
    flip false e = refl

pub forced_by : (a : Ask) → Forces a → is_forced a ≡ true
forced_by a f = go (needs_room a.kind) a.fua (a.length == 0) f.room f.fua f.some
  where
    go : (x y z : Bool) → x ≡ true → y ≡ true → z ≡ false → (x && y && not z) ≡ true
    go true true false e f g = refl
    go false y z e f g = absurd (true≢false (sym e))
    go true false z e f g = absurd (true≢false (sym f))
    go true true true e f g = absurd (true≢false g)

-- a write with FUA that has some place is forced
pub writes_forced : (c : Client) → writes c ≡ true → c.ask.fua ≡ true → (span_of c).lo < (span_of c).hi → is_forced c.ask ≡ true
writes_forced c writing fua some = forced_by c.ask (record {
  room = room_is c.ask.kind ∙ writing;
  fua = fua;
  some = ne_eqb c.ask.length 0 (λ e. omega arith);
})

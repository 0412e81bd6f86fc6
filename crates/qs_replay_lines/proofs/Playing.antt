-- What a line did, by the way that its function ended.
use Rattle.std.proofs.Common.{◌≡◌, ◌⊎◌, ◌<◌, ℕ, zero, suc, arith, List, [], ◌∷◌, refl, append-nil, sym, subst, inl, inr, ap, ◌∙◌}
use Rattle.std.specs.Prelude.{Bool, Option, None, Result, Ok, Err, false}
use Rattle.std.specs.Result.{IsErrAnd}
use Rattle.qs_part.specs.declared.event.Actor.{Actor}
use Rattle.qs_bytes.specs.declared.ask.Ask.{Ask}
use Rattle.qs_outside.specs.Blocks.{Seen}
use Rattle.qs_part.specs.declared.event.Event.{Event}
use Rattle.qs_part.specs.declared.event.Event.TheVariants as event
use Rattle.qs_part.specs.declared.event.Outcome.{Outcome}
use Rattle.qs_part.specs.declared.event.Outcome.TheVariants.{Made}
use Rattle.qs_script.specs.declared.actor.ScriptActor.{ScriptActor}
use Rattle.qs_script.specs.declared.line.Line.{Line}
use Rattle.qs_script.specs.declared.line.Line.TheVariants as line
use Rattle.qs_world.specs.Events.{IsNotNext}
use Rattle.qs_replay_lines.specs.declared.stop.Stop.{Stop}
use Rattle.qs_replay_lines.specs.declared.stop.Stop.TheVariants as stop
use Rattle.qs_replay_lines.specs.declared.desk.Desk.{Desk}
use Rattle.qs_calls.specs.Calls.{Call, Happened, Plays}
use Rattle.qs_replay_lines.specs.Tables.{GivesName, IsKnown, IsUsed, Names, adds}
use Rattle.qs_replay_lines.specs.Effects.{IsActor, AreFirst, AskedBy, IsAsked, IsEventOf, Played, PlaysLine, Stopped, UsesAgain, WasUsed}
use Rattle.qs_replay_lines.specs.Numbers.{quiet}
use Rattle.qs_replay_lines.specs.declared.told.LineTold.{LineTold}
use Rattle.qs_replay_lines.proofs.Numbers.{quiet_tells}
use Rattle.qs_replay_lines.specs.Effects.{bytes_or, flush_ask, trim_ask, write_ask, zero_ask}

-- nothing happened, and nothing was printed
pub stopped_none : {D : Type 0} (seen : D → Seen) (old : Desk D) (l : Line) (new : Desk D) → new.world ≡ old.world → new.out ≡ old.out →
    Stopped seen old l stop.Memory new
stopped_none seen old l new same out =
    ([], (inl refl, same, out))

-- the line's event was refused
pub stopped_event : {D : Type 0} (seen : D → Seen) (old : Desk D) (l : Line) (s : Stop) (new : Desk D) (made : Event) (mid : Names) (lost : Bool) →
    IsEventOf old.table l lost made mid → new.world ≡ old.world → new.out ≡ old.out →
    (s ≡ stop.NotNext → IsNotNext old.world made) → (s ≡ stop.BadLine → ⊥) → (UsesAgain old.table l → ⊥) → Stopped seen old l s new
stopped_event seen old l stop.BadLine new made mid lost is same out next form once = absurd (form refl)
stopped_event seen old l stop.NotNext new made mid lost is same out next form once =
    (inl (record { made = made; mid = mid; lost = lost; event_is = is; not_next = next refl }), once, same, out)
stopped_event seen old l stop.Memory new made mid lost is same out next form once = stopped_none seen old l new same out

-- the line's events came, and memory was refused behind them
pub stopped_cut : {D : Type 0} (seen : D → Seen) (old : Desk D) (l : Line) (new : Desk D) (calls : List Call) (made : Event) (mid : Names) (lost : Bool) →
    IsEventOf old.table l lost made mid → AreFirst l made calls → Plays seen old.world calls new.world → new.out ≡ old.out →
    Stopped seen old l stop.Memory new
stopped_cut seen old l new calls made mid lost is first plays out = (calls, (inr (inl (made, mid, lost, (is, first))), plays, out))

-- what a function that ends at a `?` answers
pub stops : {D : Type 0} (seen : D → Seen) (old : Desk D) (l : Line) (lost : Bool) (s : Stop) (r : Result LineTold Stop) (new : Desk D) →
    IsErrAnd r (λ e. e ≡ s) → Stopped seen old l s new → PlaysLine seen old l lost r new
stops seen old l lost s (Ok told) new is stopped = absurd is
stops seen old l lost s (Err e) new is stopped = subst (λ (x : Stop). Stopped seen old l x new) (sym is) stopped

-- a session asks so
by_ask : (t t' : Names) (n : ℕ) (s session : List ℕ) (asks ask : Ask) (brings body : Option (List ℕ)) → (s ≡ session) × (ask ≡ asks) × (body ≡ brings) →
    GivesName t session n t' → AskedBy t s asks brings (event.Ask n ask body) t'
by_ask t t' n s session asks ask brings body is gives = (
  n,
  (
    subst (λ (x : List ℕ). GivesName t x n t') (sym is.0) gives,
    ap (λ (a : Ask). event.Ask n a body) is.1 ∙ ap (λ (b : Option (List ℕ)). event.Ask n asks b) is.2,
  ),
)

-- a line that asks has this event
pub asks_event : (t t' : Names) (l : Line) (lost : Bool) (n : ℕ) (session : List ℕ) (ask : Ask) (body : Option (List ℕ)) → IsAsked l lost session ask body →
    GivesName t session n t' → IsEventOf t l lost (event.Ask n ask body) t'
asks_event t t' (line.Read s c offset long) lost n session ask body is gives =
    (n, body, (subst (λ (x : List ℕ). GivesName t x n t') (sym is.0) gives, is.2, ap (λ (a : Ask). event.Ask n a body) is.1))
asks_event t t' (line.Write s c offset bytes fua) lost n session ask body is gives =
    by_ask t t' n s session (write_ask c offset bytes fua) ask (bytes_or lost bytes) body is gives
asks_event t t' (line.Zero s c offset long fua) lost n session ask body is gives = by_ask t t' n s session (zero_ask c offset long fua) ask None body is gives
asks_event t t' (line.Trim s c offset long) lost n session ask body is gives = by_ask t t' n s session (trim_ask c offset long) ask None body is gives
asks_event t t' (line.Flush s c) lost n session ask body is gives = by_ask t t' n s session (flush_ask c) ask None body is gives
asks_event t t' line.Nothing lost n session ask body is gives = absurd is
asks_event t t' (line.Session s e) lost n session ask body is gives = absurd is
asks_event t t' (line.End s) lost n session ask body is gives = absurd is
asks_event t t' (line.Step a now) lost n session ask body is gives = absurd is
asks_event t t' (line.Run a now) lost n session ask body is gives = absurd is
asks_event t t' (line.Fail j k) lost n session ask body is gives = absurd is
asks_event t t' (line.Crash choice) lost n session ask body is gives = absurd is

-- the cookie that a session asks with was used
by_used : (t a : Names) (n cookie : ℕ) (s session : List ℕ) (ask : Ask) → s ≡ session → ask.cookie ≡ cookie → GivesName t session n a → IsUsed a n ask.cookie → WasUsed t s cookie
by_used t a n cookie s session ask name_is cookie_is gives used =
    (n, a, (subst (λ (x : List ℕ). GivesName t x n a) (sym name_is) gives, subst (λ (c : ℕ). IsUsed a n c) cookie_is used))

-- a line that asks with a used cookie uses it again
pub asks_again : (t a : Names) (l : Line) (lost : Bool) (n : ℕ) (session : List ℕ) (ask : Ask) (body : Option (List ℕ)) → IsAsked l lost session ask body →
    GivesName t session n a → IsUsed a n ask.cookie → UsesAgain t l
asks_again t a (line.Read s c offset long) lost n session ask body is gives used = by_used t a n c s session ask is.0 (ap (λ (k : Ask). k.cookie) is.1) gives used
asks_again t a (line.Write s c offset bytes fua) lost n session ask body is gives used = by_used t a n c s session ask is.0 (ap (λ (k : Ask). k.cookie) is.1) gives used
asks_again t a (line.Zero s c offset long fua) lost n session ask body is gives used = by_used t a n c s session ask is.0 (ap (λ (k : Ask). k.cookie) is.1) gives used
asks_again t a (line.Trim s c offset long) lost n session ask body is gives used = by_used t a n c s session ask is.0 (ap (λ (k : Ask). k.cookie) is.1) gives used
asks_again t a (line.Flush s c) lost n session ask body is gives used = by_used t a n c s session ask is.0 (ap (λ (k : Ask). k.cookie) is.1) gives used
asks_again t a line.Nothing lost n session ask body is gives used = absurd is
asks_again t a (line.Session s e) lost n session ask body is gives used = absurd is
asks_again t a (line.End s) lost n session ask body is gives used = absurd is
asks_again t a (line.Step w now) lost n session ask body is gives used = absurd is
asks_again t a (line.Run w now) lost n session ask body is gives used = absurd is
asks_again t a (line.Fail j k) lost n session ask body is gives used = absurd is
asks_again t a (line.Crash choice) lost n session ask body is gives used = absurd is

-- one call is among the first of a line that asks
pub asks_first : (l : Line) (lost : Bool) (session : List ℕ) (ask : Ask) (body : Option (List ℕ)) (made : Event) (o : Outcome) → IsAsked l lost session ask body →
    AreFirst l made (Happened made o ∷ [])
asks_first (line.Read s c offset long) lost session ask body made o is = (o, refl)
asks_first (line.Write s c offset bytes fua) lost session ask body made o is = (o, refl)
asks_first (line.Zero s c offset long fua) lost session ask body made o is = (o, refl)
asks_first (line.Trim s c offset long) lost session ask body made o is = (o, refl)
asks_first (line.Flush s c) lost session ask body made o is = (o, refl)
asks_first line.Nothing lost session ask body made o is = absurd is
asks_first (line.Session s e) lost session ask body made o is = absurd is
asks_first (line.End s) lost session ask body made o is = absurd is
asks_first (line.Step a now) lost session ask body made o is = absurd is
asks_first (line.Run a now) lost session ask body made o is = absurd is
asks_first (line.Fail j k) lost session ask body made o is = absurd is
asks_first (line.Crash choice) lost session ask body made o is = absurd is

compare_cases : (n m : ℕ) → (n < m) ⊎ ((n ≡ m) ⊎ (m < n))
compare_cases zero zero = inr (inl refl)
compare_cases zero (suc m) = inl (omega arith)
compare_cases (suc n) zero = inr (inr (omega arith))
compare_cases (suc n) (suc m) =
    elim (compare_cases n m) [ inl h ↦ inl (omega arith) | inr rest ↦ elim rest [ inl e ↦ inr (inl (ap (λ (k : ℕ). suc k) e)) | inr h ↦ inr (inr (omega arith)) ] ]

-- a name came first at one place
pub known_one : (names : List (List ℕ)) (s : List ℕ) (n m : ℕ) → IsKnown names s n → IsKnown names s m → n ≡ m
known_one names s n m one two =
    elim (compare_cases n m) [
      | inl below ↦ absurd (two.before n below one.here)
      | inr rest ↦
          elim rest [ inl same ↦ same | inr above ↦ absurd (one.before m above two.here) ]
    ]

pub gives_number : (t a b : Names) (s : List ℕ) (n m : ℕ) → GivesName t s n a → GivesName t s m b → n ≡ m
gives_number t a b s n m (inl p) (inl q) = known_one t.sessions s n m p.0 q.0
gives_number t a b s n m (inl p) (inr q) = absurd (q.0 n p.0.inside p.0.here)
gives_number t a b s n m (inr p) (inl q) = absurd (p.0 m q.0.inside q.0.here)
gives_number t a b s n m (inr p) (inr q) = p.1 ∙ sym q.1

gives_used : (t a : Names) (s : List ℕ) (n m cookie : ℕ) → GivesName t s n a → IsUsed a m cookie ≡ IsUsed t m cookie
gives_used t a s n m cookie (inl p) = ap (λ (x : Names). IsUsed x m cookie) p.1
gives_used t a s n m cookie (inr p) = ap (λ (x : Names). IsUsed x m cookie) p.2

-- a cookie that wasn't used isn't used again
fresh_once : (t a b : Names) (s : List ℕ) (n m cookie : ℕ) → GivesName t s n a → (IsUsed a n cookie → ⊥) → GivesName t s m b → IsUsed b m cookie → ⊥
fresh_once t a b s n m cookie one fresh two used =
    fresh (subst (λ (k : ℕ). IsUsed a k cookie) (gives_number t b a s m n two one)
    (subst (λ (u : Type 0). u) (gives_used t b s m m cookie two ∙ sym (gives_used t a s n m cookie one)) used))

once_used : (t a : Names) (n cookie : ℕ) (s session : List ℕ) (ask : Ask) → s ≡ session → ask.cookie ≡ cookie → GivesName t session n a → (IsUsed a n ask.cookie → ⊥) →
    WasUsed t s cookie → ⊥
once_used t a n cookie s session ask name_is cookie_is gives fresh again =
    fresh_once t a again.1 session n again.0 cookie gives (λ used. fresh (subst (λ (c : ℕ). IsUsed a n c) (sym cookie_is) used))
    (subst (λ (x : List ℕ). GivesName t x again.0 again.1) name_is again.2.0) again.2.1

pub asks_once : (t a : Names) (l : Line) (lost : Bool) (n : ℕ) (session : List ℕ) (ask : Ask) (body : Option (List ℕ)) → IsAsked l lost session ask body →
    GivesName t session n a → (IsUsed a n ask.cookie → ⊥) → UsesAgain t l → ⊥
asks_once t a (line.Read s c offset long) lost n session ask body is gives fresh again = once_used t a n c s session ask is.0 (ap (λ (k : Ask). k.cookie) is.1) gives fresh again
asks_once t a (line.Write s c offset bytes fua) lost n session ask body is gives fresh again = once_used t a n c s session ask is.0 (ap (λ (k : Ask). k.cookie) is.1) gives fresh again
asks_once t a (line.Zero s c offset long fua) lost n session ask body is gives fresh again = once_used t a n c s session ask is.0 (ap (λ (k : Ask). k.cookie) is.1) gives fresh again
asks_once t a (line.Trim s c offset long) lost n session ask body is gives fresh again = once_used t a n c s session ask is.0 (ap (λ (k : Ask). k.cookie) is.1) gives fresh again
asks_once t a (line.Flush s c) lost n session ask body is gives fresh again = once_used t a n c s session ask is.0 (ap (λ (k : Ask). k.cookie) is.1) gives fresh again
asks_once t a line.Nothing lost n session ask body is gives fresh again = absurd is
asks_once t a (line.Session s e) lost n session ask body is gives fresh again = absurd is
asks_once t a (line.End s) lost n session ask body is gives fresh again = absurd is
asks_once t a (line.Step w now) lost n session ask body is gives fresh again = absurd is
asks_once t a (line.Run w now) lost n session ask body is gives fresh again = absurd is
asks_once t a (line.Fail j k) lost n session ask body is gives fresh again = absurd is
asks_once t a (line.Crash choice) lost n session ask body is gives fresh again = absurd is

-- a line that asks was done
pub asks_played : {D : Type 0} (seen : D → Seen) (old : Desk D) (l : Line) (lost : Bool) (new : Desk D) (n r : ℕ) (mid : Names) (session : List ℕ) (ask : Ask)
    (body : Option (List ℕ)) → IsAsked l lost session ask body → GivesName old.table session n mid → (IsUsed mid n ask.cookie → ⊥) →
    Plays seen old.world (Happened (event.Ask n ask body) (Made r) ∷ []) new.world →
    new.table ≡ adds mid n ask.cookie r →
    new.out ≡ old.out → (told : LineTold) → told ≡ quiet → Played seen old l lost told new
asks_played seen old (line.Read s c offset long) lost new n r mid session ask body is gives fresh plays table out told told_is = record {
  calls = Happened (event.Ask n ask body) (Made r) ∷ [];
  text = [];
  is = record {
    plays = plays;
    does = record {
      made = event.Ask n ask body;
      mid = mid;
      outcome = Made r;
      event_is = asks_event old.table mid (line.Read s c offset long) lost n session ask body is gives;
      calls_are = refl;
      notes = (fresh, table);
      text_is = refl;
    };
  };
  printed = out ∙ sym (append-nil old.out);
  tells = quiet_tells (Happened (event.Ask n ask body) (Made r) ∷ []) told told_is refl refl;
}
asks_played seen old (line.Write s c offset bytes fua) lost new n r mid session ask body is gives fresh plays table out told told_is = record {
  calls = Happened (event.Ask n ask body) (Made r) ∷ [];
  text = [];
  is = record {
    plays = plays;
    does = record {
      made = event.Ask n ask body;
      mid = mid;
      outcome = Made r;
      event_is = asks_event old.table mid (line.Write s c offset bytes fua) lost n session ask body is gives;
      calls_are = refl;
      notes = (fresh, table);
      text_is = refl;
    };
  };
  printed = out ∙ sym (append-nil old.out);
  tells = quiet_tells (Happened (event.Ask n ask body) (Made r) ∷ []) told told_is refl refl;
}
asks_played seen old (line.Zero s c offset long fua) lost new n r mid session ask body is gives fresh plays table out told told_is = record {
  calls = Happened (event.Ask n ask body) (Made r) ∷ [];
  text = [];
  is = record {
    plays = plays;
    does = record {
      made = event.Ask n ask body;
      mid = mid;
      outcome = Made r;
      event_is = asks_event old.table mid (line.Zero s c offset long fua) lost n session ask body is gives;
      calls_are = refl;
      notes = (fresh, table);
      text_is = refl;
    };
  };
  printed = out ∙ sym (append-nil old.out);
  tells = quiet_tells (Happened (event.Ask n ask body) (Made r) ∷ []) told told_is refl refl;
}
asks_played seen old (line.Trim s c offset long) lost new n r mid session ask body is gives fresh plays table out told told_is = record {
  calls = Happened (event.Ask n ask body) (Made r) ∷ [];
  text = [];
  is = record {
    plays = plays;
    does = record {
      made = event.Ask n ask body;
      mid = mid;
      outcome = Made r;
      event_is = asks_event old.table mid (line.Trim s c offset long) lost n session ask body is gives;
      calls_are = refl;
      notes = (fresh, table);
      text_is = refl;
    };
  };
  printed = out ∙ sym (append-nil old.out);
  tells = quiet_tells (Happened (event.Ask n ask body) (Made r) ∷ []) told told_is refl refl;
}
asks_played seen old (line.Flush s c) lost new n r mid session ask body is gives fresh plays table out told told_is = record {
  calls = Happened (event.Ask n ask body) (Made r) ∷ [];
  text = [];
  is = record {
    plays = plays;
    does = record {
      made = event.Ask n ask body;
      mid = mid;
      outcome = Made r;
      event_is = asks_event old.table mid (line.Flush s c) lost n session ask body is gives;
      calls_are = refl;
      notes = (fresh, table);
      text_is = refl;
    };
  };
  printed = out ∙ sym (append-nil old.out);
  tells = quiet_tells (Happened (event.Ask n ask body) (Made r) ∷ []) told told_is refl refl;
}
asks_played seen old line.Nothing lost new n r mid session ask body is gives fresh plays table out told told_is = absurd is
asks_played seen old (line.Session s e) lost new n r mid session ask body is gives fresh plays table out told told_is = absurd is
asks_played seen old (line.End s) lost new n r mid session ask body is gives fresh plays table out told told_is = absurd is
asks_played seen old (line.Step a now) lost new n r mid session ask body is gives fresh plays table out told told_is = absurd is
asks_played seen old (line.Run a now) lost new n r mid session ask body is gives fresh plays table out told told_is = absurd is
asks_played seen old (line.Fail j k) lost new n r mid session ask body is gives fresh plays table out told told_is = absurd is
asks_played seen old (line.Crash choice) lost new n r mid session ask body is gives fresh plays table out told told_is = absurd is

-- a run couldn't begin
pub stopped_run : {D : Type 0} (seen : D → Seen) (old : Desk D) (a : ScriptActor) (now : ℕ) (s : Stop) (new : Desk D) (actor : Actor) (mid : Names) →
    IsActor old.table a actor mid → new.out ≡ old.out → IsNotNext old.world (event.Step actor now) × (new.world ≡ old.world) →
    (s ≡ stop.BadLine → ⊥) → (s ≡ stop.Memory → ⊥) → Stopped seen old (line.Run a now) s new
stopped_run seen old a now stop.BadLine new actor mid is out next form memory = absurd (form refl)
stopped_run seen old a now stop.NotNext new actor mid is out next form memory =
    (inl (record { made = event.Step actor now; mid = mid; lost = false; event_is = (actor, (is, refl)); not_next = next.0 }), λ again. again, next.1, out)
stopped_run seen old a now stop.Memory new actor mid is out next form memory = absurd (memory refl)

-- What stays so of one request along a run.
use Rattle.std.proofs.Common.{◌≡◌, ℕ, ◌<◌, Bool, not, ◌&&◌, ◌==◌, List, [], ◌∷◌, Option, Some, None, refl, sym, ap, ◌∙◌, subst, arith}
use Rattle.qs_part.specs.declared.stripe.Side.{Side}
use Rattle.qs_part.specs.declared.stripe.Side.TheVariants.{Head, Tail}
use Rattle.qs_model.specs.Requests.{Client, Pads, Req, Stage, ToRoute, ToList, ToStart, ToLoad, ToHold, ToStore, ToSync, ToFree, ToEnd, Ready, Entering, In, edge, has, held, is_flush, loaded, stored, synced, hold_failed, store_failed, abandon, abandoned}
use Rattle.qs_model.specs.Worlds.{World}
use Rattle.qs_model.specs.Acts.{Act, Answers, Waits, Enters, Routes, Shuts, Lists, Starts, Loads, LoadFails, Holds, HoldFails, Stores, StoreFails, Syncs, Cleans, SyncFails, Frees, Ends, Element, Attached, NoExport, Crowded, Left, Detached, NotAttached, Asked, Did, Exported, Planned, Crashed, block_of}
use Rattle.qs_model.specs.Guards.{CanCome}
use Rattle.qs_model.specs.Steps.{moved, leaves, happens, world_after, Runs}
use Rattle.qs_model.proofs.Basics.{choose, put_cases}
use Rattle.qs_model.proofs.Syncing.{stored_is, synced_is}
use Rattle.qs_model.proofs.Holders.{some_none}

-- a fact of what stands for a request that was made: its own rows keep it, and a session that leaves
pub record Lasts (A : ℕ) (P : Option Req → Type 0) : Type 1 where
  pub own : (c : Client) (d : Bool) (p : Pads) {stage : Stage} (act : Act stage) → P (Some (record { client = c; dropped = d; pads = p; stage = stage })) → P (moved A c d p act)
  pub left : (s : ℕ) (o : Option Req) → P o → P (leaves s o)
  pub gone : P None

pub next_step : (A : ℕ) (w : World) (e : Element) (r : ℕ) → r < w.next → r < (happens A w e).next
next_step A w (Attached s name e) r h = h
next_step A w (NoExport s name) r h = h
next_step A w (Crowded s name) r h = h
next_step A w (Left s e) r h = h
next_step A w (Detached s e) r h = h
next_step A w (NotAttached s e) r h = h
next_step A w (Asked s c) r h = omega arith
next_step A w (Did s q act) r h = h
next_step A w (Exported op e) r h = h
next_step A w (Planned j fail) r h = h
next_step A w (Crashed left) r h = h

pub lasts_step : (A : ℕ) (P : Option Req → Type 0) → Lasts A P → (w : World) (e : Element) (r : ℕ) → CanCome A w e → r < w.next → P (w.req r) → P ((happens A w e).req r)
lasts_step A P lasts w (Attached s name e) r may made h = h
lasts_step A P lasts w (NoExport s name) r may made h = h
lasts_step A P lasts w (Crowded s name) r may made h = h
lasts_step A P lasts w (Left s e) r may made h = lasts.left s (w.req r) h
lasts_step A P lasts w (Detached s e) r may made h = h
lasts_step A P lasts w (NotAttached s e) r may made h = h
lasts_step A P lasts w (Asked s c) r may made h = put_cases P w.req s _ r (λ e. let n : s ≡ w.next = may.next in absurd (omega arith)) (λ n. h)
lasts_step A P lasts w (Did s q act) r may made h =
    put_cases P w.req s _ r (λ e. lasts.own q.client q.dropped q.pads act (subst P (ap w.req e ∙ may.0) h)) (λ n. h)
lasts_step A P lasts w (Exported op e) r may made h = h
lasts_step A P lasts w (Planned j fail) r may made h = h
lasts_step A P lasts w (Crashed left) r may made h = lasts.gone

pub next_run : (A : ℕ) (w : World) (es : List Element) (r : ℕ) → r < w.next → r < (world_after A w es).next
next_run A w [] r h = h
next_run A w (e ∷ es) r h = next_run A (happens A w e) es r (next_step A w e r h)

pub lasts_run : (A : ℕ) (P : Option Req → Type 0) → Lasts A P → (w : World) (es : List Element) (r : ℕ) → Runs A w es → r < w.next → P (w.req r) → P ((world_after A w es).req r)
lasts_run A P lasts w [] r run made h = h
lasts_run A P lasts w (e ∷ es) r run made h =
    lasts_run A P lasts (happens A w e) es r run.1 (next_step A w e r made) (lasts_step A P lasts w e r run.0 made h)

-- the stages from the first block on, and those behind the last one
abbrev pub IsLate : Stage → Type 0
IsLate (In k ToRoute) = ⊥
IsLate (In k ToList) = ⊥
IsLate (In k ToStart) = ⊥
IsLate (In k step) = Unit {0}
IsLate _ = ⊥

abbrev pub IsLast : Stage → Type 0
IsLast (In k (ToSync s)) = Unit {0}
IsLast (In k (ToEnd v)) = Unit {0}
IsLast _ = ⊥

-- the request has come to its blocks, or is gone
abbrev pub Passed : Client → Option Req → Type 0
Passed c None = Unit {0}
Passed c (Some q) = (q.client ≡ c) × IsLate q.stage

-- the request has done its blocks, or is gone
abbrev pub Over : Option Req → Type 0
Over None = Unit {0}
Over (Some q) = IsLast q.stage

pub entry_late : (A : ℕ) (c : Client) {stage : Stage} (act : Act stage) (b : ℕ) → block_of A c act ≡ Some b → IsLate stage
entry_late A c (Loads bytes) b is = tt
entry_late A c LoadFails b is = tt
entry_late A c (Holds bytes) b is = tt
entry_late A c HoldFails b is = tt
entry_late A c (Stores bytes past) b is = tt
entry_late A c (StoreFails bytes took past) b is = tt
entry_late A c Frees b is = tt
entry_late A c Answers b is = absurd (some_none (sym is))
entry_late A c (Waits wait) b is = absurd (some_none (sym is))
entry_late A c (Enters k) b is = absurd (some_none (sym is))
entry_late A c (Routes route) b is = absurd (some_none (sym is))
entry_late A c Shuts b is = absurd (some_none (sym is))
entry_late A c (Lists n) b is = absurd (some_none (sym is))
entry_late A c Starts b is = absurd (some_none (sym is))
entry_late A c Syncs b is = absurd (some_none (sym is))
entry_late A c Cleans b is = absurd (some_none (sym is))
entry_late A c SyncFails b is = absurd (some_none (sym is))
entry_late A c Ends b is = absurd (some_none (sym is))

pub held_late : (A : ℕ) (c : Client) (k : ℕ) (side : Side) → IsLate (In k (held A c side))
unfolding held
held_late A c k Head = choose (λ g. IsLate (In k g)) (has A c Tail) _ _ (λ e. tt) (λ e. tt)
held_late A c k Tail = tt

pub loaded_late : (A : ℕ) (c : Client) (k b : ℕ) (got bytes : List ℕ) → IsLate (In k (loaded A c b got bytes))
unfolding loaded
loaded_late A c k b got bytes = choose (λ g. IsLate (In k g)) (b == edge A c Tail) _ _ (λ e. tt) (λ e. tt)

pub stored_late : (A : ℕ) (c : Client) (k b : ℕ) → IsLate (In k (stored A c b))
stored_late A c k b = stored_is (λ g. IsLate (In k g)) A c b (λ e. tt) (λ e s lt. tt) (λ e. tt)

pub synced_late : (A : ℕ) (c : Client) (k s : ℕ) → IsLate (In k (synced A c s))
synced_late A c k s = synced_is (λ g. IsLate (In k g)) A c s tt (λ t lt. tt)

pub hold_failed_late : (A : ℕ) (c : Client) (k : ℕ) (side : Side) → IsLate (In k (hold_failed A c side))
unfolding hold_failed
hold_failed_late A c k Head = tt
hold_failed_late A c k Tail = choose (λ g. IsLate (In k g)) (has A c Head) _ _ (λ e. tt) (λ e. tt)

pub store_failed_late : (A : ℕ) (c : Client) (k b : ℕ) → IsLate (In k (store_failed A c b))
unfolding store_failed
store_failed_late A c k b = choose (λ g. IsLate (In k g)) (has A c Tail && not (b == edge A c Tail)) _ _ (λ e. tt) (λ e. tt)

pub synced_last : (A : ℕ) (c : Client) (k s : ℕ) → IsLast (In k (synced A c s))
synced_last A c k s = synced_is (λ g. IsLast (In k g)) A c s tt (λ t lt. tt)

pub late_moves : (A : ℕ) (c : Client) (d : Bool) (p : Pads) {stage : Stage} (act : Act stage) → IsLate stage → Passed c (moved A c d p act)
late_moves A c d p Answers late = tt
late_moves A c d p (Waits wait) late = (refl, late)
late_moves A c d p (Enters k) late = absurd late
late_moves A c d p (Routes route) late = absurd late
late_moves A c d p Shuts late = absurd late
late_moves A c d p (Lists n) late = absurd late
late_moves A c d p Starts late = absurd late
late_moves A c d p (Loads {k = k} {b = b} {got = got} bytes) late = (refl, loaded_late A c k b got bytes)
late_moves A c d p LoadFails late = (refl, tt)
late_moves A c d p (Holds {k = k} {side = side} bytes) late = (refl, held_late A c k side)
late_moves A c d p (HoldFails {k = k} {side = side}) late = (refl, hold_failed_late A c k side)
late_moves A c d p (Stores {k = k} {b = b} bytes past) late = (refl, stored_late A c k b)
late_moves A c d p (StoreFails {k = k} {b = b} bytes took past) late = (refl, store_failed_late A c k b)
late_moves A c d p (Syncs {k = k} {s = s}) late = (refl, synced_late A c k s)
late_moves A c d p (Cleans {k = k} {s = s}) late = (refl, synced_late A c k s)
late_moves A c d p SyncFails late = (refl, tt)
late_moves A c d p Frees late = (refl, tt)
late_moves A c d p Ends late = tt

pub abandoned_late : (c : Client) (g : Stage) → IsLate g → IsLate (abandoned c g)
abandoned_late c (Ready v) late = absurd late
abandoned_late c Entering late = absurd late
abandoned_late c (In k ToRoute) late = absurd late
abandoned_late c (In k ToList) late = absurd late
abandoned_late c (In k ToStart) late = absurd late
abandoned_late c (In k (ToLoad b got)) late = tt
abandoned_late c (In k (ToHold side)) late = tt
abandoned_late c (In k (ToStore b)) late = tt
abandoned_late c (In k (ToSync s)) late = choose (λ g. IsLate (In k g)) (is_flush c.ask.kind) _ _ (λ e. tt) (λ e. tt)
abandoned_late c (In k (ToFree side)) late = tt
abandoned_late c (In k (ToEnd v)) late = tt

pub abandoned_last : (c : Client) (g : Stage) → IsLast g → IsLast (abandoned c g)
abandoned_last c (Ready v) last = absurd last
abandoned_last c Entering last = absurd last
abandoned_last c (In k ToRoute) last = absurd last
abandoned_last c (In k ToList) last = absurd last
abandoned_last c (In k ToStart) last = absurd last
abandoned_last c (In k (ToLoad b got)) last = absurd last
abandoned_last c (In k (ToHold side)) last = absurd last
abandoned_last c (In k (ToStore b)) last = absurd last
abandoned_last c (In k (ToSync s)) last = choose (λ g. IsLast (In k g)) (is_flush c.ask.kind) _ _ (λ e. tt) (λ e. tt)
abandoned_last c (In k (ToFree side)) last = absurd last
abandoned_last c (In k (ToEnd v)) last = tt

pub passed_left : (c : Client) (s : ℕ) (o : Option Req) → Passed c o → Passed c (leaves s o)
passed_left c s None h = tt
passed_left c s (Some q) h =
    choose (λ x. (x.client ≡ c) × IsLate x.stage) (q.client.session == s) (abandon q) q (λ e. (h.0, abandoned_late q.client q.stage h.1)) (λ e. h)

pub passed_lasts : (A : ℕ) (c : Client) → Lasts A (Passed c)
passed_lasts A c = record {
  own = λ d a p act h. subst (λ (x : Client). Passed x (moved A d a p act)) h.0 (late_moves A d a p act h.1);
  left = passed_left c;
  gone = tt;
}

pub over_moves : (A : ℕ) (c : Client) (d : Bool) (p : Pads) {stage : Stage} (act : Act stage) → IsLast stage → Over (moved A c d p act)
over_moves A c d p Answers last = tt
over_moves A c d p (Waits wait) last = last
over_moves A c d p (Enters k) last = absurd last
over_moves A c d p (Routes route) last = absurd last
over_moves A c d p Shuts last = absurd last
over_moves A c d p (Lists n) last = absurd last
over_moves A c d p Starts last = absurd last
over_moves A c d p (Loads bytes) last = absurd last
over_moves A c d p LoadFails last = absurd last
over_moves A c d p (Holds bytes) last = absurd last
over_moves A c d p HoldFails last = absurd last
over_moves A c d p (Stores bytes past) last = absurd last
over_moves A c d p (StoreFails bytes took past) last = absurd last
over_moves A c d p (Syncs {k = k} {s = s}) last = synced_last A c k s
over_moves A c d p (Cleans {k = k} {s = s}) last = synced_last A c k s
over_moves A c d p SyncFails last = tt
over_moves A c d p Frees last = absurd last
over_moves A c d p Ends last = tt

pub over_left : (s : ℕ) (o : Option Req) → Over o → Over (leaves s o)
over_left s None h = tt
over_left s (Some q) h = choose (λ x. IsLast x.stage) (q.client.session == s) (abandon q) q (λ e. abandoned_last q.client q.stage h) (λ e. h)

pub over_lasts : (A : ℕ) → Lasts A Over
over_lasts A = record { own = λ c d p act h. over_moves A c d p act h; left = over_left; gone = tt }

-- a request that is gone stays gone
pub gone_lasts : (A : ℕ) → Lasts A (λ o. o ≡ None)
gone_lasts A = record { own = λ c d p act h. absurd (some_none h); left = λ s o h. ap (leaves s) h; gone = refl }

-- a request that has done its blocks has no entry any more
pub last_entry : (A : ℕ) (c : Client) {stage : Stage} (act : Act stage) (b : ℕ) → IsLast stage → block_of A c act ≡ Some b → ⊥
last_entry A c Answers b last is = some_none (sym is)
last_entry A c (Waits wait) b last is = some_none (sym is)
last_entry A c Syncs b last is = some_none (sym is)
last_entry A c Cleans b last is = some_none (sym is)
last_entry A c SyncFails b last is = some_none (sym is)
last_entry A c Ends b last is = some_none (sym is)
last_entry A c _ b last is = last

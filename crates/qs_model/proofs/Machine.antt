-- What the machine of one request keeps.
use Rattle.std.proofs.Common.{◌≡◌, ◌≢◌, ℕ, ◌+◌, ◌-◌, ◌*◌, min, max, ◌<◌, ◌≤◌, Bool, true, false, not, ◌&&◌, ◌||◌, ◌==◌, nat_lt, inl, inr, List, [], ◌++◌, length, Option, Some, None, refl, sym, ap, ◌∙◌, arith, true≢false, length-append}
use Rattle.qs_bytes.proofs.Overlays.{length-part}
use Rattle.qs_bytes.specs.declared.ask.Verdict.TheVariants.{Got, Fine}
use Rattle.qs_part.specs.declared.stripe.Side.{Side}
use Rattle.qs_part.specs.declared.stripe.Side.TheVariants.{Head, Tail}
use Rattle.qs_model.specs.Requests.{Client, Pads, Req, Step, Stage, edge, has, span_of, reads, writes, wants_writable, is_flush, is_trim, piece, routed, held, started, loaded, stored, hold_failed, store_failed, synced}
use Rattle.qs_model.specs.Worlds.{World}
use Rattle.qs_model.specs.Acts.{Act, Answers, Waits, Enters, Routes, Shuts, Lists, Starts, Loads, LoadFails, Holds, HoldFails, Stores, StoreFails, Syncs, Cleans, SyncFails, Frees, Ends}
use Rattle.qs_model.specs.Guards.{MayDo}
use Rattle.qs_model.specs.Steps.{moved}
use Rattle.qs_model.proofs.Basics.{choose, either, blocks_le, blocks_lt}
use Rattle.qs_model.proofs.Geometry.{Reaches, head_low, head_high, tail_low, tail_high, reaches_edge, same_eqb}
use Rattle.qs_model.proofs.RequestKinds.{neither, other_one, kind_stores, stores_writable, trim_no_read}
use Rattle.qs_model.proofs.Syncing.{stored_is, synced_is}
use Rattle.qs_model.proofs.Facts.{IsKind, Sound, Loading, Holding, Storing, Syncing, Fit, Shaped, IsWhole}

-- a fact of the request, where there still is one
abbrev pub ForMoved : (Req → Type 0) → Option Req → Type 0
ForMoved P None = Unit {0}
ForMoved P (Some q) = P q

pub other_block : (a b : ℕ) → (a == b) ≡ false → a ≢ b
other_block a b is e = grind (arith, is, e)

-- what isn't a FLUSH, a TRIM or a READ stores bytes, and may do so
pub routed_fit : (A : ℕ) (c : Client) → IsKind c → Fit A c (routed c)
unfolding routed
routed_fit A c kind =
    let P : Step → Type 0 = λ g. Fit A c g in
    choose P (wants_writable c.ask.kind && not c.route.writable) _ _ (λ e. tt)
    (λ may. choose P (is_flush c.ask.kind) _ _
    (λ e. record { inside = omega arith; sound = λ f. absurd (true≢false (sym e ∙ f)); writing = λ f. absurd (true≢false (sym e ∙ f)) })
    (λ sync. choose P (nat_lt c.route.size (c.ask.offset + c.ask.length)) _ _ (λ e. tt)
    (λ inside. choose P (c.ask.length == 0 || is_trim c.ask.kind) _ _
    (λ e. choose (λ v. IsWhole c v) (reads c) (Got []) Fine (λ f. elim (either (c.ask.length == 0)) [
      | inl none ↦ sym (same_eqb c.ask.length 0 none)
      | inr some ↦ absurd (true≢false (sym f ∙ trim_no_read c.ask.kind (other_one _ _ e some)))
    ]) (λ f. tt))
    (λ some. record {
      kind = kind_stores c.ask.kind kind sync (neither _ _ some).1;
      some = let n : c.ask.length ≢ 0 = other_block c.ask.length 0 (neither _ _ some).0 in omega arith;
      writable = λ w. go (wants_writable c.ask.kind) c.route.writable (stores_writable c.ask.kind w) may;
    }))))
  where
    go : (w m : Bool) → w ≡ true → w && not m ≡ false → m ≡ true
    go true true w may = refl
    go true false w may = absurd (true≢false may)
    go false m w may = absurd (true≢false (sym w))

pub held_fit : (A : ℕ) (c : Client) (side : Side) → 0 < A → Sound c → writes c ≡ true → Fit A c (held A c side)
unfolding held
held_fit A c Head h sound writing =
    let P : Step → Type 0 = λ g. Fit A c g in
    choose P (has A c Tail) _ _ (λ e. record { sound = sound; writing = writing; wanted = e })
    (λ e. record { sound = sound; writing = writing; reach = reaches_edge A c Head h sound.some })
held_fit A c Tail h sound writing = record { sound = sound; writing = writing; reach = reaches_edge A c Head h sound.some }

pub started_fit : (A : ℕ) (c : Client) → 0 < A → Sound c → Fit A c (started A c)
unfolding started
started_fit A c h sound =
    let P : Step → Type 0 = λ g. Fit A c g in
    choose P (reads c) _ _
    (λ e. let low : edge A c Head * A ≤ (span_of c).lo = head_low A c h in
    record { sound = sound; reading = e; reach = reaches_edge A c Head h sound.some; so_far = omega arith })
    (λ e. choose P (has A c Head) _ _ (λ f. record { sound = sound; writing = sound.kind e; wanted = f })
    (λ f. held_fit A c Head h sound (sound.kind e)))

-- the next block
pub next_reach : (A : ℕ) (c : Client) (b : ℕ) → Reaches A c b → (b == edge A c Tail) ≡ false → Reaches A c (b + 1)
next_reach A c b reach more =
    let n : b ≢ edge A c Tail = other_block b (edge A c Tail) more in
    let first : edge A c Head ≤ b = reach.first in
    let last : b ≤ edge A c Tail = reach.last in
    record { first = omega arith; last = omega arith }

pub length-piece : (A : ℕ) (c : Client) (b : ℕ) (bytes : List ℕ) → 0 < A → (span_of c).lo < (span_of c).hi → Reaches A c b → length bytes ≡ A →
    length (piece A c b bytes) ≡ min (span_of c).hi (b * A + A) - max (span_of c).lo (b * A)
length-piece A c b bytes h some reach whole =
    let low : (span_of c).lo < edge A c Head * A + A = head_high A c h in
    let first : edge A c Head * A ≤ b * A = blocks_le (edge A c Head) b A reach.first in
    length-part bytes (max (span_of c).lo (b * A) - b * A) (min (span_of c).hi (b * A + A) - max (span_of c).lo (b * A)) (omega arith)

pub loaded_so_far : (A : ℕ) (c : Client) (b : ℕ) (got bytes : List ℕ) → 0 < A → Loading A c b got → length bytes ≡ A → (b == edge A c Tail) ≡ false →
    length (got ++ piece A c b bytes) ≡ max (span_of c).lo ((b + 1) * A) - (span_of c).lo
loaded_so_far A c b got bytes h l whole more =
    let n : b ≢ edge A c Tail = other_block b (edge A c Tail) more in
    let last : b ≤ edge A c Tail = l.reach.last in
    let low : (span_of c).lo < edge A c Head * A + A = head_high A c h in
    let first : edge A c Head * A ≤ b * A = blocks_le (edge A c Head) b A l.reach.first in
    let rest : b * A + A ≤ edge A c Tail * A = blocks_lt b (edge A c Tail) A (omega arith) in
    let high : edge A c Tail * A < (span_of c).hi = tail_low A c h l.sound.some in
    let p : length (piece A c b bytes) ≡ min (span_of c).hi (b * A + A) - max (span_of c).lo (b * A) = length-piece A c b bytes h l.sound.some l.reach whole in
    let g : length got ≡ max (span_of c).lo (b * A) - (span_of c).lo = l.so_far in
    length-append got (piece A c b bytes) ∙ sums _ _ (span_of c).lo (span_of c).hi (b * A) ((b + 1) * A) A g p (omega arith) (omega arith) (omega arith)
  where
    sums : (m n lo hi low up A : ℕ) → m ≡ max lo low - lo → n ≡ min hi (low + A) - max lo low → up ≡ low + A → lo < low + A → low + A < hi → m + n ≡ max lo up - lo
    sums m n lo hi low up A e f g k l = omega arith

pub loaded_whole : (A : ℕ) (c : Client) (b : ℕ) (got bytes : List ℕ) → 0 < A → Loading A c b got → length bytes ≡ A → b ≡ edge A c Tail →
    length (got ++ piece A c b bytes) ≡ c.ask.length
loaded_whole A c b got bytes h l whole last =
    let low : (span_of c).lo < edge A c Head * A + A = head_high A c h in
    let first : edge A c Head * A ≤ b * A = blocks_le (edge A c Head) b A l.reach.first in
    let below : edge A c Tail * A < (span_of c).hi = tail_low A c h l.sound.some in
    let high : (span_of c).hi ≤ edge A c Tail * A + A = tail_high A c h l.sound.some in
    let at : b * A ≡ edge A c Tail * A = ap (λ (n : ℕ). n * A) last in
    let p : length (piece A c b bytes) ≡ min (span_of c).hi (b * A + A) - max (span_of c).lo (b * A) = length-piece A c b bytes h l.sound.some l.reach whole in
    let g : length got ≡ max (span_of c).lo (b * A) - (span_of c).lo = l.so_far in
    length-append got (piece A c b bytes) ∙ sums _ _ (span_of c).lo (span_of c).hi (b * A) A c.ask.length g p (omega arith) (omega arith) l.sound.some refl
  where
    sums : (m n lo hi low A long : ℕ) → m ≡ max lo low - lo → n ≡ min hi (low + A) - max lo low → low < hi → hi ≤ low + A → lo < hi → hi ≡ lo + long → m + n ≡ long
    sums m n lo hi low A long e f g k l same = omega arith

pub loaded_fit : (A : ℕ) (c : Client) (b : ℕ) (got bytes : List ℕ) → 0 < A → Loading A c b got → length bytes ≡ A → Fit A c (loaded A c b got bytes)
unfolding loaded
loaded_fit A c b got bytes h l whole =
    let P : Step → Type 0 = λ g. Fit A c g in
    choose P (b == edge A c Tail) _ _ (λ e. loaded_whole A c b got bytes h l whole (same_eqb b (edge A c Tail) e))
    (λ e. record { sound = l.sound; reading = l.reading; reach = next_reach A c b l.reach e; so_far = loaded_so_far A c b got bytes h l whole e })

pub stored_fit : (A : ℕ) (c : Client) (b : ℕ) → Storing A c b → Fit A c (stored A c b)
stored_fit A c b s = stored_is (λ g. Fit A c g) A c b (λ e. tt)
    (λ e t lt. record { inside = lt; sound = λ f. s.sound; writing = λ f. s.writing })
    (λ e. record { sound = s.sound; writing = s.writing; reach = next_reach A c b s.reach e })

pub synced_fit : (A : ℕ) (c : Client) (s : ℕ) → Syncing c s → Fit A c (synced A c s)
synced_fit A c s fit = synced_is (λ g. Fit A c g) A c s tt (λ t lt. record { inside = lt; sound = fit.sound; writing = fit.writing })

pub hold_failed_fit : (A : ℕ) (c : Client) (side : Side) → Holding A c side → Fit A c (hold_failed A c side)
unfolding hold_failed
hold_failed_fit A c Head l = tt
hold_failed_fit A c Tail l =
    let P : Step → Type 0 = λ g. Fit A c g in
    choose P (has A c Head) _ _ (λ e. record { sound = l.sound; writing = l.writing; wanted = e }) (λ e. tt)

pub both : (a b : Bool) → a && b ≡ true → (a ≡ true) × (b ≡ true)
both true true e = (refl, refl)
both true false e = absurd (true≢false (sym e))
both false b e = absurd (true≢false (sym e))

pub store_failed_fit : (A : ℕ) (c : Client) (b : ℕ) → Storing A c b → Fit A c (store_failed A c b)
unfolding store_failed
store_failed_fit A c b s =
    let P : Step → Type 0 = λ g. Fit A c g in
    choose P (has A c Tail && not (b == edge A c Tail)) _ _
    (λ e. record { sound = s.sound; writing = s.writing; wanted = (both (has A c Tail) (not (b == edge A c Tail)) e).0 }) (λ e. tt)

-- the machine keeps what it needs
pub own_shaped : (A : ℕ) (w : World) (c : Client) (d : Bool) (p : Pads) {stage : Stage} (act : Act stage) → 0 < A → Shaped A c stage → MayDo A w c p act →
    ForMoved (λ q. Shaped A q.client q.stage) (moved A c d p act)
own_shaped A w c d p Answers h fit may = tt
own_shaped A w c d p (Waits wait) h fit may = fit
own_shaped A w c d p (Enters k) h fit may = fit
own_shaped A w c d p (Routes route) h fit may = routed_fit A (record c { route = route }) fit
own_shaped A w c d p Shuts h fit may = tt
own_shaped A w c d p (Lists n) h fit may = fit
own_shaped A w c d p Starts h fit may = started_fit A c h fit
own_shaped A w c d p (Loads {b = b} {got = got} bytes) h fit may = loaded_fit A c b got bytes h fit may.whole
own_shaped A w c d p LoadFails h fit may = tt
own_shaped A w c d p (Holds {side = side} bytes) h fit may = held_fit A c side h fit.sound fit.writing
own_shaped A w c d p (HoldFails {side = side}) h fit may = hold_failed_fit A c side fit
own_shaped A w c d p (Stores {b = b} bytes past) h fit may = stored_fit A c b fit
own_shaped A w c d p (StoreFails {b = b} bytes took past) h fit may = store_failed_fit A c b fit
own_shaped A w c d p (Syncs {s = s}) h fit may = synced_fit A c s fit
own_shaped A w c d p (Cleans {s = s}) h fit may = synced_fit A c s fit
own_shaped A w c d p SyncFails h fit may = tt
own_shaped A w c d p Frees h fit may = tt
own_shaped A w c d p Ends h fit may = tt

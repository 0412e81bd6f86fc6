-- What a step leaves of the request's own holds, and of who holds what.
use Rattle.std.proofs.Common.{◌≡◌, ◌≢◌, ℕ, ◌+◌, ◌≤◌, Bool, true, false, not, ◌&&◌, ◌||◌, ◌==◌, nat_lt, List, [], Some, None, refl, sym, ◌∙◌, arith, true≢false}
use Rattle.qs_bytes.specs.declared.ask.Verdict.TheVariants.{Refused, Fine}
use Rattle.qs_bytes.specs.declared.ask.Errno.TheVariants.{Io}
use Rattle.qs_part.specs.declared.stripe.Side.{Side}
use Rattle.qs_part.specs.declared.stripe.Side.TheVariants.{Head, Tail}
use Rattle.qs_model.specs.Puts.{put}
use Rattle.qs_model.specs.Requests.{Client, Pads, Step, Stage, ToRoute, ToList, ToStart, ToLoad, ToHold, ToStore, ToSync, ToFree, ToEnd, In, edge, has, keep, reads, wants_writable, is_flush, is_trim, routed, held, started, loaded, stored, hold_failed, store_failed, synced}
use Rattle.qs_model.specs.Worlds.{Image, World}
use Rattle.qs_model.specs.Acts.{Act, Answers, Waits, Enters, Routes, Shuts, Lists, Starts, Loads, LoadFails, Holds, HoldFails, Stores, StoreFails, Syncs, Cleans, SyncFails, Frees, Ends}
use Rattle.qs_model.specs.Guards.{MayDo, CanRead}
use Rattle.qs_model.specs.Steps.{moved, imaged, stripe_settled}
use Rattle.qs_model.proofs.Basics.{choose, put_here, put_other}
use Rattle.qs_model.proofs.Syncing.{stored_is, synced_is}
use Rattle.qs_model.proofs.Geometry.{Reaches, tail_other}
use Rattle.qs_model.proofs.Facts.{Shaped, Held, Keeps, IsOpen}
use Rattle.qs_model.proofs.Machine.{ForMoved, other_block, both}

-- a step at which no hold is open
abbrev pub IsBare : Step → Type 0
IsBare (ToHold Tail) = ⊥
IsBare (ToStore b) = ⊥
IsBare (ToFree side) = ⊥
IsBare _ = Unit {0}

pub bare_open : (A : ℕ) (c : Client) (step : Step) (side : Side) → IsBare step → IsOpen A c step side → ⊥
bare_open A c ToRoute side bare open_ = open_
bare_open A c ToList side bare open_ = open_
bare_open A c ToStart side bare open_ = open_
bare_open A c (ToLoad b got) side bare open_ = open_
bare_open A c (ToHold Head) side bare open_ = open_
bare_open A c (ToHold Tail) side bare open_ = bare
bare_open A c (ToStore b) side bare open_ = bare
bare_open A c (ToSync s) side bare open_ = open_
bare_open A c (ToFree side) other bare open_ = bare
bare_open A c (ToEnd v) side bare open_ = open_

pub bare_keeps : (A : ℕ) (tells : Bool) (i : Image) (c : Client) (p : Pads) (k : ℕ) (step : Step) → IsBare step → Keeps A tells i c p (In k step)
bare_keeps A tells i c p k step bare side open_ = absurd (bare_open A c step side bare open_)

pub routed_bare : (c : Client) → IsBare (routed c)
unfolding routed
routed_bare c =
    let P : Step → Type 0 = λ g. IsBare g in
    choose P (wants_writable c.ask.kind && not c.route.writable) _ _ (λ e. tt)
    (λ may. choose P (is_flush c.ask.kind) _ _ (λ e. tt)
    (λ sync. choose P (nat_lt c.route.size (c.ask.offset + c.ask.length)) _ _ (λ e. tt)
    (λ inside. choose P (c.ask.length == 0 || is_trim c.ask.kind) _ _ (λ e. tt) (λ some. tt))))

pub synced_bare : (A : ℕ) (c : Client) (s : ℕ) → IsBare (synced A c s)
synced_bare A c s = synced_is (λ g. IsBare g) A c s tt (λ t lt. tt)

pub loaded_bare : (A : ℕ) (c : Client) (b : ℕ) (got bytes : List ℕ) → IsBare (loaded A c b got bytes)
unfolding loaded
loaded_bare A c b got bytes = choose (λ g. IsBare g) (b == edge A c Tail) _ _ (λ e. tt) (λ e. tt)

-- with no head nothing is held yet
pub headless_keeps : (A : ℕ) (tells : Bool) (i : Image) (c : Client) (p : Pads) (k : ℕ) → has A c Head ≡ false → Keeps A tells i c p (In k (held A c Head))
unfolding held
headless_keeps A tells i c p k none =
    let P : Step → Type 0 = λ g. Keeps A tells i c p (In k g) in
    choose P (has A c Tail) _ _ (λ e. elim [ Head ↦ λ open_. absurd (true≢false (sym open_ ∙ none)) | Tail ↦ λ open_. absurd open_ ])
    (λ e. elim [ Head ↦ λ open_. absurd (true≢false (sym open_.0 ∙ none)) | Tail ↦ λ open_. absurd (true≢false (sym open_ ∙ e)) ])

pub started_keeps : (A : ℕ) (tells : Bool) (i : Image) (c : Client) (p : Pads) (k : ℕ) → Keeps A tells i c p (In k (started A c))
unfolding started
started_keeps A tells i c p k =
    let P : Step → Type 0 = λ g. Keeps A tells i c p (In k g) in
    choose P (reads c) _ _ (λ e. bare_keeps A tells i c p k (ToLoad (edge A c Head) []) tt)
    (λ e. choose P (has A c Head) _ _ (λ f. bare_keeps A tells i c p k (ToHold Head) tt) (λ f. headless_keeps A tells i c p k f))

-- the hold that was just taken
pub taken_held : (A : ℕ) (w : World) (c : Client) (p : Pads) (k : ℕ) (side : Side) (bytes : List ℕ) → CanRead A w (edge A c side) bytes →
    Held A w.tells (record w.image { holder = put w.image.holder (edge A c side) (Some (record { place = k; side = side })) }) c (keep p side bytes) k side
taken_held A w c p k Head bytes can = record { held = put_here w.image.holder (edge A c Head) _; same = λ tells. sym (can.now tells) }
taken_held A w c p k Tail bytes can = record { held = put_here w.image.holder (edge A c Tail) _; same = λ tells. sym (can.now tells) }

pub held_keeps : (A : ℕ) (w : World) (c : Client) (p : Pads) (k : ℕ) (side : Side) (bytes : List ℕ) → has A c side ≡ true → Keeps A w.tells w.image c p (In k (ToHold side)) →
    CanRead A w (edge A c side) bytes →
    Keeps A w.tells (record w.image { holder = put w.image.holder (edge A c side) (Some (record { place = k; side = side })) }) c (keep p side bytes) (In k (held A c side))
unfolding held
held_keeps A w c p k Head bytes wanted kept can =
    let i : Image = record w.image { holder = put w.image.holder (edge A c Head) (Some (record { place = k; side = Head })) } in
    let P : Step → Type 0 = λ g. Keeps A w.tells i c (keep p Head bytes) (In k g) in
    choose P (has A c Tail) _ _
    (λ e. elim [ Head ↦ λ open_. taken_held A w c p k Head bytes can | Tail ↦ λ open_. absurd open_ ])
    (λ e. elim [ Head ↦ λ open_. taken_held A w c p k Head bytes can | Tail ↦ λ open_. absurd (true≢false (sym open_ ∙ e)) ])
held_keeps A w c p k Tail bytes wanted kept can = elim [
  | Head ↦ λ open_. record {
    held = put_other w.image.holder (edge A c Tail) _ (edge A c Head) (λ e. tail_other A c wanted (sym e)) ∙ (kept Head open_.0).held;
    same = (kept Head open_.0).same;
  }
  | Tail ↦ λ open_. taken_held A w c p k Tail bytes can
]

-- a hold on another block than the one that was stored or freed
pub still_held : (A : ℕ) (tells : Bool) (i : Image) (c : Client) (p : Pads) (k b : ℕ) (side : Side) (j : Image) →
    ((d : ℕ) → d ≢ b → (j.holder d ≡ i.holder d) × (j.now d ≡ i.now d)) → edge A c side ≢ b → Held A tells i c p k side → Held A tells j c p k side
still_held A tells i c p k b side j others other h = record {
  held = (others (edge A c side) other).0 ∙ h.held;
  same = λ t. (others (edge A c side) other).1 ∙ h.same t;
}

pub stored_keeps : (A : ℕ) (tells : Bool) (i j : Image) (c : Client) (p : Pads) (k b : ℕ) → ((d : ℕ) → d ≢ b → (j.holder d ≡ i.holder d) × (j.now d ≡ i.now d)) →
    Reaches A c b → Keeps A tells i c p (In k (ToStore b)) → Keeps A tells j c p (In k (stored A c b))
stored_keeps A tells i j c p k b others reach kept =
    stored_is (λ g. Keeps A tells j c p (In k g)) A c b (λ e. bare_keeps A tells j c p k (ToEnd Fine) tt)
    (λ e s lt. bare_keeps A tells j c p k (ToSync s) tt)
    (λ e. elim [
      | Head ↦ λ open_. let past : b + 1 ≡ edge A c Head = open_.1 in let first : edge A c Head ≤ b = reach.first in absurd (omega arith)
      | Tail ↦ λ open_. still_held A tells i c p k b Tail j others (λ f. other_block b (edge A c Tail) e (sym f)) (kept Tail open_)
    ])

pub not_true : (b : Bool) → not b ≡ true → b ≡ false
not_true true e = absurd (true≢false (sym e))
not_true false e = refl

pub store_failed_keeps : (A : ℕ) (tells : Bool) (i j : Image) (c : Client) (p : Pads) (k b : ℕ) → ((d : ℕ) → d ≢ b → (j.holder d ≡ i.holder d) × (j.now d ≡ i.now d)) →
    Keeps A tells i c p (In k (ToStore b)) → Keeps A tells j c p (In k (store_failed A c b))
unfolding store_failed
store_failed_keeps A tells i j c p k b others kept =
    let P : Step → Type 0 = λ g. Keeps A tells j c p (In k g) in
    choose P (has A c Tail && not (b == edge A c Tail)) _ _
    (λ e. let (wanted, other) = both (has A c Tail) (not (b == edge A c Tail)) e in elim [
      | Head ↦ λ open_. absurd open_
      | Tail ↦ λ open_. still_held A tells i c p k b Tail j others (λ f. other_block b (edge A c Tail) (not_true _ other) (sym f)) (kept Tail wanted)
    ])
    (λ e. bare_keeps A tells j c p k (ToEnd (Refused Io)) tt)

pub hold_failed_keeps : (A : ℕ) (tells : Bool) (i : Image) (c : Client) (p : Pads) (k : ℕ) (side : Side) →
    Keeps A tells i c p (In k (ToHold side)) → Keeps A tells i c p (In k (hold_failed A c side))
unfolding hold_failed
hold_failed_keeps A tells i c p k Head kept = bare_keeps A tells i c p k (ToEnd (Refused Io)) tt
hold_failed_keeps A tells i c p k Tail kept =
    let P : Step → Type 0 = λ g. Keeps A tells i c p (In k g) in
    choose P (has A c Head) _ _ (λ e. elim [ Head ↦ λ open_. kept Head e | Tail ↦ λ open_. absurd open_ ]) (λ e. bare_keeps A tells i c p k (ToEnd (Refused Io)) tt)

-- the request's own holds after its step
pub own_kept : (A : ℕ) (w : World) (c : Client) (d : Bool) (p : Pads) {stage : Stage} (act : Act stage) → Shaped A c stage → Keeps A w.tells w.image c p stage → MayDo A w c p act →
    ForMoved (λ q. Keeps A w.tells (imaged A w.image c act) q.client q.pads q.stage) (moved A c d p act)
own_kept A w c d p Answers fit kept may = tt
own_kept A w c d p (Waits wait) fit kept may = kept
own_kept A w c d p (Enters k) fit kept may = bare_keeps A w.tells w.image c p k ToRoute tt
own_kept A w c d p (Routes {k = k} route) fit kept may =
    bare_keeps A w.tells w.image (record c { route = route }) p k (routed (record c { route = route })) (routed_bare (record c { route = route }))
own_kept A w c d p (Shuts {k = k}) fit kept may = bare_keeps A w.tells w.image c p k (ToEnd (Refused Io)) tt
own_kept A w c d p (Lists {k = k} n) fit kept may = bare_keeps A w.tells w.image c p k ToStart tt
own_kept A w c d p (Starts {k = k}) fit kept may = started_keeps A w.tells w.image c p k
own_kept A w c d p (Loads {k = k} {b = b} {got = got} bytes) fit kept may = bare_keeps A w.tells w.image c p k (loaded A c b got bytes) (loaded_bare A c b got bytes)
own_kept A w c d p (LoadFails {k = k}) fit kept may = bare_keeps A w.tells w.image c p k (ToEnd (Refused Io)) tt
own_kept A w c d p (Holds {k = k} {side = side} bytes) fit kept may = held_keeps A w c p k side bytes fit.wanted kept may.1
own_kept A w c d p (HoldFails {k = k} {side = side}) fit kept may = hold_failed_keeps A w.tells w.image c p k side kept
own_kept A w c d p (Stores {k = k} {b = b} bytes past) fit kept may =
    stored_keeps A w.tells w.image _ c p k b (λ n other. (put_other w.image.holder b None n other, put_other w.image.now b bytes n other)) fit.reach kept
own_kept A w c d p (StoreFails {k = k} {b = b} bytes took past) fit kept may =
    store_failed_keeps A w.tells w.image _ c p k b (λ n other. (put_other w.image.holder b None n other, put_other w.image.now b _ n other)) kept
own_kept A w c d p (Syncs {k = k} {s = s}) fit kept may = bare_keeps A w.tells (stripe_settled w.image s) c p k (synced A c s) (synced_bare A c s)
own_kept A w c d p (Cleans {k = k} {s = s}) fit kept may = bare_keeps A w.tells w.image c p k (synced A c s) (synced_bare A c s)
own_kept A w c d p (SyncFails {k = k}) fit kept may = bare_keeps A w.tells w.image c p k (ToEnd (Refused Io)) tt
own_kept A w c d p (Frees {k = k} {side = side}) fit kept may =
    bare_keeps A w.tells (record w.image { holder = put w.image.holder (edge A c side) None }) c p k (ToEnd (Refused Io)) tt
own_kept A w c d p Ends fit kept may = tt

-- Requests that work on a block, and that two of them, one serialising, are one.
use Rattle.std.proofs.Common.{◌≡◌, ℕ, ◌*◌, ◌<◌, inl, Bool, true, Some, IsTrue, refl, sym, ◌∙◌, subst}
use Rattle.qs_bytes.specs.Spans.{Places, Covers, aligned_out}
use Rattle.qs_part.specs.declared.stripe.Side.{Side}
use Rattle.qs_part.specs.declared.stripe.Side.TheVariants.{Head, Tail}
use Rattle.qs_model.specs.Requests.{Client, Req, Step, Stage, ToRoute, ToList, ToStart, ToLoad, ToHold, ToStore, ToSync, ToFree, ToEnd, Ready, Entering, In, edge, has, span_of, serial, writes}
use Rattle.qs_tracker.specs.Table.{TrackerValue}
use Rattle.qs_tracker.proofs.Sound.{Sound as TrackerSound, goes_apart}
use Rattle.qs_model.specs.Worlds.{Hold, World}
use Rattle.qs_model.specs.Acts.{Act, Answers, Waits, Enters, Routes, Shuts, Lists, Starts, Loads, LoadFails, Holds, HoldFails, Stores, StoreFails, Syncs, Cleans, SyncFails, Frees, Ends, block_of}
use Rattle.qs_model.proofs.Geometry.{Reaches, reaches_edge, reached_outward, has_serial}
use Rattle.qs_model.proofs.Facts.{Sound, Shaped, Goes, Seats, IsHolder, IsAt, Well, Owner, Ok}
use Rattle.qs_model.proofs.Holders.{some_none}

-- a request at place k that has started, and works on block b
pub record Works (A : ℕ) (t : TrackerValue) (c : Client) (stage : Stage) (k b : ℕ) : Type 0 where
  pub at : IsAt stage k
  pub goes : Goes A t c k
  pub sound : Sound c
  pub reach : Reaches A c b

pub same_block : (A : ℕ) (t : TrackerValue) (c : Client) (stage : Stage) (k a b : ℕ) → Some a ≡ Some b → Works A t c stage k a → Works A t c stage k b
same_block A t c stage k a b e works = subst (λ (n : ℕ). Works A t c stage k n) (inside a b e) works
  where
    inside : (x y : ℕ) → Some x ≡ Some y → x ≡ y
    inside x y f = cc

-- who has a block entry works on its block
pub entry_works : (A : ℕ) (t : TrackerValue) (c : Client) {stage : Stage} (act : Act stage) (b : ℕ) → 0 < A → Shaped A c stage → Seats A t c stage → block_of A c act ≡ Some b →
    (k : ℕ) × Works A t c stage k b
entry_works A t c Answers b pos fit sits is = absurd (some_none (sym is))
entry_works A t c (Waits wait) b pos fit sits is = absurd (some_none (sym is))
entry_works A t c (Enters k) b pos fit sits is = absurd (some_none (sym is))
entry_works A t c (Routes route) b pos fit sits is = absurd (some_none (sym is))
entry_works A t c Shuts b pos fit sits is = absurd (some_none (sym is))
entry_works A t c (Lists n) b pos fit sits is = absurd (some_none (sym is))
entry_works A t c Starts b pos fit sits is = absurd (some_none (sym is))
entry_works A t c (Loads {k = k} {b = n} {got = got} bytes) b pos fit sits is =
    (k, same_block A t c (In k (ToLoad n got)) k n b is (record { at = refl; goes = sits; sound = fit.sound; reach = fit.reach }))
entry_works A t c (LoadFails {k = k} {b = n} {got = got}) b pos fit sits is =
    (k, same_block A t c (In k (ToLoad n got)) k n b is (record { at = refl; goes = sits; sound = fit.sound; reach = fit.reach }))
entry_works A t c (Holds {k = k} {side = side} bytes) b pos fit sits is =
    (k, same_block A t c (In k (ToHold side)) k (edge A c side) b is (record { at = refl; goes = sits; sound = fit.sound; reach = reaches_edge A c side pos fit.sound.some }))
entry_works A t c (HoldFails {k = k} {side = side}) b pos fit sits is =
    (k, same_block A t c (In k (ToHold side)) k (edge A c side) b is (record { at = refl; goes = sits; sound = fit.sound; reach = reaches_edge A c side pos fit.sound.some }))
entry_works A t c (Stores {k = k} {b = n} bytes past) b pos fit sits is =
    (k, same_block A t c (In k (ToStore n)) k n b is (record { at = refl; goes = sits; sound = fit.sound; reach = fit.reach }))
entry_works A t c (StoreFails {k = k} {b = n} bytes took past) b pos fit sits is =
    (k, same_block A t c (In k (ToStore n)) k n b is (record { at = refl; goes = sits; sound = fit.sound; reach = fit.reach }))
entry_works A t c (Frees {k = k} {side = side}) b pos fit sits is =
    (k, same_block A t c (In k (ToFree side)) k (edge A c side) b is (record { at = refl; goes = sits; sound = fit.sound; reach = reaches_edge A c side pos fit.sound.some }))
entry_works A t c Syncs b pos fit sits is = absurd (some_none (sym is))
entry_works A t c Cleans b pos fit sits is = absurd (some_none (sym is))
entry_works A t c SyncFails b pos fit sits is = absurd (some_none (sym is))
entry_works A t c Ends b pos fit sits is = absurd (some_none (sym is))

-- who has an open hold works on its block, and is serialising
pub record Opens (A : ℕ) (t : TrackerValue) (c : Client) (stage : Stage) (h : Hold) (b : ℕ) : Type 0 where
  pub works : Works A t c stage h.place b
  pub serial : serial A c ≡ true

pub opens_at : (A : ℕ) (t : TrackerValue) (c : Client) (k : ℕ) (step : Step) (j : ℕ) (side : Side) (b : ℕ) → 0 < A → k ≡ j → edge A c side ≡ b → Goes A t c k → Sound c →
    writes c ≡ true → has A c side ≡ true → Opens A t c (In k step) (record { place = j; side = side }) b
opens_at A t c k step j side b pos at here goes sound writing wanted = record {
  works = record {
    at = at;
    goes = subst (λ (n : ℕ). Goes A t c n) at goes;
    sound = sound;
    reach = subst (λ (n : ℕ). Reaches A c n) here (reaches_edge A c side pos sound.some);
  };
  serial = has_serial A c side pos sound.some writing wanted;
}

pub holder_opens : (A : ℕ) (t : TrackerValue) (c : Client) (stage : Stage) (j : ℕ) (side : Side) (b : ℕ) → 0 < A → Shaped A c stage → Seats A t c stage →
    IsHolder A c stage (record { place = j; side = side }) b → Opens A t c stage (record { place = j; side = side }) b
holder_opens A t c (Ready v) j side b pos fit sits is = absurd is
holder_opens A t c Entering j side b pos fit sits is = absurd is
holder_opens A t c (In k ToRoute) j side b pos fit sits is = absurd is.1
holder_opens A t c (In k ToList) j side b pos fit sits is = absurd is.1
holder_opens A t c (In k ToStart) j side b pos fit sits is = absurd is.1
holder_opens A t c (In k (ToLoad n got)) j side b pos fit sits is = absurd is.1
holder_opens A t c (In k (ToHold Head)) j side b pos fit sits is = absurd is.1
holder_opens A t c (In k (ToHold Tail)) j Head b pos fit sits is = opens_at A t c k (ToHold Tail) j Head b pos is.0 is.2 sits fit.sound fit.writing is.1
holder_opens A t c (In k (ToHold Tail)) j Tail b pos fit sits is = absurd is.1
holder_opens A t c (In k (ToStore n)) j Head b pos fit sits is = opens_at A t c k (ToStore n) j Head b pos is.0 is.2 sits fit.sound fit.writing is.1.0
holder_opens A t c (In k (ToStore n)) j Tail b pos fit sits is = opens_at A t c k (ToStore n) j Tail b pos is.0 is.2 sits fit.sound fit.writing is.1
holder_opens A t c (In k (ToFree Head)) j Head b pos fit sits is = opens_at A t c k (ToFree Head) j Head b pos is.0 is.2 sits fit.sound fit.writing fit.wanted
holder_opens A t c (In k (ToFree Head)) j Tail b pos fit sits is = absurd is.1
holder_opens A t c (In k (ToFree Tail)) j Head b pos fit sits is = absurd is.1
holder_opens A t c (In k (ToFree Tail)) j Tail b pos fit sits is = opens_at A t c k (ToFree Tail) j Tail b pos is.0 is.2 sits fit.sound fit.writing fit.wanted
holder_opens A t c (In k (ToSync s)) j side b pos fit sits is = absurd is.1
holder_opens A t c (In k (ToEnd v)) j side b pos fit sits is = absurd is.1

pub is_true : (b : Bool) → b ≡ true → IsTrue b
is_true b e = e

-- two requests that work where both reach, one of them serialising, have one place
pub work_apart : (A : ℕ) (t : TrackerValue) (c d : Client) (j k x : ℕ) → TrackerSound t → Goes A t c j → Goes A t d k → Covers (aligned_out (span_of c) A) x →
    Covers (aligned_out (span_of d) A) x → serial A c ≡ true → j ≡ k
work_apart A t c d j k x sound goes works here there is =
    goes_apart t j k goes.sits.own works.sits.own sound (goes.sits.is, goes.started) (works.sits.is, works.started) (
      (x, (subst (λ (s : Places). Covers s x) (sym goes.sits.span) here, subst (λ (s : Places). Covers s x) (sym works.sits.span) there)),
      inl (is_true goes.sits.own.serial (goes.sits.serial ∙ is)),
    )

-- two requests that work on one block, one of them serialising, are one
pub one_works : (A : ℕ) (w : World) (r s : ℕ) (q p : Req) (j k b : ℕ) → 0 < A → Ok A w → w.req r ≡ Some q → w.req s ≡ Some p → Works A w.tracker q.client q.stage j b →
    Works A w.tracker p.client p.stage k b → serial A q.client ≡ true → (r ≡ s) × (j ≡ k)
one_works A w r s q p j k b pos ok here there own other is =
    let same : j ≡ k = work_apart A w.tracker q.client p.client j k (b * A) ok.tracker own.goes other.goes
    (reached_outward A q.client b pos own.sound.some own.reach) (reached_outward A p.client b pos other.sound.some other.reach) is in
    (ok.one r s q p k here there (subst (λ (n : ℕ). IsAt q.stage n) same own.at) other.at, same)

-- the request that holds a block
pub holder_is : (A : ℕ) (w : World) (r : ℕ) (q : Req) (j b : ℕ) (h : Hold) → 0 < A → Ok A w → w.req r ≡ Some q → Works A w.tracker q.client q.stage j b → w.image.holder b ≡ Some h →
    (j ≡ h.place) × IsHolder A q.client q.stage h b
holder_is A w r q j b h pos ok here works is =
    let o : Owner A w.req h b = ok.owned b h is in
    let old : Well A w.tells w.tracker w.image o.request = ok.well o.number o.request o.is in
    let opens : Opens A w.tracker o.request.client o.request.stage h b = holder_opens A w.tracker o.request.client o.request.stage h.place h.side b pos old.shaped old.seated o.holds in
    let (same, place) = one_works A w o.number r o.request q h.place j b pos ok o.is here opens.works works opens.serial in
    let there : w.req r ≡ Some o.request = subst (λ (n : ℕ). w.req n ≡ Some o.request) same o.is in
    let equal : o.request ≡ q = cc in
    (sym place, subst (λ (x : Req). IsHolder A x.client x.stage h b) equal o.holds)

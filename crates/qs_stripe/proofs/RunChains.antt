-- Runs of a stripe: the disk's steps and the holds' steps, put together.
use Rattle.std.proofs.Common.{◌≡◌, ◌≢◌, ℕ, zero, suc, ◌+◌, ◌-◌, ◌*◌, ◌<◌, ◌≤◌, Bool, false, List, ◌++◌, length, take, drop, refl, sym, ap, subst, ◌∙◌, inl, inr, arith}
use Rattle.std.specs.Prelude.{Option, Some, None}
use Rattle.std.proofs.Math.Nat.{mul-le-mul_right}
use Rattle.std.proofs.lemmas.List.{drop-drop, drop-take, take-take, take_at, length-append, length-take, length-drop}
use Rattle.std.proofs.lemmas.Slice.{take-put_mid_below, drop-put_mid}
use borrow.Rule.Slice.PartMut.{put_mid}
use Rattle.std.proofs.lemmas.Bool.Decides.{eqb_tells}
use Rattle.qs_bytes.specs.Pieces.{part}
use Rattle.qs_outside.specs.Blocks.{Seen}
use Rattle.qs_outside.specs.Runs.{EndsAt, InOrder, IsContent, LoadsAt, LoadsEnd, MayBeStored, IsStored, Refuses, StoresAt, StoresEnd, Writes}
use Rattle.qs_part.specs.declared.stripe.Side.{Side}
use Rattle.qs_part.specs.declared.stripe.Side.TheVariants.{Head, Tail}
use Rattle.qs_stripe.specs.Holds.{IsFreeFor, IsHeld, LetsGo}
use Rattle.qs_stripe.specs.Runs.{IsOver, Loaded, NotLoaded, NotStored, StoredAt, Waits, block_in}
use Rattle.qs_stripe.specs.Table.{StripeValue}

none-some : (c : ℕ) → None ≡ Some c → ⊥
none-some c e = cc

some-same : (x b : ℕ) → Some x ≡ Some b → x ≡ b
some-same x b e = cc

-- what is held behind LetsGo was held before
lets-value : (k b : ℕ) (old new : ℕ → Side → Option ℕ) (j c : ℕ) (side : Side) → LetsGo k b old new → new j side ≡ Some c → j ≡ k
    → (o : Option ℕ) → old j side ≡ o → old j side ≡ Some c
lets-value k b old new j c side goes held same None is =
    sym (goes.others j side (inr (λ e. none-some b (sym is ∙ e)))) ∙ held
lets-value k b old new j c side goes held same (Some x) is = elim (eqb_tells x b) [
  | inl here ↦
      let was : old k side ≡ Some b = subst (λ i. old i side ≡ Some b) same (is ∙ ap (λ y. Some y) here.1) in
      let now : new k side ≡ Some c = subst (λ i. new i side ≡ Some c) same held in
      absurd (none-some c (sym (goes.gone side was) ∙ now))
  | inr other ↦ sym (goes.others j side (inr (λ e. other.1 (some-same x b (sym is ∙ e))))) ∙ held
]

lets-only : (k b : ℕ) (old new : ℕ → Side → Option ℕ) (j c : ℕ) (side : Side) → LetsGo k b old new → new j side ≡ Some c → old j side ≡ Some c
lets-only k b old new j c side goes held = elim (eqb_tells j k) [
  | inl same ↦ lets-value k b old new j c side goes held same.1 (old j side) refl
  | inr other ↦ sym (goes.others j side (inl other.1)) ∙ held
]

held-before : (k b : ℕ) (old new : ℕ → Side → Option ℕ) (j c : ℕ) → LetsGo k b old new → IsHeld new j c → IsHeld old j c
held-before k b old new j c goes (inl held) = inl (lets-only k b old new j c Head goes held)
held-before k b old new j c goes (inr held) = inr (lets-only k b old new j c Tail goes held)

held-behind : (k b : ℕ) (old new : ℕ → Side → Option ℕ) (j c : ℕ) → j ≢ k → LetsGo k b old new → IsHeld old j c → IsHeld new j c
held-behind k b old new j c other goes (inl held) = inl (goes.others j Head (inl other) ∙ held)
held-behind k b old new j c other goes (inr held) = inr (goes.others j Tail (inl other) ∙ held)

-- place k lets go of n blocks in order
abbrev pub Going : ℕ → ℕ → ℕ → (ℕ → Side → Option ℕ) → (ℕ → Side → Option ℕ) → Type 0
Going k b n old new = InOrder (λ i. LetsGo k (b + i)) n old new

going-free : (k b : ℕ) (n : ℕ) (old new : ℕ → Side → Option ℕ) (c : ℕ) → Going k b n old new → IsFreeFor old k c → IsFreeFor new k c
going-free k b zero old new c goes free = subst (λ h. IsFreeFor h k c) (sym goes) free
going-free k b (suc n) old new c goes free = λ j held.
    going-free k b n old goes.0 c goes.1.0 free j (held-before k (b + n) goes.0 new j c goes.1.1 held)

going-held : (k b : ℕ) (n : ℕ) (old new : ℕ → Side → Option ℕ) (j c : ℕ) → j ≢ k → Going k b n old new → IsHeld old j c → IsHeld new j c
going-held k b zero old new j c other goes held = subst (λ h. IsHeld h j c) (sym goes) held
going-held k b (suc n) old new j c other goes held =
    held-behind k (b + n) goes.0 new j c other goes.1.1 (going-held k b n old goes.0 j c other goes.1.0 held)

-- the part of a part
part-part : (xs : List ℕ) (at m i k : ℕ) → i + k ≤ m → part (part xs at m) i k ≡ part xs (at + i) k
part-part xs at m i k fits =
    let split : m ≡ i + (m - i) = omega (arith, fits) in
    ap (take k) (ap (λ n. drop i (take n (drop at xs))) split ∙ drop-take i (m - i) (drop at xs))
    ∙ take-take k (m - i) (drop i (drop at xs)) (omega (arith, fits)) ∙ ap (take k) (drop-drop i at xs)

-- block i of a run of n, in the run's bytes and in the buffer
pub block-part : (align at n i : ℕ) (buf : List ℕ) → i < n → part (part buf at (n * align)) (i * align) align ≡ block_in align at buf i
block-part align at n i buf below =
    let next : (i + 1) * align ≤ n * align = mul-le-mul_right align (omega (arith, below)) in
    part-part buf at (n * align) (i * align) align (omega (arith, next))

-- a stripe behind n steps of a run: its disk, its holds; it is unclean where a store reached the disk
abbrev clean_behind : ℕ → Bool → Bool
clean_behind zero clean = clean
clean_behind (suc n) clean = false

abbrev pub behind : ℕ → StripeValue → Seen → (ℕ → Side → Option ℕ) → StripeValue
behind n old d h = record { disk = d; hold = h; clean = clean_behind n old.clean }

-- the loads of a run
loads-chain : (align b k at all : ℕ) (buf got : List ℕ) (n : ℕ) (old : StripeValue) (d : Seen) → n ≤ all
    → InOrder (LoadsAt align b (part got at (all * align))) n old.disk d → InOrder (Loaded align b k at buf got) n old (record old { disk = d })
loads-chain align b k at all buf got zero old d within steps = ap (λ (x : Seen). record old { disk = x }) steps
loads-chain align b k at all buf got (suc n) old d within steps = (
  record old { disk = steps.0 },
  (
    loads-chain align b k at all buf got n old steps.0 (omega (arith, within)) steps.1.0,
    (steps.1.1.reads, subst (IsContent steps.0 d (b + n)) (block-part align at all n got (omega (arith, within))) steps.1.1.content, refl, refl),
  ),
)

pub loads-run : (align b k at n : ℕ) (buf got : List ℕ) (old : StripeValue) (d : Seen)
    → InOrder (LoadsAt align b (part got at (n * align))) n old.disk d → InOrder (Loaded align b k at buf got) n old (record old { disk = d })
loads-run align b k at n buf got old d = loads-chain align b k at n buf got n old d (omega arith)

pub loads-fault : (align b k at n m : ℕ) (buf got : List ℕ) (old : StripeValue) (d : Seen) → LoadsEnd align b n (part got at (n * align)) m old.disk d
    → EndsAt (Loaded align b k at buf got) (NotLoaded align b k at buf got) m old (record old { disk = d })
loads-fault align b k at n m buf got old d ends =
    let mid : Seen = ends.ends.0 in (
      record old { disk = mid },
      (
        loads-chain align b k at n buf got m old mid (omega (arith, ends.before)) ends.ends.1.0,
        (ends.ends.1.1.reads, subst (Refuses mid d) (block-part align at n m got ends.before) ends.ends.1.1.refuses, refl, refl),
      ),
    )

-- the stores of a run
stores-chain : (align b k at all : ℕ) (buf : List ℕ) (n : ℕ) (old : StripeValue) (d : Seen) (h : ℕ → Side → Option ℕ) → n ≤ all
    → ((i : ℕ) → i < all → IsFreeFor old.hold k (b + i)) → InOrder (StoresAt align b (part buf at (all * align))) n old.disk d → Going k b n old.hold h
    → InOrder (StoredAt align b k at buf) n old (behind n old d h)
stores-chain align b k at all buf zero old d h within free steps goes =
    ap (λ (y : ℕ → Side → Option ℕ). record old { disk = d; hold = y }) goes ∙ ap (λ (x : Seen). record old { disk = x }) steps
stores-chain align b k at all buf (suc n) old d h within free steps goes =
    let mid : Seen = steps.0 in
    let below : n < all = omega (arith, within) in
    let same = block-part align at all n buf below in (
      behind n old mid goes.0,
      (
        stores-chain align b k at all buf n old mid goes.0 (omega (arith, within)) free steps.1.0 goes.1.0,
        (
          going-free k b n old.hold goes.0 (b + n) goes.1.0 (free n below),
          subst (λ x. Writes (b + n) x mid d) same steps.1.1.writes,
          subst (λ x. IsStored (b + n) x mid d) same steps.1.1.stored,
          refl,
          goes.1.1,
          refl,
        ),
      ),
    )

-- a run of one block or more leaves the stripe unclean
unclean : (n : ℕ) (old : StripeValue) (d : Seen) (h : ℕ → Side → Option ℕ) → 1 ≤ n → behind n old d h ≡ record { disk = d; hold = h; clean = false }
unclean zero old d h least = absurd (omega (arith, least))
unclean (suc n) old d h least = refl

pub stores-run : (align b k at n : ℕ) (buf : List ℕ) (old : StripeValue) (d : Seen) (h : ℕ → Side → Option ℕ) → 1 ≤ n
    → ((i : ℕ) → i < n → IsFreeFor old.hold k (b + i)) → InOrder (StoresAt align b (part buf at (n * align))) n old.disk d → Going k b n old.hold h
    → InOrder (StoredAt align b k at buf) n old (record { disk = d; hold = h; clean = false })
stores-run align b k at n buf old d h least free steps goes =
    subst (λ (v : StripeValue). InOrder (StoredAt align b k at buf) n old v) (unclean n old d h least)
    (stores-chain align b k at n buf n old d h (omega arith) free steps goes)

pub stores-fault : (align b k at n m : ℕ) (buf : List ℕ) (old : StripeValue) (d : Seen) (h : ℕ → Side → Option ℕ)
    → ((i : ℕ) → i < n → IsFreeFor old.hold k (b + i)) → StoresEnd align b n (part buf at (n * align)) m old.disk d → Going k b (suc m) old.hold h
    → EndsAt (StoredAt align b k at buf) (NotStored align b k at buf) m old (record { disk = d; hold = h; clean = false })
stores-fault align b k at n m buf old d h free ends goes =
    let mid : Seen = ends.ends.0 in
    let same = block-part align at n m buf ends.before in (
      behind m old mid goes.0,
      (
        stores-chain align b k at n buf m old mid goes.0 (omega (arith, ends.before)) free ends.ends.1.0 goes.1.0,
        (
          going-free k b m old.hold goes.0 (b + m) goes.1.0 (free m ends.before),
          subst (λ x. Writes (b + m) x mid d) same ends.ends.1.1.writes,
          subst (λ x. MayBeStored (b + m) x mid d) same ends.ends.1.1.stored,
          refl,
          goes.1.1,
          refl,
        ),
      ),
    )

-- a hold of another place stands behind the stores of a run
stored-held : (align b k at : ℕ) (buf : List ℕ) (n : ℕ) (old new : StripeValue) (j c : ℕ) → j ≢ k → InOrder (StoredAt align b k at buf) n old new
    → IsHeld old.hold j c → IsHeld new.hold j c
stored-held align b k at buf zero old new j c other steps held = subst (λ (v : StripeValue). IsHeld v.hold j c) (sym steps) held
stored-held align b k at buf (suc n) old new j c other steps held =
    held-behind k (b + n) steps.0.hold new.hold j c other steps.1.1.4 (stored-held align b k at buf n old steps.0 j c other steps.1.0 held)

-- the stores of a run up to a block that another place holds
pub stores-wait : (align b k at : ℕ) (buf : List ℕ) (m j : ℕ) (old new : StripeValue) → j ≢ k → IsHeld old.hold j (b + m)
    → InOrder (StoredAt align b k at buf) m old new → EndsAt (StoredAt align b k at buf) (Waits align b k at buf j) m old new
stores-wait align b k at buf m j old new other held steps =
    (new, (steps, (stored-held align b k at buf m old new j (b + m) other steps held, other, refl, refl)))

-- bytes that are written over a part
over-part : (at n k : ℕ) (buf piece : List ℕ) → at + k ≤ length buf → length piece ≡ k → n ≡ k → IsOver at n buf (put_mid at k buf piece)
over-part at n k buf piece room whole is = record {
  before = take-put_mid_below at k buf piece at (omega arith) (omega (arith, room));
  behind = drop-put_mid at k buf piece (at + n) (omega (arith, is)) (omega (arith, room)) whole;
  same = simp (length-append, length-take, length-drop) (omega arith);
}

-- and a vector whose slice was written
pub over-refilled : (at n k : ℕ) (len : ℕ) (buf bytes piece items got : List ℕ) → bytes ≡ buf → at + k ≤ length buf → length piece ≡ k → n ≡ k → len ≡ length bytes
    → got ≡ take len (put_mid at k bytes piece ++ drop (length (put_mid at k bytes piece)) items) → IsOver at n buf got
over-refilled at n k len buf bytes piece items got same room whole is e filled =
    let longer : at + k ≤ length bytes = rw same room in
    let lengths : len ≡ length (put_mid at k bytes piece) = simp (length-append, length-take, length-drop) (omega arith) in
    let whole_ : got ≡ put_mid at k bytes piece = filled ∙ take_at (put_mid at k bytes piece) _ len (sym lengths) in
    subst (λ xs. IsOver at n xs got) same (subst (λ xs. IsOver at n bytes xs) (sym whole_) (over-part at n k bytes piece longer whole is))

-- The sum of an image, block by block.
use Rattle.std.proofs.Common.{◌≡◌, ℕ, ◌+◌, ◌*◌, ◌%◌, ◌<◌, ◌⊎◌, inl, inr, suc, List, [], ◌∷◌, ◌++◌, length, get_or, refl, sym, ap, ◌∙◌, subst, arith, length-append}
use Rattle.std.specs.Prelude.{map}
use Rattle.std.proofs.Math.Nat.{eq-or-lt_of_le}
use Rattle.std.proofs.Math.Seq.{get_or-append_seam}
use Rattle.std.proofs.lemmas.List.{get_or_append_left}
use Rattle.qs_bytes.specs.Geometry.{stripe_of}
use Rattle.qs_bytes.specs.Pieces.{part}
use Rattle.qs_outside.specs.Blocks.{Seen}
use Rattle.qs_image.specs.Image.{SameDisks}
use Rattle.qs_image.proofs.Striped.{rose_within, same_disks_refl, same_disks_trans, still_tell}
use Rattle.qs_generate.specs.Sums.{weighted}
use Rattle.qs_replay_generated.specs.Summing.{AddsBlock, IsLoaded, Stays, SumsUp, total}

pub nothing : (place : ℕ) → weighted place [] ≡ 0
unfolding weighted
nothing place = refl

-- one block more
total_more : (align place : ℕ) (blocks : List (List ℕ)) (bytes : List ℕ) →
    total align place (blocks ++ bytes ∷ []) ≡ total align place blocks + weighted (place + length blocks * align) bytes
unfolding total
total_more align place [] bytes =
    let at : weighted place bytes ≡ weighted (place + 0 * align) bytes = ap (λ (n : ℕ). weighted n bytes) (omega arith) in
    omega (arith, at)
total_more align place (block ∷ blocks) bytes =
    let inner = total_more align (place + align) blocks bytes in
    let at : weighted (place + align + length blocks * align) bytes ≡ weighted (place + suc (length blocks) * align) bytes = ap (λ (n : ℕ). weighted n bytes) (omega arith) in
    omega (arith, inner, at)

pub stays_refl : (disks : List Seen) → Stays disks disks
stays_refl disks = record { kept = λ _. refl; past = λ _ b. refl; same = same_disks_refl disks }

stays_trans : (old mid new : List Seen) → Stays old mid → Stays mid new → Stays old new
stays_trans old mid new first then = record {
  kept = λ tell. then.kept (still_tell old mid first.same tell) ∙ first.kept tell;
  past = λ tell b. then.past (still_tell old mid first.same tell) b ∙ first.past tell b;
  same = same_disks_trans old mid new first.same then.same;
}

-- what was loaded stays so in later calls
loaded_on : (old mid new : List Seen) (align b : ℕ) (bytes : List ℕ) → SameDisks mid new → IsLoaded old align b bytes mid → IsLoaded old align b bytes new
loaded_on old mid new align b bytes same (inl is) = inl is
loaded_on old mid new align b bytes same (inr failed) =
    inr (failed.0, (failed.1.0, (failed.1.1.0, omega (arith, failed.1.1.1, same.later (stripe_of failed.1.0)))))

-- what was loaded in a later call is what the disks had before
loaded_from : (old mid new : List Seen) (align b : ℕ) (bytes : List ℕ) → Stays old mid → IsLoaded mid align b bytes new → IsLoaded old align b bytes new
loaded_from old mid new align b bytes stays (inl is) =
    inl (is.0, λ tell. is.1 (still_tell old mid stays.same tell) ∙ ap (λ (xs : List ℕ). part xs (b * align) align) (stays.kept tell))
loaded_from old mid new align b bytes stays (inr failed) =
    inr (failed.0, rose_within old mid new (b * align) align (b * align) align stays.same (omega arith) (omega arith) failed.1)

modular : (t w : ℕ) → (t % 18446744073709551616 + w) % 18446744073709551616 ≡ (t + w) % 18446744073709551616
modular t w = omega arith

pub sums_none : {D : Type 0} (seen : D → Seen) (align : ℕ) (disks : List D) → SumsUp seen align 0 disks 0 disks
unfolding total
sums_none seen align disks = record { loaded = []; count = refl; each = λ b below. absurd (omega (arith, below)); sum_is = refl; stays = stays_refl (map seen disks) }

-- one block more was loaded and added
pub sums_more : {D : Type 0} (seen : D → Seen) (align n sum sum' : ℕ) (disks mid new : List D) → SumsUp seen align n disks sum mid →
    AddsBlock (map seen mid) align n sum sum' (map seen new) → SumsUp seen align (n + 1) disks sum' new
sums_more seen align n sum sum' disks mid new so more = record {
  loaded = so.loaded ++ more.bytes ∷ [];
  count = length-append so.loaded (more.bytes ∷ []) ∙ ap (λ (k : ℕ). k + 1) so.count;
  each = λ b below. each b (eq-or-lt_of_le (omega (arith, below)));
  sum_is = more.sum_is
      ∙ ap (λ (s : ℕ). (s + weighted (n * align) more.bytes) % 18446744073709551616) so.sum_is
      ∙ modular (total align 0 so.loaded) (weighted (n * align) more.bytes)
      ∙ ap (λ (s : ℕ). s % 18446744073709551616) (sym (total_more align 0 so.loaded more.bytes ∙ ap (λ (k : ℕ). total align 0 so.loaded + weighted k more.bytes) at));
  stays = stays_trans (map seen disks) (map seen mid) (map seen new) so.stays more.stays;
}
  where
    at : 0 + length so.loaded * align ≡ n * align
    at = ap (λ (k : ℕ). 0 + k * align) so.count ∙ omega arith

    each : (b : ℕ) → (b ≡ n) ⊎ (b < n) → IsLoaded (map seen disks) align b (get_or (so.loaded ++ more.bytes ∷ []) b []) (map seen new)
    each b (inr before) =
        subst (λ (bytes : List ℕ). IsLoaded (map seen disks) align b bytes (map seen new)) (sym (get_or_append_left so.loaded (more.bytes ∷ []) [] b (subst (λ (k : ℕ). b < k) (sym so.count) before)))
        (loaded_on (map seen disks) (map seen mid) (map seen new) align b _ more.stays.same (so.each b before))
    each b (inl is) =
        subst (λ (bytes : List ℕ). IsLoaded (map seen disks) align b bytes (map seen new)) (sym (ap (λ (k : ℕ). get_or (so.loaded ++ more.bytes ∷ []) k []) (is ∙ sym so.count) ∙ get_or-append_seam so.loaded more.bytes [] []))
        (subst (λ (k : ℕ). IsLoaded (map seen disks) align k more.bytes (map seen new)) (sym is) (loaded_from (map seen disks) (map seen mid) (map seen new) align n more.bytes so.stays more.is))

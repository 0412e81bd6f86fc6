-- The numbers that words tell are within their bounds.
use Rattle.std.proofs.Common.{◌≡◌, ℕ, ◌≤◌, ◌⊎◌, Bool, true, false, List, [], ◌∷◌, inl, inr, refl, sym, subst, lit≤}
use Rattle.std.proofs.lemmas.Option.{none-some, same_Some}
use Rattle.std.specs.Prelude.{if◌then◌else◌, Option, Some, None, IfSome, is_some, unwrap_or, String, codes, string_bytes}
use Rattle.std.specs.Str.{bytes_eq}
use Rattle.std.specs.Global.{Global}
use Rattle.qs_replay_words.specs.declared.words.Expected.{Expected}
use Rattle.qs_replay_words.specs.declared.words.Expected.TheVariants.{OptionWord, Blocks, BlockSize, Seed}
use Rattle.qs_replay_words.specs.declared.words.Reading.{Reading}
use Rattle.qs_replay_words.specs.declared.words.ReplayWords.{ReplayWords}
use Rattle.qs_replay_words.specs.Words.{AreRead, IsImageOf, ReadsAt, TellsWords, nothing_read, unless, words_of_reading, whole_by, with_align, with_option}

-- the numbers that were read are within their bounds
record IsWithin (r : Reading) : Type 0 where
  blocks : IfSome r.blocks (λ n. (1 ≤ n) × (n ≤ 65536))
  align : IfSome r.align (λ n. (n ≡ 512) ⊎ (n ≡ 4096))

by_if : {A : Type 0} (P : A → Type 0) (b : Bool) (x y : A) → P x → P y → P (if b then x else y)
by_if P true x y one two = one
by_if P false x y one two = two

option_within : (r : Reading) (word : List ℕ) → IsWithin r → IfSome (with_option r word) IsWithin
option_within r word within =
    let P : Option Reading → Type 0 = λ o. IfSome o IsWithin in
    let one = λ (told : Bool) (n : Expected).
    by_if P told None (Some (record r { next = n })) tt (record { blocks = within.blocks; align = within.align }) in
    by_if P (bytes_eq word (codes "--blocks")) _ _ (one (is_some r.blocks) Blocks)
    (by_if P (bytes_eq word (codes "--align")) _ _ (one (is_some r.align) BlockSize)
    (by_if P (bytes_eq word (codes "--generate")) _ _ (one (is_some r.generate) Seed) tt))

align_within : (r : Reading) (word : List ℕ) → IsWithin r → IfSome (with_align r word) IsWithin
align_within r word within =
    let P : Option Reading → Type 0 = λ o. IfSome o IsWithin in
    by_if P (bytes_eq word (codes "512")) _ _ (record { blocks = within.blocks; align = inl refl })
    (by_if P (bytes_eq word (codes "4096")) _ _ (record { blocks = within.blocks; align = inr refl }) tt)

reads_within : (next : Expected) (r : Reading) (word : List ℕ) (r' : Reading) → ReadsAt next r word r' → IsWithin r → IsWithin r'
reads_within OptionWord r word r' reads within = subst (λ (o : Option Reading). IfSome o IsWithin) reads (option_within r word within)
reads_within Blocks r word r' reads within =
    subst IsWithin (sym reads.leads) (record { blocks = (reads.some, reads.spells.small); align = within.align })
reads_within BlockSize r word r' reads within = subst (λ (o : Option Reading). IfSome o IsWithin) reads (align_within r word within)
reads_within Seed r word r' reads within = subst IsWithin (sym reads.leads) (record { blocks = within.blocks; align = within.align })

are_within : (words : List (String Global)) (r r' : Reading) → AreRead r words r' → IsWithin r → IsWithin r'
unfolding AreRead
are_within [] r r' are within = subst IsWithin (sym are) within
are_within (word ∷ words) r r' are within = are_within words are.0 r' are.1.1 (reads_within r.next r (string_bytes word) are.0 are.1.0 within)

some_of : (o : Option ℕ) → IfSome o (λ n. (1 ≤ n) × (n ≤ 65536)) → (1 ≤ unwrap_or o 64) × (unwrap_or o 64 ≤ 65536)
some_of None is = (lit≤ tt, lit≤ tt)
some_of (Some n) is = is

align_of : (o : Option ℕ) → IfSome o (λ n. (n ≡ 512) ⊎ (n ≡ 4096)) → (unwrap_or o 512 ≡ 512) ⊎ (unwrap_or o 512 ≡ 4096)
align_of None is = inl refl
align_of (Some n) is = is

whole_within : (next : Expected) (r : Reading) (told : ReplayWords) → IsWithin r → whole_by next r ≡ Some told → IsImageOf told
whole_within OptionWord r told within is =
    subst IsImageOf (same_Some _ _ is) (record { some = (some_of r.blocks within.blocks).0; few = (some_of r.blocks within.blocks).1; align = align_of r.align within.align })
whole_within Blocks r told within is = absurd (none-some told is)
whole_within BlockSize r told within is = absurd (none-some told is)
whole_within Seed r told within is = absurd (none-some told is)

pub image_of : (words : List (String Global)) (told : ReplayWords) → TellsWords words told → IsImageOf told
image_of words told tells =
    whole_within tells.0.next tells.0 told (are_within words nothing_read tells.0 tells.1.0 (record { blocks = tt; align = tt })) tells.1.1

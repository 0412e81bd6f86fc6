-- Words, and the first place of a byte.
use Rattle.std.proofs.Common.{◌≡◌, ℕ, ◌<◌, ◌≤◌, zero, suc, Bool, true, false, cond, List, [], ◌∷◌, ◌++◌}
use Rattle.std.proofs.Common.{length, get_or, take, drop, length-take, refl, sym, ap, ◌∙◌, subst, arith, eq-eqb}
use Rattle.std.proofs.lemmas.Bool.{ne_eqb}
use Rattle.std.proofs.lemmas.List.Elements.{All-cons, All-nil}
use Rattle.std.proofs.lemmas.List.{get_or-take, length-append}
use Rattle.std.proofs.Math.ListN.{get_or-append}
use Rattle.std.proofs.Math.Seq.{get_or-append_seam, take-append_seam}
use Rattle.std.specs.Prelude.{◌==◌, All}
use Rattle.std.specs.List.{onto_first}
use Rattle.qs_script.specs.Finds.{HasNo, IsFirst}
use Rattle.qs_script.specs.Lines.{words_of}
use Rattle.qs_script.specs.SessionNames.{IsSessionName}
use Rattle.qs_script.specs.Spelled.{SpellsActor, SpellsNumber, greatest}
use Rattle.qs_script.specs.declared.actor.ScriptActor.{ScriptActor}
use Rattle.qs_script.specs.declared.actor.ScriptActor.TheVariants as actor

-- a text without a space is one word
pub split_none : (text : List ℕ) → HasNo 32 text → words_of text ≡ text ∷ []
split_none [] absent = refl
split_none (x ∷ xs) absent =
    let e = ne_eqb x 32 (absent 0 (omega arith)) in
    let rest : HasNo 32 xs = λ k inside. absent (suc k) (omega arith) in
    rw e (ap (onto_first x) (split_none xs rest))

-- the words of a text, at its first space
pub split_first : (text : List ℕ) (at : ℕ) → IsFirst 32 text at → words_of text ≡ take at text ∷ words_of (drop (suc at) text)
split_first [] at is = absurd (let inside = is.inside in omega arith)
split_first (x ∷ xs) zero is = rw (eq-eqb x 32 is.here) refl
split_first (x ∷ xs) (suc at) is =
    let e = ne_eqb x 32 (is.before 0 (omega arith)) in
    let inner : IsFirst 32 xs at = record {
      inside = let inside = is.inside in omega arith;
      here = is.here;
      before = λ k h. is.before (suc k) (omega arith);
    } in
    rw e (ap (onto_first x) (split_first xs at inner))

-- a text has a word
pub some_word : (text : List ℕ) → 0 < length (words_of text)
some_word [] = omega arith
some_word (x ∷ xs) =
    elim (x == 32) as (λ (b : Bool). 0 < length (cond b ([] ∷ words_of xs) (onto_first x (words_of xs)))) [
      | true ↦ omega arith
      | false ↦ one_on x (words_of xs)
    ]
  where
    one_on : (y : ℕ) (ws : List (List ℕ)) → 0 < length (onto_first y ws)
    one_on y [] = omega arith
    one_on y (w ∷ ws) = omega arith

-- the only word of a text is the text
pub only_word : (text word : List ℕ) → words_of text ≡ word ∷ [] → text ≡ word
only_word [] word e = cc
only_word (x ∷ xs) word e =
    elim (x == 32) as (λ (b : Bool). cond b ([] ∷ words_of xs) (onto_first x (words_of xs)) ≡ word ∷ [] → x ∷ xs ≡ word) [
      | true ↦ λ f. absurd (let some = some_word xs in omega (arith, some, ap length f))
      | false ↦ λ f. joined (words_of xs) refl (only_word xs) f
    ] e
  where
    joined : (ws : List (List ℕ)) → words_of xs ≡ ws → ((w : List ℕ) → words_of xs ≡ w ∷ [] → xs ≡ w) → onto_first x ws ≡ word ∷ [] → x ∷ xs ≡ word
    joined [] f same g = absurd (let some = some_word xs in omega (arith, some, ap length f))
    joined (w ∷ []) f same g = let whole = same w f in cc
    joined (w ∷ v ∷ ws) f same g = absurd (omega (arith, ap length g))

none_in : (byte : ℕ) → HasNo byte []
none_in byte = λ k inside. absurd (omega arith)

none_onto : (byte x : ℕ) (xs : List ℕ) → (x ≡ byte → ⊥) → HasNo byte xs → HasNo byte (x ∷ xs)
none_onto byte x xs other absent = λ k. elim k as (λ (k : ℕ). k < length (x ∷ xs) → get_or (x ∷ xs) k 0 ≡ byte → ⊥) [
  | zero ↦ λ inside. other
  | suc j ↦ λ inside. absent j (omega arith)
]

onto_lacks : (byte x : ℕ) (words : List (List ℕ)) → (x ≡ byte → ⊥) → All (HasNo byte) words → All (HasNo byte) (onto_first x words)
onto_lacks byte x [] other lack = All-cons (HasNo byte) (x ∷ []) [] (none_onto byte x [] other (none_in byte)) lack
onto_lacks byte x (word ∷ words) other lack =
    let rest : All (HasNo byte) words = λ k d inside. lack (suc k) d (omega arith) in
    All-cons (HasNo byte) (x ∷ word) words (none_onto byte x word other (lack 0 [] (omega arith))) rest

-- a byte that a text lacks stands in none of its words
pub words_lack : (byte : ℕ) (text : List ℕ) → HasNo byte text → All (HasNo byte) (words_of text)
words_lack byte [] absent = All-cons (HasNo byte) [] [] (none_in byte) (All-nil (HasNo byte))
words_lack byte (x ∷ xs) absent =
    let rest = words_lack byte xs (λ k inside. absent (suc k) (omega arith)) in
    elim (x == 32) as (λ (b : Bool). All (HasNo byte) (cond b ([] ∷ words_of xs) (onto_first x (words_of xs)))) [
      | true ↦ All-cons (HasNo byte) [] (words_of xs) (none_in byte) rest
      | false ↦ onto_lacks byte x (words_of xs) (absent 0 (omega arith)) rest
    ]

pub no_end : (piece : List ℕ) (count at : ℕ) → IsFirst 10 (take count piece) at → at < count → at ≤ length piece → HasNo 10 (take at piece)
no_end piece count at is in_count in_piece = λ k inside ten.
    let below : k < at = grind (arith, length-take, inside) in
    is.before k below (get_or-take count piece k 0 (omega arith) ∙ sym (get_or-take at piece k 0 below) ∙ ten)

-- a session's name has no dot
pub name_no_dot : (s : List ℕ) → IsSessionName s → HasNo 46 s
name_no_dot [] is = absurd is
name_no_dot (x ∷ xs) is = λ k. elim k as (λ (k : ℕ). k < length (x ∷ xs) → get_or (x ∷ xs) k 0 ≡ 46 → ⊥) [
  | zero ↦ λ inside dot. let upper = is.1 in omega arith
  | suc j ↦ λ inside dot. let small = is.2 j 0 (omega arith) in omega arith
]

-- the first sign behind a word that lacks it is right behind it
pub sign_at : (sign : ℕ) (word s rest : List ℕ) (at : ℕ) → IsFirst sign word at → HasNo sign s → word ≡ s ++ sign ∷ rest → at ≡ length s
sign_at sign word s rest at is absent whole =
    let not_before : at < length s → ⊥ =
    λ h. absent at h (sym (get_or-append s (sign ∷ rest) 0 at h) ∙ ap (λ (w : List ℕ). get_or w at 0) (sym whole) ∙ is.here) in
    let not_behind : length s < at → ⊥ = λ h. is.before (length s) h (ap (λ (w : List ℕ). get_or w (length s) 0) whole ∙ get_or-append_seam s sign rest 0) in
    omega arith

pub drop_behind : (s : List ℕ) (byte : ℕ) (digits : List ℕ) → drop (suc (length s)) (s ++ byte ∷ digits) ≡ digits
drop_behind [] byte digits = refl
drop_behind (x ∷ xs) byte digits = drop_behind xs byte digits

-- a word without a dot spells no actor but a session
pub no_dot : (word : List ℕ) → HasNo 46 word → (IsSessionName word → ⊥) → (who : ScriptActor) → SpellsActor word who → ⊥
no_dot word absent bad (actor.Session s) is = bad (subst IsSessionName (sym is.0) is.1)
no_dot word absent bad (actor.Request s c) is =
    let inside : length s < length word = omega (arith, ap length is.1.0, length-append s (46 ∷ is.0)) in
    absent (length s) inside (ap (λ (w : List ℕ). get_or w (length s) 0) is.1.0 ∙ get_or-append_seam s 46 is.0 0)

-- a word that spells an actor has the session before its first dot, and the cookie behind it
pub dotted : (word : List ℕ) (at : ℕ) → IsFirst 46 word at → (who : ScriptActor) → SpellsActor word who →
    IsSessionName (take at word) × ((n : ℕ) × SpellsNumber greatest (drop (suc at) word) n)
dotted word at first (actor.Session s) is = absurd (name_no_dot word (subst IsSessionName (sym is.0) is.1) at first.inside first.here)
dotted word at first (actor.Request s c) is =
    let at_is : at ≡ length s = sign_at 46 word s is.0 at first (name_no_dot s is.1.1) is.1.0 in
    let front : take at word ≡ s =
    ap (λ (n : ℕ). take n word) at_is ∙ ap (λ (w : List ℕ). take (length s) w) is.1.0 ∙ take-append_seam s (46 ∷ is.0) in
    let back : drop (suc at) word ≡ is.0 =
    ap (λ (n : ℕ). drop (suc n) word) at_is ∙ ap (λ (w : List ℕ). drop (suc (length s)) w) is.1.0 ∙ drop_behind s 46 is.0 in
    let spells : List ℕ → Type 0 = λ digits. SpellsNumber greatest digits c in
    (subst IsSessionName (sym front) is.1.1, (c, subst spells (sym back) is.1.2))

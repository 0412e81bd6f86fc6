-- Pairs `B=N`, and words that spell them.
use Rattle.std.proofs.Common.{◌≡◌, ℕ, ◌<◌, suc, List, [], ◌∷◌, ◌++◌, take, drop, length, get_or, refl, sym, ap, ◌∙◌, subst, arith, length-append}
use Rattle.std.proofs.lemmas.List.{append_assoc, append-nil}
use Rattle.std.proofs.Math.Seq.{get_or-append_seam, take-append_seam}
use Rattle.qs_script.specs.Finds.{HasNo, IsFirst}
use Rattle.qs_script.specs.Spelled.{IsPicksFault, SpellPicks, SpellsNumber, SpellsPick, greatest}
use Rattle.qs_script.specs.declared.picks.PicksFault.{PicksFault}
use Rattle.qs_script.specs.declared.picks.PicksFault.TheVariants as fault
use Rattle.qs_script.proofs.Digits.{spelled_plain}
use Rattle.qs_script.proofs.Splitting.{drop_behind, sign_at}

-- digits have no `=`
pub no_equals : (word : List ℕ) (n : ℕ) → SpellsNumber greatest word n → HasNo 61 word
no_equals word n is = λ k inside equals.
    let digit = (spelled_plain greatest word n (omega arith) is).digits k inside in omega (arith, digit, equals)

-- a word without `=` spells no pair
pub no_sign : (word : List ℕ) → HasNo 61 word → (pick : ℕ × ℕ) → SpellsPick word pick → ⊥
no_sign word absent pick is =
    let inside : length is.block < length word = omega (arith, ap length is.whole, length-append is.block (61 ∷ is.place)) in
    absent (length is.block) inside (ap (λ (w : List ℕ). get_or w (length is.block) 0) is.whole ∙ get_or-append_seam is.block 61 is.place 0)

-- a word that spells a pair has its numbers before the first `=` and behind it
pub parted : (word : List ℕ) (at : ℕ) → IsFirst 61 word at → (pick : ℕ × ℕ) → SpellsPick word pick →
    SpellsNumber greatest (take at word) pick.0 × SpellsNumber greatest (drop (suc at) word) pick.1
parted word at first pick is =
    let at_is : at ≡ length is.block = sign_at 61 word is.block is.place at first (no_equals is.block pick.0 is.block_is) is.whole in
    let front : take at word ≡ is.block =
    ap (λ (n : ℕ). take n word) at_is ∙ ap (λ (w : List ℕ). take (length is.block) w) is.whole ∙ take-append_seam is.block (61 ∷ is.place) in
    let back : drop (suc at) word ≡ is.place =
    ap (λ (n : ℕ). drop (suc n) word) at_is ∙ ap (λ (w : List ℕ). drop (suc (length is.block)) w) is.whole ∙ drop_behind is.block 61 is.place in
    let spells : ℕ → List ℕ → Type 0 = λ n w. SpellsNumber greatest w n in
    (subst (spells pick.0) (sym front) is.block_is, subst (spells pick.1) (sym back) is.place_is)

-- two rows of words, and the pairs of both
joined : (front rest : List (List ℕ)) (ps qs : List (ℕ × ℕ)) → SpellPicks front ps → SpellPicks rest qs → SpellPicks (front ++ rest) (ps ++ qs)
joined [] rest [] qs x y = y
joined [] rest (p ∷ ps) qs x y = absurd x
joined (word ∷ front) rest [] qs x y = absurd x
joined (word ∷ front) rest (p ∷ ps) qs x y = (x.0, joined front rest ps qs x.1 y)

-- what two rows of words spell, the second spells in part
behind : (front rest : List (List ℕ)) (qs : List (ℕ × ℕ)) → SpellPicks (front ++ rest) qs → (ps : List (ℕ × ℕ)) × SpellPicks rest ps
behind [] rest qs x = (qs, x)
behind (word ∷ front) rest [] x = absurd x
behind (word ∷ front) rest (q ∷ qs) x = behind front rest qs x.1

-- the words before those that are left spell these pairs
pub record IsSoFar (whole : List (List ℕ)) (ps : List (ℕ × ℕ)) (left : List (List ℕ)) : Type 0 where
  pub front : List (List ℕ)
  pub whole_is : whole ≡ front ++ left
  pub spelled : SpellPicks front ps

pub so_far_none : (whole : List (List ℕ)) → IsSoFar whole [] whole
so_far_none whole = record { front = []; whole_is = refl; spelled = tt }

-- what is left has a first word
pub so_far_cut : {whole left : List (List ℕ)} {ps : List (ℕ × ℕ)} {word : List ℕ} {rest : List (List ℕ)} → IsSoFar whole ps left →
    left ≡ word ∷ rest → IsSoFar whole ps (word ∷ rest)
so_far_cut {whole} {ps} is e = subst (IsSoFar whole ps) e is

pub so_far_more : (whole : List (List ℕ)) (ps : List (ℕ × ℕ)) (word : List ℕ) (rest : List (List ℕ)) (p : ℕ × ℕ) →
    IsSoFar whole ps (word ∷ rest) → SpellsPick word p → IsSoFar whole (ps ++ p ∷ []) rest
so_far_more whole ps word rest p is one = record {
  front = is.front ++ word ∷ [];
  whole_is = is.whole_is ∙ sym (append_assoc is.front (word ∷ []) rest);
  spelled = joined is.front (word ∷ []) ps (p ∷ []) is.spelled (one, tt);
}

pub so_far_all : (whole : List (List ℕ)) (ps : List (ℕ × ℕ)) → IsSoFar whole ps [] → SpellPicks whole ps
so_far_all whole ps is =
    let spells : List (List ℕ) → Type 0 = λ words. SpellPicks words ps in
    subst spells (sym (is.whole_is ∙ append-nil is.front)) is.spelled

-- what is left spells nothing, so the whole spells nothing
pub so_far_bad : (whole : List (List ℕ)) (ps : List (ℕ × ℕ)) (left : List (List ℕ)) → IsSoFar whole ps left →
    ((qs : List (ℕ × ℕ)) → SpellPicks left qs → ⊥) → (qs : List (ℕ × ℕ)) → SpellPicks whole qs → ⊥
so_far_bad whole ps left is bad qs x =
    let spells : List (List ℕ) → Type 0 = λ words. SpellPicks words qs in
    let rest = behind is.front left qs (subst spells is.whole_is x) in
    bad rest.0 rest.1

-- a word that spells no pair
pub bad_word : (word : List ℕ) (rest : List (List ℕ)) → ((p : ℕ × ℕ) → SpellsPick word p → ⊥) → (qs : List (ℕ × ℕ)) → SpellPicks (word ∷ rest) qs → ⊥
bad_word word rest bad [] x = absurd x
bad_word word rest bad (q ∷ qs) x = bad q x.0

-- why the words behind a pair aren't read, the whole isn't
pub so_far_fault : (whole : List (List ℕ)) (ps : List (ℕ × ℕ)) (left : List (List ℕ)) (why : PicksFault) → IsSoFar whole ps left →
    IsPicksFault (SpellPicks left) why → IsPicksFault (SpellPicks whole) why
so_far_fault whole ps left fault.OutOfForm is bad = so_far_bad whole ps left is bad
so_far_fault whole ps left fault.Memory is spelled =
    let spells : List (List ℕ) → Type 0 = λ words. SpellPicks words (ps ++ spelled.0) in
    (ps ++ spelled.0, subst spells (sym is.whole_is) (joined is.front left ps spelled.0 is.spelled spelled.1))

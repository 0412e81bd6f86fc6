-- One text spells one line.
use Rattle.std.proofs.Common.{◌≡◌, ℕ, ◌+◌, ◌<◌, ◌≤◌, ◌^◌, suc, Bool, true, false, cond, List, [], ◌∷◌, ◌++◌}
use Rattle.std.proofs.Common.{length, get_or, refl, sym, ap, ◌∙◌, subst, arith, inl, inr, length-append}
use Rattle.std.specs.Prelude.{◌==◌, codes, replicate}
use Rattle.std.specs.List.{onto_first}
use Rattle.std.proofs.Math.Seq.{get_or-append_seam}
use Rattle.hex.proofs.HexLemmas.{decode_of-ok}
use Rattle.qs_outside.specs.declared.rigged_disk.Fail.{Fail}
use Rattle.qs_outside.specs.declared.rigged_disk.Fail.TheVariants as fail
use Rattle.qs_bytes.specs.Payloads.{max_payload}
use Rattle.qs_outside.specs.declared.crash.CrashChoice.{CrashChoice}
use Rattle.qs_script.specs.Finds.{HasNo}
use Rattle.qs_script.specs.Lines.{Asks, AsksLength, Drives, IsQuiet, ReadsLine, WordsSpell, words_of}
use Rattle.qs_script.specs.SessionNames.{IsSessionName}
use Rattle.qs_script.specs.Spelled.{Repeats, SpellsActor, SpellsData, SpellsNumber, SpellsPick, SpellPicks, fail_word, greatest, greatest_length, nothing, repeated, pairs}
use Rattle.qs_script.specs.declared.actor.ScriptActor.{ScriptActor}
use Rattle.qs_script.specs.declared.actor.ScriptActor.TheVariants as actor
use Rattle.qs_script.specs.declared.line.Line.{Line}
use Rattle.qs_script.specs.declared.line.Line.TheVariants as line
use Rattle.qs_script.proofs.DataWords.{starred, pair_is_two, no_star, spelled_star}
use Rattle.qs_script.proofs.Digits.{spelled_value}
use Rattle.qs_script.proofs.Picking.{no_equals}
use Rattle.qs_script.proofs.Reading.{one_fua}
use Rattle.qs_script.proofs.Splitting.{name_no_dot}

one_number : (most : ℕ) (word : List ℕ) (n m : ℕ) → most < 2 ^ 64 → SpellsNumber most word n → SpellsNumber most word m → n ≡ m
one_number most word n m small a b = sym (spelled_value most word n small a) ∙ spelled_value most word m small b

-- a name has no dot behind it
no_dot_in : (word s digits : List ℕ) → IsSessionName word → word ≡ s ++ 46 ∷ digits → ⊥
no_dot_in word s digits name e =
    let inside : length s < length word = omega (arith, ap length e, length-append s (46 ∷ digits)) in
    name_no_dot word name (length s) inside (ap (λ (w : List ℕ). get_or w (length s) 0) e ∙ get_or-append_seam s 46 digits 0)

-- the first byte of a kind parts a word
one_front : (byte : ℕ) (s t d f : List ℕ) → HasNo byte s → HasNo byte t → s ++ byte ∷ d ≡ t ++ byte ∷ f → (s ≡ t) × (d ≡ f)
one_front byte [] [] d f bare bare' e = (refl, cc)
one_front byte [] (y ∷ t) d f bare bare' e = absurd (bare' 0 (omega arith) (sym (ap (λ (w : List ℕ). get_or w 0 0) e)))
one_front byte (x ∷ s) [] d f bare bare' e = absurd (bare 0 (omega arith) (ap (λ (w : List ℕ). get_or w 0 0) e))
one_front byte (x ∷ s) (y ∷ t) d f bare bare' e =
    let inner : s ++ byte ∷ d ≡ t ++ byte ∷ f = cc in
    let first : x ≡ y = cc in
    let rest = one_front byte s t d f (λ k inside. bare (suc k) (omega arith)) (λ k inside. bare' (suc k) (omega arith)) inner in
    let rest_is = rest.0 in
    (cc, rest.1)

one_actor : (word : List ℕ) (a b : ScriptActor) → SpellsActor word a → SpellsActor word b → a ≡ b
one_actor word (actor.Session s) (actor.Session t) x y = ap actor.Session (sym x.0 ∙ y.0)
one_actor word (actor.Session s) (actor.Request t d) x y = absurd (no_dot_in word t y.0 (subst IsSessionName (sym x.0) x.1) y.1.0)
one_actor word (actor.Request s c) (actor.Session t) x y = absurd (no_dot_in word s x.0 (subst IsSessionName (sym y.0) y.1) x.1.0)
one_actor word (actor.Request s c) (actor.Request t d) x y =
    let parts = one_front 46 s t x.0 y.0 (name_no_dot s x.1.1) (name_no_dot t y.1.1) (sym x.1.0 ∙ y.1.0) in
    let front = parts.0 in
    let number = one_number greatest x.0 c d (omega arith) x.1.2 (subst (λ (w : List ℕ). SpellsNumber greatest w d) (sym parts.1) y.1.2) in
    cc

one_repeat : (pair digits xs ys : List ℕ) → Repeats pair digits xs → Repeats pair digits ys → xs ≡ ys
one_repeat pair digits xs ys a b =
    let one = a.one in
    let other = b.one in
    let byte : a.byte ≡ b.byte = cc in
    let count = one_number max_payload digits a.count b.count (omega arith) a.times b.times in
    a.is ∙ ap (λ (n : ℕ). replicate n a.byte) count ∙ ap (replicate b.count) byte ∙ sym b.is

-- `-` has no pairs of digits, and no star
minus_pairs : (word ys : List ℕ) → word ≡ codes "-" → SpellsData word ys → ys ≡ []
minus_pairs word ys e (nothing f b) = b
minus_pairs word ys e (repeated pair digits f r) =
    let long = (starred word pair digits f (pair_is_two pair r.byte r.one)).long in absurd (omega (arith, long, ap length e))
minus_pairs word ys e (pairs some f) = absurd (let twice = (decode_of-ok word ys f).2 in omega (arith, twice, ap length e))

one_data : (word xs ys : List ℕ) → SpellsData word xs → SpellsData word ys → xs ≡ ys
one_data word xs ys (nothing e b) y = b ∙ sym (minus_pairs word ys e y)
one_data word xs ys (repeated pair digits e r) y =
    let parts = starred word pair digits e (pair_is_two pair r.byte r.one) in
    one_repeat _ _ xs ys (spelled_star word parts.long parts.star xs (repeated pair digits e r)) (spelled_star word parts.long parts.star ys y)
one_data word xs ys (pairs some e) (nothing f b) = minus_pairs word xs f (pairs some e) ∙ sym b
one_data word xs ys (pairs some e) (repeated pair digits f r) =
    let parts = starred word pair digits f (pair_is_two pair r.byte r.one) in absurd (no_star word xs e parts.long parts.star)
one_data word xs ys (pairs some e) (pairs more f) = cc

-- the same actor, at the same reading
record SameDrive (a b : ScriptActor) (n m : ℕ) : Type 0 where
  actor_is : a ≡ b
  now_is : n ≡ m

driven_same : (make : ScriptActor → ℕ → Line) {a b : ScriptActor} {n m : ℕ} → SameDrive a b n m → make a n ≡ make b m
driven_same make {b = b} {n = n} is = ap (λ (who : ScriptActor). make who n) is.actor_is ∙ ap (make b) is.now_is

one_drive : (v : List ℕ) (words : List (List ℕ)) (a b : ScriptActor) (n m : ℕ) → Drives v words a n → Drives v words b m → SameDrive a b n m
one_drive v words a b n m x y = elim x.rest [
  | inl bare ↦ elim y.rest [
    | inl bare' ↦ let e = bare.0 in let e' = bare'.0 in record { actor_is = same (cc); now_is = bare.1 ∙ sym bare'.1 }
    | inr timed ↦ let e = bare.0 in let e' = timed.1.0 in absurd (cc)
  ]
  | inr timed ↦ elim y.rest [
    | inl bare ↦ let e = bare.0 in let e' = timed.1.0 in absurd (cc)
    | inr timed' ↦
        let e = timed.1.0 in
        let e' = timed'.1.0 in
        let digits : timed.0 ≡ timed'.0 = cc in
        record {
          actor_is = same (cc);
          now_is = one_number greatest timed.0 n m (omega arith) timed.1.1 (subst (λ (w : List ℕ). SpellsNumber greatest w m) (sym digits) timed'.1.1);
        }
  ]
]
  where
    same : x.who ≡ y.who → a ≡ b
    same e = one_actor x.who a b x.actor_is (subst (λ (w : List ℕ). SpellsActor w b) (sym e) y.actor_is)

-- the same session, cookie and offset, the same last word, and the same flag
record SameAsk (s s' : List ℕ) (c c' o o' : ℕ) (last last' : List ℕ) (fua fua' : Bool) : Type 0 where
  session_is : s ≡ s'
  cookie_is : c ≡ c'
  offset_is : o ≡ o'
  last_is : last ≡ last'
  fua_is : fua ≡ fua'

asked_same : {X : Type 0} (make : List ℕ → ℕ → ℕ → X → Bool → Line) {s s' : List ℕ} {c c' o o' : ℕ} {last last' : List ℕ} {x x' : X} {fua fua' : Bool} →
    SameAsk s s' c c' o o' last last' fua fua' → x ≡ x' → make s c o x fua ≡ make s' c' o' x' fua'
asked_same make is e = let a = is.session_is in let b = is.cookie_is in let c = is.offset_is in let d = is.fua_is in cc

one_asks : (v : List ℕ) (words : List (List ℕ)) (s s' : List ℕ) (c c' o o' : ℕ) (last last' : List ℕ) (fua fua' : Bool) →
    Asks v words s c o last fua → Asks v words s' c' o' last' fua' → SameAsk s s' c c' o o' last last' fua fua'
one_asks v words s s' c c' o o' last last' fua fua' x y =
    let e = x.whole in
    let e' = y.whole in
    let cookie : x.cookie_word ≡ y.cookie_word = cc in
    let offset : x.offset_word ≡ y.offset_word = cc in
    let spells : ℕ → List ℕ → Type 0 = λ n w. SpellsNumber greatest w n in
    record {
      session_is = cc;
      cookie_is = one_number greatest x.cookie_word c c' (omega arith) x.place.2 (subst (spells c') (sym cookie) y.place.2);
      offset_is = one_number greatest x.offset_word o o' (omega arith) x.place.3 (subst (spells o') (sym offset) y.place.3);
      last_is = cc;
      fua_is = one_fua fua fua' (cc);
    }

-- two requests of one length, by the same words
one_sized : (make : List ℕ → ℕ → ℕ → ℕ → Bool → Line) (v : List ℕ) (words : List (List ℕ)) (s s' : List ℕ) (c c' o o' n n' : ℕ) (fua fua' : Bool) →
    AsksLength v words s c o n fua → AsksLength v words s' c' o' n' fua' → make s c o n fua ≡ make s' c' o' n' fua'
one_sized make v words s s' c c' o o' n n' fua fua' is is' =
    let x = one_asks v words s s' c c' o o' is.0 is'.0 fua fua' is.1.0 is'.1.0 in
    let spells : List ℕ → Type 0 = λ w. SpellsNumber greatest_length w n' in
    asked_same make x (one_number greatest_length is.0 n n' (omega arith) is.1.1 (subst spells (sym x.last_is) is'.1.1))

-- two letters that tell the failures' words apart
two_of : List ℕ → ℕ
two_of word = get_or word 1 0 + get_or word 6 0

one_kind : (a b : Fail) → fail_word a ≡ fail_word b → a ≡ b
unfolding two_of
one_kind fail.Load fail.Load e = refl
one_kind fail.Load fail.StoreOld e = absurd (omega (arith, ap two_of e))
one_kind fail.Load fail.StoreNew e = absurd (omega (arith, ap two_of e))
one_kind fail.Load fail.Sync e = absurd (omega (arith, ap two_of e))
one_kind fail.StoreOld fail.Load e = absurd (omega (arith, ap two_of e))
one_kind fail.StoreOld fail.StoreOld e = refl
one_kind fail.StoreOld fail.StoreNew e = absurd (omega (arith, ap two_of e))
one_kind fail.StoreOld fail.Sync e = absurd (omega (arith, ap two_of e))
one_kind fail.StoreNew fail.Load e = absurd (omega (arith, ap two_of e))
one_kind fail.StoreNew fail.StoreOld e = absurd (omega (arith, ap two_of e))
one_kind fail.StoreNew fail.StoreNew e = refl
one_kind fail.StoreNew fail.Sync e = absurd (omega (arith, ap two_of e))
one_kind fail.Sync fail.Load e = absurd (omega (arith, ap two_of e))
one_kind fail.Sync fail.StoreOld e = absurd (omega (arith, ap two_of e))
one_kind fail.Sync fail.StoreNew e = absurd (omega (arith, ap two_of e))
one_kind fail.Sync fail.Sync e = refl

one_fail : (words : List (List ℕ)) (stripe stripe' : ℕ) (kind kind' : Fail) →
    WordsSpell words (line.Fail stripe kind) → WordsSpell words (line.Fail stripe' kind') → line.Fail stripe kind ≡ line.Fail stripe' kind'
one_fail words stripe stripe' kind kind' x y =
    let e = x.1.0 in
    let e' = y.1.0 in
    let digits : x.0 ≡ y.0 = cc in
    let same = one_kind kind kind' (cc) in
    let number = one_number 7 x.0 stripe stripe' (omega arith) x.1.1 (subst (λ (w : List ℕ). SpellsNumber 7 w stripe') (sym digits) y.1.1) in
    cc

one_flush : (words : List (List ℕ)) (s s' : List ℕ) (c c' : ℕ) → WordsSpell words (line.Flush s c) → WordsSpell words (line.Flush s' c') →
    line.Flush s c ≡ line.Flush s' c'
one_flush words s s' c c' x y =
    let e = x.1.0 in
    let e' = y.1.0 in
    let digits : x.0 ≡ y.0 = cc in
    let number = one_number greatest x.0 c c' (omega arith) x.1.2 (subst (λ (w : List ℕ). SpellsNumber greatest w c') (sym digits) y.1.2) in
    cc

-- the pairs of a word, by its sign `=`
one_pick : (word : List ℕ) (a b : ℕ × ℕ) → SpellsPick word a → SpellsPick word b → a ≡ b
one_pick word a b x y =
    let parts = one_front 61 x.block y.block x.place y.place (no_equals x.block a.0 x.block_is) (no_equals y.block b.0 y.block_is) (sym x.whole ∙ y.whole) in
    let spells : ℕ → List ℕ → Type 0 = λ n w. SpellsNumber greatest w n in
    let block = one_number greatest x.block a.0 b.0 (omega arith) x.block_is (subst (spells b.0) (sym parts.0) y.block_is) in
    let place = one_number greatest x.place a.1 b.1 (omega arith) x.place_is (subst (spells b.1) (sym parts.1) y.place_is) in
    let with_place : ℕ → ℕ × ℕ = λ n. (b.0, n) in
    let with_block : ℕ → ℕ × ℕ = λ n. (n, a.1) in
    ap with_block block ∙ ap with_place place

one_picks : (words : List (List ℕ)) (a b : List (ℕ × ℕ)) → SpellPicks words a → SpellPicks words b → a ≡ b
one_picks [] [] [] x y = refl
one_picks [] [] (q ∷ qs) x y = absurd y
one_picks [] (p ∷ ps) b x y = absurd x
one_picks (word ∷ words) [] b x y = absurd x
one_picks (word ∷ words) (p ∷ ps) [] x y = absurd y
one_picks (word ∷ words) (p ∷ ps) (q ∷ qs) x y =
    let first = one_pick word p q x.0 y.0 in
    let rest = one_picks words ps qs x.1 y.1 in
    cc

one_crash : (words : List (List ℕ)) (a b : CrashChoice) → WordsSpell words (line.Crash a) → WordsSpell words (line.Crash b) → a ≡ b
one_crash words a b x y =
    let e = x.1.1.0 in
    let e' = y.1.1.0 in
    let digits : x.0 ≡ y.0 = cc in
    let pairs : x.1.0 ≡ y.1.0 = cc in
    let rest = one_number greatest x.0 a.rest b.rest (omega arith) x.1.1.1 (subst (λ (w : List ℕ). SpellsNumber greatest w b.rest) (sym digits) y.1.1.1) in
    let picks = one_picks x.1.0 a.picks b.picks x.1.1.2 (subst (λ (ws : List (List ℕ)). SpellPicks ws b.picks) (sym pairs) y.1.1.2) in
    let with_rest : ℕ → CrashChoice = λ n. record { rest = n; picks = a.picks } in
    let with_picks : List (ℕ × ℕ) → CrashChoice = λ ps. record { rest = b.rest; picks = ps } in
    ap with_rest rest ∙ ap with_picks picks

-- the first letters of a line's first word
first_of : List (List ℕ) → ℕ
first_of words = get_or (get_or words 0 []) 0 0

second_of : List (List ℕ) → ℕ
second_of words = get_or (get_or words 0 []) 1 0

initial : Line → ℕ
initial line.Nothing = 0
initial (line.Session s e) = 115
initial (line.End s) = 101
initial (line.Read s c o n) = 114
initial (line.Write s c o bytes fua) = 119
initial (line.Zero s c o n fua) = 122
initial (line.Trim s c o n) = 116
initial (line.Flush s c) = 102
initial (line.Step who now) = 115
initial (line.Run who now) = 114
initial (line.Fail stripe kind) = 102
initial (line.Crash choice) = 99

second : Line → ℕ
second line.Nothing = 0
second (line.Session s e) = 101
second (line.End s) = 110
second (line.Read s c o n) = 101
second (line.Write s c o bytes fua) = 114
second (line.Zero s c o n fua) = 101
second (line.Trim s c o n) = 114
second (line.Flush s c) = 108
second (line.Step who now) = 116
second (line.Run who now) = 117
second (line.Fail stripe kind) = 97
second (line.Crash choice) = 114

letters : (words : List (List ℕ)) (l : Line) → WordsSpell words l → (first_of words ≡ initial l) × (second_of words ≡ second l)
unfolding initial first_of second second_of
letters words line.Nothing is = absurd is
letters words (line.Session s e) is = (ap first_of is.0, ap second_of is.0)
letters words (line.End s) is = (ap first_of is.0, ap second_of is.0)
letters words (line.Read s c o n) is = (ap first_of is.1.0.whole, ap second_of is.1.0.whole)
letters words (line.Write s c o bytes fua) is = (ap first_of is.1.0.whole, ap second_of is.1.0.whole)
letters words (line.Zero s c o n fua) is = (ap first_of is.1.0.whole, ap second_of is.1.0.whole)
letters words (line.Trim s c o n) is = (ap first_of is.1.0.whole, ap second_of is.1.0.whole)
letters words (line.Flush s c) is = (ap first_of is.1.0, ap second_of is.1.0)
letters words (line.Step who now) is = elim is.rest [
  | inl bare ↦ (ap first_of bare.0, ap second_of bare.0)
  | inr timed ↦ (ap first_of timed.1.0, ap second_of timed.1.0)
]
letters words (line.Run who now) is = elim is.rest [
  | inl bare ↦ (ap first_of bare.0, ap second_of bare.0)
  | inr timed ↦ (ap first_of timed.1.0, ap second_of timed.1.0)
]
letters words (line.Fail stripe kind) is = (ap first_of is.1.0, ap second_of is.1.0)
letters words (line.Crash choice) is = (ap first_of is.1.1.0, ap second_of is.1.1.0)

one_session_line : (words : List (List ℕ)) (s e : List ℕ) → WordsSpell words (line.Session s e) →
    (b : Line) → initial b ≡ 115 → second b ≡ 101 → WordsSpell words b → line.Session s e ≡ b
unfolding initial second
one_session_line words s e is line.Nothing i j is' = absurd is'
one_session_line words s e is (line.Session s' e') i j is' =
    let x = is.0 in let y = is'.0 in cc
one_session_line words s e is (line.End s') i j is' = absurd (omega (arith, i, j))
one_session_line words s e is (line.Read s' c' o' n') i j is' = absurd (omega (arith, i, j))
one_session_line words s e is (line.Write s' c' o' bytes' fua') i j is' = absurd (omega (arith, i, j))
one_session_line words s e is (line.Zero s' c' o' n' fua') i j is' = absurd (omega (arith, i, j))
one_session_line words s e is (line.Trim s' c' o' n') i j is' = absurd (omega (arith, i, j))
one_session_line words s e is (line.Flush s' c') i j is' = absurd (omega (arith, i, j))
one_session_line words s e is (line.Step who' now') i j is' = absurd (omega (arith, i, j))
one_session_line words s e is (line.Run who' now') i j is' = absurd (omega (arith, i, j))
one_session_line words s e is (line.Fail stripe' kind') i j is' = absurd (omega (arith, i, j))
one_session_line words s e is (line.Crash choice') i j is' = absurd (omega (arith, i, j))

one_end_line : (words : List (List ℕ)) (s : List ℕ) → WordsSpell words (line.End s) →
    (b : Line) → initial b ≡ 101 → second b ≡ 110 → WordsSpell words b → line.End s ≡ b
unfolding initial second
one_end_line words s is line.Nothing i j is' = absurd is'
one_end_line words s is (line.Session s' e') i j is' = absurd (omega (arith, i, j))
one_end_line words s is (line.End s') i j is' =
    let x = is.0 in let y = is'.0 in cc
one_end_line words s is (line.Read s' c' o' n') i j is' = absurd (omega (arith, i, j))
one_end_line words s is (line.Write s' c' o' bytes' fua') i j is' = absurd (omega (arith, i, j))
one_end_line words s is (line.Zero s' c' o' n' fua') i j is' = absurd (omega (arith, i, j))
one_end_line words s is (line.Trim s' c' o' n') i j is' = absurd (omega (arith, i, j))
one_end_line words s is (line.Flush s' c') i j is' = absurd (omega (arith, i, j))
one_end_line words s is (line.Step who' now') i j is' = absurd (omega (arith, i, j))
one_end_line words s is (line.Run who' now') i j is' = absurd (omega (arith, i, j))
one_end_line words s is (line.Fail stripe' kind') i j is' = absurd (omega (arith, i, j))
one_end_line words s is (line.Crash choice') i j is' = absurd (omega (arith, i, j))

one_read_line : (words : List (List ℕ)) (s : List ℕ) (c o n : ℕ) → WordsSpell words (line.Read s c o n) →
    (b : Line) → initial b ≡ 114 → second b ≡ 101 → WordsSpell words b → line.Read s c o n ≡ b
unfolding initial second
one_read_line words s c o n is line.Nothing i j is' = absurd is'
one_read_line words s c o n is (line.Session s' e') i j is' = absurd (omega (arith, i, j))
one_read_line words s c o n is (line.End s') i j is' = absurd (omega (arith, i, j))
one_read_line words s c o n is (line.Read s' c' o' n') i j is' =
    one_sized (λ s c o n fua. line.Read s c o n) (codes "read") words s s' c c' o o' n n' false false is is'
one_read_line words s c o n is (line.Write s' c' o' bytes' fua') i j is' = absurd (omega (arith, i, j))
one_read_line words s c o n is (line.Zero s' c' o' n' fua') i j is' = absurd (omega (arith, i, j))
one_read_line words s c o n is (line.Trim s' c' o' n') i j is' = absurd (omega (arith, i, j))
one_read_line words s c o n is (line.Flush s' c') i j is' = absurd (omega (arith, i, j))
one_read_line words s c o n is (line.Step who' now') i j is' = absurd (omega (arith, i, j))
one_read_line words s c o n is (line.Run who' now') i j is' = absurd (omega (arith, i, j))
one_read_line words s c o n is (line.Fail stripe' kind') i j is' = absurd (omega (arith, i, j))
one_read_line words s c o n is (line.Crash choice') i j is' = absurd (omega (arith, i, j))

one_write_line : (words : List (List ℕ)) (s : List ℕ) (c o : ℕ) (bytes : List ℕ) (fua : Bool) → WordsSpell words (line.Write s c o bytes fua) →
    (b : Line) → initial b ≡ 119 → second b ≡ 114 → WordsSpell words b → line.Write s c o bytes fua ≡ b
unfolding initial second
one_write_line words s c o bytes fua is line.Nothing i j is' = absurd is'
one_write_line words s c o bytes fua is (line.Session s' e') i j is' = absurd (omega (arith, i, j))
one_write_line words s c o bytes fua is (line.End s') i j is' = absurd (omega (arith, i, j))
one_write_line words s c o bytes fua is (line.Read s' c' o' n') i j is' = absurd (omega (arith, i, j))
one_write_line words s c o bytes fua is (line.Write s' c' o' bytes' fua') i j is' =
    let x = one_asks (codes "write") words s s' c c' o o' is.0 is'.0 fua fua' is.1.0 is'.1.0 in
    let bytes_are = one_data is.0 bytes bytes' is.1.1 (subst (λ (w : List ℕ). SpellsData w bytes') (sym x.last_is) is'.1.1) in
    asked_same line.Write x bytes_are
one_write_line words s c o bytes fua is (line.Zero s' c' o' n' fua') i j is' = absurd (omega (arith, i, j))
one_write_line words s c o bytes fua is (line.Trim s' c' o' n') i j is' = absurd (omega (arith, i, j))
one_write_line words s c o bytes fua is (line.Flush s' c') i j is' = absurd (omega (arith, i, j))
one_write_line words s c o bytes fua is (line.Step who' now') i j is' = absurd (omega (arith, i, j))
one_write_line words s c o bytes fua is (line.Run who' now') i j is' = absurd (omega (arith, i, j))
one_write_line words s c o bytes fua is (line.Fail stripe' kind') i j is' = absurd (omega (arith, i, j))
one_write_line words s c o bytes fua is (line.Crash choice') i j is' = absurd (omega (arith, i, j))

one_zero_line : (words : List (List ℕ)) (s : List ℕ) (c o n : ℕ) (fua : Bool) → WordsSpell words (line.Zero s c o n fua) →
    (b : Line) → initial b ≡ 122 → second b ≡ 101 → WordsSpell words b → line.Zero s c o n fua ≡ b
unfolding initial second
one_zero_line words s c o n fua is line.Nothing i j is' = absurd is'
one_zero_line words s c o n fua is (line.Session s' e') i j is' = absurd (omega (arith, i, j))
one_zero_line words s c o n fua is (line.End s') i j is' = absurd (omega (arith, i, j))
one_zero_line words s c o n fua is (line.Read s' c' o' n') i j is' = absurd (omega (arith, i, j))
one_zero_line words s c o n fua is (line.Write s' c' o' bytes' fua') i j is' = absurd (omega (arith, i, j))
one_zero_line words s c o n fua is (line.Zero s' c' o' n' fua') i j is' =
    one_sized line.Zero (codes "zero") words s s' c c' o o' n n' fua fua' is is'
one_zero_line words s c o n fua is (line.Trim s' c' o' n') i j is' = absurd (omega (arith, i, j))
one_zero_line words s c o n fua is (line.Flush s' c') i j is' = absurd (omega (arith, i, j))
one_zero_line words s c o n fua is (line.Step who' now') i j is' = absurd (omega (arith, i, j))
one_zero_line words s c o n fua is (line.Run who' now') i j is' = absurd (omega (arith, i, j))
one_zero_line words s c o n fua is (line.Fail stripe' kind') i j is' = absurd (omega (arith, i, j))
one_zero_line words s c o n fua is (line.Crash choice') i j is' = absurd (omega (arith, i, j))

one_trim_line : (words : List (List ℕ)) (s : List ℕ) (c o n : ℕ) → WordsSpell words (line.Trim s c o n) →
    (b : Line) → initial b ≡ 116 → second b ≡ 114 → WordsSpell words b → line.Trim s c o n ≡ b
unfolding initial second
one_trim_line words s c o n is line.Nothing i j is' = absurd is'
one_trim_line words s c o n is (line.Session s' e') i j is' = absurd (omega (arith, i, j))
one_trim_line words s c o n is (line.End s') i j is' = absurd (omega (arith, i, j))
one_trim_line words s c o n is (line.Read s' c' o' n') i j is' = absurd (omega (arith, i, j))
one_trim_line words s c o n is (line.Write s' c' o' bytes' fua') i j is' = absurd (omega (arith, i, j))
one_trim_line words s c o n is (line.Zero s' c' o' n' fua') i j is' = absurd (omega (arith, i, j))
one_trim_line words s c o n is (line.Trim s' c' o' n') i j is' =
    one_sized (λ s c o n fua. line.Trim s c o n) (codes "trim") words s s' c c' o o' n n' false false is is'
one_trim_line words s c o n is (line.Flush s' c') i j is' = absurd (omega (arith, i, j))
one_trim_line words s c o n is (line.Step who' now') i j is' = absurd (omega (arith, i, j))
one_trim_line words s c o n is (line.Run who' now') i j is' = absurd (omega (arith, i, j))
one_trim_line words s c o n is (line.Fail stripe' kind') i j is' = absurd (omega (arith, i, j))
one_trim_line words s c o n is (line.Crash choice') i j is' = absurd (omega (arith, i, j))

one_flush_line : (words : List (List ℕ)) (s : List ℕ) (c : ℕ) → WordsSpell words (line.Flush s c) →
    (b : Line) → initial b ≡ 102 → second b ≡ 108 → WordsSpell words b → line.Flush s c ≡ b
unfolding initial second
one_flush_line words s c is line.Nothing i j is' = absurd is'
one_flush_line words s c is (line.Session s' e') i j is' = absurd (omega (arith, i, j))
one_flush_line words s c is (line.End s') i j is' = absurd (omega (arith, i, j))
one_flush_line words s c is (line.Read s' c' o' n') i j is' = absurd (omega (arith, i, j))
one_flush_line words s c is (line.Write s' c' o' bytes' fua') i j is' = absurd (omega (arith, i, j))
one_flush_line words s c is (line.Zero s' c' o' n' fua') i j is' = absurd (omega (arith, i, j))
one_flush_line words s c is (line.Trim s' c' o' n') i j is' = absurd (omega (arith, i, j))
one_flush_line words s c is (line.Flush s' c') i j is' = one_flush words s s' c c' is is'
one_flush_line words s c is (line.Step who' now') i j is' = absurd (omega (arith, i, j))
one_flush_line words s c is (line.Run who' now') i j is' = absurd (omega (arith, i, j))
one_flush_line words s c is (line.Fail stripe' kind') i j is' = absurd (omega (arith, i, j))
one_flush_line words s c is (line.Crash choice') i j is' = absurd (omega (arith, i, j))

one_step_line : (words : List (List ℕ)) (who : ScriptActor) (now : ℕ) → WordsSpell words (line.Step who now) →
    (b : Line) → initial b ≡ 115 → second b ≡ 116 → WordsSpell words b → line.Step who now ≡ b
unfolding initial second
one_step_line words who now is line.Nothing i j is' = absurd is'
one_step_line words who now is (line.Session s' e') i j is' = absurd (omega (arith, i, j))
one_step_line words who now is (line.End s') i j is' = absurd (omega (arith, i, j))
one_step_line words who now is (line.Read s' c' o' n') i j is' = absurd (omega (arith, i, j))
one_step_line words who now is (line.Write s' c' o' bytes' fua') i j is' = absurd (omega (arith, i, j))
one_step_line words who now is (line.Zero s' c' o' n' fua') i j is' = absurd (omega (arith, i, j))
one_step_line words who now is (line.Trim s' c' o' n') i j is' = absurd (omega (arith, i, j))
one_step_line words who now is (line.Flush s' c') i j is' = absurd (omega (arith, i, j))
one_step_line words who now is (line.Step who' now') i j is' =
    driven_same line.Step (one_drive (codes "step") words who who' now now' is is')
one_step_line words who now is (line.Run who' now') i j is' = absurd (omega (arith, i, j))
one_step_line words who now is (line.Fail stripe' kind') i j is' = absurd (omega (arith, i, j))
one_step_line words who now is (line.Crash choice') i j is' = absurd (omega (arith, i, j))

one_run_line : (words : List (List ℕ)) (who : ScriptActor) (now : ℕ) → WordsSpell words (line.Run who now) →
    (b : Line) → initial b ≡ 114 → second b ≡ 117 → WordsSpell words b → line.Run who now ≡ b
unfolding initial second
one_run_line words who now is line.Nothing i j is' = absurd is'
one_run_line words who now is (line.Session s' e') i j is' = absurd (omega (arith, i, j))
one_run_line words who now is (line.End s') i j is' = absurd (omega (arith, i, j))
one_run_line words who now is (line.Read s' c' o' n') i j is' = absurd (omega (arith, i, j))
one_run_line words who now is (line.Write s' c' o' bytes' fua') i j is' = absurd (omega (arith, i, j))
one_run_line words who now is (line.Zero s' c' o' n' fua') i j is' = absurd (omega (arith, i, j))
one_run_line words who now is (line.Trim s' c' o' n') i j is' = absurd (omega (arith, i, j))
one_run_line words who now is (line.Flush s' c') i j is' = absurd (omega (arith, i, j))
one_run_line words who now is (line.Step who' now') i j is' = absurd (omega (arith, i, j))
one_run_line words who now is (line.Run who' now') i j is' =
    driven_same line.Run (one_drive (codes "run") words who who' now now' is is')
one_run_line words who now is (line.Fail stripe' kind') i j is' = absurd (omega (arith, i, j))
one_run_line words who now is (line.Crash choice') i j is' = absurd (omega (arith, i, j))

one_fail_line : (words : List (List ℕ)) (stripe : ℕ) (kind : Fail) → WordsSpell words (line.Fail stripe kind) →
    (b : Line) → initial b ≡ 102 → second b ≡ 97 → WordsSpell words b → line.Fail stripe kind ≡ b
unfolding initial second
one_fail_line words stripe kind is line.Nothing i j is' = absurd is'
one_fail_line words stripe kind is (line.Session s' e') i j is' = absurd (omega (arith, i, j))
one_fail_line words stripe kind is (line.End s') i j is' = absurd (omega (arith, i, j))
one_fail_line words stripe kind is (line.Read s' c' o' n') i j is' = absurd (omega (arith, i, j))
one_fail_line words stripe kind is (line.Write s' c' o' bytes' fua') i j is' = absurd (omega (arith, i, j))
one_fail_line words stripe kind is (line.Zero s' c' o' n' fua') i j is' = absurd (omega (arith, i, j))
one_fail_line words stripe kind is (line.Trim s' c' o' n') i j is' = absurd (omega (arith, i, j))
one_fail_line words stripe kind is (line.Flush s' c') i j is' = absurd (omega (arith, i, j))
one_fail_line words stripe kind is (line.Step who' now') i j is' = absurd (omega (arith, i, j))
one_fail_line words stripe kind is (line.Run who' now') i j is' = absurd (omega (arith, i, j))
one_fail_line words stripe kind is (line.Fail stripe' kind') i j is' = one_fail words stripe stripe' kind kind' is is'
one_fail_line words stripe kind is (line.Crash choice') i j is' = absurd (omega (arith, i, j))

one_crash_line : (words : List (List ℕ)) (choice : CrashChoice) → WordsSpell words (line.Crash choice) →
    (b : Line) → initial b ≡ 99 → second b ≡ 114 → WordsSpell words b → line.Crash choice ≡ b
unfolding initial second
one_crash_line words choice is line.Nothing i j is' = absurd is'
one_crash_line words choice is (line.Session s' e') i j is' = absurd (omega (arith, i, j))
one_crash_line words choice is (line.End s') i j is' = absurd (omega (arith, i, j))
one_crash_line words choice is (line.Read s' c' o' n') i j is' = absurd (omega (arith, i, j))
one_crash_line words choice is (line.Write s' c' o' bytes' fua') i j is' = absurd (omega (arith, i, j))
one_crash_line words choice is (line.Zero s' c' o' n' fua') i j is' = absurd (omega (arith, i, j))
one_crash_line words choice is (line.Trim s' c' o' n') i j is' = absurd (omega (arith, i, j))
one_crash_line words choice is (line.Flush s' c') i j is' = absurd (omega (arith, i, j))
one_crash_line words choice is (line.Step who' now') i j is' = absurd (omega (arith, i, j))
one_crash_line words choice is (line.Run who' now') i j is' = absurd (omega (arith, i, j))
one_crash_line words choice is (line.Fail stripe' kind') i j is' = absurd (omega (arith, i, j))
one_crash_line words choice is (line.Crash choice') i j is' = ap line.Crash (one_crash words choice choice' is is')

one_of_words : (words : List (List ℕ)) (a b : Line) → WordsSpell words a → WordsSpell words b → a ≡ b
unfolding initial second
one_of_words words line.Nothing b x y = absurd x
one_of_words words (line.Session s e) b x y =
    let a_is = letters words (line.Session s e) x in
    let b_is = letters words b y in
    one_session_line words s e x b (sym b_is.0 ∙ a_is.0) (sym b_is.1 ∙ a_is.1) y
one_of_words words (line.End s) b x y =
    let a_is = letters words (line.End s) x in
    let b_is = letters words b y in
    one_end_line words s x b (sym b_is.0 ∙ a_is.0) (sym b_is.1 ∙ a_is.1) y
one_of_words words (line.Read s c o n) b x y =
    let a_is = letters words (line.Read s c o n) x in
    let b_is = letters words b y in
    one_read_line words s c o n x b (sym b_is.0 ∙ a_is.0) (sym b_is.1 ∙ a_is.1) y
one_of_words words (line.Write s c o bytes fua) b x y =
    let a_is = letters words (line.Write s c o bytes fua) x in
    let b_is = letters words b y in
    one_write_line words s c o bytes fua x b (sym b_is.0 ∙ a_is.0) (sym b_is.1 ∙ a_is.1) y
one_of_words words (line.Zero s c o n fua) b x y =
    let a_is = letters words (line.Zero s c o n fua) x in
    let b_is = letters words b y in
    one_zero_line words s c o n fua x b (sym b_is.0 ∙ a_is.0) (sym b_is.1 ∙ a_is.1) y
one_of_words words (line.Trim s c o n) b x y =
    let a_is = letters words (line.Trim s c o n) x in
    let b_is = letters words b y in
    one_trim_line words s c o n x b (sym b_is.0 ∙ a_is.0) (sym b_is.1 ∙ a_is.1) y
one_of_words words (line.Flush s c) b x y =
    let a_is = letters words (line.Flush s c) x in
    let b_is = letters words b y in
    one_flush_line words s c x b (sym b_is.0 ∙ a_is.0) (sym b_is.1 ∙ a_is.1) y
one_of_words words (line.Step who now) b x y =
    let a_is = letters words (line.Step who now) x in
    let b_is = letters words b y in
    one_step_line words who now x b (sym b_is.0 ∙ a_is.0) (sym b_is.1 ∙ a_is.1) y
one_of_words words (line.Run who now) b x y =
    let a_is = letters words (line.Run who now) x in
    let b_is = letters words b y in
    one_run_line words who now x b (sym b_is.0 ∙ a_is.0) (sym b_is.1 ∙ a_is.1) y
one_of_words words (line.Fail stripe kind) b x y =
    let a_is = letters words (line.Fail stripe kind) x in
    let b_is = letters words b y in
    one_fail_line words stripe kind x b (sym b_is.0 ∙ a_is.0) (sym b_is.1 ∙ a_is.1) y
one_of_words words (line.Crash choice) b x y =
    let a_is = letters words (line.Crash choice) x in
    let b_is = letters words b y in
    one_crash_line words choice x b (sym b_is.0 ∙ a_is.0) (sym b_is.1 ∙ a_is.1) y

-- a comment begins with its sign
quiet_first : (text : List ℕ) → IsQuiet text → first_of (words_of text) ≤ 35
unfolding first_of
quiet_first [] quiet = omega arith
quiet_first (x ∷ xs) quiet =
    elim (x == 32) as (λ (b : Bool). first_of (cond b ([] ∷ words_of xs) (onto_first x (words_of xs))) ≤ 35) [
      | true ↦ omega arith
      | false ↦ onto (words_of xs)
    ]
  where
    onto : (ws : List (List ℕ)) → first_of (onto_first x ws) ≤ 35
    onto [] = omega (arith, quiet)
    onto (w ∷ ws) = omega (arith, quiet)

initial_above : (words : List (List ℕ)) (l : Line) → WordsSpell words l → 35 < initial l
unfolding initial
initial_above words line.Nothing is = absurd is
initial_above words (line.Session s e) is = omega arith
initial_above words (line.End s) is = omega arith
initial_above words (line.Read s c o n) is = omega arith
initial_above words (line.Write s c o bytes fua) is = omega arith
initial_above words (line.Zero s c o n fua) is = omega arith
initial_above words (line.Trim s c o n) is = omega arith
initial_above words (line.Flush s c) is = omega arith
initial_above words (line.Step who now) is = omega arith
initial_above words (line.Run who now) is = omega arith
initial_above words (line.Fail stripe kind) is = omega arith
initial_above words (line.Crash choice) is = omega arith

quiet_spells : (text : List ℕ) (l : Line) → IsQuiet text → WordsSpell (words_of text) l → ⊥
quiet_spells text l quiet is =
    let above = initial_above (words_of text) l is in
    let below = quiet_first text quiet in
    let first = (letters (words_of text) l is).0 in
    omega (arith, above, below, first)

-- what a text that is quiet reads as
quiet_reads : (text : List ℕ) (l : Line) → IsQuiet text → ReadsLine text l → line.Nothing ≡ l
quiet_reads text line.Nothing quiet is = refl
quiet_reads text (line.Session s e) quiet is = absurd (quiet_spells text (line.Session s e) quiet is)
quiet_reads text (line.End s) quiet is = absurd (quiet_spells text (line.End s) quiet is)
quiet_reads text (line.Read s c o n) quiet is = absurd (quiet_spells text (line.Read s c o n) quiet is)
quiet_reads text (line.Write s c o bytes fua) quiet is = absurd (quiet_spells text (line.Write s c o bytes fua) quiet is)
quiet_reads text (line.Zero s c o n fua) quiet is = absurd (quiet_spells text (line.Zero s c o n fua) quiet is)
quiet_reads text (line.Trim s c o n) quiet is = absurd (quiet_spells text (line.Trim s c o n) quiet is)
quiet_reads text (line.Flush s c) quiet is = absurd (quiet_spells text (line.Flush s c) quiet is)
quiet_reads text (line.Step who now) quiet is = absurd (quiet_spells text (line.Step who now) quiet is)
quiet_reads text (line.Run who now) quiet is = absurd (quiet_spells text (line.Run who now) quiet is)
quiet_reads text (line.Fail stripe kind) quiet is = absurd (quiet_spells text (line.Fail stripe kind) quiet is)
quiet_reads text (line.Crash choice) quiet is = absurd (quiet_spells text (line.Crash choice) quiet is)

spoken_reads : (text : List ℕ) (a b : Line) → WordsSpell (words_of text) a → ReadsLine text b → a ≡ b
spoken_reads text a line.Nothing x y = absurd (quiet_spells text a y x)
spoken_reads text a (line.Session s e) x y = one_of_words (words_of text) a (line.Session s e) x y
spoken_reads text a (line.End s) x y = one_of_words (words_of text) a (line.End s) x y
spoken_reads text a (line.Read s c o n) x y = one_of_words (words_of text) a (line.Read s c o n) x y
spoken_reads text a (line.Write s c o bytes fua) x y = one_of_words (words_of text) a (line.Write s c o bytes fua) x y
spoken_reads text a (line.Zero s c o n fua) x y = one_of_words (words_of text) a (line.Zero s c o n fua) x y
spoken_reads text a (line.Trim s c o n) x y = one_of_words (words_of text) a (line.Trim s c o n) x y
spoken_reads text a (line.Flush s c) x y = one_of_words (words_of text) a (line.Flush s c) x y
spoken_reads text a (line.Step who now) x y = one_of_words (words_of text) a (line.Step who now) x y
spoken_reads text a (line.Run who now) x y = one_of_words (words_of text) a (line.Run who now) x y
spoken_reads text a (line.Fail stripe kind) x y = one_of_words (words_of text) a (line.Fail stripe kind) x y
spoken_reads text a (line.Crash choice) x y = one_of_words (words_of text) a (line.Crash choice) x y

-- one text spells one line
pub one_line : (text : List ℕ) (a b : Line) → ReadsLine text a → ReadsLine text b → a ≡ b
one_line text line.Nothing b x y = quiet_reads text b x y
one_line text (line.Session s e) b x y = spoken_reads text (line.Session s e) b x y
one_line text (line.End s) b x y = spoken_reads text (line.End s) b x y
one_line text (line.Read s c o n) b x y = spoken_reads text (line.Read s c o n) b x y
one_line text (line.Write s c o bytes fua) b x y = spoken_reads text (line.Write s c o bytes fua) b x y
one_line text (line.Zero s c o n fua) b x y = spoken_reads text (line.Zero s c o n fua) b x y
one_line text (line.Trim s c o n) b x y = spoken_reads text (line.Trim s c o n) b x y
one_line text (line.Flush s c) b x y = spoken_reads text (line.Flush s c) b x y
one_line text (line.Step who now) b x y = spoken_reads text (line.Step who now) b x y
one_line text (line.Run who now) b x y = spoken_reads text (line.Run who now) b x y
one_line text (line.Fail stripe kind) b x y = spoken_reads text (line.Fail stripe kind) b x y
one_line text (line.Crash choice) b x y = spoken_reads text (line.Crash choice) b x y

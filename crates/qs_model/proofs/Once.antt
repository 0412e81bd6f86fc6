-- A READ that is Got has read each byte once, a write that is Fine has written each once.
use Rattle.std.proofs.Common.{◌≡◌, ◌≢◌, ℕ, ◌+◌, ◌-◌, ◌*◌, ◌/◌, ◌%◌, min, max, ◌<◌, ◌≤◌, Bool, true, false, ◌&&◌, ◌==◌, cond, nat_lt, List, [], ◌∷◌, ◌++◌, length, get_or, drop, refl, sym, ap, ◌∙◌, subst, arith, true≢false, append-nil, length-append}
use Rattle.std.specs.List.{filter}
use Rattle.std.proofs.lemmas.List.{get_or_append_left, get_or-append-add, get_or-take, get_or-drop}
use Rattle.qs_cells.specs.declared.cell.CellEntry.{CellEntry}
use Rattle.qs_part.specs.declared.stripe.Side.TheVariants.{Head}
use Rattle.qs_model.specs.Requests.{Client, edge, span_of, covers, piece}
use Rattle.qs_model.specs.Histories.{is_entry_of}
use Rattle.qs_model.proofs.Basics.{block_at, block_low, block_high}
use Rattle.qs_model.proofs.Geometry.{Reaches, covered_reached, covers_low, covers_high, same_eqb}
use Rattle.qs_model.proofs.Facts.{Loading}
use Rattle.qs_model.proofs.Machine.{other_block, length-piece}

pub lt_true : (n b : ℕ) → n < b → nat_lt n b ≡ true
lt_true n b h = grind (arith, h)

pub lt_false : (n b : ℕ) → b ≤ n → nat_lt n b ≡ false
lt_false n b h = grind (arith, h)

-- the entries of blocks that are still to come
abbrev pub rest_of : ℕ → ℕ → List CellEntry → List CellEntry
rest_of n b all = cond (nat_lt n b) [] all

-- the entry of block b, and those behind it
pub join : (n b : ℕ) (e all es : List CellEntry) → e ≡ cond (n == b) all [] → es ≡ rest_of n (b + 1) all → e ++ es ≡ rest_of n b all
join n b e all es here there = go (n == b) (nat_lt n b) refl refl
  where
    go : (same less : Bool) → (n == b) ≡ same → nat_lt n b ≡ less → e ++ es ≡ rest_of n b all
    go true less same is =
        let m : n ≡ b = same_eqb n b same in
        ap (λ (l : List CellEntry). l ++ es) (here ∙ ap (λ (t : Bool). cond t all []) same)
        ∙ ap (λ (l : List CellEntry). all ++ l) (there ∙ ap (λ (t : Bool). cond t [] all) (lt_true n (b + 1) (omega arith)))
        ∙ append-nil all
        ∙ sym (ap (λ (t : Bool). cond t [] all) (lt_false n b (omega arith)))
    go false true same is =
        let m : n < b = grind (arith, is) in
        ap (λ (l : List CellEntry). l ++ es) (here ∙ ap (λ (t : Bool). cond t all []) same)
        ∙ there ∙ ap (λ (t : Bool). cond t [] all) (lt_true n (b + 1) (omega arith))
        ∙ sym (ap (λ (t : Bool). cond t [] all) is)
    go false false same is =
        let m : b ≤ n = grind (arith, is) in
        let o : n ≢ b = other_block n b same in
        ap (λ (l : List CellEntry). l ++ es) (here ∙ ap (λ (t : Bool). cond t all []) same)
        ∙ there ∙ ap (λ (t : Bool). cond t [] all) (lt_false n (b + 1) (omega arith))
        ∙ sym (ap (λ (t : Bool). cond t [] all) is)

-- behind the last block nothing is to come
pub join_last : (n b : ℕ) (all es : List CellEntry) → n ≤ b → es ≡ [] → es ≡ rest_of n (b + 1) all
join_last n b all es h none = none ∙ sym (ap (λ (t : Bool). cond t [] all) (lt_true n (b + 1) (omega arith)))

-- the blocks of a covered place
pub place_reached : (A : ℕ) (c : Client) (x : ℕ) → 0 < A → covers c x ≡ true → Reaches A c (x / A)
place_reached A c x pos is = covered_reached A c (x / A) x pos is (block_low x A pos) (block_high x A pos)

pub from_first : (A : ℕ) (c : Client) (x : ℕ) (all es : List CellEntry) → 0 < A → covers c x ≡ true → es ≡ rest_of (x / A) (edge A c Head) all → es ≡ all
from_first A c x all es pos is h = h ∙ ap (λ (t : Bool). cond t [] all) (lt_false (x / A) (edge A c Head) (place_reached A c x pos is).first)

-- the one entry of a row, where it is of the byte's block
pub entry_here : (r : ℕ) (e f : CellEntry) (a b t : Bool) → a ≡ true → b ≡ true → is_entry_of r e ≡ true → (t ≡ true → e ≡ f) →
    filter (is_entry_of r) (cond (a && b && t) (e ∷ []) []) ≡ cond t (f ∷ []) []
entry_here r e f true true true p q own same = ap (λ (u : Bool). cond u (e ∷ []) []) own ∙ ap (λ (g : CellEntry). g ∷ []) (same refl)
entry_here r e f true true false p q own same = refl
entry_here r e f true false t p q own same = absurd (true≢false (sym q))
entry_here r e f false b t p q own same = absurd (true≢false (sym p))

-- the byte of a block's piece in the whole reply
pub piece_value : (A : ℕ) (c : Client) (b x : ℕ) (got bytes rest : List ℕ) → 0 < A → Loading A c b got → length bytes ≡ A → covers c x ≡ true → x / A ≡ b →
    get_or ((got ++ piece A c b bytes) ++ rest) (x - (span_of c).lo) 0 ≡ get_or bytes (x % A) 0
piece_value A c b x got bytes rest pos l whole covered at =
    let lo : ℕ = (span_of c).lo in
    let low : (span_of c).lo ≤ x = covers_low c x covered in
    let high : x < (span_of c).hi = covers_high c x covered in
    let place : b * A + x % A ≡ x = subst (λ (n : ℕ). n * A + x % A ≡ x) at (block_at x A pos) in
    let start : b * A ≤ x = subst (λ (n : ℕ). n * A ≤ x) at (block_low x A pos) in
    let end : x < b * A + A = subst (λ (n : ℕ). x < n * A + A) at (block_high x A pos) in
    let before : length got ≡ max (span_of c).lo (b * A) - (span_of c).lo = l.so_far in
    let long : length (piece A c b bytes) ≡ min (span_of c).hi (b * A + A) - max (span_of c).lo (b * A) = length-piece A c b bytes pos l.sound.some l.reach whole in
    let i : ℕ = x - max (span_of c).lo (b * A) in
    let whole_length : length (got ++ piece A c b bytes) ≡ length got + length (piece A c b bytes) = length-append got (piece A c b bytes) in
    get_or_append_left (got ++ piece A c b bytes) rest 0 (x - (span_of c).lo) (omega arith)
    ∙ ap (λ (n : ℕ). get_or (got ++ piece A c b bytes) n 0) (split (span_of c).lo (b * A) x (length got) before low start)
    ∙ get_or-append-add got (piece A c b bytes) i 0
    ∙ get_or-take (min (span_of c).hi (b * A + A) - max (span_of c).lo (b * A)) (drop (max (span_of c).lo (b * A) - b * A) bytes) i 0 (omega arith)
    ∙ get_or-drop (max (span_of c).lo (b * A) - b * A) bytes i 0
    ∙ ap (λ (n : ℕ). get_or bytes n 0) (offset (span_of c).lo (b * A) x (x % A) low start place)
  where
    split : (lo low x g : ℕ) → g ≡ max lo low - lo → lo ≤ x → low ≤ x → x - lo ≡ g + (x - max lo low)
    split lo low x g e h k = omega arith

    offset : (lo low x m : ℕ) → lo ≤ x → low ≤ x → low + m ≡ x → max lo low - low + (x - max lo low) ≡ m
    offset lo low x m h k e = omega arith

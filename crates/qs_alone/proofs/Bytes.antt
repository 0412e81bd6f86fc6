-- What a request alone has done to the bytes, block by block.
use Rattle.std.proofs.Common.{◌≡◌, ℕ, ◌+◌, ◌-◌, ◌*◌, ◌/◌, ◌%◌, max, ◌<◌, ◌≤◌, inl, inr, Bool, true, false, ◌&&◌, ◌==◌, cond, nat_lt, List, [], ◌∷◌, ◌++◌, length, get_or, IsTrue, refl, sym, ap, ◌∙◌, subst, arith, append-nil}
use Rattle.std.proofs.lemmas.List.{get_or_append_left}
use Rattle.qs_cells.specs.declared.cell.CellEntry.TheVariants.{Write, Maybe}
use Rattle.qs_cells.specs.Cells.{value_after}
use Rattle.qs_part.specs.declared.stripe.Side.TheVariants.{Head, Tail}
use Rattle.qs_model.specs.Requests.{Client, Pads, ToStore, In, body_at, covers, edge, piece, span_of, writes}
use Rattle.qs_model.specs.Worlds.{Image, World, byte_at}
use Rattle.qs_model.specs.Acts.{Stores, StoreFails}
use Rattle.qs_model.specs.Guards.{MayDo}
use Rattle.qs_model.specs.Histories.{writes_in}
use Rattle.qs_model.specs.Laws.{reply_at}
use Rattle.qs_model.specs.Steps.{block_written}
use Rattle.qs_model.proofs.Basics.{block_high, block_low, blocks_lt, either}
use Rattle.qs_model.proofs.Cells.{row_leads}
use Rattle.qs_model.proofs.Facts.{Keeps, Loading, Storing}
use Rattle.qs_model.proofs.Geometry.{covers_high, covers_low, head_low, same_eqb, tail_high}
use Rattle.qs_model.proofs.Machine.{other_block}
use Rattle.qs_model.proofs.Once.{lt_false, lt_true, piece_value}
use Rattle.qs_alone.specs.Alone.{written_to}

-- no byte is changed
abbrev pub Same : ℕ → Image → Image → Type 0
Same A old new = (x : ℕ) → byte_at A new x ≡ byte_at A old x

-- the places below n have what the request writes
abbrev pub Front : ℕ → Image → Client → ℕ → Image → Type 0
Front A old d n new = (x : ℕ) → byte_at A new x ≡ written_to A old d n x

-- the bytes of the covered places below n were read
abbrev pub HasRead : ℕ → Image → Client → ℕ → List ℕ → Type 0
HasRead A old d n got = (x : ℕ) → covers d x ≡ true → x < n → reply_at d got x ≡ byte_at A old x

-- the request writes the place x, which is below n
abbrev pub wrote : Client → ℕ → ℕ → Bool
wrote d n x = writes d && covers d x && nat_lt x n

nothing : (u v t : Bool) → (v ≡ true → u && t ≡ false) → u && v && t ≡ false
nothing true true t h = h refl
nothing true false t h = refl
nothing false v t h = refl

and_false : (u t : Bool) → t ≡ false → u && t ≡ false
and_false true t h = h
and_false false t h = refl

-- below the first block, and below none, nothing is written; a request that isn't a write or has no length writes nothing
pub none_first : (A : ℕ) (d : Client) (x : ℕ) → 0 < A → wrote d (edge A d Head * A) x ≡ false
none_first A d x pos = nothing (writes d) (covers d x) (nat_lt x (edge A d Head * A))
    (λ covered. let low : edge A d Head * A ≤ (span_of d).lo = head_low A d pos in
    let le : (span_of d).lo ≤ x = covers_low d x covered in
    and_false (writes d) _ (lt_false x (edge A d Head * A) (omega arith)))

pub none_zero : (d : Client) (x : ℕ) → wrote d 0 x ≡ false
none_zero d x = nothing (writes d) (covers d x) (nat_lt x 0) (λ covered. and_false (writes d) _ (lt_false x 0 (omega arith)))

pub none_plain : (d : Client) (n x : ℕ) → writes d ≡ false → wrote d n x ≡ false
none_plain d n x plain = ap (λ (b : Bool). b && covers d x && nat_lt x n) plain

pub none_empty : (d : Client) (n x : ℕ) → d.ask.length ≡ 0 → wrote d n x ≡ false
none_empty d n x empty = nothing (writes d) (covers d x) (nat_lt x n)
    (λ covered. let low : (span_of d).lo ≤ x = covers_low d x covered in let high : x < (span_of d).hi = covers_high d x covered in absurd (omega (arith, empty)))

-- then nothing is changed
pub front_none : (A : ℕ) (old new : Image) (d : Client) (n : ℕ) → ((x : ℕ) → wrote d n x ≡ false) → Same A old new → Front A old d n new
front_none A old new d n none same x = same x ∙ sym (ap (λ (b : Bool). cond b (body_at d x) (byte_at A old x)) (none x))

-- behind the last block everything is
covered_last : (A : ℕ) (d : Client) (x : ℕ) → 0 < A → (span_of d).lo < (span_of d).hi → wrote d (edge A d Tail * A + A) x ≡ wrote d (span_of d).hi x
covered_last A d x pos some = go (writes d) (covers d x) refl
  where
    go : (u v : Bool) → covers d x ≡ v → u && v && nat_lt x (edge A d Tail * A + A) ≡ u && v && nat_lt x (span_of d).hi
    go true true e =
        let high : x < (span_of d).hi = covers_high d x e in
        let far : (span_of d).hi ≤ edge A d Tail * A + A = tail_high A d pos some in
        lt_true x (edge A d Tail * A + A) (omega arith) ∙ sym (lt_true x (span_of d).hi high)
    go true false e = refl
    go false v e = refl

pub front_last : (A : ℕ) (old new : Image) (d : Client) (b : ℕ) → 0 < A → (span_of d).lo < (span_of d).hi → b ≡ edge A d Tail → Front A old d (b * A + A) new →
    Front A old d (span_of d).hi new
front_last A old new d b pos some is front x =
    front x ∙ ap (λ (n : ℕ). written_to A old d (n * A + A) x) is
    ∙ ap (λ (t : Bool). cond t (body_at d x) (byte_at A old x)) (covered_last A d x pos some)

pub front_next : (A : ℕ) (old new : Image) (d : Client) (b : ℕ) → Front A old d (b * A + A) new → Front A old d ((b + 1) * A) new
front_next A old new d b front x = let e : b * A + A ≡ (b + 1) * A = omega arith in front x ∙ ap (λ (n : ℕ). written_to A old d n x) e

-- a block more
own_block : (A b x : ℕ) → 0 < A → b * A ≤ x → x < b * A + A → x / A ≡ b
own_block A b x pos low high =
    let f : x / A < b → ⊥ = λ l. let g : x / A * A + A ≤ b * A = blocks_lt (x / A) b A l in let k : x < x / A * A + A = block_high x A pos in omega arith in
    let g : b < x / A → ⊥ = λ l. let g : b * A + A ≤ x / A * A = blocks_lt b (x / A) A l in let k : x / A * A ≤ x = block_low x A pos in omega arith in
    omega arith

joined : (A b x : ℕ) (u v : Bool) (m o : ℕ) → 0 < A →
    cond (u && v && x / A == b) m (cond (u && v && nat_lt x (b * A)) m o) ≡ cond (u && v && nat_lt x (b * A + A)) m o
joined A b x true true m o pos = go (x / A == b) (nat_lt x (b * A)) refl refl
  where
    go : (s l : Bool) → (x / A == b) ≡ s → nat_lt x (b * A) ≡ l → cond s m (cond l m o) ≡ cond (nat_lt x (b * A + A)) m o
    go true l e f =
        let at : x / A ≡ b = same_eqb (x / A) b e in
        let high : x < b * A + A = subst (λ (n : ℕ). x < n * A + A) at (block_high x A pos) in
        sym (ap (λ (t : Bool). cond t m o) (lt_true x (b * A + A) high))
    go false true e f = let lt : x < b * A = grind (arith, f) in sym (ap (λ (t : Bool). cond t m o) (lt_true x (b * A + A) (omega arith)))
    go false false e f =
        let ge : b * A ≤ x = grind (arith, f) in
        let far : x < b * A + A → ⊥ = λ high. other_block (x / A) b e (own_block A b x pos ge high) in
        sym (ap (λ (t : Bool). cond t m o) (lt_false x (b * A + A) (omega arith)))
joined A b x true false m o pos = refl
joined A b x false v m o pos = refl

after_write : (r u v : ℕ) (t : Bool) → value_after v (cond t (Write r u ∷ []) []) ≡ cond t u v
after_write r u v true = refl
after_write r u v false = refl

after_taken : (r u v : ℕ) (t : Bool) → value_after v (cond t (Maybe r u true ∷ []) []) ≡ cond t u v
after_taken r u v true = refl
after_taken r u v false = refl

after_refused : (r u v : ℕ) (t : Bool) → value_after v (cond t (Maybe r u false ∷ []) []) ≡ v
after_refused r u v true = refl
after_refused r u v false = refl

-- a store of block b
pub front_stored : (A r : ℕ) (w : World) (old : Image) (d : Client) (p : Pads) (k b : ℕ) (bytes : List ℕ) (past : List (List ℕ)) → 0 < A → IsTrue w.tells → Storing A d b →
    Keeps A w.tells w.image d p (In k (ToStore b)) → MayDo A w d p (Stores {k = k} {b = b} bytes past) → Front A old d (b * A) w.image →
    Front A old d (b * A + A) (block_written w.image b bytes past)
front_stored A r w old d p k b bytes past pos told fit kept may front x =
    (row_leads A x r w d p (Stores {k = k} {b = b} bytes past) pos told fit kept may).leaves
    ∙ after_write r (body_at d x) (byte_at A w.image x) (writes_in A d b x)
    ∙ ap (λ (v : ℕ). cond (writes_in A d b x) (body_at d x) v) (front x)
    ∙ joined A b x (writes d) (covers d x) (body_at d x) (byte_at A old x) pos

-- a store that the disk refused leaves the block written, or as it was
pub front_refused : (A r : ℕ) (w : World) (old : Image) (d : Client) (p : Pads) (k b : ℕ) (bytes : List ℕ) (took : Bool) (past : List (List ℕ)) → 0 < A → IsTrue w.tells →
    Storing A d b → Keeps A w.tells w.image d p (In k (ToStore b)) → MayDo A w d p (StoreFails {k = k} {b = b} bytes took past) → Front A old d (b * A) w.image →
    (n : ℕ) × Front A old d n (block_written w.image b (cond took bytes (w.image.now b)) past)
front_refused A r w old d p k b bytes true past pos told fit kept may front = (
  b * A + A,
  λ x. (row_leads A x r w d p (StoreFails {k = k} {b = b} bytes true past) pos told fit kept may).leaves
      ∙ after_taken r (body_at d x) (byte_at A w.image x) (writes_in A d b x)
      ∙ ap (λ (v : ℕ). cond (writes_in A d b x) (body_at d x) v) (front x)
      ∙ joined A b x (writes d) (covers d x) (body_at d x) (byte_at A old x) pos,
)
front_refused A r w old d p k b bytes false past pos told fit kept may front = (
  b * A,
  λ x. (row_leads A x r w d p (StoreFails {k = k} {b = b} bytes false past) pos told fit kept may).leaves
      ∙ after_refused r (body_at d x) (byte_at A w.image x) (writes_in A d b x) ∙ front x,
)

-- a load of block b
pub read_more : (A : ℕ) (old now : Image) (d : Client) (b : ℕ) (got bytes : List ℕ) → 0 < A → Loading A d b got → length bytes ≡ A → bytes ≡ now.now b → Same A old now →
    HasRead A old d (b * A) got → HasRead A old d (b * A + A) (got ++ piece A d b bytes)
read_more A old now d b got bytes pos l whole is same read x covered below = elim (either (nat_lt x (b * A))) [
  | inl f ↦
      let lt : x < b * A = grind (arith, f) in
      let low : (span_of d).lo ≤ x = covers_low d x covered in
      let so_far : length got ≡ max (span_of d).lo (b * A) - (span_of d).lo = l.so_far in
      get_or_append_left got (piece A d b bytes) 0 (x - (span_of d).lo) (omega arith) ∙ read x covered lt
  | inr f ↦
      let ge : b * A ≤ x = grind (arith, f) in
      let at : x / A ≡ b = own_block A b x pos ge below in
      ap (λ (l : List ℕ). get_or l (x - (span_of d).lo) 0) (sym (append-nil (got ++ piece A d b bytes)))
      ∙ piece_value A d b x got bytes [] pos l whole covered at
      ∙ ap (λ (l : List ℕ). get_or l (x % A) 0) (is ∙ ap now.now (sym at))
      ∙ same x
]

-- the first block, and behind the last one
pub read_none : (A : ℕ) (old : Image) (d : Client) → 0 < A → HasRead A old d (edge A d Head * A) []
read_none A old d pos x covered below =
    let low : edge A d Head * A ≤ (span_of d).lo = head_low A d pos in
    let le : (span_of d).lo ≤ x = covers_low d x covered in
    absurd (omega arith)

pub read_next : (A : ℕ) (old : Image) (d : Client) (b : ℕ) (got : List ℕ) → HasRead A old d (b * A + A) got → HasRead A old d ((b + 1) * A) got
read_next A old d b got read x covered below = let e : b * A + A ≡ (b + 1) * A = omega arith in read x covered (omega arith)

pub read_last : (A : ℕ) (old : Image) (d : Client) (b : ℕ) (got : List ℕ) → 0 < A → (span_of d).lo < (span_of d).hi → b ≡ edge A d Tail → HasRead A old d (b * A + A) got →
    (x : ℕ) → covers d x ≡ true → reply_at d got x ≡ byte_at A old x
read_last A old d b got pos some is read x covered =
    let high : x < (span_of d).hi = covers_high d x covered in
    let far : (span_of d).hi ≤ edge A d Tail * A + A = tail_high A d pos some in
    let same : b * A ≡ edge A d Tail * A = ap (λ (n : ℕ). n * A) is in
    read x covered (omega arith)

-- What one step may leave of a byte: what was left before, the byte as it is now, or what the step's refused store had for it.
use Rattle.std.proofs.Common.{◌≡◌, ◌≢◌, ℕ, zero, suc, ◌/◌, ◌%◌, ◌<◌, ◌⊎◌, inl, inr, Bool, true, false, ◌==◌, cond, List, [], ◌∷◌, length, get_or, IsTrue, refl, sym, ap, ◌∙◌, subst, arith, true≢false, eq-eqb}
use Rattle.std.specs.List.{AllByRecursion, Contains}
use Rattle.qs_bytes.specs.Geometry.{stripe_of}
use Rattle.qs_cells.specs.declared.cell.CellEntry.{CellEntry}
use Rattle.qs_cells.specs.declared.cell.CellEntry.TheVariants.{Maybe}
use Rattle.qs_cells.specs.Cells.{value_after}
use Rattle.qs_model.specs.Puts.{put}
use Rattle.qs_model.specs.Requests.{Client, Pads, Stage, ToStore, In, covers, body_at, writes}
use Rattle.qs_model.specs.Worlds.{Image, World, byte_at}
use Rattle.qs_model.specs.Acts.{Act, Stores, StoreFails, Syncs, Element, Did, Crashed}
use Rattle.qs_model.specs.Guards.{CanStore, MayDo, CanCome}
use Rattle.qs_model.specs.Steps.{imaged, happens, stripe_settled, block_written}
use Rattle.qs_model.specs.Histories.{cell_at, cell_of, writes_in}
use Rattle.qs_model.proofs.Basics.{choose, either, put_here, put_other, put_tells, same_or}
use Rattle.qs_model.proofs.Cells.{covered_byte, pad_byte, row_leads, three, unwritten, written_byte}
use Rattle.qs_model.proofs.Facts.{Keeps, Ok, Shaped}
use Rattle.qs_durable.specs.Ages.{MayBeLeft}

-- every member of a list is so
pub member_is : {X : Type 0} (P : X → Type 0) (xs : List X) (y : X) → AllByRecursion P xs → Contains xs y → P y
member_is {X = X} P xs y all among = go xs among.0 all among.1 among.2
  where
    go : (xs : List X) (k : ℕ) → AllByRecursion P xs → k < length xs → get_or xs k y ≡ y → P y
    go [] k all short is = absurd (omega arith)
    go (x ∷ xs) zero all short is = subst P is all.0
    go (x ∷ xs) (suc k) all short is = go xs k all.1 (omega arith) is

pub only_member : {X : Type 0} (x y : X) → Contains (x ∷ []) y → y ≡ x
only_member x y among = member_is (λ z. z ≡ x) (x ∷ []) y (refl, tt) among

-- the byte v at x may be left of these contents of its block
pub record LeftIn (A x v : ℕ) (past : List (List ℕ)) : Type 0 where
  pub content : List ℕ
  pub left : Contains past content
  pub byte : get_or content (x % A) 0 ≡ v

pub left_in : (A : ℕ) (i : Image) (x v : ℕ) → MayBeLeft A i x v → LeftIn A x v (i.past (x / A))
left_in A i x v h = record { content = h.content; left = h.left; byte = h.byte }

pub may_leave : (A : ℕ) (i : Image) (x v : ℕ) → LeftIn A x v (i.past (x / A)) → MayBeLeft A i x v
may_leave A i x v h = record { content = h.content; left = h.left; byte = h.byte }

-- the step's entry of x is a refused store of the byte v
pub record IsRefusal (A x v : ℕ) (entries : List CellEntry) : Type 0 where
  pub number : ℕ
  pub took : Bool
  pub entry : entries ≡ Maybe number v took ∷ []

-- where the byte v at x comes from, that may be left behind a step
abbrev pub Comes : ℕ → ℕ → ℕ → Image → Image → List CellEntry → Type 0
Comes A x v old new entries = MayBeLeft A old x v ⊎ ((byte_at A new x ≡ v) ⊎ IsRefusal A x v entries)

-- a store of block b: what may be left of a block
stored_left : (A : ℕ) (i : Image) (k : ℕ) (c : Client) (p : Pads) (b x v : ℕ) (bytes : List ℕ) (past : List (List ℕ)) → CanStore A i k c p b bytes past →
    LeftIn A x v (put i.past b past (x / A)) → MayBeLeft A i x v ⊎ ((x / A ≡ b) × (get_or bytes (x % A) 0 ≡ v))
stored_left A i k c p b x v bytes past can h = elim (same_or (x / A) b) [
  | inl e ↦
      let left : Contains past h.content = subst (λ (l : List (List ℕ)). Contains l h.content) (ap (put i.past b past) e ∙ put_here i.past b past) h.left in
      elim (member_is (λ d. (d ≡ bytes) ⊎ Contains (i.past b) d) past h.content can.older left) [
        | inl same ↦ inr (e, ap (λ (l : List ℕ). get_or l (x % A) 0) (sym same) ∙ h.byte)
        | inr old ↦ inl (record { content = h.content; left = subst (λ (n : ℕ). Contains (i.past n) h.content) (sym e) old; byte = h.byte })
      ]
  | inr n ↦ inl (record {
    content = h.content;
    left = subst (λ (l : List (List ℕ)). Contains l h.content) (put_other i.past b past (x / A) n) h.left;
    byte = h.byte;
  })
]

-- a refused store has the byte for x in its entry, or the byte is as it was
refused_byte : (A x r v : ℕ) (w : World) (k : ℕ) (c : Client) (p : Pads) (b : ℕ) (bytes : List ℕ) (took : Bool) (past : List (List ℕ)) → 0 < A → IsTrue w.tells →
    let act : Act (In k (ToStore b)) = StoreFails bytes took past in
    Shaped A c (In k (ToStore b)) → Keeps A w.tells w.image c p (In k (ToStore b)) → MayDo A w c p act → x / A ≡ b → get_or bytes (x % A) 0 ≡ v →
    (byte_at A (imaged A w.image c act) x ≡ v) ⊎ IsRefusal A x v (cell_of A x r c act)
refused_byte A x r v w k c p b bytes took past pos told fit kept may here byte =
    let act : Act (In k (ToStore b)) = StoreFails bytes took past in
    elim (either (writes_in A c b x)) [
      | inl e ↦
          let covered : covers c x ≡ true = (three (writes c) (covers c x) (x / A == b) e).1 in
          let own : get_or bytes (x % A) 0 ≡ body_at c x = covered_byte A w.image k c p b x bytes past pos may.0 covered here in
          inr (record {
            number = r;
            took = took;
            entry = ap (λ (t : Bool). cond t (Maybe r (body_at c x) took ∷ []) []) e ∙ ap (λ (u : ℕ). Maybe r u took ∷ []) (sym own ∙ byte);
          })
      | inr e ↦
          let same : get_or bytes (x % A) 0 ≡ byte_at A w.image x =
          pad_byte A w.tells w.image k c p b x bytes past pos told may.0 fit kept (unwritten A c b x fit.writing e here) here in
          inl ((row_leads A x r w c p act pos told fit kept may).leaves
          ∙ ap (λ (t : Bool). value_after (byte_at A w.image x) (cond t (Maybe r (body_at c x) took ∷ []) [])) e ∙ sym same ∙ byte)
    ]

pub row_comes : (A x r v : ℕ) (w : World) (c : Client) (p : Pads) {stage : Stage} (act : Act stage) → 0 < A → IsTrue w.tells → Shaped A c stage →
    Keeps A w.tells w.image c p stage → MayDo A w c p act → MayBeLeft A (imaged A w.image c act) x v →
    Comes A x v w.image (imaged A w.image c act) (cell_of A x r c act)
row_comes A x r v w c p (Stores {k = k} {b = b} bytes past) pos told fit kept may h =
    elim (stored_left A w.image k c p b x v bytes past may.0 (left_in A (block_written w.image b bytes past) x v h)) [
      | inl old ↦ inl old
      | inr is ↦ inr (inl (written_byte A w.image b x bytes is.0 ∙ is.1))
    ]
row_comes A x r v w c p (StoreFails {k = k} {b = b} bytes took past) pos told fit kept may h =
    elim (stored_left A w.image k c p b x v bytes past may.0 (left_in A (block_written w.image b (cond took bytes (w.image.now b)) past) x v h)) [
      | inl old ↦ inl old
      | inr is ↦ inr (refused_byte A x r v w k c p b bytes took past pos told fit kept may is.0 is.1)
    ]
row_comes A x r v w c p (Syncs {s = s}) pos told fit kept may h =
    choose (λ l. LeftIn A x v l → MayBeLeft A w.image x v ⊎ ((byte_at A w.image x ≡ v) ⊎ IsRefusal A x v [])) (stripe_of (x / A) == s) _ _
    (λ e is. inr (inl (ap (λ (l : List ℕ). get_or l (x % A) 0) (sym (only_member (w.image.now (x / A)) is.content is.left)) ∙ is.byte)))
    (λ e is. inl (may_leave A w.image x v is))
    (left_in A (stripe_settled w.image s) x v h)
row_comes A x r v w c p _ pos told fit kept may h = inl (record { content = h.content; left = h.left; byte = h.byte })

pub step_comes : (A x v : ℕ) (w : World) (e : Element) → 0 < A → IsTrue w.tells → Ok A w → CanCome A w e → MayBeLeft A (happens A w e).image x v →
    Comes A x v w.image (happens A w e).image (cell_at A x e)
step_comes A x v w (Did r q act) pos told ok may h =
    row_comes A x r v w q.client q.pads act pos told (ok.well r q may.0).shaped (ok.well r q may.0).kept may.1 h
step_comes A x v w (Crashed left) pos told ok may h =
    inr (inl (ap (λ (l : List ℕ). get_or l (x % A) 0) (sym (only_member (left (x / A)) h.content h.left)) ∙ h.byte))
step_comes A x v w _ pos told ok may h = inl (record { content = h.content; left = h.left; byte = h.byte })

-- of a stripe that is clean a crash leaves what its blocks hold
abbrev pub IsAlone : Image → ℕ → Type 0
IsAlone i b = i.past b ≡ i.now b ∷ []

abbrev pub KeepsAlone : Image → Type 0
KeepsAlone i = (b : ℕ) → i.clean (stripe_of b) ≡ true → IsAlone i b

written_alone : (i : Image) (b : ℕ) (now : List ℕ) (past : List (List ℕ)) → KeepsAlone i → KeepsAlone (block_written i b now past)
written_alone i b now past alone c clean = elim (put_tells i.clean (stripe_of b) false (stripe_of c) true clean) [
  | inl h ↦ absurd (true≢false (sym h.1))
  | inr h ↦
      let other : c ≢ b = λ e. h.0 (ap stripe_of e) in
      put_other i.past b past c other ∙ alone c h.1 ∙ ap (λ (l : List ℕ). l ∷ []) (sym (put_other i.now b now c other))
]

settled_alone : (i : Image) (s : ℕ) → KeepsAlone i → KeepsAlone (stripe_settled i s)
settled_alone i s alone c clean =
    choose (λ l. l ≡ i.now c ∷ []) (stripe_of c == s) _ _ (λ e. refl) (λ e. elim (put_tells i.clean s true (stripe_of c) true clean) [
      | inl h ↦ absurd (true≢false (sym (eq-eqb (stripe_of c) s h.0) ∙ e))
      | inr h ↦ alone c h.1
    ])

pub step_alone : (A : ℕ) (w : World) (e : Element) → KeepsAlone w.image → KeepsAlone (happens A w e).image
step_alone A w (Did r q act) alone = go q.client act
  where
    go : (c : Client) {stage : Stage} (act : Act stage) → KeepsAlone (imaged A w.image c act)
    go c (Stores {b = b} bytes past) = written_alone w.image b bytes past alone
    go c (StoreFails {b = b} bytes took past) = written_alone w.image b (cond took bytes (w.image.now b)) past alone
    go c (Syncs {s = s}) = settled_alone w.image s alone
    go c _ = alone
step_alone A w (Crashed left) alone = λ b clean. refl
step_alone A w _ alone = alone

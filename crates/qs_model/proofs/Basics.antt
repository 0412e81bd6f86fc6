-- Functions with one value changed, choices, and numbers of blocks.
use Rattle.std.proofs.Common.{◌≡◌, ◌≢◌, ℕ, ◌+◌, ◌*◌, ◌/◌, ◌%◌, ◌<◌, ◌≤◌, ◌⊎◌, inl, inr, Bool, true, false, cond, ◌==◌, refl, sym, ap, ◌∙◌, subst, arith, eq-eqb, ne_eqb}
use Rattle.qs_model.specs.Puts.{put}

-- a choice, by the test that makes it
pub choose : {X : Type 0} (P : X → Type 0) (b : Bool) (x y : X) → (b ≡ true → P x) → (b ≡ false → P y) → P (cond b x y)
choose P true x y yea nay = yea refl
choose P false x y yea nay = nay refl

-- a test is true or false
pub either : (b : Bool) → (b ≡ true) ⊎ (b ≡ false)
either true = inl refl
either false = inr refl

pub put_here : {X : Type 0} (f : ℕ → X) (k : ℕ) (v : X) → put f k v k ≡ v
unfolding put
put_here f k v = ap (λ (b : Bool). cond b v (f k)) (eq-eqb k k refl)

pub put_other : {X : Type 0} (f : ℕ → X) (k : ℕ) (v : X) (j : ℕ) → j ≢ k → put f k v j ≡ f j
unfolding put
put_other f k v j other = ap (λ (b : Bool). cond b v (f j)) (ne_eqb j k other)

-- two numbers are the same or not
pub same_or : (j k : ℕ) → (j ≡ k) ⊎ (j ≢ k)
same_or j k = go (j == k) refl
  where
    go : (b : Bool) → (j == k) ≡ b → (j ≡ k) ⊎ (j ≢ k)
    go true is = inl (grind (arith, is))
    go false is = inr (λ e. grind (arith, is, e))

-- what holds of the value of a changed function: it holds of the new value there, and of the others
pub put_cases : {X : Type 0} (P : X → Type 0) (f : ℕ → X) (k : ℕ) (v : X) (j : ℕ) → (j ≡ k → P v) → (j ≢ k → P (f j)) → P (put f k v j)
put_cases P f k v j here there =
    elim (same_or j k) [
      | inl e ↦ subst (λ (i : ℕ). P (put f k v i)) (sym e) (subst P (sym (put_here f k v)) (here e))
      | inr n ↦ subst P (sym (put_other f k v j n)) (there n)
    ]

-- what a value of a changed function tells
pub put_tells : {X : Type 0} (f : ℕ → X) (k : ℕ) (v : X) (j : ℕ) (y : X) → put f k v j ≡ y → ((j ≡ k) × (v ≡ y)) ⊎ ((j ≢ k) × (f j ≡ y))
put_tells f k v j y is =
    elim (same_or j k) [
      | inl e ↦ inl (e, sym (put_here f k v) ∙ ap (λ (i : ℕ). put f k v i) (sym e) ∙ is)
      | inr n ↦ inr (n, sym (put_other f k v j n) ∙ is)
    ]

-- blocks in order
pub blocks_le : (m n A : ℕ) → m ≤ n → m * A ≤ n * A
blocks_le m n A h = grind (arith, h)

pub blocks_lt : (m n A : ℕ) → m < n → m * A + A ≤ n * A
blocks_lt m n A h = let g : (m + 1) * A ≤ n * A = blocks_le (m + 1) n A (omega arith) in omega arith

pub block_low : (x A : ℕ) → 0 < A → x / A * A ≤ x
block_low x A h = omega arith

pub block_high : (x A : ℕ) → 0 < A → x < x / A * A + A
block_high x A h = omega arith

pub block_at : (x A : ℕ) → 0 < A → x / A * A + x % A ≡ x
block_at x A h = omega arith

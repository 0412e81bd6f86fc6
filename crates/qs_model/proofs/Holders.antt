-- Each hold is an open one of a request, after a step too.
use Rattle.std.proofs.Common.{◌≡◌, ◌≢◌, ℕ, ◌⊎◌, inl, inr, Bool, true, false, not, ◌&&◌, ◌==◌, Option, Some, None, refl, sym, ap, ◌∙◌, subst, arith, true≢false, ne_eqb}
use Rattle.qs_part.specs.declared.stripe.Side.{Side}
use Rattle.qs_part.specs.declared.stripe.Side.TheVariants.{Head, Tail}
use Rattle.qs_model.specs.Puts.{put}
use Rattle.qs_model.specs.Requests.{Client, Pads, Req, Stage, In, edge, has, held, stored, hold_failed, store_failed}
use Rattle.qs_model.specs.Worlds.{Hold, Image, World}
use Rattle.qs_model.specs.Acts.{Act, Answers, Waits, Enters, Routes, Shuts, Lists, Starts, Loads, LoadFails, Holds, HoldFails, Stores, StoreFails, Syncs, Cleans, SyncFails, Frees, Ends}
use Rattle.qs_model.specs.Steps.{moved, imaged}
use Rattle.qs_model.proofs.Basics.{choose, put_here, put_tells}
use Rattle.qs_model.proofs.Syncing.{stored_is}
use Rattle.qs_model.proofs.Facts.{Shaped, IsOpen, IsHolder}

-- there still is a request, and this holds of it
abbrev pub HasMoved : (Req → Type 0) → Option Req → Type 0
HasMoved P None = ⊥
HasMoved P (Some q) = P q

pub stored_open : (A : ℕ) (c : Client) (b : ℕ) → has A c Tail ≡ true → edge A c Tail ≢ b → IsOpen A c (stored A c b) Tail
stored_open A c b wanted other =
    stored_is (λ g. IsOpen A c g Tail) A c b (λ e. absurd (other_block_true b (edge A c Tail) e other))
    (λ e s lt. absurd (other_block_true b (edge A c Tail) e other)) (λ e. wanted)
  where
    other_block_true : (a d : ℕ) → (a == d) ≡ true → d ≢ a → ⊥
    other_block_true a d e n = grind (arith, e, n)

pub store_failed_open : (A : ℕ) (c : Client) (b : ℕ) → has A c Tail ≡ true → edge A c Tail ≢ b → IsOpen A c (store_failed A c b) Tail
unfolding store_failed
store_failed_open A c b wanted other =
    choose (λ g. IsOpen A c g Tail) (has A c Tail && not (b == edge A c Tail)) _ _ (λ e. tt) (λ e. absurd (go (has A c Tail) wanted (b == edge A c Tail) (ne_eqb b (edge A c Tail) (λ f. other (sym f))) e))
  where
    go : (h : Bool) → h ≡ true → (t : Bool) → t ≡ false → h && not t ≡ false → ⊥
    go true i true j e = true≢false j
    go true i false j e = true≢false e
    go false i t j e = true≢false (sym i)

pub hold_failed_open : (A : ℕ) (c : Client) → has A c Head ≡ true → IsOpen A c (hold_failed A c Tail) Head
unfolding hold_failed
hold_failed_open A c wanted = choose (λ g. IsOpen A c g Head) (has A c Head) _ _ (λ e. tt) (λ e. absurd (true≢false (sym wanted ∙ e)))

pub held_open : (A : ℕ) (c : Client) (side : Side) → has A c side ≡ true → IsOpen A c (held A c side) side
unfolding held
held_open A c Head wanted = choose (λ g. IsOpen A c g Head) (has A c Tail) _ _ (λ e. wanted) (λ e. (wanted, refl))
held_open A c Tail wanted = wanted

pub held_open_head : (A : ℕ) (c : Client) → has A c Head ≡ true → IsOpen A c (held A c Tail) Head
unfolding held
held_open_head A c wanted = (wanted, refl)

pub some_none : {X : Type 0} {x : X} → Some x ≡ None → ⊥
some_none e = cc

-- nobody holds a block that was stored or freed
pub lost : (i : Image) (n b : ℕ) → b ≡ n → (h : Option Hold) → put i.holder n None b ≡ h → h ≡ None
lost i n b same h is = sym is ∙ ap (λ (x : ℕ). put i.holder n None x) same ∙ put_here i.holder n None

-- a hold that isn't gone is still an open one of its request
pub own_holder : (A : ℕ) (w : World) (c : Client) (d : Bool) (p : Pads) {stage : Stage} (act : Act stage) (j : ℕ) (side : Side) (b : ℕ) → Shaped A c stage →
    IsHolder A c stage (record { place = j; side = side }) b → (imaged A w.image c act).holder b ≡ Some (record { place = j; side = side }) →
    HasMoved (λ q. IsHolder A q.client q.stage (record { place = j; side = side }) b) (moved A c d p act)
own_holder A w c d p Answers j side b fit holds is = absurd holds
own_holder A w c d p (Waits wait) j side b fit holds is = holds
own_holder A w c d p (Enters k) j side b fit holds is = absurd holds
own_holder A w c d p (Routes route) j side b fit holds is = absurd holds.1
own_holder A w c d p Shuts j side b fit holds is = absurd holds.1
own_holder A w c d p (Lists n) j side b fit holds is = absurd holds.1
own_holder A w c d p Starts j side b fit holds is = absurd holds.1
own_holder A w c d p (Loads bytes) j side b fit holds is = absurd holds.1
own_holder A w c d p LoadFails j side b fit holds is = absurd holds.1
own_holder A w c d p (Holds {side = Head} bytes) j side b fit holds is = absurd holds.1
own_holder A w c d p (Holds {side = Tail} bytes) j Head b fit holds is = (holds.0, held_open_head A c holds.1, holds.2)
own_holder A w c d p (Holds {side = Tail} bytes) j Tail b fit holds is = absurd holds.1
own_holder A w c d p (HoldFails {side = Head}) j side b fit holds is = absurd holds.1
own_holder A w c d p (HoldFails {side = Tail}) j Head b fit holds is = (holds.0, hold_failed_open A c holds.1, holds.2)
own_holder A w c d p (HoldFails {side = Tail}) j Tail b fit holds is = absurd holds.1
own_holder A w c d p (Stores {b = n} bytes past) j Head b fit holds is =
    absurd (some_none (lost w.image n b (sym holds.2 ∙ sym holds.1.1) _ is))
own_holder A w c d p (Stores {b = n} bytes past) j Tail b fit holds is =
    (holds.0, stored_open A c n holds.1 (λ e. some_none (lost w.image n b (sym holds.2 ∙ e) _ is)), holds.2)
own_holder A w c d p (StoreFails {b = n} bytes took past) j Head b fit holds is =
    absurd (some_none (lost w.image n b (sym holds.2 ∙ sym holds.1.1) _ is))
own_holder A w c d p (StoreFails {b = n} bytes took past) j Tail b fit holds is =
    (holds.0, store_failed_open A c n holds.1 (λ e. some_none (lost w.image n b (sym holds.2 ∙ e) _ is)), holds.2)
own_holder A w c d p Syncs j side b fit holds is = absurd holds.1
own_holder A w c d p Cleans j side b fit holds is = absurd holds.1
own_holder A w c d p SyncFails j side b fit holds is = absurd holds.1
own_holder A w c d p (Frees {side = Head}) j Head b fit holds is = absurd (some_none (lost w.image (edge A c Head) b (sym holds.2) _ is))
own_holder A w c d p (Frees {side = Head}) j Tail b fit holds is = absurd holds.1
own_holder A w c d p (Frees {side = Tail}) j Head b fit holds is = absurd holds.1
own_holder A w c d p (Frees {side = Tail}) j Tail b fit holds is = absurd (some_none (lost w.image (edge A c Tail) b (sym holds.2) _ is))
own_holder A w c d p Ends j side b fit holds is = absurd holds.1

-- who holds a block after a step held it before, or took it now
abbrev pub IsTaken : ℕ → Client → {stage : Stage} → Act stage → ℕ → Hold → Type 0
IsTaken A c (Holds {k = k} {side = side} bytes) b h = (b ≡ edge A c side) × (h ≡ record { place = k; side = side })
IsTaken A c _ b h = ⊥

pub holder_before : (A : ℕ) (w : World) (c : Client) {stage : Stage} (act : Act stage) (b : ℕ) (h : Hold) → (imaged A w.image c act).holder b ≡ Some h →
    (w.image.holder b ≡ Some h) ⊎ IsTaken A c act b h
holder_before A w c (Holds {k = k} {side = side} bytes) b h is =
    elim (put_tells w.image.holder (edge A c side) (Some (record { place = k; side = side })) b (Some h) is) [
      | inl e ↦ inr (e.0, inside h (record { place = k; side = side }) (sym e.1))
      | inr e ↦ inl e.1
    ]
  where
    inside : (x y : Hold) → Some x ≡ Some y → x ≡ y
    inside x y e = cc
holder_before A w c (Stores {b = n} bytes past) b h is =
    elim (put_tells w.image.holder n None b (Some h) is) [ inl e ↦ absurd (some_none (sym e.1)) | inr e ↦ inl e.1 ]
holder_before A w c (StoreFails {b = n} bytes took past) b h is =
    elim (put_tells w.image.holder n None b (Some h) is) [ inl e ↦ absurd (some_none (sym e.1)) | inr e ↦ inl e.1 ]
holder_before A w c (Frees {side = side}) b h is =
    elim (put_tells w.image.holder (edge A c side) None b (Some h) is) [ inl e ↦ absurd (some_none (sym e.1)) | inr e ↦ inl e.1 ]
holder_before A w c _ b h is = inl is

-- a hold that was taken now is an open one
pub new_holder : (A : ℕ) (w : World) (c : Client) (d : Bool) (p : Pads) {stage : Stage} (act : Act stage) (b : ℕ) (h : Hold) → Shaped A c stage → IsTaken A c act b h →
    HasMoved (λ q. IsHolder A q.client q.stage h b) (moved A c d p act)
new_holder A w c d p (Holds {k = k} {side = side} bytes) b h fit taken =
    subst (λ (g : Hold). IsHolder A c (In k (held A c side)) g b) (sym taken.1) (refl, held_open A c side fit.wanted, sym taken.0)
new_holder A w c d p _ b h fit taken = absurd taken

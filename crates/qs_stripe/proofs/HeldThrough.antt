-- A hold stands until its place stores or frees the block.
use Rattle.std.proofs.Common.{◌≡◌, ◌≢◌, ℕ, ◌⊎◌, List, [], ◌∷◌, ◌++◌, refl, sym, ap, subst, ◌∙◌, inl, inr}
use Rattle.std.specs.Prelude.{Option, Some, None}
use Rattle.std.specs.List.{AllByRecursion}
use Rattle.std.proofs.lemmas.Bool.Decides.{eqb_tells}
use Rattle.qs_part.specs.declared.stripe.Side.{Side}
use Rattle.qs_part.specs.declared.stripe.Side.TheVariants.{Head, Tail}
use Rattle.qs_part.specs.declared.stripe.StripeOp.{StripeOp}
use Rattle.qs_part.specs.declared.stripe.StripeOp.TheVariants.{Load, Hold, Store, Free, Sync}
use Rattle.qs_part.specs.declared.stripe.StripeReply.{StripeReply}
use Rattle.qs_part.specs.declared.stripe.StripeReply.TheVariants.{Filled, Fault, HeldBy, Taken, Done, Freed, NotHeld, Clean, Synced}
use Rattle.qs_part.specs.Histories.{Call, lawful, StandsFor}
use Rattle.qs_part.proofs.Histories.{stands_split}
use Rattle.qs_stripe.specs.Holds.{IsHeld, Takes, LetsGo}
use Rattle.qs_stripe.specs.Table.{StripeValue, Fits, answers, geometry}
use Rattle.qs_stripe.specs.History.{BeginsHold, EndsHold, WritesBlock, HeldIn}

abbrev IsHead : Side → Type 0
IsHead Head = Unit {0}
IsHead Tail = ⊥

same_side : (e s : Side) → (e ≡ s) ⊎ (e ≢ s)
same_side Head Head = inl refl
same_side Head Tail = inr (λ h. subst IsHead h tt)
same_side Tail Head = inr (λ h. subst IsHead (sym h) tt)
same_side Tail Tail = inl refl

abbrev block_or : Option ℕ → ℕ
block_or None = 0
block_or (Some b) = b

abbrev Something : Option ℕ → Type 0
Something None = ⊥
Something (Some b) = Unit {0}

takes-end : (k b j : ℕ) (side : Side) (c : ℕ) (old new : ℕ → Side → Option ℕ) (e : Side) → Takes j side c old new → old j side ≡ None
    → old k e ≡ Some b → new k e ≡ Some b
takes-end k b j side c old new e takes free h =
    elim (eqb_tells k j) [
      | inl same ↦ elim (same_side e side) [
        | inl end ↦ absurd (subst Something (sym h ∙ ap (λ i. old i e) same.1 ∙ ap (old j) end ∙ free) tt)
        | inr end ↦ takes.others k e (inr end) ∙ h
      ]
      | inr other ↦ takes.others k e (inl other.1) ∙ h
    ]

goes-end : (k b j c : ℕ) (old new : ℕ → Side → Option ℕ) (e : Side) → LetsGo j c old new → ((c ≡ b) × (j ≡ k) → ⊥)
    → old k e ≡ Some b → new k e ≡ Some b
goes-end k b j c old new e goes not h =
    elim (eqb_tells k j) [
      | inl same ↦ elim (eqb_tells c b) [
        | inl block ↦ absurd (not (block.1, sym same.1))
        | inr block ↦ goes.others k e (inr (λ s. block.1 (ap block_or (sym s ∙ h)))) ∙ h
      ]
      | inr other ↦ goes.others k e (inl other.1) ∙ h
    ]

takes-keeps : (k b j : ℕ) (side : Side) (c : ℕ) (old new : ℕ → Side → Option ℕ) → Takes j side c old new → old j side ≡ None
    → IsHeld old k b → IsHeld new k b
takes-keeps k b j side c old new takes free (inl h) = inl (takes-end k b j side c old new Head takes free h)
takes-keeps k b j side c old new takes free (inr h) = inr (takes-end k b j side c old new Tail takes free h)

goes-keeps : (k b j c : ℕ) (old new : ℕ → Side → Option ℕ) → LetsGo j c old new → ((c ≡ b) × (j ≡ k) → ⊥)
    → IsHeld old k b → IsHeld new k b
goes-keeps k b j c old new goes not (inl h) = inl (goes-end k b j c old new Head goes not h)
goes-keeps k b j c old new goes not (inr h) = inr (goes-end k b j c old new Tail goes not h)

same-keeps : (k b : ℕ) (old new : StripeValue) → new.hold ≡ old.hold → IsHeld old.hold k b → IsHeld new.hold k b
same-keeps k b old new same held = subst (λ (h : ℕ → Side → Option ℕ). IsHeld h k b) (sym same) held

still-keeps : (k b : ℕ) (old new : StripeValue) → new ≡ old → IsHeld old.hold k b → IsHeld new.hold k b
still-keeps k b old new same held = subst (λ (v : StripeValue). IsHeld v.hold k b) (sym same) held

-- each answer leaves a hold that it doesn't end
step-keeps : (k b : ℕ) (old : StripeValue) (op : StripeOp) (reply : StripeReply) (new : StripeValue) → answers old op reply new
    → (EndsHold k b op reply → ⊥) → IsHeld old.hold k b → IsHeld new.hold k b
step-keeps k b old (Load c j buf) (Filled got) new row not held = same-keeps k b old new row.2 held
step-keeps k b old (Load c j buf) (Fault (Some back)) new row not held = same-keeps k b old new row.2 held
step-keeps k b old (Hold c j end buf) (HeldBy i back) new row not held = still-keeps k b old new row.2 held
step-keeps k b old (Hold c j end buf) (Taken d back) new row not held = still-keeps k b old new row.3 held
step-keeps k b old (Hold c j end buf) (Filled got) new row not held = takes-keeps k b j end c old.hold new.hold row.4 row.1 held
step-keeps k b old (Hold c j end buf) (Fault (Some back)) new row not held = same-keeps k b old new row.4 held
step-keeps k b old (Store c j buf) (HeldBy i back) new row not held = still-keeps k b old new row.3 held
step-keeps k b old (Store c j buf) (Done back) new row not held = goes-keeps k b j c old.hold new.hold row.4 not held
step-keeps k b old (Store c j buf) (Fault (Some back)) new row not held = goes-keeps k b j c old.hold new.hold row.4 not held
step-keeps k b old (Free c j) Freed new row not held = goes-keeps k b j c old.hold new.hold row.2 not held
step-keeps k b old (Free c j) NotHeld new row not held = still-keeps k b old new row.1 held
step-keeps k b old Sync Clean new row not held = still-keeps k b old new row.1 held
step-keeps k b old Sync Synced new row not held = same-keeps k b old new row.3 held
step-keeps k b old Sync (Fault None) new row not held = same-keeps k b old new row.3 held
step-keeps k b old _ _ new row not held = absurd row

takes-holds : (k b j : ℕ) (side : Side) (c : ℕ) (old new : ℕ → Side → Option ℕ) → Takes j side c old new → c ≡ b → j ≡ k → IsHeld new k b
takes-holds k b j Head c old new takes block place = inl (rw (← block, ← place) takes.here)
takes-holds k b j Tail c old new takes block place = inr (rw (← block, ← place) takes.here)

-- a hold stands behind the answer that begins it
begins : (k b : ℕ) (old : StripeValue) (op : StripeOp) (reply : StripeReply) (new : StripeValue) → answers old op reply new
    → BeginsHold k b op reply → IsHeld new.hold k b
begins k b old (Hold c j end buf) (Filled got) new row is = takes-holds k b j end c old.hold new.hold row.4 is.0 is.1
begins k b old _ _ new row is = absurd is

-- where k holds a block nobody else writes it
only-holder : (k b j : ℕ) (old : StripeValue) (op : StripeOp) (reply : StripeReply) (new : StripeValue) → answers old op reply new
    → IsHeld old.hold k b → j ≢ k → WritesBlock j b op reply → ⊥
only-holder k b j old (Store c i buf) (Done back) new row held other is =
    other (sym is.1 ∙ sym (row.0 k (subst (IsHeld old.hold k) (sym is.0) held)))
only-holder k b j old (Store c i buf) (Fault (Some back)) new row held other is =
    other (sym is.1 ∙ sym (row.0 k (subst (IsHeld old.hold k) (sym is.0) held)))
only-holder k b j old (Store c i buf) (Fault None) new row held other is = row
only-holder k b j old _ _ new row held other is = is

-- a hold stands behind calls that don't end it
through : (k b : ℕ) (v : StripeValue) (between : List (Call StripeOp StripeReply)) (w : StripeValue)
    → StandsFor (lawful geometry Fits answers) v between w → AllByRecursion (λ c. EndsHold k b c.op c.reply → ⊥) between
    → IsHeld v.hold k b → IsHeld w.hold k b
through k b v [] w stands all held = subst (λ (x : StripeValue). IsHeld x.hold k b) stands held
through k b v (c ∷ cs) w stands all held =
    through k b stands.0 cs w stands.2 all.1 (step-keeps k b v c.op c.reply stands.0 stands.1.1 all.0 held)

pub held_in : (opening : StripeValue) (cs : List (Call StripeOp StripeReply)) (v : StripeValue)
    → StandsFor (lawful geometry Fits answers) opening cs v → HeldIn cs
held_in opening cs v stands before between after first last b j k is begun all other writes =
    let whole = subst (λ (l : List (Call StripeOp StripeReply)). StandsFor (lawful geometry Fits answers) opening l v) is stands in
    let front = stands_split (lawful geometry Fits answers) opening before (first ∷ (between ++ last ∷ after)) v whole in
    let middle = stands_split (lawful geometry Fits answers) front.2.0 between (last ∷ after) v front.2.2 in
    let held = begins k b front.0 first.op first.reply front.2.0 front.2.1.1 begun in
    only-holder k b j middle.0 last.op last.reply middle.2.0 middle.2.1.1 (through k b front.2.0 between middle.0 middle.1 all held) other writes

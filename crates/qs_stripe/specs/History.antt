-- Histories of a stripe, and the holds in them.
use Rattle.std.specs.Prelude.{◌≡◌, ◌≢◌, ℕ, Bool, true, false, List, [], ◌∷◌, ◌++◌}
use Rattle.std.specs.List.{AllByRecursion}
use Rattle.qs_part.specs.declared.stripe.StripeOp.{StripeOp}
use Rattle.qs_part.specs.declared.stripe.StripeOp.TheVariants.{Hold, Store, Free, Sync}
use Rattle.qs_part.specs.declared.stripe.StripeReply.{StripeReply}
use Rattle.qs_part.specs.declared.stripe.StripeReply.TheVariants.{Filled, Fault, Done, Freed, Synced}
use Rattle.qs_part.specs.Histories.{Call}

-- k gets a hold of b
abbrev pub BeginsHold : ℕ → ℕ → StripeOp → StripeReply → Type 0
BeginsHold k b (Hold c j end buf) (Filled got) = (c ≡ b) × (j ≡ k)
BeginsHold k b _ _ = ⊥

-- k writes b, or the disk refuses
abbrev pub WritesBlock : ℕ → ℕ → StripeOp → StripeReply → Type 0
WritesBlock k b (Store c j buf) (Done back) = (c ≡ b) × (j ≡ k)
WritesBlock k b (Store c j buf) (Fault back) = (c ≡ b) × (j ≡ k)
WritesBlock k b _ _ = ⊥

-- k ends its hold of b
abbrev pub EndsHold : ℕ → ℕ → StripeOp → StripeReply → Type 0
EndsHold k b (Free c j) Freed = (c ≡ b) × (j ≡ k)
EndsHold k b op reply = WritesBlock k b op reply

-- in a history, between a hold of block b by place k and the store or free of k that ends it, no store of b by another
-- place is done or reaches the disk
abbrev pub HeldIn : List (Call StripeOp StripeReply) → Type 0
HeldIn cs = (before between after : List (Call StripeOp StripeReply)) (first last : Call StripeOp StripeReply)
    (b j k : ℕ)
    → cs ≡ before ++ (first ∷ (between ++ last ∷ after))
    → BeginsHold k b first.op first.reply
    → AllByRecursion (λ c. EndsHold k b c.op c.reply → ⊥) between
    → j ≢ k → WritesBlock j b last.op last.reply → ⊥

-- whether a stripe is clean behind a call: a store that was done or refused by the disk dirties it, a sync cleans it
abbrev pub clean_behind : Bool → StripeOp → StripeReply → Bool
clean_behind clean (Store c j buf) (Done back) = false
clean_behind clean (Store c j buf) (Fault back) = false
clean_behind clean Sync Synced = true
clean_behind clean _ _ = clean

-- and behind a history
abbrev pub clean_after : Bool → List (Call StripeOp StripeReply) → Bool
clean_after clean [] = clean
clean_after clean (c ∷ cs) = clean_after (clean_behind clean c.op c.reply) cs

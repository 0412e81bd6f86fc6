-- What a crash may leave of the bytes behind a request that was alone.
use Rattle.std.specs.Prelude.{◌≡◌, ℕ, ◌⊎◌, true, [], ◌∷◌}
use Rattle.qs_bytes.specs.Geometry.{stripe_of}
use Rattle.qs_model.specs.Requests.{Client, body_at, covers, writes}
use Rattle.qs_model.specs.Worlds.{Image, byte_at}
use Rattle.qs_durable.specs.Ages.{MayBeLeft}

-- the request covers x, and stores v there
pub record IsStoredAt (d : Client) (x v : ℕ) : Type 0 where
  pub stores : writes d ≡ true
  pub covered : covers d x ≡ true
  pub byte : body_at d x ≡ v

-- whatever may be left of a byte might be left before, or is the byte as it was, or what the request stores there
abbrev pub Remains : ℕ → Image → Client → Image → Type 0
Remains A old d new = (x v : ℕ) → MayBeLeft A new x v → MayBeLeft A old x v ⊎ ((byte_at A old x ≡ v) ⊎ IsStoredAt d x v)

-- of each stripe that is clean nothing else may be left than what its blocks hold
abbrev pub IsCleanSettled : Image → Type 0
IsCleanSettled i = (b : ℕ) → i.clean (stripe_of b) ≡ true → i.past b ≡ i.now b ∷ []

-- and of no block may anything else be left
abbrev pub IsSettled : Image → Type 0
IsSettled i = (b : ℕ) → i.past b ≡ i.now b ∷ []

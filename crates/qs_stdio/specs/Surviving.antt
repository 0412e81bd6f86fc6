-- What a crash may leave of the image behind a session.
use Rattle.std.specs.Prelude.{◌≡◌, ℕ, ◌<◌, ◌⊎◌, List, [], ◌∷◌, ◌++◌, get_or}
use Rattle.qs_bytes.specs.declared.ask.Errno.TheVariants.{Io}
use Rattle.qs_bytes.specs.declared.ask.Kind.TheVariants.{Flush}
use Rattle.qs_bytes.specs.declared.ask.Verdict.TheVariants.{Fine, Refused}
use Rattle.qs_outside.specs.Blocks.{Seen}
use Rattle.qs_image.specs.Image.{content, size_of}
use Rattle.qs_single.specs.Remaining.{IsLeftAt, IsStoredAt}
use Rattle.qs_stdio.specs.Service.{Exchange, asked_in}

-- the request was EIO, and stores the byte u at x
abbrev pub IsRefusedAt : Exchange → ℕ → ℕ → Type 0
IsRefusedAt e x u = (e.verdict ≡ Refused Io) × IsStoredAt (asked_in e) e.message.body x u

-- u is the byte at x before these requests or behind one of them, or one of them that was EIO had it for x
abbrev pub Stood : List Seen → List Exchange → ℕ → ℕ → Type 0
Stood old [] x u = get_or (content old) x 0 ≡ u
Stood old (e ∷ es) x u = (get_or (content old) x 0 ≡ u) ⊎ (IsRefusedAt e x u ⊎ Stood e.left es x u)

-- Whatever a crash may leave of a byte is no older than the opening, and no older than any FLUSH that is Fine: the
-- byte stood there behind it, or a write that was EIO since then had it (NBD proto.md, FLUSH).
pub record Survives (old : List Seen) (xs : List Exchange) (new : List Seen) : Type 0 where
  pub opening : (x u : ℕ) → x < size_of old → IsLeftAt new x u → Stood old xs x u
  pub flushed : (front : List Exchange) (flush : Exchange) (behind : List Exchange) → xs ≡ front ++ flush ∷ behind →
      (asked_in flush).kind ≡ Flush →
      flush.verdict ≡ Fine → (x u : ℕ) → x < size_of old → IsLeftAt new x u → Stood flush.left behind x u

-- Names, as tests and as facts.
use Rattle.std.proofs.Common.{◌≡◌, ℕ, Bool, true, false, not, ◌&&◌, nat_lt, if◌then◌else◌, List, length, Option, Some, None, refl, ap}
use Rattle.std.specs.Option.{SomeIff}
use Rattle.std.specs.Str.{is_utf8}
use Rattle.std.proofs.lemmas.Bool.{ltb-false, le-ltb}
use Rattle.std.proofs.lemmas.Str.{IsUtf8-from_is_utf8, is_utf8-from_IsUtf8}
use Rattle.qs_bytes.specs.Names.{IsName}
use Rattle.qs_nbd_handshake.specs.Inquiries.{name_in}

no_name : (bytes : List ℕ) (a b : Bool) → is_utf8 bytes ≡ a → nat_lt 63 (length bytes) ≡ b → (IsName bytes → ⊥) →
    None ≡ (if a && not b then Some bytes else None)
no_name bytes true false e f none = absurd (none (ltb-false 63 (length bytes) f, IsUtf8-from_is_utf8 bytes e))
no_name bytes true true e f none = refl
no_name bytes false b e f none = refl

pub named : (name : Option (List ℕ)) (bytes : List ℕ) → SomeIff name (IsName bytes) bytes → name ≡ name_in bytes
named (Some name) bytes is =
    let e = is_utf8-from_IsUtf8 bytes is.0.1 in
    let f = le-ltb 63 (length bytes) is.0.0 in
    rw (e, f) (ap (λ xs. Some xs) is.1)
named None bytes is = no_name bytes (is_utf8 bytes) (nat_lt 63 (length bytes)) refl refl is

-- The data of INFO and GO (NBD proto.md, "NBD_OPT_INFO" and "NBD_OPT_GO"): name length (32), name, count (16) and
-- as many numbers of informations (16), and nothing more.
use Rattle.std.specs.Prelude.{ℕ, ◌+◌, ◌*◌, ◌<◌, ◌^◌, Bool, false, not, ◌&&◌, ◌||◌, ◌==◌, nat_lt, if◌then◌else◌, List, [], ◌∷◌, ◌++◌, length, drop, All, Option, Some, None}
use Rattle.std.specs.List.{flat_map}
use Rattle.std.specs.Str.{is_utf8}
use Rattle.qs_bytes.specs.Numbers.{bytes16, bytes32, number16, number32}
use Rattle.qs_bytes.specs.Pieces.{part}
use Rattle.qs_nbd_handshake.specs.declared.inquiry.Inquiry.{Inquiry}

-- what INFO and GO send: the bytes of a name, and numbers of informations
pub record Question : Type 0 where
  pub name : List ℕ
  pub numbers : List ℕ

-- the name's length is within 32 bits, the count and each number within 16
pub record FitsQuestion (q : Question) : Type 0 where
  pub name : length q.name < 2 ^ 32
  pub count : length q.numbers < 2 ^ 16
  pub each : All (λ n. n < 2 ^ 16) q.numbers

-- the one spelling of a question
abbrev pub question_bytes : Question → List ℕ
question_bytes q = bytes32 (length q.name) ++ q.name ++ bytes16 (length q.numbers) ++ flat_map bytes16 q.numbers

-- the name that these bytes are: UTF-8, and at most 63 of them; others name no export
abbrev pub name_in : List ℕ → Option (List ℕ)
name_in bytes = if is_utf8 bytes && not (nat_lt 63 (length bytes)) then Some bytes else None

-- this number is among them
abbrev pub is_among : ℕ → List ℕ → Bool
is_among wanted [] = false
is_among wanted (n ∷ rest) = n == wanted || is_among wanted rest

-- what a question asks; BLOCK_SIZE is 3
abbrev pub inquiry_for : Question → Inquiry
inquiry_for q = record { name = name_in q.name; sizes = is_among 3 q.numbers }

-- where the name ends, and the count begins
abbrev pub name_end : List ℕ → ℕ
name_end bytes = 4 + number32 bytes 0

-- the bytes behind the count
abbrev pub requests_in : List ℕ → List ℕ
requests_in bytes = drop (name_end bytes + 2) bytes

-- name length, name and count are there, and behind them as many numbers as they say
abbrev pub has_form : List ℕ → Bool
has_form bytes =
    not (nat_lt (length bytes) 6) && not (nat_lt (length bytes) (name_end bytes + 2))
    && length (requests_in bytes) == 2 * number16 bytes (name_end bytes)

-- the numbers of 16 bits that these bytes spell, one behind the other
abbrev pub numbers_in : List ℕ → List ℕ
numbers_in [] = []
numbers_in (high ∷ []) = []
numbers_in (high ∷ (low ∷ rest)) = number16 (high ∷ (low ∷ rest)) 0 ∷ numbers_in rest

-- the question that data of this form spell
abbrev pub question_of : List ℕ → Question
question_of bytes = record { name = part bytes 4 (number32 bytes 0); numbers = numbers_in (requests_in bytes) }

-- what the data ask
abbrev pub inquiry_of : List ℕ → Option Inquiry
inquiry_of bytes = if has_form bytes then Some (inquiry_for (question_of bytes)) else None

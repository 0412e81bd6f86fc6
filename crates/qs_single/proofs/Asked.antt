-- What is known of a request when it was asked.
use Rattle.std.proofs.Common.{◌≡◌, ℕ, ◌<◌, inl, inr, Bool, true, false, not, ◌&&◌, ◌||◌, ◌==◌, List, [], ◌∷◌, length, get_or, refl, sym, ap, ◌∙◌, arith, true≢false}
use Rattle.std.specs.Prelude.{Option, Some, None}
use Rattle.std.proofs.lemmas.Bool.{cases_lt}
use Rattle.std.proofs.lemmas.List.{get_or-replicate, length-replicate}
use Rattle.qs_bytes.specs.declared.ask.Ask.{Ask}
use Rattle.qs_bytes.specs.declared.ask.Kind.{Kind}
use Rattle.qs_bytes.specs.declared.ask.Kind.TheVariants.{Read, Write, Zero, Trim, Flush, Unknown}
use Rattle.qs_model.specs.Events.{BringsBytes, HasNone}
use Rattle.qs_model.specs.Guards.{CanAsk}
use Rattle.qs_model.specs.Requests.{Client, brings_bytes, is_read, stores_bytes, wants_body, wants_buffers}
use Rattle.qs_model.specs.Worlds.{World}
use Rattle.qs_single.specs.Resting.{IsBody}
use Rattle.qs_single.specs.Service.{bytes_for}
use Rattle.qs_single.proofs.Leading.{IsOwn}

-- memory is refused only to a request of some length
pub some_length : (a : Ask) (buffered : Bool) → (wants_buffers a ≡ false → buffered ≡ true) → buffered ≡ false → 0 < a.length
some_length a buffered given none = elim (cases_lt 0 a.length) [
  | inl some ↦ some
  | inr small ↦
      let zero_is : a.length ≡ 0 = omega (arith, small) in
      absurd (true≢false (sym (given (idle (is_read a.kind || stores_bytes a.kind) a.length zero_is)) ∙ none))
]
  where
    idle : (b : Bool) (n : ℕ) → n ≡ 0 → (not (n == 0) && b) ≡ false
    idle b n is = grind (arith, is)

-- a WRITE that was given its memory has the data
has_data : (a : Ask) (c : Client) (given : List ℕ) (body : Option (List ℕ)) → a ≡ c.ask → BringsBytes body c → IsBody a given body → c.buffered ≡ true →
    brings_bytes a.kind ≡ true → c.body ≡ given
has_data a c given None same brings is buffered writing =
    let long : length given ≡ a.length = is.whole writing in
    let bare : wants_body c.ask ≡ false = unwanted brings in
    let none : a.length ≡ 0 = no_length a (ap wants_body same ∙ bare) writing in
    brings.empty ∙ sym (no_bytes given (long ∙ none))
  where
    unwanted : HasNone c → wants_body c.ask ≡ false
    unwanted h = elim h.wanted [ inl bare ↦ bare | inr without ↦ absurd (true≢false (sym buffered ∙ without)) ]

    no_length : (b : Ask) → wants_body b ≡ false → brings_bytes b.kind ≡ true → b.length ≡ 0
    no_length b bare w = go (is_read b.kind) (brings_bytes b.kind) (b.length) bare w
      where
        go : (x y : Bool) (n : ℕ) → (not (n == 0) && (x || y)) ≡ false → y ≡ true → n ≡ 0
        go true true n e f = grind (arith, e)
        go false true n e f = grind (arith, e)
        go x false n e f = absurd (true≢false (sym f))

    no_bytes : (xs : List ℕ) → length xs ≡ 0 → xs ≡ []
    no_bytes [] e = refl
    no_bytes (x ∷ xs) e = absurd (omega (arith, e))
has_data a c given (Some bytes) same brings is buffered writing = elim brings [
  | inl fits ↦ sym (fits.1 (ap (λ (b : Ask). brings_bytes b.kind) (sym same) ∙ writing)) ∙ is.is writing
  | inr short ↦ absurd (short.0 (ap length (is.is writing) ∙ is.whole writing ∙ ap (λ (b : Ask). b.length) same))
]

-- the bytes that a request stores are its client's
pub own_bytes : (w : World) (r : ℕ) (a : Ask) (c : Client) (given : List ℕ) (body : Option (List ℕ)) → a ≡ c.ask → CanAsk w r c → BringsBytes body c → IsBody a given body → IsOwn c given
own_bytes w r a c given body same may brings is = record {
  long = λ stores. long_by c.ask.kind c.ask.length stores (λ writing. is.whole (ap (λ (b : Ask). brings_bytes b.kind) same ∙ writing) ∙ ap (λ (b : Ask). b.length) same);
  byte = λ stores buffered i small. byte_by c.ask.kind stores i small
      (λ writing. has_data a c given body same brings is buffered (ap (λ (b : Ask). brings_bytes b.kind) same ∙ writing)) may.other;
}
  where
    long_by : (k : Kind) (n : ℕ) → stores_bytes k ≡ true → (brings_bytes k ≡ true → length given ≡ n) → length (bytes_for k n given) ≡ n
    long_by Write n stores is = is refl
    long_by Zero n stores is = length-replicate n 0
    long_by Read n stores is = absurd (true≢false (sym stores))
    long_by Trim n stores is = absurd (true≢false (sym stores))
    long_by Flush n stores is = absurd (true≢false (sym stores))
    long_by (Unknown m) n stores is = absurd (true≢false (sym stores))

    byte_by : (k : Kind) → stores_bytes k ≡ true → (i : ℕ) → i < c.ask.length → (brings_bytes k ≡ true → c.body ≡ given) → (brings_bytes k ≡ false → c.body ≡ []) →
        get_or c.body i 0 ≡ get_or (bytes_for k c.ask.length given) i 0
    byte_by Write stores i small has none = ap (λ (xs : List ℕ). get_or xs i 0) (has refl)
    byte_by Zero stores i small has none = ap (λ (xs : List ℕ). get_or xs i 0) (none refl) ∙ sym (get_or-replicate c.ask.length i 0 0 small)
    byte_by Read stores i small has none = absurd (true≢false (sym stores))
    byte_by Trim stores i small has none = absurd (true≢false (sym stores))
    byte_by Flush stores i small has none = absurd (true≢false (sym stores))
    byte_by (Unknown m) stores i small has none = absurd (true≢false (sym stores))

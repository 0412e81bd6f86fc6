-- A stream has one reading.
use Rattle.std.proofs.Common.{◌≡◌, ℕ, suc, ◌≤◌, Bool, List, [], ◌∷◌, ◌++◌, length, Some, None, refl, ap, sym, ◌∙◌, subst, append_assoc, arith}
use Rattle.std.specs.List.{All, flat_map}
use Rattle.std.proofs.lemmas.List.{length-append, append_cancel_left}
use Rattle.qs_bytes.specs.Numbers.{number32}
use Rattle.qs_nbd_wire.specs.declared.opening.ClientFlags.{ClientFlags}
use Rattle.qs_nbd_wire.specs.declared.option.OptionHead.{OptionHead}
use Rattle.qs_nbd_wire.specs.Greetings.{flags_of}
use Rattle.qs_nbd_wire.specs.Options.{option_head_of}
use Rattle.qs_nbd_handshake.specs.declared.event.HandEvent.{HandEvent}
use Rattle.qs_nbd_handshake.specs.Phases.{Phase, InFlags, InOption, Asked, Over, Stuck, option_size}
use Rattle.qs_nbd_handshake.specs.Sessions.{IsOption, EndsWith, ReadsOneWay, sent_bytes}
use Rattle.qs_nbd_handshake.specs.Wishes.{option_fault}
use Rattle.qs_nbd_handshake.proofs.Reading.{same_front, same_option}
use Rattle.qs_nbd_handshake.proofs.Sizes.{head-append, size-append, size-least}

-- no whole option stands at the front
abbrev BeginsNone : Bool → List ℕ → Type 0
BeginsNone fixed bytes = (o more : List ℕ) → IsOption fixed o → bytes ≡ o ++ more → ⊥

long : (fixed : Bool) (o : List ℕ) → IsOption fixed o → 16 ≤ length o
long fixed o is = omega (arith, is.whole, size-least fixed o)

begins_none : (fixed : Bool) (phase : Phase) (rest : List ℕ) (last : List HandEvent) → EndsWith fixed phase rest last → BeginsNone fixed rest
begins_none fixed (InFlags held) rest last l o more is e = l
begins_none fixed (InOption held) rest last l o more is e =
    let f : held ≡ o ++ more = sym l.0 ∙ e in
    omega (
      arith,
      l.1,
      ap (λ xs. option_size fixed xs) f,
      ap (λ xs. length xs) f,
      size-append fixed o more (long fixed o is),
      is.whole,
      length-append o more,
    )
begins_none fixed (Asked w) rest last l o more is e =
    omega (arith, ap (λ xs. length xs) (sym l.0 ∙ e), length-append o more, long fixed o is)
begins_none fixed (Over how) rest last l o more is e =
    omega (arith, ap (λ xs. length xs) (sym l.0 ∙ e), length-append o more, long fixed o is)
begins_none fixed (Stuck bad) rest last l o more is e =
    let f : option_fault fixed (option_head_of (o ++ more)) ≡ Some bad = ap (λ xs. option_fault fixed (option_head_of xs)) (sym e) ∙ l.0.fault in
    let g : option_fault fixed (option_head_of (o ++ more)) ≡ None =
    ap (λ (h : OptionHead). option_fault fixed h) (head-append o more (long fixed o is)) ∙ is.served in
    let h : None ≡ Some bad = sym g ∙ f in
    cc

first_of_all : (fixed : Bool) (x : List ℕ) (xs : List (List ℕ)) → All (IsOption fixed) (x ∷ xs) → IsOption fixed x
first_of_all fixed x xs all = all 0 x (omega arith)

rest_of_all : (fixed : Bool) (x : List ℕ) (xs : List (List ℕ)) → All (IsOption fixed) (x ∷ xs) → All (IsOption fixed) xs
rest_of_all fixed x xs all = λ k d h. all (suc k) d (omega arith)

options_once : (fixed : Bool) (xs ys : List (List ℕ)) (rest other : List ℕ) → All (IsOption fixed) xs → All (IsOption fixed) ys →
    BeginsNone fixed rest → BeginsNone fixed other → flat_map sent_bytes xs ++ rest ≡ flat_map sent_bytes ys ++ other → (xs ≡ ys) × (rest ≡ other)
options_once fixed [] [] rest other p q none never e = (refl, e)
options_once fixed [] (y ∷ ys) rest other p q none never e =
    absurd (none y (flat_map sent_bytes ys ++ other) (first_of_all fixed y ys q) (e ∙ append_assoc y (flat_map sent_bytes ys) other))
options_once fixed (x ∷ xs) [] rest other p q none never e =
    absurd (never x (flat_map sent_bytes xs ++ rest) (first_of_all fixed x xs p) (sym e ∙ append_assoc x (flat_map sent_bytes xs) rest))
options_once fixed (x ∷ xs) (y ∷ ys) rest other p q none never e =
    let f : x ++ (flat_map sent_bytes xs ++ rest) ≡ y ++ (flat_map sent_bytes ys ++ other) =
    sym (append_assoc x (flat_map sent_bytes xs) rest) ∙ e ∙ append_assoc y (flat_map sent_bytes ys) other in
    let same : x ≡ y = same_option fixed x y (flat_map sent_bytes xs ++ rest) (flat_map sent_bytes ys ++ other)
    (first_of_all fixed x xs p).whole (first_of_all fixed y ys q).whole f in
    let behind = append_cancel_left x (flat_map sent_bytes xs ++ rest) (flat_map sent_bytes ys ++ other) (f ∙ ap (λ zs. zs ++ (flat_map sent_bytes ys ++ other)) (sym same)) in
    let more = options_once fixed xs ys rest other (rest_of_all fixed x xs p) (rest_of_all fixed y ys q) none never behind in
    (let t = more.0 in cc, more.1)

known_of : (a b : ClientFlags) → Some a ≡ Some b → a ≡ b
known_of a b e = cc

pub reads_one_way : ReadsOneWay
reads_one_way new other bytes events further p q =
    let ps = flat_map sent_bytes p.options ++ p.rest in
    let qs = flat_map sent_bytes q.options ++ q.rest in
    let e : p.flags ++ ps ≡ q.flags ++ qs = sym p.taken ∙ q.taken in
    let flags : p.flags ≡ q.flags = same_front p.flags q.flags ps qs (p.four ∙ sym q.four) e in
    let known : p.known ≡ q.known =
    known_of p.known q.known (sym p.read ∙ ap (λ xs. flags_of (number32 xs 0)) flags ∙ q.read) in
    let fixed : q.known.fixed ≡ p.known.fixed = ap (λ (k : ClientFlags). k.fixed) (sym known) in
    let behind : ps ≡ qs = append_cancel_left p.flags ps qs (e ∙ ap (λ xs. xs ++ qs) (sym flags)) in
    let both = options_once p.known.fixed p.options q.options p.rest q.rest p.each
    (subst (λ (b : Bool). All (IsOption b) q.options) fixed q.each)
    (begins_none p.known.fixed new.phase p.rest p.last p.leaves)
    (begins_none p.known.fixed other.phase q.rest q.last (subst (λ (b : Bool). EndsWith b other.phase q.rest q.last) fixed q.leaves))
    behind in
    (flags, both.0, both.1)

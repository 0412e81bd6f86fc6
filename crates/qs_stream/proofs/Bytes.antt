-- Bytes that go on, one run behind another.
use Rattle.std.proofs.Common.{◌≡◌, ℕ, List, [], ◌++◌, length, ◌-◌, ◌+◌, take, drop, refl, subst, sym, ap, ◌∙◌, append_assoc, append-nil}
use Rattle.std.specs.Prelude.{Option, None, Some, Result, Ok, Err, OnOk, IsErrAnd}
use Rattle.std.specs.Io.KnownBytes.{Consumes, Appends}
use Rattle.std.proofs.lemmas.List.{take-append-drop, drop-drop}
use Rattle.qs_stream.specs.Bytes.{Takes, Gives, Sends}
use Rattle.qs_stream.proofs.Parts.{take_rest}

consumes_none : (left : Option (List ℕ)) → Consumes left left []
consumes_none None = tt
consumes_none (Some xs) = refl

appends_none : (sent : Option (List ℕ)) → Appends sent sent []
appends_none None = tt
appends_none (Some xs) = sym (append-nil xs)

consumes_on : (a b c : Option (List ℕ)) (x y : List ℕ) → Consumes a b x → Consumes b c y → Consumes a c (x ++ y)
consumes_on None b c x y p q = tt
consumes_on (Some as') None c x y p q = absurd p
consumes_on (Some as') (Some bs) None x y p q = absurd q
consumes_on (Some as') (Some bs) (Some cs) x y p q = p ∙ ap (λ (zs : List ℕ). x ++ zs) q ∙ sym (append_assoc x y cs)

appends_on : (a b c : Option (List ℕ)) (x y : List ℕ) → Appends a b x → Appends b c y → Appends a c (x ++ y)
appends_on None b c x y p q = tt
appends_on (Some as') None c x y p q = absurd p
appends_on (Some as') (Some bs) None x y p q = absurd q
appends_on (Some as') (Some bs) (Some cs) x y p q = q ∙ ap (λ (zs : List ℕ). zs ++ y) p ∙ append_assoc as' x y

-- nothing was taken, or given
pub takes_none : (left : Option (List ℕ)) (waiting : List ℕ) → Takes left waiting [] left waiting
takes_none left waiting = record { more = []; read = consumes_none left; joined = append-nil waiting }

pub gives_none : (sent : Option (List ℕ)) (waiting : List ℕ) → Gives sent waiting [] sent waiting
gives_none sent waiting = record { out = []; wrote = appends_none sent; joined = append-nil waiting }

pub takes_on : (a b c : Option (List ℕ)) (u v w x y : List ℕ) → Takes a u x b v → Takes b v y c w → Takes a u (x ++ y) c w
takes_on a b c u v w x y first second = record {
  more = first.more ++ second.more;
  read = consumes_on a b c first.more second.more first.read second.read;
  joined =
      sym (append_assoc u first.more second.more)
      ∙ ap (λ (zs : List ℕ). zs ++ second.more) first.joined
      ∙ append_assoc x v second.more
      ∙ ap (λ (zs : List ℕ). x ++ zs) second.joined
      ∙ sym (append_assoc x y w);
}

pub gives_on : (a b c : Option (List ℕ)) (u v w x y : List ℕ) → Gives a u x b v → Gives b v y c w → Gives a u (x ++ y) c w
gives_on a b c u v w x y first second = record {
  out = first.out ++ second.out;
  wrote = appends_on a b c first.out second.out first.wrote second.wrote;
  joined =
      sym (append_assoc u x y)
      ∙ ap (λ (zs : List ℕ). zs ++ y) first.joined
      ∙ append_assoc first.out v y
      ∙ ap (λ (zs : List ℕ). first.out ++ zs) second.joined
      ∙ sym (append_assoc first.out second.out w);
}

-- a front of what waited was written
pub gives_front : (a b : Option (List ℕ)) (waiting waiting' : List ℕ) (n : ℕ) → Appends a b (take n waiting) → waiting' ≡ drop n waiting →
    Gives a waiting [] b waiting'
gives_front a b waiting waiting' n wrote rest = record {
  out = take n waiting;
  wrote = wrote;
  joined =
      append-nil waiting
      ∙ sym (take-append-drop n waiting)
      ∙ ap (λ (zs : List ℕ). take n waiting ++ zs) (sym rest);
}

-- what was put behind the bytes that wait
pub gives_behind : (sent : Option (List ℕ)) (waiting bytes waiting' : List ℕ) → waiting' ≡ waiting ++ bytes → Gives sent waiting bytes sent waiting'
gives_behind sent waiting bytes waiting' is = record { out = []; wrote = appends_none sent; joined = sym is }

-- what was taken off the bytes that wait
pub takes_front : (left : Option (List ℕ)) (waiting waiting' : List ℕ) (n : ℕ) → waiting' ≡ drop n waiting →
    Takes left waiting (take n waiting) left waiting'
takes_front left waiting waiting' n rest = record {
  more = [];
  read = consumes_none left;
  joined =
      append-nil waiting
      ∙ sym (take-append-drop n waiting)
      ∙ ap (λ (zs : List ℕ). take n waiting ++ zs) (sym rest);
}

-- where nothing waited, what was read waits now
pub takes_read : (left left' : Option (List ℕ)) (waiting waiting' : List ℕ) → waiting ≡ [] → Consumes left left' waiting' →
    Takes left waiting [] left' waiting'
takes_read left left' waiting waiting' empty read = record {
  more = waiting';
  read = read;
  joined = ap (λ (zs : List ℕ). zs ++ waiting') empty;
}

pub takes_split : (left : Option (List ℕ)) (waiting taken waiting' : List ℕ) → waiting ≡ taken ++ waiting' → Takes left waiting taken left waiting'
takes_split left waiting taken waiting' is = record { more = []; read = consumes_none left; joined = append-nil waiting ∙ is }

-- one write more
pub gives_write : (a b c : Option (List ℕ)) (bytes : List ℕ) (done n : ℕ) → Gives a [] bytes b (drop done bytes) →
    Appends b c (take n (take (length bytes - done) (drop done bytes))) → Gives a [] bytes c (drop (done + n) bytes)
gives_write a b c bytes done n gives wrote =
    let left : List ℕ = drop done bytes in
    subst (λ (given : List ℕ). Gives a [] given c (drop (done + n) bytes)) (append-nil bytes)
    (gives_on a b c [] left (drop (done + n) bytes) bytes [] gives
    (gives_front b c left (drop (done + n) bytes) n (subst (λ (l : List ℕ). Appends b c (take n l)) (take_rest bytes done) wrote)
    (sym (drop-drop n done bytes))))

-- nothing of the bytes was written yet
pub gives_all : (sent : Option (List ℕ)) (bytes : List ℕ) → Gives sent [] bytes sent bytes
gives_all sent bytes = record { out = []; wrote = appends_none sent; joined = refl }

-- what waited was given, as if it hadn't waited
pub gives_waited : (a b : Option (List ℕ)) (held rest : List ℕ) → Gives a [] held b rest → Gives a held [] b rest
gives_waited a b held rest gives = record { out = gives.out; wrote = gives.wrote; joined = append-nil held ∙ gives.joined }

-- more was given, and wasn't sent
pub gives_lost : (a b : Option (List ℕ)) (held first rest more : List ℕ) → Gives a held first b rest → Gives a held (first ++ more) b (rest ++ more)
gives_lost a b held first rest more gives = record {
  out = gives.out;
  wrote = gives.wrote;
  joined =
      sym (append_assoc held first more)
      ∙ ap (λ (xs : List ℕ). xs ++ more) gives.joined
      ∙ append_assoc gives.out rest more;
}

-- all that waited was written, and then the bytes were given
pub sends_on : {E : Type 0} (a b c : Option (List ℕ)) (held given mid : List ℕ) (u : Unit {0}) (result : Result Unit E) → mid ≡ [] →
    Sends {E = E} a held [] (Ok u) b mid → Sends b [] given result c [] → Sends a held given result c mid
sends_on a b c held given mid u result empty first second = record {
  rest = second.rest;
  gives =
      gives_on a b c held [] second.rest [] given
      (subst (λ (rest : List ℕ). Gives a held [] b rest) (first.waits ∙ empty) first.gives) second.gives;
  waits = subst (λ (l : List ℕ). OnOk result (second.rest ≡ l)) (sym empty) second.waits;
}

-- what waited couldn't be written, and the bytes are lost too
pub sends_lost : {E : Type 0} (a b : Option (List ℕ)) (held given mid : List ℕ) (e : E) (P : E → Type 0) (result : Result Unit E) → IsErrAnd result P →
    Sends {E = E} a held [] (Err e) b mid → Sends {E = E} a held given result b mid
sends_lost a b held given mid e P (Ok u) is first = absurd is
sends_lost a b held given mid e P (Err f) is first = record {
  rest = first.rest ++ given;
  gives = gives_lost a b held [] first.rest given first.gives;
  waits = tt;
}

-- what waited was written, or a front of it
pub sends_waited : {E : Type 0} (a b : Option (List ℕ)) (held held' : List ℕ) (result : Result Unit E) → Sends a [] held result b [] → held' ≡ [] →
    Sends a held [] result b held'
sends_waited a b held held' result sends empty = record {
  rest = sends.rest;
  gives = gives_waited a b held sends.rest sends.gives;
  waits = subst (λ (l : List ℕ). OnOk result (sends.rest ≡ l)) (sym empty) sends.waits;
}

-- the bytes wait behind the others
pub sends_behind : {E : Type 0} (sent : Option (List ℕ)) (held given held' : List ℕ) (u : Unit {0}) → held' ≡ held ++ given →
    Sends {E = E} sent held given (Ok u) sent held'
sends_behind sent held given held' u is = record { rest = held'; gives = gives_behind sent held given held' is; waits = refl }

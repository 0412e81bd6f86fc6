-- Messages and streams of them are read in one way.
use Rattle.std.proofs.Common.{◌≡◌, ℕ, if◌then◌else◌, List, [], ◌∷◌, ◌++◌, length, refl, ap, sym, ◌∙◌, subst, append_assoc, arith, suc}
use Rattle.std.specs.List.{All, flat_map}
use Rattle.std.proofs.lemmas.List.{length-append, append_cancel_left, nil_from_length}
use Rattle.qs_nbd_wire.specs.declared.request.RequestHead.{RequestHead}
use Rattle.qs_nbd_transmission.specs.declared.event.WireEvent.{WireEvent}
use Rattle.qs_nbd_transmission.specs.declared.event.WireEvent.TheVariants as event
use Rattle.qs_nbd_wire.specs.Requests.{FitsHead, head_bytes, head_of, has_body, Message, IsMessage, spelling}
use Rattle.qs_nbd_transmission.specs.Heads.{ask_of}
use Rattle.qs_nbd_transmission.specs.Phases.{InHead, behind_head}
use Rattle.qs_nbd_transmission.specs.Laws.{TellsMessages, HasOneReading, RestsBegin, IsEnding}
use Rattle.qs_nbd_wire.proofs.Requests.{length-head_bytes, head_again, head_of-head_bytes}
use Rattle.qs_nbd_transmission.proofs.Reading.{same_front, reads_once}

pub tells_messages : TellsMessages
tells_messages = record {
  head = λ s m is. record {
    head = rw (head_again m.head is.fits) (record { fits = is.fits; spelled = refl });
    not_disc = rw (head_again m.head is.fits) is.not_disc;
    not_long = rw (head_again m.head is.fits) is.not_long;
    asks = rw (head_again m.head is.fits) refl;
    behind = rw (head_again m.head is.fits) refl;
  };
  kept = λ s m is body. (refl, rw body at is.body, refl);
  dropped = λ s m is body. (refl, rw body at is.body, refl);
  bare = λ m is none. nil_from_length m.body (rw none at is.body);
  leave = λ s h fits leaves. record {
    head = rw (head_again h fits) (record { fits = fits; spelled = refl });
    disc = rw (head_again h fits) leaves;
    over = refl;
  };
}

same_message : (x y : Message) → x.head ≡ y.head → x.body ≡ y.body → x ≡ y
same_message x y h b =
    let f : RequestHead → Message = λ k. record { head = k; body = x.body } in
    let g : List ℕ → Message = λ k. record { head = y.head; body = k } in
    ap f h ∙ ap g b

-- heads that begin two streams alike are one
pub same_head : (a b : RequestHead) (more rest : List ℕ) → FitsHead a → FitsHead b → head_bytes a ++ more ≡ head_bytes b ++ rest → (a ≡ b) × (more ≡ rest)
same_head a b more rest p q e =
    let h : a ≡ b = sym (head_of-head_bytes a more p) ∙ ap (λ xs. head_of xs) e ∙ head_of-head_bytes b rest q in
    (h, append_cancel_left (head_bytes a) more rest (e ∙ ap (λ (k : RequestHead). head_bytes k ++ rest) (sym h)))

-- messages that begin two streams alike are one
pub message_once : (x y : Message) (more rest : List ℕ) → IsMessage x → IsMessage y → spelling x ++ more ≡ spelling y ++ rest → (x ≡ y) × (more ≡ rest)
message_once x y more rest p q e =
    let h = same_head x.head y.head (x.body ++ more) (y.body ++ rest) p.fits q.fits
    (sym (append_assoc (head_bytes x.head) x.body more) ∙ e ∙ append_assoc (head_bytes y.head) y.body rest) in
    let b : x.body ≡ y.body = same_front x.body y.body more rest
    (p.body ∙ ap (λ (k : RequestHead). if has_body k then k.size else 0) h.0 ∙ sym q.body) h.1 in
    (same_message x y h.0 b, append_cancel_left x.body more rest (h.1 ∙ ap (λ xs. xs ++ rest) (sym b)))

pub first_of_all : (x : Message) (xs : List Message) → All IsMessage (x ∷ xs) → IsMessage x
first_of_all x xs all = all 0 x (omega arith)

pub rest_of_all : (x : Message) (xs : List Message) → All IsMessage (x ∷ xs) → All IsMessage xs
rest_of_all x xs all = λ k d h. all (suc k) d (omega arith)

pub one_reading : HasOneReading
one_reading [] [] rest other p q none never e = (refl, e)
one_reading [] (y ∷ ys) rest other p q none never e =
    absurd (none y (flat_map spelling ys ++ other) (first_of_all y ys q) (e ∙ append_assoc (spelling y) (flat_map spelling ys) other))
one_reading (x ∷ xs) [] rest other p q none never e =
    absurd (never x (flat_map spelling xs ++ rest) (first_of_all x xs p) (sym e ∙ append_assoc (spelling x) (flat_map spelling xs) rest))
one_reading (x ∷ xs) (y ∷ ys) rest other p q none never e =
    let m = message_once x y (flat_map spelling xs ++ rest) (flat_map spelling ys ++ other) (first_of_all x xs p) (first_of_all y ys q)
    (sym (append_assoc (spelling x) (flat_map spelling xs) rest) ∙ e ∙ append_assoc (spelling y) (flat_map spelling ys) other) in
    let more = one_reading xs ys rest other (rest_of_all x xs p) (rest_of_all y ys q) none never m.1 in
    (let h = m.0 in let t = more.0 in cc, more.1)

pub rests_begin : RestsBegin
rests_begin = record {
  front = λ bytes is m more message e.
      omega (arith, is.short, ap (λ xs. length xs) e, length-append (spelling m) more, length-append (head_bytes m.head) m.body, length-head_bytes m.head);
  partial = λ h got fits body short m more message e.
      let same = same_head h m.head got (m.body ++ more) fits message.fits (e ∙ append_assoc (head_bytes m.head) m.body more) in
      let size : length m.body ≡ h.size = message.body ∙ ap (λ (k : RequestHead). if has_body k then k.size else 0) (sym same.0) ∙ rw body refl in
      omega (arith, size, short, ap (λ xs. length xs) same.1, length-append m.body more);
  refused = λ s bytes more told new ends r m rest message e.
      let same = reads_once.same s (InHead []) new (behind_head m.head) bytes (head_bytes m.head) more (m.body ++ rest) told (event.Head (ask_of s m.head)) r
      (tells_messages.head s m message) (e ∙ append_assoc (head_bytes m.head) m.body rest) in
      subst (λ (t : WireEvent). IsEnding t) same.1 ends;
}

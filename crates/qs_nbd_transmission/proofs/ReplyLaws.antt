-- No reply begins another to the same request.
use Rattle.std.proofs.Common.{◌≡◌, ℕ, ◌+◌, ◌<◌, ◌≤◌, ◌^◌, Bool, true, false, ◌&&◌, ◌==◌, if◌then◌else◌, List, [], ◌++◌, length, refl, ap, sym, ◌∙◌, append_assoc, arith, lit<}
use Rattle.std.proofs.lemmas.Bool.{eqb-true}
use Rattle.std.proofs.lemmas.List.{length-append, append-nil, nil_from_length}
use Rattle.qs_bytes.specs.Numbers.{bytes16, bytes32, bytes64, number32}
use Rattle.qs_bytes.specs.Errnos.{errno_number}
use Rattle.qs_bytes.specs.declared.ask.Ask.{Ask}
use Rattle.qs_bytes.specs.declared.ask.Errno.{Errno}
use Rattle.qs_bytes.specs.declared.ask.Errno.TheVariants.{Perm, Io, NoMem, Inval, NoSpace, Shutdown}
use Rattle.qs_bytes.specs.declared.ask.Verdict.{Verdict}
use Rattle.qs_bytes.specs.declared.ask.Verdict.TheVariants.{Got, Fine, Refused, Dropped}
use Rattle.qs_bytes.specs.Payloads.{max_payload}
use Rattle.qs_nbd_transmission.specs.Replies.{CanReply, is_read, error_of, data_of, simple_front, chunk_head, chunk_front}
use Rattle.qs_nbd_transmission.specs.Laws.{RepliesStandApart}
use Rattle.qs_nbd_wire.proofs.Widths.{length-bytes16, length-bytes32, length-bytes64, number32_at}

errno_fits : (e : Errno) → (0 < errno_number e) × (errno_number e < 2 ^ 32)
errno_fits Perm = (lit< tt, lit< tt)
errno_fits Io = (lit< tt, lit< tt)
errno_fits NoMem = (lit< tt, lit< tt)
errno_fits Inval = (lit< tt, lit< tt)
errno_fits NoSpace = (lit< tt, lit< tt)
errno_fits Shutdown = (lit< tt, lit< tt)

error_fits : (v : Verdict) → error_of v < 2 ^ 32
error_fits (Got bytes) = lit< tt
error_fits Fine = lit< tt
error_fits (Refused e) = (errno_fits e).1
error_fits Dropped = lit< tt

-- replies with one error have data of one length
same_length : (ask : Ask) (v w : Verdict) → CanReply ask v → CanReply ask w → error_of v ≡ error_of w → length (data_of v) ≡ length (data_of w)
same_length ask (Got b) (Got d) p q e = p.1 ∙ sym q.1
same_length ask (Got b) Fine p q e = p.1 ∙ q (ap is_read p.0)
same_length ask (Got b) (Refused n) p q e = absurd (omega (arith, e, (errno_fits n).0))
same_length ask Fine (Got d) p q e = sym (q.1 ∙ p (ap is_read q.0))
same_length ask Fine Fine p q e = refl
same_length ask Fine (Refused n) p q e = absurd (omega (arith, e, (errno_fits n).0))
same_length ask (Refused m) (Got d) p q e = absurd (omega (arith, e, (errno_fits m).0))
same_length ask (Refused m) Fine p q e = absurd (omega (arith, e, (errno_fits m).0))
same_length ask (Refused m) (Refused n) p q e = refl
same_length ask Dropped w p q e = absurd p
same_length ask v Dropped p q e = absurd q

length-simple : (error cookie : ℕ) → length (simple_front error cookie) ≡ 16
unfolding simple_front
length-simple error cookie = simp (length-append, length-bytes32, length-bytes64)

error-simple : (error cookie : ℕ) (rest : List ℕ) → error < 2 ^ 32 → number32 (simple_front error cookie ++ rest) 4 ≡ error
unfolding simple_front
error-simple error cookie rest fits =
    ap (λ xs. number32 xs 4) (append_assoc (bytes32 0x67446698 ++ bytes32 error) (bytes64 cookie) rest)
    ∙ number32_at (bytes32 0x67446698) (bytes64 cookie ++ rest) error 4 (length-bytes32 0x67446698) fits

simple_apart : (ask : Ask) (v w : Verdict) (more : List ℕ) → CanReply ask v → CanReply ask w → simple_front (error_of w) ask.cookie ++ data_of w ≡ simple_front (error_of v) ask.cookie ++ data_of v ++ more → more ≡ []
simple_apart ask v w more p q e =
    let f = append_assoc (simple_front (error_of v) ask.cookie) (data_of v) more in
    let same : error_of w ≡ error_of v =
    sym (error-simple (error_of w) ask.cookie (data_of w) (error_fits w)) ∙ ap (λ xs. number32 xs 4) (e ∙ f)
    ∙ error-simple (error_of v) ask.cookie (data_of v ++ more) (error_fits v) in
    nil_from_length more (omega (
      arith,
      same_length ask w v q p same,
      ap (λ xs. length xs) e,
      length-append (simple_front (error_of w) ask.cookie) (data_of w),
      length-append (simple_front (error_of v) ask.cookie ++ data_of v) more,
      length-append (simple_front (error_of v) ask.cookie) (data_of v),
      length-simple (error_of v) ask.cookie,
      length-simple (error_of w) ask.cookie,
    ))

-- a chunk with a payload of so many bytes
record IsChunk (bytes : List ℕ) (size : ℕ) : Type 0 where
  kind : ℕ
  cookie : ℕ
  body : List ℕ
  is : bytes ≡ chunk_head kind cookie size ++ body
  holds : length body ≡ size
  fits : size < 2 ^ 32

length-chunk_head : (kind cookie size : ℕ) → length (chunk_head kind cookie size) ≡ 20
unfolding chunk_head
length-chunk_head kind cookie size = simp (length-append, length-bytes16, length-bytes32, length-bytes64)

size-chunk : (kind cookie size : ℕ) (rest : List ℕ) → size < 2 ^ 32 → number32 (chunk_head kind cookie size ++ rest) 16 ≡ size
unfolding chunk_head
size-chunk kind cookie size rest fits =
    number32_at (bytes32 0x668e33ef ++ bytes16 1 ++ bytes16 kind ++ bytes64 cookie) rest size 16
    (simp (length-append, length-bytes16, length-bytes32, length-bytes64)) fits

chunks_apart : (xs ys more : List ℕ) (m n : ℕ) → IsChunk xs m → IsChunk ys n → ys ≡ xs ++ more → more ≡ []
chunks_apart xs ys more m n p q e =
    let a : number32 ys 16 ≡ n = ap (λ zs. number32 zs 16) q.is ∙ size-chunk q.kind q.cookie n q.body q.fits in
    let b : number32 (xs ++ more) 16 ≡ m =
    ap (λ zs. number32 (zs ++ more) 16) p.is ∙ ap (λ zs. number32 zs 16) (append_assoc (chunk_head p.kind p.cookie m) p.body more)
    ∙ size-chunk p.kind p.cookie m (p.body ++ more) p.fits in
    let same : n ≡ m = sym a ∙ ap (λ zs. number32 zs 16) e ∙ b in
    nil_from_length more (omega (
      arith,
      same,
      ap (λ zs. length zs) e,
      length-append xs more,
      ap (λ zs. length zs) p.is,
      ap (λ zs. length zs) q.is,
      length-append (chunk_head p.kind p.cookie m) p.body,
      length-append (chunk_head q.kind q.cookie n) q.body,
      length-chunk_head p.kind p.cookie m,
      length-chunk_head q.kind q.cookie n,
      p.holds,
      q.holds,
    ))

bytes_chunk : (ask : Ask) (b : List ℕ) → length b ≡ ask.length → ask.length ≤ max_payload → (d : Bool) → (ask.length == 0) ≡ d →
    (size : ℕ) × IsChunk ((if d then chunk_head 0 ask.cookie 0 else chunk_head 1 ask.cookie (8 + ask.length) ++ bytes64 ask.offset) ++ b) size
bytes_chunk ask b e most true zero =
    (0, record { kind = 0; cookie = ask.cookie; body = b; is = refl; holds = e ∙ eqb-true ask.length 0 zero; fits = lit< tt })
bytes_chunk ask b e most false some = (
  8 + ask.length,
  record {
    kind = 1;
    cookie = ask.cookie;
    body = bytes64 ask.offset ++ b;
    is = append_assoc (chunk_head 1 ask.cookie (8 + ask.length)) (bytes64 ask.offset) b;
    holds = omega (arith, length-append (bytes64 ask.offset) b, length-bytes64 ask.offset, e);
    fits = omega (arith, most);
  },
)

read_is_chunk : (ask : Ask) (v : Verdict) → CanReply ask v → is_read ask.kind ≡ true → (size : ℕ) × IsChunk (chunk_front ask v ++ data_of v) size
read_is_chunk ask (Refused e) p read = (
  6,
  record {
    kind = 0x8001;
    cookie = ask.cookie;
    body = bytes32 (errno_number e) ++ bytes16 0;
    is = simp (append-nil, append_assoc);
    holds = simp (length-append, length-bytes16, length-bytes32);
    fits = lit< tt;
  },
)
read_is_chunk ask (Got b) p read = bytes_chunk ask b p.1 p.2 (ask.length == 0) refl
read_is_chunk ask Fine p read = bytes_chunk ask [] (sym (p read)) (omega (arith, p read)) (ask.length == 0) refl
read_is_chunk ask Dropped p read = absurd p

pub second_of : (a b : Bool) → (a && b) ≡ true → b ≡ true
second_of true b e = e
second_of false b e = absurd (cc)

by_form : (ask : Ask) (v w : Verdict) (more : List ℕ) (d : Bool) → (d ≡ true → is_read ask.kind ≡ true) → CanReply ask v → CanReply ask w →
    (if d then chunk_front ask w else simple_front (error_of w) ask.cookie) ++ data_of w
    ≡ (if d then chunk_front ask v else simple_front (error_of v) ask.cookie) ++ data_of v ++ more → more ≡ []
by_form ask v w more true read p q e =
    let a = read_is_chunk ask v p (read refl) in
    let b = read_is_chunk ask w q (read refl) in
    chunks_apart (chunk_front ask v ++ data_of v) (chunk_front ask w ++ data_of w) more a.0 b.0 a.1 b.1 e
by_form ask v w more false read p q e = simple_apart ask v w more p q e

pub replies_stand_apart : RepliesStandApart
replies_stand_apart s ask v w more p q e = by_form ask v w more (s && is_read ask.kind) (second_of s (is_read ask.kind)) p q e

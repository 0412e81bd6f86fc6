-- A READ's bytes, block by block.
use Rattle.std.proofs.Common.{◌≡◌, ◌≢◌, ℕ, ◌+◌, ◌-◌, ◌*◌, min, max, ◌<◌, ◌≤◌, Bool, true, false, ◌==◌, cond, List, [], ◌++◌, length, take, drop, refl, sym, ap, ◌∙◌, subst, arith, append-nil, true≢false}
use Rattle.std.proofs.lemmas.List.{take_at, drop_all}
use Rattle.qs_bytes.specs.Pieces.{overlay}
use Rattle.qs_bytes.proofs.Overlays.{front-overlay, length-overlay}
use Rattle.qs_bytes.specs.declared.ask.Kind.{Kind}
use Rattle.qs_bytes.specs.declared.ask.Kind.TheVariants.{Read}
use Rattle.qs_bytes.specs.declared.ask.Verdict.TheVariants.{Got, Fine}
use Rattle.qs_part.specs.declared.stripe.Side.TheVariants.{Head, Tail}
use Rattle.qs_model.specs.Requests.{Client, Step, In, ToLoad, ToEnd, edge, is_read, reads, span_of, piece, loaded, started, success, takes_body}
use Rattle.qs_model.proofs.Basics.{blocks_lt}
use Rattle.qs_model.proofs.Machine.{length-piece, other_block}
use Rattle.qs_model.proofs.Geometry.{head_low, tail_low, tail_high, same_eqb}
use Rattle.qs_request_state.specs.declared.stage.Ending.TheVariants.{Success}
use Rattle.qs_request_state.specs.declared.stage.Stage.{Stage}
use Rattle.qs_request_state.specs.declared.stage.Stage.TheVariants.{In as InAt}
use Rattle.qs_request_state.specs.declared.stage.Step.{Step as Next}
use Rattle.qs_request_state.specs.declared.stage.Step.TheVariants.{Load as LoadNext, End as EndNext}
use Rattle.qs_request.specs.declared.machine.Machine.{Machine}
use Rattle.qs_request_state.specs.Shapes.{IsShape}
use Rattle.qs_request.specs.Inside.{IsLoading, IsPlaced, HasBuffers, before, client_of, stage_of, step_of, way_of}
use Rattle.qs_request.specs.Value.{bytes_of}
use Rattle.qs_request.proofs.Reached.{some_bytes, reaches, placed, one_more}

-- the kinds by their tests
pub read_kind : (k : Kind) → is_read k ≡ true → k ≡ Read
read_kind Read is = refl
read_kind _ is = cc

-- nothing of the span stands before its first block
pub before_first : (m : Machine) (b : ℕ) → IsShape m.shape → b ≡ edge m.shape.align (client_of m) Head → before m b ≡ 0
before_first m b is same =
    let low : edge m.shape.align (client_of m) Head * m.shape.align ≤ (span_of (client_of m)).lo = head_low m.shape.align (client_of m) (some_bytes m.shape is) in
    let at : b * m.shape.align ≡ edge m.shape.align (client_of m) Head * m.shape.align = ap (λ (n : ℕ). n * m.shape.align) same in
    omega (arith, low, at)

pub started_read : (m : Machine) (b : ℕ) → IsShape m.shape → b ≡ edge m.shape.align (client_of m) Head → reads (client_of m) ≡ true →
    ToLoad b (take (before m b) m.body) ≡ started m.shape.align (client_of m)
unfolding started
started_read m b is same reading =
    rw (before_first m b is same, reading) (ap (λ (n : ℕ). ToLoad n []) same)

-- a piece written at a place, and the front of what it makes
pub front_of : (body piece : List ℕ) (at n : ℕ) → at + length piece ≤ length body → n ≡ at + length piece →
    take n (overlay body at piece) ≡ take at body ++ piece
unfolding overlay
front_of body piece at n inside is =
    take_at (take at body ++ piece) (drop (at + length piece) body) n (front-overlay body at piece inside ∙ sym is)

pub whole_of : (body piece : List ℕ) (at : ℕ) → at + length piece ≡ length body → overlay body at piece ≡ take at body ++ piece
unfolding overlay
whole_of body piece at is =
    ap (λ (rest : List ℕ). take at body ++ piece ++ rest) (drop_all (at + length piece) body (omega (arith, is))) ∙ append-nil (take at body ++ piece)

module _ (m : Machine) (b : ℕ) (is : IsShape m.shape) (l : IsLoading m b) (body : length m.body ≡ m.ask.length) (work : length m.work ≡ m.shape.align) where
  in_place : IsPlaced (span_of (client_of m)) m.shape.align (b * m.shape.align)
  in_place = placed m b is l.reached

  pub piece_length : length (piece m.shape.align (client_of m) b m.work) ≡ min (span_of (client_of m)).hi (b * m.shape.align + m.shape.align) - max (span_of (client_of m)).lo (b * m.shape.align)
  piece_length = length-piece m.shape.align (client_of m) b m.work (some_bytes m.shape is) l.reached.going.some (reaches m b l.reached) work

  pub piece_fits : before m b + length (piece m.shape.align (client_of m) b m.work) ≤ length m.body
  piece_fits = omega (arith, piece_length, body, in_place.some, in_place.begins, in_place.ends)

  -- the next block follows
  pub piece_next : (b == edge m.shape.align (client_of m) Tail) ≡ false → before m (b + 1) ≡ before m b + length (piece m.shape.align (client_of m) b m.work)
  piece_next more =
      let n : b ≢ edge m.shape.align (client_of m) Tail = other_block b (edge m.shape.align (client_of m) Tail) more in
      let rest : b * m.shape.align + m.shape.align ≤ edge m.shape.align (client_of m) Tail * m.shape.align =
      blocks_lt b (edge m.shape.align (client_of m) Tail) m.shape.align (omega (arith, n, l.reached.last)) in
      let high : edge m.shape.align (client_of m) Tail * m.shape.align < (span_of (client_of m)).hi = tail_low m.shape.align (client_of m) (some_bytes m.shape is) l.reached.going.some in
      omega (arith, piece_length, one_more b m.shape.align, rest, high, in_place.begins)

  -- or the request has all
  pub piece_last : (b == edge m.shape.align (client_of m) Tail) ≡ true → before m b + length (piece m.shape.align (client_of m) b m.work) ≡ length m.body
  piece_last same =
      let at : b * m.shape.align ≡ edge m.shape.align (client_of m) Tail * m.shape.align = ap (λ (n : ℕ). n * m.shape.align) (same_eqb b (edge m.shape.align (client_of m) Tail) same) in
      let high : (span_of (client_of m)).hi ≤ edge m.shape.align (client_of m) Tail * m.shape.align + m.shape.align = tail_high m.shape.align (client_of m) (some_bytes m.shape is) l.reached.going.some in
      omega (arith, piece_length, at, high, body, in_place.some, in_place.begins, in_place.ends)

  pub long_body : length (overlay m.body (before m b) (piece m.shape.align (client_of m) b m.work)) ≡ m.ask.length
  long_body = length-overlay m.body (before m b) (piece m.shape.align (client_of m) b m.work) piece_fits ∙ body

  pub load_step : (stage : Stage) →
      step_of (record m { body = overlay m.body (before m b) (piece m.shape.align (client_of m) b m.work); stage = stage })
      (cond (b == edge m.shape.align (client_of m) Tail) (EndNext Success) (LoadNext (b + 1)))
      ≡ loaded m.shape.align (client_of m) b (take (before m b) m.body) m.work
  unfolding loaded
  load_step stage = go (b == edge m.shape.align (client_of m) Tail) refl
    where
      made : List ℕ
      made = overlay m.body (before m b) (piece m.shape.align (client_of m) b m.work)

      read : {x : List ℕ} → made ≡ x → ToEnd (success (client_of m) made) ≡ ToEnd (Got x)
      read {x} e = got (is_read m.ask.kind) (ap is_read l.reading)
        where
          got : (r : Bool) → r ≡ true → ToEnd (cond r (Got made) Fine) ≡ ToEnd (Got x)
          got true f = ap (λ (xs : List ℕ). ToEnd (Got xs)) e
          got false f = absurd (true≢false (sym f))

      go : (t : Bool) → (b == edge m.shape.align (client_of m) Tail) ≡ t →
          step_of (record m { body = made; stage = stage }) (cond t (EndNext Success) (LoadNext (b + 1)))
          ≡ cond t (ToEnd (Got (take (before m b) m.body ++ piece m.shape.align (client_of m) b m.work)))
          (ToLoad (b + 1) (take (before m b) m.body ++ piece m.shape.align (client_of m) b m.work))
      go true e = read (whole_of m.body (piece m.shape.align (client_of m) b m.work) (before m b) (piece_last e))
      go false e = ap (λ (xs : List ℕ). ToLoad (b + 1) xs) (front_of m.body (piece m.shape.align (client_of m) b m.work) (before m b) (before m (b + 1)) piece_fits (piece_next e))

-- a READ writes no bytes, so its client is the same whatever its buffer holds
pub same_client : (m : Machine) (body : List ℕ) (stage : Stage) → m.ask.kind ≡ Read → client_of (record m { body = body; stage = stage }) ≡ client_of m
same_client m body stage reading =
    ap (λ (xs : List ℕ). record { session = m.session; export = m.export; ask = m.ask; body = xs; buffered = m.buffered; route = way_of m.route })
    (none body ∙ sym (none m.body))
  where
    none : (xs : List ℕ) → bytes_of m.ask.kind xs ≡ []
    none xs = ap (λ (k : Kind). bytes_of k xs) reading

-- the machine behind a load
module _ (m n : Machine) (b : ℕ) (is : IsShape m.shape) (l : IsLoading m b) (has_buffers : HasBuffers m false)
    (copied : n ≡ record m { body = overlay m.body (before m b) (piece m.shape.align (client_of m) b m.work) }) where
  body_is : length m.body ≡ m.ask.length
  body_is = has_buffers.body l.reached.going.asked.buffered (ap (λ (k : Kind). takes_body k) l.reading)

  work_is : length m.work ≡ m.shape.align
  work_is = has_buffers.work l.reached.going.asked.buffered l.reached.going.works refl

  pub load_follows : (k : ℕ) (step : Next) → step ≡ cond (b == edge n.shape.align (client_of n) Tail) (EndNext Success) (LoadNext (b + 1)) →
      stage_of (record n { stage = InAt k step }) (InAt k step) ≡ In k (loaded m.shape.align (client_of m) b (take (before m b) m.body) m.work)
  load_follows k step step_is =
      subst (λ (n : Machine). step ≡ cond (b == edge n.shape.align (client_of n) Tail) (EndNext Success) (LoadNext (b + 1)) →
      stage_of (record n { stage = InAt k step }) (InAt k step) ≡ In k (loaded m.shape.align (client_of m) b (take (before m b) m.body) m.work))
      (sym copied) (λ e. base (e ∙ ap (λ (c : Client). cond (b == edge m.shape.align c Tail) (EndNext Success) (LoadNext (b + 1)))
      (same_client m (overlay m.body (before m b) (piece m.shape.align (client_of m) b m.work)) m.stage l.reading))) step_is
    where
      base : step ≡ cond (b == edge m.shape.align (client_of m) Tail) (EndNext Success) (LoadNext (b + 1)) →
          stage_of (record m { body = overlay m.body (before m b) (piece m.shape.align (client_of m) b m.work); stage = InAt k step }) (InAt k step)
          ≡ In k (loaded m.shape.align (client_of m) b (take (before m b) m.body) m.work)
      base e = ap (λ (s : Next). In k (step_of (record m { body = overlay m.body (before m b) (piece m.shape.align (client_of m) b m.work); stage = InAt k step }) s)) e
          ∙ ap (λ (s : Step). In k s) (load_step m b is l body_is work_is (InAt k step))

  pub load_buffers : (stage : Stage) → HasBuffers (record n { stage = stage }) false
  load_buffers stage =
      subst (λ (n : Machine). HasBuffers (record n { stage = stage }) false) (sym copied) (record {
        body = λ _ _. long_body m b is l body_is work_is;
        pads = has_buffers.pads;
        work = has_buffers.work;
      })

-- Answers that the core never gets.
use Rattle.std.proofs.Common.{◌≡◌, ◌≢◌, ℕ, ◌<◌, Bool, true, List, [], ◌∷◌, length, Some, refl, sym, ◌∙◌, subst, arith}
use Rattle.qs_part.specs.declared.stripe.Side.{Side}
use Rattle.qs_part.specs.declared.stripe.Side.TheVariants.{Head, Tail}
use Rattle.qs_model.specs.Requests.{Client, Pads, Req, Stage, ToList, ToStart, ToHold, ToStore, ToFree, ToEnd, Ready, Entering, In, edge, has}
use Rattle.qs_part.specs.declared.tracker.TrackerReply.TheVariants.{Strange as StrangeReply}
use Rattle.qs_tracker.specs.declared.seat.Seat.{Seat}
use Rattle.qs_tracker.specs.Table.{MayStart}
use Rattle.qs_model.specs.Worlds.{Session, Leaving, World}
use Rattle.qs_model.specs.Acts.{Act, Waits, Wait, Quiesced, Full, NotYet, HeldBy, Taken, Strange, NotHeld, Element, NotAttached, Did}
use Rattle.qs_model.specs.Guards.{MayWait, MayDo, CanCome}
use Rattle.qs_model.specs.Steps.{world_after, Runs}
use Rattle.qs_model.specs.Histories.{IsOdd, IsOddRow, IsOddStep}
use Rattle.qs_model.specs.Laws.{NeverOdd}
use Rattle.qs_model.proofs.Geometry.{reaches_edge, tail_other}
use Rattle.qs_model.proofs.Facts.{Sits, IsOpen, IsHolder, Held, Owner, IsAt, IsClient, Among, Well, Ok}
use Rattle.qs_model.proofs.Working.{Works, holder_is}
use Rattle.qs_model.proofs.Kept.{run_ok, split_run}

-- the block that a Hold wants isn't held
pub hold_free : (A : ℕ) (c : Client) (k : ℕ) (side other : Side) (j : ℕ) → has A c side ≡ true → IsHolder A c (In k (ToHold side)) (record { place = j; side = other }) (edge A c side) → ⊥
hold_free A c k Head other j wanted is = is.1
hold_free A c k Tail Head j wanted is = tail_other A c wanted (sym is.2)
hold_free A c k Tail Tail j wanted is = is.1

pub hold_one : (A : ℕ) (c : Client) (side : Side) → IsOpen A c (ToHold side) side → ⊥
hold_one A c Head open_ = open_
hold_one A c Tail open_ = open_

pub free_open : (A : ℕ) (c : Client) (side : Side) → IsOpen A c (ToFree side) side
free_open A c Head = tt
free_open A c Tail = tt

-- no other block is held for the end that a Hold wants
pub taken_never : (A : ℕ) (w : World) (r : ℕ) (c : Client) (d : Bool) (p : Pads) (k : ℕ) (side : Side) (b : ℕ) → Ok A w →
    w.req r ≡ Some (record { client = c; dropped = d; pads = p; stage = In k (ToHold side) }) → Owner A w.req (record { place = k; side = side }) b → ⊥
taken_never A w r c d p k side b ok is o =
    let same : o.number ≡ r = ok.one o.number r o.request _ k o.is is (holder_at A o.request.client o.request.stage k side b o.holds) refl in
    let there : w.req r ≡ Some o.request = subst (λ (n : ℕ). w.req n ≡ Some o.request) same o.is in
    let equal : o.request ≡ record { client = c; dropped = d; pads = p; stage = In k (ToHold side) } = inside _ _ (sym there ∙ is) in
    let holds : IsHolder A c (In k (ToHold side)) (record { place = k; side = side }) b =
    subst (λ (x : Req). IsHolder A x.client x.stage (record { place = k; side = side }) b) equal o.holds in
    hold_one A c side holds.1
  where
    inside : (x y : Req) → Some x ≡ Some y → x ≡ y
    inside x y e = cc

    holder_at : (A : ℕ) (c : Client) (g : Stage) (k : ℕ) (side : Side) (b : ℕ) → IsHolder A c g (record { place = k; side = side }) b → IsAt g k
    holder_at A c (Ready v) k side b h = h
    holder_at A c Entering k side b h = h
    holder_at A c (In j step) k side b h = h.0

-- a request with its place that waits
pub wait_never : (A : ℕ) (w : World) (r : ℕ) (c : Client) (d : Bool) (p : Pads) (stage : Stage) (wait : Wait) → 0 < A → Ok A w →
    w.req r ≡ Some (record { client = c; dropped = d; pads = p; stage = stage }) → MayWait A w c stage wait → IsOdd wait → ⊥
wait_never A w r c d p stage Quiesced pos ok is may odd = odd
wait_never A w r c d p stage Full pos ok is may odd = odd
wait_never A w r c d p stage (NotYet n) pos ok is may odd = odd
wait_never A w r c d p (In k (ToHold side)) (HeldBy j) pos ok is may odd =
    let (h, (held, _)) = may in
    let q : Req = record { client = c; dropped = d; pads = p; stage = In k (ToHold side) } in
    let well : Well A w.tells w.tracker w.image q = ok.well r q is in
    let works : Works A w.tracker c (In k (ToHold side)) k (edge A c side) =
    record { at = refl; goes = well.seated; sound = well.shaped.sound; reach = reaches_edge A c side pos well.shaped.sound.some } in
    hold_free A c k side h.side h.place well.shaped.wanted (holder_is A w r q k (edge A c side) h pos ok is works held).1
wait_never A w r c d p (In k (ToStore b)) (HeldBy j) pos ok is may odd =
    let (h, (held, place, other)) = may in
    let q : Req = record { client = c; dropped = d; pads = p; stage = In k (ToStore b) } in
    let well : Well A w.tells w.tracker w.image q = ok.well r q is in
    let works : Works A w.tracker c (In k (ToStore b)) k b =
    record { at = refl; goes = well.seated; sound = well.shaped.sound; reach = well.shaped.reach } in
    other (sym ((holder_is A w r q k b h pos ok is works held).0 ∙ place))
wait_never A w r c d p (In k (ToHold side)) (Taken b) pos ok is may odd =
    let o : Owner A w.req (record { place = k; side = side }) b = ok.owned b _ may.2 in
    taken_never A w r c d p k side b ok is o
wait_never A w r c d p (In k ToList) Strange pos ok is may odd = may (ok.well r _ is).seated
wait_never A w r c d p (In k ToStart) Strange pos ok is may odd = let sits : Sits A w.tracker c k = (ok.well r _ is).seated in subst (λ (x : Seat). MayStart w.tracker.seats x StrangeReply) sits.is may
wait_never A w r c d p (In k (ToEnd v)) Strange pos ok is may odd = (ok.well r _ is).seated may
wait_never A w r c d p (In k (ToFree side)) NotHeld pos ok is may odd =
    let h : Held A w.tells w.image c p k side = (ok.well r _ is).kept side (free_open A c side) in
    may _ h.held refl
wait_never A w r c d p _ _ pos ok is may odd = may

pub row_never : (A : ℕ) (w : World) (r : ℕ) (c : Client) (d : Bool) (p : Pads) {stage : Stage} (act : Act stage) → 0 < A → Ok A w →
    w.req r ≡ Some (record { client = c; dropped = d; pads = p; stage = stage }) → MayDo A w c p act → IsOddRow act → ⊥
row_never A w r c d p (Waits {stage = stage} wait) pos ok is may odd = wait_never A w r c d p stage wait pos ok is may odd
row_never A w r c d p _ pos ok is may odd = odd

pub leaving_client : (g : Session) (e : ℕ) → g ≡ Leaving e → IsClient g e
leaving_client g e is = subst (λ (x : Session). IsClient x e) (sym is) refl

pub among_some : (s : ℕ) (xs : List ℕ) → Among s xs → length xs ≢ 0
among_some s [] among is = among
among_some s (x ∷ xs) among is = omega arith

pub step_never : (A : ℕ) (w : World) (e : Element) → 0 < A → Ok A w → CanCome A w e → IsOddStep e → ⊥
step_never A w (Did r q act) pos ok may odd = row_never A w r q.client q.dropped q.pads act pos ok may.0 may.1 odd
step_never A w (NotAttached s e) pos ok may odd =
    among_some s (w.clients e) (ok.sessions s e (leaving_client (w.session s) e may.0.0)) (ok.counts e ∙ may.1)
step_never A w _ pos ok may odd = odd

-- the law
pub never_odd : (A : ℕ) (w : World) (es : List Element) → 0 < A → Ok A w → Runs A w es → NeverOdd es
never_odd A w es pos ok run before e at odd =
    let (front, may) = split_run A w es before e run at in
    step_never A (world_after A w before) e pos (run_ok A w before pos ok front) may odd

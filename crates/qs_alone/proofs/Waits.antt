-- A request alone never waits.
use Rattle.std.proofs.Common.{◌≡◌, ◌≢◌, ℕ, ◌-◌, ◌<◌, ◌^◌, Bool, false, nat_lt, cond, List, [], ◌∷◌, length, Some, None, inl, inr, refl, sym, ap, ◌∙◌, subst, arith, true≢false}
use Rattle.std.specs.Prelude.{position}
use Rattle.qs_tracker.specs.declared.seat.Seat.{Seat}
use Rattle.qs_tracker.specs.declared.seat.Seat.TheVariants.{Vacant, Present, Has}
use Rattle.qs_tracker.specs.declared.seat.Listing.{Listing}
use Rattle.qs_tracker.specs.Seats.{IsLowestBefore, Precedes, is_vacant, seat_at}
use Rattle.qs_tracker.specs.Table.{MayStart, TrackerValue}
use Rattle.qs_part.specs.declared.tracker.TrackerReply.TheVariants.{NotYet as NotYetReply}
use Rattle.qs_model.specs.Requests.{Client, Pads, Req, Step, Stage, ToRoute, ToList, ToStart, ToLoad, ToHold, ToStore, ToSync, ToFree, ToEnd, Ready, Entering, In}
use Rattle.qs_model.specs.Worlds.{Opening, World}
use Rattle.qs_model.specs.Acts.{Act, Waits, Enters, Lists, Starts, Ends, Wait, Quiesced, Full, NotYet, HeldBy, Taken, Strange, NotHeld, Element, Asked, Did, Crashed}
use Rattle.qs_model.specs.Guards.{CanCome, MayDo, MayWait}
use Rattle.qs_model.specs.Laws.{ComesBehind, opening_world}
use Rattle.qs_model.specs.Steps.{world_after, happens, tracked}
use Rattle.qs_model.proofs.Basics.{choose, same_or}
use Rattle.qs_model.proofs.Between.{vacant_or}
use Rattle.qs_model.proofs.Facts.{IsAt, Manned, Ok, Sits}
use Rattle.qs_model.proofs.Holders.{some_none}
use Rattle.qs_model.proofs.Kept.{run_ok, split_run, step_ok}
use Rattle.qs_model.proofs.Never.{wait_never}
use Rattle.qs_model.proofs.Once.{lt_true}
use Rattle.qs_alone.specs.Alone.{AreOf, IsAlone, IsWaitStep, IsWaitRow}
use Rattle.qs_alone.proofs.Frame.{Frame, frame_asked, frame_run, own_front, own_run}

-- nothing quiesces the tracker
pub quiet_row : (A : ℕ) (t : TrackerValue) (c : Client) {stage : Stage} (act : Act stage) → t.quiesced ≡ false → (tracked A t c act).quiesced ≡ false
quiet_row A t c (Enters k) h = h
quiet_row A t c (Lists {k = k} n) h = choose (λ (v : TrackerValue). v.quiesced ≡ false) (nat_lt t.number (2 ^ 64 - 1)) _ _ (λ _. h) (λ _. h)
quiet_row A t c (Starts {k = k}) h = h
quiet_row A t c (Ends {k = k}) h = h
quiet_row A t c _ h = h

pub quiet_step : (A : ℕ) (w : World) (e : Element) → w.tracker.quiesced ≡ false → (happens A w e).tracker.quiesced ≡ false
quiet_step A w (Did s q act) h = quiet_row A w.tracker q.client act h
quiet_step A w (Crashed left) h = refl
quiet_step A w _ h = h

pub quiet_run : (A : ℕ) (w : World) (es : List Element) → w.tracker.quiesced ≡ false → (world_after A w es).tracker.quiesced ≡ false
quiet_run A w [] h = h
quiet_run A w (e ∷ es) h = quiet_run A (happens A w e) es (quiet_step A w e h)

-- a taken place is that of the only request
pub own_place : (A : ℕ) (w : World) (r : ℕ) (q : Req) (x : World) (j : ℕ) → Ok A x → Frame w r x → x.req r ≡ Some q → seat_at x.tracker.seats j ≢ Vacant → IsAt q.stage j
own_place A w r q x j ok f is taken =
    let o : Manned x.req j = ok.manned j taken in
    elim (same_or o.number r) [
      | inl e ↦
          let there : x.req r ≡ Some o.request = subst (λ (n : ℕ). x.req n ≡ Some o.request) e o.is in
          subst (λ (y : Req). IsAt y.stage j) (inside o.request q (sym there ∙ is)) o.at
      | inr n ↦ absurd (some_none (sym o.is ∙ f.others o.number n))
    ]
  where
    inside : (a b : Req) → Some a ≡ Some b → a ≡ b
    inside a b e = cc

-- the first place is free
first_free : (seats : List Seat) → length seats ≡ 256 → seat_at seats 0 ≡ Vacant → position is_vacant seats ≡ None → ⊥
first_free [] size free none = omega (arith, size)
first_free (s ∷ rest) size free none = go s free none
  where
    go : (t : Seat) → t ≡ Vacant → position is_vacant (t ∷ rest) ≡ None → ⊥
    go Vacant e h = some_none (sym (ap (λ (b : Bool). cond b (Some 0) None) (lt_true 0 (length (Vacant ∷ rest)) (omega arith))) ∙ h)
    go Present e h = cc
    go (Has l) e h = cc

-- a span that goes before another is listed
precedes_taken : (s : Seat) (own : Listing) → Precedes s own → s ≢ Vacant
precedes_taken s own before is = subst (λ (t : Seat). Precedes t own) is before

-- no span goes before its own
own_last : (seats : List Seat) (k : ℕ) (own : Listing) → seat_at seats k ≡ Has own → Precedes (seat_at seats k) own → ⊥
own_last seats k own is before = less (subst (λ (t : Seat). Precedes t own) is before).0
  where
    less : own.number < own.number → ⊥
    less h = omega (arith, h)

-- a request alone at Start, whose span would have to wait for another
not_yet : (A : ℕ) (w : World) (r : ℕ) (c : Client) (d : Bool) (p : Pads) (x : World) (k n : ℕ) → Ok A x → Frame w r x →
    x.req r ≡ Some (record { client = c; dropped = d; pads = p; stage = In k ToStart }) → MayWait A x c (In k ToStart) (NotYet n) → ⊥
not_yet A w r c d p x k n ok f is may =
    let sits : Sits A x.tracker c k = (ok.well r _ is).seated in
    let low : IsLowestBefore x.tracker.seats sits.own n = subst (λ (s : Seat). MayStart x.tracker.seats s (NotYetReply n)) sits.is may in
    let same : k ≡ low.at = own_place A w r _ x low.at ok f is (precedes_taken _ sits.own low.precedes) in
    own_last x.tracker.seats k sits.own sits.is (subst (λ (j : ℕ). Precedes (seat_at x.tracker.seats j) sits.own) (sym same) low.precedes)

full : (A : ℕ) (w : World) (r : ℕ) (c : Client) (d : Bool) (p : Pads) (x : World) → Ok A x → Frame w r x →
    x.req r ≡ Some (record { client = c; dropped = d; pads = p; stage = Entering }) → position is_vacant x.tracker.seats ≡ None → ⊥
full A w r c d p x ok f is none =
    first_free x.tracker.seats ok.tracker.size (vacant_or (seat_at x.tracker.seats 0) (λ taken. own_place A w r _ x 0 ok f is taken)) none

-- a request in flight is past the answers to Enter
in_quiesced : (A : ℕ) (x : World) (c : Client) (k : ℕ) (step : Step) → MayWait A x c (In k step) Quiesced → ⊥
in_quiesced A x c k ToRoute may = may
in_quiesced A x c k ToList may = may
in_quiesced A x c k ToStart may = may
in_quiesced A x c k (ToLoad b got) may = may
in_quiesced A x c k (ToHold side) may = may
in_quiesced A x c k (ToStore b) may = may
in_quiesced A x c k (ToSync s) may = may
in_quiesced A x c k (ToFree side) may = may
in_quiesced A x c k (ToEnd v) may = may

in_full : (A : ℕ) (x : World) (c : Client) (k : ℕ) (step : Step) → MayWait A x c (In k step) Full → ⊥
in_full A x c k ToRoute may = may
in_full A x c k ToList may = may
in_full A x c k ToStart may = may
in_full A x c k (ToLoad b got) may = may
in_full A x c k (ToHold side) may = may
in_full A x c k (ToStore b) may = may
in_full A x c k (ToSync s) may = may
in_full A x c k (ToFree side) may = may
in_full A x c k (ToEnd v) may = may

-- and only Start waits for another
not_yet_else : (A : ℕ) (x : World) (c : Client) (k n : ℕ) (step : Step) → MayWait A x c (In k step) (NotYet n) → step ≡ ToStart
not_yet_else A x c k n ToRoute may = absurd may
not_yet_else A x c k n ToList may = absurd may
not_yet_else A x c k n ToStart may = refl
not_yet_else A x c k n (ToLoad b got) may = absurd may
not_yet_else A x c k n (ToHold side) may = absurd may
not_yet_else A x c k n (ToStore b) may = absurd may
not_yet_else A x c k n (ToSync s) may = absurd may
not_yet_else A x c k n (ToFree side) may = absurd may
not_yet_else A x c k n (ToEnd v) may = absurd may

-- a request alone that waits
pub wait_alone : (A : ℕ) (w : World) (r : ℕ) (c : Client) (d : Bool) (p : Pads) (x : World) (stage : Stage) (wait : Wait) → 0 < A → Ok A x → Frame w r x →
    x.tracker.quiesced ≡ false → x.req r ≡ Some (record { client = c; dropped = d; pads = p; stage = stage }) → MayWait A x c stage wait → ⊥
wait_alone A w r c d p x stage (HeldBy j) pos ok f quiet is may = wait_never A x r c d p stage (HeldBy j) pos ok is may tt
wait_alone A w r c d p x stage (Taken b) pos ok f quiet is may = wait_never A x r c d p stage (Taken b) pos ok is may tt
wait_alone A w r c d p x stage Strange pos ok f quiet is may = wait_never A x r c d p stage Strange pos ok is may tt
wait_alone A w r c d p x stage NotHeld pos ok f quiet is may = wait_never A x r c d p stage NotHeld pos ok is may tt
wait_alone A w r c d p x Entering Quiesced pos ok f quiet is may = true≢false (sym may ∙ quiet)
wait_alone A w r c d p x Entering Full pos ok f quiet is may = full A w r c d p x ok f is may.1
wait_alone A w r c d p x Entering (NotYet n) pos ok f quiet is may = may
wait_alone A w r c d p x (Ready v) Quiesced pos ok f quiet is may = may
wait_alone A w r c d p x (Ready v) Full pos ok f quiet is may = may
wait_alone A w r c d p x (Ready v) (NotYet n) pos ok f quiet is may = may
wait_alone A w r c d p x (In k step) Quiesced pos ok f quiet is may = in_quiesced A x c k step may
wait_alone A w r c d p x (In k step) Full pos ok f quiet is may = in_full A x c k step may
wait_alone A w r c d p x (In k step) (NotYet n) pos ok f quiet is may =
    let at : step ≡ ToStart = not_yet_else A x c k n step may in
    not_yet A w r c d p x k n ok f (subst (λ (g : Step). x.req r ≡ Some (record { client = c; dropped = d; pads = p; stage = In k g })) at is)
    (subst (λ (g : Step). MayWait A x c (In k g) (NotYet n)) at may)

pub row_alone : (A : ℕ) (w : World) (r : ℕ) (c : Client) (d : Bool) (p : Pads) (x : World) {stage : Stage} (act : Act stage) → 0 < A → Ok A x → Frame w r x →
    x.tracker.quiesced ≡ false → x.req r ≡ Some (record { client = c; dropped = d; pads = p; stage = stage }) → MayDo A x c p act → IsWaitRow act → ⊥
row_alone A w r c d p x (Waits {stage = stage} wait) pos ok f quiet is may waits = wait_alone A w r c d p x stage wait pos ok f quiet is may
row_alone A w r c d p x _ pos ok f quiet is may waits = waits

step_alone : (A : ℕ) (w : World) (r : ℕ) (x : World) (e : Element) → 0 < A → Ok A x → Frame w r x → x.tracker.quiesced ≡ false → CanCome A x e → IsWaitStep e →
    (s : ℕ) × (q : Req) × ((x.req s ≡ Some q) × (s ≢ r))
step_alone A w r x (Did s q act) pos ok f quiet may waits = elim (same_or s r) [
  | inl e ↦ absurd (row_alone A w r q.client q.dropped q.pads x act pos ok f quiet (subst (λ (n : ℕ). x.req n ≡ Some q) e may.0) may.1 waits)
  | inr n ↦ (s, q, (may.0, n))
]
step_alone A w r x _ pos ok f quiet may waits = absurd waits

-- the law
pub never_waits : (A : ℕ) (o : Opening) (before : List Element) (r : ℕ) (c : Client) (steps : List Element) → 0 < A → IsAlone A o before r c steps →
    (front : List Element) (e : Element) → ComesBehind front e steps → IsWaitStep e → ⊥
never_waits A o before r c steps pos alone front e at waits =
    let w : World = world_after A (opening_world o) before in
    let (ok, run) = own_run A o before r c steps pos alone in
    let w1 : World = happens A w (Asked r c) in
    let ok1 : Ok A w1 = step_ok A w (Asked r c) pos ok run.0 in
    let (up, may) = split_run A w1 steps front e run.1 at in
    let f : Frame w r (world_after A w1 front) =
    frame_run A w r w1 front (own_front r front (e ∷ at.0) (subst (λ (l : List Element). AreOf r l) at.1 alone.own)) (frame_asked A w r c alone.idle) in
    let quiet : (world_after A w1 front).tracker.quiesced ≡ false = quiet_run A w1 front (quiet_run A (opening_world o) before refl) in
    let (s, q, (there, other)) = step_alone A w r (world_after A w1 front) e pos (run_ok A w1 front pos ok1 up) f quiet may waits in
    some_none (sym there ∙ f.others s other)

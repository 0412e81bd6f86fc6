-- What a step of one request leaves alone of the others.
use Rattle.std.proofs.Common.{◌≡◌, ◌≢◌, ℕ, List, Option, Some, None, refl, sym, ap, ◌∙◌, subst}
use Rattle.qs_model.specs.Puts.{put}
use Rattle.qs_model.specs.Requests.{Client, Pads, Step, Stage, ToRoute, ToList, ToStart, ToLoad, ToHold, ToStore, ToSync, ToFree, ToEnd, edge}
use Rattle.qs_tracker.specs.declared.seat.Listing.{Listing}
use Rattle.qs_tracker.specs.declared.seat.Seat.{Seat}
use Rattle.qs_tracker.specs.declared.seat.Seat.TheVariants.{Vacant, Present, Has}
use Rattle.qs_tracker.specs.Seats.{seat_at}
use Rattle.qs_tracker.specs.Table.{TrackerValue, going, numbered}
use Rattle.qs_tracker.specs.History.{SameSeat}
use Rattle.qs_tracker.proofs.Rows.{numbered_seat, same_seat, seat_other}
use Rattle.qs_model.specs.Worlds.{Hold, Image, World}
use Rattle.qs_model.specs.Acts.{Act, Answers, Waits, Enters, Routes, Shuts, Lists, Starts, Loads, LoadFails, Holds, HoldFails, Stores, StoreFails, Syncs, Cleans, SyncFails, Frees, Ends}
use Rattle.qs_model.specs.Guards.{MayDo, CanStore}
use Rattle.qs_model.specs.Steps.{tracked, imaged}
use Rattle.qs_model.proofs.Basics.{put_other}
use Rattle.qs_model.proofs.Facts.{Sits, Goes, Seated, IsAt}

-- the step is by a request at another place than j
abbrev pub Elsewhere : ℕ → {stage : Stage} → Act stage → Type 0
Elsewhere j Answers = Unit {0}
Elsewhere j (Waits {stage = stage} wait) = IsAt stage j → ⊥
Elsewhere j (Enters k) = j ≢ k
Elsewhere j (Routes {k = k} route) = j ≢ k
Elsewhere j (Shuts {k = k}) = j ≢ k
Elsewhere j (Lists {k = k} n) = j ≢ k
Elsewhere j (Starts {k = k}) = j ≢ k
Elsewhere j (Loads {k = k} bytes) = j ≢ k
Elsewhere j (LoadFails {k = k}) = j ≢ k
Elsewhere j (Holds {k = k} bytes) = j ≢ k
Elsewhere j (HoldFails {k = k}) = j ≢ k
Elsewhere j (Stores {k = k} bytes past) = j ≢ k
Elsewhere j (StoreFails {k = k} bytes took past) = j ≢ k
Elsewhere j (Syncs {k = k}) = j ≢ k
Elsewhere j (Cleans {k = k}) = j ≢ k
Elsewhere j (SyncFails {k = k}) = j ≢ k
Elsewhere j (Frees {k = k}) = j ≢ k
Elsewhere j (Ends {k = k}) = j ≢ k

pub equal_seat : (s t : Seat) → t ≡ s → SameSeat s t
equal_seat s t e = subst (λ (u : Seat). SameSeat s u) (sym e) (same_seat s)

-- the place of another request is the same, but for its number
pub others_seat : (A : ℕ) (w : World) (c : Client) (p : Pads) {stage : Stage} (act : Act stage) (j : ℕ) → MayDo A w c p act → Elsewhere j act →
    SameSeat (seat_at w.tracker.seats j) (seat_at (tracked A w.tracker c act).seats j)
others_seat A w c p (Enters k) j may other = equal_seat _ _ (seat_other w.tracker.seats k Present j other)
others_seat A w c p (Lists {k = k} n) j may other =
    subst (λ (u : Seat). SameSeat (seat_at w.tracker.seats j) u) (sym (seat_other (numbered w.tracker).seats k _ j other)) (numbered_seat w.tracker j)
others_seat A w c p (Starts {k = k}) j may other = equal_seat _ _ (seat_other w.tracker.seats k (going (seat_at w.tracker.seats k)) j other)
others_seat A w c p (Ends {k = k}) j may other = equal_seat _ _ (seat_other w.tracker.seats k Vacant j other)
others_seat A w c p _ j may other = same_seat (seat_at w.tracker.seats j)

-- a place that is the same has the same facts
pub same_present : (s t : Seat) → SameSeat s t → s ≡ Present → t ≡ Present
same_present Vacant t same is = absurd (cc)
same_present Present Vacant same is = absurd same
same_present Present Present same is = refl
same_present Present (Has m) same is = absurd same
same_present (Has l) t same is = absurd (cc)

pub same_taken : (s t : Seat) → SameSeat s t → s ≢ Vacant → t ≢ Vacant
same_taken Vacant t same taken is = taken refl
same_taken Present Vacant same taken is = same
same_taken Present Present same taken is = cc
same_taken Present (Has m) same taken is = same
same_taken (Has l) Vacant same taken is = same
same_taken (Has l) Present same taken is = same
same_taken (Has l) (Has m) same taken is = cc

pub same_has : (s t : Seat) (l : Listing) → SameSeat s t → s ≡ Has l → (m : Listing) × ((t ≡ Has m) × (m.span ≡ l.span) × (m.serial ≡ l.serial) × (m.started ≡ l.started))
same_has Vacant t l same is = absurd (cc)
same_has Present t l same is = absurd (cc)
same_has (Has k) Vacant l same is = absurd same
same_has (Has k) Present l same is = absurd same
same_has (Has k) (Has m) l same is =
    let e : k ≡ l = cc in (
      m,
      (
        refl,
        ap (λ (n : Listing). n.span) same ∙ ap (λ (n : Listing). n.span) e,
        ap (λ (n : Listing). n.serial) same ∙ ap (λ (n : Listing). n.serial) e,
        ap (λ (n : Listing). n.started) same ∙ ap (λ (n : Listing). n.started) e,
      ),
    )

pub same_sits : (A : ℕ) (t u : TrackerValue) (c : Client) (k : ℕ) → SameSeat (seat_at t.seats k) (seat_at u.seats k) → Sits A t c k → Sits A u c k
same_sits A t u c k same sits =
    let (m, (is, span, serial, started)) = same_has (seat_at t.seats k) (seat_at u.seats k) sits.own same sits.is in
    record { own = m; is = is; span = span ∙ sits.span; serial = serial ∙ sits.serial }

pub same_goes : (A : ℕ) (t u : TrackerValue) (c : Client) (k : ℕ) → SameSeat (seat_at t.seats k) (seat_at u.seats k) → Goes A t c k → Goes A u c k
same_goes A t u c k same goes =
    let (m, (is, span, serial, started)) = same_has (seat_at t.seats k) (seat_at u.seats k) goes.sits.own same goes.sits.is in
    record { sits = record { own = m; is = is; span = span ∙ goes.sits.span; serial = serial ∙ goes.sits.serial }; started = started ∙ goes.started }

pub same_seated : (A : ℕ) (t u : TrackerValue) (c : Client) (k : ℕ) (step : Step) → SameSeat (seat_at t.seats k) (seat_at u.seats k) → Seated A t c k step → Seated A u c k step
same_seated A t u c k ToRoute same h = same_present _ _ same h
same_seated A t u c k ToList same h = same_present _ _ same h
same_seated A t u c k ToStart same h = same_sits A t u c k same h
same_seated A t u c k (ToLoad b got) same h = same_goes A t u c k same h
same_seated A t u c k (ToHold side) same h = same_goes A t u c k same h
same_seated A t u c k (ToStore b) same h = same_goes A t u c k same h
same_seated A t u c k (ToSync s) same h =
    record { spanless = λ e. same_present _ _ same (h.spanless e); goes = λ e. same_goes A t u c k same (h.goes e) }
same_seated A t u c k (ToFree side) same h = same_goes A t u c k same h
same_seated A t u c k (ToEnd v) same h = same_taken _ _ same h

-- a block that j holds isn't one on which a request elsewhere may act
abbrev pub Untouched : Image → Image → ℕ → Option Hold → Type 0
Untouched i k b h = (k.holder b ≡ h) × (k.now b ≡ i.now b)

pub held_store : (A : ℕ) (i : Image) (k j : ℕ) (c : Client) (p : Pads) (b d : ℕ) (bytes now : List ℕ) (past : List (List ℕ)) (h : Hold) →
    CanStore A i k c p b bytes past → h.place ≢ k → i.holder d ≡ Some h → (put i.holder b None d ≡ Some h) × (put i.now b now d ≡ i.now d)
held_store A i k j c p b d bytes now past h can other is =
    let away : d ≢ b = λ e. other (can.free h (subst (λ (n : ℕ). i.holder n ≡ Some h) e is)) in
    (put_other i.holder b None d away ∙ is, put_other i.now b now d away)

pub others_held : (A : ℕ) (w : World) (c : Client) (p : Pads) {stage : Stage} (act : Act stage) (d : ℕ) (h : Hold) → MayDo A w c p act → Elsewhere h.place act →
    w.image.holder d ≡ Some h → Untouched w.image (imaged A w.image c act) d (Some h)
others_held A w c p (Holds {k = k} {side = side} bytes) d h may other is =
    let away : d ≢ edge A c side = λ e. let g : w.image.holder (edge A c side) ≡ Some h = subst (λ (n : ℕ). w.image.holder n ≡ Some h) e is in
    let f : w.image.holder (edge A c side) ≡ None = may.0.free in cc in
    (put_other w.image.holder (edge A c side) (Some (record { place = k; side = side })) d away ∙ is, refl)
others_held A w c p (Stores {k = k} {b = b} bytes past) d h may other is = held_store A w.image k h.place c p b d bytes bytes past h may.0 other is
others_held A w c p (StoreFails {k = k} {b = b} bytes took past) d h may other is = held_store A w.image k h.place c p b d bytes _ past h may.0 other is
others_held A w c p (Frees {k = k} {side = side}) d h may other is =
    let (g, (there, place)) = may in
    let away : d ≢ edge A c side = λ e. let f : w.image.holder (edge A c side) ≡ Some h = subst (λ (n : ℕ). w.image.holder n ≡ Some h) e is in
    let same : g ≡ h = cc in other (ap (λ (x : Hold). x.place) (sym same) ∙ place) in
    (put_other w.image.holder (edge A c side) None d away ∙ is, refl)
others_held A w c p _ d h may other is = (is, refl)

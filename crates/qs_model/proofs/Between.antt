-- What a request does stands between its Ask and its answer; its stores on a way that the graph gave.
use Rattle.std.proofs.Common.{◌≡◌, ◌≢◌, ℕ, ◌<◌, ◌⊎◌, inl, inr, Bool, true, List, [], ◌∷◌, Option, Some, None, refl, sym, ap, ◌∙◌, subst, arith}
use Rattle.qs_bytes.specs.declared.ask.Verdict.{Verdict}
use Rattle.qs_part.specs.declared.graph.Route.{Route}
use Rattle.qs_model.specs.Requests.{Step, Client, Pads, Req, Stage, ToRoute, ToList, ToStart, ToLoad, ToHold, ToStore, ToSync, ToFree, ToEnd, Ready, Entering, In, new_request, form_error, abandoned}
use Rattle.qs_tracker.specs.declared.seat.Seat.{Seat}
use Rattle.qs_tracker.specs.declared.seat.Seat.TheVariants.{Vacant, Present, Has}
use Rattle.qs_tracker.specs.Seats.{seat_at}
use Rattle.qs_tracker.specs.Table.{TrackerValue}
use Rattle.qs_tracker.proofs.Sound.{Sound as TrackerSound, goes_apart, lowest_starts}
use Rattle.qs_model.specs.Worlds.{World}
use Rattle.qs_model.specs.Acts.{Act, Answers, Waits, Enters, Routes, Shuts, Lists, Starts, Loads, LoadFails, Holds, HoldFails, Stores, StoreFails, Syncs, Cleans, SyncFails, Frees, Ends, Element, Attached, NoExport, Crowded, Left, Detached, NotAttached, Asked, Did, Exported, Planned, Crashed}
use Rattle.qs_model.specs.Guards.{CanCome}
use Rattle.qs_model.specs.Steps.{moved, leaves, happens, world_after, Runs}
use Rattle.qs_model.specs.Histories.{answer_of, Acts, IsAnswer, IsAsk, IsStore, IsStoreRow, IsRouted, IsRouteRow}
use Rattle.qs_model.specs.Laws.{Between, WasAsked, Unanswered, Writable, WasRouted, Ordered, Tracked, InFlight, Placed, InPlace}
use Rattle.qs_model.proofs.Basics.{choose, put_here, put_tells}
use Rattle.qs_model.proofs.Facts.{Shaped, Ok, IsAt, Manned}
use Rattle.qs_model.proofs.Machine.{ForMoved}
use Rattle.qs_model.proofs.Holders.{some_none}
use Rattle.qs_model.proofs.Kept.{step_ok, run_ok, for_moved, leaves_tells, split_run, front_run, seated_taken}
use Rattle.qs_model.proofs.Along.{gone_lasts, lasts_run, next_step, next_run}

-- only an Ask makes a request
pub appears : (A : ℕ) (w : World) (e : Element) (r : ℕ) (q : Req) → CanCome A w e → w.req r ≡ None → (happens A w e).req r ≡ Some q → IsAsk r e
appears A w (Attached s name e) r q may none is = absurd (some_none (sym is ∙ none))
appears A w (NoExport s name) r q may none is = absurd (some_none (sym is ∙ none))
appears A w (Crowded s name) r q may none is = absurd (some_none (sym is ∙ none))
appears A w (Left s e) r q may none is = absurd (some_none (sym is ∙ ap (leaves s) none))
appears A w (Detached s e) r q may none is = absurd (some_none (sym is ∙ none))
appears A w (NotAttached s e) r q may none is = absurd (some_none (sym is ∙ none))
appears A w (Asked s c) r q may none is = elim (put_tells w.req s _ r (Some q) is) [ inl e ↦ sym e.0 | inr e ↦ absurd (some_none (sym e.1 ∙ none)) ]
appears A w (Did s p act) r q may none is =
    elim (put_tells w.req s _ r (Some q) is) [ inl e ↦ absurd (some_none (sym (ap w.req e.0 ∙ may.0) ∙ none)) | inr e ↦ absurd (some_none (sym e.1 ∙ none)) ]
appears A w (Exported op e) r q may none is = absurd (some_none (sym is ∙ none))
appears A w (Planned j fail) r q may none is = absurd (some_none (sym is ∙ none))
appears A w (Crashed left) r q may none is = absurd (some_none (sym is))

pub was_asked : (A : ℕ) (w : World) (es : List Element) (r : ℕ) (q : Req) → Runs A w es → w.req r ≡ None → (world_after A w es).req r ≡ Some q → WasAsked r es
was_asked A w [] r q run none is = absurd (some_none (sym is ∙ none))
was_asked A w (e ∷ es) r q run none is = go ((happens A w e).req r) refl (λ n. was_asked A (happens A w e) es r q run.1 n is)
  where
    go : (o : Option Req) → (happens A w e).req r ≡ o → ((happens A w e).req r ≡ None → WasAsked r es) → WasAsked r (e ∷ es)
    go None there later = inr (later there)
    go (Some p) there later = inl (appears A w e r p run.0 none there)

-- a request that has answered is gone
pub answer_gone : (A : ℕ) (c : Client) (d : Bool) (p : Pads) {stage : Stage} (act : Act stage) (v : Verdict) → answer_of d act ≡ Some v → moved A c d p act ≡ None
answer_gone A c d p Answers v is = refl
answer_gone A c d p Ends v is = refl
answer_gone A c d p _ v is = absurd (some_none (sym is))

pub answer_ends : (A : ℕ) (w : World) (r : ℕ) (e : Element) → Ok A w → CanCome A w e → IsAnswer r e → ((happens A w e).req r ≡ None) × (r < w.next)
answer_ends A w r (Did s q act) ok may is =
    let (same, (v, answer)) = is in (
      ap (happens A w (Did s q act)).req (sym same) ∙ put_here w.req s _ ∙ answer_gone A q.client q.dropped q.pads act v answer,
      subst (λ (n : ℕ). n < w.next) same (ok.below s q may.0),
    )
answer_ends A w r _ ok may is = absurd is

pub unanswered : (A : ℕ) (w : World) (es : List Element) (r : ℕ) (q : Req) → 0 < A → Ok A w → Runs A w es → (world_after A w es).req r ≡ Some q → Unanswered r es
unanswered A w [] r q pos ok run is = tt
unanswered A w (e ∷ es) r q pos ok run is = (
  (λ answer. let (none, made) = answer_ends A w r e ok run.0 answer in
      some_none (sym is ∙ lasts_run A _ (gone_lasts A) (happens A w e) es r run.1 (next_step A w e r made) none)),
  unanswered A (happens A w e) es r q pos (step_ok A w e pos ok run.0) run.1 is,
)

pub acts_at : (A : ℕ) (w : World) (r : ℕ) (e : Element) → CanCome A w e → Acts r e → (q : Req) × (w.req r ≡ Some q)
acts_at A w r (Did s q act) may is = (q, ap w.req (sym is) ∙ may.0)
acts_at A w r _ may is = absurd is

-- a request that was asked is below the next
pub asked_step : (A : ℕ) (w : World) (e : Element) (r : ℕ) → CanCome A w e → IsAsk r e → r < (happens A w e).next
asked_step A w (Asked s c) r may is = let f : s ≡ w.next = may.next in omega arith
asked_step A w _ r may is = absurd is

pub asked_made : (A : ℕ) (w : World) (es : List Element) (r : ℕ) → Runs A w es → WasAsked r es → r < (world_after A w es).next
asked_made A w [] r run was = absurd was
asked_made A w (e ∷ es) r run (inl is) = next_run A (happens A w e) es r (asked_step A w e r run.0 is)
asked_made A w (e ∷ es) r run (inr was) = asked_made A (happens A w e) es r run.1 was

pub asks_next : (A : ℕ) (w : World) (e : Element) (r : ℕ) → CanCome A w e → IsAsk r e → r < w.next → ⊥
asks_next A w (Asked s c) r may is old = let f : s ≡ w.next = may.next in omega arith
asks_next A w _ r may is old = absurd is

pub between : (A : ℕ) (w : World) (es : List Element) → 0 < A → Ok A w → ((r : ℕ) → w.req r ≡ None) → Runs A w es → Between es
between A w es pos ok none run = record {
  once = λ r before e at is was.
      let (front, may) = split_run A w es before e run at in
      asks_next A (world_after A w before) e r may is (asked_made A w before r front was);
  within = λ r before e at acts.
      let (front, may) = split_run A w es before e run at in
      let (q, is) = acts_at A (world_after A w before) r e may acts in
      (was_asked A w before r q front (none r) is, unanswered A w before r q pos ok front is);
}

-- the stages between the way and the answer
abbrev pub IsGoing : Stage → Type 0
IsGoing (In k ToRoute) = ⊥
IsGoing (In k (ToEnd v)) = ⊥
IsGoing (In k step) = Unit {0}
IsGoing _ = ⊥

pub back_route : (A : ℕ) (c : Client) (d : Bool) (p : Pads) {stage : Stage} (act : Act stage) →
    ForMoved (λ q. IsGoing q.stage → (IsGoing stage × (c.route ≡ q.client.route)) ⊎ IsRouteRow act q.client.route) (moved A c d p act)
back_route A c d p Answers = tt
back_route A c d p (Waits wait) = λ going. inl (going, refl)
back_route A c d p (Enters k) = λ going. absurd going
back_route A c d p (Routes route) = λ going. inr refl
back_route A c d p Shuts = λ going. absurd going
back_route A c d p (Lists n) = λ going. inl (tt, refl)
back_route A c d p Starts = λ going. inl (tt, refl)
back_route A c d p (Loads bytes) = λ going. inl (tt, refl)
back_route A c d p LoadFails = λ going. absurd going
back_route A c d p (Holds bytes) = λ going. inl (tt, refl)
back_route A c d p HoldFails = λ going. inl (tt, refl)
back_route A c d p (Stores bytes past) = λ going. inl (tt, refl)
back_route A c d p (StoreFails bytes took past) = λ going. inl (tt, refl)
back_route A c d p Syncs = λ going. inl (tt, refl)
back_route A c d p Cleans = λ going. inl (tt, refl)
back_route A c d p SyncFails = λ going. absurd going
back_route A c d p Frees = λ going. absurd going
back_route A c d p Ends = tt

pub abandoned_going : (c : Client) (g : Stage) → IsGoing (abandoned c g) → IsGoing g
abandoned_going c (Ready v) going = going
abandoned_going c Entering going = going
abandoned_going c (In k ToRoute) going = going
abandoned_going c (In k ToList) going = absurd going
abandoned_going c (In k ToStart) going = going
abandoned_going c (In k (ToLoad b got)) going = going
abandoned_going c (In k (ToHold side)) going = going
abandoned_going c (In k (ToStore b)) going = going
abandoned_going c (In k (ToSync s)) going = tt
abandoned_going c (In k (ToFree side)) going = going
abandoned_going c (In k (ToEnd v)) going = going

pub asked_going : (c : Client) → IsGoing (new_request c).stage → ⊥
asked_going c =
    let P : Stage → Type 0 = λ g. IsGoing g → ⊥ in
    choose P (form_error c.ask) _ _ (λ e g. g) (λ e. choose P c.buffered _ _ (λ f g. g) (λ f g. g))

-- a request with this way goes in this state
pub record Goer (w : World) (r : ℕ) (route : Route) : Type 0 where
  pub request : Req
  pub is : w.req r ≡ Some request
  pub going : IsGoing request.stage
  pub way : request.client.route ≡ route

pub goer_before : (A : ℕ) (w : World) (e : Element) (r : ℕ) (route : Route) → CanCome A w e → Goer (happens A w e) r route → Goer w r route ⊎ IsRouted r route e
goer_before A w (Attached s name e) r route may g = inl (record { request = g.request; is = g.is; going = g.going; way = g.way })
goer_before A w (NoExport s name) r route may g = inl g
goer_before A w (Crowded s name) r route may g = inl g
goer_before A w (Left s e) r route may g =
    let (q, (there, which)) = leaves_tells s (w.req r) g.request g.is in
    inl (elim which [
      | inl f ↦ record { request = q; is = there; going = subst (λ (x : Req). IsGoing x.stage) f g.going; way = ap (λ (x : Req). x.client.route) (sym f) ∙ g.way }
      | inr f ↦ record {
        request = q;
        is = there;
        going = abandoned_going q.client q.stage (subst (λ (x : Req). IsGoing x.stage) f g.going);
        way = ap (λ (x : Req). x.client.route) (sym f) ∙ g.way;
      }
    ])
goer_before A w (Detached s e) r route may g = inl (record { request = g.request; is = g.is; going = g.going; way = g.way })
goer_before A w (NotAttached s e) r route may g = inl g
goer_before A w (Asked s c) r route may g = elim (put_tells w.req s _ r (Some g.request) g.is) [
  | inl e ↦ absurd (asked_going c (subst (λ (x : Req). IsGoing x.stage) (sym (inside (new_request c) g.request e.1)) g.going))
  | inr e ↦ inl (record { request = g.request; is = e.1; going = g.going; way = g.way })
]
  where
    inside : (x y : Req) → Some x ≡ Some y → x ≡ y
    inside x y e = cc
goer_before A w (Did s q act) r route may g = elim (put_tells w.req s _ r (Some g.request) g.is) [
  | inl e ↦ elim (for_moved (λ x. IsGoing x.stage → (IsGoing q.stage × (q.client.route ≡ x.client.route)) ⊎ IsRouteRow act x.client.route) _ g.request
      (back_route A q.client q.dropped q.pads act) e.1 g.going) [
        | inl f ↦ inl (record { request = q; is = ap w.req e.0 ∙ may.0; going = f.0; way = f.1 ∙ g.way })
        | inr f ↦ inr (sym e.0, subst (λ (x : Route). IsRouteRow act x) g.way f)
      ]
  | inr e ↦ inl (record { request = g.request; is = e.1; going = g.going; way = g.way })
]
goer_before A w (Exported op e) r route may g = inl (record { request = g.request; is = g.is; going = g.going; way = g.way })
goer_before A w (Planned j fail) r route may g = inl (record { request = g.request; is = g.is; going = g.going; way = g.way })
goer_before A w (Crashed left) r route may g = absurd (some_none (sym g.is))

pub was_routed : (A : ℕ) (w : World) (es : List Element) (r : ℕ) (route : Route) → Runs A w es → Goer (world_after A w es) r route → Goer w r route ⊎ WasRouted r route es
was_routed A w [] r route run g = inl g
was_routed A w (e ∷ es) r route run g = elim (was_routed A (happens A w e) es r route run.1 g) [
  | inl h ↦ elim (goer_before A w e r route run.0 h) [ inl k ↦ inl k | inr k ↦ inr (inl k) ]
  | inr h ↦ inr (inr h)
]

-- a row of Store is by a request that may write
pub store_row : (A : ℕ) (c : Client) {stage : Stage} (act : Act stage) → Shaped A c stage → IsStoreRow act → (c.route.writable ≡ true) × IsGoing stage
store_row A c (Stores bytes past) fit is = (fit.sound.writable fit.writing, tt)
store_row A c (StoreFails bytes took past) fit is = (fit.sound.writable fit.writing, tt)
store_row A c _ fit is = absurd is

pub store_at : (A : ℕ) (w : World) (r : ℕ) (c : Client) (e : Element) → Ok A w → CanCome A w e → IsStore r c e → (c.route.writable ≡ true) × Goer w r c.route
store_at A w r c (Did s q act) ok may is =
    let (same, client, row) = is in
    let (writable, going) = store_row A q.client act (ok.well s q may.0).shaped row in (
      subst (λ (x : Client). x.route.writable ≡ true) client writable,
      record { request = q; is = ap w.req (sym same) ∙ may.0; going = going; way = ap (λ (x : Client). x.route) client },
    )
store_at A w r c _ ok may is = absurd is

pub writable : (A : ℕ) (w : World) (es : List Element) → 0 < A → Ok A w → ((r : ℕ) → w.req r ≡ None) → Runs A w es → Writable es
writable A w es pos ok none run r c before e at store =
    let (front, may) = split_run A w es before e run at in
    let (may_write, goer) = store_at A (world_after A w before) r c e (run_ok A w before pos ok front) may store in
    (may_write, elim (was_routed A w before r c.route front goer) [ inl g ↦ absurd (some_none (sym g.is ∙ none r)) | inr h ↦ h ])

-- the listed spans
pub ordered : (t : TrackerValue) → TrackerSound t → Ordered t
ordered t sound = record {
  apart = λ j k l m a b conflict. goes_apart t j k l m sound a b conflict;
  lowest = λ k l low. lowest_starts t k l low;
}

pub tracked : (A : ℕ) (w : World) (es : List Element) → 0 < A → Ok A w → Runs A w es → Tracked A w es
tracked A w es pos ok run before at = ordered _ (run_ok A w before pos ok (front_run A w es before run at)).tracker

-- requests in flight and their places
pub flight_at : (w : World) (r k : ℕ) (f : InFlight w r k) → IsAt f.request.stage k
flight_at w r k f = subst (λ (g : Stage). IsAt g k) (sym f.stage) refl

pub at_stage : (g : Stage) (k : ℕ) → IsAt g k → (step : Step) × (g ≡ In k step)
at_stage (Ready v) k at = absurd at
at_stage Entering k at = absurd at
at_stage (In j step) k at = (step, ap (λ (i : ℕ). In i step) at)

pub vacant_or : (s : Seat) → (s ≢ Vacant → ⊥) → s ≡ Vacant
vacant_or Vacant none = refl
vacant_or Present none = absurd (none (λ e. cc))
vacant_or (Has l) none = absurd (none (λ e. cc))

pub placed : (A : ℕ) (w : World) → Ok A w → Placed w
placed A w ok = record {
  taken = taken;
  one = λ r s k f g. ok.one r s f.request g.request k f.is g.is (flight_at w r k f) (flight_at w s k g);
  manned = manned;
  drained = (λ vacant r k f. taken r k f (vacant k), λ drained k. vacant_or (seat_at w.tracker.seats k) (λ full. let (r, f) = manned k full in drained r k f));
}
  where
    taken : (r k : ℕ) → InFlight w r k → seat_at w.tracker.seats k ≢ Vacant
    taken r k f = seated_taken A w.tracker f.request.client f.request.stage k (ok.well r f.request f.is).seated (flight_at w r k f)

    manned : (k : ℕ) → seat_at w.tracker.seats k ≢ Vacant → (r : ℕ) × InFlight w r k
    manned k full =
        let o : Manned w.req k = ok.manned k full in
        let (step, is) = at_stage o.request.stage k o.at in
        (o.number, record { request = o.request; step = step; is = o.is; stage = is })

pub in_place : (A : ℕ) (w : World) (es : List Element) → 0 < A → Ok A w → Runs A w es → InPlace A w es
in_place A w es pos ok run before at = placed A (world_after A w before) (run_ok A w before pos ok (front_run A w es before run at))

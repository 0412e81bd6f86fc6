-- Every step of a run keeps the facts.
use Rattle.std.proofs.Common.{◌≡◌, ◌≢◌, ℕ, ◌+◌, ◌-◌, ◌<◌, ◌⊎◌, inl, inr, Bool, true, false, not, ◌&&◌, ◌||◌, ◌==◌, cond, nat_lt, List, [], ◌∷◌, ◌++◌, length, Option, Some, None, refl, sym, ap, ◌∙◌, subst, arith, true≢false}
use Rattle.qs_bytes.specs.Payloads.{max_payload}
use Rattle.qs_bytes.specs.declared.ask.Ask.{Ask}
use Rattle.qs_outside.specs.declared.rigged_disk.Plans.{Plans}
use Rattle.qs_outside.specs.Rigged.{planned_too}
use Rattle.qs_part.specs.declared.graph.ExportInfo.{ExportInfo}
use Rattle.qs_part.specs.declared.graph.GraphOp.TheVariants.{Attach, Detach}
use Rattle.qs_part.specs.declared.graph.GraphReply.TheVariants.{Added, Attached as AttachedReply, Detached as DetachedReply}
use Rattle.qs_graph.specs.Exports.{clients_of, export_at, found_at}
use Rattle.qs_graph.specs.Table.{GraphValue, after as graph_after}
use Rattle.qs_graph.proofs.Rows.{added_counts, attach_here, attach_other, detach_here, detach_other}
use Rattle.qs_graph.proofs.Standing.{nobody as no_export}
use Rattle.qs_tracker.specs.declared.seat.Seat.TheVariants.{Vacant, Has}
use Rattle.qs_tracker.specs.Seats.{seat_at}
use Rattle.qs_tracker.specs.Table.{TrackerValue}
use Rattle.qs_tracker.proofs.Rows.{free_place}
use Rattle.qs_tracker.proofs.Seats.{nobody}
use Rattle.qs_tracker.proofs.Sound.{fresh_sound}
use Rattle.qs_model.specs.Puts.{put, without}
use Rattle.qs_model.specs.Requests.{Client, Pads, Req, Step, Stage, ToRoute, ToList, ToStart, ToLoad, ToHold, ToStore, ToSync, ToFree, ToEnd, Ready, Entering, In, edge, is_known, is_read, is_flush, form_error, new_request, abandoned, abandon}
use Rattle.qs_model.specs.Worlds.{Hold, Image, Session, Away, Live, Leaving, World, Opening, new_world}
use Rattle.qs_model.specs.Acts.{Act, Answers, Waits, Enters, Routes, Shuts, Lists, Starts, Loads, LoadFails, Holds, HoldFails, Stores, StoreFails, Syncs, Cleans, SyncFails, Frees, Ends, Element, Attached, NoExport, Crowded, Left, Detached, NotAttached, Asked, Did, Exported, Planned, Crashed}
use Rattle.qs_model.specs.Guards.{MayDo, CanCome, CanAsk}
use Rattle.qs_model.specs.Steps.{moved, tracked, imaged, leaves, happens, crashed, world_after, Runs}
use Rattle.qs_model.specs.Laws.{ComesBehind, Begins}
use Rattle.qs_model.proofs.Basics.{choose, put_here, put_other, put_tells, put_cases, same_or}
use Rattle.qs_model.proofs.Facts.{Fit, Shaped, Seated, Seats, Held, Keeps, Well, IsHolder, Owner, Manned, IsAt, IsClient, Among, Ok}
use Rattle.qs_model.proofs.Machine.{ForMoved, own_shaped}
use Rattle.qs_model.proofs.Places.{own_seated, stays_sound, present_taken, sync_taken}
use Rattle.qs_model.proofs.Held.{own_kept}
use Rattle.qs_model.proofs.Holders.{HasMoved, own_holder, holder_before, new_holder, some_none}
use Rattle.qs_model.proofs.Manned.{taken_before, own_stays, own_takes}
use Rattle.qs_model.proofs.Others.{Elsewhere, others_seat, same_seated, others_held}

-- a request's place is taken
pub seated_taken : (A : ℕ) (t : TrackerValue) (c : Client) (stage : Stage) (j : ℕ) → Seats A t c stage → IsAt stage j → seat_at t.seats j ≢ Vacant
seated_taken A t c (Ready v) j seats at = absurd at
seated_taken A t c Entering j seats at = absurd at
seated_taken A t c (In k step) j seats at = subst (λ (i : ℕ). seat_at t.seats i ≢ Vacant) at (go step seats)
  where
    go : (g : Step) → Seated A t c k g → seat_at t.seats k ≢ Vacant
    go ToRoute h = present_taken t k h
    go ToList h = present_taken t k h
    go ToStart h = λ e. let f : seat_at t.seats k ≡ Has h.own = h.is in cc
    go (ToLoad b got) h = λ e. let f : seat_at t.seats k ≡ Has h.sits.own = h.sits.is in cc
    go (ToHold side) h = λ e. let f : seat_at t.seats k ≡ Has h.sits.own = h.sits.is in cc
    go (ToStore b) h = λ e. let f : seat_at t.seats k ≡ Has h.sits.own = h.sits.is in cc
    go (ToSync s) h = sync_taken A t c k h
    go (ToFree side) h = λ e. let f : seat_at t.seats k ≡ Has h.sits.own = h.sits.is in cc
    go (ToEnd v) h = h

-- a request at a taken place other than the acting one's is elsewhere
pub elsewhere : (A : ℕ) (w : World) (c : Client) (p : Pads) {stage : Stage} (act : Act stage) (j : ℕ) → MayDo A w c p act → seat_at w.tracker.seats j ≢ Vacant →
    (IsAt stage j → ⊥) → Elsewhere j act
elsewhere A w c p Answers j may taken other = tt
elsewhere A w c p (Waits wait) j may taken other = other
elsewhere A w c p (Enters k) j may taken other = λ e. taken (ap (seat_at w.tracker.seats) e ∙ (free_place w.tracker.seats k may.1).1)
elsewhere A w c p (Routes route) j may taken other = λ e. other (sym e)
elsewhere A w c p Shuts j may taken other = λ e. other (sym e)
elsewhere A w c p (Lists n) j may taken other = λ e. other (sym e)
elsewhere A w c p Starts j may taken other = λ e. other (sym e)
elsewhere A w c p (Loads bytes) j may taken other = λ e. other (sym e)
elsewhere A w c p LoadFails j may taken other = λ e. other (sym e)
elsewhere A w c p (Holds bytes) j may taken other = λ e. other (sym e)
elsewhere A w c p HoldFails j may taken other = λ e. other (sym e)
elsewhere A w c p (Stores bytes past) j may taken other = λ e. other (sym e)
elsewhere A w c p (StoreFails bytes took past) j may taken other = λ e. other (sym e)
elsewhere A w c p Syncs j may taken other = λ e. other (sym e)
elsewhere A w c p Cleans j may taken other = λ e. other (sym e)
elsewhere A w c p SyncFails j may taken other = λ e. other (sym e)
elsewhere A w c p Frees j may taken other = λ e. other (sym e)
elsewhere A w c p Ends j may taken other = λ e. other (sym e)

-- the acting request isn't elsewhere
pub own_at : (A : ℕ) (c : Client) (d : Bool) (p : Pads) {stage : Stage} (act : Act stage) (j : ℕ) → Elsewhere j act →
    ForMoved (λ q. IsAt q.stage j → ⊥) (moved A c d p act)
own_at A c d p Answers j other = tt
own_at A c d p (Waits wait) j other = other
own_at A c d p (Enters k) j other = λ e. other (sym e)
own_at A c d p (Routes route) j other = λ e. other (sym e)
own_at A c d p Shuts j other = λ e. other (sym e)
own_at A c d p (Lists n) j other = λ e. other (sym e)
own_at A c d p Starts j other = λ e. other (sym e)
own_at A c d p (Loads bytes) j other = λ e. other (sym e)
own_at A c d p LoadFails j other = λ e. other (sym e)
own_at A c d p (Holds bytes) j other = λ e. other (sym e)
own_at A c d p HoldFails j other = λ e. other (sym e)
own_at A c d p (Stores bytes past) j other = λ e. other (sym e)
own_at A c d p (StoreFails bytes took past) j other = λ e. other (sym e)
own_at A c d p Syncs j other = λ e. other (sym e)
own_at A c d p Cleans j other = λ e. other (sym e)
own_at A c d p SyncFails j other = λ e. other (sym e)
own_at A c d p Frees j other = λ e. other (sym e)
own_at A c d p Ends j other = tt

pub for_moved : (P : Req → Type 0) (m : Option Req) (q : Req) → ForMoved P m → m ≡ Some q → P q
for_moved P None q h is = absurd (some_none (sym is))
for_moved P (Some p) q h is = subst P (inside p q is) h
  where
    inside : (x y : Req) → Some x ≡ Some y → x ≡ y
    inside x y e = cc

pub has_moved : (P : Req → Type 0) (m : Option Req) → HasMoved P m → (q : Req) × ((m ≡ Some q) × P q)
has_moved P None h = absurd h
has_moved P (Some q) h = (q, (refl, h))

-- the facts of another request after a step
pub others_seats : (A : ℕ) (w : World) (c : Client) (p : Pads) {stage : Stage} (act : Act stage) (e : Client) (other : Stage) → MayDo A w c p act →
    ((j : ℕ) → IsAt other j → Elsewhere j act) → Seats A w.tracker e other → Seats A (tracked A w.tracker c act) e other
others_seats A w c p act e (Ready v) may away seats = tt
others_seats A w c p act e Entering may away seats = tt
others_seats A w c p act e (In j step) may away seats =
    same_seated A w.tracker (tracked A w.tracker c act) e j step (others_seat A w c p act j may (away j refl)) seats

pub others_keeps : (A : ℕ) (w : World) (c : Client) (p : Pads) {stage : Stage} (act : Act stage) (e : Client) (d : Pads) (other : Stage) → MayDo A w c p act →
    ((j : ℕ) → IsAt other j → Elsewhere j act) → Keeps A w.tells w.image e d other → Keeps A w.tells (imaged A w.image c act) e d other
others_keeps A w c p act e d (Ready v) may away kept = tt
others_keeps A w c p act e d Entering may away kept = tt
others_keeps A w c p act e d (In j step) may away kept = λ side open_.
    let h : Held A w.tells w.image e d j side = kept side open_ in
    let (held, now) = others_held A w c p act (edge A e side) (record { place = j; side = side }) may (away j refl) h.held in
    record { held = held; same = λ tells. now ∙ h.same tells }

-- no request has the place of another
pub away : (A : ℕ) (w : World) (r s : ℕ) (q p : Req) (act : Act q.stage) → Ok A w → w.req r ≡ Some q → w.req s ≡ Some p → s ≢ r → MayDo A w q.client q.pads act →
    (j : ℕ) → IsAt p.stage j → Elsewhere j act
away A w r s q p act ok here there other may j at =
    elsewhere A w q.client q.pads act j may (seated_taken A w.tracker p.client p.stage j (ok.well s p there).seated at)
    (λ own. other (ok.one s r p q j there here at own))

pub others_well : (A : ℕ) (w : World) (r s : ℕ) (q p : Req) (act : Act q.stage) → Ok A w → w.req r ≡ Some q → w.req s ≡ Some p → s ≢ r → MayDo A w q.client q.pads act →
    Well A w.tells (tracked A w.tracker q.client act) (imaged A w.image q.client act) p
others_well A w r s q p act ok here there other may =
    let old : Well A w.tells w.tracker w.image p = ok.well s p there in
    let far : (j : ℕ) → IsAt p.stage j → Elsewhere j act = away A w r s q p act ok here there other may in
    record {
      shaped = old.shaped;
      seated = others_seats A w q.client q.pads act p.client p.stage may far old.seated;
      kept = others_keeps A w q.client q.pads act p.client p.pads p.stage may far old.kept;
    }

pub own_well : (A : ℕ) (w : World) (r : ℕ) (q p : Req) (act : Act q.stage) → 0 < A → Ok A w → w.req r ≡ Some q → MayDo A w q.client q.pads act →
    moved A q.client q.dropped q.pads act ≡ Some p → Well A w.tells (tracked A w.tracker q.client act) (imaged A w.image q.client act) p
own_well A w r q p act pos ok here may is =
    let old : Well A w.tells w.tracker w.image q = ok.well r q here in
    record {
      shaped = for_moved (λ x. Shaped A x.client x.stage) _ p (own_shaped A w q.client q.dropped q.pads act pos old.shaped may) is;
      seated = for_moved (λ x. Seats A (tracked A w.tracker q.client act) x.client x.stage) _ p (own_seated A w q.client q.dropped q.pads act old.shaped old.seated may) is;
      kept = for_moved (λ x. Keeps A w.tells (imaged A w.image q.client act) x.client x.pads x.stage) _ p (own_kept A w q.client q.dropped q.pads act old.shaped old.kept may) is;
    }

-- the places stay distinct
pub did_one : (A : ℕ) (w : World) (r : ℕ) (q : Req) (act : Act q.stage) → Ok A w → w.req r ≡ Some q → MayDo A w q.client q.pads act →
    (s u : ℕ) (x y : Req) (k : ℕ) → (happens A w (Did r q act)).req s ≡ Some x → (happens A w (Did r q act)).req u ≡ Some y → IsAt x.stage k → IsAt y.stage k → s ≡ u
did_one A w r q act ok here may s u x y k a b at bt =
    elim (put_tells w.req r (moved A q.client q.dropped q.pads act) s (Some x) a) [
      | inl e ↦ elim (put_tells w.req r (moved A q.client q.dropped q.pads act) u (Some y) b) [
        | inl f ↦ e.0 ∙ sym f.0
        | inr f ↦ absurd (clash u x y f.0 f.1 e.1 bt at)
      ]
      | inr e ↦ elim (put_tells w.req r (moved A q.client q.dropped q.pads act) u (Some y) b) [
        | inl f ↦ absurd (clash s y x e.0 e.1 f.1 at bt)
        | inr f ↦ ok.one s u x y k e.1 f.1 at bt
      ]
    ]
  where
    clash : (v : ℕ) (own other : Req) → v ≢ r → w.req v ≡ Some other → moved A q.client q.dropped q.pads act ≡ Some own → IsAt other.stage k → IsAt own.stage k → ⊥
    clash v own other n there is ot wt =
        for_moved (λ z. IsAt z.stage k → ⊥) _ own (own_at A q.client q.dropped q.pads act k (away A w r v q other act ok here there n may k ot)) is wt

-- each hold has its owner
pub did_owned : (A : ℕ) (w : World) (r : ℕ) (q : Req) (act : Act q.stage) → Ok A w → w.req r ≡ Some q →
    (b : ℕ) (h : Hold) → (imaged A w.image q.client act).holder b ≡ Some h → Owner A (happens A w (Did r q act)).req h b
did_owned A w r q act ok here b h is = elim (holder_before A w q.client act b h is) [
  | inl e ↦ old (ok.owned b h e)
  | inr e ↦ own (has_moved _ _ (new_holder A w q.client q.dropped q.pads act b h (ok.well r q here).shaped e))
]
  where
    own : (x : Req) × ((moved A q.client q.dropped q.pads act ≡ Some x) × IsHolder A x.client x.stage h b) → Owner A (happens A w (Did r q act)).req h b
    own m = record { number = r; request = m.0; is = put_here w.req r _ ∙ m.1.0; holds = m.1.1 }

    old : Owner A w.req h b → Owner A (happens A w (Did r q act)).req h b
    old o = elim (same_or o.number r) [
      | inl e ↦
          let there : w.req r ≡ Some o.request = subst (λ (n : ℕ). w.req n ≡ Some o.request) e o.is in
          let same : o.request ≡ q = cc in
          own (has_moved _ _ (own_holder A w q.client q.dropped q.pads act h.place h.side b (ok.well r q here).shaped
          (subst (λ (x : Req). IsHolder A x.client x.stage h b) same o.holds) is))
      | inr n ↦ record { number = o.number; request = o.request; is = put_other w.req r _ o.number n ∙ o.is; holds = o.holds }
    ]

-- each taken place has its request
pub did_manned : (A : ℕ) (w : World) (r : ℕ) (q : Req) (act : Act q.stage) → Ok A w → w.req r ≡ Some q → MayDo A w q.client q.pads act →
    (j : ℕ) → seat_at (tracked A w.tracker q.client act).seats j ≢ Vacant → Manned (happens A w (Did r q act)).req j
did_manned A w r q act ok here may j taken = elim (taken_before A w q.client q.pads act j may taken) [
  | inl e ↦ old (ok.manned j e)
  | inr e ↦ own (has_moved _ _ (own_takes A q.client q.dropped q.pads act j e))
]
  where
    own : (x : Req) × ((moved A q.client q.dropped q.pads act ≡ Some x) × IsAt x.stage j) → Manned (happens A w (Did r q act)).req j
    own m = record { number = r; request = m.0; is = put_here w.req r _ ∙ m.1.0; at = m.1.1 }

    old : Manned w.req j → Manned (happens A w (Did r q act)).req j
    old o = elim (same_or o.number r) [
      | inl e ↦
          let there : w.req r ≡ Some o.request = subst (λ (n : ℕ). w.req n ≡ Some o.request) e o.is in
          let same : o.request ≡ q = cc in
          own (has_moved _ _ (own_stays A w q.client q.dropped q.pads act j may (subst (λ (x : Req). IsAt x.stage j) same o.at) taken))
      | inr n ↦ record { number = o.number; request = o.request; is = put_other w.req r _ o.number n ∙ o.is; at = o.at }
    ]

pub did_ok : (A : ℕ) (w : World) (r : ℕ) (q : Req) (act : Act q.stage) → 0 < A → Ok A w → CanCome A w (Did r q act) → Ok A (happens A w (Did r q act))
did_ok A w r q act pos ok may = record {
  below = λ s x is. elim (put_tells w.req r _ s (Some x) is) [
    | inl e ↦ subst (λ (n : ℕ). n < w.next) (sym e.0) (ok.below r q may.0)
    | inr e ↦ ok.below s x e.1
  ];
  well = λ s x is. elim (put_tells w.req r _ s (Some x) is) [
    | inl e ↦ own_well A w r q x act pos ok may.0 may.1 e.1
    | inr e ↦ others_well A w r s q x act ok may.0 e.1 e.0 may.1
  ];
  one = did_one A w r q act ok may.0 may.1;
  owned = did_owned A w r q act ok may.0;
  manned = did_manned A w r q act ok may.0 may.1;
  tracker = stays_sound A w q.client q.pads act may.1 ok.tracker;
  sessions = ok.sessions;
  counts = ok.counts;
}

-- a request that was made
pub kind_of : (a : Ask) → form_error a ≡ false → is_known a.kind ≡ true
kind_of a none = go (is_known a.kind) (not a.flags_fit) (is_read a.kind && nat_lt max_payload a.length) none
  where
    go : (k x y : Bool) → not k || x || y ≡ false → k ≡ true
    go true x y e = refl
    go false x y e = absurd (true≢false e)

pub asked_well : (A : ℕ) (w : World) (c : Client) → Well A w.tells w.tracker w.image (new_request c)
asked_well A w c =
    let P : Stage → Type 0 = λ g. Well A w.tells w.tracker w.image (record { client = c; dropped = false; pads = record { head = []; tail = [] }; stage = g }) in
    choose P (form_error c.ask) _ _ (λ e. record { shaped = tt; seated = tt; kept = tt })
    (λ e. choose P c.buffered _ _ (λ f. record { shaped = kind_of c.ask e; seated = tt; kept = tt }) (λ f. record { shaped = tt; seated = tt; kept = tt }))

pub asked_nowhere : (c : Client) (k : ℕ) → IsAt (new_request c).stage k → ⊥
asked_nowhere c k =
    let P : Stage → Type 0 = λ g. IsAt g k → ⊥ in
    choose P (form_error c.ask) _ _ (λ e at. at) (λ e. choose P c.buffered _ _ (λ f at. at) (λ f at. at))

pub asked_ok : (A : ℕ) (w : World) (r : ℕ) (c : Client) → Ok A w → CanAsk w r c → Ok A (happens A w (Asked r c))
asked_ok A w r c ok can = record {
  below = λ s x is. elim (put_tells w.req r _ s (Some x) is) [
    | inl e ↦ let f : r ≡ w.next = can.next in let g : s ≡ r = e.0 in omega arith
    | inr e ↦ let lt : s < w.next = ok.below s x e.1 in omega arith
  ];
  well = λ s x is. elim (put_tells w.req r _ s (Some x) is) [
    | inl e ↦ subst (λ (q : Req). Well A w.tells w.tracker w.image q) (inside (new_request c) x e.1) (asked_well A w c)
    | inr e ↦ ok.well s x e.1
  ];
  one = λ s u x y k a b at bt. elim (put_tells w.req r _ s (Some x) a) [
    | inl e ↦ absurd (asked_nowhere c k (subst (λ (q : Req). IsAt q.stage k) (sym (inside (new_request c) x e.1)) at))
    | inr e ↦ elim (put_tells w.req r _ u (Some y) b) [
      | inl f ↦ absurd (asked_nowhere c k (subst (λ (q : Req). IsAt q.stage k) (sym (inside (new_request c) y f.1)) bt))
      | inr f ↦ ok.one s u x y k e.1 f.1 at bt
    ]
  ];
  owned = λ b h is. let o : Owner A w.req h b = ok.owned b h is in
      let other : o.number ≢ r = λ e. let lt : o.number < w.next = ok.below o.number o.request o.is in let f : r ≡ w.next = can.next in omega arith in
      record { number = o.number; request = o.request; is = put_other w.req r _ o.number other ∙ o.is; holds = o.holds };
  manned = λ k taken. let o : Manned w.req k = ok.manned k taken in
      let other : o.number ≢ r = λ e. let lt : o.number < w.next = ok.below o.number o.request o.is in let f : r ≡ w.next = can.next in omega arith in
      record { number = o.number; request = o.request; is = put_other w.req r _ o.number other ∙ o.is; at = o.at };
  tracker = ok.tracker;
  sessions = ok.sessions;
  counts = ok.counts;
}
  where
    inside : (x y : Req) → Some x ≡ Some y → x ≡ y
    inside x y e = cc

-- a request whose session leaves
pub abandoned_well : (A : ℕ) (tells : Bool) (t : TrackerValue) (i : Image) (q : Req) → Well A tells t i q → Well A tells t i (abandon q)
abandoned_well A tells t i q well = record { shaped = shape q.stage well.shaped; seated = seat q.stage well.seated; kept = keeps q.stage well.kept }
  where
    shape : (g : Stage) → Shaped A q.client g → Shaped A q.client (abandoned q.client g)
    shape (Ready v) h = tt
    shape Entering h = tt
    shape (In k ToRoute) h = tt
    shape (In k ToList) h = tt
    shape (In k ToStart) h = h
    shape (In k (ToLoad b got)) h = h
    shape (In k (ToHold side)) h = h
    shape (In k (ToStore b)) h = h
    shape (In k (ToSync s)) h = choose (λ g. Fit A q.client g) (is_flush q.client.ask.kind) _ _ (λ e. tt) (λ e. h)
    shape (In k (ToFree side)) h = h
    shape (In k (ToEnd v)) h = h

    seat : (g : Stage) → Seats A t q.client g → Seats A t q.client (abandoned q.client g)
    seat (Ready v) h = tt
    seat Entering h = tt
    seat (In k ToRoute) h = present_taken t k h
    seat (In k ToList) h = present_taken t k h
    seat (In k ToStart) h = h
    seat (In k (ToLoad b got)) h = h
    seat (In k (ToHold side)) h = h
    seat (In k (ToStore b)) h = h
    seat (In k (ToSync s)) h = choose (λ g. Seated A t q.client k g) (is_flush q.client.ask.kind) _ _ (λ e. sync_taken A t q.client k h) (λ e. h)
    seat (In k (ToFree side)) h = h
    seat (In k (ToEnd v)) h = h

    keeps : (g : Stage) → Keeps A tells i q.client q.pads g → Keeps A tells i q.client q.pads (abandoned q.client g)
    keeps (Ready v) h = tt
    keeps Entering h = tt
    keeps (In k ToRoute) h = λ side open_. absurd open_
    keeps (In k ToList) h = λ side open_. absurd open_
    keeps (In k ToStart) h = h
    keeps (In k (ToLoad b got)) h = h
    keeps (In k (ToHold side)) h = h
    keeps (In k (ToStore b)) h = h
    keeps (In k (ToSync s)) h = choose (λ g. Keeps A tells i q.client q.pads (In k g)) (is_flush q.client.ask.kind) _ _ (λ e side open_. absurd open_) (λ e. h)
    keeps (In k (ToFree side)) h = h
    keeps (In k (ToEnd v)) h = h

pub abandoned_at : (c : Client) (g : Stage) (k : ℕ) → IsAt (abandoned c g) k → IsAt g k
abandoned_at c (Ready v) k at = at
abandoned_at c Entering k at = at
abandoned_at c (In j step) k at = at

pub at_abandoned : (c : Client) (g : Stage) (k : ℕ) → IsAt g k → IsAt (abandoned c g) k
at_abandoned c (Ready v) k at = at
at_abandoned c Entering k at = at
at_abandoned c (In j step) k at = at

pub abandoned_holder : (A : ℕ) (c : Client) (g : Stage) (h : Hold) (b : ℕ) → IsHolder A c g h b → IsHolder A c (abandoned c g) h b
abandoned_holder A c (Ready v) h b is = is
abandoned_holder A c Entering h b is = is
abandoned_holder A c (In k ToRoute) h b is = absurd is.1
abandoned_holder A c (In k ToList) h b is = absurd is.1
abandoned_holder A c (In k ToStart) h b is = is
abandoned_holder A c (In k (ToLoad d got)) h b is = is
abandoned_holder A c (In k (ToHold side)) h b is = is
abandoned_holder A c (In k (ToStore d)) h b is = is
abandoned_holder A c (In k (ToSync s)) h b is = absurd is.1
abandoned_holder A c (In k (ToFree side)) h b is = is
abandoned_holder A c (In k (ToEnd v)) h b is = is

-- what was there before a session left
pub leaves_tells : (s : ℕ) (o : Option Req) (x : Req) → leaves s o ≡ Some x → (q : Req) × ((o ≡ Some q) × ((x ≡ q) ⊎ (x ≡ abandon q)))
leaves_tells s None x is = absurd (some_none (sym is))
leaves_tells s (Some q) x is = (q, (refl, go (q.client.session == s) (inside (cond (q.client.session == s) (abandon q) q) x is)))
  where
    inside : (a b : Req) → Some a ≡ Some b → a ≡ b
    inside a b e = cc

    go : (b : Bool) → cond b (abandon q) q ≡ x → (x ≡ q) ⊎ (x ≡ abandon q)
    go true e = inr (sym e)
    go false e = inl (sym e)

pub leaves_some : (s : ℕ) (o : Option Req) (q : Req) → o ≡ Some q → (x : Req) × ((leaves s o ≡ Some x) × ((x ≡ q) ⊎ (x ≡ abandon q)))
leaves_some s o q is = (cond (q.client.session == s) (abandon q) q, (ap (leaves s) is, go (q.client.session == s)))
  where
    go : (b : Bool) → (cond b (abandon q) q ≡ q) ⊎ (cond b (abandon q) q ≡ abandon q)
    go true = inr refl
    go false = inl refl

pub left_ok : (A : ℕ) (w : World) (s e : ℕ) → Ok A w → w.session s ≡ Live e → Ok A (happens A w (Left s e))
left_ok A w s e ok live = record {
  below = λ r x is. let (q, (there, _)) = leaves_tells s (w.req r) x is in ok.below r q there;
  well = λ r x is. let (q, (there, which)) = leaves_tells s (w.req r) x is in
      elim which [
        | inl f ↦ subst (λ (y : Req). Well A w.tells w.tracker w.image y) (sym f) (ok.well r q there)
        | inr f ↦ subst (λ (y : Req). Well A w.tells w.tracker w.image y) (sym f) (abandoned_well A w.tells w.tracker w.image q (ok.well r q there))
      ];
  one = λ r u x y k a b at bt.
      let (q, (here, f)) = leaves_tells s (w.req r) x a in
      let (p, (there, g)) = leaves_tells s (w.req u) y b in
      ok.one r u q p k here there (at_before q x k f at) (at_before p y k g bt);
  owned = λ b h is. let o : Owner A w.req h b = ok.owned b h is in
      let (x, (there, f)) = leaves_some s (w.req o.number) o.request o.is in
      record { number = o.number; request = x; is = there; holds = holds_after o.request x h b f o.holds };
  manned = λ k taken. let o : Manned w.req k = ok.manned k taken in
      let (x, (there, f)) = leaves_some s (w.req o.number) o.request o.is in
      record { number = o.number; request = x; is = there; at = at_after o.request x k f o.at };
  tracker = ok.tracker;
  sessions = λ t d. put_cases (λ g. IsClient g d → Among t (w.clients d)) w.session s (Leaving e) t
      (λ same is. ok.sessions t d (subst (λ (g : Session). IsClient g d) (sym (ap w.session same ∙ live)) is))
      (λ other is. ok.sessions t d is);
  counts = ok.counts;
}
  where
    at_before : (q x : Req) (k : ℕ) → (x ≡ q) ⊎ (x ≡ abandon q) → IsAt x.stage k → IsAt q.stage k
    at_before q x k (inl f) at = subst (λ (y : Req). IsAt y.stage k) f at
    at_before q x k (inr f) at = abandoned_at q.client q.stage k (subst (λ (y : Req). IsAt y.stage k) f at)

    holds_after : (q x : Req) (h : Hold) (b : ℕ) → (x ≡ q) ⊎ (x ≡ abandon q) → IsHolder A q.client q.stage h b → IsHolder A x.client x.stage h b
    holds_after q x h b (inl f) holds = subst (λ (y : Req). IsHolder A y.client y.stage h b) (sym f) holds
    holds_after q x h b (inr f) holds = subst (λ (y : Req). IsHolder A y.client y.stage h b) (sym f) (abandoned_holder A q.client q.stage h b holds)

    at_after : (q x : Req) (k : ℕ) → (x ≡ q) ⊎ (x ≡ abandon q) → IsAt q.stage k → IsAt x.stage k
    at_after q x k (inl f) at = subst (λ (y : Req). IsAt y.stage k) (sym f) at
    at_after q x k (inr f) at = subst (λ (y : Req). IsAt y.stage k) (sym f) (at_abandoned q.client q.stage k at)

-- the clients of an export
pub among_without : (s t : ℕ) (xs : List ℕ) → t ≢ s → Among t xs → Among t (without s xs)
among_without s t [] other among = among
among_without s t (x ∷ xs) other among = go (x == s) refl among (among_without s t xs other)
  where
    go : (b : Bool) → (x == s) ≡ b → (x ≡ t) ⊎ Among t xs → (Among t xs → Among t (without s xs)) → Among t (cond b xs (x ∷ without s xs))
    go true is (inl e) rest = absurd (other (sym e ∙ same_eqb is))
      where
        same_eqb : (x == s) ≡ true → x ≡ s
        same_eqb e = grind (arith, e)
    go true is (inr a) rest = a
    go false is (inl e) rest = inl e
    go false is (inr a) rest = inr (rest a)

pub attached_ok : (A : ℕ) (w : World) (s : ℕ) (name : List ℕ) (info : ExportInfo) → Ok A w → found_at w.graph.places name ≡ Some info.e →
    Ok A (happens A w (Attached s name info))
attached_ok A w s name info ok is_found = record {
  below = ok.below;
  well = ok.well;
  one = ok.one;
  owned = ok.owned;
  manned = ok.manned;
  tracker = ok.tracker;
  sessions = λ t d. put_cases (λ g. IsClient g d → Among t (put w.clients info.e (s ∷ w.clients info.e) d)) w.session s (Live info.e) t
      (λ same is. put_cases (λ xs. Among t xs) w.clients info.e (s ∷ w.clients info.e) d (λ f. inl (sym same)) (λ f. absurd (f (sym is))))
      (λ other is. put_cases (λ xs. Among t xs) w.clients info.e (s ∷ w.clients info.e) d
      (λ f. inr (ok.sessions t info.e (subst (λ (n : ℕ). IsClient (w.session t) n) f is))) (λ f. ok.sessions t d is));
  counts = λ d. put_cases (λ xs. length xs ≡ clients_of (export_at (graph_after w.graph (Attach name) (AttachedReply info)).places d)) w.clients info.e (s ∷ w.clients info.e) d
      (λ e. omega (arith, ok.counts info.e, subst (λ (n : ℕ). clients_of (export_at (graph_after w.graph (Attach name) (AttachedReply info)).places n) ≡ clients_of (export_at w.graph.places info.e) + 1) (sym e) (attach_here w.graph name info is_found)))
      (λ other. ok.counts d ∙ sym (attach_other w.graph name info d other));
}

-- a list with one of its members taken out once
pub length_without : (s : ℕ) (xs : List ℕ) → Among s xs → length (without s xs) + 1 ≡ length xs
length_without s [] among = absurd among
length_without s (x ∷ xs) among = go (x == s) refl among (length_without s xs)
  where
    go : (b : Bool) → (x == s) ≡ b → (x ≡ s) ⊎ Among s xs → (Among s xs → length (without s xs) + 1 ≡ length xs) →
        length (cond b xs (x ∷ without s xs)) + 1 ≡ length (x ∷ xs)
    go true is a rest = omega arith
    go false is (inl e) rest = absurd (grind (arith, e, is))
    go false is (inr a) rest = omega (arith, rest a)

pub detached_ok : (A : ℕ) (w : World) (s e : ℕ) → Ok A w → w.session s ≡ Leaving e → 0 < clients_of (export_at w.graph.places e) →
    Ok A (happens A w (Detached s e))
detached_ok A w s e ok left some = record {
  below = ok.below;
  well = ok.well;
  one = ok.one;
  owned = ok.owned;
  manned = ok.manned;
  tracker = ok.tracker;
  sessions = λ t d. put_cases (λ g. IsClient g d → Among t (put w.clients e (without s (w.clients e)) d)) w.session s Away t
      (λ same is. absurd is)
      (λ other is. put_cases (λ xs. Among t xs) w.clients e (without s (w.clients e)) d
      (λ f. among_without s t (w.clients e) other (ok.sessions t e (subst (λ (n : ℕ). IsClient (w.session t) n) f is))) (λ f. ok.sessions t d is));
  counts = λ d. put_cases (λ xs. length xs ≡ clients_of (export_at (graph_after w.graph (Detach e) DetachedReply).places d)) w.clients e (without s (w.clients e)) d
      (λ f. omega (
        arith,
        ok.counts e,
        length_without s (w.clients e) among,
        subst (λ (n : ℕ). clients_of (export_at (graph_after w.graph (Detach e) DetachedReply).places n) ≡ clients_of (export_at w.graph.places e) - 1) (sym f) (detach_here w.graph e some),
      ))
      (λ other. ok.counts d ∙ sym (detach_other w.graph e d other));
}
  where
    among : Among s (w.clients e)
    among = ok.sessions s e (subst (λ (g : Session). IsClient g e) (sym left) refl)

pub new_ok : (A n : ℕ) (o : Opening) → Ok A (new_world n o)
new_ok A n o = record {
  below = λ r q is. absurd (some_none (sym is));
  well = λ r q is. absurd (some_none (sym is));
  one = λ r s q p k a b at bt. absurd (some_none (sym a));
  owned = λ b h is. absurd (some_none (sym is));
  manned = λ k taken. absurd (taken (nobody 256 k));
  tracker = fresh_sound 0;
  sessions = λ s e is. absurd is;
  counts = λ e. sym (ap clients_of (no_export 64 e));
}

-- the facts say nothing of plans, and of the graph only how many clients each export has
pub aside_ok : (A : ℕ) (w : World) (graph : GraphValue) (plans : ℕ → Plans) → Ok A w →
    ((e : ℕ) → clients_of (export_at graph.places e) ≡ clients_of (export_at w.graph.places e)) → Ok A (record w { graph = graph; plans = plans })
aside_ok A w graph plans ok same = record {
  below = ok.below;
  well = ok.well;
  one = ok.one;
  owned = ok.owned;
  manned = ok.manned;
  tracker = ok.tracker;
  sessions = ok.sessions;
  counts = λ e. ok.counts e ∙ sym (same e);
}

-- every step keeps the facts
pub step_ok : (A : ℕ) (w : World) (e : Element) → 0 < A → Ok A w → CanCome A w e → Ok A (happens A w e)
step_ok A w (Attached s name info) pos ok may = attached_ok A w s name info ok may.1.0
step_ok A w (NoExport s name) pos ok may = ok
step_ok A w (Crowded s name) pos ok may = ok
step_ok A w (Left s e) pos ok may = left_ok A w s e ok may
step_ok A w (Detached s e) pos ok may = detached_ok A w s e ok may.0.0 may.1
step_ok A w (NotAttached s e) pos ok may = ok
step_ok A w (Asked r c) pos ok may = asked_ok A w r c ok may
step_ok A w (Did r q act) pos ok may = did_ok A w r q act pos ok may
step_ok A w (Exported op e) pos ok may = aside_ok A w (graph_after w.graph op (Added e)) w.plans ok (λ d. added_counts w.graph op e d may)
step_ok A w (Planned j fail) pos ok may = aside_ok A w w.graph (put w.plans j (planned_too fail (w.plans j))) ok (λ e. refl)
step_ok A w (Crashed left) pos ok may = new_ok A w.next (crashed w left)

-- and so does every run
pub run_ok : (A : ℕ) (w : World) (es : List Element) → 0 < A → Ok A w → Runs A w es → Ok A (world_after A w es)
run_ok A w [] pos ok run = ok
run_ok A w (e ∷ es) pos ok run = run_ok A (happens A w e) es pos (step_ok A w e pos ok run.0) run.1

-- a run of two lists is one run and then the other
pub runs_front : (A : ℕ) (w : World) (xs ys : List Element) → Runs A w (xs ++ ys) → Runs A w xs
runs_front A w [] ys run = tt
runs_front A w (e ∷ xs) ys run = (run.0, runs_front A (happens A w e) xs ys run.1)

pub runs_back : (A : ℕ) (w : World) (xs ys : List Element) → Runs A w (xs ++ ys) → Runs A (world_after A w xs) ys
runs_back A w [] ys run = run
runs_back A w (e ∷ xs) ys run = runs_back A (happens A w e) xs ys run.1

pub after_append : (A : ℕ) (w : World) (xs ys : List Element) → world_after A w (xs ++ ys) ≡ world_after A (world_after A w xs) ys
after_append A w [] ys = refl
after_append A w (e ∷ xs) ys = after_append A (happens A w e) xs ys

-- the steps before one of a run, and that it may happen there
pub split_run : (A : ℕ) (w : World) (es before : List Element) (e : Element) → Runs A w es → ComesBehind before e es →
    Runs A w before × CanCome A (world_after A w before) e
split_run A w es before e run at =
    let whole : Runs A w (before ++ e ∷ at.0) = subst (λ (l : List Element). Runs A w l) at.1 run in
    (runs_front A w before (e ∷ at.0) whole, (runs_back A w before (e ∷ at.0) whole).0)

-- the steps at the beginning of a run
pub front_run : (A : ℕ) (w : World) (es before : List Element) → Runs A w es → Begins before es → Runs A w before
front_run A w es before run at = runs_front A w before at.0 (subst (λ (l : List Element). Runs A w l) at.1 run)

-- What holds at every position of a run.
use Rattle.std.proofs.Common.{◌≡◌, ◌≢◌, ℕ, ◌<◌, inl, inr, Bool, true, false, ◌&&◌, ◌==◌, List, [], None, refl, sym, ap, ◌∙◌, subst, arith, true≢false}
use Rattle.qs_bytes.specs.declared.ask.Kind.TheVariants.{Flush}
use Rattle.qs_part.specs.declared.stripe.Side.{Side}
use Rattle.qs_part.specs.declared.stripe.Side.TheVariants.{Head, Tail}
use Rattle.qs_tracker.specs.declared.seat.Seat.TheVariants.{Present}
use Rattle.qs_tracker.specs.Seats.{seat_at}
use Rattle.qs_tracker.specs.Table.{TrackerValue}
use Rattle.qs_model.specs.Requests.{Client, Req, Step, Stage, ToRoute, ToList, ToStart, ToLoad, ToHold, ToStore, ToSync, ToFree, ToEnd, Ready, Entering, In, edge, has, is_flush, serial}
use Rattle.qs_model.specs.Worlds.{Hold, World}
use Rattle.qs_model.specs.Acts.{Element}
use Rattle.qs_model.specs.Laws.{InFlight}
use Rattle.qs_model.specs.Steps.{Runs, world_after}
use Rattle.qs_model.proofs.Basics.{either}
use Rattle.qs_model.proofs.Between.{placed}
use Rattle.qs_model.proofs.Facts.{Goes, Held, IsHolder, IsOpen, Keeps, Ok, Owner, Seated, Seats, Shaped, Sits, SyncSeat, Well}
use Rattle.qs_model.proofs.Geometry.{has_serial, same_eqb}
use Rattle.qs_model.proofs.Holders.{some_none}
use Rattle.qs_model.proofs.Kept.{front_run, run_ok}
use Rattle.qs_verdicts.specs.Kept.{AlwaysKept, HasHold, IsAtBlocks, IsHolding, Kept, is_spanless}
use Rattle.qs_verdicts.specs.Traces.{Trace, kept, traced}
use Rattle.qs_verdicts.proofs.Clients.{AreClients, run_clients}
use Rattle.qs_verdicts.proofs.TableKinds.{flush_is}
use Rattle.qs_verdicts.proofs.Traces.{AllTraced, run_traced}
use Rattle.qs_verdicts.proofs.Tracing.{ListedAt, Opens, TraceAt, open_at, sound_spanned}

-- a side's hold is open where the step says so
and_both : (a b : Bool) → (a && b) ≡ true → (a ≡ true) × (b ≡ true)
and_both true b h = (refl, h)
and_both false b h = absurd (true≢false (sym h))

both_and : (a b : Bool) → a ≡ true → b ≡ true → (a && b) ≡ true
both_and true b h e = e
both_and false b h e = absurd (true≢false (sym h))

opened : (A : ℕ) (c : Client) (step : Step) (side : Side) → open_at A c step side ≡ true → IsOpen A c step side
opened A c ToRoute side h = absurd (true≢false (sym h))
opened A c ToList side h = absurd (true≢false (sym h))
opened A c ToStart side h = absurd (true≢false (sym h))
opened A c (ToLoad b got) side h = absurd (true≢false (sym h))
opened A c (ToHold Head) side h = absurd (true≢false (sym h))
opened A c (ToHold Tail) Head h = h
opened A c (ToHold Tail) Tail h = absurd (true≢false (sym h))
opened A c (ToStore b) Head h = let (a, e) = and_both (has A c Head) (b == edge A c Head) h in (a, same_eqb b (edge A c Head) e)
opened A c (ToStore b) Tail h = h
opened A c (ToSync s) side h = absurd (true≢false (sym h))
opened A c (ToFree Head) Head h = tt
opened A c (ToFree Head) Tail h = absurd (true≢false (sym h))
opened A c (ToFree Tail) Head h = absurd (true≢false (sym h))
opened A c (ToFree Tail) Tail h = tt
opened A c (ToEnd v) side h = absurd (true≢false (sym h))

is_opened : (A : ℕ) (c : Client) (step : Step) (side : Side) → IsOpen A c step side → open_at A c step side ≡ true
is_opened A c (ToHold Tail) Head h = h
is_opened A c (ToStore b) Head h = both_and (has A c Head) (b == edge A c Head) h.0 (eq_here b (edge A c Head) h.1)
  where
    eq_here : (m n : ℕ) → m ≡ n → (m == n) ≡ true
    eq_here m n e = grind (arith, e)
is_opened A c (ToStore b) Tail h = h
is_opened A c (ToFree Head) Head h = refl
is_opened A c (ToFree Tail) Tail h = refl
is_opened A c ToRoute side h = absurd h
is_opened A c ToList side h = absurd h
is_opened A c ToStart side h = absurd h
is_opened A c (ToLoad b got) side h = absurd h
is_opened A c (ToHold Head) side h = absurd h
is_opened A c (ToSync s) side h = absurd h
is_opened A c (ToHold Tail) Tail h = absurd h
is_opened A c (ToFree Head) Tail h = absurd h
is_opened A c (ToFree Tail) Head h = absurd h
is_opened A c (ToEnd v) side h = absurd h

-- what is kept of a side is what is open
kept_is : (A : ℕ) (c : Client) (step : Step) (t : Trace) (side : Side) → Opens A c step t → kept t side ≡ open_at A c step side
kept_is A c step t Head opens = opens.0
kept_is A c step t Tail opens = opens.1

-- a step with an open hold
holding : (A : ℕ) (c : Client) (step : Step) (side : Side) → IsOpen A c step side → IsHolding step
holding A c (ToHold Tail) Head h = tt
holding A c (ToStore b) Head h = tt
holding A c (ToStore b) Tail h = tt
holding A c (ToFree Head) Head h = tt
holding A c (ToFree Tail) Tail h = tt
holding A c ToRoute side h = absurd h
holding A c ToList side h = absurd h
holding A c ToStart side h = absurd h
holding A c (ToLoad b got) side h = absurd h
holding A c (ToHold Head) side h = absurd h
holding A c (ToSync s) side h = absurd h
holding A c (ToHold Tail) Tail h = absurd h
holding A c (ToFree Head) Tail h = absurd h
holding A c (ToFree Tail) Head h = absurd h
holding A c (ToEnd v) side h = absurd h

-- a request with an open hold is serialising
open_serial : (A k : ℕ) (c : Client) (step : Step) (side : Side) → 0 < A → Shaped A c (In k step) → IsOpen A c step side → serial A c ≡ true
open_serial A k c (ToHold Tail) Head pos fit h = has_serial A c Head pos fit.sound.some fit.writing h
open_serial A k c (ToStore b) Head pos fit h = has_serial A c Head pos fit.sound.some fit.writing h.0
open_serial A k c (ToStore b) Tail pos fit h = has_serial A c Tail pos fit.sound.some fit.writing h
open_serial A k c (ToFree Head) Head pos fit h = has_serial A c Head pos fit.sound.some fit.writing fit.wanted
open_serial A k c (ToFree Tail) Tail pos fit h = has_serial A c Tail pos fit.sound.some fit.writing fit.wanted
open_serial A k c ToRoute side pos fit h = absurd h
open_serial A k c ToList side pos fit h = absurd h
open_serial A k c ToStart side pos fit h = absurd h
open_serial A k c (ToLoad b got) side pos fit h = absurd h
open_serial A k c (ToHold Head) side pos fit h = absurd h
open_serial A k c (ToSync s) side pos fit h = absurd h
open_serial A k c (ToHold Tail) Tail pos fit h = absurd h
open_serial A k c (ToFree Head) Tail pos fit h = absurd h
open_serial A k c (ToFree Tail) Head pos fit h = absurd h
open_serial A k c (ToEnd v) side pos fit h = absurd h

-- the place of a request by what was traced
sits_by : (A : ℕ) (v : TrackerValue) (c : Client) (k : ℕ) (step : Step) (t : Trace) → Seated A v c k step → ListedAt A v c k step t → t.listed ≡ true → Sits A v c k
sits_by A v c k ToRoute t seat at h = absurd (true≢false (sym h ∙ at))
sits_by A v c k ToList t seat at h = absurd (true≢false (sym h ∙ at))
sits_by A v c k ToStart t seat at h = seat
sits_by A v c k (ToLoad b got) t seat at h = seat.sits
sits_by A v c k (ToHold side) t seat at h = seat.sits
sits_by A v c k (ToStore b) t seat at h = seat.sits
sits_by A v c k (ToSync s) t seat at h = elim (either (is_flush c.ask.kind)) [
  | inl flush ↦ absurd (true≢false (sym h ∙ at.0 flush))
  | inr other ↦ (seat.goes other).sits
]
sits_by A v c k (ToFree side) t seat at h = seat.sits
sits_by A v c k (ToEnd answer) t seat at h = at.sits h

present_by : (A : ℕ) (v : TrackerValue) (c : Client) (k : ℕ) (step : Step) (t : Trace) → Seated A v c k step → ListedAt A v c k step t → t.listed ≡ false → seat_at v.seats k ≡ Present
present_by A v c k ToRoute t seat at h = seat
present_by A v c k ToList t seat at h = seat
present_by A v c k ToStart t seat at h = absurd (true≢false (sym at ∙ h))
present_by A v c k (ToLoad b got) t seat at h = absurd (true≢false (sym at ∙ h))
present_by A v c k (ToHold side) t seat at h = absurd (true≢false (sym at ∙ h))
present_by A v c k (ToStore b) t seat at h = absurd (true≢false (sym at ∙ h))
present_by A v c k (ToSync s) t seat at h = elim (either (is_flush c.ask.kind)) [
  | inl flush ↦ seat.spanless flush
  | inr other ↦ absurd (true≢false (sym (at.1 other) ∙ h))
]
present_by A v c k (ToFree side) t seat at h = absurd (true≢false (sym at ∙ h))
present_by A v c k (ToEnd answer) t seat at h = at.present h

-- a FLUSH or a TRIM has no span
unlisted_by : (A : ℕ) (v : TrackerValue) (c : Client) (k : ℕ) (step : Step) (t : Trace) → Shaped A c (In k step) → Seated A v c k step → ListedAt A v c k step t →
    is_spanless c.ask.kind ≡ true → seat_at v.seats k ≡ Present
unlisted_by A v c k ToRoute t fit seat at h = seat
unlisted_by A v c k ToList t fit seat at h = seat
unlisted_by A v c k ToStart t fit seat at h = absurd (true≢false (sym h ∙ sound_spanned c fit))
unlisted_by A v c k (ToLoad b got) t fit seat at h = absurd (true≢false (sym h ∙ sound_spanned c fit.sound))
unlisted_by A v c k (ToHold side) t fit seat at h = absurd (true≢false (sym h ∙ sound_spanned c fit.sound))
unlisted_by A v c k (ToStore b) t fit seat at h = absurd (true≢false (sym h ∙ sound_spanned c fit.sound))
unlisted_by A v c k (ToSync s) t fit seat at h = elim (either (is_flush c.ask.kind)) [
  | inl flush ↦ seat.spanless flush
  | inr other ↦ absurd (true≢false (sym h ∙ sound_spanned c (fit.sound other)))
]
unlisted_by A v c k (ToFree side) t fit seat at h = absurd (true≢false (sym h ∙ sound_spanned c fit.sound))
unlisted_by A v c k (ToEnd answer) t fit seat at h = elim (either t.listed) [
  | inl listed ↦ absurd (true≢false (sym h ∙ at.spanned listed))
  | inr none ↦ at.present none
]

-- what syncs and is no FLUSH goes
sync_goes : (A : ℕ) (v : TrackerValue) (c : Client) (k s : ℕ) → SyncSeat A v c k → c.ask.kind ≢ Flush → Goes A v c k
sync_goes A v c k s seat other = elim (either (is_flush c.ask.kind)) [
  | inl flush ↦ absurd (other (flush_is c.ask.kind flush))
  | inr none ↦ seat.goes none
]

goes_by : (A : ℕ) (v : TrackerValue) (c : Client) (k : ℕ) (step : Step) → Seated A v c k step → IsAtBlocks step → Goes A v c k
goes_by A v c k (ToLoad b got) seat at = seat
goes_by A v c k (ToHold side) seat at = seat
goes_by A v c k (ToStore b) seat at = seat
goes_by A v c k (ToFree side) seat at = seat
goes_by A v c k ToRoute seat at = absurd at
goes_by A v c k ToList seat at = absurd at
goes_by A v c k ToStart seat at = absurd at
goes_by A v c k (ToSync s) seat at = absurd at
goes_by A v c k (ToEnd answer) seat at = absurd at

-- what is traced of a request in flight
record Flies (A : ℕ) (w : World) (r k : ℕ) (q : Req) (step : Step) (t : Trace) : Type 0 where
  shaped : Shaped A q.client (In k step)
  seated : Seated A w.tracker q.client k step
  held : (side : Side) → IsOpen A q.client step side → Held A w.tells w.image q.client q.pads k side
  listed : ListedAt A w.tracker q.client k step t
  opens : Opens A q.client step t

flies : (A : ℕ) (w : World) (before : List Element) (r k : ℕ) (f : InFlight w r k) → Ok A w → AllTraced A w before → Flies A w r k f.request f.step (traced A r before)
flies A w before r k f ok all = go f.request.stage f.stage (ok.well r f.request f.is) (all r f.request f.is)
  where
    go : (g : Stage) → g ≡ In k f.step → Well A w.tells w.tracker w.image f.request → TraceAt A w.tracker f.request.client f.request.stage (traced A r before) → Flies A w r k f.request f.step (traced A r before)
    go g is well at =
        let there : TraceAt A w.tracker f.request.client (In k f.step) (traced A r before) = subst (λ (x : Stage). TraceAt A w.tracker f.request.client x (traced A r before)) f.stage at in
        record {
          shaped = subst (λ (x : Stage). Shaped A f.request.client x) f.stage well.shaped;
          seated = subst (λ (x : Stage). Seats A w.tracker f.request.client x) f.stage well.seated;
          held = subst (λ (x : Stage). Keeps A w.tells w.image f.request.client f.request.pads x) f.stage well.kept;
          listed = there.0;
          opens = there.1;
        }

-- who has a hold
holder_at : (A : ℕ) (w : World) (before : List Element) (h : Hold) (b : ℕ) → 0 < A → Ok A w → AllTraced A w before → Owner A w.req h b → HasHold A w before h b
holder_at A w before h b pos ok all o = go o.request.stage refl o.holds
  where
    go : (g : Stage) → o.request.stage ≡ g → IsHolder A o.request.client g h b → HasHold A w before h b
    go (Ready v) is holds = absurd holds
    go Entering is holds = absurd holds
    go (In k step) is holds =
        let f : InFlight w o.number h.place = record { request = o.request; step = step; is = o.is; stage = is ∙ ap (λ (i : ℕ). In i step) holds.0 } in
        let x : Flies A w o.number h.place o.request step (traced A o.number before) = flies A w before o.number h.place f ok all in
        record {
          number = o.number;
          flight = f;
          holding = holding A o.request.client step h.side holds.1;
          block = sym holds.2;
          serialising = open_serial A h.place o.request.client step h.side pos x.shaped holds.1;
          open_ = kept_is A o.request.client step (traced A o.number before) h.side x.opens ∙ is_opened A o.request.client step h.side holds.1;
        }

free_open : (A : ℕ) (c : Client) (side : Side) → open_at A c (ToFree side) side ≡ true
free_open A c Head = refl
free_open A c Tail = refl

pub keeps : (A : ℕ) (w : World) (before : List Element) → 0 < A → Ok A w → AllTraced A w before → AreClients w before → Kept A w before
keeps A w before pos ok all clients = record {
  placed = placed A w ok;
  span = λ r k f listed.
      let x = flies A w before r k f ok all in
      let s : Sits A w.tracker f.request.client k = sits_by A w.tracker f.request.client k f.step (traced A r before) x.seated x.listed listed in
      (s.own, (s.is, record { span = s.span; serial = s.serial }));
  spanless = λ r k f listed.
      let x = flies A w before r k f ok all in present_by A w.tracker f.request.client k f.step (traced A r before) x.seated x.listed listed;
  unlisted = λ r k f is.
      let x = flies A w before r k f ok all in
      unlisted_by A w.tracker f.request.client k f.step (traced A r before) x.shaped x.seated x.listed is;
  started = λ r k f at.
      let x = flies A w before r k f ok all in
      let g : Goes A w.tracker f.request.client k = goes_by A w.tracker f.request.client k f.step x.seated at in
      (g.sits.own, (g.sits.is, g.started));
  syncing = λ r k s f is other.
      let x = flies A w before r k f ok all in
      let g : Goes A w.tracker f.request.client k =
      sync_goes A w.tracker f.request.client k s (subst (λ (step : Step). Seated A w.tracker f.request.client k step) is x.seated) other in
      (g.sits.own, (g.sits.is, g.started));
  held = λ b h is. holder_at A w before h b pos ok all (ok.owned b h is);
  holds = λ r k f side is.
      let x = flies A w before r k f ok all in
      (x.held side (opened A f.request.client f.step side (sym (kept_is A f.request.client f.step (traced A r before) side x.opens) ∙ is))).held;
  frees = λ r k f side is.
      let x = flies A w before r k f ok all in
      kept_is A f.request.client f.step (traced A r before) side x.opens ∙ ap (λ (s : Step). open_at A f.request.client s side) is ∙ free_open A f.request.client side;
  pads = λ tells r k f side is.
      let x = flies A w before r k f ok all in
      (x.held side (opened A f.request.client f.step side (sym (kept_is A f.request.client f.step (traced A r before) side x.opens) ∙ is))).same tells;
  clients = λ s e. ((λ i. clients.session s ∙ clients.among s e i), λ at. clients.all s e (sym (clients.session s) ∙ at));
  once = clients.once;
}

pub always_kept : (A : ℕ) (w : World) (es : List Element) → 0 < A → Ok A w → ((r : ℕ) → w.req r ≡ None) → AreClients w [] → Runs A w es → AlwaysKept A w es
always_kept A w es pos ok none clients run before at =
    let front : Runs A w before = front_run A w es before run at in
    keeps A (world_after A w before) before pos (run_ok A w before pos ok front)
    (run_traced A w [] before pos ok front (λ r q is. absurd (some_none (sym is ∙ none r)))) (run_clients A w [] before front clients)

-- The answer of each request has a reply.
use Rattle.std.proofs.Common.{◌≡◌, ◌≢◌, ℕ, ◌+◌, ◌*◌, ◌<◌, ◌≤◌, Bool, true, false, true≢false, not, ◌&&◌, ◌||◌, ◌==◌, nat_lt, List, [], length, refl, sym, ◌∙◌, arith, inl, inr}
use Rattle.qs_bytes.specs.Payloads.{max_payload}
use Rattle.qs_bytes.specs.declared.ask.Errno.TheVariants.{Inval, NoMem}
use Rattle.qs_bytes.specs.declared.ask.Kind.{Kind}
use Rattle.qs_bytes.specs.declared.ask.Kind.TheVariants.{Read, Write, Zero, Trim, Flush, Unknown}
use Rattle.qs_bytes.specs.declared.ask.Verdict.{Verdict}
use Rattle.qs_bytes.specs.declared.ask.Verdict.TheVariants.{Got, Fine, Refused, Dropped}
use Rattle.qs_part.specs.declared.graph.GraphReply.{GraphReply}
use Rattle.qs_part.specs.declared.graph.GraphReply.TheVariants.{Shutting, Routed}
use Rattle.qs_part.specs.declared.stripe.Side.{Side}
use Rattle.qs_part.specs.declared.stripe.Side.TheVariants.{Head, Tail}
use Rattle.qs_part.specs.declared.stripe.StripeReply.{StripeReply}
use Rattle.qs_part.specs.declared.stripe.StripeReply.TheVariants.{Filled, Fault, Done, Freed, Clean, Synced}
use Rattle.qs_part.specs.declared.tracker.TrackerReply.{TrackerReply}
use Rattle.qs_part.specs.declared.tracker.TrackerReply.TheVariants.{Entered, Listed, Started, Ended}
use Rattle.qs_model.specs.Requests.{Client, Req, Stage, Step, ToRoute, ToList, ToStart, ToLoad, ToHold, ToStore, ToSync, ToFree, ToEnd, Ready, Entering, In, abandon, abandoned, edge, form_error, has, held, hold_failed, is_flush, is_read, is_trim, loaded, new_request, reads, routed, span_of, started, store_failed, stored, stores_bytes, synced, wants_writable}
use Rattle.qs_model.proofs.Basics.{choose, either}
use Rattle.qs_model.proofs.Facts.{Loading}
use Rattle.qs_model.proofs.Geometry.{Reaches, head_low, reaches_edge, same_eqb}
use Rattle.qs_model.proofs.Machine.{loaded_so_far, loaded_whole, next_reach, other_block}
use Rattle.qs_model.proofs.RequestKinds.{neither, other_one, trim_no_read}
use Rattle.qs_model.proofs.Syncing.{stored_is, synced_is}
use Rattle.qs_request.specs.declared.todo.PartReply.{PartReply}
use Rattle.qs_request.specs.declared.todo.PartReply.TheVariants.{Tracker as ByTracker, Graph as ByGraph, Stripe as ByStripe}
use Rattle.qs_request.specs.Table.{MayReply, MayStripe, after_graph, after_stripe, after_tracker, followed}
use Rattle.qs_request_state.specs.declared.shape.Shape.{Shape}
use Rattle.qs_nbd_transmission.specs.Replies.{CanReply}
use Rattle.qs_serving.specs.Fitting.{HasLoaded, HasSpan, IsAnswerTo, IsShortRead, RequestFits, StageFits, StepFits}

read_kind : (k : Kind) → is_read k ≡ true → k ≡ Read
read_kind Read is = refl
read_kind Write is = absurd (true≢false (sym is))
read_kind Zero is = absurd (true≢false (sym is))
read_kind Trim is = absurd (true≢false (sym is))
read_kind Flush is = absurd (true≢false (sym is))
read_kind (Unknown n) is = absurd (true≢false (sym is))

read_stores : (k : Kind) → is_read k ≡ true → stores_bytes k ≡ false
read_stores Read is = refl
read_stores Write is = absurd (true≢false (sym is))
read_stores Zero is = absurd (true≢false (sym is))
read_stores Trim is = refl
read_stores Flush is = refl
read_stores (Unknown n) is = refl

flush_no_read : (k : Kind) → is_flush k ≡ true → is_read k ≡ false
flush_no_read Flush is = refl
flush_no_read Read is = absurd (true≢false (sym is))
flush_no_read Write is = refl
flush_no_read Zero is = refl
flush_no_read Trim is = refl
flush_no_read (Unknown n) is = refl

-- success without bytes, to what is no READ
fine_reply : (c : Client) → is_read c.ask.kind ≡ false → CanReply c.ask Fine
fine_reply c clear is = absurd (true≢false (sym is ∙ clear))

as_loading : (A : ℕ) (c : Client) (b : ℕ) (got : List ℕ) → HasLoaded A c b got → Loading A c b got
as_loading A c b got l = record {
  sound = record {
    kind = λ clear. absurd (true≢false (sym l.reading ∙ clear));
    some = l.some;
    writable = λ w. absurd (true≢false (sym w ∙ read_stores c.ask.kind l.reading));
  };
  reading = l.reading;
  reach = record { first = l.first; last = l.last };
  so_far = l.so_far;
}

routed_fits : (A : ℕ) (c : Client) → IsShortRead c.ask → StepFits A c (routed c)
unfolding routed
routed_fits A c short =
    let P : Step → Type 0 = λ g. StepFits A c g in
    choose P (wants_writable c.ask.kind && not c.route.writable) _ _ (λ e. tt)
    (λ may. choose P (is_flush c.ask.kind) _ _ (λ e. flush_no_read c.ask.kind e)
    (λ sync. choose P (nat_lt c.route.size (c.ask.offset + c.ask.length)) _ _ (λ e. tt)
    (λ inside. choose P (c.ask.length == 0 || is_trim c.ask.kind) _ _
    (λ e. choose (λ v. CanReply c.ask v) (reads c) (Got []) Fine
    (λ f. (read_kind c.ask.kind f, none e f, short f))
    (λ f. fine_reply c f))
    (λ some. record {
      short = short;
      some = let n : c.ask.length ≢ 0 = other_block c.ask.length 0 (neither _ _ some).0 in omega arith;
    }))))
  where
    none : (c.ask.length == 0 || is_trim c.ask.kind) ≡ true → reads c ≡ true → 0 ≡ c.ask.length
    none e f = elim (either (c.ask.length == 0)) [
      | inl clear ↦ sym (same_eqb c.ask.length 0 clear)
      | inr some ↦ absurd (true≢false (sym f ∙ trim_no_read c.ask.kind (other_one _ _ e some)))
    ]

held_fits : (A : ℕ) (c : Client) (side : Side) → is_read c.ask.kind ≡ false → StepFits A c (held A c side)
unfolding held
held_fits A c Head clear = choose (λ g. StepFits A c g) (has A c Tail) _ _ (λ e. clear) (λ e. clear)
held_fits A c Tail clear = clear

started_fits : (A : ℕ) (c : Client) → 0 < A → HasSpan c → StepFits A c (started A c)
unfolding started
started_fits A c h span =
    let P : Step → Type 0 = λ g. StepFits A c g in
    choose P (reads c) _ _
    (λ e.
    let low : edge A c Head * A ≤ (span_of c).lo = head_low A c h in
    let reach : Reaches A c (edge A c Head) = reaches_edge A c Head h span.some in
    record {
      reading = e;
      short = span.short e;
      some = span.some;
      first = reach.first;
      last = reach.last;
      so_far = omega arith;
    })
    (λ e. choose P (has A c Head) _ _ (λ f. e) (λ f. held_fits A c Head e))

loaded_fits : (A : ℕ) (c : Client) (b : ℕ) (got bytes : List ℕ) → 0 < A → HasLoaded A c b got → length bytes ≡ A →
    StepFits A c (loaded A c b got bytes)
unfolding loaded
loaded_fits A c b got bytes h l whole =
    let loading : Loading A c b got = as_loading A c b got l in
    choose (λ g. StepFits A c g) (b == edge A c Tail) _ _
    (λ e. (read_kind c.ask.kind l.reading, loaded_whole A c b got bytes h loading whole (same_eqb b (edge A c Tail) e), l.short))
    (λ e. let reach : Reaches A c (b + 1) = next_reach A c b loading.reach e in
    record {
      reading = l.reading;
      short = l.short;
      some = l.some;
      first = reach.first;
      last = reach.last;
      so_far = loaded_so_far A c b got bytes h loading whole e;
    })

stored_fits : (A : ℕ) (c : Client) (b : ℕ) → is_read c.ask.kind ≡ false → StepFits A c (stored A c b)
stored_fits A c b clear = stored_is (λ g. StepFits A c g) A c b (λ e. fine_reply c clear) (λ e t lt. clear) (λ e. clear)

synced_fits : (A : ℕ) (c : Client) (s : ℕ) → is_read c.ask.kind ≡ false → StepFits A c (synced A c s)
synced_fits A c s clear = synced_is (λ g. StepFits A c g) A c s (fine_reply c clear) (λ t lt. clear)

hold_failed_fits : (A : ℕ) (c : Client) (side : Side) → is_read c.ask.kind ≡ false → StepFits A c (hold_failed A c side)
unfolding hold_failed
hold_failed_fits A c Head clear = tt
hold_failed_fits A c Tail clear = choose (λ g. StepFits A c g) (has A c Head) _ _ (λ e. clear) (λ e. tt)

store_failed_fits : (A : ℕ) (c : Client) (b : ℕ) → is_read c.ask.kind ≡ false → StepFits A c (store_failed A c b)
unfolding store_failed
store_failed_fits A c b clear =
    choose (λ g. StepFits A c g) (has A c Tail && not (b == edge A c Tail)) _ _ (λ e. clear) (λ e. tt)

-- what only a request that wasn't abandoned has to show
in_step : (A : ℕ) (c : Client) (d : Bool) (k : ℕ) (step : Step) → (d ≡ false → StepFits A c step) → StageFits A c d (In k step)
in_step A c true k step fits = tt
in_step A c false k step fits = fits refl

of_step : (A : ℕ) (c : Client) (d : Bool) (k : ℕ) (step : Step) → StageFits A c d (In k step) → d ≡ false → StepFits A c step
of_step A c true k step fits clear = absurd (true≢false clear)
of_step A c false k step fits clear = fits

tracker_fits : (A : ℕ) (c : Client) (d : Bool) (reply : TrackerReply) (stage : Stage) → 0 < A → StageFits A c d stage →
    StageFits A c d (after_tracker A c d reply stage)
tracker_fits A c true (Entered k) Entering h fits = tt
tracker_fits A c false (Entered k) Entering h fits = fits
tracker_fits A c d (Listed n) (In k ToList) h fits = in_step A c d k ToStart (of_step A c d k ToList fits)
tracker_fits A c d Started (In k ToStart) h fits =
    in_step A c d k (started A c) (λ clear. started_fits A c h (of_step A c d k ToStart fits clear))
tracker_fits A c true Ended (In k (ToEnd v)) h fits = refl
tracker_fits A c false Ended (In k (ToEnd v)) h fits = fits
tracker_fits A c d reply stage h fits = fits

graph_fits : (A : ℕ) (q : Req) (reply : GraphReply) (stage : Stage) → StageFits A q.client q.dropped stage → RequestFits A q →
    RequestFits A (after_graph q reply stage)
graph_fits A q (Routed route) (In k ToRoute) fits own =
    in_step A (record q.client { route = route }) q.dropped k (routed (record q.client { route = route }))
    (λ clear. routed_fits A (record q.client { route = route }) (of_step A q.client q.dropped k ToRoute fits clear))
graph_fits A q Shutting (In k ToRoute) fits own = in_step A q.client q.dropped k _ (λ clear. tt)
graph_fits A q reply stage fits own = own

stripe_fits : (shape : Shape) (c : Client) (d : Bool) (reply : StripeReply) (stage : Stage) → 0 < shape.align →
    MayStripe shape reply stage → StageFits shape.align c d stage → StageFits shape.align c d (after_stripe shape.align c reply stage)
stripe_fits shape c d (Filled buf) (In k (ToLoad b got)) h may fits =
    in_step shape.align c d k (loaded shape.align c b got buf)
    (λ clear. loaded_fits shape.align c b got buf h (of_step shape.align c d k (ToLoad b got) fits clear) may)
stripe_fits shape c d (Fault back) (In k (ToLoad b got)) h may fits = in_step shape.align c d k _ (λ clear. tt)
stripe_fits shape c d (Filled buf) (In k (ToHold side)) h may fits =
    in_step shape.align c d k (held shape.align c side)
    (λ clear. held_fits shape.align c side (of_step shape.align c d k (ToHold side) fits clear))
stripe_fits shape c d (Fault back) (In k (ToHold side)) h may fits =
    in_step shape.align c d k (hold_failed shape.align c side)
    (λ clear. hold_failed_fits shape.align c side (of_step shape.align c d k (ToHold side) fits clear))
stripe_fits shape c d (Done back) (In k (ToStore b)) h may fits =
    in_step shape.align c d k (stored shape.align c b)
    (λ clear. stored_fits shape.align c b (of_step shape.align c d k (ToStore b) fits clear))
stripe_fits shape c d (Fault back) (In k (ToStore b)) h may fits =
    in_step shape.align c d k (store_failed shape.align c b)
    (λ clear. store_failed_fits shape.align c b (of_step shape.align c d k (ToStore b) fits clear))
stripe_fits shape c d Clean (In k (ToSync s)) h may fits =
    in_step shape.align c d k (synced shape.align c s)
    (λ clear. synced_fits shape.align c s (of_step shape.align c d k (ToSync s) fits clear))
stripe_fits shape c d Synced (In k (ToSync s)) h may fits =
    in_step shape.align c d k (synced shape.align c s)
    (λ clear. synced_fits shape.align c s (of_step shape.align c d k (ToSync s) fits clear))
stripe_fits shape c d (Fault back) (In k (ToSync s)) h may fits = in_step shape.align c d k _ (λ clear. tt)
stripe_fits shape c d Freed (In k (ToFree side)) h may fits = in_step shape.align c d k _ (λ clear. tt)
stripe_fits shape c d reply stage h may fits = fits

-- a request that goes on
pub followed_fits : (shape : Shape) (q : Req) (reply : PartReply) → 0 < shape.align → MayReply shape q reply →
    RequestFits shape.align q → RequestFits shape.align (followed shape.align q reply)
followed_fits shape q (ByTracker reply) h may fits = tracker_fits shape.align q.client q.dropped reply q.stage h fits
followed_fits shape q (ByGraph reply) h may fits = graph_fits shape.align q reply q.stage fits fits
followed_fits shape q (ByStripe reply) h may fits = stripe_fits shape q.client q.dropped reply q.stage h may fits

-- one that is abandoned
left_fits : (A : ℕ) (c : Client) (stage : Stage) → StageFits A c true (abandoned c stage)
left_fits A c (Ready v) = refl
left_fits A c Entering = refl
left_fits A c (In k step) = tt

pub abandon_fits : (A : ℕ) (q : Req) → RequestFits A (abandon q)
abandon_fits A q = left_fits A q.client q.stage

-- one that was just made
pub new_fits : (A : ℕ) (c : Client) → RequestFits A (new_request c)
new_fits A c =
    let P : Stage → Type 0 = λ s. StageFits A c false s in
    choose P (form_error c.ask) (Ready (Refused Inval)) _ (λ e. tt)
    (λ fine. choose P c.buffered Entering (Ready (Refused NoMem))
    (λ e. λ is. short_read (is_read c.ask.kind) c.ask.length is (neither _ _ fine).1)
    (λ e. tt))
  where
    short_read : (r : Bool) (n : ℕ) → r ≡ true → r && nat_lt max_payload n ≡ false → n ≤ max_payload
    short_read true n is long = grind (arith, long)
    short_read false n is long = absurd (true≢false (sym is))

-- the answer that a request gives
pub answer_fits : (A : ℕ) (c : Client) (d : Bool) (v : Verdict) → StageFits A c d (Ready v) → IsAnswerTo c.ask v
answer_fits A c true (Got bytes) fits = absurd (cc)
answer_fits A c true Fine fits = absurd (cc)
answer_fits A c true (Refused errno) fits = absurd (cc)
answer_fits A c true Dropped fits = tt
answer_fits A c false (Got bytes) fits = fits
answer_fits A c false Fine fits = fits
answer_fits A c false (Refused errno) fits = tt
answer_fits A c false Dropped fits = tt

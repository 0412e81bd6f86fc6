-- The fields of a request behind a run of whole blocks.
use Rattle.std.proofs.Common.{◌≡◌, ℕ, suc, ◌+◌, ◌-◌, ◌*◌, ◌<◌, ◌≤◌, Bool, true, false, ◌==◌, ◌&&◌, cond, List, length, take, refl, sym, ap, ◌∙◌, subst, arith}
use Rattle.std.proofs.lemmas.List.{take_all}
use Rattle.std.specs.Prelude.{[], Some}
use Rattle.qs_bytes.specs.Geometry.{stripe_of}
use Rattle.qs_bytes.specs.declared.ask.Errno.TheVariants.{Io}
use Rattle.qs_outside.specs.Runs.{EndsAt, InOrder}
use Rattle.qs_part.specs.declared.event.Note.{Note}
use Rattle.qs_part.specs.declared.event.OpKind.TheVariants.{Load as LoadKind, Store as StoreKind}
use Rattle.qs_part.specs.declared.event.StripeNote.TheVariants as told
use Rattle.qs_part.specs.declared.runs.RunOp.TheVariants.{Load as LoadRun, Store as StoreRun}
use Rattle.qs_part.specs.declared.runs.RunReply.TheVariants.{Filled as RunFilled, Done as RunDone, Fault as RunFault, HeldBy as RunHeldBy}
use Rattle.qs_part.specs.declared.stripe.StripeReply.TheVariants.{Fault}
use Rattle.qs_stripe.specs.Table.{StripeValue}
use Rattle.qs_request.specs.declared.todo.PartReply.TheVariants.{Stripe as ByStripe}
use Rattle.qs_request.specs.RunSteps.{RanOut}
use Rattle.qs_request.specs.Table.{IsMerged, followed}
use Rattle.qs_request.proofs.RunChains.{both, loads-end, loads-ran, note_for, stores-end, stores-ran, stores-wait}
use Rattle.qs_request.proofs.WholeWrites.{store-done, stores-fail, stores-held, whole-merged}
use Rattle.qs_bytes.specs.declared.ask.Kind.{Kind}
use Rattle.qs_bytes.specs.declared.ask.Kind.TheVariants.{Write}
use Rattle.qs_bytes.specs.declared.ask.Verdict.TheVariants.{Got, Fine, Refused}
use Rattle.qs_part.specs.declared.stripe.Side.TheVariants.{Head, Tail}
use Rattle.qs_stripe.specs.Runs.{IsOver, Loaded, NotLoaded, NotStored, StoredAt, Waits, block_in, run_answers}
use Rattle.qs_model.specs.Requests.{Client, Req, Step, In, ToEnd, ToLoad, ToStore, brings_bytes, edge, is_read, span_of, store_failed, stored, success, takes_body}
use Rattle.qs_model.proofs.Basics.{blocks_lt}
use Rattle.qs_model.proofs.Geometry.{head_low, tail_high}
use Rattle.qs_request.specs.declared.machine.Machine.{Machine}
use Rattle.qs_request_state.specs.declared.stage.Ending.TheVariants.{Success, Failed, Dropped as Left}
use Rattle.qs_request_state.specs.declared.stage.Stage.{Stage as At}
use Rattle.qs_request_state.specs.declared.stage.Stage.TheVariants.{In as InAt}
use Rattle.qs_request_state.specs.declared.stage.Step.{Step as Next}
use Rattle.qs_request_state.specs.declared.stage.Step.TheVariants.{Route as RouteNext, List as ListNext, Start as StartNext, Load as LoadNext, Hold as HoldNext, Store as StoreNext, Sync as SyncNext, Free as FreeNext, End as EndNext}
use Rattle.qs_request.specs.declared.whole_run.WholeRun.{WholeRun}
use Rattle.qs_request.specs.Inside.{Goes, HasBuffers, IsAtStage, IsFree, IsGoing, IsLoading, IsReached, IsStoring, before, client_of, lends_at, request_of, stage_of, step_of}
use Rattle.qs_request.specs.Value.{bytes_of}
use Rattle.qs_request.specs.WholeRuns.{IsReadingRun, IsWholeRun, IsWritingRun, behind_loads}
use Rattle.qs_request.proofs.Loads.{same_client}
use Rattle.qs_request.proofs.Reached.{some_bytes}
use Rattle.qs_request.proofs.WholeReads.{last-load, loads-fail, run-ends}

not-lent : (t w : Bool) → w ≡ false → t && w ≡ false
not-lent true w e = e
not-lent false w e = refl

-- what comes next is said without the stage
pub step-same : (m : Machine) (stage : At) (next : Next) → step_of (record m { stage = stage }) next ≡ step_of m next
step-same m stage (EndNext Success) = refl
step-same m stage (EndNext (Failed e)) = refl
step-same m stage (EndNext Left) = refl
step-same m stage RouteNext = refl
step-same m stage ListNext = refl
step-same m stage StartNext = refl
step-same m stage (LoadNext b) = refl
step-same m stage (HoldNext side) = refl
step-same m stage (StoreNext b) = refl
step-same m stage (SyncNext n) = refl
step-same m stage (FreeNext side) = refl

-- the bytes of a WRITE are its body
pub own-bytes : (kind : Kind) (bytes : List ℕ) → brings_bytes kind ≡ true → bytes_of kind bytes ≡ bytes
own-bytes Write bytes is = refl
own-bytes _ bytes is = cc

pub brings-taken : (kind : Kind) → brings_bytes kind ≡ true → takes_body kind ≡ true
brings-taken Write is = refl
brings-taken _ is = cc

module _ (m : Machine) (run : WholeRun) (free : IsFree m) (whole : IsWholeRun m.shape.align (span_of (client_of m)) run) where
  pub some : 0 < m.shape.align
  some = some_bytes m.shape free.sound.shape

  pub before-at : (i : ℕ) → before m (run.b + i) ≡ run.at + i * m.shape.align
  before-at i = omega (arith, whole.place)

  pub reached-at : IsGoing m → (i : ℕ) → i < run.n → IsReached m (run.b + i)
  reached-at going i below =
      let A = m.shape.align in
      let c = client_of m in
      let ends = run-ends A run.b run.n i below in
      let low = head_low A c some in
      let high = tail_high A c some going.some in
      let under : run.b < edge A c Head → ⊥ = λ less. let more = blocks_lt run.b (edge A c Head) A less in omega (arith, more, low, whole.place, some) in
      let over : edge A c Tail < run.b + i → ⊥ = λ less. let more = blocks_lt (edge A c Tail) (run.b + i) A less in omega (arith, more, high, ends, whole.inside, some) in
      record { going = going; first = omega (arith, under); last = omega (arith, over) }

  pub inside-image : IsGoing m → (run.b + run.n) * m.shape.align ≤ m.shape.size
  inside-image going = omega (arith, whole.inside, going.inside)

  -- the buffers, whatever the buffer of a READ holds
  pub buffers-with : (bytes : List ℕ) (stage : At) → length bytes ≡ length m.body → HasBuffers (record m { body = bytes; stage = stage }) (lends_at stage && m.waits)
  buffers-with bytes stage same =
      let unlent = not-lent (lends_at m.stage) m.waits free.waits in
      record {
        body = λ buffered takes. same ∙ free.sound.buffers.body buffered takes;
        pads = free.sound.buffers.pads;
        work = λ buffered wants _. free.sound.buffers.work buffered wants unlent;
      }

  pub free-with : (bytes : List ℕ) (stage : At) → length bytes ≡ length m.body → IsAtStage (record m { body = bytes; stage = stage }) stage
      → IsFree (record m { body = bytes; stage = stage })
  free-with bytes stage same stands = record {
    sound = record { shape = free.sound.shape; buffers = buffers-with bytes stage same; stands = stands };
    waits = free.waits;
    answered = free.answered;
  }

  module _ (at_stage : m.stage ≡ InAt run.k (LoadNext run.b)) where
    pub loading : IsLoading m run.b
    loading = subst (λ (s : At). IsAtStage m s) at_stage free.sound.stands

    pub body-length : length m.body ≡ m.ask.length
    body-length = free.sound.buffers.body loading.reached.going.asked.buffered (ap (λ (k : Kind). takes_body k) loading.reading)

    pub body-holds : run.at + run.n * m.shape.align ≤ length m.body
    body-holds = omega (arith, whole.inside, whole.place, body-length)

    abbrev last : ℕ
    last = run.b + (run.n - 1)

    pub loading-last : IsLoading m last
    loading-last = record { reading = loading.reading; reached = reached-at loading.reached.going (run.n - 1) (omega (arith, whole.some)) }

    module _ (got : List ℕ) (over : IsOver run.at (run.n * m.shape.align) m.body got) where
      pub reading-run : IsReadingRun m.shape.align (request_of m) run got
      reading-run =
          let at : before m run.b ≡ run.at = omega (arith, whole.place) in
          record {
            stage = ap (stage_of m) at_stage ∙ ap (λ n. In run.k (ToLoad run.b (take n m.body))) at
                ∙ ap (λ xs. In run.k (ToLoad run.b xs)) (sym over.before);
            whole_run = whole;
            whole = omega (arith, over.same, body-length);
          }

      abbrev refilled : Next → Machine
      refilled next = record m { body = got; stage = InAt run.k next }

      got-all : (last == edge m.shape.align (client_of m) Tail) ≡ true → take (run.at + run.n * m.shape.align) got ≡ got
      got-all test =
          let A = m.shape.align in
          let c = client_of m in
          let high = tail_high A c some loading.reached.going.some in
          let same : last ≡ edge A c Tail = search (test, arith) in
          let at : last * A ≡ edge A c Tail * A = ap (λ n. n * A) same in
          let ends = run-ends A run.b run.n (run.n - 1) (omega (arith, whole.some)) in
          take_all (run.at + run.n * A) got (omega (arith, high, at, ends, whole.place, whole.inside, over.same, body-length))

      success-is : success (client_of (refilled (EndNext Success))) got ≡ Got got
      success-is = ap (λ t. cond t (Got got) Fine) (ap is_read loading.reading)

      next-is : (t : Bool) → (last == edge m.shape.align (client_of m) Tail) ≡ t → (next : Next) → next ≡ cond t (EndNext Success) (LoadNext (last + 1))
          → step_of (refilled next) next
          ≡ cond t (ToEnd (Got (take (run.at + run.n * m.shape.align) got))) (ToLoad (run.b + run.n) (take (run.at + run.n * m.shape.align) got))
      next-is true test next e =
          ap (λ (n : Next). step_of (refilled n) n) e ∙ ap ToEnd (success-is ∙ ap Got (sym (got-all test)))
      next-is false test next e =
          let b : last + 1 ≡ run.b + run.n = omega (arith, whole.some) in
          ap (λ (n : Next). step_of (refilled n) n) e
          ∙ ap (λ n. ToLoad n (take (before m n) got)) b
          ∙ ap (λ n. ToLoad (run.b + run.n) (take n got)) (before-at run.n)

      pub loaded-request : (next : Next) → next ≡ cond (last == edge m.shape.align (client_of m) Tail) (EndNext Success) (LoadNext (last + 1))
          → request_of (refilled next) ≡ behind_loads m.shape.align run got (request_of m) run.n
      loaded-request next e =
          let t = last == edge m.shape.align (client_of m) Tail in
          let all : suc (run.n - 1) ≡ run.n = omega (arith, whole.some) in
          ap (λ (c : Client). record { client = c; dropped = m.dropped; pads = m.pads.pads; stage = In run.k (step_of (refilled next) next) })
          (same_client m got (InAt run.k next) loading.reading)
          ∙ ap (λ (s : Step). record (request_of m) { stage = In run.k s }) (next-is t refl next e)
          ∙ sym (last-load m.shape.align (request_of m) run got some reading-run (run.n - 1) t all refl)
          ∙ ap (λ n. behind_loads m.shape.align run got (request_of m) n) all

      -- the request behind a run that the disk refused at a block
      refused-request : (done : ℕ) → done < run.n → (back : List ℕ) → request_of (refilled (EndNext (Failed Io)))
          ≡ followed m.shape.align (behind_loads m.shape.align run got (request_of m) done) (ByStripe (Fault (Some back)))
      refused-request done below back =
          ap (λ (c : Client). record { client = c; dropped = m.dropped; pads = m.pads.pads; stage = In run.k (ToEnd (Refused Io)) })
          (same_client m got (InAt run.k (EndNext (Failed Io))) loading.reading)
          ∙ sym (loads-fail m.shape.align (request_of m) run got some reading-run done below back)

      loading-in : (b : ℕ) (stage : At) → IsLoading m b → IsLoading (record m { body = got; stage = stage }) b
      loading-in b stage l =
          let same = sym (same_client m got stage loading.reading) in
          record {
            reading = l.reading;
            reached = record {
              going = record {
                asked = record { kind = l.reached.going.asked.kind; buffered = l.reached.going.asked.buffered };
                works = l.reached.going.works;
                some = l.reached.going.some;
                inside = l.reached.going.inside;
              };
              first = subst (λ (c : Client). edge m.shape.align c Head ≤ b) same l.reached.first;
              last = subst (λ (c : Client). b ≤ edge m.shape.align c Tail) same l.reached.last;
            };
          }

      pub loaded-free : (t : Bool) (next : Next) → next ≡ cond t (EndNext Success) (LoadNext (last + 1)) → Goes m next → IsFree (refilled next)
      loaded-free true next e goes = free-with got (InAt run.k next) over.same (subst (λ (n : Next). Goes (refilled next) n) (sym e) tt)
      loaded-free false next e goes =
          free-with got (InAt run.k next) over.same
          (subst (λ (n : Next). Goes (refilled next) n) (sym e) (loading-in (last + 1) (InAt run.k next) (subst (λ (n : Next). Goes m n) e goes)))

    -- a run of loads that a stripe answered
    module _ (n : Machine) (lent : n ≡ record m { body = [] }) (place : run.k < 256) (v w : StripeValue) (align : v.disk.align ≡ m.shape.align) (buf : List ℕ) (own : buf ≡ m.body) where
      pub loads-answered : (got : List ℕ) (next : Next) (note : Note) → run_answers v (LoadRun run.b run.k run.n run.at buf) (RunFilled got) w
          → next ≡ cond (last == edge m.shape.align (client_of m) Tail) (EndNext Success) (LoadNext (last + 1)) → note ≡ note_for LoadKind last told.Filled
          → RanOut m.shape (stripe_of run.b) run.n note (both (request_of m) v) (both (request_of (record n { body = got; stage = InAt run.k next })) w)
      loads-answered got next note row next-is note-is =
          let A = m.shape.align in
          let over : IsOver run.at (run.n * A) m.body got = rw (sym align, sym own) row.0 in
          let all : suc (run.n - 1) ≡ run.n = omega (arith, whole.some) in
          let steps : InOrder (Loaded A run.b run.k run.at m.body got) run.n v w = rw (sym align, sym own) row.1 in
          let whole-steps = subst (λ i. InOrder (Loaded A run.b run.k run.at m.body got) i v w) (sym all) steps in
          let ran = loads-ran m.shape (request_of m) run some whole.group place (inside-image loading.reached.going) m.body got (reading-run got over) body-holds
          (run.n - 1) all v w whole-steps in
          let request : request_of (record n { body = got; stage = InAt run.k next }) ≡ behind_loads A run got (request_of m) (suc (run.n - 1)) =
          ap (λ (x : Machine). request_of (record x { body = got; stage = InAt run.k next })) lent ∙ loaded-request got over next next-is
          ∙ ap (λ i. behind_loads A run got (request_of m) i) (sym all) in
          rw (note-is, request) ran

      pub loads-refused : (done : ℕ) (back : List ℕ) (note : Note) → run_answers v (LoadRun run.b run.k run.n run.at buf) (RunFault done back) w
          → note ≡ note_for LoadKind (run.b + done) told.Fault
          → RanOut m.shape (stripe_of run.b) run.n note (both (request_of m) v) (both (request_of (record n { body = back; stage = InAt run.k (EndNext (Failed Io)) })) w)
      loads-refused done back note row note-is =
          let A = m.shape.align in
          let over : IsOver run.at (run.n * A) m.body back = rw (sym align, sym own) row.0 in
          let steps : EndsAt (Loaded A run.b run.k run.at m.body back) (NotLoaded A run.b run.k run.at m.body back) done v w = rw (sym align, sym own) row.2 in
          let ran = loads-end m.shape (request_of m) run some whole.group place (inside-image loading.reached.going) m.body back (reading-run back over) body-holds
          done row.1 v w steps in
          let request = ap (λ (x : Machine). request_of (record x { body = back; stage = InAt run.k (EndNext (Failed Io)) })) lent
          ∙ refused-request back over done row.1 (block_in A run.at back done) in
          rw (note-is, request) ran

  module _ (at_stage : m.stage ≡ InAt run.k (StoreNext run.b)) where
    pub storing : IsStoring m run.b
    storing = subst (λ (s : At). IsAtStage m s) at_stage free.sound.stands

    pub storing-at : (i : ℕ) → i < run.n → IsStoring m (run.b + i)
    storing-at i below = record { writing = storing.writing; reached = reached-at storing.reached.going i below; kept = storing.kept }

    pub storing-in : (b : ℕ) (stage : At) → IsStoring m b → IsStoring (record m { stage = stage }) b
    storing-in b stage l = record {
      writing = l.writing;
      reached = record {
        going = record {
          asked = record { kind = l.reached.going.asked.kind; buffered = l.reached.going.asked.buffered };
          works = l.reached.going.works;
          some = l.reached.going.some;
          inside = l.reached.going.inside;
        };
        first = l.reached.first;
        last = l.reached.last;
      };
      kept = l.kept;
    }

    pub writing-run : IsWritingRun m.shape.align (request_of m) run
    writing-run = record { stage = ap (stage_of m) at_stage; whole_run = whole }

    pub own-length : brings_bytes m.ask.kind ≡ true → length m.body ≡ m.ask.length
    own-length brings = free.sound.buffers.body storing.reached.going.asked.buffered (brings-taken m.ask.kind brings)

    pub own-holds : brings_bytes m.ask.kind ≡ true → run.at + run.n * m.shape.align ≤ length m.body
    own-holds brings = omega (arith, whole.inside, whole.place, own-length brings)

    pub own-body : brings_bytes m.ask.kind ≡ true → (client_of m).body ≡ m.body
    own-body brings = own-bytes m.ask.kind m.body brings

    -- a run of stores that a stripe answered
    module _ (brings : brings_bytes m.ask.kind ≡ true) (n : Machine) (lent : n ≡ record m { body = [] }) (buf back : List ℕ) (own : buf ≡ m.body) (same : back ≡ buf) where
      abbrev q : Req
      q = request_of m

      -- the machine has its body again
      whole-again : record n { body = back } ≡ m
      whole-again = ap (λ (x : Machine). record x { body = back }) lent ∙ ap (λ xs. record m { body = xs }) (same ∙ own)

      request-is : (next : Next) (step : Step) → step_of (record n { body = back }) next ≡ step
          → request_of (record n { body = back; stage = InAt run.k next }) ≡ record q { stage = In run.k step }
      request-is next step e =
          ap (λ (x : Machine). request_of (record x { stage = InAt run.k next })) whole-again
          ∙ ap (λ (s : Step). record q { stage = In run.k s })
          (step-same m (InAt run.k next) next ∙ ap (λ (x : Machine). step_of x next) (sym whole-again) ∙ e)

      holds : run.at + run.n * m.shape.align ≤ length q.client.body
      holds = rw (own-body brings) (own-holds brings)

      merged : (i : ℕ) → i < run.n → IsMerged m.shape.align q.client q.pads (run.b + i) (block_in m.shape.align run.at q.client.body i)
      merged i below = whole-merged m.shape.align q.client q.pads run i whole below

      bytes : buf ≡ q.client.body
      bytes = own ∙ sym (own-body brings)

      pub storing-again : (i : ℕ) → i < run.n → IsStoring (record n { body = back }) (run.b + i)
      storing-again i below = subst (λ (x : Machine). IsStoring x (run.b + i)) (sym whole-again) (storing-at i below)

      pub held-free : (done : ℕ) → done < run.n → IsFree (record n { body = back; stage = InAt run.k (StoreNext (run.b + done)) })
      held-free done below =
          subst (λ (x : Machine). IsFree (record x { stage = InAt run.k (StoreNext (run.b + done)) })) (sym whole-again)
          (free-with m.body (InAt run.k (StoreNext (run.b + done))) refl (storing-in (run.b + done) (InAt run.k (StoreNext (run.b + done))) (storing-at done below)))

      module _ (place : run.k < 256) (v w : StripeValue) (align : v.disk.align ≡ m.shape.align) where
        pub stores-answered : (next : Next) (note : Note) → run_answers v (StoreRun run.b run.k run.n run.at buf) (RunDone back) w
            → step_of (record n { body = back }) next ≡ stored (record n { body = back }).shape.align (client_of (record n { body = back })) (run.b + (run.n - 1))
            → note ≡ note_for StoreKind (run.b + (run.n - 1)) told.Done
            → RanOut m.shape (stripe_of run.b) run.n note (both q v) (both (request_of (record n { body = back; stage = InAt run.k next })) w)
        stores-answered next note row step note-is =
            let A = m.shape.align in
            let all : suc (run.n - 1) ≡ run.n = omega (arith, whole.some) in
            let steps : InOrder (StoredAt A run.b run.k run.at q.client.body) run.n v w = rw (sym align, sym bytes) row.1 in
            let whole-steps = subst (λ i. InOrder (StoredAt A run.b run.k run.at q.client.body) i v w) (sym all) steps in
            let ran = stores-ran m.shape q run some whole.group place (inside-image storing.reached.going) writing-run q.client.body holds merged (run.n - 1) all v w whole-steps in
            let request = request-is next (stored A (client_of m) (run.b + (run.n - 1)))
            (step ∙ ap (λ (x : Machine). stored x.shape.align (client_of x) (run.b + (run.n - 1))) whole-again)
            ∙ sym (store-done A q run q.client.body some writing-run (run.n - 1) (omega (arith, whole.some))) in
            rw (note-is, request) ran

        pub stores-refused : (done : ℕ) (next : Next) (note : Note) → run_answers v (StoreRun run.b run.k run.n run.at buf) (RunFault done back) w
            → step_of (record n { body = back }) next ≡ store_failed (record n { body = back }).shape.align (client_of (record n { body = back })) (run.b + done)
            → note ≡ note_for StoreKind (run.b + done) told.Fault
            → RanOut m.shape (stripe_of run.b) run.n note (both q v) (both (request_of (record n { body = back; stage = InAt run.k next })) w)
        stores-refused done next note row step note-is =
            let A = m.shape.align in
            let steps : EndsAt (StoredAt A run.b run.k run.at q.client.body) (NotStored A run.b run.k run.at q.client.body) done v w = rw (sym align, sym bytes) row.2 in
            let ran = stores-end m.shape q run some whole.group place (inside-image storing.reached.going) writing-run q.client.body holds merged done row.1 v w steps in
            let request = request-is next (store_failed A (client_of m) (run.b + done))
            (step ∙ ap (λ (x : Machine). store_failed x.shape.align (client_of x) (run.b + done)) whole-again)
            ∙ sym (stores-fail A q run q.client.body some writing-run done row.1 (block_in A run.at q.client.body done)) in
            rw (note-is, request) ran

        pub stores-held-up : (done j : ℕ) (note : Note) → run_answers v (StoreRun run.b run.k run.n run.at buf) (RunHeldBy done j back) w
            → note ≡ note_for StoreKind (run.b + done) (told.HeldBy j)
            → RanOut m.shape (stripe_of run.b) run.n note (both q v) (both (request_of (record n { body = back; stage = InAt run.k (StoreNext (run.b + done)) })) w)
        stores-held-up done j note row note-is =
            let A = m.shape.align in
            let steps : EndsAt (StoredAt A run.b run.k run.at q.client.body) (Waits A run.b run.k run.at q.client.body j) done v w = rw (sym align, sym bytes) row.2 in
            let ran = stores-wait m.shape q run some whole.group place (inside-image storing.reached.going) writing-run q.client.body holds merged done j row.1 v w steps in
            let request = request-is (StoreNext (run.b + done)) (ToStore (run.b + done)) refl
            ∙ sym (stores-held A q run q.client.body some writing-run done row.1 j (block_in A run.at q.client.body done)) in
            rw (note-is, request) ran

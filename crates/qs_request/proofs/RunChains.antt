-- A run of a stripe is a chain of the request's single operations.
use Rattle.std.proofs.Common.{◌≡◌, ℕ, zero, suc, ◌+◌, ◌*◌, ◌%◌, ◌<◌, ◌≤◌, List, length, drop, refl, sym, ap, subst, arith}
use Rattle.std.specs.Prelude.{Some}
use Rattle.std.proofs.Math.Nat.{mul-le-mul_right}
use Rattle.std.proofs.lemmas.List.{length-drop, length-take-le}
use Rattle.qs_bytes.specs.Geometry.{stripe_of}
use Rattle.qs_outside.specs.Runs.{EndsAt, InOrder}
use Rattle.qs_part.specs.declared.event.Note.{Note}
use Rattle.qs_part.specs.declared.event.NoteReply.TheVariants.{Stripe as OfStripe}
use Rattle.qs_part.specs.declared.event.OpKind.{OpKind}
use Rattle.qs_part.specs.declared.event.OpKind.TheVariants.{Load as LoadKind, Store as StoreKind}
use Rattle.qs_part.specs.declared.event.StripeNote.{StripeNote}
use Rattle.qs_part.specs.declared.event.StripeNote.TheVariants as told
use Rattle.qs_part.specs.declared.stripe.StripeReply.{StripeReply}
use Rattle.qs_part.specs.declared.stripe.StripeReply.TheVariants.{Filled, Fault, HeldBy, Done}
use Rattle.qs_stripe.specs.Runs.{Loaded, NotLoaded, NotStored, StoredAt, Waits, block_in, load_at, run_store_at}
use Rattle.qs_stripe.specs.Table.{StripeValue}
use Rattle.qs_model.specs.Requests.{Req, In, ToStore}
use Rattle.qs_request_state.specs.declared.shape.Shape.{Shape}
use Rattle.qs_request.specs.declared.todo.PartReply.TheVariants.{Stripe as ByStripe}
use Rattle.qs_request.specs.declared.todo.Todo.TheVariants.{Stripe}
use Rattle.qs_request.specs.declared.whole_run.WholeRun.{WholeRun}
use Rattle.qs_request.specs.RunSteps.{Both, DoesOne, GoesOn, RanOut}
use Rattle.qs_request.specs.Table.{FitsBlock, IsMerged, Wants, followed}
use Rattle.qs_request.specs.Value.{IsReady}
use Rattle.qs_request.specs.WholeRuns.{IsReadingRun, IsWritingRun, behind_loads, behind_stores}
use Rattle.qs_request.proofs.WholeReads.{loads-before}
use Rattle.qs_request.proofs.WholeWrites.{stores-before}

abbrev pub both : Req → StripeValue → Both
both q v = record { request = q; stripe = v }

abbrev pub note_for : OpKind → ℕ → StripeNote → Note
note_for kind b answer = record { kind = kind; at = Some b; reply = OfStripe answer }

module _ (shape : Shape) (q : Req) (run : WholeRun) (some : 0 < shape.align) (group : run.b % 16 + run.n ≤ 16) (place : run.k < 256)
    (inside : (run.b + run.n) * shape.align ≤ shape.size) where
  same-stripe : (i : ℕ) → i < run.n → stripe_of run.b ≡ stripe_of (run.b + i)
  same-stripe i below = omega (arith, group, below)

  block-fits : (i : ℕ) → i < run.n → FitsBlock shape (stripe_of run.b) (run.b + i)
  block-fits i below =
      let within : (run.b + i + 1) * shape.align ≤ (run.b + run.n) * shape.align = mul-le-mul_right shape.align (omega (arith, below)) in
      record { stripe = same-stripe i below; inside = omega (arith, within, inside) }

  block-whole : (buf : List ℕ) (i : ℕ) → run.at + run.n * shape.align ≤ length buf → i < run.n → length (block_in shape.align run.at buf i) ≡ shape.align
  block-whole buf i whole below =
      let next : (i + 1) * shape.align ≤ run.n * shape.align = mul-le-mul_right shape.align (omega (arith, below)) in
      length-take-le shape.align (drop (run.at + i * shape.align) buf) (omega (arith, next, whole, length-drop (run.at + i * shape.align) buf))

  module _ (buf got : List ℕ) (is : IsReadingRun shape.align q run got) (whole : run.at + run.n * shape.align ≤ length buf) where
    abbrev behind : ℕ → Req
    behind i = behind_loads shape.align run got q i

    wants-load : (i : ℕ) → i < run.n → Wants shape.align (behind i) (Stripe (stripe_of run.b) (load_at shape.align run.b run.k run.at buf i))
    wants-load i below =
        subst (λ (r : Req). Wants shape.align r (Stripe (stripe_of run.b) (load_at shape.align run.b run.k run.at buf i)))
        (sym (loads-before shape.align q run got some is i below)) (
          block_in shape.align run.at buf i,
          (block-whole buf i whole below, ap (λ s. Stripe s (load_at shape.align run.b run.k run.at buf i)) (same-stripe i below)),
        )

    loads-one : (i : ℕ) → i < run.n → (v w : StripeValue) → Loaded shape.align run.b run.k run.at buf got i v w
        → DoesOne shape (stripe_of run.b) (note_for LoadKind (run.b + i) told.Filled) (both (behind i) v) (both (behind (suc i)) w)
    loads-one i below v w row = record {
      op = load_at shape.align run.b run.k run.at buf i;
      reply = Filled (block_in shape.align run.at got i);
      wants = wants-load i below;
      fits = (block-fits i below, place, block-whole buf i whole below);
      answers_op = row;
      follows = refl;
      on = subst (λ (r : Req). IsReady (followed shape.align r (ByStripe (Filled (block_in shape.align run.at got i)))).stage → ⊥)
          (sym (loads-before shape.align q run got some is i below)) (λ h. h);
      is_told = refl;
    }

    loads-front : (i : ℕ) → i ≤ run.n → (v w : StripeValue) → InOrder (Loaded shape.align run.b run.k run.at buf got) i v w
        → InOrder (λ j. GoesOn shape (stripe_of run.b)) i (both q v) (both (behind i) w)
    loads-front zero within v w steps = ap (both q) steps
    loads-front (suc i) within v w steps = (
      both (behind i) steps.0,
      (
        loads-front i (omega (arith, within)) v steps.0 steps.1.0,
        record {
          note = note_for LoadKind (run.b + i) told.Filled;
          does = loads-one i (omega (arith, within)) steps.0 w steps.1.1;
          done = tt;
        },
      ),
    )

    pub loads-ran : (m : ℕ) → suc m ≡ run.n → (v w : StripeValue) → InOrder (Loaded shape.align run.b run.k run.at buf got) (suc m) v w
        → RanOut shape (stripe_of run.b) run.n (note_for LoadKind (run.b + m) told.Filled) (both q v) (both (behind (suc m)) w)
    loads-ran m all v w steps = record {
      before = m;
      below = omega (arith, all);
      ends = (both (behind m) steps.0, (loads-front m (omega (arith, all)) v steps.0 steps.1.0, loads-one m (omega (arith, all)) steps.0 w steps.1.1));
      whole = λ _. all;
    }

    pub loads-end : (m : ℕ) → m < run.n → (v w : StripeValue)
        → EndsAt (Loaded shape.align run.b run.k run.at buf got) (NotLoaded shape.align run.b run.k run.at buf got) m v w
        → RanOut shape (stripe_of run.b) run.n (note_for LoadKind (run.b + m) told.Fault) (both q v)
        (both (followed shape.align (behind m) (ByStripe (Fault (Some (block_in shape.align run.at got m))))) w)
    loads-end m below v w steps = record {
      before = m;
      below = below;
      ends = (
        both (behind m) steps.0,
        (
          loads-front m (omega (arith, below)) v steps.0 steps.1.0,
          record {
            op = load_at shape.align run.b run.k run.at buf m;
            reply = Fault (Some (block_in shape.align run.at got m));
            wants = wants-load m below;
            fits = (block-fits m below, place, block-whole buf m whole below);
            answers_op = steps.1.1;
            follows = refl;
            on = subst (λ (r : Req). IsReady (followed shape.align r (ByStripe (Fault (Some (block_in shape.align run.at got m))))).stage → ⊥)
                (sym (loads-before shape.align q run got some is m below)) (λ h. h);
            is_told = refl;
          },
        ),
      );
      whole = λ none. absurd none;
    }

  -- from bytes of which each block is the next content
  module _ (is : IsWritingRun shape.align q run) (buf : List ℕ) (whole : run.at + run.n * shape.align ≤ length buf)
      (merged : (i : ℕ) → i < run.n → IsMerged shape.align q.client q.pads (run.b + i) (block_in shape.align run.at buf i)) where
    abbrev stored-to : ℕ → Req
    stored-to i = behind_stores shape.align run buf q i

    wants-store : (i : ℕ) → i < run.n → Wants shape.align (stored-to i) (Stripe (stripe_of run.b) (run_store_at shape.align run.b run.k run.at buf i))
    wants-store i below =
        subst (λ (r : Req). Wants shape.align r (Stripe (stripe_of run.b) (run_store_at shape.align run.b run.k run.at buf i)))
        (sym (stores-before shape.align q run buf some is i below)) (
          block_in shape.align run.at buf i,
          (
            block-whole buf i whole below,
            (
              ap (λ s. Stripe s (run_store_at shape.align run.b run.k run.at buf i)) (same-stripe i below),
              merged i below,
            ),
          ),
        )

    still : (reply : StripeReply) (i : ℕ) → i < run.n
        → (IsReady (followed shape.align (record q { stage = In run.k (ToStore (run.b + i)) }) (ByStripe reply)).stage → ⊥)
        → IsReady (followed shape.align (stored-to i) (ByStripe reply)).stage → ⊥
    still reply i below =
        subst (λ (r : Req). IsReady (followed shape.align r (ByStripe reply)).stage → ⊥) (sym (stores-before shape.align q run buf some is i below))

    stores-one : (i : ℕ) → i < run.n → (v w : StripeValue) → StoredAt shape.align run.b run.k run.at buf i v w
        → DoesOne shape (stripe_of run.b) (note_for StoreKind (run.b + i) told.Done) (both (stored-to i) v) (both (stored-to (suc i)) w)
    stores-one i below v w row = record {
      op = run_store_at shape.align run.b run.k run.at buf i;
      reply = Done (block_in shape.align run.at buf i);
      wants = wants-store i below;
      fits = (block-fits i below, place, block-whole buf i whole below);
      answers_op = row;
      follows = refl;
      on = still (Done (block_in shape.align run.at buf i)) i below (λ h. h);
      is_told = refl;
    }

    stores-front : (i : ℕ) → i ≤ run.n → (v w : StripeValue) → InOrder (StoredAt shape.align run.b run.k run.at buf) i v w
        → InOrder (λ j. GoesOn shape (stripe_of run.b)) i (both q v) (both (stored-to i) w)
    stores-front zero within v w steps = ap (both q) steps
    stores-front (suc i) within v w steps = (
      both (stored-to i) steps.0,
      (
        stores-front i (omega (arith, within)) v steps.0 steps.1.0,
        record {
          note = note_for StoreKind (run.b + i) told.Done;
          does = stores-one i (omega (arith, within)) steps.0 w steps.1.1;
          done = tt;
        },
      ),
    )

    pub stores-ran : (m : ℕ) → suc m ≡ run.n → (v w : StripeValue) → InOrder (StoredAt shape.align run.b run.k run.at buf) (suc m) v w
        → RanOut shape (stripe_of run.b) run.n (note_for StoreKind (run.b + m) told.Done) (both q v) (both (stored-to (suc m)) w)
    stores-ran m all v w steps = record {
      before = m;
      below = omega (arith, all);
      ends = (both (stored-to m) steps.0, (stores-front m (omega (arith, all)) v steps.0 steps.1.0, stores-one m (omega (arith, all)) steps.0 w steps.1.1));
      whole = λ _. all;
    }

    pub stores-end : (m : ℕ) → m < run.n → (v w : StripeValue)
        → EndsAt (StoredAt shape.align run.b run.k run.at buf) (NotStored shape.align run.b run.k run.at buf) m v w
        → RanOut shape (stripe_of run.b) run.n (note_for StoreKind (run.b + m) told.Fault) (both q v)
        (both (followed shape.align (stored-to m) (ByStripe (Fault (Some (block_in shape.align run.at buf m))))) w)
    stores-end m below v w steps = record {
      before = m;
      below = below;
      ends = (
        both (stored-to m) steps.0,
        (
          stores-front m (omega (arith, below)) v steps.0 steps.1.0,
          record {
            op = run_store_at shape.align run.b run.k run.at buf m;
            reply = Fault (Some (block_in shape.align run.at buf m));
            wants = wants-store m below;
            fits = (block-fits m below, place, block-whole buf m whole below);
            answers_op = steps.1.1;
            follows = refl;
            on = still (Fault (Some (block_in shape.align run.at buf m))) m below (λ h. h);
            is_told = refl;
          },
        ),
      );
      whole = λ none. absurd none;
    }

    pub stores-wait : (m j : ℕ) → m < run.n → (v w : StripeValue)
        → EndsAt (StoredAt shape.align run.b run.k run.at buf) (Waits shape.align run.b run.k run.at buf j) m v w
        → RanOut shape (stripe_of run.b) run.n (note_for StoreKind (run.b + m) (told.HeldBy j)) (both q v)
        (both (followed shape.align (stored-to m) (ByStripe (HeldBy j (block_in shape.align run.at buf m)))) w)
    stores-wait m j below v w steps = record {
      before = m;
      below = below;
      ends = (
        both (stored-to m) steps.0,
        (
          stores-front m (omega (arith, below)) v steps.0 steps.1.0,
          record {
            op = run_store_at shape.align run.b run.k run.at buf m;
            reply = HeldBy j (block_in shape.align run.at buf m);
            wants = wants-store m below;
            fits = (block-fits m below, place, block-whole buf m whole below);
            answers_op = steps.1.1;
            follows = refl;
            on = still (HeldBy j (block_in shape.align run.at buf m)) m below (λ h. h);
            is_told = refl;
          },
        ),
      );
      whole = λ none. absurd none;
    }

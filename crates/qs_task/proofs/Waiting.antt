-- The answers for which a request waits, and the model's waits.
use Rattle.std.proofs.Common.{◌≡◌, ◌↔◌, true, false, refl}
use Rattle.qs_part.specs.declared.stripe.StripeReply.{StripeReply}
use Rattle.qs_part.specs.declared.stripe.StripeReply.TheVariants.{HeldBy, Taken, NotHeld}
use Rattle.qs_part.specs.declared.tracker.TrackerReply.{TrackerReply}
use Rattle.qs_part.specs.declared.tracker.TrackerReply.TheVariants.{Quiesced, Full, NotYet, Strange}
use Rattle.qs_model.specs.Acts.{Wait, Quiesced as WasQuiesced, Full as WasFull, NotYet as WasNotYet, HeldBy as WasHeldBy, Taken as WasTaken, Strange as WasStrange, NotHeld as WasNotHeld}
use Rattle.qs_request.specs.declared.todo.PartReply.{PartReply}
use Rattle.qs_request.specs.declared.todo.PartReply.TheVariants.{Tracker, Graph, Stripe}
use Rattle.qs_request.specs.Rows.{IsWait}
use Rattle.qs_task.specs.Walks.{is_wait}

never : false ≡ true → ⊥
never e = cc

tracker_row : (reply : TrackerReply) → is_wait (Tracker reply) ≡ true → (wait : Wait) × IsWait (Tracker reply) wait
tracker_row Quiesced e = (WasQuiesced, tt)
tracker_row Full e = (WasFull, tt)
tracker_row (NotYet n) e = (WasNotYet n, refl)
tracker_row Strange e = (WasStrange, tt)
tracker_row _ e = absurd (never e)

stripe_row : (reply : StripeReply) → is_wait (Stripe reply) ≡ true → (wait : Wait) × IsWait (Stripe reply) wait
stripe_row (HeldBy j buf) e = (WasHeldBy j, refl)
stripe_row (Taken b buf) e = (WasTaken b, refl)
stripe_row NotHeld e = (WasNotHeld, tt)
stripe_row _ e = absurd (never e)

to_row : (reply : PartReply) → is_wait reply ≡ true → (wait : Wait) × IsWait reply wait
to_row (Tracker reply) e = tracker_row reply e
to_row (Graph reply) e = absurd (never e)
to_row (Stripe reply) e = stripe_row reply e

of_tracker : (reply : TrackerReply) (wait : Wait) → IsWait (Tracker reply) wait → is_wait (Tracker reply) ≡ true
of_tracker Quiesced wait is = refl
of_tracker Full wait is = refl
of_tracker (NotYet n) wait is = refl
of_tracker Strange wait is = refl
of_tracker _ wait is = absurd is

of_stripe : (reply : StripeReply) (wait : Wait) → IsWait (Stripe reply) wait → is_wait (Stripe reply) ≡ true
of_stripe (HeldBy j buf) wait is = refl
of_stripe (Taken b buf) wait is = refl
of_stripe NotHeld wait is = refl
of_stripe _ wait is = absurd is

of_row : (reply : PartReply) (wait : Wait) → IsWait reply wait → is_wait reply ≡ true
of_row (Tracker reply) wait is = of_tracker reply wait is
of_row (Graph reply) wait is = absurd is
of_row (Stripe reply) wait is = of_stripe reply wait is

pub rows_of_waits : (reply : PartReply) → (is_wait reply ≡ true) ↔ ((wait : Wait) × IsWait reply wait)
rows_of_waits reply = (to_row reply, λ w. of_row reply w.0 w.1)

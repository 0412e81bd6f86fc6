-- A request that has its answer gives it at its next step.
use Rattle.std.proofs.Common.{◌≡◌, ℕ, List, Bool, refl, sym, ap, ◌∙◌}
use Rattle.std.specs.Prelude.{Some, None}
use Rattle.std.specs.List.{remove}
use Rattle.qs_bytes.specs.declared.ask.Verdict.{Verdict}
use Rattle.qs_outside.specs.Blocks.{Seen}
use Rattle.qs_part.specs.declared.event.Outcome.TheVariants.{Answered}
use Rattle.qs_part.specs.declared.stripe.StripeOp.TheVariants.{Load as LoadOp, Hold as HoldOp, Store as StoreOp, Free as FreeOp, Sync as SyncOp}
use Rattle.qs_part.specs.declared.tracker.TrackerOp.TheVariants.{Enter as EnterOp, List as ListOp, Start as StartOp, End as EndOp}
use Rattle.qs_bytes.specs.Spans.{aligned_out}
use Rattle.qs_model.specs.Requests.{Client, Pads, Stage, ToRoute, ToList, ToStart, ToLoad, ToHold, ToStore, ToSync, ToFree, ToEnd, Ready, Entering, In, edge, span_of, serial}
use Rattle.qs_tracker.specs.Table.{TrackerValue}
use Rattle.qs_model.specs.Worlds.{Image, World}
use Rattle.qs_bytes.specs.Geometry.{stripe_of}
use Rattle.qs_model.specs.Acts.{block_of, Act, Answers, Did}
use Rattle.qs_model.specs.Guards.{MayDo}
use Rattle.qs_outside.specs.declared.rigged_disk.Plans.{Plans}
use Rattle.qs_model.specs.Steps.{moved, tracked, imaged, plans_spent}
use Rattle.qs_stripe.specs.Table.{StripeValue}
use Rattle.qs_model.specs.Events.{row_outcome}
use Rattle.qs_request.specs.declared.todo.Todo.TheVariants.{Tracker as OnTracker, Route as OnRoute, Stripe as OnStripe, Answer}
use Rattle.qs_request.specs.Table.{WantsAt}
use Rattle.qs_world.specs.declared.live.Live.{Live}
use Rattle.qs_world.specs.Cores.{StepsRequest}
use Rattle.qs_world.specs.Events.{Does, IsRowAsPlanned}
use Rattle.qs_world.specs.Images.{stripe_at}
use Rattle.qs_world.specs.Follows.{IsElement}
use Rattle.qs_world.specs.Sound.{IsSound}
use Rattle.qs_world.specs.Values.{WorldValue, stripes_of}
use Rattle.qs_world.proofs.SameDisks.{uncalled}
use Rattle.qs_world.proofs.Answering.{Others, Listed, req, was_answered, found, stays_sound}
use Rattle.qs_world.proofs.Doing.{did_does}

-- the row of an answer
pub record AnswerRow (A : ℕ) (c : Client) (d : Bool) (p : Pads) (stage : Stage) (v : Verdict) : Type 0 where
  pub act : Act stage
  pub outcome_is : row_outcome A c d act ≡ Some (Answered v None)
  pub gone : moved A c d p act ≡ None
  pub guard : (w : World) → MayDo A w c p act
  pub tracks : (t : TrackerValue) → tracked A t c act ≡ t
  pub images : (i : Image) → imaged A i c act ≡ i
  pub plans : (q : ℕ → Plans) → plans_spent A q c act ≡ q
  pub as_planned : (s : ℕ → StripeValue) → IsRowAsPlanned s act
  pub off : block_of A c act ≡ None

pub answer_row : (A : ℕ) (c : Client) (d : Bool) (p : Pads) (stage : Stage) (v : Verdict) → WantsAt A c p stage (Answer v) → AnswerRow A c d p stage v
answer_row A c d p (Ready u) v w = record {
  act = Answers;
  outcome_is = ap (λ (x : Verdict). Some (Answered x None)) (same u v w);
  gone = refl;
  guard = λ m. tt;
  tracks = λ t. refl;
  images = λ i. refl;
  plans = λ q. refl;
  as_planned = λ s. tt;
  off = refl;
}
  where
    same : (x y : Verdict) → Answer y ≡ Answer x → x ≡ y
    same x y e = cc
answer_row A c d p Entering v w = let e : Answer v ≡ OnTracker EnterOp = w in absurd (cc)
answer_row A c d p (In k ToRoute) v w = let e : Answer v ≡ OnRoute c.export = w in absurd (cc)
answer_row A c d p (In k ToList) v w = let e : Answer v ≡ OnTracker (ListOp k (aligned_out (span_of c) A) (serial A c)) = w in absurd (cc)
answer_row A c d p (In k ToStart) v w = let e : Answer v ≡ OnTracker (StartOp k) = w in absurd (cc)
answer_row A c d p (In k (ToLoad b got)) v w = let e : Answer v ≡ OnStripe (stripe_of b) (LoadOp b k w.0) = w.1.1 in absurd (cc)
answer_row A c d p (In k (ToHold side)) v w = let e : Answer v ≡ OnStripe (stripe_of (edge A c side)) (HoldOp (edge A c side) k side w.0) = w.1.1 in absurd (cc)
answer_row A c d p (In k (ToStore b)) v w = let e : Answer v ≡ OnStripe (stripe_of b) (StoreOp b k w.0) = w.1.1.0 in absurd (cc)
answer_row A c d p (In k (ToSync n)) v w = let e : Answer v ≡ OnStripe n SyncOp = w in absurd (cc)
answer_row A c d p (In k (ToFree side)) v w = let e : Answer v ≡ OnStripe (stripe_of (edge A c side)) (FreeOp (edge A c side) k) = w in absurd (cc)
answer_row A c d p (In k (ToEnd u)) v w = let e : Answer v ≡ OnTracker (EndOp k) = w in absurd (cc)

pub answer_steps : {D : Type 0} (seen : D → Seen) (old : WorldValue D) (at : ℕ) (l : Live) (v : Verdict) (requests : List Live) →
    IsSound seen old → IsElement old.requests at l → WantsAt old.shape.align (req l).client (req l).pads (req l).stage (Answer v) →
    requests ≡ remove old.requests at → StepsRequest seen old l.number (Answered v None) (record old { requests = requests })
answer_steps {D = D} seen old at l v requests sound e wants is =
    let new : WorldValue D = record old { requests = requests } in
    let r = answer_row old.shape.align (req l).client (req l).dropped (req l).pads (req l).stage v wants in
    let list : Listed old l r.act (Answered v None) requests =
    was_answered old at l r.act v None requests sound.requests sound.numbers e r.gone r.outcome_is is in
    let others : Others seen old new = record {
      leaves = record { shape = refl; next = refl; sessions = refl; graph = refl; tells = refl };
      count = sound.count;
      stripes = sound.stripes;
      seats = sound.seats;
    } in
    let does : Does seen old (Did l.number (req l) r.act) new =
    did_does seen old new l.number (req l) r.act (found old at l sound.numbers e) others.leaves (λ m stands. r.guard m)
    (r.tracks old.tracker) (λ i stands. rw (r.images i) stands)
    (λ q stands. rw (r.plans q) stands) list.model in
    record {
      element = Did l.number (req l) r.act;
      answers_event = λ now. refl;
      outcome_is = list.outcome_is;
      does = does;
      as_planned = r.as_planned (stripe_at (stripes_of seen old));
      inside = λ b is. let no : None ≡ Some b = sym r.off ∙ is in absurd (cc);
      shape_kept = refl;
      cause = uncalled seen old new (Answered v None) refl tt;
      sound = stays_sound seen old new l.number (req l) r.act sound others list.idle list.apart does;
    }

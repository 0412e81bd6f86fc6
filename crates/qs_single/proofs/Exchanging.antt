-- A request that was asked and answered is an exchange.
use Rattle.std.proofs.Common.{◌≡◌, ℕ, Bool, true, List, [], ◌∷◌, ap, ◌∙◌, sym, subst}
use Rattle.std.specs.Prelude.{Option}
use Rattle.qs_bytes.specs.declared.ask.Ask.{Ask}
use Rattle.qs_bytes.specs.declared.ask.Verdict.{Verdict}
use Rattle.qs_outside.specs.Blocks.{Seen}
use Rattle.qs_part.specs.declared.event.Actor.TheVariants.{Request as ARequest}
use Rattle.qs_part.specs.declared.event.Event.TheVariants.{Ask as AskEvent, Step}
use Rattle.qs_part.specs.declared.event.Note.{Note}
use Rattle.qs_part.specs.declared.event.Outcome.TheVariants.{Answered, Made}
use Rattle.qs_bytes.specs.Geometry.{stripe_of}
use Rattle.qs_image.specs.Image.{AllTell, align_of, block_now, block_past, size_of}
use Rattle.qs_image.specs.Opening.{IsImage}
use Rattle.qs_stripe.specs.Table.{StripeValue}
use Rattle.qs_world.specs.Images.{stripe_at}
use Rattle.qs_world.specs.Running.{meant}
use Rattle.qs_world.specs.Values.{WorldValue, disks_of}
use Rattle.qs_world.proofs.Meant.{meant_disks, meant_stands, meant_stripes, own, stands_meant}
use Rattle.qs_single.specs.Remaining.{IsCleanSettled, Outlasts}
use Rattle.qs_single.specs.Service.{Called, MayGet}
use Rattle.qs_calls.specs.Calls.{Call, Happened, Plays}
use Rattle.qs_calls.specs.Goings.{RunsOut}
use Rattle.qs_single.specs.Resting.{Exchanged, IsBody, IsResting}
use Rattle.qs_single.proofs.Answering.{Ran, called, its_events, may_get, next_is, ran, rests_again}
use Rattle.qs_single.proofs.Outlasting.{outlasts}
use Rattle.qs_single.proofs.Walking.{AreEvents}

-- a core that rests, by what its disks mean
pub rests_meant : {D : Type 0} (seen : D → Seen) (session : ℕ) (writable : Bool) (w : WorldValue D) → IsResting seen session writable w → IsResting own session writable (meant seen w)
rests_meant seen session writable w rests =
    let same = sym (meant_disks seen w) in
    record {
      opened = rests.opened;
      steps = rests.steps;
      run = rests.run;
      stands = meant_stands seen w _ rests.stands;
      idle = rests.idle;
      place = rests.place;
      live = rests.live;
      export = rests.export;
      is = rests.is;
      leave = rests.leave;
      image = subst IsImage same rests.image;
      align = rests.align ∙ ap align_of same;
      size = rests.size ∙ ap size_of same;
    }

rests_back : {D : Type 0} (seen : D → Seen) (session : ℕ) (writable : Bool) (w : WorldValue D) → IsResting own session writable (meant seen w) → IsResting seen session writable w
rests_back seen session writable w rests =
    let same = meant_disks seen w in
    record {
      opened = rests.opened;
      steps = rests.steps;
      run = rests.run;
      stands = stands_meant seen w _ rests.stands;
      idle = rests.idle;
      place = rests.place;
      live = rests.live;
      export = rests.export;
      is = rests.is;
      leave = rests.leave;
      image = subst IsImage same rests.image;
      align = rests.align ∙ ap align_of same;
      size = rests.size ∙ ap size_of same;
    }

clean_meant : {D : Type 0} (seen : D → Seen) (w : WorldValue D) → IsCleanSettled seen w → IsCleanSettled own (meant seen w)
clean_meant seen w clean b is =
    subst (λ (ds : List Seen). block_past ds b ≡ block_now ds b ∷ []) (sym (meant_disks seen w))
    (clean b (subst (λ (vs : List StripeValue). (stripe_at vs (stripe_of b)).clean ≡ true) (meant_stripes seen w) is))

clean_back : {D : Type 0} (seen : D → Seen) (w : WorldValue D) → IsCleanSettled own (meant seen w) → IsCleanSettled seen w
clean_back seen w clean b is =
    subst (λ (ds : List Seen). block_past ds b ≡ block_now ds b ∷ []) (meant_disks seen w)
    (clean b (subst (λ (vs : List StripeValue). (stripe_at vs (stripe_of b)).clean ≡ true) (sym (meant_stripes seen w)) is))

-- and it is an exchange, behind which the core rests
pub exchanged : {D : Type 0} (seen : D → Seen) (session : ℕ) (writable : Bool) (a : Ask) (given : List ℕ) (body : Option (List ℕ)) (now : ℕ) (w w' : WorldValue D) (number : ℕ) (steps : List Call) (v : Verdict) (note : Option Note) →
    IsResting seen session writable w → IsBody a given body → RunsOut (Step (ARequest number) now) steps (Answered v note) →
    Plays own (meant seen w) (Happened (AskEvent session a body) (Made number) ∷ steps) (meant seen w') →
    Exchanged seen session writable a given body now w v w' × IsResting seen session writable w'
exchanged {D} seen session writable a given body now w w' number steps v note rests_here is_body out plays =
    let u = meant seen w in
    let u' = meant seen w' in
    let rests = rests_meant seen session writable w rests_here in
    let is = ran own session writable a body now u u' number steps (Answered v note) rests out plays in
    let calls : List Call = Happened (AskEvent session a body) (Made number) ∷ steps in
    let t : Ran own session a body u rests.opened rests.steps number calls v u' =
    subst (λ (x : Verdict). Ran own session a body u rests.opened rests.steps number calls x u') (sym (one is.0 is.1 is.2.0)) is.2.1 in
    let events : AreEvents calls = its_events session a body number now steps (Answered v note) out in
    let last = outlasts own session writable a given body u number calls v u' rests is_body events t in (
      record {
        may = subst (λ (ds : List Seen). MayGet (size_of ds) writable a v) (meant_disks seen w) (may_get own session writable a given body u number calls v u' rests is_body events t);
        number = number;
        steps = steps;
        note = note;
        ran = out;
        plays = plays;
        called = subst (λ (ds : List Seen). Called ds a given v (disks_of seen w')) (meant_disks seen w)
            (subst (λ (ds : List Seen). Called (disks_of own u) a given v ds) (meant_disks seen w') (called own session writable a given body u number calls v u' rests is_body events t));
        outlasts = λ told clean.
            let behind = last (subst AllTell (sym (meant_disks seen w)) told) (clean_meant seen w clean) in (
              subst (λ (ds : List Seen). Outlasts ds a given v (disks_of seen w')) (meant_disks seen w)
                  (subst (λ (ds : List Seen). Outlasts (disks_of own u) a given v ds) (meant_disks seen w') behind.0),
              clean_back seen w' behind.1,
            );
        next = next_is own session writable a given body u number calls v u' rests is_body events t;
      },
      rests_back seen session writable w' (rests_again own session writable a given body u number calls v u' rests is_body events t),
    )
  where
    one : (x : Verdict) (n : Option Note) → Answered v note ≡ Answered x n → v ≡ x
    one x n e = cc

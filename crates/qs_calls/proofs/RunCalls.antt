-- Runs of whole blocks as calls of the core, over disks that are their meaning.
use Rattle.std.proofs.Common.{◌≡◌, ℕ, zero, suc, ◌<◌, ◌≤◌, List, [], ◌∷◌, ◌++◌, true, refl, sym, subst, arith}
use Rattle.std.specs.Prelude.{All}
use Rattle.std.proofs.lemmas.List.Elements.{All-append, All-nil}
use Rattle.std.proofs.lemmas.List.{append_assoc}
use Rattle.qs_outside.specs.Blocks.{Seen}
use Rattle.qs_outside.specs.Runs.{EndsAt, InOrder}
use Rattle.qs_part.specs.declared.event.Actor.TheVariants.{Request as ARequest}
use Rattle.qs_part.specs.declared.event.Event.{Event}
use Rattle.qs_part.specs.declared.event.Event.TheVariants.{Step as StepEvent}
use Rattle.qs_part.specs.declared.event.NoteReply.{NoteReply}
use Rattle.qs_part.specs.declared.event.NoteReply.TheVariants as reply
use Rattle.qs_part.specs.declared.event.Outcome.{Outcome}
use Rattle.qs_part.specs.declared.event.Outcome.TheVariants.{NotNext, Memory, Moved}
use Rattle.qs_part.specs.declared.event.StripeNote.TheVariants as stripe
use Rattle.qs_model.specs.Worlds.{World}
use Rattle.qs_request.specs.RunSteps.{IsDone}
use Rattle.qs_world.specs.Events.{IsNotNext}
use Rattle.qs_world.specs.Running.{OneStep, Repeats, RepeatsTo, meant}
use Rattle.qs_world.specs.Running.{GoesOn as StepGoes}
use Rattle.qs_world.specs.Stands.{Stands}
use Rattle.qs_world.specs.Values.{WorldValue}
use Rattle.qs_world.proofs.Meant.{meant_stands, own}
use Rattle.qs_calls.specs.Calls.{Call, Happened, Plays}
use Rattle.qs_calls.specs.Goings.{GoesOn, goes_on, moves_on}
use Rattle.qs_calls.specs.Ranks.{rank_at}
use Rattle.qs_calls.proofs.Falling.{falls}
use Rattle.qs_calls.proofs.Goings.{goes_more}
use Rattle.qs_calls.proofs.Plays.{plays_more, plays_one}

-- what was done lets its actor go on
done_moves : (r : NoteReply) → IsDone r → moves_on r ≡ true
done_moves (reply.Stripe stripe.Filled) done = refl
done_moves (reply.Stripe stripe.Done) done = refl
done_moves _ done = absurd done

-- the calls of steps that were done
record Front (event : Event) (w v : WorldValue Seen) : Type 0 where
  pub calls : List Call
  pub on : All (GoesOn event) calls
  pub plays : Plays own w calls v

front_of : (event : Event) (n : ℕ) (w v : WorldValue Seen) → InOrder (λ i. StepGoes event) n w v → Front event w v
front_of event zero w v steps = record { calls = []; on = All-nil (GoesOn event); plays = steps }
front_of event (suc n) w v steps =
    let before = front_of event n w steps.0 steps.1.0 in
    let last = steps.1.1 in
    let one : List Call = Happened event (Moved last.note) ∷ [] in
    record {
      calls = before.calls ++ one;
      on = goes_more event (Moved last.note) before.calls before.on (done_moves last.note.reply last.done);
      plays = plays_more own w before.calls steps.0 one v before.plays (plays_one own steps.0 (Happened event (Moved last.note)) v last.step);
    }

-- an event that came some times
pub repeated : {D : Type 0} (seen : D → Seen) (old : WorldValue D) (event : Event) (out : Outcome) (new : WorldValue D) → (out ≡ NotNext → ⊥) → (out ≡ Memory → ⊥) →
    RepeatsTo seen old event out new → Repeats seen old event out new
repeated seen old event NotNext new next room repeats = absurd (next refl)
repeated seen old event Memory new next room repeats = absurd (room refl)
repeated seen old event _ new next room repeats = repeats

pub calls_of : {D : Type 0} (seen : D → Seen) (old : WorldValue D) (event : Event) (out : Outcome) (new : WorldValue D) → Repeats seen old event out new →
    (front : List Call) × (All (GoesOn event) front × Plays own (meant seen old) (front ++ Happened event out ∷ []) (meant seen new))
calls_of seen old event out new repeats =
    let ends = repeats.1 in
    let front = front_of event repeats.0 (meant seen old) ends.0 ends.1.0 in (
      front.calls,
      (
        front.on,
        plays_more own (meant seen old) front.calls ends.0 (Happened event out ∷ []) (meant seen new) front.plays
            (plays_one own ends.0 (Happened event out) (meant seen new) ends.1.1),
      ),
    )

-- each of them leads to a lower rank
record Lower (event : Event) (w v : WorldValue Seen) : Type 0 where
  pub model : World
  pub stands : Stands own v model
  pub rank : rank_at v event ≤ rank_at w event

lower_front : (event : Event) (n : ℕ) (w v : WorldValue Seen) (m : World) → Stands own w m → InOrder (λ i. StepGoes event) n w v → Lower event w v
lower_front event zero w v m stands steps =
    subst (λ (x : WorldValue Seen). Lower event w x) (sym steps) (record { model = m; stands = stands; rank = omega arith })
lower_front event (suc n) w v m stands steps =
    let before = lower_front event n w steps.0 m stands steps.1.0 in
    let last = steps.1.1 in
    let less = falls own steps.0 event (Moved last.note) v before.model before.stands last.step.0 (done_moves last.note.reply last.done) in
    record {
      model = _;
      stands = (last.step.0.does before.model before.stands).1;
      rank = omega (arith, less.0, before.rank);
    }

pub falls_behind : {D : Type 0} (seen : D → Seen) (old new : WorldValue D) (r now : ℕ) (out : Outcome) (m : World) → Stands seen old m →
    Repeats seen old (StepEvent (ARequest r) now) out new → goes_on out ≡ true →
    (rank_at new (StepEvent (ARequest r) now) < rank_at old (StepEvent (ARequest r) now)) × (IsNotNext new (StepEvent (ARequest r) now) → ⊥)
falls_behind seen old new r now out m stands repeats on =
    let ends = repeats.1 in
    let event : Event = StepEvent (ARequest r) now in
    let front = lower_front event repeats.0 (meant seen old) ends.0 m (meant_stands seen old m stands) ends.1.0 in
    let less = falls own ends.0 event out (meant seen new) front.model front.stands ends.1.1.0 on in
    (omega (arith, less.0, front.rank), less.1)

-- more calls that go on
pub goes_with : (event : Event) (front : List Call) (o : Outcome) (more : List Call) → All (GoesOn event) front → goes_on o ≡ true → All (GoesOn event) more →
    All (GoesOn event) ((front ++ Happened event o ∷ []) ++ more)
goes_with event front o more on goes then =
    All-append (GoesOn event) (front ++ Happened event o ∷ []) more (goes_more event o front on goes) then

pub plays_with : (event : Event) (w mid v : WorldValue Seen) (front : List Call) (more : List Call) (last : Outcome) → Plays own w front mid →
    Plays own mid (more ++ Happened event last ∷ []) v → Plays own w ((front ++ more) ++ Happened event last ∷ []) v
plays_with event w mid v front more last first then =
    subst (λ (cs : List Call). Plays own w cs v) (sym (append_assoc front more (Happened event last ∷ [])))
    (plays_more own w front mid (more ++ Happened event last ∷ []) v first then)

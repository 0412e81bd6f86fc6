-- Options that are answered, or whose answers are lost.
use Rattle.std.proofs.Common.{◌≡◌, ℕ, List, [], ◌∷◌, ◌++◌, refl, sym, ap, ◌∙◌, subst, append-nil}
use Rattle.std.specs.Prelude.{Option, Some, None, IsSome, Result, Ok, Err}
use Rattle.std.specs.Result.{IsErr}
use Rattle.qs_bytes.specs.declared.ask.Mode.{Mode}
use Rattle.qs_bytes.specs.declared.memory.Memory.{Memory}
use Rattle.qs_nbd_handshake.specs.Answers.{CanTell, hand_step_of, phase_behind, reader_behind, text_of}
use Rattle.qs_nbd_handshake.specs.Phases.{Asked, Phase, Reader}
use Rattle.qs_nbd_handshake.specs.Wishes.{want_of}
use Rattle.qs_nbd_handshake.specs.declared.event.HandStep.{HandStep}
use Rattle.qs_nbd_handshake.specs.declared.event.HandStep.TheVariants.{Stay, Transmit}
use Rattle.qs_nbd_handshake.specs.declared.event.Told.{Told}
use Rattle.qs_nbd_handshake.specs.declared.event.Want.{Want}
use Rattle.qs_nbd_handshake.specs.declared.wish.Wish.{Wish}
use Rattle.qs_part.specs.declared.graph.GraphOp.{GraphOp}
use Rattle.qs_part.specs.declared.graph.GraphReply.{GraphReply}
use Rattle.qs_serving.specs.Graphs.{GraphMay, graph_noted}
use Rattle.qs_status.specs.declared.status.SessionEnd.TheVariants as end
use Rattle.qs_task.specs.Books.{Book}
use Rattle.qs_wire_stream.specs.Pending.{WireBuffers}
use Rattle.qs_handshake_phase.specs.declared.asking.Telling.{Telling}
use Rattle.qs_handshake_phase.specs.declared.end.HandshakeEnd.{HandshakeEnd}
use Rattle.qs_handshake_phase.specs.declared.end.HandshakeEnd.TheVariants as over
use Rattle.qs_handshake_phase.specs.Asks.{AnswersOption, AsksFor, Joined, LeavesExport, LosesAll, PutsAnswer, TellsAll}
use Rattle.qs_handshake_phase.specs.Greetings.{OptionAnswered, OptionLost, StandsAfter}
use Rattle.qs_handshake_phase.specs.Scenes.{FeedsOn, stand_of}
use Rattle.qs_handshake_phase.specs.Tellings.{LosesFor, OwnCall, TellsFor, client_by, noted_calls, op_for, told_by}
use Rattle.qs_handshake_phase.proofs.Running.{noted_append}
use Rattle.qs_handshake_phase.proofs.Telling.{call_tells, left_loses, reply_can, reply_joins, transmit_joined}

pub asks_err : (want : Want) (r : Result Telling Memory) (old new : Book) → IsErr r → LosesAll want old new → AsksFor want r old new
asks_err want (Ok telling) old new is loses = absurd (cc)
asks_err want (Err e) old new is loses = loses

no_calls : (calls : List OwnCall) (old new : Book) → new ≡ noted_calls calls old → new ≡ noted_calls (calls ++ []) old
no_calls calls old new is = is ∙ ap (λ (cs : List OwnCall). noted_calls cs old) (sym (append-nil calls))

-- an answer was lost
pub lost_answers : {W : Type 0} (old new : Reader) (before after : WireBuffers W) (book book' : Book) (wish : Wish) (want : Want)
    (calls : List OwnCall) → old.phase ≡ Asked wish → want ≡ want_of wish → LosesFor want calls → book' ≡ noted_calls calls book →
    after ≡ record before { room = after.room } →
    AnswersOption old before book (Some (over.Closed end.Memory)) new after book'
lost_answers {W} old new before after book book' wish want calls asked wants loses booked same = record {
  event = OptionLost calls;
  answer = tt;
  step = record {
    reader = old;
    wish = wish;
    talks = refl;
    asked = asked;
    loses = subst (λ (w : Want). LosesFor w calls) wants loses;
    is = refl;
  };
  stream = same ∙ ap (λ (xs : List ℕ). record before { held = xs; room = after.room }) (sym (append-nil before.held));
  booked = no_calls calls book book' booked;
  feeds = tt;
}

-- where it was refused behind what was asked, the export is left again
pub left_answers : {W : Type 0} (old new : Reader) (before after : WireBuffers W) (book mid book' : Book) (wish : Wish) (want : Want)
    (telling : Telling) → old.phase ≡ Asked wish → want ≡ want_of wish → TellsAll want telling book mid → LeavesExport telling.client mid book' →
    after ≡ record before { room = after.room } →
    AnswersOption old before book (Some (over.Closed end.Memory)) new after book'
left_answers {W} old new before after book mid book' wish want telling asked wants tells leaves same =
    lost_answers old new before after book book' wish want (tells.calls ++ leaves.calls) asked wants
    (left_loses want (op_for want) tells.calls leaves.calls telling.told telling.client tells.tells leaves.left)
    (leaves.booked ∙ ap (λ (b : Book). noted_calls leaves.calls b) tells.booked ∙ sym (noted_append tells.calls leaves.calls book))
    same

stays_feeds : (o : Option HandshakeEnd) (step : HandStep) (new : Reader) → (o ≡ None → step ≡ Stay) → new.phase ≡ phase_behind step →
    FeedsOn o new.phase
stays_feeds None step new stays is = subst (λ (p : Phase). FeedsOn None p) (sym (is ∙ ap phase_behind (stays refl))) tt
stays_feeds (Some o) step new stays is = tt

-- an answer was put
pub put_answers : {W : Type 0} (old new : Reader) (before after : WireBuffers W) (book book' : Book) (wish : Wish) (want : Want)
    (telling : Telling) (step : HandStep) (o : Option HandshakeEnd) → old.phase ≡ Asked wish → want ≡ want_of wish →
    TellsAll want telling book book' → PutsAnswer wish telling.told (Ok step) old before new after →
    ((reader : Reader) → StandsAfter step reader telling.client (stand_of reader o)) → (o ≡ None → step ≡ Stay) →
    AnswersOption old before book o new after book'
put_answers {W} old new before after book book' wish want telling step o asked wants tells puts stands stays = record {
  event = OptionAnswered tells.calls telling.told (text_of old.terms.mode wish telling.told);
  answer = tt;
  step = record {
    reader = old;
    wish = wish;
    client = telling.client;
    talks = refl;
    asked = asked;
    tells = subst (λ (w : Want). TellsFor w tells.calls telling.told telling.client) wants tells.tells;
    can = subst (λ (w : Want). CanTell w telling.told) wants tells.can;
    text_is = refl;
    stands = subst (λ (s : HandStep). StandsAfter s (reader_behind old.terms wish telling.told) telling.client (stand_of new o)) puts.0
        (subst (λ (r : Reader). StandsAfter step r telling.client (stand_of new o)) puts.1 (stands new));
  };
  stream = puts.2 ∙ ap (λ (xs : List ℕ). record before { held = before.held ++ xs; room = after.room })
      (sym (append-nil (text_of old.terms.mode wish telling.told)));
  booked = no_calls tells.calls book book' tells.booked;
  feeds = stays_feeds o step new stays (ap (λ (r : Reader). r.phase) puts.1 ∙ ap phase_behind (sym puts.0));
}

-- requests follow only where the session is a client
pub transmits : (wish : Wish) (want : Want) (telling : Telling) (mode after : Mode) (step : HandStep) (old new : Book) →
    want ≡ want_of wish → TellsAll want telling old new → step ≡ hand_step_of mode wish telling.told → step ≡ Transmit after →
    IsSome telling.client
transmits wish want telling mode after step old new wants tells is step_is =
    transmit_joined mode after wish telling.told telling.client
    (subst (λ (w : Want). Joined w telling.told telling.client) wants tells.joined) (sym is ∙ step_is)

-- a call was made, and memory was refused for what it told
pub lost_call : (want : Want) (o : GraphOp) (r : GraphReply) (old new : Book) → op_for want ≡ Some o → client_by r ≡ None →
    new ≡ graph_noted o r old → LosesAll want old new
lost_call want o r old new is none booked = record {
  calls = record { op = o; reply = r } ∷ [];
  loses = (is, none);
  booked = booked;
}

-- a call was made, and this is told
pub told_call : (want : Want) (o : GraphOp) (r : GraphReply) (told : Told) (client : Option ℕ) (old new : Book) → op_for want ≡ Some o →
    GraphMay o r → told ≡ told_by r → client ≡ client_by r → new ≡ graph_noted o r old →
    TellsAll want (record { told = told; client = client }) old new
told_call want o r told client old new is may told_is client_is booked =
    subst (λ (t : Told). TellsAll want (record { told = t; client = client }) old new) (sym told_is)
    (subst (λ (x : Option ℕ). TellsAll want (record { told = told_by r; client = x }) old new) (sym client_is) (record {
      calls = record { op = o; reply = r } ∷ [];
      tells = call_tells want o r is;
      can = reply_can want o r is may;
      joined = reply_joins want o r is may;
      booked = booked;
    }))

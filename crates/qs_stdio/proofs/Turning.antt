-- A request and its data make one exchange.
use Rattle.std.proofs.Common.{◌≡◌, ℕ, ◌<◌, inr, Bool, true, false, List, [], ◌∷◌, ◌++◌, length, refl, sym, ap, ◌∙◌, subst, append-nil}
use Rattle.std.specs.Prelude.{Option, Some, Result, Ok, Err, if◌then◌else◌}
use Rattle.qs_bytes.specs.declared.ask.Ask.{Ask}
use Rattle.qs_status.specs.declared.status.Status.{Status}
use Rattle.qs_status.specs.declared.status.Status.TheVariants as status
use Rattle.qs_status.specs.declared.status.SessionEnd.TheVariants as end
use Rattle.qs_nbd_wire.specs.declared.request.RequestHead.{RequestHead}
use Rattle.qs_nbd_transmission.specs.declared.event.Room.{Room}
use Rattle.qs_nbd_transmission.specs.declared.event.Room.TheVariants.{Keep, Drop}
use Rattle.qs_nbd_wire.specs.Requests.{head_of, has_body}
use Rattle.qs_nbd_transmission.specs.Heads.{ask_of, has_data}
use Rattle.qs_nbd_transmission.specs.Phases.{Phase, Reader, InHead, Wants, IsServed, phase_with_room}
use Rattle.qs_nbd_transmission.specs.Replies.{reply_of}
use Rattle.qs_nbd_transmission.proofs.Reading.{has_data-ask_of}
use Rattle.qs_outside.specs.Blocks.{Seen}
use Rattle.qs_stream.specs.Buffers.{Buffers}
use Rattle.qs_stream.specs.Flows.{Flow, IsUsedUp, Moved, Side}
use Rattle.qs_stream.proofs.Moves.{moved_none, moved_on}
use Rattle.qs_stdio.specs.declared.session.Came.{Came}
use Rattle.qs_stdio.specs.declared.session.Came.TheVariants as came
use Rattle.qs_stdio.specs.declared.serve.Progress.{Progress}
use Rattle.qs_stdio.specs.declared.serve.Progress.TheVariants as progress
use Rattle.qs_stdio.specs.Service.{Exchange}
use Rattle.qs_stdio.specs.Calls.{Answers}
use Rattle.qs_stdio.specs.Scenes.{Scene, IsCutWrite, IsWholeMessage, Ending, Exchanges, Stops, disks_in}
use Rattle.qs_stdio.specs.Turns.{Answered, AnswersBare, AwaitsRoom, Brings, Comes, Finishes, HasRoom, IsData, ServesMessage, awaited, between}
use Rattle.qs_stream.specs.declared.state.State.TheVariants.{Open}
use Rattle.qs_world.specs.Values.{WorldValue}
use Rattle.qs_calls.specs.Calls.{Happened}
use Rattle.qs_part.specs.declared.event.Event.TheVariants.{Ask as AskEvent}
use Rattle.qs_part.specs.declared.event.Outcome.TheVariants.{Made}
use Rattle.qs_status.specs.declared.status.Status.TheVariants.{Ended}

-- how many bytes are awaited where room was given
by_room : (h : RequestHead) (room : Room) → awaited (phase_with_room (Wants h) room) ≡ h.size
by_room h (Keep buffer) = refl
by_room h (Drop count) = refl

pub data_awaited : (structured : Bool) (old new : Reader) (a : Ask) (room : Room) → AwaitsRoom structured old a → new ≡ record old { phase = phase_with_room old.phase room } →
    awaited new.phase ≡ a.length
data_awaited structured old new a room awaits is =
    ap (λ (r : Reader). awaited r.phase) is
    ∙ ap (λ (r : Reader). awaited (phase_with_room r.phase room)) awaits.1.0
    ∙ by_room awaits.0 room
    ∙ awaits.1.1

pub still_so : (structured : Bool) (old new : Reader) (a : Ask) (room : Room) → AwaitsRoom structured old a → new ≡ record old { phase = phase_with_room old.phase room } →
    new.structured ≡ structured
still_so structured old new a room awaits is = ap (λ (r : Reader). r.structured) is ∙ ap (λ (r : Reader). r.structured) awaits.1.0

-- data that stand in a room have its length
pub data_room : (taken : List ℕ) (size : ℕ) (room : Room) → IsData taken size room → HasRoom size room
data_room taken size (Keep whole) is = ap length is.0 ∙ is.1
data_room taken size (Drop count) is = is.0

pub data_length : (taken : List ℕ) (size : ℕ) (room : Room) → IsData taken size room → length taken ≡ size
data_length taken size (Keep whole) is = is.1
data_length taken size (Drop count) is = is.1

-- a request was answered behind its data
pub answered_in : {D : Type 0} (seen : D → Seen) (session : ℕ) (writable structured : Bool) (a : Ask) (body : List ℕ) (before : Scene D) (mid : Flow) (new : WorldValue D) (p : Side) (t : Buffers) →
    Moved body [] before.flow mid → Answers seen session writable structured a body before.world new mid.output mid.stream p t →
    Answered seen session writable structured a body before (record { flow = record { input = mid.input; output = p; stream = t }; world = new })
answered_in seen session writable structured a body before mid new p t moved answers =
    let after : Flow = record { input = mid.input; output = p; stream = t } in
    record {
      verdict = answers.verdict;
      does = answers.does;
      moved = subst (λ (taken : List ℕ). Moved taken (reply_of structured a answers.verdict) before.flow after) (append-nil body)
          (moved_on before.flow mid after body [] [] (reply_of structured a answers.verdict) moved (answers.puts.moved mid.input));
    }

-- the data of a message
body_length : (head : RequestHead) (body : List ℕ) (b : Bool) → has_body head ≡ b → length body ≡ (if b then head.size else 0) →
    length body ≡ (if has_body head then head.size else 0)
body_length head body b is long = long ∙ ap (λ (c : Bool). if c then head.size else 0) (sym is)

-- a request came, and its data, and it was answered
pub exchanged : {D : Type 0} (seen : D → Seen) (session : ℕ) (writable structured : Bool) (before : Scene D) (mid : Flow) (after : Scene D) (taken body : List ℕ) (a : Ask) (phase : Phase) (b : Bool) →
    IsServed structured taken a phase → has_data a ≡ b → length body ≡ (if b then a.length else 0) → Moved taken [] before.flow mid →
    Answered seen session writable structured a body (record { flow = mid; world = before.world }) after → (x : Exchange) × Exchanges seen session writable structured before x after
exchanged {D} seen session writable structured before mid after taken body a phase b is has long moved answered =
    let head : RequestHead = head_of taken in
    let here : Scene D = record { flow = mid; world = before.world } in
    let answered' : Answered seen session writable structured (ask_of structured head) body here after =
    subst (λ (q : Ask). Answered seen session writable structured q body here after) is.asks answered in
    let has' : has_body head ≡ b = sym (has_data-ask_of structured head) ∙ ap (λ (q : Ask). has_data q) (sym is.asks) ∙ has in
    let long' : length body ≡ (if b then head.size else 0) =
    long ∙ ap (λ (q : Ask). if b then q.length else 0) is.asks in
    let reply : List ℕ = reply_of structured (ask_of structured head) answered'.verdict in (
      record {
        message = record { head = head; body = body };
        structured = structured;
        verdict = answered'.verdict;
        calls = Happened (AskEvent session (ask_of structured head) answered'.does.body) (Made answered'.does.exchanged.number) ∷ answered'.does.exchanged.steps;
        left = disks_in seen after;
      },
      record {
        message = record {
          fits = is.head.fits;
          not_disc = is.not_disc;
          not_long = is.not_long;
          body = body_length head body b has' long';
        };
        mode = refl;
        moved = subst (λ (bytes : List ℕ). Moved (bytes ++ body) reply before.flow after.flow) is.head.spelled
            (moved_on before.flow mid after.flow taken [] body reply moved answered'.moved);
        does = answered'.does;
        calls_are = refl;
        left_is = refl;
      },
    )

-- a whole request was taken
pub whole_request : (structured : Bool) (taken body : List ℕ) (a : Ask) (phase : Phase) (b : Bool) → IsServed structured taken a phase → has_data a ≡ b → length body ≡ (if b then a.length else 0) → IsWholeMessage (taken ++ body)
whole_request structured taken body a phase b is has long =
    let head : RequestHead = head_of taken in
    let has' : has_body head ≡ b = sym (has_data-ask_of structured head) ∙ ap (λ (q : Ask). has_data q) (sym is.asks) ∙ has in
    let long' : length body ≡ (if b then head.size else 0) = long ∙ ap (λ (q : Ask). if b then q.length else 0) is.asks in (
      record { head = head; body = body },
      (
        record { fits = is.head.fits; not_disc = is.not_disc; not_long = is.not_long; body = body_length head body b has' long' },
        ap (λ (bytes : List ℕ). bytes ++ body) is.head.spelled,
      ),
    )

-- all data came, and memory was refused for the request
pub memory_stops : {D : Type 0} (before : Scene D) (mid : Flow) (new : WorldValue D) (p : Side) (t : Buffers) (taken : List ℕ) (size : ℕ) → Moved taken [] before.flow mid → mid.stream.state ≡ Open →
    length taken ≡ size → new ≡ before.world → t ≡ mid.stream → p ≡ mid.output →
    (t.state ≡ Open) × Stops before (record { flow = record { input = mid.input; output = p; stream = t }; world = new }) (λ (bytes : List ℕ). length bytes ≡ size)
memory_stops before mid new p t taken size moved going long world stream output =
    let same : record { input = mid.input; output = p; stream = t } ≡ mid =
    ap (λ (b : Buffers). record { input = mid.input; output = p; stream = b }) stream ∙ ap (λ (o : Side). record { input = mid.input; output = o; stream = mid.stream }) output in (
      ap (λ (b : Buffers). b.state) stream ∙ going,
      record { rest = taken; moved = subst (λ (f : Flow). Moved taken [] before.flow f) (sym same) moved; world = world; ends = long },
    )

-- a request came, and less than its data
cut_write : (structured : Bool) (taken more : List ℕ) (a : Ask) (phase : Phase) → IsServed structured taken a phase → has_data a ≡ true → length more < a.length →
    IsCutWrite (taken ++ more)
cut_write structured taken more a phase is has short = record {
  front = taken;
  got = more;
  whole = refl;
  head = is.head;
  wants = sym (has_data-ask_of structured (head_of taken)) ∙ ap (λ (q : Ask). has_data q) (sym is.asks) ∙ has;
  not_long = is.not_long;
  short = subst (λ (q : Ask). length more < q.length) is.asks short;
}

-- the session stopped within the data
pub stopped : {D : Type 0} (before : Scene D) (mid : Flow) (after : Scene D) (taken : List ℕ) {P Q : List ℕ → Type 0} → Moved taken [] before.flow mid →
    (stops : Stops (record { flow = mid; world = before.world }) after P) → Q (taken ++ stops.rest) → Stops before after Q
stopped before mid after taken moved stops ends = record {
  rest = taken ++ stops.rest;
  moved = moved_on before.flow mid after.flow taken [] stops.rest [] moved stops.moved;
  world = stops.world;
  ends = ends;
}

module _ {D : Type 0} (seen : D → Seen) (session : ℕ) (writable structured : Bool) (before : Scene D) (mid : Flow) (after : Scene D) (taken : List ℕ) (a : Ask) (phase : Phase) (new : Reader)
    (is : IsServed structured taken a phase) (has : has_data a ≡ true) (moved : Moved taken [] before.flow mid) where
  -- the session ended within the data
  cut_off : (told : Status) → (told ≡ Ended end.Truncated) × IsUsedUp after.flow × (after.flow.stream.state ≡ Open)
      × Stops (record { flow = mid; world = before.world }) after (λ (bytes : List ℕ). length bytes < a.length) → (after.flow.stream.state ≡ Open) × Stops before after (Ending told after.flow)
  cut_off told finishes =
      let cut : Ending (status.Ended end.Truncated) after.flow (taken ++ finishes.3.rest) =
      (inr (cut_write structured taken finishes.3.rest a phase is has finishes.3.ends), finishes.1) in
      (finishes.2, stopped before mid after taken moved finishes.3 (subst (λ (s : Status). Ending s after.flow (taken ++ finishes.3.rest)) (sym finishes.0) cut))

  -- a request with data came, and what became of it
  pub finished : {E : Type 0} (result : Result Progress E) → Finishes seen session writable structured a (record { flow = mid; world = before.world }) result new after → ServesMessage seen session writable structured before result new after
  finished (Ok progress.Goes) finishes =
      let one : (x : Exchange) × Exchanges seen session writable structured before x after =
      exchanged seen session writable structured before mid after taken finishes.0 a phase true is has finishes.1.0 moved finishes.1.1 in
      (one.0, (one.1, finishes.1.2))
  finished (Ok (progress.Ends status.Memory)) finishes =
      (finishes.0, stopped before mid after taken moved finishes.1 (whole_request structured taken finishes.1.rest a phase true is has finishes.1.ends))
  finished (Ok (progress.Ends told)) finishes = cut_off told finishes
  finished (Err e) finishes = (finishes.0, stopped before mid after taken moved finishes.1 (inr (cut_write structured taken finishes.1.rest a phase is has finishes.1.ends)))

-- a request without data
module _ {D : Type 0} (seen : D → Seen) (session : ℕ) (writable structured : Bool) (before : Scene D) (mid : Flow) (taken : List ℕ) (a : Ask) (phase : Phase) (reader : Reader)
    (is : IsServed structured taken a phase) (bare : has_data a ≡ false) (moved : Moved taken [] before.flow mid) (going : mid.stream.state ≡ Open) (ready_is : reader ≡ between structured) where
  -- came, and what became of it
  pub finished_bare : (E : Type 0) (result : Progress) (new : WorldValue D) (p : Side) (t : Buffers) → AnswersBare seen session writable structured a before.world result new mid.output mid.stream p t →
      ServesMessage {E = E} seen session writable structured before (Ok result) reader (record { flow = record { input = mid.input; output = p; stream = t }; world = new })
  finished_bare E progress.Goes new p t answers =
      let after : Scene D = record { flow = record { input = mid.input; output = p; stream = t }; world = new } in
      let one : (x : Exchange) × Exchanges seen session writable structured before x after =
      exchanged seen session writable structured before mid after taken [] a phase false is bare refl moved
      (answered_in seen session writable structured a [] (record { flow = mid; world = before.world }) mid new p t (moved_none mid) answers) in
      (one.0, (one.1, ready_is))
  finished_bare E (progress.Ends told) new p t ends =
      let after : Scene D = record { flow = record { input = mid.input; output = p; stream = t }; world = new } in
      let same : after.flow ≡ mid = ap (λ (b : Buffers). record { input = mid.input; output = p; stream = b }) ends.2 ∙ ap (λ (o : Side). record { input = mid.input; output = o; stream = mid.stream }) ends.3 in (
        ap (λ (b : Buffers). b.state) ends.2 ∙ going,
        record {
          rest = taken;
          moved = subst (λ (f : Flow). Moved taken [] before.flow f) (sym same) moved;
          world = ends.1;
          ends = subst (λ (s : Status). Ending s after.flow taken) (sym ends.0) (subst IsWholeMessage (append-nil taken) (whole_request structured taken [] a phase false is bare refl));
        },
      )

-- the next request is awaited behind one that no data follow
pub ready : (structured : Bool) (reader : Reader) → reader.structured ≡ structured → reader.phase ≡ InHead [] → reader ≡ between structured
ready structured reader so at_head =
    let with_mode : Bool → Reader = λ s. record { structured = s; phase = reader.phase } in
    let with_phase : Phase → Reader = λ p. record { structured = structured; phase = p } in
    ap with_mode so ∙ ap with_phase at_head

-- a request came
pub request_came : (E : Type 0) (structured : Bool) (taken : List ℕ) (told : Came) (a : Ask) (reader : Reader) (after : Flow) → told ≡ came.Asked a → Comes {E = E} structured taken (Ok told) reader after →
    IsServed structured taken a reader.phase × (reader.structured ≡ structured)
request_came E structured taken told a reader after is comes = subst (λ (told : Came). Comes {E = E} structured taken (Ok told) reader after) is comes

-- data came
pub data_came : (E : Type 0) (old new : Reader) (taken : List ℕ) (told : Option Room) (room : Room) (after : Flow) → told ≡ Some room →
    Brings {E = E} old taken (Ok told) new after → IsData taken (awaited old.phase) room × (new ≡ record { structured = old.structured; phase = InHead [] })
data_came E old new taken told room after is brings = subst (λ (told : Option Room). Brings {E = E} old taken (Ok told) new after) is brings

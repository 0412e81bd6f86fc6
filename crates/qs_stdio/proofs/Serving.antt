-- Requests served one after the other.
use Rattle.std.proofs.Common.{◌≡◌, ◌≢◌, ℕ, ◌+◌, inl, inr, Bool, List, [], ◌∷◌, ◌++◌, length, refl, sym, ap, ◌∙◌, subst, arith, append-nil, length-append}
use Rattle.std.specs.Prelude.{Result, Ok, Err, OnOk, IfOk, IsErrAnd}
use Rattle.std.specs.Io.KnownBytes.{IsAtEnd}
use Rattle.std.proofs.lemmas.Grind.{flat_map-append}
use Rattle.qs_status.specs.declared.status.SessionEnd.TheVariants as end
use Rattle.qs_status.specs.declared.status.Status.{Status}
use Rattle.qs_status.specs.declared.status.Status.TheVariants as status
use Rattle.qs_nbd_wire.specs.Requests.{spelling}
use Rattle.qs_outside.specs.Blocks.{Seen}
use Rattle.qs_image.specs.Image.{content, size_of, AllTell, SameDisks}
use Rattle.qs_image.proofs.Striped.{same_disks_refl, same_disks_trans, still_tell}
use Rattle.qs_stream.specs.declared.state.State.{State}
use Rattle.qs_stream.specs.declared.state.State.TheVariants as state
use Rattle.qs_stream.specs.Buffers.{Buffers}
use Rattle.qs_stream.specs.Flows.{Flow, IsUsedUp, Moved, Puts, Side, Tells}
use Rattle.qs_stream.proofs.Moves.{moved_on, moved_none}
use Rattle.qs_stream.proofs.Calls.{write_failed}
use Rattle.qs_world.specs.Values.{WorldValue, disks_of}
use Rattle.qs_calls.specs.Calls.{Call, Plays}
use Rattle.qs_world.specs.Running.{meant}
use Rattle.qs_world.proofs.Meant.{own}
use Rattle.qs_calls.proofs.Plays.{plays_more}
use Rattle.qs_single.specs.Resting.{IsResting}
use Rattle.qs_single.specs.Remaining.{IsCleanSettled, Outlasts}
use Rattle.qs_single.specs.Service.{Called, MayGet}
use Rattle.qs_stdio.specs.Service.{Exchange, AllFit, CalledAll, Chained, Fits, LeadsAll, OutlastsAll, asked_in, asked_bytes, answered_bytes, reply, rounds}
use Rattle.qs_stdio.specs.Scenes.{Scene, IsMessageFront, Ending, Exchanges, Stops, disks_in}
use Rattle.qs_stdio.specs.Runs.{EndsSession, Sitting, side_of, fault_at, status_by}
use Rattle.qs_stdio.specs.Turns.{ServesMessage, between}
use Rattle.qs_stdio.specs.declared.serve.Progress.{Progress}
use Rattle.qs_stdio.specs.declared.serve.Progress.TheVariants as progress
use Rattle.qs_nbd_transmission.specs.Phases.{Reader}
use Rattle.qs_stdio.proofs.Sought.{nothing_front}

-- so many requests were served, and the core rests
pub record Served {D : Type 0} (seen : D → Seen) (session : ℕ) (writable structured : Bool) (before now : Scene D) (count : ℕ) : Type 0 where
  pub exchanges : List Exchange
  pub fit : AllFit session (size_of (disks_in seen before)) writable structured exchanges
  pub moved : Moved (asked_bytes exchanges) (answered_bytes exchanges) before.flow now.flow
  pub called : CalledAll (disks_in seen before) exchanges (disks_in seen now)
  pub outlasts : AllTell (disks_in seen before) → IsCleanSettled seen before.world →
      OutlastsAll (disks_in seen before) exchanges (disks_in seen now) × IsCleanSettled seen now.world
  pub plays : Plays own (meant seen before.world) (rounds exchanges) (meant seen now.world)
  pub same : SameDisks (disks_in seen before) (disks_in seen now)
  pub counted : length exchanges ≡ count
  pub rests : IsResting seen session writable now.world
  pub next : now.world.next ≡ before.world.next + count

pub served_none : {D : Type 0} (seen : D → Seen) (session : ℕ) (writable structured : Bool) (scene : Scene D) → IsResting seen session writable scene.world → Served seen session writable structured scene scene 0
served_none seen session writable structured scene rests = record {
  exchanges = [];
  fit = tt;
  moved = moved_none scene.flow;
  called = refl;
  outlasts = λ told clean. (refl, clean);
  plays = refl;
  same = same_disks_refl (disks_in seen scene);
  counted = refl;
  rests = rests;
  next = omega arith;
}

fit_more : (session size : ℕ) (writable structured : Bool) (xs : List Exchange) (x : Exchange) → AllFit session size writable structured xs → Fits session size writable structured x →
    AllFit session size writable structured (xs ++ x ∷ [])
fit_more session size writable structured [] x fit one = (one, tt)
fit_more session size writable structured (y ∷ xs) x fit one = (fit.0, fit_more session size writable structured xs x fit.1 one)

chained_more : (P : List Seen → Exchange → List Seen → Type 0) (old mid new : List Seen) (xs : List Exchange) (x : Exchange) → Chained P old xs mid → P mid x new → x.left ≡ new →
    Chained P old (xs ++ x ∷ []) new
chained_more P old mid new [] x chained one left =
    (subst (λ (d : List Seen). P old x d) (sym left) (subst (λ (d : List Seen). P d x new) chained one), sym left)
chained_more P old mid new (y ∷ xs) x chained one left = (chained.0, chained_more P y.left mid new xs x chained.1 one left)

asked_more : (xs : List Exchange) (x : Exchange) → asked_bytes (xs ++ x ∷ []) ≡ asked_bytes xs ++ spelling x.message
asked_more xs x = flat_map-append (λ y. spelling y.message) xs (x ∷ []) ∙ ap (λ (bytes : List ℕ). asked_bytes xs ++ bytes) (append-nil (spelling x.message))

answered_more : (xs : List Exchange) (x : Exchange) → answered_bytes (xs ++ x ∷ []) ≡ answered_bytes xs ++ reply x
answered_more xs x = flat_map-append reply xs (x ∷ []) ∙ ap (λ (bytes : List ℕ). answered_bytes xs ++ bytes) (append-nil (reply x))

rounds_more : (xs : List Exchange) (x : Exchange) → rounds (xs ++ x ∷ []) ≡ rounds xs ++ x.calls
rounds_more xs x = flat_map-append (λ y. y.calls) xs (x ∷ []) ∙ ap (λ (cs : List Call). rounds xs ++ cs) (append-nil x.calls)

-- an exchange is as it may be
its_fit : {D : Type 0} (seen : D → Seen) (session size : ℕ) (writable structured : Bool) (mid now : Scene D) (x : Exchange) → size_of (disks_in seen mid) ≡ size →
    Exchanges seen session writable structured mid x now → Fits session size writable structured x
its_fit seen session size writable structured mid now x same one = record {
  message = one.message;
  mode = one.mode;
  may = subst (λ (n : ℕ). MayGet n writable (asked_in x) x.verdict) same one.does.exchanged.may;
  round = record {
    body = one.does.body;
    is_body = one.does.is_body;
    number = one.does.exchanged.number;
    steps = one.does.exchanged.steps;
    now = one.does.now;
    note = one.does.exchanged.note;
    calls_are = one.calls_are;
    ran = one.does.exchanged.ran;
  };
}

-- and one more
pub served_more : {D : Type 0} (seen : D → Seen) (session : ℕ) (writable structured : Bool) (before mid now : Scene D) (count : ℕ) → Served seen session writable structured before mid count →
    (one : (x : Exchange) × Exchanges seen session writable structured mid x now) → Served seen session writable structured before now (count + 1)
served_more {D} seen session writable structured before mid now count served one =
    let xs : List Exchange = served.exchanges in
    let x : Exchange = one.0 in
    let did = one.1.does.exchanged in
    record {
      exchanges = xs ++ x ∷ [];
      fit = fit_more session (size_of (disks_in seen before)) writable structured xs x served.fit (its_fit seen session (size_of (disks_in seen before)) writable structured mid now x (served.same.size 0) one.1);
      moved =
          subst (λ (taken : List ℕ). Moved taken (answered_bytes (xs ++ x ∷ [])) before.flow now.flow) (sym (asked_more xs x))
          (subst (λ (given : List ℕ). Moved (asked_bytes xs ++ spelling x.message) given before.flow now.flow) (sym (answered_more xs x))
          (moved_on before.flow mid.flow now.flow (asked_bytes xs) (answered_bytes xs) (spelling x.message) (reply x) served.moved one.1.moved));
      called = chained_more (λ old y new. Called old (asked_in y) y.message.body y.verdict new) (disks_in seen before) (disks_in seen mid) (disks_in seen now) xs x
          served.called did.called one.1.left_is;
      outlasts = λ told clean.
          let so_far = served.outlasts told clean in
          let here = did.outlasts (still_tell (disks_in seen before) (disks_in seen mid) served.same told) so_far.1 in (
            chained_more (λ old y new. Outlasts old (asked_in y) y.message.body y.verdict new) (disks_in seen before) (disks_in seen mid) (disks_in seen now) xs x
                so_far.0 here.0 one.1.left_is,
            here.1,
          );
      plays = subst (λ (cs : List Call). Plays own (meant seen before.world) cs (meant seen now.world)) (sym (rounds_more xs x))
          (plays_more own (meant seen before.world) (rounds xs) (meant seen mid.world) x.calls (meant seen now.world) served.plays
          (subst (λ (cs : List Call). Plays own (meant seen mid.world) cs (meant seen now.world)) (sym one.1.calls_are) did.plays));
      same = same_disks_trans (disks_in seen before) (disks_in seen mid) (disks_in seen now) served.same did.called.same;
      counted = simp length-append (ap (λ (n : ℕ). n + 1) served.counted);
      rests = one.1.does.rests;
      next = let a : now.world.next ≡ mid.world.next + 1 = did.next in let b : mid.world.next ≡ before.world.next + count = served.next in omega (arith, a, b);
    }

-- the content goes on from request to request
pub calls_lead : (old new : List Seen) (xs : List Exchange) → CalledAll old xs new → AllTell old → LeadsAll (content old) xs (content new)
calls_lead old new [] calls tell = ap content calls
calls_lead old new (x ∷ xs) calls tell =
    let called : Called old (asked_in x) x.message.body x.verdict x.left = calls.0 in
    (called.leads tell, calls_lead x.left new xs calls.1 (still_tell old x.left called.same tell))

-- how the run ends where the stream failed
fault_ends : (s : State) (budget : ℕ) (xs : List Exchange) (after : Flow) (rest : List ℕ) → s ≢ state.Open → IsMessageFront rest →
    EndsSession (fault_at s) budget xs after rest
fault_ends state.Open budget xs after rest failed front = absurd (failed refl)
fault_ends state.ReadFault budget xs after rest failed front = front
fault_ends state.WriteFault budget xs after rest failed front = inl front

pub fault_side : (s : State) → s ≢ state.Open → s ≡ side_of (fault_at s)
fault_side state.Open failed = absurd (failed refl)
fault_side state.ReadFault failed = refl
fault_side state.WriteFault failed = refl

fault_whole : (s : State) {P : Type 0} → side_of (fault_at s) ≡ state.Open → P
fault_whole state.Open is = absurd (cc)
fault_whole state.ReadFault is = absurd (cc)
fault_whole state.WriteFault is = absurd (cc)

-- how it ends where the bytes say so
ending_ends : (s : Status) (budget : ℕ) (xs : List Exchange) (after : Flow) (rest : List ℕ) → Ending s after rest → EndsSession s budget xs after rest
ending_ends status.Spent budget xs after rest ending = absurd ending
ending_ends status.Memory budget xs after rest ending = inr ending
ending_ends status.ReadFault budget xs after rest ending = absurd ending
ending_ends status.WriteFault budget xs after rest ending = absurd ending
ending_ends other budget xs after rest ending = ending

ending_side : (s : Status) (after : Flow) (rest : List ℕ) → Ending s after rest → side_of s ≡ state.Open
ending_side status.ReadFault after rest ending = absurd ending
ending_side status.WriteFault after rest ending = absurd ending
ending_side other after rest ending = refl

-- what ended a session stays so when the replies are written
used_up : (f g : Flow) → g.input ≡ f.input → g.stream.waiting ≡ f.stream.waiting → IsUsedUp f → IsUsedUp g
used_up f g input waiting used = (subst (λ (i : Side). IsAtEnd i.bytes) (sym input) used.0, waiting ∙ used.1)

pub ending_kept : (s : Status) (f g : Flow) (rest : List ℕ) → g.input ≡ f.input → g.stream.waiting ≡ f.stream.waiting → Ending s f rest → Ending s g rest
ending_kept status.Done f g rest input waiting (inl leave) = inl leave
ending_kept status.Done f g rest input waiting (inr used) = inr (used.0, used_up f g input waiting used.1)
ending_kept (status.Ended end.Truncated) f g rest input waiting ending = (ending.0, used_up f g input waiting ending.1)
ending_kept (status.Ended (end.BadMagic n)) f g rest input waiting ending = ending
ending_kept (status.Ended (end.TooLong n)) f g rest input waiting ending = ending
ending_kept (status.Ended other) f g rest input waiting ending = absurd ending
ending_kept status.Memory f g rest input waiting ending = ending
ending_kept other f g rest input waiting ending = absurd ending

module _ {D : Type 0} (seen : D → Seen) (session : ℕ) (writable structured : Bool) (budget : ℕ) (before mid : Scene D) (count : ℕ) (served : Served seen session writable structured before mid count) where
  abbrev xs : List Exchange
  xs = served.exchanges

  abbrev Sits : Scene D → Status → Type 0
  Sits after s = Sitting seen session writable structured budget before after s

  -- a scene with the core of the last exchange
  sits_with : (final : Scene D) (rest : List ℕ) (s : Status) → Moved rest [] mid.flow final.flow → final.world ≡ mid.world → final.flow.stream.state ≡ side_of s →
      (side_of s ≡ state.Open → final.flow.stream.held ≡ []) → EndsSession s budget xs final.flow rest → Sits final s
  sits_with final rest s moved world failed whole ends =
      let called : CalledAll (disks_in seen before) xs (disks_in seen final) = subst (λ (w : WorldValue D). CalledAll (disks_in seen before) xs (disks_of seen w)) (sym world) served.called in
      record {
        exchanges = xs;
        rest = rest;
        fit = served.fit;
        moved =
            subst (λ (given : List ℕ). Moved (asked_bytes xs ++ rest) given before.flow final.flow) (append-nil (answered_bytes xs))
            (moved_on before.flow mid.flow final.flow (asked_bytes xs) (answered_bytes xs) rest [] served.moved moved);
        failed = failed;
        whole = whole;
        service = calls_lead (disks_in seen before) (disks_in seen final) xs called;
        called = called;
        outlasts = λ told clean. subst (λ (w : WorldValue D). OutlastsAll (disks_in seen before) xs (disks_of seen w)) (sym world) (served.outlasts told clean).0;
        plays = subst (λ (w : WorldValue D). Plays own (meant seen before.world) (rounds xs) (meant seen w)) (sym world) served.plays;
        same = subst (λ (w : WorldValue D). SameDisks (disks_in seen before) (disks_of seen w)) (sym world) served.same;
        ends = ends;
      }

  -- the stream failed before the next request was answered
  pub sits_fault : (after : Scene D) → after.flow.stream.state ≢ state.Open → Stops mid after IsMessageFront → Sits after (fault_at after.flow.stream.state)
  sits_fault after failed stops =
      sits_with after stops.rest (fault_at after.flow.stream.state) stops.moved stops.world (fault_side after.flow.stream.state failed)
      (λ is. fault_whole after.flow.stream.state is) (fault_ends after.flow.stream.state budget xs after.flow stops.rest failed stops.ends)

  module _ (after : Scene D) (p : Side) (t : Buffers) (rest : List ℕ) (moved : Moved rest [] mid.flow after.flow) (world : after.world ≡ mid.world)
      (puts : Puts [] after.flow.output after.flow.stream p t) where
    abbrev pub final : Scene D
    final = record { flow = record { input = after.flow.input; output = p; stream = t }; world = after.world }

    -- with this status
    sits : (s : Status) → t.state ≡ side_of s → (side_of s ≡ state.Open → t.held ≡ []) → EndsSession s budget xs final.flow rest → Sits final s
    sits s failed whole ends =
        sits_with final rest s
        (subst (λ (taken : List ℕ). Moved taken [] mid.flow final.flow) (append-nil rest)
        (moved_on mid.flow after.flow final.flow rest [] [] [] moved (puts.moved after.flow.input)))
        world failed whole ends

    -- the replies that waited were written, or the output failed
    pub sits_told : {E : Type 0} (result : Result Status E) (s : Status) → Tells result t.state → OnOk result (t.held ≡ []) →
        IfOk result (λ told. told ≡ s) → side_of s ≡ state.Open → EndsSession s budget served.exchanges final.flow rest →
        (t.state ≢ state.Open → EndsSession (fault_at t.state) budget served.exchanges final.flow rest) → Sits final (status_by result t.state)
    sits_told (Ok told) s tells written same side ends fault =
        subst (λ (result : Status). Sits final result) (sym same) (sits s (tells ∙ sym side) (λ is. written) ends)
    sits_told (Err e) s tells written same side ends fault =
        sits (fault_at t.state) (fault_side t.state tells) (λ whole. fault_whole t.state whole) (fault tells)

  -- the bytes ended the session
  pub sits_end : {E : Type 0} (after : Scene D) (p : Side) (t : Buffers) (s : Status) (result : Result Status E) → after.flow.stream.state ≡ state.Open →
      (stops : Stops mid after (Ending s after.flow)) → Puts [] after.flow.output after.flow.stream p t → Tells result t.state → OnOk result (t.held ≡ []) →
      IfOk result (λ told. told ≡ s) → Sits (record { flow = record { input = after.flow.input; output = p; stream = t }; world = after.world }) (status_by result t.state)
  sits_end after p t s result going stops puts tells written same =
      let kept : Ending s (record { input = after.flow.input; output = p; stream = t }) stops.rest =
      ending_kept s after.flow (record { input = after.flow.input; output = p; stream = t }) stops.rest refl puts.waiting stops.ends in
      sits_told after p t stops.rest stops.moved stops.world puts result s tells written same (ending_side s after.flow stops.rest stops.ends)
      (ending_ends s budget served.exchanges (record { input = after.flow.input; output = p; stream = t }) stops.rest kept)
      (λ failed. subst (λ (now : State). EndsSession (fault_at now) budget served.exchanges (record { input = after.flow.input; output = p; stream = t }) stops.rest)
      (sym (write_failed after.flow.output p after.flow.stream t [] puts going failed)) (inr (s, kept)))

  -- the whole budget of messages was read
  pub sits_spent : {E : Type 0} (p : Side) (t : Buffers) (result : Result Status E) → count ≡ budget → Puts [] mid.flow.output mid.flow.stream p t →
      Tells result t.state → OnOk result (t.held ≡ []) → IfOk result (λ told. told ≡ status.Spent) →
      Sits (record { flow = record { input = mid.flow.input; output = p; stream = t }; world = mid.world }) (status_by result t.state)
  sits_spent p t result all puts tells written same =
      sits_told mid p t [] (moved_none mid.flow) refl puts result status.Spent tells written same refl (refl, served.counted ∙ all)
      (λ failed. fault_ends t.state budget served.exchanges (record { input = mid.flow.input; output = p; stream = t }) [] failed (inl nothing_front))

-- a turn that goes on
pub turned : {D : Type 0} (E : Type 0) (seen : D → Seen) (session : ℕ) (writable structured : Bool) (before after : Scene D) (reader : Reader) (t : Progress) → t ≡ progress.Goes →
    ServesMessage {E = E} seen session writable structured before (Ok t) reader after → (x : Exchange) × (Exchanges seen session writable structured before x after × (reader ≡ between structured))
turned E seen session writable structured before after reader t is turns = subst (λ (t : Progress). ServesMessage {E = E} seen session writable structured before (Ok t) reader after) is turns

-- and one that ends the session
pub turned_end : {D : Type 0} (E : Type 0) (seen : D → Seen) (session : ℕ) (writable structured : Bool) (before after : Scene D) (reader : Reader) (t : Progress) (s : Status) → t ≡ progress.Ends s →
    ServesMessage {E = E} seen session writable structured before (Ok t) reader after → (after.flow.stream.state ≡ state.Open) × Stops before after (Ending s after.flow)
turned_end E seen session writable structured before after reader t s is turns = subst (λ (t : Progress). ServesMessage {E = E} seen session writable structured before (Ok t) reader after) is turns

-- a stream that failed gives the run's status
pub fault_told : {F D : Type 0} (seen : D → Seen) (session : ℕ) (writable structured : Bool) (budget : ℕ) (before after : Scene D) (result : Result Status F) (P : F → Type 0) → IsErrAnd result P →
    Sitting seen session writable structured budget before after (fault_at after.flow.stream.state) → Sitting seen session writable structured budget before after (status_by result after.flow.stream.state)
fault_told seen session writable structured budget before after (Ok told) P is sits = absurd is
fault_told seen session writable structured budget before after (Err e) P is sits = sits

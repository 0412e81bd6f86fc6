-- From the words to the status.
use Rattle.std.proofs.Common.{◌≡◌, ℕ, ◌^◌, ◌⊎◌, inl, inr, Bool, true, false, not, List, [], ◌∷◌, map, refl, sym, ap, ◌∙◌, subst}
use Rattle.std.specs.Prelude.{Some, String, Result, Ok, Err}
use Rattle.std.specs.Global.{Global}
use Rattle.qs_status.specs.declared.status.Status.{Status}
use Rattle.qs_status.specs.declared.status.Status.TheVariants as status
use Rattle.qs_bytes.specs.declared.ask.Mode.{Mode}
use Rattle.qs_opening.specs.declared.turn.Opened.{Opened}
use Rattle.qs_opening.specs.declared.turn.Opened.TheVariants.{Transmit, Ends as Ended}
use Rattle.qs_opening.specs.Openings.{OpensSession}
use Rattle.qs_outside.specs.Blocks.{Seen}
use Rattle.qs_outside.specs.declared.stream.Failed.{Failed}
use Rattle.qs_outside.specs.Faults.{Rose}
use Rattle.qs_image.specs.Image.{AllTell, SameDisks}
use Rattle.qs_image.proofs.Striped.{same_disks_refl}
use Rattle.qs_stripe.specs.Table.{StripeState}
use Rattle.qs_world.specs.Values.{WorldValue, disks_of}
use Rattle.qs_part.specs.declared.event.Event.TheVariants.{Attach}
use Rattle.qs_part.specs.declared.event.Outcome.TheVariants.{Attached}
use Rattle.qs_part.specs.declared.graph.ExportInfo.{ExportInfo}
use Rattle.qs_calls.specs.Calls.{Call, Happened}
use Rattle.qs_calls.specs.Runs.{Begins, ComesBack}
use Rattle.qs_world.specs.Running.{meant}
use Rattle.qs_world.proofs.Meant.{own}
use Rattle.qs_calls.proofs.Plays.{plays_more}
use Rattle.qs_calls.proofs.Runs.{has_run_meant}
use Rattle.qs_single.specs.Remaining.{IsSettled}
use Rattle.qs_single.specs.Resting.{Attaches}
use Rattle.qs_single.proofs.Attaching.{disks_are}
use Rattle.qs_stdio.specs.Service.{Exchange, CalledAll, OutlastsAll, rounds}
use Rattle.qs_stdio.proofs.Handshaking.{IsEnd, Went, end_side, opened_disks, opened_ends, opened_failed, opened_joined, opened_moved}
use Rattle.qs_stdio.proofs.Serving.{calls_lead, fault_side}
use Rattle.qs_stdio.proofs.Outliving.{survives}
use Rattle.qs_stdio_words.specs.declared.words.StdioWords.{StdioWords}
use Rattle.qs_stdio_words.specs.Words.{command}
use Rattle.qs_stdio.specs.Runs.{Closes, ComesTo, Concludes, Declines, EndsSession, EndsAs, Forgoes, Holds, Idles, Ran, ServesWords, ServesStream, Sitting, exchanges_in, fault_at, opening_scene, last_scene, side_of}
use Rattle.qs_stream.specs.Buffers.{Buffers}
use Rattle.qs_stream.specs.declared.state.State.TheVariants as state
use Rattle.qs_stream.specs.declared.state.State.{State}
use Rattle.qs_stream.specs.Flows.{Flow, Moved, Rises, Proceeds, Side}
use Rattle.qs_stream.proofs.Moves.{moved_none, moved_on, rises_from}

-- a session that sat is a run from the opening
pub sits_of : {D : Type 0} (seen : D → Seen) (disks : List D) (read_only transmission : Bool) (budget : ℕ) (input output : Side) (start begun : WorldValue D) (name : List ℕ) (info : ExportInfo)
    (mode : Mode) (flow : Flow) (result : Status) (input' output' : Side) (stream : Buffers) (new : WorldValue D) → Begins seen disks read_only start →
    Attaches seen 0 (not read_only) start name info begun → ComesTo seen transmission read_only budget input output start name mode flow begun →
    Sitting seen 0 (not read_only) mode.structured budget (record { flow = flow; world = begun }) (last_scene input' output' stream new) result →
    ServesStream seen disks read_only transmission budget input output start result input' output' new
sits_of {D} seen disks read_only transmission budget input output start begun name info mode flow result input' output' stream new begins attaches comes sits =
    let attach : List Call = Happened (Attach 0 name) (Attached info) ∷ [] in
    inl (record {
      begun = begun;
      name = name;
      info = info;
      attaches = attaches;
      mode = mode;
      flow = flow;
      comes = comes;
      stream = stream;
      sits = sits;
      run = has_run_meant seen disks read_only start new (Happened (Attach 0 name) (Attached info) ∷ rounds sits.exchanges) begins
          (plays_more own (meant seen start) attach (meant seen begun) (rounds sits.exchanges) (meant seen new) attaches.plays sits.plays);
    })

-- requests followed a handshake
pub client_sat : {D : Type 0} (seen : D → Seen) (disks : List D) (read_only : Bool) (budget : ℕ) (input output : Side) (start begun : WorldValue D) (mode : Mode) (flow : Flow) (result : Status)
    (input' output' : Side) (stream : Buffers) (new : WorldValue D) → Begins seen disks read_only start →
    OpensSession {E = Failed} seen 0 (not read_only) budget (opening_scene input output start).flow start (Ok (Transmit mode)) flow begun →
    Sitting seen 0 (not read_only) mode.structured budget (record { flow = flow; world = begun }) (last_scene input' output' stream new) result →
    ServesStream seen disks read_only false budget input output start result input' output' new
client_sat seen disks read_only budget input output start begun mode flow result input' output' stream new begins opens sits =
    let joined = opened_joined seen 0 (not read_only) budget (opening_scene input output start).flow start flow begun mode opens in
    sits_of seen disks read_only false budget input output start begun joined.name joined.info mode flow result input' output' stream new begins joined.attaches opens sits

-- it ended the session
pub client_closed : {D : Type 0} (seen : D → Seen) (disks : List D) (read_only : Bool) (budget : ℕ) (input output : Side) (start new : WorldValue D) (told : Status) (flow : Flow) (result : Status)
    (output' : Side) (stream : Buffers) → OpensSession {E = Failed} seen 0 (not read_only) budget (opening_scene input output start).flow start (Ok (Ended told)) flow new →
    Closes flow.output flow.stream told output' stream result → ServesStream seen disks read_only false budget input output start result flow.input output' new
client_closed seen disks read_only budget input output start new told flow result output' stream opens closes = inr (inr (
  refl,
  record {
    opened = Ok (Ended told);
    flow = flow;
    opens = opens;
    stream = stream;
    written = closes.puts.moved flow.input;
    concludes = closes.ends;
    failed = side closes.ends;
    disks = opened_disks seen 0 (not read_only) budget (opening_scene input output start).flow start flow new {E = Failed} (Ok (Ended told)) opens;
  },
))
  where
    side : EndsAs told result stream → stream.state ≡ side_of result
    side (inl is) = is.0 ∙ sym (ap side_of is.2 ∙ end_side told (opened_ends seen 0 (not read_only) budget (opening_scene input output start).flow start flow new told opens))
    side (inr is) = fault_side stream.state is.0 ∙ sym (ap side_of is.1)

-- or a side failed in it
pub client_failed : {D : Type 0} (seen : D → Seen) (disks : List D) (read_only : Bool) (budget : ℕ) (input output : Side) (start new : WorldValue D) (e : Failed) (flow : Flow) (result : Status) →
    OpensSession {E = Failed} seen 0 (not read_only) budget (opening_scene input output start).flow start (Err e) flow new → result ≡ fault_at flow.stream.state →
    ServesStream seen disks read_only false budget input output start result flow.input flow.output new
client_failed seen disks read_only budget input output start new e flow result opens is =
    let failed = opened_failed seen 0 (not read_only) budget (opening_scene input output start).flow start flow new e opens in
    inr (inr (
      refl,
      record {
        opened = Err e;
        flow = flow;
        opens = opens;
        stream = flow.stream;
        written = moved_none flow;
        concludes = (failed, is);
        failed = fault_side flow.stream.state failed ∙ sym (ap side_of is);
        disks = opened_disks seen 0 (not read_only) budget (opening_scene input output start).flow start flow new {E = Failed} (Err e) opens;
      },
    ))

-- over the disks as they came and as they come back
pub holds_of : {D : Type 0} (seen : D → Seen) (disks : List D) (read_only transmission : Bool) (input output : Side) (start : WorldValue D) (result : Status) (input' output' : Side) (new : WorldValue D)
    (disks' : List D) → Begins seen disks read_only start → ServesStream seen disks read_only transmission (2 ^ 32) input output start result input' output' new →
    disks' ≡ map (λ (s : StripeState D). s.disk) new.stripes → Holds seen disks read_only transmission input output result disks' input' output'
holds_of {D} seen disks read_only transmission input output start result input' output' new disks' begins serves back = record {
  image = begins.opened.image;
  start = start;
  begins = begins;
  new = new;
  serves = serves;
  disks_are = back;
  service = λ told. calls_lead (map seen disks) (map seen disks') (exchanges_in serves) (called serves) told;
  called = called serves;
  same = same serves;
  survives = λ told settled. survives (map seen disks) (map seen disks') (exchanges_in serves) settled (called serves) (outlasts serves told settled);
}
  where
    came : disks_of seen start ≡ map seen disks
    came = disks_are seen disks read_only start begins

    gone : disks_of seen new ≡ map seen disks'
    gone = sym (ap (λ (ds : List D). map seen ds) back)

    -- where no request was read the disks stay
    still : Forgoes seen input output start result input' output' new ⊎ ((transmission ≡ false) × Declines seen read_only (2 ^ 32) input output start result input' output' new) →
        map seen disks' ≡ map seen disks
    still (inl forgoes) = sym gone ∙ forgoes.same ∙ came
    still (inr declines) = sym gone ∙ declines.1.disks ∙ came

    called : (serves : ServesStream seen disks read_only transmission (2 ^ 32) input output start result input' output' new) → CalledAll (map seen disks) (exchanges_in serves) (map seen disks')
    called (inl sits) = subst (λ (d : List Seen). CalledAll (map seen disks) sits.sits.exchanges d) gone
        (subst (λ (d : List Seen). CalledAll d sits.sits.exchanges (disks_of seen new)) (sits.attaches.disks ∙ came) sits.sits.called)
    called (inr other) = still other

    same : ServesStream seen disks read_only transmission (2 ^ 32) input output start result input' output' new → SameDisks (map seen disks) (map seen disks')
    same (inl sits) = subst (λ (d : List Seen). SameDisks (map seen disks) d) gone
        (subst (λ (d : List Seen). SameDisks d (disks_of seen new)) (sits.attaches.disks ∙ came) sits.sits.same)
    same (inr other) = subst (λ (d : List Seen). SameDisks (map seen disks) d) (sym (still other)) (same_disks_refl (map seen disks))

    outlasts : (serves : ServesStream seen disks read_only transmission (2 ^ 32) input output start result input' output' new) → AllTell (map seen disks) → IsSettled (map seen disks) →
        OutlastsAll (map seen disks) (exchanges_in serves) (map seen disks')
    outlasts (inl sits) told settled =
        let begun : disks_of seen sits.begun ≡ map seen disks = sits.attaches.disks ∙ came in
        let clean : IsSettled (disks_of seen sits.begun) = subst IsSettled (sym begun) settled in
        subst (λ (d : List Seen). OutlastsAll (map seen disks) sits.sits.exchanges d) gone
        (subst (λ (d : List Seen). OutlastsAll d sits.sits.exchanges (disks_of seen new)) begun
        (sits.sits.outlasts (subst AllTell (sym begun) told) (λ b stripe. clean b)))
    outlasts (inr other) told settled = still other

-- how a client's session may end
abbrev pub IsClientEnd : Status → Type 0
IsClientEnd status.Usage = ⊥
IsClientEnd (status.OpenBad bad) = ⊥
IsClientEnd (status.BadLine n) = ⊥
IsClientEnd (status.NotNext n) = ⊥
IsClientEnd other = Unit {0}

ends_client : (told : Status) → IsEnd told → IsClientEnd told
ends_client status.Done is = tt
ends_client (status.Ended how) is = tt
ends_client status.Memory is = tt
ends_client status.Spent is = tt
ends_client other is = absurd is

fault_client : (s : State) → IsClientEnd (fault_at s)
fault_client state.Open = tt
fault_client state.ReadFault = tt
fault_client state.WriteFault = tt

ending_client : (result : Status) (budget : ℕ) (xs : List Exchange) (after : Flow) (rest : List ℕ) → EndsSession result budget xs after rest → IsClientEnd result
ending_client status.Usage budget xs after rest ends = absurd ends
ending_client (status.OpenBad bad) budget xs after rest ends = absurd ends
ending_client (status.BadLine n) budget xs after rest ends = absurd ends
ending_client (status.NotNext n) budget xs after rest ends = absurd ends
ending_client other budget xs after rest ends = tt

pub serves_ends : {D : Type 0} (seen : D → Seen) (disks : List D) (read_only transmission : Bool) (budget : ℕ) (input output : Side) (start : WorldValue D) (result : Status) (input' output' : Side)
    (new : WorldValue D) → ServesStream seen disks read_only transmission budget input output start result input' output' new → IsClientEnd result
serves_ends seen disks read_only transmission budget input output start result input' output' new (inl sits) =
    ending_client result budget sits.sits.exchanges (last_scene input' output' sits.stream new).flow sits.sits.rest sits.sits.ends
serves_ends seen disks read_only transmission budget input output start result input' output' new (inr (inl forgoes)) = subst IsClientEnd (sym forgoes.result_is) tt
serves_ends seen disks read_only transmission budget input output start result input' output' new (inr (inr declines)) =
    go declines.1.opened declines.1.opens declines.1.concludes
  where
    go : (opened : Result Opened Failed) → OpensSession {E = Failed} seen 0 (not read_only) budget (opening_scene input output start).flow start opened declines.1.flow new →
        Concludes opened result declines.1.stream → IsClientEnd result
    go (Ok (Transmit mode)) opens concludes = absurd concludes
    go (Ok (Ended told)) opens (inl is) =
        subst IsClientEnd (sym is.2) (ends_client told (opened_ends seen 0 (not read_only) budget (opening_scene input output start).flow start declines.1.flow new told opens))
    go (Ok (Ended told)) opens (inr is) = subst IsClientEnd (sym is.1) (fault_client declines.1.stream.state)
    go (Err e) opens concludes = subst IsClientEnd (sym concludes.1) (fault_client declines.1.stream.state)

pub serves_of : {D : Type 0} (seen : D → Seen) (disks : List D) (told : StdioWords) (input output : Side) (start : WorldValue D) (result : Status) (input' output' : Side) (new : WorldValue D)
    (disks' : List D) → Begins seen disks told.read_only start → ServesStream seen disks told.read_only told.transmission (2 ^ 32) input output start result input' output' new →
    disks' ≡ map (λ (s : StripeState D). s.disk) new.stripes → ServesWords seen told disks input output result disks' input' output'
serves_of seen disks told input output start status.Usage input' output' new disks' begins serves back =
    absurd (serves_ends seen disks told.read_only told.transmission (2 ^ 32) input output start status.Usage input' output' new serves)
serves_of seen disks told input output start (status.OpenBad bad) input' output' new disks' begins serves back =
    absurd (serves_ends seen disks told.read_only told.transmission (2 ^ 32) input output start (status.OpenBad bad) input' output' new serves)
serves_of seen disks told input output start status.Memory input' output' new disks' begins serves back =
    inr (holds_of seen disks told.read_only told.transmission input output start status.Memory input' output' new disks' begins serves back)
serves_of seen disks told input output start other input' output' new disks' begins serves back =
    holds_of seen disks told.read_only told.transmission input output start other input' output' new disks' begins serves back

-- the disks came back at once
pub serves_back : {D : Type 0} (seen : D → Seen) (told : StdioWords) (disks back : List D) (input output : Side) (result : Status) (input' output' : Side) → ComesBack seen disks back result →
    Idles input output input' output' → ServesWords seen told disks input output result back input' output'
serves_back seen told disks back input output (status.OpenBad bad) input' output' is idle = (is.1, is.0, idle)
serves_back {D} seen told disks back input output status.Memory input' output' is idle = inl (ap (λ (ds : List D). map seen ds) is, idle)
serves_back seen told disks back input output _ input' output' is idle = absurd is

-- with the words of the command
pub ran_of : {D : Type 0} (seen : D → Seen) (words : List (String Global)) (disks : List D) (input output : Side) (result : Status) (disks' : List D) (input' output' : Side) →
    (told : StdioWords) → command words ≡ Some told → ServesWords seen told disks input output result disks' input' output' → Ran words seen disks input output result disks' input' output'
ran_of seen words disks input output status.Usage disks' input' output' told is serves = absurd serves
ran_of seen words disks input output other disks' input' output' told is serves = (told, is, serves)

-- the counts of a run
idle_rises : (input output input' output' : Side) → Idles input output input' output' → Rises state.Open input.faults input'.faults output.faults output'.faults
idle_rises input output input' output' idle =
    (ap (λ (s : Side). s.faults) idle.input_same, ap (λ (s : Side). s.faults) idle.output_same)

went_rises : (result : Status) (taken given : List ℕ) (before after : Flow) → before.stream.state ≡ state.Open → after.stream.state ≡ side_of result → Moved taken given before after →
    Rises (side_of result) before.input.faults after.input.faults before.output.faults after.output.faults
went_rises result taken given before after begun failed moved =
    rises_from state.Open (side_of result) before after refl
    (subst (λ (s : State). Proceeds s (side_of result) before after) begun (subst (λ (s : State). Proceeds before.stream.state s before after) failed moved.runs))

-- what was taken and given before the first request
comes_went : {D : Type 0} (seen : D → Seen) (transmission read_only : Bool) (budget : ℕ) (input output : Side) (start : WorldValue D) (name : List ℕ) (mode : Mode) (flow : Flow) (begun : WorldValue D) →
    ComesTo seen transmission read_only budget input output start name mode flow begun → Went seen 0 (not read_only) budget (opening_scene input output start).flow start flow begun
comes_went seen true read_only budget input output start name mode flow begun comes =
    record { taken = []; given = []; moved = subst (λ (f : Flow). Moved [] [] (opening_scene input output start).flow f) (sym comes.1) (moved_none (opening_scene input output start).flow) }
comes_went seen false read_only budget input output start name mode flow begun comes =
    opened_moved seen 0 (not read_only) budget (opening_scene input output start).flow start flow begun {E = Failed} (Ok (Transmit mode)) comes

pub serves_rises : {D : Type 0} (seen : D → Seen) (disks : List D) (read_only transmission : Bool) (budget : ℕ) (input output : Side) (start : WorldValue D) (result : Status) (input' output' : Side)
    (new : WorldValue D) → ServesStream seen disks read_only transmission budget input output start result input' output' new → Rises (side_of result) input.faults input'.faults output.faults output'.faults
serves_rises seen disks read_only transmission budget input output start result input' output' new (inl sits) =
    let went = comes_went seen transmission read_only budget input output start sits.name sits.mode sits.flow sits.begun sits.comes in
    went_rises result _ _ (opening_scene input output start).flow (last_scene input' output' sits.stream new).flow refl sits.sits.failed
    (moved_on (opening_scene input output start).flow sits.flow (last_scene input' output' sits.stream new).flow went.taken went.given _ _ went.moved sits.sits.moved)
serves_rises seen disks read_only transmission budget input output start result input' output' new (inr (inl forgoes)) =
    subst (λ (s : Status). Rises (side_of s) input.faults input'.faults output.faults output'.faults) (sym forgoes.result_is) (idle_rises input output input' output' forgoes.idle)
serves_rises seen disks read_only transmission budget input output start result input' output' new (inr (inr declines)) =
    let d = declines.1 in
    let went = opened_moved seen 0 (not read_only) budget (opening_scene input output start).flow start d.flow new {E = Failed} d.opened d.opens in
    went_rises result _ _ (opening_scene input output start).flow (last_scene input' output' d.stream new).flow refl d.failed
    (moved_on (opening_scene input output start).flow d.flow (last_scene input' output' d.stream new).flow went.taken went.given _ _ went.moved d.written)

pub rises_of : {D : Type 0} (seen : D → Seen) (words : List (String Global)) (disks : List D) (input output : Side) (result : Status) (disks' : List D) (input' output' : Side) →
    Ran words seen disks input output result disks' input' output' → Rises (side_of result) input.faults input'.faults output.faults output'.faults
rises_of seen words disks input output status.Usage disks' input' output' ran = idle_rises input output input' output' ran.2
rises_of seen words disks input output (status.OpenBad bad) disks' input' output' ran = idle_rises input output input' output' ran.2.2
rises_of seen words disks input output status.Memory disks' input' output' ran = elim ran.2 [
  | inl idle ↦ idle_rises input output input' output' idle.1
  | inr holds ↦ serves_rises seen disks ran.0.read_only ran.0.transmission (2 ^ 32) input output holds.start status.Memory input' output' holds.new holds.serves
]
rises_of seen words disks input output other disks' input' output' ran =
    let holds = ran.2 in
    serves_rises seen disks ran.0.read_only ran.0.transmission (2 ^ 32) input output holds.start other input' output' holds.new holds.serves

-- which side failed
pub read_rose : (result : Status) (r r' w w' : ℕ) → Rises (side_of result) r r' w w' → result ≡ status.ReadFault → Rose r r'
read_rose result r r' w w' rises is = (subst (λ (s : Status). Rises (side_of s) r r' w w') is rises).0

pub write_rose : (result : Status) (r r' w w' : ℕ) → Rises (side_of result) r r' w w' → result ≡ status.WriteFault → Rose w w'
write_rose result r r' w w' rises is = (subst (λ (s : Status). Rises (side_of s) r r' w w') is rises).1

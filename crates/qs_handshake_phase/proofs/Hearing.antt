-- What is read, told and answered, as events.
use Rattle.std.proofs.Common.{◌≡◌, ℕ, ◌⊎◌, inl, inr, Bool, true, false, true≢false, List, [], ◌∷◌, ◌++◌, refl, sym, ap, ◌∙◌, subst}
use Rattle.std.specs.Prelude.{Option, Some, None}
use Rattle.qs_links.specs.declared.wire.Tried.TheVariants.{Ended, Failed}
use Rattle.qs_bytes.specs.Numbers.{number32}
use Rattle.qs_nbd_wire.specs.declared.opening.ClientFlags.{ClientFlags}
use Rattle.qs_nbd_wire.specs.Greetings.{flags_of}
use Rattle.qs_nbd_wire.specs.Options.{option_head_of}
use Rattle.qs_nbd_handshake.specs.Phases.{Asked, CanFeed, InFlags, InOption, Leads, Over, Phase, Reaches, Reader, Stuck, end_at, event_of, flags_event, phase_of_option, wish_in}
use Rattle.qs_nbd_handshake.specs.Wishes.{option_fault, want_of}
use Rattle.qs_nbd_handshake.specs.declared.stage.Terms.{Terms}
use Rattle.qs_nbd_handshake.specs.declared.wish.Wish.{Wish}
use Rattle.qs_nbd_handshake.specs.declared.event.HandEvent.{HandEvent}
use Rattle.qs_nbd_handshake.specs.declared.event.HandEvent.TheVariants.{Flags, Wanted, Bad}
use Rattle.qs_nbd_handshake.specs.declared.event.Want.{Want}
use Rattle.qs_status.specs.declared.status.SessionEnd.{SessionEnd}
use Rattle.qs_status.specs.declared.status.SessionEnd.TheVariants.{LinkFault}
use Rattle.qs_serving.proofs.Running.{advanced_as}
use Rattle.qs_serving.proofs.Streams.{all_ended, fed_current}
use Rattle.qs_task.specs.Books.{Book}
use Rattle.qs_wire_stream.proofs.Advancing.{advanced_put}
use Rattle.qs_wire_stream.specs.Currents.{Advanced, Current, TriesRead, current}
use Rattle.qs_wire_stream.specs.Pending.{WireBuffers}
use Rattle.qs_handshake_phase.specs.declared.end.HandshakeEnd.{HandshakeEnd}
use Rattle.qs_handshake_phase.specs.declared.end.HandshakeEnd.TheVariants as over
use Rattle.qs_handshake_phase.specs.Asks.{AnswersOption, FeedsReader, IsAnswer}
use Rattle.qs_handshake_phase.specs.Greetings.{Closed, GreetingEvent, InputStopped, OptionAnswered, OptionLost, Stand, Talks, TookBytes, WireBroke, calls_of, given_out, has_break, has_stop, stand_told, taken_in}
use Rattle.qs_handshake_phase.specs.Scenes.{FeedsOn, GreetingScene, GreetsOn, GreetsSome, PhaseValue, greeting_scene, stand_of}
use Rattle.qs_handshake_phase.specs.Tellings.{noted_calls}
use Rattle.qs_handshake_phase.proofs.Running.{greets_none, greets_on, some_none, some_on}

abbrev pub scene_of : Stand → Current → Book → GreetingScene
scene_of s a book = record { stand = s; current = a; book = book }

-- the scene before, by the fields of the phase
pub from_fields : {W : Type 0} (left sent : W → Option (List ℕ)) (read_faults write_faults waits : W → ℕ) (book : Book) (p q : PhaseValue W)
    (new : GreetingScene) → p ≡ q → GreetsSome (greeting_scene left sent read_faults write_faults waits book p) new →
    GreetsSome (greeting_scene left sent read_faults write_faults waits book q) new
from_fields {W} left sent read_faults write_faults waits book p q new is greets =
    subst (λ (r : PhaseValue W). GreetsSome (greeting_scene left sent read_faults write_faults waits book r) new) is greets

pub going_from : {W : Type 0} (p q : PhaseValue W) (o : Option HandshakeEnd) → p ≡ q → q.over ≡ o → p.over ≡ o
going_from {W} p q o is going = ap (λ (r : PhaseValue W). r.over) is ∙ going

pub talks_going : (reader : Reader) (o : Option HandshakeEnd) → o ≡ None → stand_of reader o ≡ Talks reader
talks_going reader o is = ap (λ (x : Option HandshakeEnd). stand_of reader x) is

-- the reader took bytes
pub told_greets : (old new : Reader) (a : Current) (book : Book) (bytes : List ℕ) (told : Option HandEvent) (waiting : List ℕ) →
    CanFeed old.phase → Reaches old bytes told new → a.waiting ≡ bytes ++ waiting →
    GreetsOn (TookBytes bytes told ∷ []) (scene_of (Talks old) a book) (scene_of (stand_told told new) (record a { waiting = waiting }) book)
told_greets old new a book bytes told waiting can reaches is = record {
  runs = (
    stand_told told new,
    record { before = old; after = new; talks = refl; awaits = can; reaches = reaches; is = refl },
    refl,
  );
  advanced = fed_current a bytes waiting is;
  at_end = λ stop. absurd (true≢false (sym stop));
  cause = λ broke. absurd (true≢false (sym broke));
  booked = refl;
}

answer_taken : (e : GreetingEvent) → IsAnswer e → taken_in (e ∷ []) ≡ []
answer_taken (OptionAnswered calls told text) is = refl
answer_taken (OptionLost calls) is = refl
answer_taken (TookBytes bytes told) is = absurd is
answer_taken (InputStopped end) is = absurd is
answer_taken WireBroke is = absurd is

answer_goes : (e : GreetingEvent) → IsAnswer e → (has_stop (e ∷ []) ≡ false) × (has_break (e ∷ []) ≡ false)
answer_goes (OptionAnswered calls told text) is = (refl, refl)
answer_goes (OptionLost calls) is = (refl, refl)
answer_goes (TookBytes bytes told) is = absurd is
answer_goes (InputStopped end) is = absurd is
answer_goes WireBroke is = absurd is

-- an option was answered
pub answer_greets : {W : Type 0} (left sent : W → Option (List ℕ)) (read_faults write_faults waits : W → ℕ) (book book' : Book)
    (old new : Reader) (before after : WireBuffers W) (o : Option HandshakeEnd) → AnswersOption old before book o new after book' →
    GreetsSome (scene_of (Talks old) (current left sent read_faults write_faults waits before) book)
    (scene_of (stand_of new o) (current left sent read_faults write_faults waits after) book')
answer_greets {W} left sent read_faults write_faults waits book book' old new before after o answers =
    let a : Current = current left sent read_faults write_faults waits before in
    let e : GreetingEvent = answers.event in
    let b : Current = record a { held = a.held ++ given_out (e ∷ []) } in
    let same : current left sent read_faults write_faults waits after ≡ b =
    ap (λ (s : WireBuffers W). current left sent read_faults write_faults waits s) answers.stream in
    subst (λ (c : Current). GreetsSome (scene_of (Talks old) a book) (scene_of (stand_of new o) c book')) (sym same) (record {
      events = e ∷ [];
      greets = record {
        runs = (stand_of new o, answers.step, refl);
        advanced = advanced_as [] (taken_in (e ∷ [])) _ _ a b (sym (answer_taken e answers.answer)) refl
            (advanced_put a (given_out (e ∷ [])));
        at_end = λ stop. absurd (true≢false (sym stop ∙ (answer_goes e answers.answer).0));
        cause = λ broke. absurd (true≢false (sym broke ∙ (answer_goes e answers.answer).1));
        booked = answers.booked;
      };
    })

-- the reader was fed what waited
pub feeds_greets : {W : Type 0} (left sent : W → Option (List ℕ)) (read_faults write_faults waits : W → ℕ) (book : Book)
    (old new : Reader) (before after : WireBuffers W) (told : Option HandEvent) → CanFeed old.phase → FeedsReader old before told new after →
    GreetsSome (scene_of (Talks old) (current left sent read_faults write_faults waits before) book)
    (scene_of (stand_told told new) (current left sent read_faults write_faults waits after) book)
feeds_greets {W} left sent read_faults write_faults waits book old new before after told can feeds =
    let a : Current = current left sent read_faults write_faults waits before in
    let same : current left sent read_faults write_faults waits after ≡ record a { waiting = after.waiting } =
    ap (λ (s : WireBuffers W). current left sent read_faults write_faults waits s) feeds.rest in
    subst (λ (c : Current). GreetsSome (scene_of (Talks old) a book) (scene_of (stand_told told new) c book)) (sym same) (record {
      events = TookBytes feeds.bytes told ∷ [];
      greets = told_greets old new a book feeds.bytes told after.waiting can feeds.reaches feeds.waiting;
    })

-- the input ended
pub read_stops : (reader : Reader) (a c : Current) (book : Book) → CanFeed reader.phase → TriesRead Ended a c →
    GreetsSome (scene_of (Talks reader) a book) (scene_of (Closed (end_at reader.phase)) c book)
read_stops reader a c book can reads = record {
  events = InputStopped (end_at reader.phase) ∷ [];
  greets = record {
    runs = (
      Closed (end_at reader.phase),
      record { reader = reader; talks = refl; awaits = can; at_end = refl; is = refl },
      refl,
    );
    advanced = reads.advanced;
    at_end = λ stop. all_ended a.left c.left a.waiting c.waiting reads.advanced.takes reads.came reads.at_end;
    cause = λ broke. absurd (true≢false (sym broke));
    booked = refl;
  };
}

-- a read failed
pub read_breaks : (reader : Reader) (a c : Current) (book : Book) → TriesRead Failed a c →
    GreetsSome (scene_of (Talks reader) a book) (scene_of (Closed LinkFault) c book)
read_breaks reader a c book reads = record {
  events = WireBroke ∷ [];
  greets = record {
    runs = (Closed LinkFault, (tt, refl), refl);
    advanced = reads.advanced;
    at_end = λ stop. absurd (true≢false (sym stop));
    cause = λ broke. inl reads.cause.1;
    booked = refl;
  };
}

feeds_going : (o : Option HandshakeEnd) (reader : Reader) → o ≡ None → FeedsOn o reader.phase → CanFeed reader.phase
feeds_going o reader is feeds = subst (λ (x : Option HandshakeEnd). FeedsOn x reader.phase) is feeds

-- the same of a phase, by its fields
pub stops_fields : {W : Type 0} (left sent : W → Option (List ℕ)) (read_faults write_faults waits : W → ℕ) (book : Book) (q : PhaseValue W)
    (reader : Reader) (o : Option HandshakeEnd) (before after : WireBuffers W) (end : SessionEnd) →
    record { reader = reader; over = o; stream = before } ≡ q → o ≡ None → FeedsOn o reader.phase → end ≡ end_at reader.phase →
    TriesRead Ended (current left sent read_faults write_faults waits before) (current left sent read_faults write_faults waits after) →
    GreetsSome (greeting_scene left sent read_faults write_faults waits book q)
    (greeting_scene left sent read_faults write_faults waits book (record { reader = reader; over = Some (over.Closed end); stream = after }))
stops_fields {W} left sent read_faults write_faults waits book q reader o before after end is going feeds at reads =
    from_fields left sent read_faults write_faults waits book _ q _ is
    (subst (λ (x : Option HandshakeEnd). GreetsSome (greeting_scene left sent read_faults write_faults waits book (record { reader = reader; over = x; stream = before }))
    (scene_of (Closed end) (current left sent read_faults write_faults waits after) book)) (sym going)
    (subst (λ (e : SessionEnd). GreetsSome (scene_of (Talks reader) (current left sent read_faults write_faults waits before) book)
    (scene_of (Closed e) (current left sent read_faults write_faults waits after) book)) (sym at)
    (read_stops reader _ _ book (feeds_going o reader going feeds) reads)))

pub breaks_fields : {W : Type 0} (left sent : W → Option (List ℕ)) (read_faults write_faults waits : W → ℕ) (book : Book) (q : PhaseValue W)
    (reader : Reader) (o : Option HandshakeEnd) (before after : WireBuffers W) →
    record { reader = reader; over = o; stream = before } ≡ q → o ≡ None →
    TriesRead Failed (current left sent read_faults write_faults waits before) (current left sent read_faults write_faults waits after) →
    GreetsSome (greeting_scene left sent read_faults write_faults waits book q)
    (greeting_scene left sent read_faults write_faults waits book (record { reader = reader; over = Some (over.Closed LinkFault); stream = after }))
breaks_fields {W} left sent read_faults write_faults waits book q reader o before after is going reads =
    from_fields left sent read_faults write_faults waits book _ q _ is
    (subst (λ (x : Option HandshakeEnd). GreetsSome (greeting_scene left sent read_faults write_faults waits book (record { reader = reader; over = x; stream = before }))
    (scene_of (Closed LinkFault) (current left sent read_faults write_faults waits after) book)) (sym going)
    (read_breaks reader _ _ book reads))

abbrev phase_of_fields : {W : Type 0} → Reader → Option HandshakeEnd → WireBuffers W → PhaseValue W
phase_of_fields reader o stream = record { reader = reader; over = o; stream = stream }

-- the reader was fed what waited, and told nothing that wants an answer
pub hears_on : {W : Type 0} (left sent : W → Option (List ℕ)) (read_faults write_faults waits : W → ℕ) (book : Book) (q : PhaseValue W)
    (old new : Reader) (o : Option HandshakeEnd) (before after : WireBuffers W) (told : Option HandEvent) →
    record { reader = old; over = o; stream = before } ≡ q → o ≡ None → FeedsOn o old.phase → FeedsReader old before told new after →
    stand_told told new ≡ Talks new →
    GreetsSome (greeting_scene left sent read_faults write_faults waits book q)
    (greeting_scene left sent read_faults write_faults waits book (record { reader = new; over = o; stream = after }))
hears_on {W} left sent read_faults write_faults waits book q old new o before after told is going feeds fed talks =
    from_fields left sent read_faults write_faults waits book _ q _ is
    (subst (λ (x : Option HandshakeEnd). GreetsSome (greeting_scene left sent read_faults write_faults waits book (phase_of_fields old x before))
    (greeting_scene left sent read_faults write_faults waits book (phase_of_fields new x after))) (sym going)
    (subst (λ (s : Stand). GreetsSome (scene_of (Talks old) (current left sent read_faults write_faults waits before) book)
    (scene_of s (current left sent read_faults write_faults waits after) book)) talks
    (feeds_greets left sent read_faults write_faults waits book old new before after told (feeds_going o old going feeds) fed)))

-- or told that what came is refused
pub hears_bad : {W : Type 0} (left sent : W → Option (List ℕ)) (read_faults write_faults waits : W → ℕ) (book : Book) (q : PhaseValue W)
    (old new : Reader) (o : Option HandshakeEnd) (before after : WireBuffers W) (end : SessionEnd) →
    record { reader = old; over = o; stream = before } ≡ q → o ≡ None → FeedsOn o old.phase →
    FeedsReader old before (Some (Bad end)) new after →
    GreetsSome (greeting_scene left sent read_faults write_faults waits book q)
    (greeting_scene left sent read_faults write_faults waits book (record { reader = new; over = Some (over.Closed end); stream = after }))
hears_bad {W} left sent read_faults write_faults waits book q old new o before after end is going feeds fed =
    from_fields left sent read_faults write_faults waits book _ q _ is
    (subst (λ (x : Option HandshakeEnd). GreetsSome (greeting_scene left sent read_faults write_faults waits book (phase_of_fields old x before))
    (scene_of (Closed end) (current left sent read_faults write_faults waits after) book)) (sym going)
    (feeds_greets left sent read_faults write_faults waits book old new before after (Some (Bad end)) (feeds_going o old going feeds) fed))

-- or told of an option, which was answered then
pub hears_wanted : {W : Type 0} (left sent : W → Option (List ℕ)) (read_faults write_faults waits : W → ℕ) (book book' : Book)
    (q : PhaseValue W) (old mid new : Reader) (o o' : Option HandshakeEnd) (before between after : WireBuffers W) (want : Want) →
    record { reader = old; over = o; stream = before } ≡ q → o ≡ None → FeedsOn o old.phase →
    FeedsReader old before (Some (Wanted want)) mid between → AnswersOption mid between book o' new after book' →
    GreetsSome (greeting_scene left sent read_faults write_faults waits book q)
    (greeting_scene left sent read_faults write_faults waits book' (record { reader = new; over = o'; stream = after }))
hears_wanted {W} left sent read_faults write_faults waits book book' q old mid new o o' before between after want is going feeds fed answers =
    from_fields left sent read_faults write_faults waits book _ q _ is
    (subst (λ (x : Option HandshakeEnd). GreetsSome (greeting_scene left sent read_faults write_faults waits book (phase_of_fields old x before))
    (scene_of (stand_of new o') (current left sent read_faults write_faults waits after) book')) (sym going)
    (some_on _ _ _
    (feeds_greets left sent read_faults write_faults waits book old mid before between (Some (Wanted want)) (feeds_going o old going feeds) fed)
    (answer_greets left sent read_faults write_faults waits book book' mid new between after o' answers)))

pub fed_as : {W : Type 0} (old : Reader) (before : WireBuffers W) (told told' : Option HandEvent) (new : Reader) (after : WireBuffers W) →
    told ≡ told' → FeedsReader old before told new after → FeedsReader old before told' new after
fed_as old before told told' new after is fed = subst (λ (t : Option HandEvent). FeedsReader old before t new after) is fed

-- an option that is wanted something for is awaited its answer
pub record AskedFor (want : Want) (phase : Phase) : Type 0 where
  pub wish : Wish
  pub phase_is : phase ≡ Asked wish
  pub want_is : want ≡ want_of wish

option_asked : (fault : Option SessionEnd) (wish : Wish) (want : Want) → Wanted want ≡ event_of fault wish → AskedFor want (phase_of_option fault wish)
option_asked None wish want is = record { wish = wish; phase_is = refl; want_is = wanted_is is }
  where
    wanted_is : Wanted want ≡ Wanted (want_of wish) → want ≡ want_of wish
    wanted_is e = cc
option_asked (Some bad) wish want is = absurd (cc)

no_flags : (want : Want) (flags : ℕ) (known : Option ClientFlags) → Wanted want ≡ flags_event flags known → ⊥
no_flags want flags (Some known) is = cc
no_flags want flags None is = cc

asked_at : (terms : Terms) (phase : Phase) (bytes : List ℕ) (want : Want) (new : Reader) → Leads terms phase bytes (Some (Wanted want)) new →
    AskedFor want new.phase
asked_at terms (InFlags held) bytes want new p =
    let n = number32 (held ++ bytes) 0 in absurd (no_flags want n (flags_of n) p.1)
asked_at terms (InOption held) bytes want new p =
    let all = held ++ bytes in
    subst (λ (r : Reader). AskedFor want r.phase) (sym p.2)
    (option_asked (option_fault terms.fixed (option_head_of all)) (wish_in all) want p.1)
asked_at terms (Asked w) bytes want new p = absurd p
asked_at terms (Over how) bytes want new p = absurd p
asked_at terms (Stuck bad) bytes want new p = let e = p.1 in absurd (cc)

pub asked_by : (old new : Reader) (bytes : List ℕ) (want : Want) → Reaches old bytes (Some (Wanted want)) new →
    (wish : Wish) × ((new.phase ≡ Asked wish) × (want ≡ want_of wish))
asked_by old new bytes want reaches =
    let a = asked_at old.terms old.phase bytes want new reaches in (a.wish, (a.phase_is, a.want_is))

-- What the reader tells, and what comes of it.
use Rattle.std.proofs.Common.{◌≡◌, ◌≢◌, ℕ, Bool, true, false, true≢false, List, [], ◌∷◌, ◌++◌, refl, sym, ap, ◌∙◌, subst, arith, append-nil, cond}
use Rattle.std.specs.Prelude.{Option, Some, None}
use Rattle.qs_bytes.specs.declared.ask.Ask.{Ask}
use Rattle.qs_nbd_transmission.proofs.Reading.{asks_room}
use Rattle.qs_nbd_transmission.specs.Heads.{has_data}
use Rattle.qs_nbd_transmission.specs.Phases.{CanGive, Phase, InHead, Wants, Fills, Skips, Over, Stuck, Reaches, Reader, phase_with_room, room_size}
use Rattle.qs_nbd_transmission.specs.declared.event.Room.{Room}
use Rattle.qs_nbd_transmission.specs.declared.event.Room.TheVariants.{Keep, Drop}
use Rattle.qs_nbd_transmission.specs.declared.event.WireEvent.{WireEvent}
use Rattle.qs_nbd_transmission.specs.declared.event.WireEvent.TheVariants.{Head, Body, Disc, Bad}
use Rattle.qs_nbd_wire.specs.declared.request.RequestHead.{RequestHead}
use Rattle.qs_status.specs.declared.status.SessionEnd.{SessionEnd}
use Rattle.qs_task.specs.Books.{Book}
use Rattle.qs_task.specs.Crews.{CrewValue}
use Rattle.qs_wire_stream.specs.Currents.{Current, current}
use Rattle.qs_wire_stream.specs.Pending.{WireBuffers}
use Rattle.qs_serving.proofs.Running.{serves_none, serves_on}
use Rattle.qs_serving.proofs.Streams.{fed_current}
use Rattle.qs_serving.specs.Answers.{is_fault}
use Rattle.qs_serving.specs.Events.{ServingEvent, BeganTask, GaveRoom, TookBytes}
use Rattle.qs_serving.specs.Scenes.{ServesOn, ServingScene}
use Rattle.qs_serving.specs.Steps.{Announced, Entire, MayRead, NoneYet, ServingValue, Upcoming, closed_as, kept_in, left_if, next_after, told_value}
use Rattle.qs_transmission_phase.specs.Beginnings.{BeginsAsRead}
use Rattle.qs_transmission_phase.specs.Inside.{ReadsOn, upcoming}
use Rattle.qs_transmission_phase.specs.Serves.{FeedsReader, ServesSome}

abbrev pub scene_of : ServingValue → Current → Book → ServingScene
scene_of v a book = record { value = v; current = a; book = book }

-- the reader took bytes
told_serves : (v : ServingValue) (a : Current) (book : Book) (bytes : List ℕ) (told : Option WireEvent) (phase : Phase) (waiting : List ℕ) →
    v.ended ≡ None → MayRead v.next → Reaches v.reader.structured v.reader.phase bytes told phase → (told_value told phase v).reader.phase ≡ phase →
    a.waiting ≡ bytes ++ waiting →
    ServesOn (TookBytes bytes told ∷ []) (scene_of v a book) (scene_of (told_value told phase v) (record a { waiting = waiting }) book)
told_serves v a book bytes told phase waiting going may reaches same is = record {
  runs = (
    told_value told phase v,
    record {
      going = going;
      begun = may;
      reaches = subst (λ (p : Phase). Reaches v.reader.structured v.reader.phase bytes told p) (sym same) reaches;
      is = ap (λ (p : Phase). told_value told p v) (sym same);
    },
    refl,
  );
  advanced = fed_current a bytes waiting is;
  at_end = λ stop. absurd (true≢false (sym stop));
  cause = λ broke. absurd (true≢false (sym broke));
  booked = refl;
}

phase_kept : (told : Option WireEvent) (phase : Phase) (v : ServingValue) → (told_value told phase v).reader.phase ≡ phase
phase_kept None phase v = refl
phase_kept (Some (Head ask)) phase v = refl
phase_kept (Some (Body room)) phase v = refl
phase_kept (Some Disc) phase v = refl
phase_kept (Some (Bad bad)) phase v = refl

-- and then these events came, with the same stream
pub hears : {W : Type 0} (left sent : W → Option (List ℕ)) (read_faults write_faults waits : W → ℕ) (book : Book) (v new : ServingValue)
    (told : Option WireEvent) (reader : Reader) (before after : WireBuffers W) (es : List ServingEvent) → v.ended ≡ None → MayRead v.next →
    FeedsReader v.reader before told reader after →
    ((a : Current) → ServesOn es (scene_of (told_value told reader.phase v) a book) (scene_of new a book)) →
    ServesSome (scene_of v (current left sent read_faults write_faults waits before) book)
    (scene_of new (current left sent read_faults write_faults waits after) book)
hears {W} left sent read_faults write_faults waits book v new told reader before after es going may feeds then =
    let a : Current = current left sent read_faults write_faults waits before in
    let b : Current = record a { waiting = after.waiting } in
    let same : current left sent read_faults write_faults waits after ≡ b =
    ap (λ (s : WireBuffers W). current left sent read_faults write_faults waits s) feeds.rest in
    subst (λ (c : Current). ServesSome (scene_of v a book) (scene_of new c book)) (sym same) (record {
      events = (TookBytes feeds.bytes told ∷ []) ++ es;
      serves = serves_on (scene_of v a book) (scene_of (told_value told reader.phase v) b book) (scene_of new b book) (TookBytes feeds.bytes told ∷ []) es
          (told_serves v a book feeds.bytes told reader.phase after.waiting going may feeds.reaches (phase_kept told reader.phase v) feeds.waiting)
          (then b);
    })

pub reader_is : (old new : Reader) → new.structured ≡ old.structured → new ≡ record old { phase = new.phase }
reader_is old new is = ap (λ (s : Bool). record old { structured = s; phase = new.phase }) is

same_serves : (v new : ServingValue) (book : Book) → new ≡ v → (a : Current) → ServesOn [] (scene_of v a book) (scene_of new a book)
same_serves v new book is a = subst (λ (w : ServingValue). ServesOn [] (scene_of v a book) (scene_of w a book)) (sym is) (serves_none (scene_of v a book))

-- nothing was told
pub hears_none : (v : ServingValue) (reader : Reader) (book : Book) → reader.structured ≡ v.reader.structured → (a : Current) →
    ServesOn [] (scene_of (told_value None reader.phase v) a book) (scene_of (record v { reader = reader }) a book)
hears_none v reader book is = same_serves _ _ book (ap (λ (r : Reader). record v { reader = r }) (reader_is v.reader reader is))

-- the session closes
pub hears_end : (v : ServingValue) (told : Option WireEvent) (end : SessionEnd) (reader : Reader) (ended : Option SessionEnd) (crew : CrewValue)
    (book : Book) → reader.structured ≡ v.reader.structured →
    ((phase : Phase) → told_value told phase v ≡ closed_as end (record v { reader = record v.reader { phase = phase } })) →
    ended ≡ Some end → crew ≡ left_if (is_fault end) v.crew → (a : Current) →
    ServesOn [] (scene_of (told_value told reader.phase v) a book) (scene_of (record v { reader = reader; ended = ended; crew = crew }) a book)
hears_end v told end reader ended crew book same closes is left = same_serves _ _ book
    (ap (λ (r : Reader). record v { reader = r; ended = ended; crew = crew }) (reader_is v.reader reader same)
    ∙ ap (λ (o : Option SessionEnd). record v { reader = record v.reader { phase = reader.phase }; ended = o; crew = crew }) is
    ∙ ap (λ (w : CrewValue). record v { reader = record v.reader { phase = reader.phase }; ended = Some end; crew = w }) left
    ∙ sym (closes reader.phase))

-- the request that came whole begins
begins_serves : (v : ServingValue) (ask : Ask) (body : Option (List ℕ)) (crew : CrewValue) (book : Book) (begins : BeginsAsRead v.export ask body v.crew crew) →
    v.ended ≡ None → v.next ≡ Entire ask body → (a : Current) →
    ServesOn (BeganTask begins.task ∷ []) (scene_of v a book) (scene_of (record v { next = NoneYet; crew = crew }) a book)
begins_serves v ask body crew book begins going next a = record {
  runs = (
    record v { next = NoneYet; crew = crew },
    record {
      ask = ask;
      body = body;
      going = going;
      next = next;
      number = begins.number;
      read = begins.read;
      step = begins.step;
      is = refl;
    },
    refl,
  );
  advanced = (serves_none (scene_of v a book)).advanced;
  at_end = λ stop. absurd (true≢false (sym stop));
  cause = λ broke. absurd (true≢false (sym broke));
  booked = refl;
}

pub hears_whole : (v : ServingValue) (told : WireEvent) (ask : Ask) (body : Option (List ℕ)) (reader : Reader) (crew : CrewValue) (book : Book)
    (begins : BeginsAsRead v.export ask body v.crew crew) → reader.structured ≡ v.reader.structured → v.ended ≡ None →
    ((phase : Phase) → told_value (Some told) phase v ≡ record v { reader = record v.reader { phase = phase }; next = next_after (Some told) v.next }) →
    next_after (Some told) v.next ≡ Entire ask body → (a : Current) →
    ServesOn (BeganTask begins.task ∷ []) (scene_of (told_value (Some told) reader.phase v) a book)
    (scene_of (record v { reader = reader; next = NoneYet; crew = crew }) a book)
hears_whole v told ask body reader crew book begins same going goes next a =
    let r : Reader = record v.reader { phase = reader.phase } in
    subst (λ (w : ServingValue). ServesOn (BeganTask begins.task ∷ []) (scene_of w a book) (scene_of (record v { reader = reader; next = NoneYet; crew = crew }) a book))
    (sym (goes reader.phase))
    (subst (λ (x : Reader). ServesOn (BeganTask begins.task ∷ []) (scene_of (record v { reader = r; next = next_after (Some told) v.next }) a book)
    (scene_of (record v { reader = x; next = NoneYet; crew = crew }) a book)) (sym (reader_is v.reader reader same))
    (begins_serves (record v { reader = r; next = next_after (Some told) v.next }) ask body crew book begins going next a))

-- room was given for the data that were announced
pub hears_data : (v : ServingValue) (ask : Ask) (reader given : Reader) (room : Room) (book : Book) → reader.structured ≡ v.reader.structured →
    v.ended ≡ None → has_data ask ≡ true → CanGive reader.phase room → given ≡ record reader { phase = phase_with_room reader.phase room } →
    (a : Current) →
    ServesOn (GaveRoom room ∷ []) (scene_of (told_value (Some (Head ask)) reader.phase v) a book)
    (scene_of (record v { reader = given; next = Announced ask }) a book)
hears_data v ask reader given room book same going data_are can is a =
    let r : Reader = record v.reader { phase = reader.phase } in
    let next : next_after (Some (Head ask)) v.next ≡ Announced ask = ap (λ (b : Bool). cond b (Announced ask) (Entire ask None)) data_are in
    let new : Reader = record r { phase = phase_with_room r.phase room } in
    let given_is : given ≡ new = is ∙ ap (λ (x : Reader). record x { phase = phase_with_room x.phase room }) (reader_is v.reader reader same) in
    subst (λ (u : Upcoming). ServesOn (GaveRoom room ∷ []) (scene_of (record v { reader = r; next = u }) a book)
    (scene_of (record v { reader = given; next = Announced ask }) a book)) (sym next)
    (subst (λ (x : Reader). ServesOn (GaveRoom room ∷ []) (scene_of (record v { reader = r; next = Announced ask }) a book)
    (scene_of (record v { reader = x; next = Announced ask }) a book)) (sym given_is) (record {
      runs = (record v { reader = new; next = Announced ask }, record { going = going; can = can; is = refl }, refl);
      advanced = (serves_none (scene_of v a book)).advanced;
      at_end = λ stop. absurd (true≢false (sym stop));
      cause = λ broke. absurd (true≢false (sym broke));
      booked = refl;
    }))

-- where the reader is while the session goes on
pub head_next : (s : Bool) (old new : Phase) (next : Option Ask) (bytes : List ℕ) (ask : Ask) → ReadsOn None old next →
    Reaches s old bytes (Some (Head ask)) new → next ≡ None
head_next s (InHead held) new None bytes ask reads reaches = refl
head_next s (InHead held) new (Some other) bytes ask reads reaches = absurd reads
head_next s (Wants h) new next bytes ask reads reaches = absurd reaches
head_next s (Fills h got) new next bytes ask reads reaches = absurd reaches
head_next s (Skips h more) new next bytes ask reads reaches = absurd reaches
head_next s Over new next bytes ask reads reaches = absurd reaches
head_next s (Stuck bad) new next bytes ask reads reaches = absurd (head_stuck reaches.1)
  where
    head_stuck : Some (Head ask) ≡ Some (Bad bad) → ⊥
    head_stuck e = cc

pub wants_room : (s : Bool) (old new : Phase) (next : Option Ask) (bytes : List ℕ) (ask : Ask) → ReadsOn None old next →
    Reaches s old bytes (Some (Head ask)) new → has_data ask ≡ true → (room : Room) → room_size room ≡ ask.length →
    CanGive new room × ReadsOn None (phase_with_room new room) (Some ask)
wants_room s (InHead held) new next bytes ask reads reaches data_are room size =
    let wants = asks_room.some s (held ++ bytes) ask new reaches data_are in
    subst (λ (p : Phase). CanGive p room × ReadsOn None (phase_with_room p room) (Some ask)) (sym wants.1.0)
    (size ∙ sym wants.1.1, rooms wants.0 room wants.1.1)
  where
    rooms : (h : RequestHead) (room : Room) → h.size ≡ ask.length → ReadsOn None (phase_with_room (Wants h) room) (Some ask)
    rooms h (Keep buffer) is = is
    rooms h (Drop count) is = is
wants_room s (Wants h) new next bytes ask reads reaches data_are room size = absurd reaches
wants_room s (Fills h got) new next bytes ask reads reaches data_are room size = absurd reaches
wants_room s (Skips h more) new next bytes ask reads reaches data_are room size = absurd reaches
wants_room s Over new next bytes ask reads reaches data_are room size = absurd reaches
wants_room s (Stuck bad) new next bytes ask reads reaches data_are room size =
    let never : Some (Head ask) ≡ Some (Bad bad) = reaches.1 in (cc)

pub bare_reads : (s : Bool) (old new : Phase) (next : Option Ask) (bytes : List ℕ) (ask : Ask) → ReadsOn None old next →
    Reaches s old bytes (Some (Head ask)) new → has_data ask ≡ false → ReadsOn None new next
bare_reads s (InHead held) new None bytes ask reads reaches bare =
    subst (λ (p : Phase). ReadsOn None p None) (sym (asks_room.none s (held ++ bytes) ask new reaches bare)) tt
bare_reads s (InHead held) new (Some other) bytes ask reads reaches bare = absurd reads
bare_reads s (Wants h) new next bytes ask reads reaches bare = absurd reaches
bare_reads s (Fills h got) new next bytes ask reads reaches bare = absurd reaches
bare_reads s (Skips h more) new next bytes ask reads reaches bare = absurd reaches
bare_reads s Over new next bytes ask reads reaches bare = absurd reaches
bare_reads s (Stuck bad) new next bytes ask reads reaches bare =
    let never : Some (Head ask) ≡ Some (Bad bad) = reaches.1 in (cc)

pub feeds_as : {W : Type 0} (old : Reader) (before : WireBuffers W) (told told' : Option WireEvent) (new : Reader) (after : WireBuffers W) →
    told ≡ told' → FeedsReader old before told new after → FeedsReader old before told' new after
feeds_as old before told told' new after is feeds = subst (λ (t : Option WireEvent). FeedsReader old before t new after) is feeds

-- the phase, by its fields
abbrev pub value_by : (export : ℕ) (reader : Reader) (next : Option Ask) (crew : CrewValue) (ended : Option SessionEnd) (detached : Bool) → ServingValue
value_by export reader next crew ended detached =
    record { export = export; reader = reader; next = upcoming next; crew = crew; ended = ended; detached = detached }

-- the data that were announced came
pub body_next : (s : Bool) (old new : Phase) (next : Option Ask) (bytes : List ℕ) (room : Room) → ReadsOn None old next →
    Reaches s old bytes (Some (Body room)) new → next ≢ None
body_next s (InHead held) new next bytes room reads reaches = absurd reaches
body_next s (Wants h) new next bytes room reads reaches = absurd reaches
body_next s (Fills h got) new None bytes room reads reaches = absurd reads
body_next s (Fills h got) new (Some ask) bytes room reads reaches = λ e. absurd (cc)
body_next s (Skips h more) new None bytes room reads reaches = absurd reads
body_next s (Skips h more) new (Some ask) bytes room reads reaches = λ e. absurd (cc)
body_next s Over new next bytes room reads reaches = absurd reaches
body_next s (Stuck bad) new next bytes room reads reaches =
    let never : Some (Body room) ≡ Some (Bad bad) = reaches.1 in λ e. absurd (cc)

pub reads_going : (o : Option SessionEnd) (phase : Phase) (next : Option Ask) → o ≡ None → ReadsOn o phase next → ReadsOn None phase next
reads_going o phase next going reads = subst (λ (x : Option SessionEnd). ReadsOn x phase next) going reads

-- the same with another spelling of what follows
pub with_next : (v : ServingValue) (reader : Reader) (next : Option Ask) (crew : CrewValue) (book : Book) (es : List ServingEvent) (a : Current)
    (from : ServingScene) → next ≡ None → ServesOn es from (scene_of (record v { reader = reader; next = NoneYet; crew = crew }) a book) →
    ServesOn es from (scene_of (record v { reader = reader; next = upcoming next; crew = crew }) a book)
with_next v reader next crew book es a from is serves =
    subst (λ (o : Option Ask). ServesOn es from (scene_of (record v { reader = reader; next = upcoming o; crew = crew }) a book)) (sym is) serves

pub with_crew : (v : ServingValue) (reader : Reader) (next : Upcoming) (crew : CrewValue) (book : Book) (es : List ServingEvent) (a : Current)
    (from : ServingScene) → crew ≡ v.crew → ServesOn es from (scene_of (record v { reader = reader; next = next }) a book) →
    ServesOn es from (scene_of (record v { reader = reader; next = next; crew = crew }) a book)
with_crew v reader next crew book es a from is serves =
    subst (λ (w : CrewValue). ServesOn es from (scene_of (record v { reader = reader; next = next; crew = w }) a book)) (sym is) serves

pub bare_next : (ask : Ask) (next : Upcoming) → has_data ask ≡ false → next_after (Some (Head ask)) next ≡ Entire ask None
bare_next ask next bare = ap (λ (b : Bool). cond b (Announced ask) (Entire ask None)) bare

pub whole_next : (ask : Ask) (room : Room) (next : Option Ask) (body : Option (List ℕ)) → next ≡ Some ask → body ≡ kept_in room →
    next_after (Some (Body room)) (upcoming next) ≡ Entire ask body
whole_next ask room next body is kept =
    ap (λ (o : Option Ask). next_after (Some (Body room)) (upcoming o)) is ∙ ap (λ (b : Option (List ℕ)). Entire ask b) (sym kept)

pub may_read : (next : Option Ask) → MayRead (upcoming next)
may_read None = tt
may_read (Some ask) = tt

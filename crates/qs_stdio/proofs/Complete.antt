-- A valid input is served to its end.
use Rattle.std.proofs.Common.{◌≡◌, ◌≢◌, ℕ, ◌≤◌, ◌^◌, ◌⊎◌, inl, inr, Bool, true, false, not, List, [], ◌∷◌, ◌++◌, length, refl, sym, ap, ◌∙◌, subst, arith, append-nil, append_assoc, length-append, true≢false}
use Rattle.std.proofs.lemmas.Option.{none-some}
use Rattle.std.specs.Prelude.{Option, Some, String, Result, Ok, Err, map}
use Rattle.std.specs.Global.{Global}
use Rattle.std.specs.List.{All, AllByRecursion, flat_map}
use Rattle.std.proofs.lemmas.Bool.Decides.{nat_tests}
use Rattle.std.proofs.lemmas.List.{length-map}
use Rattle.std.proofs.lemmas.List.Folds.{flat_map-map}
use Rattle.std.proofs.lemmas.List.Elements.{All-from_recursion}
use Rattle.qs_bytes.specs.Numbers.{number32}
use Rattle.qs_status.specs.declared.status.OpenBad.{OpenBad}
use Rattle.qs_status.specs.declared.status.OpenBad.TheVariants as bad
use Rattle.qs_status.specs.declared.status.Status.{Status}
use Rattle.qs_status.specs.declared.status.Status.TheVariants as status
use Rattle.qs_status.specs.declared.status.SessionEnd.{SessionEnd}
use Rattle.qs_status.specs.declared.status.SessionEnd.TheVariants as end
use Rattle.qs_nbd_wire.specs.declared.request.RequestHead.{RequestHead}
use Rattle.qs_nbd_transmission.specs.declared.event.WireEvent.TheVariants as event
use Rattle.qs_nbd_wire.specs.Requests.{request_magic, head_bytes, head_of, disc, has_body, is_too_long, IsHead, Message, IsMessage, BeginsNone, spelling}
use Rattle.qs_nbd_transmission.specs.Phases.{Over, Stuck}
use Rattle.qs_nbd_wire.proofs.Requests.{length-head_bytes, magic-head_bytes}
use Rattle.qs_nbd_wire.proofs.Widths.{number32-append}
use Rattle.qs_nbd_transmission.proofs.Streams.{same_head, message_once, first_of_all, rest_of_all, one_reading, rests_begin, tells_messages}
use Rattle.qs_outside.specs.Blocks.{Seen}
use Rattle.qs_image.specs.Image.{size_of}
use Rattle.qs_image.specs.Opening.{IsImage, Opens as OpensAs}
use Rattle.qs_stdio_words.specs.declared.words.StdioWords.{StdioWords}
use Rattle.qs_stdio_words.specs.Words.{command}
use Rattle.qs_stdio.specs.Service.{Exchange, AllFit, answered_bytes, asked_bytes}
use Rattle.qs_stdio.specs.Scenes.{Scene, IsCutMessage, disks_in}
use Rattle.qs_stdio.specs.Streams.{Leaves, IsValidStream, IsServed}
use Rattle.qs_stdio.specs.Sessions.{IsValidInput, IsValidSession}
use Rattle.qs_stream.specs.declared.state.State.{State}
use Rattle.qs_stream.specs.declared.state.State.TheVariants as state
use Rattle.qs_stream.specs.Flows.{Flow, Side}
use Rattle.qs_world.specs.Values.{WorldValue}
use Rattle.qs_calls.specs.Runs.{Begins}
use Rattle.qs_outside.specs.declared.stream.Failed.{Failed}
use Rattle.qs_opening.specs.declared.turn.Opened.{Opened}
use Rattle.qs_opening.specs.declared.turn.Opened.TheVariants.{Transmit, Ends as Ended}
use Rattle.qs_opening.specs.Openings.{OpensSession}
use Rattle.qs_stdio.specs.Runs.{Concludes, Declines, Holds, ServesStream, Sitting, Ran, fault_at, opening_scene, last_scene}
use Rattle.qs_stdio.proofs.Awaiting.{Awaits, Split, split, used_up}
use Rattle.qs_stdio.proofs.Opening.{ends_memory, requests_come}
use Rattle.qs_stdio.proofs.Sought.{nothing_front}

-- no more messages are read than the stream has
few_read : (xs ms : List Message) (rest last : List ℕ) → All IsMessage xs → All IsMessage ms → BeginsNone last →
    flat_map spelling xs ++ rest ≡ flat_map spelling ms ++ last → length xs ≤ length ms
few_read [] ms rest last p q none e = omega arith
few_read (x ∷ xs) [] rest last p q none e =
    absurd (none x (flat_map spelling xs ++ rest) (first_of_all x xs p) (sym e ∙ append_assoc (spelling x) (flat_map spelling xs) rest))
few_read (x ∷ xs) (m ∷ ms) rest last p q none e =
    let one = message_once x m (flat_map spelling xs ++ rest) (flat_map spelling ms ++ last) (first_of_all x xs p) (first_of_all m ms q)
    (sym (append_assoc (spelling x) (flat_map spelling xs) rest) ∙ e ∙ append_assoc (spelling m) (flat_map spelling ms) last) in
    let fewer : length xs ≤ length ms = few_read xs ms rest last (rest_of_all x xs p) (rest_of_all m ms q) none one.1 in
    omega arith

-- the bytes of the messages of a session
asked_is : (xs : List Exchange) → flat_map spelling (map (λ (x : Exchange). x.message) xs) ≡ asked_bytes xs
asked_is xs = flat_map-map spelling (λ (x : Exchange). x.message) xs

each_message : (session size : ℕ) (writable structured : Bool) (xs : List Exchange) → AllFit session size writable structured xs → AllByRecursion IsMessage (map (λ (x : Exchange). x.message) xs)
each_message session size writable structured [] fit = tt
each_message session size writable structured (x ∷ xs) fit = (fit.0.message, each_message session size writable structured xs fit.1)

-- a DISC begins with no message, and so does nothing at all
leaves_none : (last : List ℕ) → Leaves last → BeginsNone last
leaves_none last leaves =
    let h : RequestHead = head_of leaves.leave in
    subst (λ (xs : List ℕ). BeginsNone xs) (sym (leaves.whole ∙ ap (λ (xs : List ℕ). xs ++ leaves.more) leaves.is.0.spelled))
    (rests_begin.refused false (head_bytes h) leaves.more event.Disc Over tt (tells_messages.leave false h leaves.is.0.fits leaves.is.1))

last_none : (last : List ℕ) → (last ≡ []) ⊎ Leaves last → BeginsNone last
last_none last (inl is) = subst (λ (xs : List ℕ). BeginsNone xs) (sym is) (rests_begin.front [] nothing_front)
last_none last (inr leaves) = leaves_none last leaves

-- a rest that begins with no message is the stream's last part
rest_is : (xs : List Exchange) (ms : List Message) (session size : ℕ) (writable structured : Bool) (stream rest last : List ℕ) → AllFit session size writable structured xs → All IsMessage ms →
    BeginsNone rest → BeginsNone last → stream ≡ asked_bytes xs ++ rest → stream ≡ flat_map spelling ms ++ last → rest ≡ last
rest_is xs ms session size writable structured stream rest last fit each none never one other =
    (one_reading (map (λ (x : Exchange). x.message) xs) ms rest last (All-from_recursion _ _ (each_message session size writable structured xs fit)) each none never
    (ap (λ (bytes : List ℕ). bytes ++ rest) (asked_is xs) ∙ sym one ∙ other)).1

-- a DISC is no WRITE
not_write : (h : RequestHead) → h.kind ≡ disc → has_body h ≡ true → ⊥
not_write h leaves body = grind (arith, nat_tests)

not_long : (h : RequestHead) → h.kind ≡ disc → is_too_long h ≡ true → ⊥
not_long h leaves long = grind (arith, nat_tests)

-- the bytes of a head
head_long : (bytes : List ℕ) (h : RequestHead) → IsHead bytes h → length bytes ≡ 28
head_long bytes h is = ap length is.spelled ∙ length-head_bytes h

-- a head that begins a stream is that of the DISC that begins it
same_leave : (front more last : List ℕ) (leaves : Leaves last) → IsHead front (head_of front) → front ++ more ≡ last →
    head_of front ≡ head_of leaves.leave
same_leave front more last leaves is e =
    (same_head (head_of front) (head_of leaves.leave) more leaves.more is.fits leaves.is.0.fits
    (ap (λ (xs : List ℕ). xs ++ more) (sym is.spelled)
    ∙ e
    ∙ leaves.whole
    ∙ ap (λ (xs : List ℕ). xs ++ leaves.more) leaves.is.0.spelled)).0

-- some bytes of a message, and not all, begin with none
cut_none : (rest : List ℕ) → IsCutMessage rest → BeginsNone rest
cut_none rest (inl front) = rests_begin.front rest front.0
cut_none rest (inr cut) =
    subst (λ (xs : List ℕ). BeginsNone xs) (sym (cut.whole ∙ ap (λ (xs : List ℕ). xs ++ cut.got) cut.head.spelled))
    (rests_begin.partial (head_of cut.front) cut.got cut.head.fits cut.wants cut.short)

-- and aren't how a valid stream ends
cut_not : (rest : List ℕ) → IsCutMessage rest → (rest ≡ []) ⊎ Leaves rest → ⊥
cut_not rest (inl front) (inl is) = absurd (omega (arith, ap length is, front.1))
cut_not rest (inl front) (inr leaves) =
    absurd (omega (arith, ap length leaves.whole, length-append leaves.leave leaves.more, head_long leaves.leave (head_of leaves.leave) leaves.is.0, front.0.short))
cut_not rest (inr cut) (inl is) =
    absurd (omega (arith, ap length (sym is ∙ cut.whole), length-append cut.front cut.got, head_long cut.front (head_of cut.front) cut.head))
cut_not rest (inr cut) (inr leaves) =
    let same : head_of cut.front ≡ head_of leaves.leave = same_leave cut.front cut.got rest leaves cut.head (sym cut.whole) in
    not_write (head_of cut.front) (ap (λ (h : RequestHead). h.kind) same ∙ leaves.is.1) cut.wants

-- a wrong magic isn't how a valid stream ends
magic_not : (rest remaining last : List ℕ) → length rest ≡ 4 → number32 rest 0 ≢ request_magic → rest ++ remaining ≡ last →
    (last ≡ []) ⊎ Leaves last → ⊥
magic_not rest remaining last four wrong e (inl is) =
    absurd (omega (arith, ap length (e ∙ is), length-append rest remaining))
magic_not rest remaining last four wrong e (inr leaves) =
    let long : 4 ≤ length rest = omega arith in
    wrong
    (sym (number32-append rest remaining long)
    ∙ ap (λ (xs : List ℕ). number32 xs 0) (e ∙ leaves.whole ∙ ap (λ (xs : List ℕ). xs ++ leaves.more) leaves.is.0.spelled)
    ∙ magic-head_bytes (head_of leaves.leave) leaves.more)

-- nor is a WRITE that is too long
long_not : (rest remaining last : List ℕ) → IsHead rest (head_of rest) → is_too_long (head_of rest) ≡ true → rest ++ remaining ≡ last →
    (last ≡ []) ⊎ Leaves last → ⊥
long_not rest remaining last is long e (inl empty) =
    absurd (omega (arith, ap length (e ∙ empty), length-append rest remaining, head_long rest (head_of rest) is))
long_not rest remaining last is long e (inr leaves) =
    let same : head_of rest ≡ head_of leaves.leave = same_leave rest remaining last leaves is e in
    not_long (head_of rest) (ap (λ (h : RequestHead). h.kind) same ∙ leaves.is.1) long

-- disks that are an image break no rule
opens_not : (disks : List Seen) (fault : OpenBad) → IsImage disks → OpensAs disks (Some fault) → ⊥
opens_not disks (bad.Count n) is opens = opens.1 (opens.0 ∙ is.0.0)
opens_not disks (bad.Different k) is opens = opens.3 (is.0.1 k opens.1)
opens_not disks (bad.Align a) is opens = opens.1.1 is.1.0
opens_not disks (bad.Length n) is opens = opens.1.2 is.1.1
opens_not disks (bad.TooLarge n) is opens = absurd (omega (arith, opens.1.0, opens.1.3, is.1.2))

module _ {D : Type 0} (seen : D → Seen) (session : ℕ) (writable structured : Bool) (stream : List ℕ) (before after : Scene D) (valid : IsValidStream stream) (awaits : Awaits stream before.flow) where
  abbrev Sits : Status → Type 0
  Sits s = Sitting seen session writable structured (2 ^ 32) before after s

  -- what was taken, and what is to come
  parts : (s : Status) (sits : Sits s) → Split stream (asked_bytes sits.exchanges ++ sits.rest) after.flow
  parts s sits = split stream (asked_bytes sits.exchanges ++ sits.rest) (answered_bytes sits.exchanges) before.flow after.flow awaits sits.moved

  -- the rest, with what is left behind it, ends the stream
  ends_stream : (s : Status) (sits : Sits s) → BeginsNone (sits.rest ++ (parts s sits).remaining) →
      sits.rest ++ (parts s sits).remaining ≡ valid.last
  ends_stream s sits none =
      rest_is sits.exchanges valid.messages session (size_of (disks_in seen before)) writable structured stream (sits.rest ++ (parts s sits).remaining) valid.last sits.fit valid.each none
      (last_none valid.last valid.ends) ((parts s sits).whole ∙ append_assoc (asked_bytes sits.exchanges) sits.rest (parts s sits).remaining) valid.whole

  -- the budget isn't spent
  not_spent : (sits : Sits status.Spent) → ⊥
  not_spent sits =
      let xs : List Message = map (λ (x : Exchange). x.message) sits.exchanges in
      let behind : List ℕ = sits.rest ++ (parts status.Spent sits).remaining in
      let fewer : length xs ≤ length valid.messages =
      few_read xs valid.messages behind valid.last (All-from_recursion _ _ (each_message session (size_of (disks_in seen before)) writable structured sits.exchanges sits.fit)) valid.each (last_none valid.last valid.ends)
      (ap (λ (bytes : List ℕ). bytes ++ behind) (asked_is sits.exchanges)
      ∙ sym ((parts status.Spent sits).whole ∙ append_assoc (asked_bytes sits.exchanges) sits.rest (parts status.Spent sits).remaining)
      ∙ valid.whole) in
      absurd (omega (arith, fewer, length-map sits.exchanges (λ (x : Exchange). x.message), sits.ends.1, valid.few))

  -- and the session doesn't end by a fault of the bytes
  not_ended : (e : SessionEnd) → Sits (status.Ended e) → ⊥
  not_ended end.Truncated sits =
      let whole : sits.rest ++ (parts _ sits).remaining ≡ sits.rest =
      ap (λ (xs : List ℕ). sits.rest ++ xs) (used_up (parts _ sits).remaining after.flow (parts _ sits).awaits sits.ends.1) ∙ append-nil sits.rest in
      let is : sits.rest ≡ valid.last = sym whole ∙ ends_stream _ sits (subst (λ (xs : List ℕ). BeginsNone xs) (sym whole) (cut_none sits.rest sits.ends.0)) in
      cut_not sits.rest sits.ends.0 (subst (λ (xs : List ℕ). (xs ≡ []) ⊎ Leaves xs) (sym is) valid.ends)
  not_ended (end.BadMagic found) sits =
      let wrong : number32 sits.rest 0 ≢ request_magic = λ e. sits.ends.2 (sits.ends.1 ∙ e) in
      magic_not sits.rest (parts _ sits).remaining valid.last sits.ends.0 wrong
      (ends_stream _ sits
      (rests_begin.refused false sits.rest (parts _ sits).remaining (event.Bad (end.BadMagic found)) (Stuck (end.BadMagic found)) tt
      (record { four = sits.ends.0; told = sits.ends.1; bad = sits.ends.2; stuck = refl })))
      valid.ends
  not_ended (end.TooLong n) sits =
      long_not sits.rest (parts _ sits).remaining valid.last sits.ends.0 sits.ends.1
      (ends_stream _ sits
      (rests_begin.refused false sits.rest (parts _ sits).remaining (event.Bad (end.TooLong n)) (Stuck (end.TooLong n)) tt
      (record { head = sits.ends.0; long = sits.ends.1; told = sits.ends.2; stuck = refl })))
      valid.ends
  not_ended other sits = absurd sits.ends

  -- so it is served, where no side fails
  pub sits_served : (s : Status) → Sits s → (s ≡ status.ReadFault → ⊥) → (s ≡ status.WriteFault → ⊥) → IsServed s
  sits_served status.Done sits read write = inl refl
  sits_served status.Memory sits read write = inr refl
  sits_served status.ReadFault sits read write = absurd (read refl)
  sits_served status.WriteFault sits read write = absurd (write refl)
  sits_served status.Spent sits read write = absurd (not_spent sits)
  sits_served (status.Ended e) sits read write = absurd (not_ended e sits)
  sits_served other sits read write = absurd sits.ends

-- no side failed
never_failed : (result : Status) (s : State) → (result ≡ status.ReadFault → ⊥) → (result ≡ status.WriteFault → ⊥) → result ≡ fault_at s → ⊥
never_failed result state.ReadFault read write is = read is
never_failed result state.WriteFault read write is = write is
never_failed result state.Open read write is = write is

module _ {D : Type 0} (seen : D → Seen) (disks : List D) (read_only : Bool) (input output : Side) (start : WorldValue D) (input' output' : Side) (new : WorldValue D)
    (begins : Begins seen disks read_only start) (stream : List ℕ) (told : input.bytes ≡ Some stream) where
  -- all of the stream is to come
  at_first : (world : WorldValue D) → Awaits stream (opening_scene input output world).flow
  at_first world = record { left = stream; told = told; whole = refl }

  -- a handshake that ended the session
  declines_served : (result : Status) → IsValidSession stream → (result ≡ status.ReadFault → ⊥) → (result ≡ status.WriteFault → ⊥) →
      Declines seen read_only (2 ^ 32) input output start result input' output' new → IsServed result
  declines_served result valid read write d = go d.opened d.opens d.concludes
    where
      go : (opened : Result Opened Failed) → OpensSession {E = Failed} seen 0 (not read_only) (2 ^ 32) (opening_scene input output start).flow start opened d.flow new →
          Concludes opened result d.stream → IsServed result
      go (Ok (Transmit mode)) opens concludes = absurd concludes
      go (Ok (Ended how)) opens (inl is) =
          inr (is.2 ∙ ends_memory seen disks read_only 0 (not read_only) (opening_scene input output start).flow start d.flow new begins stream (at_first start) valid how opens)
      go (Ok (Ended how)) opens (inr is) = absurd (never_failed result d.stream.state read write is.1)
      go (Err e) opens concludes = absurd (never_failed result d.stream.state read write concludes.1)

  -- one client
  serves_served : (transmission : Bool) (result : Status) → IsValidInput transmission stream → (result ≡ status.ReadFault → ⊥) → (result ≡ status.WriteFault → ⊥) →
      ServesStream seen disks read_only transmission (2 ^ 32) input output start result input' output' new → IsServed result
  serves_served true result valid read write (inl sits) =
      sits_served seen 0 (not read_only) sits.mode.structured stream (record { flow = sits.flow; world = sits.begun }) (last_scene input' output' sits.stream new) valid
      (subst (λ (f : Flow). Awaits stream f) (sym sits.comes.1) (at_first sits.begun)) result sits.sits read write
  serves_served false result valid read write (inl sits) =
      sits_served seen 0 (not read_only) sits.mode.structured valid.requests (record { flow = sits.flow; world = sits.begun }) (last_scene input' output' sits.stream new) valid.valid
      (requests_come seen disks read_only 0 (not read_only) (opening_scene input output start).flow start sits.flow sits.begun begins stream (at_first start) valid sits.mode sits.comes) result sits.sits read write
  serves_served transmission result valid read write (inr (inl forgoes)) = inr forgoes.result_is
  serves_served true result valid read write (inr (inr declines)) = absurd (true≢false declines.0)
  serves_served false result valid read write (inr (inr declines)) = declines_served result valid read write declines.1

-- a valid input over an image, without a fault of its ends, is served
pub complete_of : {D : Type 0} (seen : D → Seen) (words : List (String Global)) (disks disks' : List D) (input output : Side) (result : Status) (input' output' : Side) (stream : List ℕ) →
    Ran words seen disks input output result disks' input' output' → input.bytes ≡ Some stream → (told : StdioWords) → command words ≡ Some told → IsValidInput told.transmission stream →
    IsImage (map seen disks) → (result ≡ status.ReadFault → ⊥) → (result ≡ status.WriteFault → ⊥) → IsServed result
complete_of {D} seen words disks disks' input output result input' output' stream ran is told told_is valid image read write = go result ran read write
  where
    same_told : (o : Option StdioWords) (a b : StdioWords) → o ≡ Some a → o ≡ Some b → a ≡ b
    same_told o a b p q = cc

    held : (s : Status) (other : StdioWords) → command words ≡ Some other → Holds seen disks other.read_only other.transmission input output s disks' input' output' →
        (s ≡ status.ReadFault → ⊥) → (s ≡ status.WriteFault → ⊥) → IsServed s
    held s other q holds read write =
        serves_served seen disks other.read_only input output holds.start input' output' holds.new holds.begins stream is other.transmission s
        (subst (λ (w : StdioWords). IsValidInput w.transmission stream) (same_told (command words) told other told_is q) valid) read write holds.serves

    go : (s : Status) → Ran words seen disks input output s disks' input' output' → (s ≡ status.ReadFault → ⊥) → (s ≡ status.WriteFault → ⊥) → IsServed s
    go status.Usage ran read write = absurd (none-some told (sym ran.0 ∙ told_is))
    go (status.OpenBad fault) ran read write = absurd (opens_not (map seen disks) fault image ran.2.0)
    go status.Memory ran read write = inr refl
    go other ran read write = held other ran.0 ran.1 ran.2 read write

-- What the calls of a session tell together, by induction on them.
use Rattle.std.proofs.Common.{◌≡◌, ℕ, ◌+◌, ◌<◌, Bool, true, false, nat_lt, List, [], ◌∷◌, ◌++◌, length, replicate, Some, None, refl, ap, sym, ◌∙◌, subst, append_assoc, arith}
use Rattle.std.specs.List.{flat_map}
use Rattle.std.proofs.lemmas.List.{length-append, append-nil, replicate_more}
use Rattle.std.proofs.lemmas.List.Elements.{All-append, All-cons, All-nil}
use Rattle.std.proofs.lemmas.Grind.{flat_map-append}
use Rattle.std.proofs.lemmas.Bool.{ltb-true}
use Rattle.qs_bytes.specs.declared.ask.Ask.{Ask}
use Rattle.qs_status.specs.declared.status.SessionEnd.{SessionEnd}
use Rattle.qs_status.specs.declared.status.SessionEnd.TheVariants.{BadMagic, TooLong}
use Rattle.qs_nbd_wire.specs.declared.request.RequestHead.{RequestHead}
use Rattle.qs_nbd_transmission.specs.declared.event.Room.{Room}
use Rattle.qs_nbd_transmission.specs.declared.event.Room.TheVariants.{Keep, Drop}
use Rattle.qs_nbd_transmission.specs.declared.event.WireEvent.{WireEvent}
use Rattle.qs_nbd_transmission.specs.declared.event.WireEvent.TheVariants as event
use Rattle.qs_nbd_wire.specs.Requests.{head_bytes, head_of, is_write_head, has_body, spelling}
use Rattle.qs_nbd_transmission.specs.Heads.{IsHeadFront, ask_of}
use Rattle.qs_nbd_transmission.specs.Phases.{Phase, InHead, Wants, Fills, Skips, Over, Stuck, phase_with_room, HeadTells, KeptTell, PassedTell, StaysStuck, IsServed, IsLeaving}
use Rattle.qs_nbd_transmission.specs.Sessions.{ReaderCall, Took, Gave, CallLeads, CallsLead, taken_by, told_by, Heard, IsHeard, events_of, IsAwaiting, EndsWith, TellsEvents, ReadsSessions}
use Rattle.qs_nbd_transmission.proofs.Reading.{behind_wants, behind_none, kept_whole, passed_whole}
use Rattle.qs_nbd_transmission.proofs.ReplyLaws.{second_of}

-- the same messages, and more behind them
longer : (s : Bool) (old new : Phase) (bytes more : List ℕ) (events further : List WireEvent) → (p : TellsEvents s old bytes events) → EndsWith s new (p.rest ++ more) (p.last ++ further) → TellsEvents s new (bytes ++ more) (events ++ further)
longer s old new bytes more events further p leaves = record {
  heard = p.heard;
  rest = p.rest ++ more;
  last = p.last ++ further;
  each = p.each;
  taken = ap (λ xs. xs ++ more) p.taken ∙ append_assoc (flat_map (λ (x : Heard). spelling x.message) p.heard) p.rest more;
  told = ap (λ xs. xs ++ further) p.told ∙ append_assoc (flat_map (events_of s) p.heard) p.last further;
  leaves = leaves;
}

no_front : IsHeadFront []
no_front = record { short = omega arith; magic = λ four. absurd (omega arith) }

-- one message more, and nothing behind it
whole : (s : Bool) (old : Phase) (bytes more : List ℕ) (events further : List WireEvent) → (p : TellsEvents s old bytes events) → (x : Heard) → IsHeard x → p.rest ++ more ≡ spelling x.message → p.last ++ further ≡ events_of s x → TellsEvents s (InHead []) (bytes ++ more) (events ++ further)
whole s old bytes more events further p x is spelled tells =
    let f : Heard → List ℕ = λ (y : Heard). spelling y.message in
    record {
      heard = p.heard ++ x ∷ [];
      rest = [];
      last = [];
      each = All-append IsHeard p.heard (x ∷ []) p.each (All-cons IsHeard x [] is (All-nil IsHeard));
      taken = ap (λ xs. xs ++ more) p.taken ∙ append_assoc (flat_map f p.heard) p.rest more ∙ ap (λ xs. flat_map f p.heard ++ xs) (spelled ∙ sym (append-nil (f x)))
          ∙ sym (flat_map-append f p.heard (x ∷ [])) ∙ sym (append-nil (flat_map f (p.heard ++ x ∷ [])));
      told = ap (λ xs. xs ++ further) p.told ∙ append_assoc (flat_map (events_of s) p.heard) p.last further ∙ ap (λ xs. flat_map (events_of s) p.heard ++ xs) (tells ∙ sym (append-nil (events_of s x)))
          ∙ sym (flat_map-append (events_of s) p.heard (x ∷ [])) ∙ sym (append-nil (flat_map (events_of s) (p.heard ++ x ∷ [])));
      leaves = (refl, no_front, refl);
    }

-- bytes of a head that bring no event
more_head : (s : Bool) (held bytes more : List ℕ) (events : List WireEvent) (new : Phase) → TellsEvents s (InHead held) bytes events → HeadTells s (held ++ more) None new → TellsEvents s new (bytes ++ more) (events ++ [])
more_head s held bytes more events (InHead now) p r =
    longer s (InHead held) (InHead now) bytes more events [] p
    (ap (λ xs. xs ++ more) p.leaves.0 ∙ sym r.0, r.1, append-nil p.last ∙ p.leaves.2)
more_head s held bytes more events new p r = absurd r

awaits : (s : Bool) (bytes : List ℕ) (ask : Ask) (new : Phase) → IsServed s bytes ask new → has_body (head_of bytes) ≡ true → IsAwaiting (head_of bytes)
awaits s bytes ask new r body = record { fits = r.head.fits; not_disc = r.not_disc; not_long = r.not_long; body = body }

-- a head that is served
served : (s : Bool) (held bytes more : List ℕ) (events : List WireEvent) (ask : Ask) (new : Phase) (d : Bool) → has_body (head_of (held ++ more)) ≡ d → TellsEvents s (InHead held) bytes events → IsServed s (held ++ more) ask new → TellsEvents s new (bytes ++ more) (events ++ event.Head ask ∷ [])
served s held bytes more events ask new true body p r =
    let h = head_of (held ++ more) in
    subst (λ (q : Phase). TellsEvents s q (bytes ++ more) (events ++ event.Head ask ∷ [])) (behind_wants h body ∙ sym r.behind)
    (longer s (InHead held) (Wants h) bytes more events (event.Head ask ∷ []) p (
      awaits s (held ++ more) ask new r body,
      ap (λ xs. xs ++ more) p.leaves.0 ∙ r.head.spelled,
      ap (λ (xs : List WireEvent). xs ++ event.Head ask ∷ []) p.leaves.2 ∙ ap (λ (a : Ask). event.Head a ∷ []) r.asks,
    ))
served s held bytes more events ask new false body p r =
    let h = head_of (held ++ more) in
    let x : Heard = record { message = record { head = h; body = [] }; room = None } in
    subst (λ (q : Phase). TellsEvents s q (bytes ++ more) (events ++ event.Head ask ∷ [])) (behind_none h body ∙ sym r.behind)
    (whole s (InHead held) bytes more events (event.Head ask ∷ []) p x
    (record { message = record { fits = r.head.fits; not_disc = r.not_disc; not_long = r.not_long; body = rw body refl }; room = body })
    (ap (λ xs. xs ++ more) p.leaves.0 ∙ r.head.spelled ∙ sym (append-nil (head_bytes h)))
    (ap (λ (xs : List WireEvent). xs ++ event.Head ask ∷ []) p.leaves.2 ∙ ap (λ (a : Ask). event.Head a ∷ []) r.asks))

-- a refusal of a head
refuses : (s : Bool) (held bytes more : List ℕ) (events : List WireEvent) (bad : SessionEnd) (new : Phase) → new ≡ Stuck bad → HeadTells s (held ++ more) (Some (event.Bad bad)) (Stuck bad) → TellsEvents s (InHead held) bytes events → TellsEvents s new (bytes ++ more) (events ++ event.Bad bad ∷ [])
refuses s held bytes more events bad new e r p =
    subst (λ (q : Phase). TellsEvents s q (bytes ++ more) (events ++ event.Bad bad ∷ [])) (sym e)
    (longer s (InHead held) (Stuck bad) bytes more events (event.Bad bad ∷ []) p (
      subst (λ (xs : List ℕ). HeadTells s (xs ++ more) (Some (event.Bad bad)) (Stuck bad)) (sym p.leaves.0) r,
      (0, ap (λ (xs : List WireEvent). xs ++ event.Bad bad ∷ []) p.leaves.2),
    ))

leaves_off : (s : Bool) (held bytes more : List ℕ) (events : List WireEvent) (new : Phase) → TellsEvents s (InHead held) bytes events → IsLeaving (held ++ more) new → TellsEvents s new (bytes ++ more) (events ++ event.Disc ∷ [])
leaves_off s held bytes more events new p r =
    subst (λ (q : Phase). TellsEvents s q (bytes ++ more) (events ++ event.Disc ∷ [])) (sym r.over)
    (longer s (InHead held) Over bytes more events (event.Disc ∷ []) p (
      subst (λ (xs : List ℕ). HeadTells s (xs ++ more) (Some event.Disc) Over) (sym p.leaves.0) (record { head = r.head; disc = r.disc; over = refl }),
      ap (λ (xs : List WireEvent). xs ++ event.Disc ∷ []) p.leaves.2,
    ))

-- what ends a head
ends_head : (s : Bool) (held bytes more : List ℕ) (events : List WireEvent) (told : WireEvent) (new : Phase) → TellsEvents s (InHead held) bytes events → HeadTells s (held ++ more) (Some told) new → TellsEvents s new (bytes ++ more) (events ++ told ∷ [])
ends_head s held bytes more events (event.Head ask) new p r = served s held bytes more events ask new (has_body (head_of (held ++ more))) refl p r
ends_head s held bytes more events event.Disc new p r = leaves_off s held bytes more events new p r
ends_head s held bytes more events (event.Bad (TooLong size)) new p r =
    refuses s held bytes more events (TooLong size) new r.stuck (record { head = r.head; long = r.long; told = r.told; stuck = refl }) p
ends_head s held bytes more events (event.Bad (BadMagic found)) new p r =
    refuses s held bytes more events (BadMagic found) new r.stuck (record { four = r.four; told = r.told; bad = r.bad; stuck = refl }) p
ends_head s held bytes more events told new p r = absurd r

some_size : (h : RequestHead) → has_body h ≡ true → 0 < h.size
some_size h e = ltb-true 0 h.size (second_of (is_write_head h) (nat_lt 0 h.size) e)

room_given : (s : Bool) (h : RequestHead) (bytes : List ℕ) (events : List WireEvent) (room : Room) (new : Phase) → TellsEvents s (Wants h) bytes events → new ≡ phase_with_room (Wants h) room → TellsEvents s new (bytes ++ []) (events ++ [])
room_given s h bytes events (Keep buffer) new p r =
    let l = p.leaves in
    subst (λ (q : Phase). TellsEvents s q (bytes ++ []) (events ++ [])) (sym r)
    (longer s (Wants h) (Fills h []) bytes [] events [] p
    (l.0, append-nil p.rest ∙ l.1 ∙ sym (append-nil (head_bytes h)), some_size h l.0.body, append-nil p.last ∙ l.2))
room_given s h bytes events (Drop count) new p r =
    let l = p.leaves in
    subst (λ (q : Phase). TellsEvents s q (bytes ++ []) (events ++ [])) (sym r)
    (longer s (Wants h) (Skips h h.size) bytes [] events [] p
    (l.0, ([], (append-nil p.rest ∙ l.1 ∙ sym (append-nil (head_bytes h)), omega arith)), some_size h l.0.body, append-nil p.last ∙ l.2))

more_kept : (s : Bool) (h : RequestHead) (got bytes more : List ℕ) (events : List WireEvent) (new : Phase) → TellsEvents s (Fills h got) bytes events → KeptTell h (got ++ more) None new → TellsEvents s new (bytes ++ more) (events ++ [])
more_kept s h got bytes more events (Fills g now) p r =
    let l = p.leaves in
    subst (λ (q : Phase). TellsEvents s q (bytes ++ more) (events ++ []))
    (ap (λ (k : RequestHead). Fills k (got ++ more)) (sym r.0) ∙ ap (λ (xs : List ℕ). Fills g xs) (sym r.1))
    (longer s (Fills h got) (Fills h (got ++ more)) bytes more events [] p
    (l.0, ap (λ xs. xs ++ more) l.1 ∙ append_assoc (head_bytes h) got more, subst (λ (xs : List ℕ). length xs < h.size) r.1 r.2, append-nil p.last ∙ l.3))
more_kept s h got bytes more events new p r = absurd r

all_kept : (s : Bool) (h : RequestHead) (got bytes more : List ℕ) (events : List WireEvent) (told : WireEvent) (new : Phase) → TellsEvents s (Fills h got) bytes events → KeptTell h (got ++ more) (Some told) new → TellsEvents s new (bytes ++ more) (events ++ told ∷ [])
all_kept s h got bytes more events told new p r =
    let l = p.leaves in
    let k = kept_whole h (got ++ more) told new r in
    let x : Heard = record { message = record { head = h; body = got ++ more }; room = Some (Keep (got ++ more)) } in
    subst (λ (q : Phase). TellsEvents s q (bytes ++ more) (events ++ told ∷ [])) (sym k.2)
    (whole s (Fills h got) bytes more events (told ∷ []) p x
    (record { message = record { fits = l.0.fits; not_disc = l.0.not_disc; not_long = l.0.not_long; body = rw l.0.body k.0 }; room = (l.0.body, refl) })
    (ap (λ xs. xs ++ more) l.1 ∙ append_assoc (head_bytes h) got more)
    (ap (λ (xs : List WireEvent). xs ++ told ∷ []) l.3 ∙ ap (λ (e : WireEvent). event.Head (ask_of s h) ∷ (e ∷ [])) k.1))

more_passed : (s : Bool) (h : RequestHead) (left : ℕ) (bytes more : List ℕ) (events : List WireEvent) (new : Phase) → TellsEvents s (Skips h left) bytes events → PassedTell h left (length more) None new → TellsEvents s new (bytes ++ more) (events ++ [])
more_passed s h left bytes more events (Skips g fewer) p r =
    let l = p.leaves in
    let got = l.1.0 in
    subst (λ (q : Phase). TellsEvents s q (bytes ++ more) (events ++ [])) (ap (λ (k : RequestHead). Skips k fewer) (sym r.0))
    (longer s (Skips h left) (Skips h fewer) bytes more events [] p
    (l.0, (got ++ more, (ap (λ xs. xs ++ more) l.1.1.0 ∙ append_assoc (head_bytes h) got more, omega (arith, length-append got more, l.1.1.1, r.1))), r.2, append-nil p.last ∙ l.3))
more_passed s h left bytes more events new p r = absurd r

all_passed : (s : Bool) (h : RequestHead) (left : ℕ) (bytes more : List ℕ) (events : List WireEvent) (told : WireEvent) (new : Phase) → TellsEvents s (Skips h left) bytes events → PassedTell h left (length more) (Some told) new → TellsEvents s new (bytes ++ more) (events ++ told ∷ [])
all_passed s h left bytes more events told new p r =
    let l = p.leaves in
    let got = l.1.0 in
    let k = passed_whole h left (length more) told new r in
    let size : length (got ++ more) ≡ h.size = omega (arith, length-append got more, l.1.1.1, k.0) in
    let x : Heard = record { message = record { head = h; body = got ++ more }; room = Some (Drop h.size) } in
    subst (λ (q : Phase). TellsEvents s q (bytes ++ more) (events ++ told ∷ [])) (sym k.2)
    (whole s (Skips h left) bytes more events (told ∷ []) p x
    (record { message = record { fits = l.0.fits; not_disc = l.0.not_disc; not_long = l.0.not_long; body = rw l.0.body size }; room = (l.0.body, refl) })
    (ap (λ xs. xs ++ more) l.1.1.0 ∙ append_assoc (head_bytes h) got more)
    (ap (λ (xs : List WireEvent). xs ++ told ∷ []) l.3 ∙ ap (λ (e : WireEvent). event.Head (ask_of s h) ∷ (e ∷ [])) k.1))

refuses_again : (s : Bool) (bad : SessionEnd) (bytes more : List ℕ) (events : List WireEvent) (told : WireEvent) (new : Phase) → TellsEvents s (Stuck bad) bytes events → StaysStuck bad more (Some told) new → TellsEvents s new (bytes ++ more) (events ++ told ∷ [])
refuses_again s bad bytes more events told new p r =
    let l = p.leaves in
    let f = r.1 in
    let e : told ≡ event.Bad bad = cc in
    let n = l.1.0 in
    subst (λ (q : Phase). TellsEvents s q (bytes ++ more) (events ++ told ∷ [])) (sym r.2)
    (longer s (Stuck bad) (Stuck bad) bytes more events (told ∷ []) p (
      subst (λ (xs : List ℕ). HeadTells s xs (Some (event.Bad bad)) (Stuck bad)) (sym (append-nil p.rest) ∙ ap (λ xs. p.rest ++ xs) (sym r.0)) l.0,
      (n + 1, ap (λ (xs : List WireEvent). xs ++ told ∷ []) l.1.1 ∙ ap (λ (k : WireEvent). replicate (n + 1) (event.Bad bad) ++ k ∷ []) e ∙ replicate_more (n + 1) (event.Bad bad)),
    ))

step : (s : Bool) (old new : Phase) (bytes : List ℕ) (events : List WireEvent) (call : ReaderCall) → TellsEvents s old bytes events → CallLeads s old call new → TellsEvents s new (bytes ++ taken_by call) (events ++ told_by call)
step s (InHead held) new bytes events (Took more None) p r = more_head s held bytes more events new p r
step s (InHead held) new bytes events (Took more (Some told)) p r = ends_head s held bytes more events told new p r
step s (Wants h) new bytes events (Took more told) p r = absurd r
step s (Wants h) new bytes events (Gave room) p r = room_given s h bytes events room new p r.1
step s (Fills h got) new bytes events (Took more None) p r = more_kept s h got bytes more events new p r
step s (Fills h got) new bytes events (Took more (Some told)) p r = all_kept s h got bytes more events told new p r
step s (Skips h left) new bytes events (Took more None) p r = more_passed s h left bytes more events new p r
step s (Skips h left) new bytes events (Took more (Some told)) p r = all_passed s h left bytes more events told new p r
step s Over new bytes events (Took more told) p r = absurd r
step s (Stuck bad) new bytes events (Took more None) p r = let e = r.1 in absurd (cc)
step s (Stuck bad) new bytes events (Took more (Some told)) p r = refuses_again s bad bytes more events told new p r
step s old new bytes events (Gave room) p r = absurd r.0

run : (s : Bool) (old new : Phase) (bytes : List ℕ) (events : List WireEvent) (calls : List ReaderCall) → TellsEvents s old bytes events → CallsLead s old calls new → TellsEvents s new (bytes ++ flat_map taken_by calls) (events ++ flat_map told_by calls)
run s old new bytes events [] p r =
    rw (append-nil bytes, append-nil events) (subst (λ (q : Phase). TellsEvents s q bytes events) (sym r) p)
run s old new bytes events (call ∷ calls) p r =
    rw (← append_assoc bytes (taken_by call) (flat_map taken_by calls), ← append_assoc events (told_by call) (flat_map told_by calls))
    (run s r.0 new (bytes ++ taken_by call) (events ++ told_by call) calls (step s old r.0 bytes events call p r.1.0) r.1.1)

pub reads_sessions : ReadsSessions
reads_sessions s calls new r =
    run s (InHead []) new [] [] calls
    (record { heard = []; rest = []; last = []; each = All-nil IsHeard; taken = refl; told = refl; leaves = (refl, no_front, refl) }) r

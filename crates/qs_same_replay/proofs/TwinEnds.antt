-- A line that one replay does isn't the one that another breaks off at.
use Rattle.std.proofs.Common.{◌≡◌, ℕ, inl, inr, List, [], ◌∷◌, ◌++◌, refl, sym, subst, ap, ◌∙◌, arith}
use Rattle.std.specs.Prelude.{All, Bool, Option, None, Some}
use Rattle.std.proofs.lemmas.List.Elements.{All-head}
use Rattle.std.specs.FinMap as map
use Rattle.std.proofs.lemmas.Option.{none-some}
use Rattle.qs_bytes.specs.declared.ask.Ask.{Ask}
use Rattle.qs_outside.specs.Blocks.{Seen}
use Rattle.qs_part.specs.declared.event.Actor.{Actor}
use Rattle.qs_part.specs.declared.event.Actor.TheVariants.{Session as ASession, Request as ARequest}
use Rattle.qs_part.specs.declared.event.Event.{Event}
use Rattle.qs_part.specs.declared.event.Event.TheVariants as event
use Rattle.qs_part.specs.declared.event.Outcome.{Outcome}
use Rattle.qs_part.specs.declared.event.Outcome.TheVariants as outcome
use Rattle.qs_determined.specs.Determined.{Alike}
use Rattle.qs_script.specs.declared.actor.ScriptActor.{ScriptActor}
use Rattle.qs_script.specs.declared.actor.ScriptActor.TheVariants as who
use Rattle.qs_script.specs.declared.line.Line.{Line}
use Rattle.qs_script.specs.declared.line.Line.TheVariants as line
use Rattle.qs_script.proofs.OneLine.{one_line}
use Rattle.qs_model.specs.Acts.{Element, Attached, NoExport, Crowded, Left, Detached, NotAttached, Asked, Did}
use Rattle.qs_model.specs.Events.{IsEvent}
use Rattle.qs_model.specs.Guards.{CanCome, HasRequest}
use Rattle.qs_model.specs.Requests.{Req}
use Rattle.qs_model.specs.Worlds.{Session, Away, Live, Leaving, World}
use Rattle.qs_world.specs.Events.{IsNotNext}
use Rattle.qs_world.specs.Stands.{Stands}
use Rattle.qs_world.specs.Values.{WorldValue, request_at, session_at}
use Rattle.qs_calls.specs.Calls.{Call, Happened}
use Rattle.qs_replay_lines.specs.Effects.{Acts, CallsOf, DoesLine, DrivesNotLive, IsActor, IsEventOf, IsNotLive, Adds, AskedBy, UsesAgain, bytes_or, flush_ask, read_ask, trim_ask, write_ask, zero_ask}
use Rattle.qs_calls.specs.Goings.{GoesOn}
use Rattle.qs_replay.specs.Readings.{IsText}
use Rattle.qs_replay.specs.Scripts.{DoesText, IsBad, IsUntimely}
use Rattle.qs_replay_lines.specs.Tables.{IsUsed, Names}
use Rattle.qs_replay_lines.proofs.Playing.{asks_once}
use Rattle.qs_same_replay.proofs.TwinEvents.{actor_one, gives_one}
use Rattle.qs_same_replay.proofs.Twins.{CalmStep, Calmly}

-- a cookie that a request was noted by wasn't used before
note_fresh : (made : Event) (o : Outcome) (n : ℕ) (ask : Ask) (body : Option (List ℕ)) (t t' : Names) → made ≡ event.Ask n ask body → Adds made o t t' →
    IsUsed t n ask.cookie → ⊥
note_fresh made o n ask body t t' is notes = go o (subst (λ (e : Event). Adds e o t t') is notes)
  where
    go : (x : Outcome) → Adds (event.Ask n ask body) x t t' → IsUsed t n ask.cookie → ⊥
    go (outcome.Made r) notes = notes.0
    go _ notes = absurd notes

-- a line that was done doesn't use a cookie again
used_never : (t t1 : Names) (l : Line) (lost : Bool) (calls : List Call) (printed : List ℕ) → DoesLine t l lost calls printed t1 → UsesAgain t l → ⊥
used_never t t1 (line.Read s c offset long) lost calls printed does again =
    let (n, body, (gives, room, made_is)) = does.event_is in
    asks_once t does.mid (line.Read s c offset long) lost n s (read_ask c offset long) body (refl, refl, room) gives
    (note_fresh does.made does.outcome n (read_ask c offset long) body does.mid t1 made_is does.notes) again
used_never t t1 (line.Write s c offset bytes fua) lost calls printed does again =
    let (n, (gives, made_is)) = does.event_is in
    asks_once t does.mid (line.Write s c offset bytes fua) lost n s (write_ask c offset bytes fua) _ (refl, refl, refl) gives
    (note_fresh does.made does.outcome n (write_ask c offset bytes fua) _ does.mid t1 made_is does.notes) again
used_never t t1 (line.Zero s c offset long fua) lost calls printed does again =
    let (n, (gives, made_is)) = does.event_is in
    asks_once t does.mid (line.Zero s c offset long fua) lost n s (zero_ask c offset long fua) _ (refl, refl, refl) gives
    (note_fresh does.made does.outcome n (zero_ask c offset long fua) _ does.mid t1 made_is does.notes) again
used_never t t1 (line.Trim s c offset long) lost calls printed does again =
    let (n, (gives, made_is)) = does.event_is in
    asks_once t does.mid (line.Trim s c offset long) lost n s (trim_ask c offset long) _ (refl, refl, refl) gives
    (note_fresh does.made does.outcome n (trim_ask c offset long) _ does.mid t1 made_is does.notes) again
used_never t t1 (line.Flush s c) lost calls printed does again =
    let (n, (gives, made_is)) = does.event_is in
    asks_once t does.mid (line.Flush s c) lost n s (flush_ask c) _ (refl, refl, refl) gives
    (note_fresh does.made does.outcome n (flush_ask c) _ does.mid t1 made_is does.notes) again
used_never t t1 line.Nothing lost calls printed does again = again
used_never t t1 (line.Session s e) lost calls printed does again = again
used_never t t1 (line.End s) lost calls printed does again = again
used_never t t1 (line.Step a now) lost calls printed does again = again
used_never t t1 (line.Run a now) lost calls printed does again = again
used_never t t1 (line.Fail j k) lost calls printed does again = again
used_never t t1 (line.Crash choice) lost calls printed does again = again

-- so a line that was done isn't bad
pub bad_never : {D : Type 0} (seen : D → Seen) (w v : WorldValue D) (t t1 : Names) (text : List ℕ) (calls : List Call) (printed : List ℕ) → IsText text →
    DoesText seen w t text calls printed v t1 → IsBad t text → ⊥
bad_never seen w v t t1 text calls printed is_text does (inl long) = omega (arith, long, is_text.short)
bad_never seen w v t t1 text calls printed is_text does (inr (inl none)) = none does.line does.reads
bad_never seen w v t t1 text calls printed is_text does (inr (inr again)) =
    used_never t t1 does.line does.lost calls printed does.is.does
    (subst (λ (l : Line). UsesAgain t l) (one_line text again.0 does.line again.1.0 does.reads) again.1.1)

-- an actor that was found isn't gone
found_never : (t mid : Names) (w : ScriptActor) (a : Actor) → IsActor t w a mid → IsNotLive t w → ⊥
found_never t mid (who.Session s) a is gone = gone
found_never t mid (who.Request s c) a is gone =
    let same = gives_one t mid gone.1 s is.0 gone.0 is.2.0 gone.2.0 in
    none-some is.1 (sym gone.2.1
    ∙ subst (λ (u : Names). map.get u.live (gone.0, c) ≡ Some is.1) (sym same.1) (subst (λ (n : ℕ). map.get mid.live (n, c) ≡ Some is.1) (sym same.0) is.2.1))

driven_never : (t t1 : Names) (l : Line) (lost : Bool) (calls : List Call) (printed : List ℕ) → DoesLine t l lost calls printed t1 → DrivesNotLive t l → ⊥
driven_never t t1 (line.Step a now) lost calls printed does unmade = found_never t does.mid a does.event_is.0 does.event_is.1.0 unmade
driven_never t t1 (line.Run a now) lost calls printed does unmade = found_never t does.mid a does.event_is.0 does.event_is.1.0 unmade
driven_never t t1 line.Nothing lost calls printed does unmade = unmade
driven_never t t1 (line.Session s e) lost calls printed does unmade = unmade
driven_never t t1 (line.End s) lost calls printed does unmade = unmade
driven_never t t1 (line.Read s c offset long) lost calls printed does unmade = unmade
driven_never t t1 (line.Write s c offset bytes fua) lost calls printed does unmade = unmade
driven_never t t1 (line.Zero s c offset long fua) lost calls printed does unmade = unmade
driven_never t t1 (line.Trim s c offset long) lost calls printed does unmade = unmade
driven_never t t1 (line.Flush s c) lost calls printed does unmade = unmade
driven_never t t1 (line.Fail j k) lost calls printed does unmade = unmade
driven_never t t1 (line.Crash choice) lost calls printed does unmade = unmade

-- whether a request can be made hangs on no body
same_asked : {D : Type 0} (w : WorldValue D) (t mid mid' : Names) (s : List ℕ) (ask : Ask) (body body' : Option (List ℕ)) (made made' : Event) →
    AskedBy t s ask body made mid → AskedBy t s ask body' made' mid' → IsNotNext w made → IsNotNext w made'
same_asked w t mid mid' s ask body body' made made' is at not_next =
    let same = gives_one t mid mid' s is.0 at.0 is.1.0 at.1.0 in
    subst (IsNotNext w) (sym at.1.1) (subst (λ (n : ℕ). IsNotNext w (event.Ask n ask body)) (sym same.0) (subst (IsNotNext w) is.1.1 not_next))

-- whether a line's event can come hangs on no body
same_target : {D : Type 0} (w : WorldValue D) (t mid mid' : Names) (l : Line) (lost lost' : Bool) (made made' : Event) → IsEventOf t l lost made mid → IsEventOf t l lost' made' mid' →
    IsNotNext w made → IsNotNext w made'
same_target w t mid mid' (line.Session s e) lost lost' made made' is at not_next =
    let same = gives_one t mid mid' s is.0 at.0 is.1.0 at.1.0 in
    subst (IsNotNext w) (is.1.1 ∙ ap (λ (n : ℕ). event.Attach n e) (sym same.0) ∙ sym at.1.1) not_next
same_target w t mid mid' (line.End s) lost lost' made made' is at not_next =
    let same = gives_one t mid mid' s is.0 at.0 is.1.0 at.1.0 in
    subst (IsNotNext w) (is.1.1 ∙ ap (λ (n : ℕ). event.Leave n) (sym same.0) ∙ sym at.1.1) not_next
same_target w t mid mid' (line.Read s c offset long) lost lost' made made' is at not_next =
    let same = gives_one t mid mid' s is.0 at.0 is.2.0 at.2.0 in
    subst (IsNotNext w) (sym at.2.2)
    (subst (λ (n : ℕ). IsNotNext w (event.Ask n (read_ask c offset long) at.1)) (sym same.0) (subst (IsNotNext w) is.2.2 not_next))
same_target w t mid mid' (line.Write s c offset bytes fua) lost lost' made made' is at not_next =
    same_asked w t mid mid' s (write_ask c offset bytes fua) (bytes_or lost bytes) (bytes_or lost' bytes) made made' is at not_next
same_target w t mid mid' (line.Zero s c offset long fua) lost lost' made made' is at not_next =
    same_asked w t mid mid' s (zero_ask c offset long fua) None None made made' is at not_next
same_target w t mid mid' (line.Trim s c offset long) lost lost' made made' is at not_next =
    same_asked w t mid mid' s (trim_ask c offset long) None None made made' is at not_next
same_target w t mid mid' (line.Flush s c) lost lost' made made' is at not_next =
    same_asked w t mid mid' s (flush_ask c) None None made made' is at not_next
same_target w t mid mid' (line.Step a now) lost lost' made made' is at not_next =
    let same = actor_one t mid mid' a is.0 at.0 is.1.0 at.1.0 in
    subst (IsNotNext w) (is.1.1 ∙ ap (λ (x : Actor). event.Step x now) (sym same.0) ∙ sym at.1.1) not_next
same_target w t mid mid' (line.Run a now) lost lost' made made' is at not_next =
    let same = actor_one t mid mid' a is.0 at.0 is.1.0 at.1.0 in
    subst (IsNotNext w) (is.1.1 ∙ ap (λ (x : Actor). event.Step x now) (sym same.0) ∙ sym at.1.1) not_next
same_target w t mid mid' line.Nothing lost lost' made made' is at not_next = absurd is
same_target w t mid mid' (line.Fail j k) lost lost' made made' is at not_next = absurd is
same_target w t mid mid' (line.Crash choice) lost lost' made made' is at not_next = absurd is

-- an event that came to one of two twins can come to the other
comes_never : {D : Type 0} (seen : D → Seen) (A : ℕ) (w : WorldValue D) (m m' : World) (made : Event) (e : Element) → Stands seen w m → Alike m m' → IsEvent made e → CanCome A m' e →
    IsNotNext w made → ⊥
comes_never seen A w m m' made e stands alike is may not_next = go made e is may not_next
  where
    -- what the first of the twins has, by what the second has
    session_is : (s : ℕ) (found : Session) → m'.session s ≡ found → session_at w.sessions s ≡ found
    session_is s found is = sym (stands.session s) ∙ sym (alike.session s) ∙ is

    request_is : (r : ℕ) (q : Req) → m'.req r ≡ Some q → request_at w.requests r ≡ Some q
    request_is r q is = sym (stands.request r) ∙ sym (alike.req r) ∙ is

    none_some : (q : Req) → None ≡ Some q → ⊥
    none_some q e = cc

    one_request : (r n : ℕ) → ARequest n ≡ ARequest r → r ≡ n
    one_request r n e = cc

    one_session : (r n : ℕ) → ASession n ≡ ASession r → r ≡ n
    one_session r n e = cc

    request_session : (r n : ℕ) → ARequest n ≡ ASession r → ⊥
    request_session r n e = cc

    session_request : (r n : ℕ) → ASession n ≡ ARequest r → ⊥
    session_request r n e = cc

    stands_still : (s e : ℕ) → m'.session s ≡ Leaving e → (HasRequest m' s → ⊥) → IsNotNext w (event.Step (ASession s) 0) → ⊥
    stands_still s e is none (inl f) = f e (session_is s (Leaving e) is)
    stands_still s e is none (inr h) = none (h.0, h.1, (alike.req h.0 ∙ stands.request h.0 ∙ h.2.0, h.2.1))

    go : (made : Event) (e : Element) → IsEvent made e → CanCome A m' e → IsNotNext w made → ⊥
    go (event.Attach n name) (Attached s given info) is may f = f (ap (session_at w.sessions) is.0 ∙ session_is s Away may.0)
    go (event.Attach n name) (NoExport s given) is may f = f (ap (session_at w.sessions) is.0 ∙ session_is s Away may.0)
    go (event.Attach n name) (Crowded s given) is may f = f (ap (session_at w.sessions) is.0 ∙ session_is s Away may.0)
    go (event.Leave n) (Left s e) is may f = f e (ap (session_at w.sessions) is ∙ session_is s (Live e) may)
    go (event.Ask n ask body) (Asked r c) is may (inl f) = f c.export (ap (session_at w.sessions) is.0 ∙ session_is c.session (Live c.export) may.live)
    go (event.Ask n ask body) (Asked r c) is may (inr f) = omega (arith, f, may.room, may.next, alike.next, stands.next)
    go (event.Step (ARequest n) now) (Did r q act) is may f =
        none_some q (sym (subst (λ (k : ℕ). request_at w.requests k ≡ None) (sym (one_request r n is)) f) ∙ request_is r q may.0)
    go (event.Step (ASession n) now) (Detached s e) is may f =
        stands_still s e may.0.0 may.0.1 (subst (λ (k : ℕ). IsNotNext w (event.Step (ASession k) 0)) (sym (one_session s n is)) f)
    go (event.Step (ASession n) now) (NotAttached s e) is may f =
        stands_still s e may.0.0 may.0.1 (subst (λ (k : ℕ). IsNotNext w (event.Step (ASession k) 0)) (sym (one_session s n is)) f)
    go (event.Step (ARequest n) now) (Detached s e) is may f = request_session s n is
    go (event.Step (ARequest n) now) (NotAttached s e) is may f = request_session s n is
    go (event.Step (ASession n) now) (Did r q act) is may f = session_request r n is
    go _ _ is may f = absurd is

-- what a line does that makes an event
acts_of : (t t1 mid : Names) (l : Line) (lost gone : Bool) (calls : List Call) (printed : List ℕ) (made : Event) → DoesLine t l lost calls printed t1 → IsEventOf t l gone made mid →
    Acts t l lost calls printed t1
acts_of t t1 mid line.Nothing lost gone calls printed made does is = absurd is
acts_of t t1 mid (line.Fail j k) lost gone calls printed made does is = absurd is
acts_of t t1 mid (line.Crash choice) lost gone calls printed made does is = absurd is
acts_of t t1 mid l lost gone calls printed made does is = does

-- its first call
first_call : (l : Line) (made : Event) (o : Outcome) (calls : List Call) → CallsOf l made o calls → (x : Outcome) × (later : List Call) × (calls ≡ Happened made x ∷ later)
first_call (line.Run who now) made o calls out = go out.front out.on out.whole
  where
    go : (front : List Call) → All (GoesOn made) front → calls ≡ front ++ Happened made o ∷ [] → (x : Outcome) × (later : List Call) × (calls ≡ Happened made x ∷ later)
    go [] on is = (o, [], is)
    go (c ∷ front) on is =
        let head = All-head (GoesOn made) c front on in
        (head.outcome, front ++ Happened made o ∷ [], is ∙ ap (λ (k : Call). k ∷ front ++ Happened made o ∷ []) head.is)
first_call l made o calls out = (o, [], out)

-- a line that one of two twins did could come to the other
pub untimely_never : {D : Type 0} (seen : D → Seen) (A : ℕ) (w w' v' : WorldValue D) (m m' n' : World) (t t1 : Names) (text : List ℕ) (calls : List Call) (printed : List ℕ) →
    Stands seen w m → Alike m m' → DoesText seen w' t text calls printed v' t1 → Calmly A m' calls n' → IsUntimely w t text → ⊥
untimely_never seen A w w' v' m m' n' t t1 text calls printed stands alike does calm bad =
    let l : Line = does.line in
    let same : bad.0 ≡ l = one_line text bad.0 l bad.1.0 does.reads in
    elim bad.1.2 [
      | inl cannot ↦
          let is : IsEventOf t l cannot.lost cannot.made cannot.mid = subst (λ (k : Line). IsEventOf t k cannot.lost cannot.made cannot.mid) same cannot.event_is in
          let acts : Acts t l does.lost calls printed t1 = acts_of t t1 cannot.mid l does.lost cannot.lost calls printed cannot.made does.is.does is in
          let (x, later, first_is) = first_call l acts.made acts.outcome calls acts.calls_are in
          let step : CalmStep A m' (Happened acts.made x) = (subst (λ (cs : List Call). Calmly A m' cs n') first_is calm).0 in
          comes_never seen A w m m' acts.made step.element stands alike step.comes.is step.comes.may
          (same_target w t cannot.mid acts.mid l cannot.lost does.lost cannot.made acts.made is acts.event_is cannot.not_next)
      | inr drives ↦ driven_never t t1 l does.lost calls printed does.is.does (subst (λ (k : Line). DrivesNotLive t k) same drives)
    ]

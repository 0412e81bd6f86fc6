-- Events that come, and events that can't.
use Rattle.std.proofs.Common.{◌≡◌, ◌≢◌, ℕ, zero, suc, ◌<◌, ◌⊎◌, inl, inr, List, [], ◌∷◌, ◌++◌, length, map, get_or, Bool, true, false, ◌||◌, ◌==◌, cond, refl, sym, ◌∙◌, ap, subst, arith, eq-eqb}
use Rattle.std.specs.Prelude.{Option, Some, None, position}
use Rattle.std.specs.List.{slice_set, remove, list_any, AllByRecursion}
use Rattle.qs_outside.specs.Blocks.{Seen}
use Rattle.qs_part.specs.declared.event.Event.{Event}
use Rattle.qs_part.specs.declared.event.Note.{Note}
use Rattle.qs_part.specs.declared.event.Outcome.{Outcome}
use Rattle.qs_part.specs.declared.event.Outcome.TheVariants.{Attached as AttachedOut, NoExport as NoExportOut, Crowded as CrowdedOut, Left as LeftOut, Made, Moved, Answered, NotNext, Memory}
use Rattle.qs_model.specs.Puts.{put}
use Rattle.qs_part.specs.declared.event.OpKind.TheVariants.{End, Detach as DetachOp}
use Rattle.qs_part.specs.declared.event.GraphNote.TheVariants.{Detached as GoneNote, NotAttached as NotGoneNote}
use Rattle.qs_part.specs.declared.graph.GraphReply.TheVariants.{Detached as Gone, NotAttached as NotGone}
use Rattle.qs_part.specs.declared.tracker.TrackerReply.TheVariants.{Ended}
use Rattle.qs_model.specs.Requests.{Client, Stage, Req, abandon, verdict}
use Rattle.qs_model.specs.Worlds.{Session, Away, Live as LiveAt, Leaving}
use Rattle.qs_model.specs.Acts.{Act, Answers, Waits, Enters, Routes, Shuts, Lists, Starts, Loads, LoadFails, Holds, HoldFails, Stores, StoreFails, Syncs, Cleans, SyncFails, Frees, Ends, Element, Attached, NoExport, Crowded, Left, Detached, NotAttached, Asked, Did, Exported, Planned, Crashed}
use Rattle.qs_model.specs.Steps.{leaves, happens}
use Rattle.qs_model.specs.Events.{IsEvent, outcome_of, row_outcome, moved_out, note_of, tracker_note, graph_note}
use Rattle.qs_model.proofs.Basics.{same_or, put_here, put_other}
use Rattle.qs_part.specs.declared.event.Actor.TheVariants.{Request as ARequest, Session as ASession}
use Rattle.qs_part.specs.declared.event.Event.TheVariants.{Step, Attach, Leave}
use Rattle.qs_part.specs.declared.graph.ExportInfo.{ExportInfo}
use Rattle.qs_part.specs.declared.graph.GraphOp.TheVariants.{Attach as AttachOp, Detach}
use Rattle.qs_part.specs.declared.graph.GraphReply.{GraphReply}
use Rattle.qs_part.specs.declared.graph.GraphReply.TheVariants.{Attached as AttachedReply, NoExport as NoExportReply, Crowded as CrowdedReply}
use Rattle.qs_graph.specs.Table.{GraphValue, May as MayGraph, answers as graph_answers}
use Rattle.qs_graph.proofs.Rows.{after_length}
use Rattle.qs_request_state.specs.declared.shape.Shape.{Shape}
use Rattle.qs_world.specs.Notes.{detach_note}
use Rattle.qs_world.proofs.Coming.{Keeps, attached_does, no_export_does, crowded_does, left_does, detached_does, not_attached_does}
use Rattle.qs_world.proofs.SameDisks.{uncalled}
use Rattle.qs_world.proofs.PartSteps.{same_stripes}
use Rattle.qs_world.specs.declared.live.Live.{Live}
use Rattle.qs_world.specs.declared.live.Member.{Member}
use Rattle.qs_world.specs.Cores.{Handles, StepsRequest}
use Rattle.qs_world.specs.Events.{Does, IsAsPlanned, IsInside, Steps, StepsTo, HasCause, IsNotNext, TakesMemory}
use Rattle.qs_world.specs.Follows.{IsElement, abandoned_of, is_live_of}
use Rattle.qs_world.specs.Keyed.{find_by, HasKey, AreDistinct}
use Rattle.qs_world.specs.Sound.{IsSound, IsIdle}
use Rattle.qs_world.specs.Values.{WorldValue, request_at, session_at, session_or, member_of}
use Rattle.qs_world.proofs.Keyed.{find_head, find_tail, find_at, find_set, find_more, find_gone, first_found, none_found, none_has, distinct_more, distinct_set, distinct_gone, distinct_map, all_map}

-- an outcome that isn't told where nothing happened
abbrev pub IsTold : Outcome → Type 0
IsTold NotNext = ⊥
IsTold Memory = ⊥
IsTold _ = Unit {0}

told_some : (o out : Outcome) → Some o ≡ Some out → IsTold o → IsTold out
told_some o out is told = subst IsTold (one o out is) told
  where
    one : (x y : Outcome) → Some x ≡ Some y → x ≡ y
    one x y e = cc

told_moved : (n : Option Note) (out : Outcome) → moved_out n ≡ Some out → IsTold out
told_moved None out is = absurd (never is)
  where
    never : None ≡ Some out → ⊥
    never e = cc
told_moved (Some n) out is = told_some (Moved n) out is tt

told_row : (A : ℕ) (c : Client) (d : Bool) {stage : Stage} (act : Act stage) (out : Outcome) → row_outcome A c d act ≡ Some out → IsTold out
told_row A c d (Answers {v = v}) out is = told_some (Answered v None) out is tt
told_row A c d (Waits {stage = stage} wait) out is = told_moved (note_of A c (Waits {stage = stage} wait)) out is
told_row A c d (Enters k) out is = told_moved (note_of A c (Enters k)) out is
told_row A c d (Routes {k = k} route) out is = told_moved (note_of A c (Routes {k = k} route)) out is
told_row A c d (Shuts {k = k}) out is = told_moved (note_of A c (Shuts {k = k})) out is
told_row A c d (Lists {k = k} n) out is = told_moved (note_of A c (Lists {k = k} n)) out is
told_row A c d (Starts {k = k}) out is = told_moved (note_of A c (Starts {k = k})) out is
told_row A c d (Loads {k = k} {b = b} {got = got} bytes) out is = told_moved (note_of A c (Loads {k = k} {b = b} {got = got} bytes)) out is
told_row A c d (LoadFails {k = k} {b = b} {got = got}) out is = told_moved (note_of A c (LoadFails {k = k} {b = b} {got = got})) out is
told_row A c d (Holds {k = k} {side = side} bytes) out is = told_moved (note_of A c (Holds {k = k} {side = side} bytes)) out is
told_row A c d (HoldFails {k = k} {side = side}) out is = told_moved (note_of A c (HoldFails {k = k} {side = side})) out is
told_row A c d (Stores {k = k} {b = b} bytes past) out is = told_moved (note_of A c (Stores {k = k} {b = b} bytes past)) out is
told_row A c d (StoreFails {k = k} {b = b} bytes took past) out is = told_moved (note_of A c (StoreFails {k = k} {b = b} bytes took past)) out is
told_row A c d (Syncs {k = k} {s = s}) out is = told_moved (note_of A c (Syncs {k = k} {s = s})) out is
told_row A c d (Cleans {k = k} {s = s}) out is = told_moved (note_of A c (Cleans {k = k} {s = s})) out is
told_row A c d (SyncFails {k = k} {s = s}) out is = told_moved (note_of A c (SyncFails {k = k} {s = s})) out is
told_row A c d (Frees {k = k} {side = side}) out is = told_moved (note_of A c (Frees {k = k} {side = side})) out is
told_row A c d (Ends {v = v}) out is = told_some (Answered (verdict d v) (tracker_note End Ended)) out is tt

-- an event that comes is told
pub told : (A : ℕ) (e : Element) (out : Outcome) → outcome_of A e ≡ Some out → IsTold out
told A (Attached s name info) out is = told_some (AttachedOut info) out is tt
told A (NoExport s name) out is = told_some NoExportOut out is tt
told A (Crowded s name) out is = told_some CrowdedOut out is tt
told A (Left s e) out is = told_some LeftOut out is tt
told A (Detached s e) out is = told_moved (graph_note DetachOp GoneNote) out is
told A (NotAttached s e) out is = told_moved (graph_note DetachOp NotGoneNote) out is
told A (Asked r c) out is = told_some (Made r) out is tt
told A (Did r q act) out is = told_row A q.client q.dropped act out is
told A (Exported op e) out is = absurd (never is)
  where
    never : None ≡ Some out → ⊥
    never e = cc
told A (Planned j fail) out is = absurd (never is)
  where
    never : None ≡ Some out → ⊥
    never e = cc
told A (Crashed left) out is = absurd (never is)
  where
    never : None ≡ Some out → ⊥
    never e = cc

steps_to : {D : Type 0} (seen : D → Seen) (old : WorldValue D) (event : Event) (out : Outcome) (new : WorldValue D) → IsTold out → Steps seen old event out new →
    StepsTo seen old event out new
steps_to seen old event NotNext new is step = absurd is
steps_to seen old event Memory new is step = absurd is
steps_to seen old event _ new is step = step

-- an event that comes
pub handled : {D : Type 0} (seen : D → Seen) (old new : WorldValue D) (event : Event) (out : Outcome) (e : Element) → IsEvent event e →
    outcome_of old.shape.align e ≡ Some out → (IsNotNext old event → ⊥) → Does seen old e new → IsAsPlanned seen old e → IsInside old.shape e → new.shape ≡ old.shape → HasCause seen old out new → IsSound seen new →
    Handles seen old event out new
handled seen old new event out e answers outcome next does as_planned inside shape cause sound =
    let is : IsTold out = told old.shape.align e out outcome in
    record {
      step = steps_to seen old event out new is (record { element = e; answers_event = answers; outcome_is = outcome; does = does; as_planned = as_planned; inside = inside; shape_kept = shape });
      next = (λ f. absurd (subst IsTold f is), λ h. absurd (next h));
      cause = cause;
      sound = sound;
    }

-- one that can't come
pub not_next : {D : Type 0} (seen : D → Seen) (w : WorldValue D) (event : Event) → IsSound seen w → IsNotNext w event → Handles seen w event NotNext w
not_next seen w event sound h = record { step = refl; next = (λ _. h, λ _. refl); cause = uncalled seen w w NotNext refl tt; sound = sound }

-- one for which memory was refused
pub no_memory : {D : Type 0} (seen : D → Seen) (old new : WorldValue D) (event : Event) → IsSound seen old → TakesMemory event → (IsNotNext old event → ⊥) → new ≡ old →
    Handles seen old event Memory new
no_memory {D} seen old new event sound takes next same = record {
  step = (takes, same);
  next = (λ f. absurd (never f), λ h. absurd (next h));
  cause = uncalled seen old new Memory (ap (λ (w : WorldValue D). w.stripes) same) tt;
  sound = subst (IsSound seen) (sym same) sound;
}
  where
    never : Memory ≡ NotNext → ⊥
    never f = cc

-- some element stands at an index of a list
pub some_element : {X : Type 0} (xs : List X) (i : ℕ) → i < length xs → (x : X) × IsElement xs i x
some_element [] i inside = absurd (omega arith)
some_element (x ∷ xs) zero inside = (x, record { inside = inside; is = λ d. refl })
some_element (x ∷ xs) (suc i) inside =
    let below : i < length xs = omega arith in
    let r = some_element xs i below in (r.0, record { inside = inside; is = λ d. r.1.is d })

-- a request that was found
pub request_stands : {D : Type 0} (w : WorldValue D) (at number : ℕ) → position (λ l. l.number == number) w.requests ≡ Some at →
    (l : Live) × (IsElement w.requests at l × (l.number ≡ number))
request_stands w at number is = go w.requests is
  where
    go : (xs : List Live) → position (λ l. l.number == number) xs ≡ Some at → (l : Live) × (IsElement xs at l × (l.number ≡ number))
    go [] is = absurd (never is)
      where
        never : None ≡ Some at → ⊥
        never e = cc
    go (x ∷ xs) is =
        let at_x = first_found (λ l. l.number) (λ l. l.number) (x ∷ xs) at number x is in
        let e = some_element (x ∷ xs) at at_x.0 in
        (e.0, (e.1, sym (ap (λ (l : Live). l.number) (e.1.is x)) ∙ at_x.1))

-- a step of a request that stands
pub request_handled : {D : Type 0} (seen : D → Seen) (old new : WorldValue D) (number now : ℕ) (l : Live) (out : Outcome) → request_at old.requests number ≢ None → l.number ≡ number →
    StepsRequest seen old l.number out new → Handles seen old (Step (ARequest number) now) out new
request_handled seen old new number now l out stands is step =
    handled seen old new (Step (ARequest number) now) out step.element
    (subst (λ (n : ℕ). IsEvent (Step (ARequest n) now) step.element) is (step.answers_event now)) step.outcome_is (λ h. stands h) step.does step.as_planned step.inside step.shape_kept step.cause step.sound

-- the sessions, one of which changed
put_or : (f : ℕ → Option Session) (k : ℕ) (v : Option Session) (j : ℕ) → session_or (put f k v j) ≡ put (λ i. session_or (f i)) k (session_or v) j
put_or f k v j = go (same_or j k)
  where
    go : (j ≡ k) ⊎ (j ≢ k) → session_or (put f k v j) ≡ put (λ i. session_or (f i)) k (session_or v) j
    go (inl e) = ap session_or (ap (put f k v) e ∙ put_here f k v) ∙ sym (ap (put (λ i. session_or (f i)) k (session_or v)) e ∙ put_here (λ i. session_or (f i)) k (session_or v))
    go (inr n) = ap session_or (put_other f k v j n) ∙ sym (put_other (λ i. session_or (f i)) k (session_or v) j n)

pub session_more : (ms : List Member) (m : Member) → (HasKey (λ x. x.session) ms m.session → ⊥) → (j : ℕ) →
    session_at (ms ++ m ∷ []) j ≡ put (session_at ms) m.session (member_of m) j
session_more ms m never j =
    ap session_or (find_more (λ x. x.session) member_of ms m never j) ∙ put_or (find_by (λ x. x.session) member_of ms) m.session (Some (member_of m)) j

pub session_set : (ms : List Member) (i : ℕ) (m was : Member) → AreDistinct (λ x. x.session) ms → IsElement ms i was → m.session ≡ was.session → (j : ℕ) →
    session_at (slice_set ms i m) j ≡ put (session_at ms) was.session (member_of m) j
session_set ms i m was apart e same j =
    let is : get_or ms i was ≡ was = e.is was in
    ap session_or (find_set (λ x. x.session) member_of ms i m was apart e.inside (same ∙ sym (ap (λ (x : Member). x.session) is)) j)
    ∙ put_or (find_by (λ x. x.session) member_of ms) (get_or ms i was).session (Some (member_of m)) j
    ∙ ap (λ (x : Member). put (session_at ms) x.session (member_of m) j) is

pub session_gone : (ms : List Member) (i : ℕ) (was : Member) → AreDistinct (λ x. x.session) ms → IsElement ms i was → (j : ℕ) →
    session_at (remove ms i) j ≡ put (session_at ms) was.session Away j
session_gone ms i was apart e j =
    ap session_or (find_gone (λ x. x.session) member_of ms i was apart e.inside j)
    ∙ put_or (find_by (λ x. x.session) member_of ms) (get_or ms i was).session None j
    ∙ ap (λ (x : Member). put (session_at ms) x.session Away j) (e.is was)

-- a session that stands
pub session_stands : (ms : List Member) (i : ℕ) (m : Member) → AreDistinct (λ x. x.session) ms → IsElement ms i m → session_at ms m.session ≡ member_of m
session_stands ms i m apart e =
    subst (λ (x : Member). session_at ms x.session ≡ member_of x) (e.is m) (ap session_or (find_at (λ x. x.session) member_of ms i m apart e.inside))

-- a session that was found, and one that wasn't
pub member_stands : (ms : List Member) (at session : ℕ) → position (λ m. m.session == session) ms ≡ Some at → (m : Member) × (IsElement ms at m × (m.session ≡ session))
member_stands [] at session is = absurd (never is)
  where
    never : None ≡ Some at → ⊥
    never e = cc
member_stands (x ∷ xs) at session is =
    let at_x = first_found (λ m. m.session) (λ m. m.session) (x ∷ xs) at session x is in
    let e = some_element (x ∷ xs) at at_x.0 in
    (e.0, (e.1, sym (ap (λ (m : Member). m.session) (e.1.is x)) ∙ at_x.1))

pub member_away : (ms : List Member) (session : ℕ) → position (λ m. m.session == session) ms ≡ None → session_at ms session ≡ Away
member_away ms session none = ap session_or (none_found (λ m. m.session) member_of ms session none)

pub member_never : (ms : List Member) (session : ℕ) → position (λ m. m.session == session) ms ≡ None → HasKey (λ m. m.session) ms session → ⊥
member_never ms session none h = none_has (λ m. m.session) member_of ms session (none_found (λ m. m.session) member_of ms session none) h

-- a session is somewhere, and where
pub live_is : (m : Member) → m.left ≡ false → member_of m ≡ LiveAt m.e
live_is m is = ap (λ (b : Bool). cond b (Leaving m.e) (LiveAt m.e)) is

pub leaving_is : (m : Member) → m.left ≡ true → member_of m ≡ Leaving m.e
leaving_is m is = ap (λ (b : Bool). cond b (Leaving m.e) (LiveAt m.e)) is

pub away_not : (m : Member) → member_of m ≢ Away
away_not m e = go m.left refl
  where
    go : (b : Bool) → m.left ≡ b → ⊥
    go true is = let f : Leaving m.e ≡ Away = sym (leaving_is m is) ∙ e in absurd (never f)
      where
        never : Leaving m.e ≡ Away → ⊥
        never g = cc
    go false is = let f : LiveAt m.e ≡ Away = sym (live_is m is) ∙ e in absurd (never f)
      where
        never : LiveAt m.e ≡ Away → ⊥
        never g = cc

-- each request of a session that leaves is abandoned
abandoned_req : (s : ℕ) (l : Live) → (abandoned_of s l).request.value.request ≡ cond (is_live_of s l) (abandon l.request.value.request) l.request.value.request
abandoned_req s l = go (is_live_of s l)
  where
    go : (b : Bool) → (cond b (record l { request = record l.request { value = record l.request.value { request = abandon l.request.value.request } } }) l).request.value.request ≡ cond b (abandon l.request.value.request) l.request.value.request
    go true = refl
    go false = refl

pub abandoned_number : (s : ℕ) (l : Live) → (abandoned_of s l).number ≡ l.number
abandoned_number s l = go (is_live_of s l)
  where
    go : (b : Bool) → (cond b (record l { request = record l.request { value = record l.request.value { request = abandon l.request.value.request } } }) l).number ≡ l.number
    go true = refl
    go false = refl

pub abandoned_idle : {D : Type 0} (w : WorldValue D) (s : ℕ) (l : Live) → IsIdle w.shape w.next l → IsIdle w.shape w.next (abandoned_of s l)
abandoned_idle w s l idle = go (is_live_of s l)
  where
    go : (b : Bool) → IsIdle w.shape w.next (cond b (record l { request = record l.request { value = record l.request.value { request = abandon l.request.value.request } } }) l)
    go true = record { below = idle.below; shape_is = idle.shape_is; waits = idle.waits; answered = idle.answered }
    go false = idle

pub request_left : (s : ℕ) (ls : List Live) (r : ℕ) → request_at (map (abandoned_of s) ls) r ≡ leaves s (request_at ls r)
request_left s [] r = refl
request_left s (l ∷ ls) r = go (request_left s ls r) (same_or l.number r)
  where
    go : request_at (map (abandoned_of s) ls) r ≡ leaves s (request_at ls r) → (l.number ≡ r) ⊎ (l.number ≢ r) →
        request_at (map (abandoned_of s) (l ∷ ls)) r ≡ leaves s (request_at (l ∷ ls) r)
    go rest (inl e) =
        find_head (λ x. x.number) (λ x. x.request.value.request) (abandoned_of s l) (map (abandoned_of s) ls) r (abandoned_number s l ∙ e)
        ∙ ap Some (abandoned_req s l) ∙ sym (ap (leaves s) (find_head (λ x. x.number) (λ x. x.request.value.request) l ls r e))
    go rest (inr n) =
        find_tail (λ x. x.number) (λ x. x.request.value.request) (abandoned_of s l) (map (abandoned_of s) ls) r (λ f. n (sym (abandoned_number s l) ∙ f))
        ∙ rest ∙ sym (ap (leaves s) (find_tail (λ x. x.number) (λ x. x.request.value.request) l ls r n))

-- a request of a session stands, or none does
some_has : (ls : List Live) (r : ℕ) (q : Req) → request_at ls r ≡ Some q → HasKey (λ l. l.number) ls r
some_has [] r q is = absurd (never is)
  where
    never : None ≡ Some q → ⊥
    never e = cc
some_has (l ∷ ls) r q is = go (λ f. some_has ls r q f) (same_or l.number r)
  where
    go : (request_at ls r ≡ Some q → HasKey (λ x. x.number) ls r) → (l.number ≡ r) ⊎ (l.number ≢ r) → HasKey (λ x. x.number) (l ∷ ls) r
    go rest (inl e) = inl e
    go rest (inr n) = inr (rest (sym (find_tail (λ x. x.number) (λ x. x.request.value.request) l ls r n) ∙ is))

abbrev pub HasIn : List Live → ℕ → Type 0
HasIn ls s = (r : ℕ) × (q : Req) × ((request_at ls r ≡ Some q) × (q.client.session ≡ s))

pub any_has : (s : ℕ) (ls : List Live) → AreDistinct (λ l. l.number) ls → list_any (is_live_of s) ls ≡ true → HasIn ls s
any_has s [] apart is = absurd (never is)
  where
    never : false ≡ true → ⊥
    never e = cc
any_has s (l ∷ ls) apart is = go (λ f. any_has s ls apart.1 f) (is_live_of s l) refl is
  where
    go : (list_any (is_live_of s) ls ≡ true → HasIn ls s) → (b : Bool) → is_live_of s l ≡ b → (b || list_any (is_live_of s) ls) ≡ true → HasIn (l ∷ ls) s
    go rest true e f = (l.number, l.request.value.request, (find_head (λ x. x.number) (λ x. x.request.value.request) l ls l.number refl, grind (arith, e)))
    go rest false e f =
        let h = rest f in
        (h.0, h.1, (find_tail (λ x. x.number) (λ x. x.request.value.request) l ls h.0 (λ g. apart.0 (subst (HasKey (λ x. x.number) ls) (sym g) (some_has ls h.0 h.1 h.2.0))) ∙ h.2.0, h.2.1))

pub none_has_request : (s : ℕ) (ls : List Live) → list_any (is_live_of s) ls ≡ false → HasIn ls s → ⊥
none_has_request s [] is h = never h.1 h.2.0
  where
    never : (q : Req) → None ≡ Some q → ⊥
    never q e = cc
none_has_request s (l ∷ ls) is h = go (λ f. none_has_request s ls f) (is_live_of s l) refl is (same_or l.number h.0)
  where
    go : (list_any (is_live_of s) ls ≡ false → HasIn ls s → ⊥) → (b : Bool) → is_live_of s l ≡ b → (b || list_any (is_live_of s) ls) ≡ false → (l.number ≡ h.0) ⊎ (l.number ≢ h.0) → ⊥
    go rest true e f other = let no : true ≡ false = f in absurd (never no)
      where
        never : true ≡ false → ⊥
        never g = cc
    go rest false e f (inl same) =
        let q : l.request.value.request ≡ h.1 = one (sym (find_head (λ x. x.number) (λ x. x.request.value.request) l ls h.0 same) ∙ h.2.0) in
        no (sym (eq-eqb l.request.value.request.client.session s (ap (λ (x : Req). x.client.session) q ∙ h.2.1)) ∙ e)
      where
        one : Some l.request.value.request ≡ Some h.1 → l.request.value.request ≡ h.1
        one g = cc

        no : true ≡ false → ⊥
        no g = cc
    go rest false e f (inr n) = rest f (h.0, h.1, (sym (find_tail (λ x. x.number) (λ x. x.request.value.request) l ls h.0 n) ∙ h.2.0, h.2.1))

-- what a core keeps sound whose sessions, graph or requests changed
pub record Renews {D : Type 0} (seen : D → Seen) (old new : WorldValue D) : Type 0 where
  pub shape : new.shape ≡ old.shape
  pub tracker : new.tracker ≡ old.tracker
  pub stripes : new.stripes ≡ old.stripes
  pub size : new.graph.size ≡ old.graph.size
  pub places : length new.graph.places ≡ length old.graph.places
  pub requests : AllByRecursion (IsIdle old.shape new.next) new.requests
  pub numbers : AreDistinct (λ l. l.number) new.requests
  pub sessions : AreDistinct (λ m. m.session) new.sessions

pub renewed : {D : Type 0} (seen : D → Seen) (old new : WorldValue D) (e : Element) → IsSound seen old → Renews seen old new → Does seen old e new → IsSound seen new
renewed seen old new e sound r does = record {
  shape = rw r.shape sound.shape;
  count = rw r.stripes sound.count;
  stripes = λ j h. same_stripes seen old new r.shape r.stripes j (sound.stripes j h);
  size = r.size ∙ sound.size ∙ sym (ap (λ (s : Shape). s.size) r.shape);
  places = r.places ∙ sound.places;
  seats = rw r.tracker sound.seats;
  requests = rw r.shape r.requests;
  numbers = r.numbers;
  sessions = r.sessions;
  model = (happens old.shape.align sound.model.0 e, (does sound.model.0 sound.model.1).1);
}

-- the answers that an Attach may get
attach_crowded : (v : GraphValue) (name : List ℕ) (reply : GraphReply) → MayGraph v (AttachOp name) reply → (reply ≡ NoExportReply → ⊥) →
    ((info : ExportInfo) → reply ≡ AttachedReply info → ⊥) → reply ≡ CrowdedReply
attach_crowded v name NoExportReply may none some = absurd (none refl)
attach_crowded v name CrowdedReply may none some = refl
attach_crowded v name (AttachedReply info) may none some = absurd (some info refl)
attach_crowded v name _ may none some = absurd may

pub attached_handled : {D : Type 0} (seen : D → Seen) (old new : WorldValue D) (s : ℕ) (name : List ℕ) (info : ExportInfo) → IsSound seen old →
    position (λ m. m.session == s) old.sessions ≡ None → graph_answers old.graph (AttachOp name) (AttachedReply info) new.graph → new.graph.size ≡ old.graph.size →
    new ≡ record old { graph = new.graph; sessions = old.sessions ++ record { session = s; e = info.e; left = false } ∷ [] } →
    Handles seen old (Attach s name) (AttachedOut info) new
attached_handled {D = D} seen old new s name info sound none row size is =
    let away = member_away old.sessions s none in
    let never = member_never old.sessions s none in
    let m : Member = record { session = s; e = info.e; left = false } in
    let keeps : Keeps old new = record { shape = ap (λ (w : WorldValue D). w.shape) is; tracker = ap (λ (w : WorldValue D). w.tracker) is; stripes = ap (λ (w : WorldValue D). w.stripes) is } in
    let next : new.next ≡ old.next = ap (λ (w : WorldValue D). w.next) is in
    let requests : new.requests ≡ old.requests = ap (λ (w : WorldValue D). w.requests) is in
    let sessions : new.sessions ≡ old.sessions ++ m ∷ [] = ap (λ (w : WorldValue D). w.sessions) is in
    let does : Does seen old (Attached s name info) new = attached_does seen old new s name info keeps next requests away row
    (λ j. ap (λ (ms : List Member). session_at ms j) sessions ∙ session_more old.sessions m never j) in
    handled seen old new (Attach s name) (AttachedOut info) (Attached s name info) (refl, refl) refl (λ h. h away) does tt tt keeps.shape (uncalled seen old new (AttachedOut info) keeps.stripes tt)
    (renewed seen old new (Attached s name info) sound (record {
      shape = keeps.shape;
      tracker = keeps.tracker;
      stripes = keeps.stripes;
      size = size;
      places = ap (λ (v : GraphValue). length v.places) row.1 ∙ after_length old.graph (AttachOp name) (AttachedReply info);
      requests = rw (next, requests) sound.requests;
      numbers = rw requests sound.numbers;
      sessions = rw sessions (distinct_more (λ x. x.session) old.sessions m sound.sessions never);
    }) does)

pub no_export_handled : {D : Type 0} (seen : D → Seen) (old new : WorldValue D) (s : ℕ) (name : List ℕ) (graph : GraphValue) → IsSound seen old →
    position (λ m. m.session == s) old.sessions ≡ None → graph_answers old.graph (AttachOp name) NoExportReply graph → new ≡ record old { graph = graph } →
    Handles seen old (Attach s name) NoExportOut new
no_export_handled {D = D} seen old new s name graph sound none row is =
    let away = member_away old.sessions s none in
    let same : new ≡ old = is ∙ ap (λ (v : GraphValue). record old { graph = v }) row.1 in
    handled seen old new (Attach s name) NoExportOut (NoExport s name) (refl, refl) refl (λ h. h away)
    (no_export_does seen old new s name graph away row same) tt tt (ap (λ (w : WorldValue D). w.shape) same)
    (uncalled seen old new NoExportOut (ap (λ (w : WorldValue D). w.stripes) same) tt) (subst (IsSound seen) (sym same) sound)

pub crowded_handled : {D : Type 0} (seen : D → Seen) (old new : WorldValue D) (s : ℕ) (name : List ℕ) (reply : GraphReply) (graph : GraphValue) → IsSound seen old →
    position (λ m. m.session == s) old.sessions ≡ None → graph_answers old.graph (AttachOp name) reply graph → (reply ≡ NoExportReply → ⊥) →
    ((info : ExportInfo) → reply ≡ AttachedReply info → ⊥) → new ≡ record old { graph = graph } → Handles seen old (Attach s name) CrowdedOut new
crowded_handled {D = D} seen old new s name reply graph sound none row not_none not_some is =
    let away = member_away old.sessions s none in
    let crowded = attach_crowded old.graph name reply row.0 not_none not_some in
    let told_row : graph_answers old.graph (AttachOp name) CrowdedReply graph = subst (λ (r : GraphReply). graph_answers old.graph (AttachOp name) r graph) crowded row in
    let same : new ≡ old = is ∙ ap (λ (v : GraphValue). record old { graph = v }) told_row.1 in
    handled seen old new (Attach s name) CrowdedOut (Crowded s name) (refl, refl) refl (λ h. h away)
    (crowded_does seen old new s name graph away told_row same) tt tt (ap (λ (w : WorldValue D). w.shape) same)
    (uncalled seen old new CrowdedOut (ap (λ (w : WorldValue D). w.stripes) same) tt) (subst (IsSound seen) (sym same) sound)

pub left_handled : {D : Type 0} (seen : D → Seen) (old new : WorldValue D) (at : ℕ) (m : Member) → IsSound seen old → IsElement old.sessions at m → m.left ≡ false →
    new ≡ record old { requests = map (abandoned_of m.session) old.requests; sessions = slice_set old.sessions at (record m { left = true }) } →
    Handles seen old (Leave m.session) LeftOut new
left_handled {D = D} seen old new at m sound e here is =
    let live : session_at old.sessions m.session ≡ LiveAt m.e = session_stands old.sessions at m sound.sessions e ∙ live_is m here in
    let keeps : Keeps old new = record { shape = ap (λ (w : WorldValue D). w.shape) is; tracker = ap (λ (w : WorldValue D). w.tracker) is; stripes = ap (λ (w : WorldValue D). w.stripes) is } in
    let next : new.next ≡ old.next = ap (λ (w : WorldValue D). w.next) is in
    let graph : new.graph ≡ old.graph = ap (λ (w : WorldValue D). w.graph) is in
    let requests : new.requests ≡ map (abandoned_of m.session) old.requests = ap (λ (w : WorldValue D). w.requests) is in
    let sessions : new.sessions ≡ slice_set old.sessions at (record m { left = true }) = ap (λ (w : WorldValue D). w.sessions) is in
    let does : Does seen old (Left m.session m.e) new = left_does seen old new m.session m.e keeps next graph live
    (λ j. ap (λ (ms : List Member). session_at ms j) sessions ∙ session_set old.sessions at (record m { left = true }) m sound.sessions e refl j)
    (λ r. ap (λ (ls : List Live). request_at ls r) requests ∙ request_left m.session old.requests r) in
    handled seen old new (Leave m.session) LeftOut (Left m.session m.e) refl refl (λ h. h m.e live) does tt tt keeps.shape (uncalled seen old new LeftOut keeps.stripes tt)
    (renewed seen old new (Left m.session m.e) sound (record {
      shape = keeps.shape;
      tracker = keeps.tracker;
      stripes = keeps.stripes;
      size = ap (λ (v : GraphValue). v.size) graph;
      places = ap (λ (v : GraphValue). length v.places) graph;
      requests = rw (next, requests) (all_map (IsIdle old.shape old.next) (IsIdle old.shape old.next) (abandoned_of m.session) old.requests
          (λ l idle. abandoned_idle old m.session l idle) sound.requests);
      numbers = rw requests (distinct_map (λ l. l.number) (abandoned_of m.session) old.requests (abandoned_number m.session) sound.numbers);
      sessions = rw sessions (distinct_set (λ x. x.session) old.sessions at (record m { left = true }) m e.inside (sym (ap (λ (x : Member). x.session) (e.is m))) sound.sessions);
    }) does)

-- a session that has no session of its number is neither live nor left
pub nowhere_live : {D : Type 0} (w : WorldValue D) (s : ℕ) → position (λ m. m.session == s) w.sessions ≡ None → (e : ℕ) → session_at w.sessions s ≢ LiveAt e
nowhere_live w s none e is = never (sym (member_away w.sessions s none) ∙ is)
  where
    never : Away ≡ LiveAt e → ⊥
    never f = cc

pub nowhere_leaving : {D : Type 0} (w : WorldValue D) (s : ℕ) → position (λ m. m.session == s) w.sessions ≡ None → (e : ℕ) → session_at w.sessions s ≢ Leaving e
nowhere_leaving w s none e is = never (sym (member_away w.sessions s none) ∙ is)
  where
    never : Away ≡ Leaving e → ⊥
    never f = cc

pub left_not_live : {D : Type 0} (w : WorldValue D) (at : ℕ) (m : Member) → AreDistinct (λ x. x.session) w.sessions → IsElement w.sessions at m → m.left ≡ true →
    (e : ℕ) → session_at w.sessions m.session ≢ LiveAt e
left_not_live w at m apart el left e is = never (sym (session_stands w.sessions at m apart el ∙ leaving_is m left) ∙ is)
  where
    never : Leaving m.e ≡ LiveAt e → ⊥
    never f = cc

pub live_not_leaving : {D : Type 0} (w : WorldValue D) (at : ℕ) (m : Member) → AreDistinct (λ x. x.session) w.sessions → IsElement w.sessions at m → m.left ≡ false →
    (e : ℕ) → session_at w.sessions m.session ≢ Leaving e
live_not_leaving w at m apart el live e is = never (sym (session_stands w.sessions at m apart el ∙ live_is m live) ∙ is)
  where
    never : LiveAt m.e ≡ Leaving e → ⊥
    never f = cc

-- a session that has left and has no request is detached, or the graph says that it has no client
detach_other : (v : GraphValue) (e : ℕ) (reply : GraphReply) → MayGraph v (Detach e) reply → (reply ≡ Gone → ⊥) → reply ≡ NotGone
detach_other v e Gone may other = absurd (other refl)
detach_other v e NotGone may other = refl
detach_other v e _ may other = absurd may

abbrev no_next : {D : Type 0} → WorldValue D → ℕ → ℕ → Type 0
no_next w s now = IsNotNext w (Step (ASession s) now) → ⊥

is_next : {D : Type 0} (seen : D → Seen) (w : WorldValue D) (at now : ℕ) (m : Member) → IsSound seen w → IsElement w.sessions at m → m.left ≡ true → list_any (is_live_of m.session) w.requests ≡ false → no_next w m.session now
is_next seen w at now m sound el left none (inl h) = h m.e (session_stands w.sessions at m sound.sessions el ∙ leaving_is m left)
is_next seen w at now m sound el left none (inr h) = none_has_request m.session w.requests none h

pub detached_handled : {D : Type 0} (seen : D → Seen) (old new : WorldValue D) (at now : ℕ) (m : Member) → IsSound seen old → IsElement old.sessions at m → m.left ≡ true →
    list_any (is_live_of m.session) old.requests ≡ false → graph_answers old.graph (Detach m.e) Gone new.graph → new.graph.size ≡ old.graph.size →
    new ≡ record old { graph = new.graph; sessions = remove old.sessions at } → Handles seen old (Step (ASession m.session) now) (Moved (detach_note Gone)) new
detached_handled {D = D} seen old new at now m sound el left none row size is =
    let leaving : session_at old.sessions m.session ≡ Leaving m.e = session_stands old.sessions at m sound.sessions el ∙ leaving_is m left in
    let keeps : Keeps old new = record { shape = ap (λ (w : WorldValue D). w.shape) is; tracker = ap (λ (w : WorldValue D). w.tracker) is; stripes = ap (λ (w : WorldValue D). w.stripes) is } in
    let next : new.next ≡ old.next = ap (λ (w : WorldValue D). w.next) is in
    let requests : new.requests ≡ old.requests = ap (λ (w : WorldValue D). w.requests) is in
    let sessions : new.sessions ≡ remove old.sessions at = ap (λ (w : WorldValue D). w.sessions) is in
    let does : Does seen old (Detached m.session m.e) new = detached_does seen old new m.session m.e keeps next requests leaving (none_has_request m.session old.requests none) row
    (λ j. ap (λ (ms : List Member). session_at ms j) sessions ∙ session_gone old.sessions at m sound.sessions el j) in
    handled seen old new (Step (ASession m.session) now) (Moved (detach_note Gone)) (Detached m.session m.e) refl refl (is_next seen old at now m sound el left none) does tt tt keeps.shape
    (uncalled seen old new (Moved (detach_note Gone)) keeps.stripes (λ b f. absurd (no_block b f)))
    (renewed seen old new (Detached m.session m.e) sound (record {
      shape = keeps.shape;
      tracker = keeps.tracker;
      stripes = keeps.stripes;
      size = size;
      places = ap (λ (v : GraphValue). length v.places) row.1 ∙ after_length old.graph (Detach m.e) Gone;
      requests = rw (next, requests) sound.requests;
      numbers = rw requests sound.numbers;
      sessions = rw sessions (distinct_gone (λ x. x.session) old.sessions at el.inside sound.sessions);
    }) does)
  where
    no_block : (b : ℕ) → None ≡ Some b → ⊥
    no_block b f = cc

pub not_attached_handled : {D : Type 0} (seen : D → Seen) (old new : WorldValue D) (at now : ℕ) (m : Member) (reply : GraphReply) (graph : GraphValue) → IsSound seen old →
    IsElement old.sessions at m → m.left ≡ true → list_any (is_live_of m.session) old.requests ≡ false → graph_answers old.graph (Detach m.e) reply graph → (reply ≡ Gone → ⊥) →
    new ≡ record old { graph = graph } → Handles seen old (Step (ASession m.session) now) (Moved (detach_note reply)) new
not_attached_handled {D = D} seen old new at now m reply graph sound el left none row other is =
    let leaving : session_at old.sessions m.session ≡ Leaving m.e = session_stands old.sessions at m sound.sessions el ∙ leaving_is m left in
    let gone = detach_other old.graph m.e reply row.0 other in
    let told_row : graph_answers old.graph (Detach m.e) NotGone graph = subst (λ (r : GraphReply). graph_answers old.graph (Detach m.e) r graph) gone row in
    let same : new ≡ old = is ∙ ap (λ (v : GraphValue). record old { graph = v }) told_row.1 in
    handled seen old new (Step (ASession m.session) now) (Moved (detach_note reply)) (NotAttached m.session m.e) refl
    (ap (λ (r : GraphReply). Some (Moved (detach_note r))) (sym gone)) (is_next seen old at now m sound el left none)
    (not_attached_does seen old new m.session m.e graph leaving (none_has_request m.session old.requests none) told_row same)
    tt tt (ap (λ (w : WorldValue D). w.shape) same)
    (uncalled seen old new (Moved (detach_note reply)) (ap (λ (w : WorldValue D). w.stripes) same) (λ b f. absurd (no_block b f)))
    (subst (IsSound seen) (sym same) sound)
  where
    no_block : (b : ℕ) → None ≡ Some b → ⊥
    no_block b f = cc

-- A request is made.
use Rattle.std.proofs.Common.{◌≡◌, ℕ, ◌+◌, ◌-◌, ◌^◌, ◌<◌, ◌⊎◌, inl, inr, List, [], ◌∷◌, ◌++◌, length, Bool, true, false, not, ◌||◌, ◌&&◌, ◌==◌, cond, true≢false, refl, sym, ◌∙◌, ap, arith, eq-eqb}
use Rattle.std.specs.Prelude.{Option, Some, None, is_some}
use Rattle.std.specs.List.{AllByRecursion}
use Rattle.std.specs.Option.{ForSome}
use Rattle.qs_bytes.specs.declared.ask.Ask.{Ask}
use Rattle.qs_bytes.specs.declared.ask.Kind.{Kind}
use Rattle.qs_bytes.specs.declared.ask.Kind.TheVariants.{Write}
use Rattle.qs_outside.specs.Blocks.{Seen}
use Rattle.qs_part.specs.declared.event.Event.TheVariants.{Ask as AskEvent}
use Rattle.qs_part.specs.declared.event.Outcome.TheVariants.{Made}
use Rattle.qs_model.proofs.Basics.{either}
use Rattle.qs_model.specs.Requests.{Client, new_request, brings_bytes, is_read, stores_bytes, takes_body, wants_buffers}
use Rattle.qs_model.specs.Worlds.{Live as LiveAt}
use Rattle.qs_model.specs.Acts.{Asked}
use Rattle.qs_model.specs.Events.{BringsBytes, HasNone}
use Rattle.qs_request_state.specs.declared.shape.Blocks.{Blocks}
use Rattle.qs_request.proofs.Made.{body_works, brings_takes, brought, given_length, unbrought}
use Rattle.qs_request.specs.Value.{RequestValue, client_for, given_bytes, bytes_of, has_buffers}
use Rattle.qs_world.specs.declared.live.Live.{Live}
use Rattle.qs_world.specs.declared.live.Member.{Member}
use Rattle.qs_world.specs.Bodies.{fitted}
use Rattle.qs_world.specs.Cores.{Handles}
use Rattle.qs_world.specs.Events.{Does, IsNotNext}
use Rattle.qs_world.specs.Follows.{IsElement}
use Rattle.qs_world.specs.Keyed.{HasKey}
use Rattle.qs_world.specs.Sound.{IsSound, IsIdle}
use Rattle.qs_world.specs.Values.{WorldValue, request_at, session_at}
use Rattle.qs_world.proofs.SameDisks.{uncalled}
use Rattle.qs_world.proofs.Coming.{Keeps, asked_does}
use Rattle.qs_world.proofs.Handling.{handled, renewed, session_stands, live_is}
use Rattle.qs_world.proofs.Keyed.{find_more, distinct_more, all_more, all_weaker}

-- the next number is nobody's
pub never_next : {D : Type 0} (w : WorldValue D) (ls : List Live) → AllByRecursion (IsIdle w.shape w.next) ls → HasKey (λ l. l.number) ls w.next → ⊥
never_next w [] all h = h
never_next w (l ∷ ls) all (inl e) = omega (arith, all.0.below, e)
never_next w (l ∷ ls) all (inr h) = never_next w ls all.1 h

-- no bytes
bare_bytes : (k : Kind) → bytes_of k [] ≡ []
bare_bytes Write = refl
bare_bytes _ = refl

-- a request that has no body of its own wants none, or memory was refused
lacks : (ask : Ask) (session e : ℕ) (blocks : Option Blocks) → HasNone (client_for session ask e None blocks)
lacks ask session e blocks = record { wanted = go (ask.length == 0) (takes_body ask.kind) (is_read ask.kind || stores_bytes ask.kind) (is_some blocks) (body_works ask.kind); empty = bare_bytes ask.kind }
  where
    go : (z t w s : Bool) → (t ≡ true → w ≡ true) → ((not z && t) ≡ false) ⊎ ((not (not z && w) || (s && (is_some {T = List ℕ} None || not t))) ≡ false)
    go true t w s works = inl refl
    go false false w s works = inl refl
    go false true true true works = inr refl
    go false true true false works = inr refl
    go false true false s works = absurd (true≢false (sym (works refl)))

-- a body of the right length
fits : (body : Option (List ℕ)) (n : ℕ) → ForSome (fitted body n) (λ bytes. length bytes ≡ n)
fits None n = λ x is. absurd (cc)
fits (Some body) n = go (length body == n) refl
  where
    go : (b : Bool) → (length body == n) ≡ b → ForSome (cond b (Some body) None) (λ bytes. length bytes ≡ n)
    go true is = λ x same. let e : body ≡ x = cc in ap length (sym e) ∙ grind (arith, is)
    go false is = λ x same. absurd (cc)

brings : (session e : ℕ) (ask : Ask) (body : Option (List ℕ)) (blocks : Option Blocks) → BringsBytes body (client_for session ask e (fitted body ask.length) blocks)
brings session e ask None blocks = lacks ask session e blocks
brings session e ask (Some body) blocks = go (length body == ask.length) refl
  where
    go : (b : Bool) → (length body == ask.length) ≡ b → BringsBytes (Some body) (client_for session ask e (cond b (Some body) None) blocks)
    go true is = inl (grind (arith, is), λ writing. brought ask.kind body writing)
    go false is = inr (λ same. true≢false (sym (eq-eqb (length body) ask.length same) ∙ is), lacks ask session e blocks)

-- a request that wants no buffers has all that it wants
buffered : (ask : Ask) (body : Option (List ℕ)) (blocks : Option Blocks) → wants_buffers ask ≡ false → has_buffers ask body blocks ≡ true
buffered ask body blocks none = ap (λ (b : Bool). not b || (is_some blocks && (is_some body || not (takes_body ask.kind)))) none

-- a WRITE that has its buffers has its bytes
whole_body : (ask : Ask) (body : Option (List ℕ)) (blocks : Option Blocks) → brings_bytes ask.kind ≡ true → has_buffers ask (fitted body ask.length) blocks ≡ true →
    length (bytes_of ask.kind (given_bytes (fitted body ask.length))) ≡ ask.length
whole_body ask body blocks writing has =
    ap length (sym (brought ask.kind (given_bytes (fitted body ask.length)) writing))
    ∙ given_length ask (fitted body ask.length) blocks (fits body ask.length) has (brings_takes ask.kind writing)

-- one that was refused them has its bytes all the same, or none
refused_body : (ask : Ask) (body : Option (List ℕ)) (blocks : Option Blocks) →
    (bytes_of ask.kind (given_bytes (fitted body ask.length)) ≡ []) ⊎ (length (bytes_of ask.kind (given_bytes (fitted body ask.length))) ≡ ask.length)
refused_body ask None blocks = inl (bare_bytes ask.kind)
refused_body ask (Some body) blocks = go (length body == ask.length) refl
  where
    go : (b : Bool) → (length body == ask.length) ≡ b →
        (bytes_of ask.kind (given_bytes (cond b (Some body) None)) ≡ []) ⊎ (length (bytes_of ask.kind (given_bytes (cond b (Some body) None))) ≡ ask.length)
    go true is = elim (either (brings_bytes ask.kind)) [
      | inl writing ↦ inr (sym (ap length (brought ask.kind body writing)) ∙ grind (arith, is))
      | inr other ↦ inl (unbrought ask.kind body other)
    ]
    go false is = inl (bare_bytes ask.kind)

-- the request as it is made
abbrev pub made_request : {D : Type 0} → WorldValue D → Client → RequestValue
made_request w c = record { request = new_request c; shape = w.shape; waits = false; answered = false }

-- behind a box of its own
abbrev pub made_live : {D : Type 0} → WorldValue D → Client → Live → Live
made_live w c l = record l { number = w.next; request = record l.request { value = made_request w c } }

pub asked_handled : {D : Type 0} (seen : D → Seen) (old new : WorldValue D) (at : ℕ) (m : Member) (ask : Ask) (body : Option (List ℕ)) (blocks : Option Blocks) (l : Live) →
    IsSound seen old → IsElement old.sessions at m → m.left ≡ false → old.next < 2 ^ 64 - 1 →
    new ≡ record old { next = old.next + 1; requests = old.requests ++ made_live old (client_for m.session ask m.e (fitted body ask.length) blocks) l ∷ [] } →
    Handles seen old (AskEvent m.session ask body) (Made old.next) new
asked_handled {D = D} seen old new at m ask body blocks l sound el here room is =
    let c : Client = client_for m.session ask m.e (fitted body ask.length) blocks in
    let live : session_at old.sessions m.session ≡ LiveAt m.e = session_stands old.sessions at m sound.sessions el ∙ live_is m here in
    let keeps : Keeps old new = record { shape = ap (λ (w : WorldValue D). w.shape) is; tracker = ap (λ (w : WorldValue D). w.tracker) is; stripes = ap (λ (w : WorldValue D). w.stripes) is } in
    let next : new.next ≡ old.next + 1 = ap (λ (w : WorldValue D). w.next) is in
    let graph : new.graph ≡ old.graph = ap (λ (w : WorldValue D). w.graph) is in
    let requests : new.requests ≡ old.requests ++ made_live old c l ∷ [] = ap (λ (w : WorldValue D). w.requests) is in
    let sessions : new.sessions ≡ old.sessions = ap (λ (w : WorldValue D). w.sessions) is in
    let never : HasKey (λ l. l.number) old.requests old.next → ⊥ = never_next old old.requests sound.requests in
    let does : Does seen old (Asked old.next c) new =
    asked_does seen old new c keeps next graph sessions room live refl (λ none. buffered ask (fitted body ask.length) blocks none)
    (λ writing has. whole_body ask body blocks writing has) (λ writing bare. refused_body ask body blocks) (λ other. unbrought ask.kind (given_bytes (fitted body ask.length)) other)
    (λ r. ap (λ (ls : List Live). request_at ls r) requests ∙ find_more (λ l. l.number) (λ l. l.request.value.request) old.requests (made_live old c l) never r) in
    handled seen old new (AskEvent m.session ask body) (Made old.next) (Asked old.next c) (refl, refl, brings m.session m.e ask body blocks) refl
    (λ h. not_now h live) does tt tt keeps.shape (uncalled seen old new (Made old.next) keeps.stripes tt)
    (renewed seen old new (Asked old.next c) sound (record {
      shape = keeps.shape;
      tracker = keeps.tracker;
      stripes = keeps.stripes;
      size = ap (λ (v : _). v.size) graph;
      places = ap (λ (v : _). length v.places) graph;
      requests = rw (next, requests) (all_more (IsIdle old.shape (old.next + 1)) old.requests (made_live old c l)
          (all_weaker (IsIdle old.shape old.next) (IsIdle old.shape (old.next + 1)) old.requests
          (λ l idle. record { below = omega (arith, idle.below); shape_is = idle.shape_is; waits = idle.waits; answered = idle.answered }) sound.requests)
          (record { below = omega arith; shape_is = refl; waits = refl; answered = refl }));
      numbers = rw requests (distinct_more (λ l. l.number) old.requests (made_live old c l) sound.numbers never);
      sessions = rw sessions sound.sessions;
    }) does)
  where
    not_now : IsNotNext old (AskEvent m.session ask body) → session_at old.sessions m.session ≡ LiveAt m.e → ⊥
    not_now (inl h) live = h m.e live
    not_now (inr h) live = omega (arith, h, room)

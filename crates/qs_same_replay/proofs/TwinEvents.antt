-- The event of a line, and the names after it, in one way.
use Rattle.std.proofs.Common.{◌≡◌, ℕ, ◌<◌, inl, inr, List, [], ◌∷◌, length, Bool, true, false, not, ◌&&◌, nat_lt, cond, refl, sym, subst, ap, ◌∙◌, arith, true≢false}
use Rattle.std.specs.Prelude.{Option, Some, None, replicate}
use Rattle.std.specs.FinMap as map
use Rattle.std.proofs.lemmas.Bool.{ne_eqb}
use Rattle.qs_bytes.specs.Payloads.{max_payload}
use Rattle.qs_part.specs.declared.event.Actor.{Actor}
use Rattle.qs_part.specs.declared.event.Event.{Event}
use Rattle.qs_part.specs.declared.event.Event.TheVariants as event
use Rattle.qs_part.specs.declared.event.Outcome.{Outcome}
use Rattle.qs_part.specs.declared.event.Outcome.TheVariants as outcome
use Rattle.qs_script.specs.declared.actor.ScriptActor.{ScriptActor}
use Rattle.qs_script.specs.declared.actor.ScriptActor.TheVariants as who
use Rattle.qs_script.specs.declared.line.Line.{Line}
use Rattle.qs_script.specs.declared.line.Line.TheVariants as line
use Rattle.qs_model.specs.Acts.{Element, Asked}
use Rattle.qs_model.specs.Events.{IsEvent}
use Rattle.qs_model.specs.Requests.{form_error, wants_body}
use Rattle.qs_model.proofs.Basics.{either}
use Rattle.qs_same_replay.specs.Same.{IsGiven}
use Rattle.qs_replay_lines.specs.Effects.{Adds, IsActor, IsKey, IsRoom, Notes, Settles, bytes_or, read_ask, write_ask}
use Rattle.qs_replay_lines.specs.Tables.{GivesName, Names, names_settled}
use Rattle.qs_replay_lines.proofs.Playing.{gives_number, known_one}

-- a name has one number
pub gives_one : (t a b : Names) (s : List ℕ) (n m : ℕ) → GivesName t s n a → GivesName t s m b → (m ≡ n) × (b ≡ a)
gives_one t a b s n m (inl p) (inl q) = (gives_number t b a s m n (inl q) (inl p), q.1 ∙ sym p.1)
gives_one t a b s n m (inl p) (inr q) = absurd (q.0 n p.0.inside p.0.here)
gives_one t a b s n m (inr p) (inl q) = absurd (p.0 m q.0.inside q.0.here)
gives_one t a b s n m (inr p) (inr q) = (q.1 ∙ sym p.1, q.2 ∙ sym p.2)

-- an actor is one
pub actor_one : (t a b : Names) (w : ScriptActor) (x y : Actor) → IsActor t w x a → IsActor t w y b → (y ≡ x) × (b ≡ a)
actor_one t a b (who.Session s) x y is at =
    let one = gives_one t a b s is.0 at.0 is.1.0 at.1.0 in (at.1.1 ∙ ap (λ (n : ℕ). Actor.Session n) one.0 ∙ sym is.1.1, one.1)
actor_one t a b (who.Request s c) x y is at =
    let one = gives_one t a b s is.0 at.0 is.2.0 at.2.0 in
    let same : at.1 ≡ is.1 = found_one (map.get a.live (is.0, c)) is.1 at.1 is.2.1
    (subst (λ (n : ℕ). map.get a.live (n, c) ≡ Some at.1) one.0 (subst (λ (u : Names). map.get u.live (at.0, c) ≡ Some at.1) one.1 at.2.1)) in
    (at.2.2 ∙ ap (λ (r : ℕ). Actor.Request r) same ∙ sym is.2.2, one.1)
  where
    found_one : (o : Option ℕ) (m k : ℕ) → o ≡ Some m → o ≡ Some k → k ≡ m
    found_one o m k p q = cc

-- the buffer that a READ brings where no memory is refused
abbrev pub room_of : ℕ → Option (List ℕ)
room_of n = cond (nat_lt max_payload n) None (Some (replicate n 0))

-- a READ and a WRITE of some bytes want a body
pub read_wants : (cookie offset long : ℕ) → 0 < long → wants_body (read_ask cookie offset long) ≡ true
read_wants cookie offset long some = ap (λ (b : Bool). not b && true) (ne_eqb long 0 (λ e. omega (arith, e, some)))

write_wants : (cookie offset : ℕ) (bytes : List ℕ) (fua : Bool) → 0 < length bytes → wants_body (write_ask cookie offset bytes fua) ≡ true
write_wants cookie offset bytes fua some = ap (λ (b : Bool). not b && true) (ne_eqb (length bytes) 0 (λ e. omega (arith, e, some)))

-- a READ brings it
pub read_body : (n cookie offset long : ℕ) (body : Option (List ℕ)) (e : Element) → IsRoom body long → IsEvent (event.Ask n (read_ask cookie offset long) body) e →
    IsGiven e → body ≡ room_of long
read_body n cookie offset long None (Asked s c) room is given = elim (either (nat_lt max_payload long)) [
  | inl big ↦ sym (ap (λ (b : Bool). cond b None (Some (replicate long 0))) big)
  | inr fits ↦ absurd (elim is.2.wanted [
    | inl unwanted ↦ true≢false (sym (read_wants cookie offset long room) ∙ ap wants_body is.1 ∙ unwanted)
    | inr refused ↦ true≢false (sym (given (ap form_error (sym is.1) ∙ fits)) ∙ refused)
  ])
]
read_body n cookie offset long (Some bytes) (Asked s c) room is given = elim (either (nat_lt max_payload long)) [
  | inl big ↦ let above : max_payload < long = grind (arith, big) in absurd (omega (arith, above, room.1))
  | inr fits ↦ ap Some room.0 ∙ sym (ap (λ (b : Bool). cond b None (Some (replicate long 0))) fits)
]
read_body n cookie offset long body _ room is given = absurd is

-- a WRITE brings its bytes
pub write_body : (n cookie offset : ℕ) (bytes : List ℕ) (fua lost : Bool) (e : Element) →
    IsEvent (event.Ask n (write_ask cookie offset bytes fua) (bytes_or lost bytes)) e → IsGiven e → bytes_or lost bytes ≡ Some bytes
write_body n cookie offset [] fua true e is given = refl
write_body n cookie offset [] fua false e is given = refl
write_body n cookie offset (b ∷ bytes) fua true (Asked s c) is given = absurd (elim is.2.wanted [
  | inl unwanted ↦ true≢false (sym (write_wants cookie offset (b ∷ bytes) fua (omega arith)) ∙ ap wants_body is.1 ∙ unwanted)
  | inr refused ↦ true≢false (sym (given (ap form_error (sym is.1))) ∙ refused)
])
write_body n cookie offset (b ∷ bytes) fua true _ is given = absurd is
write_body n cookie offset (b ∷ bytes) fua false e is given = refl

-- what a request is kept under is one
key_one : (t : Names) (w : ScriptActor) (x y : Option (ℕ × ℕ)) → IsKey t w x → IsKey t w y → y ≡ x
key_one t (who.Session s) x y is at = at ∙ sym is
key_one t (who.Request s c) x y is at = at.1.1 ∙ ap (λ (n : ℕ). Some (n, c)) (known_one t.sessions s at.0 is.0 at.1.0 is.1.0) ∙ sym is.1.1

settles_one : (w : ScriptActor) (o : Outcome) (t a b : Names) → Settles w o t a → Settles w o t b → b ≡ a
settles_one w o t a b p q = q.1.1 ∙ ap (λ (k : Option (ℕ × ℕ)). names_settled t k o) (key_one t w p.0 q.0 p.1.0 q.1.0) ∙ sym p.1.1

adds_one : (made : Event) (o : Outcome) (t a b : Names) → Adds made o t a → Adds made o t b → b ≡ a
adds_one (event.Ask n ask body) (outcome.Made r) t a b p q = q.1 ∙ sym p.1
adds_one (event.Ask n ask body) _ t a b p q = absurd p
adds_one (event.Attach n e) o t a b p q = q ∙ sym p
adds_one (event.Leave n) o t a b p q = q ∙ sym p
adds_one (event.Step a1 now) o t a b p q = q ∙ sym p

-- the names after a line
pub notes_one : (l : Line) (made : Event) (o : Outcome) (t a b : Names) → Notes l made o t a → Notes l made o t b → b ≡ a
notes_one (line.Step w now) made o t a b p q = settles_one w o t a b p q
notes_one (line.Run w now) made o t a b p q = settles_one w o t a b p q
notes_one line.Nothing made o t a b p q = adds_one made o t a b p q
notes_one (line.Session s e) made o t a b p q = adds_one made o t a b p q
notes_one (line.End s) made o t a b p q = adds_one made o t a b p q
notes_one (line.Read s c offset long) made o t a b p q = adds_one made o t a b p q
notes_one (line.Write s c offset bytes fua) made o t a b p q = adds_one made o t a b p q
notes_one (line.Zero s c offset long fua) made o t a b p q = adds_one made o t a b p q
notes_one (line.Trim s c offset long) made o t a b p q = adds_one made o t a b p q
notes_one (line.Flush s c) made o t a b p q = adds_one made o t a b p q
notes_one (line.Fail j k) made o t a b p q = adds_one made o t a b p q
notes_one (line.Crash choice) made o t a b p q = adds_one made o t a b p q

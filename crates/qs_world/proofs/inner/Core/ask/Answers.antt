use Rattle.std.proofs.Common.{◌≡◌, ◌==◌, ◌∙◌, ◌-◌, ◌^◌, ◌<◌, ◌+◌, ◌++◌, ◌∷◌, [], ℕ, List, Bool, true, false, sym, ap, subst, inl, inr, arith}
use Rattle.std.specs.Prelude.{Option, position}
use Rattle.qs_outside.specs.Blocks.{Seen}
use Rattle.qs_part.specs.declared.event.Event.TheVariants.{Ask as AskEvent}
use Rattle.qs_bytes.specs.declared.ask.Ask.{Ask}
use Rattle.qs_part.specs.declared.event.Outcome.{Outcome}
use Rattle.qs_part.specs.declared.event.Outcome.TheVariants.{Made, Memory}
use Rattle.qs_model.specs.Requests.{Client}
use Rattle.qs_request.specs.Value.{RequestValue, client_for}
use Rattle.qs_world.specs.declared.live.Live.{Live}
use Rattle.qs_world.specs.declared.live.Member.{Member}
use Rattle.qs_world.specs.Bodies.{fitted}
use Rattle.qs_world.specs.Cores.{Handles, value_of}
use Rattle.qs_world.specs.Events.{IsNotNext}
use Rattle.qs_world.specs.Follows.{IsElement}
use Rattle.qs_world.specs.Sound.{IsSound}
use Rattle.qs_world.specs.Values.{WorldValue, session_at}
use Rattle.qs_model.specs.Worlds.{Live as LiveAt}
use Rattle.qs_world.proofs.Handling.{not_next, no_memory, member_stands, nowhere_live, left_not_live, session_stands, live_is}
use Rattle.qs_world.proofs.Requests.{asked_handled, made_request}
use Rattle.qs_world.proofs.inner.Core.ask.Goals as goal

pub returns-in_default : goal.returns-in_default
returns-in_default g c =
    not_next g.D.Disk.seen (value_of c.args.self.now) _ c.requires.sound
    (inl (nowhere_live (value_of c.args.self.now) c.args.session
    (ap (λ (xs : List Member). position (λ m. m.session == c.args.session) xs) (sym c.deref.ensures.value) ∙ sym c.find_member.ensures ∙ c.in_default.is)))

pub returns-then-member : goal.returns-then-member
returns-then-member g c =
    let at = member_stands c.args.self.now.sessions.items c.in-Some.at c.args.session
    (ap (λ (xs : List Member). position (λ m. m.session == c.args.session) xs) (sym c.deref.ensures.value) ∙ sym c.find_member.ensures ∙ c.in-Some.is) in
    let same : c.index-member.result.now ≡ at.0 = c.index-member.ensures ∙ at.1.0.is c.index-member.result.now in
    let left : at.0.left ≡ true = sym (ap (λ (m : Member). m.left) same) ∙ c.if-member.true in
    subst (λ (s : _). Handles g.D.Disk.seen (value_of c.args.self.now) (AskEvent s c.args.ask c.args.body) _ (value_of c.args.self.now)) at.1.1
    (not_next g.D.Disk.seen (value_of c.args.self.now) (AskEvent at.0.session c.args.ask c.args.body) c.requires.sound
    (inl (left_not_live (value_of c.args.self.now) c.in-Some.at at.0 c.requires.sound.sessions at.1.0 left)))

-- memory was refused to a session that is live
refused : {D : Type 0} (seen : D → Seen) (w new : WorldValue D) (at : ℕ) (m : Member) (here : Bool) (s : ℕ) (ask : Ask) (body : Option (List ℕ)) → IsSound seen w →
    IsElement w.sessions at m → m.session ≡ s → m.left ≡ here → here ≡ false → w.next < 2 ^ 64 - 1 → new ≡ w → Handles seen w (AskEvent s ask body) Memory new
refused seen w new at m here s ask body sound el session left is room same =
    no_memory seen w new (AskEvent s ask body) sound tt (not_now live) same
  where
    live : session_at w.sessions s ≡ LiveAt m.e
    live = sym (ap (session_at w.sessions) session) ∙ session_stands w.sessions at m sound.sessions el ∙ live_is m (left ∙ is)

    not_now : session_at w.sessions s ≡ LiveAt m.e → IsNotNext w (AskEvent s ask body) → ⊥
    not_now live (inl h) = h m.e live
    not_now live (inr h) = omega (arith, h, room)

pub returns-in-Err : goal.returns-in-Err
returns-in-Err g c =
    let at = member_stands c.args.self.now.sessions.items c.in-Some.at c.args.session
    (ap (λ (xs : List Member). position (λ m. m.session == c.args.session) xs) (sym c.deref.ensures.value) ∙ sym c.find_member.ensures ∙ c.in-Some.is) in
    refused g.D.Disk.seen (value_of c.args.self.now) (record (value_of c.args.self.now) { requests = c.reserve.new.self.items }) c.in-Some.at at.0
    c.index-member.result.now.left c.args.session c.args.ask c.args.body c.requires.sound at.1.0 at.1.1
    (ap (λ (m : Member). m.left) (sym (c.index-member.ensures ∙ at.1.0.is c.index-member.result.now))) c.if-member.false (omega (arith, c.if-self.false))
    (ap (λ (xs : List Live). record (value_of c.args.self.now) { requests = xs }) c.reserve.ensures.items)

pub returns-in-Err-boxed : goal.returns-in-Err-boxed
returns-in-Err-boxed g c =
    let at = member_stands c.args.self.now.sessions.items c.in-Some.at c.args.session
    (ap (λ (xs : List Member). position (λ m. m.session == c.args.session) xs) (sym c.deref.ensures.value) ∙ sym c.find_member.ensures ∙ c.in-Some.is) in
    refused g.D.Disk.seen (value_of c.args.self.now) (record (value_of c.args.self.now) { requests = c.reserve.new.self.items }) c.in-Some.at at.0
    c.index-member.result.now.left c.args.session c.args.ask c.args.body c.requires.sound at.1.0 at.1.1
    (ap (λ (m : Member). m.left) (sym (c.index-member.ensures ∙ at.1.0.is c.index-member.result.now))) c.if-member.false (omega (arith, c.if-self.false))
    (ap (λ (xs : List Live). record (value_of c.args.self.now) { requests = xs }) c.reserve.ensures.items)

pub returns-in-Ok-boxed : goal.returns-in-Ok-boxed
returns-in-Ok-boxed g c =
    let at = member_stands c.args.self.now.sessions.items c.in-Some.at c.args.session
    (ap (λ (xs : List Member). position (λ m. m.session == c.args.session) xs) (sym c.deref.ensures.value) ∙ sym c.find_member.ensures ∙ c.in-Some.is) in
    let same : c.index-member.result.now ≡ at.0 = c.index-member.ensures ∙ at.1.0.is c.index-member.result.now in
    let here : at.0.left ≡ false = sym (ap (λ (m : Member). m.left) same) ∙ c.if-member.false in
    let room : c.args.self.now.next < 2 ^ 64 - 1 = omega (arith, c.if-self.false) in
    let client : client_for c.args.session c.args.ask c.index-member.result.now.e c.fitting-body.result c.blocks_for-blocks.result
    ≡ client_for at.0.session c.args.ask at.0.e (fitted c.args.body c.args.ask.length) c.blocks_for-blocks.result =
    ap (λ (s : ℕ). client_for s c.args.ask c.index-member.result.now.e c.fitting-body.result c.blocks_for-blocks.result) (sym at.1.1)
    ∙ ap (λ (m : Member). client_for at.0.session c.args.ask m.e c.fitting-body.result c.blocks_for-blocks.result) same
    ∙ ap (λ (b : Option (List ℕ)). client_for at.0.session c.args.ask at.0.e b c.blocks_for-blocks.result) c.fitting-body.ensures in
    let request : c.new-request.result ≡ made_request (value_of c.args.self.now) (client_for at.0.session c.args.ask at.0.e (fitted c.args.body c.args.ask.length) c.blocks_for-blocks.result) =
    c.new-request.ensures ∙ ap (λ (k : Client). made_request (value_of c.args.self.now) k) client in
    subst (λ (o : Outcome). Handles g.D.Disk.seen (value_of c.args.self.now) (AskEvent c.args.session c.args.ask c.args.body) o (value_of c.make.new.self)) (sym c.make.ensures.made)
    (subst (λ (s : ℕ). Handles g.D.Disk.seen (value_of c.args.self.now) (AskEvent s c.args.ask c.args.body) (Made c.args.self.now.next) (value_of c.make.new.self)) at.1.1
    (asked_handled g.D.Disk.seen (value_of c.args.self.now) (value_of c.make.new.self) c.in-Some.at at.0 c.args.ask c.args.body c.blocks_for-blocks.result
    (record { number = c.args.self.now.next; request = c.in-Ok-boxed.request })
    c.requires.sound at.1.0 here room
    (c.make.ensures.same ∙ ap (λ (xs : List Live). record (value_of c.args.self.now) { next = c.args.self.now.next + 1; requests = xs })
    (c.make.ensures.requests
    ∙ ap (λ (xs : List Live). xs ++ record { number = c.args.self.now.next; request = c.in-Ok-boxed.request } ∷ []) c.reserve.ensures.items
    ∙ ap (λ (r : RequestValue). c.args.self.now.requests.items ++ record { number = c.args.self.now.next; request = record c.in-Ok-boxed.request { value = r } } ∷ [])
    (c.in-Ok-boxed.ensures ∙ request)))))

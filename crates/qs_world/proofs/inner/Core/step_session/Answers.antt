use Rattle.std.proofs.Common.{◌≡◌, ◌==◌, ◌∙◌, List, Bool, not, true, false, sym, ap, subst, refl, inl, inr}
use Rattle.std.specs.Prelude.{position}
use Rattle.std.specs.List.{list_any}
use Rattle.qs_part.specs.declared.event.Event.TheVariants.{Step}
use Rattle.qs_part.specs.declared.event.Note.{Note}
use Rattle.qs_part.specs.declared.event.Outcome.TheVariants.{Moved}
use Rattle.qs_part.specs.declared.graph.GraphOp.TheVariants.{Detach}
use Rattle.qs_part.specs.declared.graph.GraphReply.{GraphReply}
use Rattle.qs_part.specs.declared.graph.GraphReply.TheVariants.{Detached as Gone}
use Rattle.qs_graph.specs.Table.{answers as graph_answers}
use Rattle.qs_world.specs.Notes.{detach_note}
use Rattle.qs_part.specs.declared.event.Actor.TheVariants.{Session as ASession}
use Rattle.qs_world.specs.declared.live.Live.{Live}
use Rattle.qs_world.specs.declared.live.Member.{Member}
use Rattle.qs_world.specs.Cores.{Handles, value_of}
use Rattle.qs_world.specs.Follows.{is_live_of}
use Rattle.qs_world.proofs.Handling.{not_next, detached_handled, not_attached_handled, member_stands, nowhere_leaving, live_not_leaving, any_has}
use Rattle.qs_world.proofs.inner.Core.step_session.Goals as goal

not_true : (b : Bool) → not b ≡ true → b ≡ false
not_true true e = cc
not_true false e = refl

not_false : (b : Bool) → not b ≡ false → b ≡ true
not_false true e = refl
not_false false e = cc

pub returns-in_default : goal.returns-in_default
returns-in_default g c =
    not_next g.D.Disk.seen (value_of c.args.self.now) _ c.requires.sound
    (inl (nowhere_leaving (value_of c.args.self.now) c.args.session
    (ap (λ (xs : List Member). position (λ m. m.session == c.args.session) xs) (sym c.deref.ensures.value) ∙ sym c.find_member.ensures ∙ c.in_default.is)))

pub returns-then-not-member : goal.returns-then-not-member
returns-then-not-member g c =
    let at = member_stands c.args.self.now.sessions.items c.in-Some.at c.args.session
    (ap (λ (xs : List Member). position (λ m. m.session == c.args.session) xs) (sym c.deref.ensures.value) ∙ sym c.find_member.ensures ∙ c.in-Some.is) in
    let same : c.index-member.result.now ≡ at.0 = c.index-member.ensures ∙ at.1.0.is c.index-member.result.now in
    let live : at.0.left ≡ false = sym (ap (λ (m : Member). m.left) same) ∙ not_true c.index-member.result.now.left c.if-not-member.true in
    subst (λ (s : _). Handles g.D.Disk.seen (value_of c.args.self.now) (Step (ASession s) c.args.now) _ (value_of c.args.self.now)) at.1.1
    (not_next g.D.Disk.seen (value_of c.args.self.now) (Step (ASession at.0.session) c.args.now) c.requires.sound
    (inl (live_not_leaving (value_of c.args.self.now) c.in-Some.at at.0 c.requires.sound.sessions at.1.0 live)))

pub returns-then-has_request : goal.returns-then-has_request
returns-then-has_request g c =
    not_next g.D.Disk.seen (value_of c.args.self.now) _ c.requires.sound
    (inr (any_has c.args.session c.args.self.now.requests.items c.requires.sound.numbers
    (ap (λ (xs : List Live). list_any (is_live_of c.args.session) xs) (sym c.deref-2.ensures.value) ∙ sym c.has_request.ensures ∙ c.if-has_request.true)))

pub returns-in-Detached : goal.returns-in-Detached
returns-in-Detached g c =
    let at = member_stands c.args.self.now.sessions.items c.in-Some.at c.args.session
    (ap (λ (xs : List Member). position (λ m. m.session == c.args.session) xs) (sym c.deref.ensures.value) ∙ sym c.find_member.ensures ∙ c.in-Some.is) in
    let same : c.index-member.result.now ≡ at.0 = c.index-member.ensures ∙ at.1.0.is c.index-member.result.now in
    let left : at.0.left ≡ true = sym (ap (λ (m : Member). m.left) same) ∙ not_false c.index-member.result.now.left c.if-not-member.false in
    let none : list_any (is_live_of at.0.session) c.args.self.now.requests.items ≡ false =
    ap (λ (s : _). list_any (is_live_of s) c.args.self.now.requests.items) at.1.1
    ∙ ap (λ (xs : List Live). list_any (is_live_of c.args.session) xs) (sym c.deref-2.ensures.value) ∙ sym c.has_request.ensures ∙ c.if-has_request.false in
    let row : graph_answers c.args.self.now.graph (Detach at.0.e) Gone c.step-reply.new.self =
    subst (λ (r : GraphReply). graph_answers c.args.self.now.graph (Detach at.0.e) r c.step-reply.new.self) c.in-Detached.is
    (subst (λ (m : Member). graph_answers c.args.self.now.graph (Detach m.e) c.step-reply.result c.step-reply.new.self) same c.step-reply.ensures.legal) in
    subst (λ (n : Note). Handles g.D.Disk.seen (value_of c.args.self.now) (Step (ASession c.args.session) c.args.now) (Moved n)
    (record (value_of c.args.self.now) { sessions = c.remove.new.self.items; graph = c.step-reply.new.self }))
    (ap detach_note (sym c.in-Detached.is) ∙ sym c.detach_note-note.ensures)
    (subst (λ (s : _). Handles g.D.Disk.seen (value_of c.args.self.now) (Step (ASession s) c.args.now) (Moved (detach_note Gone))
    (record (value_of c.args.self.now) { sessions = c.remove.new.self.items; graph = c.step-reply.new.self })) at.1.1
    (detached_handled g.D.Disk.seen (value_of c.args.self.now) (record (value_of c.args.self.now) { sessions = c.remove.new.self.items; graph = c.step-reply.new.self })
    c.in-Some.at c.args.now at.0 c.requires.sound at.1.0 left none row c.step-reply.ensures.same
    (ap (λ (xs : List Member). record (value_of c.args.self.now) { sessions = xs; graph = c.step-reply.new.self }) c.remove.ensures.items)))

pub returns-in_default-reply : goal.returns-in_default-reply
returns-in_default-reply g c =
    let at = member_stands c.args.self.now.sessions.items c.in-Some.at c.args.session
    (ap (λ (xs : List Member). position (λ m. m.session == c.args.session) xs) (sym c.deref.ensures.value) ∙ sym c.find_member.ensures ∙ c.in-Some.is) in
    let same : c.index-member.result.now ≡ at.0 = c.index-member.ensures ∙ at.1.0.is c.index-member.result.now in
    let left : at.0.left ≡ true = sym (ap (λ (m : Member). m.left) same) ∙ not_false c.index-member.result.now.left c.if-not-member.false in
    let none : list_any (is_live_of at.0.session) c.args.self.now.requests.items ≡ false =
    ap (λ (s : _). list_any (is_live_of s) c.args.self.now.requests.items) at.1.1
    ∙ ap (λ (xs : List Live). list_any (is_live_of c.args.session) xs) (sym c.deref-2.ensures.value) ∙ sym c.has_request.ensures ∙ c.if-has_request.false in
    let row : graph_answers c.args.self.now.graph (Detach at.0.e) c.step-reply.result c.step-reply.new.self =
    subst (λ (m : Member). graph_answers c.args.self.now.graph (Detach m.e) c.step-reply.result c.step-reply.new.self) same c.step-reply.ensures.legal in
    subst (λ (n : Note). Handles g.D.Disk.seen (value_of c.args.self.now) (Step (ASession c.args.session) c.args.now) (Moved n)
    (record (value_of c.args.self.now) { graph = c.step-reply.new.self })) (sym c.detach_note-note.ensures)
    (subst (λ (s : _). Handles g.D.Disk.seen (value_of c.args.self.now) (Step (ASession s) c.args.now) (Moved (detach_note c.step-reply.result))
    (record (value_of c.args.self.now) { graph = c.step-reply.new.self })) at.1.1
    (not_attached_handled g.D.Disk.seen (value_of c.args.self.now) (record (value_of c.args.self.now) { graph = c.step-reply.new.self })
    c.in-Some.at c.args.now at.0 c.step-reply.result c.step-reply.new.self c.requires.sound at.1.0 left none row c.in_default-reply.not-Detached refl))

use Rattle.std.proofs.Common.{◌≡◌, ◌==◌, ◌++◌, ◌∷◌, [], ◌∙◌, List, false, sym, ap}
use Rattle.std.specs.Prelude.{position}
use Rattle.qs_graph.specs.Table.{GraphValue}
use Rattle.qs_world.specs.declared.live.Member.{Member}
use Rattle.qs_world.specs.Cores.{value_of}
use Rattle.qs_world.specs.Values.{WorldValue, session_at}
use Rattle.qs_world.proofs.Handling.{not_next, no_memory, attached_handled, no_export_handled, crowded_handled, member_stands, member_away, session_stands, away_not}
use Rattle.qs_world.proofs.inner.Core.attach.Goals as goal

pub returns-in-Some : goal.returns-in-Some
returns-in-Some g c =
    let at = member_stands c.args.self.now.sessions.items c.in-Some.field-0 c.args.session
    (ap (λ (xs : List Member). position (λ m. m.session == c.args.session) xs) (sym c.deref.ensures.value) ∙ sym c.find_member.ensures ∙ c.in-Some.is) in
    not_next g.D.Disk.seen (value_of c.args.self.now) _ c.requires.sound
    (λ away. away_not at.0 (sym (session_stands c.args.self.now.sessions.items c.in-Some.field-0 at.0 c.requires.sound.sessions at.1.0)
    ∙ ap (session_at c.args.self.now.sessions.items) at.1.1 ∙ away))

pub returns-in-Err : goal.returns-in-Err
returns-in-Err g c =
    let none = ap (λ (xs : List Member). position (λ m. m.session == c.args.session) xs) (sym c.deref.ensures.value) ∙ sym c.find_member.ensures ∙ c.in-None.is in
    no_memory g.D.Disk.seen (value_of c.args.self.now) (record (value_of c.args.self.now) { sessions = c.reserve.new.self.items }) _ c.requires.sound tt
    (λ h. h (member_away c.args.self.now.sessions.items c.args.session none))
    (ap (λ (xs : List Member). record (value_of c.args.self.now) { sessions = xs }) c.reserve.ensures.items)

pub returns-in-Attached : goal.returns-in-Attached
returns-in-Attached g c =
    let none = ap (λ (xs : List Member). position (λ m. m.session == c.args.session) xs) (sym c.deref.ensures.value) ∙ sym c.find_member.ensures ∙ c.in-None.is in
    let graph : (value_of c.seat.new.self).graph ≡ c.step.new.self = ap (λ (w : WorldValue _). w.graph) c.seat.ensures.same in
    attached_handled g.D.Disk.seen (value_of c.args.self.now) (value_of c.seat.new.self) c.args.session c.args.name c.in-Attached.info c.requires.sound none
    (rw graph c.in-Attached.ensures.legal)
    (ap (λ (v : GraphValue). v.size) graph ∙ c.in-Attached.ensures.same)
    (c.seat.ensures.same
    ∙ ap (λ (v : GraphValue). record (value_of c.args.self.now) { sessions = c.seat.new.self.sessions.items; graph = v }) (sym graph)
    ∙ ap (λ (xs : List Member). record (value_of c.args.self.now) { sessions = xs; graph = (value_of c.seat.new.self).graph })
    (c.seat.ensures.sessions ∙ ap (λ (xs : List Member). xs ++ record { session = c.args.session; e = c.in-Attached.info.e; left = false } ∷ []) c.reserve.ensures.items))

pub returns-in-NoExport : goal.returns-in-NoExport
returns-in-NoExport g c =
    let none = ap (λ (xs : List Member). position (λ m. m.session == c.args.session) xs) (sym c.deref.ensures.value) ∙ sym c.find_member.ensures ∙ c.in-None.is in
    no_export_handled g.D.Disk.seen (value_of c.args.self.now) (record (value_of c.args.self.now) { sessions = c.reserve.new.self.items; graph = c.step.new.self })
    c.args.session c.args.name c.step.new.self c.requires.sound none c.in-NoExport.ensures.legal
    (ap (λ (xs : List Member). record (value_of c.args.self.now) { sessions = xs; graph = c.step.new.self }) c.reserve.ensures.items)

pub returns-in_default : goal.returns-in_default
returns-in_default g c =
    let none = ap (λ (xs : List Member). position (λ m. m.session == c.args.session) xs) (sym c.deref.ensures.value) ∙ sym c.find_member.ensures ∙ c.in-None.is in
    crowded_handled g.D.Disk.seen (value_of c.args.self.now) (record (value_of c.args.self.now) { sessions = c.reserve.new.self.items; graph = c.step.new.self })
    c.args.session c.args.name c.step.result c.step.new.self c.requires.sound none c.step.ensures.legal c.in_default.not-NoExport c.in_default.not-Attached
    (ap (λ (xs : List Member). record (value_of c.args.self.now) { sessions = xs; graph = c.step.new.self }) c.reserve.ensures.items)

use Rattle.std.proofs.Common.{◌≡◌, ◌==◌, ◌∙◌, List, map, length, true, false, sym, ap, subst}
use Rattle.std.specs.Prelude.{position}
use Rattle.std.specs.List.{slice_set}
use Rattle.std.specs.Vec.{with_items}
use Rattle.std.proofs.lemmas.List.{length-map, with_items_is}
use Rattle.qs_part.specs.declared.event.Event.TheVariants.{Leave}
use Rattle.qs_world.specs.declared.live.Live.{Live}
use Rattle.qs_world.specs.declared.live.Member.{Member}
use Rattle.qs_world.specs.Cores.{Handles, value_of}
use Rattle.qs_world.specs.Follows.{IsFree, abandoned_of}
use Rattle.qs_world.specs.Sound.{IsIdle}
use Rattle.qs_world.proofs.Handling.{not_next, left_handled, member_stands, nowhere_live, left_not_live}
use Rattle.qs_world.proofs.Keyed.{all_weaker}
use Rattle.qs_world.proofs.inner.Core.leave.Goals as goal

pub returns-in_default : goal.returns-in_default
returns-in_default g c =
    not_next g.D.Disk.seen (value_of c.args.self.now) _ c.requires.sound
    (nowhere_live (value_of c.args.self.now) c.args.session
    (ap (λ (xs : List Member). position (λ m. m.session == c.args.session) xs) (sym c.deref.ensures.value) ∙ sym c.find_member.ensures ∙ c.in_default.is))

pub returns-then-index : goal.returns-then-index
returns-then-index g c =
    let at = member_stands c.args.self.now.sessions.items c.in-Some.at c.args.session
    (ap (λ (xs : List Member). position (λ m. m.session == c.args.session) xs) (sym c.deref.ensures.value) ∙ sym c.find_member.ensures ∙ c.in-Some.is) in
    let same : c.index.result.now ≡ at.0 = c.index.ensures ∙ at.1.0.is c.index.result.now in
    let left : at.0.left ≡ true = sym (ap (λ (m : Member). m.left) same) ∙ c.if-index.true in
    subst (λ (s : _). Handles g.D.Disk.seen (value_of c.args.self.now) (Leave s) _ (value_of c.args.self.now)) at.1.1
    (not_next g.D.Disk.seen (value_of c.args.self.now) (Leave at.0.session) c.requires.sound
    (left_not_live (value_of c.args.self.now) c.in-Some.at at.0 c.requires.sound.sessions at.1.0 left))

pub abandon_all-requires : goal.abandon_all-requires
abandon_all-requires g c =
    rw c.deref_mut.ensures.value
    (all_weaker (IsIdle c.args.self.now.shape c.args.self.now.next) IsFree c.args.self.now.requests.items
    (λ l idle. record { waits = idle.waits; answered = idle.answered }) c.requires.sound.requests)

pub returns : goal.returns
returns g c =
    let at = member_stands c.args.self.now.sessions.items c.in-Some.at c.args.session
    (ap (λ (xs : List Member). position (λ m. m.session == c.args.session) xs) (sym c.deref.ensures.value) ∙ sym c.find_member.ensures ∙ c.in-Some.is) in
    let same : c.index.result.now ≡ at.0 = c.index.ensures ∙ at.1.0.is c.index.result.now in
    let there : c.index_mut.result.now ≡ at.0 = c.index_mut.ensures.value ∙ at.1.0.is c.index_mut.result.now in
    let here : at.0.left ≡ false = sym (ap (λ (m : Member). m.left) same) ∙ c.if-index.false in
    let items : (with_items c.args.self.now.requests c.abandon_all.new.requests).items ≡ c.abandon_all.new.requests =
    with_items_is c.args.self.now.requests c.abandon_all.new.requests
    (ap length c.abandon_all.ensures ∙ length-map c.deref_mut.result.now (abandoned_of c.args.session) ∙ c.deref_mut.ensures.len) in
    let requests : (with_items c.args.self.now.requests c.abandon_all.new.requests).items ≡ map (abandoned_of at.0.session) c.args.self.now.requests.items =
    items ∙ c.abandon_all.ensures ∙ ap (λ (xs : List Live). map (abandoned_of c.args.session) xs) c.deref_mut.ensures.value
    ∙ ap (λ (s : _). map (abandoned_of s) c.args.self.now.requests.items) (sym at.1.1) in
    subst (λ (s : _). Handles g.D.Disk.seen (value_of c.args.self.now) (Leave s) _
    (record (value_of c.args.self.now) {
      requests = (with_items c.args.self.now.requests c.abandon_all.new.requests).items;
      sessions = slice_set c.args.self.now.sessions.items c.in-Some.at (record c.index_mut.result.now { left = true });
    })) at.1.1
    (left_handled g.D.Disk.seen (value_of c.args.self.now)
    (record (value_of c.args.self.now) {
      requests = (with_items c.args.self.now.requests c.abandon_all.new.requests).items;
      sessions = slice_set c.args.self.now.sessions.items c.in-Some.at (record c.index_mut.result.now { left = true });
    })
    c.in-Some.at at.0 c.requires.sound at.1.0 here
    (ap (λ (xs : List Live). record (value_of c.args.self.now) {
      requests = xs;
      sessions = slice_set c.args.self.now.sessions.items c.in-Some.at (record c.index_mut.result.now { left = true });
    }) requests
    ∙ ap (λ (m : Member). record (value_of c.args.self.now) {
      requests = map (abandoned_of at.0.session) c.args.self.now.requests.items;
      sessions = slice_set c.args.self.now.sessions.items c.in-Some.at (record m { left = true });
    }) there))

use Rattle.std.proofs.Common.{◌≡◌, ◌==◌, ◌∙◌, List, sym, ap}
use Rattle.std.specs.Prelude.{Some, None, position}
use Rattle.qs_model.specs.Requests.{Req}
use Rattle.qs_world.specs.declared.live.Live.{Live}
use Rattle.qs_world.specs.Cores.{value_of}
use Rattle.qs_world.specs.Values.{request_at}
use Rattle.qs_world.proofs.Answering.{found}
use Rattle.qs_world.proofs.Handling.{not_next, request_stands, request_handled}
use Rattle.qs_world.proofs.Keyed.{none_found}
use Rattle.qs_world.proofs.inner.Core.step_request.Goals as goal

never : (q : Req) → Some q ≡ None → ⊥
never q e = cc

pub returns-in-Some : goal.returns-in-Some
returns-in-Some g c =
    let at = request_stands (value_of c.args.self.now) c.in-Some.at c.args.number
    (ap (λ (xs : List Live). position (λ l. l.number == c.args.number) xs) (sym c.deref.ensures.value) ∙ sym c.find_request.ensures ∙ c.in-Some.is) in
    let is = found (value_of c.args.self.now) c.in-Some.at at.0 c.requires.sound.numbers at.1.0 in
    request_handled g.D.Disk.seen (value_of c.args.self.now) (value_of c.step_at.new.self) c.args.number c.args.now at.0 c.step_at.result
    (λ none. never at.0.request.value.request (sym is ∙ ap (request_at c.args.self.now.requests.items) at.1.1 ∙ none)) at.1.1 (c.step_at.ensures at.0 at.1.0)

pub returns-in-None : goal.returns-in-None
returns-in-None g c =
    not_next g.D.Disk.seen (value_of c.args.self.now) _ c.requires.sound
    (none_found (λ l. l.number) (λ l. l.request.value.request) c.args.self.now.requests.items c.args.number
    (ap (λ (xs : List Live). position (λ l. l.number == c.args.number) xs) (sym c.deref.ensures.value) ∙ sym c.find_request.ensures ∙ c.in-None.is))

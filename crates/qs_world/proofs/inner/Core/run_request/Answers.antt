use Rattle.std.proofs.Common.{◌≡◌, ◌==◌, ◌∙◌, List, sym, ap}
use Rattle.std.specs.Prelude.{Some, None, position}
use Rattle.qs_model.specs.Requests.{Req}
use Rattle.qs_world.specs.declared.live.Live.{Live}
use Rattle.qs_world.specs.Cores.{value_of}
use Rattle.qs_world.specs.Values.{request_at}
use Rattle.qs_world.proofs.Answering.{found}
use Rattle.qs_world.proofs.Handling.{request_stands}
use Rattle.qs_world.proofs.Keyed.{none_found}
use Rattle.qs_world.proofs.RunChain.{none_runs, request_runs}
use Rattle.qs_world.proofs.inner.Core.run_request.Goals as goal

never : (q : Req) → Some q ≡ None → ⊥
never q e = cc

pub returns-clause-runs : goal.returns-clause-runs
returns-clause-runs g c =
    let at = request_stands (value_of c.args.self.now) c.in-Some.at c.args.number
    (ap (λ (xs : List Live). position (λ l. l.number == c.args.number) xs) (sym c.deref.ensures.value) ∙ sym c.find_request.ensures ∙ c.in-Some.is) in
    let is = found (value_of c.args.self.now) c.in-Some.at at.0 c.requires.sound.numbers at.1.0 in
    request_runs g.D.Disk.seen (value_of c.args.self.now) (value_of c.run_at.new.self) c.args.number c.args.now at.0 c.run_at.result
    (λ none. never at.0.request.value.request (sym is ∙ ap (request_at c.args.self.now.requests.items) at.1.1 ∙ none)) at.1.1 (c.run_at.ensures.runs at.0 at.1.0)

pub returns-in-None-clause-runs : goal.returns-in-None-clause-runs
returns-in-None-clause-runs g c =
    none_runs g.D.Disk.seen (value_of c.args.self.now) c.args.number c.args.now c.requires.sound
    (none_found (λ l. l.number) (λ l. l.request.value.request) c.args.self.now.requests.items c.args.number
    (ap (λ (xs : List Live). position (λ l. l.number == c.args.number) xs) (sym c.deref.ensures.value) ∙ sym c.find_request.ensures ∙ c.in-None.is))

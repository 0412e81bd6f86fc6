use Rattle.std.proofs.Common.{rules, ◌∙◌, ap, sym, Some}
use Rattle.std.specs.declared.snapshot.Snapshot.{Snapshot}
use Rattle.qs_turn.specs.Names.{Name}
use Rattle.qs_turn.specs.Words.{opening}
use Rattle.qs_turn.proofs.Calling.{takes_turn, took_as}
use Rattle.qs_turn.proofs.turn.Turn+P.turn_word.Goals as goal

pub compare_exchange-found-requires : goal.compare_exchange-found-requires
compare_exchange-found-requires g c =
    let key = ap (λ (t : Name (Snapshot g.row.P.Denot)). t.key.value) c.self.view_is in
    let opened = ap (λ m. m.0.opening) c.loop.invariant.1 ∙ c.requires.1 ∙ ap Some (sym key) in
    (search rules, search rules, takes_turn _ _ _ _ _ _ opened c.if-word-eq0.true)

pub returns-then-found-word-clause-took : goal.returns-then-found-word-clause-took
returns-then-found-word-clause-took g c =
    let opened = ap (λ m. m.0.opening) c.loop.invariant.1 ∙ c.requires.1 in
    took_as _ _ _ _ _ _ _ c.if-found-word.true c.loop.invariant.1 (c.compare_exchange-found.ensures.2.1 (opening c.args.self.now) opened c.if-found-word.true)

pub loop-preserved-then-word : goal.loop-preserved-then-word
loop-preserved-then-word g c = (search rules, c.compare_exchange-found.ensures.2.0 c.if-found-word.false ∙ c.loop.invariant.1)

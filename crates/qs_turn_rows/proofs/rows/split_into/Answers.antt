use Rattle.std.proofs.Common.{rules, ◌≡◌, ◌+◌, ◌<◌, List, length, sym, ◌∙◌, subst, arith}
use Rattle.std.specs.List.{slice_set}
use Rattle.qs_turn.specs.declared.view.View.{View}
use Rattle.qs_turn.specs.Names.{Known}
use Rattle.qs_turn_rows.proofs.Closes.{forked_first}
use Rattle.qs_turn_rows.proofs.Places.{Splitting, read, splitting_none, splitting_more, split_each}
use Rattle.qs_turn_rows.proofs.rows.split_into.Goals as goal

pub loop-i-init : goal.loop-i-init
loop-i-init g c =
    (subst (λ (gs : List (Known (View g.row.P.Denot g.row.P-Op.Denot g.row.P-Reply.Denot))). Splitting c.args.turns.now c.args.passes.now.items c.args.passes.now.items gs 0) (sym c.requires.room.0) (splitting_none _ _ c.requires.turns), search rules)

pub split-requires-clause-turn : goal.split-requires-clause-turn
split-requires-clause-turn g c =
    let s = c.loop-i.invariant.0 in
    let inside : c.loop-i.i < length c.loop-i.passes.items = (let l = s.turns.long in omega arith) in
    s.turns.each c.loop-i.i _ _ (read _ _ _ c.loop-i-test.true c.index-turns-i.is) (read _ _ _ inside c.index_mut.ensures.value)

pub split-requires-clause-first : goal.split-requires-clause-first
split-requires-clause-first g c =
    let s = c.loop-i.invariant.0 in
    let inside : c.loop-i.i < length c.loop-i.passes.items = (let l = s.turns.long in omega arith) in
    c.requires.first c.loop-i.i _ (sym (s.rest c.loop-i.i (omega arith)) ∙ read _ _ _ inside c.index_mut.ensures.value)

pub push_reserved-requires : goal.push_reserved-requires
push_reserved-requires g c = let s = c.loop-i.invariant.0 in let m = s.made in omega arith

pub loop-i-preserved : goal.loop-i-preserved
loop-i-preserved g c =
    let s = c.loop-i.invariant.0 in
    let inside : c.loop-i.i < length c.loop-i.passes.items = (let l = s.turns.long in omega arith) in
    let split = c.split.ensures in (
      subst (λ (gs : List (Known (View g.row.P.Denot g.row.P-Op.Denot g.row.P-Reply.Denot))). Splitting c.args.turns.now c.args.passes.now.items (slice_set c.loop-i.passes.items c.loop-i.i c.split.new.pass) gs (c.loop-i.i + 1)) (sym c.push_reserved.ensures.items)
          (splitting_more _ _ _ _ _ c.index-turns-i.result c.index_mut.result.now c.split.new.pass c.split.result s c.loop-i-test.true (read _ _ _ c.loop-i-test.true c.index-turns-i.is) (read _ _ _ inside c.index_mut.ensures.value) split.turn.0 split.turn.1 (record {
            first = split.first.0;
            seen_stays = split.first.1;
            own_stays = split.first.2;
            out_rises = split.first.3;
            other = split.given.0;
            seen_given = split.given.1;
            own_none = split.given.2;
          })),
      search rules,
    )

pub returns-clause-turns : goal.returns-clause-turns
returns-clause-turns g c =
    let s = c.loop-i.invariant.0 in
    let all : c.loop-i.i ≡ length c.args.turns.now = omega arith in
    (s.turns, (split_each _ _ _ _ _ s all).0)

pub returns-clause-forked : goal.returns-clause-forked
returns-clause-forked g c =
    let s = c.loop-i.invariant.0 in
    let all : c.loop-i.i ≡ length c.args.turns.now = omega arith in
    (split_each _ _ _ _ _ s all).1

pub returns-clause-first : goal.returns-clause-first
returns-clause-first g c =
    let s = c.loop-i.invariant.0 in
    let all : c.loop-i.i ≡ length c.args.turns.now = omega arith in
    forked_first _ _ _ (split_each _ _ _ _ _ s all).1

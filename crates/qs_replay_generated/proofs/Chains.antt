-- Lines of a run, one more behind the others.
use Rattle.std.proofs.Common.{◌≡◌, ◌+◌, List, [], ◌∷◌, ◌++◌, length, refl, sym, ap, ◌∙◌, subst, arith, append_assoc, append-nil}
use Rattle.std.specs.Prelude.{Option, Some, None, IfSome, Result, Ok, Err}
use Rattle.std.specs.Result.{IsErrAnd}
use Rattle.qs_outside.specs.Blocks.{Seen}
use Rattle.qs_calls.specs.Calls.{Call}
use Rattle.qs_generate.specs.Generated.{ComesIf, Made, Makes, made_next}
use Rattle.qs_generate.specs.Lives.{Generated}
use Rattle.qs_generate.specs.Rounds.{LineComes}
use Rattle.qs_generate.specs.declared.live.LiveRequest.{LiveRequest}
use Rattle.qs_script.specs.declared.line.Line.{Line}
use Rattle.qs_script.specs.declared.line.LineFault.{LineFault}
use Rattle.qs_replay_lines.specs.Effects.{IsPlanned}
use Rattle.qs_replay_lines.specs.Numbers.{errors_in, steps_in}
use Rattle.qs_replay_lines.specs.declared.stop.Stop.{Stop}
use Rattle.qs_replay_generated.specs.Making.{BreaksAt, Counted, IsMade, LinesMade, MakesLine, Place, RunMade, SoFar, calls_of}
use Rattle.qs_replay_generated.specs.declared.counts.Counts.{Counts}
use Rattle.qs_replay_generated.proofs.Counting.{errors_more, one_line_more, steps_more}

calls_more : (lines : List (List Call)) (calls : List Call) → calls_of (lines ++ calls ∷ []) ≡ calls_of lines ++ calls
calls_more [] calls = append-nil calls
calls_more (l ∷ lines) calls = ap (λ (cs : List Call). l ++ cs) (calls_more lines calls) ∙ sym (append_assoc l (calls_of lines) calls)

length_more : (lines : List (List Call)) (calls : List Call) → length (lines ++ calls ∷ []) ≡ length lines + 1
length_more [] calls = omega arith
length_more (l ∷ lines) calls =
    let rest = length_more lines calls in
    omega (arith, rest)

lines_more : {D : Type 0} (seen : D → Seen) (a b c : Place D) (lines : List (List Call)) (calls : List Call) → LinesMade seen a lines b → MakesLine seen b calls c →
    LinesMade seen a (lines ++ calls ∷ []) c
lines_more {D} seen a b c [] calls same one = (c, (subst (λ (p : Place D). MakesLine seen p calls c) same one, refl))
lines_more seen a b c (l ∷ lines) calls done one = (done.0, (done.1.0, lines_more seen done.0 b c lines calls done.1.1 one))

pub so_far_none : {D : Type 0} (seen : D → Seen) (a : Place D) → SoFar seen a a (record { errors = 0; steps = 0; lines = 0 })
so_far_none seen a = record {
  lines = [];
  made = refl;
  errors = refl;
  steps = refl;
  count = refl;
}

pub so_far_more : {D : Type 0} (seen : D → Seen) (a b c : Place D) (old new : Counts) (calls : List Call) → SoFar seen a b old → MakesLine seen b calls c →
    Counted old calls new → SoFar seen a c new
so_far_more seen a b c old new calls so one counted =
    let whole = calls_more so.lines calls in
    record {
      lines = so.lines ++ calls ∷ [];
      made = lines_more seen a b c so.lines calls so.made one;
      errors = one_line_more _ (errors_in (calls_of so.lines)) (errors_in calls) old.errors new.errors so.errors counted.errors
          (ap errors_in whole ∙ errors_more (calls_of so.lines) calls);
      steps = one_line_more _ (steps_in (calls_of so.lines)) (steps_in calls) old.steps new.steps so.steps counted.steps
          (ap steps_in whole ∙ steps_more (calls_of so.lines) calls);
      count = one_line_more _ (length so.lines) 1 old.lines new.lines so.count counted.lines (length_more so.lines calls);
    }

-- the line that comes is the next one
pub record Next (m : Made) (result : Result Line LineFault) : Type 0 where
  pub line : Line
  pub is : m.0 ≡ Some line
  pub comes : LineComes line result

next_of : (o : Option Line) (result : Result Line LineFault) → ComesIf o (Some result) → (l : Line) × ((o ≡ Some l) × LineComes l result)
next_of None result comes = absurd (cc)
next_of (Some l) result comes = (l, (refl, comes))

pub next : (m : Made) (result : Result Line LineFault) → ComesIf m.0 (Some result) → Next m result
next m result comes =
    let n = next_of m.0 result comes in
    record { line = n.0; is = n.1.0; comes = n.1.1 }

pub is_made : (m : Made) (result : Result Line LineFault) → IfSome m.0 IsPlanned → Next m result → IsMade result
is_made m result plain n = (n.line, (subst (λ (o : Option Line). IfSome o IsPlanned) n.is plain, n.comes))

-- no line comes
pub ended : (o : Option Line) → ComesIf o None → o ≡ None
ended None comes = refl
ended (Some l) comes = absurd comes

-- what comes, by the same live requests
pub by_live : (g new : Generated) (live same : List LiveRequest) (r : Option (Result Line LineFault)) → live ≡ same → Makes (made_next g live) r new → Makes (made_next g same) r new
by_live g new live same r is makes = subst (λ (l : List LiveRequest). Makes (made_next g l) r new) is makes

-- a run that ended sooner
pub breaks : {D : Type 0} (seen : D → Seen) (a mid b : Place D) (before counts : Counts) (s : Stop) (r : Result Unit Stop) → IsErrAnd r (λ e. e ≡ s) →
    counts ≡ before → SoFar seen a mid before → BreaksAt seen mid s b.world → RunMade seen a r b counts
breaks seen a mid b before counts s (Ok u) is same so at = absurd is
breaks seen a mid b before counts s (Err e) is same so at =
    (mid, (subst (λ (c : Counts). SoFar seen a mid c) (sym same) so, subst (λ (x : Stop). BreaksAt seen mid x b.world) (sym is) at))

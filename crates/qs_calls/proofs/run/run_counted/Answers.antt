-- The first call, and one more that goes on.
use Rattle.std.proofs.Common.{◌≡◌, [], ◌∷◌, ◌++◌, true, refl, rules}
use Rattle.std.proofs.lemmas.List.Elements.{All-nil}
use Rattle.qs_part.specs.declared.event.Event.TheVariants.{Step as AStep}
use Rattle.qs_calls.specs.Calls.{Happened}
use Rattle.qs_calls.specs.Goings.{GoesOn, goes_on}
use Rattle.qs_calls.proofs.Plays.{plays_more}
use Rattle.qs_calls.proofs.Goings.{counted_more, goes_more}
use Rattle.qs_calls.proofs.run.run_counted.Goals as goal

pub steps-init : goal.steps-init
steps-init g c = ([], (All-nil (GoesOn (AStep c.args.actor c.args.now)), c.in_ok-last.ensures.some, refl, λ goes. (c.in_ok-last.ensures.on goes).1))

pub steps-preserved : goal.steps-preserved
steps-preserved g c =
    let made = AStep c.args.actor c.args.now in
    let on : goes_on c.steps.last ≡ true = search rules in
    let before = c.steps.invariant.0 ++ Happened made c.steps.last ∷ [] in (
      before,
      (
        goes_more made c.steps.last c.steps.invariant.0 c.steps.invariant.1.0 on,
        plays_more g.D.Disk.seen c.args.world.now before c.steps.world (Happened made c.in-Some.next ∷ []) c.step_on-in-steps.new.world
            c.steps.invariant.1.1 c.in-Some.ensures.some,
        counted_more before (Happened made c.in-Some.next) c.steps.count _ (search rules) c.steps.invariant.1.2,
        λ goes. (c.in-Some.ensures.on goes).1,
      ),
    )

use Rattle.std.proofs.Common.{ℕ, List, replicate, refl, ap, ◌∙◌}
use Rattle.qs_outside.specs.Held.{Held}
use Rattle.qs_outside.proofs.HeldBlocks.{rank-room, block-zeros}
use Rattle.qs_outside.proofs.block_store.BlockStore.new.Goals as goal

pub invariant_of-result : goal.invariant_of-result
invariant_of-result c = λ b here inside.
    rank-room b c.args.align c.args.length _ c.requires inside (c.in-Ok.ensures.len ∙ c.room_for.ensures)

pub returns-in-Ok-clause-zeros : goal.returns-in-Ok-clause-zeros
returns-in-Ok-clause-zeros c = record {
  stripe_is = refl;
  align_is = refl;
  size_is = refl;
  faults = refl;
  tells = refl;
  now = λ b inside. block-zeros _ b _ (c.in-Ok.ensures.items_if_clones_equal (λ y same. same)) inside.here
      (rank-room b c.args.align c.args.length c.room_for.result c.requires inside.inside c.room_for.ensures);
  past = λ b. refl;
}

pub returns-in-Ok-clause-exact : goal.returns-in-Ok-clause-exact
returns-in-Ok-clause-exact c =
    let zero : ℕ = 0 in
    let held : List ℕ → Held = λ xs. record { stripe = c.args.stripe; align = c.args.align; size = c.args.length; bytes = xs } in
    ap held (c.in-Ok.ensures.items_if_clones_equal (λ y same. same) ∙ ap (λ n. replicate n zero) c.room_for.ensures)

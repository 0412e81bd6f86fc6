use Rattle.std.proofs.Common.{◌≤◌, ℕ, List, ◌==◌, count_by, length, take, sym, ap, ◌∙◌, arith}
use Rattle.std.proofs.lemmas.List.{length-take-le}
use Rattle.qs_outside.proofs.Replays.{count-is, times-are}
use Rattle.qs_outside.proofs.store_log.StoreLog.earlier.Goals as goal

pub slice_bounds-times-end : goal.slice_bounds-times-end
slice_bounds-times-end c =
    let count = count-is _ _ _ _ _ c.self.view_is in
    let below : c.args.j ≤ length c.deref.result.now = rw c.deref.ensures.value (omega (arith, c.requires.inside, count)) in
    sym (length-take-le c.args.j c.deref.result.now below)

pub returns : goal.returns
returns c =
    c.times.ensures ∙ ap (λ (xs : List ℕ). count_by (λ d. d == c.args.b) (take c.args.j xs)) c.deref.ensures.value
    ∙ times-are _ _ _ _ _ c.args.j c.args.b c.self.view_is

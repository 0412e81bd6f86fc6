use Rattle.std.proofs.Common.{◌≡◌, ◌+◌, ◌-◌, refl, sym, ap, ◌∙◌, arith}
use Rattle.qs_outside.specs.Held.{Held}
use Rattle.qs_outside.proofs.HeldBlocks.{block-here}
use Rattle.qs_outside.proofs.block_store.BlockStore.load.Goals as goal

pub returns : goal.returns
returns c =
    let align = ap (λ (h : Held). h.align) c.self.view_is in
    let bytes = c.deref.ensures.value ∙ ap (λ (h : Held). h.bytes) c.self.view_is in
    let count : c.place-at.result + c.self.inside.align - c.place-at.result ≡ c.args.self.now.align = omega (arith, align) in
    c.copy_from_slice.ensures.after ∙ (rw (count, bytes, c.place-at.ensures.place) (sym (block-here c.args.self.now c.args.b _ _ c.requires.here refl refl)))

use Rattle.std.proofs.Common.{◌+◌, ◌-◌, ◌++◌, length, take, drop, refl, sym, ap, ◌∙◌, arith}
use borrow.Rule.Slice.PartMut.{put_mid}
use Rattle.qs_outside.specs.Held.{Held}
use Rattle.qs_outside.proofs.HeldBlocks.{block-stored, refilled}
use Rattle.qs_outside.proofs.block_store.BlockStore.store.Goals as goal

pub returns-clause-stored : goal.returns-clause-stored
returns-clause-stored c =
    let align = ap (λ (h : Held). h.align) c.self.view_is in
    let bytes = c.deref_mut.ensures.value ∙ ap (λ (h : Held). h.bytes) c.self.view_is in
    let room = c.place-at.ensures.inside in
    let k = c.place-at.result + c.self.inside.align - c.place-at.result in
    let over = put_mid c.place-at.result k c.deref_mut.result.now c.copy_from_slice.new.self in
    let written = refilled c.self.inside.bytes.len c.place-at.result k c.deref_mut.result.now c.copy_from_slice.new.self c.self.inside.bytes.items
    (omega (arith, align, ap length bytes)) (omega (arith, align, ap length c.copy_from_slice.ensures.after)) (sym c.deref_mut.ensures.len) in
    let new : Held = record {
      stripe = c.self.inside.stripe;
      align = c.self.inside.align;
      size = c.self.inside.length;
      bytes = take c.self.inside.bytes.len (over ++ drop (length over) c.self.inside.bytes.items);
    } in
    block-stored c.args.self.now new c.args.b k c.args.bytes.now (ap (λ (h : Held). h.stripe) c.self.view_is) align
    (written ∙ rw (bytes, c.copy_from_slice.ensures.after, c.place-at.ensures.place) refl) c.requires.here
    (rw c.place-at.ensures.place at room) c.requires.whole (omega (arith, align))

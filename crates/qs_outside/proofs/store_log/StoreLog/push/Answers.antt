use Rattle.std.proofs.Common.{◌≡◌, ◌+◌, ◌*◌, ◌≤◌, List, ◌++◌, [], ◌∷◌, length, ap, ◌∙◌, arith}
use Rattle.std.proofs.Math.Nat.{mul-le-mul_right}
use Rattle.qs_outside.specs.Journal.{KeptStore, KeptStores}
use Rattle.qs_outside.proofs.Journals.{length-kept, kept-push}
use Rattle.qs_outside.proofs.store_log.StoreLog.push.Goals as goal
use Rattle.qs_outside.proofs.store_log.StoreLog.push.Goals.{In-Err, In-Err-extend_from_slice}

pub unreachable-requires : goal.unreachable-requires
unreachable-requires c =
    let count = length-kept c.self.inside.align c.self.inside.blocks.items c.self.inside.bytes.items in
    let stores = ap (λ (s : KeptStores). length s.stores) c.self.view_is in
    let room = ap (λ (s : KeptStores). s.room) c.self.view_is in
    let items : c.self.inside.blocks.len ≡ length c.self.inside.blocks.items = c.self.inside.blocks.ok.0 in
    omega (arith, count, stores, room, c.in-Err.ensures.full)

pub unreachable-requires-in-Err-extend_from_slice : goal.unreachable-requires-in-Err-extend_from_slice
unreachable-requires-in-Err-extend_from_slice c =
    let count = length-kept c.self.inside.align c.self.inside.blocks.items c.self.inside.bytes.items in
    let stores = ap (λ (s : KeptStores). length s.stores) c.self.view_is in
    let room = ap (λ (s : KeptStores). s.room) c.self.view_is in
    let align = ap (λ (s : KeptStores). s.align) c.self.view_is in
    let items : c.self.inside.blocks.len ≡ length c.self.inside.blocks.items = c.self.inside.blocks.ok.0 in
    let below : c.self.inside.blocks.len + 1 ≤ c.self.inside.room = omega (arith, count, stores, room) in
    omega (arith, align, mul-le-mul_right c.self.inside.align below, c.in-Err-extend_from_slice.ensures.full)

pub invariant_of-self : goal.invariant_of-self
invariant_of-self c =
    let count = length-kept c.self.inside.align c.self.inside.blocks.items c.self.inside.bytes.items in
    let stores = ap (λ (s : KeptStores). length s.stores) c.self.view_is in
    let room = ap (λ (s : KeptStores). s.room) c.self.view_is in
    let align = ap (λ (s : KeptStores). s.align) c.self.view_is in
    let items : c.self.inside.blocks.len ≡ length c.self.inside.blocks.items = c.self.inside.blocks.ok.0 in
    record {
      within = omega (arith, count, stores, room, c.in-Ok.ensures.len);
      blocks_fit = omega (arith, c.in-Ok.ensures.capacity);
      bytes_fit = omega (arith, c.in-Ok-extend_from_slice.ensures.capacity);
      whole = rw c.in-Ok.ensures.len (omega (arith, align, c.in-Ok-extend_from_slice.ensures.len));
    }

pub returns : goal.returns
returns c =
    let align = ap (λ (s : KeptStores). s.align) c.self.view_is in
    let blocks : c.self.inside.blocks.len ≡ length c.self.inside.blocks.items = c.self.inside.blocks.ok.0 in
    let bytes : c.self.inside.bytes.len ≡ length c.self.inside.bytes.items = c.self.inside.bytes.ok.0 in
    let whole : length c.self.inside.bytes.items ≡ length c.self.inside.blocks.items * c.self.inside.align = rw (← blocks, ← bytes) c.self.invariant.whole in
    let log : List KeptStore → KeptStores = λ xs. record { align = c.self.inside.align; room = c.self.inside.room; stores = xs } in
    let more : KeptStores → KeptStores = λ s. record s { stores = s.stores ++ (record { block = c.args.b; bytes = c.args.bytes.now }) ∷ [] } in
    rw (c.in-Ok.ensures.items, c.in-Ok-extend_from_slice.ensures.items)
    (ap log (kept-push c.self.inside.align c.self.inside.blocks.items c.self.inside.bytes.items c.args.b c.args.bytes.now whole (omega (arith, align))) ∙ ap more c.self.view_is)

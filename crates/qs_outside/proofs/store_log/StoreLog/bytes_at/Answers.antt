use Rattle.std.proofs.Common.{◌≡◌, ◌+◌, ◌-◌, ◌*◌, ◌≤◌, length, sym, ap, arith}
use Rattle.qs_outside.specs.Journal.{KeptStore}
use Rattle.qs_outside.proofs.Replays.{store-inside, store-is}
use Rattle.qs_outside.proofs.store_log.StoreLog.bytes_at.Goals as goal

pub overflow_mul-at : goal.overflow_mul-at
overflow_mul-at c =
    let inside = store-inside _ _ _ _ _ c.args.j c.self.inside.blocks.len c.self.inside.bytes.len c.self.view_is c.requires.inside c.self.inside.blocks.ok.0 c.self.invariant.whole in
    omega (arith, inside, c.as_slice-bytes.ensures.len, c.as_slice-bytes.type_inv.0)

pub overflow_add-result : goal.overflow_add-result
overflow_add-result c =
    let inside = store-inside _ _ _ _ _ c.args.j c.self.inside.blocks.len c.self.inside.bytes.len c.self.view_is c.requires.inside c.self.inside.blocks.ok.0 c.self.invariant.whole in
    omega (arith, inside, c.as_slice-bytes.ensures.len, c.as_slice-bytes.type_inv.0)

pub slice_bounds-result-end : goal.slice_bounds-result-end
slice_bounds-result-end c =
    let inside = store-inside _ _ _ _ _ c.args.j c.self.inside.blocks.len c.self.inside.bytes.len c.self.view_is c.requires.inside c.self.inside.blocks.ok.0 c.self.invariant.whole in
    let end : c.args.j * c.self.inside.align + c.self.inside.align ≤ length c.as_slice-bytes.result.now = omega (arith, inside, c.as_slice-bytes.ensures.len) in
    end

pub returns : goal.returns
returns c =
    let whole : c.args.j * c.self.inside.align + c.self.inside.align - c.args.j * c.self.inside.align ≡ c.self.inside.align = omega arith in
    rw (whole, c.as_slice-bytes.ensures.value) (sym (ap (λ (s : KeptStore). s.bytes) (store-is _ _ _ _ _ c.args.j c.self.view_is c.requires.inside)))

use Rattle.std.proofs.Common.{◌≡◌, length, sym, ap, ◌∙◌, arith}
use Rattle.std.proofs.lemmas.List.{get_or_default}
use Rattle.qs_outside.specs.Journal.{KeptStore}
use Rattle.qs_outside.proofs.Replays.{count-is, store-is}
use Rattle.qs_outside.proofs.store_log.StoreLog.block_at.Goals as goal

pub returns : goal.returns
returns c =
    let count = count-is _ _ _ _ _ c.self.view_is in
    c.index.ensures ∙ get_or_default c.self.inside.blocks.items c.args.j c.index.result.now 0 (omega (arith, c.requires.inside, count))
    ∙ sym (ap (λ (s : KeptStore). s.block) (store-is _ _ _ _ _ c.args.j c.self.view_is c.requires.inside))

pub index-requires : goal.index-requires
index-requires c =
    let count = count-is _ _ _ _ _ c.self.view_is in
    let items : c.self.inside.blocks.len ≡ length c.self.inside.blocks.items = c.self.inside.blocks.ok.0 in
    omega (arith, c.requires.inside, count, items)

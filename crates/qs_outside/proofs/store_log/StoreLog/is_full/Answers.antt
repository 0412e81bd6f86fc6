use Rattle.std.proofs.Common.{◌≡◌, length, ap, arith}
use Rattle.std.proofs.lemmas.Bool.Decides.{nat_tests}
use Rattle.qs_outside.specs.Journal.{KeptStores}
use Rattle.qs_outside.proofs.Journals.{length-kept}
use Rattle.qs_outside.proofs.store_log.StoreLog.is_full.Goals as goal

pub returns : goal.returns
returns c =
    let count = length-kept c.self.inside.align c.self.inside.blocks.items c.self.inside.bytes.items in
    let stores = ap (λ (s : KeptStores). length s.stores) c.self.view_is in
    let room = ap (λ (s : KeptStores). s.room) c.self.view_is in
    let items : c.self.inside.blocks.len ≡ length c.self.inside.blocks.items = c.self.inside.blocks.ok.0 in
    grind (arith, nat_tests, count, stores, room, items)

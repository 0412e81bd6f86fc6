use Rattle.std.proofs.Common.{ap, refl, subst, sym}
use Rattle.qs_outside.specs.Blocks.{Fixed}
use Rattle.qs_outside.specs.Crashes.{Crashes}
use Rattle.qs_outside.specs.Held.{Held, quiet_seen}
use Rattle.qs_outside.specs.Journal.{Journal, KeptStores, journal_seen}
use Rattle.qs_outside.specs.Rigged.{no_plans}
use Rattle.qs_outside.proofs.Replays.{disk-crashed, fixed-beside}
use Rattle.qs_outside.proofs.mem_disk.MemDiskRiggedDisk.crash.Goals as goal

pub returns-clause-crashes : goal.returns-clause-crashes
returns-clause-crashes c =
    let new : Journal = record {
      now = c.copy_from.new.self;
      synced = c.replay.new.into;
      stores = c.clear.new.self.stores;
      room = c.clear.new.self.room;
      faults = c.self.inside.faults;
      planned = no_plans;
    } in
    subst (λ (j : Journal). Crashes c.args.choice.now (journal_seen j) (journal_seen new)) c.self.view_is
    (disk-crashed c.args.choice.now _ new c.replay.ensures.left c.copy_from.ensures
    (subst (λ (h : Held). Fixed (quiet_seen c.self.inside.now) (quiet_seen h)) (sym c.copy_from.ensures) (fixed-beside c.self.invariant.fixed c.replay.ensures.fixed))
    (ap (λ (s : KeptStores). s.stores) c.clear.ensures) refl refl)

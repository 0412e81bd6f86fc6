use Rattle.std.proofs.Common.{◌≡◌, ℕ, ◌<◌, length, map, sym, ap, ◌∙◌, arith}
use Rattle.std.proofs.lemmas.List.{length-map}
use Rattle.qs_outside.specs.Blocks.{Seen}
use Rattle.qs_image.specs.Image.{align_of}
use Rattle.qs_shared.proofs.FirstPass.{first_disk, opens_shared}
use Rattle.qs_shared.proofs.shared.Shared+D.open.Goals as goal

pub returns : goal.returns
returns g c =
    let many : length c.args.disks.items ≡ 8 = sym (length-map c.args.disks.items g.D.Disk.seen) ∙ c.requires.0.0 in
    let some : 0 < length c.args.disks.items = omega (arith, many) in
    let align = c.align.ensures ∙ sym (ap (λ (d : Seen). d.align) (first_disk g.D.Disk.seen c.args.disks.items c.index.result.now some c.index.ensures)) in
    let size = c.length.ensures ∙ sym (ap (λ (d : Seen). d.size) (first_disk g.D.Disk.seen c.args.disks.items c.index-2.result.now some c.index-2.ensures)) in
    opens_shared g.D.Disk.seen c.args.disks.items c.args.file c.args.read_only _ _ (record {
      image = c.requires;
      shape = ap (λ (n : ℕ). record { align = n; size = c.length.result }) align ∙ ap (λ (n : ℕ). record { align = align_of (map g.D.Disk.seen c.args.disks.items); size = n }) size;
      tracker = c.in_ok-tracker.ensures.turn.0 ∙ c.in_ok-new.ensures;
      track = record {
        pass = c.in_ok-tracker.ensures.turn.1;
        first = c.in_ok-tracker.ensures.first.0;
        none_seen = c.in_ok-tracker.ensures.first.1;
        none_own = c.in_ok-tracker.ensures.first.2;
        none_out = c.in_ok-tracker.ensures.first.3;
      };
      graph = c.in_ok-graph.ensures.turn.0 ∙ c.in_ok-new-2.ensures;
      way = record {
        pass = c.in_ok-graph.ensures.turn.1;
        first = c.in_ok-graph.ensures.first.0;
        none_seen = c.in_ok-graph.ensures.first.1;
        none_own = c.in_ok-graph.ensures.first.2;
        none_out = c.in_ok-graph.ensures.first.3;
      };
      groups = c.in_ok-groups.ensures;
      stripes = c.in_ok-stripes.ensures.opened;
      stripe_room = (c.in_ok-stripe_room.ensures.items, (let n = c.len.ensures in let r = c.in_ok-stripe_room.ensures.capacity in omega arith));
      disk_room = (c.in_ok-stripes.ensures.emptied, c.open_stripes.ensures.room);
    })

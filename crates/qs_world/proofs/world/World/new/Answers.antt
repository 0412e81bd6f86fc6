use Rattle.std.proofs.Common.{◌≡◌, ◌∙◌, ◌<◌, ℕ, Bool, [], List, length, map, sym, ap, subst, refl, arith}
use Rattle.std.specs.Prelude.{Option, None}
use Rattle.std.specs.List.{AllByRecursion}
use Rattle.qs_stripe.specs.Table.{Opened, value_of as stripe_value}
use Rattle.qs_tracker.specs.Table.{fresh as fresh_tracker}
use Rattle.std.proofs.lemmas.List.{length-map}
use Rattle.qs_status.specs.declared.status.OpenBad.{OpenBad}
use Rattle.qs_outside.specs.Blocks.{Seen}
use Rattle.qs_image.specs.Image.{align_of, size_of}
use Rattle.qs_image.specs.Opening.{IsImage, Opens}
use Rattle.qs_graph.specs.Table.{fresh}
use Rattle.qs_world.specs.Values.{WorldValue}
use Rattle.qs_world.proofs.Opening.{fresh_sound, fresh_opened, first_disk, IsFresh}
use Rattle.qs_world.proofs.world.World.new.Goals as goal

-- the value that is made
made : {D : Type 0} (seen : D → Seen) (disks : List D) (file : List ℕ) (read_only : Bool) (w : WorldValue D) (align size : ℕ) → IsImage (map seen disks) →
    align ≡ align_of (map seen disks) → size ≡ size_of (map seen disks) → w.shape ≡ record { align = align; size = size } → w.next ≡ 0 → w.requests ≡ [] → w.sessions ≡ [] →
    w.graph ≡ fresh size file read_only → w.tracker ≡ fresh_tracker 0 → map (λ s. s.disk) w.stripes ≡ disks → AllByRecursion (λ s. Opened (stripe_value seen s)) w.stripes →
    IsFresh seen disks file read_only w
made seen disks file read_only w align size image is_align is_size shape next requests sessions graph tracker stripes free = record {
  image = image;
  shape = shape ∙ ap (λ (n : ℕ). record { align = n; size = size }) is_align ∙ ap (λ (n : ℕ). record { align = align_of (map seen disks); size = n }) is_size;
  next = next;
  requests = requests;
  sessions = sessions;
  graph = graph ∙ ap (λ (n : ℕ). fresh n file read_only) is_size;
  tracker = tracker;
  stripes = stripes;
  free = free;
}

pub invariant_of-result : goal.invariant_of-result
invariant_of-result g c =
    let image : IsImage (map g.D.Disk.seen c.args.disks.items) =
    subst (λ (xs : List _). Opens (map g.D.Disk.seen xs) None) c.deref.ensures.value (subst (λ (o : Option OpenBad). Opens (map g.D.Disk.seen c.deref.result.now) o) c.in-None.is c.open_fault.ensures) in
    let many : length c.args.disks.items ≡ 8 = sym (length-map c.args.disks.items g.D.Disk.seen) ∙ image.0.0 in
    let some : 0 < length c.args.disks.items = omega (arith, many) in
    let align : c.align.result ≡ align_of (map g.D.Disk.seen c.args.disks.items) =
    c.align.ensures ∙ sym (ap (λ (d : Seen). d.align) (first_disk g.D.Disk.seen c.args.disks.items c.index.result.now some c.index.ensures)) in
    let size : c.length.result ≡ size_of (map g.D.Disk.seen c.args.disks.items) =
    c.length.ensures ∙ sym (ap (λ (d : Seen). d.size) (first_disk g.D.Disk.seen c.args.disks.items c.index-2.result.now some c.index-2.ensures)) in
    let fresh = made g.D.Disk.seen c.args.disks.items c.args.file c.args.read_only
    (record {
      shape = record { align = c.align.result; size = c.length.result };
      next = 0;
      requests = c.new-in-Some-put_away.result.items;
      sessions = c.new-in-Some-put_away-2.result.items;
      graph = c.in-Ok.graph;
      tracker = c.in-Ok-new.tracker;
      stripes = c.in-Some-put_away.stripes.items;
    })
    c.align.result c.length.result image align size refl refl c.new-in-Some-put_away.ensures.items c.new-in-Some-put_away-2.ensures.items
    c.in-Ok.ensures c.in-Ok-new.ensures c.in-Some-put_away.ensures.gone.1 c.in-Some-put_away.ensures.gone.2 in
    (fresh_sound g.D.Disk.seen c.args.disks.items c.args.file c.args.read_only _ fresh, c.in-Some-put_away.ensures.gone.0, omega (arith, c.in-Some-put_away.ensures.room, many), c.in-Some-zeros_of.ensures)

pub returns-in-Some-put_away : goal.returns-in-Some-put_away
returns-in-Some-put_away g c =
    let image : IsImage (map g.D.Disk.seen c.args.disks.items) =
    subst (λ (xs : List _). Opens (map g.D.Disk.seen xs) None) c.deref.ensures.value (subst (λ (o : Option OpenBad). Opens (map g.D.Disk.seen c.deref.result.now) o) c.in-None.is c.open_fault.ensures) in
    let many : length c.args.disks.items ≡ 8 = sym (length-map c.args.disks.items g.D.Disk.seen) ∙ image.0.0 in
    let some : 0 < length c.args.disks.items = omega (arith, many) in
    let align : c.align.result ≡ align_of (map g.D.Disk.seen c.args.disks.items) =
    c.align.ensures ∙ sym (ap (λ (d : Seen). d.align) (first_disk g.D.Disk.seen c.args.disks.items c.index.result.now some c.index.ensures)) in
    let size : c.length.result ≡ size_of (map g.D.Disk.seen c.args.disks.items) =
    c.length.ensures ∙ sym (ap (λ (d : Seen). d.size) (first_disk g.D.Disk.seen c.args.disks.items c.index-2.result.now some c.index-2.ensures)) in
    let fresh = made g.D.Disk.seen c.args.disks.items c.args.file c.args.read_only
    (record {
      shape = record { align = c.align.result; size = c.length.result };
      next = 0;
      requests = c.new-in-Some-put_away.result.items;
      sessions = c.new-in-Some-put_away-2.result.items;
      graph = c.in-Ok.graph;
      tracker = c.in-Ok-new.tracker;
      stripes = c.in-Some-put_away.stripes.items;
    })
    c.align.result c.length.result image align size refl refl c.new-in-Some-put_away.ensures.items c.new-in-Some-put_away-2.ensures.items
    c.in-Ok.ensures c.in-Ok-new.ensures c.in-Some-put_away.ensures.gone.1 c.in-Some-put_away.ensures.gone.2 in
    fresh_opened g.D.Disk.seen c.args.disks.items c.args.file c.args.read_only _ fresh

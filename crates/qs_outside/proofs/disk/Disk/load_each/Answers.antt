use Rattle.std.proofs.Common.{◌≡◌, ◌+◌, ◌-◌, ◌*◌, ◌≤◌, length, sym, ap, ◌∙◌, arith}
use Rattle.qs_outside.specs.Runs.{Reads, IsContent, Refuses}
use Rattle.qs_outside.proofs.BlockRuns.{fixed-on, loads-end, loads-more, piece-length, put-length, run-place}
use Rattle.qs_outside.proofs.disk.Disk.load_each.Goals as goal

-- src/disk.rt:112:32
pub returns-in-Err-clause-loads : goal.returns-in-Err-clause-loads
returns-in-Err-clause-loads g c =
    let l = c.in-Err.ensures in
    let align = c.align-align.result in
    let i = c.loop-i.i in
    let old = g.Self.Disk.seen c.args.self.now in
    let mid = g.Self.Disk.seen c.loop-i.self in
    let new = g.Self.Disk.seen c.load.new.self in
    let same : align ≡ mid.align = c.align-align.ensures ∙ sym c.loop-i.invariant.0.align in
    let inside : i * align + align ≤ c.args.n * align = run-place align c.args.n i c.loop-i-test.true in
    let room : i * align + align ≤ length c.loop-i.into = omega (arith, inside, c.loop-i.invariant.1) in
    let k : i * align + align - i * align ≡ align = omega arith in
    let whole : length c.load.new.into ≡ align =
    piece-length (i * align) _ align c.loop-i.into c.load.new.into (rw c.from.ensures at c.load.auto.into) k room in
    let reads : Reads mid new = record { fixed = l.fixed; now = l.now; past = l.past; planned = l.planned; full = l.full; later = l.cause.later } in
    let refuses : Refuses mid new c.load.new.into = record { whole = whole ∙ same; rose = l.cause.failed } in
    rw (c.from.ensures, sym c.align-align.ensures)
    (loads-end align c.args.b i c.args.n c.loop-i.into c.load.new.into _ c.loop-i-test.true room whole k old mid new c.loop-i.invariant.2 reads refuses)

-- src/disk.rt:108:9
pub loop-i-preserved : goal.loop-i-preserved
loop-i-preserved g c =
    let l = c.in-Ok.ensures in
    let align = c.align-align.result in
    let i = c.loop-i.i in
    let old = g.Self.Disk.seen c.args.self.now in
    let mid = g.Self.Disk.seen c.loop-i.self in
    let new = g.Self.Disk.seen c.load.new.self in
    let same : align ≡ mid.align = c.align-align.ensures ∙ sym c.loop-i.invariant.0.align in
    let inside : i * align + align ≤ c.args.n * align = run-place align c.args.n i c.loop-i-test.true in
    let room : i * align + align ≤ length c.loop-i.into = omega (arith, inside, c.loop-i.invariant.1) in
    let k : i * align + align - i * align ≡ align = omega arith in
    let whole : length c.load.new.into ≡ align =
    piece-length (i * align) _ align c.loop-i.into c.load.new.into (rw c.from.ensures at c.load.auto.into) k room in
    let reads : Reads mid new = record { fixed = l.fixed; now = l.now; past = l.past; planned = l.planned; full = l.full; later = l.cause.later } in
    let content : IsContent mid new (c.args.b + i) c.load.new.into = record {
      whole = whole ∙ same;
      now = λ told. l.bytes told ∙ ap (λ j. mid.now (c.args.b + j)) c.from-in-loop-i.ensures;
      works = l.works;
      kept = l.cause.kept;
    } in (
      fixed-on old mid new c.loop-i.invariant.0 l.fixed,
      rw c.from.ensures (put-length (i * align) _ c.loop-i.into c.load.new.into (omega (arith, room, k)) (whole ∙ sym k) ∙ c.loop-i.invariant.1),
      rw c.from.ensures (loads-more align c.args.b i c.loop-i.into c.load.new.into _ room whole k old mid new c.loop-i.invariant.2 reads content),
    )

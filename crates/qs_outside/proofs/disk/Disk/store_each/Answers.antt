use Rattle.std.proofs.Common.{◌≡◌, ℕ, ◌+◌, ◌-◌, ◌*◌, List, refl, sym, ap, arith}
use Rattle.qs_bytes.specs.Pieces.{part}
use Rattle.qs_outside.specs.Runs.{Writes, IsStored, MayBeStored}
use Rattle.qs_outside.proofs.BlockRuns.{fixed-on, stores-end, stores-more}
use Rattle.qs_outside.proofs.disk.Disk.store_each.Goals as goal

-- src/disk.rt:132:32
pub returns-in-Err-clause-stores : goal.returns-in-Err-clause-stores
returns-in-Err-clause-stores g c =
    let l = c.in-Err.ensures in
    let align = c.align-align.result in
    let i = c.loop-i.i in
    let old = g.Self.Disk.seen c.args.self.now in
    let mid = g.Self.Disk.seen c.loop-i.self in
    let new = g.Self.Disk.seen c.store.new.self in
    let block : c.args.b + c.from-in-loop-i.result ≡ c.args.b + i = ap (λ j. c.args.b + j) c.from-in-loop-i.ensures in
    let piece : List ℕ = part c.args.bytes.now (c.from.result * align) (c.from.result * align + align - c.from.result * align) in
    let k : i * align + align - i * align ≡ align = omega arith in
    let same : piece ≡ part c.args.bytes.now (i * align) align = rw (c.from.ensures, k) refl in
    let writes : Writes (c.args.b + c.from-in-loop-i.result) piece mid new =
    record { fixed = l.fixed; past = l.past; past_now = l.past_now; planned = l.planned; later = l.cause.later } in
    let stored : MayBeStored (c.args.b + c.from-in-loop-i.result) piece mid new =
    record { now = l.refused; as_planned = l.as_planned; rose = l.cause.failed } in
    rw (sym c.align-align.ensures)
    (stores-end align c.args.b i c.args.n _ c.args.bytes.now piece block same c.loop-i-test.true old mid new c.loop-i.invariant.1 writes stored)

-- src/disk.rt:128:9
pub loop-i-preserved : goal.loop-i-preserved
loop-i-preserved g c =
    let l = c.in-Ok.ensures in
    let align = c.align-align.result in
    let i = c.loop-i.i in
    let old = g.Self.Disk.seen c.args.self.now in
    let mid = g.Self.Disk.seen c.loop-i.self in
    let new = g.Self.Disk.seen c.store.new.self in
    let block : c.args.b + c.from-in-loop-i.result ≡ c.args.b + i = ap (λ j. c.args.b + j) c.from-in-loop-i.ensures in
    let piece : List ℕ = part c.args.bytes.now (c.from.result * align) (c.from.result * align + align - c.from.result * align) in
    let k : i * align + align - i * align ≡ align = omega arith in
    let same : piece ≡ part c.args.bytes.now (i * align) align = rw (c.from.ensures, k) refl in
    let writes : Writes (c.args.b + c.from-in-loop-i.result) piece mid new =
    record { fixed = l.fixed; past = l.past; past_now = l.past_now; planned = l.planned; later = l.cause.later } in
    let stored : IsStored (c.args.b + c.from-in-loop-i.result) piece mid new =
    record { now = l.stored; works = l.works; kept = l.cause.kept } in (
      fixed-on old mid new c.loop-i.invariant.0 l.fixed,
      stores-more align c.args.b i _ c.args.bytes.now piece block same old mid new c.loop-i.invariant.1 writes stored,
    )

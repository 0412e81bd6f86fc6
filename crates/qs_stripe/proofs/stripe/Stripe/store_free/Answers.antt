use Rattle.std.proofs.Common.{◌≡◌, ℕ, suc, ◌+◌, ◌*◌, ◌<◌, false, refl, sym, ap, subst, ◌∙◌, arith}
use Rattle.qs_outside.specs.Runs.{EndsAt, InOrder}
use Rattle.qs_stripe.specs.Holds.{IsFreeFor, holds_of}
use Rattle.qs_stripe.specs.Runs.{NotStored, StoredAt}
use Rattle.qs_stripe.specs.Table.{StripeValue, value_of}
use Rattle.qs_stripe.proofs.RunChains.{Going, stores-fault, stores-run}
use Rattle.qs_stripe.proofs.stripe.Stripe.store_free.Goals as goal

pub returns-in-Err-clause-row : goal.returns-in-Err-clause-row
returns-in-Err-clause-row g c =
    let d = g.D.Disk.seen c.write_run.new.disk in
    let h = holds_of c.let_go_run-in-Err.new.self in
    let m = c.in-Err.field-0.done in
    let old : StripeValue = value_of g.D.Disk.seen (record { disk = c.self.inside.disk; places = c.self.inside.holds; clean = c.self.inside.clean }) in
    let new : StripeValue = record { disk = d; hold = h; clean = false } in
    let p = c.place_of-run.ensures in
    let size : c.place_of-run.result.size ≡ c.args.n * old.disk.align = p.size ∙ ap (λ s. c.args.n * (g.D.Disk.seen s.disk).align) (sym c.self.view_is) in
    let stores = rw (p.b, p.n, p.at, size) at c.in-Err.ensures.stores in
    let free : (i : ℕ) → i < c.args.n → IsFreeFor old.hold c.args.k (c.args.b + i) =
    subst (λ s. (i : ℕ) → i < c.args.n → IsFreeFor (holds_of s.places) c.args.k (c.args.b + i)) (sym c.self.view_is) c.requires.free in
    let more : m + 1 ≡ suc m = omega arith in
    let goes = subst (λ n. Going c.args.k c.args.b n old.hold h) more c.let_go_run-in-Err.ensures in (
      refl,
      stores.before,
      subst (λ s. EndsAt (StoredAt (g.D.Disk.seen s.disk).align c.args.b c.args.k c.args.at c.args.buf)
          (NotStored (g.D.Disk.seen s.disk).align c.args.b c.args.k c.args.at c.args.buf) m (value_of g.D.Disk.seen s) new) c.self.view_is
          (stores-fault old.disk.align c.args.b c.args.k c.args.at c.args.n m c.args.buf old d h free stores goes),
    )

pub returns-clause-row : goal.returns-clause-row
returns-clause-row g c =
    let d = g.D.Disk.seen c.write_run.new.disk in
    let h = holds_of c.let_go_run.new.self in
    let old : StripeValue = value_of g.D.Disk.seen (record { disk = c.self.inside.disk; places = c.self.inside.holds; clean = c.self.inside.clean }) in
    let new : StripeValue = record { disk = d; hold = h; clean = false } in
    let p = c.place_of-run.ensures in
    let size : c.place_of-run.result.size ≡ c.args.n * old.disk.align = p.size ∙ ap (λ s. c.args.n * (g.D.Disk.seen s.disk).align) (sym c.self.view_is) in
    let stores = rw (p.b, p.n, p.at, size) at c.in-Ok.ensures.stores in
    let free : (i : ℕ) → i < c.args.n → IsFreeFor old.hold c.args.k (c.args.b + i) =
    subst (λ s. (i : ℕ) → i < c.args.n → IsFreeFor (holds_of s.places) c.args.k (c.args.b + i)) (sym c.self.view_is) c.requires.free in (
      refl,
      subst (λ s. InOrder (StoredAt (g.D.Disk.seen s.disk).align c.args.b c.args.k c.args.at c.args.buf) c.args.n (value_of g.D.Disk.seen s) new) c.self.view_is
          (stores-run old.disk.align c.args.b c.args.k c.args.at c.args.n c.args.buf old d h c.requires.run.some free stores c.let_go_run.ensures),
    )

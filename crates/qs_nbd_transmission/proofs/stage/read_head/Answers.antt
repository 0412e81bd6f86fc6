use Rattle.std.proofs.Common.{◌≡◌, ℕ, ◌+◌, ◌-◌, ◌<◌, List, [], ◌++◌, length, take, refl, subst, ap, sym, ◌∙◌, arith}
use Rattle.std.proofs.lemmas.List.{length-take, length-append, length-take-le, take-take, take_all}
use Rattle.qs_bytes.specs.Numbers.{number32}
use Rattle.qs_bytes.specs.Pieces.{overlay}
use Rattle.qs_nbd_transmission.specs.Phases.{Reaches, InHead}
use Rattle.qs_nbd_transmission.specs.Stages.{phase_of}
use Rattle.qs_bytes.proofs.Overlays.{length-overlay}
use Rattle.qs_nbd_wire.proofs.Overlays.{take-overlay}
use Rattle.qs_nbd_transmission.proofs.HeadLaws.{below_four, first_four, front_more}
use Rattle.qs_nbd_transmission.proofs.stage.read_head.Goals as goal
use Rattle.qs_nbd_transmission.proofs.stage.read_head.Goals.{then-now-ge4+else-found-ne-REQUEST_MAGIC, else-now-ge4}

pub overflow_sub-held-then-found-ne-REQUEST_MAGIC : goal.overflow_sub-held-then-found-ne-REQUEST_MAGIC
overflow_sub-held-then-found-ne-REQUEST_MAGIC c =
    let few : c.args.held < 4 = below_four _ _ _ c.requires.whole c.requires.sound.0 c.requires.sound.1
    (rw (c.u32_at-found.ensures, c.write_over.ensures) at c.if-found-ne-REQUEST_MAGIC.true) in
    omega arith

pub returns-then-found-ne-REQUEST_MAGIC-clause-step : goal.returns-then-found-ne-REQUEST_MAGIC-clause-step
returns-then-found-ne-REQUEST_MAGIC-clause-step c =
    let piece = take c.min-taken.result c.args.piece.now in
    let few : c.args.held < 4 = below_four _ _ _ c.requires.whole c.requires.sound.0 c.requires.sound.1
    (rw (c.u32_at-found.ensures, c.write_over.ensures) at c.if-found-ne-REQUEST_MAGIC.true) in
    let fed : length piece ≡ c.min-taken.result = length-take-le c.min-taken.result c.args.piece.now (omega (arith, c.min-taken.ensures)) in
    let same : take (4 - c.args.held) piece ≡ take (4 - c.args.held) c.args.piece.now =
    take-take (4 - c.args.held) c.min-taken.result c.args.piece.now (omega arith) in
    let four : number32 (take c.args.held c.args.head.now ++ take (4 - c.args.held) piece) 0 ≡ number32 (overlay c.args.head.now c.args.held piece) 0 =
    first_four c.args.head.now piece c.args.held c.requires.whole few (omega arith) in
    let told : c.from.result ≡ number32 (overlay c.args.head.now c.args.held piece) 0 =
    c.from.ensures ∙ c.u32_at-found.ensures ∙ ap (λ xs. number32 xs 0) c.write_over.ensures in
    rw c.refused.ensures (record {
      four = omega (
        arith,
        length-append (take c.args.held c.args.head.now) (take (4 - c.args.held) c.args.piece.now),
        length-take c.args.held c.args.head.now,
        length-take (4 - c.args.held) c.args.piece.now,
        c.requires.whole,
      );
      told = told ∙ sym four ∙ ap (λ xs. number32 (take c.args.held c.args.head.now ++ xs) 0) same;
      bad = rw (← c.from.ensures) at c.if-found-ne-REQUEST_MAGIC.true;
      stuck = refl;
    })

pub returns-then-found-ne-REQUEST_MAGIC-clause-progress : goal.returns-then-found-ne-REQUEST_MAGIC-clause-progress
returns-then-found-ne-REQUEST_MAGIC-clause-progress c =
    let few : c.args.held < 4 = below_four _ _ _ c.requires.whole c.requires.sound.0 c.requires.sound.1
    (rw (c.u32_at-found.ensures, c.write_over.ensures) at c.if-found-ne-REQUEST_MAGIC.true) in
    rw c.refused.ensures (λ some. omega arith)

pub returns-then-now-lt-REQUEST_HEAD_BYTES-clause-step : goal.returns-then-now-lt-REQUEST_HEAD_BYTES-clause-step
returns-then-now-lt-REQUEST_HEAD_BYTES-clause-step c = (
  rw c.write_over.ensures (take-overlay c.args.head.now c.args.held (take c.min-taken.result c.args.piece.now) _ (omega (arith, c.requires.whole, c.requires.sound.0))
      (omega (arith, length-take-le c.min-taken.result c.args.piece.now (omega (arith, c.min-taken.ensures))))),
  front_more c.write_over.new.bytes _ c.if-now-lt-REQUEST_HEAD_BYTES.true (λ four.
      elim c.if-now-ge4.branch [
        | then-now-ge4+else-found-ne-REQUEST_MAGIC w ↦ sym w.u32_at-found.ensures ∙ w.if-found-ne-REQUEST_MAGIC.false
        | else-now-ge4 w ↦ absurd (omega (arith, w.if-now-ge4.false))
      ]),
)

pub returns-then-now-lt-REQUEST_HEAD_BYTES-clause-sound : goal.returns-then-now-lt-REQUEST_HEAD_BYTES-clause-sound
returns-then-now-lt-REQUEST_HEAD_BYTES-clause-sound c = (
  c.if-now-lt-REQUEST_HEAD_BYTES.true,
  front_more c.write_over.new.bytes _ c.if-now-lt-REQUEST_HEAD_BYTES.true (λ four.
      elim c.if-now-ge4.branch [
        | then-now-ge4+else-found-ne-REQUEST_MAGIC w ↦ sym w.u32_at-found.ensures ∙ w.if-found-ne-REQUEST_MAGIC.false
        | else-now-ge4 w ↦ absurd (omega (arith, w.if-now-ge4.false))
      ]),
)

pub returns-clause-step : goal.returns-clause-step
returns-clause-step c =
    let piece = take c.min-taken.result c.args.piece.now in
    let fed : length piece ≡ c.min-taken.result = length-take-le c.min-taken.result c.args.piece.now (omega (arith, c.min-taken.ensures)) in
    let full : 28 ≡ c.args.held + length piece = omega (arith, c.min-taken.ensures, c.requires.sound.0, c.if-now-lt-REQUEST_HEAD_BYTES.false) in
    let whole : take c.args.held c.args.head.now ++ piece ≡ c.write_over.new.bytes =
    sym (take-overlay c.args.head.now c.args.held piece 28 (omega (arith, c.requires.whole, c.requires.sound.0)) full)
    ∙ take_all 28 (overlay c.args.head.now c.args.held piece) (omega (arith, length-overlay c.args.head.now c.args.held piece (omega (arith, c.requires.whole)), c.requires.whole))
    ∙ sym c.write_over.ensures in
    rw c.end_head.ensures.taken
    (subst (λ (xs : List ℕ). Reaches c.args.structured (InHead []) xs c.end_head.result.event (phase_of c.write_over.new.bytes c.end_head.result.stage)) (sym whole) c.end_head.ensures.step)

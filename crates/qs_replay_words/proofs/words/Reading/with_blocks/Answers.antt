-- A number is spelled in one way.
use Rattle.std.proofs.Common.{◌≡◌, ◌∙◌, lit<, arith, subst, List, ℕ}
use Rattle.qs_script.specs.Spelled.{SpellsNumber}
use Rattle.qs_replay_words.proofs.FromLeft.{one_number}
use Rattle.qs_replay_words.proofs.words.Reading.with_blocks.Goals as goal

pub returns-then-blocks-eq0-clause-none : goal.returns-then-blocks-eq0-clause-none
returns-then-blocks-eq0-clause-none c = λ e r reads.
    let spelled : SpellsNumber 65536 c.args.word.now c.in_ok-blocks.blocks =
    subst (λ (word : List ℕ). SpellsNumber 65536 word c.in_ok-blocks.blocks) c.as_bytes.ensures.value c.in_ok-blocks.ensures.some in
    let same : reads.blocks ≡ c.in_ok-blocks.blocks = one_number 65536 c.args.word.now reads.blocks c.in_ok-blocks.blocks (lit< tt) reads.spells spelled in
    absurd (omega (arith, same, reads.some, c.if-blocks-eq0.true))

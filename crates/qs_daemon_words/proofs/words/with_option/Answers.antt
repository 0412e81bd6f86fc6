-- An option that may not stand there is a fault.
use Rattle.qs_daemon_words.proofs.Lefts.{handed_on, tells_bad_option}
use Rattle.qs_daemon_words.proofs.words.with_option.Goals as goal

pub returns-in_err-option : goal.returns-in_err-option
returns-in_err-option c =
    handed_on c.from_residual.result _ _ c.from_residual.ensures.1
    (tells_bad_option c.args.words.now c.args.at c.args.told c.index-words-at.result c.as_str.result.now _ c.requires c.index-words-at.is
    c.as_str.ensures.value c.in_err-option.ensures)

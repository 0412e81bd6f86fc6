-- The first words of a script's lines.
use Rattle.std.specs.Prelude.{ℕ, List, codes}
use Rattle.qs_script.specs.declared.read.Verb.{Verb}
use Rattle.qs_script.specs.declared.read.Verb.TheVariants.{Session, End, Read, Write, Zero, Trim, Flush, Step, Run, Fail}

abbrev pub verb_word : Verb → List ℕ
verb_word Session = codes "session"
verb_word End = codes "end"
verb_word Read = codes "read"
verb_word Write = codes "write"
verb_word Zero = codes "zero"
verb_word Trim = codes "trim"
verb_word Flush = codes "flush"
verb_word Step = codes "step"
verb_word Run = codes "run"
verb_word Fail = codes "fail"

-- Two words drive an actor at reading 0.
use Rattle.std.proofs.Common.{[], ◌∷◌, refl, ap, ◌∙◌}
use Rattle.qs_script.specs.Verbs.{verb_word}
use Rattle.qs_script.specs.declared.read.Verb.{Verb}
use Rattle.qs_script.specs.declared.read.Verb.TheVariants as verb
use Rattle.qs_script.proofs.Reading.{no_verb, drives_bare}
use Rattle.qs_script.proofs.read.two_words.Goals as goal

pub returns-in_err-verb_of-clause-none : goal.returns-in_err-verb_of-clause-none
returns-in_err-verb_of-clause-none c = λ e line is. no_verb c.args.verb.now (c.args.word.now ∷ []) c.requires (c.in_err-verb_of.ensures.none refl) line is

pub returns-in_ok-actor_of-in-Step-clause-some : goal.returns-in_ok-actor_of-in-Step-clause-some
returns-in_ok-actor_of-in-Step-clause-some c =
    drives_bare verb.Step c.args.verb.now c.args.word.now _
    (c.in_ok-verb_of.ensures.some ∙ ap (λ (v : Verb). verb_word v) c.in-Step.is) c.in_ok-actor_of-in-Step.ensures.some

pub returns-in_ok-actor_of-in-Run-clause-some : goal.returns-in_ok-actor_of-in-Run-clause-some
returns-in_ok-actor_of-in-Run-clause-some c =
    drives_bare verb.Run c.args.verb.now c.args.word.now _
    (c.in_ok-verb_of.ensures.some ∙ ap (λ (v : Verb). verb_word v) c.in-Run.is) c.in_ok-actor_of-in-Run.ensures.some

-- Five words or six ask for something.
use Rattle.std.proofs.Common.{ℕ, List, ◌∷◌, refl, sym, ap, ◌∙◌, subst}
use Rattle.std.specs.Prelude.{IfErr}
use Rattle.qs_script.specs.Lines.{IsLineFault, WordsSpell, fua_words}
use Rattle.qs_script.specs.Verbs.{verb_word}
use Rattle.qs_script.specs.declared.read.Verb.{Verb}
use Rattle.qs_script.proofs.Reading.{no_verb}
use Rattle.qs_script.proofs.read.request.Goals as goal

pub returns-in-None-clause-fault : goal.returns-in-None-clause-fault
returns-in-None-clause-fault c = λ line is.
    no_verb c.args.verb.now (c.args.session.now ∷ c.args.cookie.now ∷ c.args.offset.now ∷ c.args.last.now ∷ fua_words c.args.fua)
    c.requires (c.in-None.ensures.none refl) line is

pub returns-in-Some-Write-clause-fault : goal.returns-in-Some-Write-clause-fault
returns-in-Some-Write-clause-fault c =
    let others = c.args.session.now ∷ c.args.cookie.now ∷ c.args.offset.now ∷ c.args.last.now ∷ fua_words c.args.fua in
    let why : List ℕ → Type 0 = λ first. IfErr c.write_request.result (IsLineFault (WordsSpell (first ∷ others))) in
    subst why (sym (c.in-Some-Write.ensures.some ∙ ap (λ (v : Verb). verb_word v) c.in-Some-Write.field-0-is)) c.write_request.ensures.fault

-- A line has two, three, five or six words.
use Rattle.std.proofs.Common.{◌≡◌, ℕ, List, ◌∷◌, Option, refl, ap, ◌∙◌}
use Rattle.std.specs.Borrow.{Bor}
use Rattle.std.specs.Prelude.{codes}
use Rattle.qs_script.specs.Lines.{words_left, words_of}
use Rattle.qs_script.proofs.Reading.{ended, fault_of, none_fault, ok_of, out_of}
use Rattle.qs_script.proofs.read.read_line.Goals as goal

-- the words of a text: its first, and those of what is left
next : (text : List ℕ) {first : List ℕ} {left left' : Option (Bor (List ℕ))} {others : List (List ℕ)} → words_of text ≡ first ∷ words_left left →
    left ≡ left' → words_left left' ≡ others → words_of text ≡ first ∷ others
next text {first} e is rest = e ∙ ap (λ (ws : List (List ℕ)). first ∷ ws) (ap (λ (l : Option (Bor (List ℕ))). words_left l) is ∙ rest)

last : (text : List ℕ) {first : List ℕ} {left left' : Option (Bor (List ℕ))} → words_of text ≡ first ∷ words_left left → left ≡ left' →
    words_of text ≡ first ∷ words_left left'
last text {first} e is = e ∙ ap (λ (l : Option (Bor (List ℕ))). first ∷ words_left l) is

pub returns-then-is_crash-clause-fault : goal.returns-then-is_crash-clause-fault
returns-then-is_crash-clause-fault c =
    let words = next c.args.text.now c.cut_word.ensures c.in-Some.is refl in
    let crash = c.if-is_crash.ensures.0 refl in
    fault_of c.args.text.now (codes "crash" ∷ words_of c.in-Some.rest.now) c.crash_line.result
    (words ∙ ap (λ (word : List ℕ). word ∷ words_of c.in-Some.rest.now) crash) (λ quiet. let told = c.if-is_quiet.ensures.1 quiet in cc)
    c.crash_line.ensures.fault

pub returns-in_default-rest-clause-fault : goal.returns-in_default-rest-clause-fault
returns-in_default-rest-clause-fault c =
    let words = next c.args.text.now c.cut_word.ensures c.in-Some.is (last c.in-Some.rest.now c.cut_word-2.ensures c.in_default-rest.is) in
    fault_of c.args.text.now _ _ words (λ quiet. let told = c.if-is_quiet.ensures.1 quiet in cc)
    (rw c.ok_or.ensures.value (none_fault _ c.two_words.result c.two_words.ensures.none))

pub returns-in_default-rest-2-clause-fault : goal.returns-in_default-rest-2-clause-fault
returns-in_default-rest-2-clause-fault c =
    let words = next c.args.text.now c.cut_word.ensures c.in-Some.is
    (next c.in-Some.rest.now c.cut_word-2.ensures c.in-Some-rest.is (last c.in-Some-rest.rest.now c.cut_word-3.ensures c.in_default-rest-2.is)) in
    fault_of c.args.text.now _ _ words (λ quiet. let told = c.if-is_quiet.ensures.1 quiet in cc)
    (rw c.ok_or-in_default-rest-2.ensures.value (none_fault _ c.three_words.result c.three_words.ensures.none))

pub returns-in-Some-fua_of-clause-ok : goal.returns-in-Some-fua_of-clause-ok
returns-in-Some-fua_of-clause-ok c =
    let words = next c.args.text.now c.cut_word.ensures c.in-Some.is
    (next c.in-Some.rest.now c.cut_word-2.ensures c.in-Some-rest.is
    (next c.in-Some-rest.rest.now c.cut_word-3.ensures c.in-Some-rest-2.is
    (next c.in-Some-rest-2.rest.now c.cut_word-4.ensures c.in-Some-rest-3.is
    (next c.in-Some-rest-3.rest.now {left = c.cut_word-5.result.1} c.cut_word-5.ensures refl c.in-Some-fua_of.ensures.some)))) in
    ok_of c.args.text.now _ c.request.result words c.request.ensures.ok

pub returns-in-Some-fua_of-clause-fault : goal.returns-in-Some-fua_of-clause-fault
returns-in-Some-fua_of-clause-fault c =
    let words = next c.args.text.now c.cut_word.ensures c.in-Some.is
    (next c.in-Some.rest.now c.cut_word-2.ensures c.in-Some-rest.is
    (next c.in-Some-rest.rest.now c.cut_word-3.ensures c.in-Some-rest-2.is
    (next c.in-Some-rest-2.rest.now c.cut_word-4.ensures c.in-Some-rest-3.is
    (next c.in-Some-rest-3.rest.now {left = c.cut_word-5.result.1} c.cut_word-5.ensures refl c.in-Some-fua_of.ensures.some)))) in
    fault_of c.args.text.now _ c.request.result words (λ quiet. let told = c.if-is_quiet.ensures.1 quiet in cc) c.request.ensures.fault

pub returns-in-None-clause-fault : goal.returns-in-None-clause-fault
returns-in-None-clause-fault c = λ read is.
    let one = c.cut_word.result in
    let two = c.cut_word-2.result in
    let three = c.cut_word-3.result in
    let four = c.cut_word-4.result in
    let five = c.cut_word-5.result in
    let words = next c.args.text.now c.cut_word.ensures c.in-Some.is
    (next c.in-Some.rest.now c.cut_word-2.ensures c.in-Some-rest.is
    (next c.in-Some-rest.rest.now c.cut_word-3.ensures c.in-Some-rest-2.is
    (next c.in-Some-rest-2.rest.now c.cut_word-4.ensures c.in-Some-rest-3.is c.cut_word-5.ensures))) in
    out_of c.args.text.now _ read words (λ quiet. let told = c.if-is_quiet.ensures.1 quiet in cc)
    (λ spelled. let how = ended one.0.now two.0.now three.0.now four.0.now five.0.now (words_left five.1) (λ crash. let told = c.if-is_crash.ensures.1 crash in cc) read spelled in
    c.in-None.ensures.none refl how.0 how.1) is

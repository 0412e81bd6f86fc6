use Rattle.std.proofs.Common.{◌≡◌, ℕ, ◌+◌, ◌-◌, ◌<◌, ◌≤◌, Bool, List, ◌++◌, length, take, drop, ap, sym, ◌∙◌, subst, append_assoc, arith, ◌⊎◌, inl, inr}
use Rattle.std.proofs.Math.Seq.{take-add}
use Rattle.std.proofs.lemmas.Bool.{cases_lt}
use Rattle.std.proofs.lemmas.List.{length-take-le, length-drop, take_all}
use Rattle.qs_nbd_handshake.specs.declared.stage.Terms.{Terms}
use Rattle.qs_nbd_handshake.specs.Phases.{Phase, InOption, Reader, option_event, option_phase, option_size}
use Rattle.qs_nbd_handshake.specs.Stages.{IsSound, phase_of}
use Rattle.qs_nbd_handshake.proofs.Sizes.{size-append, size-short}
use Rattle.qs_nbd_handshake.proofs.stage.read_option.Goals as goal

-- what two pieces put behind what was held
both : (old middle new piece : List ℕ) (held first second : ℕ) →
    take (held + first) middle ≡ take held old ++ take first piece →
    take (held + first + second) new ≡ take (held + first) middle ++ take second (drop first piece) →
    take (held + first + second) new ≡ take held old ++ take (first + second) piece
both old middle new piece held first second e f =
    f ∙ ap (λ xs. xs ++ take second (drop first piece)) e
    ∙ append_assoc (take held old) (take first piece) (take second (drop first piece))
    ∙ ap (λ xs. take held old ++ xs) (sym (take-add first second piece))

-- where the option isn't whole, the piece is used up
used : (fixed : Bool) (old middle new piece : List ℕ) (held first second : ℕ) →
    held ≤ length old → held + first ≤ length middle → first ≤ length piece → second ≤ length (drop first piece) →
    take (held + first + second) new ≡ take (held + first) middle ++ take second (drop first piece) →
    (first ≡ length piece) ⊎ (held + first ≡ option_size fixed (take held old)) →
    (second ≡ length (drop first piece)) ⊎ (held + first + second ≡ option_size fixed (take (held + first) middle)) →
    held + first + second < option_size fixed (take (held + first + second) new) →
    first + second ≡ length piece
used fixed old middle new piece held first second a b c d e far further less =
    let behind = length-drop first piece in
    elim further [
      | inl all ↦ omega arith
      | inr whole ↦ elim (cases_lt (held + first) 16) [
        | inl short ↦ elim far [
          | inl all ↦ omega arith
          | inr full ↦ absurd (omega (arith, size-short fixed (take held old) (omega (arith, length-take-le held old a))))
        ]
        | inr long ↦ absurd (omega (
          arith,
          size-append fixed (take (held + first) middle) (take second (drop first piece)) (omega (arith, length-take-le (held + first) middle b)),
          ap (λ xs. option_size fixed xs) e,
        ))
      ]
    ]

-- what is behind the first bytes of a piece
behind_first : (piece : List ℕ) (first : ℕ) → take (length piece - first) (drop first piece) ≡ drop first piece
behind_first piece first = take_all _ _ (omega (arith, length-drop first piece))

pub returns-then-now-option_end-clause-all : goal.returns-then-now-option_end-clause-all
returns-then-now-option_end-clause-all c =
    let tail = behind_first c.args.piece.now c.fill-first.result in
    let less = c.if-now-option_end.true in
    let size = c.option_end.ensures.size in
    let most = c.option_end.ensures.room in
    used c.args.terms.fixed c.args.buffer.now c.fill-first.new.buffer c.fill-second.new.buffer c.args.piece.now
    c.args.held c.fill-first.result c.fill-second.result (omega (arith, c.requires.room)) (omega (arith, c.fill-first.ensures.room))
    c.fill-first.ensures.within (rw tail at c.fill-second.ensures.within)
    (rw tail at c.fill-second.ensures.bytes) c.fill-first.ensures.far (rw tail at c.fill-second.ensures.far) (omega arith)

pub returns-then-now-option_end-clause-step : goal.returns-then-now-option_end-clause-step
returns-then-now-option_end-clause-step c =
    let now = c.args.held + c.fill-first.result + c.fill-second.result in
    let fixed = c.args.terms.fixed in
    let all = take c.args.held c.args.buffer.now ++ take (c.fill-first.result + c.fill-second.result) c.args.piece.now in
    let more : take now c.fill-second.new.buffer ≡ all =
    both c.args.buffer.now c.fill-first.new.buffer c.fill-second.new.buffer c.args.piece.now c.args.held c.fill-first.result c.fill-second.result c.fill-first.ensures.bytes (rw (behind_first c.args.piece.now c.fill-first.result) at c.fill-second.ensures.bytes) in
    let size : option_size fixed all ≡ c.option_end.result = ap (λ xs. option_size fixed xs) (sym more) ∙ sym c.option_end.ensures.size in
    let len : length all ≡ now =
    ap (λ xs. length xs) (sym more) ∙ length-take-le now c.fill-second.new.buffer (omega (arith, c.fill-second.ensures.room, c.option_end.ensures.room, c.if-now-option_end.true)) in
    let held : List ℕ → Reader = λ xs. record { terms = c.args.terms; phase = InOption xs } in
    (omega (arith, size, len, c.if-now-option_end.true), ap held more)

pub returns-clause-step : goal.returns-clause-step
returns-clause-step c =
    let now = c.args.held + c.fill-first.result + c.fill-second.result in
    let fixed = c.args.terms.fixed in
    let all = take c.args.held c.args.buffer.now ++ take (c.fill-first.result + c.fill-second.result) c.args.piece.now in
    let more : take now c.fill-second.new.buffer ≡ all =
    both c.args.buffer.now c.fill-first.new.buffer c.fill-second.new.buffer c.args.piece.now c.args.held c.fill-first.result c.fill-second.result c.fill-first.ensures.bytes (rw (behind_first c.args.piece.now c.fill-first.result) at c.fill-second.ensures.bytes) in
    let size : option_size fixed all ≡ c.option_end.result = ap (λ xs. option_size fixed xs) (sym more) ∙ sym c.option_end.ensures.size in
    let front : now ≤ c.option_end.result = rw c.option_end.ensures.size c.fill-second.ensures.front in
    let len : length all ≡ now =
    ap (λ xs. length xs) (sym more) ∙ length-take-le now c.fill-second.new.buffer (omega (arith, c.fill-second.ensures.room, c.option_end.ensures.room, front)) in
    let by_terms : Terms → Reader = λ t. record { terms = t; phase = phase_of c.fill-second.new.buffer c.end_option.result.stage } in
    let by_phase : Phase → Reader = λ p. record { terms = c.args.terms; phase = p } in
    rw c.end_option.ensures.taken (rw c.end_option.ensures.event (
      omega (arith, size, len, front, c.if-now-option_end.false),
      ap (λ xs. option_event fixed xs) more,
      ap by_terms c.end_option.ensures.terms
          ∙ ap by_phase (c.end_option.ensures.phase c.fill-second.new.buffer ∙ ap (λ xs. option_phase fixed xs) more),
    ))

pub returns-clause-sound : goal.returns-clause-sound
returns-clause-sound c =
    subst (λ (t : Terms). IsSound t.fixed c.fill-second.new.buffer c.end_option.result.stage) (sym c.end_option.ensures.terms)
    (c.end_option.ensures.sound c.fill-second.new.buffer)

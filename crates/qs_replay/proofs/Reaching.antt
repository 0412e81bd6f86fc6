-- How far a replay comes in the lines of its script.
use Rattle.std.proofs.Common.{◌≡◌, ◌≢◌, ◌⊎◌, ℕ, zero, suc, ◌==◌, List, [], ◌∷◌, ◌++◌, length, Bool, true, false, if◌then◌else◌}
use Rattle.std.proofs.Common.{refl, sym, subst, ap, ◌∙◌, inl, inr, arith, ne_eqb, append_assoc, append-nil, length-append}
use Rattle.std.specs.Prelude.{Option, None, Some}
use Rattle.qs_outside.specs.Blocks.{Seen}
use Rattle.qs_status.specs.declared.status.Status.{Status}
use Rattle.qs_status.specs.declared.status.Status.TheVariants as status
use Rattle.qs_script.specs.Cuts.{longest_line}
use Rattle.qs_script.specs.Finds.{HasNo}
use Rattle.qs_world.specs.Values.{WorldValue}
use Rattle.qs_replay_lines.specs.declared.stop.Stop.TheVariants as stop
use Rattle.qs_calls.specs.Calls.{Call}
use Rattle.qs_replay.specs.Readings.{IsText, IsReadUp}
use Rattle.qs_replay_lines.specs.Tables.{Names}
use Rattle.qs_stream.specs.Bytes.{Takes}
use Rattle.qs_replay.specs.Scripts.{AllDone, BreaksOff, EndsScript, IsBad, IsReadFront, IsLine, IsNextLine, IsScript, IsUntimely, ReachesLine, Replays}
use Rattle.qs_replay.specs.Scripts.{Scene, lines_from, lines_of, spelled_lines}

-- one byte more, whatever the front of the line is
lines_step : (line bytes : List ℕ) (b : ℕ) →
    lines_from line (b ∷ bytes) ≡ (if b == 10 then line ∷ lines_from [] bytes else lines_from (line ++ b ∷ []) bytes)
lines_step [] bytes b = refl
lines_step (x ∷ line) bytes b = refl

lines_end : (line bytes : List ℕ) → lines_from line (10 ∷ bytes) ≡ line ∷ lines_of bytes
lines_end line bytes = lines_step line bytes 10

lines_on : (line bytes : List ℕ) (b : ℕ) → b ≢ 10 → lines_from line (b ∷ bytes) ≡ lines_from (line ++ b ∷ []) bytes
lines_on line bytes b ne =
    lines_step line bytes b
    ∙ ap (λ (c : Bool). if c then line ∷ lines_from [] bytes else lines_from (line ++ b ∷ []) bytes) (ne_eqb b 10 ne)

has_no_head : (x : ℕ) (xs : List ℕ) → HasNo 10 (x ∷ xs) → x ≢ 10
has_no_head x xs free = free zero (omega arith)

has_no_tail : (x : ℕ) (xs : List ℕ) → HasNo 10 (x ∷ xs) → HasNo 10 xs
has_no_tail x xs free k below = free (suc k) (omega arith)

-- bytes without LF join the front of the line
lines_into : (line text more : List ℕ) → HasNo 10 text → lines_from line (text ++ more) ≡ lines_from (line ++ text) more
lines_into line [] more free = ap (λ (l : List ℕ). lines_from l more) (sym (append-nil line))
lines_into line (b ∷ text) more free =
    lines_on line (text ++ more) b (has_no_head b text free)
    ∙ lines_into (line ++ b ∷ []) text more (has_no_tail b text free)
    ∙ ap (λ (l : List ℕ). lines_from l more) (append_assoc line (b ∷ []) text)

lines_line : (text more : List ℕ) → HasNo 10 text → lines_of (text ++ 10 ∷ more) ≡ text ∷ lines_of more
lines_line text more free = lines_into [] text (10 ∷ more) free ∙ lines_end text more

lines_rest : (text : List ℕ) → text ≢ [] → lines_from text [] ≡ text ∷ []
lines_rest [] filled = absurd (filled refl)
lines_rest (b ∷ text) filled = refl

-- a last line without LF
lines_last : (text : List ℕ) → HasNo 10 text → text ≢ [] → lines_of text ≡ text ∷ []
lines_last text free filled =
    ap lines_of (sym (append-nil text)) ∙ lines_into [] text [] free ∙ lines_rest text filled

-- the first of the lines begins so
abbrev Begins : List ℕ → List (List ℕ) → Type 0
Begins line lines = (front : List ℕ) × (others : List (List ℕ)) × (lines ≡ (line ++ front) ∷ others)

begins_if : (c : Bool) (line : List ℕ) (ended going : List (List ℕ)) → Begins line ended → Begins line going → Begins line (if c then ended else going)
begins_if true line ended going p q = p
begins_if false line ended going p q = q

begins_longer : (line : List ℕ) (b : ℕ) (lines : List (List ℕ)) → Begins (line ++ b ∷ []) lines → Begins line lines
begins_longer line b lines p =
    (b ∷ p.0, p.1, p.2 ∙ ap (λ (l : List ℕ). l ∷ p.1) (append_assoc line (b ∷ []) p.0))

append_filled : (line : List ℕ) (b : ℕ) → line ++ b ∷ [] ≢ []
append_filled line b e = absurd (omega (arith, length-append line (b ∷ []), ap length e))

lines_begin : (line more : List ℕ) → line ≢ [] → Begins line (lines_from line more)
lines_begin line [] filled = ([], [], lines_rest line filled ∙ ap (λ (l : List ℕ). l ∷ []) (sym (append-nil line)))
lines_begin line (b ∷ more) filled =
    subst (Begins line) (sym (lines_step line more b))
    (begins_if (b == 10) line (line ∷ lines_of more) (lines_from (line ++ b ∷ []) more)
    ([], lines_of more, ap (λ (l : List ℕ). l ∷ lines_of more) (sym (append-nil line)))
    (begins_longer line b (lines_from (line ++ b ∷ []) more) (lines_begin (line ++ b ∷ []) more (append_filled line b))))

-- the texts have no LF
abbrev AreBare : List (List ℕ) → Type 0
AreBare [] = Unit {0}
AreBare (text ∷ texts) = HasNo 10 text × AreBare texts

are_bare : {D : Type 0} (seen : D → Seen) (w : WorldValue D) (t : Names) (texts : List (List ℕ)) (calls : List Call) (printed : List ℕ)
    (w' : WorldValue D) (t' : Names) → AllDone seen w t texts calls printed w' t' → AreBare texts
are_bare seen w t [] calls printed w' t' done = tt
are_bare seen w t (text ∷ texts) calls printed w' t' done =
    (done.is_text.no_end, are_bare seen done.world done.names texts done.later done.more w' t' done.rest)

-- the texts are the first lines
lines_spelled : (texts : List (List ℕ)) (more : List ℕ) → AreBare texts → lines_of (spelled_lines texts ++ more) ≡ texts ++ lines_of more
lines_spelled [] more bare = refl
lines_spelled (text ∷ texts) more bare =
    ap lines_of (append_assoc text (10 ∷ spelled_lines texts) more)
    ∙ lines_line text (spelled_lines texts ++ more) bare.0
    ∙ ap (λ (ls : List (List ℕ)). text ∷ ls) (lines_spelled texts more bare.1)

lines_front : (script : List ℕ) (texts : List (List ℕ)) (more : List ℕ) → AreBare texts → script ≡ spelled_lines texts ++ more →
    lines_of script ≡ texts ++ lines_of more
lines_front script texts more bare is = ap lines_of is ∙ lines_spelled texts more bare

-- what was taken of the script, and what wasn't
pub record Splits (script taken : List ℕ) (left : Option (List ℕ)) (waiting : List ℕ) : Type 0 where
  pub more : List ℕ
  pub is : script ≡ taken ++ more
  pub up : IsReadUp left waiting → more ≡ []

splits_told : (script taken : List ℕ) (left : Option (List ℕ)) (waiting : List ℕ) → Takes (Some script) [] taken left waiting →
    Splits script taken left waiting
splits_told script taken None waiting takes = absurd takes.read
splits_told script taken (Some rest) waiting takes = record {
  more = waiting ++ rest;
  is = takes.read ∙ ap (λ (l : List ℕ). l ++ rest) takes.joined ∙ append_assoc taken waiting rest;
  up = λ used. ap (λ (l : List ℕ). l ++ rest) used.1 ∙ used.0;
}

pub splits_of : (script taken : List ℕ) (left left' : Option (List ℕ)) (waiting waiting' : List ℕ) → left ≡ Some script → waiting ≡ [] →
    Takes left waiting taken left' waiting' → Splits script taken left' waiting'
splits_of script taken left left' waiting waiting' told empty takes =
    splits_told script taken left' waiting' (subst (λ (w : List ℕ). Takes (Some script) w taken left' waiting') empty
    (subst (λ (l : Option (List ℕ)). Takes l waiting taken left' waiting') told takes))

-- where all of the script was taken
pub whole_of : (script taken : List ℕ) (left : Option (List ℕ)) (waiting : List ℕ) → Splits script taken left waiting → IsReadUp left waiting → script ≡ taken
whole_of script taken left waiting split used =
    split.is ∙ ap (λ (l : List ℕ). taken ++ l) (split.up used) ∙ append-nil taken

-- behind the texts come the lines of what wasn't done
lines_behind : (script : List ℕ) (texts : List (List ℕ)) (taken bytes more : List ℕ) → AreBare texts → script ≡ taken ++ more →
    taken ≡ spelled_lines texts ++ bytes → lines_of script ≡ texts ++ lines_of (bytes ++ more)
lines_behind script texts taken bytes more bare is taken_is =
    lines_front script texts (bytes ++ more) bare (is ∙ ap (λ (l : List ℕ). l ++ more) taken_is ∙ append_assoc (spelled_lines texts) bytes more)

bare_split : (front others : List (List ℕ)) → AreBare (front ++ others) → AreBare front × AreBare others
bare_split [] others bare = (tt, bare)
bare_split (text ∷ front) others bare = let both : AreBare front × AreBare others = bare_split front others bare.1 in ((bare.0, both.0), both.1)

-- the texts are all lines
lines_all : (script taken : List ℕ) (texts : List (List ℕ)) → AreBare texts → script ≡ taken → IsScript taken texts → lines_of script ≡ texts
lines_all script taken texts bare whole (inl is) =
    lines_front script texts [] bare (whole ∙ is ∙ sym (append-nil (spelled_lines texts))) ∙ append-nil texts
lines_all script taken texts bare whole (inr is) =
    let both : AreBare is.0 × AreBare (is.1 ∷ []) = bare_split is.0 (is.1 ∷ []) (subst AreBare is.2.0 bare) in
    lines_front script is.0 is.1 both.0 (whole ∙ is.2.2)
    ∙ ap (λ (ls : List (List ℕ)). is.0 ++ ls) (lines_last is.1 both.1.0 is.2.1)
    ∙ sym is.2.0

-- the line behind the texts, whole
lines_next : (P : List ℕ → Type 0) (script taken bytes text : List ℕ) (texts : List (List ℕ)) (left : Option (List ℕ)) (waiting : List ℕ) →
    AreBare texts → Splits script taken left waiting → taken ≡ spelled_lines texts ++ bytes → HasNo 10 text → IsLine bytes text left waiting → P text →
    IsNextLine (lines_of script) texts P
lines_next P script taken bytes text texts left waiting bare split taken_is free (inl line) p = (
  text,
  lines_of split.more,
  (
    lines_behind script texts taken bytes split.more bare split.is taken_is
        ∙ ap (λ (l : List ℕ). texts ++ lines_of (l ++ split.more)) line
        ∙ ap (λ (l : List ℕ). texts ++ lines_of l) (append_assoc text (10 ∷ []) split.more)
        ∙ ap (λ (ls : List (List ℕ)). texts ++ ls) (lines_line text split.more free),
    p,
  ),
)
lines_next P script taken bytes text texts left waiting bare split taken_is free (inr line) p = (
  text,
  [],
  (
    lines_front script texts bytes bare (whole_of script taken left waiting split line.2 ∙ taken_is)
        ∙ ap (λ (l : List ℕ). texts ++ lines_of l) line.0
        ∙ ap (λ (ls : List (List ℕ)). texts ++ ls) (lines_last text free line.1),
    p,
  ),
)

long_filled : (text : List ℕ) → length text ≡ longest_line → text ≢ []
long_filled text long e = absurd (omega (arith, ap length e))

-- the line behind the texts, of which too many bytes were taken
lines_long : (t : Names) (script taken bytes text : List ℕ) (texts : List (List ℕ)) (left : Option (List ℕ)) (waiting : List ℕ) →
    AreBare texts → Splits script taken left waiting → taken ≡ spelled_lines texts ++ bytes → HasNo 10 text → bytes ≡ text → length text ≡ longest_line →
    IsNextLine (lines_of script) texts (IsBad t)
lines_long t script taken bytes text texts left waiting bare split taken_is free same long =
    let begun : Begins text (lines_from text split.more) = lines_begin text split.more (long_filled text long) in (
      text ++ begun.0,
      begun.1,
      (
        lines_behind script texts taken bytes split.more bare split.is taken_is
            ∙ ap (λ (l : List ℕ). texts ++ lines_of (l ++ split.more)) same
            ∙ ap (λ (ls : List (List ℕ)). texts ++ ls) (lines_into [] text split.more free ∙ begun.2),
        inl (omega (arith, length-append text begun.0)),
      ),
    )

lines_bad : (t : Names) (script taken bytes text : List ℕ) (texts : List (List ℕ)) (left : Option (List ℕ)) (waiting : List ℕ) →
    AreBare texts → Splits script taken left waiting → taken ≡ spelled_lines texts ++ bytes → HasNo 10 text →
    IsLine bytes text left waiting ⊎ ((bytes ≡ text) × (length text ≡ longest_line)) → IsBad t text → IsNextLine (lines_of script) texts (IsBad t)
lines_bad t script taken bytes text texts left waiting bare split taken_is free (inl line) bad =
    lines_next (IsBad t) script taken bytes text texts left waiting bare split taken_is free line bad
lines_bad t script taken bytes text texts left waiting bare split taken_is free (inr long) bad =
    lines_long t script taken bytes text texts left waiting bare split taken_is free long.0 long.1

-- where the output failed
lines_some : (script taken : List ℕ) (texts : List (List ℕ)) (left : Option (List ℕ)) (waiting : List ℕ) → AreBare texts →
    Splits script taken left waiting → IsReadFront texts taken left waiting → (rest : List (List ℕ)) × (lines_of script ≡ texts ++ rest)
lines_some script taken texts left waiting bare split (inl begun) =
    (lines_of (begun.0 ++ split.more), lines_behind script texts taken begun.0 split.more bare split.is begun.1)
lines_some script taken texts left waiting bare split (inr all) =
    ([], lines_all script taken texts bare (whole_of script taken left waiting split all.1) all.0 ∙ sym (append-nil texts))

reaches_end : {D : Type 0} (result : Status) (budget : ℕ) (script taken : List ℕ) (texts : List (List ℕ)) (cut : List Call) (w : WorldValue D)
    (t : Names) (left : Option (List ℕ)) (waiting : List ℕ) → AreBare texts → Splits script taken left waiting →
    EndsScript result budget texts taken cut w t left waiting → ReachesLine result budget (lines_of script) texts w t
reaches_end status.Done budget script taken texts cut w t left waiting bare split ends =
    sym (lines_all script taken texts bare (whole_of script taken left waiting split ends.1) ends.0)
reaches_end (status.BadLine n) budget script taken texts cut w t left waiting bare split ends =
    let b : BreaksOff stop.BadLine texts taken cut w t left waiting = ends.1 in
    (ends.0, lines_bad t script taken b.bytes b.text texts left waiting bare split b.taken_is b.no_end b.is_taken b.why.1)
reaches_end (status.NotNext n) budget script taken texts cut w t left waiting bare split ends =
    let b : BreaksOff stop.NotNext texts taken cut w t left waiting = ends.1 in (
      ends.0,
      lines_next (λ line. IsText line × IsUntimely w t line) script taken b.bytes b.text texts left waiting bare split b.taken_is b.no_end b.is_taken.0
          (record { no_end = b.no_end; short = b.is_taken.1 }, b.why.1),
    )
reaches_end status.Memory budget script taken texts cut w t left waiting bare split ends =
    (lines_of (ends.bytes ++ split.more), lines_behind script texts taken ends.bytes split.more bare split.is ends.taken_is)
reaches_end status.ReadFault budget script taken texts cut w t left waiting bare split ends =
    (lines_of (ends.1.0 ++ split.more), lines_behind script texts taken ends.1.0 split.more bare split.is ends.1.1.1)
reaches_end status.WriteFault budget script taken texts cut w t left waiting bare split ends =
    lines_some script taken texts left waiting bare split ends.1
reaches_end status.Spent budget script taken texts cut w t left waiting bare split ends =
    (ends.0, (lines_of split.more, lines_front script texts split.more bare (split.is ∙ ap (λ (l : List ℕ). l ++ split.more) ends.1)))
reaches_end other budget script taken texts cut w t left waiting bare split ends = absurd ends

pub reaches : {D : Type 0} (seen : D → Seen) (a : Scene D) (budget : ℕ) (result : Status) (z : Scene D) (script : List ℕ) →
    a.flow.input.bytes ≡ Some script → a.flow.stream.waiting ≡ [] → (r : Replays seen a budget result z) →
    ReachesLine result budget (lines_of script) r.texts r.world r.names
reaches seen a budget result z script told empty r =
    reaches_end result budget script r.taken r.texts r.cut r.world r.names z.flow.input.bytes z.flow.stream.waiting
    (are_bare seen a.world a.names r.texts r.calls r.printed r.world r.names r.done)
    (splits_of script r.taken a.flow.input.bytes z.flow.input.bytes a.flow.stream.waiting z.flow.stream.waiting told empty r.moved.takes) r.ends

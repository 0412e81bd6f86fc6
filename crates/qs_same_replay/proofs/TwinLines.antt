-- One line does one thing.
use Rattle.std.proofs.Common.{◌≡◌, ◌<◌, ℕ, List, [], ◌∷◌, ◌++◌, Bool, true, false, cond, nat_lt, refl, sym, subst, ap, ◌∙◌, arith, append_assoc, true≢false}
use Rattle.std.specs.Prelude.{All, Option, None, Some, replicate}
use Rattle.std.proofs.lemmas.List.Elements.{All-head, All-tail}
use Rattle.qs_bytes.specs.Payloads.{max_payload}
use Rattle.qs_bytes.specs.declared.ask.Ask.{Ask}
use Rattle.qs_outside.specs.Blocks.{Seen}
use Rattle.qs_part.specs.declared.event.Actor.{Actor}
use Rattle.qs_part.specs.declared.event.Event.{Event}
use Rattle.qs_part.specs.declared.event.Event.TheVariants as event
use Rattle.qs_part.specs.declared.event.Outcome.{Outcome}
use Rattle.qs_determined.specs.Determined.{Happens}
use Rattle.qs_script.specs.declared.line.Line.{Line}
use Rattle.qs_script.specs.declared.line.Line.TheVariants as line
use Rattle.qs_script.proofs.OneLine.{one_line}
use Rattle.qs_model.specs.Events.{IsEvent}
use Rattle.qs_model.specs.Requests.{form_error}
use Rattle.qs_model.specs.Steps.{happens}
use Rattle.qs_model.specs.Worlds.{World}
use Rattle.qs_world.specs.Values.{WorldValue}
use Rattle.qs_part.specs.declared.graph.GraphOp.{GraphOp}
use Rattle.qs_determined.specs.Determined.{Alike, Cuts, Makes}
use Rattle.qs_calls.specs.Calls.{Call, Happened, Rigged, PowerFailed, ExportMade, anew}
use Rattle.qs_same_replay.proofs.Calm.{IsAnew}
use Rattle.qs_same_replay.proofs.LeftAlike.{AreLeftAlike, left_front, left_rest}
use Rattle.qs_replay_lines.specs.Effects.{Acts, AskedBy, DoesLine, IsRoom, Notes, bytes_or, flush_ask, read_ask, line_text_of, trim_ask, write_ask, zero_ask}
use Rattle.qs_calls.specs.Goings.{GoesOn, RunsOut, goes_on}
use Rattle.qs_replay.specs.Scripts.{AllDone, DoesText}
use Rattle.qs_replay_lines.specs.Tables.{Names}
use Rattle.qs_same_replay.proofs.TwinEvents.{actor_one, gives_one, notes_one, read_body, read_wants, room_of, write_body}
use Rattle.qs_same_replay.proofs.Twins.{CalmStep, Calmly, IsTame, Twins, calm_parts, input_of, twin_call}

-- two that do the same leave twins
pub record Together (n n' : World) (calls calls' : List Call) (printed printed' : List ℕ) (t t' : Names) : Type 0 where
  pub calls_are : calls' ≡ calls
  pub printed_are : printed' ≡ printed
  pub names_are : t' ≡ t
  pub twins : Twins n n'

-- what one replay did behind the lines that both did
pub record Behind {D : Type 0} (seen : D → Seen) (A : ℕ) (n n' : World) (rest : List (List ℕ)) (calls calls' : List Call) (printed printed' : List ℕ)
    (v' : WorldValue D) (t t' : Names) : Type 0 where
  pub later : List Call
  pub more : List ℕ
  pub world : WorldValue D
  pub model : World
  pub calls_are : calls' ≡ calls ++ later
  pub printed_are : printed' ≡ printed ++ more
  pub twins : Twins n model
  pub done : AllDone seen world t rest later more v' t'
  pub calm : Calmly A model later n'

module _ (A : ℕ) where
  -- two that end where they began
  twins_end : (m m' n n' : World) → Twins m m' → n ≡ m → n' ≡ m' → Twins n n'
  twins_end m m' n n' t is at = subst (λ (x : World). Twins x n') (sym is) (subst (λ (x : World). Twins m x) (sym at) t)

  -- the same calls, of an event that is known
  pub given_calls : (m n : World) (calls given : List Call) → calls ≡ given → Calmly A m calls n → Calmly A m given n
  given_calls m n calls given is one = subst (λ (cs : List Call). Calmly A m cs n) is one

  one_goes : (made made' : Event) (x y : Outcome) → Happened made x ≡ Happened made' y → x ≡ y
  one_goes made made' x y e = cc

  -- one call each
  twin_one : (m m' n n' : World) (c c' : Call) → Twins m m' → Calmly A m (c ∷ []) n → Calmly A m' (c' ∷ []) n' → input_of c' ≡ input_of c → IsTame (input_of c) →
      (c' ≡ c) × Twins n n'
  twin_one m m' n n' c c' t one two same tame =
      let both = twin_call A m m' c c' t one.0 two.0 same tame in
      (both.0, twins_end (happens A m one.0.element) (happens A m' two.0.element) n n' both.1 one.1 two.1)

  -- one event each
  twin_event : (m m' n n' : World) (made made' : Event) (x y : Outcome) (calls calls' : List Call) → IsTame (Happens made) → Twins m m' → made' ≡ made →
      calls ≡ Happened made x ∷ [] → calls' ≡ Happened made' y ∷ [] → Calmly A m calls n → Calmly A m' calls' n' → (calls' ≡ calls) × (y ≡ x) × Twins n n'
  twin_event m m' n n' made made' x y calls calls' tame t event_is is at one two =
      let both = twin_one m m' n n' (Happened made x) (Happened made' y) t (given_calls m n calls (Happened made x ∷ []) is one)
      (given_calls m' n' calls' (Happened made' y ∷ []) at two) (ap Happens event_is) tame in
      (at ∙ ap (λ (c : Call). c ∷ []) both.0 ∙ sym is, one_goes made' made y x both.0, both.1)

  -- two runs of one event
  twin_run : (made : Event) (m m' n n' : World) (front front' : List Call) (x y : Outcome) → IsTame (Happens made) → Twins m m' → All (GoesOn made) front →
      All (GoesOn made) front' → goes_on x ≡ false → goes_on y ≡ false → Calmly A m (front ++ Happened made x ∷ []) n → Calmly A m' (front' ++ Happened made y ∷ []) n' →
      (front' ≡ front) × (y ≡ x) × Twins n n'
  twin_run made m m' n n' [] [] x y tame t on on_too ends ends_too one two =
      let both = twin_one m m' n n' (Happened made x) (Happened made y) t one two refl tame in (refl, one_goes made made y x both.0, both.1)
  twin_run made m m' n n' [] (d ∷ ds) x y tame t on on_too ends ends_too one two =
      let goes = All-head (GoesOn made) d ds on_too in
      let both = twin_call A m m' (Happened made x) d t one.0 two.0 (ap input_of goes.is) tame in
      absurd (true≢false (sym goes.on ∙ ap goes_on (one_goes made made goes.outcome x (sym goes.is ∙ both.0)) ∙ ends))
  twin_run made m m' n n' (c ∷ cs) [] x y tame t on on_too ends ends_too one two =
      let goes = All-head (GoesOn made) c cs on in
      let both = twin_call A m m' c (Happened made y) t one.0 two.0 (sym (ap input_of goes.is)) (subst (λ (k : Call). IsTame (input_of k)) (sym goes.is) tame) in
      absurd (true≢false (sym goes.on ∙ ap goes_on (one_goes made made goes.outcome y (sym goes.is ∙ sym both.0)) ∙ ends_too))
  twin_run made m m' n n' (c ∷ cs) (d ∷ ds) x y tame t on on_too ends ends_too one two =
      let goes = All-head (GoesOn made) c cs on in
      let both = twin_call A m m' c d t one.0 two.0 (ap input_of (All-head (GoesOn made) d ds on_too).is ∙ sym (ap input_of goes.is))
      (subst (λ (k : Call). IsTame (input_of k)) (sym goes.is) tame) in
      let rest = twin_run made (happens A m one.0.element) (happens A m' two.0.element) n n' cs ds x y tame both.1 (All-tail (GoesOn made) c cs on)
      (All-tail (GoesOn made) d ds on_too) ends ends_too one.1 two.1 in
      (ap (λ (k : Call). k ∷ ds) both.0 ∙ ap (λ (ks : List Call). c ∷ ks) rest.0, rest.1, rest.2)

  -- a line with events
  acts_one : (n n' : World) (t t1 t1' : Names) (l : Line) (lost lost' : Bool) (calls calls' : List Call) (printed printed' : List ℕ) (does : Acts t l lost calls printed t1)
      (also : Acts t l lost' calls' printed' t1') → also.made ≡ does.made → also.mid ≡ does.mid → (calls' ≡ calls) × (also.outcome ≡ does.outcome) × Twins n n' →
      Together n n' calls calls' printed printed' t1 t1'
  acts_one n n' t t1 t1' l lost lost' calls calls' printed printed' does also event_is mid_is both = record {
    calls_are = both.0;
    printed_are = also.text_is ∙ ap (line_text_of l) both.1 ∙ sym does.text_is;
    names_are = notes_one l does.made does.outcome does.mid t1 t1' does.notes (subst (λ (e : Event). Notes l e does.outcome does.mid t1') event_is
        (subst (λ (u : Names). Notes l also.made does.outcome u t1') mid_is (subst (λ (z : Outcome). Notes l also.made z also.mid t1') both.1 also.notes)));
    twins = both.2;
  }

  -- the body of a READ, and of a WRITE
  read_is : (m n : World) (k cookie offset long : ℕ) (body : Option (List ℕ)) (made : Event) (x : Outcome) (calls : List Call) → calls ≡ Happened made x ∷ [] →
      Calmly A m calls n → IsRoom body long → made ≡ event.Ask k (read_ask cookie offset long) body → body ≡ room_of long
  read_is m n k cookie offset long body made x calls is one room made_is =
      let step : CalmStep A m (Happened made x) = (given_calls m n calls (Happened made x ∷ []) is one).0 in
      read_body k cookie offset long body step.element room (subst (λ (i : Event). IsEvent i step.element) made_is step.comes.is) step.given

  write_is : (m n : World) (k cookie offset : ℕ) (bytes : List ℕ) (fua lost : Bool) (made : Event) (x : Outcome) (calls : List Call) →
      calls ≡ Happened made x ∷ [] → Calmly A m calls n → made ≡ event.Ask k (write_ask cookie offset bytes fua) (bytes_or lost bytes) →
      bytes_or lost bytes ≡ Some bytes
  write_is m n k cookie offset bytes fua lost made x calls is one made_is =
      let step : CalmStep A m (Happened made x) = (given_calls m n calls (Happened made x ∷ []) is one).0 in
      write_body k cookie offset bytes fua lost step.element (subst (λ (i : Event). IsEvent i step.element) made_is step.comes.is) step.given

  tame_as : (made other : Event) → made ≡ other → IsTame (Happens other) → IsTame (Happens made)
  tame_as made other is tame = subst (λ (e : Event). IsTame (Happens e)) (sym is) tame

  read_tame : (n cookie offset long : ℕ) (body : Option (List ℕ)) → body ≡ room_of long → IsTame (Happens (event.Ask n (read_ask cookie offset long) body))
  read_tame n cookie offset long body is bad =
      let big : nat_lt max_payload long ≡ true = bad in
      let above : max_payload < long = grind (arith, big) in
      (is ∙ ap (λ (b : Bool). cond b None (Some (replicate long 0))) big, read_wants cookie offset long (omega (arith, above)))

  -- a request without a body, whose form is good
  twin_ask : (m m' n n' : World) (t t1 t1' : Names) (l : Line) (lost lost' : Bool) (calls calls' : List Call) (printed printed' : List ℕ) (s : List ℕ) (ask : Ask)
      (does : Acts t l lost calls printed t1) (also : Acts t l lost' calls' printed' t1') → form_error ask ≡ false → Twins m m' →
      AskedBy t s ask None does.made does.mid → AskedBy t s ask None also.made also.mid → calls ≡ Happened does.made does.outcome ∷ [] →
      calls' ≡ Happened also.made also.outcome ∷ [] → Calmly A m calls n → Calmly A m' calls' n' → Together n n' calls calls' printed printed' t1 t1'
  twin_ask m m' n n' t t1 t1' l lost lost' calls calls' printed printed' s ask does also good twins asked asked_too calls_are calls_too one two =
      let (k, (gives, made_is)) = asked in
      let (h, (gives_too, made_too)) = asked_too in
      let same = gives_one t does.mid also.mid s k h gives gives_too in
      let event_is : also.made ≡ does.made = made_too ∙ ap (λ (i : ℕ). event.Ask i ask None) same.0 ∙ sym made_is in
      acts_one n n' t t1 t1' l lost lost' calls calls' printed printed' does also event_is same.1
      (twin_event m m' n n' does.made also.made does.outcome also.outcome calls calls'
      (tame_as does.made _ made_is (λ bad. absurd (true≢false (sym bad ∙ good)))) twins event_is calls_are calls_too one two)

  -- the export that is made anew is one
  anew_one : (m m' : World) (op op' : GraphOp) (place place' : ℕ) → Alike m m' → CalmStep A m (ExportMade op place) → CalmStep A m' (ExportMade op' place') → op' ≡ op
  anew_one m m' op op' place place' alike one two =
      subst (IsAnew m') two.outcome_is two.made ∙ ap anew alike.graph ∙ sym (subst (IsAnew m) one.outcome_is one.made)

  -- one line
  twin_line : (m m' n n' : World) (t : Names) (l : Line) (lost lost' : Bool) (calls calls' : List Call) (printed printed' : List ℕ) (t1 t1' : Names) →
      Twins m m' → DoesLine t l lost calls printed t1 → DoesLine t l lost' calls' printed' t1' → AreLeftAlike calls calls' → Calmly A m calls n → Calmly A m' calls' n' →
      Together n n' calls calls' printed printed' t1 t1'
  twin_line m m' n n' t line.Nothing lost lost' calls calls' printed printed' t1 t1' twins does also alike one two = record {
    calls_are = also.calls_are ∙ sym does.calls_are;
    printed_are = also.text_is ∙ sym does.text_is;
    names_are = also.same ∙ sym does.same;
    twins = twins_end m m' n n' twins (given_calls m n calls [] does.calls_are one) (given_calls m' n' calls' [] also.calls_are two);
  }
  twin_line m m' n n' t (line.Fail j fail) lost lost' calls calls' printed printed' t1 t1' twins does also alike one two = record {
    calls_are = also.calls_are ∙ sym does.calls_are;
    printed_are = also.text_is ∙ sym does.text_is;
    names_are = also.same ∙ sym does.same;
    twins = (twin_one m m' n n' (Rigged j fail) (Rigged j fail) twins (given_calls m n calls (Rigged j fail ∷ []) does.calls_are one)
        (given_calls m' n' calls' (Rigged j fail ∷ []) also.calls_are two) refl tt).1;
  }
  twin_line m m' n n' t (line.Crash choice) lost lost' calls calls' printed printed' t1 t1' twins does also alike one two =
      let cs : List Call = PowerFailed choice does.left ∷ ExportMade does.op does.place ∷ [] in
      let ds : List Call = PowerFailed choice also.left ∷ ExportMade also.op also.place ∷ [] in
      let left : AreLeftAlike cs ds = subst (λ (x : List Call). AreLeftAlike x ds) does.rests.calls_are
      (subst (λ (x : List Call). AreLeftAlike calls x) also.rests.calls_are alike) in
      let steps : Calmly A m cs n = given_calls m n calls cs does.rests.calls_are one in
      let others : Calmly A m' ds n' = given_calls m' n' calls' ds also.rests.calls_are two in
      let first = twin_call A m m' (PowerFailed choice does.left) (PowerFailed choice also.left) twins steps.0 others.0 (ap (Cuts choice) (left.0 refl)) tt in
      let mid : World = happens A m steps.0.element in
      let mid' : World = happens A m' others.0.element in
      let op_is : also.op ≡ does.op = anew_one mid mid' does.op also.op does.place also.place first.1.alike steps.1.0 others.1.0 in
      let second = twin_call A mid mid' (ExportMade does.op does.place) (ExportMade also.op also.place) first.1 steps.1.0 others.1.0 (ap Makes op_is) tt in
      record {
        calls_are = also.rests.calls_are ∙ ap (λ (c : Call). c ∷ ExportMade also.op also.place ∷ []) first.0
            ∙ ap (λ (c : Call). PowerFailed choice does.left ∷ c ∷ []) second.0 ∙ sym does.rests.calls_are;
        printed_are = also.rests.text_is ∙ sym does.rests.text_is;
        names_are = also.rests.same ∙ sym does.rests.same;
        twins = twins_end (happens A mid steps.1.0.element) (happens A mid' others.1.0.element) n n' second.1 steps.1.1 others.1.1;
      }
  twin_line m m' n n' t (line.Session s e) lost lost' calls calls' printed printed' t1 t1' twins does also alike one two =
      let same = gives_one t does.mid also.mid s does.event_is.0 also.event_is.0 does.event_is.1.0 also.event_is.1.0 in
      let event_is : also.made ≡ does.made = also.event_is.1.1 ∙ ap (λ (k : ℕ). event.Attach k e) same.0 ∙ sym does.event_is.1.1 in
      acts_one n n' t t1 t1' (line.Session s e) lost lost' calls calls' printed printed' does also event_is same.1
      (twin_event m m' n n' does.made also.made does.outcome also.outcome calls calls' (tame_as does.made _ does.event_is.1.1 tt) twins event_is
      does.calls_are also.calls_are one two)
  twin_line m m' n n' t (line.End s) lost lost' calls calls' printed printed' t1 t1' twins does also alike one two =
      let same = gives_one t does.mid also.mid s does.event_is.0 also.event_is.0 does.event_is.1.0 also.event_is.1.0 in
      let event_is : also.made ≡ does.made = also.event_is.1.1 ∙ ap (λ (k : ℕ). event.Leave k) same.0 ∙ sym does.event_is.1.1 in
      acts_one n n' t t1 t1' (line.End s) lost lost' calls calls' printed printed' does also event_is same.1
      (twin_event m m' n n' does.made also.made does.outcome also.outcome calls calls' (tame_as does.made _ does.event_is.1.1 tt) twins event_is
      does.calls_are also.calls_are one two)
  twin_line m m' n n' t (line.Read s c offset long) lost lost' calls calls' printed printed' t1 t1' twins does also alike one two =
      let (k, body, (gives, room, made_is)) = does.event_is in
      let (h, other, (gives_too, room_too, made_too)) = also.event_is in
      let same = gives_one t does.mid also.mid s k h gives gives_too in
      let is : body ≡ room_of long = read_is m n k c offset long body does.made does.outcome calls does.calls_are one room made_is in
      let at : other ≡ room_of long = read_is m' n' h c offset long other also.made also.outcome calls' also.calls_are two room_too made_too in
      let event_is : also.made ≡ does.made = made_too ∙ ap (λ (i : ℕ). event.Ask i (read_ask c offset long) other) same.0
      ∙ ap (λ (b : Option (List ℕ)). event.Ask k (read_ask c offset long) b) (at ∙ sym is) ∙ sym made_is in
      acts_one n n' t t1 t1' (line.Read s c offset long) lost lost' calls calls' printed printed' does also event_is same.1
      (twin_event m m' n n' does.made also.made does.outcome also.outcome calls calls' (tame_as does.made _ made_is (read_tame k c offset long body is)) twins event_is
      does.calls_are also.calls_are one two)
  twin_line m m' n n' t (line.Write s c offset bytes fua) lost lost' calls calls' printed printed' t1 t1' twins does also alike one two =
      let (k, (gives, made_is)) = does.event_is in
      let (h, (gives_too, made_too)) = also.event_is in
      let same = gives_one t does.mid also.mid s k h gives gives_too in
      let is : bytes_or lost bytes ≡ Some bytes = write_is m n k c offset bytes fua lost does.made does.outcome calls does.calls_are one made_is in
      let at : bytes_or lost' bytes ≡ Some bytes = write_is m' n' h c offset bytes fua lost' also.made also.outcome calls' also.calls_are two made_too in
      let event_is : also.made ≡ does.made = made_too ∙ ap (λ (i : ℕ). event.Ask i (write_ask c offset bytes fua) (bytes_or lost' bytes)) same.0
      ∙ ap (λ (b : Option (List ℕ)). event.Ask k (write_ask c offset bytes fua) b) (at ∙ sym is) ∙ sym made_is in
      acts_one n n' t t1 t1' (line.Write s c offset bytes fua) lost lost' calls calls' printed printed' does also event_is same.1
      (twin_event m m' n n' does.made also.made does.outcome also.outcome calls calls' (tame_as does.made _ made_is (λ bad. absurd (true≢false (sym bad)))) twins event_is
      does.calls_are also.calls_are one two)
  twin_line m m' n n' t (line.Zero s c offset long fua) lost lost' calls calls' printed printed' t1 t1' twins does also alike one two =
      twin_ask m m' n n' t t1 t1' (line.Zero s c offset long fua) lost lost' calls calls' printed printed' s (zero_ask c offset long fua) does also refl twins does.event_is also.event_is
      does.calls_are also.calls_are one two
  twin_line m m' n n' t (line.Trim s c offset long) lost lost' calls calls' printed printed' t1 t1' twins does also alike one two =
      twin_ask m m' n n' t t1 t1' (line.Trim s c offset long) lost lost' calls calls' printed printed' s (trim_ask c offset long) does also refl twins does.event_is also.event_is
      does.calls_are also.calls_are one two
  twin_line m m' n n' t (line.Flush s c) lost lost' calls calls' printed printed' t1 t1' twins does also alike one two =
      twin_ask m m' n n' t t1 t1' (line.Flush s c) lost lost' calls calls' printed printed' s (flush_ask c) does also refl twins does.event_is also.event_is
      does.calls_are also.calls_are one two
  twin_line m m' n n' t (line.Step who now) lost lost' calls calls' printed printed' t1 t1' twins does also alike one two =
      let same = actor_one t does.mid also.mid who does.event_is.0 also.event_is.0 does.event_is.1.0 also.event_is.1.0 in
      let event_is : also.made ≡ does.made = also.event_is.1.1 ∙ ap (λ (a : Actor). event.Step a now) same.0 ∙ sym does.event_is.1.1 in
      acts_one n n' t t1 t1' (line.Step who now) lost lost' calls calls' printed printed' does also event_is same.1
      (twin_event m m' n n' does.made also.made does.outcome also.outcome calls calls' (tame_as does.made _ does.event_is.1.1 tt) twins event_is
      does.calls_are also.calls_are one two)
  twin_line m m' n n' t (line.Run who now) lost lost' calls calls' printed printed' t1 t1' twins does also alike one two =
      let same = actor_one t does.mid also.mid who does.event_is.0 also.event_is.0 does.event_is.1.0 also.event_is.1.0 in
      let event_is : also.made ≡ does.made = also.event_is.1.1 ∙ ap (λ (a : Actor). event.Step a now) same.0 ∙ sym does.event_is.1.1 in
      let run : RunsOut does.made calls does.outcome = does.calls_are in
      let ran : RunsOut does.made calls' also.outcome = subst (λ (e : Event). RunsOut e calls' also.outcome) event_is also.calls_are in
      let both = twin_run does.made m m' n n' run.front ran.front does.outcome also.outcome (tame_as does.made _ does.event_is.1.1 tt) twins run.on ran.on run.ends ran.ends
      (given_calls m n calls _ run.whole one) (given_calls m' n' calls' _ ran.whole two) in
      acts_one n n' t t1 t1' (line.Run who now) lost lost' calls calls' printed printed' does also event_is same.1 (
        ran.whole ∙ ap (λ (cs : List Call). cs ++ Happened does.made also.outcome ∷ []) both.0 ∙ ap (λ (z : Outcome). run.front ++ Happened does.made z ∷ []) both.1
            ∙ sym run.whole,
        both.1,
        both.2,
      )

  -- the texts of the same lines, behind which one replay may have done more
  pub twin_texts : {D : Type 0} (seen : D → Seen) (w w' v v' : WorldValue D) (m m' n n' : World) (t t' : Names) (texts rest : List (List ℕ)) (calls calls' : List Call)
      (printed printed' : List ℕ) (t1 t1' : Names) → Twins m m' → t' ≡ t → AllDone seen w t texts calls printed v t1 → AllDone seen w' t' (texts ++ rest) calls' printed' v' t1' →
      AreLeftAlike calls calls' → Calmly A m calls n → Calmly A m' calls' n' → Behind seen A n n' rest calls calls' printed printed' v' t1 t1'
  twin_texts seen w w' v v' m m' n n' t t' [] rest calls calls' printed printed' t1 t1' twins names done also alike one two = record {
    later = calls';
    more = printed';
    world = w';
    model = m';
    calls_are = sym (ap (λ (cs : List Call). cs ++ calls') done.calls_are);
    printed_are = sym (ap (λ (bs : List ℕ). bs ++ printed') done.printed_are);
    twins = twins_end m m' n m' twins (given_calls m n calls [] done.calls_are one) refl;
    done = subst (λ (u : Names). AllDone seen w' u rest calls' printed' v' t1') (names ∙ sym done.names) also;
    calm = two;
  }
  twin_texts seen w w' v v' m m' n n' t t' (text ∷ texts) rest calls calls' printed printed' t1 t1' twins names done also alike one two =
      let (mid, (front, back)) = calm_parts A m n done.first done.later (given_calls m n calls (done.first ++ done.later) done.calls_are one) in
      let (mid', (front_too, back_too)) = calm_parts A m' n' also.first also.later (given_calls m' n' calls' (also.first ++ also.later) also.calls_are two) in
      let d : DoesText seen w' t text also.first also.words also.world also.names =
      subst (λ (u : Names). DoesText seen w' u text also.first also.words also.world also.names) names also.does in
      let same : d.line ≡ done.does.line = one_line text d.line done.does.line d.reads done.does.reads in
      let left : AreLeftAlike (done.first ++ done.later) (also.first ++ also.later) =
      subst (λ (x : List Call). AreLeftAlike x (also.first ++ also.later)) done.calls_are (subst (λ (x : List Call). AreLeftAlike calls x) also.calls_are alike) in
      let head : Together mid mid' done.first also.first done.words also.words done.names also.names =
      twin_line m m' mid mid' t done.does.line done.does.lost d.lost done.first also.first done.words also.words done.names also.names twins done.does.is.does
      (subst (λ (l : Line). DoesLine t l d.lost also.first also.words also.names) same d.is.does)
      (left_front done.first done.later also.first also.later left) front front_too in
      let tail : Behind seen A n n' rest done.later also.later done.more also.more v' t1 t1' =
      twin_texts seen done.world also.world v v' mid mid' n n' done.names also.names texts rest done.later also.later done.more also.more t1 t1' head.twins head.names_are
      done.rest also.rest (left_rest done.first done.later also.later (subst (λ (x : List Call). AreLeftAlike (done.first ++ done.later) (x ++ also.later)) head.calls_are left))
      back back_too in
      record {
        later = tail.later;
        more = tail.more;
        world = tail.world;
        model = tail.model;
        calls_are = also.calls_are ∙ ap (λ (cs : List Call). cs ++ also.later) head.calls_are ∙ ap (λ (cs : List Call). done.first ++ cs) tail.calls_are
            ∙ sym (append_assoc done.first done.later tail.later) ∙ sym (ap (λ (cs : List Call). cs ++ tail.later) done.calls_are);
        printed_are = also.printed_are ∙ ap (λ (bs : List ℕ). bs ++ also.more) head.printed_are ∙ ap (λ (bs : List ℕ). done.words ++ bs) tail.printed_are
            ∙ sym (append_assoc done.words done.more tail.more) ∙ sym (ap (λ (bs : List ℕ). bs ++ tail.more) done.printed_are);
        twins = tail.twins;
        done = tail.done;
        calm = tail.calm;
      }

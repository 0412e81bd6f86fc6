-- Lines that are cut out of what a stream brings.
use Rattle.std.proofs.Common.{◌≡◌, ◌≢◌, ℕ, zero, suc, inl, take, drop, List, [], ◌∷◌, ◌++◌, length, refl, sym, subst, ap, ◌∙◌, arith, append_assoc, append-nil}
use Rattle.std.specs.Prelude.{Option, None, Some, IfNone, Result, Ok, Err, IsErrAnd}
use Rattle.std.proofs.lemmas.List.{drop_all, take-append-drop}
use Rattle.qs_script.specs.Cuts.{Cuts}
use Rattle.qs_script.specs.Finds.{HasNo}
use Rattle.qs_script.specs.declared.cutter.Cut.{Cut}
use Rattle.qs_script.specs.declared.cutter.Cut.TheVariants as cut
use Rattle.qs_stream.specs.declared.state.State.TheVariants.{Open, ReadFault, WriteFault}
use Rattle.qs_stream.specs.Buffers.{Buffers}
use Rattle.qs_stream.specs.Bytes.{Gives}
use Rattle.qs_stream.specs.Flows.{Flow, Side, Moved, Fills, Puts}
use Rattle.qs_stream.proofs.Bytes.{gives_on}
use Rattle.qs_stream.proofs.Moves.{moved_on, moved_none, moved_split}
use Rattle.qs_stream.proofs.Calls.{write_failed}
use Rattle.qs_replay.specs.declared.lines.Came.{Came}
use Rattle.qs_replay.specs.Readings.{AllSent, PieceComes, Feeds, IsText, Seeks, came_of, end_of}

pub has_no_append : (byte : ℕ) (xs ys : List ℕ) → HasNo byte xs → HasNo byte ys → HasNo byte (xs ++ ys)
has_no_append byte [] ys p q k below = q k below
has_no_append byte (x ∷ xs) ys p q zero below = p zero (omega arith)
has_no_append byte (x ∷ xs) ys p q (suc k) below = has_no_append byte xs ys (λ j h. p (suc j) (omega arith)) q k (omega arith)

none_has_no : HasNo 10 []
none_has_no k below = absurd (omega arith)

no_text : IsText []
no_text = record { no_end = none_has_no; short = omega arith }

all_taken : (waiting : List ℕ) (n : ℕ) (event : Option Cut) → IfNone event (n ≡ length waiting) → IfNone event (drop n waiting ≡ [])
all_taken waiting n None whole = drop_all n waiting (omega (arith, whole))
all_taken waiting n (Some e) whole = tt

-- what a cutter took of the bytes that wait
pub feeds_of : (line line' waiting waiting' : List ℕ) (n : ℕ) (event : Option Cut) → Cuts line (take n waiting) event line' →
    IfNone event (n ≡ length waiting) → waiting' ≡ drop n waiting → Feeds line waiting event line' waiting'
feeds_of line line' waiting waiting' n event cuts whole is =
    subst (λ (rest : List ℕ). Feeds line waiting event line' rest) (sym is)
    (record { taken = take n waiting; joined = sym (take-append-drop n waiting); cuts = cuts; whole = all_taken waiting n event whole })

-- what was given before had been sent or waited, and then all was sent
pub all_sent_on : (a b c : Flow) (taken given more : List ℕ) → Moved taken given a b → b.stream.state ≡ Open → AllSent more b c → AllSent (given ++ more) a c
all_sent_on a b c taken given more moved is sent =
    gives_on a.output.bytes b.output.bytes c.output.bytes a.stream.held b.stream.held [] given more
    (subst (λ (rest : List ℕ). Gives a.output.bytes a.stream.held given b.output.bytes rest) (moved.waits is) moved.gives) sent

nothing_behind : (out rest : List ℕ) → [] ≡ out ++ rest → rest ≡ []
nothing_behind [] rest e = sym e
nothing_behind (x ∷ out) rest e = absurd (omega (arith, ap length e))

-- nothing waited, and nothing was given
nothing_sent : (sent sent' : Option (List ℕ)) (held rest : List ℕ) → held ≡ [] → Gives sent held [] sent' rest → Gives sent held [] sent' []
nothing_sent sent sent' held rest empty gives =
    subst (λ (l : List ℕ). Gives sent held [] sent' l)
    (nothing_behind gives.out rest (sym (ap (λ (l : List ℕ). l ++ []) empty) ∙ gives.joined)) gives

-- what waited couldn't be written
pub fills_fault : {E : Type 0} (input out out' : Side) (old new : Buffers) (result : Result ℕ E) (P : E → Type 0) → IsErrAnd result P → old.waiting ≡ [] →
    Puts [] out old out' new → new.state ≢ Open →
    Fills (record { input = input; output = out; stream = old }) result (record { input = input; output = out'; stream = new })
fills_fault input out out' old new (Ok n) P is empty puts failed = absurd is
fills_fault input out out' old new (Err e) P is empty puts failed = record {
  moved = puts.moved input;
  tells = failed;
  count = tt;
  at_end = tt;
  nothing = puts.waiting ∙ empty;
  written = inl refl;
  emptied = tt;
}

-- then the input didn't fail
pub never_read : {X : Type 0} (out out' : Side) (old new : Buffers) → old.state ≡ Open → Puts [] out old out' new → new.state ≢ Open →
    new.state ≡ ReadFault → X
never_read out out' old new is puts failed read =
    let wrote : new.state ≡ WriteFault = write_failed out out' old new [] puts is failed in
    let both : ReadFault ≡ WriteFault = sym read ∙ wrote in
    absurd (cc)

-- what waited was written, and then the source was called
pub fills_on : {E : Type 0} (input out mid : Side) (old flushed : Buffers) (result : Result ℕ E) (read : Flow) → Puts [] out old mid flushed →
    Fills (record { input = input; output = mid; stream = flushed }) result read →
    Fills (record { input = input; output = out; stream = old }) result read
fills_on input out mid old flushed result read puts fills = record {
  moved = moved_on (record { input = input; output = out; stream = old }) (record { input = input; output = mid; stream = flushed }) read [] [] [] []
      (puts.moved input) fills.moved;
  tells = fills.tells;
  count = fills.count;
  at_end = fills.at_end;
  nothing = fills.nothing;
  written = fills.written;
  emptied = fills.emptied;
}

pub written_on : {E : Type 0} (input out mid : Side) (old flushed : Buffers) (result : Result ℕ E) (read : Flow) → Puts [] out old mid flushed →
    flushed.state ≡ Open → flushed.held ≡ [] → Fills (record { input = input; output = mid; stream = flushed }) result read →
    AllSent [] (record { input = input; output = out; stream = old }) read
written_on input out mid old flushed result read puts is empty fills =
    all_sent_on (record { input = input; output = out; stream = old }) (record { input = input; output = mid; stream = flushed }) read [] [] []
    (puts.moved input) is (nothing_sent mid.bytes read.output.bytes flushed.held fills.moved.rest empty fills.moved.gives)

-- a stream that had failed brings no line
pub seeks_none : {E : Type 0} (f : Flow) (text : List ℕ) (result : Result Came E) (P : E → Type 0) → IsErrAnd result P → f.stream.state ≢ Open → Seeks f result text f
seeks_none f text (Ok came) P is failed = absurd is
seeks_none f text (Err e) P is failed =
    record { taken = []; moved = moved_none f; tells = failed; comes = no_text; written = λ never read. absurd (never read) }

-- all that waited was taken, and no line ended in it
pub record Sought (before : Flow) (line : List ℕ) (now : Flow) : Type 0 where
  pub moved : Moved line [] before now
  pub text : IsText line
  pub going : now.stream.state ≡ Open
  pub empty : now.stream.waiting ≡ []

-- a piece without an end joins the line
joins : (line taken line' : List ℕ) → IsText line → Cuts line taken None line' → IsText line'
joins line taken line' text cuts =
    record { no_end = subst (λ (l : List ℕ). HasNo 10 l) (sym cuts.1) (has_no_append 10 line taken text.no_end cuts.0); short = cuts.2 }

-- a cut is a line's end, or there were too many bytes
comes_of : (E : Type 0) (line taken line' : List ℕ) (event : Cut) (after : Flow) → IsText line → Cuts line taken (Some event) line' →
    PieceComes {E = E} (line ++ taken) (Ok (came_of event)) line' after
comes_of E line taken line' cut.Line after text cuts = (
  ap (λ (l : List ℕ). line ++ l) cuts.1.0 ∙ sym (append_assoc line cuts.0 (10 ∷ [])) ∙ ap (λ (l : List ℕ). l ++ 10 ∷ []) (sym cuts.1.2),
  record { no_end = subst (λ (l : List ℕ). HasNo 10 l) (sym cuts.1.2) (has_no_append 10 line cuts.0 text.no_end cuts.1.1); short = cuts.1.3 },
)
comes_of E line taken line' cut.TooLong after text cuts = (
  sym cuts.1,
  subst (λ (l : List ℕ). HasNo 10 l) (sym cuts.1) (has_no_append 10 line taken text.no_end cuts.0),
  cuts.2,
)

still_reads : (f : Flow) {X : Type 0} → f.stream.state ≡ Open → f.stream.state ≡ ReadFault → X
still_reads f is read = let both : Open ≡ ReadFault = sym is ∙ read in absurd (cc)

module _ (f : Flow) (stream : Buffers) (going : f.stream.state ≡ Open) (same : stream ≡ record f.stream { waiting = stream.waiting }) where
  still_going : stream.state ≡ Open
  still_going = ap (λ (b : Buffers). b.state) same ∙ going

  pub seeks_first : {E : Type 0} (line line' : List ℕ) (event : Cut) → line ≡ [] → Feeds line f.stream.waiting (Some event) line' stream.waiting →
      Seeks {E = E} f (Ok (came_of event)) line' (record f { stream = stream })
  seeks_first {E} line line' event fresh feeds = record {
    taken = feeds.taken;
    moved = moved_split f stream feeds.taken going feeds.joined same;
    tells = still_going;
    comes = comes_of E [] feeds.taken line' event (record f { stream = stream }) no_text
        (subst (λ (l : List ℕ). Cuts l feeds.taken (Some event) line') fresh feeds.cuts);
    written = λ going read. still_reads (record f { stream = stream }) still_going read;
  }

  pub sought_first : (line line' : List ℕ) → line ≡ [] → Feeds line f.stream.waiting None line' stream.waiting → Sought f line' (record f { stream = stream })
  sought_first line line' fresh feeds =
      let cuts : Cuts [] feeds.taken None line' = subst (λ (l : List ℕ). Cuts l feeds.taken None line') fresh feeds.cuts in
      record {
        moved = subst (λ (l : List ℕ). Moved l [] f (record f { stream = stream })) (sym cuts.1) (moved_split f stream feeds.taken going feeds.joined same);
        text = joins [] feeds.taken line' no_text cuts;
        going = still_going;
        empty = feeds.whole;
      }

-- what was taken before
all_read : (before now read : Flow) (line : List ℕ) → Sought before line now → Moved [] [] now read → Moved line [] before read
all_read before now read line sought moved =
    subst (λ (taken : List ℕ). Moved taken [] before read) (append-nil line) (moved_on before now read line [] [] [] sought.moved moved)

module _ {E : Type 0} (before now read : Flow) (line : List ℕ) (sought : Sought before line now) where
  -- the stream failed
  pub seeks_fault : {F : Type 0} (e : F) (result : Result Came E) (P : E → Type 0) → IsErrAnd result P → Fills now (Err e) read →
      (read.stream.state ≡ ReadFault → AllSent [] now read) → Seeks before result line read
  seeks_fault e (Ok came) P is fills sent = absurd is
  seeks_fault e (Err failed) P is fills sent = record {
    taken = line;
    moved = all_read before now read line sought fills.moved;
    tells = fills.tells;
    comes = sought.text;
    written = λ going failing. all_sent_on before now read line [] [] sought.moved sought.going (sent failing);
  }

  -- the input ended
  pub seeks_end : (n : ℕ) → n ≡ 0 → Fills {E = E} now (Ok n) read → Seeks {E = E} before (Ok (end_of line)) line read
  seeks_end n is fills = record {
    taken = line;
    moved = all_read before now read line sought fills.moved;
    tells = fills.tells;
    comes = at_end line sought.text;
    written = λ going failing. still_reads read fills.tells failing;
  }
    where
      nothing : (xs : List ℕ) → length xs ≡ 0 → xs ≡ []
      nothing [] e = refl
      nothing (x ∷ xs) e = absurd (omega (arith, e))

      at_end : (l : List ℕ) → IsText l → PieceComes {E = E} l (Ok (end_of l)) l read
      at_end [] text = (refl, (fills.at_end is, nothing read.stream.waiting (sym fills.count ∙ is)))
      at_end (b ∷ l) text = (refl, text, (λ e. absurd (omega (arith, ap length e))), (fills.at_end is, nothing read.stream.waiting (sym fills.count ∙ is)))

  module _ (stream : Buffers) (n : ℕ) (line' : List ℕ) (fills : Fills {E = E} now (Ok n) read) (same : stream ≡ record read.stream { waiting = stream.waiting }) where
    more_taken : (event : Option Cut) (feeds : Feeds line read.stream.waiting event line' stream.waiting) →
        Moved (line ++ feeds.taken) [] before (record read { stream = stream })
    more_taken event feeds =
        moved_on before read (record read { stream = stream }) line [] feeds.taken [] (all_read before now read line sought fills.moved)
        (moved_split read stream feeds.taken fills.tells feeds.joined same)

    on_going : stream.state ≡ Open
    on_going = ap (λ (b : Buffers). b.state) same ∙ fills.tells

    -- what was read was fed, and there was a cut
    pub seeks_event : (event : Cut) → Feeds line read.stream.waiting (Some event) line' stream.waiting →
        Seeks {E = E} before (Ok (came_of event)) line' (record read { stream = stream })
    seeks_event event feeds = record {
      taken = line ++ feeds.taken;
      moved = more_taken (Some event) feeds;
      tells = on_going;
      comes = comes_of E line feeds.taken line' event (record read { stream = stream }) sought.text feeds.cuts;
      written = λ going failing. still_reads (record read { stream = stream }) on_going failing;
    }

    -- and there was none
    pub sought_more : Feeds line read.stream.waiting None line' stream.waiting → Sought before line' (record read { stream = stream })
    sought_more feeds = record {
      moved = subst (λ (l : List ℕ). Moved l [] before (record read { stream = stream })) (sym feeds.cuts.1) (more_taken None feeds);
      text = joins line feeds.taken line' sought.text feeds.cuts;
      going = on_going;
      empty = feeds.whole;
    }

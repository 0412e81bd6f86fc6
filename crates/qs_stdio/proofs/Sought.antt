-- The next event is sought, piece by piece.
use Rattle.std.proofs.Common.{◌≡◌, ◌≢◌, ℕ, ◌<◌, ◌≤◌, inl, Bool, List, [], ◌∷◌, ◌++◌, length, refl, sym, ap, ◌∙◌, subst, arith, append-nil}
use Rattle.std.specs.Prelude.{Option, None, Some, Result, Ok, Err, IsErrAnd}
use Rattle.qs_nbd_transmission.specs.Heads.{IsHeadFront}
use Rattle.qs_nbd_transmission.specs.Phases.{Phase, Reader, Reaches, InHead, Wants, Fills as Filling, Skips, Over, Stuck}
use Rattle.qs_nbd_transmission.specs.declared.event.WireEvent.{WireEvent}
use Rattle.qs_nbd_transmission.proofs.Reading.{reaches_on}
use Rattle.qs_stream.specs.declared.state.State.TheVariants.{Open}
use Rattle.qs_stream.specs.Buffers.{Buffers}
use Rattle.qs_stream.specs.Flows.{Flow, Moved, Fills}
use Rattle.qs_stream.proofs.Moves.{moved_on, moved_none, moved_split}
use Rattle.qs_stdio.specs.Events.{Feeds, Seeks}
use Rattle.qs_stdio.specs.Scenes.{IsMessageFront}
use Rattle.qs_stdio.specs.declared.session.Came.{Came}
use Rattle.qs_stdio.specs.Turns.{Asking, IsFilling, awaited}

-- all that waited was taken, and brought no event
pub record Sought (old new : Reader) (before now : Flow) : Type 0 where
  pub taken : List ℕ
  pub moved : Moved taken [] before now
  pub going : now.stream.state ≡ Open
  pub empty : now.stream.waiting ≡ []
  pub reaches : Reaches old.structured old.phase taken None new.phase
  pub mode : new.structured ≡ old.structured

module _ (old new : Reader) (f : Flow) (stream : Buffers) (going : f.stream.state ≡ Open) (same : stream ≡ record f.stream { waiting = stream.waiting }) where
  -- what waited was fed
  fed : (found : Option WireEvent) (feeds : Feeds old f.stream.waiting found new stream.waiting) → Moved feeds.taken [] f (record f { stream = stream })
  fed found feeds = moved_split f stream feeds.taken going feeds.joined same

  still_going : stream.state ≡ Open
  still_going = ap (λ (b : Buffers). b.state) same ∙ going

  pub seeks_first : {E : Type 0} (found : WireEvent) → Feeds old f.stream.waiting (Some found) new stream.waiting →
      Seeks {E = E} old f (Ok (Some found)) new (record f { stream = stream })
  seeks_first found feeds = record {
    taken = feeds.taken;
    moved = fed (Some found) feeds;
    tells = still_going;
    finds = feeds.reaches;
    mode = feeds.mode;
  }

  pub sought_first : Feeds old f.stream.waiting None new stream.waiting → Sought old new f (record f { stream = stream })
  sought_first feeds = record {
    taken = feeds.taken;
    moved = fed None feeds;
    going = still_going;
    empty = feeds.whole;
    reaches = feeds.reaches;
    mode = feeds.mode;
  }

-- what was taken before
all_read : (old mid : Reader) (before now read : Flow) (sought : Sought old mid before now) → Moved [] [] now read → Moved sought.taken [] before read
all_read old mid before now read sought moved =
    subst (λ (taken : List ℕ). Moved taken [] before read) (append-nil sought.taken) (moved_on before now read sought.taken [] [] [] sought.moved moved)

module _ {E : Type 0} (old mid new : Reader) (before now read : Flow) (sought : Sought old mid before now) where
  -- the stream failed
  pub seeks_fault : {F : Type 0} (e : F) (result : Result (Option WireEvent) E) (P : E → Type 0) → IsErrAnd result P → Fills now (Err e) read →
      Seeks old before result mid read
  seeks_fault e (Ok found) P is fills = absurd is
  seeks_fault e (Err failed) P is fills = record {
    taken = sought.taken;
    moved = all_read old mid before now read sought fills.moved;
    tells = fills.tells;
    finds = sought.reaches;
    mode = sought.mode;
  }

  -- the input ended
  pub seeks_end : (n : ℕ) → n ≡ 0 → Fills {E = E} now (Ok n) read → Seeks {E = E} old before (Ok None) mid read
  seeks_end n is fills = record {
    taken = sought.taken;
    moved = all_read old mid before now read sought fills.moved;
    tells = fills.tells;
    finds = (sought.reaches, (fills.at_end is, nothing read.stream.waiting (sym fills.count ∙ is)));
    mode = sought.mode;
  }
    where
      nothing : (xs : List ℕ) → length xs ≡ 0 → xs ≡ []
      nothing [] e = refl
      nothing (x ∷ xs) e = absurd (omega (arith, e))

  module _ (stream : Buffers) (n : ℕ) (fills : Fills {E = E} now (Ok n) read) (same : stream ≡ record read.stream { waiting = stream.waiting }) where
    all_taken : (found : Option WireEvent) (feeds : Feeds mid read.stream.waiting found new stream.waiting) →
        Moved (sought.taken ++ feeds.taken) [] before (record read { stream = stream })
    all_taken found feeds =
        moved_on before read (record read { stream = stream }) sought.taken [] feeds.taken [] (all_read old mid before now read sought fills.moved)
        (moved_split read stream feeds.taken fills.tells feeds.joined same)

    all_reached : (found : Option WireEvent) (feeds : Feeds mid read.stream.waiting found new stream.waiting) →
        Reaches old.structured old.phase (sought.taken ++ feeds.taken) found new.phase
    all_reached found feeds =
        reaches_on old.structured old.phase mid.phase new.phase sought.taken feeds.taken found sought.reaches
        (subst (λ (s : Bool). Reaches s mid.phase feeds.taken found new.phase) sought.mode feeds.reaches)

    -- what was read was fed, and brought an event
    pub seeks_event : (found : WireEvent) → Feeds mid read.stream.waiting (Some found) new stream.waiting →
        Seeks {E = E} old before (Ok (Some found)) new (record read { stream = stream })
    seeks_event found feeds = record {
      taken = sought.taken ++ feeds.taken;
      moved = all_taken (Some found) feeds;
      tells = ap (λ (b : Buffers). b.state) same ∙ fills.tells;
      finds = all_reached (Some found) feeds;
      mode = feeds.mode ∙ sought.mode;
    }

    -- and brought none
    pub sought_more : Feeds mid read.stream.waiting None new stream.waiting → Sought old new before (record read { stream = stream })
    sought_more feeds = record {
      taken = sought.taken ++ feeds.taken;
      moved = all_taken None feeds;
      going = ap (λ (b : Buffers). b.state) same ∙ fills.tells;
      empty = feeds.whole;
      reaches = all_reached None feeds;
      mode = feeds.mode ∙ sought.mode;
    }

pub nothing_front : IsHeadFront []
nothing_front = record { short = omega arith; magic = λ (four : 4 ≤ 0). absurd (omega arith) }

-- what was taken before the next event is less than a message
pub front_of : (structured : Bool) (taken : List ℕ) (new : Phase) → Reaches structured (InHead []) taken None new → IsMessageFront taken
front_of structured taken (InHead held) reaches = inl (subst (λ (bytes : List ℕ). IsHeadFront bytes) reaches.0 reaches.1)
front_of structured taken (Wants h) reaches = absurd reaches
front_of structured taken (Filling h got) reaches = absurd reaches
front_of structured taken (Skips h left) reaches = absurd reaches
front_of structured taken Over reaches = absurd reaches
front_of structured taken (Stuck bad) reaches = absurd reaches

-- and less than the data that are awaited
pub less_data : (structured : Bool) (old new : Phase) (taken : List ℕ) → IsFilling old → Reaches structured old taken None new →
    length taken < awaited old
less_data s (Filling h []) (Filling same got) taken filling reaches = subst (λ (bytes : List ℕ). length bytes < h.size) reaches.1 reaches.2
less_data s (Filling h []) (InHead held) taken filling reaches = absurd reaches
less_data s (Filling h []) (Wants other) taken filling reaches = absurd reaches
less_data s (Filling h []) (Skips other left) taken filling reaches = absurd reaches
less_data s (Filling h []) Over taken filling reaches = absurd reaches
less_data s (Filling h []) (Stuck bad) taken filling reaches = absurd reaches
less_data s (Filling h (b ∷ got)) new taken filling reaches = absurd filling
less_data s (Skips h left) (Skips same fewer) taken filling reaches = omega (arith, filling.0, reaches.1, reaches.2)
less_data s (Skips h left) (InHead held) taken filling reaches = absurd reaches
less_data s (Skips h left) (Wants other) taken filling reaches = absurd reaches
less_data s (Skips h left) (Filling other got) taken filling reaches = absurd reaches
less_data s (Skips h left) Over taken filling reaches = absurd reaches
less_data s (Skips h left) (Stuck bad) taken filling reaches = absurd reaches
less_data s (InHead held) new taken filling reaches = absurd filling
less_data s (Wants h) new taken filling reaches = absurd filling
less_data s Over new taken filling reaches = absurd filling
less_data s (Stuck bad) new taken filling reaches = absurd filling

-- a stream that had failed brings no request
pub asks_fault : {E : Type 0} (structured : Bool) (f : Flow) (reader : Reader) (result : Result Came E) (P : E → Type 0) → IsErrAnd result P → f.stream.state ≢ Open →
    Asking structured f result reader f
asks_fault structured f reader (Ok told) P is failed = absurd is
asks_fault structured f reader (Err e) P is failed = record { taken = []; moved = moved_none f; tells = failed; comes = inl nothing_front }

-- The next event is sought, piece by piece.
use Rattle.std.proofs.Common.{◌≡◌, ℕ, ◌-◌, List, [], ◌∷◌, ◌++◌, length, refl, sym, ap, ◌∙◌, subst, arith, append-nil}
use Rattle.std.specs.Prelude.{Option, None, Some, Result, Ok, Err, IsErrAnd}
use Rattle.qs_nbd_handshake.specs.Phases.{Phase, Reader, Reaches, InFlags, InOption}
use Rattle.qs_nbd_handshake.specs.declared.event.HandEvent.{HandEvent}
use Rattle.qs_nbd_handshake.proofs.Reading.{joins_pieces}
use Rattle.qs_stream.specs.declared.state.State.TheVariants.{Open}
use Rattle.qs_stream.specs.Buffers.{Buffers}
use Rattle.qs_stream.specs.Flows.{Flow, Moved, Fills}
use Rattle.qs_stream.proofs.Moves.{moved_on, moved_split}
use Rattle.qs_opening.specs.Events.{Feeds, Seeks}

-- all that waited was taken, and brought no event
pub record Sought (old new : Reader) (before now : Flow) : Type 0 where
  pub taken : List ℕ
  pub moved : Moved taken [] before now
  pub going : now.stream.state ≡ Open
  pub empty : now.stream.waiting ≡ []
  pub reaches : Reaches old taken None new

module _ (old new : Reader) (f : Flow) (stream : Buffers) (going : f.stream.state ≡ Open) (same : stream ≡ record f.stream { waiting = stream.waiting }) where
  -- what waited was fed
  fed : (found : Option HandEvent) (feeds : Feeds old f.stream.waiting found new stream.waiting) → Moved feeds.taken [] f (record f { stream = stream })
  fed found feeds = moved_split f stream feeds.taken going feeds.joined same

  still_going : stream.state ≡ Open
  still_going = ap (λ (b : Buffers). b.state) same ∙ going

  pub seeks_first : {E : Type 0} (found : HandEvent) → Feeds old f.stream.waiting (Some found) new stream.waiting →
      Seeks {E = E} old f (Ok (Some found)) new (record f { stream = stream })
  seeks_first found feeds = record {
    taken = feeds.taken;
    moved = fed (Some found) feeds;
    tells = still_going;
    finds = feeds.reaches;
  }

  pub sought_first : Feeds old f.stream.waiting None new stream.waiting → Sought old new f (record f { stream = stream })
  sought_first feeds = record {
    taken = feeds.taken;
    moved = fed None feeds;
    going = still_going;
    empty = feeds.whole;
    reaches = feeds.reaches;
  }

-- what was taken before
all_read : (old mid : Reader) (before now read : Flow) (sought : Sought old mid before now) → Moved [] [] now read → Moved sought.taken [] before read
all_read old mid before now read sought moved =
    subst (λ (taken : List ℕ). Moved taken [] before read) (append-nil sought.taken) (moved_on before now read sought.taken [] [] [] sought.moved moved)

module _ {E : Type 0} (old mid new : Reader) (before now read : Flow) (sought : Sought old mid before now) where
  -- the stream failed
  pub seeks_fault : {F : Type 0} (e : F) (result : Result (Option HandEvent) E) (P : E → Type 0) → IsErrAnd result P → Fills now (Err e) read →
      Seeks old before result mid read
  seeks_fault e (Ok found) P is fills = absurd is
  seeks_fault e (Err failed) P is fills = record {
    taken = sought.taken;
    moved = all_read old mid before now read sought fills.moved;
    tells = fills.tells;
    finds = sought.reaches;
  }

  -- the input ended
  pub seeks_end : (n : ℕ) → n ≡ 0 → Fills {E = E} now (Ok n) read → Seeks {E = E} old before (Ok None) mid read
  seeks_end n is fills = record {
    taken = sought.taken;
    moved = all_read old mid before now read sought fills.moved;
    tells = fills.tells;
    finds = (sought.reaches, (fills.at_end is, nothing read.stream.waiting (sym fills.count ∙ is)));
  }
    where
      nothing : (xs : List ℕ) → length xs ≡ 0 → xs ≡ []
      nothing [] e = refl
      nothing (x ∷ xs) e = absurd (omega (arith, e))

  module _ (stream : Buffers) (n : ℕ) (fills : Fills {E = E} now (Ok n) read) (same : stream ≡ record read.stream { waiting = stream.waiting }) where
    all_taken : (found : Option HandEvent) (feeds : Feeds mid read.stream.waiting found new stream.waiting) →
        Moved (sought.taken ++ feeds.taken) [] before (record read { stream = stream })
    all_taken found feeds =
        moved_on before read (record read { stream = stream }) sought.taken [] feeds.taken [] (all_read old mid before now read sought fills.moved)
        (moved_split read stream feeds.taken fills.tells feeds.joined same)

    all_reached : (found : Option HandEvent) (feeds : Feeds mid read.stream.waiting found new stream.waiting) →
        Reaches old (sought.taken ++ feeds.taken) found new
    all_reached found feeds = joins_pieces old mid new sought.taken feeds.taken found sought.reaches feeds.reaches

    -- what was read was fed, and brought an event
    pub seeks_event : (found : HandEvent) → Feeds mid read.stream.waiting (Some found) new stream.waiting →
        Seeks {E = E} old before (Ok (Some found)) new (record read { stream = stream })
    seeks_event found feeds = record {
      taken = sought.taken ++ feeds.taken;
      moved = all_taken (Some found) feeds;
      tells = ap (λ (b : Buffers). b.state) same ∙ fills.tells;
      finds = all_reached (Some found) feeds;
    }

    -- and brought none
    pub sought_more : Feeds mid read.stream.waiting None new stream.waiting → Sought old new before (record read { stream = stream })
    sought_more feeds = record {
      taken = sought.taken ++ feeds.taken;
      moved = all_taken None feeds;
      going = ap (λ (b : Buffers). b.state) same ∙ fills.tells;
      empty = feeds.whole;
      reaches = all_reached None feeds;
    }

-- how many bytes may still be taken of the next message, at most
abbrev pub need : Phase → ℕ
need (InFlags held) = 65552 - length held
need (InOption held) = 65552 - length held
need other = 0

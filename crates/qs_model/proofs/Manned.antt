-- Each taken place is a request's, after a step too.
use Rattle.std.proofs.Common.{◌≡◌, ◌≢◌, ℕ, ◌⊎◌, inl, inr, Bool, List, refl, sym, ◌∙◌, subst}
use Rattle.std.specs.List.{slice_set}
use Rattle.qs_part.specs.declared.tracker.TrackerOp.TheVariants.{Start}
use Rattle.qs_part.specs.declared.tracker.TrackerReply.TheVariants.{Started}
use Rattle.qs_tracker.specs.declared.seat.Seat.{Seat}
use Rattle.qs_tracker.specs.declared.seat.Seat.TheVariants.{Vacant, Present, Has}
use Rattle.qs_tracker.specs.Seats.{seat_at}
use Rattle.qs_tracker.specs.Table.{TrackerValue, going, numbered, MayStart, May as TrackerMay}
use Rattle.qs_tracker.specs.History.{SameSeat}
use Rattle.qs_tracker.proofs.Rows.{numbered_seat, seat_here, seat_other, taken_inside}
use Rattle.qs_model.specs.Requests.{Client, Pads, Stage}
use Rattle.qs_model.specs.Worlds.{World}
use Rattle.qs_model.specs.Acts.{Act, Answers, Waits, Enters, Routes, Shuts, Lists, Starts, Loads, LoadFails, Holds, HoldFails, Stores, StoreFails, Syncs, Cleans, SyncFails, Frees, Ends}
use Rattle.qs_model.specs.Guards.{MayDo}
use Rattle.qs_model.specs.Steps.{moved, tracked}
use Rattle.qs_model.proofs.Basics.{same_or}
use Rattle.qs_model.proofs.Facts.{IsAt}
use Rattle.qs_model.proofs.Holders.{HasMoved}

-- the row takes place j
abbrev pub Takes : {stage : Stage} → Act stage → ℕ → Type 0
Takes (Enters k) j = j ≡ k
Takes _ j = ⊥

pub same_taken_before : (s t : Seat) → SameSeat s t → t ≢ Vacant → s ≢ Vacant
same_taken_before Vacant Vacant same taken is = taken refl
same_taken_before Vacant Present same taken is = same
same_taken_before Vacant (Has m) same taken is = same
same_taken_before Present t same taken is = cc
same_taken_before (Has l) t same taken is = cc

pub unset : (seats : List Seat) (k j : ℕ) (s : Seat) → j ≢ k → seat_at (slice_set seats k s) j ≢ Vacant → seat_at seats j ≢ Vacant
unset seats k j s other taken is = taken (seat_other seats k s j other ∙ is)

-- a place that was taken, by the place of the row
pub taken_at : (t : TrackerValue) (j k : ℕ) → seat_at t.seats k ≢ Vacant → j ≡ k → seat_at t.seats j ≢ Vacant
taken_at t j k taken e = subst (λ (i : ℕ). seat_at t.seats i ≢ Vacant) (sym e) taken

-- a request that starts has a span
pub start_taken : (t : TrackerValue) (k : ℕ) → TrackerMay t (Start k) Started → seat_at t.seats k ≢ Vacant
start_taken t k may is = subst (λ (s : Seat). MayStart t.seats s Started) is may

-- a place that is free after its End
pub end_free : (seats : List Seat) (k : ℕ) → seat_at seats k ≢ Vacant → seat_at (slice_set seats k Vacant) k ≡ Vacant
end_free seats k taken = seat_here seats k Vacant (taken_inside seats k taken)

-- a place that is taken was taken before, or is taken now
pub taken_before : (A : ℕ) (w : World) (c : Client) (p : Pads) {stage : Stage} (act : Act stage) (j : ℕ) → MayDo A w c p act →
    seat_at (tracked A w.tracker c act).seats j ≢ Vacant → (seat_at w.tracker.seats j ≢ Vacant) ⊎ Takes act j
taken_before A w c p (Enters k) j may taken = elim (same_or j k) [ inl e ↦ inr e | inr n ↦ inl (unset w.tracker.seats k j Present n taken) ]
taken_before A w c p (Lists {k = k} n) j may taken = inl (elim (same_or j k) [
  | inl e ↦ taken_at w.tracker j k (λ is. let g : seat_at w.tracker.seats k ≡ Present = may.0 in cc) e
  | inr other ↦ same_taken_before _ _ (numbered_seat w.tracker j) (unset (numbered w.tracker).seats k j _ other taken)
])
taken_before A w c p (Starts {k = k}) j may taken = inl (elim (same_or j k) [
  | inl e ↦ taken_at w.tracker j k (start_taken w.tracker k may) e
  | inr n ↦ unset w.tracker.seats k j (going (seat_at w.tracker.seats k)) n taken
])
taken_before A w c p (Ends {k = k}) j may taken = inl (elim (same_or j k) [
  | inl e ↦ taken_at w.tracker j k may e
  | inr n ↦ unset w.tracker.seats k j Vacant n taken
])
taken_before A w c p _ j may taken = inl taken

-- the request's own place stays its own until its End
pub own_stays : (A : ℕ) (w : World) (c : Client) (d : Bool) (p : Pads) {stage : Stage} (act : Act stage) (j : ℕ) → MayDo A w c p act → IsAt stage j →
    seat_at (tracked A w.tracker c act).seats j ≢ Vacant → HasMoved (λ q. IsAt q.stage j) (moved A c d p act)
own_stays A w c d p Answers j may at taken = at
own_stays A w c d p (Waits wait) j may at taken = at
own_stays A w c d p (Enters k) j may at taken = absurd at
own_stays A w c d p (Routes route) j may at taken = at
own_stays A w c d p Shuts j may at taken = at
own_stays A w c d p (Lists n) j may at taken = at
own_stays A w c d p Starts j may at taken = at
own_stays A w c d p (Loads bytes) j may at taken = at
own_stays A w c d p LoadFails j may at taken = at
own_stays A w c d p (Holds bytes) j may at taken = at
own_stays A w c d p HoldFails j may at taken = at
own_stays A w c d p (Stores bytes past) j may at taken = at
own_stays A w c d p (StoreFails bytes took past) j may at taken = at
own_stays A w c d p Syncs j may at taken = at
own_stays A w c d p Cleans j may at taken = at
own_stays A w c d p SyncFails j may at taken = at
own_stays A w c d p Frees j may at taken = at
own_stays A w c d p (Ends {k = k}) j may at taken = taken (subst (λ (i : ℕ). seat_at (slice_set w.tracker.seats k Vacant) i ≡ Vacant) at (end_free w.tracker.seats k may))

pub own_takes : (A : ℕ) (c : Client) (d : Bool) (p : Pads) {stage : Stage} (act : Act stage) (j : ℕ) → Takes act j → HasMoved (λ q. IsAt q.stage j) (moved A c d p act)
own_takes A c d p (Enters k) j takes = sym takes
own_takes A c d p _ j takes = absurd takes

-- Every step but the making of an export, a planned failure and a crash is an event's, with its outcome.
use Rattle.std.proofs.Common.{◌≡◌, ℕ, ◌⊎◌, inl, inr, Bool, List, length, Option, Some, None, refl, sym, ◌∙◌, true≢false}
use Rattle.std.specs.Prelude.{replicate}
use Rattle.std.proofs.lemmas.List.{length-replicate}
use Rattle.qs_part.specs.declared.event.Actor.TheVariants.{Session as ASession, Request as ARequest}
use Rattle.qs_part.specs.declared.event.Event.{Event}
use Rattle.qs_part.specs.declared.event.Event.TheVariants.{Attach, Leave, Ask as AskEvent, Step as StepEvent}
use Rattle.qs_part.specs.declared.event.Outcome.{Outcome}
use Rattle.qs_model.specs.Requests.{brings_bytes, Client, Pads, Stage, ToList, ToStart, ToHold, ToStore, ToFree, ToEnd, Entering, In}
use Rattle.qs_model.specs.Worlds.{World}
use Rattle.qs_model.specs.Acts.{Act, Answers, Waits, Enters, Routes, Shuts, Lists, Starts, Loads, LoadFails, Holds, HoldFails, Stores, StoreFails, Syncs, Cleans, SyncFails, Frees, Ends, Wait, Quiesced, Full, NotYet, HeldBy, Taken, Strange, NotHeld, Element, Attached, NoExport, Crowded, Left, Detached, NotAttached, Asked, Did, Exported, Planned, Crashed}
use Rattle.qs_model.specs.Guards.{CanAsk, MayWait, MayDo, CanCome}
use Rattle.qs_model.specs.Steps.{world_after, Runs}
use Rattle.qs_model.specs.Events.{BringsBytes, row_outcome, moved_out, wait_note, outcome_of, IsEvent}
use Rattle.qs_model.specs.Laws.{Evented, IsOutside}
use Rattle.qs_model.proofs.Basics.{either}
use Rattle.qs_model.proofs.Kept.{split_run}

-- an answer that leaves a request where it is has its note
pub wait_outcome : (A : ℕ) (w : World) (c : Client) (stage : Stage) (wait : Wait) → MayWait A w c stage wait → (out : Outcome) × (moved_out (wait_note A c stage wait) ≡ Some out)
wait_outcome A w c Entering Quiesced may = (_, refl)
wait_outcome A w c Entering Full may = (_, refl)
wait_outcome A w c (In k ToList) Strange may = (_, refl)
wait_outcome A w c (In k ToStart) (NotYet n) may = (_, refl)
wait_outcome A w c (In k ToStart) Strange may = (_, refl)
wait_outcome A w c (In k (ToHold side)) (HeldBy j) may = (_, refl)
wait_outcome A w c (In k (ToHold side)) (Taken b) may = (_, refl)
wait_outcome A w c (In k (ToStore b)) (HeldBy j) may = (_, refl)
wait_outcome A w c (In k (ToFree side)) NotHeld may = (_, refl)
wait_outcome A w c (In k (ToEnd v)) Strange may = (_, refl)
wait_outcome A w c _ _ may = absurd may

pub act_outcome : (A : ℕ) (w : World) (c : Client) (d : Bool) (p : Pads) {stage : Stage} (act : Act stage) → MayDo A w c p act → (out : Outcome) × (row_outcome A c d act ≡ Some out)
act_outcome A w c d p Answers may = (_, refl)
act_outcome A w c d p (Waits {stage = stage} wait) may = wait_outcome A w c stage wait may
act_outcome A w c d p (Enters k) may = (_, refl)
act_outcome A w c d p (Routes route) may = (_, refl)
act_outcome A w c d p Shuts may = (_, refl)
act_outcome A w c d p (Lists n) may = (_, refl)
act_outcome A w c d p Starts may = (_, refl)
act_outcome A w c d p (Loads bytes) may = (_, refl)
act_outcome A w c d p LoadFails may = (_, refl)
act_outcome A w c d p (Holds bytes) may = (_, refl)
act_outcome A w c d p HoldFails may = (_, refl)
act_outcome A w c d p (Stores bytes past) may = (_, refl)
act_outcome A w c d p (StoreFails bytes took past) may = (_, refl)
act_outcome A w c d p Syncs may = (_, refl)
act_outcome A w c d p Cleans may = (_, refl)
act_outcome A w c d p SyncFails may = (_, refl)
act_outcome A w c d p Frees may = (_, refl)
act_outcome A w c d p Ends may = (_, refl)

-- the body that came with a request
asked_brings : (w : World) (r : ℕ) (c : Client) → CanAsk w r c → (body : Option (List ℕ)) × BringsBytes body c
asked_brings w r c can = elim (either (brings_bytes c.ask.kind)) [
  | inl writing ↦ elim (either c.buffered) [
    | inl given ↦ whole (can.body writing given)
    | inr refused ↦ elim (can.refused writing refused) [
      | inl empty ↦ (None, record { wanted = inr refused; empty = empty })
      | inr length_is ↦ whole length_is
    ]
  ]
  | inr bare ↦ elim (either c.buffered) [
    | inl given ↦ (Some (replicate c.ask.length 0), inl (length-replicate c.ask.length 0, λ writing. absurd (true≢false (sym writing ∙ bare))))
    | inr refused ↦ (None, record { wanted = inr refused; empty = can.other bare })
  ]
]
  where
    whole : length c.body ≡ c.ask.length → (body : Option (List ℕ)) × BringsBytes body c
    whole is = (Some c.body, inl (is, λ writing. refl))

-- a step of an event, with its outcome
abbrev pub Told : ℕ → Element → Type 0
Told A e = (event : Event) × (outcome : Outcome) × (IsEvent event e × (outcome_of A e ≡ Some outcome))

pub step_evented : (A : ℕ) (w : World) (e : Element) → CanCome A w e → IsOutside e ⊎ Told A e
step_evented A w (Attached s name info) may = inr (Attach s name, _, ((refl, refl), refl))
step_evented A w (NoExport s name) may = inr (Attach s name, _, ((refl, refl), refl))
step_evented A w (Crowded s name) may = inr (Attach s name, _, ((refl, refl), refl))
step_evented A w (Left s e) may = inr (Leave s, _, (refl, refl))
step_evented A w (Detached s e) may = inr (StepEvent (ASession s) 0, _, (refl, refl))
step_evented A w (NotAttached s e) may = inr (StepEvent (ASession s) 0, _, (refl, refl))
step_evented A w (Asked r c) may = let (body, brings) = asked_brings w r c may in inr (AskEvent c.session c.ask body, _, ((refl, refl, brings), refl))
step_evented A w (Did r q act) may =
    let (out, is) = act_outcome A w q.client q.dropped q.pads act may.1 in
    inr (StepEvent (ARequest r) 0, out, (refl, is))
step_evented A w (Exported op e) may = inl tt
step_evented A w (Planned j fail) may = inl tt
step_evented A w (Crashed left) may = inl tt

-- the law
pub evented : (A : ℕ) (w : World) (es : List Element) → Runs A w es → Evented A es
evented A w es run before e at = step_evented A (world_after A w before) e (split_run A w es before e run at).1

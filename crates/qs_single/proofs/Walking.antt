-- The disks along calls that are events: they are the same ones, and a step in which a disk failed raised its count.
use Rattle.std.proofs.Common.{◌≡◌, ℕ, ◌≤◌, Bool, false, List, [], ◌∷◌, ◌++◌, refl, sym, ap, subst, ◌∙◌, arith}
use Rattle.std.specs.Prelude.{All, Option, Some}
use Rattle.std.specs.List.{AllByRecursion}
use Rattle.std.proofs.lemmas.List.Elements.{All-head, All-tail}
use Rattle.qs_outside.specs.Blocks.{Seen}
use Rattle.qs_outside.specs.Faults.{Rose}
use Rattle.qs_image.specs.Image.{SameDisks, disk}
use Rattle.qs_part.specs.declared.event.Event.{Event}
use Rattle.qs_part.specs.declared.event.Note.{Note}
use Rattle.qs_part.specs.declared.event.NoteReply.TheVariants.{Stripe}
use Rattle.qs_part.specs.declared.event.Outcome.{Outcome}
use Rattle.qs_part.specs.declared.event.Outcome.TheVariants.{Moved}
use Rattle.qs_part.specs.declared.event.StripeNote.TheVariants.{Fault}
use Rattle.qs_model.specs.Acts.{Act, Answers, Waits, Enters, Routes, Shuts, Lists, Starts, Loads, LoadFails, Holds, HoldFails, Stores, StoreFails, Syncs, Cleans, SyncFails, Frees, Ends, Element, Asked, Did}
use Rattle.qs_model.specs.Events.{outcome_of, row_outcome}
use Rattle.qs_model.specs.Laws.{ComesBehind}
use Rattle.qs_model.specs.Requests.{Client, Stage}
use Rattle.qs_alone.specs.Alone.{FailsOn, FailsRow, IsOff, IsOffRow, IsWaitStep, IsWaitRow}
use Rattle.qs_world.specs.Events.{IsCaused, calls_stripe, stripe_by}
use Rattle.qs_world.specs.Images.{stripe_at}
use Rattle.qs_world.specs.Values.{WorldValue, disks_of, stripes_of}
use Rattle.qs_world.proofs.SameDisks.{disk_at}
use Rattle.qs_calls.specs.Calls.{Call, Happened, Rigged, PowerFailed, ExportMade, MakesStep, Walks}
use Rattle.qs_calls.specs.Goings.{GoesOn}

-- all of these calls are events
abbrev pub AreEvents : List Call → Type 0
AreEvents [] = Unit {0}
AreEvents (Happened event outcome ∷ cs) = AreEvents cs
AreEvents (Rigged stripe fail ∷ cs) = ⊥
AreEvents (PowerFailed choice left ∷ cs) = ⊥
AreEvents (ExportMade op place ∷ cs) = ⊥

pub run_events : (made : Event) (front : List Call) (last : Outcome) → All (GoesOn made) front → AreEvents (front ++ Happened made last ∷ [])
run_events made [] last on = tt
run_events made (c ∷ cs) last on =
    let goes = All-head (GoesOn made) c cs on in
    subst (λ (d : Call). AreEvents (d ∷ (cs ++ Happened made last ∷ []))) (sym goes.is) (run_events made cs last (All-tail (GoesOn made) c cs on))

pub same_then : (old mid new : List Seen) → SameDisks old mid → SameDisks mid new → SameDisks old new
same_then old mid new first then = record {
  count = then.count ∙ first.count;
  stripe = λ k. then.stripe k ∙ first.stripe k;
  align = λ k. then.align k ∙ first.align k;
  size = λ k. then.size k ∙ first.size k;
  tells = λ k. then.tells k ∙ first.tells k;
  later = λ k. let a = first.later k in let b = then.later k in omega (arith, a, b);
}

same_self : (disks : List Seen) → SameDisks disks disks
same_self disks = record { count = refl; stripe = λ k. refl; align = λ k. refl; size = λ k. refl; tells = λ k. refl; later = λ k. omega arith }

cons_head : (x y : Element) (xs ys : List Element) → x ∷ xs ≡ y ∷ ys → x ≡ y
cons_head x y xs ys e = cc

cons_tail : (x y : Element) (xs ys : List Element) → x ∷ xs ≡ y ∷ ys → xs ≡ ys
cons_tail x y xs ys e = cc

nil_cons : (y : Element) (ys : List Element) → [] ≡ y ∷ ys → ⊥
nil_cons y ys e = cc

pub walk_disks : {D : Type 0} (seen : D → Seen) (w : WorldValue D) (cs : List Call) (es : List Element) (fulls : List (ℕ → Option Bool)) (w' : WorldValue D) →
    AreEvents cs → Walks seen w cs es fulls w' → SameDisks (disks_of seen w) (disks_of seen w')
walk_disks {D} seen w [] [] [] w' are walks = subst (λ (x : WorldValue D). SameDisks (disks_of seen w) (disks_of seen x)) (sym walks) (same_self (disks_of seen w))
walk_disks seen w (Happened event outcome ∷ cs) (e ∷ es) (full ∷ fulls) w' are walks =
    same_then (disks_of seen w) (disks_of seen walks.1) (disks_of seen w') walks.2.0.2.disks (walk_disks seen walks.1 cs es fulls w' are walks.2.1)
walk_disks seen w (Rigged stripe fail ∷ cs) es fulls w' are walks = absurd are
walk_disks seen w (PowerFailed choice left ∷ cs) es fulls w' are walks = absurd are
walk_disks seen w (ExportMade op place ∷ cs) es fulls w' are walks = absurd are
walk_disks seen w [] (e ∷ es) fulls w' are walks = absurd walks
walk_disks seen w [] [] (full ∷ fulls) w' are walks = absurd walks
walk_disks seen w (Happened event outcome ∷ cs) [] fulls w' are walks = absurd walks
walk_disks seen w (Happened event outcome ∷ cs) (e ∷ es) [] w' are walks = absurd walks

pub walk_shape : {D : Type 0} (seen : D → Seen) (w : WorldValue D) (cs : List Call) (es : List Element) (fulls : List (ℕ → Option Bool)) (w' : WorldValue D) →
    AreEvents cs → Walks seen w cs es fulls w' → w'.shape ≡ w.shape
walk_shape {D} seen w [] [] [] w' are walks = ap (λ (x : WorldValue D). x.shape) walks
walk_shape seen w (Happened event outcome ∷ cs) (e ∷ es) (full ∷ fulls) w' are walks =
    walk_shape seen walks.1 cs es fulls w' are walks.2.1 ∙ walks.2.0.0.shape_kept
walk_shape seen w (Rigged stripe fail ∷ cs) es fulls w' are walks = absurd are
walk_shape seen w (PowerFailed choice left ∷ cs) es fulls w' are walks = absurd are
walk_shape seen w (ExportMade op place ∷ cs) es fulls w' are walks = absurd are
walk_shape seen w [] (e ∷ es) fulls w' are walks = absurd walks
walk_shape seen w [] [] (full ∷ fulls) w' are walks = absurd walks
walk_shape seen w (Happened event outcome ∷ cs) [] fulls w' are walks = absurd walks
walk_shape seen w (Happened event outcome ∷ cs) (e ∷ es) [] w' are walks = absurd walks

-- a rise within a run is a rise of the run
rose_later : (a b c : ℕ) → Rose a b → b ≤ c → Rose a c
rose_later a b c rose later = omega (arith, rose, later)

rose_before : (a b c : ℕ) → a ≤ b → Rose b c → Rose a c
rose_before a b c before rose = omega (arith, before, rose)

-- what a step in which a disk failed is answered
pub record HasFault (j : ℕ) (out : Option Outcome) : Type 0 where
  pub note : Note
  pub is : out ≡ Some (Moved note)
  pub stripe : stripe_by note.kind note.at ≡ Some j
  pub reply : note.reply ≡ Stripe Fault

row_fault : (A j : ℕ) (c : Client) (d : Bool) {stage : Stage} (act : Act stage) → FailsRow A j c act → HasFault j (row_outcome A c d act)
row_fault A j c d LoadFails fails = record { note = _; is = refl; stripe = ap Some fails; reply = refl }
row_fault A j c d HoldFails fails = record { note = _; is = refl; stripe = ap Some fails; reply = refl }
row_fault A j c d (StoreFails bytes took past) fails = record { note = _; is = refl; stripe = ap Some fails; reply = refl }
row_fault A j c d SyncFails fails = record { note = _; is = refl; stripe = ap Some fails; reply = refl }
row_fault A j c d _ fails = absurd fails

step_fault : (A j : ℕ) (e : Element) → FailsOn A j e → HasFault j (outcome_of A e)
step_fault A j (Did r q act) fails = row_fault A j q.client q.dropped act fails
step_fault A j _ fails = absurd fails

-- the event's own step raised the count
rose_in : {D : Type 0} (seen : D → Seen) (A : ℕ) (w : WorldValue D) (event : Event) (outcome : Outcome) (e : Element) (mid : WorldValue D) (j : ℕ) → w.shape.align ≡ A →
    MakesStep seen w (Happened event outcome) e mid → FailsOn A j e → Rose (disk (disks_of seen w) j).faults (disk (disks_of seen mid) j).faults
rose_in {D} seen A w event outcome e mid j align made fails =
    let fault = step_fault A j e fails in
    let is : outcome ≡ Moved fault.note =
    one (sym made.0.outcome_is ∙ ap (λ (a : ℕ). outcome_of a made.0.element) align ∙ ap (outcome_of A) (sym made.1) ∙ fault.is) in
    let caused : IsCaused seen w (Moved fault.note) mid = subst (λ (o : Outcome). IsCaused seen w o mid) is made.2.fault in
    subst (λ (d : Seen). Rose d.faults (disk (disks_of seen mid) j).faults) (sym (disk_at seen w.stripes j))
    (subst (λ (d : Seen). Rose (stripe_at (stripes_of seen w) j).disk.faults d.faults) (sym (disk_at seen mid.stripes j))
    (caused j fault.stripe fault.reply))
  where
    one : {x : Outcome} → Some outcome ≡ Some x → outcome ≡ x
    one e = cc

-- a step in which a disk failed raised its count
pub risen : {D : Type 0} (seen : D → Seen) (A : ℕ) (w : WorldValue D) (cs : List Call) (es : List Element) (fulls : List (ℕ → Option Bool)) (w' : WorldValue D) →
    w.shape.align ≡ A → AreEvents cs → Walks seen w cs es fulls w' → (front : List Element) (e : Element) → ComesBehind front e es → (j : ℕ) → FailsOn A j e →
    Rose (disk (disks_of seen w) j).faults (disk (disks_of seen w') j).faults
risen {D} seen A w (Happened event outcome ∷ cs) (x ∷ xs) (full ∷ fulls) w' align are walks [] e comes j fails =
    let same : x ≡ e = cons_head x e xs comes.0 comes.1 in
    let here = rose_in seen A w event outcome x walks.1 j align walks.2.0 (subst (FailsOn A j) (sym same) fails) in
    rose_later (disk (disks_of seen w) j).faults (disk (disks_of seen walks.1) j).faults (disk (disks_of seen w') j).faults here
    ((walk_disks seen walks.1 cs xs fulls w' are walks.2.1).later j)
risen {D} seen A w (Happened event outcome ∷ cs) (x ∷ xs) (full ∷ fulls) w' align are walks (g ∷ gs) e comes j fails =
    let rest = cons_tail x g xs (gs ++ e ∷ comes.0) comes.1 in
    let shape = walks.2.0.0.shape_kept in
    rose_before (disk (disks_of seen w) j).faults (disk (disks_of seen walks.1) j).faults (disk (disks_of seen w') j).faults (walks.2.0.2.disks.later j)
    (risen seen A walks.1 cs xs fulls w' (ap (λ (s : _). s.align) shape ∙ align) are walks.2.1 gs e (comes.0, rest) j fails)
risen seen A w (Rigged stripe fail ∷ cs) es fulls w' align are walks front e comes j fails = absurd are
risen seen A w (PowerFailed choice left ∷ cs) es fulls w' align are walks front e comes j fails = absurd are
risen seen A w (ExportMade op place ∷ cs) es fulls w' align are walks front e comes j fails = absurd are
risen seen A w [] [] [] w' align are walks [] e comes j fails = absurd (nil_cons e comes.0 comes.1)
risen seen A w [] [] [] w' align are walks (g ∷ gs) e comes j fails = absurd (nil_cons g (gs ++ e ∷ comes.0) comes.1)
risen seen A w [] [] (full ∷ fulls) w' align are walks front e comes j fails = absurd walks
risen seen A w [] (x ∷ xs) fulls w' align are walks front e comes j fails = absurd walks
risen seen A w (Happened event outcome ∷ cs) [] fulls w' align are walks front e comes j fails = absurd walks
risen seen A w (Happened event outcome ∷ cs) (x ∷ xs) [] w' align are walks front e comes j fails = absurd walks

-- whatever the step is answered, no stripe was called
abbrev pub IsQuiet : ℕ → Element → Type 0
IsQuiet A e = (out : Outcome) → outcome_of A e ≡ Some out → calls_stripe out ≡ false

told_quiet : (out told : Outcome) → Some told ≡ Some out → calls_stripe told ≡ false → calls_stripe out ≡ false
told_quiet out told is quiet = subst (λ (o : Outcome). calls_stripe o ≡ false) (one is) quiet
  where
    one : Some told ≡ Some out → told ≡ out
    one e = cc

row_quiet : (A : ℕ) (c : Client) (d : Bool) {stage : Stage} (act : Act stage) → IsOffRow act → (IsWaitRow act → ⊥) → (out : Outcome) → row_outcome A c d act ≡ Some out → calls_stripe out ≡ false
row_quiet A c d Answers off going out is = told_quiet out _ is refl
row_quiet A c d Ends off going out is = told_quiet out _ is refl
row_quiet A c d (Waits wait) off going out is = absurd (going tt)
row_quiet A c d (Enters k) off going out is = told_quiet out _ is refl
row_quiet A c d (Routes route) off going out is = told_quiet out _ is refl
row_quiet A c d Shuts off going out is = told_quiet out _ is refl
row_quiet A c d (Lists n) off going out is = told_quiet out _ is refl
row_quiet A c d Starts off going out is = told_quiet out _ is refl
row_quiet A c d (Loads bytes) off going out is = absurd off
row_quiet A c d LoadFails off going out is = absurd off
row_quiet A c d (Holds bytes) off going out is = absurd off
row_quiet A c d HoldFails off going out is = absurd off
row_quiet A c d (Stores bytes past) off going out is = absurd off
row_quiet A c d (StoreFails bytes took past) off going out is = absurd off
row_quiet A c d Syncs off going out is = absurd off
row_quiet A c d Cleans off going out is = absurd off
row_quiet A c d SyncFails off going out is = absurd off
row_quiet A c d Frees off going out is = absurd off

pub off_quiet : (A : ℕ) (e : Element) → IsOff e → (IsWaitStep e → ⊥) → IsQuiet A e
off_quiet A (Did r q act) off going = row_quiet A q.client q.dropped act off going
off_quiet A _ off going = absurd off

pub ask_quiet : (A r : ℕ) (c : Client) → IsQuiet A (Asked r c)
ask_quiet A r c out is = told_quiet out _ is refl

-- steps that call no stripe leave the stripes as they were
pub walk_off : {D : Type 0} (seen : D → Seen) (A : ℕ) (w : WorldValue D) (cs : List Call) (es : List Element) (fulls : List (ℕ → Option Bool)) (w' : WorldValue D) →
    w.shape.align ≡ A → AreEvents cs → Walks seen w cs es fulls w' → AllByRecursion (IsQuiet A) es → w'.stripes ≡ w.stripes
walk_off {D} seen A w [] [] [] w' align are walks quiet = ap (λ (x : WorldValue D). x.stripes) walks
walk_off seen A w (Happened event outcome ∷ cs) (e ∷ es) (full ∷ fulls) w' align are walks quiet =
    let made = walks.2.0 in
    let told : outcome_of A e ≡ Some outcome =
    ap (outcome_of A) made.1 ∙ sym (ap (λ (a : ℕ). outcome_of a made.0.element) align) ∙ made.0.outcome_is in
    walk_off seen A walks.1 cs es fulls w' (ap (λ (s : _). s.align) made.0.shape_kept ∙ align) are walks.2.1 quiet.1 ∙ made.2.rest (quiet.0 outcome told)
walk_off seen A w (Rigged stripe fail ∷ cs) es fulls w' align are walks quiet = absurd are
walk_off seen A w (PowerFailed choice left ∷ cs) es fulls w' align are walks quiet = absurd are
walk_off seen A w (ExportMade op place ∷ cs) es fulls w' align are walks quiet = absurd are
walk_off seen A w [] (e ∷ es) fulls w' align are walks quiet = absurd walks
walk_off seen A w [] [] (full ∷ fulls) w' align are walks quiet = absurd walks
walk_off seen A w (Happened event outcome ∷ cs) [] fulls w' align are walks quiet = absurd walks
walk_off seen A w (Happened event outcome ∷ cs) (e ∷ es) [] w' align are walks quiet = absurd walks

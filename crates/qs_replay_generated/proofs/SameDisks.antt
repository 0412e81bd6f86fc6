-- The lines of a made-up run leave the disks the same ones.
use Rattle.std.proofs.Common.{◌≡◌, ℕ, ◌*◌, ◌^◌, ◌≤◌, Bool, false, List, [], ◌∷◌, ◌++◌, map, refl, sym, ap, ◌∙◌, subst, arith}
use Rattle.std.specs.Prelude.{All, Option, IfSome}
use Rattle.std.proofs.lemmas.List.Elements.{All-head, All-tail}
use Rattle.qs_outside.specs.Blocks.{Seen}
use Rattle.qs_image.specs.Image.{SameDisks, align_of, size_of}
use Rattle.qs_image.specs.Opening.{IsAlike, IsImage}
use Rattle.qs_part.specs.declared.event.Event.{Event}
use Rattle.qs_part.specs.declared.event.Outcome.{Outcome}
use Rattle.qs_script.specs.declared.line.Line.{Line}
use Rattle.qs_script.specs.declared.line.Line.TheVariants as line
use Rattle.qs_stripe.specs.Table.{StripeState}
use Rattle.qs_world.specs.Values.{WorldValue, disks_of}
use Rattle.qs_world.proofs.SameDisks.{same_disks}
use Rattle.qs_calls.specs.Calls.{Call, Happened, Rigged, PowerFailed, ExportMade, Plays}
use Rattle.qs_calls.specs.Goings.{GoesOn, RunsOut}
use Rattle.qs_calls.specs.Runs.{Begins}
use Rattle.qs_replay_lines.specs.Effects.{DoesLine}
use Rattle.qs_replay_lines.specs.Tables.{Names}
use Rattle.qs_replay_generated.specs.Making.{LinesMade, MakesLine, Place}
use Rattle.qs_replay_generated.proofs.Lines.{IsOfRun, of_run}

-- none of these calls plans a failure
abbrev pub AreUnplanned : List Call → Type 0
AreUnplanned [] = Unit {0}
AreUnplanned (Rigged stripe fail ∷ cs) = ⊥
AreUnplanned (c ∷ cs) = AreUnplanned cs

run_unplanned : (made : Event) (front : List Call) (last_one : Outcome) → All (GoesOn made) front → AreUnplanned (front ++ Happened made last_one ∷ [])
run_unplanned made [] last_one on = tt
run_unplanned made (c ∷ cs) last_one on =
    let goes = All-head (GoesOn made) c cs on in
    subst (λ (d : Call). AreUnplanned (d ∷ (cs ++ Happened made last_one ∷ []))) (sym goes.is) (run_unplanned made cs last_one (All-tail (GoesOn made) c cs on))

out_unplanned : (made : Event) (calls : List Call) (last_one : Outcome) → RunsOut made calls last_one → AreUnplanned calls
out_unplanned made calls last_one out = subst AreUnplanned (sym out.whole) (run_unplanned made out.front last_one out.on)

-- so are those of a line
line_unplanned : (t t' : Names) (l : Line) (lost : Bool) (calls : List Call) (text : List ℕ) → IsOfRun l → DoesLine t l lost calls text t' → AreUnplanned calls
line_unplanned t t' (line.Session s e) lost calls text is does = subst AreUnplanned (sym does.calls_are) tt
line_unplanned t t' (line.Write s c offset bytes fua) lost calls text is does = subst AreUnplanned (sym does.calls_are) tt
line_unplanned t t' (line.Read s c offset long) lost calls text is does = subst AreUnplanned (sym does.calls_are) tt
line_unplanned t t' (line.Zero s c offset long fua) lost calls text is does = subst AreUnplanned (sym does.calls_are) tt
line_unplanned t t' (line.Flush s c) lost calls text is does = subst AreUnplanned (sym does.calls_are) tt
line_unplanned t t' (line.Step actor now) lost calls text is does = subst AreUnplanned (sym does.calls_are) tt
line_unplanned t t' (line.Run actor now) lost calls text is does = out_unplanned does.made calls does.outcome does.calls_are
line_unplanned t t' (line.End s) lost calls text is does = absurd is
line_unplanned t t' (line.Trim s c offset long) lost calls text is does = absurd is
line_unplanned t t' line.Nothing lost calls text is does = absurd is
line_unplanned t t' (line.Fail j fail) lost calls text is does = absurd is
line_unplanned t t' (line.Crash choice) lost calls text is does = absurd is

same_self : (disks : List Seen) → SameDisks disks disks
same_self disks = record { count = refl; stripe = λ k. refl; align = λ k. refl; size = λ k. refl; tells = λ k. refl; later = λ k. omega arith }

same_then : (old mid new : List Seen) → SameDisks old mid → SameDisks mid new → SameDisks old new
same_then old mid new first then = record {
  count = then.count ∙ first.count;
  stripe = λ k. then.stripe k ∙ first.stripe k;
  align = λ k. then.align k ∙ first.align k;
  size = λ k. then.size k ∙ first.size k;
  tells = λ k. then.tells k ∙ first.tells k;
  later = λ k. let a = first.later k in let b = then.later k in omega (arith, a, b);
}

plays_same : {D : Type 0} (seen : D → Seen) (w : WorldValue D) (cs : List Call) (w' : WorldValue D) → AreUnplanned cs → Plays seen w cs w' →
    SameDisks (disks_of seen w) (disks_of seen w')
plays_same {D} seen w [] w' are plays = subst (λ (x : WorldValue D). SameDisks (disks_of seen w) (disks_of seen x)) (sym plays) (same_self (disks_of seen w))
plays_same seen w (Happened event outcome ∷ cs) w' are plays =
    same_then (disks_of seen w) (disks_of seen plays.0) (disks_of seen w') plays.1.0.1.disks (plays_same seen plays.0 cs w' are plays.1.1)
plays_same seen w (PowerFailed choice left ∷ cs) w' are plays =
    same_then (disks_of seen w) (disks_of seen plays.0) (disks_of seen w') plays.1.0.0.disks (plays_same seen plays.0 cs w' are plays.1.1)
plays_same {D} seen w (ExportMade op place ∷ cs) w' are plays =
    same_then (disks_of seen w) (disks_of seen plays.0) (disks_of seen w')
    (same_disks seen w plays.0 (ap (λ (x : WorldValue D). x.stripes) plays.1.0.exports.same)) (plays_same seen plays.0 cs w' are plays.1.1)
plays_same seen w (Rigged stripe fail ∷ cs) w' are plays = absurd are

makes_same : {D : Type 0} (seen : D → Seen) (a : Place D) (calls : List Call) (b : Place D) → MakesLine seen a calls b →
    SameDisks (disks_of seen a.world) (disks_of seen b.world)
makes_same seen a calls b one =
    plays_same seen a.world calls b.world
    (line_unplanned a.names b.names one.line one.lost calls one.text (subst (λ (o : Option Line). IfSome o IsOfRun) one.is_next (of_run a.run a.live)) one.is.does) one.is.plays

lines_same : {D : Type 0} (seen : D → Seen) (a : Place D) (lines : List (List Call)) (b : Place D) → LinesMade seen a lines b →
    SameDisks (disks_of seen a.world) (disks_of seen b.world)
lines_same {D} seen a [] b done = subst (λ (x : Place D). SameDisks (disks_of seen a.world) (disks_of seen x.world)) (sym done) (same_self (disks_of seen a.world))
lines_same seen a (calls ∷ lines) b done =
    same_then (disks_of seen a.world) (disks_of seen done.0.world) (disks_of seen b.world) (makes_same seen a calls done.0 done.1.0)
    (lines_same seen done.0 lines b done.1.1)

-- the same disks are an image still
image_kept : (old new : List Seen) → SameDisks old new → IsImage old → IsImage new
image_kept old new same image = (
  (
    same.count ∙ image.0.0,
    λ k below. let like : IsAlike old k = image.0.1 k below in record {
      align = same.align k ∙ like.align ∙ sym (same.align 0);
      size = same.size k ∙ like.size ∙ sym (same.size 0);
      stripe = same.stripe k ∙ like.stripe;
    },
  ),
  rw (same.align 0, same.size 0) image.1,
)

-- an image of this block and size
pub record IsShaped (align size : ℕ) (disks : List Seen) : Type 0 where
  pub image : IsImage disks
  pub align_is : align_of disks ≡ align
  pub size_is : size_of disks ≡ size

begun_shaped : {D : Type 0} (seen : D → Seen) (align size : ℕ) (disks : List D) (start : WorldValue D) → Begins seen disks false start →
    (IsImage (map seen disks) → (align_of (map seen disks) ≡ align) × (size_of (map seen disks) ≡ size)) → IsShaped align size (disks_of seen start)
begun_shaped {D} seen align size disks start begins told =
    let here : map (λ (s : StripeState D). s.disk) start.stripes ≡ disks =
    ap (λ (x : WorldValue D). map (λ (s : StripeState D). s.disk) x.stripes) begins.exports.same ∙ begins.opened.stripes in
    let is = told begins.opened.image in
    subst (λ (ds : List D). IsShaped align size (map seen ds)) (sym here) (record { image = begins.opened.image; align_is = is.0; size_is = is.1 })

-- what a run over an image of this shape leaves
pub shaped_after : {D : Type 0} (seen : D → Seen) (align size : ℕ) (disks : List D) (a : Place D) (lines : List (List Call)) (b : Place D) → Begins seen disks false a.world →
    (IsImage (map seen disks) → (align_of (map seen disks) ≡ align) × (size_of (map seen disks) ≡ size)) → LinesMade seen a lines b →
    IsShaped align size (disks_of seen b.world)
shaped_after seen align size disks a lines b begins told done =
    let first = begun_shaped seen align size disks a.world begins told in
    let same = lines_same seen a lines b done in
    record {
      image = image_kept (disks_of seen a.world) (disks_of seen b.world) same first.image;
      align_is = same.align 0 ∙ first.align_is;
      size_is = same.size 0 ∙ first.size_is;
    }

-- the bytes of an image are few
pub begun_size : {D : Type 0} (seen : D → Seen) (align blocks : ℕ) (disks : List D) (start : WorldValue D) (wide : ℕ) → Begins seen disks false start →
    (IsImage (map seen disks) → (align_of (map seen disks) ≡ align) × (size_of (map seen disks) ≡ blocks * align)) → wide ≡ align → blocks * wide ≤ 2 ^ 40
begun_size seen align blocks disks start wide begins told is =
    let size = (told begins.opened.image).1 in
    rw is (subst (λ (n : ℕ). n ≤ 2 ^ 40) size begins.opened.image.1.2)

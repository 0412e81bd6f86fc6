-- A crash of the core is a step of the model.
use Rattle.std.proofs.Common.{◌≡◌, ℕ, ◌+◌, ◌<◌, ◌≤◌, zero, suc, inl, inr, Bool, true, ◌&&◌, List, [], ◌∷◌, length, get_or, map, refl, sym, ◌∙◌, ap, subst, arith}
use Rattle.std.specs.Prelude.{Some, None, IsTrue, Contains}
use Rattle.std.specs.List.{slice_set}
use Rattle.std.proofs.lemmas.Bool.{cases_lt}
use Rattle.std.proofs.lemmas.List.{get_or-set_other, length-map, length-set, map-set, get_or_past}
use Rattle.qs_outside.specs.declared.crash.CrashChoice.{CrashChoice}
use Rattle.qs_outside.specs.Blocks.{Seen, Fixed}
use Rattle.qs_outside.specs.Crashes.{Crashes}
use Rattle.qs_outside.specs.Rigged.{no_plans, plans_of}
use Rattle.qs_bytes.specs.Geometry.{stripe_of}
use Rattle.qs_graph.specs.Table.{GraphValue, fresh as fresh_graph}
use Rattle.qs_image.specs.Image.{SameDisks, disk}
use Rattle.qs_model.specs.Acts.{Crashed as CrashedStep}
use Rattle.qs_model.specs.Steps.{happens}
use Rattle.qs_model.specs.Worlds.{Hold}
use Rattle.qs_model.proofs.Basics.{same_or}
use Rattle.qs_part.specs.declared.stripe.Side.{Side}
use Rattle.qs_request_state.specs.declared.shape.Shape.{Shape}
use Rattle.qs_stripe.specs.Table.{Opened, StripeState, StripeValue, value_of as stripe_value}
use Rattle.qs_tracker.specs.Table.{TrackerValue, fresh as fresh_tracker}
use Rattle.qs_world.specs.Crashing.{Crashed, StripeCrashes, StripesCrash, left_at}
use Rattle.qs_world.specs.Events.{Does}
use Rattle.qs_graph.specs.Exports.{export_at}
use Rattle.qs_graph.proofs.Standing.{nobody as no_export}
use Rattle.qs_world.specs.Openings.{HasNoExport}
use Rattle.qs_world.specs.Images.{all_tell, no_stripe, stripe_at}
use Rattle.qs_world.specs.Sound.{IsSound, IsStripe}
use Rattle.qs_world.specs.Values.{WorldValue, disks_of, stripes_of}
use Rattle.qs_world.proofs.PartSteps.{all_tell_at}
use Rattle.qs_world.proofs.SameDisks.{disk_at, same_each, stays}

-- the stripes before one crashed, and the others are as they were
pub record SoFar {D : Type 0} (seen : D → Seen) (choice : CrashChoice) (old now : List (StripeState D)) (j : ℕ) : Type 0 where
  pub count : length now ≡ length old
  pub crashed : (i : ℕ) → i < j → StripeCrashes choice (stripe_at (map (stripe_value seen) old) i) (stripe_at (map (stripe_value seen) now) i)
  pub others : (i : ℕ) → j ≤ i → stripe_at (map (stripe_value seen) now) i ≡ stripe_at (map (stripe_value seen) old) i

-- a stripe by index
at_is : {D : Type 0} (seen : D → Seen) (ss : List (StripeState D)) (j : ℕ) (s : StripeState D) → j < length ss → s ≡ get_or ss j s →
    stripe_at (map (stripe_value seen) ss) j ≡ stripe_value seen s
at_is seen [] j s inside is = absurd (omega arith)
at_is seen (x ∷ ss) zero s inside is = ap (stripe_value seen) (sym is)
at_is seen (x ∷ ss) (suc j) s inside is = at_is seen ss j s (omega arith) is

set_here : {D : Type 0} (seen : D → Seen) (ss : List (StripeState D)) (j : ℕ) (t : StripeState D) → j < length ss →
    stripe_at (map (stripe_value seen) (slice_set ss j t)) j ≡ stripe_value seen t
set_here seen [] j t inside = absurd (omega arith)
set_here seen (x ∷ ss) zero t inside = refl
set_here seen (x ∷ ss) (suc j) t inside = set_here seen ss j t (omega arith)

set_other : {D : Type 0} (seen : D → Seen) (ss : List (StripeState D)) (j i : ℕ) (t : StripeState D) → (i ≡ j → ⊥) →
    stripe_at (map (stripe_value seen) (slice_set ss j t)) i ≡ stripe_at (map (stripe_value seen) ss) i
set_other seen ss j i t other =
    ap (λ (vs : List StripeValue). stripe_at vs i) (map-set (stripe_value seen) ss j t)
    ∙ get_or-set_other (map (stripe_value seen) ss) j i (stripe_value seen t) no_stripe other

pub none_so_far : {D : Type 0} (seen : D → Seen) (choice : CrashChoice) (old : List (StripeState D)) → SoFar seen choice old old 0
none_so_far seen choice old = record { count = refl; crashed = λ i below. absurd (omega (arith, below)); others = λ i _. refl }

pub one_more : {D : Type 0} (seen : D → Seen) (choice : CrashChoice) (old now : List (StripeState D)) (j : ℕ) (s t : StripeState D) → j < length now → s ≡ get_or now j s →
    Crashes choice (seen s.disk) (seen t.disk) → Opened (stripe_value seen t) → SoFar seen choice old now j → SoFar seen choice old (slice_set now j t) (j + 1)
one_more seen choice old now j s t inside is crashes opened so = record {
  count = length-set now j t ∙ so.count;
  crashed = λ i below. elim (same_or i j) [
    | inl e ↦
        let was : stripe_at (map (stripe_value seen) old) j ≡ stripe_value seen s = sym (so.others j (omega arith)) ∙ at_is seen now j s inside is in
        subst (λ (k : ℕ). StripeCrashes choice (stripe_at (map (stripe_value seen) old) k) (stripe_at (map (stripe_value seen) (slice_set now j t)) k)) (sym e)
        (subst (λ (v : StripeValue). StripeCrashes choice v (stripe_at (map (stripe_value seen) (slice_set now j t)) j)) (sym was)
        (subst (λ (v : StripeValue). StripeCrashes choice (stripe_value seen s) v) (sym (set_here seen now j t inside)) (record { disk = crashes; opened = opened })))
    | inr n ↦
        subst (λ (v : StripeValue). StripeCrashes choice (stripe_at (map (stripe_value seen) old) i) v) (sym (set_other seen now j i t n))
        (so.crashed i (not_last i j below n))
  ];
  others = λ i above. set_other seen now j i t (λ e. absurd (omega (arith, e, above))) ∙ so.others i (omega (arith, above));
}
  where
    not_last : (i j : ℕ) → i < j + 1 → (i ≡ j → ⊥) → i < j
    not_last i j below n = omega (arith, below, n)

pub all_so_far : {D : Type 0} (seen : D → Seen) (choice : CrashChoice) (old now : List (StripeState D)) (j : ℕ) → length old ≤ j → SoFar seen choice old now j → StripesCrash seen choice old now
all_so_far seen choice old now j all so = record { count = so.count; each = λ i below. so.crashed i (omega (arith, below, all)) }

-- the stripes tell their content as before
tell_alike : (vs ws : List StripeValue) → length ws ≡ length vs → ((j : ℕ) → j < length vs → (stripe_at ws j).disk.tells ≡ (stripe_at vs j).disk.tells) → all_tell ws ≡ all_tell vs
tell_alike [] [] count each = refl
tell_alike [] (w ∷ ws) count each = absurd (omega (arith, count))
tell_alike (v ∷ vs) [] count each = absurd (omega (arith, count))
tell_alike (v ∷ vs) (w ∷ ws) count each =
    let rest : all_tell ws ≡ all_tell vs = tell_alike vs ws (omega (arith, count)) (λ j below. each (suc j) (omega (arith, below))) in
    ap (λ (b : Bool). b && all_tell ws) (each 0 (omega arith)) ∙ ap (λ (b : Bool). v.disk.tells && b) rest

none_some : (b : ℕ) → None ≡ Some b → ⊥
none_some b e = cc

none_hold : (h : Hold) → None ≡ Some h → ⊥
none_hold h e = cc

module _ {D : Type 0} (seen : D → Seen) (old new : WorldValue D) (choice : CrashChoice) (sound : IsSound seen old) (crash : StripesCrash seen choice old.stripes new.stripes) where
  at : (j : ℕ) → j < 8 → StripeCrashes choice (stripe_at (stripes_of seen old) j) (stripe_at (stripes_of seen new) j)
  at j below = crash.each j (omega (arith, below, sound.count))

  past_end : (j : ℕ) → (j < 8 → ⊥) → stripe_at (stripes_of seen new) j ≡ no_stripe
  past_end j past = get_or_past (stripes_of seen new) j no_stripe (omega (arith, past, length-map new.stripes (stripe_value seen), crash.count, sound.count))

  home : (b : ℕ) → stripe_of b < 8
  home b = omega arith

  free : (j k : ℕ) (side : Side) → (stripe_at (stripes_of seen new) j).hold k side ≡ None
  free j k side = elim (cases_lt j 8) [
    | inl below ↦ (at j below).opened.free k side
    | inr past ↦ ap (λ (v : StripeValue). v.hold k side) (past_end j (λ below. absurd (omega (arith, past, below))))
  ]

  cleaned : (j : ℕ) → (stripe_at (stripes_of seen new) j).clean ≡ true
  cleaned j = elim (cases_lt j 8) [
    | inl below ↦ (at j below).opened.clean
    | inr past ↦ ap (λ (v : StripeValue). v.clean) (past_end j (λ below. absurd (omega (arith, past, below))))
  ]

  unplanned : (j : ℕ) → plans_of (stripe_at (stripes_of seen new) j).disk.planned ≡ no_plans
  unplanned j = elim (cases_lt j 8) [
    | inl below ↦ ap plans_of (at j below).disk.planned
    | inr past ↦ ap (λ (v : StripeValue). plans_of v.disk.planned) (past_end j (λ below. absurd (omega (arith, past, below))))
  ]

  alike : all_tell (stripes_of seen new) ≡ all_tell (stripes_of seen old)
  alike = tell_alike (stripes_of seen old) (stripes_of seen new)
      (length-map new.stripes (stripe_value seen) ∙ crash.count ∙ sym (length-map old.stripes (stripe_value seen)))
      (λ j below. (crash.each j (omega (arith, below, length-map old.stripes (stripe_value seen)))).disk.fixed.tells)

  told : (b : ℕ) → IsTrue (all_tell (stripes_of seen old)) → IsTrue (stripe_at (stripes_of seen old) (stripe_of b)).disk.tells
  told b all = all_tell_at (stripes_of seen old) (stripe_of b) (omega (arith, home b, length-map old.stripes (stripe_value seen), sound.count)) all

  pub crash_does : new.next ≡ old.next → new.requests ≡ [] → new.sessions ≡ [] → new.graph ≡ fresh_graph old.graph.size old.graph.file old.graph.read_only → new.tracker ≡ fresh_tracker 0 →
      Does seen old (CrashedStep (left_at (stripes_of seen old) choice)) new
  crash_does next requests sessions graph tracker m st =
      let tells : IsTrue m.tells → IsTrue (all_tell (stripes_of seen old)) = λ t. subst IsTrue st.tells t in (
        λ b tell.
            let c = (at (stripe_of b) (home b)).disk in
            subst (λ (ps : List (List ℕ)). Contains ps (left_at (stripes_of seen old) choice b)) (sym (st.image.past tell b))
            (subst (Contains ((stripe_at (stripes_of seen old) (stripe_of b)).disk.past b)) (c.now (told b (tells tell)) b) (c.among (told b (tells tell)) b)),
        record {
          tells = st.tells ∙ sym alike;
          next = st.next ∙ sym next;
          request = λ r. rw requests refl;
          session = λ s. rw sessions refl;
          graph = ap (λ (g : GraphValue). fresh_graph g.size g.file g.read_only) st.graph ∙ sym graph;
          tracker = sym tracker;
          image = record {
            now = λ tell b. sym ((at (stripe_of b) (home b)).disk.now (told b (tells tell)) b);
            past = λ tell b.
                let c = (at (stripe_of b) (home b)).disk in
                sym (c.past (told b (tells tell)) b ∙ ap (λ (x : List ℕ). x ∷ []) (c.now (told b (tells tell)) b));
            held = λ b h. (
              λ e. absurd (none_hold h e),
              λ e. absurd (none_some b (sym (free (stripe_of b) h.place h.side) ∙ e)),
            );
            here = λ j k side b e. absurd (none_some b (sym (free j k side) ∙ e));
            clean = λ j. sym (cleaned j);
          };
          plans = λ j. sym (unplanned j);
        },
      )

  -- the disks are the same ones
  old_end : (j : ℕ) → (j < 8 → ⊥) → stripe_at (stripes_of seen old) j ≡ no_stripe
  old_end j past = get_or_past (stripes_of seen old) j no_stripe (omega (arith, past, length-map old.stripes (stripe_value seen), sound.count))

  fixed_at : (j : ℕ) → Fixed (stripe_at (stripes_of seen old) j).disk (stripe_at (stripes_of seen new) j).disk
      × ((stripe_at (stripes_of seen old) j).disk.faults ≤ (stripe_at (stripes_of seen new) j).disk.faults)
  fixed_at j = elim (cases_lt j 8) [
    | inl below ↦ ((at j below).disk.fixed, let e = (at j below).disk.faults in omega (arith, e))
    | inr past ↦
        let off : j < 8 → ⊥ = λ below. absurd (omega (arith, past, below)) in
        rw (past_end j off, old_end j off) (stays no_stripe.disk)
  ]

  same_ones : SameDisks (disks_of seen old) (disks_of seen new)
  same_ones = same_each (disks_of seen old) (disks_of seen new) count each
    where
      count : length (disks_of seen new) ≡ length (disks_of seen old)
      count = length-map (map (λ (s : StripeState D). s.disk) new.stripes) seen ∙ length-map new.stripes (λ (s : StripeState D). s.disk) ∙ crash.count
          ∙ sym (length-map old.stripes (λ (s : StripeState D). s.disk)) ∙ sym (length-map (map (λ (s : StripeState D). s.disk) old.stripes) seen)

      each : (k : ℕ) → Fixed (disk (disks_of seen old) k) (disk (disks_of seen new) k) × ((disk (disks_of seen old) k).faults ≤ (disk (disks_of seen new) k).faults)
      each k = subst (λ (d : Seen). Fixed d (disk (disks_of seen new) k) × (d.faults ≤ (disk (disks_of seen new) k).faults)) (sym (disk_at seen old.stripes k))
          (subst (λ (d : Seen). Fixed (stripe_at (stripes_of seen old) k).disk d × ((stripe_at (stripes_of seen old) k).disk.faults ≤ d.faults))
          (sym (disk_at seen new.stripes k)) (fixed_at k))

  pub crashed_all : new.shape ≡ old.shape → new.next ≡ old.next → new.requests ≡ [] → new.sessions ≡ []
      → new.graph ≡ fresh_graph old.graph.size old.graph.file old.graph.read_only → new.tracker ≡ fresh_tracker 0 → Crashed seen old choice new × IsSound seen new
  crashed_all shape next requests sessions graph tracker =
      let does = crash_does next requests sessions graph tracker in (
        record {
          rest = λ i. record {
            shape = shape i;
            next = next i;
            requests = requests i;
            sessions = sessions i;
            graph = graph i;
            tracker = tracker i;
            stripes = new.stripes;
          };
          stripes = crash;
          does = does;
          disks = same_ones;
        },
        record {
          shape = rw shape sound.shape;
          count = crash.count ∙ sound.count;
          stripes = λ j below. stripe j below;
          size = ap (λ (g : GraphValue). g.size) graph ∙ sound.size ∙ sym (ap (λ (s : Shape). s.size) shape);
          places = ap (λ (g : GraphValue). length g.places) graph;
          seats = ap (λ (t : TrackerValue). length t.seats) tracker;
          requests = rw requests tt;
          numbers = rw requests tt;
          sessions = rw sessions tt;
          model = (happens old.shape.align sound.model.0 (CrashedStep (left_at (stripes_of seen old) choice)), (does sound.model.0 sound.model.1).1);
        },
      )
    where
      stripe : (j : ℕ) → j < 8 → IsStripe seen new j
      stripe j below =
          let f = (at j below).disk.fixed in
          rw shape ((λ i. record { stripe = f.stripe i; align = f.align i; size = f.size i }) ∙ sound.stripes j below)

-- behind a crash no export stands
pub crashed_without : {D : Type 0} (seen : D → Seen) (old new : WorldValue D) (choice : CrashChoice) → Crashed seen old choice new → HasNoExport new
crashed_without seen old new choice crashed e = ap (λ (w : WorldValue _). export_at w.graph.places e) crashed.rest ∙ no_export 64 e

-- The answers of a stripe are rows of the model.
use Rattle.std.proofs.Common.{◌≡◌, ◌≢◌, ◌↔◌, ℕ, ◌<◌, ◌⊎◌, inl, inr, List, [], ◌∷◌, length, Bool, true, false, ◌==◌, cond, eq-eqb, ne_eqb, refl, sym, ◌∙◌, ap, subst}
use Rattle.std.specs.Prelude.{Option, Some, None, IsTrue, get_or, Contains}
use Rattle.std.specs.List.{AllByRecursion}
use Rattle.qs_outside.specs.Blocks.{Seen, StoredOrNot}
use Rattle.qs_outside.specs.declared.rigged_disk.Plans.{Plans}
use Rattle.qs_outside.specs.Rigged.{LeftAsPlanned, plans_of}
use Rattle.qs_part.specs.declared.stripe.Side.{Side}
use Rattle.qs_part.specs.declared.stripe.Side.TheVariants.{Head, Tail}
use Rattle.qs_model.specs.Puts.{put}
use Rattle.qs_model.specs.Requests.{Client, Pads, merged_at}
use Rattle.qs_model.specs.Worlds.{Hold, Image, World}
use Rattle.qs_bytes.specs.Geometry.{stripe_of}
use Rattle.qs_model.specs.Guards.{CanHold, CanRead, CanStore, MayKeep}
use Rattle.qs_model.specs.Steps.{stripe_settled, block_written}
use Rattle.qs_model.proofs.Basics.{put_here, put_other, put_tells, same_or}
use Rattle.qs_stripe.specs.Holds.{IsHeld, IsFree, IsFreeFor, Takes, LetsGo}
use Rattle.qs_stripe.specs.Table.{StripeValue, Reads, Writes, Syncs, IsContent, IsSettled, MayBeStored}
use Rattle.qs_world.specs.Images.{StandsImage, StandsPlans, Changed}

abbrev Holders : Type 0
Holders = ℕ → Side → Option ℕ

abbrev pub hold : ℕ → Side → Hold
hold k side = record { place = k; side = side }

same_side : (e s : Side) → (e ≡ s) ⊎ (e ≢ s)
same_side Head Head = inl refl
same_side Head Tail = inr (λ h. cc)
same_side Tail Head = inr (λ h. cc)
same_side Tail Tail = inl refl

-- two holds are one, or differ in their place or their end
same_hold : (h g : Hold) → (h ≡ g) ⊎ ((h.place ≢ g.place) ⊎ (h.side ≢ g.side))
same_hold h g = go (same_or h.place g.place) (same_side h.side g.side)
  where
    go : (h.place ≡ g.place) ⊎ (h.place ≢ g.place) → (h.side ≡ g.side) ⊎ (h.side ≢ g.side) → (h ≡ g) ⊎ ((h.place ≢ g.place) ⊎ (h.side ≢ g.side))
    go (inl e) (inl f) = inl (ap (λ (k : ℕ). hold k h.side) e ∙ ap (λ (s : Side). hold g.place s) f)
    go (inl e) (inr n) = inr (inr n)
    go (inr n) other = inr (inl n)

is_held : (old : Holders) (h : Hold) (b : ℕ) → old h.place h.side ≡ Some b → IsHeld old h.place b
is_held old h b is = go h.side refl
  where
    go : (s : Side) → h.side ≡ s → IsHeld old h.place b
    go Head e = inl (ap (old h.place) (sym e) ∙ is)
    go Tail e = inr (ap (old h.place) (sym e) ∙ is)

none_some : (b : ℕ) → None ≡ Some b → ⊥
none_some b e = cc

one_block : (b c : ℕ) → Some b ≡ Some c → b ≡ c
one_block b c e = cc

-- what holds of each stripe behind a change of one
pub changed : (P : StripeValue → Type 0) (z : ℕ) (v : StripeValue) (old new : ℕ → StripeValue) → Changed z v old new → (j : ℕ) →
    (j ≡ z → P v) → (j ≢ z → P (old j)) → P (new j)
changed P z v old new change j this other =
    elim (same_or j z) [
      | inl e ↦ subst (λ (i : ℕ). P (new i)) (sym e) (subst P (sym change.this) (this e))
      | inr n ↦ subst P (sym (change.others j n)) (other n)
    ]

-- a stripe is clean as it was
clean_kept : (z : ℕ) (v : StripeValue) (s t : ℕ → StripeValue) (i : Image) → Changed z v s t → ((j : ℕ) → i.clean j ≡ (s j).clean) → v.clean ≡ (s z).clean →
    (j : ℕ) → i.clean j ≡ (t j).clean
clean_kept z v s t i change stands same j =
    changed (λ x. i.clean j ≡ x.clean) z v s t change j (λ e. stands j ∙ ap (λ (n : ℕ). (s n).clean) e ∙ sym same) (λ n. stands j)

-- or it is clean now, or isn't any more
clean_put : (z : ℕ) (v : StripeValue) (s t : ℕ → StripeValue) (i : Image) (clean : Bool) → Changed z v s t → ((j : ℕ) → i.clean j ≡ (s j).clean) → v.clean ≡ clean →
    (j : ℕ) → put i.clean z clean j ≡ (t j).clean
clean_put z v s t i clean change stands is j =
    elim (same_or j z) [
      | inl e ↦ ap (put i.clean z clean) e ∙ put_here i.clean z clean ∙ sym is ∙ sym (ap (λ (x : StripeValue). x.clean) (ap t e ∙ change.this))
      | inr n ↦ put_other i.clean z clean j n ∙ stands j ∙ sym (ap (λ (x : StripeValue). x.clean) (change.others j n))
    ]

-- the blocks' contents and holds are as they were
pub kept_stands : (z : ℕ) (v : StripeValue) (s t : ℕ → StripeValue) (tells : Bool) (i : Image) → Changed z v s t → StandsImage s tells i →
    (IsTrue tells → (b : ℕ) → v.disk.now b ≡ (s z).disk.now b) → (IsTrue tells → (b : ℕ) → v.disk.past b ≡ (s z).disk.past b) → v.hold ≡ (s z).hold →
    v.clean ≡ (s z).clean → StandsImage t tells i
kept_stands z v s t tells i change stands nows pasts same clean = record {
  now = λ tell b. changed (λ x. i.now b ≡ x.disk.now b) z v s t change (stripe_of b)
      (λ e. stands.now tell b ∙ ap (λ (j : ℕ). (s j).disk.now b) e ∙ sym (nows tell b)) (λ n. stands.now tell b);
  past = λ tell b. changed (λ x. i.past b ≡ x.disk.past b) z v s t change (stripe_of b)
      (λ e. stands.past tell b ∙ ap (λ (j : ℕ). (s j).disk.past b) e ∙ sym (pasts tell b)) (λ n. stands.past tell b);
  held = λ b h. changed (λ x. (i.holder b ≡ Some h) ↔ (x.hold h.place h.side ≡ Some b)) z v s t change (stripe_of b)
      (λ e. rw same (subst (λ (j : ℕ). (i.holder b ≡ Some h) ↔ ((s j).hold h.place h.side ≡ Some b)) e (stands.held b h))) (λ n. stands.held b h);
  here = λ j k side b. changed (λ x. x.hold k side ≡ Some b → stripe_of b ≡ j) z v s t change j
      (λ e. rw (same, e) (stands.here z k side b)) (λ n. stands.here j k side b);
  clean = clean_kept z v s t i change stands.clean clean;
}

pub reads_stands : (z : ℕ) (v : StripeValue) (s t : ℕ → StripeValue) (tells : Bool) (i : Image) → Changed z v s t → StandsImage s tells i →
    (IsTrue tells → IsTrue (s z).disk.tells) → Reads (s z).disk v.disk → v.hold ≡ (s z).hold → v.clean ≡ (s z).clean → StandsImage t tells i
reads_stands z v s t tells i change stands told reads same clean =
    kept_stands z v s t tells i change stands (λ tell. reads.now (told tell)) (λ tell. reads.past (told tell)) same clean

-- the stripe was synced: a crash leaves what its blocks hold now
pub settled_stands : (z : ℕ) (v : StripeValue) (s t : ℕ → StripeValue) (tells : Bool) (i : Image) → Changed z v s t → StandsImage s tells i →
    (IsTrue tells → IsTrue (s z).disk.tells) → Syncs (s z).disk v.disk → IsSettled (s z).disk v.disk → v.hold ≡ (s z).hold → v.clean ≡ true →
    StandsImage t tells (stripe_settled i z)
settled_stands z v s t tells i change stands told syncs past same clean = record {
  now = λ tell b. changed (λ x. i.now b ≡ x.disk.now b) z v s t change (stripe_of b)
      (λ e. stands.now tell b ∙ ap (λ (j : ℕ). (s j).disk.now b) e ∙ sym (syncs.now (told tell) b)) (λ n. stands.now tell b);
  past = λ tell b. changed (λ x. cond (stripe_of b == z) (i.now b ∷ []) (i.past b) ≡ x.disk.past b) z v s t change (stripe_of b)
      (λ e. ap (λ (c : Bool). cond c (i.now b ∷ []) (i.past b)) (eq-eqb (stripe_of b) z e)
      ∙ ap (λ (x : List ℕ). x ∷ []) (stands.now tell b ∙ ap (λ (j : ℕ). (s j).disk.now b) e) ∙ sym (past.past (told tell) b))
      (λ n. ap (λ (c : Bool). cond c (i.now b ∷ []) (i.past b)) (ne_eqb (stripe_of b) z n) ∙ stands.past tell b);
  held = λ b h. changed (λ x. (i.holder b ≡ Some h) ↔ (x.hold h.place h.side ≡ Some b)) z v s t change (stripe_of b)
      (λ e. rw same (subst (λ (j : ℕ). (i.holder b ≡ Some h) ↔ ((s j).hold h.place h.side ≡ Some b)) e (stands.held b h))) (λ n. stands.held b h);
  here = λ j k side b. changed (λ x. x.hold k side ≡ Some b → stripe_of b ≡ j) z v s t change j
      (λ e. rw (same, e) (stands.here z k side b)) (λ n. stands.here j k side b);
  clean = clean_put z v s t i true change stands.clean clean;
}

-- one place took a free block
takes_held : (z k b : ℕ) (side : Side) (v : StripeValue) (s t : ℕ → StripeValue) (tells : Bool) (i : Image) → stripe_of b ≡ z →
    Changed z v s t → StandsImage s tells i → Takes k side b (s z).hold v.hold → IsFree (s z).hold b → (s z).hold k side ≡ None →
    (c : ℕ) (h : Hold) → (put i.holder b (Some (hold k side)) c ≡ Some h) ↔ ((t (stripe_of c)).hold h.place h.side ≡ Some c)
takes_held z k b side v s t tells i at change stands takes free open_ c h = (forth, back)
  where
    -- the hold of another block, on the changed stripe
    kept : stripe_of c ≡ z → (s z).hold h.place h.side ≡ Some c → v.hold h.place h.side ≡ Some c
    kept e old =
        elim (same_hold h (hold k side)) [
          | inl is ↦ absurd (none_some c (sym open_ ∙ subst (λ (g : Hold). (s z).hold g.place g.side ≡ Some c) is old))
          | inr n ↦ takes.others h.place h.side n ∙ old
        ]

    forth : put i.holder b (Some (hold k side)) c ≡ Some h → (t (stripe_of c)).hold h.place h.side ≡ Some c
    forth is =
        elim (put_tells i.holder b (Some (hold k side)) c (Some h) is) [
          | inl w ↦
              let own : hold k side ≡ h = cc in
              subst (λ (x : ℕ). (t (stripe_of x)).hold h.place h.side ≡ Some x) (sym w.0)
              (subst (λ (j : ℕ). (t j).hold h.place h.side ≡ Some b) (sym at)
              (subst (λ (x : StripeValue). x.hold h.place h.side ≡ Some b) (sym change.this)
              (subst (λ (g : Hold). v.hold g.place g.side ≡ Some b) own takes.here)))
          | inr w ↦
              let old : (s (stripe_of c)).hold h.place h.side ≡ Some c = (stands.held c h).0 w.1 in
              changed (λ x. x.hold h.place h.side ≡ Some c) z v s t change (stripe_of c)
              (λ e. kept e (subst (λ (j : ℕ). (s j).hold h.place h.side ≡ Some c) e old)) (λ n. old)
        ]

    -- what the changed stripe says of another block
    before : c ≢ b → v.hold h.place h.side ≡ Some c → (s z).hold h.place h.side ≡ Some c
    before other new =
        elim (same_hold h (hold k side)) [
          | inl is ↦ absurd (other (one_block c b (sym new ∙ subst (λ (g : Hold). v.hold g.place g.side ≡ Some b) (sym is) takes.here)))
          | inr n ↦ sym (takes.others h.place h.side n) ∙ new
        ]

    this : v.hold h.place h.side ≡ Some b → hold k side ≡ h
    this new =
        elim (same_hold h (hold k side)) [
          | inl is ↦ sym is
          | inr n ↦ absurd (free h.place (is_held (s z).hold h b (sym (takes.others h.place h.side n) ∙ new)))
        ]

    back : (t (stripe_of c)).hold h.place h.side ≡ Some c → put i.holder b (Some (hold k side)) c ≡ Some h
    back =
        elim (same_or c b) [
          | inl e ↦ subst (λ (x : ℕ). (t (stripe_of x)).hold h.place h.side ≡ Some x → put i.holder b (Some (hold k side)) x ≡ Some h) (sym e)
              (λ new. put_here i.holder b (Some (hold k side)) ∙ ap Some (this (subst (λ (x : StripeValue). x.hold h.place h.side ≡ Some b) change.this
              (subst (λ (j : ℕ). (t j).hold h.place h.side ≡ Some b) at new))))
          | inr n ↦ λ new. put_other i.holder b (Some (hold k side)) c n ∙ (stands.held c h).1
              (changed (λ x. x.hold h.place h.side ≡ Some c → (s (stripe_of c)).hold h.place h.side ≡ Some c) z v s t change (stripe_of c)
              (λ e f. subst (λ (j : ℕ). (s j).hold h.place h.side ≡ Some c) (sym e) (before n f)) (λ m f. f) new)
        ]

takes_here : (z k b : ℕ) (side : Side) (v : StripeValue) (s t : ℕ → StripeValue) (tells : Bool) (i : Image) → stripe_of b ≡ z →
    Changed z v s t → StandsImage s tells i → Takes k side b (s z).hold v.hold →
    (j l : ℕ) (end : Side) (c : ℕ) → (t j).hold l end ≡ Some c → stripe_of c ≡ j
takes_here z k b side v s t tells i at change stands takes j l end c =
    changed (λ x. x.hold l end ≡ Some c → stripe_of c ≡ j) z v s t change j (λ e. subst (λ (x : ℕ). v.hold l end ≡ Some c → stripe_of c ≡ x) (sym e) here) (λ n. stands.here j l end c)
  where
    here : v.hold l end ≡ Some c → stripe_of c ≡ z
    here new =
        elim (same_hold (hold l end) (hold k side)) [
          | inl is ↦ subst (λ (x : ℕ). stripe_of x ≡ z)
              (one_block b c (sym takes.here ∙ subst (λ (g : Hold). v.hold g.place g.side ≡ Some c) is new)) at
          | inr n ↦ stands.here z l end c (sym (takes.others l end n) ∙ new)
        ]

-- one place let go of its block
goes_held : (z k b : ℕ) (v : StripeValue) (s t : ℕ → StripeValue) (tells : Bool) (i : Image) → stripe_of b ≡ z →
    Changed z v s t → StandsImage s tells i → LetsGo k b (s z).hold v.hold → IsFreeFor (s z).hold k b →
    (c : ℕ) (h : Hold) → (put i.holder b None c ≡ Some h) ↔ ((t (stripe_of c)).hold h.place h.side ≡ Some c)
goes_held z k b v s t tells i at change stands goes free c h = (forth, back)
  where
    -- another block's hold is as it was
    still : c ≢ b → v.hold h.place h.side ≡ Some c → (s z).hold h.place h.side ≡ Some c
    still other new =
        elim (same_or h.place k) [
          | inl e ↦ go ((s z).hold h.place h.side) refl e
          | inr n ↦ sym (goes.others h.place h.side (inl n)) ∙ new
        ]
      where
        go : (o : Option ℕ) → (s z).hold h.place h.side ≡ o → h.place ≡ k → (s z).hold h.place h.side ≡ Some c
        go None is e = sym (goes.others h.place h.side (inr (λ f. none_some b (sym is ∙ f)))) ∙ new
        go (Some d) is e =
            elim (same_or d b) [
              | inl same ↦
                  let was : (s z).hold k h.side ≡ Some b = ap (λ (x : ℕ). (s z).hold x h.side) (sym e) ∙ is ∙ ap Some same in
                  absurd (none_some c (sym (ap (λ (x : ℕ). v.hold x h.side) e ∙ goes.gone h.side was) ∙ new))
              | inr n ↦ sym (goes.others h.place h.side (inr (λ f. n (one_block d b (sym is ∙ f))))) ∙ new
            ]

    kept : c ≢ b → (s z).hold h.place h.side ≡ Some c → v.hold h.place h.side ≡ Some c
    kept other old = goes.others h.place h.side (inr (λ f. other (one_block c b (sym old ∙ f)))) ∙ old

    forth : put i.holder b None c ≡ Some h → (t (stripe_of c)).hold h.place h.side ≡ Some c
    forth is =
        elim (put_tells i.holder b None c (Some h) is) [
          | inl w ↦ absurd (hold_none h w.1)
          | inr w ↦
              let old : (s (stripe_of c)).hold h.place h.side ≡ Some c = (stands.held c h).0 w.1 in
              changed (λ x. x.hold h.place h.side ≡ Some c) z v s t change (stripe_of c)
              (λ e. kept w.0 (subst (λ (j : ℕ). (s j).hold h.place h.side ≡ Some c) e old)) (λ n. old)
        ]
      where
        hold_none : (g : Hold) → None ≡ Some g → ⊥
        hold_none g e = cc

    -- nobody holds the block any more
    never : v.hold h.place h.side ≡ Some b → ⊥
    never new =
        elim (same_or h.place k) [
          | inl e ↦ go ((s z).hold k h.side) refl e
          | inr n ↦ n (free h.place (is_held (s z).hold h b (sym (goes.others h.place h.side (inl n)) ∙ new)))
        ]
      where
        go : (o : Option ℕ) → (s z).hold k h.side ≡ o → h.place ≡ k → ⊥
        go None is e = none_some b (sym is ∙ sym (goes.others k h.side (inr (λ f. none_some b (sym is ∙ f)))) ∙ ap (λ (x : ℕ). v.hold x h.side) (sym e) ∙ new)
        go (Some d) is e =
            elim (same_or d b) [
              | inl same ↦ none_some b (sym (ap (λ (x : ℕ). v.hold x h.side) e ∙ goes.gone h.side (is ∙ ap Some same)) ∙ new)
              | inr n ↦ n (one_block d b (sym is ∙ sym (goes.others k h.side (inr (λ f. n (one_block d b (sym is ∙ f))))) ∙ ap (λ (x : ℕ). v.hold x h.side) (sym e) ∙ new))
            ]

    back : (t (stripe_of c)).hold h.place h.side ≡ Some c → put i.holder b None c ≡ Some h
    back =
        elim (same_or c b) [
          | inl e ↦ subst (λ (x : ℕ). (t (stripe_of x)).hold h.place h.side ≡ Some x → put i.holder b None x ≡ Some h) (sym e)
              (λ new. absurd (never (subst (λ (x : StripeValue). x.hold h.place h.side ≡ Some b) change.this
              (subst (λ (j : ℕ). (t j).hold h.place h.side ≡ Some b) at new))))
          | inr n ↦ λ new. put_other i.holder b None c n ∙ (stands.held c h).1
              (changed (λ x. x.hold h.place h.side ≡ Some c → (s (stripe_of c)).hold h.place h.side ≡ Some c) z v s t change (stripe_of c)
              (λ e f. subst (λ (j : ℕ). (s j).hold h.place h.side ≡ Some c) (sym e) (still n f)) (λ m f. f) new)
        ]

goes_here : (z k b : ℕ) (v : StripeValue) (s t : ℕ → StripeValue) (tells : Bool) (i : Image) →
    Changed z v s t → StandsImage s tells i → LetsGo k b (s z).hold v.hold →
    (j l : ℕ) (end : Side) (c : ℕ) → (t j).hold l end ≡ Some c → stripe_of c ≡ j
goes_here z k b v s t tells i change stands goes j l end c =
    changed (λ x. x.hold l end ≡ Some c → stripe_of c ≡ j) z v s t change j
    (λ e. subst (λ (x : ℕ). v.hold l end ≡ Some c → stripe_of c ≡ x) (sym e) (λ new. stands.here z l end c (was new))) (λ n. stands.here j l end c)
  where
    was : v.hold l end ≡ Some c → (s z).hold l end ≡ Some c
    was new = go ((s z).hold l end) refl
      where
        go : (o : Option ℕ) → (s z).hold l end ≡ o → (s z).hold l end ≡ Some c
        go None is = sym (goes.others l end (inr (λ f. none_some b (sym is ∙ f)))) ∙ new
        go (Some d) is =
            elim (same_or d b) [
              | inl same ↦ elim (same_or l k) [
                | inl e ↦
                    let was : (s z).hold k end ≡ Some b = ap (λ (x : ℕ). (s z).hold x end) (sym e) ∙ is ∙ ap Some same in
                    absurd (none_some c (sym (ap (λ (x : ℕ). v.hold x end) e ∙ goes.gone end was) ∙ new))
                | inr n ↦ sym (goes.others l end (inl n)) ∙ new
              ]
              | inr n ↦ sym (goes.others l end (inr (λ f. n (one_block d b (sym is ∙ f))))) ∙ new
            ]

-- a place took a free block: the image of the model
pub takes_stands : (z k b : ℕ) (side : Side) (v : StripeValue) (s t : ℕ → StripeValue) (tells : Bool) (i : Image) → stripe_of b ≡ z →
    Changed z v s t → StandsImage s tells i → (IsTrue tells → IsTrue (s z).disk.tells) → Reads (s z).disk v.disk →
    Takes k side b (s z).hold v.hold → IsFree (s z).hold b → (s z).hold k side ≡ None → v.clean ≡ (s z).clean →
    StandsImage t tells (record i { holder = put i.holder b (Some (hold k side)) })
takes_stands z k b side v s t tells i at change stands told reads takes free open_ clean = record {
  now = λ tell c. changed (λ x. i.now c ≡ x.disk.now c) z v s t change (stripe_of c)
      (λ e. stands.now tell c ∙ ap (λ (j : ℕ). (s j).disk.now c) e ∙ sym (reads.now (told tell) c)) (λ n. stands.now tell c);
  past = λ tell c. changed (λ x. i.past c ≡ x.disk.past c) z v s t change (stripe_of c)
      (λ e. stands.past tell c ∙ ap (λ (j : ℕ). (s j).disk.past c) e ∙ sym (reads.past (told tell) c)) (λ n. stands.past tell c);
  held = takes_held z k b side v s t tells i at change stands takes free open_;
  here = takes_here z k b side v s t tells i at change stands takes;
  clean = clean_kept z v s t i change stands.clean clean;
}

-- a place gave its block up: the image of the model
pub frees_stands : (z k b : ℕ) (v : StripeValue) (s t : ℕ → StripeValue) (tells : Bool) (i : Image) → stripe_of b ≡ z →
    Changed z v s t → StandsImage s tells i → v.disk ≡ (s z).disk → LetsGo k b (s z).hold v.hold → IsFreeFor (s z).hold k b →
    v.clean ≡ (s z).clean → StandsImage t tells (record i { holder = put i.holder b None })
frees_stands z k b v s t tells i at change stands same goes free clean = record {
  now = λ tell c. changed (λ x. i.now c ≡ x.disk.now c) z v s t change (stripe_of c)
      (λ e. stands.now tell c ∙ ap (λ (j : ℕ). (s j).disk.now c) e ∙ sym (ap (λ (d : Seen). d.now c) same)) (λ n. stands.now tell c);
  past = λ tell c. changed (λ x. i.past c ≡ x.disk.past c) z v s t change (stripe_of c)
      (λ e. stands.past tell c ∙ ap (λ (j : ℕ). (s j).disk.past c) e ∙ sym (ap (λ (d : Seen). d.past c) same)) (λ n. stands.past tell c);
  held = goes_held z k b v s t tells i at change stands goes free;
  here = goes_here z k b v s t tells i change stands goes;
  clean = clean_kept z v s t i change stands.clean clean;
}

-- what a block's stripe says of its past, where it is told
abbrev pub told_past : Bool → StripeValue → ℕ → List (List ℕ)
told_past tells v b = cond tells (v.disk.past b) []

-- a block was written, or might have been: the image of the model
pub written_stands : (z k b : ℕ) (bytes now : List ℕ) (v : StripeValue) (s t : ℕ → StripeValue) (tells : Bool) (i : Image) → stripe_of b ≡ z →
    Changed z v s t → StandsImage s tells i → (IsTrue tells → IsTrue (s z).disk.tells) → Writes b bytes (s z).disk v.disk →
    (IsTrue tells → (v.disk.now b ≡ now) × ((c : ℕ) → c ≢ b → v.disk.now c ≡ (s z).disk.now c)) →
    LetsGo k b (s z).hold v.hold → IsFreeFor (s z).hold k b → v.clean ≡ false →
    StandsImage t tells (block_written i b now (told_past tells v b))
written_stands z k b bytes now v s t tells i at change stands told writes nows goes free dirty = record {
  now = λ tell c. here_or b c (put i.now b now) (λ x. (t (stripe_of x)).disk.now x)
      (put_here i.now b now ∙ sym ((nows tell).0) ∙ sym (ap (λ (x : StripeValue). x.disk.now b) (ap t at ∙ change.this)))
      (λ n. put_other i.now b now c n ∙ changed (λ x. i.now c ≡ x.disk.now c) z v s t change (stripe_of c)
      (λ e. stands.now tell c ∙ ap (λ (j : ℕ). (s j).disk.now c) e ∙ sym ((nows tell).1 c n)) (λ m. stands.now tell c));
  past = λ tell c. here_or b c (put i.past b (told_past tells v b)) (λ x. (t (stripe_of x)).disk.past x)
      (put_here i.past b (told_past tells v b) ∙ chosen tells tell ∙ sym (ap (λ (x : StripeValue). x.disk.past b) (ap t at ∙ change.this)))
      (λ n. put_other i.past b (told_past tells v b) c n ∙ changed (λ x. i.past c ≡ x.disk.past c) z v s t change (stripe_of c)
      (λ e. stands.past tell c ∙ ap (λ (j : ℕ). (s j).disk.past c) e ∙ sym ((writes.past (told tell)).others c n)) (λ m. stands.past tell c));
  held = goes_held z k b v s t tells i at change stands goes free;
  here = goes_here z k b v s t tells i change stands goes;
  clean = subst (λ (y : ℕ). (j : ℕ) → put i.clean y false j ≡ (t j).clean) (sym at) (clean_put z v s t i false change stands.clean dirty);
}
  where
    here_or : {X : Type 0} (b c : ℕ) (f g : ℕ → X) → f b ≡ g b → (c ≢ b → f c ≡ g c) → f c ≡ g c
    here_or b c f g this other =
        elim (same_or c b) [
          | inl e ↦ ap f e ∙ this ∙ sym (ap g e)
          | inr n ↦ other n
        ]

    never : IsTrue false → ⊥
    never e = cc

    chosen : (tell : Bool) → IsTrue tell → told_past tell v b ≡ v.disk.past b
    chosen true yes_ = refl
    chosen false no_ = absurd (never no_)

-- a block's bytes were read
pub can_read : {after : Seen} (A b : ℕ) (got : List ℕ) (s : ℕ → StripeValue) (w : World) → StandsImage s w.tells w.image → StandsPlans s w.plans →
    (IsTrue w.tells → IsTrue (s (stripe_of b)).disk.tells) → (s (stripe_of b)).disk.align ≡ A →
    IsContent (s (stripe_of b)).disk after b got → CanRead A w b got
can_read A b got s w stands plans told align is = record {
  whole = is.whole ∙ align;
  now = λ tell. is.now (told tell) ∙ sym (stands.now tell b);
  planned = ap (λ (p : Plans). p.load) (plans (stripe_of b)) ∙ is.works;
}

-- nobody holds the block
pub can_free : (b : ℕ) (s : ℕ → StripeValue) (tells : Bool) (i : Image) → StandsImage s tells i → IsFree (s (stripe_of b)).hold b → i.holder b ≡ None
can_free b s tells i stands free = go (i.holder b) refl
  where
    go : (o : Option Hold) → i.holder b ≡ o → i.holder b ≡ None
    go None is = is
    go (Some h) is = absurd (free h.place (is_held (s (stripe_of b)).hold h b ((stands.held b h).0 is)))

-- a place that holds another block of the stripe for this end
pub held_at : {z : ℕ} (k b : ℕ) (side : Side) (s : ℕ → StripeValue) (tells : Bool) (i : Image) → StandsImage s tells i → stripe_of b ≡ z →
    (s z).hold k side ≡ Some b → i.holder b ≡ Some (hold k side)
held_at k b side s tells i stands at is = (stands.held b (hold k side)).1 (subst (λ (j : ℕ). (s j).hold k side ≡ Some b) (sym at) is)

-- nothing changed
pub same_stands : (z : ℕ) (v : StripeValue) (s t : ℕ → StripeValue) (tells : Bool) (i : Image) → Changed z v s t → v ≡ s z → StandsImage s tells i → StandsImage t tells i
same_stands z v s t tells i change same stands =
    kept_stands z v s t tells i change stands (λ tell b. ap (λ (x : StripeValue). x.disk.now b) same) (λ tell b. ap (λ (x : StripeValue). x.disk.past b) same)
    (ap (λ (x : StripeValue). x.hold) same) (ap (λ (x : StripeValue). x.clean) same)

pub can_hold : (k b : ℕ) (side : Side) (s : ℕ → StripeValue) (tells : Bool) (i : Image) → StandsImage s tells i →
    IsFree (s (stripe_of b)).hold b → (s (stripe_of b)).hold k side ≡ None → CanHold i k b side
can_hold k b side s tells i stands free open_ = record {
  free = can_free b s tells i stands free;
  one = λ c same is. none_some c (sym open_ ∙ subst (λ (j : ℕ). (s j).hold k side ≡ Some c) same ((stands.held c (hold k side)).0 is));
}

-- a place that holds a block is its holder
pub holder_is : (k b : ℕ) (s : ℕ → StripeValue) (tells : Bool) (i : Image) → StandsImage s tells i → IsHeld (s (stripe_of b)).hold k b →
    (h : Hold) × ((i.holder b ≡ Some h) × (h.place ≡ k))
holder_is k b s tells i stands (inl is) = (hold k Head, ((stands.held b (hold k Head)).1 is, refl))
holder_is k b s tells i stands (inr is) = (hold k Tail, ((stands.held b (hold k Tail)).1 is, refl))

-- a place alone holds its block
pub alone : (k b : ℕ) (s : ℕ → StripeValue) (tells : Bool) (i : Image) → StandsImage s tells i → IsHeld (s (stripe_of b)).hold k b →
    IsFreeFor (s (stripe_of b)).hold k b
alone k b s tells i stands held j other =
    let mine = holder_is k b s tells i stands held in
    let theirs = holder_is j b s tells i stands other in
    sym theirs.1.1 ∙ ap (λ (h : Hold). h.place) (one_hold theirs.0 mine.0 (sym theirs.1.0 ∙ mine.1.0)) ∙ mine.1.1
  where
    one_hold : (g h : Hold) → Some g ≡ Some h → g ≡ h
    one_hold g h e = cc

pub not_held : (k b : ℕ) (s : ℕ → StripeValue) (tells : Bool) (i : Image) → StandsImage s tells i → (IsHeld (s (stripe_of b)).hold k b → ⊥) →
    (h : Hold) → i.holder b ≡ Some h → h.place ≢ k
not_held k b s tells i stands never h is e =
    never (subst (λ (x : ℕ). IsHeld (s (stripe_of b)).hold x b) e (is_held (s (stripe_of b)).hold h b ((stands.held b h).0 is)))

-- what a store may write
pub can_store : (A k b : ℕ) (c : Client) (p : Pads) (bytes : List ℕ) (v : StripeValue) (s : ℕ → StripeValue) (tells : Bool) (i : Image) →
    StandsImage s tells i → (IsTrue tells → IsTrue (s (stripe_of b)).disk.tells) → IsFreeFor (s (stripe_of b)).hold k b → length bytes ≡ A →
    ((x : ℕ) → x < A → get_or bytes x 0 ≡ merged_at A c p b x) → Writes b bytes (s (stripe_of b)).disk v.disk →
    CanStore A i k c p b bytes (told_past tells v b)
can_store A k b c p bytes v s tells i stands told free whole merged writes = record {
  free = λ h is. free h.place (is_held (s (stripe_of b)).hold h b ((stands.held b h).0 is));
  whole = whole;
  merged = merged;
  older = go tells (λ t. stands.past t b) told;
}
  where
    go : (t : Bool) → (IsTrue t → i.past b ≡ (s (stripe_of b)).disk.past b) → (IsTrue t → IsTrue (s (stripe_of b)).disk.tells) →
        AllByRecursion (λ d. (d ≡ bytes) ⊎ Contains (i.past b) d) (told_past t v b)
    go true same tell = subst (λ (old : List (List ℕ)). AllByRecursion (λ d. (d ≡ bytes) ⊎ Contains old d) (v.disk.past b)) (sym (same refl)) ((writes.past (tell refl)).here)
    go false same tell = tt

-- what a crash may leave of the block has what it holds now, if it had before
pub may_keep : (b : ℕ) (bytes now : List ℕ) (v : StripeValue) (s : ℕ → StripeValue) (w : World) → StandsImage s w.tells w.image →
    (IsTrue w.tells → IsTrue (s (stripe_of b)).disk.tells) → Writes b bytes (s (stripe_of b)).disk v.disk → (IsTrue w.tells → v.disk.now b ≡ now) →
    MayKeep w b now (told_past w.tells v b)
may_keep b bytes now v s w stands told writes is tell had = go w.tells tell
  where
    kept : Contains (v.disk.past b) now
    kept =
        let had : Contains ((s (stripe_of b)).disk.past b) ((s (stripe_of b)).disk.now b) =
        subst (λ (x : List ℕ). Contains ((s (stripe_of b)).disk.past b) x) (stands.now tell b) (subst (λ (x : List (List ℕ)). Contains x (w.image.now b)) (stands.past tell b) had) in
        subst (λ (x : List ℕ). Contains (v.disk.past b) x) (is tell) (writes.past_now (told tell) had)

    go : (t : Bool) → IsTrue t → Contains (told_past t v b) now
    go true yes_ = kept
    go false no_ = absurd (never no_)
      where
        never : IsTrue false → ⊥
        never e = cc

-- what a plan says of a refused store, on a disk that isn't full, else this
abbrev planned_or : Option Bool → Option Bool → Bool → Bool
planned_or (Some false) (Some writes) other = writes
planned_or (Some false) None other = other
planned_or (Some true) plan other = other
planned_or None plan other = other

-- what a refused store left, where it is told
decided : (tells : Bool) (b : ℕ) (bytes : List ℕ) (old new : Seen) → (IsTrue tells → IsTrue old.tells) → MayBeStored b bytes old new → Bool
decided true b bytes old new told may =
    elim (may.now (told refl)) [
      | inl same ↦ false
      | inr stored ↦ true
    ]
decided false b bytes old new told may = false

decided_now : (tells : Bool) (b : ℕ) (bytes now : List ℕ) (old new : Seen) (told : IsTrue tells → IsTrue old.tells) (may : MayBeStored b bytes old new) →
    (IsTrue tells → now ≡ old.now b) →
    IsTrue tells → (new.now b ≡ cond (decided tells b bytes old new told may) bytes now) × ((c : ℕ) → c ≢ b → new.now c ≡ old.now c)
unfolding decided
decided_now true b bytes now old new told may same yes_ = go (may.now (told refl))
  where
    go : (d : StoredOrNot b bytes old.now new.now) →
        (new.now b ≡ cond (elim d [ inl s ↦ false | inr s ↦ true ]) bytes now) × ((c : ℕ) → c ≢ b → new.now c ≡ old.now c)
    go (inl still) = (still b ∙ sym (same refl), λ c n. still c)
    go (inr stored) = (stored.here, λ c n. stored.others c n)
decided_now false b bytes now old new told may same no_ = absurd (never no_)
  where
    never : IsTrue false → ⊥
    never e = cc

-- whether a refused store took: as its plan says, else as it is told
pub took : (tells : Bool) (b : ℕ) (bytes : List ℕ) (old new : Seen) → (IsTrue tells → IsTrue old.tells) → MayBeStored b bytes old new → Bool
took tells b bytes old new told may = planned_or old.full (plans_of old.planned).store (decided tells b bytes old new told may)

-- and what the block has then
pub took_now : (tells : Bool) (b : ℕ) (bytes now : List ℕ) (old new : Seen) (told : IsTrue tells → IsTrue old.tells) (may : MayBeStored b bytes old new) →
    (IsTrue tells → now ≡ old.now b) →
    IsTrue tells → (new.now b ≡ cond (took tells b bytes old new told may) bytes now) × ((c : ℕ) → c ≢ b → new.now c ≡ old.now c)
unfolding took
took_now tells b bytes now old new told may same tell = go old.full (plans_of old.planned).store refl refl
  where
    left : (writes : Bool) → LeftAsPlanned writes b bytes old new → (new.now b ≡ cond writes bytes now) × ((c : ℕ) → c ≢ b → new.now c ≡ old.now c)
    left false still = (still b ∙ sym (same tell), λ c n. still c)
    left true stored = (stored.here, λ c n. stored.others c n)

    go : (full plan : Option Bool) → old.full ≡ full → (plans_of old.planned).store ≡ plan →
        (new.now b ≡ cond (planned_or full plan (decided tells b bytes old new told may)) bytes now) × ((c : ℕ) → c ≢ b → new.now c ≡ old.now c)
    go (Some false) (Some writes) is_full is = left writes ((may.as_planned writes (told tell) is).left is_full)
    go (Some false) None is_full is = decided_now tells b bytes now old new told may same tell
    go (Some true) plan is_full is = decided_now tells b bytes now old new told may same tell
    go None plan is_full is = decided_now tells b bytes now old new told may same tell

pub took_as_planned : (tells : Bool) (b : ℕ) (bytes : List ℕ) (old new : Seen) (told : IsTrue tells → IsTrue old.tells) (may : MayBeStored b bytes old new) →
    (writes : Bool) → old.full ≡ Some false → (plans_of old.planned).store ≡ Some writes → took tells b bytes old new told may ≡ writes
unfolding took
took_as_planned tells b bytes old new told may writes full plan =
    ap (λ (f : Option Bool). planned_or f (plans_of old.planned).store (decided tells b bytes old new told may)) full
    ∙ ap (λ (p : Option Bool). planned_or (Some false) p (decided tells b bytes old new told may)) plan

-- What the story of a request alone tells, step by step.
use Rattle.std.proofs.Common.{◌≡◌, ℕ, ◌<◌, ◌⊎◌, inl, inr, Bool, true, false, List, [], ◌∷◌, ◌++◌, Option, Some, refl, sym, ap, ◌∙◌, subst, arith, true≢false, append-nil, append_assoc}
use Rattle.qs_bytes.specs.Geometry.{stripe_of}
use Rattle.qs_graph.specs.Table.{GraphValue}
use Rattle.qs_part.specs.declared.stripe.Side.TheVariants.{Head, Tail}
use Rattle.qs_model.specs.Requests.{Client, Pads, Req, Stage, new_request, edge, is_flush, no_route, span_of, syncs, touches, writes}
use Rattle.qs_model.specs.Worlds.{Image, World}
use Rattle.qs_model.specs.Acts.{Act, Answers, Waits, Enters, Routes, Shuts, Lists, Starts, Loads, LoadFails, Holds, HoldFails, Stores, StoreFails, Syncs, Cleans, SyncFails, Frees, Ends, Element, Asked, Did}
use Rattle.qs_model.specs.Guards.{CanCome, MayDo}
use Rattle.qs_model.specs.Histories.{Acts}
use Rattle.qs_model.specs.Steps.{Runs, world_after, happens, imaged, moved}
use Rattle.qs_model.proofs.Basics.{either, put_here, put_tells}
use Rattle.qs_model.proofs.Facts.{Ok, Shaped, Syncing, Well}
use Rattle.qs_model.proofs.Geometry.{Reaches, head_reached, reaches_edge}
use Rattle.qs_model.proofs.Kept.{for_moved, step_ok}
use Rattle.qs_model.proofs.RequestKinds.{other_one}
use Rattle.qs_verdicts.specs.Stories.{Story, Way, Unknown, Shut, Given, begun, told_from, told_row, told_step}
use Rattle.qs_verdicts.specs.Verdicts.{Meets}
use Rattle.qs_verdicts.proofs.Folds.{if_same, told_more}
use Rattle.qs_verdicts.proofs.Stripes.{touched}
use Rattle.qs_alone.specs.Alone.{AreOf, FailsOn, HasFailed, IsIdle, routed_in, way_in}
use Rattle.qs_alone.proofs.Frame.{Frame, frame_asked, frame_step}
use Rattle.qs_alone.proofs.Stages.{IsSent, Stands, given_way, row_at, shut_way, stands_asked}

-- what the story tells, and where the image is as it was
pub record Follows (A : ℕ) (w : World) (c : Client) (steps : List Element) (i : Image) (n : Story) : Type 0 where
  pub made : n.client ≡ c
  pub here : n.left ≡ false
  pub way : (n.way ≡ Unknown) ⊎ (n.way ≡ way_in w.graph c.export)
  pub fault : n.fault ≡ true → HasFailed A (routed_in w.graph c) steps
  pub still : n.worked ≡ false → i ≡ w.image
  pub past : writes c ≡ false → is_flush c.ask.kind ≡ false → i ≡ w.image

-- a failure stays one
pub failed_more : (A : ℕ) (c : Client) (steps : List Element) (e : Element) → HasFailed A c steps → HasFailed A c (steps ++ e ∷ [])
failed_more A c steps e f = record {
  front = f.front;
  step = f.step;
  comes = (f.comes.0 ++ e ∷ [], ap (λ (l : List Element). l ++ e ∷ []) f.comes.1 ∙ append_assoc f.front (f.step ∷ f.comes.0) (e ∷ []));
  stripe = f.stripe;
  small = f.small;
  fails = f.fails;
  reach = f.reach;
}

-- the request reaches the stripe, or it is a FLUSH
abbrev pub IsReached : ℕ → ℕ → Client → Type 0
IsReached A j d = (is_flush d.ask.kind ≡ true) ⊎ ((0 < d.ask.length) × Meets (edge A d Head) (edge A d Tail) j)

failed_now : (A : ℕ) (w : World) (c d : Client) (steps : List Element) (e : Element) (j : ℕ) → IsSent w c d → FailsOn A j e → j < 8 → IsReached A j d →
    HasFailed A (routed_in w.graph c) (steps ++ e ∷ [])
failed_now A w c d steps e j sent fails small reach =
    record { front = steps; step = e; comes = ([], refl); stripe = j; small = small; fails = fails; reach = subst (λ (x : Client). IsReached A j x) sent reach }

block_reached : (A b : ℕ) (d : Client) → (span_of d).lo < (span_of d).hi → Reaches A d b → IsReached A (stripe_of b) d
block_reached A b d some reach = inr (omega arith, (b, reach.first, reach.last, refl))

small_stripe : (b : ℕ) → stripe_of b < 8
small_stripe b = omega arith

sync_reached : (A s : ℕ) (d : Client) → 0 < A → Syncing d s → syncs A d s ≡ true → IsReached A s d
unfolding syncs
sync_reached A s d pos fit is = elim (either (is_flush d.ask.kind)) [
  | inl flush ↦ inl flush
  | inr other ↦
      let some : (span_of d).lo < (span_of d).hi = (fit.sound other).some in
      inr (
        omega arith,
        touched (edge A d Head) (edge A d Tail) s (head_reached A d pos some) fit.inside (other_one (is_flush d.ask.kind) (touches (edge A d Head) (edge A d Tail) s) is other),
      )
]

-- a request that neither stores nor syncs doesn't come to such a row
not_writing : (w : World) (c d : Client) → IsSent w c d → writes d ≡ true → writes c ≡ false → ⊥
not_writing w c d sent writing plain = true≢false (sym writing ∙ ap writes sent ∙ plain)

not_syncing : (w : World) (c d : Client) (s : ℕ) → IsSent w c d → Syncing d s → writes c ≡ false → is_flush c.ask.kind ≡ false → ⊥
not_syncing w c d s sent fit plain other =
    not_writing w c d sent (fit.writing (ap (λ (e : Client). is_flush e.ask.kind) sent ∙ other)) plain

module _ (A : ℕ) (w : World) (c : Client) (steps : List Element) (i : Image) (n : Story) (f : Follows A w c steps i n) where
  -- a step that tells nothing of the way, the work or a failure
  same_follows : (e : Element) → Follows A w c (steps ++ e ∷ []) i n
  same_follows e = record { made = f.made; here = f.here; way = f.way; fault = λ h. failed_more A _ steps e (f.fault h); still = f.still; past = f.past }

  listed_follows : (e : Element) → Follows A w c (steps ++ e ∷ []) i (record n { listed = true })
  listed_follows e = record { made = f.made; here = f.here; way = f.way; fault = λ h. failed_more A _ steps e (f.fault h); still = f.still; past = f.past }

  way_follows : (e : Element) (way : Way) → way_in w.graph c.export ≡ way → Follows A w c (steps ++ e ∷ []) i (record n { way = way })
  way_follows e way is =
      record { made = f.made; here = f.here; way = inr (sym is); fault = λ h. failed_more A _ steps e (f.fault h); still = f.still; past = f.past }

  -- a step that works, and one in which a disk fails
  work_follows : (e : Element) (j : Image) (ended : Bool) (got synced : List ℕ) → (writes c ≡ false → is_flush c.ask.kind ≡ false → j ≡ w.image) →
      Follows A w c (steps ++ e ∷ []) j (record n { worked = true; ended = ended; got = got; synced = synced })
  work_follows e j ended got synced past =
      record { made = f.made; here = f.here; way = f.way; fault = λ h. failed_more A _ steps e (f.fault h); still = λ h. absurd (true≢false h); past = past }

  fail_follows : (e : Element) (j : Image) (synced : List ℕ) → HasFailed A (routed_in w.graph c) (steps ++ e ∷ []) → (writes c ≡ false → is_flush c.ask.kind ≡ false → j ≡ w.image) →
      Follows A w c (steps ++ e ∷ []) j (record n { worked = true; fault = true; synced = synced })
  fail_follows e j synced failed past =
      record { made = f.made; here = f.here; way = f.way; fault = λ _. failed; still = λ h. absurd (true≢false h); past = past }

-- the story after one of the request's rows
pub row_follows : (A r : ℕ) (w x : World) (c : Client) (steps : List Element) (n : Story) (d : Client) (b : Bool) (p : Pads) {stage : Stage} (act : Act stage) → 0 < A →
    x.graph ≡ w.graph → Shaped A d stage → MayDo A x d p act → Stands A w c d x.image stage → Follows A w c steps x.image n →
    Follows A w c (steps ++ Did r (record { client = d; dropped = b; pads = p; stage = stage }) act ∷ []) (imaged A x.image d act) (told_row A n act)
row_follows A r w x c steps n d b p Answers pos graph fit may at f = same_follows A w c steps x.image n f _
row_follows A r w x c steps n d b p (Waits wait) pos graph fit may at f = same_follows A w c steps x.image n f _
row_follows A r w x c steps n d b p (Enters k) pos graph fit may at f = same_follows A w c steps x.image n f _
row_follows A r w x c steps n d b p (Routes route) pos graph fit may at f =
    way_follows A w c steps x.image n f _ (Given route)
    (ap (λ (g : GraphValue). way_in g c.export) (sym graph) ∙ ap (λ (e : Client). way_in x.graph e.export) (sym at.0) ∙ given_way x.graph d route may)
row_follows A r w x c steps n d b p Shuts pos graph fit may at f =
    way_follows A w c steps x.image n f _ Shut
    (ap (λ (g : GraphValue). way_in g c.export) (sym graph) ∙ ap (λ (e : Client). way_in x.graph e.export) (sym at.0) ∙ shut_way x.graph d may)
row_follows A r w x c steps n d b p (Lists m) pos graph fit may at f = listed_follows A w c steps x.image n f _
row_follows A r w x c steps n d b p Starts pos graph fit may at f = same_follows A w c steps x.image n f _
row_follows A r w x c steps n d b p (Loads bytes) pos graph fit may at f = work_follows A w c steps x.image n f _ x.image _ _ _ f.past
row_follows A r w x c steps n d b p (LoadFails {b = m}) pos graph fit may at f =
    fail_follows A w c steps x.image n f _ x.image n.synced
    (failed_now A w c d steps _ (stripe_of m) at.0 refl (small_stripe m) (block_reached A m d fit.sound.some fit.reach)) f.past
row_follows A r w x c steps n d b p (Holds {k = k} {side = side} bytes) pos graph fit may at f =
    work_follows A w c steps x.image n f _ (imaged A x.image d (Holds {k = k} {side = side} bytes)) n.ended n.got n.synced
    (λ plain _. absurd (not_writing w c d at.0 fit.writing plain))
row_follows A r w x c steps n d b p (HoldFails {side = side}) pos graph fit may at f =
    fail_follows A w c steps x.image n f _ x.image n.synced
    (failed_now A w c d steps _ (stripe_of (edge A d side)) at.0 refl (small_stripe (edge A d side))
    (block_reached A (edge A d side) d fit.sound.some (reaches_edge A d side pos fit.sound.some))) f.past
row_follows A r w x c steps n d b p (Stores {k = k} {b = m} bytes past) pos graph fit may at f =
    work_follows A w c steps x.image n f _ (imaged A x.image d (Stores {k = k} {b = m} bytes past)) _ n.got []
    (λ plain _. absurd (not_writing w c d at.0 fit.writing plain))
row_follows A r w x c steps n d b p (StoreFails {k = k} {b = m} bytes took past) pos graph fit may at f =
    fail_follows A w c steps x.image n f _ (imaged A x.image d (StoreFails {k = k} {b = m} bytes took past)) []
    (failed_now A w c d steps _ (stripe_of m) at.0 refl (small_stripe m) (block_reached A m d fit.sound.some fit.reach))
    (λ plain _. absurd (not_writing w c d at.0 fit.writing plain))
row_follows A r w x c steps n d b p (Syncs {k = k} {s = s}) pos graph fit may at f =
    work_follows A w c steps x.image n f _ (imaged A x.image d (Syncs {k = k} {s = s})) n.ended n.got _
    (λ plain other. absurd (not_syncing w c d s at.0 fit plain other))
row_follows A r w x c steps n d b p (Cleans {s = s}) pos graph fit may at f = work_follows A w c steps x.image n f _ x.image n.ended n.got _ f.past
row_follows A r w x c steps n d b p (SyncFails {s = s}) pos graph fit may at f =
    fail_follows A w c steps x.image n f _ x.image n.synced (failed_now A w c d steps _ s at.0 refl fit.inside (sync_reached A s d pos fit at.1)) f.past
row_follows A r w x c steps n d b p (Frees {k = k} {side = side}) pos graph fit may at f =
    work_follows A w c steps x.image n f _ (imaged A x.image d (Frees {k = k} {side = side})) n.ended n.got n.synced
    (λ plain _. absurd (not_writing w c d at.0 fit.writing plain))
row_follows A r w x c steps n d b p Ends pos graph fit may at f = same_follows A w c steps x.image n f _

-- all that is known of a request alone behind its own steps
pub record Tracks (A : ℕ) (w : World) (r : ℕ) (c : Client) (steps : List Element) (x : World) : Type 0 where
  pub story : Story
  pub told : told_from A r (Some (begun c)) steps ≡ Some story
  pub ok : Ok A x
  pub frame : Frame w r x
  pub follows : Follows A w c steps x.image story
  pub stands : (q : Req) → x.req r ≡ Some q → (q.dropped ≡ false) × Stands A w c q.client x.image q.stage

same_req : (a b : Req) → Some a ≡ Some b → a ≡ b
same_req a b e = cc

pub tracks_asked : (A : ℕ) (w : World) (r : ℕ) (c : Client) → 0 < A → Ok A w → IsIdle w → CanCome A w (Asked r c) → Tracks A w r c [] (happens A w (Asked r c))
tracks_asked A w r c pos ok idle may = record {
  story = begun c;
  told = refl;
  ok = step_ok A w (Asked r c) pos ok may;
  frame = frame_asked A w r c idle;
  follows = record { made = refl; here = refl; way = inl refl; fault = λ h. absurd (true≢false (sym h)); still = λ _. refl; past = λ _ _. refl };
  stands = λ q is. subst (λ (x : Req). (x.dropped ≡ false) × Stands A w c x.client w.image x.stage) (same_req (new_request c) q (sym (put_here w.req r (Some (new_request c))) ∙ is))
      (refl, stands_asked A w c);
}

pub tracks_step : (A : ℕ) (w : World) (r : ℕ) (c : Client) (steps : List Element) (x : World) (e : Element) → 0 < A → c.route ≡ no_route → CanCome A x e → Acts r e →
    Tracks A w r c steps x → Tracks A w r c (steps ++ e ∷ []) (happens A x e)
tracks_step A w r c steps x (Did s q act) pos unrouted may own t =
    let there : x.req r ≡ Some q = subst (λ (k : ℕ). x.req k ≡ Some q) own may.0 in
    let (here, at) = t.stands q there in
    let well : Well A x.tells x.tracker x.image q = t.ok.well r q there in
    record {
      story = told_row A t.story act;
      told = told_more A r (Some (begun c)) steps (Did s q act) ∙ ap (λ (o : Option Story). told_step A r o (Did s q act)) t.told
          ∙ ap Some (if_same s r (told_row A t.story act) t.story own);
      ok = step_ok A x (Did s q act) pos t.ok may;
      frame = frame_step A w r x (Did s q act) own t.frame;
      follows = row_follows A s w x c steps t.story q.client q.dropped q.pads act pos t.frame.graph well.shaped may.1 at t.follows;
      stands = λ p is. elim (put_tells x.req s (moved A q.client q.dropped q.pads act) r (Some p) is) [
        | inl h ↦
            let row = for_moved (λ y. (y.dropped ≡ q.dropped) × Stands A w c y.client (imaged A x.image q.client act) y.stage) _ p
            (row_at A s w x c q.client q.dropped q.pads act pos t.frame.tells t.frame.graph unrouted well.shaped well.kept may.1 at) h.1 in
            (row.0 ∙ here, row.1)
        | inr h ↦ absurd (h.0 (sym own))
      ];
    }
tracks_step A w r c steps x _ pos unrouted may own t = absurd own

pub tracks_run : (A : ℕ) (w : World) (r : ℕ) (c : Client) (steps : List Element) (x : World) (es : List Element) → 0 < A → c.route ≡ no_route → Runs A x es → AreOf r es →
    Tracks A w r c steps x → Tracks A w r c (steps ++ es) (world_after A x es)
tracks_run A w r c steps x [] pos unrouted run own t = subst (λ (l : List Element). Tracks A w r c l x) (sym (append-nil steps)) t
tracks_run A w r c steps x (e ∷ es) pos unrouted run own t =
    subst (λ (l : List Element). Tracks A w r c l (world_after A (happens A x e) es)) (append_assoc steps (e ∷ []) es)
    (tracks_run A w r c (steps ++ e ∷ []) (happens A x e) es pos unrouted run.1 own.1 (tracks_step A w r c steps x e pos unrouted run.0 own.0 t))

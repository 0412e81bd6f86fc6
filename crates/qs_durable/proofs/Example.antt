-- What the example shows: before the FLUSH a crash may leave the old block, and behind it none can.
use Rattle.std.proofs.Common.{◌≡◌, ℕ, zero, suc, ◌<◌, inl, inr, true, false, List, [], ◌∷◌, ◌++◌, get_or, refl, sym, ap, ◌∙◌, subst, arith, true≢false, lit<, append-nil, append_assoc}
use Rattle.std.specs.List.{Contains}
use Rattle.std.proofs.lemmas.List.{append_cancel_left}
use Rattle.qs_graph.specs.Exports.{new_export}
use Rattle.qs_tracker.specs.declared.seat.Listing.{Listing}
use Rattle.qs_model.specs.Puts.{put}
use Rattle.qs_bytes.specs.declared.ask.Verdict.TheVariants.{Fine}
use Rattle.qs_model.specs.Requests.{ToEnd, Entering, In, no_route, edge, has, merged_at, serial, routed, held, started, stored, synced, syncs, to_sync}
use Rattle.qs_model.specs.Acts.{Enters, Ends, Element, Asked, Did}
use Rattle.qs_model.specs.Guards.{CanCome}
use Rattle.qs_model.specs.Steps.{world_after, Runs}
use Rattle.qs_model.specs.Laws.{opening_world}
use Rattle.qs_model.specs.Example.{image_route, zeros}
use Rattle.qs_model.proofs.Basics.{put_cases}
use Rattle.qs_model.proofs.Holders.{some_none}
use Rattle.qs_model.proofs.Kept.{runs_back}
use Rattle.qs_model.proofs.Padded.{alone}
use Rattle.qs_examples.specs.Examples.{block, no_pads, small_opening, request, second}
use Rattle.qs_examples.specs.OtherKinds.{flusher}
use Rattle.qs_durable.specs.Ages.{LeavesNoOlder}
use Rattle.qs_durable.specs.Bounds.{IsBound, Flushed}
use Rattle.qs_durable.specs.Example.{acknowledged, asked_elements, flushed, lost, syncing, durable_zeroer}
use Rattle.qs_durable.proofs.Rows.{only_member}

-- the one span that is listed: the second block
abbrev of_zeroer : Listing
of_zeroer = record { span = record { lo = 4; hi = 8 }; serial = false; number = 0; started = false }

merged_zeros : (x : ℕ) → x < 4 → get_or zeros x 0 ≡ merged_at 4 (durable_zeroer image_route) no_pads 1 x
unfolding edge
merged_zeros zero h = refl
merged_zeros (suc zero) h = refl
merged_zeros (suc (suc zero)) h = refl
merged_zeros (suc (suc (suc zero))) h = refl
merged_zeros (suc (suc (suc (suc x)))) h = absurd (omega arith)

-- the steps up to the acknowledged WRITE_ZEROES, and what follows
begun : (more : List Element) → Runs 4 (world_after 4 (opening_world small_opening) acknowledged) more → Runs 4 (opening_world small_opening) (acknowledged ++ more)
unfolding put edge has serial routed held started stored synced syncs to_sync
begun more rest = (
  ((((refl, refl), refl), refl), refl),
  (
    (refl, (refl, refl, lit< tt)),
    (
      record { next = refl; room = lit< tt; live = refl; unrouted = refl; buffered = λ e. refl; body = λ a b. absurd (true≢false (sym a)); refused = λ a b. absurd (true≢false (sym a)); other = λ e. refl },
      (
        (refl, (refl, refl)),
        (
          (refl, (record (new_export (101 ∷ []) (100 ∷ []) true false) { clients = 1 }, (refl, refl))),
          (
            (refl, (refl, refl)),
            (
              (refl, λ k p. alone of_zeroer k p),
              (
                (refl, (record { free = λ h is. absurd (some_none (sym is)); whole = refl; merged = merged_zeros; older = (inr (0, lit< tt, refl), (inl refl, tt)) }, λ told had. (1, lit< tt, refl), refl)),
                ((refl, λ e. cc), rest),
              ),
            ),
          ),
        ),
      ),
    ),
  ),
)

-- a crash behind the acknowledged WRITE_ZEROES may leave the old block
old_contained : (b : ℕ) → Contains ((world_after 4 (opening_world small_opening) acknowledged).image.past b) (block b)
unfolding edge
old_contained b =
    put_cases (λ l. Contains l (block b)) (λ c. block c ∷ []) 1 (second ∷ zeros ∷ []) b
    (λ e. subst (λ (c : ℕ). Contains (second ∷ zeros ∷ []) (block c)) (sym e) (0, lit< tt, refl)) (λ n. (0, lit< tt, refl))

pub lost_before : Runs 4 (opening_world small_opening) (acknowledged ++ lost ∷ [])
lost_before = begun (lost ∷ []) (λ b told. old_contained b, tt)

not_nothing : (xs : List Element) (e : Element) (ys : List Element) → [] ≡ xs ++ e ∷ ys → ⊥
not_nothing [] e ys is = cc
not_nothing (x ∷ xs) e ys is = cc

is_zero : get_or ((world_after 4 (opening_world small_opening) acknowledged).image.now 1) 0 0 ≡ 5 → ⊥
unfolding put edge
is_zero e = cc

-- which is older than the acknowledgement
pub older : LeavesNoOlder 4 (opening_world small_opening) 4 acknowledged acknowledged → ⊥
older none = elim (none 5 (record { content = second; left = old_contained 1; byte = refl })) [
  | inl h ↦ old_value h.position h.later.0 h.before.0 h.later.1 h.before.1 h.value
  | inr h ↦ nothing_behind h.position h.store h.later.0 h.before.0 h.later.1 h.before.1
]
  where
    nothing_left : (xs ys : List Element) → [] ≡ xs ++ ys → xs ≡ []
    nothing_left [] ys e = refl
    nothing_left (x ∷ xs) ys e = absurd (cc)

    old_value : (position more rest : List Element) → position ≡ acknowledged ++ more → acknowledged ≡ position ++ rest →
        get_or ((world_after 4 (opening_world small_opening) position).image.now 1) 0 0 ≡ 5 → ⊥
    old_value position more rest here there value =
        let image_route : acknowledged ++ [] ≡ acknowledged ++ (more ++ rest) =
        append-nil acknowledged ∙ there ∙ ap (λ (l : List Element). l ++ rest) here ∙ append_assoc acknowledged more rest in
        let same : position ≡ acknowledged =
        here ∙ ap (λ (l : List Element). acknowledged ++ l) (nothing_left more rest (append_cancel_left acknowledged [] (more ++ rest) image_route)) ∙ append-nil acknowledged in
        is_zero (sym (ap (λ (l : List Element). get_or ((world_after 4 (opening_world small_opening) l).image.now 1) 0 0) same) ∙ value)

    nothing_behind : (position : List Element) (store : Element) (more rest : List Element) → position ≡ acknowledged ++ more →
        acknowledged ≡ position ++ store ∷ rest → ⊥
    nothing_behind position store more rest here there =
        let image_route : acknowledged ++ [] ≡ acknowledged ++ (more ++ store ∷ rest) =
        append-nil acknowledged ∙ there ∙ ap (λ (l : List Element). l ++ store ∷ rest) here ∙ append_assoc acknowledged more (store ∷ rest) in
        not_nothing more store rest (append_cancel_left acknowledged [] (more ++ store ∷ rest) image_route)

-- the FLUSH
abbrev following : List Element
following =
    Asked 1 (flusher no_route)
    ∷ Did 1 (request (flusher no_route) no_pads Entering) (Enters 0)
    ∷ (syncing ++ Did 1 (request (flusher image_route) no_pads (In 0 (ToEnd Fine))) Ends ∷ [])

pub flush_runs : Runs 4 (opening_world small_opening) flushed
unfolding put edge has serial routed held started stored synced syncs to_sync
flush_runs = begun following (
  record { next = refl; room = lit< tt; live = refl; unrouted = refl; buffered = λ e. refl; body = λ a b. absurd (true≢false (sym a)); refused = λ a b. absurd (true≢false (sym a)); other = λ e. refl },
  (
    (refl, (refl, refl)),
    (
      (refl, (record (new_export (101 ∷ []) (100 ∷ []) true false) { clients = 1 }, (refl, refl))),
      (
        (refl, (refl, refl)),
        ((refl, refl), ((refl, refl), ((refl, refl), ((refl, refl), ((refl, refl), ((refl, refl), ((refl, refl), ((refl, λ e. cc), tt)))))))),
      ),
    ),
  ),
)

pub flush_reached : IsBound 4 4 asked_elements flushed
flush_reached = Flushed (record {
  number = 1;
  client = flusher image_route;
  flush = refl;
  enter = _;
  enters = (refl, tt);
  between = syncing;
  answer = _;
  fine = (refl, refl, refl);
  course = refl;
})

not_zeros : second ≡ zeros → ⊥
not_zeros e = cc

-- a crash behind it can't leave the old block
pub lost_after : Runs 4 (opening_world small_opening) (flushed ++ lost ∷ []) → ⊥
unfolding put edge
lost_after run =
    let may : CanCome 4 (world_after 4 (opening_world small_opening) flushed) lost = (runs_back 4 (opening_world small_opening) flushed (lost ∷ []) run).0 in
    let old : second ≡ zeros = only_member zeros second (may 1 refl) in
    not_zeros old

-- The padded write of the example is a run.
use Rattle.std.proofs.Common.{◌≡◌, ◌≢◌, ℕ, zero, suc, ◌<◌, inl, inr, true, false, [], ◌∷◌, replicate, Option, Some, None, refl, sym, subst, ap, arith, true≢false, lit<, get_or}
use Rattle.std.specs.List.{filter_map, slice_set}
use Rattle.qs_part.specs.declared.stripe.Side.{Side}
use Rattle.qs_part.specs.declared.stripe.Side.TheVariants.{Head, Tail}
use Rattle.qs_graph.specs.Exports.{new_export}
use Rattle.qs_tracker.specs.declared.seat.Listing.{Listing}
use Rattle.qs_tracker.specs.declared.seat.Seat.{Seat}
use Rattle.qs_tracker.specs.declared.seat.Seat.TheVariants.{Vacant, Present, Has}
use Rattle.qs_tracker.specs.Seats.{Precedes, seat_at}
use Rattle.qs_tracker.proofs.Seats.{at_set, nobody}
use Rattle.qs_model.specs.Puts.{put}
use Rattle.qs_model.specs.Requests.{edge, has, serial, routed, held, started, stored, merged_at}
use Rattle.qs_model.specs.Worlds.{Hold}
use Rattle.qs_model.specs.Steps.{world_after, Runs}
use Rattle.qs_model.specs.Laws.{opening_world}
use Rattle.qs_model.specs.Events.{outcome_of}
use Rattle.qs_model.specs.Example.{zeros, padded_opening, image_route, example_client, pads, padded, example_outcomes}
use Rattle.qs_model.proofs.Holders.{some_none}
use Rattle.qs_model.proofs.Basics.{put_tells}

pub padded_answers : filter_map (outcome_of 4) padded ≡ example_outcomes
unfolding edge
padded_answers = refl

pub merged_first : (x : ℕ) → x < 4 → get_or (0 ∷ 0 ∷ 0 ∷ 7 ∷ []) x 0 ≡ merged_at 4 (example_client image_route) (pads zeros zeros) 0 x
unfolding edge
merged_first zero h = refl
merged_first (suc zero) h = refl
merged_first (suc (suc zero)) h = refl
merged_first (suc (suc (suc zero))) h = refl
merged_first (suc (suc (suc (suc x)))) h = absurd (omega arith)

pub merged_second : (x : ℕ) → x < 4 → get_or (8 ∷ 0 ∷ 0 ∷ 0 ∷ []) x 0 ≡ merged_at 4 (example_client image_route) (pads zeros zeros) 1 x
unfolding edge
merged_second zero h = refl
merged_second (suc zero) h = refl
merged_second (suc (suc zero)) h = refl
merged_second (suc (suc (suc zero))) h = refl
merged_second (suc (suc (suc (suc x)))) h = absurd (omega arith)

pub other_side : (c : ℕ) → put {X = Option Hold} (λ b. None) 0 (Some (record { place = 0; side = Head })) c ≢ Some (record { place = 0; side = Tail })
other_side c is = elim (put_tells {X = Option Hold} (λ b. None) 0 (Some (record { place = 0; side = Head })) c (Some (record { place = 0; side = Tail })) is) [
  | inl h ↦ absurd (ends h.1)
  | inr h ↦ some_none (sym h.1)
]
  where
    side_of : Option Hold → Side
    side_of None = Head
    side_of (Some h) = h.side

    at_end : Side → Option Hold
    at_end side = Some (record { place = 0; side = side })

    ends : at_end Head ≡ at_end Tail → ⊥
    ends e = let f : Head ≡ Tail = ap side_of e in cc

pub place_of : (a h : Hold) → Some a ≡ Some h → h.place ≡ a.place
place_of a h e = let f : h ≡ a = cc in ap (λ (x : Hold). x.place) f

-- the one span that is listed
abbrev own : Listing
own = record { span = record { lo = 0; hi = 8 }; serial = true; number = 0; started = false }

-- it goes before no other
pub alone : (l : Listing) (j : ℕ) → Precedes (seat_at (slice_set (slice_set (replicate 256 Vacant) 0 Present) 0 (Has l)) j) l → ⊥
alone l j =
    at_set (λ (s : Seat). Precedes s l → ⊥) (slice_set (replicate 256 Vacant) 0 Present) 0 (Has l) j
    (at_set (λ (s : Seat). Precedes s l → ⊥) (replicate 256 Vacant) 0 Present j
    (subst (λ (s : Seat). Precedes s l → ⊥) (sym (nobody 256 j)) (λ p. p)) (λ _ p. p))
    (λ _ p. omega (arith, p.0))

pub padded_runs : Runs 4 (opening_world padded_opening) padded
unfolding put edge has serial routed held started stored
padded_runs = (
  ((((refl, refl), refl), refl), refl),
  (
    (refl, (refl, refl, lit< tt)),
    (
      record { next = refl; room = lit< tt; live = refl; unrouted = refl; buffered = λ e. refl; body = λ a b. refl; refused = λ a b. inr refl; other = λ e. absurd (true≢false e) },
      (
        (refl, (refl, refl)),
        (
          (refl, (record (new_export (101 ∷ []) (100 ∷ []) true false) { clients = 1 }, (refl, refl))),
          (
            (refl, (refl, refl)),
            (
              (refl, λ k p. alone own k p),
              (
                (refl, (record { free = refl; one = λ c same is. some_none (sym is) }, record { whole = refl; now = λ t. refl; planned = refl })),
                (
                  (refl, (record { free = refl; one = λ c same is. other_side c is }, record { whole = refl; now = λ t. refl; planned = refl })),
                  (
                    (refl, (record { free = λ h is. place_of _ h is; whole = refl; merged = merged_first; older = (inr (0, lit< tt, refl), (inl refl, tt)) }, λ told had. (1, lit< tt, refl), refl)),
                    (
                      (refl, (record { free = λ h is. place_of _ h is; whole = refl; merged = merged_second; older = (inr (0, lit< tt, refl), (inl refl, tt)) }, λ told had. (1, lit< tt, refl), refl)),
                      (
                        (refl, λ e. cc),
                        tt,
                      ),
                    ),
                  ),
                ),
              ),
            ),
          ),
        ),
      ),
    ),
  ),
)

pub padded_blocks : ((world_after 4 (opening_world padded_opening) padded).image.now 0 ≡ 0 ∷ 0 ∷ 0 ∷ 7 ∷ []) × ((world_after 4 (opening_world padded_opening) padded).image.now 1 ≡ 8 ∷ 0 ∷ 0 ∷ 0 ∷ [])
unfolding put edge
padded_blocks = (refl, refl)

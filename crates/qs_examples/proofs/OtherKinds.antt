-- The examples of the other kinds are runs, and are answered so.
use Rattle.std.proofs.Common.{◌≡◌, ℕ, zero, suc, ◌<◌, inl, inr, true, false, [], ◌∷◌, get_or, refl, sym, arith, true≢false, lit<}
use Rattle.std.specs.List.{filter_map}
use Rattle.qs_graph.specs.Exports.{new_export}
use Rattle.qs_tracker.specs.declared.seat.Listing.{Listing}
use Rattle.qs_model.specs.Puts.{put}
use Rattle.qs_model.specs.Requests.{edge, has, merged_at, serial, routed, held, started, stored, synced, syncs, to_sync}
use Rattle.qs_model.specs.Steps.{world_after, Runs}
use Rattle.qs_model.specs.Laws.{opening_world}
use Rattle.qs_model.specs.Events.{outcome_of}
use Rattle.qs_model.specs.Example.{image_route, zeros}
use Rattle.qs_model.proofs.Holders.{some_none}
use Rattle.qs_model.proofs.Padded.{alone}
use Rattle.qs_examples.specs.Examples.{no_pads, small_opening}
use Rattle.qs_examples.specs.OtherKinds.{dirty, flushing, flushing_answers, locked, trimming, trimming_answers, zeroer, zeroing, zeroing_answers}

pub flushing_told : filter_map (outcome_of 4) flushing ≡ flushing_answers
flushing_told = refl

pub zeroing_told : filter_map (outcome_of 4) zeroing ≡ zeroing_answers
zeroing_told = refl

pub trimming_told : filter_map (outcome_of 4) trimming ≡ trimming_answers
trimming_told = refl

pub flushing_runs : Runs 4 (opening_world dirty) flushing
unfolding put routed synced syncs to_sync
flushing_runs = (
  ((((refl, refl), refl), refl), refl),
  (
    (refl, (refl, refl, lit< tt)),
    (
      record { next = refl; room = lit< tt; live = refl; unrouted = refl; buffered = λ e. refl; body = λ a b. absurd (true≢false (sym a)); refused = λ a b. absurd (true≢false (sym a)); other = λ e. refl },
      (
        (refl, (refl, refl)),
        (
          (refl, (record (new_export (101 ∷ []) (100 ∷ []) true false) { clients = 1 }, (refl, refl))),
          (
            (refl, (refl, refl)),
            (
              (refl, refl),
              ((refl, refl), ((refl, refl), ((refl, refl), ((refl, refl), ((refl, refl), ((refl, refl), ((refl, λ e. cc), tt))))))),
            ),
          ),
        ),
      ),
    ),
  ),
)

pub flushing_clean : (world_after 4 (opening_world dirty) flushing).image.clean 0 ≡ true
unfolding put
flushing_clean = refl

-- the one span that is listed: the second block
abbrev of_zeroer : Listing
of_zeroer = record { span = record { lo = 4; hi = 8 }; serial = false; number = 0; started = false }

merged_zeros : (x : ℕ) → x < 4 → get_or zeros x 0 ≡ merged_at 4 (zeroer image_route) no_pads 1 x
unfolding edge
merged_zeros zero h = refl
merged_zeros (suc zero) h = refl
merged_zeros (suc (suc zero)) h = refl
merged_zeros (suc (suc (suc zero))) h = refl
merged_zeros (suc (suc (suc (suc x)))) h = absurd (omega arith)

pub zeroing_runs : Runs 4 (opening_world small_opening) zeroing
unfolding put edge has serial routed held started stored synced syncs to_sync
zeroing_runs = (
  ((((refl, refl), refl), refl), refl),
  (
    (refl, (refl, refl, lit< tt)),
    (
      record { next = refl; room = lit< tt; live = refl; unrouted = refl; buffered = λ e. refl; body = λ a b. absurd (true≢false (sym a)); refused = λ a b. absurd (true≢false (sym a)); other = λ e. refl },
      (
        (refl, (refl, refl)),
        (
          (refl, (record (new_export (101 ∷ []) (100 ∷ []) true false) { clients = 1 }, (refl, refl))),
          (
            (refl, (refl, refl)),
            (
              (refl, λ k p. alone of_zeroer k p),
              (
                (refl, (record { free = λ h is. absurd (some_none (sym is)); whole = refl; merged = merged_zeros; older = (inr (0, lit< tt, refl), (inl refl, tt)) }, λ told had. (1, lit< tt, refl), refl)),
                ((refl, (refl, refl)), ((refl, λ e. cc), tt)),
              ),
            ),
          ),
        ),
      ),
    ),
  ),
)

pub zeroing_past : (world_after 4 (opening_world small_opening) zeroing).image.past 1 ≡ zeros ∷ []
unfolding put edge
zeroing_past = refl

pub trimming_runs : Runs 4 (opening_world locked) trimming
unfolding put routed
trimming_runs = (
  ((((refl, refl), refl), refl), refl),
  (
    (refl, (refl, refl, lit< tt)),
    (
      record { next = refl; room = lit< tt; live = refl; unrouted = refl; buffered = λ e. refl; body = λ a b. absurd (true≢false (sym a)); refused = λ a b. absurd (true≢false (sym a)); other = λ e. refl },
      (
        (refl, (refl, refl)),
        (
          (refl, (record (new_export (101 ∷ []) (100 ∷ []) false false) { clients = 1 }, (refl, refl))),
          (
            (refl, λ e. cc),
            tt,
          ),
        ),
      ),
    ),
  ),
)

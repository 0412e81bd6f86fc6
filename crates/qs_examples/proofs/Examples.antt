-- Each example is a run, and is answered so.
use Rattle.std.proofs.Common.{◌≡◌, ℕ, inl, inr, true, false, [], ◌∷◌, Option, Some, None, refl, sym, ap, ◌∙◌, true≢false, lit<}
use Rattle.std.specs.List.{filter_map}
use Rattle.qs_graph.specs.Exports.{new_export}
use Rattle.qs_tracker.specs.declared.seat.Listing.{Listing}
use Rattle.qs_model.specs.Puts.{put}
use Rattle.qs_model.specs.Requests.{Req, edge, has, serial, routed, held, hold_failed, started, loaded}
use Rattle.qs_model.specs.Steps.{world_after, leaves, Runs}
use Rattle.qs_model.specs.Laws.{opening_world}
use Rattle.qs_model.specs.Events.{outcome_of}
use Rattle.qs_model.proofs.Basics.{put_other, put_tells}
use Rattle.qs_model.proofs.Holders.{some_none}
use Rattle.qs_model.proofs.Padded.{alone, other_side}
use Rattle.qs_examples.specs.Examples.{small_opening, first_half, second, reading, reading_answers, failing, failing_answers, dropping, dropping_answers, refusing, refusing_answers}

pub reading_told : filter_map (outcome_of 4) reading ≡ reading_answers
unfolding edge
reading_told = refl

pub failing_told : filter_map (outcome_of 4) failing ≡ failing_answers
unfolding edge
failing_told = refl

pub dropping_told : filter_map (outcome_of 4) dropping ≡ dropping_answers
unfolding edge
dropping_told = refl

pub refusing_told : filter_map (outcome_of 4) refusing ≡ refusing_answers
unfolding edge
refusing_told = refl

-- the one span that is listed
abbrev of_reader : Listing
of_reader = record { span = record { lo = 0; hi = 8 }; serial = false; number = 0; started = false }

abbrev of_writer : Listing
of_writer = record { span = record { lo = 0; hi = 8 }; serial = true; number = 0; started = false }

pub reading_runs : Runs 4 (opening_world small_opening) reading
unfolding put edge has serial routed held started loaded
reading_runs = (
  ((((refl, refl), refl), refl), refl),
  (
    (refl, (refl, refl, lit< tt)),
    (
      record { next = refl; room = lit< tt; live = refl; unrouted = refl; buffered = λ e. refl; body = λ a b. absurd (true≢false (sym a)); refused = λ a b. absurd (true≢false (sym a)); other = λ e. refl },
      (
        (refl, (refl, refl)),
        (
          (refl, (record (new_export (101 ∷ []) (100 ∷ []) true false) { clients = 1 }, (refl, refl))),
          (
            (refl, (refl, refl)),
            (
              (refl, λ k p. alone of_reader k p),
              (
                (refl, record { whole = refl; now = λ t. refl; planned = refl }),
                (
                  (refl, record { whole = refl; now = λ t. refl; planned = refl }),
                  (
                    (refl, λ e. cc),
                    tt,
                  ),
                ),
              ),
            ),
          ),
        ),
      ),
    ),
  ),
)

pub failing_runs : Runs 4 (opening_world small_opening) failing
unfolding put edge has serial routed held hold_failed started
failing_runs = (
  ((((refl, refl), refl), refl), refl),
  (
    (refl, (refl, refl, lit< tt)),
    (
      record { next = refl; room = lit< tt; live = refl; unrouted = refl; buffered = λ e. refl; body = λ a b. refl; refused = λ a b. inr refl; other = λ e. absurd (true≢false e) },
      (
        (refl, (refl, refl)),
        (
          (refl, (record (new_export (101 ∷ []) (100 ∷ []) true false) { clients = 1 }, (refl, refl))),
          (
            (refl, (refl, refl)),
            (
              (refl, λ k p. alone of_writer k p),
              (
                (refl, (record { free = refl; one = λ c same is. some_none (sym is) }, record { whole = refl; now = λ t. refl; planned = refl })),
                (
                  (refl, record { free = refl; one = λ c same is. other_side c is }),
                  (
                    (refl, (_, (refl, refl))),
                    (
                      (refl, λ e. cc),
                      tt,
                    ),
                  ),
                ),
              ),
            ),
          ),
        ),
      ),
    ),
  ),
)

pub failing_blocks : ((world_after 4 (opening_world small_opening) failing).image.now 0 ≡ first_half) × ((world_after 4 (opening_world small_opening) failing).image.now 1 ≡ second)
unfolding put edge
failing_blocks = (refl, refl)

pub refusing_runs : Runs 4 (opening_world small_opening) refusing
unfolding put edge has serial routed
refusing_runs = (
  ((((refl, refl), refl), refl), refl),
  (
    (refl, (refl, refl, lit< tt)),
    (
      record { next = refl; room = lit< tt; live = refl; unrouted = refl; buffered = λ e. refl; body = λ a b. absurd (true≢false (sym a)); refused = λ a b. absurd (true≢false (sym a)); other = λ e. refl },
      (
        (refl, (refl, refl)),
        (
          (refl, (record (new_export (101 ∷ []) (100 ∷ []) true false) { clients = 1 }, (refl, refl))),
          (
            (refl, λ e. cc),
            tt,
          ),
        ),
      ),
    ),
  ),
)

-- the one request has ended, and the session has left
none_left : (a b : Option Req) (r : ℕ) (q : Req) → put (λ j. leaves 1 (put (put {X = Option Req} (λ i. None) 0 a) 0 b j)) 0 None r ≡ Some q → ⊥
none_left a b r q is = elim (put_tells (λ j. leaves 1 (put (put {X = Option Req} (λ i. None) 0 a) 0 b j)) 0 None r (Some q) is) [
  | inl h ↦ some_none (sym h.1)
  | inr h ↦ some_none (sym (sym (ap (λ (o : Option Req). leaves 1 o) (put_other (put {X = Option Req} (λ i. None) 0 a) 0 b r h.0 ∙ put_other {X = Option Req} (λ i. None) 0 a r h.0)) ∙ h.1))
]

pub dropping_runs : Runs 4 (opening_world small_opening) dropping
unfolding put edge has serial routed
dropping_runs = (
  ((((refl, refl), refl), refl), refl),
  (
    (refl, (refl, refl, lit< tt)),
    (
      record { next = refl; room = lit< tt; live = refl; unrouted = refl; buffered = λ e. refl; body = λ a b. absurd (true≢false (sym a)); refused = λ a b. absurd (true≢false (sym a)); other = λ e. refl },
      (
        (refl, (refl, refl)),
        (
          refl,
          (
            (refl, λ e. cc),
            (
              ((refl, λ had. none_left _ _ had.0 had.1 had.2.0), lit< tt),
              tt,
            ),
          ),
        ),
      ),
    ),
  ),
)

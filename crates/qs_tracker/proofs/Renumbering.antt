-- Spans that are numbered anew keep their order.
use Rattle.std.proofs.Common.{◌≡◌, ℕ, ◌-◌, ◌^◌, ◌<◌, ◌≤◌, List, Bool, true, false, cond, refl, sym, ◌∙◌, ap, subst, arith}
use Rattle.std.specs.Prelude.{nat_lt, count_by, ◌↔◌}
use Rattle.std.proofs.lemmas.Bool.Decides.{nat_tests}
use Rattle.std.proofs.lemmas.List.Sums.{count_by-le-length}
use Rattle.qs_tracker.specs.declared.seat.Listing.{Listing}
use Rattle.qs_tracker.specs.declared.seat.Seat.{Seat}
use Rattle.qs_tracker.specs.declared.seat.Seat.TheVariants.{Vacant, Present, Has}
use Rattle.qs_tracker.specs.Seats.{seat_at, is_listed, rank, ranked, renumbered}
use Rattle.qs_tracker.specs.Table.{TrackerValue, numbered}
use Rattle.qs_tracker.specs.History.{IsListed, SameSeat, Renumbered}
use Rattle.qs_tracker.proofs.Ranks.{rank_le, rank_lt, rank_below}
use Rattle.qs_tracker.proofs.Dense.{rank_dense, rank_all}
use Rattle.qs_tracker.proofs.Sound.{Sound, Before, before, ranked_at, same_listing}

abbrev pub anew : TrackerValue → TrackerValue
anew v = record { seats = renumbered v.seats; number = count_by is_listed v.seats; quiesced = v.quiesced }

pub same_ranked : (seats : List Seat) (s : Seat) → SameSeat s (ranked seats s)
same_ranked seats (Has l) = refl
same_ranked seats Vacant = tt
same_ranked seats Present = tt

-- the new number of a span is the rank of the old one
pub is_rank : (v : TrackerValue) (k : ℕ) (l p : Listing) → IsListed v k l → IsListed (anew v) k p → p.number ≡ rank v.seats l.number
is_rank v k l p h f = go (before v.seats k p f)
  where
    go : Before v.seats k p → p.number ≡ rank v.seats l.number
    go b =
        let one : l ≡ b.old = same_listing l b.old (sym h ∙ b.at) in
        sym (ap (λ (x : Listing). x.number) b.is) ∙ ap (λ (x : Listing). rank v.seats x.number) (sym one)

pub in_order : (v : TrackerValue) (j k : ℕ) (l m p n : Listing) → IsListed v j l → IsListed v k m → IsListed (anew v) j p → IsListed (anew v) k n →
    l.number < m.number ↔ p.number < n.number
in_order v j k l m p n a b c d = (forth, back (nat_lt l.number m.number) refl)
  where
    first : p.number ≡ rank v.seats l.number
    first = is_rank v j l p a c

    second : n.number ≡ rank v.seats m.number
    second = is_rank v k m n b d

    forth : l.number < m.number → p.number < n.number
    forth h = omega (arith, first, second, rank_lt v.seats j l m.number a h)

    back : (t : Bool) → nat_lt l.number m.number ≡ t → p.number < n.number → l.number < m.number
    back true e h = grind (arith, nat_tests)
    back false e h =
        let most : m.number ≤ l.number = grind (arith, nat_tests) in
        absurd (omega (arith, h, first, second, rank_le v.seats m.number l.number most))

pub anew_dense : (v : TrackerValue) (n : ℕ) → Sound v → n < count_by is_listed v.seats →
    (k : ℕ) × (l : Listing) × (IsListed (anew v) k l × (l.number ≡ n))
anew_dense v n sound h =
    let all : rank v.seats v.number ≡ count_by is_listed v.seats = rank_all v.seats v.number sound.below in
    go (rank_dense v.seats v.number n sound.one (omega (arith, h, all)))
  where
    go : (k : ℕ) × (l : Listing) × ((seat_at v.seats k ≡ Has l) × (rank v.seats l.number ≡ n)) →
        (k : ℕ) × (l : Listing) × (IsListed (anew v) k l × (l.number ≡ n))
    go w =
        let new : Listing = record w.1 { number = rank v.seats w.1.number } in
        (w.0, new, (ranked_at v.seats w.0 ∙ ap (λ (s : Seat). ranked v.seats s) w.2.0, w.2.1))

pub anew_renumbered : (v : TrackerValue) → Sound v → Renumbered v (anew v)
anew_renumbered v sound = record {
  quiesced = refl;
  same = λ k. subst (λ (s : Seat). SameSeat (seat_at v.seats k) s) (sym (ranked_at v.seats k)) (same_ranked v.seats (seat_at v.seats k));
  order = λ j k l m p n a b c d. in_order v j k l m p n a b c d;
  below = λ k l h. below k l (before v.seats k l h);
  dense = λ n h. anew_dense v n sound h;
  room = omega (arith, count_by-le-length is_listed v.seats, sound.size);
}
  where
    below : (k : ℕ) (l : Listing) → Before v.seats k l → l.number < count_by is_listed v.seats
    below k l b = omega (arith, ap (λ (x : Listing). x.number) b.is, rank_below v.seats k b.old b.at)

pub numbered_anew : (v : TrackerValue) → Sound v → 2 ^ 64 - 1 ≤ v.number → Renumbered v (numbered v)
numbered_anew v sound h = go (nat_lt v.number (2 ^ 64 - 1)) refl
  where
    go : (b : Bool) → nat_lt v.number (2 ^ 64 - 1) ≡ b → Renumbered v (cond b v (anew v))
    go true e = absurd (grind (arith, nat_tests))
    go false e = anew_renumbered v sound

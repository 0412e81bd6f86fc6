-- A serialising request is undivided.
use Rattle.std.proofs.Common.{◌≡◌, ℕ, ◌*◌, ◌<◌, ◌⊎◌, inl, inr, true, List, ◌∷◌, ◌++◌, Option, Some, None, refl, sym, ap, ◌∙◌, subst}
use Rattle.qs_bytes.specs.Spans.{Covers, aligned_out}
use Rattle.qs_model.specs.Requests.{Client, Req, Stage, ToRoute, ToList, ToStart, ToLoad, ToHold, ToStore, ToSync, ToFree, ToEnd, Ready, Entering, In, span_of, serial}
use Rattle.qs_tracker.specs.Table.{TrackerValue}
use Rattle.qs_model.specs.Worlds.{World}
use Rattle.qs_model.specs.Acts.{Element, Did}
use Rattle.qs_model.specs.Guards.{CanCome}
use Rattle.qs_model.specs.Steps.{happens, world_after, Runs}
use Rattle.qs_model.specs.Histories.{IsEntry}
use Rattle.qs_model.specs.Laws.{Undivided}
use Rattle.qs_model.proofs.Basics.{put_here}
use Rattle.qs_model.proofs.Geometry.{reached_outward}
use Rattle.qs_model.proofs.Facts.{Seats, Goes, IsAt, Well, Ok}
use Rattle.qs_model.proofs.Kept.{step_ok, run_ok, runs_front, runs_back}
use Rattle.qs_model.proofs.Working.{entry_works, work_apart}
use Rattle.qs_model.proofs.Along.{IsLate, IsLast, Passed, Over, entry_late, late_moves, passed_lasts, over_lasts, last_entry, lasts_run, lasts_step, next_step, next_run}

-- a request at its blocks has its place, where it has started, or is behind them
pub late_goes : (A : ℕ) (t : TrackerValue) (c : Client) (g : Stage) → IsLate g → Seats A t c g → IsLast g ⊎ ((k : ℕ) × (IsAt g k × Goes A t c k))
late_goes A t c (Ready v) late seats = absurd late
late_goes A t c Entering late seats = absurd late
late_goes A t c (In k ToRoute) late seats = absurd late
late_goes A t c (In k ToList) late seats = absurd late
late_goes A t c (In k ToStart) late seats = absurd late
late_goes A t c (In k (ToLoad b got)) late seats = inr (k, (refl, seats))
late_goes A t c (In k (ToHold side)) late seats = inr (k, (refl, seats))
late_goes A t c (In k (ToStore b)) late seats = inr (k, (refl, seats))
late_goes A t c (In k (ToSync s)) late seats = inl tt
late_goes A t c (In k (ToFree side)) late seats = inr (k, (refl, seats))
late_goes A t c (In k (ToEnd v)) late seats = inl tt

-- after an entry the request is at its blocks, or behind them
pub entry_passes : (A : ℕ) (w : World) (r : ℕ) (c : Client) (m : ℕ) (e : Element) → Ok A w → CanCome A w e → IsEntry A r c m e →
    Passed c ((happens A w e).req r) × (r < w.next)
entry_passes A w r c m (Did s q act) ok may is =
    let (same, client, entry) = is in (
      subst (λ (x : Client). Passed x ((happens A w (Did s q act)).req r)) client
          (subst (λ (o : Option Req). Passed q.client o) (sym (ap (happens A w (Did s q act)).req (sym same) ∙ put_here w.req s _))
          (late_moves A q.client q.dropped q.pads act (entry_late A q.client act m entry))),
      subst (λ (n : ℕ). n < w.next) same (ok.below s q may.0),
    )
entry_passes A w r c m _ ok may is = absurd is

-- a request that is over has no entry
pub over_entry : (A : ℕ) (w : World) (r : ℕ) (c : Client) (n : ℕ) (e : Element) → CanCome A w e → Over (w.req r) → IsEntry A r c n e → ⊥
over_entry A w r c n (Did s q act) may over is =
    let (same, client, entry) = is in
    last_entry A q.client act n (subst (λ (o : Option Req). Over o) (ap w.req (sym same) ∙ may.0) over) entry
over_entry A w r c n _ may over is = absurd is

-- an entry of another on one of the request's blocks, while the request is at its blocks
pub other_entry : (A : ℕ) (w : World) (r s : ℕ) (c d : Client) (b k : ℕ) (q : Req) (e : Element) → 0 < A → Ok A w → CanCome A w e → w.req r ≡ Some q → q.client ≡ c →
    IsAt q.stage k → Goes A w.tracker q.client k → serial A c ≡ true → IsEntry A s d b e → Covers (aligned_out (span_of c) A) (b * A) → s ≡ r
other_entry A w r s c d b k q (Did u p act) pos ok may here client at goes is entry covers =
    let (same, other, on) = entry in
    let well : Well A w.tells w.tracker w.image p = ok.well u p may.0 in
    let (j, works) = entry_works A w.tracker p.client act b pos well.shaped well.seated on in
    let place : k ≡ j =
    work_apart A w.tracker q.client p.client k j (b * A) ok.tracker goes works.goes
    (subst (λ (x : Client). Covers (aligned_out (span_of x) A) (b * A)) (sym client) covers)
    (reached_outward A p.client b pos works.sound.some works.reach) (subst (λ (x : Client). serial A x ≡ true) (sym client) is) in
    sym same ∙ ok.one u r p q j may.0 here works.at (subst (λ (n : ℕ). IsAt q.stage n) place at)
other_entry A w r s c d b k q _ pos ok may here client at goes is entry covers = absurd entry

-- either it is the request's own entry, or the request is over
pub split_state : (A : ℕ) (w : World) (r : ℕ) (c : Client) → Ok A w → Passed c (w.req r) →
    Over (w.req r) ⊎ ((q : Req) × (k : ℕ) × ((w.req r ≡ Some q) × (q.client ≡ c) × IsAt q.stage k × Goes A w.tracker q.client k))
split_state A w r c ok passed = go (w.req r) refl passed
  where
    go : (o : Option Req) → w.req r ≡ o → Passed c o → Over o ⊎ ((q : Req) × (k : ℕ) × ((w.req r ≡ Some q) × (q.client ≡ c) × IsAt q.stage k × Goes A w.tracker q.client k))
    go None is passed = inl tt
    go (Some q) is passed = elim (late_goes A w.tracker q.client q.stage passed.1 (ok.well r q is).seated) [
      | inl last ↦ inl last
      | inr h ↦ inr (q, h.0, (is, passed.0, h.1.0, h.1.1))
    ]

pub undivided : (A : ℕ) (w : World) (es : List Element) → 0 < A → Ok A w → Runs A w es → Undivided A es
undivided A w es pos ok run r s c d m n b first other last before middle rest behind split at_first at_last is at_other covers =
    let run' : Runs A w (before ++ first ∷ (middle ++ other ∷ (rest ++ last ∷ behind))) = subst (λ (l : List Element). Runs A w l) split run in
    let w1 : World = world_after A w before in
    let ok1 : Ok A w1 = run_ok A w before pos ok (runs_front A w before _ run') in
    let run1 : Runs A w1 (first ∷ (middle ++ other ∷ (rest ++ last ∷ behind))) = runs_back A w before _ run' in
    let passed1 : Passed c ((happens A w1 first).req r) × (r < w1.next) = entry_passes A w1 r c m first ok1 run1.0 at_first in
    let w2 : World = happens A w1 first in
    let made2 : r < w2.next = next_step A w1 first r passed1.1 in
    let ok2 : Ok A w2 = step_ok A w1 first pos ok1 run1.0 in
    let front : Runs A w2 middle = runs_front A w2 middle _ run1.1 in
    let w3 : World = world_after A w2 middle in
    let ok3 : Ok A w3 = run_ok A w2 middle pos ok2 front in
    let run3 : Runs A w3 (other ∷ (rest ++ last ∷ behind)) = runs_back A w2 middle _ run1.1 in
    let passed3 : Passed c (w3.req r) = lasts_run A (Passed c) (passed_lasts A c) w2 middle r front made2 passed1.0 in
    let made3 : r < w3.next = next_run A w2 middle r made2 in
    elim (split_state A w3 r c ok3 passed3) [
      | inl over ↦ absurd (over_last w3 run3 made3 over)
      | inr h ↦ other_entry A w3 r s c d b h.1 h.0 other pos ok3 run3.0 h.2.0 h.2.1 h.2.2 h.2.3 is at_other covers
    ]
  where
    over_last : (w3 : World) → Runs A w3 (other ∷ (rest ++ last ∷ behind)) → r < w3.next → Over (w3.req r) → ⊥
    over_last w3 run3 made3 over =
        let w4 : World = happens A w3 other in
        let made4 : r < w4.next = next_step A w3 other r made3 in
        let over4 : Over (w4.req r) = lasts_step A Over (over_lasts A) w3 other r run3.0 made3 over in
        let front : Runs A w4 rest = runs_front A w4 rest _ run3.1 in
        let run5 : Runs A (world_after A w4 rest) (last ∷ behind) = runs_back A w4 rest _ run3.1 in
        over_entry A (world_after A w4 rest) r c n last run5.0 (lasts_run A Over (over_lasts A) w4 rest r front made4 over4) at_last

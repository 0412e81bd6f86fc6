-- What a request alone has done at each stage: its way, and the bytes.
use Rattle.std.proofs.Common.{◌≡◌, ℕ, ◌+◌, ◌-◌, ◌*◌, ◌<◌, ◌≤◌, inl, inr, Bool, true, false, not, ◌&&◌, ◌||◌, ◌==◌, nat_lt, List, [], ◌++◌, length, IsTrue, refl, sym, ap, ◌∙◌, subst, arith, true≢false}
use Rattle.qs_bytes.specs.declared.ask.Kind.{Kind}
use Rattle.qs_bytes.specs.declared.ask.Kind.TheVariants.{Read, Write, Zero, Trim, Flush, Unknown}
use Rattle.qs_bytes.specs.declared.ask.Errno.TheVariants.{Inval, NoSpace}
use Rattle.qs_bytes.specs.declared.ask.Verdict.TheVariants.{Got, Fine, Refused}
use Rattle.qs_graph.specs.Table.{GraphValue, May as GraphMay}
use Rattle.qs_part.specs.declared.graph.GraphOp.TheVariants.{Route as RouteOp}
use Rattle.qs_part.specs.declared.graph.GraphReply.TheVariants.{Routed, Shutting}
use Rattle.qs_part.specs.declared.graph.Route.{Route}
use Rattle.qs_part.specs.declared.stripe.Side.{Side}
use Rattle.qs_part.specs.declared.stripe.Side.TheVariants.{Head, Tail}
use Rattle.qs_model.specs.Requests.{Client, Pads, Step, Stage, ToRoute, ToList, ToStart, ToLoad, ToHold, ToStore, ToSync, ToFree, ToEnd, Ready, Entering, In, new_request, edge, form_error, has, held, hold_failed, is_flush, is_trim, loaded, no_route, piece, reads, routed, span_of, started, store_failed, stored, stores_bytes, success, synced, syncs, to_sync, wants_writable, writes}
use Rattle.qs_model.specs.Worlds.{Image, World}
use Rattle.qs_model.specs.Acts.{Act, Answers, Waits, Enters, Routes, Shuts, Lists, Starts, Loads, LoadFails, Holds, HoldFails, Stores, StoreFails, Syncs, Cleans, SyncFails, Frees, Ends}
use Rattle.qs_model.specs.Guards.{MayDo}
use Rattle.qs_model.specs.Steps.{imaged, moved}
use Rattle.qs_model.proofs.Basics.{choose, either}
use Rattle.qs_model.proofs.Facts.{Keeps, Loading, Shaped}
use Rattle.qs_model.proofs.Geometry.{covers_high, covers_low, same_eqb}
use Rattle.qs_model.proofs.Machine.{ForMoved, loaded_whole}
use Rattle.qs_model.proofs.RequestKinds.{other_one, trim_no_read}
use Rattle.qs_verdicts.specs.Stories.{Way, Shut, Given, route_by}
use Rattle.qs_verdicts.proofs.Stripes.{chosen, flush_picks, to_sync_from}
use Rattle.qs_alone.specs.Alone.{AnswerChanges, routed_in, way_by, way_in}
use Rattle.qs_alone.proofs.Bytes.{Front, HasRead, Same, front_last, front_next, front_none, front_refused, front_stored, none_empty, none_first, none_plain, none_zero, read_last, read_more, read_next, read_none}

-- the request is with the way that the graph gave
abbrev pub IsSent : World → Client → Client → Type 0
IsSent w c d = d ≡ routed_in w.graph c

-- what stands at each operation: the client, the stripes that it syncs, and the bytes where the disks tell them
abbrev pub At : ℕ → World → Client → Client → Image → Step → Type 0
At A w c d i ToRoute = (d ≡ c) × (IsTrue w.tells → Same A w.image i)
At A w c d i ToList = IsSent w c d × (IsTrue w.tells → Same A w.image i)
At A w c d i ToStart = IsSent w c d × (IsTrue w.tells → Same A w.image i)
At A w c d i (ToLoad b got) = IsSent w c d × (IsTrue w.tells → Same A w.image i × HasRead A w.image d (b * A) got)
At A w c d i (ToHold side) = IsSent w c d × (IsTrue w.tells → Same A w.image i)
At A w c d i (ToStore b) = IsSent w c d × (IsTrue w.tells → Front A w.image d (b * A) i)
At A w c d i (ToSync s) = IsSent w c d × (syncs A d s ≡ true) × (IsTrue w.tells → Front A w.image d (span_of d).hi i)
At A w c d i (ToFree side) = IsSent w c d × (IsTrue w.tells → (n : ℕ) × Front A w.image d n i)
At A w c d i (ToEnd v) = IsSent w c d × (IsTrue w.tells → AnswerChanges A w.image d v i)

abbrev pub Stands : ℕ → World → Client → Client → Image → Stage → Type 0
Stands A w c d i (Ready v) = (e : Client) → IsTrue w.tells → AnswerChanges A w.image e v i
Stands A w c d i Entering = (d ≡ c) × (IsTrue w.tells → Same A w.image i)
Stands A w c d i (In k step) = At A w c d i step

-- a request that was just made
pub stands_asked : (A : ℕ) (w : World) (c : Client) → Stands A w c c w.image (new_request c).stage
stands_asked A w c =
    let P : Stage → Type 0 = λ g. Stands A w c c w.image g in
    choose P (form_error c.ask) _ _ (λ _ e told x. refl)
    (λ _. choose P c.buffered _ _ (λ _. (refl, λ told x. refl)) (λ _ e told x. refl))

-- what the graph said of the way
pub given_way : (g : GraphValue) (c : Client) (route : Route) → GraphMay g (RouteOp c.export) (Routed route) → way_in g c.export ≡ Given route
given_way g c route (x, (at, is)) = ap (way_by g.size) at ∙ ap (λ (r : Route). Given r) (sym is)

pub shut_way : (g : GraphValue) (c : Client) → GraphMay g (RouteOp c.export) Shutting → way_in g c.export ≡ Shut
shut_way g c may = ap (way_by g.size) may

pub given_client : (g : GraphValue) (c : Client) (route : Route) → way_in g c.export ≡ Given route → record c { route = route } ≡ routed_in g c
given_client g c route is = ap (λ (way : Way). record c { route = route_by way }) (sym is)

pub shut_client : (g : GraphValue) (c : Client) → c.route ≡ no_route → way_in g c.export ≡ Shut → c ≡ routed_in g c
shut_client g c unrouted is = ap (λ (r : Route). record c { route = r }) unrouted ∙ ap (λ (way : Way). record c { route = route_by way }) (sym is)

flush_no_store : (k : Kind) → is_flush k ≡ true → stores_bytes k ≡ false
flush_no_store Flush e = refl
flush_no_store Trim e = refl
flush_no_store Read e = refl
flush_no_store Write e = absurd (true≢false (sym e))
flush_no_store Zero e = absurd (true≢false (sym e))
flush_no_store (Unknown n) e = refl

trim_no_store : (k : Kind) → is_trim k ≡ true → stores_bytes k ≡ false
trim_no_store Trim e = refl
trim_no_store Flush e = refl
trim_no_store Read e = refl
trim_no_store Write e = absurd (true≢false (sym e))
trim_no_store Zero e = absurd (true≢false (sym e))
trim_no_store (Unknown n) e = refl

-- a request for no place, or a TRIM
pub ended_at : (A : ℕ) (w : World) (d : Client) (i : Image) → (d.ask.length == 0 || is_trim d.ask.kind) ≡ true → Same A w.image i → AnswerChanges A w.image d (success d []) i
ended_at A w d i is same = choose (λ v. AnswerChanges A w.image d v i) (reads d) (Got []) Fine
    (λ reading.
    let none : d.ask.length ≡ 0 = empty reading in (
      sym none,
      λ x covered.
          let low : (span_of d).lo ≤ x = covers_low d x covered in
          let high : x < (span_of d).hi = covers_high d x covered in
          absurd (omega (arith, none)),
      same,
    ))
    (λ other. front_none A w.image i d (span_of d).hi (λ x. elim (either (d.ask.length == 0)) [
      | inl none ↦ none_empty d (span_of d).hi x (same_eqb d.ask.length 0 none)
      | inr some ↦ none_plain d (span_of d).hi x (trim_no_store d.ask.kind (other_one _ _ is some))
    ]) same)
  where
    empty : reads d ≡ true → d.ask.length ≡ 0
    empty reading = elim (either (d.ask.length == 0)) [
      | inl none ↦ same_eqb d.ask.length 0 none
      | inr some ↦ absurd (true≢false (sym reading ∙ trim_no_read d.ask.kind (other_one _ _ is some)))
    ]

pub routed_at : (A : ℕ) (w : World) (c d : Client) (i : Image) → IsSent w c d → (IsTrue w.tells → Same A w.image i) → At A w c d i (routed d)
unfolding routed
routed_at A w c d i own same =
    let P : Step → Type 0 = λ g. At A w c d i g in
    choose P (wants_writable d.ask.kind && not d.route.writable) _ _ (λ _. (own, same))
    (λ _. choose P (is_flush d.ask.kind) _ _
    (λ flush. (own, flush_picks A d 0 flush, λ told. front_none A w.image i d (span_of d).hi (λ x. none_plain d (span_of d).hi x (flush_no_store d.ask.kind flush)) (same told)))
    (λ _. choose P (nat_lt d.route.size (d.ask.offset + d.ask.length)) _ _
    (λ _. (own, λ told. choose (λ e. AnswerChanges A w.image d (Refused e) i) (writes d) NoSpace Inval (λ _. same told) (λ _. same told)))
    (λ _. choose P (d.ask.length == 0 || is_trim d.ask.kind) _ _ (λ is. (own, λ told. ended_at A w d i is (same told))) (λ _. (own, same)))))

pub held_at : (A : ℕ) (w : World) (c d : Client) (i : Image) (side : Side) → 0 < A → IsSent w c d → (IsTrue w.tells → Same A w.image i) → At A w c d i (held A d side)
unfolding held
held_at A w c d i Head pos own same =
    choose (λ g. At A w c d i g) (has A d Tail) _ _ (λ _. (own, same))
    (λ _. (own, λ told. front_none A w.image i d (edge A d Head * A) (λ x. none_first A d x pos) (same told)))
held_at A w c d i Tail pos own same = (own, λ told. front_none A w.image i d (edge A d Head * A) (λ x. none_first A d x pos) (same told))

pub started_at : (A : ℕ) (w : World) (c d : Client) (i : Image) → 0 < A → IsSent w c d → (IsTrue w.tells → Same A w.image i) → At A w c d i (started A d)
unfolding started
started_at A w c d i pos own same =
    choose (λ g. At A w c d i g) (reads d) _ _ (λ _. (own, λ told. (same told, read_none A w.image d pos)))
    (λ _. choose (λ g. At A w c d i g) (has A d Head) _ _ (λ _. (own, same)) (λ _. held_at A w c d i Head pos own same))

pub loaded_at : (A : ℕ) (w : World) (c d : Client) (i : Image) (b : ℕ) (got bytes : List ℕ) → 0 < A → IsSent w c d → Loading A d b got → length bytes ≡ A →
    (IsTrue w.tells → (bytes ≡ i.now b) × Same A w.image i × HasRead A w.image d (b * A) got) → At A w c d i (loaded A d b got bytes)
unfolding loaded
loaded_at A w c d i b got bytes pos own l whole can =
    choose (λ g. At A w c d i g) (b == edge A d Tail) _ _
    (λ e. let at : b ≡ edge A d Tail = same_eqb b (edge A d Tail) e in
    (own, λ told. (loaded_whole A d b got bytes pos l whole at, read_last A w.image d b _ pos l.sound.some at (more told), (can told).1)))
    (λ e. (own, λ told. ((can told).1, read_next A w.image d b _ (more told))))
  where
    more : IsTrue w.tells → HasRead A w.image d (b * A + A) (got ++ piece A d b bytes)
    more told = read_more A w.image i d b got bytes pos l whole (can told).0 (can told).1 (can told).2

pub synced_at : (A : ℕ) (w : World) (c d : Client) (i : Image) (n : ℕ) → n ≤ 8 → IsSent w c d → (IsTrue w.tells → Front A w.image d (span_of d).hi i) → At A w c d i (to_sync A d n)
synced_at A w c d i n few own front =
    to_sync_from (λ g. At A w c d i g) A d n (chosen (syncs A d) (8 - n)) few refl (λ _. (own, front)) (λ s small is _. (own, is, front))

pub synced_row : (A : ℕ) (w : World) (c d : Client) (i : Image) (s : ℕ) → IsSent w c d → (IsTrue w.tells → Front A w.image d (span_of d).hi i) → At A w c d i (synced A d s)
unfolding synced
synced_row A w c d i s own front = synced_at A w c d i (7 - s) (omega arith) own front

pub stored_at : (A : ℕ) (w : World) (c d : Client) (i : Image) (b : ℕ) → 0 < A → (span_of d).lo < (span_of d).hi → IsSent w c d →
    (IsTrue w.tells → Front A w.image d (b * A + A) i) → At A w c d i (stored A d b)
unfolding stored
stored_at A w c d i b pos some own front =
    choose (λ g. At A w c d i g) (b == edge A d Tail) _ _
    (λ e. let at : b ≡ edge A d Tail = same_eqb b (edge A d Tail) e in
    let all : IsTrue w.tells → Front A w.image d (span_of d).hi i = λ told. front_last A w.image i d b pos some at (front told) in
    choose (λ g. At A w c d i g) d.ask.fua _ _ (λ _. synced_at A w c d i 8 (omega arith) own all) (λ _. (own, all)))
    (λ _. (own, λ told. front_next A w.image i d b (front told)))

pub hold_failed_at : (A : ℕ) (w : World) (c d : Client) (i : Image) (side : Side) → IsSent w c d → (IsTrue w.tells → Same A w.image i) → At A w c d i (hold_failed A d side)
unfolding hold_failed
hold_failed_at A w c d i side own same = go side
  where
    none : IsTrue w.tells → (n : ℕ) × Front A w.image d n i
    none told = (0, front_none A w.image i d 0 (λ x. none_zero d x) (same told))

    go : (side : Side) → At A w c d i (hold_failed A d side)
    go Head = (own, none)
    go Tail = choose (λ g. At A w c d i g) (has A d Head) _ _ (λ _. (own, none)) (λ _. (own, none))

pub store_failed_at : (A : ℕ) (w : World) (c d : Client) (i : Image) (b : ℕ) → IsSent w c d → (IsTrue w.tells → (n : ℕ) × Front A w.image d n i) → At A w c d i (store_failed A d b)
unfolding store_failed
store_failed_at A w c d i b own front =
    choose (λ g. At A w c d i g) (has A d Tail && not (b == edge A d Tail)) _ _ (λ _. (own, front)) (λ _. (own, front))

-- a request alone after one of its rows
pub row_at : (A r : ℕ) (w x : World) (c d : Client) (b : Bool) (p : Pads) {stage : Stage} (act : Act stage) → 0 < A → x.tells ≡ w.tells → x.graph ≡ w.graph → c.route ≡ no_route →
    Shaped A d stage → Keeps A x.tells x.image d p stage → MayDo A x d p act → Stands A w c d x.image stage →
    ForMoved (λ q. (q.dropped ≡ b) × Stands A w c q.client (imaged A x.image d act) q.stage) (moved A d b p act)
row_at A r w x c d b p Answers pos tells graph unrouted fit kept may at = tt
row_at A r w x c d b p (Waits wait) pos tells graph unrouted fit kept may at = (refl, at)
row_at A r w x c d b p (Enters k) pos tells graph unrouted fit kept may at = (refl, at)
row_at A r w x c d b p (Routes {k = k} route) pos tells graph unrouted fit kept may at =
    let way : way_in x.graph d.export ≡ Given route = given_way x.graph d route may in
    let sent : record d { route = route } ≡ routed_in x.graph d = given_client x.graph d route way in
    (refl, routed_at A w c (record d { route = route }) x.image (sent ∙ ap (λ (e : Client). routed_in x.graph e) at.0 ∙ ap (λ (g : GraphValue). routed_in g c) graph) at.1)
row_at A r w x c d b p (Shuts {k = k}) pos tells graph unrouted fit kept may at =
    let way : way_in x.graph d.export ≡ Shut = shut_way x.graph d may in
    let none : d.route ≡ no_route = ap (λ (e : Client). e.route) at.0 ∙ unrouted in
    (refl, (shut_client x.graph d none way ∙ ap (λ (e : Client). routed_in x.graph e) at.0 ∙ ap (λ (g : GraphValue). routed_in g c) graph, at.1))
row_at A r w x c d b p (Lists {k = k} n) pos tells graph unrouted fit kept may at = (refl, at)
row_at A r w x c d b p (Starts {k = k}) pos tells graph unrouted fit kept may at = (refl, started_at A w c d x.image pos at.0 at.1)
row_at A r w x c d b p (Loads {k = k} {b = n} {got = got} bytes) pos tells graph unrouted fit kept may at =
    (refl, loaded_at A w c d x.image n got bytes pos at.0 fit may.whole (λ told. (may.now (subst (λ (t : Bool). IsTrue t) (sym tells) told), (at.1 told).0, (at.1 told).1)))
row_at A r w x c d b p (LoadFails {k = k}) pos tells graph unrouted fit kept may at =
    (refl, (at.0, λ told. (0, front_none A w.image x.image d 0 (λ y. none_zero d y) (at.1 told).0)))
row_at A r w x c d b p (Holds {k = k} {side = side} bytes) pos tells graph unrouted fit kept may at =
    (refl, held_at A w c d (imaged A x.image d (Holds {k = k} {side = side} bytes)) side pos at.0 at.1)
row_at A r w x c d b p (HoldFails {k = k} {side = side}) pos tells graph unrouted fit kept may at = (refl, hold_failed_at A w c d x.image side at.0 at.1)
row_at A r w x c d b p (Stores {k = k} {b = n} bytes past) pos tells graph unrouted fit kept may at = (
  refl,
  stored_at A w c d (imaged A x.image d (Stores {k = k} {b = n} bytes past)) n pos fit.sound.some at.0
      (λ told. front_stored A r x w.image d p k n bytes past pos (subst (λ (t : Bool). IsTrue t) (sym tells) told) fit kept may (at.1 told)),
)
row_at A r w x c d b p (StoreFails {k = k} {b = n} bytes took past) pos tells graph unrouted fit kept may at = (
  refl,
  store_failed_at A w c d (imaged A x.image d (StoreFails {k = k} {b = n} bytes took past)) n at.0
      (λ told. front_refused A r x w.image d p k n bytes took past pos (subst (λ (t : Bool). IsTrue t) (sym tells) told) fit kept may (at.1 told)),
)
row_at A r w x c d b p (Syncs {k = k} {s = s}) pos tells graph unrouted fit kept may at = (refl, synced_row A w c d (imaged A x.image d (Syncs {k = k} {s = s})) s at.0 at.2)
row_at A r w x c d b p (Cleans {k = k} {s = s}) pos tells graph unrouted fit kept may at = (refl, synced_row A w c d x.image s at.0 at.2)
row_at A r w x c d b p (SyncFails {k = k}) pos tells graph unrouted fit kept may at = (refl, (at.0, λ told. ((span_of d).hi, at.2 told)))
row_at A r w x c d b p (Frees {k = k}) pos tells graph unrouted fit kept may at = (refl, (at.0, at.1))
row_at A r w x c d b p Ends pos tells graph unrouted fit kept may at = tt

-- Each step keeps what is told of a request's story.
use Rattle.std.proofs.Common.{◌≡◌, ◌≢◌, ℕ, suc, ◌+◌, ◌-◌, ◌<◌, ◌≤◌, ◌⊎◌, inl, inr, Bool, true, false, not, ◌&&◌, ◌||◌, ◌==◌, cond, nat_lt, List, [], ◌∷◌, ◌++◌, Some, refl, sym, ap, ◌∙◌, subst, arith, true≢false}
use Rattle.qs_bytes.specs.declared.ask.Ask.{Ask}
use Rattle.qs_bytes.specs.declared.ask.Kind.TheVariants.{Flush}
use Rattle.qs_bytes.specs.declared.ask.Verdict.{Verdict}
use Rattle.qs_bytes.specs.declared.ask.Verdict.TheVariants.{Got, Fine, Refused, Dropped}
use Rattle.qs_bytes.specs.declared.ask.Errno.{Errno}
use Rattle.qs_bytes.specs.declared.ask.Errno.TheVariants.{Perm, Io, Shutdown}
use Rattle.qs_part.specs.declared.graph.Route.{Route}
use Rattle.qs_part.specs.declared.stripe.Side.{Side}
use Rattle.qs_part.specs.declared.stripe.Side.TheVariants.{Head, Tail}
use Rattle.qs_model.specs.Requests.{Client, Pads, Step, Stage, ToRoute, ToList, ToStart, ToLoad, ToHold, ToStore, ToSync, ToFree, ToEnd, Ready, Entering, In, edge, has, is_flush, is_read, is_trim, wants_writable, reads, writes, piece, routed, held, started, loaded, stored, synced, syncs, to_sync, hold_failed, store_failed, abandoned, no_route}
use Rattle.qs_model.specs.Worlds.{World}
use Rattle.qs_model.specs.Acts.{Act, Answers, Waits, Enters, Routes, Shuts, Lists, Starts, Loads, LoadFails, Holds, HoldFails, Stores, StoreFails, Syncs, Cleans, SyncFails, Frees, Ends}
use Rattle.qs_model.specs.Guards.{MayDo}
use Rattle.qs_model.specs.Steps.{moved}
use Rattle.qs_model.proofs.Basics.{choose, either}
use Rattle.qs_model.proofs.Facts.{Shaped, Storing, Syncing}
use Rattle.qs_model.proofs.Geometry.{head_reached}
use Rattle.qs_model.proofs.Machine.{ForMoved}
use Rattle.qs_model.proofs.RequestKinds.{other_one}
use Rattle.qs_verdicts.specs.Stories.{Story, Way, Unknown, Shut, Given, is_last, route_by, sent, told_row}
use Rattle.qs_verdicts.specs.Verdicts.{AreStripes, done, is_forced, needs_leave, needs_room, verdict_by_way, reply_on_way, verdict_of}
use Rattle.qs_verdicts.proofs.TableKinds.{Forces, flush_is, flush_no_read, forced_is, is_a_flush, leave_is, room_is, room_no_flush, room_no_read, room_no_trim, writes_forced}
use Rattle.qs_verdicts.proofs.Lines.{IsGood, Passed, flush_line, good_reply, passed_line, perm_line, range_line}
use Rattle.qs_verdicts.proofs.Stripes.{chosen, chosen_next, flush_all, flush_picks, own_stripes, to_sync_from}

-- nothing has happened to the request yet
pub record IsFresh (n : Story) : Type 0 where
  pub good : IsGood n
  pub here : n.left ≡ false
  pub way : n.way ≡ Unknown
  pub listed : n.listed ≡ false
  pub worked : n.worked ≡ false
  pub fault : n.fault ≡ false
  pub got : n.got ≡ []
  pub synced : n.synced ≡ []

-- it has its way, and wants its span listed
pub record IsRouted (n : Story) : Type 0 where
  pub here : n.left ≡ false
  pub passed : Passed n
  pub listed : n.listed ≡ false
  pub worked : n.worked ≡ false
  pub fault : n.fault ≡ false
  pub got : n.got ≡ []

-- It syncs stripe s, and has synced those below that it picks: a FLUSH, which has no span, or a forced write that has stored
-- its last block. A FLUSH ends when its session leaves.
pub record IsSyncing (A : ℕ) (n : Story) (s : ℕ) : Type 0 where
  pub passed : Passed n
  pub fault : n.fault ≡ false
  pub picked : syncs A (sent n) s ≡ true
  pub before : n.synced ≡ chosen (syncs A (sent n)) s
  pub flush : is_flush n.client.ask.kind ≡ true → (n.listed ≡ false) × (n.left ≡ false)
  pub forced : is_flush n.client.ask.kind ≡ false → (n.ended ≡ true) × (is_forced n.client.ask ≡ true)

-- its answer is fixed, and its course is over
pub record IsEnding (A : ℕ) (n : Story) (v : Verdict) : Type 0 where
  pub reply : n.left ≡ false → verdict_by_way n.client.ask n.client.buffered n.way n.fault n.got ≡ Some v
  pub course : n.listed ≡ true →
      (n.fault ≡ true) ⊎ ((n.ended ≡ true) × (is_forced n.client.ask ≡ true → AreStripes A (sent n) n.synced))
  pub failed : n.fault ≡ true → Passed n
  pub flushed : n.client.ask.kind ≡ Flush → v ≡ Fine → n.synced ≡ 0 ∷ 1 ∷ 2 ∷ 3 ∷ 4 ∷ 5 ∷ 6 ∷ 7 ∷ []
  pub forced : is_forced n.client.ask ≡ true → v ≡ Fine → AreStripes A (sent n) n.synced

-- what the story is at each stage
abbrev pub At : ℕ → Story → Step → Type 0
At A n ToRoute = IsFresh n
At A n ToList = IsRouted n
At A n ToStart = Passed n × (n.fault ≡ false) × (n.got ≡ [])
At A n (ToLoad b got) = Passed n × (n.fault ≡ false) × (n.got ≡ got)
At A n (ToHold side) = Passed n × (n.fault ≡ false)
At A n (ToStore b) = Passed n × (n.fault ≡ false)
At A n (ToSync s) = IsSyncing A n s
At A n (ToFree side) = Passed n × (n.fault ≡ true)
At A n (ToEnd v) = IsEnding A n v

abbrev pub Stands : ℕ → Story → Stage → Type 0
Stands A n (Ready v) = (verdict_of n ≡ Some v) × (n.fault ≡ false) × (n.listed ≡ false) × (n.worked ≡ false) × (v ≢ Fine)
Stands A n Entering = IsFresh n
Stands A n (In k step) = At A n step

-- what holds at every stage
pub record IsSteady (n : Story) : Type 0 where
  pub worked : n.worked ≡ true → Passed n
  pub fault : n.fault ≡ true → n.worked ≡ true
  pub unsynced : n.client.ask.kind ≢ Flush → is_forced n.client.ask ≡ false → n.synced ≡ []

-- an error isn't Fine
pub refused_fine : (e : Errno) → Refused e ≢ Fine
refused_fine e is = cc

got_fine : (bytes : List ℕ) → Got bytes ≢ Fine
got_fine bytes is = cc

-- the end of a request that a disk failed
pub failed_end : (A : ℕ) (n : Story) → Passed n → n.fault ≡ true → IsEnding A n (Refused Io)
failed_end A n passed fault = record {
  reply = λ _. ap (λ (f : Bool). verdict_by_way n.client.ask n.client.buffered n.way f n.got) fault ∙ passed true n.got;
  course = λ _. inl fault;
  failed = λ _. passed;
  flushed = λ _ fine. absurd (refused_fine Io fine);
  forced = λ _ fine. absurd (refused_fine Io fine);
}

-- the reply of a request that isn't a READ, and that no disk failed
fine_reply : (n : Story) → Passed n → n.fault ≡ false → is_read n.client.ask.kind ≡ false → verdict_by_way n.client.ask n.client.buffered n.way n.fault n.got ≡ Some Fine
fine_reply n passed fault other =
    ap (λ (f : Bool). verdict_by_way n.client.ask n.client.buffered n.way f n.got) fault ∙ passed false n.got ∙ ap (λ (r : Bool). Some (cond r (Got n.got) Fine)) other

pub held_at : (A : ℕ) (n : Story) (side : Side) → Passed n → n.fault ≡ false → At A n (held A (sent n) side)
unfolding held
held_at A n Head passed fault = choose (λ g. At A n g) (has A (sent n) Tail) _ _ (λ _. (passed, fault)) (λ _. (passed, fault))
held_at A n Tail passed fault = (passed, fault)

pub started_at : (A : ℕ) (n : Story) → Passed n → n.fault ≡ false → n.got ≡ [] → At A n (started A (sent n))
unfolding started
started_at A n passed fault got =
    choose (λ g. At A n g) (reads (sent n)) _ _ (λ _. (passed, fault, got))
    (λ _. choose (λ g. At A n g) (has A (sent n) Head) _ _ (λ _. (passed, fault)) (λ _. held_at A n Head passed fault))

or_true : (b c : Bool) → c ≡ true → (b || c) ≡ true
or_true true c h = refl
or_true false c h = h

-- a READ isn't forced
reading_forced : (a : Ask) → is_read a.kind ≡ true → is_forced a ≡ true → ⊥
reading_forced a reading forced = true≢false (sym reading ∙ room_no_read a.kind (forced_is a forced).room)

pub loaded_at : (A : ℕ) (n : Story) (b : ℕ) (got bytes : List ℕ) → Passed n → n.fault ≡ false → n.got ≡ got → reads (sent n) ≡ true →
    At A (told_row A n (Loads {k = 0} {b = b} {got = got} bytes)) (loaded A (sent n) b got bytes)
unfolding loaded
loaded_at A n b got bytes passed fault same reading =
    let more : n.got ++ piece A (sent n) b bytes ≡ got ++ piece A (sent n) b bytes = ap (λ (xs : List ℕ). xs ++ piece A (sent n) b bytes) same in
    choose (λ g. At A (told_row A n (Loads {k = 0} {b = b} {got = got} bytes)) g) (b == edge A (sent n) Tail) _ _
    (λ over. record {
      reply = λ _. ap (λ (f : Bool). verdict_by_way n.client.ask n.client.buffered n.way f (n.got ++ piece A (sent n) b bytes)) fault
          ∙ passed false (n.got ++ piece A (sent n) b bytes)
          ∙ ap (λ (r : Bool). Some (cond r (Got (n.got ++ piece A (sent n) b bytes)) Fine)) reading ∙ ap (λ (xs : List ℕ). Some (Got xs)) more;
      course = λ _. inr (or_true n.ended (is_last A (sent n) b) over, λ forced. absurd (reading_forced n.client.ask reading forced));
      failed = λ _. passed;
      flushed = λ _ fine. absurd (got_fine _ fine);
      forced = λ forced _. absurd (reading_forced n.client.ask reading forced);
    })
    (λ _. (passed, fault, more))

-- a write that has stored its blocks and synced what it picks below 8 - m
forced_at : (A : ℕ) (n : Story) (m : ℕ) → Passed n → n.fault ≡ false → writes (sent n) ≡ true → n.ended ≡ true → is_forced n.client.ask ≡ true →
    edge A (sent n) Head ≤ edge A (sent n) Tail → m ≤ 8 → n.synced ≡ chosen (syncs A (sent n)) (8 - m) → At A n (to_sync A (sent n) m)
forced_at A n m passed fault writing ended forced order few so_far =
    to_sync_from (λ g. At A n g) A (sent n) m n.synced few so_far
    (λ all.
    let stripes : AreStripes A (sent n) n.synced =
    subst (λ (xs : List ℕ). AreStripes A (sent n) xs) (sym all) (own_stripes A (sent n) other order) in
    record {
      reply = λ _. fine_reply n passed fault (room_no_read n.client.ask.kind room);
      course = λ _. inr (ended, λ _. stripes);
      failed = λ _. passed;
      flushed = λ flush _. absurd (true≢false (sym (is_a_flush n.client.ask.kind flush) ∙ other));
      forced = λ _ _. stripes;
    })
    (λ s small is before. record {
      passed = passed;
      fault = fault;
      picked = is;
      before = before;
      flush = λ flush. absurd (true≢false (sym flush ∙ other));
      forced = λ _. (ended, forced);
    })
  where
    room : needs_room n.client.ask.kind ≡ true
    room = room_is n.client.ask.kind ∙ writing

    other : is_flush n.client.ask.kind ≡ false
    other = room_no_flush n.client.ask.kind room

-- a FLUSH that has synced what it picks below 8 - m: every stripe
flush_at : (A : ℕ) (n : Story) (m : ℕ) → Passed n → n.fault ≡ false → is_flush n.client.ask.kind ≡ true → n.listed ≡ false → n.left ≡ false → m ≤ 8 →
    n.synced ≡ chosen (syncs A (sent n)) (8 - m) → At A n (to_sync A (sent n) m)
flush_at A n m passed fault flush listed present few so_far =
    to_sync_from (λ g. At A n g) A (sent n) m n.synced few so_far
    (λ all. record {
      reply = λ _. fine_reply n passed fault (flush_no_read n.client.ask.kind flush);
      course = λ h. absurd (true≢false (sym h ∙ listed));
      failed = λ _. passed;
      flushed = λ _ _. all ∙ flush_all A (sent n) flush;
      forced = λ forced _. absurd (true≢false (sym flush ∙ room_no_flush n.client.ask.kind (forced_is n.client.ask forced).room));
    })
    (λ s small is before. record {
      passed = passed;
      fault = fault;
      picked = is;
      before = before;
      flush = λ _. (listed, present);
      forced = λ other. absurd (true≢false (sym flush ∙ other));
    })

pub stored_at : (A : ℕ) (n : Story) (b : ℕ) (bytes : List ℕ) (past : List (List ℕ)) → 0 < A → Passed n → n.fault ≡ false → Storing A (sent n) b →
    At A (told_row A n (Stores {k = 0} {b = b} bytes past)) (stored A (sent n) b)
unfolding stored
stored_at A n b bytes past pos passed fault fit =
    let m : Story = told_row A n (Stores {k = 0} {b = b} bytes past) in
    choose (λ g. At A m g) (b == edge A (sent n) Tail) _ _
    (λ over.
    let ended : m.ended ≡ true = or_true n.ended (is_last A (sent n) b) over in
    choose (λ g. At A m g) n.client.ask.fua _ _
    (λ fua. forced_at A m 8 passed fault fit.writing ended (writes_forced (sent n) fit.writing fua fit.sound.some)
    (head_reached A (sent n) pos fit.sound.some) (omega arith) refl)
    (λ plain. record {
      reply = λ _. fine_reply m passed fault (room_no_read n.client.ask.kind (room_is n.client.ask.kind ∙ fit.writing));
      course = λ _. inr (ended, λ forced. absurd (true≢false (sym (forced_is n.client.ask forced).fua ∙ plain)));
      failed = λ _. passed;
      flushed = λ flush _. absurd (true≢false (sym (is_a_flush n.client.ask.kind flush) ∙ room_no_flush n.client.ask.kind (room_is n.client.ask.kind ∙ fit.writing)));
      forced = λ forced _. absurd (true≢false (sym (forced_is n.client.ask forced).fua ∙ plain));
    }))
    (λ _. (passed, fault))

-- a stripe more is synced
abbrev pub with_synced : Story → ℕ → Story
with_synced n s = record n { worked = true; synced = n.synced ++ s ∷ [] }

pub synced_at : (A : ℕ) (n : Story) (s : ℕ) → 0 < A → Syncing (sent n) s → IsSyncing A n s → At A (with_synced n s) (synced A (sent n) s)
unfolding synced
synced_at A n s pos fit at = elim (either (is_flush n.client.ask.kind)) [
  | inl flush ↦ flush_at A (with_synced n s) (7 - s) at.passed at.fault flush (at.flush flush).0 (at.flush flush).1 (omega arith) so_far
  | inr other ↦ forced_at A (with_synced n s) (7 - s) at.passed at.fault (fit.writing other) (at.forced other).0 (at.forced other).1
      (head_reached A (sent n) pos (fit.sound other).some) (omega arith) so_far
]
  where
    so_far : n.synced ++ s ∷ [] ≡ chosen (syncs A (sent n)) (8 - (7 - s))
    so_far =
        let small : s < 8 = fit.inside in
        let behind : suc s ≡ 8 - (7 - s) = omega arith in
        ap (λ (xs : List ℕ). xs ++ s ∷ []) at.before ∙ sym (chosen_next (syncs A (sent n)) s at.picked)
        ∙ ap (λ (m : ℕ). chosen (syncs A (sent n)) m) behind

pub hold_failed_at : (A : ℕ) (n : Story) (side : Side) → Passed n → n.fault ≡ true → At A n (hold_failed A (sent n) side)
unfolding hold_failed
hold_failed_at A n Head passed fault = failed_end A n passed fault
hold_failed_at A n Tail passed fault = choose (λ g. At A n g) (has A (sent n) Head) _ _ (λ _. (passed, fault)) (λ _. failed_end A n passed fault)

pub store_failed_at : (A : ℕ) (n : Story) (b : ℕ) → Passed n → n.fault ≡ true → At A n (store_failed A (sent n) b)
unfolding store_failed
store_failed_at A n b passed fault =
    choose (λ g. At A n g) (has A (sent n) Tail && not (b == edge A (sent n) Tail)) _ _ (λ _. (passed, fault)) (λ _. failed_end A n passed fault)

-- a request that isn't listed and didn't fail ends with what its lines say, if it needn't sync
plain_end : (A : ℕ) (n : Story) (v : Verdict) → n.listed ≡ false → n.fault ≡ false → verdict_by_way n.client.ask n.client.buffered n.way n.fault n.got ≡ Some v →
    (v ≡ Fine → (n.client.ask.kind ≢ Flush) × (is_forced n.client.ask ≡ false)) → IsEnding A n v
plain_end A n v listed fault reply free = record {
  reply = λ _. reply;
  course = λ h. absurd (true≢false (sym h ∙ listed));
  failed = λ h. absurd (true≢false (sym h ∙ fault));
  flushed = λ flush fine. absurd ((free fine).0 flush);
  forced = λ forced fine. absurd (true≢false (sym forced ∙ (free fine).1));
}

-- a request of no length isn't forced, and neither is a TRIM
unforced : (a : Ask) → (a.length == 0 || is_trim a.kind) ≡ true → is_forced a ≡ false
unforced a is = elim (either (is_forced a)) [
  | inl forced ↦ let f : Forces a = forced_is a forced in
      absurd (true≢false (sym (other_one (a.length == 0) (is_trim a.kind) is f.some) ∙ room_no_trim a.kind f.room))
  | inr none ↦ none
]

pub routed_at : (A : ℕ) (n : Story) (route : Route) → IsFresh n → let c : Client = record (sent n) { route = route } in At A (record n { way = Given route }) (routed c)
unfolding routed
routed_at A n route fresh =
    let a : Ask = n.client.ask in
    let m : Story = record n { way = Given route } in
    let by : (fault : Bool) (got : List ℕ) → verdict_by_way a n.client.buffered (Given route) fault got ≡ Some (reply_on_way a route fault got) =
    λ fault got. good_reply a n.client.buffered (Given route) fault got fresh.good.form fresh.good.room in
    let leave : needs_leave a.kind && not route.writable ≡ wants_writable a.kind && not route.writable = ap (λ (b : Bool). b && not route.writable) (leave_is a.kind) in
    choose (λ g. At A m g) (wants_writable a.kind && not route.writable) _ _
    (λ h. plain_end A m _ fresh.listed fresh.fault (by n.fault n.got ∙ ap Some (perm_line a route n.fault n.got (leave ∙ h))) (λ fine. absurd (refused_fine Perm fine)))
    (λ may. choose (λ g. At A m g) (is_flush a.kind) _ _
    (λ flush. record {
      passed = λ fault got. by fault got ∙ ap Some (flush_line a route fault got flush);
      fault = fresh.fault;
      picked = flush_picks A (sent m) 0 flush;
      before = fresh.synced;
      flush = λ _. (fresh.listed, fresh.here);
      forced = λ other. absurd (true≢false (sym flush ∙ other));
    })
    (λ other. choose (λ g. At A m g) (nat_lt route.size (a.offset + a.length)) _ _
    (λ past. plain_end A m _ fresh.listed fresh.fault (by n.fault n.got ∙ ap Some (range_line a route n.fault n.got fresh.good.form (leave ∙ may) other past))
    (λ fine. absurd (refused_fine _ fine)))
    (λ inside.
    let passed : Passed m = λ fault got. by fault got ∙ ap Some (passed_line a route fault got (leave ∙ may) inside) in
    choose (λ g. At A m g) (a.length == 0 || is_trim a.kind) _ _
    (λ nothing. plain_end A m _ fresh.listed fresh.fault (ap (λ (f : Bool). verdict_by_way a n.client.buffered (Given route) f n.got) fresh.fault ∙ passed false n.got
    ∙ ap (λ (xs : List ℕ). Some (done a xs)) fresh.got)
    (λ _. ((λ flush. true≢false (sym (is_a_flush a.kind flush) ∙ other)), unforced a nothing)))
    (λ _. record { here = fresh.here; passed = passed; listed = fresh.listed; worked = fresh.worked; fault = fresh.fault; got = fresh.got }))))

-- the story of a request after one of its rows
pub row_at : (A : ℕ) (w : World) (n : Story) (d : Bool) (p : Pads) {stage : Stage} (act : Act stage) → 0 < A → MayDo A w (sent n) p act → Shaped A (sent n) stage → Stands A n stage →
    ForMoved (λ q. (q.client ≡ sent (told_row A n act)) × (q.dropped ≡ d) × Stands A (told_row A n act) q.stage) (moved A (sent n) d p act)
row_at A w n d p Answers pos may fit at = tt
row_at A w n d p (Waits wait) pos may fit at = (refl, refl, at)
row_at A w n d p (Enters k) pos may fit at = (refl, refl, at)
row_at A w n d p (Routes {k = k} route) pos may fit at = (refl, refl, routed_at A n route at)
row_at A w n d p (Shuts {k = k}) pos may fit at = (
  ap (λ (x : Route). record n.client { route = x }) (shut_route n at.way),
  refl,
  plain_end A (record n { way = Shut }) _ at.listed at.fault (good_reply n.client.ask n.client.buffered Shut n.fault n.got at.good.form at.good.room)
      (λ fine. absurd (refused_fine Shutdown fine)),
)
  where
    shut_route : (m : Story) → m.way ≡ Unknown → (sent m).route ≡ no_route
    shut_route m is = ap (λ (x : Way). route_by x) is
row_at A w n d p (Lists {k = k} m) pos may fit at = (refl, refl, (at.passed, at.fault, at.got))
row_at A w n d p (Starts {k = k}) pos may fit at = (refl, refl, started_at A n at.0 at.1 at.2)
row_at A w n d p (Loads {k = k} {b = b} {got = got} bytes) pos may fit at = (refl, refl, loaded_at A n b got bytes at.0 at.1 at.2 fit.reading)
row_at A w n d p (LoadFails {k = k}) pos may fit at = (refl, refl, failed_end A (record n { worked = true; fault = true }) at.0 refl)
row_at A w n d p (Holds {k = k} {side = side} bytes) pos may fit at = (refl, refl, held_at A (record n { worked = true }) side at.0 at.1)
row_at A w n d p (HoldFails {k = k} {side = side}) pos may fit at = (refl, refl, hold_failed_at A (record n { worked = true; fault = true }) side at.0 refl)
row_at A w n d p (Stores {k = k} {b = b} bytes past) pos may fit at = (refl, refl, stored_at A n b bytes past pos at.0 at.1 fit)
row_at A w n d p (StoreFails {k = k} {b = b} bytes took past) pos may fit at = (refl, refl, store_failed_at A (record n { worked = true; fault = true; synced = [] }) b at.0 refl)
row_at A w n d p (Syncs {k = k} {s = s}) pos may fit at = (refl, refl, synced_at A n s pos fit at)
row_at A w n d p (Cleans {k = k} {s = s}) pos may fit at = (refl, refl, synced_at A n s pos fit at)
row_at A w n d p SyncFails pos may fit at = (refl, refl, failed_end A (record n { worked = true; fault = true }) at.passed refl)
row_at A w n d p (Frees {k = k}) pos may fit at = (refl, refl, failed_end A (record n { worked = true }) at.0 at.1)
row_at A w n d p Ends pos may fit at = tt

-- who syncs is a FLUSH whose session is there, or a forced write
pub syncs_own : (A : ℕ) (n : Story) (s : ℕ) → IsSyncing A n s → ((n.client.ask.kind ≡ Flush) × (n.left ≡ false)) ⊎ (is_forced n.client.ask ≡ true)
syncs_own A n s at = elim (either (is_flush n.client.ask.kind)) [
  | inl flush ↦ inl (flush_is n.client.ask.kind flush, (at.flush flush).1)
  | inr other ↦ inr (at.forced other).1
]

sync_wanted : (A : ℕ) (n : Story) (s : ℕ) → IsSyncing A n s → n.client.ask.kind ≢ Flush → is_forced n.client.ask ≡ false → ⊥
sync_wanted A n s at other free = elim (syncs_own A n s at) [ inl flush ↦ other flush.0 | inr forced ↦ true≢false (sym forced ∙ free) ]

-- what holds at every stage holds after a row
pub row_steady : (A : ℕ) (n : Story) {stage : Stage} (act : Act stage) → Stands A n stage → IsSteady n → IsSteady (told_row A n act)
row_steady A n Answers at steady = steady
row_steady A n (Waits wait) at steady = steady
row_steady A n (Enters k) at steady = steady
row_steady A n (Routes route) at steady = record {
  worked = λ h. absurd (true≢false (sym h ∙ at.worked));
  fault = λ h. absurd (true≢false (sym h ∙ at.fault));
  unsynced = steady.unsynced;
}
row_steady A n Shuts at steady = record {
  worked = λ h. absurd (true≢false (sym h ∙ at.worked));
  fault = λ h. absurd (true≢false (sym h ∙ at.fault));
  unsynced = steady.unsynced;
}
row_steady A n (Lists m) at steady = record { worked = steady.worked; fault = steady.fault; unsynced = steady.unsynced }
row_steady A n Starts at steady = steady
row_steady A n (Loads bytes) at steady = record { worked = λ _. at.0; fault = λ _. refl; unsynced = steady.unsynced }
row_steady A n LoadFails at steady = record { worked = λ _. at.0; fault = λ _. refl; unsynced = steady.unsynced }
row_steady A n (Holds bytes) at steady = record { worked = λ _. at.0; fault = λ _. refl; unsynced = steady.unsynced }
row_steady A n HoldFails at steady = record { worked = λ _. at.0; fault = λ _. refl; unsynced = steady.unsynced }
row_steady A n (Stores bytes past) at steady = record { worked = λ _. at.0; fault = λ _. refl; unsynced = λ _ _. refl }
row_steady A n (StoreFails bytes took past) at steady = record { worked = λ _. at.0; fault = λ _. refl; unsynced = λ _ _. refl }
row_steady A n (Syncs {s = s}) at steady = record { worked = λ _. at.passed; fault = λ _. refl; unsynced = λ other free. absurd (sync_wanted A n s at other free) }
row_steady A n (Cleans {s = s}) at steady = record { worked = λ _. at.passed; fault = λ _. refl; unsynced = λ other free. absurd (sync_wanted A n s at other free) }
row_steady A n SyncFails at steady = record { worked = λ _. at.passed; fault = λ _. refl; unsynced = steady.unsynced }
row_steady A n Frees at steady = record { worked = λ _. at.0; fault = λ _. refl; unsynced = steady.unsynced }
row_steady A n Ends at steady = steady

pub dropped_fine : Dropped ≢ Fine
dropped_fine is = cc

-- a request that ends because its session left, and that wasn't listed
dropped_end : (A : ℕ) (n : Story) → n.listed ≡ false → n.fault ≡ false → IsEnding A (record n { left = true }) Dropped
dropped_end A n listed fault = record {
  reply = λ h. absurd (true≢false h);
  course = λ h. absurd (true≢false (sym h ∙ listed));
  failed = λ h. absurd (true≢false (sym h ∙ fault));
  flushed = λ _ fine. absurd (dropped_fine fine);
  forced = λ _ fine. absurd (dropped_fine fine);
}

-- a request whose session leaves
pub left_at : (A : ℕ) (n : Story) (stage : Stage) → Stands A n stage → Stands A (record n { left = true }) (abandoned (sent n) stage)
left_at A n (Ready v) at = (refl, at.1, at.2, at.3, dropped_fine)
left_at A n Entering at = (refl, at.fault, at.listed, at.worked, dropped_fine)
left_at A n (In k ToRoute) at = dropped_end A n at.listed at.fault
left_at A n (In k ToList) at = dropped_end A n at.listed at.fault
left_at A n (In k ToStart) at = at
left_at A n (In k (ToLoad b got)) at = at
left_at A n (In k (ToHold side)) at = at
left_at A n (In k (ToStore b)) at = at
left_at A n (In k (ToSync s)) at =
    choose (λ g. At A (record n { left = true }) g) (is_flush n.client.ask.kind) _ _ (λ flush. dropped_end A n (at.flush flush).0 at.fault)
    (λ other. record {
      passed = at.passed;
      fault = at.fault;
      picked = at.picked;
      before = at.before;
      flush = λ flush. absurd (true≢false (sym flush ∙ other));
      forced = at.forced;
    })
left_at A n (In k (ToFree side)) at = at
left_at A n (In k (ToEnd v)) at =
    record { reply = λ h. absurd (true≢false h); course = at.course; failed = at.failed; flushed = at.flushed; forced = at.forced }

pub left_steady : (n : Story) → IsSteady n → IsSteady (record n { left = true })
left_steady n steady = record { worked = steady.worked; fault = steady.fault; unsynced = steady.unsynced }

-- A crew's list of live requests, and what polls make of it.
use Rattle.std.proofs.Common.{◌≡◌, ◌≢◌, ℕ, zero, suc, ◌<◌, ◌≤◌, ◌⊎◌, inl, inr, List, [], ◌∷◌, ◌++◌, length, get_or, map, take, drop, Bool, true, false, cond, refl, sym, ◌∙◌, ap, subst, arith, eq-eqb, ne_eqb, append-nil}
use Rattle.std.specs.Prelude.{Some, None, ◌==◌, nat_lt, position, slice_get}
use Rattle.std.specs.List.{slice_set, remove, position_or_len, AllByRecursion}
use Rattle.std.specs.Option.{option_map}
use Rattle.std.proofs.lemmas.List.{take_all, drop_all}
use Rattle.std.proofs.lemmas.Option.{slice_get-get_or}
use Rattle.std.proofs.lemmas.Bool.Decides.{nat_tests}
use Rattle.std.proofs.lemmas.List.Quantifiers.{position-Some}
use Rattle.std.proofs.lemmas.List.Sums.{fails_before_first}
use Rattle.qs_bytes.specs.declared.ask.Ask.{Ask}
use Rattle.qs_bytes.specs.declared.ask.Verdict.{Verdict}
use Rattle.qs_model.proofs.Basics.{same_or}
use Rattle.qs_model.specs.Requests.{Req}
use Rattle.qs_request_state.specs.declared.shape.Shape.{Shape}
use Rattle.qs_request.specs.Table.{followed}
use Rattle.qs_task.specs.declared.crew.CrewPoll.{CrewPoll}
use Rattle.qs_task.specs.declared.crew.CrewPoll.TheVariants.{NoSuch, Pending as StillPending, Answered as HasAnswered}
use Rattle.qs_task.specs.Books.{Book, RequestCall}
use Rattle.qs_task.specs.Walks.{WalksTo}
use Rattle.qs_task.specs.Tasks.{TaskValue}
use Rattle.qs_task.specs.Crews.{CrewValue, CrewEvent, Called, Answered, IsManned, CrewStep, CrewRuns, PollsAt, CrewPolls, AreCallsOf, live_by_number, with_request, without_request, abandoned_task}

pub all_at : {X : Type 0} (P : X → Type 0) (xs : List X) (i : ℕ) (x : X) → AllByRecursion P xs → slice_get xs i ≡ Some x → P x
all_at P [] i x all is = absurd (never is)
  where
    never : None ≡ Some x → ⊥
    never e = cc
all_at P (y ∷ xs) zero x all is = subst P (same is) all.0
  where
    same : Some y ≡ Some x → y ≡ x
    same e = cc
all_at P (y ∷ xs) (suc i) x all is = all_at P xs i x all.1 is

-- an element that is read by its place
pub is_there : {X : Type 0} (xs : List X) (i : ℕ) (x t : X) → i < length xs → x ≡ get_or xs i x → slice_get xs i ≡ Some t → x ≡ t
is_there {X} xs i x t inside read stands = same (sym (slice_get-get_or xs i x inside) ∙ stands)
  where
    same : Some (get_or xs i x) ≡ Some t → x ≡ t
    same e = let s : get_or xs i x ≡ t = cc in read ∙ s

pub all_set : {X : Type 0} (P : X → Type 0) (xs : List X) (i : ℕ) (y : X) → AllByRecursion P xs → P y → AllByRecursion P (slice_set xs i y)
all_set P [] i y all this = all
all_set P (x ∷ xs) zero y all this = (this, all.1)
all_set P (x ∷ xs) (suc i) y all this = (all.0, all_set P xs i y all.1 this)

pub all_gone : {X : Type 0} (P : X → Type 0) (xs : List X) (i : ℕ) → AllByRecursion P xs → AllByRecursion P (remove xs i)
all_gone P [] zero all = all
all_gone P [] (suc i) all = all
all_gone P (x ∷ xs) zero all = all.1
all_gone P (x ∷ xs) (suc i) all = (all.0, all_gone P xs i all.1)

pub remove_set : {X : Type 0} (xs : List X) (i : ℕ) (y : X) → remove (slice_set xs i y) i ≡ remove xs i
remove_set [] zero y = refl
remove_set [] (suc i) y = refl
remove_set (x ∷ xs) zero y = refl
remove_set (x ∷ xs) (suc i) y = ap (λ (ys : List _). x ∷ ys) (remove_set xs i y)

-- the choice by a number
chosen : {X : Type 0} (k n : ℕ) (x y : X) → k ≡ n → cond (k == n) x y ≡ x
chosen k n x y is = ap (λ (b : Bool). cond b x y) (eq-eqb k n is)

passed : {X : Type 0} (k n : ℕ) (x y : X) → k ≢ n → cond (k == n) x y ≡ y
passed k n x y other = ap (λ (b : Bool). cond b x y) (ne_eqb k n other)

-- the head of the list, where it is the one and where it isn't
pub request_here : (n : ℕ) (t : TaskValue) (live : List TaskValue) → t.number ≡ n → live_by_number n (t ∷ live) ≡ Some t.request
request_here n t live is = chosen t.number n (Some t.request) (live_by_number n live) is

pub request_past : (n : ℕ) (t : TaskValue) (live : List TaskValue) → t.number ≢ n → live_by_number n (t ∷ live) ≡ live_by_number n live
request_past n t live other = passed t.number n (Some t.request) (live_by_number n live) other

pub with_here : (n : ℕ) (q : Req) (t : TaskValue) (live : List TaskValue) → t.number ≡ n →
    with_request n q (t ∷ live) ≡ record t { request = q } ∷ live
with_here n q t live is = chosen t.number n (record t { request = q } ∷ live) (t ∷ with_request n q live) is

pub with_past : (n : ℕ) (q : Req) (t : TaskValue) (live : List TaskValue) → t.number ≢ n →
    with_request n q (t ∷ live) ≡ t ∷ with_request n q live
with_past n q t live other = passed t.number n (record t { request = q } ∷ live) (t ∷ with_request n q live) other

pub without_here : (n : ℕ) (t : TaskValue) (live : List TaskValue) → t.number ≡ n → without_request n (t ∷ live) ≡ live
without_here n t live is = chosen t.number n live (t ∷ without_request n live) is

pub without_past : (n : ℕ) (t : TaskValue) (live : List TaskValue) → t.number ≢ n →
    without_request n (t ∷ live) ≡ t ∷ without_request n live
without_past n t live other = passed t.number n live (t ∷ without_request n live) other

-- the place of request n: what stands there, and what an edit there makes of the list
pub record Found (n : ℕ) (live : List TaskValue) (at : ℕ) : Type 0 where
  pub task : TaskValue
  pub stands : slice_get live at ≡ Some task
  pub number : task.number ≡ n
  pub is_live : live_by_number n live ≡ Some task.request
  pub set : (q : Req) → slice_set live at (record task { request = q }) ≡ with_request n q live
  pub gone : remove live at ≡ without_request n live

found_past : (n : ℕ) (x : TaskValue) (live : List TaskValue) (i : ℕ) → x.number ≢ n → Found n live i → Found n (x ∷ live) (suc i)
found_past n x live i other f = record {
  task = f.task;
  stands = f.stands;
  number = f.number;
  is_live = request_past n x live other ∙ f.is_live;
  set = λ q. ap (λ (ts : List TaskValue). x ∷ ts) (f.set q) ∙ sym (with_past n q x live other);
  gone = ap (λ (ts : List TaskValue). x ∷ ts) f.gone ∙ sym (without_past n x live other);
}

found : (n : ℕ) (live : List TaskValue) (i : ℕ) (d : TaskValue) → i < length live → ((get_or live i d).number == n) ≡ true →
    ((k : ℕ) → k < i → ((get_or live k d).number == n) ≡ false) → Found n live i
found n [] i d inside is before = absurd (omega arith)
found n (x ∷ live) zero d inside is before =
    let same : x.number ≡ n = grind (arith, is) in
    record {
      task = x;
      stands = refl;
      number = same;
      is_live = request_here n x live same;
      set = λ q. sym (with_here n q x live same);
      gone = sym (without_here n x live same);
    }
found n (x ∷ live) (suc i) d inside is before =
    let first : (x.number == n) ≡ false = before 0 (omega arith) in
    let other : x.number ≢ n = λ e. grind (arith, first, e) in
    found_past n x live i other (found n live i d (omega arith) is (λ k below. before (suc k) (omega arith)))

pub found_at : (n : ℕ) (live : List TaskValue) (at : ℕ) → position (λ t. t.number == n) live ≡ Some at → Found n live at
found_at n [] at is = absurd (never is)
  where
    never : None ≡ Some at → ⊥
    never e = cc
found_at n (x ∷ live) at is =
    let p = position-Some (λ (t : TaskValue). t.number == n) (x ∷ live) at x is in
    found n (x ∷ live) at x p.0 p.1 p.2

-- where no place was found no request is live
none : (n : ℕ) (live : List TaskValue) → ((k : ℕ) (d : TaskValue) → k < length live → ((get_or live k d).number == n) ≡ false) →
    live_by_number n live ≡ None
none n [] fails = refl
none n (x ∷ live) fails =
    let first : (x.number == n) ≡ false = fails 0 x (omega arith) in
    request_past n x live (λ e. grind (arith, first, e)) ∙ none n live (λ k d below. fails (suc k) d (omega (arith, below)))

pub found_none : (n : ℕ) (live : List TaskValue) → position (λ t. t.number == n) live ≡ None → live_by_number n live ≡ None
found_none n live is = none n live below
  where
    below : (j : ℕ) (d : TaskValue) → j < length live → ((get_or live j d).number == n) ≡ false
    below j d h = go (nat_lt (position_or_len (λ t. t.number == n) live) (length live)) refl is
      where
        go : (b : Bool) → nat_lt (position_or_len (λ (t : TaskValue). t.number == n) live) (length live) ≡ b →
            cond b (Some (position_or_len (λ (t : TaskValue). t.number == n) live)) None ≡ None → ((get_or live j d).number == n) ≡ false
        go true e no_place = cc
        go false e no_place =
            let most : length live ≤ position_or_len (λ (t : TaskValue). t.number == n) live = grind (arith, nat_tests) in
            fails_before_first (λ (t : TaskValue). t.number == n) live j d (omega (arith, most, h))

-- a live request that was changed is there, and nothing else of it stays
pub with_is : (n : ℕ) (q r : Req) (live : List TaskValue) → live_by_number n live ≡ Some q → live_by_number n (with_request n r live) ≡ Some r
with_is n q r [] is = absurd (never is)
  where
    never : None ≡ Some q → ⊥
    never e = cc
with_is n q r (t ∷ live) is = go (same_or t.number n) (λ e. with_is n q r live e)
  where
    go : (t.number ≡ n) ⊎ (t.number ≢ n) → (live_by_number n live ≡ Some q → live_by_number n (with_request n r live) ≡ Some r) →
        live_by_number n (with_request n r (t ∷ live)) ≡ Some r
    go (inl e) rest = ap (live_by_number n) (with_here n r t live e) ∙ request_here n (record t { request = r }) live e
    go (inr o) rest = ap (live_by_number n) (with_past n r t live o) ∙ request_past n t (with_request n r live) o
        ∙ rest (sym (request_past n t live o) ∙ is)

pub with_twice : (n : ℕ) (q r : Req) (live : List TaskValue) → with_request n r (with_request n q live) ≡ with_request n r live
with_twice n q r [] = refl
with_twice n q r (t ∷ live) = go (same_or t.number n) (with_twice n q r live)
  where
    go : (t.number ≡ n) ⊎ (t.number ≢ n) → with_request n r (with_request n q live) ≡ with_request n r live →
        with_request n r (with_request n q (t ∷ live)) ≡ with_request n r (t ∷ live)
    go (inl e) rest =
        ap (with_request n r) (with_here n q t live e) ∙ with_here n r (record t { request = q }) live e
        ∙ sym (with_here n r t live e)
    go (inr o) rest =
        ap (with_request n r) (with_past n q t live o) ∙ with_past n r t (with_request n q live) o
        ∙ ap (λ (ts : List TaskValue). t ∷ ts) rest ∙ sym (with_past n r t live o)

pub with_same : (n : ℕ) (q : Req) (live : List TaskValue) → live_by_number n live ≡ Some q → with_request n q live ≡ live
with_same n q [] is = refl
with_same n q (t ∷ live) is = go (same_or t.number n) (λ e. with_same n q live e)
  where
    same : Some t.request ≡ Some q → q ≡ t.request
    same e = cc

    go : (t.number ≡ n) ⊎ (t.number ≢ n) → (live_by_number n live ≡ Some q → with_request n q live ≡ live) →
        with_request n q (t ∷ live) ≡ t ∷ live
    go (inl e) rest =
        let as_it_is : Req → TaskValue = λ r. record t { request = r } in
        with_here n q t live e
        ∙ ap (λ (u : TaskValue). u ∷ live) (ap as_it_is (same (sym (request_here n t live e) ∙ is)))
    go (inr o) rest =
        with_past n q t live o ∙ ap (λ (ts : List TaskValue). t ∷ ts) (rest (sym (request_past n t live o) ∙ is))

pub without_with : (n : ℕ) (q : Req) (live : List TaskValue) → without_request n (with_request n q live) ≡ without_request n live
without_with n q [] = refl
without_with n q (t ∷ live) = go (same_or t.number n) (without_with n q live)
  where
    go : (t.number ≡ n) ⊎ (t.number ≢ n) → without_request n (with_request n q live) ≡ without_request n live →
        without_request n (with_request n q (t ∷ live)) ≡ without_request n (t ∷ live)
    go (inl e) rest =
        ap (without_request n) (with_here n q t live e) ∙ without_here n (record t { request = q }) live e
        ∙ sym (without_here n t live e)
    go (inr o) rest =
        ap (without_request n) (with_past n q t live o) ∙ without_past n t (with_request n q live) o
        ∙ ap (λ (ts : List TaskValue). t ∷ ts) rest ∙ sym (without_past n t live o)

-- a crew in which request n is q
with_now : CrewValue → ℕ → Req → CrewValue
with_now crew n q = record crew { live = with_request n q crew.live }

-- the calls of one walk, as events of the crew
pub walk_runs : (crew : CrewValue) (n : ℕ) (q : Req) (calls : List RequestCall) (t : Req) → live_by_number n crew.live ≡ Some q →
    WalksTo crew.shape n q calls t → CrewRuns crew (map Called calls) (record crew { live = with_request n t crew.live })
walk_runs crew n q [] t is at =
    let lists : List TaskValue → CrewValue = λ ts. record crew { live = ts } in
    ap lists (ap (λ r. with_request n r crew.live) at ∙ with_same n q crew.live is)
walk_runs crew n q (c ∷ calls) t is (next, rest) =
    let r : Req = followed crew.shape.align q c.reply in
    let mid : CrewValue = record crew { live = with_request n r crew.live } in
    let on : CrewRuns mid (map Called calls) (record mid { live = with_request n t mid.live }) =
    walk_runs mid n r calls t (with_is n q r crew.live is) rest in
    let lists : List TaskValue → CrewValue = λ ts. record crew { live = ts } in (
      mid,
      record {
        request = q;
        is_live = ap (λ k. live_by_number k crew.live) next.number ∙ is;
        next = record { number = refl; wants = next.wants; may = next.may };
        live = ap lists (ap (λ k. with_request k r crew.live) (sym next.number));
      },
      subst (λ w. CrewRuns mid (map Called calls) w) (ap lists (with_twice n r t crew.live)) on,
    )

pub walk_numbered : (shape : Shape) (n : ℕ) (q : Req) (calls : List RequestCall) (t : Req) → WalksTo shape n q calls t → AreCallsOf n calls
walk_numbered shape n q [] t at = tt
walk_numbered shape n q (c ∷ calls) t (next, rest) =
    (next.number, walk_numbered shape n (followed shape.align q c.reply) calls t rest)

-- one event more
pub runs_more : (crew : CrewValue) (events : List CrewEvent) (mid : CrewValue) (e : CrewEvent) (new : CrewValue) →
    CrewRuns crew events mid → CrewStep mid e new → CrewRuns crew (events ++ e ∷ []) new
runs_more crew [] mid e new at step = (new, subst (λ w. CrewStep w e new) at step, refl)
runs_more crew (d ∷ events) mid e new (next, does, rest) step =
    (next, does, runs_more next events mid e new rest step)

-- the walk of the task that was found, in the crew's words
walk_there : (crew : CrewValue) (n : ℕ) (t : TaskValue) (calls : List RequestCall) (end : Req) → IsManned crew.shape t →
    t.number ≡ n → WalksTo t.shape t.number t.request calls end → WalksTo crew.shape n t.request calls end
walk_there crew n t calls end manned is walks =
    subst (λ s. WalksTo s n t.request calls end) manned.of (subst (λ k. WalksTo t.shape k t.request calls end) is walks)

-- a poll that waits
waits_there : (crew : CrewValue) (at n : ℕ) (need : _) (live : List TaskValue) (before after : Book) (f : Found n crew.live at) →
    IsManned crew.shape f.task → PollsAt (StillPending need) at f.task crew.live live before after →
    CrewPolls (StillPending need) n crew (record crew { live = live }) before after
waits_there crew at n need live before after f manned (u, polls, is) =
    let walks = walk_there crew n f.task polls.calls polls.end manned f.number polls.walks in
    let lists : List TaskValue → CrewValue = λ ts. record crew { live = ts } in
    let same : with_request n polls.end crew.live ≡ live =
    sym (f.set polls.end) ∙ ap (slice_set crew.live at) (sym polls.ends.1) ∙ sym is in
    record {
      calls = polls.calls;
      numbered = walk_numbered crew.shape n f.task.request polls.calls polls.end walks;
      runs = subst (λ w. CrewRuns crew (map Called polls.calls) w) (ap lists same)
          (walk_runs crew n f.task.request polls.calls polls.end f.is_live walks);
      booked = polls.booked;
      stops = polls.ends.0;
    }

-- a poll that answers
answers_there : (crew : CrewValue) (at n : ℕ) (ask : Ask) (v : Verdict) (live : List TaskValue) (before after : Book) (f : Found n crew.live at) →
    IsManned crew.shape f.task → PollsAt (HasAnswered ask v) at f.task crew.live live before after →
    CrewPolls (HasAnswered ask v) n crew (record crew { live = live }) before after
answers_there crew at n ask v live before after f manned (u, polls, asked, is) =
    let walks = walk_there crew n f.task polls.calls polls.end manned f.number polls.walks in
    let lists : List TaskValue → CrewValue = λ ts. record crew { live = ts } in
    let mid : CrewValue = record crew { live = with_request n polls.end crew.live } in
    let gone : live ≡ without_request n mid.live = is ∙ f.gone ∙ sym (without_with n polls.end crew.live) in
    record {
      calls = polls.calls;
      numbered = walk_numbered crew.shape n f.task.request polls.calls polls.end walks;
      runs = runs_more crew (map Called polls.calls) mid (Answered n v) (record crew { live = live })
          (walk_runs crew n f.task.request polls.calls polls.end f.is_live walks)
          (record {
            request = polls.end;
            is_live = with_is n f.task.request polls.end crew.live f.is_live;
            ready = polls.ends.1;
            live = ap lists gone;
          });
      booked = polls.booked;
      went = polls.ends.0;
      asked = ap (option_map (λ q. q.client.ask)) f.is_live ∙ ap Some (sym asked);
    }

pub polls_there : (crew : CrewValue) (at n : ℕ) (result : CrewPoll) (live : List TaskValue) (before after : Book) →
    position (λ t. t.number == n) crew.live ≡ Some at → AllByRecursion (IsManned crew.shape) crew.live →
    ((t : TaskValue) → slice_get crew.live at ≡ Some t → PollsAt result at t crew.live live before after) →
    CrewPolls result n crew (record crew { live = live }) before after
polls_there crew at n result live before after is manned polls =
    let f = found_at n crew.live at is in
    go result f (all_at (IsManned crew.shape) crew.live at f.task manned f.stands) (polls f.task f.stands)
  where
    go : (r : CrewPoll) (f : Found n crew.live at) → IsManned crew.shape f.task → PollsAt r at f.task crew.live live before after →
        CrewPolls r n crew (record crew { live = live }) before after
    go NoSuch f ready there = absurd there
    go (StillPending need) f ready there = waits_there crew at n need live before after f ready there
    go (HasAnswered ask v) f ready there = answers_there crew at n ask v live before after f ready there

-- all that are left are still live
pub still_manned : (shape : Shape) (at n : ℕ) (result : CrewPoll) (old new : List TaskValue) (before after : Book) →
    position (λ t. t.number == n) old ≡ Some at → AllByRecursion (IsManned shape) old →
    ((t : TaskValue) → slice_get old at ≡ Some t → PollsAt result at t old new before after) → AllByRecursion (IsManned shape) new
still_manned shape at n result old new before after is manned polls =
    let f = found_at n old at is in
    go result f.task (all_at (IsManned shape) old at f.task manned f.stands) (polls f.task f.stands)
  where
    go : (r : CrewPoll) (t : TaskValue) → IsManned shape t → PollsAt r at t old new before after → AllByRecursion (IsManned shape) new
    go NoSuch t ready there = absurd there
    go (StillPending need) t ready (u, does, same) =
        let left : u ≡ record t { request = does.end } = does.ends.1 in
        let here : IsManned shape u = subst (IsManned shape) (sym left) (record { of = ready.of; unanswered = ready.unanswered }) in
        subst (AllByRecursion (IsManned shape)) (sym same) (all_set (IsManned shape) old at u manned here)
    go (HasAnswered ask v) t ready (u, does, asked, same) =
        subst (AllByRecursion (IsManned shape)) (sym same) (all_gone (IsManned shape) old at manned)

-- abandoning goes through the list: what comes next is as it was
over_at : {X : Type 0} (f : X → X) (xs : List X) (i : ℕ) (d : X) → i < length xs → get_or (map f (take i xs) ++ drop i xs) i d ≡ get_or xs i d
over_at f [] i d inside = absurd (omega arith)
over_at f (x ∷ xs) zero d inside = refl
over_at f (x ∷ xs) (suc i) d inside = over_at f xs i d (omega arith)

all_got : {X : Type 0} (P : X → Type 0) (xs : List X) (i : ℕ) (d : X) → AllByRecursion P xs → i < length xs → P (get_or xs i d)
all_got P [] i d all inside = absurd (omega arith)
all_got P (x ∷ xs) zero d all inside = all.0
all_got P (x ∷ xs) (suc i) d all inside = all_got P xs i d all.1 (omega arith)

pub next_is : {X : Type 0} (P : X → Type 0) (f : X → X) (xs ys : List X) (i : ℕ) (d : X) → AllByRecursion P xs → i < length xs →
    ys ≡ map f (take i xs) ++ drop i xs → P (get_or ys i d)
next_is P f xs ys i d all inside is =
    subst P (sym (ap (λ zs. get_or zs i d) is ∙ over_at f xs i d inside)) (all_got P xs i d all inside)

-- and when it is over each was changed
pub map_over : {X : Type 0} (f : X → X) (xs ys : List X) (i : ℕ) → length xs ≤ i → ys ≡ map f (take i xs) ++ drop i xs → ys ≡ map f xs
map_over f xs ys i long is = is ∙ rw (take_all i xs long, drop_all i xs long) (append-nil (map f xs))

pub all_free : (shape : Shape) (live : List TaskValue) → AllByRecursion (IsManned shape) live → AllByRecursion (λ t. t.over ≡ false) live
all_free shape [] all = tt
all_free shape (t ∷ live) all = (all.0.unanswered, all_free shape live all.1)

pub still_free : (shape : Shape) (live : List TaskValue) → AllByRecursion (IsManned shape) live →
    AllByRecursion (IsManned shape) (map abandoned_task live)
still_free shape [] all = tt
still_free shape (t ∷ live) all =
    (record { of = all.0.of; unanswered = all.0.unanswered }, still_free shape live all.1)

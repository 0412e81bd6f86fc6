-- What the events of a crew tell of one request.
use Rattle.std.proofs.Common.{◌≡◌, ◌≢◌, ℕ, ◌<◌, ◌≤◌, ◌⊎◌, inl, inr, List, [], ◌∷◌, ◌++◌, map, Some, None, refl, sym, ◌∙◌, ap, subst, arith}
use Rattle.std.specs.Option.{option_map}
use Rattle.qs_bytes.specs.declared.ask.Verdict.{Verdict}
use Rattle.qs_model.proofs.Basics.{same_or}
use Rattle.qs_model.specs.Requests.{Req, abandon}
use Rattle.qs_request_state.specs.declared.shape.Shape.{Shape}
use Rattle.qs_request.specs.Table.{followed}
use Rattle.qs_task.specs.Books.{RequestCall}
use Rattle.qs_task.specs.Walks.{IsNextCall}
use Rattle.qs_task.specs.Tasks.{TaskValue}
use Rattle.qs_task.specs.Crews.{CrewValue, CrewEvent, Began, Called, Answered, Left, MayBegin, CallsNext, AnswersNext, CrewStep, CrewRuns, Progress, Unbegun, Going, Over, TellsOf, WalkOf, under_way, left_behind, live_by_number, with_request, without_request, abandoned_task, no_crew}
use Rattle.qs_task.specs.Stories.{MergedWalks}
use Rattle.qs_task.proofs.Crewing.{request_here, request_past, with_here, with_past, without_here, without_past, with_is}

-- the numbers rise from above m up to top
abbrev Rising : ℕ → List TaskValue → ℕ → Type 0
Rising m [] top = m ≤ top
Rising m (t ∷ live) top = (m < t.number) × Rising t.number live top

rising_less : (m j : ℕ) (live : List TaskValue) (top : ℕ) → m ≤ j → Rising j live top → Rising m live top
rising_less m j [] top below rising = omega (arith, below, rising)
rising_less m j (t ∷ live) top below (first, rest) = (omega (arith, below, first), rest)

rising_more : (m : ℕ) (live : List TaskValue) (top : ℕ) (t : TaskValue) → Rising m live top → top < t.number → Rising m (live ++ t ∷ []) t.number
rising_more m [] top t rising above = (omega (arith, rising, above), omega arith)
rising_more m (x ∷ live) top t (first, rest) above = (first, rising_more x.number live top t rest above)

rising_with : (m : ℕ) (k : ℕ) (q : Req) (live : List TaskValue) (top : ℕ) → Rising m live top → Rising m (with_request k q live) top
rising_with m k q [] top rising = rising
rising_with m k q (t ∷ live) top (first, rest) = go (same_or t.number k) (rising_with t.number k q live top rest)
  where
    go : (t.number ≡ k) ⊎ (t.number ≢ k) → Rising t.number (with_request k q live) top → Rising m (with_request k q (t ∷ live)) top
    go (inl e) behind = subst (λ ts. Rising m ts top) (sym (with_here k q t live e)) (first, rest)
    go (inr o) behind = subst (λ ts. Rising m ts top) (sym (with_past k q t live o)) (first, behind)

rising_without : (m : ℕ) (k : ℕ) (live : List TaskValue) (top : ℕ) → Rising m live top → Rising m (without_request k live) top
rising_without m k [] top rising = rising
rising_without m k (t ∷ live) top (first, rest) = go (same_or t.number k) (rising_without t.number k live top rest)
  where
    go : (t.number ≡ k) ⊎ (t.number ≢ k) → Rising t.number (without_request k live) top → Rising m (without_request k (t ∷ live)) top
    go (inl e) behind =
        subst (λ ts. Rising m ts top) (sym (without_here k t live e)) (rising_less m t.number live top (omega (arith, first)) rest)
    go (inr o) behind = subst (λ ts. Rising m ts top) (sym (without_past k t live o)) (first, behind)

rising_left : (m : ℕ) (live : List TaskValue) (top : ℕ) → Rising m live top → Rising m (map abandoned_task live) top
rising_left m [] top rising = rising
rising_left m (t ∷ live) top (first, rest) = (first, rising_left t.number live top rest)

-- no number at or below m is live
none_below : (m n : ℕ) (live : List TaskValue) (top : ℕ) → n ≤ m → Rising m live top → live_by_number n live ≡ None
none_below m n [] top below rising = refl
none_below m n (t ∷ live) top below (first, rest) =
    request_past n t live (λ e. omega (arith, below, first, e)) ∙ none_below t.number n live top (omega (arith, below, first)) rest

-- the live request of a number after each kind of edit
request_new : (n : ℕ) (live : List TaskValue) (t : TaskValue) → live_by_number n live ≡ None → t.number ≡ n →
    live_by_number n (live ++ t ∷ []) ≡ Some t.request
request_new n [] t absent is = request_here n t [] is
request_new n (x ∷ live) t absent is = go (same_or x.number n) (λ e. request_new n live t e is)
  where
    never : Some x.request ≡ None → ⊥
    never e = cc

    go : (x.number ≡ n) ⊎ (x.number ≢ n) → (live_by_number n live ≡ None → live_by_number n (live ++ t ∷ []) ≡ Some t.request) →
        live_by_number n (x ∷ live ++ t ∷ []) ≡ Some t.request
    go (inl e) rest = absurd (never (sym (request_here n x live e) ∙ absent))
    go (inr o) rest = request_past n x (live ++ t ∷ []) o ∙ rest (sym (request_past n x live o) ∙ absent)

request_kept : (n : ℕ) (live : List TaskValue) (t : TaskValue) → t.number ≢ n → live_by_number n (live ++ t ∷ []) ≡ live_by_number n live
request_kept n [] t other = request_past n t [] other
request_kept n (x ∷ live) t other = go (same_or x.number n) (request_kept n live t other)
  where
    go : (x.number ≡ n) ⊎ (x.number ≢ n) → live_by_number n (live ++ t ∷ []) ≡ live_by_number n live →
        live_by_number n (x ∷ live ++ t ∷ []) ≡ live_by_number n (x ∷ live)
    go (inl e) rest = request_here n x (live ++ t ∷ []) e ∙ sym (request_here n x live e)
    go (inr o) rest = request_past n x (live ++ t ∷ []) o ∙ rest ∙ sym (request_past n x live o)

-- the same head in front of two lists
same_head : (n : ℕ) (x y : TaskValue) (xs ys : List TaskValue) → x.number ≡ y.number → x.request ≡ y.request → live_by_number n xs ≡ live_by_number n ys →
    live_by_number n (x ∷ xs) ≡ live_by_number n (y ∷ ys)
same_head n x y xs ys number request rest = go (same_or y.number n)
  where
    go : (y.number ≡ n) ⊎ (y.number ≢ n) → live_by_number n (x ∷ xs) ≡ live_by_number n (y ∷ ys)
    go (inl e) = request_here n x xs (number ∙ e) ∙ ap Some request ∙ sym (request_here n y ys e)
    go (inr o) = request_past n x xs (λ e. o (sym number ∙ e)) ∙ rest ∙ sym (request_past n y ys o)

pub with_other : (n k : ℕ) (q : Req) (live : List TaskValue) → k ≢ n → live_by_number n (with_request k q live) ≡ live_by_number n live
with_other n k q [] other = refl
with_other n k q (t ∷ live) other = go (same_or t.number k) (with_other n k q live other)
  where
    go : (t.number ≡ k) ⊎ (t.number ≢ k) → live_by_number n (with_request k q live) ≡ live_by_number n live →
        live_by_number n (with_request k q (t ∷ live)) ≡ live_by_number n (t ∷ live)
    go (inl e) rest =
        let past : t.number ≢ n = λ f. other (sym e ∙ f) in
        ap (live_by_number n) (with_here k q t live e) ∙ request_past n (record t { request = q }) live past ∙ sym (request_past n t live past)
    go (inr o) rest = ap (live_by_number n) (with_past k q t live o) ∙ same_head n t t (with_request k q live) live refl refl rest

pub without_other : (n k : ℕ) (live : List TaskValue) → k ≢ n → live_by_number n (without_request k live) ≡ live_by_number n live
without_other n k [] other = refl
without_other n k (t ∷ live) other = go (same_or t.number k) (without_other n k live other)
  where
    go : (t.number ≡ k) ⊎ (t.number ≢ k) → live_by_number n (without_request k live) ≡ live_by_number n live →
        live_by_number n (without_request k (t ∷ live)) ≡ live_by_number n (t ∷ live)
    go (inl e) rest = ap (live_by_number n) (without_here k t live e) ∙ sym (request_past n t live (λ f. other (sym e ∙ f)))
    go (inr o) rest = ap (live_by_number n) (without_past k t live o) ∙ same_head n t t (without_request k live) live refl refl rest

without_is : (m n : ℕ) (live : List TaskValue) (top : ℕ) → Rising m live top → live_by_number n (without_request n live) ≡ None
without_is m n [] top rising = refl
without_is m n (t ∷ live) top (first, rest) = go (same_or t.number n) (without_is t.number n live top rest)
  where
    go : (t.number ≡ n) ⊎ (t.number ≢ n) → live_by_number n (without_request n live) ≡ None → live_by_number n (without_request n (t ∷ live)) ≡ None
    go (inl e) behind =
        ap (live_by_number n) (without_here n t live e) ∙ none_below t.number n live top (omega (arith, e)) rest
    go (inr o) behind = ap (live_by_number n) (without_past n t live o) ∙ request_past n t (without_request n live) o ∙ behind

left_is : (n : ℕ) (live : List TaskValue) → live_by_number n (map abandoned_task live) ≡ option_map abandon (live_by_number n live)
left_is n [] = refl
left_is n (t ∷ live) = go (same_or t.number n) (left_is n live)
  where
    go : (t.number ≡ n) ⊎ (t.number ≢ n) → live_by_number n (map abandoned_task live) ≡ option_map abandon (live_by_number n live) →
        live_by_number n (abandoned_task t ∷ map abandoned_task live) ≡ option_map abandon (live_by_number n (t ∷ live))
    go (inl e) rest = request_here n (abandoned_task t) (map abandoned_task live) e ∙ ap (option_map abandon) (sym (request_here n t live e))
    go (inr o) rest =
        request_past n (abandoned_task t) (map abandoned_task live) o ∙ rest ∙ ap (option_map abandon) (sym (request_past n t live o))

-- what has begun has a number that came
abbrev Begun : ℕ → ℕ → Progress → Type 0
Begun n top Unbegun = Unit {0}
Begun n top (Going q) = n ≤ top
Begun n top (Over v) = n ≤ top

-- the crew knows of request n what the events told of it
record Knows (shape : Shape) (n : ℕ) (crew : CrewValue) (p : Progress) : Type 0 where
  of : crew.shape ≡ shape
  rising : Rising 0 crew.live crew.newest
  live : live_by_number n crew.live ≡ under_way p
  begun : Begun n crew.newest p

-- one event
record Told (shape : Shape) (n : ℕ) (e : CrewEvent) (p : Progress) (new : CrewValue) : Type 0 where
  progress : Progress
  tells : TellsOf shape n e p progress
  knows : Knows shape n new progress

going_is : (p : Progress) (q : Req) → Some q ≡ under_way p → p ≡ Going q
going_is Unbegun q is = absurd (never is)
  where
    never : Some q ≡ None → ⊥
    never e = cc
going_is (Over v) q is = absurd (never is)
  where
    never : Some q ≡ None → ⊥
    never e = cc
going_is (Going r) q is = ap Going (same is)
  where
    same : Some q ≡ Some r → r ≡ q
    same e = cc

still_begun : (n a b : ℕ) (p : Progress) → a ≤ b → Begun n a p → Begun n b p
still_begun n a b Unbegun below begun = tt
still_begun n a b (Going q) below begun = omega (arith, below, begun)
still_begun n a b (Over v) below begun = omega (arith, below, begun)

begins : (shape : Shape) (n : ℕ) (crew : CrewValue) (t : TaskValue) (p : Progress) → Knows shape n crew p → MayBegin crew t →
    (t.number ≡ n) ⊎ (t.number ≢ n) → Told shape n (Began t) p (record crew { newest = t.number; live = crew.live ++ t ∷ [] })
begins shape n crew t Unbegun k may (inl e) = record {
  progress = Going t.request;
  tells = inl (e, refl, refl);
  knows = record {
    of = k.of;
    rising = rising_more 0 crew.live crew.newest t k.rising may.number;
    live = request_new n crew.live t k.live e;
    begun = omega (arith, e);
  };
}
begins shape n crew t (Going q) k may (inl e) = absurd (omega (arith, e, k.begun, may.number))
begins shape n crew t (Over v) k may (inl e) = absurd (omega (arith, e, k.begun, may.number))
begins shape n crew t p k may (inr o) = record {
  progress = p;
  tells = inr (o, refl);
  knows = record {
    of = k.of;
    rising = rising_more 0 crew.live crew.newest t k.rising may.number;
    live = request_kept n crew.live t o ∙ k.live;
    begun = still_begun n crew.newest t.number p (omega (arith, may.number)) k.begun;
  };
}

calls : (shape : Shape) (n : ℕ) (crew : CrewValue) (c : RequestCall) (p : Progress) (new : CrewValue) → Knows shape n crew p → CallsNext crew c new →
    (c.request ≡ n) ⊎ (c.request ≢ n) → Told shape n (Called c) p new
calls shape n crew c p new k does (inl e) =
    let q = does.request in
    let is : p ≡ Going q = going_is p q (sym does.is_live ∙ ap (λ i. live_by_number i crew.live) e ∙ k.live) in
    let r : Req = followed shape.align q c.reply in
    let same : new ≡ record crew { live = with_request n r crew.live } =
    subst (λ i. new ≡ record crew { live = with_request i r crew.live }) e
    (subst (λ s. new ≡ record crew { live = with_request c.request (followed s.align q c.reply) crew.live }) k.of does.live) in
    let next : IsNextCall shape n q c =
    subst (λ i. IsNextCall shape i q c) e (subst (λ s. IsNextCall s c.request q c) k.of does.next) in
    record {
      progress = Going r;
      tells = inl (q, is, next, refl);
      knows = subst (λ w. Knows shape n w (Going r)) (sym same) (record {
        of = k.of;
        rising = rising_with 0 n r crew.live crew.newest k.rising;
        live = with_is n q r crew.live (ap (λ i. live_by_number i crew.live) (sym e) ∙ does.is_live);
        begun = subst (Begun n crew.newest) is k.begun;
      });
    }
calls shape n crew c p new k does (inr o) =
    let r : Req = followed crew.shape.align does.request c.reply in
    record {
      progress = p;
      tells = inr (o, refl);
      knows = subst (λ w. Knows shape n w p) (sym does.live) (record {
        of = k.of;
        rising = rising_with 0 c.request r crew.live crew.newest k.rising;
        live = with_other n c.request r crew.live o ∙ k.live;
        begun = k.begun;
      });
    }

answers : (shape : Shape) (n : ℕ) (crew : CrewValue) (i : ℕ) (v : Verdict) (p : Progress) (new : CrewValue) → Knows shape n crew p → AnswersNext crew i v new →
    (i ≡ n) ⊎ (i ≢ n) → Told shape n (Answered i v) p new
answers shape n crew i v p new k does (inl e) =
    let q = does.request in
    let is : p ≡ Going q = going_is p q (sym does.is_live ∙ ap (λ j. live_by_number j crew.live) e ∙ k.live) in
    let same : new ≡ record crew { live = without_request n crew.live } =
    subst (λ j. new ≡ record crew { live = without_request j crew.live }) e does.live in
    record {
      progress = Over v;
      tells = inl (q, e, is, does.ready, refl);
      knows = subst (λ w. Knows shape n w (Over v)) (sym same) (record {
        of = k.of;
        rising = rising_without 0 n crew.live crew.newest k.rising;
        live = without_is 0 n crew.live crew.newest k.rising;
        begun = subst (Begun n crew.newest) is k.begun;
      });
    }
answers shape n crew i v p new k does (inr o) = record {
  progress = p;
  tells = inr (o, refl);
  knows = subst (λ w. Knows shape n w p) (sym does.live) (record {
    of = k.of;
    rising = rising_without 0 i crew.live crew.newest k.rising;
    live = without_other n i crew.live o ∙ k.live;
    begun = k.begun;
  });
}

left_going : (p : Progress) → option_map abandon (under_way p) ≡ under_way (left_behind p)
left_going Unbegun = refl
left_going (Going q) = refl
left_going (Over v) = refl

left_begun : (n top : ℕ) (p : Progress) → Begun n top p → Begun n top (left_behind p)
left_begun n top Unbegun begun = begun
left_begun n top (Going q) begun = begun
left_begun n top (Over v) begun = begun

told : (shape : Shape) (n : ℕ) (crew : CrewValue) (e : CrewEvent) (p : Progress) (new : CrewValue) → Knows shape n crew p → CrewStep crew e new →
    Told shape n e p new
told shape n crew (Began t) p new k (may, is) =
    subst (λ w. Told shape n (Began t) p w) (sym is) (begins shape n crew t p k may (same_or t.number n))
told shape n crew (Called c) p new k does = calls shape n crew c p new k does (same_or c.request n)
told shape n crew (Answered i v) p new k does = answers shape n crew i v p new k does (same_or i n)
told shape n crew Left p new k is = record {
  progress = left_behind p;
  tells = refl;
  knows = subst (λ w. Knows shape n w (left_behind p)) (sym is) (record {
    of = k.of;
    rising = rising_left 0 crew.live crew.newest k.rising;
    live = left_is n crew.live ∙ ap (option_map abandon) k.live ∙ left_going p;
    begun = left_begun n crew.newest p k.begun;
  });
}

-- all events
walked : (shape : Shape) (n : ℕ) (crew : CrewValue) (events : List CrewEvent) (p : Progress) (new : CrewValue) → Knows shape n crew p →
    CrewRuns crew events new → (r : Progress) × WalkOf shape n p events r × (live_by_number n new.live ≡ under_way r)
walked shape n crew [] p new k at = (p, refl, ap (λ w. live_by_number n w.live) at ∙ k.live)
walked shape n crew (e ∷ events) p new k (mid, step, rest) =
    let one = told shape n crew e p mid k step in
    let behind = walked shape n mid events one.progress new one.knows rest in
    (behind.0, (one.progress, one.tells, behind.1), behind.2)

pub merged : MergedWalks
merged shape events crew runs n =
    let w = walked shape n (no_crew shape) events Unbegun crew
    (record { of = refl; rising = omega arith; live = refl; begun = tt }) runs in
    record { progress = w.0; walk = w.1; live = w.2 }

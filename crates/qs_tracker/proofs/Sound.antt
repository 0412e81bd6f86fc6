-- What holds of a tracker in every history.
use Rattle.std.proofs.Common.{◌≡◌, ℕ, ◌+◌, ◌-◌, ◌^◌, ◌<◌, ◌≤◌, zero, suc, List, length, replicate, Bool, true, false, cond, refl, sym, ◌∙◌, ap, subst, inl, inr, ◌⊎◌, arith}
use Rattle.std.specs.Prelude.{nat_lt, nat_le, IsTrue, count_by}
use Rattle.std.proofs.lemmas.Bool.Decides.{nat_tests}
use Rattle.std.proofs.Math.ListN.{get_or-map}
use Rattle.std.proofs.lemmas.List.{length-set, length-map}
use Rattle.qs_bytes.specs.Spans.{Places}
use Rattle.qs_part.specs.declared.tracker.TrackerOp.{TrackerOp}
use Rattle.qs_part.specs.declared.tracker.TrackerOp.TheVariants.{Enter, List as ToList, Start, End, Quiesce, Resume}
use Rattle.qs_part.specs.declared.tracker.TrackerReply.{TrackerReply}
use Rattle.qs_part.specs.declared.tracker.TrackerReply.TheVariants.{Entered, Listed, Started, Ended, Stopped, Resumed}
use Rattle.qs_part.specs.Histories.{Call}
use Rattle.qs_part.proofs.Histories.{stands_keeps}
use Rattle.qs_tracker.specs.declared.seat.Listing.{Listing}
use Rattle.qs_tracker.specs.declared.seat.Seat.{Seat}
use Rattle.qs_tracker.specs.declared.seat.Seat.TheVariants.{Vacant, Present, Has}
use Rattle.qs_tracker.specs.Seats.{Conflict, seat_at, is_listed, Precedes, IsClear, rank, ranked, renumbered}
use Rattle.qs_tracker.specs.Table.{TrackerValue, fresh, numbered, placed, listed, going, MayStart, May, after}
use Rattle.qs_tracker.specs.History.{lawful_call, StandsForFresh, IsListed, IsListedStarted, IsLowest}
use Rattle.qs_tracker.proofs.Seats.{at_set, nobody}
use Rattle.qs_tracker.proofs.Lowest.{one_more}
use Rattle.qs_tracker.proofs.Ranks.{rank_le, rank_lt, rank_below, inside}

-- numbers of listed spans are below the next one and differ, and a span that goes is clear
pub record Sound (v : TrackerValue) : Type 0 where
  pub size : length v.seats ≡ 256
  pub below : (k : ℕ) (l : Listing) → IsListed v k l → l.number < v.number
  pub one : (j k : ℕ) (l m : Listing) → IsListed v j l → IsListed v k m → l.number ≡ m.number → j ≡ k
  pub clear : (k : ℕ) (l : Listing) → IsListedStarted v k l → IsClear v.seats l

abbrev pub span_at : Seat → Listing → Listing
span_at (Has l) other = l
span_at _ other = other

pub same_listing : (l m : Listing) → Has l ≡ Has m → l ≡ m
same_listing l m e = ap (λ (s : Seat). span_at s l) e

pub vacant_not : (l : Listing) → Vacant ≡ Has l → ⊥
vacant_not l e = cc

pub present_not : (l : Listing) → Present ≡ Has l → ⊥
present_not l e = cc

pub fresh_sound : (n : ℕ) → Sound (fresh n)
fresh_sound n = record {
  size = refl;
  below = λ k l h. absurd (none k l h);
  one = λ j k l m h f e. absurd (none j l h);
  clear = λ k l h. absurd (none k l h.0);
}
  where
    none : (k : ℕ) (l : Listing) → seat_at (replicate 256 Vacant) k ≡ Has l → ⊥
    none k l h = vacant_not l (sym (nobody 256 k) ∙ h)

-- a place gets a seat that has no span
pub without_sound : (v : TrackerValue) (k : ℕ) (s : Seat) → ((l : Listing) → s ≡ Has l → ⊥) → ((l : Listing) → Precedes s l → ⊥) → Sound v → Sound (placed v k s)
without_sound v k s never none sound = record {
  size = length-set v.seats k s ∙ sound.size;
  below = λ j l h. sound.below j l (was j l h);
  one = λ i j l m h f e. sound.one i j l m (was i l h) (was j m f) e;
  clear = λ j l h i p. sound.clear j l (was j l h.0, h.1) i
      (at_set (λ (t : Seat). Precedes t l → Precedes (seat_at v.seats i) l) v.seats k s i (λ q. q) (λ _ q. absurd (none l q)) p);
}
  where
    was : (j : ℕ) (l : Listing) → IsListed (placed v k s) j l → IsListed v j l
    was j l h = at_set (λ (t : Seat). t ≡ Has l → seat_at v.seats j ≡ Has l) v.seats k s j (λ f. f) (λ _ f. absurd (never l f)) h

-- whether a span goes changes nothing of what it waits for
pub going_precedes : (s : Seat) (own : Listing) → Precedes s (record own { started = true }) → Precedes s own
going_precedes (Has l) own p = p
going_precedes Vacant own p = p
going_precedes Present own p = p

-- what a listing was before a Start of the clear span `own`
pub record Was (v : TrackerValue) (j : ℕ) (l : Listing) : Type 0 where
  pub old : Listing
  pub listed_then : IsListed v j old
  pub number : old.number ≡ l.number
  pub clear : l.started ≡ true → IsClear v.seats l

pub started_sound : (v : TrackerValue) (k : ℕ) (own : Listing) → seat_at v.seats k ≡ Has own → IsClear v.seats own → Sound v →
    Sound (placed v k (Has (record own { started = true })))
started_sound v k own at free sound = record {
  size = length-set v.seats k (Has (record own { started = true })) ∙ sound.size;
  below = λ j l h. let w : Was v j l = was j l h in omega (arith, sound.below j w.old w.listed_then, w.number);
  one = λ i j l m h f e. let a : Was v i l = was i l h in let b : Was v j m = was j m f in
      sound.one i j a.old b.old a.listed_then b.listed_then (a.number ∙ e ∙ sym b.number);
  clear = λ j l h i p. (was j l h.0).clear h.1 i (back l i p);
}
  where
    was : (j : ℕ) (l : Listing) → IsListed (placed v k (Has (record own { started = true }))) j l → Was v j l
    was j l h =
        at_set (λ (t : Seat). t ≡ Has l → Was v j l) v.seats k (Has (record own { started = true })) j
        (λ f. record { old = l; listed_then = f; number = refl; clear = λ e. sound.clear j l (f, e) })
        (λ same f.
        let is : record own { started = true } ≡ l = same_listing (record own { started = true }) l f in
        record {
          old = own;
          listed_then = rw same at;
          number = ap (λ (x : Listing). x.number) is;
          clear = λ e. subst (λ (x : Listing). IsClear v.seats x) is (λ i p. free i (going_precedes (seat_at v.seats i) own p));
        })
        h

    back : (l : Listing) (i : ℕ) → Precedes (seat_at (placed v k (Has (record own { started = true }))).seats i) l → Precedes (seat_at v.seats i) l
    back l i p =
        at_set (λ (t : Seat). Precedes t l → Precedes (seat_at v.seats i) l) v.seats k (Has (record own { started = true })) i (λ q. q)
        (λ same q. rw same (subst (λ (t : Seat). Precedes t l) (sym at) q)) p

-- what a listing was before a List at k
abbrev pub ListedBefore : TrackerValue → ℕ → ℕ → Listing → Type 0
ListedBefore v k j l = (IsListed v j l × (l.number < v.number)) ⊎ ((j ≡ k) × (l.number ≡ v.number) × (l.started ≡ false))

pub listed_sound : (v : TrackerValue) (k : ℕ) (span : Places) (serial : Bool) → Sound v → Sound (listed v k span serial)
listed_sound v k span serial sound = record {
  size = length-set v.seats k (Has (record { span = span; serial = serial; number = v.number; started = false })) ∙ sound.size;
  below = λ j l h. below j l (was j l h);
  one = λ i j l m h f e. one i j l m (was i l h) (was j m f) e;
  clear = λ j l h. clear j l h.1 (was j l h.0);
}
  where
    new : Listing
    new = record { span = span; serial = serial; number = v.number; started = false }

    was : (j : ℕ) (l : Listing) → IsListed (listed v k span serial) j l → ListedBefore v k j l
    was j l h =
        at_set (λ (t : Seat). t ≡ Has l → ListedBefore v k j l) v.seats k (Has (record { span = span; serial = serial; number = v.number; started = false })) j
        (λ f. inl (f, sound.below j l f))
        (λ same f.
        let is : record { span = span; serial = serial; number = v.number; started = false } ≡ l = same_listing _ l f in
        inr (same, sym (ap (λ (x : Listing). x.number) is), sym (ap (λ (x : Listing). x.started) is)))
        h

    below : (j : ℕ) (l : Listing) → ListedBefore v k j l → l.number < v.number + 1
    below j l (inl w) = omega (arith, w.1)
    below j l (inr w) = omega (arith, w.1)

    one : (i j : ℕ) (l m : Listing) → ListedBefore v k i l → ListedBefore v k j m → l.number ≡ m.number → i ≡ j
    one i j l m (inl a) (inl b) e = sound.one i j l m a.0 b.0 e
    one i j l m (inl a) (inr b) e = absurd (omega (arith, a.1, b.1, e))
    one i j l m (inr a) (inl b) e = absurd (omega (arith, a.1, b.1, e))
    one i j l m (inr a) (inr b) e = a.0 ∙ sym b.0

    clear : (j : ℕ) (l : Listing) → l.started ≡ true → ListedBefore v k j l → IsClear (listed v k span serial).seats l
    clear j l e (inl w) i p =
        sound.clear j l (w.0, e) i
        (at_set (λ (t : Seat). Precedes t l → Precedes (seat_at v.seats i) l) v.seats k
        (Has (record { span = span; serial = serial; number = v.number; started = false })) i (λ q. q)
        (λ _ q. absurd (omega (arith, q.0, w.1))) p)
    clear j l e (inr w) i p = absurd (never (sym e ∙ w.2))
      where
        never : true ≡ false → ⊥
        never f = cc

-- what a listing was before the spans were numbered anew
pub record Before (seats : List Seat) (j : ℕ) (l : Listing) : Type 0 where
  pub old : Listing
  pub at : seat_at seats j ≡ Has old
  pub is : record old { number = rank seats old.number } ≡ l

pub ranked_at : (seats : List Seat) (j : ℕ) → seat_at (renumbered seats) j ≡ ranked seats (seat_at seats j)
ranked_at seats j = get_or-map (ranked seats) seats j Vacant

pub before : (seats : List Seat) (j : ℕ) (l : Listing) → seat_at (renumbered seats) j ≡ Has l → Before seats j l
before seats j l h = go (seat_at seats j) refl (sym (ranked_at seats j) ∙ h)
  where
    go : (s : Seat) → seat_at seats j ≡ s → ranked seats s ≡ Has l → Before seats j l
    go (Has m) at e = record { old = m; at = at; is = same_listing (record m { number = rank seats m.number }) l e }
    go Vacant at e = absurd (vacant_not l e)
    go Present at e = absurd (present_not l e)

pub renumbered_sound : (v : TrackerValue) → Sound v →
    Sound (record { seats = renumbered v.seats; number = count_by is_listed v.seats; quiesced = v.quiesced })
renumbered_sound v sound = record {
  size = length-map v.seats (ranked v.seats) ∙ sound.size;
  below = λ j l h. let b : Before v.seats j l = before v.seats j l h in
      omega (arith, ap (λ (x : Listing). x.number) b.is, rank_below v.seats j b.old b.at);
  one = λ i j l m h f e. one i j l m (before v.seats i l h) (before v.seats j m f) e;
  clear = λ j l h i p. clear j l h.1 (before v.seats j l h.0) i p;
}
  where
    one : (i j : ℕ) (l m : Listing) → Before v.seats i l → Before v.seats j m → l.number ≡ m.number → i ≡ j
    one i j l m a b e =
        let same : rank v.seats a.old.number ≡ rank v.seats b.old.number =
        ap (λ (x : Listing). x.number) a.is ∙ e ∙ sym (ap (λ (x : Listing). x.number) b.is) in
        let less : a.old.number < b.old.number → ⊥ = λ h. omega (arith, same, rank_lt v.seats i a.old b.old.number a.at h) in
        let more : b.old.number < a.old.number → ⊥ = λ h. omega (arith, same, rank_lt v.seats j b.old a.old.number b.at h) in
        sound.one i j a.old b.old a.at b.at (equal a.old.number b.old.number less more)
      where
        equal : (x y : ℕ) → (x < y → ⊥) → (y < x → ⊥) → x ≡ y
        equal x y never none = omega (arith, never, none)

    clear : (j : ℕ) (l : Listing) → l.started ≡ true → Before v.seats j l → (i : ℕ) → Precedes (seat_at (renumbered v.seats) i) l → ⊥
    clear j l e b i p =
        sound.clear j b.old (b.at, ap (λ (x : Listing). x.started) b.is ∙ e) i
        (back (seat_at v.seats i)
        (subst (λ (x : Listing). Precedes (ranked v.seats (seat_at v.seats i)) x) (sym b.is)
        (subst (λ (s : Seat). Precedes s l) (ranked_at v.seats i) p)))
      where
        lower : (x : Listing) → rank v.seats x.number < rank v.seats b.old.number → x.number < b.old.number
        lower x h = go (nat_lt x.number b.old.number) refl
          where
            go : (t : Bool) → nat_lt x.number b.old.number ≡ t → x.number < b.old.number
            go true f = grind (arith, nat_tests)
            go false f =
                let most : b.old.number ≤ x.number = grind (arith, nat_tests) in
                absurd (omega (arith, h, rank_le v.seats b.old.number x.number most))

        back : (s : Seat) → Precedes (ranked v.seats s) (record b.old { number = rank v.seats b.old.number }) → Precedes s b.old
        back (Has x) q = (lower x q.0, q.1)
        back Vacant q = q
        back Present q = q

pub numbered_sound : (v : TrackerValue) → Sound v → Sound (numbered v)
numbered_sound v sound = go (nat_lt v.number (2 ^ 64 - 1))
  where
    go : (b : Bool) → Sound (cond b v (record { seats = renumbered v.seats; number = count_by is_listed v.seats; quiesced = v.quiesced }))
    go true = sound
    go false = renumbered_sound v sound

pub start_sound : (v : TrackerValue) (k : ℕ) (s : Seat) → seat_at v.seats k ≡ s → MayStart v.seats s Started → Sound v → Sound (placed v k (going s))
start_sound v k (Has own) at may sound = started_sound v k own at may sound
start_sound v k Vacant at may sound = absurd may
start_sound v k Present at may sound = absurd may

-- each answer keeps the facts
pub after_sound : (v : TrackerValue) (op : TrackerOp) (reply : TrackerReply) → Sound v → May v op reply → Sound (after v op reply)
after_sound v Enter (Entered k) sound may = without_sound v k Present present_not (λ l p. p) sound
after_sound v (ToList k span serial) (Listed n) sound may = listed_sound (numbered v) k span serial (numbered_sound v sound)
after_sound v (Start k) Started sound may = start_sound v k (seat_at v.seats k) refl may sound
after_sound v (End k) Ended sound may = without_sound v k Vacant vacant_not (λ l p. p) sound
after_sound v Quiesce Stopped sound may = record { size = sound.size; below = sound.below; one = sound.one; clear = sound.clear }
after_sound v Resume Resumed sound may = record { size = sound.size; below = sound.below; one = sound.one; clear = sound.clear }
after_sound v _ _ sound may = sound

pub fresh_stands : (first : ℕ) (cs : List (Call TrackerOp TrackerReply)) (v : TrackerValue) → StandsForFresh first cs v → Sound v
fresh_stands first cs v stands =
    stands_keeps lawful_call Sound (λ old op reply new call sound. subst Sound (sym call.1.1) (after_sound old op reply sound call.1.0))
    (fresh first) cs v stands (fresh_sound first)

-- conflict goes both ways
pub conflict_back : (l m : Listing) → Conflict l m → Conflict m l
conflict_back l m c = ((c.0.0, (c.0.1.1, c.0.1.0)), other c.1)
  where
    other : IsTrue l.serial ⊎ IsTrue m.serial → IsTrue m.serial ⊎ IsTrue l.serial
    other (inl h) = inr h
    other (inr h) = inl h

-- of two that go and conflict, neither has the lower number, so they are one
pub goes_apart : (v : TrackerValue) (j k : ℕ) (l m : Listing) → Sound v → IsListedStarted v j l → IsListedStarted v k m → Conflict l m → j ≡ k
goes_apart v j k l m sound a b c =
    let less : l.number < m.number → ⊥ = λ h. sound.clear k m b j (subst (λ (s : Seat). Precedes s m) (sym a.0) (h, c)) in
    let more : m.number < l.number → ⊥ = λ h. sound.clear j l a k (subst (λ (s : Seat). Precedes s l) (sym b.0) (h, conflict_back l m c)) in
    sound.one j k l m a.0 b.0 (equal l.number m.number less more)
  where
    equal : (x y : ℕ) → (x < y → ⊥) → (y < x → ⊥) → x ≡ y
    equal x y never none = omega (arith, never, none)

-- a span of the lowest number can start
pub lowest_starts : (v : TrackerValue) (k : ℕ) (l : Listing) → IsLowest v k l → May v (Start k) Started
lowest_starts v k l low = subst (λ (s : Seat). MayStart v.seats s Started) (sym low.listed) (λ i p. go i (seat_at v.seats i) refl p)
  where
    go : (i : ℕ) (s : Seat) → seat_at v.seats i ≡ s → Precedes s l → ⊥
    go i (Has m) at p = omega (arith, p.0, low.lowest i m at)
    go i Vacant at p = p
    go i Present at p = p

-- the lowest of the first n places
pub record LowestOf (v : TrackerValue) (n : ℕ) : Type 0 where
  pub place : ℕ
  pub span : Listing
  pub stands : IsListed v place span
  pub lowest : (j : ℕ) → j < n → (m : Listing) → IsListed v j m → span.number ≤ m.number

pub lowest_of : (v : TrackerValue) (n : ℕ) → ((j : ℕ) → j < n → (m : Listing) → IsListed v j m → ⊥) ⊎ LowestOf v n
lowest_of v zero = inl (λ j h. absurd (omega arith))
lowest_of v (suc n) = go (lowest_of v n) (seat_at v.seats n) refl
  where
    none_here : (s : Seat) → ((m : Listing) → s ≡ Has m → ⊥) → seat_at v.seats n ≡ s →
        ((j : ℕ) → j < n → (m : Listing) → IsListed v j m → ⊥) ⊎ LowestOf v n → ((j : ℕ) → j < suc n → (m : Listing) → IsListed v j m → ⊥) ⊎ LowestOf v (suc n)
    none_here s never at (inl none) =
        inl (λ j h. one_more (λ i. (m : Listing) → IsListed v i m → ⊥) n j (omega (arith, h)) none (λ m f. never m (sym at ∙ f)))
    none_here s never at (inr w) = inr (record {
      place = w.place;
      span = w.span;
      stands = w.stands;
      lowest = λ j h. one_more (λ i. (m : Listing) → IsListed v i m → w.span.number ≤ m.number) n j (omega (arith, h)) w.lowest
          (λ m f. absurd (never m (sym at ∙ f)));
    })

    same : (x m : Listing) → seat_at v.seats n ≡ Has x → seat_at v.seats n ≡ Has m → x.number ≡ m.number
    same x m at f = ap (λ (l : Listing). l.number) (same_listing x m (sym at ∙ f))

    go : ((j : ℕ) → j < n → (m : Listing) → IsListed v j m → ⊥) ⊎ LowestOf v n → (s : Seat) → seat_at v.seats n ≡ s →
        ((j : ℕ) → j < suc n → (m : Listing) → IsListed v j m → ⊥) ⊎ LowestOf v (suc n)
    go rest Vacant at = none_here Vacant vacant_not at rest
    go rest Present at = none_here Present present_not at rest
    go (inl none) (Has x) at = inr (record {
      place = n;
      span = x;
      stands = at;
      lowest = λ j h. one_more (λ i. (m : Listing) → IsListed v i m → x.number ≤ m.number) n j (omega (arith, h))
          (λ i f m g. absurd (none i f m g)) (λ m f. omega (arith, same x m at f));
    })
    go (inr w) (Has x) at = pick (nat_le w.span.number x.number) refl
      where
        pick : (b : Bool) → nat_le w.span.number x.number ≡ b → ((j : ℕ) → j < suc n → (m : Listing) → IsListed v j m → ⊥) ⊎ LowestOf v (suc n)
        pick true e =
            let le : w.span.number ≤ x.number = grind (arith, nat_tests) in
            inr (record {
              place = w.place;
              span = w.span;
              stands = w.stands;
              lowest = λ j h. one_more (λ i. (m : Listing) → IsListed v i m → w.span.number ≤ m.number) n j (omega (arith, h)) w.lowest
                  (λ m f. omega (arith, le, same x m at f));
            })
        pick false e =
            let lt : x.number < w.span.number = grind (arith, nat_tests) in
            inr (record {
              place = n;
              span = x;
              stands = at;
              lowest = λ j h. one_more (λ i. (m : Listing) → IsListed v i m → x.number ≤ m.number) n j (omega (arith, h))
                  (λ i f m g. omega (arith, lt, w.lowest i f m g)) (λ m f. omega (arith, same x m at f));
            })

-- where a span is listed, one has the lowest number
pub lowest_one : (v : TrackerValue) (k : ℕ) (l : Listing) → IsListed v k l → (j : ℕ) × (m : Listing) × IsLowest v j m
lowest_one v k l h = go (lowest_of v (length v.seats))
  where
    go : ((j : ℕ) → j < length v.seats → (m : Listing) → IsListed v j m → ⊥) ⊎ LowestOf v (length v.seats) → (j : ℕ) × (m : Listing) × IsLowest v j m
    go (inl none) = absurd (none k (inside v.seats k l h) l h)
    go (inr w) = (w.place, w.span, record { listed = w.stands; lowest = λ i m f. w.lowest i (inside v.seats i m f) m f })

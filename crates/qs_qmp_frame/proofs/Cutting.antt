-- Streams are cut into their objects, and what is cut is a stream.
use Rattle.std.proofs.Common.{◌≡◌, ℕ, ◌+◌, ◌<◌, ◌≤◌, Bool, true, false, ◌==◌, if◌then◌else◌, List, [], ◌∷◌, ◌++◌, length, refl, ap, sym, ◌∙◌, append_assoc, arith, subst, suc}
use Rattle.std.specs.List.{flat_map}
use Rattle.std.proofs.lemmas.List.{length-append, append-nil, nil_from_length}
use Rattle.qs_qmp_frame.specs.declared.place.Place.{Place}
use Rattle.qs_qmp_frame.specs.declared.place.Place.TheVariants.{Outside}
use Rattle.qs_qmp_frame.specs.Objects.{open_brace, is_blank, limit, closes, ends, next, stays, is_object, is_beginning}
use Rattle.qs_qmp_frame.specs.Phases.{Phase, Gap, Part, Whole, Wrong, Long, phase_after, refusal_of}
use Rattle.qs_qmp_frame.specs.Streams.{Item, Blank, Framed, item_bytes, IsItem, AreItems, framed, Rest, Bare, Begun, Stray, Endless, rest_bytes, IsRest, refused_in, Stream, stream_bytes, IsStream, IsCut, IsSpelled, CutsStreams}
use Rattle.qs_qmp_frame.proofs.Runs.{Leads, leads-append, leads-cons, wrong_stays, long_stays, IsReady, ready_begins, begin_blank, begin_stray, go_end, go_more, go_long}

one_more : (kept bytes : List ℕ) (b : ℕ) → (kept ++ b ∷ []) ++ bytes ≡ kept ++ b ∷ bytes
one_more kept bytes b = append_assoc kept (b ∷ []) bytes

length_more : (kept : List ℕ) (b : ℕ) → length (kept ++ b ∷ []) ≡ length kept + 1
length_more kept b = length-append kept (b ∷ [])

-- the bytes close the object that the kept ones begin
abbrev Closed : Place → List ℕ → List ℕ → Type 0
Closed place kept bytes = Leads (Part place kept) bytes (Whole (kept ++ bytes)) ((kept ++ bytes) ∷ [])

close_last : (place : Place) (kept bytes : List ℕ) (b : ℕ) → ends place b ≡ true → bytes ≡ [] → Closed place kept (b ∷ bytes)
close_last place kept bytes b is none =
    rw none (leads-cons (Part place kept) (Whole (kept ++ b ∷ [])) (Whole (kept ++ b ∷ [])) b [] [] (go_end place (kept ++ b ∷ []) b is) (record { run = refl; objects = refl }))

close_more : (place : Place) (kept bytes : List ℕ) (b : ℕ) → ends place b ≡ false → length kept + 1 < limit →
    Closed (next place b) (kept ++ b ∷ []) bytes → Closed place kept (b ∷ bytes)
close_more place kept bytes b is short rest =
    leads-cons (Part place kept) (Part (next place b) (kept ++ b ∷ [])) (Whole (kept ++ b ∷ bytes)) b bytes ((kept ++ b ∷ bytes) ∷ [])
    (go_more place (kept ++ b ∷ []) b is (rw (length_more kept b) short))
    (rw (one_more kept bytes b) at rest)

-- what closes is not empty
closes_some : (place : Place) (bytes : List ℕ) → closes place bytes ≡ true → 0 < length bytes
closes_some place [] is = absurd (grind (arith, is))
closes_some place (b ∷ bytes) is = omega arith

closes_cases : (e : Bool) (place : Place) (kept bytes : List ℕ) (b : ℕ) → ends place b ≡ e →
    (if e then length bytes == 0 else closes (next place b) bytes) ≡ true → length kept + suc (length bytes) ≤ limit →
    ((closes (next place b) bytes ≡ true) → length (kept ++ b ∷ []) + length bytes ≤ limit → Closed (next place b) (kept ++ b ∷ []) bytes) →
    Closed place kept (b ∷ bytes)
closes_cases true place kept bytes b is closed fits again = close_last place kept bytes b is (nil_from_length bytes (grind (arith, closed)))
closes_cases false place kept bytes b is closed fits again =
    close_more place kept bytes b is (omega (arith, fits, closes_some (next place b) bytes closed))
    (again closed (rw (length_more kept b) (omega (arith, fits))))

pub closing : (bytes : List ℕ) (place : Place) (kept : List ℕ) → closes place bytes ≡ true → length kept + length bytes ≤ limit → Closed place kept bytes
closing [] place kept closed fits = absurd (grind (arith, closed))
closing (b ∷ bytes) place kept closed fits =
    closes_cases (ends place b) place kept bytes b refl closed (omega (arith, fits)) (λ c f. closing bytes (next place b) (kept ++ b ∷ []) c f)

-- the place behind bytes that don't end the object
abbrev walk : Place → List ℕ → Place
walk place [] = place
walk place (b ∷ bytes) = walk (next place b) bytes

-- the bytes go on with the object that the kept ones begin
abbrev Stayed : Place → List ℕ → List ℕ → Type 0
Stayed place kept bytes = Leads (Part place kept) bytes (Part (walk place bytes) (kept ++ bytes)) []

stay_more : (place : Place) (kept bytes : List ℕ) (b : ℕ) → ends place b ≡ false → length kept + 1 < limit →
    Stayed (next place b) (kept ++ b ∷ []) bytes → Stayed place kept (b ∷ bytes)
stay_more place kept bytes b is short rest =
    leads-cons (Part place kept) (Part (next place b) (kept ++ b ∷ [])) (Part (walk place (b ∷ bytes)) (kept ++ b ∷ bytes)) b bytes []
    (go_more place (kept ++ b ∷ []) b is (rw (length_more kept b) short))
    (rw (one_more kept bytes b) at rest)

-- the first of bytes that stay doesn't end the object, nor do the others
record Goes (place : Place) (b : ℕ) (bytes : List ℕ) : Type 0 where
  is : ends place b ≡ false
  more : stays (next place b) bytes ≡ true

goes_cases : (e : Bool) (place : Place) (b : ℕ) (bytes : List ℕ) → ends place b ≡ e →
    (if e then false else stays (next place b) bytes) ≡ true → Goes place b bytes
goes_cases true place b bytes is stay = absurd (grind (arith, stay))
goes_cases false place b bytes is stay = record { is = is; more = stay }

goes : (place : Place) (b : ℕ) (bytes : List ℕ) → stays place (b ∷ bytes) ≡ true → Goes place b bytes
goes place b bytes stay = goes_cases (ends place b) place b bytes refl stay

pub staying : (bytes : List ℕ) (place : Place) (kept : List ℕ) → stays place bytes ≡ true → length kept + length bytes < limit → Stayed place kept bytes
staying [] place kept stay fits = record { run = ap (λ xs. Part place xs) (sym (append-nil kept)); objects = refl }
staying (b ∷ bytes) place kept stay fits =
    let g = goes place b bytes stay in
    stay_more place kept bytes b g.is (omega (arith, fits))
    (staying bytes (next place b) (kept ++ b ∷ []) g.more (rw (length_more kept b) (omega (arith, fits))))

-- the bytes make the object that the kept ones begin as long as it may be
abbrev Overran : Place → List ℕ → List ℕ → Type 0
Overran place kept bytes = Leads (Part place kept) bytes Long []

overrun_last : (place : Place) (kept bytes : List ℕ) (b : ℕ) → ends place b ≡ false → length kept + 1 ≡ limit → Overran place kept (b ∷ bytes)
overrun_last place kept bytes b is long =
    leads-cons (Part place kept) Long Long b bytes [] (go_long place (kept ++ b ∷ []) b is (length_more kept b ∙ long)) (long_stays bytes)

overrun_more : (place : Place) (kept bytes : List ℕ) (b : ℕ) → ends place b ≡ false → length kept + 1 < limit →
    Overran (next place b) (kept ++ b ∷ []) bytes → Overran place kept (b ∷ bytes)
overrun_more place kept bytes b is short rest =
    leads-cons (Part place kept) (Part (next place b) (kept ++ b ∷ [])) Long b bytes []
    (go_more place (kept ++ b ∷ []) b is (rw (length_more kept b) short)) rest

pub overrunning : (bytes : List ℕ) (place : Place) (kept : List ℕ) → stays place bytes ≡ true → length kept < limit →
    length kept + length bytes ≡ limit → Overran place kept bytes
overrunning [] place kept stay short long = absurd (omega (arith, short, long))
overrunning (b ∷ []) place kept stay short long =
    overrun_last place kept [] b (goes place b [] stay).is (omega (arith, long))
overrunning (b ∷ x ∷ bytes) place kept stay short long =
    let g = goes place b (x ∷ bytes) stay in
    overrun_more place kept (x ∷ bytes) b g.is (omega (arith, long))
    (overrunning (x ∷ bytes) (next place b) (kept ++ b ∷ []) g.more (rw (length_more kept b) (omega (arith, long))) (rw (length_more kept b) (omega (arith, long))))

-- what begins with a brace
record Braced (p : Phase) (b : ℕ) : Type 0 where
  is : b ≡ open_brace
  leads : phase_after p b ≡ Part (Outside 0) (open_brace ∷ [])

braced : (p : Phase) (b : ℕ) → IsReady p → (b == open_brace) ≡ true → Braced p b
braced p b ready is = let e : b ≡ open_brace = grind (arith, is) in record { is = e; leads = rw e (ready_begins p open_brace ready) }

pub frames_object : (p : Phase) (object : List ℕ) → IsReady p → is_object object ≡ true → length object ≤ limit → Leads p object (Whole object) (object ∷ [])
frames_object p [] ready is fits = absurd (grind (arith, is))
frames_object p (b ∷ bytes) ready is fits =
    let h = braced p b ready (grind (arith, is)) in
    rw h.is (leads-cons p (Part (Outside 0) (open_brace ∷ [])) (Whole (open_brace ∷ bytes)) open_brace bytes ((open_brace ∷ bytes) ∷ [])
    (rw h.is at h.leads) (closing bytes (Outside 0) (open_brace ∷ []) (grind (arith, is)) (omega (arith, fits))))

-- a beginning leads to a phase that tells no refusal, and as long as an object may be, to Long
record Begins (p : Phase) (front : List ℕ) : Type 0 where
  phase : Phase
  leads : Leads p front phase []
  quiet : refusal_of phase ≡ refusal_of Gap

frames_beginning : (p : Phase) (front : List ℕ) → IsReady p → is_beginning front ≡ true → length front < limit → Begins p front
frames_beginning p [] ready is fits = absurd (grind (arith, is))
frames_beginning p (b ∷ bytes) ready is fits =
    let h = braced p b ready (grind (arith, is)) in
    let end = Part (walk (Outside 0) bytes) (open_brace ∷ bytes) in
    record {
      phase = end;
      leads = rw h.is (leads-cons p (Part (Outside 0) (open_brace ∷ [])) end open_brace bytes []
          (rw h.is at h.leads) (staying bytes (Outside 0) (open_brace ∷ []) (grind (arith, is)) (omega (arith, fits))));
      quiet = refl;
    }

frames_endless : (p : Phase) (front : List ℕ) → IsReady p → is_beginning front ≡ true → length front ≡ limit → Leads p front Long []
frames_endless p [] ready is long = absurd (grind (arith, is))
frames_endless p (b ∷ bytes) ready is long =
    let h = braced p b ready (grind (arith, is)) in
    rw h.is (leads-cons p (Part (Outside 0) (open_brace ∷ [])) Long open_brace bytes []
    (rw h.is at h.leads) (overrunning bytes (Outside 0) (open_brace ∷ []) (grind (arith, is)) (omega arith) (omega (arith, long))))

-- the items lead to a phase that awaits an object
record Reaches (p : Phase) (bytes : List ℕ) (os : List (List ℕ)) : Type 0 where
  phase : Phase
  ready : IsReady phase
  leads : Leads p bytes phase os

reaches_on : (p q : Phase) (a b : List ℕ) (os more : List (List ℕ)) → Leads p a q os → Reaches q b more → Reaches p (a ++ b) (os ++ more)
reaches_on p q a b os more x y = record { phase = y.phase; ready = y.ready; leads = leads-append p q y.phase a b os more x y.leads }

blank_leads : (p : Phase) (b : ℕ) → IsReady p → is_blank b ≡ true → Leads p (b ∷ []) Gap []
blank_leads p b ready is = leads-cons p Gap Gap b [] [] (ready_begins p b ready ∙ begin_blank b is) (record { run = refl; objects = refl })

items_lead : (items : List Item) (p : Phase) → IsReady p → AreItems items → Reaches p (flat_map item_bytes items) (framed items)
items_lead [] p ready all = record { phase = p; ready = ready; leads = record { run = refl; objects = refl } }
items_lead (Blank b ∷ items) p ready all =
    reaches_on p Gap (b ∷ []) (flat_map item_bytes items) [] (framed items) (blank_leads p b ready all.0) (items_lead items Gap tt all.1)
items_lead (Framed object ∷ items) p ready all =
    reaches_on p (Whole object) object (flat_map item_bytes items) (object ∷ []) (framed items)
    (frames_object p object ready all.0.0 all.0.1) (items_lead items (Whole object) tt all.1)

-- the rest ends no object, and leads to its refusal
record Rests (p : Phase) (rest : Rest) : Type 0 where
  phase : Phase
  leads : Leads p (rest_bytes rest) phase []
  refusal : refusal_of phase ≡ refused_in rest

ready_quiet : (p : Phase) → IsReady p → refusal_of p ≡ refusal_of Gap
ready_quiet Gap is = refl
ready_quiet (Whole object) is = refl
ready_quiet (Part place kept) is = absurd is
ready_quiet (Wrong x) is = absurd is
ready_quiet Long is = absurd is

rest_leads : (rest : Rest) (p : Phase) → IsReady p → IsRest rest → Rests p rest
rest_leads Bare p ready is = record { phase = p; leads = record { run = refl; objects = refl }; refusal = ready_quiet p ready }
rest_leads (Begun front) p ready is =
    let b = frames_beginning p front ready is.0 is.1 in
    record { phase = b.phase; leads = b.leads; refusal = b.quiet }
rest_leads (Stray b more) p ready is = record {
  phase = Wrong b;
  leads = leads-cons p (Wrong b) (Wrong b) b more [] (ready_begins p b ready ∙ begin_stray b is.0 is.1) (wrong_stays b more);
  refusal = refl;
}
rest_leads (Endless front more) p ready is = record {
  phase = Long;
  leads = leads-append p Long Long front more [] [] (frames_endless p front ready is.0 is.1) (long_stays more);
  refusal = refl;
}

spelled_is_cut : (s : Stream) → IsStream s → IsCut s (stream_bytes s)
spelled_is_cut s is =
    let a = items_lead s.items Gap tt is.items in
    let b = rest_leads s.rest a.phase a.ready is.rest in
    let c = leads-append Gap a.phase b.phase (flat_map item_bytes s.items) (rest_bytes s.rest) (framed s.items) [] a.leads b.leads in
    record { objects = c.objects ∙ append-nil (framed s.items); refusal = ap refusal_of c.run ∙ b.refusal }

-- the bytes are those of a stream
record Parsed (bytes : List ℕ) : Type 0 where
  stream : Stream
  is : IsStream stream
  spelled : bytes ≡ stream_bytes stream

rest_alone : (rest : Rest) → IsRest rest → Parsed (rest_bytes rest)
rest_alone rest is = record { stream = record { items = []; rest = rest }; is = record { items = tt; rest = is }; spelled = refl }

-- a stream with one more item in front
item_first : (item : Item) (bytes : List ℕ) → IsItem item → Parsed bytes → Parsed (item_bytes item ++ bytes)
item_first item bytes is p = record {
  stream = record { items = item ∷ p.stream.items; rest = p.stream.rest };
  is = record { items = (is, p.is.items); rest = p.is.rest };
  spelled = ap (λ xs. item_bytes item ++ xs) p.spelled ∙ sym (append_assoc (item_bytes item) (flat_map item_bytes p.stream.items) (rest_bytes p.stream.rest));
}

-- between objects, or behind these bytes of one
data Mode : Type 0 where
  Between : Mode
  Within : (place : Place) (kept : List ℕ) → Mode

abbrev kept_in : Mode → List ℕ
kept_in Between = []
kept_in (Within place kept) = kept

record IsBegun (place : Place) (kept : List ℕ) : Type 0 where
  closed : (more : List ℕ) → closes place more ≡ true → is_object (kept ++ more) ≡ true
  stayed : (more : List ℕ) → stays place more ≡ true → is_beginning (kept ++ more) ≡ true
  short : length kept < limit

abbrev IsMode : Mode → Type 0
IsMode Between = Unit {0}
IsMode (Within place kept) = IsBegun place kept

first_brace : IsBegun (Outside 0) (open_brace ∷ [])
first_brace = record { closed = λ more is. is; stayed = λ more is. is; short = omega arith }

begin_cases : (blank brace : Bool) (b : ℕ) (bytes : List ℕ) → is_blank b ≡ blank → (b == open_brace) ≡ brace →
    Parsed bytes → Parsed (open_brace ∷ bytes) → Parsed (b ∷ bytes)
begin_cases true brace b bytes is other rest inner = item_first (Blank b) bytes is rest
begin_cases false true b bytes is other rest inner = let e : b ≡ open_brace = grind (arith, other) in rw e inner
begin_cases false false b bytes is other rest inner = rest_alone (Stray b bytes) (is, other)

goes_on : (place : Place) (kept : List ℕ) (b : ℕ) → ends place b ≡ false → IsBegun place kept → length (kept ++ b ∷ []) < limit → IsBegun (next place b) (kept ++ b ∷ [])
goes_on place kept b is begun short = record {
  closed = λ more c. rw (one_more kept more b) (begun.closed (b ∷ more) (rw is c));
  stayed = λ more c. rw (one_more kept more b) (begun.stayed (b ∷ more) (rw is c));
  short = short;
}

stays_one : (place : Place) (b : ℕ) → ends place b ≡ false → stays place (b ∷ []) ≡ true
stays_one place b is = rw is refl

closes_one : (place : Place) (b : ℕ) → ends place b ≡ true → closes place (b ∷ []) ≡ true
closes_one place b is = rw is refl

equal : (n m : ℕ) → (n == m) ≡ true → n ≡ m
equal n m is = grind (arith, is)

short_of : (n m : ℕ) → n < limit → m ≡ n + 1 → (m == limit) ≡ false → m < limit
short_of n m short more other = grind (arith, short, more, other)

within_cases : (e full : Bool) (place : Place) (kept bytes : List ℕ) (b : ℕ) → ends place b ≡ e → (length (kept ++ b ∷ []) == limit) ≡ full →
    IsBegun place kept → Parsed bytes → (IsBegun (next place b) (kept ++ b ∷ []) → Parsed ((kept ++ b ∷ []) ++ bytes)) → Parsed ((kept ++ b ∷ []) ++ bytes)
within_cases true full place kept bytes b is long begun rest inner =
    item_first (Framed (kept ++ b ∷ [])) bytes (begun.closed (b ∷ []) (closes_one place b is), rw (length_more kept b) (omega (arith, begun.short))) rest
within_cases false true place kept bytes b is long begun rest inner =
    rest_alone (Endless (kept ++ b ∷ []) bytes) (begun.stayed (b ∷ []) (stays_one place b is), equal (length (kept ++ b ∷ [])) limit long)
within_cases false false place kept bytes b is long begun rest inner =
    inner (goes_on place kept b is begun (short_of (length kept) (length (kept ++ b ∷ [])) begun.short (length_more kept b) long))

parse : (bytes : List ℕ) (mode : Mode) → IsMode mode → Parsed (kept_in mode ++ bytes)
parse [] Between is = rest_alone Bare tt
parse [] (Within place kept) is =
    rw (append-nil kept) (rest_alone (Begun kept) (rw (append-nil kept) at (is.stayed [] refl), is.short))
parse (b ∷ bytes) Between is =
    begin_cases (is_blank b) (b == open_brace) b bytes refl refl (parse bytes Between tt) (parse bytes (Within (Outside 0) (open_brace ∷ [])) first_brace)
parse (b ∷ bytes) (Within place kept) is =
    rw (one_more kept bytes b) at (within_cases (ends place b) (length (kept ++ b ∷ []) == limit) place kept bytes b refl refl is
    (parse bytes Between tt) (λ begun. parse bytes (Within (next place b) (kept ++ b ∷ [])) begun))

parsed_is_spelled : (bytes : List ℕ) → Parsed bytes → IsSpelled bytes
parsed_is_spelled bytes p = record {
  stream = p.stream;
  is = p.is;
  spelled = p.spelled;
  cut = subst (λ xs. IsCut p.stream xs) (sym p.spelled) (spelled_is_cut p.stream p.is);
}

pub cuts_streams : CutsStreams
cuts_streams = record {
  what_is_cut = λ bytes. parsed_is_spelled bytes (parse bytes Between tt);
  what_is_spelled = spelled_is_cut;
}

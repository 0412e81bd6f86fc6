-- What calls of a framer told is what their bytes hold.
use Rattle.std.proofs.Common.{◌≡◌, ℕ, ◌<◌, ◌≤◌, false, ◌==◌, if◌then◌else◌, List, [], ◌∷◌, ◌++◌, length, take, refl, ap, sym, ◌∙◌, arith, suc, zero}
use Rattle.std.specs.Prelude.{Option, None}
use Rattle.std.specs.List.{flat_map}
use Rattle.std.proofs.lemmas.List.{append-nil, length-take-le}
use Rattle.qs_qmp_frame.specs.declared.stage.FrameEvent.{FrameEvent}
use Rattle.qs_qmp_frame.specs.Phases.{Phase, Gap, Part, Whole, Wrong, Long, phase_after, frame_event_of, refusal_of, IsFed, objects, run, whole_object}
use Rattle.qs_qmp_frame.specs.Streams.{FramerCall, AreFramerCalls, fed_bytes, objects_told, told_by, reached, JoinsPieces}
use Rattle.qs_qmp_frame.proofs.Runs.{objects-append, run-append}

-- what an event tells is the object of its phase
told_whole : (p : Phase) → objects_told (frame_event_of p) p ≡ whole_object p
told_whole Gap = refl
told_whole (Part place kept) = refl
told_whole (Whole object) = refl
told_whole (Wrong byte) = refl
told_whole Long = refl

told_again : (p q : Phase) → objects_told (refusal_of p) q ≡ []
told_again Gap q = refl
told_again (Part place kept) q = refl
told_again (Whole object) q = refl
told_again (Wrong byte) q = refl
told_again Long q = refl

quiet_none : (p : Phase) → frame_event_of p ≡ None → whole_object p ≡ []
quiet_none p e = sym (told_whole p) ∙ ap (λ (o : Option FrameEvent). objects_told o p) e

-- no event before the last byte: no other object
quiet_objects : (bytes : List ℕ) (x : ℕ) (p : Phase) →
    ((k : ℕ) → 0 < k → k < suc (length bytes) → frame_event_of (run p (take k (x ∷ bytes))) ≡ None) → objects p (x ∷ bytes) ≡ whole_object (run p (x ∷ bytes))
quiet_objects [] x p quiet = append-nil (whole_object (phase_after p x))
quiet_objects (y ∷ bytes) x p quiet =
    ap (λ os. os ++ objects (phase_after p x) (y ∷ bytes)) (quiet_none (phase_after p x) (quiet 1 (omega arith) (omega arith))) ∙
    quiet_objects bytes y (phase_after p x) (λ k some short. quiet (suc k) (omega arith) (omega (arith, short)))

-- the front of a front
front_of : (k n : ℕ) (xs : List ℕ) → k ≤ n → take k (take n xs) ≡ take k xs
front_of zero n xs short = refl
front_of (suc k) zero xs short = absurd (omega (arith, short))
front_of (suc k) (suc n) [] short = refl
front_of (suc k) (suc n) (x ∷ xs) short = ap (λ ys. x ∷ ys) (front_of k n xs (omega (arith, short)))

none_taken : (old new : Phase) (taken : ℕ) (event : Option FrameEvent) → event ≡ (if taken == 0 then refusal_of new else frame_event_of new) →
    taken ≡ 0 → objects_told event new ≡ []
none_taken old new taken event e none = ap (λ (o : Option FrameEvent). objects_told o new) (rw none at e) ∙ told_again new new

some_taken : (new : Phase) (taken : ℕ) (event : Option FrameEvent) → event ≡ (if taken == 0 then refusal_of new else frame_event_of new) →
    (taken == 0) ≡ false → objects_told event new ≡ whole_object new
some_taken new taken event e some = ap (λ (o : Option FrameEvent). objects_told o new) (rw some at e) ∙ told_whole new

positive : (n m : ℕ) → n ≡ suc m → (n == 0) ≡ false
positive n m e = grind (arith, e)

one_call : (old new : Phase) (piece bytes : List ℕ) (taken : ℕ) (event : Option FrameEvent) → IsFed old piece taken event new →
    bytes ≡ take taken piece → objects_told event new ≡ objects old bytes
one_call old new piece [] taken event fed is =
    none_taken old new taken event fed.told (sym (length-take-le taken piece fed.within) ∙ sym (ap (λ xs. length xs) is))
one_call old new piece (x ∷ bytes) taken event fed is =
    let long : taken ≡ suc (length bytes) = sym (length-take-le taken piece fed.within) ∙ sym (ap (λ xs. length xs) is) in
    some_taken new taken event fed.told (positive taken (length bytes) long) ∙
    ap (λ (p : Phase). whole_object p) (fed.now ∙ ap (λ xs. run old xs) (sym is)) ∙
    sym (quiet_objects bytes x old (λ k some short.
    rw is (rw (front_of k taken piece (omega (arith, short, long))) (fed.quiet k some (omega (arith, short, long))))))

calls_objects : (old : Phase) (calls : List FramerCall) → AreFramerCalls old calls → flat_map told_by calls ≡ objects old (flat_map fed_bytes calls)
calls_objects old [] are = refl
calls_objects old (call ∷ calls) are =
    ap (λ os. told_by call ++ os) (calls_objects call.new calls are.1) ∙
    ap (λ (p : Phase). told_by call ++ objects p (flat_map fed_bytes calls)) are.0.now ∙
    ap (λ os. os ++ objects (run old (fed_bytes call)) (flat_map fed_bytes calls)) (one_call old call.new call.piece (fed_bytes call) call.taken call.event are.0 refl) ∙
    sym (objects-append old (fed_bytes call) (flat_map fed_bytes calls))

calls_phase : (old : Phase) (calls : List FramerCall) → AreFramerCalls old calls → reached old calls ≡ run old (flat_map fed_bytes calls)
calls_phase old [] are = refl
calls_phase old (call ∷ calls) are =
    calls_phase call.new calls are.1 ∙ ap (λ (p : Phase). run p (flat_map fed_bytes calls)) are.0.now ∙
    sym (run-append old (fed_bytes call) (flat_map fed_bytes calls))

pub joins_pieces : JoinsPieces
joins_pieces = record { objects = calls_objects; phase = calls_phase }

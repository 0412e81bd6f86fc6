-- Stories and traces, one step longer.
use Rattle.std.proofs.Common.{◌≡◌, ◌≢◌, ℕ, inl, inr, Bool, cond, ◌==◌, List, [], ◌∷◌, ◌++◌, Option, refl, ap, eq-eqb, ne_eqb}
use Rattle.qs_model.specs.Requests.{Client}
use Rattle.qs_model.specs.Acts.{Element, Attached, NoExport, Crowded, Left, Detached, NotAttached, Asked, Did, Exported, Planned, Crashed}
use Rattle.qs_verdicts.specs.Stories.{Story, told_from, told_step}
use Rattle.qs_verdicts.specs.Traces.{Trace, attached_from, attached_step, traced_from, traced_step}
use Rattle.qs_verdicts.specs.Verdicts.{WasAskedAs}

pub told_more : (A r : ℕ) (o : Option Story) (before : List Element) (e : Element) → told_from A r o (before ++ e ∷ []) ≡ told_step A r (told_from A r o before) e
told_more A r o [] e = refl
told_more A r o (x ∷ xs) e = told_more A r (told_step A r o x) xs e

pub traced_more : (A r : ℕ) (t : Trace) (before : List Element) (e : Element) → traced_from A r t (before ++ e ∷ []) ≡ traced_step A r (traced_from A r t before) e
traced_more A r t [] e = refl
traced_more A r t (x ∷ xs) e = traced_more A r (traced_step A r t x) xs e

pub attached_more : (s : ℕ) (o : Option ℕ) (before : List Element) (e : Element) → attached_from s o (before ++ e ∷ []) ≡ attached_step s (attached_from s o before) e
attached_more s o [] e = refl
attached_more s o (x ∷ xs) e = attached_more s (attached_step s o x) xs e

-- what was asked stays asked
pub asked_more : (r : ℕ) (c : Client) (before : List Element) (e : Element) → WasAskedAs r c before → WasAskedAs r c (before ++ e ∷ [])
asked_more r c [] e h = absurd h
asked_more r c (Asked s d ∷ xs) e (inl h) = inl h
asked_more r c (Asked s d ∷ xs) e (inr h) = inr (asked_more r c xs e h)
asked_more r c (Attached s name info ∷ xs) e h = asked_more r c xs e h
asked_more r c (NoExport s name ∷ xs) e h = asked_more r c xs e h
asked_more r c (Crowded s name ∷ xs) e h = asked_more r c xs e h
asked_more r c (Left s d ∷ xs) e h = asked_more r c xs e h
asked_more r c (Detached s d ∷ xs) e h = asked_more r c xs e h
asked_more r c (NotAttached s d ∷ xs) e h = asked_more r c xs e h
asked_more r c (Did s q act ∷ xs) e h = asked_more r c xs e h
asked_more r c (Exported op d ∷ xs) e h = asked_more r c xs e h
asked_more r c (Planned j fail ∷ xs) e h = asked_more r c xs e h
asked_more r c (Crashed left ∷ xs) e h = asked_more r c xs e h

-- and what is asked now is
pub asked_now : (r : ℕ) (c : Client) (before : List Element) → WasAskedAs r c (before ++ Asked r c ∷ [])
asked_now r c [] = inl (refl, refl)
asked_now r c (Asked s d ∷ xs) = inr (asked_now r c xs)
asked_now r c (Attached s name info ∷ xs) = asked_now r c xs
asked_now r c (NoExport s name ∷ xs) = asked_now r c xs
asked_now r c (Crowded s name ∷ xs) = asked_now r c xs
asked_now r c (Left s d ∷ xs) = asked_now r c xs
asked_now r c (Detached s d ∷ xs) = asked_now r c xs
asked_now r c (NotAttached s d ∷ xs) = asked_now r c xs
asked_now r c (Did s q act ∷ xs) = asked_now r c xs
asked_now r c (Exported op d ∷ xs) = asked_now r c xs
asked_now r c (Planned j fail ∷ xs) = asked_now r c xs
asked_now r c (Crashed left ∷ xs) = asked_now r c xs

-- a choice by whether two numbers are one
pub if_same : {X : Type 0} (s r : ℕ) (x y : X) → s ≡ r → cond (s == r) x y ≡ x
if_same s r x y e = ap (λ (b : Bool). cond b x y) (eq-eqb s r e)

pub if_other : {X : Type 0} (s r : ℕ) (x y : X) → s ≢ r → cond (s == r) x y ≡ y
if_other s r x y n = ap (λ (b : Bool). cond b x y) (ne_eqb s r n)

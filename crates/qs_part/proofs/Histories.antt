-- Laws of histories, for the turn and for the laws of each part.
use Rattle.std.proofs.Common.{◌≡◌, ℕ, List, [], ◌∷◌, ◌++◌, refl, sym, ap, ◌∙◌, subst}
use Rattle.qs_part.specs.Histories.{Call, call, lawful, StandsFor, left_by}

module _ {P O R : Type 0} (may : P → O → R → P → Type 0) where
  -- one more call
  pub stands_snoc : (opening : P) (cs : List (Call O R)) (s : P) (request : ℕ) (op : O) (reply : R) (t : P)
      → StandsFor may opening cs s → may s op reply t → StandsFor may opening (cs ++ call request op reply ∷ []) t
  stands_snoc opening [] s request op reply t stands step = (t, subst (λ (x : P). may x op reply t) (sym stands) step, refl)
  stands_snoc opening (c ∷ cs) s request op reply t stands step =
      (stands.0, stands.1, stands_snoc stands.0 cs s request op reply t stands.2 step)

  -- two histories, one after the other
  pub stands_append : (opening : P) (front : List (Call O R)) (s : P) (rest : List (Call O R)) (t : P)
      → StandsFor may opening front s → StandsFor may s rest t → StandsFor may opening (front ++ rest) t
  stands_append opening [] s rest t stands more = subst (λ (x : P). StandsFor may x rest t) (sym stands) more
  stands_append opening (c ∷ cs) s rest t stands more = (stands.0, stands.1, stands_append stands.0 cs s rest t stands.2 more)

  -- a history in two, and the state between
  pub stands_split : (opening : P) (front rest : List (Call O R)) (t : P) → StandsFor may opening (front ++ rest) t
      → (s : P) × StandsFor may opening front s × StandsFor may s rest t
  stands_split opening [] rest t stands = (opening, refl, stands)
  stands_split opening (c ∷ cs) rest t stands =
      let at = stands_split stands.0 cs rest t stands.2 in (at.0, (stands.0, stands.1, at.1), at.2)

  -- what each step keeps is so after any history
  pub stands_keeps : (Good : P → Type 0) → ((s : P) (op : O) (reply : R) (t : P) → may s op reply t → Good s → Good t)
      → (opening : P) (cs : List (Call O R)) (t : P) → StandsFor may opening cs t → Good opening → Good t
  stands_keeps Good keeps opening [] t stands good = subst Good stands good
  stands_keeps Good keeps opening (c ∷ cs) t stands good =
      stands_keeps Good keeps stands.0 cs t stands.2 (keeps opening c.op c.reply stands.0 stands.1 good)

  -- where an operation and its reply decide the next state, a history leaves one state alone
  pub stands_left : (after : P → O → R → P) → ((s : P) (op : O) (reply : R) (t : P) → may s op reply t → t ≡ after s op reply)
      → (opening : P) (cs : List (Call O R)) (t : P) → StandsFor may opening cs t → t ≡ left_by after opening cs
  stands_left after decides opening [] t stands = sym stands
  stands_left after decides opening (c ∷ cs) t stands =
      stands_left after decides stands.0 cs t stands.2
      ∙ ap (λ (s : P). left_by after s cs) (decides opening c.op c.reply stands.0 stands.1)

module _ {P O R F : Type 0} (fixed_of : P → F) (can : F → O → Type 0) (legal : P → O → R → P → Type 0) where
  -- what is fixed about a part is so after any history
  pub stands_fixed : (opening : P) (cs : List (Call O R)) (t : P) → StandsFor (lawful fixed_of can legal) opening cs t
      → fixed_of t ≡ fixed_of opening
  stands_fixed opening [] t stands = ap fixed_of (sym stands)
  stands_fixed opening (c ∷ cs) t stands = stands_fixed stands.0 cs t stands.2 ∙ stands.1.2

module _ {P Q O R F : Type 0} (mean : P → Q) (fixed_of : Q → F) (can : F → O → Type 0) (legal : Q → O → R → Q → Type 0) where
  -- what a part means stands for the history that the part stands for, where the part's relations are those of its meaning
  pub stands_meaning : (opening : P) (cs : List (Call O R)) (t : P)
      → StandsFor (lawful (λ (p : P). fixed_of (mean p)) can (λ p op reply q. legal (mean p) op reply (mean q))) opening cs t
      → StandsFor (lawful fixed_of can legal) (mean opening) cs (mean t)
  stands_meaning opening [] t stands = ap mean stands
  stands_meaning opening (c ∷ cs) t stands = (mean stands.0, stands.1, stands_meaning stands.0 cs t stands.2)

-- A history that is read from the front.
use Rattle.std.proofs.Common.{◌≡◌, ℕ, zero, suc, Bool, true, false, ◌&&◌, IsTrue, List, [], ◌∷◌, drop, Some, refl, sym, ap, ◌∙◌, arith, ◌↔◌, ◌<◌, length, get_or}
use Rattle.std.proofs.Math.Seq.{drop-cons}
use Rattle.qs_cells.specs.declared.cell.CellEntry.{CellEntry}
use Rattle.qs_cells.specs.declared.cell.CellEntry.TheVariants.{Read, Write, Maybe, Crash}
use Rattle.qs_cells.specs.Cells.{value_then, fits, Legal}

-- each entry fits the value that those before it leave
abbrev pub all_fit : ℕ → List CellEntry → Bool
all_fit value [] = true
all_fit value (entry ∷ entries) = fits value entry && all_fit (value_then value entry) entries

-- a read that fits has the value
pub fit_read : (value r v : ℕ) (entry : CellEntry) → fits value entry ≡ true → Some entry ≡ Some (Read r v) → v ≡ value
fit_read value r v (Read s u) fit is = grind arith
fit_read value r v _ fit is = grind arith

-- an entry in front of a legal history
pub legal_cons : (value : ℕ) (entry : CellEntry) (entries : List CellEntry) → fits value entry ≡ true →
    Legal (value_then value entry) entries → Legal value (entry ∷ entries)
legal_cons value entry entries fit legal zero r v is = fit_read value r v entry fit is
legal_cons value entry entries fit legal (suc i) r v is = legal i r v is

-- what stands behind the first entry is legal too
pub legal_rest : (value : ℕ) (entry : CellEntry) (entries : List CellEntry) → Legal value (entry ∷ entries) →
    Legal (value_then value entry) entries
legal_rest value entry entries legal i r v is = legal (suc i) r v is

pub legal_first : (value : ℕ) (entry : CellEntry) (entries : List CellEntry) → Legal value (entry ∷ entries) → fits value entry ≡ true
legal_first value (Read r v) entries legal = let same : v ≡ value = legal zero r v refl in grind (arith, same)
legal_first value (Write r v) entries legal = refl
legal_first value (Maybe r v took) entries legal = refl
legal_first value (Crash v) entries legal = refl

pub legal_none : (value : ℕ) → Legal value []
legal_none value i r v is = grind arith

pub fit_legal : (value : ℕ) (entries : List CellEntry) → all_fit value entries ≡ true → Legal value entries
fit_legal value [] fit = legal_none value
fit_legal value (entry ∷ entries) fit = go (fits value entry) refl fit (fit_legal (value_then value entry) entries)
  where
    go : (b : Bool) → fits value entry ≡ b → b && all_fit (value_then value entry) entries ≡ true →
        (all_fit (value_then value entry) entries ≡ true → Legal (value_then value entry) entries) → Legal value (entry ∷ entries)
    go true is rest later = legal_cons value entry entries is (later rest)
    go false is rest later = grind arith

pub legal_fit : (value : ℕ) (entries : List CellEntry) → Legal value entries → all_fit value entries ≡ true
legal_fit value [] legal = refl
legal_fit value (entry ∷ entries) legal =
    ap (λ (b : Bool). b && all_fit (value_then value entry) entries) (legal_first value entry entries legal)
    ∙ legal_fit (value_then value entry) entries (legal_rest value entry entries legal)

-- the test and the law say the same
pub fits_iff : (value : ℕ) (entries : List CellEntry) (b : Bool) → b ≡ all_fit value entries → IsTrue b ↔ Legal value entries
fits_iff value entries true is = (λ h. fit_legal value entries (sym is), λ h. grind arith)
fits_iff value entries false is = (λ h. grind arith, λ h. let fit : all_fit value entries ≡ true = legal_fit value entries h in grind arith)

-- an entry that doesn't fit ends the test
pub unfit : (value i : ℕ) (d : CellEntry) (entries : List CellEntry) → i < length entries → fits value (get_or entries i d) ≡ false →
    all_fit value (drop i entries) ≡ false
unfit value i d entries inside not =
    ap (λ (xs : List CellEntry). all_fit value xs) (drop-cons entries i d inside)
    ∙ ap (λ (b : Bool). b && all_fit (value_then value (get_or entries i d)) (drop (suc i) entries)) not

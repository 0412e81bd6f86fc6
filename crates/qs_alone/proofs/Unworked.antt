-- A request that did nothing to a block or a stripe, and how many bytes a READ has.
use Rattle.std.proofs.Common.{◌≡◌, ℕ, ◌<◌, false, List, [], ◌∷◌, Option, Some, refl, sym, ap, ◌∙◌, length, true≢false}
use Rattle.std.specs.List.{AllByRecursion}
use Rattle.qs_bytes.specs.declared.ask.Verdict.TheVariants.{Got}
use Rattle.qs_model.specs.Requests.{Client, Stage}
use Rattle.qs_model.specs.Worlds.{Opening}
use Rattle.qs_model.specs.Acts.{Act, Answers, Waits, Enters, Routes, Shuts, Lists, Starts, Loads, LoadFails, Holds, HoldFails, Stores, StoreFails, Syncs, Cleans, SyncFails, Frees, Ends, Element, Did}
use Rattle.qs_model.specs.Laws.{ComesBehind, opening_world}
use Rattle.qs_model.specs.Steps.{Runs}
use Rattle.qs_model.proofs.Kept.{new_ok}
use Rattle.qs_model.proofs.ReadsOnce.{reads_once}
use Rattle.qs_verdicts.specs.Stories.{Story, told, told_from, told_row, told_step}
use Rattle.qs_verdicts.specs.Verdicts.{IsAnswered}
use Rattle.qs_verdicts.proofs.Folds.{if_same}
use Rattle.qs_verdicts.proofs.Verdicts.{own}
use Rattle.qs_alone.specs.Alone.{AreOf, IsOff, IsOffRow}

same_story : (a b : Story) → Some a ≡ Some b → a ≡ b
same_story a b e = cc

-- a row that tells no work isn't on a stripe, and there was none before
row_off : (A : ℕ) (n : Story) {stage : Stage} (act : Act stage) → (told_row A n act).worked ≡ false → IsOffRow act × (n.worked ≡ false)
row_off A n (Loads bytes) idle = absurd (true≢false idle)
row_off A n LoadFails idle = absurd (true≢false idle)
row_off A n (Holds bytes) idle = absurd (true≢false idle)
row_off A n HoldFails idle = absurd (true≢false idle)
row_off A n (Stores bytes past) idle = absurd (true≢false idle)
row_off A n (StoreFails bytes took past) idle = absurd (true≢false idle)
row_off A n Syncs idle = absurd (true≢false idle)
row_off A n Cleans idle = absurd (true≢false idle)
row_off A n SyncFails idle = absurd (true≢false idle)
row_off A n Frees idle = absurd (true≢false idle)
row_off A n Answers idle = (tt, idle)
row_off A n (Waits wait) idle = (tt, idle)
row_off A n (Enters k) idle = (tt, idle)
row_off A n (Routes route) idle = (tt, idle)
row_off A n Shuts idle = (tt, idle)
row_off A n (Lists m) idle = (tt, idle)
row_off A n Starts idle = (tt, idle)
row_off A n Ends idle = (tt, idle)

-- none of the steps of a request without work is on a stripe
pub off_steps : (A r : ℕ) (n m : Story) (es : List Element) → AreOf r es → told_from A r (Some n) es ≡ Some m → m.worked ≡ false → AllByRecursion IsOff es × (n.worked ≡ false)
off_steps A r n m [] are tells idle = (tt, ap (λ (s : Story). s.worked) (same_story n m tells) ∙ idle)
off_steps A r n m (Did s q act ∷ es) are tells idle =
    let step : told_step A r (Some n) (Did s q act) ≡ Some (told_row A n act) = ap Some (if_same s r (told_row A n act) n are.0) in
    let rest = off_steps A r (told_row A n act) m es are.1 (sym (ap (λ (o : Option Story). told_from A r o es) step) ∙ tells) idle in
    let row = row_off A n act rest.1 in
    ((row.0, rest.0), row.1)
off_steps A r n m (e ∷ es) are tells idle = absurd are.0

-- a READ that is Got has as many bytes as it asked for
pub got_whole : (A : ℕ) (o : Opening) (es : List Element) (r : ℕ) (c : Client) (before : List Element) (n : Story) (e : Element) (bytes : List ℕ) → 0 < A → Runs A (opening_world o) es →
    ComesBehind before e es → IsAnswered r (Got bytes) e → told A r before ≡ Some n → n.client ≡ c → length bytes ≡ c.ask.length
got_whole A o es r c before n (Did s q act) bytes pos run comes is tells made =
    let long : length bytes ≡ q.client.ask.length =
    (reads_once A (opening_world o) es pos (new_ok A 0 o) (λ k. refl) refl run).whole s q.client bytes before (Did s q act) comes (refl, refl, is.1) in
    let owned = own A (opening_world o) es pos (new_ok A 0 o) (λ k. refl) run before (Did s q act) comes in
    let same : owned.0 ≡ n = same_story owned.0 n (sym owned.1.0 ∙ ap (λ (k : ℕ). told A k before) is.0 ∙ tells) in
    long ∙ ap (λ (d : Client). d.ask.length) owned.1.1.client ∙ ap (λ (m : Story). m.client.ask.length) same ∙ ap (λ (d : Client). d.ask.length) made
got_whole A o es r c before n e bytes pos run comes is tells made = absurd is

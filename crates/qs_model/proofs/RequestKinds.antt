-- The kinds of request, and what a kind excludes.
use Rattle.std.proofs.Common.{◌≡◌, Bool, true, false, ◌||◌, refl, sym, true≢false}
use Rattle.qs_bytes.specs.declared.ask.Kind.{Kind}
use Rattle.qs_bytes.specs.declared.ask.Kind.TheVariants.{Read, Write, Zero, Trim, Flush, Unknown}
use Rattle.qs_model.specs.Requests.{is_known, is_read, is_flush, is_trim, brings_bytes, stores_bytes, wants_writable}

pub neither : (a b : Bool) → a || b ≡ false → (a ≡ false) × (b ≡ false)
neither true b e = absurd (true≢false e)
neither false b e = (refl, e)

pub other_one : (a b : Bool) → a || b ≡ true → a ≡ false → b ≡ true
other_one true b e f = absurd (true≢false f)
other_one false b e f = e

-- what is known and none of the others stores bytes
pub kind_stores : (k : Kind) → is_known k ≡ true → is_flush k ≡ false → is_trim k ≡ false → is_read k ≡ false → stores_bytes k ≡ true
kind_stores Read known flush trim read = absurd (true≢false read)
kind_stores Write known flush trim read = refl
kind_stores Zero known flush trim read = refl
kind_stores Trim known flush trim read = absurd (true≢false trim)
kind_stores Flush known flush trim read = absurd (true≢false flush)
kind_stores (Unknown n) known flush trim read = absurd (true≢false (sym known))

pub stores_writable : (k : Kind) → stores_bytes k ≡ true → wants_writable k ≡ true
stores_writable Write e = refl
stores_writable Zero e = refl
stores_writable Trim e = refl
stores_writable Read e = absurd (true≢false (sym e))
stores_writable Flush e = absurd (true≢false (sym e))
stores_writable (Unknown n) e = absurd (true≢false (sym e))

pub stores_no_flush : (k : Kind) → stores_bytes k ≡ true → is_flush k ≡ false
stores_no_flush Flush e = absurd (true≢false (sym e))
stores_no_flush Read e = refl
stores_no_flush Write e = refl
stores_no_flush Zero e = refl
stores_no_flush Trim e = refl
stores_no_flush (Unknown n) e = refl

pub stores_no_trim : (k : Kind) → stores_bytes k ≡ true → is_trim k ≡ false
stores_no_trim Trim e = absurd (true≢false (sym e))
stores_no_trim Read e = refl
stores_no_trim Write e = refl
stores_no_trim Zero e = refl
stores_no_trim Flush e = refl
stores_no_trim (Unknown n) e = refl

pub brings_stores : (k : Kind) → brings_bytes k ≡ true → stores_bytes k ≡ true
brings_stores Write e = refl
brings_stores Zero e = refl
brings_stores Read e = absurd (true≢false (sym e))
brings_stores Trim e = absurd (true≢false (sym e))
brings_stores Flush e = absurd (true≢false (sym e))
brings_stores (Unknown n) e = absurd (true≢false (sym e))

pub trim_no_read : (k : Kind) → is_trim k ≡ true → is_read k ≡ false
trim_no_read Trim e = refl
trim_no_read Read e = absurd (true≢false (sym e))
trim_no_read Write e = refl
trim_no_read Zero e = refl
trim_no_read Flush e = refl
trim_no_read (Unknown n) e = refl

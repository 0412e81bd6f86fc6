-- What kinds of values arguments have.
use Rattle.std.specs.Prelude.{ℕ, ◌^◌, Bool, true, false, ◌&&◌, ◌||◌, nat_lt, nat_le, ◌==◌, if◌then◌else◌, List, [], ◌∷◌, length, codes, Option, Some, None, is_some}
use Rattle.std.specs.List.{list_all}
use Rattle.std.specs.Char.{is_ascii_alphabetic, is_ascii_alphanumeric, is_ascii_digit}
use Rattle.std.specs.Str.{bytes_eq}
use Rattle.std.specs.Str.Parse.{digits_value}
use Rattle.serde_json.specs.Data.{Data, null, boolean, number, string, array, object, unsigned, negative, float, Items, no_items, item}
use Rattle.serde_json.specs.Find.{as_object}

-- a letter, a digit, a minus sign, a low line or a dot
abbrev pub is_id_byte : ℕ → Bool
is_id_byte b = is_ascii_alphanumeric b || (b == 45 || (b == 95 || b == 46))

-- an id: 1 to 31 bytes, a letter first
abbrev pub is_id : List ℕ → Bool
is_id [] = false
is_id (first ∷ others) = nat_lt (length others) 31 && is_ascii_alphabetic first && list_all is_id_byte others

abbrev pub id_text : List ℕ → Option (List ℕ)
id_text s = if is_id s then Some s else None

-- any text of 1 to 63 bytes
abbrev pub short_text : List ℕ → Option (List ℕ)
short_text s = if nat_le 1 (length s) && nat_le (length s) 63 then Some s else None

-- 1 to 20 decimal digits, of a number below 2^64
abbrev pub whole_text : List ℕ → Option ℕ
whole_text s =
    if nat_le 1 (length s) && nat_le (length s) 20 && list_all is_ascii_digit s
    then if nat_lt (digits_value 10 s) (2 ^ 64) then Some (digits_value 10 s) else None
    else None

-- a whole number below 2^64, as JSON without sign, fraction and exponent, or as such a text
abbrev pub whole_of : Data → Option ℕ
whole_of (number (unsigned n)) = Some n
whole_of (number (negative z)) = None
whole_of (number (float x)) = None
whole_of (string s) = whole_text s
whole_of null = None
whole_of (boolean b) = None
whole_of (array ds) = None
whole_of (object ms) = None

-- one of two words
abbrev pub choice_text : List ℕ → List ℕ → List ℕ → Option Bool
choice_text on off s = if bytes_eq s on then Some true else if bytes_eq s off then Some false else None

abbrev pub truth_of : Data → Option Bool
truth_of (boolean b) = Some b
truth_of (string s) = choice_text (codes "on") (codes "off") s
truth_of null = None
truth_of (number n) = None
truth_of (array ds) = None
truth_of (object ms) = None

-- the one object of a list
abbrev pub only_item : Items → Option Data
only_item no_items = None
only_item (item d no_items) = if is_some (as_object d) then Some d else None
only_item (item d (item e ds)) = None

abbrev pub only_object : Data → Option Data
only_object (array ds) = only_item ds
only_object null = None
only_object (boolean b) = None
only_object (number n) = None
only_object (string s) = None
only_object (object ms) = None

abbrev pub has_no_item : Items → Bool
has_no_item no_items = true
has_no_item (item d ds) = false

abbrev pub is_empty_list : Data → Bool
is_empty_list (array ds) = has_no_item ds
is_empty_list null = false
is_empty_list (boolean b) = false
is_empty_list (number n) = false
is_empty_list (string s) = false
is_empty_list (object ms) = false

-- What an object is, as far as cutting it from a stream needs (RFC 8259, "Strings" and "Objects"):
-- braces count outside strings, a string is between quotation marks, and a backslash in it covers one byte.
use Rattle.std.specs.Prelude.{ℕ, ◌+◌, ◌-◌, Bool, true, false, ◌&&◌, ◌||◌, ◌==◌, if◌then◌else◌, List, [], ◌∷◌, length}
use Rattle.qs_qmp_frame.specs.declared.place.Place.{Place}
use Rattle.qs_qmp_frame.specs.declared.place.Place.TheVariants.{Outside, InString, Escaped}

abbrev pub quote : ℕ
quote = 34

abbrev pub backslash : ℕ
backslash = 92

abbrev pub open_brace : ℕ
open_brace = 123

abbrev pub close_brace : ℕ
close_brace = 125

-- space, tab, line feed and carriage return
abbrev pub is_blank : ℕ → Bool
is_blank b = b == 32 || b == 9 || b == 10 || b == 13

-- the most bytes of an object
abbrev pub limit : ℕ
limit = 1048576

-- how many braces are open within the object's own
abbrev pub braces : Place → ℕ
braces (Outside depth) = depth
braces (InString depth) = depth
braces (Escaped depth) = depth

-- the byte closes the object's own brace
abbrev pub ends : Place → ℕ → Bool
ends (Outside depth) b = depth == 0 && b == close_brace
ends other b = false

-- the place behind a byte that doesn't end the object
abbrev pub next : Place → ℕ → Place
next (Outside depth) b = if b == quote then InString depth
    else (if b == open_brace then Outside (depth + 1)
    else (if b == close_brace then Outside (depth - 1) else Outside depth))
next (InString depth) b = if b == quote then Outside depth
    else (if b == backslash then Escaped depth else InString depth)
next (Escaped depth) b = InString depth

-- the last of these bytes, and no earlier one, ends the object
abbrev pub closes : Place → List ℕ → Bool
closes place [] = false
closes place (b ∷ bytes) = if ends place b then length bytes == 0 else closes (next place b) bytes

-- none of these bytes ends the object
abbrev pub stays : Place → List ℕ → Bool
stays place [] = true
stays place (b ∷ bytes) = if ends place b then false else stays (next place b) bytes

-- an object, from its first brace to the one that closes it
abbrev pub is_object : List ℕ → Bool
is_object [] = false
is_object (b ∷ bytes) = b == open_brace && closes (Outside 0) bytes

-- the beginning of an object, with its first brace and without its last
abbrev pub is_beginning : List ℕ → Bool
is_beginning [] = false
is_beginning (b ∷ bytes) = b == open_brace && stays (Outside 0) bytes

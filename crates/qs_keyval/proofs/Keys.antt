-- A key at its first dot.
use Rattle.std.proofs.Common.{◌≡◌, ℕ, ◌<◌, ◌==◌, Bool, true, false, if◌then◌else◌, List, [], ◌∷◌, ◌++◌, length, refl, ap, ◌∙◌, arith, Option, Some, None, option_map}
use Rattle.std.specs.Prelude.{Result, Ok, not, ◌&&◌}
use Rattle.std.specs.List.{list_all}
use Rattle.serde_json.specs.Data.{Members, object, put}
use Rattle.serde_json.specs.Find.{get_member}
use Rattle.qs_keyval.specs.declared.fault.KeyvalFault.{KeyvalFault}
use Rattle.qs_keyval.specs.Cutting.{Sides, sides, in_front, onto, split_first}
use Rattle.qs_keyval.specs.Reading.{HasKeyParts, dot, chain, is_dotted_key, is_key_byte, is_part, parts_of, set_at, inner_at, add}

-- the parts of a key that is split so
abbrev parts_by : List ℕ → Option Sides → List (List ℕ)
parts_by key None = key ∷ []
parts_by key (Some x) = x.0 ∷ parts_of x.1

parts_on : (b : ℕ) (key : List ℕ) (o : Option Sides) → onto b (parts_by key o) ≡ parts_by (b ∷ key) (option_map (in_front b) o)
parts_on b key None = refl
parts_on b key (Some x) = refl

parts_step : (e : Bool) (b : ℕ) (key : List ℕ) → parts_of key ≡ parts_by key (split_first dot key) →
    (if e then [] ∷ parts_of key else onto b (parts_of key)) ≡ parts_by (b ∷ key) (if e then sides [] key else option_map (in_front b) (split_first dot key))
parts_step true b key again = refl
parts_step false b key again = ap (λ xs. onto b xs) again ∙ parts_on b key (split_first dot key)

parts_are : (key : List ℕ) → parts_of key ≡ parts_by key (split_first dot key)
parts_are [] = refl
parts_are (b ∷ key) = parts_step (b == dot) b key (parts_are key)

-- what goes into the object at this part, and the object with it
abbrev pub add_deeper : List ℕ → List ℕ → List (List ℕ) → List ℕ → Members → Result Members KeyvalFault
add_deeper before part parts value ms =
    chain (inner_at (before ++ part) (get_member part ms)) (λ inner.
    chain (add (before ++ part ++ dot ∷ []) parts value inner) (λ more.
    Ok (put part (object more) ms)))

abbrev pub IsSome : List (List ℕ) → Type 0
IsSome [] = ⊥
IsSome (part ∷ parts) = Unit {0}

onto-some : (b : ℕ) (parts : List (List ℕ)) → IsSome (onto b parts)
onto-some b [] = tt
onto-some b (part ∷ parts) = tt

some_step : (e : Bool) (b : ℕ) (key : List ℕ) → IsSome (if e then [] ∷ parts_of key else onto b (parts_of key))
some_step true b key = tt
some_step false b key = onto-some b (parts_of key)

some_parts : (key : List ℕ) → IsSome (parts_of key)
some_parts [] = tt
some_parts (b ∷ key) = some_step (b == dot) b key

add_more : (before part : List ℕ) (parts : List (List ℕ)) (value : List ℕ) (ms : Members) → IsSome parts →
    add before (part ∷ parts) value ms ≡ add_deeper before part parts value ms
add_more before part [] value ms some = absurd some
add_more before part (next ∷ parts) value ms some = refl

pub add_last : (before key value : List ℕ) (ms : Members) → split_first dot key ≡ None →
    add before (parts_of key) value ms ≡ set_at before key value ms
add_last before key value ms e =
    ap (λ ps. add before ps value ms) (parts_are key ∙ ap (λ o. parts_by key o) e)

pub add_split : (before key value : List ℕ) (ms : Members) (part rest : List ℕ) → split_first dot key ≡ sides part rest →
    add before (parts_of key) value ms ≡ add_deeper before part (parts_of rest) value ms
add_split before key value ms part rest e =
    ap (λ ps. add before ps value ms) (parts_are key ∙ ap (λ o. parts_by key o) e) ∙
    add_more before part (parts_of rest) value ms (some_parts rest)

-- what stands behind a dot is shorter than the key
abbrev IsShorter : List ℕ → Option Sides → Type 0
IsShorter key None = Unit {0}
IsShorter key (Some x) = length x.1 < length key

shorter_on : (b : ℕ) (key : List ℕ) (o : Option Sides) → IsShorter key o → IsShorter (b ∷ key) (option_map (in_front b) o)
shorter_on b key None h = tt
shorter_on b key (Some x) h = omega (arith, h)

shorter_step : (e : Bool) (b : ℕ) (key : List ℕ) → IsShorter key (split_first dot key) →
    IsShorter (b ∷ key) (if e then sides [] key else option_map (in_front b) (split_first dot key))
shorter_step true b key h = omega arith
shorter_step false b key h = shorter_on b key (split_first dot key) h

shorter : (key : List ℕ) → IsShorter key (split_first dot key)
shorter [] = tt
shorter (b ∷ key) = shorter_step (b == dot) b key (shorter key)

pub dot_shorter : (key part rest : List ℕ) → split_first dot key ≡ sides part rest → length rest < length key
dot_shorter key part rest e = rw e at (shorter key)

-- the first part goes on with one that has bytes already
abbrev goes_on : List (List ℕ) → Bool
goes_on [] = true
goes_on (part ∷ parts) = list_all is_key_byte part && list_all is_part parts

-- what is_key says, by the parts
abbrev by_parts : Bool → List (List ℕ) → Bool
by_parts true parts = list_all is_part parts
by_parts false parts = goes_on parts

and_assoc : (a b c : Bool) → (a && (b && c)) ≡ ((a && b) && c)
and_assoc true b c = refl
and_assoc false b c = refl

key_onto : (is_empty : Bool) (b : ℕ) (parts : List (List ℕ)) → IsSome parts → (is_key_byte b && goes_on parts) ≡ by_parts is_empty (onto b parts)
key_onto is_empty b [] some = absurd some
key_onto true b (part ∷ parts) some = and_assoc (is_key_byte b) (list_all is_key_byte part) (list_all is_part parts)
key_onto false b (part ∷ parts) some = and_assoc (is_key_byte b) (list_all is_key_byte part) (list_all is_part parts)

key_step : (e is_empty : Bool) (b : ℕ) (key : List ℕ) → is_dotted_key true key ≡ list_all is_part (parts_of key) → is_dotted_key false key ≡ goes_on (parts_of key) →
    (if e then not is_empty && is_dotted_key true key else is_key_byte b && is_dotted_key false key) ≡ by_parts is_empty (if e then [] ∷ parts_of key else onto b (parts_of key))
key_step true true b key whole part = refl
key_step true false b key whole part = whole
key_step false is_empty b key whole part = ap (λ t. is_key_byte b && t) part ∙ key_onto is_empty b (parts_of key) (some_parts key)

key_parts : (key : List ℕ) (is_empty : Bool) → is_dotted_key is_empty key ≡ by_parts is_empty (parts_of key)
key_parts [] true = refl
key_parts [] false = refl
key_parts (b ∷ key) is_empty = key_step (b == dot) is_empty b key (key_parts key true) (key_parts key false)

pub has_key_parts : HasKeyParts
has_key_parts key = key_parts key true

-- Lists of values, and what they are seen as.
use Rattle.std.proofs.Common.{◌≡◌, ◌≤◌, false, List, [], ◌∷◌, map, length, None, refl, ap, arith, string_bytes}
use Rattle.std.specs.Prelude.{String}
use Rattle.std.specs.declared.alloc.Global.{Global}
use Rattle.serde_json.specs.View.{items_view, members_view}
use Rattle.serde_json.specs.declared.value.Value.{Value}
use Rattle.qs_qmp_arguments.specs.Kinds.{has_no_item, only_item}
use Rattle.qs_qmp_arguments.specs.Arguments.{keys_of}

pub some_items : (vs : List Value) → 1 ≤ length vs → has_no_item (items_view vs) ≡ false
some_items [] some = absurd (omega (arith, some))
some_items (v ∷ vs) some = refl

pub more_items : (vs : List Value) → 2 ≤ length vs → only_item (items_view vs) ≡ None
more_items [] some = absurd (omega (arith, some))
more_items (v ∷ []) some = absurd (omega (arith, some))
more_items (v ∷ w ∷ vs) some = refl

pub keys_listed : (es : List (String Global × Value)) → map string_bytes (map (λ e. e.0) es) ≡ keys_of (members_view es)
keys_listed [] = refl
keys_listed (e ∷ es) = ap (λ ks. string_bytes e.0 ∷ ks) (keys_listed es)

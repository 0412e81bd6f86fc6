-- How a session's name lies in its fixed room: its bytes, and zeros behind them.
use Rattle.std.specs.Prelude.{◌≡◌, ℕ, ◌-◌, ◌≤◌, List, ◌++◌, length, take, drop, replicate}
use Rattle.std.proofs.Common.{ap, ◌∙◌, arith, length-take}
use Rattle.std.proofs.lemmas.List.{take-append-drop}
use Rattle.qs_script.specs.SessionNames.{IsSessionName}
use Rattle.qs_script.specs.declared.session_name.SessionName.TheInside.{Inside}

abbrev pub name_of : Inside → List ℕ
name_of n = take n.len n.bytes

pub record IsStored (n : Inside) : Type 0 where
  pub short : n.len ≤ 8
  pub room : length n.bytes ≡ 8
  pub zeros : drop n.len n.bytes ≡ replicate (8 - n.len) 0
  pub name : IsSessionName (take n.len n.bytes)

abbrev pub stored : List ℕ → Inside
stored xs = record { bytes = xs ++ replicate (8 - length xs) 0; len = length xs }

-- the bytes of a stored name give it back
pub stored_name : (a : Inside) → IsStored a → stored (name_of a) ≡ a
stored_name a is =
    let short : a.len ≤ length a.bytes = omega arith in
    let e : length (take a.len a.bytes) ≡ a.len = grind (arith, length-take) in
    let whole : take a.len a.bytes ++ replicate (8 - a.len) 0 ≡ a.bytes =
    rw (← is.zeros) (take-append-drop a.len a.bytes) in
    let at_length : ℕ → Inside = λ n. record { bytes = take a.len a.bytes ++ replicate (8 - n) 0; len = n } in
    let with_bytes : List ℕ → Inside = λ bytes. record { bytes = bytes; len = a.len } in
    ap at_length e ∙ ap with_bytes whole

-- Bytes that go through a buffer.
use Rattle.std.specs.Prelude.{◌≡◌, ℕ, List, ◌++◌, Option, Result, OnOk}
use Rattle.std.specs.Io.KnownBytes.{Consumes, Appends}

-- Bytes were taken off the input: some that waited before, and some that were read; others wait now.
pub record Takes (left : Option (List ℕ)) (waiting taken : List ℕ) (left' : Option (List ℕ))
    (waiting' : List ℕ) : Type 0 where
  pub more : List ℕ
  pub read : Consumes left left' more
  pub joined : waiting ++ more ≡ taken ++ waiting'

-- Bytes were given to the output: of these, and of what waited before, a front was sent, and this rest wasn't.
pub record Gives (sent : Option (List ℕ)) (held given : List ℕ) (sent' : Option (List ℕ)) (rest : List ℕ) : Type 0 where
  pub out : List ℕ
  pub wrote : Appends sent sent' out
  pub joined : held ++ given ≡ out ++ rest

-- they were given, and what wasn't sent waits, unless the output failed
pub record Sends {E : Type 0} (sent : Option (List ℕ)) (held given : List ℕ) (result : Result Unit E)
    (sent' : Option (List ℕ)) (held' : List ℕ) : Type 0 where
  pub rest : List ℕ
  pub gives : Gives sent held given sent' rest
  pub waits : OnOk result (rest ≡ held')

-- The refusals of a message, and how the code's answer is one of them.
use Rattle.std.specs.Prelude.{◌≡◌, ℕ, List, ◌++◌, codes, Result, Ok, Err, string_bytes}
use Rattle.qs_qmp_arguments.specs.declared.fault.Class.{Class}
use Rattle.qs_qmp_arguments.specs.declared.fault.Class.TheVariants.{GenericError}
use Rattle.qs_qmp_arguments.specs.declared.fault.ArgumentFault.{ArgumentFault}
use Rattle.qs_qmp_arguments.specs.declared.fault.ArgumentFault.TheVariants.{Refused, Memory}

-- an error's class, and its words
pub record Problem : Type 0 where
  pub class : Class
  pub desc : List ℕ

abbrev pub generic : List ℕ → Problem
generic desc = record { class = GenericError; desc = desc }

abbrev pub missing : List ℕ → Problem
missing name = generic (codes "Parameter '" ++ name ++ codes "' is missing")

abbrev pub unexpected : List ℕ → Problem
unexpected name = generic (codes "Parameter '" ++ name ++ codes "' is unexpected")

abbrev pub invalid : List ℕ → Problem
invalid name = generic (codes "Invalid parameter '" ++ name ++ codes "'")

-- the next step, where this one went well
infixl 10 ◌>>=◌
abbrev pub ◌>>=◌ : {A B : Type 0} → Result A Problem → (A → Result B Problem) → Result B Problem
(Ok x) >>= f = f x
(Err e) >>= f = Err e

-- this refusal, or want of memory
abbrev pub Fails : Problem → ArgumentFault → Type 0
Fails p Memory = Unit {0}
Fails p (Refused class desc) = p ≡ record { class = class; desc = string_bytes desc }

-- what the code gave is what is read; want of memory may stand in its place
abbrev pub Gives : {A B : Type 0} → (A → B) → Result A ArgumentFault → Result B Problem → Type 0
Gives see (Ok x) read = read ≡ Ok (see x)
Gives see (Err Memory) read = Unit {0}
Gives see (Err (Refused class desc)) read = read ≡ Err (record { class = class; desc = string_bytes desc })

-- Calls after which known bytes are as they were, and then one more call.
use Rattle.std.proofs.Common.{ℕ, List, None, Some, Result, Ok, Err, refl, subst}
use Rattle.std.specs.Prelude.{Option}
use Rattle.std.specs.Io.KnownBytes.{Keeps, ReadConsumes, WriteAppends}

pub keeps_itself : (known : Option (List ℕ)) → Keeps known known
keeps_itself None = tt
keeps_itself (Some bytes) = refl

pub keeps_on : (a b c : Option (List ℕ)) → Keeps a b → Keeps b c → Keeps a c
keeps_on None b c first next = tt
keeps_on (Some xs) None c first next = absurd first
keeps_on (Some xs) (Some ys) c first next = subst (λ zs. Keeps (Some zs) c) first next

pub reads_on : {E : Type 0} → (a b c : Option (List ℕ)) (r : Result ℕ E) (buf : List ℕ) → Keeps a b → ReadConsumes b c r buf → ReadConsumes a c r buf
reads_on None b c (Ok n) buf kept read = (tt, read.1)
reads_on None b c (Err e) buf kept read = tt
reads_on (Some xs) None c r buf kept read = absurd kept
reads_on (Some xs) (Some ys) c r buf kept read = subst (λ zs. ReadConsumes (Some zs) c r buf) kept read

pub writes_on : {E : Type 0} → (a b c : Option (List ℕ)) (r : Result ℕ E) (buf : List ℕ) → Keeps a b → WriteAppends b c r buf → WriteAppends a c r buf
writes_on None b c (Ok n) buf kept written = tt
writes_on None b c (Err e) buf kept written = tt
writes_on (Some xs) None c r buf kept written = absurd kept
writes_on (Some xs) (Some ys) c r buf kept written = subst (λ zs. WriteAppends (Some zs) c r buf) kept written

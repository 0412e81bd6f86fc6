-- Histories of a part: its calls, each with its reply, and the part that stands for them.
use Rattle.std.specs.Prelude.{◌≡◌, ℕ, List, [], ◌∷◌}

-- A call of a part: the number of the request that it is made for, which the part doesn't see, the operation and the
-- reply. A history is a list of calls, the first one first.
pub record Call (O R : Type 0) : Type 0 where
  pub request : ℕ
  pub op : O
  pub reply : R

abbrev pub call : {O R : Type 0} → ℕ → O → R → Call O R
call request op reply = record { request = request; op = op; reply = reply }

-- A step of a part that may be: the operation fits, the reply is legal, and what is fixed about the part stays. Its
-- arguments are the three ghost members of the trait `Part`.
abbrev pub lawful : {P O R F : Type 0} → (P → F) → (F → O → Type 0) → (P → O → R → P → Type 0) → P → O → R → P → Type 0
lawful fixed_of can legal s op reply t = can (fixed_of s) op × legal s op reply t × (fixed_of t ≡ fixed_of s)

-- A part stands for a history where it is reached from the state that it was opened with by steps that may be, one for
-- each call.
abbrev pub StandsFor : {P O R : Type 0} → (P → O → R → P → Type 0) → P → List (Call O R) → P → Type 0
StandsFor may opening [] part = opening ≡ part
StandsFor {P} may opening (c ∷ cs) part = (next : P) × may opening c.op c.reply next × StandsFor may next cs part

-- a history is legal where some part stands for it
abbrev pub IsLegal : {P O R : Type 0} → (P → O → R → P → Type 0) → P → List (Call O R) → Type 0
IsLegal {P} may opening history = (part : P) × StandsFor may opening history part

-- what a history leaves, where an operation and its reply decide what a part is after them
abbrev pub left_by : {P O R : Type 0} → (P → O → R → P) → P → List (Call O R) → P
left_by after s [] = s
left_by after s (c ∷ cs) = left_by after (after s c.op c.reply) cs

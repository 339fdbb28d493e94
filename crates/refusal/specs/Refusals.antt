-- Refusals in the words of document 01: the number of each, the first of a list that applies, and what a call's result says.
-- Assumes nothing.
use Rattle.std.specs.Prelude.{◌≡◌, Bool, true, cond, ℕ, zero, suc, ◌≤◌, Result, Ok, Err}
use mathlib.Core.List.{List, [], ◌∷◌, Memᴰ}
use Rattle.refusal.specs.declared.Refusal.{Refusal}
use Rattle.refusal.specs.declared.Refusal.TheVariants.{Form, Kind, PolynomialRange, Reducible, OrderRange, CountRange, ValueRange, BadCandidate, NoRow, ShortSpace}

-- the number of a reason
abbrev pub number_of : Refusal → ℕ
number_of Form = 1
number_of Kind = 2
number_of PolynomialRange = 3
number_of Reducible = 4
number_of OrderRange = 5
number_of CountRange = 6
number_of ValueRange = 7
number_of BadCandidate = 8
number_of NoRow = 9
number_of ShortSpace = 10

-- a fault: the number that it is refused with, and whether it is there
pub record Fault : Type 0 where
  pub number : ℕ
  pub applies : Bool

abbrev pub fault : ℕ → Bool → Fault
fault number applies = record { number = number; applies = applies }

-- the number of the first fault of a list that is there, in the order in which they are looked at; 0 where none is
unfoldable pub first_number : List Fault → ℕ
first_number [] = 0
first_number (f ∷ rest) = cond f.applies f.number (first_number rest)

-- a number applies: some fault of the list with this number is there
unfoldable pub Applies : List Fault → ℕ → Type 0
Applies faults number = Memᴰ (fault number true) faults

-- the lowest of the numbers with something; 0 where no number has it
pub data LowestOf (Has : ℕ → Type 0) (number : ℕ) : Type 0 where
  lowest : Has number → ((k : ℕ) → Has k → number ≤ k) → LowestOf Has number
  none : ((k : ℕ) → Has k → ⊥) → number ≡ 0 → LowestOf Has number

-- what a call yields: the number that is returned, 0 where the call is accepted, and a value
pub record Answer (A : Type 0) : Type 0 where
  pub number : ℕ
  pub value : A

abbrev pub answer : {A : Type 0} → ℕ → A → Answer A
answer number value = record { number = number; value = value }

-- the value where the number is 0; where the call is refused, the number alone beside an empty value
abbrev pub unless_refused : {A : Type 0} → A → ℕ → A → Answer A
unless_refused empty zero value = answer 0 value
unless_refused empty (suc number) value = answer (suc number) empty

-- the first fault that is there decides; without one the value is given
unfoldable pub answer_after : {A : Type 0} → A → List Fault → A → Answer A
answer_after empty faults value = unless_refused empty (first_number faults) value

-- what a call's result says: what it yields in the paper's values, or the number of the reason beside an empty value
abbrev pub answer_by : {T A : Type 0} → (T → A) → A → Result T Refusal → Answer A
answer_by values empty (Ok yield) = answer 0 (values yield)
answer_by values empty (Err reason) = answer (number_of reason) empty

-- of a call that yields a number
abbrev pub answer_of : Result ℕ Refusal → Answer ℕ
answer_of = answer_by (λ v. v) 0

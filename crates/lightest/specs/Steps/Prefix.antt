-- The walk of the code from prefix to prefix, for any shape with its cuts: the row kept, and what holds at a prefix.
use Rattle.std.specs.Prelude.{◌≡◌, Option, None, Some, Bool, true, false, ◌&&◌, ◌||◌, ℕ, ◌+◌, ◌-◌, ◌^◌, ◌≤◌, ◌<◌, eqb, leb, ltb, length, get_or, take, drop, replicate}
use mathlib.Core.List.{List, ◌++◌, Memᴰ}
use Rattle.field.specs.Polynomial.{Modulus, degree}
use Rattle.lines.specs.Counts.{element_count}
use Rattle.rows.specs.Lightest.{Best, nothing, found}
use Rattle.rows.specs.Keys.{sum_of, depth_of_row}
use Rattle.cuts.specs.Steps.Cuts.{Cuts, AllStand}
use Rattle.cuts.specs.Steps.Families.{OrderOf, cuts_of}
use Rattle.rows.specs.declared.Family.{Family}
use Rattle.rows.specs.declared.Family.TheVariants.{Hadamard, Circulant}
use mathlib.Core.Path.{ap}
use mathlib.Core.Logic.{inl, inr}
use native.Mathlib.Omega.{arith}
use Rattle.std.specs.Coded.{×_prop, le_prop}
use Rattle.std.proofs.Props.{props}
use Rattle.lightest.specs.declared.Best.{Best as Kept}
use Rattle.lightest.specs.Steps.Letters.{count_table, least_count}

-- ---- the row kept

-- what is kept of a best row: its entries with zeros behind them, its depth and its sum; nothing where there is none
unfoldable pub kept : ℕ → ℕ → Best → Option Kept
kept p n nothing = None
kept p n (found row) = Some (record { row = row ++ replicate (8 - n) 0; depth = depth_of_row p n row; count = sum_of p n row })

-- the row that is kept
unfoldable pub best_as : ℕ → Option Kept → Best
best_as n None = nothing
best_as n (Some b) = found (take n b.row)

-- it has n entries
abbrev pub Long : ℕ → Best → Type 0
Long n best = (r : List ℕ) → best ≡ found r → length r ≡ n

-- a row of this count or more is heavier than the row kept
unfoldable pub is_heavier : Option Kept → ℕ → Bool
is_heavier None count = false
is_heavier (Some b) count = ltb b.count count

-- a row of this count and this depth, or more, is heavier than the row kept, or as heavy and not shallower
unfoldable pub is_heavy : Option Kept → ℕ → ℕ → Bool
is_heavy None count depth = false
is_heavy (Some b) count depth = ltb b.count count || (eqb b.count count && leb b.depth depth)

-- ---- the prefix

-- what does not change: the field, the order, the letters, which are nonzero elements, with their table, and the least count of a letter
pub record Brief (cuts : Cuts) (p n : ℕ) (letters counts : List ℕ) (least : ℕ) : Type 0 where
  pub modulus : Modulus p
  pub order : cuts.Order n
  pub most : n ≤ 8
  pub below : (a : ℕ) → Memᴰ a letters → a < 2 ^ degree p
  pub positive : (a : ℕ) → Memᴰ a letters → 0 < a
  pub table : counts ≡ count_table p letters
  pub lowest : least ≡ least_count counts letters

-- there is one way at most in which these hold
equation_prop : (m n : ℕ) → IsProp (m ≡ n)
equation_prop m n = Prim.hlevel props

order_prop : (family : Family) (n : ℕ) → IsProp (OrderOf family n)
order_prop Hadamard n (inl a) (inl b) = ap inl (equation_prop n 4 a b)
order_prop Hadamard n (inl a) (inr b) = absurd (omega arith)
order_prop Hadamard n (inr a) (inl b) = absurd (omega arith)
order_prop Hadamard n (inr a) (inr b) = ap inr (equation_prop n 8 a b)
order_prop Circulant n a b = ×_prop le_prop le_prop a b

pub brief_prop : (family : Family) (p n : ℕ) (letters counts : List ℕ) (least : ℕ) → IsProp (Brief (cuts_of family p n) p n letters counts least)
brief_prop family p n letters counts least = Prim.hlevel (props, order_prop family n)

-- the first entries of an array of eight: they are letters, each may stand where it does, and their counts add up to the count; the
-- places behind the row are 0
pub record Reached (cuts : Cuts) (p n : ℕ) (letters : List ℕ) (level : ℕ) (row : List ℕ) (count : ℕ) : Type 0 where
  pub eight : length row ≡ 8
  pub over : (a : ℕ) → Memᴰ a (take level row) → Memᴰ a letters
  pub stands : AllStand cuts level row
  pub counted : count ≡ element_count p level (λ j. get_or row j 0)
  pub rest : drop n row ≡ replicate (8 - n) 0

-- a letter that may come next: at the last place it may be the last
pub record NextLetter (cuts : Cuts) (n : ℕ) (letters : List ℕ) (level : ℕ) (row : List ℕ) (a : ℕ) : Type 0 where
  pub letter : Memᴰ a letters
  pub last : level + 1 ≡ n → cuts.may_end (take level row) a ≡ true

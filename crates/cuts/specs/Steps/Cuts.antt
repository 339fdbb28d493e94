-- The cuts of a walk over the rows of a shape, and what they leave out. Nobody need believe these: `family_rows` of proofs/Families.antt ties them
-- to the definitions.
use Rattle.std.specs.Prelude.{◌≡◌, Bool, true, ◌&&◌, List, [], ◌∷◌, ◌++◌, ℕ, ◌-◌, ◌<◌, length, get_or, take, drop, replicate}
use Rattle.field.specs.Polynomial.{Modulus}
use Rattle.field.specs.Steps.{every_below}
use Rattle.lines.specs.Numbers.{WordsInField}
use Rattle.rows.specs.Shape.{Shape, is_good}

-- a shape with the cuts of its walk: the orders of its searches, whether a letter comes next behind a prefix by the order of the entries,
-- whether the small blocks pass that the entry at a place of a row completes, and whether a letter may be the last of the row
pub record Cuts : Type 1 where
  pub shape : Shape
  pub Order : ℕ → Type 0
  pub is_next : List ℕ → ℕ → Bool
  pub blocks_pass : List ℕ → ℕ → Bool
  pub may_end : List ℕ → ℕ → Bool

-- whether a may stand behind the prefix
unfoldable pub may_stand : Cuts → List ℕ → ℕ → Bool
may_stand cuts prefix a = cuts.is_next prefix a && cuts.blocks_pass (prefix ++ a ∷ []) (length prefix)

-- each entry may stand behind those before it, and the last may be the last
unfoldable pub passes : Cuts → ℕ → List ℕ → Bool
passes cuts n row =
    every_below n (λ d. may_stand cuts (take d row) (get_or row d 0)) && cuts.may_end (take (n - 1) row) (get_or row (n - 1) 0)

-- each of the first n entries of an array may stand behind those before it
abbrev pub AllStand : Cuts → ℕ → List ℕ → Type 0
AllStand cuts n row = (d : ℕ) → d < n → may_stand cuts (take d row) (get_or row d 0) ≡ true

-- the rows that are tried and good
unfoldable pub tried : Cuts → ℕ → ℕ → List ℕ → Bool
tried cuts p n row = passes cuts n row && is_good cuts.shape p n row

-- a whole row of order n over the field, whose entries may stand where they do, the last as the last
pub record Whole (cuts : Cuts) (p n : ℕ) (row : List ℕ) : Type 0 where
  pub modulus : Modulus p
  pub order : cuts.Order n
  pub in_field : WordsInField p n row
  pub stands : AllStand cuts n row
  pub ends : cuts.may_end (take (n - 1) row) (get_or row (n - 1) 0) ≡ true
  pub rest : drop n row ≡ replicate (8 - n) 0

-- The choices of lines, or of columns, one after the other: a choice is a mask below 256. Assumes nothing.
use Rattle.std.specs.Prelude.{Bool, true, ◌&&◌, ◌||◌, ℕ, zero, suc, ◌+◌, ◌%◌, ◌^◌, eqb, leb}
use mathlib.Core.List.{foldl}
use Rattle.std.specs.Int.Bits.{bit_xor}
use Rattle.std.specs.Int.Count.{ones}
use Rattle.algebra.specs.Matrix.{chosen}
use Rattle.field.specs.Polynomial.{first_below}
use Rattle.field.specs.Steps.{every_below}
use Rattle.matrix.specs.declared.block.Look.{Look}
use Rattle.matrix.specs.declared.block.Look.TheVariants.{All, Translations, Rotations}

-- the choice whose places are those of a choice, each exclusive-or t
unfoldable pub translated : ℕ → ℕ → ℕ
translated t mask = foldl (λ r i. r + 2 ^ bit_xor i t) 0 (chosen 8 mask)

-- no translation makes the choice smaller
unfoldable pub is_least : ℕ → Bool
is_least mask = every_below 8 (λ t. leb mask (translated t mask))

-- the choice whose places are those below n of a choice, each plus t modulo n
unfoldable pub rotated : ℕ → ℕ → ℕ → ℕ
rotated n t mask = foldl (λ r i. r + 2 ^ ((i + t) % n)) 0 (chosen n mask)

-- no rotation makes the choice smaller; places from n on do not count
unfoldable pub is_least_around : ℕ → ℕ → Bool
is_least_around n mask = every_below n (λ t. leb (mask % 2 ^ n) (rotated n t mask))

-- the choices of columns that are looked at: at 0 all of them, at 1 those that no translation makes smaller, at n from 2 on those that no
-- rotation modulo n makes smaller
unfoldable pub is_looked_at : ℕ → ℕ → Bool
is_looked_at zero mask = true
is_looked_at (suc zero) mask = is_least mask
is_looked_at (suc (suc k)) mask = is_least_around (suc (suc k)) mask

-- the number there of each way to look
abbrev pub line_of : Look → ℕ
line_of All = 0
line_of Translations = 1
line_of (Rotations n) = n

-- a mask has k ones, and is looked at or not below 256
unfoldable pub is_choice : ℕ → ℕ → ℕ → Bool
is_choice look k mask = (is_looked_at look mask || leb 256 mask) && eqb (ones mask) k

-- the first such mask behind a mask, with as many ones
unfoldable pub next_choice : ℕ → ℕ → ℕ
next_choice look mask = suc mask + first_below 512 (λ t. is_choice look (ones mask) (suc mask + t))

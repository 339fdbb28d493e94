-- `cuts::circulant::is_next` meets its contract. Assumes nothing.
use mathlib.Core.Path.{◌≡◌, ap, ◌∙◌}
use Prim.Native.Nat.{ℕ, ◌/◌, ◌^◌, ◌<◌}
use native.Mathlib.Nat.{pos_of_ne-zero}
use native.Mathlib.Omega.{arith}
use lib.Bits.{bit_and}
use lib.Dec.{leb}
use lib.ListN.{length, get_or}
use Rattle.matrix.proofs.Selections.{low_digit}
use Rattle.rows.specs.Steps.Around.{prime_places, place_below}
use Rattle.cuts.proofs.LetterTest.{around_zero, around_first, around_later, below_lt}
use borrow.Author.Rules.{rules}
use Rattle.cuts.proofs.circulant.is_next.Goals as goal
use Rattle.cuts.proofs.circulant.is_next.Goals.{Else-level-eq0}

pub returns-then-a-eq0 : goal.returns-then-a-eq0
returns-then-a-eq0 c = around_zero _ _ _ c.if-a-eq0.true

pub returns-then-level-eq0 : goal.returns-then-level-eq0
returns-then-level-eq0 c = around_first _ _ _ _ c.if-a-eq0.false c.if-level-eq0.true

-- the place that is compared, as the code reads it
place_is : (n d : ℕ) → bit_and (prime_places n / 2 ^ d) 1 ≡ place_below n d
unfolding place_below
place_is n d = low_digit (prime_places n / 2 ^ d)

place_inside : (c : Else-level-eq0) → bit_and (prime_places c.args.n / 2 ^ c.args.level) 1 < 8
place_inside c =
    let s = c.before.before in
    omega (arith, place_is s.args.n s.args.level, s.requires.1, below_lt s.args.n s.args.level s.requires.0 (pos_of_ne-zero c.if-level-eq0.false) s.requires.1)

pub bounds-row-low : goal.bounds-row-low
unfolding prime_places
bounds-row-low c = omega (arith, c.from-low.ensures, place_inside (goal.at.bounds-row-low c).Else-level-eq0)

pub returns : goal.returns
unfolding prime_places
returns c =
    let a = c.args in
    let eight : length a.row ≡ 8 = search rules in
    ap (λ (k : ℕ). leb (get_or a.row k 0) a.a) (c.from-low.ensures ∙ place_is a.n a.level)
    ∙ around_later a.n a.row a.level a.a c.requires.0 (omega (arith, c.requires.1)) (pos_of_ne-zero c.if-level-eq0.false) c.requires.1 (pos_of_ne-zero c.if-a-eq0.false)

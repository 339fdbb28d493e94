-- `walk::begin` meets its contract. Assumes nothing.
use mathlib.Core.Path.{◌≡◌, sym, ap, subst, ◌∙◌}
use mathlib.Core.List.{List}
use Prim.Native.Nat.{ℕ, ◌^◌, ◌≤◌}
use native.Mathlib.Omega.{arith}
use lib.ListN.{length, take}
use lib.Seq.{length-take-le}
use Rattle.field.specs.Polynomial.{degree}
use Rattle.field.proofs.Calls.{elements_most}
use Rattle.cuts.proofs.HadamardCuts.{order_most}
use Rattle.lightest.specs.Steps.Letters.{count_table, known}
use Rattle.lightest.proofs.LetterCounts.{listed_fits}
use Rattle.walk.specs.Steps.Successors.{Ascend}
use Rattle.walk.specs.Steps.Positions.{Lettered}
use Rattle.walk.proofs.Begun.{brief_lettered, letters_taken, letters_ascend, letters_few, walk_starts}
use Rattle.walk.proofs.begin.Goals as goal
use Rattle.walk.proofs.begin.Goals.{After-letters_of-known}

pub letters_of-known-requires : goal.letters_of-known-requires
letters_of-known-requires c = omega (arith, c.size.ensures, elements_most c.args.field.polynomial c.args.field.modulus)

pub shared_ref_as_front-letters : goal.shared_ref_as_front-letters
shared_ref_as_front-letters c = omega (arith, listed_fits _ _ c.letters_of-known.ensures)

pub slice_bounds-letters-end : goal.slice_bounds-letters-end
slice_bounds-letters-end c = sym (length-take-le _ _ (listed_fits _ _ c.letters_of-known.ensures))

-- the letters of the brief
lettered : (c : After-letters_of-known) → let p = c.args.field.polynomial in let table = count_table p c.args.candidates.now in
    Lettered p c.args.n (known table (2 ^ degree p)) table
lettered c =
    let a = c.args in
    let (order, fits, fair) = c.requires in
    brief_lettered a.field.polynomial a.n a.field.modulus order a.candidates.now fits fair

-- as the code lists them
taken : (c : After-letters_of-known) → let p = c.args.field.polynomial in
    take c.letters_of-known.result.count c.letters_of-known.result.list ≡ known (count_table p c.args.candidates.now) (2 ^ degree p)
taken c =
    letters_taken _ c.letters_of-known.result c.args.field.polynomial _ c.size.ensures c.letters_of-known.ensures
    ∙ ap (λ (t : List ℕ). known t (2 ^ degree c.args.field.polynomial)) c.count_table-counts.ensures

ascend : (c : After-letters_of-known) → Ascend (take c.letters_of-known.result.count c.letters_of-known.result.list)
ascend c = subst Ascend (sym (taken c)) (letters_ascend (lettered c))

pub rank_table-ranks-requires : goal.rank_table-ranks-requires
rank_table-ranks-requires c =
    let s = (goal.at.rank_table-ranks-requires c).After-letters_of-known in
    (ascend s, subst (λ (l : List ℕ). length l ≤ 255) (sym (taken s)) (letters_few (lettered s)))

pub first_row-row-requires : goal.first_row-row-requires
first_row-row-requires c =
    (order_most _ c.requires.0, record { ascend = ascend (goal.at.first_row-row-requires c).After-letters_of-known; table = c.rank_table-ranks.ensures })

pub returns : goal.returns
returns c =
    let s = (goal.at.returns c).After-letters_of-known in
    walk_starts (lettered s) _ _ _ c.count_table-counts.ensures (taken s) c.first_row-row.ensures

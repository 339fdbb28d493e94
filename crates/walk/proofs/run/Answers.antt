-- `walk::run` meets its contract. Assumes nothing.
use mathlib.Core.Path.{◌≡◌, refl, sym, subst}
use mathlib.Core.List.{List}
use Prim.Native.Nat.{ℕ, ◌+◌}
use native.Mathlib.Omega.{arith}
use lib.ListN.{take}
use lib.Seq.{length-take-le}
use Rattle.field.proofs.Calls.{elements_most}
use Rattle.lightest.proofs.LetterCounts.{listed_fits}
use Rattle.walk.specs.Steps.Positions.{Lettered, StandsAt, letters_of}
use Rattle.walk.proofs.Begun.{letters_taken, letters_ascend, letters_few, walk_runs}
use Rattle.walk.proofs.run.Goals as goal
use Rattle.walk.proofs.run.Goals.{After-letters_of-known}

pub letters_of-known-requires : goal.letters_of-known-requires
letters_of-known-requires c =
    omega (arith, c.size.ensures, elements_most c.args.walk.polynomial c.requires.lettered.modulus)

pub shared_ref_as_front-letters : goal.shared_ref_as_front-letters
shared_ref_as_front-letters c = omega (arith, listed_fits _ _ c.letters_of-known.ensures)

pub slice_bounds-letters-end : goal.slice_bounds-letters-end
slice_bounds-letters-end c = sym (length-take-le _ _ (listed_fits _ _ c.letters_of-known.ensures))

-- the letters of the walk, as the code lists them
taken : (c : After-letters_of-known) → take c.letters_of-known.result.count c.letters_of-known.result.list ≡ letters_of c.args.walk
taken c = letters_taken _ c.letters_of-known.result c.args.walk.polynomial _ c.size.ensures c.letters_of-known.ensures

lettered : (c : After-letters_of-known) → let walk = c.args.walk in
    Lettered walk.polynomial walk.order (take c.letters_of-known.result.count c.letters_of-known.result.list) walk.counts
lettered c =
    let walk = c.args.walk in
    subst (λ (l : List ℕ). Lettered walk.polynomial walk.order l walk.counts) (sym (taken c)) c.requires.lettered

pub rank_table-ranks-requires : goal.rank_table-ranks-requires
rank_table-ranks-requires c = let b = lettered (goal.at.rank_table-ranks-requires c).After-letters_of-known in (letters_ascend b, letters_few b)

pub advance-position-requires : goal.advance-position-requires
advance-position-requires c =
    let walk = c.args.walk in
    let s = (goal.at.advance-position-requires c).After-letters_of-known in (
      record { lettered = lettered s; ranked = c.rank_table-ranks.ensures; same_field = refl },
      subst (λ (l : List ℕ). StandsAt walk.polynomial walk.order l walk.position) (sym (taken s)) c.requires.standing,
    )

pub returns : goal.returns
returns c =
    let walk = c.args.walk in
    walk_runs walk.polynomial walk.order walk.counts _ (taken (goal.at.returns c).After-letters_of-known) (walk.position.tried + c.args.budget) c.advance-position.result
    c.advance-position.ensures

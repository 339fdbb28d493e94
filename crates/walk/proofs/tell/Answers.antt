-- `walk::tell` meets its contract. Assumes nothing.
use mathlib.Core.Path.{◌≡◌, sym, ap, ap₂, subst, ◌∙◌}
use mathlib.Core.Bool.{Bool, false, not, ◌&&◌}
use mathlib.Core.List.{List, []}
use Prim.Native.Nat.{ℕ}
use native.Mathlib.Omega.{arith}
use lib.ListN.{length, take}
use lib.Seq.{length-take-le}
use Rattle.std.specs.Option.{is_some}
use Rattle.refusal.specs.Refusals.{answer}
use Rattle.refusal.specs.declared.Refusal.TheVariants.{NoRow}
use Rattle.refusal.proofs.Faults.{after_taken, after_left, after_empty}
use Rattle.field.proofs.Calls.{elements_most}
use Rattle.lines.specs.Numbers.{WordsInField}
use Rattle.cuts.proofs.HadamardCuts.{order_most, order_least}
use Rattle.lightest.proofs.LetterCounts.{listed_fits}
use Rattle.search.specs.Answer.{is_none}
use Rattle.walk.specs.Answer.{no_walk}
use Rattle.walk.specs.Steps.Bound.{bound_of}
use Rattle.walk.specs.Steps.Positions.{letters_of, walked_of}
use Rattle.walk.proofs.Begun.{letters_taken, letters_words}
use Rattle.walk.proofs.Telling.{best_holds, none_tells, some_told, ends_told, numbers_told}
use Rattle.walk.proofs.tell.Goals as goal
use Rattle.walk.proofs.tell.Goals.{Joined-else-finished, After-letters_of-known, else-finished-via-then-finished+else-is_none, else-finished-via-else-finished}

pub returns-then-is_none-clause-answer : goal.returns-then-is_none-clause-answer
returns-then-is_none-clause-answer c =
    let at = c.args.walk.position in
    after_taken no_walk _ NoRow _ []
    (sym (ends_told c.args.walk c.requires)
    ∙ ap₂ ◌&&◌ (sym (none_tells at.row _ c.is_none-finished.ensures) ∙ c.if-finished.true) (sym (none_tells at.best _ c.is_none.ensures) ∙ c.if-is_none.true))

-- it goes on, or a row is kept
goes_on : (c : Joined-else-finished) → let walk = c.args.walk in ((walked_of walk).finished && is_none (walked_of walk).best) ≡ false
goes_on c =
    let at = c.args.walk.position in
    sym (ends_told c.args.walk c.requires)
    ∙ elim c.else-finished.branch [
      | else-finished-via-then-finished+else-is_none w ↦
          ap₂ ◌&&◌ (sym (none_tells at.row _ c.is_none-finished.ensures) ∙ w.if-finished.true) (sym (none_tells at.best _ w.is_none.ensures) ∙ w.if-is_none.false)
      | else-finished-via-else-finished w ↦ ap (λ (t : Bool). t && not (is_some at.best)) (sym (none_tells at.row _ c.is_none-finished.ensures) ∙ w.if-finished.false)
    ]

pub letters_of-known-requires : goal.letters_of-known-requires
letters_of-known-requires c =
    omega (arith, c.size.ensures, elements_most c.args.walk.polynomial c.requires.lettered.modulus)

pub counted-best-requires : goal.counted-best-requires
counted-best-requires c = (order_most _ c.requires.lettered.order, best_holds c.args.walk c.requires)

-- the letters of the walk, as the code lists them
taken : (c : After-letters_of-known) → take c.letters_of-known.result.count c.letters_of-known.result.list ≡ letters_of c.args.walk
taken c = letters_taken _ c.letters_of-known.result c.args.walk.polynomial _ c.size.ensures c.letters_of-known.ensures

pub shared_ref_as_front-letters : goal.shared_ref_as_front-letters
shared_ref_as_front-letters c = omega (arith, listed_fits _ _ c.letters_of-known.ensures)

pub slice_bounds-letters-end : goal.slice_bounds-letters-end
slice_bounds-letters-end c = sym (length-take-le _ _ (listed_fits _ _ c.letters_of-known.ensures))

pub lower_bound-requires : goal.lower_bound-requires
lower_bound-requires c =
    let b = c.requires.lettered in (
      order_least _ b.order,
      order_most _ b.order,
      subst (λ (l : List ℕ). WordsInField c.args.walk.polynomial (length l) l) (sym (taken (goal.at.lower_bound-requires c).After-letters_of-known)) (letters_words b),
    )

pub returns-clause-best : goal.returns-clause-best
returns-clause-best c = c.counted-best.ensures.some ∙ some_told c.args.walk c.requires

pub returns-clause-answer : goal.returns-clause-answer
returns-clause-answer c =
    let walk = c.args.walk in
    ap (answer 0)
    (numbers_told walk c.requires _ _ _ _ (none_tells walk.position.row _ c.is_none-finished.ensures) c.counted-best.ensures.count
    (c.lower_bound.ensures ∙ ap (bound_of walk.polynomial walk.order) (taken (goal.at.returns-clause-answer c).After-letters_of-known)) c.counted-best.ensures.row)
    ∙ after_empty no_walk _
    ∙ after_left no_walk _ 9 _ [] (goes_on (goal.at.returns-clause-answer c).Joined-else-finished)

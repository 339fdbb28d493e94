-- `answer_survey::sums_of` meets its contract. The loop's invariant: the sums are those of the elements passed. Assumes nothing.
use mathlib.Core.Path.{◌≡◌, refl, sym, ap, ap₂, ◌∙◌}
use mathlib.Core.List.{[], ◌∷◌}
use Prim.Native.Nat.{ℕ, ◌+◌, ◌-◌, ◌*◌, ◌^◌}
use native.Mathlib.Omega.{arith}
use lib.Pow.{pow_pos}
use Rattle.field.specs.Polynomial.{degree, xor_count}
use Rattle.field.proofs.Calls.{elements_most}
use Rattle.lines.specs.Counts.{total}
use Rattle.lines.proofs.Tallies.{xor_count_le}
use Rattle.reply.specs.Due.{survey_line}
use Rattle.answer_survey.proofs.Surveys.{sum_to, sum_to_next, square, square_le, counts_le, squares_le}
use Rattle.answer_survey.proofs.sums_of.Goals as goal
use Rattle.answer_survey.proofs.sums_of.Goals.{After-from-count}

pub loop-a-init : goal.loop-a-init
unfolding sum_to total
loop-a-init c = (refl, refl)

pub overflow_cast-a : goal.overflow_cast-a
overflow_cast-a c = omega (arith, elements_most c.args.field.polynomial c.args.field.modulus, c.size-a-end.ensures)

-- the count, and its square
count : (c : After-from-count) → c.from-count.result ≡ xor_count c.args.field.polynomial c.loop-a.a
count c = c.from-count.ensures ∙ c.xor_count.ensures

squared : (c : After-from-count) → c.from-count.result * c.from-count.result ≡ square c.args.field.polynomial c.loop-a.a
squared c = ap (λ (n : ℕ). n * n) (count c)

pub overflow_add-counts : goal.overflow_add-counts
overflow_add-counts c =
    let p = c.args.field.polynomial in
    let h = c.args.field.modulus in
    let a = c.loop-a.a in
    omega (arith, elements_most p h, counts_le p (a - 1) h, xor_count_le p a h, count (goal.at.overflow_add-counts c).After-from-count, c.loop-a.invariant.0, c.size-a-end.ensures)

pub overflow_add-squares : goal.overflow_add-squares
overflow_add-squares c =
    let p = c.args.field.polynomial in
    let h = c.args.field.modulus in
    let a = c.loop-a.a in
    omega (arith, elements_most p h, squares_le p (a - 1) h, square_le p a h, squared (goal.at.overflow_add-squares c).After-from-count, c.loop-a.invariant.1, c.size-a-end.ensures)

pub loop-a-preserved : goal.loop-a-preserved
loop-a-preserved c =
    let p = c.args.field.polynomial in
    let loop = c.loop-a in (
      ap₂ (λ (x y : ℕ). x + y) loop.invariant.0 (count (goal.at.loop-a-preserved c).After-from-count) ∙ sym (sum_to_next (xor_count p) loop.a (omega arith)),
      ap₂ (λ (x y : ℕ). x + y) loop.invariant.1 (squared (goal.at.loop-a-preserved c).After-from-count) ∙ sym (sum_to_next (square p) loop.a (omega arith)),
    )

pub returns : goal.returns
unfolding survey_line sum_to
returns c =
    let p = c.args.field.polynomial in
    let loop = c.loop-a in
    let last : loop.a - 1 ≡ 2 ^ degree p - 1 = omega (arith, c.size-a-end.ensures, pow_pos (degree p)) in
    ap₂ (λ (x y : ℕ). p ∷ x ∷ y ∷ []) (loop.invariant.0 ∙ ap (sum_to (xor_count p)) last) (loop.invariant.1 ∙ ap (sum_to (square p)) last)

-- `lines::count::addition_count` meets its contract: after i turns the weight of the first i entries is counted. Assumes nothing.
use mathlib.Core.Path.{◌≡◌, refl, sym, ap, ap₂, ◌∙◌}
use mathlib.Core.Bool.{Bool, true, false, not}
use Prim.Native.Nat.{ℕ, ◌+◌, ◌-◌, ◌*◌, ◌≤◌}
use native.Mathlib.Nat.{mul-le-mul}
use native.Mathlib.Omega.{arith}
use mir.Val.{bool_byte}
use lib.Dec.{eqb}
use lib.ListN.{get_or, length, take}
use Rattle.std.proofs.Common.{rules}
use Rattle.algebra.proofs.Words.{one_unless}
use Rattle.algebra.specs.Matrix.{tabulate, weight}
use Rattle.field.proofs.Degrees.{polynomial}
use Rattle.lines.specs.Counts.{addition_count}
use Rattle.lines.proofs.Filled.{front_at, front_length}
use Rattle.lines.proofs.Tallies.{weight_most, weight_step}
use Rattle.lines.proofs.count.addition_count.Goals as goal
use Rattle.lines.proofs.count.addition_count.Goals.{At-loop-a}

pub loop-a-init : goal.loop-a-init
unfolding weight tabulate
loop-a-init c = refl

-- what an entry adds
one : (zero : Bool) → bool_byte (not zero) ≡ one_unless zero
one true = refl
one false = refl

bool_byte_le : (b : Bool) → bool_byte b ≤ 1
bool_byte_le true = omega arith
bool_byte_le false = omega arith

-- the weight so far
few : (c : At-loop-a) → c.loop-a.weight ≤ c.args.n
few c =
    let last : c.loop-a.a-index ≤ length (take c.args.n c.args.line) = c.loop-a.auto.a-index-end in
    omega (
      arith,
      c.loop-a.invariant,
      weight_most c.args.field.polynomial c.loop-a.a-index (λ j. get_or c.args.line j 0),
      last,
      front_length c.args.n c.args.line c.requires (search rules),
    )

pub overflow_add-weight : goal.overflow_add-weight
overflow_add-weight c =
    let bit : c.from-weight.result ≤ 1 = rw c.from-weight.ensures (bool_byte_le _) in
    record { fits = omega (arith, bit, few (goal.at.overflow_add-weight c).At-loop-a, c.requires) }

pub loop-a-preserved : goal.loop-a-preserved
loop-a-preserved c =
    let i = c.loop-a.a-index in
    let line : ℕ → ℕ = λ j. get_or c.args.line j 0 in
    let at = front_at c.args.n i c.args.line 0 c.loop-a-test.true in
    ap₂ ◌+◌ c.loop-a.invariant (c.from-weight.ensures ∙ one (eqb _ 0) ∙ ap (λ (a : ℕ). one_unless (eqb a 0)) at.1)
    ∙ sym (weight_step c.args.field.polynomial i line)

-- at most 8 additions of 8 bits
pub overflow_mul-result : goal.overflow_mul-result
overflow_mul-result c =
    let sums : c.saturating_sub.result ≤ 8 = omega (arith, c.saturating_sub.ensures, few (goal.at.overflow_mul-result c).At-loop-a, c.requires) in
    let bits : c.from.result ≤ 8 = omega (arith, c.from.ensures, c.degree.ensures, (polynomial c.args.field.polynomial c.args.field.modulus).most) in
    record { fits = omega (arith, mul-le-mul sums bits) }

pub returns : goal.returns
unfolding addition_count
returns c =
    let all : c.loop-a.a-index ≡ c.args.n = omega (arith, front_length c.args.n c.args.line c.requires (search rules)) in
    ap₂ ◌*◌ (c.saturating_sub.ensures ∙ ap (λ (w : ℕ). w - 1) (rw all at c.loop-a.invariant)) (c.from.ensures ∙ c.degree.ensures)

-- `lines::figure::average_ones` meets its contract. Assumes nothing.
use mathlib.Core.Path.{◌≡◌, sym, ap, ◌∙◌}
use Prim.Native.Nat.{ℕ, ◌+◌, ◌-◌, ◌*◌, ◌/◌, ◌%◌, ◌≤◌, ◌<◌, min}
use native.Mathlib.Nat.{add-mul, one-mul, div-eq_of_lt-le, div-le_self}
use native.Mathlib.Omega.{arith}
use Rattle.std.proofs.lemmas.Grind.{div_ceil_times}
use Rattle.field.specs.Polynomial.{degree}
use Rattle.field.proofs.Degrees.{polynomial}
use Rattle.lines.specs.Steps.Figures.{average_ones}
use Rattle.lines.proofs.figure.average_ones.Goals as goal
use Rattle.lines.proofs.figure.average_ones.Goals.{After-from-m, After-div_ceil}

-- a quotient rounded up
rounded : (x y d z : ℕ) → y ≡ d → 0 < d → z + 1 ≡ x + d → x / y + min 1 (x % y) ≡ z / d
rounded x y d z s l e =
    let q = x / d + min 1 (x % d) in
    let times = div_ceil_times x d l in
    let next : (q + 1) * d ≡ q * d + d = add-mul q 1 d ∙ ap (λ (a : ℕ). q * d + a) (one-mul d) in
    rw s (sym (div-eq_of_lt-le {k = q} d (omega (arith, times.1, e)) (omega (arith, times.0, e, next))))

rounded_le : (x y r : ℕ) → r ≡ x / y + min 1 (x % y) → r ≤ x + 1
rounded_le x y r e = omega (arith, e, div-le_self x y)

-- m is at least 2
least : (c : After-from-m) → 2 ≤ c.from-m.result
least c = omega (arith, c.from-m.ensures, c.degree.ensures, (polynomial c.args.field.polynomial c.args.field.modulus).least)

pub div_ceil-requires : goal.div_ceil-requires
div_ceil-requires c = omega (arith, least (goal.at.div_ceil-requires c).After-from-m)

small : (c : After-div_ceil) → c.div_ceil.result ≤ 4097
small c = omega (arith, rounded_le _ _ _ c.div_ceil.ensures, c.requires.1)

pub overflow_add-result : goal.overflow_add-result
overflow_add-result c = record { fits = omega (arith, c.requires.0, small (goal.at.overflow_add-result c).After-div_ceil) }

pub overflow_cast-result-2 : goal.overflow_cast-result-2
overflow_cast-result-2 c = record { fits = omega (arith, c.requires.0, small (goal.at.overflow_cast-result-2 c).After-div_ceil) }

pub returns : goal.returns
unfolding average_ones
returns c =
    let d = degree c.args.field.polynomial in
    let m : c.from-m.result ≡ d = c.from-m.ensures ∙ c.degree.ensures in
    let some = (polynomial c.args.field.polynomial c.args.field.modulus).least in
    let share : c.div_ceil.result ≡ (c.args.count + d - 1) / d =
    c.div_ceil.ensures ∙ rounded _ _ d _ m (omega (arith, some)) (omega (arith, some)) in
    ap (λ (q : ℕ). c.args.n + q) share

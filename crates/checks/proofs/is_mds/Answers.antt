-- `checks::is_mds` meets its contract: a matrix is MDS exactly if every square block is regular. Assumes nothing.
use mathlib.Core.Path.{sym, ◌∙◌}
use native.Mathlib.Nat.{le_refl}
use native.Mathlib.Omega.{arith}
use Rattle.lines.specs.Numbers.{entry, InField}
use Rattle.matrix.proofs.Theorems.{mds_is_regular}
use Rattle.checks.proofs.is_mds.Goals as goal

pub regular_between-requires : goal.regular_between-requires
regular_between-requires c =
    let pre = c.requires in
    (pre.1, le_refl _, pre.2, omega arith)

pub returns : goal.returns
unfolding InField
returns c =
    let a = c.args in
    let pre = c.requires in
    c.regular_between.ensures ∙ sym (mds_is_regular a.field.polynomial a.field.modulus a.n (entry a.m) pre.2 pre.0)

-- `properties::branch::cleared_line` meets its contract. Assumes nothing.
use mathlib.Core.Path.{◌≡◌}
use native.Mathlib.Numerals.{add-one}
use native.Mathlib.Omega.{arith}
use Rattle.std.proofs.Common.{rules, ◌+◌, ◌-◌, get_or}
use Rattle.std.proofs.iter.Serving.{serving}
use Rattle.field.specs.Polynomial.{◌⊕◌, product}
use Rattle.lines.specs.Numbers.{WordsInField}
use Rattle.lines.proofs.Filled.{filled_of}
use Rattle.properties.proofs.branch.cleared_line.Goals as goal

pub filled-requires : goal.filled-requires
unfolding WordsInField
filled-requires c =
    let a = c.requires.2 0 (omega arith) in
    let b = c.requires.3 0 (omega arith) in
    grind serving

pub returns : goal.returns
unfolding ◌⊕◌
returns c =
    filled_of 0 _ (c.args.c - 1) c.filled.result 0 (omega arith) (search rules) (λ j l.
    let p = c.args.table.now.polynomial in
    let h = c.filled.ensures.first j l in
    let e : get_or c.filled.result j 0 ≡ (product p (get_or c.args.first 0 0) (get_or c.args.line (j + 1) 0) ⊕ product p (get_or c.args.line 0 0) (get_or c.args.first (j + 1) 0)) = search rules in
    rw add-one at e)
    (λ j l h. c.filled.ensures.behind j l)

-- `properties::involution::involution` meets its contract. Assumes nothing.
use mathlib.Core.Path.{◌∙◌}
use Rattle.std.proofs.Common.{rules, get_or, []}
use Rattle.std.proofs.iter.runs.Sources.{ranges}
use Rattle.lines.specs.Numbers.{entry, InField}
use Rattle.properties.specs.Steps.Identity.{is_unit_line}
use Rattle.matrix.proofs.Squares.{every_told}
use Rattle.properties.proofs.Units.{units_involution}
use Rattle.properties.proofs.involution.involution.Goals as goal

pub returns : goal.returns
unfolding InField
returns c =
    let args = c.args in
    let p = args.field.polynomial in
    every_told (get_or args.m 0 []) args.n (is_unit_line p args.n (entry args.m)) c.all.result (search (rules, ranges))
    ∙ units_involution p args.field.modulus args.n (entry args.m) c.requires.1

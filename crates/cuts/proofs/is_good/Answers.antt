-- `cuts::is_good` meets its contract: the last letter makes the exclusive or of a Hadamard row 1. Assumes nothing.
use mathlib.Core.Path.{◌≡◌, subst}
use native.Mathlib.Omega.{arith}
use lib.ListN.{length}
use Rattle.rows.specs.declared.Family.{Family}
use Rattle.rows.specs.declared.Family.TheVariants.{Hadamard}
use Rattle.cuts.specs.Steps.Families.{cuts_of}
use Rattle.cuts.specs.Steps.Cuts.{Whole}
use Rattle.cuts.proofs.HadamardCuts.{order_most, order_least, last_one}
use borrow.Author.Rules.{rules}
use Rattle.cuts.proofs.is_good.Goals as goal

pub is_good-requires : goal.is_good-requires
is_good-requires c =
    let p = c.args.table.now.polynomial in
    let n = c.args.n in
    let w : Whole (cuts_of Hadamard p n) p n c.args.row = subst (λ (f : Family). Whole (cuts_of f p n) p n c.args.row) c.in-Hadamard.is c.requires in
    let eight : length c.args.row ≡ 8 = search rules in
    (w.order, w.in_field, last_one c.args.row n (order_least n w.order) (omega (arith, order_most n w.order)) w.ends, w.stands)

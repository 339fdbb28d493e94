-- `cuts::circulant::is_good` meets its contract: the larger square blocks decide. Assumes nothing.
use mathlib.Core.Path.{◌≡◌, ◌∙◌}
use native.Mathlib.Nat.{le_refl}
use native.Mathlib.Omega.{arith}
use lib.ListN.{length}
use Rattle.cuts.proofs.CirculantCuts.{circulant_in_field, circulant_good}
use borrow.Author.Rules.{rules}
use Rattle.cuts.proofs.circulant.is_good.Goals as goal

pub circulant_matrix-m-requires : goal.circulant_matrix-m-requires
circulant_matrix-m-requires c = c.requires.0.1

pub regular_between-requires : goal.regular_between-requires
regular_between-requires c =
    let a = c.args in
    let t = a.table.now in
    let m = c.circulant_matrix-m in
    (c.requires.0.1, le_refl a.n, circulant_in_field t.polynomial a.n t.modulus c.requires.0 a.row c.requires.1 m.result m.ensures, c.requires.0.1)

pub returns : goal.returns
returns c =
    let a = c.args in
    let t = a.table.now in
    let m = c.circulant_matrix-m in
    let eight : length a.row ≡ 8 = search rules in
    c.regular_between.ensures
    ∙ circulant_good t.polynomial a.n t.modulus c.requires.0 a.row c.requires.1 m.result m.ensures (omega (arith, c.requires.0.1)) c.requires.2

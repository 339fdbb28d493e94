-- `cuts::hadamard::is_good` meets its contract: few square blocks decide on a row whose exclusive or is 1. Assumes nothing.
use mathlib.Core.Path.{◌≡◌, ◌∙◌}
use Prim.Native.Nat.{◌≤◌}
use native.Mathlib.Omega.{arith}
use lib.ListN.{length}
use Rattle.cuts.proofs.HadamardCuts.{order_halves, order_most, matrix_in_field, matrix_good}
use borrow.Author.Rules.{rules}
use Rattle.cuts.proofs.hadamard.is_good.Goals as goal

pub hadamard_matrix-m-requires : goal.hadamard_matrix-m-requires
hadamard_matrix-m-requires c = order_halves c.args.n c.requires.0

pub regular_between-requires : goal.regular_between-requires
regular_between-requires c =
    let a = c.args in
    let t = a.table.now in
    let m = c.hadamard_matrix-m in
    let most : a.n ≤ 8 = order_most a.n c.requires.0 in
    (most, omega arith, matrix_in_field t.polynomial a.n t.modulus c.requires.0 a.row c.requires.1 m.result m.ensures, omega arith)

pub returns : goal.returns
returns c =
    let a = c.args in
    let t = a.table.now in
    let m = c.hadamard_matrix-m in
    let eight : length a.row ≡ 8 = search rules in
    c.regular_between.ensures
    ∙ matrix_good t.polynomial a.n t.modulus c.requires.0 a.row c.requires.1 m.result m.ensures
    (omega (arith, order_most a.n c.requires.0)) c.requires.2 c.requires.3

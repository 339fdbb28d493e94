-- `matrix::block::regular_between` meets its contract. Assumes nothing.
use Rattle.std.proofs.Common.{rules, ◌≡◌, refl, true, false, ℕ, ◌+◌, ◌-◌, Bool}
use Rattle.std.proofs.lemmas.Iterator.{cases_from_all, YieldsList-from_range}
use Rattle.lines.specs.Numbers.{numbers, entry}
use Rattle.matrix.specs.Steps.Choice.{line_of}
use Rattle.matrix.specs.Steps.Regular.{regular_of_size}
use Rattle.matrix.proofs.Squares.{sizes_all}
use Rattle.matrix.proofs.block.regular_between.Goals as goal

pub returns : goal.returns
returns c =
    let a = c.args in
    let K = numbers a.table.now.polynomial in
    let look = line_of a.look in
    let test : ℕ → Bool = λ k. regular_of_size K a.n (entry a.m) look (k + 1) in
    sizes_all K a.n (entry a.m) look a.above a.most c.all.result
    (cases_from_all _ _ _ (λ k. test k ≡ true) (λ k. test k ≡ false) c.all.ensures.ran
    (YieldsList-from_range a.above a.most (a.most - a.above) refl refl) (λ k q e. search rules) (λ k q e. search rules))

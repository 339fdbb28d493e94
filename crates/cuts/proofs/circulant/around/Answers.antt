-- `cuts::circulant::around` meets its contract. Assumes nothing.
use mathlib.Core.Path.{sym}
use native.Mathlib.Nat.{mod-eq_of_lt}
use native.Mathlib.Omega.{arith}
use Rattle.rows.proofs.Around.{mod_once, mod_twice}
use Rattle.cuts.proofs.circulant.around.Goals as goal

pub returns-then-sum-n : goal.returns-then-sum-n
returns-then-sum-n c = sym (mod-eq_of_lt c.if-sum-n.true)

pub returns-then-sum-n-2 : goal.returns-then-sum-n-2
returns-then-sum-n-2 c =
    sym (mod_once c.args.n c.args.sum _ (omega arith) (omega arith))

pub returns : goal.returns
returns c =
    sym (mod_twice c.args.n c.args.sum _ (omega arith) (omega arith))

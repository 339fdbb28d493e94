-- `walk::judge::is_heavy` meets its contract. Assumes nothing.
use Rattle.std.proofs.Common.{rules}
use Rattle.lightest.specs.Steps.Prefix.{is_heavy}
use Rattle.walk.proofs.judge.is_heavy.Goals as goal

pub returns : goal.returns
unfolding is_heavy
returns c = search rules

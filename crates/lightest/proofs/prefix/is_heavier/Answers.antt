-- `lightest::prefix::is_heavier` meets its contract. Assumes nothing.
use Rattle.std.proofs.Common.{rules}
use Rattle.lightest.specs.Steps.Prefix.{is_heavier}
use Rattle.lightest.proofs.prefix.is_heavier.Goals as goal

pub returns : goal.returns
unfolding is_heavier
returns c = search rules

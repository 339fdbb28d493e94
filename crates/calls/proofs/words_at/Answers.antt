use Rattle.std.proofs.Common.{rules}
use Rattle.calls.specs.Records.{words_at}
use Rattle.calls.proofs.words_at.Goals as goal

pub returns : goal.returns
unfolding words_at
returns c = search rules

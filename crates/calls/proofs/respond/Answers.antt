-- `calls::respond` meets its contract. Assumes nothing.
use mathlib.Core.Path.{ap, ◌∙◌}
use Rattle.calls.specs.Records.{as_bytes}
use Rattle.calls.proofs.respond.Goals as goal

pub returns : goal.returns
returns c = c.bytes_of.ensures ∙ ap as_bytes c.reply_of.ensures

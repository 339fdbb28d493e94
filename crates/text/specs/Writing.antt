-- What a function that writes into lent bytes leaves there.
-- Assumes nothing.
use Rattle.std.specs.Prelude.{◌≡◌, List, ℕ, ◌+◌, length}
use lib.Seq.{sets}
use Rattle.text.specs.declared.Writer.{Writer}

-- the bytes `written` stand from place `at` on, every other byte is as before, and `next` is the place behind them
pub record Put (before after : List ℕ) (at : ℕ) (written : List ℕ) (next : ℕ) : Type 0 where
  pub bytes : after ≡ sets before at written
  pub place : next ≡ at + length written

-- the writer has written these bytes from its place on, into the same lent bytes, and stands behind them
pub record Wrote (before after : Writer) (written : List ℕ) : Type 0 where
  pub same_reference : after.space.ghost_name ≡ before.space.ghost_name
  pub put : Put before.space.now after.space.now before.at written after.at

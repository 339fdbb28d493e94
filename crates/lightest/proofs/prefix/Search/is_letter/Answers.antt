-- `lightest::prefix::Search::is_letter` meets its contract. Assumes nothing.
use mathlib.Core.Path.{ap, ◌∙◌}
use mathlib.Core.Bool.{not}
use Prim.Native.Nat.{ℕ}
use native.Mathlib.Omega.{arith}
use lib.Dec.{eqb}
use lib.ListN.{get_or}
use Rattle.lightest.proofs.LetterCounts.{table_letter}
use Rattle.lightest.proofs.prefix.Search.is_letter.Goals as goal

pub returns : goal.returns
returns c =
    let s = c.args.self.now in
    ap (λ (i : ℕ). not (eqb (get_or s.counts.now i 0) 255)) c.from.ensures
    ∙ table_letter s.table.polynomial s.table.modulus s.letters.now s.counts.now s.brief.table c.args.a (omega (arith, c.ranges.a.fits))

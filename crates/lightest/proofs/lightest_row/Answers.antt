-- `lightest::lightest_row` meets its contract. Assumes nothing.
use mathlib.Core.Path.{sym, ◌∙◌}
use native.Mathlib.Omega.{arith}
use lib.Seq.{length-take-le}
use Rattle.cuts.specs.Steps.Families.{cuts_of}
use Rattle.cuts.proofs.Families.{family_most, family_least, family_rows}
use Rattle.lightest.proofs.LetterCounts.{listed_take, listed_fits}
use Rattle.lightest.proofs.Start.{start_brief, start_reached, none_kept, none_long, start_answer}
use Rattle.field.proofs.Calls.{elements_most}
use Rattle.lightest.proofs.lightest_row.Goals as goal

pub letters_of-known-requires : goal.letters_of-known-requires
letters_of-known-requires c = omega (arith, c.size.ensures, elements_most _ c.args.field.modulus)

pub shared_ref_as_front-letters : goal.shared_ref_as_front-letters
shared_ref_as_front-letters c = omega (arith, listed_fits _ _ c.letters_of-known.ensures)

pub slice_bounds-letters-end : goal.slice_bounds-letters-end
slice_bounds-letters-end c = sym (length-take-le _ _ (listed_fits _ _ c.letters_of-known.ensures))

pub invariant_of-search-clause-brief : goal.invariant_of-search-clause-brief
invariant_of-search-clause-brief c =
    let field = c.args.field in
    let n = c.args.n in
    start_brief field.polynomial n field.modulus c.args.candidates.now c.requires.1 c.requires.2 _ _ _ _ c.count_table-counts.ensures
    c.size.ensures (listed_take _ _ c.letters_of-known.ensures) (c.from-least.ensures ∙ c.least_count.ensures)
    (cuts_of c.args.family field.polynomial n) c.requires.0 (family_most c.args.family n c.requires.0)

pub extend-requires : goal.extend-requires
extend-requires c =
    record {
      reached = start_reached _ _ c.args.n _ (family_most c.args.family c.args.n c.requires.0);
      inside = family_least c.args.family c.args.n c.requires.0;
      holds = none_kept c.args.field.polynomial c.args.n;
      long = none_long c.args.n;
    }

pub returns : goal.returns
returns c =
    let field = c.args.field in
    start_answer field.polynomial c.args.n field.modulus c.args.candidates.now c.requires.1 c.requires.2 _ _ _ _ c.count_table-counts.ensures
    c.size.ensures (listed_take _ _ c.letters_of-known.ensures) (c.from-least.ensures ∙ c.least_count.ensures)
    (cuts_of c.args.family field.polynomial c.args.n) (family_rows c.args.family field.polynomial c.args.n field.modulus c.requires.0 c.args.candidates.now)
    c.extend.new.best c.extend.ensures

-- `search::search_for` meets its contract: what the brief is refused for, the search is; else the row kept is told. Assumes nothing.
use mathlib.Core.Path.{◌≡◌, sym, ap, ◌∙◌}
use Prim.Native.Nat.{ℕ}
use native.Mathlib.Omega.{arith}
use Rattle.std.proofs.lemmas.Result.{err_from_is_err_and}
use Rattle.refusal.specs.declared.Refusal.TheVariants.{NoRow}
use Rattle.refusal.specs.Refusals.{first_number}
use Rattle.refusal.proofs.Faults.{refused_before}
use Rattle.rows.specs.Shape.{shape_of}
use Rattle.rows.specs.Keys.{lightest_row}
use Rattle.search.specs.Answer.{brief_faults, no_row, search_faults, search_answer}
use Rattle.search.proofs.Refusals.{brief_passed, brief_behind, nine, says_found, says_none}
use Rattle.search.proofs.search_for.Goals as goal
use Rattle.search.proofs.search_for.Goals.{In_ok-field}

pub returns-in_err-field : goal.returns-in_err-field
unfolding search_answer search_faults
returns-in_err-field c =
    let p = err_from_is_err_and c.from_residual.result c.from_residual.ensures.1 in
    rw (p.1, p.2) (refused_before no_row _ (brief_faults c.args.family c.args.p c.args.n c.args.candidates.now) _ _ c.in_err-field.ensures)

pub lightest_row-requires : goal.lightest_row-requires
lightest_row-requires c =
    let (made, none) = c.in_ok-field.ensures in
    let a = c.args in
    let h = brief_passed a.family c.in_ok-field.field.polynomial a.n a.candidates.now (ap (λ (q : ℕ). first_number (brief_faults a.family q a.n a.candidates.now)) made ∙ none) in
    (h.order, h.large, h.bad)

-- the row kept decides, where the brief passes
behind : (c : In_ok-field) → let a = c.args in let q = c.in_ok-field.field.polynomial in
    nine q a.n (lightest_row (shape_of a.family) q a.n a.candidates.now) ≡ search_answer a.family a.p a.n a.candidates.now
unfolding search_answer search_faults
behind c =
    let a = c.args in
    let (made, none) = c.in_ok-field.ensures in
    ap (λ (q : ℕ). nine q a.n (lightest_row (shape_of a.family) q a.n a.candidates.now)) made
    ∙ brief_behind a.family a.p a.n a.candidates.now none no_row _ _

pub returns-in_err-best : goal.returns-in_err-best
returns-in_err-best c =
    let p = err_from_is_err_and c.from_residual-in_err-best.result c.from_residual-in_err-best.ensures.1 in
    let said = c.in_err-best.ensures in
    let reason : c.in_err-best.field-0.0 ≡ NoRow = grind (arith, said.value, said.ok_part) in
    rw (p.1, p.2, reason) (says_none _ _ _ (sym said.ok_part ∙ c.lightest_row.ensures) ∙ behind (goal.at.returns-in_err-best c).In_ok-field)

pub returns : goal.returns
returns c = says_found _ _ _ c.in_ok-best.best (sym c.in_ok-best.ensures.ok_part ∙ c.lightest_row.ensures) ∙ behind (goal.at.returns c).In_ok-field

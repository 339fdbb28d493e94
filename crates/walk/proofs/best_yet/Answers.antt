-- `walk::best_yet` meets its contract: what the brief is refused for, the walk is; else it is told where the walk stands. Assumes nothing.
use mathlib.Core.Path.{◌≡◌, ap, subst, ◌∙◌}
use mathlib.Core.Bool.{not, ◌&&◌}
use mathlib.Core.List.{List, [], ◌∷◌}
use Prim.Native.Nat.{ℕ, ◌^◌}
use Rattle.std.specs.Prelude.{IfOk, is_some}
use Rattle.std.proofs.lemmas.Result.{err_from_is_err_and}
use Rattle.refusal.specs.Refusals.{Answer, fault, first_number, answer_after}
use Rattle.refusal.proofs.Faults.{refused_before}
use Rattle.field.specs.Polynomial.{degree}
use Rattle.rows.specs.Walks.{Walked, walk_of}
use Rattle.rows.specs.declared.Family.TheVariants.{Hadamard}
use Rattle.lightest.specs.Steps.Letters.{count_table, known}
use Rattle.search.specs.Answer.{brief_faults, is_none}
use Rattle.search.proofs.Refusals.{BriefPassed, brief_passed, brief_behind}
use Rattle.walk.specs.declared.Told.{Told}
use Rattle.walk.specs.Answer.{WalkFound, no_walk, walk_found, walk_faults, walk_answer}
use Rattle.walk.specs.Steps.Positions.{Lettered, walked_of, walk_at}
use Rattle.walk.proofs.Begun.{brief_lettered, walk_at_holds, walk_begun}
use Rattle.walk.proofs.Telling.{walked_is, brief_told}
use Rattle.walk.proofs.best_yet.Goals as goal
use Rattle.walk.proofs.best_yet.Goals.{In_ok-field, After-run}

pub returns-in_err-field-clause-answer : goal.returns-in_err-field-clause-answer
unfolding walk_answer walk_faults
returns-in_err-field-clause-answer c =
    let p = err_from_is_err_and c.from_residual.result c.from_residual.ensures.1 in
    rw (p.1, p.2) (refused_before no_walk _ (brief_faults Hadamard c.args.p c.args.n c.args.candidates.now) _ _ c.in_err-field.ensures)

pub returns-in_err-field-clause-best : goal.returns-in_err-field-clause-best
returns-in_err-field-clause-best c = let p = err_from_is_err_and c.from_residual.result c.from_residual.ensures.1 in rw p.1 tt

-- nothing applies to the brief over the field made
passed : (c : In_ok-field) → BriefPassed Hadamard c.in_ok-field.field.polynomial c.args.n c.args.candidates.now
passed c =
    let (made, none) = c.in_ok-field.ensures in
    brief_passed _ _ _ _ (ap (λ (q : ℕ). first_number (brief_faults Hadamard q c.args.n c.args.candidates.now)) made ∙ none)

pub begin-requires : goal.begin-requires
begin-requires c = let h = passed c in (h.order, h.large, h.bad)

lettered : (c : In_ok-field) → let q = c.in_ok-field.field.polynomial in let table = count_table q c.args.candidates.now in
    Lettered q c.args.n (known table (2 ^ degree q)) table
lettered c = let h = passed c in brief_lettered c.in_ok-field.field.polynomial c.args.n h.modulus h.order c.args.candidates.now h.large h.bad

-- the walk after the rows of the budget
ran : (c : After-run) → let q = c.in_ok-field.field.polynomial in c.run.result ≡ walk_at q c.args.n (count_table q c.args.candidates.now) c.args.budget
ran c = walk_begun (lettered (goal.at.tell-requires c).In_ok-field) c.begin.result c.begin.ensures c.args.budget c.run.result c.run.ensures

pub run-requires : goal.run-requires
run-requires c = walk_at_holds (lettered (goal.at.run-requires c).In_ok-field) c.begin.result 0 c.begin.ensures

pub tell-requires : goal.tell-requires
tell-requires c = walk_at_holds (lettered (goal.at.tell-requires c).In_ok-field) c.run.result c.args.budget (ran c)

-- what is answered where nothing is refused before 9
abbrev nine : ℕ → ℕ → List ℕ → Walked → Answer WalkFound
nine p n candidates w = answer_after no_walk (fault 9 (w.finished && is_none w.best) ∷ []) (walk_found p n candidates w)

pub returns-clause-answer : goal.returns-clause-answer
unfolding walk_answer walk_faults
returns-clause-answer c =
    let a = c.args in
    let field = c.in_ok-field.field in
    let (made, none) = c.in_ok-field.ensures in
    c.tell.ensures.answer
    ∙ brief_told field.polynomial a.n a.candidates.now field.modulus (lettered (goal.at.returns-clause-answer c).In_ok-field) a.budget c.run.result (ran (goal.at.returns-clause-answer c).After-run)
    ∙ ap (λ (p : ℕ). nine p a.n a.candidates.now (walk_of p a.n a.candidates.now a.budget)) made
    ∙ brief_behind Hadamard a.p a.n a.candidates.now none no_walk _ _

-- the walk that is told is that of the brief
walked : (c : After-run) → let a = c.args in walked_of c.run.result ≡ walk_of a.p a.n a.candidates.now a.budget
walked c =
    let a = c.args in
    let field = c.in_ok-field.field in
    walked_is field.polynomial a.n a.candidates.now field.modulus (lettered (goal.at.After-run c).In_ok-field) a.budget c.run.result (ran c)
    ∙ ap (λ (p : ℕ). walk_of p a.n a.candidates.now a.budget) c.in_ok-field.ensures.0

pub returns-clause-best : goal.returns-clause-best
returns-clause-best c =
    subst (λ (w : Walked). IfOk c.tell.result (λ (told : Told). is_some told.best ≡ not (is_none w.best)))
    (walked (goal.at.returns-clause-best c).After-run) c.tell.ensures.best

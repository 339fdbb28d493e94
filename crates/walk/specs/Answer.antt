-- The walk over the rows of different candidates of a brief, in the words of document 02, Seven: what the call answers, and what the result of the
-- code says. To be believed. Assumes nothing.
use Rattle.std.specs.Prelude.{cond, ◌&&◌, List, [], ◌∷◌, ◌++◌, ℕ, ◌-◌, replicate, Option, None, Some, Result}
use Rattle.refusal.specs.declared.Refusal.{Refusal}
use Rattle.refusal.specs.Refusals.{Fault, fault, Answer, answer_after, answer_by}
use Rattle.rows.specs.declared.Family.TheVariants.{Hadamard}
use Rattle.rows.specs.Lightest.{Best, nothing, found}
use Rattle.rows.specs.Demands.{count_of_row}
use Rattle.rows.specs.Walks.{Walked, walk_of, lower_bound}
use Rattle.search.specs.Answer.{brief_faults, is_none}
use Rattle.walk.specs.declared.CountedRow.{CountedRow}
use Rattle.walk.specs.declared.Told.{Told}

-- the faults of a walk that stands so: those of its brief, 3 to 8, as of a search; then 9: it is finished without a row
unfoldable pub walk_faults : ℕ → ℕ → List ℕ → Walked → List Fault
walk_faults p n candidates w = brief_faults Hadamard p n candidates ++ fault 9 (w.finished && is_none w.best) ∷ []

-- the best row's count, or 999999 if there is none yet
abbrev pub best_count : ℕ → ℕ → Best → ℕ
best_count p n nothing = 999999
best_count p n (found row) = count_of_row p n row

-- the best row, or zeros
abbrev pub best_row : ℕ → Best → List ℕ
best_row n nothing = replicate n 0
best_row n (found row) = row

-- what a walk answers: finished (1 or 0), the rows tried, the best row's count, the bound, and the best row, filled up to eight entries with 0
pub record WalkFound : Type 0 where
  pub finished : ℕ
  pub tried : ℕ
  pub count : ℕ
  pub bound : ℕ
  pub row : List ℕ

abbrev pub no_walk : WalkFound
no_walk = record { finished = 0; tried = 0; count = 0; bound = 0; row = replicate 8 0 }

unfoldable pub walk_found : ℕ → ℕ → List ℕ → Walked → WalkFound
walk_found p n candidates w =
    record {
      finished = cond w.finished 1 0;
      tried = w.rows_tried;
      count = best_count p n w.best;
      bound = lower_bound p n candidates;
      row = best_row n w.best ++ replicate (8 - n) 0;
    }

-- what a walk with polynomial p and order n over the candidates answers within a budget: the first fault, or where it stands
unfoldable pub walk_answer : ℕ → ℕ → List ℕ → ℕ → Answer WalkFound
walk_answer p n candidates budget =
    let w = walk_of p n candidates budget in
    answer_after no_walk (walk_faults p n candidates w) (walk_found p n candidates w)

-- ---- what the code returns

-- the count of the best row, or 999999 if there is none yet
abbrev pub told_count : Option CountedRow → ℕ
told_count None = 999999
told_count (Some r) = r.count

-- the best row, or zeros
abbrev pub told_row : Option CountedRow → List ℕ
told_row None = replicate 8 0
told_row (Some r) = r.row

-- what is told in numbers; whether a row is told, which they leave open, is the clause `best` of `tell` and of `best_yet`
abbrev pub walk_told : Told → WalkFound
walk_told t = record { finished = cond t.finished 1 0; tried = t.tried; count = told_count t.best; bound = t.bound; row = told_row t.best }

-- the answer of a walk
abbrev pub says_walk : Result Told Refusal → Answer WalkFound
says_walk = answer_by walk_told no_walk

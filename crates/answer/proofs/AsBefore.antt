-- What was due before zeros cost no gates (request One), and what of it stayed: every answer to a search and to a survey, every refusal, and
-- the answer to every check of a matrix without zeros (`due_as_before`, `search_as_before`, `number_as_before`). The counts alone are those of
-- before: a search's row is that of today (request Four). Assumes nothing.
use mathlib.Core.Path.{◌≡◌, refl, sym, ap, ◌∙◌}
use mathlib.Core.Logic.{◌≢◌}
use mathlib.Core.Bool.{Bool, true, false, cond, not}
use mathlib.Core.List.{List, [], ◌∷◌, Memᴰ}
use Prim.Native.Nat.{ℕ, zero, suc, ◌+◌, ◌*◌, ◌<◌}
use native.Mathlib.Omega.{arith}
use lib.Dec.{eqb}
use lib.ListN.{get_or}
use Rattle.refusal.specs.Refusals.{fault, first_number, Answer, answer, unless_refused, answer_after}
use Rattle.refusal.proofs.Faults.{first_passed, after_number_is}
use Rattle.algebra.specs.Matrix.{branch_number, is_mds, is_involution}
use Rattle.lines.specs.Numbers.{numbers, elements}
use Rattle.lines.proofs.CountsBefore.{row_count_before, matrix_count_before, line_as_before, matrix_as_before}
use Rattle.checks.specs.Answers.{yes_no, check_of}
use Rattle.rows.specs.declared.Family.TheVariants.{Hadamard, Circulant}
use Rattle.rows.specs.Lightest.{Best, nothing, found}
use Rattle.rows.specs.Shape.{hadamard_shape}
use Rattle.rows.specs.Keys.{sum_of, lightest_row}
use Rattle.rows.proofs.Demands.{NoZero}
use Rattle.rows.proofs.Rows.{get_d_mem}
use Rattle.text.specs.Reading.{in_form, kind_of, values_of}
use Rattle.reply.specs.Due.{Request, Kind, row_lines, search, entries_of, check_lines, check, survey, gates, walk, kinds, kind_among, kind_in, request_in, faults_of, due}
use Rattle.reply.specs.Answered.{text_of}
use Rattle.answer.proofs.EveryKind.{kind_number}
use Rattle.answer_row.proofs.Found.{search_accepted}
use Rattle.reply.proofs.Values.{place_below_holds}
use Rattle.answer.proofs.Acceptance.{check_accepted}

-- ---- what was due

-- line one with the row's count of before, and the row
unfoldable pub row_lines_before : ℕ → ℕ → List ℕ → List (List ℕ)
row_lines_before p n row =
    (0 ∷ sum_of p n row ∷ row_count_before p n (λ j. get_or row j 0) ∷ n * row_count_before p n (λ j. get_or row j 0) ∷ []) ∷ row ∷ []

abbrev pub best_lines_before : ℕ → ℕ → Best → List (List ℕ)
best_lines_before p n nothing = []
best_lines_before p n (found row) = row_lines_before p n row

-- branch number, MDS, involution and the matrix's count of before
unfoldable pub check_lines_before : ℕ → ℕ → (ℕ → ℕ → ℕ) → List (List ℕ)
check_lines_before p n f =
    (0
    ∷ branch_number (numbers p) (elements p) n f
    ∷ yes_no (is_mds (numbers p) (elements p) n f)
    ∷ yes_no (is_involution (numbers p) (elements p) n f)
    ∷ matrix_count_before p n f
    ∷ [])
    ∷ []

-- the kinds: the same numbers and faults, and these lines; kinds 4, 5 and 6, which came later, as they are
unfoldable pub search_before : Kind
search_before =
    record {
      number = 1;
      faults = (search Hadamard).faults;
      lines = λ r. best_lines_before r.polynomial r.order (lightest_row hadamard_shape r.polynomial r.order r.values);
    }

unfoldable pub check_before : Kind
check_before =
    record {
      number = 2;
      faults = check.faults;
      lines = λ r. check_lines_before r.polynomial r.order (entries_of r.order r.values);
    }

unfoldable pub kinds_before : List Kind
kinds_before = search_before ∷ check_before ∷ survey ∷ gates ∷ search Circulant ∷ walk ∷ []

-- what was due to a text
unfoldable pub due_before : List ℕ → Answer (List (List ℕ))
due_before text =
    answer_after [] (fault 1 (not (in_form text)) ∷ (kind_among kinds_before (kind_of text)).faults (request_in text))
    ((kind_among kinds_before (kind_of text)).lines (request_in text))

-- ---- kind by kind

-- no value is 0
abbrev pub NoneZero : List ℕ → Type 0
NoneZero values = (a : ℕ) → Memᴰ a values → a ≢ 0

-- the same faults, and where none is there the same lines; for kind 2, if no value is 0
abbrev Alike : Kind → Kind → Type 0
Alike kind kind' =
    (r : Request) → (kind.faults r ≡ kind'.faults r)
    × (first_number (kind.faults r) ≡ 0 → (kind.number ≡ 2 → NoneZero r.values) → kind.lines r ≡ kind'.lines r)

-- the lines of a row without zeros
row_lines_before_holds : (p n : ℕ) (row : List ℕ) → NoZero n row → row_lines p n row ≡ row_lines_before p n row
unfolding row_lines row_lines_before
row_lines_before_holds p n row h =
    ap (λ (c : ℕ). (0 ∷ sum_of p n row ∷ c ∷ n * c ∷ []) ∷ row ∷ []) (line_as_before p n (λ j. get_or row j 0) h)

search_alike : Alike (search Hadamard) search_before
unfolding search search_before
search_alike r = (
  refl,
  λ e h.
      let a = search_accepted Hadamard r.polynomial r.order r.values e in
      rw a.lightest (row_lines_before_holds r.polynomial r.order a.row a.nonzero),
)

-- the lines of a matrix without zeros
check_lines_before_holds : (p n : ℕ) (f : ℕ → ℕ → ℕ) → ((i j : ℕ) → i < n → j < n → f i j ≢ 0) → check_lines p n f ≡ check_lines_before p n f
unfolding check_lines check_lines_before check_of
check_lines_before_holds p n f h = rw (matrix_as_before p n f h)

check_alike : Alike check check_before
unfolding check check_before entries_of
check_alike r = (
  refl,
  λ e h.
      let n = r.order in
      let a = check_accepted r.polynomial n r.values e in
      check_lines_before_holds r.polynomial n _ (λ i j l m. h refl _ (get_d_mem r.values (i * n + j) 0 (rw a.square (place_below_holds n i j l m)))),
)

chosen_alike : (b : Bool) (x y x' y' : Kind) → Alike x x' → Alike y y' → Alike (cond b x y) (cond b x' y')
chosen_alike true x y x' y' h k = h
chosen_alike false x y x' y' h k = k

kinds_alike : (k : ℕ) → Alike (kind_among kinds k) (kind_among kinds_before k)
unfolding kinds kinds_before kind_among search search_before check check_before survey gates walk
kinds_alike k =
    chosen_alike (eqb k 1) (search Hadamard) _ search_before _ search_alike
    (chosen_alike (eqb k 2) check _ check_before _ check_alike
    (chosen_alike (eqb k 3) survey _ survey _ (λ r. (refl, λ e h. refl))
    (chosen_alike (eqb k 4) gates _ gates _ (λ r. (refl, λ e h. refl))
    (chosen_alike (eqb k 5) (search Circulant) _ (search Circulant) _ (λ r. (refl, λ e h. refl))
    (chosen_alike (eqb k 6) walk _ walk _ (λ r. (refl, λ e h. refl)) (λ r. (refl, λ e h. refl)))))))

-- ---- every text

-- the value matters only where nothing is refused
where_accepted : {A : Type 0} (empty v w : A) (number : ℕ) → (number ≡ 0 → v ≡ w) → unless_refused empty number v ≡ unless_refused empty number w
where_accepted empty v w zero h = ap (λ x. answer 0 x) (h refl)
where_accepted empty v w (suc number) h = refl

module _ (text : List ℕ) where
  alike : Alike (kind_in text) (kind_among kinds_before (kind_of text))
  unfolding kind_in
  alike = kinds_alike (kind_of text)

  -- what is due is what was due, but for a check of a matrix with a 0
  pub due_as_before : (kind_of text ≡ 2 → NoneZero (values_of text)) → due text ≡ due_before text
  unfolding due due_before faults_of answer_after request_in
  due_as_before h =
      rw (← (alike (request_in text)).0)
      (where_accepted {A = List (List ℕ)} [] _ _ (first_number (faults_of text)) (λ e.
      (alike (request_in text)).1 (first_passed 1 0 _ _ (λ z. omega arith) e).1 (λ two. h (sym (kind_number text) ∙ two))))

  -- the number is the same to every text
  pub number_as_before : (due text).number ≡ (due_before text).number
  unfolding due due_before faults_of
  number_as_before = after_number_is [] _ _ ∙ rw (alike (request_in text)).0 (sym (after_number_is [] _ _))

  -- every search has the same answer text as before
  pub search_as_before : kind_of text ≡ 1 → due text ≡ due_before text
  search_as_before e = due_as_before (λ two. let z : ⊥ = omega arith in absurd z)

  pub search_text_as_before : kind_of text ≡ 1 → text_of (due text).number (due text).value ≡ text_of (due_before text).number (due_before text).value
  search_text_as_before e = ap (λ (d : Answer (List (List ℕ))). text_of d.number d.value) (search_as_before e)

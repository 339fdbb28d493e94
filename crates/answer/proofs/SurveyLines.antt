-- Request Three. The lines of a survey behind line one ascend strictly by polynomial (`lines_ascend`), every irreducible polynomial of the degree
-- has its line (`every_polynomial`), and every line is that of such a polynomial (`only_polynomials`). Of the text of an accepted survey
-- `SurveyText` holds, which says so (`survey_answered`), and it holds of one text alone (`survey_one_text`). Assumes nothing.
use mathlib.Core.Path.{◌≡◌, refl, sym, ap, ◌∙◌}
use mathlib.Core.Bool.{◌||◌}
use mathlib.Core.List.Memᴰ
use mathlib.Core.List.{List, [], ◌∷◌, map, Memᴰ}
use Prim.Native.Nat.{ℕ, zero, suc, ◌<◌, zero-le}
use native.Mathlib.Omega.{arith}
use lib.Dec.{ltb}
use lib.ListN.{length, get_or, take, drop, length-map}
use Rattle.refusal.specs.Refusals.{first_number}
use Rattle.refusal.proofs.Faults.{first_passed}
use Rattle.field.specs.Polynomial.{Irreducible, degree}
use Rattle.field.specs.Table.{polynomials}
use Rattle.field.proofs.Completeness.{Ascends, ascends_places, places_ascend, ascends_same, polynomials_ascend, polynomials_exactly}
use Rattle.text.specs.Text.{answer_text}
use Rattle.text.specs.Reading.{kind_of, polynomial_of}
use Rattle.reply.specs.Due.{survey_faults, survey_line, survey_lines, survey, kind_in, request_in, due}
use Rattle.reply.specs.Answered.{Answered}
use Rattle.answer.specs.Demands.{SurveyText}
use Rattle.reply.proofs.DueFrom.{kind_survey}
use Rattle.answer.proofs.EveryKind.{due_lines_of, due_passed}
use Rattle.reply.proofs.Values.{degree_passed}
use Rattle.answer.proofs.Demands.{accepted_due, accepted_text}

-- ---- the lines

-- the polynomial of a line is its first number
abbrev pub polynomial_at : List (List ℕ) → ℕ → ℕ
polynomial_at lines i = get_or (get_or lines i []) 0 0

-- the lines of a survey behind line one
abbrev pub behind : ℕ → List (List ℕ)
behind m = drop 1 (survey_lines m)

-- the line of each of these begins with it
line_at : (ps : List ℕ) (i : ℕ) → polynomial_at (map survey_line ps) i ≡ get_or ps i 0
unfolding survey_line
line_at [] i = refl
line_at (p ∷ ps) zero = refl
line_at (p ∷ ps) (suc i) = line_at ps i

-- they ascend strictly
pub lines_ascend : (m i j : ℕ) → i < j → j < length (behind m) → polynomial_at (behind m) i < polynomial_at (behind m) j
unfolding survey_lines
lines_ascend m i j r s =
    rw (line_at (polynomials m) i, line_at (polynomials m) j)
    (ascends_places (polynomials_ascend m) i j r (rw (length-map (polynomials m) survey_line) at s))

-- every irreducible polynomial of the degree has its line
pub every_polynomial : (m p : ℕ) → 0 < m → Irreducible p → degree p ≡ m → Memᴰ (survey_line p) (behind m)
unfolding survey_lines
every_polynomial m p h i e = Memᴰ.map survey_line ((polynomials_exactly m p h).1 (i, e))

-- every line is that of such a polynomial
pub only_polynomials : (m : ℕ) (line : List ℕ) → 0 < m → Memᴰ line (behind m)
    → (p : ℕ) × Irreducible p × (degree p ≡ m) × (survey_line p ≡ line)
unfolding survey_lines
only_polynomials m line h b =
    let (p, k, e) = Memᴰ.of_map survey_line (polynomials m) b in
    let (i, d) = (polynomials_exactly m p h).0 k in
    (p, i, d, e)

-- ---- the text

-- `SurveyText` holds of the text of these lines
pub survey_words : (m : ℕ) → 0 < m → SurveyText m (answer_text (survey_lines m))
unfolding survey_lines
survey_words m h =
    record {
      listed = polynomials m;
      is_text = refl;
      ascend = ascends_places (polynomials_ascend m);
      complete = λ p. ((polynomials_exactly m p h).1, (polynomials_exactly m p h).0);
    }

-- and of no other
pub survey_one_text : (m : ℕ) {reply reply' : List ℕ} → SurveyText m reply → SurveyText m reply' → reply ≡ reply'
survey_one_text m s t = s.is_text ∙ ap (λ (l : List ℕ). answer_text ((0 ∷ length l ∷ []) ∷ map survey_line l)) same ∙ sym t.is_text
  where
    rises : {reply : List ℕ} (s : SurveyText m reply) → Ascends 0 s.listed
    rises s = places_ascend 0 s.listed (λ i l. zero-le) s.ascend

    same : s.listed ≡ t.listed
    same =
        ascends_same (rises s) (rises t)
        (λ p. (λ k. (t.complete p).0 ((s.complete p).1 k), λ k. (s.complete p).0 ((t.complete p).1 k)))

-- ---- an accepted survey

module _ (text : List ℕ) (kind : kind_of text ≡ 3) (accepted : (due text).number ≡ 0) where
  is_survey : kind_in text ≡ survey
  unfolding kind_in
  is_survey = sym (kind_survey (kind_of text) kind)

  lines_due : (due text).value ≡ survey_lines (polynomial_of text)
  unfolding survey request_in
  lines_due = due_lines_of text accepted ∙ rw is_survey

  positive : 0 < polynomial_of text
  unfolding survey survey_faults request_in
  positive =
      let e : first_number (survey.faults (request_in text)) ≡ 0 = rw is_survey at (due_passed text accepted) in
      let (range, rest) = first_passed 3 0 (ltb (polynomial_of text) 2 || ltb 8 (polynomial_of text)) _ (λ h. omega arith) e in
      omega (arith, (degree_passed (polynomial_of text) range).0)

  survey_due : SurveyText (polynomial_of text) (answer_text (due text).value)
  survey_due = rw lines_due (survey_words (polynomial_of text) positive)

-- what stands at the start of the lent space
pub survey_answered : {text space after : List ℕ} {number size : ℕ} → Answered text space after number size → kind_of text ≡ 3 → number ≡ 0
    → SurveyText (polynomial_of text) (take size after)
survey_answered {text} a kind z = rw (accepted_text a z) (survey_due text kind (accepted_due a z).0)

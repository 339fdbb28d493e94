-- A well-formed search or walk: none of the faults 1 to 8 is there, so its numbers have passed every test (`passed`, `walk_passed`), and only 9 is
-- left (`only_nine`, `walk_nine`). Assumes nothing.
use mathlib.Core.Path.{◌≡◌, refl, sym, ◌∙◌}
use mathlib.Core.Bool.{Bool, false, not, ◌&&◌}
use mathlib.Core.List.Memᴰ
use mathlib.Core.List.{List, [], ◌∷◌, ◌++◌, Memᴰ}
use Prim.Native.Nat.{ℕ, ◌^◌, ◌<◌}
use lib.Dec.{lit≤}
use Rattle.refusal.specs.Refusals.{fault, first_number, Applies, answer_after}
use Rattle.refusal.proofs.Faults.{most, absent, applies_most, none_first, after_left}
use Rattle.field.specs.Polynomial.{Modulus, degree}
use Rattle.field.specs.Faults.{polynomial_faults}
use Rattle.field.proofs.Calls.{not_too_large}
use Rattle.rows.specs.declared.Family.{Family}
use Rattle.rows.specs.declared.Family.TheVariants.{Hadamard}
use Rattle.rows.specs.Lightest.{Best}
use Rattle.rows.specs.Shape.{shape_of}
use Rattle.rows.specs.Keys.{lightest_row}
use Rattle.rows.specs.Candidates.{some_bad}
use Rattle.cuts.specs.Steps.Families.{OrderOf}
use Rattle.lightest.proofs.LetterCounts.{member_fits}
use Rattle.search.specs.Answer.{is_none, brief_faults, search_faults}
use Rattle.search.proofs.Refusals.{brief_passed, brief_behind}
use Rattle.walk.specs.Answer.{walk_faults}
use Rattle.text.specs.Reading.{in_form, polynomial_of, order_of, values_of}
use Rattle.reply.specs.Due.{best_lines, search, walk, kind_in, request_in, faults_of, due}
use Rattle.answer.specs.Limits.{StatedOf}
use Rattle.answer.specs.Demands.{WellFormedSearch, walk_in, walk_lines_in, WellFormedWalk}
use Rattle.answer.proofs.EveryKind.{kind_is_search, kind_is_walk}
use Rattle.answer.proofs.Limits.{faultless_exactly}

-- a polynomial with a field, an order of a search, and candidates that are elements and not bad
pub record Passed (family : Family) (p n : ℕ) (values : List ℕ) : Type 0 where
  pub modulus : Modulus p
  pub order : OrderOf family n
  pub fits : (a : ℕ) → Memᴰ a values → a < 2 ^ degree p
  pub good : some_bad values ≡ false

-- ---- a text with the faults of a brief, and 9 behind them

module _ (family : Family) (text : List ℕ) where
  abbrev p : ℕ
  p = polynomial_of text

  abbrev n : ℕ
  n = order_of text

  abbrev v : List ℕ
  v = values_of text

  module _ (nine : Bool) (faults : (kind_in text).faults (request_in text) ≡ brief_faults family p n v ++ fault 9 nine ∷ [])
      (faultless : (k : ℕ) → StatedOf text k → ⊥) where
    is_form : not (in_form text) ≡ false
    unfolding faults_of
    is_form = absent (faults_of text) 1 _ (Memᴰ.head refl) (λ a. (faultless_exactly text).0 faultless 1 a (lit≤ tt))

    -- nothing applies to the brief
    brief_none : first_number (brief_faults family p n v) ≡ 0
    unfolding faults_of Applies
    brief_none =
        none_first (brief_faults family p n v)
        (λ k a.
        (faultless_exactly text).0 faultless k (Memᴰ.tail (rw faults (Memᴰ.append_left (fault 9 nine ∷ []) a)))
        (applies_most 8 (brief_faults family p n v) (unfold polynomial_faults most in refl) k a))

    brief_only_nine : due text ≡ answer_after [] (fault 9 nine ∷ []) ((kind_in text).lines (request_in text))
    unfolding due faults_of
    brief_only_nine =
        sym (brief_behind family p n v brief_none [] ((kind_in text).lines (request_in text)) (fault 9 nine ∷ [])
        ∙ (rw (← faults) (after_left [] _ 1 _ _ is_form)))

    brief_is_passed : Passed family p n v
    brief_is_passed =
        let passed = brief_passed family p n v brief_none in
        record { modulus = passed.modulus; order = passed.order; fits = λ a m. not_too_large p a (member_fits p v passed.large a m); good = passed.bad }

-- ---- a search

-- the lightest row over the candidates of a search
abbrev pub best : Family → List ℕ → Best
best family text = lightest_row (shape_of family) (polynomial_of text) (order_of text) (values_of text)

module _ (family : Family) (text : List ℕ) (w : WellFormedSearch family text) where
  search_faults_holds : (kind_in text).faults (request_in text)
      ≡ brief_faults family (polynomial_of text) (order_of text) (values_of text) ++ fault 9 (is_none (best family text)) ∷ []
  unfolding request_in search search_faults
  search_faults_holds = rw (kind_is_search family text w.kind_is) refl

  pub only_nine : due text ≡ answer_after [] (fault 9 (is_none (best family text)) ∷ []) (best_lines (polynomial_of text) (order_of text) (best family text))
  unfolding request_in search
  only_nine = brief_only_nine family text _ search_faults_holds w.faultless ∙ (rw (kind_is_search family text w.kind_is) refl)

  pub passed : Passed family (polynomial_of text) (order_of text) (values_of text)
  passed = brief_is_passed family text _ search_faults_holds w.faultless

-- ---- a walk

module _ (text : List ℕ) (w : WellFormedWalk text) where
  walk_faults_holds : (kind_in text).faults (request_in text)
      ≡ brief_faults Hadamard (polynomial_of text) (order_of text) (values_of text) ++ fault 9 ((walk_in text).finished && is_none (walk_in text).best) ∷ []
  unfolding request_in walk walk_faults
  walk_faults_holds = rw (kind_is_walk text w.kind_is) refl

  pub walk_nine : due text ≡ answer_after [] (fault 9 ((walk_in text).finished && is_none (walk_in text).best) ∷ []) (walk_lines_in text)
  unfolding request_in walk
  walk_nine = brief_only_nine Hadamard text _ walk_faults_holds w.faultless ∙ (rw (kind_is_walk text w.kind_is) refl)

  pub walk_passed : Passed Hadamard (polynomial_of text) (order_of text) (values_of text)
  walk_passed = brief_is_passed Hadamard text _ walk_faults_holds w.faultless

-- What document 01 says of the numbers 1 to 8 under "Who can cause a refusal", of a request text, kind by kind; kinds 4, 5 and 6 by document 02,
-- Two, Six and Seven.
-- Assumes nothing.
use Rattle.std.specs.Prelude.{◌≡◌, ◌≢◌, ◌⊎◌, ℕ, ◌*◌, ◌<◌, length}
use mathlib.Core.List.{List, Memᴰ}
use Rattle.field.specs.Stated.{Stated}
use Rattle.rows.specs.declared.Family.{Family}
use Rattle.rows.specs.declared.Family.TheVariants.{Hadamard}
use Rattle.search.specs.Stated.{StatedFor}
use Rattle.text.specs.Text.{InForm}
use Rattle.text.specs.Reading.{kind_of, polynomial_of, order_of, values_of}
use Rattle.reply.specs.Due.{search_number}

-- a check: order n from 1 to 8, count n·n; zeros and repeats are allowed
abbrev pub CheckStated : ℕ → ℕ → List ℕ → ℕ → Type 0
CheckStated p n values = Stated p ((n < 1) ⊎ (8 < n)) (length values ≢ n * n) (λ a. Memᴰ a values) ⊥

-- a survey
pub data SurveyStated (m order : ℕ) (values : List ℕ) : ℕ → Type 0 where
  -- 3: a degree not in 2 to 8
  wrong_degree : (m < 2) ⊎ (8 < m) → SurveyStated m order values 3
  -- 5: the order is not 0
  order_not_zero : order ≢ 0 → SurveyStated m order values 5
  -- 6: the count is not 0
  count_not_zero : length values ≢ 0 → SurveyStated m order values 6

-- the numbers of line one and the values
pub data RequestStated (kind polynomial order : ℕ) (values : List ℕ) : ℕ → Type 0 where
  -- 2: kind not 1, 2, 3, 4, 5 or 6
  no_kind : kind ≢ 1 → kind ≢ 2 → kind ≢ 3 → kind ≢ 4 → kind ≢ 5 → kind ≢ 6 → RequestStated kind polynomial order values 2
  -- 3 to 8, by the kind; kinds 1 and 5 are searches
  of_search : {k : ℕ} (family : Family) → kind ≡ search_number family → StatedFor family polynomial order values k → RequestStated kind polynomial order values k
  of_check : {k : ℕ} → kind ≡ 2 → CheckStated polynomial order values k → RequestStated kind polynomial order values k
  of_survey : {k : ℕ} → kind ≡ 3 → SurveyStated polynomial order values k → RequestStated kind polynomial order values k
  -- kind 4: 3 to 7 read it as kind 2
  of_gates : {k : ℕ} → kind ≡ 4 → CheckStated polynomial order values k → RequestStated kind polynomial order values k
  -- kind 6: 3 to 8 read it as kind 1
  of_walk : {k : ℕ} → kind ≡ 6 → StatedFor Hadamard polynomial order values k → RequestStated kind polynomial order values k

-- a text
pub data StatedOf (text : List ℕ) : ℕ → Type 0 where
  -- 1: not of the form above, too long, or not as many values as count says
  not_in_form : (InForm text → ⊥) → StatedOf text 1
  -- 2 to 8
  of_request : {k : ℕ} → RequestStated (kind_of text) (polynomial_of text) (order_of text) (values_of text) k → StatedOf text k

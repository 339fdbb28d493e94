-- Demands 1 and 3 of request texts, and what requests Two, Three, Six and Seven promise of them, in the customer's words. Assumes nothing.
use Rattle.std.specs.Prelude.{◌≡◌, ◌↔◌, ◌⊎◌, true, false, ℕ, ◌+◌, ◌*◌, ◌≤◌, ◌<◌, min, length, get_or, take, drop}
use mathlib.Core.List.{List, [], ◌∷◌, ◌++◌, map, Memᴰ}
use Rattle.refusal.specs.Refusals.{Answer, answer}
use Rattle.field.specs.Polynomial.{Irreducible, degree}
use Rattle.lines.specs.Counts.{matrix_count}
use Rattle.gates.specs.Netlist.{Netlist}
use Rattle.rows.specs.declared.Family.{Family}
use Rattle.rows.specs.declared.Family.TheVariants.{Hadamard}
use Rattle.rows.specs.Lightest.{Best, nothing, found}
use Rattle.rows.specs.Walks.{arrangements, Walked, walk_of, lower_bound}
use Rattle.rows.specs.Demands.{count_of_row, Before, FirstOf, TriedBoth, Asks, Demanded}
use Rattle.text.specs.Text.{line_text, answer_text}
use Rattle.text.specs.Reading.{kind_of, polynomial_of, order_of, budget_of, values_of}
use Rattle.reply.specs.Due.{search_number, row_lines, entries_of, survey_line, gate_lines, walk_lines, due}
use Rattle.answer.specs.Limits.{StatedOf}
use Rattle.reply.specs.Answered.{written_at}

-- ---- demand 1

-- two calls of the same request with the same lent space: number, length and every byte are the same
pub record OneAnswer (after after' : List ℕ) (number number' size size' : ℕ) : Type 0 where
  pub one_number : number ≡ number'
  pub one_size : size ≡ size'
  pub one_space : after ≡ after'

-- the answer text stands at the start of the lent space, its length is returned, and the bytes behind it keep their contents
pub record AnswerStands (text space after : List ℕ) (size : ℕ) : Type 0 where
  pub at_start : after ≡ answer_text (due text).value ++ drop size space
  pub is_length : size ≡ length (answer_text (due text).value)

-- what a call leaves in the lent space, by the number that it returns
pub record BytesLeft (text space after : List ℕ) (number size : ℕ) : Type 0 where
  pub as_long : length after ≡ length space
  -- 0: the answer
  pub zero_left : number ≡ 0 → AnswerStands text space after size
  -- 1 to 9: one line with that number, and the bytes behind it keep their contents
  pub line_left : (number ≡ 0 → ⊥) → (number ≡ 10 → ⊥) → 7 ≤ length space → after ≡ line_text (number ∷ []) ++ drop 7 space
  -- 1 to 9 with fewer than seven bytes lent, and 10: no byte changes
  pub few_left : (number ≡ 0 → ⊥) → length space < 7 → after ≡ space
  pub ten_left : number ≡ 10 → after ≡ space

-- two calls of the same request with any two lent spaces, in either order: what the one returns tells what the other returns
pub record AnySpace (space space' after after' : List ℕ) (number number' size size' : ℕ) : Type 0 where
  -- refused with 1 to 9: refused with the same number, whatever space is lent
  pub refused_alike : (number ≡ 0 → ⊥) → (number ≡ 10 → ⊥) → number' ≡ number
  -- accepted: accepted in every space that is as long as the answer, and 10 in every shorter one
  pub accepted_alike : number ≡ 0 → size ≤ length space' → number' ≡ 0
  pub ten_if_shorter : number ≡ 0 → length space' < size → number' ≡ 10
  -- the same number: the same length
  pub same_length : number ≡ number' → size ≡ size'
  -- both accepted: the same answer text, whatever the kind
  pub same_text : number ≡ 0 → number' ≡ 0 → take size after ≡ take size' after'
  -- refused with 1 to 9: the same line, where seven bytes are lent to both
  pub same_line : (number ≡ 0 → ⊥) → (number ≡ 10 → ⊥) → 7 ≤ length space → 7 ≤ length space' → take 7 after ≡ take 7 after'

-- ---- demand 3

-- a well-formed search for matrices of a family: its kind (1 or 5), and none of the numbers 1 to 8 applies
pub record WellFormedSearch (family : Family) (text : List ℕ) : Type 0 where
  pub kind_is : kind_of text ≡ search_number family
  pub faultless : (k : ℕ) → StatedOf text k → ⊥

-- no row over the candidates has what is asked: both properties, or a circulant matrix that is MDS
unfoldable pub NoRow : Family → List ℕ → Type 0
NoRow family text = (r : List ℕ) → Asks family (polynomial_of text) (order_of text) (values_of text) r → ⊥

-- the row that a search demands, and the answer text of a row
abbrev pub DemandedBy : Family → List ℕ → List ℕ → Type 0
DemandedBy family text row = Demanded family (polynomial_of text) (order_of text) (values_of text) row

abbrev pub row_text : List ℕ → List ℕ → List ℕ
row_text text row = answer_text (row_lines (polynomial_of text) (order_of text) row)

-- what is due to a search: the lines of the row demanded; or 9, and no row has what is asked
pub data SearchDue (family : Family) (text : List ℕ) : Answer (List (List ℕ)) → Type 0 where
  row_due : (r : List ℕ) → DemandedBy family text r → SearchDue family text (answer 0 (row_lines (polynomial_of text) (order_of text) r))
  none_due : NoRow family text → SearchDue family text (answer 9 [])

-- there is a row demanded, and its text fits the lent space
pub record RowFits (family : Family) (text space : List ℕ) : Type 0 where
  pub row : List ℕ
  pub demanded : DemandedBy family text row
  pub fits : length (row_text text row) ≤ length space

-- there is a row demanded, and the lent space is shorter than its text
pub record RowTooLong (family : Family) (text space : List ℕ) : Type 0 where
  pub row : List ℕ
  pub demanded : DemandedBy family text row
  pub too_long : length space < length (row_text text row)

-- the text of the row demanded stands at the start of the space, the bytes behind it are as before, and its length is returned
pub record RowStands (family : Family) (text space after : List ℕ) (size : ℕ) : Type 0 where
  pub row : List ℕ
  pub demanded : DemandedBy family text row
  pub at_start : after ≡ row_text text row ++ drop (length (row_text text row)) space
  pub is_length : size ≡ length (row_text text row)

-- what a call returns and leaves for a search
pub record SearchAnswered (family : Family) (text space after : List ℕ) (number size : ℕ) : Type 0 where
  -- 9 for a search, whatever space is lent, exactly if it is well formed and no row over its candidates has what is asked
  pub nine_exactly : ((kind_of text ≡ search_number family) × (number ≡ 9)) ↔ (WellFormedSearch family text × NoRow family text)
  -- 0 for a search exactly if it is well formed and the text of the row demanded fits the space
  pub zero_exactly : ((kind_of text ≡ search_number family) × (number ≡ 0)) ↔ (WellFormedSearch family text × RowFits family text space)
  -- 10 for a search exactly if it is well formed and the space is shorter than that text
  pub ten_exactly : ((kind_of text ≡ search_number family) × (number ≡ 10)) ↔ (WellFormedSearch family text × RowTooLong family text space)
  -- nothing else is returned for a well-formed search
  pub nothing_else : WellFormedSearch family text → (number ≡ 9) ⊎ ((number ≡ 0) ⊎ (number ≡ 10))
  -- with 9 its line is left, where it fits; with 0 the text of that row; with 10 no byte changes
  pub nine_leaves : kind_of text ≡ search_number family → number ≡ 9 → (after ≡ written_at (line_text (9 ∷ [])) space) × (size ≡ 0)
  pub zero_leaves : kind_of text ≡ search_number family → number ≡ 0 → RowStands family text space after size
  pub ten_leaves : kind_of text ≡ search_number family → number ≡ 10 → (after ≡ space) × (size ≡ 0)

-- ---- request Seven

-- the walk that a text asks for: over the rows of different candidates, within its budget
abbrev pub walk_in : List ℕ → Walked
walk_in text = walk_of (polynomial_of text) (order_of text) (values_of text) (budget_of text)

-- the lines of where it stands, and their text
abbrev pub walk_lines_in : List ℕ → List (List ℕ)
walk_lines_in text = walk_lines (polynomial_of text) (order_of text) (values_of text) (walk_in text)

abbrev pub walk_text : List ℕ → List ℕ
walk_text text = answer_text (walk_lines_in text)

-- a well-formed walk: its kind, and none of the numbers 1 to 8 applies
pub record WellFormedWalk (text : List ℕ) : Type 0 where
  pub kind_is : kind_of text ≡ 6
  pub faultless : (k : ℕ) → StatedOf text k → ⊥

-- it is finished, and no row over the candidates has both properties
pub record NoneWalked (text : List ℕ) : Type 0 where
  pub finished : (walk_in text).finished ≡ true
  pub no_row : NoRow Hadamard text

-- a walk that is told by its lines: it is not finished; or it is, and its best row is the row demanded, that of kind 1
pub data Walking (text : List ℕ) : Type 0 where
  not_finished : (walk_in text).finished ≡ false → Walking text
  is_finished : (walk_in text).finished ≡ true → (r : List ℕ) → DemandedBy Hadamard text r → (walk_in text).best ≡ found r → Walking text

-- what is due to a walk: its lines; or 9
pub data WalkDue (text : List ℕ) : Answer (List (List ℕ)) → Type 0 where
  lines_due : Walking text → WalkDue text (answer 0 (walk_lines_in text))
  nine_due : NoneWalked text → WalkDue text (answer 9 [])

-- what a call returns and leaves for a walk
pub record WalkAnswered (text space after : List ℕ) (number size : ℕ) : Type 0 where
  -- 9 for a walk, whatever space is lent, exactly if it is well formed and finished and no row over its candidates has both properties
  pub nine_exactly : ((kind_of text ≡ 6) × (number ≡ 9)) ↔ (WellFormedWalk text × NoneWalked text)
  -- 0 for a walk exactly if it is well formed, told by its lines, and their text fits the space
  pub zero_exactly : ((kind_of text ≡ 6) × (number ≡ 0)) ↔ (WellFormedWalk text × Walking text × (length (walk_text text) ≤ length space))
  -- 10 for a walk exactly if it is well formed, told by its lines, and the space is shorter than their text
  pub ten_exactly : ((kind_of text ≡ 6) × (number ≡ 10)) ↔ (WellFormedWalk text × Walking text × (length space < length (walk_text text)))
  -- nothing else is returned for a well-formed walk
  pub nothing_else : WellFormedWalk text → (number ≡ 9) ⊎ ((number ≡ 0) ⊎ (number ≡ 10))
  -- with 9 its line is left, where it fits; with 0 the text of the walk's lines, and the bytes behind it are as before; with 10 no byte changes
  pub nine_leaves : kind_of text ≡ 6 → number ≡ 9 → (after ≡ written_at (line_text (9 ∷ [])) space) × (size ≡ 0)
  pub zero_leaves : kind_of text ≡ 6 → number ≡ 0 → (after ≡ walk_text text ++ drop size space) × (size ≡ length (walk_text text))
  pub ten_leaves : kind_of text ≡ 6 → number ≡ 10 → (after ≡ space) × (size ≡ 0)

-- the rows of different candidates of a text, in dictionary order
abbrev pub rows_in : List ℕ → List (List ℕ)
rows_in text = arrangements (polynomial_of text) (order_of text) (values_of text)

-- the best row yet: of the rows tried that have both properties the one before every other; none if none of them has
pub data BestYet (text : List ℕ) : Best → Type 0 where
  row_yet : (r : List ℕ) → FirstOf (TriedBoth (polynomial_of text) (order_of text) (values_of text) (budget_of text)) (polynomial_of text) (order_of text) r
      → BestYet text (found r)
  none_yet : ((r : List ℕ) → TriedBoth (polynomial_of text) (order_of text) (values_of text) (budget_of text) r → ⊥) → BestYet text nothing

-- what a walk tells of its rows
pub record WalkTells (text : List ℕ) : Type 0 where
  -- rows tried: as many as the budget says, or all if there are fewer
  pub tried : (walk_in text).rows_tried ≡ min (budget_of text) (length (rows_in text))
  -- finished exactly if every row has been tried
  pub finished_exactly : ((walk_in text).finished ≡ true) ↔ ((walk_in text).rows_tried ≡ length (rows_in text))
  pub best : BestYet text (walk_in text).best
  -- no row of different candidates counts less than the bound
  pub bound : (r : List ℕ) → Memᴰ r (rows_in text)
      → lower_bound (polynomial_of text) (order_of text) (values_of text) ≤ count_of_row (polynomial_of text) (order_of text) r

-- two texts with the same polynomial, order and candidates
pub record SameBrief (text text' : List ℕ) : Type 0 where
  pub polynomial_is : polynomial_of text ≡ polynomial_of text'
  pub order_is : order_of text ≡ order_of text'
  pub values_are : values_of text ≡ values_of text'

-- a walk beside the search of kind 1 with the same brief
pub record AsSearch (walk search : List ℕ) : Type 0 where
  -- 1 to 8 read the walk as the search
  pub stated_alike : (k : ℕ) → StatedOf walk k ↔ StatedOf search k
  -- 9 is due to the walk exactly if it is due to the search and the walk is finished
  pub nine_alike : ((due walk).number ≡ 9) ↔ (((due search).number ≡ 9) × ((walk_in walk).finished ≡ true))
  -- a finished walk's best row is the row of the search
  pub row_alike : (due walk).number ≡ 0 → (walk_in walk).finished ≡ true
      → (r : List ℕ) × ((walk_in walk).best ≡ found r) × (due search ≡ answer 0 (row_lines (polynomial_of walk) (order_of walk) r))

-- a larger budget never worsens the best row: it stays, or one that is before it takes its place
pub record NeverWorse (text larger : List ℕ) : Type 0 where
  pub kept : (r : List ℕ) → (walk_in text).best ≡ found r
      → (r' : List ℕ) × ((walk_in larger).best ≡ found r') × ((r' ≡ r) ⊎ Before (polynomial_of text) (order_of text) r' r)

-- ---- the refusals of demand 1

-- 9: no row of a search has what is asked; of a walk, which has to be finished, both properties
pub data NineStated (text : List ℕ) : Type 0 where
  none_searched : (family : Family) → kind_of text ≡ search_number family → NoRow family text → NineStated text
  none_walked : kind_of text ≡ 6 → NoneWalked text → NineStated text

-- none of the numbers 1 to 9 applies
pub record Faultless (text : List ℕ) : Type 0 where
  pub none_stated : (k : ℕ) → StatedOf text k → ⊥
  pub not_nine : NineStated text → ⊥

-- the number returned is the lowest that applies: of 1 to 8 the lowest that is stated of the text; 9 where none of them is and 9 applies; where
-- none of 1 to 9 applies, 0, or 10 if the lent space is shorter than the answer due
pub data Lowest (text space : List ℕ) (number : ℕ) : Type 0 where
  refused : StatedOf text number → ((k : ℕ) → StatedOf text k → number ≤ k) → Lowest text space number
  none : ((k : ℕ) → StatedOf text k → ⊥) → NineStated text → number ≡ 9 → Lowest text space number
  accepted : Faultless text → length (answer_text (due text).value) ≤ length space → number ≡ 0 → Lowest text space number
  too_short : Faultless text → length space < length (answer_text (due text).value) → number ≡ 10 → Lowest text space number

-- ---- request Two

-- the request's matrix
abbrev pub matrix_in : List ℕ → ℕ → ℕ → ℕ
matrix_in text = entries_of (order_of text) (values_of text)

-- an accepted text of kind 4: the lines are those of the gates of its matrix, of which all holds that is promised; the length is known from the
-- matrix count, and is at most 64 KiB
pub record GatesAnswered (text : List ℕ) : Type 0 where
  pub gates_due : (due text).value ≡ gate_lines (polynomial_of text) (order_of text) (matrix_in text)
  pub promised : Netlist (polynomial_of text) (order_of text) (matrix_in text)
  pub length_is : length (answer_text (due text).value) ≡ 13 + 13 * matrix_count (polynomial_of text) (order_of text) (matrix_in text) + 7 * (order_of text * degree (polynomial_of text))
  pub within : length (answer_text (due text).value) ≤ 65536

-- ---- request Three

-- the text of a survey of degree m: line one with the number of the polynomials, and a line for each of them; they ascend strictly, and are the
-- irreducible ones of the degree, all of them and no other
pub record SurveyText (m : ℕ) (reply : List ℕ) : Type 0 where
  -- the polynomials, in the order of their lines
  pub listed : List ℕ
  pub is_text : reply ≡ answer_text ((0 ∷ length listed ∷ []) ∷ map survey_line listed)
  pub ascend : (i j : ℕ) → i < j → j < length listed → get_or listed i 0 < get_or listed j 0
  pub complete : (p : ℕ) → (Irreducible p × (degree p ≡ m)) ↔ Memᴰ p listed

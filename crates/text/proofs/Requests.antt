-- The theorems on request texts. `written_read`: the text of a request is in form, and its numbers are read back. `read_is_text`:
-- a text in form is the text of what is read. `in_form_exactly`: the test `in_form` decides document 01's form. `one_text`: two
-- requests with the same text are the same numbers. `first_line_holds`: the values stand sixteen to a line.
-- Assumes nothing.
use mathlib.Core.Path.{◌≡◌, refl, sym, ap, ap₂, ◌∙◌, subst⁻¹, subst₂}
use mathlib.Core.Bool.{Bool, true, false, cond, not}
use mathlib.Core.Logic.{◌↔◌}
use mathlib.Core.List.{List, [], ◌∷◌, ◌++◌, append_assoc, append-nil}
use Prim.Native.Nat.{ℕ, zero, suc, ◌+◌, ◌*◌, ◌/◌, ◌%◌, ◌≤◌, ◌<◌}
use native.Mathlib.Nat.{add-zero, not-suc-le-zero}
use native.Mathlib.Decide.{ℕ_discrete}
use native.Mathlib.Omega.{arith}
use lib.ListN.{length, get_or, take, drop, length-append}
use lib.Seq.{drop_at}
use Rattle.std.specs.Prelude.{Ok, Err}
use Rattle.refusal.specs.declared.Refusal.{Refusal}
use Rattle.refusal.specs.Refusals.{number_of, first_number, Answer, answer, unless_refused, answer_after}
use Rattle.refusal.proofs.Faults.{number_not_zero}
use Rattle.text.specs.Text.{column, columns, line_text, line_end, value_text, further_numbers, request_text, SixDigits, InForm}
use Rattle.text.specs.Reading.{number_at, value_at, values_from, numbers_from, kind_of, polynomial_of, order_of, count_of, further_of, budget_of, line_one_length, values_of, rewritten, in_form, says_header, header_answer}
use Rattle.text.specs.declared.Header.{Header}
use Rattle.text.proofs.Numbers.{number_six, value_six, number_back}
use Rattle.text.proofs.Lengths.{length_column, length_line, length_request, length_values_from, end_full, end_last, end_none}
use Rattle.text.proofs.Compare.{same_self}
use Rattle.text.proofs.Form.{six_none, six_more, six_append, six_front, six_back, six_numbers, length_further, behind, form_length, form_same}

-- where value j + 1 begins, if it is there
next_place : (p : List ℕ) (j v n : ℕ) → length p ≡ 6 * j + j / 16 → length (p ++ (column v ++ line_end j (suc n))) ≡ 6 * suc j + suc j / 16
next_place p j v n e = elim (ℕ_discrete (j % 16) 15) [
  | yes d ↦ rw (end_full j (suc n) d) (omega (arith, d, length-append p (column v ++ (10 ∷ [])), length-append (column v) (10 ∷ []), length_column v))
  | no d ↦ rw (end_none j n d) (omega (arith, d, length-append p (column v ++ []), length-append (column v) [], length_column v))
]

-- value j is read back
value_back : (p : List ℕ) (j v : ℕ) (q : List ℕ) → length p ≡ 6 * j + j / 16 → v ≤ 999999 → value_at (p ++ (column v ++ q)) j ≡ v
unfolding value_at
value_back p j v q e h = rw (← e) (number_back p v q h)

-- the values from number j on are read back
values_back : (p : List ℕ) (j : ℕ) (vs : List ℕ) → length p ≡ 6 * j + j / 16 → SixDigits vs → values_from (p ++ value_text j vs) j (length vs) ≡ vs
unfolding values_from value_text SixDigits
values_back p j [] e six = refl
values_back p j (v ∷ []) e six = rw (append-nil, value_back p j v (line_end j 0) e (six 0))
values_back p j (v ∷ w ∷ vs) e six =
    let n = length vs in
    let rest = value_text (suc j) (w ∷ vs) in
    ap₂ (λ (x : ℕ) (l : List ℕ). x ∷ l)
    (rw (append_assoc (column v) (line_end j (suc n)) rest) (value_back p j v (line_end j (suc n) ++ rest) e (six 0)))
    (subst⁻¹ (λ (l : List ℕ). values_from l (suc j) (suc n) ≡ w ∷ vs) (sym (append_assoc p (column v ++ line_end j (suc n)) rest))
    (values_back (p ++ (column v ++ line_end j (suc n))) (suc j) (w ∷ vs) (next_place p j v n e) (λ i. six (suc i))))

-- numbers side by side that stand behind p are read back
numbers_back : (p vs q : List ℕ) → SixDigits vs → numbers_from (p ++ (columns vs ++ q)) (length p) (length vs) ≡ vs
unfolding numbers_from columns SixDigits
numbers_back p [] q six = refl
numbers_back p (v ∷ vs) q six =
    let long : length (p ++ column v) ≡ length p + 6 = length-append p (column v) ∙ rw (length_column v) in
    subst⁻¹ (λ (l : List ℕ). numbers_from (p ++ l) (length p) (suc (length vs)) ≡ v ∷ vs) (append_assoc (column v) (columns vs) q)
    (ap₂ (λ (x : ℕ) (l : List ℕ). x ∷ l) (number_back p v (columns vs ++ q) (six 0))
    (subst₂ (λ (l : List ℕ) (n : ℕ). numbers_from l n (length vs) ≡ vs) (append_assoc p (column v) (columns vs ++ q)) long (numbers_back (p ++ column v) vs q (λ i. six (suc i)))))

-- ---- the text of a request

tail_is : (kind polynomial order : ℕ) (further values : List ℕ) → length further ≡ further_numbers kind
    → drop (line_one_length kind) (request_text kind polynomial order further values) ≡ value_text 0 values
unfolding request_text line_one_length
tail_is k p o fs vs many =
    let numbers = k ∷ p ∷ o ∷ length vs ∷ fs in
    drop_at (line_text numbers) (value_text 0 vs) (25 + 6 * further_numbers k) (omega (arith, length_line numbers))

-- what is read from a text
pub record ReadAs (text : List ℕ) (kind polynomial order : ℕ) (further values : List ℕ) : Type 0 where
  pub kind_is : kind_of text ≡ kind
  pub polynomial_is : polynomial_of text ≡ polynomial
  pub order_is : order_of text ≡ order
  pub count_is : count_of text ≡ length values
  pub further_is : further_of text ≡ further
  pub values_are : values_of text ≡ values

-- the numbers of a request are read back from its text
pub read_back : (kind polynomial order : ℕ) (further values : List ℕ) → length further ≡ further_numbers kind
    → SixDigits (kind ∷ polynomial ∷ order ∷ length values ∷ further ++ values)
    → ReadAs (request_text kind polynomial order further values) kind polynomial order further values
unfolding request_text line_text columns column kind_of polynomial_of order_of count_of further_of values_of SixDigits
read_back k p o fs vs many six =
    let s = request_text k p o fs vs in
    let rest = columns fs ++ (10 ∷ []) ++ value_text 0 vs in
    let n = length vs in
    let kind : kind_of s ≡ k = number_back [] k (column p ++ (column o ++ (column n ++ rest))) (six 0) in
    let count : count_of s ≡ n = number_back (column k ++ column p ++ column o) n rest (six 3) in
    let tail : SixDigits (fs ++ vs) = λ i. six (suc (suc (suc (suc i)))) in
    record {
      kind_is = kind;
      polynomial_is = number_back (column k) p (column o ++ (column n ++ rest)) (six 1);
      order_is = number_back (column k ++ column p) o (column n ++ rest) (six 2);
      count_is = count;
      further_is =
          rw (kind, ← many, append_assoc (columns fs) (10 ∷ []) (value_text 0 vs))
          (numbers_back (column k ++ column p ++ column o ++ column n) fs ((10 ∷ []) ++ value_text 0 vs) (six_front fs vs tail));
      values_are = rw (kind, count, tail_is k p o fs vs many) (values_back [] 0 vs refl (six_back fs vs tail));
    }

pub written_read : (kind polynomial order : ℕ) (further values : List ℕ) → length further ≡ further_numbers kind
    → SixDigits (kind ∷ polynomial ∷ order ∷ length values ∷ further ++ values)
    → length (request_text kind polynomial order further values) ≤ 4096
    → (in_form (request_text kind polynomial order further values) ≡ true)
    × ReadAs (request_text kind polynomial order further values) kind polynomial order further values
unfolding rewritten
written_read k p o fs vs many six short =
    let r = read_back k p o fs vs many six in
    let s = request_text k p o fs vs in
    let again : rewritten s ≡ s = rw (r.kind_is, r.polynomial_is, r.order_is, r.further_is, r.values_are) in
    (form_same s short ∙ rw again (same_self s), r)

pub read_is_text : (text : List ℕ) → in_form text ≡ true
    → text ≡ request_text (kind_of text) (polynomial_of text) (order_of text) (further_of text) (values_of text)
unfolding rewritten
read_is_text s e = (form_length s e).1

six_values : (s : List ℕ) (i n : ℕ) → SixDigits (values_from s i n)
unfolding values_from
six_values s i zero = six_none
six_values s i (suc n) = six_more (values_from s (suc i) n) (value_six s i) (six_values s (suc i) n)

pub in_form_exactly : (text : List ℕ) → (in_form text ≡ true) ↔ InForm text
unfolding kind_of polynomial_of order_of count_of further_of values_of
in_form_exactly s = (decided, true_of)
  where
    decided : in_form s ≡ true → InForm s
    decided e =
        record {
          kind = number_at s 0;
          polynomial = number_at s 6;
          order = number_at s 12;
          further = further_of s;
          values = values_of s;
          as_many = length_further s;
          six =
              six_more _ (number_six s 0)
              (six_more _ (number_six s 6)
              (six_more _ (number_six s 12)
              (six_more _ (rw (length_values_from (behind s) 0 (count_of s)) (number_six s 18))
              (six_append _ _ (six_numbers s 24 _) (six_values (behind s) 0 (count_of s))))));
          is_text = read_is_text s e;
          short = (form_length s e).0;
        }

    true_of : InForm s → in_form s ≡ true
    true_of f =
        rw f.is_text
        (written_read f.kind f.polynomial f.order f.further f.values f.as_many f.six (rw f.is_text at f.short)).0

-- line one, as it is answered
pub header_written : (kind polynomial order : ℕ) (further values : List ℕ) → length further ≡ further_numbers kind
    → SixDigits (kind ∷ polynomial ∷ order ∷ length values ∷ further ++ values)
    → length (request_text kind polynomial order further values) ≤ 4096
    → header_answer (request_text kind polynomial order further values) ≡ answer 0 (kind ∷ polynomial ∷ order ∷ length values ∷ get_or further 0 0 ∷ [])
unfolding header_answer answer_after first_number budget_of
header_written k p o fs vs many six short =
    let (form, r) = written_read k p o fs vs many six short in
    rw (form, r.kind_is, r.polynomial_is, r.order_is, r.count_is, r.further_is)

pub header_read : (text : List ℕ) (h : Header) → says_header (Ok h) ≡ header_answer text
    → (in_form text ≡ true) × (kind_of text ≡ h.kind) × (polynomial_of text ≡ h.polynomial) × (order_of text ≡ h.order) × (count_of text ≡ h.count) × (budget_of text ≡ h.budget)
unfolding header_answer answer_after first_number
header_read s h = go (in_form s)
  where
    go : (t : Bool)
        → answer 0 (h.kind ∷ h.polynomial ∷ h.order ∷ h.count ∷ h.budget ∷ []) ≡ unless_refused [] (cond (not t) 1 0) (kind_of s ∷ polynomial_of s ∷ order_of s ∷ count_of s ∷ budget_of s ∷ [])
        → (t ≡ true) × (kind_of s ≡ h.kind) × (polynomial_of s ≡ h.polynomial) × (order_of s ≡ h.order) × (count_of s ≡ h.count) × (budget_of s ≡ h.budget)
    go true e = let l = ap (λ (a : Answer (List ℕ)). a.value) e in (refl, (cc), (cc), (cc), (cc), (cc))
    go false e = let z : ◌≡◌ {A = ℕ} 0 1 = ap (λ (a : Answer (List ℕ)). a.number) e in let y : ⊥ = omega arith in absurd y

-- only a text that is not in form is refused, and with 1
pub header_refused : (text : List ℕ) (r : Refusal) → says_header (Err r) ≡ header_answer text → (in_form text ≡ false) × (number_of r ≡ 1)
unfolding header_answer answer_after first_number
header_refused s r = go (in_form s)
  where
    go : (t : Bool) → answer (number_of r) [] ≡ unless_refused [] (cond (not t) 1 0) (kind_of s ∷ polynomial_of s ∷ order_of s ∷ count_of s ∷ budget_of s ∷ [])
        → (t ≡ false) × (number_of r ≡ 1)
    go true e = absurd (number_not_zero r (ap (λ (a : Answer (List ℕ)). a.number) e))
    go false e = (refl, ap (λ (a : Answer (List ℕ)). a.number) e)

-- count 0 is line one alone; the longest text has 671 values and 4,093 bytes
pub no_values : (kind polynomial order : ℕ) (further : List ℕ) → request_text kind polynomial order further [] ≡ line_text (kind ∷ polynomial ∷ order ∷ 0 ∷ further)
unfolding request_text value_text
no_values k p o fs = append-nil (line_text (k ∷ p ∷ o ∷ 0 ∷ fs))

pub few_values : (kind polynomial order : ℕ) (further values : List ℕ) → length (request_text kind polynomial order further values) ≤ 4096 → length values ≤ 671
few_values k p o fs vs h = omega (arith, length_request k p o fs vs)

pub longest_text : (kind polynomial order : ℕ) (values : List ℕ) → length values ≡ 671 → length (request_text kind polynomial order [] values) ≡ 4093
longest_text k p o vs e = omega (arith, length_request k p o [] vs)

pub one_text : (kind polynomial order : ℕ) (further values : List ℕ) (kind' polynomial' order' : ℕ) (further' values' : List ℕ)
    → length further ≡ further_numbers kind
    → length further' ≡ further_numbers kind'
    → SixDigits (kind ∷ polynomial ∷ order ∷ length values ∷ further ++ values)
    → SixDigits (kind' ∷ polynomial' ∷ order' ∷ length values' ∷ further' ++ values')
    → request_text kind polynomial order further values ≡ request_text kind' polynomial' order' further' values'
    → (kind ≡ kind') × (polynomial ≡ polynomial') × (order ≡ order') × (further ≡ further') × (values ≡ values')
one_text k p o fs vs k' p' o' fs' vs' many many' six six' e =
    let r = read_back k p o fs vs many six in
    let r' = read_back k' p' o' fs' vs' many' six' in (
      sym r.kind_is ∙ ap kind_of e ∙ r'.kind_is,
      sym r.polynomial_is ∙ ap polynomial_of e ∙ r'.polynomial_is,
      sym r.order_is ∙ ap order_of e ∙ r'.order_is,
      sym r.further_is ∙ ap further_of e ∙ r'.further_is,
      sym r.values_are ∙ ap values_of e ∙ r'.values_are,
    )

-- a value of a text in form, by its number
pub value_of : (s : List ℕ) (j n i : ℕ) → i < n → get_or (values_from s j n) i 0 ≡ value_at s (j + i)
unfolding values_from
value_of s j zero i h = absurd (not-suc-le-zero h)
value_of s j (suc n) zero h = rw add-zero
value_of s j (suc n) (suc i) h = value_of s (suc j) n i (omega arith) ∙ ap (value_at s) (omega arith)

-- ---- sixteen to a line

-- only the place on the line counts
same_place : (i j : ℕ) (vs : List ℕ) → i % 16 ≡ j % 16 → value_text i vs ≡ value_text j vs
unfolding value_text line_end
same_place i j [] e = refl
same_place i j (v ∷ vs) e = rw (e, same_place (suc i) (suc j) vs (omega arith))

line_more : (v : ℕ) (vs rest : List ℕ) → line_text (v ∷ vs) ++ rest ≡ column v ++ (line_text vs ++ rest)
unfolding line_text columns
line_more v vs rest = simp append_assoc

-- a value that does not end its line
value_more : (i v w : ℕ) (vs : List ℕ) → (i % 16 ≡ 15 → ⊥) → value_text i (v ∷ w ∷ vs) ≡ column v ++ value_text (suc i) (w ∷ vs)
unfolding value_text
value_more i v w vs h = rw (end_none i (length vs) h, append-nil (column v))

-- the values from number i on, where the line has room for k + 1 values
line_of : (k i v : ℕ) (vs : List ℕ) → i % 16 + suc k ≡ 16 → value_text i (v ∷ vs) ≡ line_text (take (suc k) (v ∷ vs)) ++ value_text 0 (drop (suc k) (v ∷ vs))
unfolding value_text line_text columns
line_of zero i v vs e = rw (end_full i (length vs) (omega arith), append-nil, same_place (suc i) 0 vs (omega arith))
line_of (suc k) i v [] e = rw (end_last i) (simp append-nil)
line_of (suc k) i v (w ∷ vs) e =
    value_more i v w vs (λ d. omega arith)
    ∙ ap (λ (l : List ℕ). column v ++ l) (line_of k (suc i) w vs (omega arith))
    ∙ sym (line_more v (take (suc k) (w ∷ vs)) (value_text 0 (drop (suc k) (w ∷ vs))))

pub first_line_holds : (v : ℕ) (vs : List ℕ) → value_text 0 (v ∷ vs) ≡ line_text (take 16 (v ∷ vs)) ++ value_text 0 (drop 16 (v ∷ vs))
first_line_holds v vs = line_of 15 0 v vs refl

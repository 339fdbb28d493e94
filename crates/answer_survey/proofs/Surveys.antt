-- The sums of a survey, and its lines. Assumes nothing.
use mathlib.Core.Path.{◌≡◌, refl, sym, ap, ◌∙◌}
use mathlib.Core.Bool.{true}
use mathlib.Core.List.{List, [], ◌∷◌, ◌++◌, map}
use Prim.Native.Nat.{ℕ, suc, ◌+◌, ◌-◌, ◌*◌, ◌^◌, ◌≤◌, ◌<◌}
use native.Mathlib.Nat.{mul-le-mul, le_trans, add_assoc}
use native.Mathlib.Numerals.{add-one}
use native.Mathlib.Omega.{arith}
use borrow.Author.Tests.{leb-true, eqb-true}
use lib.Dec.{lit≤, leb, eqb}
use lib.ListN.{length, length-append, length-drop, get_or, take, drop}
use lib.Seq.{drop-cons, length-take-le, get_or-take, get_or-drop}
use Rattle.field.specs.Polynomial.{Modulus, degree, xor_count}
use Rattle.field.specs.Table.{table, polynomials}
use Rattle.field.specs.Steps.{start_of}
use Rattle.field.proofs.Irreducibility.{every_at}
use Rattle.field.proofs.Completeness.{part, polynomials_part, table_length, table_sound}
use Rattle.field.specs.Steps.{every_below}
use Rattle.field.proofs.Calls.{elements_most}
use Rattle.lines.specs.Counts.{total}
use Rattle.lines.proofs.Tallies.{xor_count_le, total_step, total_le}
use Rattle.text.specs.Text.{line_text, answer_text, SixDigits}
use Rattle.text.proofs.Form.{six_none, six_more}
use Rattle.text.proofs.Lengths.{length_line}
use Rattle.reply.specs.Due.{survey_line, survey_lines}
use Rattle.answer_survey.specs.Steps.TableLines.{table_from, lines_from}

-- the sum of f at 1, 2, .. n
unfoldable pub sum_to : (ℕ → ℕ) → ℕ → ℕ
sum_to f n = total n (λ a. f (suc a))

sum_to_most : (f : ℕ → ℕ) (n k : ℕ) → ((a : ℕ) → f a ≤ k) → sum_to f n ≤ k * n
unfolding sum_to
sum_to_most f n k h = total_le n k (λ a. f (suc a)) (λ a. h (suc a))

sum_to_step : (f : ℕ → ℕ) (n : ℕ) → sum_to f (n + 1) ≡ sum_to f n + f (n + 1)
unfolding sum_to
sum_to_step f n = total_step n (λ a. f (suc a)) ∙ rw add-one

-- the sum at the numbers below a, and at a
pub sum_to_next : (f : ℕ → ℕ) (a : ℕ) → 1 ≤ a → sum_to f (a + 1 - 1) ≡ sum_to f (a - 1) + f a
sum_to_next f a h = go (a - 1) (omega arith)
  where
    go : (n : ℕ) → a ≡ n + 1 → sum_to f (a + 1 - 1) ≡ sum_to f (a - 1) + f a
    go n e =
        let this : n + 1 + 1 - 1 ≡ n + 1 = omega arith in
        let before : n + 1 - 1 ≡ n = omega arith in
        rw (e, this, before) (sum_to_step f n)

-- the square of a count
abbrev pub square : ℕ → ℕ → ℕ
square p a = xor_count p a * xor_count p a

pub square_le : (p a : ℕ) → Modulus p → square p a ≤ 3136
square_le p a h = mul-le-mul (xor_count_le p a h) (xor_count_le p a h)

pub counts_le : (p n : ℕ) → Modulus p → sum_to (xor_count p) n ≤ 56 * n
counts_le p n h = sum_to_most (xor_count p) n 56 (λ a. xor_count_le p a h)

pub squares_le : (p n : ℕ) → Modulus p → sum_to (square p) n ≤ 3136 * n
squares_le p n h = sum_to_most (square p) n 3136 (λ a. square_le p a h)

-- every number of a line fits its columns
pub six_survey : (p : ℕ) → Modulus p → SixDigits (survey_line p)
unfolding survey_line sum_to
six_survey p h =
    let few : 2 ^ degree p - 1 ≤ 255 = omega (arith, elements_most p h) in
    six_more _ (le_trans h.high (lit≤ tt))
    (six_more _ (omega (arith, counts_le p (2 ^ degree p - 1) h))
    (six_more _ (omega (arith, squares_le p (2 ^ degree p - 1) h)) six_none))

-- ---- the table

-- every entry of the table makes a field
pub table_modulus : (i : ℕ) → i < 69 → Modulus (get_or table i 0)
table_modulus i h =
    record {
      low = leb-true 4 (get_or table i 0) (every_at 69 (λ k. leb 4 (get_or table k 0)) low i h);
      high = leb-true (get_or table i 0) 511 (every_at 69 (λ k. leb (get_or table k 0) 511) high i h);
      irreducible = table_sound i h;
    }
  where
    low : every_below 69 (λ k. leb 4 (get_or table k 0)) ≡ true
    low = unfold every_below table in refl

    high : every_below 69 (λ k. leb (get_or table k 0) 511) ≡ true
    high = unfold every_below table in refl

-- where the polynomials of a degree begin and end
pub starts_rise : (m : ℕ) → m ≤ 8 → start_of m ≤ start_of (m + 1)
starts_rise m h = leb-true (start_of m) (start_of (m + 1)) (every_at 9 (λ k. leb (start_of k) (start_of (k + 1))) computed m (omega arith))
  where
    computed : every_below 9 (λ k. leb (start_of k) (start_of (k + 1))) ≡ true
    computed = unfold every_below start_of in refl

pub start_most : (m : ℕ) → m ≤ 9 → start_of m ≤ 69
start_most m h = leb-true (start_of m) 69 (every_at 10 (λ k. leb (start_of k) 69) computed m (omega arith))
  where
    computed : every_below 10 (λ k. leb (start_of k) 69) ≡ true
    computed = unfold every_below start_of in refl

-- at most 30 polynomials of a degree
pub starts_few : (m : ℕ) → m ≤ 8 → start_of (m + 1) - start_of m ≤ 30
starts_few m h = leb-true (start_of (m + 1) - start_of m) 30 (every_at 9 (λ k. leb (start_of (k + 1) - start_of k) 30) computed m (omega arith))
  where
    computed : every_below 9 (λ k. leb (start_of (k + 1) - start_of k) 30) ≡ true
    computed = unfold every_below start_of in refl

-- the constant of the code
starts : List ℕ
starts = 0 ∷ 0 ∷ 0 ∷ 1 ∷ 3 ∷ 6 ∷ 12 ∷ 21 ∷ 39 ∷ 69 ∷ []

pub start_same : (m : ℕ) → m ≤ 9 → get_or (0 ∷ 0 ∷ 0 ∷ 1 ∷ 3 ∷ 6 ∷ 12 ∷ 21 ∷ 39 ∷ 69 ∷ []) m 0 ≡ start_of m
unfolding starts
start_same m h = eqb-true (get_or starts m 0) (start_of m) (every_at 10 (λ k. eqb (get_or starts k 0) (start_of k)) computed m (omega arith))
  where
    computed : every_below 10 (λ k. eqb (get_or starts k 0) (start_of k)) ≡ true
    computed = unfold every_below start_of in refl

-- ---- the lines

polynomials_are : (m : ℕ) → 2 ≤ m → m ≤ 8 → polynomials m ≡ table_from (start_of m) (start_of (m + 1))
unfolding part table_from
polynomials_are m l u = polynomials_part m l u ∙ ap (λ (k : ℕ). take (start_of k - start_of m) (drop (start_of m) table)) (sym (add-one m))

table_next : (i e : ℕ) → i < e → e ≤ 69 → table_from i e ≡ get_or table i 0 ∷ table_from (i + 1) e
unfolding table_from
table_next i e h l =
    let more : e - i ≡ suc (e - (i + 1)) = omega arith in
    rw (more, drop-cons table i 0 (omega (arith, table_length)), add-one)

pub length_table : (i e : ℕ) → e ≤ 69 → length (table_from i e) ≡ e - i
unfolding table_from
length_table i e l = length-take-le (e - i) (drop i table) (omega (arith, length-drop i table, table_length))

length_each : (ps : List ℕ) → length (answer_text (map survey_line ps)) ≡ 19 * length ps
unfolding answer_text survey_line
length_each [] = refl
length_each (p ∷ ps) =
    omega (arith, length-append (line_text (survey_line p)) (answer_text (map survey_line ps)), length_line (survey_line p), length_each ps)

pub length_lines : (i e : ℕ) → e ≤ 69 → length (lines_from i e) ≡ 19 * (e - i)
unfolding lines_from
length_lines i e l = length_each (table_from i e) ∙ ap (λ (k : ℕ). 19 * k) (length_table i e l)

lines_next : (i e : ℕ) → i < e → e ≤ 69 → lines_from i e ≡ line_text (survey_line (get_or table i 0)) ++ lines_from (i + 1) e
unfolding lines_from answer_text
lines_next i e h l = rw (table_next i e h l)

pub lines_end : (i e : ℕ) → e ≤ i → lines_from i e ≡ []
unfolding lines_from table_from answer_text
lines_end i e h = let none : e - i ≡ 0 = omega arith in rw none

-- a place of a part of the table, with `first` places before the part
pub part_at : (first last i : ℕ) → i < last - first → get_or (table_from first last) i 0 ≡ get_or table (first + i) 0
unfolding table_from
part_at first last i h = rw (get_or-take (last - first) (drop first table) i 0 h, get_or-drop first table i 0)

pub part_modulus : (first last i : ℕ) → last ≤ 69 → i < last - first → Modulus (get_or (table_from first last) i 0)
part_modulus first last i l h = rw (part_at first last i h) (table_modulus (first + i) (omega arith))

pub part_next : (first last i : ℕ) → last ≤ 69 → i < last - first
    → lines_from (first + i) last ≡ line_text (survey_line (get_or (table_from first last) i 0)) ++ lines_from (first + (i + 1)) last
part_next first last i l h = rw (part_at first last i h, ← add_assoc first i 1) (lines_next (first + i) last (omega arith) l)

-- the whole survey: line one, and the lines behind it
pub survey_text : (m : ℕ) → 2 ≤ m → m ≤ 8
    → answer_text (survey_lines m) ≡ line_text (0 ∷ (start_of (m + 1) - start_of m) ∷ []) ++ lines_from (start_of m) (start_of (m + 1))
unfolding survey_lines answer_text lines_from
survey_text m l u =
    rw (polynomials_are m l u, length_table (start_of m) (start_of (m + 1)) (start_most (m + 1) (omega arith)))

pub survey_length : (m : ℕ) → 2 ≤ m → m ≤ 8 → length (answer_text (survey_lines m)) ≡ 13 + 19 * (start_of (m + 1) - start_of m)
survey_length m l u =
    let first : List ℕ = 0 ∷ (start_of (m + 1) - start_of m) ∷ [] in
    rw (survey_text m l u)
    (omega (
      arith,
      length-append (line_text first) (lines_from (start_of m) (start_of (m + 1))),
      length_line first,
      length_lines (start_of m) (start_of (m + 1)) (start_most (m + 1) (omega arith)),
    ))

pub polynomials_few : (m : ℕ) → 2 ≤ m → m ≤ 8 → length (polynomials m) ≤ 30
polynomials_few m l u =
    rw (polynomials_are m l u, length_table (start_of m) (start_of (m + 1)) (start_most (m + 1) (omega arith))) (starts_few m u)

pub polynomials_modulus : (m : ℕ) → 2 ≤ m → m ≤ 8 → (i : ℕ) → i < length (polynomials m) → Modulus (get_or (polynomials m) i 0)
unfolding table_from
polynomials_modulus m l u i h =
    let first = start_of m in
    let last = start_of (m + 1) in
    let most = start_most (m + 1) (omega arith) in
    rw (polynomials_are m l u) (part_modulus first last i most (rw (polynomials_are m l u, length_table first last most) at h))

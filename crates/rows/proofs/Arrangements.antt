-- The rows of different candidates: which they are, that they stand in dictionary order, how the place of one leads to that of the next, and
-- how many they are at most.
-- Assumes nothing.
use mathlib.Core.Path.{◌≡◌, refl, sym, ap, ◌∙◌}
use mathlib.Core.Logic.{◌↔◌, ◌⊎◌, inl, inr, ⊎_elim}
use mathlib.Core.Bool.{Bool, true, false, not, ◌||◌, true≢false}
use mathlib.Core.List.Memᴰ
use mathlib.Core.List.{List, [], ◌∷◌, Memᴰ}
use Prim.Native.Nat.{ℕ, zero, suc, ◌-◌, ◌*◌, ◌^◌, ◌≤◌, ◌<◌}
use native.Mathlib.Decide.{dec_lt}
use native.Mathlib.Nat.{le_refl, le_trans, lt_of_le_of_lt, zero-mul, suc-mul, add_comm, pow-zero, pow-succ', pow-le-pow_left, pow-le-pow_right}
use native.Mathlib.Omega.{arith}
use lib.Dec.{lit<}
use lib.ListN.{length, get_or, take, length-map, length-append, length-take}
use lib.Seq.{get_or-take, take-take}
use borrow.Author.Tests.{not-true}
use Rattle.algebra.specs.Matrix.{before, words}
use Rattle.field.specs.Polynomial.{degree}
use Rattle.rows.specs.Lightest.{Earlier, member, rows_over}
use Rattle.rows.specs.Candidates.{some_repeated}
use Rattle.rows.specs.Walks.{keep_row_if, differing, arrangements}
use Rattle.rows.proofs.Rows.{Sorted, end, then, earlier_asym, earlier_irrefl, sorted_words, sorted_rows, mem_words, mem_place, mem_at, get_d_mem, not_passed, member_mem}
use Rattle.rows.proofs.FewCandidates.{different_le, different_over}

-- ---- which rows they are

-- what stands in a list with a conditional head
kept_cases : (t : Bool) (row x : List ℕ) (rest : List (List ℕ)) → Memᴰ x (keep_row_if t row rest) → ((t ≡ true) × (x ≡ row)) ⊎ Memᴰ x rest
kept_cases true row x rest m = ⊎_elim (λ e. inl (refl, e)) (λ k. inr k) (Memᴰ.cases_cons m)
kept_cases false row x rest m = inr m

kept_head : (t : Bool) (row x : List ℕ) (rest : List (List ℕ)) → t ≡ false → x ≡ row → Memᴰ x (keep_row_if (not t) row rest)
kept_head t row x rest h e = rw h (Memᴰ.head e)

kept_rest : (t : Bool) (row x : List ℕ) (rest : List (List ℕ)) → Memᴰ x rest → Memᴰ x (keep_row_if t row rest)
kept_rest true row x rest m = Memᴰ.tail m
kept_rest false row x rest m = m

from_differing : (rows : List (List ℕ)) (r : List ℕ) → Memᴰ r (differing rows) → Memᴰ r rows × (some_repeated r ≡ false)
unfolding differing
from_differing [] r m = absurd (Memᴰ.not-nil m)
from_differing (row ∷ rest) r m =
    ⊎_elim (λ h. (Memᴰ.head h.1, ap some_repeated h.1 ∙ not-true (some_repeated row) h.0))
    (λ k. let (i, e) = from_differing rest r k in (Memᴰ.tail i, e))
    (kept_cases (not (some_repeated row)) row r (differing rest) m)

to_differing : {r : List ℕ} {rows : List (List ℕ)} → Memᴰ r rows → some_repeated r ≡ false → Memᴰ r (differing rows)
unfolding differing
to_differing {r = r} (Memᴰ.head {x = row} {xs = rest} e) f = kept_head (some_repeated row) row r (differing rest) (ap some_repeated (sym e) ∙ f) e
to_differing {r = r} (Memᴰ.tail {x = row} {xs = rest} m) f = kept_rest (not (some_repeated row)) row r (differing rest) (to_differing m f)

-- the rows kept are those without a repeated entry
pub mem_differing : (rows : List (List ℕ)) (r : List ℕ) → Memᴰ r (differing rows) ↔ (Memᴰ r rows × (some_repeated r ≡ false))
mem_differing rows r = (from_differing rows r, λ h. to_differing h.0 h.1)

pub mem_arrangements : (p n : ℕ) (cs r : List ℕ)
    → Memᴰ r (arrangements p n cs) ↔ (Memᴰ r (rows_over (2 ^ degree p) cs n) × (some_repeated r ≡ false))
unfolding arrangements
mem_arrangements p n cs r = mem_differing (rows_over (2 ^ degree p) cs n) r

-- the same over any letters
pub mem_arranged : (letters : List ℕ) (n : ℕ) (r : List ℕ)
    → Memᴰ r (differing (words letters n)) ↔ ((length r ≡ n) × ((a : ℕ) → Memᴰ a r → Memᴰ a letters) × (some_repeated r ≡ false))
mem_arranged letters n r = (
  λ m. let (i, e) = (mem_differing (words letters n) r).0 m in let (l, over) = (mem_words letters n r).0 i in (l, over, e),
  λ (l, over, e). (mem_differing (words letters n) r).1 ((mem_words letters n r).1 (l, over), e),
)

-- ---- no entry repeated

-- none of two tests passes
or_none : (a b : Bool) → (a || b) ≡ false → (a ≡ false) × (b ≡ false)
or_none true b e = absurd (true≢false e)
or_none false b e = (refl, e)

none_repeated : (r : List ℕ) → some_repeated r ≡ false → (i j : ℕ) → i < length r → j < length r → get_or r i 0 ≡ get_or r j 0 → i ≡ j
unfolding some_repeated
none_repeated [] e i j l k q = absurd (omega arith)
none_repeated (a ∷ r) e zero zero l k q = refl
none_repeated (a ∷ r) e zero (suc j) l k q =
    absurd (true≢false (sym ((member_mem a r).1 (Memᴰ.cast q (get_d_mem r j 0 (omega arith)))) ∙ (or_none (member a r) (some_repeated r) e).0))
none_repeated (a ∷ r) e (suc i) zero l k q =
    absurd (true≢false (sym ((member_mem a r).1 (Memᴰ.cast (sym q) (get_d_mem r i 0 (omega arith)))) ∙ (or_none (member a r) (some_repeated r) e).0))
none_repeated (a ∷ r) e (suc i) (suc j) l k q = ap suc (none_repeated r (or_none (member a r) (some_repeated r) e).1 i j (omega arith) (omega arith) q)

repeated_none : (r : List ℕ) → ((i j : ℕ) → i < length r → j < length r → get_or r i 0 ≡ get_or r j 0 → i ≡ j) → some_repeated r ≡ false
unfolding some_repeated
repeated_none [] h = refl
repeated_none (a ∷ r) h =
    let new : member a r ≡ false = not_passed (member a r) (λ t. let (j, l, e) = mem_at r a ((member_mem a r).0 t) in omega (arith, h 0 (suc j) (omega arith) (omega arith) (sym e))) in
    ap (λ t. t || some_repeated r) new ∙ repeated_none r (λ i j l k e. omega (arith, h (suc i) (suc j) (omega arith) (omega arith) e))

-- no entry stands more than one time exactly if the entries differ
pub repeated_exactly : (r : List ℕ) → (some_repeated r ≡ false) ↔ ((i j : ℕ) → i < length r → j < length r → get_or r i 0 ≡ get_or r j 0 → i ≡ j)
repeated_exactly r = (none_repeated r, repeated_none r)

-- ---- their order

sorted_kept : (t : Bool) {x : List ℕ} {rest : List (List ℕ)} → ((y : List ℕ) → Memᴰ y rest → Earlier x y) → Sorted Earlier rest
    → Sorted Earlier (keep_row_if t x rest)
sorted_kept true h s = then h s
sorted_kept false h s = s

-- rows in dictionary order stay so where some are left out
pub sorted_differing : {rows : List (List ℕ)} → Sorted Earlier rows → Sorted Earlier (differing rows)
unfolding differing
sorted_differing end = end
sorted_differing (then {x = x} {xs = xs} p s) =
    sorted_kept (not (some_repeated x)) (λ y m. p y ((mem_differing xs y).0 m).0) (sorted_differing s)

pub sorted_arranged : {letters : List ℕ} → Sorted ◌<◌ letters → (n : ℕ) → Sorted Earlier (differing (words letters n))
sorted_arranged s n = sorted_differing (sorted_words s n)

pub sorted_arrangements : (p n : ℕ) (cs : List ℕ) → Sorted Earlier (arrangements p n cs)
unfolding arrangements
sorted_arrangements p n cs = sorted_differing (sorted_rows (2 ^ degree p) cs n)

-- ---- places in a sorted list

module _ {A : Type 0} where
  -- a member of the first t is a member
  pub take_mem : (t : ℕ) (xs : List A) (x : A) → Memᴰ x (take t xs) → Memᴰ x xs
  take_mem zero xs x m = absurd (Memᴰ.not-nil m)
  take_mem (suc t) [] x m = absurd (Memᴰ.not-nil m)
  take_mem (suc t) (y ∷ xs) x m = ⊎_elim (λ e. Memᴰ.head e) (λ k. Memᴰ.tail (take_mem t xs x k)) (Memᴰ.cases_cons m)

  -- and of more of them
  pub take_wider : {b c : ℕ} → b ≤ c → (xs : List A) (x : A) → Memᴰ x (take b xs) → Memᴰ x (take c xs)
  take_wider {b} {c} l xs x m = take_mem b (take c xs) x (rw (take-take b c xs l) m)

module _ {A : Type 0} {R : A → A → Type 0} where
  -- what stands at an earlier place is before what stands at a later one
  pub sorted_at : {xs : List A} → Sorted R xs → (d : A) (i j : ℕ) → i < j → j < length xs → R (get_or xs i d) (get_or xs j d)
  sorted_at end d i j l k = absurd (omega arith)
  sorted_at (then {x = x} {xs = xs} p s) d i zero l k = absurd (omega arith)
  sorted_at (then {x = x} {xs = xs} p s) d zero (suc j) l k = p (get_or xs j d) (get_d_mem xs j d (omega arith))
  sorted_at (then {x = x} {xs = xs} p s) d (suc i) (suc j) l k = sorted_at s d i j (omega arith) (omega arith)

  -- the first t of a sorted list are sorted
  pub sorted_take : (t : ℕ) {xs : List A} → Sorted R xs → Sorted R (take t xs)
  sorted_take zero s = end
  sorted_take (suc t) end = end
  sorted_take (suc t) (then {x = x} {xs = xs} p s) = then (λ y m. p y (take_mem t xs y m)) (sorted_take t s)

module _ {rows : List (List ℕ)} (sorted : Sorted Earlier rows) where
  -- rows at two places, the first earlier than the second
  place_lt : (r s : List ℕ) (i j : ℕ) → i < length rows → j < length rows → get_or rows i [] ≡ r → get_or rows j [] ≡ s → Earlier r s → i < j
  place_lt r s i j l k e f h = elim (dec_lt i j) [
    | yes m ↦ m
    | no m ↦ elim (dec_lt j i) [
      | yes q ↦ absurd (earlier_asym h (rw (← e, ← f) (sorted_at sorted [] j i q l)))
      | no q ↦ let same : i ≡ j = omega arith in absurd (earlier_irrefl (rw (sym e ∙ ap (λ (k : ℕ). get_or rows k []) same ∙ f) at h))
    ]
  ]

  -- a row that none is earlier than is the first
  pub sorted_first : (s : List ℕ) → Memᴰ s rows → ((x : List ℕ) → Memᴰ x rows → Earlier x s → ⊥) → (0 < length rows) × (get_or rows 0 [] ≡ s)
  sorted_first s m least =
      let (i, l, e) = mem_place rows [] s m in
      (omega arith, first i l e)
    where
      first : (i : ℕ) → i < length rows → get_or rows i [] ≡ s → get_or rows 0 [] ≡ s
      first zero l e = e
      first (suc i) l e =
          absurd (least (get_or rows 0 []) (get_d_mem rows 0 [] (omega arith)) (rw (← e) (sorted_at sorted [] 0 (suc i) (omega arith) l)))

  module _ (t : ℕ) (r : List ℕ) (inside : t < length rows) (here : get_or rows t [] ≡ r) where
    -- a later row with none between stands at the next place
    pub sorted_next : (s : List ℕ) → Memᴰ s rows → Earlier r s → ((x : List ℕ) → Memᴰ x rows → Earlier r x → Earlier x s → ⊥)
        → (suc t < length rows) × (get_or rows (suc t) [] ≡ s)
    sorted_next s m h least =
        let (i, l, e) = mem_place rows [] s m in
        next i l e (place_lt r s t i inside l here e h)
      where
        next : (i : ℕ) → i < length rows → get_or rows i [] ≡ s → t < i → (suc t < length rows) × (get_or rows (suc t) [] ≡ s)
        next i l e k = elim (dec_lt (suc t) i) [
          | yes q ↦ absurd (least (get_or rows (suc t) []) (get_d_mem rows (suc t) [] (omega arith)) (rw (← here) (sorted_at sorted [] t (suc t) (omega arith) (omega arith)))
              (rw (← e) (sorted_at sorted [] (suc t) i q l)))
          | no q ↦ let same : suc t ≡ i = omega arith in (omega arith, ap (λ (k : ℕ). get_or rows k []) same ∙ e)
        ]

    -- a row that is earlier than none is the last
    pub sorted_last : ((x : List ℕ) → Memᴰ x rows → Earlier r x → ⊥) → suc t ≡ length rows
    sorted_last none = elim (dec_lt (suc t) (length rows)) [
      | yes q ↦ absurd (none (get_or rows (suc t) []) (get_d_mem rows (suc t) [] q) (rw (← here) (sorted_at sorted [] t (suc t) (omega arith) q)))
      | no q ↦ omega arith
    ]

  -- a row earlier than one of the first t is one of them
  pub take_down : (t : ℕ) (x y : List ℕ) → Memᴰ x rows → Memᴰ y (take t rows) → Earlier x y → Memᴰ x (take t rows)
  take_down t x y m k h =
      let (i, l, e) = mem_place rows [] x m in
      let (j, q, f) = mem_place (take t rows) [] y k in
      let size = length-take t rows in
      let less : i < j = place_lt x y i j l (omega arith) e (sym (get_or-take t rows j [] (omega arith)) ∙ f) h in
      Memᴰ.cast (sym (get_or-take t rows i [] (omega arith) ∙ e)) (get_d_mem (take t rows) i [] (omega arith))

-- ---- how many they are

-- a row of different letters is not longer than their list
pub different_few : (letters r : List ℕ) → some_repeated r ≡ false → ((a : ℕ) → Memᴰ a r → Memᴰ a letters) → length r ≤ length letters
different_few letters r e over = different_over (length r) letters r refl over ((repeated_exactly r).0 e)

-- a list without members is empty
empty : (rows : List (List ℕ)) → ((r : List ℕ) → Memᴰ r rows → ⊥) → rows ≡ []
empty [] h = refl
empty (r ∷ rows) h = absurd (h r (Memᴰ.head refl))

-- with fewer letters than places there is none
pub few_arranged : (letters : List ℕ) (n : ℕ) → length letters < n → differing (words letters n) ≡ []
few_arranged letters n few =
    empty (differing (words letters n)) λ r m.
    let (l, over, e) = (mem_arranged letters n r).0 m in
    omega (arith, different_few letters r e over)

-- rows left out
differing_most : (rows : List (List ℕ)) → length (differing rows) ≤ length rows
unfolding differing
differing_most [] = le_refl 0
differing_most (row ∷ rest) = one (not (some_repeated row)) (differing_most rest)
  where
    one : (t : Bool) → length (differing rest) ≤ length rest → length (keep_row_if t row (differing rest)) ≤ suc (length rest)
    one true h = omega arith
    one false h = omega arith

length_before : (letters : List ℕ) (ws : List (List ℕ)) → length (before letters ws) ≡ length letters * length ws
unfolding before
length_before [] ws = sym (zero-mul (length ws))
length_before (a ∷ letters) ws = rw (length-append, length-map, length_before letters ws, suc-mul) (add_comm (length ws) (length letters * length ws))

length_words : (letters : List ℕ) (n : ℕ) → length (words letters n) ≡ length letters ^ n
unfolding words
length_words letters zero = sym (pow-zero (length letters))
length_words letters (suc n) = length_before letters (words letters n) ∙ (rw (length_words letters n, pow-succ'))

-- they are not more than all rows
pub arranged_most : (letters : List ℕ) (n : ℕ) → length (differing (words letters n)) ≤ length letters ^ n
arranged_most letters n = rw (← length_words letters n) (differing_most (words letters n))

-- ascending positive letters below 256 are at most 255
bytes_most : {letters : List ℕ} → Sorted ◌<◌ letters → ((a : ℕ) → Memᴰ a letters → (0 < a) × (a < 256)) → length letters ≤ 255
bytes_most {letters} ascends bytes =
    different_le (length letters) 255 (λ i l. get_or letters i 0 - 1) (λ i l. let (more, less) = byte i l in omega arith) λ i j l k e.
    let (more, _) = byte i l in
    let (more', _) = byte j k in
    elim (dec_lt i j) [
      | yes m ↦ absurd (let h = sorted_at ascends 0 i j m k in omega arith)
      | no m ↦ elim (dec_lt j i) [
        | yes q ↦ absurd (let h = sorted_at ascends 0 j i q l in omega arith)
        | no q ↦ omega arith
      ]
    ]
  where
    byte : (i : ℕ) → i < length letters → (0 < get_or letters i 0) × (get_or letters i 0 < 256)
    byte i l = bytes (get_or letters i 0) (get_d_mem letters i 0 l)

-- so at most eight places of a row leave fewer than 2^64 rows
pub arranged_fits : {letters : List ℕ} → Sorted ◌<◌ letters → ((a : ℕ) → Memᴰ a letters → (0 < a) × (a < 256)) → (n : ℕ) → n ≤ 8
    → length (differing (words letters n)) < 2 ^ 64
arranged_fits {letters} ascends bytes n few =
    lt_of_le_of_lt (le_trans (arranged_most letters n) (pow-le-pow_left (bytes_most ascends bytes) n))
    (lt_of_le_of_lt (pow-le-pow_right {n = 255} (lit< tt) few) (lit< tt))

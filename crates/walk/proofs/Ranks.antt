-- The ranks of ascending letters: how many are below a number. Assumes nothing.
use mathlib.Core.Path.{◌≡◌, refl, sym, ap, ap₂, subst, ◌∙◌}
use mathlib.Core.Bool.{Bool, true, false, cond, not, ◌||◌}
use mathlib.Core.List.Memᴰ
use mathlib.Core.List.{List, [], ◌∷◌, Memᴰ}
use mathlib.Core.Logic.{⊎_elim}
use Prim.Native.Nat.{ℕ, zero, suc, ◌+◌, ◌-◌, ◌≤◌, ◌<◌, zero-le}
use native.Mathlib.Decide.{dec_lt}
use native.Mathlib.Omega.{arith}
use lib.Dec.{eqb, ltb}
use lib.ListN.{length, get_or, take, drop}
use lib.Seq.{take_all}
use Rattle.std.proofs.Common.{length-drop}
use borrow.Author.Tests.{ltb-true, ltb-false, lt-ltb, le-ltb, eq-eqb, eqb-true}
use Rattle.std.specs.Prelude.{Option, MatchOption}
use Rattle.std.specs.declared.option.Option.TheVariants.{Some, None}
use Rattle.std.specs.Option.{unwrap_or}
use Rattle.std.specs.List.{find, list_any}
use Rattle.algebra.proofs.Words.{get_d_tabulate}
use Rattle.algebra.proofs.Symmetry.{same_bool}
use Rattle.rows.proofs.Rows.{Sorted, end, then, mem_at}
use Rattle.rows.proofs.Arrangements.{sorted_at}
use Rattle.rows.specs.Lightest.{member}
use Rattle.walk.specs.Steps.Successors.{count_below, rank_table, Ascend, Ranked, free_above}

-- ascending by places, and as a sorted list
pub ascend_sorted : (l : List ℕ) → Ascend l → Sorted ◌<◌ l
unfolding Ascend
ascend_sorted [] h = end
ascend_sorted (x ∷ l) h =
    then {x = x} (λ y m. let (i, k, e) = mem_at l y m in let z = h 0 (suc i) (omega arith) (omega arith) in omega arith)
    (ascend_sorted l (λ i j k m. h (suc i) (suc j) (omega arith) (omega arith)))

pub sorted_ascend : {l : List ℕ} → Sorted ◌<◌ l → Ascend l
unfolding Ascend
sorted_ascend s i j h k = sorted_at s 0 i j h k

-- ---- how many letters are below a number

module _ (a : ℕ) where
  -- not more than there are
  pub below_most : (l : List ℕ) → count_below l a ≤ length l
  unfolding count_below
  below_most [] = zero-le
  below_most (x ∷ l) = go (ltb x a) (below_most l)
    where
      go : (t : Bool) → count_below l a ≤ length l → cond t (suc (count_below l a)) 0 ≤ suc (length l)
      go true h = omega arith
      go false h = zero-le

  -- those before that place are below it
  pub below_before : (l : List ℕ) (j : ℕ) → j < count_below l a → get_or l j 0 < a
  unfolding count_below
  below_before [] j h = absurd (omega arith)
  below_before (x ∷ l) j h = go (ltb x a) refl j h (below_before l)
    where
      go : (t : Bool) → ltb x a ≡ t → (j : ℕ) → j < cond t (suc (count_below l a)) 0 → ((j : ℕ) → j < count_below l a → get_or l j 0 < a) → get_or (x ∷ l) j 0 < a
      go true e zero h rest = ltb-true x a e
      go true e (suc j) h rest = rest j (omega arith)
      go false e j h rest = absurd (omega arith)

  -- and those behind are not, where the letters ascend
  pub below_behind : {l : List ℕ} → Sorted ◌<◌ l → (j : ℕ) → count_below l a ≤ j → j < length l → a ≤ get_or l j 0
  unfolding count_below
  below_behind end j h k = absurd (omega arith)
  below_behind (then {x = x} {xs = l} p s) j h k = go (ltb x a) refl j h k (below_behind s)
    where
      go : (t : Bool) → ltb x a ≡ t → (j : ℕ) → cond t (suc (count_below l a)) 0 ≤ j → j < suc (length l)
          → ((j : ℕ) → count_below l a ≤ j → j < length l → a ≤ get_or l j 0) → a ≤ get_or (x ∷ l) j 0
      go true e zero h k rest = absurd (omega arith)
      go true e (suc j) h k rest = rest j (omega arith) (omega arith)
      go false e zero h k rest = ltb-false x a e
      go false e (suc j) h k rest = let z = sorted_at (then p s) 0 0 (suc j) (omega arith) k in omega (arith, ltb-false x a e)

-- no letter is below 0
pub below_none : (l : List ℕ) → count_below l 0 ≡ 0
below_none l = elim (dec_lt 0 (count_below l 0)) [ yes h ↦ absurd (let z = below_before 0 l 0 h in omega arith) | no h ↦ omega arith ]

-- the place is the only such
module _ {l : List ℕ} (s : Sorted ◌<◌ l) (a i : ℕ) where
  below_is : i ≤ length l → ((j : ℕ) → j < i → get_or l j 0 < a) → (i < length l → a ≤ get_or l i 0) → i ≡ count_below l a
  below_is h before behind = elim (dec_lt i (count_below l a)) [
    | yes k ↦ absurd (omega (arith, below_before a l i k, behind (omega (arith, below_most a l))))
    | no k ↦ elim (dec_lt (count_below l a) i) [
      | yes m ↦ absurd (omega (arith, before (count_below l a) m, below_behind a s (count_below l a) (omega arith) (omega arith)))
      | no m ↦ omega arith
    ]
  ]

  module _ (is : i ≡ count_below l a) where
    most : i ≤ length l
    most = let h = below_most a l in omega arith

    front : (j : ℕ) → j < i → get_or l j 0 < a
    front j h = below_before a l j (omega arith)

    back : i < length l → a ≤ get_or l i 0
    back h = below_behind a s i (omega arith) h

-- the next number: the letter at the place is the number, or it is larger, or there is none
module _ {l : List ℕ} (s : Sorted ◌<◌ l) (a i : ℕ) (is : i ≡ count_below l a) where
  pub next_letter : i < length l → get_or l i 0 ≡ a → i + 1 ≡ count_below l (suc a)
  next_letter h e =
      below_is s (suc a) (i + 1) (omega arith)
      (λ j k. elim (dec_lt j i) [ yes m ↦ let z = front s a i is j m in omega arith | no m ↦ let z : j ≡ i = omega arith in (rw z (omega arith)) ])
      (λ k. let z = sorted_at s 0 i (i + 1) (omega arith) k in omega arith)

  pub next_other : (i < length l → get_or l i 0 ≡ a → ⊥) → i ≡ count_below l (suc a)
  next_other d =
      below_is s (suc a) i (most s a i is) (λ j k. let z = front s a i is j k in omega arith)
      (λ k. let z = back s a i is k in elim (dec_lt a (get_or l i 0)) [ yes m ↦ m | no m ↦ absurd (d k (omega arith)) ])

-- ---- the least free letter, looked for from the rank on

module _ {letters ranks : List ℕ} (ranked : Ranked letters ranks) where
  pub letters_sorted : Sorted ◌<◌ letters
  letters_sorted = ascend_sorted letters ranked.ascend

  pub rank_at : (a : ℕ) → a < 256 → get_or ranks a 0 ≡ count_below letters (suc a)
  unfolding rank_table
  rank_at a h = ap (λ (t : List ℕ). get_or t a 0) ranked.table ∙ get_d_tabulate 256 (λ a. count_below letters (suc a)) a 0 h

  -- it is a place in the list, or its end
  pub rank_inside : (a : ℕ) → a < 256 → get_or ranks a 0 ≤ length letters
  rank_inside a h = omega (arith, rank_at a h, below_most (suc a) letters)

-- a test of equality answers alike both ways
eqb_swapped : (a b : ℕ) → eqb a b ≡ eqb b a
eqb_swapped a b = same_bool _ _ (λ h. eq-eqb b a (sym (eqb-true a b h))) (λ h. eq-eqb a b (sym (eqb-true b a h)))

-- whether a number is among those used, as the library tests it
used_member : (a : ℕ) (used : List ℕ) → list_any (λ u. eqb u a) used ≡ member a used
unfolding member
used_member a [] = refl
used_member a (u ∷ used) = ap₂ ◌||◌ (eqb_swapped u a) (used_member a used)

-- what was found: the least free letter above a, or none where there is none
abbrev pub FreeIs : List ℕ → List ℕ → ℕ → Option ℕ → Type 0
FreeIs letters used a found = MatchOption found (free_above letters used a ≡ 0) (λ x. (0 < x) × (x ≡ free_above letters used a))

-- 0 for none
pub free_or_zero : (letters used : List ℕ) (a : ℕ) (found : Option ℕ) → FreeIs letters used a found → unwrap_or found 0 ≡ free_above letters used a
free_or_zero letters used a None h = sym h
free_or_zero letters used a (Some x) h = h.1

module _ (used : List ℕ) (a : ℕ) where
  -- of letters that are all above a
  found_above : (l : List ℕ) → ((x : ℕ) → Memᴰ x l → a < x) → FreeIs l used a (find (λ x. not (list_any (λ u. eqb u x) used)) l)
  unfolding free_above
  found_above [] h = refl
  found_above (x ∷ l) h =
      rw (lt-ltb a x (h x (Memᴰ.head refl)), used_member x used) (go (member x used) (found_above l (λ y m. h y (Memᴰ.tail m))))
    where
      go : (t : Bool) → FreeIs l used a (find (λ x. not (list_any (λ u. eqb u x) used)) l)
          → MatchOption (cond (not t) (Some x) (find (λ x. not (list_any (λ u. eqb u x) used)) l)) (cond (not t) x (free_above l used a) ≡ 0) (λ y. (0 < y) × (y ≡ cond (not t) x (free_above l used a)))
      go true k = k
      go false k = (let z = h x (Memᴰ.head refl) in omega arith, refl)

  -- of ascending letters, from the first above a on
  pub found_free : {l : List ℕ} → Sorted ◌<◌ l → FreeIs l used a (find (λ x. not (list_any (λ u. eqb u x) used)) (drop (count_below l (suc a)) l))
  unfolding free_above count_below
  found_free end = refl
  found_free (then {x = x} {xs = l} p s) = go (ltb x (suc a)) refl (found_free s)
    where
      go : (t : Bool) → ltb x (suc a) ≡ t → FreeIs l used a (find (λ x. not (list_any (λ u. eqb u x) used)) (drop (count_below l (suc a)) l))
          → FreeIs (x ∷ l) used a (find (λ x. not (list_any (λ u. eqb u x) used)) (drop (cond t (suc (count_below l (suc a))) 0) (x ∷ l)))
      go true e k = rw (le-ltb a x (let z = ltb-true x (suc a) e in omega arith)) k
      go false e k = found_above (x ∷ l) (λ y m. let z = ltb-false x (suc a) e in ⊎_elim (λ (q : y ≡ x). omega arith) (λ i. let w = p y i in omega arith) (Memᴰ.cases_cons m))

-- what is found in the list from the rank on
pub found_at : {letters ranks : List ℕ} → Ranked letters ranks → (used : List ℕ) (a r : ℕ) → a < 256 → r ≡ get_or ranks a 0
    → (found : Option ℕ) → found ≡ find (λ x. not (list_any (λ u. eqb u x) used)) (take (length letters - r) (drop r letters)) → FreeIs letters used a found
found_at {letters = letters} ranked used a r h e found f =
    subst (FreeIs letters used a)
    (sym (f ∙ ap (find (λ x. not (list_any (λ u. eqb u x) used)))
    (take_all (length letters - r) (drop r letters) (omega (arith, length-drop r letters))
    ∙ ap (λ (k : ℕ). drop k letters) (e ∙ rank_at ranked a h))))
    (found_free used a (letters_sorted ranked))

-- The masks of k ones in ascending order: the first of them, the step to the next one, and the table of those that are looked at.
-- Assumes nothing.
use mathlib.Core.Path.{◌≡◌, refl, sym, ap, ◌∙◌}
use mathlib.Core.Bool.{Bool, true, false, not, ◌||◌, and-false, or-true, or-false}
use mathlib.Core.List.{List, [], ◌∷◌}
use mathlib.Core.Logic.{⊎_elim}
use Prim.Native.Nat.{ℕ, zero, suc, ◌+◌, ◌-◌, ◌/◌, ◌%◌, ◌^◌, ◌≤◌, ◌<◌}
use native.Mathlib.Nat.{pow-suc, eq-or-lt_of_le}
use native.Mathlib.Omega.{arith}
use borrow.Author.Tests.{eq-eqb, ne_eqb, eqb-true, ltb-true, le-leb, lt-leb, not-true}
use lib.Bits.{bit_and, bit_or, bit_xor}
use lib.Count.{ones, ones_step, ones-le, ones-ones}
use lib.Dec.{eqb, leb, ltb}
use lib.ListN.{get_or}
use Rattle.algebra.specs.Matrix.{tabulate, chosen, places_from}
use Rattle.algebra.proofs.Words.{get_d_tabulate}
use Rattle.algebra.proofs.Sums.{le_or_lt}
use Rattle.algebra.proofs.Involution.{and_left, and_right}
use Rattle.field.specs.Steps.{every_below}
use Rattle.field.proofs.Inverses.{first_is, first_before, first_there}
use Rattle.matrix.specs.Steps.Choice.{translated, is_least, rotated, is_least_around, is_looked_at, is_choice, next_choice}
use Rattle.matrix.proofs.Squares.{every_each}

-- what holds of the numbers before c, of c and of those behind it holds of all
pub around : (P : ℕ → Type 0) (c : ℕ) → ((s : ℕ) → s < c → P s) → P c → ((s : ℕ) → c < s → P s) → (s : ℕ) → P s
around P c before now behind s =
    ⊎_elim (λ (q : c ≤ s). ⊎_elim (λ (e : c ≡ s). rw (← e) now) (behind s) (eq-or-lt_of_le q)) (before s) (le_or_lt c s)

-- ---- choices

module _ (look k s : ℕ) where
  -- k ones, and looked at or not below 256
  pub is_choice_holds : ones s ≡ k → (s < 256 → is_looked_at look s ≡ true) → is_choice look k s ≡ true
  unfolding is_choice
  is_choice_holds e h =
      ⊎_elim (λ (l : 256 ≤ s). rw (eq-eqb (ones s) k e, le-leb 256 s l, or-true (is_looked_at look s)) refl)
      (λ (l : s < 256). rw (eq-eqb (ones s) k e, h l) refl) (le_or_lt 256 s)

  -- a choice has k ones
  pub choice_ones : is_choice look k s ≡ true → ones s ≡ k
  unfolding is_choice
  choice_ones e = eqb-true (ones s) k (and_right (is_looked_at look s || leb 256 s) (eqb (ones s) k) e)

  -- and is looked at
  pub choice_looked : s < 256 → is_choice look k s ≡ true → is_looked_at look s ≡ true
  unfolding is_choice
  choice_looked l e =
      rw (lt-leb 256 s l, or-false (is_looked_at look s)) at (and_left (is_looked_at look s || leb 256 s) (eqb (ones s) k) e)

  -- a mask of other ones is none
  other_ones : eqb (ones s) k ≡ false → is_choice look k s ≡ false
  unfolding is_choice
  other_ones e = rw e (and-false (is_looked_at look s || leb 256 s))

  -- nor is one below 256 that is not looked at
  not_looked : s < 256 → is_looked_at look s ≡ false → is_choice look k s ≡ false
  unfolding is_choice
  not_looked l e = rw (e, lt-leb 256 s l) refl

-- ---- the next choice

module _ (look mask : ℕ) where
  -- it is behind the mask
  pub next_later : mask < next_choice look mask
  unfolding next_choice
  next_later = omega arith

  -- it is a choice
  pub next_found : next_choice look mask < 256 → is_choice look (ones mask) (next_choice look mask) ≡ true
  unfolding next_choice
  next_found l = first_there 512 (λ t. is_choice look (ones mask) (suc mask + t)) (omega arith)

  -- none between is one
  pub next_between : (s : ℕ) → mask < s → s < next_choice look mask → is_choice look (ones mask) s ≡ false
  unfolding next_choice
  next_between s l h =
      let e : suc mask + (s - suc mask) ≡ s = omega arith in
      rw e at (first_before 512 (λ t. is_choice look (ones mask) (suc mask + t)) (s - suc mask) (omega arith))

  -- r is behind the mask and has as many ones, and none between is a choice
  pub record Skipped (r : ℕ) : Type 0 where
    pub later : mask < r
    pub most : r < 512
    pub many : ones r ≡ ones mask
    pub between : (s : ℕ) → mask < s → s < r → is_choice look (ones mask) s ≡ false

  -- where it is looked at, or not below 256, it is the next one
  pub skipped_next : (r : ℕ) → Skipped r → (r < 256 → is_looked_at look r ≡ true) → r ≡ next_choice look mask
  unfolding next_choice
  skipped_next r w h =
      sym e
      ∙ ap (λ (t : ℕ). suc mask + t) (sym (first_is 512 (r - suc mask) (λ t. is_choice look (ones mask) (suc mask + t)) (omega (arith, w.most))
      (rw e (is_choice_holds look (ones mask) r w.many h)) (λ j l. w.between (suc mask + j) (omega arith) (omega arith))))
    where
      e : suc mask + (r - suc mask) ≡ r
      e = omega (arith, w.later)

-- ---- the next mask of as many ones, as the code has it

-- the lowest one of a mask
unfoldable pub lowest : ℕ → ℕ
lowest mask = bit_and mask (65535 - mask + 1)

-- the lowest group of ones, moved up by its highest one; the others of it at the lowest places
unfoldable pub following : ℕ → ℕ
following mask = bit_or (mask + lowest mask) (bit_xor mask (mask + lowest mask) / lowest mask / 4)

-- no mask between has as many ones
unfoldable none_between : ℕ → Bool
none_between mask = every_below (following mask - suc mask) (λ t. not (eqb (ones (suc mask + t)) (ones mask)))

-- what is computed for all masks holds of each
each_mask : (test : ℕ → Bool) → every_below 255 (λ i. test (suc i)) ≡ true → (mask : ℕ) → 1 ≤ mask → mask < 256 → test mask ≡ true
each_mask test computed mask a b =
    let e : suc (mask - 1) ≡ mask = omega arith in
    rw e at (every_each 255 (λ i. test (suc i)) computed (mask - 1) (omega arith))

module _ (mask : ℕ) (a : 1 ≤ mask) (b : mask < 256) where
  -- a mask has a lowest one
  pub lowest_positive : 0 < lowest mask
  lowest_positive = ltb-true 0 (lowest mask) (each_mask (λ m. ltb 0 (lowest m)) (unfold every_below lowest in refl) mask a b)

  -- no choice is skipped
  none_between_holds : (s : ℕ) → mask < s → s < following mask → is_choice 0 (ones mask) s ≡ false
  unfolding none_between
  none_between_holds s l h =
      let e : suc mask + (s - suc mask) ≡ s = omega arith in
      other_ones 0 (ones mask) s (not-true (eqb (ones s) (ones mask)) (rw e at (every_each (following mask - suc mask)
      (λ t. not (eqb (ones (suc mask + t)) (ones mask))) (each_mask none_between (unfold every_below following lowest ones in refl) mask a b)
      (s - suc mask) (omega arith))))

  -- the code's mask follows, with as many ones
  follows : Skipped 0 mask (following mask)
  follows =
      record {
        later = ltb-true mask (following mask) (each_mask (λ m. ltb m (following m)) (unfold every_below following lowest in refl) mask a b);
        most = ltb-true (following mask) 512 (each_mask (λ m. ltb (following m) 512) (unfold every_below following lowest in refl) mask a b);
        many = eqb-true (ones (following mask)) (ones mask)
            (each_mask (λ m. eqb (ones (following m)) (ones m)) (unfold every_below following lowest ones in refl) mask a b);
        between = none_between_holds;
      }

  -- so it is the next choice where all are looked at
  pub following_next : following mask ≡ next_choice 0 mask
  unfolding is_looked_at
  following_next = skipped_next 0 mask (following mask) follows (λ l. refl)

-- ---- the walk over the masks of as many ones to the next one that is looked at

module _ (look mask r : ℕ) where
  -- what is no choice where all are looked at is none where only some are
  pub skipped_any : Skipped 0 mask r → Skipped look mask r
  unfolding is_choice is_looked_at
  skipped_any w =
      record {
        later = w.later;
        most = w.most;
        many = w.many;
        between = λ s l h. other_ones look (ones mask) s (w.between s l h);
      }

  -- a mask that is not looked at is skipped
  pub skipped_more : (d : ℕ) → Skipped look mask r → r < 256 → is_looked_at look r ≡ false → Skipped 0 r d → Skipped look mask d
  unfolding is_choice is_looked_at
  skipped_more d w l e v =
      record { later = omega (arith, w.later, v.later); most = v.most; many = v.many ∙ w.many; between = none }
    where
      none : (s : ℕ) → mask < s → s < d → is_choice look (ones mask) s ≡ false
      none =
          around (λ s. mask < s → s < d → is_choice look (ones mask) s ≡ false) r (λ s h a b. w.between s a h)
          (λ a b. not_looked look (ones mask) r l e) (λ s h a b. other_ones look (ones mask) s (rw w.many at (v.between s h b)))

-- what `next_choice` returns skips none
pub choice_skips : (mask r : ℕ) → 1 ≤ mask → mask < 256 → r ≡ next_choice 0 mask → Skipped 0 mask r
choice_skips mask r a b e = rw (e ∙ sym (following_next mask a b)) (follows mask a b)

-- ---- the first choice

-- a number below that of k ones has fewer
few_ones : (k s : ℕ) → suc s < 2 ^ k → ones s < k
few_ones zero s h = let z : ⊥ = omega arith in absurd z
few_ones (suc k) s h =
    ⊎_elim (λ (l : 2 ^ k ≤ suc (s / 2)). omega (arith, ones_step s, ones-le k (s / 2) (omega (arith, pow-suc 2 k)), pow-suc 2 k))
    (λ (l : suc (s / 2) < 2 ^ k). omega (arith, ones_step s, few_ones k (s / 2) l)) (le_or_lt (2 ^ k) (suc (s / 2)))

-- it is looked at, computed for all
first_looked : every_below 9 (λ t. every_below 9 (λ i. is_looked_at t (2 ^ i - 1))) ≡ true
unfolding every_below is_looked_at is_least translated is_least_around rotated chosen places_from
first_looked = refl

module _ (look k : ℕ) where
  -- the lowest k places: neither a translation nor a rotation makes that choice smaller
  pub first_choice : look ≤ 8 → k ≤ 8 → is_choice look k (2 ^ k - 1) ≡ true
  first_choice o h =
      is_choice_holds look k (2 ^ k - 1) (ones-ones k) (λ l. every_each 9 (λ i. is_looked_at look (2 ^ i - 1))
      (every_each 9 (λ t. every_below 9 (λ i. is_looked_at t (2 ^ i - 1))) first_looked look (omega arith)) k (omega arith))

  -- none before it
  pub before_first : (s : ℕ) → s < 2 ^ k - 1 → is_choice look k s ≡ false
  before_first s h = other_ones look k s (ne_eqb (ones s) k (λ e. omega (arith, few_ones k s (omega arith))))

-- ---- the table of the choices that are looked at

-- the numbers of the code's table
abbrev pub least_table : List (List ℕ)
least_table =
    (4294967295 ∷ 4294967295 ∷ 4294967295 ∷ 4294967295 ∷ 4294967295 ∷ 4294967295 ∷ 4294967295 ∷ 4294967295 ∷ []) ∷
    (4294869227 ∷ 2967994368 ∷ 2363490304 ∷ 3900738240 ∷ 0 ∷ 0 ∷ 0 ∷ 2147483648 ∷ []) ∷
    (3149642683 ∷ 3149642683 ∷ 3149642683 ∷ 3149642683 ∷ 3149642683 ∷ 3149642683 ∷ 3149642683 ∷ 3149642683 ∷ []) ∷
    (2341178251 ∷ 2341178251 ∷ 2341178251 ∷ 2341178251 ∷ 2341178251 ∷ 2341178251 ∷ 2341178251 ∷ 2341178251 ∷ []) ∷
    (2158723243 ∷ 2158723243 ∷ 2158723243 ∷ 2158723243 ∷ 2158723243 ∷ 2158723243 ∷ 2158723243 ∷ 2158723243 ∷ []) ∷
    (2147518635 ∷ 2147518635 ∷ 2147518635 ∷ 2147518635 ∷ 2147518635 ∷ 2147518635 ∷ 2147518635 ∷ 2147518635 ∷ []) ∷
    (2292230827 ∷ 2147483648 ∷ 2292230827 ∷ 2147483648 ∷ 2292230827 ∷ 2147483648 ∷ 2292230827 ∷ 2147483648 ∷ []) ∷
    (2829626027 ∷ 2155907072 ∷ 0 ∷ 2147483648 ∷ 2829626027 ∷ 2155907072 ∷ 0 ∷ 2147483648 ∷ []) ∷
    (2863311531 ∷ 2829625504 ∷ 2292187136 ∷ 2155905024 ∷ 0 ∷ 0 ∷ 0 ∷ 2147483648 ∷ []) ∷ []

-- digit s % 32 of number s / 32 of a line
abbrev pub in_table : ℕ → ℕ → Bool
in_table look s = eqb (bit_and (get_or (get_or least_table look []) (s / 32) 0 / 2 ^ (s % 32)) 1) 1

-- the table, computed for all masks
computed : tabulate 9 (λ look. tabulate 256 (in_table look)) ≡ tabulate 9 (λ look. tabulate 256 (is_looked_at look))
unfolding every_below is_looked_at is_least translated is_least_around rotated chosen places_from tabulate
computed = refl

pub table_looked : (look s : ℕ) → look ≤ 8 → s < 256 → in_table look s ≡ is_looked_at look s
table_looked look s o h =
    sym (at in_table) ∙ ap (λ (l : List (List Bool)). get_or (get_or l look []) s false) computed ∙ at is_looked_at
  where
    at : (test : ℕ → ℕ → Bool) → get_or (get_or (tabulate 9 (λ look. tabulate 256 (test look))) look []) s false ≡ test look s
    at test =
        ap (λ (l : List Bool). get_or l s false) (get_d_tabulate 9 (λ look. tabulate 256 (test look)) look [] (omega arith))
        ∙ get_d_tabulate 256 (test look) s false h

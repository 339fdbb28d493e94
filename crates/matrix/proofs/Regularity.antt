-- The test that the blocks of all choices of k columns and k lines are regular. Assumes nothing.
use mathlib.Core.Path.{◌≡◌, refl, sym, ap, ◌∙◌}
use mathlib.Core.Bool.{Bool, true, false, not, ◌&&◌, ◌||◌, and-false, or-true}
use mathlib.Core.List.{List, []}
use Prim.Native.Nat.{ℕ, ◌-◌, ◌^◌, ◌≤◌, ◌<◌}
use native.Mathlib.Nat.{lt_of_lt_of_le}
use native.Mathlib.Omega.{arith}
use borrow.Author.Tests.{eq-eqb, ne_eqb}
use lib.Count.{ones}
use lib.Dec.{eqb}
use lib.Pow.{pow_mono}
use lib.ListN.{length, get_or, replicate}
use Rattle.algebra.specs.Matrix.{det, chosen, block}
use Rattle.algebra.proofs.Bridge.{det_cong}
use Rattle.algebra.proofs.Choices.{chosen_lt}
use Rattle.lines.specs.Numbers.{numbers, entry, InField}
use Rattle.lines.specs.Steps.Blocks.{filled, framed}
use Rattle.matrix.specs.Steps.Regular.{is_regular_block, regular_of_size}
use Rattle.matrix.specs.Steps.Choice.{is_looked_at, is_choice, next_choice}
use Rattle.matrix.proofs.Squares.{each_every, every_not}
use Rattle.matrix.proofs.Selections.{chosen_ones, line_chosen, column_chosen}
use Rattle.matrix.proofs.Masks.{around, choice_ones, choice_looked, first_choice, before_first, next_later, next_found, next_between}

-- ---- all choices one after the other

-- c is a choice of k or not below `end`, and P holds of every mask before it
pub record Passed (look end k : ℕ) (P : ℕ → Type 0) (c : ℕ) : Type 0 where
  pub positive : 1 ≤ c
  pub found : c < end → is_choice look k c ≡ true
  pub before : (s : ℕ) → s < c → s < end → P s

module _ (look end k : ℕ) (P : ℕ → Type 0) (others : (s : ℕ) → s < end → is_choice look k s ≡ false → P s) where
  -- before the first choice is none
  pub passed_none : (c : ℕ) → look ≤ 8 → 1 ≤ k → k ≤ 8 → c ≡ 2 ^ k - 1 → Passed look end k P c
  passed_none c o a b e =
      rw e
      (record {
        positive = omega (arith, pow_mono {j = k} a);
        found = λ l. first_choice look k o b;
        before = λ s l h. others s h (before_first look k s l);
      })

  -- from a choice to the next
  pub passed_more : (c d : ℕ) → end ≤ 256 → c < end → Passed look end k P c → P c → d ≡ next_choice look c → Passed look end k P d
  passed_more c d most l w now e =
      rw e
      (record {
        positive = omega (arith, next_later look c);
        found = λ h. rw many at (next_found look c (lt_of_lt_of_le h most));
        before = earlier;
      })
    where
      many : ones c ≡ k
      many = choice_ones look k c (w.found l)

      earlier : (s : ℕ) → s < next_choice look c → s < end → P s
      earlier =
          around (λ s. s < next_choice look c → s < end → P s) c (λ s q h b. w.before s q b) (λ h b. now)
          (λ s q h b. others s b (rw many at (next_between look c s q h)))

-- ---- the blocks of the choices

-- a test that counts only where another passes
unless_or : (a b : Bool) → (a ≡ true → b ≡ true) → (not a || b) ≡ true
unless_or true b h = h refl
unless_or false b h = refl

-- choices of k lines and of k columns that are looked at
pub record Both (look n k lines columns : ℕ) : Type 0 where
  pub lines_below : lines < 2 ^ n
  pub columns_below : columns < 2 ^ n
  pub lines_many : length (chosen n lines) ≡ k
  pub columns_many : length (chosen n columns) ≡ k
  pub looked : is_looked_at look columns ≡ true

-- masks below 2^n that are choices
pub both : (look n k lines columns : ℕ) → 2 ^ n ≤ 256 → lines < 2 ^ n → columns < 2 ^ n
    → is_choice 0 k lines ≡ true → is_choice look k columns ≡ true → Both look n k lines columns
both look n k lines columns most hl hc el ec =
    record {
      lines_below = hl;
      columns_below = hc;
      lines_many = chosen_ones n lines hl ∙ choice_ones 0 k lines el;
      columns_many = chosen_ones n columns hc ∙ choice_ones look k columns ec;
      looked = choice_looked look k columns (lt_of_lt_of_le hc most) ec;
    }

module _ (p n k : ℕ) (f : ℕ → ℕ → ℕ) where
  -- the block of columns s and lines r is regular, if it is one of size k
  abbrev pub Regular : ℕ → ℕ → Type 0
  Regular s r = is_regular_block (numbers p) n f k r s ≡ true

  -- it is none where the lines are no choice
  pub other_lines : (s r : ℕ) → r < 2 ^ n → is_choice 0 k r ≡ false → Regular s r
  unfolding is_regular_block is_choice is_looked_at
  other_lines s r l e = rw (chosen_ones n r l, e) refl

  module _ (look : ℕ) where
    -- all blocks of the columns s are regular, if they are looked at
    abbrev pub RegularColumns : ℕ → Type 0
    RegularColumns s = is_looked_at look s ≡ true → (r : ℕ) → r < 2 ^ n → Regular s r

    -- there is none where the columns are no choice
    pub other_columns : (s : ℕ) → s < 2 ^ n → is_choice look k s ≡ false → RegularColumns s
    unfolding is_regular_block is_choice
    other_columns s l e q r h =
        let no : eqb (ones s) k ≡ false = rw q at e in
        rw (chosen_ones n s l, no, and-false (eqb (length (chosen n r)) k)) refl

    -- all lines passed
    pub columns_passed : (s c : ℕ) → Passed 0 (2 ^ n) k (Regular s) c → 2 ^ n ≤ c → RegularColumns s
    columns_passed s c w l q r h = w.before r (lt_of_lt_of_le h l) h

    -- all columns passed
    pub all_passed : (c : ℕ) → Passed look (2 ^ n) k RegularColumns c → 2 ^ n ≤ c → true ≡ regular_of_size (numbers p) n f look k
    unfolding regular_of_size
    all_passed c w l =
        sym (each_every (2 ^ n) _ (λ s h. each_every (2 ^ n) _ (λ r i.
        unless_or (is_looked_at look s) (is_regular_block (numbers p) n f k r s) (λ q. w.before s (lt_of_lt_of_le h l) h q r i))))

    module _ (s r d : ℕ) (e : d ≡ det (numbers p) k (block f (chosen n r) (chosen n s))) where
      -- a determinant that is not 0
      pub block_regular : (d ≡ 0 → ⊥) → Regular s r
      unfolding is_regular_block
      block_regular h = rw (← e, ne_eqb d 0 h) (or-true (not (eqb (length (chosen n r)) k && eqb (length (chosen n s)) k)))

      -- one that is 0 decides
      pub one_singular : Both look n k r s → d ≡ 0 → false ≡ regular_of_size (numbers p) n f look k
      unfolding regular_of_size is_regular_block
      one_singular w z =
          every_not (2 ^ n) _ s w.columns_below (sym (every_not (2 ^ n) _ r w.lines_below
          (rw (w.looked, ← e, eq-eqb d 0 z, eq-eqb (length (chosen n r)) k w.lines_many, eq-eqb (length (chosen n s)) k w.columns_many) refl)))

-- ---- the square block of a choice of k lines and k columns

module _ (look p n k lines columns : ℕ) (m b r : List (List ℕ)) (size : n ≤ 8) (w : Both look n k lines columns)
    (eb : b ≡ framed n (length (chosen 8 columns)) (λ i j. entry m i (get_or (chosen 8 columns) j 0)))
    (er : r ≡ filled (replicate 8 0) (λ i. get_or b (get_or (chosen 8 lines) i 0) []) (length (chosen 8 lines))) where
  -- its entries
  square : (i j : ℕ) → i < k → j < k → entry r i j ≡ block (entry m) (chosen n lines) (chosen n columns) i j
  unfolding block
  square i j hi hj =
      let li : i < length (chosen n lines) = omega (arith, w.lines_many) in
      ap (λ (line : List ℕ). get_or line j 0) (line_chosen n lines b r size w.lines_below er i li)
      ∙ column_chosen n columns m b size w.columns_below n eb (get_or (chosen n lines) i 0) j (chosen_lt n lines i li) (omega (arith, w.columns_many))

  -- they are elements
  pub square_in_field : InField p n n m → InField p k k r
  unfolding InField block
  square_in_field h i j hi hj =
      rw (square i j hi hj)
      (h (get_or (chosen n lines) i 0) (get_or (chosen n columns) j 0) (chosen_lt n lines i (omega (arith, w.lines_many)))
      (chosen_lt n columns j (omega (arith, w.columns_many))))

  -- its determinant
  pub square_det : (d : ℕ) → d ≡ det (numbers p) k (entry r) → d ≡ det (numbers p) k (block (entry m) (chosen n lines) (chosen n columns))
  square_det d e = e ∙ det_cong (numbers p) k (entry r) (block (entry m) (chosen n lines) (chosen n columns)) square

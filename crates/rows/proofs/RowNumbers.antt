-- How many rows of different candidates there are: the product of n numbers, from that of the candidates downwards (`arrangements_count`).
-- Assumes nothing.
use mathlib.Core.Path.{◌≡◌, refl, sym, ap, ap₂, ◌∙◌}
use mathlib.Core.Logic.{⊎_elim}
use mathlib.Core.Bool.{Bool, true, false, not, ◌||◌}
use mathlib.Core.List.Memᴰ
use mathlib.Core.List.{List, [], ◌∷◌, ◌++◌, map, Memᴰ}
use Prim.Native.Nat.{ℕ, zero, suc, ◌+◌, ◌-◌, ◌*◌, ◌^◌, ◌<◌}
use native.Mathlib.Nat.{zero-mul, suc-mul, zero-add}
use native.Mathlib.Omega.{arith}
use lib.Dec.{eqb}
use lib.ListN.{length}
use borrow.Author.Tests.{eq-eqb, ne_eqb}
use Rattle.algebra.specs.Matrix.{before, words}
use Rattle.field.specs.Polynomial.{degree}
use Rattle.field.specs.Table.{keep_if}
use Rattle.rows.specs.Lightest.{member, ascending, rows_over}
use Rattle.rows.specs.Candidates.{some_repeated}
use Rattle.rows.specs.Walks.{keep_row_if, differing, arrangements}
use Rattle.rows.proofs.Rows.{Sorted, end, then, sorted_ascending}

-- k·(k − 1)·(k − 2)· .., of n factors
unfoldable pub falling : ℕ → ℕ → ℕ
falling k zero = 1
falling k (suc n) = k * falling (k - 1) n

-- ---- without a letter

-- the letters other than a, and the words without a
unfoldable others : ℕ → List ℕ → List ℕ
others a [] = []
others a (x ∷ rest) = keep_if (not (eqb a x)) x (others a rest)

unfoldable lacking : ℕ → List (List ℕ) → List (List ℕ)
lacking a [] = []
lacking a (w ∷ rest) = keep_row_if (not (member a w)) w (lacking a rest)

module _ (a : ℕ) where
  lacking_append : (l r : List (List ℕ)) → lacking a (l ++ r) ≡ lacking a l ++ lacking a r
  unfolding lacking
  lacking_append [] r = refl
  lacking_append (w ∷ l) r = ap (keep_row_if (not (member a w)) w) (lacking_append l r) ∙ out (not (member a w))
    where
      out : (t : Bool) → keep_row_if t w (lacking a l ++ lacking a r) ≡ keep_row_if t w (lacking a l) ++ lacking a r
      out true = refl
      out false = refl

  -- words behind a letter: behind a itself none is left
  lacking_same : (b : ℕ) → eqb a b ≡ true → (ws : List (List ℕ)) → lacking a (map (λ w. b ∷ w) ws) ≡ []
  unfolding lacking member
  lacking_same b e [] = refl
  lacking_same b e (w ∷ ws) = rw e (lacking_same b e ws)

  lacking_other : (b : ℕ) → eqb a b ≡ false → (ws : List (List ℕ)) → lacking a (map (λ w. b ∷ w) ws) ≡ map (λ w. b ∷ w) (lacking a ws)
  unfolding lacking member
  lacking_other b e [] = refl
  lacking_other b e (w ∷ ws) = rw (e, lacking_other b e ws) (out (not (member a w)))
    where
      out : (t : Bool) → keep_row_if t (b ∷ w) (map (λ w. b ∷ w) (lacking a ws)) ≡ map (λ w. b ∷ w) (keep_row_if t w (lacking a ws))
      out true = refl
      out false = refl

  lacking_before : (letters : List ℕ) (ws : List (List ℕ)) → lacking a (before letters ws) ≡ before (others a letters) (lacking a ws)
  unfolding before others
  lacking_before [] ws = unfold lacking in refl
  lacking_before (b ∷ letters) ws =
      lacking_append (map (λ w. b ∷ w) ws) (before letters ws) ∙ go (eqb a b) refl (lacking_before letters ws)
    where
      go : (t : Bool) → eqb a b ≡ t → lacking a (before letters ws) ≡ before (others a letters) (lacking a ws)
          → lacking a (map (λ w. b ∷ w) ws) ++ lacking a (before letters ws) ≡ before (keep_if (not t) b (others a letters)) (lacking a ws)
      go true e h = ap₂ (λ (l r : List (List ℕ)). l ++ r) (lacking_same b e ws) h
      go false e h = ap₂ (λ (l r : List (List ℕ)). l ++ r) (lacking_other b e ws) h

  -- the words without a are those over the other letters
  lacking_words : (letters : List ℕ) (n : ℕ) → lacking a (words letters n) ≡ words (others a letters) n
  unfolding words
  lacking_words letters zero = unfold lacking member in refl
  lacking_words letters (suc n) = lacking_before letters (words letters n) ∙ ap (before (others a letters)) (lacking_words letters n)

  -- of the words behind a, as many have no repeated letter as of those without a
  behind_count : (ws : List (List ℕ)) → length (differing (map (λ w. a ∷ w) ws)) ≡ length (differing (lacking a ws))
  unfolding differing lacking some_repeated
  behind_count [] = refl
  behind_count (w ∷ ws) = go (member a w) (some_repeated w) refl (behind_count ws)
    where
      go : (t s : Bool) → some_repeated w ≡ s → length (differing (map (λ w. a ∷ w) ws)) ≡ length (differing (lacking a ws))
          → length (keep_row_if (not (t || s)) (a ∷ w) (differing (map (λ w. a ∷ w) ws))) ≡ length (differing (keep_row_if (not t) w (lacking a ws)))
      go true s e h = h
      go false true e h = rw e h
      go false false e h = rw e (ap suc h)

  -- ---- the other letters are one fewer

  others_all : (letters : List ℕ) → ((x : ℕ) → Memᴰ x letters → a < x) → others a letters ≡ letters
  unfolding others
  others_all [] h = refl
  others_all (x ∷ letters) h =
      rw (ne_eqb a x (λ e. omega (arith, h x (Memᴰ.head refl)))) (ap (λ (l : List ℕ). x ∷ l) (others_all letters (λ y m. h y (Memᴰ.tail m))))

  others_count : {letters : List ℕ} → Sorted ◌<◌ letters → Memᴰ a letters → length letters ≡ suc (length (others a letters))
  unfolding others
  others_count end m = absurd (Memᴰ.not-nil m)
  others_count (then {x = x} {xs = rest} p s) m =
      ⊎_elim
      (λ (e : a ≡ x). rw (eq-eqb a x e) (ap (λ (l : List ℕ). suc (length l)) (sym (others_all rest (λ y i. omega (arith, p y i, e))))))
      (λ i. rw (ne_eqb a x (λ (e : a ≡ x). omega (arith, p a i))) (ap suc (others_count s i)))
      (Memᴰ.cases_cons m)

  others_mem : (letters : List ℕ) (y : ℕ) → Memᴰ y (others a letters) → Memᴰ y letters
  unfolding others
  others_mem [] y m = m
  others_mem (x ∷ letters) y m = go (others_mem letters y) (eqb a x) m
    where
      go : (Memᴰ y (others a letters) → Memᴰ y letters) → (t : Bool) → Memᴰ y (keep_if (not t) x (others a letters)) → Memᴰ y (x ∷ letters)
      go h true i = Memᴰ.tail (h i)
      go h false i = ⊎_elim (λ e. Memᴰ.head e) (λ k. Memᴰ.tail (h k)) (Memᴰ.cases_cons i)

  others_sorted : {letters : List ℕ} → Sorted ◌<◌ letters → Sorted ◌<◌ (others a letters)
  unfolding others
  others_sorted end = end
  others_sorted (then {x = x} {xs = rest} p s) = go (eqb a x) (others_sorted s)
    where
      go : (t : Bool) → Sorted ◌<◌ (others a rest) → Sorted ◌<◌ (keep_if (not t) x (others a rest))
      go true h = h
      go false h = then {x = x} (λ y m. p y (others_mem rest y m)) h

-- ---- the number of rows

differing_append : (l r : List (List ℕ)) → length (differing (l ++ r)) ≡ length (differing l) + length (differing r)
unfolding differing
differing_append [] r = sym (zero-add _)
differing_append (w ∷ l) r = go (not (some_repeated w)) (differing_append l r)
  where
    go : (t : Bool) → length (differing (l ++ r)) ≡ length (differing l) + length (differing r)
        → length (keep_row_if t w (differing (l ++ r))) ≡ length (keep_row_if t w (differing l)) + length (differing r)
    go true h = omega (arith, h)
    go false h = h

-- as many for each first letter
before_count : (c : ℕ) (ws : List (List ℕ)) (letters : List ℕ) → ((a : ℕ) → Memᴰ a letters → length (differing (map (λ w. a ∷ w) ws)) ≡ c)
    → length (differing (before letters ws)) ≡ length letters * c
unfolding before
before_count c ws [] h = unfold differing in sym (zero-mul c)
before_count c ws (a ∷ letters) h =
    omega (
      arith,
      differing_append (map (λ w. a ∷ w) ws) (before letters ws),
      h a (Memᴰ.head refl),
      before_count c ws letters (λ b m. h b (Memᴰ.tail m)),
      suc-mul (length letters) c,
    )

pub arranged_count : (n : ℕ) {letters : List ℕ} → Sorted ◌<◌ letters → length (differing (words letters n)) ≡ falling (length letters) n
unfolding words falling
arranged_count zero s = unfold differing some_repeated in refl
arranged_count (suc n) {letters} s =
    before_count (falling (length letters - 1) n) (words letters n) letters λ a m.
    behind_count a (words letters n)
    ∙ ap (λ (ws : List (List ℕ)). length (differing ws)) (lacking_words a letters n)
    ∙ arranged_count n (others_sorted a s)
    ∙ ap (λ (k : ℕ). falling k n) (omega (arith, others_count a s m))

pub arrangements_count : (p n : ℕ) (candidates : List ℕ) → length (arrangements p n candidates) ≡ falling (length (ascending (2 ^ degree p) candidates)) n
unfolding arrangements rows_over
arrangements_count p n candidates = arranged_count n (sorted_ascending (2 ^ degree p) candidates)

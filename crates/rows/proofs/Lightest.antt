-- The fold answers nothing exactly if no row is good; otherwise with the good row of least key, the first
-- of them in dictionary order; and only one row is that.
-- Assumes nothing.
use mathlib.Core.Path.{◌≡◌, refl, sym, ap, subst, ◌∙◌}
use mathlib.Core.Logic.{◌≢◌, ◌↔◌, ◌⊎◌, inl, inr, ⊎_elim}
use mathlib.Core.Bool.{Bool, true, false, cond, ◌&&◌, and-false, true≢false, false≢true}
use mathlib.Core.List.Memᴰ
use mathlib.Core.List.{List, ◌∷◌, Memᴰ}
use Prim.Native.Nat.{ℕ, ◌<◌, ◌≤◌}
use native.Mathlib.Omega.{arith}
use native.Mathlib.Nat.{eq-or-lt_of_le}
use borrow.Author.Tests.{ltb-true, ltb-false, lt-ltb}
use Rattle.algebra.proofs.Involution.{and_right}
use Rattle.rows.specs.Lightest.{rows_over, Earlier, Best, nothing, found, lighter, keep, keep_all, lightest}
use Rattle.rows.proofs.Rows.{earlier_asym, earlier_irrefl, not_passed, order_free}
use Rattle.rows.proofs.Rows.{Sorted, end, then}

-- the row r is the lightest: it is one of the rows, it is good, and every other good row has a larger key, or the same key and a
-- later place in dictionary order
pub record IsLightest (good : List ℕ → Bool) (key : List ℕ → ℕ) (rows : List (List ℕ)) (r : List ℕ) : Type 0 where
  pub is_row : Memᴰ r rows
  pub is_good : good r ≡ true
  pub is_first : (s : List ℕ) → Memᴰ s rows → good s ≡ true → s ≢ r → (key r < key s) ⊎ ((key r ≡ key s) × Earlier r s)

module _ (good : List ℕ → Bool) (key : List ℕ → ℕ) where
  -- ---- one row

  -- the row is taken, or the row kept before stays
  pub keep_cases : (best : Best) (x : List ℕ)
      → ((keep good key best x ≡ found x) × (good x ≡ true) × (lighter key best x ≡ true))
      ⊎ ((keep good key best x ≡ best) × (good x ≡ true → lighter key best x ≡ false))
  unfolding keep
  keep_cases best x = go (good x) (lighter key best x) refl refl
    where
      go : (g l : Bool) → good x ≡ g → lighter key best x ≡ l
          → ((cond (good x && lighter key best x) (found x) best ≡ found x) × (good x ≡ true) × (lighter key best x ≡ true))
          ⊎ ((cond (good x && lighter key best x) (found x) best ≡ best) × (good x ≡ true → lighter key best x ≡ false))
      go true true e f = rw (e, f) (inl (refl, refl, refl))
      go true false e f = rw (e, f) (inr (refl, λ q. refl))
      go false l e f = rw e (inr (refl, λ q. absurd (false≢true q)))

  -- a row lighter than a lighter one is lighter
  lighter_trans : (best : Best) (x r : List ℕ) → lighter key best x ≡ true → lighter key (found x) r ≡ true → lighter key best r ≡ true
  unfolding lighter
  lighter_trans nothing x r h k = refl
  lighter_trans (found b) x r h k = lt-ltb (key r) (key b) (omega (arith, ltb-true (key x) (key b) h, ltb-true (key r) (key x) k))

  -- a row that is lighter than the row kept is lighter than one that is not
  lighter_than : (best : Best) (x r : List ℕ) → lighter key best x ≡ false → lighter key best r ≡ true → key r < key x
  unfolding lighter
  lighter_than nothing x r h k = absurd (true≢false h)
  lighter_than (found b) x r h k = omega (arith, ltb-false (key x) (key b) h, ltb-true (key r) (key b) k)

  -- ---- the fold

  -- r is s, or comes before it: it has the smaller key, or the same and an earlier place
  abbrev First : List ℕ → List ℕ → Type 0
  First r s = (s ≡ r) ⊎ ((key r < key s) ⊎ ((key r ≡ key s) × Earlier r s))

  -- what the fold over rows in dictionary order comes to: no good row is lighter than the one kept before, and that stays; or
  -- the first of the lightest good ones takes its place
  data Outcome (best : Best) (rows : List (List ℕ)) (result : Best) : Type 0 where
    stays : result ≡ best → ((s : List ℕ) → Memᴰ s rows → good s ≡ true → lighter key best s ≡ false) → Outcome best rows result
    takes : (r : List ℕ) → result ≡ found r → Memᴰ r rows → good r ≡ true → lighter key best r ≡ true
        → ((s : List ℕ) → Memᴰ s rows → good s ≡ true → First r s) → Outcome best rows result

  module _ (best : Best) (x : List ℕ) (xs : List (List ℕ)) (p : (y : List ℕ) → Memᴰ y xs → Earlier x y) (result : Best) where
    -- x was taken
    after_taken : good x ≡ true → lighter key best x ≡ true → Outcome (found x) xs result → Outcome best (x ∷ xs) result
    unfolding lighter
    after_taken g l (stays e h) =
        takes x e (Memᴰ.head refl) g l λ s m k.
        ⊎_elim (λ q. inl q)
        (λ i. inr (⊎_elim (λ q. inr (q, p s i)) (λ l. inl l) (eq-or-lt_of_le (ltb-false (key s) (key x) (h s i k)))))
        (Memᴰ.cases_cons m)
    after_taken g l (takes r e m k l' h) =
        takes r e (Memᴰ.tail m) k (lighter_trans best x r l l') λ s n j.
        ⊎_elim (λ (q : s ≡ x). inr (inl (rw q (ltb-true (key r) (key x) l')))) (λ i. h s i j) (Memᴰ.cases_cons n)

    -- the row kept before x stayed
    after_left : (good x ≡ true → lighter key best x ≡ false) → Outcome best xs result → Outcome best (x ∷ xs) result
    after_left f (stays e h) =
        stays e λ s m k. ⊎_elim (λ (q : s ≡ x). rw q (f (ap good (sym q) ∙ k))) (λ i. h s i k) (Memᴰ.cases_cons m)
    after_left f (takes r e m k l h) =
        takes r e (Memᴰ.tail m) k l λ s n j.
        ⊎_elim (λ (q : s ≡ x). inr (inl (rw q (lighter_than best x r (f (ap good (sym q) ∙ j)) l)))) (λ i. h s i j) (Memᴰ.cases_cons n)

  -- every fold over rows in dictionary order comes to this
  outcome : (best : Best) {rows : List (List ℕ)} → Sorted Earlier rows → Outcome best rows (keep_all good key best rows)
  unfolding keep_all
  outcome best end = stays refl (λ s m. absurd (Memᴰ.not-nil m))
  outcome best (then {x = x} {xs = xs} p s) =
      ⊎_elim
      (λ (q : (keep good key best x ≡ found x) × (good x ≡ true) × (lighter key best x ≡ true)).
      rw q.0 (after_taken best x xs p (keep_all good key (found x) xs) q.1 q.2 (outcome (found x) s)))
      (λ (q : (keep good key best x ≡ best) × (good x ≡ true → lighter key best x ≡ false)).
      rw q.0 (after_left best x xs p (keep_all good key best xs) q.1 (outcome best s)))
      (keep_cases best x)

  -- ---- of any rows that stand in dictionary order

  -- nothing is kept at the end exactly if no row is good
  none_of : {rows : List (List ℕ)} {best : Best} → Outcome nothing rows best → (best ≡ nothing) ↔ ((r : List ℕ) → Memᴰ r rows → good r ≡ false)
  unfolding lighter
  none_of (stays e h) = (λ q r m. not_passed (good r) (λ g. true≢false (h r m g)), λ h. e)
  none_of (takes r e m k l h) = (λ q. absurd (apart (sym q ∙ e)), λ f. absurd (true≢false (sym k ∙ f r m)))
    where
      apart : nothing ≡ found r → ⊥
      apart q = let z : ◌≡◌ {A = ℕ} 0 1 = cc in omega arith

  -- a row kept at the end is one of the good rows, and each of these is it or comes behind it
  kept_first : {rows : List (List ℕ)} {best : Best} (r : List ℕ) → Outcome nothing rows best → best ≡ found r
      → Memᴰ r rows × (good r ≡ true) × ((s : List ℕ) → Memᴰ s rows → good s ≡ true → First r s)
  kept_first r (stays e h) q = absurd (let z : ◌≡◌ {A = ℕ} 0 1 = cc in omega arith)
  kept_first {rows} r (takes r' e m k l h) q =
      let same : r' ≡ r = cc in
      subst (λ r. Memᴰ r rows × (good r ≡ true) × ((s : List ℕ) → Memᴰ s rows → good s ≡ true → First r s)) same (m, k, h)

  -- so it is the lightest
  lightest_of : {rows : List (List ℕ)} {best : Best} (r : List ℕ) → Outcome nothing rows best → best ≡ found r → IsLightest good key rows r
  lightest_of r o q =
      let (m, k, h) = kept_first r o q in
      record {
        is_row = m;
        is_good = k;
        is_first = λ s n g d. ⊎_elim (λ e. absurd (d e)) (λ f. f) (h s n g);
      }

  -- of two rows that are both the lightest, none is before the other
  unique_of : {rows : List (List ℕ)} {best : Best} (r : List ℕ) → IsLightest good key rows r → Outcome nothing rows best → best ≡ found r
  unfolding lighter
  unique_of r d (stays e h) = absurd (true≢false (h r d.is_row d.is_good))
  unique_of r d (takes r' e m k l h) =
      ⊎_elim (λ (q : r ≡ r'). rw q e)
      (⊎_elim
      (λ (lt : key r' < key r).
      absurd (⊎_elim (λ (l : key r < key r'). omega arith) (λ q. omega (arith, q.0)) (d.is_first r' m k (λ e. omega (arith, ap key e)))))
      (λ (q : (key r' ≡ key r) × Earlier r' r).
      absurd (⊎_elim (λ (l : key r < key r'). omega (arith, q.0)) (λ f. earlier_asym f.1 q.1)
      (d.is_first r' m k (λ e. earlier_irrefl (rw e at q.1))))))
      (h r d.is_row d.is_good)

  module _ {rows : List (List ℕ)} (sorted : Sorted Earlier rows) where
    -- nothing is answered exactly if no row is good
    pub none_sorted : (lightest good key rows ≡ nothing) ↔ ((r : List ℕ) → Memᴰ r rows → good r ≡ false)
    unfolding lightest
    none_sorted = none_of (outcome nothing sorted)

    -- a good row is the row that is answered, or comes behind it
    pub first_sorted : (r : List ℕ) → lightest good key rows ≡ found r → (s : List ℕ) → Memᴰ s rows → good s ≡ true
        → (s ≡ r) ⊎ ((key r < key s) ⊎ ((key r ≡ key s) × Earlier r s))
    unfolding lightest
    first_sorted r e = (kept_first r (outcome nothing sorted) e).2

    -- a row that is answered is the lightest
    pub row_sorted : (r : List ℕ) → lightest good key rows ≡ found r → IsLightest good key rows r
    unfolding lightest
    row_sorted r e = lightest_of r (outcome nothing sorted) e

    -- the lightest row is answered
    pub unique_sorted : (r : List ℕ) → IsLightest good key rows r → lightest good key rows ≡ found r
    unfolding lightest
    unique_sorted r d = unique_of r d (outcome nothing sorted)

  -- the order in which the candidates are given, and repeats among them, do not matter
  pub same_answer : (bound : ℕ) (candidates candidates' : List ℕ) (n : ℕ) → ((x : ℕ) → Memᴰ x candidates ↔ Memᴰ x candidates')
      → lightest good key (rows_over bound candidates n) ≡ lightest good key (rows_over bound candidates' n)
  unfolding rows_over
  same_answer bound candidates candidates' n h = rw (order_free bound candidates candidates' h)

-- two folds answer the same where the lightest row of the first is that of the second, and the second has no good row unless the first has
module _ (good good' : List ℕ → Bool) (key : List ℕ → ℕ) {rows rows' : List (List ℕ)} (sorted : Sorted Earlier rows) (sorted' : Sorted Earlier rows') where
  pub same_lightest : ((r : List ℕ) → IsLightest good key rows r → IsLightest good' key rows' r)
      → (((r : List ℕ) → Memᴰ r rows → good r ≡ false) → (r : List ℕ) → Memᴰ r rows' → good' r ≡ false)
      → lightest good key rows ≡ lightest good' key rows'
  same_lightest still none = go (lightest good key rows) refl
    where
      go : (best : Best) → lightest good key rows ≡ best → lightest good key rows ≡ lightest good' key rows'
      go nothing e = e ∙ sym ((none_sorted good' key sorted').1 (none ((none_sorted good key sorted).0 e)))
      go (found r) e = e ∙ sym (unique_sorted good' key sorted' r (still r (row_sorted good key sorted r e)))

-- only some rows need be tried: where every good row that is not canonical has an earlier good row that is no heavier, the answer is the same
pub canonical_suffices : (good canon : List ℕ → Bool) (key : List ℕ → ℕ) {rows : List (List ℕ)} → Sorted Earlier rows
    → ((r : List ℕ) → Memᴰ r rows → good r ≡ true → canon r ≡ false
    → (r' : List ℕ) × Memᴰ r' rows × (good r' ≡ true) × (key r' ≤ key r) × Earlier r' r)
    → lightest good key rows ≡ lightest (λ r. canon r && good r) key rows
canonical_suffices good canon key {rows} sorted move =
    same_lightest good (λ r. canon r && good r) key sorted sorted
    (λ r d.
    record {
      is_row = d.is_row;
      is_good = rw (canonical r d (canon r) refl) d.is_good;
      is_first = λ s m e. d.is_first s m (and_right (canon s) (good s) e);
    })
    (λ none r m. ap (λ t. canon r && t) (none r m) ∙ and-false (canon r))
  where
    -- the lightest row is canonical
    canonical : (r : List ℕ) → IsLightest good key rows r → (b : Bool) → canon r ≡ b → canon r ≡ true
    canonical r d true e = e
    canonical r d false e =
        let (r', m, g, l, h) = move r d.is_row d.is_good e in
        absurd (⊎_elim (λ (k : key r < key r'). omega arith) (λ q. earlier_asym h q.1) (d.is_first r' m g (λ (q : r' ≡ r). earlier_irrefl (rw q at h))))

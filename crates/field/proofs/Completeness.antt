-- The table is complete: for 4 ≤ p ≤ 511, p stands in it exactly if it is irreducible; it ascends strictly (`table_ascends`), and holds 1, 2, 3,
-- 6, 9, 18, 30 polynomials by degree. One computed test and one lemma. The polynomials of a degree ascend strictly (`polynomials_ascend`), and are
-- the irreducible ones of that degree (`polynomials_exactly`). Assumes nothing.
use Rattle.std.specs.List.{list_any}
use Rattle.std.proofs.lemmas.List.Folds.{list_any_at, list_any_none}
use Rattle.std.proofs.lemmas.List.Elements.{All-from_get_or}
use borrow.Author.Tests.{eq-eqb, ne_eqb}
use mathlib.Core.Path.{◌≡◌, refl, sym, ap, ap₂, ◌∙◌, subst}
use mathlib.Core.Bool.{Bool, true, false, true≢false}
use mathlib.Core.List.Memᴰ
use mathlib.Core.List.{List, [], ◌∷◌, ◌++◌, map, Memᴰ}
use mathlib.Core.Logic.{⊎_elim, ◌↔◌}
use Prim.Native.Nat.{ℕ, zero, suc, ◌+◌, ◌-◌, ◌^◌, ◌≤◌, ◌<◌, suc-le-suc}
use native.Mathlib.Nat.{zero-lt-suc, le_of_suc-le-suc, not-suc-le-zero, eq-or-lt_of_le, add-suc, suc-add, zero-add, le_refl, pow-suc, eq-zero-or-pos}
use native.Mathlib.Omega.{arith}
use lib.Dec.{eqb, lit≤}
use lib.Pow.{pow_pos, pow_mono}
use lib.ListN.{length, get_or, take, drop}
use Rattle.field.specs.Polynomial.{◌⊕◌, digits_within, over_digits, degree, reduce, rem, Irreducible, is_irreducible, some_below}
use Rattle.field.specs.Table.{keep_if, passing, polynomials, table}
use Rattle.field.specs.Steps.{start_of}
use Rattle.field.proofs.Degrees.{HasDegree, has_degree, degree_is, degree_small}
use Rattle.field.proofs.Irreducibility.{trial, trial_is, irreducible_to, irreducible_from}

-- ---- lists of the numbers that pass a test

pub passing_cong : (t u : ℕ → Bool) (n s : ℕ) → ((k : ℕ) → s ≤ k → k < s + n → t k ≡ u k) → passing t n s ≡ passing u n s
unfolding passing
passing_cong t u zero s h = refl
passing_cong t u (suc n) s h =
    ap₂ (λ (b : Bool) (l : List ℕ). keep_if b s l) (h s (le_refl s) (omega arith))
    (passing_cong t u n (suc s) (λ k l r. h k (omega arith) (omega arith)))

pub passing_sound : (t : ℕ → Bool) (n s i : ℕ) → i < length (passing t n s) → t (get_or (passing t n s) i 0) ≡ true
unfolding passing
passing_sound t zero s i h = absurd (not-suc-le-zero h)
passing_sound t (suc n) s i h = at (passing_sound t n (suc s)) (t s) refl i h
  where
    at : ((i : ℕ) → i < length (passing t n (suc s)) → t (get_or (passing t n (suc s)) i 0) ≡ true)
        → (b : Bool) → t s ≡ b → (i : ℕ) → i < length (keep_if b s (passing t n (suc s)))
        → t (get_or (keep_if b s (passing t n (suc s))) i 0) ≡ true
    at ih true e zero h = e
    at ih true e (suc i) h = ih i (le_of_suc-le-suc h)
    at ih false e i h = ih i h

-- where a number stands in a list
Stands : ℕ → List ℕ → Type 0
Stands k l = (i : ℕ) × (i < length l) × (get_or l i 0 ≡ k)

later : (k s : ℕ) (b : Bool) (l : List ℕ) → Stands k l → Stands k (keep_if b s l)
unfolding Stands
later k s true l r = (suc r.0, suc-le-suc r.1, r.2)
later k s false l r = r

stands_member : (k : ℕ) (l : List ℕ) → Stands k l → Memᴰ k l
unfolding Stands
stands_member k [] (i, h, e) = absurd (not-suc-le-zero h)
stands_member k (a ∷ l) (zero, h, e) = Memᴰ.head (sym e)
stands_member k (a ∷ l) (suc i, h, e) = Memᴰ.tail (stands_member k l (i, le_of_suc-le-suc h, e))

passing_complete : (t : ℕ → Bool) (n s k : ℕ) → s ≤ k → k < s + n → t k ≡ true → Stands k (passing t n s)
unfolding passing Stands
passing_complete t zero s k l r e = let z : ⊥ = omega arith in absurd z
passing_complete t (suc n) s k l r e =
    ⊎_elim (λ (f : s ≡ k). subst (λ (b : Bool). Stands k (keep_if b s (passing t n (suc s)))) (sym (ap t f ∙ e)) (0, zero-lt-suc (length (passing t n (suc s))), f))
    (λ (h : s < k). later k s (t s) (passing t n (suc s)) (passing_complete t n (suc s) k h (omega arith) e))
    (eq-or-lt_of_le l)

-- a member passes the test
pub member_passing : (t : ℕ → Bool) {k : ℕ} (n s : ℕ) → Memᴰ k (passing t n s) → (s ≤ k) × (k < s + n) × (t k ≡ true)
unfolding passing
member_passing t zero s m = absurd (Memᴰ.not-nil m)
member_passing t {k} (suc n) s m = at (member_passing t n (suc s)) (t s) refl m
  where
    at : (Memᴰ k (passing t n (suc s)) → (suc s ≤ k) × (k < suc s + n) × (t k ≡ true)) → (b : Bool) → t s ≡ b
        → Memᴰ k (keep_if b s (passing t n (suc s))) → (s ≤ k) × (k < s + suc n) × (t k ≡ true)
    at ih true e (Memᴰ.head q) = (omega arith, omega arith, ap t q ∙ e)
    at ih true e (Memᴰ.tail m) = let r = ih m in (omega arith, omega arith, r.2)
    at ih false e m = let r = ih m in (omega arith, omega arith, r.2)

-- a list whose numbers rise strictly, the first of them `low` or more
pub data Ascends : ℕ → List ℕ → Type 0 where
  no_more : {low : ℕ} → Ascends low []
  rise : {low k : ℕ} {l : List ℕ} → low ≤ k → Ascends (suc k) l → Ascends low (k ∷ l)

pub passing_ascends : (t : ℕ → Bool) (n s : ℕ) → Ascends s (passing t n s)
unfolding passing
passing_ascends t zero s = no_more
passing_ascends t (suc n) s = kept (t s) (passing_ascends t n (suc s))
  where
    lower : {low : ℕ} {l : List ℕ} → Ascends (suc low) l → Ascends low l
    lower no_more = no_more
    lower {low} (rise {k = k} h a) = let h' : low ≤ k = omega arith in rise h' a

    kept : {l : List ℕ} (b : Bool) → Ascends (suc s) l → Ascends s (keep_if b s l)
    kept true a = rise (le_refl s) a
    kept false a = lower a

pub ascends_above : {low k : ℕ} {l : List ℕ} → Ascends low l → Memᴰ k l → low ≤ k
ascends_above {k = k} (no_more {low = low}) m = absurd (Memᴰ.not-nil m)
ascends_above (rise h a) (Memᴰ.head e) = omega arith
ascends_above (rise h a) (Memᴰ.tail m) = omega (arith, ascends_above a m)

-- the number at a later place is larger
pub ascends_places : {low : ℕ} {l : List ℕ} → Ascends low l → (i j : ℕ) → i < j → j < length l → get_or l i 0 < get_or l j 0
unfolding Stands
ascends_places no_more i j r s = absurd (not-suc-le-zero s)
ascends_places (rise h a) i zero r s = absurd (not-suc-le-zero r)
ascends_places (rise {l = l} h a) zero (suc j) r s = ascends_above a (stands_member (get_or l j 0) l (j, le_of_suc-le-suc s, refl))
ascends_places (rise h a) (suc i) (suc j) r s = ascends_places a i j (le_of_suc-le-suc r) (le_of_suc-le-suc s)

-- and where it is, the list ascends
pub places_ascend : (low : ℕ) (l : List ℕ) → ((i : ℕ) → i < length l → low ≤ get_or l i 0)
    → ((i j : ℕ) → i < j → j < length l → get_or l i 0 < get_or l j 0) → Ascends low l
places_ascend low [] h rises = no_more
places_ascend low (k ∷ l) h rises =
    rise (h 0 (zero-lt-suc (length l)))
    (places_ascend (suc k) l (λ i r. rises 0 (suc i) (zero-lt-suc i) (suc-le-suc r)) (λ i j r s. rises (suc i) (suc j) (suc-le-suc r) (suc-le-suc s)))

-- two that ascend and hold the same numbers are the same list
pub ascends_same : {low low' : ℕ} {l r : List ℕ} → Ascends low l → Ascends low' r → ((k : ℕ) → Memᴰ k l ↔ Memᴰ k r) → l ≡ r
ascends_same no_more no_more same = refl
ascends_same no_more (rise {k = k} h a) same = absurd (Memᴰ.not-nil ((same k).1 (Memᴰ.head refl)))
ascends_same (rise {k = k} h a) no_more same = absurd (Memᴰ.not-nil ((same k).0 (Memᴰ.head refl)))
ascends_same (rise {k = k} {l = l} h a) (rise {k = k'} {l = r} h' a') same = ap₂ (λ (x : ℕ) (y : List ℕ). x ∷ y) first (ascends_same a a' rest)
  where
    first : k ≡ k'
    first =
        omega (
          arith,
          ascends_above (rise (le_refl k') a') ((same k).0 (Memᴰ.head refl)),
          ascends_above (rise (le_refl k) a) ((same k').1 (Memᴰ.head refl)),
        )

    behind : {x y : ℕ} {t : List ℕ} → y < x → Memᴰ x (y ∷ t) → Memᴰ x t
    behind r (Memᴰ.head e) = let z : ⊥ = omega arith in absurd z
    behind r (Memᴰ.tail m) = m

    rest : (x : ℕ) → Memᴰ x l ↔ Memᴰ x r
    rest x = (
      λ m. behind (omega (arith, first, ascends_above a m)) ((same x).0 (Memᴰ.tail m)),
      λ m. behind (omega (arith, first, ascends_above a' m)) ((same x).1 (Memᴰ.tail m)),
    )

-- a range cut in two
pub passing_append : (t : ℕ → Bool) (n k s : ℕ) → passing t (n + k) s ≡ passing t n s ++ passing t k (n + s)
unfolding passing
passing_append t zero k s = ap₂ (passing t) (zero-add k) (sym (zero-add s))
passing_append t (suc n) k s =
    ap (λ (x : ℕ). passing t x s) (suc-add n k)
    ∙ ap (keep_if (t s) s) (passing_append t n k (suc s))
    ∙ ap (λ (x : ℕ). keep_if (t s) s (passing t n (suc s) ++ passing t k x)) (add-suc n s ∙ sym (suc-add n s))
    ∙ keep_append (t s) s (passing t n (suc s)) (passing t k (suc n + s))
  where
    keep_append : (b : Bool) (a : ℕ) (l r : List ℕ) → keep_if b a (l ++ r) ≡ keep_if b a l ++ r
    keep_append true a l r = refl
    keep_append false a l r = refl

-- n numbers from s on
count_from : ℕ → ℕ → List ℕ
count_from zero s = []
count_from (suc n) s = s ∷ count_from n (suc s)

map_count : {A : Type 0} (f : ℕ → A) (d : A) (n s k : ℕ) → k < n → get_or (map f (count_from n s)) k d ≡ f (k + s)
unfolding count_from
map_count f d zero s k h = absurd (not-suc-le-zero h)
map_count f d (suc n) s zero h = ap f (sym (zero-add s))
map_count f d (suc n) s (suc k) h = map_count f d n (suc s) k (le_of_suc-le-suc h) ∙ ap f (add-suc k s ∙ sym (suc-add k s))

-- ---- the table

-- the polynomials of degree m in the table
unfoldable pub part : ℕ → List ℕ
part m = take (start_of (suc m) - start_of m) (drop (start_of m) table)

-- the test: trial division of the numbers of each degree leaves just that degree's part of the table
computed : map (λ m. passing trial (2 ^ m) (2 ^ m)) (count_from 7 2) ≡ map part (count_from 7 2)
unfolding count_from part start_of passing trial some_below rem over_digits digits_within reduce ◌⊕◌ table
computed = refl

trial_part : (m : ℕ) → 2 ≤ m → m ≤ 8 → passing trial (2 ^ m) (2 ^ m) ≡ part m
trial_part m l u =
    subst (λ (n : ℕ). passing trial (2 ^ n) (2 ^ n) ≡ part n) back
    (sym (map_count (λ n. passing trial (2 ^ n) (2 ^ n)) [] 7 2 (m - 2) below)
    ∙ ap (λ (x : List (List ℕ)). get_or x (m - 2) []) computed
    ∙ map_count part [] 7 2 (m - 2) below)
  where
    back : m - 2 + 2 ≡ m
    back = omega arith

    below : m - 2 < 7
    below = omega arith

-- the part of the table for a degree holds the irreducible polynomials of that degree
pub polynomials_part : (m : ℕ) → 2 ≤ m → m ≤ 8 → polynomials m ≡ part m
unfolding polynomials
polynomials_part m l u =
    passing_cong is_irreducible trial (2 ^ m) (2 ^ m)
    (λ k a b. sym (trial_is k (omega (arith, pow_pos m)) (omega (arith, pow_mono {j = 8} u))))
    ∙ trial_part m l u

-- they ascend
pub polynomials_ascend : (m : ℕ) → Ascends (2 ^ m) (polynomials m)
unfolding polynomials
polynomials_ascend m = passing_ascends is_irreducible (2 ^ m) (2 ^ m)

-- the list holds the irreducible polynomials of the degree, and no other number
pub polynomials_exactly : (m p : ℕ) → 0 < m → Memᴰ p (polynomials m) ↔ (Irreducible p × (degree p ≡ m))
unfolding polynomials
polynomials_exactly m p h = (to, λ (i, e). from i e)
  where
    to : Memᴰ p (passing is_irreducible (2 ^ m) (2 ^ m)) → Irreducible p × (degree p ≡ m)
    to k =
        let r = member_passing is_irreducible (2 ^ m) (2 ^ m) k in
        (irreducible_to p r.2, degree_is p m (record { low = r.0; high = omega (arith, pow-suc 2 m) }))

    positive : degree p ≡ m → 0 < p
    positive e =
        ⊎_elim (λ (z : p ≡ 0). let y : ⊥ = omega (arith, degree_small p (omega arith)) in absurd y) (λ (q : 0 < p). q) (eq-zero-or-pos p)

    from : Irreducible p → degree p ≡ m → Memᴰ p (passing is_irreducible (2 ^ m) (2 ^ m))
    from i e =
        let d : HasDegree p m = rw e at (has_degree p (positive e)) in
        stands_member p _ (passing_complete is_irreducible (2 ^ m) (2 ^ m) p d.low (omega (arith, pow-suc 2 m)) (irreducible_from p i))

-- 1, 2, 3, 6, 9, 18, 30 by degree
pub polynomials_count : (m : ℕ) → 2 ≤ m → m ≤ 8 → length (polynomials m) ≡ get_or (1 ∷ 2 ∷ 3 ∷ 6 ∷ 9 ∷ 18 ∷ 30 ∷ []) (m - 2) 0
polynomials_count m l u =
    ap length (polynomials_part m l u)
    ∙ ap (λ (n : ℕ). length (part n)) (sym back)
    ∙ sym (map_count (λ n. length (part n)) 0 7 2 (m - 2) (omega arith))
    ∙ ap (λ (x : List ℕ). get_or x (m - 2) 0) lengths
  where
    back : m - 2 + 2 ≡ m
    back = omega arith

    lengths : map (λ n. length (part n)) (count_from 7 2) ≡ 1 ∷ 2 ∷ 3 ∷ 6 ∷ 9 ∷ 18 ∷ 30 ∷ []
    lengths = unfold count_from part start_of table in refl

-- two ranges that adjoin
joined : {l r : List ℕ} (n k s : ℕ) → passing trial n s ≡ l → passing trial k (n + s) ≡ r → passing trial (n + k) s ≡ l ++ r
joined n k s e f = passing_append trial n k s ∙ ap₂ (λ (x y : List ℕ). x ++ y) e f

-- the seven parts are the whole table
table_trial : passing trial 508 4 ≡ table
unfolding part start_of table
table_trial =
    joined 4 504 4 (trial_part 2 (lit≤ tt) (lit≤ tt))
    (joined 8 496 8 (trial_part 3 (lit≤ tt) (lit≤ tt))
    (joined 16 480 16 (trial_part 4 (lit≤ tt) (lit≤ tt))
    (joined 32 448 32 (trial_part 5 (lit≤ tt) (lit≤ tt))
    (joined 64 384 64 (trial_part 6 (lit≤ tt) (lit≤ tt))
    (joined 128 256 128 (trial_part 7 (lit≤ tt) (lit≤ tt)) (trial_part 8 (lit≤ tt) (lit≤ tt)))))))

table_is : passing is_irreducible 508 4 ≡ table
table_is = passing_cong is_irreducible trial 508 4 (λ k a b. sym (trial_is k (omega arith) (omega arith))) ∙ table_trial

pub table_length : length table ≡ 69
unfolding table
table_length = refl

-- the table ascends
pub table_ascends : (i j : ℕ) → i < j → j < length table → get_or table i 0 < get_or table j 0
table_ascends = ascends_places (subst (Ascends 4) table_is (passing_ascends is_irreducible 508 4))

-- every entry of the table is irreducible
pub table_sound : (i : ℕ) → i < 69 → is_irreducible (get_or table i 0) ≡ true
table_sound i h =
    subst (λ (l : List ℕ). i < length l → is_irreducible (get_or l i 0) ≡ true) table_is (passing_sound is_irreducible 508 4 i)
    (subst (λ (n : ℕ). i < n) (sym table_length) h)

-- an irreducible polynomial from 4 to 511 stands in the table
pub table_complete : (p : ℕ) → 4 ≤ p → p ≤ 511 → is_irreducible p ≡ true → (i : ℕ) × (i < 69) × (get_or table i 0 ≡ p)
unfolding Stands
table_complete p l u e =
    let r : Stands p table = subst (Stands p) table_is (passing_complete is_irreducible 508 4 p l (omega arith) e) in
    (r.0, subst (λ (n : ℕ). r.0 < n) table_length r.1, r.2)

-- a polynomial in range is one of the table exactly if it is irreducible
pub listed : (p : ℕ) → 4 ≤ p → p ≤ 511 → list_any (λ q. eqb q p) table ≡ is_irreducible p
listed p l u = at (is_irreducible p) refl
  where
    at : (b : Bool) → is_irreducible p ≡ b → list_any (λ q. eqb q p) table ≡ b
    at true e =
        let r = table_complete p l u e in
        list_any_at (λ q. eqb q p) table r.0 0 (subst (λ (n : ℕ). r.0 < n) (sym table_length) r.1) (eq-eqb _ p r.2)
    at false e =
        list_any_none (λ q. eqb q p) table
        (All-from_get_or (λ q. eqb q p ≡ false) table 0
        (λ i h. ne_eqb (get_or table i 0) p (λ d. true≢false (sym (table_sound i (subst (λ (n : ℕ). i < n) table_length h)) ∙ ap is_irreducible d ∙ e))))

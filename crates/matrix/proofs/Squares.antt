-- MDS by square blocks, over any field: all of them; for an involution those up to half the order. Which choices of columns are looked
-- at, and from which size on, is open. Assumes nothing.
use mathlib.Core.Path.{◌≡◌, refl, sym, ap, ap₂, ◌∙◌}
use mathlib.Core.Bool.{Bool, true, false, not, ◌&&◌, ◌||◌, false≢true, true≢false}
use mathlib.Core.List.{List, Memᴰ}
use mathlib.Core.Logic.{⊎_elim}
use Prim.Native.Nat.{ℕ, zero, suc, ◌+◌, ◌-◌, ◌/◌, ◌^◌, ◌≤◌, ◌<◌, suc-le-suc}
use native.Mathlib.Nat.{not-suc-le-zero, le_of_suc-le-suc, le_refl, le-suc, le_trans, eq-or-lt_of_le}
use native.Mathlib.Numerals.{add-one}
use native.Mathlib.Omega.{arith}
use lib.Dec.{eqb, ltb}
use lib.ListN.{length, get_or}
use Rattle.std.proofs.lemmas.List.FromFn.{length-range_with_len, get_or-range_with_len}
use Rattle.std.specs.Prelude.{MatchBool}
use Rattle.std.specs.List.{range_with_len, AllWithin, HoldsAt}
use borrow.Author.Tests.{ltb-false, le-ltb, eqb-true, eq-eqb, not-false}
use Rattle.algebra.specs.Operations.{Operations}
use Rattle.algebra.proofs.FieldLaws.{Field}
use Rattle.algebra.specs.Matrix.{det, weight, activity, is_mds, is_involution, block, chosen}
use Rattle.algebra.proofs.Sums.{le_or_lt}
use Rattle.algebra.proofs.Weights.{weight_le}
use Rattle.algebra.proofs.Branch.{mds_activity, activity_mds}
use Rattle.algebra.proofs.Involution.{and_left, and_right, half_suffices}
use Rattle.algebra.proofs.Symmetry.{same_bool}
use Rattle.algebra.proofs.Choices.{support_mask, chosen_lt}
use Rattle.algebra.proofs.Blocks.{singular_light, light_block}
use Rattle.algebra.proofs.Bridge.{Homomorphism, det_bridge}
use Rattle.field.specs.Steps.{every_below}
use Rattle.matrix.specs.Steps.Choice.{is_looked_at}
use Rattle.matrix.specs.Steps.Regular.{is_regular_block, regular_of_size, regular_between}

-- ---- tests of all numbers below n

-- where all pass, each does
pub every_each : (n : ℕ) (test : ℕ → Bool) → every_below n test ≡ true → (k : ℕ) → k < n → test k ≡ true
unfolding every_below
every_each zero test e k l = absurd (not-suc-le-zero l)
every_each (suc n) test e k l =
    let below : k < n → test k ≡ true = every_each n test (and_left (every_below n test) (test n) e) k in
    ⊎_elim (λ (q : k ≡ n). rw q (and_right (every_below n test) (test n) e)) below (eq-or-lt_of_le (le_of_suc-le-suc l))

-- where each passes, all do
pub each_every : (n : ℕ) (test : ℕ → Bool) → ((k : ℕ) → k < n → test k ≡ true) → every_below n test ≡ true
unfolding every_below
each_every zero test h = refl
each_every (suc n) test h = rw (each_every n test (λ k l. h k (le_trans l (le-suc n))), h n (le_refl (suc n)))

-- what `(0..n).all(..)` tells: `search` takes what came at place k of a range where a list is read at k, and any list will do
pub every_told : (row : List ℕ) (n : ℕ) (test : ℕ → Bool) (b : Bool)
    → ((b ≡ true → (k : ℕ) → k < n → get_or row k 0 ≡ get_or row k 0 → test k ≡ true) × (((k : ℕ) → k < n → test k ≡ true) → b ≡ true))
    → b ≡ every_below n test
every_told row n test b h =
    same_bool b (every_below n test) (λ e. each_every n test (λ k l. h.0 e k l refl)) (λ e. h.1 (every_each n test e))

-- where one fails, not all pass
pub every_not : (n : ℕ) (test : ℕ → Bool) (k : ℕ) → k < n → test k ≡ false → false ≡ every_below n test
every_not n test k l e =
    same_bool false (every_below n test) (λ q. absurd (false≢true q)) (λ q. sym e ∙ every_each n test q k l)

-- where not all pass, one does not
pub every_fails : (n : ℕ) (test : ℕ → Bool) → every_below n test ≡ false → (k : ℕ) × (k < n) × (test k ≡ false)
unfolding every_below
every_fails zero test e = absurd (true≢false e)
every_fails (suc n) test e = decide (every_below n test) refl (every_fails n test)
  where
    decide : (t : Bool) → every_below n test ≡ t → (every_below n test ≡ false → (k : ℕ) × (k < n) × (test k ≡ false))
        → (k : ℕ) × (k < suc n) × (test k ≡ false)
    decide true q less = (n, le_refl (suc n), rw q at e)
    decide false q less = let r = less q in (r.0, le_trans r.1 (le-suc n), r.2)

-- ---- one of two tests

-- the second passes where the first fails: one passes
or_of : (a t : Bool) → (a ≡ false → t ≡ true) → (a || t) ≡ true
or_of true t h = refl
or_of false t h = h refl

-- and the other way round
of_or : (a t : Bool) → (a || t) ≡ true → a ≡ false → t ≡ true
of_or a t e q = rw q at e

-- tests that agree below n
pub every_same : (n : ℕ) (f g : ℕ → Bool) → ((k : ℕ) → k < n → f k ≡ g k) → every_below n f ≡ every_below n g
unfolding every_below
every_same zero f g h = refl
every_same (suc n) f g h = ap₂ ◌&&◌ (every_same n f g (λ k l. h k (omega arith))) (h n (omega arith))

-- what an iterator's `all` over the numbers from a on, below b, tells: each passes, or one fails
abbrev pub AllBetween : ℕ → ℕ → (ℕ → Bool) → Bool → Type 0
AllBetween a b test t =
    let xs : List ℕ = range_with_len a (b - a) in
    MatchBool t (AllWithin (λ k. test k ≡ true) xs 0 (length xs)) ((i : ℕ) × (i < length xs) × HoldsAt (λ k. test k ≡ false) xs i)

-- so it tells whether each below b passes that is not below a
pub every_between : (a b : ℕ) (test : ℕ → Bool) (t : Bool) → AllBetween a b test t → t ≡ every_below b (λ k. ltb k a || test k)
every_between a b test true h =
    sym (each_every b _ (λ k l. or_of (ltb k a) (test k) (λ z. passes k l (ltb-false k a z))))
  where
    passes : (k : ℕ) → k < b → a ≤ k → test k ≡ true
    passes k l m =
        let e : a + (k - a) ≡ k = omega arith in
        rw (get_or-range_with_len a (b - a) (k - a) 0 (omega arith), e) at (h (k - a) 0 (omega arith) (omega (arith, length-range_with_len a (b - a))))
every_between a b test false h =
    let less : h.0 < b - a = omega (arith, h.1, length-range_with_len a (b - a)) in
    every_not b _ (a + h.0) (omega arith)
    (rw (le-ltb (a + h.0) a (omega arith)) (rw (get_or-range_with_len a (b - a) h.0 0 less) at (h.2 0)))

-- ---- the test of one block

module _ (K : Operations) (n : ℕ) (f : ℕ → ℕ → K.Element) where
  -- a square block of size k with determinant 0
  pub record Singular (k r s : ℕ) : Type 0 where
    pub lines : length (chosen n r) ≡ k
    pub columns : length (chosen n s) ≡ k
    pub null : K.is_null (det K k (block f (chosen n r) (chosen n s))) ≡ true

  -- where there is none, the test passes
  pub regular_of : (k r s : ℕ) → (Singular k r s → ⊥) → is_regular_block K n f k r s ≡ true
  unfolding is_regular_block
  regular_of k r s h = decide (eqb (length (chosen n r)) k) (eqb (length (chosen n s)) k) (K.is_null d) refl refl refl
    where
      d : K.Element
      d = det K k (block f (chosen n r) (chosen n s))

      decide : (a b c : Bool) → eqb (length (chosen n r)) k ≡ a → eqb (length (chosen n s)) k ≡ b → K.is_null d ≡ c
          → (not (a && b) || not c) ≡ true
      decide true true true x y z = absurd (h (record { lines = eqb-true _ _ x; columns = eqb-true _ _ y; null = z }))
      decide true true false x y z = refl
      decide true false c x y z = refl
      decide false b c x y z = refl

  -- where the test passes, there is none
  of_regular : (k r s : ℕ) → is_regular_block K n f k r s ≡ true → Singular k r s → ⊥
  unfolding is_regular_block
  of_regular k r s e b =
      false≢true (rw (eq-eqb (length (chosen n r)) k b.lines, eq-eqb (length (chosen n s)) k b.columns, b.null) at e)

  -- ---- the test of all blocks

  -- no block that is looked at is singular: the test passes
  pub none_regular : (look above most : ℕ)
      → ((k r s : ℕ) → above < k → k ≤ most → r < 2 ^ n → s < 2 ^ n → is_looked_at look s ≡ true → Singular k r s → ⊥)
      → regular_between K n f look above most ≡ true
  unfolding regular_between regular_of_size
  none_regular look above most h =
      each_every most _ (λ k a. or_of (ltb k above) _ (λ z. each_every (2 ^ n) _ (λ s c. each_every (2 ^ n) _ (λ r b.
      or_of (not (is_looked_at look s)) _ (λ q.
      regular_of (suc k) r s (h (suc k) r s (suc-le-suc (ltb-false k above z)) a b c (not-false (is_looked_at look s) q)))))))

  -- and the other way round
  pub regular_none : (look above most : ℕ) → regular_between K n f look above most ≡ true
      → (k r s : ℕ) → above < k → k ≤ most → r < 2 ^ n → s < 2 ^ n → is_looked_at look s ≡ true → Singular k r s → ⊥
  unfolding regular_between regular_of_size
  regular_none look above most e zero r s z a b c q = absurd (not-suc-le-zero z)
  regular_none look above most e (suc k) r s z a b c q =
      let sized = of_or (ltb k above) _ (every_each most _ e k a) (le-ltb k above (le_of_suc-le-suc z)) in
      of_regular (suc k) r s
      (of_or (not (is_looked_at look s)) _ (every_each (2 ^ n) _ (every_each (2 ^ n) _ sized s c) r b) (ap not q))

  -- the same as an iterator's `all` over the sizes tells it
  pub sizes_all : (look above most : ℕ) (t : Bool) → AllBetween above most (λ k. regular_of_size K n f look (k + 1)) t
      → t ≡ regular_between K n f look above most
  unfolding regular_between
  sizes_all look above most t h =
      every_between above most _ t h
      ∙ every_same most _ _ (λ k l. ap (λ (i : ℕ). ltb k above || regular_of_size K n f look i) (add-one k))

  -- sizes of which every block is known to be regular need not be looked at
  pub sizes_known : (look above most : ℕ)
      → ((k r s : ℕ) → 1 ≤ k → k ≤ above → r < 2 ^ n → s < 2 ^ n → is_regular_block K n f k r s ≡ true)
      → regular_between K n f look 0 most ≡ regular_between K n f look above most
  sizes_known look above most h =
      same_bool _ _
      (λ t. none_regular look above most (λ k r s z. regular_none look 0 most t k r s (omega arith)))
      (λ t. none_regular look 0 most (λ k r s z a b c q.
      ⊎_elim (λ l. of_regular k r s (h k r s z l b c)) (λ l. regular_none look above most t k r s l a b c q) (le_or_lt k above)))

-- ---- MDS

-- the choices that are looked at where all are
all_looked_at : (s : ℕ) → is_looked_at 0 s ≡ true
unfolding is_looked_at
all_looked_at s = refl

module _ (K : Operations) (L : Field K) (elements : List K.Element) (complete : (a : K.Element) → Memᴰ a elements) where
  module _ (n : ℕ) (f : ℕ → ℕ → K.Element) where
    -- an MDS matrix has no singular block
    pub mds_regular : is_mds K elements n f ≡ true → (look above most : ℕ) → regular_between K n f look above most ≡ true
    mds_regular m look above most = none_regular K n f look above most (λ k r s z a b c q. clash k r s)
      where
        clash : (k r s : ℕ) → Singular K n f k r s → ⊥
        clash k r s w =
            let x = singular_light K L n f r s k w.lines w.columns w.null in
            omega (arith, mds_activity K L elements complete n f m x.0 x.1 x.2, x.4)

    -- a light input gives a singular block
    light_singular : (x : List K.Element) → length x ≡ n → 0 < weight K x → activity K n f x ≤ n → (look most : ℕ)
        → weight K x ≤ most → is_looked_at look (support_mask K x) ≡ true → regular_between K n f look 0 most ≡ true → ⊥
    light_singular x e h l look most a q t =
        let w = light_block K L n f x e h l in
        regular_none K n f look 0 most t (weight K x) w.0 w.1 h a w.2 w.3 (rw w.6 q)
        (record { lines = w.4; columns = w.5; null = w.7 })

    -- ---- which choices of columns are looked at

    -- some input with as many nonzero words, in and out, has its nonzero words in a choice of columns that is looked at
    abbrev pub LookedAt : ℕ → List K.Element → Type 0
    LookedAt look x =
        (y : List K.Element) × (length y ≡ n) × (weight K y ≡ weight K x) × (activity K n f y ≡ activity K n f x)
        × (is_looked_at look (support_mask K y) ≡ true)

    -- the blocks that are looked at are regular: no input that has such an input is light
    none_light : (look most : ℕ) → regular_between K n f look 0 most ≡ true
        → (x : List K.Element) → LookedAt look x → 0 < weight K x → weight K x ≤ most → n < activity K n f x
    none_light look most t x y w l =
        ⊎_elim
        (λ g. absurd (light_singular y.0 y.1 (omega (arith, y.2)) (omega (arith, y.3)) look most (omega (arith, y.2)) y.4 t))
        (λ g. g) (le_or_lt (activity K n f x) n)

    -- MDS: every square block that is looked at has a nonzero determinant, where every input has such an input
    pub looked_decides : 0 < n → (look : ℕ) → ((x : List K.Element) → length x ≡ n → LookedAt look x)
        → is_mds K elements n f ≡ regular_between K n f look 0 n
    looked_decides h look looked =
        same_bool _ _ (λ m. mds_regular m look 0 n) (λ t.
        activity_mds K L elements complete n f h (λ x e w. none_light look n t x (looked x e) w (omega (arith, weight_le K x))))

    -- MDS: every square block has a nonzero determinant
    pub mds_is_regular : 0 < n → is_mds K elements n f ≡ regular_between K n f 0 0 n
    mds_is_regular h = looked_decides h 0 (λ x e. (x, e, refl, refl, all_looked_at _))

    -- ---- involutions

    -- of an involution the blocks up to half the order decide, where every input has such an input
    pub half_decides : 0 < n → is_involution K elements n f ≡ true → (look most : ℕ) → n ≤ suc (most + most)
        → ((x : List K.Element) → length x ≡ n → LookedAt look x)
        → is_mds K elements n f ≡ regular_between K n f look 0 most
    half_decides h i look most half looked =
        same_bool _ _ (λ m. mds_regular m look 0 most) (λ t.
        activity_mds K L elements complete n f h
        (half_suffices K L elements complete n f i (λ x e w l. none_light look most t x (looked x e) w (omega arith))))

    -- an involution is MDS exactly if its square blocks up to half the order are regular; at order 1 there is none, and it is MDS
    pub involution_half : 0 < n → is_involution K elements n f ≡ true → is_mds K elements n f ≡ regular_between K n f 0 0 (n / 2)
    involution_half h i = half_decides h i 0 (n / 2) (omega arith) (λ x e. (x, e, refl, refl, all_looked_at _))

-- ---- a map that keeps the operations keeps the tests

module _ (K M : Operations) (h : K.Element → M.Element) (H : Homomorphism K M h) (n : ℕ) (f : ℕ → ℕ → K.Element) (g : ℕ → ℕ → M.Element) (e : (i j : ℕ) → i < n → j < n → h (f i j) ≡ g i j) where
  -- blocks are kept
  pub block_bridge : (r s i j : ℕ) → i < length (chosen n r) → j < length (chosen n s)
      → h (block f (chosen n r) (chosen n s) i j) ≡ block g (chosen n r) (chosen n s) i j
  unfolding block
  block_bridge r s i j l m = e (get_or (chosen n r) i 0) (get_or (chosen n s) j 0) (chosen_lt n r i l) (chosen_lt n s j m)

  -- and so are their determinants
  det_block : (k r s : ℕ) → length (chosen n r) ≡ k → length (chosen n s) ≡ k
      → M.is_null (det M k (block g (chosen n r) (chosen n s))) ≡ K.is_null (det K k (block f (chosen n r) (chosen n s)))
  det_block k r s a b =
      ap M.is_null (sym (det_bridge K M h H k _ _ (λ i j l m. block_bridge r s i j (rw a l) (rw b m))))
      ∙ H.keeps_is_null (det K k (block f (chosen n r) (chosen n s)))

  -- a singular block is kept
  singular_bridge : (k r s : ℕ) → Singular K n f k r s → Singular M n g k r s
  singular_bridge k r s w =
      record { lines = w.lines; columns = w.columns; null = det_block k r s w.lines w.columns ∙ w.null }

  -- and none is new
  pub bridge_singular : (k r s : ℕ) → Singular M n g k r s → Singular K n f k r s
  bridge_singular k r s w =
      record { lines = w.lines; columns = w.columns; null = sym (det_block k r s w.lines w.columns) ∙ w.null }

  -- the test of all blocks is kept
  pub regular_bridge : (look above most : ℕ) → regular_between M n g look above most ≡ regular_between K n f look above most
  regular_bridge look above most =
      same_bool _ _
      (λ t. none_regular K n f look above most (λ k r s z a b c q w.
      regular_none M n g look above most t k r s z a b c q (singular_bridge k r s w)))
      (λ t. none_regular M n g look above most (λ k r s z a b c q w.
      regular_none K n f look above most t k r s z a b c q (bridge_singular k r s w)))

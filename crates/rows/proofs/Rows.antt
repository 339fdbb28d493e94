-- The rows over the candidates: which they are, and that they stand in dictionary order.
-- Assumes nothing.
use mathlib.Core.Path.{◌≡◌, refl, sym, ap}
use mathlib.Core.Logic.{◌↔◌, ◌⊎◌, inl, inr, ⊎_elim}
use mathlib.Core.Bool.{Bool, true, false, ◌||◌, or-false, false≢true}
use mathlib.Core.List.Memᴰ
use mathlib.Core.List.{List, [], ◌∷◌, ◌++◌, map, Memᴰ}
use Prim.Native.Nat.{ℕ, zero, suc, ◌<◌}
use native.Mathlib.Omega.{arith}
use native.Mathlib.Nat.{suc_inj}
use lib.ListN.{length, get_or}
use lib.Dec.{eqb}
use borrow.Author.Tests.{eqb-true, eq-eqb}
use Rattle.algebra.specs.Matrix.{tabulate, up_to, before, words}
use Rattle.algebra.proofs.Words.{tabulate_mem, mem_tabulate}
use Rattle.algebra.proofs.Symmetry.{same_bool}
use Rattle.field.specs.Table.{keep_if}
use Rattle.rows.specs.Lightest.{member, among, ascending, rows_over, Earlier, differs, agrees}

-- each element of the list before those behind it
pub data Sorted {A : Type 0} (Before : A → A → Type 0) : List A → Type 0 where
  end : Sorted Before []
  then : {x : A} {xs : List A} → ((y : A) → Memᴰ y xs → Before x y) → Sorted Before xs → Sorted Before (x ∷ xs)

-- ---- dictionary order

-- two rows are not earlier than each other
pub earlier_asym : {r s : List ℕ} → Earlier r s → Earlier s r → ⊥
earlier_asym (differs h) (differs k) = omega arith
earlier_asym (differs h) (agrees e k) = omega arith
earlier_asym (agrees e h) (differs k) = omega arith
earlier_asym (agrees e h) (agrees f k) = earlier_asym h k

-- no row is earlier than itself
pub earlier_irrefl : {r : List ℕ} → Earlier r r → ⊥
earlier_irrefl h = earlier_asym h h

-- a row is earlier than another where the entries before some place agree and its entry there is the smaller
pub earlier_at : (r s : List ℕ) (i : ℕ) → i < length r → i < length s → ((k : ℕ) → k < i → get_or r k 0 ≡ get_or s k 0) → get_or r i 0 < get_or s i 0 → Earlier r s
earlier_at [] s i h k same less = absurd (omega arith)
earlier_at (a ∷ r) [] i h k same less = absurd (omega arith)
earlier_at (a ∷ r) (b ∷ s) zero h k same less = differs less
earlier_at (a ∷ r) (b ∷ s) (suc i) h k same less =
    agrees (same 0 (omega arith)) (earlier_at r s i (omega arith) (omega arith) (λ j l. same (suc j) (omega arith)) less)

-- ---- sorted lists

module _ {A : Type 0} {R : A → A → Type 0} where
  -- two sorted lists behind each other, all of the first before all of the second
  pub sorted_append : {xs ys : List A} → Sorted R xs → Sorted R ys → ((x y : A) → Memᴰ x xs → Memᴰ y ys → R x y) → Sorted R (xs ++ ys)
  sorted_append end k h = k
  sorted_append (then {x = x} {xs = xs} p s) k h =
      then (λ y m. ⊎_elim (λ l. p y l) (λ l. h x y (Memᴰ.head refl) l) (Memᴰ.append_cases xs m))
      (sorted_append s k (λ x y m. h x y (Memᴰ.tail m)))

  -- a function that keeps the order
  pub sorted_map : {B : Type 0} {Q : B → B → Type 0} (f : A → B) {xs : List A} → ((x y : A) → R x y → Q (f x) (f y)) → ((x y : B) (z : B) → x ≡ y → Q z y → Q z x)
      → Sorted R xs → Sorted Q (map f xs)
  sorted_map f h c end = end
  sorted_map f h c (then {x = x} {xs = xs} p s) =
      then (λ y m. let (z, k, e) = Memᴰ.of_map f xs m in c y (f z) (f x) (sym e) (h x z (p z k))) (sorted_map f h c s)

-- ---- the words over the letters

module _ {A : Type 0} where
  -- a letter before a word is a row of the list
  pub before_mem : {a : A} {ls : List A} {ws : List (List A)} {w : List A} → Memᴰ a ls → Memᴰ w ws → Memᴰ (a ∷ w) (before ls ws)
  unfolding before
  before_mem {w = w} (Memᴰ.head {x = x} e) k =
      Memᴰ.append_left _ (Memᴰ.cast (ap {B = List A} (λ b. b ∷ w) e) (Memᴰ.map (λ w. x ∷ w) k))
  before_mem {ws = ws} (Memᴰ.tail {x = x} m) k = Memᴰ.append_right (map (λ w. x ∷ w) ws) (before_mem m k)

  -- each row of the list is a letter before a word
  pub mem_before : (ls : List A) (ws : List (List A)) (x : List A) → Memᴰ x (before ls ws) → (a : A) × (w : List A) × Memᴰ a ls × Memᴰ w ws × (x ≡ a ∷ w)
  unfolding before
  mem_before [] ws x m = absurd (Memᴰ.not-nil m)
  mem_before (l ∷ ls) ws x m =
      ⊎_elim (λ k. let (w, j, e) = Memᴰ.of_map (λ w. l ∷ w) ws k in (l, w, Memᴰ.head refl, j, sym e))
      (λ k. let (a, w, i, j, e) = mem_before ls ws x k in (a, w, Memᴰ.tail i, j, e))
      (Memᴰ.append_cases (map (λ w. l ∷ w) ws) m)

  -- the entries of a row are letters
  abbrev Over : List A → List A → Type 0
  Over letters x = (a : A) → Memᴰ a x → Memᴰ a letters

  -- one entry more
  over_cons : {letters x w : List A} {a : A} {n : ℕ} → x ≡ a ∷ w → Memᴰ a letters → length w ≡ n → Over letters w → (length x ≡ suc n) × Over letters x
  over_cons e i l h = rw e (ap suc l, λ b m. ⊎_elim (λ q. Memᴰ.cast q i) (λ k. h b k) (Memᴰ.cases_cons m))

  -- no entry
  over_nil : (letters x : List A) → x ≡ [] → (length x ≡ 0) × Over letters x
  over_nil letters x e = rw e (refl, λ a m. absurd (Memᴰ.not-nil m))

  -- a word has n entries, each of them a letter
  words_over : (letters : List A) (n : ℕ) (x : List A) → Memᴰ x (words letters n) → (length x ≡ n) × Over letters x
  unfolding words
  words_over letters zero x m = over_nil letters x (Memᴰ.eq_of_singleton m)
  words_over letters (suc n) x m =
      let (a, w, i, j, e) = mem_before letters (words letters n) x m in
      let (l, h) = words_over letters n w j in
      over_cons e i l h

  -- every such row is a word
  over_words : (letters : List A) (n : ℕ) (x : List A) → length x ≡ n → Over letters x → Memᴰ x (words letters n)
  unfolding words
  over_words letters zero [] l h = Memᴰ.head refl
  over_words letters zero (a ∷ x) l h = absurd (omega arith)
  over_words letters (suc n) [] l h = absurd (omega arith)
  over_words letters (suc n) (a ∷ x) l h = before_mem (h a (Memᴰ.head refl)) (over_words letters n x (suc_inj l) (λ b m. h b (Memᴰ.tail m)))

  -- a row stands among the words of n letters exactly if it has n entries, each of them a letter
  pub mem_words : (letters : List A) (n : ℕ) (x : List A) → Memᴰ x (words letters n) ↔ ((length x ≡ n) × ((a : A) → Memᴰ a x → Memᴰ a letters))
  mem_words letters n x = (words_over letters n x, λ h. over_words letters n x h.0 h.1)

-- the later row named in another way
pub earlier_cast : (x y z : List ℕ) → x ≡ y → Earlier z y → Earlier z x
earlier_cast x y z e h = rw e h

-- ascending letters before words in dictionary order
sorted_before : {ls : List ℕ} {ws : List (List ℕ)} → Sorted ◌<◌ ls → Sorted Earlier ws → Sorted Earlier (before ls ws)
unfolding before
sorted_before end t = end
sorted_before {ws = ws} (then {x = x} {xs = xs} p s) t =
    sorted_append (sorted_map (λ w. x ∷ w) (λ r s h. agrees refl h) earlier_cast t) (sorted_before s t) λ r q m k.
    let (w, i, e) = Memᴰ.of_map (λ w. x ∷ w) ws m in
    let (a, v, j, l, f) = mem_before xs ws q k in
    rw (← e, f) (differs (p a j))

-- the words of ascending letters stand in dictionary order, each of them earlier than those behind it
pub sorted_words : {letters : List ℕ} → Sorted ◌<◌ letters → (n : ℕ) → Sorted Earlier (words letters n)
unfolding words
sorted_words s zero = then (λ y m. absurd (Memᴰ.not-nil m)) end
sorted_words s (suc n) = sorted_before s (sorted_words s n)

-- ---- tables

module _ {A : Type 0} where
  -- a member stands somewhere
  pub mem_place : (l : List A) (d a : A) → Memᴰ a l → (i : ℕ) × (i < length l) × (get_or l i d ≡ a)
  mem_place [] d a m = absurd (Memᴰ.not-nil m)
  mem_place (b ∷ l) d a m =
      ⊎_elim (λ (q : a ≡ b). (0, omega arith, sym q)) (λ k. let (i, h, e) = mem_place l d a k in (suc i, omega arith, e)) (Memᴰ.cases_cons m)

  -- an entry is a member
  pub get_d_mem : (l : List A) (i : ℕ) (d : A) → i < length l → Memᴰ (get_or l i d) l
  get_d_mem [] i d h = absurd (omega arith)
  get_d_mem (x ∷ l) zero d h = Memᴰ.head refl
  get_d_mem (x ∷ l) (suc i) d h = Memᴰ.tail (get_d_mem l i d (omega arith))

-- the place of a number
pub mem_at : (l : List ℕ) (a : ℕ) → Memᴰ a l → (i : ℕ) × (i < length l) × (get_or l i 0 ≡ a)
mem_at l a m = mem_place l 0 a m

-- the table of an ascending function ascends
pub sorted_tabulate : (n : ℕ) (f : ℕ → ℕ) → ((i j : ℕ) → i < j → f i < f j) → Sorted ◌<◌ (tabulate n f)
unfolding tabulate
sorted_tabulate zero f h = end
sorted_tabulate (suc n) f h =
    then {x = f 0} (λ y m. let (i, k, e) = mem_tabulate n (λ i. f (suc i)) y m in rw e (h 0 (suc i) (omega arith)))
    (sorted_tabulate n (λ i. f (suc i)) (λ i j l. h (suc i) (suc j) (omega arith)))

-- ---- the candidates, ascending

-- a test that cannot pass fails
pub not_passed : (b : Bool) → (b ≡ true → ⊥) → b ≡ false
not_passed true h = absurd (h refl)
not_passed false h = refl

-- a disjunction of tests passes where one of them does
or_right : (a b : Bool) → b ≡ true → (a || b) ≡ true
or_right true b e = refl
or_right false b e = e

or_left : (a b : Bool) → a ≡ true → (a || b) ≡ true
or_left a b e = rw e

or_cases : (a b : Bool) → (a || b) ≡ true → (a ≡ true) ⊎ (b ≡ true)
or_cases true b e = inl refl
or_cases false b e = inr e

-- the test passes only at a member
member_true : (x : ℕ) (l : List ℕ) → member x l ≡ true → Memᴰ x l
unfolding member
member_true x [] e = absurd (false≢true e)
member_true x (y ∷ l) e = ⊎_elim (λ q. Memᴰ.head (eqb-true x y q)) (λ q. Memᴰ.tail (member_true x l q)) (or_cases (eqb x y) (member x l) e)

-- and at every member
mem_true : {x : ℕ} {l : List ℕ} → Memᴰ x l → member x l ≡ true
unfolding member
mem_true {x} (Memᴰ.head {x = y} {xs = l} e) = or_left (eqb x y) (member x l) (eq-eqb x y e)
mem_true {x} (Memᴰ.tail {x = y} {xs = l} m) = or_right (eqb x y) (member x l) (mem_true m)

-- what the test for a member tells
pub member_mem : (x : ℕ) (l : List ℕ) → (member x l ≡ true) ↔ Memᴰ x l
member_mem x l = (member_true x l, mem_true)

-- the test for a member, of a list with one number more at the end
pub member_snoc : (x c : ℕ) (l : List ℕ) → member x (l ++ c ∷ []) ≡ (member x l || eqb x c)
unfolding member
member_snoc x c [] = or-false (eqb x c)
member_snoc x c (y ∷ l) = rw (member_snoc x c l) (assoc (eqb x y) (member x l) (eqb x c))
  where
    assoc : (a b d : Bool) → (a || (b || d)) ≡ ((a || b) || d)
    assoc true b d = refl
    assoc false b d = refl

-- what stands in a list with a conditional head
keep_if_mem : (t : Bool) (x y : ℕ) (rest : List ℕ) → t ≡ true → x ≡ y → Memᴰ x (keep_if t y rest)
keep_if_mem t x y rest h e = rw h (Memᴰ.head e)

keep_if_rest : (t : Bool) (x y : ℕ) (rest : List ℕ) → Memᴰ x rest → Memᴰ x (keep_if t y rest)
keep_if_rest true x y rest m = Memᴰ.tail m
keep_if_rest false x y rest m = m

keep_if_cases : (t : Bool) (x y : ℕ) (rest : List ℕ) → Memᴰ x (keep_if t y rest) → ((t ≡ true) × (x ≡ y)) ⊎ Memᴰ x rest
keep_if_cases true x y rest m = ⊎_elim (λ e. inl (refl, e)) (λ k. inr k) (Memᴰ.cases_cons m)
keep_if_cases false x y rest m = inr m

-- the numbers kept are among the numbers and among the candidates
mem_among : (candidates xs : List ℕ) (x : ℕ) → Memᴰ x (among candidates xs) → Memᴰ x xs × Memᴰ x candidates
unfolding among
mem_among candidates [] x m = absurd (Memᴰ.not-nil m)
mem_among candidates (y ∷ ys) x m =
    ⊎_elim (λ h. (Memᴰ.head h.1, Memᴰ.cast h.1 (member_true y candidates h.0)))
    (λ k. let (i, j) = mem_among candidates ys x k in (Memᴰ.tail i, j))
    (keep_if_cases (member y candidates) x y (among candidates ys) m)

-- and every such number is kept
among_mem : {candidates : List ℕ} {x : ℕ} {xs : List ℕ} → Memᴰ x xs → Memᴰ x candidates → Memᴰ x (among candidates xs)
unfolding among
among_mem {candidates} {x = x} (Memᴰ.head {x = y} {xs = ys} e) k =
    keep_if_mem (member y candidates) x y (among candidates ys) (mem_true (Memᴰ.cast (sym e) k)) e
among_mem {candidates} {x = x} (Memᴰ.tail {x = y} {xs = ys} m) k =
    keep_if_rest (member y candidates) x y (among candidates ys) (among_mem m k)

-- a conditional head keeps an ascending list ascending
sorted_keep_if : (t : Bool) {x : ℕ} {rest : List ℕ} → ((y : ℕ) → Memᴰ y rest → x < y) → Sorted ◌<◌ rest → Sorted ◌<◌ (keep_if t x rest)
sorted_keep_if true h s = then h s
sorted_keep_if false h s = s

-- the numbers kept ascend where the numbers do
sorted_among : (candidates : List ℕ) {xs : List ℕ} → Sorted ◌<◌ xs → Sorted ◌<◌ (among candidates xs)
unfolding among
sorted_among candidates end = end
sorted_among candidates (then {x = x} {xs = xs} p s) =
    sorted_keep_if (member x candidates) (λ y m. p y (mem_among candidates xs y m).0) (sorted_among candidates s)

-- the candidates below the bound, ascending, do ascend strictly
pub sorted_ascending : (bound : ℕ) (candidates : List ℕ) → Sorted ◌<◌ (ascending bound candidates)
unfolding ascending up_to
sorted_ascending bound candidates = sorted_among candidates (sorted_tabulate bound (λ i. i) (λ i j h. h))

-- they are exactly the candidates below the bound
pub mem_ascending : (bound : ℕ) (candidates : List ℕ) (x : ℕ) → Memᴰ x (ascending bound candidates) ↔ (Memᴰ x candidates × (x < bound))
unfolding ascending up_to
mem_ascending bound candidates x = (
  λ m.
      let (k, c) = mem_among candidates (up_to bound) x m in
      let (i, h, e) = mem_tabulate bound (λ i. i) x k in
      (c, omega arith),
  λ (c, h). among_mem (tabulate_mem bound (λ i. i) x h) c,
)

-- the numbers kept depend on the test for a member alone
same_among : (candidates candidates' : List ℕ) → ((x : ℕ) → member x candidates ≡ member x candidates') → (xs : List ℕ) → among candidates xs ≡ among candidates' xs
unfolding among
same_among candidates candidates' h [] = refl
same_among candidates candidates' h (x ∷ xs) = rw (h x, same_among candidates candidates' h xs)

-- two lists of candidates with the same members: the ascending lists are the same
pub order_free : (bound : ℕ) (candidates candidates' : List ℕ) → ((x : ℕ) → Memᴰ x candidates ↔ Memᴰ x candidates')
    → ascending bound candidates ≡ ascending bound candidates'
unfolding ascending
order_free bound candidates candidates' h =
    same_among candidates candidates'
    (λ x. same_bool _ _ (λ e. mem_true ((h x).0 (member_true x candidates e))) (λ e. mem_true ((h x).1 (member_true x candidates' e))))
    (up_to bound)

-- the rows over the candidates are exactly those with n entries, each of them a candidate below the bound
pub mem_rows : (bound : ℕ) (candidates : List ℕ) (n : ℕ) (r : List ℕ)
    → Memᴰ r (rows_over bound candidates n) ↔ ((length r ≡ n) × ((a : ℕ) → Memᴰ a r → Memᴰ a candidates × (a < bound)))
unfolding rows_over
mem_rows bound candidates n r = (
  λ m. let (l, h) = (mem_words _ n r).0 m in (l, λ a k. (mem_ascending bound candidates a).0 (h a k)),
  λ (l, h). (mem_words _ n r).1 (l, λ a k. (mem_ascending bound candidates a).1 (h a k)),
)

-- they stand in dictionary order
pub sorted_rows : (bound : ℕ) (candidates : List ℕ) (n : ℕ) → Sorted Earlier (rows_over bound candidates n)
unfolding rows_over
sorted_rows bound candidates n = sorted_words (sorted_ascending bound candidates) n

-- Choices of lines and columns, walked digit by digit of a mask. Assumes nothing.
use mathlib.Core.Path.{◌≡◌, refl, sym, ap, ◌∙◌}
use mathlib.Core.List.{List, [], ◌∷◌, ◌++◌, map, append-nil, append_assoc}
use mathlib.Core.Logic.{⊎_elim}
use Prim.Native.Nat.{ℕ, zero, suc, ◌+◌, ◌-◌, ◌*◌, ◌/◌, ◌%◌, ◌^◌, ◌≤◌, ◌<◌}
use native.Mathlib.Nat.{not-suc-le-zero, le_of_suc-le-suc, lt_of_lt_of_le, eq-or-lt_of_le, lt_of_le_of_lt, pow-suc, add-zero, zero-add, suc-add, one-mul, mod-eq_of_lt, div-one, div-div-eq-div-mul}
use native.Mathlib.Numerals.{add-one}
use native.Mathlib.Omega.{arith}
use lib.Bits.{bit_and, and_mask}
use lib.Count.{ones, ones_in, ones_step}
use lib.Dec.{lit<}
use lib.Pow.{pow_mono}
use lib.ListN.{length, get_or, take, set, replicate, length-map, length-set, get_or-replicate}
use lib.Seq.{length-take-le, take-set-le, take-suc-set, get_or-take, get_or-set_other, get_or-set_same}
use Rattle.algebra.specs.Matrix.{at_digit, places_from, chosen}
use Rattle.field.proofs.Sum.{at_digit_holds}
use Rattle.lines.specs.Numbers.{entry}
use Rattle.lines.specs.Steps.Blocks.{filled, framed}
use Rattle.lines.proofs.Filled.{get_d_filled, filled_of, entry_of}

-- no places without ones
places_none : (i n : ℕ) → places_from i n 0 ≡ []
unfolding places_from
places_none i zero = refl
places_none i (suc n) = places_none (suc i) n

-- the lowest digit of a mask
pub low_digit : (mask : ℕ) → bit_and mask 1 ≡ mask % 2
low_digit mask = and_mask mask 1

-- an element of a mapped list
get_d_mapped : {A : Type 0} (f : ℕ → A) (l : List ℕ) (j : ℕ) (d : A) → j < length l → get_or (map f l) j d ≡ f (get_or l j 0)
get_d_mapped f [] j d h = absurd (not-suc-le-zero h)
get_d_mapped f (a ∷ l) zero d h = refl
get_d_mapped f (a ∷ l) (suc j) d h = get_d_mapped f l j d (le_of_suc-le-suc h)

module _ {A : Type 0} (source : List A) (d z : A) where
  -- the elements at the places
  abbrev pub picked : List ℕ → List A
  picked places = map (λ j. get_or source j d) places

  -- A walk over the eight digits of a mask: r has the chosen elements before place i at its first k places. Behind them stands z, but at
  -- place k, where an element may stand that is not chosen.
  pub record Walk (mask : ℕ) (r : List A) (i k : ℕ) : Type 0 where
    pub size : length r ≡ 8
    pub stored : take k r ++ picked (places_from i (8 - i) (mask / 2 ^ i)) ≡ picked (chosen 8 mask)
    pub behind : (j : ℕ) → k < j → j < 8 → get_or r j d ≡ z

  pub walk_begins : (mask : ℕ) → Walk mask (replicate 8 z) 0 0
  unfolding chosen
  walk_begins mask =
      record {
        size = refl;
        stored = ap (λ (x : ℕ). picked (places_from 0 8 x)) (div-one mask);
        behind = λ j l m. get_or-replicate 8 j z d m;
      }

  -- one digit: the element is stored, and stays if the digit is 1
  one_digit : (r : List A) (k i mask : ℕ) (tail : List ℕ) → k < length r
      → take (k + mask % 2) (set r k (get_or source i d)) ++ picked tail ≡ take k r ++ picked (at_digit (mask % 2) i tail)
  one_digit r k i mask tail h = at_digit_holds (λ x. take (k + x) (set r k a) ++ picked tail ≡ take k r ++ picked (at_digit x i tail)) zeroth oneth mask
    where
      a : A
      a = get_or source i d

      zeroth : take (k + 0) (set r k a) ++ picked tail ≡ take k r ++ picked tail
      zeroth = rw (add-zero k, take-set-le k r k a (omega arith)) refl

      oneth : take (k + 1) (set r k a) ++ picked tail ≡ take k r ++ (a ∷ picked tail)
      oneth = rw (add-one k, take-suc-set r k a h) (append_assoc (take k r) (a ∷ []) (picked tail))

  module _ (mask : ℕ) (r : List A) (i k : ℕ) (few : k ≤ i) (w : Walk mask r i k) where
    pub walk_goes_on : i < 8 → Walk mask (set r k (get_or source i d)) (i + 1) (k + bit_and (mask / 2 ^ i) 1)
    walk_goes_on h =
        rw (low_digit rest)
        record {
          size = length-set r k (get_or source i d) ∙ w.size;
          stored = ap (λ x. take (k + rest % 2) (set r k (get_or source i d)) ++ picked x) next
              ∙ one_digit r k i rest tail (omega (arith, w.size)) ∙ ap (λ x. take k r ++ picked x) (sym here) ∙ w.stored;
          behind = λ j m q.
              get_or-set_other r k j (get_or source i d) d (λ (e : j ≡ k). omega arith) ∙ w.behind j (omega arith) q;
        }
      where
        rest : ℕ
        rest = mask / 2 ^ i

        -- the places of the digits behind
        tail : List ℕ
        tail = places_from (suc i) (7 - i) (rest / 2)

        here : places_from i (8 - i) rest ≡ at_digit (rest % 2) i tail
        here =
            let e : 8 - i ≡ suc (7 - i) = omega arith in
            ap (λ (n : ℕ). places_from i n rest) e ∙ unfold places_from in refl

        next : places_from (i + 1) (8 - (i + 1)) (mask / 2 ^ (i + 1)) ≡ tail
        next =
            let e : 8 - suc i ≡ 7 - i = omega arith in
            rw (add-one i, e, pow-suc 2 i, ← div-div-eq-div-mul mask (2 ^ i) 2) refl

    -- behind the last digit, the chosen elements are stored; z is put where an element stands that is not chosen
    walk_ends : i ≡ 8 → (s : List A) → length s ≡ 8 → ((j : ℕ) → j < k → get_or s j d ≡ get_or r j d)
        → ((j : ℕ) → k ≤ j → j < 8 → get_or s j d ≡ z)
        → s ≡ filled z (λ j. get_or source (get_or (chosen 8 mask) j 0) d) (length (chosen 8 mask))
    walk_ends o s e same others = filled_of z _ k s d (omega arith) e first others ∙ ap (filled z (λ j. get_or source (get_or (chosen 8 mask) j 0) d)) count
      where
        none : places_from i (8 - i) (mask / 2 ^ i) ≡ []
        none = rw o (unfold places_from in refl)

        all : take k r ≡ picked (chosen 8 mask)
        all =
            sym (append-nil (take k r))
            ∙ ap (λ x. take k r ++ picked x) (sym none)
            ∙ w.stored

        count : k ≡ length (chosen 8 mask)
        count = sym (length-take-le k r (omega (arith, w.size))) ∙ ap length all ∙ length-map (chosen 8 mask) (λ (j : ℕ). get_or source j d)

        first : (j : ℕ) → j < k → get_or s j d ≡ get_or source (get_or (chosen 8 mask) j 0) d
        first j l =
            same j l ∙ sym (get_or-take k r j d l) ∙ ap (λ x. get_or x j d) all
            ∙ get_d_mapped (λ n. get_or source n d) (chosen 8 mask) j d (omega (arith, count))

    pub walk_cleared : i ≡ 8 → k < 8 → set r k z ≡ filled z (λ j. get_or source (get_or (chosen 8 mask) j 0) d) (length (chosen 8 mask))
    walk_cleared o h = walk_ends o (set r k z) (length-set r k z ∙ w.size) (λ j l. get_or-set_other r k j z d (λ (e : j ≡ k). omega arith)) others
      where
        others : (j : ℕ) → k ≤ j → j < 8 → get_or (set r k z) j d ≡ z
        others j l m =
            ⊎_elim (λ (e : k ≡ j). rw (← e) (get_or-set_same r k z d (omega (arith, w.size))))
            (λ (q : k < j). get_or-set_other r k j z d (λ (e : j ≡ k). omega arith) ∙ w.behind j q m) (eq-or-lt_of_le l)

    pub walk_full : i ≡ 8 → 8 ≤ k → r ≡ filled z (λ j. get_or source (get_or (chosen 8 mask) j 0) d) (length (chosen 8 mask))
    walk_full o h = walk_ends o r w.size (λ j l. refl) (λ j l m. let n : ⊥ = omega arith in absurd n)

-- ---- masks of fewer digits

-- the digits past the first n of a mask below 2^n are 0
places_more : (i n d mask : ℕ) → mask < 2 ^ n → places_from i (n + d) mask ≡ places_from i n mask
unfolding places_from
places_more i zero d mask h = let z : mask ≡ 0 = omega arith in rw (zero-add d, z) (places_none i d)
places_more i (suc n) d mask h =
    rw (suc-add n d) (ap (at_digit (mask % 2) i) (places_more (suc i) n d (mask / 2) (omega (arith, pow-suc 2 n))))

-- so a choice among eight is one among n
pub chosen_among : (n mask : ℕ) → n ≤ 8 → mask < 2 ^ n → chosen 8 mask ≡ chosen n mask
unfolding chosen
chosen_among n mask l h =
    let e : n + (8 - n) ≡ 8 = omega arith in
    ap (λ (x : ℕ). places_from 0 x mask) (sym e) ∙ places_more 0 n (8 - n) mask h

-- and below 256
pub mask_fits : (n mask : ℕ) → n ≤ 8 → mask < 2 ^ n → mask < 256
mask_fits n mask l h = lt_of_lt_of_le h (pow_mono {j = 8} l)

-- the end of the masks, as the code has it: 1, shifted by the order, fits 16 bits
pub shifted : (n : ℕ) → n ≤ 8 → 1 * 2 ^ n % 65536 ≡ 2 ^ n
shifted n l = ap (λ (k : ℕ). k % 65536) (one-mul (2 ^ n)) ∙ mod-eq_of_lt (lt_of_le_of_lt (pow_mono {j = 8} l) (lit< tt))

-- no ones
pub ones_none : ones 0 ≡ 0
unfolding ones ones_in
ones_none = refl

-- as many places as ones
places_ones : (i n mask : ℕ) → mask < 2 ^ n → length (places_from i n mask) ≡ ones mask
unfolding places_from
places_ones i zero mask h = let z : mask ≡ 0 = omega arith in rw z (sym ones_none)
places_ones i (suc n) mask h =
    at_digit_holds (λ x. length (at_digit x i tail) ≡ x + length tail) (omega arith) (omega arith) mask
    ∙ ap (λ (x : ℕ). mask % 2 + x) (places_ones (suc i) n (mask / 2) (omega (arith, pow-suc 2 n)))
    ∙ sym (ones_step mask)
  where
    tail : List ℕ
    tail = places_from (suc i) n (mask / 2)

pub chosen_ones : (n mask : ℕ) → mask < 2 ^ n → length (chosen n mask) ≡ ones mask
unfolding chosen
chosen_ones n mask h = places_ones 0 n mask h

-- ---- the lines and columns that are chosen from a matrix of order n

module _ (n mask : ℕ) (m b : List (List ℕ)) (size : n ≤ 8) (below : mask < 2 ^ n) where
  pub line_chosen : b ≡ filled (replicate 8 0) (λ i. get_or m (get_or (chosen 8 mask) i 0) []) (length (chosen 8 mask))
      → (i : ℕ) → i < length (chosen n mask) → get_or b i [] ≡ get_or m (get_or (chosen n mask) i 0) []
  line_chosen e i l =
      ap (λ (x : List (List ℕ)). get_or x i []) (rw (chosen_among n mask size below) at e)
      ∙ get_d_filled (replicate 8 0) (λ i. get_or m (get_or (chosen n mask) i 0) []) (length (chosen n mask)) i l []

  pub column_chosen : (r : ℕ) → b ≡ framed r (length (chosen 8 mask)) (λ i j. entry m i (get_or (chosen 8 mask) j 0))
      → (i j : ℕ) → i < r → j < length (chosen n mask) → entry b i j ≡ entry m i (get_or (chosen n mask) j 0)
  column_chosen r e =
      entry_of r (length (chosen n mask)) (λ i j. entry m i (get_or (chosen n mask) j 0)) b (rw (chosen_among n mask size below) at e)

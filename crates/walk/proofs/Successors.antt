-- Rows of different letters: the least free letter, a prefix filled up with the least free letters, and the row behind a row, behind which no
-- other comes before it. Assumes nothing.
use mathlib.Core.Path.{◌≡◌, refl, sym, ap, subst, ◌∙◌}
use mathlib.Core.Logic.{⊎_elim}
use mathlib.Core.Bool.{Bool, true, false, not, cond, ◌&&◌, true≢false}
use mathlib.Core.List.Memᴰ
use mathlib.Core.List.{List, [], ◌∷◌, ◌++◌, Memᴰ}
use Prim.Native.Nat.{ℕ, zero, suc, ◌+◌, ◌-◌, ◌≤◌, ◌<◌}
use native.Mathlib.Nat.{zero-add}
use native.Mathlib.Decide.{dec_lt}
use native.Mathlib.Omega.{arith}
use lib.Dec.{eqb, ltb}
use lib.ListN.{length, get_or, take, replicate, length-append, get_or-append}
use lib.Seq.{length-take-le, get_or-take, get_or-append_seam}
use borrow.Author.Tests.{ltb-true, ltb-false, lt-ltb, le-ltb, ne_eqb}
use Rattle.rows.specs.Lightest.{Earlier, differs, agrees, member}
use Rattle.rows.proofs.Rows.{Sorted, end, then, earlier_asym, earlier_at, get_d_mem, mem_at, member_mem}
use Rattle.rows.proofs.FewCandidates.{different_le}
use Rattle.rows.proofs.Arrangements.{sorted_at}
use Rattle.walk.specs.Steps.Successors.{free_above, filled_up, raised_or, raised_below, row_behind, first_row}

-- ---- the least free letter

-- v is the least letter above a that is not used; or it is 0, and there is none
pub data Free (letters used : List ℕ) (a v : ℕ) : Type 0 where
  none_free : v ≡ 0 → ((x : ℕ) → Memᴰ x letters → a < x → Memᴰ x used) → Free letters used a v
  least_free : Memᴰ v letters → a < v → (Memᴰ v used → ⊥) → ((x : ℕ) → Memᴰ x letters → a < x → x < v → Memᴰ x used) → Free letters used a v

-- a letter more that is not free
free_more : {letters used : List ℕ} {a v x : ℕ} → (a < x → Memᴰ x used) → Free letters used a v → Free (x ∷ letters) used a v
free_more {used = used} {a = a} {x = x} h (none_free e f) =
    none_free e λ y m l. ⊎_elim (λ (q : y ≡ x). Memᴰ.cast q (h (omega arith))) (λ k. f y k l) (Memᴰ.cases_cons m)
free_more {used = used} {a = a} {x = x} h (least_free m l n f) =
    least_free (Memᴰ.tail m) l n λ y i j k. ⊎_elim (λ (q : y ≡ x). Memᴰ.cast q (h (omega arith))) (λ g. f y g j k) (Memᴰ.cases_cons i)

pub free_above_holds : (used : List ℕ) (a : ℕ) {letters : List ℕ} → Sorted ◌<◌ letters → Free letters used a (free_above letters used a)
unfolding free_above
free_above_holds used a end = none_free refl (λ x m. absurd (Memᴰ.not-nil m))
free_above_holds used a (then {x = x} {xs = xs} p s) = go (ltb a x) (member x used) refl refl (free_above_holds used a s)
  where
    go : (l m : Bool) → ltb a x ≡ l → member x used ≡ m → Free xs used a (free_above xs used a)
        → Free (x ∷ xs) used a (cond (ltb a x && not (member x used)) x (free_above xs used a))
    go true false e f rest =
        rw (e, f)
        (least_free (Memᴰ.head refl) (ltb-true a x e) (λ i. true≢false (sym ((member_mem x used).1 i) ∙ f))
        λ y m l k. ⊎_elim (λ (q : y ≡ x). absurd (omega arith)) (λ i. absurd (let g = p y i in omega arith)) (Memᴰ.cases_cons m))
    go true true e f rest = rw (e, f) (free_more (λ l. (member_mem x used).0 f) rest)
    go false m e f rest = rw e (free_more (λ l. absurd (omega (arith, ltb-false a x e))) rest)

module _ {letters used : List ℕ} {a v w : ℕ} where
  -- a free letter is the only one
  pub free_unique : Free letters used a v → Free letters used a w → v ≡ w
  free_unique (none_free e f) (none_free d g) = e ∙ sym d
  free_unique (none_free e f) (least_free m l n g) = absurd (n (f w m l))
  free_unique (least_free m l n f) (none_free d g) = absurd (n (g v m l))
  free_unique (least_free m l n f) (least_free i j k g) = elim (dec_lt v w) [
    | yes h ↦ absurd (n (g v m l h))
    | no h ↦ elim (dec_lt w v) [
      | yes q ↦ absurd (k (f w i j q))
      | no q ↦ omega arith
    ]
  ]

-- ---- rows of different letters

-- a row of n different letters
pub record Arranged (letters : List ℕ) (n : ℕ) (row : List ℕ) : Type 0 where
  pub entries : length row ≡ n
  pub over : (i : ℕ) → i < n → Memᴰ (get_or row i 0) letters
  pub different : (i j : ℕ) → i < n → j < n → get_or row i 0 ≡ get_or row j 0 → i ≡ j

pub arranged_nil : (letters : List ℕ) → Arranged letters 0 []
arranged_nil letters = record { entries = refl; over = λ i h. absurd (omega arith); different = λ i j h. absurd (omega arith) }

-- its first entries are such a row too
pub arranged_take : {letters row : List ℕ} {n : ℕ} → Arranged letters n row → (i : ℕ) → i ≤ n → Arranged letters i (take i row)
arranged_take {row = row} d i h =
    let long : i ≤ length row = omega (arith, d.entries) in
    record {
      entries = length-take-le i row long;
      over = λ j l. rw (get_or-take i row j 0 l) (d.over j (omega arith));
      different = λ j k l m e. d.different j k (omega arith) (omega arith) (sym (get_or-take i row j 0 l) ∙ e ∙ get_or-take i row k 0 m);
    }

-- an entry of a list is a member, and a member an entry
entry_mem : (q : List ℕ) (n i : ℕ) → length q ≡ n → i < n → Memᴰ (get_or q i 0) q
entry_mem q n i e h = get_d_mem q i 0 (omega arith)

module _ (q : List ℕ) (n v : ℕ) (long : length q ≡ n) where
  -- one number behind a list
  snoc_length : length (q ++ v ∷ []) ≡ suc n
  snoc_length = let e = length-append q (v ∷ []) in omega arith

  pub snoc_front : (i : ℕ) → i < n → get_or (q ++ v ∷ []) i 0 ≡ get_or q i 0
  snoc_front i h = get_or-append q (v ∷ []) 0 i (omega arith)

  pub snoc_last : (i : ℕ) → i ≡ n → get_or (q ++ v ∷ []) i 0 ≡ v
  snoc_last i e = ap (λ (k : ℕ). get_or (q ++ v ∷ []) k 0) (e ∙ sym long) ∙ get_or-append_seam q v [] 0

  -- a letter that is not used behind a row of different letters
  pub arranged_snoc : {letters : List ℕ} → Arranged letters n q → Memᴰ v letters → (Memᴰ v q → ⊥) → Arranged letters (suc n) (q ++ v ∷ [])
  arranged_snoc {letters} d m new =
      record {
        entries = snoc_length;
        over = λ i h. elim (dec_lt i n) [
          | yes l ↦ rw (snoc_front i l) (d.over i l)
          | no l ↦ rw (snoc_last i (omega arith)) m
        ];
        different = apart;
      }
    where
      front : (i j : ℕ) → i < n → j ≡ n → get_or (q ++ v ∷ []) i 0 ≡ get_or (q ++ v ∷ []) j 0 → ⊥
      front i j l f e = new (Memᴰ.cast (sym (sym (snoc_front i l) ∙ e ∙ snoc_last j f)) (entry_mem q n i long l))

      apart : (i j : ℕ) → i < suc n → j < suc n → get_or (q ++ v ∷ []) i 0 ≡ get_or (q ++ v ∷ []) j 0 → i ≡ j
      apart i j h k e = elim (dec_lt i n) [
        | yes l ↦ elim (dec_lt j n) [
          | yes m ↦ d.different i j l m (sym (snoc_front i l) ∙ e ∙ snoc_front j m)
          | no m ↦ absurd (front i j l (omega arith) e)
        ]
        | no l ↦ elim (dec_lt j n) [
          | yes m ↦ absurd (front j i m (omega arith) (sym e))
          | no m ↦ omega arith
        ]
      ]

-- an entry is none of those before it
pub entry_new : {letters row q : List ℕ} {n i : ℕ} → Arranged letters n row → i < n → length q ≡ i → ((k : ℕ) → k < i → get_or row k 0 ≡ get_or q k 0)
    → Memᴰ (get_or row i 0) q → ⊥
entry_new {row = row} {q = q} {n = n} {i = i} d h long same m =
    let (k, l, e) = mem_at q (get_or row i 0) m in
    let under : k < i = omega arith in
    let z = d.different k i (omega arith) h (same k under ∙ e) in
    omega arith

-- ---- as many letters as places

-- the letters ascend, so they differ
pub sorted_different : {l : List ℕ} → Sorted ◌<◌ l → (i j : ℕ) → i < length l → j < length l → get_or l i 0 ≡ get_or l j 0 → i ≡ j
sorted_different s i j h k e = elim (dec_lt i j) [
  | yes g ↦ absurd (let z = sorted_at s 0 i j g k in omega arith)
  | no g ↦ elim (dec_lt j i) [
    | yes q ↦ absurd (let z = sorted_at s 0 j i q h in omega arith)
    | no q ↦ omega arith
  ]
]

-- different numbers that are all members of a list: it is as long
pub places_le : (l q : List ℕ) (n : ℕ) → ((i : ℕ) → i < n → Memᴰ (get_or l i 0) q) → ((i j : ℕ) → i < n → j < n → get_or l i 0 ≡ get_or l j 0 → i ≡ j) → n ≤ length q
places_le l q n over different =
    different_le n (length q) (λ i h. (mem_at q (get_or l i 0) (over i h)).0) (λ i h. (mem_at q (get_or l i 0) (over i h)).1)
    λ i j h k e. different i j h k
    (sym (mem_at q (get_or l i 0) (over i h)).2 ∙ ap (λ (x : ℕ). get_or q x 0) e ∙ (mem_at q (get_or l j 0) (over j k)).2)

-- a row of different letters is not longer than the list of letters
pub arranged_le : {letters row : List ℕ} {n : ℕ} → Arranged letters n row → n ≤ length letters
arranged_le {letters} {row} {n} d = places_le row letters n d.over d.different

-- ---- dictionary order by places

-- an earlier row of the same length: the first place where they differ
pub earlier_place : (r x : List ℕ) → length r ≡ length x → Earlier r x
    → (d : ℕ) × (d < length r) × ((k : ℕ) → k < d → get_or r k 0 ≡ get_or x k 0) × (get_or r d 0 < get_or x d 0)
earlier_place [] x e h = elim h [ ]
earlier_place (a ∷ r) [] e h = elim h [ ]
earlier_place (a ∷ r) (b ∷ x) e (differs h) = (0, omega arith, (λ k l. absurd (omega arith)), h)
earlier_place (a ∷ r) (b ∷ x) e (agrees f h) =
    let (d, l, same, less) = earlier_place r x (omega arith) h in
    (suc d, omega arith, after d same, less)
  where
    after : (d : ℕ) → ((k : ℕ) → k < d → get_or r k 0 ≡ get_or x k 0) → (k : ℕ) → k < suc d → get_or (a ∷ r) k 0 ≡ get_or (b ∷ x) k 0
    after d same zero l = f
    after d same (suc k) l = same k (omega arith)

-- rows that agree everywhere are not earlier than each other
pub same_not_earlier : (r x : List ℕ) → length r ≡ length x → ((k : ℕ) → k < length r → get_or r k 0 ≡ get_or x k 0) → Earlier r x → ⊥
same_not_earlier r x e same h = let (d, l, f, less) = earlier_place r x e h in omega (arith, same d l)

-- ---- a prefix filled up

-- the prefix stays
pub fill_front : (letters q : List ℕ) (k i : ℕ) → i < length q → get_or (filled_up letters q k) i 0 ≡ get_or q i 0
unfolding filled_up
fill_front letters q zero i h = refl
fill_front letters q (suc k) i h =
    let v = free_above letters q 0 in
    let l = snoc_length q (length q) v refl in
    fill_front letters (q ++ v ∷ []) k i (omega arith) ∙ snoc_front q (length q) v refl i h

-- and it is longer by as many entries as are filled
pub fill_length : (letters q : List ℕ) (k : ℕ) → length (filled_up letters q k) ≡ length q + k
unfolding filled_up
fill_length letters q zero = omega arith
fill_length letters q (suc k) =
    let v = free_above letters q 0 in
    let l = snoc_length q (length q) v refl in
    let h = fill_length letters (q ++ v ∷ []) k in omega arith

module _ {letters : List ℕ} (ascends : Sorted ◌<◌ letters) (positive : (a : ℕ) → Memᴰ a letters → 0 < a) where
  -- a free letter is there as long as there are more letters than places
  free_there : (q : List ℕ) (m : ℕ) → length q ≡ m → m < length letters → (v : ℕ) → Free letters q 0 v
      → Memᴰ v letters × (Memᴰ v q → ⊥) × ((x : ℕ) → Memᴰ x letters → x < v → Memᴰ x q)
  free_there q m e h v (none_free z f) =
      let all : length letters ≤ length q =
      places_le letters q (length letters) (λ i l. f (get_or letters i 0) (get_d_mem letters i 0 l) (positive _ (get_d_mem letters i 0 l)))
      (sorted_different ascends) in
      absurd (omega arith)
  free_there q m e h v (least_free i l n f) = (i, n, λ x k. f x k (positive x k))

  -- the row is one of different letters
  pub fill_arranged : (q : List ℕ) (m k : ℕ) → Arranged letters m q → m + k ≤ length letters → Arranged letters (m + k) (filled_up letters q k)
  unfolding filled_up
  fill_arranged q m zero d h = subst (λ (j : ℕ). Arranged letters j q) (omega arith) d
  fill_arranged q m (suc k) d h =
      let v = free_above letters q 0 in
      let (i, new, f) = free_there q m d.entries (omega arith) v (free_above_holds q 0 ascends) in
      subst (λ (j : ℕ). Arranged letters j (filled_up letters (q ++ v ∷ []) k)) (omega arith)
      (fill_arranged (q ++ v ∷ []) (suc m) k (arranged_snoc q m v d.entries d i new) (omega arith))

  -- no row of different letters with that prefix is earlier
  pub fill_least : (q : List ℕ) (m k : ℕ) → Arranged letters m q → m + k ≤ length letters → (x : List ℕ) → Arranged letters (m + k) x
      → ((i : ℕ) → i < m → get_or x i 0 ≡ get_or q i 0) → Earlier x (filled_up letters q k) → ⊥
  unfolding filled_up
  fill_least q m zero d h x a same e =
      same_not_earlier x q (omega (arith, a.entries, d.entries)) (λ i l. same i (omega (arith, a.entries))) e
  fill_least q m (suc k) d h x a same e =
      let v = free_above letters q 0 in
      let (i, new, f) = free_there q m d.entries (omega arith) v (free_above_holds q 0 ascends) in
      let longer = arranged_snoc q m v d.entries d i new in
      let s = filled_up letters (q ++ v ∷ []) k in
      let at : get_or s m 0 ≡ v = fill_front letters (q ++ v ∷ []) k m (omega (arith, longer.entries)) ∙ snoc_last q m v d.entries m refl in
      let there : get_or x m 0 < v → ⊥ = λ l. entry_new a (omega arith) d.entries same (f (get_or x m 0) (a.over m (omega arith)) l) in
      elim (dec_lt v (get_or x m 0)) [
        | yes l ↦
            let full = fill_arranged (q ++ v ∷ []) (suc m) k longer (omega arith) in
            earlier_asym e
            (earlier_at s x m (omega (arith, full.entries)) (omega (arith, a.entries))
            (λ j l. fill_front letters (q ++ v ∷ []) k j (omega (arith, longer.entries)) ∙ snoc_front q m v d.entries j l ∙ sym (same j l))
            (omega arith))
        | no l ↦
            let equal : get_or x m 0 ≡ v = elim (dec_lt (get_or x m 0) v) [ yes g ↦ absurd (there g) | no g ↦ omega arith ] in
            fill_least (q ++ v ∷ []) (suc m) k longer (omega arith) x (subst (λ (j : ℕ). Arranged letters j x) (omega arith) a)
            (λ j l. elim (dec_lt j m) [
              | yes g ↦ same j g ∙ sym (snoc_front q m v d.entries j g)
              | no g ↦ let z : j ≡ m = omega arith in ap (λ (j : ℕ). get_or x j 0) z ∙ equal ∙ sym (snoc_last q m v d.entries j z)
            ])
            e
      ]

-- ---- the row behind a row

-- s is behind r: it is later, and no row of different letters is between them
pub record IsBehind (letters : List ℕ) (n : ℕ) (r s : List ℕ) : Type 0 where
  pub arranged : Arranged letters n s
  pub later : Earlier r s
  pub between : (x : List ℕ) → Arranged letters n x → Earlier r x → Earlier x s → ⊥

-- no row of different letters is later that agrees with r before place i
abbrev LastFrom : List ℕ → ℕ → List ℕ → ℕ → Type 0
LastFrom letters n r i = (x : List ℕ) → Arranged letters n x → ((k : ℕ) → k < i → get_or x k 0 ≡ get_or r k 0) → Earlier r x → ⊥

-- what comes behind r: a row, or none, which is all zeros
pub data Behind (letters : List ℕ) (n : ℕ) (r s : List ℕ) : Type 0 where
  one_behind : IsBehind letters n r s → Behind letters n r s
  none_behind : s ≡ replicate n 0 → ((x : List ℕ) → Arranged letters n x → Earlier r x → ⊥) → Behind letters n r s

module _ {letters : List ℕ} (ascends : Sorted ◌<◌ letters) (positive : (a : ℕ) → Memᴰ a letters → 0 < a)
    {n : ℕ} {r : List ℕ} (row : Arranged letters n r) where
  -- where a later row differs from r first, if it agrees with it before place i
  first_place : (i : ℕ) → LastFrom letters n r (suc i) → (x : List ℕ) → Arranged letters n x → Earlier r x
      → (d : ℕ) × (d < n) × (d ≤ i) × ((k : ℕ) → k < d → get_or r k 0 ≡ get_or x k 0) × (get_or r d 0 < get_or x d 0)
  first_place i last x a e =
      let (d, l, same, less) = earlier_place r x (row.entries ∙ sym a.entries) e in
      let under : d ≤ i = elim (dec_lt i d) [
        | yes g ↦ absurd (last x a (λ k h. sym (same k (omega arith))) e)
        | no g ↦ omega arith
      ] in
      (d, omega (arith, row.entries), under, same, less)

  -- an entry of a row that agrees with r before is none of those before it
  not_before : (i : ℕ) → i < n → (x : List ℕ) → Arranged letters n x → ((k : ℕ) → k < i → get_or r k 0 ≡ get_or x k 0) → Memᴰ (get_or x i 0) (take i r) → ⊥
  not_before i h x a same =
      entry_new a h (length-take-le i r (omega (arith, row.entries))) (λ k l. sym (same k l) ∙ sym (get_or-take i r k 0 l))

  -- the entry at place i cannot be raised
  raised_none : (i : ℕ) → i < n → LastFrom letters n r (suc i) → ((x : ℕ) → Memᴰ x letters → get_or r i 0 < x → Memᴰ x (take i r)) → LastFrom letters n r i
  raised_none i h last none x a same e =
      let (d, l, under, before, less) = first_place i last x a e in
      elim (dec_lt d i) [
        | yes g ↦ omega (arith, same d g)
        | no g ↦
            let z : d ≡ i = omega arith in
            let more : get_or r i 0 < get_or x i 0 = subst (λ (j : ℕ). get_or r j 0 < get_or x j 0) z less in
            not_before i h x a (λ k l. before k (omega arith)) (none (get_or x i 0) (a.over i h) more)
      ]

  module _ (i : ℕ) (h : i < n) (last : LastFrom letters n r (suc i)) (v : ℕ) (letter : Memᴰ v letters) (above : get_or r i 0 < v)
      (new : Memᴰ v (take i r) → ⊥) (least : (x : ℕ) → Memᴰ x letters → get_or r i 0 < x → x < v → Memᴰ x (take i r)) where
    abbrev start : List ℕ
    start = take i r ++ v ∷ []

    start_length : length (take i r) ≡ i
    start_length = length-take-le i r (omega (arith, row.entries))

    starts : Arranged letters (suc i) start
    starts = arranged_snoc (take i r) i v start_length (arranged_take row i (omega arith)) letter new

    abbrev next : List ℕ
    next = filled_up letters start (n - suc i)

    whole : suc i + (n - suc i) ≡ n
    whole = omega arith

    room : suc i + (n - suc i) ≤ length letters
    room = let l = arranged_le row in omega arith

    next_arranged : Arranged letters n next
    next_arranged = subst (λ (j : ℕ). Arranged letters j (filled_up letters start (n - suc i))) whole (fill_arranged ascends positive start (suc i) (n - suc i) starts room)

    next_front : (k : ℕ) → k < i → get_or next k 0 ≡ get_or r k 0
    next_front k l =
        fill_front letters start (n - suc i) k (omega (arith, starts.entries)) ∙ snoc_front (take i r) i v start_length k l ∙ get_or-take i r k 0 l

    next_at : get_or next i 0 ≡ v
    next_at = fill_front letters start (n - suc i) i (omega (arith, starts.entries)) ∙ snoc_last (take i r) i v start_length i refl

    -- a row that agrees with it before place d and has a larger entry there is later
    later_at : (x : List ℕ) → Arranged letters n x → (d : ℕ) → d < n → ((k : ℕ) → k < d → get_or next k 0 ≡ get_or x k 0) → get_or next d 0 < get_or x d 0 → Earlier next x
    later_at x a d l = earlier_at next x d (omega (arith, next_arranged.entries)) (omega (arith, a.entries))

    no_between : (x : List ℕ) → Arranged letters n x → Earlier r x → Earlier x next → ⊥
    no_between x a e f =
        let (d, l, under, before, less) = first_place i last x a e in
        elim (dec_lt d i) [
          | yes g ↦
              earlier_asym f
              (later_at x a d l (λ k m. next_front k (omega arith) ∙ before k m) (omega (arith, next_front d g)))
          | no g ↦
              let z : d ≡ i = omega arith in
              let more : get_or r i 0 < get_or x i 0 = subst (λ (j : ℕ). get_or r j 0 < get_or x j 0) z less in
              let same : (k : ℕ) → k < i → get_or r k 0 ≡ get_or x k 0 = λ k m. before k (omega arith) in
              let above : get_or x i 0 < v → ⊥ = λ q. not_before i h x a same (least (get_or x i 0) (a.over i h) more q) in
              elim (dec_lt v (get_or x i 0)) [
                | yes q ↦ earlier_asym f (later_at x a i h (λ k m. next_front k m ∙ same k m) (omega (arith, next_at)))
                | no q ↦
                    let equal : get_or x i 0 ≡ v = elim (dec_lt (get_or x i 0) v) [ yes g ↦ absurd (above g) | no g ↦ omega arith ] in
                    not_earlier x a same equal f
              ]
        ]
      where
        not_earlier : (x : List ℕ) → Arranged letters n x → ((k : ℕ) → k < i → get_or r k 0 ≡ get_or x k 0) → get_or x i 0 ≡ v → Earlier x next → ⊥
        not_earlier x a same equal f =
            fill_least ascends positive start (suc i) (n - suc i) starts room x (subst (λ (j : ℕ). Arranged letters j x) (sym whole) a)
            (λ k m. elim (dec_lt k i) [
              | yes g ↦ sym (same k g) ∙ sym (get_or-take i r k 0 g) ∙ sym (snoc_front (take i r) i v start_length k g)
              | no g ↦ let z : k ≡ i = omega arith in ap (λ (j : ℕ). get_or x j 0) z ∙ equal ∙ sym (snoc_last (take i r) i v start_length k z)
            ])
            f

    pub raised_behind : IsBehind letters n r next
    raised_behind =
        record {
          arranged = next_arranged;
          later = earlier_at r next i (omega (arith, row.entries)) (omega (arith, next_arranged.entries)) (λ k l. sym (next_front k l)) (omega (arith, next_at));
          between = no_between;
        }

  -- looked for from place i down
  below_behind : (i : ℕ) → i ≤ n → LastFrom letters n r i → Behind letters n r (raised_below letters n r i)
  unfolding raised_below raised_or
  below_behind zero h last = none_behind refl (λ x a. last x a (λ k l. absurd (omega arith)))
  below_behind (suc i) h last = go (free_above_holds (take i r) (get_or r i 0) ascends) (below_behind i (omega arith))
    where
      go : Free letters (take i r) (get_or r i 0) (free_above letters (take i r) (get_or r i 0))
          → (LastFrom letters n r i → Behind letters n r (raised_below letters n r i))
          → Behind letters n r (cond (eqb (free_above letters (take i r) (get_or r i 0)) 0) (raised_below letters n r i)
          (filled_up letters (take i r ++ free_above letters (take i r) (get_or r i 0) ∷ []) (n - suc i)))
      go (none_free e f) rest = rw e (rest (raised_none i (omega arith) last f))
      go (least_free m l new f) rest =
          rw (ne_eqb (free_above letters (take i r) (get_or r i 0)) 0 (λ z. omega arith))
          (one_behind (raised_behind i (omega arith) last (free_above letters (take i r) (get_or r i 0)) m l new f))

  -- the row behind r, or none
  pub behind : Behind letters n r (row_behind letters n r)
  unfolding row_behind
  behind = below_behind n (omega arith) λ x a same e. same_not_earlier r x (row.entries ∙ sym a.entries) (λ k l. sym (same k (omega (arith, row.entries)))) e

-- ---- the first row

module _ {letters : List ℕ} (ascends : Sorted ◌<◌ letters) (positive : (a : ℕ) → Memᴰ a letters → 0 < a) (n : ℕ) where
  -- there are enough letters: a row of different letters, and none is earlier
  pub first_arranged : n ≤ length letters → Arranged letters n (first_row letters n)
  unfolding first_row
  first_arranged h =
      rw (le-ltb (length letters) n h)
      (subst (λ (j : ℕ). Arranged letters j (filled_up letters [] n)) (zero-add n) (fill_arranged ascends positive [] 0 n (arranged_nil letters) (omega arith)))

  pub first_least : n ≤ length letters → (x : List ℕ) → Arranged letters n x → Earlier x (first_row letters n) → ⊥
  unfolding first_row
  first_least h x a e =
      fill_least ascends positive [] 0 n (arranged_nil letters) (omega arith) x (subst (λ (j : ℕ). Arranged letters j x) (sym (zero-add n)) a)
      (λ i l. absurd (omega arith))
      (rw (le-ltb (length letters) n h) at e)

  -- there are fewer: no such row
  pub first_none : length letters < n → (first_row letters n ≡ replicate n 0) × ((x : List ℕ) → Arranged letters n x → ⊥)
  unfolding first_row
  first_none h = (rw (lt-ltb (length letters) n h) refl, λ x a. omega (arith, arranged_le a))

-- The table of kinds: what holds of every kind, and of a number that no kind has, holds of the kind of every text. Assumes nothing.
use mathlib.Core.Path.{◌≡◌, refl, sym, subst, ◌∙◌}
use mathlib.Core.Logic.{◌≢◌, ◌⊎◌, inl, inr, ⊎_elim}
use mathlib.Core.Bool.{Bool, true, false, cond}
use mathlib.Core.List.{List, [], ◌∷◌}
use Prim.Native.Nat.{ℕ, zero, suc, ◌≤◌}
use native.Mathlib.Omega.{arith}
use lib.Dec.{eqb, lit≤}
use borrow.Author.Tests.{eqb-true}
use Rattle.refusal.specs.Refusals.{fault, first_number, Applies}
use Rattle.refusal.proofs.Faults.{first_applies, first_passed, numbered, ascends, applies_above, most, applies_most, lacks, lacks_applies, after_number_is, after_value}
use Rattle.field.specs.Faults.{polynomial_faults}
use Rattle.rows.specs.declared.Family.{Family}
use Rattle.rows.specs.declared.Family.TheVariants.{Hadamard, Circulant}
use Rattle.search.specs.Answer.{search_faults}
use Rattle.walk.specs.Answer.{walk_faults}
use Rattle.text.specs.Reading.{in_form, kind_of}
use Rattle.reply.proofs.DueFrom.{kind_search, kind_walk}
use Rattle.reply.specs.Due.{Request, Kind, check_faults, survey_faults, search_number, search, check, survey, gates, walk, kinds, kind_among, kind_in, request_in, faults_of, due}

-- a kind that no text has: 2 applies
abbrev pub unknown : ℕ → Kind
unknown number = record { number = number; faults = λ r. fault 2 true ∷ []; lines = λ r. [] }

-- what holds of each kind of a table
pub data EveryKind (P : Kind → Type 0) : List Kind → Type 0 where
  done : EveryKind P []
  next : {kind : Kind} {rest : List Kind} → P kind → EveryKind P rest → EveryKind P (kind ∷ rest)

kind_chosen : (P : Kind → Type 0) (b : Bool) (x y : Kind) → P x → P y → P (cond b x y)
kind_chosen P true x y h k = h
kind_chosen P false x y h k = k

among_holds : (P : Kind → Type 0) {l : List Kind} → EveryKind P l → (k : ℕ) → P (unknown k) → P (kind_among l k)
unfolding kind_among
among_holds P done k u = u
among_holds P (next {kind = kind} {rest = rest} h more) k u = kind_chosen P (eqb k kind.number) kind (kind_among rest k) h (among_holds P more k u)

-- one law for all kinds
pub kind_holds : (P : Kind → Type 0) → ((family : Family) → P (search family)) → P check → P survey → P gates → P walk → ((k : ℕ) → P (unknown k))
    → (text : List ℕ) → P (kind_in text)
unfolding kind_in kinds
kind_holds P s c v g w u text =
    among_holds P (next (s Hadamard) (next c (next v (next g (next (s Circulant) (next w done)))))) (kind_of text) (u (kind_of text))

-- a kind has its number
number_chosen : (b : Bool) (x y : Kind) (k : ℕ) → eqb k x.number ≡ b → y.number ≡ k → (cond b x y).number ≡ k
number_chosen true x y k e f = sym (eqb-true k x.number e)
number_chosen false x y k e f = f

among_number : (l : List Kind) (k : ℕ) → (kind_among l k).number ≡ k
unfolding kind_among
among_number [] k = refl
among_number (x ∷ l) k = number_chosen (eqb k x.number) x (kind_among l k) k refl (among_number l k)

pub kind_number : (text : List ℕ) → (kind_in text).number ≡ kind_of text
unfolding kind_in
kind_number text = among_number kinds (kind_of text)

pub kind_is_search : (family : Family) (text : List ℕ) → kind_of text ≡ search_number family → kind_in text ≡ search family
unfolding kind_in
kind_is_search family text e = sym (kind_search (kind_of text) family e)

pub kind_is_walk : (text : List ℕ) → kind_of text ≡ 6 → kind_in text ≡ walk
unfolding kind_in
kind_is_walk text e = sym (kind_walk (kind_of text) e)

-- ---- the faults of a text

-- the numbers ascend, none is 0, and none is above 9
abbrev Ordered : Kind → Type 0
Ordered kind = (r : Request) → (numbered (kind.faults r) ≡ true) × (ascends 1 (kind.faults r) ≡ true) × (most 9 (kind.faults r) ≡ true)

ordered : (text : List ℕ) → Ordered (kind_in text)
unfolding search check survey gates walk search_faults check_faults survey_faults walk_faults polynomial_faults numbered ascends most
ordered text =
    kind_holds Ordered (λ family r. (refl, refl, refl)) (λ r. (refl, refl, refl)) (λ r. (refl, refl, refl)) (λ r. (refl, refl, refl)) (λ r. (refl, refl, refl))
    (λ k r. (refl, refl, refl)) text

pub faults_numbered : (text : List ℕ) → numbered (faults_of text) ≡ true
unfolding faults_of numbered
faults_numbered text = (ordered text (request_in text)).0

pub faults_ascend : (text : List ℕ) → ascends 0 (faults_of text) ≡ true
unfolding faults_of ascends
faults_ascend text = (ordered text (request_in text)).1

pub faults_to_nine : (text : List ℕ) → most 9 (faults_of text) ≡ true
unfolding faults_of most
faults_to_nine text = (ordered text (request_in text)).2

-- 9 is a number of the searches and of the walk alone
abbrev pub OfSearch : ℕ → Type 0
OfSearch kind = ((family : Family) × (kind ≡ search_number family)) ⊎ (kind ≡ 6)

abbrev NineOfSearch : Kind → Type 0
NineOfSearch kind = (r : Request) → OfSearch kind.number ⊎ (lacks 9 (kind.faults r) ≡ true)

nine_of_search : (text : List ℕ) → NineOfSearch (kind_in text)
unfolding search check survey gates walk check_faults survey_faults polynomial_faults lacks
nine_of_search text =
    kind_holds NineOfSearch (λ family r. inl (inl (family, refl))) (λ r. inr refl) (λ r. inr refl) (λ r. inr refl) (λ r. inl (inr refl)) (λ k r. inr refl) text

pub nine_is_search : (text : List ℕ) → Applies (faults_of text) 9 → OfSearch (kind_of text)
unfolding faults_of lacks
nine_is_search text a =
    ⊎_elim (λ (e : OfSearch (kind_in text).number). subst OfSearch (kind_number text) e)
    (λ (e : lacks 9 ((kind_in text).faults (request_in text)) ≡ true). absurd (lacks_applies 9 (faults_of text) e a)) (nine_of_search text (request_in text))

-- ---- what is due

pub due_number : (text : List ℕ) → (due text).number ≡ first_number (faults_of text)
unfolding due
due_number text = after_number_is [] _ (faults_of text)

pub due_most : (text : List ℕ) → (due text).number ≤ 9
due_most text = go (due text).number (sym (due_number text))
  where
    go : (m : ℕ) → first_number (faults_of text) ≡ m → m ≤ 9
    go zero e = lit≤ tt
    go (suc m) e = applies_most 9 (faults_of text) (faults_to_nine text) (suc m) (first_applies (faults_of text) m e)

-- a text in form is not refused with 1
pub form_not_one : (text : List ℕ) → in_form text ≡ true → (due text).number ≢ 1
unfolding faults_of first_number
form_not_one text form one =
    let first : first_number ((kind_in text).faults (request_in text)) ≡ 1 = rw form at (sym (due_number text) ∙ one) in
    omega (arith, applies_above 1 _ (ordered text (request_in text)).1 1 (first_applies _ 0 first))

-- nothing applies: the lines are due, and the kind's own faults are not there
pub due_lines_of : (text : List ℕ) → (due text).number ≡ 0 → (due text).value ≡ (kind_in text).lines (request_in text)
unfolding due
due_lines_of text e = after_value [] _ (faults_of text) (sym (due_number text) ∙ e)

pub due_passed : (text : List ℕ) → (due text).number ≡ 0 → first_number ((kind_in text).faults (request_in text)) ≡ 0
unfolding faults_of
due_passed text e = (first_passed 1 0 _ _ (λ h. omega arith) (sym (due_number text) ∙ e)).1

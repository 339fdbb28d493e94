-- Each of the numbers 1 to 8 applies to a request text exactly if document 01 states it (`limits_exactly`): the tests of every kind decide
-- what is stated of it. Assumes nothing.
use mathlib.Core.Path.{◌≡◌, refl, sym, subst, ◌∙◌}
use mathlib.Core.Logic.{◌≢◌, ◌↔◌, ◌⊎◌, ⊎_elim}
use mathlib.Core.Bool.{Bool, true, false, cond, not, ◌||◌, true≢false}
use mathlib.Core.List.Memᴰ
use mathlib.Core.List.{List, [], ◌∷◌, ◌++◌, Memᴰ}
use Prim.Native.Nat.{ℕ, ◌*◌, ◌≤◌, ◌<◌}
use native.Mathlib.Omega.{arith}
use borrow.Author.Tests.{eqb-true, eq-eqb, ne_eqb}
use lib.Dec.{eqb, ltb, lit≤}
use lib.ListN.{length}
use Rattle.refusal.specs.Refusals.{Fault, fault, Applies}
use Rattle.refusal.proofs.Faults.{fault_here, fault_cases}
use Rattle.refusal.proofs.Tests.{never_passes, below_exactly, same_exactly, not_exactly, or_exactly}
use Rattle.field.proofs.Limits.{call_exactly, stated_most}
use Rattle.checks.proofs.Limits.{order_exactly}
use Rattle.rows.specs.declared.Family.{Family}
use Rattle.rows.specs.declared.Family.TheVariants.{Hadamard, Circulant}
use Rattle.rows.specs.Walks.{Walked}
use Rattle.search.specs.Answer.{brief_faults, search_faults}
use Rattle.search.specs.Stated.{StatedFor}
use Rattle.walk.specs.Answer.{walk_faults}
use Rattle.search.proofs.Limits.{some_too_large_exactly, search_exactly}
use Rattle.text.specs.Text.{InForm}
use Rattle.text.specs.Reading.{in_form, kind_of}
use Rattle.text.proofs.Requests.{in_form_exactly}
use Rattle.reply.specs.Due.{Request, Kind, check_faults, survey_faults, search_number, search, check, survey, gates, walk, kinds, kind_among, kind_in, request_in, faults_of}
use Rattle.answer.specs.Limits.{CheckStated, SurveyStated, wrong_degree, order_not_zero, count_not_zero, RequestStated, no_kind, of_search, of_check, of_survey, of_gates, of_walk, StatedOf, not_in_form, of_request}
use Rattle.answer.proofs.EveryKind.{unknown}

-- ---- a check

pub check_count_exactly : (n : ℕ) (values : List ℕ) → (not (eqb (length values) (n * n)) ≡ true) ↔ (length values ≢ n * n)
check_count_exactly n values = not_exactly _ (same_exactly (length values) (n * n))

pub check_exactly : (p n : ℕ) (values : List ℕ) (k : ℕ) → Applies (check_faults p n values) k ↔ CheckStated p n values k
unfolding check_faults
check_exactly p n values = call_exactly p (order_exactly n) (check_count_exactly n values) (some_too_large_exactly p values) never_passes

-- ---- a survey

pub survey_degree_exactly : (m : ℕ) → ((ltb m 2 || ltb 8 m) ≡ true) ↔ ((m < 2) ⊎ (8 < m))
survey_degree_exactly m = or_exactly _ _ (below_exactly m 2) (below_exactly 8 m)

pub survey_order_exactly : (order : ℕ) → (not (eqb order 0) ≡ true) ↔ (order ≢ 0)
survey_order_exactly order = not_exactly _ (same_exactly order 0)

pub survey_count_exactly : (values : List ℕ) → (not (eqb (length values) 0) ≡ true) ↔ (length values ≢ 0)
survey_count_exactly values = not_exactly _ (same_exactly (length values) 0)

pub survey_exactly : (m order : ℕ) (values : List ℕ) (k : ℕ) → Applies (survey_faults m order values) k ↔ SurveyStated m order values k
unfolding Applies survey_faults
survey_exactly m order values k = (to, from)
  where
    to : Memᴰ (fault k true) (survey_faults m order values) → SurveyStated m order values k
    to =
        fault_cases 3 (λ e t. rw e (wrong_degree ((survey_degree_exactly m).0 t)))
        (fault_cases 5 (λ e t. rw e (order_not_zero ((survey_order_exactly order).0 t)))
        (fault_cases 6 (λ e t. rw e (count_not_zero ((survey_count_exactly values).0 t))) (λ m. absurd (Memᴰ.not-nil m))))

    from : {k : ℕ} → SurveyStated m order values k → Memᴰ (fault k true) (survey_faults m order values)
    from (wrong_degree h) = fault_here 3 ((survey_degree_exactly m).1 h)
    from (order_not_zero h) = Memᴰ.tail (fault_here 5 ((survey_order_exactly order).1 h))
    from (count_not_zero h) = Memᴰ.tail (Memᴰ.tail (fault_here 6 ((survey_count_exactly values).1 h)))

-- ---- a walk

-- the test of 9, the last one, tells nothing of the numbers below
below_nine : (l : List Fault) (b c : Bool) (k : ℕ) → k ≤ 8 → Applies (l ++ fault 9 b ∷ []) k → Applies (l ++ fault 9 c ∷ []) k
unfolding Applies
below_nine l b c k h m =
    ⊎_elim (λ i. Memᴰ.append_left _ i) (fault_cases 9 (λ e t. let z : ⊥ = omega arith in absurd z) (λ i. absurd (Memᴰ.not-nil i)))
    (Memᴰ.append_cases l m)

-- 3 to 8 of a walk are those of the search
pub walk_exactly : (p n : ℕ) (values : List ℕ) (w : Walked) (k : ℕ) → k ≤ 8 → Applies (walk_faults p n values w) k ↔ StatedFor Hadamard p n values k
unfolding walk_faults search_faults
walk_exactly p n values w k l =
    let brief = brief_faults Hadamard p n values in
    let exactly = search_exactly Hadamard p n values w.best k l in
    (λ m. exactly.0 (below_nine brief _ _ k l m), λ s. below_nine brief _ _ k l (exactly.1 s))

-- ---- every kind

-- one statement or the other, by a test
unfoldable Chosen : Bool → Type 0 → Type 0 → Type 0
Chosen true S T = S
Chosen false S T = T

-- what is stated of a request, by the number of its kind
unfoldable Said : ℕ → ℕ → ℕ → List ℕ → ℕ → Type 0
Said kind p n values k =
    Chosen (eqb kind 1) (StatedFor Hadamard p n values k)
    (Chosen (eqb kind 2) (CheckStated p n values k)
    (Chosen (eqb kind 3) (SurveyStated p n values k)
    (Chosen (eqb kind 4) (CheckStated p n values k)
    (Chosen (eqb kind 5) (StatedFor Circulant p n values k)
    (Chosen (eqb kind 6) (StatedFor Hadamard p n values k) (k ≡ 2))))))

-- by the test that passes
by_number : {R S T : Type 0} (kind m : ℕ) → (kind ≡ m → S → R) → (kind ≢ m → T → R) → Chosen (eqb kind m) S T → R
unfolding Chosen
by_number {R} {S} {T} kind m h h' = go (eqb kind m) refl
  where
    go : (b : Bool) → eqb kind m ≡ b → Chosen b S T → R
    go true e s = h (eqb-true kind m e) s
    go false e t = h' (λ q. true≢false (sym (eq-eqb kind m q) ∙ e)) t

module _ {kind p n : ℕ} {values : List ℕ} where
  -- it is what is stated of the request
  stated_said : {k : ℕ} → RequestStated kind p n values k → Said kind p n values k
  unfolding Said Chosen
  stated_said (no_kind a b c d f g) = rw (ne_eqb kind 1 a, ne_eqb kind 2 b, ne_eqb kind 3 c, ne_eqb kind 4 d, ne_eqb kind 5 f, ne_eqb kind 6 g) refl
  stated_said (of_search Hadamard e s) = rw e s
  stated_said (of_search Circulant e s) = rw e s
  stated_said (of_check e s) = rw e s
  stated_said (of_survey e s) = rw e s
  stated_said (of_gates e s) = rw e s
  stated_said (of_walk e s) = rw e s

  said_stated : {k : ℕ} → Said kind p n values k → RequestStated kind p n values k
  unfolding Said
  said_stated =
      by_number kind 1 (of_search Hadamard) (λ a.
      by_number kind 2 of_check (λ b.
      by_number kind 3 of_survey (λ c.
      by_number kind 4 of_gates (λ d.
      by_number kind 5 (of_search Circulant) (λ f.
      by_number kind 6 of_walk (λ g e. rw e (no_kind a b c d f g)))))))

  -- of a search, and of a walk
  pub search_stated : {k : ℕ} (family : Family) → kind ≡ search_number family → RequestStated kind p n values k → StatedFor family p n values k
  unfolding Said Chosen
  search_stated {k} Hadamard e s = subst (λ (m : ℕ). Said m p n values k) e (stated_said s)
  search_stated {k} Circulant e s = subst (λ (m : ℕ). Said m p n values k) e (stated_said s)

  pub walk_stated : {k : ℕ} → kind ≡ 6 → RequestStated kind p n values k → StatedFor Hadamard p n values k
  unfolding Said Chosen
  walk_stated {k} e s = subst (λ (m : ℕ). Said m p n values k) e (stated_said s)

module _ (r : Request) (k : ℕ) where
  -- the numbers of a kind's faults are these
  abbrev Exactly : Kind → Type 0 → Type 0
  Exactly kind S = Applies (kind.faults r) k ↔ S

  chosen_exactly : (b : Bool) (x y : Kind) (S T : Type 0) → Exactly x S → Exactly y T → Exactly (cond b x y) (Chosen b S T)
  unfolding Chosen
  chosen_exactly true x y S T h h' = h
  chosen_exactly false x y S T h h' = h'

  unknown_exactly : (number : ℕ) → Exactly (unknown number) (k ≡ 2)
  unfolding Applies
  unknown_exactly number = (fault_cases 2 (λ e t. e) (λ m. absurd (Memᴰ.not-nil m)), λ e. rw e (fault_here 2 refl))

  -- every kind's are those stated of its requests
  kind_said : (number : ℕ) → k ≤ 8 → Exactly (kind_among kinds number) (Said number r.polynomial r.order r.values k)
  unfolding kinds kind_among search check survey gates walk Said
  kind_said number l =
      let p = r.polynomial in
      let n = r.order in
      let v = r.values in
      chosen_exactly (eqb number 1) (search Hadamard) _ _ _ (search_exactly Hadamard p n v _ k l)
      (chosen_exactly (eqb number 2) check _ _ _ (check_exactly p n v k)
      (chosen_exactly (eqb number 3) survey _ _ _ (survey_exactly p n v k)
      (chosen_exactly (eqb number 4) gates _ _ _ (check_exactly p n v k)
      (chosen_exactly (eqb number 5) (search Circulant) _ _ _ (search_exactly Circulant p n v _ k l)
      (chosen_exactly (eqb number 6) walk _ _ _ (walk_exactly p n v _ k l) (unknown_exactly number))))))

  kind_limited : (number : ℕ) → k ≤ 8 → Exactly (kind_among kinds number) (RequestStated number r.polynomial r.order r.values k)
  kind_limited number l =
      let exactly = kind_said number l in
      (λ m. said_stated (exactly.0 m), λ s. exactly.1 (stated_said s))

-- ---- a text

pub limits_exactly : (text : List ℕ) (k : ℕ) → k ≤ 8 → Applies (faults_of text) k ↔ StatedOf text k
unfolding Applies faults_of kind_in request_in
limits_exactly text k l = (to, from l)
  where
    form : (not (in_form text) ≡ true) ↔ (InForm text → ⊥)
    form = not_exactly _ (in_form_exactly text)

    to : Memᴰ (fault k true) (faults_of text) → StatedOf text k
    to = fault_cases 1 (λ e t. rw e (not_in_form (form.0 t))) (λ m. of_request ((kind_limited (request_in text) k (kind_of text) l).0 m))

    from : {k : ℕ} → k ≤ 8 → StatedOf text k → Memᴰ (fault k true) (faults_of text)
    from l (not_in_form h) = fault_here 1 (form.1 h)
    from l (of_request {k = k} s) = Memᴰ.tail ((kind_limited (request_in text) k (kind_of text) l).1 s)

-- what is stated has a number up to 8
survey_most : {m order : ℕ} {values : List ℕ} {k : ℕ} → SurveyStated m order values k → k ≤ 8
survey_most (wrong_degree h) = lit≤ tt
survey_most (order_not_zero h) = lit≤ tt
survey_most (count_not_zero h) = lit≤ tt

request_most : {kind polynomial order : ℕ} {values : List ℕ} {k : ℕ} → RequestStated kind polynomial order values k → k ≤ 8
request_most (no_kind a b c d f g) = lit≤ tt
request_most (of_search Hadamard e s) = stated_most s
request_most (of_search Circulant e s) = stated_most s
request_most (of_check e s) = stated_most s
request_most (of_survey e s) = survey_most s
request_most (of_gates e s) = stated_most s
request_most (of_walk e s) = stated_most s

text_most : {text : List ℕ} {k : ℕ} → StatedOf text k → k ≤ 8
text_most (not_in_form h) = lit≤ tt
text_most (of_request s) = request_most s

-- so it applies
pub stated_applies : {text : List ℕ} {k : ℕ} → StatedOf text k → Applies (faults_of text) k
stated_applies {text} {k} s = (limits_exactly text k (text_most s)).1 s

-- nothing is stated of a text exactly if it has no fault with a number up to 8
pub faultless_exactly : (text : List ℕ) → ((k : ℕ) → StatedOf text k → ⊥) ↔ ((k : ℕ) → Applies (faults_of text) k → k ≤ 8 → ⊥)
faultless_exactly text = (λ h k a l. h k ((limits_exactly text k l).0 a), λ h k s. h k (stated_applies s) (text_most s))

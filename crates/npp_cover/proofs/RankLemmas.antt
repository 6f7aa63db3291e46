-- The order of ranks: that in which the code sorts them is that in which one precedes another.
use Rattle.std.proofs.Common.{◌≡◌, ◌⊎◌, inl, inr, ℕ, zero, suc, ◌+◌, ◌<◌, Bool, true, false, cond, List, [], ◌∷◌, ◌++◌, length, get_or, sym, ◌∙◌, subst, arith, Ordering, nat_cmp, nat_lt, nat_eq, All, IsPermutation, IsSorted}
use Rattle.std.proofs.lemmas.Bool.{cases_eq, cases_lt, false≢true}
use Rattle.std.proofs.lemmas.Cmp.{nat_eq_equiv}
use Rattle.std.proofs.lemmas.List.{append-nil}
use Rattle.std.proofs.lemmas.List.Elements.{All-nil, All-cons, All-append}
use Rattle.std.proofs.lemmas.List.Folds.{list_any_none}
use Rattle.std.proofs.lemmas.Map.Keys.{IsDistinct-push, IsDistinct-IsPermutation, apart_from_distinct}
use Rattle.std.specs.Cmp.{IsEquivalence}
use Rattle.std.specs.List.{IsDistinct}
use Rattle.std.proofs.lemmas.Bool.Decides.{nat_tests}
use Rattle.std.specs.Ordering.{is_lt, ordering_then}
use Rattle.npp_cover.specs.declared.label.Label.{Label}
use Rattle.npp_cover.specs.declared.rank.Rank.{Rank}
use Rattle.npp_cover.specs.Labels.{label_at}
use Rattle.npp_cover.specs.Paths.{Precedes, rank_at, ranks_at, no_rank, AreInOrder}
use Rattle.npp_cover.proofs.TestLemmas.{test_of_equal, test_of_other}

less_first : (x y : ℕ) (o : Ordering) → x < y → is_lt (ordering_then (nat_cmp x y) o) ≡ true
less_first x y o lt = let test : nat_lt x y ≡ true = grind (arith, nat_tests) in rw test

less_next : (x y : ℕ) (o : Ordering) → x ≡ y → is_lt o ≡ true → is_lt (ordering_then (nat_cmp x y) o) ≡ true
less_next x y o e less =
    let no : nat_lt x y ≡ false = grind (arith, nat_tests) in
    let same : nat_eq x y ≡ true = grind (arith, nat_tests) in
    rw (no, same) less

less_last : (x y : ℕ) → x < y → is_lt (nat_cmp x y) ≡ true
less_last x y lt = let test : nat_lt x y ≡ true = grind (arith, nat_tests) in rw test

less_by : (x y : ℕ) (o : Ordering) (P : Type 0) → (P → is_lt o ≡ true) → (x < y) ⊎ ((x ≡ y) × P) → is_lt (ordering_then (nat_cmp x y) o) ≡ true
less_by x y o P less (inl lt) = less_first x y o lt
less_by x y o P less (inr e) = less_next x y o e.0 (less e.1)

-- the order that is derived for ranks
abbrev pub cmp_ranks : Rank → Rank → Ordering
cmp_ranks p q =
    ordering_then (nat_cmp p.cost q.cost) (ordering_then (nat_cmp p.size q.size) (ordering_then (nat_cmp p.set q.set) (nat_cmp p.label q.label)))

less_of_precedes : (p q : Rank) → Precedes p q → is_lt (cmp_ranks p q) ≡ true
less_of_precedes p q h =
    less_by p.cost q.cost _ _
    (less_by p.size q.size _ _
    (less_by p.set q.set _ _ (less_last p.label q.label))) h

-- of two ranks of different labels the one that the other does not precede precedes it
step_by : (x y : ℕ) (P Q : Type 0) → ((Q → ⊥) → P) → ((y < x) ⊎ ((y ≡ x) × Q) → ⊥) → (x < y) ⊎ ((x ≡ y) × P)
step_by x y P Q more none = elim (cases_lt x y) [
  | inl lt ↦ inl lt
  | inr le ↦ elim (cases_eq x y) [
    | inl e ↦ inr (e, more (λ q. none (inr (sym e, q))))
    | inr ne ↦ absurd (none (inl (omega arith)))
  ]
]

last_by : (x y : ℕ) → (x ≡ y → ⊥) → (y < x → ⊥) → x < y
last_by x y ne none = omega arith

pub one_precedes : (p q : Rank) → (p.label ≡ q.label → ⊥) → (Precedes q p → ⊥) → Precedes p q
one_precedes p q ne none =
    step_by p.cost q.cost _ _
    (step_by p.size q.size _ _
    (step_by p.set q.set _ _ (last_by p.label q.label ne))) none

-- no two ranks are those of one label
abbrev pub is_same_label : Rank → Rank → Bool
is_same_label p q = nat_eq p.label q.label

label_equiv : IsEquivalence is_same_label
label_equiv = record {
  refl = λ p. nat_eq_equiv.refl p.label;
  symm = λ p q. nat_eq_equiv.symm p.label q.label;
  congr = λ p q r. nat_eq_equiv.congr p.label q.label r.label;
}

below_all : (n : ℕ) (labels : List Label) (r : Rank) → r.label < n → is_same_label (rank_at labels n) r ≡ false
below_all n labels r lt = test_of_other n r.label (λ e. omega arith)

last_distinct : (labels : List Label) (v n : ℕ) (b : Bool) → IsDistinct is_same_label (ranks_at labels v n) → All (λ r. r.label < n) (ranks_at labels v n)
    → IsDistinct is_same_label (ranks_at labels v n ++ cond b (rank_at labels n ∷ []) [])
last_distinct labels v n true apart below =
    IsDistinct-push label_equiv (ranks_at labels v n) (rank_at labels n) apart
    (list_any_none (is_same_label (rank_at labels n)) (ranks_at labels v n) (λ i d lt. below_all n labels (get_or (ranks_at labels v n) i d) (below i d lt)))
last_distinct labels v n false apart below = subst (λ (rs : List Rank). IsDistinct is_same_label rs) (sym (append-nil (ranks_at labels v n))) apart

last_below : (labels : List Label) (v n : ℕ) (b : Bool) → All (λ r. r.label < n) (ranks_at labels v n)
    → All (λ r. r.label < n + 1) (ranks_at labels v n ++ cond b (rank_at labels n ∷ []) [])
last_below labels v n b below =
    All-append (λ (r : Rank). r.label < n + 1) (ranks_at labels v n) (cond b (rank_at labels n ∷ []) []) (λ i d lt. omega (arith, below i d lt)) (one b)
  where
    one : (t : Bool) → All (λ r. r.label < n + 1) (cond t (rank_at labels n ∷ []) [])
    one true = All-cons (λ (r : Rank). r.label < n + 1) (rank_at labels n) [] (omega arith) (All-nil (λ (r : Rank). r.label < n + 1))
    one false = All-nil (λ (r : Rank). r.label < n + 1)

ranks_below : (labels : List Label) (v n : ℕ) → All (λ r. r.label < n) (ranks_at labels v n)
ranks_below labels v zero = All-nil (λ (r : Rank). r.label < 0)
ranks_below labels v (suc n) =
    let all = last_below labels v n (nat_eq (label_at labels n).node.0 v) (ranks_below labels v n) in λ i d lt. omega (arith, all i d lt)

ranks_distinct : (labels : List Label) (v n : ℕ) → IsDistinct is_same_label (ranks_at labels v n)
unfolding IsDistinct
ranks_distinct labels v zero = tt
ranks_distinct labels v (suc n) = last_distinct labels v n (nat_eq (label_at labels n).node.0 v) (ranks_distinct labels v n) (ranks_below labels v n)

pub labels_apart : (labels : List Label) (v : ℕ) (ranks : List Rank) → IsPermutation (ranks_at labels v (length labels)) ranks → (n : ℕ) → n + 1 < length ranks
    → (get_or ranks n no_rank).label ≡ (get_or ranks (n + 1) no_rank).label → ⊥
labels_apart labels v ranks all n lt e =
    let distinct = IsDistinct-IsPermutation is_same_label (λ p q. nat_eq_equiv.symm p.label q.label) (ranks_at labels v (length labels)) ranks all
    (ranks_distinct labels v (length labels)) in
    false≢true (sym (apart_from_distinct is_same_label ranks n (n + 1) no_rank distinct (omega arith) lt)
    ∙ test_of_equal (get_or ranks n no_rank).label (get_or ranks (n + 1) no_rank).label e)

-- ranks of which none precedes the one before it are in order
pub in_order_by : (labels : List Label) (v : ℕ) (ranks : List Rank) → IsPermutation (ranks_at labels v (length labels)) ranks
    → ((n : ℕ) → n + 1 < length ranks → Precedes (get_or ranks (n + 1) no_rank) (get_or ranks n no_rank) → ⊥) → AreInOrder labels v ranks
in_order_by labels v ranks all none = record {
  all = all;
  rising = λ n lt. one_precedes (get_or ranks n no_rank) (get_or ranks (n + 1) no_rank) (labels_apart labels v ranks all n lt) (none n lt);
}

-- sorted ranks are in order
pub in_order : (labels : List Label) (v : ℕ) (ranks : List Rank) → IsPermutation (ranks_at labels v (length labels)) ranks → IsSorted cmp_ranks ranks
    → AreInOrder labels v ranks
in_order labels v ranks all sorted =
    in_order_by labels v ranks all
    (λ n lt before. false≢true (sym (sorted n no_rank (omega arith) lt) ∙ less_of_precedes (get_or ranks (n + 1) no_rank) (get_or ranks n no_rank) before))

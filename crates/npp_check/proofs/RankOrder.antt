-- Ranks that are put one by one in their places are in order, and so the paths of a cover are those of its labels.
use Rattle.std.specs.Prelude.{◌≡◌, ◌⊎◌, ℕ, zero, suc, ◌+◌, ◌<◌, Bool, true, false, cond, ◌&&◌, ◌||◌, ◌==◌, nat_lt, List, [], ◌∷◌, length, slice_index_or, refl, IsPermutation}
use Rattle.std.proofs.Common.{arith, subst, inl, inr, eqb-true, eq-eqb, ltb-true}
use Rattle.std.proofs.lemmas.Bool.Decides.{nat_tests}
use Rattle.std.proofs.lemmas.List.Sorted.{IsPermutation-refl, IsPermutation-cons, IsPermutation-middle, IsPermutation-trans}
use Rattle.npp_net.specs.declared.types.ArcId.{ArcId}
use Rattle.npp_net.specs.declared.types.Commodity.{Commodity}
use Rattle.npp_cover.specs.declared.label.Label.{Label}
use Rattle.npp_cover.specs.declared.rank.Rank.{Rank}
use Rattle.npp_cover.specs.Paths.{Precedes, AreInOrder, ArePathsOf, ranks_at, no_rank}
use Rattle.npp_cover.specs.Replaces.{CoverValue}
use Rattle.npp_cover.proofs.RankLemmas.{one_precedes, labels_apart}
use Rattle.npp_cover.proofs.OrderLaws.{one_list}
use Rattle.npp_check.specs.CoverLines.{precedes, put_rank, in_order, paths_of_labels, cover_of}

-- ---- the order of ranks

step_yes : (x y : ℕ) (b : Bool) (P : Type 0) → (b ≡ true → P) → (nat_lt x y || ((x == y) && b)) ≡ true → (x < y) ⊎ ((x ≡ y) × P)
step_yes x y b P h e = by_tests (nat_lt x y) (x == y) b refl refl refl e
  where
    by_tests : (less same rest : Bool) → nat_lt x y ≡ less → (x == y) ≡ same → b ≡ rest → (less || (same && rest)) ≡ true → (x < y) ⊎ ((x ≡ y) × P)
    by_tests true same rest l s r d = inl (ltb-true x y l)
    by_tests false true true l s r d = inr (eqb-true x y s, h r)
    by_tests false true false l s r d = cc
    by_tests false false rest l s r d = cc

step_no : (x y : ℕ) (b : Bool) (P : Type 0) → (b ≡ false → P → ⊥) → (nat_lt x y || ((x == y) && b)) ≡ false → (x < y) ⊎ ((x ≡ y) × P) → ⊥
step_no x y b P h e (inl lt) = let test : nat_lt x y ≡ true = grind (arith, nat_tests) in cc
step_no x y b P h e (inr s) =
    let less : nat_lt x y ≡ false = grind (arith, nat_tests) in
    let same : (x == y) ≡ true = eq-eqb x y s.0 in
    h (rw (less, same) at e) s.1

apart : (x y : ℕ) (P Q : Type 0) → (P → Q → ⊥) → (x < y) ⊎ ((x ≡ y) × P) → (y < x) ⊎ ((y ≡ x) × Q) → ⊥
apart x y P Q h (inl a) (inl b) = omega (arith, a, b)
apart x y P Q h (inl a) (inr b) = omega (arith, a, b.0)
apart x y P Q h (inr a) (inl b) = omega (arith, a.0, b)
apart x y P Q h (inr a) (inr b) = h a.1 b.1

precedes_is : (p q : Rank) → precedes p q ≡ true → Precedes p q
precedes_is p q e = step_yes p.cost q.cost _ _ (λ c. step_yes p.size q.size _ _ (λ s. step_yes p.set q.set _ _ (λ l. ltb-true p.label q.label l) s) c) e

not_less : (x y : ℕ) → nat_lt x y ≡ false → x < y → ⊥
not_less x y e lt = let test : nat_lt x y ≡ true = grind (arith, nat_tests) in cc

precedes_no : (p q : Rank) → precedes p q ≡ false → Precedes p q → ⊥
precedes_no p q e h = step_no p.cost q.cost _ _ (λ c. step_no p.size q.size _ _ (λ s. step_no p.set q.set _ _ (λ l. not_less p.label q.label l) s) c) e h

one_way : (p q : Rank) → Precedes p q → Precedes q p → ⊥
one_way p q h k = apart p.cost q.cost _ _ (λ c d. apart p.size q.size _ _ (λ s t. apart p.set q.set _ _ (λ l m. omega (arith, l, m)) s t) c d) h k

-- ---- ranks put in their places

put_permutes : (r : Rank) (ranks : List Rank) → IsPermutation (r ∷ ranks) (put_rank r ranks)
put_permutes r [] = IsPermutation-refl (r ∷ [])
put_permutes r (q ∷ ranks) = by_test (put_permutes r ranks) (precedes r q)
  where
    by_test : IsPermutation (r ∷ ranks) (put_rank r ranks) → (b : Bool) → IsPermutation (r ∷ q ∷ ranks) (cond b (r ∷ q ∷ ranks) (q ∷ put_rank r ranks))
    by_test behind true = IsPermutation-refl (r ∷ q ∷ ranks)
    by_test behind false =
        IsPermutation-trans (r ∷ q ∷ ranks) (q ∷ r ∷ ranks) (q ∷ put_rank r ranks) (IsPermutation-middle (r ∷ []) q ranks)
        (IsPermutation-cons q (r ∷ ranks) (put_rank r ranks) behind)

order_permutes : (ranks : List Rank) → IsPermutation ranks (in_order ranks)
order_permutes [] = IsPermutation-refl []
order_permutes (r ∷ ranks) =
    IsPermutation-trans (r ∷ ranks) (r ∷ in_order ranks) (put_rank r (in_order ranks)) (IsPermutation-cons r ranks (in_order ranks) (order_permutes ranks)) (put_permutes r (in_order ranks))

-- the first of these does not precede q
abbrev MayFollow : Rank → List Rank → Type 0
MayFollow q [] = Unit {0}
MayFollow q (x ∷ ranks) = Precedes x q → ⊥

abbrev Rises : List Rank → Type 0
Rises [] = Unit {0}
Rises (q ∷ ranks) = MayFollow q ranks × Rises ranks

put_follows : (q r : Rank) (ranks : List Rank) → (Precedes r q → ⊥) → MayFollow q ranks → MayFollow q (put_rank r ranks)
put_follows q r [] never h = never
put_follows q r (x ∷ ranks) never h = by_test (precedes r x)
  where
    by_test : (b : Bool) → MayFollow q (cond b (r ∷ x ∷ ranks) (x ∷ put_rank r ranks))
    by_test true = never
    by_test false = h

put_rises : (r : Rank) (ranks : List Rank) → Rises ranks → Rises (put_rank r ranks)
put_rises r [] h = (tt, tt)
put_rises r (q ∷ ranks) h = by_test (put_rises r ranks h.1) (precedes r q) refl
  where
    by_test : Rises (put_rank r ranks) → (b : Bool) → precedes r q ≡ b → Rises (cond b (r ∷ q ∷ ranks) (q ∷ put_rank r ranks))
    by_test rest true e = (λ back. one_way r q (precedes_is r q e) back, h)
    by_test rest false e = (put_follows q r ranks (precedes_no r q e) h.0, rest)

order_rises : (ranks : List Rank) → Rises (in_order ranks)
order_rises [] = tt
order_rises (r ∷ ranks) = put_rises r (in_order ranks) (order_rises ranks)

rises_at : (ranks : List Rank) → Rises ranks → (n : ℕ) → n + 1 < length ranks → Precedes (slice_index_or ranks (n + 1) no_rank) (slice_index_or ranks n no_rank) → ⊥
rises_at [] h n lt before = omega (arith, lt)
rises_at (p ∷ []) h n lt before = omega (arith, lt)
rises_at (p ∷ q ∷ ranks) h zero lt before = h.0 before
rises_at (p ∷ q ∷ ranks) h (suc n) lt before =
    let e : suc n + 1 ≡ suc (n + 1) = omega arith in
    rises_at (q ∷ ranks) h.1 n (omega (arith, lt)) (subst (λ (i : ℕ). Precedes (slice_index_or (p ∷ q ∷ ranks) i no_rank) (slice_index_or (q ∷ ranks) n no_rank)) e before)

ranks_in_order : (labels : List Label) (v : ℕ) → AreInOrder labels v (in_order (ranks_at labels v (length labels)))
ranks_in_order labels v =
    let ranks : List Rank = in_order (ranks_at labels v (length labels)) in
    let all = order_permutes (ranks_at labels v (length labels)) in
    record {
      all = all;
      rising = λ n lt.
          one_precedes (slice_index_or ranks n no_rank) (slice_index_or ranks (n + 1) no_rank) (labels_apart labels v ranks all n lt)
          (rises_at ranks (order_rises (ranks_at labels v (length labels))) n lt);
    }

-- the paths of labels in order are paths of these labels
pub paths_in_order : (labels : List Label) (v free : ℕ) (walk : List ArcId) → ArePathsOf labels v free walk (paths_of_labels labels v free walk)
paths_in_order labels v free walk = (in_order (ranks_at labels v (length labels)), ranks_in_order labels v, refl)

-- and there are no others: a cover of these labels and this walk is one
pub one_cover_of : (k : Commodity) (free : ℕ) (labels : List Label) (walk : List ArcId) (c : CoverValue) → c.labels ≡ labels
    → ArePathsOf labels k.destination.0 free walk c.paths → c.free ≡ free → c ≡ cover_of k free labels walk
one_cover_of k free labels walk c same paths cost =
    let order = one_list labels k.destination.0 free walk c.paths (paths_of_labels labels k.destination.0 free walk) paths (paths_in_order labels k.destination.0 free walk) in
    λ i. record { labels = same i; paths = order i; free = cost i }

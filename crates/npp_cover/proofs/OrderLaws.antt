-- The order of the paths of a cover is one: labels with a toll-free walk have only one list of paths.
use Rattle.std.proofs.Common.{◌≡◌, ◌⊎◌, inl, inr, ℕ, zero, suc, ◌+◌, ◌<◌, List, [], ◌∷◌, ◌++◌, length, get_or, refl, sym, ◌∙◌, ap, ap₂, subst, arith, map, Contains}
use Rattle.std.proofs.lemmas.List.Sorted.{Contains-permutation, IsPermutation-sym}
use Rattle.std.proofs.lemmas.List.{get_or_default}
use Rattle.npp_net.specs.declared.types.ArcId.{ArcId}
use Rattle.npp_cover.specs.declared.label.Label.{Label}
use Rattle.npp_cover.specs.declared.rank.Rank.{Rank}
use Rattle.npp_cover.specs.Paths.{PathValue, Precedes, no_rank, ranks_at, AreInOrder, path_of, free_path, ArePathsOf}

-- of three the first precedes the last
step_on : (x y z : ℕ) (P Q R : Type 0) → (P → Q → R) → (x < y) ⊎ ((x ≡ y) × P) → (y < z) ⊎ ((y ≡ z) × Q) → (x < z) ⊎ ((x ≡ z) × R)
step_on x y z P Q R on (inl a) (inl b) = inl (omega arith)
step_on x y z P Q R on (inl a) (inr b) = inl (omega (arith, b.0))
step_on x y z P Q R on (inr a) (inl b) = inl (omega (arith, a.0))
step_on x y z P Q R on (inr a) (inr b) = inr (a.0 ∙ b.0, on a.1 b.1)

precedes_on : (p q r : Rank) → Precedes p q → Precedes q r → Precedes p r
precedes_on p q r =
    step_on p.cost q.cost r.cost _ _ _
    (step_on p.size q.size r.size _ _ _
    (step_on p.set q.set r.set _ _ _ (λ a b. omega arith)))

step_off : (x : ℕ) (P : Type 0) → (P → ⊥) → (x < x) ⊎ ((x ≡ x) × P) → ⊥
step_off x P off (inl lt) = omega arith
step_off x P off (inr e) = off e.1

not_itself : (p : Rank) → Precedes p p → ⊥
not_itself p = step_off p.cost _ (step_off p.size _ (step_off p.set _ (λ lt. omega arith)))

abbrev Rises : List Rank → Type 0
Rises ranks = (n : ℕ) → n + 1 < length ranks → Precedes (get_or ranks n no_rank) (get_or ranks (n + 1) no_rank)

rises_tail : (r : Rank) (ranks : List Rank) → Rises (r ∷ ranks) → Rises ranks
rises_tail r ranks rises n lt =
    let e : suc n + 1 ≡ suc (n + 1) = omega arith in
    subst (λ (i : ℕ). Precedes (get_or ranks n no_rank) (get_or (r ∷ ranks) i no_rank)) e (rises (suc n) (omega arith))

-- the first precedes each other one
first_before : (r : Rank) (ranks : List Rank) → Rises (r ∷ ranks) → (i : ℕ) → i < length ranks → Precedes r (get_or ranks i no_rank)
first_before r [] rises i lt = absurd (omega arith)
first_before r (q ∷ ranks) rises zero lt = rises 0 (omega arith)
first_before r (q ∷ ranks) rises (suc i) lt =
    precedes_on r q (get_or ranks i no_rank) (rises 0 (omega arith)) (first_before q ranks (rises_tail r (q ∷ ranks) rises) i (omega arith))

member_cases : (q r : Rank) (ranks : List Rank) → Contains {X = Rank} (q ∷ ranks) r → (q ≡ r) ⊎ Contains {X = Rank} ranks r
member_cases q r ranks at = by_place at.0 at.1 at.2
  where
    by_place : (i : ℕ) → i < length (q ∷ ranks) → get_or (q ∷ ranks) i r ≡ r → (q ≡ r) ⊎ Contains {X = Rank} ranks r
    by_place zero lt is = inl is
    by_place (suc i) lt is = inr (i, omega arith, is)

member_first : (q : Rank) (ranks : List Rank) → Contains {X = Rank} (q ∷ ranks) q
member_first q ranks = (0, omega arith, refl)

member_later : (q r : Rank) (ranks : List Rank) → Contains {X = Rank} ranks r → Contains {X = Rank} (q ∷ ranks) r
member_later q r ranks at = (suc at.0, omega (arith, at.1), at.2)

before_member : (q r : Rank) (ranks : List Rank) → Rises (q ∷ ranks) → Contains {X = Rank} ranks r → Precedes q r
before_member q r ranks rises at =
    subst (λ (x : Rank). Precedes q x) (get_or_default ranks at.0 no_rank r at.1 ∙ at.2) (first_before q ranks rises at.0 at.1)

abbrev Has : List Rank → List Rank → Type 0
Has xs ys = (r : Rank) → Contains {X = Rank} ys r → Contains {X = Rank} xs r

same_first : (p q : Rank) (xs ys : List Rank) → Rises (p ∷ xs) → Rises (q ∷ ys) → Has (p ∷ xs) (q ∷ ys) → Has (q ∷ ys) (p ∷ xs) → p ≡ q
same_first p q xs ys first second has had = elim (member_cases p q xs (has q (member_first q ys))) [
  | inl e ↦ e
  | inr later ↦ elim (member_cases q p ys (had p (member_first p xs))) [
    | inl e ↦ sym e
    | inr later' ↦ absurd (not_itself p (precedes_on p q p (before_member p q xs first later) (before_member q p ys second later')))
  ]
]

has_tail : (p q : Rank) (xs ys : List Rank) → p ≡ q → Rises (q ∷ ys) → Has (p ∷ xs) (q ∷ ys) → Has xs ys
has_tail p q xs ys same second has r at = elim (member_cases p r xs (has r (member_later q r ys at))) [
  | inl e ↦ absurd (not_itself r (subst (λ (x : Rank). Precedes x r) (sym same ∙ e) (before_member q r ys second at)))
  | inr later ↦ later
]

same_ranks : (xs ys : List Rank) → Rises xs → Rises ys → Has xs ys → Has ys xs → xs ≡ ys
same_ranks [] [] first second has had = refl
same_ranks [] (y ∷ ys) first second has had = absurd (omega (arith, (has y (member_first y ys)).1))
same_ranks (x ∷ xs) [] first second has had = absurd (omega (arith, (had x (member_first x xs)).1))
same_ranks (x ∷ xs) (y ∷ ys) first second has had =
    let same = same_first x y xs ys first second has had in
    ap₂ ◌∷◌ same
    (same_ranks xs ys (rises_tail x xs first) (rises_tail y ys second) (has_tail x y xs ys same second has) (has_tail y x ys xs (sym same) first had))

pub one_order : (labels : List Label) (v : ℕ) (xs ys : List Rank) → AreInOrder labels v xs → AreInOrder labels v ys → xs ≡ ys
one_order labels v xs ys first second =
    let all : List Rank = ranks_at labels v (length labels) in
    same_ranks xs ys first.rising second.rising
    (λ r at. Contains-permutation all xs r first.all (Contains-permutation ys all r (IsPermutation-sym all ys second.all) at))
    (λ r at. Contains-permutation all ys r second.all (Contains-permutation xs all r (IsPermutation-sym all xs first.all) at))

pub one_list : (labels : List Label) (v free : ℕ) (walk : List ArcId) (paths other : List PathValue) → ArePathsOf labels v free walk paths → ArePathsOf labels v free walk other
    → paths ≡ other
one_list labels v free walk paths other first second =
    first.2
    ∙ (ap (λ (ranks : List Rank). map (path_of labels) ranks ++ free_path free walk ∷ []) (one_order labels v first.0 second.0 first.1 second.1) ∙ sym second.2)

-- A scan of the nodes that wait for the one that comes first.
use Rattle.std.proofs.Common.{◌≡◌, inl, inr, ℕ, zero, suc, ◌+◌, ◌<◌, List, length, sym, ◌∙◌, subst, arith}
use Rattle.std.specs.Prelude.{slice_index_or}
use Rattle.std.proofs.lemmas.Bool.{cases_lt}
use Rattle.std.proofs.lemmas.List.{get_or_default}
use Rattle.npp_search.specs.declared.picker.OpenNode.{OpenNode}
use Rattle.npp_search.specs.Picker.{IsBetterBound, IsFirstBy, IsGreatestAt}
use Rattle.npp_search.specs.PickerLaws.{better_bound}

module _ (R : OpenNode → OpenNode → Type 0) (itself : (n : OpenNode) → R n n) (goes_on : (n m k : OpenNode) → R n m → R m k → R n k) where
  -- the node comes first among those before this place
  abbrev pub IsFirstBelow : List OpenNode → ℕ → ℕ → Type 0
  IsFirstBelow live best place = (i : ℕ) (d : OpenNode) → i < place → R (slice_index_or live best d) (slice_index_or live i d)

  -- one place more, where the node there does not come first
  first_more : (live : List OpenNode) (best place : ℕ) → IsFirstBelow live best place
      → ((d : OpenNode) → R (slice_index_or live best d) (slice_index_or live place d)) → IsFirstBelow live best (place + 1)
  first_more live best place first here i d in_range = elim (cases_lt i place) [
    | inl before ↦ first i d before
    | inr after ↦ (let same : place ≡ i = omega arith in subst (λ (k : ℕ). R (slice_index_or live best d) (slice_index_or live k d)) same (here d))
  ]

  -- and where it does
  better_more : (live : List OpenNode) (best place : ℕ) → IsFirstBelow live best place
      → ((d : OpenNode) → R (slice_index_or live place d) (slice_index_or live best d)) → IsFirstBelow live place (place + 1)
  better_more live best place first here i d in_range = elim (cases_lt i place) [
    | inl before ↦ goes_on (slice_index_or live place d) (slice_index_or live best d) (slice_index_or live i d) (here d) (first i d before)
    | inr after ↦ (let same : place ≡ i = omega arith in subst (λ (k : ℕ). R (slice_index_or live place d) (slice_index_or live k d)) same (itself (slice_index_or live place d)))
  ]

  pub first_one : (live : List OpenNode) → IsFirstBelow live 0 1
  first_one live zero d lt = itself (slice_index_or live 0 d)
  first_one live (suc i) d lt = absurd (omega arith)

  -- ---- a turn of the scan

  there : (live : List OpenNode) (a b : ℕ) (x y d : OpenNode) → a < length live → b < length live → x ≡ slice_index_or live a x → y ≡ slice_index_or live b y
      → R x y → R (slice_index_or live a d) (slice_index_or live b d)
  there live a b x y d lt lt' ex ey h =
      let at_a : x ≡ slice_index_or live a d = ex ∙ get_or_default live a x d lt in
      let at_b : y ≡ slice_index_or live b d = ey ∙ get_or_default live b y d lt' in
      subst (λ (n : OpenNode). R n (slice_index_or live b d)) at_a (subst (λ (n : OpenNode). R x n) at_b h)

  module _ (live : List OpenNode) (best place : ℕ) (x y : OpenNode) (lt : best < length live) (lt' : place < length live) (first : IsFirstBelow live best place)
      (at_place : x ≡ slice_index_or live place x) (at_best : y ≡ slice_index_or live best y) where
    pub scan_takes : (next : ℕ) → next ≡ place → R x y → (next < length live) × IsFirstBelow live next (place + 1)
    scan_takes next same h =
        subst (λ (k : ℕ). (k < length live) × IsFirstBelow live k (place + 1)) (sym same)
        (lt', better_more live best place first (λ d. there live place best x y d lt' lt at_place at_best h))

    pub scan_keeps : (next : ℕ) → next ≡ best → R y x → (next < length live) × IsFirstBelow live next (place + 1)
    scan_keeps next same h =
        subst (λ (k : ℕ). (k < length live) × IsFirstBelow live k (place + 1)) (sym same)
        (lt, first_more live best place first (λ d. there live best place y x d lt lt' at_best at_place h))

-- the first by bound has the greatest
pub greatest_of_first : (live : List OpenNode) (best : ℕ) → IsFirstBy IsBetterBound live best → best < length live → IsGreatestAt live best
greatest_of_first live best first lt d i e in_range = better_bound (slice_index_or live best d) (slice_index_or live i e) (first' (first i e in_range))
  where
    first' : IsBetterBound (slice_index_or live best e) (slice_index_or live i e) → IsBetterBound (slice_index_or live best d) (slice_index_or live i e)
    first' h = subst (λ (n : OpenNode). IsBetterBound n (slice_index_or live i e)) (get_or_default live best e d lt) h

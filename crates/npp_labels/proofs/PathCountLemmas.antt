-- How many useful paths there are: two useful covers of one commodity have equally many.
use Rattle.std.proofs.Common.{◌≡◌, inl, inr, ℕ, zero, suc, ◌+◌, ◌<◌, ◌≤◌, Bool, true, false, cond, List, [], ◌∷◌, length, map, sym, ◌∙◌, ap, subst, arith, nat_eq}
use Rattle.std.proofs.lemmas.Bool.{cases_eq, cases_lt, eq-eqb, ne_eqb}
use Rattle.std.proofs.lemmas.List.{length-append, length-map}
use Rattle.std.proofs.lemmas.List.Sorted.{length_permutation}
use Rattle.npp_net.specs.declared.types.ArcId.{ArcId}
use Rattle.npp_net.specs.declared.types.NetArc.{NetArc}
use Rattle.npp_net.specs.declared.types.Commodity.{Commodity}
use Rattle.npp_cover.specs.declared.label.Label.{Label}
use Rattle.npp_cover.specs.Labels.{label_at}
use Rattle.npp_cover.specs.Paths.{PathValue, ArePathsOf, ranks_at, rank_at, path_of, free_path}
use Rattle.npp_labels.specs.Useful.{IsAs, AreUseful, AreTheUseful}
use Rattle.npp_labels.proofs.CountLemmas.{no_more, both_as, place_of}

-- how many of the first n labels are at v
abbrev pub count : List Label → ℕ → ℕ → ℕ
count labels v n = length (ranks_at labels v n)

count_here : (labels : List Label) (v n : ℕ) → (label_at labels n).node.0 ≡ v → count labels v (suc n) ≡ count labels v n + 1
count_here labels v n here =
    let one : nat_eq (label_at labels n).node.0 v ≡ true = eq-eqb (label_at labels n).node.0 v here in
    let last = ap (λ (b : Bool). length (cond b (rank_at labels n ∷ []) [])) one in
    omega (arith, length-append (ranks_at labels v n) (cond (nat_eq (label_at labels n).node.0 v) (rank_at labels n ∷ []) []), last)

count_elsewhere : (labels : List Label) (v n : ℕ) → ((label_at labels n).node.0 ≡ v → ⊥) → count labels v (suc n) ≡ count labels v n
count_elsewhere labels v n other =
    let none : nat_eq (label_at labels n).node.0 v ≡ false = ne_eqb (label_at labels n).node.0 v other in
    let last = ap (λ (b : Bool). length (cond b (rank_at labels n ∷ []) [])) none in
    omega (arith, length-append (ranks_at labels v n) (cond (nat_eq (label_at labels n).node.0 v) (rank_at labels n ∷ []) []), last)

-- a label at v is counted in all that come after it
count_grows : (labels : List Label) (v l n : ℕ) → l < n → (label_at labels l).node.0 ≡ v → count labels v l < count labels v n
count_grows labels v l zero lt here = absurd (omega arith)
count_grows labels v l (suc n) lt here = elim (cases_eq l n) [
  | inl e ↦ omega (arith, ap (λ (m : ℕ). count labels v m) e, count_here labels v n (ap (λ (m : ℕ). (label_at labels m).node.0) (sym e) ∙ here))
  | inr ne ↦
      let before : count labels v l < count labels v n = count_grows labels v l n (omega arith) here in
      elim (cases_eq (label_at labels n).node.0 v) [
        | inl at ↦ omega (arith, count_here labels v n at)
        | inr other ↦ omega (arith, count_elsewhere labels v n other)
      ]
]

-- so the labels at v have different counts
count_apart : (labels : List Label) (v l m : ℕ) → (label_at labels l).node.0 ≡ v → (label_at labels m).node.0 ≡ v → count labels v l ≡ count labels v m → l ≡ m
count_apart labels v l m at_l at_m same = elim (cases_lt l m) [
  | inl lt ↦ absurd (omega (arith, count_grows labels v l m lt at_l))
  | inr le ↦ elim (cases_lt m l) [
    | inl lt ↦ absurd (omega (arith, count_grows labels v m l lt at_m))
    | inr le' ↦ omega arith
  ]
]

-- the label at v of this count
pub record IsCounted (labels : List Label) (v n i l : ℕ) : Type 0 where
  pub within : l < n
  pub there : (label_at labels l).node.0 ≡ v
  pub counted : count labels v l ≡ i

counted : (labels : List Label) (v n i : ℕ) → i < count labels v n → (l : ℕ) × IsCounted labels v n i l
counted labels v zero i lt = absurd (omega arith)
counted labels v (suc n) i lt = elim (cases_lt i (count labels v n)) [
  | inl before ↦
      let l = counted labels v n i before in
      (l.0, record { within = omega (arith, l.1.within); there = l.1.there; counted = l.1.counted })
  | inr past ↦ elim (cases_eq (label_at labels n).node.0 v) [
    | inl at ↦ (n, record { within = omega arith; there = at; counted = omega (arith, count_here labels v n at) })
    | inr other ↦ absurd (omega (arith, count_elsewhere labels v n other))
  ]
]

-- ---- useful labels at one node

-- label j of the one list is label l of the other, which has count i among those at v
record IsMet (all some : List Label) (v i j l : ℕ) : Type 0 where
  pub within : j < length all
  pub there : (label_at all j).node.0 ≡ v
  pub of : IsCounted some v (length some) i l
  pub same : IsAs (label_at all j) (label_at some l).node.0 (label_at some l).tolls (label_at some l).cost

abbrev Meets : List Label → List Label → ℕ → ℕ → ℕ → Type 0
Meets all some v i j = i < count some v (length some) → (l : ℕ) × IsMet all some v i j l

meeting : (arcs : List NetArc) (k : Commodity) (free v : ℕ) (all some : List Label) → AreTheUseful arcs k free all → AreUseful arcs k free some
    → (i : ℕ) → (j : ℕ) × Meets all some v i j
meeting arcs k free v all some whole part i = elim (cases_lt i (count some v (length some))) [
  | inl lt ↦
      let l = counted some v (length some) i lt in
      let there = place_of arcs k free all some whole part l.0 in
      let same = there.1 l.1.within in
      (there.0, λ lt'. (l.0, record { within = same.0; there = same.1.node ∙ l.1.there; of = l.1; same = same.1 }))
  | inr past ↦ (0, λ lt. absurd (omega arith))
]

meets_apart : (arcs : List NetArc) (k : Commodity) (free v : ℕ) (all some : List Label) → AreUseful arcs k free some → (i i' j j' l l' : ℕ)
    → IsMet all some v i j l → IsMet all some v i' j' l' → count all v j ≡ count all v j' → i ≡ i'
meets_apart arcs k free v all some part i i' j j' l l' met met' same =
    let same_j : j ≡ j' = count_apart all v j j' met.there met'.there same in
    let as' : IsAs (label_at all j) (label_at some l').node.0 (label_at some l').tolls (label_at some l').cost =
    subst (λ (n : ℕ). IsAs (label_at all n) (label_at some l').node.0 (label_at some l').tolls (label_at some l').cost) (sym same_j) met'.same in
    let same_l : l ≡ l' = part.once l l' met.of.within met'.of.within (both_as (label_at all j) (label_at some l) (label_at some l') met.same as') in
    sym met.of.counted ∙ (ap (λ (m : ℕ). count some v m) same_l ∙ met'.of.counted)

pub count_at_most : (arcs : List NetArc) (k : Commodity) (free v : ℕ) (all some : List Label) → AreTheUseful arcs k free all → AreUseful arcs k free some
    → count some v (length some) ≤ count all v (length all)
count_at_most arcs k free v all some whole part =
    let meet : (i : ℕ) → (j : ℕ) × Meets all some v i j = meeting arcs k free v all some whole part in
    no_more (count all v (length all)) (count some v (length some)) (λ i. count all v (meet i).0) (record {
      below = λ i lt. count_grows all v (meet i).0 (length all) ((meet i).1 lt).1.within ((meet i).1 lt).1.there;
      apart = λ i i' li li' same.
          meets_apart arcs k free v all some part i i' (meet i).0 (meet i').0 ((meet i).1 li).0 ((meet i').1 li').0 ((meet i).1 li).1 ((meet i').1 li').1 same;
    })

-- the paths are one more than the labels at the destination
pub paths_counted : (labels : List Label) (v free : ℕ) (walk : List ArcId) (paths : List PathValue) → ArePathsOf labels v free walk paths
    → length paths ≡ count labels v (length labels) + 1
paths_counted labels v free walk paths made =
    omega (
      arith,
      ap length made.2,
      length-append (map (path_of labels) made.0) (free_path free walk ∷ []),
      length-map made.0 (path_of labels),
      length_permutation (ranks_at labels v (length labels)) made.0 made.1.all,
    )

-- How many useful labels there are: no list of different ones is longer than a list of them all.
use Rattle.std.proofs.Common.{◌≡◌, inl, inr, ℕ, zero, suc, ◌<◌, ◌≤◌, List, length, refl, sym, ◌∙◌, subst, arith}
use Rattle.std.proofs.lemmas.Bool.{cases_eq, cases_lt}
use Rattle.npp_net.specs.declared.types.NetArc.{NetArc}
use Rattle.npp_net.specs.declared.types.Commodity.{Commodity}
use Rattle.npp_cover.specs.declared.label.Label.{Label}
use Rattle.npp_cover.specs.Labels.{label_at}
use Rattle.npp_labels.specs.Useful.{IsAs, AreUseful, AreTheUseful, HasTooMany}

-- ---- numbers below m that go to different numbers below n

pub record IsInjective (f : ℕ → ℕ) (m n : ℕ) : Type 0 where
  pub below : (i : ℕ) → i < m → f i < n
  pub apart : (i j : ℕ) → i < m → j < m → f i ≡ f j → i ≡ j

-- y is x, with v in the place of n
record IsAround (n v x y : ℕ) : Type 0 where
  pub there : x ≡ n → y ≡ v
  pub other : (x ≡ n → ⊥) → y ≡ x

around : (n v x : ℕ) → (y : ℕ) × IsAround n v x y
around n v x = elim (cases_eq x n) [
  | inl e ↦ (v, record { there = λ e'. refl; other = λ ne. absurd (ne e) })
  | inr ne ↦ (x, record { there = λ e. absurd (ne e); other = λ ne'. refl })
]

around_below : (n v x y : ℕ) → IsAround n v x y → x < suc n → v < suc n → (x ≡ v → ⊥) → y < n
around_below n v x y is lt lt' ne = elim (cases_eq x n) [
  | inl e ↦ omega (arith, is.there e)
  | inr e ↦ omega (arith, is.other e)
]

around_apart : (n v x y x' y' : ℕ) → IsAround n v x y → IsAround n v x' y' → (x ≡ v → ⊥) → (x' ≡ v → ⊥) → y ≡ y' → x ≡ x'
around_apart n v x y x' y' is is' ne ne' same = elim (cases_eq x n) [
  | inl e ↦ elim (cases_eq x' n) [
    | inl e' ↦ omega arith
    | inr e' ↦ absurd (ne' (omega (arith, is.there e, is'.other e')))
  ]
  | inr e ↦ elim (cases_eq x' n) [
    | inl e' ↦ absurd (ne (omega (arith, is.other e, is'.there e')))
    | inr e' ↦ omega (arith, is.other e, is'.other e')
  ]
]

pub no_more : (n m : ℕ) (f : ℕ → ℕ) → IsInjective f m n → m ≤ n
no_more n zero f is = omega arith
no_more zero (suc m) f is = absurd (omega (arith, is.below 0 (omega arith)))
no_more (suc n) (suc m) f is =
    let last : (i : ℕ) → i < m → f i ≡ f m → ⊥ = λ i lt same. absurd (omega (arith, is.apart i m (omega arith) (omega arith) same)) in
    let fewer : m ≤ n = no_more n m (λ i. (around n (f m) (f i)).0) (record {
      below = λ i lt. around_below n (f m) (f i) (around n (f m) (f i)).0 (around n (f m) (f i)).1 (is.below i (omega arith)) (is.below m (omega arith)) (last i lt);
      apart = λ i j li lj same.
          is.apart i j (omega arith) (omega arith)
          (around_apart n (f m) (f i) (around n (f m) (f i)).0 (f j) (around n (f m) (f j)).0 (around n (f m) (f i)).1 (around n (f m) (f j)).1 (last i li) (last j lj) same);
    }) in
    omega arith

-- ---- useful labels

-- label j of the one list is label i of the other, where there is one
abbrev pub IsSameAt : List Label → List Label → ℕ → ℕ → Type 0
IsSameAt all some i j = i < length some → (j < length all) × IsAs (label_at all j) (label_at some i).node.0 (label_at some i).tolls (label_at some i).cost

pub place_of : (arcs : List NetArc) (k : Commodity) (free : ℕ) (all some : List Label) → AreTheUseful arcs k free all → AreUseful arcs k free some
    → (i : ℕ) → (j : ℕ) × IsSameAt all some i j
place_of arcs k free all some whole part i = elim (cases_lt i (length some)) [
  | inl lt ↦
      let there = whole.all (label_at some i).node.0 (label_at some i).tolls (label_at some i).cost (part.each i lt) in
      (there.0, λ lt'. (there.1, there.2))
  | inr past ↦ (0, λ lt. absurd (omega arith))
]

pub both_as : (l x y : Label) → IsAs l x.node.0 x.tolls x.cost → IsAs l y.node.0 y.tolls y.cost → IsAs x y.node.0 y.tolls y.cost
both_as l x y one two = record { node = sym one.node ∙ two.node; tolls = sym one.tolls ∙ two.tolls; cost = sym one.cost ∙ two.cost }

pub useful_at_most : (arcs : List NetArc) (k : Commodity) (free : ℕ) (all some : List Label) → AreTheUseful arcs k free all → AreUseful arcs k free some
    → length some ≤ length all
useful_at_most arcs k free all some whole part =
    let place : (i : ℕ) → (j : ℕ) × IsSameAt all some i j = place_of arcs k free all some whole part in
    no_more (length all) (length some) (λ i. (place i).0) (record {
      below = λ i lt. ((place i).1 lt).0;
      apart = λ i j li lj same.
          part.once i j li lj (both_as (label_at all (place i).0) (label_at some i) (label_at some j) ((place i).1 li).1
          (subst (λ (n : ℕ). IsAs (label_at all n) (label_at some j).node.0 (label_at some j).tolls (label_at some j).cost) (sym same) ((place j).1 lj).1));
    })

-- where a list of all useful labels is within the limit there are not too many
pub not_too_many : (arcs : List NetArc) (k : Commodity) (free : ℕ) (all : List Label) → AreTheUseful arcs k free all → length all ≤ 65536
    → HasTooMany arcs k free → ⊥
not_too_many arcs k free all whole few many = absurd (omega (arith, many.1, useful_at_most arcs k free all many.0 whole many.2))

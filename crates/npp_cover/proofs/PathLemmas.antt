-- The walks of labels, and the ranks of labels.
use Rattle.std.proofs.Common.{◌≡◌, inl, inr, ℕ, zero, suc, ◌<◌, ◌≤◌, Bool, true, false, cond, List, [], ◌∷◌, ◌++◌, length, Option, Some, None, IfSome, refl, sym, ◌∙◌, ap, subst, arith, reverse, nat_eq, All, Contains}
use Rattle.std.proofs.lemmas.Bool.{cases_eq}
use Rattle.std.proofs.lemmas.Bool.Decides.{nat_tests}
use Rattle.std.proofs.lemmas.List.{reverse-append, append_assoc}
use Rattle.std.proofs.lemmas.List.Elements.{All-nil, All-cons, All-append, Contains-append_left, Contains-append_right}
use Rattle.std.specs.Option.{option_map_or}
use Rattle.npp_net.specs.declared.types.ArcId.{ArcId}
use Rattle.npp_cover.proofs.TestLemmas.{test_of_equal}
use Rattle.npp_cover.specs.declared.label.Label.{Label}
use Rattle.npp_cover.specs.declared.rank.Rank.{Rank}
use Rattle.npp_cover.specs.Labels.{label_at}
use Rattle.npp_cover.specs.Paths.{walk_back, walk_of, rank_at, ranks_at, AreLinked, IsRankOf}

same_last : (o : Option ArcId) (p n m : ℕ) (x y : List ArcId) → IfSome o (λ _. p < n) → (p < n → x ≡ y)
    → option_map_or (λ a. x ++ a ∷ []) o [] ≡ option_map_or (λ a. y ++ a ∷ []) o []
same_last None p n m x y lower same = refl
same_last (Some a) p n m x y lower same = ap (λ (xs : List ArcId). xs ++ a ∷ []) (same lower)

-- a walk does not depend on how many labels it may go back over
walk_fuel : (labels : List Label) → AreLinked labels → (n m i : ℕ) → i < n → i < m → i < length labels → walk_back labels n i ≡ walk_back labels m i
walk_fuel labels linked zero m i lt lt' in_range = absurd (omega arith)
walk_fuel labels linked (suc n) zero i lt lt' in_range = absurd (omega arith)
walk_fuel labels linked (suc n) (suc m) i lt lt' in_range =
    same_last (label_at labels i).last (label_at labels i).parent i 0 (walk_back labels n (label_at labels i).parent) (walk_back labels m (label_at labels i).parent)
    (linked i in_range)
    (λ lower. walk_fuel labels linked n m (label_at labels i).parent (omega arith) (omega arith) (omega arith))

-- the walk of a label that goes on from another
pub walk_of_more : (labels : List Label) (i : ℕ) (a : ArcId) → AreLinked labels → i < length labels → (label_at labels i).last ≡ Some a
    → ((label_at labels i).parent < i) × (walk_of labels i ≡ walk_of labels (label_at labels i).parent ++ a ∷ [])
walk_of_more labels i a linked in_range is =
    let lower : (label_at labels i).parent < i = subst (λ (o : Option ArcId). IfSome o (λ _. (label_at labels i).parent < i)) is (linked i in_range) in (
      lower,
      ap (λ (o : Option ArcId). option_map_or (λ x. walk_back labels i (label_at labels i).parent ++ x ∷ []) o []) is
          ∙ ap (λ (xs : List ArcId). xs ++ a ∷ []) (walk_fuel labels linked i (suc (label_at labels i).parent) (label_at labels i).parent lower (omega arith) (omega arith)),
    )

-- and that of the start
pub walk_of_start : (labels : List Label) (i : ℕ) → (label_at labels i).last ≡ None → walk_of labels i ≡ []
walk_of_start labels i is = ap (λ (o : Option ArcId). option_map_or (λ x. walk_back labels i (label_at labels i).parent ++ x ∷ []) o []) is

-- one arc further back
pub back_more : (labels : List Label) (start i : ℕ) (a : ArcId) (walk pushed : List ArcId) (here parent : Label) → AreLinked labels → i < length labels
    → here ≡ label_at labels i → here.last ≡ Some a → parent ≡ label_at labels i → pushed ≡ walk ++ a ∷ []
    → walk_of labels start ≡ walk_of labels i ++ reverse walk
    → (parent.parent < length labels) × (walk_of labels start ≡ walk_of labels parent.parent ++ reverse pushed)
back_more labels start i a walk pushed here parent linked in_range is_here last is_parent put so_far =
    let more = walk_of_more labels i a linked in_range (ap (λ (l : Label). l.last) (sym is_here) ∙ last) in
    let up : parent.parent ≡ (label_at labels i).parent = ap (λ (l : Label). l.parent) is_parent in (
      omega (arith, more.0),
      so_far ∙ (ap (λ (xs : List ArcId). xs ++ reverse walk) more.1
          ∙ (append_assoc (walk_of labels (label_at labels i).parent) (a ∷ []) (reverse walk)
          ∙ (ap (λ (xs : List ArcId). walk_of labels (label_at labels i).parent ++ xs) (sym (reverse-append walk (a ∷ [])))
          ∙ (ap (λ (xs : List ArcId). walk_of labels (label_at labels i).parent ++ reverse xs) (sym put)
          ∙ ap (λ (p : ℕ). walk_of labels p ++ reverse pushed) (sym up))))),
    )

no_last : (o : Option ArcId) → ((a : ArcId) → o ≡ Some a → ⊥) → o ≡ None
no_last None none = refl
no_last (Some a) none = absurd (none a refl)

-- at the start the walk is whole
pub back_end : (labels : List Label) (start i : ℕ) (walk reversed : List ArcId) (here : Label) → here ≡ label_at labels i → ((a : ArcId) → here.last ≡ Some a → ⊥)
    → reversed ≡ reverse walk → walk_of labels start ≡ walk_of labels i ++ reverse walk → reversed ≡ walk_of labels start
back_end labels start i walk reversed here is_here none is_reversed so_far =
    is_reversed ∙ sym (so_far ∙ ap (λ (xs : List ArcId). xs ++ reverse walk)
    (walk_of_start labels i (ap (λ (l : Label). l.last) (sym is_here) ∙ no_last here.last none)))

-- a label at v has its rank among those of the labels there
one_more : (labels : List Label) (v n : ℕ) (r : Rank) → Contains {X = Rank} (ranks_at labels v n) r → Contains {X = Rank} (ranks_at labels v (suc n)) r
one_more labels v n r h = Contains-append_left (ranks_at labels v n) _ r h

pub ranks_at_all : (labels : List Label) (v n i : ℕ) → i < n → (label_at labels i).node.0 ≡ v → Contains {X = Rank} (ranks_at labels v n) (rank_at labels i)
ranks_at_all labels v zero i lt node = absurd (omega arith)
ranks_at_all labels v (suc n) i lt node = elim (cases_eq i n) [
  | inl e ↦
      let test : nat_eq (label_at labels n).node.0 v ≡ true = test_of_equal (label_at labels n).node.0 v (ap (λ (j : ℕ). (label_at labels j).node.0) (sym e) ∙ node) in
      subst (λ (j : ℕ). Contains {X = Rank} (ranks_at labels v (suc n)) (rank_at labels j)) (sym e)
      (subst (λ (b : Bool). Contains {X = Rank} (ranks_at labels v n ++ cond b (rank_at labels n ∷ []) []) (rank_at labels n)) (sym test)
      (Contains-append_right (ranks_at labels v n) (rank_at labels n ∷ []) (rank_at labels n) (0, omega arith, refl)))
  | inr ne ↦ one_more labels v n (rank_at labels i) (ranks_at_all labels v n i (omega arith) node)
]

-- each of these ranks is that of a label at v
pub record IsRankAt (labels : List Label) (v : ℕ) (r : Rank) : Type 0 where
  pub of_label : IsRankOf labels r
  pub there : (label_at labels r.label).node.0 ≡ v

last_rank : (labels : List Label) (v n : ℕ) (b : Bool) → nat_eq (label_at labels n).node.0 v ≡ b → n < length labels
    → All (IsRankAt labels v) (cond b (rank_at labels n ∷ []) [])
last_rank labels v n true is lt =
    All-cons (IsRankAt labels v) (rank_at labels n) [] (record { of_label = record { in_range = lt; same = refl }; there = grind (arith, nat_tests) }) (All-nil (IsRankAt labels v))
last_rank labels v n false is lt = All-nil (IsRankAt labels v)

pub ranks_at_node : (labels : List Label) (v n : ℕ) → n ≤ length labels → All (IsRankAt labels v) (ranks_at labels v n)
ranks_at_node labels v zero le = All-nil (IsRankAt labels v)
ranks_at_node labels v (suc n) le =
    All-append (IsRankAt labels v) (ranks_at labels v n) (cond (nat_eq (label_at labels n).node.0 v) (rank_at labels n ∷ []) [])
    (ranks_at_node labels v n (omega arith)) (last_rank labels v n (nat_eq (label_at labels n).node.0 v) refl (omega arith))

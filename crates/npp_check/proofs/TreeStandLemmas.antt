-- What is known of a tree under way stays known as its nodes are read.
use Rattle.std.specs.Prelude.{◌≡◌, ℕ, suc, ◌<◌, true, List, [], ◌∷◌, length, map, slice_index, slice_index_or, All}
use Rattle.std.specs.List.{AllPairs}
use Rattle.std.proofs.Common.{arith, sym, ◌∙◌, subst}
use Rattle.std.proofs.lemmas.List.{get_or-map, get_or_default, length-map}
use Rattle.std.proofs.lemmas.List.Elements.{All-nil, All-cons}
use Rattle.npp_net.specs.Network.{Network}
use Rattle.npp_cover.specs.Replaces.{CoverValue}
use Rattle.npp_rows.specs.Caps.{path_model}
use Rattle.npp_frac.specs.Rational.{Rational}
use Rattle.npp_rows.specs.declared.cut.CutRow.{CutRow}
use Rattle.npp_rows.specs.Cuts.{Cut, IsCut}
use Rattle.npp_rows.specs.Meaning.{cut_value}
use Rattle.npp_rows.specs.PathModel.{PathModel, path_count}
use Rattle.npp_rows.specs.Parts.{IsPart, IsAllowed, part_at, first_choice, all_paths}
use Rattle.npp_rows.specs.Basic.{basic_of}
use Rattle.npp_rows.specs.Lowering.{AreClosedCovers}
use Rattle.npp_rows.specs.Rows.{IsChoice}
use Rattle.npp_tree.specs.Bounds.{BoundValue}
use Rattle.npp_tree.specs.Family.{Family, Division, divides, first_of, second_of}
use Rattle.npp_rows.proofs.WholeLaws.{covers_allowed}
use Rattle.npp_tree.proofs.DivideLaws.{divides_is}
use Rattle.npp_tree.proofs.FamilyLaws.{first_allowed, second_allowed}
use Rattle.npp_check.specs.NodeLines.{Place, child_place}
use Rattle.npp_check.specs.Standing.{AreCutsBut, IsTreeUnderWay}

module _ (net : Network) (covers : List CoverValue) (cuts : List Cut) where
  abbrev Allows : Place → Type 0
  Allows p = IsAllowed (path_model net covers) p.parts

  pub tree_first : (p : Place) (ps : List Place) → IsTreeUnderWay net covers cuts (p ∷ ps) → IsAllowed (path_model net covers) p.parts
  tree_first p ps is = is.allowed 0 p (omega arith)

  rest_of_all : (p : Place) (ps : List Place) → All Allows (p ∷ ps) → All Allows ps
  rest_of_all p ps all k d lt = all (suc k) d (omega (arith, lt))

  pub tree_rest : (p : Place) (ps : List Place) → IsTreeUnderWay net covers cuts (p ∷ ps) → IsTreeUnderWay net covers cuts ps
  tree_rest p ps is = record { known = is.known; allowed = rest_of_all p ps is.allowed }

  -- another parent's bound
  pub tree_opened : (p : Place) (ps : List Place) (bound : BoundValue) → IsTreeUnderWay net covers cuts (p ∷ ps) → IsTreeUnderWay net covers cuts (child_place bound p.parts ∷ ps)
  tree_opened p ps bound is = record { known = is.known; allowed = All-cons Allows (child_place bound p.parts) ps (tree_first p ps is) (rest_of_all p ps is.allowed) }

  pub tree_split : (parts : Family) (bound : BoundValue) (ps : List Place) (d : Division) → IsTreeUnderWay net covers cuts (child_place bound parts ∷ ps) → divides parts d ≡ true
      → IsTreeUnderWay net covers cuts (child_place bound (first_of parts d) ∷ child_place bound (second_of parts d) ∷ ps)
  tree_split parts bound ps d is divided =
      let m : PathModel = path_model net covers in
      let allowed = tree_first (child_place bound parts) ps is in
      let divides_it = divides_is parts d divided in
      record {
        known = is.known;
        allowed = All-cons Allows (child_place bound (first_of parts d)) (child_place bound (second_of parts d) ∷ ps) (first_allowed (path_model net covers) parts d allowed divides_it)
            (All-cons Allows (child_place bound (second_of parts d)) ps (second_allowed (path_model net covers) parts d allowed divides_it) (rest_of_all (child_place bound parts) ps is.allowed));
      }

  pub tree_root : (p : Place) → AreCutsBut net covers 0 cuts → IsAllowed (path_model net covers) p.parts → IsTreeUnderWay net covers cuts (p ∷ [])
  tree_root p is allowed = record { known = is; allowed = All-cons Allows p [] allowed (All-nil Allows) }

pub tree_root_at : (net : Network) (covers : List CoverValue) (cuts : List Cut) (p : Place) (places : List Place) → places ≡ [] → p.parts ≡ all_paths (path_model net covers) → AreCutsBut net covers 0 cuts
    → IsTreeUnderWay net covers cuts (p ∷ places)
tree_root_at net covers cuts p places none root is =
    subst (λ (ps : List Place). IsTreeUnderWay net covers cuts (p ∷ ps)) (sym none)
    (tree_root net covers cuts p is (subst (IsAllowed (path_model net covers)) (sym root) (covers_allowed net covers is.closed)))

-- ---- the parts of an allowed family

module _ (m : PathModel) (parts : List (List ℕ)) (allowed : IsAllowed m parts) where
  part_there : (k : ℕ) (d : List ℕ) → k < length parts → IsPart (path_count m k) (slice_index_or parts k d)
  part_there k d lt = subst (IsPart (path_count m k)) (get_or_default parts k [] d lt) (allowed.each k lt)

  pub parts_rise : All (AllPairs (λ p q. p < q)) parts
  parts_rise k d lt = (part_there k d lt).rising

  pub parts_some : All (λ part. 0 < length part) parts
  parts_some k d lt = (part_there k d lt).some

  -- its first paths are a choice
  pub first_is_choice : IsChoice m (first_choice parts)
  first_is_choice = record {
    size = length-map parts (λ (part : List ℕ). slice_index part 0) ∙ allowed.size;
    each = λ k lt.
        let inside : k < length parts = omega (arith, lt, allowed.size) in
        let first : slice_index (first_choice parts) k ≡ slice_index (part_at parts k) 0 = get_or-map (λ (part : List ℕ). slice_index part 0) parts k [] 0 inside in
        let part = allowed.each k inside in
        let below : slice_index (part_at parts k) 0 < path_count m k = part.in_range 0 0 part.some in
        omega (arith, first, below);
  }

-- ---- the same of an instance, of covers and of parts that are named in another way

module _ {m n : Network} {xs ys : List CoverValue} (d : m ≡ n) (e : xs ≡ ys) where
  pub same_model : path_model m xs ≡ path_model n ys
  same_model = λ i. path_model (d i) (e i)

  pub same_closed : AreClosedCovers n ys → AreClosedCovers m xs
  same_closed h = subst (λ (z : Network). AreClosedCovers z xs) (sym d) (subst (λ (zs : List CoverValue). AreClosedCovers n zs) (sym e) h)

  module _ {parts others : Family} (f : parts ≡ others) where
    pub same_allowed : IsAllowed (path_model n ys) others → IsAllowed (path_model m xs) parts
    same_allowed h =
        subst (λ (z : PathModel). IsAllowed z parts) (sym same_model) (subst (λ (ps : Family). IsAllowed (path_model n ys) ps) (sym f) h)

    pub same_basic : basic_of (path_model m xs) parts ≡ basic_of (path_model n ys) others
    same_basic = λ i. basic_of (same_model i) (f i)

pub allowed_at : {m n : PathModel} {parts others : Family} → m ≡ n → parts ≡ others → IsAllowed n others → IsAllowed m parts
allowed_at {m} {n} {parts} {others} e f h = subst (λ (z : PathModel). IsAllowed z parts) (sym e) (subst (λ (ps : Family). IsAllowed n ps) (sym f) h)

-- ---- cuts

pub all_of_map : {X Y : Type 0} (P : Y → Type 0) (f : X → Y) (xs : List X) → All P (map f xs) → All (λ x. P (f x)) xs
all_of_map P f [] h = All-nil (λ x. P (f x))
all_of_map P f (x ∷ xs) h = All-cons (λ x. P (f x)) x xs (h 0 (f x) (omega arith)) (all_of_map P f xs (λ k d lt. h (suc k) d (omega (arith, lt))))

pub cuts_at : {N : Type 0} (value : N → Rational) {m n : PathModel} {cuts rows : List (CutRow N)} → m ≡ n → cuts ≡ rows → All (IsCut n) (map (cut_value value) rows) → All (λ c. IsCut m (cut_value value c)) cuts
cuts_at {N} value {m} {n} {cuts} {rows} e h good =
    subst (λ (z : PathModel). All (λ c. IsCut z (cut_value value c)) cuts) (sym e)
    (subst (λ (cs : List (CutRow N)). All (λ c. IsCut n (cut_value value c)) cs) (sym h) (all_of_map (IsCut n) (cut_value value) rows good))

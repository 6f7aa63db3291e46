-- Which rows the program of a node has, and lists of multipliers that grow by one.
use Rattle.std.specs.Prelude.{◌≡◌, ℕ, zero, suc, ◌+◌, ◌-◌, ◌<◌, ◌≤◌, Bool, true, false, not, cond, ◌&&◌, ◌||◌, ◌==◌, nat_lt, List, [], ◌∷◌, ◌++◌, length, map, filter, slice_get, option_map, All, Contains, Result, Ok, Err, refl}
use Rattle.std.specs.List.{list_any, flat_map, range_with_len}
use Rattle.std.proofs.Common.{arith, ap, sym, ◌∙◌, subst, inl, inr, eqb-true, eq-eqb, eq-or-lt_of_le}
use Rattle.std.proofs.lemmas.Bool.{and_from, or_left, or_right}
use Rattle.std.proofs.lemmas.Bool.Decides.{nat_tests}
use Rattle.std.proofs.lemmas.List.FromFn.{length-map-range_with_len}
use Rattle.npp_net.specs.Network.{Network, toll_count}
use Rattle.npp_cover.specs.Replaces.{CoverValue}
use Rattle.npp_rows.specs.Caps.{toll_cap, toll_caps}
use Rattle.npp_frac.specs.Rational.{Rational, zero_ℚ, is_less}
use Rattle.npp_rows.specs.declared.names.RowName.{RowName}
use Rattle.npp_rows.specs.declared.names.RowName.TheVariants.{Cap, Follow, Below, Use, Link, One, OneLow, Cut}
use Rattle.npp_rows.specs.declared.names.Multiplier.{Multiplier}
use Rattle.npp_rows.specs.PathModel.{PathModel, commodities, tolls, uses}
use Rattle.npp_rows.specs.Cuts.{Cut as CutRow}
use Rattle.npp_rows.specs.Meaning.{multiplier_value}
use Rattle.npp_rows.specs.Named.{NamedProgram}
use Rattle.npp_rows.specs.NodeProgram.{node_program}
use Rattle.npp_rows.specs.Parts.{part_at, is_full, first_choice}
use Rattle.npp_rows.specs.Inverse.{inverse}
use Rattle.npp_rows.specs.Relax.{relaxation, cap_rows, follow_rows, on_allowed_tolls, allowed_tolls, relaxation_rows}
use Rattle.npp_rows.specs.RowOrder.{is_same_row, has_row}
use Rattle.npp_rows.specs.Rows.{IsRow, IsChoiceRow, IsPaidOn}
use Rattle.npp_rows.specs.Taken.{last_row, is_after}
use Rattle.npp_rows.proofs.FamilyLaws.{used_inside}
use Rattle.npp_rows.proofs.ProgramLaws.{all_rows, all_choice_rows}
use Rattle.npp_rows.proofs.TakenLaws.{in_order_push, positive_push}
use Rattle.npp_rows.proofs.ValueLaws.{range_has}
use Rattle.npp_rows.proofs.TakenLaws.{rows_push as rows_more}
use Rattle.npp_tree.proofs.FamilyLaws.{is_kept}
use Rattle.npp_tree.specs.declared.item.Item.{Item}
use Rattle.npp_tree.specs.declared.item.Item.TheVariants as item
use Rattle.npp_check.specs.declared.refusal.Rule.{Rule}
use Rattle.npp_check.specs.declared.refusal.Rule.TheVariants.{Evidence}
use Rattle.npp_check.specs.Multipliers.{multiplier_line}
use Rattle.npp_check.specs.Rules.{broken_if}
use Rattle.npp_check.specs.Standing.{AreOfRows}
use Rattle.npp_check.proofs.RuleLemmas.{both, unbroken, same_ok, true_of}

-- ---- one name

same_row : (r s : RowName) → is_same_row r s ≡ true → r ≡ s
same_row (Cap a) (Cap b) e = ap Cap (eqb-true a b e)
same_row (Follow k p) (Follow l q) e = let two = both (k == l) (p == q) e in λ i. Follow (eqb-true k l two.0 i) (eqb-true p q two.1 i)
same_row (Below a k) (Below b l) e = let two = both (k == l) (a == b) e in λ i. Below (eqb-true a b two.1 i) (eqb-true k l two.0 i)
same_row (Use a k) (Use b l) e = let two = both (k == l) (a == b) e in λ i. Use (eqb-true a b two.1 i) (eqb-true k l two.0 i)
same_row (Link a k) (Link b l) e = let two = both (k == l) (a == b) e in λ i. Link (eqb-true a b two.1 i) (eqb-true k l two.0 i)
same_row (One k) (One l) e = ap One (eqb-true k l (both (k == l) true e).0)
same_row (OneLow k) (OneLow l) e = ap OneLow (eqb-true k l (both (k == l) true e).0)
same_row (Cut i) (Cut j) e = ap Cut (eqb-true i j e)
same_row r s e = cc

one_row : (r : RowName) → is_same_row r r ≡ true
one_row (Cap a) = eq-eqb a a refl
one_row (Follow k p) = and_from (k == k) (p == p) (eq-eqb k k refl) (eq-eqb p p refl)
one_row (Below a k) = and_from (k == k) (a == a) (eq-eqb k k refl) (eq-eqb a a refl)
one_row (Use a k) = and_from (k == k) (a == a) (eq-eqb k k refl) (eq-eqb a a refl)
one_row (Link a k) = and_from (k == k) (a == a) (eq-eqb k k refl) (eq-eqb a a refl)
one_row (One k) = and_from (k == k) true (eq-eqb k k refl) refl
one_row (OneLow k) = and_from (k == k) true (eq-eqb k k refl) refl
one_row (Cut i) = eq-eqb i i refl

-- ---- a row among some rows

in_all : (P : RowName → Type 0) (rows : List RowName) (r : RowName) → All P rows → has_row rows r ≡ true → P r
in_all P [] r all e = cc
in_all P (x ∷ rows) r all e = by_test (is_same_row r x) refl e (in_all P rows r (λ i y lt. all (suc i) y (omega (arith, lt))))
  where
    by_test : (b : Bool) → is_same_row r x ≡ b → (b || has_row rows r) ≡ true → (has_row rows r ≡ true → P r) → P r
    by_test true same d rest = subst P (sym (same_row r x same)) (all 0 x (omega arith))
    by_test false same d rest = rest d

abbrev Has : (RowName → Bool) → List RowName → Type 0
Has t rows = list_any t rows ≡ true

module _ (t : RowName → Bool) where
  has_left : (xs ys : List RowName) → Has t xs → Has t (xs ++ ys)
  has_left [] ys e = cc
  has_left (x ∷ xs) ys e = by_test (t x) e (has_left xs ys)
    where
      by_test : (b : Bool) → (b || list_any t xs) ≡ true → (Has t xs → Has t (xs ++ ys)) → (b || list_any t (xs ++ ys)) ≡ true
      by_test true d h = refl
      by_test false d h = h d

  has_right : (xs ys : List RowName) → Has t ys → Has t (xs ++ ys)
  has_right [] ys e = e
  has_right (x ∷ xs) ys e = or_right (t x) (list_any t (xs ++ ys)) (has_right xs ys e)

  has_number : (f : ℕ → RowName) (a n x : ℕ) → t (f x) ≡ true → a ≤ x → x < a + n → Has t (map f (range_with_len a n))
  has_number f a zero x e low high = absurd (omega (arith, low, high))
  has_number f a (suc n) x e low high = elim (eq-or-lt_of_le low) [
    | inl same ↦ or_left (t (f a)) (list_any t (map f (range_with_len (a + 1) n))) (ap (λ y. t (f y)) same ∙ e)
    | inr less ↦ or_right (t (f a)) (list_any t (map f (range_with_len (a + 1) n))) (has_number f (a + 1) n x e (omega (arith, less)) (omega (arith, high)))
  ]

  has_entry : (f : ℕ → RowName) (xs : List ℕ) (x : ℕ) → t (f x) ≡ true → Contains xs x → Has t (map f xs)
  has_entry f [] x e at = absurd (omega (arith, at.1))
  has_entry f (y ∷ xs) x e (zero, lt, is) = or_left (t (f y)) (list_any t (map f xs)) (ap (λ z. t (f z)) is ∙ e)
  has_entry f (y ∷ xs) x e (suc i, lt, is) = or_right (t (f y)) (list_any t (map f xs)) (has_entry f xs x e (i, omega (arith, lt), is))

  has_piece : (g : ℕ → List RowName) (a n k : ℕ) → Has t (g k) → a ≤ k → k < a + n → Has t (flat_map g (range_with_len a n))
  has_piece g a zero k e low high = absurd (omega (arith, low, high))
  has_piece g a (suc n) k e low high = elim (eq-or-lt_of_le low) [
    | inl same ↦ has_left (g a) (flat_map g (range_with_len (a + 1) n)) (ap (λ y. list_any t (g y)) same ∙ e)
    | inr less ↦ has_right (g a) (flat_map g (range_with_len (a + 1) n)) (has_piece g (a + 1) n k e (omega (arith, less)) (omega (arith, high)))
  ]

-- ---- the rows of a relaxation

module _ (m : PathModel) (parts : List (List ℕ)) (cuts : ℕ) where
  abbrev one : List RowName
  one = cap_rows m

  abbrev two : List RowName
  two = one ++ flat_map (follow_rows m) (commodities m)

  abbrev three : List RowName
  three = two ++ on_allowed_tolls m parts Below

  abbrev four : List RowName
  four = three ++ on_allowed_tolls m parts Use

  abbrev five : List RowName
  five = four ++ on_allowed_tolls m parts Link

  abbrev six : List RowName
  six = five ++ map One (commodities m)

  abbrev seven : List RowName
  seven = six ++ map OneLow (commodities m)

  on_paid : (r : RowName) (name : ℕ → ℕ → RowName) (a k : ℕ) → is_same_row r (name a k) ≡ true → IsPaidOn m parts a k → Has (is_same_row r) (on_allowed_tolls m parts name)
  on_paid r name a k e is =
      has_piece (is_same_row r) (λ l. map (λ b. name b l) (allowed_tolls m parts l)) 0 (length m.covers) k
      (has_entry (is_same_row r) (λ b. name b k) (allowed_tolls m parts k) a e is.used) (omega arith) (omega (arith, is.commodity))

  pub row_there : (r : RowName) → IsRow m parts cuts r → has_row (relaxation_rows m parts cuts) r ≡ true
  row_there r is = by_name r is
    where
      by_name : (r : RowName) → IsRow m parts cuts r → has_row (relaxation_rows m parts cuts) r ≡ true
      by_name (Cap a) lt =
          let t : RowName → Bool = is_same_row (Cap a) in
          has_left t seven (map Cut (range_with_len 0 cuts)) (has_left t six (map OneLow (commodities m)) (has_left t five (map One (commodities m)) (has_left t four (on_allowed_tolls m parts Link)
          (has_left t three (on_allowed_tolls m parts Use) (has_left t two (on_allowed_tolls m parts Below) (has_left t one (flat_map (follow_rows m) (commodities m))
          (has_number t Cap 0 (length m.caps) a (one_row (Cap a)) (omega arith) (omega (arith, lt)))))))))
      by_name (Follow k q) lt =
          let t : RowName → Bool = is_same_row (Follow k q) in
          has_left t seven (map Cut (range_with_len 0 cuts)) (has_left t six (map OneLow (commodities m)) (has_left t five (map One (commodities m)) (has_left t four (on_allowed_tolls m parts Link)
          (has_left t three (on_allowed_tolls m parts Use) (has_left t two (on_allowed_tolls m parts Below) (has_right t one (flat_map (follow_rows m) (commodities m))
          (has_piece t (follow_rows m) 0 (length m.covers) k (has_number t (Follow k) 0 _ q (one_row (Follow k q)) (omega arith) (omega (arith, lt.1))) (omega arith) (omega (arith, lt.0)))))))))
      by_name (Below a k) is =
          let t : RowName → Bool = is_same_row (Below a k) in
          has_left t seven (map Cut (range_with_len 0 cuts)) (has_left t six (map OneLow (commodities m)) (has_left t five (map One (commodities m)) (has_left t four (on_allowed_tolls m parts Link)
          (has_left t three (on_allowed_tolls m parts Use) (has_right t two (on_allowed_tolls m parts Below) (on_paid (Below a k) Below a k (one_row (Below a k)) is))))))
      by_name (Use a k) is =
          let t : RowName → Bool = is_same_row (Use a k) in
          has_left t seven (map Cut (range_with_len 0 cuts)) (has_left t six (map OneLow (commodities m)) (has_left t five (map One (commodities m)) (has_left t four (on_allowed_tolls m parts Link)
          (has_right t three (on_allowed_tolls m parts Use) (on_paid (Use a k) Use a k (one_row (Use a k)) is)))))
      by_name (Link a k) is =
          let t : RowName → Bool = is_same_row (Link a k) in
          has_left t seven (map Cut (range_with_len 0 cuts)) (has_left t six (map OneLow (commodities m)) (has_left t five (map One (commodities m))
          (has_right t four (on_allowed_tolls m parts Link) (on_paid (Link a k) Link a k (one_row (Link a k)) is))))
      by_name (One k) lt =
          let t : RowName → Bool = is_same_row (One k) in
          has_left t seven (map Cut (range_with_len 0 cuts)) (has_left t six (map OneLow (commodities m))
          (has_right t five (map One (commodities m)) (has_number t One 0 (length m.covers) k (one_row (One k)) (omega arith) (omega (arith, lt)))))
      by_name (OneLow k) lt =
          let t : RowName → Bool = is_same_row (OneLow k) in
          has_left t seven (map Cut (range_with_len 0 cuts))
          (has_right t six (map OneLow (commodities m)) (has_number t OneLow 0 (length m.covers) k (one_row (OneLow k)) (omega arith) (omega (arith, lt))))
      by_name (Cut i) lt =
          let t : RowName → Bool = is_same_row (Cut i) in
          has_right t seven (map Cut (range_with_len 0 cuts)) (has_number t Cut 0 cuts i (one_row (Cut i)) (omega arith) (omega (arith, lt)))

  pub row_of_there : (r : RowName) → has_row (relaxation_rows m parts cuts) r ≡ true → IsRow m parts cuts r
  row_of_there r e = in_all (IsRow m parts cuts) (relaxation_rows m parts cuts) r (all_rows m parts cuts) e

-- ---- the rows of an inverse program

pub choice_row_there : (m : PathModel) (r : RowName) → IsChoiceRow m r → has_row (cap_rows m ++ flat_map (follow_rows m) (commodities m)) r ≡ true
choice_row_there m (Cap a) lt =
    has_left (is_same_row (Cap a)) (cap_rows m) (flat_map (follow_rows m) (commodities m)) (has_number (is_same_row (Cap a)) Cap 0 (length m.caps) a (one_row (Cap a)) (omega arith) (omega (arith, lt)))
choice_row_there m (Follow k q) lt =
    has_right (is_same_row (Follow k q)) (cap_rows m) (flat_map (follow_rows m) (commodities m))
    (has_piece (is_same_row (Follow k q)) (follow_rows m) 0 (length m.covers) k
    (has_number (is_same_row (Follow k q)) (Follow k) 0 _ q (one_row (Follow k q)) (omega arith) (omega (arith, lt.1))) (omega arith) (omega (arith, lt.0)))
choice_row_there m (Below a k) is = absurd is
choice_row_there m (Use a k) is = absurd is
choice_row_there m (Link a k) is = absurd is
choice_row_there m (One k) is = absurd is
choice_row_there m (OneLow k) is = absurd is
choice_row_there m (Cut i) is = absurd is

pub choice_row_of_there : (m : PathModel) (r : RowName) → has_row (cap_rows m ++ flat_map (follow_rows m) (commodities m)) r ≡ true → IsChoiceRow m r
choice_row_of_there m r e = in_all (IsChoiceRow m) (cap_rows m ++ flat_map (follow_rows m) (commodities m)) r (all_choice_rows m) e

-- ---- which rows the program of a node has

decided : (P : Type 0) (b c : Bool) → (b ≡ true → P) → (P → b ≡ true) → (P → c ≡ true) → (c ≡ true → P) → b ≡ c
decided P true c of to there from = sym (there (of refl))
decided P false true of to there from = to (from refl)
decided P false false of to there from = refl

module _ (m : PathModel) (cuts : List CutRow) (parts : List (List ℕ)) where
  pub full_program : is_full parts ≡ true → node_program m cuts parts ≡ inverse m (first_choice parts)
  full_program e = ap (λ b. cond b (inverse m (first_choice parts)) (relaxation m parts cuts)) e

  pub other_program : is_full parts ≡ false → node_program m cuts parts ≡ relaxation m parts cuts
  other_program e = ap (λ b. cond b (inverse m (first_choice parts)) (relaxation m parts cuts)) e

  module _ (r : RowName) (b : Bool) where
    pub choice_row_told : is_full parts ≡ true → (b ≡ true → IsChoiceRow m r) → (IsChoiceRow m r → b ≡ true) → b ≡ has_row (node_program m cuts parts).rows r
    choice_row_told full of to =
        decided (IsChoiceRow m r) b (has_row (cap_rows m ++ flat_map (follow_rows m) (commodities m)) r) of to (choice_row_there m r) (choice_row_of_there m r)
        ∙ ap (λ (p : NamedProgram). has_row p.rows r) (sym (full_program full))

    pub row_told : (n : ℕ) → n ≡ length cuts → is_full parts ≡ false → (b ≡ true → IsRow m parts n r) → (IsRow m parts n r → b ≡ true) → b ≡ has_row (node_program m cuts parts).rows r
    row_told n same other of to =
        decided (IsRow m parts n r) b (has_row (relaxation_rows m parts n) r) of to (row_there m parts n r) (row_of_there m parts n r)
        ∙ ap (λ k. has_row (relaxation_rows m parts k) r) same
        ∙ ap (λ (p : NamedProgram). has_row p.rows r) (sym (other_program other))

-- so of a model and of parts that are named in another way
module _ {m n : PathModel} {parts others : List (List ℕ)} (e : m ≡ n) (f : parts ≡ others) where
  pub choice_is_node : (cuts : List CutRow) → is_full parts ≡ true → inverse m (first_choice parts) ≡ node_program n cuts others
  choice_is_node cuts full = (λ i. inverse (e i) (first_choice (f i))) ∙ sym (full_program n cuts others (sym (ap is_full f) ∙ full))

  pub family_is_node : {cuts rows : List CutRow} → cuts ≡ rows → is_full parts ≡ false → relaxation m parts cuts ≡ node_program n rows others
  family_is_node {cuts} {rows} h other = (λ i. relaxation (e i) (f i) (h i)) ∙ sym (other_program n rows others (sym (ap is_full f) ∙ other))

  pub row_in : (cuts : ℕ) (r : RowName) → IsRow m parts cuts r → IsRow n others cuts r
  row_in cuts r is = subst (λ (z : PathModel). IsRow z others cuts r) e (subst (λ (ps : List (List ℕ)). IsRow m ps cuts r) f is)

  pub row_back : (cuts : ℕ) (r : RowName) → IsRow n others cuts r → IsRow m parts cuts r
  row_back cuts r is = subst (λ (z : PathModel). IsRow z parts cuts r) (sym e) (subst (λ (ps : List (List ℕ)). IsRow n ps cuts r) (sym f) is)

-- ---- tolls

pub cap_test : (net : Network) (covers : List CoverValue) (toll count : ℕ) → count ≡ toll_count net.arcs
    → (nat_lt toll count ≡ true → toll < length (toll_caps net covers)) × (toll < length (toll_caps net covers) → nat_lt toll count ≡ true)
cap_test net covers toll count same =
    let size : length (toll_caps net covers) ≡ toll_count net.arcs = length-map-range_with_len (toll_cap net covers) 0 (toll_count net.arcs) in
    (λ e. (let lt : toll < count = grind (arith, nat_tests) in omega (arith, lt, same, size)), λ lt. (let below : toll < count = omega (arith, lt, same, size) in grind (arith, nat_tests)))

-- ---- tolls that allowed paths use

any_at : {X : Type 0} (t : X → Bool) (xs : List X) (x : X) → Contains (filter t xs) x → t x ≡ true
any_at t [] x (i, lt, is) = absurd (omega (arith, lt))
any_at t (y ∷ xs) x c = by (t y) refl (any_at t xs x) c
  where
    by : (b : Bool) → t y ≡ b → (Contains (filter t xs) x → t x ≡ true) → Contains (cond b (y ∷ filter t xs) (filter t xs)) x → t x ≡ true
    by true e rest (zero, lt, is) = ap t (sym is) ∙ e
    by true e rest (suc i, lt, is) = rest (i, omega (arith, lt), is)
    by false e rest at = rest at

module _ (m : PathModel) (parts : List (List ℕ)) (a k : ℕ) where
  pub no_toll_paid : length m.caps ≤ a → IsPaidOn m parts a k → ⊥
  no_toll_paid out paid = omega (arith, out, used_inside m parts k a paid.used)

  pub none_paid : length m.covers ≤ k → IsPaidOn m parts a k → ⊥
  none_paid out paid = omega (arith, out, paid.commodity)

  module _ (b : Bool) (is : b ≡ list_any (λ p. uses m k p a) (part_at parts k)) where
    pub paid_of : a < length m.caps → k < length m.covers → b ≡ true → IsPaidOn m parts a k
    paid_of toll commodity e = record {
      commodity = commodity;
      used = is_kept (λ a. list_any (λ p. uses m k p a) (part_at parts k)) (tolls m) a (range_has (length m.caps) a toll) (sym is ∙ e);
    }

    pub paid_test : IsPaidOn m parts a k → b ≡ true
    paid_test paid = is ∙ any_at (λ a. list_any (λ p. uses m k p a) (part_at parts k)) (tolls m) a paid.used

-- ---- one multiplier more

-- what a multiplier line has told
pub multiplier_said : (p : NamedProgram) (ys : List (Multiplier Rational)) (i : Item Rational) (z : Multiplier Rational) → multiplier_line p ys i ≡ Ok z
    → (has_row p.rows z.row ≡ true) × (is_after (last_row ys) z.row ≡ true) × (is_less zero_ℚ z.value ≡ true)
multiplier_said p ys (item.Mult y) z e =
    let one = unbroken (not (has_row p.rows y.row)) Evidence (broken_if (not (is_after (last_row ys) y.row)) Evidence (broken_if (not (is_less zero_ℚ y.value)) Evidence (Ok y))) z e in
    let two = unbroken (not (is_after (last_row ys) y.row)) Evidence (broken_if (not (is_less zero_ℚ y.value)) Evidence (Ok y)) z one.1 in
    let three = unbroken (not (is_less zero_ℚ y.value)) Evidence (Ok y) z two.1 in
    subst (λ (x : Multiplier Rational). (has_row p.rows x.row ≡ true) × (is_after (last_row ys) x.row ≡ true) × (is_less zero_ℚ x.value ≡ true)) (same_ok y z three.1)
    (true_of (has_row p.rows y.row) one.0, true_of (is_after (last_row ys) y.row) two.0, true_of (is_less zero_ℚ y.value) three.0)
multiplier_said p ys other z e = cc

-- the multiplier line by its three tests
module _ (p : NamedProgram) (ys : List (Multiplier Rational)) (y : Multiplier Rational) where
  abbrev by_tests : Bool → Bool → Bool → Result (Multiplier Rational) Rule
  by_tests a b c = broken_if (not a) Evidence (broken_if (not b) Evidence (broken_if (not c) Evidence (Ok y)))

  pub no_such_row : has_row p.rows y.row ≡ false → multiplier_line p ys (item.Mult y) ≡ Err Evidence
  no_such_row a = ap (λ t. by_tests t (is_after (last_row ys) y.row) (is_less zero_ℚ y.value)) a

  pub not_behind : has_row p.rows y.row ≡ true → is_after (last_row ys) y.row ≡ false → multiplier_line p ys (item.Mult y) ≡ Err Evidence
  not_behind a b = λ i. by_tests (a i) (b i) (is_less zero_ℚ y.value)

  pub not_positive : has_row p.rows y.row ≡ true → is_after (last_row ys) y.row ≡ true → is_less zero_ℚ y.value ≡ false → multiplier_line p ys (item.Mult y) ≡ Err Evidence
  not_positive a b c = λ i. by_tests (a i) (b i) (c i)

  pub follows : has_row p.rows y.row ≡ true → is_after (last_row ys) y.row ≡ true → is_less zero_ℚ y.value ≡ true → multiplier_line p ys (item.Mult y) ≡ Ok y
  follows a b c = λ i. by_tests (a i) (b i) (c i)

module _ (p : NamedProgram) where
  pub no_rows : AreOfRows p []
  no_rows = record { rows = refl; rising = refl; positive = refl }

  pub rows_push : (ys zs : List (Multiplier Rational)) (i : Item Rational) (z : Multiplier Rational) → AreOfRows p ys → multiplier_line p ys i ≡ Ok z → zs ≡ ys ++ z ∷ [] → AreOfRows p zs
  rows_push ys zs i z h said put =
      let is = multiplier_said p ys i z said in
      subst (AreOfRows p) (sym put) (record {
        rows = rows_more p.rows ys z h.rows is.0;
        rising = in_order_push ys z h.rising is.1;
        positive = positive_push ys z h.positive is.2;
      })

-- the row of the last one
pub last_row_is : {N : Type 0} (value : N → Rational) (ys : List (Multiplier N)) → last_row (map (multiplier_value value) ys) ≡ option_map (λ y. y.row) (slice_get ys (length ys - 1))
last_row_is value [] = refl
last_row_is value (y ∷ []) = refl
last_row_is value (y ∷ z ∷ ys) = last_row_is value (z ∷ ys) ∙ ap (λ n. option_map (λ y. y.row) (slice_get (y ∷ z ∷ ys) n)) (same_place (length ys))
  where
    same_place : (n : ℕ) → suc (suc n - 1) ≡ suc (suc n) - 1
    same_place n = omega arith

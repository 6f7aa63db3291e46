-- Codes of trees with keys, by which two of them are told apart.
use Rattle.std.specs.Prelude.{◌≡◌, ℕ, ◌==◌, if◌then◌else◌, List, [], ◌∷◌, ◌++◌, Option, Some, None, refl}
use Rattle.std.specs.Coded.{Coded, code_by, coded×, coded_ℕ, coded_ℤ, coded_list, coded_option}
use Rattle.std.proofs.Common.{sym, ◌∙◌, ap, append_assoc, append-nil}
use base.Stored.{coded_via}
use Rattle.npp_frac.specs.Rational.{Rational, same_fields}
use Rattle.npp_rows.specs.declared.names.RowName.{RowName}
use Rattle.npp_rows.specs.declared.names.RowName.TheVariants as row
use Rattle.npp_rows.specs.declared.names.Multiplier.{Multiplier}
use Rattle.npp_rows.specs.declared.mark.Step.{Step}
use Rattle.npp_rows.specs.declared.mark.Step.TheVariants as step
use Rattle.npp_rows.specs.declared.mark.Mark.{Mark}
use Rattle.npp_rows.specs.declared.mark.Mark.TheVariants as mark
use Rattle.npp_tree.specs.declared.node.Evidence.{Evidence}
use Rattle.npp_tree.specs.declared.node.Evidence.TheVariants as evidence
use Rattle.npp_tree.specs.Bounds.{BoundValue, Empty, At}
use Rattle.npp_tree.specs.Family.{Division}
use Rattle.npp_tree.specs.Tree.{Tree, Leaf, Split}
use Rattle.npp_tree.specs.Keyed.{Held}

abbrev pub rational_code : Coded Rational
rational_code = coded_via (coded× coded_ℤ coded_ℕ) (λ q. (q.num, q.den)) (λ p q e. same_fields p q (ap (λ t. t.0) e) (ap (λ t. t.1) e))

-- ---- rows

abbrev row_parts : RowName → ℕ × (ℕ × ℕ)
row_parts (row.Cap a) = (0, (a, 0))
row_parts (row.Follow k q) = (1, (k, q))
row_parts (row.Below a k) = (2, (a, k))
row_parts (row.Use a k) = (3, (a, k))
row_parts (row.Link a k) = (4, (a, k))
row_parts (row.One k) = (5, (k, 0))
row_parts (row.OneLow k) = (6, (k, 0))
row_parts (row.Cut c) = (7, (c, 0))

abbrev row_from : ℕ × (ℕ × ℕ) → RowName
row_from p =
    if p.0 == 0 then row.Cap p.1.0 else (if p.0 == 1 then row.Follow p.1.0 p.1.1 else (if p.0 == 2 then row.Below p.1.0 p.1.1 else (if p.0 == 3 then row.Use p.1.0 p.1.1
    else (if p.0 == 4 then row.Link p.1.0 p.1.1 else (if p.0 == 5 then row.One p.1.0 else (if p.0 == 6 then row.OneLow p.1.0 else row.Cut p.1.0))))))

pub row_from-row_parts : (r : RowName) → row_from (row_parts r) ≡ r
row_from-row_parts (row.Cap a) = refl
row_from-row_parts (row.Follow k q) = refl
row_from-row_parts (row.Below a k) = refl
row_from-row_parts (row.Use a k) = refl
row_from-row_parts (row.Link a k) = refl
row_from-row_parts (row.One k) = refl
row_from-row_parts (row.OneLow k) = refl
row_from-row_parts (row.Cut c) = refl

abbrev pub row_code : Coded RowName
row_code = code_by (ℕ × (ℕ × ℕ)) (coded× coded_ℕ (coded× coded_ℕ coded_ℕ)) row_parts row_from row_from-row_parts

abbrev pub multiplier_code : Coded (Multiplier Rational)
multiplier_code = code_by (RowName × Rational) (coded× row_code rational_code) (λ y. (y.row, y.value)) (λ p. record { row = p.0; value = p.1 }) (λ _. refl)

-- ---- marks

abbrev step_number : Step → ℕ
step_number step.Ratio = 0
step_number step.Pivot = 1

abbrev step_from : ℕ → Step
step_from n = if n == 0 then step.Ratio else step.Pivot

pub step_from-step_number : (s : Step) → step_from (step_number s) ≡ s
step_from-step_number step.Ratio = refl
step_from-step_number step.Pivot = refl

abbrev step_code : Coded Step
step_code = code_by ℕ coded_ℕ step_number step_from step_from-step_number

abbrev MarkParts : Type 0
MarkParts = ℕ × (ℕ × (Step × (ℕ × ℕ)))

abbrev mark_parts : Mark → MarkParts
mark_parts mark.Large = (0, (0, (step.Ratio, (0, 0))))
mark_parts mark.Capped = (1, (0, (step.Ratio, (0, 0))))
mark_parts mark.Sum = (2, (0, (step.Ratio, (0, 0))))
mark_parts (mark.Overflow pivot s r c) = (3, (pivot, (s, (r, c))))

abbrev mark_from : MarkParts → Mark
mark_from p =
    if p.0 == 0 then mark.Large else (if p.0 == 1 then mark.Capped else (if p.0 == 2 then mark.Sum else mark.Overflow p.1.0 p.1.1.0 p.1.1.1.0 p.1.1.1.1))

pub mark_from-mark_parts : (m : Mark) → mark_from (mark_parts m) ≡ m
mark_from-mark_parts mark.Large = refl
mark_from-mark_parts mark.Capped = refl
mark_from-mark_parts mark.Sum = refl
mark_from-mark_parts (mark.Overflow pivot s r c) = refl

abbrev pub mark_code : Coded Mark
mark_code = code_by MarkParts (coded× coded_ℕ (coded× coded_ℕ (coded× step_code (coded× coded_ℕ coded_ℕ)))) mark_parts mark_from mark_from-mark_parts

-- ---- nodes

abbrev EvidenceParts : Type 0
EvidenceParts = ℕ × (Mark × List (Multiplier Rational))

abbrev evidence_parts : Evidence Rational → EvidenceParts
evidence_parts evidence.Unopened = (0, (mark.Large, []))
evidence_parts (evidence.Basic m) = (1, (m, []))
evidence_parts (evidence.Dual ys) = (2, (mark.Large, ys))
evidence_parts (evidence.Farkas ys) = (3, (mark.Large, ys))
evidence_parts (evidence.Inverse ys) = (4, (mark.Large, ys))
evidence_parts (evidence.NoInverse ys) = (5, (mark.Large, ys))

abbrev evidence_from : EvidenceParts → Evidence Rational
evidence_from p =
    if p.0 == 0 then evidence.Unopened else (if p.0 == 1 then evidence.Basic p.1.0 else (if p.0 == 2 then evidence.Dual p.1.1 else (if p.0 == 3 then evidence.Farkas p.1.1
    else (if p.0 == 4 then evidence.Inverse p.1.1 else evidence.NoInverse p.1.1))))

pub evidence_from-evidence_parts : (e : Evidence Rational) → evidence_from (evidence_parts e) ≡ e
evidence_from-evidence_parts evidence.Unopened = refl
evidence_from-evidence_parts (evidence.Basic m) = refl
evidence_from-evidence_parts (evidence.Dual ys) = refl
evidence_from-evidence_parts (evidence.Farkas ys) = refl
evidence_from-evidence_parts (evidence.Inverse ys) = refl
evidence_from-evidence_parts (evidence.NoInverse ys) = refl

abbrev pub evidence_code : Coded (Evidence Rational)
evidence_code = code_by EvidenceParts (coded× coded_ℕ (coded× mark_code (coded_list multiplier_code))) evidence_parts evidence_from evidence_from-evidence_parts

abbrev bound_parts : BoundValue → Option Rational
bound_parts Empty = None
bound_parts (At v) = Some v

abbrev bound_from : Option Rational → BoundValue
bound_from None = Empty
bound_from (Some v) = At v

pub bound_from-bound_parts : (b : BoundValue) → bound_from (bound_parts b) ≡ b
bound_from-bound_parts Empty = refl
bound_from-bound_parts (At v) = refl

abbrev pub bound_code : Coded BoundValue
bound_code = code_by (Option Rational) (coded_option rational_code) bound_parts bound_from bound_from-bound_parts

abbrev pub held_code : Coded Held
held_code =
    code_by (ℕ × (Evidence Rational × BoundValue)) (coded× coded_ℕ (coded× evidence_code bound_code)) (λ h. (h.key, (h.node.evidence, h.node.bound)))
    (λ p. record { key = p.0; node = record { evidence = p.1.0; bound = p.1.1 } }) (λ _. refl)

abbrev pub division_code : Coded Division
division_code = code_by (ℕ × List ℕ) (coded× coded_ℕ (coded_list coded_ℕ)) (λ d. (d.commodity, d.part)) (λ p. record { commodity = p.0; part = p.1 }) (λ _. refl)

-- ---- trees

module _ {A : Type 0} where
  -- the nodes in preorder, each with its division
  abbrev pub nodes_in : Tree A → List (A × Option Division)
  nodes_in (Leaf a) = (a, None) ∷ []
  nodes_in (Split a d first second) = (a, Some d) ∷ (nodes_in first ++ nodes_in second)

  abbrev joined : A → Division → List (Tree A) → List (Tree A)
  joined a d [] = []
  joined a d (t ∷ []) = []
  joined a d (t ∷ s ∷ ts) = Split a d t s ∷ ts

  abbrev with_node : A → Option Division → List (Tree A) → List (Tree A)
  with_node a None ts = Leaf a ∷ ts
  with_node a (Some d) ts = joined a d ts

  -- the trees of such nodes, one after another
  abbrev trees_of : List (A × Option Division) → List (Tree A)
  trees_of [] = []
  trees_of (p ∷ ps) = with_node p.0 p.1 (trees_of ps)

  pub trees_of-nodes_in : (t : Tree A) (rest : List (A × Option Division)) → trees_of (nodes_in t ++ rest) ≡ t ∷ trees_of rest
  trees_of-nodes_in (Leaf a) rest = refl
  trees_of-nodes_in (Split a d first second) rest =
      ap (joined a d)
      (ap trees_of (append_assoc (nodes_in first) (nodes_in second) rest)
      ∙ (trees_of-nodes_in first (nodes_in second ++ rest) ∙ ap (λ ts. first ∷ ts) (trees_of-nodes_in second rest)))

  pub same_tree : (t s : Tree A) → nodes_in t ≡ nodes_in s → t ≡ s
  same_tree t s h = same_head (sym (trees_of-nodes_in t []) ∙ (ap (λ ps. trees_of (ps ++ [])) h ∙ trees_of-nodes_in s []))
    where
      same_head : t ∷ [] ≡ s ∷ [] → t ≡ s
      same_head e = cc

  abbrev pub tree_code : Coded A → Coded (Tree A)
  tree_code code = coded_via (coded_list (coded× code (coded_option division_code))) nodes_in same_tree

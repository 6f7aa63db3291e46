-- The point that the work on a node finds has a share for each path that the node allows, and a toll for each toll arc.
use Rattle.std.proofs.Common.{◌≡◌, ℕ, zero, suc, ◌<◌, ◌≤◌, Bool, true, false, cond, List, [], ◌∷◌, length, drop, refl, ap, arith, Option, Some, None}
use Rattle.std.specs.Prelude.{IfSome, sum_by, option_map}
use Rattle.std.proofs.lemmas.List.{length-take-le, length-drop}
use Rattle.std.proofs.lemmas.List.Sums.{sum_by-cons}
use Rattle.npp_frac.specs.Rational.{Rational}
use Rattle.npp_rows.specs.PathModel.{PathModel}
use Rattle.npp_rows.specs.Parts.{part_at, is_full, first_choice, IsAllowed}
use Rattle.npp_rows.specs.Named.{numbered}
use Rattle.npp_rows.specs.Relax.{relaxation, relaxation_columns}
use Rattle.npp_rows.specs.Inverse.{inverse}
use Rattle.npp_inverse.specs.Work.{Ending, AtPoint, WithoutPoint, AtMark, relaxation_work, inverse_work}
use Rattle.npp_tree.specs.declared.point.Point.{Point}
use Rattle.npp_tree.specs.Family.{Family}
use Rattle.npp_tree.specs.Points.{shares_from}
use Rattle.npp_leaf.specs.Found.{relaxation_found, choice_found}
use Rattle.npp_leaf.specs.Work.{choice_work, family_work}
use Rattle.npp_leaf.proofs.AnswerLaws.{program_is}
use Rattle.npp_leaf.proofs.WorkLaws.{IsAnswered, relaxation_answered}
use Rattle.npp_leaf.proofs.PointLaws.{columns_hold}
use Rattle.npp_search.specs.Problem.{Problem}
use Rattle.npp_search.specs.Rule.{shares_at, shares_found}
use Rattle.npp_search.specs.Scan.{AreSharesOf}
use Rattle.npp_search.proofs.FoundLaws.{found_of}

shares_size : (parts : Family) (xs : List Rational) → length (shares_from parts xs) ≡ length parts
shares_size [] xs = refl
shares_size (part ∷ parts) xs = ap suc (shares_size parts (drop (length part) xs))

shares_each : (parts : Family) (xs : List Rational) (k : ℕ) → sum_by length parts ≤ length xs → k < length parts → length (shares_at (shares_from parts xs) k) ≡ length (part_at parts k)
shares_each [] xs k room lt = absurd (omega (arith, lt))
shares_each (part ∷ parts) xs zero room lt = length-take-le (length part) xs (omega (arith, room, sum_by-cons length part parts))
shares_each (part ∷ parts) xs (suc k) room lt =
    shares_each parts (drop (length part) xs) k (omega (arith, room, sum_by-cons length part parts, length-drop (length part) xs)) (omega (arith, lt))

pub are_shares : (parts : Family) (xs : List Rational) → sum_by length parts ≤ length xs → AreSharesOf parts (shares_from parts xs)
are_shares parts xs room = record { size = shares_size parts xs; each = λ k lt. shares_each parts xs k room lt }

-- ---- of what is found

-- the shares and the tolls of a point
pub record IsWholePoint (m : PathModel) (parts : Family) (x : Point Rational) : Type 0 where
  pub shares : AreSharesOf parts x.shares
  pub tolls : length x.tolls ≡ length m.caps

relaxation_whole : (limit : ℕ) (m : PathModel) (parts : Family) (e : Ending) → IsAllowed m parts → IsAnswered limit (numbered (relaxation m parts [])) e
    → IfSome (relaxation_found m parts (relaxation m parts []).rows e).point (IsWholePoint m parts)
relaxation_whole limit m parts (AtPoint x y v) allowed h =
    let columns : length x ≡ length (relaxation_columns m parts) = h.proved.point.size in
    let hold = columns_hold m parts allowed in
    record {
      shares = are_shares parts (drop (length m.caps) x) (omega (arith, columns, hold, length-drop (length m.caps) x));
      tolls = length-take-le (length m.caps) x (omega (arith, columns, hold));
    }
relaxation_whole limit m parts (WithoutPoint y) allowed h = tt
relaxation_whole limit m parts (AtMark k) allowed h = tt

choice_whole : (m : PathModel) (parts : Family) (choice : List ℕ) (e : Ending) → IfSome (choice_found m (inverse m choice).rows e).point (IsWholePoint m parts)
choice_whole m parts choice (AtPoint x y v) = tt
choice_whole m parts choice (WithoutPoint y) = tt
choice_whole m parts choice (AtMark k) = tt

pub found_whole : (P : Problem) (family : Family) → IsAllowed P.paths family → IfSome (found_of P family).point (IsWholePoint P.paths family)
found_whole P family allowed = by (is_full family)
  where
    by : (b : Bool) → IfSome (cond b (choice_work P.limit P.paths (first_choice family)) (family_work P.limit P.paths family [])).point (IsWholePoint P.paths family)
    by true = choice_whole P.paths family (first_choice family) (inverse_work P.limit P.paths (first_choice family))
    by false =
        relaxation_whole P.limit P.paths family (relaxation_work P.limit (relaxation P.paths family [])) allowed
        (relaxation_answered P.limit (relaxation P.paths family []) (program_is (relaxation P.paths family [])))

shares_of : (m : PathModel) (family : Family) (o : Option (Point Rational)) → IfSome o (IsWholePoint m family) → IfSome (option_map (λ (x : Point Rational). x.shares) o) (AreSharesOf family)
shares_of m family None h = tt
shares_of m family (Some x) h = h.shares

pub found_shares : (P : Problem) (family : Family) → IsAllowed P.paths family → IfSome (shares_found P family) (AreSharesOf family)
found_shares P family allowed = shares_of P.paths family (found_of P family).point (found_whole P family allowed)

tolls_size : (m : PathModel) (family : Family) (o : Option (Point Rational)) → IfSome o (IsWholePoint m family) → IfSome (option_map (λ (x : Point Rational). x.tolls) o) (λ t. length t ≡ length m.caps)
tolls_size m family None h = tt
tolls_size m family (Some x) h = h.tolls

pub found_tolls : (P : Problem) (family : Family) → IsAllowed P.paths family → IfSome (option_map (λ (x : Point Rational). x.tolls) (found_of P family).point) (λ t. length t ≡ length P.paths.caps)
found_tolls P family allowed = tolls_size P.paths family (found_of P family).point (found_whole P family allowed)

-- What is found, by the ending of the work.
use Rattle.std.proofs.Common.{◌≡◌, ℕ, true, false, cond, List, Some, None, sym, ap, ◌∙◌}
use Rattle.npp_frac.specs.Rational.{Rational}
use Rattle.npp_lp.specs.Programs.{LinearProgram}
use Rattle.npp_rows.specs.declared.mark.Mark.TheVariants as mark
use Rattle.npp_rows.specs.declared.names.RowName.{RowName}
use Rattle.npp_rows.specs.declared.names.Multiplier.{Multiplier}
use Rattle.npp_rows.specs.PathModel.{PathModel}
use Rattle.npp_rows.specs.Named.{numbered}
use Rattle.npp_rows.specs.Cuts.{Cut}
use Rattle.npp_rows.specs.Relax.{relaxation, is_large}
use Rattle.npp_rows.specs.Response.{Reply, reply}
use Rattle.npp_leaf.specs.PositiveMultipliers.{positive_multipliers}
use Rattle.npp_inverse.specs.Work.{Ending, AtPoint, WithoutPoint, AtMark, program_work, relaxation_work}
use Rattle.npp_tree.specs.declared.node.Evidence.TheVariants.{Dual, Farkas, Inverse, NoInverse}
use Rattle.npp_tree.specs.declared.point.Point.{Point}
use Rattle.npp_tree.specs.Bounds.{At}
use Rattle.npp_tree.specs.Family.{Family}
use Rattle.npp_tree.specs.Points.{point_of}
use Rattle.npp_leaf.specs.Found.{Found, marked, without_point, relaxation_found, choice_found}
use Rattle.npp_leaf.specs.Work.{family_work}

-- ---- the work on a relaxation

module _ (limit : ℕ) (m : PathModel) (parts : Family) (cuts : List Cut) where
  -- a relaxation that is too large
  pub large_found : is_large (relaxation m parts cuts) ≡ true → marked mark.Large ≡ family_work limit m parts cuts
  unfolding relaxation_work
  large_found large = ap (λ b. relaxation_found m parts (relaxation m parts cuts).rows (cond b (AtMark mark.Large) (program_work limit (numbered (relaxation m parts cuts))))) (sym large)

  -- and another one
  pub run_found : (p : LinearProgram) (e : Ending) → is_large (relaxation m parts cuts) ≡ false → p ≡ numbered (relaxation m parts cuts) → e ≡ program_work limit p
      → relaxation_found m parts (relaxation m parts cuts).rows e ≡ family_work limit m parts cuts
  unfolding relaxation_work
  run_found p e small same ends =
      ap (relaxation_found m parts (relaxation m parts cuts).rows) (ends ∙ ap (program_work limit) same)
      ∙ ap (λ b. relaxation_found m parts (relaxation m parts cuts).rows (cond b (AtMark mark.Large) (program_work limit (numbered (relaxation m parts cuts))))) (sym small)

-- ---- what stands in it

module _ (m : PathModel) (parts : Family) (rows : List RowName) where
  pub solved_is : (x y : List Rational) (v w : Rational) (ys : List (Multiplier Rational)) (p : Point Rational) → ys ≡ positive_multipliers rows y → p ≡ point_of m parts x → w ≡ v
      → (let f : Found = record { evidence = Dual ys; value = Some (At w); point = Some p; best = None } in f ≡ relaxation_found m parts rows (AtPoint x y v))
  solved_is x y v w ys p e f h = λ i. record { evidence = Dual (e i); value = Some (At (h i)); point = Some (f i); best = None }

  pub farkas_is : (y : List Rational) (ys : List (Multiplier Rational)) → ys ≡ positive_multipliers rows y → without_point (Farkas ys) ≡ relaxation_found m parts rows (WithoutPoint y)
  farkas_is y ys e = ap (λ zs. without_point (Farkas zs)) e

module _ (m : PathModel) (rows : List RowName) where
  pub best_is : (T y : List Rational) (v w : Rational) (ys : List (Multiplier Rational)) (r : Reply) → ys ≡ positive_multipliers rows y → r ≡ reply m T → w ≡ v
      → (let f : Found = record { evidence = Inverse ys; value = Some (At w); point = None; best = Some (record { tolls = T; reply = r }) } in f ≡ choice_found m rows (AtPoint T y v))
  best_is T y v w ys r e f h = λ i. record { evidence = Inverse (e i); value = Some (At (h i)); point = None; best = Some (record { tolls = T; reply = f i }) }

  pub none_is : (y : List Rational) (ys : List (Multiplier Rational)) → ys ≡ positive_multipliers rows y → without_point (NoInverse ys) ≡ choice_found m rows (WithoutPoint y)
  none_is y ys e = ap (λ zs. without_point (NoInverse zs)) e

-- What the work on a node finds, over the rational numbers.
use Rattle.std.specs.Prelude.{List, map, Option, Some, None, option_map}
use Rattle.npp_frac.specs.Rational.{Rational}
use Rattle.npp_rows.specs.declared.mark.Mark.{Mark}
use Rattle.npp_rows.specs.declared.names.RowName.{RowName}
use Rattle.npp_rows.specs.declared.response.Response.{Response}
use Rattle.npp_rows.specs.PathModel.{PathModel}
use Rattle.npp_rows.specs.Response.{Reply, reply}
use Rattle.npp_rows.specs.Meaning.{reply_value}
use Rattle.npp_leaf.specs.PositiveMultipliers.{positive_multipliers}
use Rattle.npp_inverse.specs.Work.{Ending, AtPoint, WithoutPoint, AtMark}
use Rattle.npp_tree.specs.declared.node.Evidence.{Evidence}
use Rattle.npp_tree.specs.declared.node.Evidence.TheVariants.{Basic, Dual, Farkas, Inverse, NoInverse}
use Rattle.npp_tree.specs.declared.point.Point.{Point}
use Rattle.npp_tree.specs.Bounds.{BoundValue, Empty, At, bound_value}
use Rattle.npp_tree.specs.Family.{Family}
use Rattle.npp_tree.specs.Evidence.{evidence_value}
use Rattle.npp_tree.specs.Points.{point_of}
use Rattle.npp_leaf.specs.declared.work.LeafWork.{LeafWork}

-- best tolls, and the reply of the travellers to them
pub record BestTolls : Type 0 where
  pub tolls : List Rational
  pub reply : Reply

-- the evidence of a node with its value, the point of its relaxation, and the best tolls of a full choice
pub record Found : Type 0 where
  pub evidence : Evidence Rational
  pub value : Option BoundValue
  pub point : Option (Point Rational)
  pub best : Option BestTolls

-- ---- by the ending of the work on the node's program

-- a program that is not quiet bounds nothing
abbrev pub marked : Mark → Found
marked mark = record { evidence = Basic mark; value = None; point = None; best = None }

-- a program without a point, by its evidence
abbrev pub without_point : Evidence Rational → Found
without_point evidence = record { evidence = evidence; value = Some Empty; point = None; best = None }

-- what the ending of the work on a relaxation of these rows gives: at a point the optimum by a dual answer, and the point
abbrev pub relaxation_found : PathModel → Family → List RowName → Ending → Found
relaxation_found m parts rows (AtPoint x y v) = record {
  evidence = Dual (positive_multipliers rows y);
  value = Some (At v);
  point = Some (point_of m parts x);
  best = None;
}
relaxation_found m parts rows (WithoutPoint y) = without_point (Farkas (positive_multipliers rows y))
relaxation_found m parts rows (AtMark mark) = marked mark

-- and of the work on the inverse program of a choice: at a point the optimum by a dual answer, and the tolls with their reply
abbrev pub choice_found : PathModel → List RowName → Ending → Found
choice_found m rows (AtPoint T y v) = record {
  evidence = Inverse (positive_multipliers rows y);
  value = Some (At v);
  point = None;
  best = Some (record { tolls = T; reply = reply m T });
}
choice_found m rows (WithoutPoint y) = without_point (NoInverse (positive_multipliers rows y))
choice_found m rows (AtMark mark) = marked mark

-- ---- what the types of the code stand for. `value` says what a number stands for

abbrev pub point_value : {N : Type 0} → (N → Rational) → Point N → Point Rational
point_value value x = record { tolls = map value x.tolls; shares = map (map value) x.shares }

abbrev pub best_value : {N : Type 0} → (N → Rational) → List N × Response N → BestTolls
best_value value b = record { tolls = map value b.0; reply = reply_value value b.1 }

abbrev pub found_value : {N : Type 0} → (N → Rational) → LeafWork N → Found
found_value value w = record {
  evidence = evidence_value value w.evidence;
  value = option_map bound_value w.value;
  point = option_map (point_value value) w.point;
  best = option_map (best_value value) w.best;
}

-- The text of what tolls earn.
use Rattle.std.specs.Prelude.{ℕ, List, ◌++◌, codes}
use Rattle.npp_frac.specs.FractionText.{fraction_text}
use Rattle.npp_report.specs.Lines.{line, path_lines}
use Rattle.npp_eval.specs.Evaluated.{EvaluationValue}

-- a line with the revenue, and a line for the walk of each commodity
abbrev pub evaluation_text : EvaluationValue → List ℕ
evaluation_text e = line (codes "revenue " ++ fraction_text e.revenue) ++ path_lines e.paths

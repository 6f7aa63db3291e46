-- What an outcome of the code stands for has numbers of 128 bits, since its own numbers have.
use Rattle.std.proofs.Common.{List, map, get_or}
use Rattle.std.proofs.lemmas.List.Elements.{All-map, All-nil}
use Rattle.npp_frac.specs.Fits.{FitsBelow, limit_of}
use Rattle.npp_frac.specs.Rational.{Rational}
use Rattle.npp_frac.specs.WideLaws.{wide_fits}
use Rattle.npp_rows.specs.declared.names.Multiplier.{Multiplier}
use Rattle.npp_rows.specs.Meaning.{multiplier_value}
use Rattle.npp_tree.specs.declared.node.Evidence.{Evidence}
use Rattle.npp_tree.specs.declared.node.Evidence.TheVariants.{Unopened, Basic, Dual, Farkas, Inverse, NoInverse}
use Rattle.npp_tree.specs.declared.outcome.Outcome.{Outcome}
use Rattle.npp_tree.specs.declared.outcome.PathLine.{PathLine}
use Rattle.npp_tree.specs.Evidence.{evidence_value}
use Rattle.npp_tree.specs.Outcome.{outcome_value, entry_value, path_line_value}
use Rattle.npp_tree.specs.Tree.{Entry}
use Rattle.npp_accept.specs.Numbers.{HasNumbers, HaveValues, multipliers_in}

module _ {N : Type 0} (value : N → Rational) (fits : (x : N) → FitsBelow (limit_of 128) (value x)) where
  values_fit : (ys : List (Multiplier N)) → HaveValues (map (multiplier_value value) ys)
  values_fit ys = All-map (λ (y : Multiplier Rational). FitsBelow (limit_of 128) y.value) (multiplier_value value) ys (λ k d l. fits (get_or ys k d).value)

  evidence_fits : (e : Evidence N) → HaveValues (multipliers_in (evidence_value value e))
  evidence_fits Unopened = All-nil (λ (y : Multiplier Rational). FitsBelow (limit_of 128) y.value)
  evidence_fits (Basic mark) = All-nil (λ (y : Multiplier Rational). FitsBelow (limit_of 128) y.value)
  evidence_fits (Dual ys) = values_fit ys
  evidence_fits (Farkas ys) = values_fit ys
  evidence_fits (Inverse ys) = values_fit ys
  evidence_fits (NoInverse ys) = values_fit ys

  pub outcome_has_numbers : (o : Outcome N) → HasNumbers (outcome_value value o)
  outcome_has_numbers o = record {
    lower = wide_fits o.lower;
    upper = wide_fits o.upper;
    tolls = All-map (FitsBelow (limit_of 128)) value o.tolls (λ k d l. fits (get_or o.tolls k d));
    paid = All-map (λ (p : PathLine Rational). FitsBelow (limit_of 128) p.paid) (path_line_value value) o.paths (λ k d l. fits (get_or o.paths k d).paid);
    multipliers = All-map (λ (e : Entry). HaveValues (multipliers_in e.node.evidence)) (entry_value value) o.tree.nodes (λ k d l. evidence_fits (get_or o.tree.nodes k d).evidence);
  }

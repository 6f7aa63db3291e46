use Rattle.std.proofs.Common.{◌∙◌, ap, arith}
use Rattle.npp_rows.specs.Limits.{path_total}
use Rattle.npp_rows.specs.Parts.{all_paths}
use Rattle.npp_check.proofs.TreeStandLemmas.{same_closed, same_model}
use Rattle.npp_check.proofs.root_step.all_allowed.Goals as goal

pub new-requires-clause-covers : goal.new-requires-clause-covers
new-requires-clause-covers g c = same_closed c.instance.ensures.instance c.deref.ensures.value c.requires.closed

pub new-requires-clause-few : goal.new-requires-clause-few
new-requires-clause-few g c = omega (arith, c.requires.few, ap path_total c.deref.ensures.value)

pub returns : goal.returns
returns g c = c.in_ok-allowed.ensures ∙ ap all_paths (c.in_ok-table.ensures.paths ∙ same_model c.instance.ensures.instance c.deref.ensures.value)

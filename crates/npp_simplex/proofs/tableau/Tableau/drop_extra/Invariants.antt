use Rattle.npp_simplex.specs.Tableau.{cell_without_extra}
use Rattle.npp_simplex.proofs.Changing.{IsChangedUpTo}
use Rattle.npp_simplex.proofs.tableau.Tableau.drop_extra.Given as goal

abbrev pub invariant-loop-i : goal.invariant-loop-i
invariant-loop-i g l = IsChangedUpTo l.initial.self l.self (cell_without_extra l.initial.self) l.i

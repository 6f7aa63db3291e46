use Rattle.std.proofs.Common.{◌≡◌, IfSome, sym, subst}
use Rattle.npp_simplex.specs.Ratio.{compared, keys}
use Rattle.npp_simplex.specs.RowOrder.{comes_before}
use Rattle.npp_simplex.proofs.pairs.candidate_before.Goals as goal

pub returns-in-PhaseOne-clause-exact : goal.returns-in-PhaseOne-clause-exact
returns-in-PhaseOne-clause-exact g c =
    let t = c.args.tableau.now in
    let column = c.args.entering.column in
    subst (λ s. IfSome c.comes_before.result (λ b. b ≡ comes_before (λ k. compared s t column k c.args.row) (λ k. compared s t column k c.args.other) (keys t))) (sym c.in-PhaseOne.is) c.comes_before.ensures.exact

pub returns-in-PhaseTwo-clause-exact : goal.returns-in-PhaseTwo-clause-exact
returns-in-PhaseTwo-clause-exact g c =
    let t = c.args.tableau.now in
    let column = c.args.entering.column in
    subst (λ s. IfSome c.comes_before-in-PhaseTwo.result (λ b. b ≡ comes_before (λ k. compared s t column k c.args.row) (λ k. compared s t column k c.args.other) (keys t))) (sym c.in-PhaseTwo.is) c.comes_before-in-PhaseTwo.ensures.exact

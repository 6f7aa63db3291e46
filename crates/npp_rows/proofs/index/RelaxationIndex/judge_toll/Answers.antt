use Rattle.std.proofs.Common.{◌≡◌, true, false, sym, ◌∙◌, refl}
use Rattle.npp_rows.specs.Relax.{relaxation_columns}
use Rattle.npp_rows.specs.Derivations.{is_share, column_at}
use Rattle.npp_rows.proofs.index.RelaxationIndex.judge_toll.Goals as goal

pub returns-then-is_share : goal.returns-then-is_share
returns-then-is_share g c =
    let yes : is_share (column_at (relaxation_columns c.args.self.now.paths c.args.self.now.parts) c.args.column) ≡ true = sym c.is_share.ensures.value ∙ c.if-is_share.true in
    rw yes refl

pub returns : goal.returns
returns g c =
    let no : is_share (column_at (relaxation_columns c.args.self.now.paths c.args.self.now.parts) c.args.column) ≡ false = sym c.is_share.ensures.value ∙ c.if-is_share.false in
    rw no c.cancels.ensures

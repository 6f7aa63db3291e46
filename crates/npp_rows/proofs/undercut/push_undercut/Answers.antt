use Rattle.std.proofs.Common.{◌==◌, List, Some, sym, ap, ap₂, ◌∙◌}
use Rattle.std.specs.List.{range_with_len}
use Rattle.std.specs.Int.{bit_at}
use Rattle.npp_frac.specs.Rational.{◌-ℚ◌}
use Rattle.npp_cover.specs.Paths.{PathValue}
use Rattle.npp_cover.specs.Replaces.{path_at}
use Rattle.npp_rows.specs.declared.names.ColumnName.TheVariants.{Toll}
use Rattle.npp_rows.specs.PathModel.{tolls, useful_path}
use Rattle.npp_rows.specs.Named.{one_if, numbers_from}
use Rattle.npp_rows.specs.Inverse.{undercut_entry}
use Rattle.npp_rows.proofs.ListLaws.{added_same}
use Rattle.npp_rows.proofs.NumberLaws.{numbers_of}
use Rattle.npp_rows.proofs.undercut.push_undercut.Goals as goal

pub returns : goal.returns
returns g c =
    let m = c.args.table.now in
    let k = c.args.k in
    let chosen = c.toll_set.ensures ∙ ap (λ (ps : List PathValue). (path_at ps c.args.chosen).tolls) c.paths-paths.ensures.paths in
    let other = c.toll_set-2.ensures ∙ ap (λ (ps : List PathValue). (path_at ps c.args.other).tolls) c.paths-paths.ensures.paths in
    added_same c.push_differences.result _ _ _ _
    (ap₂ (λ s t. numbers_from 0 (λ b. one_if (bit_at s b == 1) -ℚ one_if (bit_at t b == 1)) (range_with_len 0 c.tolls.result)) chosen other
    ∙ ap (λ n. numbers_from 0 (λ b. one_if (bit_at (useful_path c.args.table.now c.args.k c.args.chosen).tolls b == 1) -ℚ one_if (bit_at (useful_path c.args.table.now c.args.k c.args.other).tolls b == 1)) (range_with_len 0 n)) c.tolls.ensures.count
    ∙ sym (numbers_of (undercut_entry m k c.args.other (Some c.args.chosen)) Toll 0 (tolls m)))
    c.push_differences.ensures

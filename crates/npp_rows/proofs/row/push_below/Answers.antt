use Rattle.std.proofs.Common.{◌++◌, true, negsuc, sym, ap₂, ◌∙◌}
use Rattle.npp_frac.specs.Rational.{whole, one_ℚ}
use Rattle.npp_lp.specs.Building.{term_at}
use Rattle.npp_rows.proofs.ListLaws.{pushed_two}
use Rattle.npp_rows.proofs.FamilyLaws.{used_rises}
use Rattle.npp_rows.proofs.EntryLaws.{minus_if}
use Rattle.npp_rows.proofs.RowTerms.{below_terms}
use Rattle.npp_rows.proofs.row.push_below.Goals as goal

pub returns : goal.returns
returns g c =
    let m = c.args.index.now.paths in
    let parts = c.args.index.now.parts in
    let place = c.paid_column.ensures.place in
    pushed_two c.push_number-2.result _ _ _ (term_at c.args.a (whole (negsuc 0))) (term_at c.paid_column.result one_ℚ) _ c.in_ok-push_number.ensures
    (ap₂ (λ q j. term_at c.args.a q ++ term_at j one_ℚ) (minus_if true) place.3
    ∙ sym (below_terms m parts c.args.a c.args.k place.0 c.paid_column.ensures.toll c.requires.commodity (used_rises m parts c.args.k) place.1 place.2))
    c.push_number-2.ensures

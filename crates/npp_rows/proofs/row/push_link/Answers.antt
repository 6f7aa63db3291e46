use Rattle.std.proofs.Common.{◌≡◌, true, negsuc, sym}
use Rattle.npp_frac.specs.Rational.{whole, negative, one_ℚ}
use Rattle.npp_rows.proofs.ListLaws.{pushed_three}
use Rattle.npp_rows.proofs.FamilyLaws.{used_rises}
use Rattle.npp_rows.proofs.EntryLaws.{minus_if}
use Rattle.npp_rows.proofs.RowTerms.{link_terms}
use Rattle.npp_rows.proofs.row.push_link.Goals as goal

pub returns : goal.returns
returns g c =
    let m = c.args.index.now.paths in
    let parts = c.args.index.now.parts in
    let place = c.paid_column-paid.ensures.place in
    let paths = rw c.table-table.ensures.same at c.paths.ensures.paths in
    let cap = rw c.table-table.ensures.same at c.cap.ensures.value in
    let second = rw (paths, c.part.ensures.part, cap, c.first_share.ensures.value) at c.in_ok-push_caps.ensures in
    let minus : whole (negsuc 0) ≡ negative one_ℚ = minus_if true in
    let last = rw (place.3, minus) at c.push_taken.ensures in
    pushed_three c.push_taken.result _ _ _ _ _ _ _ _ c.in_ok-push_number.ensures second
    (sym (link_terms m parts c.args.a c.args.k place.0 c.paid_column-paid.ensures.toll c.requires.commodity (used_rises m parts c.args.k) place.1 place.2))
    last

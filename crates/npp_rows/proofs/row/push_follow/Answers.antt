use Rattle.std.proofs.Common.{◌==◌, ◌++◌, List, pos, sym, ap, ap₂, ◌∙◌}
use Rattle.std.specs.Int.{bit_at}
use Rattle.std.specs.List.{range_with_len}
use Rattle.npp_frac.specs.Rational.{whole, negative, one_ℚ}
use Rattle.npp_lp.specs.Meaning.{terms_of}
use Rattle.npp_cover.specs.Paths.{PathValue}
use Rattle.npp_cover.specs.Replaces.{path_at}
use Rattle.npp_rows.specs.PathModel.{uses, path_cost, tolls as tolls_of_model}
use Rattle.npp_rows.specs.Parts.{part_at}
use Rattle.npp_rows.specs.Relax.{allowed_tolls}
use Rattle.npp_rows.specs.Rows.{shares_from, paid_from}
use Rattle.npp_rows.specs.Named.{one_if, numbers_from}
use Rattle.npp_rows.proofs.ListLaws.{pushed_three}
use Rattle.npp_rows.proofs.RowTerms.{follow_terms}
use Rattle.npp_rows.proofs.row.push_follow.Goals as goal

pub returns : goal.returns
returns g c =
    let m = c.args.index.now.paths in
    let parts = c.args.index.now.parts in
    let k = c.args.k in
    let q = c.args.q in
    let paths = rw c.table-table.ensures.same at c.paths-paths.ensures.paths in
    let set = c.toll_set.ensures ∙ ap (λ (ps : List PathValue). (path_at ps c.args.q).tolls) paths in
    let tolls = rw c.table-table.ensures.same at c.tolls.ensures.count in
    let old = terms_of g.N.Exact.rational c.args.entries.now.items in
    let first = c.in_ok-push_tolls.ensures ∙ ap (λ t. old ++ t) (ap₂ (λ s n. numbers_from 0 (λ b. negative (one_if (bit_at s b == 1))) (range_with_len 0 n)) set tolls) in
    let second = rw (paths, c.part.ensures.part, c.first_share.ensures.value) at c.in_ok-push_costs.ensures in
    let last = rw (c.first_paid.ensures.value, c.used.ensures.tolls) at c.push_same.ensures in
    pushed_three c.push_same.result (terms_of g.N.Exact.rational c.args.entries.now.items) (terms_of g.N.Exact.rational c.push_tolls.new.entries.items) (terms_of g.N.Exact.rational c.push_costs.new.entries.items) (terms_of g.N.Exact.rational c.push_same.new.entries.items)
    (numbers_from 0 (λ b. negative (one_if (uses m k q b))) (tolls_of_model m))
    (numbers_from (shares_from m parts k) (λ p. whole (pos (path_cost m k p))) (part_at parts k))
    (numbers_from (paid_from m parts k) (λ a. one_ℚ) (allowed_tolls m parts k))
    _ first second (sym (follow_terms m parts c.args.k c.args.q c.requires.k)) last

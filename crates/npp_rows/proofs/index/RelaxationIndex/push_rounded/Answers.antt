use Rattle.std.proofs.Common.{◌≡◌, ◌++◌, false, map, sym, ap, ◌∙◌, refl}
use Rattle.std.proofs.lemmas.List.{append-nil}
use Rattle.npp_lp.specs.Meaning.{sum_result}
use Rattle.npp_rows.specs.Meaning.{cut_term_value}
use Rattle.npp_rows.specs.Relax.{relaxation_columns}
use Rattle.npp_rows.specs.Derivations.{is_share, column_at, rounded}
use Rattle.npp_rows.specs.Rounding.{sum_or_zero}
use Rattle.npp_rows.proofs.ShareLaws.{no_share_term}
use Rattle.npp_rows.proofs.index.RelaxationIndex.push_rounded.Goals as goal

pub returns-then-not-is_share : goal.returns-then-not-is_share
returns-then-not-is_share g c =
    let names = relaxation_columns c.args.self.now.paths c.args.self.now.parts in
    let no : is_share (column_at (relaxation_columns c.args.self.now.paths c.args.self.now.parts) c.args.column) ≡ false = sym c.is_share.ensures.value ∙ c.if-not-is_share.true in
    let terms = map (cut_term_value g.N.Exact.rational) c.args.terms.now.items in (
      rw no refl,
      sym (ap (λ ts. terms ++ ts) (no_share_term (column_at names c.args.column) (rounded (sum_or_zero (sum_result g.N.Exact.rational c.args.sum))) no) ∙ append-nil terms),
    )

pub returns : goal.returns
returns g c = rw c.share_at.ensures at c.push_share.ensures

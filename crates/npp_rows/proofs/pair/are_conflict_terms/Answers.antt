use Rattle.std.proofs.Common.{◌≡◌, length, ◌∙◌, arith}
use Rattle.std.proofs.lemmas.Bool.{le-ltb}
use Rattle.npp_rows.proofs.MarkLaws.{other_terms, terms_turned}
use Rattle.npp_rows.proofs.pair.are_conflict_terms.Goals as goal

pub returns-then-terms-ne2 : goal.returns-then-terms-ne2
returns-then-terms-ne2 g c = other_terms g.N.Exact.rational c.args.terms.now c.args.pair.k c.args.pair.p c.args.pair.l c.args.q c.if-terms-ne2.true

pub returns-else-pair : goal.returns-else-pair
returns-else-pair g c =
    let size : length c.args.terms.now ≡ 2 = omega (arith, c.if-terms-ne2.false) in
    c.are_shares-else-pair.ensures
    ∙ terms_turned g.N.Exact.rational c.args.terms.now c.args.pair.k c.args.pair.p c.args.pair.l c.args.q c.index-terms-0-else-pair.result c.index-terms-1-else-pair.result size
    c.index-terms-0-else-pair.is c.index-terms-1-else-pair.is (le-ltb c.args.pair.k c.args.pair.l c.if-pair.false)

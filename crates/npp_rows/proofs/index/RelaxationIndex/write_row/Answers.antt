use Rattle.std.proofs.Common.{◌<◌, true, negsuc, length, sym, ap, ap₂, ◌∙◌}
use Rattle.std.proofs.lemmas.List.{get_or-map}
use Rattle.npp_frac.specs.Rational.{whole, one_ℚ}
use Rattle.npp_lp.specs.Meaning.{terms_of}
use Rattle.npp_rows.specs.Named.{numbers_from, terms_from}
use Rattle.npp_rows.specs.Cuts.{no_cut}
use Rattle.npp_rows.specs.Meaning.{cut_value}
use Rattle.npp_rows.specs.Parts.{part_at}
use Rattle.npp_rows.specs.Rows.{shares_from}
use Rattle.npp_rows.specs.Relax.{relaxation_columns, cut_entry}
use Rattle.npp_rows.proofs.ListLaws.{written_anew}
use Rattle.npp_rows.proofs.EntryLaws.{minus_if}
use Rattle.npp_rows.proofs.RowTerms.{cap_terms, one_terms, one_low_terms}
use Rattle.npp_rows.proofs.index.RelaxationIndex.write_row.Goals as goal

pub returns-in-Cap : goal.returns-in-Cap
returns-in-Cap g c =
    let inside : c.in-Cap.a < length c.args.self.now.paths.caps = rw c.in-Cap.is at c.requires.row in
    rw c.in-Cap.is
    (written_anew c.push_number.result _ _ _ _ (ap (terms_of g.N.Exact.rational) c.clear.ensures.items) (sym (cap_terms c.args.self.now.paths c.args.self.now.parts c.in-Cap.a inside)) c.push_number.ensures)

pub returns-in-One : goal.returns-in-One
returns-in-One g c =
    let inside : c.in-One.k < length c.args.self.now.paths.covers = rw c.in-One.is at c.requires.row in
    rw c.in-One.is
    (written_anew c.push_same.result _ _ _ _ (ap (terms_of g.N.Exact.rational) c.clear.ensures.items)
    (ap₂ (λ n ps. numbers_from n (λ p. one_ℚ) ps) c.first_share.ensures.value c.part.ensures.part ∙ sym (one_terms c.args.self.now.paths c.args.self.now.parts c.in-One.k inside))
    c.push_same.ensures)

pub returns-in-OneLow : goal.returns-in-OneLow
returns-in-OneLow g c =
    let inside : c.in-OneLow.k < length c.args.self.now.paths.covers = rw c.in-OneLow.is at c.requires.row in
    rw c.in-OneLow.is
    (written_anew c.push_same-in-OneLow.result _ _ _ _ (ap (terms_of g.N.Exact.rational) c.clear.ensures.items)
    (ap₂ (λ n ps. numbers_from n (λ p. whole (negsuc 0)) ps) c.first_share-in-OneLow.ensures.value c.part-in-OneLow.ensures.part
    ∙ ap (λ q. numbers_from (shares_from c.args.self.now.paths c.args.self.now.parts c.in-OneLow.k) (λ p. q) (part_at c.args.self.now.parts c.in-OneLow.k)) (minus_if true)
    ∙ sym (one_low_terms c.args.self.now.paths c.args.self.now.parts c.in-OneLow.k inside))
    c.push_same-in-OneLow.ensures)

pub push_cut-requires : goal.push_cut-requires
push_cut-requires g c =
    let inside : c.in-Cut.i < length c.args.cuts.now = rw c.in-Cut.is at c.requires.row in
    rw c.index-cuts-i.is (c.requires.cuts c.in-Cut.i c.index-cuts-i.result inside)

pub returns-in-Cut : goal.returns-in-Cut
returns-in-Cut g c =
    let inside : c.in-Cut.i < length c.args.cuts.now = rw c.in-Cut.is at c.requires.row in
    let cut = ap (cut_value g.N.Exact.rational) c.index-cuts-i.is ∙ sym (get_or-map (cut_value g.N.Exact.rational) c.args.cuts.now c.in-Cut.i c.index-cuts-i.result no_cut inside) in
    rw c.in-Cut.is
    (written_anew c.push_cut.result _ _ _ _ (ap (terms_of g.N.Exact.rational) c.clear.ensures.items)
    (ap (λ x. terms_from 0 (cut_entry x) (relaxation_columns c.args.self.now.paths c.args.self.now.parts)) cut)
    c.push_cut.ensures)

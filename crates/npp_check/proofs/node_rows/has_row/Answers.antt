use Rattle.std.proofs.Common.{◌≡◌, ◌∙◌, length, map, sym, subst, arith}
use Rattle.std.proofs.lemmas.List.{length-map}
use Rattle.npp_rows.specs.Meaning.{cut_value}
use Rattle.npp_rows.specs.Caps.{path_model}
use Rattle.npp_rows.specs.PathModel.{PathModel}
use Rattle.npp_rows.specs.Rows.{IsChoiceRow}
use Rattle.npp_check.proofs.RowLemmas.{choice_row_told, row_told, row_in, row_back}
use Rattle.npp_check.proofs.TreeStandLemmas.{tree_first, same_closed, same_allowed, same_model}
use Rattle.npp_check.proofs.node_rows.has_row.Goals as goal

pub is_choice_row-requires : goal.is_choice_row-requires
is_choice_row-requires g c = same_closed c.instance-instance.ensures.instance c.deref.ensures.value c.requires.tree.known.closed

pub returns-then-full : goal.returns-then-full
returns-then-full g c =
    let d = c.args.descent.now in
    let m : PathModel = path_model c.args.measured.now.net d.known.covers.items in
    let same = same_model c.instance-instance.ensures.instance c.deref.ensures.value in
    choice_row_told m (map (cut_value g.N.Exact.rational) d.known.cuts.items) d.places.first.parts c.args.row c.is_choice_row.result
    (sym c.requires.full ∙ c.if-full.true)
    (λ e. subst (λ (z : PathModel). IsChoiceRow z c.args.row) same (c.is_choice_row.ensures.0 e))
    (λ is. c.is_choice_row.ensures.1 (subst (λ (z : PathModel). IsChoiceRow z c.args.row) (sym same) is))

pub overflow_cast-cuts : goal.overflow_cast-cuts
overflow_cast-cuts g c =
    let d = c.args.descent.now in
    omega (arith, c.len-cuts.ensures, d.known.cuts.ok.0, c.requires.tree.known.room, length-map d.known.cuts.items (cut_value g.N.Exact.rational))

pub is_row-requires-clause-covers : goal.is_row-requires-clause-covers
is_row-requires-clause-covers g c = same_closed c.instance-instance.ensures.instance c.deref-else-full.ensures.value c.requires.tree.known.closed

pub is_row-requires-clause-allowed : goal.is_row-requires-clause-allowed
is_row-requires-clause-allowed g c =
    let d = c.args.descent.now in
    same_allowed c.instance-instance.ensures.instance c.deref-else-full.ensures.value c.allowed-allowed.ensures
    (tree_first c.args.measured.now.net d.known.covers.items (map (cut_value g.N.Exact.rational) d.known.cuts.items) d.places.first d.places.later c.requires.tree)

pub returns-else-full : goal.returns-else-full
returns-else-full g c =
    let d = c.args.descent.now in
    let m : PathModel = path_model c.args.measured.now.net d.known.covers.items in
    let same = same_model c.instance-instance.ensures.instance c.deref-else-full.ensures.value in
    let count : c.len-cuts.result ≡ length (map (cut_value g.N.Exact.rational) d.known.cuts.items) =
    c.len-cuts.ensures ∙ d.known.cuts.ok.0 ∙ sym (length-map d.known.cuts.items (cut_value g.N.Exact.rational)) in
    row_told m (map (cut_value g.N.Exact.rational) d.known.cuts.items) d.places.first.parts c.args.row c.is_row.result c.len-cuts.result count
    (sym c.requires.full ∙ c.if-full.false)
    (λ e. row_in same c.allowed-allowed.ensures c.len-cuts.result c.args.row (c.is_row.ensures.0 e))
    (λ is. c.is_row.ensures.1 (row_back same c.allowed-allowed.ensures c.len-cuts.result c.args.row is))

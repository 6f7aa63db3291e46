use Rattle.std.proofs.Common.{◌∙◌, length, map, sym, ap, subst, arith}
use Rattle.std.proofs.lemmas.List.{length-map}
use Rattle.npp_frac.specs.Fits.{limit_of}
use Rattle.npp_rows.specs.Limits.{path_total}
use Rattle.npp_rows.specs.Meaning.{cut_value, multiplier_value}
use Rattle.npp_rows.specs.Named.{NamedProgram}
use Rattle.npp_tree.specs.Bounds.{bound_value}
use Rattle.npp_check.specs.Judges.{Judges}
use Rattle.npp_check.specs.NodeLines.{proof_by}
use Rattle.npp_check.specs.Standing.{AreOfRows}
use Rattle.npp_check.proofs.RowLemmas.{choice_is_node, family_is_node}
use Rattle.npp_check.proofs.TreeStandLemmas.{tree_first, same_closed, same_model, allowed_at, cuts_at}
use Rattle.npp_check.proofs.node_proof.node_value.Goals as goal

pub new-requires-clause-covers : goal.new-requires-clause-covers
new-requires-clause-covers g c = same_closed c.instance.ensures.instance c.deref.ensures.value c.requires.tree.known.closed

pub new-requires-clause-few : goal.new-requires-clause-few
new-requires-clause-few g c = omega (arith, c.requires.tree.known.few, ap path_total c.deref.ensures.value)

pub choice_value-requires-clause-allowed : goal.choice_value-requires-clause-allowed
choice_value-requires-clause-allowed g c =
    let d = c.args.descent.now in
    allowed_at (c.in_ok-table.ensures.paths ∙ same_model c.instance.ensures.instance c.deref.ensures.value) c.allowed-allowed.ensures
    (tree_first c.args.measured.now.net d.known.covers.items (map (cut_value g.N.Exact.rational) d.known.cuts.items) d.places.first d.places.later c.requires.tree)

pub choice_value-requires-clause-rows : goal.choice_value-requires-clause-rows
choice_value-requires-clause-rows g c =
    let v = g.N.Exact.rational in
    let program = choice_is_node (c.in_ok-table.ensures.paths ∙ same_model c.instance.ensures.instance c.deref.ensures.value) c.allowed-allowed.ensures (map (cut_value v) c.args.descent.now.known.cuts.items) (sym c.is_full.ensures ∙ c.if-is_full.true) in
    subst (λ (p : NamedProgram). AreOfRows p (map (multiplier_value v) c.args.block.now.multipliers.items)) (sym program) c.requires.rows

pub returns-then-is_full : goal.returns-then-is_full
returns-then-is_full g c =
    let v = g.N.Exact.rational in
    let program = choice_is_node (c.in_ok-table.ensures.paths ∙ same_model c.instance.ensures.instance c.deref.ensures.value) c.allowed-allowed.ensures (map (cut_value v) c.args.descent.now.known.cuts.items) (sym c.is_full.ensures ∙ c.if-is_full.true) in
    subst (λ (p : NamedProgram). Judges bound_value c.choice_value.result (proof_by (limit_of g.N.Exact.WIDTH) p c.args.block.now.answer (map (multiplier_value v) c.args.block.now.multipliers.items))) program c.choice_value.ensures

pub family_value-requires-clause-allowed : goal.family_value-requires-clause-allowed
family_value-requires-clause-allowed g c =
    let d = c.args.descent.now in
    allowed_at (c.in_ok-table.ensures.paths ∙ same_model c.instance.ensures.instance c.deref.ensures.value) c.allowed-allowed.ensures
    (tree_first c.args.measured.now.net d.known.covers.items (map (cut_value g.N.Exact.rational) d.known.cuts.items) d.places.first d.places.later c.requires.tree)

pub family_value-requires-clause-cuts : goal.family_value-requires-clause-cuts
family_value-requires-clause-cuts g c =
    cuts_at g.N.Exact.rational (c.in_ok-table.ensures.paths ∙ same_model c.instance.ensures.instance c.deref.ensures.value) c.deref-else-is_full.ensures.value c.requires.tree.known.good

pub family_value-requires-clause-few : goal.family_value-requires-clause-few
family_value-requires-clause-few g c =
    omega (arith, c.requires.tree.known.room, length-map c.args.descent.now.known.cuts.items (cut_value g.N.Exact.rational), ap length c.deref-else-is_full.ensures.value)

pub family_value-requires-clause-rows : goal.family_value-requires-clause-rows
family_value-requires-clause-rows g c =
    let v = g.N.Exact.rational in
    let program = family_is_node (c.in_ok-table.ensures.paths ∙ same_model c.instance.ensures.instance c.deref.ensures.value) c.allowed-allowed.ensures (ap (map (cut_value v)) c.deref-else-is_full.ensures.value) (sym c.is_full.ensures ∙ c.if-is_full.false) in
    subst (λ (p : NamedProgram). AreOfRows p (map (multiplier_value v) c.args.block.now.multipliers.items)) (sym program) c.requires.rows

pub returns : goal.returns
returns g c =
    let v = g.N.Exact.rational in
    let program = family_is_node (c.in_ok-table.ensures.paths ∙ same_model c.instance.ensures.instance c.deref.ensures.value) c.allowed-allowed.ensures (ap (map (cut_value v)) c.deref-else-is_full.ensures.value) (sym c.is_full.ensures ∙ c.if-is_full.false) in
    subst (λ (p : NamedProgram). Judges bound_value c.family_value.result (proof_by (limit_of g.N.Exact.WIDTH) p c.args.block.now.answer (map (multiplier_value v) c.args.block.now.multipliers.items))) program c.family_value.ensures

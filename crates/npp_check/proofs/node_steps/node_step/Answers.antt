use Rattle.std.proofs.Common.{◌≡◌, ◌∙◌, ◌+◌, List, [], Ok, map, sym, ap, subst}
use Rattle.npp_frac.specs.Rational.{Rational}
use Rattle.npp_frac.specs.Fits.{limit_of}
use Rattle.npp_rows.specs.declared.names.Multiplier.{Multiplier}
use Rattle.npp_rows.specs.Meaning.{cut_value, multiplier_value}
use Rattle.npp_rows.specs.Parts.{is_full}
use Rattle.npp_tree.specs.Bounds.{bound_value, greater}
use Rattle.npp_tree.specs.Family.{Family}
use Rattle.npp_tree.specs.Items.{item_of}
use Rattle.npp_check.specs.declared.block.Opening.TheVariants.{NotOpened, Marked, Answered}
use Rattle.npp_check.specs.declared.descent.Descent.{Descent}
use Rattle.npp_check.specs.Descents.{first_program, first_before}
use Rattle.npp_check.specs.NodeLines.{opening_line}
use Rattle.npp_check.specs.Stages.{AtNodes, from_multipliers, at_branch}
use Rattle.npp_check.specs.Standing.{AreOfRows}
use Rattle.npp_check.specs.StageValue.{known_value, sum_value, nodes_value, step_value}
use Rattle.npp_check.proofs.CutStepLemmas.{step_leads}
use Rattle.npp_check.proofs.NodeStepLemmas.{moved, answered_kind, opening_reads, opening_breaks}
use Rattle.npp_check.proofs.RowLemmas.{no_rows}
use Rattle.npp_check.proofs.StepLemmas.{refused_so}
use Rattle.npp_check.proofs.TreeStandLemmas.{tree_rest, tree_opened}
use Rattle.npp_check.proofs.node_steps.node_step.Goals as goal

pub returns-in_err-opening : goal.returns-in_err-opening
returns-in_err-opening g c =
    let v = g.N.Exact.rational in
    let d = c.args.descent.value in
    refused_so v (limit_of g.N.Exact.WIDTH) c.args.measured.now (nodes_value v d) (item_of v c.args.item.now) c.in_err-opening.field-0.0 c.from_residual.result c.from_residual.ensures.1
    (opening_breaks (limit_of g.N.Exact.WIDTH) c.args.measured.now (known_value v d.known) d.places.later (sum_value d.sum) d.places.first (item_of v c.args.item.now) c.in_err-opening.field-0.0
    (sym (c.in_err-opening.ensures ∙ ap (λ (f : Family). opening_line (is_full f) (item_of v c.args.item.now)) (c.allowed.ensures ∙ ap (λ (x : Descent g.row.N.Denot). x.places.first.parts) c.deref.ensures))))

pub returns-in-NotOpened : goal.returns-in-NotOpened
returns-in-NotOpened g c =
    let v = g.N.Exact.rational in
    let d = c.args.descent.value in
    let judged = sym (c.in_ok-opening.ensures ∙ ap (λ (f : Family). opening_line (is_full f) (item_of v c.args.item.now)) (c.allowed.ensures ∙ ap (λ (x : Descent g.row.N.Denot). x.places.first.parts) c.deref.ensures)) ∙ ap Ok c.in-NotOpened.is in
    moved v (limit_of g.N.Exact.WIDTH) c.args.measured.now (nodes_value v d)
    (AtNodes (known_value v d.known) d.places.later (record { opened = d.sum.opened; bound = greater (bound_value d.sum.bound) (first_before c.args.measured.now.net d) })) (item_of v c.args.item.now) c.leave_open.result
    (opening_reads (limit_of g.N.Exact.WIDTH) c.args.measured.now (known_value v d.known) d.places.later (sum_value d.sum) d.places.first (item_of v c.args.item.now) NotOpened judged)
    (tree_rest c.args.measured.now.net d.known.covers.items (map (cut_value v) d.known.cuts.items) d.places.first d.places.later c.requires.stage)
    c.leave_open.ensures.next c.leave_open.ensures.stop

pub returns-in-Marked : goal.returns-in-Marked
returns-in-Marked g c =
    let v = g.N.Exact.rational in
    let d = c.args.descent.value in
    let judged = sym (c.in_ok-opening.ensures ∙ ap (λ (f : Family). opening_line (is_full f) (item_of v c.args.item.now)) (c.allowed.ensures ∙ ap (λ (x : Descent g.row.N.Denot). x.places.first.parts) c.deref.ensures)) ∙ ap Ok c.in-Marked.is in (
      λ number items.
          opening_reads (limit_of g.N.Exact.WIDTH) c.args.measured.now (known_value v d.known) d.places.later (sum_value d.sum) d.places.first (item_of v c.args.item.now) (Marked c.in-Marked.field-0) judged number items
          ∙ ap (λ b. at_branch (limit_of g.N.Exact.WIDTH) c.args.measured.now (known_value v d.known) d.places.later (sum_value d.sum) d.places.first.parts b (record { number = number + 1; items = items })) (sym (c.bound_before-bound.ensures ∙ ap (first_before c.args.measured.now.net) c.deref-in-Marked.ensures)),
      tree_opened c.args.measured.now.net d.known.covers.items (map (cut_value v) d.known.cuts.items) d.places.first d.places.later (bound_value c.bound_before-bound.result) c.requires.stage,
    )

pub begin_block-requires-clause-kind : goal.begin_block-requires-clause-kind
begin_block-requires-clause-kind g c =
    let v = g.N.Exact.rational in
    let judged = sym (c.in_ok-opening.ensures ∙ ap (λ (f : Family). opening_line (is_full f) (item_of v c.args.item.now)) (c.allowed.ensures ∙ ap (λ (x : Descent g.row.N.Denot). x.places.first.parts) c.deref.ensures)) ∙ ap Ok c.in-Answered.is in
    answered_kind v (is_full c.args.descent.value.places.first.parts) c.args.item.now c.in-Answered.answer c.in-Answered.left judged

pub begin_block-requires-clause-rows : goal.begin_block-requires-clause-rows
begin_block-requires-clause-rows g c =
    let v = g.N.Exact.rational in
    let none : map (multiplier_value v) c.new.result.items ≡ [] = ap (map (multiplier_value v)) c.new.ensures.items in
    subst (AreOfRows (first_program v c.args.measured.now.net c.args.descent.value)) (sym none) (no_rows (first_program v c.args.measured.now.net c.args.descent.value))

pub returns-in-Answered : goal.returns-in-Answered
returns-in-Answered g c =
    let v = g.N.Exact.rational in
    let d = c.args.descent.value in
    let limit = limit_of g.N.Exact.WIDTH in
    let judged = sym (c.in_ok-opening.ensures ∙ ap (λ (f : Family). opening_line (is_full f) (item_of v c.args.item.now)) (c.allowed.ensures ∙ ap (λ (x : Descent g.row.N.Denot). x.places.first.parts) c.deref.ensures)) ∙ ap Ok c.in-Answered.is in
    let none : map (multiplier_value v) c.new.result.items ≡ [] = ap (map (multiplier_value v)) c.new.ensures.items in
    step_leads limit c.args.measured.now (nodes_value v d) (item_of v c.args.item.now)
    (from_multipliers limit c.args.measured.now (known_value v d.known) d.places.later (sum_value d.sum) d.places.first c.in-Answered.answer c.in-Answered.left (map (multiplier_value v) c.new.result.items))
    (step_value v c.args.measured.now.net c.begin_block.result)
    (λ number items.
    opening_reads limit c.args.measured.now (known_value v d.known) d.places.later (sum_value d.sum) d.places.first (item_of v c.args.item.now) (Answered c.in-Answered.answer c.in-Answered.left) judged number items
    ∙ ap (λ (ys : List (Multiplier Rational)). from_multipliers limit c.args.measured.now (known_value v d.known) d.places.later (sum_value d.sum) d.places.first c.in-Answered.answer c.in-Answered.left ys (record { number = number + 1; items = items })) (sym none))
    c.begin_block.ensures

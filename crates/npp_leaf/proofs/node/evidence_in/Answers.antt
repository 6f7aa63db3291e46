use Rattle.std.proofs.Common.{◌≡◌, map, sym, ap, ◌∙◌, subst, All}
use Rattle.std.specs.Prelude.{IfOk}
use Rattle.npp_frac.specs.Fits.{limit_of}
use Rattle.npp_rows.specs.PathModel.{PathModel}
use Rattle.npp_rows.specs.Cuts.{IsCut}
use Rattle.npp_rows.specs.Family.{Family}
use Rattle.npp_rows.specs.Meaning.{cut_value}
use Rattle.npp_rows.specs.Rows.{IsChoice}
use Rattle.npp_rows.specs.Parts.{is_full, first_choice}
use Rattle.npp_leaf.specs.Found.{found_value}
use Rattle.npp_leaf.specs.Work.{family_work}
use Rattle.npp_leaf.proofs.TollLaws.{parts_some, choice_of_family}
use Rattle.npp_leaf.proofs.ResultLaws.{full_ok, family_ok, passes_ok, optimum_ok, tolls_ok}
use Rattle.npp_leaf.proofs.node.evidence_in.Goals as goal

pub first_choice-requires : goal.first_choice-requires
first_choice-requires g c = rw c.entries-parts.ensures (parts_some c.args.table.now c.args.allowed.now.parts c.requires.allowed)

pub choice_work-requires-clause-choice : goal.choice_work-requires-clause-choice
choice_work-requires-clause-choice g c =
    subst (IsChoice c.args.table.now) (sym (c.deref.ensures.value ∙ c.in_ok-choice.ensures ∙ ap first_choice c.entries-parts.ensures)) (choice_of_family c.args.table.now c.args.allowed.now.parts c.requires.allowed)

pub family_work-requires-clause-cuts : goal.family_work-requires-clause-cuts
family_work-requires-clause-cuts g c =
    subst (λ (m : PathModel). All (λ x. IsCut m (cut_value g.N.Exact.rational x)) c.args.cuts.now) (sym (ap (λ (f : Family). f.paths) c.in_ok-index.ensures)) c.requires.cuts

-- ---- a full choice

pub returns-then-is_full-clause-work : goal.returns-then-is_full-clause-work
returns-then-is_full-clause-work g c =
    full_ok g.N.Exact.rational (limit_of g.N.Exact.WIDTH) c.args.table.now c.args.allowed.now.parts (map (cut_value g.N.Exact.rational) c.args.cuts.now) c.choice_work.result c.deref.result.now
    (sym (c.is_full.ensures ∙ ap is_full c.entries-parts.ensures) ∙ c.if-is_full.true) (c.deref.ensures.value ∙ c.in_ok-choice.ensures ∙ ap first_choice c.entries-parts.ensures) c.choice_work.ensures

pub returns-then-is_full-clause-passes : goal.returns-then-is_full-clause-passes
returns-then-is_full-clause-passes g c =
    passes_ok g.N.Exact.rational (limit_of g.N.Exact.WIDTH) c.args.table.now c.args.allowed.now.parts (map (cut_value g.N.Exact.rational) c.args.cuts.now) c.choice_work.result (returns-then-is_full-clause-work g c)

pub returns-then-is_full-clause-optimum : goal.returns-then-is_full-clause-optimum
returns-then-is_full-clause-optimum g c =
    optimum_ok g.N.Exact.rational (limit_of g.N.Exact.WIDTH) c.args.table.now c.args.allowed.now.parts (map (cut_value g.N.Exact.rational) c.args.cuts.now) c.choice_work.result (returns-then-is_full-clause-work g c)

pub returns-then-is_full-clause-tolls : goal.returns-then-is_full-clause-tolls
returns-then-is_full-clause-tolls g c =
    tolls_ok g.N.Exact.rational (limit_of g.N.Exact.WIDTH) c.args.table.now c.args.allowed.now.parts (map (cut_value g.N.Exact.rational) c.args.cuts.now) c.choice_work.result (returns-then-is_full-clause-work g c)
    c.requires.useful c.requires.allowed

-- ---- any other family

pub returns-clause-work : goal.returns-clause-work
returns-clause-work g c =
    family_ok g.N.Exact.rational (limit_of g.N.Exact.WIDTH) c.args.table.now c.args.allowed.now.parts (map (cut_value g.N.Exact.rational) c.args.cuts.now) c.family_work.result
    (sym (c.is_full.ensures ∙ ap is_full c.entries-parts.ensures) ∙ c.if-is_full.false)
    (subst (λ (f : Family). IfOk c.family_work.result (λ w. found_value g.N.Exact.rational w ≡ family_work (limit_of g.N.Exact.WIDTH) f.paths f.parts (map (cut_value g.N.Exact.rational) c.args.cuts.now))) c.in_ok-index.ensures c.family_work.ensures)

pub returns-clause-passes : goal.returns-clause-passes
returns-clause-passes g c =
    passes_ok g.N.Exact.rational (limit_of g.N.Exact.WIDTH) c.args.table.now c.args.allowed.now.parts (map (cut_value g.N.Exact.rational) c.args.cuts.now) c.family_work.result (returns-clause-work g c)

pub returns-clause-optimum : goal.returns-clause-optimum
returns-clause-optimum g c =
    optimum_ok g.N.Exact.rational (limit_of g.N.Exact.WIDTH) c.args.table.now c.args.allowed.now.parts (map (cut_value g.N.Exact.rational) c.args.cuts.now) c.family_work.result (returns-clause-work g c)

pub returns-clause-tolls : goal.returns-clause-tolls
returns-clause-tolls g c =
    tolls_ok g.N.Exact.rational (limit_of g.N.Exact.WIDTH) c.args.table.now c.args.allowed.now.parts (map (cut_value g.N.Exact.rational) c.args.cuts.now) c.family_work.result (returns-clause-work g c)
    c.requires.useful c.requires.allowed

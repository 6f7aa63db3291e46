use Rattle.std.proofs.Common.{length, map, Err, refl, sym, ap, ◌∙◌, subst}
use Rattle.std.proofs.lemmas.List.{length-map}
use Rattle.npp_frac.specs.Fits.{limit_of}
use Rattle.npp_lp.specs.Programs.{LinearProgram, IsRay}
use Rattle.npp_lp.specs.Duals.{IsFarkasAnswer}
use Rattle.npp_lp.specs.Meaning.{linear_program}
use Rattle.npp_simplex.specs.Proved.{AreOptimal}
use Rattle.npp_inverse.specs.declared.quiet.Work.{Work}
use Rattle.npp_inverse.specs.Work.{program_work, IsProvedEnding}
use Rattle.npp_inverse.specs.Tolls.{ending_of}
use Rattle.npp_rows.proofs.PointLaws.{no_ray, columns_are}
use Rattle.npp_inverse.proofs.ZeroLaws.{not_none}
use Rattle.npp_inverse.proofs.BestLaws.{found_work, sum_work, other_work, best_tolls_are}
use Rattle.npp_inverse.proofs.best.best_tolls_in.Goals as goal

pub work_on_in-requires : goal.work_on_in-requires
work_on_in-requires g c = record {
  bounded = λ d ray. no_ray c.args.table.now c.args.choice.now d (subst (λ (p : LinearProgram). IsRay p d) c.in_ok-program.ensures.program ray);
}

pub reply_to-requires-clause-size : goal.reply_to-requires-clause-size
reply_to-requires-clause-size g c =
    let v = g.N.Exact.rational in
    let shown = subst (λ (w : Work g.row.N.Denot). IsProvedEnding (linear_program v c.in_ok-program.program) (ending_of v w)) c.in-Solved.is c.in_ok-work.ensures.proved in
    ap length c.deref.ensures.value ∙ sym (length-map c.in-Solved.x.items v) ∙ shown.point.size ∙ ap (λ (p : LinearProgram). p.columns) c.in_ok-program.ensures.program ∙ columns_are c.args.table.now c.args.choice.now

pub returns-in-Ok-clause-work : goal.returns-in-Ok-clause-work
returns-in-Ok-clause-work g c =
    let v = g.N.Exact.rational in
    let ends = ap (ending_of v) (sym c.in-Solved.is) ∙ c.in_ok-work.ensures.ending ∙ ap (program_work (limit_of g.N.Exact.WIDTH)) c.in_ok-program.ensures.program in
    rw c.of.ensures
    (found_work (limit_of g.N.Exact.WIDTH) c.args.table.now c.args.choice.now (map v c.in-Solved.x.items) (map v c.in-Solved.y.items) (v c.in-Solved.value) ends (rw c.deref.ensures.value at c.in-Ok.ensures.fits))

pub returns-in-Ok-clause-proved : goal.returns-in-Ok-clause-proved
returns-in-Ok-clause-proved g c =
    let v = g.N.Exact.rational in
    let shown = subst (λ (w : Work g.row.N.Denot). IsProvedEnding (linear_program v c.in_ok-program.program) (ending_of v w)) c.in-Solved.is c.in_ok-work.ensures.proved in
    let optimal = subst (λ (p : LinearProgram). AreOptimal p (map v c.in-Solved.x.items) (map v c.in-Solved.y.items) (v c.in-Solved.value)) c.in_ok-program.ensures.program shown in
    rw c.of.ensures
    (best_tolls_are c.args.table.now c.args.choice.now (map v c.in-Solved.x.items) (map v c.in-Solved.y.items) (v c.in-Solved.value) _ c.requires.useful c.requires.choice optimal (rw c.deref.ensures.value at c.in-Ok.ensures.reply))

pub returns-in-Err-Overflow-clause-work : goal.returns-in-Err-Overflow-clause-work
returns-in-Err-Overflow-clause-work g c =
    let v = g.N.Exact.rational in
    let ends = ap (ending_of v) (sym c.in-Solved.is) ∙ c.in_ok-work.ensures.ending ∙ ap (program_work (limit_of g.N.Exact.WIDTH)) c.in_ok-program.ensures.program in
    sum_work (limit_of g.N.Exact.WIDTH) c.args.table.now c.args.choice.now (map v c.in-Solved.x.items) (map v c.in-Solved.y.items) (v c.in-Solved.value) c.in-Err-Overflow.field-0-0 ends
    (rw c.deref.ensures.value at (c.in-Err-Overflow.ensures.overflow c.in-Err-Overflow.field-0-0 (ap Err c.in-Err-Overflow.field-0-is)))

pub returns-in-NoPoint-clause-work : goal.returns-in-NoPoint-clause-work
returns-in-NoPoint-clause-work g c =
    let v = g.N.Exact.rational in
    other_work (limit_of g.N.Exact.WIDTH) c.args.table.now c.args.choice.now _ refl (ap (ending_of v) (sym c.in-NoPoint.is) ∙ c.in_ok-work.ensures.ending ∙ ap (program_work (limit_of g.N.Exact.WIDTH)) c.in_ok-program.ensures.program)

pub returns-clause-work : goal.returns-clause-work
returns-clause-work g c =
    let v = g.N.Exact.rational in
    other_work (limit_of g.N.Exact.WIDTH) c.args.table.now c.args.choice.now _ refl (ap (ending_of v) (sym c.in-Loud.is) ∙ c.in_ok-work.ensures.ending ∙ ap (program_work (limit_of g.N.Exact.WIDTH)) c.in_ok-program.ensures.program)

pub returns-in-NoPoint-clause-zero_choice : goal.returns-in-NoPoint-clause-zero_choice
returns-in-NoPoint-clause-zero_choice g c =
    let v = g.N.Exact.rational in
    let shown = subst (λ (w : Work g.row.N.Denot). IsProvedEnding (linear_program v c.in_ok-program.program) (ending_of v w)) c.in-NoPoint.is c.in_ok-work.ensures.proved in
    let answer = subst (λ (p : LinearProgram). IsFarkasAnswer p (map v c.in-NoPoint.y.items)) c.in_ok-program.ensures.program shown in
    λ net model zeros. not_none net c.args.table.now c.args.choice.now model c.requires.choice zeros (map v c.in-NoPoint.y.items) answer

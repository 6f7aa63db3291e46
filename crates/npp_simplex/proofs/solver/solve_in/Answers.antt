use Rattle.std.proofs.Common.{◌≡◌, Some, sym, subst, ap, ◌∙◌}
use Rattle.std.proofs.lemmas.List.{length-map}
use Rattle.npp_frac.specs.Fits.{limit_of}
use Rattle.npp_frac.specs.Rational.{Rational}
use Rattle.npp_lp.specs.ProgramOver.{ProgramOver}
use Rattle.npp_lp.specs.Programs.{IsLinearProgram}
use Rattle.npp_lp.specs.Meaning.{linear_program, IsProgram}
use Rattle.npp_simplex.specs.Run.{run_from}
use Rattle.npp_simplex.specs.Proved.{IsProved}
use Rattle.npp_simplex.specs.Bases.{basis_count, HasFewerPivots}
use Rattle.npp_simplex.specs.Meaning.{outcome_of}
use Rattle.npp_simplex.proofs.Refining.{if_ok}
use Rattle.npp_simplex.proofs.RunLemmas.{proved_run}
use Rattle.npp_simplex.proofs.RunBases.{fewer_in_run}
use Rattle.npp_simplex.proofs.solver.solve_in.Goals as goal

-- the program of the code is one over the rational numbers
is_linear : {N : Type 0} (v : N → Rational) (p : ProgramOver N) → IsProgram v p → IsLinearProgram (linear_program v p)
is_linear v p h = record { rows = h.rows; goal = length-map p.goal v ∙ h.goal }

pub returns-clause-proved : goal.returns-clause-proved
returns-clause-proved g c =
    let v = g.N.Exact.rational in
    let p = linear_program v c.args.program.now in
    let m = Some (limit_of g.N.Exact.WIDTH) in
    if_ok c.run.result (λ a. outcome_of v a ≡ run_from m c.args.cap 0 c.in_ok-first.first) (λ a. IsProved p (outcome_of v a))
    (λ a h. subst (IsProved p) (sym (h ∙ ap (run_from m c.args.cap 0) c.in_ok-first.ensures.state)) (proved_run p (is_linear v c.args.program.now c.first.ensures.form) m c.args.cap)) c.run.ensures

pub returns-clause-pivots : goal.returns-clause-pivots
returns-clause-pivots g c =
    let v = g.N.Exact.rational in
    let p = linear_program v c.args.program.now in
    let m = Some (limit_of g.N.Exact.WIDTH) in
    if_ok c.run.result (λ a. outcome_of v a ≡ run_from m c.args.cap 0 c.in_ok-first.first) (λ a. HasFewerPivots (basis_count p) c.args.cap (outcome_of v a))
    (λ a h. subst (HasFewerPivots (basis_count p) c.args.cap) (sym (h ∙ ap (run_from m c.args.cap 0) c.in_ok-first.ensures.state)) (fewer_in_run p m c.args.cap)) c.run.ensures

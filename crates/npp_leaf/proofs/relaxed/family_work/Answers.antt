use Rattle.std.proofs.Common.{◌≡◌, length, map, sym, ap, ◌∙◌, subst}
use Rattle.std.proofs.lemmas.List.{length-map}
use Rattle.npp_frac.specs.Fits.{limit_of}
use Rattle.npp_lp.specs.Programs.{LinearProgram, IsRay}
use Rattle.npp_lp.specs.Meaning.{linear_program}
use Rattle.npp_rows.specs.Meaning.{cut_value}
use Rattle.npp_rows.specs.Relax.{relaxation, relaxation_rows}
use Rattle.npp_inverse.specs.Work.{IsProvedEnding}
use Rattle.npp_inverse.specs.Tolls.{ending_of}
use Rattle.npp_simplex.proofs.Refining.{if_ok}
use Rattle.npp_leaf.specs.Found.{found_value, relaxation_found}
use Rattle.npp_leaf.specs.Work.{family_work}
use Rattle.npp_leaf.proofs.RayLaws.{no_ray}
use Rattle.npp_leaf.proofs.FoundLaws.{large_found, run_found}
use Rattle.npp_leaf.proofs.relaxed.family_work.Goals as goal

pub returns-then-is_large : goal.returns-then-is_large
returns-then-is_large g c =
    ap (found_value g.N.Exact.rational) c.marked.ensures
    ∙ large_found (limit_of g.N.Exact.WIDTH) c.args.index.now.paths c.args.index.now.parts (map (cut_value g.N.Exact.rational) c.args.cuts.now) (sym c.is_large.ensures ∙ c.if-is_large.true)

pub work_on_in-requires : goal.work_on_in-requires
work_on_in-requires g c = record {
  bounded = λ d ray.
      no_ray c.args.index.now.paths c.args.index.now.parts (map (cut_value g.N.Exact.rational) c.args.cuts.now) d (subst (λ (p : LinearProgram). IsRay p d) c.in_ok-program.ensures.program ray);
}

pub found_by-requires-clause-rows : goal.found_by-requires-clause-rows
found_by-requires-clause-rows g c =
    let size : length (map (cut_value g.N.Exact.rational) c.args.cuts.now) ≡ length c.args.cuts.now = simp length-map in
    c.rows.ensures ∙ c.keep.ensures ∙ c.in_ok-work.ensures.rows ∙ c.in_ok-program.ensures.rows ∙ ap (relaxation_rows c.args.index.now.paths c.args.index.now.parts) (sym size)

pub found_by-requires-clause-proved : goal.found_by-requires-clause-proved
found_by-requires-clause-proved g c =
    subst (λ (p : LinearProgram). IsProvedEnding p (ending_of g.N.Exact.rational c.in_ok-work.work)) c.in_ok-program.ensures.program c.in_ok-work.ensures.proved

pub returns : goal.returns
returns g c =
    let v = g.N.Exact.rational in
    let m = c.args.index.now.paths in
    let parts = c.args.index.now.parts in
    let cuts = map (cut_value v) c.args.cuts.now in
    if_ok c.found_by.result
    (λ w. found_value v w ≡ relaxation_found m parts (relaxation m parts cuts).rows (ending_of v c.in_ok-work.work))
    (λ w. found_value v w ≡ family_work (limit_of g.N.Exact.WIDTH) m parts cuts)
    (λ w e. e ∙ run_found (limit_of g.N.Exact.WIDTH) m parts cuts (linear_program v c.in_ok-program.program) (ending_of v c.in_ok-work.work) (sym c.is_large.ensures ∙ c.if-is_large.false) c.in_ok-program.ensures.program c.in_ok-work.ensures.ending)
    c.found_by.ensures

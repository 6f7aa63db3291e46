use Rattle.std.proofs.Common.{◌≡◌, suc, ◌+◌, ◌-◌, Some, sym, ap, ◌∙◌, arith}
use Rattle.npp_frac.specs.Fits.{limit_of}
use Rattle.npp_simplex.specs.Run.{run_from}
use Rattle.npp_simplex.specs.Turns.{goes_on}
use Rattle.npp_simplex.specs.Meaning.{outcome_of}
use Rattle.npp_simplex.proofs.Refining.{if_ok}
use Rattle.npp_simplex.proofs.run.run.Goals as goal

pub loop-made-preserved : goal.loop-made-preserved
loop-made-preserved g c =
    let v = g.N.Exact.rational in
    let m = Some (limit_of g.N.Exact.WIDTH) in
    let left = c.args.cap - (c.loop-made.made + 1) in
    let one_more : c.args.cap - c.loop-made.made ≡ suc left = omega arith in
    sym (c.in_ok-next.ensures left ∙ ap (goes_on v m left c.loop-made.made) c.in-GoesOn.is) ∙ ap (λ k. run_from m k c.loop-made.made c.loop-made.state) (sym one_more) ∙ c.loop-made.invariant

pub returns-in-Ends : goal.returns-in-Ends
returns-in-Ends g c =
    let v = g.N.Exact.rational in
    let m = Some (limit_of g.N.Exact.WIDTH) in
    let left = c.args.cap - (c.loop-made.made + 1) in
    let one_more : c.args.cap - c.loop-made.made ≡ suc left = omega arith in
    sym (c.in_ok-next.ensures left ∙ ap (goes_on v m left c.loop-made.made) c.in-Ends.is) ∙ ap (λ k. run_from m k c.loop-made.made c.loop-made.state) (sym one_more) ∙ c.loop-made.invariant

pub returns : goal.returns
returns g c =
    let v = g.N.Exact.rational in
    let m = Some (limit_of g.N.Exact.WIDTH) in
    let none : c.args.cap - c.loop-made.made ≡ 0 = omega arith in
    let all : c.loop-made.made ≡ c.args.cap = omega arith in
    let ends = ap (λ k. run_from m 0 k c.loop-made.state) (sym all) ∙ ap (λ k. run_from m k c.loop-made.made c.loop-made.state) (sym none) ∙ c.loop-made.invariant in
    if_ok c.last_look.result (λ a. outcome_of v a ≡ run_from m 0 c.args.cap c.loop-made.state) (λ a. outcome_of v a ≡ run_from m c.args.cap 0 c.args.first) (λ a h. h ∙ ends) c.last_look.ensures

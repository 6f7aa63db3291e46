use Rattle.std.proofs.Common.{◌∙◌, map, sym}
use Rattle.npp_frac.specs.Fits.{limit_of}
use Rattle.npp_rows.specs.Meaning.{cut_value, multiplier_value}
use Rattle.npp_rows.specs.Named.{NamedProgram}
use Rattle.npp_rows.specs.Relax.{relaxation}
use Rattle.std.specs.Prelude.{take}
use Rattle.npp_rows.specs.Taken.{next_fault}
use Rattle.npp_check.proofs.NodeProofLemmas.{only_memory, taken_without_fault, taken_more, taken_whole}
use Rattle.npp_check.proofs.node_proof.sums_of_relaxation.Goals as goal

pub loop-multiplier-init : goal.loop-multiplier-init
loop-multiplier-init g c =
    let p : NamedProgram = relaxation c.args.index.now.paths c.args.index.now.parts (map (cut_value g.N.Exact.rational) c.args.cuts.now) in
    record { taken = c.in_ok-sums.ensures.empty p (sym c.column_count.ensures.count); columns = c.in_ok-sums.ensures.columns ∙ c.column_count.ensures.count }

pub only_memory-requires : goal.only_memory-requires
only_memory-requires g c =
    let v = g.N.Exact.rational in
    let p : NamedProgram = relaxation c.args.index.now.paths c.args.index.now.parts (map (cut_value v) c.args.cuts.now) in
    let none = taken_without_fault v (limit_of g.N.Exact.WIDTH) p c.args.multipliers.now c.requires.rows c.loop-multiplier.multiplier-index c.multiplier-item.result c.loop-multiplier-test.true c.multiplier-item.is c.loop-multiplier.sums c.loop-multiplier.invariant.taken in
    only_memory (next_fault p.rows c.loop-multiplier.sums.last (multiplier_value v c.multiplier-item.result)) c.in-Err.fault none c.in-Err.ensures.fault

pub loop-multiplier-preserved : goal.loop-multiplier-preserved
loop-multiplier-preserved g c =
    let v = g.N.Exact.rational in
    let p : NamedProgram = relaxation c.args.index.now.paths c.args.index.now.parts (map (cut_value v) c.args.cuts.now) in
    record {
      taken = taken_more v (limit_of g.N.Exact.WIDTH) p c.args.multipliers.now c.loop-multiplier.multiplier-index c.multiplier-item.result c.loop-multiplier-test.true c.multiplier-item.is c.take.new.self
          (c.in-Ok.ensures.taken (map (multiplier_value v) (take c.loop-multiplier.multiplier-index c.args.multipliers.now)) c.loop-multiplier.invariant.taken);
      columns = c.take.ensures.columns ∙ c.loop-multiplier.invariant.columns;
    }

pub returns-clause-taken : goal.returns-clause-taken
returns-clause-taken g c =
    let v = g.N.Exact.rational in
    taken_whole v (limit_of g.N.Exact.WIDTH) (relaxation c.args.index.now.paths c.args.index.now.parts (map (cut_value v) c.args.cuts.now)) c.args.multipliers.now c.loop-multiplier.multiplier-index c.loop-multiplier-test.false c.loop-multiplier.sums c.loop-multiplier.invariant.taken

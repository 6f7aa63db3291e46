use Rattle.std.proofs.Common.{◌≡◌, ◌∙◌, length, map, sym}
use Rattle.std.proofs.lemmas.List.{length-map}
use Rattle.std.proofs.lemmas.List.FromFn.{length-range_with_len}
use Rattle.npp_frac.specs.Fits.{limit_of}
use Rattle.npp_rows.specs.Inverse.{inverse}
use Rattle.npp_rows.specs.Meaning.{multiplier_value}
use Rattle.npp_rows.specs.PathModel.{tolls}
use Rattle.npp_rows.specs.declared.names.ColumnName.TheVariants.{Toll}
use Rattle.npp_rows.specs.Named.{NamedProgram}
use Rattle.std.specs.Prelude.{take}
use Rattle.npp_rows.specs.Taken.{next_fault}
use Rattle.npp_check.proofs.NodeProofLemmas.{only_memory, taken_without_fault, taken_more, taken_whole}
use Rattle.npp_check.proofs.node_proof.sums_of_choice.Goals as goal

pub loop-multiplier-init : goal.loop-multiplier-init
loop-multiplier-init g c =
    let p : NamedProgram = inverse c.args.table.now c.args.choice.now in
    let size : length (map Toll (tolls c.args.table.now)) ≡ c.tolls.result = rw (length-map (tolls c.args.table.now) Toll) (length-range_with_len 0 (length c.args.table.now.caps)) ∙ sym c.tolls.ensures.count in
    record { taken = c.in_ok-sums.ensures.empty p size; columns = c.in_ok-sums.ensures.columns ∙ c.tolls.ensures.count }

pub only_memory-requires : goal.only_memory-requires
only_memory-requires g c =
    let v = g.N.Exact.rational in
    let p : NamedProgram = inverse c.args.table.now c.args.choice.now in
    let none = taken_without_fault v (limit_of g.N.Exact.WIDTH) p c.args.multipliers.now c.requires.rows c.loop-multiplier.multiplier-index c.multiplier-item.result c.loop-multiplier-test.true c.multiplier-item.is c.loop-multiplier.sums c.loop-multiplier.invariant.taken in
    only_memory (next_fault p.rows c.loop-multiplier.sums.last (multiplier_value v c.multiplier-item.result)) c.in-Err.fault none c.in-Err.ensures.fault

pub loop-multiplier-preserved : goal.loop-multiplier-preserved
loop-multiplier-preserved g c =
    let v = g.N.Exact.rational in
    let p : NamedProgram = inverse c.args.table.now c.args.choice.now in
    record {
      taken = taken_more v (limit_of g.N.Exact.WIDTH) p c.args.multipliers.now c.loop-multiplier.multiplier-index c.multiplier-item.result c.loop-multiplier-test.true c.multiplier-item.is c.take_for_choice.new.self
          (c.in-Ok.ensures.taken (map (multiplier_value v) (take c.loop-multiplier.multiplier-index c.args.multipliers.now)) c.loop-multiplier.invariant.taken);
      columns = c.take_for_choice.ensures.columns ∙ c.loop-multiplier.invariant.columns;
    }

pub returns-clause-taken : goal.returns-clause-taken
returns-clause-taken g c =
    let v = g.N.Exact.rational in
    taken_whole v (limit_of g.N.Exact.WIDTH) (inverse c.args.table.now c.args.choice.now) c.args.multipliers.now c.loop-multiplier.multiplier-index c.loop-multiplier-test.false c.loop-multiplier.sums c.loop-multiplier.invariant.taken

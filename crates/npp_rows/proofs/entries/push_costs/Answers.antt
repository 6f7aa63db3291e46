use Rattle.std.proofs.Common.{pos, map, get_or, refl, sym, ap, ◌∙◌, arith}
use Rattle.std.proofs.lemmas.Int.{ints}
use Rattle.npp_frac.specs.Rational.{whole}
use Rattle.npp_cover.specs.Paths.{PathValue}
use Rattle.npp_cover.specs.PathValue.{path_value}
use Rattle.npp_cover.specs.Replaces.{path_at}
use Rattle.npp_rows.proofs.EntryLaws.{path_read, whole_read}
use Rattle.npp_rows.proofs.NumberLaws.{numbers_next}
use Rattle.npp_rows.proofs.entries.push_costs.Goals as goal

pub overflow_cast-paths : goal.overflow_cast-paths
overflow_cast-paths g c =
    let p = get_or c.args.part.now c.loop-i.i 0 in
    let e = path_read c.args.paths.now p c.index-paths-path.result (c.requires.part c.loop-i.i 0 c.loop-i-test.true) in
    omega (arith, ap (λ (v : PathValue). v.cost) e, c.requires.small p)

pub push_number-requires : goal.push_number-requires
push_number-requires g c =
    let p = get_or c.args.part.now c.loop-i.i 0 in
    let e = path_read c.args.paths.now p c.index-paths-path.result (c.requires.part c.loop-i.i 0 c.loop-i-test.true) in
    omega (arith, ints, ap (λ (v : PathValue). v.cost) e, c.requires.small p, c.from.ensures)

pub loop-i-preserved : goal.loop-i-preserved
loop-i-preserved g c =
    let p = get_or c.args.part.now c.loop-i.i 0 in
    let e = path_read c.args.paths.now p c.index-paths-path.result (c.requires.part c.loop-i.i 0 c.loop-i-test.true) in
    numbers_next (λ p. whole (pos (path_at (map path_value c.args.paths.now) p).cost)) c.args.base c.loop-i.i _ p _ c.args.part.now _ _ _ c.loop-i-test.true c.loop-i.invariant c.in_ok-push_number.ensures refl refl
    (whole_read _ (omega (arith, ints, ap (λ (v : PathValue). v.cost) e, c.requires.small p, c.from.ensures)) ∙ ap whole c.from.ensures ∙ ap (λ (v : PathValue). whole (pos v.cost)) (sym e))

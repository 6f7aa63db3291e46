use Rattle.std.proofs.Common.{◌==◌, if◌then◌else◌, pos, get_or, refl, sym, ap, ◌∙◌}
use Rattle.std.specs.Int.{bit_at}
use Rattle.npp_frac.specs.Rational.{whole, zero_ℚ}
use Rattle.npp_cover.specs.Paths.{PathValue}
use Rattle.npp_cover.specs.PathValue.{path_value}
use Rattle.npp_rows.proofs.EntryLaws.{path_read, whole_if, whole_read}
use Rattle.npp_rows.proofs.NumberLaws.{numbers_next}
use Rattle.npp_rows.proofs.entries.push_caps.Goals as goal

pub loop-i-preserved : goal.loop-i-preserved
loop-i-preserved g c =
    let p = get_or c.args.part.now c.loop-i.i 0 in
    let e = path_read c.args.paths.now p c.index-paths-path.result (c.requires.part c.loop-i.i 0 c.loop-i-test.true) in
    let v = ap path_value c.index-paths-path.is ∙ sym e in
    numbers_next _ c.args.base c.loop-i.i _ p _ c.args.part.now _ _ _ c.loop-i-test.true c.loop-i.invariant c.in_ok-push_number.ensures refl refl
    (whole_read c.on_user.result c.on_user.ensures.small ∙ ap whole c.on_user.ensures.value ∙ whole_if _ _
    ∙ ap (λ n. if bit_at c.index-paths-path.result.tolls c.args.toll.0 == 1 then whole (pos n) else zero_ℚ) c.from.ensures
    ∙ ap (λ (x : PathValue). if bit_at x.tolls c.args.toll.0 == 1 then whole (pos c.args.cap) else zero_ℚ) v)

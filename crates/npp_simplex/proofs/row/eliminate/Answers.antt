use Rattle.std.proofs.Common.{◌≡◌, ℕ, ◌<◌, map, length, slice_index_or, ap₂, sym, ◌∙◌, refl, arith, true, false}
use Rattle.std.proofs.lemmas.List.{get_or_default, length-set}
use Rattle.npp_frac.specs.Rational.{Rational, ◌-ℚ◌, ◌*ℚ◌}
use Rattle.npp_frac.specs.Fits.{limit_of}
use Rattle.npp_lp.specs.Programs.{at}
use Rattle.npp_simplex.specs.Places.{fits_less_product}
use Rattle.npp_simplex.proofs.Tables.{at_read}
use Rattle.npp_simplex.proofs.Nonzero.{columns_within}
use Rattle.npp_simplex.proofs.Eliminating.{less_multiple, fits_multiple, begins, stops, goes_on}
use Rattle.npp_simplex.proofs.row.eliminate.Goals as goal

pub loop-s-init : goal.loop-s-init
loop-s-init g c =
    let v = g.N.Exact.rational in
    let d : ℕ → Rational = at c.args.other.now in
    record {
      size = refl;
      within = columns_within d (length c.args.row.now) c.args.columns.now c.requires.columns;
      replaced = begins v g.N.Exact.WIDTH g.met.N.Exact.width g.met.N.Exact.fits c.args.row.now (v c.args.factor) d c.args.columns.now c.requires.columns;
    }

pub returns-in-None-clause-stop : goal.returns-in-None-clause-stop
returns-in-None-clause-stop g c =
    let v = g.N.Exact.rational in
    let d : ℕ → Rational = at c.args.other.now in
    let n = length c.args.row.now in
    let s = c.loop-s.s in
    let j = slice_index_or c.args.columns.now s 0 in
    let place : j ≡ slice_index_or c.args.columns.now s n = get_or_default c.args.columns.now s 0 n (omega arith) in
    let less : j < n = c.loop-s.invariant.within s 0 (omega arith) in
    let read : at (map v c.args.row.now) j ≡ v c.index-row-j.result = sym (c.loop-s.invariant.replaced.rest j (omega arith)) ∙ at_read v c.loop-s.row j c.index-row-j.result (omega arith) c.index-row-j.is in
    let other : d j ≡ v c.number.result = sym c.number.ensures in
    let fails : fits_multiple v (limit_of g.N.Exact.WIDTH) c.args.row.now (v c.args.factor) d j ≡ false = ap₂ (λ x y. fits_less_product (limit_of g.N.Exact.WIDTH) x (v c.args.factor) y) read other ∙ sym c.in-None.ensures.fits in
    stops v (limit_of g.N.Exact.WIDTH) c.args.row.now (v c.args.factor) d c.loop-s.row j _ c.loop-s.invariant.replaced place less fails

pub loop-s-preserved : goal.loop-s-preserved
loop-s-preserved g c =
    let v = g.N.Exact.rational in
    let d : ℕ → Rational = at c.args.other.now in
    let n = length c.args.row.now in
    let s = c.loop-s.s in
    let j = slice_index_or c.args.columns.now s 0 in
    let place : j ≡ slice_index_or c.args.columns.now s n = get_or_default c.args.columns.now s 0 n (omega arith) in
    let less : j < n = c.loop-s.invariant.within s 0 (omega arith) in
    let read : at (map v c.args.row.now) j ≡ v c.index-row-j.result = sym (c.loop-s.invariant.replaced.rest j (omega arith)) ∙ at_read v c.loop-s.row j c.index-row-j.result (omega arith) c.index-row-j.is in
    let other : d j ≡ v c.number.result = sym c.number.ensures in
    let same : fits_multiple v (limit_of g.N.Exact.WIDTH) c.args.row.now (v c.args.factor) d j ≡ true = ap₂ (λ x y. fits_less_product (limit_of g.N.Exact.WIDTH) x (v c.args.factor) y) read other ∙ sym c.in-Some.ensures.fits in
    let exact : v c.in-Some.difference ≡ less_multiple v c.args.row.now (v c.args.factor) d j = c.in-Some.ensures.exact ∙ sym (ap₂ (λ x y. x -ℚ v c.args.factor *ℚ y) read other) in
    record {
      size = length-set c.loop-s.row j c.in-Some.difference ∙ c.loop-s.invariant.size;
      within = c.loop-s.invariant.within;
      replaced = goes_on v g.N.Exact.WIDTH g.met.N.Exact.width g.met.N.Exact.fits c.args.row.now (v c.args.factor) d c.args.columns.now c.requires.columns c.loop-s.row s j c.in-Some.difference c.loop-s.invariant.replaced (omega arith) c.loop-s.invariant.size place exact same;
    }

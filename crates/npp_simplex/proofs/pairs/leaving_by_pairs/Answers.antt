use Rattle.std.proofs.Common.{◌+◌, ◌<◌, length, take, slice_index, Some, refl, subst, sym, ◌∙◌, arith}
use Rattle.npp_frac.specs.Fits.{limit_of}
use Rattle.npp_simplex.specs.Ratio.{compared, keys}
use Rattle.npp_simplex.specs.Meaning.{IsCandidate}
use Rattle.npp_simplex.proofs.RowPairs.{IsFirst, first_at, stays_at, changes_at, each_more, walked_remains, AllFit}
use Rattle.npp_simplex.proofs.pairs.leaving_by_pairs.Goals as goal
use Rattle.npp_simplex.proofs.pairs.leaving_by_pairs.Goals.{then-is_first, else-is_first}

pub loop-s-init : goal.loop-s-init
loop-s-init g c =
    let some : 0 < length c.args.candidates.now = omega (arith, c.requires.some) in
    record {
      first = first_at (compared c.args.entering.stage c.args.tableau.now c.args.entering.column) (keys c.args.tableau.now) c.args.candidates.now (slice_index c.args.candidates.now 0) some refl;
      fits = λ two. absurd (omega arith);
      best = c.requires.rows 0 0 some;
      place = (0, omega arith, refl);
    }

pub loop-s-preserved : goal.loop-s-preserved
loop-s-preserved g c =
    let t = c.args.tableau.now in
    let column = c.args.entering.column in
    let stage = c.args.entering.stage in
    let xs = c.args.candidates.now in
    let s = c.loop-s.s in
    let number = compared c.args.entering.stage c.args.tableau.now c.args.entering.column in
    let held = c.loop-s.invariant in
    let told = c.in_ok-is_first.ensures in
    let within : c.loop-s.s < length c.args.candidates.now = omega arith in
    let fits = each_more (AllFit (Some (limit_of g.N.Exact.WIDTH)) stage t column) xs s c.loop-s.best held.fits held.place told.other_fits told.own_fits in
    elim c.if-is_first.branch [
      | then-is_first w ↦ record {
        first = subst (IsFirst number (keys t) (take (s + 1) xs)) (sym w.best-is) (changes_at number (keys t) xs s c.loop-s.best (slice_index xs s) within refl held.first (sym told.exact ∙ w.if-is_first.true));
        fits = λ two. fits;
        best = subst (IsCandidate t column) (sym w.best-is) (c.requires.rows s 0 within);
        place = (s, omega arith, sym w.best-is);
      }
      | else-is_first w ↦ record {
        first = subst (IsFirst number (keys t) (take (s + 1) xs)) (sym w.best-is) (stays_at number (keys t) xs s c.loop-s.best (slice_index xs s) within refl held.first (sym told.exact ∙ w.if-is_first.false));
        fits = λ two. fits;
        best = subst (IsCandidate t column) (sym w.best-is) held.best;
        place = (held.place.0, omega (arith, held.place.1), held.place.2 ∙ sym w.best-is);
      }
    ]

pub returns-clause-row : goal.returns-clause-row
returns-clause-row g c =
    walked_remains (Some (limit_of g.N.Exact.WIDTH)) c.args.entering.stage c.args.tableau.now c.args.entering.column (keys c.args.tableau.now) c.args.candidates.now c.loop-s.s c.loop-s.best (omega arith) c.requires.some c.loop-s.invariant.first c.loop-s.invariant.fits

use Rattle.std.proofs.Common.{◌≡◌, ◌+◌, ◌-◌, ◌<◌, ◌≤◌, ◌++◌, take, drop, slice_index, Some, Ok, ap, sym, ◌∙◌, arith, subst}
use Rattle.std.specs.List.{range_with_len}
use Rattle.std.proofs.lemmas.List.{length-take-le, length-append, take-append-le, get_or-take}
use Rattle.npp_frac.specs.Fits.{limit_of}
use Rattle.npp_simplex.specs.Meaning.{IsCandidate}
use Rattle.npp_simplex.specs.Places.{remaining}
use Rattle.npp_simplex.proofs.Refining.{remains_none, range_next, stands_more}
use Rattle.npp_simplex.proofs.Passing.{stands_past, remains_end}
use Rattle.npp_simplex.proofs.ratio.refine_by_slacks.Goals as goal

pub returns-in-Err-clause-row : goal.returns-in-Err-clause-row
returns-in-Err-clause-row g c =
    let m = Some (limit_of g.N.Exact.WIDTH) in
    let t = c.args.tableau.now in
    let e = t.columns + t.rows in
    let key = c.next_key-key.result in
    let left = take c.loop-left.left c.loop-left.candidates in
    let size = length-take-le c.loop-left.left c.loop-left.candidates c.loop-left.invariant.within in
    let within : c.next_key-key.result ≤ c.args.tableau.now.columns + c.args.tableau.now.rows = omega (arith, c.next_key-key.ensures.end, c.extra-end.ensures, c.shape-shape.ensures.rows, c.shape-shape.ensures.columns) in
    let stands = stands_past g.N.Exact.WIDTH g.met.N.Exact.width c.args.entering.stage t c.args.entering.column (range_with_len t.columns t.rows) c.args.candidates.now left c.loop-left.from key e (omega (arith, size)) c.next_key-key.ensures.from within c.next_key-key.ensures.zeros c.loop-left.invariant.stands in
    let before : c.next_key-key.result < c.args.tableau.now.columns + c.args.tableau.now.rows = omega (arith, c.next_key-key.ensures.end, c.extra-end.ensures, c.shape-shape.ensures.rows, c.shape-shape.ensures.columns) in
    sym (remains_none m c.args.entering.stage t c.args.entering.column key (range_with_len (key + 1) (e - (key + 1))) left c.in-Err.place (omega (arith, size)) c.in-Err.ensures.stop)
    ∙ ap (λ ks. remaining m c.args.entering.stage t c.args.entering.column ks left) (sym (range_next key e before)) ∙ stands.rest

pub returns-then-key-end-clause-row : goal.returns-then-key-end-clause-row
returns-then-key-end-clause-row g c =
    let m = Some (limit_of g.N.Exact.WIDTH) in
    let t = c.args.tableau.now in
    let e = t.columns + t.rows in
    let key = c.next_key-key.result in
    let left = take c.loop-left.left c.loop-left.candidates in
    let size = length-take-le c.loop-left.left c.loop-left.candidates c.loop-left.invariant.within in
    let within : c.next_key-key.result ≤ c.args.tableau.now.columns + c.args.tableau.now.rows = omega (arith, c.next_key-key.ensures.end, c.extra-end.ensures, c.shape-shape.ensures.rows, c.shape-shape.ensures.columns) in
    let stands = stands_past g.N.Exact.WIDTH g.met.N.Exact.width c.args.entering.stage t c.args.entering.column (range_with_len t.columns t.rows) c.args.candidates.now left c.loop-left.from key e (omega (arith, size)) c.next_key-key.ensures.from within c.next_key-key.ensures.zeros c.loop-left.invariant.stands in
    let last : c.next_key-key.result ≡ c.args.tableau.now.columns + c.args.tableau.now.rows = omega (arith, c.if-key-end.true, c.extra-end.ensures, c.shape-shape.ensures.rows, c.shape-shape.ensures.columns) in
    let first : slice_index (take c.loop-left.left c.loop-left.candidates) 0 ≡ slice_index c.loop-left.candidates 0 = get_or-take c.loop-left.left c.loop-left.candidates 0 0 (omega arith) in
    ap Ok (sym first) ∙ sym (remains_end m c.args.entering.stage t c.args.entering.column e left)
    ∙ ap (λ k. remaining m c.args.entering.stage t c.args.entering.column (range_with_len k (e - k)) left) (sym last) ∙ stands.rest

pub returns-then-key-end-clause-candidate : goal.returns-then-key-end-clause-candidate
returns-then-key-end-clause-candidate g c =
    let first : slice_index (take c.loop-left.left c.loop-left.candidates) 0 ≡ slice_index c.loop-left.candidates 0 = get_or-take c.loop-left.left c.loop-left.candidates 0 0 (omega arith) in
    subst (IsCandidate c.args.tableau.now c.args.entering.column) first (c.loop-left.invariant.stands.candidates 0 0 c.loop-left.invariant.stands.some)

pub loop-left-preserved : goal.loop-left-preserved
loop-left-preserved g c =
    let m = Some (limit_of g.N.Exact.WIDTH) in
    let t = c.args.tableau.now in
    let e = t.columns + t.rows in
    let key = c.next_key-key.result in
    let left = take c.loop-left.left c.loop-left.candidates in
    let size = length-take-le c.loop-left.left c.loop-left.candidates c.loop-left.invariant.within in
    let within : c.next_key-key.result ≤ c.args.tableau.now.columns + c.args.tableau.now.rows = omega (arith, c.next_key-key.ensures.end, c.extra-end.ensures, c.shape-shape.ensures.rows, c.shape-shape.ensures.columns) in
    let stands = stands_past g.N.Exact.WIDTH g.met.N.Exact.width c.args.entering.stage t c.args.entering.column (range_with_len t.columns t.rows) c.args.candidates.now left c.loop-left.from key e (omega (arith, size)) c.next_key-key.ensures.from within c.next_key-key.ensures.zeros c.loop-left.invariant.stands in
    let before : c.next_key-key.result < c.args.tableau.now.columns + c.args.tableau.now.rows = omega (arith, c.next_key-key.ensures.end, c.extra-end.ensures, c.shape-shape.ensures.rows, c.shape-shape.ensures.columns) in
    let rest = drop c.loop-left.left c.loop-left.candidates in
    let front = take-append-le c.in-Ok.fewer c.refine_at.new.candidates rest (omega (arith, c.in-Ok.ensures.within, c.refine_at.auto.candidates)) in
    record {
      within = omega (arith, length-append c.refine_at.new.candidates rest, c.in-Ok.ensures.within, c.refine_at.auto.candidates);
      from = omega (arith, before);
      stands = stands_more m c.args.entering.stage t c.args.entering.column (range_with_len t.columns t.rows) c.args.candidates.now left (take c.in-Ok.fewer (c.refine_at.new.candidates ++ rest)) key e before (omega (arith, size)) (front ∙ c.in-Ok.ensures.rows) c.in-Ok.ensures.fits stands;
    }

use Rattle.std.proofs.Common.{◌≡◌, List, Err, None, Some, map, replicate, sym, ap, ◌∙◌, subst}
use Rattle.npp_frac.specs.Rational.{Rational, zero_ℚ}
use Rattle.npp_frac.specs.Fits.{limit_of}
use Rattle.npp_rows.specs.Response.{reply_stop}
use Rattle.npp_inverse.specs.Best.{AreWithinCaps}
use Rattle.npp_start.specs.Start.{no_tolls}
use Rattle.npp_start.proofs.StartLaws.{zero_capped}
use Rattle.npp_start.proofs.ZeroReply.{zero_reply_fits}
use Rattle.npp_start.proofs.start.without_tolls.Goals as goal

pub unreachable-requires : goal.unreachable-requires
unreachable-requires g c =
    let v = g.N.Exact.rational in
    let m = c.args.table.now in
    let zeros : map v c.deref.result.now ≡ no_tolls m = ap (map v) c.deref.ensures.value ∙ c.in_ok-tolls.ensures ∙ ap (λ n. replicate n zero_ℚ) c.tolls.ensures.count in
    let stops = c.in-Err-Overflow.ensures.overflow c.in-Err-Overflow.field-0-0 (ap Err c.in-Err-Overflow.field-0-is) in
    let fits = zero_reply_fits g.N.Exact.WIDTH g.met.N.Exact.width m c.tolls.ensures.limits in
    let clash : None ≡ Some c.in-Err-Overflow.field-0-0 = sym fits ∙ ap (reply_stop (limit_of g.N.Exact.WIDTH) m) (sym zeros) ∙ stops in
    cc

pub returns-in-Ok-clause-capped : goal.returns-in-Ok-clause-capped
returns-in-Ok-clause-capped g c =
    let v = g.N.Exact.rational in
    let m = c.args.table.now in
    let zeros : map v c.of.result ≡ no_tolls m = ap (map v) c.of.ensures ∙ c.in_ok-tolls.ensures ∙ ap (λ n. replicate n zero_ℚ) c.tolls.ensures.count in
    subst (λ (T : List Rational). AreWithinCaps m T) (sym zeros) (zero_capped m)

use Rattle.std.proofs.Common.{◌≡◌, take}
use Rattle.npp_frac.specs.Fits.{limit_of}
use Rattle.npp_lp.specs.Meaning.{terms_of}
use Rattle.npp_lp.specs.RunningSums.{sums_meant, with_terms}
use Rattle.npp_lp.proofs.running.RunningSums.add_row.Given as goal

-- the entries so far are taken
abbrev pub invariant-loop-entry : goal.invariant-loop-entry
invariant-loop-entry g l =
    sums_meant g.N.Exact.rational l.self ≡ with_terms (limit_of g.N.Exact.WIDTH) (sums_meant g.N.Exact.rational l.initial.self) (terms_of g.N.Exact.rational (take l.entry-index l.entries)) (g.N.Exact.rational l.multiplier)

use Rattle.std.proofs.Common.{◌≡◌, ◌++◌, take}
use Rattle.npp_frac.specs.Rational.{whole}
use Rattle.npp_lp.specs.Meaning.{terms_of}
use Rattle.npp_rows.specs.Named.{numbers_from}
use Rattle.npp_rows.proofs.entries.push_same.Given as goal

abbrev pub invariant-loop-i : goal.invariant-loop-i
invariant-loop-i g l = terms_of g.N.Exact.rational l.entries.items ≡ terms_of g.N.Exact.rational l.initial.entries.items ++ numbers_from l.base (λ x. whole l.fn.number) (take l.i l.block)

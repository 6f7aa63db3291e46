use Rattle.std.proofs.Common.{rules, sym, subst, ◌^◌, ◌∙◌, ◌≡◌, FitsSigned, to_z-of_z}
use Rattle.std.specs.Int.{w64}
use Rattle.npp_frac.specs.Fits.{FitsBelow}
use Rattle.npp_frac.specs.NarrowLaws.{fits_32}
use Rattle.npp_frac.specs.Narrow.{value_of_32}
use Rattle.npp_frac.specs.Rational.{same_fields}
use Rattle.npp_frac.proofs.frac32.Frac32.words.Goals as goal

pub returns-clause-value : goal.returns-clause-value
unfolding value_of_32
returns-clause-value c =
    let num : FitsSigned w64 c.from.result = search rules in
    let is : c.from.result ≡ c.args.self.num = search (rules, to_z-of_z) in
    let den : c.from-2.result ≡ c.args.self.den = search rules in
    same_fields _ _ (to_z-of_z num ∙ is) den

pub returns-clause-below : goal.returns-clause-below
returns-clause-below c = subst (FitsBelow (2 ^ 31)) (sym (returns-clause-value c)) (fits_32 c.args.self)

use Rattle.npp_frac.specs.FitsLaws.{fits_mul_yes, fits_mul_no}
use Rattle.npp_frac.proofs.Deciding.{is_some_by}
use Rattle.npp_frac.proofs.word_arithmetic.mul.Goals as goal

pub returns-clause-fits : goal.returns-clause-fits
returns-clause-fits c = is_some_by c.product.result _ c.product.ensures.fits (fits_mul_yes _ _ _) (fits_mul_no _ _ _)

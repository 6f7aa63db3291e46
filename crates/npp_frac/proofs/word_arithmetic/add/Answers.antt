use Rattle.npp_frac.specs.FitsLaws.{fits_add_yes, fits_add_no}
use Rattle.npp_frac.proofs.Deciding.{is_some_by}
use Rattle.npp_frac.proofs.word_arithmetic.add.Goals as goal

pub returns-clause-fits : goal.returns-clause-fits
returns-clause-fits c = is_some_by c.sum.result _ c.sum.ensures.fits (fits_add_yes _ _ _) (fits_add_no _ _ _)

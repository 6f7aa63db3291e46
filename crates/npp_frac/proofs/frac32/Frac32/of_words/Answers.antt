use Rattle.std.proofs.Common.{rules, ap, refl, ◌∙◌, FitsSigned, to_z, of_z, to_z-of_z, w32}
use Rattle.std.proofs.lemmas.Int.{fits_signed_from_abs}
use Rattle.std.specs.Int.{w64}
use Rattle.npp_frac.specs.Narrow.{value_of_32}
use Rattle.npp_frac.specs.Rational.{same_fields}
use Rattle.npp_frac.proofs.frac32.Frac32.of_words.Goals as goal

pub returns : goal.returns
unfolding value_of_32
returns c =
    let wide : FitsSigned w64 c.args.pair.num = search rules in
    let narrow : FitsSigned w32 c.args.pair.num = fits_signed_from_abs w32 _ c.requires.num in
    same_fields _ _ (ap (λ t. to_z w32 (of_z w32 t)) (to_z-of_z wide) ∙ to_z-of_z narrow) refl

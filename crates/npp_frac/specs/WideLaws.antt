-- Fractions of 128 bits keep their limit, and each value has one.
use Rattle.std.specs.Prelude.{◌≡◌, refl}
use Rattle.std.proofs.Common.{inr}
use Rattle.npp_frac.specs.Fits.{FitsBelow, IsWidth, limit_of}
use Rattle.npp_frac.specs.ValueLaws.{same_pair}
use Rattle.npp_frac.specs.Wide.{value_of_wide}
use Rattle.npp_frac.specs.declared.frac128.Frac128.{Frac128}

pub wide_width : IsWidth 128
wide_width = inr (inr refl)

pub wide_fits : (f : Frac128) → FitsBelow (limit_of 128) (value_of_wide f)
unfolding value_of_wide
wide_fits f = record { num = f.pair.num_below; den = f.pair.den_below }

pub wide_same : (f g : Frac128) → value_of_wide f ≡ value_of_wide g → f ≡ g
unfolding value_of_wide
wide_same f g e = λ i. record { pair = same_pair f.pair g.pair e i }

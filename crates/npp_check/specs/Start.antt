-- Why a check does not start, and why items are not accepted.
use Rattle.std.specs.Prelude.{◌≡◌, ℕ, List, Err}
use Rattle.npp_frac.specs.Rational.{Rational}
use Rattle.npp_net.specs.Network.{Network}
use Rattle.npp_bounds.specs.declared.refusal.BoundsRefusal.TheVariants as bounds
use Rattle.npp_bounds.specs.Spans.{IsBoundsRefusal}
use Rattle.npp_tree.specs.declared.item.Item.{Item}
use Rattle.npp_check.specs.declared.refusal.StartRefusal.{StartRefusal}
use Rattle.npp_check.specs.declared.refusal.StartRefusal.TheVariants as start
use Rattle.npp_check.specs.declared.refusal.CheckRefusal.{CheckRefusal}
use Rattle.npp_check.specs.declared.refusal.CheckRefusal.TheVariants as check
use Rattle.npp_check.specs.declared.refusal.CheckedRefusal.{CheckedRefusal}
use Rattle.npp_check.specs.declared.refusal.CheckedRefusal.TheVariants as checked
use Rattle.npp_check.specs.Measures.{Measures, AreMeasures}
use Rattle.npp_check.specs.Verdict.{verdict}
use Rattle.npp_check.specs.FirstBroken.{IsFirstBroken}

-- the first commodity without a toll-free walk, or want of memory
abbrev pub IsStartRefusal : Network → StartRefusal → Type 0
IsStartRefusal net (start.NoFreePath k) = IsBoundsRefusal net.arcs net.commodities (bounds.NoFreePath k)
IsStartRefusal net start.Memory = Unit {0}

-- the first broken line with its rule, as it and those above it decide; or want of memory
abbrev pub IsBrokenLine : ℕ → Network → List (Item Rational) → CheckRefusal → Type 0
IsBrokenLine limit net items (check.Broken line rule) =
    (f : Measures) × AreMeasures net f × (verdict limit net f items ≡ Err (check.Broken line rule)) × IsFirstBroken limit net f items line rule
IsBrokenLine limit net items check.Memory = Unit {0}

abbrev pub IsCheckedRefusal : ℕ → Network → List (Item Rational) → CheckedRefusal → Type 0
IsCheckedRefusal limit net items (checked.Start refusal) = IsStartRefusal net refusal
IsCheckedRefusal limit net items (checked.Check refusal) = IsBrokenLine limit net items refusal

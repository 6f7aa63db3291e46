-- What a path of the table asks, by its tolls as they are gone through.
use Rattle.std.proofs.Common.{◌≡◌, ℕ, ◌<◌, Bool, true, false, ◌&&◌, List, length, map, get_or, refl, sym, ap, ◌∙◌, subst, arith, pos, All}
use Rattle.std.proofs.lemmas.List.{length-map}
use Rattle.npp_frac.specs.Rational.{Rational, zero_ℚ, whole, ◌+ℚ◌}
use Rattle.npp_frac.specs.Sums.{sum_by}
use Rattle.npp_frac.specs.Fits.{fits_add}
use Rattle.npp_net.specs.TollSets.{tolls_of}
use Rattle.npp_cover.specs.declared.path.UsefulPath.{UsefulPath}
use Rattle.npp_cover.specs.Paths.{PathValue}
use Rattle.npp_cover.specs.PathValue.{path_value}
use Rattle.npp_cover.specs.Replaces.{path_at}
use Rattle.npp_lp.specs.Programs.{at}
use Rattle.npp_rows.specs.PathModel.{PathModel, cover_at, useful_path, path_tolls}
use Rattle.npp_rows.specs.Limits.{IsWithinLimits}
use Rattle.npp_rows.specs.Response.{additions_fit, path_fits, path_toll}
use Rattle.npp_rows.proofs.EntryLaws.{path_read}
use Rattle.npp_inverse.specs.Offers.{HasUsefulPaths, IsOffer}
use Rattle.npp_inverse.proofs.TollLaws.{listed_within}

-- a path as it is read from the table
pub read_path : (m : PathModel) (k q : ℕ) (ps : List UsefulPath) (r : UsefulPath) → map path_value ps ≡ (cover_at m k).paths → q < length ps → r ≡ get_or ps q r
    → useful_path m k q ≡ path_value r
read_path m k q ps r e l is = ap (λ (vs : List PathValue). path_at vs q) (sym e) ∙ path_read ps q r l ∙ ap path_value (sym is)

module _ (m : PathModel) (T : List Rational) (k q : ℕ) (r : UsefulPath) (limits : IsWithinLimits m) (useful : HasUsefulPaths m) (e : useful_path m k q ≡ path_value r) where
  pub tolls_inside : All (λ a. a < length m.caps) (tolls_of r.tolls)
  tolls_inside = subst (λ (v : PathValue). All (λ a. a < length m.caps) (tolls_of v.tolls)) e (useful.tolls k q)

  pub cost_small : r.cost < 1000000000
  cost_small = omega (arith, limits.cost k q, limits.free k, ap (λ (v : PathValue). v.cost) e)

  listed : tolls_of r.tolls ≡ path_tolls m k q
  listed = ap (λ (v : PathValue). tolls_of v.tolls) (sym e) ∙ listed_within (useful_path m k q).tolls (length m.caps) limits.tolls (useful.tolls k q)

  pub tolls_stop : (limit : ℕ) → false ≡ additions_fit limit zero_ℚ (map (at T) (tolls_of r.tolls)) → false ≡ path_fits limit m T k q
  tolls_stop limit f = rw (← listed, ← f) refl

  module _ (limit : ℕ) (cost toll : Rational) (fits : true ≡ additions_fit limit zero_ℚ (map (at T) (tolls_of r.tolls))) (costs : cost ≡ whole (pos r.cost)) (pays : toll ≡ sum_by (at T) (tolls_of r.tolls)) where
    cost_is : cost ≡ whole (pos (useful_path m k q).cost)
    cost_is = costs ∙ ap (λ (v : PathValue). whole (pos v.cost)) (sym e)

    toll_is : toll ≡ path_toll m T k q
    toll_is = pays ∙ ap (sum_by (at T)) listed

    pub price_fits : (b : Bool) → b ≡ fits_add limit cost toll → b ≡ path_fits limit m T k q
    price_fits b f =
        f ∙ ap (λ c. fits_add limit c toll) cost_is ∙ ap (fits_add limit (whole (pos (useful_path m k q).cost))) toll_is
        ∙ ap (λ t. t && fits_add limit (whole (pos (useful_path m k q).cost)) (path_toll m T k q)) (fits ∙ ap (λ (tolls : List ℕ). additions_fit limit zero_ℚ (map (at T) tolls)) listed)

    pub offered : (price : Rational) → price ≡ cost +ℚ toll → IsOffer m T k q toll price
    offered price p = record { pays = toll_is; asks = p ∙ ap (λ c. c +ℚ toll) cost_is ∙ ap (λ t. whole (pos (useful_path m k q).cost) +ℚ t) toll_is }

-- as many paths as their values
pub same_count : (paths : List UsefulPath) (values : List PathValue) → map path_value paths ≡ values → length paths ≡ length values
same_count paths values e = sym (length-map paths path_value) ∙ ap length e

-- A reply has a path and a payment for each commodity.
use Rattle.std.proofs.Common.{◌≡◌, ℕ, ◌<◌, length, sym, ap, ap₂, ◌∙◌, subst, arith}
use Rattle.std.specs.Prelude.{slice_index}
use Rattle.std.proofs.lemmas.List.FromFn.{get_or-map-range_with_len, length-map-range_with_len}
use Rattle.npp_frac.specs.Rational.{Rational, zero_ℚ}
use Rattle.npp_cover.specs.declared.path.UsefulPath.{UsefulPath}
use Rattle.npp_cover.specs.Paths.{PathValue}
use Rattle.npp_cover.specs.PathValue.{path_value}
use Rattle.npp_lp.specs.Programs.{at}
use Rattle.npp_rows.specs.PathModel.{PathModel, path_count, useful_path}
use Rattle.npp_rows.specs.Parts.{chosen}
use Rattle.npp_rows.specs.Response.{Reply, reply, path_price, path_toll, taken_path, taken_toll}
use Rattle.npp_inverse.specs.Offers.{HasUsefulPaths}
use Rattle.npp_inverse.proofs.OfferLaws.{first_best}
use Rattle.npp_tree.specs.declared.outcome.PathLine.{PathLine}
use Rattle.npp_start.specs.Walks.{IsReply, taken_line}

module _ (m : PathModel) (r : Reply) (is : IsReply m r) where
  pub paths_size : length r.paths ≡ length m.covers
  paths_size = ap (λ (x : Reply). length x.paths) is.same ∙ length-map-range_with_len (taken_path m is.tolls) 0 (length m.covers)

  pub paid_size : length r.paid ≡ length m.covers
  paid_size = ap (λ (x : Reply). length x.paid) is.same ∙ length-map-range_with_len (taken_toll m is.tolls) 0 (length m.covers)

  pub path_is : (k : ℕ) → k < length m.covers → slice_index r.paths k ≡ taken_path m is.tolls k
  path_is k l =
      ap (λ (x : Reply). slice_index x.paths k) is.same
      ∙ get_or-map-range_with_len (taken_path m is.tolls) 0 (length m.covers) k k 0 l (omega arith)

  pub paid_is : (k : ℕ) → k < length m.covers → at r.paid k ≡ taken_toll m is.tolls k
  paid_is k l =
      ap (λ (x : Reply). at x.paid k) is.same
      ∙ get_or-map-range_with_len (taken_toll m is.tolls) 0 (length m.covers) k k zero_ℚ l (omega arith)

  pub path_in_range : HasUsefulPaths m → (k : ℕ) → k < length m.covers → slice_index r.paths k < path_count m k
  path_in_range useful k l =
      let best = first_best (path_price m is.tolls k) (path_toll m is.tolls k) (path_count m k) (useful.some k l) in
      subst (λ (q : ℕ). q < path_count m k) (sym (path_is k l)) best.below

-- the line of a path and a payment that are those of a commodity in a reply
pub line_is : (m : PathModel) (r : Reply) (k : ℕ) (path : UsefulPath) (paid : Rational) → useful_path m k (chosen r.paths k) ≡ path_value path → at r.paid k ≡ paid
    → (let line : PathLine Rational = record { cost = path.cost; paid = paid; arcs = path.walk.arcs.items } in line ≡ taken_line m r k)
line_is m r k path paid taken pays =
    let Line : PathValue → Rational → PathLine Rational = λ p x. record { cost = p.cost; paid = x; arcs = p.arcs } in
    ap₂ Line (sym taken) (sym pays)

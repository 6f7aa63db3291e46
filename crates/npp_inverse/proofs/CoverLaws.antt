-- Closed covers have useful paths, which use only the tolls of the network.
use Rattle.std.proofs.Common.{◌≡◌, ℕ, ◌<◌, ◌≤◌, inl, inr, List, length, refl, sym, ap, ◌∙◌, subst, All}
use Rattle.std.specs.Prelude.{slice_index_or}
use Rattle.std.proofs.Math.ListN.{get_or-eq_default}
use Rattle.std.proofs.lemmas.Bool.{cases_lt}
use Rattle.std.proofs.lemmas.List.Elements.{All-nil}
use Rattle.std.proofs.lemmas.List.FromFn.{length-map-range_with_len}
use Rattle.npp_net.specs.Network.{Network, no_commodity, toll_count}
use Rattle.npp_net.specs.TollSets.{tolls_of}
use Rattle.npp_net.proofs.TollSetLaws.{tolls_of_none}
use Rattle.npp_net.proofs.TollRange.{list_in_range}
use Rattle.npp_cover.specs.Paths.{PathValue}
use Rattle.npp_cover.specs.Replaces.{CoverValue, path_at, no_path}
use Rattle.npp_cover.proofs.CoverLaws.{some_path}
use Rattle.npp_rows.specs.PathModel.{no_cover, path_count, useful_path}
use Rattle.npp_rows.specs.Caps.{path_model, toll_cap}
use Rattle.npp_rows.specs.Lowering.{AreClosedCovers, IsClosedCover}
use Rattle.npp_rows.specs.Promises.{IsModelOf}
use Rattle.npp_rows.proofs.ListLaws.{zip_at}
use Rattle.npp_inverse.specs.Offers.{HasUsefulPaths}

module _ (net : Network) (covers : List CoverValue) (closed : AreClosedCovers net covers) where
  cover_is : (k : ℕ) → k < length covers → IsClosedCover net.arcs (slice_index_or net.commodities k no_commodity) (slice_index_or covers k no_cover)
  cover_is k h = zip_at (IsClosedCover net.arcs) net.commodities covers no_commodity no_cover k closed h

  pub caps_size : length (path_model net covers).caps ≡ toll_count net.arcs
  caps_size = length-map-range_with_len (toll_cap net covers) 0 (toll_count net.arcs)

  none_used : (k q : ℕ) → useful_path (path_model net covers) k q ≡ no_path → All (λ a. a < toll_count net.arcs) (tolls_of (useful_path (path_model net covers) k q).tolls)
  none_used k q e =
      subst (λ (tolls : List ℕ). All (λ a. a < toll_count net.arcs) tolls) (sym (ap (λ (p : PathValue). tolls_of p.tolls) e ∙ tolls_of_none)) (All-nil (λ a. a < toll_count net.arcs))

  used_inside : (k q : ℕ) → All (λ a. a < toll_count net.arcs) (tolls_of (useful_path (path_model net covers) k q).tolls)
  used_inside k q = elim (cases_lt k (length covers)) [
    | inl h ↦ elim (cases_lt q (path_count (path_model net covers) k)) [
      | inl l ↦ (let p = (cover_is k h).2.each q no_path l in list_in_range net.arcs (useful_path (path_model net covers) k q).arcs (useful_path (path_model net covers) k q).tolls p.uses)
      | inr l ↦ none_used k q (get_or-eq_default (slice_index_or covers k no_cover).paths no_path l)
    ]
    | inr h ↦ none_used k q (past k q h)
  ]
    where
      past : (k q : ℕ) → length covers ≤ k → useful_path (path_model net covers) k q ≡ no_path
      past k q h = ap (λ (c : CoverValue). path_at c.paths q) (get_or-eq_default covers no_cover h)

  pub has_useful_paths : HasUsefulPaths (path_model net covers)
  has_useful_paths = record {
    some = λ k h. some_path net.arcs (slice_index_or net.commodities k no_commodity) (cover_is k h).0 (slice_index_or covers k no_cover) (cover_is k h).2;
    tolls = λ k q. rw caps_size (used_inside k q);
  }

  pub is_model : IsModelOf net (path_model net covers)
  is_model = record { covers = closed; same = refl }

-- All useful paths of closed covers are an allowed family.
use Rattle.std.specs.Prelude.{◌≡◌, ℕ, ◌<◌, List, [], length, slice_index_or}
use Rattle.std.proofs.Common.{arith}
use Rattle.std.proofs.lemmas.List.FromFn.{length-range_with_len, length-map-range_with_len, get_or-map-range_with_len}
use Rattle.npp_net.specs.Network.{Network, no_commodity}
use Rattle.npp_cover.specs.Replaces.{CoverValue}
use Rattle.npp_cover.proofs.CoverLaws.{some_path}
use Rattle.npp_rows.specs.PathModel.{PathModel, no_cover, paths, path_count}
use Rattle.npp_rows.specs.Caps.{path_model}
use Rattle.npp_rows.specs.Parts.{IsPart, IsAllowed, part_at, all_paths}
use Rattle.npp_rows.specs.Lowering.{IsClosedCover, AreClosedCovers}
use Rattle.npp_rows.proofs.ListLaws.{zip_at}
use Rattle.npp_rows.proofs.ValueLaws.{range_rises}
use Rattle.npp_rows.proofs.RelaxationLaws.{all_range}

-- where each commodity has a path
pub whole_allowed : (m : PathModel) → ((k : ℕ) → k < length m.covers → 0 < path_count m k) → IsAllowed m (all_paths m)
whole_allowed m some = record {
  size = length-map-range_with_len (paths m) 0 (length m.covers);
  each = λ k l.
      let u : k < length m.covers = rw (length-map-range_with_len (paths m) 0 (length m.covers)) at l in
      let part : part_at (all_paths m) k ≡ paths m k = get_or-map-range_with_len (paths m) 0 (length m.covers) k k [] u (omega arith) in
      let is : IsPart (path_count m k) (paths m k) = record {
        some = rw (length-range_with_len 0 (path_count m k)) (some k u);
        rising = range_rises 0 (path_count m k);
        in_range = all_range (λ p. p < path_count m k) (path_count m k) (λ k l. l);
      } in
      rw part is;
}

-- closed covers have paths
pub covers_allowed : (net : Network) (covers : List CoverValue) → AreClosedCovers net covers → IsAllowed (path_model net covers) (all_paths (path_model net covers))
covers_allowed net covers closed =
    whole_allowed (path_model net covers) (λ k u.
    let cover = zip_at (IsClosedCover net.arcs) net.commodities covers no_commodity no_cover k closed u in
    some_path net.arcs (slice_index_or net.commodities k no_commodity) cover.0 (slice_index_or covers k no_cover) cover.2)

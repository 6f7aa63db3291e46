use Rattle.std.proofs.Common.{◌≡◌, ◌++◌, ◌∷◌, [], List, ℕ, length, map, sym, ap, ◌∙◌, arith}
use Rattle.std.specs.List.{range_with_len}
use Rattle.std.proofs.lemmas.List.{length-map}
use Rattle.std.proofs.lemmas.List.FromFn.{map-range_with_len_more}
use Rattle.npp_cover.specs.PathValue.{path_value}
use Rattle.npp_rows.specs.PathModel.{paths}
use Rattle.npp_rows.proofs.table.PathTable.all_paths.Goals as goal

pub loop-k-preserved : goal.loop-k-preserved
loop-k-preserved c =
    let count : length c.paths.result.now ≡ length (map path_value c.paths.result.now) = sym (length-map c.paths.result.now path_value) in
    let part = c.of.ensures ∙ c.in_ok-part.ensures ∙ ap (range_with_len 0) (count ∙ ap length c.paths.ensures.paths) in
    rw (c.in_ok-push.ensures.items, map-range_with_len_more (paths c.args.self.now) 0 c.loop-k.k c.loop-k.k (omega arith), c.loop-k.invariant)
    (ap (λ (x : List ℕ). map (paths c.args.self.now) (range_with_len 0 c.loop-k.k) ++ x ∷ []) part)

pub returns : goal.returns
returns c =
    c.of-2.ensures ∙ c.loop-k.invariant ∙ ap (λ (n : ℕ). map (paths c.args.self.now) (range_with_len 0 n)) (omega (arith, c.commodities-k-end.ensures.count))

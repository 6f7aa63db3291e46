use Rattle.std.proofs.Common.{◌==◌, ◌<◌, ◌∙◌, ℕ, List, [], ◌∷◌, ◌++◌, filter, map, length, get_or, ap, arith}
use Rattle.std.specs.List.{list_any, range_with_len}
use Rattle.std.specs.Int.{bit_at}
use Rattle.std.proofs.lemmas.List.{get_or_read}
use Rattle.std.proofs.lemmas.List.FromFn.{map-range_with_len_more}
use Rattle.npp_cover.specs.PathValue.{path_value}
use Rattle.npp_cover.specs.Paths.{PathValue}
use Rattle.npp_cover.specs.Replaces.{path_at}
use Rattle.npp_rows.specs.Relax.{allowed_tolls}
use Rattle.npp_rows.proofs.index.used_tolls.Goals as goal

-- the first tolls that paths of a part use
abbrev tolls_on : ℕ → List ℕ → List PathValue → List ℕ
tolls_on n part paths = filter (λ a. list_any (λ p. bit_at (path_at paths p).tolls a == 1) part) (range_with_len 0 n)

pub loop-k-preserved : goal.loop-k-preserved
loop-k-preserved c =
    let parts = c.args.allowed.now.parts in
    let inside : c.loop-k.k < length c.entries-parts.result.now = omega (arith, ap length c.entries-parts.ensures, c.requires.size, c.commodities-k-end.ensures.count) in
    let part = c.entries-part.ensures ∙ get_or_read c.entries-parts.result.now c.loop-k.k c.index-parts-k.result inside c.index-parts-k.is [] ∙ ap (λ (l : List (List ℕ)). get_or l c.loop-k.k []) c.entries-parts.ensures in
    let on = c.of.ensures ∙ c.in_ok-tolls_on.ensures
    ∙ ap (λ n. tolls_on n c.entries-part.result.now (map path_value c.paths.result.now)) c.tolls-tolls.ensures.count
    ∙ ap (λ ps. tolls_on (length c.args.table.now.caps) ps (map path_value c.paths.result.now)) part
    ∙ ap (λ vs. tolls_on (length c.args.table.now.caps) (get_or parts c.loop-k.k []) vs) c.paths.ensures.paths in
    rw (c.in_ok-push.ensures.items, map-range_with_len_more (allowed_tolls c.args.table.now c.args.allowed.now.parts) 0 c.loop-k.k c.loop-k.k (omega arith), c.loop-k.invariant)
    (ap (λ x. map (allowed_tolls c.args.table.now parts) (range_with_len 0 c.loop-k.k) ++ x ∷ []) on)

-- What every cover says of its paths.
use Rattle.std.proofs.Common.{◌≡◌, inl, inr, ℕ, ◌+◌, ◌-◌, ◌<◌, ◌≤◌, List, [], ◌∷◌, length, ◌∙◌, ap, arith, map, zero, suc, get_or}
use Rattle.std.proofs.lemmas.Bool.{cases_lt}
use Rattle.std.proofs.lemmas.List.{length-append, length-map, get_or-map}
use Rattle.std.proofs.Math.ListN.{get_or-append}
use Rattle.std.proofs.Math.Seq.{get_or-append_seam}
use Rattle.npp_net.specs.declared.types.NetArc.{NetArc}
use Rattle.npp_net.specs.declared.types.Commodity.{Commodity}
use Rattle.npp_net.specs.declared.types.Span.{Span}
use Rattle.npp_net.specs.Distance.{IsSpan}
use Rattle.npp_cover.specs.declared.rank.Rank.{Rank}
use Rattle.npp_cover.specs.Paths.{PathValue, Precedes, no_rank, path_of, free_path}
use Rattle.npp_cover.specs.Replaces.{CoverValue, IsCoverOf, path_at, no_path}

no_less : (p q : Rank) → Precedes p q → p.cost ≤ q.cost
no_less p q (inl lt) = omega arith
no_less p q (inr e) = omega (arith, e.0)

module _ (arcs : List NetArc) (k : Commodity) (span : Span) (c : CoverValue) (is : IsCoverOf arcs k span c) where
  -- there is a path
  pub some_path : 0 < length c.paths
  some_path = omega (
    arith,
    ap (λ (ps : List PathValue). length ps) is.made.2.2,
    length-append (map (path_of c.labels) is.made.2.0) (free_path span.free is.made.0 ∷ []),
  )

  -- the last one is the toll-free walk
  pub last_path : path_at c.paths (length c.paths - 1) ≡ free_path span.free is.made.0
  last_path =
      let front : List PathValue = map (path_of c.labels) is.made.2.0 in
      let last : PathValue = free_path span.free is.made.0 in
      let place : length c.paths - 1 ≡ length front = omega (arith, ap (λ (ps : List PathValue). length ps) is.made.2.2, length-append front (last ∷ [])) in
      ap (λ (q : ℕ). path_at c.paths q) place ∙ (ap (λ (ps : List PathValue). path_at ps (length front)) is.made.2.2 ∙ get_or-append_seam front last [] no_path)

  -- no path costs more than that
  pub at_most_free : (q : ℕ) → q < length c.paths → (path_at c.paths q).cost ≤ span.free
  at_most_free q lt = elim (cases_lt (q + 1) (length c.paths)) [
    | inl before ↦ omega (arith, is.below q before)
    | inr last ↦
        let place : q ≡ length c.paths - 1 = omega arith in
        omega (arith, ap (λ (n : ℕ). (path_at c.paths n).cost) place, ap (λ (p : PathValue). p.cost) last_path)
  ]

  -- each one before is that of a rank
  path_of_rank : (q : ℕ) → q + 1 < length c.paths → (q < length is.made.2.0) × (path_at c.paths q ≡ path_of c.labels (get_or is.made.2.0 q no_rank))
  path_of_rank q lt =
      let front : List PathValue = map (path_of c.labels) is.made.2.0 in
      let last : PathValue = free_path span.free is.made.0 in
      let long = length-map is.made.2.0 (path_of c.labels) in
      let lt' : q < length is.made.2.0 = omega (arith, ap (λ (ps : List PathValue). length ps) is.made.2.2, length-append front (last ∷ []), long) in (
        lt',
        ap (λ (ps : List PathValue). path_at ps q) is.made.2.2
            ∙ (get_or-append front (last ∷ []) no_path q (omega (arith, long)) ∙ get_or-map (path_of c.labels) is.made.2.0 q no_rank no_path lt'),
      )

  -- the costs of the paths rise
  pub costs_rise : (q : ℕ) → q + 1 < length c.paths → (path_at c.paths q).cost ≤ (path_at c.paths (q + 1)).cost
  costs_rise q lt = elim (cases_lt (q + 1 + 1) (length c.paths)) [
    | inl before ↦
        let here = path_of_rank q lt in
        let next = path_of_rank (q + 1) before in
        omega (
          arith,
          ap (λ (p : PathValue). p.cost) here.1,
          ap (λ (p : PathValue). p.cost) next.1,
          no_less (get_or is.made.2.0 q no_rank) (get_or is.made.2.0 (q + 1) no_rank) (is.made.2.1.rising q next.0),
        )
    | inr last ↦
        let place : q + 1 ≡ length c.paths - 1 = omega arith in
        omega (arith, is.below q lt, ap (λ (n : ℕ). (path_at c.paths n).cost) place, ap (λ (p : PathValue). p.cost) last_path)
  ]

  first_cheapest : (q : ℕ) → q < length c.paths → (path_at c.paths 0).cost ≤ (path_at c.paths q).cost
  first_cheapest zero lt = omega arith
  first_cheapest (suc q) lt =
      let e : q + 1 ≡ suc q = omega arith in
      omega (arith, first_cheapest q (omega arith), costs_rise q (omega arith), ap (λ (n : ℕ). (path_at c.paths n).cost) e)

  -- the first path has the least cost of all walks
  pub first_is_least : IsSpan arcs k span → (path_at c.paths 0).cost ≡ span.zero
  first_is_least is_span =
      let least = is_span.zero_least.attained in
      let found = is.stand.no_worse least.0 least.1.path in
      omega (
        arith,
        is.least 0 no_path some_path,
        first_cheapest found.0 found.1,
        (is.each found.0 no_path found.1).costs,
        found.2.cost,
        least.2,
      )

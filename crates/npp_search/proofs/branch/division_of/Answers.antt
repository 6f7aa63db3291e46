use Rattle.std.proofs.Common.{map, Option, List, subst}
use Rattle.std.specs.Prelude.{IfSome, option_map, ℕ}
use Rattle.npp_search.specs.Rule.{IsByShares, division_by}
use Rattle.npp_search.specs.Scan.{AreSharesOf}
use Rattle.npp_search.proofs.BranchLaws.{by_shares_divides}
use Rattle.npp_search.proofs.branch.division_of.Goals as goal

pub returns-in-Some-clause-divides : goal.returns-in-Some-clause-divides
returns-in-Some-clause-divides g c =
    let v = g.N.Exact.rational in
    let parts = c.args.allowed.now.parts in
    let d = division_by c.by_shares.result.commodity c.by_shares.result.path in
    let are = subst (λ (o : Option (List (List g.row.N.Denot))). IfSome (option_map (map (map v)) o) (AreSharesOf parts)) c.in-Some.is c.requires.shares in
    let by_entries = subst (λ (ps : List (List ℕ)). IsByShares ps (map (map v) c.entries-in-Some.result.now) d) c.entries.ensures c.by_shares.ensures in
    let is = subst (λ (ss : List (List g.row.N.Denot)). IsByShares parts (map (map v) ss) d) c.entries-in-Some.ensures by_entries in
    by_shares_divides parts (map (map v) c.in-Some.shares) c.by_shares.result.commodity c.by_shares.result.path are c.requires.rising is

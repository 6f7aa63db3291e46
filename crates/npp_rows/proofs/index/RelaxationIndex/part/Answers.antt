use Rattle.std.proofs.Common.{◌<◌, ℕ, List, [], length, get_or, ap, subst, ◌∙◌, arith}
use Rattle.std.proofs.lemmas.List.{get_or_read}
use Rattle.npp_rows.specs.PathModel.{path_count}
use Rattle.npp_rows.specs.Parts.{IsPart}
use Rattle.npp_rows.specs.Family.{Family}
use Rattle.npp_rows.proofs.FamilyLaws.{part_short, path_count_within}
use Rattle.npp_rows.proofs.index.RelaxationIndex.part.Goals as goal

pub returns-clause-some : goal.returns-clause-some
returns-clause-some c =
    let k = c.args.k in
    let allowed = c.self.invariant.allowed in
    let inside : k < length c.self.inside.allowed.now.parts = omega (arith, allowed.size, c.requires, ap (λ (f : Family). length f.paths.covers) c.self.view_is) in
    let there : k < length c.entries.result.now = omega (arith, inside, ap length c.entries.ensures) in
    let part = c.entries-2.ensures ∙ get_or_read c.entries.result.now k c.index-entries-k.result there c.index-entries-k.is [] ∙ ap (λ (l : List (List ℕ)). get_or l k []) c.entries.ensures in
    subst (λ (f : Family). IsPart (path_count f.paths k) c.entries-2.result.now) c.self.view_is (rw part (allowed.each k inside))

pub returns-clause-few : goal.returns-clause-few
returns-clause-few c =
    let k = c.args.k in
    let m = c.self.inside.table.now in
    let allowed = c.self.invariant.allowed in
    let inside : k < length c.self.inside.allowed.now.parts = omega (arith, allowed.size, c.requires, ap (λ (f : Family). length f.paths.covers) c.self.view_is) in
    let there : k < length c.entries.result.now = omega (arith, inside, ap length c.entries.ensures) in
    let part = c.entries-2.ensures ∙ get_or_read c.entries.result.now k c.index-entries-k.result there c.index-entries-k.is [] ∙ ap (λ (l : List (List ℕ)). get_or l k []) c.entries.ensures in
    omega (arith, ap length part, part_short (path_count m k) _ (allowed.each k inside), path_count_within m k c.self.invariant.limits)

use Rattle.std.proofs.Common.{◌≡◌, ◌∙◌, ℕ, zero, suc, ◌+◌, ◌-◌, List, [], ◌∷◌, length, map, Option, Some, sym, refl, arith}
use Rattle.std.specs.List.{slice_get}
use Rattle.std.proofs.lemmas.Option.{slice_get_within}
use Rattle.npp_cover.specs.declared.path.UsefulPath.{UsefulPath}
use Rattle.npp_cover.specs.PathValue.{path_value}
use Rattle.npp_tree.specs.Lines.{last_arcs}
use Rattle.npp_writer.proofs.covers.last_arcs.Goals as goal

last_of : (paths : List UsefulPath) (n : ℕ) (path : UsefulPath) → length paths ≡ n + 1 → slice_get paths n ≡ Some path → path.walk.arcs.items ≡ last_arcs (map path_value paths)
last_of [] n path count is = cc
last_of (p ∷ []) zero path count is = let same : p ≡ path = cc in rw same refl
last_of (p ∷ []) (suc n) path count is = cc
last_of (p ∷ q ∷ paths) zero path count is = absurd (omega (arith, count))
last_of (p ∷ q ∷ paths) (suc n) path count is = last_of (q ∷ paths) n path (omega (arith, count)) is

pub returns-in-Some : goal.returns-in-Some
returns-in-Some c =
    let paths = c.args.paths.now in
    let found : slice_get paths (length paths - 1) ≡ Some c.in-Some.path.now = sym c.in-Some.ensures.value in
    let within = slice_get_within paths (length paths - 1) c.in-Some.path.now found in
    c.deref.ensures.value ∙ last_of paths (length paths - 1) c.in-Some.path.now (omega (arith, within)) found

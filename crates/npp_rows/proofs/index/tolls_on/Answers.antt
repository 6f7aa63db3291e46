use Rattle.std.proofs.Common.{◌==◌, ◌∙◌, map, ap, filter}
use Rattle.std.specs.Prelude.{nat_lt}
use Rattle.std.specs.List.{list_any}
use Rattle.std.specs.Int.{bit_at}
use Rattle.npp_cover.specs.PathValue.{path_value}
use Rattle.npp_cover.specs.Replaces.{path_at}
use Rattle.npp_rows.proofs.UnionLaws.{tolls_below}
use Rattle.npp_rows.proofs.index.tolls_on.Goals as goal

pub loop-toll-init : goal.loop-toll-init
loop-toll-init c =
    rw c.new-on.ensures.items
    (ap (filter (λ a. nat_lt a c.args.tolls)) (c.into_iter-toll-iterator.ensures.into_iter_gives ∙ c.tolls-toll-items.ensures)
    ∙ tolls_below c.tolls_of.result c.args.tolls (λ a. list_any (λ p. bit_at (path_at (map path_value c.args.paths.now) p).tolls a == 1) c.args.part.now) c.requires.tolls c.tolls_of.ensures)

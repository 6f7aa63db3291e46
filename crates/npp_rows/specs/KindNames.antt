-- The names of rows of one kind.
use Rattle.std.specs.Prelude.{ℕ}
use Rattle.npp_rows.specs.declared.names.RowName.{RowName}
use Rattle.npp_rows.specs.declared.names.RowName.TheVariants as row
use Rattle.npp_rows.specs.declared.row_names.Single.{Single}
use Rattle.npp_rows.specs.declared.row_names.Single.TheVariants as single
use Rattle.npp_rows.specs.declared.row_names.Pair.{Pair}
use Rattle.npp_rows.specs.declared.row_names.Pair.TheVariants as pair

-- of a toll, a commodity or a cut
abbrev pub single_name : Single → ℕ → RowName
single_name single.Caps i = row.Cap i
single_name single.Ones i = row.One i
single_name single.OneLows i = row.OneLow i
single_name single.Cuts i = row.Cut i

-- of a toll and a commodity
abbrev pub pair_name : Pair → ℕ → ℕ → RowName
pair_name pair.Belows a k = row.Below a k
pair_name pair.Uses a k = row.Use a k
pair_name pair.Links a k = row.Link a k

use Rattle.std.proofs.Common.{◌<◌, length, ap, arith}
use Rattle.std.proofs.lemmas.List.{length-map}
use Rattle.npp_inverse.proofs.AskLaws.{read_path}
use Rattle.npp_inverse.proofs.offer.useful_path.Goals as goal

pub bounds-paths-path : goal.bounds-paths-path
bounds-paths-path c =
    omega (arith, simp length-map at (ap length c.paths.ensures.paths), c.requires.path)

pub returns-clause-value : goal.returns-clause-value
returns-clause-value c =
    let inside : c.args.path < length c.paths.result.now = omega (arith, simp length-map at (ap length c.paths.ensures.paths), c.requires.path) in
    read_path c.args.table.now c.args.k c.args.path c.paths.result.now _ c.paths.ensures.paths inside c.index-paths-path.is

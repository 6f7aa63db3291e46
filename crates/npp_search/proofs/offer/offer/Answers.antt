use Rattle.std.proofs.Common.{sym, subst}
use Rattle.npp_inverse.specs.Offers.{HasUsefulPaths}
use Rattle.npp_inverse.proofs.CoverLaws.{has_useful_paths}
use Rattle.npp_rows.specs.PathModel.{PathModel}
use Rattle.npp_search.proofs.offer.offer.Goals as goal

pub reply_to-requires-clause-useful : goal.reply_to-requires-clause-useful
reply_to-requires-clause-useful g c =
    let setting = c.requires.setting in
    subst (λ (m : PathModel). HasUsefulPaths m) (sym setting.table) (has_useful_paths c.args.setting.now.instance.now c.args.setting.now.covers.now setting.covers)

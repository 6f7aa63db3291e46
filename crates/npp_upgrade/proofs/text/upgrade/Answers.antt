use Rattle.npp_check.specs.Verdict.{pair_value}
use Rattle.npp_upgrade.proofs.UpgradeLemmas.{is_upgrade}
use Rattle.npp_upgrade.proofs.text.upgrade.Goals as goal

pub returns-in-Ok-clause-upgraded : goal.returns-in-Ok-clause-upgraded
returns-in-Ok-clause-upgraded c =
    is_upgrade c.args.instance.now c.in-Ok.ensures.limits c.args.bytes.now c.in-Ok.text.items (pair_value c.in_ok-_pair._pair) c.in_ok-_pair.ensures.accepted c.in-Ok.ensures.text

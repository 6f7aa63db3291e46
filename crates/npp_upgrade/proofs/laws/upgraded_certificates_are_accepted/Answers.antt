use Rattle.npp_upgrade.proofs.UpgradedLemmas.{upgrades_accepted}
use Rattle.npp_upgrade.proofs.laws.upgraded_certificates_are_accepted.Goals as goal

pub returns : goal.returns
returns c = upgrades_accepted

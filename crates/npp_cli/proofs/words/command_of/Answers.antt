use Rattle.std.proofs.Common.{◌≡◌, Option, None, Some, MatchOption, sym, subst}
use Rattle.npp_words.specs.Given.{given_value, texts}
use Rattle.npp_cli.specs.declared.words.Command.{Command}
use Rattle.npp_cli.specs.Words.{Job, job_meant}
use Rattle.npp_cli.proofs.WordLemmas.{job_given}
use Rattle.npp_cli.proofs.words.command_of.Goals as goal

pub returns-in-Ok-clause-job : goal.returns-in-Ok-clause-job
returns-in-Ok-clause-job c =
    let same = job_given (texts c.args.words.now) (given_value c.in-Ok.given) c.in-Ok.ensures.given in
    let OfJob : Option Job → Type 0 = λ j. MatchOption c.command_in.result (j ≡ None) (λ (command : Command). j ≡ Some (job_meant command)) in
    subst OfJob (sym same) c.command_in.ensures.job

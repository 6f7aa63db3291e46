use Rattle.std.proofs.Common.{◌∙◌, ap, sym}
use Rattle.std.specs.Str.Parse.{ParsesBool}
use Rattle.clap.specs.Words.{found_of, one_text}
use Rattle.clap.proofs.WalkLemmas.{one_text-rows}
use Rattle.npp_words.specs.Given.{is_set}
use Rattle.npp_words.proofs.GetterLemmas.{reads_flag, flag_or_false}
use Rattle.npp_words.proofs.flag.Goals as goal

pub returns-in-Some : goal.returns-in-Some
returns-in-Some c =
    let read = reads_flag ParsesBool (one_text (found_of c.args.matches.now) c.args.id.now) c.get_one.result (λ t x g. g) c.get_one.ensures.none c.get_one.ensures.value in
    ap flag_or_false (sym c.in-Some.is) ∙ sym read ∙ ap is_set (one_text-rows (found_of c.args.matches.now) c.args.id.now)

pub returns-in-None : goal.returns-in-None
returns-in-None c =
    let read = reads_flag ParsesBool (one_text (found_of c.args.matches.now) c.args.id.now) c.get_one.result (λ t x g. g) c.get_one.ensures.none c.get_one.ensures.value in
    ap flag_or_false (sym c.in-None.is) ∙ sym read ∙ ap is_set (one_text-rows (found_of c.args.matches.now) c.args.id.now)

use Rattle.std.proofs.Common.{◌∙◌, ap, sym}
use Rattle.std.specs.Str.Parse.{ParsesUnsigned, ExplainsUnsignedError, HasUnsignedDigitsIfOk}
use Rattle.clap.specs.Words.{found_of, one_text}
use Rattle.clap.proofs.WalkLemmas.{one_text-rows}
use Rattle.npp_words.specs.Given.{number_or, unless_none}
use Rattle.npp_words.proofs.GetterLemmas.{reads_number}
use Rattle.npp_words.proofs.number.Goals as goal

pub returns-in-Some : goal.returns-in-Some
returns-in-Some c =
    let read = reads_number (λ bs r. ParsesUnsigned 32 10 bs r × ExplainsUnsignedError 10 bs r × HasUnsignedDigitsIfOk bs r) (one_text (found_of c.args.matches.now) c.args.id.now) c.get_one.result (λ t x g. g.0) c.get_one.ensures.none c.get_one.ensures.value in
    ap (unless_none c.args.otherwise) (sym c.in-Some.is ∙ sym read) ∙ ap (number_or c.args.otherwise) (one_text-rows (found_of c.args.matches.now) c.args.id.now)

pub returns-in-None : goal.returns-in-None
returns-in-None c =
    let read = reads_number (λ bs r. ParsesUnsigned 32 10 bs r × ExplainsUnsignedError 10 bs r × HasUnsignedDigitsIfOk bs r) (one_text (found_of c.args.matches.now) c.args.id.now) c.get_one.result (λ t x g. g.0) c.get_one.ensures.none c.get_one.ensures.value in
    ap (unless_none c.args.otherwise) (sym c.in-None.is ∙ sym read) ∙ ap (number_or c.args.otherwise) (one_text-rows (found_of c.args.matches.now) c.args.id.now)

use Rattle.std.proofs.Common.{rules, ◌∙◌, ◌≡◌, FitsSigned, to_z-of_z}
use Rattle.std.specs.Int.{w128}
use Rattle.npp_frac.specs.Rational.{same_fields}
use Rattle.npp_frac.proofs.reduced_words.ReducedWords.long.Goals as goal

pub returns : goal.returns
returns c =
    let num : FitsSigned w128 c.from.result = search rules in
    let is : c.from.result ≡ c.args.self.num = search (rules, to_z-of_z) in
    let den : c.from-2.result ≡ c.args.self.den = search rules in
    same_fields _ _ (to_z-of_z num ∙ is) den

use Rattle.std.proofs.Common.{◌≡◌, sym, ◌∙◌, ap, pos}
use Rattle.std.specs.Ordering.{is_eq}
use Rattle.npp_frac.specs.Rational.{whole, rational_cmp}
use Rattle.npp_frac.specs.Wide.{value_of_wide}
use Rattle.npp_toll_text.proofs.TextLemmas.{same_by_rank}
use Rattle.npp_toll_text.proofs.line.is_number.Goals as goal

pub returns : goal.returns
returns c =
    let same = same_by_rank (value_of_wide c.args.value) (whole (pos c.args.number)) in
    let is : c.is_eq.result ≡ is_eq (rational_cmp (value_of_wide c.args.value) (whole (pos c.args.number))) =
    c.is_eq.ensures ∙ ap is_eq (c.cmp.ensures ∙ ap (rational_cmp (value_of_wide c.args.value)) c.fraction_of.ensures) in
    (λ t. same.0 (sym is ∙ t), λ e. is ∙ same.1 e)

use Rattle.std.proofs.Common.{◌≡◌, true, false, map, sym, ap, ◌∙◌}
use Rattle.std.proofs.lemmas.Bool.{false_from_ne_true}
use Rattle.std.proofs.lemmas.List.{append-nil, map_push}
use Rattle.npp_frac.specs.Sign.{is_zero, is_zero_of, is_zero_yes}
use Rattle.npp_rows.specs.Meaning.{cut_term_value}
use Rattle.npp_rows.proofs.round.push_term.Goals as goal

pub returns-in_ok-push : goal.returns-in_ok-push
returns-in_ok-push g c =
    let other : is_zero (g.N.Exact.rational c.args.value) ≡ false = false_from_ne_true (is_zero (g.N.Exact.rational c.args.value)) (λ e. (let yes : c.is_zero.result ≡ true = c.is_zero.ensures.1 (is_zero_yes (g.N.Exact.rational c.args.value) e) in cc)) in
    rw other (ap (map (cut_term_value g.N.Exact.rational)) c.in_ok-push.ensures.items ∙ map_push (cut_term_value g.N.Exact.rational) c.args.terms.now.items _)

pub returns-else-not-is_zero : goal.returns-else-not-is_zero
returns-else-not-is_zero g c =
    let zero : is_zero (g.N.Exact.rational c.args.value) ≡ true = is_zero_of (g.N.Exact.rational c.args.value) (c.is_zero.ensures.0 c.if-not-is_zero.false) in
    rw zero (sym (append-nil (map (cut_term_value g.N.Exact.rational) c.args.terms.now.items)))

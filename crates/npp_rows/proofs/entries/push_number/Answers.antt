use Rattle.std.proofs.Common.{◌≡◌, ◌≢◌, pos, ◌++◌, ◌∷◌, [], sym, ap, ◌∙◌, arith, rules, FitsSigned, to_z-of_z, w64}
use Rattle.std.proofs.lemmas.Int.{ints}
use Rattle.std.proofs.lemmas.List.{map-append, append-nil}
use Rattle.npp_frac.specs.Rational.{whole}
use Rattle.npp_lp.specs.Meaning.{terms_of, term_of}
use Rattle.npp_rows.proofs.NumberLaws.{term_of_number, no_term_of_number}
use Rattle.npp_rows.proofs.entries.push_number.Goals as goal

pub returns-in_ok-push : goal.returns-in_ok-push
returns-in_ok-push g c =
    let fits : FitsSigned w64 c.args.number = search rules in
    let nonzero : c.args.number ≢ pos 0 = λ e. omega (arith, ints, e, c.if-number-ne0.true) in
    ap (terms_of g.N.Exact.rational) c.in_ok-push.ensures.items
    ∙ map-append (term_of g.N.Exact.rational) c.args.entries.now.items _
    ∙ ap (λ q. terms_of g.N.Exact.rational c.args.entries.now.items ++ record { column = c.args.column; value = q } ∷ []) (c.of_whole.ensures ∙ ap whole (to_z-of_z fits))
    ∙ ap (λ t. terms_of g.N.Exact.rational c.args.entries.now.items ++ t) (sym (term_of_number c.args.column c.args.number nonzero))

pub returns-else-number-ne0 : goal.returns-else-number-ne0
returns-else-number-ne0 g c =
    let zero : c.args.number ≡ pos 0 = omega (arith, ints, c.if-number-ne0.false) in
    sym (ap (λ t. terms_of g.N.Exact.rational c.args.entries.now.items ++ t) (no_term_of_number c.args.column c.args.number zero) ∙ append-nil _)

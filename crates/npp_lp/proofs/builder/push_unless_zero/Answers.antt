use Rattle.std.proofs.Common.{◌≡◌, ◌++◌, ◌∷◌, [], true, false, sym, ◌∙◌, ap, append-nil}
use Rattle.npp_lp.specs.BuildingLaws.{entry_at_zero, entry_at_other}
use Rattle.npp_lp.proofs.builder.push_unless_zero.Goals as goal

pub returns-then-is_zero-clause-ok : goal.returns-then-is_zero-clause-ok
returns-then-is_zero-clause-ok g c =
    sym (append-nil c.args.entries.now.items) ∙ ap (λ t. c.args.entries.now.items ++ t) (sym (entry_at_zero g.N.Exact.rational c.args.column c.args.value (c.is_zero.ensures.0 c.if-is_zero.true)))

pub returns-clause-ok : goal.returns-clause-ok
returns-clause-ok g c =
    c.push_reserved.ensures.items ∙ ap (λ t. t ++ record { column = c.args.column; value = c.args.value } ∷ []) c.in_ok-reserve.ensures.items ∙ ap (λ t. c.args.entries.now.items ++ t) (sym (entry_at_other g.N.Exact.rational c.args.column c.args.value (λ e. (let no : true ≡ false = sym (c.is_zero.ensures.1 e) ∙ c.if-is_zero.false in cc))))

use Rattle.std.proofs.Common.{inl, inr, arith, sym, ◌∙◌}
use Rattle.std.proofs.lemmas.Bool.{leb-true, leb-false, false_from_ne_true}
use Rattle.npp_frac.specs.Order.{<ℚ_of_Less, ≡_of_Equal, >ℚ_of_Greater}
use Rattle.npp_search.proofs.picker.BestBoundOrder.is_first.Goals as goal

pub returns-in-Less-clause-no : goal.returns-in-Less-clause-no
returns-in-Less-clause-no c = λ _. inl (<ℚ_of_Less _ _ (sym c.in-Less.is ∙ c.cmp.ensures))

pub returns-in-Equal-clause-yes : goal.returns-in-Equal-clause-yes
returns-in-Equal-clause-yes c = λ e. inr (sym (≡_of_Equal _ _ (sym c.in-Equal.is ∙ c.cmp.ensures)), leb-true _ _ e)

pub returns-in-Equal-clause-no : goal.returns-in-Equal-clause-no
returns-in-Equal-clause-no c = λ n.
    let less = leb-false c.args.node.now.number c.args.other.now.number (false_from_ne_true _ n) in
    inr (≡_of_Equal _ _ (sym c.in-Equal.is ∙ c.cmp.ensures), omega (arith, less))

pub returns-in-Greater-clause-yes : goal.returns-in-Greater-clause-yes
returns-in-Greater-clause-yes c = λ _. inl (>ℚ_of_Greater _ _ (sym c.in-Greater.is ∙ c.cmp.ensures))

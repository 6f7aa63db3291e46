use Rattle.std.proofs.Common.{◌∙◌, List, map, sym, ap}
use Rattle.npp_frac.specs.Rational.{Rational}
use Rattle.npp_rows.specs.declared.names.Multiplier.{Multiplier}
use Rattle.npp_rows.specs.Meaning.{multiplier_value}
use Rattle.npp_tree.specs.declared.item.Item.{Item}
use Rattle.npp_tree.specs.Items.{item_of}
use Rattle.npp_check.specs.Descents.{first_program}
use Rattle.npp_check.specs.Multipliers.{multiplier_line}
use Rattle.npp_check.proofs.RowLemmas.{no_such_row, not_behind, not_positive, follows}
use Rattle.npp_check.proofs.node_rows.multiplier_line.Goals as goal

pub returns-then-not-has_row : goal.returns-then-not-has_row
returns-then-not-has_row g c =
    let v = g.N.Exact.rational in
    let p = first_program v c.args.measured.now.net c.args.descent.now in
    let ys : List (Multiplier Rational) = map (multiplier_value v) c.args.above.now in
    sym (no_such_row p ys (multiplier_value v c.in-Mult.multiplier) (sym c.has_row.ensures ∙ c.if-not-has_row.true))
    ∙ ap (λ (x : Item g.row.N.Denot). multiplier_line p ys (item_of v x)) (sym c.in-Mult.is)

pub returns-then-not-is_behind : goal.returns-then-not-is_behind
returns-then-not-is_behind g c =
    let v = g.N.Exact.rational in
    let p = first_program v c.args.measured.now.net c.args.descent.now in
    let ys : List (Multiplier Rational) = map (multiplier_value v) c.args.above.now in
    sym (not_behind p ys (multiplier_value v c.in-Mult.multiplier) (sym c.has_row.ensures ∙ c.if-not-has_row.false) (sym c.is_behind.ensures ∙ c.if-not-is_behind.true))
    ∙ ap (λ (x : Item g.row.N.Denot). multiplier_line p ys (item_of v x)) (sym c.in-Mult.is)

pub returns-then-not-is_positive : goal.returns-then-not-is_positive
returns-then-not-is_positive g c =
    let v = g.N.Exact.rational in
    let p = first_program v c.args.measured.now.net c.args.descent.now in
    let ys : List (Multiplier Rational) = map (multiplier_value v) c.args.above.now in
    sym (not_positive p ys (multiplier_value v c.in-Mult.multiplier) (sym c.has_row.ensures ∙ c.if-not-has_row.false) (sym c.is_behind.ensures ∙ c.if-not-is_behind.false) (sym c.is_positive.ensures ∙ c.if-not-is_positive.true))
    ∙ ap (λ (x : Item g.row.N.Denot). multiplier_line p ys (item_of v x)) (sym c.in-Mult.is)

pub returns : goal.returns
returns g c =
    let v = g.N.Exact.rational in
    let p = first_program v c.args.measured.now.net c.args.descent.now in
    let ys : List (Multiplier Rational) = map (multiplier_value v) c.args.above.now in
    sym (follows p ys (multiplier_value v c.in-Mult.multiplier) (sym c.has_row.ensures ∙ c.if-not-has_row.false) (sym c.is_behind.ensures ∙ c.if-not-is_behind.false) (sym c.is_positive.ensures ∙ c.if-not-is_positive.false))
    ∙ ap (λ (x : Item g.row.N.Denot). multiplier_line p ys (item_of v x)) (sym c.in-Mult.is)

use Rattle.std.proofs.Common.{◌≡◌, ◌++◌, ◌∷◌, [], pos, ℕ, List, length, map, sym, ap, ap₂, ◌∙◌, arith}
use Rattle.std.specs.List.{range_with_len}
use Rattle.std.proofs.lemmas.List.{map-append}
use Rattle.std.proofs.lemmas.List.FromFn.{map-range_with_len_more}
use Rattle.npp_frac.specs.Rational.{Rational, whole}
use Rattle.npp_rows.specs.declared.names.ColumnName.TheVariants.{Toll}
use Rattle.npp_rows.specs.Inverse.{revenue_goal}
use Rattle.npp_rows.proofs.ListLaws.{map_twice}
use Rattle.npp_rows.proofs.choice.choice_goal.Goals as goal

pub loop-toll-preserved : goal.loop-toll-preserved
loop-toll-preserved g c =
    ap (map g.N.Exact.rational) c.in_ok-push.ensures.items
    ∙ map-append g.N.Exact.rational c.loop-toll.goal.items _
    ∙ ap₂ (λ (xs : List Rational) (q : Rational). xs ++ q ∷ []) c.loop-toll.invariant (c.whole_number.ensures ∙ ap (λ (n : ℕ). whole (pos n)) c.payers.ensures.value)
    ∙ sym (map-range_with_len_more (λ a. revenue_goal c.args.table.now c.args.choice.now (Toll a)) 0 c.loop-toll.toll c.loop-toll.toll (omega arith))

pub returns : goal.returns
returns g c =
    let all : c.loop-toll.toll ≡ length c.args.table.now.caps = omega (arith, c.tolls-toll-end.ensures.count) in
    c.loop-toll.invariant
    ∙ ap (λ (n : ℕ). map (λ a. revenue_goal c.args.table.now c.args.choice.now (Toll a)) (range_with_len 0 n)) all
    ∙ map_twice (revenue_goal c.args.table.now c.args.choice.now) Toll (range_with_len 0 (length c.args.table.now.caps))

use Rattle.std.proofs.Common.{◌≡◌, ◌<◌, length, get_or, sym, subst, ◌∙◌, refl, arith}
use Rattle.std.proofs.lemmas.List.{length-map}
use Rattle.npp_lp.specs.Meaning.{sum_result}
use Rattle.npp_lp.specs.RunningSums.{sums_meant, column_of}
use Rattle.npp_rows.specs.Spread.{Touched}
use Rattle.npp_rows.proofs.SpreadLaws.{few_below, spread_present}
use Rattle.npp_rows.proofs.touched_sums.TouchedSums.sum_at.Goals as goal

pub overflow_cast-place : goal.overflow_cast-place
overflow_cast-place g c =
    let inside = c.self.inside in
    let within : c.args.place < length inside.columns.items = subst (λ (t : Touched). c.args.place < length t.columns) (sym c.self.view_is) c.requires in
    omega (arith, few_below inside.count inside.columns.items c.self.invariant.rising c.self.invariant.inside, c.self.invariant.few, within)

pub returns : goal.returns
returns g c =
    let v = g.N.Exact.rational in
    let inside = c.self.inside in
    let within : c.args.place < length inside.columns.items = subst (λ (t : Touched). c.args.place < length t.columns) (sym c.self.view_is) c.requires in
    subst (λ (t : Touched). sum_result v c.column.result ≡ column_of t.all (get_or t.columns c.args.place 0)) c.self.view_is
    (c.column.ensures
    ∙ sym (spread_present inside.count inside.columns.items c.self.invariant.rising (sums_meant v inside.sums) c.args.place (get_or inside.columns.items c.args.place 0) (c.self.invariant.inside c.args.place 0 within)
    (length-map inside.sums.columns (sum_result v) ∙ c.self.invariant.size) within refl))

use Rattle.std.proofs.Common.{◌≡◌, ◌++◌, ℕ, List, length, map, get_or, take_all, inl, inr, refl, sym, ap, subst, ◌∙◌}
use Rattle.std.specs.List.{flat_map}
use Rattle.std.proofs.lemmas.List.{get_or_default}
use Rattle.npp_lp.specs.Meaning.{sum_result}
use Rattle.npp_lp.specs.Verdict.{first_below}
use Rattle.npp_lp.specs.RunningSums.{column_of}
use Rattle.npp_rows.specs.Meaning.{cut_fault_value, cut_term_value}
use Rattle.npp_rows.specs.Relax.{relaxation_columns}
use Rattle.npp_rows.specs.Derivations.{column_at, rounded, share_term}
use Rattle.npp_rows.specs.Rounding.{share_fault, share_fault_at, sum_or_zero, term_in, HoldSums}
use Rattle.npp_rows.proofs.FaultLaws.{found_or_memory}
use Rattle.npp_rows.proofs.TouchedLaws.{shares_left, left_next, left_found, left_none, terms_next, terms_gathered}
use Rattle.npp_rows.proofs.index.RelaxationIndex.rounded_terms.Goals as goal

pub loop-i-init : goal.loop-i-init
loop-i-init g c =
    let names = relaxation_columns c.args.self.now.paths c.args.self.now.parts in
    let all = c.args.sums.now.all in
    let columns = c.columns-columns.result.now in
    (shares_left names (length names) all columns (subst (λ (n : ℕ). HoldSums n all columns) c.requires.size c.columns-columns.ensures.hold), rw c.new-terms.ensures.items refl)

pub push_rounded-requires : goal.push_rounded-requires
push_rounded-requires g c =
    let all = c.args.sums.now.all in
    let columns = c.columns-columns.result.now in
    let hold = subst (λ (n : ℕ). HoldSums n all columns) c.requires.size c.columns-columns.ensures.hold in
    hold.inside c.loop-i.i 0 c.loop-i-test.true

pub loop-i-preserved : goal.loop-i-preserved
loop-i-preserved g c =
    let names = relaxation_columns c.args.self.now.paths c.args.self.now.parts in
    let all = c.args.sums.now.all in
    let columns = c.columns-columns.result.now in
    let j : ℕ = get_or columns c.loop-i.i 0 in
    let terms = map (cut_term_value g.N.Exact.rational) c.loop-i.terms.items in
    let sum : sum_result g.N.Exact.rational c.sum_at.result ≡ column_of all j = c.sum_at.ensures ∙ ap (λ (xs : List ℕ). column_of all (get_or xs c.loop-i.i 0)) (sym c.columns-columns.ensures.columns) in (
      left_next (share_fault_at names all) (length names) columns c.loop-i.i j c.loop-i-test.true (get_or_default columns c.loop-i.i 0 j c.loop-i-test.true)
          (ap (share_fault (column_at names j)) (sym sum) ∙ c.in_ok-push_rounded.ensures.0) c.loop-i.invariant.0,
      terms_next names all columns c.loop-i.i j c.loop-i-test.true (get_or_default columns c.loop-i.i 0 j c.loop-i-test.true) _ _ c.loop-i.invariant.1
          (c.in_ok-push_rounded.ensures.1 ∙ ap (λ r. terms ++ share_term (column_at names j) (rounded (sum_or_zero r))) sum),
    )

pub returns-in_err-push_rounded : goal.returns-in_err-push_rounded
returns-in_err-push_rounded g c =
    let names = relaxation_columns c.args.self.now.paths c.args.self.now.parts in
    let all = c.args.sums.now.all in
    let columns = c.columns-columns.result.now in
    let j : ℕ = get_or columns c.loop-i.i 0 in
    let hold = subst (λ (n : ℕ). HoldSums n all columns) c.requires.size c.columns-columns.ensures.hold in
    let sum : sum_result g.N.Exact.rational c.sum_at.result ≡ column_of all j = c.sum_at.ensures ∙ ap (λ (xs : List ℕ). column_of all (get_or xs c.loop-i.i 0)) (sym c.columns-columns.ensures.columns) in
    found_or_memory g.N.Exact.rational c.from_residual.result c.in_err-push_rounded.field-0.0 _ (first_below (length names) (share_fault_at names all)) c.from_residual.ensures.1
    (elim c.in_err-push_rounded.ensures [
      | inl e ↦ inl e
      | inr e ↦ inr (left_found (share_fault_at names all) (length names) columns c.loop-i.i j (cut_fault_value g.N.Exact.rational c.in_err-push_rounded.field-0.0) hold.rising c.loop-i-test.true (get_or_default columns c.loop-i.i 0 j c.loop-i-test.true)
          (hold.inside c.loop-i.i 0 c.loop-i-test.true) c.loop-i.invariant.0 (ap (share_fault (column_at names j)) (sym sum) ∙ e))
    ])

pub returns : goal.returns
returns g c =
    let names = relaxation_columns c.args.self.now.paths c.args.self.now.parts in
    let all = c.args.sums.now.all in
    let columns = c.columns-columns.result.now in (
      left_none (share_fault_at names all) (length names) columns c.loop-i.i c.loop-i-test.false c.loop-i.invariant.0,
      c.loop-i.invariant.1 ∙ ap (flat_map (term_in names all)) (take_all c.loop-i.i columns c.loop-i-test.false)
          ∙ terms_gathered names all columns (subst (λ (n : ℕ). HoldSums n all columns) c.requires.size c.columns-columns.ensures.hold),
    )

use Rattle.std.proofs.Common.{◌<◌, ◌≤◌, length, sym, ap, ◌∙◌, arith, inl, inr}
use Rattle.std.proofs.lemmas.Bool.{cases_lt, lt-ltb, le-ltb, lt-leb}
use Rattle.npp_rows.specs.PathModel.{PathModel}
use Rattle.npp_rows.specs.Rows.{shares_from}
use Rattle.npp_rows.proofs.ShareLaws.{no_share_before, share_between, no_share_behind}
use Rattle.npp_rows.proofs.index.RelaxationIndex.is_share.Goals as goal

pub returns-then-tolls-column-clause-value : goal.returns-then-tolls-column-clause-value
returns-then-tolls-column-clause-value c =
    let m = c.args.self.now.paths in
    let parts = c.args.self.now.parts in
    let same = c.table-table.ensures.same in
    let low : c.tolls.result ≤ c.args.column = c.if-tolls-column.true in
    let tolls = c.tolls.ensures.count ∙ ap (λ (m : PathModel). length m.caps) same in
    let covers = c.commodities.ensures.count ∙ ap (λ (m : PathModel). length m.covers) same in
    let end = c.first_share.ensures.value ∙ ap (shares_from m parts) covers in
    elim (cases_lt c.args.column c.first_share.result) [
      | inl lt ↦ lt-ltb c.args.column c.first_share.result lt ∙ sym (share_between m parts c.args.column (omega (arith, low, tolls)) (omega (arith, lt, end)))
      | inr ge ↦ le-ltb c.args.column c.first_share.result ge ∙ sym (no_share_behind m parts c.args.column (omega (arith, ge, end)) c.requires)
    ]

pub returns-else-tolls-column-clause-value : goal.returns-else-tolls-column-clause-value
returns-else-tolls-column-clause-value c =
    let before : c.args.column < c.tolls.result = c.if-tolls-column.false in
    let tolls = c.tolls.ensures.count ∙ ap (λ (m : PathModel). length m.caps) c.table-table.ensures.same in
    lt-leb c.tolls.result c.args.column before ∙ sym (no_share_before c.args.self.now.paths c.args.self.now.parts c.args.column (omega (arith, before, tolls)))

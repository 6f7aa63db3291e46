use Rattle.std.proofs.Common.{◌≡◌, ℕ, true, false, sym, ◌∙◌, ap, is_some}
use Rattle.npp_reader.proofs.NameLemmas.{any_texts, position_place}
use Rattle.npp_reader.proofs.names.Names.find.Goals as goal

pub returns-in_err-index : goal.returns-in_err-index
returns-in_err-index c =
    let none : is_some c.get_index_of.result ≡ false = rw c.in_err-index.was in
    rw (c.from_residual.ensures, ← c.self.view_is) (sym (any_texts c.args.name.now c.self.inside.index.keys) ∙ (sym c.get_index_of.ensures.found ∙ none))

pub returns : goal.returns
returns c =
    let found : is_some c.get_index_of.result ≡ true = rw c.in_ok-index.was in
    let place = position_place c.args.name.now c.self.inside.index.keys c.in_ok-index.index (sym c.get_index_of.ensures.index ∙ c.in_ok-index.was) in
    rw (← c.self.view_is)
    (sym (any_texts c.args.name.now c.self.inside.index.keys) ∙ (sym c.get_index_of.ensures.found ∙ found), ap (λ (n : ℕ). record { 0 = n }) place)

use Rattle.std.proofs.Common.{rules, ◌≡◌, List, ℕ, Some}
use Rattle.std.proofs.lemmas.Result.{IfOk-weaker}
use Rattle.npp_frac.specs.Wide.{value_of_wide}
use Rattle.npp_tree.specs.Items.{item_of}
use Rattle.npp_cert_text.specs.Taking.{by_word, form_of, first_of}
use Rattle.npp_cert_text.specs.Reading.{line_forms}
use Rattle.npp_cert_text.proofs.FieldLemmas.{word_first, reads_as}
use Rattle.npp_cert_text.proofs.reading.item.Goals as goal

pub returns-in-Some : goal.returns-in-Some
returns-in-Some c =
    let first : first_of (λ (f : List ℕ). Some f) c.args.fields.now ≡ Some (c.in-Some.word.now, c.field.new.self) = search rules in
    let e = word_first line_forms c.args.fields.now c.in-Some.word.now c.field.new.self first in
    IfOk-weaker c.head.result _ _ (λ found h. reads_as (item_of value_of_wide) (by_word line_forms) (form_of line_forms c.in-Some.word.now) c.args.fields.now c.field.new.self found c.head.new.fields e h) c.head.ensures

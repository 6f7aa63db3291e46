use Rattle.std.proofs.Common.{◌≡◌, ◌∙◌, ◌++◌, ◌∷◌, ap, sym, string_bytes, append_assoc, List, ℕ}
use Rattle.std.specs.Fmt.{decimal}
use Rattle.std.proofs.lemmas.Grind.{flat_map-append}
use Rattle.std.proofs.lemmas.Result.{on_ok_weaker}
use Rattle.npp_report.specs.Lines.{number_fields}
use Rattle.npp_cert_text.proofs.written.write_list.Goals as goal

-- a word, numbers, and more numbers
more_numbers : (old word : List ℕ) (ns ms mid new : List ℕ) → mid ≡ old ++ (word ++ number_fields ns) → new ≡ mid ++ number_fields ms → new ≡ old ++ (word ++ number_fields (ns ++ ms))
more_numbers old word ns ms mid new a b =
    b ∙ ap (λ t. t ++ number_fields ms) a ∙ append_assoc old (word ++ number_fields ns) (number_fields ms)
    ∙ ap (λ t. old ++ t) (append_assoc word (number_fields ns) (number_fields ms) ∙ ap (λ t. word ++ t) (sym (flat_map-append (λ n. 32 ∷ decimal n) ns ms)))

pub returns : goal.returns
returns c =
    on_ok_weaker c.write_fields.result
    (λ h. more_numbers (string_bytes c.args.text.now) c.args.word.now c.args.numbers.now c.args.list.now (string_bytes c.write_numbers.new.text) (string_bytes c.write_fields.new.text)
    c.in_ok-write_numbers.ensures h)
    c.write_fields.ensures

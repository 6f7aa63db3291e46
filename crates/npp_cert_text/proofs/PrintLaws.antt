-- A text that has grown by the text of a line.
use Rattle.std.proofs.Common.{◌≡◌, ◌∙◌, ap, List, ℕ, [], ◌∷◌, ◌++◌, append-nil, append_assoc}
use Rattle.std.specs.Fmt.{decimal}
use Rattle.npp_report.specs.Lines.{line, number_fields}

-- with a line feed behind it, it has grown by the line
pub lined : (old grown new : List ℕ) → new ≡ old ++ grown → line new ≡ old ++ line grown
lined old grown new e = ap line e ∙ append_assoc old grown (10 ∷ [])

-- the same of a word and one number
pub lined_number : (old word : List ℕ) (n : ℕ) (new : List ℕ) → new ≡ old ++ (word ++ number_fields (n ∷ [])) → line new ≡ old ++ line (word ++ 32 ∷ decimal n)
lined_number old word n new e = lined old (word ++ number_fields (n ∷ [])) new e ∙ ap (λ t. old ++ line (word ++ 32 ∷ t)) (append-nil (decimal n))

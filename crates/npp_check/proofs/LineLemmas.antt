-- What one line does to what is read behind it.
use Rattle.std.specs.Prelude.{◌≡◌, ℕ, ◌+◌, ◌-◌, List, ◌∷◌, Result, Ok, Err, refl}
use Rattle.std.proofs.Common.{arith, ap, ◌∙◌}
use Rattle.npp_frac.specs.Rational.{Rational}
use Rattle.npp_tree.specs.declared.item.Item.{Item}
use Rattle.npp_check.specs.declared.refusal.Rule.{Rule}
use Rattle.npp_check.specs.declared.refusal.CheckRefusal.{CheckRefusal}
use Rattle.npp_check.specs.declared.refusal.CheckRefusal.TheVariants.{Broken}
use Rattle.npp_check.specs.Verdict.{PairValue, Verdict, whole}
use Rattle.npp_check.specs.Reads.{Reads, Lines, at_line, read_behind, line, last_line, ◌>>=◌}
use Rattle.npp_check.proofs.StageLemmas.{bind_assoc}

module _ {X : Type 0} (judge : Item Rational → Result X Rule) (next : X → Reads PairValue) (i : Item Rational) where
  pub line_goes : (x : X) → judge i ≡ Ok x → (number : ℕ) (items : List (Item Rational))
      → (line judge >>= next) (record { number = number; items = i ∷ items }) ≡ next x (record { number = number + 1; items = items })
  line_goes x e number items = ap (λ r. read_behind (at_line number r (record { number = number + 1; items = items })) next) e

  pub line_breaks : (broken : Rule) → judge i ≡ Err broken → (number : ℕ) (items : List (Item Rational))
      → whole ((line judge >>= next) (record { number = number; items = i ∷ items })) ≡ Err (Broken number broken)
  line_breaks broken e number items = ap (λ r. whole (read_behind (at_line number r (record { number = number + 1; items = items })) next)) e

-- reading in four parts, grouped from the right
pub bind_four : {X Y Z W : Type 0} (v : Result (X × Lines) CheckRefusal) (f : X → Reads Y) (g : Y → Reads Z) (h : Z → Reads W)
    → read_behind (read_behind (read_behind v f) g) h ≡ read_behind v (λ x. f x >>= λ y. g y >>= h)
bind_four (Ok read) f g h = bind_assoc (f read.0 read.1) g h
bind_four (Err refusal) f g h = refl

abbrev refused_at : ℕ → Rule → Verdict
refused_at number rule = Err (Broken number rule)

-- the line that was read last, judged once more
module _ {X : Type 0} (judged : Result X Rule) (next : X → Reads PairValue) where
  pub last_goes : (x : X) → judged ≡ Ok x → (number : ℕ) (items : List (Item Rational))
      → (last_line judged >>= next) (record { number = number + 1; items = items }) ≡ next x (record { number = number + 1; items = items })
  last_goes x e number items = ap (λ r. read_behind (at_line (number + 1 - 1) r (record { number = number + 1; items = items })) next) e

  pub last_breaks : (rule : Rule) → judged ≡ Err rule → (number : ℕ) (items : List (Item Rational))
      → whole ((last_line judged >>= next) (record { number = number + 1; items = items })) ≡ Err (Broken number rule)
  last_breaks rule e number items =
      let same : number + 1 - 1 ≡ number = omega arith in
      ap (λ r. whole (read_behind (at_line (number + 1 - 1) r (record { number = number + 1; items = items })) next)) e
      ∙ ap (λ (n : ℕ). refused_at n rule) same

use Rattle.std.proofs.Common.{◌≡◌, ℕ, List, ◌++◌, [], ◌∷◌, ◌∙◌, ap, subst, sym}
use Rattle.npp_cover.specs.declared.label.Label.{Label}
use Rattle.npp_cover.specs.Dominance.{nodes_of, AnswersFor}
use Rattle.npp_labels.specs.Lists.{Lists}
use Rattle.npp_labels.proofs.family.Family.with.Goals as goal

pub invariant_of-result : goal.invariant_of-result
invariant_of-result c =
    subst (λ (labels : List Label). AnswersFor labels c.in_ok-with.field-0) (sym c.in_ok-push.ensures.items)
    (c.in_ok-with.ensures.answers c.self.inside.labels.items c.self.invariant)

same_lists : (m n : ℕ) (xs ys : List Label) → m ≡ n → xs ≡ ys → (let l : Lists = record { nodes = m; labels = xs } in l) ≡ record { nodes = n; labels = ys }
same_lists m n xs ys e f = λ i. record { nodes = e i; labels = f i }

pub returns : goal.returns
returns c =
    same_lists (nodes_of c.in_ok-with.field-0) c.args.self.nodes c.push.new.self.items (c.args.self.labels ++ c.args.label ∷ [])
    (c.in_ok-with.ensures.nodes ∙ ap (λ (x : Lists). x.nodes) c.self.view_is)
    (c.in_ok-push.ensures.items ∙ ap (λ (x : Lists). x.labels ++ c.args.label ∷ []) c.self.view_is)

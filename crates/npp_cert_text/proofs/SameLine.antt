-- The fields of an item with a space between each two are the line of the item.
use Rattle.std.proofs.Common.{◌≡◌, ◌∙◌, ap, sym, refl, ℕ, List, [], ◌∷◌, ◌++◌, map, codes, append-nil, append_assoc, Some, None}
use Rattle.std.specs.Fmt.{decimal}
use Rattle.std.specs.List.{join_with_byte}
use Rattle.npp_frac.specs.FractionText.{fraction_text}
use Rattle.npp_frac.specs.Rational.{Rational}
use Rattle.npp_net.specs.declared.types.ArcId.{ArcId}
use Rattle.npp_rows.specs.declared.mark.Step.TheVariants as step
use Rattle.npp_rows.specs.declared.mark.Mark.TheVariants as mark
use Rattle.npp_rows.specs.declared.names.RowName.{RowName}
use Rattle.npp_rows.specs.declared.names.RowName.TheVariants as row
use Rattle.npp_tree.specs.declared.outcome.Status.TheVariants as status
use Rattle.npp_tree.specs.declared.item.Item.{Item}
use Rattle.npp_tree.specs.declared.item.Item.TheVariants as item
use Rattle.npp_report.specs.Lines.{line, item_line, number_fields, arc_fields, row_fields as row_text}
use Rattle.npp_cert_text.proofs.FieldText.{fraction, field_text}
use Rattle.npp_cert_text.proofs.LineFields.{row_fields, numbers, arcs, line_of}

-- numbers behind other fields
numbers_joined : (front : List ℕ) (ns : List ℕ) → join_with_byte 32 (front ∷ map field_text (numbers ns)) ≡ front ++ number_fields ns
numbers_joined front [] = sym (append-nil front)
numbers_joined front (n ∷ ns) = ap (λ t. front ++ 32 ∷ t) (numbers_joined (decimal n) ns)

arcs_joined : (front : List ℕ) (walk : List ArcId) → join_with_byte 32 (front ∷ map field_text (arcs walk)) ≡ front ++ arc_fields walk
arcs_joined front [] = sym (append-nil front)
arcs_joined front (a ∷ walk) = ap (λ t. front ++ 32 ∷ t) (arcs_joined (decimal a.0) walk)

-- one number, or two, before something else
one_before : (a rest : List ℕ) → a ++ rest ≡ (a ++ []) ++ rest
one_before a rest = ap (λ t. t ++ rest) (sym (append-nil a))

two_before : (a b rest : List ℕ) → a ++ 32 ∷ (b ++ rest) ≡ (a ++ 32 ∷ (b ++ [])) ++ rest
two_before a b rest = ap (λ t. a ++ 32 ∷ t) (one_before b rest) ∙ sym (append_assoc a (32 ∷ (b ++ [])) rest)

row_joined : (r : RowName) (q : Rational) → join_with_byte 32 (codes "y" ∷ map field_text (row_fields r ++ fraction q ∷ [])) ≡ codes "y " ++ row_text r ++ 32 ∷ fraction_text q
row_joined (row.Cap a) q = ap (λ t. codes "y cap " ++ t) (one_before (decimal a) (32 ∷ fraction_text q))
row_joined (row.Follow k p) q = ap (λ t. codes "y follow " ++ t) (two_before (decimal k) (decimal p) (32 ∷ fraction_text q))
row_joined (row.Below a k) q = ap (λ t. codes "y below " ++ t) (two_before (decimal a) (decimal k) (32 ∷ fraction_text q))
row_joined (row.Use a k) q = ap (λ t. codes "y use " ++ t) (two_before (decimal a) (decimal k) (32 ∷ fraction_text q))
row_joined (row.Link a k) q = ap (λ t. codes "y link " ++ t) (two_before (decimal a) (decimal k) (32 ∷ fraction_text q))
row_joined (row.One k) q = ap (λ t. codes "y one " ++ t) (one_before (decimal k) (32 ∷ fraction_text q))
row_joined (row.OneLow k) q = ap (λ t. codes "y onelow " ++ t) (one_before (decimal k) (32 ∷ fraction_text q))
row_joined (row.Cut n) q = ap (λ t. codes "y cut " ++ t) (one_before (decimal n) (32 ∷ fraction_text q))

-- a word with numbers behind it
worded : (word : List ℕ) (ns : List ℕ) → line (join_with_byte 32 (word ∷ map field_text (numbers ns))) ≡ line (word ++ number_fields ns)
worded word ns = ap line (numbers_joined word ns)

placed : (pivot i j : ℕ) (word : List ℕ)
    → line (codes "basic overflow " ++ (decimal pivot ++ (32 ∷ join_with_byte 32 (word ∷ map field_text (numbers (i ∷ j ∷ []))))))
    ≡ line (codes "basic overflow " ++ ((decimal pivot ++ (32 ∷ word)) ++ number_fields (i ∷ j ∷ [])))
placed pivot i j word =
    let behind = ap (λ t. decimal pivot ++ (32 ∷ t)) (numbers_joined word (i ∷ j ∷ [])) in
    ap (λ t. line (codes "basic overflow " ++ t)) (behind ∙ sym (append_assoc (decimal pivot) (32 ∷ word) (number_fields (i ∷ j ∷ []))))

-- the fields of a walk, in both ways to put them together
in_a_row : (a b c rest : List ℕ) → a ++ (32 ∷ (b ++ (32 ∷ (c ++ rest)))) ≡ ((a ++ (32 ∷ b)) ++ (32 ∷ c)) ++ rest
in_a_row a b c rest = sym (append_assoc (a ++ (32 ∷ b)) (32 ∷ c) rest ∙ append_assoc a (32 ∷ b) ((32 ∷ c) ++ rest))

walked : (k cost : ℕ) (paid : List ℕ) (walk : List ArcId)
    → line (codes "path " ++ (decimal k ++ (32 ∷ (decimal cost ++ (32 ∷ join_with_byte 32 (paid ∷ map field_text (arcs walk)))))))
    ≡ line (codes "path " ++ (((decimal k ++ (32 ∷ decimal cost)) ++ (32 ∷ paid)) ++ arc_fields walk))
walked k cost paid walk =
    let behind = ap (λ t. decimal k ++ (32 ∷ (decimal cost ++ (32 ∷ t)))) (arcs_joined paid walk) in
    ap (λ t. line (codes "path " ++ t)) (behind ∙ in_a_row (decimal k) (decimal cost) paid (arc_fields walk))

pub same_line : (i : Item Rational) → line (line_of i) ≡ item_line i
same_line item.Header = refl
same_line item.HeaderTwo = refl
same_line (item.StatusIs status.Optimal) = refl
same_line (item.StatusIs status.Budget) = refl
same_line (item.StatusIs status.Overflow) = refl
same_line (item.Width w) = refl
same_line (item.Lower v) = refl
same_line (item.Upper v) = refl
same_line (item.Opened n) = refl
same_line (item.InstanceIs nodes arc_count tolls commodities) = worded (codes "instance") (nodes ∷ arc_count ∷ tolls ∷ commodities ∷ [])
same_line (item.Limit a None) = refl
same_line (item.Limit a (Some u)) = refl
same_line (item.Toll a v) = refl
same_line (item.Path k cost paid walk) = walked k cost (fraction_text paid) walk
same_line (item.Cover k n) = worded (codes "cover") (k ∷ n ∷ [])
same_line item.Start = refl
same_line (item.Step parent arc) = worded (codes "step") (parent ∷ arc.0 ∷ [])
same_line (item.Free walk) = ap line (arcs_joined (codes "free") walk)
same_line (item.Cuts n) = worded (codes "cuts") (n ∷ [])
same_line (item.Conflict k p l q n) = worded (codes "conflict") (k ∷ p ∷ l ∷ q ∷ n ∷ [])
same_line (item.Pair k p l cuts) = worded (codes "pair") (k ∷ p ∷ l ∷ cuts)
same_line (item.Round n) = worded (codes "round") (n ∷ [])
same_line (item.Mult y) = ap line (row_joined y.row y.value)
same_line item.Tree = refl
same_line item.Open = refl
same_line (item.Basic mark.Large) = refl
same_line (item.Basic mark.Capped) = refl
same_line (item.Basic mark.Sum) = refl
same_line (item.Basic (mark.Overflow pivot step.Ratio i j)) = placed pivot i j (codes "ratio")
same_line (item.Basic (mark.Overflow pivot step.Pivot i j)) = placed pivot i j (codes "pivot")
same_line (item.Dual n) = worded (codes "dual") (n ∷ [])
same_line (item.Farkas n) = worded (codes "farkas") (n ∷ [])
same_line (item.Inverse n) = worded (codes "inverse") (n ∷ [])
same_line (item.NoInverse n) = worded (codes "none") (n ∷ [])
same_line item.Leaf = refl
same_line (item.Split k part) = worded (codes "split") (k ∷ part)
same_line item.End = refl

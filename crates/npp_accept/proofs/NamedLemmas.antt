-- Multipliers without a fault: each is of a row of the program, and there are no more of them than rows.
use Rattle.std.proofs.Common.{◌≡◌, ◌∙◌, sym, refl, ℕ, ◌+◌, ◌≤◌, true, false, not, List, [], ◌∷◌, length, All, Option, Some, None, arith}
use Rattle.std.specs.Prelude.{MatchOption}
use Rattle.std.proofs.lemmas.Bool.{true≢false}
use Rattle.std.proofs.lemmas.List.{length-map}
use Rattle.npp_frac.specs.Rational.{Rational}
use Rattle.npp_lp.specs.declared.multiplier.RowMultiplier.{RowMultiplier}
use Rattle.npp_lp.specs.SparseLaws.{RiseFrom, rise_of_multipliers}
use Rattle.npp_rows.specs.declared.cut.CutFault.TheVariants.{BadName, BadOrder, NotPositive}
use Rattle.npp_rows.specs.declared.names.Multiplier.{Multiplier}
use Rattle.npp_rows.specs.declared.names.RowName.{RowName}
use Rattle.npp_rows.specs.Derivations.{fault_if, multipliers_fault}
use Rattle.npp_rows.specs.Named.{NamedProgram}
use Rattle.npp_rows.specs.Places.{row_place}
use Rattle.npp_rows.specs.RowOrder.{has_row, are_rows, are_in_order, are_positive, DoRise}
use Rattle.npp_rows.specs.Taken.{placed, placed_one}
use Rattle.npp_rows.proofs.DerivationLaws.{no_fault, passes}
use Rattle.npp_rows.proofs.RowPlaces.{row_told}
use Rattle.npp_rows.proofs.TakenLaws.{placed_are_rows}

-- what multipliers without a fault are
pub record AreNamed (p : NamedProgram) (ys : List (Multiplier Rational)) : Type 0 where
  pub rows : are_rows p.rows ys ≡ true
  pub order : are_in_order ys ≡ true
  pub positive : are_positive ys ≡ true

pub named_by : (p : NamedProgram) (ys : List (Multiplier Rational)) → multipliers_fault p ys ≡ None → AreNamed p ys
named_by p ys e =
    let rows = no_fault (fault_if (not (are_rows p.rows ys)) BadName) _ e in
    let order = no_fault (fault_if (not (are_in_order ys)) BadOrder) (fault_if (not (are_positive ys)) NotPositive) rows.1 in
    record {
      rows = passes (are_rows p.rows ys) BadName rows.0;
      order = passes (are_in_order ys) BadOrder order.0;
      positive = passes (are_positive ys) NotPositive order.1;
    }

rise_length : (n a : ℕ) (ys : List (RowMultiplier Rational)) → RiseFrom a n ys → a + length ys ≤ n
rise_length n a [] h = omega (arith, h)
rise_length n a (y ∷ ys) h = omega (arith, h.0, rise_length n (y.row + 1) ys h.2)

-- no more multipliers than rows
pub few_named : (p : NamedProgram) (ys : List (Multiplier Rational)) → DoRise p.rows → AreNamed p ys → length ys ≤ length p.rows
few_named p ys rises named =
    let placed_rise : RiseFrom 0 (length p.rows) (placed p.rows ys) =
    rise_of_multipliers (length p.rows) (placed p.rows ys) (placed_are_rows p.rows rises ys named.rows named.order) in
    omega (arith, rise_length (length p.rows) 0 (placed p.rows ys) placed_rise, length-map ys (placed_one p.rows))

-- what holds of each row holds of one that is among them
pub row_has : (Q : RowName → Type 0) (rows : List RowName) (r : RowName) → All Q rows → has_row rows r ≡ true → Q r
row_has Q rows r all e = by (row_place rows r) (row_told Q rows r (row_place rows r) all refl)
  where
    by : (o : Option ℕ) → MatchOption o (has_row rows r ≡ false) (λ i. Q r) → Q r
    by None clash = absurd (true≢false (sym e ∙ clash))
    by (Some i) h = h

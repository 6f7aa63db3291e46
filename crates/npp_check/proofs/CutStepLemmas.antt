-- The lines of the cuts at their stages.
use Rattle.std.specs.Prelude.{◌≡◌, ◌⊎◌, ℕ, suc, ◌+◌, ◌-◌, ◌<◌, List, [], ◌∷◌, ◌++◌, map, Result, Ok, Err, refl}
use Rattle.std.specs.Result.{IsErrAnd}
use Rattle.std.proofs.Common.{arith, ap, sym, ◌∙◌, subst, inl, inr}
use Rattle.std.proofs.lemmas.List.{length-append}
use Rattle.std.proofs.lemmas.List.Elements.{All-nil, All-cons, All-append}
use Rattle.npp_frac.specs.Rational.{Rational}
use Rattle.npp_net.specs.Network.{Network}
use Rattle.npp_cover.specs.Replaces.{CoverValue}
use Rattle.npp_rows.specs.declared.names.Multiplier.{Multiplier}
use Rattle.npp_rows.specs.declared.cut.CutRow.{CutRow as CodeRow}
use Rattle.npp_rows.specs.declared.cut.CutFault.{CutFault}
use Rattle.npp_rows.specs.declared.cut.CutFault.TheVariants as fault
use Rattle.npp_rows.specs.Caps.{path_model}
use Rattle.npp_rows.specs.Cuts.{Cut as CutRow, IsCut}
use Rattle.npp_rows.specs.Derivations.{Derived, derivation_verdict}
use Rattle.npp_rows.specs.Meaning.{cut_value, multiplier_value, derivation_result}
use Rattle.npp_tree.specs.declared.item.Item.{Item}
use Rattle.npp_tree.specs.declared.item.Item.TheVariants as item
use Rattle.npp_tree.specs.Items.{item_of}
use Rattle.npp_check.specs.declared.block.CutKind.{CutKind}
use Rattle.npp_check.specs.declared.block.CutBlock.{CutBlock}
use Rattle.npp_check.specs.declared.refusal.Rule.{Rule}
use Rattle.npp_check.specs.declared.refusal.Rule.TheVariants as rule
use Rattle.npp_check.specs.declared.refusal.CheckRefusal.{CheckRefusal}
use Rattle.npp_check.specs.declared.refusal.CheckRefusal.TheVariants.{Broken}
use Rattle.npp_check.specs.declared.stage.Stage.{Stage as CodeStage}
use Rattle.npp_check.specs.declared.stop.Stop.{Stop}
use Rattle.npp_check.specs.StageValue.{step_value}
use Rattle.npp_check.specs.declared.stop.Stop.TheVariants as stop
use Rattle.npp_check.specs.EndLine.{Head}
use Rattle.npp_check.specs.CutLines.{cut_line, cut_multiplier, derived, one_cut}
use Rattle.npp_check.specs.Judges.{Judges}
use Rattle.npp_check.specs.Stops.{stop_of_cut_fault}
use Rattle.npp_check.specs.Stages.{Case, Stage, AtCuts, AtCutMultipliers, cut_by, from_stage, from_tree, from_cuts, from_cut_multipliers}
use Rattle.npp_check.specs.Standing.{AreCutsBut}
use Rattle.npp_check.specs.Steps.{Steps, Breaks, Leads}
use Rattle.npp_check.specs.Verdict.{PairValue, whole}
use Rattle.npp_check.specs.Reads.{Reads, Lines, read_behind, line, last_line, more, ◌>>=◌}
use Rattle.npp_check.proofs.StepLemmas.{more_goes, more_breaks}
use Rattle.npp_check.proofs.LineLemmas.{line_goes, line_breaks, last_goes, last_breaks, bind_four}

module _ (limit : ℕ) (c : Case) (head : Head) (covers : List CoverValue) (left : ℕ) (above : List CutRow) where
  cut_read : (lines : Lines)
      → from_cuts limit c head covers (suc left) above lines
      ≡ read_behind (line cut_line lines) (λ h. from_cut_multipliers limit c head covers left above h.1 h.0 [])
  cut_read lines = by_line (line cut_line lines)
    where
      by_line : (v : Result ((ℕ × (List (Multiplier Rational) → Derived)) × Lines) CheckRefusal)
          → read_behind (read_behind (read_behind v (λ h. more (λ _. line cut_multiplier) h.0 [] >>= λ y. last_line (derived (derivation_verdict limit (path_model c.net covers) above (h.1 y)))))
          (λ row. more (one_cut limit (path_model c.net covers)) left (above ++ row ∷ [])))
          (λ cuts. from_tree limit c (record { head = head; covers = covers; cuts = cuts }))
          ≡ read_behind v (λ h. from_cut_multipliers limit c head covers left above h.1 h.0 [])
      by_line (Ok read) =
          bind_four (more (λ _. line cut_multiplier) read.0.0 [] read.1)
          (λ y. last_line (derived (derivation_verdict limit (path_model c.net covers) above (read.0.1 y))))
          (λ row. more (one_cut limit (path_model c.net covers)) left (above ++ row ∷ []))
          (λ cuts. from_tree limit c (record { head = head; covers = covers; cuts = cuts }))
      by_line (Err refusal) = refl

  -- a cut begins
  pub cut_begins : (i : Item Rational) (n : ℕ) (cut : List (Multiplier Rational) → Derived) → cut_line i ≡ Ok (n, cut) → (count number : ℕ) (items : List (Item Rational)) → count ≡ suc left
      → from_cuts limit c head covers count above (record { number = number; items = i ∷ items })
      ≡ from_cut_multipliers limit c head covers left above cut n [] (record { number = number + 1; items = items })
  cut_begins i n cut judged count number items some =
      ap (λ k. from_cuts limit c head covers k above (record { number = number; items = i ∷ items })) some
      ∙ cut_read (record { number = number; items = i ∷ items })
      ∙ line_goes cut_line (λ h. from_cut_multipliers limit c head covers left above h.1 h.0 []) i (n, cut) judged number items

  pub no_cut_begins : (i : Item Rational) (broken : Rule) → cut_line i ≡ Err broken → (count : ℕ) → count ≡ suc left → Breaks limit c (AtCuts head covers count above) i broken
  no_cut_begins i broken judged count some number items =
      ap (λ k. whole (from_cuts limit c head covers k above (record { number = number; items = i ∷ items }))) some
      ∙ ap whole (cut_read (record { number = number; items = i ∷ items }))
      ∙ line_breaks cut_line (λ h. from_cut_multipliers limit c head covers left above h.1 h.0 []) i broken judged number items

  -- a cut ends
  pub cut_ends : (cut : List (Multiplier Rational) → Derived) (ys : List (Multiplier Rational)) (row : CutRow) (rows : List CutRow) → derived (derivation_verdict limit (path_model c.net covers) above (cut ys)) ≡ Ok row
      → rows ≡ above ++ row ∷ [] → AreCutsBut c.net covers left rows → Leads limit c (from_cut_multipliers limit c head covers left above cut 0 ys) (Ok (AtCuts head covers left rows))
  cut_ends cut ys row rows judged put is = (
    λ number items.
        last_goes (derived (derivation_verdict limit (path_model c.net covers) above (cut ys))) (λ r. from_cuts limit c head covers left (above ++ r ∷ [])) row judged number items
        ∙ ap (λ rs. from_cuts limit c head covers left rs (record { number = number + 1; items = items })) (sym put),
    is,
  )

  pub cut_ends_badly : (cut : List (Multiplier Rational) → Derived) (ys : List (Multiplier Rational)) (broken : Rule) → derived (derivation_verdict limit (path_model c.net covers) above (cut ys)) ≡ Err broken
      → (number : ℕ) (items : List (Item Rational)) → whole (from_cut_multipliers limit c head covers left above cut 0 ys (record { number = number + 1; items = items })) ≡ Err (Broken number broken)
  cut_ends_badly cut ys broken judged number items =
      last_breaks (derived (derivation_verdict limit (path_model c.net covers) above (cut ys))) (λ r. from_cuts limit c head covers left (above ++ r ∷ [])) broken judged number items

-- ---- the code's cuts

-- a block of multipliers that has just begun
pub block_begins : {N : Type 0} (value : N → Rational) (limit : ℕ) (c : Case) (head : Head) (covers : List CoverValue) (left : ℕ) (above : List CutRow) (i : Item Rational)
    (kind : CutKind) (lines : ℕ) (block : CutBlock N) → cut_line i ≡ Ok (lines, cut_by kind) → block.kind ≡ kind → block.lines ≡ lines → block.multipliers.items ≡ []
    → (count number : ℕ) (items : List (Item Rational)) → count ≡ suc left
    → from_cuts limit c head covers count above (record { number = number; items = i ∷ items })
    ≡ from_cut_multipliers limit c head covers left above (cut_by block.kind) block.lines (map (multiplier_value value) block.multipliers.items) (record { number = number + 1; items = items })
block_begins value limit c head covers left above i kind lines block judged same_kind same_lines none count number items some =
    cut_begins limit c head covers left above i lines (cut_by kind) judged count number items some
    ∙ (λ j. from_cut_multipliers limit c head covers left above (cut_by (sym same_kind j)) (sym same_lines j) (map (multiplier_value value) (sym none j)) (record { number = number + 1; items = items }))

-- where no multiplier is to come, the cut alone counts
pub cut_alone : (limit : ℕ) (c : Case) (head : Head) (covers : List CoverValue) (left : ℕ) (above : List CutRow) (cut other : List (Multiplier Rational) → Derived) (lines : ℕ) (ys : List (Multiplier Rational))
    → lines ≡ 0 → cut ys ≡ other [] → (coming : Lines)
    → from_cut_multipliers limit c head covers left above cut lines ys coming ≡ from_cut_multipliers limit c head covers left above other 0 [] coming
cut_alone limit c head covers left above cut other lines ys none same coming =
    ap (λ n. from_cut_multipliers limit c head covers left above cut n ys coming) none
    ∙ ap (λ d. read_behind (last_line (derived (derivation_verdict limit (path_model c.net covers) above d)) coming) (λ row. from_cuts limit c head covers left (above ++ row ∷ []))) same

-- one more multiplier
pub multiplier_goes : (limit : ℕ) (c : Case) (head : Head) (covers : List CoverValue) (left : ℕ) (above : List CutRow) (cut : List (Multiplier Rational) → Derived) (lines less : ℕ)
    (ys new : List (Multiplier Rational)) (y : Multiplier Rational) → lines ≡ suc less → new ≡ ys ++ y ∷ [] → (number : ℕ) (items : List (Item Rational))
    → from_cut_multipliers limit c head covers left above cut lines ys (record { number = number; items = item.Mult y ∷ items })
    ≡ from_cut_multipliers limit c head covers left above cut less new (record { number = number + 1; items = items })
multiplier_goes limit c head covers left above cut lines less ys new y some put number items =
    ap (λ n. from_cut_multipliers limit c head covers left above cut n ys (record { number = number; items = item.Mult y ∷ items })) some
    ∙ more_goes (λ _. cut_multiplier) (λ all. last_line (derived (derivation_verdict limit (path_model c.net covers) above (cut all))) >>= λ row. from_cuts limit c head covers left (above ++ row ∷ []))
    less ys (item.Mult y) y refl number items
    ∙ ap (λ zs. from_cut_multipliers limit c head covers left above cut less zs (record { number = number + 1; items = items })) (sym put)

pub multiplier_breaks : (limit : ℕ) (c : Case) (head : Head) (covers : List CoverValue) (left : ℕ) (above : List CutRow) (kind : CutKind) (lines less : ℕ)
    (ys : List (Multiplier Rational)) (i : Item Rational) (broken : Rule) → lines ≡ suc less → cut_multiplier i ≡ Err broken → Breaks limit c (AtCutMultipliers head covers left above kind lines ys) i broken
multiplier_breaks limit c head covers left above kind lines less ys i broken some judged number items =
    ap (λ n. whole (from_cut_multipliers limit c head covers left above (cut_by kind) n ys (record { number = number; items = i ∷ items }))) some
    ∙ more_breaks (λ _. cut_multiplier) (λ all. last_line (derived (derivation_verdict limit (path_model c.net covers) above (cut_by kind all))) >>= λ row. from_cuts limit c head covers left (above ++ row ∷ []))
    less ys i broken judged number items

module _ {N : Type 0} (value : N → Rational) where
  pub no_multiplier : (i : Item N) → ((y : Multiplier N) → i ≡ item.Mult y → ⊥) → cut_multiplier (item_of value i) ≡ Err rule.Order
  no_multiplier (item.Mult y) h = absurd (h y refl)
  no_multiplier other h = refl

  pub no_cut : (i : Item N) → ((k p l q lines : ℕ) → i ≡ item.Conflict k p l q lines → ⊥) → ((k p l : ℕ) (cuts : List ℕ) → i ≡ item.Pair k p l cuts → ⊥) → ((lines : ℕ) → i ≡ item.Round lines → ⊥)
      → cut_line (item_of value i) ≡ Err rule.Order
  no_cut (item.Conflict k p l q lines) conflict pair round = absurd (conflict k p l q lines refl)
  no_cut (item.Pair k p l cuts) conflict pair round = absurd (pair k p l cuts refl)
  no_cut (item.Round lines) conflict pair round = absurd (round lines refl)
  no_cut other conflict pair round = refl

  -- ---- what the call that derives a row says

  pub row_derived : (row : CodeRow N) (v : Result CutRow (CutFault Rational))
      → (let r : Result (CodeRow N) (CutFault N) = Ok row in (r ≡ Err fault.Memory) ⊎ (derivation_result value r ≡ v)) → derived v ≡ Ok (cut_value value row)
  row_derived row v (inl e) = cc
  row_derived row v (inr e) = ap derived (sym e)

  pub row_refused : (e : CutFault N) (v : Result CutRow (CutFault Rational))
      → (let r : Result (CodeRow N) (CutFault N) = Err e in (r ≡ Err fault.Memory) ⊎ (derivation_result value r ≡ v)) → Judges (cut_value value) (Err (stop_of_cut_fault e)) (derived v)
  row_refused e v (inl same) = by_memory e same
    where
      by_memory : (e : CutFault N) → (let r : Result (CodeRow N) (CutFault N) = Err e in r ≡ Err fault.Memory) → Judges (cut_value value) (Err (stop_of_cut_fault e)) (derived v)
      by_memory fault.Memory same = tt
      by_memory other same = cc
  row_refused fault.Memory v (inr e) = tt
  row_refused (fault.Overflow o) v (inr e) = ap derived (sym e)
  row_refused fault.BadName v (inr e) = ap derived (sym e)
  row_refused fault.BadOrder v (inr e) = ap derived (sym e)
  row_refused fault.NotPositive v (inr e) = ap derived (sym e)
  row_refused fault.Column v (inr e) = ap derived (sym e)
  row_refused fault.NotBelowZero v (inr e) = ap derived (sym e)
  row_refused (fault.NotAConflict n) v (inr e) = ap derived (sym e)
  row_refused fault.TollColumn v (inr e) = ap derived (sym e)

  -- a refused row stops the cut
  pub cut_stops : (limit : ℕ) (c : Case) (head : Head) (covers : List CoverValue) (left : ℕ) (above : List CutRow) (cut : List (Multiplier Rational) → Derived) (ys : List (Multiplier Rational)) (e : Stop)
      → Judges (cut_value value) (Err e) (derived (derivation_verdict limit (path_model c.net covers) above (cut ys)))
      → Leads limit c (from_cut_multipliers limit c head covers left above cut 0 ys) (Err e)
  cut_stops limit c head covers left above cut ys (stop.Broken broken) judged = cut_ends_badly limit c head covers left above cut ys broken judged
  cut_stops limit c head covers left above cut ys stop.Memory judged = tt

-- with one cut less to come
pub cuts_less : (net : Network) (covers : List CoverValue) (left : ℕ) (above : List CutRow) → 0 < left → AreCutsBut net covers left above → AreCutsBut net covers (left - 1 + 1) above
cuts_less net covers left above some h = let same : left ≡ left - 1 + 1 = omega (arith, some) in subst (λ (n : ℕ). AreCutsBut net covers n above) same h

-- none of them is to come, at the network by another name
pub cuts_known : (net same_net : Network) (covers : List CoverValue) (left : ℕ) (above : List CutRow) → same_net ≡ net → AreCutsBut net covers left above → AreCutsBut same_net covers 0 above
cuts_known net same_net covers left above same h =
    subst (λ (n : Network). AreCutsBut n covers 0 above) (sym same) (record { closed = h.closed; few = h.few; good = h.good; room = omega (arith, h.room) })

-- one more cut
pub cuts_more : (net : Network) (covers : List CoverValue) (left : ℕ) (above rows : List CutRow) (row : CutRow) → AreCutsBut net covers (left + 1) above → IsCut (path_model net covers) row → rows ≡ above ++ row ∷ []
    → AreCutsBut net covers left rows
cuts_more net covers left above rows row h is put =
    subst (AreCutsBut net covers left) (sym put) (record {
      closed = h.closed;
      few = h.few;
      good = All-append (IsCut (path_model net covers)) above (row ∷ []) h.good (All-cons (IsCut (path_model net covers)) row [] is (All-nil (IsCut (path_model net covers))));
      room = omega (arith, h.room, length-append above (row ∷ []));
    })

-- ---- a line and what it leads to

pub step_leads : (limit : ℕ) (c : Case) (old : Stage) (i : Item Rational) (reads : Reads PairValue) (r : Result Stage Stop)
    → ((number : ℕ) (items : List (Item Rational)) → from_stage limit c old (record { number = number; items = i ∷ items }) ≡ reads (record { number = number + 1; items = items }))
    → Leads limit c reads r → Steps limit c old i r
step_leads limit c old i reads (Ok new) e leads = (λ number items. e number items ∙ leads.0 number items, leads.1)
step_leads limit c old i reads (Err (stop.Broken broken)) e leads = λ number items. ap whole (e number items) ∙ leads number items
step_leads limit c old i reads (Err stop.Memory) e leads = tt

-- other lines that are read in the same way
pub leads_same : (limit : ℕ) (c : Case) (reads other : Reads PairValue) (r : Result Stage Stop) → ((lines : Lines) → reads lines ≡ other lines) → Leads limit c other r → Leads limit c reads r
leads_same limit c reads other (Ok new) e leads = (λ number items. e (record { number = number + 1; items = items }) ∙ leads.0 number items, leads.1)
leads_same limit c reads other (Err (stop.Broken broken)) e leads = λ number items. ap whole (e (record { number = number + 1; items = items })) ∙ leads number items
leads_same limit c reads other (Err stop.Memory) e leads = tt

-- what a refusal of the code leads to
pub leads_refused : {N : Type 0} (value : N → Rational) (limit : ℕ) (c : Case) (reads : Reads PairValue) (e : Stop) (r : Result (CodeStage N) Stop) → IsErrAnd r (λ f. f ≡ e)
    → Leads limit c reads (Err e) → Leads limit c reads (step_value value c.net r)
leads_refused value limit c reads e (Ok x) is h = absurd is
leads_refused value limit c reads e (Err f) is h = subst (λ (s : Stop). Leads limit c reads (Err s)) (sym is) h

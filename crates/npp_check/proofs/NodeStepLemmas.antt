-- The lines of the tree at their stages.
use Rattle.std.specs.Prelude.{◌≡◌, ℕ, suc, ◌+◌, Bool, true, false, not, List, [], ◌∷◌, ◌++◌, slice_set, Some, None, Result, Ok, Err, IfOk, IfErr, refl}
use Rattle.std.specs.Result.{IsErrAnd}
use Rattle.std.proofs.Common.{ap, sym, ◌∙◌, subst}
use Rattle.npp_frac.specs.Rational.{Rational}
use Rattle.npp_rows.specs.declared.names.Multiplier.{Multiplier}
use Rattle.npp_rows.specs.Parts.{part_at, is_full}
use Rattle.npp_tree.specs.declared.item.Item.{Item}
use Rattle.npp_tree.specs.declared.item.Item.TheVariants as item
use Rattle.npp_tree.specs.Items.{item_of}
use Rattle.npp_tree.specs.Bounds.{BoundValue, greater}
use Rattle.npp_tree.specs.Family.{Family, Division, divides, rest_of, first_of, second_of}
use Rattle.npp_tree.specs.Tree.{bound_after}
use Rattle.npp_check.specs.declared.block.Answer.{Answer}
use Rattle.npp_check.specs.declared.block.Opening.{Opening}
use Rattle.npp_check.specs.declared.block.Opening.TheVariants.{Answered}
use Rattle.npp_check.specs.declared.refusal.Rule.{Rule}
use Rattle.npp_check.specs.declared.refusal.Rule.TheVariants as rule
use Rattle.npp_check.specs.Rules.{broken_if}
use Rattle.npp_check.specs.declared.stage.Stage.{Stage as CodeStage}
use Rattle.npp_check.specs.declared.stop.Stop.{Stop}
use Rattle.npp_check.specs.declared.stop.Stop.TheVariants as stop
use Rattle.npp_check.specs.declared.refusal.CheckRefusal.TheVariants.{Broken}
use Rattle.npp_check.specs.EndLine.{Head, tree_line, end_line}
use Rattle.npp_check.specs.Multipliers.{multiplier_line}
use Rattle.npp_check.specs.NodeLines.{Place, root_place, program_at, before, proof_by, opening_line, branch_line, child_place}
use Rattle.npp_check.specs.Stages.{Case, Stage, AtCuts, AtNodes, AtMultipliers, AtBranch, Behind, Known, Sum, nothing_yet, given, model_of, nodes_to_come, from_opening, from_multipliers, at_branch, from_branch}
use Rattle.npp_check.specs.Judges.{Judges}
use Rattle.npp_check.specs.StageValue.{stage_value, step_value}
use Rattle.npp_check.specs.Steps.{Steps, Goes, Breaks, Leads, is_of_choice, IsBlockUnderWay, IsStageOf}
use Rattle.npp_check.specs.Verdict.{PairValue, whole}
use Rattle.npp_check.specs.Reads.{Reads, last_line, done, ◌>>=◌}
use Rattle.npp_check.proofs.LineLemmas.{line_goes, line_breaks, last_goes, last_breaks}
use Rattle.npp_check.proofs.StageLemmas.{node_step}
use Rattle.npp_check.proofs.StepLemmas.{more_goes, more_breaks}
use Rattle.npp_check.proofs.TreeStandLemmas.{tree_split}

-- ---- an answer of the code beside a step

module _ {N : Type 0} (value : N → Rational) (limit : ℕ) (c : Case) where
  -- where it is this stage or want of memory
  pub moved : (old new : Stage) (i : Item Rational) (r : Result (CodeStage N) Stop) → Goes limit c old i new → IsStageOf c new
      → IfOk r (λ s. stage_value value c.net s ≡ new) → IfErr r (λ e. e ≡ stop.Memory) → Steps limit c old i (step_value value c.net r)
  moved old new i (Ok s) goes is same none = subst (λ (t : Stage). Goes limit c old i t × IsStageOf c t) (sym same) (goes, is)
  moved old new i (Err e) goes is same none = subst (λ (f : Stop). Steps limit c old i (Err f)) (sym none) tt

  -- want of memory says nothing
  pub wants : (old : Stage) (i : Item Rational) (r : Result (CodeStage N) Stop) (f : Stop) → IsErrAnd r (λ e. e ≡ f) → f ≡ stop.Memory → Steps limit c old i (step_value value c.net r)
  wants old i (Ok s) f is none = absurd is
  wants old i (Err e) f is none = subst (λ (g : Stop). Steps limit c old i (Err g)) (sym (is ∙ none)) tt

-- an answer is of the program that the node has
abbrev kind_of : Bool → Result Opening Rule → Bool
kind_of full (Ok (Answered answer n)) = is_of_choice answer
kind_of full other = full

kind_is : {N : Type 0} (value : N → Rational) (full : Bool) (i : Item N) → kind_of full (opening_line full (item_of value i)) ≡ full
kind_is value true (item.Dual n) = refl
kind_is value false (item.Dual n) = refl
kind_is value true (item.Farkas n) = refl
kind_is value false (item.Farkas n) = refl
kind_is value true (item.Inverse n) = refl
kind_is value false (item.Inverse n) = refl
kind_is value true (item.NoInverse n) = refl
kind_is value false (item.NoInverse n) = refl
kind_is value full other = refl

pub answered_kind : {N : Type 0} (value : N → Rational) (full : Bool) (i : Item N) (answer : Answer) (n : ℕ) → opening_line full (item_of value i) ≡ Ok (Answered answer n) → is_of_choice answer ≡ full
answered_kind value full i answer n judged = sym (ap (kind_of full) judged) ∙ kind_is value full i

-- ---- lines that are not the ones that must stand there

pub not_tree : {N : Type 0} (value : N → Rational) (i : Item N) → (i ≡ item.Tree → ⊥) → tree_line (item_of value i) ≡ Err rule.Order
not_tree value item.Tree other = absurd (other refl)
not_tree value i other = refl

pub not_end : {N : Type 0} (value : N → Rational) (i : Item N) (head : Head) (opened : ℕ) (bound : BoundValue) → (i ≡ item.End → ⊥) → end_line head opened bound (item_of value i) ≡ Err rule.Order
not_end value item.End head opened bound other = absurd (other refl)
not_end value i head opened bound other = refl

pub no_branch : {N : Type 0} (value : N → Rational) (i : Item N) (parts : Family) → (i ≡ item.Leaf → ⊥) → ((k : ℕ) (part : List ℕ) → i ≡ item.Split k part → ⊥) → branch_line parts (item_of value i) ≡ Err rule.Order
no_branch value item.Leaf parts leaf split = absurd (leaf refl)
no_branch value (item.Split k part) parts leaf split = absurd (split k part refl)
no_branch value i parts leaf split = refl

-- a split that is right, and one that is not
pub split_judged : (parts : Family) (d : Division) → divides parts d ≡ true → branch_line parts (item.Split d.commodity d.part) ≡ Ok (Some d)
split_judged parts d e = ap (λ b. broken_if (not b) rule.Split (Ok (Some d))) e

pub no_split : (parts : Family) (d : Division) → divides parts d ≡ false → branch_line parts (item.Split d.commodity d.part) ≡ Err rule.Split
no_split parts d e = ap (λ b. broken_if (not b) rule.Split (Ok (Some d))) e

module _ (limit : ℕ) (c : Case) where
  -- ---- the head of the tree, and its end

  pub tree_goes : (k : Known) (i : Item Rational) (u : Unit {0}) → tree_line i ≡ Ok u
      → Goes limit c (AtCuts k.head k.covers 0 k.cuts) i (AtNodes k (root_place (model_of limit c k.covers) ∷ []) nothing_yet)
  tree_goes k i u judged number items = line_goes tree_line (λ _. nodes_to_come limit c k (root_place (model_of limit c k.covers) ∷ []) nothing_yet) i u judged number items

  -- with a root like that
  pub tree_begins : (k : Known) (i : Item Rational) (u : Unit {0}) (p : Place) (places : List Place) → tree_line i ≡ Ok u → p ≡ root_place (model_of limit c k.covers) → places ≡ []
      → Goes limit c (AtCuts k.head k.covers 0 k.cuts) i (AtNodes k (p ∷ places) nothing_yet)
  tree_begins k i u p places judged root none number items =
      tree_goes k i u judged number items
      ∙ ap (λ q. nodes_to_come limit c k (q ∷ []) nothing_yet (record { number = number + 1; items = items })) (sym root)
      ∙ ap (λ qs. nodes_to_come limit c k (p ∷ qs) nothing_yet (record { number = number + 1; items = items })) (sym none)

  pub tree_breaks : (k : Known) (i : Item Rational) (rule : Rule) → tree_line i ≡ Err rule → Breaks limit c (AtCuts k.head k.covers 0 k.cuts) i rule
  tree_breaks k i rule judged number items = line_breaks tree_line (λ _. nodes_to_come limit c k (root_place (model_of limit c k.covers) ∷ []) nothing_yet) i rule judged number items

  pub end_goes : (k : Known) (s : Sum) (i : Item Rational) (u : Unit {0}) → end_line k.head s.opened s.bound i ≡ Ok u
      → Goes limit c (AtNodes k [] s) i (Behind (record { lower = k.head.lower; upper = k.head.upper }))
  end_goes k s i u judged number items = line_goes (end_line k.head s.opened s.bound) (λ _. done (record { lower = k.head.lower; upper = k.head.upper })) i u judged number items

  pub end_breaks : (k : Known) (s : Sum) (i : Item Rational) (rule : Rule) → end_line k.head s.opened s.bound i ≡ Err rule → Breaks limit c (AtNodes k [] s) i rule
  end_breaks k s i rule judged number items = line_breaks (end_line k.head s.opened s.bound) (λ _. done (record { lower = k.head.lower; upper = k.head.upper })) i rule judged number items

  module _ (k : Known) (places : List Place) (s : Sum) where
    -- ---- the first line of a node

    pub opening_reads : (p : Place) (i : Item Rational) (opening : Opening) → opening_line (is_full p.parts) i ≡ Ok opening → (number : ℕ) (items : List (Item Rational))
        → nodes_to_come limit c k (p ∷ places) s (record { number = number; items = i ∷ items }) ≡ from_opening limit c k places s p opening (record { number = number + 1; items = items })
    opening_reads p i opening judged number items =
        node_step limit c k places s p number (i ∷ items)
        ∙ line_goes (opening_line (is_full p.parts)) (from_opening limit c k places s p) i opening judged number items

    pub opening_breaks : (p : Place) (i : Item Rational) (rule : Rule) → opening_line (is_full p.parts) i ≡ Err rule → Breaks limit c (AtNodes k (p ∷ places) s) i rule
    opening_breaks p i rule judged number items =
        ap whole (node_step limit c k places s p number (i ∷ items))
        ∙ line_breaks (opening_line (is_full p.parts)) (from_opening limit c k places s p) i rule judged number items

    -- ---- the multipliers of a node

    module _ (p : Place) (answer : Answer) where
      abbrev after_all : List (Multiplier Rational) → Reads PairValue
      after_all all =
          last_line (proof_by limit (program_at (given limit c k) p.parts) answer all)
          >>= λ value. at_branch limit c k places s p.parts (bound_after (before (given limit c k) p) (Some value))

      pub multiplier_reads : (left rest : ℕ) (ys zs : List (Multiplier Rational)) (i : Item Rational) (y : Multiplier Rational) → left ≡ suc rest
          → multiplier_line (program_at (given limit c k) p.parts) ys i ≡ Ok y → zs ≡ ys ++ y ∷ [] → (number : ℕ) (items : List (Item Rational))
          → from_multipliers limit c k places s p answer left ys (record { number = number; items = i ∷ items })
          ≡ from_multipliers limit c k places s p answer rest zs (record { number = number + 1; items = items })
      multiplier_reads left rest ys zs i y some judged put number items =
          ap (λ n. from_multipliers limit c k places s p answer n ys (record { number = number; items = i ∷ items })) some
          ∙ more_goes (multiplier_line (program_at (given limit c k) p.parts)) after_all rest ys i y judged number items
          ∙ ap (λ all. from_multipliers limit c k places s p answer rest all (record { number = number + 1; items = items })) (sym put)

      pub multiplier_breaks : (left rest : ℕ) (ys : List (Multiplier Rational)) (i : Item Rational) (rule : Rule) → left ≡ suc rest
          → multiplier_line (program_at (given limit c k) p.parts) ys i ≡ Err rule → Breaks limit c (AtMultipliers k places s p answer left ys) i rule
      multiplier_breaks left rest ys i rule some judged number items =
          ap (λ n. whole (from_multipliers limit c k places s p answer n ys (record { number = number; items = i ∷ items }))) some
          ∙ more_breaks (multiplier_line (program_at (given limit c k) p.parts)) after_all rest ys i rule judged number items

      -- the next multiplier is still to come
      pub block_goes_on : (left : ℕ) (ys : List (Multiplier Rational)) → IsBlockUnderWay c k places p answer left ys
          → Leads limit c (from_multipliers limit c k places s p answer left ys) (Ok (AtMultipliers k places s p answer left ys))
      block_goes_on left ys is = (λ number items. refl, is)

      -- they are all there
      pub block_ends : (ys : List (Multiplier Rational)) (value bound : BoundValue) → proof_by limit (program_at (given limit c k) p.parts) answer ys ≡ Ok value
          → bound ≡ bound_after (before (given limit c k) p) (Some value) → IsStageOf c (AtBranch k places s p.parts bound)
          → Leads limit c (from_multipliers limit c k places s p answer 0 ys) (Ok (AtBranch k places s p.parts bound))
      block_ends ys value bound judged same is = (
        λ number items.
            last_goes (proof_by limit (program_at (given limit c k) p.parts) answer ys) (λ v. at_branch limit c k places s p.parts (bound_after (before (given limit c k) p) (Some v))) value judged number items
            ∙ ap (λ b. at_branch limit c k places s p.parts b (record { number = number + 1; items = items })) (sym same),
        is,
      )

      -- so where none is left
      pub block_done : (left : ℕ) (ys : List (Multiplier Rational)) (value bound : BoundValue) → left ≡ 0 → proof_by limit (program_at (given limit c k) p.parts) answer ys ≡ Ok value
          → bound ≡ bound_after (before (given limit c k) p) (Some value) → IsStageOf c (AtBranch k places s p.parts bound)
          → Leads limit c (from_multipliers limit c k places s p answer left ys) (Ok (AtBranch k places s p.parts bound))
      block_done left ys value bound none judged same is =
          subst (λ (n : ℕ). Leads limit c (from_multipliers limit c k places s p answer n ys) (Ok (AtBranch k places s p.parts bound))) (sym none) (block_ends ys value bound judged same is)

      pub block_ends_badly : (ys : List (Multiplier Rational)) (rule : Rule) → proof_by limit (program_at (given limit c k) p.parts) answer ys ≡ Err rule
          → (number : ℕ) (items : List (Item Rational)) → whole (from_multipliers limit c k places s p answer 0 ys (record { number = number + 1; items = items })) ≡ Err (Broken number rule)
      block_ends_badly ys rule judged number items =
          last_breaks (proof_by limit (program_at (given limit c k) p.parts) answer ys) (λ v. at_branch limit c k places s p.parts (bound_after (before (given limit c k) p) (Some v))) rule judged number items

      -- what they prove is a bound, or stops the line
      pub block_stops : {N B : Type 0} (value : N → Rational) (bound : B → BoundValue) (left : ℕ) (ys : List (Multiplier Rational)) (r : Result (CodeStage N) Stop) (f : Stop) → left ≡ 0 → IsErrAnd r (λ e. e ≡ f)
          → Judges bound (Err f) (proof_by limit (program_at (given limit c k) p.parts) answer ys) → Leads limit c (from_multipliers limit c k places s p answer left ys) (step_value value c.net r)
      block_stops value bound left ys (Ok x) f none is judged = absurd is
      block_stops value bound left ys (Err e) f none is judged =
          subst (λ (n : ℕ). Leads limit c (from_multipliers limit c k places s p answer n ys) (Err e)) (sym none)
          (subst (λ (g : Stop). Leads limit c (from_multipliers limit c k places s p answer 0 ys) (Err g)) (sym is) (by_stop f judged))
        where
          by_stop : (f : Stop) → Judges bound (Err f) (proof_by limit (program_at (given limit c k) p.parts) answer ys) → Leads limit c (from_multipliers limit c k places s p answer 0 ys) (Err f)
          by_stop stop.Memory h = tt
          by_stop (stop.Broken rule) h = block_ends_badly ys rule h

    -- ---- the line behind the evidence

    module _ (parts : Family) (bound : BoundValue) (i : Item Rational) where
      pub leaf_goes : branch_line parts i ≡ Ok None → (sum : Sum) → sum ≡ record { opened = s.opened + 1; bound = greater s.bound bound }
          → Goes limit c (AtBranch k places s parts bound) i (AtNodes k places sum)
      leaf_goes judged sum same number items =
          line_goes (branch_line parts) (from_branch limit c k places s parts bound) i None judged number items
          ∙ ap (λ t. nodes_to_come limit c k places t (record { number = number + 1; items = items })) (sym same)

      pub split_goes : (d : Division) → branch_line parts i ≡ Ok (Some d) → (sum : Sum) → sum ≡ record { opened = s.opened + 1; bound = s.bound }
          → Goes limit c (AtBranch k places s parts bound) i (AtNodes k (child_place bound (first_of parts d) ∷ child_place bound (second_of parts d) ∷ places) sum)
      split_goes d judged sum same number items =
          line_goes (branch_line parts) (from_branch limit c k places s parts bound) i (Some d) judged number items
          ∙ ap (λ t. nodes_to_come limit c k (child_place bound (first_of parts d) ∷ child_place bound (second_of parts d) ∷ places) t (record { number = number + 1; items = items })) (sym same)

      -- into two children at these places
      pub splits : (d : Division) → branch_line parts i ≡ Ok (Some d) → divides parts d ≡ true → IsStageOf c (AtBranch k places s parts bound)
          → (rest : List ℕ) → rest ≡ rest_of d.part (part_at parts d.commodity) → (ps : List Place)
          → ps ≡ child_place bound (slice_set parts d.commodity d.part) ∷ child_place bound (slice_set parts d.commodity rest) ∷ places
          → (sum : Sum) → sum ≡ record { opened = s.opened + 1; bound = s.bound }
          → Goes limit c (AtBranch k places s parts bound) i (AtNodes k ps sum) × IsStageOf c (AtNodes k ps sum)
      splits d judged divided is rest left ps put sum same =
          let all : ps ≡ child_place bound (first_of parts d) ∷ child_place bound (second_of parts d) ∷ places =
          put ∙ ap (λ r. child_place bound (slice_set parts d.commodity d.part) ∷ child_place bound (slice_set parts d.commodity r) ∷ places) left in
          subst (λ (qs : List Place). Goes limit c (AtBranch k places s parts bound) i (AtNodes k qs sum) × IsStageOf c (AtNodes k qs sum)) (sym all)
          (split_goes d judged sum same, tree_split c.net k.covers k.cuts parts bound places d is divided)

      pub branch_breaks : (rule : Rule) → branch_line parts i ≡ Err rule → Breaks limit c (AtBranch k places s parts bound) i rule
      branch_breaks rule judged number items = line_breaks (branch_line parts) (from_branch limit c k places s parts bound) i rule judged number items

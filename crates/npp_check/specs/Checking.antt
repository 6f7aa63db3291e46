-- What a checker is between two items, and what the calls owe to the verdict.
use Rattle.std.specs.Prelude.{◌≡◌, ◌⊎◌, ℕ, ◌+◌, ◌≤◌, List, [], ◌∷◌, ◌++◌, length, Option, Some, None, Err}
use Rattle.npp_frac.specs.Rational.{Rational}
use Rattle.npp_net.specs.Network.{Network}
use Rattle.npp_tree.specs.declared.item.Item.{Item}
use Rattle.npp_check.specs.declared.refusal.Rule.{Rule}
use Rattle.npp_check.specs.declared.refusal.Rule.TheVariants.{Order}
use Rattle.npp_check.specs.declared.refusal.CheckRefusal.{CheckRefusal}
use Rattle.npp_check.specs.declared.refusal.CheckRefusal.TheVariants.{Broken, Memory}
use Rattle.npp_check.specs.Measures.{AreMeasures}
use Rattle.npp_check.specs.Stages.{Case, Stage, verdict_from}
use Rattle.npp_check.specs.Verdict.{Verdict, verdict}

-- the instance with its measures, the number of the next line and where it stands; or what was refused
pub record Checking : Type 0 where
  pub on : Case
  pub number : ℕ
  pub stage : Stage
  pub refused : Option CheckRefusal

abbrev pub unless_refused : Option CheckRefusal → Verdict → Verdict
unless_refused None v = v
unless_refused (Some refusal) v = Err refusal

-- the verdict on all items, where these come next: sums are formed of numbers below the limit in size
abbrev pub verdict_with : ℕ → Checking → List (Item Rational) → Verdict
verdict_with limit c items = unless_refused c.refused (verdict_from limit c.on c.number c.stage items)

-- these items were taken: with whatever comes behind them, the verdict on all is that on what comes
pub record HasTaken (limit : ℕ) (c : Checking) (items : List (Item Rational)) : Type 0 where
  pub measures : AreMeasures c.on.net c.on.measures
  pub number : c.number ≡ length items + 1
  pub verdict : (rest : List (Item Rational)) → verdict_with limit c rest ≡ verdict limit c.on.net c.on.measures (items ++ rest)

-- no item was taken
pub record IsNew (limit : ℕ) (net : Network) (c : Checking) : Type 0 where
  pub instance : c.on.net ≡ net
  pub unrefused : c.refused ≡ None
  pub taken : HasTaken limit c []

-- no line that was taken is broken: whatever comes next, the first broken line is not above it
abbrev pub IsClear : ℕ → Checking → Type 0
IsClear limit c = (items : List (Item Rational)) (number : ℕ) (rule : Rule) → verdict_with limit c items ≡ Err (Broken number rule) → c.number ≤ number

-- one more item was taken, and its line is not broken
pub record Takes (limit : ℕ) (old : Checking) (item : Item Rational) (new : Checking) : Type 0 where
  pub on : new.on ≡ old.on
  pub number : new.number ≡ old.number + 1
  pub before : old.refused ≡ None
  pub behind : new.refused ≡ None
  pub verdict : (items : List (Item Rational)) → verdict_with limit new items ≡ verdict_with limit old (item ∷ items)
  pub taken : (items : List (Item Rational)) → HasTaken limit old items → HasTaken limit new (items ++ item ∷ [])
  pub clear : IsClear limit new

-- why an item is refused: what was refused before; else memory is wanting, or its line is the first broken one
abbrev pub IsRefusalOf : ℕ → Option CheckRefusal → Checking → Item Rational → CheckRefusal → Type 0
IsRefusalOf limit (Some earlier) old item refusal = refusal ≡ earlier
IsRefusalOf limit None old item refusal =
    (refusal ≡ Memory)
    ⊎ ((rule : Rule) × (refusal ≡ Broken old.number rule)
    × ((items : List (Item Rational)) → verdict_with limit old (item ∷ items) ≡ Err refusal))

-- an item is refused so, and from now on nothing else is answered
pub record Refuses (limit : ℕ) (old : Checking) (item : Item Rational) (refusal : CheckRefusal) (new : Checking) : Type 0 where
  pub cause : IsRefusalOf limit old.refused old item refusal
  pub failed : new.refused ≡ Some refusal

-- why there is no pair: what was refused before; else the next line is missing
abbrev pub IsEndRefusal : Option CheckRefusal → Checking → CheckRefusal → Type 0
IsEndRefusal (Some earlier) c refusal = refusal ≡ earlier
IsEndRefusal None c refusal = refusal ≡ Broken c.number Order

-- What stands at the head of a certificate that is accepted, and that the certificate is accepted in the second form too.
use Rattle.std.specs.Prelude.{◌≡◌, ◌⊎◌, ℕ, ◌+◌, nat_lt, Bool, true, false, List, [], ◌∷◌, ◌++◌, Some, Result, Ok, Err, refl}
use Rattle.std.proofs.Common.{ap, sym, subst, ◌∙◌, inl, inr}
use Rattle.npp_frac.specs.Rational.{Rational}
use Rattle.npp_net.specs.Network.{Network, toll_count}
use Rattle.npp_tree.specs.declared.item.Item.{Item}
use Rattle.npp_tree.specs.declared.item.Item.TheVariants as item
use Rattle.npp_tree.specs.declared.outcome.Status.{Status}
use Rattle.npp_tree.specs.Lines.{instance_lines as instance_items}
use Rattle.npp_check.specs.declared.refusal.CheckRefusal.{CheckRefusal}
use Rattle.npp_check.specs.declared.refusal.Rule.{Rule}
use Rattle.npp_check.specs.declared.refusal.Rule.TheVariants.{Instance}
use Rattle.npp_check.specs.EndLine.{Head}
use Rattle.npp_check.specs.HeadLines.{header_line, status_line, width_line, lower_line, upper_line, opened_line, instance_lines}
use Rattle.npp_check.specs.Measures.{Measures}
use Rattle.npp_check.specs.Rules.{broken_if}
use Rattle.npp_check.specs.Reads.{Reads, Lines, next_line, at_line, read_behind, unless_more}
use Rattle.npp_check.specs.Stages.{Case, from_header, from_status, from_width, from_lower, from_upper, from_opened, from_instance, from_tolls}
use Rattle.npp_check.specs.Verdict.{PairValue, Verdict, certificate, whole, verdict}
use Rattle.npp_check.proofs.StageLemmas.{starts}
use Rattle.npp_upgrade.specs.Upgraded.{upgraded, UpgradesAreAccepted}
use Rattle.npp_upgrade.proofs.ShiftedLemmas.{said, same_said, behind_shifted, tolls_shifted}
use Rattle.npp_upgrade.proofs.InstanceLemmas.{instance_is_read}

-- ---- the verdict is a pair exactly where all lines say it, and no line is left

pair_in : PairValue → Verdict → PairValue
pair_in pair (Ok p) = p
pair_in pair (Err refusal) = pair

same_pair : (p q : PairValue) → (let v : Verdict = Ok p in v ≡ Ok q) → p ≡ q
unfolding pair_in
same_pair p q e = ap (pair_in p) e

none_left : (p : PairValue) (number : ℕ) (items : List (Item Rational)) (pair : PairValue) → unless_more p number items ≡ Ok pair → ◌≡◌ {A = PairValue × List (Item Rational)} (p, items) (pair, [])
none_left p number [] pair e = ap (λ (q : PairValue). (q, [])) (same_pair p pair e)
none_left p number (i ∷ items) pair e = absurd cc

said_by : (v : Result (PairValue × Lines) CheckRefusal) (pair : PairValue) → whole v ≡ Ok pair → said v ≡ Some (pair, [])
said_by (Ok read) pair e = ap (λ (s : PairValue × List (Item Rational)). Some s) (none_left read.0 read.1.number read.1.items pair e)
said_by (Err refusal) pair e = absurd cc

unless_left : (p : PairValue) (number : ℕ) (items : List (Item Rational)) (pair : PairValue) → ◌≡◌ {A = PairValue × List (Item Rational)} (p, items) (pair, []) → unless_more p number items ≡ Ok pair
unless_left p number items pair e = ap (λ (s : PairValue × List (Item Rational)). unless_more s.0 number s.1) e

so_whole : (v : Result (PairValue × Lines) CheckRefusal) (pair : PairValue) → said v ≡ Some (pair, []) → whole v ≡ Ok pair
so_whole (Ok read) pair e = unless_left read.0 read.1.number read.1.items pair (same_said (read.0, read.1.items) (pair, []) e)
so_whole (Err refusal) pair e = absurd cc

-- ---- the next line

-- an item comes next, which says this, and the lines behind it say the rest
record Next {X Y : Type 0} (judge : Item Rational → Result X Rule) (next : X → Reads Y) (number : ℕ) (items : List (Item Rational)) (s : Y × List (Item Rational)) : Type 0 where
  head : Item Rational
  rest : List (Item Rational)
  value : X
  is : items ≡ head ∷ rest
  says : judge head ≡ Ok value
  behind : said (next value (record { number = number + 1; items = rest })) ≡ Some s

judged_so : {X Y : Type 0} (number : ℕ) (r : Result X Rule) (rest : List (Item Rational)) (next : X → Reads Y) (s : Y × List (Item Rational))
    → said (read_behind (at_line number r (record { number = number + 1; items = rest })) next) ≡ Some s
    → (x : X) × (r ≡ Ok x) × (said (next x (record { number = number + 1; items = rest })) ≡ Some s)
judged_so number (Ok x) rest next s e = (x, refl, e)
judged_so number (Err rule) rest next s e = absurd cc

next_of : {X Y : Type 0} (judge : Item Rational → Result X Rule) (next : X → Reads Y) (number : ℕ) (items : List (Item Rational)) (s : Y × List (Item Rational))
    → said (read_behind (next_line judge number items) next) ≡ Some s → Next judge next number items s
next_of judge next number [] s e = absurd cc
next_of judge next number (i ∷ items) s e =
    let so = judged_so number (judge i) items next s e in
    record { head = i; rest = items; value = so.0; is = refl; says = so.1; behind = so.2 }

-- ---- which items the lines of the head are

header_is : (net : Network) (i : Item Rational) (two : Bool) → header_line net i ≡ Ok two → ((i ≡ item.Header) × (two ≡ false)) ⊎ (i ≡ item.HeaderTwo)
header_is net item.Header two e = inl (refl, few (nat_lt 64 (toll_count net.arcs)) e)
  where
    few : (many : Bool) → broken_if many Instance (Ok false) ≡ Ok two → two ≡ false
    few true d = absurd cc
    few false d = cc
header_is net item.HeaderTwo two e = inr refl
header_is net other two e = absurd cc

status_is : (i : Item Rational) (s : Status) → status_line i ≡ Ok s → i ≡ item.StatusIs s
status_is (item.StatusIs t) s e = cc
status_is other s e = absurd cc

width_is : (i : Item Rational) (w : ℕ) → width_line i ≡ Ok w → i ≡ item.Width w
width_is (item.Width v) w e = cc
width_is other w e = absurd cc

lower_is : (i : Item Rational) (v : Rational) → lower_line i ≡ Ok v → i ≡ item.Lower v
lower_is (item.Lower w) v e = cc
lower_is other v e = absurd cc

upper_is : (i : Item Rational) (v : Rational) → upper_line i ≡ Ok v → i ≡ item.Upper v
upper_is (item.Upper w) v e = cc
upper_is other v e = absurd cc

opened_is : (i : Item Rational) (n : ℕ) → opened_line i ≡ Ok n → i ≡ item.Opened n
opened_is (item.Opened m) n e = cc
opened_is other n e = absurd cc

-- ---- the head

-- a certificate of the first form, down to `opened`
pub record IsFirstForm (items : List (Item Rational)) : Type 0 where
  pub status : Status
  pub width : ℕ
  pub lower : Rational
  pub upper : Rational
  pub opened : ℕ
  pub rest : List (Item Rational)
  pub is : items ≡ item.Header ∷ item.StatusIs status ∷ item.Width width ∷ item.Lower lower ∷ item.Upper upper ∷ item.Opened opened ∷ rest

pub record IsSecondForm (items : List (Item Rational)) : Type 0 where
  pub rest : List (Item Rational)
  pub is : items ≡ item.HeaderTwo ∷ rest

begins : (items rest more : List (Item Rational)) (i j : Item Rational) → items ≡ i ∷ rest → i ≡ j → rest ≡ more → items ≡ j ∷ more
begins items rest more i j e f g = e ∙ ap (λ (k : Item Rational). k ∷ rest) f ∙ ap (λ (r : List (Item Rational)). j ∷ r) g

module _ (limit : ℕ) (net : Network) (f : Measures) where
  abbrev on : Case
  on = record { net = net; measures = f }

  -- the head says this, and so do the lines behind it
  abbrev Says : List (Item Rational) → PairValue → Head → List (Item Rational) → Type 0
  Says items pair head rest = said (from_tolls limit on head (toll_count net.arcs) [] (record { number = 7; items = rest })) ≡ Some (pair, [])

  abbrev head_of : {items : List (Item Rational)} → IsFirstForm items → Head
  head_of h = record { status = h.status; lower = h.lower; upper = h.upper; opened = h.opened }

  abbrev Forms : List (Item Rational) → PairValue → Type 0
  Forms items pair = ((h : IsFirstForm items) × Says items pair (head_of h) h.rest) ⊎ IsSecondForm items

  forms : (items : List (Item Rational)) (pair : PairValue) → said (from_header limit on (record { number = 1; items = items })) ≡ Some (pair, []) → Forms items pair
  forms items pair e = let first = next_of (header_line net) (from_status limit on) 1 items (pair, []) e in by_header first (header_is net first.head first.value first.says)
    where
      by_header : (first : Next (header_line net) (from_status limit on) 1 items (pair, [])) → ((first.head ≡ item.Header) × (first.value ≡ false)) ⊎ (first.head ≡ item.HeaderTwo) → Forms items pair
      by_header first (inr two) = inr (record { rest = first.rest; is = begins items first.rest first.rest first.head item.HeaderTwo first.is two refl })
      by_header first (inl one) =
          let s : PairValue × List (Item Rational) = (pair, []) in
          let status = next_of status_line (from_width limit on first.value) 2 first.rest s first.behind in
          let width = next_of width_line (λ _. from_lower limit on first.value status.value) 3 status.rest s status.behind in
          let lower = next_of lower_line (from_upper limit on first.value status.value) 4 width.rest s width.behind in
          let upper = next_of upper_line (from_opened limit on first.value status.value lower.value) 5 lower.rest s lower.behind in
          let opened = next_of opened_line (λ n. from_instance limit on first.value (record { status = status.value; lower = lower.value; upper = upper.value; opened = n })) 6 upper.rest s upper.behind in
          let sixth = begins upper.rest opened.rest opened.rest opened.head (item.Opened opened.value) opened.is (opened_is opened.head opened.value opened.says) refl in
          let fifth = begins lower.rest upper.rest (item.Opened opened.value ∷ opened.rest) upper.head (item.Upper upper.value) upper.is (upper_is upper.head upper.value upper.says) sixth in
          let fourth = begins width.rest lower.rest (item.Upper upper.value ∷ item.Opened opened.value ∷ opened.rest) lower.head (item.Lower lower.value) lower.is (lower_is lower.head lower.value lower.says) fifth in
          let third = begins status.rest width.rest (item.Lower lower.value ∷ item.Upper upper.value ∷ item.Opened opened.value ∷ opened.rest) width.head (item.Width width.value) width.is (width_is width.head width.value width.says) fourth in
          let second = begins first.rest status.rest (item.Width width.value ∷ item.Lower lower.value ∷ item.Upper upper.value ∷ item.Opened opened.value ∷ opened.rest) status.head (item.StatusIs status.value) status.is (status_is status.head status.value status.says) third in
          inl (
            record { status = status.value; width = width.value; lower = lower.value; upper = upper.value; opened = opened.value; rest = opened.rest; is = begins items first.rest (item.StatusIs status.value ∷ item.Width width.value ∷ item.Lower lower.value ∷ item.Upper upper.value ∷ item.Opened opened.value ∷ opened.rest) first.head item.Header first.is one.0 second },
            subst (λ (two : Bool). said (from_instance limit on two (record { status = status.value; lower = lower.value; upper = upper.value; opened = opened.value }) (record { number = 7; items = opened.rest })) ≡ Some s) one.1 opened.behind,
          )

  head_said : (items : List (Item Rational)) (pair : PairValue) → verdict limit net f items ≡ Ok pair → said (from_header limit on (record { number = 1; items = items })) ≡ Some (pair, [])
  head_said items pair v = ap said (sym (starts limit net f (record { number = 1; items = items }))) ∙ said_by (certificate limit net f (record { number = 1; items = items })) pair v

  so_verdict : (items : List (Item Rational)) (pair : PairValue) → said (from_header limit on (record { number = 1; items = items })) ≡ Some (pair, []) → verdict limit net f items ≡ Ok pair
  so_verdict items pair e = so_whole (certificate limit net f (record { number = 1; items = items })) pair (ap said (starts limit net f (record { number = 1; items = items })) ∙ e)

  -- a certificate that is accepted is of one of the two forms
  pub is_of_form : (items : List (Item Rational)) (pair : PairValue) → verdict limit net f items ≡ Ok pair → IsFirstForm items ⊎ IsSecondForm items
  is_of_form items pair v = by_form (forms items pair (head_said items pair v))
    where
      by_form : Forms items pair → IsFirstForm items ⊎ IsSecondForm items
      by_form (inl first) = inl first.0
      by_form (inr second) = inr second

  first_accepted : (items : List (Item Rational)) (pair : PairValue) (h : IsFirstForm items) → Says items pair (head_of h) h.rest → verdict limit net f (upgraded net items) ≡ Ok pair
  first_accepted items pair h says =
      let head : Head = head_of h in
      let read = instance_is_read net 7 h.rest in
      let behind : said (from_instance limit on true head (record { number = 7; items = instance_items net ++ h.rest })) ≡ Some (pair, []) =
      behind_shifted (instance_lines net true (record { number = 7; items = instance_items net ++ h.rest })) (Ok (read.0, record { number = 7; items = h.rest }))
      (λ _. from_tolls limit on head (toll_count net.arcs) []) read.1 (λ _. tolls_shifted limit on head (toll_count net.arcs) []) ∙ says in
      ap (λ (all : List (Item Rational)). verdict limit net f (upgraded net all)) h.is
      ∙ so_verdict (upgraded net (item.Header ∷ item.StatusIs h.status ∷ item.Width h.width ∷ item.Lower h.lower ∷ item.Upper h.upper ∷ item.Opened h.opened ∷ h.rest)) pair behind

  second_accepted : (items : List (Item Rational)) (pair : PairValue) → IsSecondForm items → verdict limit net f items ≡ Ok pair → verdict limit net f (upgraded net items) ≡ Ok pair
  second_accepted items pair h v = ap (λ (all : List (Item Rational)). verdict limit net f (upgraded net all)) h.is ∙ ap (verdict limit net f) (sym h.is) ∙ v

  pub accepted : (items : List (Item Rational)) (pair : PairValue) → verdict limit net f items ≡ Ok pair → verdict limit net f (upgraded net items) ≡ Ok pair
  accepted items pair v = by_form (forms items pair (head_said items pair v))
    where
      by_form : Forms items pair → verdict limit net f (upgraded net items) ≡ Ok pair
      by_form (inl first) = first_accepted items pair first.0 first.1
      by_form (inr second) = second_accepted items pair second v

pub upgrades_accepted : UpgradesAreAccepted
upgrades_accepted limit net f items pair v = accepted limit net f items pair v

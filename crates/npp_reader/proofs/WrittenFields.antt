-- The fields of canonical lines: that they are fields, and what reading takes them for.
use Rattle.std.proofs.Common.{◌≡◌, ℕ, ◌<◌, ◌≤◌, ◌^◌, Bool, true, false, ◌&&◌, List, [], ◌∷◌, length, get_or, Option, Some, None, Ok, map, All, ◌++◌, if◌then◌else◌, refl, sym, subst, arith, codes, nat_le}
use Rattle.std.specs.Char.{digit_value, is_ascii_digit}
use Rattle.std.specs.Fmt.{decimal}
use Rattle.std.specs.List.{list_all, position_or_len, AllByRecursion}
use Rattle.std.specs.Str.{bytes_eq}
use Rattle.std.specs.Str.Parse.{AllDigits, digits_value}
use Rattle.std.proofs.lemmas.Bool.{le-leb, le-ltb, false_from_ne_true, false≢true}
use Rattle.std.proofs.lemmas.Bool.Decides.{nat_tests}
use Rattle.std.proofs.lemmas.Fmt.{decimal_is_IsNumeral, length-decimal-le}
use Rattle.std.proofs.lemmas.List.Folds.{list_any_at}
use Rattle.std.proofs.lemmas.List.Sums.{position_or_len_is, list_all-from_AllPass, AllPass-from_list_all}
use Rattle.std.proofs.lemmas.Slice.Eq.{bytes_eq-Decides}
use Rattle.std.proofs.lemmas.List.Elements.{All-head, All-tail}
use Rattle.npp_net.specs.declared.types.NodeId.{NodeId}
use Rattle.npp_net.specs.declared.types.NetArc.{NetArc}
use Rattle.npp_net.specs.declared.types.Commodity.{Commodity}
use Rattle.npp_net.specs.Network.{IsArc, IsCommodity}
use Rattle.npp_reader.specs.declared.format.Format.{Format}
use Rattle.npp_reader.specs.declared.format.Format.TheVariants.{One, Two}
use Rattle.npp_reader.specs.Format.{header_fields}
use Rattle.npp_net.specs.Refusal.{is_ceiling_too_large}
use Rattle.npp_reader.specs.Fields.{is_name, is_number, is_name_byte, is_ceiling, ceiling_value, no_ceiling}
use Rattle.npp_reader.specs.Names.{AreNames, is_declared}
use Rattle.npp_reader.specs.Grammar.{judged, link_faults, link_said, link_of}
use Rattle.npp_reader.specs.Canonical.{name_of, ceiling_field, ceiling_fields, node_fields, arc_fields, pair_fields}
use Rattle.npp_reader.proofs.FieldLemmas.{both}
use Rattle.npp_reader.proofs.FieldLines.{IsField, AreFields, is_visible, field_test}

-- a name is a field
name_byte_visible : (b : ℕ) → is_name_byte b ≡ true → is_visible b ≡ true
name_byte_visible b e = grind (arith, nat_tests)

name_field : (name : List ℕ) → is_name name ≡ true → IsField name
unfolding is_name
name_field name e =
    let parts = both (nat_le 1 (length name) && nat_le (length name) 32) (list_all is_name_byte name) e in
    let some = both (nat_le 1 (length name)) (nat_le (length name) 32) parts.0 in
    let each = AllPass-from_list_all is_name_byte name parts.1 in
    field_test name (grind (arith, nat_tests)) (list_all-from_AllPass is_visible name (λ k d h. name_byte_visible (get_or name k d) (each k d h)))

-- the text of a number is one, and a field
digit_byte : (b : ℕ) → digit_value b < 10 → is_ascii_digit b ≡ true
digit_byte b h = grind (arith, nat_tests)

digits_ascii : (digits : List ℕ) → AllDigits 10 digits → list_all is_ascii_digit digits ≡ true
digits_ascii [] all = refl
digits_ascii (d ∷ digits) all = rw (digit_byte d all.0, digits_ascii digits all.1)

digits_visible : (digits : List ℕ) → AllDigits 10 digits → list_all is_visible digits ≡ true
digits_visible [] all = refl
digits_visible (d ∷ digits) all = rw (digit_visible d (digit_byte d all.0), digits_visible digits all.1) where
  digit_visible : (b : ℕ) → is_ascii_digit b ≡ true → is_visible b ≡ true
  digit_visible b e = grind (arith, nat_tests)

decimal_digits : (n : ℕ) → n ≤ 1000000000 → list_all is_ascii_digit (decimal n) ≡ true
decimal_digits n h = digits_ascii (decimal n) (decimal_is_IsNumeral n (omega arith)).0.1

pub decimal_number : (n : ℕ) → n ≤ 1000000000 → is_number (decimal n) ≡ true
unfolding is_number
decimal_number n h =
    let small : n < 2 ^ 64 = omega arith in
    let ten : n < 10 ^ 10 = omega arith in
    let numeral = decimal_is_IsNumeral n small in
    let short = length-decimal-le 10 n (omega arith) ten small in
    rw (le-leb 1 (length (decimal n)) numeral.0.0, le-leb (length (decimal n)) 18 (omega arith)) (digits_ascii (decimal n) numeral.0.1)

pub decimal_value : (n : ℕ) → n ≤ 1000000000 → digits_value 10 (decimal n) ≡ n
decimal_value n h = (decimal_is_IsNumeral n (omega arith)).1

decimal_field : (n : ℕ) → n ≤ 1000000000 → IsField (decimal n)
decimal_field n h =
    let numeral = decimal_is_IsNumeral n (omega arith) in
    field_test (decimal n) numeral.0.0 (digits_visible (decimal n) numeral.0.1)

-- a name stands at its own place first
same_bytes : (name : List ℕ) → bytes_eq name name ≡ true
same_bytes name = (bytes_eq-Decides name name).1 refl

name_place : (names : List (List ℕ)) (node : NodeId) → AreNames names → node.0 < length names → position_or_len (bytes_eq (name_of names node)) names ≡ node.0
name_place names node are h = position_or_len_is (bytes_eq (name_of names node)) names node.0 [] (omega arith)
    (λ k below. false_from_ne_true (bytes_eq (name_of names node) (get_or names k [])) (λ same.
    are.differ k node.0 [] below h (sym ((bytes_eq-Decides (name_of names node) (get_or names k [])).0 same))))
    (λ within. same_bytes (name_of names node))

name_known : (names : List (List ℕ)) (node : NodeId) → node.0 < length names → is_declared names (name_of names node) ≡ true
name_known names node h = list_any_at (bytes_eq (name_of names node)) names node.0 [] h (same_bytes (name_of names node))

-- the text of a number is not that of no ceiling
decimal_other : (n : ℕ) → n ≤ 1000000000 → bytes_eq (decimal n) no_ceiling ≡ false
decimal_other n h = false_from_ne_true (bytes_eq (decimal n) no_ceiling) (λ same.
    let is : decimal n ≡ no_ceiling = (bytes_eq-Decides (decimal n) no_ceiling).0 same in
    let digits : list_all is_ascii_digit no_ceiling ≡ true = subst (λ (text : List ℕ). list_all is_ascii_digit text ≡ true) is (decimal_digits n h) in
    false≢true digits)

-- a ceiling within the limit
abbrev pub IsCeiling : Option ℕ → Type 0
IsCeiling ceiling = (u : ℕ) → ceiling ≡ Some u → u ≤ 1000000000

ceiling_good : (ceiling : Option ℕ) → IsCeiling ceiling → is_ceiling (ceiling_field ceiling) ≡ true
unfolding is_ceiling
ceiling_good None few = refl
ceiling_good (Some u) few = rw (decimal_other u (few u refl), decimal_number u (few u refl)) refl

ceiling_reads : (ceiling : Option ℕ) → IsCeiling ceiling → ceiling_value (ceiling_field ceiling) ≡ ceiling
unfolding ceiling_value
ceiling_reads None few = refl
ceiling_reads (Some u) few = rw (decimal_other u (few u refl), decimal_value u (few u refl)) refl

ceiling_small : (ceiling : Option ℕ) → IsCeiling ceiling → is_ceiling_too_large ceiling ≡ false
ceiling_small None few = refl
ceiling_small (Some u) few = le-ltb 1000000000 u (few u refl)

ceiling_is_field : (ceiling : Option ℕ) → IsCeiling ceiling → IsField (ceiling_field ceiling)
ceiling_is_field None few = field_test no_ceiling (omega arith) refl
ceiling_is_field (Some u) few = decimal_field u (few u refl)

-- what the fields of a link say
fields_read : (names : List (List ℕ)) (from to : NodeId) (n : ℕ) (ceiling : Option ℕ) → AreNames names → from.0 < length names → to.0 < length names → n ≤ 1000000 → IsCeiling ceiling
    → judged (link_faults names (name_of names from) (name_of names to) (decimal n) (ceiling_field ceiling)) (link_said names (name_of names from) (name_of names to) (decimal n) (ceiling_field ceiling))
    ≡ Ok (record { from = from; to = to; number = n; ceiling = ceiling })
fields_read names from to n ceiling are f t h few =
    rw (
      are.each from.0 [] f,
      are.each to.0 [] t,
      decimal_number n (omega arith),
      ceiling_good ceiling few,
      decimal_value n (omega arith),
      le-ltb 1000000 n h,
      ceiling_reads ceiling few,
      ceiling_small ceiling few,
      name_known names from f,
      name_known names to t,
      name_place names from are f,
      name_place names to are t,
    )

-- without a field for the ceiling
pub link_plain : (names : List (List ℕ)) (from to : NodeId) (n : ℕ) → AreNames names → from.0 < length names → to.0 < length names → n ≤ 1000000
    → link_of false names (name_of names from ∷ name_of names to ∷ decimal n ∷ []) ≡ Ok (record { from = from; to = to; number = n; ceiling = None })
unfolding link_of
link_plain names from to n are f t h = fields_read names from to n None are f t h (λ u some. absurd cc)

-- with one
pub link_asked : (names : List (List ℕ)) (from to : NodeId) (n : ℕ) (ceiling : Option ℕ) → AreNames names → from.0 < length names → to.0 < length names → n ≤ 1000000 → IsCeiling ceiling
    → link_of true names (name_of names from ∷ name_of names to ∷ decimal n ∷ ceiling_field ceiling ∷ []) ≡ Ok (record { from = from; to = to; number = n; ceiling = ceiling })
unfolding link_of
link_asked names from to n ceiling are f t h few = fields_read names from to n ceiling are f t h few

-- each field of each line is one
pub fields_all : {X : Type 0} (f : X → List (List ℕ)) (P : X → Type 0) → ((x : X) → P x → AreFields (f x)) → (xs : List X) → All P xs → (more : List (List (List ℕ)))
    → AllByRecursion AreFields more → AllByRecursion AreFields (map f xs ++ more)
fields_all f P each [] all more rest = rest
fields_all f P each (x ∷ xs) all more rest = (each x (All-head P x xs all), fields_all f P each xs (All-tail P x xs all) more rest)

pub arc_are : (format : Format) (names : List (List ℕ)) → AreNames names → (x : NetArc) → IsArc (length names) x → AreFields (arc_fields format names x)
arc_are format names are x is = (
  word x.toll,
  (
    name_field (name_of names x.tail) (are.each x.tail.0 [] is.tail),
    (name_field (name_of names x.head) (are.each x.head.0 [] is.head), (decimal_field x.cost (omega (arith, is.cost)), last x.toll format)),
  ),
) where
  word : (toll : Bool) → IsField (if toll then codes "toll" else codes "free")
  word true = field_test (codes "toll") (omega arith) refl
  word false = field_test (codes "free") (omega arith) refl

  last : (toll : Bool) (f : Format) → AreFields (if toll then ceiling_fields f x else [])
  last false f = tt
  last true One = tt
  last true Two = (ceiling_is_field x.ceiling is.ceiling, tt)

pub header_are : (format : Format) → AreFields (header_fields format)
header_are One = (field_test (codes "npp") (omega arith) refl, (field_test (codes "1") (omega arith) refl, tt))
header_are Two = (field_test (codes "npp") (omega arith) refl, (field_test (codes "2") (omega arith) refl, tt))

pub pair_are : (names : List (List ℕ)) → AreNames names → (k : Commodity) → IsCommodity (length names) k → AreFields (pair_fields names k)
pair_are names are k is = (
  field_test (codes "pair") (omega arith) refl,
  (
    name_field (name_of names k.origin) (are.each k.origin.0 [] is.origin),
    (name_field (name_of names k.destination) (are.each k.destination.0 [] is.destination), (decimal_field k.demand (omega (arith, is.demand)), tt)),
  ),
)

pub node_are : (name : List ℕ) → is_name name ≡ true → AreFields (node_fields name)
node_are name good = (field_test (codes "node") (omega arith) refl, (name_field name good, tt))

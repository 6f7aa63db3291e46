-- What is taken from the front of a line was written there.
use Rattle.std.proofs.Common.{◌≡◌, ◌∙◌, ◌≤◌, ◌^◌, ap, ap₂, sym, refl, subst, ℕ, Bool, true, false, List, [], ◌∷◌, ◌++◌, length, map, nat_le, Option, Some, None, cond, append-nil, append_assoc}
use Rattle.std.specs.Prelude.{⊤, option_map, option_and_then}
use Rattle.std.specs.List.{AllByRecursion}
use Rattle.std.specs.Str.{bytes_eq}
use Rattle.std.proofs.lemmas.Bool.{leb-true}
use Rattle.std.proofs.lemmas.List.{map-append, length-map}
use Rattle.std.proofs.lemmas.Slice.Eq.{bytes_eq-Decides}
use Rattle.npp_cert_text.proofs.FieldText.{Field, text, number, wide, fraction, field_text, FieldFits}
use Rattle.npp_cert_text.specs.Values.{whole_in, fraction_in}
use Rattle.npp_cert_text.specs.Taking.{Takes, Forms, and_then, done, first_of, take_number, take_wide, take_fraction, take_numbers, all_numbers, form_of, by_word}
use Rattle.npp_cert_text.proofs.ValueLemmas.{whole_read, fraction_read}

infixr 2 ◌▸◌
abbrev pub ◌▸◌ : {A B : Type 0} → A → B → A × B
a ▸ b = (a, b)

abbrev pub texts : List Field → List (List ℕ)
texts fields = map field_text fields

abbrev pub Fit : List Field → Type 0
Fit fields = AllByRecursion FieldFits fields

-- behind some fields, what was taken and the fields behind it
pub record Took {X : Type 0} (front : List Field) (says : X → List Field) (Holds : X → Type 0) (before : List (List ℕ)) (said : X × List (List ℕ)) : Type 0 where
  pub text : texts front ++ before ≡ texts (says said.0) ++ said.1
  pub fits : Fit front → Fit (says said.0)
  pub holds : Holds said.0

abbrev pub IsSound : {X : Type 0} → List Field → (X → List Field) → (X → Type 0) → Takes X → Type 0
IsSound front says Holds take = (before : List (List ℕ)) (said : _) → take before ≡ Some said → Took front says Holds before said

fit-append : (xs ys : List Field) → Fit xs → Fit ys → Fit (xs ++ ys)
fit-append [] ys f g = g
fit-append (x ∷ xs) ys f g = (f.0, fit-append xs ys f.1 g)

pub and_then_some : {X Y : Type 0} (o : Option X) (next : X → Option Y) (y : Y) → option_and_then next o ≡ Some y → (x : X) × (o ≡ Some x) × (next x ≡ Some y)
and_then_some (Some x) next y e = (x, refl, e)
and_then_some None next y e = absurd cc

pub cond_some : {X : Type 0} (b : Bool) (o : Option X) (x : X) → cond b o None ≡ Some x → (b ≡ true) × (o ≡ Some x)
cond_some true o x e = (refl, e)
cond_some false o x e = absurd cc

pub map_some : {X Y : Type 0} (o : Option X) (f : X → Y) (y : Y) → option_map f o ≡ Some y → (x : X) × (o ≡ Some x) × (f x ≡ y)
map_some (Some x) f y e = (x, refl, cc)
map_some None f y e = absurd cc

-- first the one, and then the other
pub then : {X Y : Type 0} {front : List Field} {p : X → List Field} {P : X → Type 0} {says : Y → List Field} {Holds : Y → Type 0} {first : Takes X} {next : X → Takes Y}
    → IsSound [] p P first → ((x : X) → P x → IsSound (front ++ p x) says Holds (next x)) → IsSound front says Holds (and_then first next)
unfolding and_then
then {front = front} {p = p} {first = first} {next = next} sound more before said e =
    let one = and_then_some (first before) (λ x. next x.0 x.1) said e in
    let took = sound before one.0 one.1 in
    let two = more one.0.0 took.holds one.0.1 said one.2 in
    record {
      text = ap (λ fields. texts front ++ fields) took.text
          ∙ sym (append_assoc (texts front) (texts (p one.0.0)) one.0.1)
          ∙ ap (λ fields. fields ++ one.0.1) (sym (map-append field_text front (p one.0.0)))
          ∙ two.text;
      fits = λ f. two.fits (fit-append front (p one.0.0) f (took.fits tt));
      holds = two.holds;
    }

-- all is said
pub said_as : {X : Type 0} {front : List Field} {says : X → List Field} {Holds : X → Type 0} (x : X) → front ≡ says x → Holds x → IsSound front says Holds (done x)
said_as {front = front} {says = says} {Holds = Holds} x same holds before said e =
    let is : (x, before) ≡ said = cc in
    subst (Took front says Holds before) is (record {
      text = ap (λ fields. texts fields ++ before) same;
      fits = λ f. subst Fit same f;
      holds = holds;
    })

-- one field
pub first_sound : {X : Type 0} {p : X → List Field} {P : X → Type 0} (reads : List ℕ → Option X)
    → ((field : List ℕ) (x : X) → reads field ≡ Some x → (field ∷ [] ≡ texts (p x)) × Fit (p x) × P x) → IsSound [] p P (first_of reads)
first_sound reads each [] said e = absurd cc
first_sound {p = p} {P = P} reads each (field ∷ fields) said e =
    let read = map_some (reads field) (λ x. (x, fields)) said e in
    let is = each field read.0 read.1 in
    subst (Took [] p P (field ∷ fields)) read.2 (record {
      text = ap (λ front. front ++ fields) is.0;
      fits = λ f. is.1;
      holds = is.2;
    })

pub number_sound : IsSound [] (λ n. number n ∷ []) (λ n. ⊤) take_number
number_sound = first_sound (whole_in (2 ^ 32)) (λ field n e. let read = whole_read (2 ^ 32) n field e in (ap (λ t. t ∷ []) read.0, (read.1, tt), tt))

pub wide_sound : IsSound [] (λ n. wide n ∷ []) (λ n. ⊤) take_wide
wide_sound = first_sound (whole_in (2 ^ 64)) (λ field n e. let read = whole_read (2 ^ 64) n field e in (ap (λ t. t ∷ []) read.0, (read.1, tt), tt))

pub fraction_sound : IsSound [] (λ q. fraction q ∷ []) (λ q. ⊤) take_fraction
fraction_sound = first_sound fraction_in (λ field q e. let read = fraction_read q field e in (ap (λ t. t ∷ []) read.0, (read.1, tt), tt))

-- words, and what follows each
pub forms_sound : {X : Type 0} {front : List Field} {says : X → List Field} {Holds : X → Type 0} (forms : Forms X)
    → AllByRecursion (λ form. IsSound (front ++ text form.0 ∷ []) says Holds form.1) forms → IsSound front says Holds (by_word forms)
forms_sound forms each [] said e = absurd cc
forms_sound {X = X} {front = front} {says = says} {Holds = Holds} forms each (word ∷ fields) said e = go forms each e
  where
    moved : (name : List ℕ) → word ≡ name → Took (front ++ text name ∷ []) says Holds fields said → Took front says Holds (word ∷ fields) said
    moved name same took = record {
      text = ap (λ w. texts front ++ w ∷ fields) same
          ∙ sym (append_assoc (texts front) (name ∷ []) fields)
          ∙ ap (λ t. t ++ fields) (sym (map-append field_text front (text name ∷ [])))
          ∙ took.text;
      fits = λ f. took.fits (fit-append front (text name ∷ []) f (tt, tt));
      holds = took.holds;
    }

    choose : (b : Bool) (name : List ℕ) (this others : Takes X) → bytes_eq word name ≡ b → IsSound (front ++ text name ∷ []) says Holds this
        → (others fields ≡ Some said → Took front says Holds (word ∷ fields) said) → (cond b this others) fields ≡ Some said → Took front says Holds (word ∷ fields) said
    choose true name this others test sound rest k = moved name ((bytes_eq-Decides word name).0 test) (sound fields said k)
    choose false name this others test sound rest k = rest k

    go : (fs : Forms X) → AllByRecursion (λ form. IsSound (front ++ text form.0 ∷ []) says Holds form.1) fs → form_of fs word fields ≡ Some said → Took front says Holds (word ∷ fields) said
    go [] all h = absurd cc
    go (form ∷ fs) all h = choose (bytes_eq word form.0) form.0 form.1 (form_of fs word) refl all.0 (go fs all.1) h

-- numbers, as many as there are fields
pub all_numbers_read : (fields : List (List ℕ)) (ns : List ℕ) → all_numbers fields ≡ Some ns → (fields ≡ texts (map number ns)) × Fit (map number ns)
all_numbers_read [] ns e = let is : [] ≡ ns = cc in subst (λ xs. ([] ≡ texts (map number xs)) × Fit (map number xs)) is (refl, tt)
all_numbers_read (field ∷ fields) ns e =
    let first = and_then_some (whole_in (2 ^ 32) field) (λ n. option_map (λ rest. n ∷ rest) (all_numbers fields)) ns e in
    let read = whole_read (2 ^ 32) first.0 field first.1 in
    let others = map_some (all_numbers fields) (λ rest. first.0 ∷ rest) ns first.2 in
    let known = all_numbers_read fields others.0 others.1 in
    subst (λ xs. (field ∷ fields ≡ texts (map number xs)) × Fit (map number xs)) others.2 (ap₂ ◌∷◌ read.0 known.0, (read.1, known.1))

pub all_numbers_length : (fields : List (List ℕ)) (ns : List ℕ) → fields ≡ texts (map number ns) → length ns ≡ length fields
all_numbers_length fields ns e = sym (length-map ns number) ∙ sym (length-map (map number ns) field_text) ∙ ap length (sym e)

pub numbers_sound : (least : ℕ) → IsSound [] (λ ns. map number ns) (λ ns. least ≤ length ns) (take_numbers least)
numbers_sound least before said e =
    let test = cond_some (nat_le least (length before)) (option_map (λ ns. (ns, [])) (all_numbers before)) said e in
    let many = map_some (all_numbers before) (λ ns. (ns, [])) said test.1 in
    let read = all_numbers_read before many.0 many.1 in
    subst (Took [] (λ ns. map number ns) (λ ns. least ≤ length ns) before) many.2 (record {
      text = read.0 ∙ sym (append-nil (texts (map number many.0)));
      fits = λ f. read.1;
      holds = rw (all_numbers_length before many.0 read.0) (leb-true least (length before) test.0);
    })

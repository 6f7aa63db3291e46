-- The fields of an arc's or a commodity's line, and that names which follow change nothing of them.
use Rattle.std.proofs.Common.{◌≡◌, ℕ, ◌+◌, Bool, true, false, ◌||◌, not, cond, List, [], ◌∷◌, ◌++◌, Some, Ok, refl, ap, codes}
use Rattle.std.specs.List.{list_any, position_or_len}
use Rattle.std.specs.Str.{bytes_eq}
use Rattle.npp_net.specs.declared.types.NetArc.{NetArc}
use Rattle.npp_reader.specs.declared.link.Link.{Link}
use Rattle.npp_reader.specs.Fields.{no_ceiling, ceiling_value}
use Rattle.npp_reader.specs.Names.{is_declared, node_of}
use Rattle.npp_reader.specs.Grammar.{judged, link_of, link_said, link_faults}
use Rattle.npp_reader.specs.Declaring.{arc_declared}
use Rattle.npp_reader.proofs.WithinLemmas.{judged_ok, not_false}

-- the place of a name that is declared stays where more follow
place_step : (b any : Bool) (n m : ℕ) → (b || any) ≡ true → (any ≡ true → n ≡ m) → cond (not b) (1 + n) 0 ≡ cond (not b) (1 + m) 0
place_step true any n m e rest = refl
place_step false any n m e rest = ap (λ (k : ℕ). 1 + k) (rest e)

place_stays : (p : List ℕ → Bool) (names more : List (List ℕ)) → list_any p names ≡ true → position_or_len p (names ++ more) ≡ position_or_len p names
place_stays p [] more e = absurd cc
place_stays p (x ∷ names) more e =
    place_step (p x) (list_any p names) (position_or_len p (names ++ more)) (position_or_len p names) e (place_stays p names more)

pub node_stays : (names more : List (List ℕ)) (name : List ℕ) → is_declared names name ≡ true → node_of (names ++ more) name ≡ node_of names name
node_stays names more name e = ap (λ (k : ℕ). record { 0 = k }) (place_stays (bytes_eq name) names more e)

-- the ceiling behind the other fields, where it is asked for
abbrev pub behind : Bool → List ℕ → List (List ℕ)
behind false ceiling = []
behind true ceiling = ceiling ∷ []

-- the fields of a link
pub record IsLink (asked : Bool) (names : List (List ℕ)) (fields : List (List ℕ)) (link : Link) : Type 0 where
  pub from : List ℕ
  pub to : List ℕ
  pub number : List ℕ
  pub ceiling : List ℕ
  pub fields_are : fields ≡ from ∷ to ∷ number ∷ behind asked ceiling
  pub none : asked ≡ false → ceiling ≡ no_ceiling
  pub from_known : is_declared names from ≡ true
  pub to_known : is_declared names to ≡ true
  pub link_is : link_said names from to number ceiling ≡ link

fields_parts : (asked : Bool) (names : List (List ℕ)) (from to number ceiling : List ℕ) (link : Link) → (asked ≡ false → ceiling ≡ no_ceiling)
    → judged (link_faults names from to number ceiling) (link_said names from to number ceiling) ≡ Ok link
    → IsLink asked names (from ∷ to ∷ number ∷ behind asked ceiling) link
fields_parts asked names from to number ceiling link none e =
    let rows = judged_ok (link_faults names from to number ceiling) (link_said names from to number ceiling) link e in
    record {
      from = from;
      to = to;
      number = number;
      ceiling = ceiling;
      fields_are = refl;
      none = none;
      from_known = not_false _ rows.0.1.1.1.1.1.1.0;
      to_known = not_false _ rows.0.1.1.1.1.1.1.1.0;
      link_is = rows.1;
    }

pub link_parts : (asked : Bool) (names : List (List ℕ)) (fields : List (List ℕ)) (link : Link) → link_of asked names fields ≡ Ok link → IsLink asked names fields link
unfolding link_of
link_parts false names (from ∷ to ∷ number ∷ []) link e = fields_parts false names from to number no_ceiling link (λ plain. refl) e
link_parts true names (from ∷ to ∷ number ∷ ceiling ∷ []) link e = fields_parts true names from to number ceiling link (λ plain. absurd cc) e
link_parts _ names _ link e = absurd cc

-- the arc that such a line declares
abbrev pub arc_said : Bool → Link → NetArc
arc_said toll link = record { tail = link.from; head = link.to; cost = link.number; toll = toll; ceiling = link.ceiling }

pub arc_line : (asked : Bool) (names : List (List ℕ)) (word from to number ceiling : List ℕ) (toll : Bool)
    → (bytes_eq word (codes "free") || bytes_eq word (codes "toll")) ≡ true → bytes_eq word (codes "toll") ≡ toll
    → (asked ≡ true → toll ≡ true) → (asked ≡ false → ceiling ≡ no_ceiling)
    → arc_declared names (word ∷ from ∷ to ∷ number ∷ behind asked ceiling) ≡ Some (arc_said toll (link_said names from to number ceiling))
unfolding ceiling_value
arc_line false names word from to number ceiling toll arc is asks none = rw (arc, is, none refl) refl
arc_line true names word from to number ceiling toll arc is asks none = rw (is, asks refl) refl

-- names that follow change none of it
pub link_stays : (asked : Bool) (names more : List (List ℕ)) (fields : List (List ℕ)) (link : Link) (parts : IsLink asked names fields link)
    → link_said (names ++ more) parts.from parts.to parts.number parts.ceiling ≡ link
link_stays asked names more fields link parts =
    rw (node_stays names more parts.from parts.from_known, node_stays names more parts.to parts.to_known) parts.link_is

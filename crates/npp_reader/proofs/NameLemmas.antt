-- The texts of an index, and their bytes.
use Rattle.std.proofs.Common.{◌≡◌, ◌≢◌, ℕ, ◌+◌, ◌<◌, Bool, true, false, ◌||◌, cond, not, List, [], ◌∷◌, ◌++◌, length, get_or, refl, sym, ◌∙◌, ap, arith, subst, AllPairs, String, string_bytes, length-append, append-nil, Some, None, position, ltb}
use Rattle.std.specs.List.{list_any, position_or_len}
use Rattle.std.specs.Str.{bytes_eq}
use Rattle.std.specs.String.{string_eq}
use Rattle.std.specs.declared.alloc.Global.{Global}
use Rattle.std.proofs.Math.Seq.{get_or-append_seam}
use Rattle.std.proofs.lemmas.Bool.{false_from_ne_true}
use Rattle.std.proofs.lemmas.List.{map-append, get_or_append_left}
use Rattle.std.proofs.lemmas.List.Elements.{All-push}
use Rattle.std.proofs.lemmas.List.Folds.{list_any_at, list_any_none}
use Rattle.std.proofs.lemmas.List.Quantifiers.{all_pairs_push}
use Rattle.std.proofs.lemmas.Slice.Eq.{bytes_eq-Decides}
use Rattle.indexmap.specs.IndexSet.{insert_key}
use Rattle.npp_reader.specs.Fields.{is_name}
use Rattle.npp_reader.specs.Names.{AreNames, texts, is_declared}

pub any_texts : (name : List ℕ) (keys : List (String Global)) → list_any (λ k. bytes_eq name (string_bytes k)) keys ≡ is_declared (texts keys) name
any_texts name [] = refl
any_texts name (k ∷ keys) = ap (λ (b : Bool). bytes_eq name (string_bytes k) || b) (any_texts name keys)

pub place_texts : (name : List ℕ) (keys : List (String Global))
    → position_or_len (λ k. bytes_eq name (string_bytes k)) keys ≡ position_or_len (bytes_eq name) (texts keys)
place_texts name [] = refl
place_texts name (k ∷ keys) = ap (λ (n : ℕ). cond (not (bytes_eq name (string_bytes k))) (1 + n) 0) (place_texts name keys)

pub any_equal : (value : String Global) (keys : List (String Global)) → list_any (string_eq value) keys ≡ is_declared (texts keys) (string_bytes value)
any_equal value keys = any_texts (string_bytes value) keys

pub push_texts : (keys : List (String Global)) (value : String Global) → texts (keys ++ value ∷ []) ≡ texts keys ++ string_bytes value ∷ []
push_texts keys value = map-append string_bytes keys (value ∷ [])

-- a name that is not declared differs from each that is
pub differs : (names : List (List ℕ)) (name : List ℕ) → is_declared names name ≡ false → (k : ℕ) (d : List ℕ) → k < length names → get_or names k d ≢ name
differs names name none k d h same =
    let one : is_declared names name ≡ true = list_any_at (bytes_eq name) names k d h ((bytes_eq-Decides name (get_or names k d)).1 (sym same)) in
    cc

pub names_push : (names : List (List ℕ)) (name : List ℕ) → AreNames names → is_name name ≡ true → is_declared names name ≡ false → AreNames (names ++ name ∷ [])
names_push names name are good none = record {
  each = All-push (λ n. is_name n ≡ true) names name are.each good;
  differ = all_pairs_push ◌≢◌ names name are.differ (differs names name none);
}

-- the place of a text that is found
pub position_place : (name : List ℕ) (keys : List (String Global)) (i : ℕ) → position (λ k. bytes_eq name (string_bytes k)) keys ≡ Some i
    → i ≡ position_or_len (bytes_eq name) (texts keys)
position_place name keys i e = place (ltb (position_or_len (λ k. bytes_eq name (string_bytes k)) keys) (length keys)) e where
  place : (b : Bool) → cond b (Some (position_or_len (λ k. bytes_eq name (string_bytes k)) keys)) None ≡ Some i → i ≡ position_or_len (bytes_eq name) (texts keys)
  place true e = let same : position_or_len (λ k. bytes_eq name (string_bytes k)) keys ≡ i = cc in sym same ∙ place_texts name keys
  place false e = absurd cc

-- a text that is not there goes last
pub put_texts : (keys : List (String Global)) (value : String Global) (new : List (String Global)) → new ≡ insert_key string_eq keys value
    → is_declared (texts keys) (string_bytes value) ≡ false → texts new ≡ texts keys ++ string_bytes value ∷ []
put_texts keys value new put none =
    let absent : list_any (string_eq value) keys ≡ false = any_equal value keys ∙ none in
    ap texts (put ∙ rw absent) ∙ push_texts keys value

-- of names that differ, none stands before itself
pub none_before : (front : List (List ℕ)) (name : List ℕ) (back : List (List ℕ)) → AllPairs ◌≢◌ (front ++ name ∷ back) → is_declared front name ≡ false
none_before front name back differ = list_any_none (bytes_eq name) front (λ k d h.
    false_from_ne_true (bytes_eq name (get_or front k d)) (λ yes.
    let within : length front < length (front ++ name ∷ back) = simp length-append (omega arith) in
    let apart = differ k (length front) d h within in
    apart (get_or_append_left front (name ∷ back) d k h ∙ (sym ((bytes_eq-Decides name (get_or front k d)).0 yes) ∙ sym (get_or-append_seam front name back d)))))

pub not_before : (front : List (String Global)) (value : String Global) (back all : List (String Global)) → front ++ value ∷ back ≡ all → AreNames (texts all)
    → list_any (string_eq value) front ≡ false
not_before front value back all split are =
    let parts : texts all ≡ texts front ++ string_bytes value ∷ texts back = ap texts (sym split) ∙ map-append string_bytes front (value ∷ back) in
    any_equal value front ∙ none_before (texts front) (string_bytes value) (texts back) (subst (λ (names : List (List ℕ)). AllPairs ◌≢◌ names) parts are.differ)

pub put_keys : (keys : List (String Global)) (value : String Global) (new : List (String Global)) → new ≡ insert_key string_eq keys value
    → list_any (string_eq value) keys ≡ false → new ≡ keys ++ value ∷ []
put_keys keys value new put absent = put ∙ rw absent

-- a front that is as long as the list is all of it
pub whole_list : (front back all : List (String Global)) → front ++ back ≡ all → length front ≡ length all → front ≡ all
whole_list front [] all e same = sym (append-nil front) ∙ e
whole_list front (x ∷ back) all e same = let long = length-append front (x ∷ back) in let sizes = ap length e in absurd (omega arith)

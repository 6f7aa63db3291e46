-- The upper value of an accepted certificate holds: no outcome of the instance earns more.
use Rattle.std.specs.Prelude.{◌≡◌, ℕ, ◌*◌, ◌<◌, pos, ◌≤ℤ◌, ◌*ℤ◌, Bool, true, not, ◌==◌, List, [], ◌∷◌, length, Result, Ok, Err, refl}
use Rattle.std.proofs.lemmas.Int.{ints}
use Rattle.std.proofs.Common.{arith, ap, sym, ◌∙◌, subst}
use Rattle.npp_frac.specs.Rational.{Rational, ratio, ◌≤ℚ◌, Is-ratio, Is-self, le-Is}
use Rattle.npp_net.specs.declared.types.ArcId.{ArcId}
use Rattle.npp_net.specs.Network.{Network, IsNetwork, toll_count}
use Rattle.npp_net.specs.Toll.{TollVector}
use Rattle.npp_net.specs.Outcome.{IsOutcome, IsUpperBound, revenue}
use Rattle.npp_rows.specs.Caps.{path_model}
use Rattle.npp_rows.specs.Lowering.{AreClosedCovers}
use Rattle.npp_rows.specs.Piece.{AreValidCuts}
use Rattle.npp_cover.specs.Replaces.{CoverValue}
use Rattle.npp_tree.specs.declared.outcome.Status.{Status}
use Rattle.npp_tree.specs.declared.outcome.PathLine.{PathLine}
use Rattle.npp_tree.specs.declared.item.Item.{Item}
use Rattle.npp_tree.specs.declared.item.Item.TheVariants as item
use Rattle.npp_tree.specs.Bounds.{BoundValue, Empty, At, IsWithin, greater}
use Rattle.npp_tree.specs.Tree.{tree_bound}
use Rattle.npp_check.specs.declared.refusal.Rule.TheVariants as rule
use Rattle.npp_check.specs.declared.refusal.CheckRefusal.{CheckRefusal}
use Rattle.npp_check.specs.Measures.{Measures, AreMeasures}
use Rattle.npp_check.specs.Rules.{broken_if, same}
use Rattle.npp_check.specs.HeadLines.{header_line, status_line, width_line, lower_line, upper_line, opened_line, instance_lines}
use Rattle.npp_check.specs.TollLines.{toll_line}
use Rattle.npp_check.specs.PathLines.{path_line}
use Rattle.npp_check.specs.CoverLines.{all_covers}
use Rattle.npp_check.specs.CutLines.{cuts_line, all_cuts}
use Rattle.npp_check.specs.NodeLines.{root_place, tree_at}
use Rattle.npp_check.specs.Stages.{Case, Known, Sum, nothing_yet, with_tree, from_end, from_tree, from_cuts, from_covers, from_paths, from_tolls, from_instance, from_opened, from_upper, from_lower, from_width, from_status}
use Rattle.npp_check.proofs.StageLemmas.{starts}
use Rattle.npp_tree.proofs.GreaterLaws.{empty-greater}
use Rattle.npp_check.specs.EndLine.{Head, is_at, is_optimal, agree, tree_line, end_line}
use Rattle.npp_check.specs.Verdict.{PairValue, certificate, whole, IsVerdict}
use Rattle.npp_check.specs.Reads.{Lines, line, more, read_behind, unless_more}
use Rattle.npp_check.proofs.TreeLemmas.{bind_parts}
use Rattle.npp_check.proofs.NodeLemmas.{same_value, next_line_says}
use Rattle.npp_check.proofs.RuleLemmas.{true_of, same_is, unbroken}
use Rattle.npp_check.proofs.CoverLemmas.{covers_hold}
use Rattle.npp_check.proofs.SoundLemmas.{cuts_hold, root_holds}

-- ---- what the last line says

at_says : (b : BoundValue) (q : Rational) → is_at b q ≡ true → b ≡ At q
at_says Empty q e = cc
at_says (At r) q e = ap At (same_is r q e)

end_says : (head : Head) (opened : ℕ) (b : BoundValue) (i : Item Rational) (u : Unit {0}) → end_line head opened b i ≡ Ok u → b ≡ At head.upper
end_says head opened b item.End u e =
    let first = unbroken (not (head.opened == opened)) _ (broken_if (not (is_at b head.upper)) rule.Upper (broken_if (not (agree (is_optimal head.status) (same head.lower head.upper))) rule.Status (Ok tt))) u e in
    let second = unbroken (not (is_at b head.upper)) _ (broken_if (not (agree (is_optimal head.status) (same head.lower head.upper))) rule.Status (Ok tt)) u first.1 in
    at_says b head.upper (true_of (is_at b head.upper) second.0)
end_says head opened b other u e = cc

-- ---- the whole certificate

more_says : (x : PairValue) (number : ℕ) (items : List (Item Rational)) (pair : PairValue) → unless_more x number items ≡ Ok pair → (x ≡ pair) × (items ≡ [])
more_says x number [] pair e = (same_pair e, refl)
  where
    same_pair : (let r : Result PairValue CheckRefusal = Ok x in r ≡ Ok pair) → x ≡ pair
    same_pair d = cc
more_says x number (i ∷ items) pair e = cc

abbrev pair_read : PairValue → Lines → Result (PairValue × Lines) CheckRefusal
pair_read p behind = Ok (p, behind)

-- an accepted certificate is read to its end
pub whole_says : (r : Result (PairValue × Lines) CheckRefusal) (pair : PairValue) → whole r ≡ Ok pair → (behind : Lines) × (r ≡ Ok (pair, behind)) × (behind.items ≡ [])
whole_says (Ok read) pair e =
    let says = more_says read.0 read.1.number read.1.items pair e in
    (read.1, ap (λ (p : PairValue). pair_read p read.1) says.0, says.1)
whole_says (Err refusal) pair e = cc

module _ (limit : ℕ) (net : Network) (f : Measures) (limits : IsNetwork net) (measures : AreMeasures net f) where
  abbrev on : Case
  on = record { net = net; measures = f }

  -- no outcome earns more than the upper value that is printed
  abbrev Holds : PairValue → Type 0
  Holds pair = (t : TollVector) (walks : List (List ArcId)) → IsOutcome net t walks → ratio (pos (revenue net.arcs t net.commodities walks)) t.denominator ≤ℚ pair.upper

  end_holds : (head : Head) (s : Sum) (lines behind : Lines) (pair : PairValue) → from_end limit on head s lines ≡ Ok (pair, behind) → s.bound ≡ At pair.upper
  end_holds head s lines behind pair e =
      let last = bind_parts (line (end_line head s.opened s.bound) lines) _ pair behind e in
      let says = next_line_says (end_line head s.opened s.bound) lines.number lines.items last.1 last.0 last.2 in
      end_says head s.opened s.bound says.0 last.0 says.1 ∙ ap (λ (x : PairValue). At x.upper) (same_value _ pair last.1 behind last.3)

  tree_holds : (k : Known) (lines behind : Lines) (pair : PairValue) → AreClosedCovers net k.covers → AreValidCuts net (path_model net k.covers) k.cuts
      → from_tree limit on k lines ≡ Ok (pair, behind) → Holds pair
  tree_holds k lines behind pair closed valid e t walks outcome =
      let word = bind_parts (line tree_line lines) _ pair behind e in
      let tree = bind_parts (tree_at (record { limit = limit; model = path_model net k.covers; cuts = k.cuts }) (root_place (path_model net k.covers)) word.1) _ pair behind word.3 in
      let bound : greater Empty (tree_bound tree.0) ≡ At pair.upper = end_holds k.head (with_tree nothing_yet tree.0) tree.1 behind pair tree.3 in
      subst (IsWithin (ratio (pos (revenue net.arcs t net.commodities walks)) t.denominator)) (sym (empty-greater (tree_bound tree.0)) ∙ bound)
      (root_holds net limit k.covers k.cuts word.1 tree.1 tree.0 closed valid tree.2 t walks outcome)

  from_cuts_holds : (head : Head) (covers : List CoverValue) (n : ℕ) (lines behind : Lines) (pair : PairValue) → AreClosedCovers net covers
      → from_cuts limit on head covers n [] lines ≡ Ok (pair, behind) → Holds pair
  from_cuts_holds head covers n lines behind pair closed e =
      let cuts = bind_parts (all_cuts limit (path_model net covers) n lines) _ pair behind e in
      tree_holds (record { head = head; covers = covers; cuts = cuts.0 }) cuts.1 behind pair closed
      (cuts_hold net limit (path_model net covers) (record { covers = closed; same = refl }) n lines cuts.1 cuts.0 cuts.2) cuts.3

  count_holds : (head : Head) (tolls : List Rational) (paths : List (PathLine Rational)) (covers : List CoverValue) (lines behind : Lines) (pair : PairValue) → AreClosedCovers net covers
      → read_behind (line (cuts_line limit net (path_model net covers) tolls paths head.lower) lines) (λ n. from_cuts limit on head covers n []) ≡ Ok (pair, behind) → Holds pair
  count_holds head tolls paths covers lines behind pair closed e =
      let count = bind_parts (line (cuts_line limit net (path_model net covers) tolls paths head.lower) lines) _ pair behind e in
      from_cuts_holds head covers count.0 count.1 behind pair closed count.3

  from_covers_holds : (head : Head) (tolls : List Rational) (paths : List (PathLine Rational)) (lines behind : Lines) (pair : PairValue)
      → from_covers limit on head tolls paths (length net.commodities) [] lines ≡ Ok (pair, behind) → Holds pair
  from_covers_holds head tolls paths lines behind pair e =
      let covers = bind_parts (all_covers net f lines) _ pair behind e in
      count_holds head tolls paths covers.0 covers.1 behind pair (covers_hold net f limits measures lines covers.1 covers.0 covers.2) covers.3

  from_paths_holds : (head : Head) (tolls : List Rational) (n : ℕ) (lines behind : Lines) (pair : PairValue) → from_paths limit on head tolls n [] lines ≡ Ok (pair, behind) → Holds pair
  from_paths_holds head tolls n lines behind pair e =
      let paths = bind_parts (more (λ so_far. line (path_line limit net tolls (length so_far))) n [] lines) _ pair behind e in
      from_covers_holds head tolls paths.0 paths.1 behind pair paths.3

  from_tolls_holds : (head : Head) (n : ℕ) (lines behind : Lines) (pair : PairValue) → from_tolls limit on head n [] lines ≡ Ok (pair, behind) → Holds pair
  from_tolls_holds head n lines behind pair e =
      let tolls = bind_parts (more (λ so_far. line (toll_line net (length so_far))) n [] lines) _ pair behind e in
      from_paths_holds head tolls.0 (length net.commodities) tolls.1 behind pair tolls.3

  from_instance_holds : (two : Bool) (head : Head) (lines behind : Lines) (pair : PairValue) → from_instance limit on two head lines ≡ Ok (pair, behind) → Holds pair
  from_instance_holds two head lines behind pair e =
      let sizes = bind_parts (instance_lines net two lines) _ pair behind e in
      from_tolls_holds head (toll_count net.arcs) sizes.1 behind pair sizes.3

  from_opened_holds : (two : Bool) (s : Status) (lower upper : Rational) (lines behind : Lines) (pair : PairValue) → from_opened limit on two s lower upper lines ≡ Ok (pair, behind) → Holds pair
  from_opened_holds two s lower upper lines behind pair e =
      let one = bind_parts (line opened_line lines) _ pair behind e in
      from_instance_holds two (record { status = s; lower = lower; upper = upper; opened = one.0 }) one.1 behind pair one.3

  from_upper_holds : (two : Bool) (s : Status) (lower : Rational) (lines behind : Lines) (pair : PairValue) → from_upper limit on two s lower lines ≡ Ok (pair, behind) → Holds pair
  from_upper_holds two s lower lines behind pair e =
      let one = bind_parts (line upper_line lines) _ pair behind e in from_opened_holds two s lower one.0 one.1 behind pair one.3

  from_lower_holds : (two : Bool) (s : Status) (lines behind : Lines) (pair : PairValue) → from_lower limit on two s lines ≡ Ok (pair, behind) → Holds pair
  from_lower_holds two s lines behind pair e =
      let one = bind_parts (line lower_line lines) _ pair behind e in from_upper_holds two s one.0 one.1 behind pair one.3

  from_width_holds : (two : Bool) (s : Status) (lines behind : Lines) (pair : PairValue) → from_width limit on two s lines ≡ Ok (pair, behind) → Holds pair
  from_width_holds two s lines behind pair e =
      let one = bind_parts (line width_line lines) _ pair behind e in from_lower_holds two s one.1 behind pair one.3

  from_status_holds : (two : Bool) (lines behind : Lines) (pair : PairValue) → from_status limit on two lines ≡ Ok (pair, behind) → Holds pair
  from_status_holds two lines behind pair e =
      let one = bind_parts (line status_line lines) _ pair behind e in from_width_holds two one.0 one.1 behind pair one.3

  certificate_holds : (lines behind : Lines) (pair : PairValue) → certificate limit net f lines ≡ Ok (pair, behind) → Holds pair
  certificate_holds lines behind pair e =
      let one = bind_parts (line (header_line net) lines) _ pair behind (sym (starts limit net f lines) ∙ e) in from_status_holds one.0 one.1 behind pair one.3

above_of : (n d : ℕ) (q : Rational) → 0 < d → ratio (pos n) d ≤ℚ q → pos (n * q.den) ≤ℤ (q.num *ℤ pos d)
above_of n d q positive h = let cross = le-Is (Is-ratio (pos n) d positive) (Is-self q) h in omega (arith, ints, cross)

-- whoever wrote the items, no outcome earns more than the upper value of the pair
pub upper_is_right : (limit : ℕ) (net : Network) (items : List (Item Rational)) (pair : PairValue) → IsNetwork net → IsVerdict limit net items (Ok pair)
    → IsUpperBound net pair.upper.num pair.upper.den
upper_is_right limit net items pair limits (f, measures, accepted) =
    let read = whole_says (certificate limit net f (record { number = 1; items = items })) pair accepted in
    record {
      positive = omega (arith, pair.upper.positive);
      above = λ t walks outcome.
          above_of (revenue net.arcs t net.commodities walks) t.denominator pair.upper (omega (arith, outcome.vector.positive))
          (certificate_holds limit net f limits measures (record { number = 1; items = items }) read.0 pair read.1 t walks outcome);
    }

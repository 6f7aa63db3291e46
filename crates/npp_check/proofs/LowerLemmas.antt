-- The lower value of an accepted certificate is earned by its tolls and walks.
use Rattle.std.specs.Prelude.{◌≡◌, ℕ, zero, suc, ◌+◌, ◌*◌, ◌<◌, Bool, false, not, List, [], ◌∷◌, ◌++◌, length, slice_index_or, Ok}
use Rattle.std.specs.List.{AllZip}
use Rattle.std.proofs.Common.{arith, ap, sym, ◌∙◌, subst}
use Rattle.std.proofs.lemmas.List.{append-nil}
use Rattle.npp_frac.specs.Rational.{Rational, zero_ℚ, is_less, Is}
use Rattle.npp_lp.specs.Programs.{at}
use Rattle.npp_net.specs.Network.{Network, IsNetwork, no_commodity, toll_count}
use Rattle.npp_net.specs.Toll.{TollVector, toll_paid}
use Rattle.npp_net.specs.Outcome.{IsEarned}
use Rattle.npp_cover.specs.Replaces.{CoverValue, sum_below}
use Rattle.npp_rows.specs.PathModel.{PathModel, no_cover}
use Rattle.npp_rows.specs.Caps.{path_model}
use Rattle.npp_rows.specs.Lowering.{IsClosedCover, AreClosedCovers}
use Rattle.npp_tree.specs.declared.outcome.Status.{Status}
use Rattle.npp_tree.specs.declared.outcome.PathLine.{PathLine}
use Rattle.npp_tree.specs.declared.item.Item.{Item}
use Rattle.npp_tree.specs.declared.item.Item.TheVariants as item
use Rattle.npp_check.specs.declared.refusal.Rule.TheVariants as rule
use Rattle.npp_check.specs.Measures.{Measures, AreMeasures}
use Rattle.npp_check.specs.Rules.{same}
use Rattle.npp_check.specs.HeadLines.{header_line, status_line, width_line, lower_line, upper_line, opened_line, instance_lines}
use Rattle.npp_check.specs.TollLines.{toll_line}
use Rattle.npp_check.specs.PathLines.{path_line}
use Rattle.npp_check.specs.CoverLines.{all_covers}
use Rattle.npp_check.specs.CutLines.{cuts_line, all_cuts}
use Rattle.npp_check.specs.NodeLines.{root_place, tree_at}
use Rattle.npp_check.specs.Prices.{no_path_line, walks_are_cheapest, revenue_of, earns_lower}
use Rattle.npp_check.specs.EndLine.{Head, tree_line, end_line}
use Rattle.npp_check.specs.Stages.{Case, Known, Sum, nothing_yet, with_tree, from_end, from_tree, from_cuts, from_covers, from_paths, from_tolls, from_instance, from_opened, from_upper, from_lower, from_width, from_status}
use Rattle.npp_check.specs.Verdict.{PairValue, certificate}
use Rattle.npp_check.specs.Reads.{Lines, line, more, read_behind}
use Rattle.npp_check.specs.Yes.{tolls_said, walks_said}
use Rattle.npp_rows.specs.TollVectors.{HasTolls}
use Rattle.npp_check.proofs.RuleLemmas.{true_of, same_is, unbroken, both_said}
use Rattle.npp_check.proofs.TreeLemmas.{bind_parts}
use Rattle.npp_check.proofs.NodeLemmas.{same_value}
use Rattle.npp_check.proofs.StageLemmas.{starts}
use Rattle.npp_check.proofs.CoverLemmas.{covers_hold}
use Rattle.npp_check.proofs.SaidLemmas.{SaySame}
use Rattle.npp_check.proofs.SilentLemmas.{header_reads, status_reads, width_reads, lower_reads, upper_reads, opened_reads, instance_reads, covers_reads}
use Rattle.npp_check.proofs.ExactLemmas.{counted_says, counted_is}
use Rattle.npp_check.proofs.PriceLemmas.{IsToll, IsPrinted, IsNoDearer, toll_says, path_says, none_dearer, tolls_are, ceilings_kept}
use Rattle.npp_check.proofs.EarnedLemmas.{paid_is, cheapest_is, cheapest_from, revenue_is, value_of_is}
use Rattle.npp_check.proofs.PrintLemmas.{line_parts, more_says, arcs_of, tolls_print, paths_print}

cover_at_number : (net : Network) (covers : List CoverValue) → AreClosedCovers net covers → (k : ℕ) → k < length net.commodities
    → IsClosedCover net.arcs (slice_index_or net.commodities k no_commodity) (slice_index_or covers k no_cover)
cover_at_number net covers closed k lt = zip_at net.commodities covers k closed lt
  where
    zip_at : (ks : List _) (cs : List CoverValue) (k : ℕ) → AllZip (IsClosedCover net.arcs) ks cs → k < length ks → IsClosedCover net.arcs (slice_index_or ks k no_commodity) (slice_index_or cs k no_cover)
    zip_at [] cs k h l = absurd (omega (arith, l))
    zip_at (x ∷ ks) [] k h l = absurd h
    zip_at (x ∷ ks) (c ∷ cs) zero h l = h.0
    zip_at (x ∷ ks) (c ∷ cs) (suc k) h l = zip_at ks cs k h.1 (omega (arith, l))

module _ (limit : ℕ) (net : Network) (tolls : List Rational) (paths : List (PathLine Rational)) (covers : List CoverValue) (lower : Rational)
    (closed : AreClosedCovers net covers) (toll_size : length tolls ≡ toll_count net.arcs) (each_toll : (a : ℕ) → a < length tolls → IsToll net a (at tolls a))
    (path_size : length paths ≡ length net.commodities) (each_path : (k : ℕ) → k < length paths → IsPrinted limit net tolls k (slice_index_or paths k no_path_line))
    (u : Unit {0}) (earns : earns_lower limit net (path_model net covers) tolls paths lower ≡ Ok u) where
  -- what they pay together, each commodity by its demand, over the denominator
  abbrev total : TollVector → ℕ
  total t = sum_below (λ k. (slice_index_or net.commodities k no_commodity).demand * toll_paid net.arcs t (slice_index_or paths k no_path_line).arcs) (length net.commodities)

  -- over whichever common denominator
  pub lower_is_earned : (t : TollVector) → HasTolls tolls t → IsEarned net t (arcs_of paths) lower.num lower.den
  lower_is_earned t has =
      let walks = both_said (walks_are_cheapest limit (path_model net covers) tolls 0 paths) _ u earns in
      let sum = both_said (revenue_of limit net paths) _ u walks.2 in
      let equal = unbroken (not (same sum.0 lower)) rule.Lower (Ok tt) u sum.2 in
      let dearer = none_dearer limit (path_model net covers) tolls 0 paths walks.0 walks.1 in
      let printed : (k : ℕ) → k < length net.commodities → IsPrinted limit net tolls k (slice_index_or paths k no_path_line) = λ k lt. each_path k (omega (arith, lt, path_size)) in
      let exact = counted_says limit (length net.commodities) (λ k. (slice_index_or net.commodities k no_commodity).demand) (λ k. (slice_index_or paths k no_path_line).paid) sum.0 sum.1 in
      let sum_is = counted_is t.denominator has.positive (λ k. (slice_index_or net.commodities k no_commodity).demand) (λ k. toll_paid net.arcs t (slice_index_or paths k no_path_line).arcs)
      (λ k. (slice_index_or paths k no_path_line).paid) (length net.commodities) (λ k lt. paid_is net tolls t has toll_size limit k (slice_index_or paths k no_path_line) (printed k lt)) in
      record {
        positive = omega (arith, lower.positive);
        outcome = record {
          vector = tolls_are net tolls t has toll_size each_toll;
          ceilings = ceilings_kept net tolls t has toll_size each_toll;
          cheapest = cheapest_from net.arcs t net.commodities paths path_size
              (λ k lt. cheapest_is net tolls t has toll_size limit k covers (slice_index_or paths k no_path_line) (cover_at_number net covers closed k lt) (printed k lt)
              (let same_number : 0 + k ≡ k = omega arith in
              subst (λ i. IsNoDearer (path_model net covers) tolls i (slice_index_or paths k no_path_line)) same_number (dearer k no_path_line (omega (arith, lt, path_size)))));
        };
        value =
            value_of_is lower _ t.denominator
            (subst (λ z. Is lower z 0 t.denominator) (sym (revenue_is net.arcs t net.commodities paths path_size))
            (subst (λ z. Is z (total t) 0 t.denominator) (exact ∙ same_is sum.0 lower (true_of (same sum.0 lower) equal.0)) sum_is));
      }

-- ---- the whole certificate

module _ (limit : ℕ) (net : Network) (f : Measures) (limits : IsNetwork net) (measures : AreMeasures net f) where
  abbrev on : Case
  on = record { net = net; measures = f }

  -- the tolls that lines print are not negative, and with the walks that they print they earn the lower value of the pair
  pub record EarnsLower (lines : Lines) (pair : PairValue) : Type 0 where
    pub least : (a : ℕ) → a < length (tolls_said lines.items) → is_less (at (tolls_said lines.items) a) zero_ℚ ≡ false
    pub earned : (t : TollVector) → HasTolls (tolls_said lines.items) t → IsEarned net t (walks_said lines.items) pair.lower.num pair.lower.den

  -- the same of other lines that print the same
  earns_so : (lines other : Lines) (pair : PairValue) → SaySame lines.items other.items → EarnsLower other pair → EarnsLower lines pair
  earns_so lines other pair say h = record {
    least = subst (λ q. (a : ℕ) → a < length q → is_less (at q a) zero_ℚ ≡ false) (sym say.tolls) h.least;
    earned = λ t has. subst (λ w. IsEarned net t w pair.lower.num pair.lower.den) (sym say.walks) (h.earned t (subst (λ q. HasTolls q t) say.tolls has));
  }

  end_says : (head : Head) (sum : Sum) (lines behind : Lines) (pair : PairValue) → from_end limit on head sum lines ≡ Ok (pair, behind) → head.lower ≡ pair.lower
  end_says head sum lines behind pair e =
      let last = bind_parts (line (end_line head sum.opened sum.bound) lines) _ pair behind e in
      ap (λ (p : PairValue). p.lower) (same_value _ pair last.1 behind last.3)

  tree_says : (k : Known) (lines behind : Lines) (pair : PairValue) → from_tree limit on k lines ≡ Ok (pair, behind) → k.head.lower ≡ pair.lower
  tree_says k lines behind pair e =
      let word = bind_parts (line tree_line lines) _ pair behind e in
      let tree = bind_parts (tree_at (record { limit = limit; model = path_model net k.covers; cuts = k.cuts }) (root_place (path_model net k.covers)) word.1) _ pair behind word.3 in
      end_says k.head (with_tree nothing_yet tree.0) tree.1 behind pair tree.3

  cuts_say : (head : Head) (covers : List CoverValue) (n : ℕ) (lines behind : Lines) (pair : PairValue) → from_cuts limit on head covers n [] lines ≡ Ok (pair, behind) → head.lower ≡ pair.lower
  cuts_say head covers n lines behind pair e =
      let cuts = bind_parts (all_cuts limit (path_model net covers) n lines) _ pair behind e in
      tree_says (record { head = head; covers = covers; cuts = cuts.0 }) cuts.1 behind pair cuts.3

  -- closed covers by which the printed walks are judged
  pub record AreJudged (head : Head) (tolls : List Rational) (paths : List (PathLine Rational)) (pair : PairValue) : Type 0 where
    pub covers : List CoverValue
    pub closed : AreClosedCovers net covers
    pub unit : Unit {0}
    pub earns : earns_lower limit net (path_model net covers) tolls paths head.lower ≡ Ok unit
    pub lower : head.lower ≡ pair.lower

  count_says : (tolls : List Rational) (paths : List (PathLine Rational)) (m : PathModel) (lower : Rational) (i : Item Rational) (n : ℕ) → cuts_line limit net m tolls paths lower i ≡ Ok n
      → (u : Unit {0}) × (earns_lower limit net m tolls paths lower ≡ Ok u)
  count_says tolls paths m lower (item.Cuts n) x e = let earns = both_said (earns_lower limit net m tolls paths lower) _ x e in (earns.0, earns.1)
  count_says tolls paths m lower other x e = cc

  count_judges : (head : Head) (tolls : List Rational) (paths : List (PathLine Rational)) (covers : List CoverValue) (lines behind : Lines) (pair : PairValue) → AreClosedCovers net covers
      → read_behind (line (cuts_line limit net (path_model net covers) tolls paths head.lower) lines) (λ n. from_cuts limit on head covers n []) ≡ Ok (pair, behind)
      → AreJudged head tolls paths pair
  count_judges head tolls paths covers lines behind pair closed e =
      let count = bind_parts (line (cuts_line limit net (path_model net covers) tolls paths head.lower) lines) _ pair behind e in
      let at_line = line_parts (cuts_line limit net (path_model net covers) tolls paths head.lower) lines count.1 count.0 count.2 in
      let says = count_says tolls paths (path_model net covers) head.lower at_line.0 count.0 at_line.1 in
      record { covers = covers; closed = closed; unit = says.0; earns = says.1; lower = cuts_say head covers count.0 count.1 behind pair count.3 }

  covers_judge : (head : Head) (tolls : List Rational) (paths : List (PathLine Rational)) (lines behind : Lines) (pair : PairValue)
      → from_covers limit on head tolls paths (length net.commodities) [] lines ≡ Ok (pair, behind) → AreJudged head tolls paths pair
  covers_judge head tolls paths lines behind pair e =
      let covers = bind_parts (all_covers net f lines) _ pair behind e in
      count_judges head tolls paths covers.0 covers.1 behind pair (covers_hold net f limits measures lines covers.1 covers.0 covers.2) covers.3

  -- nothing is left behind the last line
  abbrev IsAtEnd : Lines → Type 0
  IsAtEnd behind = behind.items ≡ []

  from_paths_earns : (head : Head) (tolls : List Rational) (lines behind : Lines) (pair : PairValue) → IsAtEnd behind → length tolls ≡ toll_count net.arcs
      → ((a : ℕ) → a < length tolls → IsToll net a (at tolls a)) → from_paths limit on head tolls (length net.commodities) [] lines ≡ Ok (pair, behind)
      → (t : TollVector) → HasTolls tolls t → IsEarned net t (walks_said lines.items) pair.lower.num pair.lower.den
  from_paths_earns head tolls lines behind pair none size each e t has =
      let paths = bind_parts (more (λ so_far. line (path_line limit net tolls (length so_far))) (length net.commodities) [] lines) _ pair behind e in
      let judged = covers_judge head tolls paths.0 paths.1 behind pair paths.3 in
      let all = more_says (λ so_far. path_line limit net tolls (length so_far)) (IsPrinted limit net tolls) (λ above i x d. path_says limit net tolls (length above) i x d)
      (length net.commodities) [] lines paths.1 paths.0 (λ k d lt. absurd (omega (arith, lt))) paths.2 in
      let printed = paths_print limit net tolls (length net.commodities) [] lines paths.1 paths.0 paths.2 in
      let silent = covers_reads limit on head tolls paths.0 (length net.commodities) paths.1 behind pair paths.3 in
      let last : walks_said paths.1.items ≡ [] = silent.walks ∙ ap walks_said none in
      let walks : walks_said lines.items ≡ arcs_of paths.0 = printed.1 ∙ ap (λ z. arcs_of paths.0 ++ z) last ∙ append-nil (arcs_of paths.0) in
      subst (λ w. IsEarned net t w pair.lower.num pair.lower.den) (sym walks)
      (subst (λ (q : Rational). IsEarned net t (arcs_of paths.0) q.num q.den) judged.lower
      (lower_is_earned limit net tolls paths.0 judged.covers head.lower judged.closed size each (omega (arith, all.0)) (λ k lt. all.1 k no_path_line lt) judged.unit judged.earns t has))

  -- no toll is printed behind the toll lines
  paths_print_no_toll : (head : Head) (tolls : List Rational) (lines behind : Lines) (pair : PairValue) → IsAtEnd behind
      → from_paths limit on head tolls (length net.commodities) [] lines ≡ Ok (pair, behind) → tolls_said lines.items ≡ []
  paths_print_no_toll head tolls lines behind pair none e =
      let paths = bind_parts (more (λ so_far. line (path_line limit net tolls (length so_far))) (length net.commodities) [] lines) _ pair behind e in
      let printed = paths_print limit net tolls (length net.commodities) [] lines paths.1 paths.0 paths.2 in
      let silent = covers_reads limit on head tolls paths.0 (length net.commodities) paths.1 behind pair paths.3 in
      printed.0 ∙ silent.tolls ∙ ap tolls_said none

  from_tolls_earns : (head : Head) (lines behind : Lines) (pair : PairValue) → IsAtEnd behind → from_tolls limit on head (toll_count net.arcs) [] lines ≡ Ok (pair, behind) → EarnsLower lines pair
  from_tolls_earns head lines behind pair none e =
      let tolls = bind_parts (more (λ so_far. line (toll_line net (length so_far))) (toll_count net.arcs) [] lines) _ pair behind e in
      let all = more_says (λ so_far. toll_line net (length so_far)) (IsToll net) (λ above i x d. toll_says net (length above) i x d)
      (toll_count net.arcs) [] lines tolls.1 tolls.0 (λ k d lt. absurd (omega (arith, lt))) tolls.2 in
      let printed = tolls_print net (toll_count net.arcs) [] lines tolls.1 tolls.0 tolls.2 in
      let last = paths_print_no_toll head tolls.0 tolls.1 behind pair none tolls.3 in
      let same_tolls : tolls_said lines.items ≡ tolls.0 = printed.0 ∙ ap (λ z. tolls.0 ++ z) last ∙ append-nil tolls.0 in
      record {
        least = subst (λ q. (a : ℕ) → a < length q → is_less (at q a) zero_ℚ ≡ false) (sym same_tolls) (λ a lt. (all.1 a zero_ℚ lt).least);
        earned = λ t has. subst (λ w. IsEarned net t w pair.lower.num pair.lower.den) (sym printed.1)
            (from_paths_earns head tolls.0 tolls.1 behind pair none (omega (arith, all.0)) (λ a lt. all.1 a zero_ℚ lt) tolls.3 t (subst (λ q. HasTolls q t) same_tolls has));
      }

  from_instance_earns : (two : Bool) (head : Head) (lines behind : Lines) (pair : PairValue) → IsAtEnd behind → from_instance limit on two head lines ≡ Ok (pair, behind) → EarnsLower lines pair
  from_instance_earns two head lines behind pair none e =
      let one = bind_parts (instance_lines net two lines) _ pair behind e in
      earns_so lines one.1 pair (instance_reads net two lines one.1 one.0 one.2) (from_tolls_earns head one.1 behind pair none one.3)

  from_opened_earns : (two : Bool) (s : Status) (lower upper : Rational) (lines behind : Lines) (pair : PairValue) → IsAtEnd behind → from_opened limit on two s lower upper lines ≡ Ok (pair, behind)
      → EarnsLower lines pair
  from_opened_earns two s lower upper lines behind pair none e =
      let one = bind_parts (line opened_line lines) _ pair behind e in
      earns_so lines one.1 pair (opened_reads lines one.1 one.0 one.2) (from_instance_earns two (record { status = s; lower = lower; upper = upper; opened = one.0 }) one.1 behind pair none one.3)

  from_upper_earns : (two : Bool) (s : Status) (lower : Rational) (lines behind : Lines) (pair : PairValue) → IsAtEnd behind → from_upper limit on two s lower lines ≡ Ok (pair, behind) → EarnsLower lines pair
  from_upper_earns two s lower lines behind pair none e =
      let one = bind_parts (line upper_line lines) _ pair behind e in
      earns_so lines one.1 pair (upper_reads lines one.1 one.0 one.2) (from_opened_earns two s lower one.0 one.1 behind pair none one.3)

  from_lower_earns : (two : Bool) (s : Status) (lines behind : Lines) (pair : PairValue) → IsAtEnd behind → from_lower limit on two s lines ≡ Ok (pair, behind) → EarnsLower lines pair
  from_lower_earns two s lines behind pair none e =
      let one = bind_parts (line lower_line lines) _ pair behind e in
      earns_so lines one.1 pair (lower_reads lines one.1 one.0 one.2) (from_upper_earns two s one.0 one.1 behind pair none one.3)

  from_width_earns : (two : Bool) (s : Status) (lines behind : Lines) (pair : PairValue) → IsAtEnd behind → from_width limit on two s lines ≡ Ok (pair, behind) → EarnsLower lines pair
  from_width_earns two s lines behind pair none e =
      let one = bind_parts (line width_line lines) _ pair behind e in
      earns_so lines one.1 pair (width_reads lines one.1 one.0 one.2) (from_lower_earns two s one.1 behind pair none one.3)

  from_status_earns : (two : Bool) (lines behind : Lines) (pair : PairValue) → IsAtEnd behind → from_status limit on two lines ≡ Ok (pair, behind) → EarnsLower lines pair
  from_status_earns two lines behind pair none e =
      let one = bind_parts (line status_line lines) _ pair behind e in
      earns_so lines one.1 pair (status_reads lines one.1 one.0 one.2) (from_width_earns two one.0 one.1 behind pair none one.3)

  pub certificate_earns : (lines behind : Lines) (pair : PairValue) → IsAtEnd behind → certificate limit net f lines ≡ Ok (pair, behind) → EarnsLower lines pair
  certificate_earns lines behind pair none e =
      let one = bind_parts (line (header_line net) lines) _ pair behind (sym (starts limit net f lines) ∙ e) in
      earns_so lines one.1 pair (header_reads net lines one.1 one.0 one.2) (from_status_earns one.0 one.1 behind pair none one.3)

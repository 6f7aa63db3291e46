-- A certificate is judged line by line while its bytes come: whatever comes next, the verdict is the same.
use Rattle.std.proofs.Common.{◌≡◌, ◌∙◌, ◌<◌, ◌≤◌, ◌+◌, ◌==◌, ap, ap₂, sym, refl, subst, ℕ, false, List, [], ◌∷◌, ◌++◌, length, map, Option, Some, None, Ok, Err, arith, All, append-nil, append_assoc, length-append, le-ltb, lt-ltb, inl, inr}
use Rattle.std.proofs.lemmas.List.Elements.{All-nil, All-append, All-head, All-tail, All-push}
use Rattle.std.proofs.lemmas.List.Concat.{flat_map-append}
use Rattle.npp_frac.specs.Rational.{Rational}
use Rattle.npp_net.specs.Network.{Network}
use Rattle.npp_tree.specs.declared.item.Item.{Item}
use Rattle.npp_report.specs.Lines.{line, item_line, text_of}
use Rattle.npp_cert_text.specs.Form.{line_limit, HasLine}
use Rattle.npp_cert_text.specs.Reading.{item_in}
use Rattle.npp_cert_text.specs.Lines.{text_items}
use Rattle.npp_cert_text.proofs.LineFields.{line_of}
use Rattle.npp_cert_text.proofs.InForm.{has_fields}
use Rattle.npp_cert_text.proofs.SameLine.{same_line}
use Rattle.npp_cert_text.proofs.PlainLemmas.{line_lacks}
use Rattle.npp_cert_text.proofs.RoundTrip.{line_is_read}
use Rattle.npp_cert_text.proofs.TextLaws.{says}
use Rattle.npp_cert_text.proofs.LineLemmas.{line_first, no_lines, open_line, long_open}
use Rattle.npp_check.specs.declared.refusal.CheckRefusal.{CheckRefusal}
use Rattle.npp_check.specs.declared.refusal.CheckRefusal.TheVariants.{Broken, Memory}
use Rattle.npp_check.specs.declared.refusal.Rule.{Rule}
use Rattle.npp_check.specs.declared.refusal.Rule.TheVariants.{Text}
use Rattle.npp_check.specs.Checking.{Checking, verdict_with, IsNew, Takes, IsRefusalOf}
use Rattle.npp_check.specs.Measures.{Measures, AreMeasures}
use Rattle.npp_check.specs.Stages.{Case, AtHeader, from_stage}
use Rattle.npp_check.specs.TextVerdict.{items_above, first_unread, earlier, text_verdict, text_verdict_at}
use Rattle.npp_check.specs.Verdict.{PairValue, Verdict, verdict, whole}
use Rattle.npp_check.specs.Yes.{Proves}
use Rattle.npp_check.proofs.CheckerLemmas.{not_above}
use Rattle.npp_check.proofs.StageLemmas.{starts}
use Rattle.npp_check.proofs.StageOrder.{stage_ahead}
use Rattle.npp_stream.specs.TextVerdicts.{bytes_verdict}
use Rattle.npp_stream.specs.Stream.{HasNoLineFeed, HasRead, TakesLine, RefusesLine, ProvesPair}
use Rattle.npp_stream.proofs.NamedLemmas.{IsNamed, verdict_named}

abbrev Said : Type 0
Said = Option (Item Rational)

abbrev broken : ℕ → Rule → Verdict
broken number rule = Err (Broken number rule)

-- the lines of items, and what stands behind them
text_then : (items : List (Item Rational)) (rest : List ℕ) → All HasLine items → text_items (text_of items ++ rest) ≡ map (λ i. Some i) items ++ text_items rest
text_then [] rest has = refl
text_then (i ∷ items) rest has =
    let fields = has_fields i (All-head HasLine i items has) in
    ap (λ l. text_items ((l ++ text_of items) ++ rest)) (sym (same_line i))
    ∙ ap text_items (append_assoc (line (line_of i)) (text_of items) rest ∙ append_assoc (line_of i) (10 ∷ []) (text_of items ++ rest))
    ∙ line_first (line_of i) (text_of items ++ rest) (line_lacks 10 (omega arith) i fields.fits)
    ∙ ap₂ ◌∷◌ (line_is_read i fields) (text_then items rest (All-tail HasLine i items has))

above_then : (items : List (Item Rational)) (rest : List Said) → items_above (map (λ i. Some i) items ++ rest) ≡ items ++ items_above rest
above_then [] rest = refl
above_then (i ∷ items) rest = ap (λ is. i ∷ is) (above_then items rest)

unread_then : (number : ℕ) (items : List (Item Rational)) (rest : List Said) → first_unread number (map (λ i. Some i) items ++ rest) ≡ first_unread (number + length items) rest
unread_then number [] rest = ap (λ n. first_unread n rest) (omega arith)
unread_then number (i ∷ items) rest = unread_then (number + 1) items rest ∙ ap (λ n. first_unread n rest) (omega arith)

-- the verdict on the text of items is that on the items
pub written_verdict : (limit : ℕ) (net : Network) (f : Measures) (items : List (Item Rational)) → All HasLine items → bytes_verdict limit net f (text_of items) ≡ verdict limit net f items
written_verdict limit net f items has =
    ap (λ t. bytes_verdict limit net f t) (sym (append-nil (text_of items)))
    ∙ ap (text_verdict limit net f) (text_then items [] has ∙ ap (λ (rest : List Said). map (λ (i : Item Rational). Some i) items ++ rest) no_lines)
    ∙ ap₂ text_verdict_at (unread_then 1 items []) (ap (verdict limit net f) (above_then items [] ∙ append-nil items))

-- no verdict names a line above the first
first_named : (limit : ℕ) (net : Network) (f : Measures) (items : List (Item Rational)) (number : ℕ) (rule : Rule) → verdict limit net f items ≡ Err (Broken number rule) → 1 ≤ number
first_named limit net f items number rule e =
    not_above (from_stage limit (record { net = net; measures = f }) AtHeader) (stage_ahead limit (record { net = net; measures = f }) AtHeader tt) (record { number = 1; items = items }) number rule
    (ap whole (sym (starts limit net f (record { number = 1; items = items }))) ∙ e)

-- before the first byte
pub begins : (limit : ℕ) (net : Network) (c : Checking) → IsNew limit net c → HasRead limit net c.on.measures [] c 1 []
begins limit net c new = record {
  items = [];
  have_lines = All-nil HasLine;
  split = refl;
  no_line_feed = All-nil (λ b. (b == 10) ≡ false);
  short = omega arith;
  next = omega (arith, new.taken.number);
  count = new.taken.number ∙ omega arith;
  instance = new.instance;
  measures = subst (λ (n : Network). AreMeasures n c.on.measures) new.instance new.taken.measures;
  unrefused = new.unrefused;
  taken = new.taken;
  verdict = λ rest. new.taken.verdict rest ∙ ap (λ n. verdict limit n c.on.measures rest) new.instance;
  clear = λ items number rule e. let named = first_named limit c.on.net c.on.measures items number rule (sym (new.taken.verdict items) ∙ e) in omega (arith, new.taken.number, named);
}

module _ (limit : ℕ) (net : Network) (f : Measures) (bytes : List ℕ) (c : Checking) (number : ℕ) (open_bytes : List ℕ) (h : HasRead limit net f bytes c number open_bytes) where
  -- what the lines say, where these bytes come next
  said : (rest : List ℕ) → text_items (bytes ++ rest) ≡ map (λ i. Some i) h.items ++ text_items (open_bytes ++ rest)
  said rest = ap (λ t. text_items (t ++ rest)) h.split ∙ ap text_items (append_assoc (text_of h.items) open_bytes rest) ∙ text_then h.items (open_bytes ++ rest) h.have_lines

  -- the verdict, by what the lines say from the open one on
  verdict_then : (rest : List ℕ) → bytes_verdict limit net f (bytes ++ rest) ≡ text_verdict_at (first_unread c.number (text_items (open_bytes ++ rest))) (verdict_with limit c (items_above (text_items (open_bytes ++ rest))))
  verdict_then rest =
      let lines = text_items (open_bytes ++ rest) in
      ap (text_verdict limit net f) (said rest)
      ∙ ap₂ text_verdict_at
      (unread_then 1 h.items lines ∙ ap (λ n. first_unread n lines) (omega (arith, h.count)))
      (ap (verdict limit net f) (above_then h.items lines) ∙ sym (h.verdict (items_above lines)))

  later : (v : Verdict) → IsNamed v → ((n : ℕ) (rule : Rule) → v ≡ Err (Broken n rule) → c.number ≤ n) → earlier c.number v ≡ Err (Broken c.number Text)
  later (Ok pair) named late = refl
  later (Err Memory) named late = absurd named
  later (Err (Broken n rule)) named late = rw (le-ltb n c.number (late n rule refl)) refl

  -- where the next line says nothing, it breaks Text, whatever follows
  breaks_text : (rest : List ℕ) (others : List Said) → text_items (open_bytes ++ rest) ≡ None ∷ others → bytes_verdict limit net f (bytes ++ rest) ≡ Err (Broken number Text)
  breaks_text rest others e =
      verdict_then rest ∙ ap (λ lines. text_verdict_at (first_unread c.number lines) (verdict_with limit c (items_above lines))) e
      ∙ later (verdict_with limit c []) (subst (λ (v : Verdict). IsNamed v) (sym (h.verdict [])) (verdict_named limit net f (h.items ++ []))) (λ n rule w. h.clear [] n rule w)
      ∙ ap (λ (n : ℕ). broken n Text) (sym h.next)

  -- so it is at the end, where a line is open
  pub unended : 0 < length open_bytes → bytes_verdict limit net f bytes ≡ Err (Broken number Text)
  unended some =
      sym (ap (bytes_verdict limit net f) (append-nil bytes))
      ∙ breaks_text [] [] (ap text_items (append-nil open_bytes) ∙ open_line open_bytes h.no_line_feed some)

  -- and where more bytes came without a line feed than a line may have
  pub too_long : (more rest : List ℕ) → HasNoLineFeed more → line_limit < length (open_bytes ++ more) → bytes_verdict limit net f ((bytes ++ more) ++ rest) ≡ Err (Broken number Text)
  too_long more rest lacks long =
      let found = long_open (open_bytes ++ more) rest (All-append (λ b. (b == 10) ≡ false) open_bytes more h.no_line_feed lacks) long in
      ap (bytes_verdict limit net f) (append_assoc bytes more rest)
      ∙ breaks_text (more ++ rest) found.0 (ap text_items (sym (append_assoc open_bytes more rest)) ∙ found.1)

  -- a whole line, and what its lines say with those behind it
  whole_line : (more rest : List ℕ) → HasNoLineFeed more → text_items (open_bytes ++ (more ++ 10 ∷ rest)) ≡ item_in (open_bytes ++ more) ∷ text_items rest
  whole_line more rest lacks =
      ap text_items (sym (append_assoc open_bytes more (10 ∷ rest)))
      ∙ line_first (open_bytes ++ more) rest (All-append (λ b. (b == 10) ≡ false) open_bytes more h.no_line_feed lacks)

  -- a line feed behind the bytes of a line
  regrouped : (more rest : List ℕ) → (bytes ++ (more ++ 10 ∷ [])) ++ rest ≡ bytes ++ (more ++ 10 ∷ rest)
  regrouped more rest = append_assoc bytes (more ++ 10 ∷ []) rest ∙ ap (λ t. bytes ++ t) (append_assoc more (10 ∷ []) rest)

  -- a whole line whose item is refused is the first broken one, whatever follows
  refused_line : (more rest : List ℕ) (i : Item Rational) (rule : Rule) → HasNoLineFeed more → item_in (open_bytes ++ more) ≡ Some i
      → ((items : List (Item Rational)) → verdict_with limit c (i ∷ items) ≡ Err (Broken c.number rule))
      → bytes_verdict limit net f (bytes ++ (more ++ 10 ∷ rest)) ≡ Err (Broken c.number rule)
  refused_line more rest i rule lacks some broken =
      verdict_then (more ++ 10 ∷ rest)
      ∙ ap (λ lines. text_verdict_at (first_unread c.number lines) (verdict_with limit c (items_above lines))) (whole_line more rest lacks ∙ ap (λ o. o ∷ text_items rest) some)
      ∙ ap (text_verdict_at (first_unread (c.number + 1) (text_items rest))) (broken (items_above (text_items rest)))
      ∙ first (first_unread (c.number + 1) (text_items rest)) refl
    where
      behind : (n : ℕ) (lines : List Said) (m : ℕ) → first_unread n lines ≡ Some m → n ≤ m
      behind n [] m e = absurd cc
      behind n (None ∷ lines) m e = let is : n ≡ m = cc in omega arith
      behind n (Some j ∷ lines) m e = let after = behind (n + 1) lines m e in omega arith

      first : (o : Option ℕ) → first_unread (c.number + 1) (text_items rest) ≡ o → text_verdict_at o (Err (Broken c.number rule)) ≡ Err (Broken c.number rule)
      first None e = refl
      first (Some m) e = let above : c.number + 1 ≤ m = behind (c.number + 1) (text_items rest) m e in
          rw (lt-ltb c.number m (omega arith)) refl

  -- why the checker refuses an item: its line is the first broken one
  cause : (i : Item Rational) (n : ℕ) (rule : Rule) → IsRefusalOf limit c.refused c i (Broken n rule) → (n ≡ c.number) × ((items : List (Item Rational)) → verdict_with limit c (i ∷ items) ≡ Err (Broken c.number rule))
  cause i n rule is = by_cause (subst (λ (o : Option CheckRefusal). IsRefusalOf limit o c i (Broken n rule)) h.unrefused is)
    where
      by_cause : IsRefusalOf limit None c i (Broken n rule) → (n ≡ c.number) × ((items : List (Item Rational)) → verdict_with limit c (i ∷ items) ≡ Err (Broken c.number rule))
      by_cause (inl memory) = absurd cc
      by_cause (inr found) =
          let same : Broken n rule ≡ Broken c.number found.0 = found.1 in
          let line : n ≡ c.number = cc in
          (line, λ items. found.2 items ∙ ap (λ (m : ℕ). broken m rule) line)

  -- a line that is refused, whatever follows
  pub refuses : (more : List ℕ) (n : ℕ) (rule : Rule) → HasNoLineFeed more → RefusesLine limit c number (open_bytes ++ more) (Broken n rule)
      → (rest : List ℕ) → bytes_verdict limit net f ((bytes ++ (more ++ 10 ∷ [])) ++ rest) ≡ Err (Broken n rule)
  refuses more n rule lacks (inl none) rest =
      ap (bytes_verdict limit net f) (regrouped more rest)
      ∙ breaks_text (more ++ 10 ∷ rest) (text_items rest) (whole_line more rest lacks ∙ ap (λ o. o ∷ text_items rest) none.0)
      ∙ ap₂ broken (sym none.1) (sym none.2)
  refuses more n rule lacks (inr found) rest =
      let is = cause found.0 n rule found.2 in
      ap (bytes_verdict limit net f) (regrouped more rest) ∙ refused_line more rest found.0 rule lacks found.1 is.1
      ∙ ap (λ (m : ℕ). broken m rule) (sym is.0)

  -- more bytes of a line
  pub goes_on : (more : List ℕ) → HasNoLineFeed more → length (open_bytes ++ more) ≤ line_limit → HasRead limit net f (bytes ++ more) c number (open_bytes ++ more)
  goes_on more lacks short = record {
    items = h.items;
    have_lines = h.have_lines;
    split = ap (λ t. t ++ more) h.split ∙ append_assoc (text_of h.items) open_bytes more;
    no_line_feed = All-append (λ b. (b == 10) ≡ false) open_bytes more h.no_line_feed lacks;
    short = short;
    next = h.next;
    count = h.count;
    instance = h.instance;
    measures = h.measures;
    unrefused = h.unrefused;
    taken = h.taken;
    verdict = h.verdict;
    clear = h.clear;
  }

  -- a whole line whose item is taken
  pub takes_line : (more : List ℕ) (new : Checking) → TakesLine limit c (open_bytes ++ more) new → HasRead limit net f (bytes ++ (more ++ 10 ∷ [])) new (number + 1) []
  takes_line more new judged =
      let i : Item Rational = judged.0 in
      let takes : Takes limit c i new = judged.2 in
      let is = says (open_bytes ++ more) i judged.1 in
      record {
        items = h.items ++ i ∷ [];
        have_lines = All-push HasLine h.items i h.have_lines is.has;
        split = ap (λ t. t ++ (more ++ 10 ∷ [])) h.split ∙ append_assoc (text_of h.items) open_bytes (more ++ 10 ∷ [])
            ∙ ap (λ t. text_of h.items ++ t) (sym (append_assoc open_bytes more (10 ∷ [])) ∙ is.text ∙ sym (append-nil (item_line i)))
            ∙ sym (flat_map-append item_line h.items (i ∷ [])) ∙ sym (append-nil (text_of (h.items ++ i ∷ [])));
        no_line_feed = All-nil (λ b. (b == 10) ≡ false);
        short = omega arith;
        next = ap (λ n. n + 1) h.next ∙ sym takes.number;
        count = takes.number ∙ omega (arith, h.count, length-append h.items (i ∷ []));
        instance = ap (λ (on : Case). on.net) takes.on ∙ h.instance;
        measures = h.measures;
        unrefused = takes.behind;
        taken = takes.taken h.items h.taken;
        verdict = λ rest. takes.verdict rest ∙ h.verdict (i ∷ rest) ∙ ap (verdict limit net f) (sym (append_assoc h.items (i ∷ []) rest));
        clear = takes.clear;
      }

  -- the text ends where no line is open
  lines_alone : open_bytes ≡ [] → bytes ≡ text_of h.items
  lines_alone none = h.split ∙ ap (λ l. text_of h.items ++ l) none ∙ append-nil (text_of h.items)

  end_verdict : open_bytes ≡ [] → bytes_verdict limit net f bytes ≡ verdict_with limit c []
  end_verdict none =
      ap (bytes_verdict limit net f) (lines_alone none) ∙ written_verdict limit net f h.items h.have_lines
      ∙ ap (verdict limit net f) (sym (append-nil h.items)) ∙ sym (h.verdict [])

  pub ends_badly : open_bytes ≡ [] → (e : CheckRefusal) → verdict_with limit c [] ≡ Err e → bytes_verdict limit net f bytes ≡ Err e
  ends_badly none e is = end_verdict none ∙ is

  pub ends_well : open_bytes ≡ [] → (pair : PairValue) → ProvesPair limit c pair → (items : List (Item Rational)) × All HasLine items × (bytes ≡ text_of items) × (verdict limit net f items ≡ Ok pair) × Proves net items pair
  ends_well none pair proved = (
    h.items,
    h.have_lines,
    lines_alone none,
    ap (verdict limit net f) (sym (append-nil h.items)) ∙ sym (h.verdict []) ∙ proved.verdict,
    subst (λ (n : Network). Proves n h.items pair) h.instance (proved.proves h.items h.taken),
  )

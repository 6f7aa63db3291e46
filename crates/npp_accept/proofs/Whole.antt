-- The lines of an outcome, from the header to the end, are a certificate of both its values.
use Rattle.std.specs.Prelude.{◌≡◌, ℕ, ◌+◌, Bool, if◌then◌else◌, List, [], ◌∷◌, ◌++◌, length, Ok, refl}
use Rattle.std.specs.List.{flat_map}
use Rattle.std.proofs.Common.{arith, ap, sym, ◌∙◌, subst, append_assoc}
use Rattle.npp_frac.specs.Rational.{Rational}
use Rattle.npp_net.specs.Network.{Network, toll_count}
use Rattle.npp_cover.specs.Replaces.{CoverValue}
use Rattle.npp_rows.specs.Caps.{path_model}
use Rattle.npp_rows.specs.Derivations.{Derived}
use Rattle.npp_tree.specs.declared.item.Item.{Item}
use Rattle.npp_tree.specs.declared.item.Item.TheVariants as item
use Rattle.npp_tree.specs.Bounds.{BoundValue, Empty, greater}
use Rattle.npp_tree.specs.Lines.{numbered, cut_lines, entry_lines, cover_list, report_lines, certificate_lines}
use Rattle.npp_tree.specs.Outcome.{OutcomeValue}
use Rattle.npp_tree.specs.Tree.{Tree, Node, opened_in, tree_bound}
use Rattle.npp_tree.proofs.GreaterLaws.{empty-greater}
use Rattle.npp_report.specs.Report.{names_instance}
use Rattle.npp_check.specs.CoverLines.{all_covers}
use Rattle.npp_check.specs.CutLines.{cuts_line, one_cut}
use Rattle.npp_check.specs.EndLine.{Head, end_line, tree_line}
use Rattle.npp_check.specs.HeadLines.{header_line, status_line, width_line, lower_line, upper_line, opened_line, instance_lines}
use Rattle.npp_check.specs.Measures.{Measures}
use Rattle.npp_check.specs.NodeLines.{root_place, tree_at}
use Rattle.npp_check.specs.PathLines.{path_lines}
use Rattle.npp_check.specs.Reads.{done, line, more, ◌>>=◌}
use Rattle.npp_check.specs.Stages.{Case, Known, nothing_yet, with_tree, given, from_end, nodes_to_come, from_tree, from_cuts, from_covers, from_paths, from_tolls, from_instance, from_opened, from_upper, from_lower, from_width, from_status, from_header}
use Rattle.npp_check.specs.TollLines.{toll_lines}
use Rattle.npp_check.specs.Verdict.{PairValue, certificate, verdict}
use Rattle.npp_check.proofs.StageLemmas.{starts}
use Rattle.npp_accept.proofs.GivesLemmas.{Gives, gives_done, gives_line, gives_bind, gives_whole}
use Rattle.npp_accept.proofs.HeadLemmas.{ceilings_named, items_of_instance, header_says, gives_instance}

-- ---- the order of the lines

regroup : (named tolls paths covers tree last : List (Item Rational)) (cuts head : Item Rational)
    → (((((named ++ tolls) ++ paths) ++ covers) ++ cuts ∷ []) ++ head ∷ tree) ++ last ≡ named ++ (tolls ++ (paths ++ (covers ++ cuts ∷ head ∷ (tree ++ last))))
regroup named tolls paths covers tree last cuts head = simp append_assoc

module _ (limit width : ℕ) (net : Network) (f : Measures) (covers : List CoverValue) (o : OutcomeValue) (tree : Tree Node) where
  abbrev on : Case
  on = record { net = net; measures = f }

  abbrev head : Head
  head = record { status = o.status; lower = o.lower; upper = o.upper; opened = o.opened }

  abbrev known : Known
  known = record { head = head; covers = covers; cuts = [] }

  abbrev pair : PairValue
  pair = record { lower = o.lower; upper = o.upper }

  abbrev two : Bool
  two = names_instance net

  abbrev toll_items : List (Item Rational)
  toll_items = numbered (λ a v. item.Toll a v) 0 o.tolls

  abbrev path_items : List (Item Rational)
  path_items = numbered (λ k p. item.Path k p.cost p.paid p.arcs) 0 o.paths

  abbrev tree_items : List (Item Rational)
  tree_items = flat_map entry_lines o.entries

  -- what is left from a place on
  abbrev from_tree_on : List (Item Rational)
  from_tree_on = item.Tree ∷ (tree_items ++ item.End ∷ [])

  abbrev from_covers_on : List (Item Rational)
  from_covers_on = cover_list 0 covers ++ item.Cuts 0 ∷ from_tree_on

  abbrev from_tolls_on : List (Item Rational)
  from_tolls_on = toll_items ++ (path_items ++ from_covers_on)

  -- all lines are these
  lines_are : o.cuts ≡ [] → certificate_lines two width net covers o
      ≡ (if two then item.HeaderTwo else item.Header) ∷ item.StatusIs o.status ∷ item.Width width ∷ item.Lower o.lower ∷ item.Upper o.upper ∷ item.Opened o.opened ∷ (items_of_instance net two ++ from_tolls_on)
  lines_are none =
      ap (λ (cuts : List Derived). (report_lines two width net o ++ cover_list 0 covers ++ item.Cuts (length cuts) ∷ flat_map cut_lines cuts) ++ item.Tree ∷ tree_items ++ item.End ∷ []) none
      ∙ ap (λ (rest : List (Item Rational)). (if two then item.HeaderTwo else item.Header) ∷ item.StatusIs o.status ∷ item.Width width ∷ item.Lower o.lower ∷ item.Upper o.upper ∷ item.Opened o.opened ∷ rest)
      (regroup (items_of_instance net two) toll_items path_items (cover_list 0 covers) tree_items (item.End ∷ []) (item.Cuts 0) item.Tree)

  module _ (tolls_read : Gives (toll_lines net) toll_items o.tolls) (paths_read : Gives (path_lines limit net o.tolls) path_items o.paths) (covers_read : Gives (all_covers net f) (cover_list 0 covers) covers)
      (earns : cuts_line limit net (path_model net covers) o.tolls o.paths o.lower (item.Cuts 0) ≡ Ok 0)
      (tree_read : Gives (tree_at (record { limit = limit; model = path_model net covers; cuts = [] }) (root_place (path_model net covers))) tree_items tree)
      (ends : end_line head (opened_in tree) (tree_bound tree) item.End ≡ Ok tt) where
    end_read : Gives (from_end limit on head (with_tree nothing_yet tree)) (item.End ∷ []) pair
    end_read =
        let opened : opened_in tree ≡ 0 + opened_in tree = omega arith in
        let bound : tree_bound tree ≡ greater Empty (tree_bound tree) = sym (empty-greater (tree_bound tree)) in
        let said : end_line head (0 + opened_in tree) (greater Empty (tree_bound tree)) item.End ≡ Ok tt =
        subst (λ (n : ℕ). end_line head n (greater Empty (tree_bound tree)) item.End ≡ Ok tt) opened (subst (λ (b : BoundValue). end_line head (opened_in tree) b item.End ≡ Ok tt) bound ends) in
        gives_bind (line (end_line head (0 + opened_in tree) (greater Empty (tree_bound tree)))) (λ _. done pair) (item.End ∷ []) [] tt pair
        (gives_line (end_line head (0 + opened_in tree) (greater Empty (tree_bound tree))) item.End tt said) (gives_done pair)

    tree_on : Gives (from_tree limit on known) from_tree_on pair
    tree_on =
        gives_bind (line tree_line) (λ _. nodes_to_come limit on known (root_place (path_model net covers) ∷ []) nothing_yet) (item.Tree ∷ []) (tree_items ++ item.End ∷ []) tt pair
        (gives_line tree_line item.Tree tt refl)
        (gives_bind (tree_at (given limit on known) (root_place (path_model net covers))) (λ t. nodes_to_come limit on known [] (with_tree nothing_yet t)) tree_items (item.End ∷ []) tree pair tree_read end_read)

    cuts_on : Gives (from_cuts limit on head covers 0 []) from_tree_on pair
    cuts_on =
        gives_bind (more (one_cut limit (path_model net covers)) 0 []) (λ cuts. from_tree limit on (record { head = head; covers = covers; cuts = cuts })) [] from_tree_on [] pair (gives_done []) tree_on

    covers_on : Gives (from_covers limit on head o.tolls o.paths (length net.commodities) []) from_covers_on pair
    covers_on =
        gives_bind (all_covers net f) (λ cs. line (cuts_line limit net (path_model net cs) o.tolls o.paths o.lower) >>= λ count. from_cuts limit on head cs count []) (cover_list 0 covers) (item.Cuts 0 ∷ from_tree_on) covers pair covers_read
        (gives_bind (line (cuts_line limit net (path_model net covers) o.tolls o.paths o.lower)) (λ count. from_cuts limit on head covers count []) (item.Cuts 0 ∷ []) from_tree_on 0 pair
        (gives_line (cuts_line limit net (path_model net covers) o.tolls o.paths o.lower) (item.Cuts 0) 0 earns) cuts_on)

    tolls_on : Gives (from_tolls limit on head (toll_count net.arcs) []) from_tolls_on pair
    tolls_on =
        gives_bind (toll_lines net) (λ ts. from_paths limit on head ts (length net.commodities) []) toll_items (path_items ++ from_covers_on) o.tolls pair tolls_read
        (gives_bind (path_lines limit net o.tolls) (λ ps. from_covers limit on head o.tolls ps (length net.commodities) []) path_items from_covers_on o.paths pair paths_read covers_on)

    opened_on : Gives (from_opened limit on two o.status o.lower o.upper) (item.Opened o.opened ∷ (items_of_instance net two ++ from_tolls_on)) pair
    opened_on =
        gives_bind (line opened_line) (λ opened. from_instance limit on two (record { status = o.status; lower = o.lower; upper = o.upper; opened = opened })) (item.Opened o.opened ∷ []) (items_of_instance net two ++ from_tolls_on) o.opened pair
        (gives_line opened_line (item.Opened o.opened) o.opened refl)
        (gives_bind (instance_lines net two) (λ _. from_tolls limit on head (toll_count net.arcs) []) (items_of_instance net two) from_tolls_on (ceilings_named net two) pair (gives_instance net two) tolls_on)

    lower_on : Gives (from_lower limit on two o.status) (item.Lower o.lower ∷ item.Upper o.upper ∷ item.Opened o.opened ∷ (items_of_instance net two ++ from_tolls_on)) pair
    lower_on =
        gives_bind (line lower_line) (λ lower. from_upper limit on two o.status lower) (item.Lower o.lower ∷ []) (item.Upper o.upper ∷ item.Opened o.opened ∷ (items_of_instance net two ++ from_tolls_on)) o.lower pair
        (gives_line lower_line (item.Lower o.lower) o.lower refl)
        (gives_bind (line upper_line) (λ upper. from_opened limit on two o.status o.lower upper) (item.Upper o.upper ∷ []) (item.Opened o.opened ∷ (items_of_instance net two ++ from_tolls_on)) o.upper pair
        (gives_line upper_line (item.Upper o.upper) o.upper refl) opened_on)

    status_on : Gives (from_status limit on two) (item.StatusIs o.status ∷ item.Width width ∷ item.Lower o.lower ∷ item.Upper o.upper ∷ item.Opened o.opened ∷ (items_of_instance net two ++ from_tolls_on)) pair
    status_on =
        gives_bind (line status_line) (λ status. from_width limit on two status) (item.StatusIs o.status ∷ [])
        (item.Width width ∷ item.Lower o.lower ∷ item.Upper o.upper ∷ item.Opened o.opened ∷ (items_of_instance net two ++ from_tolls_on)) o.status pair
        (gives_line status_line (item.StatusIs o.status) o.status refl)
        (gives_bind (line width_line) (λ _. from_lower limit on two o.status) (item.Width width ∷ []) (item.Lower o.lower ∷ item.Upper o.upper ∷ item.Opened o.opened ∷ (items_of_instance net two ++ from_tolls_on)) width pair
        (gives_line width_line (item.Width width) width refl) lower_on)

    header_on : Gives (from_header limit on)
        ((if two then item.HeaderTwo else item.Header) ∷ item.StatusIs o.status ∷ item.Width width ∷ item.Lower o.lower ∷ item.Upper o.upper ∷ item.Opened o.opened ∷ (items_of_instance net two ++ from_tolls_on)) pair
    header_on =
        gives_bind (line (header_line net)) (λ second. from_status limit on second) ((if two then item.HeaderTwo else item.Header) ∷ [])
        (item.StatusIs o.status ∷ item.Width width ∷ item.Lower o.lower ∷ item.Upper o.upper ∷ item.Opened o.opened ∷ (items_of_instance net two ++ from_tolls_on)) two pair
        (gives_line (header_line net) (if two then item.HeaderTwo else item.Header) two (header_says net)) status_on

    -- what is printed is accepted
    pub accepted : o.cuts ≡ [] → verdict limit net f (certificate_lines two width net covers o) ≡ Ok pair
    accepted none =
        gives_whole limit net f (certificate_lines two width net covers o) pair
        (subst (λ (items : List (Item Rational)). Gives (certificate limit net f) items pair) (sym (lines_are none))
        (λ number rest. starts limit net f (record {
          number = number;
          items = (if two then item.HeaderTwo else item.Header) ∷ item.StatusIs o.status ∷ item.Width width ∷ item.Lower o.lower ∷ item.Upper o.upper ∷ item.Opened o.opened
              ∷ (items_of_instance net two ++ from_tolls_on) ++ rest;
        }) ∙ header_on number rest))

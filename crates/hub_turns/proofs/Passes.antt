-- Passes of nodes, one more at a time, and what the passes at the end have.
use Rattle.std.proofs.Common.{◌≡◌, ◌+◌, Bool, true, false, List, [], ◌∷◌, ◌++◌, map, length, refl, sym, ap, ◌∙◌}
use Rattle.std.proofs.Common.{subst, arith, eqb-true}
use Rattle.std.specs.List.{All, filter, sum_by}
use Rattle.std.proofs.lemmas.List.{length-map}
use Rattle.std.proofs.lemmas.List.Elements.{All-cons, All-head, All-map, All-nil, All-tail}
use Rattle.std.proofs.lemmas.List.Sums.{sum_by-cons}
use Rattle.base_types.specs.declared.ids.Node.{Node}
use Rattle.base_types.specs.declared.ids.Node.TheVariants.{Host, Server}
use Rattle.script_lines.specs.Sound.{same_node}
use Rattle.hub_cell.specs.Lists.{IsPrefix, IsShuffle, Weaves}
use Rattle.hub_cell.specs.Passes.{AreAllPasses as AreSeats, CellView, IsClosed, PassView, TableId, parts_of}
use Rattle.hub_cell.proofs.Shuffles.{FailsAll, PassesAll, filter_fails, filter_passes, filter_weaves}
use Rattle.hub_cell.proofs.Shuffles.{weaves_left_only, weaves_right_only}
use Rattle.hub_board.specs.Turning.{IsOf, Posted}
use Rattle.hub_board.specs.declared.given.Turn.{Turn}
use Rattle.hub_turns.specs.Meetings.{AreAllPasses, HasEnded, first_pass}
use Rattle.hub_turns.specs.Views.{AreBare, AreOf, HubView, IsBare, Met, NodeView}

pub bare_more : (passes : List NodeView) (bare : List (PassView Turn)) (pass : NodeView) (one : PassView Turn)
    → AreBare passes bare → IsBare pass one → AreBare (passes ++ pass ∷ []) (bare ++ one ∷ [])
bare_more [] [] pass one are is = (is, refl)
bare_more [] (x ∷ bare) pass one are is = absurd (cc)
bare_more (p ∷ passes) [] pass one are is = absurd are
bare_more (p ∷ passes) (x ∷ bare) pass one are is = (are.0, bare_more passes bare pass one are.1 is)

-- the passes at the start are the hub's
pub first_of_hub : (id : TableId) (nodes : List Node) → All (λ (p : NodeView). p.hub ≡ id) (map (first_pass id) nodes)
first_of_hub id nodes = All-map (λ (p : NodeView). p.hub ≡ id) (first_pass id) nodes (λ k d lt. refl)

-- and all passes that there are
pub first_are_all : (hub : HubView) (nodes : List Node) (passes : List NodeView) → hub.nodes ≡ length nodes
    → passes ≡ map (first_pass hub.id) nodes → AreAllPasses hub passes
first_are_all hub nodes passes count are = record {
  of_hub = subst (All (λ (p : NodeView). p.hub ≡ hub.id)) (sym are) (first_of_hub hub.id nodes);
  all = ap length are ∙ length-map nodes (first_pass hub.id) ∙ sym count;
}

-- the passes of the cell are all passes of the cell
of_cell : (id : TableId) (passes : List NodeView) (bare : List (PassView Turn)) → AreBare passes bare
    → All (λ (p : NodeView). p.hub ≡ id) passes → All (λ (p : PassView Turn). p.cell ≡ id) bare
of_cell id [] bare are h = subst (All (λ (p : PassView Turn). p.cell ≡ id)) (sym are)
    (All-nil (λ (p : PassView Turn). p.cell ≡ id))
of_cell id (p ∷ passes) [] are h = absurd are
of_cell id (p ∷ passes) (b ∷ bare) are h =
    All-cons (λ (q : PassView Turn). q.cell ≡ id) b bare (are.0.cell ∙ All-head (λ (q : NodeView). q.hub ≡ id) p
    passes h)
    (of_cell id passes bare are.1 (All-tail (λ (q : NodeView). q.hub ≡ id) p passes h))

seats_of : (passes : List NodeView) (bare : List (PassView Turn)) → AreBare passes bare
    → sum_by (λ (p : PassView Turn). p.spare + 1) bare ≡ length passes
seats_of [] bare are = ap (sum_by (λ (p : PassView Turn). p.spare + 1)) are
seats_of (p ∷ passes) [] are = absurd are
seats_of (p ∷ passes) (b ∷ bare) are =
    let s = sum_by-cons (λ (q : PassView Turn). q.spare + 1) b bare in
    let i = seats_of passes bare are.1 in let none = are.0.spare in omega arith

-- what was made through them is the same
made_is : (passes : List NodeView) (bare : List (PassView Turn)) → AreBare passes bare
    → parts_of bare ≡ map (λ (p : NodeView). p.made) passes
made_is [] bare are = ap parts_of are
made_is (p ∷ passes) [] are = absurd are
made_is (p ∷ passes) (b ∷ bare) are = λ i. are.0.made i ∷ made_is passes bare are.1 i

seen_is : (all : List Turn) (passes : List NodeView) (bare : List (PassView Turn)) → AreBare passes bare
    → All (λ (p : PassView Turn). IsPrefix p.seen all) bare → All (λ (p : NodeView). IsPrefix p.seen all) passes
seen_is all [] bare are h = All-nil (λ (p : NodeView). IsPrefix p.seen all)
seen_is all (p ∷ passes) [] are h = absurd are
seen_is all (p ∷ passes) (b ∷ bare) are h =
    All-cons (λ (q : NodeView). IsPrefix q.seen all) p passes
    (subst (λ s. IsPrefix s all) are.0.seen (All-head (λ (q : PassView Turn). IsPrefix q.seen all) b bare h))
    (seen_is all passes bare are.1 (All-tail (λ (q : PassView Turn). IsPrefix q.seen all) b bare h))

-- each pass has made its node's turns alone
abbrev OwnAll : List NodeView → Type 0
OwnAll [] = Unit {0}
OwnAll (p ∷ passes) = AreOf p.node p.made × OwnAll passes

own_all : (passes : List NodeView) (bare : List (PassView Turn)) → AreBare passes bare → OwnAll passes
own_all [] bare are = tt
own_all (p ∷ passes) [] are = absurd are
own_all (p ∷ passes) (b ∷ bare) are = (are.0.own, own_all passes bare are.1)

own_middle : (earlier later : List NodeView) (pass : NodeView) → OwnAll (earlier ++ pass ∷ later)
    → AreOf pass.node pass.made × OwnAll (earlier ++ later)
own_middle [] later pass h = h
own_middle (p ∷ earlier) later pass h = let i = own_middle earlier later pass h.1 in (i.0, (h.0, i.1))

-- two nodes that are each one with a third
through : (a b c : Node) → same_node a b ≡ true → same_node b c ≡ false → same_node a c ≡ false
through (Host a) (Host b) c e f =
    subst (λ n. same_node (Host (record { 0 = n })) c ≡ false) (sym (eqb-true a.0 b.0 e)) f
through (Server a) (Server b) c e f =
    subst (λ n. same_node (Server (record { 0 = n })) c ≡ false) (sym (eqb-true a.0 b.0 e)) f
through (Host a) (Server b) c e f = absurd (cc)
through (Server a) (Host b) c e f = absurd (cc)

module _ (node : Node) where
  abbrev is_mine : Turn → Bool
  is_mine t = same_node t.node node

  mine_pass : (turns : List Turn) → AreOf node turns → PassesAll is_mine turns
  mine_pass [] h = tt
  mine_pass (t ∷ turns) h = (h.0, mine_pass turns h.1)

  others_fail : (other : Node) (turns : List Turn) → same_node other node ≡ false → AreOf other turns
      → FailsAll is_mine turns
  others_fail other [] e h = tt
  others_fail other (t ∷ turns) e h = (through t.node other node h.0 e, others_fail other turns e h.1)

  abbrev Others : List NodeView → Type 0
  Others [] = Unit {0}
  Others (p ∷ passes) = FailsAll is_mine p.made × Others passes

  are_others : (passes : List NodeView) → OwnAll passes
      → All (λ (p : NodeView). same_node p.node node ≡ false) passes → Others passes
  are_others [] own h = tt
  are_others (p ∷ passes) own h = (
    others_fail p.node p.made (All-head (λ (q : NodeView). same_node q.node node ≡ false) p passes h) own.0,
    are_others passes own.1 (All-tail (λ (q : NodeView). same_node q.node node ≡ false) p passes h),
  )

  none_mine : (all : List Turn) (passes : List NodeView) → IsShuffle all (map (λ (p : NodeView). p.made) passes)
      → Others passes → filter is_mine all ≡ []
  none_mine all [] w h = ap (filter is_mine) w
  none_mine all (p ∷ passes) w h =
      let others = none_mine w.0 passes w.2 h.1 in
      weaves_left_only (filter is_mine all) [] (subst (λ l. Weaves (filter is_mine all) [] l) others
      (subst (λ l. Weaves (filter is_mine all) l (filter is_mine w.0)) (filter_fails is_mine p.made h.0)
      (filter_weaves is_mine all p.made w.0 w.1)))

  mine_at : (all : List Turn) (earlier later : List NodeView) (pass : NodeView)
      → IsShuffle all (map (λ (p : NodeView). p.made) (earlier ++ pass ∷ later)) → PassesAll is_mine pass.made
      → Others (earlier ++ later) → filter is_mine all ≡ pass.made
  mine_at all [] later pass w mine h =
      let others = none_mine w.0 later w.2 h in
      weaves_left_only (filter is_mine all) pass.made
      (subst (λ l. Weaves (filter is_mine all) pass.made l) others
      (subst (λ l. Weaves (filter is_mine all) l (filter is_mine w.0)) (filter_passes is_mine pass.made mine)
      (filter_weaves is_mine all pass.made w.0 w.1)))
  mine_at all (p ∷ earlier) later pass w mine h =
      let again = mine_at w.0 earlier later pass w.2 mine h.1 in
      weaves_right_only (filter is_mine all) pass.made
      (subst (λ l. Weaves (filter is_mine all) [] l) again
      (subst (λ l. Weaves (filter is_mine all) l (filter is_mine w.0)) (filter_fails is_mine p.made h.0)
      (filter_weaves is_mine all p.made w.0 w.1)))

-- the passes of a hub are all passes of its cell
pub all_seats : (cell : CellView Met) (hub : HubView) (passes : List NodeView) (bare : List (PassView Turn))
    → cell.id ≡ hub.id → cell.seats ≡ hub.nodes → AreBare passes bare → AreAllPasses hub passes → AreSeats cell bare
all_seats cell hub passes bare id seats are h = record {
  of_cell = subst (λ i. All (λ (p : PassView Turn). p.cell ≡ i) bare) (sym id)
      (of_cell hub.id passes bare are h.of_hub);
  all_seats = seats_of passes bare are ∙ h.all ∙ sym seats;
}

-- what the hub's list is at the end
pub ended : (hub : HubView) (passes : List NodeView) (bare : List (PassView Turn)) (board : Posted) (turns : List Turn)
    → AreBare passes bare → IsOf hub.first board → IsClosed board.turns bare → turns ≡ board.turns
    → HasEnded hub turns passes
ended hub passes bare board turns are whole closed is =
    let made = subst (IsShuffle turns) (made_is passes bare are)
    (subst (λ l. IsShuffle l (parts_of bare)) (sym is) closed.made) in
    record {
      board = board;
      list = sym is;
      whole = whole;
      made = made;
      seen = seen_is turns passes bare are
          (subst (λ l. All (λ (p : PassView Turn). IsPrefix p.seen l) bare) (sym is) closed.seen);
      own = (λ earlier later pass e others.
          let own = own_middle earlier later pass (subst OwnAll e (own_all passes bare are)) in
          mine_at pass.node turns earlier later pass
          (subst (λ ps. IsShuffle turns (map (λ (p : NodeView). p.made) ps)) e made)
          (mine_pass pass.node pass.made own.0) (are_others pass.node (earlier ++ later) own.1 others));
    }

-- The seats at the start of a run and at its end.
use Rattle.std.proofs.Common.{◌≡◌, ⊎_elim, inl, inr, ℕ, ◌<◌, false, List, [], ◌∷◌, Option, None, Some}
use Rattle.std.proofs.Common.{map, length, get_or, refl, sym, ap, ◌∙◌, subst, arith}
use Rattle.std.specs.Prelude.{◌⊎◌, IfErr, IfOk, IfSome, OnErr, OnOk, Result, Ok, Err}
use Rattle.base_types.specs.declared.ids.Node.{Node}
use Rattle.base_types.specs.declared.ids.Node.TheVariants.{Host}
use Rattle.tree_answers.specs.declared.tree.Tree.{Tree}
use Rattle.script_lines.specs.declared.script.Script.{Script}
use Rattle.hub_board.specs.Hubs.{nodes_of}
use Rattle.hub_board.specs.Turning.{steps_of}
use Rattle.hub_board.specs.declared.given.Turn.{Turn}
use Rattle.hub_turns.specs.Meetings.{HasEnded, first_pass}
use Rattle.hub_turns.specs.Views.{HubView, NodeView}
use Rattle.run_rules.specs.Past.{In}
use Rattle.run_rules.specs.declared.journal.Journal.{Journal}
use Rattle.run_rules.specs.declared.step.Step.{Step}
use Rattle.hub_laws.specs.Keeping.{Round, steps_in}
use Rattle.hub_drive.specs.Driving.{AreLeft, AreNodes, CanStart, HasDriven, HasRested, HasStopped, HaveRested}
use Rattle.hub_drive.specs.Driving.{IsFault, IsFree}
use Rattle.hub_drive.specs.Driving.{IsHubOf, StandAfter}
use Rattle.hub_drive.specs.Driving.{IsJournalOf, IsUndone, IsUndoneAt, ShowsFault, beginning}
use Rattle.hub_node.specs.Nodes.{Beginning, HandsIn, HasBecome, IsDone, Knows, Part, part_of}
use Rattle.hub_node.specs.declared.node.NodeFault.{NodeFault}
use Rattle.hub_node.specs.declared.node.NodeFault.TheVariants.{Store as StoreFailed}
use Rattle.hub_drive.specs.Seats.{EachAt, HasGone, HasStood, IsAtRest, IsHere, IsIn, IsSeated, IsThrough, PairsAt}
use Rattle.hub_drive.specs.declared.driver.DriveFault.{DriveFault}
use Rattle.hub_drive.specs.declared.driver.DriveFault.TheVariants.{Store, Memory, Stuck}
use Rattle.hub_drive.specs.declared.driver.Waiting.{Waiting}
use Rattle.hub_drive.specs.declared.seat.Seat.{Seat}
use Rattle.hub_drive.proofs.Closing.{IsSat, driven, left_are, sat_stood, sat_through, stand_after, stopped}
use Rattle.hub_drive.proofs.Lists.{each_in, map_here, map_size, maps_same, pairs_map, same_at}
use Rattle.hub_drive.proofs.Turning.{stood_first}

pub if_ok : {T E : Type 0} (r : Result T E) (P Q : T → Type 0) → ((x : T) → P x → Q x) → IfOk r P → IfOk r Q
if_ok (Ok x) P Q f h = f x h
if_ok (Err e) P Q f h = tt

pub if_err : {T E : Type 0} (r : Result T E) (P Q : E → Type 0) → ((x : E) → P x → Q x) → IfErr r P → IfErr r Q
if_err (Ok x) P Q f h = tt
if_err (Err e) P Q f h = f e h

-- what holds whatever comes
pub on_any : {T E P : Type 0} (r : Result T E) → P → OnOk r P
on_any (Ok x) p = p
on_any (Err e) p = tt

pub on_err : {T E P : Type 0} (r : Result T E) → P → OnErr r P
on_err (Ok x) p = tt
on_err (Err e) p = p

-- what comes never
pub on_never : {T E : Type 0} (r : Result T E) (P : Type 0) → OnOk r ⊥ → OnOk r P
on_never (Ok x) P h = absurd h
on_never (Err e) P h = tt

pub ok_never : {T E : Type 0} (r : Result T E) (P : T → Type 0) → OnOk r ⊥ → IfOk r P
ok_never (Ok x) P h = absurd h
ok_never (Err e) P h = tt

pub none_some : {A : Type 0} (o : Option A) (P : A → Type 0) → o ≡ None → IfSome o P
none_some None P e = tt
none_some (Some x) P e = absurd (cc)

pub is_memory : (fault : DriveFault) → IsFree fault → fault ≡ Memory
is_memory (Store k) h = absurd h
is_memory (Stuck w) h = absurd h
is_memory Memory h = refl

module _ {N : Type 0} where
  abbrev pub node_of : Seat N → N
  node_of s = s.node

  -- what has become of seats has become of their nodes
  module _ (stands : Part → N → List Round → List Step → Type 0) (stays : N → N → Type 0)
      (failed : NodeFault → N → N → Type 0) (broken : Part → N → List Round → Type 0) (next : N → Option ℕ)
      (hub : HubView) where
    -- of those that are through it stays
    pub stayed_of : (olds news : List (Seat N)) → PairsAt (HasGone stands stays failed broken hub) olds news
        → EachAt (λ (s : Seat N). s.fault ≡ None) news → PairsAt stays (map node_of olds) (map node_of news)
    stayed_of olds news h well =
        let n = h.count in
        pairs_map node_of stays olds news h.count (λ i d lt. (h.each i d lt).stayed (well i d (omega (arith, lt, n))))

    pub became_of : (olds news : List (Seat N)) → PairsAt (HasGone stands stays failed broken hub) olds news
        → EachAt (λ (s : Seat N). s.fault ≡ None) olds
        → PairsAt (HasBecome stays failed) (map node_of olds) (map node_of news)
    became_of olds news h well =
        pairs_map node_of (HasBecome stays failed) olds news h.count
        (λ i d lt. by_fault (get_or olds i d) (get_or news i d) (get_or news i d).fault refl (h.each i d lt)
        (well i d lt))
      where
        by_fault : (old new : Seat N) (fault : Option NodeFault) → new.fault ≡ fault
            → HasGone stands stays failed broken hub old new → old.fault ≡ None → HasBecome stays failed old.node
            new.node
        by_fault old new None e h well = inl (h.stayed e)
        by_fault old new (Some fault) e h well = inr (fault, h.fails well fault e)

    pub nodes_on : (olds news : List (Seat N)) → PairsAt (HasGone stands stays failed broken hub) olds news
        → map (λ (s : Seat N). s.pass.node) news ≡ map (λ (s : Seat N). s.pass.node) olds
    nodes_on olds news h =
        maps_same (λ (s : Seat N). s.pass.node) olds news h.count (λ i d lt. (h.each i d lt).node_is)

    -- the node of a seat at rest has come to rest
    rested_by : (tells : Type 0) (run : Beginning) (s : Seat N) (n : N) (node : Node)
        → IsAtRest stands run hub tells s → s.node ≡ n → s.pass.node ≡ node → HasRested stands (part_of run node) n
    rested_by tells run s n node rest here own = record {
      before = rest.before;
      stood = subst (λ y. stands (part_of run node) y (record { steps = []; given = None } ∷ rest.before) []) here
          (subst (λ k. stands (part_of run k) s.node (record { steps = []; given = None } ∷ rest.before) []) own
          (subst (λ l. stands (part_of run s.pass.node) s.node (record { steps = []; given = None } ∷ rest.before) l)
          rest.none
          (subst (λ r. stands (part_of run s.pass.node) s.node r s.steps.steps) rest.newest rest.seated.stood)));
    }

    -- and it isn't done where it didn't say so
    undone_by : (tells : Type 0) (run : Beginning) (s : Seat N) (n : N) (node : Node)
        → IsAtRest stands run hub tells s → s.node ≡ n → s.pass.node ≡ node → s.ended ≡ false
        → IsUndone tells stands (part_of run node) n
    unfolding rested_by
    undone_by tells run s n node rest here own e = record {
      rested = rested_by tells run s n node rest here own;
      undone = (λ knows done. rest.undone e (subst (Knows tells) (sym own) knows)
          (subst (λ (k : Node). IsDone run k (steps_in rest.before)) (sym own) done));
    }

    -- seats at rest are those of nodes that have come to rest
    module _ (tells : Type 0) (run : Beginning) (x : Seat N) (news : List (Seat N))
        (rests : EachAt (IsAtRest stands run hub tells) (x ∷ news))
        (are : map (λ (s : Seat N). s.pass.node) (x ∷ news) ≡ nodes_of run.script) (i : ℕ) (n : N) (node : Node)
        (here : i < length (x ∷ news)) where
      node_here : (get_or (x ∷ news) i x).node ≡ get_or (map node_of (x ∷ news)) i n
      node_here = sym (map_here node_of (x ∷ news) i x n here)

      pass_here : (get_or (x ∷ news) i x).pass.node ≡ get_or (nodes_of run.script) i node
      pass_here = sym (ap (λ l. get_or l i node) (sym are)
          ∙ map_here (λ (y : Seat N). y.pass.node) (x ∷ news) i x node here)

      rested_at : HasRested stands (part_of run (get_or (nodes_of run.script) i node))
          (get_or (map node_of (x ∷ news)) i n)
      rested_at = rested_by tells run (get_or (x ∷ news) i x) (get_or (map node_of (x ∷ news)) i n)
          (get_or (nodes_of run.script) i node) (rests i x here) node_here pass_here

      undone_at : (get_or (x ∷ news) i x).ended ≡ false
          → IsUndone tells stands (part_of run (get_or (nodes_of run.script) i node))
          (get_or (map node_of (x ∷ news)) i n)
      undone_at e = undone_by tells run (get_or (x ∷ news) i x) (get_or (map node_of (x ∷ news)) i n)
          (get_or (nodes_of run.script) i node) (rests i x here) node_here pass_here e

    rested_of : (tells : Type 0) (run : Beginning) (news : List (Seat N))
        → EachAt (IsAtRest stands run hub tells) news
        → map (λ (s : Seat N). s.pass.node) news ≡ nodes_of run.script → HaveRested stands run (map node_of news)
    rested_of tells run [] rests are i n node lt = absurd (omega (arith, lt))
    rested_of tells run (x ∷ news) rests are i n node lt =
        let size = map_size node_of (x ∷ news) in
        rested_at tells run x news rests are i n node (omega (arith, lt, size))

    undone_of : (tells : Type 0) (run : Beginning) (news : List (Seat N)) (k : ℕ)
        → EachAt (IsAtRest stands run hub tells) news
        → map (λ (s : Seat N). s.pass.node) news ≡ nodes_of run.script → k < length (map node_of news)
        → ((d : Seat N) → (get_or news k d).ended ≡ false) → IsUndoneAt tells stands run (map node_of news) k
    undone_of tells run [] k rests are lt e n node = absurd (omega (arith, lt))
    undone_of tells run (x ∷ news) k rests are lt e n node =
        let size = map_size node_of (x ∷ news) in
        undone_at tells run x news rests are k n node (omega (arith, lt, size)) (e x)

    pub failed_of : (tells : Type 0) (run : Beginning) (olds news : List (Seat N)) (fault : DriveFault)
        → PairsAt (HasGone stands stays failed broken hub) olds news → EachAt (λ (s : Seat N). s.fault ≡ None) olds
        → ((w : Waiting) → fault ≡ Stuck w → EachAt (IsAtRest stands run hub tells) news)
        → map (λ (s : Seat N). s.pass.node) news ≡ nodes_of run.script → ShowsFault next news fault
        → IsFault tells stands run failed next (map node_of olds) (map node_of news) fault
    failed_of tells run [] news (Store k) h well rests are shows =
        let n = h.count in let lt = shows.0 in absurd (omega arith)
    failed_of tells run (o ∷ olds) news (Store k) h well rests are shows =
        let n = h.count in let low = shows.0 in
        let here : k < length (o ∷ olds) = omega arith in
        let g = h.each k o here in
        let size = map_size node_of (o ∷ olds) in (
          omega (arith, here, size),
          (λ d. subst (λ x. failed StoreFailed x (get_or (map node_of news) k d))
              (sym (map_here node_of (o ∷ olds) k o d here))
              (subst (failed StoreFailed (get_or (o ∷ olds) k o).node) (sym (map_here node_of news k o d low))
              (g.fails (well k o here) StoreFailed (shows.1 o)))),
        )
    failed_of tells run olds news Memory h well rests are shows = tt
    failed_of tells run olds news (Stuck w) h well rests are shows = (
      shows.0,
      rested_of tells run news (rests w refl) are,
      undone_of tells run news w.node (rests w refl) are shows.0.0 shows.1,
    )

    pub free_of : (tells : Type 0) (run : Beginning) (olds news : List N) (fault : DriveFault) → IsFree fault
        → IsFault tells stands run failed next olds news fault
    free_of tells run olds news (Store k) h = absurd h
    free_of tells run olds news Memory h = tt
    free_of tells run olds news (Stuck w) h = absurd h

    -- the fault is this one, or memory ran out
    pub fault_or_free : (tells : Type 0) (run : Beginning) (olds news : List N) (fault : DriveFault)
        → IsFault tells stands run failed next olds news fault → (f : DriveFault) → (f ≡ fault) ⊎ IsFree f
        → IsFault tells stands run failed next olds news f
    fault_or_free tells run olds news fault h f either = ⊎_elim
        (λ (e : f ≡ fault). subst (IsFault tells stands run failed next olds news) (sym e) h)
        (λ (free : IsFree f). free_of tells run olds news f free) either

  -- seats that were in a run are in it still
  pub all_in : (stands : Part → N → List Round → List Step → Type 0) (stays : N → N → Type 0)
      (failed : NodeFault → N → N → Type 0) (broken : Part → N → List Round → Type 0) (hub : HubView)
      (run : Beginning) (olds news : List (Seat N))
      → PairsAt (HasGone stands stays failed broken hub) olds news
      → EachAt (IsIn stands run hub) olds → EachAt (IsIn stands run hub) news
  all_in stands stays failed broken hub run olds news h at i d lt =
      let n = h.count in
      let here : i < length olds = omega (arith, lt, n) in
      (h.each i d here).kept run (at i d here)

  -- those that have stood in a run have done so still
  pub all_stood : (stands : Part → N → List Round → List Step → Type 0) (stays : N → N → Type 0)
      (failed : NodeFault → N → N → Type 0) (broken : Part → N → List Round → Type 0) (hub : HubView)
      (run : Beginning) (olds news : List (Seat N))
      → PairsAt (HasGone stands stays failed broken hub) olds news → EachAt (IsIn stands run hub) olds
      → EachAt (λ (s : Seat N). HasStood stands stays failed broken run hub s.pass s.node s.steps.steps) olds
      → EachAt (λ (s : Seat N). HasStood stands stays failed broken run hub s.pass s.node s.steps.steps) news
  all_stood stands stays failed broken hub run olds news h at stood i d lt =
      let n = h.count in
      let here : i < length olds = omega (arith, lt, n) in
      (h.each i d here).held run (at i d here) (stood i d here)

  -- those that have just sat down stand there
  pub first_stood : (stands : Part → N → List Round → List Step → Type 0) (stays : N → N → Type 0)
      (failed : NodeFault → N → N → Type 0) (broken : Part → N → List Round → Type 0) (so : (a : N) → stays a a)
      (hub : HubView) (run : Beginning)
      (seats : List (Seat N)) → EachAt (IsSeated stands run hub) seats
      → EachAt (λ (s : Seat N). (s.steps.steps ≡ []) × (s.fault ≡ None)) seats
      → EachAt (λ (s : Seat N). HasStood stands stays failed broken run hub s.pass s.node s.steps.steps) seats
  first_stood stands stays failed broken so hub run seats at empty i d lt =
      stood_first stands stays failed broken so run hub (get_or seats i d) (at i d lt) (empty i d lt).0

  -- those that sit in a run sit somewhere
  pub all_here : (stands : Part → N → List Round → List Step → Type 0) (hub : HubView) (run : Beginning)
      (seats : List (Seat N)) → EachAt (IsSeated stands run hub) seats → EachAt (IsHere stands hub) seats
  all_here stands hub run seats at i d lt = record { run = run; is_in = λ well. at i d lt }

  -- nodes that have just sat down
  module _ (stands : Part → N → List Round → List Step → Type 0) (run : Beginning) (hub : HubView)
      (hub_is : IsHubOf run.script hub) (seats : List (Seat N)) (nodes : List N) (passes : List NodeView)
      (are : AreNodes stands run nodes) (sit : map node_of seats ≡ nodes)
      (have : map (λ (s : Seat N). s.pass) seats ≡ passes)
      (first : passes ≡ map (first_pass hub.id) (nodes_of run.script))
      (empty : EachAt (λ (s : Seat N). (s.steps.steps ≡ []) × (s.fault ≡ None)) seats) where
    map_map : {A B C : Type 0} (f : B → C) (g : A → B) (xs : List A) → map f (map g xs) ≡ map (λ x. f (g x)) xs
    map_map f g [] = refl
    map_map f g (x ∷ xs) = ap (λ l. f (g x) ∷ l) (map_map f g xs)

    same : (ns : List Node) → map (λ (n : Node). n) ns ≡ ns
    same [] = refl
    same (n ∷ ns) = ap (λ l. n ∷ l) (same ns)

    pub nodes_are : map (λ (s : Seat N). s.pass.node) seats ≡ nodes_of run.script
    nodes_are = sym (map_map (λ (p : NodeView). p.node) (λ (s : Seat N). s.pass) seats)
        ∙ ap (map (λ (p : NodeView). p.node)) (have ∙ first)
        ∙ map_map (λ (p : NodeView). p.node) (first_pass hub.id) (nodes_of run.script)
        ∙ same (nodes_of run.script)

    sizes : length nodes ≡ length seats
    sizes = ap (λ (l : List N). length l) (sym sit) ∙ map_size node_of seats

    pub all_seated : EachAt (IsSeated stands run hub) seats
    all_seated i d lt =
        let n0 : Node = Host (record { 0 = 0 }) in
        let s : Seat N = get_or seats i d in
        let n = get_or (nodes_of run.script) i n0 in
        let size = sizes in
        let count = are.count in
        let there : i < length (nodes_of run.script) = omega (arith, lt, size, count) in
        let pass_is : s.pass ≡ first_pass hub.id n =
        same_at (λ (x : Seat N). x.pass) (first_pass hub.id) seats (nodes_of run.script) i d n0
        (have ∙ first) lt there in
        let node_is : get_or nodes i s.node ≡ s.node =
        ap (λ l. get_or l i s.node) (sym sit) ∙ map_here node_of seats i d s.node lt in
        let fresh : stands (part_of run n) s.node [] [] =
        subst (λ x. stands (part_of run n) x [] []) node_is (are.fresh i s.node n0 (omega (arith, lt, size))) in
        let own : stands (part_of run s.pass.node) s.node [] [] =
        subst (λ (k : Node). stands (part_of run k) s.node [] []) (sym (ap (λ (p : NodeView). p.node) pass_is)) fresh in
        record {
          hub_is = ap (λ (p : NodeView). p.hub) pass_is;
          roster = hub_is.roster;
          rounds = [];
          made = ap (λ (p : NodeView). p.made) pass_is;
          keeps = tt;
          stood = subst (stands (part_of run s.pass.node) s.node []) (sym (empty i d lt).0) own;
        }

-- passes of nodes that sit at a hub are ready for it to be closed
pub close_ready : {N : Type 0} (hub : HubView) (seats : List (Seat N)) (passes : List NodeView)
    → EachAt (λ (s : Seat N). s.pass.hub ≡ hub.id) seats
    → passes ≡ map (λ (s : Seat N). s.pass) seats → length seats ≡ hub.nodes
    → (length passes ≡ hub.nodes) × EachAt (λ (p : NodeView). p.hub ≡ hub.id) passes
close_ready hub [] passes h are count = (
  ap (λ (l : List NodeView). length l) are ∙ count,
  λ i d lt. absurd (let e = ap (λ (l : List NodeView). length l) are in omega arith),
)
close_ready {N} hub (s ∷ seats) passes h are count =
    let size = map_size (λ (x : Seat N). x.pass) (s ∷ seats) in
    let sizes = ap (λ (l : List NodeView). length l) are in (
      sizes ∙ size ∙ count,
      (λ i d lt.
          let there : i < length (s ∷ seats) = omega (arith, lt, sizes, size) in
          let at = ap (λ l. get_or l i d) are ∙ map_here (λ (x : Seat N). x.pass) (s ∷ seats) i s d there in
          ap (λ (p : NodeView). p.hub) at ∙ h i s there),
    )

-- the run of nodes that are through, by the turns of the hub that was closed
pub driven_by : {N : Type 0} (tells : Type 0) (stands : Part → N → List Round → List Step → Type 0)
    (hands_in : (n : N) → HandsIn tells stands n) (script : Script) (start : Tree) (epochs : List ℕ)
    (can : CanStart script start epochs) (hub : HubView) (hub_is : IsHubOf script hub) (seats : List (Seat N))
    (are : map (λ (s : Seat N). s.pass.node) seats ≡ nodes_of script)
    (through : EachAt (IsThrough stands (beginning script start epochs) hub tells) seats) (nodes : List N)
    (passes : List NodeView)
    → nodes ≡ map node_of seats → passes ≡ map (λ (s : Seat N). s.pass) seats → (journal : Journal)
    → ((turns : List Turn) × HasEnded hub turns passes × IsJournalOf start epochs turns journal)
    → HasDriven tells stands script start epochs nodes journal
driven_by {N} tells stands hands_in script start epochs can hub hub_is seats are through nodes passes sit have journal
    h =
    let run = beginning script start epochs in
    let each : (s : Seat N) → In s seats → IsThrough stands run hub tells s =
    λ s i. each_in (IsThrough stands run hub tells) seats s through i in
    driven tells stands script start epochs can hub hub_is seats are
    (λ s i. sat_through tells stands hands_in run hub s (each s i)) h.0 journal
    h.2.starts h.2.epochs_are h.2.steps (subst (HasEnded hub h.0) have h.1) nodes sit each

-- the run of nodes that came to no end, by the turns of the hub that was closed
module _ {N : Type 0} (tells : Type 0) (stands : Part → N → List Round → List Step → Type 0)
    (stays : N → N → Type 0) (failed : NodeFault → N → N → Type 0) (broken : Part → N → List Round → Type 0)
    (hands_in : (n : N) → HandsIn tells stands n) (script : Script) (start : Tree) (epochs : List ℕ)
    (can : CanStart script start epochs) (hub : HubView) (hub_is : IsHubOf script hub) (seats : List (Seat N))
    (are : map (λ (s : Seat N). s.pass.node) seats ≡ nodes_of script)
    (stood : EachAt (λ (s : Seat N). HasStood stands stays failed broken (beginning script start epochs) hub s.pass
    s.node
    s.steps.steps) seats)
    (nodes : List N) (passes : List NodeView) (sit : nodes ≡ map node_of seats)
    (have : passes ≡ map (λ (s : Seat N). s.pass) seats) (journal : Journal)
    (h : (turns : List Turn) × HasEnded hub turns passes × IsJournalOf start epochs turns journal) where
  stood_each : (s : Seat N) → In s seats
      → HasStood stands stays failed broken (beginning script start epochs) hub s.pass s.node s.steps.steps
  stood_each s i =
      each_in (λ (x : Seat N). HasStood stands stays failed broken (beginning script start epochs) hub x.pass x.node
      x.steps.steps) seats s stood i

  sat_each : (s : Seat N) → In s seats → IsSat tells (beginning script start epochs) hub s.pass
  sat_each s i =
      sat_stood tells stands hands_in (beginning script start epochs) hub stays failed broken s.pass s.node
      s.steps.steps
      (stood_each s i)

  pub stopped_by : HasStopped tells stands stays failed broken script start epochs nodes journal
  stopped_by = stopped tells stands script start epochs can hub hub_is seats are sat_each h.0 journal
      h.2.starts h.2.epochs_are h.2.steps (subst (HasEnded hub h.0) have h.1) nodes sit stays failed broken stood_each

  pub left_by : (left : List (List Step)) → left ≡ map (λ (s : Seat N). s.steps.steps) seats
      → AreLeft stands failed (beginning script start epochs) nodes left journal
  left_by left lie = left_are tells stands script start epochs can hub hub_is seats are sat_each h.0 journal
      h.2.starts h.2.epochs_are h.2.steps (subst (HasEnded hub h.0) have h.1) nodes sit stays failed broken
      stood_each left lie

  -- those that are at rest stand where it brought them
  pub rests_by : EachAt (IsAtRest stands (beginning script start epochs) hub tells) seats
      → StandAfter stands (beginning script start epochs) journal nodes
  rests_by rest = stand_after tells stands script start epochs can hub hub_is seats are sat_each h.0 journal
      h.2.starts h.2.epochs_are h.2.steps (subst (HasEnded hub h.0) have h.1) nodes sit
      (λ s i. (let r = each_in (IsAtRest stands (beginning script start epochs) hub tells) seats s rest i in
      (r.seated, r.none)))

-- such a run has a journal, whether or not it is at hand
pub held_by : {N : Type 0} (tells : Type 0) (stands : Part → N → List Round → List Step → Type 0)
    (stays : N → N → Type 0) (failed : NodeFault → N → N → Type 0) (broken : Part → N → List Round → Type 0)
    (hands_in : (n : N) → HandsIn tells stands n) (script : Script) (start : Tree) (epochs : List ℕ)
    (can : CanStart script start epochs) (hub : HubView) (hub_is : IsHubOf script hub) (seats : List (Seat N))
    (are : map (λ (s : Seat N). s.pass.node) seats ≡ nodes_of script)
    (stood : EachAt (λ (s : Seat N). HasStood stands stays failed broken (beginning script start epochs) hub s.pass
    s.node
    s.steps.steps) seats)
    (nodes : List N) (passes : List NodeView) → nodes ≡ map node_of seats
    → passes ≡ map (λ (s : Seat N). s.pass) seats → ((turns : List Turn) × HasEnded hub turns passes)
    → (journal : Journal) × HasStopped tells stands stays failed broken script start epochs nodes journal
held_by {N} tells stands stays failed broken hands_in script start epochs can hub hub_is seats are stood nodes passes
    sit have ended =
    let journal : Journal = record { start = start ∷ []; epochs = epochs; steps = steps_of ended.0 } in (
      journal,
      stopped_by tells stands stays failed broken hands_in script start epochs can hub hub_is seats are stood nodes
          passes sit
          have journal (ended.0, ended.1, record { starts = refl; epochs_are = refl; steps = refl }),
    )

-- and one that couldn't begin has one without a step
pub none_held : {N : Type 0} (tells : Type 0) (stands : Part → N → List Round → List Step → Type 0)
    (stays : N → N → Type 0) (failed : NodeFault → N → N → Type 0) (broken : Part → N → List Round → Type 0)
    (so : (a : N) → stays a a) (script : Script)
    (start : Tree) (epochs : List ℕ) → CanStart script start epochs → (nodes : List N)
    → AreNodes stands (beginning script start epochs) nodes
    → (journal : Journal) × HasStopped tells stands stays failed broken script start epochs nodes journal
none_held {N} tells stands stays failed broken so script start epochs can nodes are =
    let journal : Journal = record { start = start ∷ []; epochs = epochs; steps = [] } in (
      journal,
      record {
        starts = refl;
        epochs_are = refl;
        planned = tt;
        rules = λ node i knows. tt;
        run = λ told. record {
          start = start;
          starts = refl;
          valid = can.valid;
          roster = can.roster;
          epochs = can.counted;
          steps = tt;
        };
        dutiful = λ told. record { start = start; starts = refl; steps = tt };
        count = are.count;
        stood = λ i n node lt. record {
          rounds = [];
          own = refl;
          sent = λ m i. absurd i;
          before = get_or nodes i n;
          past = [];
          handed = [];
          stood = are.fresh i n node lt;
          whole = refl;
          since = inl ([], are.fresh i n node lt, so (get_or nodes i n));
        };
      },
    )

pub seats_count : {N : Type 0} (script : Script) (seats : List (Seat N))
    → map (λ (s : Seat N). s.pass.node) seats ≡ nodes_of script → length seats ≡ length (nodes_of script)
seats_count {N} script seats are =
    sym (map_size (λ (s : Seat N). s.pass.node) seats) ∙ ap (λ (l : List Node). length l) are

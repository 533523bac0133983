-- A hub that was closed with the passes of nodes that are through, or that came to no end.
use Rattle.std.proofs.Common.{◌≡◌, ◌++◌, Option, None, Some, ⊎_elim, inl, inr, ℕ, ◌<◌, List, [], ◌∷◌, map, length}
use Rattle.std.proofs.Common.{get_or, refl, sym, ap, ◌∙◌}
use Rattle.std.proofs.Common.{subst, arith}
use Rattle.base_types.specs.declared.ids.Node.{Node}
use Rattle.base_types.specs.declared.ids.Node.TheVariants.{Host, Server}
use Rattle.tree_answers.specs.declared.tree.Tree.{Tree}
use Rattle.script_lines.specs.declared.script.Script.{Script}
use Rattle.hub_board.specs.Hubs.{nodes_of}
use Rattle.hub_board.specs.Turning.{steps_of}
use Rattle.hub_board.specs.declared.given.Turn.{Turn}
use Rattle.message_types.specs.declared.message.Message.{Message}
use Rattle.run_rules.specs.Past.{Always, In}
use Rattle.run_rules.specs.Plans.{sent_in}
use Rattle.run_rules.specs.Runs.{IsDutiful, IsRun, past_of}
use Rattle.hub_turns.specs.Meetings.{HasEnded}
use Rattle.hub_turns.specs.Views.{HubView, NodeView}
use Rattle.run_rules.specs.declared.journal.Journal.{Journal}
use Rattle.run_rules.specs.declared.step.Step.{Step}
use Rattle.hub_board.specs.declared.given.Given.{Given}
use Rattle.hub_board.specs.declared.given.Given.TheVariants.{Begun, Lapse, Message as Came, Raised}
use Rattle.hub_laws.specs.Keeping.{Round, message_in, messages_given, steps_in}
use Rattle.hub_laws.specs.Closings.{AreApart, HasHeld, HasKept, HasMade, IsClosed, KeepsOn}
use Rattle.hub_laws.proofs.Apart.{nodes_are_apart}
use Rattle.hub_laws.proofs.Closing.{closed_has_held}
use Rattle.hub_drive.specs.Driving.{AreLeft, CanStart, HasDriven, HasStoodAfter, HasStopped, IsHubOf, IsLeft}
use Rattle.hub_drive.specs.Driving.{StandAfter}
use Rattle.hub_drive.specs.Driving.{StandsAfter, beginning}
use Rattle.hub_node.specs.Nodes.{Beginning, HandsIn, IsDone, Knows, MayHandIn, OwnMeets, Part, part_of}
use Rattle.hub_node.specs.declared.node.NodeFault.{NodeFault}
use Rattle.hub_drive.specs.Seats.{EachAt, HasComeTo, HasComeWith, HasStood, IsSeated, IsThrough}
use Rattle.hub_drive.specs.declared.seat.Seat.{Seat}
use Rattle.hub_drive.proofs.Filtered.{always_before, mine}
use Rattle.hub_drive.proofs.Lists.{each_in, in_each, map_here, map_size}
use Rattle.hub_drive.proofs.Meeting.{IsKnown, is_dutiful, is_ended, is_run}
use Rattle.hub_drive.proofs.Members.{in_map, map_in}

map_map : {A B C : Type 0} (f : B → C) (g : A → B) (xs : List A) → map f (map g xs) ≡ map (λ x. f (g x)) xs
map_map f g [] = refl
map_map f g (x ∷ xs) = ap (λ l. f (g x) ∷ l) (map_map f g xs)

-- what is known of a pass of a hub that is closed: these rounds have made it, its node has kept on in each, and their
-- steps meet the node's rules
pub record IsSat (tells : Type 0) (run : Beginning) (hub : HubView) (pass : NodeView) : Type 0 where
  pub rounds : List Round
  pub made : HasMade hub rounds pass
  pub keeps : Always (KeepsOn run.script pass.node) rounds
  pub meets : Knows tells pass.node → Always (OwnMeets run pass.node) (steps_in rounds)

module _ {N : Type 0} (tells : Type 0) (stands : Part → N → List Round → List Step → Type 0)
    (hands_in : (n : N) → HandsIn tells stands n) (run : Beginning) (hub : HubView) where
  -- so it is with those of nodes that are through
  pub sat_through : (s : Seat N) → IsThrough stands run hub tells s → IsSat tells run hub s.pass
  sat_through s t =
      let seated = t.seated in
      let part : Part = part_of run s.pass.node in
      let may : MayHandIn tells part seated.rounds s.steps.steps =
      hands_in s.node part seated.rounds s.steps.steps seated.stood in record {
        rounds = seated.rounds;
        made = seated.made;
        keeps = seated.keeps;
        meets = (λ knows. always_before (OwnMeets run s.pass.node) s.steps.steps (steps_in seated.rounds)
            (may.meets knows));
      }

  -- and with those of nodes that have stood there
  pub sat_stood : (stays : N → N → Type 0) (failed : NodeFault → N → N → Type 0)
      (broken : Part → N → List Round → Type 0) (pass : NodeView) (n : N)
      (left : List Step) → HasStood stands stays failed broken run hub pass n left → IsSat tells run hub pass
  sat_stood stays failed broken pass n left h =
      let part : Part = part_of run pass.node in
      let may : MayHandIn tells part h.past h.handed = hands_in h.before part h.past h.handed h.stood in record {
        rounds = h.rounds;
        made = h.made;
        keeps = h.keeps;
        meets = (λ knows. subst (λ (l : List Step). Always (OwnMeets run pass.node) l) (sym h.whole) (may.meets knows));
      }

-- a message that was given was so in a round
given_by : (rounds : List Round) (m : Message) → In m (messages_given rounds)
    → (r : Round) × In r rounds × (r.given ≡ Some (Came m))
given_by [] m i = absurd i
given_by (r ∷ rounds) m i =
    by r.given refl i (λ j. let before = given_by rounds m j in (before.0, inr before.1, before.2))
  where
    by : (g : Option Given) → r.given ≡ g → In m (message_in g ++ messages_given rounds)
        → (In m (messages_given rounds) → (s : Round) × In s (r ∷ rounds) × (s.given ≡ Some (Came m)))
        → (s : Round) × In s (r ∷ rounds) × (s.given ≡ Some (Came m))
    by None e j later = later j
    by (Some Begun) e j later = later j
    by (Some (Raised flag)) e j later = later j
    by (Some Lapse) e j later = later j
    by (Some (Came k)) e (inl is) later = (r, inl refl, e ∙ ap (λ (x : Message). Some (Came x)) (sym is))
    by (Some (Came k)) e (inr j) later = later j

module _ {N : Type 0} (tells : Type 0) (stands : Part → N → List Round → List Step → Type 0)
    (script : Script) (start : Tree) (epochs : List ℕ) (can : CanStart script start epochs)
    (hub : HubView) (hub_is : IsHubOf script hub) (seats : List (Seat N))
    (are : map (λ (s : Seat N). s.pass.node) seats ≡ nodes_of script)
    (sat : (s : Seat N) → In s seats → IsSat tells (beginning script start epochs) hub s.pass) (turns : List Turn)
    (journal : Journal)
    (starts : journal.start ≡ start ∷ []) (epochs_are : journal.epochs ≡ epochs)
    (steps : journal.steps ≡ steps_of turns) where
  abbrev run : Beginning
  run = beginning script start epochs

  abbrev pass_of : Seat N → NodeView
  pass_of s = s.pass

  abbrev left_of : Seat N → List Step
  left_of s = s.steps.steps

  abbrev passes : List NodeView
  passes = map pass_of seats

  nodes_are : map (λ (p : NodeView). p.node) passes ≡ nodes_of script
  nodes_are = map_map (λ (p : NodeView). p.node) pass_of seats ∙ are

  kept : (p : NodeView) → In p passes → HasKept script hub p
  kept p i =
      let j = in_map pass_of p seats i in
      let here = sat j.0 j.1 in
      subst (HasKept script hub) (sym j.2) (here.rounds, here.made, here.keeps)

  module _ (ended : HasEnded hub turns passes) where
    closed : IsClosed script [] hub turns passes journal
    closed = record {
      first = hub_is.first;
      ended = ended;
      apart = subst AreApart (sym nodes_are) (nodes_are_apart script);
      kept = kept;
      steps = steps;
      due = (λ node. omega arith);
      few = (let servers = can.servers in let few = can.servers_few in omega arith);
    }

    held : HasHeld script hub passes journal
    held = closed_has_held script [] hub turns passes journal closed

    -- the steps of a node in the journal are those of its rounds
    own_is : (s : Seat N) (i : In s seats) (rounds : List Round) → HasMade hub rounds s.pass
        → mine s.pass.node (past_of journal) ≡ steps_in rounds
    own_is s i rounds made = (held.whole s.pass (map_in pass_of s seats i)).past rounds made

    seat_meets : (s : Seat N) → In s seats → Knows tells s.pass.node
        → Always (OwnMeets run s.pass.node) (mine s.pass.node (past_of journal))
    seat_meets s i knows =
        let here = sat s i in
        subst (λ l. Always (OwnMeets run s.pass.node) l) (sym (own_is s i here.rounds here.made)) (here.meets knows)

    all_known : tells → (node : Node) → Knows tells node
    all_known told (Host host) = tt
    all_known told (Server server) = told

    knows_seat : tells → (s : Seat N) → In s seats → IsKnown script start epochs (past_of journal) s.pass
    knows_seat told s i = record {
      among = subst (In s.pass.node) nodes_are
          (map_in (λ (p : NodeView). p.node) s.pass passes (map_in pass_of s seats i));
      meets = seat_meets s i (all_known told s.pass.node);
    }

    knows : tells → (p : NodeView) → In p passes → IsKnown script start epochs (past_of journal) p
    knows told p i =
        let j = in_map pass_of p seats i in
        subst (IsKnown script start epochs (past_of journal)) (sym j.2) (knows_seat told j.0 j.1)

    -- the seat of a node
    seat_of : (node : Node) → In node (nodes_of script) → (s : Seat N) × In s seats × (node ≡ s.pass.node)
    seat_of node i = in_map (λ (s : Seat N). s.pass.node) node seats (subst (In node) (sym are) i)

    rules : (node : Node) → In node (nodes_of script) → Knows tells node
        → Always (OwnMeets run node) (mine node (past_of journal))
    rules node i knows =
        let j = seat_of node i in
        subst (λ (n : Node). Always (OwnMeets run n) (mine n (past_of journal))) (sym j.2)
        (seat_meets j.0 j.1 (subst (Knows tells) j.2 knows))

    run_is : tells → IsRun script journal
    run_is told = is_run script start epochs can journal starts epochs_are hub passes held (knows told)

    dutiful_is : tells → IsDutiful script journal
    dutiful_is told = is_dutiful script start epochs can journal starts epochs_are hub passes held (knows told)

    many : length seats ≡ length (nodes_of script)
    many = sym (map_size (λ (s : Seat N). s.pass.node) seats) ∙ ap (λ (l : List Node). length l) are

    module _ (nodes : List N) (sit : nodes ≡ map (λ (s : Seat N). s.node) seats) where
      size : length nodes ≡ length seats
      size = ap (λ (l : List N). length l) sit ∙ map_size (λ (s : Seat N). s.node) seats

      first_seat : (l : List (Seat N)) (i : ℕ) → i < length l → Seat N
      first_seat [] i lt = absurd (omega (arith, lt))
      first_seat (s ∷ l) i lt = s

      -- what holds of each seat holds of the node at its place
      each_place : (P : Node → N → Type 0) → ((s : Seat N) → In s seats → P s.pass.node s.node)
          → (i : ℕ) (n : N) (node : Node) → i < length nodes → P (get_or (nodes_of script) i node) (get_or nodes i n)
      each_place P h i n node lt =
          let same = size in
          let here : i < length seats = omega (arith, lt, same) in
          let d = first_seat seats i here in
          let s : Seat N = get_or seats i d in
          let node_is : get_or (nodes_of script) i node ≡ s.pass.node =
          ap (λ l. get_or l i node) (sym are) ∙ map_here (λ (x : Seat N). x.pass.node) seats i d node here in
          let n_is : get_or nodes i n ≡ s.node =
          ap (λ l. get_or l i n) sit ∙ map_here (λ (x : Seat N). x.node) seats i d n here in
          subst (λ (k : Node). P k (get_or nodes i n)) (sym node_is)
          (subst (P s.pass.node) (sym n_is)
          (in_each (λ (x : Seat N). P x.pass.node x.node) seats h i d here))

      -- nodes that sit there, and have nothing to hand in
      module _ (sitting : (s : Seat N) → In s seats → IsSeated stands run hub s × (s.steps.steps ≡ [])) where
        stand : (s : Seat N) → In s seats → StandsAfter stands run journal s.pass.node s.node
        stand s i =
            let h = sitting s i in record {
              rounds = h.0.rounds;
              stood = subst (stands (part_of run s.pass.node) s.node h.0.rounds) h.1 h.0.stood;
              own = own_is s i h.0.rounds h.0.made;
            }

        pub stand_after : StandAfter stands run journal nodes
        stand_after = each_place (StandsAfter stands run journal) stand

      -- nodes that are through
      module _ (through : (s : Seat N) → In s seats → IsThrough stands run hub tells s) where
        seat_done : (s : Seat N) → In s seats → Knows tells s.pass.node
            → IsDone run s.pass.node (mine s.pass.node (past_of journal))
        seat_done s i knows =
            let t = through s i in
            subst (IsDone run s.pass.node) (sym (own_is s i t.seated.rounds t.seated.made)) (t.done knows)

        done : (node : Node) → In node (nodes_of script) → Knows tells node
            → IsDone run node (mine node (past_of journal))
        done node i knows =
            let j = seat_of node i in
            subst (λ (n : Node). IsDone run n (mine n (past_of journal))) (sym j.2)
            (seat_done j.0 j.1 (subst (Knows tells) j.2 knows))

        pub driven : HasDriven tells stands script start epochs nodes journal
        driven = record {
          starts = starts;
          epochs_are = epochs_are;
          planned = held.planned;
          rules = rules;
          done = done;
          run = run_is;
          dutiful = dutiful_is;
          ended = (λ told. is_ended script start epochs can journal starts epochs_are hub passes held (knows told)
              (λ n i. done n i (all_known told n)));
          count = size ∙ many;
          stand = stand_after (λ s i. ((through s i).seated, (through s i).none));
        }

      -- nodes that came to no end
      module _ (stays : N → N → Type 0) (failed : NodeFault → N → N → Type 0) (broken : Part → N → List Round → Type 0)
          (stood : (s : Seat N) → In s seats → HasStood stands stays failed broken run hub s.pass s.node
          s.steps.steps) where
        come : (s : Seat N) (rounds : List Round) (before : N)
            → HasComeWith stands stays failed broken (part_of run s.pass.node) rounds before s.node s.steps.steps
            → HasComeTo stands stays failed broken (part_of run s.pass.node) rounds before s.node
        come s rounds before since = ⊎_elim
            (λ (x : stands (part_of run s.pass.node) s.node rounds s.steps.steps × stays before s.node).
            inl (s.steps.steps, x.0, x.1))
            (λ (x : ((fault : NodeFault) × failed fault before s.node) × broken (part_of run s.pass.node) s.node
            rounds).
            inr x)
            since

        sent : (s : Seat N) → In s seats → (rounds : List Round) → HasMade hub rounds s.pass → (m : Message)
            → In m (messages_given rounds) → In m (sent_in (past_of journal))
        sent s i rounds made m j =
            let by = given_by rounds m j in
            (held.whole s.pass (map_in pass_of s seats i)).sent rounds made by.0 by.1 m by.2

        stood_after : (s : Seat N) → In s seats
            → HasStoodAfter stands stays failed broken run journal s.pass.node s.node
        stood_after s i =
            let h = stood s i in record {
              rounds = h.rounds;
              own = own_is s i h.rounds h.made;
              sent = sent s i h.rounds h.made;
              before = h.before;
              past = h.past;
              handed = h.handed;
              stood = h.stood;
              whole = h.whole;
              since = come s h.rounds h.before h.since;
            }

        pub stopped : HasStopped tells stands stays failed broken script start epochs nodes journal
        stopped = record {
          starts = starts;
          epochs_are = epochs_are;
          planned = held.planned;
          rules = rules;
          run = run_is;
          dutiful = dutiful_is;
          count = size ∙ many;
          stood = each_place (HasStoodAfter stands stays failed broken run journal) stood_after;
        }

        -- and what is left of them
        left_by : (s : Seat N) → In s seats → IsLeft stands failed run journal s.pass.node s.node s.steps.steps
        left_by s i =
            let h = stood s i in record {
              rounds = h.rounds;
              own = own_is s i h.rounds h.made;
              stands_on = ⊎_elim
                  (λ (x : stands (part_of run s.pass.node) s.node h.rounds s.steps.steps × stays h.before s.node).
                  inl x.0)
                  (λ (x : ((fault : NodeFault) × failed fault h.before s.node)
                  × broken (part_of run s.pass.node) s.node h.rounds). inr (x.0.0, (h.before, x.0.1)))
                  h.since;
            }

        left_at : (left : List (List Step)) → left ≡ map left_of seats → (i : ℕ) (n : N) (node : Node)
            → i < length nodes → IsLeft stands failed run journal (get_or (nodes_of script) i node) (get_or nodes i n)
            (get_or left i [])
        left_at left lie i n node lt =
            let same = size in
            let here : i < length seats = omega (arith, lt, same) in
            let d = first_seat seats i here in
            let s : Seat N = get_or seats i d in
            let node_is : get_or (nodes_of script) i node ≡ s.pass.node =
            ap (λ l. get_or l i node) (sym are) ∙ map_here (λ (x : Seat N). x.pass.node) seats i d node here in
            let n_is : get_or nodes i n ≡ s.node =
            ap (λ l. get_or l i n) sit ∙ map_here (λ (x : Seat N). x.node) seats i d n here in
            let left_is : get_or left i [] ≡ s.steps.steps =
            ap (λ l. get_or l i []) lie ∙ map_here left_of seats i d [] here in
            subst (λ (k : Node). IsLeft stands failed run journal k (get_or nodes i n) (get_or left i [])) (sym node_is)
            (subst (λ (x : N). IsLeft stands failed run journal s.pass.node x (get_or left i [])) (sym n_is)
            (subst (IsLeft stands failed run journal s.pass.node s.node) (sym left_is)
            (in_each (λ (x : Seat N). IsLeft stands failed run journal x.pass.node x.node x.steps.steps) seats left_by
            i d here)))

        pub left_are : (left : List (List Step)) → left ≡ map left_of seats
            → AreLeft stands failed run nodes left journal
        left_are left lie = record {
          count = ap (λ (l : List (List Step)). length l) lie ∙ map_size left_of seats ∙ sym size;
          each = left_at left lie;
        }

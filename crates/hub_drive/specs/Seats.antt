-- Nodes at the hub, each with its pass and the steps that it hands in next.
use Rattle.std.specs.Prelude.{List, None, Some, [], false, length, slice_index_or, ◌<◌, ◌∷◌, ◌≡◌, ◌⊎◌, ℕ}
use Rattle.hub_turns.specs.Views.{HubView, NodeView}
use Rattle.run_rules.specs.Past.{Always, appended}
use Rattle.run_rules.specs.declared.step.Step.{Step}
use Rattle.hub_laws.specs.Keeping.{Round, steps_in}
use Rattle.hub_laws.specs.Closings.{HasMade, KeepsOn}
use Rattle.hub_node.specs.Nodes.{Beginning, IsDone, Knows, Part, part_of}
use Rattle.hub_node.specs.declared.node.NodeFault.{NodeFault}
use Rattle.hub_drive.specs.declared.seat.Seat.{Seat}

module _ {N : Type 0} (stands : Part → N → List Round → List Step → Type 0) (run : Beginning) (hub : HubView) where
  -- A node sits at the hub of a run: its pass is the hub's, these rounds have made the pass and the node what they
  -- are, and it has kept on in each.
  pub record IsSeated (s : Seat N) : Type 0 where
    pub hub_is : s.pass.hub ≡ hub.id
    pub roster : hub.roster ≡ run.script.roster
    pub rounds : List Round
    pub made : HasMade hub rounds s.pass
    pub keeps : Always (KeepsOn run.script s.pass.node) rounds
    pub stood : stands (part_of run s.pass.node) s.node rounds s.steps.steps

  -- so it is as long as nothing failed there
  abbrev pub IsIn : Seat N → Type 0
  IsIn s = s.fault ≡ None → IsSeated s

  -- and it is at rest: in its newest round it handed in nothing and was given nothing, and it has made nothing; where
  -- it didn't say that it is done, it isn't
  pub record IsAtRest (tells : Type 0) (s : Seat N) : Type 0 where
    pub well : s.fault ≡ None
    pub seated : IsSeated s
    pub none : s.steps.steps ≡ []
    pub before : List Round
    pub newest : seated.rounds ≡ record { steps = []; given = None } ∷ before
    pub undone : s.ended ≡ false → Knows tells s.pass.node → IsDone run s.pass.node (steps_in before) → ⊥

  -- and it is done, with nothing to hand in
  pub record IsThrough (tells : Type 0) (s : Seat N) : Type 0 where
    pub well : s.fault ≡ None
    pub seated : IsSeated s
    pub none : s.steps.steps ≡ []
    pub done : Knows tells s.pass.node → IsDone run s.pass.node (steps_in seated.rounds)

-- it sits there in some run
pub record IsHere {N : Type 0} (stands : Part → N → List Round → List Step → Type 0) (hub : HubView) (s : Seat N)
    : Type 0 where
  pub run : Beginning
  pub is_in : IsIn stands run hub s

-- What has become of a node since it handed in for the last time: it stands on the steps of all its rounds, with some
-- that it has made since; or something failed there, in the turn of the newest.
abbrev pub HasComeTo : {N : Type 0} → (Part → N → List Round → List Step → Type 0) → (N → N → Type 0)
    → (NodeFault → N → N → Type 0) → (Part → N → List Round → Type 0) → Part → List Round → N → N → Type 0
HasComeTo stands stays failed broken part rounds before n =
    ((made : List Step) × stands part n rounds made × stays before n)
    ⊎ (((fault : NodeFault) × failed fault before n) × broken part n rounds)

-- the same, where it has made these since, which are left
abbrev pub HasComeWith : {N : Type 0} → (Part → N → List Round → List Step → Type 0) → (N → N → Type 0)
    → (NodeFault → N → N → Type 0) → (Part → N → List Round → Type 0) → Part → List Round → N → N → List Step → Type 0
HasComeWith stands stays failed broken part rounds before n left =
    (stands part n rounds left × stays before n)
    ⊎ (((fault : NodeFault) × failed fault before n) × broken part n rounds)

-- What is known of a node with its pass and the steps that are left, even where something failed there: these rounds
-- have made the pass, and the node has kept on in each. As it was when it handed in for the last time, or before its
-- first turn, it stood on all the steps of these rounds.
pub record HasStood {N : Type 0} (stands : Part → N → List Round → List Step → Type 0) (stays : N → N → Type 0)
    (failed : NodeFault → N → N → Type 0) (broken : Part → N → List Round → Type 0) (run : Beginning) (hub : HubView)
    (pass : NodeView) (n : N)
    (left : List Step) : Type 0 where
  pub hub_is : pass.hub ≡ hub.id
  pub rounds : List Round
  pub made : HasMade hub rounds pass
  pub keeps : Always (KeepsOn run.script pass.node) rounds
  pub before : N
  pub past : List Round
  pub handed : List Step
  pub stood : stands (part_of run pass.node) before past handed
  pub whole : steps_in rounds ≡ appended handed (steps_in past)
  pub since : HasComeWith stands stays failed broken (part_of run pass.node) rounds before n left

-- What has become of a seat: it is its node's, and that sits there still, in whatever run it did; as long as nothing
-- failed it has what stays of it, and where something has, that is so since then; where something failed before
-- nothing was done; and whatever comes, it has stood there.
pub record HasGone {N : Type 0} (stands : Part → N → List Round → List Step → Type 0) (stays : N → N → Type 0)
    (failed : NodeFault → N → N → Type 0) (broken : Part → N → List Round → Type 0) (hub : HubView)
    (old new : Seat N) : Type 0 where
  pub node_is : new.pass.node ≡ old.pass.node
  pub kept : (run : Beginning) → IsIn stands run hub old → IsIn stands run hub new
  pub stayed : new.fault ≡ None → stays old.node new.node
  pub fails : old.fault ≡ None → (fault : NodeFault) → new.fault ≡ Some fault → failed fault old.node new.node
  pub frozen : (old.fault ≡ None → ⊥) → (new.node ≡ old.node) × (new.fault ≡ old.fault)
  pub held : (run : Beginning) → IsIn stands run hub old
      → HasStood stands stays failed broken run hub old.pass old.node old.steps.steps
      → HasStood stands stays failed broken run hub new.pass new.node new.steps.steps

-- it is so of each of a list
abbrev pub EachAt : {A : Type 0} → (A → Type 0) → List A → Type 0
EachAt P xs = (i : ℕ) (d : _) → i < length xs → P (slice_index_or xs i d)

-- and of each two of as many
pub record PairsAt {A : Type 0} (R : A → A → Type 0) (olds news : List A) : Type 0 where
  pub count : length news ≡ length olds
  pub each : (i : ℕ) (d : A) → i < length olds → R (slice_index_or olds i d) (slice_index_or news i d)

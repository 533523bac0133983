-- The journal of a closed hub is a run, and ended, where each node's own steps meet its rules and it is done.
use Rattle.std.proofs.Common.{◌≡◌, ◌⊎◌, ⊎_elim, inl, inr, ℕ, true, List, [], ◌∷◌, length, refl, sym, ap, ◌∙◌, subst}
use Rattle.std.proofs.Common.{eq-eqb}
use Rattle.base_types.specs.declared.ids.HostId.{HostId}
use Rattle.base_types.specs.declared.ids.Node.{Node}
use Rattle.base_types.specs.declared.ids.Node.TheVariants.{Host, Server}
use Rattle.base_types.specs.declared.ids.ServerId.{ServerId}
use Rattle.tree_answers.specs.declared.tree.Tree.{Tree}
use Rattle.message_types.specs.Soundness.{IsSound}
use Rattle.message_types.specs.declared.message.Message.{Message}
use Rattle.script_lines.specs.declared.script.Script.{Script}
use Rattle.hub_board.specs.Hubs.{nodes_of}
use Rattle.run_rules.specs.Doings.{Doing, HasGoneAway, Listed, doings_of}
use Rattle.run_rules.specs.Past.{Always, In, appended}
use Rattle.run_rules.specs.Runs.{FlagsMet, IsDutiful, IsEnded, IsFrom, IsRun, StepDue, StepMeets, StepsMeet}
use Rattle.run_rules.specs.Runs.{TakesPart, past_of}
use Rattle.run_rules.specs.ServerDue.{ServerDue}
use Rattle.run_rules.specs.ServerMay.{ServerMay}
use Rattle.run_rules.specs.Steps.{first_epoch, is_node, steps_of_server}
use Rattle.hub_turns.specs.Views.{HubView, NodeView}
use Rattle.run_rules.specs.declared.journal.Journal.{Journal}
use Rattle.run_rules.specs.declared.step.Step.{Step}
use Rattle.hub_laws.specs.Laws.{CauseSent}
use Rattle.hub_laws.specs.Closings.{HasHeld, IsMade}
use Rattle.hub_drive.specs.Driving.{CanStart, beginning}
use Rattle.hub_node.specs.Nodes.{IsDone, OwnMeets}
use Rattle.hub_drive.proofs.Filtered.{acts_own, mine, own_always}
use Rattle.hub_drive.proofs.Members.{is_host, is_server, takes_part}

node_self : (n : Node) → is_node n n ≡ true
node_self (Host h) = eq-eqb h.0 h.0 refl
node_self (Server v) = eq-eqb v.0 v.0 refl

-- what is known of a pass of a closed hub: its node is one of the script, and its own steps meet its rules
pub record IsKnown (script : Script) (start : Tree) (epochs : List ℕ) (past : List Step) (pass : NodeView)
    : Type 0 where
  pub among : In pass.node (nodes_of script)
  pub meets : Always (OwnMeets (beginning script start epochs) pass.node) (mine pass.node past)

module _ (script : Script) (start : Tree) (epochs : List ℕ) where
  abbrev firsts : ServerId → ℕ
  firsts server = first_epoch epochs server

  abbrev P : Node → List Step → Step → Type 0
  P n = OwnMeets (beginning script start epochs) n

  -- what a step meets by its node's own steps it meets by all
  step_meets : (n : Node) (before : List Step) (s : Step) → P n (mine n before) s → CauseSent firsts n before s
      → StepMeets script start firsts n before s
  step_meets (Host h) before s o c = (o.0, c)
  step_meets (Server v) before s o c = (
    subst (λ (a : List Doing). ServerMay script start v (steps_of_server v before) a s)
        (acts_own (firsts v) v before) o.0,
    c,
  )

  step_due : (n : Node) (before : List Step) (s : Step) → P n (mine n before) s → StepDue script start firsts n before s
  step_due (Host h) before s o = o.1
  step_due (Server v) before s o =
      subst (λ (a : List Doing). ServerDue script start v (steps_of_server v before) a s)
      (acts_own (firsts v) v before) o.1

  abbrev Sends : Step → Type 0
  Sends s = (m : Message) → In m s.sent → IsFrom s.node m × IsSound script.roster m

  abbrev Met : List Step → Step → Type 0
  Met before s = StepMeets script start firsts s.node before s × FlagsMet script before s × TakesPart script s.node
      × Sends s

  -- a step of a node that is known
  module _ (passes : List NodeView) (servers : script.servers ≡ length script.roster.capacity)
      (among : (p : NodeView) → In p passes → In p.node (nodes_of script)) where
    all_meet : (past : List Step) → ((s : Step) → In s past → IsMade script passes s)
        → ((p : NodeView) → In p passes → Always (λ before s. is_node s.node p.node ≡ true
        → P p.node (mine p.node before) s) past)
        → Always (λ before s. CauseSent firsts s.node before s) past → Always (FlagsMet script) past → Always Met past
    all_meet [] made ways sent met = tt
    all_meet (s ∷ past) made ways sent met =
        let m = made s (inl refl) in
        let is : is_node s.node m.pass.node ≡ true =
        subst (λ n. is_node s.node n ≡ true) m.node (node_self s.node) in
        let mine_meets : P m.pass.node (mine m.pass.node past) s = (ways m.pass m.among).1 is in
        let own_meets : P s.node (mine s.node past) s = subst (λ n. P n (mine n past) s) (sym m.node) mine_meets in (
          all_meet past (λ x i. made x (inr i)) (λ p i. (ways p i).0) sent.0 met.0,
          (
            step_meets s.node past s own_meets sent.1,
            met.1,
            subst (TakesPart script) (sym m.node) (takes_part script servers m.pass.node (among m.pass m.among)),
            m.sends,
          ),
        )

    all_due : (past : List Step) → ((s : Step) → In s past → IsMade script passes s)
        → ((p : NodeView) → In p passes → Always (λ before s. is_node s.node p.node ≡ true
        → P p.node (mine p.node before) s) past)
        → Always (λ before s. StepDue script start firsts s.node before s) past
    all_due [] made ways = tt
    all_due (s ∷ past) made ways =
        let m = made s (inl refl) in
        let is : is_node s.node m.pass.node ≡ true =
        subst (λ n. is_node s.node n ≡ true) m.node (node_self s.node) in
        let mine_meets : P m.pass.node (mine m.pass.node past) s = (ways m.pass m.among).1 is in
        let own_meets : P s.node (mine s.node past) s = subst (λ n. P n (mine n past) s) (sym m.node) mine_meets in
        (all_due past (λ x i. made x (inr i)) (λ p i. (ways p i).0), step_due s.node past s own_meets)

in_after : {A : Type 0} (x : A) (xs past : List A) → In x (appended xs past) → In x xs ⊎ In x past
in_after x [] past i = inr i
in_after {A} x (y ∷ xs) past i = ⊎_elim
    (λ (a : In x xs). inl (inr a))
    (λ (b : In x (y ∷ past)). ⊎_elim (λ (e : x ≡ y). inl (inl e)) (λ (c : In x past). inr c) b)
    (in_after x xs (y ∷ past) i)

in_steps : (s : Step) (steps : List Step) → In s (appended steps []) → In s steps
in_steps s steps i = ⊎_elim (λ (a : In s steps). a) (λ (none : In s []). absurd none) (in_after s steps [] i)

module _ (script : Script) (start : Tree) (epochs : List ℕ) (can : CanStart script start epochs) (journal : Journal)
    (starts : journal.start ≡ start ∷ []) (epochs_are : journal.epochs ≡ epochs) (hub : HubView)
    (passes : List NodeView) (held : HasHeld script hub passes journal)
    (knows : (p : NodeView) → In p passes → IsKnown script start epochs (past_of journal) p) where
  abbrev past : List Step
  past = past_of journal

  sent : Always (λ before s. CauseSent (firsts script start epochs) s.node before s) past
  sent = subst (λ e. Always (λ before s. CauseSent (λ server. first_epoch e server) s.node before s) past) epochs_are
      held.sent

  meet : StepsMeet script start (firsts script start epochs) past
  meet =
      all_meet script start epochs passes can.servers (λ p i. (knows p i).among) past
      (λ s i. held.made s (in_steps s journal.steps i))
      (λ p i. own_always (P script start epochs p.node) p.node past (knows p i).meets)
      sent held.met

  pub is_run : IsRun script journal
  is_run = record {
    start = start;
    starts = starts;
    valid = can.valid;
    roster = can.roster;
    epochs = ap (λ (e : List ℕ). length e) epochs_are ∙ can.counted;
    steps = subst (λ e. StepsMeet script start (λ server. first_epoch e server) past) (sym epochs_are) meet;
  }

  pub is_dutiful : IsDutiful script journal
  is_dutiful = record {
    start = start;
    starts = starts;
    steps = subst (λ e. Always (λ before s. StepDue script start (λ server. first_epoch e server) s.node before s) past)
        (sym epochs_are)
        (all_due script start epochs passes can.servers (λ p i. (knows p i).among) past
        (λ s i. held.made s (in_steps s journal.steps i))
        (λ p i. own_always (P script start epochs p.node) p.node past (knows p i).meets));
  }

  -- and each node is done
  module _ (done : (n : Node) → In n (nodes_of script) → IsDone (beginning script start epochs) n (mine n past)) where
    abbrev Goes : ServerId → HostId → List Doing → Type 0
    Goes server host acts_of = Listed acts_of host → HasGoneAway acts_of host

    pub is_ended : IsEnded script journal
    is_ended = record {
      hosts = (λ host takes. done (Host host) (is_host script can.servers host takes));
      lines = (λ server i. (done (Server server) (is_server script can.servers server i)).0);
      servers = (λ server host i.
          let own_done = (done (Server server) (is_server script can.servers server i)).1 host in
          subst (λ e. Goes server host (doings_of (first_epoch e server) server past)) (sym epochs_are)
          (subst (Goes server host) (acts_own (first_epoch epochs server) server past) own_done));
    }

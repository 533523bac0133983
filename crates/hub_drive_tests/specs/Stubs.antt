-- Nodes that make no steps.
use Rattle.std.specs.Prelude.{Bool, List, [], true, false, ℕ, length, slice_index_or, ◌+◌, ◌≡◌, ◌<◌, ◌≤◌}
use Rattle.std.proofs.Common.{sym, subst, arith}
use Rattle.run_rules.specs.Past.{Always, In}
use Rattle.run_rules.specs.declared.step.Step.{Step}
use Rattle.hub_laws.specs.Keeping.{Round, lapses_given, lapses_taken, messages_given, messages_taken, steps_in}
use Rattle.hub_laws.specs.Taking.{Embeds}
use Rattle.hub_node.specs.Keeping.{HasKeptOn}
use Rattle.hub_node.specs.Nodes.{HandsIn, Knows, MayHandIn, OwnMeets, Part}
use Rattle.hub_node.proofs.Keeping.{may_hand_in}
use Rattle.hub_drive_tests.specs.declared.stub.Part.{Part as Beside}
use Rattle.hub_drive_tests.specs.declared.stub.Part.TheVariants.{Rests}
use Rattle.hub_drive_tests.specs.declared.stub.Stub.{Stub}

-- a node may rest
abbrev pub may_rest : Beside → Bool
may_rest (Rests turn) = true
may_rest other = false

-- only servers may, the last of seven nodes
pub record RestServers (stubs : List Stub) : Type 0 where
  pub places : (i : ℕ) (d : Stub) → i < length stubs → may_rest (slice_index_or stubs i d).part ≡ true → 5 ≤ i

-- it has made no steps, in a part without lines; if it may rest it is a server
pub record StandsIdle (part : Part) (n : Stub) (past : List Round) (made : List Step) : Type 0 where
  pub nothing : made ≡ []
  pub none : steps_in past ≡ []
  pub setup : part.run.script.setup ≡ []
  pub lines : part.run.script.lines ≡ []
  pub server : may_rest n.part ≡ true → Knows ⊥ part.node → ⊥

kept : (part : Part) (past : List Round) → steps_in past ≡ [] → HasKeptOn ⊥ part past [] [] 0
kept part past none = record {
  steps = tt;
  all_own = (λ s i. absurd (subst (In s) none i));
  messages = subst (λ l. Embeds (messages_taken l) (messages_given past)) (sym none) tt;
  lapsed = subst (λ l. 0 + lapses_taken l ≤ lapses_given past) (sym none) (omega arith);
  meets = (λ known. subst (Always (OwnMeets part.run part.node)) (sym none) tt);
}

pub hands_in : (n : Stub) → HandsIn ⊥ StandsIdle n
hands_in n part past made stood =
    subst (MayHandIn ⊥ part past) (sym stood.nothing) (may_hand_in ⊥ part past [] (kept part past stood.none))

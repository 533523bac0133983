-- What is said of a node of either kind.
use Rattle.std.specs.Prelude.{List, Option, ℕ}
use Rattle.base_types.specs.declared.ids.Node.{Node}
use Rattle.base_types.specs.declared.ids.Node.TheVariants.{Host as OfHost, Server as OfServer}
use Rattle.run_rules.specs.declared.step.Step.{Step}
use Rattle.hub_laws.specs.Keeping.{Round}
use Rattle.hub_node.specs.Nodes.{HandsIn, Knows, Part}
use Rattle.hub_node.specs.declared.either.AnyNode.{AnyNode}
use Rattle.hub_node.specs.declared.either.AnyNode.TheVariants.{Host, Server}
use Rattle.hub_node.specs.declared.node.NodeFault.{NodeFault}
use Rattle.hub_node.specs.declared.node.NodeFault.TheVariants.{Memory}

knows_left : (ht st : Type 0) (node : Node) → Knows (ht × st) node → Knows ht node
knows_left ht st (OfHost host) knows = tt
knows_left ht st (OfServer server) knows = knows.0

knows_right : (ht st : Type 0) (node : Node) → Knows (ht × st) node → Knows st node
knows_right ht st (OfHost host) knows = tt
knows_right ht st (OfServer server) knows = knows.1

module _ {H S : Type 0} where
  abbrev pub stands_any : (Part → H → List Round → List Step → Type 0) → (Part → S → List Round → List Step → Type 0)
      → Part → AnyNode H S → List Round → List Step → Type 0
  stands_any hs ss part (Host h) past made = hs part h past made
  stands_any hs ss part (Server s) past made = ss part s past made

  abbrev pub broken_any : (Part → H → List Round → Type 0) → (Part → S → List Round → Type 0) → Part → AnyNode H S
      → List Round → Type 0
  broken_any hb sb part (Host h) past = hb part h past
  broken_any hb sb part (Server s) past = sb part s past

  abbrev pub next_any : (H → Option ℕ) → (S → Option ℕ) → AnyNode H S → Option ℕ
  next_any hn sn (Host h) = hn h
  next_any hn sn (Server s) = sn s

  -- of two nodes of one kind
  abbrev pub of_either : (H → H → Type 0) → (S → S → Type 0) → AnyNode H S → AnyNode H S → Type 0
  of_either hr sr (Host a) (Host b) = hr a b
  of_either hr sr (Server a) (Server b) = sr a b
  of_either hr sr _ _ = ⊥

  pub hands_any : (ht st : Type 0) (hs : Part → H → List Round → List Step → Type 0)
      (ss : Part → S → List Round → List Step → Type 0) → ((h : H) → HandsIn ht hs h)
      → ((s : S) → HandsIn st ss s) → (n : AnyNode H S) → HandsIn (ht × st) (stands_any hs ss) n
  hands_any ht st hs ss f g (Host h) part past made stood = let may = f h part past made stood in record {
    keeps = may.keeps;
    meets = λ knows. may.meets (knows_left ht st part.node knows);
  }
  hands_any ht st hs ss f g (Server s) part past made stood = let may = g s part past made stood in record {
    keeps = may.keeps;
    meets = λ knows. may.meets (knows_right ht st part.node knows);
  }

  pub stays_here : (hr : H → H → Type 0) (sr : S → S → Type 0) → ((a : H) → hr a a) → ((a : S) → sr a a)
      → (n : AnyNode H S) → of_either hr sr n n
  stays_here hr sr f g (Host h) = f h
  stays_here hr sr f g (Server s) = g s

  fails_after : (hr : H → H → Type 0) (sr : S → S → Type 0) (hf : H → H → Type 0) (sf : S → S → Type 0)
      → ((a b c : H) → hr a b → hf b c → hf a c) → ((a b c : S) → sr a b → sf b c → sf a c)
      → (a b c : AnyNode H S) → of_either hr sr a b → of_either hf sf b c → of_either hf sf a c
  fails_after hr sr hf sf f g (Host a) (Host b) (Host c) h k = f a b c h k
  fails_after hr sr hf sf f g (Host a) (Host b) (Server c) h k = absurd k
  fails_after hr sr hf sf f g (Host a) (Server b) c h k = absurd h
  fails_after hr sr hf sf f g (Server a) (Server b) (Server c) h k = g a b c h k
  fails_after hr sr hf sf f g (Server a) (Server b) (Host c) h k = absurd k
  fails_after hr sr hf sf f g (Server a) (Host b) c h k = absurd h

  pub stays_after : (hr : H → H → Type 0) (sr : S → S → Type 0)
      → ((a b c : H) → hr a b → hr b c → hr a c) → ((a b c : S) → sr a b → sr b c → sr a c)
      → (a b c : AnyNode H S) → of_either hr sr a b → of_either hr sr b c → of_either hr sr a c
  stays_after hr sr f g a b c h k = fails_after hr sr hr sr f g a b c h k

  pub fails_either : (hr : H → H → Type 0) (sr : S → S → Type 0) (hf : NodeFault → H → H → Type 0)
      (sf : NodeFault → S → S → Type 0)
      → ((fault : NodeFault) (a b c : H) → hr a b → hf fault b c → hf fault a c)
      → ((fault : NodeFault) (a b c : S) → sr a b → sf fault b c → sf fault a c)
      → (fault : NodeFault) (a b c : AnyNode H S) → of_either hr sr a b → of_either (hf fault) (sf fault) b c
      → of_either (hf fault) (sf fault) a c
  fails_either hr sr hf sf f g fault a b c h k =
      fails_after hr sr (hf fault) (sf fault) (f fault) (g fault) a b c h k

  pub lacks_here : (hf : NodeFault → H → H → Type 0) (sf : NodeFault → S → S → Type 0) → ((a : H) → hf Memory a a)
      → ((a : S) → sf Memory a a) → (n : AnyNode H S) → of_either (hf Memory) (sf Memory) n n
  lacks_here hf sf f g n = stays_here (hf Memory) (sf Memory) f g n

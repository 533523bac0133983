-- What a server's node owes whoever drives it, whatever it does.
use Rattle.std.proofs.Common.{ℕ, ◌≤◌, refl, ◌∙◌, arith}
use Rattle.base_types.specs.Faults.{RoseBy}
use Rattle.store_memory.specs.Views.{View}
use Rattle.hub_node.proofs.Keeping.{let_go, may_hand_in}
use Rattle.hub_node.specs.Nodes.{HandsIn}
use Rattle.hub_node.specs.declared.node.NodeFault.{NodeFault}
use Rattle.hub_node.specs.declared.node.NodeFault.TheVariants.{Memory}
use Rattle.server_node.specs.Standing.{HasFailed, HasFailedBy, HasServed, Stands, latest_first}
use Rattle.server_node.specs.declared.server.ServerNode.{ServerNode}

-- it may hand in what it has made
pub hands_in : {S : Type 0} (tells : Type 0) (view : S → View) (n : ServerNode S) → HandsIn tells (Stands tells view) n
hands_in tells view n part past made st =
    may_hand_in tells part past made (let_go tells part past made (latest_first n.inbox) 0 st.so.kept)

-- what stays of it, and that its store failed, go on
rose_since : (a b c : ℕ) → a ≤ b → RoseBy 2 b c → RoseBy 2 a c
rose_since a b c le rose = omega arith

module _ {S : Type 0} (tells : Type 0) (view : S → View) where
  pub stays_so : (n : ServerNode S) → HasServed tells view n n
  stays_so n = record {
    same = record { server = refl; roster = refl };
    counted = omega arith;
    mendable = (λ m. m);
    worn = (λ w. w);
  }

  pub stays_on : (a b c : ServerNode S) → HasServed tells view a b → HasServed tells view b c → HasServed tells view a c
  stays_on a b c h k = record {
    same = record { server = k.same.server ∙ h.same.server; roster = k.same.roster ∙ h.same.roster };
    counted = (let x = h.counted in let y = k.counted in omega arith);
    mendable = (λ m. k.mendable (h.mendable m));
    worn = (λ w. k.worn (h.worn w));
  }

  pub fails_later : (a b c : ServerNode S) → HasServed tells view a b → HasFailed tells view b c
      → HasFailed tells view a c
  fails_later a b c h f = record {
    rose = rose_since (view a.keeper.store).faults (view b.keeper.store).faults (view c.keeper.store).faults h.counted
        f.rose;
    last = f.last;
  }

  pub fails_on : (fault : NodeFault) (a b c : ServerNode S) → HasServed tells view a b
      → HasFailedBy tells view fault b c → HasFailedBy tells view fault a c
  fails_on fault a b c h f = record {
    served = stays_on a b c h f.served;
    store = λ is. fails_later a b c h (f.store is);
  }

  -- memory may run out before it does anything
  pub lacks : (a : ServerNode S) → HasFailedBy tells view Memory a a
  lacks a = record { served = stays_so a; store = λ is. absurd (cc) }

-- Nodes made one after the other.
use Rattle.std.proofs.Common.{◌≡◌, ℕ, ◌+◌, ◌<◌, ◌≤◌, ◌^◌, List, [], ◌∷◌, ◌++◌, length, get_or, refl, sym, ap, ◌∙◌}
use Rattle.std.proofs.Common.{subst, append_assoc, arith}
use Rattle.std.proofs.lemmas.List.{length_push}
use Rattle.base_types.specs.declared.ids.Node.{Node}
use Rattle.script_lines.specs.declared.script.Script.{Script}
use Rattle.store_memory.specs.Views.{View}
use Rattle.hub_board.specs.Hubs.{nodes_of}
use Rattle.hub_node.specs.Nodes.{Beginning, part_of}
use Rattle.hub_node.specs.declared.either.AnyNode.TheVariants.{Host, Server}
use Rattle.host_node.specs.Standing.{IsPlayable, Stands as HostStands}
use Rattle.host_node.specs.declared.host.HostNode.{HostNode}
use Rattle.server_node.specs.Standing.{CanServe, Stands as ServerStands}
use Rattle.server_node.specs.declared.server.ServerNode.{ServerNode}
use Rattle.service_moves.specs.Stores.{AreStores}
use Rattle.service_hosts.specs.Nodes.{AreFirst, AreOver, CanAll, NodeOf, store_under, stores_in}
use Rattle.service_hosts.proofs.Laid.{first_push, none_first, none_over, over_long, push_host, push_server, stores_push}
use Rattle.service_hosts.proofs.Places.{host_at, host_place, long, server_at, server_place}

module _ {S : Type 0} (tells : Type 0) (view : S → View) (script : Script) where
  -- the first hosts of a script were made, so many of them
  pub record AreMade (nodes : List (NodeOf S)) (count : ℕ) : Type 0 where
    pub over : AreOver nodes count []
    pub first : (run : Beginning) → run.script ≡ script → IsPlayable script → AreFirst tells view run nodes

  pub none_made : (nodes : List (NodeOf S)) → nodes ≡ [] → AreMade nodes 0
  none_made nodes none = subst (λ (l : List (NodeOf S)). AreMade l 0) (sym none) (record {
    over = none_over;
    first = λ run is plays. none_first tells view run;
  })

  pub host_made : (nodes all : List (NodeOf S)) (count : ℕ) (n : HostNode) → AreMade nodes count
      → all ≡ nodes ++ Host n ∷ [] → count ≤ length script.roster.hosts
      → ((run : Beginning) → run.script ≡ script → IsPlayable script
      → HostStands (part_of run (host_at count)) n [] []) → AreMade all (count + 1)
  host_made nodes all count n made are le stands = subst (λ (l : List (NodeOf S)). AreMade l (count + 1)) (sym are)
      (record {
        over = push_host nodes count n made.over;
        first = λ run is plays. first_push tells view run nodes (Host n) (made.first run is plays)
            (λ node. subst (λ (m : Node). HostStands (part_of run m) n [] [])
            (sym (ap (λ (s : Script). get_or (nodes_of s) (length nodes) node) is
            ∙ ap (λ k. get_or (nodes_of script) k node) (alone made.over) ∙ host_place script count node le))
            (stands run is plays));
      })
    where
      alone : AreOver nodes count [] → length nodes ≡ count
      alone over = (let e = over_long nodes count [] over in omega (arith, e))

  -- so many servers were made behind the hosts, over the first of these stores; the others are left
  pub record AreAdded (hosts : List (NodeOf S)) (olds : List S) (nodes : List (NodeOf S)) (rest : List S) (count : ℕ)
      : Type 0 where
    pub out : List S
    pub over : AreOver nodes (length script.roster.hosts + 1) out
    pub whole : out ++ rest ≡ olds
    pub many : length out ≡ count
    pub left : AreStores view script.roster (2 ^ 40) (count + 1) rest
    pub can : (run : Beginning) → CanAll tells view run 1 olds → CanAll tells view run (count + 1) rest
    pub first : (run : Beginning) → run.script ≡ script → CanAll tells view run 1 olds
        → AreFirst tells view run hosts → AreFirst tells view run nodes

  pub none_added : (hosts : List (NodeOf S)) (olds : List S) → AreOver hosts (length script.roster.hosts + 1) []
      → AreStores view script.roster (2 ^ 40) 1 olds → AreAdded hosts olds hosts olds 0
  none_added hosts olds over are = record {
    out = [];
    over = over;
    whole = refl;
    many = refl;
    left = are;
    can = λ run can. can;
    first = λ run is can first. first;
  }

  pub server_added : (hosts : List (NodeOf S)) (olds : List S) (nodes all : List (NodeOf S)) (rest news : List S)
      (count : ℕ)
      (store : S) (n : ServerNode S) → AreAdded hosts olds nodes rest count → rest ≡ store ∷ news
      → all ≡ nodes ++ Server n ∷ [] → n.keeper.store ≡ store → count < script.servers
      → ((run : Beginning) → run.script ≡ script → CanServe tells run (record { 0 = count + 1 }) (view store)
      → ServerStands tells view (part_of run (server_at (count + 1))) n [] []) → AreAdded hosts olds all news
      (count + 1)
  server_added hosts olds nodes all rest news count store n added front are mine lt stands =
      subst (λ (l : List (NodeOf S)). AreAdded hosts olds l news (count + 1)) (sym are) (record {
        out = added.out ++ n.keeper.store ∷ [];
        over = push_server nodes (length script.roster.hosts + 1) added.out n added.over;
        whole = append_assoc added.out (n.keeper.store ∷ []) news
            ∙ ap (λ (x : S). added.out ++ x ∷ news) mine
            ∙ ap (λ (l : List S). added.out ++ l) (sym front) ∙ added.whole;
        many = length_push added.out n.keeper.store ∙ ap (λ k. k + 1) added.many;
        left = (subst (λ (l : List S). AreStores view script.roster (2 ^ 40) (count + 1) l) front added.left).1;
        can = λ run can. (subst (λ (l : List S). CanAll tells view run (count + 1) l) front (added.can run can)).1;
        first = λ run is can first.
            (let one = (subst (λ (l : List S). CanAll tells view run (count + 1) l) front (added.can run can)).0 in
            first_push tells view run nodes (Server n) (added.first run is can first)
            (λ node. subst (λ (m : Node). ServerStands tells view (part_of run m) n [] [])
            (sym (ap (λ (s : Script). get_or (nodes_of s) (length nodes) node) is
            ∙ server_place script count (length nodes) node lt place)) (stands run is one)));
      })
    where
      place : length nodes ≡ (length script.roster.hosts + 1) + count
      place =
          (let e = over_long nodes (length script.roster.hosts + 1) added.out added.over in
          let many = added.many in
          omega (arith, e, many))

  -- once all were made none is left
  pub all_added : (hosts : List (NodeOf S)) (olds : List S) (nodes : List (NodeOf S)) (rest : List S) (count : ℕ)
      → AreAdded hosts olds nodes rest count → count ≡ length olds → rest ≡ []
  all_added hosts olds nodes rest count added all =
      (let whole = ap (λ (l : List S). length l) added.whole in
      let both = long added.out rest in
      let many = added.many in
      none_left rest (omega (arith, whole, both, many, all)))
    where
      none_left : (xs : List S) → length xs ≡ 0 → xs ≡ []
      none_left [] e = refl
      none_left (x ∷ xs) e = absurd (omega (arith, e))

  -- some are left before
  pub some_left : (hosts : List (NodeOf S)) (olds : List S) (nodes : List (NodeOf S)) (rest : List S) (count : ℕ)
      → AreAdded hosts olds nodes rest count → count < length olds → 0 < length rest
  some_left hosts olds nodes rest count added lt =
      (let whole = ap (λ (l : List S). length l) added.whole in
      let both = long added.out rest in
      let many = added.many in
      omega (arith, whole, both, many, lt))

  -- the first of the stores that are left may be asked, and opened anew, and isn't worn out
  pub record IsFirst (x : S) : Type 0 where
    pub ready : (view x).ready
    pub mendable : (view x).mendable
    pub wear : (view x).wear ≤ 2 ^ 46

  pub first_left : (rest news : List S) (count : ℕ) (x : S)
      → AreStores view script.roster (2 ^ 40) (count + 1) rest → rest ≡ x ∷ news → IsFirst x
  first_left rest news count x are front =
      (let one = (subst (λ (l : List S). AreStores view script.roster (2 ^ 40) (count + 1) l) front are).0 in
      record {
        ready = one.ready;
        mendable = one.mendable;
        wear = (let w = one.wear in omega (arith, w));
      })

-- The last node is taken out, and its store, where it is a server's, put before those that were taken: with those of
-- the nodes that are left, in front, they are the same.
module _ {S : Type 0} (whole : List S) where
  pub record AreTaken (nodes : List (NodeOf S)) (stores : List S) : Type 0 where
    pub are : stores_in nodes ++ stores ≡ whole

  pub node_taken : (nodes rest : List (NodeOf S)) (n : NodeOf S) (stores news : List S) → nodes ≡ rest ++ n ∷ []
      → news ≡ store_under n ++ stores → AreTaken nodes stores → AreTaken rest news
  node_taken nodes rest n stores news e more taken = record {
    are = ap (λ (l : List S). stores_in rest ++ l) more
        ∙ sym (append_assoc (stores_in rest) (store_under n) stores)
        ∙ ap (λ (l : List S). l ++ stores)
        (sym (ap (λ (l : List (NodeOf S)). stores_in l) e ∙ stores_push rest n)) ∙ taken.are;
  }

  -- and there is room for it
  pub room_left : (nodes rest : List (NodeOf S)) (n : NodeOf S) → nodes ≡ rest ++ n ∷ []
      → length (stores_in nodes) ≡ length (stores_in rest) + length (store_under n)
  room_left nodes rest n e =
      ap (λ (l : List (NodeOf S)). length (stores_in l)) e ∙ ap (λ (l : List S). length l) (stores_push rest n)
      ∙ long (stores_in rest) (store_under n)

  pub all_taken : (nodes : List (NodeOf S)) (stores : List S) → nodes ≡ [] → AreTaken nodes stores → stores ≡ whole
  all_taken nodes stores none taken = sym (ap (λ (l : List (NodeOf S)). stores_in l ++ stores) none) ∙ taken.are

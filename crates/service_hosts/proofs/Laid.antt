-- Hosts and servers in one list, and the stores of the servers.
use Rattle.std.proofs.Common.{◌≡◌, ◌⊎◌, ⊎_elim, inl, inr, ℕ, zero, suc, ◌+◌, ◌<◌, ◌≤◌, List, [], ◌∷◌, ◌++◌, Some, map}
use Rattle.std.proofs.Common.{length, get_or, slice_get, refl, sym, ap, ◌∙◌, subst, append_assoc, arith}
use Rattle.std.proofs.lemmas.List.{append-nil, length_push}
use Rattle.base_types.specs.declared.ids.Node.{Node}
use Rattle.hub_board.specs.Hubs.{nodes_of}
use Rattle.hub_node.specs.Either.{stands_any}
use Rattle.hub_node.specs.Nodes.{Beginning, part_of}
use Rattle.hub_node.specs.declared.either.AnyNode.TheVariants.{Host, Server}
use Rattle.host_node.specs.Standing.{Stands as HostStands}
use Rattle.host_node.specs.declared.host.HostNode.{HostNode}
use Rattle.server_node.specs.Standing.{Stands as ServerStands}
use Rattle.server_node.specs.declared.server.ServerNode.{ServerNode}
use Rattle.store_memory.specs.Views.{View}
use Rattle.service_hosts.specs.Nodes.{AreFirst, AreOver, NodeOf, store_under, stores_in}
use Rattle.service_hosts.proofs.Places.{back_at, front_at, long, push_at}

pub map_push : {A B : Type 0} (f : A → B) (xs : List A) (y : A) → map f (xs ++ y ∷ []) ≡ map f xs ++ f y ∷ []
map_push f [] y = refl
map_push f (x ∷ xs) y = ap (λ l. f x ∷ l) (map_push f xs y)

none_of : {A B : Type 0} (f : A → B) (xs : List A) → map f xs ≡ [] → xs ≡ []
none_of f [] e = refl
none_of f (x ∷ xs) e = absurd (cc)

pub map_long : {A B : Type 0} (f : A → B) (xs : List A) → length (map f xs) ≡ length xs
map_long f [] = refl
map_long f (x ∷ xs) = (let e = map_long f xs in omega (arith, e))

module _ {S : Type 0} where
  -- servers as nodes
  abbrev servers_in : List (ServerNode S) → List (NodeOf S)
  servers_in servers = map Server servers

  -- one more host
  pub push_host : (nodes : List (NodeOf S)) (count : ℕ) (n : HostNode) → AreOver nodes count []
      → AreOver (nodes ++ Host n ∷ []) (count + 1) []
  push_host nodes count n a =
      (let none = none_of (λ (s : ServerNode S). s.keeper.store) a.servers a.over in
      let none_is : servers_in a.servers ≡ [] = ap servers_in none in
      let front : nodes ≡ map Host a.hosts =
      a.are ∙ ap (λ (l : List (NodeOf S)). map Host a.hosts ++ l) none_is ∙ append-nil (map Host a.hosts) in
      record {
        hosts = a.hosts ++ n ∷ [];
        servers = [];
        are = ap (λ (l : List (NodeOf S)). l ++ Host n ∷ []) front ∙ sym (map_push Host a.hosts n)
            ∙ sym (append-nil (map Host (a.hosts ++ n ∷ [])));
        counted = length_push a.hosts n ∙ (let c = a.counted in omega (arith, c));
        over = refl;
      })

  -- one more server
  pub push_server : (nodes : List (NodeOf S)) (count : ℕ) (stores : List S) (n : ServerNode S)
      → AreOver nodes count stores → AreOver (nodes ++ Server n ∷ []) count (stores ++ n.keeper.store ∷ [])
  push_server nodes count stores n a = record {
    hosts = a.hosts;
    servers = a.servers ++ n ∷ [];
    are = ap (λ (l : List (NodeOf S)). l ++ Server n ∷ []) a.are
        ∙ append_assoc (map Host a.hosts) (map Server a.servers) (Server n ∷ [])
        ∙ ap (λ (l : List (NodeOf S)). map Host a.hosts ++ l) (sym (map_push Server a.servers n));
    counted = a.counted;
    over = map_push (λ (s : ServerNode S). s.keeper.store) a.servers n
        ∙ ap (λ (l : List S). l ++ n.keeper.store ∷ []) a.over;
  }

  -- none yet
  pub none_over : (let none : List (NodeOf S) = [] in let no : List S = [] in AreOver none 0 no)
  none_over = record { hosts = []; servers = []; are = refl; counted = refl; over = refl }

  behind_hosts : (hosts : List HostNode) (nodes : List (NodeOf S)) → stores_in
      (map Host hosts ++ nodes) ≡ stores_in nodes
  behind_hosts [] nodes = refl
  behind_hosts (h ∷ hosts) nodes = behind_hosts hosts nodes

  of_servers : (servers : List (ServerNode S))
      → stores_in (map Server servers) ≡ map (λ (s : ServerNode S). s.keeper.store) servers
  of_servers [] = refl
  of_servers (s ∷ servers) = ap (λ (l : List S). s.keeper.store ∷ l) (of_servers servers)

  -- the stores of nodes are those of their servers
  pub stores_are : (nodes : List (NodeOf S)) (count : ℕ) (stores : List S) → AreOver nodes count stores
      → stores_in nodes ≡ stores
  stores_are nodes count stores a =
      ap (λ (l : List (NodeOf S)). stores_in l) a.are ∙ behind_hosts a.hosts (map Server a.servers)
      ∙ of_servers a.servers ∙ a.over

  -- so many nodes as hosts and stores
  pub over_long : (nodes : List (NodeOf S)) (count : ℕ) (stores : List S) → AreOver nodes count stores
      → length nodes ≡ count + length stores
  over_long nodes count stores a =
      (let hosts : List (NodeOf S) = map Host a.hosts in
      let servers : List (NodeOf S) = map Server a.servers in
      let all = ap (λ (l : List (NodeOf S)). length l) a.are in
      let both = long hosts servers in
      let front : length hosts ≡ count = map_long Host a.hosts ∙ a.counted in
      let behind : length servers ≡ length stores =
      map_long Server a.servers ∙ sym (map_long (λ (s : ServerNode S). s.keeper.store) a.servers)
      ∙ ap (λ (l : List S). length l) a.over in
      omega (arith, all, both, front, behind))

  -- behind more nodes come their stores
  pub stores_push : (nodes : List (NodeOf S)) (n : NodeOf S) → stores_in
      (nodes ++ n ∷ []) ≡ stores_in nodes ++ store_under n
  stores_push [] n = append-nil (store_under n)
  stores_push (m ∷ nodes) n =
      ap (λ (l : List S). store_under m ++ l) (stores_push nodes n)
      ∙ sym (append_assoc (store_under m) (stores_in nodes) (store_under n))

  -- one more node is as it is before its first turn
  pub first_push : (tells : Type 0) (view : S → View) (run : Beginning) (nodes : List (NodeOf S)) (n : NodeOf S)
      → AreFirst tells view run nodes
      → ((node : Node) → stands_any HostStands (ServerStands tells view)
      (part_of run (get_or (nodes_of run.script) (length nodes) node)) n [] [])
      → AreFirst tells view run (nodes ++ n ∷ [])
  first_push tells view run nodes n a stood i d node lt = ⊎_elim
      (λ (e : i ≡ length nodes).
      subst (λ (m : NodeOf S).
      stands_any HostStands (ServerStands tells view) (part_of run (get_or (nodes_of run.script) i node)) m [] [])
      (sym (push_at nodes n i d e))
      (subst (λ j. stands_any HostStands (ServerStands tells view)
      (part_of run (get_or (nodes_of run.script) j node)) n [] []) (sym e) (stood node)))
      (λ (less : suc i ≤ length nodes).
      subst (λ (m : NodeOf S).
      stands_any HostStands (ServerStands tells view) (part_of run (get_or (nodes_of run.script) i node)) m [] [])
      (sym (front_at nodes (n ∷ []) i d (omega (arith, less)))) (a i d node (omega (arith, less))))
      (last_or_before i (length nodes) (let l = length_push nodes n in omega (arith, l, lt)))
    where
      last_or_before : (a b : ℕ) → a ≤ b → (a ≡ b) ⊎ (suc a ≤ b)
      last_or_before zero zero le = inl refl
      last_or_before zero (suc b) le = inr (omega arith)
      last_or_before (suc a) zero le = absurd (omega arith)
      last_or_before (suc a) (suc b) le = ⊎_elim
          (λ (e : a ≡ b). inl (ap suc e)) (λ (lt : suc a ≤ b). inr (omega arith)) (last_or_before a b (omega arith))

  pub none_first : (tells : Type 0) (view : S → View) (run : Beginning) → AreFirst tells view run []
  none_first tells view run i d node lt = absurd (omega (arith, lt))

  at_back : (xs : List (ServerNode S)) (k : ℕ) (b : ServerNode S) (d : NodeOf S) → slice_get xs k ≡ Some b
      → (k < length (servers_in xs)) × (get_or (servers_in xs) k d ≡ Server b)
  at_back [] k b d e = absurd (cc)
  at_back (x ∷ xs) zero b d e =
      (let same : x ≡ b = cc in
      (omega arith, ap (λ (n : ServerNode S). get_or (servers_in (n ∷ [])) 0 d) same))
  at_back (x ∷ xs) (suc k) b d e = (let r = at_back xs k b d e in let lt = r.0 in (omega (arith, lt), r.1))

  -- a server's node stands behind the hosts
  pub server_at_place : (nodes : List (NodeOf S)) (count : ℕ) (stores : List S) (over : AreOver nodes count stores)
      (k : ℕ)
      (b : ServerNode S) → slice_get over.servers k ≡ Some b
      → (count + k < length nodes) × ((d : NodeOf S) → get_or nodes (count + k) d ≡ Server b)
  server_at_place nodes count stores over k b here =
      (let hosts : List (NodeOf S) = map Host over.hosts in
      let servers : List (NodeOf S) = map Server over.servers in
      let few : length hosts ≡ count = map_long Host over.hosts ∙ over.counted in
      let all : length nodes ≡ length hosts + length servers = ap (λ (l : List (NodeOf S)). length l) over.are
      ∙ long hosts servers in
      let lt = (at_back over.servers k b (Server b) here).0 in (
        omega (arith, few, all, lt),
        λ d. ap (λ (l : List (NodeOf S)). get_or l (count + k) d) over.are
            ∙ back_at hosts servers (count + k) k d (omega (arith, few)) ∙ (at_back over.servers k b d here).1,
      ))

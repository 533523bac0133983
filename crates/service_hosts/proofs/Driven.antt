-- Hosts and servers that were driven, and the stores that came back.
use Rattle.std.proofs.Common.{◌≡◌, ⊎_elim, ℕ, ◌+◌, ◌-◌, ◌<◌, ◌≤◌, List, [], ◌++◌, Err, Ok, Option}
use Rattle.std.proofs.Common.{Result, map, length, get_or, sym, ap, ◌∙◌, subst, arith}
use Rattle.std.specs.Prelude.{IfErr, IfOk, OnErr}
use Rattle.std.proofs.lemmas.List.{append-nil}
use Rattle.tree_answers.specs.declared.tree.Tree.{Tree}
use Rattle.tree_calls.specs.declared.roster.Roster.{Roster}
use Rattle.script_lines.specs.declared.script.Script.{Script}
use Rattle.store_memory.specs.Views.{View}
use Rattle.hub_board.specs.Hubs.{nodes_of}
use Rattle.hub_drive.specs.Driving.{AreNodes, IsFault, beginning}
use Rattle.hub_drive.specs.Seats.{PairsAt}
use Rattle.hub_drive.specs.declared.driver.DriveFault.{DriveFault}
use Rattle.hub_drive.specs.declared.driver.DriveFault.TheVariants as drive
use Rattle.hub_laws.specs.Keeping.{Round}
use Rattle.hub_node.specs.Either.{broken_any, of_either, stands_any}
use Rattle.hub_node.specs.Nodes.{Beginning, HasBecome, Part}
use Rattle.hub_node.specs.declared.either.AnyNode.TheVariants.{Host, Server}
use Rattle.hub_node.specs.declared.node.NodeFault.{NodeFault}
use Rattle.hub_node.specs.declared.node.NodeFault.TheVariants.{Memory, Store as StoreFailed}
use Rattle.host_node.specs.Laws.{Breaks}
use Rattle.host_node.specs.Standing.{Stands as HostStands}
use Rattle.host_node.specs.declared.host.HostNode.{HostNode}
use Rattle.server_node.specs.Standing.{HasBroken, HasFailedBy, HasServed, Stands as ServerStands}
use Rattle.service_moves.specs.Stopping.{HasFailed}
use Rattle.service_moves.specs.Stores.{AreSame, AreStores}
use Rattle.service_hosts.specs.Hosting.{IsStopped, stopped_by}
use Rattle.service_hosts.specs.Nodes.{AreFirst, AreOver, NodeOf, next_line, stores_in}
use Rattle.service_hosts.proofs.Laid.{map_long, over_long, stores_are}
use Rattle.service_hosts.proofs.Paired.{AreBehind, behind, failing, has_failed, over_behind, pairs_long, same_stores}
use Rattle.service_hosts.proofs.Paired.{store_of}
use Rattle.service_hosts.proofs.Places.{nodes_long}

-- what is known of an Ok, or of an Err
pub ok_at : {A E : Type 0} (r : Result A E) (x : A) (P : A → Type 0) → r ≡ Ok x → IfOk r P → P x
ok_at {A = A} {E = E} r x P e h = subst (λ (q : Result A E). IfOk q P) e h

pub err_at : {A E : Type 0} (r : Result A E) (x : E) (P : E → Type 0) → r ≡ Err x → IfErr r P → P x
err_at {A = A} {E = E} r x P e h = subst (λ (q : Result A E). IfErr q P) e h

pub on_err_at : {A E : Type 0} (r : Result A E) (x : E) (P : Type 0) → r ≡ Err x → OnErr r P → P
on_err_at {A = A} {E = E} r x P e h = subst (λ (q : Result A E). OnErr q P) e h

-- the stores of nodes are theirs alone
pub one_over : {S : Type 0} (nodes : List (NodeOf S)) (count : ℕ) (a b : List S) → AreOver nodes count a
    → AreOver nodes count b → a ≡ b
one_over nodes count a b h k = sym (stores_are nodes count a h) ∙ stores_are nodes count b k

module _ {S : Type 0} (tells : Type 0) (view : S → View) where
  -- what stays of a node, and where something failed, what has become of it
  abbrev pub StaysSo : NodeOf S → NodeOf S → Type 0
  StaysSo = of_either (λ (a b : HostNode). Unit {0}) (HasServed tells view)

  abbrev pub FailedSo : NodeFault → NodeOf S → NodeOf S → Type 0
  FailedSo fault = of_either (λ (a b : HostNode). fault ≡ Memory) (HasFailedBy tells view fault)

  -- and in which rounds
  abbrev pub BrokenSo : Part → NodeOf S → List Round → Type 0
  BrokenSo = broken_any Breaks (HasBroken tells view)

  -- either way it is a host still, or a server that has served
  serves : (a b : NodeOf S) → HasBecome StaysSo FailedSo a b → StaysSo a b
  serves (Host a) (Host b) h = tt
  serves (Host a) (Server b) h = ⊎_elim (λ (x : ⊥). x) (λ (x : NodeFault × ⊥). x.1) h
  serves (Server a) (Host b) h = ⊎_elim (λ (x : ⊥). x) (λ (x : NodeFault × ⊥). x.1) h
  serves (Server a) (Server b) h = ⊎_elim
      (λ (x : HasServed tells view a b). x) (λ (x : (fault : NodeFault)
      × HasFailedBy tells view fault a b). x.1.served) h

  all_serve : (olds news : List (NodeOf S)) → PairsAt (HasBecome StaysSo FailedSo) olds news
      → PairsAt StaysSo olds news
  all_serve olds news p = record {
    count = p.count;
    each = λ i d lt. serves (get_or olds i d) (get_or news i d) (p.each i d lt);
  }

  module _ (olds news : List (NodeOf S)) (count : ℕ) (stores : List S) (over : AreOver olds count stores)
      (became : PairsAt (HasBecome StaysSo FailedSo) olds news) where
    pub back : AreBehind (HasServed tells view) over.hosts over.servers news
    back = behind (λ (a b : HostNode). Unit {0}) (HasServed tells view) olds news count stores over
        (all_serve olds news became)

    abbrev pub stores_back : List S
    stores_back = map store_of back.servers_new

    pub over_back : AreOver news count stores_back
    over_back = over_behind (HasServed tells view) olds news count stores over back

    -- the stores that are taken out of the nodes are those, as many as before
    pub are_back : stores_in news ≡ stores_back
    are_back = stores_are news count stores_back over_back

    pub as_many : length stores_back ≡ length stores
    as_many = map_long store_of back.servers_new
        ∙ pairs_long (HasServed tells view) over.servers back.servers_new back.paired
        ∙ sym (map_long store_of over.servers) ∙ ap (λ (l : List S). length l) over.over

    pub taken_back : (taken room : List S) → taken ≡ stores_in news ++ room → room ≡ [] → taken ≡ stores_back
    taken_back taken room are none =
        are ∙ ap (λ (l : List S). l ++ room) are_back ∙ ap (λ (l : List S). stores_back ++ l) none
        ∙ append-nil stores_back

    pub are_same : (roster : Roster) (worn : ℕ) → AreStores view roster worn 1 stores → AreSame view stores stores_back
    are_same roster worn are = same_stores tells view roster worn olds news count stores over back are

    -- where the store of a node failed, it is the one of a server, whose disk has failed twice
    pub record HasFailedAt (k : ℕ) : Type 0 where
      pub behind_hosts : count ≤ k
      pub few : k - count < length stores
      pub failed : HasFailed view stores stores_back ((k - count) + 1)

    pub failed_at : (k : ℕ) → k < length olds
        → ((d : NodeOf S) → FailedSo StoreFailed (get_or olds k d) (get_or news k d)) → HasFailedAt k
    failed_at k lt h =
        (let f = failing (λ (a b : HostNode). StoreFailed ≡ Memory) (HasFailedBy tells view StoreFailed)
        (HasServed tells view) (λ a b e. absurd (cc)) olds news count stores over back k lt h in
        let r = has_failed tells view count k over.servers back.servers_new f in
        let few = r.1 in
        let many = sym (map_long store_of over.servers) ∙ ap (λ (l : List S). length l) over.over in
        record {
          behind_hosts = r.0;
          few = omega (arith, few, many);
          failed = subst (λ (l : List S). HasFailed view l stores_back ((k - count) + 1)) over.over r.2;
        })

    pub stops_by : (run : Beginning) (next : NodeOf S → Option ℕ) (fault : DriveFault)
        → IsFault (Unit {0} × tells) (stands_any HostStands (ServerStands tells view)) run FailedSo next olds news fault
        → (k : ℕ) → fault ≡ drive.Store k → (count ≤ k) × (k - count < length stores)
    stops_by run next fault f k e =
        (let g = subst (IsFault (Unit {0} × tells) (stands_any HostStands (ServerStands tells view)) run FailedSo
        next olds
        news) e f in
        let at = failed_at k g.0 g.1 in (at.behind_hosts, at.few))

    pub stopped_so : (script : Script) (start : Tree) (epochs : List ℕ) (fault : DriveFault)
        → length olds ≡ length (nodes_of script) → count ≡ length script.roster.hosts + 1
        → IsFault (Unit {0} × tells) (stands_any HostStands (ServerStands tells view)) (beginning script start epochs)
        FailedSo next_line olds news fault
        → IsStopped tells view script start stores stores_back (stopped_by count fault)
    stopped_so script start epochs (drive.Store k) many hosts f = (failed_at k f.0 f.1).failed
    stopped_so script start epochs (drive.Stuck w) many hosts f = record {
      node = (let lt = f.0.0 in let c = became.count in omega (arith, lt, c, many));
      epochs = epochs;
      nodes = news;
      over = subst (λ n. AreOver news n stores_back) hosts over_back;
      rested = f.1;
      undone = f.2;
      line = f.0.1;
    }
    stopped_so script start epochs drive.Memory many hosts f = tt

  -- the nodes that were made are those of the run
  pub are_nodes : (script : Script) (start : Tree) (epochs : List ℕ) (nodes : List (NodeOf S)) (stores : List S)
      → AreOver nodes (length script.roster.hosts + 1) stores → script.servers ≡ length script.roster.capacity
      → length stores ≡ length script.roster.capacity
      → AreFirst tells view (beginning script start epochs) nodes
      → AreNodes (stands_any HostStands (ServerStands tells view)) (beginning script start epochs) nodes
  are_nodes script start epochs nodes stores over servers many first = record {
    count = many_nodes script nodes stores over servers many;
    fresh = first;
  }
    where
      many_nodes : (script : Script) (nodes : List (NodeOf S)) (stores : List S)
          → AreOver nodes (length script.roster.hosts + 1) stores → script.servers ≡ length script.roster.capacity
          → length stores ≡ length script.roster.capacity → length nodes ≡ length (nodes_of script)
      many_nodes script nodes stores over servers many =
          (let long = over_long nodes (length script.roster.hosts + 1) stores over in
          let all = nodes_long script in
          omega (arith, long, all, servers, many))

-- Nodes before and after they were driven.
use Rattle.std.proofs.Common.{◌≡◌, ℕ, zero, suc, ◌+◌, ◌-◌, ◌<◌, ◌≤◌, List, [], ◌∷◌, ◌++◌, Some}
use Rattle.std.proofs.Common.{map, length, get_or, slice_get, refl, sym, ap, ◌∙◌, subst, arith}
use Rattle.hub_drive.specs.Seats.{PairsAt}
use Rattle.hub_node.specs.Either.{of_either}
use Rattle.hub_node.specs.declared.either.AnyNode.TheVariants.{Host, Server}
use Rattle.host_node.specs.declared.host.HostNode.{HostNode}
use Rattle.hub_node.specs.declared.node.NodeFault.TheVariants.{Store as StoreFailed}
use Rattle.server_node.specs.Standing.{HasFailedBy, HasServed}
use Rattle.server_node.specs.declared.server.ServerNode.{ServerNode}
use Rattle.store_memory.specs.Views.{View}
use Rattle.tree_calls.specs.declared.roster.Roster.{Roster}
use Rattle.service_moves.specs.Stopping.{HasFailed}
use Rattle.service_moves.specs.Stores.{AreSame, AreStores}
use Rattle.service_hosts.specs.Nodes.{AreOver, NodeOf}

map_get : {A B : Type 0} (f : A → B) (xs : List A) (k : ℕ) (x : A) → slice_get xs k ≡ Some x
    → slice_get (map f xs) k ≡ Some (f x)
map_get f [] k x e = absurd (cc)
map_get f (y ∷ xs) zero x e = (let same : y ≡ x = cc in ap (λ z. Some (f z)) same)
map_get f (y ∷ xs) (suc k) x e = map_get f xs k x e

-- two lists, one by one
abbrev pub Pairs : {A : Type 0} → (A → A → Type 0) → List A → List A → Type 0
Pairs R [] [] = Unit {0}
Pairs R (x ∷ xs) (y ∷ ys) = R x y × Pairs R xs ys
Pairs R _ _ = ⊥

pairs_in : {A : Type 0} (R : A → A → Type 0) (xs ys : List A) → PairsAt R xs ys → Pairs R xs ys
pairs_in R [] [] h = tt
pairs_in R [] (y ∷ ys) h = (let c = h.count in absurd (omega (arith, c)))
pairs_in R (x ∷ xs) [] h = (let c = h.count in absurd (omega (arith, c)))
pairs_in R (x ∷ xs) (y ∷ ys) h = (
  h.each 0 x (omega arith),
  pairs_in R xs ys (record {
    count = (let c = h.count in omega (arith, c));
    each = λ i d lt. h.each (suc i) d (omega (arith, lt));
  }),
)

pub pairs_long : {A : Type 0} (R : A → A → Type 0) (xs ys : List A) → Pairs R xs ys → length ys ≡ length xs
pairs_long R [] [] h = refl
pairs_long R [] (y ∷ ys) h = absurd h
pairs_long R (x ∷ xs) [] h = absurd h
pairs_long R (x ∷ xs) (y ∷ ys) h = (let e = pairs_long R xs ys h.1 in omega (arith, e))

module _ {S : Type 0} where
  -- the nodes that came back: as many hosts, and then the servers, each of the one that it was
  pub record AreBehind (R : ServerNode S → ServerNode S → Type 0) (hosts : List HostNode) (servers : List
      (ServerNode S))
      (news : List (NodeOf S)) : Type 0 where
    pub hosts_new : List HostNode
    pub servers_new : List (ServerNode S)
    pub are : news ≡ map Host hosts_new ++ map Server servers_new
    pub counted : length hosts_new ≡ length hosts
    pub paired : Pairs R servers servers_new

  servers_behind : (hr : HostNode → HostNode → Type 0) (sr : ServerNode S → ServerNode S → Type 0)
      (servers : List (ServerNode S)) (news : List (NodeOf S)) → Pairs (of_either hr sr) (map Server servers) news
      → AreBehind sr [] servers news
  servers_behind hr sr [] [] h = record { hosts_new = []; servers_new = []; are = refl; counted = refl; paired = tt }
  servers_behind hr sr [] (n ∷ news) h = absurd h
  servers_behind hr sr (s ∷ servers) [] h = absurd h
  servers_behind hr sr (s ∷ servers) (Host n ∷ news) h = absurd h.0
  servers_behind hr sr (s ∷ servers) (Server n ∷ news) h =
      (let rest = servers_behind hr sr servers news h.1 in
      let none = no_hosts rest.hosts_new rest.counted in
      record {
        hosts_new = [];
        servers_new = n ∷ rest.servers_new;
        are = ap (λ (l : List (NodeOf S)). Server n ∷ l)
            (rest.are ∙ ap (λ (l : List HostNode). map Host l ++ map Server rest.servers_new) none);
        counted = refl;
        paired = (h.0, rest.paired);
      })
    where
      no_hosts : (l : List HostNode) → length l ≡ 0 → l ≡ []
      no_hosts [] e = refl
      no_hosts (x ∷ l) e = absurd (omega (arith, e))

  nodes_behind : (hr : HostNode → HostNode → Type 0) (sr : ServerNode S → ServerNode S → Type 0) (hosts : List HostNode)
      (servers : List (ServerNode S)) (news : List (NodeOf S))
      → Pairs (of_either hr sr) (map Host hosts ++ map Server servers) news → AreBehind sr hosts servers news
  nodes_behind hr sr [] servers news h = servers_behind hr sr servers news h
  nodes_behind hr sr (x ∷ hosts) servers [] h = absurd h
  nodes_behind hr sr (x ∷ hosts) servers (Server n ∷ news) h = absurd h.0
  nodes_behind hr sr (x ∷ hosts) servers (Host n ∷ news) h =
      (let rest = nodes_behind hr sr hosts servers news h.1 in
      record {
        hosts_new = n ∷ rest.hosts_new;
        servers_new = rest.servers_new;
        are = ap (λ (l : List (NodeOf S)). Host n ∷ l) rest.are;
        counted = (let c = rest.counted in omega (arith, c));
        paired = rest.paired;
      })

  pub behind : (hr : HostNode → HostNode → Type 0) (sr : ServerNode S → ServerNode S → Type 0)
      (olds news : List (NodeOf S)) (count : ℕ) (stores : List S) (a : AreOver olds count stores)
      → PairsAt (of_either hr sr) olds news → AreBehind sr a.hosts a.servers news
  behind hr sr olds news count stores a h =
      nodes_behind hr sr a.hosts a.servers news
      (subst (λ (l : List (NodeOf S)). Pairs (of_either hr sr) l news) a.are (pairs_in (of_either hr sr) olds news h))

  abbrev pub store_of : ServerNode S → S
  store_of n = n.keeper.store

  pub over_behind : (R : ServerNode S → ServerNode S → Type 0) (olds news : List (NodeOf S)) (count : ℕ)
      (stores : List S) (a : AreOver olds count stores) (b : AreBehind R a.hosts a.servers news)
      → AreOver news count (map store_of b.servers_new)
  over_behind R olds news count stores a b = record {
    hosts = b.hosts_new;
    servers = b.servers_new;
    are = b.are;
    counted = b.counted ∙ a.counted;
    over = refl;
  }

  -- each store is that of the same server as before, may be opened anew, and its disk's count of faults didn't fall
  same_each : (tells : Type 0) (view : S → View) (roster : Roster) (worn number : ℕ) (olds news : List (ServerNode S))
      → Pairs (HasServed tells view) olds news → AreStores view roster worn number (map store_of olds)
      → AreSame view (map store_of olds) (map store_of news)
  same_each tells view roster worn number [] [] h stores = tt
  same_each tells view roster worn number [] (n ∷ news) h stores = absurd h
  same_each tells view roster worn number (o ∷ olds) [] h stores = absurd h
  same_each tells view roster worn number (o ∷ olds) (n ∷ news) h stores = (
    h.0.same,
    h.0.mendable stores.0.mendable,
    h.0.counted,
    same_each tells view roster worn (number + 1) olds news h.1 stores.1,
  )

  pub same_stores : (tells : Type 0) (view : S → View) (roster : Roster) (worn : ℕ) (olds news : List (NodeOf S))
      (count : ℕ) (stores : List S) (a : AreOver olds count stores)
      (b : AreBehind (HasServed tells view) a.hosts a.servers news) → AreStores view roster worn 1 stores
      → AreSame view stores (map store_of b.servers_new)
  same_stores tells view roster worn olds news count stores a b are =
      subst (λ (l : List S). AreSame view l (map store_of b.servers_new)) a.over
      (same_each tells view roster worn 1 a.servers b.servers_new b.paired
      (subst (AreStores view roster worn 1) (sym a.over) are))

  -- stores are the same as themselves
  pub same_as : (view : S → View) (roster : Roster) (worn number : ℕ) (stores : List S)
      → AreStores view roster worn number stores → AreSame view stores stores
  same_as view roster worn number [] are = tt
  same_as view roster worn number (s ∷ stores) are = (
    record { server = refl; roster = refl },
    are.0.mendable,
    omega arith,
    same_as view roster worn (number + 1) stores are.1,
  )

  -- the place of a server whose store failed
  pub record IsFailing (R : ServerNode S → ServerNode S → Type 0) (hosts k : ℕ) (olds news : List
      (ServerNode S)) : Type 0
    where
      pub at : ℕ
      pub place : k ≡ hosts + at
      pub before : ServerNode S
      pub after : ServerNode S
      pub was : slice_get olds at ≡ Some before
      pub is : slice_get news at ≡ Some after
      pub failed : R before after

  among_servers : (hf : HostNode → HostNode → Type 0) (sf : ServerNode S → ServerNode S → Type 0)
      (olds news : List (ServerNode S)) (k : ℕ) → length news ≡ length olds → k < length olds
      → ((d : NodeOf S) → of_either hf sf (get_or (map Server olds) k d) (get_or (map Server news) k d))
      → IsFailing sf 0 k olds news
  among_servers hf sf [] news k same lt h = absurd (omega (arith, lt))
  among_servers hf sf (o ∷ olds) [] k same lt h = absurd (omega (arith, same))
  among_servers hf sf (o ∷ olds) (n ∷ news) zero same lt h =
      record { at = 0; place = refl; before = o; after = n; was = refl; is = refl; failed = h (Server o) }
  among_servers hf sf (o ∷ olds) (n ∷ news) (suc k) same lt h =
      (let rest = among_servers hf sf olds news k (omega (arith, same)) (omega (arith, lt)) h in
      let place = rest.place in
      record {
        at = suc rest.at;
        place = omega (arith, place);
        before = rest.before;
        after = rest.after;
        was = rest.was;
        is = rest.is;
        failed = rest.failed;
      })

  among_all : (hf : HostNode → HostNode → Type 0) (sf : ServerNode S → ServerNode S → Type 0)
      → ((a b : HostNode) → hf a b → ⊥) → (hosts hosts_new : List HostNode) (olds news : List (ServerNode S)) (k : ℕ)
      → length hosts_new ≡ length hosts → length news ≡ length olds → k < length (map Host hosts ++ map Server olds)
      → ((d : NodeOf S) → of_either hf sf (get_or (map Host hosts ++ map Server olds) k d)
      (get_or (map Host hosts_new ++ map Server news) k d)) → IsFailing sf (length hosts) k olds news
  among_all hf sf never [] [] olds news k c same lt h =
      among_servers hf sf olds news k same (let m = map_long olds in omega (arith, lt, m)) h
    where
      map_long : (xs : List (ServerNode S)) → (let l : List (NodeOf S) = map Server xs in length l ≡ length xs)
      map_long [] = refl
      map_long (x ∷ xs) = (let e = map_long xs in omega (arith, e))
  among_all hf sf never [] (n ∷ more) olds news k c same lt h = absurd (omega (arith, c))
  among_all hf sf never (x ∷ hosts) [] olds news k c same lt h = absurd (omega (arith, c))
  among_all hf sf never (x ∷ hosts) (n ∷ more) olds news zero c same lt h = absurd (never x n (h (Host x)))
  among_all hf sf never (x ∷ hosts) (n ∷ more) olds news (suc k) c same lt h =
      (let rest = among_all hf sf never hosts more olds news k (omega (arith, c)) same (omega (arith, lt)) h in
      let place = rest.place in
      record {
        at = rest.at;
        place = omega (arith, place);
        before = rest.before;
        after = rest.after;
        was = rest.was;
        is = rest.is;
        failed = rest.failed;
      })

  -- the store of a node at a place failed: it is a server's, where none of a host does
  pub failing : (hf : HostNode → HostNode → Type 0) (sf R : ServerNode S → ServerNode S → Type 0)
      → ((a b : HostNode) → hf a b → ⊥) → (olds news : List (NodeOf S)) (count : ℕ) (stores : List S)
      (a : AreOver olds count stores) (b : AreBehind R a.hosts a.servers news) (k : ℕ) → k < length olds
      → ((d : NodeOf S) → of_either hf sf (get_or olds k d) (get_or news k d))
      → IsFailing sf count k a.servers b.servers_new
  failing hf sf R never olds news count stores a b k lt h =
      subst (λ n. IsFailing sf n k a.servers b.servers_new) a.counted
      (among_all hf sf never a.hosts b.hosts_new a.servers b.servers_new k b.counted
      (pairs_long R a.servers b.servers_new b.paired)
      (subst (λ (l : List (NodeOf S)). k < length l) a.are lt)
      (λ d. subst (λ (l : List (NodeOf S)). of_either hf sf (get_or (map Host a.hosts ++ map Server a.servers) k d)
      (get_or l k d)) b.are
      (subst (λ (l : List (NodeOf S)). of_either hf sf (get_or l k d) (get_or news k d)) a.are (h d))))

  -- so the disk of that store failed twice
  pub has_failed : (tells : Type 0) (view : S → View) (hosts k : ℕ) (olds news : List (ServerNode S))
      → IsFailing (HasFailedBy tells view StoreFailed) hosts k olds news
      → (hosts ≤ k) × (k - hosts < length olds)
      × HasFailed view (map store_of olds) (map store_of news) ((k - hosts) + 1)
  has_failed tells view hosts k olds news f =
      (let place = f.place in
      let twice = f.failed.store refl in
      let within = got_below olds f.at f.before f.was in (
        omega (arith, place),
        omega (arith, place, within),
        record {
          k = f.at;
          numbered = omega (arith, place);
          before = store_of f.before;
          after = store_of f.after;
          was = map_get store_of olds f.at f.before f.was;
          is = map_get store_of news f.at f.after f.is;
          twice = twice.rose;
          last = twice.last;
        },
      ))
    where
      got_below : (xs : List (ServerNode S)) (k : ℕ) (x : ServerNode S) → slice_get xs k ≡ Some x → k < length xs
      got_below [] k x e = absurd (cc)
      got_below (y ∷ xs) zero x e = omega arith
      got_below (y ∷ xs) (suc k) x e = (let lt = got_below xs k x e in omega (arith, lt))

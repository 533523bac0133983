-- Who takes part in a script.
use Rattle.std.proofs.Common.{◌≡◌, ◌⊎◌, ⊎_elim, inl, inr, ℕ, zero, suc, ◌+◌, ◌≤◌, List, [], ◌∷◌, ◌++◌, map, length}
use Rattle.std.proofs.Common.{refl, sym, ap, subst, arith}
use Rattle.std.specs.List.{enumerate_from}
use Rattle.base_types.specs.declared.ids.HostId.{HostId}
use Rattle.base_types.specs.declared.ids.Node.{Node}
use Rattle.base_types.specs.declared.ids.Node.TheVariants.{Host, Server}
use Rattle.base_types.specs.declared.ids.ServerId.{ServerId}
use Rattle.script_lines.specs.declared.script.Script.{Script}
use Rattle.hub_board.specs.Hubs.{hosts_up_to, nodes_of, servers_up_to}
use Rattle.run_rules.specs.Past.{In}
use Rattle.run_rules.specs.Runs.{TakesPart}
use Rattle.run_rules.specs.Steps.{servers_of}

pub in_append : {A : Type 0} (x : A) (xs ys : List A) → In x (xs ++ ys) → In x xs ⊎ In x ys
in_append x [] ys h = inr h
in_append {A} x (y ∷ xs) ys h = ⊎_elim
    (λ (e : x ≡ y). inl (inl e))
    (λ (i : In x (xs ++ ys)). ⊎_elim (λ (a : In x xs). inl (inr a)) (λ (b : In x ys). inr b) (in_append x xs ys i))
    h

pub in_front : {A : Type 0} (x : A) (xs ys : List A) → In x xs → In x (xs ++ ys)
in_front x [] ys h = absurd h
in_front x (y ∷ xs) ys h = ⊎_elim (λ (e : x ≡ y). inl e) (λ (i : In x xs). inr (in_front x xs ys i)) h

pub in_back : {A : Type 0} (x : A) (xs ys : List A) → In x ys → In x (xs ++ ys)
in_back x [] ys h = h
in_back x (y ∷ xs) ys h = inr (in_back x xs ys h)

pub in_map : {A B : Type 0} (f : A → B) (b : B) (xs : List A) → In b (map f xs) → (x : A) × In x xs × (b ≡ f x)
in_map f b [] i = absurd i
in_map f b (x ∷ xs) i = ⊎_elim
    (λ (e : b ≡ f x). (x, inl refl, e))
    (λ (k : In b (map f xs)). let j = in_map f b xs k in (j.0, inr j.1, j.2))
    i

pub map_in : {A B : Type 0} (f : A → B) (x : A) (xs : List A) → In x xs → In (f x) (map f xs)
map_in f x [] i = absurd i
map_in f x (y ∷ xs) i = ⊎_elim (λ (e : x ≡ y). inl (ap f e)) (λ (k : In x xs). inr (map_in f x xs k)) i

abbrev host_at : ℕ → Node
host_at n = Host (record { 0 = n })

abbrev server_at : ℕ → Node
server_at n = Server (record { 0 = n })

at_or_below : (a b : ℕ) → a ≤ b → (a ≡ b) ⊎ (suc a ≤ b)
at_or_below zero zero le = inl refl
at_or_below zero (suc b) le = inr (omega arith)
at_or_below (suc a) zero le = absurd (omega arith)
at_or_below (suc a) (suc b) le = ⊎_elim
    (λ (e : a ≡ b). inl (ap suc e)) (λ (lt : suc a ≤ b). inr (omega arith)) (at_or_below a b (omega arith))

in_hosts : (h n : ℕ) → h ≤ n → In (host_at h) (hosts_up_to n)
in_hosts h zero le = let same : h ≡ 0 = omega arith in inl (ap host_at same)
in_hosts h (suc n) le = ⊎_elim
    (λ (e : h ≡ suc n). in_back (host_at h) (hosts_up_to n) (host_at (suc n) ∷ []) (inl (ap host_at e)))
    (λ (lt : suc h ≤ suc n). in_front (host_at h) (hosts_up_to n) (host_at (suc n) ∷ []) (in_hosts h n (omega arith)))
    (at_or_below h (suc n) le)

in_servers : (v n : ℕ) → 1 ≤ v → v ≤ n → In (server_at v) (servers_up_to n)
in_servers v zero some le = absurd (omega arith)
in_servers v (suc n) some le = ⊎_elim
    (λ (e : v ≡ suc n). in_back (server_at v) (servers_up_to n) (server_at (suc n) ∷ []) (inl (ap server_at e)))
    (λ (lt : suc v ≤ suc n).
    in_front (server_at v) (servers_up_to n) (server_at (suc n) ∷ []) (in_servers v n some (omega arith)))
    (at_or_below v (suc n) le)

hosts_are : (n : ℕ) (node : Node) → In node (hosts_up_to n) → (h : ℕ) × (h ≤ n) × (node ≡ host_at h)
hosts_are zero node (inl e) = (0, omega arith, e)
hosts_are zero node (inr none) = absurd none
hosts_are (suc n) node i = ⊎_elim
    (λ (a : In node (hosts_up_to n)). let k = hosts_are n node a in (k.0, (let le = k.1 in omega arith), k.2))
    (λ (b : In node (host_at (suc n) ∷ [])). last b)
    (in_append node (hosts_up_to n) (host_at (suc n) ∷ []) i)
  where
    last : In node (host_at (suc n) ∷ []) → (h : ℕ) × (h ≤ suc n) × (node ≡ host_at h)
    last (inl e) = (suc n, omega arith, e)
    last (inr none) = absurd none

servers_are : (n : ℕ) (node : Node) → In node (servers_up_to n) → (v : ℕ) × (1 ≤ v) × (v ≤ n) × (node ≡ server_at v)
servers_are zero node i = absurd i
servers_are (suc n) node i = ⊎_elim
    (λ (a : In node (servers_up_to n)). let k = servers_are n node a in (k.0, k.1, (let le = k.2 in omega arith), k.3))
    (λ (b : In node (server_at (suc n) ∷ [])). last b)
    (in_append node (servers_up_to n) (server_at (suc n) ∷ []) i)
  where
    last : In node (server_at (suc n) ∷ []) → (v : ℕ) × (1 ≤ v) × (v ≤ suc n) × (node ≡ server_at v)
    last (inl e) = (suc n, omega arith, omega arith, e)
    last (inr none) = absurd none

-- the servers of a roster, from a number on
abbrev servers_from : ℕ → List ℕ → List ServerId
servers_from k capacity = map (λ (at, c). record { 0 = at + 1 }) (enumerate_from k capacity)

in_roster : (capacity : List ℕ) (k v : ℕ) → k + 1 ≤ v → v ≤ k + length capacity
    → (let server : ServerId = record { 0 = v } in In server (servers_from k capacity))
in_roster [] k v low high = absurd (omega arith)
in_roster (c ∷ capacity) k zero low high = absurd (omega arith)
in_roster (c ∷ capacity) k (suc v) low high = ⊎_elim
    (λ (e : k ≡ v).
    let same : suc v ≡ k + 1 = omega arith in
    let server : ℕ → ServerId = λ n. record { 0 = n } in inl (ap server same))
    (λ (lt : suc k ≤ v). inr (in_roster capacity (k + 1) (suc v) (omega arith) (omega arith)))
    (at_or_below k v (omega arith))

roster_has : (capacity : List ℕ) (k : ℕ) (server : ServerId) → In server (servers_from k capacity)
    → (k + 1 ≤ server.0) × (server.0 ≤ k + length capacity)
roster_has [] k server i = absurd i
roster_has (c ∷ capacity) k server (inl e) =
    let same = ap (λ (s : ServerId). s.0) e in (omega arith, omega arith)
roster_has (c ∷ capacity) k server (inr i) =
    let r = roster_has capacity (k + 1) server i in let low = r.0 in let high = r.1 in (omega arith, omega arith)

module _ (script : Script) (servers : script.servers ≡ length script.roster.capacity) where
  -- a node of a script takes part
  pub takes_part : (n : Node) → In n (nodes_of script) → TakesPart script n
  takes_part n i = ⊎_elim
      (λ (a : In n (hosts_up_to (length script.roster.hosts))).
      let k = hosts_are (length script.roster.hosts) n a in subst (TakesPart script) (sym k.2) k.1)
      (λ (b : In n (servers_up_to script.servers)).
      let k = servers_are script.servers n b in
      let low = k.1 in let high = k.2 in
      subst (TakesPart script) (sym k.3) (in_roster script.roster.capacity 0 k.0 (omega arith) (omega arith)))
      (in_append n (hosts_up_to (length script.roster.hosts)) (servers_up_to script.servers) i)

  -- and the other way round
  pub is_host : (host : HostId) → TakesPart script (Host host) → In (Host host) (nodes_of script)
  is_host host le =
      in_front (Host host) (hosts_up_to (length script.roster.hosts)) (servers_up_to script.servers)
      (in_hosts host.0 (length script.roster.hosts) le)

  pub is_server : (server : ServerId) → In server (servers_of script.roster) → In (Server server) (nodes_of script)
  is_server server i =
      let r = roster_has script.roster.capacity 0 server i in let low = r.0 in let high = r.1 in
      in_back (Server server) (hosts_up_to (length script.roster.hosts)) (servers_up_to script.servers)
      (in_servers server.0 script.servers (omega arith) (omega arith))

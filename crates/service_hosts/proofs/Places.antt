-- The nodes of a script, by their places.
use Rattle.std.proofs.Common.{◌≡◌, ◌⊎◌, ⊎_elim, inl, inr, ℕ, zero, suc, ◌+◌, ◌<◌, ◌≤◌, List, [], ◌∷◌, ◌++◌}
use Rattle.std.proofs.Common.{length, get_or, refl, sym, ap, ◌∙◌, arith}
use Rattle.std.specs.Prelude.{insert, remove}
use Rattle.std.proofs.lemmas.List.{length_push}
use Rattle.base_types.specs.declared.ids.Node.{Node}
use Rattle.base_types.specs.declared.ids.Node.TheVariants.{Host, Server}
use Rattle.hub_board.specs.Hubs.{hosts_up_to, nodes_of, servers_up_to}
use Rattle.script_lines.specs.declared.script.Script.{Script}

abbrev pub host_at : ℕ → Node
host_at n = Host (record { 0 = n })

abbrev pub server_at : ℕ → Node
server_at n = Server (record { 0 = n })

module _ {A : Type 0} where
  -- what stands in the front of two lists, and in the back
  pub front_at : (xs ys : List A) (i : ℕ) (d : A) → i < length xs → get_or (xs ++ ys) i d ≡ get_or xs i d
  front_at [] ys i d lt = absurd (omega (arith, lt))
  front_at (x ∷ xs) ys zero d lt = refl
  front_at (x ∷ xs) ys (suc i) d lt = front_at xs ys i d (omega (arith, lt))

  pub back_at : (xs ys : List A) (k i : ℕ) (d : A) → k ≡ length xs + i → get_or (xs ++ ys) k d ≡ get_or ys i d
  back_at [] ys k i d e = (let same : k ≡ i = omega (arith, e) in ap (λ j. get_or ys j d) same)
  back_at (x ∷ xs) ys zero i d e = absurd (omega (arith, e))
  back_at (x ∷ xs) ys (suc k) i d e = back_at xs ys k i d (omega (arith, e))

  pub push_at : (xs : List A) (x : A) (k : ℕ) (d : A) → k ≡ length xs → get_or (xs ++ x ∷ []) k d ≡ x
  push_at xs x k d e = back_at xs (x ∷ []) k 0 d (omega (arith, e))

  pub long : (xs ys : List A) → length (xs ++ ys) ≡ length xs + length ys
  long [] ys = omega arith
  long (x ∷ xs) ys = (let e = long xs ys in omega (arith, e))

  -- the first of a list, put in and taken out
  pub put_at_front : (xs : List A) (x : A) → insert xs 0 x ≡ x ∷ xs
  put_at_front [] x = refl
  put_at_front (y ∷ xs) x = refl

  pub take_front : (xs : List A) (x : A) → 0 < length xs → x ≡ get_or xs 0 x → xs ≡ x ∷ remove xs 0
  take_front [] x some is = absurd (omega (arith, some))
  take_front (y ∷ []) x some is = ap (λ z. z ∷ []) (sym is)
  take_front (y ∷ z ∷ zs) x some is = ap (λ w. w ∷ z ∷ zs) (sym is)

at_or_below : (a b : ℕ) → a ≤ b → (a ≡ b) ⊎ (suc a ≤ b)
at_or_below zero zero le = inl refl
at_or_below zero (suc b) le = inr (omega arith)
at_or_below (suc a) zero le = absurd (omega arith)
at_or_below (suc a) (suc b) le = ⊎_elim
    (λ (e : a ≡ b). inl (ap suc e)) (λ (lt : suc a ≤ b). inr (omega arith)) (at_or_below a b (omega arith))

pub hosts_long : (n : ℕ) → length (hosts_up_to n) ≡ n + 1
hosts_long zero = refl
hosts_long (suc n) = (let e = hosts_long n in let p = length_push (hosts_up_to n) (host_at (suc n)) in omega
    (arith, e, p))

pub servers_long : (n : ℕ) → length (servers_up_to n) ≡ n
servers_long zero = refl
servers_long (suc n) = (let e = servers_long n in let p = length_push (servers_up_to n) (server_at (suc n)) in omega
    (arith, e, p))

hosts_at : (n h : ℕ) (d : Node) → h ≤ n → get_or (hosts_up_to n) h d ≡ host_at h
hosts_at zero h d le =
    (let e : h ≡ 0 = omega (arith, le) in ap (λ j. get_or (hosts_up_to 0) j d) e ∙ ap host_at (sym e))
hosts_at (suc n) h d le = ⊎_elim
    (λ (e : h ≡ suc n).
    push_at (hosts_up_to n) (host_at (suc n)) h d (e ∙ (let l = hosts_long n in omega (arith, l))) ∙ ap host_at (sym e))
    (λ (lt : suc h ≤ suc n).
    front_at (hosts_up_to n) (host_at (suc n) ∷ []) h d (let l = hosts_long n in omega (arith, l, lt))
    ∙ hosts_at n h d (omega (arith, lt)))
    (at_or_below h (suc n) le)

servers_at : (n v : ℕ) (d : Node) → v < n → get_or (servers_up_to n) v d ≡ server_at (v + 1)
servers_at zero v d lt = absurd (omega (arith, lt))
servers_at (suc n) v d lt = ⊎_elim
    (λ (e : v ≡ n).
    push_at (servers_up_to n) (server_at (suc n)) v d (e ∙ sym (servers_long n))
    ∙ (let same : suc n ≡ v + 1 = omega (arith, e) in ap server_at same))
    (λ (less : suc v ≤ n).
    front_at (servers_up_to n) (server_at (suc n) ∷ []) v d (let l = servers_long n in omega (arith, l, less))
    ∙ servers_at n v d (omega (arith, less)))
    (at_or_below v n (omega (arith, lt)))

-- a script's hosts stand in front, each at its number, and the servers behind them
pub host_place : (script : Script) (h : ℕ) (d : Node) → h ≤ length script.roster.hosts
    → get_or (nodes_of script) h d ≡ host_at h
host_place script h d le =
    (let n = length script.roster.hosts in
    front_at (hosts_up_to n) (servers_up_to script.servers) h d (let l = hosts_long n in omega (arith, l, le))
    ∙ hosts_at n h d le)

pub server_place : (script : Script) (v k : ℕ) (d : Node) → v < script.servers
    → k ≡ (length script.roster.hosts + 1) + v → get_or (nodes_of script) k d ≡ server_at (v + 1)
server_place script v k d lt e =
    (let n = length script.roster.hosts in
    back_at (hosts_up_to n) (servers_up_to script.servers) k v d (let l = hosts_long n in omega (arith, l, e))
    ∙ servers_at script.servers v d lt)

pub nodes_long : (script : Script) → length (nodes_of script) ≡ (length script.roster.hosts + 1) + script.servers
nodes_long script =
    (let n = length script.roster.hosts in
    let a = long (hosts_up_to n) (servers_up_to script.servers) in
    let h = hosts_long n in let s = servers_long script.servers in omega (arith, a, h, s))

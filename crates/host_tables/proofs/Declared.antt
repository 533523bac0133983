-- What tidy tables say of servers: each site stands once, and is of a declared server; and so is each fileset's home.
use Rattle.base_types.specs.Ids.{same_fid}
use Rattle.base_types.specs.declared.ids.Fid.{Fid}
use Rattle.base_types.specs.declared.ids.FilesetId.{FilesetId}
use Rattle.base_types.specs.declared.ids.ServerId.{ServerId}
use Rattle.host_tables.proofs.HearingParts.{server_is, servers_differ}
use Rattle.host_tables.proofs.Lists.{any_in, by_test, in_map, map_in, same_fid_is, true_false}
use Rattle.host_tables.proofs.Tidy.{home_number}
use Rattle.host_tables.proofs.Updating.{reads_after}
use Rattle.host_tables.specs.Hearing.{ChangesSite, RenewsFloors}
use Rattle.host_tables.specs.Tables.{floor_of, fresh_site, site_at}
use Rattle.host_tables.specs.Tidy.{IsTidy, servers_in}
use Rattle.host_tables.specs.Updates.{home_at, is_site, with_site}
use Rattle.host_tables.specs.declared.files.Floor.{Floor}
use Rattle.host_tables.specs.declared.sites.Site.{Site}
use Rattle.host_tables.specs.declared.tables.Tables.{Tables}
use Rattle.message_types.specs.Soundness.{IsServer}
use Rattle.run_rules.specs.Messages.{home}
use Rattle.run_rules.specs.Past.{EachOnce, In}
use Rattle.run_rules.specs.Steps.{servers_of}
use Rattle.std.proofs.Common.{Bool, List, Some, [], ap, arith, cond, eq-eqb, false, filter, if◌then◌else◌, inl, inr}
use Rattle.std.proofs.Common.{length, ltb-true, map, nat_lt, not, refl, subst, suc, sym, true, unwrap_or, ℕ, ◌&&◌}
use Rattle.std.proofs.Common.{◌+◌, ◌/◌, ◌<◌, ◌==◌, ◌∙◌, ◌∷◌, ◌≡◌, ◌≤◌, ◌⊎◌}
use Rattle.std.proofs.lemmas.Bool.{ltb-false}
use Rattle.std.specs.List.{enumerate_from, find, list_any}
use Rattle.std.specs.Option.{option_map_or}
use Rattle.tree_calls.specs.declared.roster.Roster.{Roster}

-- the servers of a roster, from a number on
abbrev servers_from : ℕ → List ℕ → List ServerId
servers_from k capacity = map (λ (at, c). record { 0 = at + 1 }) (enumerate_from k capacity)

in_roster : (capacity : List ℕ) (k v : ℕ) → k + 1 ≤ v → v ≤ k + length capacity
    → (let server : ServerId = record { 0 = v } in In server (servers_from k capacity))
in_roster [] k v low high = absurd (omega (arith, low, high))
in_roster (c ∷ capacity) k v low high = elim (less_or (suc k) v) [
  | inl l ↦ inr (in_roster capacity (k + 1) v (omega (arith, l)) (omega (arith, high)))
  | inr g ↦ inl (let e : v ≡ k + 1 = omega (arith, g, low) in λ i. record { 0 = e i })
]
  where
    less_or : (a b : ℕ) → (a < b) ⊎ (b ≤ a)
    less_or a b = elim (by_test (nat_lt a b)) [ inl e ↦ inl (ltb-true a b e) | inr n ↦ inr (ltb-false a b n) ]

roster_has : (capacity : List ℕ) (k : ℕ) (server : ServerId) → In server (servers_from k capacity)
    → (k + 1 ≤ server.0) × (server.0 ≤ k + length capacity)
roster_has [] k server i = elim i [ ]
roster_has (c ∷ capacity) k server (inl e) =
    let same : server.0 ≡ k + 1 = ap (λ (s : ServerId). s.0) e in (omega (arith, same), omega (arith, same))
roster_has (c ∷ capacity) k server (inr i) =
    let r = roster_has capacity (k + 1) server i in let low = r.0 in let high = r.1 in
    (omega (arith, low), omega (arith, high))

once_from : (capacity : List ℕ) (k : ℕ) → EachOnce (servers_from k capacity)
once_from [] k = tt
once_from (c ∷ capacity) k = (
  (λ i. let r = roster_has capacity (k + 1) (record { 0 = k + 1 }) i in let low : k + 1 + 1 ≤ k + 1 = r.0 in
      omega (arith, low)),
  once_from capacity (k + 1),
)

-- of servers that each stand once the site of each is its own
site_once : (sites : List Site) → EachOnce (servers_in sites) → (site : Site) → In site sites
    → site_at sites site.server ≡ site
site_once [] once site i = elim i [ ]
site_once (x ∷ sites) once site (inl e) =
    let t = eq-eqb x.server.0 site.server.0 (ap (λ (z : Site). z.server.0) (sym e)) in
    ap (λ (b : Bool). unwrap_or (cond b (Some x) (find (λ (z : Site). z.server.0 == site.server.0) sites))
    (fresh_site site.server)) t ∙ sym e
site_once (x ∷ sites) once site (inr i) = elim (by_test (x.server.0 == site.server.0)) [
  | inl t ↦ absurd (once.0 (subst (λ (v : ServerId). In v (servers_in sites)) (sym (server_is x.server site.server t))
      (map_in (λ (z : Site). z.server) sites site i)))
  | inr f ↦ ap (λ (b : Bool). unwrap_or (cond b (Some x) (find (λ (z : Site). z.server.0 == site.server.0) sites))
      (fresh_site site.server)) f ∙ site_once sites once.1 site i
]

pub site_there : (sites : List Site) (v : ServerId) → In v (servers_in sites)
    → (site : Site) × In site sites × (site.server ≡ v)
site_there sites v i = let r = in_map (λ (z : Site). z.server) sites v i in (r.0, r.1, sym r.2)

-- a change of one site changes no server
pub same_servers : (site : Site) (sites : List Site) → servers_in (with_site site sites) ≡ servers_in sites
same_servers site [] = refl
same_servers site (x ∷ sites) = elim (by_test (x.server.0 == site.server.0)) [
  | inl t ↦ ap (λ (b : Bool). servers_in (if b then site ∷ sites else x ∷ with_site site sites)) t
      ∙ ap (λ (v : ServerId). v ∷ servers_in sites) (sym (server_is x.server site.server t))
  | inr f ↦ ap (λ (b : Bool). servers_in (if b then site ∷ sites else x ∷ with_site site sites)) f
      ∙ ap (λ (vs : List ServerId). x.server ∷ vs) (same_servers site sites)
]

-- where the server is declared its site is the new one, and all others are as before
known_here : (sites : List Site) (v : ServerId) → In v (servers_in sites) → list_any (is_site v) sites ≡ true
known_here sites v i = let r = site_there sites v i in any_in (is_site v) sites r.0 r.1
    (eq-eqb r.0.server.0 v.0 (ap (λ (w : ServerId). w.0) r.2))

module _ (roster : Roster) (m : Tables) (tidy : IsTidy roster m) where
  once : EachOnce (servers_in m.sites)
  once = subst EachOnce (sym tidy.servers) (once_from roster.capacity 0)

  pub site_is : (site : Site) → In site m.sites → site_at m.sites site.server ≡ site
  site_is site i = site_once m.sites once site i

  pub site_declared : (site : Site) → In site m.sites → IsServer roster site.server
  site_declared site i =
      let at = subst (In site.server) tidy.servers (map_in (λ (z : Site). z.server) m.sites site i) in
      let r = roster_has roster.capacity 0 site.server at in let low = r.0 in let high = r.1 in
      record { first = omega (arith, low); last = omega (arith, high) }

  pub declared_site : (v : ServerId) → IsServer roster v → In v (servers_in m.sites)
  declared_site v d =
      let low = d.first in let high = d.last in
      subst (In v) (sym tidy.servers) (in_roster roster.capacity 0 v.0 (omega (arith, low)) (omega (arith, high)))

  -- the home of a fileset by the tables is that by the rules
  pub home_is : (fs : FilesetId) → IsServer roster (home fs) → home_at fs ≡ home fs
  home_is fs d =
      let n = home_number fs in
      let high = d.last in let few = tidy.few in
      let q : fs.0 / 65536 ≤ 255 = omega (arith, n, high, few) in
      reads_after.home_is fs (small fs.0 q)
    where
      small : (n : ℕ) → n / 65536 ≤ 255 → n < 16777216
      small n le = omega (arith, le)

  -- what is put in place of a site is read there, and all else as before
  pub site_put : (site : Site) → IsServer roster site.server
      → ChangesSite m.sites (with_site site m.sites) site.server site
  site_put site d = record {
    here =
        let r = reads_after.sites m.sites site site.server in
        let t = eq-eqb site.server.0 site.server.0 refl in
        let k = known_here m.sites site.server (declared_site site.server d) in
        r ∙ ap (λ (q : Bool × Bool). if q.0 && q.1 then site else site_at m.sites site.server) (λ i. (t i, k i));
    others = λ w other.
        let r = reads_after.sites m.sites site w in
        let f = servers_differ site.server w (λ e. other (sym e)) in
        r ∙ ap (λ (b : Bool). if b && list_any (is_site site.server) m.sites then site else site_at m.sites w) f;
  }

-- the site at a server is of that server
pub site_number : (sites : List Site) (v : ServerId) → (site_at sites v).server ≡ v
site_number [] v = refl
site_number (x ∷ sites) v = elim (by_test (x.server.0 == v.0)) [
  | inl t ↦ ap (λ (b : Bool). (unwrap_or (cond b (Some x) (find (λ (z : Site). z.server.0 == v.0) sites))
      (fresh_site v)).server) t ∙ server_is x.server v t
  | inr f ↦ ap (λ (b : Bool). (unwrap_or (cond b (Some x) (find (λ (z : Site). z.server.0 == v.0) sites))
      (fresh_site v)).server) f ∙ site_number sites v
]

-- the floors of the files of a server begin anew
abbrev left_floors : ServerId → List Floor → List Floor
left_floors v floors = filter (λ (floor : Floor). not ((home_at floor.fid.fileset).0 == v.0)) floors

pub floors_renew : (v : ServerId) (floors : List Floor)
    → ((f : Floor) → In f floors → home_at f.fid.fileset ≡ home f.fid.fileset)
    → RenewsFloors floors (filter (λ (floor : Floor). not ((home_at floor.fid.fileset).0 == v.0)) floors) v
floors_renew v [] same fid = zero_either ((home fid.fileset).0 == v.0)
  where
    zero_either : (b : Bool) → ◌≡◌ {A = ℕ} 0 (if b then 0 else 0)
    zero_either true = refl
    zero_either false = refl
floors_renew v (f ∷ floors) same fid =
    let q = ap (λ (w : ServerId). w.0 == v.0) (same f (inl refl)) in
    by_home ((home f.fid.fileset).0 == v.0) refl q (floors_renew v floors (λ k i. same k (inr i)) fid)
  where
    at_fid : same_fid f.fid fid ≡ true → (home f.fid.fileset).0 == v.0 ≡ ((home fid.fileset).0 == v.0)
    at_fid e = ap (λ (x : Fid). (home x.fileset).0 == v.0) (same_fid_is f.fid fid e)

    gone : (c : Bool) → same_fid f.fid fid ≡ c → (b : Bool) → (home fid.fileset).0 == v.0 ≡ b
        → ((home f.fid.fileset).0 == v.0) ≡ true → floor_of (left_floors v floors) fid
        ≡ (if b then 0 else floor_of floors fid)
        → floor_of (left_floors v floors) fid ≡ (if b then 0 else option_map_or (λ (x : Floor). x.stamp) (cond c (Some
        f)
        (find (λ (x : Floor). same_fid x.fid fid) floors)) 0)
    gone true e true k t rest = rest
    gone true e false k t rest = absurd (true_false ((home fid.fileset).0 == v.0) (sym (at_fid e) ∙ t) k)
    gone false e true k t rest = rest
    gone false e false k t rest = rest

    kept : (c : Bool) → same_fid f.fid fid ≡ c → (b : Bool) → (home fid.fileset).0 == v.0 ≡ b
        → ((home f.fid.fileset).0 == v.0) ≡ false → floor_of (left_floors v floors) fid
        ≡ (if b then 0 else floor_of floors fid)
        → option_map_or (λ (x : Floor). x.stamp) (cond c (Some f) (find (λ (x : Floor). same_fid x.fid fid)
        (left_floors v floors))) 0
        ≡ (if b then 0 else option_map_or (λ (x : Floor). x.stamp) (cond c (Some f)
        (find (λ (x : Floor). same_fid x.fid fid) floors)) 0)
    kept true e true k t rest = absurd (true_false ((home fid.fileset).0 == v.0) k (sym (at_fid e) ∙ t))
    kept true e false k t rest = refl
    kept false e true k t rest = rest
    kept false e false k t rest = rest

    by_home : (h : Bool) → (home f.fid.fileset).0 == v.0 ≡ h
        → ((home_at f.fid.fileset).0 == v.0) ≡ ((home f.fid.fileset).0 == v.0)
        → floor_of (left_floors v floors) fid ≡ (if (home fid.fileset).0 == v.0 then 0 else floor_of floors fid)
        → floor_of (cond (not ((home_at f.fid.fileset).0 == v.0)) (f ∷ left_floors v floors) (left_floors v floors)) fid
        ≡ (if (home fid.fileset).0 == v.0 then 0 else floor_of (f ∷ floors) fid)
    by_home true t q rest =
        ap (λ (b : Bool). floor_of (cond (not b) (f ∷ left_floors v floors) (left_floors v floors)) fid) (q ∙ t)
        ∙ gone (same_fid f.fid fid) refl ((home fid.fileset).0 == v.0) refl t rest
    by_home false t q rest =
        ap (λ (b : Bool). floor_of (cond (not b) (f ∷ left_floors v floors) (left_floors v floors)) fid) (q ∙ t)
        ∙ kept (same_fid f.fid fid) refl ((home fid.fileset).0 == v.0) refl t rest

-- a listed server is declared
pub server_listed : (roster : Roster) (v : ServerId) → In v (servers_of roster) → IsServer roster v
server_listed roster v i =
    let r = roster_has roster.capacity 0 v i in let low = r.0 in let high = r.1 in
    record { first = omega (arith, low); last = omega (arith, high) }

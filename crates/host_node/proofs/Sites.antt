-- What a host has of the servers, and whether it has parted from them.
use Rattle.std.proofs.Common.{◌≡◌, ⊎_elim, inl, inr, ℕ, ◌+◌, ◌≤◌, ◌==◌, Bool, true, false, cond, List, [], ◌∷◌}
use Rattle.std.proofs.Common.{Some, map, unwrap_or, refl, sym, ap, ◌∙◌, subst, arith, eq-eqb}
use Rattle.std.proofs.Common.{eqb-true}
use Rattle.std.specs.List.{enumerate_from, find}
use Rattle.base_types.specs.declared.ids.ServerId.{ServerId}
use Rattle.host_tables.specs.Machine.{IsParted}
use Rattle.host_manager.specs.Running.{IsRunning}
use Rattle.host_tables.specs.Tables.{fresh_site, site_at}
use Rattle.host_tables.specs.Tidy.{servers_in}
use Rattle.host_tables.specs.declared.sites.Site.{Site}
use Rattle.host_tables.specs.declared.tables.Tables.{Tables}
use Rattle.run_rules.specs.Messages.{HasBye, HasGreeted}
use Rattle.run_rules.specs.Past.{EachOnce, In}
use Rattle.run_rules.specs.declared.step.Step.{Step}
use Rattle.script_lines.specs.declared.script.Script.{Script}

abbrev servers_from : ℕ → List ℕ → List ServerId
servers_from k capacity = map (λ (at, c). record { 0 = at + 1 }) (enumerate_from k capacity)

later : (capacity : List ℕ) (k : ℕ) (server : ServerId) → In server (servers_from k capacity) → k + 1 ≤ server.0
later [] k server i = absurd i
later (c ∷ capacity) k server i = ⊎_elim
    (λ (e : server ≡ record { 0 = k + 1 }). let same = ap (λ (s : ServerId). s.0) e in omega arith)
    (λ (j : In server (servers_from (k + 1) capacity)). let again = later capacity (k + 1) server j in omega arith)
    i

once_from : (capacity : List ℕ) (k : ℕ) → EachOnce (servers_from k capacity)
once_from [] k = tt
once_from (c ∷ capacity) k = (
  (λ i. let low = later capacity (k + 1) (record { 0 = k + 1 }) i in omega arith),
  once_from capacity (k + 1),
)

map_in : (site : Site) (sites : List Site) → In site sites → In site.server (servers_in sites)
map_in site [] i = absurd i
map_in site (x ∷ sites) i = ⊎_elim
    (λ (e : site ≡ x). inl (ap (λ (z : Site). z.server) e)) (λ (k : In site sites). inr (map_in site sites k)) i

-- of servers that each stand once the site of each is its own
site_once : (sites : List Site) → EachOnce (servers_in sites) → (site : Site) → In site sites
    → site_at sites site.server ≡ site
site_once [] once site i = absurd i
site_once (x ∷ sites) once site i =
    by_test (x.server.0 == site.server.0) refl i (λ k. site_once sites once.1 site k)
  where
    by_test : (b : Bool) → (x.server.0 == site.server.0) ≡ b → In site (x ∷ sites)
        → (In site sites → site_at sites site.server ≡ site)
        → unwrap_or (cond b (Some x) (find (λ (z : Site). z.server.0 == site.server.0) sites)) (fresh_site site.server)
        ≡ site
    by_test true t i again = ⊎_elim
        (λ (e : site ≡ x). sym e)
        (λ (k : In site sites).
        let number : x.server.0 ≡ site.server.0 = eqb-true x.server.0 site.server.0 t in
        let same : site.server ≡ x.server = λ j. record { 0 = sym number j } in
        absurd (once.0 (subst (λ (v : ServerId). In v (servers_in sites)) same (map_in site sites k))))
        i
    by_test false f i again = ⊎_elim
        (λ (e : site ≡ x).
        let t = eq-eqb x.server.0 site.server.0 (ap (λ (z : Site). z.server.0) (sym e)) in absurd (cc))
        (λ (k : In site sites). again k)
        i

-- a site that says anything stands there
greeted_in : (sites : List Site) (v : ServerId) → (site_at sites v).greeted ≡ true → In (site_at sites v) sites
greeted_in [] v e = absurd (cc)
greeted_in (x ∷ sites) v e = by_test (x.server.0 == v.0) e (greeted_in sites v)
  where
    at : Bool → Site
    at b = unwrap_or (cond b (Some x) (find (λ (z : Site). z.server.0 == v.0) sites)) (fresh_site v)

    by_test : (b : Bool) → (at b).greeted ≡ true
        → ((site_at sites v).greeted ≡ true → In (site_at sites v) sites) → In (at b) (x ∷ sites)
    by_test true e again = inl refl
    by_test false e again = inr (again e)

module _ (script : Script) (m : Tables) (past : List Step) (running : IsRunning script m past) where
  -- it has parted from the servers where each that it greeted has said Bye
  pub parted_of : ((v : ServerId) → HasGreeted past v → HasBye past v) → IsParted m.sites
  parted_of f site i greeted =
      let once : EachOnce (servers_in m.sites) =
      subst EachOnce (sym running.tidy.servers) (once_from script.roster.capacity 0) in
      let at : site_at m.sites site.server ≡ site = site_once m.sites once site i in
      let stands = running.rests.stands.sites site.server in
      let has : HasGreeted past site.server =
      stands.greeted.0 (ap (λ (z : Site). z.greeted) at ∙ greeted) in
      sym (ap (λ (z : Site). z.has_bye) at) ∙ stands.has_bye.1 (f site.server has)

  pub bye_of : IsParted m.sites → (v : ServerId) → HasGreeted past v → HasBye past v
  bye_of parted v has =
      let stands = running.rests.stands.sites v in
      let greeted = stands.greeted.1 has in
      stands.has_bye.0 (parted (site_at m.sites v) (greeted_in m.sites v greeted) greeted)

-- A host before its first step.
use Rattle.base_types.specs.declared.ids.Fid.{Fid}
use Rattle.base_types.specs.declared.ids.HostId.{HostId}
use Rattle.base_types.specs.declared.ids.ServerId.{ServerId}
use Rattle.base_types.specs.declared.user.User.{User}
use Rattle.host_cache.specs.Seen.{Kept}
use Rattle.host_dirty.specs.Dirtiness.{file_at}
use Rattle.host_dirty.specs.Files.{clean}
use Rattle.host_dirty.specs.declared.dirty.Dirty.{Dirty}
use Rattle.host_tables.proofs.Lists.{true_false}
use Rattle.host_tables.proofs.Tidy.{tidy_first}
use Rattle.host_tables.proofs.Updating.{reads_after}
use Rattle.host_tables.specs.Beginning.{new_tables}
use Rattle.host_manager.specs.Running.{IsRunning}
use Rattle.host_tables.specs.Tables.{site_at}
use Rattle.host_tables.specs.Tidy.{IsTidy}
use Rattle.host_tables.specs.declared.sites.Site.{Site}
use Rattle.host_tables.specs.declared.tables.Tables.{Tables}
use Rattle.message_types.specs.Soundness.{IsHost}
use Rattle.run_rules.specs.Steps.{limit_of}
use Rattle.script_lines.specs.declared.script.Script.{Script}
use Rattle.std.proofs.Common.{Bool, List, None, Option, Some, [], ap, append-nil, arith, eqb-true, false}
use Rattle.std.proofs.Common.{if◌then◌else◌, length, map, refl, subst, suc, sym, true, ℕ, ◌++◌, ◌+◌, ◌-◌, ◌==◌, ◌∙◌}
use Rattle.std.proofs.Common.{◌∷◌, ◌≡◌, ◌≤◌}
use Rattle.std.specs.List.{enumerate_from}
use Rattle.std.specs.Prelude.{option_and_then, slice_get}
use Rattle.std.specs.declared.alloc.Global.{Global}
use Rattle.tree_calls.specs.Rosters.{user_of}
use Rattle.tree_calls.specs.declared.roster.Roster.{Roster}
use Rattle.host_manager.proofs.Running.{asks_none, place_within}
use Rattle.host_tables.specs.Tables.{fresh_site}
use Rattle.host_tables.specs.Tidy.{servers_in}
use Rattle.host_tables.specs.Updates.{fresh_sites}
use Rattle.std.proofs.Common.{append_assoc}
use Rattle.tree_calls.specs.Rosters.{admin}
use Rattle.tree_calls.specs.declared.roster.HostLine.{HostLine}
use Rattle.host_tables.proofs.First as first_of

-- the servers of a roster, from a number on
abbrev servers_from : ℕ → List ℕ → List ServerId
servers_from k capacity = map (λ (at, c). record { 0 = at + 1 }) (enumerate_from k capacity)

in_two : (xs ys : List Site) → servers_in (xs ++ ys) ≡ servers_in xs ++ servers_in ys
in_two [] ys = refl
in_two (x ∷ xs) ys = ap (λ (vs : List ServerId). x.server ∷ vs) (in_two xs ys)

fresh_from : (n : ℕ) (capacity : List ℕ)
    → servers_in (fresh_sites n) ++ servers_from n capacity ≡ servers_in (fresh_sites (n + length capacity))
fresh_from n [] =
    append-nil (servers_in (fresh_sites n)) ∙ ap (λ (k : ℕ). servers_in (fresh_sites k)) (let e : n
    ≡ n + 0 = omega arith in e)
fresh_from n (c ∷ capacity) =
    let next : n + 1 ≡ suc n = omega arith in
    let same : suc n + length capacity ≡ n + suc (length capacity) = omega arith in
    let one : servers_in (fresh_sites (suc n)) ≡ servers_in (fresh_sites n) ++ record { 0 = n + 1 } ∷ [] =
    in_two (fresh_sites n) (fresh_site (record { 0 = suc n }) ∷ [])
    ∙ ap (λ (k : ℕ). servers_in (fresh_sites n) ++ record { 0 = k } ∷ []) (sym next) in
    sym (append_assoc (servers_in (fresh_sites n)) (record { 0 = n + 1 } ∷ []) (servers_from (n + 1) capacity))
    ∙ ap (λ (vs : List ServerId). vs ++ servers_from (n + 1) capacity) (sym one)
    ∙ ap (λ (k : ℕ). servers_in (fresh_sites (suc n)) ++ servers_from k capacity) next
    ∙ fresh_from (suc n) capacity
    ∙ ap (λ (k : ℕ). servers_in (fresh_sites k)) same

host_listed : (roster : Roster) (host : HostId) (user : User) → user_of roster host ≡ Some user → IsHost roster host
host_listed roster host user e = by_zero (host.0 == 0) refl e
  where
    by_zero : (b : Bool) → (host.0 == 0) ≡ b → (if b then Some admin
        else option_and_then (λ line. slice_get roster.users line.user) (slice_get roster.hosts (host.0 - 1)))
        ≡ Some user → host.0 ≤ length roster.hosts
    by_zero true t k = let z = eqb-true host.0 0 t in omega (arith, z)
    by_zero false t k = by_line (slice_get roster.hosts (host.0 - 1)) refl k
      where
        by_line : (o : Option HostLine) → slice_get roster.hosts (host.0 - 1) ≡ o
            → option_and_then (λ line. slice_get roster.users line.user) o ≡ Some user → host.0 ≤ length roster.hosts
        by_line None q r = absurd (cc)
        by_line (Some line) q r =
            let l = place_within roster.hosts (host.0 - 1) line q in omega (arith, l)

pub first_runs : (script : Script) (roster : Roster) (host : HostId) (user : User) (cache : Kept) (dirty : Dirty)
    (alloc : Global) (servers : ℕ) → script.roster ≡ roster → servers ≡ length roster.capacity → 1 ≤ servers
    → servers ≤ 255 → cache.held ≡ [] → ((fid : Fid) → file_at dirty fid ≡ clean) → user_of roster host ≡ Some user
    → IsRunning script (new_tables alloc host user (limit_of roster host) cache dirty (fresh_sites servers)) []
first_runs script roster host user cache dirty alloc servers same count some few none clean_all acts_for = record {
  rests = first_of.rests script host user (limit_of roster host) cache dirty alloc (fresh_sites servers)
      (λ v. reads_after.fresh servers v) none clean_all (ap (λ (r : Roster). user_of r host) same ∙ acts_for)
      (ap (λ (r : Roster). limit_of r host) (sym same));
  tidy = subst (λ (r : Roster). IsTidy r m) (sym same)
      (tidy_first roster m (host_listed roster host user acts_for) (omega (arith, count, some))
      (omega (arith, count, few))
      (ap (λ (k : ℕ). servers_in (fresh_sites k)) (let e : servers
      ≡ 0 + length roster.capacity = omega (arith, count) in e)
      ∙ sym (fresh_from 0 roster.capacity)) none refl refl refl refl
      refl refl);
  ending = λ u e. absurd (cc);
  asking = asks_none m refl;
  gone = λ v e. absurd (
      let f : (site_at (fresh_sites servers) v).said_bye ≡ false =
      ap (λ (z : Site). z.said_bye) (reads_after.fresh servers v) in
      true_false (site_at (fresh_sites servers) v).said_bye e f
      );
}
  where
    m : Tables
    m = new_tables alloc host user (limit_of roster host) cache dirty (fresh_sites servers)

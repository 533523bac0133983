-- The limits of a roster, server by server.
use Rattle.std.proofs.Common.{◌≡◌, ◌≤◌, ◌<◌, ◌+◌, ◌-◌, ℕ, zero, suc, List, [], ◌∷◌, length, subst, arith}
use Rattle.std.specs.Prelude.{true, nat_le, ◌&&◌, nat_lt, slice_get, unwrap_or}
use Rattle.std.specs.List.{list_all}
use Rattle.std.proofs.lemmas.Bool.{and_parts, leb-true}
use Rattle.base_types.specs.declared.limits.TheConstants.{SERVERS_MAX, HOSTS_MAX, GROUPS_MAX, CAPACITY_MIN, CAPACITY_MAX, CACHED_TOKENS_MIN, CACHED_TOKENS_MAX}
use Rattle.base_types.specs.declared.ids.ServerId.{ServerId}
use Rattle.tree_calls.specs.Limits.{is_between, keeps_limits}
use Rattle.tree_calls.specs.declared.roster.Roster.{Roster}
use Rattle.message_types.specs.Soundness.{IsServer}
use Rattle.store_state.specs.Capacity.{capacity_of}

pub record HasLimits (roster : Roster) : Type 0 where
  pub servers : length roster.capacity ≤ SERVERS_MAX
  pub sizes : list_all (is_between CAPACITY_MIN CAPACITY_MAX) roster.capacity ≡ true

pub has_limits : (roster : Roster) → keeps_limits roster ≡ true → HasLimits roster
has_limits roster k =
    let servers = is_between 1 SERVERS_MAX (length roster.capacity) in
    let hosts = nat_le (length roster.hosts) HOSTS_MAX in
    let sizes = list_all (is_between CAPACITY_MIN CAPACITY_MAX) roster.capacity in
    let groups = list_all (λ user. is_between 1 GROUPS_MAX (length user.groups)) roster.users in
    let lines = list_all (λ line. nat_lt line.user (length roster.users)
    && is_between CACHED_TOKENS_MIN CACHED_TOKENS_MAX line.limit) roster.hosts in
    let p = and_parts (servers && hosts && sizes && groups) lines k in
    let q = and_parts (servers && hosts && sizes) groups p.0 in
    let r = and_parts (servers && hosts) sizes q.0 in
    let t = and_parts servers hosts r.0 in
    let u = and_parts (nat_le 1 (length roster.capacity)) (nat_le (length roster.capacity) SERVERS_MAX) t.0 in
    record { servers = leb-true (length roster.capacity) 4 u.1; sizes = r.1 }

sized : (xs : List ℕ) (k : ℕ) → list_all (is_between CAPACITY_MIN CAPACITY_MAX) xs ≡ true → k < length xs → (CAPACITY_MIN ≤ unwrap_or (slice_get xs k) 0) × (unwrap_or (slice_get xs k) 0 ≤ CAPACITY_MAX)
sized [] k all lt = absurd (omega (arith, lt))
sized (x ∷ xs) zero all lt =
    let here = and_parts (nat_le CAPACITY_MIN x) (nat_le x CAPACITY_MAX) (and_parts (is_between CAPACITY_MIN CAPACITY_MAX x) (list_all (is_between CAPACITY_MIN CAPACITY_MAX) xs) all).0 in
    (leb-true CAPACITY_MIN x here.0, leb-true x CAPACITY_MAX here.1)
sized (x ∷ xs) (suc k) all lt = sized xs k (and_parts (is_between CAPACITY_MIN CAPACITY_MAX x) (list_all (is_between CAPACITY_MIN CAPACITY_MAX) xs) all).1 (omega (arith, lt))

-- what a disk is opened with
pub record MayOpen (roster : Roster) (server : ServerId) : Type 0 where
  pub declared : IsServer roster server
  pub servers : length roster.capacity ≤ SERVERS_MAX
  pub least : CAPACITY_MIN ≤ capacity_of roster server
  pub most : capacity_of roster server ≤ CAPACITY_MAX

pub may_open : (roster : Roster) (k number : ℕ) → keeps_limits roster ≡ true → k < length roster.capacity → number ≡ k + 1 → MayOpen roster (record { 0 = number })
may_open roster k number kept lt e =
    let limits = has_limits roster kept in
    let at : k ≡ number - 1 = omega (arith, e) in
    let sizes = sized roster.capacity k limits.sizes lt in
    record {
      declared = record { first = omega (arith, e); last = omega (arith, e, lt) };
      servers = limits.servers;
      least = subst (λ (i : ℕ). CAPACITY_MIN ≤ unwrap_or (slice_get roster.capacity i) 0) at sizes.0;
      most = subst (λ (i : ℕ). unwrap_or (slice_get roster.capacity i) 0 ≤ CAPACITY_MAX) at sizes.1;
    }

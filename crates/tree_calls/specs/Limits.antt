-- The limits that rosters and calls keep.
use Rattle.std.specs.Prelude.{ℕ, nat_lt, nat_le, Bool, true, ◌&&◌, length}
use Rattle.std.specs.List.{list_all}
use Rattle.base_types.specs.declared.limits.TheConstants.{
  SERVERS_MAX,
  HOSTS_MAX,
  GROUPS_MAX,
  CAPACITY_MIN,
  CAPACITY_MAX,
  CACHED_TOKENS_MIN,
  CACHED_TOKENS_MAX,
  OBJECTS_MAX,
}
use Rattle.tree_calls.specs.declared.call.Call.{Call}
use Rattle.tree_calls.specs.declared.call.Call.TheVariants.{NewFileset}
use Rattle.tree_calls.specs.declared.roster.Roster.{Roster}

-- whether a number lies between two others
abbrev pub is_between : ℕ → ℕ → ℕ → Bool
is_between least most n = nat_le least n && nat_le n most

-- whether a roster keeps the limits of the service
abbrev pub keeps_limits : Roster → Bool
keeps_limits roster =
    is_between 1 SERVERS_MAX (length roster.capacity) && nat_le (length roster.hosts) HOSTS_MAX
    && list_all (is_between CAPACITY_MIN CAPACITY_MAX) roster.capacity
    && list_all (λ user. is_between 1 GROUPS_MAX (length user.groups)) roster.users
    && list_all (λ line.
    nat_lt line.user (length roster.users) && is_between CACHED_TOKENS_MIN CACHED_TOKENS_MAX line.limit) roster.hosts

-- whether a call keeps its limit: a new fileset has at least one object, and at most so many
abbrev pub keeps_limit : Call → Bool
keeps_limit (NewFileset server name objects owner) = is_between 1 OBJECTS_MAX objects
keeps_limit _ = true

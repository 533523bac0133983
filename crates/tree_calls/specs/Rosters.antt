-- For whom hosts act.
use Rattle.std.specs.Prelude.{◌-◌, ◌==◌, if◌then◌else◌, [], ◌∷◌, slice_get, Option, Some, codes, option_and_then}
use Rattle.base_types.specs.declared.ids.HostId.{HostId}
use Rattle.base_types.specs.declared.user.User.{User}
use Rattle.tree_calls.specs.declared.roster.Roster.{Roster}

-- the setup host acts for the user "admin" with the group "admin"
abbrev pub admin : User
admin = record { name = codes "admin"; groups = codes "admin" ∷ [] }

-- the user that a host acts for, where it is declared
abbrev pub user_of : Roster → HostId → Option User
user_of roster host =
    if host.0 == 0 then Some admin
    else option_and_then (λ line. slice_get roster.users line.user) (slice_get roster.hosts (host.0 - 1))

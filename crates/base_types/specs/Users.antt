use Rattle.std.specs.Prelude.{ℕ, List, slice_get, unwrap_or}
use Rattle.base_types.specs.declared.user.User.{User}

-- the group that owns what the user makes: the first, or the name of a user without groups
abbrev pub first_group : User → List ℕ
first_group user = unwrap_or (slice_get user.groups 0) user.name

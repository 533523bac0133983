-- The checks that rows of the call table share.
use Rattle.std.specs.Prelude.{
  ℕ,
  ◌-◌,
  Bool,
  true,
  false,
  if◌then◌else◌,
  List,
  length,
  take,
  slice_get,
  Option,
  Some,
  None,
  Result,
  Ok,
  Err,
}
use Rattle.base_types.specs.Access.{allows}
use Rattle.base_types.specs.declared.user.User.{User}
use Rattle.tree_calls.specs.declared.reply.Refusal.{Refusal}
use Rattle.tree_calls.specs.declared.reply.Refusal.TheVariants.{Denied}
use Rattle.tree_objects.specs.declared.content.Object.{Object}
use Rattle.tree_objects.specs.Objects.{own_rights}

-- a check that refuses, or else the next one
abbrev pub unless : {A : Type 0} → Bool → Refusal → Result A Refusal → Result A Refusal
unless true refusal next = Err refusal
unless false refusal next = next

-- whether a user has a right on an object
abbrev pub permission : Object → User → ℕ → Result (Unit {0}) Refusal
permission object user right = if allows (own_rights object user) right then Ok tt else Err (Denied right)

abbrev pub split_at_last : List (List ℕ) → Refusal → Option (List ℕ) → Result (List ℕ × List (List ℕ)) Refusal
split_at_last path empty None = Err empty
split_at_last path empty (Some name) = Ok (name, take (length path - 1) path)

-- the last name of a path, and the names before it; an empty path is refused
abbrev pub split_path : List (List ℕ) → Refusal → Result (List ℕ × List (List ℕ)) Refusal
split_path path empty = split_at_last path empty (slice_get path (length path - 1))

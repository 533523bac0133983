use Rattle.std.specs.Prelude.{
  ℕ,
  Bool,
  true,
  false,
  ◌==◌,
  ◌&&◌,
  not,
  nat_le,
  if◌then◌else◌,
  List,
  [],
  ◌∷◌,
  length,
  Option,
  Some,
  None,
  unwrap_or,
  bit_and,
  bit_or,
}
use Rattle.std.specs.List.{list_any, find, filter, fold}
use Rattle.std.specs.Option.{option_map}
use Rattle.base_types.specs.declared.limits.TheConstants.{LIST_ENTRIES_MAX}
use Rattle.base_types.specs.Name.{same_name, is_among}
use Rattle.base_types.specs.declared.access.Who.{Who}
use Rattle.base_types.specs.declared.access.Who.TheVariants.{UserObj, User, GroupObj, Group, OtherObj, MaskObj}
use Rattle.base_types.specs.declared.access.AccessEntry.{AccessEntry}
use Rattle.base_types.specs.declared.user.User.{User as UserOf}

-- whether two entries speak of the same
abbrev pub same_who : Who → Who → Bool
same_who UserObj UserObj = true
same_who (User a) (User b) = same_name a b
same_who GroupObj GroupObj = true
same_who (Group a) (Group b) = same_name a b
same_who OtherObj OtherObj = true
same_who MaskObj MaskObj = true
same_who _ _ = false

-- whether an entry of the list speaks of this
abbrev pub has_who : List AccessEntry → Who → Bool
has_who entries who = list_any (λ entry. same_who entry.who who) entries

-- whether no two entries speak of the same
abbrev pub is_distinct : List AccessEntry → Bool
is_distinct [] = true
is_distinct (entry ∷ entries) = not (has_who entries entry.who) && is_distinct entries

-- at most 16 entries, the three of the object among them, and none twice
abbrev pub is_access_list : List AccessEntry → Bool
is_access_list entries =
    nat_le (length entries) LIST_ENTRIES_MAX
    && has_who entries UserObj && has_who entries GroupObj && has_who entries OtherObj
    && is_distinct entries

abbrev pub is_user_obj : Who → Bool
is_user_obj UserObj = true
is_user_obj _ = false

abbrev pub is_other_obj : Who → Bool
is_other_obj OtherObj = true
is_other_obj _ = false

abbrev pub is_mask_obj : Who → Bool
is_mask_obj MaskObj = true
is_mask_obj _ = false

-- the entry of the user with this name
abbrev pub is_user : List ℕ → Who → Bool
is_user name (User other) = same_name other name
is_user name _ = false

-- the entries that decide for a user with these groups, on an object of this group
abbrev pub decides_by_group : List ℕ → List (List ℕ) → Who → Bool
decides_by_group group groups GroupObj = is_among groups group
decides_by_group group groups (Group other) = is_among groups other
decides_by_group group groups _ = false

-- the rights of the first entry of this kind
abbrev pub rights_where : (Who → Bool) → List AccessEntry → Option ℕ
rights_where test entries = option_map (λ entry. entry.rights) (find (λ entry. test entry.who) entries)

-- the rights that any of the entries gives
abbrev pub union_of : List AccessEntry → ℕ
union_of entries = fold (λ rights entry. bit_or rights entry.rights) 0 entries

-- a mask entry limits rights
abbrev pub limited_by_mask : List AccessEntry → ℕ → ℕ
limited_by_mask entries rights = bit_and rights (unwrap_or (rights_where is_mask_obj entries) 63)

-- what the entries of the user's groups give together, where there is one
abbrev pub group_rights_of : List AccessEntry → List ℕ → List (List ℕ) → Option ℕ
group_rights_of entries group groups =
    if list_any (λ entry. decides_by_group group groups entry.who) entries
    then Some (union_of (filter (λ entry. decides_by_group group groups entry.who) entries))
    else None

-- for a user who isn't the owner: the entry of the name, else those of the groups, else that of others
abbrev pub rights_of_other : List AccessEntry → Option ℕ → Option ℕ → ℕ
rights_of_other entries (Some named) by_group = limited_by_mask entries named
rights_of_other entries None (Some by_group) = limited_by_mask entries by_group
rights_of_other entries None None = unwrap_or (rights_where is_other_obj entries) 0

-- the rights of a user on an object with this owner, group and access list
abbrev pub rights_of : List AccessEntry → List ℕ → List ℕ → UserOf → ℕ
rights_of entries owner group user =
    if same_name owner user.name
    then unwrap_or (rights_where is_user_obj entries) 0
    else rights_of_other entries (rights_where (is_user user.name) entries) (group_rights_of entries group user.groups)

-- whether all of the needed rights are among these
abbrev pub allows : ℕ → ℕ → Bool
allows rights needed = bit_and rights needed == needed

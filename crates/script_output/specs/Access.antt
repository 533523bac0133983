-- How rights and access lists are written.
use Rattle.std.specs.Prelude.{ℕ, ◌==◌, if◌then◌else◌, List, [], ◌∷◌, ◌++◌, codes}
use Rattle.std.specs.List.{join_by}
use Rattle.base_types.specs.Access.{allows}
use Rattle.base_types.specs.declared.access.Who.{Who}
use Rattle.base_types.specs.declared.access.Who.TheVariants.{UserObj, User, GroupObj, Group, OtherObj, MaskObj}
use Rattle.base_types.specs.declared.access.AccessEntry.{AccessEntry}

-- the letter of a right that is among these, or what stands for one that lacks
abbrev pub letter_of : List ℕ → ℕ → ℕ → ℕ → List ℕ
letter_of lacking rights right letter = if allows rights right then letter ∷ [] else lacking

-- the letters of rights in the order "rwxcid", with this for each that lacks
unfoldable pub letters_of : List ℕ → ℕ → List ℕ
letters_of lacking rights =
    letter_of lacking rights 1 114 ++ letter_of lacking rights 2 119 ++ letter_of lacking rights 4 120
    ++ letter_of lacking rights 8 99 ++ letter_of lacking rights 16 105 ++ letter_of lacking rights 32 100

-- the letters alone, or "-" where there are none
unfoldable pub rights_text : ℕ → List ℕ
rights_text rights = if rights == 0 then codes "-" else letters_of [] rights

-- whom an entry speaks of
unfoldable pub who_text : Who → List ℕ
who_text UserObj = codes "user_obj"
who_text (User name) = codes "user:" ++ name
who_text GroupObj = codes "group_obj"
who_text (Group name) = codes "group:" ++ name
who_text OtherObj = codes "other_obj"
who_text MaskObj = codes "mask_obj"

-- an entry: whom it speaks of, and the rights
abbrev pub entry_text : AccessEntry → List ℕ
entry_text entry = who_text entry.who ++ codes ":" ++ rights_text entry.rights

-- the entries in their order, with commas between them
abbrev pub list_text : List AccessEntry → List ℕ
list_text entries = join_by entry_text (codes ",") entries

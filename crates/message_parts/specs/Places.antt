-- Users, places and rights.
use Rattle.std.specs.Prelude.{ℕ, ◌==◌, if◌then◌else◌, List, Ok}
use Rattle.base_types.specs.declared.user.User.{User}
use Rattle.tree_calls.specs.declared.place.Place.{Place}
use Rattle.tree_calls.specs.declared.place.Which.{Which}
use Rattle.tree_calls.specs.declared.place.Which.TheVariants.{Own, Files, Dirs}
use Rattle.message_parts.specs.Spelled.{Spelled, ◌&◌, number}
use Rattle.message_parts.specs.Reading.{Reading, ◌>>=◌, number_at}
use Rattle.message_parts.specs.Words.{coded, coded_at, spell_server, server_at, short, short_at, spell_name, name_at}

unfoldable pub spell_user : User → Spelled
spell_user x = spell_name x.name & short spell_name x.groups

unfoldable pub user_at : List ℕ → Reading User
user_at rest =
    name_at rest >>= λ name rest. short_at name_at rest >>= λ groups rest. Ok (
      record {
        name = name;
        groups = groups;
      },
      rest,
    )

unfoldable pub spell_place : Place → Spelled
spell_place x = spell_server x.server & spell_name x.fileset & short spell_name x.path

unfoldable pub place_at : List ℕ → Reading Place
place_at rest =
    server_at rest >>= λ server rest. name_at rest >>= λ fileset rest. short_at name_at rest >>= λ path rest.
    Ok (record { server = server; fileset = fileset; path = path }, rest)

abbrev pub which_code : Which → ℕ
which_code Own = 0
which_code Files = 1
which_code Dirs = 2

abbrev pub which_of : ℕ → Which
which_of n = if n == 0 then Own else if n == 1 then Files else Dirs

abbrev pub spell_which : Which → Spelled
spell_which = coded 0 2 which_code

abbrev pub which_at : List ℕ → Reading Which
which_at = coded_at 0 2 which_of

-- below 64
abbrev pub spell_rights : ℕ → Spelled
spell_rights = number 1 0 63

abbrev pub rights_at : List ℕ → Reading ℕ
rights_at = number_at 1 0 63

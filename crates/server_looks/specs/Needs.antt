-- What a clone and a move need, as a store tells it.
use Rattle.std.specs.List.{filter, flat_map}
use Rattle.std.specs.Option.{option_map_or}
use Rattle.std.specs.Prelude.{Bool, List, Option, [], false, not, ℕ}
use Rattle.tree_calls.specs.declared.part.Status.{Status}
use Rattle.token_types.specs.declared.token.Need.{Need}
use Rattle.need_server.specs.Wants.{all_of}
use Rattle.store_memory.specs.Reading.{files_of}
use Rattle.store_state.specs.Rows.{found_named}
use Rattle.store_state.specs.declared.state.StoreState.{StoreState}
use Rattle.server_keeps.specs.Asking.{is_file_told, whole_of}

abbrev pub is_file : Option Status → Bool
is_file status = option_map_or (λ (told : Status). not told.dir) status false

-- each file of a fileset, for reading
abbrev pub clone_needs : StoreState → List ℕ → List Need
clone_needs state name =
    option_map_or (λ id. flat_map (all_of false) (filter (is_file_told state) (files_of state id)))
    (found_named state name) []

-- each object of a fileset, with every use of it
abbrev pub move_needs : StoreState → List ℕ → List Need
move_needs state name =
    option_map_or (λ id. flat_map whole_of (files_of state id)) (found_named state name) []

-- The last numbers of give-backs, by filesets.
use Rattle.std.specs.Prelude.{ℕ, Bool, ◌==◌, if◌then◌else◌, List, [], ◌∷◌}
use Rattle.std.specs.List.{find}
use Rattle.std.specs.Option.{option_map_or}
use Rattle.base_types.specs.declared.ids.FilesetId.{FilesetId}
use Rattle.host_gives.specs.declared.counters.Counter.{Counter}

abbrev pub is_of : FilesetId → Counter → Bool
is_of fileset counter = counter.fileset.0 == fileset.0

-- the last number of a fileset; 0 where none was made
abbrev pub last_of : List Counter → FilesetId → ℕ
last_of counters fileset = option_map_or (λ counter. counter.number) (find (is_of fileset) counters) 0

-- with this last number of a fileset
abbrev pub with_last : List Counter → FilesetId → ℕ → List Counter
with_last [] fileset number = record { fileset = fileset; number = number } ∷ []
with_last (counter ∷ counters) fileset number =
    if is_of fileset counter
    then record { fileset = fileset; number = number } ∷ counters
    else counter ∷ with_last counters fileset number

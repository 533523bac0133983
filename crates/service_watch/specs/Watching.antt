-- Stores that are watched.
use Rattle.std.specs.Prelude.{List, map}
use Rattle.service_watch.specs.declared.watched.Watched.{Watched}

-- the store that is watched
abbrev pub store_in : {S O : Type 0} {g : _} {h : _} → Watched S O g h → S
store_in watched = watched.store

abbrev pub stores_in : {S O : Type 0} {g : _} {h : _} → List (Watched S O g h) → List S
stores_in all = map store_in all

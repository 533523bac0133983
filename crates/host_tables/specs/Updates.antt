-- How tables change.
use Rattle.std.specs.Prelude.{ℕ, suc, zero, ◌+◌, ◌/◌, ◌%◌, ◌==◌, ◌&&◌, Bool, if◌then◌else◌, List, [], ◌∷◌, ◌++◌}
use Rattle.std.specs.Prelude.{map}
use Rattle.base_types.specs.Ids.{same_fid}
use Rattle.base_types.specs.Name.{same_name}
use Rattle.base_types.specs.declared.ids.Fid.{Fid}
use Rattle.base_types.specs.declared.ids.FilesetId.{FilesetId}
use Rattle.base_types.specs.declared.ids.ServerId.{ServerId}
use Rattle.host_tables.specs.Tables.{fresh_site, is_counter}
use Rattle.host_tables.specs.declared.calls.Home.{Home}
use Rattle.host_tables.specs.declared.files.Floor.{Floor}
use Rattle.host_tables.specs.declared.numbers.Changed.{Changed}
use Rattle.host_tables.specs.declared.numbers.Fetched.{Fetched}
use Rattle.host_tables.specs.declared.sites.Site.{Site}
pub use Rattle.host_lengths.specs.Giving.{is_given, known_by, put_by, with_given}

-- with this in place of the first that passes a test, where one does
abbrev pub set_by : {A : Type 0} → (A → Bool) → A → List A → List A
set_by test new [] = []
set_by test new (x ∷ xs) = if test x then new ∷ xs else x ∷ set_by test new xs

abbrev pub is_home : ServerId → List ℕ → Home → Bool
is_home server name home = (home.server.0 == server.0) && same_name home.name name

-- a name of a server leads to a fileset
abbrev pub with_home : ServerId → List ℕ → FilesetId → List Home → List Home
with_home server name id homes = put_by (is_home server name) (record { server = server; name = name; id = id }) homes

abbrev pub is_floor : Fid → Floor → Bool
is_floor fid floor = same_fid floor.fid fid

abbrev pub with_floor : Floor → List Floor → List Floor
with_floor floor floors = put_by (is_floor floor.fid) floor floors

abbrev pub is_fetched : FilesetId → Fetched → Bool
is_fetched fileset fetched = fetched.fileset.0 == fileset.0

-- this is the last number of the Fetches of a fileset, or of the Changes
abbrev pub with_fetch : FilesetId → ℕ → List Fetched → List Fetched
with_fetch fileset number fetched = put_by (is_fetched fileset) (record { fileset = fileset; number = number }) fetched

abbrev pub with_change : ServerId → FilesetId → ℕ → List Changed → List Changed
with_change server fileset number changed =
    put_by (is_counter server fileset) (record { server = server; fileset = fileset; number = number }) changed

abbrev pub is_site : ServerId → Site → Bool
is_site server site = site.server.0 == server.0

-- this is known of a server, where it is declared
abbrev pub with_site : Site → List Site → List Site
with_site site sites = set_by (is_site site.server) site sites

-- so many servers of which nothing is known, from the first on
abbrev pub fresh_sites : ℕ → List Site
fresh_sites zero = []
fresh_sites (suc n) = fresh_sites n ++ fresh_site (record { 0 = suc n }) ∷ []

-- the server whose number a fileset's begins with
abbrev pub home_at : FilesetId → ServerId
home_at fileset = record { 0 = fileset.0 / 65536 % 256 }

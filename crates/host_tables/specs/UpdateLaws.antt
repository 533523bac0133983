-- Laws that only the right updates of tables meet: what is read of a table once it has changed.
use Rattle.std.specs.Prelude.{◌≡◌, ◌<◌, ℕ, suc, ◌≤◌, Bool, true, ◌==◌, ◌&&◌, ◌||◌, if◌then◌else◌, List, Option, Some}
use Rattle.std.specs.List.{list_any}
use Rattle.std.specs.Option.{option_map}
use Rattle.base_types.specs.Ids.{same_fid}
use Rattle.base_types.specs.Name.{same_name}
use Rattle.base_types.specs.declared.ids.Fid.{Fid}
use Rattle.base_types.specs.declared.ids.FilesetId.{FilesetId}
use Rattle.base_types.specs.declared.ids.ServerId.{ServerId}
use Rattle.run_rules.specs.Messages.{home}
use Rattle.run_rules.specs.Steps.{bare}
use Rattle.base_types.specs.declared.ids.Node.{Node}
use Rattle.run_rules.specs.declared.step.Cause.{Cause}
use Rattle.host_tables.specs.Drafts.{no_draft, step_of}
use Rattle.host_tables.specs.Tables.{floor_of, fresh_site, home_of, last_change, last_fetch, length_given, site_at}
use Rattle.host_tables.specs.Updates.{fresh_sites, home_at, is_site, known_by, with_change, with_fetch}
use Rattle.host_tables.specs.Updates.{with_floor, with_given, with_home, with_site}
use Rattle.host_tables.specs.declared.calls.Home.{Home}
use Rattle.host_tables.specs.declared.files.Floor.{Floor}
use Rattle.host_lengths.specs.declared.given.Given.{Given}
use Rattle.host_tables.specs.declared.numbers.Changed.{Changed}
use Rattle.host_tables.specs.declared.numbers.Fetched.{Fetched}
use Rattle.host_tables.specs.declared.sites.Site.{Site}
use Rattle.std.specs.Prelude.{map, not}

-- what is read of a table afterwards: what was put, and all else as before
pub record ReadsAfter : Type 0 where
  pub homes : (homes : List Home) (server : ServerId) (name : List ℕ) (id : FilesetId)
      (at : ServerId) (other : List ℕ) → home_of (with_home server name id homes) at other
      ≡ (if (server.0 == at.0) && same_name name other then Some id else home_of homes at other)
  pub floors : (floors : List Floor) (floor : Floor) (fid : Fid) → floor_of (with_floor floor floors) fid
      ≡ (if same_fid floor.fid fid then floor.stamp else floor_of floors fid)
  pub lengths : (lengths : List Given) (given : Given) (fid : Fid) → length_given (with_given given lengths) fid
      ≡ (if same_fid given.fid fid then Some given else length_given lengths fid)
  pub known : (lengths : List Given) (fileset : FilesetId) (number : ℕ) (fid : Fid) →
      length_given (map (known_by fileset number) lengths) fid
      ≡ option_map (known_by fileset number) (length_given lengths fid)
  pub fetches : (fetched : List Fetched) (fileset : FilesetId) (number : ℕ) (other : FilesetId) →
      last_fetch (with_fetch fileset number fetched) other
      ≡ (if fileset.0 == other.0 then number else last_fetch fetched other)
  pub changes : (changed : List Changed) (server : ServerId) (fileset : FilesetId) (number : ℕ)
      (at : ServerId) (other : FilesetId) → last_change (with_change server fileset number changed) at other
      ≡ (if (fileset.0 == other.0) && (not (other.0 == 0) || (server.0 == at.0)) then number
      else last_change changed at other)
  pub sites : (sites : List Site) (site : Site) (server : ServerId) → site_at (with_site site sites) server
      ≡ (if (site.server.0 == server.0) && list_any (is_site site.server) sites then site else site_at sites server)
  pub fresh : (n : ℕ) (server : ServerId) → site_at (fresh_sites n) server ≡ fresh_site server
  pub declared : (n : ℕ) (server : ServerId) → 1 ≤ server.0 → server.0 ≤ n →
      list_any (is_site server) (fresh_sites n) ≡ true
  pub home_is : (fileset : FilesetId) → fileset.0 < 16777216 → home_at fileset ≡ home fileset
  pub bare_is : (node : Node) (cause : Cause) → step_of node cause no_draft ≡ bare node cause

-- A host at rest rests on where it learns of servers alone.
use Rattle.base_types.specs.declared.ids.Fid.{Fid}
use Rattle.host_tables.specs.Stands.{AsksFrom, CanReply, Finds, IsAtRest, IsWaiting}
use Rattle.host_tables.specs.Stands.IsWaiting.{ForDone, ForFile, ForGone, ForGrant, ForNeed, ForQuestion}
use Rattle.host_tables.specs.declared.files.Floor.{Floor}
use Rattle.host_tables.specs.declared.sites.Site.{Site}
use Rattle.host_tables.specs.declared.tables.Tables.{Tables}
use Rattle.run_rules.specs.declared.step.Step.{Step}
use Rattle.std.proofs.Common.{List, inl, inr}
use Rattle.tree_calls.specs.declared.call.Call.{Call}
use Rattle.tree_calls.specs.declared.place.Place.{Place as NamedPlace}

module _ (m : Tables) (sites : List Site) (floors : List Floor) (past : List Step) where
  abbrev n : Tables
  n = record m { sites = sites; floors = floors }

  waits_with : (call : Call) → IsWaiting m past call → IsWaiting n past call
  waits_with call (ForGrant f r) = ForGrant f r
  waits_with call (ForDone v c r) = ForDone v c r
  waits_with call (ForFile need lack g) = ForFile need lack g
  waits_with call (ForGone g covered verdict made unknown) = ForGone g covered verdict made unknown
  waits_with call (ForNeed need lack greeted unwelcome) = ForNeed need lack greeted unwelcome
  waits_with call (ForQuestion question fid asks greeted unwelcome) =
      ForQuestion question fid (asks_with asks) greeted unwelcome
    where
      asks_with : AsksFrom m call question fid → AsksFrom n call question fid
      asks_with (inl a) = inl a
      asks_with (inr a) = inr a

  finds_with : (place : NamedPlace) (fid : Fid) → Finds n place fid → Finds m place fid
  finds_with place fid f = record { id = f.id; nature = f.nature; seen = f.seen; covered = f.covered; found = f.found }

  reply_with : (call : Call) → CanReply n call → CanReply m call
  reply_with call c = record { covered = c.covered; reply = c.reply; settled = c.settled }

  pub rest_with : IsAtRest m past → IsAtRest n past
  rest_with rest = record {
    stuck = λ c e can. rest.stuck c e (reply_with c.call can);
    synced = λ c place fid t e is finds i at d. rest.synced c place fid t e is (finds_with place fid finds) i at d;
    freed = rest.freed;
    waits = λ c e. waits_with c.call (rest.waits c e);
    alone = rest.alone;
  }

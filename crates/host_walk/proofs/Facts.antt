-- What becomes of a Stat, once its object is found.
use Rattle.std.proofs.Common.{◌≡◌, ℕ, List, Result, Ok, refl}
use Rattle.base_types.specs.declared.ids.Fid.{Fid}
use Rattle.base_types.specs.declared.user.User.{User}
use Rattle.token_types.specs.Covers.{Covers}
use Rattle.token_types.specs.declared.token.Token.{Token}
use Rattle.std.specs.Prelude.{min}
use Rattle.tree_calls.specs.declared.reply.Facts.{Facts}
use Rattle.tree_laws.specs.Parts.{Nature}
use Rattle.tree_laws.specs.Parts.Part.{Size}
use Rattle.need_host.specs.Calls.{facts_for}
use Rattle.need_host.specs.Looks.{View, checked}
use Rattle.need_host.specs.Walks.{rights_on, target_look}
use Rattle.host_walk.specs.declared.sight.Stop.{Stop}
use Rattle.host_walk.specs.Trying.{Finds, IsStopped, status_need}
use Rattle.host_walk.proofs.Trying.{checked_on, stops_on}

module _ (held : List Token) (view : View) (user : User) (root : Fid) (path : List (List ℕ)) where
  pub stat_unfound : (stop : Stop) → IsStopped held view (target_look user root path) stop →
      IsStopped held view (checked (target_look user root path) (facts_for user)) stop
  stat_unfound stop h = stops_on held view (facts_for user) (target_look user root path) stop h

  pub stat_found : (fid : Fid) (nature : Nature) → Finds held view (target_look user root path) (fid, nature) →
      Covers held (status_need fid) →
      Finds held view (checked (target_look user root path) (facts_for user)) (record {
        dir = nature.dir;
        length = min (view fid Size) 4294967295;
        owner = nature.owner;
        rights = rights_on nature user;
      })
  stat_found fid nature found covered =
      (checked_on held view (facts_for user) (target_look user root path) (fid, nature) found).finds _
      (record { covered = (covered, tt); ends = refl })

-- Tokens leave, file by file: what is so of each way.
use Rattle.base_types.specs.declared.ids.FilesetId.{FilesetId}
use Rattle.host_gives.specs.Giving.{outstanding}
use Rattle.host_leaves.specs.Giving.{leaves_by}
use Rattle.host_leaves.specs.Sending.{message_to}
use Rattle.host_tables.specs.Drafts.{no_draft}
use Rattle.host_tables.specs.LeavingSteps.{Left}
use Rattle.host_tables.specs.Updates.{home_at}
use Rattle.host_tables.specs.declared.draft.Draft.{Draft}
use Rattle.host_tables.specs.declared.tables.Tables.{Tables}
use Rattle.message_types.specs.declared.giving.Give.{Give}
use Rattle.message_types.specs.declared.message.Body.TheVariants.{Returned}
use Rattle.message_types.specs.declared.message.Message.{Message}
use Rattle.message_types.specs.declared.tokens.Named.{Named}
use Rattle.run_rules.specs.Past.{EachOnce, In}
use Rattle.run_rules.specs.declared.applied.Why.{Why}
use Rattle.std.proofs.Common.{List, None, map}
use Rattle.std.proofs.Common.{◌≡◌}
use Rattle.token_types.specs.declared.token.Token.{Token}

-- a Returned names tokens of a file
abbrev pub returns : Tables → Named → Message
returns m w = message_to m (home_at w.fid.fileset) (Returned w)

-- Each of it stands once; and a fileset has to be seen to where none of its give-backs was outstanding.
pub record OnceSo (m : Tables) (gone : List Token) (made : List Give) (sent : List Message) (dues : List FilesetId)
    : Type 0 where
  pub tokens : EachOnce gone
  pub gives : EachOnce made
  pub messages : EachOnce sent
  pub filesets : EachOnce dues
  pub new : (fs : FilesetId) → In fs dues → outstanding m.gives fs ≡ None

-- a draft in which such has been done
abbrev pub start_by : Why → List Give → List Token → List Message → List FilesetId → Draft
start_by why made gone sent due =
    record no_draft { made = made; dropped = map (leaves_by why) gone; sent = sent; due = due }

-- before the first file
abbrev pub first_left : Tables → Left
first_left m = record {
  cache = m.cache;
  dirty = m.dirty;
  lengths = m.lengths;
  uses = m.uses;
  gives = m.gives;
  leaving = m.leaving;
  ending = m.ending;
}

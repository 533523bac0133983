-- What a host sends, by its tables.
use Rattle.std.specs.Prelude.{List, None, Option, Some, [], fold, if◌then◌else◌, ◌++◌, ◌==◌, ◌∷◌}
use Rattle.std.specs.List.{list_any}
use Rattle.std.specs.Option.{option_map_or}
use Rattle.base_types.specs.declared.ids.FilesetId.{FilesetId}
use Rattle.base_types.specs.declared.ids.ServerId.{ServerId}
use Rattle.host_gives.specs.Giving.{give_of, outstanding}
use Rattle.host_tables.specs.Tables.{site_at}
use Rattle.host_tables.specs.Updates.{home_at}
use Rattle.host_tables.specs.declared.calls.Request.{Request}
use Rattle.host_tables.specs.declared.calls.Request.TheVariants.{Change as AChange, Fetch as AFetch}
use Rattle.host_tables.specs.declared.draft.Draft.{Draft}
use Rattle.host_tables.specs.declared.tables.Tables.{Tables}
use Rattle.message_types.specs.declared.giving.Give.{Give}
use Rattle.message_types.specs.declared.message.Body.{Body}
use Rattle.message_types.specs.declared.message.Body.TheVariants.{Change, Fetch}
use Rattle.message_types.specs.declared.message.Direction.TheVariants.{ToServer}
use Rattle.message_types.specs.declared.message.Message.{Message}

-- a message to a server, in its present epoch
abbrev pub message_to : Tables → ServerId → Body → Message
message_to m server body = record {
  direction = ToServer;
  host = m.host;
  server = server;
  epoch = (site_at m.sites server).epoch;
  moves = 0;
  body = body;
}

-- a step says something to a server
abbrev pub saying : Tables → ServerId → Body → Draft → Draft
saying m server body draft = record draft { sent = draft.sent ++ message_to m server body ∷ [] }

-- the server that a request is for
abbrev pub asked_server : Option Request → Option ServerId
asked_server None = None
asked_server (Some (AFetch fetch)) = Some (home_at fetch.fid.fileset)
asked_server (Some (AChange server change)) = Some server

-- it sends a request
abbrev pub sending_request : Tables → Option Request → Draft → Draft
sending_request m None draft = draft
sending_request m (Some (AFetch fetch)) draft = saying m (home_at fetch.fid.fileset) (Fetch fetch) draft
sending_request m (Some (AChange server change)) draft = saying m server (Change change) draft

-- it sends the outstanding give-back of a fileset
abbrev pub sending_give : Tables → Draft → FilesetId → Draft
sending_give m draft fileset =
    option_map_or (λ message. saying m (home_at fileset) message.body draft) (outstanding m.gives fileset) draft

abbrev pub sending_due : Tables → Draft → Draft
sending_due m draft = fold (sending_give m) draft draft.due

-- with a fileset at the end, where it isn't there
abbrev pub with_once : List FilesetId → FilesetId → List FilesetId
with_once filesets fileset =
    if list_any (λ other. other.0 == fileset.0) filesets then filesets else filesets ++ fileset ∷ []

-- the filesets of give-backs, each once
abbrev pub with_fileset : List FilesetId → Message → List FilesetId
with_fileset filesets message =
    option_map_or (λ (give : Give). with_once filesets give.fid.fileset) (give_of message) filesets

abbrev pub filesets_given : List Message → List FilesetId
filesets_given gives = fold with_fileset [] gives

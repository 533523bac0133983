-- Ids, names, spans, tokens and needs.
use Rattle.std.specs.Prelude.{ℕ, List, Option, Some, None, codes}
use Rattle.json.specs.Json.{Json, boolean, string, object, no_members, member}
use Rattle.base_types.specs.declared.ids.Fid.{Fid}
use Rattle.base_types.specs.declared.ids.FilesetId.{FilesetId}
use Rattle.base_types.specs.declared.ids.HostId.{HostId}
use Rattle.base_types.specs.declared.ids.ServerId.{ServerId}
use Rattle.base_types.specs.declared.ids.OpenKind.{OpenKind}
use Rattle.base_types.specs.declared.ids.OpenKind.TheVariants.{Reading, Writing, Executing, Shared, Exclusive}
use Rattle.base_types.specs.declared.span.Span.{Span}
use Rattle.token_types.specs.declared.token.Kind.{Kind}
use Rattle.token_types.specs.declared.token.Kind.TheVariants.{Bytes, Status, Lock, Opening}
use Rattle.token_types.specs.declared.token.Need.{Need}
use Rattle.token_types.specs.declared.token.Token.{Token}
use Rattle.token_types.specs.declared.token.TokenId.{TokenId}
use Rattle.message_json.specs.Values.{whole, tagged}

abbrev pub host_json : HostId → Json
host_json host = whole host.0

abbrev pub server_json : ServerId → Json
server_json server = whole server.0

abbrev pub fileset_json : FilesetId → Json
fileset_json fileset = whole fileset.0

unfoldable pub fid_json : Fid → Json
fid_json fid = object
    (member (codes "fileset") (whole fid.fileset.0)
    (member (codes "anode") (whole fid.anode)
    (member (codes "unique") (whole fid.unique) no_members)))

unfoldable pub span_json : Span → Json
span_json span = object
    (member (codes "from") (whole span.from)
    (member (codes "to") (whole span.to) no_members))

unfoldable pub open_json : OpenKind → Json
open_json Reading = string (codes "reading")
open_json Writing = string (codes "writing")
open_json Executing = string (codes "executing")
open_json Shared = string (codes "shared")
open_json Exclusive = string (codes "exclusive")

unfoldable pub id_json : TokenId → Json
id_json id = object
    (member (codes "server") (whole id.server.0)
    (member (codes "epoch") (whole id.epoch)
    (member (codes "seq") (whole id.seq) no_members)))

unfoldable pub kind_json : Kind → Json
kind_json (Bytes update span) = tagged (codes "bytes") (object
    (member (codes "update") (boolean update)
    (member (codes "span") (span_json span) no_members)))
kind_json (Status update) = tagged (codes "status") (object
    (member (codes "update") (boolean update) no_members))
kind_json (Lock writing span) = tagged (codes "lock") (object
    (member (codes "writing") (boolean writing)
    (member (codes "span") (span_json span) no_members)))
kind_json (Opening kind) = tagged (codes "opening") (open_json kind)

unfoldable pub token_json : Token → Json
token_json token = object
    (member (codes "id") (id_json token.id)
    (member (codes "host") (whole token.host.0)
    (member (codes "fid") (fid_json token.fid)
    (member (codes "kind") (kind_json token.kind) no_members))))

unfoldable pub need_json : Need → Json
need_json need = object
    (member (codes "fid") (fid_json need.fid)
    (member (codes "kind") (kind_json need.kind) no_members))

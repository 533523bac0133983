-- Messages.
use Rattle.std.specs.Prelude.{codes}
use Rattle.json.specs.Json.{Json, boolean, string, object, no_members, member}
use Rattle.message_types.specs.declared.asking.Change.{Change}
use Rattle.message_types.specs.declared.asking.Fetch.{Fetch}
use Rattle.message_types.specs.declared.giving.AppliedGive.{AppliedGive}
use Rattle.message_types.specs.declared.giving.Ends.{Ends}
use Rattle.message_types.specs.declared.giving.Give.{Give}
use Rattle.message_types.specs.declared.giving.Outstanding.{Outstanding}
use Rattle.message_types.specs.declared.giving.Reclaim.{Reclaim}
use Rattle.message_types.specs.declared.giving.Reclaimed.{Reclaimed}
use Rattle.message_types.specs.declared.message.Body.{Body}
use Rattle.message_types.specs.declared.message.Body.TheVariants as bodies
use Rattle.message_types.specs.declared.message.Direction.{Direction}
use Rattle.message_types.specs.declared.message.Direction.TheVariants.{ToServer, ToHost, BetweenServers}
use Rattle.message_types.specs.declared.message.Message.{Message}
use Rattle.message_types.specs.declared.moving.NotHere.{NotHere}
use Rattle.message_types.specs.declared.moving.Ship.{Ship}
use Rattle.message_types.specs.declared.moving.Shipped.{Shipped}
use Rattle.message_types.specs.declared.telling.Bring.{Bring}
use Rattle.message_types.specs.declared.telling.Done.{Done}
use Rattle.message_types.specs.declared.telling.DoneIs.{DoneIs}
use Rattle.message_types.specs.declared.telling.DoneIs.TheVariants.{Reply as Replied, Known, Granted, Again, Elsewhere}
use Rattle.message_types.specs.declared.telling.Grant.{Grant}
use Rattle.message_types.specs.declared.tokens.Named.{Named}
use Rattle.message_types.specs.declared.tokens.Revoke.{Revoke}
use Rattle.message_json.specs.Calls.{call_json, reply_json}
use Rattle.message_json.specs.Objects.{entry_json, part_json, piece_json, status_json}
use Rattle.message_json.specs.Parts.{fid_json, id_json, need_json, token_json}
use Rattle.message_json.specs.Values.{whole, list, maybe, tagged}

unfoldable pub fetch_json : Fetch → Json
fetch_json fetch = object
    (member (codes "number") (whole fetch.number)
    (member (codes "fid") (fid_json fetch.fid)
    (member (codes "needs") (list need_json fetch.needs) no_members)))

unfoldable pub change_json : Change → Json
change_json change = object
    (member (codes "number") (whole change.number)
    (member (codes "fileset") (whole change.fileset.0)
    (member (codes "fid") (fid_json change.fid)
    (member (codes "enter") (boolean change.enter)
    (member (codes "k") (whole change.k)
    (member (codes "call") (call_json change.call) no_members))))))

unfoldable pub bring_json : Bring → Json
bring_json bring = object
    (member (codes "number") (whole bring.number)
    (member (codes "fid") (fid_json bring.fid)
    (member (codes "stamp") (whole bring.stamp)
    (member (codes "tokens") (list token_json bring.tokens) no_members))))

unfoldable pub grant_json : Grant → Json
grant_json grant = object
    (member (codes "bring") (bring_json grant.bring)
    (member (codes "status") (maybe status_json grant.status)
    (member (codes "pieces") (list piece_json grant.pieces)
    (member (codes "entries") (list entry_json grant.entries) no_members))))

unfoldable pub outcome_json : DoneIs → Json
outcome_json (Replied reply) = tagged (codes "reply") (reply_json reply)
outcome_json (Known fileset) = tagged (codes "known") (whole fileset.0)
outcome_json Granted = string (codes "granted")
outcome_json Again = string (codes "again")
outcome_json (Elsewhere server) = tagged (codes "elsewhere") (whole server.0)

unfoldable pub done_json : Done → Json
done_json done = object
    (member (codes "fileset") (whole done.fileset.0)
    (member (codes "outcome") (outcome_json done.outcome)
    (member (codes "bring") (bring_json done.bring) no_members)))

unfoldable pub revoke_json : Revoke → Json
revoke_json revoke = object
    (member (codes "fid") (fid_json revoke.fid)
    (member (codes "stamp") (whole revoke.stamp)
    (member (codes "ids") (list id_json revoke.ids) no_members)))

unfoldable pub named_json : Named → Json
named_json named = object
    (member (codes "fid") (fid_json named.fid)
    (member (codes "ids") (list id_json named.ids) no_members))

unfoldable pub ends_json : Ends → Json
ends_json ends = object
    (member (codes "k") (whole ends.k)
    (member (codes "call") (call_json ends.call) no_members))

unfoldable pub give_json : Give → Json
give_json give = object
    (member (codes "number") (whole give.number)
    (member (codes "fid") (fid_json give.fid)
    (member (codes "ids") (list id_json give.ids)
    (member (codes "pieces") (list piece_json give.pieces)
    (member (codes "length") (maybe whole give.length)
    (member (codes "ends") (maybe ends_json give.ends) no_members))))))

unfoldable pub applied_json : AppliedGive → Json
applied_json applied = object
    (member (codes "fileset") (whole applied.fileset.0)
    (member (codes "number") (whole applied.number) no_members))

unfoldable pub outstanding_json : Outstanding → Json
outstanding_json outstanding = object
    (member (codes "fileset") (whole outstanding.fileset.0)
    (member (codes "moves") (whole outstanding.moves)
    (member (codes "give") (whole outstanding.give)
    (member (codes "change") (whole outstanding.change) no_members))))

unfoldable pub reclaim_json : Reclaim → Json
reclaim_json reclaim = object
    (member (codes "tokens") (list token_json reclaim.tokens)
    (member (codes "numbers") (list outstanding_json reclaim.numbers) no_members))

unfoldable pub reclaimed_json : Reclaimed → Json
reclaimed_json reclaimed = object
    (member (codes "applied") (list applied_json reclaimed.applied)
    (member (codes "left_out") (list id_json reclaimed.left_out) no_members))

unfoldable pub not_here_json : NotHere → Json
not_here_json not_here = object
    (member (codes "fileset") (whole not_here.fileset.0)
    (member (codes "to") (whole not_here.to.0) no_members))

unfoldable pub ship_json : Ship → Json
ship_json ship = object
    (member (codes "to") (whole ship.to.0)
    (member (codes "ship") (whole ship.ship)
    (member (codes "fileset") (whole ship.fileset.0)
    (member (codes "at") (whole ship.at)
    (member (codes "part") (part_json ship.part) no_members)))))

unfoldable pub shipped_json : Shipped → Json
shipped_json shipped = object
    (member (codes "to") (whole shipped.to.0)
    (member (codes "ship") (whole shipped.ship)
    (member (codes "at") (whole shipped.at)
    (member (codes "reply") (reply_json shipped.reply) no_members))))

unfoldable pub body_json : Body → Json
body_json bodies.Hello = string (codes "hello")
body_json (bodies.Fetch fetch) = tagged (codes "fetch") (fetch_json fetch)
body_json (bodies.Grant grant) = tagged (codes "grant") (grant_json grant)
body_json (bodies.Change change) = tagged (codes "change") (change_json change)
body_json (bodies.Done done) = tagged (codes "done") (done_json done)
body_json (bodies.Revoke revoke) = tagged (codes "revoke") (revoke_json revoke)
body_json (bodies.Returned named) = tagged (codes "returned") (named_json named)
body_json (bodies.Kept named) = tagged (codes "kept") (named_json named)
body_json (bodies.GiveBack give) = tagged (codes "give_back") (give_json give)
body_json (bodies.Gone applied) = tagged (codes "gone") (applied_json applied)
body_json (bodies.Reclaim reclaim) = tagged (codes "reclaim") (reclaim_json reclaim)
body_json (bodies.Reclaimed reclaimed) = tagged (codes "reclaimed") (reclaimed_json reclaimed)
body_json bodies.Restarted = string (codes "restarted")
body_json bodies.Down = string (codes "down")
body_json bodies.Bye = string (codes "bye")
body_json (bodies.NotHere not_here) = tagged (codes "not_here") (not_here_json not_here)
body_json (bodies.Ship ship) = tagged (codes "ship") (ship_json ship)
body_json (bodies.Shipped shipped) = tagged (codes "shipped") (shipped_json shipped)

unfoldable pub direction_json : Direction → Json
direction_json ToServer = string (codes "to_server")
direction_json ToHost = string (codes "to_host")
direction_json BetweenServers = string (codes "between_servers")

unfoldable pub message_json : Message → Json
message_json message = object
    (member (codes "direction") (direction_json message.direction)
    (member (codes "host") (whole message.host.0)
    (member (codes "server") (whole message.server.0)
    (member (codes "epoch") (whole message.epoch)
    (member (codes "moves") (whole message.moves)
    (member (codes "body") (body_json message.body) no_members))))))

-- Messages, read back from JSON.
use Rattle.std.proofs.Common.{◌≡◌, refl, false, codes, if◌then◌else◌}
use Rattle.json.specs.Json.{Json}
use Rattle.message_json.specs.Messages.{
  applied_json,
  body_json,
  bring_json,
  change_json,
  direction_json,
  done_json,
  ends_json,
  fetch_json,
  give_json,
  grant_json,
  message_json,
  named_json,
  not_here_json,
  outcome_json,
  outstanding_json,
  reclaim_json,
  reclaimed_json,
  revoke_json,
  ship_json,
  shipped_json,
}
use Rattle.message_json.specs.Objects.{entry_json, piece_json, status_json}
use Rattle.message_json.specs.Parts.{id_json, need_json, token_json}
use Rattle.message_json.specs.Values.{tagged, whole}
use Rattle.message_types.specs.declared.asking.Change.{Change}
use Rattle.message_types.specs.declared.asking.Fetch.{Fetch}
use Rattle.message_types.specs.declared.giving.AppliedGive.{AppliedGive}
use Rattle.message_types.specs.declared.giving.Ends.{Ends}
use Rattle.message_types.specs.declared.giving.Give.{Give}
use Rattle.message_types.specs.declared.giving.Outstanding.{Outstanding}
use Rattle.message_types.specs.declared.giving.Reclaim.{Reclaim}
use Rattle.message_types.specs.declared.giving.Reclaimed.{Reclaimed}
use Rattle.message_types.specs.declared.message.Body.{Body}
use Rattle.message_types.specs.declared.message.Direction.{Direction}
use Rattle.message_types.specs.declared.message.Direction.TheVariants.{BetweenServers, ToHost, ToServer}
use Rattle.message_types.specs.declared.message.Message.{Message}
use Rattle.message_types.specs.declared.moving.NotHere.{NotHere}
use Rattle.message_types.specs.declared.moving.Ship.{Ship}
use Rattle.message_types.specs.declared.moving.Shipped.{Shipped}
use Rattle.message_types.specs.declared.telling.Bring.{Bring}
use Rattle.message_types.specs.declared.telling.Done.{Done}
use Rattle.message_types.specs.declared.telling.DoneIs.{DoneIs}
use Rattle.message_types.specs.declared.telling.Grant.{Grant}
use Rattle.message_types.specs.declared.tokens.Named.{Named}
use Rattle.message_types.specs.declared.tokens.Revoke.{Revoke}
use Rattle.run_reading.proofs.Calls.{call_is, call_of, reply_is, reply_of}
use Rattle.run_reading.proofs.Forms.{
  IsRead,
  flag_of,
  held,
  is_case,
  is_null,
  list_is,
  list_of,
  maybe_is,
  maybe_of,
  part,
  whole_is,
  whole_of,
  whole_some,
}
use Rattle.run_reading.proofs.Objects.{
  entry_is,
  entry_of,
  part_is,
  part_of,
  piece_is,
  piece_of,
  status_is,
  status_of,
  status_some,
}
use Rattle.run_reading.proofs.Parts.{fid_is, fid_of, id_is, id_of, need_is, need_of, token_is, token_of}
use Rattle.run_reading.specs.Messages.{
  IsWhole,
  TypedAppliedGive,
  TypedBody,
  TypedBring,
  TypedChange,
  TypedDirEntry,
  TypedDone,
  TypedDoneIs,
  TypedEnds,
  TypedFetch,
  TypedGive,
  TypedGrant,
  TypedMessage,
  TypedNamed,
  TypedNeed,
  TypedNotHere,
  TypedOutstanding,
  TypedPiece,
  TypedReclaim,
  TypedReclaimed,
  TypedRevoke,
  TypedShip,
  TypedShipped,
  TypedStatus,
  TypedToken,
  TypedTokenId,
}
use Rattle.message_types.specs.declared.message.Body.TheVariants as bodies
use Rattle.message_types.specs.declared.telling.DoneIs.TheVariants as outcomes

unfoldable pub fetch_of : Json → Fetch
fetch_of j = record {
  number = whole_of (part 0 j);
  fid = fid_of (part 1 j);
  needs = list_of need_of (part 2 j);
}

unfoldable pub change_of : Json → Change
change_of j = record {
  number = whole_of (part 0 j);
  fileset = record { 0 = whole_of (part 1 j) };
  fid = fid_of (part 2 j);
  enter = flag_of (part 3 j);
  k = whole_of (part 4 j);
  call = call_of (part 5 j);
}

unfoldable pub bring_of : Json → Bring
bring_of j = record {
  number = whole_of (part 0 j);
  fid = fid_of (part 1 j);
  stamp = whole_of (part 2 j);
  tokens = list_of token_of (part 3 j);
}

unfoldable pub grant_of : Json → Grant
grant_of j = record {
  bring = bring_of (part 0 j);
  status = maybe_of status_of (part 1 j);
  pieces = list_of piece_of (part 2 j);
  entries = list_of entry_of (part 3 j);
}

unfoldable pub outcome_of : Json → DoneIs
outcome_of j =
    if is_case (codes "reply") j then outcomes.Reply (reply_of (held j)) else
    if is_case (codes "known") j then outcomes.Known (record { 0 = whole_of (held j) }) else
    if is_case (codes "granted") j then outcomes.Granted else
    if is_case (codes "again") j then outcomes.Again else
    outcomes.Elsewhere (record { 0 = whole_of (held j) })

unfoldable pub done_of : Json → Done
done_of j = record {
  fileset = record { 0 = whole_of (part 0 j) };
  outcome = outcome_of (part 1 j);
  bring = bring_of (part 2 j);
}

unfoldable pub revoke_of : Json → Revoke
revoke_of j = record {
  fid = fid_of (part 0 j);
  stamp = whole_of (part 1 j);
  ids = list_of id_of (part 2 j);
}

unfoldable pub named_of : Json → Named
named_of j = record {
  fid = fid_of (part 0 j);
  ids = list_of id_of (part 1 j);
}

unfoldable pub ends_of : Json → Ends
ends_of j = record {
  k = whole_of (part 0 j);
  call = call_of (part 1 j);
}

unfoldable pub give_of : Json → Give
give_of j = record {
  number = whole_of (part 0 j);
  fid = fid_of (part 1 j);
  ids = list_of id_of (part 2 j);
  pieces = list_of piece_of (part 3 j);
  length = maybe_of whole_of (part 4 j);
  ends = maybe_of ends_of (part 5 j);
}

unfoldable pub applied_of : Json → AppliedGive
applied_of j = record {
  fileset = record { 0 = whole_of (part 0 j) };
  number = whole_of (part 1 j);
}

unfoldable pub outstanding_of : Json → Outstanding
outstanding_of j = record {
  fileset = record { 0 = whole_of (part 0 j) };
  moves = whole_of (part 1 j);
  give = whole_of (part 2 j);
  change = whole_of (part 3 j);
}

unfoldable pub reclaim_of : Json → Reclaim
reclaim_of j = record {
  tokens = list_of token_of (part 0 j);
  numbers = list_of outstanding_of (part 1 j);
}

unfoldable pub reclaimed_of : Json → Reclaimed
reclaimed_of j = record {
  applied = list_of applied_of (part 0 j);
  left_out = list_of id_of (part 1 j);
}

unfoldable pub not_here_of : Json → NotHere
not_here_of j = record {
  fileset = record { 0 = whole_of (part 0 j) };
  to = record { 0 = whole_of (part 1 j) };
}

unfoldable pub ship_of : Json → Ship
ship_of j = record {
  to = record { 0 = whole_of (part 0 j) };
  ship = whole_of (part 1 j);
  fileset = record { 0 = whole_of (part 2 j) };
  at = whole_of (part 3 j);
  part = part_of (part 4 j);
}

unfoldable pub shipped_of : Json → Shipped
shipped_of j = record {
  to = record { 0 = whole_of (part 0 j) };
  ship = whole_of (part 1 j);
  at = whole_of (part 2 j);
  reply = reply_of (part 3 j);
}

unfoldable pub body_of : Json → Body
body_of j =
    if is_case (codes "hello") j then bodies.Hello else
    if is_case (codes "fetch") j then bodies.Fetch (fetch_of (held j)) else
    if is_case (codes "grant") j then bodies.Grant (grant_of (held j)) else
    if is_case (codes "change") j then bodies.Change (change_of (held j)) else
    if is_case (codes "done") j then bodies.Done (done_of (held j)) else
    if is_case (codes "revoke") j then bodies.Revoke (revoke_of (held j)) else
    if is_case (codes "returned") j then bodies.Returned (named_of (held j)) else
    if is_case (codes "kept") j then bodies.Kept (named_of (held j)) else
    if is_case (codes "give_back") j then bodies.GiveBack (give_of (held j)) else
    if is_case (codes "gone") j then bodies.Gone (applied_of (held j)) else
    if is_case (codes "reclaim") j then bodies.Reclaim (reclaim_of (held j)) else
    if is_case (codes "reclaimed") j then bodies.Reclaimed (reclaimed_of (held j)) else
    if is_case (codes "restarted") j then bodies.Restarted else
    if is_case (codes "down") j then bodies.Down else
    if is_case (codes "bye") j then bodies.Bye else
    if is_case (codes "not_here") j then bodies.NotHere (not_here_of (held j)) else
    if is_case (codes "ship") j then bodies.Ship (ship_of (held j)) else
    bodies.Shipped (shipped_of (held j))

unfoldable pub direction_of : Json → Direction
direction_of j =
    if is_case (codes "to_server") j then ToServer else
    if is_case (codes "to_host") j then ToHost else
    BetweenServers

unfoldable pub message_of : Json → Message
message_of j = record {
  direction = direction_of (part 0 j);
  host = record { 0 = whole_of (part 1 j) };
  server = record { 0 = whole_of (part 2 j) };
  epoch = whole_of (part 3 j);
  moves = whole_of (part 4 j);
  body = body_of (part 5 j);
}

pub fetch_is : (x : Fetch) → TypedFetch x → IsRead fetch_of fetch_json x
unfolding fetch_json fetch_of
fetch_is x t =
    let a0 = whole_is x.number t.0 in
    let a1 = fid_is x.fid t.1 in
    let a2 = list_is TypedNeed need_of need_json need_is x.needs t.2 in
    (rw (a0.0, a1.0, a2.0), (a0.1, (a1.1, (a2.1, tt))))

pub change_is : (x : Change) → TypedChange x → IsRead change_of change_json x
unfolding change_json change_of
change_is x t =
    let a0 = whole_is x.number t.0 in
    let a1 = whole_is x.fileset.0 t.1 in
    let a2 = fid_is x.fid t.2 in
    let a4 = whole_is x.k t.3 in
    let a5 = call_is x.call t.4 in
    (rw (a0.0, a1.0, a2.0, a4.0, a5.0), (a0.1, (a1.1, (a2.1, (tt, (a4.1, (a5.1, tt)))))))

pub bring_is : (x : Bring) → TypedBring x → IsRead bring_of bring_json x
unfolding bring_json bring_of
bring_is x t =
    let a0 = whole_is x.number t.0 in
    let a1 = fid_is x.fid t.1 in
    let a2 = whole_is x.stamp t.2 in
    let a3 = list_is TypedToken token_of token_json token_is x.tokens t.3 in
    (rw (a0.0, a1.0, a2.0, a3.0), (a0.1, (a1.1, (a2.1, (a3.1, tt)))))

pub grant_is : (x : Grant) → TypedGrant x → IsRead grant_of grant_json x
unfolding grant_json grant_of
grant_is x t =
    let a0 = bring_is x.bring t.0 in
    let a1 = maybe_is TypedStatus status_of status_json status_is status_some x.status t.1 in
    let a2 = list_is TypedPiece piece_of piece_json piece_is x.pieces t.2 in
    let a3 = list_is TypedDirEntry entry_of entry_json entry_is x.entries t.3 in
    (rw (a0.0, a1.0, a2.0, a3.0), (a0.1, (a1.1, (a2.1, (a3.1, tt)))))

pub outcome_is : (x : DoneIs) → TypedDoneIs x → IsRead outcome_of outcome_json x
unfolding tagged outcome_json outcome_of
outcome_is (outcomes.Reply it) t =
    let a0 = reply_is it t in
    (rw a0.0, (a0.1, tt))
outcome_is (outcomes.Known it) t =
    let a0 = whole_is it.0 t in
    (rw a0.0, (a0.1, tt))
outcome_is outcomes.Granted t = (refl, tt)
outcome_is outcomes.Again t = (refl, tt)
outcome_is (outcomes.Elsewhere it) t =
    let a0 = whole_is it.0 t in
    (rw a0.0, (a0.1, tt))

pub done_is : (x : Done) → TypedDone x → IsRead done_of done_json x
unfolding done_json done_of
done_is x t =
    let a0 = whole_is x.fileset.0 t.0 in
    let a1 = outcome_is x.outcome t.1 in
    let a2 = bring_is x.bring t.2 in
    (rw (a0.0, a1.0, a2.0), (a0.1, (a1.1, (a2.1, tt))))

pub revoke_is : (x : Revoke) → TypedRevoke x → IsRead revoke_of revoke_json x
unfolding revoke_json revoke_of
revoke_is x t =
    let a0 = fid_is x.fid t.0 in
    let a1 = whole_is x.stamp t.1 in
    let a2 = list_is TypedTokenId id_of id_json id_is x.ids t.2 in
    (rw (a0.0, a1.0, a2.0), (a0.1, (a1.1, (a2.1, tt))))

pub named_is : (x : Named) → TypedNamed x → IsRead named_of named_json x
unfolding named_json named_of
named_is x t =
    let a0 = fid_is x.fid t.0 in
    let a1 = list_is TypedTokenId id_of id_json id_is x.ids t.1 in
    (rw (a0.0, a1.0), (a0.1, (a1.1, tt)))

pub ends_is : (x : Ends) → TypedEnds x → IsRead ends_of ends_json x
unfolding ends_json ends_of
ends_is x t =
    let a0 = whole_is x.k t.0 in
    let a1 = call_is x.call t.1 in
    (rw (a0.0, a1.0), (a0.1, (a1.1, tt)))

pub ends_some : (x : Ends) → is_null (ends_json x) ≡ false
unfolding ends_json
ends_some x = refl

pub give_is : (x : Give) → TypedGive x → IsRead give_of give_json x
unfolding give_json give_of
give_is x t =
    let a0 = whole_is x.number t.0 in
    let a1 = fid_is x.fid t.1 in
    let a2 = list_is TypedTokenId id_of id_json id_is x.ids t.2 in
    let a3 = list_is TypedPiece piece_of piece_json piece_is x.pieces t.3 in
    let a4 = maybe_is IsWhole whole_of whole whole_is whole_some x.length t.4 in
    let a5 = maybe_is TypedEnds ends_of ends_json ends_is ends_some x.ends t.5 in
    (rw (a0.0, a1.0, a2.0, a3.0, a4.0, a5.0), (a0.1, (a1.1, (a2.1, (a3.1, (a4.1, (a5.1, tt)))))))

pub applied_is : (x : AppliedGive) → TypedAppliedGive x → IsRead applied_of applied_json x
unfolding applied_json applied_of
applied_is x t =
    let a0 = whole_is x.fileset.0 t.0 in
    let a1 = whole_is x.number t.1 in
    (rw (a0.0, a1.0), (a0.1, (a1.1, tt)))

pub outstanding_is : (x : Outstanding) → TypedOutstanding x → IsRead outstanding_of outstanding_json x
unfolding outstanding_json outstanding_of
outstanding_is x t =
    let a0 = whole_is x.fileset.0 t.0 in
    let a1 = whole_is x.moves t.1 in
    let a2 = whole_is x.give t.2 in
    let a3 = whole_is x.change t.3 in
    (rw (a0.0, a1.0, a2.0, a3.0), (a0.1, (a1.1, (a2.1, (a3.1, tt)))))

pub reclaim_is : (x : Reclaim) → TypedReclaim x → IsRead reclaim_of reclaim_json x
unfolding reclaim_json reclaim_of
reclaim_is x t =
    let a0 = list_is TypedToken token_of token_json token_is x.tokens t.0 in
    let a1 = list_is TypedOutstanding outstanding_of outstanding_json outstanding_is x.numbers t.1 in
    (rw (a0.0, a1.0), (a0.1, (a1.1, tt)))

pub reclaimed_is : (x : Reclaimed) → TypedReclaimed x → IsRead reclaimed_of reclaimed_json x
unfolding reclaimed_json reclaimed_of
reclaimed_is x t =
    let a0 = list_is TypedAppliedGive applied_of applied_json applied_is x.applied t.0 in
    let a1 = list_is TypedTokenId id_of id_json id_is x.left_out t.1 in
    (rw (a0.0, a1.0), (a0.1, (a1.1, tt)))

pub not_here_is : (x : NotHere) → TypedNotHere x → IsRead not_here_of not_here_json x
unfolding not_here_json not_here_of
not_here_is x t =
    let a0 = whole_is x.fileset.0 t.0 in
    let a1 = whole_is x.to.0 t.1 in
    (rw (a0.0, a1.0), (a0.1, (a1.1, tt)))

pub ship_is : (x : Ship) → TypedShip x → IsRead ship_of ship_json x
unfolding ship_json ship_of
ship_is x t =
    let a0 = whole_is x.to.0 t.0 in
    let a1 = whole_is x.ship t.1 in
    let a2 = whole_is x.fileset.0 t.2 in
    let a3 = whole_is x.at t.3 in
    let a4 = part_is x.part t.4 in
    (rw (a0.0, a1.0, a2.0, a3.0, a4.0), (a0.1, (a1.1, (a2.1, (a3.1, (a4.1, tt))))))

pub shipped_is : (x : Shipped) → TypedShipped x → IsRead shipped_of shipped_json x
unfolding shipped_json shipped_of
shipped_is x t =
    let a0 = whole_is x.to.0 t.0 in
    let a1 = whole_is x.ship t.1 in
    let a2 = whole_is x.at t.2 in
    let a3 = reply_is x.reply t.3 in
    (rw (a0.0, a1.0, a2.0, a3.0), (a0.1, (a1.1, (a2.1, (a3.1, tt)))))

pub body_is : (x : Body) → TypedBody x → IsRead body_of body_json x
unfolding tagged body_json body_of
body_is bodies.Hello t = (refl, tt)
body_is (bodies.Fetch it) t =
    let a0 = fetch_is it t in
    (rw a0.0, (a0.1, tt))
body_is (bodies.Grant it) t =
    let a0 = grant_is it t in
    (rw a0.0, (a0.1, tt))
body_is (bodies.Change it) t =
    let a0 = change_is it t in
    (rw a0.0, (a0.1, tt))
body_is (bodies.Done it) t =
    let a0 = done_is it t in
    (rw a0.0, (a0.1, tt))
body_is (bodies.Revoke it) t =
    let a0 = revoke_is it t in
    (rw a0.0, (a0.1, tt))
body_is (bodies.Returned it) t =
    let a0 = named_is it t in
    (rw a0.0, (a0.1, tt))
body_is (bodies.Kept it) t =
    let a0 = named_is it t in
    (rw a0.0, (a0.1, tt))
body_is (bodies.GiveBack it) t =
    let a0 = give_is it t in
    (rw a0.0, (a0.1, tt))
body_is (bodies.Gone it) t =
    let a0 = applied_is it t in
    (rw a0.0, (a0.1, tt))
body_is (bodies.Reclaim it) t =
    let a0 = reclaim_is it t in
    (rw a0.0, (a0.1, tt))
body_is (bodies.Reclaimed it) t =
    let a0 = reclaimed_is it t in
    (rw a0.0, (a0.1, tt))
body_is bodies.Restarted t = (refl, tt)
body_is bodies.Down t = (refl, tt)
body_is bodies.Bye t = (refl, tt)
body_is (bodies.NotHere it) t =
    let a0 = not_here_is it t in
    (rw a0.0, (a0.1, tt))
body_is (bodies.Ship it) t =
    let a0 = ship_is it t in
    (rw a0.0, (a0.1, tt))
body_is (bodies.Shipped it) t =
    let a0 = shipped_is it t in
    (rw a0.0, (a0.1, tt))

pub direction_is : (x : Direction) → IsRead direction_of direction_json x
unfolding tagged direction_json direction_of
direction_is ToServer = (refl, tt)
direction_is ToHost = (refl, tt)
direction_is BetweenServers = (refl, tt)

pub message_is : (x : Message) → TypedMessage x → IsRead message_of message_json x
unfolding message_json message_of
message_is x t =
    let a0 = direction_is x.direction in
    let a1 = whole_is x.host.0 t.0 in
    let a2 = whole_is x.server.0 t.1 in
    let a3 = whole_is x.epoch t.2 in
    let a4 = whole_is x.moves t.3 in
    let a5 = body_is x.body t.4 in
    (rw (a0.0, a1.0, a2.0, a3.0, a4.0, a5.0), (a0.1, (a1.1, (a2.1, (a3.1, (a4.1, (a5.1, tt)))))))

-- Steps as JSON. The names of members are those of the fields.
use Rattle.std.specs.Prelude.{ℕ, Bool, List, Option, codes}
use Rattle.json.specs.Json.{Json, boolean, string, object, Members, no_members, member}
use Rattle.base_types.specs.declared.ids.Fid.{Fid}
use Rattle.base_types.specs.declared.ids.FilesetId.{FilesetId}
use Rattle.base_types.specs.declared.ids.HostId.{HostId}
use Rattle.base_types.specs.declared.ids.Node.{Node}
use Rattle.base_types.specs.declared.ids.Node.TheVariants.{Host, Server}
use Rattle.base_types.specs.declared.ids.ServerId.{ServerId}
use Rattle.base_types.specs.declared.span.Span.{Span}
use Rattle.tree_calls.specs.declared.ship.Mover.{Mover}
use Rattle.run_rules.specs.declared.applied.Admission.{Admission}
use Rattle.run_rules.specs.declared.applied.Answer.{Answer}
use Rattle.run_rules.specs.declared.applied.Applied.{Applied}
use Rattle.run_rules.specs.declared.applied.Applied.TheVariants.{Stored, Replied, IsDown, Wants, Done, Moves}
use Rattle.run_rules.specs.declared.applied.Head.{Head}
use Rattle.run_rules.specs.declared.applied.Leave.{Leave}
use Rattle.run_rules.specs.declared.applied.Move.{Move}
use Rattle.run_rules.specs.declared.applied.Move.TheVariants.{Leaves, Arrives, Part, Back, Left}
use Rattle.run_rules.specs.declared.applied.Request.{Request}
use Rattle.run_rules.specs.declared.applied.Request.TheVariants.{Fetch, Change}
use Rattle.run_rules.specs.declared.applied.Wanted.{Wanted}
use Rattle.run_rules.specs.declared.applied.Why.{Why}
use Rattle.run_rules.specs.declared.applied.Why.TheVariants.{Revoked, Evicted, ForCall, Ended, Stopped}
use Rattle.run_rules.specs.declared.applied.Written.{Written}
use Rattle.run_rules.specs.declared.step.Asked.{Asked}
use Rattle.run_rules.specs.declared.step.Cause.{Cause}
use Rattle.run_rules.specs.declared.step.Cause.TheVariants.{Line, Restart, Message, Lapse, Evict, End, Flushed, Freight}
use Rattle.run_rules.specs.declared.step.Labelled.{Labelled}
use Rattle.run_rules.specs.declared.step.Step.{Step}
use Rattle.message_json.specs.Calls.{call_json, reply_json}
use Rattle.message_json.specs.Messages.{change_json, fetch_json, give_json, message_json, ship_json}
use Rattle.message_json.specs.Objects.{mover_json}
use Rattle.message_json.specs.Parts.{fid_json, need_json, span_json, token_json}
use Rattle.message_json.specs.Values.{whole, letters, list, maybe, tagged}

unfoldable pub node_json : Node → Json
node_json (Host host) = tagged (codes "host") (whole host.0)
node_json (Server server) = tagged (codes "server") (whole server.0)

unfoldable pub cause_json : Cause → Json
cause_json (Line number) = tagged (codes "line") (whole number)
cause_json (Restart number) = tagged (codes "restart") (whole number)
cause_json (Message message) = tagged (codes "message") (message_json message)
cause_json Lapse = string (codes "lapse")
cause_json Evict = string (codes "evict")
cause_json End = string (codes "end")
cause_json Flushed = string (codes "flushed")
cause_json (Freight message) = tagged (codes "freight") (message_json message)

unfoldable pub asked_json : Asked → Json
asked_json asked = object
    (member (codes "k") (whole asked.k)
    (member (codes "call") (call_json asked.call) no_members))

unfoldable pub answer_json : Answer → Json
answer_json answer = object
    (member (codes "host") (whole answer.host.0)
    (member (codes "k") (whole answer.k)
    (member (codes "call") (call_json answer.call)
    (member (codes "reply") (reply_json answer.reply)
    (member (codes "first") (boolean answer.first) no_members)))))

unfoldable pub labelled_json : Labelled → Json
labelled_json labelled = object
    (member (codes "label") (letters labelled.label)
    (member (codes "token") (token_json labelled.token) no_members))

unfoldable pub why_json : Why → Json
why_json Revoked = string (codes "revoked")
why_json Evicted = string (codes "evicted")
why_json ForCall = string (codes "for_call")
why_json Ended = string (codes "ended")
why_json Stopped = string (codes "stopped")

unfoldable pub leave_json : Leave → Json
leave_json leave = object
    (member (codes "token") (token_json leave.token)
    (member (codes "why") (why_json leave.why) no_members))

unfoldable pub request_json : Request → Json
request_json (Fetch fetch) = tagged (codes "fetch") (fetch_json fetch)
request_json (Change change) = tagged (codes "change") (change_json change)

unfoldable pub wanted_json : Wanted → Json
wanted_json wanted = object
    (member (codes "host") (whole wanted.host.0)
    (member (codes "request") (request_json wanted.request)
    (member (codes "moves") (whole wanted.moves)
    (member (codes "needs") (list need_json wanted.needs) no_members))))

unfoldable pub written_json : Written → Json
written_json written = object
    (member (codes "fileset") (whole written.fileset.0)
    (member (codes "number") (whole written.number)
    (member (codes "answer") (answer_json written.answer) no_members)))

-- what became kept of a host's give-back
abbrev pub stored_json : HostId → Fid → List Span → Option ℕ → Json
stored_json host fid spans len = tagged (codes "stored") (object
    (member (codes "host") (whole host.0)
    (member (codes "fid") (fid_json fid)
    (member (codes "spans") (list span_json spans)
    (member (codes "length") (maybe whole len) no_members)))))

unfoldable pub head_json : Head → Json
head_json head = object
    (member (codes "from") (whole head.from.0)
    (member (codes "moves") (whole head.moves)
    (member (codes "ship") (ship_json head.ship)
    (member (codes "written") (written_json head.written) no_members))))

-- a fileset that begins to leave
abbrev pub leaves_json : FilesetId → ServerId → ℕ → Mover → Json
leaves_json fileset to ship mover = tagged (codes "leaves") (object
    (member (codes "fileset") (whole fileset.0)
    (member (codes "to") (whole to.0)
    (member (codes "ship") (whole ship)
    (member (codes "mover") (mover_json mover) no_members)))))

-- a part of one
abbrev pub part_json : FilesetId → Bool → Json
part_json fileset last = tagged (codes "part") (object
    (member (codes "fileset") (whole fileset.0)
    (member (codes "last") (boolean last) no_members)))

-- one that has left
abbrev pub left_json : FilesetId → ServerId → Json
left_json fileset to = tagged (codes "left") (object
    (member (codes "fileset") (whole fileset.0)
    (member (codes "to") (whole to.0) no_members)))

unfoldable pub move_json : Move → Json
move_json (Leaves fileset to ship mover) = leaves_json fileset to ship mover
move_json (Arrives head) = tagged (codes "arrives") (head_json head)
move_json (Part fileset last) = part_json fileset last
move_json (Back written) = tagged (codes "back") (written_json written)
move_json (Left fileset to) = left_json fileset to

unfoldable pub applied_json : Applied → Json
applied_json (Stored host fid spans len) = stored_json host fid spans len
applied_json (Replied answer) = tagged (codes "replied") (answer_json answer)
applied_json (IsDown host) = tagged (codes "is_down") (whole host.0)
applied_json (Wants wanted) = tagged (codes "wants") (wanted_json wanted)
applied_json (Done written) = tagged (codes "done") (written_json written)
applied_json (Moves of) = tagged (codes "moves") (move_json of)

unfoldable pub admission_json : Admission → Json
admission_json admission = object
    (member (codes "host") (whole admission.host.0)
    (member (codes "tokens") (list token_json admission.tokens) no_members))

-- what a server did of a step, and what was sent
unfoldable pub done_members : Step → Members
done_members step =
    member (codes "applied") (list applied_json step.applied)
    (member (codes "admitted") (list admission_json step.admitted)
    (member (codes "sent") (list message_json step.sent)
    (member (codes "shipped") (list message_json step.shipped)
    (member (codes "reserved") (list token_json step.reserved) no_members))))

-- before it what a host began to use, gave back and let go of
unfoldable pub given_members : Step → Members
given_members step =
    member (codes "begun") (list labelled_json step.begun)
    (member (codes "made") (list give_json step.made)
    (member (codes "dropped") (list leave_json step.dropped) (done_members step)))

-- and before it what a host took, answered and wrote
unfoldable pub held_members : Step → Members
held_members step =
    member (codes "taken") (list token_json step.taken)
    (member (codes "answers") (list answer_json step.answers)
    (member (codes "wrote") (maybe fid_json step.wrote) (given_members step)))

unfoldable pub step_json : Step → Json
step_json step = object
    (member (codes "node") (node_json step.node)
    (member (codes "cause") (cause_json step.cause)
    (member (codes "asked") (maybe asked_json step.asked) (held_members step))))

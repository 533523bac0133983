-- Steps, read back from JSON.
use Rattle.std.proofs.Common.{◌≡◌, refl, false, codes, if◌then◌else◌}
use Rattle.base_types.specs.declared.ids.Node.{Node}
use Rattle.base_types.specs.declared.ids.Node.TheVariants.{Host, Server}
use Rattle.json.specs.Json.{Json}
use Rattle.message_json.specs.Messages.{give_json, message_json}
use Rattle.message_json.specs.Parts.{fid_json, need_json, span_json, token_json}
use Rattle.message_json.specs.Values.{tagged, whole}
use Rattle.run_journal.specs.Steps.{
  admission_json,
  answer_json,
  applied_json,
  asked_json,
  cause_json,
  done_members,
  given_members,
  head_json,
  held_members,
  labelled_json,
  leave_json,
  move_json,
  node_json,
  request_json,
  step_json,
  wanted_json,
  why_json,
  written_json,
}
use Rattle.run_reading.proofs.Calls.{call_is, call_of, reply_is, reply_of}
use Rattle.run_reading.proofs.Forms.{
  IsRead,
  all_is,
  flag_of,
  held,
  is_case,
  is_null,
  letters_is,
  letters_of,
  list_is,
  list_of,
  maybe_is,
  maybe_of,
  part,
  span_is,
  span_of,
  whole_is,
  whole_of,
  whole_some,
}
use Rattle.run_reading.proofs.Messages.{
  change_is,
  change_of,
  fetch_is,
  fetch_of,
  give_is,
  give_of,
  message_is,
  message_of,
  ship_is,
  ship_of,
}
use Rattle.run_reading.proofs.Objects.{mover_is, mover_of}
use Rattle.run_reading.proofs.Parts.{fid_is, fid_of, fid_some, need_is, need_of, token_is, token_of}
use Rattle.run_reading.specs.Journals.{
  TypedAdmission,
  TypedAnswer,
  TypedApplied,
  TypedAsked,
  TypedCause,
  TypedHead,
  TypedLabelled,
  TypedLeave,
  TypedMove,
  TypedNode,
  TypedRequest,
  TypedStep,
  TypedWanted,
  TypedWritten,
}
use Rattle.run_reading.specs.Messages.{IsWhole, TypedFid, TypedGive, TypedMessage, TypedNeed, TypedToken}
use Rattle.run_rules.specs.declared.applied.Admission.{Admission}
use Rattle.run_rules.specs.declared.applied.Answer.{Answer}
use Rattle.run_rules.specs.declared.applied.Applied.{Applied}
use Rattle.run_rules.specs.declared.applied.Applied.TheVariants.{Done, IsDown, Moves, Replied, Stored, Wants}
use Rattle.run_rules.specs.declared.applied.Head.{Head}
use Rattle.run_rules.specs.declared.applied.Leave.{Leave}
use Rattle.run_rules.specs.declared.applied.Move.{Move}
use Rattle.run_rules.specs.declared.applied.Move.TheVariants as moves
use Rattle.run_rules.specs.declared.applied.Request.{Request}
use Rattle.run_rules.specs.declared.applied.Wanted.{Wanted}
use Rattle.run_rules.specs.declared.applied.Why.{Why}
use Rattle.run_rules.specs.declared.applied.Why.TheVariants.{Ended, Evicted, ForCall, Revoked, Stopped}
use Rattle.run_rules.specs.declared.applied.Written.{Written}
use Rattle.run_rules.specs.declared.step.Asked.{Asked}
use Rattle.run_rules.specs.declared.step.Cause.{Cause}
use Rattle.run_rules.specs.declared.step.Labelled.{Labelled}
use Rattle.run_rules.specs.declared.step.Step.{Step}
use Rattle.run_rules.specs.declared.step.Cause.TheVariants as causes
use Rattle.run_rules.specs.declared.applied.Request.TheVariants as requests

unfoldable pub node_of : Json → Node
node_of j =
    if is_case (codes "host") j then Host (record { 0 = whole_of (held j) }) else
    Server (record { 0 = whole_of (held j) })

unfoldable pub cause_of : Json → Cause
cause_of j =
    if is_case (codes "line") j then causes.Line (whole_of (held j)) else
    if is_case (codes "restart") j then causes.Restart (whole_of (held j)) else
    if is_case (codes "message") j then causes.Message (message_of (held j)) else
    if is_case (codes "lapse") j then causes.Lapse else
    if is_case (codes "evict") j then causes.Evict else
    if is_case (codes "end") j then causes.End else
    if is_case (codes "flushed") j then causes.Flushed else
    causes.Freight (message_of (held j))

unfoldable pub asked_of : Json → Asked
asked_of j = record {
  k = whole_of (part 0 j);
  call = call_of (part 1 j);
}

unfoldable pub answer_of : Json → Answer
answer_of j = record {
  host = record { 0 = whole_of (part 0 j) };
  k = whole_of (part 1 j);
  call = call_of (part 2 j);
  reply = reply_of (part 3 j);
  first = flag_of (part 4 j);
}

unfoldable pub labelled_of : Json → Labelled
labelled_of j = record {
  label = letters_of (part 0 j);
  token = token_of (part 1 j);
}

unfoldable pub why_of : Json → Why
why_of j =
    if is_case (codes "revoked") j then Revoked else
    if is_case (codes "evicted") j then Evicted else
    if is_case (codes "for_call") j then ForCall else
    if is_case (codes "ended") j then Ended else
    Stopped

unfoldable pub leave_of : Json → Leave
leave_of j = record {
  token = token_of (part 0 j);
  why = why_of (part 1 j);
}

unfoldable pub request_of : Json → Request
request_of j =
    if is_case (codes "fetch") j then requests.Fetch (fetch_of (held j)) else
    requests.Change (change_of (held j))

unfoldable pub wanted_of : Json → Wanted
wanted_of j = record {
  host = record { 0 = whole_of (part 0 j) };
  request = request_of (part 1 j);
  moves = whole_of (part 2 j);
  needs = list_of need_of (part 3 j);
}

unfoldable pub written_of : Json → Written
written_of j = record {
  fileset = record { 0 = whole_of (part 0 j) };
  number = whole_of (part 1 j);
  answer = answer_of (part 2 j);
}

unfoldable pub head_of : Json → Head
head_of j = record {
  from = record { 0 = whole_of (part 0 j) };
  moves = whole_of (part 1 j);
  ship = ship_of (part 2 j);
  written = written_of (part 3 j);
}

unfoldable pub move_of : Json → Move
move_of j =
    if is_case (codes "leaves") j then moves.Leaves (record { 0 = whole_of (part 0 (held j)) }) (record { 0 = whole_of (part 1 (held j)) }) (whole_of (part 2 (held j))) (mover_of (part 3 (held j))) else
    if is_case (codes "arrives") j then moves.Arrives (head_of (held j)) else
    if is_case (codes "part") j then moves.Part (record { 0 = whole_of (part 0 (held j)) }) (flag_of (part 1 (held j))) else
    if is_case (codes "back") j then moves.Back (written_of (held j)) else
    moves.Left (record { 0 = whole_of (part 0 (held j)) }) (record { 0 = whole_of (part 1 (held j)) })

unfoldable pub applied_of : Json → Applied
applied_of j =
    if is_case (codes "stored") j then Stored (record { 0 = whole_of (part 0 (held j)) }) (fid_of (part 1 (held j))) (list_of span_of (part 2 (held j))) (maybe_of whole_of (part 3 (held j))) else
    if is_case (codes "replied") j then Replied (answer_of (held j)) else
    if is_case (codes "is_down") j then IsDown (record { 0 = whole_of (held j) }) else
    if is_case (codes "wants") j then Wants (wanted_of (held j)) else
    if is_case (codes "done") j then Done (written_of (held j)) else
    Moves (move_of (held j))

unfoldable pub admission_of : Json → Admission
admission_of j = record {
  host = record { 0 = whole_of (part 0 j) };
  tokens = list_of token_of (part 1 j);
}

unfoldable pub step_of : Json → Step
step_of j = record {
  node = node_of (part 0 j);
  cause = cause_of (part 1 j);
  asked = maybe_of asked_of (part 2 j);
  taken = list_of token_of (part 3 j);
  answers = list_of answer_of (part 4 j);
  wrote = maybe_of fid_of (part 5 j);
  begun = list_of labelled_of (part 6 j);
  made = list_of give_of (part 7 j);
  dropped = list_of leave_of (part 8 j);
  applied = list_of applied_of (part 9 j);
  admitted = list_of admission_of (part 10 j);
  sent = list_of message_of (part 11 j);
  shipped = list_of message_of (part 12 j);
  reserved = list_of token_of (part 13 j);
}

pub node_is : (x : Node) → TypedNode x → IsRead node_of node_json x
unfolding tagged node_json node_of
node_is (Host it) t =
    let a0 = whole_is it.0 t in
    (rw a0.0, (a0.1, tt))
node_is (Server it) t =
    let a0 = whole_is it.0 t in
    (rw a0.0, (a0.1, tt))

pub cause_is : (x : Cause) → TypedCause x → IsRead cause_of cause_json x
unfolding tagged cause_json cause_of
cause_is (causes.Line it) t =
    let a0 = whole_is it t in
    (rw a0.0, (a0.1, tt))
cause_is (causes.Restart it) t =
    let a0 = whole_is it t in
    (rw a0.0, (a0.1, tt))
cause_is (causes.Message it) t =
    let a0 = message_is it t in
    (rw a0.0, (a0.1, tt))
cause_is causes.Lapse t = (refl, tt)
cause_is causes.Evict t = (refl, tt)
cause_is causes.End t = (refl, tt)
cause_is causes.Flushed t = (refl, tt)
cause_is (causes.Freight it) t =
    let a0 = message_is it t in
    (rw a0.0, (a0.1, tt))

pub asked_is : (x : Asked) → TypedAsked x → IsRead asked_of asked_json x
unfolding asked_json asked_of
asked_is x t =
    let a0 = whole_is x.k t.0 in
    let a1 = call_is x.call t.1 in
    (rw (a0.0, a1.0), (a0.1, (a1.1, tt)))

pub asked_some : (x : Asked) → is_null (asked_json x) ≡ false
unfolding asked_json
asked_some x = refl

pub answer_is : (x : Answer) → TypedAnswer x → IsRead answer_of answer_json x
unfolding answer_json answer_of
answer_is x t =
    let a0 = whole_is x.host.0 t.0 in
    let a1 = whole_is x.k t.1 in
    let a2 = call_is x.call t.2 in
    let a3 = reply_is x.reply t.3 in
    (rw (a0.0, a1.0, a2.0, a3.0), (a0.1, (a1.1, (a2.1, (a3.1, (tt, tt))))))

pub labelled_is : (x : Labelled) → TypedLabelled x → IsRead labelled_of labelled_json x
unfolding labelled_json labelled_of
labelled_is x t =
    let a0 = letters_is x.label t.0 in
    let a1 = token_is x.token t.1 in
    (rw (a0.0, a1.0), (a0.1, (a1.1, tt)))

pub why_is : (x : Why) → IsRead why_of why_json x
unfolding tagged why_json why_of
why_is Revoked = (refl, tt)
why_is Evicted = (refl, tt)
why_is ForCall = (refl, tt)
why_is Ended = (refl, tt)
why_is Stopped = (refl, tt)

pub leave_is : (x : Leave) → TypedLeave x → IsRead leave_of leave_json x
unfolding leave_json leave_of
leave_is x t =
    let a0 = token_is x.token t in
    let a1 = why_is x.why in
    (rw (a0.0, a1.0), (a0.1, (a1.1, tt)))

pub request_is : (x : Request) → TypedRequest x → IsRead request_of request_json x
unfolding tagged request_json request_of
request_is (requests.Fetch it) t =
    let a0 = fetch_is it t in
    (rw a0.0, (a0.1, tt))
request_is (requests.Change it) t =
    let a0 = change_is it t in
    (rw a0.0, (a0.1, tt))

pub wanted_is : (x : Wanted) → TypedWanted x → IsRead wanted_of wanted_json x
unfolding wanted_json wanted_of
wanted_is x t =
    let a0 = whole_is x.host.0 t.0 in
    let a1 = request_is x.request t.1 in
    let a2 = whole_is x.moves t.2 in
    let a3 = list_is TypedNeed need_of need_json need_is x.needs t.3 in
    (rw (a0.0, a1.0, a2.0, a3.0), (a0.1, (a1.1, (a2.1, (a3.1, tt)))))

pub written_is : (x : Written) → TypedWritten x → IsRead written_of written_json x
unfolding written_json written_of
written_is x t =
    let a0 = whole_is x.fileset.0 t.0 in
    let a1 = whole_is x.number t.1 in
    let a2 = answer_is x.answer t.2 in
    (rw (a0.0, a1.0, a2.0), (a0.1, (a1.1, (a2.1, tt))))

pub head_is : (x : Head) → TypedHead x → IsRead head_of head_json x
unfolding head_json head_of
head_is x t =
    let a0 = whole_is x.from.0 t.0 in
    let a1 = whole_is x.moves t.1 in
    let a2 = ship_is x.ship t.2 in
    let a3 = written_is x.written t.3 in
    (rw (a0.0, a1.0, a2.0, a3.0), (a0.1, (a1.1, (a2.1, (a3.1, tt)))))

pub move_is : (x : Move) → TypedMove x → IsRead move_of move_json x
unfolding tagged move_json move_of
move_is (moves.Leaves fileset to ship mover) t =
    let a0 = whole_is fileset.0 t.0 in
    let a1 = whole_is to.0 t.1 in
    let a2 = whole_is ship t.2 in
    let a3 = mover_is mover t.3 in
    (rw (a0.0, a1.0, a2.0, a3.0), ((a0.1, (a1.1, (a2.1, (a3.1, tt)))), tt))
move_is (moves.Arrives it) t =
    let a0 = head_is it t in
    (rw a0.0, (a0.1, tt))
move_is (moves.Part fileset last) t =
    let a0 = whole_is fileset.0 t in
    (rw a0.0, ((a0.1, (tt, tt)), tt))
move_is (moves.Back it) t =
    let a0 = written_is it t in
    (rw a0.0, (a0.1, tt))
move_is (moves.Left fileset to) t =
    let a0 = whole_is fileset.0 t.0 in
    let a1 = whole_is to.0 t.1 in
    (rw (a0.0, a1.0), ((a0.1, (a1.1, tt)), tt))

pub applied_is : (x : Applied) → TypedApplied x → IsRead applied_of applied_json x
unfolding tagged applied_json applied_of
applied_is (Stored host fid spans len) t =
    let a0 = whole_is host.0 t.0 in
    let a1 = fid_is fid t.1 in
    let a2 = all_is span_of span_json span_is spans in
    let a3 = maybe_is IsWhole whole_of whole whole_is whole_some len t.2 in
    (rw (a0.0, a1.0, a2.0, a3.0), ((a0.1, (a1.1, (a2.1, (a3.1, tt)))), tt))
applied_is (Replied it) t =
    let a0 = answer_is it t in
    (rw a0.0, (a0.1, tt))
applied_is (IsDown it) t =
    let a0 = whole_is it.0 t in
    (rw a0.0, (a0.1, tt))
applied_is (Wants it) t =
    let a0 = wanted_is it t in
    (rw a0.0, (a0.1, tt))
applied_is (Done it) t =
    let a0 = written_is it t in
    (rw a0.0, (a0.1, tt))
applied_is (Moves it) t =
    let a0 = move_is it t in
    (rw a0.0, (a0.1, tt))

pub admission_is : (x : Admission) → TypedAdmission x → IsRead admission_of admission_json x
unfolding admission_json admission_of
admission_is x t =
    let a0 = whole_is x.host.0 t.0 in
    let a1 = list_is TypedToken token_of token_json token_is x.tokens t.1 in
    (rw (a0.0, a1.0), (a0.1, (a1.1, tt)))

pub step_is : (x : Step) → TypedStep x → IsRead step_of step_json x
unfolding step_json step_of held_members given_members done_members
step_is x t =
    let a0 = node_is x.node t.0 in
    let a1 = cause_is x.cause t.1 in
    let a2 = maybe_is TypedAsked asked_of asked_json asked_is asked_some x.asked t.2 in
    let a3 = list_is TypedToken token_of token_json token_is x.taken t.3 in
    let a4 = list_is TypedAnswer answer_of answer_json answer_is x.answers t.4 in
    let a5 = maybe_is TypedFid fid_of fid_json fid_is fid_some x.wrote t.5 in
    let a6 = list_is TypedLabelled labelled_of labelled_json labelled_is x.begun t.6 in
    let a7 = list_is TypedGive give_of give_json give_is x.made t.7 in
    let a8 = list_is TypedLeave leave_of leave_json leave_is x.dropped t.8 in
    let a9 = list_is TypedApplied applied_of applied_json applied_is x.applied t.9 in
    let a10 = list_is TypedAdmission admission_of admission_json admission_is x.admitted t.10 in
    let a11 = list_is TypedMessage message_of message_json message_is x.sent t.11 in
    let a12 = list_is TypedMessage message_of message_json message_is x.shipped t.12 in
    let a13 = list_is TypedToken token_of token_json token_is x.reserved t.13 in
    (rw (a0.0, a1.0, a2.0, a3.0, a4.0, a5.0, a6.0, a7.0, a8.0, a9.0, a10.0, a11.0, a12.0, a13.0), (a0.1, (a1.1, (a2.1, (a3.1, (a4.1, (a5.1, (a6.1, (a7.1, (a8.1, (a9.1, (a10.1, (a11.1, (a12.1, (a13.1, tt)))))))))))))))

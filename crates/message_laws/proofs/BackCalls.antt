-- Calls and replies that are spellable are those of a program.
use Rattle.std.proofs.Common.{◌≡◌, true}
use Rattle.tree_calls.specs.declared.call.Call.{Call}
use Rattle.tree_calls.specs.declared.call.Call.TheVariants.{
  NewFileset,
  Create,
  MakeDir,
  Remove,
  Rename,
  Truncate,
  SetAcl,
  CloneFileset,
  Read,
  Write,
  List as ListNames,
  Stat,
  GetAcl,
  Sync,
  Lock,
  Unlock,
  OpenFile,
  CloseFile,
  MoveFileset,
}
use Rattle.tree_calls.specs.declared.reply.Refusal.{Refusal}
use Rattle.tree_calls.specs.declared.reply.Refusal.TheVariants.{Denied}
use Rattle.tree_calls.specs.declared.reply.Reply.{Reply}
use Rattle.tree_calls.specs.declared.reply.Reply.TheVariants.{Ok as Accepted, Bytes, Names, Facts, Access, Refused}
use Rattle.message_parts.specs.Words.{spell_name}
use Rattle.message_calls.specs.Calls.{call_fields, spell_call, spell_ending}
use Rattle.message_calls.specs.Replies.{spell_facts, refusal_fields, spell_refusal, reply_fields, spell_reply}
use Rattle.message_laws.specs.Typed.{IsName, TypedCall, TypedRefusal, TypedReply}
use Rattle.message_laws.proofs.Back.{
  parts,
  u32_of,
  rights_of,
  name_of,
  short_of,
  place_of,
  user_of,
  access_of,
  bytes_of,
}

call_fields_of : (call : Call) → (call_fields call).fits ≡ true → TypedCall call
unfolding call_fields
call_fields_of (NewFileset server name objects owner) f =
    let p = parts ((parts f).1) in let q = parts p.1 in let u = user_of owner q.1 in
    (name_of name p.0, u32_of objects q.0, u.0, u.1)
call_fields_of (Create place) f = place_of place f
call_fields_of (MakeDir place) f = place_of place f
call_fields_of (Remove place) f = place_of place f
call_fields_of (Rename from to) f = let p = parts f in (place_of from p.0, place_of to p.1)
call_fields_of (Truncate place len) f = let p = parts f in (place_of place p.0, u32_of len p.1)
call_fields_of (SetAcl place which list) f = let p = parts f in (place_of place p.0, access_of list ((parts p.1).1))
call_fields_of (CloneFileset server fileset new) f =
    let p = parts ((parts f).1) in (name_of fileset p.0, name_of new p.1)
call_fields_of (Read place from len) f =
    let p = parts f in let q = parts p.1 in (place_of place p.0, u32_of from q.0, u32_of len q.1)
call_fields_of (Write place from bytes) f =
    let p = parts f in let q = parts p.1 in (place_of place p.0, u32_of from q.0, bytes_of 4294967295 bytes q.1)
call_fields_of (ListNames place) f = place_of place f
call_fields_of (Stat place) f = place_of place f
call_fields_of (GetAcl place which) f = place_of place ((parts f).0)
call_fields_of (Sync place) f = place_of place f
call_fields_of (Lock label place writing from len) f =
    let p = parts f in let q = parts p.1 in let r = parts ((parts q.1).1) in
    (name_of label p.0, place_of place q.0, u32_of from r.0, u32_of len r.1)
call_fields_of (Unlock label) f = name_of label f
call_fields_of (OpenFile label place kind) f =
    let p = parts f in (name_of label p.0, place_of place ((parts p.1).0))
call_fields_of (CloseFile label) f = name_of label f
call_fields_of (MoveFileset server fileset to) f = name_of fileset ((parts ((parts f).1)).0)

pub call_of : (call : Call) → (spell_call call).fits ≡ true → TypedCall call
unfolding spell_call
call_of call f = call_fields_of call ((parts f).1)

pub ending_of : (call : Call) → (spell_ending call).fits ≡ true → TypedCall call
unfolding spell_ending
ending_of call f = call_fields_of call ((parts f).1)

refusal_fields_of : (x : Refusal) → (refusal_fields x).fits ≡ true → TypedRefusal x
unfolding refusal_fields
refusal_fields_of (Denied rights) f = rights_of rights f
refusal_fields_of _ f = tt

reply_fields_of : (x : Reply) → (reply_fields x).fits ≡ true → TypedReply x
unfolding reply_fields spell_facts spell_refusal
reply_fields_of Accepted f = tt
reply_fields_of (Bytes bytes) f = bytes_of 4294967295 bytes f
reply_fields_of (Names names) f = short_of IsName spell_name name_of names f
reply_fields_of (Facts facts) f =
    let p = parts ((parts f).1) in let q = parts p.1 in
    (u32_of facts.length p.0, name_of facts.owner q.0, rights_of facts.rights q.1)
reply_fields_of (Access list) f = access_of list f
reply_fields_of (Refused refusal) f = refusal_fields_of refusal ((parts f).1)

pub reply_of : (x : Reply) → (spell_reply x).fits ≡ true → TypedReply x
unfolding spell_reply
reply_of x f = reply_fields_of x ((parts f).1)

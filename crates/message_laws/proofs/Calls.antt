-- Calls and replies of sound messages of a program fit.
use Rattle.std.proofs.Common.{◌≡◌, ◌≤◌, true, length, refl, arith}
use Rattle.base_types.specs.declared.ids.ServerId.{ServerId}
use Rattle.tree_calls.specs.declared.call.Call.{Call}
use Rattle.tree_calls.specs.declared.call.Call.TheVariants.{
  NewFileset,
  Create,
  MakeDir,
  Remove,
  Rename,
  Truncate,
  SetAcl,
  CloneFileset,
  Read,
  Write,
  List as ListNames,
  Stat,
  GetAcl,
  Sync,
  Lock,
  Unlock,
  OpenFile,
  CloseFile,
  MoveFileset,
}
use Rattle.tree_calls.specs.declared.place.Which.{Which}
use Rattle.tree_calls.specs.declared.place.Which.TheVariants.{Own, Files, Dirs}
use Rattle.tree_calls.specs.declared.reply.Facts.{Facts as FactsOf}
use Rattle.tree_calls.specs.declared.reply.Refusal.{Refusal}
use Rattle.tree_calls.specs.declared.reply.Refusal.TheVariants.{NoEntry, Denied}
use Rattle.tree_calls.specs.declared.reply.Reply.{Reply}
use Rattle.tree_calls.specs.declared.reply.Reply.TheVariants.{Ok as Accepted, Bytes, Names, Facts, Access, Refused}
use Rattle.tree_calls.specs.declared.roster.Roster.{Roster}
use Rattle.message_types.specs.Soundness.{IsServer, IsCall, IsEnd, IsReply}
use Rattle.message_parts.specs.Spelled.{number}
use Rattle.message_parts.specs.Words.{coded, spell_name}
use Rattle.message_parts.specs.Places.{spell_which}
use Rattle.message_calls.specs.Calls.{call_tag, call_fields, spell_call, spell_ending}
use Rattle.message_calls.specs.Replies.{
  spell_facts,
  refusal_tag,
  refusal_fields,
  spell_refusal,
  reply_tag,
  reply_fields,
  spell_reply,
}
use Rattle.message_laws.specs.Typed.{IsName, TypedCall, IsU32, IsRights, TypedRefusal, TypedReply}
use Rattle.message_laws.proofs.Fits.{both, flag_in, short_in}
use Rattle.message_laws.proofs.Parts.{
  InRange,
  u32_in,
  rights_in,
  server_in,
  name_in,
  user_in,
  place_in,
  access_in,
  bytes_fit,
  open_in,
}

call_tag_in : (call : Call) → (number 1 1 19 (call_tag call)).fits ≡ true
unfolding number
call_tag_in (NewFileset server name objects owner) = refl
call_tag_in (Create place) = refl
call_tag_in (MakeDir place) = refl
call_tag_in (Remove place) = refl
call_tag_in (Rename from to) = refl
call_tag_in (Truncate place len) = refl
call_tag_in (SetAcl place which list) = refl
call_tag_in (CloneFileset server fileset new) = refl
call_tag_in (Read place from len) = refl
call_tag_in (Write place from bytes) = refl
call_tag_in (ListNames place) = refl
call_tag_in (Stat place) = refl
call_tag_in (GetAcl place which) = refl
call_tag_in (Sync place) = refl
call_tag_in (Lock label place writing from len) = refl
call_tag_in (Unlock label) = refl
call_tag_in (OpenFile label place kind) = refl
call_tag_in (CloseFile label) = refl
call_tag_in (MoveFileset server fileset to) = refl

which_in : (which : Which) → (spell_which which).fits ≡ true
unfolding coded number
which_in Own = refl
which_in Files = refl
which_in Dirs = refl

module _ (roster : Roster) (near : (server : ServerId) → IsServer roster server → InRange server) where
  call_fields_in : (call : Call) → IsCall roster call → TypedCall call → (call_fields call).fits ≡ true
  unfolding call_fields
  call_fields_in (NewFileset server name objects owner) s h =
      let few : length owner.groups ≤ 65535 = let g = s.groups.1 in omega (arith, g) in
      both (server_in server (near server s.servers.0)) (both (name_in name h.0)
      (both (u32_in objects h.1) (user_in owner few h.2 h.3)))
  call_fields_in (Create place) s h = place_in place (near place.server s.servers.0) s.paths.0 h
  call_fields_in (MakeDir place) s h = place_in place (near place.server s.servers.0) s.paths.0 h
  call_fields_in (Remove place) s h = place_in place (near place.server s.servers.0) s.paths.0 h
  call_fields_in (Rename from to) s h =
      both (place_in from (near from.server s.servers.0) s.paths.0 h.0)
      (place_in to (near to.server s.servers.1.0) s.paths.1.0 h.1)
  call_fields_in (Truncate place len) s h =
      both (place_in place (near place.server s.servers.0) s.paths.0 h.0) (u32_in len h.1)
  call_fields_in (SetAcl place which list) s h =
      both (place_in place (near place.server s.servers.0) s.paths.0 h.0) (both (which_in which) (access_in list h.1))
  call_fields_in (CloneFileset server fileset new) s h =
      both (server_in server (near server s.servers.0)) (both (name_in fileset h.0) (name_in new h.1))
  call_fields_in (Read place from len) s h =
      both (place_in place (near place.server s.servers.0) s.paths.0 h.0) (both (u32_in from h.1) (u32_in len h.2))
  call_fields_in (Write place from bytes) s h =
      both (place_in place (near place.server s.servers.0) s.paths.0 h.0)
      (both (u32_in from h.1) (bytes_fit 4294967295 bytes s.bytes h.2))
  call_fields_in (ListNames place) s h = place_in place (near place.server s.servers.0) s.paths.0 h
  call_fields_in (Stat place) s h = place_in place (near place.server s.servers.0) s.paths.0 h
  call_fields_in (GetAcl place which) s h =
      both (place_in place (near place.server s.servers.0) s.paths.0 h) (which_in which)
  call_fields_in (Sync place) s h = place_in place (near place.server s.servers.0) s.paths.0 h
  call_fields_in (Lock label place writing from len) s h =
      both (name_in label h.0) (both (place_in place (near place.server s.servers.0) s.paths.0 h.1)
      (both (flag_in writing) (both (u32_in from h.2) (u32_in len h.3))))
  call_fields_in (Unlock label) s h = name_in label h
  call_fields_in (OpenFile label place kind) s h =
      both (name_in label h.0) (both (place_in place (near place.server s.servers.0) s.paths.0 h.1) (open_in kind))
  call_fields_in (CloseFile label) s h = name_in label h
  call_fields_in (MoveFileset server fileset to) s h =
      both (server_in server (near server s.servers.0))
      (both (name_in fileset h) (server_in to (near to s.servers.1.0)))

  pub call_in : (call : Call) → IsCall roster call → TypedCall call → (spell_call call).fits ≡ true
  unfolding spell_call
  call_in call s h = both (call_tag_in call) (call_fields_in call s h)

pub ending_in : (call : Call) → IsEnd call → TypedCall call → (spell_ending call).fits ≡ true
unfolding spell_ending call_fields
ending_in (Unlock label) e h = name_in label h
ending_in (CloseFile label) e h = name_in label h
ending_in _ e h = absurd e

facts_in : (x : FactsOf) → IsU32 x.length × IsName x.owner × IsRights x.rights → (spell_facts x).fits ≡ true
unfolding spell_facts
facts_in x h = both (flag_in x.dir) (both (u32_in x.length h.0) (both (name_in x.owner h.1) (rights_in x.rights h.2)))

refusal_tag_in : (x : Refusal) → (number 1 1 21 (refusal_tag x)).fits ≡ true
unfolding number
refusal_tag_in NoEntry = refl
refusal_tag_in _ = refl

refusal_fields_in : (x : Refusal) → TypedRefusal x → (refusal_fields x).fits ≡ true
unfolding refusal_fields
refusal_fields_in (Denied rights) h = rights_in rights h
refusal_fields_in _ h = refl

refusal_in : (x : Refusal) → TypedRefusal x → (spell_refusal x).fits ≡ true
unfolding spell_refusal
refusal_in x h = both (refusal_tag_in x) (refusal_fields_in x h)

reply_tag_in : (x : Reply) → (number 1 0 5 (reply_tag x)).fits ≡ true
unfolding number
reply_tag_in Accepted = refl
reply_tag_in (Bytes bytes) = refl
reply_tag_in (Names names) = refl
reply_tag_in (Facts facts) = refl
reply_tag_in (Access list) = refl
reply_tag_in (Refused refusal) = refl

reply_fields_in : (x : Reply) → IsReply x → TypedReply x → (reply_fields x).fits ≡ true
unfolding reply_fields
reply_fields_in Accepted s h = refl
reply_fields_in (Bytes bytes) s h = bytes_fit 4294967295 bytes s h
reply_fields_in (Names names) s h = short_in IsName spell_name name_in names s h
reply_fields_in (Facts facts) s h = facts_in facts h
reply_fields_in (Access list) s h = access_in list h
reply_fields_in (Refused refusal) s h = refusal_in refusal h

pub reply_in : (x : Reply) → IsReply x → TypedReply x → (spell_reply x).fits ≡ true
unfolding spell_reply
reply_in x s h = both (reply_tag_in x) (reply_fields_in x s h)

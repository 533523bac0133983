-- The acts that a history gives to the store of a server.
use Rattle.std.specs.Prelude.{
  ℕ,
  ◌==◌,
  Bool,
  false,
  if◌then◌else◌,
  is_some,
  List,
  [],
  ◌∷◌,
  ◌++◌,
  slice_get,
  Option,
  Some,
  None,
}
use Rattle.std.specs.Option.{option_map_or}
use Rattle.base_types.specs.Outcomes.{either}
use Rattle.base_types.specs.declared.ids.HostId.{HostId}
use Rattle.base_types.specs.declared.ids.ServerId.{ServerId}
use Rattle.tree_calls.specs.declared.call.Call.{Call}
use Rattle.tree_calls.specs.declared.call.Call.TheVariants.{
  NewFileset,
  Create,
  MakeDir,
  Remove,
  Rename,
  Truncate,
  SetAcl,
  CloneFileset,
  Write,
}
use Rattle.tree_calls.specs.declared.entry.Entry.{Entry}
use Rattle.tree_calls.specs.declared.entry.Entry.TheVariants.{Call as Called, Stored}
use Rattle.tree_calls.specs.declared.reply.Reply.TheVariants.{Ok as Accepted}
use Rattle.tree_answers.specs.declared.tree.Tree.{Tree}
use Rattle.tree_answers.specs.Answers.{deciding_place}
use Rattle.tree_answers.specs.Histories.{after_entry}
use Rattle.tree_answers.specs.Stores.{content_at}
use Rattle.store_acts.specs.declared.act.Act.{Act}
use Rattle.store_acts.specs.declared.act.Act.TheVariants.{Do, Give}
use Rattle.store_laws.specs.KeptGives.{pieces_in}
use Rattle.store_laws.specs.TreeKeeping.{fileset_at}

-- an act, if a condition holds
abbrev pub act_if : Bool → Act → List Act
act_if condition act = if condition then act ∷ [] else []

-- whether the fileset that decides a call is at a server
abbrev pub is_decided_at : ServerId → Tree → Call → Bool
is_decided_at server tree call =
    either (deciding_place tree call)
    (λ place. option_map_or (λ fileset. fileset.server.0 == server.0) (slice_get tree.filesets place) false)
    (λ refusal. false)

-- the acts for a call that is accepted: its fileset's server does it, or the new one's
abbrev pub call_acts : ServerId → Tree → HostId → ℕ → Call → List Act
call_acts server tree host k (NewFileset at name objects owner) =
    act_if (at.0 == server.0) (Do host k (NewFileset at name objects owner))
call_acts server tree host k (CloneFileset at source new) =
    act_if (at.0 == server.0) (Do host k (CloneFileset at source new))
call_acts server tree host k (Create place) =
    act_if (is_decided_at server tree (Create place)) (Do host k (Create place))
call_acts server tree host k (MakeDir place) =
    act_if (is_decided_at server tree (MakeDir place)) (Do host k (MakeDir place))
call_acts server tree host k (Remove place) =
    act_if (is_decided_at server tree (Remove place)) (Do host k (Remove place))
call_acts server tree host k (Rename from to) =
    act_if (is_decided_at server tree (Rename from to)) (Do host k (Rename from to))
call_acts server tree host k (Truncate place len) =
    act_if (is_decided_at server tree (Truncate place len)) (Do host k (Truncate place len))
call_acts server tree host k (SetAcl place which list) =
    act_if (is_decided_at server tree (SetAcl place which list)) (Do host k (SetAcl place which list))
call_acts server tree host k _ = []

-- the number of a call that leaves bytes unsaved
abbrev pub number_written : Entry → Option ℕ
number_written (Called host k (Write place from (byte ∷ bytes)) Accepted) = Some k
number_written _ = None

-- the acts for an entry, behind a call of this number that left bytes unsaved: what is stored is given as readers see
-- it
abbrev pub entry_acts : ServerId → Tree → Option ℕ → Entry → List Act
entry_acts server tree number (Called host k call Accepted) = call_acts server tree host k call
entry_acts server tree (Some k) (Stored host fid spans len) =
    act_if (is_some (fileset_at tree server fid.fileset))
    (Give host k fid (pieces_in (content_at tree fid) spans) len)
entry_acts server tree number _ = []

-- the acts for a history from a tree on, in their order
abbrev pub acts_of : ServerId → Tree → Option ℕ → List Entry → List Act
acts_of server tree number [] = []
acts_of server tree number (entry ∷ entries) =
    entry_acts server tree number entry ++ acts_of server (after_entry tree entry) (number_written entry) entries

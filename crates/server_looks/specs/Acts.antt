-- Acts that a server's machine gives to its store.
use Rattle.std.specs.Prelude.{◌≡◌, ◌≤◌, ℕ, ◌+◌, List, [], ◌∷◌, IfSome, length, slice_set, take, unwrap_or}
use Rattle.base_types.specs.declared.ids.FilesetId.{FilesetId}
use Rattle.base_types.specs.declared.ids.HostId.{HostId}
use Rattle.base_types.specs.declared.limits.TheConstants.{FILE_BYTES_MAX, HOSTS_MAX}
use Rattle.tree_calls.specs.declared.call.Call.{Call}
use Rattle.tree_calls.specs.declared.reply.Refusal.{Refusal}
use Rattle.tree_calls.specs.declared.reply.Reply.{Reply}
use Rattle.tree_calls.specs.declared.reply.Reply.TheVariants.{Ok as Accepted}
use Rattle.message_types.specs.declared.giving.Give.{Give}
use Rattle.store_acts.specs.Acts.{act_done, state_after}
use Rattle.store_acts.specs.Sound.{AllFit, Fits, KeepsLimits}
use Rattle.store_acts.specs.declared.act.Act.{Act}
use Rattle.store_acts.specs.declared.act.Act.TheVariants.{Do, Give as Gives, Refuse}
use Rattle.store_memory.specs.Reading.{last_of}
use Rattle.store_state.specs.declared.done.Done.{Done}
use Rattle.store_state.specs.Rows.{itself, numbered_id, numbered_name}
use Rattle.store_state.specs.declared.state.HostState.{HostState}
use Rattle.store_state.specs.declared.state.StoreState.{StoreState}

-- the reply to the first act of a batch
abbrev pub first_reply : List Done → Reply
first_reply [] = Accepted
first_reply (done ∷ dones) = done.reply

-- An act that fits, and that changes nothing where it has just been done, and then has the same reply.
pub record IsRepeatable (state : StoreState) (act : Act) : Type 0 where
  pub fits : Fits state act
  pub fits_again : Fits (act_done state act).state act
  pub state_same : (act_done (act_done state act).state act).state ≡ (act_done state act).state
  pub reply_same : (act_done (act_done state act).state act).done.reply ≡ (act_done state act).done.reply

-- an act that stores what a host gives back, within the limit of a file's length
abbrev pub IsGive : Act → Type 0
IsGive (Gives host number fid pieces given) = IfSome given (λ n. n ≤ FILE_BYTES_MAX)
IsGive _ = ⊥

-- Acts that may all be given once more wherever the first of them were done: they then leave what they left.
pub record AreRepeatable (state : StoreState) (acts : List Act) : Type 0 where
  pub fits : AllFit state acts
  pub fits_again : (k : ℕ) → AllFit (state_after state (take k acts)) acts
  pub again : (k : ℕ) → state_after (state_after state (take k acts)) acts ≡ state_after state acts

-- A store that keeps no more than its records have room for.
pub record IsLimited (state : StoreState) : Type 0 where
  pub limits : KeepsLimits state
  pub hosts : length state.roster.hosts ≤ HOSTS_MAX

-- what is known of a host is noted
abbrev pub host_noted : StoreState → HostId → HostState → StoreState
host_noted state host known = record state { hosts = slice_set state.hosts host.0 known }

-- its epoch rises
abbrev pub epoch_begun : StoreState → StoreState
epoch_begun state = record state { epoch = state.epoch + 1 }

-- the fileset under which a store numbers a call; none for a call about filesets themselves
abbrev pub numbered_at : StoreState → Call → FilesetId
numbered_at state call = unwrap_or (numbered_id state (numbered_name call)) itself

-- the number behind that of the last call of a host on a fileset that was decided
abbrev pub next_number : StoreState → HostId → FilesetId → ℕ
next_number state host fileset = last_of state host fileset (λ kept. kept.change) + 1

abbrev pub doing : StoreState → HostId → Call → Act
doing state host call = Do host (next_number state host (numbered_at state call)) call

abbrev pub refusing : StoreState → HostId → FilesetId → Refusal → Act
refusing state host fileset refusal = Refuse host fileset (next_number state host fileset) refusal

abbrev pub giving : HostId → Give → Act
giving host give = Gives host give.number give.fid give.pieces give.length

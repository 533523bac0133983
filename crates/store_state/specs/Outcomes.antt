-- What becomes of an act, and what a store replies to a call.
use Rattle.std.specs.Prelude.{ℕ, nat_lt, true, false, if◌then◌else◌, Option, Some, None}
use Rattle.std.specs.Option.{option_map_or}
use Rattle.base_types.specs.declared.ids.FilesetId.{FilesetId}
use Rattle.base_types.specs.declared.ids.HostId.{HostId}
use Rattle.tree_calls.specs.declared.reply.Refusal.{Refusal}
use Rattle.tree_calls.specs.declared.reply.Refusal.TheVariants.{NoFileset}
use Rattle.tree_calls.specs.declared.reply.Reply.{Reply}
use Rattle.tree_calls.specs.declared.reply.Reply.TheVariants.{Ok as Accepted, Refused}
use Rattle.tree_calls.specs.declared.ship.Record.{Record}
use Rattle.store_state.specs.declared.done.Done.{Done}
use Rattle.store_state.specs.declared.state.StoreState.{StoreState}
use Rattle.store_state.specs.declared.numbers.Noted.{Noted}
use Rattle.store_state.specs.declared.numbers.Noted.TheVariants.{Change, Give}
use Rattle.store_state.specs.Replies.{kept_reply, reply_code, reply_right}
use Rattle.store_state.specs.State.{records_of, record_of, with_record}

-- what is done of an act, and the store after it
pub record Outcome : Type 0 where
  pub done : Done
  pub state : StoreState

-- the reply to a call, and the store after it
pub record Answer : Type 0 where
  pub reply : Reply
  pub state : StoreState

-- what is answered to an act that is done now
abbrev pub now_done : Reply → Done
now_done reply = record { fresh = true; reply = reply }

-- what is answered to one that changes nothing
abbrev pub not_fresh : Reply → Done
not_fresh reply = record { fresh = false; reply = reply }

-- an act that is done now
abbrev pub fresh : Reply → StoreState → Outcome
fresh reply state = record { done = now_done reply; state = state }

-- an act that changes nothing
abbrev pub stale : Reply → StoreState → Outcome
stale reply state = record { done = not_fresh reply; state = state }

-- a refused call changes nothing
abbrev pub refuse : StoreState → Refusal → Answer
refuse state refusal = record { reply = Refused refusal; state = state }

-- what is kept once a change was decided under a number
abbrev pub change_decided : ℕ → Reply → Record → Record
change_decided number reply kept = record kept { change = number; code = reply_code reply; right = reply_right reply }

-- what is kept once a give-back was applied under a number
abbrev pub give_applied : ℕ → Record → Record
give_applied number kept = record kept { give = number }

-- what is kept once something was noted
abbrev pub noted_by : Noted → Record → Record
noted_by (Change number reply) = change_decided number reply.now
noted_by (Give number) = give_applied number

-- a change that is decided now, under a number on a fileset
abbrev pub decided : FilesetId → HostId → ℕ → Answer → Outcome
decided id host number answer =
    fresh answer.reply (with_record answer.state id host (change_decided number answer.reply))

-- a number that isn't above the last one gets the kept reply
abbrev pub decided_by : Record → ℕ → Option Done
decided_by kept number = if nat_lt kept.change number then None else Some (not_fresh (kept_reply kept))

-- whether a change is settled already: where the fileset isn't there, no number counts, and one whose number isn't
-- above the last of the host on the fileset gets the kept reply
abbrev pub decided_before : StoreState → FilesetId → HostId → ℕ → Option Done
decided_before state id host number =
    option_map_or (λ records. decided_by (record_of records host) number)
    (records_of state id) (Some (not_fresh (Refused NoFileset)))

-- and a give-back
abbrev pub applied_before : StoreState → FilesetId → HostId → ℕ → Option Done
applied_before state id host number =
    option_map_or (λ records. if nat_lt (record_of records host).give number then None else Some (not_fresh Accepted))
    (records_of state id) (Some (not_fresh (Refused NoFileset)))

-- what was settled before changes nothing
abbrev pub unless_before : Option Done → StoreState → Outcome → Outcome
unless_before None state outcome = outcome
unless_before (Some done) state outcome = record { done = done; state = state }

-- a change is decided once
abbrev pub decided_once : StoreState → FilesetId → HostId → ℕ → Outcome → Outcome
decided_once state id host number outcome = unless_before (decided_before state id host number) state outcome

-- a give-back is applied once
abbrev pub applied_once : StoreState → FilesetId → HostId → ℕ → Outcome → Outcome
applied_once state id host number outcome = unless_before (applied_before state id host number) state outcome

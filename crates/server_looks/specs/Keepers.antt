-- How a server's machine asks its store, and gives it acts.
use Rattle.std.specs.Prelude.{◌≡◌, ◌≤◌, ℕ, ◌+◌, ◌*◌, ◌^◌, IsTrue, List, Result, Ok, Err, OnOk}
use Rattle.base_types.specs.Faults.{RoseBy}
use Rattle.base_types.specs.declared.ids.HostId.{HostId}
use Rattle.base_types.specs.declared.limits.TheConstants.{BATCH_ACTS_MAX}
use Rattle.message_types.specs.Soundness.{Each}
use Rattle.message_types.specs.declared.asking.Change.{Change as ChangeOf}
use Rattle.message_types.specs.declared.giving.Give.{Give}
use Rattle.message_types.specs.declared.message.Body.{Body}
use Rattle.message_types.specs.declared.message.Body.TheVariants.{Change, GiveBack}
use Rattle.message_types.specs.declared.message.Message.{Message}
use Rattle.run_rules.specs.Past.{In}
use Rattle.store_acts.specs.Acts.{state_after}
use Rattle.store_acts.specs.Sound.{IsAct}
use Rattle.store_acts.specs.declared.act.Act.{Act}
use Rattle.store_acts.specs.declared.act.Act.TheVariants.{Do, Epoch, Give as Gives, Host, Refuse}
use Rattle.store_memory.specs.Views.{IsSameStore, View}
use Rattle.store_memory.specs.declared.store.StoreFault.{StoreFault}
use Rattle.store_memory.specs.declared.store.StoreFault.TheVariants.{Failed, Memory as NoRoom}
use Rattle.store_state.specs.declared.state.StoreState.{StoreState}
use Rattle.server_looks.specs.Acts.{giving}
use Rattle.server_looks.specs.declared.fault.ExporterFault.{ExporterFault}
use Rattle.server_looks.specs.declared.fault.ExporterFault.TheVariants.{Memory, Store}

-- the fault of a machine whose store has one
abbrev pub fault_from : StoreFault → ExporterFault
fault_from Failed = Store
fault_from NoRoom = Memory

-- what a machine is answered that asks its store
abbrev pub answer_of : {T : Type 0} → Result T StoreFault → Result T ExporterFault
answer_of (Ok value) = Ok value
answer_of (Err error) = Err (fault_from error)

-- a store isn't worn out by as many writes and openings as are left
abbrev pub IsWorn : View → ℕ → Type 0
IsWorn view left = view.wear + (BATCH_ACTS_MAX + 1) * left ≤ 2 ^ 47

-- a store may be asked, written, and opened anew
pub record IsFit (view : View) (left : ℕ) : Type 0 where
  pub ready : view.ready
  pub mendable : view.mendable
  pub wear : IsWorn view left

-- its disk failed twice, and the second time in its last call
pub record FailedTwice (old new : View) : Type 0 where
  pub rose : RoseBy 2 old.faults new.faults
  pub last : IsTrue new.last_failed

-- Whatever becomes of a call: the store is for the same server, the disk's count of faults doesn't fall, the store may
-- be opened anew, and a call answers `Store` only where the disk failed twice.
pub record HasTried {T : Type 0} (result : Result T ExporterFault) (old new : View) (left : ℕ) : Type 0 where
  pub same : IsSameStore old new
  pub wear : IsWorn new left
  pub ready : OnOk result new.ready
  pub mendable : new.mendable
  pub counted : old.faults ≤ new.faults
  pub blame : result ≡ Err Store → FailedTwice old new

-- A store that was asked some things, each of which was answered.
pub record HasStayed (tells : Type 0) (old new : View) : Type 0 where
  pub same : IsSameStore old new
  pub state : tells → new.state ≡ old.state
  pub counted : old.faults ≤ new.faults

-- and a store that was only asked keeps what it kept
pub record HasAsked {T : Type 0} (tells : Type 0) (result : Result T ExporterFault) (old new : View) (left : ℕ)
    : Type 0
  where
    pub tried : HasTried result old new left
    pub state : tells → new.state ≡ old.state

-- A batch was given once: `Store` comes where the disk failed now.
pub record HasGiven {T : Type 0} (result : Result T ExporterFault) (old new : View) (left : ℕ) : Type 0 where
  pub same : IsSameStore old new
  pub wear : IsWorn new left
  pub ready : OnOk result new.ready
  pub mendable : new.mendable
  pub counted : old.faults ≤ new.faults
  pub blame : result ≡ Err Store → RoseBy 1 old.faults new.faults × IsTrue new.last_failed

-- it was opened anew, and keeps what it kept
pub record HasMended {T : Type 0} (tells : Type 0) (result : Result T ExporterFault) (old new : View) (left : ℕ)
    : Type 0
  where
    pub given : HasGiven result old new left
    pub state : tells → new.state ≡ old.state

-- # What a server does for messages that came

-- one of these messages is of this host
abbrev pub HasWord : List Message → HostId → Type 0
HasWord came host = (m : Message) × In m came × (m.host ≡ host)

-- one of them is of this host, and brings this
abbrev pub HasBrought : List Message → HostId → Body → Type 0
HasBrought came host body = (m : Message) × In m came × (m.host ≡ host) × (m.body ≡ body)

-- An act that a server does for one of these messages while it runs: what is known of its host is noted, the Change
-- that it brings is done or refused, or what it gives back is stored. Or the server's epoch rises. It is none by which
-- a run begins, or a fileset moves.
abbrev pub IsDoneFor : List Message → Act → Type 0
IsDoneFor came Epoch = Unit {0}
IsDoneFor came (Host host known) = HasWord came host
IsDoneFor came (Do host number call) = (c : ChangeOf) × HasBrought came host (Change c) × (c.call ≡ call)
IsDoneFor came (Refuse host id number refusal) = (c : ChangeOf) × HasBrought came host (Change c) × (c.fileset ≡ id)
IsDoneFor came (Gives host number fid pieces given) = (g : Give) × HasBrought came host (GiveBack g)
    × (giving host g ≡ Gives host number fid pieces given)
IsDoneFor came _ = ⊥

-- What a store keeps has come from this by acts, some or none, that its server did for these messages.
pub record HasCome (came : List Message) (from now : StoreState) : Type 0 where
  pub acts : List Act
  pub each : Each (IsAct from.roster from.server) acts
  pub done_for : Each (IsDoneFor came) acts
  pub server : now.server ≡ from.server
  pub roster : now.roster ≡ from.roster
  pub state : now ≡ state_after from acts

-- A store goes on so, whatever comes of a call: what came to be kept by such acts before has come so still.
abbrev pub GoesOn : List Message → View → View → Type 0
GoesOn came old new = (from : StoreState) → HasCome came from old.state → HasCome came from new.state

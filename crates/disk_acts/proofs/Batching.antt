-- A batch, act by act.
use Rattle.std.proofs.Common.{◌≡◌, ◌<◌, ◌≤◌, ℕ, ◌+◌, List, length, get_or, inl, refl, sym, ◌∙◌, ap, subst, arith}
use Rattle.std.specs.Prelude.{false, Ok, Err}
use Rattle.std.proofs.lemmas.List.{take_all}
use Rattle.base_types.specs.Crash.{IsQuiet}
use Rattle.base_types.specs.View.{View}
use Rattle.base_types.specs.declared.ids.ServerId.{ServerId}
use Rattle.tree_calls.specs.declared.roster.Roster.{Roster}
use Rattle.base_outside.proofs.Runs.{quiet, quiet_settled}
use Rattle.store_memory.proofs.Batches.{after_next, each_at}
use Rattle.message_types.specs.Soundness.{Each}
use Rattle.store_acts.specs.Acts.{act_done, state_after}
use Rattle.store_acts.specs.Sound.{IsAct}
use Rattle.store_acts.specs.declared.act.Act.{Act}
use Rattle.store_acts.proofs.Next.{act_next}
use Rattle.store_state.specs.declared.state.StoreState.{StoreState}
use Rattle.store_records.specs.Stored.{IsStorable}
use Rattle.disk_layout.specs.declared.half.Half.{Half}
use Rattle.disk_layout.specs.declared.superblock.Superblock.{Superblock}
use Rattle.disk_log.specs.Contents.{contents_of, last_stage, stage_in}
use Rattle.disk_log.specs.Log.{disk_of, state_of, IsIdle}
use Rattle.disk_log.specs.State.{State}
use Rattle.disk_log.specs.declared.log.Log.{Log}
use Rattle.disk_log.proofs.Keeping.{keeps_same, same_ended}
use Rattle.disk_log.proofs.Mounting.{quiet_none}
use Rattle.disk_anode.specs.Faults.{IsNodeFault}
use Rattle.disk_anode.specs.declared.fault.NodeFault.{NodeFault}
use Rattle.disk_anode.specs.declared.fault.NodeFault.TheVariants.{Failed, Memory}
use Rattle.disk_acts.specs.Acts.{DoesAct, MayAct}
use Rattle.disk_acts.specs.Records.{HasStage}
use Rattle.disk_acts.proofs.Outcomes.{keeps_stale}
use Rattle.disk_acts.proofs.Transacting.{does_none}
use Rattle.disk_acts.specs.Stored.{IsOwn}
use Rattle.disk_acts.specs.Batch.{first_of, Counts, Goes, HasSome, HoldsFirst, IsDurable, Rests}
use Rattle.disk_acts.proofs.Counts.{act_counted}

-- an act that leaves a record that a disk can have leaves one that this disk can have
pub own_next : (state next : StoreState) (act : Act) (superblock : Superblock) → IsOwn state superblock → IsAct state.roster state.server act → next ≡ (act_done state act).state → IsStorable next → IsOwn (act_done state act).state superblock
own_next state next act superblock own is made storable = record {
  storable = subst IsStorable made storable;
  server = own.server ∙ ap (λ (s : ServerId). s.0) (sym (act_next state act own.storable.limits is).server);
  blocks = own.blocks ∙ ap (λ (n : ℕ). n + 1024) (sym (act_counted state act).capacity);
  least = (let least = own.least in let same = (act_counted state act).capacity in omega (arith, same, least));
}

-- where an act was refused the log is as it was
pub does_refused : {D T : Type 0} (tells : Type 0) (view : D → View) (blocks : ℕ) (state next : StoreState) (log : Log D) → MayAct tells view blocks state log
    → DoesAct {D = D} {T = T} tells view blocks next (Err Memory) log log
does_refused tells view blocks state next log may =
    does_none tells view blocks state next log log may
    (keeps_same tells view log log may.idle.sound (same_ended (state_of log) (state_of log) refl) (quiet_none (view (disk_of log))) (omega arith)) refl refl (Err Memory) tt (λ told. tt)

-- a fault of a later step
pub fault_since : (fault : NodeFault) (first mid last : View) → first.faults ≤ mid.faults → IsNodeFault fault mid last → IsNodeFault fault first last
fault_since Failed first mid last le is = (let rose = is.0 in omega (arith, le, rose), is.1)
fault_since Memory first mid last le is = tt

-- an act that isn't done now leaves the log as it is
pub does_stale : {D T : Type 0} (tells : Type 0) (view : D → View) (blocks : ℕ) (state : StoreState) (act : Act) (log : Log D) (value : T) → MayAct tells view blocks state log → (act_done state act).done.fresh ≡ false
    → DoesAct tells view blocks (act_done state act).state (Ok value) log log
does_stale tells view blocks state act log value may stale =
    does_none tells view blocks state (act_done state act).state log log may
    (keeps_same tells view log log may.idle.sound (same_ended (state_of log) (state_of log) refl) (quiet_none (view (disk_of log))) (omega arith)) refl refl (Ok value) tt (λ told. keeps_stale state act stale)

-- the next act of a batch
pub act_is : (start now : StoreState) (acts : List Act) (i : ℕ) (act : Act) → now.server ≡ start.server → now.roster ≡ start.roster → Each (IsAct start.roster start.server) acts → i < length acts → act ≡ get_or acts i act
    → IsAct now.roster now.server act
act_is start now acts i act server roster each lt e =
    subst (λ (r : Roster). IsAct r now.server act) (sym roster) (subst (λ (s : ServerId). IsAct start.roster s act) (sym server) (each_at (IsAct start.roster start.server) acts i act lt e each))

pub next_of : (start now next : StoreState) (acts : List Act) (i : ℕ) (act : Act) → i < length acts → act ≡ get_or acts i act → now ≡ first_of start acts i → next ≡ (act_done now act).state → next ≡ first_of start acts (i + 1)
next_of start now next acts i act lt e is made = made ∙ ap (λ (s : StoreState). (act_done s act).state) is ∙ sym (after_next acts i act start lt e)

pub counts_next : {D : Type 0} (i : ℕ) (start now next : StoreState) (act : Act) (first before mid after : Log D) → Counts i start now first before → (state_of mid).half.generation ≤ (state_of before).half.generation + 1
    → (state_of after).half ≡ (state_of mid).half → next ≡ (act_done now act).state → Counts (i + 1) start next first after
counts_next i start now next act first before mid after counts rose same made =
    let counted = act_counted now act in
    record {
      generation = (let e = ap (λ (h : Half). h.generation) same in let a = counts.generation in omega (arith, e, a, rose));
      epoch = (let e = ap (λ (s : StoreState). s.epoch) made in let a = counts.epoch in let b = counted.epoch in omega (arith, e, a, b));
      ship = (let e = ap (λ (s : StoreState). s.ship) made in let a = counts.ship in let b = counted.ship in omega (arith, e, a, b));
    }

-- a batch begins
module _ {D : Type 0} (tells : Type 0) (view : D → View) (most : ℕ) (start : StoreState) (acts : List Act) (log : Log D) (rests : Rests tells view start log) where
  some_first : tells → HasSome start acts 0 (state_of log).superblock (stage_in (contents_of view log) 0) (view (disk_of log)).image
  some_first told = record { count = 0; few = omega arith; own = rests.own told; held = rests.held told }

  pub goes_first : Goes tells view most start acts 0 (view (disk_of log)) log
  goes_first = record {
    idle = rests.idle;
    stages = λ told s le. (let none = rests.last in let e : s ≡ 0 = omega (arith, none, le) in
        subst (λ (k : ℕ). HasSome start acts 0 (state_of log).superblock (stage_in (contents_of view log) k) (view (disk_of log)).image) (sym e) (some_first told));
    left = λ told c left. subst (HasSome start acts 0 (state_of log).superblock (stage_in (contents_of view log) 0)) (sym (rests.settled c left)) (some_first told);
    last = λ told. subst (λ (k : ℕ). HasStage start k (contents_of view log)) (sym rests.last) (rests.held told);
    own = rests.own;
    crash = λ told. record { later = omega arith; each = λ t c le left. inl left };
    counted = omega arith;
  }

-- after a count of the free blocks, which changes nothing
pub contents_same : {D : Type 0} (view : D → View) (old new : Log D) → state_of new ≡ state_of old → IsQuiet (view (disk_of old)) (view (disk_of new)) → contents_of view new ≡ contents_of view old
contents_same view old new same still = λ i. record { state = same i; image = still.image i }

module _ {D : Type 0} (tells : Type 0) (view : D → View) (most : ℕ) (start : StoreState) (acts : List Act) (old new : Log D) (rests : Rests tells view start old) (idle : IsIdle tells view new)
    (same : state_of new ≡ state_of old) (still : IsQuiet (view (disk_of old)) (view (disk_of new))) where
  rests_still : Rests tells view start new
  rests_still = record {
    idle = idle;
    last = ap last_stage (contents_same view old new same still) ∙ rests.last;
    settled = quiet_settled still rests.settled;
    own = λ told. subst (λ (s : State). IsOwn start s.superblock) (sym same) (rests.own told);
    held = λ told. subst (HasStage start 0) (sym (contents_same view old new same still)) (rests.held told);
  }

  pub goes_counted : (view (disk_of old)).faults ≤ (view (disk_of new)).faults → Goes tells view most start acts 0 (view (disk_of old)) new
  goes_counted counted =
      let goes = goes_first tells view most start acts new rests_still in
      record {
        idle = goes.idle;
        stages = goes.stages;
        left = goes.left;
        last = goes.last;
        own = goes.own;
        crash = λ told. quiet (HoldsFirst most start acts) still;
        counted = counted;
      }

-- and ends
pub rests_last : {D : Type 0} (tells : Type 0) (view : D → View) (most : ℕ) (start state : StoreState) (acts : List Act) (first : View) (old new : Log D) → state ≡ state_after start acts → IsDurable tells view old new
    → Goes tells view most start acts (length acts) first new → Rests tells view state new
rests_last tells view most start state acts first old new is durable goes =
    let all : first_of start acts (length acts) ≡ state = (λ i. state_after start (take_all (length acts) acts (omega arith) i)) ∙ sym is in
    record {
      idle = goes.idle;
      last = durable.none;
      settled = durable.settled;
      own = λ told. subst (λ (s : StoreState). IsOwn s (state_of new).superblock) all (goes.own told);
      held = λ told. subst (λ (s : StoreState). HasStage s 0 (contents_of view new)) all
          (subst (λ (k : ℕ). HasStage (first_of start acts (length acts)) k (contents_of view new)) durable.none (goes.last told));
    }

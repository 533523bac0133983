-- What a force and a checkpoint make durable, and room for an act.
use Rattle.std.proofs.Common.{◌≡◌, ◌≤◌, ◌⊎◌, inl, inr, ℕ, zero, suc, ◌+◌, List, length, drop, get_or, refl, sym, ◌∙◌, ap, subst, arith}
use Rattle.std.specs.Prelude.{replicate, Result, Ok}
use Rattle.std.proofs.lemmas.List.{drop_all}
use Rattle.base_types.specs.Crash.{IsSettled}
use Rattle.base_types.specs.View.{View}
use Rattle.base_outside.specs.Runs.{LeavesOnly}
use Rattle.store_acts.specs.declared.act.Act.{Act}
use Rattle.store_state.specs.declared.state.StoreState.{StoreState}
use Rattle.disk_layout.specs.Pages.{ends_in}
use Rattle.disk_layout.specs.Places.{SameBlocks}
use Rattle.disk_log.specs.Blame.{IsDiskOrMemory}
use Rattle.disk_log.specs.Contents.{contents_of, KeepsLast}
use Rattle.disk_log.specs.Log.{disk_of, state_of, IsIdle, IsSoundLog}
use Rattle.disk_log.specs.State.{State, emptied, forced_all}
use Rattle.disk_log.specs.declared.fault.LogFault.{LogFault}
use Rattle.disk_log.specs.declared.fault.LogFault.TheVariants as logs
use Rattle.disk_log.specs.declared.log.Log.{Log}
use Rattle.disk_anode.specs.Faults.{log_fault, IsNodeFault}
use Rattle.disk_anode.specs.declared.fault.NodeFault.{NodeFault}
use Rattle.disk_acts.specs.Batch.{Goes, HoldsFirst, IsDurable, MakesRoom, Settles}
use Rattle.disk_acts.proofs.Going.{goes_durable, settled_crash}

pub node_fault : (fault : LogFault) (old new : View) → IsDiskOrMemory fault old new → IsNodeFault (log_fault fault) old new
node_fault logs.Failed old new is = is
node_fault logs.Memory old new is = tt
node_fault (logs.Full free needed) old new is = absurd is
node_fault (logs.NotALog place) old new is = absurd is

none_behind : (state : State) → ends_in (drop (length state.entries) state.entries) ≡ 0
none_behind state = ap ends_in (drop_all (length state.entries) state.entries (omega arith))

same_all : (n slot value : ℕ) → get_or (replicate n value) slot value ≡ value
same_all zero slot value = refl
same_all (suc n) zero value = refl
same_all (suc n) (suc slot) value = same_all n slot value

module _ {D : Type 0} (tells : Type 0) (view : D → View) (old new : Log D) (idle : IsIdle tells view old) (sound : IsSoundLog tells view new)
    (stages : tells → KeepsLast (contents_of view old) (contents_of view new))
    (blocks : tells → SameBlocks (state_of old).half.pages (view (disk_of old)).image (view (disk_of new)).image) (settled : IsSettled (view (disk_of new))) where
  pub forced_durable : state_of new ≡ forced_all (state_of old) → IsDurable tells view old new
  forced_durable is = record {
    idle = record { sound = sound; none_open = λ slot. (λ i. get_or (is i).reservations slot 0) ∙ idle.none_open slot };
    superblock = ap (λ (s : State). s.superblock) is;
    generation = (let e = ap (λ (s : State). s.half.generation) is in omega (arith, e));
    stages = stages;
    blocks = blocks;
    settled = settled;
    none = (λ i. ends_in (drop (is i).forced (is i).entries)) ∙ none_behind (state_of old);
  }

  pub emptied_durable : state_of new ≡ emptied (state_of old) → IsDurable tells view old new
  emptied_durable is = record {
    idle = record { sound = sound; none_open = λ slot. (λ i. get_or (is i).reservations slot 0) ∙ same_all 2048 slot 0 };
    superblock = ap (λ (s : State). s.superblock) is;
    generation = (let e = ap (λ (s : State). s.half.generation) is in omega (arith, e));
    stages = stages;
    blocks = blocks;
    settled = settled;
    none = (λ i. ends_in (drop (is i).forced (is i).entries));
  }

-- the batch goes on then
module _ {D : Type 0} (tells : Type 0) (view : D → View) (most : ℕ) (start : StoreState) (acts : List Act) (n : ℕ) (first : View) (old new : Log D)
    (goes : Goes tells view most start acts n first old) (few : n ≤ length acts) (fresh : (state_of old).half.generation + 1 ≤ most) (blocks : ℕ) where
  pub goes_made : (left : ℕ) → MakesRoom tells view blocks (Ok left) old new → Goes tells view most start acts n first new × ((state_of new).half.generation ≤ (state_of old).half.generation + 1)
  goes_made left made = by made.made
    where
      by : (new ≡ old) ⊎ Settles tells view (Ok left) old new → Goes tells view most start acts n first new × ((state_of new).half.generation ≤ (state_of old).half.generation + 1)
      by (inl same) =
          (let e : (state_of new).half.generation ≡ (state_of old).half.generation = (λ i. (state_of (same i)).half.generation) in
          (subst (Goes tells view most start acts n first) (sym same) goes, omega (arith, e)))
      by (inr settles) = (goes_durable tells view most start acts n first old new goes few fresh settles.crash settles.counted settles.durable, settles.durable.generation)

  pub crash_made : (result : Result ℕ NodeFault) → MakesRoom tells view blocks result old new → tells → LeavesOnly (HoldsFirst most start acts) first (view (disk_of new))
  crash_made result made told = by made.made
    where
      by : (new ≡ old) ⊎ Settles tells view result old new → LeavesOnly (HoldsFirst most start acts) first (view (disk_of new))
      by (inl same) = subst (λ (log : Log D). LeavesOnly (HoldsFirst most start acts) first (view (disk_of log))) (sym same) (goes.crash told)
      by (inr settles) = settled_crash tells view most start acts n first old new goes few fresh settles.crash told

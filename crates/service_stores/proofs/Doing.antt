-- The steps in which stores begin a run.
use Rattle.std.proofs.Common.{◌≡◌, ℕ, ◌+◌, ◌<◌, List, [], ◌∷◌, ◌++◌, length, set, take, sym, subst, arith}
use Rattle.std.specs.Prelude.{◌==◌, slice_get, filter, Option, Some, Result, Ok, Err, OnOk}
use Rattle.message_types.specs.Soundness.{Each}
use Rattle.service_starts.proofs.CheckFormed.{get_some}
use Rattle.service_starts.specs.Settles.{acts_at}
use Rattle.service_starts.specs.declared.fitting.Settling.{Settling}
use Rattle.store_acts.specs.Acts.{state_after}
use Rattle.store_acts.specs.Sound.{Fits}
use Rattle.store_acts.specs.declared.act.Act.{Act}
use Rattle.store_acts.specs.declared.act.Act.TheVariants.{Settle}
use Rattle.store_memory.specs.Views.{View, DoesActs, IsFirstOf, Leaves}
use Rattle.store_state.specs.declared.state.StoreState.{StoreState}
use Rattle.store_records.specs.Stored.{IsStorable}
use Rattle.service_moves.specs.Again.{IsRepeatable}
use Rattle.service_moves.specs.Doing.{Step, DoSteps, steps_of}
use Rattle.service_moves.specs.Plans.{states_at, AreMoves}
use Rattle.service_moves.specs.Stores.{states_of}
use Rattle.service_moves.specs.declared.stopped.RunStopped.{RunStopped}
use Rattle.service_moves.proofs.Doing.{steps_err, steps_none, steps_ok, steps_one, steps_then}
use Rattle.service_moves.proofs.Twice.{done_none}
use Rattle.service_moves.proofs.Whole.{moves_behind, moves_kind, moves_none, moves_wider}
use Rattle.service_stores.proofs.Lists.{AllAre}
use Rattle.service_stores.proofs.Settles.{Settled, repeatable, settles_storable, stored_at}
use Rattle.service_stores.specs.Plans.{AreBeginning, IsBeginning}

-- filesets that go over begin a run
pub moves_begin : (states : ℕ → Option StoreState) (steps : List Step) → AreMoves (λ act. ⊥) states steps → AreBeginning states steps
moves_begin states steps moves = moves_wider (λ act. ⊥) IsBeginning (λ act is. absurd is) states steps moves

-- steps that were passed on
pub steps_failed : {S T U E F : Type 0} (view : S → View) (result : Result T E) (answer : Result U F) (steps : List Step) (old new : List S) → OnOk answer ⊥ → DoSteps view result steps old new → DoSteps view answer steps old new
steps_failed view result (Ok value) steps old new failed does = absurd failed
steps_failed view result (Err error) steps old new failed does = steps_err view result error steps old new does

-- a run that is begun so far, and more
pub begin_then : {S T U E : Type 0} (view : S → View) (value : T) (result : Result U E) (old mid new : List S) → (steps : List Step) × AreBeginning (states_at view old) steps × DoSteps {E = E} view (Ok value) steps old mid
    → (steps : List Step) × AreBeginning (states_at view mid) steps × DoSteps view result steps mid new → (steps : List Step) × AreBeginning (states_at view old) steps × DoSteps view result steps old new
begin_then view value result old mid new first second = (
  first.0 ++ second.0,
  moves_behind IsBeginning view value first.0 second.0 old mid first.1 first.2 second.1,
  steps_then view value result first.0 second.0 old mid new first.2 second.2,
)

pub begin_failed : {S T U E F : Type 0} (view : S → View) (result : Result T E) (answer : Result U F) (old new : List S) → OnOk answer ⊥ → (steps : List Step) × AreBeginning (states_at view old) steps × DoSteps view result steps old new
    → (steps : List Step) × AreBeginning (states_at view old) steps × DoSteps view answer steps old new
begin_failed view result answer old new failed so_far = (so_far.0, so_far.1, steps_failed view result answer so_far.0 old new failed so_far.2)

pub begin_none : {S T E : Type 0} (view : S → View) (result : Result T E) (stores : List S) → (steps : List Step) × AreBeginning (states_at view stores) steps × DoSteps view result steps stores stores
begin_none view result stores = ([], moves_none IsBeginning (states_at view stores), steps_none view result stores)

-- what is settled may be settled again
pub settled_again : {S : Type 0} (view : S → View) (tells : Type 0) (settlings : List Settling) (i k : ℕ) (settling : Settling) (old now : List S) (x : S) → AllAre (Settled view tells settlings i) old now → k < length now
    → slice_get now k ≡ Some x → tells → Each IsStorable (states_of view old) → IsRepeatable (view x).state (Settle settling.fileset)
settled_again view tells settlings i k settling old now x all lt at t storable =
    let size = all.count in
    let before = get_some old k (omega (arith, lt, size)) in
    let p = all.each k before.0 x before.1 at in
    let had : IsStorable (view before.0).state = stored_at view old k before.0 storable before.1 in
    let stored : IsStorable (state_after (view before.0).state (acts_at (k + 1) (take i settlings))) = settles_storable (filter (λ one. one.server.0 == k + 1) (take i settlings)) (view before.0).state had in
    repeatable (view x).state settling (subst IsStorable (sym (p.state t had)) stored)

-- a store settles one
pub settle_does : {T E : Type 0} (result : Result T E) (old new : View) (settling : Settling) (act : Act) → act ≡ Settle settling.fileset → IsRepeatable old.state (Settle settling.fileset)
    → (Fits old.state act → IsRepeatable old.state act → DoesActs result (act ∷ []) old new) → DoesActs result (Settle settling.fileset ∷ []) old new
settle_does result old new settling act is again does = subst (λ a. Fits old.state a → IsRepeatable old.state a → DoesActs result (a ∷ []) old new) is does tt again

-- an act of one store
one_begins : {S T E : Type 0} (view : S → View) (result : Result T E) (now : List S) (k : ℕ) (x y : S) (act : Act) → IsBeginning act → slice_get now k ≡ Some x → DoesActs result (act ∷ []) (view x) (view y)
    → (steps : List Step) × AreBeginning (states_at view now) steps × DoSteps view result steps now (set now k y)
one_begins view result now k x y act is at does = (steps_of k (act ∷ []), moves_kind IsBeginning (states_at view now) (steps_of k (act ∷ [])) (is, tt), steps_one view result (act ∷ []) now k x y at does)

-- one step more
pub one_more : {S T E : Type 0} (view : S → View) (value : T) (old now : List S) (k : ℕ) (x y : S) (act : Act) → IsBeginning act → slice_get now k ≡ Some x → DoesActs {E = E} (Ok value) (act ∷ []) (view x) (view y)
    → (steps : List Step) × AreBeginning (states_at view old) steps × DoSteps {T = Unit {0}} {E = RunStopped} view (Ok tt) steps old now
    → (steps : List Step) × AreBeginning (states_at view old) steps × DoSteps {T = Unit {0}} {E = RunStopped} view (Ok tt) steps old (set now k y)
one_more view value old now k x y act is at does so_far =
    (let one = one_begins view (Ok value) now k x y act is at does in
    begin_then view tt (Ok tt) old now (set now k y) so_far (one.0, one.1, steps_ok view value tt one.0 now (set now k y) one.2))

-- or it fails
pub one_fails : {S T E : Type 0} (view : S → View) (result : Result T E) (stopped : RunStopped) (old now : List S) (k : ℕ) (x y : S) (act : Act) → IsBeginning act → slice_get now k ≡ Some x
    → DoesActs result (act ∷ []) (view x) (view y) → (steps : List Step) × AreBeginning (states_at view old) steps × DoSteps {T = Unit {0}} {E = RunStopped} view (Ok tt) steps old now
    → (steps : List Step) × AreBeginning (states_at view old) steps × DoSteps {T = Unit {0}} view (Err stopped) steps old (set now k y)
one_fails view result stopped old now k x y act is at does so_far =
    (let one = one_begins view result now k x y act is at does in
    begin_then view tt (Err stopped) old now (set now k y) so_far (one.0, one.1, steps_err view result stopped one.0 now (set now k y) one.2))

-- one more was asked
pub one_asked : {S T : Type 0} (view : S → View) (result : Result T RunStopped) (old now : List S) (k : ℕ) (x y : S) → slice_get now k ≡ Some x → (view y).state ≡ (view x).state → Leaves (IsFirstOf (view x).state []) (view x) (view y)
    → DoSteps {T = Unit {0}} {E = RunStopped} view (Ok tt) [] old now → DoSteps view result [] old (set now k y)
one_asked view result old now k x y at same left so_far =
    steps_then view tt result [] [] old now (set now k y) so_far (steps_one view result [] now k x y at (done_none result (view x) (view y) same left))

-- How the steps of a start make the start.
use Rattle.store_laws.proofs.HistorySteps.{each_append}
use Rattle.std.proofs.Common.{◌≡◌, ℕ, ◌+◌, ◌≤◌, Bool, true, false, cond, List, [], ◌∷◌, ◌++◌, map, length, refl, sym, subst, ap, ◌∙◌, arith}
use Rattle.std.specs.Prelude.{filter, None}
use Rattle.tree_calls.specs.declared.roster.Roster.{Roster}
use Rattle.store_memory.specs.Views.{View}
use Rattle.store_memory.specs.declared.told.Slot.{Slot}
use Rattle.tree_answers.specs.declared.tree.Tree.{Tree}
use Rattle.service_starts.proofs.Begun.{moves_begin}
use Rattle.service_starts.specs.FinishLaws.{AreToldOf, settled_stores}
use Rattle.service_starts.specs.UnderWay.{KeepUnderWay}
use Rattle.service_starts.specs.Fitting.{misfit, is_open, settlings_of, IsRefused}
use Rattle.service_starts.specs.Starting.{start_of}
use Rattle.service_starts.specs.Told.{Placed, placed_at, placed_from}
use Rattle.service_starts.specs.declared.fitting.FitRefused.TheVariants as fit
use Rattle.service_starts.specs.declared.fitting.Settling.{Settling}
use Rattle.service_starts.specs.declared.told.Told.{Told}
use Rattle.service_plain.specs.Played.{IsStart}
use Rattle.store_records.specs.Stored.{IsStorable}
use Rattle.message_types.specs.Soundness.{Each}
use Rattle.service_starts.specs.Start.{IsStartable}
use Rattle.service_moves.specs.Stores.{states_of, AreStores, AreSame}
use Rattle.service_moves.specs.Stopping.{IsStopped}
use Rattle.service_moves.specs.declared.stopped.RunStopped.{RunStopped}
use Rattle.service_moves.specs.declared.stopped.RunStopped.TheVariants.{Failed, Unfit, Memory}
use Rattle.service_stores.proofs.Begins.{told_are}
use Rattle.service_stores.proofs.Stores.{failed_later}
use Rattle.service_stores.specs.Starting.{told_by, start_from}
use Rattle.service_stores.specs.Steps.{IsOneOf, IsUnfit}

placed_there : (count server : ℕ) (slots : List Slot) → 1 ≤ server → server ≤ count → Each (λ (at : Placed). IsOneOf count at.server) (placed_at server slots)
placed_there count server [] low high = tt
placed_there count server (slot ∷ slots) low high = (record { least = low; most = high }, placed_there count server slots low high)

all_there : (count number : ℕ) (all : List Told) → 1 ≤ number → number + length all ≤ count + 1 → Each (λ (at : Placed). IsOneOf count at.server) (placed_from number all)
all_there count number [] low high = tt
all_there count number (told ∷ all) low high =
    each_append (λ (at : Placed). IsOneOf count at.server) (placed_at number told.slots) (placed_from (number + 1) all) (placed_there count number told.slots low (omega (arith, high)))
    (all_there count (number + 1) all (omega arith) (omega (arith, high)))

settlings_there : (count : ℕ) (p : Placed → Bool) (slots : List Placed) → Each (λ (at : Placed). IsOneOf count at.server) slots
    → Each (λ (settling : Settling). IsOneOf count settling.server) (map (λ (at : Placed). let one : Settling = record { server = at.server; fileset = at.slot.fileset } in one) (filter p slots))
settlings_there count p [] h = tt
settlings_there count p (at ∷ slots) h = choice (p at) (settlings_there count p slots h.1)
  where
    choice : (b : Bool) → Each (λ (settling : Settling). IsOneOf count settling.server) (map (λ (at : Placed). let one : Settling = record { server = at.server; fileset = at.slot.fileset } in one) (filter p slots))
        → Each (λ (settling : Settling). IsOneOf count settling.server)
        (map (λ (at : Placed). let one : Settling = record { server = at.server; fileset = at.slot.fileset } in one) (cond b (at ∷ filter p slots) (filter p slots)))
    choice true rest = (h.0, rest)
    choice false rest = rest

pub they_are_there : (count : ℕ) (all : List Told) → length all ≡ count → Each (λ (settling : Settling). IsOneOf count settling.server) (settlings_of all)
they_are_there count all size = settlings_there count (λ at. is_open all at.slot) (placed_from 1 all) (all_there count 1 all (omega arith) (omega (arith, size)))

-- a tree of what is told, that was looked at
pub is_start : (roster : Roster) (all : List Told) (tree : Tree) → tree ≡ start_from roster all → IsStartable tree → IsStart roster tree
is_start roster all tree e h = record {
  formed = h.formed;
  roster = ap (λ t. t.roster) e;
  rest = h.rest;
  locks = ap (λ t. t.locks) e;
  opens = ap (λ t. t.opens) e;
  rooms = h.rooms;
}

-- moves begin where what is told fits
pub under_way : {S : Type 0} (view : S → View) (roster : Roster) (worn disks : ℕ) (all : List Told) (stores : List S) → AreStores view roster worn 1 stores → Each IsStorable (states_of view stores)
    → length all ≡ length roster.capacity → all ≡ told_by view disks stores → misfit all ≡ None → KeepUnderWay (start_of roster all) (settled_stores 1 (settlings_of all) (states_of view stores))
under_way view roster worn disks all stores are storable size told fits =
    let those = told_are view roster worn 1 disks stores are storable in
    moves_begin roster all (states_of view stores) size (subst (λ xs. AreToldOf roster 1 xs (states_of view stores)) (sym told) those) fits

-- disks that don't fit stop it, and nothing was done
pub unfit_stops : {S : Type 0} (tells : Type 0) (view : S → View) (all : List Told) (stores : List S) (why : RunStopped) → IsUnfit all why → IsStopped tells view all stores stores why
unfit_stops tells view all stores (Failed server) h = absurd h
unfit_stops tells view all stores (Unfit disk slot) h = λ t. (h, refl)
unfit_stops tells view all stores Memory h = tt

-- what stops it once all were asked
pub stopped_told : {S : Type 0} (tells : Type 0) (view : S → View) (all told : List Told) (old middle new : List S) (why : RunStopped) → AreSame view old middle → (tells → all ≡ told)
    → (tells → states_of view middle ≡ states_of view old) → IsStopped tells view all middle new why → IsStopped tells view told old new why
stopped_told tells view all told old middle new (Failed server) same are states h = failed_later view old middle new server.0 same h
stopped_told tells view all told old middle new (Unfit disk slot) same are states h =
    λ t. (subst (λ xs. IsRefused xs (fit.Unfit disk slot)) (are t) (h t).0, (h t).1 ∙ states t)
stopped_told tells view all told old middle new Memory same are states h = tt

pub memory_stops : {S : Type 0} (tells : Type 0) (view : S → View) (all : List Told) (stores : List S) (why : RunStopped) → why ≡ Memory → IsStopped tells view all stores stores why
memory_stops tells view all stores why e = subst (IsStopped tells view all stores stores) (sym e) tt

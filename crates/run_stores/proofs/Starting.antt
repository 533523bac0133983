-- In which epochs servers start.
use Rattle.std.proofs.Common.{List, Option, Some, ap, arith, map, refl, suc, unwrap_or, zero, ℕ, ◌+◌, ◌-◌, ◌∙◌, ◌∷◌, ◌≡◌, []}
use Rattle.std.specs.Prelude.{max, slice_get}
use Rattle.base_types.specs.declared.ids.ServerId.{ServerId}
use Rattle.store_acts.specs.Acts.{act_done}
use Rattle.store_state.specs.declared.state.StoreState.{StoreState}
use Rattle.run_rules.specs.Runs.{firsts_of}
use Rattle.run_rules.specs.declared.journal.Journal.{Journal}
use Rattle.run_stores.specs.Starting.{ServersStartSo, StartsWith, epoch_of}

new_epoch : (state : StoreState) → epoch_of state ≡ state.epoch + 1
unfolding act_done
new_epoch state = refl

got_mapped : {X Y : Type 0} (f : X → Y) (xs : List X) (i : ℕ) (x : X) → slice_get xs i ≡ Some x →
    slice_get (map f xs) i ≡ Some (f x)
got_mapped f [] i x e = absurd (cc)
got_mapped f (y ∷ xs) zero x e = let same : y ≡ x = cc in ap (λ z. Some (f z)) same
got_mapped f (y ∷ xs) (suc i) x e = got_mapped f xs i x e

epoch_is : (journal : Journal) (states : List StoreState) (server : ServerId) (i : ℕ) (state : StoreState) →
    StartsWith journal states → slice_get states i ≡ Some state → server.0 ≡ i + 1 →
    firsts_of journal server ≡ epoch_of state
epoch_is journal states server i state starts there its =
    let place : server.0 - 1 ≡ i = omega (arith, its) in
    let least : max 1 (epoch_of state) ≡ epoch_of state = (let new = new_epoch state in omega (arith, new)) in
    ap (λ (o : Option ℕ). max 1 (unwrap_or o 1))
    (ap (λ es. slice_get es (server.0 - 1)) starts ∙ ap (slice_get (map epoch_of states)) place
    ∙ got_mapped epoch_of states i state there)
    ∙ least

pub servers_start_so : ServersStartSo
servers_start_so = record { epoch = epoch_is; new = new_epoch }

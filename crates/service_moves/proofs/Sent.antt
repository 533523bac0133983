-- What two stores do between which a ship goes.
use Rattle.std.proofs.Common.{◌≡◌, ◌≢◌, ◌≤◌, ◌+◌, ◌-◌, ◌++◌, ◌∙◌, ℕ, zero, suc, List, [], ◌∷◌, take, drop, set, inl, inr, sym, subst, ap, arith}
use Rattle.std.specs.Prelude.{slice_get, Some, Result, Ok, Err, OnOk}
use Rattle.std.proofs.lemmas.List.{take-append-drop}
use Rattle.tree_calls.specs.declared.ship.Mover.{Mover}
use Rattle.store_acts.specs.Acts.{act_done, state_after}
use Rattle.store_acts.specs.Sound.{Fits}
use Rattle.store_acts.specs.declared.act.Act.{Act}
use Rattle.store_acts.specs.declared.act.Act.TheVariants.{Left}
use Rattle.store_laws.specs.Moves.{all_parts}
use Rattle.store_memory.specs.Reading.{shipped}
use Rattle.store_memory.specs.Views.{View, DoesActs}
use Rattle.store_memory.proofs.Doing.{does_then, does_stop}
use Rattle.store_state.specs.declared.state.Holding.{Holding}
use Rattle.store_state.specs.declared.state.StoreState.{StoreState}
use Rattle.service_moves.specs.Again.{IsRepeatable}
use Rattle.service_moves.specs.Doing.{steps_of, DoSteps}
use Rattle.service_moves.specs.Plans.{ship_steps}
use Rattle.service_moves.specs.Ships.{part_act, two_set, HaveSent, IsSent, MaySend}
use Rattle.service_moves.specs.declared.ships.Ship.{Ship}
use Rattle.service_moves.specs.declared.stopped.RunStopped.{RunStopped}
use Rattle.service_moves.proofs.Between.{set_swap}
use Rattle.service_moves.proofs.Carried.{takes_next}
use Rattle.service_moves.proofs.Doing.{steps_one, steps_stop, steps_then}
use Rattle.service_moves.proofs.Stores.{set_beside}
use Rattle.service_moves.proofs.Twice.{does_failed, made_of}

take_here : {A : Type 0} (xs : List A) (k : ℕ) (x : A) → slice_get xs k ≡ Some x → take k xs ++ x ∷ [] ≡ take (k + 1) xs
take_here [] k x e = absurd (cc)
take_here (y ∷ xs) zero x e = (let same : y ≡ x = cc in ap (λ z. z ∷ []) (sym same))
take_here (y ∷ xs) (suc k) x e = (let more : suc k + 1 ≡ suc (k + 1) = omega arith in rw more (ap (λ l. y ∷ l) (take_here xs k x e)))

-- one part more was taken
pub part_done : {T : Type 0} {E : Type 0} (result : Result T E) (sender : StoreState) (now : StoreState) (start so_far next : View) (holding : Holding) (ship : Ship) (mover : Mover) (at : ℕ)
    → MaySend sender start.state holding ship mover → at ≤ ship.objects → now ≡ sender → DoesActs {T = Unit {0}} {E = E} (Ok tt) (take at (all_parts holding ship.from ship.number mover)) start so_far
    → (Fits so_far.state (part_act ship at (shipped now ship.fileset at mover)) → IsRepeatable so_far.state (part_act ship at (shipped now ship.fileset at mover))
    → DoesActs result (part_act ship at (shipped now ship.fileset at mover) ∷ []) so_far next)
    → DoesActs result (take (at + 1) (all_parts holding ship.from ship.number mover)) start next
part_done result sender now start so_far next holding ship mover at m low e so step =
    let parts = all_parts holding ship.from ship.number mover in
    let n = takes_next sender start.state holding ship mover at m low in
    let was = state_after start.state (take at parts) in
    let f : so_far.state ≡ was = made_of tt (take at parts) start so_far so in
    let act = part_act ship at (shipped sender ship.fileset at mover) in
    let told = part_act ship at (shipped now ship.fileset at mover) in
    let same : told ≡ act = ap (λ s. part_act ship at (shipped s ship.fileset at mover)) e in
    let fits : Fits so_far.state told = subst (λ s. Fits s told) (sym f) (subst (λ a. Fits was a) (sym same) n.fits) in
    let again : IsRepeatable so_far.state told = subst (λ s. IsRepeatable s told) (sym f) (subst (λ a. IsRepeatable was a) (sym same) n.again) in
    subst (λ l. DoesActs result l start next) (take_here parts at act n.here)
    (does_then tt result (take at parts) (act ∷ []) start so_far next so (subst (λ a. DoesActs result (a ∷ []) so_far next) same (step fits again)))

-- and it was the last, since it failed
pub parts_failed : {T U E F : Type 0} (first : Result T E) (result : Result U F) (start next : View) (parts : List Act) (at : ℕ) → OnOk result ⊥ → DoesActs first (take (at + 1) parts) start next → DoesActs result parts start next
parts_failed first (Ok value) start next parts at failed does = absurd failed
parts_failed {U = U} first (Err error) start next parts at failed does =
    subst (λ l. DoesActs {T = U} (Err error) l start next) (take-append-drop (at + 1) parts) (does_stop first error (take (at + 1) parts) (drop (at + 1) parts) start next does)

-- so a part failed, and nothing was done of the act behind the parts
pub failed_sent : {T U E F : Type 0} (first : Result T E) (result : Result U F) (parts : List Act) (at : ℕ) (left : Act) (start now end receiver taken : View) → OnOk result ⊥
    → DoesActs first (take (at + 1) parts) receiver taken → DoesActs {T = Unit {0}} {E = E} (Ok tt) [] start now → DoesActs first [] now end → HaveSent result parts left start receiver end taken
failed_sent first result parts at left start now end receiver taken failed came still gone =
    inl (failed, parts_failed first result receiver taken parts at failed came, does_failed first result [] start end failed (does_then tt first [] [] start now end still gone))

-- nothing is nothing, whatever the answer
pub does_nothing : {T U E F : Type 0} (result : Result T E) (value : U) (old new : View) → DoesActs result [] old new → DoesActs {E = F} (Ok value) [] old new
does_nothing result value old new does = record {
  done = does.done;
  within = does.within;
  all = (let few = does.within in omega (arith, few));
  state = does.state;
  leaves = does.leaves;
}

-- all parts came, and then the first store did an act, or not
pub all_sent : {T E : Type 0} (result : Result T E) (parts so_far : List Act) (left : Act) (start now end receiver taken : View) → so_far ≡ parts → DoesActs {T = Unit {0}} {E = E} (Ok tt) so_far receiver taken
    → DoesActs {T = Unit {0}} {E = E} (Ok tt) [] start now → DoesActs result (left ∷ []) now end → HaveSent result parts left start receiver end taken
all_sent {E = E} result parts so_far left start now end receiver taken whole came still gone =
    inr (subst (λ l. DoesActs {T = Unit {0}} {E = E} (Ok tt) l receiver taken) whole came, does_then tt result [] (left ∷ []) start now end still gone)

-- what they hold then
pub has_sent : {T E : Type 0} (result : Result T E) (parts : List Act) (left : Act) (sender receiver sent taken : View) → HaveSent result parts left sender receiver sent taken
    → OnOk result ((sent.state ≡ (act_done sender.state left).state) × (taken.state ≡ state_after receiver.state parts))
has_sent (Err error) parts left sender receiver sent taken have = tt
has_sent (Ok value) parts left sender receiver sent taken (inl (failed, came, still)) = absurd failed
has_sent (Ok value) parts left sender receiver sent taken (inr (came, gone)) = (made_of value (left ∷ []) sender sent gone, made_of tt parts receiver taken came)

-- among all stores
pub sent_steps : {S T E : Type 0} (view : S → View) (result : Result T E) (old : List S) (f t : ℕ) (sender receiver sent taken : S) (parts : List Act) (left : Act) → f ≢ t
    → slice_get old f ≡ Some sender → slice_get old t ≡ Some receiver → HaveSent result parts left (view sender) (view receiver) (view sent) (view taken)
    → DoSteps view result (steps_of t parts ++ steps_of f (left ∷ [])) old (set (set old f sent) t taken)
sent_steps view (Ok value) old f t sender receiver sent taken parts left apart one two (inl (failed, came, still)) = absurd failed
sent_steps {E = E} view (Err error) old f t sender receiver sent taken parts left apart one two (inl (failed, came, still)) =
    (let mid = set old f sent in
    let none : DoSteps {T = Unit {0}} {E = E} view (Ok tt) [] old mid = steps_one view (Ok tt) [] old f sender sent one (does_nothing (Err error) tt (view sender) (view sent) still) in
    let there : slice_get mid t ≡ Some receiver = set_beside old f t sent (λ e. apart (sym e)) ∙ two in
    steps_stop view (Err error) error (steps_of t parts) (steps_of f (left ∷ [])) old (set mid t taken)
    (steps_then view tt (Err error) [] (steps_of t parts) old mid (set mid t taken) none (steps_one view (Err error) parts mid t receiver taken there came)))
sent_steps {E = E} view result old f t sender receiver sent taken parts left apart one two (inr (came, gone)) =
    (let mid = set old t taken in
    let there : slice_get mid f ≡ Some sender = set_beside old t f taken apart ∙ one in
    subst (λ xs. DoSteps view result (steps_of t parts ++ steps_of f (left ∷ [])) old xs) (set_swap old f t sent taken apart)
    (steps_then view tt result (steps_of t parts) (steps_of f (left ∷ [])) old mid (set mid f sent) (steps_one view (Ok tt) parts old t receiver taken two came)
    (steps_one view result (left ∷ []) mid f sender sent there gone)))

pub sent_does : {S : Type 0} (view : S → View) (tells : Type 0) (old : List S) (result : Result (Unit {0}) RunStopped) (ship : Ship) (mover : Mover) (sender receiver sent taken : S)
    → ship.from.0 - 1 ≢ ship.to.0 - 1 → IsSent tells view result ship mover sender receiver sent taken → tells → (first second : S) (holding : Holding)
    → slice_get old (ship.from.0 - 1) ≡ Some sender → slice_get old (ship.to.0 - 1) ≡ Some receiver → slice_get old (ship.from.0 - 1) ≡ Some first → slice_get old (ship.to.0 - 1) ≡ Some second
    → MaySend (view first).state (view second).state holding ship mover
    → DoSteps view result (ship_steps ship.from ship.to ship.fileset holding ship.number mover) old (two_set old (ship.from.0 - 1) sent (ship.to.0 - 1) taken)
sent_does view tells old result ship mover sender receiver sent taken apart s t first second holding a b c d m =
    let p : Some first ≡ Some sender = sym c ∙ a in
    let q : Some second ≡ Some receiver = sym d ∙ b in
    let one : first ≡ sender = cc in
    let two : second ≡ receiver = cc in
    let may = subst (λ x. MaySend (view x).state (view receiver).state holding ship mover) one (subst (λ x. MaySend (view first).state (view x).state holding ship mover) two m) in
    sent_steps view result old (ship.from.0 - 1) (ship.to.0 - 1) sender receiver sent taken (all_parts holding ship.from ship.number mover) (Left ship.fileset) apart a b (s.does t holding may)

-- What is tried once more.
use Rattle.std.proofs.Common.{◌≡◌, ◌≤◌, ℕ, List, length, inl, inr, sym, subst, ◌∙◌, ap, arith}
use Rattle.std.specs.Prelude.{true, false, Result, Ok, Err, IfOk, IfErr, Some}
use Rattle.base_types.specs.Crash.{IsQuiet}
use Rattle.base_types.specs.Faults.{RoseBy}
use Rattle.base_types.specs.View.{View}
use Rattle.base_types.specs.declared.ids.ServerId.{ServerId}
use Rattle.tree_calls.specs.declared.roster.Roster.{Roster}
use Rattle.base_outside.proofs.Runs.{quiet, then, weaker}
use Rattle.base_outside.specs.Runs.{LeavesOnly}
use Rattle.disk_image.specs.Aggregate.{is_blank}
use Rattle.disk_image.specs.Refused.{refused_at}
use Rattle.disk_records.specs.Record.{record_in}
use Rattle.disk_aggregate.specs.Records.{HasRecord, HasSameRecord}
use Rattle.disk_aggregate.specs.Refused.{IsRefused, IsOpenFault}
use Rattle.disk_aggregate.specs.declared.refused.MountRefused.{MountRefused}
use Rattle.disk_aggregate.specs.declared.refused.MountRefused.TheVariants.{NotAggregate, Failed, Memory}
use Rattle.store_state.specs.declared.state.StoreState.{StoreState}
use Rattle.service_disks.specs.Opening.{IsNotFormatted, IsNotMounted, LeavesFormatted, LeavesOpened}

-- counts of faults
pub rose_twice : (a b c : ℕ) → RoseBy 1 a b → RoseBy 1 b c → RoseBy 2 a c
rose_twice a b c first second = omega (arith, first, second)

pub rose_since : (a b c : ℕ) → RoseBy 1 a b → b ≤ c → RoseBy 1 a c
rose_since a b c rose less = omega (arith, rose, less)

-- of either result
pub ok_so : {T E : Type 0} {P Q : T → Type 0} (result : Result T E) → ((x : T) → P x → Q x) → IfOk result P → IfOk result Q
ok_so (Ok x) so has = so x has
ok_so (Err e) so has = tt

pub ok_both : {T E : Type 0} {P Q R : T → Type 0} (result : Result T E) → ((x : T) → P x → Q x → R x) → IfOk result P → IfOk result Q → IfOk result R
ok_both (Ok x) so one two = so x one two
ok_both (Err e) so one two = tt

pub err_so : {T E : Type 0} {P Q : E → Type 0} (result : Result T E) → ((e : E) → P e → Q e) → IfErr result P → IfErr result Q
err_so (Ok x) so has = tt
err_so (Err e) so has = so e has

pub err_both : {T E : Type 0} {P Q R : E → Type 0} (result : Result T E) → ((e : E) → P e → Q e → R e) → IfErr result P → IfErr result Q → IfErr result R
err_both (Ok x) so one two = tt
err_both (Err e) so one two = so e one two

-- a record that other bytes have too
pub record_too : (state : StoreState) (roster : Roster) (server : ServerId) (old bytes : List ℕ) → (state.server ≡ server) × (state.roster ≡ roster) → HasRecord state old → HasSameRecord roster server old bytes → HasRecord state bytes
record_too state roster server old bytes own has same =
    let here : record_in roster server old ≡ Some state = subst (λ (r : Roster). record_in r server old ≡ Some state) own.1 (subst (λ (n : ServerId). record_in state.roster n old ≡ Some state) own.0 has) in
    subst (λ (n : ServerId). record_in state.roster n bytes ≡ Some state) (sym own.0) (subst (λ (r : Roster). record_in r server bytes ≡ Some state) (sym own.1) (same ∙ here))

-- a mount that failed, and then another
module _ (tells : Type 0) (roster : Roster) (server : ServerId) (old mid : View) where
  pub leaves_both : {new : View} → HasSameRecord roster server old.image mid.image → LeavesOnly (HasSameRecord roster server old.image) old mid → LeavesOnly (HasSameRecord roster server mid.image) mid new
      → LeavesOnly (HasSameRecord roster server old.image) old new
  leaves_both same first second = then first (weaker second (λ c has. has ∙ same))

  pub refused_again : (why : MountRefused) (new : View) → RoseBy 1 old.faults mid.faults → mid.faults ≤ new.faults → IsRefused tells server.0 (length roster.capacity) why mid new → IsNotMounted tells roster server why old new
  refused_again (NotAggregate place) new rose less is = (
    inr (rose_since old.faults mid.faults new.faults rose less),
    λ told. subst (λ (l : List ℕ). refused_at server.0 (length roster.capacity) l ≡ Some place) (sym is.0.image) (is.1 told),
  )
  refused_again Failed new rose less is = (rose_twice old.faults mid.faults new.faults rose is.0, is.1)
  refused_again Memory new rose less is = tt

-- and a mount that is refused otherwise
pub refused_once : (tells : Type 0) (roster : Roster) (server : ServerId) (place : ℕ) (old new : View) → IsRefused tells server.0 (length roster.capacity) (NotAggregate place) old new → IsNotMounted tells roster server (NotAggregate place) old new
refused_once tells roster server place old new is = (inl is.0, λ told. subst (λ (l : List ℕ). refused_at server.0 (length roster.capacity) l ≡ Some place) (sym is.0.image) (is.1 told))

-- a format that failed, and then another
pub unformatted_again : (why : MountRefused) (old mid new : View) → RoseBy 1 old.faults mid.faults → IsOpenFault why mid new → IsNotFormatted why old new
unformatted_again Failed old mid new rose is = (rose_twice old.faults mid.faults new.faults rose is.0, is.1)
unformatted_again Memory old mid new rose is = tt
unformatted_again (NotAggregate place) old mid new rose is = is

-- behind a look at the disk
pub opened_blank : (roster : Roster) (server : ServerId) (old mid new : View) → IsQuiet old mid → is_blank old.image ≡ true → LeavesFormatted roster server mid new → LeavesOpened roster server old new
opened_blank roster server old mid new still blank made = then (quiet _ still) (weaker made (λ c has. inl (blank, has)))

pub opened_other : (roster : Roster) (server : ServerId) (old mid new : View) → IsQuiet old mid → is_blank old.image ≡ false → LeavesOnly (HasSameRecord roster server mid.image) mid new → LeavesOpened roster server old new
opened_other roster server old mid new still unblank made =
    then (quiet _ still) (weaker made (λ c has. inr (unblank, has ∙ ap (λ (l : List ℕ). record_in roster server l) still.image)))

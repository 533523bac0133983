-- The record that is made of what was read.
use Rattle.std.proofs.Common.{◌≡◌, ℕ, ◌-◌, List, [], ◌∷◌, length, map, refl, ◌∙◌, ap}
use Rattle.std.specs.Prelude.{true, Option, IfSome}
use Rattle.base_types.specs.declared.ids.ServerId.{ServerId}
use Rattle.tree_calls.specs.declared.roster.Roster.{Roster}
use Rattle.message_types.specs.Soundness.{Each}
use Rattle.store_acts.specs.Sound.{IsHolding, KeepsLimits}
use Rattle.store_state.specs.declared.state.Holding.{Holding}
use Rattle.store_state.specs.declared.state.HostState.{HostState}
use Rattle.store_state.specs.declared.state.HostState.TheVariants.{Unknown, Live, IsDown, Ended}
use Rattle.store_state.specs.declared.state.StoreState.{StoreState}
use Rattle.store_state.specs.declared.state.TakenShip.{TakenShip}
use Rattle.base_types.specs.Image.{byte_at}
use Rattle.disk_pages.specs.Numbers.{is_numbers_page}
use Rattle.disk_pages.specs.Server.{server_of}
use Rattle.disk_pages.specs.Puts.{SaysFacts, SaysNumbers}
use Rattle.disk_records.specs.Record.{host_known, ship_taken}
use Rattle.disk_records.specs.Said.{facts_said, host_said, taken_said}
use Rattle.store_records.specs.Stored.{IsStorable}
use Rattle.disk_records.specs.Loading.{state_with}
use Rattle.disk_records.proofs.Limits.{numbers_kept}
use Rattle.disk_records.proofs.LoadSlots.{records_back}

known_back : (hosts : List HostState) → map host_known (map host_said hosts) ≡ hosts
known_back [] = refl
known_back (h ∷ hosts) = (let rest = known_back hosts in λ i. one h i ∷ rest i)
  where
    one : (h : HostState) → host_known (host_said h) ≡ h
    one Unknown = refl
    one Live = refl
    one IsDown = refl
    one Ended = refl

ships_back : (taken : List TakenShip) → map ship_taken (map taken_said taken) ≡ taken
ships_back [] = refl
ships_back (ship ∷ taken) = ap (λ rest. ship ∷ rest) (ships_back taken)

-- where the pages say a record, it is this one
pub state_read : (state : StoreState) → IsStorable state → (server : ServerId) → server ≡ state.server → (roster : Roster) → roster ≡ state.roster → (blocks : ℕ) → blocks - 1024 ≡ state.capacity
    → (page numbers : List ℕ) → SaysFacts (facts_said state) page → SaysNumbers state.records numbers → (slots : List (Option Holding)) → slots ≡ state.slots
    → state_with server roster blocks page numbers slots ≡ state
state_read state storable server server_is roster roster_is blocks capacity page numbers facts says slots slots_are =
    (let records = records_back numbers state.records storable.limits.records.count says in
    let hosts = (λ i. map host_known (facts.says i).hosts) ∙ known_back state.hosts in
    let taken = (λ i. map ship_taken (facts.says i).taken) ∙ ships_back state.taken in
    λ i. record {
      server = server_is i;
      roster = roster_is i;
      capacity = capacity i;
      next = (facts.says i).next;
      slots = slots_are i;
      records = records i;
      hosts = hosts i;
      epoch = (facts.says i).epoch;
      ship = (facts.says i).ship;
      taken = taken i;
    })

-- and what is read is within limits
pub state_within : (server : ServerId) (roster : Roster) (blocks : ℕ) (page numbers : List ℕ) (slots : List (Option Holding)) → length slots ≡ 16 → is_numbers_page numbers ≡ true
    → Each (λ slot. IfSome slot (IsHolding roster)) slots → KeepsLimits (state_with server roster blocks page numbers slots)
state_within server roster blocks page numbers slots size is each = record { table = size; records = numbers_kept numbers is; slots = each }

-- a page that says the facts of a record is one of format 2
pub facts_format : (state : StoreState) (page : List ℕ) → SaysFacts (facts_said state) page → byte_at page 29 ≡ 2
unfolding server_of
facts_format state page says = λ i. (says.says i).format

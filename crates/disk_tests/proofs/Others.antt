-- A transaction that is the only open one.
use Rattle.std.proofs.Common.{◌≡◌, ◌≢◌, ◌<◌, ◌≤◌, ◌⊎◌, ℕ, ◌+◌, List, [], ◌∷◌, ◌++◌, length, refl, ◌∙◌, ap, inl, inr, arith, get_or, set, length-set}
use Rattle.std.specs.Prelude.{Bool, true, false, ◌==◌, if◌then◌else◌, replicate}
use Rattle.std.proofs.lemmas.Bool.{cases_lt, cases_eq}
use Rattle.std.proofs.lemmas.Bool.Decides.{nat_tests}
use Rattle.std.proofs.lemmas.List.{get_or_past, get_or-set_same, get_or-set_other, get_or-replicate, length-replicate}
use Rattle.disk_layout.specs.declared.half.Half.{Half}
use Rattle.disk_layout.specs.declared.superblock.Superblock.{Superblock}
use Rattle.disk_log.specs.declared.put.Put.{Put}
use Rattle.disk_log.specs.Puts.{count_of, IsOwn, without_page}
use Rattle.disk_log.specs.State.{State, MayPut, HasNoOpen, HasRoom, begun, ended, with_put, fresh_state}
use Rattle.disk_log.specs.State.{IsOnly}

-- one more put counts at most one more
step_out : (mine : Bool) (x c : ℕ) → x ≤ c + 1 → x ≤ (if mine then c + 1 else c) + 1
step_out true x c le = omega arith
step_out false x c le = le

step_in : (mine : Bool) (x c : ℕ) → x ≤ c + 1 → (if mine then x + 1 else x) ≤ (if mine then c + 1 else c) + 1
step_in true x c le = omega arith
step_in false x c le = le

count_one : (mine : Bool) → (if mine then 0 + 1 else 0) ≤ 1
count_one true = omega arith
count_one false = omega arith

count_put : (slot : ℕ) (put : Put) (puts : List Put) → count_of slot (without_page put.page puts ++ put ∷ []) ≤ count_of slot puts + 1
count_put slot put [] = count_one (put.slot == slot)
count_put slot put (head ∷ puts) = by (head.page == put.page) (count_put slot put puts)
  where
    by : (here : Bool) → count_of slot (without_page put.page puts ++ put ∷ []) ≤ count_of slot puts + 1
        → count_of slot ((if here then without_page put.page puts else head ∷ without_page put.page puts) ++ put ∷ []) ≤ count_of slot (head ∷ puts) + 1
    by true le = step_out (head.slot == slot) _ (count_of slot puts) le
    by false le = step_in (head.slot == slot) _ (count_of slot puts) le

counts_itself : (n c : ℕ) → (if n == n then c + 1 else c) ≡ 0 → ⊥
counts_itself n c is = by (n == n) refl is
  where
    by : (b : Bool) → (n == n) ≡ b → (if b then c + 1 else c) ≡ 0 → ⊥
    by true e is = absurd (omega arith)
    by false e is = absurd (grind (arith, nat_tests, e))

counted_less : (mine : Bool) (c : ℕ) → (if mine then c + 1 else c) ≡ 0 → c ≡ 0
counted_less true c is = absurd (omega arith)
counted_less false c is = is

-- where no other transaction put a page, each page is its own
own_alone : (slot page : ℕ) (puts : List Put) → ((other : ℕ) → other ≢ slot → count_of other puts ≡ 0) → IsOwn slot page puts
own_alone slot page [] none = tt
own_alone slot page (put ∷ puts) none = (λ same. by (cases_eq put.slot slot), own_alone slot page puts (λ other apart. counted_less (put.slot == other) (count_of other puts) (none other apart)))
  where
    by : (put.slot ≡ slot) ⊎ (put.slot ≢ slot) → put.slot ≡ slot
    by (inl e) = e
    by (inr apart) = absurd (counts_itself put.slot (count_of put.slot puts) (none put.slot apart))

none_counted : (state : State) (slot : ℕ) → HasRoom state → get_or state.reservations slot 0 ≡ 0 → count_of slot state.puts ≡ 0
none_counted state slot room none = let e = room.enough slot in omega (arith, e, none)

-- no transaction put anything where none is open
pub none_put : (old new : State) (slot needed : ℕ) → HasRoom old → HasNoOpen old → new ≡ begun old slot needed → count_of slot new.puts ≤ 0
none_put old new slot needed room none is =
    let e : count_of slot new.puts ≡ count_of slot old.puts = ap (λ (state : State). count_of slot state.puts) is in
    let f = none_counted old slot room (none slot) in
    omega (arith, e, f)

-- the only open transaction may put a page where it put fewer than three
pub may_put : (state : State) (slot page i : ℕ) → HasRoom state → IsOnly state slot 7 → count_of slot state.puts ≤ i → i < 3 → MayPut state slot page
may_put state slot page i room only few lt =
    let e = only.reserves in
    (omega (arith, e), own_alone slot page state.puts (λ other apart. none_counted state other room (only.others other apart)), inr (omega (arith, e, few, lt)))

-- a page that was put counts once
pub count_after : (old new : State) (slot i : ℕ) (put : Put) → new ≡ with_put old put → count_of slot old.puts ≤ i → count_of slot new.puts ≤ i + 1
count_after old new slot i put is few =
    let e : count_of slot new.puts ≡ count_of slot (without_page put.page old.puts ++ put ∷ []) = ap (λ (state : State). count_of slot state.puts) is in
    let f = count_put slot put old.puts in
    omega (arith, e, f, few)

pub only_after : (old new : State) (slot : ℕ) (put : Put) → new ≡ with_put old put → IsOnly old slot 7 → IsOnly new slot 7
only_after old new slot put is only = record {
  reserves = ap (λ (state : State). get_or state.reservations slot 0) is ∙ only.reserves;
  others = λ other apart. ap (λ (state : State). get_or state.reservations other 0) is ∙ only.others other apart;
}

pub only_begun : (old new : State) (slot : ℕ) → HasNoOpen old → slot < length old.reservations → new ≡ begun old slot 7 → IsOnly new slot 7
only_begun old new slot none lt is = record {
  reserves = ap (λ (state : State). get_or state.reservations slot 0) is ∙ get_or-set_same old.reservations slot 7 0 lt;
  others = λ other apart. ap (λ (state : State). get_or state.reservations other 0) is ∙ get_or-set_other old.reservations slot other 7 0 apart ∙ none other;
}

set_past : (xs : List ℕ) (slot : ℕ) → (slot < length xs) ⊎ (length xs ≤ slot) → get_or (set xs slot 0) slot 0 ≡ 0
set_past xs slot (inl lt) = get_or-set_same xs slot 0 0 lt
set_past xs slot (inr le) = get_or_past (set xs slot 0) slot 0 (let e = length-set xs slot 0 in omega (arith, e, le))

-- none is open once the only one is closed
none_closed : (state : State) (slot other : ℕ) → IsOnly state slot 7 → (other ≡ slot) ⊎ (other ≢ slot) → get_or (set state.reservations slot 0) other 0 ≡ 0
none_closed state slot other only (inl same) = ap (λ (k : ℕ). get_or (set state.reservations slot 0) k 0) same ∙ set_past state.reservations slot (cases_lt slot (length state.reservations))
none_closed state slot other only (inr apart) = get_or-set_other state.reservations slot other 0 0 apart ∙ only.others other apart

pub none_ended : (old new : State) (slot : ℕ) → IsOnly old slot 7 → new ≡ ended old slot → HasNoOpen new
none_ended old new slot only is = λ other. ap (λ (state : State). get_or state.reservations other 0) is ∙ none_closed old slot other only (cases_eq other slot)

-- nothing is reserved in a new log
none_in : (n slot none : ℕ) → (slot < n) ⊎ (n ≤ slot) → get_or (replicate n none) slot none ≡ none
none_in n slot none (inl lt) = get_or-replicate n slot none none lt
none_in n slot none (inr le) = get_or_past (replicate n none) slot none (let e = length-replicate n none in omega (arith, e, le))

pub none_fresh : (state : State) (superblock : Superblock) (half : Half) → state ≡ fresh_state superblock half → HasNoOpen state
none_fresh state superblock half is = λ slot. ap (λ (s : State). get_or s.reservations slot 0) is ∙ none_in 2048 slot 0 (cases_lt slot 2048)

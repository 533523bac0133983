-- The entries that transactions reserve.
use Rattle.std.proofs.Common.{◌≡◌, ◌≢◌, ◌<◌, ◌≤◌, ◌⊎◌, ℕ, suc, ◌+◌, ◌*◌, ◌-◌, List, [], ◌∷◌, ◌++◌, length, refl, sym, ◌∙◌, ap, subst, inl, inr, arith, get_or, set, length-append, length-set}
use Rattle.std.specs.Prelude.{sum, Bool, true, false, ◌==◌, ◌&&◌, ◌||◌, if◌then◌else◌}
use Rattle.std.proofs.lemmas.Bool.{cases_lt, cases_eq}
use Rattle.std.proofs.lemmas.Bool.Decides.{nat_tests}
use Rattle.std.proofs.lemmas.List.{get_or_past, get_or-set_other}
use Rattle.std.proofs.lemmas.List.Sums.{sum_by-cons, sum_by-set, get_or-le-sum_by}
use Rattle.disk_layout.specs.declared.entry.Entry.TheVariants.{Update, End}
use Rattle.disk_log.specs.declared.put.Put.{Put}
use Rattle.disk_log.specs.Puts.{count_of, is_put, IsOwn, updates_of, run_of, without, without_page}
use Rattle.disk_log.specs.State.{State, IsOpen, MayPut, free_in, begun, with_put, closed, ended, HasRoom}

-- as many entries are reserved as there are slots, where none is free
pub all_reserved : (xs : List ℕ) → ((k : ℕ) → k < length xs → get_or xs k 0 ≢ 0) → length xs ≤ sum xs
all_reserved [] each = omega arith
all_reserved (x ∷ xs) each =
    let rest : length xs ≤ sum xs = all_reserved xs (λ k lt. each (suc k) (omega arith)) in
    let here : x ≢ 0 = each 0 (omega arith) in
    omega (arith, sum_by-cons (λ (n : ℕ). n) x xs, rest, here)

-- an open transaction has a slot
pub open_slot : (xs : List ℕ) (slot : ℕ) → 0 < get_or xs slot 0 → slot < length xs
open_slot xs slot some = by (cases_lt slot (length xs))
  where
    by : (slot < length xs) ⊎ (length xs ≤ slot) → slot < length xs
    by (inl lt) = lt
    by (inr le) = absurd (let e = get_or_past xs slot 0 le in omega arith)

same_test : (a b : ℕ) → (a == b) ≡ true → a ≡ b
same_test a b is = grind (arith, nat_tests)

other_test : (a b : ℕ) → (a == b) ≡ false → a ≢ b
other_test a b is = λ e. absurd (grind (arith, nat_tests, is, e))

other_false : (a b : ℕ) → a ≢ b → (a == b) ≡ false
other_false a b other = grind (arith, nat_tests)

count_step : (mine : Bool) (n : ℕ) → (if mine then n + 1 else n) ≤ n + 1
count_step true n = omega arith
count_step false n = omega arith

-- a transaction has an entry for each page that it put, and one for its end
pub length_updates : (slot name : ℕ) (puts : List Put) → length (updates_of slot name puts) ≡ count_of slot puts
length_updates slot name [] = refl
length_updates slot name (put ∷ puts) = by (put.slot == slot) (length_updates slot name puts)
  where
    by : (mine : Bool) → length (updates_of slot name puts) ≡ count_of slot puts
        → length (if mine then Update name put.page put.old put.new ∷ updates_of slot name puts else updates_of slot name puts) ≡ (if mine then count_of slot puts + 1 else count_of slot puts)
    by true rest = omega arith
    by false rest = rest

pub length_run : (slot name : ℕ) (puts : List Put) → length (run_of slot name puts) ≡ count_of slot puts + 1
length_run slot name puts = let e = length-append (updates_of slot name puts) (End name ∷ []) in let f = length_updates slot name puts in omega arith

count_without_same : (slot : ℕ) (puts : List Put) → count_of slot (without slot puts) ≡ 0
count_without_same slot [] = refl
count_without_same slot (put ∷ puts) = by (put.slot == slot) refl (count_without_same slot puts)
  where
    by : (mine : Bool) → (put.slot == slot) ≡ mine → count_of slot (without slot puts) ≡ 0 → count_of slot (if mine then without slot puts else put ∷ without slot puts) ≡ 0
    by true is rest = rest
    by false is rest = (λ j. if is j then count_of slot (without slot puts) + 1 else count_of slot (without slot puts)) ∙ rest

count_without_other : (slot other : ℕ) (puts : List Put) → other ≢ slot → count_of other (without slot puts) ≡ count_of other puts
count_without_other slot other [] apart = refl
count_without_other slot other (put ∷ puts) apart = by (put.slot == slot) refl (count_without_other slot other puts apart)
  where
    by : (mine : Bool) → (put.slot == slot) ≡ mine → count_of other (without slot puts) ≡ count_of other puts
        → count_of other (if mine then without slot puts else put ∷ without slot puts) ≡ (if put.slot == other then count_of other puts + 1 else count_of other puts)
    by true is rest = rest ∙ (let not_here : (put.slot == other) ≡ false = other_false put.slot other (λ e. apart (sym e ∙ same_test put.slot slot is)) in λ j. if sym not_here j then count_of other puts + 1 else count_of other puts)
    by false is rest = λ j. if put.slot == other then rest j + 1 else rest j

count_push : (slot : ℕ) (puts : List Put) (last : Put) → count_of slot (puts ++ last ∷ []) ≡ (if last.slot == slot then count_of slot puts + 1 else count_of slot puts)
count_push slot [] last = refl
count_push slot (put ∷ puts) last = by (put.slot == slot) (last.slot == slot) (count_push slot puts last)
  where
    by : (mine here : Bool) → count_of slot (puts ++ last ∷ []) ≡ (if here then count_of slot puts + 1 else count_of slot puts)
        → (if mine then count_of slot (puts ++ last ∷ []) + 1 else count_of slot (puts ++ last ∷ [])) ≡ (if here then (if mine then count_of slot puts + 1 else count_of slot puts) + 1 else (if mine then count_of slot puts + 1 else count_of slot puts))
    by true true rest = omega arith
    by true false rest = omega arith
    by false true rest = rest
    by false false rest = rest

-- taking a page out of the puts, all of which are of one transaction
count_page_le : (slot page : ℕ) (puts : List Put) → count_of slot (without_page page puts) ≤ count_of slot puts
count_page_le slot page [] = omega arith
count_page_le slot page (put ∷ puts) = by (put.page == page) (put.slot == slot) refl (count_page_le slot page puts)
  where
    by : (here mine : Bool) → (put.slot == slot) ≡ mine → count_of slot (without_page page puts) ≤ count_of slot puts
        → count_of slot (if here then without_page page puts else put ∷ without_page page puts) ≤ (if mine then count_of slot puts + 1 else count_of slot puts)
    by true true is rest = omega arith
    by true false is rest = rest
    by false true is rest =
        let e : (if put.slot == slot then count_of slot (without_page page puts) + 1 else count_of slot (without_page page puts)) ≡ count_of slot (without_page page puts) + 1 =
        λ j. if is j then count_of slot (without_page page puts) + 1 else count_of slot (without_page page puts) in
        omega (arith, e, rest)
    by false false is rest =
        let e : (if put.slot == slot then count_of slot (without_page page puts) + 1 else count_of slot (without_page page puts)) ≡ count_of slot (without_page page puts) =
        λ j. if is j then count_of slot (without_page page puts) + 1 else count_of slot (without_page page puts) in
        omega (arith, e, rest)

count_page_other : (slot other page : ℕ) (puts : List Put) → IsOwn slot page puts → other ≢ slot → count_of other (without_page page puts) ≡ count_of other puts
count_page_other slot other page [] own apart = refl
count_page_other slot other page (put ∷ puts) own apart = by (put.page == page) refl (count_page_other slot other page puts own.1 apart)
  where
    by : (here : Bool) → (put.page == page) ≡ here → count_of other (without_page page puts) ≡ count_of other puts
        → count_of other (if here then without_page page puts else put ∷ without_page page puts) ≡ (if put.slot == other then count_of other puts + 1 else count_of other puts)
    by true is rest = rest ∙ (let not_here : (put.slot == other) ≡ false = other_false put.slot other (λ e. apart (sym e ∙ own.0 (same_test put.page page is))) in λ j. if sym not_here j then count_of other puts + 1 else count_of other puts)
    by false is rest = λ j. if put.slot == other then rest j + 1 else rest j

count_page_put : (slot page : ℕ) (puts : List Put) → is_put slot page puts ≡ true → count_of slot (without_page page puts) + 1 ≤ count_of slot puts
count_page_put slot page [] is = absurd (grind (arith, is))
count_page_put slot page (put ∷ puts) is = by (put.slot == slot) refl (put.page == page) refl is (λ later. count_page_put slot page puts later) (count_page_le slot page puts)
  where
    by : (mine : Bool) → (put.slot == slot) ≡ mine → (here : Bool) → (put.page == page) ≡ here → ((mine && here) || is_put slot page puts) ≡ true
        → (is_put slot page puts ≡ true → count_of slot (without_page page puts) + 1 ≤ count_of slot puts) → count_of slot (without_page page puts) ≤ count_of slot puts
        → count_of slot (if here then without_page page puts else put ∷ without_page page puts) + 1 ≤ (if mine then count_of slot puts + 1 else count_of slot puts)
    by true m true h is later le = omega arith
    by true m false h is later le =
        let e : (if put.slot == slot then count_of slot (without_page page puts) + 1 else count_of slot (without_page page puts)) ≡ count_of slot (without_page page puts) + 1 =
        λ j. if m j then count_of slot (without_page page puts) + 1 else count_of slot (without_page page puts) in
        omega (arith, e, later is)
    by false m true h is later le = later is
    by false m false h is later le =
        let e : (if put.slot == slot then count_of slot (without_page page puts) + 1 else count_of slot (without_page page puts)) ≡ count_of slot (without_page page puts) =
        λ j. if m j then count_of slot (without_page page puts) + 1 else count_of slot (without_page page puts) in
        omega (arith, e, later is)

-- what a state makes of its room
pub room_begun : (state : State) (slot needed : ℕ) → HasRoom state → slot < length state.reservations → get_or state.reservations slot 0 ≡ 0 → needed ≤ free_in state → HasRoom (begun state slot needed)
room_begun state slot needed room lt none fits = record {
  slots = length-set state.reservations slot needed ∙ room.slots;
  in_all = let e = sum_by-set (λ (n : ℕ). n) state.reservations slot needed 0 lt in let f = room.in_all in omega (arith, e, f, none);
  room = let e = room.room in omega arith;
  enough = λ other. by other (cases_eq other slot);
}
  where
    by : (other : ℕ) → (other ≡ slot) ⊎ (other ≢ slot) → 2 * count_of other state.puts ≤ get_or (set state.reservations slot needed) other 0 - 1
    by other (inl same) = let e = room.enough other in let f : get_or state.reservations other 0 ≡ 0 = ap (λ (n : ℕ). get_or state.reservations n 0) same ∙ none in omega arith
    by other (inr apart) = let e = room.enough other in let f = get_or-set_other state.reservations slot other needed 0 apart in omega arith

pub room_put : (state : State) (put : Put) → HasRoom state → MayPut state put.slot put.page → HasRoom (with_put state put)
room_put state put room may = record {
  slots = room.slots;
  in_all = room.in_all;
  room = room.room;
  enough = λ other. by other (put.slot == other) refl (count_push other (without_page put.page state.puts) put);
}
  where
    mine : (is_put put.slot put.page state.puts ≡ true) ⊎ (2 * count_of put.slot state.puts + 2 < get_or state.reservations put.slot 0) → 2 * (count_of put.slot (without_page put.page state.puts) + 1) ≤ get_or state.reservations put.slot 0 - 1
    mine (inl before) = let e = count_page_put put.slot put.page state.puts before in let f = room.enough put.slot in omega arith
    mine (inr few) = let e = count_page_le put.slot put.page state.puts in omega arith

    by : (other : ℕ) (here : Bool) → (put.slot == other) ≡ here
        → count_of other (without_page put.page state.puts ++ put ∷ []) ≡ (if put.slot == other then count_of other (without_page put.page state.puts) + 1 else count_of other (without_page put.page state.puts))
        → 2 * count_of other (without_page put.page state.puts ++ put ∷ []) ≤ get_or state.reservations other 0 - 1
    by other true is count =
        let e : put.slot ≡ other = same_test put.slot other is in
        let f : count_of other (without_page put.page state.puts ++ put ∷ []) ≡ count_of other (without_page put.page state.puts) + 1 =
        count ∙ (λ j. if is j then count_of other (without_page put.page state.puts) + 1 else count_of other (without_page put.page state.puts)) in
        let g : 2 * (count_of other (without_page put.page state.puts) + 1) ≤ get_or state.reservations other 0 - 1 =
        subst (λ (n : ℕ). 2 * (count_of n (without_page put.page state.puts) + 1) ≤ get_or state.reservations n 0 - 1) e (mine may.2) in
        omega (arith, f, g)
    by other false is count =
        let f : count_of other (without_page put.page state.puts ++ put ∷ []) ≡ count_of other (without_page put.page state.puts) =
        count ∙ (λ j. if is j then count_of other (without_page put.page state.puts) + 1 else count_of other (without_page put.page state.puts)) in
        let g = count_page_other put.slot other put.page state.puts may.1 (λ e. other_test put.slot other is (sym e)) in
        let h = room.enough other in
        omega (arith, f, g, h)

enough_closed : (state : State) (slot : ℕ) → HasRoom state → slot < length state.reservations → (other : ℕ) → (other ≡ slot) ⊎ (other ≢ slot) → 2 * count_of other (without slot state.puts) ≤ get_or (set state.reservations slot 0) other 0 - 1
enough_closed state slot room lt other (inl same) =
    let e : count_of other (without slot state.puts) ≡ 0 = ap (λ (n : ℕ). count_of n (without slot state.puts)) same ∙ count_without_same slot state.puts in omega arith
enough_closed state slot room lt other (inr apart) =
    let e = count_without_other slot other state.puts apart in let f = get_or-set_other state.reservations slot other 0 0 apart in let g = room.enough other in omega arith

sum_closed : (state : State) (slot : ℕ) → HasRoom state → slot < length state.reservations → state.reserved - get_or state.reservations slot 0 ≡ sum (set state.reservations slot 0)
sum_closed state slot room lt = let e = sum_by-set (λ (n : ℕ). n) state.reservations slot 0 0 lt in let f = room.in_all in omega (arith, e, f)

-- a reservation is one of all
pub reserved_part : (state : State) (slot : ℕ) → HasRoom state → slot < length state.reservations → get_or state.reservations slot 0 ≤ state.reserved
reserved_part state slot room lt = let e = get_or-le-sum_by (λ (n : ℕ). n) state.reservations slot 0 lt in let f = room.in_all in omega (arith, e, f)

pub room_closed : (state : State) (slot : ℕ) → HasRoom state → slot < length state.reservations → HasRoom (closed state slot)
room_closed state slot room lt = record {
  slots = length-set state.reservations slot 0 ∙ room.slots;
  in_all = sum_closed state slot room lt;
  room = let e = room.room in omega arith;
  enough = λ other. enough_closed state slot room lt other (cases_eq other slot);
}

-- the entries of a transaction that ends fit into what it reserved
pub run_fits : (state : State) (slot : ℕ) → HasRoom state → IsOpen state slot → length (run_of slot (length state.entries) state.puts) ≤ get_or state.reservations slot 0
run_fits state slot room opened = let e = length_run slot (length state.entries) state.puts in let f = room.enough slot in omega arith

pub room_ended : (state : State) (slot : ℕ) → HasRoom state → IsOpen state slot → HasRoom (ended state slot)
room_ended state slot room opened =
    let lt = open_slot state.reservations slot opened in
    record {
      slots = length-set state.reservations slot 0 ∙ room.slots;
      in_all = sum_closed state slot room lt;
      room =
          let e = length-append state.entries (run_of slot (length state.entries) state.puts) in
          let f = run_fits state slot room opened in
          let g = reserved_part state slot room lt in
          let h = room.room in
          omega (arith, e, f, g, h);
      enough = λ other. enough_closed state slot room lt other (cases_eq other slot);
    }

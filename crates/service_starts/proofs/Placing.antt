-- Slots in the order of servers.
use Rattle.std.proofs.Common.{◌<◌, length, get_or, drop, not, subst, ◌≡◌, ℕ, ◌+◌, Bool, true, false, cond, List, [], ◌∷◌, ◌++◌, Option, Some, None, refl, sym, ap, ◌∙◌}
use Rattle.std.specs.Prelude.{fold, map, filter}
use Rattle.std.specs.List.{find, filter_map, cons_option}
use Rattle.std.specs.Option.{option_map, option_map_or}
use Rattle.std.proofs.lemmas.List.Folds.{find-append}
use Rattle.std.proofs.lemmas.List.Elements.{filter-append, filter_map-append}
use Rattle.std.proofs.lemmas.List.Sums.{fold-append}
use Rattle.std.proofs.lemmas.List.{map-append, drop_more}
use Rattle.base_types.specs.declared.ids.ServerId.{ServerId}
use Rattle.store_memory.specs.declared.told.Slot.{Slot}
use Rattle.service_starts.specs.declared.told.Told.{Told}
use Rattle.service_starts.specs.Told.{Placed, placed_at, placed_from}
use Rattle.service_starts.specs.Fitting.{fits, misfit, is_open, settlings_in}

-- a slot of a server that is found
pub find_placed : (p : Placed → Bool) (server : ℕ) (slots : List Slot)
    → find p (placed_at server slots) ≡ option_map (λ slot. record { server = record { 0 = server }; slot = slot })
    (find (λ slot. p (record { server = record { 0 = server }; slot = slot })) slots)
find_placed p server [] = refl
find_placed p server (slot ∷ slots) =
    elim (p (record { server = record { 0 = server }; slot = slot })) as
    (λ t. cond t (Some (record { server = record { 0 = server }; slot = slot })) (find p (placed_at server slots))
    ≡ option_map (λ s. record { server = record { 0 = server }; slot = s })
    (cond t (Some slot) (find (λ s. p (record { server = record { 0 = server }; slot = s })) slots)))
    [ true ↦ refl | false ↦ find_placed p server slots ]

-- none of a server's is found
pub passed : (p : Placed → Bool) (server : ℕ) (told : Told) (rest : List Told)
    → find (λ slot. p (record { server = record { 0 = server }; slot = slot })) told.slots ≡ None
    → find p (placed_from server (told ∷ rest)) ≡ find p (placed_from (server + 1) rest)
passed p server told rest h =
    let none : find p (placed_at server told.slots) ≡ None =
    find_placed p server told.slots ∙ ap (option_map (λ slot. record { server = record { 0 = server }; slot = slot })) h in
    find-append p (placed_at server told.slots) (placed_from (server + 1) rest) ∙ rw none refl

-- one of them is
pub caught : (p : Placed → Bool) (server : ℕ) (told : Told) (rest : List Told) (slot : Slot)
    → find (λ slot. p (record { server = record { 0 = server }; slot = slot })) told.slots ≡ Some slot
    → find p (placed_from server (told ∷ rest)) ≡ Some (record { server = record { 0 = server }; slot = slot })
caught p server told rest slot h =
    let one : find p (placed_at server told.slots) ≡ Some (record { server = record { 0 = server }; slot = slot }) =
    find_placed p server told.slots ∙ ap (option_map (λ slot. record { server = record { 0 = server }; slot = slot })) h in
    find-append p (placed_at server told.slots) (placed_from (server + 1) rest) ∙ rw one refl

-- the first slot that doesn't fit is one of the server that is next
pub caught_at : (all : List Told) (place : ℕ) (told : Told) (slots : List Slot) (slot : Slot) → place < length all → told ≡ get_or all place told → slots ≡ told.slots
    → Some slot ≡ find (λ one. not (fits all (record { server = record { 0 = place + 1 }; slot = one }))) slots
    → find (λ at. not (fits all at)) (placed_from (place + 1) (drop place all)) ≡ misfit all
    → misfit all ≡ Some (record { server = record { 0 = place + 1 }; slot = slot })
caught_at all place told slots slot h e s f k =
    let p : Placed → Bool = λ at. not (fits all at) in
    let found : find (λ one. p (record { server = record { 0 = place + 1 }; slot = one })) told.slots ≡ Some slot =
    subst (λ those. find (λ one. p (record { server = record { 0 = place + 1 }; slot = one })) those ≡ Some slot) s (sym f) in
    let next : drop place all ≡ told ∷ drop (place + 1) all = drop_more all place told h ∙ ap (λ t. t ∷ drop (place + 1) all) (sym e) in
    sym k ∙ ap (λ those. find p (placed_from (place + 1) those)) next ∙ caught p (place + 1) told (drop (place + 1) all) slot found

-- it is one of a later server
pub passed_at : (all : List Told) (place : ℕ) (told : Told) (slots : List Slot) → place < length all → told ≡ get_or all place told → slots ≡ told.slots
    → None ≡ find (λ one. not (fits all (record { server = record { 0 = place + 1 }; slot = one }))) slots
    → find (λ at. not (fits all at)) (placed_from (place + 1) (drop place all)) ≡ misfit all
    → find (λ at. not (fits all at)) (placed_from (place + 1 + 1) (drop (place + 1) all)) ≡ misfit all
passed_at all place told slots h e s f k =
    let p : Placed → Bool = λ at. not (fits all at) in
    let found : find (λ one. p (record { server = record { 0 = place + 1 }; slot = one })) told.slots ≡ None =
    subst (λ those. find (λ one. p (record { server = record { 0 = place + 1 }; slot = one })) those ≡ None) s (sym f) in
    let next : drop place all ≡ told ∷ drop (place + 1) all = drop_more all place told h ∙ ap (λ t. t ∷ drop (place + 1) all) (sym e) in
    sym (passed p (place + 1) told (drop (place + 1) all) found) ∙ ap (λ those. find p (placed_from (place + 1) those)) (sym next) ∙ k

-- what is put of a slot, and of the others behind it
pub put_next : {X : Type 0} {Y : Type 0} (f : Y → X → Y) (y : Y) (h : Placed → Option X) (at : Placed) (rest : List Placed)
    → fold f (option_map_or (f y) (h at) y) (filter_map h rest) ≡ fold f y (filter_map h (at ∷ rest))
put_next {X = X} {Y = Y} f y h at rest = choice (h at)
  where
    choice : (found : Option X) → fold f (option_map_or (f y) found y) (filter_map h rest) ≡ fold f y (cons_option found (filter_map h rest))
    choice None = refl
    choice (Some x) = refl

-- what is put of a server's slots, and of the others behind it
pub put_all : {X : Type 0} {Y : Type 0} (f : Y → X → Y) (y : Y) (h : Placed → Option X) (server : ℕ) (told : Told) (rest : List Told)
    → fold f (fold f y (filter_map h (placed_at server told.slots))) (filter_map h (placed_from (server + 1) rest)) ≡ fold f y (filter_map h (placed_from server (told ∷ rest)))
put_all f y h server told rest =
    rw (filter_map-append h (placed_at server told.slots) (placed_from (server + 1) rest))
    (sym (fold-append f y (filter_map h (placed_at server told.slots)) (filter_map h (placed_from (server + 1) rest))))

-- what is put of the slot that is next
pub put_slot_at : {X : Type 0} {Y : Type 0} (f : Y → X → Y) (h : Placed → Option X) (server : ServerId) (slots : List Slot) (i : ℕ) (slot : Slot) (found : Option X) (y next z : Y) → i < length slots → slot ≡ get_or slots i slot
    → found ≡ h (record { server = server; slot = slot }) → next ≡ option_map_or (f y) found y
    → fold f y (filter_map h (placed_at server.0 (drop i slots))) ≡ z → fold f next (filter_map h (placed_at server.0 (drop (i + 1) slots))) ≡ z
put_slot_at f h server slots i slot found y next z l e g n k =
    let step : drop i slots ≡ slot ∷ drop (i + 1) slots = drop_more slots i slot l ∙ ap (λ s. s ∷ drop (i + 1) slots) (sym e) in
    let now : next ≡ option_map_or (f y) (h (record { server = server; slot = slot })) y = n ∙ ap (λ o. option_map_or (f y) o y) g in
    ap (λ v. fold f v (filter_map h (placed_at server.0 (drop (i + 1) slots)))) now
    ∙ put_next f y h (record { server = server; slot = slot }) (placed_at server.0 (drop (i + 1) slots))
    ∙ ap (λ those. fold f y (filter_map h (placed_at server.0 those))) (sym step) ∙ k

-- what is put of the server that is next
pub put_told_at : {X : Type 0} {Y : Type 0} (f : Y → X → Y) (h : Placed → Option X) (all : List Told) (place : ℕ) (told : Told) (slots : List Slot) (y next z : Y) → place < length all → told ≡ get_or all place told → slots ≡ told.slots
    → next ≡ fold f y (filter_map h (placed_at (place + 1) slots))
    → fold f y (filter_map h (placed_from (place + 1) (drop place all))) ≡ z → fold f next (filter_map h (placed_from (place + 1 + 1) (drop (place + 1) all))) ≡ z
put_told_at f h all place told slots y next z l e s n k =
    let step : drop place all ≡ told ∷ drop (place + 1) all = drop_more all place told l ∙ ap (λ t. t ∷ drop (place + 1) all) (sym e) in
    let now : next ≡ fold f y (filter_map h (placed_at (place + 1) told.slots)) = n ∙ ap (λ those. fold f y (filter_map h (placed_at (place + 1) those))) s in
    ap (λ v. fold f v (filter_map h (placed_from (place + 1 + 1) (drop (place + 1) all)))) now
    ∙ put_all f y h (place + 1) told (drop (place + 1) all)
    ∙ ap (λ those. fold f y (filter_map h (placed_from (place + 1) those))) (sym step) ∙ k

-- what is to be settled of these slots and of those
pub settlings_both : (all : List Told) (xs ys : List Placed) → settlings_in all (xs ++ ys) ≡ settlings_in all xs ++ settlings_in all ys
settlings_both all xs ys =
    ap (λ zs. map (λ (at : Placed). record { server = at.server; fileset = at.slot.fileset }) zs) (filter-append (λ at. is_open all at.slot) xs ys)
    ∙ map-append (λ at. record { server = at.server; fileset = at.slot.fileset }) (filter (λ at. is_open all at.slot) xs) (filter (λ at. is_open all at.slot) ys)

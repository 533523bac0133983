-- The tree that is made of stores whose disks fit.
use Rattle.std.proofs.Common.{◌≡◌, ◌≢◌, ℕ, zero, suc, ◌==◌, Bool, true, false, ◌&&◌, not, List, [], ◌∷◌, insert, Some, None, refl, sym, ap, ◌∙◌, subst, arith, inl, inr, rules}
use Rattle.std.specs.Prelude.{if◌then◌else◌, fold}
use Rattle.std.specs.List.{list_any, filter_map}
use Rattle.std.proofs.lemmas.Bool.Decides.{eqb_tells}
use Rattle.std.proofs.lemmas.Grind.{common_steps}
use Rattle.base_types.specs.Name.{same_name}
use Rattle.base_types.specs.declared.ids.ServerId.{ServerId}
use Rattle.tree_filesets.specs.declared.fileset.Fileset.{Fileset}
use Rattle.store_memory.specs.Reading.{is_kept}
use Rattle.tree_answers.proofs.AfterMove.{ordered_away}
use Rattle.tree_answers.proofs.Inserted.{IsFresh, ordered_insert, named_insert, same_name_sym, eq_sym, any_insert, or_first, or_second}
use Rattle.tree_answers.proofs.Places.{not_true}
use Rattle.tree_answers.specs.Away.{is_away, is_away_named, away_place}
use Rattle.tree_answers.specs.Finding.{is_named, id_place}
use Rattle.tree_answers.specs.WellFormed.{ids_rise, names_differ, records_rise, record_names_differ}
use Rattle.tree_answers.specs.declared.tree.Away.{Away}
use Rattle.store_state.specs.declared.state.Holding.{Holding}
use Rattle.store_state.specs.declared.state.Stay.{Stay}
use Rattle.store_state.specs.declared.state.Stay.TheVariants.{Writable, Clone, Leaving, Arriving, Gone}
use Rattle.store_state.specs.declared.state.StoreState.{StoreState}
use Rattle.service_starts.proofs.Standing.{In, fit_of, stands_once}
use Rattle.service_starts.proofs.Tests.{and_left, and_right, and_both}
use Rattle.service_starts.specs.Fitting.{misfit, is_matched}
use Rattle.service_starts.specs.Starting.{fileset_of, fileset_in, keeper_of, away_of, away_in, left_for}
use Rattle.service_starts.specs.Told.{Placed, placed, stands, stands_as}
use Rattle.service_starts.specs.declared.told.Told.{Told}
use Rattle.service_starts.proofs.Known.{IsHeld, held_of, IsIn, HasOne, one_kept, one_arriving}
use Rattle.service_starts.proofs.Places.{PlacedApart, all_apart, matched_at}
use Rattle.service_starts.proofs.Puts.{put, in_puts, puts_keep, Pairs, pairs_made, pairs_case, in_made, all_of}
use Rattle.service_starts.specs.Starts.{AreTold}

-- the filesets that are put into the tree, and its records
abbrev pub filesets_in : List Told → List Fileset
filesets_in all = filter_map (fileset_in all) (placed all)

abbrev pub records_in : List Told → List Away
records_in all = filter_map (away_in all) (placed all)

-- where they are put
abbrev pub fileset_at : List Fileset → Fileset → ℕ
fileset_at filesets fileset = id_place filesets fileset.id

abbrev pub record_at : List Away → Away → ℕ
record_at records away = away_place records away.server away.fileset

-- the tree's
abbrev pub tree_filesets : List Told → List Fileset
tree_filesets all = fold (put fileset_at) [] (filesets_in all)

abbrev pub tree_records : List Told → List Away
tree_records all = fold (put record_at) [] (records_in all)

-- a slot that a fileset is in has one
pub has_as : (all : List Told) → AreTold all → (at : Placed) (state : StoreState) (holding : Holding) → IsHeld all at state holding → (stay : Stay) → at.slot.stay ≡ stay → misfit all ≡ None → In at (placed all) → stands_as all at.slot stay ≡ true → HasOne all at holding
has_as all t at state holding h Writable e f i s = one_kept all at state holding h (ap is_kept (sym (ap (λ one. one.stay) h.tells.1) ∙ e)) (ap (keeper_of at.server) e)
has_as all t at state holding h Clone e f i s = one_kept all at state holding h (ap is_kept (sym (ap (λ one. one.stay) h.tells.1) ∙ e)) (ap (keeper_of at.server) e)
has_as all t at state holding h (Leaving to ship) e f i s = one_kept all at state holding h (ap is_kept (sym (ap (λ one. one.stay) h.tells.1) ∙ e)) (ap (keeper_of at.server) e)
has_as all t at state holding h (Arriving from ship parts) e f i s = one_arriving all t at state holding from ship parts h e (subst (λ one. is_matched all at.server at.slot one ≡ true) e (matched_at all at (fit_of all at f i)))
has_as all t at state holding h (Gone to) e f i s = absurd (search (rules, s))

-- what is known of a slot that a fileset is in
abbrev pub Has : List Told → Placed → Type 0
Has all at = (state : StoreState) × (holding : Holding) × IsHeld all at state holding × HasOne all at holding

pub has_one : (all : List Told) → AreTold all → misfit all ≡ None → (at : Placed) → In at (placed all) → stands all at.slot ≡ true → Has all at
has_one all t f at i s =
    let w = held_of all t at i in
    (w.0, w.1, w.2, has_as all t at w.0 w.1 w.2 at.slot.stay refl f i s)

-- a fileset of the tree is in a slot
pub record Comes (all : List Told) (fileset : Fileset) (at : Placed) (holding : Holding) : Type 0 where
  pub here : In at (placed all)
  pub stands : stands all at.slot ≡ true
  pub held : (state : StoreState) × IsHeld all at state holding
  pub is_in : IsIn at holding fileset

pub comes_of : (all : List Told) → AreTold all → misfit all ≡ None → (at : Placed) (fileset : Fileset) → In at (placed all) → fileset_in all at ≡ Some fileset → (holding : Holding) × Comes all fileset at holding
comes_of all t f at fileset i e = choice (stands all at.slot) refl e
  where
    choice : (b : Bool) → stands all at.slot ≡ b → (if b then fileset_of all at else None) ≡ Some fileset → (holding : Holding) × Comes all fileset at holding
    choice true s k =
        let w = has_one all t f at i s in
        let one = w.3 in
        let same : one.0 ≡ fileset = let both : Some one.0 ≡ Some fileset = sym one.1 ∙ k in cc in
        (w.1, record { here = i; stands = s; held = (w.0, w.2); is_in = subst (IsIn at w.1) same one.2 })
    choice false s k = absurd (search (rules, k))

pub comes : (all : List Told) → AreTold all → misfit all ≡ None → (fileset : Fileset) → In fileset (filesets_in all) → (at : Placed) × (holding : Holding) × Comes all fileset at holding
comes all t f fileset i =
    let w = in_made (fileset_in all) (placed all) fileset i in
    let c = comes_of all t f w.0 fileset w.1 w.2 in
    (w.0, c.0, c.1)

-- in the tree's list
pub tree_in : (all : List Told) (fileset : Fileset) → In fileset (tree_filesets all) → In fileset (filesets_in all)
tree_in all fileset i = elim (in_puts fileset_at [] (filesets_in all) fileset i) [ inl k ↦ absurd k | inr k ↦ k ]

pub come_there : (all : List Told) → AreTold all → misfit all ≡ None → (fileset : Fileset) → In fileset (tree_filesets all) → (at : Placed) × (holding : Holding) × Comes all fileset at holding
come_there all t f fileset i = comes all t f fileset (tree_in all fileset i)

-- a record is of a slot that its fileset isn't in
pub record Away_of (all : List Told) (away : Away) (at : Placed) : Type 0 where
  pub here : In at (placed all)
  pub out : stands all at.slot ≡ false
  pub made : away_of at at.slot.stay ≡ Some away
  pub server : away.server ≡ at.server
  pub id : away.fileset ≡ at.slot.fileset
  pub name : away.name ≡ at.slot.name

away_parts : (at : Placed) (stay : Stay) (away : Away) → away_of at stay ≡ Some away → (away.server ≡ at.server) × (away.fileset ≡ at.slot.fileset) × (away.name ≡ at.slot.name)
away_parts at Writable away e = absurd (search (rules, e))
away_parts at Clone away e = absurd (search (rules, e))
away_parts at (Leaving to ship) away e = let same : record (left_for at to) { room_kept = true } ≡ away = cc in (ap (λ one. one.server) (sym same), ap (λ one. one.fileset) (sym same), ap (λ one. one.name) (sym same))
away_parts at (Arriving from ship parts) away e = absurd (search (rules, e))
away_parts at (Gone to) away e = let same : left_for at to ≡ away = cc in (ap (λ one. one.server) (sym same), ap (λ one. one.fileset) (sym same), ap (λ one. one.name) (sym same))

pub away_of_slot : (all : List Told) (at : Placed) (away : Away) → In at (placed all) → away_in all at ≡ Some away → Away_of all away at
away_of_slot all at away i e = choice (stands all at.slot) refl e
  where
    choice : (b : Bool) → stands all at.slot ≡ b → (if b then None else away_of at at.slot.stay) ≡ Some away → Away_of all away at
    choice true s k = absurd (search (rules, k))
    choice false s k = let parts = away_parts at at.slot.stay away k in record { here = i; out = s; made = k; server = parts.0; id = parts.1; name = parts.2 }

pub away_there : (all : List Told) (away : Away) → In away (tree_records all) → (at : Placed) × Away_of all away at
away_there all away i =
    elim (in_puts record_at [] (records_in all) away i) [
      | inl k ↦ absurd k
      | inr k ↦ let w = in_made (away_in all) (placed all) away k in (w.0, away_of_slot all w.0 away w.1 w.2)
    ]

pub none_any : {X : Type 0} (p : X → Bool) (xs : List X) → ((x : X) → In x xs → p x ≡ false) → list_any p xs ≡ false
none_any p [] h = refl
none_any p (x ∷ xs) h = let one : p x ≡ false = h x (inl refl) in let rest = none_any p xs (λ y k. h y (inr k)) in rw (one, rest) refl

-- two filesets of the tree
other_ids : (all : List Told) → misfit all ≡ None → (a b : Placed) (x y : Fileset) (g h : Holding) → PlacedApart a b → Comes all x a g → Comes all y b h → x.id.0 ≢ y.id.0
other_ids all f a b x y g h apart cx cy same =
    let ids : a.slot.fileset.0 ≡ b.slot.fileset.0 = ap (λ id. id.0) (sym cx.is_in.id) ∙ same ∙ ap (λ id. id.0) cy.is_in.id in
    let servers = stands_once all f a b cx.here cy.here ids cx.stands cy.stands in
    (apart servers).ids ids

-- a name at a server
pub apart_names : (a b : ServerId) (m n : List ℕ) → (a.0 ≡ b.0 → same_name n m ≡ false) → ((b.0 == a.0) && same_name n m) ≡ false
apart_names a b m n h =
    elim (eqb_tells b.0 a.0) as (λ _. ((b.0 == a.0) && same_name n m) ≡ false)
    [ inl (e, k) ↦ let no = h (sym k) in rw (e, no) refl | inr (e, k) ↦ rw e refl ]

pub pairs_ids : (all : List Told) → AreTold all → misfit all ≡ None → Pairs (λ (x y : Fileset). x.id.0 ≢ y.id.0) (filesets_in all)
pairs_ids all t f =
    pairs_made (fileset_in all) PlacedApart (λ (x y : Fileset). x.id.0 ≢ y.id.0) (placed all) (all_apart all t)
    (λ a b x y apart ia ib ex ey. let cx = comes_of all t f a x ia ex in let cy = comes_of all t f b y ib ey in other_ids all f a b x y cx.0 cy.0 apart cx.1 cy.1)

pub pairs_names : (all : List Told) → AreTold all → misfit all ≡ None → Pairs (λ (x y : Fileset). is_named y.server y.name x ≡ false) (filesets_in all)
pairs_names all t f =
    pairs_made (fileset_in all) PlacedApart (λ (x y : Fileset). is_named y.server y.name x ≡ false) (placed all) (all_apart all t)
    (λ a b x y apart ia ib ex ey.
    let cx = comes_of all t f a x ia ex in
    let cy = comes_of all t f b y ib ey in
    apart_names y.server x.server y.name x.name (λ s.
    let same : a.server.0 ≡ b.server.0 = ap (λ one. one.0) (sym cx.1.is_in.server) ∙ sym s ∙ ap (λ one. one.0) cy.1.is_in.server in
    ap (λ n. same_name n y.name) cx.1.is_in.name ∙ ap (λ n. same_name a.slot.name n) cy.1.is_in.name ∙ (apart same).names))

pub tree_ordered : (all : List Told) → AreTold all → misfit all ≡ None → ids_rise (tree_filesets all) ≡ true
tree_ordered all t f =
    puts_keep fileset_at (λ (those : List Fileset). ids_rise those ≡ true) (λ (x y : Fileset). x.id.0 ≢ y.id.0)
    (λ those x k h.
    let fresh : IsFresh those x.id = all_of (λ fileset. not (fileset.id.0 == x.id.0)) those (λ y i. let other = h y i in let e : (y.id.0 == x.id.0) ≡ false = grind (arith, common_steps, other) in ap not e) in
    ordered_insert x those fresh k)
    [] (filesets_in all) refl (pairs_ids all t f) (λ x y h. absurd h)

pub tree_named : (all : List Told) → AreTold all → misfit all ≡ None → names_differ (tree_filesets all) ≡ true
tree_named all t f =
    puts_keep fileset_at (λ (those : List Fileset). names_differ those ≡ true) (λ (x y : Fileset). is_named y.server y.name x ≡ false)
    (λ those x k h. named_insert x (fileset_at those x) those (none_any (is_named x.server x.name) those h) k)
    [] (filesets_in all) refl (pairs_names all t f) (λ x y h. absurd h)

-- two records
pub pairs_away : (all : List Told) → AreTold all → Pairs (λ (x y : Away). is_away y.server y.fileset x ≡ false) (records_in all)
pairs_away all t =
    pairs_made (away_in all) PlacedApart (λ (x y : Away). is_away y.server y.fileset x ≡ false) (placed all) (all_apart all t)
    (λ a b x y apart ia ib ex ey.
    let ax = away_of_slot all a x ia ex in
    let ay = away_of_slot all b y ib ey in
    apart_ids y x (λ s e.
    let same : a.server.0 ≡ b.server.0 = ap (λ one. one.0) (sym ax.server) ∙ s ∙ ap (λ one. one.0) ay.server in
    (apart same).ids (ap (λ one. one.0) (sym ax.id) ∙ e ∙ ap (λ one. one.0) ay.id)))
  where
    apart_ids : (y x : Away) → (x.server.0 ≡ y.server.0 → x.fileset.0 ≡ y.fileset.0 → ⊥) → is_away y.server y.fileset x ≡ false
    apart_ids y x h =
        elim (eqb_tells x.server.0 y.server.0) as (λ _. ((x.server.0 == y.server.0) && (x.fileset.0 == y.fileset.0)) ≡ false) [
          | inl (e, k) ↦ let other : x.fileset.0 ≢ y.fileset.0 = h k in let no : (x.fileset.0 == y.fileset.0) ≡ false = grind (arith, common_steps, other) in rw (e, no) refl
          | inr (e, k) ↦ rw e refl
        ]

pub pairs_away_names : (all : List Told) → AreTold all → Pairs (λ (x y : Away). is_away_named y.server y.name x ≡ false) (records_in all)
pairs_away_names all t =
    pairs_made (away_in all) PlacedApart (λ (x y : Away). is_away_named y.server y.name x ≡ false) (placed all) (all_apart all t)
    (λ a b x y apart ia ib ex ey.
    let ax = away_of_slot all a x ia ex in
    let ay = away_of_slot all b y ib ey in
    apart_names y.server x.server y.name x.name (λ s.
    let same : a.server.0 ≡ b.server.0 = ap (λ one. one.0) (sym ax.server) ∙ sym s ∙ ap (λ one. one.0) ay.server in
    ap (λ n. same_name n y.name) ax.name ∙ ap (λ n. same_name a.slot.name n) ay.name ∙ (apart same).names))

pub records_ordered : (all : List Told) → AreTold all → records_rise (tree_records all) ≡ true
records_ordered all t =
    puts_keep record_at (λ (those : List Away). records_rise those ≡ true) (λ (x y : Away). is_away y.server y.fileset x ≡ false)
    (λ those x k h. ordered_away x those (none_any (is_away x.server x.fileset) those h) k)
    [] (records_in all) refl (pairs_away all t) (λ x y h. absurd h)

-- names of records
record_named_sym : (a b : Away) → is_away_named a.server a.name b ≡ is_away_named b.server b.name a
record_named_sym a b = ap (λ t. t && same_name b.name a.name) (eq_sym b.server.0 a.server.0) ∙ ap (λ t. (a.server.0 == b.server.0) && t) (same_name_sym b.name a.name)

record_names_insert : (new : Away) (i : ℕ) (records : List Away) → list_any (is_away_named new.server new.name) records ≡ false → record_names_differ records ≡ true → record_names_differ (insert records i new) ≡ true
record_names_insert new zero records h k = and_both _ _ (ap not h) k
record_names_insert new (suc i) [] h k = refl
record_names_insert new (suc i) (x ∷ xs) h k =
    let other : is_away_named x.server x.name new ≡ false = record_named_sym x new ∙ or_first _ _ h in
    and_both _ _ (ap not (any_insert (is_away_named x.server x.name) new i xs other (not_true _ (and_left _ _ k)))) (record_names_insert new i xs (or_second _ _ h) (and_right _ _ k))

pub records_named : (all : List Told) → AreTold all → record_names_differ (tree_records all) ≡ true
records_named all t =
    puts_keep record_at (λ (those : List Away). record_names_differ those ≡ true) (λ (x y : Away). is_away_named y.server y.name x ≡ false)
    (λ those x k h. record_names_insert x (record_at those x) those (none_any (is_away_named x.server x.name) those h) k)
    [] (records_in all) refl (pairs_away_names all t) (λ x y h. absurd h)

-- two slots of one server that aren't the same have two names
pub other_names : (all : List Told) → AreTold all → (a b : Placed) → In a (placed all) → In b (placed all) → a.server.0 ≡ b.server.0 → (a ≡ b → ⊥) → same_name b.slot.name a.slot.name ≡ false
other_names all t a b ia ib servers apart =
    elim (pairs_case PlacedApart (placed all) (all_apart all t) a b ia ib) [
      | inl e ↦ absurd (apart e)
      | inr (inl k) ↦ same_name_sym b.slot.name a.slot.name ∙ (k servers).names
      | inr (inr k) ↦ (k (sym servers)).names
    ]

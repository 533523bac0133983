-- The rule of the ticket lock, and what each step tells.
use Rattle.std.specs.Prelude.{◌≡◌, ℕ, suc, ◌+◌, ◌-◌, ◌%◌, ◌^◌, ◌<◌, ◌≤◌, ◌==◌, if◌then◌else◌, List, [], ◌∷◌, ◌++◌}
use Rattle.std.specs.Prelude.{length, drop}
use mathlib.Core.Option.{Option, none, some}
use lib.ListN.{get_elem?}
use Rattle.atomic_table.specs.Table.{State, Me, Step}
use Rattle.hub_cell.specs.declared.rule.View.{View}
use Rattle.hub_cell.specs.declared.rule.Stage.{Stage}
use Rattle.hub_cell.specs.declared.rule.Stage.TheVariants.{Idle, Waits, Holds}
use Rattle.hub_cell.specs.Lists.{IsPrefix, AllBegin, longer, numbered, entries, merged}

-- f of each view, added up
abbrev pub total : {V : Type 0} → (V → ℕ) → List V → ℕ
total f [] = 0
total f (v ∷ vs) = f v + total f vs

-- how many tickets a view has
abbrev pub tickets : Stage → ℕ
tickets Idle = 0
tickets (Waits t) = 1
tickets (Holds t) = 1

module _ {E : Type 0} where
  abbrev pub view : List E → List (ℕ × E) → ℕ → Stage → View E
  view seen made seats stage = record { seen = seen; made = made; seats = seats; stage = stage; heard = [] }

  -- the first seat has seen and made nothing, and has all seats
  abbrev pub first_view : ℕ → View E
  first_view seats = view [] [] seats Idle

  -- a seat that was joined to another
  abbrev pub spent : View E
  spent = view [] [] 0 Idle

  abbrev pub tickets_of : View E → ℕ
  tickets_of v = tickets v.stage

  abbrev pub seats_of : View E → ℕ
  seats_of v = v.seats

  abbrev pub made_of : View E → ℕ
  made_of v = length v.made

  -- The log has each entry with the number of the seat through which it was made. These are the entries of one seat,
  -- where the first entry's place is this
  abbrev pub owned : ℕ → ℕ → List (ℕ × E) → List (ℕ × E)
  owned seat place [] = []
  owned seat place (x ∷ xs) = (if x.0 == seat then ((place, x.1) ∷ owned seat (suc place) xs) else owned seat
      (suc place) xs)

  -- The queue has the seats with a ticket, in the order of the tickets. The first one's is the number of turns that
  -- have ended
  abbrev pub HasTicket : List ℕ → ℕ → ℕ → View E → ℕ → Type 0
  HasTicket queue ended seat v ticket = (1 ≤ v.seats) × ((k : ℕ) × (ticket ≡ ended + k) ×
      (get_elem? queue k ≡ some seat))

  -- what holds of a seat with a ticket. The slot is away with the one that found that it is its turn, which has seen
  -- the whole list
  abbrev pub Stands : {S : Type 0} → List (ℕ × E) → List ℕ → ℕ → Option S → ℕ → View E → Stage → Type 0
  Stands log queue ended slot seat v Idle = Unit {0}
  Stands log queue ended slot seat v (Waits ticket) = HasTicket queue ended seat v ticket
  Stands log queue ended slot seat v (Holds ticket) = HasTicket queue ended seat v ticket × (ticket ≡ ended) ×
      (v.seen ≡ entries log) × (slot ≡ none)

  pub record Fits {S : Type 0} (log : List (ℕ × E)) (queue : List ℕ) (ended : ℕ) (slot : Option S) (seat : ℕ)
      (v : View E) : Type 0 where
    -- it has seen a beginning of the list
    pub seen : IsPrefix v.seen (entries log)
    -- it has the entries that were made through it
    pub made : v.made ≡ owned seat 0 log
    pub stands : Stands log queue ended slot seat v v.stage
    pub joined : v.seats ≡ 0 → v.made ≡ []
    pub heard : AllBegin v.heard (entries log)

  -- the slot is away only with a seat that found that it is its turn, and at home it has the list and is fit
  abbrev pub Rests : {T : Type 0} → (T → List E) → (T → Type 0) → List (ℕ × E) → List (View E) → Option T → Type 0
  Rests list fit log views none = (seat : ℕ) × (v : View E) × (ticket : ℕ) × (get_elem? views seat ≡ some v) ×
      (v.stage ≡ Holds ticket)
  Rests list fit log views (some x) = (list x ≡ entries log) × fit x

module _ {T E : Type 0} (list : T → List E) (fit : T → Type 0) where
  -- the rule, of the number of seats and of the words, the slot and all views
  pub record IsKept (seats : ℕ) (s : State T (View E)) : Type 0 where
    pub log : List (ℕ × E)
    pub queue : List ℕ
    pub ended : ℕ
    pub slot : Option T
    pub few : seats < 4294967296
    pub words : s.words ≡ ((ended + length queue) % 2 ^ 64) ∷ (ended % 2 ^ 64) ∷ length log ∷ []
    pub homes : s.homes ≡ slot ∷ []
    pub rests : Rests list fit log s.views slot
    pub each : (seat : ℕ) (v : View E) → get_elem? s.views seat ≡ some v → Fits log queue ended slot seat v
    -- no entry is of a seat that isn't there
    pub none_else : (seat : ℕ) → length s.views ≤ seat → owned seat 0 log ≡ []
    -- the views and their spare seats are as many as the seats
    pub all_seats : total seats_of s.views ≡ seats
    -- each ticket that was drawn and whose turn has not ended is in one view
    pub all_tickets : total tickets_of s.views ≡ length queue
    -- each entry is in one view
    pub all_made : total made_of s.views ≡ length log

abbrev Sat : Type 0 → Type 0 → Type 0
Sat T E = Me T (View E)

module _ {T E : Type 0} where
  -- the list of the value that was taken last
  abbrev pub held_list : (T → List E) → List (ℕ × T) → List E
  held_list list [] = []
  held_list list (x ∷ xs) = list x.1

  abbrev pub drawn : Step T → Sat T E → ℕ → Sat T E → Type 0
  drawn st m r m' = (m'.1 ≡ m.1) × ((ticket : ℕ) × (r ≡ ticket % 2 ^ 64) ×
      (m'.0 ≡ view m.0.seen m.0.made m.0.seats (Waits ticket)))

  -- it is the seat's turn, and it has the value and has seen the whole list; or nothing changed
  pub record Found (list : T → List E) (fit : T → Type 0) (m : Sat T E) (ticket : ℕ) (m' : Sat T E) : Type 0 where
    pub value : T
    pub held : m'.1 ≡ (0, value) ∷ m.1
    pub view_is : m'.0 ≡ view (list value) m.0.made m.0.seats (Holds ticket)
    pub seen : IsPrefix m.0.seen (list value)
    pub fits : fit value

  abbrev pub looked : (T → List E) → (T → Type 0) → Step T → Sat T E → ℕ → Sat T E → Type 0
  looked list fit st m r m' = (ticket : ℕ) → m.0.stage ≡ Waits ticket → (r ≡ ticket % 2 ^ 64 → Found list fit m ticket
      m') × (¬ (r ≡ ticket % 2 ^ 64) → m' ≡ m)

  -- the entries that the held value has behind those seen
  abbrev pub counted : (T → List E) → Step T → Sat T E → ℕ → Sat T E → Type 0
  counted list st m r m' =
      let now : List E = held_list list m.1 in
      (m'.1 ≡ m.1) × (m'.0 ≡ view now (m.0.made ++ numbered (length m.0.seen) (drop (length m.0.seen) now)) m.0.seats
      m.0.stage)

  -- nothing changes but that what was heard is told: it is of one list, with what was seen
  abbrev pub IsTold : Sat T E → Sat T E → Type 0
  IsTold m m' =
      (m'.1 ≡ m.1) × (m'.0 ≡ view m.0.seen m.0.made m.0.seats m.0.stage) × (m.0.seats < 4294967296) ×
      ((all : List E) × IsPrefix m.0.seen all × AllBegin m.0.heard all)

  abbrev pub told : Step T → Sat T E → ℕ → Sat T E → Type 0
  told st m r m' = IsTold m m'

  abbrev pub ended_turn : Step T → Sat T E → ℕ → Sat T E → Type 0
  ended_turn st m r m' = (m'.1 ≡ []) × (m'.0 ≡ view m.0.seen m.0.made m.0.seats Idle)

module _ {E : Type 0} where
  -- a view with one spare seat less
  abbrev pub kept_seats : View E → View E
  kept_seats v = view v.seen v.made (v.seats - 1) v.stage

  -- the view of a seat that was spare
  abbrev pub new_seat : View E → View E
  new_seat v = view v.seen [] 1 Idle

  abbrev pub joined_views : View E → View E → View E
  joined_views v w = record {
    seen = longer v.seen w.seen;
    made = merged w.made v.made;
    seats = v.seats + w.seats;
    stage = v.stage;
    heard = v.seen ∷ w.seen ∷ [];
  }

-- what a turn goes through, on a seat
module _ {T E : Type 0} where
  pub record IsIdle (m : Sat T E) : Type 0 where
    pub holds_none : m.1 ≡ []
    pub idle : m.0.stage ≡ Idle
    pub live : 1 ≤ m.0.seats

  -- it has this ticket, and its view is otherwise as it was
  pub record HasDrawn (m : Sat T E) (drawn : ℕ) (m' : Sat T E) : Type 0 where
    pub ticket : ℕ
    pub holds_none : m'.1 ≡ []
    pub code : drawn ≡ ticket % 2 ^ 64
    pub view_is : m'.0 ≡ view m.0.seen m.0.made m.0.seats (Waits ticket)

  -- it has the value, and has seen the whole list, which begins with what it had seen before
  pub record HasTaken (list : T → List E) (fit : T → Type 0) (m m' : Sat T E) : Type 0 where
    pub ticket : ℕ
    pub value : T
    pub held : m'.1 ≡ (0, value) ∷ []
    pub view_is : m'.0 ≡ view (list value) m.0.made m.0.seats (Holds ticket)
    pub seen : IsPrefix m.0.seen (list value)
    pub fits : fit value

  -- the work was done on the value that it has, and the list has this many entries more
  pub record HasWorked {W : Type 0} (list : T → List E) (fit : T → Type 0) (does : W → T → W → T → Type 0)
      (m m' : Sat T E) (work work' : W) (more : ℕ) : Type 0 where
    pub before : T
    pub after : T
    pub added : List E
    pub was : m.1 ≡ (0, before) ∷ []
    pub held : m' ≡ (m.0, (0, after) ∷ [])
    pub done : does work before work' after
    pub fits : fit before → fit after
    pub grown : list after ≡ list before ++ added
    pub few : length added ≤ 1
    pub count : length added ≡ more
    pub small : length (list after) < 2 ^ 64

  -- it has a value whose list goes on from what it has seen with this many entries
  pub record CanGive (list : T → List E) (fit : T → Type 0) (m : Sat T E) (more : ℕ) : Type 0 where
    pub ticket : ℕ
    pub value : T
    pub added : List E
    pub stage : m.0.stage ≡ Holds ticket
    pub held : m.1 ≡ (0, value) ∷ []
    pub grown : list value ≡ m.0.seen ++ added
    pub fits : fit value
    pub count : length added ≡ more
    pub small : length (list value) < 2 ^ 64

  -- it has given the value back, has seen its list, and has made what was added
  pub record HasGiven (list : T → List E) (m m' : Sat T E) : Type 0 where
    pub holds_none : m'.1 ≡ []
    pub view_is : m'.0 ≡ view (held_list list m.1)
        (m.0.made ++ numbered (length m.0.seen) (drop (length m.0.seen) (held_list list m.1))) m.0.seats Idle

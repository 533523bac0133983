-- What contracts see of a pass and of a cell.
use Rattle.std.specs.Prelude.{◌≡◌, ℕ, ◌+◌, ◌-◌, ◌<◌, ◌≤◌, List, [], ◌∷◌, ◌++◌, map, length}
use Rattle.std.specs.List.{All, sum_by}
pub use Rattle.atomic_table.specs.Seated.{TableId}
use Rattle.hub_cell.specs.declared.rule.View.{View}
use Rattle.hub_cell.specs.declared.rule.Stage.TheVariants.{Idle}
use Rattle.hub_cell.specs.Lists.{IsPrefix, longer, entries, numbered, merged, Weaves, IsShuffle}
use Rattle.hub_cell.specs.Lock.{spent}

-- a pass: its cell, a beginning of the list that it has seen, the entries that were made through it, each with its
-- place in the list, and its spare seats
pub record PassView (E : Type 0) : Type 0 where
  pub cell : TableId
  pub seen : List E
  pub made : List (ℕ × E)
  pub spare : ℕ

-- a cell: which one it is, how many passes it can have, and the value that it was made with
pub record CellView (T : Type 0) : Type 0 where
  pub id : TableId
  pub seats : ℕ
  pub first : T

module _ {E : Type 0} where
  -- each place is at least this
  abbrev pub AreFrom : ℕ → List (ℕ × E) → Type 0
  AreFrom place [] = Unit {0}
  AreFrom place (x ∷ xs) = (place ≤ x.0) × AreFrom place xs

  -- no place comes before an earlier one's
  abbrev pub IsInOrder : List (ℕ × E) → Type 0
  IsInOrder [] = Unit {0}
  IsInOrder (x ∷ xs) = AreFrom x.0 xs × IsInOrder xs

  -- each place is below this
  abbrev pub AreBelow : ℕ → List (ℕ × E) → Type 0
  AreBelow bound [] = Unit {0}
  AreBelow bound (x ∷ xs) = (x.0 < bound) × AreBelow bound xs

  -- the view in a badge
  abbrev pub the_view : List (View E) → View E
  the_view [] = spent
  the_view (v ∷ vs) = v

  abbrev pub pass_view : TableId → List (View E) → ℕ → PassView E
  pass_view id views spare = record {
    cell = id;
    seen = (the_view views).seen;
    made = (the_view views).made;
    spare = spare;
  }

  -- a pass between two turns
  pub record IsResting (views : List (View E)) (spare : ℕ) : Type 0 where
    pub one : views ≡ the_view views ∷ []
    pub idle : (the_view views).stage ≡ Idle
    pub seats : (the_view views).seats ≡ spare + 1
    pub heard : (the_view views).heard ≡ []
    pub in_order : IsInOrder (the_view views).made
    pub below : AreBelow (length (the_view views).seen) (the_view views).made

  -- the first pass of a cell has seen and made nothing, and has all seats but its own to spare
  abbrev pub IsFirst : {T : Type 0} → CellView T → PassView E → Type 0
  IsFirst cell pass = pass ≡ record { cell = cell.id; seen = []; made = []; spare = cell.seats - 1 }

-- A turn, of the pass and the work before it and after it. The value in the cell was `before` when the turn began, and
-- is `after` at its end
pub record IsTurn {T E W : Type 0} (list : T → List E) (fit : T → Type 0) (does : W → T → W → T → Type 0)
    (pass pass' : PassView E) (work work' : W) : Type 0 where
  pub before : T
  pub after : T
  pub added : List E
  -- the list began with what the pass had seen
  pub known : IsPrefix pass.seen (list before)
  -- what stays of the value stayed
  pub fits : fit before × fit after
  -- the one call of `work`
  pub done : does work before work' after
  -- it added one entry at most
  pub grown : list after ≡ list before ++ added
  pub few : length added ≤ 1
  -- the pass has seen the whole list up to the end of the turn, and has made what the turn added
  pub pass_is : pass' ≡ record {
    cell = pass.cell;
    seen = list after;
    made = pass.made ++
        numbered (length (list before)) added;
    spare = pass.spare;
  }

module _ {E : Type 0} where
  -- a spare seat was cut off, for a new pass that has seen as much and made nothing
  pub record IsSplit (pass pass' new : PassView E) : Type 0 where
    pub had : 1 ≤ pass.spare
    pub kept : pass' ≡ record { cell = pass.cell; seen = pass.seen; made = pass.made; spare = pass.spare - 1 }
    pub given : new ≡ record { cell = pass.cell; seen = pass.seen; made = []; spare = 0 }

  -- another pass was joined to this one, with its seats and with what was made through it
  pub record IsJoined (pass other pass' : PassView E) : Type 0 where
    pub pass_is : pass' ≡ record {
      cell = pass.cell;
      seen = longer pass.seen other.seen;
      made = merged other.made
          pass.made;
      spare = pass.spare + other.spare + 1;
    }
    -- what both have seen is the beginning of what it has seen now
    pub seen : IsPrefix pass.seen pass'.seen
    pub seen_too : IsPrefix other.seen pass'.seen
    -- what was made through either is there once, in its order
    pub woven : Weaves (entries pass'.made) (entries other.made) (entries pass.made)

  -- these are passes of the cell, and with their spare seats they are as many as its seats
  pub record AreAllPasses {T : Type 0} (cell : CellView T) (passes : List (PassView E)) : Type 0 where
    pub of_cell : All (λ p. p.cell ≡ cell.id) passes
    pub all_seats : sum_by (λ p. p.spare + 1) passes ≡ cell.seats

  -- what was made through each of these passes
  abbrev pub parts_of : List (PassView E) → List (List E)
  parts_of passes = map (λ p. entries p.made) passes

  -- one pass has the seats of all these passes, and what was made through them
  pub record IsGathered {T : Type 0} (cell : CellView T) (all : PassView E) (passes : List (PassView E)) : Type 0 where
    pub of_cell : all.cell ≡ cell.id
    pub seats : all.spare + 1 ≡ sum_by (λ p. p.spare + 1) passes
    pub made : IsShuffle (entries all.made) (parts_of passes)
    pub seen : All (λ p. IsPrefix p.seen all.seen) passes

  -- the list at the end has what was made through these passes and no more, each entry once, and those of one pass in
  -- its order. What a pass has seen is a beginning of it
  pub record IsClosed (all : List E) (passes : List (PassView E)) : Type 0 where
    pub made : IsShuffle all (parts_of passes)
    pub seen : All (λ p. IsPrefix p.seen all) passes

use Rattle.std.proofs.Common.{◌≡◌, true, false, List, [], ◌∷◌, ◌++◌, Option, Some, None, refl, sym, codes}
use Rattle.std.specs.Str.{bytes_eq}
use Rattle.std.specs.Cmp.Lexicographic.{same_text}
use Rattle.clap.specs.Walk.{Rule, Row, Text, Waiting, Walk, idle, positional, walked, with_values, at_row, more_values, reading_by}
use Rattle.clap.specs.Simple.{Shape, new_rule, built}
use Rattle.clap.specs.Takes.{turn_passes}
use Rattle.clap.specs.declared.parser.matches.ValueSource.TheVariants.{CommandLine}
use Rattle.clap.proofs.OnLiterals.{clap_on_literals}
use Rattle.script_commands.specs.declared.parts.Parts.{Parts}
use Rattle.script_commands.specs.Plain.{is_dashed}
use Rattle.script_commands.specs.Told.{told, values_at}

abbrev pub shape : Shape
shape = (built told).top

abbrev pub rules : List Rule
rules = shape.rules

-- the value that waits to be taken, and for which argument
pub data Left : Type 0 where
  clear : Left
  other : Text → Left
  worker : Text → Left

abbrev pub pending : Left → Option (Text × List Text)
pending clear = None
pending (other v) = Some (codes "others", v ∷ [])
pending (worker v) = Some (codes "workers", v ∷ [])

abbrev pub waiting : Left → Waiting
waiting (other v) = positional
waiting _ = idle

abbrev pub stands : List Row → Left → Walk
stands rows left = record {
  held = record { rows = rows; pending = pending left; skip = 0 };
  waiting = waiting left;
  position = 1;
  is_trailing = false;
  stopped = None;
}

-- one more value of an argument
abbrev pub add : Text → Text → List Row → List Row
add id v = with_values id (reading_by (new_rule id)) CommandLine (v ∷ [])

-- the rows with the value that waits
abbrev pub taken : List Row → Left → List Row
taken rows clear = rows
taken rows (other v) = add (codes "others") v rows
taken rows (worker v) = add (codes "workers") v rows

pub json_step : (rows : List Row) (left : Left) → walked rules [] (stands rows left) (codes "--json") ≡ stands (add (codes "json") (codes "--json") (taken rows left)) clear
unfolding clap_on_literals walked
json_step rows clear = refl
json_step rows (other v) = refl
json_step rows (worker v) = refl

pub said_step : (rows : List Row) (left : Left) (v : Text) → walked rules [] (stands rows left) (codes "--workers=" ++ v) ≡ stands (add (codes "workers") v (taken rows left)) clear
unfolding clap_on_literals walked
said_step rows clear v = refl
said_step rows (other w) v = refl
said_step rows (worker w) v = refl

pub other_step : (rows : List Row) (left : Left) (v : Text) → is_dashed v ≡ false → walked rules [] (stands rows left) v ≡ stands (taken rows left) (other v)
unfolding clap_on_literals walked
other_step rows clear [] h = refl
other_step rows (other w) [] h = refl
other_step rows (worker w) [] h = refl
other_step rows clear (x ∷ v) h = simp h
other_step rows (other w) (x ∷ v) h = simp h
other_step rows (worker w) (x ∷ v) h = simp h

pub value_step : (rows : List Row) (left : Left) (v : Text) → is_dashed v ≡ false → walked rules [] (walked rules [] (stands rows left) (codes "--workers")) v ≡ stands (taken rows left) (worker v)
unfolding clap_on_literals walked
value_step rows clear [] h = refl
value_step rows (other w) [] h = refl
value_step rows (worker w) [] h = refl
value_step rows clear (x ∷ v) h = simp h
value_step rows (other w) (x ∷ v) h = simp h
value_step rows (worker w) (x ∷ v) h = simp h

-- each of these steps passes
pub json_passes : (rows : List Row) (left : Left) → turn_passes shape [] (stands rows left) (codes "--json") ≡ true
unfolding clap_on_literals
json_passes rows clear = refl
json_passes rows (other v) = refl
json_passes rows (worker v) = refl

pub said_passes : (rows : List Row) (left : Left) (v : Text) → turn_passes shape [] (stands rows left) (codes "--workers=" ++ v) ≡ true
unfolding clap_on_literals
said_passes rows clear v = refl
said_passes rows (other w) v = refl
said_passes rows (worker w) v = refl

pub name_passes : (rows : List Row) (left : Left) → turn_passes shape [] (stands rows left) (codes "--workers") ≡ true
unfolding clap_on_literals
name_passes rows clear = refl
name_passes rows (other w) = refl
name_passes rows (worker w) = refl

pub other_passes : (rows : List Row) (left : Left) (v : Text) → is_dashed v ≡ false → turn_passes shape [] (stands rows left) v ≡ true
unfolding clap_on_literals
other_passes rows clear [] h = refl
other_passes rows (other w) [] h = refl
other_passes rows (worker w) [] h = refl
other_passes rows clear (x ∷ v) h = simp h
other_passes rows (other w) (x ∷ v) h = simp h
other_passes rows (worker w) (x ∷ v) h = simp h

pub value_passes : (rows : List Row) (left : Left) (v : Text) → is_dashed v ≡ false → turn_passes shape [] (walked rules [] (stands rows left) (codes "--workers")) v ≡ true
unfolding clap_on_literals walked
value_passes rows clear [] h = refl
value_passes rows (other w) [] h = refl
value_passes rows (worker w) [] h = refl
value_passes rows clear (x ∷ v) h = simp h
value_passes rows (other w) (x ∷ v) h = simp h
value_passes rows (worker w) (x ∷ v) h = simp h

-- what each argument has
abbrev pub vals : List Row → Parts
vals rows = record { json = values_at (codes "json") rows; workers = values_at (codes "workers") rows; others = values_at (codes "others") rows }

pub same_values : (id v : Text) (rows : List Row) → bytes_eq id id ≡ true → values_at id (add id v rows) ≡ values_at id rows ++ v ∷ []
same_values id v [] h = rw h refl
same_values id v (row ∷ rows) h = elim (bytes_eq row.id id) as (λ t. bytes_eq row.id id ≡ t → values_at id (add id v (row ∷ rows)) ≡ values_at id (row ∷ rows) ++ v ∷ []) [
  | true ↦ λ e. rw e (rw e refl)
  | false ↦ λ e. rw e (rw e (same_values id v rows h))
] refl

pub other_values : (id its v : Text) (rows : List Row) → bytes_eq id its ≡ false → values_at its (add id v rows) ≡ values_at its rows
other_values id its v [] h = rw h refl
other_values id its v (row ∷ rows) h = elim (bytes_eq row.id id) as (λ t. bytes_eq row.id id ≡ t → values_at its (add id v (row ∷ rows)) ≡ values_at its (row ∷ rows)) [
  | true ↦ λ e. let no : bytes_eq row.id its ≡ false = rw (same_text row.id id (sym e)) h in rw e (rw no refl)
  | false ↦ λ e. rw e (elim (bytes_eq row.id its) as (λ t. bytes_eq row.id its ≡ t → values_at its (row ∷ at_row id (more_values CommandLine (v ∷ [])) (record {
    id = id;
    values = v ∷ [];
    count = None;
    source = Some CommandLine;
    reading = reading_by (new_rule id);
  } ∷ []) rows) ≡ values_at its (row ∷ rows)) [ true ↦ λ k. rw k refl | false ↦ λ k. rw k (other_values id its v rows h) ] refl)
] refl

-- what each argument has after one more value
pub json_more : (v : Text) (rows : List Row) → vals (add (codes "json") v rows) ≡ record { json = (vals rows).json ++ v ∷ []; workers = (vals rows).workers; others = (vals rows).others }
json_more v rows = rw (same_values (codes "json") v rows refl, other_values (codes "json") (codes "workers") v rows refl, other_values (codes "json") (codes "others") v rows refl) refl

pub workers_more : (v : Text) (rows : List Row) → vals (add (codes "workers") v rows) ≡ record { json = (vals rows).json; workers = (vals rows).workers ++ v ∷ []; others = (vals rows).others }
workers_more v rows = rw (same_values (codes "workers") v rows refl, other_values (codes "workers") (codes "json") v rows refl, other_values (codes "workers") (codes "others") v rows refl) refl

pub others_more : (v : Text) (rows : List Row) → vals (add (codes "others") v rows) ≡ record { json = (vals rows).json; workers = (vals rows).workers; others = (vals rows).others ++ v ∷ [] }
others_more v rows = rw (same_values (codes "others") v rows refl, other_values (codes "others") (codes "json") v rows refl, other_values (codes "others") (codes "workers") v rows refl) refl

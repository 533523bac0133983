use Rattle.std.proofs.Common.{◌≡◌, true, false, if◌then◌else◌, arith, List, [], ◌∷◌, refl, ap, ◌∙◌, fold}
use Rattle.std.proofs.lemmas.Grind.{common_steps}
use Rattle.std.specs.List.{list_all}
use Rattle.clap.specs.Walk.{Row, Rule, Text, Walk, finished, has_row, is_empty, with_default, default_rows, reading_by}
use Rattle.clap.specs.Simple.{matches_of}
use Rattle.clap.specs.Takes.{takes, settle_passes}
use Rattle.clap.proofs.OnLiterals.{clap_on_literals}
use Rattle.script_commands.specs.Parts.{parts_of}
use Rattle.script_commands.specs.Plain.{are_plain}
use Rattle.script_commands.specs.Told.{told}
use Rattle.script_commands.proofs.Walked.{Left, clear, other, worker, rules, stands, taken, vals}
use Rattle.script_commands.proofs.Ends.{ends, both}

-- arguments without defaults add nothing
default_none : (a : Rule) (rows : List Row) → is_empty a.defaults ≡ true → with_default rows a ≡ rows
default_none a rows h = elim (has_row a.id rows) as (λ t. (if t then rows else default_rows a.id (reading_by a) a.defaults rows) ≡ rows) [ true ↦ refl | false ↦ none a.defaults h ]
  where
    none : (defaults : List Text) → is_empty defaults ≡ true → default_rows a.id (reading_by a) defaults rows ≡ rows
    none [] e = refl
    none (v ∷ vs) e = grind (arith, common_steps)

defaults_none : (all : List Rule) (rows : List Row) → list_all (λ a. is_empty a.defaults) all ≡ true → fold with_default rows all ≡ rows
defaults_none [] rows h = refl
defaults_none (a ∷ all) rows h =
    let each = both (is_empty a.defaults) (list_all (λ r. is_empty r.defaults) all) h in
    ap (λ r. fold with_default r all) (default_none a rows each.0) ∙ defaults_none all rows each.1

finished_at : (rows : List Row) (left : Left) → finished rules (stands rows left).held ≡ taken rows left
unfolding clap_on_literals
finished_at rows clear = defaults_none rules rows refl
finished_at rows (other v) = defaults_none rules (taken rows (other v)) refl
finished_at rows (worker v) = defaults_none rules (taken rows (worker v)) refl

settled_passes : (rows : List Row) (left : Left) → settle_passes rules false (stands rows left).held ≡ true
settled_passes rows clear = refl
settled_passes rows (other v) = refl
settled_passes rows (worker v) = refl

-- `clap` takes plain words
pub plain_taken : (words : List Text) → are_plain words ≡ true → takes told words ≡ true
unfolding are_plain
plain_taken words h =
    let e = ends words [] clear h in
    rw (e.walk, e.passes, settled_passes e.end e.last) refl

-- and gives their parts
pub plain_parts : (words : List Text) → are_plain words ≡ true → vals (matches_of told words) ≡ parts_of words
unfolding are_plain parts_of
plain_parts words h =
    let e = ends words [] clear h in
    ap (λ (w : Walk). vals (finished rules w.held)) e.walk ∙ (ap vals (finished_at e.end e.last) ∙ e.values)

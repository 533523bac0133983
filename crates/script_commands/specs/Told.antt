use Rattle.std.specs.Prelude.{ℕ, true, List, [], ◌∷◌, Some, codes, unwrap_or}
use Rattle.clap.specs.Simple.{App, new_rule, new_shape}
use Rattle.clap.specs.Walk.{Row, Rule, all_of}
use Rattle.script_commands.specs.declared.parts.Parts.{Parts}
use Rattle.clap.specs.declared.builder.action.ArgAction.TheVariants.{Append}

-- what `clap` is told of `--json`: it has no value, and each use counts as the text of the word
abbrev pub json_rule : Rule
json_rule =
    record (new_rule (codes "json")) {
      long = Some (codes "json");
      action = Some Append;
      range = Some (record { start_inclusive = 0; end_inclusive = 0 });
      missing = codes "--json" ∷ [];
    }

-- of `--workers`, and of the other words
abbrev pub workers_rule : Rule
workers_rule = record (new_rule (codes "workers")) { long = Some (codes "workers"); action = Some Append }

abbrev pub others_rule : Rule
others_rule = record (new_rule (codes "others")) { action = Some Append }

-- and in all
abbrev pub told : App
told =
    record {
      top = record (new_shape (codes "dfs_run")) {
        rules = json_rule ∷ workers_rule ∷ others_rule ∷ [];
        no_binary_name = true;
        disable_help_flag = true;
      };
      subs = [];
    }

-- the values of an argument, of all its uses
abbrev pub values_at : List ℕ → List Row → List (List ℕ)
values_at id rows = unwrap_or (all_of id rows) []

-- those of all three
abbrev pub parts_in : List Row → Parts
parts_in rows =
    record {
      json = values_at (codes "json") rows;
      workers = values_at (codes "workers") rows;
      others = values_at (codes "others") rows;
    }

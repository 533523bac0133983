use Rattle.std.proofs.Common.{refl}
use Rattle.tree_laws.specs.Limits.{LimitsAre}
use Rattle.tree_laws.proofs.laws.limit_law.Goals as goal

limits_are : LimitsAre
limits_are = record {
  servers = refl;
  hosts = refl;
  groups = refl;
  list_entries = refl;
  name_bytes = refl;
  filesets = refl;
  objects = refl;
  file_bytes = refl;
  fileset_number = refl;
  unique = refl;
  moves = refl;
  object_blocks = refl;
  labels = refl;
  tokens_least = refl;
  tokens_most = refl;
  tokens_default = refl;
  token_bytes = refl;
  needs = refl;
  block_bytes = refl;
  page_bytes = refl;
  capacity_least = refl;
  capacity_most = refl;
  capacity_default = refl;
  spare_blocks = refl;
  disk_end = refl;
  batch_acts = refl;
  script_lines = refl;
  line_bytes = refl;
  script_bytes = refl;
  write_bytes = refl;
  workers = refl;
  turn_steps = refl;
  node_steps = refl;
}

pub returns : goal.returns
returns c = record { limits = limits_are; setup = refl; exporter = refl }

-- The limits of the service as plain numbers.
use Rattle.std.specs.Prelude.{◌≡◌}
use Rattle.base_types.specs.declared.limits.TheConstants.{
  SERVERS_MAX,
  HOSTS_MAX,
  FILESETS_MAX,
  OBJECTS_MAX,
  FILESET_NUMBER_MAX,
  UNIQUE_MAX,
  FILE_BYTES_MAX,
  NAME_BYTES_MAX,
  LIST_ENTRIES_MAX,
  GROUPS_MAX,
  LABELS_MAX,
  CACHED_TOKENS_MIN,
  CACHED_TOKENS_MAX,
  CACHED_TOKENS_DEFAULT,
  TOKEN_BYTES,
  BLOCK_BYTES,
  PAGE_BYTES,
  CAPACITY_MIN,
  CAPACITY_MAX,
  CAPACITY_DEFAULT,
  SPARE_BLOCKS,
  DISK_END,
  BATCH_ACTS_MAX,
  SCRIPT_LINES_MAX,
  LINE_BYTES_MAX,
  SCRIPT_BYTES,
  WRITE_BYTES_MAX,
  WORKERS_MAX,
  NEEDS_MAX,
  TURN_STEPS_MAX,
  NODE_STEPS_MAX,
}
use Rattle.tree_filesets.specs.declared.fileset.TheConstants.{MOVES_MAX}
use Rattle.tree_filesets.specs.declared.promise.TheConstants.{OBJECT_BLOCKS}

pub record LimitsAre : Type 0 where
  -- who takes part: 4 servers, 16 client hosts
  pub servers : SERVERS_MAX ≡ 4
  pub hosts : HOSTS_MAX ≡ 16
  -- a user has 8 groups, an access list 16 entries, a name 60 bytes
  pub groups : GROUPS_MAX ≡ 8
  pub list_entries : LIST_ENTRIES_MAX ≡ 16
  pub name_bytes : NAME_BYTES_MAX ≡ 60
  -- a server has 16 filesets, each of 64 objects, of which a file has 65,536 bytes; no number is given twice
  pub filesets : FILESETS_MAX ≡ 16
  pub objects : OBJECTS_MAX ≡ 64
  pub file_bytes : FILE_BYTES_MAX ≡ 65536
  pub fileset_number : FILESET_NUMBER_MAX ≡ 65535
  pub unique : UNIQUE_MAX ≡ 4294967295
  -- it moves so often, and is promised 68 blocks for each object
  pub moves : MOVES_MAX ≡ 4294967295
  pub object_blocks : OBJECT_BLOCKS ≡ 68
  -- a host has 64 labels of locks and 64 of open files
  pub labels : LABELS_MAX ≡ 64
  -- it may cache 4 to 256 tokens, and 64 where nothing is said; they cover bytes by 1,024
  pub tokens_least : CACHED_TOKENS_MIN ≡ 4
  pub tokens_most : CACHED_TOKENS_MAX ≡ 256
  pub tokens_default : CACHED_TOKENS_DEFAULT ≡ 64
  pub token_bytes : TOKEN_BYTES ≡ 1024
  pub needs : NEEDS_MAX ≡ 65535
  -- an aggregate offers 68 to 65,536 blocks of 1,024 bytes in pages of 512, and 16,384 where nothing is said; 1,024
  -- more are spare
  pub block_bytes : BLOCK_BYTES ≡ 1024
  pub page_bytes : PAGE_BYTES ≡ 512
  pub capacity_least : CAPACITY_MIN ≡ 68
  pub capacity_most : CAPACITY_MAX ≡ 65536
  pub capacity_default : CAPACITY_DEFAULT ≡ 16384
  pub spare_blocks : SPARE_BLOCKS ≡ 1024
  pub disk_end : DISK_END ≡ 75125248
  pub batch_acts : BATCH_ACTS_MAX ≡ 8
  -- a script has 10,000 lines of 8,192 bytes; one more byte is read. A line writes 1,024 bytes
  pub script_lines : SCRIPT_LINES_MAX ≡ 10000
  pub line_bytes : LINE_BYTES_MAX ≡ 8192
  pub script_bytes : SCRIPT_BYTES ≡ 81930001
  pub write_bytes : WRITE_BYTES_MAX ≡ 1024
  -- 16 workers run nodes, which make at most 65,536 steps in a turn, and 2 ^ 40 in all
  pub workers : WORKERS_MAX ≡ 16
  pub turn_steps : TURN_STEPS_MAX ≡ 65536
  pub node_steps : NODE_STEPS_MAX ≡ 1099511627776

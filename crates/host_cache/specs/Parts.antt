-- What is kept of one file or directory.
use Rattle.std.specs.Prelude.{ℕ, List, Option}
use Rattle.tree_calls.specs.declared.part.DirEntry.{DirEntry}
use Rattle.tree_calls.specs.declared.part.Status.{Status}
use Rattle.token_types.specs.declared.token.Token.{Token}

pub record Parts : Type 0 where
  -- the held tokens of the file, the most recently used first
  pub tokens : List Token
  pub status : Option Status
  pub entries : List DirEntry
  -- from the first on; all behind them are zero
  pub bytes : List ℕ

-- The lines that say why there is no journal.
use Rattle.std.specs.Prelude.{ℕ, List, codes}

-- its file can't be made
unfoldable pub file_line : List ℕ
file_line = codes "journal: no file\n"

-- its file failed
unfoldable pub fault_line : List ℕ
fault_line = codes "journal: write fault\n"

-- the script ran on the file tree alone
unfoldable pub hosts_line : List ℕ
hosts_line = codes "journal: no hosts\n"

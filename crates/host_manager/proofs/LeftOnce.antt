-- A Sync lets no token leave twice.
use Rattle.base_types.specs.declared.ids.Fid.{Fid}
use Rattle.host_asks.specs.Asking.{Doing}
use Rattle.host_cache.specs.Files.{file_key, same_key}
use Rattle.host_cache.specs.Holding.{IsOnce}
use Rattle.host_cache.specs.declared.held.Held.{Held}
use Rattle.host_leaves.specs.Dirtying.{tokens_at}
use Rattle.host_leaves.specs.Giving.{LeavesDirty}
use Rattle.host_manager.proofs.Evicting.{each_once}
use Rattle.host_manager.proofs.OnceSaid.{once_filtered}
use Rattle.host_manager.proofs.SortedSo.{filter_once}
use Rattle.host_tables.specs.declared.draft.Draft.{Draft}
use Rattle.host_tables.specs.declared.tables.Tables.{Tables}
use Rattle.run_rules.specs.Past.{EachOnce}
use Rattle.std.proofs.Common.{subst, sym}

pub left_once : (m : Tables) (d : Draft) (fid : Fid) (gone : Doing)
    (leaves : LeavesDirty m d fid gone.tables gone.draft) → IsOnce m.cache.held → EachOnce leaves.tokens
left_once m d fid gone leaves once = subst EachOnce (sym leaves.dirty.some)
    (filter_once leaves.dirty.test (tokens_at m fid)
    (once_filtered (λ (h : Held). h.token) (λ (h : Held). same_key (file_key h.token.fid) (file_key fid)) m.cache.held
    (each_once m.cache.held once)))

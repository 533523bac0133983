-- Losses, level by level.
use Rattle.std.proofs.Common.{◌≡◌, ℕ, zero, suc, ◌-◌, ◌≢◌, List, [], ◌∷◌, ◌++◌, refl, arith}
use Rattle.std.specs.List.{flat_map}
use Rattle.std.specs.Option.{option_map_or}
use Rattle.base_types.specs.declared.ids.HostId.{HostId}
use Rattle.base_types.specs.declared.ids.ServerId.{ServerId}
use Rattle.tree_objects.specs.declared.content.Object.{Object}
use Rattle.tree_objects.specs.declared.content.Anode.{Anode}
use Rattle.tree_filesets.specs.Walk.{object_at}
use Rattle.tree_answers.specs.Losses.{file_losses, losses_below}
use Rattle.tree_filesets.specs.Laws.{entries_in}

-- with one level at least
pub losses_more : (levels : ℕ) (anodes : List Anode) (host : HostId) (server : ServerId) (path : List (List ℕ)) (object : Object) → levels ≢ 0 →
    losses_below levels anodes host server path object
    ≡ file_losses host server path object.content
    ++ flat_map (λ entry. option_map_or (losses_below (levels - 1) anodes host server (path ++ entry.name ∷ [])) (object_at anodes entry.anode) []) (entries_in object.content)
losses_more zero anodes host server path object h = absurd (h refl)
losses_more (suc levels) anodes host server path object h = let e : suc levels - 1 ≡ levels = omega arith in rw e refl

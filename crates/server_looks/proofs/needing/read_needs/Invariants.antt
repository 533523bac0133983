use Rattle.std.proofs.Common.{◌≡◌, ◌++◌, false, drop}
use Rattle.std.specs.List.{filter, flat_map}
use Rattle.need_server.specs.Wants.{all_of}
use Rattle.server_keeps.specs.Asking.{is_file_told}
use Rattle.server_looks.specs.Keepers.{HasStayed, IsFit}
use Rattle.server_looks.proofs.needing.read_needs.Given as goal

abbrev pub invariant-loop-fid : goal.invariant-loop-fid
invariant-loop-fid g l = record {
  fit : IsFit (g.S.Store.view l.keeper.store) l.keeper.left;
  stayed : HasStayed g.S.Store.tells (g.S.Store.view l.initial.keeper.store) (g.S.Store.view l.keeper.store);
  needs : g.S.Store.tells → l.needs
      ++ flat_map (all_of false) (filter (is_file_told (g.S.Store.view l.initial.keeper.store).state)
      (drop l.fid-index l.fids))
      ≡ flat_map (all_of false) (filter (is_file_told (g.S.Store.view l.initial.keeper.store).state) l.fids);
}

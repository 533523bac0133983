use Rattle.std.specs.Prelude.{Bool, ◌==◌, ◌&&◌}
use Rattle.base_types.specs.declared.ids.Fid.{Fid}

-- whether two fids are the same
abbrev pub same_fid : Fid → Fid → Bool
same_fid a b = (a.fileset.0 == b.fileset.0) && (a.anode == b.anode) && (a.unique == b.unique)

-- Which filesets a server made.
use Rattle.std.specs.Prelude.{◌/◌, ◌==◌, Bool}
use Rattle.base_types.specs.declared.ids.FilesetId.{FilesetId}
use Rattle.base_types.specs.declared.ids.ServerId.{ServerId}

abbrev pub is_of : ServerId → FilesetId → Bool
is_of server fileset = (fileset.0 / 65536) == server.0

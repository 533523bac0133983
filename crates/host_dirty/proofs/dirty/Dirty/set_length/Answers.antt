use Rattle.std.proofs.Common.{refl}
use Rattle.host_dirty.proofs.Changing.{length_set}
use Rattle.host_dirty.proofs.dirty.Dirty.set_length.Goals as goal

pub returns-clause-after : goal.returns-clause-after
returns-clause-after c =
    length_set c.args.self.now c.put.new.self c.args.fid _ c.in_ok-file.file c.in_ok-file.ensures
    c.in_ok-put.ensures.after c.args.length refl refl

use Rattle.std.proofs.Common.{ap, refl, ◌∙◌}
use Rattle.host_leaves.specs.Owning.{dirty_length}
use Rattle.host_leaves.proofs.Making.{cleaned, noted}
use Rattle.host_leaves.proofs.giving.give_of.Goals as goal

pub returns-clause-give : goal.returns-clause-give
returns-clause-give c =
    record {
      number = c.in_ok-number.ensures;
      file = refl;
      ids = c.in_ok-ids.ensures;
      pieces = c.in_ok-pieces.ensures.pieces;
      length = c.in_ok-length.ensures.length ∙ ap (λ m. dirty_length m c.args.fid) c.in_ok-pieces.ensures.others;
      ends = refl;
    }

pub returns-clause-cleans : goal.returns-clause-cleans
returns-clause-cleans c =
    cleaned c.args.tables.now c.take_dirty.new.tables c.args.fid c.args.giving.now c.args.leaving.now
    c.note_given.new.tables c.in_ok-number.number c.in_ok-length.length c.in_ok-pieces.ensures.cleans
    c.in_ok-length.ensures.after

pub returns-clause-after : goal.returns-clause-after
returns-clause-after c =
    noted c.args.tables.now c.take_dirty.new.tables c.args.fid c.args.giving.now c.args.leaving.now
    c.note_given.new.tables c.in_ok-number.number c.in_ok-length.length c.in_ok-pieces.ensures.others
    c.in_ok-length.ensures.after

use Rattle.std.proofs.Common.{ap, refl, subst, ◌<◌, ◌≤◌, ◌∙◌, ℕ}
use Rattle.base_types.specs.declared.span.Span.{Span}
use Rattle.host_cache.specs.Seen.{after_write, seen}
use Rattle.host_calls.proofs.Replied.{wrote_long, wrote_short}
use Rattle.host_dirty.specs.Dirtiness.{Adds}
use Rattle.host_calls.proofs.answering.write.Goals as goal

pub returns-then-length_seen-to : goal.returns-then-length_seen-to
returns-then-length_seen-to c =
    let m = c.args.tables.now in
    let written = c.write.ensures ∙ ap (after_write (seen m.cache) c.args.fid c.args.from) c.as_slice.ensures in
    record {
      shown = wrote_long m.cache c.write.new.self c.args.fid c.args.from c.args.to c.args.bytes.now written
          c.set_length.new.self c.set_length.ensures
          (subst (λ (k : ℕ). k < c.args.to) c.length_seen.ensures c.if-length_seen-to.true);
      dirty = subst (λ (s : Span). Adds m.dirty c.args.fid s c.add.new.self) c.positions.ensures
          c.in_ok-add.ensures.after;
      tables = refl;
    }

pub returns-else-length_seen-to : goal.returns-else-length_seen-to
returns-else-length_seen-to c =
    let m = c.args.tables.now in
    let written = c.write.ensures ∙ ap (after_write (seen m.cache) c.args.fid c.args.from) c.as_slice.ensures in
    record {
      shown = wrote_short m.cache c.write.new.self c.args.fid c.args.from c.args.to c.args.bytes.now written
          (subst (λ (k : ℕ). c.args.to ≤ k) c.length_seen.ensures c.if-length_seen-to.false);
      dirty = subst (λ (s : Span). Adds m.dirty c.args.fid s c.add.new.self) c.positions.ensures
          c.in_ok-add.ensures.after;
      tables = refl;
    }

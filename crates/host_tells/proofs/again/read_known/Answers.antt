use Rattle.std.proofs.Common.{None, Ok, Some, arith, refl, ◌+◌, ◌≡◌}
use Rattle.host_calls.specs.declared.looking.Verdict.TheVariants.{Reads}
use Rattle.host_tells.proofs.Knowing.{comes_there, marks_nothing, told_there}
use Rattle.host_tells.proofs.Speaking.{along_by}
use Rattle.host_tells.proofs.again.read_known.Goals as goal

pub returns-in_err-count-clause-told : goal.returns-in_err-count-clause-told
returns-in_err-count-clause-told c uses sized =
    let m = c.args.tables.now in
    let place = c.args.place.now in
    let known = c.args.known in
    let span = c.args.span in
    let call = c.args.call.now in
    let r = c.requires.call in
    let found = c.requires.known.found in
    let begun_is : c.in_ok-begun.begun ≡ m.begun + 1 = omega arith in
    rw c.from_residual-in_err-count.ensures (told_there m place known found r.0 r.1 span r.3 call r.2 uses sized
    c.in_ok-begun.begun begun_is c.args.out.now c.spell_bytes.new.out m None
    (along_by m call known.root place.path (Ok (Reads known.fid span))
    (comes_there m place known found r.0 r.1 span r.3 call r.2) c.args.out.now c.spell_bytes.new.out m None
    c.in_err-count.ensures refl))

pub returns-clause-told : goal.returns-clause-told
returns-clause-told c uses sized =
    let m = c.args.tables.now in
    let place = c.args.place.now in
    let known = c.args.known in
    let span = c.args.span in
    let call = c.args.call.now in
    let r = c.requires.call in
    let found = c.requires.known.found in
    let begun_is : c.in_ok-begun.begun ≡ m.begun + 1 = omega arith in
    told_there m place known found r.0 r.1 span r.3 call r.2 uses sized
    c.in_ok-begun.begun begun_is c.args.out.now c.spell_bytes.new.out c.begin.new.tables (Some c.in_ok-count.count) (
      m,
      along_by m call known.root place.path (Ok (Reads known.fid span))
          (comes_there m place known found r.0 r.1 span r.3 call r.2) c.args.out.now c.spell_bytes.new.out m
          (Some c.in_ok-count.count) c.in_ok-count.ensures
          (marks_nothing m place known found r.0 r.1 span r.3 call r.2 c.requires.known.marked),
      c.begin.ensures,
    )

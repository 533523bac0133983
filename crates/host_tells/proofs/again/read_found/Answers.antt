use Rattle.std.proofs.Common.{List, None, Ok, Some, [], arith, subst, sym, ◌+◌, ◌≡◌, ℕ}
use Rattle.host_calls.specs.Answering.{MarksUsed}
use Rattle.host_calls.specs.declared.looking.Verdict.TheVariants.{Reads}
use Rattle.host_tables.specs.declared.tables.Tables.{Tables}
use Rattle.host_tells.proofs.Knowing.{comes_there, counted_known, known_new, told_there}
use Rattle.host_tells.proofs.Speaking.{along_by}
use Rattle.host_tells.specs.Knows.{IsKnown}
use Rattle.host_tells.proofs.again.read_found.Goals as goal

pub returns-in_err-count-clause-told : goal.returns-in_err-count-clause-told
returns-in_err-count-clause-told c uses sized =
    let m = c.args.tables.now in
    let place = c.args.place.now in
    let known = c.args.known in
    let span = c.args.span in
    let call = c.args.call.now in
    let r = c.requires.call in
    let begun_is : c.in_ok-begun.begun ≡ m.begun + 1 = omega arith in
    rw c.from_residual-in_err-count.ensures (told_there m place known c.requires.found r.0 r.1 span r.3 call r.2 uses
    sized c.in_ok-begun.begun begun_is c.args.out.now c.answer_so.new.out c.answer_so.new.tables None
    (along_by m call known.root place.path (Ok (Reads known.fid span))
    (comes_there m place known c.requires.found r.0 r.1 span r.3 call r.2) c.args.out.now c.answer_so.new.out
    c.answer_so.new.tables None c.in_err-count.ensures.spells c.in_err-count.ensures.marks))

pub returns-clause-told : goal.returns-clause-told
returns-clause-told c uses sized =
    let m = c.args.tables.now in
    let place = c.args.place.now in
    let known = c.args.known in
    let span = c.args.span in
    let call = c.args.call.now in
    let r = c.requires.call in
    let begun_is : c.in_ok-begun.begun ≡ m.begun + 1 = omega arith in
    told_there m place known c.requires.found r.0 r.1 span r.3 call r.2 uses sized
    c.in_ok-begun.begun begun_is c.args.out.now c.answer_so.new.out c.begin.new.tables (Some c.in_ok-count.count) (
      c.answer_so.new.tables,
      along_by m call known.root place.path (Ok (Reads known.fid span))
          (comes_there m place known c.requires.found r.0 r.1 span r.3 call r.2) c.args.out.now c.answer_so.new.out
          c.answer_so.new.tables (Some c.in_ok-count.count) c.in_ok-count.ensures.spells
          (subst (λ (path : List (List ℕ)). MarksUsed m call known.root path (Ok (Reads known.fid span))
          c.answer_so.new.tables) c.as_slice.ensures c.in_ok-count.ensures.marks),
      c.begin.ensures,
    )

pub returns-clause-known : goal.returns-clause-known
returns-clause-known c =
    let m = c.args.tables.now in
    let place = c.args.place.now in
    let known = c.args.known in
    let span = c.args.span in
    let call = c.args.call.now in
    let r = c.requires.call in
    let marks = subst (λ (path : List (List ℕ)). MarksUsed m call known.root path (Ok (Reads known.fid span))
    c.answer_so.new.tables) c.as_slice.ensures c.in_ok-count.ensures.marks in
    subst (λ (t : Tables). IsKnown t place known) (sym c.begin.ensures)
    (counted_known c.answer_so.new.tables place known c.in_ok-begun.begun []
    (known_new m place known c.requires.found r.0 r.1 span r.3 call r.2 c.answer_so.new.tables marks))

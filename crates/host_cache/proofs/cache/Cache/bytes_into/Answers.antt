use Rattle.std.proofs.Common.{◌≡◌, ◌≤◌, ◌+◌, ap, sym, ◌∙◌, subst, arith, length, false, take, drop}
use Rattle.token_types.specs.Covers.{CoversBetween}
use Rattle.host_cache.specs.Holding.{tokens_of}
use Rattle.host_cache.specs.Files.{file_key}
use Rattle.host_cache.specs.Parts.{Parts}
use Rattle.host_cache.specs.Seen.{Kept, seen}
use Rattle.host_cache.proofs.Filing.{found_at, absent_at, some_there, none_there}
use Rattle.host_cache.proofs.Seeing.{covered_there, covered_room, read_seen}
use Rattle.host_cache.proofs.cache.Cache.bytes_into.Goals as goal

pub returns-then-is_empty-clause-bytes : goal.returns-then-is_empty-clause-bytes
returns-then-is_empty-clause-bytes c = λ at lt.
    let none = none_there (length c.args.out.now) c.if-is_empty.ensures in absurd (omega (arith, lt, none))

pub read-requires : goal.read-requires
read-requires c =
    let s = c.self.inside in
    let h = found_at s.files.entries (file_key c.args.fid) c.file_key.result c.file_key.ensures c.in-Some.file.now
    c.in-Some.ensures.value in
    let covered = subst (λ (k : Kept). CoversBetween (tokens_of k.held) c.args.fid false c.args.from
    (c.args.from + length c.args.out.now)) (sym c.self.view_is) c.requires in
    let some = some_there (length c.args.out.now) c.if-is_empty.ensures in
    subst (λ (p : Parts). c.args.from + length c.args.out.now ≤ length p.bytes) h
    (covered_room s.order s.files.entries c.self.invariant c.args.fid false c.args.from
    (c.args.from + length c.args.out.now) covered (omega (arith, some)))

pub returns-clause-bytes : goal.returns-clause-bytes
returns-clause-bytes c = λ at lt.
    let s = c.self.inside in
    let h = found_at s.files.entries (file_key c.args.fid) c.file_key.result c.file_key.ensures c.in-Some.file.now
    c.in-Some.ensures.value in
    let covered = subst (λ (k : Kept). CoversBetween (tokens_of k.held) c.args.fid false c.args.from
    (c.args.from + length c.args.out.now)) (sym c.self.view_is) c.requires in
    read_seen s.order s.files.entries c.self.invariant c.args.fid c.args.from (length c.args.out.now) covered
    c.read.new.out (subst (λ (p : Parts). c.read.new.out ≡ take (length c.args.out.now) (drop c.args.from p.bytes))
    (sym h)
    c.read.ensures) at lt
    ∙ ap (λ (k : Kept). (seen k).bytes c.args.fid (c.args.from + at)) c.self.view_is

pub returns-in_default-clause-bytes : goal.returns-in_default-clause-bytes
returns-in_default-clause-bytes c = λ at lt.
    let s = c.self.inside in
    let none = absent_at s.files.entries (file_key c.args.fid) c.file_key.result c.file_key.ensures
    c.in_default.ensures.value in
    let covered = subst (λ (k : Kept). CoversBetween (tokens_of k.held) c.args.fid false c.args.from
    (c.args.from + length c.args.out.now)) (sym c.self.view_is) c.requires in
    absurd (covered_there s.order s.files.entries c.self.invariant c.args.fid false c.args.from
    (c.args.from + length c.args.out.now) covered (omega (arith, lt)) none)

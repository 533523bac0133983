use Rattle.std.proofs.Common.{◌≡◌, ◌≤◌, ◌+◌, ap, sym, ◌∙◌, subst, arith, length, true}
use Rattle.token_types.specs.Covers.{CoversBetween}
use Rattle.host_cache.specs.Holding.{tokens_of}
use Rattle.host_cache.specs.Files.{file_key, Writes}
use Rattle.host_cache.specs.Parts.{Parts}
use Rattle.host_cache.specs.Seen.{Kept, seen, after_write, IsKept}
use Rattle.host_cache.proofs.Filing.{lent_at, found_at, absent_at, some_there, none_there}
use Rattle.host_cache.proofs.Seeing.{written_kept, written_seen, nothing_written, covered_there, covered_room}
use Rattle.host_cache.proofs.cache.Cache.write.Goals as goal

pub returns-then-is_empty : goal.returns-then-is_empty
returns-then-is_empty c =
    nothing_written (seen c.args.self.now) c.args.fid c.args.from c.args.bytes.now
    (none_there (length c.args.bytes.now) c.if-is_empty.ensures)

pub returns-in_default : goal.returns-in_default
returns-in_default c =
    let s = c.self.inside in
    let none = absent_at s.files.entries (file_key c.args.fid) c.file_key.result c.file_key.ensures
    c.in_default.ensures.value in
    let covered = subst (λ (k : Kept). CoversBetween (tokens_of k.held) c.args.fid true c.args.from
    (c.args.from + length c.args.bytes.now)) (sym c.self.view_is) c.requires in
    let some = some_there (length c.args.bytes.now) c.if-is_empty.ensures in
    absurd (covered_there s.order s.files.entries c.self.invariant c.args.fid true c.args.from
    (c.args.from + length c.args.bytes.now) covered (omega (arith, some)) none)

pub write-requires : goal.write-requires
write-requires c =
    let s = c.self.inside in
    let h = found_at s.files.entries (file_key c.args.fid) c.file_key.result c.file_key.ensures c.in-Some.file.now
    c.in-Some.ensures.value in
    let covered = subst (λ (k : Kept). CoversBetween (tokens_of k.held) c.args.fid true c.args.from
    (c.args.from + length c.args.bytes.now)) (sym c.self.view_is) c.requires in
    let some = some_there (length c.args.bytes.now) c.if-is_empty.ensures in
    subst (λ (p : Parts). c.args.from + length c.args.bytes.now ≤ length p.bytes) h
    (covered_room s.order s.files.entries c.self.invariant c.args.fid true c.args.from
    (c.args.from + length c.args.bytes.now) covered (omega (arith, some)))

pub invariant_of-self : goal.invariant_of-self
invariant_of-self c =
    let e : c.get_mut.follows.lender-at-none.entries ≡ c.self.inside.files.entries =
    λ i. (c.get_mut.follows.holds-at-none i).entries in
    subst (IsKept c.self.inside.order) (sym e) c.self.invariant

pub invariant_of-self-2 : goal.invariant_of-self-2
invariant_of-self-2 c =
    let s = c.self.inside in
    let w = c.write.new.self in
    let h = lent_at s.files.entries (file_key c.args.fid) c.file_key.result c.file_key.ensures
    (c.get_mut.follows.lender w).entries c.in-Some.file.now w c.in-Some.ensures.value (λ some.
    ((c.get_mut.follows.holds w).3 some).0) in
    let covered = subst (λ (k : Kept). CoversBetween (tokens_of k.held) c.args.fid true c.args.from
    (c.args.from + length c.args.bytes.now)) (sym c.self.view_is) c.requires in
    written_kept s.order s.files.entries (c.get_mut.follows.lender w).entries c.self.invariant c.args.fid c.args.from
    c.args.bytes.now covered w h.0
    (subst (λ (p : Parts). Writes c.args.from c.args.bytes.now p w) (sym h.1) c.write.ensures)

pub returns : goal.returns
returns c =
    let s = c.self.inside in
    let w = c.write.new.self in
    let h = lent_at s.files.entries (file_key c.args.fid) c.file_key.result c.file_key.ensures
    (c.get_mut.follows.lender w).entries c.in-Some.file.now w c.in-Some.ensures.value (λ some.
    ((c.get_mut.follows.holds w).3 some).0) in
    let covered = subst (λ (k : Kept). CoversBetween (tokens_of k.held) c.args.fid true c.args.from
    (c.args.from + length c.args.bytes.now)) (sym c.self.view_is) c.requires in
    written_seen s.order s.files.entries (c.get_mut.follows.lender w).entries c.self.invariant c.args.fid c.args.from
    c.args.bytes.now covered w h.0
    (subst (λ (p : Parts). Writes c.args.from c.args.bytes.now p w) (sym h.1) c.write.ensures)
    ∙ ap (λ (k : Kept). after_write (seen k) c.args.fid c.args.from c.args.bytes.now) c.self.view_is

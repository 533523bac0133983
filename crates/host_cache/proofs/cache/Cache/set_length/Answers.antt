use Rattle.std.proofs.Common.{◌≡◌, ap, sym, ◌∙◌, subst}
use Rattle.host_cache.specs.Files.{file_key, parts_at, Puts, with_length}
use Rattle.host_cache.specs.Parts.{Parts}
use Rattle.host_cache.specs.Seen.{Kept, seen, after_length, IsKept}
use Rattle.host_cache.proofs.Filing.{lent_at, absent_at}
use Rattle.host_cache.proofs.Seeing.{kept, longer_kept, longer_seen, longer_absent}
use Rattle.host_cache.proofs.cache.Cache.set_length.Goals as goal

pub returns-in_default : goal.returns-in_default
returns-in_default c =
    let s = c.self.inside in
    let none = absent_at s.files.entries (file_key c.args.fid) c.file_key.result c.file_key.ensures
    c.in_default.ensures.value in
    (λ i. seen (kept s.order (c.get_mut.follows.holds-at-none i).entries))
    ∙ longer_absent s.order s.files.entries c.self.invariant c.args.fid c.args.length none
    ∙ ap (λ (k : Kept). after_length (seen k) c.args.fid c.args.length) c.self.view_is

pub invariant_of-self : goal.invariant_of-self
invariant_of-self c =
    let e : c.get_mut.follows.lender-at-none.entries ≡ c.self.inside.files.entries =
    λ i. (c.get_mut.follows.holds-at-none i).entries in
    subst (IsKept c.self.inside.order) (sym e) c.self.invariant

put : (c : goal.After-self-2-1) → let s = c.self.inside in
    Puts s.files.entries (file_key c.args.fid) (with_length c.args.length (parts_at s.files.entries (file_key
    c.args.fid)))
    (c.get_mut.follows.lender c.set_length.new.self).entries
put c =
    let s = c.self.inside in
    let h = lent_at s.files.entries (file_key c.args.fid) c.file_key.result c.file_key.ensures
    (c.get_mut.follows.lender c.set_length.new.self).entries c.in-Some.file.now c.set_length.new.self
    c.in-Some.ensures.value (λ some. ((c.get_mut.follows.holds c.set_length.new.self).3 some).0) in
    subst (λ (w : Parts). Puts s.files.entries (file_key c.args.fid) w (c.get_mut.follows.lender
    c.set_length.new.self).entries)
    (c.set_length.ensures ∙ ap (with_length c.args.length) (sym h.1)) h.0

pub invariant_of-self-2 : goal.invariant_of-self-2
invariant_of-self-2 c =
    let s = c.self.inside in
    longer_kept s.order s.files.entries (c.get_mut.follows.lender c.set_length.new.self).entries c.self.invariant
    c.args.fid
    c.args.length (put c)

pub returns : goal.returns
returns c =
    let s = c.self.inside in
    longer_seen s.order s.files.entries (c.get_mut.follows.lender c.set_length.new.self).entries c.self.invariant
    c.args.fid
    c.args.length (put c) ∙ ap (λ (k : Kept). after_length (seen k) c.args.fid c.args.length) c.self.view_is

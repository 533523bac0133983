use Rattle.std.proofs.Common.{◌≡◌, ◌≤◌, ℕ, ap, sym, ◌∙◌, subst, filter, length, take}
use Rattle.host_cache.specs.Holding.{used, helps_cover, helpers_first, brought_all}
use Rattle.host_cache.specs.Files.{file_key, parts_at, Puts}
use Rattle.host_cache.specs.Parts.{Parts}
use Rattle.host_cache.specs.Seen.{Kept, seen, after_used, IsKept}
use Rattle.host_cache.proofs.Filing.{lent_at, found_at, absent_at}
use Rattle.host_cache.proofs.Seeing.{kept}
use Rattle.host_cache.proofs.Using.{brought_used, front_is, front_within, used_kept, used_seen, nothing_used}
use Rattle.host_cache.proofs.cache.Cache.used.Goals as goal

pub returns-in_default : goal.returns-in_default
returns-in_default c =
    let s = c.self.inside in
    let none = absent_at s.files.entries (file_key c.args.need.now.fid) c.file_key.result c.file_key.ensures
    c.in_default.ensures.value in
    (λ i. seen (kept s.order (c.get_mut.follows.holds-at-none i).entries))
    ∙ (λ i. record (seen (kept s.order s.files.entries)) {
      held = sym (nothing_used s.order s.files.entries c.self.invariant
          c.args.need.now none) i;
    })
    ∙ ap (λ (k : Kept). after_used (seen k) c.args.need.now) c.self.view_is

pub invariant_of-self : goal.invariant_of-self
invariant_of-self c =
    let e : c.get_mut.follows.lender-at-none.entries ≡ c.self.inside.files.entries =
    λ i. (c.get_mut.follows.holds-at-none i).entries in
    subst (IsKept c.self.inside.order) (sym e) c.self.invariant

pub first-requires : goal.first-requires
first-requires c =
    let need = c.args.need.now in
    let old = c.in-Some.file.now.tokens in
    subst (λ (n : ℕ). n ≤ length c.bring_helpers-count.new.self.tokens) (sym c.bring_helpers-count.ensures.count)
    (subst (λ (p : Parts). length (filter (helps_cover need) old) ≤ length p.tokens) (sym c.bring_helpers-count.ensures.order)
    (front_within need old))

order : (c : goal.After-self-2-1) → c.promote_all.new.self ≡ used c.args.need.now c.self.inside.order
order c =
    let s = c.self.inside in
    let need = c.args.need.now in
    let old = c.in-Some.file.now.tokens in
    let h = found_at s.files.entries (file_key need.fid) c.file_key.result c.file_key.ensures
    c.in-Some.file.now c.in-Some.ensures.value in
    let helpers : c.first.result.now ≡ filter (helps_cover need) old =
    c.first.ensures ∙ ap (λ (p : Parts). take c.bring_helpers-count.result p.tokens) c.bring_helpers-count.ensures.order
    ∙ ap (λ (n : ℕ). take n (helpers_first need old)) c.bring_helpers-count.ensures.count ∙ front_is need old in
    c.promote_all.ensures
    ∙ ap (λ ts. brought_all ts s.order) (helpers ∙ ap (filter (helps_cover need))
    (ap (λ (p : Parts). p.tokens) (sym h) ∙ c.self.invariant.tokens (file_key need.fid)))
    ∙ brought_used need s.order c.laws.ensures

put : (c : goal.After-self-2-1) → let s = c.self.inside in
    Puts s.files.entries (file_key c.args.need.now.fid)
    (record (parts_at s.files.entries (file_key c.args.need.now.fid)) {
      tokens = helpers_first c.args.need.now (parts_at s.files.entries (file_key c.args.need.now.fid)).tokens;
    }) (c.get_mut.follows.lender c.bring_helpers-count.new.self).entries
put c =
    let s = c.self.inside in
    let w = c.bring_helpers-count.new.self in
    let h = lent_at s.files.entries (file_key c.args.need.now.fid) c.file_key.result c.file_key.ensures
    (c.get_mut.follows.lender w).entries c.in-Some.file.now w c.in-Some.ensures.value (λ some.
    ((c.get_mut.follows.holds w).3 some).0) in
    subst (λ (p : Parts). Puts s.files.entries (file_key c.args.need.now.fid) p (c.get_mut.follows.lender w).entries)
    (c.bring_helpers-count.ensures.order
    ∙ ap (λ (p : Parts). record p { tokens = helpers_first c.args.need.now p.tokens }) (sym h.1)) h.0

pub invariant_of-self-2 : goal.invariant_of-self-2
invariant_of-self-2 c =
    let s = c.self.inside in
    subst (λ o. IsKept o (c.get_mut.follows.lender c.bring_helpers-count.new.self).entries) (sym (order c))
    (used_kept s.order s.files.entries (c.get_mut.follows.lender c.bring_helpers-count.new.self).entries c.self.invariant
    c.args.need.now (put c))

pub returns : goal.returns
returns c =
    let s = c.self.inside in
    ap (λ o. seen (kept o (c.get_mut.follows.lender c.bring_helpers-count.new.self).entries)) (order c)
    ∙ used_seen s.order s.files.entries (c.get_mut.follows.lender c.bring_helpers-count.new.self).entries c.self.invariant
    c.args.need.now (put c)
    ∙ ap (λ (k : Kept). after_used (seen k) c.args.need.now) c.self.view_is

use Rattle.std.proofs.Common.{◌≡◌, ap, sym, ◌∙◌, subst, Some, None}
use Rattle.std.specs.List.{find}
use Rattle.host_cache.specs.Files.{file_key, parts_at, Puts, told_by}
use Rattle.host_cache.specs.Holding.{is_id, IsOnce}
use Rattle.host_cache.specs.Seen.{Kept, seen, after_drop, IsKept}
use Rattle.host_cache.proofs.Lists.{none_kept, none_passes}
use Rattle.host_cache.proofs.Seeing.{kept}
use Rattle.host_cache.proofs.Dropping.{forgot_kept, forgot_seen, nothing_dropped}
use Rattle.host_cache.proofs.cache.Cache.drop_id.Goals as goal

pub invariant_of-self : goal.invariant_of-self
invariant_of-self c =
    let order = c.self.inside.order in
    let none : find (is_id c.args.id) order ≡ None = sym c.take.ensures.taken ∙ c.in_err-held.was in
    let same = none_kept (is_id c.args.id) order (none_passes (is_id c.args.id) order none) in
    subst (λ o. IsKept o c.self.inside.files.entries) (sym (c.take.ensures.left ∙ same)) c.self.invariant

pub returns-in_err-held-clause-after : goal.returns-in_err-held-clause-after
returns-in_err-held-clause-after c =
    let order = c.self.inside.order in
    let none : find (is_id c.args.id) order ≡ None = sym c.take.ensures.taken ∙ c.in_err-held.was in
    let same = none_kept (is_id c.args.id) order (none_passes (is_id c.args.id) order none) in
    ap (λ o. seen (kept o c.self.inside.files.entries)) (c.take.ensures.left ∙ same)
    ∙ nothing_dropped order c.self.inside.files.entries c.args.id same
    ∙ ap (λ (k : Kept). after_drop (seen k) c.args.id) c.self.view_is

pub invariant_of-self-2 : goal.invariant_of-self-2
invariant_of-self-2 c =
    let s = c.self.inside in
    let mid = c.drop_from_file.new.files.entries in
    let last = c.forget_status.new.files.entries in
    let key = file_key c.in_ok-held.held.token.fid in
    let there : find (is_id c.args.id) s.order ≡ Some c.in_ok-held.held = sym c.take.ensures.taken ∙ c.in_ok-held.was in
    subst (λ o. IsKept o last) (sym c.take.ensures.left)
    (forgot_kept s.order s.files.entries mid c.self.invariant c.args.id c.in_ok-held.held
    c.laws.ensures there c.drop_from_file.ensures last (subst IsOnce c.take.ensures.left c.laws-2.ensures)
    (subst (λ o. Puts mid key (told_by o (parts_at mid key)) last) c.take.ensures.left c.forget_status.ensures))

pub returns-clause-after : goal.returns-clause-after
returns-clause-after c =
    let s = c.self.inside in
    let mid = c.drop_from_file.new.files.entries in
    let last = c.forget_status.new.files.entries in
    let key = file_key c.in_ok-held.held.token.fid in
    let there : find (is_id c.args.id) s.order ≡ Some c.in_ok-held.held = sym c.take.ensures.taken ∙ c.in_ok-held.was in
    ap (λ o. seen (kept o last)) c.take.ensures.left
    ∙ forgot_seen s.order s.files.entries mid c.self.invariant c.args.id c.in_ok-held.held
    c.laws.ensures there c.drop_from_file.ensures last (subst IsOnce c.take.ensures.left c.laws-2.ensures)
    (subst (λ o. Puts mid key (told_by o (parts_at mid key)) last) c.take.ensures.left c.forget_status.ensures)
    ∙ ap (λ (k : Kept). after_drop (seen k) c.args.id) c.self.view_is

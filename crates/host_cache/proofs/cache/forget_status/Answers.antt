use Rattle.std.proofs.Common.{◌≡◌, true, false, ap, sym, ◌∙◌, subst, None}
use Rattle.std.specs.List.{list_any}
use Rattle.token_types.specs.declared.token.Token.{Token}
use Rattle.host_cache.specs.Files.{file_key, parts_at, Puts, told_by}
use Rattle.host_cache.specs.Holding.{tells_at}
use Rattle.host_cache.specs.Parts.{Parts}
use Rattle.host_cache.proofs.Filing.{absent_at, lent_at, puts_same, told_none, told_some}
use Rattle.host_cache.proofs.cache.forget_status.Goals as goal

pub returns-in_default : goal.returns-in_default
returns-in_default c =
    let old = c.args.files.now.entries in
    let key = file_key c.args.fid in
    let held = c.args.order.now in
    let e : c.get_mut.follows.lender-at-none.entries ≡ old = λ i. (c.get_mut.follows.holds-at-none i).entries in
    let none = absent_at old key c.file_key.result c.file_key.ensures c.in_default.ensures.value in
    subst (λ new. Puts old key (told_by held (parts_at old key)) new) (sym e)
    (subst (λ p. Puts old key (told_by held p) old) (sym none)
    (subst (λ p. Puts old key p old) none (puts_same old key)))

pub returns-then-not-tells_any : goal.returns-then-not-tells_any
returns-then-not-tells_any c =
    let old = c.args.files.now.entries in
    let key = file_key c.args.fid in
    let held = c.args.order.now in
    let w = c.forget_status.new.self in
    let new = (c.get_mut.follows.lender w).entries in
    let h = lent_at old key c.file_key.result c.file_key.ensures new c.in-Some.file.now w c.in-Some.ensures.value
    (λ some. ((c.get_mut.follows.holds w).3 some).0) in
    let tells : list_any (λ (t : Token). tells_at held t.id) (parts_at old key).tokens ≡ false =
    ap (λ (p : Parts). list_any (λ (t : Token). tells_at held t.id) p.tokens) h.1
    ∙ ap (list_any (λ (t : Token). tells_at held t.id)) (sym c.tokens.ensures)
    ∙ sym c.tells_any.ensures ∙ c.if-not-tells_any.true in
    subst (λ p. Puts old key p new)
    (c.forget_status.ensures ∙ ap (λ (p : Parts). record p { status = None }) (sym h.1)
    ∙ sym (told_none held (parts_at old key) tells)) h.0

pub returns-else-not-tells_any : goal.returns-else-not-tells_any
returns-else-not-tells_any c =
    let old = c.args.files.now.entries in
    let key = file_key c.args.fid in
    let held = c.args.order.now in
    let w = c.in-Some.file.now in
    let new = (c.get_mut.follows.lender w).entries in
    let h = lent_at old key c.file_key.result c.file_key.ensures new c.in-Some.file.now w c.in-Some.ensures.value
    (λ some. ((c.get_mut.follows.holds w).3 some).0) in
    let tells : list_any (λ (t : Token). tells_at held t.id) (parts_at old key).tokens ≡ true =
    ap (λ (p : Parts). list_any (λ (t : Token). tells_at held t.id) p.tokens) h.1
    ∙ ap (list_any (λ (t : Token). tells_at held t.id)) (sym c.tokens.ensures)
    ∙ sym c.tells_any.ensures ∙ c.if-not-tells_any.false in
    subst (λ p. Puts old key p new) (sym h.1 ∙ sym (told_some held (parts_at old key) tells)) h.0

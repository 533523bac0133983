use Rattle.std.proofs.Common.{◌≡◌, ◌<◌, ℕ, ap, sym, ◌∙◌, subst, List, length, None}
use Rattle.token_types.specs.declared.token.Token.{Token}
use Rattle.host_cache.specs.Files.{file_key, nothing, parts_at, Puts, without_token}
use Rattle.host_cache.specs.Parts.{Parts}
use Rattle.host_cache.proofs.Filing.{lent_at, puts, puts_twice, left_none, left_some, some_there, none_there}
use Rattle.host_cache.proofs.cache.drop_from_file.Goals as goal

pub returns-then-is_empty : goal.returns-then-is_empty
returns-then-is_empty c =
    let old = c.args.files.now.entries in
    let key = file_key c.args.fid in
    let w = c.drop_id.new.self in
    let mid = (c.get_mut.follows.lender w).entries in
    let new = c.remove.new.self.entries in
    let h = lent_at old key c.file_key-key.result c.file_key-key.ensures mid c.in-Some.file.now w
    c.in-Some.ensures.value
    (λ some. ((c.get_mut.follows.holds w).3 some).0) in
    let gone = subst (λ k. Puts mid k nothing new) c.file_key-key.ensures
    (puts mid new c.file_key-key.result None c.remove.ensures.updates.0) in
    let none : length (without_token c.args.id (parts_at old key)).tokens ≡ 0 =
    ap (λ (p : Parts). length (without_token c.args.id p).tokens) h.1
    ∙ ap (λ (p : Parts). length p.tokens) (sym c.drop_id.ensures) ∙ ap (λ (l : List Token). length l) (sym
    c.tokens.ensures)
    ∙ none_there (length c.tokens.result.now) c.if-is_empty.ensures in
    subst (λ p. Puts old key p new) (sym (left_none (without_token c.args.id (parts_at old key)) none))
    (puts_twice old mid new key w nothing h.0 gone)

pub returns-else-is_empty : goal.returns-else-is_empty
returns-else-is_empty c =
    let old = c.args.files.now.entries in
    let key = file_key c.args.fid in
    let w = c.drop_id.new.self in
    let mid = (c.get_mut.follows.lender w).entries in
    let h = lent_at old key c.file_key-key.result c.file_key-key.ensures mid c.in-Some.file.now w
    c.in-Some.ensures.value
    (λ some. ((c.get_mut.follows.holds w).3 some).0) in
    let is : w ≡ without_token c.args.id (parts_at old key) =
    c.drop_id.ensures ∙ ap (without_token c.args.id) (sym h.1) in
    let some : 0 < length (without_token c.args.id (parts_at old key)).tokens =
    subst (λ (n : ℕ). 0 < n) (ap (λ (l : List Token). length l) c.tokens.ensures
    ∙ ap (λ (p : Parts). length p.tokens) is)
    (some_there (length c.tokens.result.now) c.if-is_empty.ensures) in
    subst (λ p. Puts old key p mid) (is ∙ sym (left_some (without_token c.args.id (parts_at old key)) some)) h.0

use Rattle.std.proofs.Common.{◌↔◌, [], ap, sym, subst, ◌∙◌, if◌then◌else◌, option_copied}
use Rattle.std.specs.List.{list_any}
use Rattle.token_types.specs.Covers.{CoversKind}
use Rattle.token_types.specs.declared.token.Token.{Token}
use Rattle.host_cache.specs.Files.{file_key}
use Rattle.host_cache.specs.Holding.{kind_has_byte, tokens_of}
use Rattle.host_cache.specs.Parts.{Parts}
use Rattle.host_cache.specs.Seen.{Kept, of_key, seen}
use Rattle.host_cache.proofs.Filing.{found_at, absent_at}
use Rattle.host_cache.proofs.Seeing.{covers_same, entries_shown, status_shown}
use Rattle.host_cache.proofs.cache.Cache.at.Goals as goal

pub returns-in_default-clause-tokens : goal.returns-in_default-clause-tokens
returns-in_default-clause-tokens c =
    let s = c.self.inside in
    let none = absent_at s.files.entries (file_key c.args.fid) c.file_key.result c.file_key.ensures
    c.in_default.ensures.value in
    c.nothing.ensures.tokens ∙ ap (λ (p : Parts). p.tokens) (sym none) ∙ c.self.invariant.tokens (file_key c.args.fid)
    ∙ ap (λ (k : Kept). tokens_of (of_key (file_key c.args.fid) k.held)) c.self.view_is

pub returns-in_default-clause-covered : goal.returns-in_default-clause-covered
returns-in_default-clause-covered c kind =
    let s = c.self.inside in
    let none = absent_at s.files.entries (file_key c.args.fid) c.file_key.result c.file_key.ensures
    c.in_default.ensures.value in
    subst (λ (k : Kept). CoversKind c.nothing.result.tokens.now c.args.fid kind
    ↔ CoversKind (tokens_of k.held) c.args.fid kind) c.self.view_is
    (covers_same s.order c.args.fid c.nothing.result.tokens.now (c.nothing.ensures.tokens
    ∙ ap (λ (p : Parts). p.tokens) (sym none) ∙ c.self.invariant.tokens (file_key c.args.fid)) kind)

pub returns-in_default-clause-status : goal.returns-in_default-clause-status
returns-in_default-clause-status c =
    let s = c.self.inside in
    let none = absent_at s.files.entries (file_key c.args.fid) c.file_key.result c.file_key.ensures
    c.in_default.ensures.value in
    ap (λ o. option_copied o) c.nothing.ensures.status ∙ ap (λ (p : Parts). p.status) (sym none)
    ∙ status_shown s.order s.files.entries c.self.invariant c.args.fid
    ∙ ap (λ (k : Kept). (seen k).status c.args.fid) c.self.view_is

pub returns-in_default-clause-entries : goal.returns-in_default-clause-entries
returns-in_default-clause-entries c =
    let s = c.self.inside in
    let none = absent_at s.files.entries (file_key c.args.fid) c.file_key.result c.file_key.ensures
    c.in_default.ensures.value in
    c.nothing.ensures.entries
    ∙ ap (λ (p : Parts). if list_any (λ (t : Token). kind_has_byte 0 t.kind) p.tokens then p.entries else []) (sym none)
    ∙ entries_shown s.order s.files.entries c.self.invariant c.args.fid
    ∙ ap (λ (k : Kept). (seen k).entries c.args.fid) c.self.view_is

pub returns-clause-tokens : goal.returns-clause-tokens
returns-clause-tokens c =
    let s = c.self.inside in
    let h = found_at s.files.entries (file_key c.args.fid) c.file_key.result c.file_key.ensures c.in-Some.file.now
    c.in-Some.ensures.value in
    c.shown.ensures.tokens ∙ ap (λ (p : Parts). p.tokens) (sym h) ∙ c.self.invariant.tokens (file_key c.args.fid)
    ∙ ap (λ (k : Kept). tokens_of (of_key (file_key c.args.fid) k.held)) c.self.view_is

pub returns-clause-covered : goal.returns-clause-covered
returns-clause-covered c kind =
    let s = c.self.inside in
    let h = found_at s.files.entries (file_key c.args.fid) c.file_key.result c.file_key.ensures c.in-Some.file.now
    c.in-Some.ensures.value in
    subst (λ (k : Kept). CoversKind c.shown.result.tokens.now c.args.fid kind
    ↔ CoversKind (tokens_of k.held) c.args.fid kind) c.self.view_is
    (covers_same s.order c.args.fid c.shown.result.tokens.now (c.shown.ensures.tokens
    ∙ ap (λ (p : Parts). p.tokens) (sym h) ∙ c.self.invariant.tokens (file_key c.args.fid)) kind)

pub returns-clause-status : goal.returns-clause-status
returns-clause-status c =
    let s = c.self.inside in
    let h = found_at s.files.entries (file_key c.args.fid) c.file_key.result c.file_key.ensures c.in-Some.file.now
    c.in-Some.ensures.value in
    c.shown.ensures.status ∙ ap (λ (p : Parts). p.status) (sym h)
    ∙ status_shown s.order s.files.entries c.self.invariant c.args.fid
    ∙ ap (λ (k : Kept). (seen k).status c.args.fid) c.self.view_is

pub returns-clause-entries : goal.returns-clause-entries
returns-clause-entries c =
    let s = c.self.inside in
    let h = found_at s.files.entries (file_key c.args.fid) c.file_key.result c.file_key.ensures c.in-Some.file.now
    c.in-Some.ensures.value in
    c.shown.ensures.entries
    ∙ ap (λ (p : Parts). if list_any (λ (t : Token). kind_has_byte 0 t.kind) p.tokens then p.entries else []) (sym h)
    ∙ entries_shown s.order s.files.entries c.self.invariant c.args.fid
    ∙ ap (λ (k : Kept). (seen k).entries c.args.fid) c.self.view_is

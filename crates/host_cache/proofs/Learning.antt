-- What is kept of a file after a token was put first.
use Rattle.std.proofs.Common.{◌≡◌, ℕ, Bool, true, false, List, ◌∷◌, length, Option}
use Rattle.std.proofs.Common.{Some, None, refl, sym, ap, ◌∙◌, if◌then◌else◌, is_some, true≢false}
use Rattle.base_types.specs.Image.{byte_at}
use Rattle.base_types.specs.Spans.{has_byte}
use Rattle.base_types.specs.declared.span.Span.{Span}
use Rattle.tree_calls.specs.declared.part.DirEntry.{DirEntry}
use Rattle.tree_calls.specs.declared.part.Piece.{Piece}
use Rattle.tree_calls.specs.declared.part.Status.{Status as StatusOf}
use Rattle.token_types.specs.declared.token.Kind.{Kind}
use Rattle.token_types.specs.declared.token.Kind.TheVariants.{Bytes, Status, Lock, Opening}
use Rattle.token_types.specs.declared.token.Token.{Token}
use Rattle.host_cache.specs.Bytes.{told_byte, IsLaid}
use Rattle.host_cache.specs.Holding.{kind_has_byte, is_status}
use Rattle.host_cache.specs.Files.{Learns, with_token, with_status, with_entries}
use Rattle.host_cache.specs.Parts.{Parts}

-- a token of another kind comes with no status
pub no_status : (told : Option StatusOf) (kind : Kind) → (is_some told ≡ true → is_status kind ≡ true) →
    is_status kind ≡ false → told ≡ None
no_status None kind only none = refl
no_status (Some s) kind only none = absurd (true≢false (sym (only refl) ∙ none))

pub no_bytes : (kind : Kind) → is_status kind ≡ true → (at : ℕ) → kind_has_byte at kind ≡ false
no_bytes (Bytes update span) e at = absurd (true≢false (sym e))
no_bytes (Status update) e at = refl
no_bytes (Lock writing span) e at = refl
no_bytes (Opening kind) e at = refl

-- a token that has no bytes
pub plain_learnt : (token : Token) (told : Option StatusOf) (pieces : List Piece) (names : List DirEntry) (old new :
    Parts) →
    ((at : ℕ) → kind_has_byte at token.kind ≡ false) → new ≡ with_token token (with_status told old) →
    Learns token told pieces names old new
plain_learnt token told pieces names old new none e = record {
  tokens = ap (λ (p : Parts). p.tokens) e;
  status = ap (λ (p : Parts). p.status) e;
  entries = ap (λ (p : Parts). p.entries) e ∙ sym (ap (λ b. if b then names else old.entries) (none 0));
  room = ap (λ (p : Parts). length p.bytes) e;
  bytes = λ at. ap (λ (p : Parts). byte_at p.bytes at) e
      ∙ sym (ap (λ b. if b then told_byte pieces at else byte_at old.bytes at) (none at));
}

pub other_kind : (kind : Kind) → ((update : Bool) (span : Span) → kind ≡ Bytes update span → ⊥) →
    ((update : Bool) → kind ≡ Status update → ⊥) → ((at : ℕ) → kind_has_byte at kind ≡ false) × (is_status kind ≡ false)
other_kind (Bytes update span) b s = absurd (b update span refl)
other_kind (Status update) b s = absurd (s update refl)
other_kind (Lock writing span) b s = ((λ at. refl), refl)
other_kind (Opening kind) b s = ((λ at. refl), refl)

-- the bytes stay where a token is put first
pub kept_bytes : (token : Token) (names : List DirEntry) (old : Parts) (b : Bool) →
    (with_token token (if b then with_entries names old else old)).bytes ≡ old.bytes
kept_bytes token names old true = refl
kept_bytes token names old false = refl

-- a token that has bytes
pub bytes_learnt : (token : Token) (span : Span) (pieces : List Piece) (names : List DirEntry) (old mid : Parts)
    (bytes : List ℕ) → ((at : ℕ) → kind_has_byte at token.kind ≡ has_byte span at) →
    mid ≡ with_token token (if has_byte span 0 then with_entries names old else old) → IsLaid span pieces mid.bytes
    bytes →
    Learns token None pieces names old (record mid { bytes = bytes })
bytes_learnt token span pieces names old mid bytes kind e laid =
    let same : mid.bytes ≡ old.bytes = ap (λ (p : Parts). p.bytes) e ∙ kept_bytes token names old (has_byte span 0) in
    record {
      tokens = ap (λ (p : Parts). p.tokens) e ∙ old_tokens (has_byte span 0);
      status = ap (λ (p : Parts). p.status) e ∙ old_status (has_byte span 0);
      entries = ap (λ (p : Parts). p.entries) e ∙ new_entries (has_byte span 0)
          ∙ sym (ap (λ b. if b then names else old.entries) (kind 0));
      room = laid.len ∙ ap (λ (l : List ℕ). length l) same;
      bytes = λ at. laid.each at
          ∙ (λ i. if sym (kind at) i then told_byte pieces at else byte_at (same i) at);
    }
  where
    old_tokens : (b : Bool) → (with_token token (if b then with_entries names old else old)).tokens ≡ token ∷ old.tokens
    old_tokens true = refl
    old_tokens false = refl

    old_status : (b : Bool) → (with_token token (if b then with_entries names old else old)).status ≡ old.status
    old_status true = refl
    old_status false = refl

    new_entries : (b : Bool) → (with_token token (if b then with_entries names old else old)).entries
        ≡ (if b then names else old.entries)
    new_entries true = refl
    new_entries false = refl

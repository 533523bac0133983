-- How far a token covers.
use Rattle.std.proofs.Common.{◌≡◌, ◌≤◌, ◌<◌, ℕ, Bool, true, ◌&&◌, nat_le, nat_lt, List, Some, refl, arith}
use Rattle.std.specs.List.{find}
use Rattle.std.proofs.lemmas.Bool.{and_parts, and_from, ltb-true, leb-true, lt-ltb, le-leb, false≢true}
use Rattle.base_types.specs.declared.ids.Fid.{Fid}
use Rattle.base_types.specs.Ids.{same_fid}
use Rattle.base_types.specs.declared.span.Span.{Span}
use Rattle.token_types.specs.declared.token.Kind.{Kind}
use Rattle.token_types.specs.declared.token.Kind.TheVariants.{Bytes, Status, Lock, Opening}
use Rattle.token_types.specs.declared.token.Token.{Token}
use Rattle.token_types.specs.Covers.{does_for, kind_covers_byte, covers_byte, CoversBetween}
use Rattle.token_types.proofs.Found.{find_passes, any_found}

-- what a test of a byte says of a span
bytes_pass : (fid : Fid) (needed : Bool) (at : ℕ) (token : Token) (update : Bool) (span : Span) → covers_byte fid needed
    at token ≡ true → token.kind ≡ Bytes update span → (same_fid token.fid fid ≡ true) × (does_for update needed ≡ true)
    × (span.from ≤ at) × (at < span.to)
bytes_pass fid needed at token update span e k =
    let both = and_parts (same_fid token.fid fid) (kind_covers_byte needed at token.kind) e in
    let inner : (does_for update needed && (nat_le span.from at && nat_lt at span.to)) ≡ true = rw k at both.1 in
    let mode = and_parts (does_for update needed) (nat_le span.from at && nat_lt at span.to) inner in
    let ends = and_parts (nat_le span.from at) (nat_lt at span.to) mode.1 in
    (both.0, mode.0, leb-true span.from at ends.0, ltb-true at span.to ends.1)

-- a token passes it at each byte from there to its end
pass_bytes : (fid : Fid) (needed : Bool) (at : ℕ) (token : Token) (update : Bool) (span : Span) →
    token.kind ≡ Bytes update span → same_fid token.fid fid ≡ true → does_for update needed ≡ true → span.from ≤ at →
    at < span.to → covers_byte fid needed at token ≡ true
pass_bytes fid needed at token update span k same mode from to =
    rw k (and_from (same_fid token.fid fid) (does_for update needed && (nat_le span.from at && nat_lt at span.to)) same
    (and_from (does_for update needed) (nat_le span.from at && nat_lt at span.to) mode
    (and_from (nat_le span.from at) (nat_lt at span.to) (le-leb span.from at from) (lt-ltb at span.to to))))

-- the byte lies before the end of the span
pub ends_beyond : (fid : Fid) (needed : Bool) (at : ℕ) (held : List Token) (token : Token) (update : Bool)
    (span : Span) → find (covers_byte fid needed at) held ≡ Some token → token.kind ≡ Bytes update span → at < span.to
ends_beyond fid needed at held token update span e k =
    (bytes_pass fid needed at token update span (find_passes (covers_byte fid needed at) held token e) k).3

-- each byte from there to the end of the span is covered too
pub covers_to_end : (fid : Fid) (needed : Bool) (at : ℕ) (held : List Token) (token : Token) (update : Bool)
    (span : Span) → find (covers_byte fid needed at) held ≡ Some token → token.kind ≡ Bytes update span →
    CoversBetween held fid needed at span.to
covers_to_end fid needed at held token update span e k p from to =
    let told = bytes_pass fid needed at token update span (find_passes (covers_byte fid needed at) held token e) k in
    any_found (covers_byte fid needed at) (covers_byte fid needed p) held token e (pass_bytes fid needed p token update
    span k told.0 told.1 (omega (arith, told.2)) to)

-- only byte tokens cover a byte
only_bytes : (needed : Bool) (at : ℕ) (kind : Kind) → kind_covers_byte needed at kind ≡ true →
    ((update : Bool) (span : Span) → kind ≡ Bytes update span → ⊥) → ⊥
only_bytes needed at (Bytes update span) e none = none update span refl
only_bytes needed at (Status update) e none = false≢true e
only_bytes needed at (Lock writing span) e none = false≢true e
only_bytes needed at (Opening kind) e none = false≢true e

-- the token that was found is one
pub finds_bytes : (fid : Fid) (needed : Bool) (at : ℕ) (held : List Token) (token : Token) →
    find (covers_byte fid needed at) held ≡ Some token → ((update : Bool) (span : Span) → token.kind ≡ Bytes update
    span → ⊥) → ⊥
finds_bytes fid needed at held token e =
    only_bytes needed at token.kind (and_parts (same_fid token.fid fid) (kind_covers_byte needed at token.kind)
    (find_passes (covers_byte fid needed at) held token e)).1

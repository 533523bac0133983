-- What tokens cover.
use Rattle.std.specs.Prelude.{◌≤◌, ◌<◌, ℕ, Bool, true, false, IsTrue, ◌==◌, ◌&&◌, ◌||◌, not, List}
use Rattle.std.specs.Bool.{beq}
use Rattle.std.specs.List.{list_any}
use Rattle.base_types.specs.declared.ids.Fid.{Fid}
use Rattle.base_types.specs.Ids.{same_fid}
use Rattle.base_types.specs.Spans.{has_byte}
use Rattle.base_types.specs.declared.ids.OpenKind.{OpenKind}
use Rattle.base_types.specs.declared.ids.OpenKind.TheVariants.{Reading, Writing, Executing, Shared, Exclusive}
use Rattle.base_types.specs.declared.span.Span.{Span}
use Rattle.token_types.specs.declared.token.Kind.{Kind}
use Rattle.token_types.specs.declared.token.Kind.TheVariants.{Bytes, Status, Lock, Opening}
use Rattle.token_types.specs.declared.token.Need.{Need}
use Rattle.token_types.specs.declared.token.Token.{Token}

-- whether one of two modes does for the other: update does for reading
abbrev pub does_for : Bool → Bool → Bool
does_for update needed = update || not needed

-- whether a token of this kind covers a byte, for update or for reading
abbrev pub kind_covers_byte : Bool → ℕ → Kind → Bool
kind_covers_byte needed at (Bytes update span) = does_for update needed && has_byte span at
kind_covers_byte needed at _ = false

-- whether two spans have the same ends
abbrev pub same_span : Span → Span → Bool
same_span a b = (a.from == b.from) && (a.to == b.to)

-- whether two ways to open a file are the same
abbrev pub same_opening : OpenKind → OpenKind → Bool
same_opening Reading Reading = true
same_opening Writing Writing = true
same_opening Executing Executing = true
same_opening Shared Shared = true
same_opening Exclusive Exclusive = true
same_opening _ _ = false

-- whether a token of this kind alone covers a need that isn't of bytes
abbrev pub kind_covers : Kind → Kind → Bool
kind_covers (Status update) (Status needed) = does_for update needed
kind_covers (Lock writing span) (Lock needed_writing needed) =
    beq writing needed_writing && same_span span needed
kind_covers (Opening kind) (Opening needed) = same_opening kind needed
kind_covers _ _ = false

-- whether a token covers a byte of a file
abbrev pub covers_byte : Fid → Bool → ℕ → Token → Bool
covers_byte fid needed at token = same_fid token.fid fid && kind_covers_byte needed at token.kind

-- whether a token alone covers a need that isn't of bytes
abbrev pub covers_alone : Fid → Kind → Token → Bool
covers_alone fid needed token = same_fid token.fid fid && kind_covers token.kind needed

-- the tokens together cover each byte from one on and before another
abbrev pub CoversBetween : List Token → Fid → Bool → ℕ → ℕ → Type 0
CoversBetween held fid needed from to =
    (at : ℕ) → from ≤ at → at < to → IsTrue (list_any (covers_byte fid needed at) held)

-- the tokens together cover each byte of a span
abbrev pub CoversSpan : List Token → Fid → Bool → Span → Type 0
CoversSpan held fid needed span = CoversBetween held fid needed span.from span.to

-- the tokens cover this of a file: bytes together, and all else by one of them
abbrev pub CoversKind : List Token → Fid → Kind → Type 0
CoversKind held fid (Bytes needed span) = CoversSpan held fid needed span
CoversKind held fid needed = IsTrue (list_any (covers_alone fid needed) held)

-- the tokens that a host holds cover a need
abbrev pub Covers : List Token → Need → Type 0
Covers held need = CoversKind held need.fid need.kind

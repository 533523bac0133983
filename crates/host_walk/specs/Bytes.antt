-- The bytes at which calls look, and the blocks of tokens around them.
use Rattle.std.specs.Prelude.{true}
use Rattle.std.specs.Prelude.{◌≡◌, ◌≤◌, ◌<◌, ℕ, zero, suc, ◌+◌, ◌-◌, min, nat_lt, false, if◌then◌else◌, List, [], ◌∷◌}
use Rattle.std.specs.Prelude.{Option, None, Some}
use Rattle.std.specs.Prelude.{Result, MatchResult}
use Rattle.base_types.specs.declared.ids.Fid.{Fid}
use Rattle.base_types.specs.declared.span.Span.{Span}
use Rattle.token_types.specs.Covers.{Covers}
use Rattle.token_types.specs.declared.token.Kind.TheVariants.{Bytes}
use Rattle.token_types.specs.declared.token.Need.{Need}
use Rattle.token_types.specs.declared.token.Token.{Token}
use Rattle.tree_calls.specs.declared.reply.Reply.TheVariants.{Ok as Done}
use Rattle.tree_laws.specs.Parts.Part.{ByteAt, Size}
use Rattle.need_host.specs.Calls.{Verdict}
use Rattle.need_host.specs.Calls.Verdict.{Replies, Writes}
use Rattle.need_host.specs.Looks.{CoverAll, IsFirstLack, View, rounded}
use Rattle.host_walk.specs.Trying.{length_need}
use Rattle.host_walk.specs.declared.sight.Stop.{Stop}
use Rattle.host_walk.specs.declared.sight.Stop.TheVariants.{Lacks}

-- so many bytes from a position on, as they are seen
abbrev pub bytes_seen : View → Fid → ℕ → ℕ → List ℕ
bytes_seen view fid at zero = []
bytes_seen view fid at (suc n) = view fid (ByteAt at) ∷ bytes_seen view fid (suc at) n

-- how many bytes a read of so many from a position on reads, of a file of this length
abbrev pub read_count : ℕ → ℕ → ℕ → ℕ
read_count from len size = min len (size - from)

-- the bytes that are read
abbrev pub bytes_read : View → ℕ → ℕ → Fid → List ℕ
bytes_read view from len fid = bytes_seen view fid from (read_count from len (view fid Size))

-- the blocks that a write from a position on and before another changes, of a file of this length
abbrev pub written_blocks : ℕ → ℕ → ℕ → Span
written_blocks from to size = if nat_lt size to then rounded (min from size) to else rounded from to

-- the need of a byte is that of its block
abbrev pub byte_need : Fid → ℕ → Need
byte_need fid at = record { fid = fid; kind = Bytes false (rounded at (at + 1)) }

-- the tokens cover the block of each byte from one on and before another
abbrev pub CoverBlocks : List Token → Fid → ℕ → ℕ → Type 0
CoverBlocks held fid from to = (at : ℕ) → from ≤ at → at < to → Covers held (byte_need fid at)

-- the block of this byte is the first of them that they don't cover
pub record LacksBlock (held : List Token) (fid : Fid) (from to at : ℕ) : Type 0 where
  pub above : from ≤ at
  pub below : at < to
  pub before : CoverBlocks held fid from at
  pub lacks : Covers held (byte_need fid at) → ⊥

-- the tokens cover all these blocks, or the first that they don't is what lacks
abbrev pub TriesBlocks : {B : Type 0} → List Token → Fid → ℕ → ℕ → Result B Stop → Type 0
TriesBlocks held fid from to result =
    MatchResult result (λ _. CoverBlocks held fid from to)
    (λ stop. (at : ℕ) × LacksBlock held fid from to at × (stop ≡ Lacks (byte_need fid at)))

-- what a write of so many bytes needs, of a file of this length
abbrev pub write_needs : Fid → ℕ → ℕ → ℕ → List Need
write_needs fid from to size =
    if nat_lt size to
    then length_need fid ∷ record { fid = fid; kind = Bytes true (rounded (min from size) to) } ∷ []
    else record { fid = fid; kind = Bytes true (rounded from to) } ∷ []

-- the tokens cover all these needs, or the first that they don't is what lacks
abbrev pub TriesNeeds : {B : Type 0} → List Token → List Need → Result B Stop → Type 0
TriesNeeds held needs result =
    MatchResult result (λ _. CoverAll held needs)
    (λ stop. (need : Need) × IsFirstLack held needs need × (stop ≡ Lacks need))

-- what a Write means of the file that was found; none where it has no bytes
abbrev pub write_meant : ℕ → List ℕ → Option Fid → Verdict
write_meant from bytes None = Replies Done
write_meant from bytes (Some fid) = Writes fid from bytes

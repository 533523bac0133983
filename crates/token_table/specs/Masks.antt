-- What tokens of one file bar for other hosts, in blocks of 1 KiB: more, where a token has a part of a block.
use Rattle.std.specs.Prelude.{◌≡◌, ℕ, ◌+◌, ◌-◌, ◌/◌, ◌^◌, Bool, true, not, ◌==◌, if◌then◌else◌, bit_and, bit_or}
use Rattle.std.specs.Prelude.{List}
use Rattle.std.specs.Int.{bit_at}
use Rattle.std.specs.List.{list_any, fold}
use Rattle.base_types.specs.declared.ids.OpenKind.{OpenKind}
use Rattle.base_types.specs.declared.ids.OpenKind.TheVariants.{Reading, Writing, Executing, Shared, Exclusive}
use Rattle.base_types.specs.declared.span.Span.{Span}
use Rattle.token_types.specs.declared.token.Kind.{Kind}
use Rattle.token_types.specs.declared.token.Kind.TheVariants.{Bytes, Status, Lock, Opening}
use Rattle.token_types.specs.declared.token.Need.{Need}
use Rattle.token_types.specs.declared.token.Token.{Token}
use Rattle.token_table.specs.declared.masks.Barred.{Barred}
use Rattle.token_table.specs.declared.masks.Blocks.{Blocks}

-- the blocks in which a span has a byte, a bit each
abbrev pub mask_of : Span → ℕ
mask_of span = if span.from == span.to then 0 else 2 ^ ((span.to - 1) / 1024 + 1) - 2 ^ (span.from / 1024)

-- with blocks that a token has, for reading, or for writing, too
abbrev pub with_blocks : Blocks → Bool → ℕ → Blocks
with_blocks blocks writes more =
    record {
      reading = if writes then bit_or blocks.reading more else blocks.reading;
      writing = bit_or blocks.writing more;
    }

-- whether reading or writing may be barred in one of some blocks
abbrev pub may_have : Blocks → Bool → ℕ → Bool
may_have blocks writes some = not (bit_and (if writes then blocks.writing else blocks.reading) some == 0)

abbrev pub no_blocks : Blocks
no_blocks = record { reading = 0; writing = 0 }

abbrev pub nothing : Barred
nothing = record { bytes = no_blocks; locks = no_blocks; status = no_blocks; opens = 0 }

-- a kind of opening, as a bit
abbrev pub bit_of : OpenKind → ℕ
bit_of Reading = 1
bit_of Writing = 2
bit_of Executing = 4
bit_of Shared = 8
bit_of Exclusive = 16

-- the kinds that conflict with one
abbrev pub bars_of : OpenKind → ℕ
bars_of Reading = 16
bars_of Writing = 28
bars_of Executing = 18
bars_of Shared = 18
bars_of Exclusive = 31

-- with a token of a kind
abbrev pub with_kind : Barred → Kind → Barred
with_kind barred (Bytes update span) = record barred { bytes = with_blocks barred.bytes update (mask_of span) }
with_kind barred (Lock writing span) = record barred { locks = with_blocks barred.locks writing (mask_of span) }
with_kind barred (Status update) = record barred { status = with_blocks barred.status update 1 }
with_kind barred (Opening kind) = record barred { opens = bit_or barred.opens (bit_of kind) }

-- whether a need of another host may be barred
abbrev pub may_bar : Barred → Kind → Bool
may_bar barred (Bytes update span) = may_have barred.bytes update (mask_of span)
may_bar barred (Lock writing span) = may_have barred.locks writing (mask_of span)
may_bar barred (Status update) = may_have barred.status update 1
may_bar barred (Opening kind) = not (bit_and barred.opens (bars_of kind) == 0)

-- whether one of the needs of another host may be barred
abbrev pub may_bar_any : List Need → Barred → Bool
may_bar_any needs barred = list_any (λ need. may_bar barred need.kind) needs

-- each block that a token has is there
abbrev pub HasBlocks : Blocks → Bool → ℕ → Type 0
HasBlocks blocks writes has =
    (i : ℕ) → bit_at has i ≡ 1 →
    (bit_at blocks.writing i ≡ 1) × (writes ≡ true → bit_at blocks.reading i ≡ 1)

-- a token of a kind is there
abbrev pub HasKind : Barred → Kind → Type 0
HasKind barred (Bytes update span) = HasBlocks barred.bytes update (mask_of span)
HasKind barred (Lock writing span) = HasBlocks barred.locks writing (mask_of span)
HasKind barred (Status update) = HasBlocks barred.status update 1
HasKind barred (Opening kind) = (i : ℕ) → bit_at (bit_of kind) i ≡ 1 → bit_at barred.opens i ≡ 1

-- what tokens bar
abbrev pub barred_by : List Token → Barred
barred_by tokens = fold (λ barred token. with_kind barred token.kind) nothing tokens

-- The numbers of requests: what is outstanding, what was applied, what a server keeps of a host.
use Rattle.std.specs.Prelude.{ℕ, List, Ok}
use Rattle.tree_calls.specs.declared.ship.Record.{Record}
use Rattle.message_types.specs.declared.giving.AppliedGive.{AppliedGive}
use Rattle.message_types.specs.declared.giving.Outstanding.{Outstanding}
use Rattle.message_parts.specs.Spelled.{Spelled, ◌&◌}
use Rattle.message_parts.specs.Reading.{Reading, ◌>>=◌}
use Rattle.message_parts.specs.Words.{spell_u8, u8_at, spell_u32, u32_at, spell_u64, u64_at, spell_fileset, fileset_at}
use Rattle.message_parts.specs.Places.{spell_rights, rights_at}

unfoldable pub spell_outstanding : Outstanding → Spelled
spell_outstanding x = spell_fileset x.fileset & spell_u32 x.moves & spell_u64 x.give & spell_u64 x.change

unfoldable pub outstanding_at : List ℕ → Reading Outstanding
outstanding_at rest =
    fileset_at rest >>= λ fileset rest. u32_at rest >>= λ moves rest. u64_at rest >>= λ give rest.
    u64_at rest >>= λ change rest.
    Ok (record { fileset = fileset; moves = moves; give = give; change = change }, rest)

unfoldable pub spell_applied : AppliedGive → Spelled
spell_applied x = spell_fileset x.fileset & spell_u64 x.number

unfoldable pub applied_at : List ℕ → Reading AppliedGive
applied_at rest =
    fileset_at rest >>= λ fileset rest. u64_at rest >>= λ number rest. Ok (
      record {
        fileset = fileset;
        number = number;
      },
      rest,
    )

unfoldable pub spell_record : Record → Spelled
spell_record x = spell_u64 x.change & spell_u64 x.give & spell_u8 x.code & spell_rights x.right

unfoldable pub record_at : List ℕ → Reading Record
record_at rest =
    u64_at rest >>= λ change rest. u64_at rest >>= λ give rest. u8_at rest >>= λ code rest.
    rights_at rest >>= λ right rest.
    Ok (record { change = change; give = give; code = code; right = right }, rest)

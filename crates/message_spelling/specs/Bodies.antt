-- What messages say, as it is spelled.
use Rattle.std.specs.Prelude.{ℕ, ◌==◌, []}
use Rattle.tree_calls.specs.declared.ship.Mover.{Mover}
use Rattle.tree_calls.specs.declared.ship.ShipPart.{ShipPart}
use Rattle.tree_calls.specs.declared.ship.ShipPart.TheVariants.{Head, Object}
use Rattle.message_types.specs.declared.asking.Change.{Change as ChangeOf}
use Rattle.message_types.specs.declared.asking.Fetch.{Fetch as FetchOf}
use Rattle.message_types.specs.declared.giving.AppliedGive.{AppliedGive}
use Rattle.message_types.specs.declared.giving.Ends.{Ends}
use Rattle.message_types.specs.declared.giving.Give.{Give}
use Rattle.message_types.specs.declared.giving.Reclaim.{Reclaim as ReclaimOf}
use Rattle.message_types.specs.declared.giving.Reclaimed.{Reclaimed as ReclaimedOf}
use Rattle.message_types.specs.declared.moving.Shipped.{Shipped as ShippedOf}
use Rattle.message_types.specs.declared.telling.Done.{Done as DoneOf}
use Rattle.message_types.specs.declared.telling.DoneIs.{DoneIs}
use Rattle.message_types.specs.declared.telling.DoneIs.TheVariants.{Reply as Replied, Known, Granted, Again, Elsewhere}
use Rattle.message_types.specs.declared.telling.Grant.{Grant as GrantOf}
use Rattle.message_types.specs.declared.tokens.Named.{Named}
use Rattle.message_types.specs.declared.tokens.Revoke.{Revoke as RevokeOf}
use Rattle.message_types.specs.declared.message.Body.{Body}
use Rattle.message_types.specs.declared.message.Body.TheVariants.{
  Hello,
  Fetch,
  Grant,
  Change,
  Done,
  Revoke,
  Returned,
  Kept,
  GiveBack,
  Gone,
  Reclaim,
  Reclaimed,
  Restarted,
  Down,
  Bye,
  NotHere,
  Ship,
  Shipped,
}
use Rattle.message_parts.specs.Spelled.{Spelled, ◌&◌, number, nothing}
use Rattle.message_parts.specs.Words.{
  spell_u32,
  spell_u64,
  spell_flag,
  spell_host,
  spell_server,
  spell_fileset,
  spell_name,
  short,
  long,
  spell_optional,
}
use Rattle.message_parts.specs.Tokens.{spell_fid, spell_id, spell_need, spell_token}
use Rattle.message_parts.specs.Objects.{spell_pieces, spell_entry, spell_status}
use Rattle.message_parts.specs.Requests.{spell_outstanding, spell_applied, spell_record}
use Rattle.message_calls.specs.Calls.{spell_call, spell_ending}
use Rattle.message_calls.specs.Replies.{spell_reply}

unfoldable pub spell_fetch : FetchOf → Spelled
spell_fetch x = spell_u64 x.number & spell_fid x.fid & short spell_need x.needs

unfoldable pub spell_grant : GrantOf → Spelled
spell_grant x =
    spell_u64 x.bring.number & spell_fid x.bring.fid & spell_u64 x.bring.stamp & spell_optional spell_status x.status &
    long spell_token x.bring.tokens & spell_pieces x.pieces & short spell_entry x.entries

unfoldable pub spell_change : ChangeOf → Spelled
spell_change x =
    spell_u64 x.number & spell_fileset x.fileset & spell_fid x.fid & spell_flag x.enter & spell_u32 x.k &
    spell_call x.call

-- what became of a Change
abbrev pub outcome_tag : DoneIs → ℕ
outcome_tag (Replied reply) = 0
outcome_tag (Known fileset) = 1
outcome_tag Granted = 2
outcome_tag Again = 3
outcome_tag (Elsewhere server) = 4

unfoldable pub outcome_fields : DoneIs → Spelled
outcome_fields (Replied reply) = spell_reply reply
outcome_fields (Known fileset) = spell_fileset fileset
outcome_fields Granted = nothing
outcome_fields Again = nothing
outcome_fields (Elsewhere server) = spell_server server

unfoldable pub spell_outcome : DoneIs → Spelled
spell_outcome x = number 1 0 4 (outcome_tag x) & outcome_fields x

unfoldable pub spell_done : DoneOf → Spelled
spell_done x =
    spell_u64 x.bring.number & spell_fileset x.fileset & spell_outcome x.outcome & spell_fid x.bring.fid &
    spell_u64 x.bring.stamp & long spell_token x.bring.tokens

unfoldable pub spell_revoke : RevokeOf → Spelled
spell_revoke x = spell_fid x.fid & spell_u64 x.stamp & long spell_id x.ids

unfoldable pub spell_named : Named → Spelled
spell_named x = spell_fid x.fid & long spell_id x.ids

-- the call that a give-back answers is the end of a lock or of an open
unfoldable pub spell_ends : Ends → Spelled
spell_ends x = spell_u32 x.k & spell_ending x.call

unfoldable pub spell_give : Give → Spelled
spell_give x =
    spell_u64 x.number & spell_fid x.fid & long spell_id x.ids & spell_pieces x.pieces &
    spell_optional spell_u32 x.length & spell_optional spell_ends x.ends

unfoldable pub spell_gone : AppliedGive → Spelled
spell_gone x = spell_u64 x.number & spell_fileset x.fileset

unfoldable pub spell_reclaim : ReclaimOf → Spelled
spell_reclaim x = long spell_token x.tokens & long spell_outstanding x.numbers

unfoldable pub spell_reclaimed : ReclaimedOf → Spelled
spell_reclaimed x = long spell_applied x.applied & long spell_id x.left_out

unfoldable pub spell_mover : Mover → Spelled
spell_mover x = spell_host x.host & spell_u64 x.number & spell_u32 x.k & spell_call x.call

-- a part of a fileset that moves: the head, or an anode
abbrev pub part_tag : ShipPart → ℕ
part_tag (Head name objects records mover) = 0
part_tag (Object anode unique status pieces entries) = 1

unfoldable pub part_fields : ShipPart → Spelled
part_fields (Head name objects records mover) =
    spell_name name & spell_u32 objects & short spell_record records & spell_mover mover
part_fields (Object anode unique status pieces entries) =
    spell_u32 anode & spell_u32 unique & spell_optional spell_status status & spell_pieces pieces &
    short spell_entry entries

unfoldable pub spell_part : ShipPart → Spelled
spell_part x = number 1 0 1 (part_tag x) & part_fields x

unfoldable pub spell_shipped : ShippedOf → Spelled
spell_shipped x = spell_server x.to & spell_u64 x.ship & spell_u32 x.at & spell_reply x.reply

-- The number of a kind.
abbrev pub body_tag : Body → ℕ
body_tag Hello = 1
body_tag (Fetch x) = 2
body_tag (Grant x) = 3
body_tag (Change x) = 4
body_tag (Done x) = 5
body_tag (Revoke x) = 6
body_tag (Returned x) = 7
body_tag (Kept x) = 8
body_tag (GiveBack x) = 9
body_tag (Gone x) = 10
body_tag (Reclaim x) = 11
body_tag (Reclaimed x) = 12
body_tag Restarted = 13
body_tag Down = 14
body_tag Bye = 15
body_tag (NotHere x) = 16
body_tag (Ship x) = 17
body_tag (Shipped x) = 18

-- a body that speaks of no fileset has no moves
abbrev pub unmoved : ℕ → Spelled
unmoved moves = record { fits = moves == 0; bytes = [] }

-- The fields of each kind, with the moves of the fileset that it speaks of: the last of kinds 2 to 10, and behind the
-- fileset in kinds 16 and 17.
unfoldable pub body_fields : ℕ → Body → Spelled
body_fields moves Hello = unmoved moves
body_fields moves (Fetch x) = spell_fetch x & spell_u32 moves
body_fields moves (Grant x) = spell_grant x & spell_u32 moves
body_fields moves (Change x) = spell_change x & spell_u32 moves
body_fields moves (Done x) = spell_done x & spell_u32 moves
body_fields moves (Revoke x) = spell_revoke x & spell_u32 moves
body_fields moves (Returned x) = spell_named x & spell_u32 moves
body_fields moves (Kept x) = spell_named x & spell_u32 moves
body_fields moves (GiveBack x) = spell_give x & spell_u32 moves
body_fields moves (Gone x) = spell_gone x & spell_u32 moves
body_fields moves (Reclaim x) = unmoved moves & spell_reclaim x
body_fields moves (Reclaimed x) = unmoved moves & spell_reclaimed x
body_fields moves Restarted = unmoved moves
body_fields moves Down = unmoved moves
body_fields moves Bye = unmoved moves
body_fields moves (NotHere x) = spell_fileset x.fileset & spell_u32 moves & spell_server x.to
body_fields moves (Ship x) =
    spell_server x.to & spell_u64 x.ship & spell_fileset x.fileset & spell_u32 moves & spell_u32 x.at &
    spell_part x.part
body_fields moves (Shipped x) = unmoved moves & spell_shipped x

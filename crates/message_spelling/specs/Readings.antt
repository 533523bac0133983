-- How what messages say is read, part by part. What is decided here is stated again, without it, by the clause of
-- `decode`.
use Rattle.std.specs.Prelude.{ℕ, ◌==◌, if◌then◌else◌, List, Ok}
use Rattle.tree_calls.specs.declared.ship.Mover.{Mover}
use Rattle.tree_calls.specs.declared.ship.ShipPart.{ShipPart}
use Rattle.tree_calls.specs.declared.ship.ShipPart.TheVariants.{Head, Object}
use Rattle.message_types.specs.declared.asking.Change.{Change as ChangeOf}
use Rattle.message_types.specs.declared.asking.Fetch.{Fetch as FetchOf}
use Rattle.message_types.specs.declared.giving.AppliedGive.{AppliedGive}
use Rattle.message_types.specs.declared.giving.Ends.{Ends}
use Rattle.message_types.specs.declared.giving.Give.{Give}
use Rattle.message_types.specs.declared.giving.Reclaim.{Reclaim as ReclaimOf}
use Rattle.message_types.specs.declared.giving.Reclaimed.{Reclaimed as ReclaimedOf}
use Rattle.message_types.specs.declared.moving.Shipped.{Shipped as ShippedOf}
use Rattle.message_types.specs.declared.telling.Done.{Done as DoneOf}
use Rattle.message_types.specs.declared.telling.DoneIs.{DoneIs}
use Rattle.message_types.specs.declared.telling.DoneIs.TheVariants.{Reply as Replied, Known, Granted, Again, Elsewhere}
use Rattle.message_types.specs.declared.telling.Grant.{Grant as GrantOf}
use Rattle.message_types.specs.declared.tokens.Named.{Named}
use Rattle.message_types.specs.declared.tokens.Revoke.{Revoke as RevokeOf}
use Rattle.message_types.specs.declared.message.Body.{Body}
use Rattle.message_types.specs.declared.message.Body.TheVariants.{
  Hello,
  Fetch,
  Grant,
  Change,
  Done,
  Revoke,
  Returned,
  Kept,
  GiveBack,
  Gone,
  Reclaim,
  Reclaimed,
  Restarted,
  Down,
  Bye,
  NotHere,
  Ship,
  Shipped,
}
use Rattle.message_parts.specs.Reading.{Reading, ◌>>=◌, number_at}
use Rattle.message_parts.specs.Words.{
  u32_at,
  u64_at,
  flag_at,
  host_at,
  server_at,
  fileset_at,
  name_at,
  short_at,
  long_at,
  optional_at,
}
use Rattle.message_parts.specs.Tokens.{fid_at, id_at, need_at, token_at}
use Rattle.message_parts.specs.Objects.{pieces_at, entry_at, status_at}
use Rattle.message_parts.specs.Requests.{outstanding_at, applied_at, record_at}
use Rattle.message_calls.specs.Calls.{call_at, ending_at}
use Rattle.message_calls.specs.Replies.{reply_at}

unfoldable pub fetch_at : List ℕ → Reading FetchOf
fetch_at rest =
    u64_at rest >>= λ number rest. fid_at rest >>= λ fid rest. short_at need_at rest >>= λ needs rest.
    Ok (record { number = number; fid = fid; needs = needs }, rest)

unfoldable pub grant_at : List ℕ → Reading GrantOf
grant_at rest =
    u64_at rest >>= λ number rest. fid_at rest >>= λ fid rest. u64_at rest >>= λ stamp rest.
    optional_at status_at rest >>= λ status rest. long_at token_at rest >>= λ tokens rest.
    pieces_at rest >>= λ pieces rest. short_at entry_at rest >>= λ entries rest.
    Ok (
      record {
        bring = record { number = number; fid = fid; stamp = stamp; tokens = tokens };
        status = status;
        pieces = pieces;
        entries = entries;
      },
      rest,
    )

unfoldable pub change_at : List ℕ → Reading ChangeOf
change_at rest =
    u64_at rest >>= λ number rest. fileset_at rest >>= λ fileset rest. fid_at rest >>= λ fid rest.
    flag_at rest >>= λ enter rest. u32_at rest >>= λ k rest. call_at rest >>= λ call rest. Ok (
      record {
        number = number;
        fileset = fileset;
        fid = fid;
        enter = enter;
        k = k;
        call = call;
      },
      rest,
    )

unfoldable pub outcome_reply_at : List ℕ → Reading DoneIs
outcome_reply_at rest = reply_at rest >>= λ reply rest. Ok (Replied reply, rest)

unfoldable pub outcome_known_at : List ℕ → Reading DoneIs
outcome_known_at rest = fileset_at rest >>= λ fileset rest. Ok (Known fileset, rest)

unfoldable pub outcome_elsewhere_at : List ℕ → Reading DoneIs
outcome_elsewhere_at rest = server_at rest >>= λ server rest. Ok (Elsewhere server, rest)

unfoldable pub outcome_of : ℕ → List ℕ → Reading DoneIs
outcome_of tag rest =
    if tag == 0 then outcome_reply_at rest
    else if tag == 1 then outcome_known_at rest
    else if tag == 2 then Ok (Granted, rest)
    else if tag == 3 then Ok (Again, rest)
    else outcome_elsewhere_at rest

unfoldable pub outcome_at : List ℕ → Reading DoneIs
outcome_at rest = number_at 1 0 4 rest >>= λ tag rest. outcome_of tag rest

unfoldable pub done_at : List ℕ → Reading DoneOf
done_at rest =
    u64_at rest >>= λ number rest. fileset_at rest >>= λ fileset rest. outcome_at rest >>= λ outcome rest.
    fid_at rest >>= λ fid rest. u64_at rest >>= λ stamp rest. long_at token_at rest >>= λ tokens rest.
    Ok (
      record {
        fileset = fileset;
        outcome = outcome;
        bring = record {
          number = number;
          fid = fid;
          stamp = stamp;
          tokens = tokens;
        };
      },
      rest,
    )

unfoldable pub revoke_at : List ℕ → Reading RevokeOf
revoke_at rest =
    fid_at rest >>= λ fid rest. u64_at rest >>= λ stamp rest. long_at id_at rest >>= λ ids rest. Ok (
      record {
        fid = fid;
        stamp = stamp;
        ids = ids;
      },
      rest,
    )

unfoldable pub named_at : List ℕ → Reading Named
named_at rest =
    fid_at rest >>= λ fid rest. long_at id_at rest >>= λ ids rest. Ok (record { fid = fid; ids = ids }, rest)

unfoldable pub ends_at : List ℕ → Reading Ends
ends_at rest =
    u32_at rest >>= λ k rest. ending_at rest >>= λ call rest. Ok (record { k = k; call = call }, rest)

unfoldable pub give_at : List ℕ → Reading Give
give_at rest =
    u64_at rest >>= λ number rest. fid_at rest >>= λ fid rest. long_at id_at rest >>= λ ids rest.
    pieces_at rest >>= λ pieces rest. optional_at u32_at rest >>= λ len rest. optional_at ends_at rest >>= λ ends rest.
    Ok (record { number = number; fid = fid; ids = ids; pieces = pieces; length = len; ends = ends }, rest)

unfoldable pub gone_at : List ℕ → Reading AppliedGive
gone_at rest =
    u64_at rest >>= λ number rest. fileset_at rest >>= λ fileset rest. Ok (
      record {
        number = number;
        fileset = fileset;
      },
      rest,
    )

unfoldable pub reclaim_at : List ℕ → Reading ReclaimOf
reclaim_at rest =
    long_at token_at rest >>= λ tokens rest. long_at outstanding_at rest >>= λ numbers rest.
    Ok (record { tokens = tokens; numbers = numbers }, rest)

unfoldable pub reclaimed_at : List ℕ → Reading ReclaimedOf
reclaimed_at rest =
    long_at applied_at rest >>= λ applied rest. long_at id_at rest >>= λ left_out rest. Ok (
      record {
        applied = applied;
        left_out = left_out;
      },
      rest,
    )

unfoldable pub mover_at : List ℕ → Reading Mover
mover_at rest =
    host_at rest >>= λ host rest. u64_at rest >>= λ number rest. u32_at rest >>= λ k rest. call_at rest >>= λ call rest.
    Ok (record { host = host; number = number; k = k; call = call }, rest)

unfoldable pub head_at : List ℕ → Reading ShipPart
head_at rest =
    name_at rest >>= λ name rest. u32_at rest >>= λ objects rest. short_at record_at rest >>= λ records rest.
    mover_at rest >>= λ mover rest. Ok (Head name objects records mover, rest)

unfoldable pub object_at : List ℕ → Reading ShipPart
object_at rest =
    u32_at rest >>= λ anode rest. u32_at rest >>= λ unique rest. optional_at status_at rest >>= λ status rest.
    pieces_at rest >>= λ pieces rest. short_at entry_at rest >>= λ entries rest.
    Ok (Object anode unique status pieces entries, rest)

unfoldable pub part_of : ℕ → List ℕ → Reading ShipPart
part_of tag rest = if tag == 0 then head_at rest else object_at rest

unfoldable pub part_at : List ℕ → Reading ShipPart
part_at rest = number_at 1 0 1 rest >>= λ tag rest. part_of tag rest

unfoldable pub shipped_at : List ℕ → Reading ShippedOf
shipped_at rest =
    server_at rest >>= λ to rest. u64_at rest >>= λ ship rest. u32_at rest >>= λ at rest.
    reply_at rest >>= λ reply rest. Ok (record { to = to; ship = ship; at = at; reply = reply }, rest)

-- the moves that stand behind what was read
abbrev pub with_moves_at : {A : Type 0} → A → List ℕ → Reading (ℕ × A)
with_moves_at x rest = u32_at rest >>= λ moves rest. Ok ((moves, x), rest)

-- what is read, and the moves behind it
abbrev pub moved_at : {A : Type 0} → (List ℕ → Reading A) → (A → Body) → List ℕ → Reading (ℕ × Body)
moved_at one body rest = one rest >>= λ x rest. with_moves_at (body x) rest

-- what is read, without moves
abbrev pub unmoved_at : {A : Type 0} → (List ℕ → Reading A) → (A → Body) → List ℕ → Reading (ℕ × Body)
unmoved_at one body rest = one rest >>= λ x rest. Ok ((0, body x), rest)

unfoldable pub not_here_at : List ℕ → Reading (ℕ × Body)
not_here_at rest =
    fileset_at rest >>= λ fileset rest. u32_at rest >>= λ moves rest. server_at rest >>= λ to rest.
    Ok ((moves, NotHere (record { fileset = fileset; to = to })), rest)

unfoldable pub ship_at : List ℕ → Reading (ℕ × Body)
ship_at rest =
    server_at rest >>= λ to rest. u64_at rest >>= λ ship rest. fileset_at rest >>= λ fileset rest.
    u32_at rest >>= λ moves rest. u32_at rest >>= λ at rest. part_at rest >>= λ part rest.
    Ok ((moves, Ship (record { to = to; ship = ship; fileset = fileset; at = at; part = part })), rest)

-- the body of the kind with this number, and its moves
unfoldable pub body_of : ℕ → List ℕ → Reading (ℕ × Body)
body_of tag rest =
    if tag == 1 then Ok ((0, Hello), rest)
    else if tag == 2 then moved_at fetch_at Fetch rest
    else if tag == 3 then moved_at grant_at Grant rest
    else if tag == 4 then moved_at change_at Change rest
    else if tag == 5 then moved_at done_at Done rest
    else if tag == 6 then moved_at revoke_at Revoke rest
    else if tag == 7 then moved_at named_at Returned rest
    else if tag == 8 then moved_at named_at Kept rest
    else if tag == 9 then moved_at give_at GiveBack rest
    else if tag == 10 then moved_at gone_at Gone rest
    else if tag == 11 then unmoved_at reclaim_at Reclaim rest
    else if tag == 12 then unmoved_at reclaimed_at Reclaimed rest
    else if tag == 13 then Ok ((0, Restarted), rest)
    else if tag == 14 then Ok ((0, Down), rest)
    else if tag == 15 then Ok ((0, Bye), rest)
    else if tag == 16 then not_here_at rest
    else if tag == 17 then ship_at rest
    else unmoved_at shipped_at Shipped rest

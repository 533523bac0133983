-- The granted tokens, and what is noted of them.
use Rattle.std.specs.Prelude.{◌≡◌, ℕ, Bool, true, false, ◌==◌, ◌&&◌, ◌||◌, not, nat_lt, if◌then◌else◌, List, [], ◌∷◌}
use Rattle.std.specs.Prelude.{◌++◌, map, All, Option, None, Some}
use Rattle.std.specs.Option.{option_map_or}
use Rattle.std.specs.List.{list_any, find, filter}
use Rattle.std.specs.FinMap as maps
use Rattle.base_types.specs.declared.ids.HostId.{HostId}
use Rattle.base_types.specs.declared.ids.TheConstants.HostId.{EXPORTER}
use Rattle.base_types.specs.declared.ids.ServerId.{ServerId}
use Rattle.token_types.specs.declared.token.Kind.{Kind}
use Rattle.token_types.specs.declared.token.Kind.TheVariants.{Lock, Opening}
use Rattle.token_types.specs.declared.token.Token.{Token}
use Rattle.token_types.specs.declared.token.TokenId.{TokenId}
use Rattle.token_types.specs.Conflicts.{same_id, blocks}
use Rattle.token_table.specs.Tables.{Table, near, next_tokens, granted, has_id, with_tokens, without_id, not_of_host}
use Rattle.token_table.specs.Shelves.{with_token}
use Rattle.token_table.specs.declared.notes.Note.{Note}
use Rattle.token_table.specs.Marks.{NoteMap, note_at, is_pinned, is_revoked, with_note}
use Rattle.token_table.specs.Marks.{without_note, with_pin, with_mark}
use Rattle.token_table.specs.Marks.{with_each, without_notes_of}
use Rattle.token_manager.specs.declared.grants.Grants.{Grants}
use Rattle.token_manager.specs.declared.want.Want.{Want}
use Rattle.token_manager.specs.declared.want.Outlook.{Outlook}
use Rattle.token_manager.specs.declared.want.Outlook.TheVariants.{Granted, Refused}
use Rattle.token_manager.specs.declared.want.Wanted.{Wanted}

-- whether a granted token of another host conflicts with a want
abbrev pub is_blocked : Grants → Want → Bool
is_blocked grants want = list_any (blocks want.host want.needs) grants.table.tokens

-- whether a token is pinned and in the way of a want
abbrev pub is_pinned_ahead : NoteMap → Want → Token → Bool
is_pinned_ahead notes want token = blocks want.host want.needs token && is_pinned notes token.id

-- the first of those that is pinned, file by file in the order of the want's needs
abbrev pub pinned_in_the_way : Grants → Want → Option Token
pinned_in_the_way grants want =
    find (is_pinned_ahead grants.notes want) (near grants.table.tokens [] want.needs)

-- those of them that aren't pinned
abbrev pub to_revoke : Grants → Want → List Token
to_revoke grants want =
    filter (λ token. not (is_pinned grants.notes token.id))
    (filter (blocks want.host want.needs) (near grants.table.tokens [] want.needs))

-- whether a token is in the way of one of these wants
abbrev pub blocks_any : List Want → Token → Bool
blocks_any wants token = list_any (λ want. blocks want.host want.needs token) wants

-- whether a token is the server's own
abbrev pub is_own : Token → Bool
is_own token = token.host.0 == EXPORTER.0

-- a token that is asked back, and whether it was before
abbrev pub asked_back : NoteMap → Token → Wanted
asked_back notes token = record { token = token; revoked = is_revoked notes token.id }

-- those that a queued want asks back and no earlier one does, but for the server's own
abbrev pub wanted_for : Grants → List Want → Want → List Wanted
wanted_for grants earlier want =
    map (asked_back grants.notes)
    (filter (λ token. not (is_own token || blocks_any earlier token)) (to_revoke grants want))

-- the tokens that queued wants ask back, want by want
abbrev pub wanted_from : Grants → List Want → List Want → List Wanted
wanted_from grants earlier [] = []
wanted_from grants earlier (want ∷ queue) =
    wanted_for grants earlier want ++ wanted_from grants (earlier ++ want ∷ []) queue

-- whether a token is a lock or open token, which can be in use
abbrev pub is_lock_or_open : Kind → Bool
is_lock_or_open (Lock writing span) = true
is_lock_or_open (Opening kind) = true
is_lock_or_open _ = false

-- the granted token with a number
abbrev pub token_at : Grants → TokenId → Option Token
token_at grants id = find (λ token. same_id token.id id) grants.table.tokens

-- whether a host has this token
abbrev pub holds : Grants → HostId → TokenId → Bool
holds grants host id = option_map_or (λ token. token.host.0 == host.0) (token_at grants id) false

-- whether a host can keep this token: it has it, and it is a lock or open token
abbrev pub can_keep : Grants → HostId → TokenId → Bool
can_keep grants host id =
    option_map_or (λ token. (token.host.0 == host.0) && is_lock_or_open token.kind) (token_at grants id) false

-- what becomes of a want that can be decided: it is refused for a pinned token in its way, and else granted
abbrev pub outlook_with : Option Token → Outlook
outlook_with (Some token) = Refused token
outlook_with None = Granted

-- the granted tokens of a server in an epoch that has granted none
abbrev pub no_grants : ServerId → ℕ → Grants
no_grants server epoch =
    record { table = record { server = server; epoch = epoch; last = 0; tokens = [] }; notes = maps.empty }

-- what is noted of a token when it is granted: to a want of this number, or by a claim
abbrev pub note_of : HostId → Option ℕ → Note
note_of host want = record { host = host; want = want; pinned = false; revoked = false }

-- nothing is noted of the numbers of the tokens that a want is granted
abbrev pub NoneIsNoted : Grants → Want → Type 0
NoneIsNoted grants want =
    All (λ token. note_at grants.notes token.id ≡ None) (next_tokens grants.table want.host want.needs)

-- the grants with a token for each need of a want
abbrev pub with_grant : Grants → Want → Grants
with_grant grants want =
    record {
      table = granted grants.table want.host want.needs;
      notes = with_each grants.notes (next_tokens grants.table want.host want.needs)
          (note_of want.host (Some want.number));
    }

-- the number of the last token that a table granted in its epoch
abbrev pub last_id : Table → TokenId
last_id table = record { server = table.server; epoch = table.epoch; seq = table.last }

-- whether a number was given before this epoch, or by another server
abbrev pub is_earlier : Table → TokenId → Bool
is_earlier table id = not (id.server.0 == table.server.0) || nat_lt id.epoch table.epoch

-- whether a token may be claimed: its number was given before this epoch, by another server, or is granted
abbrev pub can_claim : Grants → Token → Bool
can_claim grants token = is_earlier grants.table token.id || has_id grants.table.tokens token.id

abbrev pub CanClaim : Grants → Token → Type 0
CanClaim grants token = can_claim grants token ≡ true

-- the grants with a token as it is, but for one whose number is granted already
abbrev pub with_claimed : Grants → Token → Grants
with_claimed grants token =
    if has_id grants.table.tokens token.id then grants
    else record {
      table = with_token grants.table token;
      notes = with_note grants.notes token.id (note_of token.host None);
    }

-- the same of one token after the other
abbrev pub with_claims : Grants → List Token → Grants
with_claims grants [] = grants
with_claims grants (token ∷ tokens) = with_claims (with_claimed grants token) tokens

-- the grants with this token pinned
abbrev pub pinned_grants : Grants → TokenId → Grants
pinned_grants grants id = record grants { notes = with_pin grants.notes id }

-- the grants with this token asked back
abbrev pub revoked_grants : Grants → TokenId → Grants
revoked_grants grants id = record grants { notes = with_mark grants.notes id }

-- the grants but for this token
abbrev pub without_token : Grants → TokenId → Grants
without_token grants id =
    record {
      table = with_tokens grants.table (without_id grants.table.tokens id);
      notes = without_note grants.notes id;
    }

-- the grants but for the tokens of a host
abbrev pub without_host : Grants → HostId → Grants
without_host grants host =
    record {
      table = with_tokens grants.table (not_of_host grants.table.tokens host);
      notes = without_notes_of grants.notes host;
    }

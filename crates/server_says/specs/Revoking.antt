-- Tokens that are asked back.
use Rattle.std.specs.List.{filter, flat_map}
use Rattle.std.specs.Prelude.{ℕ, zero, suc, ◌+◌, ◌==◌, Bool, ◌&&◌, not, List, [], ◌∷◌, ◌++◌, length, map}
use Rattle.base_types.specs.Ids.{same_fid}
use Rattle.base_types.specs.declared.ids.HostId.{HostId}
use Rattle.message_types.specs.declared.message.Body.TheVariants.{Revoke}
use Rattle.message_types.specs.declared.message.Message.{Message}
use Rattle.message_types.specs.declared.tokens.Revoke.{Revoke as RevokeOf}
use Rattle.run_rules.specs.declared.step.Cause.TheVariants.{Lapse}
use Rattle.run_rules.specs.declared.step.Step.{Step}
use Rattle.token_manager.specs.Managers.{Manager, after_revoked, wanted}
use Rattle.token_manager.specs.declared.want.Wanted.{Wanted}
use Rattle.token_table.specs.Marks.{is_pinned, is_revoked}
use Rattle.token_table.specs.Tables.{of_host}
use Rattle.token_types.specs.declared.token.Token.{Token}
use Rattle.token_types.specs.declared.token.TokenId.{TokenId}
use Rattle.server_tables.specs.declared.tables.Tables.{Tables}
use Rattle.server_takes.specs.Drafts.{no_draft, step_of, word}
use Rattle.server_takes.specs.Taking.{Made, made}
use Rattle.server_takes.specs.declared.draft.Draft.{Draft}
use Rattle.server_says.specs.Hailing.{hailing}

-- tokens of one host and one file
abbrev pub is_beside : Token → Token → Bool
is_beside first token = (token.host.0 == first.host.0) && same_fid token.fid first.fid

abbrev pub not_beside : Token → Token → Bool
not_beside first token = not (is_beside first token)

abbrev pub ids_beside : Token → List Token → List TokenId
ids_beside first tokens = map (λ token. token.id) (filter (is_beside first) tokens)

abbrev pub all_revoked : Manager → List TokenId → Manager
all_revoked manager [] = manager
all_revoked manager (id ∷ ids) = all_revoked (after_revoked manager id) ids

-- a host, and what is asked back of it
pub record Asking : Type 0 where
  pub host : HostId
  pub revoke : RevokeOf

-- of some tokens those that are beside the first one, under the next stamp
abbrev pub asking_of : ℕ → Token → List Token → Asking
asking_of stamp first tokens = record {
  host = first.host;
  revoke = record { fid = first.fid; stamp = stamp + 1; ids = ids_beside first tokens };
}

-- all of them, those of a host and a file at once
abbrev pub askings_for : ℕ → ℕ → List Token → List Asking
askings_for zero stamp tokens = []
askings_for (suc n) stamp [] = []
askings_for (suc n) stamp (token ∷ tokens) =
    asking_of stamp token (token ∷ tokens)
    ∷ askings_for n (stamp + 1) (filter (not_beside token) (token ∷ tokens))

abbrev pub askings : ℕ → List Token → List Asking
askings stamp tokens = askings_for (length tokens) stamp tokens

-- the tables once they were asked back
abbrev pub asked : Tables → RevokeOf → Tables
asked x r = record x { tokens = all_revoked x.tokens r.ids; stamp = x.stamp + 1 }

abbrev pub asked_all : Tables → List Asking → Tables
asked_all x [] = x
asked_all x (a ∷ others) = asked_all (asked x a.revoke) others

abbrev pub revoking : Tables → Asking → Message
revoking x a = word x a.host (Revoke a.revoke)

abbrev pub asking_back : Tables → Draft → List Token → Made
asking_back x d tokens = made (asked_all x (askings x.stamp tokens))
    (record d { sent = d.sent ++ map (revoking x) (askings x.stamp tokens) })

-- what is in the way of wants, and wasn't asked back
abbrev pub not_asked : List Wanted → List Token
not_asked wanted = map (λ w. w.token) (filter (λ w. not w.revoked) wanted)

-- what was asked back and hasn't come, but for what is in use
abbrev pub is_owed : Manager → Token → Bool
is_owed manager token = is_revoked manager.grants.notes token.id && not (is_pinned manager.grants.notes token.id)

abbrev pub owed_by : Manager → HostId → List Token
owed_by manager host = filter (is_owed manager) (of_host manager.grants.table.tokens host)

abbrev pub owed : Tables → List Token
owed x = flat_map (owed_by x.tokens) x.hosts.listed

-- a lapse: hosts are told of the restart again, and what is owed is asked back again
abbrev pub lapsing : Tables → Made
lapsing x = asking_back x (hailing x no_draft) (owed x)

abbrev pub lapse_step : Tables → Step
lapse_step x = step_of x.server Lapse (lapsing x).draft

-- Steps of the small run's host after the run.
use Rattle.run_rules.specs.Steps.{bare}
use Rattle.run_rules.specs.declared.applied.Why.TheVariants.{Revoked}
use Rattle.std.specs.Prelude.{List, [], false, ◌∷◌}
use Rattle.run_tokens.specs.Worked.{client, enters, fetches, from_cache, greets, root, site_one, takes, to_host}
use Rattle.run_tokens.specs.Worked.{to_server, token}
use Rattle.run_rules.specs.declared.step.Step.{Step}
use Rattle.run_rules.specs.declared.step.Cause.TheVariants.{Message as Came}
use Rattle.run_rules.specs.declared.applied.Leave.{Leave}
use Rattle.base_types.specs.declared.ids.Node.TheVariants.{Host}
use Rattle.message_types.specs.declared.message.Body.TheVariants.{Revoke, Returned, Reclaim, Restarted}
use Rattle.message_types.specs.declared.message.Direction.TheVariants.{ToHost}
use Rattle.message_types.specs.declared.message.Message.{Message}
use Rattle.message_types.specs.declared.tokens.Revoke.{Revoke as RevokeOf}
use Rattle.message_types.specs.declared.tokens.Named.{Named}
use Rattle.message_types.specs.declared.giving.Reclaim.{Reclaim as ReclaimOf}
use Rattle.token_types.specs.declared.token.Kind.TheVariants.{Status, Bytes}
use Rattle.tree_objects.specs.Spans.{whole}

-- the host's steps in the run
abbrev pub after_run : List Step
after_run = from_cache ∷ takes whole ∷ fetches whole ∷ enters ∷ greets ∷ []

-- a message comes, tokens leave, and a message is sent
abbrev pub reacts : Message → List Leave → List Message → Step
reacts message dropped sent = record (bare (Host client) (Came message)) { dropped = dropped; sent = sent }

-- the server asks for the first token, and the host returns it
abbrev pub asked_back : RevokeOf
asked_back = record { fid = root; stamp = 2; ids = (token 1 (Status false)).id ∷ [] }

abbrev pub returned : Named
returned = record { fid = root; ids = (token 1 (Status false)).id ∷ [] }

abbrev pub returns : Step
returns =
    reacts (to_host (Revoke asked_back)) (record { token = token 1 (Status false); why = Revoked } ∷ [])
    (to_server 1 (Returned returned) ∷ [])

-- the server has restarted, and the host claims what it holds
abbrev pub restarted : Message
restarted = record { direction = ToHost; host = client; server = site_one; epoch = 2; moves = 0; body = Restarted }

abbrev pub claim : ReclaimOf
claim = record {
  tokens = token 1 (Status false) ∷ token 2 (Bytes false whole) ∷ [];
  numbers = record { fileset = root.fileset; moves = 0; give = 0; change = 0 } ∷ [];
}

abbrev pub reclaims : Step
reclaims = reacts restarted [] (to_server 2 (Reclaim claim) ∷ [])

-- A small run: a host greets a server, enters a fileset, asks for its root, gets tokens, answers a call under them, and
-- answers the next call from its cache. Then the server restarts; the host claims its tokens, and they are granted
-- again; and it gives one back.
use Rattle.run_rules.specs.Doings.{Granted, IsApplied, doings_of}
use Rattle.run_rules.specs.Steps.{bare, steps_of_host}
use Rattle.run_rules.specs.Tokens.{Held, IsKnown, number_of}
use Rattle.run_rules.specs.declared.applied.Applied.TheVariants.{Wants}
use Rattle.run_rules.specs.declared.applied.Request.TheVariants.{Change as AsksChange, Fetch as AsksFetch}
use Rattle.run_rules.specs.declared.applied.Why.TheVariants.{Evicted}
use Rattle.run_tokens.specs.TokenLaws.{IsTokenRun}
use Rattle.std.specs.Prelude.{ℕ, Bool, true, false, List, [], ◌∷◌, Option, Some, None, codes}
use Rattle.base_types.specs.declared.ids.HostId.{HostId}
use Rattle.base_types.specs.declared.ids.ServerId.{ServerId}
use Rattle.base_types.specs.declared.ids.Fid.{Fid}
use Rattle.base_types.specs.declared.ids.Node.{Node}
use Rattle.base_types.specs.declared.ids.Node.TheVariants.{Host, Server}
use Rattle.base_types.specs.declared.access.AccessEntry.{AccessEntry}
use Rattle.base_types.specs.declared.access.Who.TheVariants.{UserObj, GroupObj, OtherObj}
use Rattle.base_types.specs.declared.span.Span.{Span}
use Rattle.tree_calls.specs.declared.call.Call.{Call}
use Rattle.tree_calls.specs.declared.call.Call.TheVariants.{Stat}
use Rattle.tree_calls.specs.declared.reply.Reply.{Reply}
use Rattle.tree_calls.specs.declared.reply.Reply.TheVariants.{Facts}
use Rattle.token_types.specs.declared.token.Kind.{Kind}
use Rattle.token_types.specs.declared.token.Kind.TheVariants.{Bytes, Status as StatusToken}
use Rattle.token_types.specs.declared.token.Token.{Token}
use Rattle.message_types.specs.declared.message.Direction.TheVariants.{ToServer, ToHost}
use Rattle.message_types.specs.declared.message.Body.{Body}
use Rattle.message_types.specs.declared.message.Body.TheVariants.{
  Hello,
  Fetch,
  Grant,
  Change,
  Done,
  GiveBack,
  Gone,
  Reclaim,
  Reclaimed,
  Restarted,
}
use Rattle.message_types.specs.declared.message.Message.{Message}
use Rattle.message_types.specs.declared.asking.Fetch.{Fetch as FetchOf}
use Rattle.message_types.specs.declared.asking.Change.{Change as ChangeOf}
use Rattle.message_types.specs.declared.telling.Grant.{Grant as GrantOf}
use Rattle.message_types.specs.declared.telling.Done.{Done as DoneOf}
use Rattle.message_types.specs.declared.telling.DoneIs.TheVariants.{Known}
use Rattle.message_types.specs.declared.giving.Give.{Give}
use Rattle.message_types.specs.declared.giving.Reclaim.{Reclaim as ReclaimOf}
use Rattle.message_types.specs.declared.giving.Reclaimed.{Reclaimed as ReclaimedOf}
use Rattle.run_rules.specs.declared.applied.Admission.{Admission}
use Rattle.run_rules.specs.declared.applied.Answer.{Answer}
use Rattle.run_rules.specs.declared.applied.Applied.{Applied as AppliedOf}
use Rattle.run_rules.specs.declared.applied.Wanted.{Wanted}
use Rattle.run_rules.specs.declared.step.Asked.{Asked}
use Rattle.run_rules.specs.declared.step.Cause.{Cause}
use Rattle.run_rules.specs.declared.step.Cause.TheVariants.{Line, Restart, Message as Came}
use Rattle.run_rules.specs.declared.step.Step.{Step}

abbrev pub client : HostId
client = record { 0 = 1 }

abbrev pub site_one : ServerId
site_one = record { 0 = 1 }

abbrev pub no_fid : Fid
no_fid = record { fileset = record { 0 = 0 }; anode = 0; unique = 0 }

-- the root of the first fileset of the first server
abbrev pub root : Fid
root = record { fileset = record { 0 = 65537 }; anode = 1; unique = 1 }

abbrev pub stat : Call
stat = Stat (record { server = site_one; fileset = codes "home"; path = [] })

abbrev pub facts : Reply
facts = Facts (record { dir = true; length = 0; owner = codes "u"; rights = 63 })

abbrev pub answer : ℕ → Bool → Answer
answer k first = record { host = client; k = k; call = stat; reply = facts; first = first }

-- the owner has all rights
abbrev pub access : List AccessEntry
access =
    record { who = UserObj; rights = 63 }
    ∷ record { who = GroupObj; rights = 5 }
    ∷ record { who = OtherObj; rights = 5 }
    ∷ []

-- a step that takes tokens, answers and sends, and does nothing else
abbrev pub plain : Node → Cause → Option Asked → List Answer → List Token → List Message → Step
plain node cause asked answers taken sent =
    record (bare node cause) { asked = asked; taken = taken; answers = answers; sent = sent }

-- a step of the server that takes a message, applies, grants claims and sends, and does nothing else
abbrev pub serves : Cause → List AppliedOf → List Admission → List Message → Step
serves cause applied admitted sent =
    record (bare (Server site_one) cause) { applied = applied; admitted = admitted; sent = sent }

abbrev pub to_server : ℕ → Body → Message
to_server epoch body = record {
  direction = ToServer;
  host = client;
  server = site_one;
  epoch = epoch;
  moves = 0;
  body = body;
}

abbrev pub to_host : Body → Message
to_host body = record { direction = ToHost; host = client; server = site_one; epoch = 1; moves = 0; body = body }

abbrev pub welcome : ReclaimedOf
welcome = record { applied = []; left_out = [] }

abbrev pub enter : ChangeOf
enter = record { number = 1; fileset = record { 0 = 0 }; fid = no_fid; enter = true; k = 1; call = stat }

abbrev pub entered : DoneOf
entered = record {
  fileset = record { 0 = 0 };
  outcome = Known (record { 0 = 65537 });
  bring = record { number = 1; fid = no_fid; stamp = 0; tokens = [] };
}

-- a directory is asked for whole: `whole` is the span of all bytes
abbrev pub asks_for : Span → FetchOf
asks_for whole = record {
  number = 1;
  fid = root;
  needs = record { fid = root; kind = StatusToken false } ∷ record { fid = root; kind = Bytes false whole } ∷ [];
}

abbrev pub token : ℕ → Kind → Token
token seq kind = record {
  id = record { server = site_one; epoch = 1; seq = seq };
  host = client;
  fid = root;
  kind = kind;
}

abbrev pub granted : Span → GrantOf
granted whole = record {
  bring = record {
    number = 1;
    fid = root;
    stamp = 1;
    tokens = token 1 (StatusToken false) ∷ token 2 (Bytes false whole) ∷ [];
  };
  status = Some (record {
    dir = true;
    read_only = false;
    length = 0;
    owner = codes "u";
    group = codes "g";
    lists = access ∷ access ∷ access ∷ [];
  });
  pieces = [];
  entries = [];
}

-- the host's steps
abbrev pub greets : Step
greets = plain (Host client) (Line 6) (Some (record { k = 1; call = stat })) [] [] (to_server 0 Hello ∷ [])

abbrev pub enters : Step
enters = plain (Host client) (Came (to_host (Reclaimed welcome))) None [] [] (to_server 1 (Change enter) ∷ [])

abbrev pub fetches : Span → Step
fetches whole =
    plain (Host client) (Came (to_host (Done entered))) None [] [] (to_server 1 (Fetch (asks_for whole)) ∷ [])

abbrev pub takes : Span → Step
takes whole =
    plain (Host client) (Came (to_host (Grant (granted whole)))) None (answer 1 false ∷ [])
    ((granted whole).bring.tokens) []

abbrev pub from_cache : Step
from_cache = plain (Host client) (Line 7) None (answer 2 true ∷ []) [] []

-- what the requests want
abbrev pub wants_enter : Wanted
wants_enter = record { host = client; request = AsksChange enter; moves = 0; needs = [] }

abbrev pub wants_root : Span → Wanted
wants_root whole = record {
  host = client;
  request = AsksFetch (asks_for whole);
  moves = 0;
  needs = (asks_for whole).needs;
}

-- the server's steps
abbrev pub welcomes : Step
welcomes = serves (Came (to_server 0 Hello)) [] [] (to_host (Reclaimed welcome) ∷ [])

abbrev pub tells : Step
tells = serves (Came (to_server 1 (Change enter))) (Wants wants_enter ∷ []) [] (to_host (Done entered) ∷ [])

abbrev pub grants : Span → Step
grants whole =
    serves (Came (to_server 1 (Fetch (asks_for whole)))) (Wants (wants_root whole) ∷ []) []
    (to_host (Grant (granted whole)) ∷ [])

-- the run, the newest step first
abbrev pub worked : Span → List Step
worked whole = from_cache ∷ takes whole ∷ grants whole ∷ fetches whole ∷ tells ∷ enters ∷ welcomes ∷ greets ∷ []

-- then the server restarts
abbrev pub from_server : Body → Message
from_server body = record { direction = ToHost; host = client; server = site_one; epoch = 2; moves = 0; body = body }

abbrev pub restarts : Step
restarts = serves (Restart 8) [] [] (from_server Restarted ∷ [])

-- the host claims what it holds; nothing is outstanding
abbrev pub claim : Span → ReclaimOf
claim whole = record {
  tokens = (granted whole).bring.tokens;
  numbers = record { fileset = root.fileset; moves = 0; give = 0; change = 0 } ∷ [];
}

abbrev pub reclaims : Span → Step
reclaims whole =
    plain (Host client) (Came (from_server Restarted)) None [] [] (to_server 2 (Reclaim (claim whole)) ∷ [])

-- all is granted again
abbrev pub claimed : ReclaimedOf
claimed = record { applied = []; left_out = [] }

abbrev pub admits : Span → Step
admits whole =
    serves (Came (to_server 2 (Reclaim (claim whole)))) []
    (record { host = client; tokens = (claim whole).tokens } ∷ []) (from_server (Reclaimed claimed) ∷ [])

-- the host gives the second token back
abbrev pub give : Span → Give
give whole = record {
  number = 1;
  fid = root;
  ids = (token 2 (Bytes false whole)).id ∷ [];
  pieces = [];
  length = None;
  ends = None;
}

abbrev pub gives : Span → Step
gives whole = record (bare (Host client) (Came (from_server (Reclaimed claimed)))) {
  made = give whole ∷ [];
  dropped = record { token = token 2 (Bytes false whole); why = Evicted } ∷ [];
  sent = to_server 2 (GiveBack (give whole)) ∷ [];
}

abbrev pub stores : Span → Step
stores whole =
    serves (Came (to_server 2 (GiveBack (give whole)))) [] [] (from_server (Gone (number_of (give whole))) ∷ [])

abbrev pub learns : Span → Step
learns whole = plain (Host client) (Came (from_server (Gone (number_of (give whole))))) None [] [] []

abbrev pub worked_restart : Span → List Step
worked_restart whole =
    learns whole ∷ stores whole ∷ gives whole ∷ admits whole ∷ reclaims whole ∷ restarts ∷ worked whole

-- what is so of the run
pub record IsExample (whole : Span) : Type 0 where
  -- the rules of tokens admit it: whole, and so each part that begins with its start
  pub run : IsTokenRun (λ server. 1) (worked_restart whole)
  -- before the restart the host holds both tokens; after it the first alone, and the first alone is granted
  pub held : Held (steps_of_host client (worked whole)) (token 2 (Bytes false whole))
  pub still_held : Held (steps_of_host client (worked_restart whole)) (token 1 (StatusToken false))
  pub gone : Held (steps_of_host client (worked_restart whole)) (token 2 (Bytes false whole)) → ⊥
  pub still_granted : Granted site_one (doings_of 1 site_one (worked_restart whole)) (token 1 (StatusToken false))
  pub ended : Granted site_one (doings_of 1 site_one (worked_restart whole)) (token 2 (Bytes false whole)) → ⊥
  -- the give-back is applied, and its host knows it
  pub applied : IsApplied site_one (doings_of 1 site_one (worked_restart whole)) client (number_of (give whole))
  pub known : IsKnown (steps_of_host client (worked_restart whole)) (give whole)

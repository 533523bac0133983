-- What the calls of a server's machine promise. `past` are the server's doings, `steps` its own earlier steps, newest
-- first, and `tree` what it keeps by the rules.
use Rattle.std.specs.Prelude.{◌≡◌, ℕ, true, List, [], ◌∷◌}
use Rattle.base_types.specs.declared.ids.HostId.{HostId}
use Rattle.base_types.specs.declared.ids.Node.TheVariants.{Server}
use Rattle.base_types.specs.declared.ids.ServerId.{ServerId}
use Rattle.tree_answers.specs.declared.tree.Tree.{Tree}
use Rattle.tree_calls.specs.declared.reply.Refusal.{Refusal}
use Rattle.tree_calls.specs.declared.roster.Roster.{Roster}
use Rattle.token_types.specs.declared.token.Token.{Token}
use Rattle.message_types.specs.Soundness.{IsHost, IsSound}
use Rattle.message_types.specs.declared.asking.Change.{Change as ChangeOf}
use Rattle.message_types.specs.declared.asking.Fetch.{Fetch as FetchOf}
use Rattle.message_types.specs.declared.giving.Reclaim.{Reclaim as ReclaimOf}
use Rattle.message_types.specs.declared.message.Body.TheVariants.{Reclaim, Reclaimed, Done}
use Rattle.message_types.specs.declared.message.Message.{Message}
use Rattle.script_lines.specs.declared.script.Deed.TheVariants.{Restart as Restarts}
use Rattle.script_lines.specs.declared.script.Line.{Line}
use Rattle.script_lines.specs.declared.script.Script.{Script}
use Rattle.store_state.specs.declared.state.StoreState.{StoreState}
use Rattle.server_decides.specs.Changes.{are_home}
use Rattle.run_rules.specs.Doings.{Doing, HasReclaimed, IsLive, TookNow, after_step, doings_of, epoch, InEpoch}
use Rattle.run_rules.specs.Kept.{filesets_kept}
use Rattle.run_rules.specs.Past.{EachOnce, In}
use Rattle.run_rules.specs.Runs.{IsFrom}
use Rattle.run_rules.specs.ServerDecides.{IsOfRow, NotRefused, RefusedOn}
use Rattle.run_rules.specs.ServerMay.{HasRevoked, IsAskedBack}
use Rattle.run_rules.specs.ServerTokens.{HasTakenGives}
use Rattle.run_rules.specs.Steps.{IsNextLine, lines_of}
use Rattle.run_rules.specs.Wants.{CanDecide, CanGrant, CanRefuse, IsQueued, has_effect, is_use}
use Rattle.run_rules.specs.declared.applied.Request.TheVariants.{Change as Changes, Fetch as Asks}
use Rattle.run_rules.specs.declared.applied.Wanted.{Wanted}
use Rattle.run_rules.specs.declared.step.Step.{Step}
use Rattle.server_decides.specs.StoreKeeping.{StandsFor}
use Rattle.run_tokens.specs.ServerRest.{ServerMeets}
use Rattle.server_decides.specs.Acting.{GivesBelow}
use Rattle.server_tables.specs.Counting.{IsCounted}
use Rattle.server_tables.specs.Answers.{AreLastChanges}
use Rattle.server_tables.specs.Gives.{AreLast, last_give}
use Rattle.server_tables.specs.Places.{is_of}
use Rattle.server_tables.specs.Sound.{AreSound}
use Rattle.server_tables.specs.Standing.{AnsweredStand, Stands, tokens_of}
use Rattle.server_tables.specs.declared.pending.Pending.{Pending}
use Rattle.server_tables.specs.declared.recovering.Claimed.{Claimed}
use Rattle.server_tables.specs.declared.tables.Tables.{Tables}
use Rattle.server_exporter.specs.declared.exporter.Exporter.{Exporter}
use Rattle.message_types.specs.declared.giving.AppliedGive.{AppliedGive}
use Rattle.run_rules.specs.Doings.{GivenUp, IsApplied, SentTo}
use Rattle.message_types.specs.declared.giving.Reclaimed.{Reclaimed as ReclaimedOf}
use Rattle.token_types.specs.declared.token.TokenId.{TokenId}
use Rattle.message_types.specs.declared.message.Body.{Body}
use Rattle.message_types.specs.declared.telling.Done.{Done as DoneOf}
use Rattle.run_rules.specs.Doings.Doing.{Sent}

-- # Where a server stands at the end of a step

-- Each request that could be answered was, what is in the way of a want was asked back, and no claim could be admitted.
pub record IsQuiet (server : ServerId) (tree : Tree) (past : List Doing) : Type 0 where
  pub grants : (w : Wanted) (f : FetchOf) → IsQueued past w → w.request ≡ Asks f → CanGrant server past w → ⊥
  pub uses : (w : Wanted) (c : ChangeOf) → IsQueued past w → w.request ≡ Changes c → is_use c.call ≡ true
      → NotRefused tree w.host c → CanGrant server past w → ⊥
  pub others : (w : Wanted) (c : ChangeOf) → IsQueued past w → w.request ≡ Changes c → is_use c.call ≡ true
      → NotRefused tree w.host c → (IsOfRow tree w c → ⊥) → CanDecide server past w → ⊥
  pub enters : (w : Wanted) (c : ChangeOf) → IsQueued past w → w.request ≡ Changes c → c.enter ≡ true
      → NotRefused tree w.host c → CanGrant server past w → ⊥
  pub asked : (t : Token) → IsAskedBack server past t → HasRevoked past t
  pub claims : (h : HostId) (n : ℕ) (claim : ReclaimOf) → TookNow past h n (Reclaim claim)
      → (HasReclaimed past h → ⊥) → IsLive past h → HasTakenGives server past h claim → ⊥

-- No Change that waits is to be decided. A move that the call table doesn't refuse waits for good.
pub record IsRested (server : ServerId) (tree : Tree) (past : List Doing) : Type 0 where
  pub refused : (w : Wanted) (c : ChangeOf) (refusal : Refusal) → IsQueued past w → w.request ≡ Changes c
      → RefusedOn tree w.host c refusal → CanDecide server past w → ⊥
  pub effects : (w : Wanted) (c : ChangeOf) → IsQueued past w → w.request ≡ Changes c → has_effect c ≡ true
      → NotRefused tree w.host c → CanDecide server past w → ⊥
  pub pinned : (w : Wanted) (c : ChangeOf) → IsQueued past w → w.request ≡ Changes c → IsOfRow tree w c
      → NotRefused tree w.host c → CanRefuse server past w → ⊥

-- a claim that waits is of a live host that hasn't reclaimed
abbrev pub ClaimsWait : List Doing → List Claimed → Type 0
ClaimsWait past claims = (c : Claimed) → In c claims → (HasReclaimed past c.host → ⊥) × IsLive past c.host

-- a Reclaimed names give-backs that were applied, and leaves out what its host has given up in this epoch
pub record IsTold (server : ServerId) (past : List Doing) (host : HostId) (answer : ReclaimedOf) : Type 0 where
  pub applied : (g : AppliedGive) → In g answer.applied → IsApplied server past host g
  pub left_out : (i : TokenId) → In i answer.left_out → GivenUp server past host i

-- Of what was said in this epoch: it was said since that began, each Reclaimed tells so, and no Change that was
-- answered waits.
pub record AreTold (server : ServerId) (past : List Doing) : Type 0 where
  pub claims : (h : HostId) (n : ℕ) (answer : ReclaimedOf) → SentTo past h (epoch past) n (Reclaimed answer)
      → IsTold server past h answer
  pub since : (h : HostId) (n : ℕ) (b : Body) → SentTo past h (epoch past) n b
      → InEpoch (λ before a. a ≡ Sent h (epoch past) n b) past
  pub unsaid : (w : Wanted) (c : ChangeOf) (n : ℕ) (d : DoneOf) → IsQueued past w → w.request ≡ Changes c
      → SentTo past w.host (epoch past) n (Done d) → d.fileset ≡ c.fileset → d.bring.number ≡ c.number → ⊥

-- Its tables stand for its doings, and where it is rested no Change is left that is to be decided. Hosts of the roster
-- come on the list, each once; of a host and a fileset one give-back and one Change are the last; and tokens are
-- granted on filesets that are here. `told`: of what was said in this epoch. `quiet`: so far each step was brought to
-- its end.
pub record IsAt (past : List Doing) (tree : Tree) (x : Exporter) : Type 0 where
  pub tables : Stands past x.tables
  pub once : EachOnce x.tables.hosts.listed
  pub known : (h : HostId) → In h x.tables.hosts.listed → IsHost x.tables.roster h
  pub gives : AreLast x.tables.gives
  pub changes : AreLastChanges x.tables.changes
  -- one that enters a fileset wants nothing
  pub enters : (p : Pending) (c : ChangeOf) → In p x.tables.pending → p.wanted.request ≡ Changes c → c.enter ≡ true
      → p.wanted.needs ≡ []
  pub homes : (t : Token) → In t (tokens_of x.tables.tokens.grants) → is_of x.tables.server t.fid.fileset ≡ true
  pub answered : AnsweredStand past x.tables.recovering.answers
  pub claims : ClaimsWait past x.tables.recovering.claims
  pub told : AreTold x.tables.server past
  pub quiet : IsQuiet x.tables.server tree past
  pub rested : x.rested ≡ true → IsRested x.tables.server tree past

-- # A machine

-- a machine stays that of its server
pub record IsSame (x y : Exporter) : Type 0 where
  pub server : y.tables.server ≡ x.tables.server
  pub roster : y.tables.roster ≡ x.tables.roster

-- what the server keeps by the rules is what its store keeps, each fileset where it was made, and its epoch is the
-- store's
pub record Keeps (x : Tables) (tree : Tree) (state : StoreState) : Type 0 where
  pub stands : StandsFor tree state
  pub homes : are_home tree ≡ true
  -- no give-back was applied of a higher number than the last one that was taken
  pub taken : GivesBelow (last_give x.gives) state
  pub epoch : state.epoch ≡ x.hosts.epoch

-- # What a step owes

-- The step meets all rules of the server, wherever its tables stand for what it did and its store keeps what it keeps.
unfoldable pub Meets : StoreState → Exporter → Step → Type 0
Meets state x step = (script : Script) (start : Tree) (steps : List Step) (past : List Doing)
    → IsAt past (filesets_kept start x.tables.server steps) x
    → Keeps x.tables (filesets_kept start x.tables.server steps) state
    → ServerMeets script start x.tables.server steps past step

-- then its tables stand for that and the step, and its store keeps what it keeps after the step
unfoldable pub Follows : StoreState → Exporter → Step → StoreState → Exporter → Type 0
Follows state x step next y = (start : Tree) (steps : List Step) (past : List Doing)
    → IsAt past (filesets_kept start x.tables.server steps) x
    → Keeps x.tables (filesets_kept start x.tables.server steps) state
    → IsAt (after_step step past) (filesets_kept start x.tables.server (step ∷ steps)) y
    × Keeps y.tables (filesets_kept start x.tables.server (step ∷ steps)) next

-- The same of a step that does nothing to the store.
unfoldable pub MeetsAlone : Exporter → Step → Type 0
MeetsAlone x step = (script : Script) (start : Tree) (steps : List Step) (past : List Doing)
    → IsAt past (filesets_kept start x.tables.server steps) x
    → ServerMeets script start x.tables.server steps past step

unfoldable pub FollowsAlone : Exporter → Step → Exporter → Type 0
FollowsAlone x step y = (start : Tree) (steps : List Step) (past : List Doing)
    → IsAt past (filesets_kept start x.tables.server steps) x
    → IsAt (after_step step past) (filesets_kept start x.tables.server (step ∷ steps)) y

-- A step by which a line goes meets the rules where that is the server's next line, and it is `restart` or isn't.
unfoldable pub MeetsOnLine : (Line → Type 0) → ℕ → Exporter → Step → Type 0
MeetsOnLine IsSo number x step = (script : Script) (start : Tree) (steps : List Step) (past : List Doing)
    → IsAt past (filesets_kept start x.tables.server steps) x
    → (line : Line) → IsNextLine (lines_of script (Server x.tables.server)) steps number line → IsSo line
    → ServerMeets script start x.tables.server steps past step

abbrev pub IsRestart : Line → Type 0
IsRestart line = line.deed ≡ Restarts

abbrev pub IsNoRestart : Line → Type 0
IsNoRestart line = line.deed ≡ Restarts → ⊥

-- A machine that has done nothing.
pub record IsNew (x : Exporter) (server : ServerId) (epoch : ℕ) (roster : Roster) : Type 0 where
  pub server_is : x.tables.server ≡ server
  pub roster_is : x.tables.roster ≡ roster
  pub gives : x.tables.gives ≡ []
  pub pending : x.tables.pending ≡ []
  pub counted : IsCounted x.tables
  pub sound : AreSound x.tables
  pub rested : x.rested ≡ true
  pub stands : (tree : Tree) → IsAt (doings_of epoch server []) tree x

-- # What a step says

-- A step is the server's own, and so is what it sends, which is sound, whatever its store tells.
pub record Says (x : Tables) (s : Step) : Type 0 where
  pub node : s.node ≡ Server x.server
  pub from : (m : Message) → In m s.sent → IsFrom (Server x.server) m
  pub sound : (m : Message) → In m s.sent → IsSound x.roster m

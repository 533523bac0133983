-- What is due of a server: what it decides, answers and asks back, and when. That runs end rests on it, and no law of
-- safety does. `past` is its doings so far.
use Rattle.std.specs.Prelude.{List, [], true, ℕ, ◌≡◌, ◌≢◌, ◌⊎◌}
use Rattle.base_types.specs.declared.ids.FilesetId.{FilesetId}
use Rattle.base_types.specs.declared.ids.HostId.{HostId}
use Rattle.base_types.specs.declared.ids.Node.TheVariants.{Server}
use Rattle.base_types.specs.declared.ids.ServerId.{ServerId}
use Rattle.tree_answers.specs.declared.tree.Tree.{Tree}
use Rattle.tree_calls.specs.declared.reply.Refusal.{Refusal}
use Rattle.token_types.specs.declared.token.Token.{Token}
use Rattle.token_types.specs.declared.token.TokenId.{TokenId}
use Rattle.script_lines.specs.declared.script.Deed.TheVariants.{Restart as Restarts}
use Rattle.script_lines.specs.declared.script.Line.{Line}
use Rattle.script_lines.specs.declared.script.Script.{Script}
use Rattle.message_types.specs.declared.asking.Change.{Change as ChangeOf}
use Rattle.message_types.specs.declared.asking.Fetch.{Fetch as FetchOf}
use Rattle.message_types.specs.declared.giving.AppliedGive.{AppliedGive}
use Rattle.message_types.specs.declared.giving.Give.{Give}
use Rattle.message_types.specs.declared.giving.Reclaim.{Reclaim as ReclaimOf}
use Rattle.message_types.specs.declared.giving.Reclaimed.{Reclaimed as ReclaimedOf}
use Rattle.message_types.specs.declared.message.Body.TheVariants.{Bye, Change, Done, Down, GiveBack, Gone, Hello}
use Rattle.message_types.specs.declared.message.Body.TheVariants.{Reclaim, Reclaimed, Restarted, Revoke}
use Rattle.message_types.specs.declared.message.Message.{Message}
use Rattle.message_types.specs.declared.telling.Done.{Done as DoneOf}
use Rattle.message_types.specs.declared.telling.DoneIs.TheVariants.{Reply as HasReply}
use Rattle.message_types.specs.declared.tokens.Revoke.{Revoke as RevokeOf}
use Rattle.run_rules.specs.Doings.{Doing, GivenUp, HasGoneDown, HasReclaimed, HeardNow, Here, IsLive, ListedNow}
use Rattle.run_rules.specs.Doings.{NoGrace, SentNow, SentTo, TakenNow, TookNow, TookOf, after_cause, after_deciding}
use Rattle.run_rules.specs.Doings.{after_step, epoch}
use Rattle.run_rules.specs.Kept.{filesets_kept, filesets_through}
use Rattle.run_rules.specs.Past.{EachOnce, In}
use Rattle.run_rules.specs.ServerDecides.{IsDecidedHere, IsNewRequest, IsOfRow, NotRefused, RefusedOn}
use Rattle.run_rules.specs.ServerMay.{HasRevoked, HasWritten, IsAskedBack, IsLast, IsOwed}
use Rattle.run_rules.specs.ServerTokens.{HasTakenGives}
use Rattle.run_rules.specs.Steps.{IsBareStep, IsNextLine, lines_of}
use Rattle.run_rules.specs.Tokens.{NamesGive, number_of}
use Rattle.run_rules.specs.Wants.{CanDecide, CanGrant, CanRefuse, IsQueued, has_effect, is_use}
use Rattle.run_rules.specs.declared.applied.Admission.{Admission}
use Rattle.run_rules.specs.declared.applied.Applied.TheVariants.{Done as IsDone, Wants}
use Rattle.run_rules.specs.declared.applied.Request.{Request}
use Rattle.run_rules.specs.declared.applied.Request.TheVariants.{Change as Changes, Fetch as Asks}
use Rattle.run_rules.specs.declared.applied.Wanted.{Wanted}
use Rattle.run_rules.specs.declared.applied.Written.{Written}
use Rattle.run_rules.specs.declared.step.Cause.TheVariants.{Lapse, Line as LineOf, Message as Came, Restart}
use Rattle.run_rules.specs.declared.step.Step.{Step}

-- a Reclaimed with empty lists
abbrev pub empty_reclaimed : ReclaimedOf
empty_reclaimed = record { applied = []; left_out = [] }

-- A Reclaimed tells of a claim: which of its give-backs were taken, and which of its tokens aren't granted again,
-- since the host has given them up.
pub record AnswersClaim (server : ServerId) (past : List Doing) (host : HostId) (claim : ReclaimOf)
    (answer : ReclaimedOf)
    : Type 0 where
  pub applied : (g : Give) → TookOf server past host g.fid.fileset (GiveBack g) → NamesGive claim.numbers g
      → In (number_of g) answer.applied
  pub applied_only : (n : AppliedGive) → In n answer.applied
      → (g : Give) × TookOf server past host g.fid.fileset (GiveBack g) × NamesGive claim.numbers g × (number_of g ≡ n)
  pub left_out : (t : Token) → In t claim.tokens → GivenUp server past host t.id → In t.id answer.left_out

-- the step admits the host's claim, and tells what became of it
abbrev pub AdmitsNow : ServerId → List Doing → Step → HostId → ReclaimOf → Type 0
AdmitsNow server past s host claim = ((c : Admission) × In c s.admitted × (c.host ≡ host))
    × ((answer : ReclaimedOf) × SentNow s host (Reclaimed answer) × AnswersClaim server past host claim answer)

-- when a live host is told of a restart: where it says Hello, and came on the list in an older epoch; where it says
-- anything else but Down, in another epoch; where the server restarts; and at a lapse, until it has reclaimed
abbrev pub HearsOfRestart : List Doing → Step → HostId → Type 0
HearsOfRestart past s h = (HeardNow s h Hello × (ListedNow past h → ⊥))
    ⊎ (((m : Message) × (s.cause ≡ Came m) × (m.host ≡ h) × (m.epoch ≢ epoch past) × (m.body ≢ Hello) × (m.body ≢ Down))
    ⊎ (((line : ℕ) × (s.cause ≡ Restart line)) ⊎ ((s.cause ≡ Lapse) × (HasReclaimed past h → ⊥))))

-- What a server has to answer at once, and to tell by itself.
pub record ServerAnswers (server : ServerId) (past : List Doing) (s : Step) : Type 0 where
  -- a Hello of a live host that came on the list in an older epoch is answered by Restarted; any other, but of a
  -- host that is down, by a Reclaimed with empty lists
  pub hello_old : (h : HostId) → HeardNow s h Hello → IsLive past h → (ListedNow past h → ⊥) → SentNow s h Restarted
  pub hello : (h : HostId) → HeardNow s h Hello → (HasGoneDown past h → ⊥) → ((IsLive past h → ⊥) ⊎ ListedNow past h)
      → SentNow s h (Reclaimed empty_reclaimed)
  -- a Bye of a host that isn't live is answered by Bye, but of one that is down, and so is one of the present epoch
  pub bye : (h : HostId) → HeardNow s h Bye → (HasGoneDown past h → ⊥)
      → (IsLive past h → ⊥) ⊎ ((n : ℕ) × TakenNow past s h n Bye) → SentNow s h Bye
  -- any other message of a live host and another epoch is answered by Restarted, and has no other effect
  pub late : (h : HostId) (m : Message) → s.cause ≡ Came m → m.host ≡ h → IsLive past h → m.epoch ≢ epoch past
      → m.body ≢ Hello → m.body ≢ Down → SentNow s h Restarted
  -- a restart tells each host that is live on the list, and a lapse each that hasn't reclaimed
  pub restarted : (line : ℕ) (h : HostId) → s.cause ≡ Restart line → IsLive past h → SentNow s h Restarted
  pub restarted_again : (h : HostId) → s.cause ≡ Lapse → IsLive past h → (HasReclaimed past h → ⊥)
      → SentNow s h Restarted
  pub restarted_only : (h : HostId) → SentNow s h Restarted → IsLive past h × HearsOfRestart past s h
  -- a give-back that is taken was applied, now or earlier, and is answered by Gone
  pub gone : (h : HostId) (n : ℕ) (g : Give) → TakenNow past s h n (GiveBack g) → Here server past g.fid.fileset n
      → SentNow s h (Gone (number_of g))
  pub gone_only : (h : HostId) (n : AppliedGive) → SentNow s h (Gone n)
      → (moves : ℕ) × (g : Give) × TakenNow past s h moves (GiveBack g) × (number_of g ≡ n)
  -- a claim counts in the step after which each give-back that it waits for was taken, and is answered then
  pub claim_now : (h : HostId) (n : ℕ) (claim : ReclaimOf) → TookNow (after_cause s.cause past) h n (Reclaim claim)
      → (HasReclaimed past h → ⊥) → IsLive (after_cause s.cause past) h
      → HasTakenGives server (after_cause s.cause past) h claim → AdmitsNow server (after_cause s.cause past) s h claim
  -- one of a host that has reclaimed in this epoch changes nothing, and is answered as before
  pub claim_again : (h : HostId) (n : ℕ) (claim : ReclaimOf) → TakenNow past s h n (Reclaim claim) → HasReclaimed past h
      → (answer : ReclaimedOf) × (k : ℕ) × SentTo past h (epoch past) k (Reclaimed answer)
      × SentNow s h (Reclaimed answer)

-- What is so once a step has decided: `before` are the doings before it, `past` those so far, `tree` its kept
-- filesets.
pub record HasDecided (server : ServerId) (tree : Tree) (before past : List Doing) (s : Step) : Type 0 where
  -- a new request has made its want
  pub news : (h : HostId) (n : ℕ) (r : Request) → IsNewRequest server before (after_cause s.cause before) s h n r
      → (w : Wanted) × In (Wants w) s.applied × (w.host ≡ h) × (w.request ≡ r)
  -- a Change that the call table refuses is decided when it could be, and outside a grace period when it is taken
  pub refused : (w : Wanted) (c : ChangeOf) (refusal : Refusal) → IsQueued past w → w.request ≡ Changes c
      → RefusedOn tree w.host c refusal → CanDecide server past w
      ⊎ (NoGrace past × IsNewRequest server before (after_cause s.cause before) s w.host w.moves w.request) → ⊥
  -- one that could be decided has its effect, or is refused for a pinned token, or its want is made anew
  pub effects : (w : Wanted) (c : ChangeOf) → IsQueued past w → w.request ≡ Changes c → has_effect c ≡ true
      → NotRefused tree w.host c → CanDecide server past w → ⊥
  -- a use that meets a pinned token is refused
  pub pinned : (w : Wanted) (c : ChangeOf) → IsQueued past w → w.request ≡ Changes c → IsOfRow tree w c
      → NotRefused tree w.host c → CanRefuse server past w → ⊥

-- it is of the Change of this Done
abbrev pub IsOfChange : ChangeOf → DoneOf → Type 0
IsOfChange c d = (c.fileset ≡ d.fileset) × (c.number ≡ d.bring.number)

-- the step answers the host's Change of this fileset and number
abbrev pub AnswersChange : Step → HostId → FilesetId → ℕ → Type 0
AnswersChange s h fileset number =
    (d : DoneOf) × SentNow s h (Done d) × (d.fileset ≡ fileset) × (d.bring.number ≡ number)

-- What is so at the end of a step: `before` are the doings before it, `past` those with all that it sent and keeps.
pub record HasSent (server : ServerId) (tree : Tree) (before past : List Doing) (s : Step) : Type 0 where
  -- each message is sent once, and each token is named by one Revoke
  pub once : EachOnce s.sent
  pub revokes_once : (h : HostId) (r q : RevokeOf) (i : TokenId) → SentNow s h (Revoke r) → SentNow s h (Revoke q)
      → In i r.ids → In i q.ids → r ≡ q
  -- each Change that is written down is answered
  pub written : (written : Written) → In (IsDone written) s.applied
      → (d : DoneOf) × SentNow s written.answer.host (Done d) × (d.outcome ≡ HasReply written.answer.reply)
      × (d.fileset ≡ written.fileset) × (d.bring.number ≡ written.number)
  -- so is a repeat of the last one
  pub repeats : (h : HostId) (n : ℕ) (c : ChangeOf) (d : DoneOf) → TakenNow before s h n (Change c)
      → IsDecidedHere server before c.fileset n → d.fileset ≡ c.fileset → d.bring.number ≡ c.number → IsLast before h d
      → HasWritten before h d ⊎ ((m : ℕ) × SentTo before h (epoch before) m (Done d))
      → AnswersChange s h c.fileset c.number
  -- a Done is of a Change that the step takes, or that waited
  pub dones_only : (h : HostId) (d : DoneOf) → SentNow s h (Done d) → (c : ChangeOf) × IsOfChange c d
      × (((n : ℕ) × TakenNow before s h n (Change c))
      ⊎ ((w : Wanted) × IsQueued before w × (w.host ≡ h) × (w.request ≡ Changes c)))
  -- each Fetch that can be granted is
  pub grants : (w : Wanted) (f : FetchOf) → IsQueued past w → w.request ≡ Asks f → CanGrant server past w → ⊥
  -- so is each use, where it isn't refused; one whose path names another file is settled when it could be decided
  pub uses : (w : Wanted) (c : ChangeOf) → IsQueued past w → w.request ≡ Changes c → is_use c.call ≡ true
      → NotRefused tree w.host c → CanGrant server past w → ⊥
  pub others : (w : Wanted) (c : ChangeOf) → IsQueued past w → w.request ≡ Changes c → is_use c.call ≡ true
      → NotRefused tree w.host c → (IsOfRow tree w c → ⊥) → CanDecide server past w → ⊥
  -- each fileset is entered that can be
  pub enters : (w : Wanted) (c : ChangeOf) → IsQueued past w → w.request ≡ Changes c → c.enter ≡ true
      → NotRefused tree w.host c → CanGrant server past w → ⊥
  -- each token that is in the way of a want is asked back; at a lapse each that is owed is named
  pub revokes : (t : Token) → IsAskedBack server past t → HasRevoked past t
  pub revokes_again : (t : Token) → s.cause ≡ Lapse → IsOwed server past t
      → (r : RevokeOf) × SentNow s t.host (Revoke r) × In t.id r.ids

-- A server's lines go in order, once each. A line `restart` makes a restart step, the others go bare.
pub record ServerLines (lines : List Line) (steps : List Step) (s : Step) : Type 0 where
  pub bare : (n : ℕ) → s.cause ≡ LineOf n
      → IsBareStep s × ((line : Line) × IsNextLine lines steps n line × (line.deed ≡ Restarts → ⊥))
  pub restarts : (n : ℕ) → s.cause ≡ Restart n → (line : Line) × IsNextLine lines steps n line × (line.deed ≡ Restarts)

-- What is due of it: what it does, answers and decides in time, and no more than that. That runs end hangs on this.
pub record ServerDue
    (script : Script) (start : Tree) (server : ServerId) (steps : List Step) (past : List Doing) (s : Step) : Type 0
  where
    pub lines : ServerLines (lines_of script (Server server)) steps s
    pub answers : ServerAnswers server past s
    pub decided : HasDecided server (filesets_through s.cause s.applied (filesets_kept start server steps)) past
        (after_deciding s past) s
    pub sent : HasSent server (filesets_through s.cause s.applied (filesets_kept start server steps)) past
        (after_step s past) s

-- What is so of a step once its Changes were decided, and once its claims were granted: its end hangs on that alone.
use Rattle.std.proofs.Common.{◌≡◌, ℕ, true, List, [], ◌∷◌, ◌++◌, None, sym, ◌∙◌, subst}
use Rattle.std.specs.List.{list_all}
use Rattle.base_types.specs.declared.ids.HostId.{HostId}
use Rattle.base_types.specs.declared.ids.ServerId.{ServerId}
use Rattle.tree_answers.specs.declared.tree.Tree.{Tree}
use Rattle.token_types.specs.declared.token.Token.{Token}
use Rattle.message_types.specs.Soundness.{IsHost}
use Rattle.message_types.specs.declared.asking.Change.{Change as ChangeOf}
use Rattle.message_types.specs.declared.giving.Give.{Give}
use Rattle.message_types.specs.declared.giving.Reclaim.{Reclaim as ReclaimOf}
use Rattle.message_types.specs.declared.giving.Reclaimed.{Reclaimed as ReclaimedOf}
use Rattle.message_types.specs.declared.message.Body.TheVariants.{Reclaim, Reclaimed}
use Rattle.run_rules.specs.Doings.{Doing, HasReclaimed, IsLive, TookNow, admitting, after_cause, deciding, sending}
use Rattle.run_rules.specs.Kept.{filesets_through}
use Rattle.run_rules.specs.Past.{EachInTurn, EachOnce, In, appended}
use Rattle.run_rules.specs.ServerDecides.{FirstDown, FirstGiven, IsNewRequest, MayDecideAll, ended_by, is_decision}
use Rattle.run_rules.specs.ServerDecides.{stored_of}
use Rattle.run_rules.specs.ServerDue.{AnswersClaim}
use Rattle.run_rules.specs.ServerTokens.{HasTakenGives, ServerTokens}
use Rattle.run_rules.specs.declared.applied.Admission.{Admission}
use Rattle.run_rules.specs.declared.applied.Applied.{Applied}
use Rattle.run_rules.specs.declared.applied.Applied.TheVariants.{IsDown as GoesDown, Wants}
use Rattle.run_rules.specs.declared.applied.Request.{Request}
use Rattle.run_rules.specs.declared.applied.Request.TheVariants.{Change as Changes}
use Rattle.run_rules.specs.declared.applied.Wanted.{Wanted}
use Rattle.run_rules.specs.declared.step.Cause.{Cause}
use Rattle.run_rules.specs.declared.step.Step.{Step}
use Rattle.server_tables.specs.Answers.{AreLastChanges}
use Rattle.server_tables.specs.Gives.{AreLast}
use Rattle.server_tables.specs.Judging.{first_ripe}
use Rattle.server_tables.specs.Places.{is_of}
use Rattle.server_tables.specs.Standing.{AnsweredStand, Stands, tokens_of}
use Rattle.server_tables.specs.declared.pending.Pending.{Pending}
use Rattle.server_tables.specs.declared.recovering.Claimed.{Claimed}
use Rattle.server_tables.proofs.Drafting.{SameReady, ready_back}
use Rattle.server_tables.proofs.Early.{IsEarly}
use Rattle.server_decides.specs.Taking.{Made, made}
use Rattle.server_decides.specs.Draft.{Draft}
use Rattle.server_decides.specs.Claiming.{AdmitsOne}
use Rattle.server_decides.specs.Going.{GoesTo}
use Rattle.server_decides.specs.Deciding.{Decides}
use Rattle.server_decides.specs.Running.{Making}
use Rattle.server_decides.specs.Serving.{IsServed}
use Rattle.server_exporter.specs.Machines.{AreTold}
use Rattle.server_exporter.proofs.Claims.{IsGranting, granted_all}
use Rattle.server_exporter.proofs.Counted.{claim_counts, said_heard}
use Rattle.server_exporter.proofs.Decisions.{decided_by, mute_ready, said_by}
use Rattle.server_exporter.proofs.Held.{IsHeld, IsStoredSo}
use Rattle.server_exporter.proofs.Onsets.{HasBegun, IsPlain, SaysAtOnce, SaysTo}
use Rattle.server_exporter.proofs.Phases.{AreFresh, StaysGranting, all_held, all_spoken, early_allowed, fresh_all}
use Rattle.server_exporter.proofs.Phases.{granting_of, grants_spoken, grants_stay, live_is, reclaimed_was, said_same}
use Rattle.server_exporter.proofs.Sent.{AreAllowed}
use Rattle.server_exporter.proofs.Phases.{moves_none_by}
use Rattle.server_exporter.proofs.Words.{IsSpoken}

-- what the cause of a step owes
pub record HasCause (server : ServerId) (cause : Cause) (tree : Tree) (past : List Doing) (a : Making) : Type 0 where
  pub base : List Applied
  pub plain : IsPlain cause
  pub told : AreTold server past
  pub known : (h : HostId) → In h a.tables.hosts.listed → IsHost a.tables.roster h
  pub given : (s : Step) → s.cause ≡ cause → (h : HostId) (g : Give) → FirstGiven server past s h g
      → base ≡ stored_of tree h g ++ ended_by h g
  pub down : (s : Step) → s.cause ≡ cause → (h : HostId) → FirstDown past s h → base ≡ GoesDown h ∷ []
  pub else_none : (s : Step) → s.cause ≡ cause → ((h : HostId) (g : Give) → FirstGiven server past s h g → ⊥)
      → ((h : HostId) → FirstDown past s h → ⊥) → base ≡ []
  pub at_once : (s : Step) → s.cause ≡ cause → SaysAtOnce server past s a.draft.sent
  pub news : (s : Step) → s.cause ≡ cause → (h : HostId) (n : ℕ) (r : Request)
      → IsNewRequest server past (after_cause s.cause past) s h n r
      → (w : Wanted) × In (Wants w) a.draft.applied × (w.host ≡ h) × (w.request ≡ r)
  pub never : (h : HostId) (n : ℕ) (claim : ReclaimOf) → TookNow (after_cause cause past) h n (Reclaim claim)
      → (HasReclaimed past h → ⊥) → HasReclaimed (after_cause cause past) h → ⊥

-- Changes were decided
pub record IsMid (server : ServerId) (cause : Cause) (tree : Tree) (past : List Doing) (base : List Applied)
    (m : Making) : Type 0 where
  pub more : List Applied
  pub server_is : m.tables.server ≡ server
  pub applied : m.draft.applied ≡ base ++ more
  pub none : deciding base ≡ []
  pub all : list_all is_decision more ≡ true
  pub writes : EachInTurn (ServerTokens server) (deciding m.draft.applied) (after_cause cause past)
  pub may : (s : Step) → s.cause ≡ cause
      → MayDecideAll server (filesets_through cause base tree) past (after_cause cause past) s more
  pub stands : Stands (said_by server cause tree past m.draft) m.tables
  pub ready : SameReady server (decided_by server cause tree past m.draft) (said_by server cause tree past m.draft)
  pub served : IsServed m.tables m.state
  pub stored : IsStoredSo server cause tree past base m.draft.applied m.tables m.state
  pub listed : EachOnce m.tables.hosts.listed
  pub gives : AreLast m.tables.gives
  pub changes : AreLastChanges m.tables.changes
  pub enters : (p : Pending) (c : ChangeOf) → In p m.tables.pending → p.wanted.request ≡ Changes c
      → c.enter ≡ true → p.wanted.needs ≡ []
  pub fresh : (s : Step) → s.cause ≡ cause → AreFresh server cause tree past base s m

module _ (server : ServerId) (cause : Cause) (tree : Tree) (past : List Doing) (first : Draft) where
  -- a claim is granted and answered
  abbrev pub IsAnswered : Made → HostId → ReclaimOf → Type 0
  IsAnswered g h claim = ((c : Admission) × In c g.draft.admitted × (c.host ≡ h))
      × ((a : ReclaimedOf) × SaysTo g.draft.sent h (Reclaimed a)
      × AnswersClaim server (after_cause cause past) h claim a)

  -- claims were granted
  pub record AreGranted (m : Making) (g : Made) : Type 0 where
    pub stands : Stands (appended (sending g.draft.sent)
        (appended (admitting g.draft.admitted) (decided_by server cause tree past m.draft))) g.tables
    pub allowed : (kept : Tree) (s : Step) → AreAllowed server kept s
        (appended (admitting g.draft.admitted) (decided_by server cause tree past m.draft)) g.draft.sent
    pub admits : EachInTurn (ServerTokens server) (admitting g.draft.admitted)
        (decided_by server cause tree past m.draft)
    pub once : EachOnce g.draft.sent
    pub homes : (t : Token) → In t (tokens_of g.tables.tokens.grants) → is_of g.tables.server t.fid.fileset ≡ true
    pub answered : AnsweredStand (appended (sending g.draft.sent)
        (appended (admitting g.draft.admitted) (decided_by server cause tree past m.draft)))
        g.tables.recovering.answers
    pub waits : (c : Claimed) → In c g.tables.recovering.claims
        → (HasReclaimed (appended (sending g.draft.sent)
        (appended (admitting g.draft.admitted) (decided_by server cause tree past m.draft))) c.host → ⊥)
        × IsLive (appended (sending g.draft.sent)
        (appended (admitting g.draft.admitted) (decided_by server cause tree past m.draft))) c.host
    pub spoken : IsSpoken cause past first g.tables g.draft
    pub counts : (h : HostId) (n : ℕ) (claim : ReclaimOf) → TookNow (after_cause cause past) h n (Reclaim claim)
        → (HasReclaimed past h → ⊥) → IsLive (after_cause cause past) h
        → HasTakenGives server (after_cause cause past) h claim → IsAnswered g h claim

-- # By what a step began with

module _ (server : ServerId) (cause : Cause) (tree : Tree) (past : List Doing) (a : Making)
    (h : HasBegun server cause tree past a) where
  abbrev pub cause_of : HasCause server cause tree past a
  cause_of = record {
    base = h.base;
    plain = h.plain;
    told = h.told;
    known = h.known;
    given = h.given;
    down = h.down;
    else_none = h.else_none;
    at_once = h.at_once;
    news = h.news;
    never = h.never;
  }

  module _ (m : Making) (goes : GoesTo Decides a m) where
    held : IsHeld server cause tree past h.base m
    held = all_held server cause tree past a m h goes

    pub mid_of : IsMid server cause tree past h.base m
    mid_of = record {
      more = held.more;
      server_is = held.deciding.server_is;
      applied = held.deciding.applied;
      none = held.deciding.none;
      all = held.deciding.all;
      writes = held.deciding.writes;
      may = held.deciding.may;
      stands = held.deciding.stands;
      ready = ready_back (mute_ready server (decided_by server cause tree past m.draft) m.draft.sent
          held.deciding.mute);
      served = held.served;
      stored = held.stored;
      listed = held.listed;
      gives = held.gives;
      changes = held.changes;
      enters = held.enters;
      fresh = λ s e. fresh_all server cause tree past h.base s a m goes h.held (h.fresh s e);
    }

    module _ (g : Made) (admits : GoesTo AdmitsOne (made m.tables m.draft) g)
        (none_ripe : first_ripe g.tables.recovering g.tables.server ≡ None) where
      stays : StaysGranting (made m.tables m.draft) g
      stays = grants_stay (made m.tables m.draft) g admits

      g0 : IsGranting cause past m.tables m.draft
      g0 = granting_of server cause tree past h.base m held

      g1 : IsGranting cause past g.tables (record g.draft { applied = m.draft.applied })
      g1 = subst (IsGranting cause past g.tables) (λ i. record g.draft { applied = stays.applied i })
          (granted_all cause past (made m.tables m.draft) g admits g0)

      server1 : g.tables.server ≡ server
      server1 = stays.server ∙ held.deciding.server_is

      -- a claim that counts is admitted and answered
      its_claim : (k : HostId) (n : ℕ) (claim : ReclaimOf) → TookNow (after_cause cause past) k n (Reclaim claim)
          → (HasReclaimed past k → ⊥) → IsLive (after_cause cause past) k
          → HasTakenGives server (after_cause cause past) k claim
          → IsAnswered server cause tree past a.draft g k claim
      its_claim k n claim took never live taken =
          let same = said_same server cause tree past h.base m held in
          let its = held.deciding.stands.recovery.claim k n claim
          (subst (λ (l : List Doing). TookNow l k n (Reclaim claim)) (sym same)
          (((said_heard server cause past m.draft (moves_none_by server cause tree past h.base m held)).took k n (Reclaim claim)).0 took))
          (λ r. h.never k n claim took never (reclaimed_was server cause tree past h.base m held k r))
          (subst (λ (l : List Doing). IsLive l k) (sym same) (live_is server cause tree past h.base m held k live)) in
          claim_counts server cause past k claim taken (made m.tables m.draft) g admits g0 held.deciding.server_is its
          none_ripe

      pub granted_of : AreGranted server cause tree past a.draft m g
      granted_of = record {
        stands = g1.stands;
        allowed = λ kept s. early_allowed server kept s
            (appended (admitting g.draft.admitted) (decided_by server cause tree past m.draft)) g.draft.sent
            (subst (λ (v : ServerId). EachInTurn (IsEarly v) (sending g.draft.sent)
            (appended (admitting g.draft.admitted) (decided_by server cause tree past m.draft))) server1 g1.words);
        admits = subst (λ (v : ServerId). EachInTurn (ServerTokens v) (admitting g.draft.admitted)
            (decided_by server cause tree past m.draft)) server1 g1.admits;
        once = g1.once;
        homes = g1.homes;
        answered = g1.answered;
        waits = g1.waits;
        spoken = grants_spoken cause past a.draft (made m.tables m.draft) g admits
            (all_spoken server cause tree past a m h goes);
        counts = its_claim;
      }

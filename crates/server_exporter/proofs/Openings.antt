-- What a message leaves once it was taken: the tables, what it applied, and at most a word that it is answered by. So
-- the
-- rest of the step can be made.
use Rattle.std.proofs.Common.{◌≡◌, ◌⊎◌, ℕ, true, List, [], ◌∷◌, ◌++◌, inl, inr, refl, sym, ◌∙◌, ap, subst}
use Rattle.base_types.specs.declared.ids.HostId.{HostId}
use Rattle.base_types.specs.declared.ids.ServerId.{ServerId}
use Rattle.tree_answers.specs.declared.tree.Tree.{Tree}
use Rattle.token_types.specs.declared.token.Token.{Token}
use Rattle.message_types.specs.Soundness.{IsHost}
use Rattle.message_types.specs.declared.asking.Change.{Change as ChangeOf}
use Rattle.message_types.specs.declared.giving.Give.{Give}
use Rattle.message_types.specs.declared.giving.Reclaim.{Reclaim as ReclaimOf}
use Rattle.message_types.specs.declared.giving.Reclaimed.{Reclaimed as ReclaimedOf}
use Rattle.message_types.specs.declared.message.Body.{Body}
use Rattle.message_types.specs.declared.message.Body.TheVariants.{Reclaim, Reclaimed}
use Rattle.message_types.specs.declared.message.Message.{Message}
use Rattle.server_decides.specs.Changes.{are_home}
use Rattle.run_rules.specs.Doings.{Doing, HasReclaimed, IsLive, StayStamp, TookNow, after_cause, deciding, sending}
use Rattle.run_rules.specs.Doings.{Issues}
use Rattle.run_rules.specs.Doings.Doing.{Sent, Took}
use Rattle.run_rules.specs.Kept.{filesets_through}
use Rattle.run_rules.specs.Past.{EachInTurn, EachOnce, In, appended}
use Rattle.run_rules.specs.ServerDecides.{FirstDown, FirstGiven, IsNewRequest, ended_by, stored_of}
use Rattle.run_rules.specs.ServerTokens.{ServerTokens}
use Rattle.run_rules.specs.Wants.{Decides, IsQueued}
use Rattle.run_rules.specs.declared.applied.Applied.{Applied}
use Rattle.run_rules.specs.declared.applied.Applied.TheVariants.{Done as IsDone, IsDown as GoesDown}
use Rattle.run_rules.specs.declared.applied.Request.{Request}
use Rattle.run_rules.specs.declared.applied.Request.TheVariants.{Change as Changes, Fetch as Asks}
use Rattle.run_rules.specs.declared.applied.Written.{Written}
use Rattle.run_rules.specs.declared.step.Cause.TheVariants.{Message as Came}
use Rattle.run_rules.specs.declared.step.Step.{Step}
use Rattle.server_decides.specs.StoreKeeping.{StandsFor}
use Rattle.store_state.specs.declared.state.StoreState.{StoreState}
use Rattle.server_decides.specs.Acting.{GivesBelow}
use Rattle.server_tables.specs.Answers.{AreLastChanges}
use Rattle.server_tables.specs.Gives.{AreLast, last_give}
use Rattle.server_tables.specs.Places.{is_of}
use Rattle.server_tables.specs.Standing.{AnsweredStand, Stands, tokens_of}
use Rattle.server_tables.specs.declared.pending.Pending.{Pending}
use Rattle.server_tables.specs.declared.recovering.Claimed.{Claimed}
use Rattle.server_tables.specs.declared.tables.Tables.{Tables}
use Rattle.server_tables.proofs.Early.{IsEarly, IsWordOf}
use Rattle.server_tables.proofs.Idle.{idle, says, up_to}
use Rattle.server_tables.proofs.Quiet.{IsBlank, blank_word}
use Rattle.server_tables.proofs.Still.{IsStill, answered_still, still}
use Rattle.server_decides.specs.Drafts.{no_draft, word}
use Rattle.server_decides.specs.Draft.{Draft}
use Rattle.server_decides.specs.Running.{making}
use Rattle.server_decides.specs.Serving.{IsServed}
use Rattle.server_exporter.proofs.Decisions.{AreMute}
use Rattle.server_exporter.proofs.Making.{as_sent}
use Rattle.server_exporter.proofs.Onsets.{HasBegun, SaysAtOnce}
use Rattle.server_exporter.specs.Machines.{AreTold}

-- # A word, or none

its_claim : (a b : ReclaimedOf) → Reclaimed a ≡ Reclaimed b → a ≡ b
its_claim a b e = cc

module _ (server : ServerId) (begun : List Doing) (y : Tables) where
  -- what is said at once can be, and is noted
  pub record AreSaid (sent : List Message) : Type 0 where
    pub stands : Stands (appended (sending sent) begun) y
    pub mute : AreMute server begun sent
    pub early : EachInTurn (IsEarly server) (sending sent) begun
    pub once : EachOnce sent
    pub answered : AnsweredStand (appended (sending sent) begun) y.recovering.answers
    pub told : (n : Message) (r : ReclaimedOf) → In n sent → n.body ≡ Reclaimed r
        → HasReclaimed begun n.host ⊎ (IsLive begun n.host → ⊥)

  module _ (s : Stands begun y) where
    pub none_said : AnsweredStand begun y.recovering.answers → AreSaid []
    none_said answers = record {
      stands = s;
      mute = record { brings = λ n i. elim i [ ]; decides = λ n i. elim i [ ] };
      early = tt;
      once = tt;
      answered = answers;
      told = λ n r i. elim i [ ];
    }

    -- it brings no token and decides nothing
    module _ (h : HostId) (b : Body) (blank : IsBlank b) (of : IsWordOf server begun h 0 b)
        (told : (r : ReclaimedOf) → b ≡ Reclaimed r → HasReclaimed begun h ⊎ (IsLive begun h → ⊥)) where
      abbrev w : Message
      w = word y h b

      quiet_word : IsStill y.server y.stamp begun (as_sent w)
      quiet_word = idle y.server y.stamp begun (as_sent w) (says h y.hosts.epoch 0 b (blank_word b blank))
          (up_to begun h y.hosts.epoch 0 b s.hosts.epoch_is)

      brings_none : (t : Token) (k : StayStamp) → Issues (as_sent w) t k → ⊥
      brings_none t k i = elim i.3 [
        | inl q ↦ (let p = q.1 in blank.grant q.0 (cc))
        | inr q ↦ (let p = q.1 in blank.done q.0 (cc))
      ]

      decides_none : (k : HostId) (r : Request) → Decides (as_sent w) k r → ⊥
      decides_none k (Asks f) d = let p = d.3 in blank.grant d.2 (cc)
      decides_none k (Changes f) (inl d) = let p = d.1 in cc
      decides_none k (Changes f) (inr d) = let p = d.3 in blank.done d.2 (cc)

      one : (n : Message) → In n (w ∷ []) → n ≡ w
      one n (inl e) = e
      one n (inr i) = elim i [ ]

      -- once what it answers is noted
      pub word_said : AnsweredStand (as_sent w ∷ begun) y.recovering.answers → AreSaid (w ∷ [])
      word_said after = record {
        stands = still begun (as_sent w) y quiet_word s;
        mute = record {
          brings = λ n i t k o. brings_none t k (subst (λ (q : Message). Issues (as_sent q) t k) (one n i) o);
          decides = λ n i v u o. decides_none v.host v.request
              (subst (λ (q : Message). Decides (as_sent q) v.host v.request) (one n i) o);
        };
        early = (inl (h, 0, b, ap (λ (e : ℕ). Sent h e 0 b) s.hosts.epoch_is, of), tt);
        once = ((λ i. i), tt);
        answered = after;
        told = λ n r i e.
            subst (λ (q : Message). HasReclaimed begun q.host ⊎ (IsLive begun q.host → ⊥)) (sym (one n i))
            (told r (ap (λ (q : Message). q.body) (sym (one n i)) ∙ e));
      }

      pub one_said : AnsweredStand begun y.recovering.answers → AreSaid (w ∷ [])
      one_said answers = word_said (answered_still begun (as_sent w) quiet_word.hosts answers)

-- # The start of a step

module _ (server : ServerId) (tree : Tree) (past : List Doing) (m : Message) where
  abbrev pub begun : List Doing
  begun = Took m.host m.epoch m.moves m.body ∷ past

  -- what its cause owes
  pub record AreCaused (base : List Applied) (sent : List Message) : Type 0 where
    pub given : (s : Step) → s.cause ≡ Came m → (h : HostId) (g : Give) → FirstGiven server past s h g
        → base ≡ stored_of tree h g ++ ended_by h g
    pub down : (s : Step) → s.cause ≡ Came m → (h : HostId) → FirstDown past s h → base ≡ GoesDown h ∷ []
    pub else_none : (s : Step) → s.cause ≡ Came m → ((h : HostId) (g : Give) → FirstGiven server past s h g → ⊥)
        → ((h : HostId) → FirstDown past s h → ⊥) → base ≡ []
    pub at_once : (s : Step) → s.cause ≡ Came m → SaysAtOnce server past s sent
    pub never : (h : HostId) (n : ℕ) (claim : ReclaimOf) → TookNow begun h n (Reclaim claim)
        → (HasReclaimed past h → ⊥) → HasReclaimed begun h → ⊥

  -- what the tables and the store are then
  pub record IsOnset (base : List Applied) (y : Tables) (st : StoreState) : Type 0 where
    pub server_is : y.server ≡ server
    pub none : deciding base ≡ []
    pub undone : (v : Written) → In (IsDone v) base → ⊥
    pub served : IsServed y st
    pub keeps : StandsFor (filesets_through (Came m) base tree) st
    pub kept_homes : are_home (filesets_through (Came m) base tree) ≡ true
    pub below : GivesBelow (last_give y.gives) st
    pub epoch : st.epoch ≡ y.hosts.epoch
    pub listed : EachOnce y.hosts.listed
    pub known : (h : HostId) → In h y.hosts.listed → IsHost y.roster h
    pub gives : AreLast y.gives
    pub changes : AreLastChanges y.changes
    pub enters : (p : Pending) (c : ChangeOf) → In p y.pending → p.wanted.request ≡ Changes c → c.enter ≡ true
        → p.wanted.needs ≡ []
    pub tokens : (t : Token) → In t (tokens_of y.tokens.grants) → is_of y.server t.fid.fileset ≡ true
    pub waits : (c : Claimed) → In c y.recovering.claims → (HasReclaimed begun c.host → ⊥) × IsLive begun c.host
    pub queued : (p : Pending) → In p y.pending → IsQueued past p.wanted

  -- nothing new was asked
  abbrev pub NoneNew : Type 0
  NoneNew = (s : Step) → s.cause ≡ Came m → (h : HostId) (n : ℕ) (r : Request)
      → IsNewRequest server past (after_cause s.cause past) s h n r → ⊥

  module _ (base : List Applied) (y : Tables) (st : StoreState) (sent : List Message) (o : IsOnset base y st)
      (said : AreSaid server begun y sent) (c : AreCaused base sent) (told : AreTold server past) where
    abbrev drafted : Draft
    drafted = record no_draft { applied = base; sent = sent }

    pub begins : NoneNew → HasBegun server (Came m) tree past (making y drafted st)
    begins none_new = record {
      base = base;
      held = record {
        more = [];
        deciding = record {
          server_is = o.server_is;
          applied = sym (append_nothing base);
          admitted = refl;
          stands = subst (λ (l : List Doing). Stands (appended (sending sent) (appended l begun)) y) (sym o.none)
              said.stands;
          mute = subst (λ (l : List Doing). AreMute server (appended l begun) sent) (sym o.none) said.mute;
          none = o.none;
          all = refl;
          writes = subst (λ (l : List Doing). EachInTurn (ServerTokens server) l begun) (sym o.none) tt;
          may = λ s e. tt;
        };
        served = o.served;
        stored = record { keeps = o.keeps; homes = o.kept_homes; taken = o.below; epoch = o.epoch };
        listed = o.listed;
        gives = o.gives;
        changes = o.changes;
        enters = o.enters;
        tokens = o.tokens;
        answered = subst (λ (l : List Doing). AnsweredStand (appended (sending sent) (appended l begun))
            y.recovering.answers) (sym o.none) said.answered;
        early = subst (λ (l : List Doing). EachInTurn (IsEarly server) (sending sent) (appended l begun)) (sym o.none)
            said.early;
        once = said.once;
        waits = o.waits;
        told = said.told;
      };
      plain = record {
        line = λ n e. cc;
        restart = λ n e. cc;
        lapse = λ e. cc;
        evict = λ e. cc;
        end = λ e. cc;
      };
      told = told;
      known = o.known;
      undone = o.undone;
      origin = λ p k i is. inr (p.wanted, o.queued p i, refl, is);
      given = c.given;
      down = c.down;
      else_none = c.else_none;
      at_once = c.at_once;
      news = λ s e h n r q. absurd (none_new s e h n r q);
      fresh = λ s e p i q. absurd (none_new s e p.wanted.host p.wanted.moves p.wanted.request q);
      never = c.never;
    }
      where
        append_nothing : (l : List Applied) → l ++ [] ≡ l
        append_nothing [] = refl
        append_nothing (x ∷ xs) = ap (λ (k : List Applied). x ∷ k) (append_nothing xs)

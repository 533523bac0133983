-- What is left to be decided is, in a step of its own: the step meets the rules, and the tables stand for it.
use Rattle.std.proofs.Common.{◌≡◌, ℕ, Bool, List, [], inr, refl, sym, ◌∙◌, subst}
use Rattle.std.specs.Prelude.{Err, IfOk, Ok, OnOk, Result}
use Rattle.base_types.specs.declared.ids.HostId.{HostId}
use Rattle.base_types.specs.declared.ids.ServerId.{ServerId}
use Rattle.tree_answers.specs.declared.tree.Tree.{Tree}
use Rattle.message_types.specs.declared.message.Body.{Body}
use Rattle.run_rules.specs.Doings.{Doing, HeardNow, TakenNow}
use Rattle.run_rules.specs.Doings.Doing.{Flushes}
use Rattle.run_rules.specs.Kept.{filesets_kept}
use Rattle.run_rules.specs.declared.step.Cause.TheVariants.{Flushed, Message as Came}
use Rattle.run_rules.specs.declared.step.Step.{Step}
use Rattle.store_state.specs.declared.state.StoreState.{StoreState}
use Rattle.server_decides.specs.ExporterFault.{ExporterFault}
use Rattle.server_tables.specs.declared.tables.Tables.{Tables}
use Rattle.server_tables.proofs.Idle.{flushes_nothing, idle, no_words_flushed}
use Rattle.server_tables.proofs.Still.{IsStill, answered_still, live_still, reclaimed_back, still}
use Rattle.server_decides.specs.Drafts.{no_draft, step_of}
use Rattle.server_decides.specs.Draft.{Draft}
use Rattle.server_decides.specs.Finishing.{IsFinished}
use Rattle.server_decides.specs.Running.{making}
use Rattle.server_decides.specs.Serving.{IsServed}
use Rattle.server_exporter.specs.Machines.{Follows, IsAt, Keeps, Meets}
use Rattle.server_exporter.specs.declared.exporter.Exporter.{Exporter}
use Rattle.server_exporter.proofs.Ending.{ends_follows, ends_meets}
use Rattle.server_exporter.proofs.Onsets.{HasBegun, SaysAtOnce}

-- # All is on the disk, and nothing else came

module _ (s : Step) (e : s.cause ≡ Flushed) where
  unheard : (h : HostId) (b : Body) → HeardNow s h b → ⊥
  unheard h b q = let p : Flushed ≡ Came q.0 = sym e ∙ q.1 in cc

  untaken : (past : List Doing) (h : HostId) (n : ℕ) (b : Body) → TakenNow past s h n b → ⊥
  untaken past h n b q = let p : Flushed ≡ Came q.0.0 = sym e ∙ q.0.1 in cc

  says_none : (server : ServerId) (past : List Doing) → SaysAtOnce server past s []
  says_none server past = record {
    hello_old = λ h f live old. absurd (unheard h _ f);
    hello = λ h f down either. absurd (unheard h _ f);
    bye = λ h f down either. absurd (unheard h _ f);
    late = λ h n is host live other hello down. absurd (let p : Flushed ≡ Came n = sym e ∙ is in cc);
    restarted_only = λ h w. elim w.1 [ ];
    gone = λ h n g t here. absurd (untaken past h n _ t);
    gone_only = λ h n w. elim w.1 [ ];
    claim_again = λ h n c t r. absurd (untaken past h n _ t);
    bye_only = λ h w. elim w.1 [ ];
    reclaimed_only = λ h a w. elim w.1 [ ];
    repeats = λ h n c d t here f k last done. absurd (untaken past h n _ t);
    dones_only = λ h d w. elim w.1 [ ];
    no_grant = λ h g w. elim w.1 [ ];
    no_revoke = λ h r w. elim w.1 [ ];
  }

module _ (tree : Tree) (past : List Doing) (x : Exporter) (z : IsAt past tree x) (st : StoreState)
    (k : Keeps x.tables tree st) (served : IsServed x.tables st) where
  abbrev t : Tables
  t = x.tables

  rests : IsStill t.server t.stamp past Flushes
  rests = idle t.server t.stamp past Flushes flushes_nothing (no_words_flushed past)

  pub flushed_begins : HasBegun t.server Flushed tree past (making t no_draft st)
  flushed_begins = record {
    base = [];
    held = record {
      more = [];
      deciding = record {
        server_is = refl;
        applied = refl;
        admitted = refl;
        stands = still past Flushes t rests z.tables;
        mute = record { brings = λ n i. elim i [ ]; decides = λ n i. elim i [ ] };
        none = refl;
        all = refl;
        writes = tt;
        may = λ s e. tt;
      };
      served = served;
      stored = record { keeps = k.stands; homes = k.homes; taken = k.taken; epoch = k.epoch };
      listed = z.once;
      gives = z.gives;
      changes = z.changes;
      enters = z.enters;
      tokens = z.homes;
      answered = answered_still past Flushes rests.hosts z.answered;
      early = tt;
      once = tt;
      waits = λ d i. (let w = z.claims d i in (
        (λ r. w.0 (reclaimed_back past Flushes rests.hosts d.host r)),
        live_still past Flushes rests.hosts.calm d.host w.1,
      ));
      told = λ n r i. elim i [ ];
    };
    plain = record {
      line = λ n e. cc;
      restart = λ n e. cc;
      lapse = λ e. cc;
      evict = λ e. cc;
      end = λ e. cc;
    };
    told = z.told;
    known = z.known;
    undone = λ v i. elim i [ ];
    origin = λ p o i is. inr (p.wanted, z.tables.wants.pending p i, refl, is);
    given = λ s e h g f. absurd (untaken s e past h f.0.0 _ f.0.1);
    down = λ s e h f. absurd (unheard s e h _ f.0);
    else_none = λ s e a b. refl;
    at_once = λ s e. says_none s e t.server past;
    news = λ s e h n r q. absurd (untaken s e past h n _ q.taken);
    fresh = λ s e p i q. absurd (untaken s e past p.wanted.host p.wanted.moves _ q.taken);
    never = λ h n claim took never r. never (reclaimed_back past Flushes rests.hosts h r);
  }

-- # The step

module _ (x : Exporter) (y : Tables) (e : Draft) (st next : StoreState) (s : Step)
    (is : s ≡ step_of x.tables.server Flushed e) (served : IsServed x.tables st) (after : IsServed y next) (b : Bool)
    (f : IsFinished x.tables no_draft st y e next b) where
  settled_meets : Meets st x s
  unfolding Meets
  settled_meets = subst (Meets st x) (sym is) (λ script start steps past z k.
      ends_meets start x.tables.server steps past Flushed (making x.tables no_draft st) y e next b
      (flushed_begins (filesets_kept start x.tables.server steps) past x z st k served) f after script)

  settled_follows : Follows st x s next (record { tables = y; rested = b })
  unfolding Follows
  settled_follows = subst (λ (u : Step). Follows st x u next (record { tables = y; rested = b })) (sym is)
      (λ start steps past z k. ends_follows start x.tables.server steps past Flushed
      (making x.tables no_draft st) y e next
      b (flushed_begins (filesets_kept start x.tables.server steps) past x z st k served) f after)

pub settle_meets : (made : Result Bool ExporterFault) (x : Exporter) (y : Tables) (d e : Draft) (st next : StoreState)
    (s : Step) → d ≡ no_draft → s ≡ step_of x.tables.server Flushed e → IsServed x.tables st
    → IfOk made (IsFinished x.tables d st y e next) → OnOk made (IsServed y next) → OnOk made (Meets st x s)
settle_meets (Err error) x y d e st next s none is served f after = tt
settle_meets (Ok b) x y d e st next s none is served f after =
    settled_meets x y e st next s is served after b
    (subst (λ (a : Draft). IsFinished x.tables a st y e next b) none f)

pub settle_follows : (made : Result Bool ExporterFault) (x : Exporter) (y : Tables) (rested : Bool) (d e : Draft)
    (st next : StoreState) (s : Step) → d ≡ no_draft → s ≡ step_of x.tables.server Flushed e → IsServed x.tables st
    → IfOk made (IsFinished x.tables d st y e next) → OnOk made (IsServed y next) → IfOk made (λ b. rested ≡ b)
    → OnOk made (Follows st x s next (record { tables = y; rested = rested }))
settle_follows (Err error) x y rested d e st next s none is served f after r = tt
settle_follows (Ok b) x y rested d e st next s none is served f after r =
    subst (λ (q : Bool). Follows st x s next (record { tables = y; rested = q })) (sym r)
    (settled_follows x y e st next s is served after b
    (subst (λ (a : Draft). IsFinished x.tables a st y e next b) none f))

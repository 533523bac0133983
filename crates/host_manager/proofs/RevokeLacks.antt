-- A Revoke comes while a call is open and nothing is asked for it, and the call lacks a token that is news: the host
-- asks
-- for that in the same step, or greets its server.
use Rattle.base_types.specs.declared.ids.Fid.{Fid}
use Rattle.base_types.specs.declared.ids.FilesetId.{FilesetId}
use Rattle.base_types.specs.declared.ids.Node.TheVariants.{Host}
use Rattle.base_types.specs.declared.ids.ServerId.{ServerId}
use Rattle.host_asks.specs.Asking.{next_change}
use Rattle.host_cache.specs.Holding.{tokens_of}
use Rattle.host_gives.specs.Giving.{Giving, is_of_file, outstanding}
use Rattle.host_leaves.specs.Sending.{message_to, sending_due, sending_give}
use Rattle.host_manager.proofs.Folding.{OnlySends, fold_keeps, fold_only, fold_said, fold_says, giving_keeps}
use Rattle.host_manager.proofs.Folding.{giving_only, giving_said, giving_says}
use Rattle.host_manager.proofs.Homely.{lack_declared, lack_used}
use Rattle.host_tables.proofs.Lists.{by_test, in_either, in_left, in_right, true_false}
use Rattle.host_tables.proofs.Moving.{change_moves_right, fetch_moves_right, request_moves_right}
use Rattle.host_tables.proofs.Resting.{lack_rests}
use Rattle.host_tables.proofs.Tidy.{again_sound, change_sound, fetch_sound, tidy_stays}
use Rattle.host_tables.specs.Asking.{FetchFrom}
use Rattle.host_tables.specs.Drafts.{no_draft, step_of}
use Rattle.host_tables.specs.Giving.{GivesBack}
use Rattle.host_tables.specs.Half.{half}
use Rattle.host_tables.specs.LeavingSteps.{LeavesRight, Left, with_left}
use Rattle.host_tables.specs.Letting.{Keeping}
use Rattle.host_tables.specs.Machine.{StepRight}
use Rattle.host_tables.specs.Moving.{IsNoRequest, SendsChangeNew, SendsFetchNew}
use Rattle.host_tables.specs.Quiet.{with_moved}
use Rattle.host_tables.specs.RevokeSteps.{Raises, RevokeCounts, SaysRevoked}
use Rattle.host_tables.specs.Revoking.{InUseHere}
use Rattle.host_manager.specs.Running.{IsRunning, RunsOn}
use Rattle.host_tables.specs.Saying.{IsFirst}
use Rattle.host_tables.specs.Saying.SaysAgain.{OfHello}
use Rattle.host_tables.specs.Sending.{MaySend}
use Rattle.host_tables.specs.Stands.{IsLack, IsWaiting, LostStands, NumbersStand, RequestStands, Stands, needs_from}
use Rattle.host_tables.specs.Stands.IsWaiting.{ForDone, ForGrant, ForNeed}
use Rattle.host_tables.specs.Tables.{last_fetch, own_of, site_at}
use Rattle.host_tables.specs.Tidy.{IsTidy, IsTidyChange, IsTidyFetch, servers_in}
use Rattle.host_tables.specs.Updates.{home_at, with_change, with_fetch}
use Rattle.host_tables.specs.WholeSteps.{moved_of}
use Rattle.host_tables.specs.declared.calls.Request.{Request}
use Rattle.host_tables.specs.declared.draft.Draft.{Draft}
use Rattle.host_tables.specs.declared.files.Floor.{Floor}
use Rattle.host_tables.specs.declared.numbers.Changed.{Changed}
use Rattle.host_tables.specs.declared.numbers.Fetched.{Fetched}
use Rattle.host_tables.specs.declared.sites.Site.{Site}
use Rattle.host_tables.specs.declared.tables.Tables.{Tables}
use Rattle.message_types.specs.Soundness.{HasRoom, IsServer, IsShort}
use Rattle.message_types.specs.declared.giving.Give.{Give}
use Rattle.message_types.specs.declared.message.Body.{Body}
use Rattle.message_types.specs.declared.message.Direction.TheVariants.{ToServer}
use Rattle.message_types.specs.declared.message.Message.{Message}
use Rattle.need_host.proofs.Looking.{lacks_are_first}
use Rattle.need_host.specs.Looks.{CoverAll}
use Rattle.need_host.specs.Questions.Question.{ChangeIn}
use Rattle.run_rules.specs.HostAsks.{FirstLack, HasLost}
use Rattle.run_rules.specs.Messages.{HasGreeted, IsWelcome, Says, Sends, SendsTo, Stay, home, stay_of}
use Rattle.run_rules.specs.Past.{In}
use Rattle.run_rules.specs.Tokens.{IsUseKind}
use Rattle.run_rules.specs.Views.{Stance}
use Rattle.run_rules.specs.declared.applied.Leave.{Leave}
use Rattle.run_rules.specs.declared.step.Asked.{Asked}
use Rattle.run_rules.specs.declared.step.Labelled.{Labelled}
use Rattle.run_rules.specs.declared.step.Step.{Step}
use Rattle.script_lines.specs.declared.script.Script.{Script}
use Rattle.std.proofs.Common.{List, None, Option, Some, [], ap, arith, false, fold, inl, inr, refl, subst, sym, true}
use Rattle.std.proofs.Common.{ℕ, ◌++◌, ◌+◌, ◌↔◌, ◌∙◌, ◌∷◌, ◌≡◌, ◌⊎◌}
use Rattle.std.specs.List.{list_any}
use Rattle.token_types.specs.declared.token.Need.{Need}
use Rattle.host_manager.proofs.RevokeAsks as asks_of
use Rattle.host_manager.proofs.RevokeFresh.{lack_there, new_change, new_fetch}
use Rattle.host_manager.proofs.RevokeMore.{IsBeside, due_more, gives_more, keeping_more, right_more}
use Rattle.host_manager.proofs.TurnOpens.{IsAsked, KeepsSites, change_counts, hello_at, hello_kept, hello_sites}
use Rattle.host_manager.proofs.Opened.{asked_plain, fetch_counts, used_decides}
use Rattle.host_manager.proofs.Running.{gone_on, runs_on}
use Rattle.host_tables.specs.Letting.{IsAsked as AsksNow}
use Rattle.host_tables.specs.Revoking.{revokes, revoking}
use Rattle.run_rules.specs.declared.applied.Why.TheVariants.{Revoked}
use Rattle.run_rules.specs.declared.step.Cause.TheVariants.{Message as Came}
use Rattle.message_types.specs.declared.message.Body.TheVariants.{Bye, Change, Fetch, GiveBack, Hello}
use Rattle.message_types.specs.declared.asking.Fetch.{Fetch as FetchOf}
use Rattle.message_types.specs.declared.asking.Change.{Change as ChangeOf}
use Rattle.host_tables.specs.declared.calls.Request.TheVariants.{Change as AChange, Fetch as AFetch}
use Rattle.message_types.specs.declared.tokens.Revoke.{Revoke as RevokeOf}
use Rattle.host_tables.specs.RevokeSteps.SaysRevoked.{BackGiven, BackKept, BackReturned}
use Rattle.run_rules.specs.Messages.{HasSaid}
use Rattle.message_types.specs.Soundness.{IsSound}
use Rattle.host_tables.proofs.Ending as ending
use Rattle.run_rules.specs.Tokens.{IsOpen}
use Rattle.host_tables.proofs.Declared.{home_is}

module _ (script : Script) (old : Tables) (past : List Step) (server : ServerId) (epoch : ℕ) (r : RevokeOf)
    (made : List Give) (dropped : List Leave) (told : List Message) (dues : List FilesetId) (floors : List Floor)
    (l : Left) (lost : List Fid) (running : IsRunning script old past) (c : Asked) (open_is : old.call ≡ Some c)
    (idle : old.request ≡ None) (counts : RevokeCounts old past server epoch 0 r)
    (raised : Raises old.floors floors r) where
  abbrev m : Tables
  m = record old { floors = floors }

  -- the tables once tokens have left, and the step in the making, with one thing more or none
  abbrev pub x : Tables
  x = record (with_left m l) { lost = lost }

  abbrev pub start : List Message → Draft
  start own = record no_draft { made = made; dropped = dropped; sent = told ++ own; due = dues }

  abbrev pub sent_by : Tables → List Message → List Message
  sent_by z own = (fold (sending_give z) (start own) dues).sent

  abbrev pub plain : Draft
  plain = record no_draft { made = made; dropped = dropped; sent = told; due = dues }

  abbrev pub sent_0 : List Message
  sent_0 = (fold (sending_give x) plain dues).sent

  abbrev pub s_0 : Step
  s_0 = revokes old.host server epoch 0 r made dropped sent_0

  abbrev pub Goal : Tables → Draft → Type 0
  Goal z d = RunsOn script old z past
      (step_of (Host old.host) (Came (revoking old.host server epoch 0 r)) (sending_due z d))

  stands : Stands script old past
  stands = running.rests.stands

  no_bye : (v : ServerId) → HasSaid past v Bye → ⊥
  no_bye v b = let p = sym open_is ∙ (stands.parted v b).none_open in cc

  only_open : (s : Step) → s.asked ≡ None → (d : Asked) → IsOpen (s ∷ past) d → c ≡ d
  only_open s none d (inl e) = let p = sym none ∙ e in absurd (cc)
  only_open s none d (inr o) = let p : Some c ≡ Some d = sym open_is ∙ stands.call.asked d o.0 in cc

  -- # The same give-backs are sent by tables that differ in what is asked and greeted
  module _ (z : Tables) (host_z : z.host ≡ old.host) (gives_z : z.gives ≡ l.gives)
      (epochs : (v : ServerId) → (site_at z.sites v).epoch ≡ (site_at old.sites v).epoch) (y : Message) where
    same_message : (v : ServerId) (b : Body) → message_to z v b ≡ message_to x v b
    same_message v b i = record {
      direction = ToServer;
      host = host_z i;
      server = v;
      epoch = epochs v i;
      moves = 0;
      body = b;
    }

    only : OnlySends (start (y ∷ [])) (fold (sending_give z) (start (y ∷ [])) dues)
    only = fold_only (sending_give z) (λ d fs. giving_only z d fs) (start (y ∷ [])) dues

    abbrev P : Tables → FilesetId → Message → Type 0
    P n fs w = (o : Message) × (outstanding n.gives fs ≡ Some o) × (w ≡ message_to n (home_at fs) o.body)

    from : (w : Message) → In w (sent_by z (y ∷ [])) → In w sent_0 ⊎ (w ≡ y)
    from w i = elim (fold_says (sending_give z) (P z) (λ d fs v j. giving_says z d fs v j) (start (y ∷ [])) dues w i) [
      | inl j ↦ elim (in_either told (y ∷ []) w j) [
        | inl k ↦ inl (fold_keeps (sending_give x) (λ d fs v q. giving_keeps x d fs v q) plain dues w k)
        | inr k ↦ elim k [ inl e ↦ inr e | inr n ↦ elim n [ ] ]
      ]
      | inr q ↦
          let e = sym (ap (λ (g : Giving). outstanding g q.0) gives_z) ∙ q.2.1 in
          inl (subst (λ (v : Message). In v sent_0) (sym (q.2.2 ∙ same_message (home_at q.0) q.2.0.body))
          (fold_said (sending_give x) (λ d fs v j. giving_keeps x d fs v j) q.0
          (message_to x (home_at q.0) q.2.0.body) (λ d. giving_said x d q.0 q.2.0 e) plain dues q.1))
    ]

    keeps : (w : Message) → In w sent_0 → In w (sent_by z (y ∷ []))
    keeps w i = elim (fold_says (sending_give x) (P x) (λ d fs v j. giving_says x d fs v j) plain dues w i) [
      | inl j ↦ fold_keeps (sending_give z) (λ d fs v q. giving_keeps z d fs v q) (start (y ∷ [])) dues w
          (in_left told (y ∷ []) w j)
      | inr q ↦
          let e = ap (λ (g : Giving). outstanding g q.0) gives_z ∙ q.2.1 in
          subst (λ (v : Message). In v (sent_by z (y ∷ []))) (sym (q.2.2 ∙ sym (same_message (home_at q.0) q.2.0.body)))
          (fold_said (sending_give z) (λ d fs v j. giving_keeps z d fs v j) q.0
          (message_to z (home_at q.0) q.2.0.body) (λ d. giving_said z d q.0 q.2.0 e) (start (y ∷ [])) dues q.1)
    ]

    there : In y (sent_by z (y ∷ []))
    there = fold_keeps (sending_give z) (λ d fs v q. giving_keeps z d fs v q) (start (y ∷ [])) dues y
        (in_right told (y ∷ []) y (inl refl))

    by_code : RunsOn script old z past (revokes old.host server epoch 0 r made dropped (sent_by z (y ∷ [])))
        → Goal z (start (y ∷ []))
    by_code runs = subst (RunsOn script old z past)
        (sym (ap (step_of (Host old.host) (Came (revoking old.host server epoch 0 r))) only)) runs

  -- # What is known of the step with the answers alone
  module _ (labels_same : l.uses.labels ≡ old.uses.labels) (ending_same : l.ending ≡ old.ending)
      (tidy_x : IsTidy script.roster x) (right : LeavesRight m l past s_0)
      (keeping : Keeping m past s_0 (tokens_of l.cache.held)) (gives : GivesBack m past s_0 (tokens_of l.cache.held))
      (why : (d : Leave) → In d dropped → (d.why ≡ Revoked) × In d.token.id r.ids × (InUseHere old d.token.id → ⊥))
      (says : (y : Message) → In y sent_0 → (y.epoch ≡ (site_at old.sites y.server).epoch) × (y.moves ≡ 0)
      × SaysRevoked old l r made y.server y.body)
      (due : (g : Give) → IsFirst l.gives g → (IsFirst old.gives g → ⊥)
      → SendsTo s_0 (stay_of (s_0 ∷ past) g.fid.fileset) (GiveBack g))
      (loses : LostStands lost old.call (s_0 ∷ past))
      (sound_0 : (y : Message) → In y sent_0 → IsSound script.roster y) (need : Need) (lack : IsLack x c.call need)
    where
      none_end : (u : Labelled) → old.ending ≡ Some u → ⊥
      none_end u e =
          let k = running.ending u e in
          let p : Some c ≡ Some k.0 = sym open_is ∙ k.1 in
          let same : c ≡ k.0 = cc in
          (lacks_are_first (tokens_of l.cache.held) (needs_from x c.call)).none
          (subst (CoverAll (tokens_of l.cache.held)) (sym (ap (needs_from x) (ap (λ (z : Asked). z.call) same ∙ k.2)
          ∙ ending.end_needs x u)) tt) need lack

      abbrev fs : FilesetId
      fs = need.fid.fileset

      pub at_home : IsServer script.roster (home fs)
      at_home = lack_declared script.roster x tidy_x c.call need lack

      home_same : home_at fs ≡ home fs
      home_same = home_is script.roster old running.tidy fs at_home

      abbrev v_n : ServerId
      v_n = home_at fs

      pub declared_n : IsServer script.roster v_n
      declared_n = subst (λ (w : ServerId). IsServer script.roster w) (sym home_same) at_home

      -- # One thing more is said
      module _ (v : ServerId) (b : Body) (plain_b : IsAsked b) (beside : IsBeside b) (sites : List Site)
          (request : Option Request) (fetched : List Fetched) (changed : List Changed) (kept : KeepsSites old sites)
        where
          abbrev y : Message
          y = message_to x v b

          abbrev z : Tables
          z = with_moved (with_left m l) (record {
            sites = sites;
            request = request;
            fetched = fetched;
            changed = changed;
            lost = lost;
            call = old.call;
            begun = old.begun;
          })

          abbrev sent_1 : List Message
          sent_1 = sent_by z (y ∷ [])

          abbrev s_1 : Step
          s_1 = revokes old.host server epoch 0 r made dropped sent_1

          beside_from : (w : Message) → In w sent_1 → In w sent_0 ⊎ IsBeside w.body
          beside_from w i = elim (from z refl refl kept.epoch y w i) [
            | inl j ↦ inl j
            | inr e ↦ inr (subst (λ (k : Message). IsBeside k.body) (sym e) beside)
          ]

          asked_y : (w : Message) → In w (y ∷ []) → IsAsked w.body
          asked_y w (inl e) = subst (λ (k : Message). IsAsked k.body) (sym e) plain_b
          asked_y w (inr n) = elim n [ ]

          abbrev keeps_1 : (w : Message) → In w sent_0 → In w sent_1
          keeps_1 w i = keeps z refl refl kept.epoch y w i

          learnt : Stands script m (half s_1 ∷ past)
          learnt = asks_of.learnt script old past server epoch r made dropped sent_1 (y ∷ []) floors l lost
              running.rests
              counts raised asked_y

          right_1 : LeavesRight m l past s_1
          right_1 = right_more old.host server epoch r made dropped sent_0 sent_1 past keeps_1 beside_from m l right

          keeping_1 : Keeping m past s_1 (tokens_of l.cache.held)
          keeping_1 = keeping_more old.host server epoch r made dropped sent_0 sent_1 past keeps_1 beside_from m l
              (tokens_of l.cache.held) keeping

          gives_1 : GivesBack m past s_1 (tokens_of l.cache.held)
          gives_1 = gives_more old.host server epoch r made dropped sent_0 sent_1 past keeps_1 beside_from m l
              (tokens_of l.cache.held) gives

          said_1 : (w : Message) → In w sent_1 → ((w.epoch ≡ (site_at old.sites w.server).epoch) × (w.moves ≡ 0)
              × SaysRevoked old l r made w.server w.body) ⊎ In w (y ∷ [])
          said_1 w i = elim (from z refl refl kept.epoch y w i) [ inl j ↦ inl (says w j) | inr e ↦ inr (inl e) ]

          pub y_said : Sends s_1 v (site_at old.sites v).epoch 0 b
          y_said = (y, there z refl refl kept.epoch y, refl, refl, refl, refl)

          -- the only Hello, Fetch or Change
          pub only_asked : (w : ServerId) (e n : ℕ) (d : Body) → IsAsked d → Sends s_1 w e n d → (v ≡ w) × (b ≡ d)
          only_asked w e n d a p = elim (from z refl refl kept.epoch y p.0 p.1) [
            | inl i ↦ absurd (no_answer p.0.server p.0.body d a p.5 (says p.0 i).2)
            | inr q ↦ (ap (λ (k : Message). k.server) (sym q) ∙ p.2, ap (λ (k : Message). k.body) (sym q) ∙ p.5)
          ]
            where
              no_answer : (w : ServerId) (o d : Body) → IsAsked d → o ≡ d → SaysRevoked old l r made w o → ⊥
              no_answer w o d a e (BackReturned k at ok file) = subst IsAsked (sym e) a
              no_answer w o d a e (BackKept k at ok file) = subst IsAsked (sym e) a
              no_answer w o d a e (BackGiven g one at) = subst IsAsked (sym e) a

          pub no_request : (w : Message) → In w sent_1 → ((w.server ≡ v) × (w.body ≡ b)) ⊎ IsNoRequest w.body
          no_request w i = elim (from z refl refl kept.epoch y w i) [
            | inl j ↦ inr (answer w.server w.body (says w j).2)
            | inr e ↦ inl (ap (λ (k : Message). k.server) e, ap (λ (k : Message). k.body) e)
          ]
            where
              answer : (w : ServerId) (o : Body) → SaysRevoked old l r made w o → IsNoRequest o
              answer w o (BackReturned k at ok file) = tt
              answer w o (BackKept k at ok file) = tt
              answer w o (BackGiven g one at) = tt

          lost_is : (fid : Fid) → In fid lost ↔ HasLost (s_1 ∷ past) fid
          lost_is fid = loses c open_is fid

          still_open : IsOpen (s_1 ∷ past) c
          still_open = elim (learnt.call.is_open c open_is) [
            | inl e ↦ absurd (cc)
            | inr o ↦ inr o
          ]

          -- what the rules say that the call lacks
          abbrev pub Stands_by : Stance script.roster old.host past s_1 → Type 0
          Stands_by stance = (stance.kept ≡ tokens_of l.cache.held) × (stance.own ≡ own_of old)
              × (stance.user ≡ old.user)

          pub lacks : (stance : Stance script.roster old.host past s_1) → Stands_by stance
              → FirstLack script.roster old.host past s_1 stance c.call need
          lacks stance at = lack_there script m l past s_1 learnt right_1 keeping_1 gives_1 refl labels_same
              ending_same lost
              c.call lost_is stance at.0 at.1 at.2 need lack

          module _ (greeted : (w : ServerId) → ((site_at sites w).greeted ≡ true)
              ↔ (((site_at old.sites w).greeted ≡ true) ⊎ Says s_1 w Hello))
              (requests : RequestStands request (s_1 ∷ past) × NumbersStand fetched changed (s_1 ∷ past))
              (may : (stance : Stance script.roster old.host past s_1) → Stands_by stance
              → MaySend script.roster old.host past s_1 stance y)
              (asks : (stance : Stance script.roster old.host past s_1) → Stands_by stance
              → AsksNow script.roster old.host past s_1 stance) (waiting : IsWaiting z (s_1 ∷ past) c.call)
              (servers : servers_in sites ≡ servers_in old.sites)
              (fetch : (f : FetchOf) → request ≡ Some (AFetch f) → IsTidyFetch script.roster f)
              (change : (w : ServerId) (d : ChangeOf) → request ≡ Some (AChange w d) → IsTidyChange script.roster w d)
              (sound_y : IsSound script.roster y) where
            step : StepRight script old z past s_1
            step = asks_of.asks_step script old past server epoch r made dropped sent_1 (y ∷ []) floors l lost
                running.rests
                counts raised asked_y right_1 keeping_1 gives_1 why said_1
                (due_more old.host server epoch r made dropped sent_0 sent_1 past keeps_1 beside_from m l old due)
                loses sites
                request fetched changed kept no_bye greeted requests
                (λ stance k h o u w i. elim i [
                  | inl e ↦ subst (λ (q : Message). MaySend script.roster old.host past s_1 stance q) (sym e)
                      (may stance (k, o, u))
                  | inr n ↦ elim n [ ]
                ]) (λ stance k h o u. asks stance (k, o, u))
                (lack_rests z (s_1 ∷ past) c need open_is lack waiting)

            tidy_z : IsTidy script.roster z
            tidy_z = tidy_stays script.roster x z tidy_x (record {
              host_is = refl;
              servers = servers;
              held = λ u i. inl i;
              sizes = λ fid. inl refl;
              leaving = λ k i. inl i;
              gives = λ k g i e. inl i;
              fetch = λ f e. inr (fetch f e);
              change = λ w d e. inr (change w d e);
              call = λ d e. inl e;
              homes = λ k i. inl i;
              floors = λ f i. inl i;
            })

            pub said_runs : Goal z (start (y ∷ []))
            said_runs = by_code z refl refl kept.epoch y (runs_on script old z past s_1 step refl tidy_z
                (λ u e. absurd (none_end u (sym ending_same ∙ e)))
                (λ d e busy. let p : Some c ≡ Some d = sym open_is ∙ e in let same : c ≡ d = cc in
                inl (need, subst (λ (k : Asked). IsLack z k.call need) same lack))
                (λ v e. gone_on script old past s_1 running refl v (sym (kept.said_bye v) ∙ e))
                (λ w i. elim (from z refl refl kept.epoch y w i) [
                  | inl j ↦ sound_0 w j
                  | inr e ↦ subst (IsSound script.roster) (sym e) sound_y
                ]))

      -- # A Change for the token of a use
      abbrev d_n : ChangeOf
      d_n = next_change x v_n fs need.fid false c.k c.call

      kept_all : KeepsSites old old.sites
      kept_all = record {
        epoch = λ w. refl;
        welcome = λ w. refl;
        has_bye = λ w. refl;
        said_bye = λ w. refl;
        claimed = λ w. refl;
        servers = refl;
      }

      module _ (kind : IsUseKind need.kind) (welcome : (site_at old.sites v_n).welcome ≡ true) where
        abbrev counted : List Changed
        counted = with_change v_n fs d_n.number old.changed

        abbrev s_c : Step
        s_c = s_1 v_n (Change d_n) tt tt old.sites (Some (AChange v_n d_n)) old.fetched counted kept_all

        learnt_c : Stands script m (half s_c ∷ past)
        learnt_c = learnt v_n (Change d_n) tt tt old.sites (Some (AChange v_n d_n)) old.fetched counted kept_all

        sends_c : SendsChangeNew m past s_c v_n d_n
        sends_c = record {
          idle = idle;
          there = (
            (site_at old.sites v_n).epoch,
            0,
            y_said v_n (Change d_n) tt tt old.sites (Some (AChange v_n d_n)) old.fetched counted kept_all,
          );
          only = no_request v_n (Change d_n) tt tt old.sites (Some (AChange v_n d_n)) old.fetched counted kept_all;
          number = refl;
          decided = inr (ap (λ (w : ServerId). let stay : Stay = record { server = w; moves = 0 } in stay)
              (sym home_same));
          welcome = welcome;
          fresh = λ e comes same n. elim comes [
            | inl p ↦ absurd (let q = p.1.1 in let o : revoking old.host server epoch 0 r ≡ p.1.0 = cc in
                let k = ap (λ (w : Message). w.body) o ∙ p.1.5 in cc)
            | inr p ↦ absurd (let q = p.1 in let o : revoking old.host server epoch 0 r ≡ p.0 = cc in
                let k = ap (λ (w : Message). w.body) o ∙ p.5 in cc)
          ];
          enters = λ w name t of. absurd (cc);
        }

        requests_c : RequestStands (Some (AChange v_n d_n)) (s_c ∷ past) × NumbersStand old.fetched counted (s_c ∷ past)
        requests_c = change_moves_right script m past s_c v_n d_n counted learnt_c sends_c
            (change_counts old.changed v_n d_n refl)

        tidy_d : IsTidyChange script.roster v_n d_n
        tidy_d = record {
          from = omega arith;
          declared = declared_n;
          numbered = inr (sym home_same);
          call = running.tidy.call c open_is;
          decided = inr (used_decides c.call (lack_used script.roster x tidy_x c.call need lack kind) v_n);
        }

        pub change_runs : Goal (record x { changed = counted; request = Some (AChange v_n d_n) })
            (start (message_to x v_n (Change d_n) ∷ []))
        change_runs = said_runs v_n (Change d_n) tt tt old.sites (Some (AChange v_n d_n)) old.fetched counted kept_all
            (λ w. (
              (λ e. inl e),
              λ q. elim q [
                | inl e ↦ e
                | inr p ↦ absurd (let o = (only_asked v_n (Change d_n) tt tt old.sites (Some (AChange v_n d_n))
                    old.fetched
                    counted kept_all w p.0 p.1 Hello tt p.2).1 in cc)
              ],
            )) requests_c
            (λ stance at. record {
              epoch_is = (learnt_c.sites v_n).epoch;
              says = new_change script m l past s_c learnt_c
                  (right_1 v_n (Change d_n) tt tt old.sites (Some (AChange v_n d_n)) old.fetched counted kept_all)
                  (keeping_1 v_n (Change d_n) tt tt old.sites (Some (AChange v_n d_n)) old.fetched counted kept_all)
                  (gives_1 v_n (Change d_n) tt tt old.sites (Some (AChange v_n d_n)) old.fetched counted kept_all) refl
                  labels_same ending_same lost c.call
                  (lost_is v_n (Change d_n) tt tt old.sites (Some (AChange v_n d_n)) old.fetched counted kept_all)
                  stance
                  at.0 at.1 at.2 v_n d_n sends_c refl
                  (still_open v_n (Change d_n) tt tt old.sites (Some (AChange v_n d_n)) old.fetched counted kept_all)
                  (ChangeIn fs) (inr (need, lack, kind, refl, refl)) refl refl
                  (ap (λ (w : ServerId). let stay : Stay = record { server = w; moves = 0 } in stay) (sym home_same))
                  no_bye;
            })
            (λ stance at e o. inr (inl (v_n, d_n.fileset, d_n.number, (requests_c.0.change v_n d_n refl).1)))
            (ForDone v_n d_n refl) refl (λ f e. absurd (cc))
            (λ w d e. let q : (v_n ≡ w) × (d_n ≡ d) = ((cc), (cc)) in
            subst (λ (k : ServerId × ChangeOf). IsTidyChange script.roster k.0 k.1) (λ i. (q.0 i, q.1 i)) tidy_d)
            (change_sound script.roster old (message_to old v_n (Change d_n)) d_n running.tidy
            (record { way = refl; host_is = refl; no_moves = refl; epoch_is = refl }) refl tidy_d)

      -- # A Fetch
      module _ (f : FetchOf) (kind : IsUseKind need.kind → ⊥) (file : f.fid ≡ need.fid)
          (number : f.number ≡ last_fetch old.fetched fs + 1)
          (no_give : list_any (is_of_file need.fid) l.gives.gives ≡ true → ⊥)
          (welcome : (site_at old.sites v_n).welcome ≡ true) (needs : FetchFrom x lost c.call need.fid f.needs)
          (room : (n : Need) → In n f.needs → HasRoom n.kind) (short : IsShort f.needs) where
        abbrev counted_f : List Fetched
        counted_f = with_fetch f.fid.fileset f.number old.fetched

        abbrev v_f : ServerId
        v_f = home f.fid.fileset

        fs_is : f.fid.fileset ≡ fs
        fs_is = ap (λ (k : Fid). k.fileset) file

        from_f : FetchFrom x lost c.call f.fid f.needs
        from_f = subst (λ (k : Fid). FetchFrom x lost c.call k f.needs) (sym file) needs

        number_f : f.number ≡ last_fetch old.fetched f.fid.fileset + 1
        number_f = number ∙ ap (λ (k : FilesetId). last_fetch old.fetched k + 1) (sym fs_is)

        no_give_f : list_any (is_of_file f.fid) l.gives.gives ≡ false
        no_give_f = elim (by_test (list_any (is_of_file f.fid) l.gives.gives)) [
          | inr n ↦ n
          | inl t ↦ absurd (no_give (ap (λ (k : Fid). list_any (is_of_file k) l.gives.gives) (sym file) ∙ t))
        ]

        abbrev s_f : Step
        s_f = s_1 v_f (Fetch f) tt tt old.sites (Some (AFetch f)) counted_f old.changed kept_all

        learnt_f : Stands script m (half s_f ∷ past)
        learnt_f = learnt v_f (Fetch f) tt tt old.sites (Some (AFetch f)) counted_f old.changed kept_all

        sends_f : SendsFetchNew m past s_f f
        sends_f = record {
          idle = idle;
          there = (
            (site_at old.sites v_f).epoch,
            0,
            y_said v_f (Fetch f) tt tt old.sites (Some (AFetch f)) counted_f old.changed kept_all,
          );
          only = λ w i. elim (no_request v_f (Fetch f) tt tt old.sites (Some (AFetch f)) counted_f old.changed
              kept_all w
              i) [ inl p ↦ inl p.1 | inr p ↦ inr p ];
          number = number_f;
          welcome = ap (λ (w : ServerId). (site_at old.sites w).welcome) (ap home fs_is ∙ sym home_same) ∙ welcome;
          fresh = λ g about same n. absurd (let q = about.1 in
              let o : revoking old.host server epoch 0 r ≡ about.0 = cc in
              let k = ap (λ (w : Message). w.body) o ∙ about.5 in cc);
        }

        requests_f : RequestStands (Some (AFetch f)) (s_f ∷ past) × NumbersStand counted_f old.changed (s_f ∷ past)
        requests_f = fetch_moves_right script m past s_f f counted_f learnt_f sends_f
            (fetch_counts old.fetched f number_f)

        tidy_f : IsTidyFetch script.roster f
        tidy_f = record {
          from = let n = number in omega (arith, n);
          declared = subst (λ (k : FilesetId). IsServer script.roster (home k)) (sym fs_is) at_home;
          needs = λ n i. let q = asked_plain x lost c.call f.fid f.needs from_f n i in (q.0, q.1, room n i);
          count = short;
        }

        pub fetch_runs : Goal (record x { fetched = counted_f; request = Some (AFetch f) })
            (start (message_to x (home_at f.fid.fileset) (Fetch f) ∷ []))
        fetch_runs = subst (λ (w : ServerId). Goal (record x { fetched = counted_f; request = Some (AFetch f) })
            (start (message_to x w (Fetch f) ∷ []))) (ap home fs_is ∙ sym home_same ∙ ap home_at (sym fs_is))
            (said_runs v_f (Fetch f) tt tt old.sites (Some (AFetch f)) counted_f old.changed kept_all
            (λ w. (
              (λ e. inl e),
              λ q. elim q [
                | inl e ↦ e
                | inr p ↦ absurd (let o = (only_asked v_f (Fetch f) tt tt old.sites (Some (AFetch f)) counted_f
                    old.changed
                    kept_all w p.0 p.1 Hello tt p.2).1 in cc)
              ],
            )) requests_f
            (λ stance at. record {
              epoch_is = (learnt_f.sites v_f).epoch;
              says = new_fetch script m l past s_f learnt_f
                  (right_1 v_f (Fetch f) tt tt old.sites (Some (AFetch f)) counted_f old.changed kept_all)
                  (keeping_1 v_f (Fetch f) tt tt old.sites (Some (AFetch f)) counted_f old.changed kept_all)
                  (gives_1 v_f (Fetch f) tt tt old.sites (Some (AFetch f)) counted_f old.changed kept_all) refl
                  labels_same ending_same lost c.call
                  (lost_is v_f (Fetch f) tt tt old.sites (Some (AFetch f)) counted_f old.changed kept_all) stance
                  at.0 at.1
                  at.2 c refl (still_open v_f (Fetch f) tt tt old.sites (Some (AFetch f)) counted_f old.changed
                  kept_all) f
                  sends_f need lack kind (sym file) no_give_f no_bye from_f;
            })
            (λ stance at e o. inl (f.fid.fileset, f.number, (requests_f.0.fetch f refl).1)) (ForGrant f refl) refl
            (λ g e. let q : f ≡ g = cc in subst (IsTidyFetch script.roster) q tidy_f) (λ w d e. absurd (cc))
            (fetch_sound script.roster old (message_to old v_f (Fetch f)) f running.tidy
            (record { way = refl; host_is = refl; no_moves = refl; epoch_is = refl }) refl refl tidy_f))

      -- # A Hello
      module _ (may : (site_at old.sites v_n).welcome ≡ false) where
        abbrev greeted_now : List Site
        greeted_now = hello_sites script old running.tidy v_n declared_n

        kept_h : KeepsSites old greeted_now
        kept_h = hello_kept script old running.tidy v_n declared_n

        abbrev s_h : Step
        s_h = s_1 v_n Hello tt tt greeted_now old.request old.fetched old.changed kept_h

        learnt_h : Stands script m (half s_h ∷ past)
        learnt_h = learnt v_n Hello tt tt greeted_now old.request old.fetched old.changed kept_h

        said_h : Says s_h v_n Hello
        said_h = (
          (site_at old.sites v_n).epoch,
          0,
          y_said v_n Hello tt tt greeted_now old.request old.fetched old.changed kept_h,
        )

        greeted_h : (w : ServerId) → ((site_at greeted_now w).greeted ≡ true)
            ↔ (((site_at old.sites w).greeted ≡ true) ⊎ Says s_h w Hello)
        greeted_h w = (
          (λ e. elim (hello_at script old running.tidy v_n declared_n w) [
            | inl p ↦ inr (subst (λ (k : ServerId). Says s_h k Hello) (sym p.0) said_h)
            | inr q ↦ inl (ap (λ (k : Site). k.greeted) (sym q.1) ∙ e)
          ]),
          λ q. elim (hello_at script old running.tidy v_n declared_n w) [
            | inl p ↦ ap (λ (k : Site). k.greeted) p.1
            | inr n ↦ elim q [
              | inl g ↦ ap (λ (k : Site). k.greeted) n.1 ∙ g
              | inr p ↦ absurd (n.0 (sym (only_asked v_n Hello tt tt greeted_now old.request old.fetched old.changed
                  kept_h
                  w p.0 p.1 Hello tt p.2).0))
            ]
          ],
        )

        has_greeted : HasGreeted (s_h ∷ past) v_n
        has_greeted = (said_h.0, said_h.1, inl said_h.2)

        unwelcome : IsWelcome (s_h ∷ past) v_n → ⊥
        unwelcome w = true_false (site_at old.sites v_n).welcome ((learnt_h.sites v_n).welcome.1 w) may

        pub hello_runs : Goal (record x { sites = greeted_now })
            (start (message_to (record x { sites = greeted_now }) v_n Hello ∷ []))
        hello_runs = subst (λ (k : Message). Goal (record x { sites = greeted_now }) (start (k ∷ [])))
            (λ i. record (message_to x v_n Hello) { epoch = sym (kept_h.epoch v_n) i })
            (said_runs v_n Hello tt tt greeted_now old.request old.fetched old.changed kept_h greeted_h
            (request_moves_right script m past s_h learnt_h (record {
              only = λ w i. inl (elim (no_request v_n Hello tt tt greeted_now old.request old.fetched old.changed
                  kept_h w
                  i) [ inl p ↦ subst IsNoRequest (sym p.1) tt | inr p ↦ p ]);
            }))
            (λ stance at. record { epoch_is = (learnt_h.sites v_n).epoch; says = tt })
            (λ stance at e o. inr (inr (inr (
              v_n,
              inl (
                need,
                subst (λ (k : Asked). FirstLack script.roster old.host past s_h stance k.call need)
                    (only_open s_h refl e o)
                    (lacks v_n Hello tt tt greeted_now old.request old.fetched old.changed kept_h stance at),
                sym home_same,
              ),
              has_greeted,
              unwelcome,
            ))))
            (ForNeed need lack (subst (HasGreeted (s_h ∷ past)) home_same has_greeted)
            (λ w. unwelcome (subst (IsWelcome (s_h ∷ past)) (sym home_same) w)))
            kept_h.servers (λ f e. absurd (let p = sym idle ∙ e in cc)) (λ w d e. absurd (let p = sym idle ∙ e in cc))
            (again_sound script.roster old (moved_of old) past s_h (message_to old v_n Hello) running.tidy
            (record { way = refl; host_is = refl; no_moves = refl; epoch_is = refl }) declared_n OfHello))

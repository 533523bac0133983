-- What is due of a step that leaves a call open which lacks a token, or about which a server is asked.
use Rattle.base_types.specs.declared.ids.Fid.{Fid}
use Rattle.base_types.specs.declared.ids.FilesetId.{FilesetId}
use Rattle.base_types.specs.declared.ids.Node.TheVariants.{Host}
use Rattle.base_types.specs.declared.ids.ServerId.{ServerId}
use Rattle.host_asks.specs.Asking.{AsksFor, Doing, asking_question, changing, coming_to, doing, fetching, fileset_of}
use Rattle.host_asks.specs.Asking.{greeting, is_entering, may_ask, next_change, server_of, with_asked, with_fetching}
use Rattle.host_asks.specs.Asking.{with_greeted}
use Rattle.host_asks.specs.Asking.AsksFor.{Changes, Comes, FetchesIt, Waits as WaitsGive}
use Rattle.host_calls.specs.Looking.{asked_by}
use Rattle.host_calls.specs.declared.looking.Question.{Question as HostQuestion}
use Rattle.host_gives.specs.Giving.{Giving, IsSound as IsSoundGives}
use Rattle.host_leaves.specs.Sending.{message_to, sending_due}
use Rattle.host_manager.proofs.CallDue.{asking_gives, lacking_gives}
use Rattle.host_manager.proofs.Homely.{lack_declared}
use Rattle.host_manager.proofs.Opened.{and_false, welcome_greets}
use Rattle.host_manager.proofs.TurnDue.{IsNewIn, IsTurnDue, draft_due, opens_it}
use Rattle.host_manager.proofs.TurnDue.IsNewIn.{OfChange, OfFetch, OfHello}
use Rattle.host_manager.proofs.Turns.{IsTurn, at_turn, turn_draft}
use Rattle.host_manager.specs.Running.{RunsOn}
use Rattle.host_tables.proofs.Declared.{home_is}
use Rattle.host_tables.proofs.Lists.{true_false}
use Rattle.host_tables.specs.Answering.{GivesForCall}
use Rattle.host_tables.specs.Drafts.{step_of}
use Rattle.host_tables.specs.Half.{learning}
use Rattle.host_tables.specs.Saying.{IsFirst}
use Rattle.host_tables.specs.Stands.{AsksFrom, IsCoveredFrom, IsLack, Stands, look_from, verdict_from}
use Rattle.host_tables.specs.Tables.{held_of, last_change, last_fetch, site_at}
use Rattle.host_tables.specs.Updates.{home_at}
use Rattle.host_tables.specs.declared.draft.Draft.{Draft}
use Rattle.host_tables.specs.declared.tables.Tables.{Tables}
use Rattle.message_types.specs.Soundness.{no_fid}
use Rattle.message_types.specs.declared.asking.Change.{Change as ChangeOf}
use Rattle.message_types.specs.declared.asking.Fetch.{Fetch as FetchOf}
use Rattle.message_types.specs.declared.giving.Give.{Give}
use Rattle.message_types.specs.declared.message.Body.TheVariants.{Change, Fetch, Hello}
use Rattle.message_types.specs.declared.message.Message.{Message}
use Rattle.need_host.specs.Calls.Verdict.{Asks as AsksOf}
use Rattle.need_host.specs.Looks.{IsCovered, IsFirstLack, needs_of, outcome}
use Rattle.need_host.specs.Questions.{Question}
use Rattle.need_host.specs.Questions.Question.{ChangeIn}
use Rattle.run_rules.specs.HostAsks.{HasChanged, HasFetched}
use Rattle.run_rules.specs.HostDue.{HostDue}
use Rattle.run_rules.specs.Messages.{HasGreeted, IsWelcome, home}
use Rattle.run_rules.specs.Past.{In}
use Rattle.run_rules.specs.Tokens.{HasCall, IsOpen, IsOutstanding, IsUseKind}
use Rattle.run_rules.specs.Views.{sees, stay_asked}
use Rattle.run_rules.specs.declared.step.Asked.{Asked}
use Rattle.run_rules.specs.declared.step.Cause.{Cause}
use Rattle.run_rules.specs.declared.step.Step.{Step}
use Rattle.script_lines.specs.declared.script.Script.{Script}
use Rattle.std.proofs.Common.{Bool, List, None, Some, [], ap, arith, false, if◌then◌else◌, inl, inr, refl, subst, sym}
use Rattle.std.proofs.Common.{true, ℕ, ◌+◌, ◌∙◌, ◌∷◌, ◌≡◌, ◌⊎◌}
use Rattle.token_types.specs.declared.token.Need.{Need}
use Rattle.token_types.specs.declared.token.Token.{Token}
use Rattle.tree_calls.specs.declared.call.Call.{Call}
use Rattle.host_manager.proofs.Turns as turns
use Rattle.host_tables.proofs.Answered as answered

module _ (script : Script) (old m : Tables) (past : List Step) (cause : Cause) (came : List Token)
    (dues : List FilesetId) (c : Asked) (first : Bool) (turn : IsTurn script old m past cause came dues c first)
    (sound_m : IsSoundGives m.gives) (by : IsTurnDue m past cause came dues first) where
  abbrev call : Call
  call = c.call

  abbrev k : ℕ
  k = c.k

  abbrev h : Step
  h = learning m.host cause came

  abbrev begun : Tables
  begun = at_turn m first

  abbrev at : Doing
  at = doing begun (turn_draft came dues)

  abbrev opened : Doing → Doing
  opened gone = doing (record gone.tables { call = Some c })
      (record gone.draft { asked = if first then Some c else None })

  abbrev Opens : Doing → Type 0
  Opens gone = RunsOn script old (opened gone).tables past
      (step_of (Host m.host) cause (sending_due (opened gone).tables (opened gone).draft))

  abbrev pub OpensDue : Doing → Type 0
  OpensDue gone = HostDue script old.host past
      (step_of (Host m.host) cause (sending_due (opened gone).tables (opened gone).draft))

  stands : Stands script m (h ∷ past)
  stands = turn.learnt

  -- # The step
  abbrev draft_o : List Message → Draft
  draft_o own = record (turn_draft came dues) { asked = if first then Some c else None; sent = own }

  abbrev by_o : List Message → Step
  by_o own = turns.by script old m past cause came dues c first turn (draft_o own)

  begins : (own : List Message) → turns.BeginsTurn script old m past cause came dues c first turn (draft_o own)
  begins own = opens_it script old m past cause came dues c first turn (draft_o own) refl refl

  is_open : (own : List Message) → IsOpen (by_o own ∷ past) c
  is_open own = by_first first refl
    where
      by_first : (b : Bool) → first ≡ b → IsOpen (by_o own ∷ past) c
      by_first true e = inl (ap (λ (b : Bool). if b then Some c else None) e)
      by_first false e =
          let g = turns.goes_on script old m past cause came dues c first turn e in inr (g.0, g.1, λ a i. elim i [ ])

  only_call : (own : List Message) (n : ℕ) (other : Call) → HasCall past (by_o own) n other → other ≡ call
  only_call own n other has =
      (turns.only_it script old m past cause came dues c first turn (draft_o own) (begins own) n other has).1

  -- # Nothing is said for it, or one message
  module _ (z : Tables) (gives_z : z.gives ≡ m.gives) where
    sound_z : IsSoundGives z.gives
    sound_z = subst (λ (g : Giving). IsSoundGives g) (sym gives_z) sound_m

    fresh_z : (g : Give) → IsFirst z.gives g → In g.fid.fileset dues → IsOutstanding past g → ⊥
    fresh_z g one i o = by.fresh g (subst (λ (q : Giving). IsFirst q g) gives_z one) i o

    silent_due : GivesForCall m past (by_o [])
        → RunsOn script old z past (step_of (Host m.host) cause (sending_due z (draft_o [])))
        → HostDue script old.host past (step_of (Host m.host) cause (sending_due z (draft_o [])))
    silent_due gives runs =
        draft_due script old m past cause came dues c first turn by z sound_z (draft_o []) refl (begins []) runs gives
        (λ y i. elim i [ ]) tt fresh_z by.once_dues (λ l i. elim i [ ]) tt tt (λ y i e. elim i [ ])

    module _ (y : Message) (new : IsNewIn past y) (gives : GivesForCall m past (by_o (y ∷ [])))
        (runs : RunsOn script old z past (step_of (Host m.host) cause (sending_due z (draft_o (y ∷ []))))) where
      its_new : (x : Message) → In x (y ∷ []) → IsNewIn past x
      its_new x (inl e) = subst (IsNewIn past) (sym e) new
      its_new x (inr n) = elim n [ ]

      request_due : (y.body ≡ Hello → ⊥)
          → HostDue script old.host past (step_of (Host m.host) cause (sending_due z (draft_o (y ∷ []))))
      request_due no_hello =
          draft_due script old m past cause came dues c first turn by z sound_z (draft_o (y ∷ [])) refl
          (begins (y ∷ [])) runs gives its_new ((λ i. i), tt) fresh_z by.once_dues (λ l i. elim i [ ]) tt tt
          (λ x i e. elim i [
            | inl same ↦ absurd (no_hello (ap (λ (w : Message). w.body) (sym same) ∙ e))
            | inr n ↦ elim n [ ]
          ])

  -- # What is new
  hello_new : (v : ServerId) → (site_at m.sites v).greeted ≡ false → HasGreeted past v → ⊥
  hello_new v n g =
      true_false (site_at m.sites v).greeted ((stands.sites v).greeted.1 (g.0, g.1, inr g.2)) n

  change_new : (v : ServerId) (x : ChangeOf) → x.number ≡ last_change m.changed v x.fileset + 1 → HasChanged past v x
      → ⊥
  change_new v x number s =
      let low = stands.numbers.changes v x.fileset x.number (x, (s.0, s.1, s.2, inr s.3, s.4), refl, refl) in
      omega (arith, number, low)

  fetch_new : (f : FetchOf) → f.number ≡ last_fetch m.fetched f.fid.fileset + 1 → HasFetched past f → ⊥
  fetch_new f number s =
      let low = stands.numbers.fetches f.fid.fileset f.number (f, (s.0, s.1, s.2, inr s.3), refl, refl) in
      omega (arith, number, low)

  -- a server that isn't welcome by the tables isn't by the steps
  unwelcome : (v : ServerId) → may_ask v at ≡ false → IsWelcome (h ∷ past) v → ⊥
  unwelcome v may w =
      let e = (stands.sites v).welcome.1 w in
      let g = (stands.sites v).greeted.1 (welcome_greets (h ∷ past) v w) in
      true_false (site_at m.sites v).welcome e
      (and_false (site_at m.sites v).greeted (site_at m.sites v).welcome may g)

  -- # A server is come to
  -- the server that the call goes to next, by the tables
  abbrev GoesNext : ServerId → Type 0
  GoesNext v = ((need : Need) × IsLack m call need × (home need.fid.fileset ≡ v))
      ⊎ ((question : Question) × (fid : Fid) × AsksFrom m call question fid
      × ((p : List Step) → (stay_asked p question).server ≡ v))

  module _ (v : ServerId) (may : may_ask v at ≡ false) (goes : GoesNext v)
      (gives : (own : List Message) → GivesForCall m past (by_o own)) where
    abbrev greets : Tables
    greets = (opened (greeting v at)).tables

    abbrev y_h : Message
    y_h = message_to (with_greeted begun v) v Hello

    abbrev s_h : Step
    s_h = by_o (sending_due greets (draft_o (y_h ∷ []))).sent

    hello_due : (site_at m.sites v).greeted ≡ false → Opens (greeting v at) → OpensDue (greeting v at)
    hello_due not_yet runs =
        draft_due script old m past cause came dues c first turn by greets sound_m (draft_o (y_h ∷ [])) refl
        (begins (y_h ∷ [])) runs (gives (y_h ∷ []))
        (λ x i. elim i [
          | inl e ↦ subst (IsNewIn past) (sym e) (OfHello refl (hello_new v not_yet))
          | inr n ↦ elim n [ ]
        ]) ((λ i. i), tt) by.fresh by.once_dues (λ l i. elim i [ ]) tt tt
        (λ x i e. elim i [
          | inl same ↦
              let at_v : v ≡ x.server = ap (λ (w : Message). w.server) (sym same) in (
                λ w. unwelcome v may (subst (IsWelcome (h ∷ past)) (sym at_v) w),
                λ g. hello_new v not_yet (subst (HasGreeted past) (sym at_v) g),
                (c, is_open (sending_due greets (draft_o (y_h ∷ []))).sent, by_goes x.server at_v goes),
              )
          | inr n ↦ elim n [ ]
        ])
      where
        by_goes : (w : ServerId) → v ≡ w → GoesNext v
            → ((need : Need)
            × IsFirstLack (held_of m) (needs_of (sees past s_h) (look_from m call)) need × (home need.fid.fileset ≡ w))
            ⊎ ((question : Question) × (fid : Fid)
            × (((outcome (sees past s_h) (look_from m call) ≡ AsksOf question)
            × IsCovered (held_of m) (sees past s_h) (look_from m call) × (fid ≡ no_fid))
            ⊎ ((need : Need) × IsFirstLack (held_of m) (needs_of (sees past s_h) (look_from m call)) need
            × IsUseKind need.kind × (need.fid ≡ fid) × (question ≡ ChangeIn need.fid.fileset)))
            × ((stay_asked (s_h ∷ past) question).server ≡ w))
        by_goes w same (inl q) = inl (q.0, answered.lack_there script m past s_h stands call q.0 q.1, q.2 ∙ same)
        by_goes w same (inr q) = inr (q.0, q.1, by_asks q.2, q.3 (s_h ∷ past) ∙ same)
          where
            by_asks : AsksFrom m call q.0 q.1
                → ((outcome (sees past s_h) (look_from m call) ≡ AsksOf q.0)
                × IsCovered (held_of m) (sees past s_h) (look_from m call) × (q.1 ≡ no_fid))
                ⊎ ((need : Need) × IsFirstLack (held_of m) (needs_of (sees past s_h) (look_from m call)) need
                × IsUseKind need.kind × (need.fid ≡ q.1) × (q.0 ≡ ChangeIn need.fid.fileset))
            by_asks (inl a) = inl (
              sym (answered.verdict_is script m past s_h stands call a.1) ∙ a.0,
              answered.covered_there script m past s_h stands call a.1,
              a.2,
            )
            by_asks (inr a) = inr (a.0, answered.lack_there script m past s_h stands call a.0 a.1, a.2, a.3, a.4)

    comes_due : Opens (coming_to v at) → OpensDue (coming_to v at)
    comes_due = by_greeted (site_at m.sites v).greeted refl
      where
        by_greeted : (b : Bool) → (site_at m.sites v).greeted ≡ b → Opens (if b then at else greeting v at)
            → OpensDue (if b then at else greeting v at)
        by_greeted true e runs = silent_due (opened at).tables refl (gives []) runs
        by_greeted false e runs = hello_due e runs

  -- # It lacks a token
  module _ (need : Need) (lack : IsLack m call need) where
    gives_n : (own : List Message) → GivesForCall m past (by_o own)
    gives_n own = lacking_gives script m past cause came stands call (by_o own) (only_call own) need lack

    home_same : home_at need.fid.fileset ≡ home need.fid.fileset
    home_same = home_is script.roster m turn.tidy need.fid.fileset
        (lack_declared script.roster m turn.tidy call need lack)

    pub lacks_due : (gone : Doing) → AsksFor need k call at gone → Opens gone → OpensDue gone
    lacks_due gone (WaitsGive plain gives is) runs = subst OpensDue (sym is)
        (silent_due (opened at).tables refl (gives_n []) (subst Opens is runs))
    lacks_due gone (Comes may not_yet is) runs = subst OpensDue (sym is)
        (comes_due (home_at need.fid.fileset) not_yet (inl (need, lack, sym home_same)) gives_n (subst Opens is runs))
    lacks_due gone (Changes used may is) runs =
        let v : ServerId = home_at need.fid.fileset in
        let x : ChangeOf = next_change begun v need.fid.fileset need.fid false k call in
        subst OpensDue (sym is) (request_due (opened (changing v x at)).tables refl
        (message_to (with_asked begun v x) v (Change x)) (OfChange x refl (change_new v x refl)) (gives_n _)
        (subst Opens is runs) (λ e. cc))
    lacks_due gone (FetchesIt plain no_give may it) runs =
        let f : FetchOf = it.fetch in
        subst OpensDue (sym it.after) (request_due (opened (fetching f at)).tables refl
        (message_to (with_fetching begun f) (home_at f.fid.fileset) (Fetch f))
        (OfFetch f refl (fetch_new f (it.number
        ∙ ap (λ (x : Fid). last_fetch m.fetched x.fileset + 1) (sym it.file)))) (gives_n _)
        (subst Opens it.after runs) (λ e. cc))

  -- # A server is asked
  module _ (question : HostQuestion) (verdict : verdict_from m call ≡ AsksOf (asked_by question))
      (covered : IsCoveredFrom m call)
      (at_stay : (p : List Step) → (stay_asked p (asked_by question)).server ≡ server_of question) where
    gives_q : (own : List Message) → GivesForCall m past (by_o own)
    gives_q own = asking_gives script m past cause came stands call (by_o own) (only_call own) (asked_by question)
        verdict

    abbrev v : ServerId
    v = server_of question

    abbrev x : ChangeOf
    x = next_change begun v (fileset_of question) no_fid (is_entering question) k call

    pub asks_due : Opens (asking_question question k call at) → OpensDue (asking_question question k call at)
    asks_due = by_may (may_ask (server_of question) at) refl
      where
        by_may : (b : Bool) → may_ask v at ≡ b → Opens (if b then changing v x at else coming_to v at)
            → OpensDue (if b then changing v x at else coming_to v at)
        by_may true may runs =
            request_due (opened (changing v x at)).tables refl (message_to (with_asked begun v x) v (Change x))
            (OfChange x refl (change_new v x refl)) (gives_q _) runs (λ e. cc)
        by_may false may runs =
            comes_due v may (inr (asked_by question, no_fid, inl (verdict, covered, refl), at_stay)) gives_q runs

-- What a host takes in a step stays with it, in a run.
use Rattle.std.proofs.Common.{◌≡◌, ℕ, ◌⊎◌, true, List, [], ◌∷◌, inl, inr, sym, ◌∙◌, ap, subst, refl, arith}
use Rattle.base_types.specs.declared.ids.Fid.{Fid}
use Rattle.base_types.specs.declared.ids.FilesetId.{FilesetId}
use Rattle.base_types.specs.declared.ids.HostId.{HostId}
use Rattle.base_types.specs.declared.ids.ServerId.{ServerId}
use Rattle.tree_calls.specs.declared.call.Call.{Call}
use Rattle.tree_calls.specs.declared.call.Call.TheVariants.{Sync}
use Rattle.tree_calls.specs.declared.place.Place.{Place}
use Rattle.need_host.specs.Shows.{is_update, shows}
use Rattle.message_types.specs.declared.asking.Fetch.{Fetch as FetchOf}
use Rattle.message_types.specs.declared.message.Body.{Body}
use Rattle.message_types.specs.declared.message.Body.TheVariants.{Done, Fetch, Grant, Revoke}
use Rattle.message_types.specs.declared.message.Message.{Message}
use Rattle.message_types.specs.declared.telling.Bring.{Bring}
use Rattle.message_types.specs.declared.telling.Done.{Done as DoneOf}
use Rattle.message_types.specs.declared.telling.Grant.{Grant as GrantOf}
use Rattle.message_types.specs.declared.tokens.Revoke.{Revoke as RevokeOf}
use Rattle.script_lines.specs.declared.script.Script.{Script}
use Rattle.token_types.specs.Conflicts.{need_of}
use Rattle.token_types.specs.declared.token.Token.{Token}
use Rattle.tree_laws.specs.Parts.{Part}
use Rattle.tree_laws.specs.Parts.Part.{ByteAt, Size}
use Rattle.run_rules.specs.Doings.{Doing, SentTo}
use Rattle.run_rules.specs.Doings.Doing.{Took}
use Rattle.run_rules.specs.HostMay.{HostMay}
use Rattle.run_rules.specs.HostTokens.{MayLeave}
use Rattle.run_rules.specs.Messages.{Asking, Changing, ComesIn, Said}
use Rattle.run_rules.specs.Past.{In}
use Rattle.run_rules.specs.Steps.{limit_of}
use Rattle.run_rules.specs.Tokens.{AnswersRequest, CauseEnds, HasCall, IsOpen, LeavesHost, end_of}
use Rattle.run_rules.specs.Views.{IsDirtyUnder}
use Rattle.run_rules.specs.declared.applied.Why.TheVariants.{Ended, Evicted, ForCall as AskedFor, Revoked, Stopped}
use Rattle.run_contents.proofs.Calls.{given_call, one_open, use_owned}
use Rattle.run_contents.proofs.Gives.{owns_held}
use Rattle.run_contents.proofs.Reading.{ReadsOnly, Suits, end_suits, new_suits}
use Rattle.run_contents.proofs.Servers.{Sensible}
use Rattle.run_contents.proofs.Words.{byte_covers, byte_update, size_covers, size_update}
use Rattle.run_contents.specs.Steps.{HostRun}
use Rattle.run_rules.specs.declared.applied.Why.{Why}
use Rattle.run_rules.specs.declared.step.Asked.{Asked}
use Rattle.run_rules.specs.declared.step.Cause.{Cause}
use Rattle.run_rules.specs.declared.step.Cause.TheVariants.{Message as Came, Line, Evict, End}
use Rattle.run_rules.specs.declared.step.Step.{Step}

module _ (script : Script) (host : HostId) where
  none_of_both : (past : List Step) → HostRun script host past → (v : ServerId) (fs gs : FilesetId) (n k : ℕ)
      → Asking past fs n → Changing past v gs k → ⊥
  none_of_both [] run v fs gs n k a b = elim a [ ]
  none_of_both (s ∷ past) run v fs gs n k a b = run.1.asks.one_of_both v fs gs n k a b

  -- while a Fetch is outstanding its call stays open
  stays_open : (past : List Step) (s : Step) → HostRun script host past → HostMay script host past s
      → (call : Asked) (f : FetchOf) → IsOpen past call → Suits call.call f → (fs : FilesetId) (n : ℕ)
      → Asking past fs n → Asking (s ∷ past) fs n → IsOpen (s ∷ past) call
  stays_open past s run m call f o suits fs n before after =
      inr (o, ended, λ a i _. m.answers.answers_alone a fs n i after)
    where
      ended : CauseEnds past s call → ⊥
      ended (inl (v, done, reply, counts, outcome)) =
          none_of_both past run v fs done.fileset n done.bring.number before counts.1
      ended (inr (g, ends, made, is, same, learns, new)) =
          let k = given_call script host past run g ends made is in
          let one : call ≡ record { k = ends.k; call = ends.call } = k.1 call o (sym same) in
          let c : call.call ≡ end_of k.2.0 = ap (λ (z : Asked). z.call) one ∙ k.2.1 in
          end_suits k.2.0 f (subst (λ (z : Call). Suits z f) c suits)

  abbrev Fetching : List Step → FetchOf → Type 0
  Fetching past f = (call : Asked) × IsOpen past call × Suits call.call f

  abbrev FetchingSo : List Step → FetchOf → Type 0
  FetchingSo past f =
      (w : ServerId) (d k : ℕ) → Said past w d k (Fetch f) → Asking past f.fid.fileset f.number → Fetching past f

  -- what is outstanding is for the open call
  pub fetch_call : (past : List Step) → HostRun script host past → (v : ServerId) (e n : ℕ) (f : FetchOf)
      → Said past v e n (Fetch f) → Asking past f.fid.fileset f.number → Fetching past f
  fetch_call [] run v e n f said asking = elim said [ ]
  fetch_call (s ∷ past) run v e n f said asking =
      go (λ w d k old before. fetch_call past run.0 w d k f old before) said
    where
      on : FetchingSo past f → (w : ServerId) (d k : ℕ) → Said past w d k (Fetch f) → Asking past f.fid.fileset f.number
          → Fetching (s ∷ past) f
      on all w d k old before =
          let c = all w d k old before in
          (c.0, stays_open past s run.0 run.1 c.0 f c.1 c.2 f.fid.fileset f.number before asking, c.2)

      again : (g : FetchOf) → g.fid.fileset ≡ f.fid.fileset → g.number ≡ f.number
          → Asking past g.fid.fileset g.number → Asking past f.fid.fileset f.number
      again g files numbers a =
          subst (λ (y : FilesetId × ℕ). Asking past y.0 y.1) (λ i. (files i, numbers i)) a

      go : FetchingSo past f → Said (s ∷ past) v e n (Fetch f) → Fetching (s ∷ past) f
      go all (inl sends) = elim (run.1.asks.fetches f (v, e, n, sends)) [
        | inl (has, before) ↦ on all has.0 has.1 has.2 has.3 before
        | inr new ↦ (new.call, new.is_open, new_suits script host past s run.1.stance f new)
      ]
      go all (inr old) = elim asking.0 [
        | inr before ↦ on all v e n old before
        | inl (g, fetches, files, numbers) ↦ elim (run.1.asks.fetches g fetches) [
          | inl (has, before) ↦ on all v e n old (again g files numbers before)
          | inr new ↦ (
              let lt = new.next.above f.number (f, (v, e, n, old), sym files, refl) in
              absurd (omega (arith, lt, numbers))
              )
        ]
      ]

-- what is dirty under a token is a part that it is for changing
dirty_part : (past : List Step) (s : Step) (t : Token) → IsDirtyUnder past s t
    → (p : Part) × (shows t.kind p ≡ true) × (is_update t.kind ≡ true)
dirty_part past s t (inl (at, (updates, is))) =
    (ByteAt at, byte_covers t.kind updates.0 at updates.2 updates.3, byte_update t.kind updates.0 updates.2)
dirty_part past s t (inr l) = (Size, size_covers t.kind l.0.1, size_update t.kind l.0.1)

-- the message that brings tokens
record Bringing (s : Step) : Type 0 where
  by : Message
  cause : s.cause ≡ Came by
  is : ((g : GrantOf) × (by.body ≡ Grant g)) ⊎ ((d : DoneOf) × (by.body ≡ Done d))

no_other : (c : Cause) (m : Message) (other : Cause) → c ≡ Came m → c ≡ other → other ≡ Came m
no_other c m other p q = sym q ∙ p

message_is : (c : Cause) (m n : Message) → c ≡ Came m → c ≡ Came n → m ≡ n
message_is c m n p q = let r : Came m ≡ Came n = sym p ∙ q in cc

module _ (script : Script) (host : HostId) (past : List Step) (s : Step) (run : HostRun script host past)
    (m : HostMay script host past s) (S : ServerId → List Doing) (sensible : (v : ServerId) → Sensible (S v))
    (came : (x : Message) → s.cause ≡ Came x → SentTo (S x.server) host x.epoch x.moves x.body)
    (heard : (v : ServerId) (e n : ℕ) (b : Body) → In (Took host e n b) (S v) → Said past v e n b) where
  module _ (t : Token) (i : In t s.taken) where
    abbrev w : Bring
    w = (m.tokens.takes t i).0

    uses : AnswersRequest past s w
    uses = (m.tokens.takes t i).1.0

    brings : In t w.tokens
    brings = (m.tokens.takes t i).2

    bringing : Bringing s
    bringing = elim uses [
      | inl (g, about, same, asking) ↦ record { by = about.0; cause = about.1; is = inl (g, about.5) }
      | inr (d, about, same, changing, lone) ↦ record { by = about.0; cause = about.1; is = inr (d, about.5) }
    ]

    no_line : (other : Cause) → s.cause ≡ other → (other ≡ Came bringing.by → ⊥) → ⊥
    no_line other e never = never (no_other s.cause bringing.by other bringing.cause e)

    no_begin : (k : ℕ) (call : Call) → HasCall past s k call → IsOpen past (record { k = k; call = call })
    no_begin k call (inl b) = absurd (elim (m.lines.begins k call b) [
      | inl l ↦ no_line (Line l.0) l.1 (λ q. cc)
      | inr e ↦ no_line End e (λ q. cc)
    ])
    no_begin k call (inr o) = o.0

    -- what is taken for a Sync is for reading
    for_sync : (k : ℕ) (place : Place) → IsOpen past (record { k = k; call = Sync place }) → (p : Part)
        → shows t.kind p ≡ true → is_update t.kind ≡ true → ⊥
    for_sync k place o p cov update = elim uses [
      | inl (g, about, same, asking) ↦ (
          let sent = subst (λ (b : Body). SentTo (S about.0.server) host about.0.epoch about.0.moves b) about.5
          (came about.0 about.1) in
          let (f, e, n, took, number, fid, needs) = (sensible about.0.server).grants host _ _ g sent in
          let files : w.fid.fileset ≡ f.fid.fileset =
          ap (λ (y : Bring). y.fid.fileset) (sym same) ∙ ap (λ (y : Fid). y.fileset) (sym fid) in
          let numbers : w.number ≡ f.number = ap (λ (y : Bring). y.number) (sym same) ∙ sym number in
          let c = fetch_call script host past run about.0.server e n f (heard about.0.server e n (Fetch f) took)
          (subst (λ (y : FilesetId × ℕ). Asking past y.0 y.1) (λ i. (files i, numbers i)) asking) in
          let one : c.0 ≡ record { k = k; call = Sync place } =
          one_open script host past run c.0 (record { k = k; call = Sync place }) c.1 o in
          let reads : ReadsOnly f.needs = subst (λ (z : Asked). Suits z.call f) one c.2 in
          reads (need_of t) p (needs t (subst (λ (y : Bring). In t y.tokens) (sym same) brings)) cov update
          )
      | inr (d, about, same, changing, lone) ↦ (
          let sent = subst (λ (b : Body). SentTo (S about.0.server) host about.0.epoch about.0.moves b) about.5
          (came about.0 about.1) in
          (sensible about.0.server).dones host _ _ d t p sent
          (subst (λ (y : Bring). In t y.tokens) (sym same) brings) cov
          )
    ]

    no_revoke : (v : ServerId) (e n : ℕ) (r : RevokeOf) → ComesIn s v e n (Revoke r) → ⊥
    no_revoke v e n r c =
        let one = message_is s.cause c.0 bringing.by c.1 bringing.cause in
        let body : bringing.by.body ≡ Revoke r = ap (λ (z : Message). z.body) (sym one) ∙ c.5 in
        elim bringing.is [
          | inl (g, is) ↦ (let q : Grant g ≡ Revoke r = sym is ∙ body in cc)
          | inr (d, is) ↦ (let q : Done d ≡ Revoke r = sym is ∙ body in cc)
        ]

    may_not : (why : Why) → MayLeave script.roster host (limit_of script.roster host) past s why t → ⊥
    may_not Revoked x = no_revoke _ _ _ x.0.0 x.0.1
    may_not Evicted x = no_line Evict x.0 (λ q. cc)
    may_not AskedFor (inl (k, place, stance, turn, finds, dirty)) =
        let p = dirty_part past s t dirty in
        for_sync k place (no_begin k (Sync place) turn) p.0 p.1 p.2
    may_not AskedFor (inr (k, u, turn, frees, same)) =
        let held = owns_held script host past run m.tokens.live u.token (use_owned script host past run u frees.0.0) in
        (m.tokens.takes t i).4 (u.token, held, ap (λ (z : Token). z.id) same)
    may_not Ended x = no_line End x.0 (λ q. cc)
    may_not Stopped x = let l = m.lines.stops x in no_line (Line l.0) l.2 (λ q. cc)

    pub takes_stay : LeavesHost s t.id → ⊥
    takes_stay l =
        let d = m.tokens.drops t (inl i) l in
        may_not d.0.why (subst (MayLeave script.roster host (limit_of script.roster host) past s d.0.why) d.2
        (m.leaves.leaves d.0 d.1))

-- The rules admit the small run.
use Rattle.std.proofs.Common.{◌≡◌, ℕ, ◌⊎◌, false, List, [], ◌∷◌, Option, inl, inr, sym, ◌∙◌, ap, subst, refl, arith}
use Rattle.base_types.specs.declared.ids.HostId.{HostId}
use Rattle.base_types.specs.declared.ids.ServerId.{ServerId}
use Rattle.base_types.specs.declared.ids.Fid.{Fid}
use Rattle.base_types.specs.declared.ids.Node.{Node}
use Rattle.base_types.specs.declared.ids.Node.TheVariants.{Host, Server}
use Rattle.base_types.specs.declared.span.Span.{Span}
use Rattle.token_types.specs.declared.token.Kind.TheVariants.{Bytes, Status}
use Rattle.token_types.specs.declared.token.Token.{Token}
use Rattle.token_types.specs.declared.token.TokenId.{TokenId}
use Rattle.message_types.specs.declared.message.Direction.TheVariants.{ToServer, ToHost}
use Rattle.message_types.specs.declared.message.Body.{Body}
use Rattle.message_types.specs.declared.message.Body.TheVariants.{Hello, Fetch, Grant, Change, Done, Revoke, Returned, Kept, GiveBack, Reclaim, Reclaimed, Down, Bye}
use Rattle.message_types.specs.declared.message.Message.{Message}
use Rattle.message_types.specs.declared.telling.Bring.{Bring}
use Rattle.message_types.specs.declared.telling.Grant.{Grant as GrantOf}
use Rattle.message_types.specs.declared.telling.Done.{Done as DoneOf}
use Rattle.message_types.specs.declared.giving.Reclaimed.{Reclaimed as ReclaimedOf}
use Rattle.message_types.specs.declared.tokens.Named.{Named}
use Rattle.message_types.specs.declared.tokens.Revoke.{Revoke as RevokeOf}
use Rattle.run_rules.specs.declared.applied.Answer.{Answer}
use Rattle.run_rules.specs.declared.applied.Wanted.{Wanted}
use Rattle.run_rules.specs.declared.step.Asked.{Asked}
use Rattle.run_rules.specs.declared.step.Cause.{Cause}
use Rattle.run_rules.specs.declared.step.Cause.TheVariants.{Line, Message as Came}
use Rattle.run_rules.specs.declared.step.Step.{Step}
use Rattle.run_rules.specs.Doings.{BringsTokens, Doing, Granted, HasGoneAway, HasGoneDown, HasReclaimed, HasUsedStamp}
use Rattle.run_rules.specs.Doings.{Here, IsNewEpoch, IsNewlyGranted, Issued, Issues, Listed, Reserved, SentTo}
use Rattle.run_rules.specs.Doings.{StayStamp, UsesStamp, doings_of, epoch}
use Rattle.run_rules.specs.Doings.Doing.{Admits, BeginsEpoch, MakesWant as WantsOf, Reserves, Sent, Took}
use Rattle.run_rules.specs.HostTokens.{HostTokens}
use Rattle.run_rules.specs.Messages.{About, Asking, ComesIn, ReturnsToken, Said, Sends, epoch_at, home}
use Rattle.run_rules.specs.Past.{In}
use Rattle.run_rules.specs.Runs.{CameToHost, CameToServer, IsFrom}
use Rattle.run_rules.specs.ServerTokens.{AskedFetch, MayBring, ServerStep, ServerTokens}
use Rattle.run_rules.specs.Steps.{steps_of_host}
use Rattle.run_rules.specs.Tokens.{AboveFloor, AnswersRequest, Held, HoldsId, LeavesHost, Uses}
use Rattle.run_tokens.specs.TokenLaws.{IsTokenRun}
use Rattle.run_tokens.specs.Worked.{client, site_one, no_fid, root, plain, to_server, to_host, welcome, enter, entered, asks_for, token, granted, wants_enter, wants_root, greets, enters, fetches, takes, from_cache, welcomes, tells, grants, worked}

pub at_one : home root.fileset ≡ site_one
unfolding home
at_one = refl

pub here_one : Here site_one [] root.fileset 0
unfolding home
here_one = refl

-- a message that the host sends without giving anything up
abbrev pub IsPlain : Body → Type 0
IsPlain Hello = Unit {0}
IsPlain (Fetch fetch) = home fetch.fid.fileset ≡ site_one
IsPlain (Change change) = change.fileset.0 ≡ 0
IsPlain _ = ⊥

abbrev pub SaidPlain : List Step → Type 0
SaidPlain past = (v : ServerId) (e n : ℕ) (b : Body) → Said past v e n b → IsPlain b

abbrev pub SendsPlain : List Step → Step → Type 0
SendsPlain past s = (v : ServerId) (e n : ℕ) (b : Body) → Sends s v e n b → IsPlain b × (e ≡ epoch_at (s ∷ past) v) × (site_one ≡ v) × (0 ≡ n)

said_more : (past : List Step) (s : Step) → SaidPlain past → SendsPlain past s → SaidPlain (s ∷ past)
said_more past s plain only v e n b (inl p) = (only v e n b p).0
said_more past s plain only v e n b (inr p) = plain v e n b p

-- a step that sends such messages, and makes and drops nothing
module _ (past : List Step) (node : Node) (cause : Cause) (asked : Option Asked) (answers : List Answer) (taken : List Token) (sent : List Message) (before : SaidPlain past) (only : SendsPlain past (plain node cause asked answers taken sent)) where
  abbrev s : Step
  s = plain node cause asked answers taken sent

  no_returned : (i : TokenId) → ReturnsToken s i → ⊥
  no_returned i (v, e, n, named, p, m) = (only v e n (Returned named) p).0

  no_answer : (w : Named) (v : ServerId) (e n : ℕ) → Sends s v e n (Returned w) ⊎ Sends s v e n (Kept w) → ⊥
  no_answer w v e n (inl p) = (only v e n (Returned w) p).0
  no_answer w v e n (inr p) = (only v e n (Kept w) p).0

  left : (i : TokenId) → LeavesHost s i → ⊥
  left i (inl e) = elim e.1 [ ]
  left i (inr e) = no_returned i e

  plain_may : ((t : Token) → In t taken → (w : Bring) × Uses past s w × In t w.tokens × (t.fid ≡ w.fid) × (HoldsId past t.id → ⊥)) → HostTokens past s
  plain_may takes = record {
    live = λ d. before d.0 d.1 d.2 Down d.3;
    stops_alone = λ v e n b p q. absurd (only p.0 p.1 p.2 Down p.3).0;
    epochs = λ v e n b p. (only v e n b p).1;
    takes = takes;
    drops = λ t a l. absurd (left t.id l);
    drops_only = λ t d. elim d.1 [ ];
    returns = λ i r. absurd (no_returned i r);
    returns_free = λ i g r. absurd (no_returned i r);
    answers = λ w v e n p. absurd (no_answer w v e n p);
    answers_file = λ w v e n t p. absurd (no_answer w v e n p);
    makes = λ g i e. elim e [ ];
    makes_once = λ g k i e. elim e [ ];
    makes_from = λ g e. elim e [ ];
    makes_apart = λ g k e. elim e [ ];
    makes_new = λ g k e. elim e [ ];
    gives = λ g v e n p. absurd (only v e n (GiveBack g) p).0;
    gives_first = λ g k v e n p. absurd (only v e n (GiveBack g) p).0;
    fetches = λ f v e n p. let q = only v e n (Fetch f) p in ((λ i. record { server = (q.0 ∙ q.2) i; moves = q.3 i }), λ w b. before w b.0 b.1 Bye b.2);
    changes = λ c v e n p. let q = only v e n (Change c) p in (inl (q.0, sym q.3), λ w b. before w b.0 b.1 Bye b.2);
    claims = λ v e n c p. absurd (only v e n (Reclaim c) p).0;
    bye_held = λ v e n t p. absurd (only v e n Bye p).0;
    bye_gives = λ v e n g p. absurd (only v e n Bye p).0;
    bye_asking = λ v e n fs k p. absurd (only v e n Bye p).0;
    bye_changing = λ v w e n fs k p. absurd (only v e n Bye p).0;
  }

nothing_taken : (past : List Step) (s : Step) (t : Token) → In t [] → (w : Bring) × Uses past s w × In t w.tokens × (t.fid ≡ w.fid) × (HoldsId past t.id → ⊥)
nothing_taken past s t e = elim e [ ]

-- a step that sends one message
pub one_sent : (past : List Step) (s : Step) (n : ℕ) (body : Body) → s.sent ≡ to_server n body ∷ [] → IsPlain body → epoch_at (s ∷ past) site_one ≡ n → SendsPlain past s
one_sent past s n body sent is now v e k b (m, i, at, epoch_is, moves, body_is) = go (subst (In m) sent i)
  where
    go : In m (to_server n body ∷ []) → IsPlain b × (e ≡ epoch_at (s ∷ past) v) × (site_one ≡ v) × (0 ≡ k)
    go (inl p) =
        let server_is : site_one ≡ v = ap (λ (x : Message). x.server) (sym p) ∙ at in (
          subst IsPlain (ap (λ (x : Message). x.body) (sym p) ∙ body_is) is,
          sym epoch_is ∙ (ap (λ (x : Message). x.epoch) p ∙ (sym now ∙ ap (epoch_at (s ∷ past)) server_is)),
          server_is,
          ap (λ (x : Message). x.moves) (sym p) ∙ moves,
        )
    go (inr p) = elim p [ ]

pub none_sent : (past : List Step) (s : Step) → s.sent ≡ [] → SendsPlain past s
none_sent past s sent v e n b (m, i, _, _, _, _) = absurd (subst (In m) sent i)

first_said : SaidPlain []
first_said v e n b p = elim p [ ]

module _ (whole : Span) where
  abbrev pub one : List Step
  one = greets ∷ []

  abbrev pub two : List Step
  two = enters ∷ greets ∷ []

  abbrev pub three : List Step
  three = fetches whole ∷ enters ∷ greets ∷ []

  abbrev pub four : List Step
  four = takes whole ∷ fetches whole ∷ enters ∷ greets ∷ []

  pub greets_sends : SendsPlain [] greets
  greets_sends = one_sent [] greets 0 Hello refl tt refl

  pub enters_sends : SendsPlain one enters
  enters_sends = one_sent one enters 1 (Change enter) refl refl refl

  pub fetches_sends : SendsPlain two (fetches whole)
  fetches_sends = one_sent two (fetches whole) 1 (Fetch (asks_for whole)) refl at_one refl

  said_one : SaidPlain one
  said_one = said_more [] greets first_said greets_sends

  said_two : SaidPlain two
  said_two = said_more one enters said_one enters_sends

  said_three : SaidPlain three
  said_three = said_more two (fetches whole) said_two fetches_sends

  pub said_four : SaidPlain four
  said_four = said_more three (takes whole) said_three (none_sent three (takes whole) refl)

  pub greets_may : HostTokens [] greets
  greets_may = plain_may [] greets.node greets.cause greets.asked greets.answers [] greets.sent first_said greets_sends (nothing_taken [] greets)

  pub enters_may : HostTokens one enters
  enters_may = plain_may one enters.node enters.cause enters.asked enters.answers [] enters.sent said_one enters_sends (nothing_taken one enters)

  pub fetches_may : HostTokens two (fetches whole)
  fetches_may = plain_may two (fetches whole).node (fetches whole).cause (fetches whole).asked (fetches whole).answers [] (fetches whole).sent said_two fetches_sends (nothing_taken two (fetches whole))

  pub cache_may : HostTokens four from_cache
  cache_may = plain_may four from_cache.node from_cache.cause from_cache.asked from_cache.answers [] from_cache.sent said_four (none_sent four from_cache refl) (nothing_taken four from_cache)

  -- the cause of a step is its own message
  pub came : (m n : Message) → Came m ≡ Came n → m ≡ n
  came m n e = cc

  no_line : (k : ℕ) (v : ServerId) (e n : ℕ) (b : Body) (s : Step) → s.cause ≡ Line k → ComesIn s v e n b → ⊥
  no_line k v e n b s at c = let p = c.1 in cc

  -- what comes is the step's message
  pub its_body : (s : Step) (m : Message) (v : ServerId) (e n : ℕ) (b : Body) → s.cause ≡ Came m → ComesIn s v e n b → m.body ≡ b
  its_body s m v e n b at c = ap (λ (x : Message). x.body) (came m c.0 (sym at ∙ c.1)) ∙ c.5

  not_revoked : (past : List Step) (s : Step) (m : Message) (r : RevokeOf) → s.cause ≡ Came m → (m.body ≡ Revoke r → ⊥) → About past s root.fileset (Revoke r) → ⊥
  not_revoked past s m r at other c = other (its_body s m (home root.fileset) (epoch_at past (home root.fileset)) 0 (Revoke r) at c)

  above : AboveFloor three root 1
  above = inr (
    inr (
      inr (omega arith, λ r c at. absurd (no_line 6 (home root.fileset) 0 0 (Revoke r) greets refl c), λ w a up free at. absurd (no_answer w a)),
      λ r c at. absurd (not_revoked one enters (to_host (Reclaimed welcome)) r refl (λ p. cc) c),
      λ w a up free at. absurd (no_answer_two w a),
    ),
    λ r c at. absurd (not_revoked two (fetches whole) (to_host (Done entered)) r refl (λ p. cc) c),
    λ w a up free at. absurd (no_answer_three w a at),
  )
    where
      no_answer : (w : Bring) → AnswersRequest [] greets w → ⊥
      no_answer w (inl g) = no_line 6 (home w.fid.fileset) 0 0 (Grant g.0) greets refl g.1
      no_answer w (inr g) = no_line 6 (home w.fid.fileset) 0 0 (Done g.0) greets refl g.1

      no_answer_two : (w : Bring) → AnswersRequest one enters w → ⊥
      no_answer_two w (inl (g, c, _, _)) = (let p = its_body enters (to_host (Reclaimed welcome)) (home w.fid.fileset) (epoch_at one (home w.fid.fileset)) 0 (Grant g) refl c in cc)
      no_answer_two w (inr (g, c, _, _, _)) = (let p = its_body enters (to_host (Reclaimed welcome)) (home w.fid.fileset) (epoch_at one (home w.fid.fileset)) 0 (Done g) refl c in cc)

      no_answer_three : (w : Bring) → AnswersRequest two (fetches whole) w → w.fid ≡ root → ⊥
      no_answer_three w (inl (g, c, _, _)) at = (let p = its_body (fetches whole) (to_host (Done entered)) (home w.fid.fileset) (epoch_at two (home w.fid.fileset)) 0 (Grant g) refl c in cc)
      no_answer_three w (inr (g, c, is, _, _)) at =
          let p : Done entered ≡ Done g = its_body (fetches whole) (to_host (Done entered)) (home w.fid.fileset) (epoch_at two (home w.fid.fileset)) 0 (Done g) refl c in
          let q : entered ≡ g = cc in
          let f : no_fid.anode ≡ root.anode = ap (λ (x : DoneOf). x.bring.fid.anode) q ∙ (ap (λ (x : Bring). x.fid.anode) is ∙ ap (λ (x : Fid). x.anode) at) in
          omega (arith, f)

  pub asking : Asking three root.fileset 1
  asking = (
    inl (asks_for whole, (site_one, 1, 0, (to_server 1 (Fetch (asks_for whole)), inl refl, refl, refl, refl, refl)), refl, refl),
    λ g c at n. let p = its_body (fetches whole) (to_host (Done entered)) (home root.fileset) (epoch_at two (home root.fileset)) 0 (Grant g) refl c in cc,
  )

  epoch_there : epoch_at three (home root.fileset) ≡ 1
  epoch_there = ap (epoch_at three) at_one

  pub used : Uses three (takes whole) (granted whole).bring
  used = (inl (granted whole, (to_host (Grant (granted whole)), refl, sym at_one, sym epoch_there, refl, refl), refl, asking), above, λ o. elim o.1 [ inl e ↦ elim e [ ] | inr e ↦ elim e [ inl f ↦ elim f [ ] | inr f ↦ elim f [ inl p ↦ elim p [ ] | inr p ↦ elim p [ ] ] ] ])

  none_held : (t : Token) → Held three t → ⊥
  none_held t k = elim k.0 [ inl e ↦ elim e [ ] | inr k ↦ elim k.0 [ inl e ↦ elim e [ ] | inr k ↦ elim k.0 [ inl e ↦ elim e [ ] | inr k ↦ elim k [ ] ] ] ]

  pub takes_may : HostTokens three (takes whole)
  takes_may = plain_may three (takes whole).node (takes whole).cause (takes whole).asked (takes whole).answers (takes whole).taken [] said_three (none_sent three (takes whole) refl) taken
    where
      fid_of : (t : Token) → In t (granted whole).bring.tokens → t.fid ≡ root
      fid_of t (inl e) = ap (λ (x : Token). x.fid) e
      fid_of t (inr (inl e)) = ap (λ (x : Token). x.fid) e
      fid_of t (inr (inr e)) = elim e [ ]

      taken : (t : Token) → In t (granted whole).bring.tokens → (w : Bring) × Uses three (takes whole) w × In t w.tokens × (t.fid ≡ w.fid) × (HoldsId three t.id → ⊥)
      taken t m = ((granted whole).bring, used, m, fid_of t m, λ k. none_held k.0 k.1)

  -- the server's doings before it grants
  abbrev pub began : List Doing
  began = BeginsEpoch 1 ∷ []

  abbrev pub welcomed : List Doing
  welcomed = Reserves [] ∷ Sent client 1 0 (Reclaimed welcome) ∷ Took client 0 0 Hello ∷ began

  abbrev pub told : List Doing
  told = Reserves [] ∷ Sent client 1 0 (Done entered) ∷ WantsOf wants_enter ∷ Took client 1 0 (Change enter) ∷ welcomed

  abbrev pub asked : List Doing
  asked = WantsOf (wants_root whole) ∷ Took client 1 0 (Fetch (asks_for whole)) ∷ told

  -- a doing that neither lists a host, nor ends one, nor grants or tells anything of the root
  pub record IsDull (a : Doing) : Type 0 where
    pub no_hello : (h : HostId) (e n : ℕ) → a ≡ Took h e n Hello → ⊥
    pub no_down : (h : HostId) (e n : ℕ) → a ≡ Took h e n Down → ⊥
    pub no_bye : (h : HostId) (e n : ℕ) → a ≡ Took h e n Bye → ⊥
    pub no_begin : IsNewEpoch a → ⊥
    pub no_issue : (t : Token) (k : StayStamp) → Issues a t k → ⊥
    pub no_grant : (t : Token) → IsNewlyGranted a t → ⊥
    pub no_tell : (x : ℕ) → UsesStamp a root x → ⊥
    pub no_reserve : (t : Token) → ((ts : List Token) × (a ≡ Reserves ts) × In t ts) → ⊥

  -- what is so of what the server has done before it grants
  pub record IsNew (past : List Doing) : Type 0 where
    pub listed : Listed past client
    pub listed_is : (h : HostId) → Listed past h → h ≡ client
    pub here : (h : HostId) → HasGoneAway past h → ⊥
    pub reclaimed : HasReclaimed past client
    pub none_issued : (t : Token) (k : StayStamp) → Issued past t k → ⊥
    pub none_granted : (t : Token) → Granted site_one past t → ⊥
    pub none_told : (x : ℕ) → HasUsedStamp past root x → ⊥
    pub none_reserved : (t : Token) → Reserved past t → ⊥

  pub still_new : (past : List Doing) (a : Doing) → IsNew past → IsDull a → IsNew (a ∷ past)
  still_new past a is dull = record {
    listed = inr is.listed;
    listed_is = λ h l. elim l [ inl p ↦ absurd (dull.no_hello h p.0.0 p.0.1 p.0.2) | inr p ↦ is.listed_is h p ];
    here = λ h w. elim w [ inl p ↦ elim p [ inl q ↦ dull.no_down h q.0 q.1 q.2 | inr q ↦ dull.no_bye h (epoch past) q.0.0 q.0.1 ] | inr p ↦ is.here h p ];
    reclaimed = inr (is.reclaimed, dull.no_begin);
    none_issued = λ t k i. elim i [ inl p ↦ dull.no_issue t k p | inr p ↦ is.none_issued t k p ];
    none_granted = λ t g. elim g [ inl p ↦ dull.no_grant t p | inr p ↦ is.none_granted t p.0 ];
    none_told = λ x t. elim t [ inl p ↦ dull.no_tell x p | inr p ↦ is.none_told x p.0 ];
    none_reserved = λ t r. elim r [ inl p ↦ dull.no_reserve t p | inr p ↦ is.none_reserved t p.0 ];
  }

  -- a doing that brings nothing and reserves nothing is dull
  pub record BringsNone (a : Doing) : Type 0 where
    pub no_send : (h : HostId) (e n : ℕ) (b : Body) → a ≡ Sent h e n b → ⊥
    pub no_admit : (h : HostId) (ts : List Token) → a ≡ Admits h ts → ⊥

  no_bring : (a : Doing) → BringsNone a → (k : HostId) (d n : ℕ) (w : Bring) → BringsTokens a k d n w → ⊥
  no_bring a none k d n w (inl p) = none.no_send k d n (Grant p.0) p.1
  no_bring a none k d n w (inr p) = none.no_send k d n (Done p.0) p.1

  none_dull : (a : Doing) → BringsNone a → ((h : HostId) (e n : ℕ) → a ≡ Took h e n Hello → ⊥) → ((h : HostId) (e n : ℕ) → a ≡ Took h e n Down → ⊥) → ((h : HostId) (e n : ℕ) → a ≡ Took h e n Bye → ⊥) → (IsNewEpoch a → ⊥) → ((t : Token) → ((ts : List Token) × (a ≡ Reserves ts) × In t ts) → ⊥) → IsDull a
  none_dull a none hello down bye begin reserve = record {
    no_hello = hello;
    no_down = down;
    no_bye = bye;
    no_begin = begin;
    no_issue = λ t k i. no_bring a none i.0 i.1 k.moves i.2 i.3;
    no_grant = λ t g. elim g [ inl p ↦ no_bring a none p.1.0 p.1.1 p.0.moves p.1.2 p.1.3 | inr p ↦ none.no_admit t.host p.0 p.1 ];
    no_tell = λ x t. elim t [ inl p ↦ no_bring a none p.0 p.1 p.2 p.3 p.4 | inr p ↦ none.no_send p.0 p.1 p.2 (Revoke p.3) p.4 ];
    no_reserve = reserve;
  }

  pub took_dull : (h : HostId) (e n : ℕ) (b : Body) → (b ≡ Hello → ⊥) → (b ≡ Down → ⊥) → (b ≡ Bye → ⊥) → IsDull (Took h e n b)
  took_dull h e n b x y z = none_dull (Took h e n b) (record { no_send = λ k d m c p. cc; no_admit = λ k ts p. cc }) (λ k d m p. x (cc)) (λ k d m p. y (cc)) (λ k d m p. z (cc)) (λ p. let q = p.1 in cc) (λ t p. let q = p.1 in cc)

  pub wants_dull : (w : Wanted) → IsDull (WantsOf w)
  wants_dull w = none_dull (WantsOf w) (record { no_send = λ k d m c p. cc; no_admit = λ k ts p. cc }) (λ k d m p. cc) (λ k d m p. cc) (λ k d m p. cc) (λ p. let q = p.1 in cc) (λ t p. let q = p.1 in cc)

  pub reserves_dull : IsDull (Reserves [])
  reserves_dull = none_dull (Reserves []) (record { no_send = λ k d m c p. cc; no_admit = λ k ts p. cc }) (λ k d m p. cc) (λ k d m p. cc) (λ k d m p. cc) (λ p. let q = p.1 in cc) (λ t p. let q : [] ≡ p.0 = cc in subst (In t) (sym q) p.2)

  -- a Reclaimed brings nothing, and the Done brings nothing of the root
  brings_welcome : (k : HostId) (d n : ℕ) (w : Bring) → BringsTokens (Sent client 1 0 (Reclaimed welcome)) k d n w → ⊥
  brings_welcome k d n w (inl p) = let q = p.1 in cc
  brings_welcome k d n w (inr p) = let q = p.1 in cc

  welcome_dull : IsDull (Sent client 1 0 (Reclaimed welcome))
  welcome_dull = record {
    no_hello = λ k d n p. cc;
    no_down = λ k d n p. cc;
    no_bye = λ k d n p. cc;
    no_begin = λ p. let q = p.1 in cc;
    no_issue = λ t k i. brings_welcome i.0 i.1 k.moves i.2 i.3;
    no_grant = λ t g. elim g [ inl p ↦ brings_welcome p.1.0 p.1.1 p.0.moves p.1.2 p.1.3 | inr p ↦ (let q = p.1 in cc) ];
    no_tell = λ n t. elim t [ inl p ↦ brings_welcome p.0 p.1 p.2 p.3 p.4 | inr p ↦ (let q = p.4 in cc) ];
    no_reserve = λ t p. let q = p.1 in cc;
  }

  brings_entered : (k : HostId) (d n : ℕ) (w : Bring) → BringsTokens (Sent client 1 0 (Done entered)) k d n w → entered.bring ≡ w
  brings_entered k d n w (inl p) = absurd (let q = p.1 in cc)
  brings_entered k d n w (inr p) = let q = p.1 in let r : entered ≡ p.0 = cc in ap (λ (x : DoneOf). x.bring) r ∙ p.2

  entered_dull : IsDull (Sent client 1 0 (Done entered))
  entered_dull = record {
    no_hello = λ k d n p. cc;
    no_down = λ k d n p. cc;
    no_bye = λ k d n p. cc;
    no_begin = λ p. let q = p.1 in cc;
    no_issue = λ t k i. subst (λ (w : Bring). In t w.tokens) (sym (brings_entered i.0 i.1 k.moves i.2 i.3)) i.4;
    no_grant = λ t g. elim g [ inl p ↦ subst (λ (w : Bring). In t w.tokens) (sym (brings_entered p.1.0 p.1.1 p.0.moves p.1.2 p.1.3)) p.1.4 | inr p ↦ (let q = p.1 in cc) ];
    no_tell = λ n t. elim t [ inl p ↦ (let q : no_fid.anode ≡ root.anode = ap (λ (w : Bring). w.fid.anode) (brings_entered p.0 p.1 p.2 p.3 p.4) ∙ ap (λ (x : Fid). x.anode) p.5 in omega (arith, q)) | inr p ↦ (let q = p.4 in cc) ];
    no_reserve = λ t p. let q = p.1 in cc;
  }

  begins_none : (n : ℕ) → BringsNone (BeginsEpoch n)
  begins_none n = record { no_send = λ k d m c p. cc; no_admit = λ k ts p. cc }

  hello_none : BringsNone (Took client 0 0 Hello)
  hello_none = record { no_send = λ k d m c p. cc; no_admit = λ k ts p. cc }

  pub greeted : IsNew (Took client 0 0 Hello ∷ began)
  greeted = record {
    listed = inl ((0, 0, refl), unlisted client, down client);
    listed_is = λ h l. elim l [ inl p ↦ (let q = p.0.2 in cc) | inr p ↦ absurd (unlisted h p) ];
    here = λ h w. elim w [ inl p ↦ elim p [ inl q ↦ (let r = q.2 in cc) | inr q ↦ (let r = q.0.1 in cc) ] | inr p ↦ elim p [ inl q ↦ elim q [ inl r ↦ (let x = r.2 in cc) | inr r ↦ (let x = r.0.1 in cc) ] | inr q ↦ elim q [ ] ] ];
    reclaimed = inl (inr (inl ((0, 0, refl), unlisted client, down client), unlisted client));
    none_issued = λ t k i. elim i [ inl p ↦ no_bring (Took client 0 0 Hello) hello_none p.0 p.1 k.moves p.2 p.3 | inr p ↦ elim p [ inl q ↦ no_bring (BeginsEpoch 1) (begins_none 1) q.0 q.1 k.moves q.2 q.3 | inr q ↦ elim q [ ] ] ];
    none_granted = λ t g. elim g [ inl p ↦ elim p [ inl q ↦ no_bring (Took client 0 0 Hello) hello_none q.1.0 q.1.1 q.0.moves q.1.2 q.1.3 | inr q ↦ (let r = q.1 in cc) ] | inr p ↦ elim p.0 [ inl q ↦ elim q [ inl r ↦ no_bring (BeginsEpoch 1) (begins_none 1) r.1.0 r.1.1 r.0.moves r.1.2 r.1.3 | inr r ↦ (let x = r.1 in cc) ] | inr q ↦ elim q.0 [ ] ] ];
    none_told = λ x t. elim t [ inl p ↦ elim p [ inl q ↦ no_bring (Took client 0 0 Hello) hello_none q.0 q.1 q.2 q.3 q.4 | inr q ↦ (let r = q.4 in cc) ] | inr p ↦ elim p.0 [ inl q ↦ elim q [ inl r ↦ no_bring (BeginsEpoch 1) (begins_none 1) r.0 r.1 r.2 r.3 r.4 | inr r ↦ (let y = r.4 in cc) ] | inr q ↦ elim q.0 [ ] ] ];
    none_reserved = λ t r. elim r [ inl p ↦ (let q = p.1 in cc) | inr p ↦ elim p.0 [ inl q ↦ (let x = q.1 in cc) | inr q ↦ elim q.0 [ ] ] ];
  }
    where
      down : (h : HostId) → HasGoneDown began h → ⊥
      down h d = elim d [ inl p ↦ (let q = p.2 in cc) | inr p ↦ elim p [ ] ]

      unlisted : (h : HostId) → Listed began h → ⊥
      unlisted h l = elim l [ inl p ↦ (let q = p.0.2 in cc) | inr p ↦ elim p [ ] ]

  pub welcomed_new : IsNew welcomed
  welcomed_new = still_new _ _ (still_new _ _ greeted welcome_dull) reserves_dull

  pub told_new : IsNew told
  told_new = still_new _ _ (still_new _ _ (still_new _ _ (still_new _ _ welcomed_new (took_dull client 1 0 (Change enter) (λ p. cc) (λ p. cc) (λ p. cc))) (wants_dull wants_enter)) entered_dull) reserves_dull

  pub asked_new : IsNew asked
  asked_new = still_new _ _ (still_new _ _ told_new (took_dull client 1 0 (Fetch (asks_for whole)) (λ p. cc) (λ p. cc) (λ p. cc))) (wants_dull (wants_root whole))

  one_of : (t : Token) → In t (granted whole).bring.tokens → (t ≡ token 1 (Status false)) ⊎ (t ≡ token 2 (Bytes false whole))
  one_of t (inl e) = inl e
  one_of t (inr (inl e)) = inr e
  one_of t (inr (inr e)) = elim e [ ]

  -- what both tokens have
  both : (P : Token → Type 0) → P (token 1 (Status false)) → P (token 2 (Bytes false whole)) → (t : Token) → In t (granted whole).bring.tokens → P t
  both P x y t m = elim (one_of t m) [ inl e ↦ subst P (sym e) x | inr e ↦ subst P (sym e) y ]

  pub may_bring : MayBring site_one asked client 0 (granted whole).bring
  may_bring = record {
    over = λ h l. subst (HasReclaimed asked) (sym (asked_new.listed_is h l.0)) asked_new.reclaimed;
    live = (asked_new.listed, asked_new.here client);
    home = here_one;
    stamp = (omega arith, λ x t. absurd (asked_new.none_told x t));
    host_is = both (λ t. t.host ≡ client) refl refl;
    file = both (λ t. t.fid ≡ root) refl refl;
    id = both (λ t. t.id.server ≡ site_one) refl refl;
    now = both (λ t. t.id.epoch ≡ 1) refl refl;
    new = λ t u k m i. absurd (asked_new.none_issued u k i);
    apart = λ t u m n e. two t u (one_of t m) (one_of u n) e;
    free = λ t u m g. absurd (elim g [ inl p ↦ asked_new.none_granted u p | inr p ↦ asked_new.none_reserved u p ]);
  }
    where
      two : (t u : Token) → (t ≡ token 1 (Status false)) ⊎ (t ≡ token 2 (Bytes false whole)) → (u ≡ token 1 (Status false)) ⊎ (u ≡ token 2 (Bytes false whole)) → t.id ≡ u.id → t ≡ u
      two t u (inl p) (inl q) e = p ∙ sym q
      two t u (inr p) (inr q) e = p ∙ sym q
      two t u (inl p) (inr q) e = absurd (let s : 1 ≡ 2 = ap (λ (x : Token). x.id.seq) (sym p) ∙ (ap (λ (x : TokenId). x.seq) e ∙ ap (λ (x : Token). x.id.seq) q) in omega (arith, s))
      two t u (inr p) (inl q) e = absurd (let s : 2 ≡ 1 = ap (λ (x : Token). x.id.seq) (sym p) ∙ (ap (λ (x : TokenId). x.seq) e ∙ ap (λ (x : Token). x.id.seq) q) in omega (arith, s))

  epoch_of_sent : (past : List Doing) (b c : Body) (h : HostId) (e n : ℕ) → epoch past ≡ 1 → Sent client 1 0 b ≡ Sent h e n c → e ≡ epoch past
  epoch_of_sent past b c h e n now p = let q : 1 ≡ e = cc in sym q ∙ sym now

  -- a Reclaimed and a Done that bring nothing, a want, and what the exporter doesn't keep
  pub welcome_may : (past : List Doing) → epoch past ≡ 1 → ServerTokens site_one past (Sent client 1 0 (Reclaimed welcome))
  welcome_may past now = record {
    epochs = λ h e n b p. epoch_of_sent past (Reclaimed welcome) b h e n now p;
    grants = λ h e n w p. absurd (cc);
    dones = λ h e n w p. absurd (cc);
    revokes = λ h e n r i p. absurd (cc);
    revokes_here = λ h e n r p. absurd (cc);
    stamps = λ h e n x r p. absurd (cc);
    gones = λ h e n g p. absurd (cc);
    reclaimed = λ h e n r g p m. let q : welcome ≡ r = cc in elim (subst (λ (x : ReclaimedOf). In g x.applied) (sym q) m) [ ];
    left_out = λ h e n r i p m. let q : welcome ≡ r = cc in elim (subst (λ (x : ReclaimedOf). In i x.left_out) (sym q) m) [ ];
    admits = λ h ts p. absurd (cc);
    writes = λ w p. absurd (cc);
    writes_once = λ w p. absurd (cc);
    reserves = λ ts t u p. absurd (cc);
  }

  pub entered_may : (past : List Doing) → epoch past ≡ 1 → ServerTokens site_one past (Sent client 1 0 (Done entered))
  entered_may past now = record {
    epochs = λ h e n b p. epoch_of_sent past (Done entered) b h e n now p;
    grants = λ h e n w p. absurd (cc);
    dones = λ h e n w p. let q : entered ≡ w = cc in inl (ap (λ (x : DoneOf). x.bring.tokens) (sym q));
    revokes = λ h e n r i p. absurd (cc);
    revokes_here = λ h e n r p. absurd (cc);
    stamps = λ h e n x r p. absurd (cc);
    gones = λ h e n g p. absurd (cc);
    reclaimed = λ h e n r g p. absurd (cc);
    left_out = λ h e n r i p. absurd (cc);
    admits = λ h ts p. absurd (cc);
    writes = λ w p. absurd (cc);
    writes_once = λ w p. absurd (cc);
    reserves = λ ts t u p. absurd (cc);
  }

  pub grant_may : ServerTokens site_one asked (Sent client 1 0 (Grant (granted whole)))
  grant_may = record {
    epochs = λ h e n b p. epoch_of_sent asked (Grant (granted whole)) b h e n refl p;
    grants = λ h e n w p. let q : granted whole ≡ w = cc in let k : client ≡ h = cc in let o : 0 ≡ n = cc in
        subst (λ (x : HostId × ℕ × GrantOf). MayBring site_one asked x.0 x.1 x.2.bring × AskedFetch asked x.0 x.1 x.2) (λ i. (k i, o i, q i)) (may_bring, (asks_for whole, inr (inl (refl, (told_new.listed, told_new.here client)), λ b. let c = b.1 in cc), refl, refl));
    dones = λ h e n w p. absurd (cc);
    revokes = λ h e n r i p. absurd (cc);
    revokes_here = λ h e n r p. absurd (cc);
    stamps = λ h e n x r p. absurd (cc);
    gones = λ h e n g p. absurd (cc);
    reclaimed = λ h e n r g p. absurd (cc);
    left_out = λ h e n r i p. absurd (cc);
    admits = λ h ts p. absurd (cc);
    writes = λ w p. absurd (cc);
    writes_once = λ w p. absurd (cc);
    reserves = λ ts t u p. absurd (cc);
  }

  pub wants_may : (past : List Doing) (x : Wanted) → ServerTokens site_one past (WantsOf x)
  wants_may past x = record {
    epochs = λ h e n b p. absurd (cc);
    grants = λ h e n w p. absurd (cc);
    dones = λ h e n w p. absurd (cc);
    revokes = λ h e n r i p. absurd (cc);
    revokes_here = λ h e n r p. absurd (cc);
    stamps = λ h e n y r p. absurd (cc);
    gones = λ h e n g p. absurd (cc);
    reclaimed = λ h e n r g p. absurd (cc);
    left_out = λ h e n r i p. absurd (cc);
    admits = λ h ts p. absurd (cc);
    writes = λ w p. absurd (cc);
    writes_once = λ w p. absurd (cc);
    reserves = λ ts t u p. absurd (cc);
  }

  pub reserves_may : (past : List Doing) → ServerTokens site_one past (Reserves [])
  reserves_may past = record {
    epochs = λ h e n b p. absurd (cc);
    grants = λ h e n w p. absurd (cc);
    dones = λ h e n w p. absurd (cc);
    revokes = λ h e n r i p. absurd (cc);
    revokes_here = λ h e n r p. absurd (cc);
    stamps = λ h e n x r p. absurd (cc);
    gones = λ h e n g p. absurd (cc);
    reclaimed = λ h e n r g p. absurd (cc);
    left_out = λ h e n r i p. absurd (cc);
    admits = λ h ts p. absurd (cc);
    writes = λ w p. absurd (cc);
    writes_once = λ w p. absurd (cc);
    reserves = λ ts t u p m. let q : [] ≡ ts = cc in elim (subst (In t) (sym q) m) [ ];
  }

  -- the server's steps
  pub welcomes_may : ServerStep site_one began welcomes
  welcomes_may = record { writes = tt; admits = tt; sends = (welcome_may (Took client 0 0 Hello ∷ began) refl, tt); reserves = reserves_may (Sent client 1 0 (Reclaimed welcome) ∷ Took client 0 0 Hello ∷ began) }

  pub tells_may : ServerStep site_one welcomed tells
  tells_may = record { writes = (wants_may (Took client 1 0 (Change enter) ∷ welcomed) wants_enter, tt); admits = tt; sends = (entered_may (WantsOf wants_enter ∷ Took client 1 0 (Change enter) ∷ welcomed) refl, tt); reserves = reserves_may (Sent client 1 0 (Done entered) ∷ WantsOf wants_enter ∷ Took client 1 0 (Change enter) ∷ welcomed) }

  pub grants_may : ServerStep site_one told (grants whole)
  grants_may = record { writes = (wants_may (Took client 1 0 (Fetch (asks_for whole)) ∷ told) (wants_root whole), tt); admits = tt; sends = (grant_may, tt); reserves = reserves_may (Sent client 1 0 (Grant (granted whole)) ∷ asked) }

  same_line : (n : ℕ) (m : Message) → Line n ≡ Came m → ⊥
  same_line n m e = cc

  -- the run
  pub to_it : (n : ℕ) (b : Body) (m : Message) → In m (to_server n b ∷ []) → IsFrom (Host client) m
  to_it n b m (inl e) = (ap (λ (x : Message). x.host) e, ap (λ (x : Message). x.direction) e)
  to_it n b m (inr e) = elim e [ ]

  pub from_it : (b : Body) (m : Message) → In m (to_host b ∷ []) → IsFrom (Server site_one) m
  from_it b m (inl e) = (ap (λ (x : Message). x.server) e, ap (λ (x : Message). x.direction) e)
  from_it b m (inr e) = elim e [ ]

  -- a host's cause that its server sent, a server's that its host said
  pub host_cause : (past : List Step) (s : Step) (b : Body) → s.cause ≡ Came (to_host b) → SentTo (doings_of 1 site_one past) client 1 0 b → CameToHost (λ v. 1) client past s
  host_cause past s b is sent m e =
      let p : to_host b ≡ m = came (to_host b) m (sym is ∙ e) in
      subst (λ (x : Message). (x.host ≡ client) × (x.direction ≡ ToHost) × SentTo (doings_of 1 x.server past) client x.epoch x.moves x.body) p (refl, refl, sent)

  pub server_cause : (past : List Step) (s : Step) (n : ℕ) (b : Body) → s.cause ≡ Came (to_server n b) → Said (steps_of_host client past) site_one n 0 b → CameToServer site_one past s
  server_cause past s n b is said m e =
      let p : to_server n b ≡ m = came (to_server n b) m (sym is ∙ e) in
      subst (λ (x : Message). (x.server ≡ site_one) × (x.direction ≡ ToServer) × Said (steps_of_host x.host past) site_one x.epoch x.moves x.body) p (refl, refl, said)

  pub line_cause : (past : List Step) (s : Step) (n : ℕ) → s.cause ≡ Line n → CameToHost (λ v. 1) client past s
  line_cause past s n is m e = absurd (same_line n m (sym is ∙ e))

  abbrev steps_1 : List Step
  steps_1 = greets ∷ []

  abbrev steps_2 : List Step
  steps_2 = welcomes ∷ steps_1

  abbrev steps_3 : List Step
  steps_3 = enters ∷ steps_2

  abbrev steps_4 : List Step
  steps_4 = tells ∷ steps_3

  abbrev steps_5 : List Step
  steps_5 = fetches whole ∷ steps_4

  abbrev steps_6 : List Step
  steps_6 = grants whole ∷ steps_5

  abbrev steps_7 : List Step
  steps_7 = takes whole ∷ steps_6

  run_1 : IsTokenRun (λ v. 1) steps_1
  run_1 = (λ v. omega arith, (greets_may, line_cause [] greets 6 refl), to_it 0 Hello, refl)

  run_2 : IsTokenRun (λ v. 1) steps_2
  run_2 = (run_1, (welcomes_may, server_cause steps_1 welcomes 0 Hello refl (inl (to_server 0 Hello, inl refl, refl, refl, refl, refl))), from_it (Reclaimed welcome), refl)

  run_3 : IsTokenRun (λ v. 1) steps_3
  run_3 = (run_2, (enters_may, host_cause steps_2 enters (Reclaimed welcome) refl (inr (inl refl))), to_it 1 (Change enter), refl)

  run_4 : IsTokenRun (λ v. 1) steps_4
  run_4 = (run_3, (tells_may, server_cause steps_3 tells 1 (Change enter) refl (inl (to_server 1 (Change enter), inl refl, refl, refl, refl, refl))), from_it (Done entered), refl)

  run_5 : IsTokenRun (λ v. 1) steps_5
  run_5 = (run_4, (fetches_may, host_cause steps_4 (fetches whole) (Done entered) refl (inr (inl refl))), to_it 1 (Fetch (asks_for whole)), refl)

  run_6 : IsTokenRun (λ v. 1) steps_6
  run_6 = (run_5, (grants_may, server_cause steps_5 (grants whole) 1 (Fetch (asks_for whole)) refl (inl (to_server 1 (Fetch (asks_for whole)), inl refl, refl, refl, refl, refl))), from_it (Grant (granted whole)), refl)

  run_7 : IsTokenRun (λ v. 1) steps_7
  run_7 = (run_6, (takes_may, host_cause steps_6 (takes whole) (Grant (granted whole)) refl (inr (inl refl))), λ m i. elim i [ ], refl)

  pub a_run : IsTokenRun (λ v. 1) (worked whole)
  a_run = (run_7, (cache_may, line_cause steps_7 from_cache 7 refl), λ m i. elim i [ ], refl)

  pub holds : Held (steps_of_host client (worked whole)) (token 2 (Bytes false whole))
  holds = (inr (inl (inr (inl refl)), λ d. elim d.1 [ ]), λ d. elim d.1 [ ])

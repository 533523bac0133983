-- Requests: which wants and which answers are those of one, and that an answer that comes ends it.
use Rattle.std.proofs.Common.{List, ap, inl, inr, refl, subst, sym, ℕ, ◌∙◌, ◌∷◌, ◌≡◌, ◌⊎◌}
use Rattle.base_types.specs.declared.ids.FilesetId.{FilesetId}
use Rattle.base_types.specs.declared.ids.HostId.{HostId}
use Rattle.base_types.specs.declared.ids.Node.TheVariants.{Host}
use Rattle.base_types.specs.declared.ids.ServerId.{ServerId}
use Rattle.tree_answers.specs.declared.tree.Tree.{Tree}
use Rattle.script_lines.specs.declared.script.Script.{Script}
use Rattle.message_types.specs.declared.asking.Change.{Change as ChangeOf}
use Rattle.message_types.specs.declared.message.Body.{Body}
use Rattle.message_types.specs.declared.message.Body.TheVariants.{Change, Done, Fetch, Grant}
use Rattle.message_types.specs.declared.message.Message.{Message}
use Rattle.run_rules.specs.Doings.{Doing, after_admitting}
use Rattle.run_rules.specs.Doings.Doing.{Sent, WritesDown}
use Rattle.run_rules.specs.HostDue.{IsNoGiveBack, IsUnanswered}
use Rattle.run_rules.specs.HostMay.{HostMay}
use Rattle.run_rules.specs.Kept.{filesets_kept, filesets_through}
use Rattle.run_rules.specs.Messages.{IsWelcome, Sends, Stay, epoch_at, first_stay, home}
use Rattle.run_rules.specs.Past.{In}
use Rattle.run_rules.specs.Plans.{resender_by}
use Rattle.run_rules.specs.ServerDecides.{IsAskedHere, IsDecidedHere, IsMeantSo}
use Rattle.run_rules.specs.ServerMay.{ServerMay}
use Rattle.run_rules.specs.Wants.{CannotBothWait, Decides, IsOld, body_of}
use Rattle.run_rules.specs.declared.applied.Request.{Request}
use Rattle.run_rules.specs.declared.applied.Request.TheVariants.{Change as Changes, Fetch as Asks}
use Rattle.run_rules.specs.declared.applied.Written.{Written}
use Rattle.run_rules.specs.declared.step.Cause.TheVariants.{Message as Came}
use Rattle.run_rules.specs.declared.step.Step.{Step}
use Rattle.run_tokens.proofs.TokenRun.{works_none}
use Rattle.run_tokens.proofs.Unmoved.{admitted_put, here_is, here_was}
use Rattle.run_tokens.proofs.Words.{stay_first}
use Rattle.run_tokens.specs.Unmoved.{StaysPut}
use Rattle.run_goes_on.proofs.Doings.{sent_so}
use Rattle.run_goes_on.proofs.Numbering.{sent_may}
use Rattle.run_goes_on.specs.Ended.{IsRequest, IsSame}

abbrev pub request_of : (b : Body) → IsRequest b → Request
request_of (Fetch f) asks = Asks f
request_of (Change c) asks = Changes c
request_of _ asks = elim asks [ ]

pub body_is : (b : Body) (asks : IsRequest b) → body_of (request_of b asks) ≡ b
body_is (Fetch f) asks = refl
body_is (Change c) asks = refl
body_is _ asks = elim asks [ ]

pub same_is : (b : Body) (asks : IsRequest b) → IsSame b (request_of b asks)
same_is (Fetch f) asks = (refl, refl)
same_is (Change c) asks = (refl, refl)
same_is _ asks = elim asks [ ]

pub no_give : (b : Body) → IsRequest b → IsNoGiveBack b
no_give (Fetch f) asks = tt
no_give (Change c) asks = tt
no_give _ asks = elim asks [ ]

-- a Change that it asks for is meant so that it can be answered
abbrev pub IsMeant : Body → Type 0
IsMeant b = (c : ChangeOf) → b ≡ Change c → IsMeantSo c

-- where it goes: to the server, with this number of moves, where nothing has moved
abbrev pub GoesIn : ServerId → Body → ℕ → Type 0
GoesIn v (Fetch f) k = first_stay f.fid.fileset ≡ record { server = v; moves = k }
GoesIn v (Change c) k =
    ((c.fileset.0 ≡ 0) × (k ≡ 0)) ⊎ (first_stay c.fileset ≡ record { server = v; moves = k })
GoesIn v _ k = ⊥

pub decided_here : (v : ServerId) (S : List Doing) → StaysPut S → (fs : FilesetId) (k : ℕ)
    → ((fs.0 ≡ 0) × (k ≡ 0)) ⊎ (first_stay fs ≡ record { server = v; moves = k }) → IsDecidedHere v S fs k
decided_here v S put fs k (inl none) = inl none
decided_here v S put fs k (inr first) = inr (here_was v S fs k put first)

pub asked_here : (v : ServerId) (S : List Doing) → StaysPut S → (k : ℕ) (b : Body) (asks : IsRequest b) → IsMeant b → GoesIn v b k
    → IsAskedHere v S k (request_of b asks)
asked_here v S put k (Fetch f) asks meant goes = here_was v S f.fid.fileset k put goes
asked_here v S put k (Change c) asks meant goes = (decided_here v S put c.fileset k goes, meant c refl)
asked_here v S put k _ asks meant goes = elim asks [ ]

first_decided : (v : ServerId) (S : List Doing) → StaysPut S → (fs : FilesetId) (k : ℕ) → IsDecidedHere v S fs k
    → ((fs.0 ≡ 0) × (k ≡ 0)) ⊎ (first_stay fs ≡ record { server = v; moves = k })
first_decided v S put fs k (inl none) = inl none
first_decided v S put fs k (inr here) = inr (here_is v S fs k put here)

-- # What a host says

module _ (script : Script) (host : HostId) (A : List Step) (s : Step) (may : HostMay script host A s) (v : ServerId)
    (e k : ℕ) where
  pub welcome_asks : (b : Body) → IsRequest b → Sends s v e k b → IsWelcome (s ∷ A) v
  welcome_asks (Fetch f) asks sends = may.asks.fetches_welcome v e k f sends
  welcome_asks (Change c) asks sends = may.asks.changes_welcome v e k c sends
  welcome_asks _ asks sends = elim asks [ ]

  pub goes_in : (b : Body) → IsRequest b → Sends s v e k b → GoesIn v b k
  goes_in (Fetch f) asks sends = stay_first (s ∷ A) f.fid.fileset v k (may.tokens.fetches f v e k sends).0
  goes_in (Change c) asks sends = elim (may.tokens.changes c v e k sends).0 [
    | inl none ↦ inl none
    | inr stays ↦ inr (stay_first (s ∷ A) c.fileset v k stays)
  ]
  goes_in _ asks sends = elim asks [ ]

-- # What a server answers

-- the message answers the request of this body
abbrev pub IsAnswer : Body → Body → Type 0
IsAnswer (Fetch f) (Grant g) = (g.bring.fid.fileset ≡ f.fid.fileset) × (g.bring.number ≡ f.number)
IsAnswer (Change c) (Done d) = (d.fileset ≡ c.fileset) × (d.bring.number ≡ c.number)
IsAnswer _ _ = ⊥

pub answer_resends : (b d : Body) (m : Message) → IsAnswer b d → resender_by d m ≡ Host m.host
answer_resends (Fetch f) (Grant g) m a = refl
answer_resends (Change c) (Done d) m a = refl
answer_resends (Fetch f) _ m a = elim a [ ]
answer_resends (Change c) _ m a = elim a [ ]
answer_resends _ _ m a = elim a [ ]

module _ (script : Script) (start : Tree) (v : ServerId) (steps : List Step) (S : List Doing) (t : Step)
    (may : ServerMay script start v steps S t) (put : StaysPut S) (m : Message) (i : In m t.sent) where
  admitted : StaysPut (after_admitting t S)
  admitted = admitted_put t S (works_none v (filesets_kept start v steps) S t may.works.applies) put

  -- it goes to the host as the request came
  pub answer_goes : (b : Body) → IsAnswer b m.body → GoesIn v b m.moves
  answer_goes (Fetch f) a = go m.body refl a
    where
      go : (d : Body) → m.body ≡ d → IsAnswer (Fetch f) d → GoesIn v (Fetch f) m.moves
      go (Grant g) is k =
          let at = sent_so v t S may.tokens m i in
          subst (λ (x : FilesetId). first_stay x ≡ record { server = v; moves = m.moves }) k.0
          (here_is v at.0 g.bring.fid.fileset m.moves (at.3 admitted)
          (at.1.grants m.host m.epoch m.moves g (λ j. Sent m.host m.epoch m.moves (is j))).0.home)
      go _ is k = elim k [ ]
  answer_goes (Change c) a = go m.body refl a
    where
      go : (d : Body) → m.body ≡ d → IsAnswer (Change c) d → GoesIn v (Change c) m.moves
      go (Done d) is k =
          let at = sent_may v (filesets_through t.cause t.applied (filesets_kept start v steps)) t t.sent
          (after_admitting t S) may.works.sends m i in
          subst (λ (x : FilesetId). GoesIn v (Change (record c { fileset = x })) m.moves) k.0
          (first_decided v at.0 (at.2 admitted) d.fileset m.moves
          (at.1.done_for m.host m.epoch m.moves d (λ j. Sent m.host m.epoch m.moves (is j))).1)
      go _ is k = elim k [ ]
  answer_goes _ a = elim a [ ]

-- an answer that comes ends the request
module _ (v : ServerId) (A : List Step) (u : Step) (m : Message) (cause : u.cause ≡ Came m) (server : m.server ≡ v)
    (now : m.epoch ≡ epoch_at A v) (n : ℕ) where
  pub answer_ends : (b : Body) → GoesIn v b m.moves → IsAnswer b m.body → IsUnanswered (u ∷ A) v n b → ⊥
  answer_ends (Fetch f) goes a x = go m.body refl a
    where
      there : v ≡ home f.fid.fileset
      there = ap (λ (y : Stay). y.server) (sym goes)

      go : (d : Body) → m.body ≡ d → IsAnswer (Fetch f) d → ⊥
      go (Grant g) is k =
          x.1.1 g (
            m,
            cause,
            server ∙ there,
            now ∙ ap (λ (y : ServerId). epoch_at A y) there,
            ap (λ (y : Stay). y.moves) (sym goes),
            is,
          ) k.0 k.1
      go _ is k = elim k [ ]
  answer_ends (Change c) goes a x = go m.body refl a
    where
      go : (d : Body) → m.body ≡ d → IsAnswer (Change c) d → ⊥
      go (Done d) is k = elim goes [
        | inl zero ↦ x.1.1 d
            (inl (ap (λ (y : FilesetId). y.0) k.0 ∙ zero.0, (m, cause, server, now, zero.1, is))) k.0 k.1
        | inr here ↦ (
            let at : first_stay d.fileset ≡ record { server = v; moves = m.moves } =
            ap (λ (y : FilesetId). first_stay y) k.0 ∙ here in
            let there : v ≡ home d.fileset = ap (λ (y : Stay). y.server) (sym at) in
            x.1.1 d (inr (
              m,
              cause,
              server ∙ there,
              now ∙ ap (λ (y : ServerId). epoch_at A y) there,
              ap (λ (y : Stay). y.moves) (sym at),
              is,
            )) k.0 k.1
            )
      ]
      go _ is k = elim k [ ]
  answer_ends _ goes a x = elim a [ ]

-- # Which wants are those of a request

-- two requests that can't both wait are one, where those of Changes have one number
pub same_by : (b : Body) (asks : IsRequest b) (r : Request) → CannotBothWait r (request_of b asks)
    → ((c d : ChangeOf) → b ≡ Change c → r ≡ Changes d → d.fileset ≡ c.fileset → d.number ≡ c.number) → IsSame b r
same_by (Fetch f) asks (Asks g) k numbers = k
same_by (Change c) asks (Changes d) k numbers = (k, numbers c d refl refl k)
same_by (Fetch f) asks (Changes d) k numbers = elim k [ ]
same_by (Change c) asks (Asks g) k numbers = elim k [ ]
same_by _ asks r k numbers = elim asks [ ]

-- an old request is a Change
pub old_change : (b : Body) (asks : IsRequest b) (h : HostId) (S : List Doing) → IsOld S h (request_of b asks)
    → ((c : ChangeOf) → b ≡ Change c → IsOld S h (Changes c) → ⊥) → ⊥
old_change (Fetch f) asks h S old fresh = elim old [ ]
old_change (Change c) asks h S old fresh = fresh c refl old
old_change _ asks h S old fresh = elim asks [ ]

-- only what is sent or written down decides
pub decides_not : (a : Doing) (h : HostId) (r : Request) → ((e n : ℕ) (d : Body) → a ≡ Sent h e n d → ⊥)
    → ((w : Written) → a ≡ WritesDown w → ⊥) → Decides a h r → ⊥
decides_not a h (Asks f) sent writes d = sent d.0 d.1 (Grant d.2) d.3
decides_not a h (Changes c) sent writes d = elim d [
  | inl w ↦ writes w.0 w.1
  | inr k ↦ sent k.0 k.1 (Done k.2) k.3
]

-- what is sent and decides answers
pub decides_sent : (b : Body) (h j : HostId) (e n : ℕ) (d : Body) (r : Request) → IsSame b r
    → Decides (Sent j e n d) h r → (j ≡ h) × IsAnswer b d
decides_sent (Fetch f) h j e n d (Asks g) same k =
    let z : Sent j e n d ≡ Sent h k.0 k.1 (Grant k.2) = k.3 in
    let host : j ≡ h = cc in
    let body : d ≡ Grant k.2 = cc in
    (host, subst (IsAnswer (Fetch f)) (sym body) (k.4 ∙ same.0, k.5 ∙ same.1))
decides_sent (Change c) h j e n d (Changes x) same k = elim k [
  | inl w ↦ absurd (let z : Sent j e n d ≡ WritesDown w.0 = w.1 in cc)
  | inr k ↦ (
      let z : Sent j e n d ≡ Sent h k.0 k.1 (Done k.2) = k.3 in
      let host : j ≡ h = cc in
      let body : d ≡ Done k.2 = cc in
      (host, subst (IsAnswer (Change c)) (sym body) (k.4 ∙ same.0, k.5 ∙ same.1))
      )
]
decides_sent (Fetch f) h j e n d (Changes x) same k = elim same [ ]
decides_sent (Change c) h j e n d (Asks x) same k = elim same [ ]
decides_sent _ h j e n d r same k = elim same [ ]

-- and a Change that is written down is one that is written down
pub decides_written : (b : Body) (h : HostId) (y : Written) (r : Request) → IsSame b r → Decides (WritesDown y) h r
    → (c : ChangeOf) × (b ≡ Change c) × (y.answer.host ≡ h) × (y.fileset ≡ c.fileset) × (y.number ≡ c.number)
decides_written (Change c) h y (Changes d) same k = elim k [
  | inl (w, is, host, files, numbers) ↦ (
      let z : WritesDown y ≡ WritesDown w = is in
      let one : y ≡ w = cc in (
        c,
        refl,
        ap (λ (q : Written). q.answer.host) one ∙ host,
        ap (λ (q : Written). q.fileset) one ∙ (files ∙ same.0),
        ap (λ (q : Written). q.number) one ∙ (numbers ∙ same.1),
      )
      )
  | inr x ↦ absurd (let z : WritesDown y ≡ Sent h x.0 x.1 (Done x.2) = x.3 in cc)
]
decides_written (Fetch f) h y (Asks g) same k =
    absurd (let z : WritesDown y ≡ Sent h k.0 k.1 (Grant k.2) = k.3 in cc)
decides_written (Fetch f) h y (Changes d) same k = elim same [ ]
decides_written (Change c) h y (Asks g) same k = elim same [ ]
decides_written _ h y r same k = elim same [ ]

-- How the words follow from one another.
use Rattle.run_rules.specs.Doings.{BringsTokens, Doing, GivenUp, Here, IsApplied, StayStamp, TookOf, after_step}
use Rattle.run_rules.specs.Messages.{Said, Stay, StaysAt, epoch_at, epoch_raised, epoch_raised_by, first_stay, home}
use Rattle.run_rules.specs.Past.{In}
use Rattle.run_rules.specs.Steps.{is_node}
use Rattle.run_rules.specs.Tokens.{Made, number_of}
use Rattle.run_tokens.specs.TokenLaws.{HasLeftHost, HasReturnedToken, TookEver}
use Rattle.run_tokens.specs.Unmoved.{StaysPut}
use Rattle.run_tokens.proofs.Unmoved.{here_is, here_was}
use Rattle.std.proofs.Common.{◌≡◌, ℕ, ◌⊎◌, ◌==◌, ◌&&◌, ◌≤◌, nat_lt, not, Bool, true, false, if◌then◌else◌, List, [], ◌∷◌, inl, inr, sym, ◌∙◌, ap, refl, arith, eqb-true, ltb-true}
use Rattle.std.proofs.lemmas.Bool.{and_parts, false≢true}
use Rattle.base_types.specs.declared.ids.HostId.{HostId}
use Rattle.base_types.specs.declared.ids.ServerId.{ServerId}
use Rattle.base_types.specs.declared.ids.Node.{Node}
use Rattle.base_types.specs.declared.ids.Node.TheVariants.{Host, Server}
use Rattle.base_types.specs.declared.ids.Fid.{Fid}
use Rattle.base_types.specs.declared.ids.FilesetId.{FilesetId}
use Rattle.base_types.specs.Ids.{same_fid}
use Rattle.token_types.specs.declared.token.Token.{Token}
use Rattle.token_types.specs.declared.token.TokenId.{TokenId}
use Rattle.token_types.specs.Conflicts.{conflict, needs_conflict, need_of, kinds_conflict}
use Rattle.message_types.specs.declared.message.Body.{Body}
use Rattle.message_types.specs.declared.message.Body.TheVariants.{Returned, GiveBack, Reclaimed, Restarted}
use Rattle.message_types.specs.declared.message.Message.{Message}
use Rattle.message_types.specs.declared.tokens.Named.{Named}
use Rattle.message_types.specs.declared.telling.Bring.{Bring}
use Rattle.message_types.specs.declared.telling.Grant.{Grant as GrantOf}
use Rattle.message_types.specs.declared.telling.Done.{Done as DoneOf}
use Rattle.message_types.specs.declared.giving.Give.{Give}
use Rattle.message_types.specs.declared.giving.AppliedGive.{AppliedGive}
use Rattle.run_rules.specs.declared.step.Cause.{Cause}
use Rattle.run_rules.specs.declared.step.Cause.TheVariants.{Message as Came}
use Rattle.run_rules.specs.declared.step.Step.{Step}

pub said_returned : (A : List Step) (v : ServerId) (e n : ℕ) (named : Named) (i : TokenId) → Said A v e n (Returned named) → In i named.ids → HasReturnedToken A i
said_returned [] v e n named i p m = elim p [ ]
said_returned (s ∷ A) v e n named i (inl p) m = inl (v, e, n, named, p, m)
said_returned (s ∷ A) v e n named i (inr p) m = inr (said_returned A v e n named i p m)

pub returned_left : (A : List Step) (i : TokenId) → HasReturnedToken A i → HasLeftHost A i
returned_left [] i e = elim e [ ]
returned_left (s ∷ A) i (inl e) = inl (inr e)
returned_left (s ∷ A) i (inr e) = inr (returned_left A i e)

pub made_left : (A : List Step) (g : Give) (i : TokenId) → Made A g → In i g.ids → HasLeftHost A i
made_left [] g i e m = elim e [ ]
made_left (s ∷ A) g i (inl e) m = inl (inl (g, e, m))
made_left (s ∷ A) g i (inr e) m = inr (made_left A g i e m)

-- conflicting tokens are of two hosts, and of one file
host_is : (a b : HostId) → (a.0 == b.0) ≡ true → a ≡ b
host_is a b e = ap (λ (n : ℕ). record { 0 = n }) (eqb-true a.0 b.0 e)

fid_is : (a b : Fid) → same_fid a b ≡ true → a ≡ b
fid_is a b e =
    let p = and_parts ((a.fileset.0 == b.fileset.0) && (a.anode == b.anode)) (a.unique == b.unique) e in
    let q = and_parts (a.fileset.0 == b.fileset.0) (a.anode == b.anode) p.0 in
    let fileset = eqb-true a.fileset.0 b.fileset.0 q.0 in
    let anode = eqb-true a.anode b.anode q.1 in
    let unique = eqb-true a.unique b.unique p.1 in
    λ i. record { fileset = record { 0 = fileset i }; anode = anode i; unique = unique i }

same_number : (n : ℕ) → (n == n) ≡ true
same_number n = grind (arith)

pub of_two : (t u : Token) → conflict t u ≡ true → t.host ≡ u.host → ⊥
of_two t u c e =
    let p = (and_parts (not (t.host.0 == u.host.0)) (needs_conflict (need_of t) (need_of u)) c).0 in
    let q : (t.host.0 == u.host.0) ≡ true = ap (λ (k : HostId). t.host.0 == k.0) (sym e) ∙ same_number t.host.0 in
    false≢true (sym (ap not q) ∙ p)

pub of_one : (t u : Token) → conflict t u ≡ true → t.fid ≡ u.fid
of_one t u c =
    let p = (and_parts (not (t.host.0 == u.host.0)) (needs_conflict (need_of t) (need_of u)) c).1 in
    fid_is t.fid u.fid (and_parts (same_fid t.fid u.fid) (kinds_conflict t.kind u.kind) p).0

pub brings_one : (a : Doing) (h k : HostId) (e d n m : ℕ) (w v : Bring) → BringsTokens a h e n w → BringsTokens a k d m v → (h ≡ k) × (w ≡ v) × (n ≡ m)
brings_one a h k e d n m w v (inl (x, p, r)) (inl (y, q, z)) = (cc, (let one : x ≡ y = cc in sym r ∙ (ap (λ (g : GrantOf). g.bring) one ∙ z)), cc)
brings_one a h k e d n m w v (inr (x, p, r)) (inr (y, q, z)) = (cc, (let one : x ≡ y = cc in sym r ∙ (ap (λ (g : DoneOf). g.bring) one ∙ z)), cc)
brings_one a h k e d n m w v (inl (x, p, r)) (inr (y, q, z)) = (cc, cc, cc)
brings_one a h k e d n m w v (inr (x, p, r)) (inl (y, q, z)) = (cc, cc, cc)

-- a mark is its two numbers
pub mark_is : (k l : StayStamp) → k.moves ≡ l.moves → k.stamp ≡ l.stamp → k ≡ l
mark_is k l moves stamp = λ i. record { moves = moves i; stamp = stamp i }

-- a fileset that is at a server was made there, and a fileset of which a give-back is applied is there
pub made_at : (v : ServerId) (S : List Doing) (fs : FilesetId) (n : ℕ) → StaysPut S → Here v S fs n → home fs ≡ v
made_at v S fs n put here = ap (λ (p : Stay). p.server) (here_is v S fs n put here)

pub never_moved : (v : ServerId) (S : List Doing) (fs : FilesetId) (n : ℕ) → StaysPut S → Here v S fs n → 0 ≡ n
never_moved v S fs n put here = ap (λ (p : Stay). p.moves) (here_is v S fs n put here)

pub stays_here : (v : ServerId) (S : List Doing) (fs : FilesetId) → StaysPut S → home fs ≡ v → Here v S fs 0
stays_here v S fs put at = here_was v S fs 0 put (λ i. record { server = at i; moves = 0 })

-- a host takes a fileset to be where it was made, in its first stay
pub stay_first : (A : List Step) (fs : FilesetId) (v : ServerId) (n : ℕ) → StaysAt A fs v n
    → first_stay fs ≡ record { server = v; moves = n }
stay_first A fs v n stays = stays

pub first_stays : (A : List Step) (fs : FilesetId) (v : ServerId) (n : ℕ)
    → first_stay fs ≡ record { server = v; moves = n } → StaysAt A fs v n
first_stays A fs v n first = first

pub applied_at : (v : ServerId) (S : List Doing) (h : HostId) (n : AppliedGive) → StaysPut S → IsApplied v S h n → home n.fileset ≡ v
applied_at v [] h n put a = elim a [ ]
applied_at v (a ∷ S) h n put (inl (g, (m, here, _), _, _)) = made_at v S n.fileset m (λ o. put (inr o)) here
applied_at v (a ∷ S) h n put (inr o) = applied_at v S h n (λ o. put (inr o)) o

-- what was taken in this epoch was taken
pub took_ever : (v : ServerId) (S : List Doing) (h : HostId) (fs : FilesetId) (b : Body) → TookOf v S h fs b → TookEver v S h fs b
took_ever v [] h fs b e = elim e [ ]
took_ever v (a ∷ S) h fs b (inl e) = inl e
took_ever v (a ∷ S) h fs b (inr e) = inr (took_ever v S h fs b e.0)

pub took_applied : (v : ServerId) (S : List Doing) (h : HostId) (g : Give) → TookOf v S h g.fid.fileset (GiveBack g) → IsApplied v S h (number_of g)
took_applied v [] h g e = elim e [ ]
took_applied v (a ∷ S) h g (inl e) = inl (g, e, refl, omega arith)
took_applied v (a ∷ S) h g (inr e) = inr (took_applied v S h g e.0)

-- what the host gave up in this epoch, by a give-back or by a Returned that was taken in it
abbrev pub TookGiven : ServerId → List Doing → HostId → TokenId → Type 0
TookGiven v S h i =
    ((give : Give) × TookOf v S h give.fid.fileset (GiveBack give) × In i give.ids)
    ⊎ ((named : Named) × TookOf v S h named.fid.fileset (Returned named) × In i named.ids)

pub given_up : (v : ServerId) (S : List Doing) (h : HostId) (i : TokenId) → GivenUp v S h i → TookGiven v S h i
given_up v [] h i e = elim e [ ]
given_up v (a ∷ S) h i (inl (inl (w, e, m))) = inr (w, inl e, m)
given_up v (a ∷ S) h i (inl (inr (g, e, m))) = inl (g, inl e, m)
given_up v (a ∷ S) h i (inr (e, quiet)) =
    elim (given_up v S h i e) [
      | inl l ↦ inl (l.0, inr (l.1, quiet), l.2)
      | inr l ↦ inr (l.0, inr (l.1, quiet), l.2)
    ]

pub gives_up : (v : ServerId) (S : List Doing) (h : HostId) (g : Give) (i : TokenId)
    → TookOf v S h g.fid.fileset (GiveBack g) → In i g.ids → GivenUp v S h i
gives_up v [] h g i e m = elim e [ ]
gives_up v (a ∷ S) h g i (inl e) m = inl (inr (g, e, m))
gives_up v (a ∷ S) h g i (inr e) m = inr (gives_up v S h g i e.0 m, e.1)

-- the steps of a host, and the doings of a server, after a step of a node
abbrev pub own_after : HostId → Node → Step → List Step → List Step
own_after host node step steps = if is_node node (Host host) then step ∷ steps else steps

abbrev pub acts_after : ServerId → Node → Step → List Doing → List Doing
acts_after server node step past = if is_node node (Server server) then after_step step past else past

-- where the host's epoch comes from
pub record From (c : Cause) (v : ServerId) (n : ℕ) : Type 0 where
  pub by : Message
  pub cause : c ≡ Came by
  pub at : by.server ≡ v
  pub epoch : epoch_raised c v n ≡ by.epoch
  pub up : n ≤ by.epoch

if_cases : (b : Bool) (e n : ℕ) → ((if b then e else n) ≡ n) ⊎ ((b ≡ true) × ((if b then e else n) ≡ e))
if_cases true e n = inr (refl, refl)
if_cases false e n = inl refl

by_cases : (b : Body) (mine : Bool) (e n : ℕ) → (epoch_raised_by b mine e n ≡ n) ⊎ ((mine ≡ true) × (epoch_raised_by b mine e n ≡ e) × (n ≤ e))
by_cases Restarted mine e n =
    elim (if_cases (mine && nat_lt n e) e n) [
      | inl q ↦ inl q
      | inr q ↦ inr (let p = and_parts mine (nat_lt n e) q.0 in (p.0, q.1, (let lt = ltb-true n e p.1 in omega arith)))
    ]
by_cases (Reclaimed answer) mine e n =
    elim (if_cases (mine && (n == 0)) e n) [
      | inl q ↦ inl q
      | inr q ↦ inr (let p = and_parts mine (n == 0) q.0 in (p.0, q.1, (let z = eqb-true n 0 p.1 in omega arith)))
    ]
by_cases _ mine e n = inl refl

server_is : (a b : ServerId) → (a.0 == b.0) ≡ true → a ≡ b
server_is a b e = ap (λ (n : ℕ). record { 0 = n }) (eqb-true a.0 b.0 e)

pub raised_cases : (c : Cause) (v : ServerId) (n : ℕ) → (epoch_raised c v n ≡ n) ⊎ From c v n
raised_cases (Came m) v n =
    elim (by_cases m.body (m.server.0 == v.0) m.epoch n) [
      | inl q ↦ inl q
      | inr q ↦ inr (record { by = m; cause = refl; at = server_is m.server v q.0; epoch = q.1; up = q.2 })
    ]
raised_cases _ v n = inl refl

pub epoch_grows : (A : List Step) (s : Step) (v : ServerId) → epoch_at A v ≤ epoch_at (s ∷ A) v
epoch_grows A s v =
    elim (raised_cases s.cause v (epoch_at A v)) [
      | inl q ↦ (omega (arith, q))
      | inr f ↦ (let q = f.epoch in let le = f.up in omega arith)
    ]

-- a choice by whether two nodes are the same
pub if_host : {X : Type 0} (P : X → Type 0) (k h : HostId) (new old : X) → (k ≡ h → P new) → P old → P (if k.0 == h.0 then new else old)
if_host {X} P k h new old same other = go (k.0 == h.0) refl
  where
    go : (b : Bool) → (k.0 == h.0) ≡ b → P (if b then new else old)
    go true e = same (host_is k h e)
    go false e = other

pub if_server : {X : Type 0} (P : X → Type 0) (k v : ServerId) (new old : X) → (k ≡ v → P new) → P old → P (if k.0 == v.0 then new else old)
if_server {X} P k v new old same other = go (k.0 == v.0) refl
  where
    go : (b : Bool) → (k.0 == v.0) ≡ b → P (if b then new else old)
    go true e = same (server_is k v e)
    go false e = other

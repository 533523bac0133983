-- No token that a server asked back is owed, once all that was sent is over: it was returned, given back or kept.
use Rattle.std.proofs.Common.{List, [], ap, arith, inl, inr, length, refl, subst, suc, sym, zero, ℕ}
use Rattle.std.proofs.Common.{◌<◌, ◌∙◌, ◌∷◌, ◌≡◌, ◌≤◌, ◌⊎◌}
use Rattle.base_types.specs.declared.ids.Fid.{Fid}
use Rattle.base_types.specs.declared.ids.HostId.{HostId}
use Rattle.base_types.specs.declared.ids.Node.{Node}
use Rattle.base_types.specs.declared.ids.Node.TheVariants.{Host, Server}
use Rattle.base_types.specs.declared.ids.ServerId.{ServerId}
use Rattle.tree_answers.specs.declared.tree.Tree.{Tree}
use Rattle.tree_calls.specs.declared.call.Call.{Call}
use Rattle.tree_calls.specs.declared.call.Call.TheVariants.{Lock, OpenFile}
use Rattle.token_types.specs.declared.token.Token.{Token}
use Rattle.token_types.specs.declared.token.TokenId.{TokenId}
use Rattle.script_lines.specs.declared.script.Script.{Script}
use Rattle.message_types.specs.declared.giving.Give.{Give}
use Rattle.message_types.specs.declared.message.Body.{Body}
use Rattle.message_types.specs.declared.message.Body.TheVariants.{Kept, Reclaim, Returned, Revoke}
use Rattle.message_types.specs.declared.message.Direction.{Direction}
use Rattle.message_types.specs.declared.message.Direction.TheVariants.{ToHost, ToServer}
use Rattle.message_types.specs.declared.message.Message.{Message}
use Rattle.message_types.specs.declared.tokens.Named.{Named}
use Rattle.message_types.specs.declared.tokens.Revoke.{Revoke as RevokeOf}
use Rattle.run_rules.specs.Doings.{Doing, Enlists, Granted, HasReclaimed, Here, InEpoch, IsLive, Issued, Issues, Pinned}
use Rattle.run_rules.specs.Doings.{SentNow, StayStamp, after_admitting, after_cause, after_deciding}
use Rattle.run_rules.specs.Doings.{after_step, doings_of, epoch, sending}
use Rattle.run_rules.specs.Doings.Doing.{Gets}
use Rattle.run_rules.specs.Doings.Doing.{Admits, BeginsEpoch, Flushes, MakesWant, Moves, Reserves, Sent, Took}
use Rattle.run_rules.specs.Doings.Doing.{WritesDown}
use Rattle.run_rules.specs.HostDue.{AnswersOf, HasDirty, HostDue, RevokeDue}
use Rattle.run_rules.specs.HostMay.{HostMay, IsExact}
use Rattle.run_rules.specs.Kept.{filesets_kept}
use Rattle.run_rules.specs.Messages.{HasStopped, KeepsToken, Sends, Stay, epoch_at, first_stay, home}
use Rattle.run_rules.specs.Past.{Always, In, appended}
use Rattle.run_rules.specs.Plans.{receiver_by, resender_by, resender}
use Rattle.run_rules.specs.Runs.{IsFrom, StepDue, StepMeets, StepsMeet, firsts_of, past_of}
use Rattle.run_rules.specs.ServerDue.{ServerDue}
use Rattle.run_rules.specs.ServerMay.{HasRevoked, IsOwed, ServerMay}
use Rattle.run_rules.specs.ServerTokens.{ServerTokens}
use Rattle.run_rules.specs.Steps.{steps_of_host, steps_of_server}
use Rattle.run_rules.specs.Tokens.{EverHeld, Held, HoldsId, IsKnown, IsUseKind, LabelInUse, Made, Owns, TokenInUse}
use Rattle.run_rules.specs.Tokens.{number_of}
use Rattle.run_rules.specs.declared.step.Cause.{Cause}
use Rattle.run_rules.specs.declared.step.Cause.TheVariants.{End, Evict, Flushed, Freight, Lapse}
use Rattle.run_rules.specs.declared.step.Cause.TheVariants.{Line, Message as Came, Restart}
use Rattle.run_rules.specs.declared.step.Labelled.{Labelled}
use Rattle.run_rules.specs.declared.step.Step.{Step}
use Rattle.run_tokens.proofs.Law.{Whole}
use Rattle.run_tokens.proofs.TokenRun.{works_none}
use Rattle.run_tokens.proofs.Unmoved.{admitted_put, here_is, here_was}
use Rattle.run_tokens.proofs.Words.{acts_after, if_host, if_server, made_at, own_after, stay_first}
use Rattle.run_tokens.specs.Unmoved.{StaysPut}
use Rattle.run_goes_on.proofs.Arriving.{cause_on, due_at, due_of, found, from_one, meets_at, step_on, whole_at}
use Rattle.run_goes_on.proofs.Doings.{Knows, epoch_after_cause, epoch_step, knows, reclaimed_by, sent_so}
use Rattle.run_goes_on.proofs.Giving.{gives_are_known}
use Rattle.run_goes_on.proofs.Granting.{Keeps, keep_cause, keep_caused, plain, revoked_granted}
use Rattle.run_goes_on.proofs.Grown.{back_admitting, back_deciding, grows_on, in_cause, in_last, in_sending}
use Rattle.run_goes_on.proofs.Positions.{doings_on, host_steps, own_on, own_run, server_doings}
use Rattle.run_goes_on.proofs.Posted.{comes_of}
use Rattle.run_goes_on.proofs.Stopping.{stopped_away}
use Rattle.run_goes_on.specs.Rest.{AllIsOver, IsStopped, LapsesIn, NoneIsHeld}
use Rattle.run_tokens.proofs.Ships.{since_ships}
use Rattle.run_rules.specs.Doings.Doing.{Puts}
use Rattle.run_rules.specs.Doings.{after_sending}
use Rattle.run_tokens.proofs.Ships.{since_shipped}
use Rattle.run_goes_on.specs.Waiting.{NothingIsOwed}

abbrev Reclaims : HostId → List Doing → Doing → Type 0
Reclaims h S a = ((tokens : List Token) × (a ≡ Admits h tokens)) ⊎ Enlists S a h

-- # A Revoke of this epoch was sent before a step, or is sent in it
module _ (t : Token) where
  abbrev Asks : List Doing → Doing → Type 0
  Asks S a = (e n : ℕ) × (r : RevokeOf) × (a ≡ Sent t.host e n (Revoke r)) × In t.id r.ids

  asks_sending : (ms : List Message) (S : List Doing) → InEpoch Asks (appended (sending ms) S)
      → InEpoch Asks S ⊎ ((r : RevokeOf) × (m : Message) × In m ms × (m.host ≡ t.host) × (m.body ≡ Revoke r)
      × In t.id r.ids)
  asks_sending [] S x = inl x
  asks_sending (m ∷ ms) S x = elim (asks_sending ms (Sent m.host m.epoch m.moves m.body ∷ S) x) [
    | inr k ↦ inr (k.0, k.1, inr k.2, k.3, k.4, k.5)
    | inl (inr k) ↦ inl k.0
    | inl (inl (e, n, r, q, i)) ↦ (
        let host : m.host ≡ t.host = cc in
        let body : m.body ≡ Revoke r = cc in
        inr (r, m, inl refl, host, body, i)
        )
  ]

  asks_step : (s : Step) (S : List Doing) → HasRevoked (after_step s S) t
      → HasRevoked (after_cause s.cause S) t ⊎ ((r : RevokeOf) × SentNow s t.host (Revoke r) × In t.id r.ids)
  asks_step s S (inl (e, n, r, q, i)) =
      absurd (let z : Reserves s.reserved ≡ Sent t.host e n (Revoke r) = q in cc)
  asks_step s S (inr x) = elim (asks_sending s.sent (after_admitting s S)
      (since_ships Asks (λ T to n b a. (let z : Puts to n b ≡ Sent t.host a.0 a.1 (Revoke a.2) = a.3 in cc)) s.shipped
      (after_sending s S) x.0)) [
        | inr k ↦ inr (k.0, (k.1, k.2, k.3, k.4), k.5)
        | inl k ↦ inl (back_deciding Asks
            (λ T w a. (let z : MakesWant w ≡ Sent t.host a.0 a.1 (Revoke a.2) = a.3 in cc))
            (λ T w a. (let z : WritesDown w ≡ Sent t.host a.0 a.1 (Revoke a.2) = a.3 in cc))
            (λ T m a. (let z : Moves m ≡ Sent t.host a.0 a.1 (Revoke a.2) = a.3 in cc)) s.applied
            (after_cause s.cause S)
            (back_admitting Asks (λ T h ts a. (let z : Admits h ts ≡ Sent t.host a.0 a.1
            (Revoke a.2) = a.3 in cc)) s.admitted
            (after_deciding s S) k))
      ]

  asks_cause : (c : Cause) (S : List Doing) → HasRevoked (after_cause c S) t
      → HasRevoked S t × (epoch (after_cause c S) ≡ epoch S)
  asks_cause (Came m) S (inl a) =
      absurd (let z : Took m.host m.epoch m.moves m.body ≡ Sent t.host a.0 a.1 (Revoke a.2) = a.3 in cc)
  asks_cause (Came m) S (inr x) = (x.0, refl)
  asks_cause (Restart line) S (inl a) =
      absurd (let z : BeginsEpoch (suc (epoch S)) ≡ Sent t.host a.0 a.1 (Revoke a.2) = a.3 in cc)
  asks_cause (Restart line) S (inr x) = absurd (x.1 (suc (epoch S), refl))
  asks_cause Flushed S (inl a) = absurd (let z : Flushes ≡ Sent t.host a.0 a.1 (Revoke a.2) = a.3 in cc)
  asks_cause Flushed S (inr x) = (x.0, refl)
  asks_cause (Line line) S x = (x, refl)
  asks_cause Lapse S x = (x, refl)
  asks_cause Evict S x = (x, refl)
  asks_cause (Freight freight) S (inl a) = absurd (let z : Gets freight.server freight.moves freight.body ≡ Sent t.host a.0 a.1 (Revoke a.2) = a.3 in cc)
  asks_cause (Freight freight) S (inr x) = (x.0, refl)
  asks_cause End S x = (x, refl)

-- # A label in use is of a token that was taken, of a lock or an open file
exact_kind : (call : Call) (u : Labelled) → IsExact call u → IsUseKind u.token.kind
exact_kind (Lock label place writing from len) u is =
    let k = is.1 in subst IsUseKind (sym k.1) tt
exact_kind (OpenFile label place kind) u is = subst IsUseKind (sym is.1) tt
exact_kind _ u is = elim is [ ]

held_ever : (A : List Step) (t : Token) → Held A t → EverHeld A t
held_ever [] t h = elim h [ ]
held_ever (s ∷ A) t h = elim h.0 [ inl now ↦ inl now | inr old ↦ inr (held_ever A t old) ]

module _ (script : Script) (host : HostId) where
  used_ever : (A : List Step) → Always (HostMay script host) A → (u : Labelled) → LabelInUse A u
      → EverHeld A u.token × IsUseKind u.token.kind
  used_ever [] run u x = elim x [ ]
  used_ever (s ∷ A) run u (inl i) =
      let b = run.1.answers.begins u i in (
        elim b.4 [ inl now ↦ inl now | inr held ↦ inr (held_ever A u.token held) ],
        exact_kind b.0.call u b.3,
      )
  used_ever (s ∷ A) run u (inr x) = let k = used_ever A run.0 u x.0 in (inr k.0, k.1)

module _ (script : Script) (start : Tree) (firsts : ServerId → ℕ) (real : (v : ServerId) → 0 < firsts v)
    (run : List Step) (meets : StepsMeet script start firsts run)
    (due : Always (λ before s. StepDue script start firsts s.node before s) run) (over : AllIsOver script run)
    (none : NoneIsHeld script run) (v : ServerId) (t : Token) (granted : Granted v (doings_of (firsts v) v run) t)
    (unpinned : Pinned v (doings_of (firsts v) v run) t → ⊥) (live : HasStopped (steps_of_host t.host run) → ⊥)
    (known : (g : Give) → Made (steps_of_host t.host run) g → IsKnown (steps_of_host t.host run) g) where
  abbrev host : HostId
  host = t.host

  abbrev own : List Step → List Step
  own past = steps_of_host t.host past

  abbrev acts : List Step → List Doing
  acts past = doings_of (firsts v) v past

  met : (l p : List Step) → appended l p ≡ run → StepsMeet script start firsts p
  met l p e = meets_at script start firsts real run meets due over none l p e

  all : (l p : List Step) → appended l p ≡ run → Whole (λ h. steps_of_host h p) (λ u. doings_of (firsts u) u p)
  all l p e = whole_at script start firsts real run meets due over none l p e

  knowing : (l p : List Step) → appended l p ≡ run → Knows v host (acts p)
  knowing l p e = knows script start firsts real p (met l p e) v host

  server_may : (l p : List Step) (s : Step) → appended (s ∷ l) p ≡ run → s.node ≡ Server v
      → ServerMay script start v (steps_of_server v p) (acts p) s
  server_may l p s w at =
      (subst (λ (k : Node). StepMeets script start firsts k p s) at (met l (s ∷ p) w).1.0).0

  server_due : (l p : List Step) (s : Step) → appended (s ∷ l) p ≡ run → s.node ≡ Server v
      → ServerDue script start v (steps_of_server v p) (acts p) s
  server_due l p s w at =
      subst (λ (k : Node). StepDue script start firsts k p s) at
      (due_at script start firsts real run meets due over none p l s w)

  -- # The token is the one of its number
  issued_end : (x : StayStamp) × Issued (acts run) t x
  issued_end =
      ((all [] run refl).at v).served.owed_issued t ((((all [] run refl).at v).link host).granted_owed t refl granted)

  id_v : t.id.server ≡ v
  id_v = ((all [] run refl).at v).served.id t issued_end.0 issued_end.1

  fid_v : home t.fid.fileset ≡ v
  fid_v =
      made_at v (acts run) t.fid.fileset issued_end.0.moves ((all [] run refl).at v).served.put
      (((all [] run refl).at v).served.at t issued_end.0 issued_end.1)

  same_token : (l p : List Step) → appended l p ≡ run → (u : Token) (y : StayStamp) → Issued (acts p) u y
      → u.id ≡ t.id → u ≡ t
  same_token l p w u y i ids =
      (((all [] run refl).at v).served.unique u t y issued_end.0
      (subst (λ (L : List Step). Issued (acts L) u y) w
      (doings_on (firsts v) v (λ (S : List Doing). Issued S u y)
      (λ S s o. step_on (λ before a. Issues a u y) S s o) l p i)) issued_end.1 ids).0

  same_held : (l p : List Step) → appended l p ≡ run → (u : Token) → EverHeld (own p) u → u.id ≡ t.id → u ≡ t
  same_held l p w u held ids =
      let k = (((all l p w).at v).link host).ever u (ap (λ (y : TokenId). y.server) ids ∙ id_v) held in
      same_token l p w u k.0 k.1 ids

  -- no give-back that was made names it: it would be applied
  given_not : (l p : List Step) → appended l p ≡ run → (g : Give) → Made (own p) g → In t.id g.ids → ⊥
  given_not l p w g made i =
      let end : Made (own run) g =
      subst (λ (L : List Step). Made (own L) g) w
      (own_on host (λ (L : List Step). Made L g) (λ A s o. inr o) l p made) in
      let link = ((all [] run refl).at v).link host in
      link.taken g t end i refl (link.known (number_of g) (link.made_id g t.id end i id_v) (known g end)) granted

  live_at : (l p : List Step) → appended l p ≡ run → HasStopped (own p) → ⊥
  live_at l p w stopped =
      live (subst (λ (L : List Step). HasStopped (own L)) w
      (own_on host HasStopped (λ A s x. (x.0, x.1, x.2, inr x.3)) l p stopped))

  -- a host owns the token of a label in use
  owned_step : (A : List Step) (s : Step) → HostMay script host A s → ((u : Token) → Held A u → Owns A u)
      → (u : Labelled) → (LabelInUse A u → Owns A u.token) → LabelInUse (s ∷ A) u → Owns (s ∷ A) u.token
  owned_step A s may owns u old (inl i) =
      let b = may.answers.begins u i in (
        elim b.4 [ inl now ↦ inl now | inr held ↦ inr (owns u.token held) ],
        λ leaves. (
            let d = may.tokens.drops u.token b.4 leaves in
            elim (subst (In d.0) (may.answers.keeps b.0 b.1).0 d.1) [ ]
            ),
      )
  owned_step A s may owns u old (inr x) = (
    inr (old x.0),
    λ leaves. elim leaves [
      | inl g ↦ x.2 g.0 g.1 (may.gives.ends_used g.0 u g.1 x.0 g.2)
      | inr back ↦ may.revoked.returns_idle u.token.id back (u, x.0, refl)
    ],
  )

  use_owned : (l p : List Step) → appended l p ≡ run → (u : Labelled) → LabelInUse (own p) u → Owns (own p) u.token
  use_owned l [] w u x = elim x [ ]
  use_owned l (s ∷ p) w u x = by s.node (met l (s ∷ p) w).1.0 (use_owned (s ∷ l) p w u) x
    where
      by : (k : Node) → StepMeets script start firsts k p s → (LabelInUse (own p) u → Owns (own p) u.token)
          → LabelInUse (own_after host k s (own p)) u → Owns (own_after host k s (own p)) u.token
      by (Server k) m old y = old y
      by (Host k) m old y =
          if_host (λ (L : List Step). LabelInUse L u → Owns L u.token) k host (s ∷ own p) (own p)
          (λ same z. owned_step (own p) s
          (subst (λ (h : HostId). HostMay script h (steps_of_host h p) s) same m.0)
          ((all (s ∷ l) p w).alone host).owns u old z) old y

  -- # A place in the last epoch, where the token was issued and its host has reclaimed
  record Has (l p : List Step) : Type 0 where
    pub whole : appended l p ≡ run
    pub late : epoch (acts run) ≤ epoch (acts p)
    pub reclaimed : HasReclaimed (acts p) host
    pub mark : StayStamp
    pub issued : Issued (acts p) t mark

  upto : (l p : List Step) → appended l p ≡ run → epoch (acts p) ≤ epoch (acts run)
  upto l p e = subst (λ (L : List Step). epoch (acts p) ≤ epoch (acts L)) e (grows_on firsts v l p)

  has_next : (l p : List Step) (u : Step) → Has (u ∷ l) p → Has l (u ∷ p)
  has_next l p u h = record {
    whole = h.whole;
    late = (let le = h.late in let up = grows_on firsts v (u ∷ []) p in omega (arith, le, up));
    reclaimed = in_last firsts v (Reclaims host) (u ∷ []) p
        (let le = h.late in let up = upto l (u ∷ p) h.whole in omega (arith, le, up)) h.reclaimed;
    mark = h.mark;
    issued = doings_on (firsts v) v (λ (S : List Doing). Issued S t h.mark)
        (λ S s o. step_on (λ before a. Issues a t h.mark) S s o) (u ∷ []) p h.issued;
  }

  steady : (l p : List Step) (u : Step) → Has (u ∷ l) p → u.node ≡ Server v
      → epoch (after_cause u.cause (acts p)) ≡ epoch (acts p)
  steady l p u h at =
      let le = h.late in
      let up : epoch (after_step u (acts p)) ≤ epoch (acts run) =
      subst (λ (S : List Doing). epoch S ≤ epoch (acts run)) (server_doings (firsts v) v u p at) (upto l
      (u ∷ p) h.whole) in
      let same = epoch_step u (acts p) in
      let grows = epoch_after_cause u (acts p) in
      omega (arith, le, up, same, grows)

  -- what a server's step keeps, from its cause on
  keeps_caused : (l p : List Step) (u : Step) (h : Has (u ∷ l) p) → u.node ≡ Server v
      → Keeps v t h.mark (after_step u (acts p)) (acts run) → Keeps v t h.mark (after_cause u.cause (acts p)) (acts run)
  keeps_caused l p u h at k =
      keep_caused v t h.mark u (acts p) (acts run) (server_may l p u h.whole at).tokens
      (in_cause (Reclaims host) u.cause (acts p) (steady l p u h at) h.reclaimed)
      (cause_on (λ before a. Issues a t h.mark) u.cause (acts p) h.issued) k

  -- the token was granted then, and is pinned at the end where it was
  keeps_run : (l p : List Step) (h : Has l p) → Keeps v t h.mark (acts p) (acts run)
  keeps_run [] p h =
      subst (λ (L : List Step). Granted v (acts L) t × (Pinned v (acts L) t → Pinned v (acts run) t)) (sym h.whole)
      (granted, λ q. q)
  keeps_run (u ∷ l) p h = by u.node refl (keeps_run l (u ∷ p) (has_next l p u h))
    where
      by : (k : Node) → u.node ≡ k → Keeps v t h.mark (acts_after v k u (acts p)) (acts run)
          → Keeps v t h.mark (acts p) (acts run)
      by (Host k) at kept = kept
      by (Server k) at kept =
          if_server (λ (S : List Doing). Keeps v t h.mark S (acts run) → Keeps v t h.mark (acts p) (acts run)) k v
          (after_step u (acts p)) (acts p)
          (λ same now. keep_cause v t h.mark u.cause (acts p) (acts run)
          (keeps_caused l p u h (at ∙ ap Server same) now)) (λ now. now) kept

  lives : (l p : List Step) (h : Has l p) → IsLive (acts p) host
  lives l p h =
      ((all l p h.whole).at v).served.owed_live t
      ((((all l p h.whole).at v).link host).granted_owed t refl (keeps_run l p h).0)

  -- its host has reached the epoch
  reached : (l p : List Step) → Has l p → epoch (acts run) ≤ epoch_at (own p) v
  reached l p h =
      let link = ((all l p h.whole).at v).link host in
      let late = h.late in
      elim (reclaimed_by (acts p) host h.reclaimed) [
        | inl admits ↦ (
            let c = (knowing l p h.whole).claimed admits in
            let at = ((all l p h.whole).alone host).said_epoch v (epoch (acts p)) c.0 (Reclaim c.1)
            (link.took c.0 (Reclaim c.1) c.2) in
            omega (arith, late, at)
            )
        | inr listed ↦ (
            let same = (knowing l p h.whole).now t h.mark listed h.issued refl in
            let at = link.asked t h.mark h.issued refl in
            omega (arith, late, same, at)
            )
      ]

  at_last : (l p : List Step) → Has l p → (epoch_at (own p) v ≡ epoch (acts run)) × (epoch (acts p) ≡ epoch (acts run))
  at_last l p h =
      let ge = reached l p h in
      let behind = (((all l p h.whole).at v).link host).behind in
      let up = upto l p h.whole in
      (omega (arith, ge, behind, up), omega (arith, ge, behind, up))

  -- # The last Revoke that names it
  record Asked : Type 0 where
    pub before : List Step
    pub rest : List Step
    pub step : Step
    pub whole : appended (step ∷ rest) before ≡ run
    pub at : step.node ≡ Server v
    pub revoke : RevokeOf
    pub sent : SentNow step host (Revoke revoke)
    pub names : In t.id revoke.ids
    pub late : epoch (acts run) ≤ epoch (after_cause step.cause (acts before))

  abbrev IsAsked : List Doing → Type 0
  IsAsked S = HasRevoked S t → epoch (acts run) ≤ epoch S → Asked

  asked_at : (l p : List Step) → appended l p ≡ run → IsAsked (acts p)
  asked_at l [] w = λ x le. elim x [
    | inl a ↦ absurd (let z : BeginsEpoch (firsts v) ≡ Sent t.host a.0 a.1 (Revoke a.2) = a.3 in cc)
    | inr a ↦ elim a.0 [ ]
  ]
  asked_at l (s ∷ p) w = by s.node refl (asked_at (s ∷ l) p w)
    where
      by_server : s.node ≡ Server v → IsAsked (acts p) → IsAsked (after_step s (acts p))
      by_server at old x le =
          let same = epoch_step s (acts p) in
          elim (asks_step t s (acts p) x) [
            | inl was ↦ (
                let k = asks_cause t s.cause (acts p) was in
                let is = k.1 in
                old k.0 (omega (arith, le, same, is))
                )
            | inr k ↦ record {
              before = p;
              rest = l;
              step = s;
              whole = w;
              at = at;
              revoke = k.0;
              sent = k.1;
              names = k.2;
              late = omega (arith, le, same);
            }
          ]

      by : (k : Node) → s.node ≡ k → IsAsked (acts p) → IsAsked (acts_after v k s (acts p))
      by (Host k) at old = old
      by (Server k) at old =
          if_server IsAsked k v (after_step s (acts p)) (acts p) (λ e. by_server (at ∙ ap Server e) old) old

  module _ (k : Asked) (again : (q : Asked) → length q.rest < length k.rest → ⊥) where
    -- the token was granted when that was sent
    has_first : Has k.rest (k.step ∷ k.before)
    has_first = record {
      whole = k.whole;
      late = late;
      reclaimed = ((all k.rest (k.step ∷ k.before) k.whole).at v).served.granted_reclaimed t is_granted;
      mark = issue.0;
      issued = issue.1;
    }
      where
        late : epoch (acts run) ≤ epoch (acts (k.step ∷ k.before))
        late =
            let le = k.late in
            let same : epoch (acts (k.step ∷ k.before)) ≡ epoch (after_cause k.step.cause (acts k.before)) =
            ap epoch (server_doings (firsts v) v k.step k.before k.at) ∙ epoch_step k.step (acts k.before) in
            omega (arith, le, same)

        named : (u : Token) × (u.id ≡ t.id) × (u.host ≡ k.sent.0.host) × Granted v (after_step k.step (acts k.before)) u
        named =
            revoked_granted v k.step (acts k.before) (server_may k.rest k.before k.step k.whole k.at).tokens k.sent.0
            k.sent.1 k.revoke k.sent.3 t.id k.names

        then_granted : Granted v (acts (k.step ∷ k.before)) named.0
        then_granted =
            subst (λ (S : List Doing). Granted v S named.0) (sym (server_doings
            (firsts v) v k.step k.before k.at)) named.3

        issue_of : (x : StayStamp) × Issued (acts (k.step ∷ k.before)) named.0 x
        issue_of =
            let here = (all k.rest (k.step ∷ k.before) k.whole).at v in
            here.served.owed_issued named.0 ((here.link named.0.host).granted_owed named.0 refl then_granted)

        is_t : named.0 ≡ t
        is_t = same_token k.rest (k.step ∷ k.before) k.whole named.0 issue_of.0 issue_of.1 named.1

        is_granted : Granted v (acts (k.step ∷ k.before)) t
        is_granted = subst (λ (u : Token). Granted v (acts (k.step ∷ k.before)) u) is_t then_granted

        issue : (x : StayStamp) × Issued (acts (k.step ∷ k.before)) t x
        issue = subst (λ (u : Token). (x : StayStamp) × Issued (acts (k.step ∷ k.before)) u x) is_t issue_of

    record IsAfter (l p : List Step) : Type 0 where
      pub has : Has l p
      pub revoked : HasRevoked (acts p) t
      pub short : length l ≤ length k.rest

    next_at : (l p : List Step) (u : Step) → IsAfter (u ∷ l) p → IsAfter l (u ∷ p)
    next_at l p u a = record {
      has = has_next l p u a.has;
      revoked = in_last firsts v (Asks t) (u ∷ []) p
          (let le = a.has.late in let up = upto l (u ∷ p) a.has.whole in omega (arith, le, up)) a.revoked;
      short = (let q : suc (length l) ≤ length k.rest = a.short in omega (arith, q));
    }

    -- where a later step stands
    reach : (l p : List Step) → IsAfter l p → (u : Step) → In u l
        → (before after : List Step) × IsAfter (u ∷ after) before × (length after < length l)
    reach [] p a u i = elim i [ ]
    reach (x ∷ l) p a u (inl q) =
        (p, l, subst (λ (y : Step). IsAfter (y ∷ l) p) (sym q) a, omega arith)
    reach (x ∷ l) p a u (inr i) =
        let f = reach l (x ∷ p) (next_at l p x a) u i in
        let lt : length f.1 < length l = f.3 in
        (f.0, f.1, f.2, omega (arith, lt))

    -- no lapse of the server comes: it would ask again
    lapse_not : (l p : List Step) (u : Step) → IsAfter (u ∷ l) p → u.node ≡ Server v → u.cause ≡ Lapse → ⊥
    lapse_not l p u a at lapse =
        again (record {
          before = p;
          rest = l;
          step = u;
          whole = a.has.whole;
          at = at;
          revoke = q.0;
          sent = q.1;
          names = q.2;
          late = (let le = a.has.late in let same = steady l p u a.has at in omega (arith, le, same));
        }) (let x : suc (length l) ≤ length k.rest = a.short in omega (arith, x))
      where
        q : (q : RevokeOf) × SentNow u t.host (Revoke q) × In t.id q.ids
        q = (server_due l p u a.has.whole at).sent.revokes_again t lapse
            (subst (λ (S : List Doing). IsOwed v S t) (server_doings (firsts v) v u p at) (record {
              granted = (keeps_run l (u ∷ p) (next_at l p u a).has).0;
              unpinned = λ pin. unpinned ((keeps_run l (u ∷ p) (next_at l p u a).has).1 pin);
              revoked = (next_at l p u a).revoked;
            }))

    lapses_not : (l p : List Step) → IsAfter l p → LapsesIn l (Server v) → ⊥
    lapses_not l p a (u, i, at, lapse) =
        let f = reach l p a u i in lapse_not f.1 f.0 u f.2 at lapse

    -- what a step of the server that takes a message keeps
    keeps_came : (q m : List Step) (y : Step) (b : IsAfter (y ∷ q) m) → y.node ≡ Server v → (w : Message)
        → y.cause ≡ Came w → Keeps v t b.has.mark (after_cause (Came w) (acts m)) (acts run)
    keeps_came q m y b at w cause =
        subst (λ (c : Cause). Keeps v t b.has.mark (after_cause c (acts m)) (acts run)) cause
        (keeps_caused q m y b.has at
        (subst (λ (S : List Doing). Keeps v t b.has.mark S (acts run)) (server_doings (firsts v) v y m at)
        (keeps_run q (y ∷ m) (has_next q m y b.has))))

    -- # What the host answers is taken by the server
    module _ (l p : List Step) (x : Step) (a : IsAfter (x ∷ l) p) (is : x.node ≡ Host host) where
      may : HostMay script host (own p) x
      may = (subst (λ (n : Node). StepMeets script start firsts n p x) is (met l (x ∷ p) a.has.whole).1.0).0

      dues : HostDue script host (own p) x
      dues =
          subst (λ (n : Node). StepDue script start firsts n p x) is
          (due_at script start firsts real run meets due over none p l x a.has.whole)

      -- the host's epoch is the last then
      its_epoch : epoch_at (x ∷ own p) v ≡ epoch (acts run)
      its_epoch =
          subst (λ (L : List Step). epoch_at L v ≡ epoch (acts run)) (host_steps host x p is)
          (at_last l (x ∷ p) (next_at l p x a).has).0

      abbrev Takes : Message → Type 0
      Takes w = (m n : List Step) (y : Step) → IsAfter (y ∷ n) m → y.node ≡ Server v → y.cause ≡ Came w
          → w.host ≡ host → w.epoch ≡ epoch (acts m) → ⊥

      goes : (w : Message) → In w x.sent → w.server ≡ v → w.epoch ≡ epoch_at (x ∷ own p) v
          → resender w ≡ Server w.server → Takes w → ⊥
      goes w i to_v at_e re takes =
          elim (comes_of script run over none p l x a.has.whole w i
          (λ st. subst (IsStopped run) (ap (λ (d : Direction). receiver_by d w) from.1) st)
          (λ st. subst (IsStopped run) re st)) [
            | inl lapses ↦
                lapses_not l (x ∷ p) (next_at l p x a) (subst (LapsesIn l) (re ∙ ap Server to_v) lapses)
            | inr taken ↦ (
                let f = reach l (x ∷ p) (next_at l p x a) taken.0 taken.1 in
                by taken.0 f.0 f.1 f.2 taken.2 taken.0.node refl
                (met f.1 (taken.0 ∷ f.0) f.2.has.whole).1.0
                )
          ]
        where
          from : (w.host ≡ host) × (w.direction ≡ ToServer)
          from = subst (λ (n : Node). IsFrom n w) is ((met l (x ∷ p) a.has.whole).1.3 w i).0

          by : (y : Step) (m n : List Step) → IsAfter (y ∷ n) m → y.cause ≡ Came w → (c : Node) → y.node ≡ c
              → StepMeets script start firsts c m y → ⊥
          by y m n b cause (Host c) at met_y =
              absurd (let z : ToServer ≡ ToHost = sym from.1 ∙ (met_y.1 w cause).1 in cc)
          by y m n b cause (Server c) at met_y =
              takes m n y b (at ∙ ap Server (sym (met_y.1 w cause).0 ∙ to_v)) cause from.0
              (at_e ∙ (its_epoch ∙ sym (at_last (y ∷ n) m b.has).1))

      -- it can't be returned
      returned_not : (named : Named) (w : ServerId) (e n : ℕ) → Sends x w e n (Returned named)
          → home named.fid.fileset ≡ v → In t.id named.ids → ⊥
      returned_not named w e n sends at_v i =
          goes sends.0 sends.1 (sends.2 ∙ to_v) (sends.3 ∙ (may.tokens.epochs w e n (Returned named) sends
          ∙ ap (λ (u : ServerId). epoch_at (x ∷ own p) u) to_v))
          (ap (λ (b : Body). resender_by b sends.0) sends.5) takes
        where
          stays : first_stay named.fid.fileset ≡ record { server = w; moves = n }
          stays = stay_first (x ∷ own p) named.fid.fileset w n (may.tokens.answers named w e n (inl sends))

          to_v : w ≡ v
          to_v = sym (ap (λ (y : Stay). y.server) stays) ∙ at_v

          takes : Takes sends.0
          takes m q y b at cause h at_e =
              elim (keeps_came q m y b at sends.0 cause).0 [
                | inl new ↦ plain v t b.has.mark (Took sends.0.host sends.0.epoch sends.0.moves sends.0.body)
                    ((λ j d c body z. cc), (λ j ts z. cc)) new
                | inr old ↦ old.2 (inl (named, (sends.0.moves, here, (path, lives (y ∷ q) m b.has)), i))
              ]
            where
              here : Here v (acts m) named.fid.fileset sends.0.moves
              here =
                  here_was v (acts m) named.fid.fileset sends.0.moves ((all (y ∷ q) m b.has.whole).at v).served.put
                  (subst (λ (z : ServerId × ℕ). first_stay named.fid.fileset ≡ record { server = z.0; moves = z.1 })
                  (λ j. (to_v j, sym sends.4 j)) stays)

              path : Took sends.0.host sends.0.epoch sends.0.moves sends.0.body
                  ≡ Took t.host (epoch (acts m)) sends.0.moves (Returned named)
              path = λ j. Took (h j) (at_e j) sends.0.moves (sends.5 j)

      -- nor kept: it would be pinned
      kept_not : KeepsToken x t.id → ⊥
      kept_not keeps =
          goes keeps.4.0 keeps.4.1 (keeps.4.2 ∙ to_v) (keeps.4.3
          ∙ (may.tokens.epochs keeps.0 keeps.1 keeps.2 (Kept keeps.3) keeps.4
          ∙ ap (λ (u : ServerId). epoch_at (x ∷ own p) u) to_v))
          (ap (λ (b : Body). resender_by b keeps.4.0) keeps.4.5) takes
        where
          uses : HoldsId (x ∷ own p) t.id × TokenInUse (x ∷ own p) t.id
          uses = let u = may.revoked.keeps t.id keeps in (u.0, u.1)

          ever_t : (u : Token) → EverHeld (x ∷ own p) u → u.id ≡ t.id → u ≡ t
          ever_t u held ids =
              same_held l (x ∷ p) a.has.whole u
              (subst (λ (L : List Step). EverHeld L u) (sym (host_steps host x p is)) held) ids

          held_t : uses.0.0 ≡ t
          held_t = ever_t uses.0.0 (held_ever (x ∷ own p) uses.0.0 uses.0.1) uses.0.2

          file : uses.0.0.fid ≡ keeps.3.fid
          file =
              may.tokens.answers_file keeps.3 keeps.0 keeps.1 keeps.2 uses.0.0 (inr keeps.4) uses.0.1.0
              (subst (λ (j : TokenId). In j keeps.3.ids) (sym uses.0.2) keeps.5)

          at_v : home keeps.3.fid.fileset ≡ v
          at_v =
              ap (λ (f : Fid). home f.fileset) (sym file)
              ∙ (ap (λ (u : Token). home u.fid.fileset) held_t ∙ fid_v)

          stays : first_stay keeps.3.fid.fileset ≡ record { server = keeps.0; moves = keeps.2 }
          stays =
              stay_first (x ∷ own p) keeps.3.fid.fileset keeps.0 keeps.2
              (may.tokens.answers keeps.3 keeps.0 keeps.1 keeps.2 (inr keeps.4))

          to_v : keeps.0 ≡ v
          to_v = sym (ap (λ (y : Stay). y.server) stays) ∙ at_v

          kind : IsUseKind t.kind
          kind =
              let u = used_ever script host (x ∷ own p)
              (subst (Always (HostMay script host)) (host_steps host x p is)
              (own_run script start firsts (x ∷ p) (met l (x ∷ p) a.has.whole) host)) uses.1.0 uses.1.1 in
              subst (λ (y : Token). IsUseKind y.kind) (ever_t uses.1.0.token u.0 uses.1.2) u.1

          takes : Takes keeps.4.0
          takes m q y b at cause h at_e = unpinned (keeping.1 (
            (inl (
              keeps.3,
              (
                keeps.4.0.moves,
                here,
                (
                  path,
                  lives
                      (y ∷ q) m
                      b.has,
                ),
              ),
              keeps.5,
              kind,
              (keeps_run (y ∷ q) m b.has).0,
            )),
            keeping.0,
          ))
            where
              keeping : Keeps v t b.has.mark (after_cause (Came keeps.4.0) (acts m)) (acts run)
              keeping = keeps_came q m y b at keeps.4.0 cause

              here : Here v (acts m) keeps.3.fid.fileset keeps.4.0.moves
              here =
                  here_was v (acts m) keeps.3.fid.fileset keeps.4.0.moves ((all (y ∷ q) m b.has.whole).at v).served.put
                  (subst (λ (z : ServerId × ℕ). first_stay keeps.3.fid.fileset ≡ record { server = z.0; moves = z.1 })
                  (λ j. (to_v j, sym keeps.4.4 j)) stays)

              path : Took keeps.4.0.host keeps.4.0.epoch keeps.4.0.moves keeps.4.0.body
                  ≡ Took t.host (epoch (acts m)) keeps.4.0.moves (Kept keeps.3)
              path = λ j. Took (h j) (at_e j) keeps.4.0.moves (keeps.4.5 j)

      -- # But it is one of these, where the Revoke comes
      module _ (cause : x.cause ≡ Came k.sent.0) where
        may_send : ServerMay script start v (steps_of_server v k.before) (acts k.before) k.step
        may_send = server_may k.rest k.before k.step k.whole k.at

        admitted_so : StaysPut (after_admitting k.step (acts k.before))
        admitted_so =
            admitted_put k.step (acts k.before)
            (works_none v (filesets_kept start v (steps_of_server v k.before)) (acts k.before) k.step may_send.works.applies)
            ((all (k.step ∷ k.rest) k.before k.whole).at v).served.put

        sent_from : (mid : List Doing) × ServerTokens v mid (Sent k.sent.0.host k.sent.0.epoch k.sent.0.moves
            k.sent.0.body) × (k.sent.0.epoch ≡ epoch (after_cause k.step.cause (acts k.before)))
            × (StaysPut (after_admitting k.step (acts k.before)) → StaysPut mid)
        sent_from =
            sent_so v k.step (acts k.before) may_send.tokens k.sent.0 k.sent.1

        from : k.sent.0.server ≡ v
        from =
            (subst (λ (n : Node). IsFrom n k.sent.0) k.at
            ((met k.rest (k.step ∷ k.before) k.whole).1.3 k.sent.0 k.sent.1).0).0

        file_here : first_stay k.revoke.fid.fileset ≡ record { server = v; moves = k.sent.0.moves }
        file_here =
            here_is v sent_from.0 k.revoke.fid.fileset k.sent.0.moves (sent_from.3 admitted_so)
            (sent_from.1.revokes_here k.sent.0.host k.sent.0.epoch k.sent.0.moves k.revoke
            (λ j. Sent k.sent.0.host k.sent.0.epoch k.sent.0.moves (k.sent.3 j)))

        file_v : home k.revoke.fid.fileset ≡ v
        file_v = ap (λ (y : Stay). y.server) file_here

        now : k.sent.0.epoch ≡ epoch_at (own p) v
        now =
            let is_e = sent_from.2 in
            let late = k.late in
            let last = (at_last (x ∷ l) p a.has).0 in
            let up : epoch (acts (k.step ∷ k.before)) ≤ epoch (acts run) = upto k.rest (k.step ∷ k.before) k.whole in
            let same : epoch (acts (k.step ∷ k.before)) ≡ epoch (after_cause k.step.cause (acts k.before)) =
            ap epoch (server_doings (firsts v) v k.step k.before k.at) ∙ epoch_step k.step (acts k.before) in
            omega (arith, is_e, late, last, up, same)

        d : RevokeDue (own p) x k.revoke t.id
        d =
            dues.revokes k.revoke t.id (
              k.sent.0,
              cause,
              from ∙ sym file_v,
              now ∙ ap (λ (u : ServerId). epoch_at (own p) u) (sym file_v),
              sym (ap (λ (y : Stay). y.moves) file_here),
              k.sent.3,
            ) k.names

        in_use_not : TokenInUse (own p) t.id → ⊥
        in_use_not tu =
            kept_not (d.keeps (
              tu.0.token,
              ((all (x ∷ l) p a.has.whole).alone host).holds (live_at (x ∷ l) p a.has.whole) tu.0.token
                  (use_owned (x ∷ l) p a.has.whole tu.0 tu.1),
              tu.2,
            ) tu)

        dirty_not : (u : Token) → Held (own p) u → u.id ≡ t.id → HasDirty (own p) x u → ⊥
        dirty_not u held ids dirty =
            let g = d.gives u held ids dirty in
            given_not l (x ∷ p) a.has.whole g.0
            (subst (λ (L : List Step). Made L g.0) (sym (host_steps host x p is)) (inl g.1)) g.2

        back_not : (fid : Fid) → AnswersOf (own p) k.revoke t.id fid → home fid.fileset ≡ v → ⊥
        back_not fid answers at_v =
            let q = d.returns fid answers in_use_not dirty_not
            (λ g made i. absurd (given_not (x ∷ l) p a.has.whole g made i)) in
            returned_not q.3 q.0 q.1 q.2 q.4 (ap (λ (f : Fid). home f.fileset) q.5 ∙ at_v) q.6

        holds_not : HoldsId (own p) t.id → ⊥
        holds_not held =
            back_not held.0.fid (inl (held.0, held.1, held.2, refl))
            (ap (λ (u : Token). home u.fid.fileset)
            (same_held (x ∷ l) p a.has.whole held.0 (held_ever (own p) held.0 held.1) held.2) ∙ fid_v)

        answered : ⊥
        answered = back_not k.revoke.fid (inr (holds_not, refl)) file_v

    first_at : IsAfter k.rest (k.step ∷ k.before)
    first_at = record {
      has = has_first;
      revoked = subst (λ (S : List Doing). HasRevoked S t) (sym (server_doings (firsts v) v k.step k.before k.at))
          (inr (
            since_shipped (Asks t) k.step.shipped (after_sending k.step (acts k.before))
                (asks_now k.step.sent (after_admitting k.step (acts k.before)) k.sent.0 k.sent.1 k.sent.2 k.sent.3),
            λ n. (let z : Reserves k.step.reserved ≡ BeginsEpoch n.0 = n.1 in cc),
          ));
      short = omega arith;
    }
      where
        asks_now : (ms : List Message) (S : List Doing) (w : Message) → In w ms → w.host ≡ t.host
            → w.body ≡ Revoke k.revoke → InEpoch (Asks t) (appended (sending ms) S)
        asks_now [] S w i h b = elim i [ ]
        asks_now (y ∷ ms) S w (inl q) h b =
            let to_host : y.host ≡ t.host = subst (λ (z : Message). z.host ≡ t.host) q h in
            let body : y.body ≡ Revoke k.revoke = subst (λ (z : Message). z.body ≡ Revoke k.revoke) q b in
            in_sending (Asks t) ms (Sent y.host y.epoch y.moves y.body ∷ S)
            (inl (y.epoch, y.moves, k.revoke, (λ j. Sent (to_host j) y.epoch y.moves (body j)), k.names))
        asks_now (y ∷ ms) S w (inr i) h b = asks_now ms (Sent y.host y.epoch y.moves y.body ∷ S) w i h b

    never : ⊥
    never =
        elim (comes_of script run over none k.before k.rest k.step k.whole k.sent.0 k.sent.1
        (λ st. live (subst (IsStopped run)
        (ap (λ (d : Direction). receiver_by d k.sent.0) from.1 ∙ ap Host k.sent.2) st))
        (λ st. subst (IsStopped run) again_by st)) [
          | inl lapses ↦
              lapses_not k.rest (k.step ∷ k.before) first_at (subst (LapsesIn k.rest) (again_by
              ∙ ap Server from.0) lapses)
          | inr taken ↦ (
              let f = reach k.rest (k.step ∷ k.before) first_at taken.0 taken.1 in
              by taken.0 f.0 f.1 f.2 taken.2 taken.0.node refl (met f.1 (taken.0 ∷ f.0) f.2.has.whole).1.0
              )
        ]
      where
        from : (k.sent.0.server ≡ v) × (k.sent.0.direction ≡ ToHost)
        from =
            subst (λ (n : Node). IsFrom n k.sent.0) k.at
            ((met k.rest (k.step ∷ k.before) k.whole).1.3 k.sent.0 k.sent.1).0

        again_by : resender k.sent.0 ≡ Server k.sent.0.server
        again_by = ap (λ (b : Body). resender_by b k.sent.0) k.sent.3

        by : (y : Step) (m n : List Step) → IsAfter (y ∷ n) m → y.cause ≡ Came k.sent.0 → (c : Node) → y.node ≡ c
            → StepMeets script start firsts c m y → ⊥
        by y m n b cause (Host c) at met_y =
            answered n m y b (at ∙ ap Host (sym (met_y.1 k.sent.0 cause).0 ∙ k.sent.2)) cause
        by y m n b cause (Server c) at met_y =
            absurd (let z : ToHost ≡ ToServer = sym from.1 ∙ (met_y.1 k.sent.0 cause).1 in cc)

  asked_none : (fuel : ℕ) (k : Asked) → length k.rest < fuel → ⊥
  asked_none zero k lt = absurd (omega (arith, lt))
  asked_none (suc fuel) k lt =
      never k (λ q short. asked_none fuel q
      (let x : length k.rest < suc fuel = lt in omega (arith, short, x)))

  pub revoked_none : HasRevoked (acts run) t → ⊥
  revoked_none x =
      let k = asked_at [] run refl x (omega arith) in asked_none (suc (length k.rest)) k (omega arith)

pub nothing_is_owed : NothingIsOwed
nothing_is_owed script journal q v t owed =
    revoked_none script q.run.start (firsts_of journal) (λ u. from_one _) (past_of journal) q.run.steps
    (due_of script journal q.run q.dutiful) q.over q.none_held v t owed.granted owed.unpinned stays
    (λ g made. gives_are_known script journal q t.host stays g made) owed.revoked
  where
    whole : Whole (λ h. steps_of_host h (past_of journal)) (λ u. doings_of (firsts_of journal u) u (past_of journal))
    whole =
        whole_at script q.run.start (firsts_of journal) (λ u. from_one _) (past_of journal) q.run.steps
        (due_of script journal q.run q.dutiful) q.over q.none_held [] (past_of journal) refl

    stays : HasStopped (steps_of_host t.host (past_of journal)) → ⊥
    stays stopped =
        stopped_away script q.run.start (firsts_of journal) (past_of journal) q.run.steps q.over q.none_held t.host v
        (λ P o. found t.host P journal.steps o) stopped
        ((whole.at v).served.owed_live t (((whole.at v).link t.host).granted_owed t refl owed.granted))

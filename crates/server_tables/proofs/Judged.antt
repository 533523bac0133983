-- What the tables tell of claims: which can be granted, what is granted, and what is said of them.
use Rattle.std.proofs.Common.{◌≡◌, ◌⊎◌, ◌<◌, ◌/◌, ℕ, zero, suc, ◌==◌, Bool, true, false, ◌&&◌, ◌||◌, not, Some, None}
use Rattle.std.proofs.Common.{if◌then◌else◌, List, [], ◌∷◌, inl, inr, refl, sym, ◌∙◌, ap, subst, eq-eqb, eqb-true, arith}
use Rattle.std.specs.List.{filter, find}
use Rattle.std.proofs.lemmas.Bool.{and_from, and_parts, cases_Bool, false≢true}
use Rattle.base_types.specs.declared.ids.FilesetId.{FilesetId}
use Rattle.base_types.specs.declared.ids.HostId.{HostId}
use Rattle.base_types.specs.declared.ids.ServerId.{ServerId}
use Rattle.message_types.specs.declared.giving.AppliedGive.{AppliedGive}
use Rattle.message_types.specs.declared.giving.Give.{Give}
use Rattle.message_types.specs.declared.giving.Outstanding.{Outstanding}
use Rattle.message_types.specs.declared.giving.Reclaim.{Reclaim as ReclaimOf}
use Rattle.message_types.specs.declared.giving.Reclaimed.{Reclaimed as ReclaimedOf}
use Rattle.message_types.specs.declared.message.Body.TheVariants.{GiveBack, Reclaim}
use Rattle.token_manager.specs.declared.grants.Grants.{Grants}
use Rattle.token_table.specs.Tables.{has_id}
use Rattle.token_types.specs.Conflicts.{same_id}
use Rattle.token_types.specs.declared.token.Token.{Token}
use Rattle.token_types.specs.declared.token.TokenId.{TokenId}
use Rattle.run_rules.specs.Doings.{Doing, GivenUp, HasGoneAway, HasReclaimed, Here, IsApplied, IsLive, TookNow, TookOf}
use Rattle.run_rules.specs.Doings.{slot_of}
use Rattle.run_rules.specs.Doings.Slot.{Absent, Writable}
use Rattle.run_rules.specs.Messages.{home}
use Rattle.run_rules.specs.Past.{In}
use Rattle.run_rules.specs.ServerDue.{AnswersClaim}
use Rattle.run_rules.specs.ServerTokens.{ClaimsHere, HasTakenGives, IsGrantedId, MayAdmit}
use Rattle.run_rules.specs.Tokens.{NamesGive, number_of}
use Rattle.server_tables.specs.declared.recovering.Claimed.{Claimed}
use Rattle.server_tables.specs.declared.recovering.GaveUp.{GaveUp}
use Rattle.server_tables.specs.declared.recovering.Recovering.{Recovering}
use Rattle.server_tables.specs.declared.tables.LastGive.{LastGive}
use Rattle.server_tables.specs.Claims.{applied_of, left_out_of, names}
use Rattle.server_tables.specs.Judging.{first_ripe, gave_up, has_all, has_taken, is_here}
use Rattle.server_tables.specs.Places.{is_of}
use Rattle.server_tables.specs.Standing.{RecoveryStands, TokensStand}
use Rattle.server_tables.proofs.Answering.{same_fileset}
use Rattle.server_tables.proofs.Fetching.{same_host}
use Rattle.server_tables.proofs.Granting.{id_is}
use Rattle.server_tables.proofs.Listed.{all_in, in_all}
use Rattle.server_tables.proofs.Settling.{any_in, in_any, in_map, of_map}
use Rattle.server_tables.proofs.Without.{in_filter, to_filter}
use Rattle.server_tables.proofs.Still.{StayPut, at_first}
use Rattle.token_manager.proofs.Noting.{same_self}

-- # Lists

not_true : (b : Bool) → not b ≡ true → b ≡ false
not_true true e = absurd (false≢true e)
not_true false e = refl

or_parts : (a b : Bool) → (a || b) ≡ true → (a ≡ true) ⊎ (b ≡ true)
or_parts true b e = inl refl
or_parts false b e = inr e

or_left : (a b : Bool) → a ≡ true → (a || b) ≡ true
or_left true b e = refl
or_left false b e = absurd (false≢true e)

or_right : (a b : Bool) → b ≡ true → (a || b) ≡ true
or_right true b e = refl
or_right false b e = e

pub found_first : {A : Type 0} (p : A → Bool) (xs : List A) (x : A) → find p xs ≡ Some x → In x xs × (p x ≡ true)
found_first p [] x e = absurd (cc)
found_first p (y ∷ ys) x e = go (found_first p ys x) (p y) refl e
  where
    go : (find p ys ≡ Some x → In x ys × (p x ≡ true)) → (b : Bool) → p y ≡ b → find p (y ∷ ys) ≡ Some x
        → In x (y ∷ ys) × (p x ≡ true)
    go deeper true h f = let q : Some y ≡ Some x = rw h at f in let k : y ≡ x = cc in (inl (sym k), sym (ap p k) ∙ h)
    go deeper false h f = let q : find p ys ≡ Some x = rw h at f in let r = deeper q in (inr r.0, r.1)

pub none_found : {A : Type 0} (p : A → Bool) (xs : List A) → find p xs ≡ None → (x : A) → In x xs → p x ≡ true → ⊥
none_found p [] e x m t = elim m [ ]
none_found p (y ∷ ys) e x m t = go (none_found p ys) (p y) refl e m
  where
    go : (find p ys ≡ None → (x : _) → In x ys → p x ≡ true → ⊥) → (b : Bool) → p y ≡ b → find p (y ∷ ys) ≡ None
        → In x (y ∷ ys) → ⊥
    go deeper true h f i = let q : Some y ≡ None = rw h at f in cc
    go deeper false h f (inl k) = false≢true (sym h ∙ sym (ap p k) ∙ t)
    go deeper false h f (inr i) = let q : find p ys ≡ None = rw h at f in deeper q x i t

-- # Places

pub here_from : (server : ServerId) (past : List Doing) (f : FilesetId) (n : ℕ) → StayPut server past
    → Here server past f n → (n ≡ 0) × (is_of server f ≡ true)
unfolding home
here_from server past f n put h = at_first (f.0 / 65536 == server.0) n (sym (put f) ∙ h)

pub here_to : (server : ServerId) (past : List Doing) (f : FilesetId) (n : ℕ) → StayPut server past → n ≡ 0
    → is_of server f ≡ true → Here server past f n
unfolding home
here_to server past f n put e h =
    put f ∙ (ap (λ b. if b then Writable 0 else Absent) h ∙ ap Writable (sym e))

-- # What a claim waits for

took_applied : (server : ServerId) (past : List Doing) (h : HostId) (g : Give)
    → TookOf server past h g.fid.fileset (GiveBack g) → IsApplied server past h (number_of g)
took_applied server [] h g t = elim t [ ]
took_applied server (a ∷ past) h g (inl p) = inl (g, p, refl, omega arith)
took_applied server (a ∷ past) h g (inr p) = inr (took_applied server past h g p.0)

module _ (past : List Doing) (server : ServerId) (x : Recovering)
    (put : StayPut server past) (s : RecoveryStands past server x.claims x.taken x.given_up) (h : HostId) where
  given_of : (f : FilesetId) (n : ℕ) → has_taken x.taken h f n ≡ true
      → (g : Give) × TookOf server past h g.fid.fileset (GiveBack g) × (g.fid.fileset ≡ f) × (g.number ≡ n)
  given_of f n e =
      let l = any_in (λ (taken : LastGive). (taken.host.0 == h.0) && ((taken.give.fileset.0 == f.0) &&
      (taken.give.number == n))) x.taken e in
      let a = and_parts (l.0.host.0 == h.0) ((l.0.give.fileset.0 == f.0) && (l.0.give.number == n)) l.2 in
      let b = and_parts (l.0.give.fileset.0 == f.0) (l.0.give.number == n) a.1 in
      let g = s.taken_only l.0 l.1 in (
        g.0,
        subst (λ (k : HostId). TookOf server past k g.0.fid.fileset (GiveBack g.0)) (same_host l.0.host h a.0) g.1,
        ap (λ (m : AppliedGive). m.fileset) g.2 ∙ same_fileset l.0.give.fileset f b.0,
        ap (λ (m : AppliedGive). m.number) g.2 ∙ eqb-true l.0.give.number n b.1,
      )

  up_of : (i : TokenId) → gave_up x.given_up h i ≡ true → GivenUp server past h i
  up_of i e =
      let l = any_in (λ (gave : GaveUp). (gave.host.0 == h.0) && same_id gave.id i) x.given_up e in
      let a = and_parts (l.0.host.0 == h.0) (same_id l.0.id i) l.2 in
      subst (λ (k : HostId). GivenUp server past k i) (same_host l.0.host h a.0)
      (subst (GivenUp server past l.0.host) (id_is l.0.id i a.1) (s.given_up_only l.0 l.1))

  pub all_taken : (claim : ReclaimOf) → has_all x.taken server h claim ≡ true → HasTakenGives server past h claim
  all_taken claim e o i some here =
      let a = all_in (λ (out : Outstanding). (out.give == 0) || (not
      (is_here server out) || has_taken x.taken h out.fileset out.give)) claim.numbers e o i in
      elim (or_parts (o.give == 0) (not (is_here server o) || has_taken x.taken h o.fileset o.give) a) [
        | inl z ↦ (let q = eqb-true o.give 0 z in absurd (omega (arith, some, q)))
        | inr z ↦ elim (or_parts (not (is_here server o)) (has_taken x.taken h o.fileset o.give) z) [
          | inl n ↦ (let p = here_from server past o.fileset o.moves put here in
              absurd (false≢true (sym (not_true (is_here server o) n) ∙ and_from (o.moves == 0)
              (is_of server o.fileset) (eq-eqb o.moves 0 p.0) p.1)))
          | inr t ↦ (let g = given_of o.fileset o.give t in
              (g.0, subst (λ (f : FilesetId). TookOf server past h f (GiveBack g.0)) g.2 g.1, g.2, g.3))
        ]
      ]

  module _ (never : HasReclaimed past h → ⊥) (stays : HasGoneAway past h → ⊥) where
    has_given : (g : Give) → TookOf server past h g.fid.fileset (GiveBack g)
        → has_taken x.taken h g.fid.fileset g.number ≡ true
    has_given g t = in_any (λ (taken : LastGive). (taken.host.0 == h.0) &&
        ((taken.give.fileset.0 == g.fid.fileset.0) && (taken.give.number == g.number)))
        (record { host = h; give = number_of g }) x.taken (s.taken h g t never stays)
        (and_from (h.0 == h.0) ((g.fid.fileset.0 == g.fid.fileset.0) && (g.number == g.number)) (eq-eqb h.0 h.0 refl)
        (and_from (g.fid.fileset.0 == g.fid.fileset.0) (g.number == g.number)
        (eq-eqb g.fid.fileset.0 g.fid.fileset.0 refl) (eq-eqb g.number g.number refl)))

    has_up : (i : TokenId) → GivenUp server past h i → gave_up x.given_up h i ≡ true
    has_up i u = in_any (λ (gave : GaveUp). (gave.host.0 == h.0) && same_id gave.id i)
        (record { host = h; id = i }) x.given_up
        (s.given_up h i u never stays) (and_from (h.0 == h.0) (same_id i i) (eq-eqb h.0 h.0 refl) (same_self i))

    pub taken_all : (claim : ReclaimOf) → HasTakenGives server past h claim → has_all x.taken server h claim ≡ true
    taken_all claim t = in_all (λ (out : Outstanding). (out.give == 0) || (not
        (is_here server out) || has_taken x.taken h out.fileset out.give)) claim.numbers (λ o i.
        elim (cases_Bool (o.give == 0)) [
          | inl z ↦ or_left (o.give == 0) (not (is_here server o) || has_taken x.taken h o.fileset o.give) z
          | inr z ↦ or_right (o.give == 0) (not (is_here server o) || has_taken x.taken h o.fileset o.give) (elim
              (cases_Bool (is_here server o)) [
                | inl e ↦ (let p = and_parts (o.moves == 0) (is_of server o.fileset) e in
                    let q = t o i (above z) (here_to server past o.fileset o.moves put (eqb-true o.moves 0 p.0) p.1) in
                    or_right (not (is_here server o)) (has_taken x.taken h o.fileset o.give)
                    (subst (λ (k : ℕ). has_taken x.taken h o.fileset k ≡ true) q.3
                    (subst (λ (f : FilesetId). has_taken x.taken h f q.0.number ≡ true) q.2
                    (has_given q.0 (subst (λ (f : FilesetId). TookOf server past h f (GiveBack q.0)) (sym q.2) q.1)))))
                | inr e ↦ or_left (not (is_here server o)) (has_taken x.taken h o.fileset o.give) (ap not e)
              ])
        ])
      where
        above : {n : ℕ} → (n == 0) ≡ false → 0 < n
        above {n = zero} e = absurd (false≢true (sym e))
        above {n = suc n} e = omega arith

    -- # What is said of a claim

    abbrev pub answer_of : ReclaimOf → ReclaimedOf
    answer_of claim = record {
      applied = applied_of x.taken h claim.numbers;
      left_out = left_out_of x.given_up h claim.tokens;
    }

    abbrev named : Outstanding → AppliedGive
    named out = record { fileset = out.fileset; number = out.give }

    pub applied_so : (claim : ReclaimOf) (n : AppliedGive) → In n (applied_of x.taken h claim.numbers)
        → (g : Give) × TookOf server past h g.fid.fileset (GiveBack g) × NamesGive claim.numbers g × (number_of g ≡ n)
    applied_so claim n i =
        let o = of_map named n (filter (λ (out : Outstanding). has_taken x.taken h out.fileset out.give)
        claim.numbers) i in
        let p = in_filter (λ (out : Outstanding). has_taken x.taken h out.fileset out.give) o.0 claim.numbers o.1 in
        let g = given_of o.0.fileset o.0.give p.1 in
        (g.0, g.1, (o.0, p.0, sym g.2, sym g.3), (λ j. record { fileset = g.2 j; number = g.3 j }) ∙ o.2)

    pub left_so : (claim : ReclaimOf) (i : TokenId) → In i (left_out_of x.given_up h claim.tokens)
        → GivenUp server past h i
    left_so claim i m =
        let t = of_map (λ (token : Token). token.id) i (filter (λ
        (token : Token). gave_up x.given_up h token.id) claim.tokens) m in
        let p = in_filter (λ (token : Token). gave_up x.given_up h token.id) t.0 claim.tokens t.1 in
        subst (GivenUp server past h) t.2 (up_of t.0.id p.1)

    pub was_applied : (claim : ReclaimOf) (n : AppliedGive) → In n (applied_of x.taken h claim.numbers)
        → IsApplied server past h n
    was_applied claim n i = let g = applied_so claim n i in subst (IsApplied server past h) g.3
        (took_applied server past h g.0 g.1)

    pub answers_claim : (claim : ReclaimOf) → AnswersClaim server past h claim (answer_of claim)
    answers_claim claim = record {
      applied = λ g t n.
          let e = has_given g t in
          let f : has_taken x.taken h n.0.fileset n.0.give ≡ true = subst (λ
          (k : ℕ). has_taken x.taken h n.0.fileset k ≡ true) (sym n.3)
          (subst (λ (f : FilesetId). has_taken x.taken h f g.number ≡ true) (sym n.2) e) in
          let q : number_of g ≡ named n.0 = (λ j. record { fileset = sym n.2 j; number = sym n.3 j }) in
          subst (λ (m : AppliedGive). In m (applied_of x.taken h claim.numbers)) (sym q)
          (in_map named n.0 (filter (λ (out : Outstanding). has_taken x.taken h out.fileset out.give) claim.numbers)
          (to_filter (λ (out : Outstanding). has_taken x.taken h out.fileset out.give) n.0 claim.numbers n.1 f));
      applied_only = λ n i. applied_so claim n i;
      left_out = λ t i u.
          in_map (λ (token : Token). token.id) t (filter (λ (token : Token). gave_up x.given_up h token.id)
          claim.tokens)
          (to_filter (λ (token : Token). gave_up x.given_up h token.id) t claim.tokens i (has_up t.id u));
    }

-- # Which claims can be granted

module _ (past : List Doing) (server : ServerId) (x : Recovering)
    (put : StayPut server past) (s : RecoveryStands past server x.claims x.taken x.given_up) where
  pub ripe_is : (c : Claimed) → first_ripe x server ≡ Some c → In c x.claims × HasTakenGives server past c.host c.claim
  ripe_is c e =
      let f = found_first (λ (claimed : Claimed). has_all x.taken server claimed.host claimed.claim) x.claims c e in
      (f.0, all_taken past server x put s c.host c.claim f.1)

  pub none_ripe : first_ripe x server ≡ None → (h : HostId) (n : ℕ) (claim : ReclaimOf)
      → TookNow past h n (Reclaim claim)
      → (HasReclaimed past h → ⊥) → IsLive past h → HasTakenGives server past h claim → ⊥
  none_ripe e h n claim took never live t =
      none_found (λ (claimed : Claimed). has_all x.taken server claimed.host claimed.claim) x.claims e
      (record { host = h; claim = claim }) (s.claim h n claim took never live)
      (taken_all past server x put s h never live.1 claim t)

-- # Which tokens are granted again

abbrev pub is_claimed : Recovering → Grants → ServerId → HostId → ReclaimOf → Token → Bool
is_claimed x grants server h claim t =
    not (has_id grants.table.tokens t.id) && (names claim server t.fid.fileset && not (gave_up x.given_up h t.id))

-- the first of each number that is to be granted
pub record AreClaimed (keeps : Token → Bool) (claimed tokens : List Token) : Type 0 where
  pub from : (t : Token) → In t tokens → In t claimed × (keeps t ≡ true)
  pub all : (t : Token) → In t claimed → keeps t ≡ true → (u : Token) × In u tokens × (u.id ≡ t.id)
  pub apart : (t u : Token) → In t tokens → In u tokens → t.id ≡ u.id → t ≡ u

module _ (past : List Doing) (server : ServerId) (x : Recovering)
    (put : StayPut server past) (s : RecoveryStands past server x.claims x.taken x.given_up) (h : HostId)
    (never : HasReclaimed past h → ⊥)
    (live : IsLive past h) (grants : Grants) (z : TokensStand past server grants) (claim : ReclaimOf)
    (tokens : List Token)
    (a : AreClaimed (is_claimed x grants server h claim) claim.tokens tokens) where
  parts : (t : Token) → is_claimed x grants server h claim t ≡ true
      → (has_id grants.table.tokens t.id ≡ false) × (names claim server t.fid.fileset
      ≡ true) × (gave_up x.given_up h t.id ≡ false)
  parts t e =
      let p = and_parts (not (has_id grants.table.tokens t.id)) (names claim server t.fid.fileset && not
      (gave_up x.given_up h t.id)) e in
      let q = and_parts (names claim server t.fid.fileset) (not (gave_up x.given_up h t.id)) p.1 in
      (not_true (has_id grants.table.tokens t.id) p.0, q.0, not_true (gave_up x.given_up h t.id) q.1)

  not_granted : (t : Token) → has_id grants.table.tokens t.id ≡ false → IsGrantedId server past t.id → ⊥
  not_granted t e g = false≢true (sym e ∙ in_any (λ (token : Token). same_id token.id t.id) g.0 grants.table.tokens
      (z.granted_all g.0 g.1)
      (subst (λ (i : TokenId). same_id g.0.id i ≡ true) g.2 (same_self g.0.id)))

  no_id : (t : Token) → (IsGrantedId server past t.id → ⊥) → has_id grants.table.tokens t.id ≡ false
  no_id t none = elim (cases_Bool (has_id grants.table.tokens t.id)) [
    | inl e ↦ (let u = any_in (λ (token : Token). same_id token.id t.id) grants.table.tokens e in
        absurd (none (u.0, z.granted u.0 u.1, id_is u.0.id t.id u.2)))
    | inr e ↦ e
  ]

  named_here : (t : Token) → names claim server t.fid.fileset ≡ true → ClaimsHere server past claim t
  named_here t e =
      let o = any_in (λ (out : Outstanding). (out.fileset.0 == t.fid.fileset.0) && is_here server out) claim.numbers e
      in
      let p = and_parts (o.0.fileset.0 == t.fid.fileset.0) (is_here server o.0) o.2 in
      let q = and_parts (o.0.moves == 0) (is_of server o.0.fileset) p.1 in (
        o.0,
        o.1,
        same_fileset o.0.fileset t.fid.fileset p.0,
        here_to server past o.0.fileset o.0.moves put
            (eqb-true o.0.moves 0 q.0) q.1,
      )

  here_named : (t : Token) → ClaimsHere server past claim t → names claim server t.fid.fileset ≡ true
  here_named t c =
      let p = here_from server past c.0.fileset c.0.moves put c.3 in
      in_any (λ (out : Outstanding). (out.fileset.0 == t.fid.fileset.0) && is_here server out) c.0 claim.numbers c.1
      (and_from (c.0.fileset.0 == t.fid.fileset.0) (is_here server c.0) (eq-eqb c.0.fileset.0 t.fid.fileset.0 (ap (λ
      (f : FilesetId). f.0) c.2))
      (and_from (c.0.moves == 0) (is_of server c.0.fileset) (eq-eqb c.0.moves 0 p.0) p.1))

  not_up : (t : Token) → (GivenUp server past h t.id → ⊥) → gave_up x.given_up h t.id ≡ false
  not_up t none = elim (cases_Bool (gave_up x.given_up h t.id)) [
    | inl e ↦ absurd (none (up_of past server x put s h t.id e))
    | inr e ↦ e
  ]

  -- the claim may be granted so
  pub may_admit : (n : ℕ) → TookNow past h n (Reclaim claim) → HasTakenGives server past h claim
      → ((t : Token) → In t claim.tokens → t.host ≡ h) → MayAdmit server past h tokens
  may_admit n took waited own = record {
    first = never;
    live = live;
    claim = claim;
    moves = n;
    took = took;
    waited = waited;
    sound = λ t i.
        let f = a.from t i in let p = parts t f.1 in (
          f.0,
          own t f.0,
          named_here t p.1,
          (λ u. false≢true (sym p.2 ∙ has_up past server x put s h never live.1 t.id u)),
          not_granted t p.0,
        );
    whole = λ t i here up none. a.all t i (and_from (not (has_id grants.table.tokens t.id))
        (names claim server t.fid.fileset && not (gave_up x.given_up h t.id))
        (ap not (no_id t none)) (and_from (names claim server t.fid.fileset) (not (gave_up x.given_up h t.id))
        (here_named t here) (ap not (not_up t up))));
    apart = a.apart;
  }

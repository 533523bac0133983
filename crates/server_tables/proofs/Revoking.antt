-- Tokens are asked back.
use Rattle.std.proofs.Common.{◌≡◌, ℕ, ◌+◌, ◌≤◌, ◌⊎◌, Bool, true, false, cond, is_some, Option, None, Some, List, []}
use Rattle.std.proofs.Common.{◌∷◌, inl, inr, sym, ◌∙◌, ap, subst, refl, arith}
use Rattle.std.specs.Option.{option_map, option_map_or}
use Rattle.std.proofs.lemmas.Bool.{false≢true}
use Rattle.base_types.specs.declared.ids.Fid.{Fid}
use Rattle.base_types.specs.declared.ids.HostId.{HostId}
use Rattle.base_types.specs.declared.ids.ServerId.{ServerId}
use Rattle.tree_answers.specs.declared.tree.Tree.{Tree}
use Rattle.message_types.specs.declared.message.Body.TheVariants.{Revoke}
use Rattle.message_types.specs.declared.tokens.Revoke.{Revoke as RevokeOf}
use Rattle.token_manager.specs.declared.grants.Grants.{Grants}
use Rattle.token_manager.specs.Grants.{revoked_grants}
use Rattle.token_table.specs.declared.notes.Note.{Note}
use Rattle.token_table.specs.Marks.{NoteMap, is_pinned, is_revoked, note_at, with_mark}
use Rattle.token_table.proofs.Reading.{put_if_at}
use Rattle.token_table.specs.Tables.{Table}
use Rattle.token_types.specs.Conflicts.{same_id}
use Rattle.token_types.specs.declared.token.Token.{Token}
use Rattle.token_types.specs.declared.token.TokenId.{TokenId}
use Rattle.run_rules.specs.Doings.{Doing, GoesAway, Granted, HasReclaimed, HasUsedStamp}
use Rattle.run_rules.specs.Doings.{Here, IsNewlyGranted, epoch}
use Rattle.run_rules.specs.Doings.Doing.{Sent}
use Rattle.run_rules.specs.Past.{In}
use Rattle.run_rules.specs.ServerMay.{HasRevoked, IsAskedBack, MaySend}
use Rattle.run_rules.specs.ServerTokens.{ServerTokens}
use Rattle.run_rules.specs.declared.step.Cause.TheVariants.{Lapse}
use Rattle.run_rules.specs.declared.step.Step.{Step}
use Rattle.server_tables.specs.Standing.{StampsStand, TokensStand, tokens_of}
use Rattle.server_tables.proofs.Still.{HostsStill}
use Rattle.server_tables.proofs.Idle.{up_to}
use Rattle.server_tables.proofs.Granting.{id_is}
use Rattle.token_manager.proofs.Noting.{same_self}

-- the same tokens and pins; those of these numbers are noted as asked back, and no others but those that were
pub record IsMarked (grants marked : Grants) (ids : List TokenId) : Type 0 where
  pub table : marked.table ≡ grants.table
  pub pins : (i : TokenId) → is_pinned marked.notes i ≡ is_pinned grants.notes i
  pub notes : (i : TokenId) → is_some (note_at marked.notes i) ≡ is_some (note_at grants.notes i)
  pub were : (i : TokenId) → is_revoked marked.notes i ≡ true → (is_revoked grants.notes i ≡ true) ⊎ In i ids
  pub stay : (i : TokenId) → is_revoked grants.notes i ≡ true → is_revoked marked.notes i ≡ true
  pub all : (i : TokenId) → In i ids → is_some (note_at grants.notes i) ≡ true → is_revoked marked.notes i ≡ true

abbrev mark : Note → Note
mark note = record note { revoked = true }

marked_note : (o : Option Note) (b : Bool) → Option Note
marked_note o b = cond b (option_map mark o) o

module _ (notes : NoteMap) (id i : TokenId) where
  at : note_at (with_mark notes id) i ≡ cond (same_id id i) (option_map mark (note_at notes i)) (note_at notes i)
  at = put_if_at notes id mark i

  pub pin_same : is_pinned (with_mark notes id) i ≡ is_pinned notes i
  pin_same = ap (λ o. option_map_or (λ (note : Note). note.pinned) o false) at ∙ go (note_at notes i) (same_id id i)
    where
      go : (o : Option Note) (b : Bool) → option_map_or (λ (note : Note). note.pinned) (cond b
          (option_map mark o) o) false ≡ option_map_or (λ (note : Note). note.pinned) o false
      go None true = refl
      go None false = refl
      go (Some n) true = refl
      go (Some n) false = refl

  pub some_same : is_some (note_at (with_mark notes id) i) ≡ is_some (note_at notes i)
  some_same = ap is_some at ∙ go (note_at notes i) (same_id id i)
    where
      go : (o : Option Note) (b : Bool) → is_some (cond b (option_map mark o) o) ≡ is_some o
      go None true = refl
      go None false = refl
      go (Some n) true = refl
      go (Some n) false = refl

  pub mark_were : is_revoked (with_mark notes id) i ≡ true → (is_revoked notes i ≡ true) ⊎ (i ≡ id)
  mark_were p = go (same_id id i) refl (sym (ap (λ o. option_map_or (λ (note : Note). note.revoked) o false) at) ∙ p)
    where
      go : (b : Bool) → same_id id i ≡ b → option_map_or (λ (note : Note). note.revoked) (cond (same_id id i)
          (option_map mark (note_at notes i)) (note_at notes i)) false ≡ true → (is_revoked notes i ≡ true) ⊎ (i ≡ id)
      go true h q = inr (sym (id_is id i h))
      go false h q = inl (let r = rw h at q in r)

  pub mark_stay : is_revoked notes i ≡ true → is_revoked (with_mark notes id) i ≡ true
  mark_stay p = ap (λ o. option_map_or (λ (note : Note). note.revoked) o false) at ∙ go (note_at notes i)
      (same_id id i) p
    where
      go : (o : Option Note) (b : Bool) → option_map_or (λ (note : Note). note.revoked) o false ≡ true
          → option_map_or (λ (note : Note). note.revoked) (cond b (option_map mark o) o) false ≡ true
      go None b q = absurd (cc)
      go (Some n) true q = refl
      go (Some n) false q = q

  pub mark_on : i ≡ id → is_some (note_at notes i) ≡ true → is_revoked (with_mark notes id) i ≡ true
  mark_on e p = ap (λ o. option_map_or (λ (note : Note). note.revoked) o false) at ∙ go (note_at notes i)
      (same_id id i) (subst (λ (z : TokenId). same_id id z ≡ true) (sym e) (same_self id)) p
    where
      go : (o : Option Note) (b : Bool) → b ≡ true → is_some o ≡ true → option_map_or (λ (note : Note). note.revoked)
          (cond b (option_map mark o) o) false ≡ true
      go None b h q = absurd (cc)
      go (Some n) true h q = refl
      go (Some n) false h q = absurd (cc)

-- the manager's `set_revoked`, one after the other
abbrev pub marking : Grants → List TokenId → Grants
marking grants [] = grants
marking grants (id ∷ ids) = marking (revoked_grants grants id) ids

pub is_marked : (grants : Grants) (ids : List TokenId) → IsMarked grants (marking grants ids) ids
is_marked grants [] = record {
  table = refl;
  pins = λ i. refl;
  notes = λ i. refl;
  were = λ i p. inl p;
  stay =
      λ i p. p;
  all = λ i m. elim m [ ];
}
is_marked grants (id ∷ ids) =
    let r = is_marked (revoked_grants grants id) ids in
    record {
      table = r.table;
      pins = λ i. r.pins i ∙ pin_same grants.notes id i;
      notes = λ i. r.notes i ∙ some_same grants.notes id i;
      were = λ i p. elim (r.were i p) [
        | inl q ↦ elim (mark_were grants.notes id i q) [
          | inl u ↦ inl u
          | inr u ↦
              inr (inl u)
        ]
        | inr q ↦ inr (inr q)
      ];
      stay = λ i p. r.stay i (mark_stay grants.notes id i p);
      all = λ i m p. elim m [
        | inl e ↦ r.stay i (mark_on grants.notes id i e p)
        | inr k ↦
            r.all i k (some_same grants.notes id i ∙ p)
      ];
    }

-- a Revoke that names tokens of one host and one file
pub record MayName (server : ServerId) (past : List Doing) (grants : Grants) (stamp : ℕ) (h : HostId) (n : ℕ)
    (r : RevokeOf)
    : Type 0 where
  pub here : Here server past r.fid.fileset n
  pub stamp_is : r.stamp ≡ stamp + 1
  pub reclaimed : HasReclaimed past h
  pub each : (i : TokenId) → In i r.ids
      → (t : Token) × In t (tokens_of grants) × (t.id ≡ i) × (t.host ≡ h) × (t.fid ≡ r.fid)
  -- of a number there is one token
  pub one : (t u : Token) → In t (tokens_of grants) → In u (tokens_of grants) → t.id ≡ u.id → t ≡ u

-- one that may be sent: they are wanted, and weren't asked back
pub record MayAsk (server : ServerId) (past : List Doing) (grants : Grants) (stamp : ℕ) (h : HostId) (n : ℕ)
    (r : RevokeOf)
    : Type 0 where
  pub name : MayName server past grants stamp h n r
  pub wanted : (i : TokenId) → In i r.ids → (t : Token) → In t (tokens_of grants) → t.id ≡ i → IsAskedBack server past t
  pub fresh : (i : TokenId) → In i r.ids → is_revoked grants.notes i ≡ false

-- one that may be sent again, at a lapse: they were asked back, and aren't pinned
pub record MayAgain (server : ServerId) (past : List Doing) (grants : Grants) (stamp : ℕ) (h : HostId) (n : ℕ)
    (r : RevokeOf)
    : Type 0 where
  pub name : MayName server past grants stamp h n r
  pub marked : (i : TokenId) → In i r.ids → is_revoked grants.notes i ≡ true
  pub unpinned : (i : TokenId) → In i r.ids → is_pinned grants.notes i ≡ false

module _ (server : ServerId) (past : List Doing) (grants marked : Grants) (stamp : ℕ) (h : HostId) (ep n : ℕ)
    (r : RevokeOf) (now : ep ≡ epoch past) (may : MayName server past grants stamp h n r)
    (m : IsMarked grants marked r.ids) (s : TokensStand past server grants) where
  abbrev a : Doing
  a = Sent h ep n (Revoke r)

  pub asks_hosts : HostsStill past a
  asks_hosts = record {
    calm = record {
      begin = λ b. let p = b.1 in cc;
      still = λ b. let p = b.1 in cc;
      away = λ k g. absurd (elim g [
        | inl p ↦
            (let q = p.2 in cc)
        | inr p ↦ (let q = p.0.1 in cc)
      ]);
      admits = λ k ts p. cc;
    };
    hello = λ k p l o. let q = p.2 in cc;
    down = λ k p. absurd (let q = p.2 in cc);
    sends = up_to past h ep n (Revoke r) now;
  }

  newly : (t : Token) → IsNewlyGranted a t → ⊥
  newly t (inl p) = elim p.1.3 [ inl q ↦ (let u = q.1 in cc) | inr q ↦ (let u = q.1 in cc) ]
  newly t (inr p) = let q = p.1 in cc

  goes : (k : HostId) → GoesAway past a k → ⊥
  goes k (inl p) = let q = p.2 in cc
  goes k (inr p) = let q = p.0.1 in cc

  on : (t : Token) → Granted server past t → Granted server (a ∷ past) t
  on t g = inr (
    g,
    asks_hosts.calm.begin,
    (λ w. elim w [
      | inl p ↦ (let q = p.1.2.0 in cc)
      | inr p ↦
          (let q = p.1.2.0 in cc)
    ]),
    goes t.host,
  )

  back : (t : Token) → Granted server (a ∷ past) t → Granted server past t
  back t (inl p) = absurd (newly t p)
  back t (inr p) = p.0

  ins : (t : Token) → In t (tokens_of marked) → In t (tokens_of grants)
  ins t i = subst (λ (z : Table). In t z.tokens) m.table i

  outs : (t : Token) → In t (tokens_of grants) → In t (tokens_of marked)
  outs t i = subst (λ (z : Table). In t z.tokens) (sym m.table) i

  last_is : grants.table.last ≡ marked.table.last
  last_is = ap (λ (z : Table). z.last) (sym m.table)

  pub tokens_asked : TokensStand (a ∷ past) server marked
  tokens_asked = record {
    server_is = ap (λ (z : Table). z.server) m.table ∙ s.server_is;
    epoch_is = ap (λ (z : Table). z.epoch) m.table ∙ s.epoch_is;
    granted = λ t i. on t (s.granted t (ins t i));
    granted_all = λ t g. outs t (s.granted_all t (back t g));
    pinned = λ t i p. (inr (s.pinned t (ins t i) (sym (m.pins t.id) ∙ p)), on t (s.granted t (ins t i)));
    pinned_all = λ t p. elim p.0 [ inl k ↦ absurd (let q = k.1.2.0 in cc) | inr k ↦ m.pins t.id ∙ s.pinned_all t k ];
    here = λ t g w. elim w [ inl p ↦ goes t.host p | inr p ↦ s.here t (back t g) p ];
    live = λ t g. let l = s.live t (back t g) in (inr l.0, λ w. elim w [ inl p ↦ goes t.host p | inr p ↦ l.1 p ]);
    known = λ t i. m.notes t.id ∙ s.known t (ins t i);
    issued = λ t k i e. subst (λ (z : ℕ). t.id.seq ≤ z) last_is (elim i [
      | inl p ↦ absurd (newly t (inl (k, p)))
      | inr p ↦ s.issued t k p e
    ]);
    issued_up_to = λ t k i. elim i [ inl p ↦ absurd (newly t (inl (k, p))) | inr p ↦ s.issued_up_to t k p ];
    noted = λ i p. let u = s.noted i (sym (m.notes i) ∙ p) in (u.0, outs u.0 u.1, u.2);
    old = λ t i e. subst (λ (z : ℕ). t.id.seq ≤ z) last_is (s.old t (ins t i) e);
    none_reserved = λ t w. elim w [ inl k ↦ (let q = k.1 in cc) | inr k ↦ s.none_reserved t k.0 ];
    one = λ t u k i e g q. elim i [
      | inl p ↦ absurd (newly t (inl (k, p)))
      | inr p ↦ s.one t u k p e (back u g) q
    ];
  }

  its_revoke : (k : HostId) (e j : ℕ) (q : RevokeOf) → a ≡ Sent k e j (Revoke q) → (h ≡ k) × (r ≡ q)
  its_revoke k e j q p = (cc, cc)

  -- what is asked back now
  now_asked : (t : Token) → HasRevoked (a ∷ past) t → ((h ≡ t.host) × In t.id r.ids) ⊎ HasRevoked past t
  now_asked t (inl p) = let q = its_revoke t.host p.0 p.1 p.2 p.3 in inl (
    q.0,
    subst (λ (z : RevokeOf). In t.id z.ids) (sym q.1) p.4,
  )
  now_asked t (inr p) = inr p.0

  pub stamps_asked : StampsStand past grants stamp → StampsStand (a ∷ past) marked (stamp + 1)
  stamps_asked z = record {
    told = told;
    revoked = λ t i p. elim (m.were t.id p) [
      | inl q ↦ inr (z.revoked t (ins t i) q, asks_hosts.calm.begin)
      | inr q ↦ inl (ep, n, r, ap (λ (k : HostId). Sent k ep n (Revoke r)) (sym (its_host t (ins t i) q)), q)
    ];
    revoked_all = λ t i w. elim (now_asked t w) [
      | inl q ↦ m.all t.id q.1 (s.known t (ins t i))
      | inr q ↦ m.stay t.id (z.revoked_all t (ins t i) q)
    ];
    revoked_old = λ t w e. subst (λ (y : ℕ). t.id.seq ≤ y) last_is (elim (now_asked t w) [
      | inl q ↦ (let u = may.each t.id q.1 in subst (λ (k : TokenId). k.seq ≤ grants.table.last) u.2 (s.old u.0 u.1
          (ap (λ (k : TokenId). k.epoch) u.2 ∙ e)))
      | inr q ↦ z.revoked_old t q e
    ]);
    revoked_live = λ t w. inr (
      (elim (now_asked t w) [
        | inl q ↦ subst (HasReclaimed past) q.0 may.reclaimed
        | inr q ↦
            z.revoked_live t q
      ]),
      asks_hosts.calm.begin,
    );
  }
    where
      its_host : (t : Token) → In t (tokens_of grants) → In t.id r.ids → t.host ≡ h
      its_host t i q = let u = may.each t.id q in ap (λ (k : Token). k.host) (may.one t u.0 i u.1 (sym u.2)) ∙ u.3

      told : (f : Fid) (y : ℕ) → HasUsedStamp (a ∷ past) f y → y ≤ stamp + 1
      told f y (inl (inl t)) = absurd (elim t.4 [ inl q ↦ (let u = q.1 in cc) | inr q ↦ (let u = q.1 in cc) ])
      told f y (inl (inr t)) = let q = its_revoke t.0 t.1 t.2 t.3 t.4 in let e : r.stamp ≡ y =
          ap (λ (z : RevokeOf). z.stamp) q.1 ∙ t.6 in let l = may.stamp_is in omega (arith, e, l)
      told f y (inr t) = let l = z.told f y t.0 in omega (arith, l)

  pub asks_may : StampsStand past grants stamp → ServerTokens server past a
  asks_may z = record {
    epochs = λ k e j b p. (let q : ep ≡ e = cc in sym q) ∙ now;
    grants = λ k e j w p. absurd (cc);
    dones = λ k e j w p. absurd (cc);
    revokes = λ k e j q i p x. let w = its_revoke k e j q p in let u =
        may.each i (subst (λ (z0 : RevokeOf). In i z0.ids) (sym w.1) x) in
        (u.0, s.granted u.0 u.1, u.2, u.3 ∙ w.0, u.4 ∙ ap (λ (z0 : RevokeOf). z0.fid) w.1);
    revokes_here = λ k e j q p. let w = its_revoke k e j q p in let y : n ≡ j = cc in
        subst (λ (z0 : RevokeOf × ℕ). Here server past z0.0.fid.fileset z0.1) (λ i. (w.1 i, y i)) may.here;
    stamps = λ k e j y q p t. let w = its_revoke k e j q p in let l = z.told q.fid y t in let d : r.stamp ≡ q.stamp =
        ap (λ (z0 : RevokeOf). z0.stamp) w.1 in let b = may.stamp_is in omega (arith, l, d, b);
    gones = λ k e j g p. absurd (cc);
    reclaimed = λ k e j q g p. absurd (cc);
    left_out = λ k e j q i p. absurd (cc);
    admits = λ k ts p. absurd (cc);
    writes = λ w p. absurd (cc);
    writes_once = λ w p. absurd (cc);
    reserves = λ ts t u p. absurd (cc);
  }

  pub asks_so : (tree : Tree) (step : Step) → MayAsk server past grants stamp h n r → StampsStand past grants stamp
      → MaySend server tree step past a
  asks_so tree step ask z = record {
    grant_for = λ k e j g p. absurd (cc);
    done_for = λ k e j d p. absurd (cc);
    revoke_for = λ k e j q i p x. let w = its_revoke k e j q p in let y = subst (λ (z0 : RevokeOf). In i z0.ids)
        (sym w.1) x in let u = may.each i y in (
          u.0,
          u.2,
          u.3 ∙ w.0,
          inl (
            ask.wanted i y u.0 u.1 u.2,
            λ v. false≢true (sym (ask.fresh i y) ∙ subst
                (λ (k0 : TokenId). is_revoked grants.notes k0 ≡ true) u.2 (z.revoked_all u.0 u.1 v)),
          ),
        );
  }

  pub again_so : (tree : Tree) (step : Step) → step.cause ≡ Lapse → MayAgain server past grants stamp h n r
      → StampsStand past grants stamp → MaySend server tree step past a
  again_so tree step lapse again z = record {
    grant_for = λ k e j g p. absurd (cc);
    done_for = λ k e j d p. absurd (cc);
    revoke_for = λ k e j q i p x. let w = its_revoke k e j q p in let y = subst (λ (z0 : RevokeOf). In i z0.ids)
        (sym w.1) x in let u = may.each i y in (
          u.0,
          u.2,
          u.3 ∙ w.0,
          inr (
            lapse,
            record {
              granted = s.granted u.0 u.1;
              unpinned = λ v. false≢true (sym (again.unpinned i y) ∙ subst (λ (k0 : TokenId). is_pinned grants.notes k0
                  ≡ true) u.2 (s.pinned_all u.0 v));
              revoked = z.revoked u.0 u.1 (subst (λ (k0 : TokenId). is_revoked grants.notes k0 ≡ true) (sym u.2)
                  (again.marked i y));
            },
          ),
        );
  }

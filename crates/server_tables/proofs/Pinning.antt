-- Tokens in use are pinned: a Kept of a live host is taken.
use Rattle.std.proofs.Common.{◌≡◌, ℕ, ◌==◌, ◌&&◌, ◌≤◌, ◌⊎◌, Bool, true, false, cond, if◌then◌else◌, is_some, Option}
use Rattle.std.proofs.Common.{None, Some, List, [], ◌∷◌, inl, inr, sym, ◌∙◌, ap, subst, refl, eq-eqb}
use Rattle.std.specs.Option.{option_map, option_map_or}
use Rattle.std.proofs.lemmas.Bool.{and_from, and_parts, cases_Bool}
use Rattle.base_types.specs.declared.ids.HostId.{HostId}
use Rattle.base_types.specs.declared.ids.ServerId.{ServerId}
use Rattle.message_types.specs.declared.message.Body.{Body}
use Rattle.message_types.specs.declared.message.Body.TheVariants.{Bye, Down, GiveBack, Hello, Kept, Returned}
use Rattle.message_types.specs.declared.tokens.Named.{Named}
use Rattle.token_manager.specs.declared.grants.Grants.{Grants}
use Rattle.token_manager.specs.Grants.{can_keep, is_lock_or_open, pinned_grants}
use Rattle.token_manager.specs.Managers.{grants_kept}
use Rattle.token_table.specs.declared.notes.Note.{Note}
use Rattle.token_table.specs.Marks.{NoteMap, is_pinned, is_revoked, note_at, with_pin}
use Rattle.token_table.proofs.Reading.{put_if_at}
use Rattle.token_table.specs.Tables.{Table}
use Rattle.token_types.specs.Conflicts.{same_id}
use Rattle.token_types.specs.declared.token.Kind.{Kind}
use Rattle.token_types.specs.declared.token.Kind.TheVariants.{Bytes, Lock, Opening, Status}
use Rattle.token_types.specs.declared.token.Token.{Token}
use Rattle.token_types.specs.declared.token.TokenId.{TokenId}
use Rattle.token_manager.proofs.Noting.{same_self}
use Rattle.run_rules.specs.Doings.{Doing, GivesUp, GoesAway, Granted, Here, IsLive, IsNewlyGranted, Pinned}
use Rattle.run_rules.specs.Doings.{epoch}
use Rattle.run_rules.specs.Doings.Doing.{Took}
use Rattle.run_rules.specs.Past.{In}
use Rattle.run_rules.specs.ServerMay.{HasRevoked}
use Rattle.run_rules.specs.Tokens.{IsUseKind}
use Rattle.run_rules.specs.Wants.{Decides, Unwants}
use Rattle.run_rules.specs.declared.applied.Request.TheVariants.{Change as Changes, Fetch as Asks}
use Rattle.run_rules.specs.declared.applied.Request.{Request}
use Rattle.run_rules.specs.declared.applied.Wanted.{Wanted}
use Rattle.server_tables.specs.declared.tables.Tables.{Tables}
use Rattle.server_tables.specs.Standing.{Stands, StampsStand, TokensStand, tokens_of}
use Rattle.server_tables.proofs.Still.{ClaimsStill, HostsStill, WantsStill, changes_still, gives_still, hosts_still}
use Rattle.server_tables.proofs.Still.{queue_still, recovery_still, waits_back, wants_still}
use Rattle.server_tables.proofs.Fetching.{same_host}
use Rattle.server_tables.proofs.Granting.{id_is}
use Rattle.server_tables.proofs.Without.{found_it}

-- the same tokens and marks; a host's locks and opens with these numbers are pinned, and no others but those that were
pub record IsPinning (grants pinned : Grants) (host : HostId) (ids : List TokenId) : Type 0 where
  pub table : pinned.table ≡ grants.table
  pub marks : (i : TokenId) → is_revoked pinned.notes i ≡ is_revoked grants.notes i
  pub notes : (i : TokenId) → is_some (note_at pinned.notes i) ≡ is_some (note_at grants.notes i)
  pub were : (i : TokenId) → is_pinned pinned.notes i ≡ true → (is_pinned grants.notes i ≡ true) ⊎ (In i ids ×
      (can_keep grants host i ≡ true))
  pub stay : (i : TokenId) → is_pinned grants.notes i ≡ true → is_pinned pinned.notes i ≡ true
  pub all : (i : TokenId) → In i ids → can_keep grants host i ≡ true → is_some (note_at grants.notes i) ≡ true
      → is_pinned pinned.notes i ≡ true

abbrev pin : Note → Note
pin note = record note { pinned = true }

module _ (notes : NoteMap) (id i : TokenId) where
  at : note_at (with_pin notes id) i ≡ cond (same_id id i) (option_map pin (note_at notes i)) (note_at notes i)
  at = put_if_at notes id pin i

  mark_same : is_revoked (with_pin notes id) i ≡ is_revoked notes i
  mark_same = ap (λ o. option_map_or (λ (note : Note). note.revoked) o false) at ∙ go (note_at notes i) (same_id id i)
    where
      go : (o : Option Note) (b : Bool) → option_map_or (λ (note : Note). note.revoked) (cond b
          (option_map pin o) o) false ≡ option_map_or (λ (note : Note). note.revoked) o false
      go None true = refl
      go None false = refl
      go (Some n) true = refl
      go (Some n) false = refl

  some_same : is_some (note_at (with_pin notes id) i) ≡ is_some (note_at notes i)
  some_same = ap is_some at ∙ go (note_at notes i) (same_id id i)
    where
      go : (o : Option Note) (b : Bool) → is_some (cond b (option_map pin o) o) ≡ is_some o
      go None true = refl
      go None false = refl
      go (Some n) true = refl
      go (Some n) false = refl

  pin_were : is_pinned (with_pin notes id) i ≡ true → (is_pinned notes i ≡ true) ⊎ (i ≡ id)
  pin_were p = go (same_id id i) refl (sym (ap (λ o. option_map_or (λ (note : Note). note.pinned) o false) at) ∙ p)
    where
      go : (b : Bool) → same_id id i ≡ b → option_map_or (λ (note : Note). note.pinned) (cond (same_id id i)
          (option_map pin (note_at notes i)) (note_at notes i)) false ≡ true → (is_pinned notes i ≡ true) ⊎ (i ≡ id)
      go true h q = inr (sym (id_is id i h))
      go false h q = inl (let r = rw h at q in r)

  pin_stay : is_pinned notes i ≡ true → is_pinned (with_pin notes id) i ≡ true
  pin_stay p = ap (λ o. option_map_or (λ (note : Note). note.pinned) o false) at ∙ go (note_at notes i) (same_id id i) p
    where
      go : (o : Option Note) (b : Bool) → option_map_or (λ (note : Note). note.pinned) o false ≡ true → option_map_or
          (λ (note : Note). note.pinned) (cond b (option_map pin o) o) false ≡ true
      go None b q = absurd (cc)
      go (Some n) true q = refl
      go (Some n) false q = q

  pin_on : i ≡ id → is_some (note_at notes i) ≡ true → is_pinned (with_pin notes id) i ≡ true
  pin_on e p = ap (λ o. option_map_or (λ (note : Note). note.pinned) o false) at ∙ go (note_at notes i)
      (same_id id i) (subst (λ (z : TokenId). same_id id z ≡ true) (sym e) (same_self id)) p
    where
      go : (o : Option Note) (b : Bool) → b ≡ true → is_some o ≡ true → option_map_or (λ (note : Note). note.pinned)
          (cond b (option_map pin o) o) false ≡ true
      go None b h q = absurd (cc)
      go (Some n) true h q = refl
      go (Some n) false h q = absurd (cc)

one_of : (i id : TokenId) → In i (id ∷ []) → i ≡ id
one_of i id (inl e) = e
one_of i id (inr e) = elim e [ ]

-- what the manager's `kept` leaves
pub one_kept : (grants : Grants) (host : HostId) (id : TokenId) → IsPinning grants (grants_kept grants host id) host
    (id ∷ [])
unfolding grants_kept
one_kept grants host id = elim (cases_Bool (can_keep grants host id)) [
  | inl h ↦ subst (λ (b : Bool). IsPinning grants (if b then pinned_grants grants id else grants) host (id ∷ []))
      (sym h) (pins h)
  | inr h ↦ subst (λ (b : Bool). IsPinning grants (if b then pinned_grants grants id else grants) host (id ∷ []))
      (sym h) (none h)
]
  where
    pins : can_keep grants host id ≡ true → IsPinning grants (pinned_grants grants id) host (id ∷ [])
    pins h = record {
      table = refl;
      marks = λ i. mark_same grants.notes id i;
      notes = λ i. some_same grants.notes id i;
      were = λ i p. elim (pin_were grants.notes id i p) [
        | inl q ↦ inl q
        | inr q ↦ inr (
          inl q,
          subst (λ (z : TokenId). can_keep grants host z ≡ true) (sym q) h,
        )
      ];
      stay = λ i p. pin_stay grants.notes id i p;
      all = λ i m k p. pin_on grants.notes id i (one_of i id m) p;
    }

    none : can_keep grants host id ≡ false → IsPinning grants grants host (id ∷ [])
    none h = record {
      table = refl;
      marks = λ i. refl;
      notes = λ i. refl;
      were = λ i p. inl p;
      stay = λ i p. p;
      all = λ i m k p. absurd (let q : can_keep grants host id ≡ true =
          subst (λ (z : TokenId). can_keep grants host z ≡ true) (one_of i id m) k in let r = sym h ∙ q in cc);
    }

abbrev pub keeping : Grants → HostId → List TokenId → Grants
keeping grants host [] = grants
keeping grants host (id ∷ ids) = keeping (grants_kept grants host id) host ids

same_keep : (a b : Grants) → b.table ≡ a.table → (host : HostId) (i : TokenId) → can_keep b host i ≡ can_keep a host i
same_keep a b e host i = ap (λ (z : Table). can_keep (record a { table = z }) host i) e

-- all of them, one after the other
pub all_kept : (grants : Grants) (host : HostId) (ids : List TokenId) → IsPinning grants
    (keeping grants host ids) host ids
all_kept grants host [] = record {
  table = refl;
  marks = λ i. refl;
  notes = λ i. refl;
  were = λ i p. inl p;
  stay = λ i p. p;
  all = λ i m k p. elim m [ ];
}
all_kept grants host (id ∷ ids) =
    let a = one_kept grants host id in
    let b = all_kept (grants_kept grants host id) host ids in
    let same = same_keep grants (grants_kept grants host id) a.table host in
    record {
      table = b.table ∙ a.table;
      marks = λ i. b.marks i ∙ a.marks i;
      notes = λ i. b.notes i ∙ a.notes i;
      were = λ i p. elim (b.were i p) [
        | inl q ↦ elim (a.were i q) [ inl r ↦ inl r | inr r ↦ inr (inl (one_of i id r.0), r.1) ]
        | inr q ↦ inr (inr q.0, sym (same i) ∙ q.1)
      ];
      stay = λ i p. b.stay i (a.stay i p);
      all = λ i m k p. elim m [
        | inl e ↦ b.stay i (a.all i (inl e) k p)
        | inr e ↦ b.all i e (same i ∙ k) (a.notes i ∙ p)
      ];
    }

use_kind : (k : Kind) → is_lock_or_open k ≡ true → IsUseKind k
use_kind (Bytes update span) p = absurd (cc)
use_kind (Status update) p = absurd (cc)
use_kind (Lock writing span) p = tt
use_kind (Opening kind) p = tt

kind_use : (k : Kind) → IsUseKind k → is_lock_or_open k ≡ true
kind_use (Bytes update span) p = absurd p
kind_use (Status update) p = absurd p
kind_use (Lock writing span) p = refl
kind_use (Opening kind) p = refl

-- A Kept of a live host, about a fileset that is here.
module _ (past : List Doing) (server : ServerId) (h : HostId) (n : ℕ) (named : Named) (live : IsLive past h)
    (here : Here server past named.fid.fileset n) where
  abbrev a : Doing
  a = Took h (epoch past) n (Kept named)

  its_body : (k : HostId) (e m : ℕ) (d : Body) → a ≡ Took k e m d → Kept named ≡ d
  its_body k e m d p = cc

  its_named : (k : HostId) (e m : ℕ) (d : Named) → a ≡ Took k e m (Kept d) → (h ≡ k) × (named ≡ d)
  its_named k e m d p = (cc, cc)

  goes : (k : HostId) → GoesAway past a k → ⊥
  goes k (inl p) = let q = its_body k p.0 p.1 Down p.2 in cc
  goes k (inr p) = let q = its_body k (epoch past) p.0.0 Bye p.0.1 in cc

  pub kept_hosts : HostsStill past a
  kept_hosts = record {
    calm = record { begin = λ w. let p = w.1 in cc; still = λ w. let p = w.1 in cc; away = λ k g. absurd (goes k g); admits = λ k ts p. cc };
    hello = λ k p l d. let q = its_body k p.0 p.1 Hello p.2 in cc;
    down = λ k p. absurd (let q = its_body k p.0 p.1 Down p.2 in cc);
    sends = λ h0 e0 n0 b0 p. absurd (cc);
  }

  pub kept_wants : WantsStill past a
  kept_wants = record { wants = λ w p. cc; unwants = λ w p u. unwanted w u }
    where
      unmade : (k : HostId) (r : Request) → Decides a k r → ⊥
      unmade k (Asks f) d = let p = d.3 in cc
      unmade k (Changes f) (inl d) = let p = d.1 in cc
      unmade k (Changes f) (inr d) = let p = d.3 in cc

      unwanted : (w : Wanted) → Unwants past a w → ⊥
      unwanted w (inl d) = unmade w.host w.request d
      unwanted w (inr (inl v)) = let q = v.1 in cc
      unwanted w (inr (inr (inl g))) = goes w.host g
      unwanted w (inr (inr (inr z))) = let q = z.1 in cc

  newly : (t : Token) → IsNewlyGranted a t → ⊥
  newly t (inl p) = elim p.1.3 [ inl q ↦ (let r = q.1 in cc) | inr q ↦ (let r = q.1 in cc) ]
  newly t (inr p) = let q = p.1 in cc

  names : (k : HostId) (i : TokenId) → GivesUp server past a k i → ⊥
  names k i (inl p) = let q = its_body k (epoch past) p.1.0 (Returned p.0) p.1.2.0 in cc
  names k i (inr p) = let q = its_body k (epoch past) p.1.0 (GiveBack p.0) p.1.2.0 in cc

  on : (t : Token) → Granted server past t → Granted server (a ∷ past) t
  on t g = inr (g, kept_hosts.calm.begin, names t.host t.id, goes t.host)

  back : (t : Token) → Granted server (a ∷ past) t → Granted server past t
  back t (inl p) = absurd (newly t p)
  back t (inr p) = p.0

  module _ (grants pinned : Grants) (s : TokensStand past server grants) (w : IsPinning grants pinned h named.ids)
      (single : (t u : Token) → In t (tokens_of grants) → In u (tokens_of grants) → t.id ≡ u.id → t ≡ u) where
    keep_is : (t : Token) → In t (tokens_of grants) → can_keep grants h t.id ≡
        ((t.host.0 == h.0) && is_lock_or_open t.kind)
    keep_is t m = ap (λ o. option_map_or (λ (token : Token). (token.host.0 == h.0) && is_lock_or_open token.kind) o
        false) (found_it (tokens_of grants) t m single)

    ins : (t : Token) → In t (tokens_of pinned) → In t (tokens_of grants)
    ins t i = subst (λ (z : Table). In t z.tokens) w.table i

    outs : (t : Token) → In t (tokens_of grants) → In t (tokens_of pinned)
    outs t i = subst (λ (z : Table). In t z.tokens) (sym w.table) i

    last_is : grants.table.last ≡ pinned.table.last
    last_is = ap (λ (z : Table). z.last) (sym w.table)

    is_pinned_now : (t : Token) → In t (tokens_of grants) → In t.id named.ids → can_keep grants h t.id ≡ true
        → Pinned server (a ∷ past) t
    is_pinned_now t m i k =
        let p = and_parts (t.host.0 == h.0) (is_lock_or_open t.kind) (sym (keep_is t m) ∙ k) in
        let e : t.host ≡ h = same_host t.host h p.0 in (
          inl (
            named,
            (
              n,
              here,
              (
                ap (λ (z : HostId). Took z (epoch past) n (Kept named)) (sym e),
                subst (IsLive past) (sym e) live,
              ),
            ),
            i,
            use_kind t.kind p.1,
            s.granted t m,
          ),
          on t (s.granted t m),
        )

    pub tokens_pinned : TokensStand (a ∷ past) server pinned
    tokens_pinned = record {
      server_is = ap (λ (z : Table). z.server) w.table ∙ s.server_is;
      epoch_is = ap (λ (z : Table). z.epoch) w.table ∙ s.epoch_is;
      granted = λ t i. on t (s.granted t (ins t i));
      granted_all = λ t g. outs t (s.granted_all t (back t g));
      pinned = λ t i p. elim (w.were t.id p) [
        | inl q ↦ (inr (s.pinned t (ins t i) q), on t (s.granted t (ins t i)))
        | inr q ↦ is_pinned_now t (ins t i) q.0 q.1
      ];
      pinned_all = λ t p. elim p.0 [
        | inl k ↦ (let q = its_named t.host (epoch past) k.1.0 k.0 k.1.2.0 in
            let m = s.granted_all t k.4 in
            w.all t.id (subst (λ (z : Named). In t.id z.ids) (sym q.1) k.2)
            (keep_is t m ∙ and_from (t.host.0 == h.0) (is_lock_or_open t.kind) (eq-eqb t.host.0 h.0
            (ap (λ (z : HostId). z.0) (sym q.0))) (kind_use t.kind k.3))
            (s.known t m))
        | inr k ↦ w.stay t.id (s.pinned_all t k)
      ];
      here = λ t g z. elim z [ inl p ↦ goes t.host p | inr p ↦ s.here t (back t g) p ];
      live = λ t g. let l = s.live t (back t g) in (inr l.0, λ z. elim z [ inl p ↦ goes t.host p | inr p ↦ l.1 p ]);
      known = λ t i. w.notes t.id ∙ s.known t (ins t i);
      issued = λ t k i e. subst (λ (z : ℕ). t.id.seq ≤ z) last_is (elim i [
        | inl p ↦ absurd (newly t (inl (k, p)))
        | inr p ↦ s.issued t k p e
      ]);
      issued_up_to = λ t k i. elim i [ inl p ↦ absurd (newly t (inl (k, p))) | inr p ↦ s.issued_up_to t k p ];
      noted = λ i p. let u = s.noted i (sym (w.notes i) ∙ p) in (u.0, outs u.0 u.1, u.2);
      old = λ t i e. subst (λ (z : ℕ). t.id.seq ≤ z) last_is (s.old t (ins t i) e);
      none_reserved = λ t r. elim r [ inl k ↦ (let q = k.1 in cc) | inr k ↦ s.none_reserved t k.0 ];
      one = λ t u k i e g q. elim i [
        | inl p ↦ absurd (newly t (inl (k, p)))
        | inr p ↦ s.one t u k p e (back u g) q
      ];
    }

    was_revoked : (t : Token) → HasRevoked (a ∷ past) t → HasRevoked past t
    was_revoked t (inl p) = absurd (let q = p.3 in cc)
    was_revoked t (inr p) = p.0

    pub stamps_pinned : {stamp : ℕ} → StampsStand past grants stamp → StampsStand (a ∷ past) pinned stamp
    stamps_pinned z = record {
      told = λ f x t. elim t [
        | inl q ↦ absurd (elim q [
          | inl p ↦ elim p.4 [
            | inl r ↦ (let u = r.1 in cc)
            | inr r ↦
                (let u = r.1 in cc)
          ]
          | inr p ↦ (let u = p.4 in cc)
        ])
        | inr q ↦ z.told f x q.0
      ];
      revoked = λ t m p. inr (z.revoked t (ins t m) (sym (w.marks t.id) ∙ p), kept_hosts.calm.begin);
      revoked_all = λ t m r. w.marks t.id ∙ z.revoked_all t (ins t m) (was_revoked t r);
      revoked_old = λ t r q. subst (λ (y : ℕ). t.id.seq ≤ y) last_is (z.revoked_old t (was_revoked t r) q);
      revoked_live = λ t r. inr (z.revoked_live t (was_revoked t r), kept_hosts.calm.begin);
    }

  pub claims_kept : ClaimsStill server past a
  claims_kept = record { gives = λ k f g p. let q = p.2.0 in cc; claims = λ k m d p. let q = p.0 in cc }

-- all tables, once a Kept is taken
pub stands_kept : (past : List Doing) (x : Tables) (h : HostId) (n : ℕ) (named : Named) → IsLive past h
    → Here x.server past named.fid.fileset n → (pinned : Grants) → IsPinning x.tokens.grants pinned h named.ids
    → ((t u : Token) → In t (tokens_of x.tokens.grants) → In u (tokens_of x.tokens.grants) → t.id ≡ u.id → t ≡ u)
    → Stands past x → Stands (Took h (epoch past) n (Kept named) ∷ past) (record x {
      tokens =
          record x.tokens { grants = pinned };
    })
stands_kept past x h n named live here pinned w single s =
    let hosts = kept_hosts past x.server h n named live here in
    let wants = kept_wants past x.server h n named live here in
    let a = Took h (epoch past) n (Kept named) in
    record {
      slots = s.slots;
      hosts = hosts_still past a hosts s.hosts;
      tokens = tokens_pinned past x.server h n named live here x.tokens.grants pinned s.tokens w single;
      stamps = stamps_pinned past x.server h n named live here x.tokens.grants pinned s.tokens w single s.stamps;
      wants = wants_still past a hosts.calm x.server wants s.wants;
      queue = queue_still past a hosts.calm s.queue;
      gives = gives_still past a hosts.calm x.server (claims_kept past x.server h n named live here) s.gives;
      changes = changes_still past a hosts.calm (record {
        dones = λ k e m d p. cc;
        writes =
            λ v p. cc;
      }) (waits_back past a hosts.calm x.server wants) s.changes;
      recovery = recovery_still past a hosts.calm x.server (claims_kept past x.server h n named live here)
          (λ k i g. elim g [ inl p ↦ (let q = p.1.2.0 in cc) | inr p ↦ (let q = p.1.2.0 in cc) ]) s.recovery;
    }

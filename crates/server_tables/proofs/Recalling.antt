-- What is in the way of wants is asked back at the end of a step: all of it, each token once.
use Rattle.std.proofs.Common.{◌≡◌, ◌⊎◌, ℕ, ◌+◌, true, false, List, [], ◌∷◌, map, inl, inr, refl, sym, ◌∙◌, subst}
use Rattle.std.proofs.lemmas.Bool.{cases_Bool, false≢true}
use Rattle.base_types.specs.declared.ids.ServerId.{ServerId}
use Rattle.message_types.specs.declared.message.Body.TheVariants.{Revoke}
use Rattle.token_table.specs.Marks.{is_revoked}
use Rattle.token_table.specs.Tables.{Table}
use Rattle.token_types.specs.declared.token.Token.{Token}
use Rattle.token_types.specs.declared.token.TokenId.{TokenId}
use Rattle.run_rules.specs.Doings.{Doing, Granted, HasReclaimed, sending}
use Rattle.run_rules.specs.Doings.Doing.{Sent}
use Rattle.run_rules.specs.Past.{In, appended}
use Rattle.run_rules.specs.ServerMay.{HasRevoked, IsAskedBack}
use Rattle.server_tables.specs.declared.tables.Tables.{Tables}
use Rattle.server_tables.specs.Places.{is_of}
use Rattle.server_tables.specs.Standing.{Stands, tokens_of}
use Rattle.server_tables.proofs.Judged.{here_to}
use Rattle.server_tables.proofs.Revoking.{MayAsk, is_marked}
use Rattle.server_tables.proofs.Still.{over_back, over_still, waits_back, waits_still}
use Rattle.server_tables.proofs.Waiting.{Asking, MayAskAll, asked, asked_all, hosts_a, names_all, revoke, stands_a}
use Rattle.server_tables.proofs.Waiting.{stands_asked, wants_a}

-- tokens that are to be asked back
pub record AreToAsk (past : List Doing) (x : Tables) (tokens : List Token) : Type 0 where
  pub there : (t : Token) → In t tokens → In t (tokens_of x.tokens.grants)
  pub fresh : (t : Token) → In t tokens → is_revoked x.tokens.grants.notes t.id ≡ false
  pub asked_back : (t : Token) → In t tokens → IsAskedBack x.server past t
  pub homes : (t : Token) → In t tokens → is_of x.server t.fid.fileset ≡ true
  pub one : (t u : Token) → In t (tokens_of x.tokens.grants) → In u (tokens_of x.tokens.grants) → t.id ≡ u.id → t ≡ u

-- the first asks back those of a token's host and file, under the next stamp, and leaves the rest
pub record IsFirst (stamp : ℕ) (tokens rest : List Token) (r : Asking) : Type 0 where
  pub token : Token
  pub has : In token tokens
  pub host : token.host ≡ r.0
  pub fid : token.fid ≡ r.2.fid
  pub moves : r.1 ≡ 0
  pub stamp_is : r.2.stamp ≡ stamp + 1
  pub ids : (i : TokenId) → In i r.2.ids → (t : Token) × In t tokens × (t.id ≡ i) × (t.host ≡ r.0) × (t.fid ≡ r.2.fid)
  pub left : (t : Token) → In t rest → In t tokens × (In t.id r.2.ids → ⊥)
  pub all : (t : Token) → In t tokens → In t.id r.2.ids ⊎ In t rest

-- tokens are asked back by these, one after the other
abbrev pub IsSplit : ℕ → List Token → List Asking → Type 0
IsSplit stamp tokens [] = (t : Token) → In t tokens → ⊥
IsSplit stamp tokens (r ∷ rs) = (rest : List Token) × IsFirst stamp tokens rest r × IsSplit (stamp + 1) rest rs

-- # One is asked back

module _ (past : List Doing) (x : Tables) (s : Stands past x) (tokens rest : List Token) (o : AreToAsk past x tokens)
    (r : Asking)
    (f : IsFirst x.stamp tokens rest r) where
  abbrev a : Doing
  a = Sent r.0 x.hosts.epoch r.1 (Revoke r.2)

  pub may_one : MayAsk x.server past x.tokens.grants x.stamp r.0 r.1 r.2
  may_one = record {
    name = record {
      here = here_to x.server past r.2.fid.fileset r.1 s.slots f.moves
          (subst (λ k. is_of x.server k.fileset ≡ true) f.fid (o.homes f.token f.has));
      stamp_is = f.stamp_is;
      reclaimed = let b = o.asked_back f.token f.has in subst (HasReclaimed past) f.host (b.over f.token.host
          (s.tokens.live f.token b.granted));
      each = λ i m. let q = f.ids i m in (q.0, o.there q.0 q.1, q.2, q.3, q.4);
      one = o.one;
    };
    wanted = λ i m t j e. let q = f.ids i m in
        subst (IsAskedBack x.server past) (o.one q.0 t (o.there q.0 q.1) j (q.2 ∙ sym e)) (o.asked_back q.0 q.1);
    fresh = λ i m. let q = f.ids i m in subst (λ (k : TokenId). is_revoked x.tokens.grants.notes k
        ≡ false) q.2 (o.fresh q.0 q.1);
  }

  still_granted : (t : Token) → Granted x.server past t → Granted x.server (a ∷ past) t
  still_granted t g = inr (
    g,
    (hosts_a past x s r may_one.name).calm.begin,
    (λ w. elim w [ inl p ↦ (let q = p.1.2.0 in cc) | inr p ↦ (let q = p.1.2.0 in cc) ]),
    (λ w. s.tokens.here t g ((hosts_a past x s r may_one.name).calm.away t.host w)),
  )

  granted_was : (t : Token) → Granted x.server (a ∷ past) t → Granted x.server past t
  granted_was t (inl (inl p)) = absurd (elim p.1.3 [ inl q ↦ (let u = q.1 in cc) | inr q ↦ (let u = q.1 in cc) ])
  granted_was t (inl (inr p)) = absurd (let q = p.1 in cc)
  granted_was t (inr p) = p.0

  pub asked_on : (t : Token) → IsAskedBack x.server past t → IsAskedBack x.server (a ∷ past) t
  asked_on t b = record {
    over = over_still past a (hosts_a past x s r may_one.name).calm b.over;
    granted = still_granted t b.granted;
    unpinned = λ p. b.unpinned (elim p.0 [ inl q ↦ absurd (let u = q.1.2.0 in cc) | inr q ↦ q ]);
    w = b.w;
    waits = waits_still past a (hosts_a past x s r may_one.name).calm x.server
        (wants_a past x s r may_one.name) b.w b.waits;
    blocks_it = b.blocks_it;
  }

  pub asked_was : (t : Token) → IsAskedBack x.server (a ∷ past) t → IsAskedBack x.server past t
  asked_was t b = record {
    over = over_back past a (hosts_a past x s r may_one.name).calm b.over;
    granted = granted_was t b.granted;
    unpinned = λ p. b.unpinned (inr p, b.granted);
    w = b.w;
    waits = waits_back past a (hosts_a past x s r may_one.name).calm x.server
        (wants_a past x s r may_one.name) b.w b.waits;
    blocks_it = b.blocks_it;
  }

  pub rest_to_ask : AreToAsk (a ∷ past) (asked x r.2) rest
  rest_to_ask =
      let m = is_marked x.tokens.grants r.2.ids in
      let ins = (λ (t : Token) (i : In t (tokens_of (asked x r.2).tokens.grants)). subst (λ
      (z : Table). In t z.tokens) m.table i) in
      record {
        there = λ t i. subst (λ (z : Table). In t z.tokens) (sym m.table) (o.there t (f.left t i).0);
        fresh = λ t i. elim (cases_Bool (is_revoked (asked x r.2).tokens.grants.notes t.id)) [
          | inl e ↦ elim (m.were t.id e) [
            | inl p ↦ absurd (false≢true (sym (o.fresh t (f.left t i).0) ∙ p))
            | inr p ↦ absurd ((f.left t i).1 p)
          ]
          | inr e ↦ e
        ];
        asked_back = λ t i. asked_on t (o.asked_back t (f.left t i).0);
        homes = λ t i. o.homes t (f.left t i).0;
        one = λ t u i j e. o.one t u (ins t i) (ins u j) e;
      }

-- # All are

pub may_ask_all : (past : List Doing) (x : Tables) (tokens : List Token) (rs : List Asking) → Stands past x
    → AreToAsk past x tokens
    → IsSplit x.stamp tokens rs → MayAskAll past x rs
may_ask_all past x tokens [] s o p = tt
may_ask_all past x tokens (r ∷ rs) s o p =
    let may = may_one past x s tokens p.0 o r p.1 in (
      may,
      may_ask_all (Sent r.0 x.hosts.epoch r.1 (Revoke r.2) ∷ past) (asked x r.2) p.0 rs (stands_a past x s r may.name)
          (rest_to_ask past x s tokens p.0 o r p.1) p.2,
    )

pub stays_marked : (x : Tables) (rs : List Asking) (i : TokenId) → is_revoked x.tokens.grants.notes i ≡ true
    → is_revoked (asked_all x rs).tokens.grants.notes i ≡ true
stays_marked x [] i e = e
stays_marked x (r ∷ rs) i e = stays_marked (asked x r.2) rs i ((is_marked x.tokens.grants r.2.ids).stay i e)

pub all_marked : (past : List Doing) (x : Tables) (tokens : List Token) (rs : List Asking) → Stands past x
    → AreToAsk past x tokens
    → IsSplit x.stamp tokens rs → (t : Token) → In t tokens → is_revoked (asked_all x rs).tokens.grants.notes t.id
    ≡ true
all_marked past x tokens [] s o p t i = absurd (p t i)
all_marked past x tokens (r ∷ rs) s o p t i = elim (p.1.all t i) [
  | inl m ↦ stays_marked (asked x r.2) rs t.id ((is_marked x.tokens.grants r.2.ids).all t.id m (s.tokens.known t
      (o.there t i)))
  | inr m ↦ (let may = may_one past x s tokens p.0 o r p.1 in
      all_marked (Sent r.0 x.hosts.epoch r.1 (Revoke r.2) ∷ past) (asked x r.2) p.0 rs (stands_a past x s r may.name)
      (rest_to_ask past x s tokens p.0 o r p.1) p.2 t m)
]

pub asked_before : (past : List Doing) (x : Tables) (tokens : List Token) (rs : List Asking) → Stands past x
    → AreToAsk past x tokens
    → IsSplit x.stamp tokens rs → (t : Token) → IsAskedBack x.server (appended (sending (map (revoke x) rs)) past) t
    → IsAskedBack x.server past t
asked_before past x tokens [] s o p t b = b
asked_before past x tokens (r ∷ rs) s o p t b =
    let may = may_one past x s tokens p.0 o r p.1 in
    asked_was past x s tokens p.0 o r p.1 t
    (asked_before (Sent r.0 x.hosts.epoch r.1 (Revoke r.2) ∷ past) (asked x r.2) p.0 rs (stands_a past x s r may.name)
    (rest_to_ask past x s tokens p.0 o r p.1) p.2 t b)

same_server : (x : Tables) (rs : List Asking) → (asked_all x rs).server ≡ x.server
same_server x [] = refl
same_server x (r ∷ rs) = same_server (asked x r.2) rs

-- At the end each token that is in the way of a want was asked back. `all`: as the token manager says it.
pub all_recalled : (past : List Doing) (x : Tables) (tokens : List Token) (rs : List Asking) → Stands past x
    → AreToAsk past x tokens
    → IsSplit x.stamp tokens rs
    → ((t : Token) → IsAskedBack x.server past t → (is_revoked x.tokens.grants.notes t.id ≡ true) ⊎ In t tokens)
    → (t : Token) → IsAskedBack x.server (appended (sending (map (revoke x) rs)) past) t
    → HasRevoked (appended (sending (map (revoke x) rs)) past) t
all_recalled past x tokens rs s o p all t b =
    let z = stands_asked past x rs s (names_all past x rs (may_ask_all past x tokens rs s o p)) in
    let i = z.tokens.granted_all t (subst (λ (v : ServerId). Granted v (appended (sending (map
    (revoke x) rs)) past) t) (sym (same_server x rs)) b.granted) in
    z.stamps.revoked t i (elim (all t (asked_before past x tokens rs s o p t b)) [
      | inl e ↦ stays_marked x rs t.id e
      | inr m ↦ all_marked past x tokens rs s o p t m
    ])

-- # Each token is named by one

ids_before : (stamp : ℕ) (tokens : List Token) (rs : List Asking) → IsSplit stamp tokens rs → (q : Asking) → In q rs
    → (i : TokenId) → In i q.2.ids
    → (t : Token) × In t tokens × (t.id ≡ i)
ids_before stamp tokens [] p q m i j = elim m [ ]
ids_before stamp tokens (r ∷ rs) p q (inl e) i j =
    let k = p.1.ids i (subst (λ (z : Asking). In i z.2.ids) e j) in (k.0, k.1, k.2)
ids_before stamp tokens (r ∷ rs) p q (inr m) i j =
    let k = ids_before (stamp + 1) p.0 rs p.2 q m i j in (k.0, (p.1.left k.0 k.1).0, k.2)

pub named_once : (stamp : ℕ) (tokens : List Token) (rs : List Asking) → IsSplit stamp tokens rs → (q v : Asking)
    → In q rs → In v rs
    → (i : TokenId) → In i q.2.ids → In i v.2.ids → q ≡ v
named_once stamp tokens [] p q v m n i j k = elim m [ ]
named_once stamp tokens (r ∷ rs) p q v (inl e) (inl f) i j k = e ∙ sym f
named_once stamp tokens (r ∷ rs) p q v (inl e) (inr n) i j k =
    let u = ids_before (stamp + 1) p.0 rs p.2 v n i k in
    absurd ((p.1.left u.0 u.1).1 (subst (λ (z : TokenId). In z r.2.ids) (sym u.2) (subst (λ
    (z : Asking). In i z.2.ids) e j)))
named_once stamp tokens (r ∷ rs) p q v (inr m) (inl f) i j k =
    let u = ids_before (stamp + 1) p.0 rs p.2 q m i j in
    absurd ((p.1.left u.0 u.1).1 (subst (λ (z : TokenId). In z r.2.ids) (sym u.2) (subst (λ
    (z : Asking). In i z.2.ids) f k)))
named_once stamp tokens (r ∷ rs) p q v (inr m) (inr n) i j k = named_once (stamp + 1) p.0 rs p.2 q v m n i j k

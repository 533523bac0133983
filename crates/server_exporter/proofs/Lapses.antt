-- A lapse: hosts that haven't reclaimed are told of the restart again, and what is owed is asked back again.
use Rattle.std.proofs.Common.{◌≡◌, ◌≤◌, ℕ, zero, suc, ◌+◌, ◌==◌, Bool, true, false, ◌&&◌, not, ◌/◌}
use Rattle.std.proofs.Common.{List, [], ◌∷◌, ◌++◌, map, length, inl, inr, refl, sym, ◌∙◌, ap}
use Rattle.std.proofs.Common.{subst, arith}
use Rattle.std.specs.List.{filter, flat_map}
use Rattle.std.proofs.lemmas.Bool.{and_from, and_parts, cases_Bool, eq-eqb, eqb-true, false≢true}
use Rattle.base_types.specs.Ids.{same_fid}
use Rattle.base_types.specs.declared.ids.Fid.{Fid}
use Rattle.base_types.specs.declared.ids.FilesetId.{FilesetId}
use Rattle.base_types.specs.declared.ids.HostId.{HostId}
use Rattle.base_types.specs.declared.ids.ServerId.{ServerId}
use Rattle.tree_answers.specs.declared.tree.Tree.{Tree}
use Rattle.message_types.specs.declared.message.Body.TheVariants.{Restarted, Revoke, Reclaimed}
use Rattle.message_types.specs.declared.message.Message.{Message}
use Rattle.message_types.specs.declared.tokens.Revoke.{Revoke as RevokeOf}
use Rattle.token_manager.specs.Managers.{Manager, after_revoked}
use Rattle.token_manager.specs.declared.grants.Grants.{Grants}
use Rattle.token_table.specs.Marks.{is_pinned, is_revoked}
use Rattle.token_table.specs.Tables.{of_host, Table}
use Rattle.token_types.specs.declared.token.Token.{Token}
use Rattle.token_types.specs.declared.token.TokenId.{TokenId}
use Rattle.run_rules.specs.Doings.{Doing, Granted, Here, sending}
use Rattle.run_rules.specs.Doings.Doing.{Sent}
use Rattle.run_rules.specs.Messages.{home}
use Rattle.run_rules.specs.Past.{EachInTurn, EachOnce, In, appended}
use Rattle.run_rules.specs.ServerMay.{MaySend}
use Rattle.run_rules.specs.Wants.{Decides}
use Rattle.run_rules.specs.declared.applied.Request.{Request}
use Rattle.run_rules.specs.declared.applied.Request.TheVariants.{Change as Changes, Fetch as Asks}
use Rattle.run_rules.specs.declared.step.Cause.TheVariants.{Lapse}
use Rattle.run_rules.specs.declared.step.Step.{Step}
use Rattle.server_tables.specs.Places.{is_of}
use Rattle.server_tables.specs.Standing.{AnsweredStand, Stands, tokens_of}
use Rattle.server_tables.specs.declared.tables.Tables.{Tables}
use Rattle.server_tables.proofs.Granting.{in_back}
use Rattle.server_tables.proofs.Greeting.{in_front, in_parts}
use Rattle.server_tables.proofs.Hailing.{hail}
use Rattle.server_tables.proofs.Idle.{idle, says, up_to}
use Rattle.server_tables.proofs.Lapsing.{MayAgainAll}
use Rattle.server_tables.proofs.Quiet.{blank_word}
use Rattle.server_tables.proofs.Recalling.{IsFirst, IsSplit}
use Rattle.server_tables.proofs.Revoking.{MayAgain, MayName, again_so, asks_hosts, is_marked, marking}
use Rattle.server_tables.proofs.Saying.{tells_restarted}
use Rattle.server_tables.proofs.Still.{HostsStill, IsStill, answered_still, still}
use Rattle.server_tables.proofs.Waiting.{Asking as Ask, MayNameAll, asked as asks, asked_all as asks_all, revoke}
use Rattle.server_tables.proofs.Waiting.{stands_a}
use Rattle.server_tables.proofs.Without.{in_filter, to_filter}
use Rattle.server_exporter.specs.Machines.{ClaimsWait, IsQuiet, IsRested}
use Rattle.server_decides.specs.Revoking.{Asking, asked, asked_all, asking_of, askings, askings_for, all_revoked}
use Rattle.server_decides.specs.Revoking.{revoking, ids_beside, is_beside, not_beside, is_owed, owed, owed_by}
use Rattle.server_exporter.proofs.Resting.{IsEven, claims_wait, even_still, quiet_even, rested_even}
use Rattle.server_exporter.specs.Machines.{AreTold}
use Rattle.message_types.specs.declared.giving.Reclaimed.{Reclaimed as ReclaimedOf}
use Rattle.server_tables.proofs.Still.{StayPut}
use Rattle.server_tables.proofs.Judged.{here_to}
use Rattle.server_exporter.proofs.Tolds.{told_next}

-- what is carried from doing to doing
pub record IsSo (past : List Doing) (tree : Tree) (x : Tables) : Type 0 where
  pub tables : Stands past x
  pub answered : AnsweredStand past x.recovering.answers
  pub claims : ClaimsWait past x.recovering.claims
  pub told : AreTold x.server past
  pub quiet : IsQuiet x.server tree past
  pub rested : IsRested x.server tree past

abbrev hails : Tables → HostId → Doing
hails y h = Sent h y.hosts.epoch 0 Restarted

hail_still : (past : List Doing) (y : Tables) (h : HostId) → Stands past y → IsStill y.server y.stamp past (hails y h)
hail_still past y h s = idle y.server y.stamp past (hails y h)
    (says h y.hosts.epoch 0 Restarted (blank_word Restarted (tells_restarted y.server past h 0).blank))
    (up_to past h y.hosts.epoch 0 Restarted s.hosts.epoch_is)

pub so_still : (past : List Doing) (tree : Tree) (x : Tables) (a : Doing) → IsStill x.server x.stamp past a
    → ((h : HostId) (e n : ℕ) (r : ReclaimedOf) → a ≡ Sent h e n (Reclaimed r) → ⊥)
    → IsSo past tree x → IsSo (a ∷ past) tree x
so_still past tree x a c other z =
    let e = even_still past a x z.tables c in
    record {
      tables = still past a x c z.tables;
      answered = answered_still past a c.hosts z.answered;
      claims = claims_wait past a c.hosts.calm x.recovering.claims z.claims;
      told = told_next x.server past a c.hosts.calm.begin (λ h k n r p. absurd (other h k n r p))
          (λ w k n d p. absurd (c.wants.wants w p)) z.told;
      quiet = quiet_even x.server past a e z.tables.tokens.none_reserved tree z.quiet;
      rested = rested_even x.server past a e z.tables.tokens.none_reserved tree z.rested;
    }

pub so_hailed : (past : List Doing) (tree : Tree) (y : Tables) (hs : List HostId) → IsSo past tree y
    → IsSo (appended (sending (map (hail y) hs)) past) tree y
so_hailed past tree y [] z = z
so_hailed past tree y (h ∷ hs) z =
    so_hailed (hails y h ∷ past) tree y hs (so_still past tree y (hails y h) (hail_still past y h z.tables)
    (λ k e n r p. cc) z)

-- a token is asked back
module _ (past : List Doing) (x : Tables) (s : Stands past x) (r : Ask)
    (may : MayName x.server past x.tokens.grants x.stamp r.0 r.1 r.2) where
  abbrev a : Doing
  a = Sent r.0 x.hosts.epoch r.1 (Revoke r.2)

  pub ask_hosts : HostsStill past a
  ask_hosts = asks_hosts x.server past x.tokens.grants
      (marking x.tokens.grants r.2.ids) x.stamp r.0 x.hosts.epoch r.1 r.2 s.hosts.epoch_is may
      (is_marked x.tokens.grants r.2.ids) s.tokens

  on : (t : Token) → Granted x.server past t → Granted x.server (a ∷ past) t
  on t g = inr (
    g,
    ask_hosts.calm.begin,
    (λ w. elim w [ inl p ↦ (let q = p.1.2.0 in cc) | inr p ↦ (let q = p.1.2.0 in cc) ]),
    λ w. s.tokens.here t g (ask_hosts.calm.away t.host w),
  )

  back : (t : Token) → Granted x.server (a ∷ past) t → Granted x.server past t
  back t (inl (inl p)) = absurd (elim p.1.3 [ inl q ↦ (let u = q.1 in cc) | inr q ↦ (let u = q.1 in cc) ])
  back t (inl (inr p)) = absurd (let q = p.1 in cc)
  back t (inr p) = p.0

  undecided : (h : HostId) (q : Request) → Decides a h q → ⊥
  undecided h (Asks f) d = let p = d.3 in cc
  undecided h (Changes f) (inl d) = let p = d.1 in cc
  undecided h (Changes f) (inr d) = let p = d.3 in cc

  pub ask_even : IsEven x.server past a
  ask_even = record {
    calm = ask_hosts.calm;
    granted = on;
    granted_was = back;
    pinned_was = λ t p. elim p.0 [ inl q ↦ absurd (let u = q.1.2.0 in cc) | inr q ↦ q ];
    wants = record {
      wants = λ w p. cc;
      unwants = λ w p u. elim u [
        | inl d ↦ undecided w.host w.request d
        | inr u ↦ elim u [
          | inl v ↦ (let q = v.1 in cc)
          | inr u ↦ elim u [
            | inl g ↦ elim g [
              | inl p ↦ (let q = p.2 in cc)
              | inr p ↦
                  (let q = p.0.1 in cc)
            ]
            | inr b ↦ ask_hosts.calm.begin b
          ]
        ]
      ];
    };
    claims = record { gives = λ h f g p. let q = p.2.0 in cc; claims = λ h n c p. let q = p.0 in cc };
  }

  pub so_asked : (tree : Tree) → IsSo past tree x → IsSo (a ∷ past) tree (asks x r.2)
  so_asked tree z = record {
    tables = stands_a past x s r may;
    answered = answered_still past a ask_hosts z.answered;
    claims = claims_wait past a ask_hosts.calm x.recovering.claims z.claims;
    told = told_next x.server past a ask_hosts.calm.begin (λ h e n o p. absurd (cc)) (λ w k n d p. absurd (cc))
        z.told;
    quiet = quiet_even x.server past a ask_even s.tokens.none_reserved tree z.quiet;
    rested = rested_even x.server past a ask_even s.tokens.none_reserved tree z.rested;
  }

pub so_all : (past : List Doing) (tree : Tree) (x : Tables) (rs : List Ask) → MayNameAll past x rs → IsSo past tree x
    → IsSo (appended (sending (map (revoke x) rs)) past) tree (asks_all x rs)
so_all past tree x [] may z = z
so_all past tree x (r ∷ rs) may z =
    so_all (Sent r.0 x.hosts.epoch r.1 (Revoke r.2) ∷ past) tree (asks x r.2) rs may.1
    (so_asked past x z.tables r may.0 tree z)

-- # What is owed may be asked back again

abbrev pub ask_of : Asking → Ask
ask_of a = (a.host, 0, a.revoke)

pub is_here : (server : ServerId) (past : List Doing) (fileset : FilesetId) → StayPut server past
    → is_of server fileset ≡ true → Here server past fileset 0
is_here server past fileset put e = here_to server past fileset 0 put refl e

same_fids : (a b : Fid) → same_fid a b ≡ true → a ≡ b
same_fids a b e =
    let p = and_parts ((a.fileset.0 == b.fileset.0) && (a.anode == b.anode)) (a.unique == b.unique) e in
    let q = and_parts (a.fileset.0 == b.fileset.0) (a.anode == b.anode) p.0 in
    let x = eqb-true a.fileset.0 b.fileset.0 q.0 in let y = eqb-true a.anode b.anode q.1 in let z =
    eqb-true a.unique b.unique p.1 in
    λ i. record { fileset = record { 0 = x i }; anode = y i; unique = z i }

same_hosts : (a b : HostId) → (a.0 == b.0) ≡ true → a ≡ b
same_hosts a b e = let x = eqb-true a.0 b.0 e in λ i. record { 0 = x i }

not_true : (b : Bool) → not b ≡ true → b ≡ false
not_true true e = absurd (false≢true e)
not_true false e = refl

itself : (t : Token) → not_beside t t ≡ false
itself t = ap not (and_from (t.host.0 == t.host.0) (same_fid t.fid t.fid) (eq-eqb t.host.0 t.host.0 refl)
    (and_from ((t.fid.fileset.0 == t.fid.fileset.0) && (t.fid.anode == t.fid.anode)) (t.fid.unique == t.fid.unique)
    (and_from (t.fid.fileset.0 == t.fid.fileset.0) (t.fid.anode == t.fid.anode)
    (eq-eqb t.fid.fileset.0 t.fid.fileset.0 refl) (eq-eqb t.fid.anode t.fid.anode refl))
    (eq-eqb t.fid.unique t.fid.unique refl)))

filter_none : (p : Token → Bool) (t : Token) (ts : List Token) → p t ≡ false → filter p (t ∷ ts) ≡ filter p ts
filter_none p t ts e = rw e refl

filter_some : (p : Token → Bool) (t : Token) (ts : List Token) → p t ≡ true → filter p (t ∷ ts) ≡ t ∷ filter p ts
filter_some p t ts e = rw e refl

filter_short : (p : Token → Bool) (ts : List Token) → length (filter p ts) ≤ length ts
filter_short p [] = omega arith
filter_short p (t ∷ ts) = by (filter_short p ts) (p t) refl
  where
    by : length (filter p ts) ≤ length ts → (b : Bool) → p t ≡ b → length (filter p (t ∷ ts)) ≤ suc (length ts)
    by k true e = subst (λ (l : List Token). length l ≤ suc (length ts)) (sym (filter_some p t ts e)) (omega (arith, k))
    by k false e = subst (λ (l : List Token). length l ≤ suc (length ts)) (sym (filter_none p t ts e))
        (omega (arith, k))

-- tokens that may be asked back again
pub record AreOwed (server : ServerId) (grants : Grants) (tokens : List Token) : Type 0 where
  pub there : (t : Token) → In t tokens → In t (tokens_of grants)
  pub marked : (t : Token) → In t tokens → is_revoked grants.notes t.id ≡ true
  pub unpinned : (t : Token) → In t tokens → is_pinned grants.notes t.id ≡ false
  pub homes : (t : Token) → In t tokens → is_of server t.fid.fileset ≡ true
  pub one : (t u : Token) → In t (tokens_of grants) → In u (tokens_of grants) → t.id ≡ u.id → t ≡ u

beside_is : (t u : Token) → is_beside t u ≡ true → (u.host ≡ t.host) × (u.fid ≡ t.fid)
beside_is t u e = let p = and_parts (u.host.0 == t.host.0) (same_fid u.fid t.fid) e in
    (same_hosts u.host t.host p.0, same_fids u.fid t.fid p.1)

in_ids : (ts : List Token) (i : TokenId) → In i (map (λ (t : Token). t.id) ts) → (t : Token) × In t ts × (t.id ≡ i)
in_ids [] i m = elim m [ ]
in_ids (t ∷ ts) i (inl e) = (t, inl refl, sym e)
in_ids (t ∷ ts) i (inr m) = let q = in_ids ts i m in (q.0, inr q.1, q.2)

to_ids : (ts : List Token) (t : Token) → In t ts → In t.id (map (λ (u : Token). u.id) ts)
to_ids [] t m = elim m [ ]
to_ids (u ∷ us) t (inl e) = inl (ap (λ (v : Token). v.id) e)
to_ids (u ∷ us) t (inr m) = inr (to_ids us t m)

-- whom a number beside the first token names
its_token : (t : Token) (ts : List Token) (i : TokenId) → In i (ids_beside t ts) → (u : Token) × In u ts × (u.id ≡ i)
    × (u.host ≡ t.host) × (u.fid ≡ t.fid)
its_token t ts i m =
    let q = in_ids (filter (is_beside t) ts) i m in
    let p = in_filter (is_beside t) q.0 ts q.1 in
    let b = beside_is t q.0 p.1 in
    (q.0, p.0, q.2, b.0, b.1)

module _ (y : Tables) (t : Token) (ts : List Token) (o : AreOwed y.server y.tokens.grants (t ∷ ts)) where
  abbrev r : Ask
  r = ask_of (asking_of y.stamp t (t ∷ ts))

  pub again_one : (past : List Doing) → Stands past y → MayAgain y.server past y.tokens.grants y.stamp r.0 r.1 r.2
  again_one past s = record {
    name = record {
      here = is_here y.server past t.fid.fileset s.slots (o.homes t (inl refl));
      stamp_is = refl;
      reclaimed = s.stamps.revoked_live t (s.stamps.revoked t (o.there t (inl refl)) (o.marked t (inl refl)));
      each = λ i m. let q = its_token t (t ∷ ts) i m in (q.0, o.there q.0 q.1, q.2, q.3, q.4);
      one = o.one;
    };
    marked = λ i m. let q = its_token t (t ∷ ts) i m in subst (λ (k : TokenId). is_revoked y.tokens.grants.notes k
        ≡ true) q.2 (o.marked q.0 q.1);
    unpinned = λ i m. let q = its_token t (t ∷ ts) i m in subst (λ (k : TokenId). is_pinned y.tokens.grants.notes k
        ≡ false) q.2 (o.unpinned q.0 q.1);
  }

  pub rest_owed : AreOwed y.server (asks y r.2).tokens.grants (filter (not_beside t) (t ∷ ts))
  rest_owed =
      let m = is_marked y.tokens.grants r.2.ids in
      let ins = (λ (u : Token) (i : In u (tokens_of (marking y.tokens.grants r.2.ids))). subst
      (λ (z : Table). In u z.tokens) m.table i) in
      let was = (λ (u : Token) (i : In u (filter (not_beside t) (t ∷ ts))).
      (in_filter (not_beside t) u (t ∷ ts) i).0) in
      record {
        there = λ u i. subst (λ (z : Table). In u z.tokens) (sym m.table) (o.there u (was u i));
        marked = λ u i. m.stay u.id (o.marked u (was u i));
        unpinned = λ u i. m.pins u.id ∙ o.unpinned u (was u i);
        homes = λ u i. o.homes u (was u i);
        one = λ u v i j e. o.one u v (ins u i) (ins v j) e;
      }

abbrev pub asks_of : List Asking → List Ask
asks_of rs = map ask_of rs

pub again_each : (n : ℕ) (past : List Doing) (y : Tables) (ts : List Token) → Stands past y
    → AreOwed y.server y.tokens.grants ts
    → MayAgainAll past y (asks_of (askings_for n y.stamp ts))
again_each zero past y ts s o = tt
again_each (suc n) past y [] s o = tt
again_each (suc n) past y (t ∷ ts) s o =
    let r = ask_of (asking_of y.stamp t (t ∷ ts)) in
    let may = again_one y t ts o past s in (
      may,
      again_each n (Sent r.0 y.hosts.epoch r.1 (Revoke r.2) ∷ past) (asks y r.2) (filter (not_beside t) (t ∷ ts))
          (stands_a past y s r may.name) (rest_owed y t ts o),
    )

-- no other token is noted as asked back by it, and no pin changes
pub was_marked : (n : ℕ) (y : Tables) (ts : List Token) → AreOwed y.server y.tokens.grants ts → (i : TokenId)
    → is_revoked (asks_all y (asks_of (askings_for n y.stamp ts))).tokens.grants.notes i ≡ true
    → is_revoked y.tokens.grants.notes i ≡ true
was_marked zero y ts o i e = e
was_marked (suc n) y [] o i e = e
was_marked (suc n) y (t ∷ ts) o i e =
    let r = ask_of (asking_of y.stamp t (t ∷ ts)) in
    let w = was_marked n (asks y r.2) (filter (not_beside t) (t ∷ ts)) (rest_owed y t ts o) i e in
    elim ((is_marked y.tokens.grants r.2.ids).were i w) [
      | inl p ↦ p
      | inr m ↦ (let q = its_token t (t ∷ ts) i m in subst (λ (k : TokenId). is_revoked y.tokens.grants.notes k
          ≡ true) q.2 (o.marked q.0 q.1))
    ]

pub pins_all : (x : Tables) (rs : List Ask) (i : TokenId) → is_pinned (asks_all x rs).tokens.grants.notes i
    ≡ is_pinned x.tokens.grants.notes i
pins_all x [] i = refl
pins_all x (r ∷ rs) i = pins_all (asks x r.2) rs i ∙ (is_marked x.tokens.grants r.2.ids).pins i

pub table_all : (x : Tables) (rs : List Ask) → (asks_all x rs).tokens.grants.table ≡ x.tokens.grants.table
table_all x [] = refl
table_all x (r ∷ rs) = table_all (asks x r.2) rs ∙ (is_marked x.tokens.grants r.2.ids).table

-- what is named is one of the tokens
named_in : (n : ℕ) (stamp : ℕ) (ts : List Token) (q : Ask) (i : TokenId) → In q (asks_of (askings_for n stamp ts))
    → In i q.2.ids
    → (u : Token) × In u ts × (u.id ≡ i) × (u.host ≡ q.0) × (u.fid ≡ q.2.fid)
named_in zero stamp ts q i m k = elim m [ ]
named_in (suc n) stamp [] q i m k = elim m [ ]
named_in (suc n) stamp (t ∷ ts) q i (inl e) k =
    let u = its_token t (t ∷ ts) i (subst (λ (z : Ask). In i z.2.ids) e k) in
    (u.0, u.1, u.2, u.3 ∙ sym (ap (λ (z : Ask). z.0) e), u.4 ∙ sym (ap (λ (z : Ask). z.2.fid) e))
named_in (suc n) stamp (t ∷ ts) q i (inr m) k =
    let u = named_in n (stamp + 1) (filter (not_beside t) (t ∷ ts)) q i m k in
    (u.0, (in_filter (not_beside t) u.0 (t ∷ ts) u.1).0, u.2, u.3, u.4)

-- each is named, where there is room
pub names_each : (n : ℕ) (stamp : ℕ) (ts : List Token) → length ts ≤ n → (u : Token) → In u ts
    → (q : Ask) × In q (asks_of (askings_for n stamp ts)) × (q.0 ≡ u.host) × In u.id q.2.ids
names_each zero stamp [] l u m = elim m [ ]
names_each zero stamp (t ∷ ts) l u m = absurd (omega (arith, l))
names_each (suc n) stamp [] l u m = elim m [ ]
names_each (suc n) stamp (t ∷ ts) l u m = elim (cases_Bool (is_beside t u)) [
  | inl e ↦ (
    ask_of (asking_of stamp t (t ∷ ts)),
    inl refl,
    sym (beside_is t u e).0,
    to_ids (filter (is_beside t) (t ∷ ts)) u (to_filter (is_beside t) u (t ∷ ts) m e),
  )
  | inr e ↦ (let q = names_each n (stamp + 1) (filter (not_beside t) (t ∷ ts)) (fewer t ts n l) u
      (to_filter (not_beside t) u (t ∷ ts) m (ap not e)) in (q.0, inr q.1, q.2, q.3))
]
  where
    fewer : (t : Token) (ts : List Token) (n : ℕ) → length (t ∷ ts) ≤ suc n
        → length (filter (not_beside t) (t ∷ ts)) ≤ n
    fewer t ts n l = let k = filter_short (not_beside t) ts in
        subst (λ (us : List Token). length us ≤ n) (sym (filter_none (not_beside t) t ts (itself t)))
        (omega (arith, l, k))

-- those of two groups aren't one
apart_from : (n : ℕ) (stamp : ℕ) (t : Token) (ts : List Token) (i : TokenId) (q : Ask)
    → ((u v : Token) → In u (t ∷ ts) → In v (t ∷ ts) → u.id ≡ v.id → u ≡ v)
    → In i (ids_beside t (t ∷ ts)) → In q (asks_of (askings_for n stamp (filter (not_beside t) (t ∷ ts))))
    → In i q.2.ids → ⊥
apart_from n stamp t ts i q one m k l =
    let u = in_ids (filter (is_beside t) (t ∷ ts)) i m in
    let a = in_filter (is_beside t) u.0 (t ∷ ts) u.1 in
    let v = named_in n stamp (filter (not_beside t) (t ∷ ts)) q i k l in
    let b = in_filter (not_beside t) v.0 (t ∷ ts) v.1 in
    let e = one u.0 v.0 a.0 b.0 (u.2 ∙ sym v.2) in
    false≢true (sym (ap not (subst (λ (w : Token). is_beside t w ≡ true) e a.1)) ∙ b.1)

pub groups_apart : (n : ℕ) (stamp : ℕ) (ts : List Token) → ((u v : Token) → In u ts → In v ts → u.id ≡ v.id → u ≡ v)
    → (q o : Ask) (i : TokenId) → In q (asks_of (askings_for n stamp ts)) → In o (asks_of (askings_for n stamp ts))
    → In i q.2.ids → In i o.2.ids → q.2 ≡ o.2
groups_apart zero stamp ts one q o i j k a b = elim j [ ]
groups_apart (suc n) stamp [] one q o i j k a b = elim j [ ]
groups_apart (suc n) stamp (t ∷ ts) one q o i (inl e) (inl d) a b = ap (λ (z : Ask). z.2) e
    ∙ sym (ap (λ (z : Ask). z.2) d)
groups_apart (suc n) stamp (t ∷ ts) one q o i (inl e) (inr k) a b =
    absurd (apart_from n (stamp + 1) t ts i o one (subst (λ (z : Ask). In i z.2.ids) e a) k b)
groups_apart (suc n) stamp (t ∷ ts) one q o i (inr j) (inl d) a b =
    absurd (apart_from n (stamp + 1) t ts i q one (subst (λ (z : Ask). In i z.2.ids) d b) j a)
groups_apart (suc n) stamp (t ∷ ts) one q o i (inr j) (inr k) a b =
    groups_apart n (stamp + 1) (filter (not_beside t) (t ∷ ts))
    (λ u v x y e. one u v (in_filter (not_beside t) u (t ∷ ts) x).0 (in_filter (not_beside t) v (t ∷ ts) y).0 e)
    q o i j k a b

-- # What is owed

in_flat : {A B : Type 0} (f : A → List B) (xs : List A) (b : B) → In b (flat_map f xs) → (a : A) × In a xs × In b (f a)
in_flat f [] b m = elim m [ ]
in_flat f (x ∷ xs) b m = elim (in_parts b (f x) (flat_map f xs) m) [
  | inl p ↦ (x, inl refl, p)
  | inr p ↦ (let q = in_flat f xs b p in (q.0, inr q.1, q.2))
]

to_flat : {A B : Type 0} (f : A → List B) (xs : List A) (b : B) (a : A) → In a xs → In b (f a) → In b (flat_map f xs)
to_flat f [] b a m k = elim m [ ]
to_flat f (x ∷ xs) b a (inl e) k = in_front b (f x) (flat_map f xs) (subst (λ z. In b (f z)) e k)
to_flat f (x ∷ xs) b a (inr m) k = in_back b (f x) (flat_map f xs) (to_flat f xs b a m k)

module _ (past : List Doing) (tree : Tree) (x : Tables) (s : Stands past x)
    (homes : (t : Token) → In t (tokens_of x.tokens.grants) → is_of x.server t.fid.fileset ≡ true)
    (one : (t u : Token) → In t (tokens_of x.tokens.grants) → In u (tokens_of x.tokens.grants) → t.id ≡ u.id → t
    ≡ u) where
  its_owed : (t : Token) → In t (owed x) → (In t (tokens_of x.tokens.grants)) × (is_owed x.tokens t ≡ true)
  its_owed t m =
      let h = in_flat (owed_by x.tokens) x.hosts.listed t m in
      let p = in_filter (is_owed x.tokens) t (of_host (tokens_of x.tokens.grants) h.0) h.2 in
      ((in_filter (λ (token : Token). token.host.0 == (h.0).0) t (tokens_of x.tokens.grants) p.0).0, p.1)

  pub all_owed : AreOwed x.server x.tokens.grants (owed x)
  all_owed = record {
    there = λ t m. (its_owed t m).0;
    marked = λ t m. (and_parts (is_revoked x.tokens.grants.notes t.id) (not (is_pinned x.tokens.grants.notes t.id))
        (its_owed t m).1).0;
    unpinned = λ t m. not_true (is_pinned x.tokens.grants.notes t.id)
        (and_parts (is_revoked x.tokens.grants.notes t.id) (not (is_pinned x.tokens.grants.notes t.id))
        (its_owed t m).1).1;
    homes = λ t m. homes t (its_owed t m).0;
    one = one;
  }

  pub is_in_owed : (t : Token) → In t (tokens_of x.tokens.grants) → is_revoked x.tokens.grants.notes t.id ≡ true
      → is_pinned x.tokens.grants.notes t.id ≡ false → In t (owed x)
  is_in_owed t m r p = to_flat (owed_by x.tokens) x.hosts.listed t t.host
      (s.hosts.listed_all t.host (s.tokens.live t (s.tokens.granted t m)).0)
      (to_filter (is_owed x.tokens) t (of_host (tokens_of x.tokens.grants) t.host)
      (to_filter (λ (token : Token). token.host.0 == t.host.0) t (tokens_of x.tokens.grants) m
      (eq-eqb t.host.0 t.host.0 refl))
      (and_from (is_revoked x.tokens.grants.notes t.id) (not (is_pinned x.tokens.grants.notes t.id)) r (ap not p)))

-- # Two parts of what is sent

pub sending_append : (ms ns : List Message) → sending (ms ++ ns) ≡ sending ms ++ sending ns
sending_append [] ns = refl
sending_append (m ∷ ms) ns = ap (λ (l : List Doing). Sent m.host m.epoch m.moves m.body ∷ l) (sending_append ms ns)

pub in_turn_both : (may : List Doing → Doing → Type 0) (xs ys past : List Doing) → EachInTurn may xs past
    → EachInTurn may ys (appended xs past)
    → EachInTurn may (xs ++ ys) past
in_turn_both may [] ys past e d = d
in_turn_both may (x ∷ xs) ys past e d = (e.0, in_turn_both may xs ys (x ∷ past) e.1 d)

pub once_both : (xs ys : List Message) → EachOnce xs → EachOnce ys → ((m : Message) → In m xs → In m ys → ⊥)
    → EachOnce (xs ++ ys)
once_both [] ys e d apart = d
once_both (x ∷ xs) ys e d apart = (
  (λ i. elim (in_parts x xs ys i) [ inl p ↦ e.0 p | inr p ↦ apart x (inl refl) p ]),
  once_both xs ys e.1 d (λ m i j. apart m (inr i) j),
)

pub again_all : (tree : Tree) (step : Step) → step.cause ≡ Lapse → (past : List Doing) (x : Tables) (rs : List Ask)
    → Stands past x → MayAgainAll past x rs
    → EachInTurn (MaySend x.server tree step) (sending (map (revoke x) rs)) past
again_all tree step lapse past x [] s may = tt
again_all tree step lapse past x (r ∷ rs) s may = (
  again_so x.server past x.tokens.grants
      (marking x.tokens.grants r.2.ids) x.stamp r.0 x.hosts.epoch r.1 r.2 s.hosts.epoch_is may.0.name
      (is_marked x.tokens.grants r.2.ids) s.tokens tree step lapse may.0 s.stamps,
  again_all tree step lapse (Sent r.0 x.hosts.epoch r.1 (Revoke r.2) ∷ past) (asks x r.2) rs
      (stands_a past x s r may.0.name) may.1,
)

-- # The same in the words of the calls

all_revoked_is : (m : Manager) (ids : List TokenId) → all_revoked m ids ≡ record m { grants = marking m.grants ids }
all_revoked_is m [] = refl
all_revoked_is m (id ∷ ids) = all_revoked_is (after_revoked m id) ids

pub asked_is : (x : Tables) (r : RevokeOf) → asked x r ≡ asks x r
asked_is x r = ap (λ (m : Manager). record x { tokens = m; stamp = x.stamp + 1 }) (all_revoked_is x.tokens r.ids)

pub asked_all_is : (x : Tables) (rs : List Asking) → asked_all x rs ≡ asks_all x (asks_of rs)
asked_all_is x [] = refl
asked_all_is x (a ∷ rs) = ap (λ (w : Tables). asked_all w rs) (asked_is x a.revoke) ∙ asked_all_is (asks x a.revoke) rs

pub revokes_are : (x : Tables) (rs : List Asking) → map (revoking x) rs ≡ map (revoke x) (asks_of rs)
revokes_are x [] = refl
revokes_are x (a ∷ rs) = ap (λ (ms : List Message). revoking x a ∷ ms) (revokes_are x rs)

-- # What is asked back at the end of a step: each takes the tokens of a host and a file, and leaves the rest

first_of : (n stamp : ℕ) (t : Token) (ts : List Token)
    → ((u v : Token) → In u (t ∷ ts) → In v (t ∷ ts) → u.id ≡ v.id → u ≡ v)
    → IsFirst stamp (t ∷ ts) (filter (not_beside t) (t ∷ ts)) (ask_of (asking_of stamp t (t ∷ ts)))
first_of n stamp t ts one = record {
  token = t;
  has = inl refl;
  host = refl;
  fid = refl;
  moves = refl;
  stamp_is = refl;
  ids = λ i m. its_token t (t ∷ ts) i m;
  left = λ u m. (let p = in_filter (not_beside t) u (t ∷ ts) m in (
    p.0,
    λ k. (let q = in_ids (filter (is_beside t) (t ∷ ts)) u.id k in
        let a = in_filter (is_beside t) q.0 (t ∷ ts) q.1 in
        let e = one q.0 u a.0 p.0 q.2 in
        false≢true (sym (ap not (subst (λ (w : Token). is_beside t w ≡ true) e a.1)) ∙ p.1)),
  ));
  all = λ u m. elim (cases_Bool (is_beside t u)) [
    | inl e ↦ inl (to_ids (filter (is_beside t) (t ∷ ts)) u (to_filter (is_beside t) u (t ∷ ts) m e))
    | inr e ↦ inr (to_filter (not_beside t) u (t ∷ ts) m (ap not e))
  ];
}

fewer_left : (t : Token) (ts : List Token) (n : ℕ) → length (t ∷ ts) ≤ suc n
    → length (filter (not_beside t) (t ∷ ts)) ≤ n
fewer_left t ts n l =
    let k = filter_short (not_beside t) ts in
    subst (λ (us : List Token). length us ≤ n) (sym (filter_none (not_beside t) t ts (itself t))) (omega (arith, l, k))

split_for : (n stamp : ℕ) (ts : List Token) → length ts ≤ n
    → ((u v : Token) → In u ts → In v ts → u.id ≡ v.id → u ≡ v) → IsSplit stamp ts (asks_of (askings_for n stamp ts))
split_for zero stamp [] l one = λ t i. elim i [ ]
split_for zero stamp (t ∷ ts) l one = absurd (omega (arith, l))
split_for (suc n) stamp [] l one = λ t i. elim i [ ]
split_for (suc n) stamp (t ∷ ts) l one = (
  filter (not_beside t) (t ∷ ts),
  first_of n stamp t ts one,
  split_for n (stamp + 1) (filter (not_beside t) (t ∷ ts)) (fewer_left t ts n l)
      (λ u v x y e. one u v (in_filter (not_beside t) u (t ∷ ts) x).0 (in_filter (not_beside t) v (t ∷ ts) y).0 e),
)

pub is_split : (stamp : ℕ) (ts : List Token) → ((u v : Token) → In u ts → In v ts → u.id ≡ v.id → u ≡ v)
    → IsSplit stamp ts (asks_of (askings stamp ts))
is_split stamp ts one = split_for (length ts) stamp ts (omega arith) one

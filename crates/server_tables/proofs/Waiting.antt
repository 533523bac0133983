-- A Fetch that waits: its want is made, and what is in its way is asked back.
use Rattle.std.proofs.Common.{◌≡◌, ℕ, ◌+◌, ◌<◌, List, [], ◌∷◌, ◌++◌, map, Some, is_some, true, inl, inr, sym, ◌∙◌, ap}
use Rattle.std.proofs.Common.{subst, refl, arith}
use Rattle.std.proofs.lemmas.Bool.{false≢true}
use Rattle.base_types.specs.declared.ids.HostId.{HostId}
use Rattle.base_types.specs.declared.ids.ServerId.{ServerId}
use Rattle.base_types.specs.declared.ids.Node.TheVariants.{Server}
use Rattle.tree_answers.specs.declared.tree.Tree.{Tree}
use Rattle.message_types.specs.declared.asking.Change.{Change as ChangeOf}
use Rattle.message_types.specs.declared.asking.Fetch.{Fetch as FetchOf}
use Rattle.message_types.specs.declared.message.Body.{Body}
use Rattle.message_types.specs.declared.message.Body.TheVariants.{Fetch, Change, Done, Revoke}
use Rattle.message_types.specs.declared.message.Message.{Message}
use Rattle.message_types.specs.declared.telling.Done.{Done as DoneOf}
use Rattle.message_types.specs.declared.tokens.Revoke.{Revoke as RevokeOf}
use Rattle.script_lines.specs.declared.script.Script.{Script}
use Rattle.token_manager.specs.declared.want.Want.{Want as WantOf}
use Rattle.token_table.specs.Marks.{is_revoked, note_at}
use Rattle.token_types.specs.declared.token.TokenId.{TokenId}
use Rattle.run_rules.specs.Doings.{Doing, SentNow, TakenNow, after_step, sending}
use Rattle.run_rules.specs.Doings.Doing.{MakesWant, Reserves, Sent, Took}
use Rattle.run_rules.specs.Kept.{filesets_kept}
use Rattle.run_rules.specs.Past.{EachInTurn, EachOnce, In, appended}
use Rattle.run_tokens.specs.ServerRest.{ServerMeets}
use Rattle.run_rules.specs.ServerMay.{MaySend}
use Rattle.run_rules.specs.ServerTokens.{ServerTokens}
use Rattle.run_rules.specs.Steps.{lines_of}
use Rattle.run_rules.specs.Wants.{Decides, IsQueued, Unwants, body_of}
use Rattle.run_rules.specs.declared.applied.Applied.TheVariants.{Wants as IsWanted}
use Rattle.run_rules.specs.declared.applied.Request.TheVariants.{Change as Changes, Fetch as Asks}
use Rattle.run_rules.specs.declared.applied.Request.{Request}
use Rattle.run_rules.specs.declared.applied.Wanted.{Wanted}
use Rattle.run_rules.specs.declared.step.Step.{Step}
use Rattle.server_tables.specs.declared.tables.Tables.{Tables}
use Rattle.server_tables.specs.declared.pending.Pending.{Pending}
use Rattle.server_tables.specs.Standing.{IsCalm, IsSettled, Stands}
use Rattle.server_tables.specs.Steps.{to_host}
use Rattle.server_tables.proofs.Still.{ClaimsStill, HostsStill, IsStill, WantsStill, changes_still, claims_of}
use Rattle.server_tables.proofs.Still.{gives_still, hosts_still, queue_still, recovery_still, still, waits_back}
use Rattle.server_tables.proofs.Still.{wants_still}
use Rattle.server_tables.proofs.Idle.{no_words, idle, reserves_nothing}
use Rattle.server_tables.proofs.Resting.{NoneClaims, claims_still, still_settled}
use Rattle.server_tables.proofs.Quiet.{lines_may, no_host_may, reserves_may, the_cause}
use Rattle.server_tables.proofs.Settling.{calm_means}
use Rattle.server_tables.proofs.Queueing.{changes_made, made_answers, made_hosts, made_tokens, made_waits, queue_made}
use Rattle.server_tables.proofs.Asking.{IsTelling, answers_asked, asking, makes_may, not_down, not_given, only_asked}
use Rattle.server_tables.proofs.Fetching.{IsFetched, alone_begun, new_request, others_rest, over_begun, sb, ss_wanted}
use Rattle.server_tables.proofs.Fetching.{ts_wanted, ws_wanted, zb}
use Rattle.server_tables.proofs.Revoking.{MayAsk, MayName, asks_hosts, asks_may, asks_so, is_marked, marking}
use Rattle.server_tables.proofs.Revoking.{stamps_asked, tokens_asked}

-- whom what is asked back of, with how many moves
abbrev pub Asking : Type 0
Asking = HostId × ℕ × RevokeOf

-- the tables after it
abbrev pub asked : Tables → RevokeOf → Tables
asked x r = record x { tokens = record x.tokens { grants = marking x.tokens.grants r.ids }; stamp = x.stamp + 1 }

abbrev pub asked_all : Tables → List Asking → Tables
asked_all x [] = x
asked_all x (r ∷ rs) = asked_all (asked x r.2) rs

abbrev pub revoke : Tables → Asking → Message
revoke x r = to_host x.server r.0 x.hosts.epoch r.1 (Revoke r.2)

abbrev pub MayNameAll : List Doing → Tables → List Asking → Type 0
MayNameAll past x [] = Unit {0}
MayNameAll past x (r ∷ rs) = MayName x.server past x.tokens.grants x.stamp r.0 r.1 r.2
    × MayNameAll (Sent r.0 x.hosts.epoch r.1 (Revoke r.2) ∷ past) (asked x r.2) rs

abbrev pub MayAskAll : List Doing → Tables → List Asking → Type 0
MayAskAll past x [] = Unit {0}
MayAskAll past x (r ∷ rs) = MayAsk x.server past x.tokens.grants x.stamp r.0 r.1 r.2
    × MayAskAll (Sent r.0 x.hosts.epoch r.1 (Revoke r.2) ∷ past) (asked x r.2) rs

pub names_all : (past : List Doing) (x : Tables) (rs : List Asking) → MayAskAll past x rs → MayNameAll past x rs
names_all past x [] may = tt
names_all past x (r ∷ rs) may = (
  may.0.name,
  names_all (Sent r.0 x.hosts.epoch r.1 (Revoke r.2) ∷ past)
      (asked x r.2) rs may.1,
)

module _ (past : List Doing) (x : Tables) (s : Stands past x) (r : Asking)
    (may : MayName x.server past x.tokens.grants x.stamp r.0 r.1 r.2) where
  abbrev a : Doing
  a = Sent r.0 x.hosts.epoch r.1 (Revoke r.2)

  pub hosts_a : HostsStill past a
  hosts_a = asks_hosts x.server past x.tokens.grants (marking x.tokens.grants r.2.ids) x.stamp r.0 x.hosts.epoch r.1
      r.2 s.hosts.epoch_is may (is_marked x.tokens.grants r.2.ids) s.tokens

  pub wants_a : WantsStill past a
  wants_a = record { wants = λ w p. cc; unwants = λ w p u. unwanted w u }
    where
      unmade : (k : HostId) (q : Request) → Decides a k q → ⊥
      unmade k (Asks f) d = let p = d.3 in cc
      unmade k (Changes f) (inl d) = let p = d.1 in cc
      unmade k (Changes f) (inr d) = let p = d.3 in cc

      unwanted : (w : Wanted) → Unwants past a w → ⊥
      unwanted w (inl d) = unmade w.host w.request d
      unwanted w (inr (inl v)) = let q = v.1 in cc
      unwanted w (inr (inr (inl g))) = elim g [ inl q ↦ (let u = q.2 in cc) | inr q ↦ (let u = q.0.1 in cc) ]
      unwanted w (inr (inr (inr z))) = let q = z.1 in cc

  pub claims_a : ClaimsStill x.server past a
  claims_a = record { gives = λ h f g p. let q = p.2.0 in cc; claims = λ h n d p. let q = p.0 in cc }

  pub stands_a : Stands (a ∷ past) (asked x r.2)
  stands_a = record {
    slots = s.slots;
    hosts = hosts_still past a hosts_a s.hosts;
    tokens = tokens_asked x.server past x.tokens.grants (marking x.tokens.grants r.2.ids) x.stamp r.0 x.hosts.epoch
        r.1 r.2 s.hosts.epoch_is may (is_marked x.tokens.grants r.2.ids) s.tokens;
    stamps = stamps_asked x.server past x.tokens.grants (marking x.tokens.grants r.2.ids) x.stamp r.0 x.hosts.epoch
        r.1 r.2 s.hosts.epoch_is may (is_marked x.tokens.grants r.2.ids) s.tokens s.stamps;
    wants = wants_still past a hosts_a.calm x.server wants_a s.wants;
    queue = queue_still past a hosts_a.calm s.queue;
    gives = gives_still past a hosts_a.calm x.server claims_a s.gives;
    changes = changes_still past a hosts_a.calm (record {
      dones = λ h e n d p. cc;
      writes =
          λ w p. cc;
    }) (waits_back past a hosts_a.calm x.server wants_a) s.changes;
    recovery = recovery_still past a hosts_a.calm x.server claims_a (λ h i n. elim n [
      | inl p ↦
          (let q = p.1.2.0 in cc)
      | inr p ↦ (let q = p.1.2.0 in cc)
    ]) s.recovery;
  }

pub server_is_all : (x : Tables) (qs : List Asking) → (asked_all x qs).server ≡ x.server
server_is_all x [] = refl
server_is_all x (q ∷ qs) = server_is_all (asked x q.2) qs

-- all of them, one after the other
pub stands_asked : (past : List Doing) (x : Tables) (rs : List Asking) → Stands past x → MayNameAll past x rs
    → Stands (appended (sending (map (revoke x) rs)) past) (asked_all x rs)
stands_asked past x [] s may = s
stands_asked past x (r ∷ rs) s may = stands_asked (Sent r.0 x.hosts.epoch r.1 (Revoke r.2) ∷ past) (asked x r.2) rs
    (stands_a past x s r may.0) may.1

pub claims_asked : (past : List Doing) (x : Tables) (rs : List Asking) → Stands past x → MayNameAll past x rs
    → NoneClaims x.server past → NoneClaims x.server (appended (sending (map (revoke x) rs)) past)
claims_asked past x [] s may z = z
claims_asked past x (r ∷ rs) s may z = claims_asked (Sent r.0 x.hosts.epoch r.1 (Revoke r.2) ∷ past) (asked x r.2) rs
    (stands_a past x s r may.0) may.1
    (claims_still x.server past (Sent r.0 x.hosts.epoch r.1 (Revoke r.2)) (hosts_a past x s r may.0).calm
    (claims_a past x s r may.0) z)

pub tokens_may_all : (past : List Doing) (x : Tables) (rs : List Asking) → Stands past x → MayNameAll past x rs
    → EachInTurn (ServerTokens x.server) (sending (map (revoke x) rs)) past
tokens_may_all past x [] s may = tt
tokens_may_all past x (r ∷ rs) s may = (
  asks_may x.server past x.tokens.grants (marking x.tokens.grants r.2.ids) x.stamp r.0 x.hosts.epoch r.1 r.2
      s.hosts.epoch_is may.0 (is_marked x.tokens.grants r.2.ids) s.tokens s.stamps,
  tokens_may_all (Sent r.0 x.hosts.epoch r.1 (Revoke r.2) ∷ past) (asked x r.2) rs (stands_a past x s r may.0) may.1,
)

pub may_send_all : (tree : Tree) (step : Step) (past : List Doing) (x : Tables) (rs : List Asking) → Stands past x
    → MayAskAll past x rs
    → EachInTurn (MaySend x.server tree step) (sending (map (revoke x) rs)) past
may_send_all tree step past x [] s may = tt
may_send_all tree step past x (r ∷ rs) s may = (
  asks_so x.server past x.tokens.grants (marking x.tokens.grants r.2.ids) x.stamp r.0 x.hosts.epoch r.1 r.2
      s.hosts.epoch_is may.0.name (is_marked x.tokens.grants r.2.ids) s.tokens tree step may.0 s.stamps,
  may_send_all tree step (Sent r.0 x.hosts.epoch r.1 (Revoke r.2) ∷ past) (asked x r.2) rs
      (stands_a past x s r may.0.name) may.1,
)

pub its_ask : (r q : RevokeOf) → Revoke r ≡ Revoke q → r ≡ q
its_ask r q p = cc

pub in_revokes : (x : Tables) (rs : List Asking) (n : Message) → In n (map (revoke x) rs) → (q : Asking) × In q rs ×
    (n ≡ revoke x q)
in_revokes x [] n i = elim i [ ]
in_revokes x (r ∷ rs) n (inl e) = (r, inl refl, e)
in_revokes x (r ∷ rs) n (inr i) = let q = in_revokes x rs n i in (q.0, inr q.1, q.2)

-- the stamps rise
pub later : (past : List Doing) (x : Tables) (rs : List Asking) → MayNameAll past x rs → (q : Asking) → In q rs
    → x.stamp < q.2.stamp
later past x [] may q i = elim i [ ]
later past x (r ∷ rs) may q (inl e) = let p : q.2.stamp ≡ r.2.stamp = ap (λ (z : Asking). z.2.stamp) e in let k =
    may.0.stamp_is in omega (arith, p, k)
later past x (r ∷ rs) may q (inr i) = let k = later (Sent r.0 x.hosts.epoch r.1 (Revoke r.2) ∷ past)
    (asked x r.2) rs may.1 q i in omega (arith, k)

pub once_all : (past : List Doing) (x : Tables) (rs : List Asking) → MayNameAll past x rs → EachOnce (map (revoke x) rs)
once_all past x [] may = tt
once_all past x (r ∷ rs) may = (again, once_all (Sent r.0 x.hosts.epoch r.1 (Revoke r.2) ∷ past) (asked x r.2) rs may.1)
  where
    again : In (revoke x r) (map (revoke x) rs) → ⊥
    again i = let q = in_revokes x rs (revoke x r) i in
        let k = later (Sent r.0 x.hosts.epoch r.1 (Revoke r.2) ∷ past) (asked x r.2) rs may.1 q.0 q.1 in
        let e : r.2.stamp ≡ q.0.2.stamp = ap (λ (z : RevokeOf). z.stamp) (its_ask r.2 q.0.2
        (ap (λ (z : Message). z.body) q.2)) in
        let b = may.0.stamp_is in omega (arith, k, e, b)

-- what was asked back isn't asked back again
never_again : (past : List Doing) (x : Tables) (rs : List Asking) → MayAskAll past x rs → (i : TokenId)
    → is_revoked x.tokens.grants.notes i ≡ true → (q : Asking) → In q rs → In i q.2.ids → ⊥
never_again past x [] may i was q j k = elim j [ ]
never_again past x (r ∷ rs) may i was q (inl e) k =
    false≢true (sym (may.0.fresh i (subst (λ (z : Asking). In i z.2.ids) e k)) ∙ was)
never_again past x (r ∷ rs) may i was q (inr j) k = never_again (Sent r.0 x.hosts.epoch r.1 (Revoke r.2) ∷ past)
    (asked x r.2) rs may.1 i ((is_marked x.tokens.grants r.2.ids).stay i was) q j k

apart : (past : List Doing) (x : Tables) (rs : List Asking) → Stands past x → MayAskAll past x rs → (i : TokenId)
    (q o : Asking)
    → In q rs → In o rs → In i q.2.ids → In i o.2.ids → q.2 ≡ o.2
apart past x [] s may i q o j k a b = elim j [ ]
apart past x (r ∷ rs) s may i q o j k a b = elim j [
  | inl e ↦ elim k [
    | inl d ↦ ap (λ (z : Asking). z.2) e ∙ sym (ap (λ (z : Asking). z.2) d)
    | inr d ↦ absurd (never_again (Sent r.0 x.hosts.epoch r.1 (Revoke r.2) ∷ past) (asked x r.2) rs may.1 i (marks
        (subst (λ (z : Asking). In i z.2.ids) e a)) o d b)
  ]
  | inr e ↦ elim k [
    | inl d ↦ absurd (never_again (Sent r.0 x.hosts.epoch r.1 (Revoke r.2) ∷ past) (asked x r.2) rs may.1 i (marks
        (subst (λ (z : Asking). In i z.2.ids) d b)) q e a)
    | inr d ↦ apart (Sent r.0 x.hosts.epoch r.1 (Revoke r.2) ∷ past) (asked x r.2) rs
        (stands_a past x s r may.0.name) may.1 i q o e d a b
  ]
]
  where
    marks : In i r.2.ids → is_revoked (marking x.tokens.grants r.2.ids).notes i ≡ true
    marks m = let u = may.0.name.each i m in
        (is_marked x.tokens.grants r.2.ids).all i m (subst (λ (z : TokenId). is_some
        (note_at x.tokens.grants.notes z) ≡ true) u.2 (s.tokens.known u.0 u.1))

-- A new Fetch is queued, and all that is wanted is asked back.
module _ (past : List Doing) (x : Tables) (m : Message) (f : FetchOf) (c : IsFetched past x m f) where
  abbrev want : WantOf
  want = record { number = x.next; host = m.host; needs = f.needs }

  abbrev w : Wanted
  w = record { host = m.host; request = Asks f; moves = m.moves; needs = f.needs }

  abbrev p0 : Pending
  p0 = record { number = x.next; wanted = w }

  abbrev begun : List Doing
  begun = Took m.host m.epoch m.moves m.body ∷ past

  abbrev wanted : List Doing
  wanted = MakesWant w ∷ begun

  abbrev queued : Tables
  queued = record x {
    tokens = record x.tokens { queue = x.tokens.queue ++ want ∷ []; asked = x.tokens.asked + 1; latest = Some x.next };
    pending = x.pending ++ p0 ∷ [];
    next = x.next + 1;
  }

  stands_queued : Stands wanted queued
  stands_queued = record {
    slots = (sb past x m f c).slots;
    hosts = hosts_still begun (MakesWant w) (made_hosts begun w) (sb past x m f c).hosts;
    tokens = ts_wanted past x m f c;
    stamps = ss_wanted past x m f c;
    wants = ws_wanted past x m f c;
    queue = queue_made begun w x.server x.next x.pending (sb past x m f c).wants
        (alone_begun past x m f c) x.tokens.queue (sb past x m f c).queue (over_begun past x m f c);
    gives = gives_still begun (MakesWant w) (made_hosts begun w).calm x.server (claims_of x.server begun
        (MakesWant w) (made_answers begun w x.server)) (sb past x m f c).gives;
    changes = changes_made begun w x.server x.next x.pending (sb past x m f c).wants (alone_begun past x m f c)
        (sb past x m f c).changes (λ d is. absurd (cc)) (λ d e n o is. absurd (cc));
    recovery = recovery_still begun (MakesWant w) (made_hosts begun w).calm x.server (claims_of x.server begun
        (MakesWant w) (made_answers begun w x.server)) (made_tokens begun w x.server).names (sb past x m f c).recovery;
  }

  module _ (rs : List Asking) (may : MayAskAll wanted queued rs) where
    abbrev y : Tables
    y = asked_all queued rs

    abbrev ms : List Message
    ms = map (revoke queued) rs

    abbrev told : List Doing
    told = appended (sending ms) wanted

    abbrev step : Step
    step = asking x.server m (IsWanted w ∷ []) ms

    stands_told : Stands told y
    stands_told = stands_asked wanted queued rs stands_queued (names_all wanted queued rs may)

    server_is : (x0 : Tables) (qs : List Asking) → (asked_all x0 qs).server ≡ x0.server
    server_is x0 [] = refl
    server_is x0 (q ∷ qs) = server_is (asked x0 q.2) qs

    claims_told : NoneClaims x.server told
    claims_told = claims_asked wanted queued rs stands_queued (names_all wanted queued rs may)
        (claims_still x.server begun (MakesWant w) (made_hosts begun w).calm (claims_of x.server begun (MakesWant w)
        (made_answers begun w x.server)) (zb past x m f c).claims)

    -- nothing can be decided, and all is asked back
    module _ (calm : IsCalm y.tokens.grants y.tokens.queue) where
      settled_told : IsSettled y.server told
      settled_told = calm_means told y stands_told calm (subst (λ (v : ServerId). NoneClaims v told)
          (sym (server_is queued rs)) claims_told)

      kept_still : IsStill y.server y.stamp told (Reserves [])
      kept_still = idle y.server y.stamp told (Reserves []) reserves_nothing (no_words told)

      pub stands_waits : Stands (after_step step past) y
      stands_waits = still told (Reserves []) y kept_still stands_told

      pub settled_waits : IsSettled x.server (after_step step past)
      settled_waits = subst (λ (v : ServerId). IsSettled v (Reserves [] ∷ told)) (server_is queued rs)
          (still_settled told (Reserves []) y stands_told kept_still settled_told)

      tells_all : (qs : List Asking) (n : Message) → In n (map (revoke queued) qs) → IsTelling n.body
      tells_all [] n i = elim i [ ]
      tells_all (q ∷ qs) n (inl e) = subst (λ (z : Message). IsTelling z.body) (sym e) tt
      tells_all (q ∷ qs) n (inr i) = tells_all qs n i

      is_fetch : (h : HostId) (n : ℕ) (b : Body) → TakenNow past step h n b → (m.host ≡ h) × (m.moves ≡ n) × (Fetch f
          ≡ b)
      is_fetch h n b t = let e = the_cause m t.0.0 t.0.1 in (
        ap (λ (z : Message). z.host) e ∙ t.0.2,
        ap (λ (z : Message). z.moves) e ∙ t.0.4,
        sym c.body ∙ (ap (λ (z : Message). z.body) e ∙ t.0.5),
      )

      its_request : (q : Request) → Fetch f ≡ body_of q → Asks f ≡ q
      its_request (Changes d) e = absurd (cc)
      its_request (Asks d) e = let p : f ≡ d = cc in ap (λ (z : FetchOf). Asks z) p

      no_change : (u : Wanted) (d : ChangeOf) → IsQueued wanted u → u.request ≡ Changes d → IsQueued begun u
      no_change u d waits is = elim (made_waits begun w u waits) [
        | inl e ↦ absurd (let q : Asks f ≡ Changes d =
            ap (λ (z : Wanted). z.request) (sym e) ∙ is in cc)
        | inr k ↦ k
      ]

      revokes_apart : (h : HostId) (r q : RevokeOf) (i : TokenId) → SentNow step h (Revoke r) → SentNow step h
          (Revoke q) → In i r.ids → In i q.ids → r ≡ q
      revokes_apart h r q i one two a b =
          let j = in_revokes queued rs one.0 one.1 in
          let k = in_revokes queued rs two.0 two.1 in
          let d = its_ask j.0.2 r (ap (λ (z : Message). z.body) (sym j.2) ∙ one.3) in
          let e = its_ask k.0.2 q (ap (λ (z : Message). z.body) (sym k.2) ∙ two.3) in
          sym d ∙ apart wanted queued rs stands_queued may i j.0 k.0 j.1 k.1 (subst (λ (z : RevokeOf). In i z.ids)
          (sym d) a) (subst (λ (z : RevokeOf). In i z.ids) (sym e) b) ∙ e

      no_done : (n : Message) → In n ms → (o : DoneOf) → n.body ≡ Done o → ⊥
      no_done n i o p = let j = in_revokes queued rs n i in let q : Revoke j.0.2 ≡ Done o =
          ap (λ (z : Message). z.body) (sym j.2) ∙ p in cc

      pub meets_waits : (script : Script) (start : Tree) (steps : List Step)
          → ServerMeets script start x.server steps past step
      meets_waits script start steps = record {
        may = record {
          tokens = record {
            writes = (makes_may x.server begun w, tt);
            admits = tt;
            sends =
                tokens_may_all wanted queued rs stands_queued (names_all wanted queued rs may);
            reserves =
                reserves_may x.server told;
          };
          no_host = no_host_may (step) m refl (refl, refl, refl, refl, refl, refl, refl);
          answers = only_asked past x m c.stands c.asked c.settled (IsWanted w ∷ []) ms (tells_all rs);
          works = record {
            applies = record {
              given = λ h d k. absurd (not_given past x m c.stands c.asked c.settled (IsWanted w ∷ []) ms
                  (tells_all rs) h d k);
              down = λ h k. absurd (not_down past x m c.stands c.asked c.settled (IsWanted w ∷ []) ms
                  (tells_all rs) h k);
              else_none = λ a b. refl;
              decided = refl;
              reserves = λ t i. elim i [ ];
            };
            decides = ((refl, inl (new_request past x m f c step refl)), tt);
            sends = may_send_all (filesets_kept start x.server steps) step wanted queued rs stands_queued may;
          };
        };
        due = record {
          lines = lines_may (lines_of script (Server x.server)) steps (step) m refl;
          answers = answers_asked past x m c.stands c.asked c.settled (IsWanted w ∷ []) ms (tells_all rs);
          decided = record {
            news = λ h n q k. let t = is_fetch h n (body_of q) k.taken in (w, inl refl, t.0, its_request q t.2);
            refused = λ u d refusal waits is so k. elim k [
              | inl q ↦ others_rest past x m f c u
                  (no_change u d waits is) q
              | inr q ↦ (let t = is_fetch u.host u.moves
                  (body_of u.request) q.1.taken in let e : Asks f ≡ Changes d = its_request u.request t.2 ∙ is in cc)
            ];
            effects = λ u d waits is effect accepted q. others_rest past x m f c u (no_change u d waits is) q;
            pinned = λ u d waits is row accepted q. others_rest past x m f c u (no_change u d waits is) (inr q);
          };
          sent = record {
            once = once_all wanted queued rs (names_all wanted queued rs may);
            revokes_once = revokes_apart;
            dones_only = λ h o told. absurd (no_done told.0 told.1 o told.3);
            written = λ v i. elim i [ inl p ↦ absurd (cc) | inr p ↦ elim p [ ] ];
            repeats = λ h n d o k. absurd (let t = is_fetch h n (Change d) k in let p = t.2 in cc);
            grants = λ u d waits is k. settled_waits.rested u waits (inl k);
            uses = λ u d waits is uses accepted k. settled_waits.rested u waits (inl k);
            others = λ u d waits is uses accepted row q. settled_waits.rested u waits q;
            enters = λ u d waits is enter accepted k. settled_waits.rested u waits (inl k);
            revokes = settled_waits.asked;
            revokes_again = λ t p. absurd (cc);
          };
        };
      }

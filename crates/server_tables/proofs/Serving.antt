-- A Fetch that waits is granted, after any doings: its tokens go with what they show; where the object isn't there it
-- is told so.
use Rattle.std.proofs.Common.{List, [], ap, arith, inl, inr, map, not, refl, subst, sym, true, ℕ}
use Rattle.std.proofs.Common.{◌+◌, ◌==◌, ◌∙◌, ◌∷◌, ◌≡◌, ◌≤◌, ◌⊎◌}
use Rattle.std.proofs.lemmas.Bool.{and_from}
use Rattle.base_types.specs.declared.ids.Fid.{Fid}
use Rattle.base_types.specs.declared.ids.HostId.{HostId}
use Rattle.tree_answers.specs.declared.tree.Tree.{Tree}
use Rattle.token_manager.specs.Grants.{with_grant}
use Rattle.token_manager.specs.declared.want.Want.{Want as WantOf}
use Rattle.token_table.specs.Tables.{next_tokens}
use Rattle.token_types.specs.Conflicts.{any_conflict, blocks, conflict, need_of, needs_conflict}
use Rattle.token_types.specs.declared.token.Need.{Need}
use Rattle.token_types.specs.declared.token.Token.{Token}
use Rattle.token_types.specs.declared.token.TokenId.{TokenId}
use Rattle.token_types.proofs.Symmetric.{conflict_both}
use Rattle.message_types.specs.declared.asking.Fetch.{Fetch as FetchOf}
use Rattle.message_types.specs.declared.message.Body.TheVariants.{Fetch, Grant}
use Rattle.message_types.specs.declared.telling.Bring.{Bring}
use Rattle.message_types.specs.declared.telling.Grant.{Grant as GrantOf}
use Rattle.run_rules.specs.Doings.{BringsTokens, Doing, Here, IsLive, TookNow, UsesStamp}
use Rattle.run_rules.specs.Doings.{GivesUp}
use Rattle.run_rules.specs.Doings.Doing.{Sent}
use Rattle.run_rules.specs.Past.{In}
use Rattle.run_rules.specs.ServerMay.{AreNeeds, GrantsSo, IsEmptyGrant, IsThere, MaySend, TellsKept}
use Rattle.run_rules.specs.ServerTokens.{AskedFetch, MayBring, ServerTokens}
use Rattle.run_rules.specs.Wants.{CanGrant, CannotBothWait, Decides, IsQueued}
use Rattle.run_rules.specs.declared.applied.Request.{Request}
use Rattle.run_rules.specs.declared.applied.Request.TheVariants.{Change as Changes, Fetch as Asks}
use Rattle.run_rules.specs.declared.applied.Wanted.{Wanted}
use Rattle.run_rules.specs.declared.step.Step.{Step}
use Rattle.server_tables.specs.declared.pending.Pending.{Pending}
use Rattle.server_tables.specs.declared.tables.Tables.{Tables}
use Rattle.server_tables.specs.Standing.{StampsStand, Stands, want_for}
use Rattle.server_tables.proofs.Fetching.{their_needs}
use Rattle.server_tables.proofs.Granting.{IsFor, are_for, one_number, stamps_sent, tokens_sent}
use Rattle.server_tables.proofs.Queueing.{told_answers, told_back, told_hosts, wants_left}
use Rattle.server_tables.proofs.Settling.{both, in_any}
use Rattle.server_tables.proofs.Still.{AnswersStill, HostsStill, TokensStill, changes_still, claims_of, dones_of}
use Rattle.server_tables.proofs.Still.{gives_still}
use Rattle.server_tables.proofs.Still.{hosts_still, over_still, recovery_still, stamps_still, tokens_still}

-- a Fetch of a host waits under a number, and can be granted
pub record IsServed (past : List Doing) (x : Tables) (p : Pending) (h : HostId) (n : ℕ) (f : FetchOf) : Type 0 where
  pub stands : Stands past x
  pub waits : In p x.pending
  pub is : p.wanted ≡ record { host = h; request = Asks f; moves = n; needs = f.needs }
  pub can : CanGrant x.server past p.wanted
  pub of_file : (need : Need) → In need f.needs → need.fid ≡ f.fid

-- the wants that wait but for one
pub record IsLess (ps qs : List Pending) (w : Wanted) : Type 0 where
  pub of : (p : Pending) → In p qs → In p ps × (p.wanted ≡ w → ⊥)
  pub all : (p : Pending) → In p ps → (p.wanted ≡ w → ⊥) → In p qs

module _ (past : List Doing) (x : Tables) (p : Pending) (h : HostId) (n : ℕ) (f : FetchOf)
    (c : IsServed past x p h n f) where
  abbrev w : Wanted
  w = record { host = h; request = Asks f; moves = n; needs = f.needs }

  abbrev want : WantOf
  want = record { number = p.number; host = h; needs = f.needs }

  waits_w : IsQueued past w
  waits_w = subst (IsQueued past) c.is (c.stands.wants.pending p c.waits)

  can_w : CanGrant x.server past w
  can_w = subst (CanGrant x.server past) c.is c.can

  live_w : IsLive past h
  live_w = c.stands.wants.live w waits_w

  took_w : TookNow past h n (Fetch f)
  took_w = c.stands.wants.took w waits_w

  here_w : Here x.server past f.fid.fileset n
  here_w = c.stands.wants.here w waits_w

  -- the Grant of its number
  module _ (g : GrantOf) (number_is : g.bring.number ≡ f.number) (fid_is : g.bring.fid ≡ f.fid)
      (stamp_is : g.bring.stamp ≡ x.stamp + 1) where
    abbrev pub sent : Doing
    sent = Sent h x.hosts.epoch n (Grant g)

    its_grant : (k : HostId) (e m : ℕ) (d : GrantOf) → sent ≡ Sent k e m (Grant d) → g ≡ d
    its_grant k e m d q = cc

    one_bring : (k : HostId) (e m : ℕ) (d : Bring) → BringsTokens sent k e m d → d ≡ g.bring
    one_bring k e m d (inl q) = sym q.2 ∙ ap (λ (o : GrantOf). o.bring) (sym (its_grant k e m q.0 q.1))
    one_bring k e m d (inr q) = absurd (let r = q.1 in cc)

    does : Decides sent h (Asks f)
    does = (x.hosts.epoch, n, g, refl, ap (λ (i : Fid). i.fileset) fid_is, number_is)

    decides_it : (k : HostId) (r : Request) → Decides sent k r → (k ≡ h) × CannotBothWait (Asks f) r
    decides_it k (Asks d) o =
        let e = its_grant k o.0 o.1 o.2 o.3 in (
          (let q = o.3 in cc),
          (
            sym (ap (λ (i : Fid). i.fileset) fid_is)
                ∙ (ap (λ (i : GrantOf). i.bring.fid.fileset) e ∙ o.4),
            sym number_is ∙ (ap (λ (i : GrantOf). i.bring.number) e ∙ o.5),
          ),
        )
    decides_it k (Changes d) (inl o) = absurd (let q = o.1 in cc)
    decides_it k (Changes d) (inr o) = absurd (let q = o.3 in cc)

    hosts_told : HostsStill past sent
    hosts_told = told_hosts past x.server x.next x.pending c.stands.wants w waits_w x.hosts.epoch n (Grant g)
        c.stands.hosts.epoch_is does decides_it

    answers_told : AnswersStill x.server past sent
    answers_told = told_answers past x.server x.next x.pending c.stands.wants w waits_w x.hosts.epoch n (Grant g)
        c.stands.hosts.epoch_is does decides_it (λ d q. cc)

    names_none : (k : HostId) (i : TokenId) → GivesUp x.server past sent k i → ⊥
    names_none k i o = elim o [ inl q ↦ (let r = q.1.2.0 in cc) | inr q ↦ (let r = q.1.2.0 in cc) ]

    -- the rules for any such Grant
    words_of : MayBring x.server past h n g.bring → ServerTokens x.server past sent
    words_of may = record {
      epochs = λ k e m b q. (let r : x.hosts.epoch ≡ e = cc in sym r) ∙ c.stands.hosts.epoch_is;
      grants = λ k e m d q.
          (let r = its_grant k e m d q in let i : h ≡ k = cc in let j : n ≡ m = cc in
          subst (λ (o : HostId × ℕ × GrantOf). MayBring x.server past o.0 o.1 o.2.bring × AskedFetch past o.0 o.1 o.2)
          (λ l. (i l, j l, r l)) (may, (f, took_w, sym number_is, sym fid_is)));
      dones = λ k e m d q. absurd (cc);
      revokes = λ k e m r i q. absurd (cc);
      revokes_here = λ k e m r q. absurd (cc);
      stamps = λ k e m o r q. absurd (cc);
      gones = λ k e m o q. absurd (cc);
      reclaimed = λ k e m r o q. absurd (cc);
      left_out = λ k e m r i q. absurd (cc);
      admits = λ k ts q. absurd (cc);
      writes = λ v q. absurd (cc);
      writes_once = λ v q. absurd (cc);
      reserves = λ ts t u q. absurd (cc);
    }

    may_send : (tree : Tree) (s : Step)
        → (IsThere tree g × AreNeeds f.needs g.bring.tokens) ⊎ ((IsThere tree g → ⊥) × IsEmptyGrant g)
        → TellsKept tree g → MaySend x.server tree s past sent
    may_send tree s brings tells = record {
      grant_for = λ k e m d q.
          (let r = its_grant k e m d q in let i : h ≡ k = cc in let j : n ≡ m = cc in
          subst (λ (o : HostId × ℕ × GrantOf). GrantsSo x.server tree past o.0 o.1 o.2) (λ l. (i l, j l, r l)) so);
      done_for = λ k e m d q. absurd (cc);
      revoke_for = λ k e m r i q. absurd (cc);
    }
      where
        so : GrantsSo x.server tree past h n g
        so = record {
          w = w;
          waits = waits_w;
          fetch = f;
          request = refl;
          host = refl;
          moves = refl;
          number = number_is;
          fid = fid_is;
          free = can_w;
          brings = brings;
          tells = tells;
        }

    -- `qs` are the wants without it, and `left` is the manager's queue
    module _ (qs : List Pending) (less : IsLess x.pending qs w) (left : List WantOf) (queue_is : left ≡ map want_for qs)
      where
        abbrev new : List Token
        new = next_tokens x.tokens.grants.table h f.needs

        made_for : (t : Token) → In t new
            → IsFor x.tokens.grants.table.server x.tokens.grants.table.epoch x.tokens.grants.table.last h f.needs t
        made_for t i = are_for x.tokens.grants.table.server x.tokens.grants.table.epoch x.tokens.grants.table.last h
            f.needs t i

        -- # The object is there, and the tokens go

        module _ (tokens_are : g.bring.tokens ≡ new) where
          pub are_needs : AreNeeds f.needs g.bring.tokens
          are_needs = subst (AreNeeds f.needs) (sym tokens_are)
              (their_needs x.tokens.grants.table.server x.tokens.grants.table.epoch x.tokens.grants.table.last h
              f.needs)

          its : (t : Token) → In t g.bring.tokens → In t new
          its t = subst (In t) tokens_are

          may_bring : MayBring x.server past h n g.bring
          may_bring = record {
            over = can_w.over;
            live = live_w;
            home = subst (λ (i : Fid). Here x.server past i.fileset n) (sym fid_is) here_w;
            stamp = (
              omega (arith, stamp_is),
              λ o t.
                  (let l = c.stands.stamps.told g.bring.fid o t in omega (arith, l, stamp_is)),
            );
            host_is = λ t i. (made_for t (its t i)).host_is;
            file = λ t i. c.of_file (need_of t) (made_for t (its t i)).need ∙ sym fid_is;
            id = λ t i. (made_for t (its t i)).server_is ∙ c.stands.tokens.server_is;
            now = λ t i. (made_for t (its t i)).now_is ∙ c.stands.tokens.epoch_is;
            new = λ t u k i j e.
                (let a = c.stands.tokens.issued u k j e in let b = (made_for t (its t i)).above in omega (arith, a, b));
            apart = λ t u i j.
                one_number x.tokens.grants.table.server x.tokens.grants.table.epoch x.tokens.grants.table.last h f.needs
                t u (its t i) (its u j);
            free = λ t u i o k. can_w.free u o (in_way t u (its t i) k);
          }
            where
              in_way : (t u : Token) → In t new → conflict t u ≡ true → blocks h f.needs u ≡ true
              in_way t u i k =
                  let d = both (not (u.host.0 == t.host.0)) (needs_conflict (need_of u) (need_of t))
                  (conflict_both u t ∙ k) in
                  and_from (not (u.host.0 == h.0)) (any_conflict (need_of u) f.needs)
                  (subst (λ (o : HostId). not (u.host.0 == o.0) ≡ true) (made_for t i).host_is d.0)
                  (in_any (λ other. needs_conflict (need_of u) other) (need_of t) f.needs (made_for t i).need d.1)

          pub grant_tokens : ServerTokens x.server past sent
          grant_tokens = words_of may_bring

          pub grant_may : (tree : Tree) (s : Step) → IsThere tree g → TellsKept tree g
              → MaySend x.server tree s past sent
          grant_may tree s there tells = may_send tree s (inl (there, are_needs)) tells

          pub grant_stands : Stands (sent ∷ past) (record x {
            tokens = record x.tokens { grants = with_grant x.tokens.grants want; queue = left };
            stamp = x.stamp + 1;
            pending = qs;
          })
          grant_stands = record {
            slots = c.stands.slots;
            hosts = hosts_still past sent hosts_told c.stands.hosts;
            tokens = tokens_sent past x.server x.tokens.grants want x.hosts.epoch n (Grant g) g.bring tokens_are
                (inl (g, refl, refl)) one_bring (λ r q. cc) c.stands.tokens live_w;
            stamps = stamps_sent past x.server x.tokens.grants want x.hosts.epoch n (Grant g) g.bring tokens_are
                (inl (g, refl, refl)) one_bring (λ r q. cc) c.stands.tokens live_w
                x.stamp (x.stamp + 1) (omega (arith, stamp_is)) (omega arith) c.stands.stamps;
            wants = wants_left past x.server x.next x.pending c.stands.wants w waits_w x.hosts.epoch n (Grant g)
                c.stands.hosts.epoch_is does decides_it qs less.of less.all;
            queue = record {
              calm = λ o. queue_is;
              grace = λ o. absurd (o (over_still past sent hosts_told.calm can_w.over));
            };
            gives = gives_still past sent hosts_told.calm x.server (claims_of x.server past sent answers_told)
                c.stands.gives;
            changes = changes_still past sent hosts_told.calm (dones_of x.server past sent answers_told)
                (told_back past x.server x.next x.pending c.stands.wants w waits_w x.hosts.epoch n (Grant g)
                c.stands.hosts.epoch_is does decides_it) c.stands.changes;
            recovery = recovery_still past sent hosts_told.calm x.server (claims_of x.server past sent answers_told)
                names_none c.stands.recovery;
          }

        -- # It isn't there, and no token goes

        module _ (empty : IsEmptyGrant g) where
          no_token : (t : Token) → In t g.bring.tokens → ⊥
          no_token t i = let none : In t [] = subst (In t) empty.tokens i in none

          none_bring : MayBring x.server past h n g.bring
          none_bring = record {
            over = can_w.over;
            live = live_w;
            home = subst (λ (i : Fid). Here x.server past i.fileset n) (sym fid_is) here_w;
            stamp = (
              omega (arith, stamp_is),
              λ o t.
                  (let l = c.stands.stamps.told g.bring.fid o t in omega (arith, l, stamp_is)),
            );
            host_is = λ t i. absurd (no_token t i);
            file = λ t i. absurd (no_token t i);
            id = λ t i. absurd (no_token t i);
            now = λ t i. absurd (no_token t i);
            new = λ t u k i j e. absurd (no_token t i);
            apart = λ t u i j e. absurd (no_token t i);
            free = λ t u i o k. absurd (no_token t i);
          }

          pub none_tokens : ServerTokens x.server past sent
          none_tokens = words_of none_bring

          pub none_may : (tree : Tree) (s : Step) → (IsThere tree g → ⊥) → MaySend x.server tree s past sent
          none_may tree s gone = may_send tree s (inr (gone, empty)) (λ t part i shown. absurd (no_token t i))

          still_tokens : TokensStill x.server past sent
          still_tokens = record {
            names = names_none;
            kept = λ k o i q. let r = q.2.0 in cc;
            issues = λ t k i.
                no_token t (subst (In t) (ap (λ (o : Bring). o.tokens) (one_bring i.0 i.1 k.moves i.2 i.3)) i.4);
            reserves = λ t ts q i. absurd (cc);
            revokes = λ k e m r q. cc;
          }

          told_stamp : (i : Fid) (o : ℕ) → UsesStamp sent i o → o ≤ x.stamp + 1
          told_stamp i o (inl (k, e, m, b, q, r, t)) =
              let same : b.stamp ≡ g.bring.stamp = ap (λ (d : Bring). d.stamp) (one_bring k e m b q) in
              omega (arith, same, t, stamp_is)
          told_stamp i o (inr r) = absurd (let q = r.4 in cc)

          pub none_stands : Stands (sent ∷ past) (record x {
            tokens = record x.tokens { queue = left };
            stamp = x.stamp + 1;
            pending = qs;
          })
          none_stands = record {
            slots = c.stands.slots;
            hosts = hosts_still past sent hosts_told c.stands.hosts;
            tokens = tokens_still past sent hosts_told.calm x.server still_tokens c.stands.tokens;
            stamps = stamps_still past sent hosts_told.calm x.server still_tokens told_stamp more;
            wants = wants_left past x.server x.next x.pending c.stands.wants w waits_w x.hosts.epoch n (Grant g)
                c.stands.hosts.epoch_is does decides_it qs less.of less.all;
            queue = record {
              calm = λ o. queue_is;
              grace = λ o. absurd (o (over_still past sent hosts_told.calm can_w.over));
            };
            gives = gives_still past sent hosts_told.calm x.server (claims_of x.server past sent answers_told)
                c.stands.gives;
            changes = changes_still past sent hosts_told.calm (dones_of x.server past sent answers_told)
                (told_back past x.server x.next x.pending c.stands.wants w waits_w x.hosts.epoch n (Grant g)
                c.stands.hosts.epoch_is does decides_it) c.stands.changes;
            recovery = recovery_still past sent hosts_told.calm x.server (claims_of x.server past sent answers_told)
                names_none c.stands.recovery;
          }
            where
              more : StampsStand past x.tokens.grants (x.stamp + 1)
              more = record {
                told = λ i o u. (let l = c.stands.stamps.told i o u in omega (arith, l));
                revoked = c.stands.stamps.revoked;
                revoked_all = c.stands.stamps.revoked_all;
                revoked_old = c.stands.stamps.revoked_old;
                revoked_live = c.stands.stamps.revoked_live;
              }

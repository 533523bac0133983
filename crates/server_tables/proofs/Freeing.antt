-- All tables of a server once a message by which tokens leave a host is taken: its Returned, or its give-back.
use Rattle.std.proofs.Common.{◌≡◌, ◌≢◌, ◌⊎◌, ◌≤◌, ◌<◌, ℕ, ◌==◌, Bool, true, false, ◌&&◌, not, if◌then◌else◌, Option}
use Rattle.std.proofs.Common.{Some, None}
use Rattle.std.proofs.Common.{List, [], ◌∷◌, ◌++◌, inl, inr, refl, sym, ◌∙◌, ap, subst, eq-eqb, eqb-true, arith}
use Rattle.std.specs.Prelude.{nat_lt}
use Rattle.std.specs.List.{filter, find}
use Rattle.std.specs.Option.{option_map_or}
use Rattle.std.proofs.lemmas.Bool.{and_from, and_parts, cases_Bool, false≢true}
use Rattle.std.proofs.lemmas.Bool.Decides.{nat_tests}
use Rattle.base_types.specs.declared.ids.FilesetId.{FilesetId}
use Rattle.base_types.specs.declared.ids.HostId.{HostId}
use Rattle.base_types.specs.declared.ids.ServerId.{ServerId}
use Rattle.message_types.specs.declared.giving.AppliedGive.{AppliedGive}
use Rattle.message_types.specs.declared.giving.Give.{Give}
use Rattle.message_types.specs.declared.giving.Reclaim.{Reclaim as ReclaimOf}
use Rattle.message_types.specs.declared.message.Body.{Body}
use Rattle.message_types.specs.declared.message.Body.TheVariants.{Bye, Down, GiveBack, Hello, Kept, Reclaim, Returned}
use Rattle.message_types.specs.declared.tokens.Named.{Named}
use Rattle.token_manager.specs.Managers.{Manager}
use Rattle.token_manager.specs.declared.grants.Grants.{Grants}
use Rattle.token_manager.specs.declared.want.Want.{Want as WantOf}
use Rattle.token_types.specs.Conflicts.{same_id}
use Rattle.token_types.specs.declared.token.TokenId.{TokenId}
use Rattle.run_rules.specs.Doings.{Doing, GivesUp, HasReclaimed, Here, IsApplied, IsLive, TakesOf, TookNow, epoch}
use Rattle.run_rules.specs.Doings.Doing.{Took}
use Rattle.run_rules.specs.Past.{In}
use Rattle.run_rules.specs.Tokens.{number_of}
use Rattle.server_tables.specs.declared.recovering.GaveUp.{GaveUp}
use Rattle.server_tables.specs.declared.recovering.Recovering.{Recovering}
use Rattle.server_tables.specs.declared.tables.LastGive.{LastGive}
use Rattle.server_tables.specs.declared.tables.Tables.{Tables}
use Rattle.server_tables.specs.Claims.{one_up, taking_one, ups_of}
use Rattle.server_tables.specs.Gives.{AreLast, given, is_for_give, last_give}
use Rattle.server_tables.specs.Judging.{gave_up, has_taken}
use Rattle.server_tables.specs.Listing.{has_host}
use Rattle.server_tables.specs.Standing.{GivesStand, QueueStands, RecoveryStands, StampsStand, Stands, TokensStand}
use Rattle.server_tables.proofs.Answering.{same_fileset}
use Rattle.server_tables.proofs.Fetching.{same_host}
use Rattle.server_tables.proofs.Giving.{IsWithout, stamps_up, tokens_up, up_hosts, up_wants}
use Rattle.server_tables.proofs.Granting.{id_is}
use Rattle.server_tables.proofs.Greeting.{in_end, in_front, in_parts}
use Rattle.server_tables.proofs.Judged.{found_first, none_found}
use Rattle.server_tables.proofs.Listed.{has_in}
use Rattle.server_tables.proofs.Queueing.{one_is}
use Rattle.server_tables.proofs.Settling.{any_in}
use Rattle.server_tables.proofs.Still.{HostsStill, WantsStill, changes_still, gives_still, hosts_still, live_was}
use Rattle.server_tables.proofs.Still.{queue_still, took_listed}
use Rattle.server_tables.proofs.Still.{waits_back, wants_still}
use Rattle.server_tables.proofs.Without.{in_filter, to_filter}

-- # What is noted of what a host gave up

in_one_up : (ups : List GaveUp) (h : HostId) (i : TokenId) (u : GaveUp) → In u (one_up ups h i)
    → In u ups ⊎ (u ≡ record { host = h; id = i })
unfolding one_up
in_one_up ups h i u m = go (gave_up ups h i) m
  where
    go : (b : Bool) → In u (if b then ups else ups ++ record { host = h; id = i } ∷ []) → In u ups ⊎ (u
        ≡ record { host = h; id = i })
    go true k = inl k
    go false k = elim (in_parts u ups (record { host = h; id = i } ∷ []) k) [
      | inl p ↦ inl p
      | inr p ↦ inr (one_is u (record { host = h; id = i }) p)
    ]

one_stays : (ups : List GaveUp) (h : HostId) (i : TokenId) (u : GaveUp) → In u ups → In u (one_up ups h i)
unfolding one_up
one_stays ups h i u m = go (gave_up ups h i)
  where
    go : (b : Bool) → In u (if b then ups else ups ++ record { host = h; id = i } ∷ [])
    go true = m
    go false = in_front u ups (record { host = h; id = i } ∷ []) m

one_there : (ups : List GaveUp) (h : HostId) (i : TokenId) → In (record { host = h; id = i }) (one_up ups h i)
unfolding one_up
one_there ups h i = go (gave_up ups h i) refl
  where
    go : (b : Bool) → gave_up ups h i ≡ b → In (record { host = h; id = i })
        (if b then ups else ups ++ record { host = h; id = i } ∷ [])
    go true e =
        let l = any_in (λ (gave : GaveUp). (gave.host.0 == h.0) && same_id gave.id i) ups e in
        let a = and_parts (l.0.host.0 == h.0) (same_id l.0.id i) l.2 in
        let p = same_host l.0.host h a.0 in let q = id_is l.0.id i a.1 in
        let r : l.0 ≡ record { host = h; id = i } = (λ j. record { host = p j; id = q j }) in
        subst (λ (u : GaveUp). In u ups) r l.1
    go false e = in_end (record { host = h; id = i }) ups

-- those of a host with these are noted beside the others
pub record AreUps (h : HostId) (ids : List TokenId) (old new : List GaveUp) : Type 0 where
  pub of : (u : GaveUp) → In u new → In u old ⊎ ((u.host ≡ h) × In u.id ids)
  pub stay : (u : GaveUp) → In u old → In u new
  pub all : (i : TokenId) → In i ids → In (record { host = h; id = i }) new

pub are_ups : (ups : List GaveUp) (h : HostId) (ids : List TokenId) → AreUps h ids ups (ups_of ups h ids)
are_ups ups h [] = record { of = λ u m. inl m; stay = λ u m. m; all = λ i m. elim m [ ] }
are_ups ups h (i ∷ ids) =
    let r = are_ups (one_up ups h i) h ids in
    record {
      of = λ u m. elim (r.of u m) [
        | inl p ↦ elim (in_one_up ups h i u p) [
          | inl q ↦ inl q
          | inr q ↦ inr (ap (λ (v : GaveUp). v.host) q, inl (ap (λ (v : GaveUp). v.id) q))
        ]
        | inr p ↦ inr (p.0, inr p.1)
      ];
      stay = λ u m. r.stay u (one_stays ups h i u m);
      all = λ k m. elim m [
        | inl e ↦ subst (λ (z : TokenId). In (record { host = h; id = z }) (ups_of (one_up ups h i) h ids)) (sym e)
            (r.stay (record { host = h; id = i }) (one_there ups h i))
        | inr q ↦ r.all k q
      ];
    }

pub record AreTaken (h : HostId) (n : AppliedGive) (old new : List LastGive) : Type 0 where
  pub of : (l : LastGive) → In l new → In l old ⊎ (l ≡ record { host = h; give = n })
  pub stay : (l : LastGive) → In l old → In l new
  pub has : In (record { host = h; give = n }) new

pub are_taken : (takens : List LastGive) (h : HostId) (n : AppliedGive) → AreTaken h n takens (taking_one takens h n)
unfolding taking_one
are_taken takens h n = go (has_taken takens h n.fileset n.number) refl
  where
    go : (b : Bool) → has_taken takens h n.fileset n.number ≡ b
        → AreTaken h n takens (if b then takens else takens ++ record { host = h; give = n } ∷ [])
    go true e = record {
      of = λ l m. inl m;
      stay = λ l m. m;
      has =
          let l = any_in (λ (taken : LastGive). (taken.host.0 == h.0) && ((taken.give.fileset.0 == n.fileset.0) &&
          (taken.give.number == n.number))) takens e in
          let a = and_parts (l.0.host.0 == h.0) ((l.0.give.fileset.0 == n.fileset.0) &&
          (l.0.give.number == n.number)) l.2 in
          let b = and_parts (l.0.give.fileset.0 == n.fileset.0) (l.0.give.number == n.number) a.1 in
          let p = same_host l.0.host h a.0 in let q = same_fileset l.0.give.fileset n.fileset b.0 in
          let r = eqb-true l.0.give.number n.number b.1 in
          let s : l.0 ≡ record { host = h; give = n } = (λ j. record {
            host = p j;
            give = record {
              fileset = q j;
              number = r j;
            };
          }) in
          subst (λ (z : LastGive). In z takens) s l.1;
    }
    go false e = record {
      of = λ l m. elim (in_parts l takens (record { host = h; give = n } ∷ []) m) [
        | inl p ↦ inl p
        | inr p ↦ inr (one_is l (record { host = h; give = n }) p)
      ];
      stay = λ l m. in_front l takens (record { host = h; give = n } ∷ []) m;
      has = in_end (record { host = h; give = n }) takens;
    }

-- # All tables

-- `b` names these tokens of the host, in a stay that is here. Its claims are judged by what is noted of it.
module _ (past : List Doing) (x : Tables) (s : Stands past x) (h : HostId) (n : ℕ) (b : Body) (ids : List TokenId)
    (live : IsLive past h) (quiet : (b ≢ Hello) × (b ≢ Down) × (b ≢ Bye)) (not_kept : (k : Named) → b ≡ Kept k → ⊥)
    (no_claim : (c : ReclaimOf) → b ≡ Reclaim c → ⊥)
    (names : (k : HostId) (i : TokenId) → GivesUp x.server past (Took h (epoch past) n b) k i → (k ≡ h) × In i ids)
    (names_all : (i : TokenId) → In i ids → GivesUp x.server past (Took h (epoch past) n b) h i)
    (left : Grants) (w : IsWithout x.tokens.grants left h ids) (gives takens : List LastGive) (ups : List GaveUp) where
  abbrev a : Doing
  a = Took h (epoch past) n b

  abbrev after : List Doing
  after = a ∷ past

  hosts : HostsStill past a
  hosts = up_hosts past x.server h n b ids live quiet not_kept names names_all

  wants : WantsStill past a
  wants = up_wants past x.server h n b ids live quiet not_kept names names_all

  record IsNoted : Type 0 where
    gives_stand : GivesStand after x.server gives
    taken_all : (k : HostId) (g : Give) → TakesOf x.server past a k g.fid.fileset (GiveBack g)
        → (HasReclaimed past k → ⊥)
        → In (record { host = k; give = number_of g }) takens
    taken_of : (l : LastGive) → In l takens → In l x.recovering.taken
        ⊎ ((g : Give) × TakesOf x.server past a l.host g.fid.fileset (GiveBack g) × (number_of g ≡ l.give))
    taken_stay : (l : LastGive) → In l x.recovering.taken → In l takens
    up_all : (HasReclaimed past h → ⊥) → (i : TokenId) → In i ids → In (record { host = h; id = i }) ups
    up_of : (u : GaveUp) → In u ups → In u x.recovering.given_up ⊎ ((u.host ≡ h) × In u.id ids)
    up_stay : (u : GaveUp) → In u x.recovering.given_up → In u ups

  recovery_freed : IsNoted → RecoveryStands after x.server x.recovering.claims takens ups
  recovery_freed c = record {
    claim = λ k m d took never alive.
        let was : TookNow past k m (Reclaim d) = elim took [
          | inl p ↦ absurd (no_claim d (its_body k (epoch past) m
              (Reclaim d) p.0))
          | inr p ↦ p.0
        ] in
        s.recovery.claim k m d was (λ r. never (inr (r, hosts.calm.begin)))
        (live_was past a hosts.calm k (took_listed past k m (Reclaim d) was) alive);
    claimed = λ l m. let p = s.recovery.claimed l m in (p.0, inr (p.1, hosts.calm.begin));
    taken = λ k g took never here. elim took [
      | inl p ↦ c.taken_all k g p (λ r. never (inr (r, hosts.calm.begin)))
      | inr p ↦ c.taken_stay (record { host = k; give = number_of g })
          (s.recovery.taken k g p.0 (λ r. never (inr (r, hosts.calm.begin))) (λ o. here (inr o)))
    ];
    taken_only = λ l m. elim (c.taken_of l m) [
      | inl p ↦ (let q = s.recovery.taken_only l p in (q.0, inr (q.1, hosts.calm.begin), q.2))
      | inr p ↦ (p.0, inl p.1, p.2)
    ];
    given_up = λ k i up never here. elim up [
      | inl p ↦ (let q = names k i p in subst (λ (z : HostId). In (record { host = z; id = i }) ups) (sym q.0)
          (c.up_all (λ r. never (inr (subst (HasReclaimed past) (sym q.0) r, hosts.calm.begin))) i q.1))
      | inr p ↦ c.up_stay (record { host = k; id = i })
          (s.recovery.given_up k i p.0 (λ r. never (inr (r, hosts.calm.begin))) (λ o. here (inr o)))
    ];
    given_up_only = λ u m. elim (c.up_of u m) [
      | inl p ↦ inr (s.recovery.given_up_only u p, hosts.calm.begin)
      | inr p ↦ inl (subst (λ (k : HostId). GivesUp x.server past a k u.id) (sym p.0) (names_all u.id p.1))
    ];
  }
    where
      its_body : (k : HostId) (e m : ℕ) (d : Body) → a ≡ Took k e m d → b ≡ d
      its_body k e m d p = cc

  stands_noted : (t : Manager) → t.grants ≡ left → t.queue ≡ x.tokens.queue → IsNoted
      → Stands after (record x {
        tokens = t;
        gives = gives;
        recovering = record x.recovering {
          taken = takens;
          given_up = ups;
        };
      })
  stands_noted t e q c = record {
    slots = s.slots;
    hosts = hosts_still past a hosts s.hosts;
    tokens = subst (TokensStand after x.server) (sym e) (tokens_up past x.server h n b ids live quiet not_kept names
        names_all x.tokens.grants left s.tokens w);
    stamps = subst (λ (g : Grants). StampsStand after g x.stamp) (sym e)
        (stamps_up past x.server h n b ids live quiet not_kept names names_all x.tokens.grants left s.tokens w
        s.stamps);
    wants = wants_still past a hosts.calm x.server wants s.wants;
    queue = subst (λ (l : List WantOf). QueueStands after l x.pending) (sym q) (queue_still past a hosts.calm s.queue);
    gives = c.gives_stand;
    changes = changes_still past a hosts.calm (record { dones = λ k e n d p. cc; writes = λ w p. cc })
        (waits_back past a hosts.calm x.server wants) s.changes;
    recovery = recovery_freed c;
  }

-- # Returned

module _ (past : List Doing) (x : Tables) (s : Stands past x) (h : HostId) (n : ℕ) (g : Named) (live : IsLive past h)
    (here : Here x.server past g.fid.fileset n) (t : Manager) (w : IsWithout x.tokens.grants t.grants h g.ids)
    (q : t.queue ≡ x.tokens.queue) where
  abbrev back : Doing
  back = Took h (epoch past) n (Returned g)

  its_named : (k : HostId) (e m : ℕ) (d : Named) → back ≡ Took k e m (Returned d) → (h ≡ k) × (g ≡ d)
  its_named k e m d p = (cc, cc)

  back_names : (k : HostId) (i : TokenId) → GivesUp x.server past back k i → (k ≡ h) × In i g.ids
  back_names k i (inl p) = let r = its_named k (epoch past) p.1.0 p.0 p.1.2.0 in (
    sym r.0,
    subst (λ
        (z : Named). In i z.ids) (sym r.1) p.2,
  )
  back_names k i (inr p) = absurd (let r = p.1.2.0 in cc)

  back_all : (i : TokenId) → In i g.ids → GivesUp x.server past back h i
  back_all i j = inl (g, (n, here, (refl, live)), j)

  gives_back : GivesStand (back ∷ past) x.server x.gives
  gives_back = gives_still past back (hosts_back.calm) x.server
      (record { gives = λ h f d p. let q = p.2.0 in cc; claims = λ h n d p. let q = p.0 in cc }) s.gives
    where
      hosts_back : HostsStill past back
      hosts_back = up_hosts past x.server h n (Returned g) g.ids live ((λ p. cc), (λ p. cc), (λ p. cc))
          (λ k p. cc) back_names back_all

  noted_back : (ups : List GaveUp) → ((HasReclaimed past h → ⊥) → (i : TokenId) → In i g.ids
      → In (record { host = h; id = i }) ups)
      → ((u : GaveUp) → In u ups → In u x.recovering.given_up ⊎ ((u.host ≡ h) × In u.id g.ids))
      → ((u : GaveUp) → In u x.recovering.given_up → In u ups)
      → Stands (back ∷ past) (record x { tokens = t; recovering = record x.recovering { given_up = ups } })
  noted_back ups all of stay = stands_noted past x s h n (Returned g) g.ids live ((λ p. cc), (λ p. cc), (λ p. cc))
      (λ k p. cc) (λ c p. cc)
      back_names back_all t.grants w x.gives x.recovering.taken ups t refl q (record {
        gives_stand = gives_back;
        taken_all = λ k d p never. absurd (let r = p.2.0 in cc);
        taken_of = λ l m. inl m;
        taken_stay = λ l m. m;
        up_all = all;
        up_of = of;
        up_stay = stay;
      })

  pub stands_freed : Stands (back ∷ past) (record x {
    tokens = t;
    recovering = if has_host x.hosts.reclaimed h then x.recovering
        else record x.recovering { given_up = ups_of x.recovering.given_up h g.ids };
  })
  stands_freed = go (has_host x.hosts.reclaimed h) refl
    where
      go : (b : Bool) → has_host x.hosts.reclaimed h ≡ b → Stands (back ∷ past) (record x {
        tokens = t;
        recovering = if b then x.recovering else record x.recovering {
          given_up = ups_of x.recovering.given_up h g.ids;
        };
      })
      go true e = noted_back x.recovering.given_up (λ never. absurd (never (s.hosts.reclaimed h
          (has_in x.hosts.reclaimed h e)))) (λ u m. inl m) (λ u m. m)
      go false e = let u = are_ups x.recovering.given_up h g.ids in
          noted_back (ups_of x.recovering.given_up h g.ids) (λ never. u.all) u.of u.stay

-- # Give-backs

is_it : (h : HostId) (f : FilesetId) (l : LastGive) → l.host ≡ h → l.give.fileset ≡ f → is_for_give h f l ≡ true
is_it h f l p q = and_from (l.host.0 == h.0) (l.give.fileset.0 == f.0)
    (eq-eqb l.host.0 h.0 (ap (λ (z : HostId). z.0) p)) (eq-eqb l.give.fileset.0 f.0 (ap (λ (z : FilesetId). z.0) q))

it_is : (h : HostId) (f : FilesetId) (l : LastGive) → is_for_give h f l ≡ true → (l.host ≡ h) × (l.give.fileset ≡ f)
it_is h f l e = let p = and_parts (l.host.0 == h.0) (l.give.fileset.0 == f.0) e in
    (same_host l.host h p.0, same_fileset l.give.fileset f p.1)

less : (a b : ℕ) → nat_lt a b ≡ true → a < b
less a b e = grind (arith, nat_tests, e)

not_less : (a b : ℕ) → nat_lt a b ≡ false → b ≤ a
not_less a b e = grind (arith, nat_tests, e)

pub last_found : (gives : List LastGive) (h : HostId) (f : FilesetId) → AreLast gives → (l : LastGive) → In l gives
    → l.host ≡ h → l.give.fileset ≡ f → last_give gives h f ≡ l.give.number
last_found gives h f single l m p q = go (find (is_for_give h f) gives) refl
  where
    go : (o : Option LastGive) → find (is_for_give h f) gives ≡ o → option_map_or (λ (z : LastGive). z.give.number)
        (find (is_for_give h f) gives) 0 ≡ l.give.number
    go None e = absurd (none_found (is_for_give h f) gives e l m (is_it h f l p q))
    go (Some k) e =
        let r = found_first (is_for_give h f) gives k e in let i = it_is h f k r.1 in
        ap (λ (o : Option LastGive). option_map_or (λ (z : LastGive). z.give.number) o 0) e
        ∙ ap (λ (z : LastGive). z.give.number) (single k l r.0 m (i.0 ∙ sym p) (i.1 ∙ sym q))

module _ (past : List Doing) (server : ServerId) (gives : List LastGive) (s : GivesStand past server gives)
    (single : AreLast gives) (h : HostId) (n : AppliedGive) where
  -- a give-back is the first of its number where the table says so
  pub is_new : nat_lt (last_give gives h n.fileset) n.number ≡ true → IsApplied server past h n → ⊥
  is_new e a =
      let l = s.applied_all h n a in
      let p = last_found gives h n.fileset single l.0 l.1 l.2 l.3 in
      let q = less (last_give gives h n.fileset) n.number e in let r = l.4 in omega (arith, p, q, r)

  pub kept_last : nat_lt (last_give gives h n.fileset) n.number ≡ false → 0 < n.number
      → (l : LastGive) × In l gives × (l.host ≡ h) × (l.give.fileset ≡ n.fileset) × (n.number ≤ l.give.number)
  kept_last e some = go (find (is_for_give h n.fileset) gives) refl
    where
      go : (o : Option LastGive) → find (is_for_give h n.fileset) gives ≡ o
          → (l : LastGive) × In l gives × (l.host ≡ h) × (l.give.fileset ≡ n.fileset) × (n.number ≤ l.give.number)
      go None e0 = absurd (let z : last_give gives h n.fileset ≡ 0 = ap (λ (o : Option LastGive). option_map_or (λ
          (l : LastGive). l.give.number) o 0) e0 in
          let r = not_less (last_give gives h n.fileset) n.number e in omega (arith, z, r, some))
      go (Some l) e0 =
          let f = found_first (is_for_give h n.fileset) gives l e0 in let i = it_is h n.fileset l f.1 in
          let z : last_give gives h n.fileset ≡ l.give.number = ap (λ (o : Option LastGive). option_map_or (λ
          (l : LastGive). l.give.number) o 0) e0 in
          let r = not_less (last_give gives h n.fileset) n.number e in
          (l, f.0, i.0, i.1, omega (arith, z, r))

  pub was_taken : nat_lt (last_give gives h n.fileset) n.number ≡ false → 0 < n.number → IsApplied server past h n
  was_taken e some = let k = kept_last e some in lower past k.0.host k.0.give k.2 k.3 k.4 (s.applied k.0 k.1)
    where
      lower : (acts : List Doing) (k : HostId) (m : AppliedGive) → k ≡ h → m.fileset ≡ n.fileset → n.number ≤ m.number
          → IsApplied server acts k m → IsApplied server acts h n
      lower [] k m p q l a = elim a [ ]
      lower (b ∷ acts) k m p q l (inl a) =
          let t = subst (λ (z : HostId). TakesOf server acts b z m.fileset (GiveBack a.0)) p a.1 in
          inl (
            a.0,
            subst (λ (f : FilesetId). TakesOf server acts b h f (GiveBack a.0)) q t,
            a.2
                ∙ q,
            (let r = a.3 in omega (arith, l, r)),
          )
      lower (b ∷ acts) k m p q l (inr a) = inr (lower acts k m p q l a)

  pub last_given : AreLast (given gives h n)
  last_given l m i j p q = both (in_parts l rest (entry ∷ []) i) (in_parts m rest (entry ∷ []) j)
    where
      entry : LastGive
      entry = record { host = h; give = n }

      rest : List LastGive
      rest = filter (λ (z : LastGive). not (is_for_give h n.fileset z)) gives

      not_it : (z : LastGive) → In z rest → z.host ≡ h → z.give.fileset ≡ n.fileset → ⊥
      not_it z k a b = let r = in_filter (λ (z : LastGive). not (is_for_give h n.fileset z)) z gives k in
          false≢true (sym (ap not (is_it h n.fileset z a b)) ∙ r.1)

      both : In l rest ⊎ In l (entry ∷ []) → In m rest ⊎ In m (entry ∷ []) → l ≡ m
      both (inl a) (inl b) =
          single l m (in_filter (λ (z : LastGive). not (is_for_give h n.fileset z)) l gives a).0 (in_filter (λ
          (z : LastGive). not (is_for_give h n.fileset z)) m gives b).0 p q
      both (inl a) (inr b) = let e = one_is m entry b in
          absurd (not_it l a (p ∙ ap (λ (z : LastGive). z.host) e) (q ∙ ap (λ (z : LastGive). z.give.fileset) e))
      both (inr a) (inl b) = let e = one_is l entry a in
          absurd (not_it m b (sym p ∙ ap (λ (z : LastGive). z.host) e) (sym q
          ∙ ap (λ (z : LastGive). z.give.fileset) e))
      both (inr a) (inr b) = one_is l entry a ∙ sym (one_is m entry b)

module _ (past : List Doing) (x : Tables) (s : Stands past x) (h : HostId) (n : ℕ) (g : Give) (live : IsLive past h)
    (here : Here x.server past g.fid.fileset n) (some : 0 < g.number) (single : AreLast x.gives) (t : Manager)
    (w : IsWithout x.tokens.grants t.grants h g.ids) (q : t.queue ≡ x.tokens.queue) where
  abbrev gave : Doing
  gave = Took h (epoch past) n (GiveBack g)

  takes : TakesOf x.server past gave h g.fid.fileset (GiveBack g)
  takes = (n, here, (refl, live))

  its_give : (k : HostId) (e m : ℕ) (d : Give) → gave ≡ Took k e m (GiveBack d) → (h ≡ k) × (g ≡ d)
  its_give k e m d p = (cc, cc)

  gave_names : (k : HostId) (i : TokenId) → GivesUp x.server past gave k i → (k ≡ h) × In i g.ids
  gave_names k i (inl p) = absurd (let r = p.1.2.0 in cc)
  gave_names k i (inr p) = let r = its_give k (epoch past) p.1.0 p.0 p.1.2.0 in (
    sym r.0,
    subst (λ
        (z : Give). In i z.ids) (sym r.1) p.2,
  )

  gave_all : (i : TokenId) → In i g.ids → GivesUp x.server past gave h i
  gave_all i j = inr (g, takes, j)

  abbrev entry : LastGive
  entry = record { host = h; give = number_of g }

  abbrev is_first : Bool
  is_first = nat_lt (last_give x.gives h g.fid.fileset) g.number

  now_applied : IsApplied x.server (gave ∷ past) h (number_of g)
  now_applied = inl (g, takes, refl, omega arith)

  -- the last ones cover it, where they cover the earlier ones and have it
  covered : (gives : List LastGive) → ((l : LastGive) → In l gives → (l ≡ entry) ⊎ In l x.gives)
      → ((l : LastGive) → In l x.gives → (m : LastGive) × In m gives × (m.host ≡ l.host) × (m.give.fileset
      ≡ l.give.fileset) × (l.give.number ≤ m.give.number))
      → (m : LastGive) × In m gives × (m.host ≡ h) × (m.give.fileset ≡ g.fid.fileset) × (g.number ≤ m.give.number)
      → GivesStand (gave ∷ past) x.server gives
  covered gives of on has = record {
    applied = λ l i. elim (of l i) [
      | inl e ↦ subst (λ (z : LastGive). IsApplied x.server (gave ∷ past) z.host z.give) (sym e) now_applied
      | inr k ↦ inr (s.gives.applied l k)
    ];
    applied_all = λ k m a. elim a [
      | inl p ↦ (let r = its_give k (epoch past) p.1.0 p.0 p.1.2.0 in (
        has.0,
        has.1,
        has.2 ∙ r.0,
        has.3 ∙ ap (λ (z : Give). z.fid.fileset) r.1 ∙ p.2,
        (let u = p.3 in let v : g.number ≡ p.0.number = ap (λ (z : Give). z.number) r.1 in let o = has.4 in omega
            (arith, u, v, o)),
      ))
      | inr p ↦ (let l = s.gives.applied_all k m p in let r = on l.0 l.1 in
          (r.0, r.1, r.2 ∙ l.2, r.3 ∙ l.3, (let u = l.4 in let v = r.4 in omega (arith, u, v))))
    ];
  }

  gives_gave : GivesStand (gave ∷ past) x.server (if is_first then given x.gives h (number_of g) else x.gives)
  gives_gave = go is_first refl
    where
      go : (b : Bool) → is_first ≡ b → GivesStand (gave ∷ past) x.server (if b then given x.gives h
          (number_of g) else x.gives)
      go true e = covered (given x.gives h (number_of g))
          (λ l i. elim (in_parts l rest (entry ∷ []) i) [
            | inl p ↦ inr (in_filter (λ (z : LastGive). not (is_for_give h g.fid.fileset z)) l x.gives p).0
            | inr p ↦ inl (one_is l entry p)
          ])
          (λ l i. elim (cases_Bool (is_for_give h g.fid.fileset l)) [
            | inl k ↦ (let p = it_is h g.fid.fileset l k in
                let a = last_found x.gives h g.fid.fileset single l i p.0 p.1 in
                let b = less (last_give x.gives h g.fid.fileset) g.number e in
                (entry, in_end entry rest, sym p.0, sym p.1, omega (arith, a, b)))
            | inr k ↦ (
              l,
              in_front l rest (entry ∷ []) (to_filter (λ (z : LastGive). not
                  (is_for_give h g.fid.fileset z)) l x.gives i (ap not k)),
              refl,
              refl,
              omega arith,
            )
          ])
          (entry, in_end entry rest, refl, refl, omega arith)
        where
          rest : List LastGive
          rest = filter (λ (z : LastGive). not (is_for_give h g.fid.fileset z)) x.gives
      go false e = covered x.gives (λ l i. inr i) (λ l i. (l, i, refl, refl, omega arith))
          (kept_last past x.server x.gives s.gives single h (number_of g) e some)

  noted_gave : (takens : List LastGive) (ups : List GaveUp) → ((HasReclaimed past h → ⊥) → In entry takens)
      → ((l : LastGive) → In l takens → In l x.recovering.taken ⊎ (l ≡ entry)) → ((l : LastGive)
      → In l x.recovering.taken → In l takens)
      → ((HasReclaimed past h → ⊥) → (i : TokenId) → In i g.ids → In (record { host = h; id = i }) ups)
      → ((u : GaveUp) → In u ups → In u x.recovering.given_up ⊎ ((u.host ≡ h) × In u.id g.ids))
      → ((u : GaveUp) → In u x.recovering.given_up → In u ups)
      → Stands (gave ∷ past) (record x {
        tokens = t;
        gives = if is_first then given x.gives h (number_of g) else x.gives;
        recovering = record x.recovering { taken = takens; given_up = ups };
      })
  noted_gave takens ups has of stay up_all up_of up_stay = stands_noted past x s h n (GiveBack g) g.ids live
      ((λ p. cc), (λ p. cc), (λ p. cc)) (λ k p. cc) (λ c p. cc)
      gave_names gave_all t.grants w (if is_first then given x.gives h (number_of g) else x.gives) takens ups t refl q
      (record {
        gives_stand = gives_gave;
        taken_all = λ k d p never. let r = its_give k (epoch past) p.0 d p.2.0 in
            subst (λ (z : HostId). In (record { host = z; give = number_of d }) takens) r.0
            (subst (λ (z : Give). In (record { host = h; give = number_of z }) takens) r.1
            (has (λ c. never (subst (HasReclaimed past) r.0 c))));
        taken_of = λ l m. elim (of l m) [
          | inl p ↦ inl p
          | inr p ↦ inr (
            g,
            subst (λ (z : HostId). TakesOf x.server past gave z g.fid.fileset (GiveBack g)) (sym (ap
                (λ (z : LastGive). z.host) p)) takes,
            sym (ap (λ (z : LastGive). z.give) p),
          )
        ];
        taken_stay = stay;
        up_all = up_all;
        up_of = up_of;
        up_stay = up_stay;
      })

  abbrev noted : Bool → Recovering
  noted b = if b then x.recovering else record x.recovering { taken = taking_one x.recovering.taken h (number_of g) }

  pub stands_given : Stands (gave ∷ past) (record x {
    tokens = t;
    gives = if is_first then given x.gives h (number_of g) else x.gives;
    recovering = if has_host x.hosts.reclaimed h then noted (has_host x.hosts.reclaimed h)
        else record (noted (has_host x.hosts.reclaimed h)) {
          given_up = ups_of (noted (has_host x.hosts.reclaimed h)).given_up h g.ids;
        };
  })
  stands_given = go (has_host x.hosts.reclaimed h) refl
    where
      go : (b : Bool) → has_host x.hosts.reclaimed h ≡ b → Stands (gave ∷ past) (record x {
        tokens = t;
        gives = if is_first then given x.gives h (number_of g) else x.gives;
        recovering = if b then noted b else record (noted b) { given_up = ups_of (noted b).given_up h g.ids };
      })
      go true e =
          let was = s.hosts.reclaimed h (has_in x.hosts.reclaimed h e) in
          noted_gave x.recovering.taken x.recovering.given_up (λ never. absurd (never was)) (λ l m. inl m) (λ l m. m)
          (λ never. absurd (never was)) (λ u m. inl m) (λ u m. m)
      go false e =
          let u = are_ups x.recovering.given_up h g.ids in
          let k = are_taken x.recovering.taken h (number_of g) in
          noted_gave (taking_one x.recovering.taken h (number_of g)) (ups_of x.recovering.given_up h g.ids)
          (λ never. k.has) k.of k.stay (λ never. u.all) u.of u.stay

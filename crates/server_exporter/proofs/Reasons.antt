-- What the tables and the store tell of a Change that waits is what the rules say of it.
use Rattle.std.proofs.Common.{◌≡◌, ◌≢◌, ◌⊎◌, ◌==◌, arith, Bool, true, false, ◌&&◌, not, List, [], ◌∷◌, Option, ◌||◌}
use Rattle.std.proofs.Common.{None, Some}
use Rattle.std.proofs.Common.{if◌then◌else◌, inl, inr, refl, sym, ◌∙◌, ap, subst, eqb-true}
use Rattle.std.specs.Prelude.{IsTrue, is_some}
use Rattle.std.specs.List.{list_all}
use Rattle.std.specs.Option.{option_map_or}
use Rattle.std.proofs.lemmas.Bool.{and_from, and_parts, cases_Bool, false≢true}
use Rattle.base_types.specs.Ids.{same_fid}
use Rattle.base_types.specs.declared.ids.Fid.{Fid}
use Rattle.base_types.specs.declared.ids.HostId.{HostId}
use Rattle.base_types.specs.declared.user.User.{User}
use Rattle.tree_answers.specs.declared.tree.Tree.{Tree}
use Rattle.tree_calls.specs.Rosters.{user_of}
use Rattle.tree_calls.specs.declared.reply.Refusal.{Refusal}
use Rattle.tree_calls.specs.declared.reply.Reply.TheVariants.{Refused}
use Rattle.tree_calls.specs.declared.roster.Roster.{Roster}
use Rattle.token_manager.specs.declared.want.Outlook.{Outlook}
use Rattle.token_manager.specs.declared.want.Outlook.TheVariants.{Granted as IsGranted, Refused as IsRefused}
use Rattle.token_manager.specs.declared.want.Outlook.TheVariants.{Waits as HasToWait}
use Rattle.token_types.specs.Conflicts.{blocks}
use Rattle.token_types.specs.declared.token.Need.{Need}
use Rattle.token_types.specs.declared.token.Token.{Token}
use Rattle.message_types.specs.Soundness.{IsDecided as IsDecidedAt}
use Rattle.message_types.specs.declared.asking.Change.{Change as ChangeOf}
use Rattle.run_rules.specs.Doings.{Doing, Granted, NoGrace, Pinned}
use Rattle.need_server.specs.Wants.{want}
use Rattle.run_rules.specs.Past.{In}
use Rattle.run_rules.specs.ServerDecides.{DecidedSo, IsAnew, IsAskedHere, IsMeantSo, IsOfRow, NotRefused}
use Rattle.run_rules.specs.ServerDecides.{RefusedOn, refusal_of}
use Rattle.run_rules.specs.ServerDecides.DecidedSo.{IsRefusedByTable, MeetsPinned}
use Rattle.run_rules.specs.Wants.{CanDecide, CanGrant, CanRefuse, IsQueued, asker, has_effect, is_use, row_needs}
use Rattle.run_rules.specs.declared.applied.Request.TheVariants.{Change as Changes}
use Rattle.run_rules.specs.declared.applied.Wanted.{Wanted}
use Rattle.server_decides.specs.StoreKeeping.{StandsFor}
use Rattle.store_state.specs.declared.state.StoreState.{StoreState}
use Rattle.server_decides.specs.Asking.{Asks, change_needs}
use Rattle.server_decides.proofs.Asking.{changes_are_told}
use Rattle.server_decides.specs.Found.{Found}
use Rattle.server_tables.specs.Listing.{no_grace}
use Rattle.server_tables.specs.Standing.{Stands}
use Rattle.server_tables.specs.declared.pending.Pending.{Pending}
use Rattle.server_tables.specs.declared.tables.Tables.{Tables}
use Rattle.server_tables.proofs.Listed.{is_over, over_is}
use Rattle.server_tables.proofs.Numbered.{one_each}
use Rattle.server_tables.proofs.Outlooks.{outlook_grants, outlook_refuses, outlook_waits}
use Rattle.server_decides.specs.Taking.{Whether}
use Rattle.server_decides.specs.Deciding.{Compared, IsDecision, IsDueOf, accepted_by, due_by, found_on}
use Rattle.server_decides.specs.Deciding.{is_of_row, is_passed, is_waiting, outlook_at}
use Rattle.server_decides.specs.declared.deciding.Decision.{Decision}
use Rattle.server_decides.specs.declared.deciding.Decision.TheVariants.{Anew, Do, Refuse}
use Rattle.server_decides.specs.Serving.{IsServed}
use Rattle.server_decides.proofs.Served.{came_in, decided_asks, effect_parts, host_asks}

-- # Whether a Change wanted what it finds

fid_is : (a b : Fid) → same_fid a b ≡ true → a ≡ b
fid_is a b e =
    let p = and_parts ((a.fileset.0 == b.fileset.0) && (a.anode == b.anode)) (a.unique == b.unique) e in
    let q = and_parts (a.fileset.0 == b.fileset.0) (a.anode == b.anode) p.0 in
    let x : a.fileset.0 ≡ b.fileset.0 = eqb-true a.fileset.0 b.fileset.0 q.0 in
    let y : a.anode ≡ b.anode = eqb-true a.anode b.anode q.1 in
    let z : a.unique ≡ b.unique = eqb-true a.unique b.unique p.1 in
    λ i. record { fileset = record { 0 = x i }; anode = y i; unique = z i }

same_self : (a : Fid) → same_fid a a ≡ true
same_self a = grind arith

abbrev on_file : Fid → Need → Bool
on_file fid need = same_fid need.fid fid

all_on : (fid : Fid) (needs : List Need) → list_all (on_file fid) needs ≡ true → (need : Need) → In need needs
    → need.fid ≡ fid
all_on fid [] e need i = elim i [ ]
all_on fid (n ∷ ns) e need (inl q) =
    ap (λ (z : Need). z.fid) q ∙ fid_is n.fid fid (and_parts (on_file fid n) (list_all (on_file fid) ns) e).0
all_on fid (n ∷ ns) e need (inr i) = all_on fid ns (and_parts (on_file fid n) (list_all (on_file fid) ns) e).1 need i

on_all : (fid : Fid) (needs : List Need) → ((need : Need) → In need needs → need.fid ≡ fid)
    → list_all (on_file fid) needs ≡ true
on_all fid [] f = refl
on_all fid (n ∷ ns) f =
    and_from (on_file fid n) (list_all (on_file fid) ns)
    (subst (λ (z : Fid). same_fid n.fid z ≡ true) (f n (inl refl)) (same_self n.fid))
    (on_all fid ns (λ need i. f need (inr i)))

is_true : (b : Bool) → b ≡ true → IsTrue b
is_true b e = e

true_is : (b : Bool) → IsTrue b → b ≡ true
true_is b t = t

module _ (tree : Tree) (w : Wanted) (c : ChangeOf) (finds : List Need) (row : finds ≡ row_needs tree w.host c)
    (compared : Compared finds w.needs) where
  abbrev is_row : Bool
  is_row = is_of_row c w.needs compared.same

  -- it does
  pub row_of : is_row ≡ true → IsOfRow tree w c
  row_of e =
      let p = and_parts compared.same (not (is_use c.call) || list_all (on_file c.fid) w.needs) e in (
        sym (compared.is.0 (is_true compared.same p.0)) ∙ row,
        λ u need i. all_on c.fid w.needs (of_use (is_use c.call) u (list_all (on_file c.fid) w.needs) p.1) need i,
      )
    where
      of_use : (b : Bool) → b ≡ true → (d : Bool) → (not b || d) ≡ true → d ≡ true
      of_use true u d e = e
      of_use false u d e = absurd (cc)

  -- it doesn't
  pub not_row : is_row ≡ false → IsOfRow tree w c → ⊥
  not_row e r = false≢true (sym e ∙ and_from compared.same (not (is_use c.call) || list_all (on_file c.fid) w.needs)
      (true_is compared.same (compared.is.1 (row ∙ sym r.0)))
      (found (is_use c.call) refl))
    where
      found : (b : Bool) → is_use c.call ≡ b → (not b || list_all (on_file c.fid) w.needs) ≡ true
      found true u = on_all c.fid w.needs (r.1 u)
      found false u = refl

  pub same_row : compared.same ≡ false → w.needs ≢ finds
  same_row e q = false≢true (sym e ∙ true_is compared.same (compared.is.1 (sym q)))

or_not : (b d : Bool) → b ≡ false → (not b || d) ≡ true
or_not true d e = absurd (cc)
or_not false d e = refl

-- one that enters a fileset needs nothing
pub row_none : (tree : Tree) (host : HostId) (c : ChangeOf) → c.enter ≡ true → row_needs tree host c ≡ []
row_none tree host c e = by c.enter e (option_map_or (λ user. want tree user c.call) (user_of tree.roster host) [])
  where
    by : (b : Bool) → b ≡ true → (ns : List Need) → (if b then [] else ns) ≡ []
    by true e ns = refl
    by false e ns = absurd (cc)

-- # A Change that waits

module _ (past : List Doing) (x : Tables) (st : StoreState) (tree : Tree) (z : Stands past x) (s : IsServed x st)
    (k : StandsFor tree st) (p : Pending) (i : In p x.pending) (c : ChangeOf) (is : p.wanted.request ≡ Changes c)
  where
    abbrev w : Wanted
    w = p.wanted

    abbrev outlook : Outlook
    outlook = outlook_at x p.number

    waits : IsQueued past w
    waits = z.wants.pending p i

    single : (a b : Pending) → In a x.pending → In b x.pending → a.number ≡ b.number → a ≡ b
    single = one_each x.pending s.counted.rising

    some_user : (o : Option User) → is_some o ≡ true → (u : User) × (o ≡ Some u)
    some_user None e = absurd (cc)
    some_user (Some u) e = (u, refl)

    pub its_user : (u : User) × (user_of x.roster w.host ≡ Some u)
    its_user = some_user (user_of x.roster w.host)
        (s.users w.host (host_asks x.server x.roster w (came_in x st s p i)))

    abbrev user : User
    user = its_user.0

    meant : IsMeantSo c
    meant = (subst (IsAskedHere x.server past w.moves) is (z.wants.here w waits)).1

    pub asks : Asks tree st w.host user c
    asks = record {
      stands = k;
      known = subst (λ (r : Roster). user_of r w.host ≡ Some user) (sym s.store.roster ∙ k.keeps.roster) its_user.1;
      asked = record {
        decided = subst (λ v. (IsTrue c.enter) ⊎ IsDecidedAt v c.call) (sym s.store.server)
            (decided_asks x.server x.roster w (came_in x st s p i) c is);
        meant = meant;
      };
    }

    pub row : change_needs st w.host user c ≡ row_needs tree w.host c
    row = changes_are_told.needs tree st w.host user c asks

    -- # What can become of it

    pub can_grant : outlook ≡ IsGranted → CanGrant x.server past w
    can_grant e = outlook_grants past x z single p i e

    pub can_refuse : (t : Token) → outlook ≡ IsRefused t → CanRefuse x.server past w
    can_refuse t e = outlook_refuses past x z single p i t e

    can_by : (o : Outlook) → outlook ≡ o → is_waiting o ≡ false → CanDecide x.server past w
    can_by HasToWait e q = absurd (cc)
    can_by IsGranted e q = inl (can_grant e)
    can_by (IsRefused t) e q = inr (can_refuse t e)

    pub can_decide : is_waiting outlook ≡ false → CanDecide x.server past w
    can_decide e = can_by outlook refl e

    cant_by : (o : Outlook) → outlook ≡ o → is_waiting o ≡ true → CanDecide x.server past w → ⊥
    cant_by HasToWait e q = outlook_waits past x z single p i e
    cant_by IsGranted e q = absurd (cc)
    cant_by (IsRefused t) e q = absurd (cc)

    pub cant_decide : is_waiting outlook ≡ true → CanDecide x.server past w → ⊥
    cant_decide e = cant_by outlook refl e

    over_of : CanDecide x.server past w → NoGrace past
    over_of (inl g) = g.over
    over_of (inr r) = r.over

    -- # What is due of it

    abbrev found : Found
    found = found_on st user w.host c

    pub refused_on : (r : Refusal) → found.refusal ≡ Some r → RefusedOn tree w.host c r
    refused_on r e = changes_are_told.refused tree st w.host user c r asks e

    pub not_refused : found.refusal ≡ None → NotRefused tree w.host c
    not_refused e = changes_are_told.accepted tree st w.host user c asks e

    module _ (fresh : Bool) (d : Option Decision) (due : IsDueOf x st p fresh d w.request) where
      its_due : IsDueOf x st p fresh d (Changes c)
      its_due = subst (IsDueOf x st p fresh d) is due

      passed_by : (b : Bool) → is_passed x p fresh ≡ b → Whether b (d ≡ None)
          ((u : User) → user_of x.roster w.host ≡ Some u → IsDecision c w.needs outlook (found_on st u w.host c) d)
          → ((is_passed x p fresh ≡ true) × (d ≡ None))
          ⊎ ((is_passed x p fresh ≡ false) × IsDecision c w.needs outlook found d)
      passed_by true e h = inl (e, h)
      passed_by false e h = inr (e, h user its_user.1)

      pub looked : ((is_passed x p fresh ≡ true) × (d ≡ None))
          ⊎ ((is_passed x p fresh ≡ false) × IsDecision c w.needs outlook found d)
      looked = passed_by (is_passed x p fresh) refl its_due

    -- it isn't passed over, out of a grace period: then it could be decided, or it has just come
    not_passed : (fresh : Bool) → is_passed x p fresh ≡ false → NoGrace past
    not_passed fresh e = by (is_waiting outlook) refl e
      where
        by : (b : Bool) → is_waiting outlook ≡ b → (b && not (fresh && no_grace x.hosts)) ≡ false → NoGrace past
        by false q r = over_of (can_decide q)
        by true q r = over_is past x.hosts z.hosts (both fresh (no_grace x.hosts) r)
          where
            both : (f g : Bool) → not (f && g) ≡ false → g ≡ true
            both true true r = refl
            both true false r = absurd (cc)
            both false g r = absurd (cc)

    -- # Why it is decided so

    module _ (compared : Compared found.needs w.needs) where
      abbrev rest : Option Decision
      rest = accepted_by c w.needs outlook found.needs compared.same

      -- it isn't refused by the table
      module _ (accepted : found.refusal ≡ None) where
        -- and could be decided
        record IsOpen (d : Decision) : Type 0 where
          pub ready : is_waiting outlook ≡ false
          pub enters : c.enter ≡ false
          pub either : ((has_effect c ≡ true) × (compared.same ≡ false) × (d ≡ Anew found.needs))
              ⊎ ((is_of_row c w.needs compared.same ≡ true) × (due_by c outlook ≡ Some d))

        some_is : (a b : Decision) → Some a ≡ Some b → a ≡ b
        some_is a b e = cc

        is_open : (d : Decision) → rest ≡ Some d → IsOpen d
        is_open d e = first (is_waiting outlook || c.enter) refl e
          where
            first : (b : Bool) → (is_waiting outlook || c.enter) ≡ b
                → (if b then None
                else (if has_effect c && not compared.same then Some (Anew found.needs)
                else (if is_of_row c w.needs compared.same then due_by c outlook else None))) ≡ Some d → IsOpen d
            first true q r = absurd (cc)
            first false q r = second (has_effect c && not compared.same) refl r
              where
                ready : (a b : Bool) → (a || b) ≡ false → (a ≡ false) × (b ≡ false)
                ready true b e = absurd (cc)
                ready false b e = (refl, e)

                second : (b : Bool) → (has_effect c && not compared.same) ≡ b
                    → (if b then Some (Anew found.needs)
                    else (if is_of_row c w.needs compared.same then due_by c outlook else None)) ≡ Some d → IsOpen d
                second true q2 r = record {
                  ready = (ready (is_waiting outlook) c.enter q).0;
                  enters = (ready (is_waiting outlook) c.enter q).1;
                  either = inl (
                    (and_parts (has_effect c) (not compared.same) q2).0,
                    not_is compared.same (and_parts (has_effect c) (not compared.same) q2).1,
                    sym (some_is (Anew found.needs) d r),
                  );
                }
                  where
                    not_is : (b : Bool) → not b ≡ true → b ≡ false
                    not_is true e = absurd (cc)
                    not_is false e = refl
                second false q2 r = third (is_of_row c w.needs compared.same) refl r
                  where
                    third : (b : Bool) → is_of_row c w.needs compared.same ≡ b
                        → (if b then due_by c outlook else None) ≡ Some d → IsOpen d
                    third true q3 r = record {
                      ready = (ready (is_waiting outlook) c.enter q).0;
                      enters = (ready (is_waiting outlook) c.enter q).1;
                      either = inr (q3, r);
                    }
                    third false q3 r = absurd (cc)

    -- a refusal's reason
    pub why_refused : (fresh : Bool) (r : Refusal) → IsDueOf x st p fresh (Some (Refuse r)) w.request
        → NoGrace past × DecidedSo x.server tree past w c (Refused r)
    why_refused fresh r due = elim (looked fresh (Some (Refuse r)) due) [
      | inl q ↦ absurd (let e = q.1 in cc)
      | inr q ↦ (not_passed fresh q.0, by q.1.0 found.refusal refl q.1.1)
    ]
      where
        refuse_is : (a b : Refusal) → Some (Refuse a) ≡ Some (Refuse b) → a ≡ b
        refuse_is a b e = cc

        pinned_by : (o : Outlook) → outlook ≡ o → due_by c o ≡ Some (Refuse r)
            → (t : Token) × (outlook ≡ IsRefused t) × (refusal_of c.call ≡ r)
        pinned_by HasToWait e q = absurd (none (has_effect c) q)
          where
            none : (b : Bool) → (if b then Some Do else None) ≡ Some (Refuse r) → ⊥
            none true q = cc
            none false q = cc
        pinned_by IsGranted e q = absurd (none (has_effect c) q)
          where
            none : (b : Bool) → (if b then Some Do else None) ≡ Some (Refuse r) → ⊥
            none true q = cc
            none false q = cc
        pinned_by (IsRefused t) e q = (t, e, refuse_is (refusal_of c.call) r q)

        by : (compared : Compared found.needs w.needs) (o : Option Refusal) → found.refusal ≡ o
            → Some (Refuse r) ≡ option_map_or (λ refusal. Some (Refuse refusal)) o (rest compared)
            → DecidedSo x.server tree past w c (Refused r)
        by compared (Some f) e q =
            let same = refuse_is r f q in
            IsRefusedByTable f (refused_on f e) (ap Refused same)
        by compared None e q =
            let o = is_open compared e (Refuse r) (sym q) in
            elim o.either [
              | inl a ↦ absurd (let n = a.2 in cc)
              | inr a ↦ (let t = pinned_by outlook refl a.1 in
                  MeetsPinned (not_refused e) (row_of tree w c found.needs row compared a.0) (can_refuse t.0 t.1)
                  (ap Refused (sym t.2)))
            ]

    -- it has its effect
    pub why_done : (fresh : Bool) → IsDueOf x st p fresh (Some Do) w.request
        → NoGrace past × (has_effect c ≡ true) × NotRefused tree w.host c × IsOfRow tree w c × CanGrant x.server past w
    why_done fresh due = elim (looked fresh (Some Do) due) [
      | inl q ↦ absurd (let e = q.1 in cc)
      | inr q ↦ (let r = by q.1.0 found.refusal refl q.1.1 in (not_passed fresh q.0, r.0, r.1, r.2, r.3))
    ]
      where
        done_if : (b : Bool) → (if b then Some Do else None) ≡ Some Do → b ≡ true
        done_if true q = refl
        done_if false q = absurd (cc)

        granted_by : (o : Outlook) → outlook ≡ o → is_waiting o ≡ false → due_by c o ≡ Some Do
            → (has_effect c ≡ true) × CanGrant x.server past w
        granted_by HasToWait e r q = absurd (cc)
        granted_by IsGranted e r q = (done_if (has_effect c) q, can_grant e)
        granted_by (IsRefused t) e r q = absurd (cc)

        by : (compared : Compared found.needs w.needs) (o : Option Refusal) → found.refusal ≡ o
            → Some Do ≡ option_map_or (λ refusal. Some (Refuse refusal)) o (rest compared)
            → (has_effect c ≡ true) × NotRefused tree w.host c × IsOfRow tree w c × CanGrant x.server past w
        by compared (Some f) e q = absurd (cc)
        by compared None e q =
            let o = is_open compared e Do (sym q) in
            elim o.either [
              | inl a ↦ absurd (let n = a.2 in cc)
              | inr a ↦ (let g = granted_by outlook refl o.ready a.1 in
                  (g.0, not_refused e, row_of tree w c found.needs row compared a.0, g.1))
            ]

    -- its want is made anew
    pub why_anew : (fresh : Bool) (needs : List Need) → IsDueOf x st p fresh (Some (Anew needs)) w.request
        → NoGrace past × (needs ≡ row_needs tree w.host c)
        × IsAnew x.server tree past w (record w { needs = needs })
    why_anew fresh needs due = elim (looked fresh (Some (Anew needs)) due) [
      | inl q ↦ absurd (let e = q.1 in cc)
      | inr q ↦ (let r = by q.1.0 found.refusal refl q.1.1 in (not_passed fresh q.0, r.0, r.1))
    ]
      where
        no_anew : (o : Outlook) → due_by c o ≡ Some (Anew needs) → ⊥
        no_anew HasToWait q = none (has_effect c) q
          where
            none : (b : Bool) → (if b then Some Do else None) ≡ Some (Anew needs) → ⊥
            none true q = cc
            none false q = cc
        no_anew IsGranted q = none (has_effect c) q
          where
            none : (b : Bool) → (if b then Some Do else None) ≡ Some (Anew needs) → ⊥
            none true q = cc
            none false q = cc
        no_anew (IsRefused t) q = cc

        needs_is : (a b : List Need) → Anew a ≡ Anew b → a ≡ b
        needs_is a b e = cc

        by : (compared : Compared found.needs w.needs) (o : Option Refusal) → found.refusal ≡ o
            → Some (Anew needs) ≡ option_map_or (λ refusal. Some (Refuse refusal)) o (rest compared)
            → (needs ≡ row_needs tree w.host c) × IsAnew x.server tree past w (record w { needs = needs })
        by compared (Some f) e q = absurd (cc)
        by compared None e q =
            let o = is_open compared e (Anew needs) (sym q) in
            elim o.either [
              | inr a ↦ absurd (no_anew outlook a.1)
              | inl a ↦ (let n = needs_is needs found.needs a.2 in (
                n ∙ row,
                record {
                  waits = waits;
                  change = c;
                  request = is;
                  same = refl;
                  effect = a.0;
                  ready = can_decide o.ready;
                  accepted = not_refused e;
                  other = λ u. same_row tree w c found.needs row compared a.1 (u ∙ n);
                },
              ))
            ]

    -- # Nothing is due of it

    none_if : (fresh : Bool) → IsDueOf x st p fresh None w.request → ((is_passed x p fresh ≡ true) → ⊥)
        → (compared : Compared found.needs w.needs)
        × (None ≡ option_map_or (λ refusal. Some (Refuse refusal)) found.refusal (rest compared))
    none_if fresh due not_so = elim (looked fresh None due) [
      | inl q ↦ absurd (not_so q.0)
      | inr q ↦ q.1
    ]

    ready_not : CanDecide x.server past w → is_waiting outlook ≡ true → ⊥
    ready_not d e = cant_decide e d

    waiting_of : (fresh : Bool) → is_passed x p fresh ≡ true → is_waiting outlook ≡ true
    waiting_of fresh e = (and_parts (is_waiting outlook) (not (fresh && no_grace x.hosts)) e).0

    accepts : (compared : Compared found.needs w.needs) (o : Option Refusal) → found.refusal ≡ o
        → None ≡ option_map_or (λ refusal. Some (Refuse refusal)) o (rest compared)
        → (found.refusal ≡ None) × (rest compared ≡ None)
    accepts compared (Some f) e q = absurd (cc)
    accepts compared None e q = (e, sym q)

    -- then it isn't refused, and waits
    left_of : (fresh : Bool) → IsDueOf x st p fresh None w.request → ((is_passed x p fresh ≡ true) → ⊥)
        → (compared : Compared found.needs w.needs) × (found.refusal ≡ None) × (rest compared ≡ None)
    left_of fresh due not_so =
        let n = none_if fresh due not_so in let a = accepts n.0 found.refusal refl n.1 in (n.0, a.0, a.1)

    pub none_refused : (fresh : Bool) → IsDueOf x st p fresh None w.request → (r : Refusal) → RefusedOn tree w.host c r
        → CanDecide x.server past w ⊎ (NoGrace past × (fresh ≡ true)) → ⊥
    none_refused fresh due r refused (inl d) =
        not_refused (left_of fresh due (λ e. ready_not d (waiting_of fresh e))).1 r refused
    none_refused fresh due r refused (inr d) = not_refused (left_of fresh due came).1 r refused
      where
        came : (is_passed x p fresh ≡ true) → ⊥
        came e = false≢true (sym (ap not (and_from fresh (no_grace x.hosts) d.1 (is_over past x.hosts z.hosts d.0)))
            ∙ (and_parts (is_waiting outlook) (not (fresh && no_grace x.hosts)) e).1)

    is_ready : CanDecide x.server past w → is_waiting outlook ≡ false
    is_ready d = elim (cases_Bool (is_waiting outlook)) [ inl e ↦ absurd (ready_not d e) | inr e ↦ e ]

    -- of one that is of its row, and enters nothing
    due_none : (compared : Compared found.needs w.needs) → rest compared ≡ None → is_waiting outlook ≡ false
        → c.enter ≡ false → compared.same ≡ true → is_of_row c w.needs compared.same ≡ true → due_by c outlook ≡ None
    due_none compared e ready enters same row_is =
        by (is_waiting outlook) ready c.enter enters (has_effect c) (is_of_row c w.needs compared.same) row_is
        compared.same same e
      where
        by : (a : Bool) → a ≡ false → (b : Bool) → b ≡ false → (h q : Bool) → q ≡ true → (m : Bool) → m ≡ true
            → (if a || b then None
            else (if h && not m then Some (Anew found.needs) else (if q then due_by c outlook else None))) ≡ None
            → due_by c outlook ≡ None
        by true ae b be h q qe m me r = absurd (cc)
        by false ae true be h q qe m me r = absurd (cc)
        by false ae false be h q qe false me r = absurd (cc)
        by false ae false be h false qe true me r = absurd (cc)
        by false ae false be true true qe true me r = r
        by false ae false be false true qe true me r = r

    -- one with effect that needs something else
    anew_none : (a : Bool) → a ≡ false → (b : Bool) → b ≡ false → (h : Bool) → h ≡ true → (q m : Bool) → m ≡ false
        → (if a || b then None
        else (if h && not m then Some (Anew found.needs) else (if q then due_by c outlook else None))) ≡ None → ⊥
    anew_none true ae b be h he q m me r = cc
    anew_none false ae true be h he q m me r = cc
    anew_none false ae false be false he q m me r = cc
    anew_none false ae false be true he q true me r = cc
    anew_none false ae false be true he q false me r = cc

    pub none_effects : (fresh : Bool) → IsDueOf x st p fresh None w.request → has_effect c ≡ true
        → CanDecide x.server past w → ⊥
    none_effects fresh due effect d =
        let l = left_of fresh due (λ e. ready_not d (waiting_of fresh e)) in
        let f = effect_parts c effect in
        by l.0 l.2 (cases_Bool l.0.same) f.0 f.1
      where
        some_due : (o : Outlook) → is_waiting o ≡ false → due_by c o ≡ None → ⊥
        some_due HasToWait q e = cc
        some_due IsGranted q e = let r = rw effect at e in cc
        some_due (IsRefused t) q e = cc

        by : (compared : Compared found.needs w.needs) → rest compared ≡ None
            → (compared.same ≡ true) ⊎ (compared.same ≡ false) → c.enter ≡ false → is_use c.call ≡ false → ⊥
        by compared e (inl same) enters label =
            some_due outlook (is_ready d) (due_none compared e (is_ready d) enters same
            (and_from compared.same (not (is_use c.call) || list_all (on_file c.fid) w.needs) same
            (or_not (is_use c.call) (list_all (on_file c.fid) w.needs) label)))
        by compared e (inr other) enters label =
            anew_none (is_waiting outlook) (is_ready d) c.enter enters (has_effect c) effect
            (is_of_row c w.needs compared.same) compared.same other e

    pub none_pinned : (fresh : Bool) → IsDueOf x st p fresh None w.request → IsOfRow tree w c
        → CanRefuse x.server past w → ⊥
    none_pinned fresh due of_row d =
        let l = left_of fresh due (λ e. ready_not (inr d) (waiting_of fresh e)) in
        by l.0 l.2 (cases_Bool (is_of_row c w.needs l.0.same)) (cases_Bool c.enter)
      where
        was_granted : (acts : List Doing) (t : Token) → Pinned x.server acts t → Granted x.server acts t
        was_granted [] t g = g
        was_granted (a ∷ acts) t g = g.1

        refused_due : (o : Outlook) → outlook ≡ o → is_waiting o ≡ false → due_by c o ≡ None → ⊥
        refused_due HasToWait e q r = cc
        refused_due IsGranted e q r =
            (can_grant e).free d.pinned.0 (inl (was_granted past d.pinned.0 d.pinned.1)) d.pinned.2
        refused_due (IsRefused t) e q r = cc

        -- one that enters wants nothing
        entering : c.enter ≡ true → ⊥
        entering e =
            let n = row_none tree w.host c e in
            nothing w.needs (of_row.0 ∙ n) d.pinned.2
          where
            nothing : (needs : List Need) → needs ≡ [] → IsTrue (blocks (asker w) needs d.pinned.0) → ⊥
            nothing [] q b = no_block (not (d.pinned.0.host.0 == (asker w).0)) b
              where
                no_block : (a : Bool) → IsTrue (a && false) → ⊥
                no_block true b = cc
                no_block false b = cc
            nothing (m ∷ ns) q b = absurd (cc)

        by : (compared : Compared found.needs w.needs) → rest compared ≡ None
            → (is_of_row c w.needs compared.same ≡ true) ⊎ (is_of_row c w.needs compared.same ≡ false)
            → (c.enter ≡ true) ⊎ (c.enter ≡ false) → ⊥
        by compared e (inr other) enters = not_row tree w c found.needs row compared other of_row
        by compared e (inl row_is) (inl enters) = entering enters
        by compared e (inl row_is) (inr enters) =
            refused_due outlook refl (is_ready (inr d)) (due_none compared e (is_ready (inr d)) enters
            (and_parts compared.same (not (is_use c.call) || list_all (on_file c.fid) w.needs) row_is).0 row_is)

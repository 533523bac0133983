-- The step of a lapse meets the rules, and its tables stand for it.
use Rattle.std.proofs.Common.{◌≡◌, ◌⊎◌, ℕ, Bool, true, false, ◌&&◌, not, List, [], ◌∷◌, ◌++◌, map}
use Rattle.std.proofs.Common.{length, inl, inr, refl, sym, ◌∙◌, ap, subst, arith}
use Rattle.std.proofs.lemmas.Bool.{cases_Bool, false≢true}
use Rattle.base_types.specs.declared.ids.HostId.{HostId}
use Rattle.base_types.specs.declared.ids.ServerId.{ServerId}
use Rattle.base_types.specs.declared.ids.Node.TheVariants.{Server}
use Rattle.tree_answers.specs.declared.tree.Tree.{Tree}
use Rattle.tree_calls.specs.declared.roster.Roster.{Roster}
use Rattle.message_types.specs.Soundness.{IsHost}
use Rattle.message_types.specs.declared.message.Body.{Body}
use Rattle.message_types.specs.declared.message.Body.TheVariants.{Bye, Change, Done, Down, GiveBack, Gone, Hello}
use Rattle.message_types.specs.declared.message.Body.TheVariants.{Reclaim, Reclaimed, Restarted, Revoke}
use Rattle.message_types.specs.declared.message.Message.{Message}
use Rattle.message_types.specs.declared.tokens.Revoke.{Revoke as RevokeOf}
use Rattle.script_lines.specs.declared.script.Script.{Script}
use Rattle.token_table.specs.Marks.{is_pinned, is_revoked}
use Rattle.token_table.specs.Tables.{Table}
use Rattle.token_types.specs.declared.token.Token.{Token}
use Rattle.token_types.specs.declared.token.TokenId.{TokenId}
use Rattle.run_rules.specs.Doings.{Doing, Granted, HasReclaimed, HeardNow, IsLive, Pinned, SentNow, TakenNow}
use Rattle.run_rules.specs.Doings.{after_step, sending}
use Rattle.run_rules.specs.Doings.Doing.{Reserves}
use Rattle.run_rules.specs.Kept.{filesets_kept}
use Rattle.run_rules.specs.Past.{EachInTurn, EachOnce, In, appended}
use Rattle.run_rules.specs.ServerDue.{ServerAnswers, ServerDue}
use Rattle.run_rules.specs.ServerMay.{IsOwed, MaySend, OnlyAnswers, ServerMay}
use Rattle.run_rules.specs.ServerTokens.{ServerTokens}
use Rattle.run_rules.specs.Steps.{bare}
use Rattle.run_rules.specs.declared.step.Cause.TheVariants.{Lapse}
use Rattle.run_rules.specs.declared.step.Step.{Step}
use Rattle.run_tokens.specs.ServerRest.{ServerMeets}
use Rattle.server_tables.specs.Listing.{has_host, is_live}
use Rattle.server_tables.specs.Answers.{AreLastChanges}
use Rattle.server_tables.specs.Gives.{AreLast}
use Rattle.server_tables.specs.Places.{is_of}
use Rattle.server_tables.specs.Standing.{Stands, tokens_of}
use Rattle.server_tables.specs.declared.hosts.Hosts.{Hosts}
use Rattle.server_tables.specs.declared.tables.Tables.{Tables}
use Rattle.server_tables.proofs.Granting.{in_back}
use Rattle.server_tables.proofs.Greeting.{in_front, in_parts}
use Rattle.server_tables.proofs.Hailing.{hail, in_hails, once_hailed, sends_hailed, stands_hailed, to_hails}
use Rattle.server_tables.proofs.Hailing.{tokens_hailed}
use Rattle.server_tables.proofs.Idle.{idle, no_words, reserves_nothing}
use Rattle.server_tables.proofs.Lapsing.{MayAgainAll, again_names}
use Rattle.server_tables.proofs.Listed.{has_in, in_has, is_live_all, live_is}
use Rattle.server_tables.proofs.Making.{after_both}
use Rattle.server_tables.proofs.Quiet.{reserves_may}
use Rattle.server_tables.proofs.Waiting.{Asking, MayNameAll, asked, asked_all, in_revokes, its_ask, once_all, revoke}
use Rattle.server_tables.proofs.Waiting.{server_is_all, tokens_may_all}
use Rattle.server_tables.proofs.Without.{in_filter, to_filter}
use Rattle.server_decides.specs.Hailing.{needs_hail, to_hail}
use Rattle.server_exporter.specs.Machines.{FollowsAlone, IsAt, IsQuiet, MeetsAlone}
use Rattle.server_decides.specs.Revoking.{askings, lapse_step, lapsing, owed}
use Rattle.server_exporter.specs.declared.exporter.Exporter.{Exporter}
use Rattle.server_exporter.proofs.Resting.{once_filter}
use Rattle.server_exporter.proofs.Lapses.{IsSo, again_all, again_each, all_owed, asked_all_is, asks_of, groups_apart}
use Rattle.server_exporter.proofs.Lapses.{in_turn_both, is_in_owed, names_each, once_both, pins_all, revokes_are}
use Rattle.server_exporter.proofs.Lapses.{sending_append, so_all, so_hailed, so_still, table_all, was_marked}

module _ (start : Tree) (steps : List Step) (past : List Doing) (x : Tables)
    (z : IsSo past (filesets_kept start x.server steps) x)
    (o : EachOnce x.hosts.listed)
    (homes : (t : Token) → In t (tokens_of x.tokens.grants) → is_of x.server t.fid.fileset ≡ true)
    (one : (t u : Token) → In t (tokens_of x.tokens.grants) → In u (tokens_of x.tokens.grants) → t.id ≡ u.id → t
    ≡ u) where
  s : Stands past x
  s = z.tables

  abbrev tree : Tree
  tree = filesets_kept start x.server steps

  abbrev hs : List HostId
  hs = to_hail x

  abbrev rs : List Asking
  rs = asks_of (askings x.stamp (owed x))

  each : (h : HostId) → In h hs → IsLive past h × (HasReclaimed past h → ⊥)
  each h m =
      let p = in_filter (needs_hail x) h x.hosts.listed m in
      let q = parts (is_live x.hosts h) (has_host x.hosts.reclaimed h) p.1 in (
        live_is past x.hosts s.hosts h q.0,
        λ r. false≢true (sym q.1
            ∙ in_has x.hosts.reclaimed h (s.hosts.reclaimed_all h r)),
      )
    where
      parts : (a b : Bool) → (a && not b) ≡ true → (a ≡ true) × (b ≡ false)
      parts true false e = (refl, refl)
      parts true true e = absurd (false≢true e)
      parts false b e = absurd (false≢true e)

  all : (h : HostId) → IsLive past h → (HasReclaimed past h → ⊥) → In h hs
  all h l never = to_filter (needs_hail x) h x.hosts.listed (s.hosts.listed_all h l.0)
      (elim (cases_Bool (has_host x.hosts.reclaimed h)) [
        | inl e ↦ absurd (never (s.hosts.reclaimed h (has_in x.hosts.reclaimed h e)))
        | inr e ↦ both (is_live x.hosts h) (has_host x.hosts.reclaimed h) (is_live_all past x.hosts s.hosts h l) e
      ])
    where
      both : (a b : Bool) → a ≡ true → b ≡ false → (a && not b) ≡ true
      both true false e d = refl
      both true true e d = absurd (false≢true (sym d))
      both false b e d = absurd (false≢true e)

  once : EachOnce hs
  once = once_filter (needs_hail x) x.hosts.listed o

  abbrev hailed : List Doing
  hailed = appended (sending (map (hail x) hs)) past

  sh : Stands hailed x
  sh = stands_hailed past x hs s

  may : MayAgainAll hailed x rs
  may = again_each (length (owed x)) hailed x (owed x) sh (all_owed past tree x s homes one)

  names : MayNameAll hailed x rs
  names = again_names hailed x rs may

  apart : (q p : Asking) (i : TokenId) → In q rs → In p rs → q.0 ≡ p.0 → In i q.2.ids → In i p.2.ids → q.2 ≡ p.2
  apart q p i a b e c d = groups_apart (length (owed x)) x.stamp (owed x)
      (λ u v m n. one u v ((all_owed past tree x s homes one).there u m)
      ((all_owed past tree x s homes one).there v n)) q p i a b c d

  abbrev y : Tables
  y = asked_all x rs

  abbrev ms : List Message
  ms = map (hail x) hs ++ map (revoke x) rs

  abbrev step : Step
  step = record (bare (Server x.server) Lapse) { sent = ms }

  abbrev told : List Doing
  told = appended (sending (map (revoke x) rs)) hailed

  is_told : told ≡ appended (sending ms) past
  is_told = sym (ap (λ (l : List Doing). appended l past) (sending_append (map (hail x) hs) (map (revoke x) rs))
      ∙ after_both (sending (map (hail x) hs)) (sending (map (revoke x) rs)) past)

  so_told : IsSo told tree y
  so_told = so_all hailed tree x rs names (so_hailed past tree x hs z)

  pub so_lapsed : IsSo (after_step step past) tree y
  so_lapsed = subst (λ (l : List Doing). IsSo (Reserves [] ∷ l) tree y) is_told
      (so_still told tree y (Reserves [])
      (idle y.server y.stamp told (Reserves []) reserves_nothing (no_words told)) (λ h e n r p. cc) so_told)

  ends : IsQuiet x.server tree (after_step step past)
  ends = subst (λ (v : ServerId). IsQuiet v tree (after_step step past)) (server_is_all x rs) so_lapsed.quiet

  named : (t : Token) → In t (tokens_of y.tokens.grants) → is_revoked y.tokens.grants.notes t.id ≡ true
      → is_pinned y.tokens.grants.notes t.id ≡ false → (q : Asking) × In q rs × (q.0 ≡ t.host) × In t.id q.2.ids
  named t i r p =
      let was = subst (λ (w : Table). In t w.tokens) (table_all x rs) i in
      let marked = was_marked (length (owed x)) x (owed x) (all_owed past tree x s homes one) t.id r in
      names_each (length (owed x)) x.stamp (owed x) (omega arith) t
      (is_in_owed past tree x s homes one t was marked (sym (pins_all x rs t.id) ∙ p))

  -- what is said is one or the other
  what : (h : HostId) (d : Body) → SentNow step h d → (In h hs × (Restarted ≡ d))
      ⊎ ((q : Asking) × In q rs × (q.0 ≡ h) × (Revoke q.2 ≡ d))
  what h d w = elim (in_parts w.0 (map (hail x) hs) (map (revoke x) rs) w.1) [
    | inl i ↦ (let q = in_hails x hs w.0 i in
        inl (
          subst (λ (k : HostId). In k hs) (sym (ap (λ (n : Message). n.host) q.2) ∙ w.2) q.1,
          sym (ap (λ (n : Message). n.body) q.2) ∙ w.3,
        ))
    | inr i ↦ (let q = in_revokes x rs w.0 i in inr (
      q.0,
      q.1,
      sym (ap (λ (n : Message). n.host) q.2)
          ∙ w.2,
      sym (ap (λ (n : Message). n.body) q.2) ∙ w.3,
    ))
  ]

  neither : (h : HostId) (d : Body) → (Restarted ≡ d → ⊥) → ((r : RevokeOf) → Revoke r ≡ d → ⊥) → SentNow step h d → ⊥
  neither h d p q w = elim (what h d w) [ inl k ↦ p k.1 | inr k ↦ q k.0.2 k.3 ]

  revoked : (h : HostId) (r : RevokeOf) → SentNow step h (Revoke r) → (q : Asking) × In q rs × (q.0 ≡ h) × (q.2 ≡ r)
  revoked h r w = elim (what h (Revoke r) w) [
    | inl k ↦ absurd (let p = k.1 in cc)
    | inr k ↦
        (k.0, k.1, k.2, its_ask k.0.2 r k.3)
  ]

  unheard : (h : HostId) (d : Body) → HeardNow step h d → ⊥
  unheard h d w = let p = w.1 in cc

  untaken : (h : HostId) (n : ℕ) (d : Body) → TakenNow past step h n d → ⊥
  untaken h n d t = let p = t.0.1 in cc

  answers : ServerAnswers x.server past step
  answers = record {
    hello_old = λ h w. absurd (unheard h Hello w);
    hello = λ h w. absurd (unheard h Hello w);
    bye = λ h w. absurd (unheard h Bye w);
    late = λ h n p. absurd (cc);
    restarted = λ l h p. absurd (cc);
    restarted_again = λ h p lives never. (
      hail x h,
      in_front (hail x h) (map (hail x) hs) (map (revoke x) rs) (to_hails x hs h (all h lives never)),
      refl,
      refl,
    );
    restarted_only = λ h w. elim (what h Restarted w) [
      | inl k ↦ (let p = each h k.0 in (p.0, inr (inr (inr (refl, p.1)))))
      | inr k ↦ absurd (let p = k.3 in cc)
    ];
    gone = λ h n g t. absurd (untaken h n (GiveBack g) t);
    gone_only = λ h n w. absurd (neither h (Gone n) (λ p. cc) (λ r p. cc) w);
    claim_now = λ h n claim took never l have. absurd (z.quiet.claims h n claim took never l have);
    claim_again = λ h n claim t. absurd (untaken h n (Reclaim claim) t);
  }

  only_lapse : OnlyAnswers past step
  only_lapse = record {
    bye_only = λ h w. absurd (neither h Bye (λ p. cc) (λ r p. cc) w);
    reclaimed_only = λ h r w. absurd (neither h (Reclaimed r) (λ p. cc) (λ o p. cc) w);
  }

  may_lapse : (script : Script) → ServerMay script start x.server steps past step
  may_lapse script = record {
    tokens = record {
      writes = tt;
      admits = tt;
      sends = subst (λ (l : List Doing). EachInTurn (ServerTokens x.server) l past)
          (sym (sending_append (map (hail x) hs) (map (revoke x) rs)))
          (in_turn_both (ServerTokens x.server) (sending (map (hail x) hs)) (sending (map (revoke x) rs)) past
          (tokens_hailed past x hs s) (tokens_may_all hailed x rs sh names));
      reserves = reserves_may x.server (appended (sending ms) past);
    };
    no_host = record { causes = (λ p. cc, λ p. cc); does_none = (refl, refl, refl, refl, refl, refl, refl) };
    answers = only_lapse;
    works = record {
      applies = record {
        given = λ h g f. absurd (untaken h f.0.0 (GiveBack g) f.0.1);
        down = λ h f. absurd (unheard h Down f.0);
        else_none = λ a b. refl;
        decided = refl;
        reserves = λ t i. elim i [ ];
      };
      decides = tt;
      sends = subst (λ (l : List Doing). EachInTurn (MaySend x.server (filesets_kept start x.server steps) step) l past)
          (sym (sending_append (map (hail x) hs) (map (revoke x) rs)))
          (in_turn_both (MaySend x.server (filesets_kept start x.server steps) step) (sending (map (hail x) hs))
          (sending (map (revoke x) rs)) past
          (sends_hailed (filesets_kept start x.server steps) step past x hs)
          (again_all (filesets_kept start x.server steps) step refl hailed x rs sh may));
    };
  }

  still_owed : (t : Token) → IsOwed x.server (after_step step past) t → (r : RevokeOf) × SentNow step t.host (Revoke r)
      × In t.id r.ids
  still_owed t o =
      let w = so_lapsed.tables in
      let i = w.tokens.granted_all t (subst (λ (v : ServerId). Granted v (after_step step past) t)
      (sym (server_is_all x rs)) o.granted) in
      let q = named t i (w.stamps.revoked_all t i o.revoked) (elim (cases_Bool (is_pinned y.tokens.grants.notes t.id)) [
        | inl e ↦ absurd (o.unpinned (subst (λ (v : ServerId). Pinned v (after_step step past) t) (server_is_all x rs)
            (w.tokens.pinned t i e)))
        | inr e ↦ e
      ]) in (
        q.0.2,
        (
          revoke x q.0,
          in_back (revoke x q.0) (map (hail x) hs) (map (revoke x) rs) (to_revokes rs q.0 q.1),
          q.2,
          refl,
        ),
        q.3,
      )
    where
      to_revokes : (qs : List Asking) (q : Asking) → In q qs → In (revoke x q) (map (revoke x) qs)
      to_revokes [] q i = elim i [ ]
      to_revokes (r ∷ qs) q (inl e) = inl (ap (revoke x) e)
      to_revokes (r ∷ qs) q (inr i) = inr (to_revokes qs q i)

  due_lapse : (script : Script) → ServerDue script start x.server steps past step
  due_lapse script = record {
    lines = record { bare = λ n p. absurd (cc); restarts = λ n p. absurd (cc) };
    answers = answers;
    decided = record {
      news = λ h n r f. absurd (let p = f.taken.0.1 in cc);
      refused = λ w c refusal waits is so f. elim f [
        | inl d ↦ z.rested.refused w c refusal waits is so d
        | inr g ↦
            (let p = g.1.taken.0.1 in cc)
      ];
      effects = z.rested.effects;
      pinned = z.rested.pinned;
    };
    sent = record {
      once = once_both (map (hail x) hs) (map (revoke x) rs) (once_hailed x hs once) (once_all hailed x rs names)
          (λ m i j. let p = in_hails x hs m i in let q = in_revokes x rs m j in let e : Restarted
          ≡ Revoke q.0.2 = sym (ap (λ (n : Message). n.body) p.2) ∙ ap (λ (n : Message). n.body) q.2 in cc);
      revokes_once = λ h r o i one two a b.
          let p = revoked h r one in
          let q = revoked h o two in
          sym p.3 ∙ apart p.0 q.0 i p.1 q.1 (p.2
          ∙ sym q.2) (subst (λ (k : RevokeOf). In i k.ids) (sym p.3) a)
          (subst (λ (k : RevokeOf). In i k.ids) (sym q.3) b) ∙ q.3;
      written = λ w i. elim i [ ];
      repeats = λ h n c d f. absurd (untaken h n (Change c) f);
      dones_only = λ h d w. absurd (neither h (Done d) (λ p. cc) (λ r p. cc) w);
      grants = ends.grants;
      uses = ends.uses;
      others = ends.others;
      enters = ends.enters;
      revokes = ends.asked;
      revokes_again = λ t p o. still_owed t o;
    };
  }

  pub meets_lapse : (script : Script) → ServerMeets script start x.server steps past step
  meets_lapse script = record { may = may_lapse script; due = due_lapse script }

so_of : (past : List Doing) (kept : Tree) (x : Exporter) → x.rested ≡ true → IsAt past kept x → IsSo past kept x.tables
so_of past kept x r z = record {
  tables = z.tables;
  answered = z.answered;
  claims = z.claims;
  told = z.told;
  quiet =
      z.quiet;
  rested =
      z.rested r;
}

-- the step by the calls is that of the lemmas
step_is : (x : Tables) → lapse_step x
    ≡ record (bare (Server x.server) Lapse) {
      sent =
          map (hail x) (to_hail x) ++ map (revoke x) (asks_of (askings x.stamp (owed x)));
    }
step_is x = ap (λ (ms : List Message). record (bare (Server x.server) Lapse) { sent = map (hail x) (to_hail x) ++ ms })
    (revokes_are x (askings x.stamp (owed x)))

tables_are : (x : Tables) → (lapsing x).tables ≡ asked_all x (asks_of (askings x.stamp (owed x)))
tables_are x = asked_all_is x (askings x.stamp (owed x))

abbrev pub AreNumbered : Tables → Type 0
AreNumbered x = (t u : Token) → In t (tokens_of x.tokens.grants) → In u (tokens_of x.tokens.grants) → t.id ≡ u.id → t
    ≡ u

pub lapse_meets : (x : Exporter) (s : Step) → x.rested ≡ true → AreNumbered x.tables → s ≡ lapse_step x.tables
    → MeetsAlone x s
unfolding MeetsAlone
lapse_meets x s r one e = subst (MeetsAlone x) (sym (e ∙ step_is x.tables)) (λ script start steps past z.
    meets_lapse start steps past x.tables
    (so_of past (filesets_kept start x.tables.server steps) x r z) z.once z.homes one script)

hosts_all : (x : Tables) (rs : List Asking) → (asked_all x rs).hosts ≡ x.hosts
hosts_all x [] = refl
hosts_all x (r ∷ rs) = hosts_all (asked x r.2) rs

roster_all : (x : Tables) (rs : List Asking) → (asked_all x rs).roster ≡ x.roster
roster_all x [] = refl
roster_all x (r ∷ rs) = roster_all (asked x r.2) rs

gives_all : (x : Tables) (rs : List Asking) → (asked_all x rs).gives ≡ x.gives
gives_all x [] = refl
gives_all x (r ∷ rs) = gives_all (asked x r.2) rs

pending_all : (x : Tables) (rs : List Asking) → (asked_all x rs).pending ≡ x.pending
pending_all x [] = refl
pending_all x (r ∷ rs) = pending_all (asked x r.2) rs

changes_all : (x : Tables) (rs : List Asking) → (asked_all x rs).changes ≡ x.changes
changes_all x [] = refl
changes_all x (r ∷ rs) = changes_all (asked x r.2) rs

pub lapse_follows : (x y : Exporter) (s : Step) → x.rested ≡ true → AreNumbered x.tables → s ≡ lapse_step x.tables
    → y ≡ record x { tables = (lapsing x.tables).tables } → FollowsAlone x s y
unfolding FollowsAlone
lapse_follows x y s r one e f = subst (λ (t : Step). FollowsAlone x t y) (sym (e ∙ step_is x.tables))
    (subst (FollowsAlone x the_step) (sym (f ∙ ap (λ (w : Tables). record x { tables = w }) (tables_are x.tables)))
    (λ start steps past z.
    let so = so_lapsed start steps past x.tables
    (so_of past (filesets_kept start x.tables.server steps) x r z) z.once z.homes one in
    let same = server_is_all x.tables the_asks in
    record {
      tables = so.tables;
      once = subst (λ (h : Hosts). EachOnce h.listed) (sym (hosts_all x.tables the_asks)) z.once;
      known = λ h i. subst (λ (r : Roster). IsHost r h) (sym (roster_all x.tables the_asks))
          (z.known h (subst (λ (k : Hosts). In h k.listed) (hosts_all x.tables the_asks) i));
      gives = subst AreLast (sym (gives_all x.tables the_asks)) z.gives;
      changes = subst AreLastChanges (sym (changes_all x.tables the_asks)) z.changes;
      enters = λ p c i. z.enters p c (subst (In p) (pending_all x.tables the_asks) i);
      homes = λ t m. subst (λ (v : ServerId). is_of v t.fid.fileset
          ≡ true) (sym same) (z.homes t (subst (λ (w : Table). In t w.tokens) (table_all x.tables the_asks) m));
      answered = so.answered;
      claims = so.claims;
      told = so.told;
      quiet = so.quiet;
      rested = λ _. so.rested;
    }))
  where
    the_asks : List Asking
    the_asks = asks_of (askings x.tables.stamp (owed x.tables))

    the_step : Step
    the_step = record (bare (Server x.tables.server) Lapse) {
      sent =
          map (hail x.tables) (to_hail x.tables) ++ map (revoke x.tables) the_asks;
    }
